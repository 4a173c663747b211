-- 01, `is_empty` (fresh packets go along the transitions of their state): what the walk in code asks and promises.
use Rattle.std.specs.Prelude.{List, map, ℕ, ◌/◌, ◌<◌, length, if◌then◌else◌, Result, IfOk}
use Rattle.common.specs.Outcome.{Step, return, ◌>>=◌}
use Rattle.refusal.specs.declared.Refusal.{Refusal}
use Rattle.netkat_steps.specs.ListSteps.{edge}
use Rattle.netkat_steps.specs.Handles as Handles
use Rattle.netkat_steps.specs.Handles.{Link, Entry}
use Rattle.sp_steps.specs.Model as Sp
use Rattle.sp_steps.specs.Wf as SpLaws
use Rattle.spp_steps.specs.ImageModel as Images
use Rattle.aut_steps.specs.Tables.{Limits as StepLimits}
use Rattle.aut_delta_steps.specs.Delta.{list_at}
use Rattle.aut_delta_stage.specs.OnTables.{store_in}
use Rattle.aut_query_steps.specs.Tables.{Tables, making_sets}
use Rattle.aut_query_steps.specs.Search.{link, machine}
use Rattle.aut_query_stage.specs.Lent.{tables_in, GoesQuery}
use Rattle.aut_states.specs.Clauses.{limits_of}
use Rattle.aut_states.specs.declared.Config.{Config}
use Rattle.aut_relations.specs.declared.Aut.{Aut as Lent}
use Rattle.aut_sets.specs.Lent.{sets_in}
use Rattle.aut_query_calls.specs.Working.{clear_in, Working, WorkingIn, EdgeIn, ListIn}
use Rattle.aut_query_calls.specs.Working.{Unwritten}
use Rattle.aut_empty_words.specs.Words.{entries_of, Stack}

-- the search with the pending entries that are lent
abbrev pub search_in : Config → Lent → Handles.Machine
search_in k x = machine k.fields (limits_of k.limits) (length x.pending.now / 2)

-- A walk that does the steps o: packet nodes and pending entries may be new. It answers how many entries there are.
pub record Walks (k : Config) (o : Step Tables (List (Entry ℕ))) (x : Lent) (r : Result ℕ Refusal) (y : Lent) : Type 0 where
  pub post : GoesQuery k 0 0 clear_in (λ τ es. Unit) (entries_of y.pending.now) o x r y
  pub held : IfOk r (λ m. Working k.fields k.limits (tables_in y) y.scratch.now × Stack k.fields (clear_in y) y.pending.now m)

-- ---- one transition

abbrev pub along : ℕ → StepLimits → ℕ → ℕ → Link ℕ → List (Entry ℕ) → Step Tables (List (Entry ℕ))
along N L lent fresh e pending = making_sets (Images.push N N fresh e.label) >>= λ next. if Sp.is_zero N next then return pending else Handles.put (machine N L lent) e.target next pending

-- fresh packets at hand, n pending entries, and an edge of these tables
pub record FollowAsked (k : Config) (x : Lent) (n fresh target label : ℕ) : Type 0 where
  pub working : WorkingIn k x
  pub stack : Stack k.fields (clear_in x) x.pending.now n
  pub at : SpLaws.ValidAt (sets_in x) k.fields fresh
  pub edge : EdgeIn k.fields (clear_in x) (edge target label)

abbrev pub Follows : Config → (n fresh target label : ℕ) → Lent → Result ℕ Refusal → Lent → Type 0
Follows k n fresh target label x r y = Walks k (along k.fields (limits_of k.limits) (length x.pending.now / 2) fresh (record { target = target; label = label }) (entries_of x.pending.now n)) x r y

-- ---- the list of a state

-- the fresh packets of state i
pub record SpreadAsked (k : Config) (x : Lent) (n i fresh : ℕ) : Type 0 where
  pub working : WorkingIn k x
  pub stack : Stack k.fields (clear_in x) x.pending.now n
  pub at : SpLaws.ValidAt (sets_in x) k.fields fresh
  pub has : i < x.states.count

-- .. whose list is stored
pub record WalkAsked (k : Config) (x : Lent) (n i fresh : ℕ) : Type 0 where
  pub asked : SpreadAsked k x n i fresh
  pub list : ListIn k.fields i (clear_in x) (list_at (store_in x) i)

abbrev pub WalksAll : Config → (n i fresh : ℕ) → Lent → Result ℕ Refusal → Lent → Type 0
WalksAll k n i fresh x r y = Walks k (Handles.walk (search_in k x) fresh (map link (list_at (store_in x) i)) (entries_of x.pending.now n)) x r y

-- ---- the list, and the walk

abbrev pub spread_of : ℕ → StepLimits → ℕ → ℕ → ℕ → List (Entry ℕ) → Step Tables (List (Entry ℕ))
spread_of N L lent i fresh pending = (machine N L lent).delta i >>= λ list. Handles.walk (machine N L lent) fresh list pending

-- words 8 to 11 are not written
pub record Spreads (k : Config) (n i fresh : ℕ) (x : Lent) (r : Result ℕ Refusal) (y : Lent) : Type 0 where
  pub post : GoesQuery k 0 1088 clear_in (λ τ es. Unit) (entries_of y.pending.now) (spread_of k.fields (limits_of k.limits) (length x.pending.now / 2) i fresh (entries_of x.pending.now n)) x r y
  pub held : IfOk r (λ m. Working k.fields k.limits (tables_in y) y.scratch.now × Stack k.fields (clear_in y) y.pending.now m × Unwritten (tables_in x) (tables_in y))
