-- 01, "Lent tables" (state word 8) and `is_empty` (a pair): how the search stands in the tables between two pairs, and what the code of a pair with fresh packets asks and promises.
use Rattle.std.specs.Prelude.{◌≡◌, List, ℕ, ◌+◌, ◌*◌, ◌/◌, ◌≤◌, ◌<◌, length, get_or, Option, Some, None, Result, IfOk}
use Rattle.refusal.specs.declared.Refusal.{Refusal}
use Rattle.netkat_steps.specs.Handles as Handles
use Rattle.netkat_steps.specs.Handles.{goes, found}
use Rattle.sp_steps.specs.Wf as SpLaws
use Rattle.aut_query_steps.specs.Tables.{Tables}
use Rattle.aut_query_steps.specs.Search.{machine}
use Rattle.aut_query_stage.specs.Lent.{tables_in, GoesQuery}
use Rattle.aut_states.specs.Clauses.{limits_of}
use Rattle.aut_states.specs.declared.Config.{Config}
use Rattle.aut_states.specs.declared.Limits.{Limits}
use Rattle.aut_free.specs.Clear.{clear_tables}
use Rattle.aut_relations.specs.declared.Aut.{Aut as Lent}
use Rattle.aut_sets.specs.Lent.{sets_in}
use Rattle.aut_query_calls.specs.Working.{clear_in, Working}
use Rattle.aut_empty_words.specs.Words.{entries_of, seen_in, Stack}
pub use Rattle.aut_empty_walk.specs.Clauses.{search_in}

-- words 9 to 11 of the states are 0
abbrev pub Spare : List ℕ → Type 0
Spare st = (x w : ℕ) → 9 ≤ w → w < 12 → get_or st (12 * x + w) 0 ≡ 0

-- between two turns
pub record Seeking (N : ℕ) (l : Limits) (σ : Tables) (s p : List ℕ) (n : ℕ) : Type 0 where
  pub working : Working N l σ s
  pub stack : Stack N (clear_tables σ) p n
  pub seen : (x : ℕ) → SpLaws.ValidAt σ.sets N (seen_in N σ.base.aut.states.words x)
  pub spare : Spare σ.base.aut.states.words

-- at the end, with n entries that are left
pub record Over (N : ℕ) (l : Limits) (σ : Tables) (s p : List ℕ) (n : ℕ) : Type 0 where
  pub working : Working N l σ s
  pub spare : Spare σ.base.aut.states.words
  pub room : 2 * n ≤ length p
  pub idle : (j : ℕ) → 2 * n ≤ j → get_or p j 0 ≡ 0

-- .. of all tables that are lent
pub record SeekingIn (k : Config) (x : Lent) (n : ℕ) : Type 0 where
  pub fields : x.spp.fields ≡ k.fields
  pub seeking : Seeking k.fields k.limits (tables_in x) x.scratch.now x.pending.now n

-- ---- fresh packets at a state

-- what a turn answers, with the states st and the pending entries p at exit: so many entries, or a string is found
abbrev pub turn_of : (k : Config) (lent : ℕ) → (st p : List ℕ) → Option ℕ → Handles.Turn (machine k.fields (limits_of k.limits) lent)
turn_of k lent st p (Some m) = goes (entries_of p m) (seen_in k.fields st)
turn_of k lent st p None = found

-- n entries wait beside the one that is taken
abbrev pub TurnedTo : Config → ℕ → Lent → Option ℕ → Type 0
TurnedTo k n y (Some m) = Seeking k.fields k.limits (tables_in y) y.scratch.now y.pending.now m
TurnedTo k n y None = Over k.fields k.limits (tables_in y) y.scratch.now y.pending.now n

pub record ExpandAsked (k : Config) (x : Lent) (n i fresh : ℕ) : Type 0 where
  pub search : SeekingIn k x n
  pub at : SpLaws.ValidAt (sets_in x) k.fields fresh
  pub has : i < x.states.count

pub record Expands (k : Config) (n i fresh : ℕ) (x : Lent) (r : Result (Option ℕ) Refusal) (y : Lent) : Type 0 where
  pub post : GoesQuery k 0 1088 clear_in (λ τ v. Unit) (turn_of k (length x.pending.now / 2) y.states.words.now y.pending.now)
      (Handles.expand (search_in k x) i fresh (entries_of x.pending.now n) (seen_in k.fields x.states.words.now)) x r y
  pub held : IfOk r (TurnedTo k n y)
