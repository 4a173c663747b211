-- 01, "Strings" (pruned): what delta_pruned in code asks and promises. The list stands in scratch.
use Rattle.std.specs.Prelude.{◌≡◌, List, ℕ, ◌+◌, ◌-◌, ◌*◌, ◌/◌, ◌≤◌, ◌<◌, length, Result}
use Rattle.refusal.specs.declared.Refusal.{Refusal}
use Rattle.netkat_steps.specs.ListSteps.{Edge}
use Rattle.sp_steps.specs.Wf as SpLaws
use Rattle.spp_steps.specs.Wf.{ValidAt}
use Rattle.aut_steps.specs.Scratch.{Kept}
use Rattle.aut_st_steps.specs.Edges.{edges, EdgesAt}
use Rattle.aut_delta_steps.specs.Delta.{list_at}
use Rattle.aut_query_steps.specs.Tables.{Tables, live_of}
use Rattle.aut_query_steps.specs.Pruned as M
use Rattle.aut_query_stage.specs.Layer.{QueryReady}
use Rattle.aut_query_stage.specs.Lent.{tables_in, GoesQuery}
use Rattle.aut_states.specs.Clauses.{limits_of}
use Rattle.aut_states.specs.declared.Config.{Config}
use Rattle.aut_relations.specs.declared.Aut.{Aut as Lent}
use Rattle.aut_relations.specs.Behind.{LISTS}
use Rattle.aut_relations.specs.Lent.{nodes_in}
use Rattle.aut_sets.specs.Lent.{sets_in}
use Rattle.aut_st_insert.specs.Clauses.{RESULT, END}
use Rattle.aut_pruned.specs.Onto.{behind}

-- targets are states, labels relations; there are at most 64
pub record PrunedAt (N : ℕ) (τ : Tables) (es : List Edge) : Type 0 where
  pub edges : EdgesAt N τ.base.aut es
  pub few : length es ≤ 64

-- the step has been done: the list of m transitions stands at RESULT
abbrev pub Prunes : Config → ℕ → Lent → Result ℕ Refusal → Lent → Type 0
Prunes k i x r y = GoesQuery k 0 (2 * END) tables_in (PrunedAt k.fields) (λ m. edges y.scratch.now RESULT m) (M.delta_pruned k.fields (limits_of k.limits) (length x.pending.now / 2) i) x r y

-- ---- one label

-- the tables are in order; y is a state with a live set, g a relation
pub record ViableAsked (k : Config) (x : Lent) (y g : ℕ) : Type 0 where
  pub fields : x.spp.fields ≡ k.fields
  pub ready : QueryReady k.fields k.limits (tables_in x) x.scratch.now
  pub has : y < x.states.count
  pub marked : 0 < live_of x.states.words.now y
  pub at_live : SpLaws.ValidAt (sets_in x) k.fields (live_of x.states.words.now y - 1)
  pub at_label : ValidAt (nodes_in x) k.fields g

-- ---- the list so far

pub record PreKeep (N : ℕ) (s : List ℕ) (m : ℕ) : Type 0 where
  pub few : N ≤ 31
  pub room : LISTS ≤ length s
  pub least : m < 64

pub record PostKeep (N m t g r : ℕ) (s s' : List ℕ) : Type 0 where
  pub is : edges s' RESULT r ≡ behind N (edges s RESULT m) t g
  pub kept : Kept (2 * RESULT) 128 s s'
  pub most : r ≤ m + 1

-- ---- all labels

-- the tables are in order, and i is a state with a live set
pub record PruneAsked (k : Config) (x : Lent) (i : ℕ) : Type 0 where
  pub fields : x.spp.fields ≡ k.fields
  pub ready : QueryReady k.fields k.limits (tables_in x) x.scratch.now
  pub has : i < x.states.count
  pub marked : 0 < live_of x.states.words.now i

-- its stored list has been cut
abbrev pub PrunesAll : Config → ℕ → Lent → Result ℕ Refusal → Lent → Type 0
PrunesAll k i x r y = GoesQuery k 0 (2 * END) tables_in (PrunedAt k.fields) (λ m. edges y.scratch.now RESULT m) (λ τ. M.prune k.fields (list_at τ.base i) τ) x r y
