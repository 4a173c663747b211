-- 01, port order, step 3, and "Lent tables" (words 5 and 6, transitions): what delta asks and promises.
use Rattle.std.specs.Prelude.{ℕ, ◌*◌, ◌≤◌, ◌<◌, Result}
use Rattle.refusal.specs.declared.Refusal.{Refusal}
use Rattle.aut_delta_steps.specs.Delta.{list_at, delta}
use Rattle.aut_delta_steps.specs.Wf.{Stored}
use Rattle.aut_states.specs.Clauses.{limits_of}
use Rattle.aut_states.specs.declared.Config.{Config}
use Rattle.aut_relations.specs.declared.Aut.{Aut as Lent}
use Rattle.aut_delta_stage.specs.OnTables.{store_in, StoreAsked, GoesStore}
pub use Rattle.aut_delta_keep.specs.Clauses.{END}

-- tables and scratch in order; i is a state
pub record DeltaAsked (k : Config) (x : Lent) (i : ℕ) : Type 0 where
  pub store : StoreAsked k x
  pub limit : k.limits.transitions ≤ 64
  pub has : i < x.states.count

-- the step of delta has been done: the list of i stands in the tables
abbrev pub Deltas : {V : Type 0} → Config → ℕ → Lent → Result V Refusal → Lent → Type 0
Deltas k i x r y = GoesStore k 0 (2 * END) (λ τ es. Stored τ i es) (λ v. list_at (store_in y) i) (delta k.fields (limits_of k.limits) i) x r y
