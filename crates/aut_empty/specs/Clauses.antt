-- 01, "The book and its answers" and demand 3: what the search in code promises.
use Rattle.std.specs.Prelude.{ℕ, ◌/◌, length, Result}
use Rattle.refusal.specs.declared.Refusal.{Refusal}
use Rattle.aut_query_steps.specs.Search.{is_empty}
use Rattle.aut_query_stage.specs.Lent.{tables_in, GoesQuery}
use Rattle.aut_states.specs.Clauses.{limits_of}
use Rattle.aut_states.specs.declared.Config.{Config}
use Rattle.aut_relations.specs.declared.Aut.{Aut as Lent}
use Rattle.verdict.specs.declared.Verdict.{Verdict}
pub use Rattle.verdict.specs.Verdict.{verdict_of}

-- the search has been done: the verdict and the pairs taken; unless refused, the tables are in order
abbrev pub Empties : Config → (budget i : ℕ) → Lent → Result (Verdict × ℕ) Refusal → Lent → Type 0
Empties k budget i x r y = GoesQuery k 0 1088 tables_in (λ τ a. Unit) (λ (a : Verdict × ℕ). (verdict_of a.0, a.1)) (is_empty k.fields (limits_of k.limits) (length x.pending.now / 2) budget i) x r y
