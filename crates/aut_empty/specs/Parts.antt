-- 01, `is_empty` (pairs are taken while there are any and the budget lasts): what the search in code promises before words and entries are cleared.
use Rattle.std.specs.Prelude.{ℕ, Result, IfOk}
use Rattle.refusal.specs.declared.Refusal.{Refusal}
use Rattle.netkat_steps.specs.Handles as Handles
use Rattle.aut_query_stage.specs.Lent.{tables_in, GoesQuery}
use Rattle.aut_states.specs.declared.Config.{Config}
use Rattle.aut_relations.specs.declared.Aut.{Aut as Lent}
use Rattle.aut_query_calls.specs.Working.{clear_in}
use Rattle.aut_empty_words.specs.Words.{entries_of, seen_in}
use Rattle.aut_empty_turn.specs.Clauses.{search_in}
use Rattle.aut_empty_turn.specs.Clauses.{Over}
use Rattle.verdict.specs.declared.Verdict.{Verdict}
use Rattle.aut_empty.specs.Clauses.{verdict_of}

-- the verdict, the pairs taken, and the pending entries that are left
pub record Searches (k : Config) (budget n : ℕ) (x : Lent) (r : Result (Verdict × ℕ × ℕ) Refusal) (y : Lent) : Type 0 where
  pub post : GoesQuery k 0 1088 clear_in (λ τ a. Unit) (λ (a : Verdict × ℕ × ℕ). (verdict_of a.0, a.1)) (Handles.run (search_in k x) budget (entries_of x.pending.now n) (seen_in k.fields x.states.words.now) 0) x r y
  pub held : IfOk r (λ a. Over k.fields k.limits (tables_in y) y.scratch.now y.pending.now a.2)
