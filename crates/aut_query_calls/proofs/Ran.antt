-- What a call came to while a query runs, over all tables that are lent.
use Prim.Native.Nat.{ℕ}
use Rattle.std.specs.Prelude.{Result}
use Rattle.common.specs.Outcome.{Step}
use Rattle.refusal.specs.declared.Refusal.{Refusal}
use Rattle.aut_query_steps.specs.Tables.{Tables}
use Rattle.aut_query_stage.specs.Lent.{tables_in, query_layer}
use Rattle.aut_states.specs.declared.Config.{Config}
use Rattle.aut_stage.specs.Rule.{Post}
use Rattle.aut_relations.specs.declared.Aut.{Aut as Lent}
use Rattle.aut_relations.specs.Lent.{Unless}
use Rattle.aut_query_calls.specs.Working.{clear_in, Working}
use Rattle.aut_query_calls.specs.Working.{Unwritten}

-- A call from the tables x has come to the answer r and the tables y: it was the step o; unless refused, the tables are in order, and words 8 to 11 were not written.
pub record Ran (k : Config) (a n : ℕ) {V A : Type 0} (P : Tables → A → Type 0) (see : V → A) (o : Step Tables A) (x : Lent) (r : Result V Refusal) (y : Lent) : Type 0 where
  pub post : Post (query_layer k.fields k.limits) a n P see (o (clear_in x)) (clear_in x) r (clear_in y) x.scratch.now y.scratch.now
  pub working : Unless r (Working k.fields k.limits (tables_in y) y.scratch.now)
  pub unwritten : Unless r (Unwritten (tables_in x) (tables_in y))
