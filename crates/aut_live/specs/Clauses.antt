-- 01, "Strings" (live) and "Lent tables" (word 7, the pending table): what live_sets in code promises.
use Rattle.std.specs.Prelude.{ℕ, ◌*◌, ◌/◌, length, Result, IfOk}
use Rattle.refusal.specs.declared.Refusal.{Refusal}
use Rattle.aut_query_steps.specs.Live.{found, live_sets}
use Rattle.aut_query_stage.specs.Lent.{tables_in, query_layer}
use Rattle.aut_states.specs.Clauses.{limits_of}
use Rattle.aut_states.specs.declared.Config.{Config}
use Rattle.aut_stage.specs.Rule.{Post}
use Rattle.aut_relations.specs.declared.Aut.{Aut as Lent}
use Rattle.aut_query_calls.specs.Working.{clear_in}
use Rattle.aut_live_words.specs.Work.{live_by, seconds, Held}
pub use Rattle.aut_live_reach.specs.Clauses.{END}

-- The step has been done: the n states reached from i, in the order of their visits, are the second words of the entries, and word 9 of a state is its set + 1, of another 0; no entry has a first word.
pub record SetsAt (k : Config) (i : ℕ) (x : Lent) (r : Result ℕ Refusal) (y : Lent) : Type 0 where
  pub post : Post (query_layer k.fields k.limits) 0 (2 * END) (λ τ f. Unit) (λ n. found (seconds y.pending.now 0 n) (live_by k.fields y.states.words.now)) (live_sets k.fields (limits_of k.limits) (length x.pending.now / 2) i (tables_in x)) (tables_in x) r (clear_in y) x.scratch.now y.scratch.now
  pub held : IfOk r (λ n. Held k.fields k.limits (tables_in y) y.scratch.now y.pending.now n 0)
