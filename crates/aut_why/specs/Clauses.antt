-- 02 (i): "After `live a`'s steps, as with no live set stored, k rising from 0 until none changes": what the rounds of a state in code ask and promise.
use Rattle.std.specs.Prelude.{◌≡◌, ℕ, ◌/◌, ◌≤◌, length, Option, Result, IfOk}
use mathlib.Core.List.{List, Memᴰ}
use Rattle.refusal.specs.declared.Refusal.{Refusal}
use Rattle.aut_why_steps.specs.Why.{Sets, Rounds, most_rounds, fewest, why_sets}
use Rattle.aut_query_stage.specs.Lent.{tables_in, query_layer}
use Rattle.aut_states.specs.Clauses.{limits_of}
use Rattle.aut_states.specs.declared.Config.{Config}
use Rattle.aut_stage.specs.Rule.{Post}
use Rattle.aut_relations.specs.declared.Aut.{Aut as Lent}
use Rattle.aut_query_calls.specs.Working.{clear_in}
use Rattle.aut_live_words.specs.Work.{seconds}
use Rattle.aut_why_words.specs.Walk.{Standing}
pub use Rattle.aut_why_rounds.specs.Clauses.{hops_of}

abbrev pub as_rounds : List ℕ → List Sets → Rounds
as_rounds ss ws = record { states = ss; sets = ws }

-- The rounds `sets` of the n states that are the second words of the entries stand in the tables; i is among these states, and f is the fewest hops of a string of i.
pub record Why (k : Config) (i : ℕ) (sets : List Sets) (y : Lent) (n : ℕ) (f : Option ℕ) : Type 0 where
  pub standing : Standing k.fields k.limits (tables_in y) y.scratch.now y.pending.now n sets
  pub hops : f ≡ hops_of (fewest k.fields i 0 sets)
  pub few : length sets ≤ most_rounds k.fields (seconds y.pending.now 0 n)
  pub among : Memᴰ i (seconds y.pending.now 0 n)

-- The step for i has come to the answer r and the tables y; unless refused, it has given the rounds `sets`.
pub record WhyAt (k : Config) (i : ℕ) (x : Lent) (r : Result (ℕ × Option ℕ) Refusal) (y : Lent) : Type 0 where
  pub sets : List Sets
  pub post : Post (query_layer k.fields k.limits) 0 1088 (λ τ w. Unit) (λ v. as_rounds (seconds y.pending.now 0 v.0) sets) (why_sets k.fields (limits_of k.limits) (length x.pending.now / 2) i (tables_in x)) (tables_in x) r (clear_in y) x.scratch.now y.scratch.now
  pub why : IfOk r (λ v. Why k i sets y v.0 v.1)
