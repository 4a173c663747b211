-- Demand 3: the plain search "is fed the state, B, and each state's epsilon and transition list with its targets' numbers", which `epsilon` and `delta` give when it asks. So they are
-- an automaton of netkat's, its answers are true of the strings that the states hold, and what is promised of the plain search holds over these tables. And tables can be so.
use Rattle.std.specs.Prelude.{map, ℕ}
use Rattle.common.specs.Outcome.{given, after}
use Rattle.netkat.specs.Lists.{State, Transition, to}
use Rattle.netkat_steps.specs.ListSteps.{Edge}
use Rattle.netkat.specs.Search.{Automaton}
use Rattle.aut_steps.specs.Relations as Rel
use Rattle.aut_steps.specs.Tables.{Limits, Aut}
use Rattle.aut_delta_steps.specs.Epsilon.{epsilon}
use Rattle.aut_delta_steps.specs.Delta.{Store, on_aut, delta}

module _ (N : ℕ) where
  -- a transition's label as a relation
  abbrev pub decoded : Aut → Edge → Transition State N
  decoded σ e = to e.target (Rel.pairs N σ.nodes e.label)

  module _ (L : Limits) where
    abbrev pub answers : Automaton N
    answers = record {
      Store = Store;
      epsilon = λ s σ. after (on_aut (epsilon N s) σ) (λ e τ. given τ (Rel.pairs N τ.aut.nodes e));
      delta = λ s σ. after (delta N L s σ) (λ es τ. given τ (map (decoded τ.aut) es));
    }
