-- What is asked for the products of a list, and what holds of their states.
use Rattle.std.specs.Prelude.{List, ℕ, ◌≤◌, ◌<◌}
use Rattle.aut_steps.specs.Tables.{words, Aut}
use Rattle.aut_steps.specs.Ascending.{All}
use Rattle.aut_steps.specs.Wf.{states}
use Rattle.aut_steps.specs.Constructors.{sizes}
use Rattle.aut_states.specs.declared.Config.{Config}
use Rattle.aut_scratch.specs.declared.TheConstants.{OPENED, RESULTS}
use Rattle.aut_relations.specs.declared.Aut.{Aut as Lent}
use Rattle.aut_relations.specs.Lent.{Asked}
use Rattle.aut_union.specs.Clauses.{ListAt}

-- product i of the k states at OPENED
pub record BaseReady (c : Config) (x : Lent) (k i : ℕ) : Type 0 where
  pub asked : Asked c x
  pub list : ListAt x.scratch.now x.states.count OPENED k RESULTS
  pub product : i < sizes x.states.words.now (words x.scratch.now OPENED k)

-- n products of them
pub record BasesReady (c : Config) (x : Lent) (k n : ℕ) : Type 0 where
  pub asked : Asked c x
  pub list : ListAt x.scratch.now x.states.count OPENED k RESULTS
  pub products : n ≤ sizes x.states.words.now (words x.scratch.now OPENED k)
  pub few : n ≤ 32

-- all are states
abbrev pub AllStates : Aut → List ℕ → Type 0
AllStates σ zs = All (λ z. z < states σ) zs
