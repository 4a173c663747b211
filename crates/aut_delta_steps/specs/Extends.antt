-- 01, "Lent tables": a finished list is stored after those already there, if the whole list has room (25); then words 5 and 6 of its state say where. What a run of delta
-- leaves of words 4 to 11 and of the transitions; and that a list that is a delta, once stored, is kept as one.
use Rattle.std.specs.Prelude.{◌≡◌, ℕ, ◌+◌, ◌*◌, ◌≤◌, ◌<◌, get_or}
use Rattle.aut_steps.specs.Wf.{ExtAut}
use Rattle.aut_delta_steps.specs.Epsilon.{epsilon_of}
use Rattle.aut_delta_steps.specs.Delta.{count_of, Store}
use Rattle.aut_delta_steps.specs.Wf.{ExtT, SameWords}

-- ---- what a run of delta leaves

-- What was worked out is as it was: words 4, lists and transitions. Words 7 to 11 are not written.
pub record ExtStore (σ τ : Store) : Type 0 where
  pub grown : ExtAut σ.aut τ.aut
  pub epsilons : (i : ℕ) → 0 < epsilon_of σ.aut.states.words i → epsilon_of τ.aut.states.words i ≡ epsilon_of σ.aut.states.words i
  pub lists : (i : ℕ) → 0 < count_of σ.aut.states.words i → SameWords σ τ i
  pub others : (i w : ℕ) → 7 ≤ w → w < 12 → get_or τ.aut.states.words (12 * i + w) 0 ≡ get_or σ.aut.states.words (12 * i + w) 0
  pub transitions : ExtT σ.transitions τ.transitions
