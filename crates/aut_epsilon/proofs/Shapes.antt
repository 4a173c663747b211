-- What is kept of a state, as it is read.
use mathlib.Core.Path.{◌≡◌}
use mathlib.Core.List.{List}
use Prim.Native.Nat.{ℕ, ◌+◌, ◌*◌, ◌-◌, ◌<◌}
use lib.ListN.{get_or}
use borrow.Author.Tests.{eq-eqb, ne_eqb}
use Rattle.aut_steps.specs.Tables.{SPP, kind_of, op1}
use Rattle.aut_delta_steps.specs.Epsilon.{epsilon_of, value_of}
use Rattle.aut_delta_steps.specs.EpsilonDown.{Known}

module _ (st : List ℕ) (x : ℕ) where
  pub spp_value : get_or st (12 * x) 0 ≡ SPP → value_of st x ≡ get_or st (12 * x + 1) 0
  unfolding value_of kind_of op1
  spp_value e = simp (eq-eqb (get_or st (12 * x) 0) SPP e)

  pub word_value : (get_or st (12 * x) 0 ≡ SPP → ⊥) → value_of st x ≡ get_or st (12 * x + 4) 0 - 1
  unfolding value_of kind_of epsilon_of
  word_value n = simp (ne_eqb (get_or st (12 * x) 0) SPP n)

  -- the mark can be taken off
  pub word_marked : Known st x → (get_or st (12 * x) 0 ≡ SPP → ⊥) → 0 < get_or st (12 * x + 4) 0
  unfolding kind_of epsilon_of
  word_marked k n = k n
