-- The number of transitions is the sum of the stored lists' lengths (aut_delta_steps' Sizes). So tables that have no more lists stored, the same ones, have no more transitions: where the first has room, the second has.
use mathlib.Core.Path.{◌≡◌, ap, ap₂}
use mathlib.Core.Bool.{Bool, true, ◌&&◌}
use Prim.Native.Nat.{ℕ, zero, suc, ◌+◌, ◌*◌, ◌/◌, ◌≤◌, ◌<◌}
use native.Mathlib.Omega.{arith}
use lib.Dec.{eqb, leb}
use lib.ListN.{length}
use borrow.Author.Tests.{eqb-true, eqb-false, le-leb, leb-true, leb-false}
use Rattle.common.specs.Runs.{Table}
use Rattle.spp_steps.proofs.Laws.{by_test}
use Rattle.aut_delta_steps.specs.Delta.{transition_cap, room_t}
use Rattle.aut_delta_steps.proofs.Sizes.{sum}

pub sum_less : (f g : ℕ → ℕ) (n : ℕ) → ((i : ℕ) → i < n → f i ≤ g i) → sum f n ≤ sum g n
unfolding sum
sum_less f g zero h = omega arith
sum_less f g (suc n) h = omega (arith, sum_less f g n (λ i l. h i (omega arith)), h n (omega arith))

-- where the first lacks one of them
pub sum_lacks : (f g : ℕ → ℕ) (n x : ℕ) → x < n → f x ≡ 0 → ((i : ℕ) → i < n → f i ≤ g i) → sum f n + g x ≤ sum g n
unfolding sum
sum_lacks f g zero x l z h = absurd (omega arith)
sum_lacks f g (suc n) x l z h = by_test (eqb n x)
    (λ t. let q = eqb-true n x t in omega (arith, ap f q, ap g q, sum_less f g n (λ i m. h i (omega arith))))
    (λ t. omega (arith, sum_lacks f g n x (differ n x l (eqb-false n x t)) z (λ i m. h i (omega arith)), h n (omega arith)))
  where
    differ : (n x : ℕ) → x < suc n → (n ≡ x → ⊥) → x < n
    differ n x l k = by_test (leb n x) (λ t. absurd (k (omega (arith, leb-true n x t)))) (λ t. leb-false n x t)

pub room_for : (t : Table) (k : ℕ) → 2 * (t.count + k) ≤ length t.words → t.count + k ≤ transition_cap → room_t t k ≡ true
unfolding room_t
room_for t k a b = ap₂ (λ (c d : Bool). c && d) (le-leb (t.count + k) (length t.words / 2) (omega arith)) (le-leb (t.count + k) transition_cap b)
