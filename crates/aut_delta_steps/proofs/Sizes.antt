-- 01, "Lent tables": a finished list is stored after those already there, so the transitions in use are those of the stored lists: their number is the sum of the lists' lengths.
use Rattle.std.specs.Prelude.{if◌then◌else◌}
use mathlib.Core.Path.{◌≡◌, refl, sym, ◌∙◌, ap, ap₂}
use mathlib.Core.Bool.{Bool}
use mathlib.Core.List.{List}
use Prim.Native.Nat.{ℕ, zero, suc, ◌+◌, ◌-◌, ◌≤◌, ◌<◌, min}
use native.Mathlib.Omega.{arith}
use lib.Dec.{eqb, leb, ltb}
use borrow.Author.Tests.{eqb-true, eqb-false, leb-true, leb-false, ltb-true, ltb-false}
use Rattle.spp_steps.proofs.Laws.{by_test}
use Rattle.aut_steps.specs.Tables.{Limits}
use Rattle.aut_steps.specs.Wf.{states}
use Rattle.aut_delta_steps.specs.Delta.{start_of, count_of, Store}
use Rattle.aut_delta_steps.specs.Wf.{Lists}

-- ---- sums

-- f 0 + .. + f (n - 1)
unfoldable pub sum : (ℕ → ℕ) → ℕ → ℕ
sum f zero = 0
sum f (suc n) = sum f n + f n

sum_same : (f g : ℕ → ℕ) (n : ℕ) → ((i : ℕ) → i < n → f i ≡ g i) → sum f n ≡ sum g n
unfolding sum
sum_same f g zero e = refl
sum_same f g (suc n) e = omega (arith, sum_same f g n (λ i l. e i (omega arith)), e n (omega arith))

sum_none : (f : ℕ → ℕ) (n : ℕ) → ((i : ℕ) → i < n → f i ≡ 0) → sum f n ≡ 0
unfolding sum
sum_none f zero e = refl
sum_none f (suc n) e = omega (arith, sum_none f n (λ i l. e i (omega arith)), e n (omega arith))

sum_ones : (f : ℕ → ℕ) (n : ℕ) → ((i : ℕ) → i < n → f i ≡ 1) → sum f n ≡ n
unfolding sum
sum_ones f zero e = refl
sum_ones f (suc n) e = omega (arith, sum_ones f n (λ i l. e i (omega arith)), e n (omega arith))

-- only one of them is not 0
sum_one : (f : ℕ → ℕ) (n x : ℕ) → x < n → ((i : ℕ) → i < n → (i ≡ x → ⊥) → f i ≡ 0) → sum f n ≡ f x
unfolding sum
sum_one f zero x l e = absurd (omega arith)
sum_one f (suc n) x l e = by_test (eqb n x)
    (λ t. let q = eqb-true n x t in omega (arith, ap f q, sum_none f n (λ i m. e i (omega arith) (λ r. omega arith))))
    (λ t. let k = eqb-false n x t in omega (arith, e n (omega arith) k, sum_one f n x (differ n x l k) (λ i m. e i (omega arith))))
  where
    differ : (n x : ℕ) → x < suc n → (n ≡ x → ⊥) → x < n
    differ n x l k = by_test (leb n x) (λ t. absurd (k (omega (arith, leb-true n x t)))) (λ t. leb-false n x t)

sum_plus : (f g : ℕ → ℕ) (n : ℕ) → sum (λ i. f i + g i) n ≡ sum f n + sum g n
unfolding sum
sum_plus f g zero = refl
sum_plus f g (suc n) = omega (arith, sum_plus f g n)

-- by rows or by columns
sum_turned : (f : ℕ → ℕ → ℕ) (n m : ℕ) → sum (λ x. sum (f x) m) n ≡ sum (λ t. sum (λ x. f x t) n) m
unfolding sum
sum_turned f zero m = sym (sum_none (λ t. 0) m (λ t l. refl))
sum_turned f (suc n) m = omega (arith, sum_turned f n m, sum_plus (λ t. sum (λ x. f x t) n) (f n) m)

-- ---- the lists' lengths

-- 1 if a ≤ t < a + k
mark : ℕ → ℕ → ℕ → ℕ
mark a k t = if leb a t then (if ltb t (a + k) then 1 else 0) else 0

mark_in : (a k t : ℕ) → a ≤ t → t < a + k → mark a k t ≡ 1
unfolding mark
mark_in a k t l m =
    by_test (leb a t)
    (λ p. by_test (ltb t (a + k))
    (λ q. ap₂ (λ (b c : Bool). if b then (if c then 1 else 0) else 0) p q)
    (λ q. absurd (omega (arith, ltb-false t (a + k) q))))
    (λ p. absurd (omega (arith, leb-false a t p)))

mark_out : (a k t : ℕ) → ((a ≤ t) × (t < a + k) → ⊥) → mark a k t ≡ 0
unfolding mark
mark_out a k t n =
    by_test (leb a t)
    (λ p. by_test (ltb t (a + k))
    (λ q. absurd (n (leb-true a t p, ltb-true t (a + k) q)))
    (λ q. ap₂ (λ (b c : Bool). if b then (if c then 1 else 0) else 0) p q))
    (λ p. ap (λ (b : Bool). if b then (if ltb t (a + k) then 1 else 0) else 0) p)

-- those below m
row : (a k m : ℕ) → sum (mark a k) m ≡ min k (m - a)
unfolding sum
row a k zero = omega arith
row a k (suc m) =
    by_test (leb a m)
    (λ p. let l = leb-true a m p in
    by_test (ltb m (a + k))
    (λ q. let n = ltb-true m (a + k) q in omega (arith, row a k m, mark_in a k m l n))
    (λ q. let n = ltb-false m (a + k) q in omega (arith, row a k m, mark_out a k m (λ r. omega (arith, r.1)))))
    (λ p. let l = leb-false a m p in omega (arith, row a k m, mark_out a k m (λ r. omega (arith, r.0))))

module _ {N : ℕ} {L : Limits} (σ : Store) (D : Lists N L σ) where
  abbrev st : List ℕ
  st = σ.aut.states.words

  abbrev at : ℕ → ℕ → ℕ
  at x = mark (start_of st x) (count_of st x - 1)

  -- a list has as many transitions as it is long
  long : (x : ℕ) → x < states σ.aut → sum (at x) σ.transitions.count ≡ count_of st x - 1
  long x l = by_test (eqb (count_of st x) 0)
      (λ t. omega (arith, eqb-true (count_of st x) 0 t, row (start_of st x) (count_of st x - 1) σ.transitions.count))
      (λ t. omega (
        arith,
        row (start_of st x) (count_of st x - 1) σ.transitions.count,
        (D.held x l).inside (count_of st x - 1) (some (count_of st x) (eqb-false (count_of st x) 0 t)),
      ))
    where
      some : (c : ℕ) → (c ≡ 0 → ⊥) → c ≡ c - 1 + 1
      some zero n = absurd (n refl)
      some (suc c) n = omega arith

  -- a transition is in one list
  single : (t : ℕ) → t < σ.transitions.count → sum (λ x. at x t) (states σ.aut) ≡ 1
  single t l =
      let o = D.laid.owned t l in
      let (p, q) = o.has in
      sum_one (λ x. at x t) (states σ.aut) o.state o.known
      (λ y m n. mark_out (start_of st y) (count_of st y - 1) t (λ r. n (D.laid.apart y o.state t m o.known (r.0, omega (arith, r.1)) o.has)))
      ∙ mark_in (start_of st o.state) (count_of st o.state - 1) t p (omega arith)

  pub transitions_sum : σ.transitions.count ≡ sum (λ x. count_of st x - 1) (states σ.aut)
  transitions_sum =
      sym (sum_ones (λ t. sum (λ x. at x t) (states σ.aut)) σ.transitions.count single)
      ∙ sym (sum_turned at (states σ.aut) σ.transitions.count)
      ∙ sum_same (λ x. sum (at x) σ.transitions.count) (λ x. count_of st x - 1) (states σ.aut) long
