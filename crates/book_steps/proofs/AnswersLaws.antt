-- What holds of the definitions of specs/Answers. 02 (iii): "The half is decided over whole numbers, for every count and total."
use Rattle.std.specs.Prelude.{if◌then◌else◌}
use mathlib.Core.Path.{◌≡◌, refl, sym, subst}
use mathlib.Core.Bool.{Bool, true, false}
use Prim.Native.Nat.{ℕ, ◌+◌, ◌*◌, ◌-◌, ◌/◌, ◌%◌, ◌≤◌, ◌<◌}
use native.Mathlib.Nat.{div-add-mod', mod-lt, add-mul, mul-le-mul_right}
use native.Mathlib.Omega.{arith}
use lib.Dec.{eqb, ltb}
use borrow.Author.Tests.{eqb-true, eqb-false, ltb-true, ltb-false}
use Rattle.sp_steps.proofs.Make.{by_test}
use Rattle.spp_steps.proofs.Apply.{by_if}
use Rattle.book_steps.specs.Answers.{nearer, share, distance, Nearest}

-- ---- the share is the nearest thousandth, the half to the even one

module _ (count total lower rest : ℕ) (is : lower * total + rest ≡ 1000 * count) (less : rest < total) where
  at_lower : 2 * rest ≤ total → (2 * rest ≡ total → lower % 2 ≡ 0) → Nearest count total lower
  at_lower l e = record { near = omega (arith, is); even = λ q. e (omega (arith, is)) }

  one_up : (lower + 1) * total ≡ lower * total + total
  one_up = omega (arith, add-mul lower 1 total)

  at_upper : total ≤ 2 * rest → (2 * rest ≡ total → (lower + 1) % 2 ≡ 0) → Nearest count total (lower + 1)
  at_upper l e = record { near = omega (arith, is, one_up); even = λ q. e (omega (arith, is, one_up)) }

  half_way : 2 * rest ≡ total → Nearest count total (lower + lower % 2)
  half_way h = by_test (eqb (lower % 2) 0)
      (λ b. subst (Nearest count total) {x = lower} (omega (arith, eqb-true (lower % 2) 0 b)) (at_lower (omega arith) (λ q. eqb-true (lower % 2) 0 b)))
      (λ b. let n : (lower % 2 ≡ 0 → ⊥) = eqb-false (lower % 2) 0 b in
      subst (Nearest count total) {x = lower + 1} (omega arith) (at_upper (omega arith) (λ q. omega arith)))

  pub nearer_is : Nearest count total (nearer lower rest total)
  nearer_is = by_if (Nearest count total) (ltb (2 * rest) total) lower (if ltb total (2 * rest) then lower + 1 else lower + lower % 2)
      (λ b. at_lower (omega (arith, ltb-true (2 * rest) total b)) (λ q. absurd (omega (arith, ltb-true (2 * rest) total b))))
      (λ b. by_if (Nearest count total) (ltb total (2 * rest)) (lower + 1) (lower + lower % 2)
      (λ c. at_upper (omega (arith, ltb-true total (2 * rest) c)) (λ q. absurd (omega (arith, ltb-true total (2 * rest) c))))
      (λ c. half_way (omega (arith, ltb-false (2 * rest) total b, ltb-false total (2 * rest) c))))

pub share_nearest : (count total : ℕ) → 0 < total → Nearest count total (share count total)
unfolding share
share_nearest count total l = nearer_is count total ((1000 * count) / total) ((1000 * count) % total) (div-add-mod' (1000 * count) total) (mod-lt (1000 * count) l)

-- ---- and one number only is

not_both : {count total s t : ℕ} → 0 < total → Nearest count total s → Nearest count total t → s < t → ⊥
not_both {count} {total} {s} {t} l a b less =
    let wide : (s + 1) * total ≤ t * total = mul-le-mul_right total (let h : s + 1 ≤ t = omega arith in h) in
    let one : (s + 1) * total ≡ s * total + total = omega (arith, add-mul s 1 total) in
    let e : s % 2 ≡ 0 = a.even (omega (arith, wide, one, a.near, b.near)) in
    let f : t % 2 ≡ 0 = b.even (omega (arith, wide, one, a.near, b.near)) in
    let far : (s + 2) * total ≤ t * total = mul-le-mul_right total (let h : s + 2 ≤ t = omega (arith, e, f) in h) in
    let two : (s + 2) * total ≡ s * total + 2 * total = omega (arith, add-mul s 2 total) in
    omega (arith, far, two, a.near, b.near)

pub nearest_one : {count total s t : ℕ} → 0 < total → Nearest count total s → Nearest count total t → s ≡ t
nearest_one {s = s} {t = t} l a b = by_test (ltb s t)
    (λ h. absurd (not_both l a b (ltb-true s t h)))
    (λ h. by_test (ltb t s) (λ k. absurd (not_both l b a (ltb-true t s k))) (λ k. omega (arith, ltb-false s t h, ltb-false t s k)))

pub sixteenth : share 1 16 ≡ 62
unfolding share
sixteenth = refl

pub three_sixteenths : share 3 16 ≡ 188
unfolding share
three_sixteenths = refl

pub thirty_second : share 1 32 ≡ 31
unfolding share
thirty_second = refl
