-- The constants of a depth, at depth 0 and above it.
use mathlib.Core.Path.{◌≡◌, refl, ap}
use Prim.Native.Nat.{ℕ, zero, suc, ◌+◌, ◌*◌}
use Rattle.spp_steps.specs.Model.{zero_at, one_at, top_at}

module _ (N : ℕ) where
  pub zero_low : (d : ℕ) → d ≡ 0 → zero_at N d ≡ 0
  unfolding zero_at
  zero_low d e = ap (zero_at N) e

  pub zero_up : (d : ℕ) → (d ≡ 0 → ⊥) → zero_at N d ≡ d + 1
  unfolding zero_at
  zero_up zero n = absurd (n refl)
  zero_up (suc d) n = refl

  pub one_low : (d : ℕ) → d ≡ 0 → one_at N d ≡ 1
  unfolding one_at
  one_low d e = ap (one_at N) e

  pub one_up : (d : ℕ) → (d ≡ 0 → ⊥) → one_at N d ≡ N + d + 1
  unfolding one_at
  one_up zero n = absurd (n refl)
  one_up (suc d) n = refl

  pub top_low : (d : ℕ) → d ≡ 0 → top_at N d ≡ 1
  unfolding top_at
  top_low d e = ap (top_at N) e

  pub top_up : (d : ℕ) → (d ≡ 0 → ⊥) → top_at N d ≡ 2 * N + d + 1
  unfolding top_at
  top_up zero n = absurd (n refl)
  top_up (suc d) n = refl
