-- What holds of the definitions of specs/Word.
use mathlib.Core.Path.{◌≡◌, sym, ◌∙◌}
use Prim.Native.Nat.{ℕ, ◌+◌, ◌/◌, ◌%◌}
use native.Mathlib.Omega.{arith}
use Rattle.sp_steps.specs.Word.{flip}

pub flip_zero : (x : ℕ) → flip 0 x ≡ x
unfolding flip
flip_zero x = omega arith

pub flip_half : (s x : ℕ) → flip s x / 2 ≡ x / 2
unfolding flip
flip_half s x = omega arith

pub flip_mod : (s x : ℕ) → flip s x % 2 ≡ (x + s) % 2
unfolding flip
flip_mod s x = omega arith

-- two numbers are equal when their halves and their low bits are
pub halves : (x y : ℕ) → x / 2 ≡ y / 2 → x % 2 ≡ y % 2 → x ≡ y
halves x y p q = omega arith

mod_twice : (a s : ℕ) → (a % 2 + s) % 2 ≡ (a + s) % 2
mod_twice a s = omega arith

pub flip_low : (s x : ℕ) → (flip s x + s) % 2 ≡ x % 2
flip_low s x = omega (arith, flip_mod s x)

pub flip_flip : (s x : ℕ) → flip s (flip s x) ≡ x
flip_flip s x = halves _ _ (flip_half s (flip s x) ∙ flip_half s x) (flip_mod s (flip s x) ∙ flip_low s x)

pub flip_one : (s x : ℕ) → flip ((s + 1) % 2) x ≡ flip 1 (flip s x)
flip_one s x = halves _ _ (flip_half _ x ∙ sym (flip_half 1 (flip s x) ∙ flip_half s x)) (omega (arith, flip_mod ((s + 1) % 2) x, flip_mod 1 (flip s x), flip_mod s x))
