-- 02 (ii), "all big-endian": numbers as bytes, and back.
use mathlib.Core.Path.{◌≡◌}
use mathlib.Core.List.{List, [], ◌∷◌, ◌++◌}
use Prim.Native.Nat.{ℕ, zero, suc, ◌+◌, ◌*◌, ◌/◌, ◌%◌, ◌<◌}
use native.Mathlib.Nat.{div-div-eq-div-mul}
use native.Mathlib.Omega.{arith}
use Rattle.image_form.specs.Form.{half, wide, half_at, wide_at}
use Rattle.image_form.specs.Damage.{Bytes}

-- ---- lists of bytes

pub bytes_nil : Bytes []
bytes_nil i = omega arith

pub bytes_cons : (x : ℕ) (s : List ℕ) → x < 256 → Bytes s → Bytes (x ∷ s)
bytes_cons x s h r zero = h
bytes_cons x s h r (suc i) = r i

pub bytes_append : (s t : List ℕ) → Bytes s → Bytes t → Bytes (s ++ t)
bytes_append [] t p q = q
bytes_append (x ∷ s) t p q = bytes_cons x (s ++ t) (p 0) (bytes_append s t (λ i. p (suc i)) q)

pub half_bytes : (v : ℕ) → v < 65536 → Bytes (half v)
half_bytes v h zero = omega arith
half_bytes v h (suc zero) = omega arith
half_bytes v h (suc (suc i)) = omega arith

pub wide_bytes : (v : ℕ) → v < 4294967296 → Bytes (wide v)
wide_bytes v h zero = omega arith
wide_bytes v h (suc zero) = omega arith
wide_bytes v h (suc (suc zero)) = omega arith
wide_bytes v h (suc (suc (suc zero))) = omega arith
wide_bytes v h (suc (suc (suc (suc i)))) = omega arith

-- ---- a number is that of its bytes

pub half_join : (v : ℕ) → 256 * (v / 256) + v % 256 ≡ v
half_join v = omega arith

pub wide_join : (v : ℕ) → 65536 * (256 * (v / 16777216) + v / 65536 % 256) + (256 * (v / 256 % 256) + v % 256) ≡ v
wide_join v =
    let p : v / 256 / 256 ≡ v / 65536 = div-div-eq-div-mul v 256 256 in
    let q : v / 65536 / 256 ≡ v / 16777216 = div-div-eq-div-mul v 65536 256 in
    omega arith

-- ---- and bytes are those of their number

pub half_high : (a c : ℕ) → c < 256 → (256 * a + c) / 256 ≡ a
half_high a c h = omega arith

pub half_low : (a c : ℕ) → c < 256 → (256 * a + c) % 256 ≡ c
half_low a c h = omega arith

pub wide_split : (a c d e : ℕ) → a < 256 → c < 256 → d < 256 → e < 256 → wide (65536 * (256 * a + c) + (256 * d + e)) ≡ a ∷ c ∷ d ∷ e ∷ []
wide_split a c d e a< c< d< e< = λ i. first i ∷ second i ∷ third i ∷ fourth i ∷ []
  where
    v : ℕ
    v = 65536 * (256 * a + c) + (256 * d + e)

    first : v / 16777216 ≡ a
    first = omega arith

    second : v / 65536 % 256 ≡ c
    second = omega arith

    third : v / 256 % 256 ≡ d
    third = omega arith

    fourth : v % 256 ≡ e
    fourth = omega arith

-- ---- words of an image

pub half_small : (s : List ℕ) (i : ℕ) → Bytes s → half_at s i < 65536
unfolding half_at
half_small s i p = omega (arith, p i, p (i + 1))

pub wide_small : (s : List ℕ) (i : ℕ) → Bytes s → wide_at s i < 4294967296
unfolding wide_at
wide_small s i p = omega (arith, half_small s i p, half_small s (i + 2) p)
