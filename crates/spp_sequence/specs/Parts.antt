-- The steps of sequence and star in parts, as the code makes them; a part after another is the whole (`product_parts`, `blocks_parts`).
use Rattle.std.specs.Prelude.{true, false, ℕ}
use Rattle.common.specs.Outcome.{Step, return, ◌>>=◌}
use Rattle.common.specs.Runs.{Table}
use Rattle.spp_steps.specs.Model.{Quad, quad, mk}

-- a row of the product
unfoldable pub row : (ℕ → ℕ → Step Table ℕ) → ℕ → ℕ → Quad → Step Table Quad
row f p0 p1 B = do
  a ← f p0 (B false false)
  b ← f p1 (B true false)
  c ← f p0 (B false true)
  e ← f p1 (B true true)
  return (quad a b c e)

-- the sums of two rows, and the node
unfoldable pub sums : (ℕ → ℕ → Step Table ℕ) → Quad → Quad → Step Table ℕ
sums u R S = do
  x00 ← u (R false false) (R false true)
  x01 ← u (R true false) (R true true)
  x10 ← u (S false false) (S false true)
  x11 ← u (S true false) (S true true)
  mk (quad x00 x01 x10 x11)

pub record Pair : Type 0 where
  pub first : ℕ
  pub second : ℕ

-- of the matrix X = a b c d, with e the star of d: b e, and a with b e c
unfoldable pub through : (ℕ → ℕ → Step Table ℕ) → (ℕ → ℕ → Step Table ℕ) → Quad → ℕ → Step Table Pair
through f u X e = do
  be ← f (X false true) e
  bec ← f be (X true false)
  s ← u (X false false) bec
  return (record { first = be; second = s })

-- the other entries of the star, from x00, and the node
unfoldable pub around : (ℕ → ℕ → Step Table ℕ) → (ℕ → ℕ → Step Table ℕ) → ℕ → ℕ → ℕ → ℕ → Step Table ℕ
around f u c e be x00 = do
  x01 ← f x00 be
  cx ← f c x00
  x10 ← f e cx
  xbe ← f x10 be
  x11 ← u e xbe
  mk (quad x00 x01 x10 x11)
