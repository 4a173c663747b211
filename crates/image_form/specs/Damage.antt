-- 02 (ii): "One altered byte, or two unequal bytes exchanged within the first 510, is found."
use Rattle.std.specs.Prelude.{◌≡◌, ◌⊎◌, ◌≢◌, List, ℕ, ◌+◌, ◌*◌, ◌≤◌, ◌<◌, length, get_or, set}
use Rattle.std.proofs.Math.Option.{none, some}
use Rattle.image_form.specs.Form.{verify}

-- a list of bytes
abbrev pub Bytes : List ℕ → Type 0
Bytes s = (i : ℕ) → get_or s i 0 < 256

-- block b is not taken: 30 or 31
abbrev pub Found : List ℕ → ℕ → Type 0
Found image b = (verify image b ≡ some 30) ⊎ (verify image b ≡ some 31)

-- bytes i and j exchanged
abbrev pub exchange : List ℕ → ℕ → ℕ → List ℕ
exchange s i j = set (set s i (get_or s j 0)) j (get_or s i 0)

-- Of an image of bytes that has block b whole, and where it is taken: each damage to it is found. (All 512 bytes may be exchanged, not the first 510 alone.)
pub record DamageFound (image : List ℕ) (b : ℕ) : Type 0 where
  pub altered : (i v : ℕ) → i < 512 → v < 256 → v ≢ get_or image (512 * b + i) 0 → Found (set image (512 * b + i) v) b
  pub exchanged : (i j : ℕ) → i < j → j < 512 → get_or image (512 * b + i) 0 ≢ get_or image (512 * b + j) 0
      → Found (exchange image (512 * b + i) (512 * b + j)) b

abbrev pub DamageIsFound : Type 0
DamageIsFound = (image : List ℕ) (b : ℕ) → Bytes image → 512 * b + 512 ≤ length image → verify image b ≡ none → DamageFound image b
