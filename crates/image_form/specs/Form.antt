-- 02 (ii): "an image in blocks of 512 bytes: block number from 0 (2 bytes), 127 words, then 2 bytes of check, all big-endian. The check is the sum of byte i × (i + 1) over bytes 0 to 509, modulo 65,521."
-- Written as a block, and read back at a place of an image's bytes.
use Rattle.std.specs.Prelude.{List, [], ◌∷◌, ◌++◌, ℕ, zero, suc, ◌+◌, ◌*◌, ◌/◌, ◌%◌, eqb, get_or, take, drop, if◌then◌else◌}
use Rattle.std.proofs.Math.Option.{Option, none, some}

-- ---- numbers as bytes, the high byte first

-- a number below 2^16 in two
abbrev pub half : ℕ → List ℕ
half v = v / 256 ∷ v % 256 ∷ []

-- a word in four
abbrev pub wide : ℕ → List ℕ
wide v = v / 16777216 ∷ v / 65536 % 256 ∷ v / 256 % 256 ∷ v % 256 ∷ []

-- the numbers that stand at byte i
unfoldable pub half_at : List ℕ → ℕ → ℕ
half_at s i = 256 * get_or s i 0 + get_or s (i + 1) 0

unfoldable pub wide_at : List ℕ → ℕ → ℕ
wide_at s i = 65536 * half_at s i + half_at s (i + 2)

-- ---- the check

-- byte × (place + 1), summed; the first byte is at place i
unfoldable pub weighed : ℕ → List ℕ → ℕ
weighed i [] = 0
weighed i (b ∷ bs) = b * (i + 1) + weighed (i + 1) bs

-- of the first 510 bytes of a block
unfoldable pub check : List ℕ → ℕ
check front = weighed 0 front % 65521

-- ---- blocks

-- k words from word j on
unfoldable pub wides : (ℕ → ℕ) → ℕ → ℕ → List ℕ
wides w j zero = []
wides w j (suc k) = wide (w j) ++ wides w (j + 1) k

abbrev pub front : ℕ → (ℕ → ℕ) → List ℕ
front b w = half b ++ wides w 0 127

-- block b with the words w
unfoldable pub block : ℕ → (ℕ → ℕ) → List ℕ
block b w = front b w ++ half (check (front b w))

-- n blocks from block b on; w gives each block's words
unfoldable pub blocks : (ℕ → ℕ → ℕ) → ℕ → ℕ → List ℕ
blocks w b zero = []
blocks w b (suc n) = block b (w b) ++ blocks w (b + 1) n

-- ---- a block of an image

-- word j of block b
abbrev pub word_at : List ℕ → ℕ → ℕ → ℕ
word_at image b j = wide_at image (512 * b + (2 + 4 * j))

-- the first 510 bytes of block b
abbrev pub front_at : List ℕ → ℕ → List ℕ
front_at image b = take 510 (drop (512 * b) image)

-- "30 for a wrong number, 31 for a wrong check"
unfoldable pub verify : List ℕ → ℕ → Option ℕ
verify image b =
    if eqb (half_at image (512 * b)) b
    then (if eqb (half_at image (512 * b + 510)) (check (front_at image b)) then none else some 31)
    else some 30
