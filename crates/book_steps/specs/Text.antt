-- 01, "The book and its answers": bytes, in lines that end with byte 10, single spaces, numbers without leading zeros and at most 2^64 − 1.
use Rattle.std.specs.Prelude.{Bool, true, false, ◌&&◌, List, [], ◌∷◌, ◌++◌, ℕ, zero, suc, ◌+◌, ◌*◌, ◌-◌, ◌/◌, ◌%◌, ◌^◌, eqb, leb, ltb, if◌then◌else◌}
use Rattle.std.proofs.Math.Option.{Option, none, some}
use Prim.Native.Char.{code}
use Prim.Native.String.{String, [] as []ˢ, ◌∷◌ as ◌∷ˢ◌}

-- a text's bytes; the texts here have characters of one byte
abbrev pub bytes : String → List ℕ
bytes []ˢ = []
bytes (c ∷ˢ s) = code c ∷ bytes s

-- ---- lines

-- the bytes up to the first byte 10, and what stands behind it; or there is no byte 10
pub data Cut : Type 0 where
  line : List ℕ → List ℕ → Cut
  unended : Cut

abbrev pub before : ℕ → Cut → Cut
before b (line l rest) = line (b ∷ l) rest
before b unended = unended

unfoldable pub cut : List ℕ → Cut
cut [] = unended
cut (b ∷ text) = if eqb b 10 then line [] text else before b (cut text)

-- ---- words

-- one byte more in front of the first word
abbrev pub on_first : ℕ → List (List ℕ) → List (List ℕ)
on_first b [] = (b ∷ []) ∷ []
on_first b (w ∷ ws) = (b ∷ w) ∷ ws

-- what stands between single spaces: two spaces in a row, or one at an end, leave a word without bytes, which is no name and no number
unfoldable pub words : List ℕ → List (List ℕ)
words [] = [] ∷ []
words (b ∷ l) = if eqb b 32 then ([] ∷ words l) else on_first b (words l)

-- whether two words are one
unfoldable pub same : List ℕ → List ℕ → Bool
same [] [] = true
same [] (b ∷ w) = false
same (a ∷ v) [] = false
same (a ∷ v) (b ∷ w) = eqb a b && same v w

-- ---- numbers

abbrev pub digit : ℕ → Bool
digit b = leb 48 b && leb b 57

unfoldable pub digits : List ℕ → Bool
digits [] = true
digits (b ∷ w) = digit b && digits w

-- digits read from the left, behind the number n
unfoldable pub reading : ℕ → List ℕ → ℕ
reading n [] = n
reading n (b ∷ w) = reading (10 * n + (b - 48)) w

-- no leading zero, but for 0 itself
abbrev pub plain : List ℕ → Bool
plain [] = false
plain (b ∷ []) = true
plain (b ∷ c ∷ w) = ltb 48 b

-- the number that a word is, if it is one
unfoldable pub number : List ℕ → Option ℕ
number w = if plain w && digits w && ltb (reading 0 w) (2 ^ 64) then some (reading 0 w) else none

-- a number's digits: at most k + 1 of them
unfoldable pub decimal_by : ℕ → ℕ → List ℕ
decimal_by zero n = (48 + n) ∷ []
decimal_by (suc k) n = if ltb n 10 then (48 + n) ∷ [] else (decimal_by k (n / 10) ++ (48 + n % 10) ∷ [])

-- a number below 2^64 has at most 20
unfoldable pub decimal : ℕ → List ℕ
decimal n = decimal_by 19 n
