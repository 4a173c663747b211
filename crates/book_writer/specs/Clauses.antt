-- 01, "The book and its answers" and refusal 27, "output cannot hold the next answer's lines": what the functions that write an answer leave in the output. A whole answer stands in it, or the output is as it was.
use Rattle.std.specs.Prelude.{◌≡◌, Bool, true, false, List, [], ◌∷◌, ◌++◌, ℕ, zero, suc, ◌+◌, ◌/◌, ◌%◌, ◌≤◌, ◌<◌, ◌^◌, length, get_or, Option, Some, None, Result, Ok, Err}
use Rattle.book_steps.specs.Text.{bytes, decimal}
use Rattle.book_steps.specs.Answers.{say}
use Rattle.book_steps.specs.Sentence.{word_bytes}
use Rattle.refusal.specs.declared.Refusal.{Refusal}
use Rattle.refusal.specs.declared.Refusal.TheVariants as refusals
use Rattle.book_writer.specs.declared.output.Output.{Output}
use Rattle.book_writer.specs.declared.Part.{Part}
use Rattle.book_writer.specs.declared.Part.TheVariants.{Word, Number}
pub use Rattle.verdict.specs.Verdict.{verdict_of}

-- the bytes from `at` on are now bs, and all else is as it was
pub record Wrote (at : ℕ) (bs s s' : List ℕ) : Type 0 where
  pub len : length s' ≡ length s
  pub is : (i : ℕ) → i < length bs → get_or s' (at + i) 0 ≡ get_or bs i 0
  pub below : (i : ℕ) → i < at → get_or s' i 0 ≡ get_or s i 0
  pub above : (i : ℕ) → at + length bs ≤ i → get_or s' i 0 ≡ get_or s i 0

-- the same, with the place behind, which is in them or at their end
pub record PutAt (at : ℕ) (bs : List ℕ) (r : ℕ) (s s' : List ℕ) : Type 0 where
  pub behind : r ≡ at + length bs
  pub room : r ≤ length s
  pub wrote : Wrote at bs s s'

-- there is room for n bytes behind what is written
abbrev pub Room : ℕ → Output → Type 0
Room n o = o.at + n ≤ length o.bytes.now

-- .. or the refusal 27
abbrev pub RoomBy : ℕ → Output → Result Unit Refusal → Type 0
RoomBy n o (Ok u) = Room n o
RoomBy n o (Err e) = (e ≡ refusals.Output) × (length o.bytes.now < o.at + n)

-- bs are written behind what was, with the output o before and o' after
abbrev pub Put : List ℕ → Output → Output → Type 0
Put bs o o' = PutAt o.at bs o'.at o.bytes.now o'.bytes.now

abbrev pub part_bytes : Part → List ℕ
part_bytes (Word w) = w.now
part_bytes (Number n) = decimal n

-- the parts, each behind a space
unfoldable pub with_spaces : List Part → List ℕ
with_spaces [] = []
with_spaces (p ∷ ps) = 32 ∷ part_bytes p ++ with_spaces ps

-- how many they are, unless no word holds it
abbrev pub Measures : List ℕ → Option ℕ → Type 0
Measures bs (Some n) = n ≡ length bs
Measures bs None = 2 ^ 64 ≤ length bs

-- the whole answer, or the refusal 27 and nothing
abbrev pub Answers : List ℕ → Output → Result Unit Refusal → Output → Type 0
Answers bs o (Ok u) o' = Put bs o o'
Answers bs o (Err e) o' = (e ≡ refusals.Output) × (length o.bytes.now < o.at + length bs) × (o' ≡ o)

-- the last k digits of a number in a base
unfoldable pub last_digits : (base k n : ℕ) → List ℕ
last_digits base zero n = []
last_digits base (suc k) n = last_digits base k (n / base) ++ (48 + n % base) ∷ []

-- ---- the lines of `pruned`

abbrev pub pruned_head : (name : List ℕ) → ℕ → List ℕ
pruned_head name k = say (bytes "pruned" ∷ name ∷ decimal k ∷ [])

abbrev pub pair_line : ℕ → ℕ → List ℕ
pair_line target number = say (bytes "pair" ∷ decimal target ∷ decimal number ∷ [])

-- ---- the parts of the sentence of `why`, of packets that come as numbers

abbrev pub start_part : (n packet : ℕ) → List ℕ
start_part n packet = bytes "from " ++ word_bytes n packet

-- only the first hop has `by` before it
abbrev pub hop_part : (n : ℕ) → (first : Bool) → (packet : ℕ) → List ℕ
hop_part n true packet = bytes " by " ++ word_bytes n packet
hop_part n false packet = bytes " " ++ word_bytes n packet

abbrev pub end_part : (n packet : ℕ) → List ℕ
end_part n packet = bytes " to " ++ (word_bytes n packet ++ 10 ∷ [])
