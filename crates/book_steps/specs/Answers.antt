-- 01, "The book and its answers": the lines of an answer. `fields`: N. `empty`: the line named, verdict (yes, no, spent), pairs taken. `live`: line, live packets, and their
-- share of 2^N in thousandths (01: "the half rounded up", 63 for 1 of 16; changed by (iii) below). `pruned`: line, number of transitions; each `pair`: target state number, packet pairs in the label.
-- 02 (i): "A query `why a` prints a string of the state in words: `from 01 by 01 10 to 10`, bits with field 0 first, `-` for a packet without fields; without hops, `by` is left out; an empty state prints `none`."
-- 02 (iii): "Halves go to the even thousandth. One of 16 now shares 62, three of 16 share 188. The half is decided over whole numbers, for every count and total."
use Rattle.std.specs.Prelude.{◌≡◌, List, [], ◌∷◌, ◌++◌, map, ℕ, zero, suc, ◌+◌, ◌*◌, ◌-◌, ◌/◌, ◌%◌, ◌^◌, ◌≤◌, ltb, length, if◌then◌else◌}
use Rattle.std.proofs.Math.Option.{Option, none, some}
use Rattle.common.specs.Packets.{Packet, end, bit}
use Rattle.netkat.specs.Strings.{Str}
use Rattle.netkat.specs.Search.{Verdict, yes, no, spent}
use Rattle.book_steps.specs.Text.{bytes, decimal}

-- words with single spaces between them, and byte 10
unfoldable pub say : List (List ℕ) → List ℕ
say [] = 10 ∷ []
say (w ∷ []) = w ++ 10 ∷ []
say (w ∷ v ∷ ws) = w ++ 32 ∷ say (v ∷ ws)

abbrev pub verdict_word : Verdict → List ℕ
verdict_word yes = bytes "yes"
verdict_word no = bytes "no"
verdict_word spent = bytes "spent"

-- between two thousandths, `rest` of `total` above the lower one: the nearer of them, or the even one where it is half way
abbrev pub nearer : (lower rest total : ℕ) → ℕ
nearer lower rest total = if ltb (2 * rest) total then lower else if ltb total (2 * rest) then lower + 1 else lower + lower % 2

-- a count's thousandths of a total
unfoldable pub share : ℕ → ℕ → ℕ
share count total = nearer ((1000 * count) / total) ((1000 * count) % total) total

abbrev pub distance : ℕ → ℕ → ℕ
distance a b = (a - b) + (b - a)

-- What a share is, without division: s thousandths of the total lie at most half a thousandth of it from the count, and s is even where they lie just that far.
pub record Nearest (count total s : ℕ) : Type 0 where
  pub near : 2 * distance (1000 * count) (s * total) ≤ total
  pub even : 2 * distance (1000 * count) (s * total) ≡ total → s % 2 ≡ 0

abbrev pub fields_answer : ℕ → List ℕ
fields_answer N = say (bytes "fields" ∷ decimal N ∷ [])

-- the name of a line, as an answer prints it: its number
abbrev pub name_of : ℕ → List ℕ
name_of line = decimal line

-- the answers to queries take the bytes of the name
abbrev pub empty_answer : (name : List ℕ) → Verdict → ℕ → List ℕ
empty_answer name verdict count = say (bytes "empty" ∷ name ∷ verdict_word verdict ∷ decimal count ∷ [])

-- of packets with N bits
abbrev pub live_answer : ℕ → (name : List ℕ) → ℕ → List ℕ
live_answer N name count = say (bytes "live" ∷ name ∷ decimal count ∷ decimal (share count (2 ^ N)) ∷ [])

pub record Pairs : Type 0 where
  pub target : ℕ
  pub number : ℕ

unfoldable pub pair_lines : List Pairs → List ℕ
pair_lines [] = []
pair_lines (p ∷ ps) = say (bytes "pair" ∷ decimal p.target ∷ decimal p.number ∷ []) ++ pair_lines ps

abbrev pub pruned_answer : (name : List ℕ) → List Pairs → List ℕ
pruned_answer name pairs = say (bytes "pruned" ∷ name ∷ decimal (length pairs) ∷ []) ++ pair_lines pairs

-- ---- `why`

-- the bits of a packet, field 0 first
unfoldable pub bits_of : {n : ℕ} → Packet n → List ℕ
bits_of end = []
bits_of (bit b p) = (if b then 49 else 48) ∷ bits_of p

-- a packet as a word: its bits, `-` if it has none
abbrev pub packet_word : (n : ℕ) → Packet n → List ℕ
packet_word zero p = bytes "-"
packet_word (suc n) p = bits_of p

-- the hops in words; without hops, `by` is left out
abbrev pub by_words : (n : ℕ) → List (Packet n) → List (List ℕ)
by_words n [] = []
by_words n (h ∷ hs) = bytes "by" ∷ map (packet_word n) (h ∷ hs)

-- a string in words, without the name of the line
unfoldable pub sentence : (n : ℕ) → Str n → List ℕ
sentence n w = say (bytes "from" ∷ packet_word n w.start ∷ (by_words n w.hops ++ bytes "to" ∷ packet_word n w.end ∷ []))

abbrev pub why_answer : (n : ℕ) → Option (Str n) → List ℕ
why_answer n none = say (bytes "none" ∷ [])
why_answer n (some w) = sentence n w
