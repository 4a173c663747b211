-- 02 (i), "`from 01 by 01 10 to 10`": the pieces of a sentence (Answers: sentence) in the order in which they are written, its length, and a packet's word by its number.
use Rattle.std.specs.Prelude.{List, [], ◌∷◌, ◌++◌, ℕ, zero, suc, ◌+◌, ◌*◌, ◌/◌, ◌%◌, ◌^◌}
use Rattle.common.specs.Packets.{Packet}
use Rattle.book_steps.specs.Text.{bytes}
use Rattle.book_steps.specs.Answers.{packet_word}

-- ---- a packet's word by its number (netkat_paths, Order: value)

-- n binary digits of a number, the highest first
unfoldable pub bit_bytes : (n v : ℕ) → List ℕ
bit_bytes zero v = []
bit_bytes (suc n) v = (48 + v / 2 ^ n % 2) ∷ bit_bytes n v

abbrev pub word_bytes : (n v : ℕ) → List ℕ
word_bytes zero v = bytes "-"
word_bytes (suc n) v = bit_bytes (suc n) v

-- .. and how many bytes it has
abbrev pub word_length : ℕ → ℕ
word_length zero = 1
word_length (suc n) = suc n

-- ---- the pieces

abbrev pub start_bytes : (n : ℕ) → Packet n → List ℕ
start_bytes n p = bytes "from " ++ packet_word n p

-- each hop behind a space
unfoldable pub hop_words : (n : ℕ) → List (Packet n) → List ℕ
hop_words n [] = []
hop_words n (h ∷ hs) = 32 ∷ (packet_word n h ++ hop_words n hs)

abbrev pub hop_bytes : (n : ℕ) → List (Packet n) → List ℕ
hop_bytes n [] = []
hop_bytes n (h ∷ hs) = bytes " by" ++ hop_words n (h ∷ hs)

abbrev pub end_bytes : (n : ℕ) → Packet n → List ℕ
end_bytes n p = bytes " to " ++ (packet_word n p ++ 10 ∷ [])

-- ---- the length of a sentence with k hops

abbrev pub hops_length : (n k : ℕ) → ℕ
hops_length n zero = 0
hops_length n (suc k) = 3 + suc k * (word_length n + 1)

abbrev pub sentence_length : (n k : ℕ) → ℕ
sentence_length n k = 5 + word_length n + hops_length n k + 4 + word_length n + 1
