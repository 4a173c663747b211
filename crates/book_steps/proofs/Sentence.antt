-- A sentence is its pieces one after another (specs/Sentence), its length, and a packet's word by its number.
use mathlib.Core.Path.{◌≡◌, refl, sym, ◌∙◌, ap, ap₂}
use native.Mathlib.Omega.{arith}
use native.Mathlib.Nat.{zero-add, zero-mul, mul_comm, mul_assoc, pow-suc, add-mul-div_right, div-eq_of_lt}
use native.Mathlib.Numerals.{one-add}
use mathlib.Core.Bool.{true, false}
use mathlib.Core.List.{List, [], ◌∷◌, ◌++◌, map, append_assoc}
use Prim.Native.Nat.{ℕ, zero, suc, ◌+◌, ◌*◌, ◌/◌, ◌%◌, ◌^◌}
use lib.ListN.{length, length-append}
use lib.Pow.{pow_pos, shr-shr}
use Rattle.common.specs.Packets.{Packet, end, bit}
use Rattle.netkat.specs.Strings.{Str}
use Rattle.netkat_paths.specs.Order.{value}
use Rattle.netkat_paths.proofs.OrderLaws.{value_small}
use Rattle.book_steps.specs.Text.{bytes}
use Rattle.book_steps.specs.Answers.{say, bits_of, packet_word, by_words, sentence}
use Rattle.book_steps.specs.Sentence.{bit_bytes, word_bytes, word_length, start_bytes, hop_words, hop_bytes, end_bytes, hops_length, sentence_length}

-- ---- the pieces

-- hops, and what stands behind them
say_hops : (n : ℕ) (w : List ℕ) (hs : List (Packet n)) (p : Packet n) → say (w ∷ (map (packet_word n) hs ++ bytes "to" ∷ packet_word n p ∷ [])) ≡ w ++ (hop_words n hs ++ end_bytes n p)
unfolding say hop_words
say_hops n w [] p = refl
say_hops n w (h ∷ hs) p =
    ap (λ (l : List ℕ). w ++ (32 ∷ l)) (say_hops n (packet_word n h) hs p ∙ sym (append_assoc (packet_word n h) (hop_words n hs) (end_bytes n p)))

say_by : (n : ℕ) (w : List ℕ) (hs : List (Packet n)) (p : Packet n) → say (w ∷ (by_words n hs ++ bytes "to" ∷ packet_word n p ∷ [])) ≡ w ++ (hop_bytes n hs ++ end_bytes n p)
unfolding say hop_words
say_by n w [] p = say_hops n w [] p
say_by n w (h ∷ hs) p = ap (λ (l : List ℕ). w ++ (32 ∷ l)) (say_hops n (bytes "by") (h ∷ hs) p)

pub sentence_pieces : (n : ℕ) (w : Str n) → sentence n w ≡ start_bytes n w.start ++ (hop_bytes n w.hops ++ end_bytes n w.end)
unfolding sentence say
sentence_pieces n w = ap (λ (l : List ℕ). bytes "from " ++ l) (say_by n (packet_word n w.start) w.hops w.end)

-- ---- a packet's word by its number

pub bits_length : (n v : ℕ) → length (bit_bytes n v) ≡ n
unfolding bit_bytes
bits_length zero v = refl
bits_length (suc n) v = ap suc (bits_length n v)

pub word_length_lem : (n v : ℕ) → length (word_bytes n v) ≡ word_length n
word_length_lem zero v = refl
word_length_lem (suc n) v = bits_length (suc n) v

-- the last digit
pub bits_last : (n v : ℕ) → bit_bytes (suc n) v ≡ bit_bytes n (v / 2) ++ (48 + v % 2) ∷ []
unfolding bit_bytes
bits_last zero v = ap (λ (d : ℕ). (48 + d) ∷ []) (omega arith)
bits_last (suc n) v =
    ap₂ (λ (q : ℕ) (l : List ℕ). (48 + q % 2) ∷ l) (ap (λ (k : ℕ). v / 2 ^ k) (sym (one-add n)) ∙ sym (shr-shr v 1 n)) (bits_last n v)

-- what is above n digits is not among them
bits_low : (n c v : ℕ) → bit_bytes n (v + c * 2 ^ n) ≡ bit_bytes n v
unfolding bit_bytes
bits_low zero c v = refl
bits_low (suc n) c v =
    let e : v + c * 2 ^ suc n ≡ v + c * 2 * 2 ^ n = ap (λ (m : ℕ). v + m) (ap (λ (m : ℕ). c * m) (pow-suc 2 n ∙ mul_comm (2 ^ n) 2) ∙ sym (mul_assoc c 2 (2 ^ n))) in
    ap₂ (λ (d : ℕ) (l : List ℕ). (48 + d) ∷ l)
    (ap (λ (m : ℕ). m / 2 ^ n % 2) e ∙ ap (λ (m : ℕ). m % 2) (add-mul-div_right v (c * 2) (pow_pos n)) ∙ omega arith)
    (ap (bit_bytes n) e ∙ bits_low n (c * 2) v)

pub bits_of_lem : {n : ℕ} (p : Packet n) → bits_of p ≡ bit_bytes n (value p)
unfolding bits_of bit_bytes value
bits_of_lem end = refl
bits_of_lem (bit {n} false p) =
    let d : 48 ≡ 48 + (0 + value p) / 2 ^ n % 2 = omega (arith, ap (λ (m : ℕ). m / 2 ^ n) (zero-add (value p)) ∙ div-eq_of_lt (value_small p)) in
    ap₂ (λ (b : ℕ) (l : List ℕ). b ∷ l) d (bits_of_lem p ∙ ap (bit_bytes n) (sym (zero-add (value p))))
bits_of_lem (bit {n} true p) =
    let e : value p + 1 * 2 ^ n ≡ 2 ^ n + value p = omega arith in
    let d : 49 ≡ 48 + (2 ^ n + value p) / 2 ^ n % 2 = omega (arith, ap (λ (m : ℕ). m / 2 ^ n) (sym e) ∙ add-mul-div_right (value p) 1 (pow_pos n), div-eq_of_lt (value_small p)) in
    ap₂ (λ (b : ℕ) (l : List ℕ). b ∷ l) d (bits_of_lem p ∙ sym (bits_low n 1 (value p)) ∙ ap (bit_bytes n) e)

pub packet_word_lem : (n : ℕ) (p : Packet n) → packet_word n p ≡ word_bytes n (value p)
packet_word_lem zero p = refl
packet_word_lem (suc n) p = bits_of_lem p

-- ---- lengths

packet_length : (n : ℕ) (p : Packet n) → length (packet_word n p) ≡ word_length n
packet_length n p = ap length (packet_word_lem n p) ∙ word_length_lem n (value p)

pub start_length : (n : ℕ) (p : Packet n) → length (start_bytes n p) ≡ 5 + word_length n
start_length n p = omega (arith, packet_length n p)

pub end_length : (n : ℕ) (p : Packet n) → length (end_bytes n p) ≡ 4 + word_length n + 1
end_length n p = omega (arith, length-append (packet_word n p) (10 ∷ []), packet_length n p)

pub words_length : (n : ℕ) (hs : List (Packet n)) → length (hop_words n hs) ≡ length hs * (word_length n + 1)
unfolding hop_words
words_length n [] = sym (zero-mul (word_length n + 1))
words_length n (h ∷ hs) = omega (arith, length-append (packet_word n h) (hop_words n hs), packet_length n h, words_length n hs)

pub hops_length_lem : (n : ℕ) (hs : List (Packet n)) → length (hop_bytes n hs) ≡ hops_length n (length hs)
hops_length_lem n [] = refl
hops_length_lem n (h ∷ hs) = omega (arith, words_length n (h ∷ hs))

pub sentence_length_lem : (n : ℕ) (w : Str n) (k : ℕ) → length w.hops ≡ k → length (sentence n w) ≡ sentence_length n k
sentence_length_lem n w k e =
    omega (
      arith,
      ap length (sentence_pieces n w),
      length-append (start_bytes n w.start) (hop_bytes n w.hops ++ end_bytes n w.end),
      length-append (hop_bytes n w.hops) (end_bytes n w.end),
      start_length n w.start,
      end_length n w.end,
      hops_length_lem n w.hops ∙ ap (hops_length n) e,
    )
