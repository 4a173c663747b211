-- The parts of the sentence of `why`: how long they are, and what they are of packets.
use mathlib.Core.Path.{◌≡◌, refl, sym, ◌∙◌, ap}
use mathlib.Core.Bool.{Bool, true, false}
use mathlib.Core.List.{List, [], ◌∷◌, ◌++◌, append_assoc, append-nil}
use Prim.Native.Nat.{ℕ, zero, suc, ◌+◌, ◌*◌, ◌≤◌, ◌<◌}
use native.Mathlib.Omega.{arith}
use native.Mathlib.Nat.{mul-le-mul_right}
use lib.ListN.{length, length-append}
use Rattle.common.specs.Packets.{Packet}
use Rattle.netkat.specs.Strings.{str}
use Rattle.netkat_paths.specs.Order.{value}
use Rattle.book_steps.specs.Text.{bytes}
use Rattle.book_steps.specs.Answers.{packet_word, sentence}
use Rattle.book_steps.specs.Sentence.{word_bytes, word_length, start_bytes, hop_words, hop_bytes, end_bytes, hops_length, sentence_length}
use Rattle.book_steps.proofs.Sentence.{packet_word_lem, start_length, hops_length_lem, sentence_pieces}
use Rattle.book_writer.specs.Clauses.{PutAt, last_digits, start_part, hop_part, end_part}
use Rattle.book_writer.proofs.Contracts.{put_append, put_of}
use Rattle.book_writer.proofs.Rights.{bits_are}

-- ---- a packet's word

pub word_some : (n : ℕ) → 0 < n → word_length n ≡ n
word_some zero l = absurd (omega arith)
word_some (suc n) l = refl

pub word_least : (n : ℕ) → 0 < word_length n
word_least zero = omega arith
word_least (suc n) = omega arith

pub word_dash : (n packet : ℕ) → n ≡ 0 → bytes "-" ≡ word_bytes n packet
word_dash zero packet e = refl
word_dash (suc n) packet e = absurd (omega arith)

pub word_bits : (n packet : ℕ) → 0 < n → last_digits 2 n packet ≡ word_bytes n packet
word_bits zero packet l = absurd (omega arith)
word_bits (suc n) packet l = bits_are (suc n) packet

-- ---- lengths

pub hops_some : (n k : ℕ) → 0 < k → hops_length n k ≡ 3 + k * (word_length n + 1)
hops_some n zero l = absurd (omega arith)
hops_some n (suc k) l = refl

-- behind j of k hops there is room for one more
pub hop_room : (n j k : ℕ) → j < k → 5 + word_length n + hops_length n j + (4 + word_length n) ≤ sentence_length n k
hop_room n zero k l = omega (arith, hops_some n k (omega arith))
hop_room n (suc j) k l =
    let h : suc j ≤ k = omega arith in
    omega (arith, hops_some n k (omega arith), mul-le-mul_right (word_length n + 1) h)

-- ---- of the packet that has the number

module _ (n : ℕ) (p : Packet n) {packet : ℕ} (e : value p ≡ packet) where
  word_is : word_bytes n packet ≡ packet_word n p
  word_is = ap (word_bytes n) (sym e) ∙ sym (packet_word_lem n p)

  pub start_is : start_part n packet ≡ start_bytes n p
  start_is = ap (λ (w : List ℕ). bytes "from " ++ w) word_is

  pub end_is : end_part n packet ≡ end_bytes n p
  end_is = ap (λ (w : List ℕ). bytes " to " ++ (w ++ 10 ∷ [])) word_is

  words_more : (hs : List (Packet n)) → hop_words n hs ++ hop_part n false packet ≡ hop_words n (hs ++ p ∷ [])
  unfolding hop_words
  words_more [] = ap (λ (w : List ℕ). 32 ∷ w) (word_is ∙ sym (append-nil (packet_word n p)))
  words_more (h ∷ hs) =
      ap (λ (w : List ℕ). 32 ∷ w) (append_assoc (packet_word n h) (hop_words n hs) (hop_part n false packet) ∙ ap (λ (w : List ℕ). packet_word n h ++ w) (words_more hs))

  -- one more hop
  pub hop_is : (first : Bool) (hs : List (Packet n)) → (first ≡ true → length hs ≡ 0) → (first ≡ false → 0 < length hs) → hop_bytes n hs ++ hop_part n first packet ≡ hop_bytes n (hs ++ p ∷ [])
  unfolding hop_words
  hop_is true [] none some = ap (λ (w : List ℕ). bytes " by " ++ w) (word_is ∙ sym (append-nil (packet_word n p)))
  hop_is true (h ∷ hs) none some = absurd (omega (arith, none refl))
  hop_is false [] none some = absurd (omega (arith, some refl))
  hop_is false (h ∷ hs) none some = ap (λ (w : List ℕ). bytes " by" ++ w) (words_more (h ∷ hs))

-- ---- the sentence, part by part

module _ (n : ℕ) (a : Packet n) where
  -- the start and some hops
  abbrev pub begun : List (Packet n) → List ℕ
  begun hs = start_bytes n a ++ hop_bytes n hs

  pub begun_length : (hs : List (Packet n)) → length (begun hs) ≡ 5 + word_length n + hops_length n (length hs)
  begun_length hs = omega (arith, length-append (start_bytes n a) (hop_bytes n hs), start_length n a, hops_length_lem n hs)

  pub put_begun : {at r packet : ℕ} {s s' : List ℕ} → value a ≡ packet → PutAt at (start_part n packet) r s s' → PutAt at (begun []) r s s'
  put_begun e P = put_of (start_is n a e ∙ sym (append-nil (start_bytes n a))) P

  module _ {at r r' packet : ℕ} {s s' s'' : List ℕ} (hs : List (Packet n)) (P : PutAt at (begun hs) r s s') (p : Packet n) (e : value p ≡ packet) where
    -- one more hop
    pub put_hop : (first : Bool) → (first ≡ true → length hs ≡ 0) → (first ≡ false → 0 < length hs) → PutAt r (hop_part n first packet) r' s' s'' → PutAt at (begun (hs ++ p ∷ [])) r' s s''
    put_hop first none some Q =
        put_of
        (append_assoc (start_bytes n a) (hop_bytes n hs) (hop_part n first packet)
        ∙ ap (λ (l : List ℕ). start_bytes n a ++ l) (hop_is n p e first hs none some))
        (put_append P Q)

    -- .. or the end
    pub put_end : PutAt r (end_part n packet) r' s' s'' → PutAt at (sentence n (str a hs p)) r' s s''
    put_end Q =
        put_of
        (append_assoc (start_bytes n a) (hop_bytes n hs) (end_part n packet)
        ∙ ap (λ (l : List ℕ). start_bytes n a ++ (hop_bytes n hs ++ l)) (end_is n p e)
        ∙ sym (sentence_pieces n (str a hs p)))
        (put_append P Q)
