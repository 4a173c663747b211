-- The bytes of an answer determine its words, and its numbers below 2^64 (specs/RunSpec: PrintedSpec).
use Rattle.std.specs.Prelude.{if◌then◌else◌}
use mathlib.Core.Path.{◌≡◌, refl, sym, ◌∙◌, ap, ap₂}
use native.Mathlib.Omega.{arith}
use mathlib.Core.Bool.{Bool, true, false}
use mathlib.Core.List.{List, [], ◌∷◌, ◌++◌, map, append_assoc}
use mathlib.Core.Option.{Option, none, some}
use Prim.Native.Nat.{ℕ, zero, suc, ◌+◌, ◌*◌, ◌/◌, ◌%◌, ◌^◌, ◌≤◌, ◌<◌}
use lib.Dec.{eqb, ltb}
use borrow.Author.Tests.{eqb-true}
use Rattle.common.specs.Packets.{Packet, end, bit}
use Rattle.spp_steps.proofs.Laws.{by_test}
use Rattle.netkat.specs.Strings.{Str, str}
use Rattle.netkat.specs.Search.{Verdict, yes, no, spent}
use Rattle.book_steps.specs.Text.{bytes, Cut, line, before, cut, on_first, words, number, decimal_by, decimal}
use Rattle.book_steps.proofs.TextLaws.{decimal_read}
use Rattle.book_steps.specs.Answers.{say, verdict_word, share, name_of, empty_answer, live_answer, bits_of, packet_word, by_words, sentence, why_answer}
use Rattle.book_steps.specs.RunSpec.{PrintedSpec}
use Rattle.book_steps.proofs.AnswersLaws.{share_nearest, nearest_one}

-- neither byte 10 nor a space
abbrev Plain : List ℕ → Type 0
Plain [] = Unit
Plain (b ∷ w) = (¬ (b ≡ 10)) × (¬ (b ≡ 32)) × Plain w

abbrev AllPlain : List (List ℕ) → Type 0
AllPlain [] = Unit
AllPlain (w ∷ ws) = Plain w × AllPlain ws

-- the line of these words, without its byte 10
abbrev join : List (List ℕ) → List ℕ
join [] = []
join (w ∷ []) = w
join (w ∷ v ∷ ws) = w ++ (32 ∷ join (v ∷ ws))

test_not : (a b : ℕ) → ¬ (a ≡ b) → eqb a b ≡ false
test_not a b n = by_test (eqb a b) (λ e. absurd (n (eqb-true a b e))) (λ e. e)

-- ---- a line is cut where it ends

abbrev NoEnd : List ℕ → Type 0
NoEnd [] = Unit
NoEnd (b ∷ l) = (¬ (b ≡ 10)) × NoEnd l

no_end : (w l : List ℕ) → Plain w → NoEnd l → NoEnd (w ++ l)
no_end [] l p q = q
no_end (b ∷ w) l (m, n, p) q = (m, no_end w l p q)

plain_end : (w : List ℕ) → Plain w → NoEnd w
plain_end [] p = tt
plain_end (b ∷ w) (m, n, p) = (m, plain_end w p)

join_end : (ws : List (List ℕ)) → AllPlain ws → NoEnd (join ws)
join_end [] p = tt
join_end (w ∷ []) (p, q) = plain_end w p
join_end (w ∷ v ∷ ws) (p, q) = no_end w (32 ∷ join (v ∷ ws)) p (λ e. omega arith, join_end (v ∷ ws) q)

cut_line : (l : List ℕ) → NoEnd l → cut (l ++ 10 ∷ []) ≡ line l []
unfolding cut
cut_line [] p = refl
cut_line (b ∷ l) (m, p) =
    ap (λ (c : Bool). if c then line [] (l ++ 10 ∷ []) else before b (cut (l ++ 10 ∷ []))) (test_not b 10 m) ∙ ap (before b) (cut_line l p)

say_join : (ws : List (List ℕ)) → say ws ≡ join ws ++ 10 ∷ []
unfolding say
say_join [] = refl
say_join (w ∷ []) = refl
say_join (w ∷ v ∷ ws) = ap (λ (l : List ℕ). w ++ (32 ∷ l)) (say_join (v ∷ ws)) ∙ sym (append_assoc w (32 ∷ join (v ∷ ws)) (10 ∷ []))

-- ---- .. and its words are read

words_last : (w : List ℕ) → Plain w → words w ≡ w ∷ []
unfolding words
words_last [] p = refl
words_last (b ∷ w) (m, n, p) =
    ap (λ (c : Bool). if c then ([] ∷ words w) else on_first b (words w)) (test_not b 32 n) ∙ ap (on_first b) (words_last w p)

words_first : (w l : List ℕ) → Plain w → words (w ++ (32 ∷ l)) ≡ w ∷ words l
unfolding words
words_first [] l p = refl
words_first (b ∷ w) l (m, n, p) =
    ap (λ (c : Bool). if c then ([] ∷ words (w ++ (32 ∷ l))) else on_first b (words (w ++ (32 ∷ l)))) (test_not b 32 n) ∙ ap (on_first b) (words_first w l p)

words_join : (w : List ℕ) (ws : List (List ℕ)) → AllPlain (w ∷ ws) → words (join (w ∷ ws)) ≡ w ∷ ws
words_join w [] (p, q) = words_last w p
words_join w (v ∷ ws) (p, q) = words_first w (join (v ∷ ws)) p ∙ ap (λ (us : List (List ℕ)). w ∷ us) (words_join v ws q)

-- lines that are the same have the same words
same_line : {l m a b : List ℕ} → line l a ≡ line m b → l ≡ m
same_line e = cc

pub say_words : (w v : List ℕ) (ws vs : List (List ℕ)) → AllPlain (w ∷ ws) → AllPlain (v ∷ vs) → say (w ∷ ws) ≡ say (v ∷ vs) → w ∷ ws ≡ v ∷ vs
say_words w v ws vs p q e =
    let a = ap cut (say_join (w ∷ ws)) ∙ cut_line (join (w ∷ ws)) (join_end (w ∷ ws) p) in
    let b = ap cut (say_join (v ∷ vs)) ∙ cut_line (join (v ∷ vs)) (join_end (v ∷ vs) q) in
    let l = same_line (sym a ∙ ap cut e ∙ b) in
    sym (words_join w ws p) ∙ ap words l ∙ words_join v vs q

-- ---- numbers

plain_more : (v w : List ℕ) → Plain v → Plain w → Plain (v ++ w)
plain_more [] w p q = q
plain_more (b ∷ v) w (m, n, p) q = (m, n, plain_more v w p q)

decimal_plain : (k n : ℕ) → Plain (decimal_by k n)
unfolding decimal_by
decimal_plain zero n = (λ q. omega arith, λ q. omega arith, tt)
decimal_plain (suc k) n = go (ltb n 10) (decimal_plain k (n / 10))
  where
    go : (b : Bool) → Plain (decimal_by k (n / 10)) → Plain (if b then (48 + n) ∷ [] else (decimal_by k (n / 10) ++ (48 + n % 10) ∷ []))
    go true p = (λ q. omega arith, λ q. omega arith, tt)
    go false p = plain_more (decimal_by k (n / 10)) ((48 + n % 10) ∷ []) p (λ q. omega arith, λ q. omega arith, tt)

number_plain : (n : ℕ) → Plain (decimal n)
unfolding decimal
number_plain n = decimal_plain 19 n

some_same : {m n : ℕ} → some m ≡ some n → m ≡ n
some_same e = cc

decimal_one : (m n : ℕ) → m < 2 ^ 64 → n < 2 ^ 64 → decimal m ≡ decimal n → m ≡ n
decimal_one m n l k e = some_same (sym (decimal_read m l) ∙ ap number e ∙ decimal_read n k)

verdict_plain : (v : Verdict) → Plain (verdict_word v)
verdict_plain yes = (λ q. omega arith, λ q. omega arith, (λ q. omega arith, λ q. omega arith, (λ q. omega arith, λ q. omega arith, tt)))
verdict_plain no = (λ q. omega arith, λ q. omega arith, (λ q. omega arith, λ q. omega arith, tt))
verdict_plain spent = (λ q. omega arith, λ q. omega arith, (λ q. omega arith, λ q. omega arith, (λ q. omega arith, λ q. omega arith, (λ q. omega arith, λ q. omega arith, (λ q. omega arith, λ q. omega arith, tt)))))

first_byte : {a b : ℕ} {v w : List ℕ} → ◌≡◌ {A = List ℕ} (a ∷ v) (b ∷ w) → a ≡ b
first_byte e = cc

verdict_one : (v w : Verdict) → verdict_word v ≡ verdict_word w → v ≡ w
verdict_one yes yes e = refl
verdict_one yes no e = absurd (let z : ◌≡◌ {A = ℕ} 121 110 = first_byte e in omega arith)
verdict_one yes spent e = absurd (let z : ◌≡◌ {A = ℕ} 121 115 = first_byte e in omega arith)
verdict_one no yes e = absurd (let z : ◌≡◌ {A = ℕ} 110 121 = first_byte e in omega arith)
verdict_one no no e = refl
verdict_one no spent e = absurd (let z : ◌≡◌ {A = ℕ} 110 115 = first_byte e in omega arith)
verdict_one spent yes e = absurd (let z : ◌≡◌ {A = ℕ} 115 121 = first_byte e in omega arith)
verdict_one spent no e = absurd (let z : ◌≡◌ {A = ℕ} 115 110 = first_byte e in omega arith)
verdict_one spent spent e = refl

-- ---- the answers

four_same : {a b c d e f g h : List ℕ} → ◌≡◌ {A = List (List ℕ)} (a ∷ b ∷ c ∷ d ∷ []) (e ∷ f ∷ g ∷ h ∷ []) → (b ≡ f) × (c ≡ g) × (d ≡ h)
four_same q = (cc, cc, cc)

word_empty : Plain (bytes "empty")
word_empty = (λ q. omega arith, λ q. omega arith, (λ q. omega arith, λ q. omega arith, (λ q. omega arith, λ q. omega arith, (λ q. omega arith, λ q. omega arith, (λ q. omega arith, λ q. omega arith, tt)))))

word_live : Plain (bytes "live")
word_live = (λ q. omega arith, λ q. omega arith, (λ q. omega arith, λ q. omega arith, (λ q. omega arith, λ q. omega arith, (λ q. omega arith, λ q. omega arith, tt))))

word_from : Plain (bytes "from")
word_from = (λ q. omega arith, λ q. omega arith, (λ q. omega arith, λ q. omega arith, (λ q. omega arith, λ q. omega arith, (λ q. omega arith, λ q. omega arith, tt))))

word_none : Plain (bytes "none")
word_none = (λ q. omega arith, λ q. omega arith, (λ q. omega arith, λ q. omega arith, (λ q. omega arith, λ q. omega arith, (λ q. omega arith, λ q. omega arith, tt))))

pub empty_one : (a b c d : ℕ) (v w : Verdict) → a < 2 ^ 64 → b < 2 ^ 64 → c < 2 ^ 64 → d < 2 ^ 64 → empty_answer (name_of a) v c ≡ empty_answer (name_of b) w d → (a ≡ b) × (v ≡ w) × (c ≡ d)
empty_one a b c d v w la lb lc ld e =
    let (x, y, z) = four_same (say_words (bytes "empty") (bytes "empty") (decimal a ∷ verdict_word v ∷ decimal c ∷ []) (decimal b ∷ verdict_word w ∷ decimal d ∷ [])
    (word_empty, (number_plain a, (verdict_plain v, (number_plain c, tt)))) (word_empty, (number_plain b, (verdict_plain w, (number_plain d, tt)))) e) in
    (decimal_one a b la lb x, verdict_one v w y, decimal_one c d lc ld z)

pub live_one : (N a b c d : ℕ) → a < 2 ^ 64 → b < 2 ^ 64 → c < 2 ^ 64 → d < 2 ^ 64 → live_answer N (name_of a) c ≡ live_answer N (name_of b) d → (a ≡ b) × (c ≡ d)
live_one N a b c d la lb lc ld e =
    let (x, y, z) = four_same (say_words (bytes "live") (bytes "live") (decimal a ∷ decimal c ∷ decimal (share c (2 ^ N)) ∷ []) (decimal b ∷ decimal d ∷ decimal (share d (2 ^ N)) ∷ [])
    (word_live, (number_plain a, (number_plain c, (number_plain (share c (2 ^ N)), tt)))) (word_live, (number_plain b, (number_plain d, (number_plain (share d (2 ^ N)), tt)))) e) in
    (decimal_one a b la lb x, decimal_one c d lc ld y)

-- ---- a sentence

bits_plain : {n : ℕ} (p : Packet n) → Plain (bits_of p)
unfolding bits_of
bits_plain end = tt
bits_plain (bit true p) = (λ q. omega arith, λ q. omega arith, bits_plain p)
bits_plain (bit false p) = (λ q. omega arith, λ q. omega arith, bits_plain p)

packet_plain : (n : ℕ) (p : Packet n) → Plain (packet_word n p)
packet_plain zero p = (λ q. omega arith, λ q. omega arith, tt)
packet_plain (suc n) p = bits_plain p

later_bytes : {a b : ℕ} {v w : List ℕ} → ◌≡◌ {A = List ℕ} (a ∷ v) (b ∷ w) → v ≡ w
later_bytes e = cc

bits_one : {n : ℕ} (p q : Packet n) → bits_of p ≡ bits_of q → p ≡ q
unfolding bits_of
bits_one end end e = refl
bits_one (bit true p) (bit true q) e = ap (bit true) (bits_one p q (later_bytes e))
bits_one (bit true p) (bit false q) e = absurd (let z : ◌≡◌ {A = ℕ} 49 48 = first_byte e in omega arith)
bits_one (bit false p) (bit true q) e = absurd (let z : ◌≡◌ {A = ℕ} 48 49 = first_byte e in omega arith)
bits_one (bit false p) (bit false q) e = ap (bit false) (bits_one p q (later_bytes e))

packet_one : (n : ℕ) (p q : Packet n) → packet_word n p ≡ packet_word n q → p ≡ q
packet_one zero end end e = refl
packet_one (suc n) p q e = bits_one p q e

-- a packet is not the word behind the hops
not_to : (n : ℕ) (p : Packet n) → ¬ (packet_word n p ≡ bytes "to")
unfolding bits_of
not_to zero p e = let z : ◌≡◌ {A = ℕ} 45 116 = first_byte e in omega arith
not_to (suc n) (bit true p) e = let z : ◌≡◌ {A = ℕ} 49 116 = first_byte e in omega arith
not_to (suc n) (bit false p) e = let z : ◌≡◌ {A = ℕ} 48 116 = first_byte e in omega arith

first_word : {v w : List ℕ} {vs ws : List (List ℕ)} → v ∷ vs ≡ w ∷ ws → v ≡ w
first_word e = cc

later_words : {v w : List ℕ} {vs ws : List (List ℕ)} → v ∷ vs ≡ w ∷ ws → vs ≡ ws
later_words e = cc

module _ (n : ℕ) where
  abbrev to_words : Packet n → List (List ℕ)
  to_words z = bytes "to" ∷ packet_word n z ∷ []

  abbrev str_words : Str n → List (List ℕ)
  str_words w = packet_word n w.start ∷ (by_words n w.hops ++ to_words w.end)

  to_one : (y z : Packet n) → to_words y ≡ to_words z → y ≡ z
  to_one y z e = packet_one n y z (first_word (later_words e))

  hops_one : (gs hs : List (Packet n)) (y z : Packet n) → map (packet_word n) gs ++ to_words y ≡ map (packet_word n) hs ++ to_words z → (gs ≡ hs) × (y ≡ z)
  hops_one [] [] y z e = (refl, to_one y z e)
  hops_one [] (h ∷ hs) y z e = absurd (not_to n h (sym (first_word e)))
  hops_one (g ∷ gs) [] y z e = absurd (not_to n g (first_word e))
  hops_one (g ∷ gs) (h ∷ hs) y z e =
      let (a, b) = hops_one gs hs y z (later_words e) in
      (ap₂ (λ (p : Packet n) (ps : List (Packet n)). p ∷ ps) (packet_one n g h (first_word e)) a, b)

  by_one : (gs hs : List (Packet n)) (y z : Packet n) → by_words n gs ++ to_words y ≡ by_words n hs ++ to_words z → (gs ≡ hs) × (y ≡ z)
  by_one [] [] y z e = (refl, to_one y z e)
  by_one [] (h ∷ hs) y z e = absurd (let q : ◌≡◌ {A = ℕ} 116 98 = first_byte (first_word e) in omega arith)
  by_one (g ∷ gs) [] y z e = absurd (let q : ◌≡◌ {A = ℕ} 98 116 = first_byte (first_word e) in omega arith)
  by_one (g ∷ gs) (h ∷ hs) y z e = hops_one (g ∷ gs) (h ∷ hs) y z (later_words e)

  str_one : (v w : Str n) → str_words v ≡ str_words w → v ≡ w
  str_one v w e =
      let (a, b) = by_one v.hops w.hops v.end w.end (later_words e) in
      ap (λ (p : Packet n). str p v.hops v.end) (packet_one n v.start w.start (first_word e))
      ∙ ap₂ (λ (hs : List (Packet n)) (z : Packet n). str w.start hs z) a b

  to_plain : (z : Packet n) → AllPlain (to_words z)
  to_plain z = ((λ q. omega arith, λ q. omega arith, (λ q. omega arith, λ q. omega arith, tt)), (packet_plain n z, tt))

  hops_plain : (hs : List (Packet n)) (z : Packet n) → AllPlain (map (packet_word n) hs ++ to_words z)
  hops_plain [] z = to_plain z
  hops_plain (h ∷ hs) z = (packet_plain n h, hops_plain hs z)

  by_plain : (hs : List (Packet n)) (z : Packet n) → AllPlain (by_words n hs ++ to_words z)
  by_plain [] z = to_plain z
  by_plain (h ∷ hs) z = ((λ q. omega arith, λ q. omega arith, (λ q. omega arith, λ q. omega arith, tt)), hops_plain (h ∷ hs) z)

  sentence_plain : (w : Str n) → AllPlain (bytes "from" ∷ str_words w)
  sentence_plain w = (word_from, (packet_plain n w.start, by_plain w.hops w.end))

  pub why_one : (v w : Option (Str n)) → why_answer n v ≡ why_answer n w → v ≡ w
  unfolding sentence
  why_one none none e = refl
  why_one none (some w) e = absurd (let q : ◌≡◌ {A = ℕ} 110 102 = first_byte (first_word (say_words (bytes "none") (bytes "from") [] (str_words w) (word_none, tt) (sentence_plain w) e)) in omega arith)
  why_one (some v) none e = absurd (let q : ◌≡◌ {A = ℕ} 102 110 = first_byte (first_word (say_words (bytes "from") (bytes "none") (str_words v) [] (sentence_plain v) (word_none, tt) e)) in omega arith)
  why_one (some v) (some w) e = ap (λ (u : Str n). some u) (str_one v w (later_words (say_words (bytes "from") (bytes "from") (str_words v) (str_words w) (sentence_plain v) (sentence_plain w) e)))

pub printed : PrintedSpec
printed = record { empty = empty_one; live = live_one; why = why_one; nearest = share_nearest; no_other = λ count total s l a. nearest_one l a (share_nearest count total l) }
