-- 02 (ii): "Block 0 is fields, budget .., counts ..; from block 1, without gaps, come those records in that order, states by words 0 to 3, a line by its state + 1": which word of the tables each word of an image is.
use mathlib.Core.Path.{◌≡◌, refl, sym, ◌∙◌, ap}
use mathlib.Core.Bool.{Bool, true, false}
use mathlib.Core.List.{List, [], ◌∷◌, ◌++◌}
use mathlib.Core.Option.{Option, none}
use Prim.Native.Nat.{ℕ, zero, suc, ◌+◌, ◌*◌, ◌-◌, ◌/◌, ◌%◌, ◌≤◌, ◌<◌}
use native.Mathlib.Omega.{arith}
use lib.Dec.{ltb}
use lib.ListN.{length, get_or, take, length-append, get_or-append, get_or-eq_default}
use lib.Seq.{length-take-le, get_or-take, get_or-append-add}
use borrow.Author.Tests.{ltb-true, ltb-false}
use Rattle.aut_steps.specs.Tables.{words}
use Rattle.aut_steps.proofs.Facts.{words_length}
use Rattle.image_steps.specs.Image.{head_words, state_words, line_word, line_words}
use Rattle.book_memory.specs.declared.Setting.{Setting}
use Rattle.book_memory.specs.declared.Place.{Place}
use Rattle.book_memory.specs.Place.{stands_for, lines_of}
use Rattle.book_memory.proofs.Table.{lines_length, line_named}
use Rattle.image_words.specs.declared.Head.{Head}
use Rattle.image_words.specs.Clauses.{head_of as read_of}
use Rattle.image_save.specs.Clauses.{Few, Present, HeadOf, record_at, head_at, word_in}

-- ---- one list behind another

before : (xs ys : List ℕ) (n i : ℕ) → length xs ≡ n → i < n → get_or (xs ++ ys) i 0 ≡ get_or xs i 0
before xs ys n i e l = get_or-append xs ys 0 i (omega arith)

behind : (xs ys : List ℕ) (n i : ℕ) → length xs ≡ n → n ≤ i → get_or (xs ++ ys) i 0 ≡ get_or ys (i - n) 0
behind xs ys n i e l =
    ap (λ (j : ℕ). get_or (xs ++ ys) j 0) {x = i} {y = length xs + (i - n)} (omega arith) ∙ get_or-append-add xs ys (i - n) 0

-- ---- states by words 0 to 3

words_at : (s : List ℕ) (a k i : ℕ) → i < k → get_or (words s a k) i 0 ≡ get_or s (a + i) 0
unfolding words
words_at s a zero i l = absurd (omega arith)
words_at s a (suc k) zero l = ap (λ (j : ℕ). get_or s j 0) {x = a} {y = a + 0} (omega arith)
words_at s a (suc k) (suc i) l = words_at s (a + 1) k i (omega arith) ∙ ap (λ (j : ℕ). get_or s j 0) {x = a + 1 + i} {y = a + suc i} (omega arith)

states_length : (st : List ℕ) (n : ℕ) → length (state_words st n) ≡ 4 * n
unfolding state_words
states_length st zero = refl
states_length st (suc n) = omega (arith, length-append (state_words st n) (words st (12 * n) 4), states_length st n, words_length st (12 * n) 4)

states_at : (st : List ℕ) (n i : ℕ) → i < 4 * n → get_or (state_words st n) i 0 ≡ get_or st (12 * (i / 4) + i % 4) 0
unfolding state_words
states_at st zero i l = absurd (omega arith)
states_at st (suc n) i l = go (ltb i (4 * n)) refl (states_at st n i)
  where
    go : (b : Bool) → ltb i (4 * n) ≡ b → (i < 4 * n → get_or (state_words st n) i 0 ≡ get_or st (12 * (i / 4) + i % 4) 0)
        → get_or (state_words st n ++ words st (12 * n) 4) i 0 ≡ get_or st (12 * (i / 4) + i % 4) 0
    go true e again = before (state_words st n) (words st (12 * n) 4) (4 * n) i (states_length st n) (ltb-true i (4 * n) e) ∙ again (ltb-true i (4 * n) e)
    go false e again =
        let m : 4 * n ≤ i = ltb-false i (4 * n) e in
        behind (state_words st n) (words st (12 * n) 4) (4 * n) i (states_length st n) m
        ∙ words_at st (12 * n) 4 (i - 4 * n) (omega arith)
        ∙ ap (λ (j : ℕ). get_or st j 0) {x = 12 * n + (i - 4 * n)} {y = 12 * (i / 4) + i % 4} (omega arith)

-- ---- a line by its state + 1

line_words_length : (ls : List (Option ℕ)) → length (line_words ls) ≡ length ls
unfolding line_words
line_words_length [] = refl
line_words_length (l ∷ ls) = ap suc (line_words_length ls)

line_words_at : (ls : List (Option ℕ)) (i : ℕ) → get_or (line_words ls) i 0 ≡ line_word (get_or ls i none)
unfolding line_words
line_words_at [] i = refl
line_words_at (l ∷ ls) zero = refl
line_words_at (l ∷ ls) (suc i) = line_words_at ls i

-- the word that says what a line stands for
word_is : (v : ℕ) → line_word (stands_for v) ≡ v
word_is zero = refl
word_is (suc x) = omega arith

lines_are : (s : List ℕ) (k : ℕ) → length (line_words (lines_of s k)) ≡ k
lines_are s k = line_words_length (lines_of s k) ∙ lines_length s k

lines_at : (s : List ℕ) (k i : ℕ) → i < k → get_or (line_words (lines_of s k)) i 0 ≡ get_or s i 0
lines_at s k i l = line_words_at (lines_of s k) i ∙ ap line_word (line_named s k i l) ∙ word_is (get_or s i 0)

-- ---- the records

module _ (x : Place) where
  abbrev packets : List ℕ
  packets = take (2 * x.aut.sp.count) x.aut.sp.nodes.now

  abbrev relations : List ℕ
  relations = take (4 * x.aut.spp.count) x.aut.spp.nodes.now

  abbrev listed : List ℕ
  listed = take x.aut.members.count x.aut.members.words.now

  abbrev plain : List ℕ
  plain = state_words x.aut.states.words.now x.aut.states.count

  abbrev line_list : List ℕ
  line_list = line_words (lines_of x.lines.words.now x.lines.count)

  abbrev from_states : List ℕ
  from_states = plain ++ line_list

  abbrev from_members : List ℕ
  from_members = listed ++ from_states

  abbrev from_nodes : List ℕ
  from_nodes = relations ++ from_members

  module _ (P : Present x) (i : ℕ) where
    packets_size : length packets ≡ 2 * x.aut.sp.count
    packets_size = length-take-le (2 * x.aut.sp.count) x.aut.sp.nodes.now P.sp

    relations_size : length relations ≡ 4 * x.aut.spp.count
    relations_size = length-take-le (4 * x.aut.spp.count) x.aut.spp.nodes.now P.spp

    listed_size : length listed ≡ x.aut.members.count
    listed_size = length-take-le x.aut.members.count x.aut.members.words.now P.members

    pub is_packet : i < 2 * x.aut.sp.count → get_or x.aut.sp.nodes.now i 0 ≡ record_at x i
    is_packet l = sym (before packets from_nodes (2 * x.aut.sp.count) i packets_size l ∙ get_or-take (2 * x.aut.sp.count) x.aut.sp.nodes.now i 0 l)

    module _ (p : 2 * x.aut.sp.count ≤ i) where
      abbrev i1 : ℕ
      i1 = i - 2 * x.aut.sp.count

      past_packets : record_at x i ≡ get_or from_nodes i1 0
      past_packets = behind packets from_nodes (2 * x.aut.sp.count) i packets_size p

      pub is_relation : i1 < 4 * x.aut.spp.count → get_or x.aut.spp.nodes.now i1 0 ≡ record_at x i
      is_relation l = sym (past_packets ∙ before relations from_members (4 * x.aut.spp.count) i1 relations_size l ∙ get_or-take (4 * x.aut.spp.count) x.aut.spp.nodes.now i1 0 l)

      module _ (q : 4 * x.aut.spp.count ≤ i1) where
        abbrev i2 : ℕ
        i2 = i1 - 4 * x.aut.spp.count

        past_relations : record_at x i ≡ get_or from_members i2 0
        past_relations = past_packets ∙ behind relations from_members (4 * x.aut.spp.count) i1 relations_size q

        pub is_member : i2 < x.aut.members.count → get_or x.aut.members.words.now i2 0 ≡ record_at x i
        is_member l = sym (past_relations ∙ before listed from_states x.aut.members.count i2 listed_size l ∙ get_or-take x.aut.members.count x.aut.members.words.now i2 0 l)

        module _ (r : x.aut.members.count ≤ i2) where
          abbrev i3 : ℕ
          i3 = i2 - x.aut.members.count

          past_members : record_at x i ≡ get_or from_states i3 0
          past_members = past_relations ∙ behind listed from_states x.aut.members.count i2 listed_size r

          pub is_state : i3 < 4 * x.aut.states.count → get_or x.aut.states.words.now (12 * (i3 / 4) + i3 % 4) 0 ≡ record_at x i
          is_state l =
              sym
              (past_members
              ∙ before plain line_list (4 * x.aut.states.count) i3 (states_length x.aut.states.words.now x.aut.states.count) l
              ∙ states_at x.aut.states.words.now x.aut.states.count i3 l)

          module _ (s : 4 * x.aut.states.count ≤ i3) where
            abbrev i4 : ℕ
            i4 = i3 - 4 * x.aut.states.count

            past_states : record_at x i ≡ get_or line_list i4 0
            past_states = past_members ∙ behind plain line_list (4 * x.aut.states.count) i3 (states_length x.aut.states.words.now x.aut.states.count) s

            pub is_line : i4 < x.lines.count → get_or x.lines.words.now i4 0 ≡ record_at x i
            is_line l = sym (past_states ∙ lines_at x.lines.words.now x.lines.count i4 l)

            pub is_nothing : x.lines.count ≤ i4 → 0 ≡ record_at x i
            is_nothing l = sym (past_states ∙ get_or-eq_default line_list 0 (omega (arith, lines_are x.lines.words.now x.lines.count)))

-- ---- block 0

pub head_given : (S : Setting) (x : Place) → Few x
    → HeadOf S x (record { fields = S.config.fields; budget = S.budget; sp = x.aut.sp.count; spp = x.aut.spp.count; members = x.aut.members.count; states = x.aut.states.count; lines = x.lines.count })
head_given S x f = record {
  is = ap (λ (n : ℕ). record { fields = S.config.fields; budget = S.budget; sp = x.aut.sp.count; spp = x.aut.spp.count; members = x.aut.members.count; states = x.aut.states.count; lines = n })
      (sym (lines_length x.lines.words.now x.lines.count));
  small = record { sp = omega (arith, f.sp); spp = omega (arith, f.spp); members = omega (arith, f.members); states = omega (arith, f.states); lines = omega (arith, f.lines) };
}

pub head_is : (h : Head) (j n r : ℕ) → j ≡ n → r ≡ head_at h n → r ≡ head_at h j
head_is h j n r e p = p ∙ ap (λ (i : ℕ). get_or (head_words (read_of h)) i 0) (sym e)

pub head_over : (h : Head) (j : ℕ) → 8 ≤ j → 0 ≡ head_at h j
head_over h j l = sym (get_or-eq_default (head_words (read_of h)) 0 {n = j} (omega arith))

-- ---- word j of block b

pub head_word_is : (h : Head) (x : Place) (b j r : ℕ) → b ≡ 0 → r ≡ head_at h j → r ≡ word_in h x b j
head_word_is h x b j r e p = p ∙ ap (λ (b : ℕ). word_in h x b j) (sym e)

pub record_word_is : (h : Head) (x : Place) (b j r : ℕ) → (b ≡ 0 → ⊥) → r ≡ record_at x (127 * (b - 1) + j) → r ≡ word_in h x b j
record_word_is h x zero j r n e = absurd (n refl)
record_word_is h x (suc b) j r n e = e ∙ ap (λ (a : ℕ). record_at x (127 * a + j)) {x = suc b - 1} {y = b} (omega arith)
