-- The lines that a line names, one after the other.
use mathlib.Core.Path.{◌≡◌, refl, sym, ◌∙◌, ap, subst}
use mathlib.Core.List.{List, [], ◌∷◌, ◌++◌, append-nil, append_assoc}
use mathlib.Core.Option.{Option, none, some}
use Prim.Native.Nat.{ℕ, ◌+◌, ◌≤◌, ◌<◌}
use native.Mathlib.Omega.{arith}
use lib.Dec.{ltb}
use borrow.Author.Tests.{ltb-true, ltb-false}
use Rattle.spp_steps.proofs.Laws.{by_test}
use lib.ListN.{length, get_or, set, length-append}
use Rattle.aut_steps.specs.Tables.{words}
use Rattle.aut_steps.specs.Ascending.{All}
use Rattle.aut_steps.proofs.ListLaws.{all_append}
use Rattle.aut_steps.specs.Scratch.{Kept}
use Rattle.aut_steps.proofs.Scratch.{kept_refl, kept_trans, kept_sets, words_append}
use Rattle.book_steps.specs.Reader as Reader
use Rattle.book_steps.specs.Reader.{given, giving, numbers, refuses}
use Rattle.book_reader.specs.Clauses.{rest, behind, bad, taken}
use Rattle.std.specs.Prelude.{Ok, Err}
use Rattle.refusal.specs.declared.Refusal.TheVariants as refusals
use Rattle.book_reader.specs.declared.Cursor.{Cursor}
use Rattle.book_reader.proofs.Saying.{numbers_behind, numbers_bad, list_is}
use Rattle.book_memory.specs.declared.Lines.{Lines as Table}
use Rattle.book_memory.specs.declared.Place.{Place}
use Rattle.book_memory.specs.Place.{lines_of, lines_in, Below}
use Rattle.book_place.specs.Clauses.{OnlyWork, PreOperand, Took, Missed, no_number, no_line, PreOperands, PostOperands}

-- ---- what follows of all names

abbrev Goal : Type 0
Goal = List ℕ → Reader.Resolved ℕ

given_same : (N : ℕ) (lines : List (Option ℕ)) (o : Option ℕ) {K J : ℕ → Reader.Resolved ℕ} → ((x : ℕ) → K x ≡ J x) → given N lines o K ≡ given N lines o J
given_same N lines none f = refl
given_same N lines (some x) f = f x

pub giving_same : (N : ℕ) (lines : List (Option ℕ)) (l : List ℕ) (K J : Goal) → ((xs : List ℕ) → K xs ≡ J xs) → giving N lines l K ≡ giving N lines l J
unfolding giving
giving_same N lines [] K J f = f []
giving_same N lines (a ∷ l) K J f = given_same N lines (get_or lines a none) (λ x. giving_same N lines l (λ xs. K (x ∷ xs)) (λ xs. J (x ∷ xs)) (λ xs. f (x ∷ xs)))

giving_one : (N : ℕ) (lines : List (Option ℕ)) (a : ℕ) (l : List ℕ) (K : Goal) {o : Option ℕ} → get_or lines a none ≡ o → giving N lines (a ∷ l) K ≡ given N lines o (λ x. giving N lines l (λ xs. K (x ∷ xs)))
unfolding giving
giving_one N lines a l K e = ap (λ (o : Option ℕ). given N lines o (λ x. giving N lines l (λ xs. K (x ∷ xs)))) e

giving_none : (N : ℕ) (lines : List (Option ℕ)) (K : Goal) → giving N lines [] K ≡ K []
unfolding giving
giving_none N lines K = refl

some_same : {l m : List ℕ} → ◌≡◌ {A = Option (List ℕ)} (some l) (some m) → l ≡ m
some_same e = cc

no_some : {A : Type 0} {l : List ℕ} → ◌≡◌ {A = Option (List ℕ)} none (some l) → A
no_some e = absurd (let z : ◌≡◌ {A = ℕ} 0 1 = cc in omega arith)

-- a number in front
pub record Front (ws vs : List (List ℕ)) (a : ℕ) (l : List ℕ) : Type 0 where
  pub others : List ℕ
  pub is : l ≡ a ∷ others
  pub rest : numbers vs ≡ some others

front : (ws vs : List (List ℕ)) (a : ℕ) (l : List ℕ) → taken ws ≡ behind a vs → numbers ws ≡ some l → Front ws vs a l
front ws vs a l t e = at (numbers vs) refl (sym (numbers_behind ws t) ∙ e)
  where
    at : (o : Option (List ℕ)) → numbers vs ≡ o → Reader.map (λ l. a ∷ l) o ≡ some l → Front ws vs a l
    at none f e = no_some e
    at (some m) f e = record { others = m; is = sym (some_same e); rest = f }

no_front : (ws : List (List ℕ)) (l : List ℕ) → taken ws ≡ bad → numbers ws ≡ some l → l ≡ []
unfolding numbers
no_front [] l t e = sym (some_same e)
no_front (w ∷ ws) l t e = no_some (sym (numbers_bad (w ∷ ws) (omega arith) t) ∙ e)

none_left : (l : List ℕ) → length l ≡ 0 → l ≡ []
none_left [] e = refl
none_left (a ∷ l) e = absurd (omega arith)

-- ---- a list is read

-- i operands are read, and c is behind them; they stand for `states`. x was before, y is there now
pub record Reading (most : ℕ) (from : Cursor) (n : ℕ) (x y : Place) (c : Cursor) (i : ℕ) : Type 0 where
  pub keeps : OnlyWork x y
  pub pre : PreOperand most y
  pub kept : Kept 0 64 x.aut.scratch.now y.aut.scratch.now
  pub states : List ℕ
  pub size : length states ≡ i
  pub all : List ℕ
  pub all_is : numbers (rest from) ≡ some all
  pub left : List ℕ
  pub left_is : numbers (rest c) ≡ some left
  pub left_size : i + length left ≡ n
  pub is : (N : ℕ) (K : Goal) → giving N (lines_in x) all K ≡ giving N (lines_in x) left (λ ys. K (states ++ ys))
  pub words : i ≤ most → words y.aut.scratch.now 0 i ≡ states
  pub below : (b : ℕ) → Below b (lines_in x) → All (λ z. z < b) states

pub reading_begin : {most : ℕ} {c : Cursor} {n : ℕ} {x : Place} → PreOperands most c n x → OnlyWork x x → Reading most c n x x c 0
unfolding words
reading_begin {x = x} p o = let l = list_is p.counted in record {
  keeps = o;
  pre = p.first;
  kept = kept_refl 0 64 x.aut.scratch.now;
  states = [];
  size = refl;
  all = l.list;
  all_is = l.is;
  left = l.list;
  left_is = l.is;
  left_size = omega (arith, l.size);
  is = λ N K. refl;
  words = λ h. refl;
  below = λ b f. tt;
}

module _ {most : ℕ} {from : Cursor} {n : ℕ} {x y : Place} {c : Cursor} {i : ℕ} (v : Reading most from n x y c i) where
  abbrev s : List ℕ
  s = y.aut.scratch.now

  lines_are : lines_in y ≡ lines_in x
  lines_are = ap (λ (t : Table). lines_of t.words.now t.count) v.keeps.lines

  module _ {d : Cursor} {z : Place} (T : Took (lines_in y) most c d i s z.aut.scratch.now) (o : OnlyWork y z) where
    abbrev s' : List ℕ
    s' = z.aut.scratch.now

    named_is : get_or (lines_in x) T.number none ≡ some T.state
    named_is = ap (λ (ls : List (Option ℕ)). get_or ls T.number none) (sym lines_are) ∙ T.named

    next_front : Front (rest c) (rest d) T.number v.left
    next_front = front (rest c) (rest d) T.number v.left T.read v.left_is

    kept_one : Kept 0 64 s s'
    kept_one = by_test (ltb i most)
        (λ e. let l : i < most = ltb-true i most e in
        subst (Kept 0 64 s) (sym (T.wrote l)) (kept_sets (T.state ∷ []) s 0 64 i (omega arith) (omega (arith, v.pre.few))))
        (λ e. subst (Kept 0 64 s) (sym (T.left (ltb-false i most e))) (kept_refl 0 64 s))

    words_more : i + 1 ≤ most → words s' 0 (i + 1) ≡ v.states ++ T.state ∷ []
    words_more l =
        ap (λ (z : List ℕ). words z 0 (i + 1)) (T.wrote (omega arith))
        ∙ ap (λ (j : ℕ). words (set s j T.state) 0 (i + 1)) {x = i} {y = 0 + i} (omega arith)
        ∙ words_append s (T.state ∷ []) 0 i 1 refl (omega (arith, v.pre.room, v.pre.few))
        ∙ ap (λ (z : List ℕ). z ++ T.state ∷ []) (v.words (omega arith))

    given_more : (N : ℕ) (K : Goal) → giving N (lines_in x) v.all K ≡ giving N (lines_in x) next_front.others (λ ys. K ((v.states ++ T.state ∷ []) ++ ys))
    given_more N K =
        v.is N K
        ∙ ap (λ (l : List ℕ). giving N (lines_in x) l (λ ys. K (v.states ++ ys))) next_front.is
        ∙ giving_one N (lines_in x) T.number next_front.others (λ ys. K (v.states ++ ys)) named_is
        ∙ giving_same N (lines_in x) next_front.others (λ xs. K (v.states ++ T.state ∷ xs)) (λ ys. K ((v.states ++ T.state ∷ []) ++ ys))
        (λ xs. ap K (sym (append_assoc v.states (T.state ∷ []) xs)))

    same_count : z.lines.count ≡ y.lines.count
    same_count = ap (λ (t : Table). t.count) o.lines

    same_table : length z.lines.words.now ≡ length y.lines.words.now
    same_table = ap (λ (t : Table). length t.words.now) o.lines

    pub reading_again : OnlyWork x z → Reading most from n x z d (i + 1)
    reading_again w = record {
      keeps = w;
      pre = record { lines = omega (arith, v.pre.lines, same_count, same_table); room = omega (arith, v.pre.room, o.aut.scratch.length); few = v.pre.few };
      kept = kept_trans v.kept kept_one;
      states = v.states ++ T.state ∷ [];
      size = omega (arith, length-append v.states (T.state ∷ []), v.size);
      all = v.all;
      all_is = v.all_is;
      left = next_front.others;
      left_is = next_front.rest;
      left_size = omega (arith, v.left_size, ap length next_front.is);
      is = given_more;
      words = words_more;
      below = λ b f. all_append (λ z. z < b) v.states (T.state ∷ []) (v.below b f) (f T.number T.state named_is, tt);
    }

  by_all : (N : ℕ) (l : List ℕ) → numbers (rest from) ≡ some l → (K : Goal) → giving N (lines_in x) l K ≡ giving N (lines_in x) v.left (λ ys. K (v.states ++ ys))
  by_all N l e K = ap (λ (m : List ℕ). giving N (lines_in x) m K) (some_same (sym e ∙ v.all_is)) ∙ v.is N K

  missed_is : i < n → Missed (lines_in y) c → (N : ℕ) (K : Goal) → giving N (lines_in x) v.left K ≡ refuses 4
  missed_is l (no_number t) N K = absurd (omega (arith, v.left_size, ap length (no_front (rest c) v.left t v.left_is)))
  missed_is l (no_line {a} {vs} t q) N K =
      let f = front (rest c) vs a v.left t v.left_is in
      ap (λ (m : List ℕ). giving N (lines_in x) m K) f.is ∙ giving_one N (lines_in x) a f.others K (ap (λ (ls : List (Option ℕ)). get_or ls a none) (sym lines_are) ∙ q)

  pub reading_missed : {z : Place} → i < n → Missed (lines_in y) c × (z ≡ y) → PostOperands most from n (Err refusals.Name) x z
  reading_missed {z} l (m, e) = record {
    kept = subst (λ (p : Place). Kept 0 64 x.aut.scratch.now p.aut.scratch.now) (sym e) v.kept;
    is = λ N l₁ q K. by_all N l₁ q K ∙ missed_is l m N (λ ys. K (v.states ++ ys));
  }

  pub reading_end : n ≤ i → PostOperands most from n (Ok tt) x y
  reading_end l = record {
    kept = v.kept;
    is = record {
      states = v.states;
      is = λ N l₁ q K. by_all N l₁ q K ∙ ap (λ (m : List ℕ). giving N (lines_in x) m (λ ys. K (v.states ++ ys))) nothing ∙ giving_none N (lines_in x) (λ ys. K (v.states ++ ys)) ∙ ap K (append-nil v.states);
      size = omega (arith, v.size, v.left_size);
      words = λ h. ap (λ (j : ℕ). words s 0 j) {x = n} {y = i} (omega (arith, v.left_size)) ∙ v.words (omega (arith, v.left_size));
      below = v.below;
    };
  }
    where
      nothing : v.left ≡ []
      nothing = none_left v.left (omega (arith, v.left_size))

-- ---- one operand

pub operand_no_line : {lines : List (Option ℕ)} (c d : Cursor) {a : ℕ} → taken (rest c) ≡ behind a (rest d) → get_or lines a none ≡ none → Missed lines c
operand_no_line c d T L = no_line T L

module _ {lines : List (Option ℕ)} {most i : ℕ} {c : Cursor} {s : List ℕ} {a : ℕ} {d : Cursor} (T : taken (rest c) ≡ behind a (rest d)) {x : ℕ} (L : get_or lines a none ≡ some x) where
  pub operand_wrote : i < most → Took lines most c d i s (set s i x)
  operand_wrote l = record { number = a; state = x; read = T; named = L; wrote = λ h. refl; left = λ h. absurd (omega arith) }

  pub operand_left : most ≤ i → Took lines most c d i s s
  operand_left l = record { number = a; state = x; read = T; named = L; wrote = λ h. absurd (omega arith); left = λ h. refl }
