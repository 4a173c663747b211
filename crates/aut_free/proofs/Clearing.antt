-- `clear` by its words: what it keeps and what it zeroes; which writes it takes back, and with which it commutes. Each word of a table is a word of a state: j is 12 * (j / 12) + j % 12.
use Rattle.std.specs.Prelude.{if◌then◌else◌}
use mathlib.Core.Path.{◌≡◌, refl, sym, ◌∙◌, ap, subst}
use mathlib.Core.Bool.{Bool, true, false}
use mathlib.Core.List.{List, [], ◌∷◌}
use Prim.Native.Nat.{ℕ, zero, suc, ◌+◌, ◌*◌, ◌/◌, ◌%◌, ◌≤◌, ◌<◌}
use native.Mathlib.Omega.{arith}
use lib.Dec.{leb}
use lib.ListN.{length, get_or, set, length-set}
use lib.Seq.{ext_get_or, get_or-set_other}
use borrow.Author.Tests.{le-leb, lt-leb, leb-true, leb-false}
use Rattle.spp_steps.proofs.Laws.{by_test}
use Rattle.aut_free.specs.Clear.{rest_from, clear_from, clear}
use Rattle.aut_free.proofs.Clear.{Beyond, writing, AtRest}
use Rattle.aut_free.proofs.Words.{set_both}

-- ---- words by state

pub by_word : (P : ℕ → Type 0) → ((x w : ℕ) → w < 12 → P (12 * x + w)) → (j : ℕ) → P j
by_word P h j = subst P {x = 12 * (j / 12) + j % 12} {y = j} (omega arith) (h (j / 12) (j % 12) (omega arith))

pub same_words_lem : (s t : List ℕ) → length s ≡ length t → ((x w : ℕ) → w < 12 → get_or s (12 * x + w) 0 ≡ get_or t (12 * x + w) 0) → s ≡ t
same_words_lem s t e h = ext_get_or 0 s t e (λ j l. by_word (λ i. get_or s i 0 ≡ get_or t i 0) h j)

-- ---- clear

length_from : (i : ℕ) (st : List ℕ) → length (clear_from i st) ≡ length st
unfolding clear_from
length_from i [] = refl
length_from i (v ∷ vs) = ap suc (length_from (i + 1) vs)

pub clear_length : (st : List ℕ) → length (clear st) ≡ length st
unfolding clear
clear_length st = length_from 0 st

word_from : (i : ℕ) (st : List ℕ) (j : ℕ) → get_or (clear_from i st) j 0 ≡ (if leb rest_from ((i + j) % 12) then 0 else get_or st j 0)
unfolding clear_from
word_from i [] j = none (leb rest_from ((i + j) % 12))
  where
    none : (b : Bool) → ◌≡◌ {A = ℕ} 0 (if b then 0 else 0)
    none true = refl
    none false = refl
word_from i (v ∷ vs) zero = ap (λ (n : ℕ). if leb rest_from (n % 12) then 0 else v) {x = i} {y = i + 0} (omega arith)
word_from i (v ∷ vs) (suc j) = word_from (i + 1) vs j ∙ ap (λ (n : ℕ). if leb rest_from (n % 12) then 0 else get_or vs j 0) {x = i + 1 + j} {y = i + suc j} (omega arith)

word_clear : (st : List ℕ) (x w : ℕ) → w < 12 → get_or (clear st) (12 * x + w) 0 ≡ (if leb rest_from w then 0 else get_or st (12 * x + w) 0)
unfolding clear
word_clear st x w l = word_from 0 st (12 * x + w) ∙ ap (λ (n : ℕ). if leb rest_from n then 0 else get_or st (12 * x + w) 0) {x = (0 + (12 * x + w)) % 12} {y = w} (omega arith)

-- words 0 to 7 are kept, words 8 to 11 are zero
pub clear_kept : (st : List ℕ) (x w : ℕ) → w < 8 → get_or (clear st) (12 * x + w) 0 ≡ get_or st (12 * x + w) 0
clear_kept st x w l = word_clear st x w (omega arith) ∙ ap (λ (b : Bool). if b then 0 else get_or st (12 * x + w) 0) (lt-leb rest_from w (omega arith))

pub clear_zero : (st : List ℕ) (x w : ℕ) → 8 ≤ w → w < 12 → get_or (clear st) (12 * x + w) 0 ≡ 0
clear_zero st x w l m = word_clear st x w m ∙ ap (λ (b : Bool). if b then 0 else get_or st (12 * x + w) 0) (le-leb rest_from w (omega arith))

-- a table is what `clear` makes of another if it has its length, its words 0 to 7, and zero beyond
pub is_clear : (s st : List ℕ) → length s ≡ length st → ((x w : ℕ) → w < 8 → get_or s (12 * x + w) 0 ≡ get_or st (12 * x + w) 0) → AtRest s → s ≡ clear st
is_clear s st e low high = same_words_lem s (clear st) (e ∙ sym (clear_length st)) (λ x w l. by_test (leb 8 w)
    (λ b. high x w (leb-true 8 w b) l ∙ sym (clear_zero st x w (leb-true 8 w b) l))
    (λ b. low x w (leb-false 8 w b) ∙ sym (clear_kept st x w (leb-false 8 w b))))

-- at rest nothing is cleared; what is cleared is at rest
pub clear_rest : (st : List ℕ) → AtRest st → clear st ≡ st
clear_rest st h = sym (is_clear st st refl (λ x w l. refl) h)

pub rest_clear : (st : List ℕ) → AtRest (clear st)
rest_clear st x w l m = clear_zero st x w l m

pub clear_clear : (st : List ℕ) → clear (clear st) ≡ clear st
clear_clear st = clear_rest (clear st) (rest_clear st)

-- words 8 to 11 may be written
pub clear_set : (st : List ℕ) (x w v : ℕ) → 8 ≤ w → w < 12 → clear (set st (12 * x + w) v) ≡ clear st
clear_set st x w v l m = is_clear (clear (set st (12 * x + w) v)) st (clear_length (set st (12 * x + w) v) ∙ length-set st (12 * x + w) v)
    (λ y u k. clear_kept (set st (12 * x + w) v) y u k ∙ get_or-set_other st (12 * x + w) (12 * y + u) v 0 (λ q. omega arith))
    (rest_clear (set st (12 * x + w) v))

-- words 0 to 7 are written before or after
pub clear_below : (st : List ℕ) (x w v : ℕ) → w < 8 → clear (set st (12 * x + w) v) ≡ set (clear st) (12 * x + w) v
clear_below st x w v l = sym (is_clear (set (clear st) (12 * x + w) v) (set st (12 * x + w) v)
    (length-set (clear st) (12 * x + w) v ∙ clear_length st ∙ sym (length-set st (12 * x + w) v))
    (λ y u k. set_both (clear st) st (12 * x + w) v (12 * y + u) (clear_length st) (clear_kept st y u k))
    (λ y u k m. get_or-set_other (clear st) (12 * x + w) (12 * y + u) v 0 (λ q. omega arith) ∙ clear_zero st y u k m))

-- a live set is written before or after
pub clear_live : (st : List ℕ) (x v : ℕ) → clear (set st (12 * x + 7) v) ≡ set (clear st) (12 * x + 7) v
clear_live st x v = clear_below st x 7 v (omega arith)

-- ---- changes beyond word 6

pub clear_beyond : Beyond clear
clear_beyond = record {
  len = clear_length;
  same = λ s x w l. clear_kept s x w (omega arith);
  framed = λ f s p. record {
    len = clear_length s ∙ p.len ∙ sym (clear_length f);
    words = λ x w l m. word_clear s x w m ∙ ap (λ (v : ℕ). if leb rest_from w then 0 else v) (p.words x w l m) ∙ sym (word_clear f x w m);
  };
}

pub writing_beyond : (x w v : ℕ) → 7 ≤ w → w < 12 → Beyond (writing x w v)
writing_beyond x w v l m = record {
  len = λ s. length-set s (12 * x + w) v;
  same = λ s y u k. get_or-set_other s (12 * x + w) (12 * y + u) v 0 (λ q. omega arith);
  framed = λ f s p. record {
    len = length-set s (12 * x + w) v ∙ p.len ∙ sym (length-set f (12 * x + w) v);
    words = λ y u a b. set_both s f (12 * x + w) v (12 * y + u) p.len (p.words y u a b);
  };
}
