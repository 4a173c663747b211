-- Loops that write a column, state by state, and the search of a stored list.
use Rattle.std.specs.Prelude.{not, if◌then◌else◌}
use Rattle.std.specs.List.{list_any, range_with_len}
use Rattle.std.specs.Int.{from_bool}
use mathlib.Core.Path.{◌≡◌, refl, sym, ◌∙◌, ap, ap₂, subst}
use mathlib.Core.Logic.{inl, inr, ⊎_elim}
use mathlib.Core.Bool.{Bool, true, false, ◌||◌}
use mathlib.Core.List.Memᴰ
use mathlib.Core.List.{List, [], ◌∷◌, Memᴰ}
use Prim.Native.Nat.{ℕ, zero, suc, ◌+◌, ◌*◌, ◌-◌, ◌≤◌, ◌<◌}
use native.Mathlib.Omega.{arith}
use lib.Dec.{eqb, ltb}
use lib.ListN.{length, get_or, set}
use lib.Seq.{get_or-set_same, get_or-set_other}
use borrow.Author.Tests.{eqb-true, eqb-false}
use Rattle.spp_steps.proofs.Laws.{by_test}
use Rattle.netkat_steps.specs.ListSteps.{Edge}
use Rattle.aut_st_steps.specs.Edges.{edges}
use Rattle.aut_st_steps.proofs.Places.{edge_at}
use Rattle.aut_st_edges.specs.declared.Transition.{Transition}
use Rattle.aut_st_edges.specs.Clauses.{edge_of}
use Rattle.aut_st_source.specs.declared.Span.{Span}
use Rattle.aut_st_source.specs.Stored.{PostFind}
use Rattle.aut_query_calls.proofs.Listed.{edge_in}
use Rattle.aut_live_words.specs.Work.{seconds, copy_words}
use Rattle.aut_live_words.specs.Clauses.{PreKeep}
use Rattle.aut_live_words.proofs.Words.{seconds_split, seconds_one, seconds_done, second_in, listed_edges, copy_length}
use Rattle.aut_why_words.specs.Words.{moved_at}
use Rattle.aut_why_words.proofs.Walks.{copy_here}
use Rattle.aut_why_marks.specs.Columns.{Writes, Fills}
use Rattle.aut_why_marks.specs.Clauses.{changed_by, Renews, Restores, PreChanged, PostChanged}
use Rattle.aut_why_marks.proofs.Columns.{writes_none, writes_then, writes_wide, writes_one}

-- ---- a column, state by state

-- words w of the first i states are f's
pub record Filling (w : ℕ) (f : ℕ → ℕ) (n : ℕ) (p st₀ st : List ℕ) (i : ℕ) : Type 0 where
  pub is : (x : ℕ) → Memᴰ x (seconds p 0 i) → get_or st (12 * x + w) 0 ≡ f x
  pub words : Writes (λ v. v ≡ w) (seconds p 0 n) st₀ st

pub next_second : (p : List ℕ) (i x : ℕ) → Memᴰ x (seconds p 0 (i + 1)) → (x ≡ get_or p (2 * i + 1) 0 → ⊥) → Memᴰ x (seconds p 0 i)
next_second p i x m z = ⊎_elim (λ k. k)
    (λ k. ⊎_elim (λ q. absurd (z q)) (λ j. absurd (Memᴰ.not-nil j)) (Memᴰ.cases_cons (subst (λ (l : List ℕ). Memᴰ x l) (ap (λ (a : ℕ). seconds p a 1) {x = 0 + i} {y = i} (omega arith) ∙ seconds_one p i) k)))
    (Memᴰ.append_cases (seconds p 0 i) (subst (λ (l : List ℕ). Memᴰ x l) (seconds_split p 0 i 1) m))

module _ (w : ℕ) (f : ℕ → ℕ) {n : ℕ} {p st₀ : List ℕ} where
  pub fill_begin : Filling w f n p st₀ st₀ 0
  unfolding seconds
  fill_begin = record { is = λ x m. absurd (Memᴰ.not-nil m); words = writes_none (λ v. v ≡ w) (seconds p 0 n) st₀ }

  module _ {st : List ℕ} {i : ℕ} (F : Filling w f n p st₀ st i) where
    abbrev y : ℕ
    y = get_or p (2 * i + 1) 0

    pub fill_again : {v : ℕ} → i < n → w < 12 → 12 * get_or p (2 * i + 1) 0 + 11 < length st₀ → v ≡ f (get_or p (2 * i + 1) 0) → Filling w f n p st₀ (set st (12 * get_or p (2 * i + 1) 0 + w) v) (i + 1)
    fill_again {v} l k b q = record {
      is = λ x m. by_test (eqb x y)
          (λ t. let e : x ≡ y = eqb-true x y t in ap (λ (z : ℕ). get_or (set st (12 * y + w) v) (12 * z + w) 0) e ∙ get_or-set_same st (12 * y + w) v 0 (omega (arith, F.words.len)) ∙ q ∙ ap f (sym e))
          (λ t. let e : (x ≡ y → ⊥) = eqb-false x y t in get_or-set_other st (12 * y + w) (12 * x + w) v 0 (λ z. e (omega arith)) ∙ F.is x (next_second p i x m e));
      words = writes_then F.words (writes_one (λ v. v ≡ w) (seconds p 0 n) st y w v (second_in p 0 n i (omega arith) (omega arith)) refl k);
    }

    pub fill_end : i ≤ n → n ≤ i → Fills w f (seconds p 0 n) st₀ st
    fill_end m l = record { is = subst (λ (k : ℕ). (x : ℕ) → Memᴰ x (seconds p 0 k) → get_or st (12 * x + w) 0 ≡ f x) {x = i} {y = n} (omega arith) F.is; words = F.words }

    -- another column is as it was
    pub fill_other : (x v : ℕ) → v < 12 → (v ≡ w → ⊥) → get_or st (12 * x + v) 0 ≡ get_or st₀ (12 * x + v) 0
    fill_other x v l z = F.words.others x v l (λ q m. z q)

-- ---- a column is copied

copy_beyond : (a b : ℕ) → b < 12 → (xs st : List ℕ) (z w : ℕ) → w < 12 → (w ≡ b → Memᴰ z xs → ⊥) → get_or (copy_words a b xs st) (12 * z + w) 0 ≡ get_or st (12 * z + w) 0
unfolding copy_words
copy_beyond a b l [] st z w k f = refl
copy_beyond a b l (y ∷ xs) st z w k f =
    copy_beyond a b l xs (set st (12 * y + b) (get_or st (12 * y + a) 0)) z w k (λ q m. f q (Memᴰ.tail m))
    ∙ get_or-set_other st (12 * y + b) (12 * z + w) (get_or st (12 * y + a) 0) 0 (λ e. f (omega arith) (Memᴰ.head (omega arith)))

pub keep_in_lem : {st p : List ℕ} {n x : ℕ} → PreKeep st p n → Memᴰ x (seconds p 0 n) → 12 * x + 11 < length st
keep_in_lem {st} {p} {n} {x} P m = go n (omega arith) m
  where
    go : (k : ℕ) → k ≤ n → Memᴰ x (seconds p 0 k) → 12 * x + 11 < length st
    go zero l m = absurd (Memᴰ.not-nil (subst (λ (xs : List ℕ). Memᴰ x xs) (seconds_done p 0 0 0 (omega arith)) m))
    go (suc k) l m = by_test (eqb x (get_or p (2 * k + 1) 0))
        (λ t. omega (arith, eqb-true x (get_or p (2 * k + 1) 0) t, P.states k (omega arith)))
        (λ t. go k (omega arith) (next_second p k x (subst (λ (j : ℕ). Memᴰ x (seconds p 0 j)) {x = suc k} {y = k + 1} (omega arith) m) (eqb-false x (get_or p (2 * k + 1) 0) t)))

pub copied : (a b : ℕ) {st p st1 : List ℕ} {n : ℕ} → a < 12 → b < 12 → (a ≡ b → ⊥) → PreKeep st p n → st1 ≡ copy_words a b (seconds p 0 n) st → Fills b (λ x. get_or st (12 * x + a) 0) (seconds p 0 n) st st1
copied a b {st} {p} {st1} {n} k l z P q = subst (Fills b (λ x. get_or st (12 * x + a) 0) (seconds p 0 n) st) (sym q) (record {
  is = λ x m. copy_here a b l k z (seconds p 0 n) st x (keep_in_lem P m) m;
  words = record { others = copy_beyond a b l (seconds p 0 n) st; len = copy_length a b (seconds p 0 n) st };
})

-- ---- words 8 and 9 are compared

-- they are not written meanwhile
pub moved_on : {n : ℕ} {p st₀ st : List ℕ} {i : ℕ} → Filling 11 (moved_at st₀) n p st₀ st i → (x : ℕ) → moved_at st x ≡ moved_at st₀ x
moved_on {st₀ = st₀} F x = ap₂ (λ (a b : ℕ). if eqb a b then 0 else 1) (fill_other 11 (moved_at st₀) F x 8 (omega arith) (λ q. omega arith)) (fill_other 11 (moved_at st₀) F x 9 (omega arith) (λ q. omega arith))

pub moved_told : {n : ℕ} {p st₀ st : List ℕ} {i : ℕ} → Filling 11 (moved_at st₀) n p st₀ st i → (x : ℕ) → from_bool (not (eqb (get_or st (12 * x + 8) 0) (get_or st (12 * x + 9) 0))) ≡ moved_at st₀ x
moved_told {st = st} F x = go (eqb (get_or st (12 * x + 8) 0) (get_or st (12 * x + 9) 0)) ∙ moved_on F x
  where
    go : (b : Bool) → from_bool (not b) ≡ (if b then 0 else 1)
    go true = refl
    go false = refl

-- ---- renew, restore

pub keep_on : {st st1 p : List ℕ} {n : ℕ} → PreKeep st p n → length st1 ≡ length st → PreKeep st1 p n
keep_on P q = record { fits = P.fits; states = λ i l. omega (arith, P.states i l, q) }

module _ {ss st st1 st2 : List ℕ} where
  pub renewed : Fills 11 (λ x. moved_at st x) ss st st1 → Fills 8 (λ x. get_or st1 (12 * x + 9) 0) ss st1 st2 → Renews ss st st2
  renewed a b = record {
    words = writes_then (writes_wide (λ w q. inr q) a.words) (writes_wide (λ w q. inl q) b.words);
    now = λ x m. b.is x m ∙ a.words.others x 9 (omega arith) (λ q k. omega arith);
    marks = λ x m. b.words.others x 11 (omega arith) (λ q k. omega arith) ∙ a.is x m;
  }

  pub restored : {from : ℕ} → Fills 8 (λ x. get_or st (12 * x + from) 0) ss st st1 → Fills 11 (λ x. 1) ss st1 st2 → Restores from ss st st2
  restored a b = record {
    words = writes_then (writes_wide (λ w q. inl q) a.words) (writes_wide (λ w q. inr q) b.words);
    now = λ x m. b.words.others x 8 (omega arith) (λ q k. omega arith) ∙ a.is x m;
    marks = b.is;
  }

-- ---- a stored list

-- whether the target of record i has a word 11
abbrev pub led_at : List ℕ → List ℕ → ℕ → Bool
led_at st tr i = ltb 0 (get_or st (12 * get_or tr (2 * i) 0 + 11) 0)

pub led_told : (st tr : List ℕ) (i : ℕ) {t : Transition} (w : ℕ) (b : Bool) → edge_of t ≡ edge_at tr i → w ≡ get_or st (12 * t.target + 11) 0 → b ≡ ltb 0 w → b ≡ led_at st tr i
led_told st tr i w b e q p = p ∙ ap (ltb 0) q ∙ ap (λ (e : Edge). ltb 0 (get_or st (12 * e.target + 11) 0)) e

-- to test k records from a on is to test their numbers
pub look_each : (st tr : List ℕ) (a k : ℕ) → changed_by st (edges tr a k) ≡ list_any (led_at st tr) (range_with_len a k)
unfolding edges
look_each st tr a zero = refl
look_each st tr a (suc k) = ap (λ (b : Bool). led_at st tr a || b) (look_each st tr (a + 1) k)

-- of a state's stored list
module _ {st tr : List ℕ} {x : ℕ} (P : PreChanged st tr x) {list : Span} (F : PostFind st x list) where
  pub look_target : (i : ℕ) → list.start ≤ i → i < list.start + list.count → 12 * get_or tr (2 * i) 0 + 11 < length st
  look_target i m l = P.targets (edge_at tr i)
      (subst (λ (es : List Edge). Memᴰ (edge_at tr i) es) (sym (listed_edges P.listed F))
      (subst (λ (j : ℕ). Memᴰ (edge_at tr j) (edges tr list.start list.count)) {x = list.start + (i - list.start)} {y = i} (omega arith) (edge_in tr list.start list.count (i - list.start) (omega arith))))

  pub look_post : {b : Bool} → b ≡ list_any (led_at st tr) (range_with_len list.start list.count) → PostChanged st tr x b
  look_post q = q ∙ sym (look_each st tr list.start list.count) ∙ sym (ap (changed_by st) (listed_edges P.listed F))
