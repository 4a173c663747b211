-- Entries of the pending table and words of states: what is written, and the loops over lists of states.
use Rattle.std.specs.Prelude.{Option, Some, None, is_some, if◌then◌else◌}
use mathlib.Core.Path.{◌≡◌, refl, sym, ◌∙◌, ap, ap₂, subst}
use mathlib.Core.Logic.{◌≢◌}
use mathlib.Core.List.{List, [], ◌∷◌, ◌++◌, Memᴰ}
use Prim.Native.Nat.{ℕ, zero, suc, ◌+◌, ◌*◌, ◌-◌, ◌/◌, ◌≤◌, ◌<◌}
use native.Mathlib.Omega.{arith}
use lib.Dec.{eqb}
use lib.ListN.{length, get_or, set, length-set}
use lib.Seq.{get_or-set_same, get_or-set_other}
use borrow.Author.Tests.{eqb-true, eqb-false}
use Rattle.netkat_steps.specs.ListSteps.{Edge}
use Rattle.sp_steps.specs.Model as Sp
use Rattle.spp_steps.proofs.Laws.{by_test}
use Rattle.aut_steps.specs.Tables.{words}
use Rattle.aut_states.proofs.Slices.{words_take}
use Rattle.aut_st_steps.specs.Edges.{edges}
use Rattle.aut_st_steps.specs.Places.{put_edge, seek_edge, seek_target}
use Rattle.aut_st_steps.proofs.Places.{edge_at, edges_length, edges_on, edges_done}
use Rattle.aut_delta_steps.specs.Delta.{start_of, count_of}
use Rattle.aut_st_edges.specs.Clauses.{edge_of, listed, Finds}
use Rattle.aut_st_edges.specs.declared.Transition.{Transition}
use Rattle.aut_st_edges.proofs.Parts.{found}
use Rattle.aut_st_source.specs.declared.Span.{Span}
use Rattle.aut_st_source.specs.Stored.{PostFind}
use Rattle.aut_query_steps.specs.Search.{capacity}
use Rattle.sp.specs.declared.SP.{SP}
use Rattle.aut_query_calls.specs.Working.{FoundSet}
use Rattle.aut_live_words.specs.Work.{work_of, seconds, Reaches, there, new, full, Enqueues, none, one, over, copy_words, clear_words}
use Rattle.aut_live_words.specs.Clauses.{PreReach, Listed, PreEnqueue, PostEnqueue, PostClear}
use mathlib.Core.Bool.{Bool, true, false, true≢false}
use Rattle.aut_query_steps.specs.Live as M
use Rattle.aut_query_steps.specs.Live.{label_to}

-- ---- lists of entries

pub seconds_length : (p : List ℕ) (a k : ℕ) → length (seconds p a k) ≡ k
unfolding seconds
seconds_length p a zero = refl
seconds_length p a (suc k) = ap suc (seconds_length p (a + 1) k)

pub seconds_same : (p q : List ℕ) (a k : ℕ) → ((i : ℕ) → a ≤ i → i < a + k → get_or q (2 * i + 1) 0 ≡ get_or p (2 * i + 1) 0) → seconds q a k ≡ seconds p a k
unfolding seconds
seconds_same p q a zero f = refl
seconds_same p q a (suc k) f = ap₂ (λ (x : ℕ) (l : List ℕ). x ∷ l) (f a (omega arith) (omega arith)) (seconds_same p q (a + 1) k (λ i l r. f i (omega arith) (omega arith)))

pub seconds_split : (p : List ℕ) (a m n : ℕ) → seconds p a (m + n) ≡ seconds p a m ++ seconds p (a + m) n
unfolding seconds
seconds_split p a zero n = ap₂ (seconds p) {x = a} {y = a + 0} {u = 0 + n} {v = n} (omega arith) (omega arith)
seconds_split p a (suc m) n =
    ap (seconds p a) {x = suc m + n} {y = suc (m + n)} (omega arith)
    ∙ ap (λ (l : List ℕ). get_or p (2 * a + 1) 0 ∷ l) (seconds_split p (a + 1) m n ∙ ap (λ (b : ℕ). seconds p (a + 1) m ++ seconds p b n) {x = a + 1 + m} {y = a + suc m} (omega arith))

pub seconds_one : (p : List ℕ) (a : ℕ) → seconds p a 1 ≡ get_or p (2 * a + 1) 0 ∷ []
unfolding seconds
seconds_one p a = refl

pub seconds_on : (p : List ℕ) (n i : ℕ) → i < n → seconds p i (n - i) ≡ get_or p (2 * i + 1) 0 ∷ seconds p (i + 1) (n - (i + 1))
unfolding seconds
seconds_on p n i l = ap (seconds p i) {x = n - i} {y = suc (n - (i + 1))} (omega arith)

pub seconds_done : (p : List ℕ) (a n i : ℕ) → n ≤ i → seconds p a (n - i) ≡ []
unfolding seconds
seconds_done p a n i l = ap (seconds p a) {x = n - i} {y = 0} (omega arith)

pub seconds_all : (p : List ℕ) (n : ℕ) → seconds p 0 n ≡ seconds p 0 (n - 0)
seconds_all p n = ap (seconds p 0) {x = n} {y = n - 0} (omega arith)

pub second_in : (p : List ℕ) (a k i : ℕ) → a ≤ i → i < a + k → Memᴰ (get_or p (2 * i + 1) 0) (seconds p a k)
unfolding seconds
second_in p a zero i l r = absurd (omega arith)
second_in p a (suc k) i l r = by_test (eqb i a)
    (λ q. Memᴰ.head (ap (λ (j : ℕ). get_or p (2 * j + 1) 0) (eqb-true i a q)))
    (λ q. let n : (i ≡ a → ⊥) = eqb-false i a q in Memᴰ.tail (second_in p (a + 1) k i (omega (arith, n)) (omega arith)))

-- ---- reach

-- whether a word holds a set, by what it is
module _ {v : ℕ} (r : Option SP) (F : FoundSet v r) {b : Bool} (told : b ≡ is_some r) where
  some : b ≡ true → 0 < v
  some t = go r F (sym told ∙ t)
    where
      go : (r : Option SP) → FoundSet v r → is_some r ≡ true → 0 < v
      go (Some s) (l, q) e = l
      go None q e = absurd (true≢false (sym e))

  none_there : b ≡ false → v ≡ 0
  none_there t = go r F (sym told ∙ t)
    where
      go : (r : Option SP) → FoundSet v r → is_some r ≡ false → v ≡ 0
      go (Some s) p e = absurd (true≢false e)
      go None q e = q

module _ {N : ℕ} {st p : List ℕ} {n y : ℕ} (r : Option SP) (F : FoundSet (get_or st (12 * y + 9) 0) r) {b : Bool} (told : b ≡ is_some r) where
  pub reach_there : b ≡ true → Reaches N (capacity (length p / 2)) n y st p (Some n) st p
  unfolding work_of
  reach_there t = there (some r F told t)

  pub reach_new : {z k : ℕ} → b ≡ false → k ≡ capacity (length p / 2) → n < k → z ≡ Sp.zero_at N → Reaches N (capacity (length p / 2)) n y st p (Some (n + 1)) (set st (12 * y + 9) (z + 1)) (put_edge p n y y)
  unfolding work_of
  reach_new {z} {k} t q l e = subst (λ (v : ℕ). Reaches N (capacity (length p / 2)) n y st p (Some (n + 1)) (set st (12 * y + 9) (v + 1)) (put_edge p n y y)) (sym e) (new (none_there r F told t) (omega (arith, q, l)))

  pub reach_full : {k : ℕ} → b ≡ false → k ≡ capacity (length p / 2) → k ≤ n → Reaches N (capacity (length p / 2)) n y st p None st p
  unfolding work_of
  reach_full t q l = full (none_there r F told t) (omega (arith, q, l))

-- there are no more entries than the table has
pub reach_fits : {N n y m : ℕ} {st p st' p' : List ℕ} → n ≤ length p / 2 → Reaches N (capacity (length p / 2)) n y st p (Some m) st' p' → m ≤ length p / 2
reach_fits f (there l) = f
reach_fits f (new w l) = omega (arith, l)

-- ---- a stored list

-- where the list of x is
module _ {st tr : List ℕ} {x : ℕ} (P : Listed st tr x) {list : Span} (F : PostFind st x list) where
  pub listed_inside : 2 * (list.start + list.count) ≤ length tr
  listed_inside = omega (arith, P.inside, F.start, F.count)

  pub listed_edges : edges tr (start_of st x) (count_of st x - 1) ≡ edges tr list.start list.count
  listed_edges = ap₂ (λ (a k : ℕ). edges tr a k) F.start (omega (arith, F.count))

-- ---- enqueue

-- i targets are reached, n states are there
pub record Enqueueing (N : ℕ) (list : Span) (n₀ : ℕ) (st₀ tr p₀ st p : List ℕ) (n i : ℕ) : Type 0 where
  pub comes : (r : Option ℕ) (st' p' : List ℕ) → Enqueues N (capacity (length p₀ / 2)) (edges tr (list.start + i) (list.count - i)) n st p r st' p' → Enqueues N (capacity (length p₀ / 2)) (edges tr list.start list.count) n₀ st₀ p₀ r st' p'
  pub fits : n ≤ length p₀ / 2
  pub len_st : length st ≡ length st₀
  pub len_p : length p ≡ length p₀

module _ {N : ℕ} {st₀ tr p₀ : List ℕ} {n₀ x : ℕ} (P : PreEnqueue N st₀ tr p₀ n₀ x) {list : Span} (F : PostFind st₀ x list) where
  pub enqueue_begin : Enqueueing N list n₀ st₀ tr p₀ st₀ p₀ n₀ 0
  enqueue_begin = record {
    comes = λ r st' p' e. subst (λ (es : List Edge). Enqueues N (capacity (length p₀ / 2)) es n₀ st₀ p₀ r st' p')
        (ap₂ (λ (a k : ℕ). edges tr a k) {x = list.start + 0} {y = list.start} {u = list.count - 0} {v = list.count} (omega arith) (omega arith)) e;
    fits = P.fits;
    len_st = refl;
    len_p = refl;
  }

  whole : {r : Option ℕ} {st' p' : List ℕ} → Enqueues N (capacity (length p₀ / 2)) (edges tr list.start list.count) n₀ st₀ p₀ r st' p' → PostEnqueue N n₀ x r st₀ tr p₀ st' p'
  whole {r} {st'} {p'} A = subst (λ (es : List Edge). Enqueues N (capacity (length p₀ / 2)) es n₀ st₀ p₀ r st' p') (sym (listed_edges P.listed F)) A

  module _ {st p : List ℕ} {n i : ℕ} (v : Enqueueing N list n₀ st₀ tr p₀ st p n i) where
    -- t is transition i
    module _ (lt : i < list.count) {t : Transition} (e : edge_of t ≡ edge_at tr (list.start + i)) where
      pub enqueue_asks : PreReach N st p n t.target
      enqueue_asks = record {
        few = P.few;
        state = subst (λ (g : Edge). 12 * g.target + 11 < length st) (sym e)
            (omega (arith, subst (λ (a : ℕ). 12 * get_or tr (2 * (a + i)) 0 + 11 < length st₀) F.start (P.targets i (omega (arith, lt, F.count))), v.len_st));
        fits = subst (λ (m : ℕ). n ≤ m / 2) (sym v.len_p) v.fits;
      }

      here : edges tr (list.start + i) (list.count - i) ≡ edge_of t ∷ edges tr (list.start + (i + 1)) (list.count - (i + 1))
      here = edges_on tr list.start list.count i lt ∙ ap (λ (g : Edge). g ∷ edges tr (list.start + (i + 1)) (list.count - (i + 1))) (sym e)

      module _ {st1 p1 : List ℕ} where
        as_first : {z : Option ℕ} → Reaches N (capacity (length p / 2)) n t.target st p z st1 p1 → Reaches N (capacity (length p₀ / 2)) n t.target st p z st1 p1
        as_first {z} A = subst (λ (m : ℕ). Reaches N (capacity (m / 2)) n t.target st p z st1 p1) v.len_p A

        pub enqueue_full : {r : Option ℕ} → r ≡ None → Reaches N (capacity (length p / 2)) n t.target st p None st1 p1 → PostEnqueue N n₀ x r st₀ tr p₀ st1 p1
        enqueue_full {r} q A = subst (λ (r : Option ℕ). PostEnqueue N n₀ x r st₀ tr p₀ st1 p1) (sym q)
            (whole (v.comes None st1 p1 (subst (λ (es : List Edge). Enqueues N (capacity (length p₀ / 2)) es n st p None st1 p1) (sym here) (over (as_first A)))))

        pub enqueue_again : {m : ℕ} → Reaches N (capacity (length p / 2)) n t.target st p (Some m) st1 p1 → length st1 ≡ length st → length p1 ≡ length p → Enqueueing N list n₀ st₀ tr p₀ st1 p1 m (i + 1)
        enqueue_again {m} A l1 l2 = record {
          comes = λ r' st' p' e. v.comes r' st' p' (subst (λ (es : List Edge). Enqueues N (capacity (length p₀ / 2)) es n st p r' st' p') (sym here) (one (as_first A) e));
          fits = subst (λ (k : ℕ). m ≤ k / 2) v.len_p (reach_fits (subst (λ (k : ℕ). n ≤ k / 2) (sym v.len_p) v.fits) A);
          len_st = l1 ∙ v.len_st;
          len_p = l2 ∙ v.len_p;
        }

    pub enqueue_end : list.count ≤ i → PostEnqueue N n₀ x (Some n) st₀ tr p₀ st p
    enqueue_end le = whole (v.comes (Some n) st p (subst (λ (es : List Edge). Enqueues N (capacity (length p₀ / 2)) es n st p (Some n) st p) (sym (edges_done tr (list.start + i) list.count i le)) none))

-- ---- copy

pub record Copying (n a b : ℕ) (st₀ p st : List ℕ) (i : ℕ) : Type 0 where
  pub is : copy_words a b (seconds p i (n - i)) st ≡ copy_words a b (seconds p 0 n) st₀

module _ {st₀ p : List ℕ} {n a b : ℕ} where
  pub copy_begin : Copying n a b st₀ p st₀ 0
  copy_begin = record { is = ap (λ (l : List ℕ). copy_words a b l st₀) (sym (seconds_all p n)) }

  module _ {st : List ℕ} {i : ℕ} (v : Copying n a b st₀ p st i) where
    pub copy_again : i < n → Copying n a b st₀ p (set st (12 * get_or p (2 * i + 1) 0 + b) (get_or st (12 * get_or p (2 * i + 1) 0 + a) 0)) (i + 1)
    unfolding copy_words
    copy_again l = record {
      is = sym (ap (λ (l : List ℕ). copy_words a b l st) (seconds_on p n i l)) ∙ v.is;
    }

    pub copy_end : n ≤ i → st ≡ copy_words a b (seconds p 0 n) st₀
    unfolding copy_words
    copy_end l = sym (ap (λ (l : List ℕ). copy_words a b l st) (seconds_done p i n i l)) ∙ v.is

-- what it leaves
pub copy_length : (a b : ℕ) (xs st : List ℕ) → length (copy_words a b xs st) ≡ length st
unfolding copy_words
copy_length a b [] st = refl
copy_length a b (y ∷ xs) st = copy_length a b xs (set st (12 * y + b) (get_or st (12 * y + a) 0)) ∙ length-set st (12 * y + b) (get_or st (12 * y + a) 0)

module _ (a b : ℕ) (less : b < 12) where
  pub copy_other : (xs st : List ℕ) (z w : ℕ) → w < 12 → w ≢ b → get_or (copy_words a b xs st) (12 * z + w) 0 ≡ get_or st (12 * z + w) 0
  unfolding copy_words
  copy_other [] st z w k q = refl
  copy_other (y ∷ xs) st z w k q = copy_other xs (set st (12 * y + b) (get_or st (12 * y + a) 0)) z w k q ∙ get_or-set_other st (12 * y + b) (12 * z + w) (get_or st (12 * y + a) 0) 0 (λ e. q (omega arith))

-- ---- clear

pub record Clearing (n : ℕ) (st₀ p₀ st p : List ℕ) (i : ℕ) : Type 0 where
  pub is : clear_words (seconds p i (n - i)) st ≡ clear_words (seconds p₀ 0 n) st₀
  pub first : (j : ℕ) → get_or p (2 * j) 0 ≡ get_or p₀ (2 * j) 0
  pub within : (j : ℕ) → j < i → get_or p (2 * j + 1) 0 ≡ 0
  pub beyond : (j : ℕ) → i ≤ j → get_or p (2 * j + 1) 0 ≡ get_or p₀ (2 * j + 1) 0

module _ {st₀ p₀ : List ℕ} {n : ℕ} where
  pub clear_begin : Clearing n st₀ p₀ st₀ p₀ 0
  clear_begin = record {
    is = ap (λ (l : List ℕ). clear_words l st₀) (sym (seconds_all p₀ n));
    first = λ j. refl;
    within = λ j l. absurd (omega arith);
    beyond = λ j l. refl;
  }

  module _ {st p : List ℕ} {i : ℕ} (v : Clearing n st₀ p₀ st p i) where
    pub clear_again : i < n → 2 * i + 1 < length p → Clearing n st₀ p₀ (set st (12 * get_or p (2 * i + 1) 0 + 9) 0) (set p (2 * i + 1) 0) (i + 1)
    unfolding clear_words
    clear_again l f = record {
      is = ap (λ (xs : List ℕ). clear_words xs (set st (12 * get_or p (2 * i + 1) 0 + 9) 0)) (seconds_same p (set p (2 * i + 1) 0) (i + 1) (n - (i + 1)) (λ j a b. get_or-set_other p (2 * i + 1) (2 * j + 1) 0 0 (λ q. omega arith)))
          ∙ sym (ap (λ (l : List ℕ). clear_words l st) (seconds_on p n i l)) ∙ v.is;
      first = λ j. get_or-set_other p (2 * i + 1) (2 * j) 0 0 (λ q. omega arith) ∙ v.first j;
      within = λ j a. by_test (eqb j i)
          (λ t. ap (λ (j : ℕ). get_or (set p (2 * i + 1) 0) (2 * j + 1) 0) (eqb-true j i t) ∙ get_or-set_same p (2 * i + 1) 0 0 f)
          (λ t. let q : (j ≡ i → ⊥) = eqb-false j i t in get_or-set_other p (2 * i + 1) (2 * j + 1) 0 0 (λ e. omega (arith, q)) ∙ v.within j (omega (arith, q)));
      beyond = λ j a. get_or-set_other p (2 * i + 1) (2 * j + 1) 0 0 (λ e. omega arith) ∙ v.beyond j (omega arith);
    }

    pub clear_end : i ≤ n → n ≤ i → PostClear n st₀ p₀ st p
    unfolding clear_words
    clear_end m l = record {
      is = sym (ap (λ (l : List ℕ). clear_words l st) (seconds_done p i n i l)) ∙ v.is;
      pending = record { first = v.first; within = λ j a. v.within j (omega arith); beyond = λ j a. v.beyond j (omega arith) };
    }

-- ---- the label of a transition

pub label_found : (t : ℕ) (tr : List ℕ) (a k i : ℕ) → seek_target t (edges tr a k) ≡ i → i < k → label_to t (edges tr a k) ≡ M.by (get_or tr (2 * (a + i) + 1) 0)
unfolding label_to edges seek_edge
label_found t tr a zero i q l = absurd (omega arith)
label_found t tr a (suc k) i q l =
    by_test (eqb t (get_or tr (2 * a) 0))
    (λ b. let z : 0 ≡ i = sym (ap (λ (c : Bool). if c then 0 else suc (seek_edge (eqb t) (edges tr (a + 1) k))) b) ∙ q in
    ap (λ (c : Bool). if c then M.by (get_or tr (2 * a + 1) 0) else label_to t (edges tr (a + 1) k)) b ∙ ap (λ (j : ℕ). M.by (get_or tr (2 * j + 1) 0)) {x = a} {y = a + i} (omega arith))
    (λ b. let z : suc (seek_edge (eqb t) (edges tr (a + 1) k)) ≡ i = sym (ap (λ (c : Bool). if c then 0 else suc (seek_edge (eqb t) (edges tr (a + 1) k))) b) ∙ q in
    ap (λ (c : Bool). if c then M.by (get_or tr (2 * a + 1) 0) else label_to t (edges tr (a + 1) k)) b
    ∙ label_found t tr (a + 1) k (i - 1) (omega arith) (omega arith)
    ∙ ap (λ (j : ℕ). M.by (get_or tr (2 * j + 1) 0)) {x = a + 1 + (i - 1)} {y = a + i} (omega arith))

pub label_none : (t : ℕ) (tr : List ℕ) (a k : ℕ) → k ≤ seek_target t (edges tr a k) → label_to t (edges tr a k) ≡ M.none
unfolding label_to edges seek_edge
label_none t tr a zero l = refl
label_none t tr a (suc k) l =
    by_test (eqb t (get_or tr (2 * a) 0))
    (λ b. absurd (omega (arith, ap (λ (c : Bool). if c then 0 else suc (seek_edge (eqb t) (edges tr (a + 1) k))) b)))
    (λ b. ap (λ (c : Bool). if c then M.by (get_or tr (2 * a + 1) 0) else label_to t (edges tr (a + 1) k)) b
    ∙ label_none t tr (a + 1) k (omega (arith, ap (λ (c : Bool). if c then 0 else suc (seek_edge (eqb t) (edges tr (a + 1) k))) b)))

-- of the list of s, found or not among its words
module _ {st tr : List ℕ} {s : ℕ} (P : Listed st tr s) {list : Span} (F : PostFind st s list) (t : ℕ) {xs : List ℕ} (W : xs ≡ words tr (2 * list.start) (2 * list.count)) where
  abbrev Found : Option ℕ → Type 0
  Found r = Finds t (listed xs) r

  in_list : (r : Option ℕ) → Found r → Finds t (edges tr list.start list.count) r
  in_list r f = found tr list.start list.count (2 * list.count) refl (listed_inside P F) t r
      (subst (λ (ys : List ℕ). Finds t (listed ys) r) (W ∙ words_take tr (2 * list.start) (2 * list.count) (omega (arith, listed_inside P F))) f)

  module _ {i : ℕ} (f : Found (Some i)) where
    pub label_inside : i < list.count
    label_inside = omega (arith, (in_list (Some i) f).1, edges_length tr list.start list.count)

    pub label_some : {g : Transition} → edge_of g ≡ edge_at tr (list.start + i) → label_to t (edges tr (start_of st s) (count_of st s - 1)) ≡ M.by g.label.0
    label_some {g} e =
        ap (label_to t) (listed_edges P F)
        ∙ label_found t tr list.start list.count i (in_list (Some i) f).0 label_inside
        ∙ ap (λ (u : Edge). M.by u.label) (sym e)

  pub label_without : Found None → label_to t (edges tr (start_of st s) (count_of st s - 1)) ≡ M.none
  label_without f = ap (label_to t) (listed_edges P F) ∙ label_none t tr list.start list.count (omega (arith, in_list None f, edges_length tr list.start list.count))
