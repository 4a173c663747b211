-- How `Walk` and `HasSets` go on: sets are made, a word is written or copied, words 8 and 9 are compared; and the end, where words 8 to 11 and the entries are zero again.
use Rattle.std.specs.Prelude.{if◌then◌else◌}
use mathlib.Core.Path.{◌≡◌, refl, sym, ◌∙◌, ap, ap₂, subst}
use mathlib.Core.Logic.{◌≢◌, ⊎_elim}
use mathlib.Core.Bool.{Bool, true, false, ◌&&◌}
use mathlib.Core.List.Memᴰ
use mathlib.Core.List.{List, [], ◌∷◌, Memᴰ}
use Prim.Native.Nat.{ℕ, ◌+◌, ◌*◌, ◌/◌, ◌%◌, ◌≤◌, ◌<◌}
use native.Mathlib.Omega.{arith}
use lib.Dec.{eqb, ltb}
use lib.ListN.{length, get_or, set, length-set}
use lib.Seq.{get_or-set_same, get_or-set_other, set_out}
use borrow.Author.Tests.{eq-eqb, ne_eqb, eqb-true, eqb-false, ltb-true, ltb-false}
use Rattle.common.specs.Packets.{any}
use Rattle.spp_steps.proofs.Laws.{by_test}
use Rattle.aut_query_steps.specs.Explored.{Linked}
use Rattle.aut_query_steps.proofs.ExploreLaws.{any_mem}
use Rattle.aut_query_steps.specs.Tables.{Tables}
use Rattle.aut_why_steps.specs.Why.{Sets, same_on}
use Rattle.aut_steps.specs.Wf.{states}
use Rattle.aut_delta_steps.specs.Delta.{Store}
use Rattle.aut_live_words.specs.Layer.{Zeroed}
use Rattle.aut_states.specs.declared.Limits.{Limits}
use Rattle.aut_free.specs.Clear.{clear, clear_tables, in_store}
use Rattle.aut_free.proofs.Clear.{AtRest}
use Rattle.aut_free.proofs.Clearing.{clear_length, is_clear}
use Rattle.aut_live_words.specs.Working.{Working}
use Rattle.aut_live_words.specs.Work.{seconds, copy_words}
use Rattle.aut_live_words.specs.Clauses.{PreKeep}
use Rattle.aut_live_words.proofs.Words.{second_in, copy_other}
use Rattle.aut_live_words.proofs.Held.{mem_any, clear_set_in, working_set}
use Rattle.aut_live_words.specs.Working.{words_in, with_words}
use Rattle.aut_why_words.specs.Walk.{Walk, HasSets}
use Rattle.aut_why_words.specs.Words.{same_words, zero_words, clear_all, PostClear}
use Rattle.aut_why_words.proofs.Loops.{zero_length}

-- ---- the states reached

module _ {N : ℕ} {l : Limits} {σ : Tables} {s p : List ℕ} {n : ℕ} (K : Walk N l σ s p n) where
  pub walk_known : (x : ℕ) → Memᴰ x (seconds p 0 n) → x < states σ.base.aut
  walk_known x m = (K.links x m).known

  pub walk_there : (x : ℕ) → Memᴰ x (seconds p 0 n) → 12 * x + 11 < length (words_in σ)
  walk_there x m = omega (arith, walk_known x m, subst (λ (k : ℕ). 12 * states σ.base.aut ≤ k) (clear_length (words_in σ)) K.working.ready.ready.good.fits)

  pub walk_keeps : PreKeep (words_in σ) p n
  walk_keeps = record { fits = omega (arith, K.room); states = λ i a. walk_there (get_or p (2 * i + 1) 0) (second_in p 0 n i (omega arith) (omega arith)) }

  -- packet sets were made
  pub walk_made : {τ : Tables} {s' : List ℕ} → τ.base ≡ σ.base → Working N l τ s' → Walk N l τ s' p n
  walk_made {τ} q W = record {
    working = W;
    links = λ x m. subst (λ (b : Store). Linked (in_store clear b) (seconds p 0 n) x) (sym q) (K.links x m);
    rest = λ x w a b m. ap (λ (b : Store). get_or b.aut.states.words (12 * x + w) 0) q ∙ K.rest x w a b m;
    first = K.first;
    after = K.after;
    room = K.room;
  }

  -- a word of one of them is written
  pub walk_written : (x w v : ℕ) → 8 ≤ w → w < 12 → Memᴰ x (seconds p 0 n) → Walk N l (with_words (set (words_in σ) (12 * x + w) v) σ) s p n
  walk_written x w v a b m = record {
    working = working_set σ x w v a b (walk_known x m) K.working;
    links = λ y k. subst (λ (τ : Tables). Linked τ.base (seconds p 0 n) y) (sym (clear_set_in σ x w v a b)) (K.links y k);
    rest = λ y u e f k. get_or-set_other (words_in σ) (12 * x + w) (12 * y + u) v 0 (λ q. k (subst (λ (z : ℕ). Memᴰ z (seconds p 0 n)) {x = x} {y = y} (omega arith) m)) ∙ K.rest y u e f k;
    first = K.first;
    after = K.after;
    room = K.room;
  }

-- ---- a word is copied

module _ (a b : ℕ) (less : b < 12) where
  module _ (low : a < 12) (differ : a ≢ b) where
    -- word a is as it was; word b is the same word a if it was, or if it is written
    one_from : (st : List ℕ) (y z : ℕ) → get_or (set st (12 * y + b) (get_or st (12 * y + a) 0)) (12 * z + a) 0 ≡ get_or st (12 * z + a) 0
    one_from st y z = get_or-set_other st (12 * y + b) (12 * z + a) (get_or st (12 * y + a) 0) 0 (λ e. differ (omega arith))

    copy_stays : (xs st : List ℕ) (z : ℕ) → 12 * z + 11 < length st → get_or st (12 * z + b) 0 ≡ get_or st (12 * z + a) 0 → get_or (copy_words a b xs st) (12 * z + b) 0 ≡ get_or st (12 * z + a) 0
    unfolding copy_words
    copy_stays [] st z k q = q
    copy_stays (y ∷ xs) st z k q =
        copy_stays xs (set st (12 * y + b) (get_or st (12 * y + a) 0)) z (subst (λ (m : ℕ). 12 * z + 11 < m) (sym (length-set st (12 * y + b) (get_or st (12 * y + a) 0))) k)
        (by_test (eqb z y)
        (λ e. let r : z ≡ y = eqb-true z y e in
        subst (λ (y : ℕ). get_or (set st (12 * y + b) (get_or st (12 * y + a) 0)) (12 * z + b) 0 ≡ get_or (set st (12 * y + b) (get_or st (12 * y + a) 0)) (12 * z + a) 0) r
        (get_or-set_same st (12 * z + b) (get_or st (12 * z + a) 0) 0 (omega arith) ∙ sym (one_from st z z)))
        (λ e. let r : (z ≡ y → ⊥) = eqb-false z y e in get_or-set_other st (12 * y + b) (12 * z + b) (get_or st (12 * y + a) 0) 0 (λ i. r (omega arith)) ∙ q ∙ sym (one_from st y z)))
        ∙ one_from st y z

    pub copy_here : (xs st : List ℕ) (z : ℕ) → 12 * z + 11 < length st → Memᴰ z xs → get_or (copy_words a b xs st) (12 * z + b) 0 ≡ get_or st (12 * z + a) 0
    unfolding copy_words
    copy_here (y ∷ xs) st z k m =
        let k' : 12 * z + 11 < length (set st (12 * y + b) (get_or st (12 * y + a) 0)) = subst (λ (m : ℕ). 12 * z + 11 < m) (sym (length-set st (12 * y + b) (get_or st (12 * y + a) 0))) k in
        ⊎_elim
        (λ q. copy_stays xs (set st (12 * y + b) (get_or st (12 * y + a) 0)) z k'
        (subst (λ (y : ℕ). get_or (set st (12 * y + b) (get_or st (12 * y + a) 0)) (12 * z + b) 0 ≡ get_or (set st (12 * y + b) (get_or st (12 * y + a) 0)) (12 * z + a) 0) q
        (get_or-set_same st (12 * z + b) (get_or st (12 * z + a) 0) 0 (omega arith) ∙ sym (one_from st z z))))
        (λ i. copy_here xs (set st (12 * y + b) (get_or st (12 * y + a) 0)) z k' i)
        (Memᴰ.cases_cons m)
        ∙ one_from st y z
    copy_here [] st z k m = elim m [ ]

  -- words 8 to 11 may be copied
  module _ (σ : Tables) (low : 8 ≤ b) where
    pub clear_copied : (xs st : List ℕ) → clear_tables (with_words (copy_words a b xs st) σ) ≡ clear_tables (with_words st σ)
    unfolding copy_words
    clear_copied [] st = refl
    clear_copied (y ∷ xs) st = clear_copied xs (set st (12 * y + b) (get_or st (12 * y + a) 0)) ∙ clear_set_in (with_words st σ) y b (get_or st (12 * y + a) 0) low less

  pub has_beside : {st p : List ℕ} {n w : ℕ} {v : Sets} → w < 12 → w ≢ b → HasSets w st p n v → HasSets w (copy_words a b (seconds p 0 n) st) p n v
  has_beside {st} {p} {n} {w} k q h = record { is = λ x m. copy_other a b less (seconds p 0 n) st x w k q ∙ h.is x m }

module _ {N : ℕ} {l : Limits} (σ : Tables) {s p : List ℕ} {n : ℕ} (a b : ℕ) (low : 8 ≤ b) (less : b < 12) where
  copies : (xs st : List ℕ) → ((x : ℕ) → Memᴰ x xs → Memᴰ x (seconds p 0 n)) → Walk N l (with_words st σ) s p n → Walk N l (with_words (copy_words a b xs st) σ) s p n
  unfolding copy_words
  copies [] st f K = K
  copies (y ∷ xs) st f K = copies xs (set st (12 * y + b) (get_or st (12 * y + a) 0)) (λ x m. f x (Memᴰ.tail m)) (walk_written K y b (get_or st (12 * y + a) 0) low less (f y (Memᴰ.head refl)))

  module _ (K : Walk N l σ s p n) where
    pub walk_copied : Walk N l (with_words (copy_words a b (seconds p 0 n) (words_in σ)) σ) s p n
    walk_copied = copies (seconds p 0 n) (words_in σ) (λ x m. m) K

    pub has_copied : {v : Sets} → a < 12 → a ≢ b → HasSets a (words_in σ) p n v → HasSets b (copy_words a b (seconds p 0 n) (words_in σ)) p n v
    has_copied k q h = record { is = λ x m. copy_here a b less k q (seconds p 0 n) (words_in σ) x (walk_there K x m) m ∙ h.is x m }

-- ---- words 8 and 9 are compared

one_more : (a b : ℕ) → eqb (a + 1) (b + 1) ≡ eqb a b
one_more a b = by_test (eqb a b)
    (λ e. eq-eqb (a + 1) (b + 1) (ap (λ (k : ℕ). k + 1) (eqb-true a b e)) ∙ sym e)
    (λ e. let q : (a ≡ b → ⊥) = eqb-false a b e in ne_eqb (a + 1) (b + 1) (λ z. q (omega arith)) ∙ sym e)

same_is : (xs st : List ℕ) (v w : Sets) → ((x : ℕ) → Memᴰ x xs → get_or st (12 * x + 8) 0 ≡ v x + 1) → ((x : ℕ) → Memᴰ x xs → get_or st (12 * x + 9) 0 ≡ w x + 1) → same_words xs st ≡ same_on xs v w
unfolding same_words same_on
same_is [] st v w f g = refl
same_is (x ∷ xs) st v w f g = ap₂ ◌&&◌ (ap₂ eqb (f x (Memᴰ.head refl)) (g x (Memᴰ.head refl)) ∙ one_more (v x) (w x)) (same_is xs st v w (λ y m. f y (Memᴰ.tail m)) (λ y m. g y (Memᴰ.tail m)))

pub same_sets : {st p : List ℕ} {n : ℕ} {v w : Sets} → HasSets 8 st p n v → HasSets 9 st p n w → same_words (seconds p 0 n) st ≡ same_on (seconds p 0 n) v w
same_sets {st} {p} {n} {v} {w} f g = same_is (seconds p 0 n) st v w f.is g.is

-- ---- the end

-- a word that is zero stays so
stays : (st : List ℕ) (j i : ℕ) → get_or st i 0 ≡ 0 → get_or (set st j 0) i 0 ≡ 0
stays st j i q = by_test (eqb i j)
    (λ e. by_test (ltb j (length st))
    (λ k. ap (λ (i : ℕ). get_or (set st j 0) i 0) (eqb-true i j e) ∙ get_or-set_same st j 0 0 (ltb-true j (length st) k))
    (λ k. ap (λ (u : List ℕ). get_or u i 0) (set_out st j 0 (ltb-false j (length st) k)) ∙ q))
    (λ e. get_or-set_other st j i 0 0 (eqb-false i j e) ∙ q)

zeroed_stays : (st : List ℕ) (y i : ℕ) → get_or st i 0 ≡ 0 → get_or (zero_words st y) i 0 ≡ 0
zeroed_stays st y i q =
    stays (set (set (set st (12 * y + 8) 0) (12 * y + 9) 0) (12 * y + 10) 0) (12 * y + 11) i
    (stays (set (set st (12 * y + 8) 0) (12 * y + 9) 0) (12 * y + 10) i (stays (set st (12 * y + 8) 0) (12 * y + 9) i (stays st (12 * y + 8) i q)))

zeroed_low : (st : List ℕ) (y z w : ℕ) → w < 8 → get_or (zero_words st y) (12 * z + w) 0 ≡ get_or st (12 * z + w) 0
zeroed_low st y z w k =
    get_or-set_other (set (set (set st (12 * y + 8) 0) (12 * y + 9) 0) (12 * y + 10) 0) (12 * y + 11) (12 * z + w) 0 0 (λ q. omega arith)
    ∙ get_or-set_other (set (set st (12 * y + 8) 0) (12 * y + 9) 0) (12 * y + 10) (12 * z + w) 0 0 (λ q. omega arith)
    ∙ get_or-set_other (set st (12 * y + 8) 0) (12 * y + 9) (12 * z + w) 0 0 (λ q. omega arith)
    ∙ get_or-set_other st (12 * y + 8) (12 * z + w) 0 0 (λ q. omega arith)

-- written: zero, then three more that leave it so
zeroed_here : (st : List ℕ) (y w : ℕ) → 8 ≤ w → w < 12 → 12 * y + 11 < length st → get_or (zero_words st y) (12 * y + w) 0 ≡ 0
zeroed_here st y w a b k =
    let s8 : List ℕ = set st (12 * y + 8) 0 in
    let s9 : List ℕ = set s8 (12 * y + 9) 0 in
    let s10 : List ℕ = set s9 (12 * y + 10) 0 in
    let e8 : length s8 ≡ length st = length-set st (12 * y + 8) 0 in
    let e9 : length s9 ≡ length st = length-set s8 (12 * y + 9) 0 ∙ e8 in
    let e10 : length s10 ≡ length st = length-set s9 (12 * y + 10) 0 ∙ e9 in
    by_test (eqb w 11)
    (λ e. subst (λ (w : ℕ). get_or (set s10 (12 * y + 11) 0) (12 * y + w) 0 ≡ 0) (sym (eqb-true w 11 e)) (get_or-set_same s10 (12 * y + 11) 0 0 (omega (arith, e10))))
    (λ e. stays s10 (12 * y + 11) (12 * y + w) (by_test (eqb w 10)
    (λ e. subst (λ (w : ℕ). get_or s10 (12 * y + w) 0 ≡ 0) (sym (eqb-true w 10 e)) (get_or-set_same s9 (12 * y + 10) 0 0 (omega (arith, e9))))
    (λ f. stays s9 (12 * y + 10) (12 * y + w) (by_test (eqb w 9)
    (λ e. subst (λ (w : ℕ). get_or s9 (12 * y + w) 0 ≡ 0) (sym (eqb-true w 9 e)) (get_or-set_same s8 (12 * y + 9) 0 0 (omega (arith, e8))))
    (λ g. stays s8 (12 * y + 9) (12 * y + w)
    (subst (λ (w : ℕ). get_or s8 (12 * y + w) 0 ≡ 0) {x = 8} {y = w} (eight w a b (eqb-false w 11 e) (eqb-false w 10 f) (eqb-false w 9 g)) (get_or-set_same st (12 * y + 8) 0 0 (omega arith))))))))
  where
    eight : (w : ℕ) → 8 ≤ w → w < 12 → (w ≡ 11 → ⊥) → (w ≡ 10 → ⊥) → (w ≡ 9 → ⊥) → 8 ≡ w
    eight w a b e f g = omega (arith, e, f, g)

all_length : (xs st : List ℕ) → length (clear_all xs st) ≡ length st
unfolding clear_all
all_length [] st = refl
all_length (y ∷ xs) st = all_length xs (zero_words st y) ∙ zero_length st y

all_low : (xs st : List ℕ) (z w : ℕ) → w < 8 → get_or (clear_all xs st) (12 * z + w) 0 ≡ get_or st (12 * z + w) 0
unfolding clear_all
all_low [] st z w k = refl
all_low (y ∷ xs) st z w k = all_low xs (zero_words st y) z w k ∙ zeroed_low st y z w k

all_stays : (xs st : List ℕ) (i : ℕ) → get_or st i 0 ≡ 0 → get_or (clear_all xs st) i 0 ≡ 0
unfolding clear_all
all_stays [] st i q = q
all_stays (y ∷ xs) st i q = all_stays xs (zero_words st y) i (zeroed_stays st y i q)

all_here : (xs st : List ℕ) (z w : ℕ) → 8 ≤ w → w < 12 → 12 * z + 11 < length st → Memᴰ z xs → get_or (clear_all xs st) (12 * z + w) 0 ≡ 0
unfolding clear_all
all_here (y ∷ xs) st z w a b k m =
    ⊎_elim
    (λ q. all_stays xs (zero_words st y) (12 * z + w) (subst (λ (y : ℕ). get_or (zero_words st y) (12 * z + w) 0 ≡ 0) q (zeroed_here st z w a b k)))
    (λ i. all_here xs (zero_words st y) z w a b (subst (λ (m : ℕ). 12 * z + 11 < m) (sym (zero_length st y)) k) i)
    (Memᴰ.cases_cons m)
all_here [] st z w a b k m = elim m [ ]

-- no test holds and fails
pub no_test : (b : Bool) → b ≡ true → b ≡ false → ⊥
no_test true t f = let z : ◌≡◌ {A = ℕ} 0 1 = ap (λ (b : Bool). if b then 0 else 1) f in absurd (omega arith)
no_test false t f = let z : ◌≡◌ {A = ℕ} 0 1 = sym (ap (λ (b : Bool). if b then 0 else 1) t) in absurd (omega arith)

module _ {N : ℕ} {l : Limits} {σ : Tables} {s p : List ℕ} {n : ℕ} (K : Walk N l σ s p n) {st' p' : List ℕ} (E : PostClear n (words_in σ) p st' p') where
  at_rest : AtRest st'
  at_rest z w a b = ap (λ (u : List ℕ). get_or u (12 * z + w) 0) E.is ∙ by_test (any (eqb z) (seconds p 0 n))
      (λ e. let m = any_mem z (seconds p 0 n) e in all_here (seconds p 0 n) (words_in σ) z w a b (walk_there K z m) m)
      (λ e. all_stays (seconds p 0 n) (words_in σ) (12 * z + w) (K.rest z w a b (λ m. absurd (no_test (any (eqb z) (seconds p 0 n)) (mem_any m) e))))

  -- the tables are at rest again: nothing but words 8 to 11 has changed
  pub walk_cleared : with_words st' σ ≡ clear_tables σ
  walk_cleared = ap (λ (u : List ℕ). with_words u σ)
      (is_clear st' (words_in σ) (ap length E.is ∙ all_length (seconds p 0 n) (words_in σ)) (λ z w a. ap (λ (u : List ℕ). get_or u (12 * z + w) 0) E.is ∙ all_low (seconds p 0 n) (words_in σ) z w a) at_rest)

  pub walk_zeroed : Zeroed p'
  walk_zeroed j = by_test (eqb (j % 2) 0)
      (λ b. subst (λ (j : ℕ). get_or p' j 0 ≡ 0) {x = 2 * (j / 2)} {y = j} (omega (arith, eqb-true (j % 2) 0 b)) (E.pending.first (j / 2) ∙ K.first (j / 2)))
      (λ b. let q : (j % 2 ≡ 0 → ⊥) = eqb-false (j % 2) 0 b in subst (λ (j : ℕ). get_or p' j 0 ≡ 0) {x = 2 * (j / 2) + 1} {y = j} (omega (arith, q)) (odd (j / 2)))
    where
      odd : (i : ℕ) → get_or p' (2 * i + 1) 0 ≡ 0
      odd i = by_test (ltb i n) (λ t. E.pending.within i (ltb-true i n t)) (λ t. E.pending.beyond i (ltb-false i n t) ∙ K.after i (ltb-false i n t))
