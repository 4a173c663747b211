-- 02 (ii), "from block 1, without gaps, come those records in that order, states by words 0 to 3", "a member with its state": what the tables hold when some of the records are made: the image's words, one by one.
use Rattle.std.specs.Prelude.{if◌then◌else◌}
use mathlib.Core.Path.{◌≡◌, refl, sym, ◌∙◌, ap, ap₂, subst}
use mathlib.Core.Bool.{Bool, true, false}
use mathlib.Core.List.{List, [], ◌∷◌, ◌++◌}
use mathlib.Core.Option.{Option}
use Prim.Native.Nat.{ℕ, zero, suc, ◌+◌, ◌*◌, ◌-◌, ◌/◌, ◌%◌, ◌≤◌, ◌<◌, max}
use native.Mathlib.Omega.{arith}
use native.Mathlib.Nat.{suc-add}
use lib.Dec.{ltb}
use lib.ListN.{length, get_or, take}
use lib.Seq.{length-take-le, ext_get_or, get_or-take}
use borrow.Author.Tests.{ltb-true, ltb-false}
use Rattle.common.specs.Runs.{Table}
use Rattle.sp_steps.specs.Model as Sp
use Rattle.sp_steps.proofs.Make.{by_test}
use Rattle.spp_steps.specs.Model as Spp
use Rattle.aut_steps.specs.Tables.{UNION, INTERSECT, kind_of, op1, op2, nest, words, Limits, Aut}
use Rattle.aut_steps.specs.Wf.{states}
use Rattle.aut_steps.proofs.Facts.{words_length}
use Rattle.image_steps.specs.Image.{Head, start_of, layout, state_words, line_words}
use Rattle.image_steps.specs.Read as Read
use Rattle.image_steps.proofs.Lists.{two, four, words_at, pieces_length, pieces_at}
use Rattle.image_steps.proofs.Fits.{ManyRight, fits_right}
use Rattle.image_steps.proofs.States.{if_list, is_list, as_list, as_other, StateMade, list_right}
use Rattle.image_steps.proofs.Nodes.{kids_words, NodeMade, kids_r_words, RelationMade}

-- words 0 to 3 of the first n states
module _ (st : List ℕ) where
  pub states_length : (n : ℕ) → length (state_words st n) ≡ 4 * n
  unfolding state_words
  states_length = pieces_length 4 (state_words st) (λ n. words st (12 * n) 4) refl (λ n. refl) (λ n. words_length st (12 * n) 4)

  pub states_at : (n x w : ℕ) → x < n → w < 4 → get_or (state_words st n) (4 * x + w) 0 ≡ get_or st (12 * x + w) 0
  unfolding state_words
  states_at n x w l m = pieces_at 4 (state_words st) (λ n. words st (12 * n) 4) refl (λ n. refl) (λ n. words_length st (12 * n) 4) n x w l m ∙ words_at st (12 * x) 4 w m

pub lines_length : (ls : List (Option ℕ)) → length (line_words ls) ≡ length ls
unfolding line_words
lines_length [] = refl
lines_length (l ∷ ls) = ap suc (lines_length ls)

module _ (image : List ℕ) (h : Head) (L : Limits) where
  abbrev pub word : ℕ → ℕ
  word = Read.word image h L

  abbrev pub words_from : ℕ → ℕ → List ℕ
  words_from = Read.words_from image h L

  -- ---- words in a row

  pub row_length : (k i : ℕ) → length (words_from i k) ≡ k
  unfolding Read.words_from
  row_length zero i = refl
  row_length (suc k) i = ap suc (row_length k (i + 1))

  pub row_at : (k i j : ℕ) → j < k → get_or (words_from i k) j 0 ≡ word (i + j)
  unfolding Read.words_from
  row_at zero i j l = absurd (omega arith)
  row_at (suc k) i zero l = ap word (omega arith)
  row_at (suc k) i (suc j) l = row_at k (i + 1) j (omega arith) ∙ ap word (omega arith)

  -- a list that holds these words
  pub row_is : (t : List ℕ) (i k : ℕ) → length t ≡ k → ((j : ℕ) → j < k → get_or t j 0 ≡ word (i + j)) → t ≡ words_from i k
  row_is t i k e f = ext_get_or 0 t (words_from i k) (e ∙ sym (row_length k i)) (λ j l. f j (omega arith) ∙ sym (row_at k i j (omega arith)))

  pub row_append : (k m i : ℕ) → words_from i (k + m) ≡ words_from i k ++ words_from (i + k) m
  unfolding Read.words_from
  row_append zero m i = ap (words_from i) {x = zero + m} {y = m} (omega arith) ∙ ap (λ (j : ℕ). words_from j m) {x = i} (omega arith)
  row_append (suc k) m i =
      ap (words_from i) (suc-add k m)
      ∙ ap {B = List ℕ} (λ r. word i ∷ r) (row_append k m (i + 1) ∙ ap (λ (j : ℕ). words_from (i + 1) k ++ words_from j m) (omega arith))

  -- ---- nodes

  -- Of the table's records of w words each, the first i are the image's from word `from` on; `least` stood there before.
  pub record Copied (w least from i : ℕ) (t : Table) : Type 0 where
    pub count : t.count ≡ max least i
    pub fits : w * t.count ≤ length t.words
    pub same : (j : ℕ) → j < w * i → get_or t.words j 0 ≡ word (from + j)

  pub copied_list : (w least from i : ℕ) (t : Table) → Copied w least from i t → least ≤ i → take (w * t.count) t.words ≡ words_from from (w * i)
  copied_list w least from i t C l =
      let n : t.count ≡ i = omega (arith, C.count) in
      row_is _ from (w * i) (length-take-le (w * t.count) t.words C.fits ∙ ap (λ (k : ℕ). w * k) n)
      (λ j m. get_or-take (w * t.count) t.words j 0 (subst (λ (k : ℕ). j < w * k) (sym n) m) ∙ C.same j m)

  -- one record more
  copied_more : (w least from i : ℕ) (t u : Table) → Copied w least from i t → u.count ≡ max least (i + 1) → w * u.count ≤ length u.words
      → ((j : ℕ) → j < w * i → get_or u.words j 0 ≡ get_or t.words j 0)
      → ((j : ℕ) → j < w → get_or u.words (w * i + j) 0 ≡ word (from + w * i + j)) → Copied w least from (i + 1) u
  copied_more w least from i t u C n f old new = record { count = n; fits = f; same = same }
    where
      same : (j : ℕ) → j < w * (i + 1) → get_or u.words j 0 ≡ word (from + j)
      same j l =
          by_test (ltb j (w * i))
          (λ e. let m : j < w * i = ltb-true _ _ e in old j m ∙ C.same j m)
          (λ e.
          let m : w * i ≤ j = ltb-false _ _ e in
          ap (λ (k : ℕ). get_or u.words k 0) (omega arith) ∙ new (j - w * i) (omega arith) ∙ ap word (omega arith))

  -- a node's record that is made
  pub node_copied : (N from i : ℕ) {t u : Table} {z : ℕ} → Copied 2 N from i t → NodeMade N i (word (from + 2 * i)) (word (from + 2 * i + 1)) t u z → Copied 2 N from (i + 1) u
  unfolding Sp.kid
  node_copied N from i {t} {u} C M =
      copied_more 2 N from i t u C (omega (arith, C.count, M.count)) M.wf.fits
      (kids_words u.words t.words i (λ b k l. M.ext.keep b k (omega (arith, M.near))))
      (two (λ j. get_or u.words (2 * i + j) 0 ≡ word (from + 2 * i + j))
      (ap (λ (k : ℕ). get_or u.words k 0) {y = 2 * i} (omega arith) ∙ M.kids false ∙ ap word (omega arith))
      (M.kids true))

  pub relation_copied : (N least from i : ℕ) {t u : Table} {z : ℕ} → Copied 4 least from i t
      → RelationMade N i (Spp.quad (word (from + 4 * i)) (word (from + 4 * i + 1)) (word (from + 4 * i + 2)) (word (from + 4 * i + 3))) t u z → Copied 4 least from (i + 1) u
  unfolding Spp.kid
  relation_copied N least from i {t} {u} C M =
      copied_more 4 least from i t u C (omega (arith, C.count, M.count)) M.wf.nodes.fits
      (kids_r_words u.words t.words i (λ k l. M.ext.keep k (omega (arith, M.near))))
      (four (λ j. get_or u.words (4 * i + j) 0 ≡ word (from + 4 * i + j))
      (ap (λ (k : ℕ). get_or u.words k 0) {y = 4 * i} (omega arith) ∙ M.kids false false ∙ ap word (omega arith))
      (M.kids false true) (M.kids true false) (M.kids true true))

  -- ---- states and members

  -- the first i states have the image's words
  pub record States (i : ℕ) (s : Table) : Type 0 where
    pub count : s.count ≡ i
    pub same : (j r : ℕ) → j < i → r < 4 → get_or s.words (12 * j + r) 0 ≡ word (start_of 3 (layout h) + (4 * j + r))

  -- the members so far are the image's
  pub record Members (m : Table) : Type 0 where
    pub fits : m.count ≤ length m.words
    pub same : (j : ℕ) → j < m.count → get_or m.words j 0 ≡ word (start_of 2 (layout h) + j)

  pub record Auts (least b c : ℕ) (σ : Aut) : Type 0 where
    pub nodes : Copied 4 least (start_of 1 (layout h)) b σ.nodes
    pub states : States c σ.states
    pub members : Members σ.members

  module _ {N z : ℕ} {σ τ : Aut} {xs : List ℕ} {k x y e : ℕ} (M : StateMade N L xs k x y e σ τ z) where
    -- a state's record that is made
    states_more : {i : ℕ} → States i σ.states → k ≡ word (start_of 3 (layout h) + 4 * i) → x ≡ word (start_of 3 (layout h) + 4 * i + 1) → y ≡ word (start_of 3 (layout h) + 4 * i + 2) → e ≡ word (start_of 3 (layout h) + 4 * i + 3)
        → States (i + 1) τ.states
    unfolding kind_of op1 op2 nest
    states_more {i} S is0 is1 is2 is3 = record { count = omega (arith, M.count, S.count); same = same }
      where
        at : (r : ℕ) → r < 4 → get_or τ.states.words (12 * states σ + r) 0 ≡ word (start_of 3 (layout h) + 4 * i + r)
        at =
            four (λ r. get_or τ.states.words (12 * states σ + r) 0 ≡ word (start_of 3 (layout h) + 4 * i + r))
            (ap (λ (j : ℕ). get_or τ.states.words j 0) {y = 12 * states σ} (omega arith) ∙ M.kind_is ∙ is0 ∙ ap word (omega arith))
            (M.first_is ∙ is1) (M.second_is ∙ is2) (M.nesting_is ∙ is3)

        same : (j r : ℕ) → j < i + 1 → r < 4 → get_or τ.states.words (12 * j + r) 0 ≡ word (start_of 3 (layout h) + (4 * j + r))
        same j r l m =
            by_test (ltb j i)
            (λ t. let a : j < i = ltb-true _ _ t in M.grown.states.keep j r (omega (arith, S.count)) m ∙ S.same j r a m)
            (λ t.
            let a : i ≤ j = ltb-false _ _ t in
            ap (λ (j : ℕ). get_or τ.states.words j 0) {y = 12 * states σ + r} (omega (arith, S.count)) ∙ at r m ∙ ap word (omega arith))

    -- its members, if it has any
    members_more : Members σ.members → (UNION ≤ k → k ≤ INTERSECT → xs ≡ words_from (start_of 2 (layout h) + x) y) → Members τ.members
    members_more H f = record { fits = M.good.members_fit; same = same }
      where
        listed : UNION ≤ k → k ≤ INTERSECT → (j : ℕ) → σ.members.count ≤ j → j < τ.members.count → get_or τ.members.words j 0 ≡ word (start_of 2 (layout h) + j)
        listed lo hi j a l =
            let m : ManyRight L σ xs x y e = list_right (fits_right N L σ xs k x y e M.fits) lo hi in
            let b : j - x < y = omega (arith, M.members_count, as_list k y 0 lo hi, m.start) in
            ap (λ (i : ℕ). get_or τ.members.words i 0) {y = x + (j - x)} (omega (arith, m.start))
            ∙ sym (words_at τ.members.words x y (j - x) b)
            ∙ ap (λ (l : List ℕ). get_or l (j - x) 0) (ap₂ (words τ.members.words) (sym M.first_is) (sym M.second_is) ∙ M.list lo hi ∙ f lo hi)
            ∙ row_at y (start_of 2 (layout h) + x) (j - x) b ∙ ap word (omega (arith, m.start))

        same : (j : ℕ) → j < τ.members.count → get_or τ.members.words j 0 ≡ word (start_of 2 (layout h) + j)
        same j l =
            by_test (ltb j σ.members.count)
            (λ t. let a : j < σ.members.count = ltb-true _ _ t in M.grown.members.keep j a ∙ H.same j a)
            (λ t. let a : σ.members.count ≤ j = ltb-false _ _ t in if_list k (λ lo hi. listed lo hi j a l) (λ n. absurd (omega (arith, M.members_count, as_other k y 0 n))))

  pub auts_more : {N least b i z : ℕ} {σ τ : Aut} → Auts least b i σ → (k x y e : ℕ)
      → k ≡ word (start_of 3 (layout h) + 4 * i) → x ≡ word (start_of 3 (layout h) + 4 * i + 1) → y ≡ word (start_of 3 (layout h) + 4 * i + 2) → e ≡ word (start_of 3 (layout h) + 4 * i + 3)
      → StateMade N L (Read.list_at image h L k x y) k x y e σ τ z → Auts least b (i + 1) τ
  auts_more {least} {b} {i} A k x y e is0 is1 is2 is3 M = record {
    nodes = subst (Copied 4 least (start_of 1 (layout h)) b) (sym M.nodes) A.nodes;
    states = states_more M A.states is0 is1 is2 is3;
    members = members_more M A.members (λ lo hi. ap (λ (c : Bool). if c then words_from (start_of 2 (layout h) + x) y else []) (is_list k lo hi));
  }

  -- ---- as lists

  pub members_list : (m : Table) → Members m → take m.count m.words ≡ Read.words_from image h L (start_of 2 (layout h)) m.count
  members_list m M =
      row_is _ (start_of 2 (layout h)) m.count (length-take-le m.count m.words M.fits) (λ j l. get_or-take m.count m.words j 0 l ∙ M.same j l)

  pub states_list : (i : ℕ) (s : Table) → States i s → state_words s.words s.count ≡ Read.words_from image h L (start_of 3 (layout h)) (4 * i)
  states_list i s S =
      ap (state_words s.words) S.count
      ∙ row_is (state_words s.words i) (start_of 3 (layout h)) (4 * i) (states_length s.words i)
      (λ j l. ap (λ (k : ℕ). get_or (state_words s.words i) k 0) {y = 4 * (j / 4) + j % 4} (omega arith)
      ∙ states_at s.words i (j / 4) (j % 4) (omega arith) (omega arith) ∙ S.same (j / 4) (j % 4) (omega arith) (omega arith) ∙ ap word (omega arith))
