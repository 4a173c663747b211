-- The operations on transition lists, followed in two runs: with what relates the steps that they call, they are related. Said once, for two stores, two sets of operations, and any relation P between steps that `return` and `>>=` keep.
use Rattle.std.specs.Prelude.{if◌then◌else◌}
use mathlib.Core.Path.{◌≡◌, subst}
use mathlib.Core.Bool.{Bool, true, false}
use mathlib.Core.List.{List, [], ◌∷◌}
use Prim.Native.Nat.{ℕ}
use lib.Dec.{eqb}
use Rattle.common.specs.Outcome.{Step, return, ◌>>=◌}
use Rattle.netkat_steps.specs.ListSteps.{Edge, edge, Operations, leads_to, unite, enter_in, place, st_singleton, split, insert, insert_each, insert_pairs, st_union, meet_of, st_intersect, Summed, subtract_row, subtract_rows, rest_of, st_difference, st_xor, complement_of, cover_all, st_complement, followed_by, st_postcompose, st_precompose, met_with, st_intersect_expr}
use Rattle.netkat_steps.specs.ListSteps as St

-- P is kept, and relates each of the operations; what is refused at a list's limit is P's own matter
pub record Related (𝓞 𝓞' : Operations) (P : (A : Type 0) → Step 𝓞.Store A → Step 𝓞'.Store A → Type 0) : Type 1 where
  pub returns : {A : Type 0} (a : A) → P A (return a) (return a)
  pub bind : {A B : Type 0} {m : Step 𝓞.Store A} {m' : Step 𝓞'.Store A} {k : A → Step 𝓞.Store B} {k' : A → Step 𝓞'.Store B} → P A m m' → ((a : A) → P B (k a) (k' a)) → P B (m >>= k) (m' >>= k')
  pub zero : 𝓞.zero ≡ 𝓞'.zero
  pub enters : (s l : ℕ) (us : List Edge) → P (List Edge) (enter_in 𝓞 s l us) (enter_in 𝓞' s l us)
  pub union : (l m : ℕ) → P ℕ (𝓞.union l m) (𝓞'.union l m)
  pub intersect : (l m : ℕ) → P ℕ (𝓞.intersect l m) (𝓞'.intersect l m)
  pub difference : (l m : ℕ) → P ℕ (𝓞.difference l m) (𝓞'.difference l m)
  pub sequence : (l m : ℕ) → P ℕ (𝓞.sequence l m) (𝓞'.sequence l m)
  pub complement : (l : ℕ) → P ℕ (𝓞.complement l) (𝓞'.complement l)
  pub mk_union : (x y : ℕ) → P ℕ (𝓞.mk_union x y) (𝓞'.mk_union x y)
  pub mk_intersect : (x y : ℕ) → P ℕ (𝓞.mk_intersect x y) (𝓞'.mk_intersect x y)
  pub mk_difference : (x y : ℕ) → P ℕ (𝓞.mk_difference x y) (𝓞'.mk_difference x y)
  pub mk_sequence : (x y : ℕ) → P ℕ (𝓞.mk_sequence x y) (𝓞'.mk_sequence x y)
  pub mk_complement : (x : ℕ) → P ℕ (𝓞.mk_complement x) (𝓞'.mk_complement x)
  pub mk_top : P ℕ 𝓞.mk_top 𝓞'.mk_top
  pub mk_zero : P ℕ 𝓞.mk_zero 𝓞'.mk_zero

module _ {𝓞 𝓞' : Operations} {P : (A : Type 0) → Step 𝓞.Store A → Step 𝓞'.Store A → Type 0} (h : Related 𝓞 𝓞' P) where
  test : {A : Type 0} (b : Bool) {m k : Step 𝓞.Store A} {m' k' : Step 𝓞'.Store A} → P A m m' → P A k k' → P A (if b then m else k) (if b then m' else k')
  test true p q = p
  test false p q = q

  -- whether a label is the zero relation
  zero_test : {A : Type 0} (l : ℕ) {m k : Step 𝓞.Store A} {m' k' : Step 𝓞'.Store A} → P A m m' → P A k k' → P A (if eqb l 𝓞.zero then m else k) (if eqb l 𝓞'.zero then m' else k')
  zero_test {A} l {m} {k} {m'} {k'} p q = subst (λ (z : ℕ). P A (if eqb l 𝓞.zero then m else k) (if eqb l z then m' else k')) h.zero (test (eqb l 𝓞.zero) p q)

  unite_related : (s l : ℕ) (us : List Edge) → P (List Edge) (unite 𝓞 s l us) (unite 𝓞' s l us)
  unfolding unite
  unite_related s l [] = h.returns []
  unite_related s l (u ∷ us) = test (eqb s u.target) (h.bind (h.union u.label l) (λ m. h.returns (edge u.target m ∷ us))) (h.bind (unite_related s l us) (λ vs. h.returns (u ∷ vs)))

  place_related : (s l : ℕ) (us : List Edge) → P (List Edge) (place 𝓞 s l us) (place 𝓞' s l us)
  unfolding place
  place_related s l us = zero_test l (h.returns us) (h.bind h.mk_zero (λ z. test (eqb s z) (h.returns us) (test (leads_to 𝓞 s us) (unite_related s l us) (h.enters s l us))))

  pub st_singleton_related : (l s : ℕ) → P (List Edge) (st_singleton 𝓞 l s) (st_singleton 𝓞' l s)
  unfolding st_singleton
  st_singleton_related l s = zero_test l (h.returns []) (h.bind h.mk_zero (λ z. test (eqb s z) (h.returns []) (h.returns (edge s l ∷ []))))

  split_related : (s l : ℕ) (us : List Edge) (total : ℕ) (result : List Edge) → P (List Edge) (split 𝓞 s l us total result) (split 𝓞' s l us total result)
  unfolding split
  split_related s l [] total result = h.bind (h.difference l total) (λ rest. place_related s rest result)
  split_related s l (u ∷ us) total result =
      h.bind (h.intersect l u.label) (λ meet. h.bind (h.mk_union s u.target) (λ both. h.bind (place_related both meet result) (λ result₁. h.bind (h.union total meet) (λ total₁.
      h.bind (h.difference u.label meet) (λ others. h.bind (place_related u.target others result₁) (λ result₂. split_related s l us total₁ result₂))))))

  pub insert_related : (s l : ℕ) (us : List Edge) → P (List Edge) (insert 𝓞 s l us) (insert 𝓞' s l us)
  unfolding insert
  insert_related s l us = subst (λ (z : ℕ). P (List Edge) (split 𝓞 s l us 𝓞.zero []) (split 𝓞' s l us z [])) h.zero (split_related s l us 𝓞.zero [])

  insert_each_related : {make : Edge → Step 𝓞.Store Edge} {make' : Edge → Step 𝓞'.Store Edge} → ((e : Edge) → P Edge (make e) (make' e)) → (us result : List Edge)
      → P (List Edge) (insert_each 𝓞 make us result) (insert_each 𝓞' make' us result)
  unfolding insert_each
  insert_each_related m [] result = h.returns result
  insert_each_related m (u ∷ us) result = h.bind (m u) (λ new. h.bind (insert_related new.target new.label result) (λ result₁. insert_each_related m us result₁))

  insert_pairs_related : {make : Edge → Edge → Step 𝓞.Store Edge} {make' : Edge → Edge → Step 𝓞'.Store Edge} → ((t u : Edge) → P Edge (make t u) (make' t u)) → (ts us result : List Edge)
      → P (List Edge) (insert_pairs 𝓞 make ts us result) (insert_pairs 𝓞' make' ts us result)
  unfolding insert_pairs
  insert_pairs_related m [] us result = h.returns result
  insert_pairs_related m (t ∷ ts) us result = h.bind (insert_each_related (m t) us result) (λ result₁. insert_pairs_related m ts us result₁)

  pub st_union_related : (ts us : List Edge) → P (List Edge) (st_union 𝓞 ts us) (st_union 𝓞' ts us)
  unfolding st_union
  st_union_related ts us = h.bind (insert_each_related (λ e. h.returns e) ts []) (λ first. insert_each_related (λ e. h.returns e) us first)

  pub st_intersect_related : (ts us : List Edge) → P (List Edge) (st_intersect 𝓞 ts us) (st_intersect 𝓞' ts us)
  unfolding st_intersect
  st_intersect_related ts us =
      insert_pairs_related {make = meet_of 𝓞} {make' = meet_of 𝓞'} (λ t u. h.bind (h.mk_intersect t.target u.target) (λ x. h.bind (h.intersect t.label u.label) (λ m. h.returns (edge x m)))) ts us []

  subtract_row_related : (t : Edge) (us : List Edge) (s : Summed) → P Summed (subtract_row 𝓞 t us s) (subtract_row 𝓞' t us s)
  unfolding subtract_row
  subtract_row_related t [] s = h.returns s
  subtract_row_related t (u ∷ us) s =
      h.bind (h.mk_difference t.target u.target) (λ x. h.bind (h.intersect t.label u.label) (λ m. h.bind (h.union s.sum m) (λ sum₁. h.bind (insert_related x m s.result) (λ result₁.
      subtract_row_related t us (record { sum = sum₁; result = result₁ })))))

  subtract_rows_related : (ts us : List Edge) (s : Summed) → P Summed (subtract_rows 𝓞 ts us s) (subtract_rows 𝓞' ts us s)
  unfolding subtract_rows
  subtract_rows_related [] us s = h.returns s
  subtract_rows_related (t ∷ ts) us s = h.bind (subtract_row_related t us s) (λ s₁. subtract_rows_related ts us s₁)

  -- from the zero relation
  rows_from_zero : (ts us : List Edge) → P Summed (subtract_rows 𝓞 ts us (record { sum = 𝓞.zero; result = [] })) (subtract_rows 𝓞' ts us (record { sum = 𝓞'.zero; result = [] }))
  rows_from_zero ts us =
      subst (λ (z : ℕ). P Summed (subtract_rows 𝓞 ts us (record { sum = 𝓞.zero; result = [] })) (subtract_rows 𝓞' ts us (record { sum = z; result = [] }))) h.zero
      (subtract_rows_related ts us (record { sum = 𝓞.zero; result = [] }))

  pub st_difference_related : (ts us : List Edge) → P (List Edge) (st_difference 𝓞 ts us) (st_difference 𝓞' ts us)
  unfolding st_difference
  st_difference_related ts us =
      h.bind (rows_from_zero ts us) (λ s. insert_each_related {make = rest_of 𝓞 s.sum} {make' = rest_of 𝓞' s.sum} (λ t. h.bind (h.difference t.label s.sum) (λ d. h.returns (edge t.target d))) ts s.result)

  pub st_xor_related : (ts us : List Edge) → P (List Edge) (st_xor 𝓞 ts us) (st_xor 𝓞' ts us)
  unfolding st_xor
  st_xor_related ts us = h.bind (st_difference_related ts us) (λ left. h.bind (st_difference_related us ts) (λ right. st_union_related left right))

  cover_all_related : (ts : List Edge) (sum : ℕ) → P ℕ (cover_all 𝓞 ts sum) (cover_all 𝓞' ts sum)
  unfolding cover_all
  cover_all_related [] sum = h.returns sum
  cover_all_related (t ∷ ts) sum = h.bind (h.union sum t.label) (λ sum₁. cover_all_related ts sum₁)

  pub st_complement_related : (ts : List Edge) → P (List Edge) (st_complement 𝓞 ts) (st_complement 𝓞' ts)
  unfolding st_complement
  st_complement_related ts =
      h.bind (insert_each_related {make = complement_of 𝓞} {make' = complement_of 𝓞'} (λ t. h.bind (h.mk_complement t.target) (λ x. h.returns (edge x t.label))) ts []) (λ complements.
      h.bind (subst (λ (z : ℕ). P ℕ (cover_all 𝓞 ts 𝓞.zero) (cover_all 𝓞' ts z)) h.zero (cover_all_related ts 𝓞.zero)) (λ covered.
      h.bind (h.complement covered) (λ rest. h.bind h.mk_top (λ top. insert_related top rest complements))))

  pub st_postcompose_related : (ts : List Edge) (e : ℕ) → P (List Edge) (st_postcompose 𝓞 ts e) (st_postcompose 𝓞' ts e)
  unfolding st_postcompose
  st_postcompose_related ts e = insert_each_related {make = followed_by 𝓞 e} {make' = followed_by 𝓞' e} (λ t. h.bind (h.mk_sequence t.target e) (λ x. h.returns (edge x t.label))) ts []

  pub st_precompose_related : (l : ℕ) (ts : List Edge) → P (List Edge) (st_precompose 𝓞 l ts) (st_precompose 𝓞' l ts)
  unfolding st_precompose
  st_precompose_related l ts = insert_each_related {make = St.after 𝓞 l} {make' = St.after 𝓞' l} (λ t. h.bind (h.sequence l t.label) (λ m. h.returns (edge t.target m))) ts []

  pub st_intersect_expr_related : (ts : List Edge) (e : ℕ) → P (List Edge) (st_intersect_expr 𝓞 ts e) (st_intersect_expr 𝓞' ts e)
  unfolding st_intersect_expr
  st_intersect_expr_related ts e = insert_each_related {make = met_with 𝓞 e} {make' = met_with 𝓞' e} (λ t. h.bind (h.mk_intersect t.target e) (λ x. h.returns (edge x t.label))) ts []
