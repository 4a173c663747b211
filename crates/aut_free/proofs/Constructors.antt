-- The smart constructors (aut_steps' Constructors) on tables that are twins, and the constructor of a book's line.
use Rattle.std.specs.Prelude.{if◌then◌else◌}
use mathlib.Core.Path.{◌≡◌, refl, subst}
use mathlib.Core.Bool.{true, false, ◌&&◌}
use mathlib.Core.List.{List, [], ◌∷◌, ◌++◌}
use Prim.Native.Nat.{ℕ, zero, suc, ◌+◌, ◌*◌, ◌/◌, ◌%◌}
use lib.Dec.{eqb, ltb, leb}
use lib.ListN.{length, get_or}
use Rattle.common.specs.Outcome.{Outcome, refused, given, Step, return, ◌>>=◌}
use Rattle.common.specs.Runs.{Table, placed}
use Rattle.aut_steps.specs.Relations as Rel
use Rattle.aut_steps.specs.Tables.{SPP, UNION, INTERSECT, XOR, DIFFERENCE, COMPLEMENT, SEQUENCE, STAR, DUP, NEXT, UNTIL, TOP, words, Limits, Exprs, exprs, Aut, put_nodes, put_states, put_exprs, on_nodes, on_states, on_exprs, on_states_of}
use Rattle.aut_steps.specs.Lists.{sorted}
use Rattle.aut_steps.specs.Constructors.{Within, within, beyond, then_within, opened, extend, open_all, Opened, list, top, long, then_open, open_union, each, count_one, count_all, product, mk_spp, mk_dup, mk_top, mk_next, mk_until, spp_of, relations, is_relation, Parts, parts, Met, met, add_last, unite_one, add_relation, meet_one, finish, unite, unite_opened, mk_union_n, mk_union, meet_finish, meet, meet_opened, mk_intersect_n_base, base, bases, distribute, intersect_opened, mk_intersect_n, mk_intersect, mk_xor, mk_difference, mk_complement, sequence_with, sequence_by, mk_sequence, mk_star}
use Rattle.book_construct_steps.specs.Lines as Lines
use Rattle.book_construct_steps.specs.Lines.{Constant, Single, Pair, Listed, Line, constant, bit, single, pair, listed, constant_of, bit_of, single_of, pair_of, listed_of, make}
use Rattle.aut_free.proofs.Alike.{AlikeRuns, stops, comes, Respects}
use Rattle.aut_free.proofs.Twin.{TwinWords, TwinStates, TwinExprs, TwinAut}
use Rattle.aut_free.proofs.Runs.{alike_bind, alike_placed, alike_given, alike_when, alike_if, along, reading, returns, test, bind}
use Rattle.aut_free.proofs.Words.{kinds, firsts, seconds, nests}
use Rattle.aut_free.proofs.Interning.{intern0_free, intern1_free, intern2_free, intern_l_free}

-- ---- a step on some of the tables

module _ {f g : List ℕ} where
  -- on nodes, which are the same
  nodes_alike : {A : Type 0} {c d : Step Table A} {σ τ : Aut} → c ≡ d → TwinAut f g σ τ → AlikeRuns (TwinAut f g) (on_nodes c σ) (on_nodes d τ)
  nodes_alike {A} {c} {σ = σ} {τ = τ} e r = subst (λ (p : Outcome Table A). AlikeRuns (TwinAut f g) (on_nodes c σ) (placed put_nodes τ p)) (λ i. e i (r.nodes i)) (go (c σ.nodes))
    where
      go : (o : Outcome Table A) → AlikeRuns (TwinAut f g) (placed put_nodes σ o) (placed put_nodes τ o)
      go (refused number) = stops
      go (given t a) = comes (record { nodes = refl; states = r.states; members = r.members })

  pub on_nodes_lem : {A : Type 0} (c : Step Table A) → Respects (TwinAut f g) (on_nodes c)
  on_nodes_lem c σ τ r = nodes_alike {c = c} refl r

  pub on_states_lem : {A : Type 0} {c : Step Table A} → Respects (TwinStates f g) c → Respects (TwinAut f g) (on_states c)
  on_states_lem h σ τ r = alike_placed put_states σ τ (h σ.states τ.states r.states) (λ s t p. record { nodes = r.nodes; states = p; members = r.members })

  on_exprs_lem : {A : Type 0} {c : Step Exprs A} → Respects (TwinExprs f g) c → Respects (TwinAut f g) (on_exprs c)
  on_exprs_lem h σ τ r =
      alike_placed put_exprs σ τ (h (exprs σ.states σ.members) (exprs τ.states τ.members) (record { states = r.states; members = r.members }))
      (λ s t p. record { nodes = r.nodes; states = p.states; members = p.members })

  on_states_of_lem : {A : Type 0} {c : Step Table A} → Respects (TwinStates f g) c → Respects (TwinExprs f g) (on_states_of c)
  on_states_of_lem h σ τ r = alike_placed (λ s τ. exprs s τ.members) σ τ (h σ.states τ.states r.states) (λ s t p. record { states = p; members = r.members })

  -- ---- opening a list, counting its products

  opened_same : {s t : List ℕ} (r : TwinWords f g s t) (k : ℕ) (m : List ℕ) (x : ℕ) → opened k s m x ≡ opened k t m x
  unfolding opened
  opened_same r k m x = λ d. if eqb (kinds r d x) k then words m (firsts r d x) (seconds r d x) else x ∷ []

  open_all_same : {s t : List ℕ} (r : TwinWords f g s t) (most : ℕ) (m xs acc : List ℕ) → open_all most s m xs acc ≡ open_all most t m xs acc
  unfolding open_all
  open_all_same r most m [] acc = refl
  open_all_same r most m (x ∷ xs) acc = λ d. then_within (extend most acc (opened_same r INTERSECT m x d)) (λ l. open_all_same r most m xs l d)

  open_union_same : {s t : List ℕ} (r : TwinWords f g s t) (most : ℕ) (m xs acc : List ℕ) → open_union most s m xs acc ≡ open_union most t m xs acc
  unfolding open_union
  open_union_same r most m [] acc = refl
  open_union_same r most m (x ∷ xs) acc = λ d. if eqb (kinds r d x) TOP then top else then_open (extend most acc (opened_same r UNION m x d)) (λ l. open_union_same r most m xs l d)

  count_all_same : {s t : List ℕ} (r : TwinWords f g s t) (most : ℕ) (xs : List ℕ) (n : ℕ) → count_all most s xs n ≡ count_all most t xs n
  unfolding count_all count_one
  count_all_same r most [] n = refl
  count_all_same r most (x ∷ xs) n = λ d.
      then_within (if eqb (kinds r d x) UNION then (if leb (n * seconds r d x) most then within (n * seconds r d x) else beyond) else within n) (λ k. count_all_same r most xs k d)

  product_same : {s t : List ℕ} (r : TwinWords f g s t) (m xs : List ℕ) (i : ℕ) → product s m xs i ≡ product t m xs i
  unfolding product
  product_same r m [] i = refl
  product_same r m (x ∷ xs) i = λ d.
      if eqb (kinds r d x) UNION
      then get_or m (firsts r d x + i % seconds r d x) 0 ∷ product_same r m xs (i / seconds r d x) d
      else x ∷ product_same r m xs i d

  -- ---- states that need no look at their operands

  pub mk_spp_free : (h : ℕ) → Respects (TwinStates f g) (mk_spp h)
  unfolding mk_spp
  mk_spp_free h = intern0_free SPP h

  pub mk_dup_free : Respects (TwinStates f g) mk_dup
  unfolding mk_dup
  mk_dup_free = intern0_free DUP 0

  pub mk_top_free : Respects (TwinStates f g) mk_top
  unfolding mk_top
  mk_top_free = intern0_free TOP 0

  pub mk_next_free : (L : Limits) (x : ℕ) → Respects (TwinStates f g) (mk_next L x)
  unfolding mk_next
  mk_next_free L x = intern1_free L NEXT x

  pub mk_until_free : (L : Limits) (x y : ℕ) → Respects (TwinStates f g) (mk_until L x y)
  unfolding mk_until
  mk_until_free L x y = intern2_free L UNTIL x y

  pub spp_of_free : (c : Step Table ℕ) → Respects (TwinAut f g) (spp_of c)
  spp_of_free c = bind (on_nodes_lem c) (λ h. on_states_lem (mk_spp_free h))

  add_last_free : (p : Met) (xs : List ℕ) → Respects (TwinStates f g) (add_last p xs)
  unfolding add_last
  add_last_free p xs = test p.some (bind (mk_spp_free p.relation) (λ i. returns (xs ++ i ∷ []))) (returns xs)

  relations_same : {s t : List ℕ} (r : TwinWords f g s t) (x y : ℕ) → relations s x y ≡ relations t x y
  relations_same r x y = λ d. eqb (kinds r d x) SPP && eqb (kinds r d y) SPP

  is_relation_same : {s t : List ℕ} (r : TwinWords f g s t) (x h : ℕ) → is_relation s x h ≡ is_relation t x h
  is_relation_same r x h = λ d. eqb (kinds r d x) SPP && eqb (firsts r d x) h

  -- ---- the constructors

  module _ (N : ℕ) where
    unite_one_same : {s t : List ℕ} → TwinWords f g s t → unite_one N s ≡ unite_one N t
    unfolding unite_one
    unite_one_same r = λ d x p.
        if eqb (kinds r d x) SPP
        then Rel.union N p.relation (firsts r d x) >>= (λ h. return (parts h p.others))
        else return (parts p.relation (p.others ++ x ∷ []))

    meet_one_same : {s t : List ℕ} → TwinWords f g s t → meet_one N s ≡ meet_one N t
    unfolding meet_one
    meet_one_same r = λ d x p.
        if eqb (kinds r d x) TOP then return p
        else if eqb (kinds r d x) SPP then (Rel.intersect N p.relation (firsts r d x) >>= (λ h. return (met true h p.others)))
        else return (met p.some p.relation (p.others ++ x ∷ []))

    add_relation_free : (p : Parts) → Respects (TwinStates f g) (add_relation N p)
    unfolding add_relation
    add_relation_free p = test (eqb p.relation (Rel.zero_at N)) (returns p.others) (bind (mk_spp_free p.relation) (λ i. returns (p.others ++ i ∷ [])))

    zero_free : Respects (TwinAut f g) (on_states (mk_spp (Rel.zero_at N)))
    zero_free = on_states_lem (mk_spp_free (Rel.zero_at N))

    module _ (L : Limits) where
      finish_free : (xs : List ℕ) → Respects (TwinExprs f g) (finish N L xs)
      unfolding finish
      finish_free xs = test (eqb (length xs) 1) (returns (get_or xs 0 0)) (test (eqb (length xs) 0) (on_states_of_lem (mk_spp_free (Rel.zero_at N))) (intern_l_free L UNION xs))

      unite_free : (xs : List ℕ) → Respects (TwinAut f g) (unite N L xs)
      unfolding unite
      unite_free xs σ τ r =
          alike_bind (nodes_alike (λ d. each (unite_one_same r.states.words d) xs (parts (Rel.zero_at N) [])) r)
          (λ σ₁ τ₁ p r₁. bind (on_states_lem (add_relation_free p)) (λ ys. on_exprs_lem (finish_free (sorted ys))) σ₁ τ₁ r₁)

      unite_opened_free : (o : Opened) → Respects (TwinAut f g) (unite_opened N L o)
      unite_opened_free top = on_states_lem mk_top_free
      unite_opened_free long = λ σ τ r. stops
      unite_opened_free (list xs) = unite_free xs

      pub mk_union_n_free : (xs : List ℕ) → Respects (TwinAut f g) (mk_union_n N L xs)
      unfolding mk_union_n
      mk_union_n_free xs σ τ r =
          alike_when (ltb L.list (length xs)) stops (alike_when (eqb (length xs) 1) (comes r)
          (reading unite_opened_free (λ d. open_union_same r.states.words L.list (r.members d).words xs [] d) σ τ r))

      pub mk_union_free : (x y : ℕ) → Respects (TwinAut f g) (mk_union N L x y)
      unfolding mk_union
      mk_union_free x y σ τ r =
          let w = r.states.words in
          alike_when (eqb x y) (comes r) (alike_if (relations_same w x y) (reading spp_of_free (λ d. Rel.union N (firsts w d x) (firsts w d y)) σ τ r) (mk_union_n_free (x ∷ y ∷ []) σ τ r))

      -- ---- intersections

      meet_finish_free : (p : Met) (xs : List ℕ) → Respects (TwinAut f g) (meet_finish N L p xs)
      unfolding meet_finish
      meet_finish_free p xs =
          test (p.some && eqb p.relation (Rel.zero_at N)) zero_free
          (test (eqb (length xs) 0) (on_states_lem (test p.some (mk_spp_free p.relation) mk_top_free)) (bind (on_states_lem (add_last_free p xs)) (λ ys. on_exprs_lem (intern_l_free L INTERSECT ys))))

      meet_free : (xs : List ℕ) → Respects (TwinAut f g) (meet N L xs)
      unfolding meet
      meet_free xs σ τ r =
          alike_bind (nodes_alike (λ d. each (meet_one_same r.states.words d) xs (met false (Rel.top_at N) [])) r)
          (λ σ₁ τ₁ p r₁. meet_finish_free p (sorted p.others) σ₁ τ₁ r₁)

      meet_opened_free : (o : Within (List ℕ)) → Respects (TwinAut f g) (meet_opened N L o)
      meet_opened_free beyond = λ σ τ r. stops
      meet_opened_free (within xs) = meet_free xs

      pub mk_intersect_n_base_free : (xs : List ℕ) → Respects (TwinAut f g) (mk_intersect_n_base N L xs)
      unfolding mk_intersect_n_base
      mk_intersect_n_base_free xs σ τ r = reading meet_opened_free (λ d. open_all_same r.states.words L.list (r.members d).words xs [] d) σ τ r

      base_free : (xs : List ℕ) (i : ℕ) → Respects (TwinAut f g) (base N L xs i)
      unfolding base
      base_free xs i σ τ r = reading mk_intersect_n_base_free (λ d. product_same r.states.words (r.members d).words xs i d) σ τ r

      bases_free : (xs : List ℕ) (i k : ℕ) (acc : List ℕ) → Respects (TwinAut f g) (bases N L xs i k acc)
      unfolding bases
      bases_free xs i zero acc = returns acc
      bases_free xs i (suc k) acc = bind (base_free xs i) (λ z. bases_free xs (i + 1) k (acc ++ z ∷ []))

      distribute_free : (xs : List ℕ) (n : Within ℕ) → Respects (TwinAut f g) (distribute N L xs n)
      distribute_free xs beyond = λ σ τ r. stops
      distribute_free xs (within n) = bind (bases_free xs 0 n []) mk_union_n_free

      intersect_opened_free : (o : Within (List ℕ)) → Respects (TwinAut f g) (intersect_opened N L o)
      intersect_opened_free beyond = λ σ τ r. stops
      intersect_opened_free (within xs) = λ σ τ r. reading (distribute_free xs) (count_all_same r.states.words L.products xs 1) σ τ r

      pub mk_intersect_n_free : (xs : List ℕ) → Respects (TwinAut f g) (mk_intersect_n N L xs)
      unfolding mk_intersect_n
      mk_intersect_n_free xs σ τ r =
          alike_when (ltb L.list (length xs)) stops (alike_when (eqb (length xs) 1) (comes r)
          (reading intersect_opened_free (λ d. open_all_same r.states.words L.list (r.members d).words xs [] d) σ τ r))

      pub mk_intersect_free : (x y : ℕ) → Respects (TwinAut f g) (mk_intersect N L x y)
      unfolding mk_intersect
      mk_intersect_free x y σ τ r =
          let w = r.states.words in
          alike_when (eqb x y) (comes r)
          (alike_if (relations_same w x y) (reading spp_of_free (λ d. Rel.intersect N (firsts w d x) (firsts w d y)) σ τ r) (mk_intersect_n_free (x ∷ y ∷ []) σ τ r))

      -- ---- the others

      pub mk_xor_free : (x y : ℕ) → Respects (TwinAut f g) (mk_xor N L x y)
      unfolding mk_xor
      mk_xor_free x y σ τ r =
          let w = r.states.words in
          alike_when (eqb x y) (zero_free σ τ r) (alike_if (relations_same w x y) (reading spp_of_free (λ d. Rel.xor N (firsts w d x) (firsts w d y)) σ τ r)
          (alike_when (ltb x y) (on_states_lem (intern2_free L XOR x y) σ τ r) (on_states_lem (intern2_free L XOR y x) σ τ r)))

      pub mk_difference_free : (x y : ℕ) → Respects (TwinAut f g) (mk_difference N L x y)
      unfolding mk_difference
      mk_difference_free x y σ τ r =
          let w = r.states.words in
          alike_when (eqb x y) (zero_free σ τ r)
          (alike_if (relations_same w x y) (reading spp_of_free (λ d. Rel.difference N (firsts w d x) (firsts w d y)) σ τ r) (on_states_lem (intern2_free L DIFFERENCE x y) σ τ r))

      pub mk_complement_free : (x : ℕ) → Respects (TwinStates f g) (mk_complement N L x)
      unfolding mk_complement
      mk_complement_free x s t r =
          alike_if (λ d. eqb (kinds r.words d x) COMPLEMENT) (alike_given r (λ d. firsts r.words d x))
          (alike_if (λ d. eqb (kinds r.words d x) TOP) (mk_spp_free (Rel.zero_at N) s t r) (intern1_free L COMPLEMENT x s t r))

      sequence_with_free : {again : ℕ → ℕ → Step Aut ℕ} → ((x y : ℕ) → Respects (TwinAut f g) (again x y)) → (x y : ℕ) → Respects (TwinAut f g) (sequence_with N L again x y)
      unfolding sequence_with
      sequence_with_free {again} h x y σ τ r =
          let w = r.states.words in
          alike_if (relations_same w x y) (reading spp_of_free (λ d. Rel.sequence N (firsts w d x) (firsts w d y)) σ τ r)
          (alike_if (is_relation_same w x (Rel.one_at N)) (comes r)
          (alike_if (is_relation_same w x (Rel.zero_at N)) (zero_free σ τ r)
          (alike_if (is_relation_same w y (Rel.one_at N)) (comes r)
          (alike_if (is_relation_same w y (Rel.zero_at N)) (zero_free σ τ r)
          (alike_if (λ d. eqb (kinds w d x) SEQUENCE) (along (λ d. again (seconds w d x) y >>= again (firsts w d x)) (bind (h _ y) (h _)) σ τ r)
          (alike_if (λ d. eqb (kinds w d x) TOP && eqb (kinds w d y) TOP) (on_states_lem mk_top_free σ τ r) (on_states_lem (intern2_free L SEQUENCE x y) σ τ r)))))))

      sequence_by_free : (depth x y : ℕ) → Respects (TwinAut f g) (sequence_by N L depth x y)
      unfolding sequence_by
      sequence_by_free zero x y = sequence_with_free (λ a b. returns a) x y
      sequence_by_free (suc depth) x y = sequence_with_free (sequence_by_free depth) x y

      pub mk_sequence_free : (x y : ℕ) → Respects (TwinAut f g) (mk_sequence N L x y)
      unfolding mk_sequence
      mk_sequence_free x y σ τ r = reading (λ depth. sequence_by_free depth x y) (λ d. nests r.states.words d x) σ τ r

      pub mk_star_free : (x : ℕ) → Respects (TwinAut f g) (mk_star N L x)
      unfolding mk_star
      mk_star_free x σ τ r =
          let w = r.states.words in
          alike_if (λ d. eqb (kinds w d x) STAR) (comes r) (alike_if (λ d. eqb (kinds w d x) SPP) (reading spp_of_free (λ d. Rel.star N (firsts w d x)) σ τ r)
          (alike_if (λ d. eqb (kinds w d x) TOP) (on_states_lem mk_top_free σ τ r) (on_states_lem (intern1_free L STAR x) σ τ r)))

      -- ---- a book's line

      constant_free : (w : Constant) → Respects (TwinStates f g) (constant_of N w)
      constant_free Lines.zero = mk_spp_free _
      constant_free Lines.one = mk_spp_free _
      constant_free Lines.all = mk_spp_free _
      constant_free Lines.dup = mk_dup_free
      constant_free Lines.top = mk_top_free

      single_free : (w : Single) (x : ℕ) → Respects (TwinAut f g) (single_of N L w x)
      single_free Lines.not x = on_states_lem (mk_complement_free x)
      single_free Lines.star x = mk_star_free x
      single_free Lines.next x = on_states_lem (mk_next_free L x)

      pair_free : (w : Pair) (x y : ℕ) → Respects (TwinAut f g) (pair_of N L w x y)
      pair_free Lines.or x y = mk_union_free x y
      pair_free Lines.and x y = mk_intersect_free x y
      pair_free Lines.xor x y = mk_xor_free x y
      pair_free Lines.minus x y = mk_difference_free x y
      pair_free Lines.seq x y = mk_sequence_free x y
      pair_free Lines.until x y = on_states_lem (mk_until_free L x y)

      listed_free : (w : Listed) (xs : List ℕ) → Respects (TwinAut f g) (listed_of N L w xs)
      listed_free Lines.union xs = mk_union_n_free xs
      listed_free Lines.inter xs = mk_intersect_n_free xs

      pub make_free : (l : Line ℕ) → Respects (TwinAut f g) (make N L l)
      make_free (constant w) = on_states_lem (constant_free w)
      make_free (bit w k v) = spp_of_free (bit_of N w k v)
      make_free (single w x) = single_free w x
      make_free (pair w x y) = pair_free w x y
      make_free (listed w xs) = listed_free w xs
