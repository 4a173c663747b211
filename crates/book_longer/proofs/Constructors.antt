-- The smart constructors (aut_steps' Constructors) on longer tables, and the constructor of a book's line. No table has to be in order.
use Rattle.std.specs.Prelude.{if◌then◌else◌}
use mathlib.Core.Path.{◌≡◌, refl}
use mathlib.Core.Bool.{Bool, true, false, ◌&&◌}
use mathlib.Core.List.{List, [], ◌∷◌, ◌++◌}
use Prim.Native.Nat.{ℕ, zero, suc, ◌+◌, ◌*◌, ◌/◌, ◌%◌}
use lib.Dec.{eqb, ltb, leb}
use lib.ListN.{length, get_or}
use Rattle.common.specs.Outcome.{Step, return, ◌>>=◌}
use Rattle.common.specs.Runs.{Table}
use Rattle.spp_steps.specs.Model as Spp
use Rattle.aut_steps.specs.Relations as Rel
use Rattle.aut_steps.specs.Tables.{SPP, UNION, INTERSECT, XOR, DIFFERENCE, COMPLEMENT, SEQUENCE, STAR, DUP, NEXT, UNTIL, TOP, kind_of, op1, words, Limits, Exprs, exprs, Aut, put_nodes, put_states, put_exprs, on_nodes, on_states, on_exprs, on_states_of}
use Rattle.aut_steps.specs.Lists.{sorted}
use Rattle.aut_steps.specs.Constructors.{Within, within, beyond, then_within, opened, extend, open_all, Opened, list, top, long, then_open, open_union, each, count_one, count_all, product, mk_spp, mk_dup, mk_top, mk_next, mk_until, spp_of, relations, is_relation, Parts, parts, Met, met, add_last, unite_one, add_relation, meet_one, finish, unite, unite_opened, mk_union_n, mk_union, meet_finish, meet, meet_opened, mk_intersect_n_base, base, bases, distribute, intersect_opened, mk_intersect_n, mk_intersect, mk_xor, mk_difference, mk_complement, sequence_with, sequence_by, mk_sequence, mk_star}
use Rattle.book_construct_steps.specs.Lines as Lines
use Rattle.book_construct_steps.specs.Lines.{Constant, Bit, Single, Pair, Listed, Line, constant, bit, single, pair, listed, constant_of, bit_of, single_of, pair_of, listed_of, make}
use Rattle.book_longer.specs.Longer.{LongerWords, Longer, Follows, same_refusal, goes, Respects, ConstructorsLonger, MakeLonger}
use Rattle.book_longer.proofs.Follow.{follows_bind, follows_placed, follows_value, follows_when, follows_if, along, reading, returns, test, bind}
use Rattle.book_longer.proofs.Words.{at, kinds, firsts, seconds, nests, words_same}
use Rattle.book_longer.proofs.Relations.{apply_longer, sequence_longer, star_longer, test_longer, assign_longer}
use Rattle.book_longer.proofs.Anchored.{Anchor, States, InExprs, InAut, states_plain, exprs_plain, aut_plain}
use Rattle.book_longer.proofs.Interning.{intern0_longer, intern1_longer, intern2_longer, intern_l_longer}

-- ---- opening a list, counting its products

module _ {s t : List ℕ} (r : LongerWords s t) where
  relations_same : (x y : ℕ) → relations s x y ≡ relations t x y
  relations_same x y = λ d. eqb (kinds r d x) SPP && eqb (kinds r d y) SPP

  is_relation_same : (x h : ℕ) → is_relation s x h ≡ is_relation t x h
  is_relation_same x h = λ d. eqb (kinds r d x) SPP && eqb (firsts r d x) h

  count_all_same : (most : ℕ) (xs : List ℕ) (n : ℕ) → count_all most s xs n ≡ count_all most t xs n
  unfolding count_all count_one
  count_all_same most [] n = refl
  count_all_same most (x ∷ xs) n = λ d.
      then_within (if eqb (kinds r d x) UNION then (if leb (n * seconds r d x) most then within (n * seconds r d x) else beyond) else within n) (λ k. count_all_same most xs k d)

  module _ {m u : List ℕ} (q : LongerWords m u) where
    opened_same : (k x : ℕ) → opened k s m x ≡ opened k t u x
    unfolding opened
    opened_same k x = λ d. if eqb (kinds r d x) k then words_same q (firsts r d x) (seconds r d x) d else x ∷ []

    open_all_same : (most : ℕ) (xs acc : List ℕ) → open_all most s m xs acc ≡ open_all most t u xs acc
    unfolding open_all
    open_all_same most [] acc = refl
    open_all_same most (x ∷ xs) acc = λ d. then_within (extend most acc (opened_same INTERSECT x d)) (λ l. open_all_same most xs l d)

    open_union_same : (most : ℕ) (xs acc : List ℕ) → open_union most s m xs acc ≡ open_union most t u xs acc
    unfolding open_union
    open_union_same most [] acc = refl
    open_union_same most (x ∷ xs) acc = λ d. if eqb (kinds r d x) TOP then top else then_open (extend most acc (opened_same UNION x d)) (λ l. open_union_same most xs l d)

    product_same : (xs : List ℕ) (i : ℕ) → product s m xs i ≡ product t u xs i
    unfolding product
    product_same [] i = refl
    product_same (x ∷ xs) i = λ d.
        if eqb (kinds r d x) UNION
        then at q (firsts r d x + i % seconds r d x) d ∷ product_same xs (i / seconds r d x) d
        else x ∷ product_same xs i d

-- a step for each element of a list
each_longer : {S A : Type 0} {R : S → S → Type 0} {one : ℕ → A → Step S A} → ((x : ℕ) (a : A) → Respects R (one x a)) → (xs : List ℕ) (a : A) → Respects R (each one xs a)
unfolding each
each_longer h [] a = returns a
each_longer h (x ∷ xs) a = bind (h x a) (each_longer h xs)

-- ---- the steps on relation nodes alone

module _ (N : ℕ) where
  unite_one_same : {s t : List ℕ} → LongerWords s t → unite_one N s ≡ unite_one N t
  unfolding unite_one
  unite_one_same r = λ d x p.
      if eqb (kinds r d x) SPP
      then Rel.union N p.relation (firsts r d x) >>= (λ h. return (parts h p.others))
      else return (parts p.relation (p.others ++ x ∷ []))

  meet_one_same : {s t : List ℕ} → LongerWords s t → meet_one N s ≡ meet_one N t
  unfolding meet_one
  meet_one_same r = λ d x p.
      if eqb (kinds r d x) TOP then return p
      else if eqb (kinds r d x) SPP then (Rel.intersect N p.relation (firsts r d x) >>= (λ h. return (met true h p.others)))
      else return (met p.some p.relation (p.others ++ x ∷ []))

  unite_one_longer : (st : List ℕ) (x : ℕ) (p : Parts) → Respects Longer (unite_one N st x p)
  unfolding unite_one
  unite_one_longer st x p = test (eqb (kind_of st x) SPP) (bind (apply_longer N N Spp.union p.relation (op1 st x)) (λ h. returns (parts h p.others))) (returns (parts p.relation (p.others ++ x ∷ [])))

  meet_one_longer : (st : List ℕ) (x : ℕ) (p : Met) → Respects Longer (meet_one N st x p)
  unfolding meet_one
  meet_one_longer st x p =
      test (eqb (kind_of st x) TOP) (returns p)
      (test (eqb (kind_of st x) SPP) (bind (apply_longer N N Spp.intersect p.relation (op1 st x)) (λ h. returns (met true h p.others))) (returns (met p.some p.relation (p.others ++ x ∷ []))))

  bit_longer : (w : Bit) (k : ℕ) (v : Bool) → Respects Longer (bit_of N w k v)
  bit_longer Lines.test k v = test_longer N N k v
  bit_longer Lines.set k v = assign_longer N N k v

-- ---- a step on some of the tables

module _ {a : Anchor} where
  nodes_follow : {A : Type 0} {c d : Step Table A} {σ τ : Aut} → c ≡ d → Respects Longer c → InAut a σ τ → Follows (InAut a) (on_nodes c σ) (on_nodes d τ)
  nodes_follow {σ = σ} {τ = τ} e h r = follows_placed put_nodes σ τ (along e h σ.nodes τ.nodes r.nodes) (λ s t p. record { nodes = p; states = r.states; members = r.members })

  pub on_nodes_lem : {A : Type 0} {c : Step Table A} → Respects Longer c → Respects (InAut a) (on_nodes c)
  on_nodes_lem h σ τ r = nodes_follow refl h r

  pub on_states_lem : {A : Type 0} {c : Step Table A} → Respects (States a) c → Respects (InAut a) (on_states c)
  on_states_lem h σ τ r = follows_placed put_states σ τ (h σ.states τ.states r.states) (λ s t p. record { nodes = r.nodes; states = p; members = r.members })

  on_exprs_lem : {A : Type 0} {c : Step Exprs A} → Respects (InExprs a) c → Respects (InAut a) (on_exprs c)
  on_exprs_lem h σ τ r =
      follows_placed put_exprs σ τ (h (exprs σ.states σ.members) (exprs τ.states τ.members) (record { states = r.states; members = r.members }))
      (λ s t p. record { nodes = r.nodes; states = p.states; members = p.members })

  on_states_of_lem : {A : Type 0} {c : Step Table A} → Respects (States a) c → Respects (InExprs a) (on_states_of c)
  on_states_of_lem h σ τ r = follows_placed (λ s τ. exprs s τ.members) σ τ (h σ.states τ.states r.states) (λ s t p. record { states = p; members = r.members })

  -- ---- states that need no look at their operands

  pub mk_spp_longer : (h : ℕ) → Respects (States a) (mk_spp h)
  unfolding mk_spp
  mk_spp_longer h = intern0_longer SPP h

  pub mk_dup_longer : Respects (States a) mk_dup
  unfolding mk_dup
  mk_dup_longer = intern0_longer DUP 0

  pub mk_top_longer : Respects (States a) mk_top
  unfolding mk_top
  mk_top_longer = intern0_longer TOP 0

  pub mk_next_longer : (L : Limits) (x : ℕ) → Respects (States a) (mk_next L x)
  unfolding mk_next
  mk_next_longer L x = intern1_longer L NEXT x

  pub mk_until_longer : (L : Limits) (x y : ℕ) → Respects (States a) (mk_until L x y)
  unfolding mk_until
  mk_until_longer L x y = intern2_longer L UNTIL x y

  pub spp_of_longer : {c : Step Table ℕ} → Respects Longer c → Respects (InAut a) (spp_of c)
  spp_of_longer h = bind (on_nodes_lem h) (λ h. on_states_lem (mk_spp_longer h))

  -- of one relation, of two
  spp_one : {c : ℕ → Step Table ℕ} {x y : ℕ} {σ τ : Aut} → ((x : ℕ) → Respects Longer (c x)) → x ≡ y → InAut a σ τ → Follows (InAut a) (spp_of (c x) σ) (spp_of (c y) τ)
  spp_one {c} {σ = σ} {τ = τ} h e r = along (λ d. spp_of (c (e d))) (spp_of_longer (h _)) σ τ r

  spp_two : {c : ℕ → ℕ → Step Table ℕ} {x y x' y' : ℕ} {σ τ : Aut} → ((x y : ℕ) → Respects Longer (c x y)) → x ≡ x' → y ≡ y' → InAut a σ τ → Follows (InAut a) (spp_of (c x y) σ) (spp_of (c x' y') τ)
  spp_two {c} {σ = σ} {τ = τ} h e g r = along (λ d. spp_of (c (e d) (g d))) (spp_of_longer (h _ _)) σ τ r

  add_last_longer : (p : Met) (xs : List ℕ) → Respects (States a) (add_last p xs)
  unfolding add_last
  add_last_longer p xs = test p.some (bind (mk_spp_longer p.relation) (λ i. returns (xs ++ i ∷ []))) (returns xs)

  -- ---- the constructors

  module _ (N : ℕ) where
    add_relation_longer : (p : Parts) → Respects (States a) (add_relation N p)
    unfolding add_relation
    add_relation_longer p = test (eqb p.relation (Rel.zero_at N)) (returns p.others) (bind (mk_spp_longer p.relation) (λ i. returns (p.others ++ i ∷ [])))

    zero_longer : Respects (InAut a) (on_states (mk_spp (Rel.zero_at N)))
    zero_longer = on_states_lem (mk_spp_longer (Rel.zero_at N))

    module _ (L : Limits) where
      finish_longer : (xs : List ℕ) → Respects (InExprs a) (finish N L xs)
      unfolding finish
      finish_longer xs = test (eqb (length xs) 1) (returns (get_or xs 0 0)) (test (eqb (length xs) 0) (on_states_of_lem (mk_spp_longer (Rel.zero_at N))) (intern_l_longer L UNION xs))

      unite_longer : (xs : List ℕ) → Respects (InAut a) (unite N L xs)
      unfolding unite
      unite_longer xs σ τ r =
          follows_bind (nodes_follow (λ d. each (unite_one_same N r.states.words d) xs (parts (Rel.zero_at N) [])) (each_longer (unite_one_longer N _) xs _) r)
          (λ σ₁ τ₁ p r₁. bind (on_states_lem (add_relation_longer p)) (λ ys. on_exprs_lem (finish_longer (sorted ys))) σ₁ τ₁ r₁)

      unite_opened_longer : (o : Opened) → Respects (InAut a) (unite_opened N L o)
      unite_opened_longer top = on_states_lem mk_top_longer
      unite_opened_longer long = λ σ τ r. same_refusal
      unite_opened_longer (list xs) = unite_longer xs

      pub mk_union_n_longer : (xs : List ℕ) → Respects (InAut a) (mk_union_n N L xs)
      unfolding mk_union_n
      mk_union_n_longer xs σ τ r =
          follows_when (ltb L.list (length xs)) same_refusal (follows_when (eqb (length xs) 1) (goes r)
          (reading unite_opened_longer (open_union_same r.states.words r.members.words L.list xs []) σ τ r))

      pub mk_union_longer : (x y : ℕ) → Respects (InAut a) (mk_union N L x y)
      unfolding mk_union
      mk_union_longer x y σ τ r =
          let w = r.states.words in
          follows_when (eqb x y) (goes r) (follows_if (relations_same w x y) (spp_two (apply_longer N N Spp.union) (λ d. firsts w d x) (λ d. firsts w d y) r) (mk_union_n_longer (x ∷ y ∷ []) σ τ r))

      -- ---- intersections

      meet_finish_longer : (p : Met) (xs : List ℕ) → Respects (InAut a) (meet_finish N L p xs)
      unfolding meet_finish
      meet_finish_longer p xs =
          test (p.some && eqb p.relation (Rel.zero_at N)) zero_longer
          (test (eqb (length xs) 0) (on_states_lem (test p.some (mk_spp_longer p.relation) mk_top_longer)) (bind (on_states_lem (add_last_longer p xs)) (λ ys. on_exprs_lem (intern_l_longer L INTERSECT ys))))

      meet_longer : (xs : List ℕ) → Respects (InAut a) (meet N L xs)
      unfolding meet
      meet_longer xs σ τ r =
          follows_bind (nodes_follow (λ d. each (meet_one_same N r.states.words d) xs (met false (Rel.top_at N) [])) (each_longer (meet_one_longer N _) xs _) r)
          (λ σ₁ τ₁ p r₁. meet_finish_longer p (sorted p.others) σ₁ τ₁ r₁)

      meet_opened_longer : (o : Within (List ℕ)) → Respects (InAut a) (meet_opened N L o)
      meet_opened_longer beyond = λ σ τ r. same_refusal
      meet_opened_longer (within xs) = meet_longer xs

      pub mk_intersect_n_base_longer : (xs : List ℕ) → Respects (InAut a) (mk_intersect_n_base N L xs)
      unfolding mk_intersect_n_base
      mk_intersect_n_base_longer xs σ τ r = reading meet_opened_longer (open_all_same r.states.words r.members.words L.list xs []) σ τ r

      base_longer : (xs : List ℕ) (i : ℕ) → Respects (InAut a) (base N L xs i)
      unfolding base
      base_longer xs i σ τ r = reading mk_intersect_n_base_longer (product_same r.states.words r.members.words xs i) σ τ r

      bases_longer : (xs : List ℕ) (i k : ℕ) (acc : List ℕ) → Respects (InAut a) (bases N L xs i k acc)
      unfolding bases
      bases_longer xs i zero acc = returns acc
      bases_longer xs i (suc k) acc = bind (base_longer xs i) (λ z. bases_longer xs (i + 1) k (acc ++ z ∷ []))

      distribute_longer : (xs : List ℕ) (n : Within ℕ) → Respects (InAut a) (distribute N L xs n)
      distribute_longer xs beyond = λ σ τ r. same_refusal
      distribute_longer xs (within n) = bind (bases_longer xs 0 n []) mk_union_n_longer

      intersect_opened_longer : (o : Within (List ℕ)) → Respects (InAut a) (intersect_opened N L o)
      intersect_opened_longer beyond = λ σ τ r. same_refusal
      intersect_opened_longer (within xs) = λ σ τ r. reading (distribute_longer xs) (count_all_same r.states.words L.products xs 1) σ τ r

      pub mk_intersect_n_longer : (xs : List ℕ) → Respects (InAut a) (mk_intersect_n N L xs)
      unfolding mk_intersect_n
      mk_intersect_n_longer xs σ τ r =
          follows_when (ltb L.list (length xs)) same_refusal (follows_when (eqb (length xs) 1) (goes r)
          (reading intersect_opened_longer (open_all_same r.states.words r.members.words L.list xs []) σ τ r))

      pub mk_intersect_longer : (x y : ℕ) → Respects (InAut a) (mk_intersect N L x y)
      unfolding mk_intersect
      mk_intersect_longer x y σ τ r =
          let w = r.states.words in
          follows_when (eqb x y) (goes r)
          (follows_if (relations_same w x y) (spp_two (apply_longer N N Spp.intersect) (λ d. firsts w d x) (λ d. firsts w d y) r) (mk_intersect_n_longer (x ∷ y ∷ []) σ τ r))

      -- ---- the others

      pub mk_xor_longer : (x y : ℕ) → Respects (InAut a) (mk_xor N L x y)
      unfolding mk_xor
      mk_xor_longer x y σ τ r =
          let w = r.states.words in
          follows_when (eqb x y) (zero_longer σ τ r) (follows_if (relations_same w x y) (spp_two (apply_longer N N Spp.xor) (λ d. firsts w d x) (λ d. firsts w d y) r)
          (follows_when (ltb x y) (on_states_lem (intern2_longer L XOR x y) σ τ r) (on_states_lem (intern2_longer L XOR y x) σ τ r)))

      pub mk_difference_longer : (x y : ℕ) → Respects (InAut a) (mk_difference N L x y)
      unfolding mk_difference
      mk_difference_longer x y σ τ r =
          let w = r.states.words in
          follows_when (eqb x y) (zero_longer σ τ r)
          (follows_if (relations_same w x y) (spp_two (apply_longer N N Spp.difference) (λ d. firsts w d x) (λ d. firsts w d y) r) (on_states_lem (intern2_longer L DIFFERENCE x y) σ τ r))

      pub mk_complement_longer : (x : ℕ) → Respects (States a) (mk_complement N L x)
      unfolding mk_complement
      mk_complement_longer x s t r =
          follows_if (λ d. eqb (kinds r.words d x) COMPLEMENT) (follows_value r (λ d. firsts r.words d x))
          (follows_if (λ d. eqb (kinds r.words d x) TOP) (mk_spp_longer (Rel.zero_at N) s t r) (intern1_longer L COMPLEMENT x s t r))

      sequence_with_longer : {again : ℕ → ℕ → Step Aut ℕ} → ((x y : ℕ) → Respects (InAut a) (again x y)) → (x y : ℕ) → Respects (InAut a) (sequence_with N L again x y)
      unfolding sequence_with
      sequence_with_longer {again} h x y σ τ r =
          let w = r.states.words in
          follows_if (relations_same w x y) (spp_two (sequence_longer N N) (λ d. firsts w d x) (λ d. firsts w d y) r)
          (follows_if (is_relation_same w x (Rel.one_at N)) (goes r)
          (follows_if (is_relation_same w x (Rel.zero_at N)) (zero_longer σ τ r)
          (follows_if (is_relation_same w y (Rel.one_at N)) (goes r)
          (follows_if (is_relation_same w y (Rel.zero_at N)) (zero_longer σ τ r)
          (follows_if (λ d. eqb (kinds w d x) SEQUENCE) (along (λ d. again (seconds w d x) y >>= again (firsts w d x)) (bind (h _ y) (h _)) σ τ r)
          (follows_if (λ d. eqb (kinds w d x) TOP && eqb (kinds w d y) TOP) (on_states_lem mk_top_longer σ τ r) (on_states_lem (intern2_longer L SEQUENCE x y) σ τ r)))))))

      sequence_by_longer : (depth x y : ℕ) → Respects (InAut a) (sequence_by N L depth x y)
      unfolding sequence_by
      sequence_by_longer zero x y = sequence_with_longer (λ a b. returns a) x y
      sequence_by_longer (suc depth) x y = sequence_with_longer (sequence_by_longer depth) x y

      pub mk_sequence_longer : (x y : ℕ) → Respects (InAut a) (mk_sequence N L x y)
      unfolding mk_sequence
      mk_sequence_longer x y σ τ r = reading (λ depth. sequence_by_longer depth x y) (λ d. nests r.states.words d x) σ τ r

      pub mk_star_longer : (x : ℕ) → Respects (InAut a) (mk_star N L x)
      unfolding mk_star
      mk_star_longer x σ τ r =
          let w = r.states.words in
          follows_if (λ d. eqb (kinds w d x) STAR) (goes r) (follows_if (λ d. eqb (kinds w d x) SPP) (spp_one (star_longer N N) (λ d. firsts w d x) r)
          (follows_if (λ d. eqb (kinds w d x) TOP) (on_states_lem mk_top_longer σ τ r) (on_states_lem (intern1_longer L STAR x) σ τ r)))

      -- ---- a book's line

      constant_longer : (w : Constant) → Respects (States a) (constant_of N w)
      constant_longer Lines.zero = mk_spp_longer _
      constant_longer Lines.one = mk_spp_longer _
      constant_longer Lines.all = mk_spp_longer _
      constant_longer Lines.dup = mk_dup_longer
      constant_longer Lines.top = mk_top_longer

      single_longer : (w : Single) (x : ℕ) → Respects (InAut a) (single_of N L w x)
      single_longer Lines.not x = on_states_lem (mk_complement_longer x)
      single_longer Lines.star x = mk_star_longer x
      single_longer Lines.next x = on_states_lem (mk_next_longer L x)

      pair_longer : (w : Pair) (x y : ℕ) → Respects (InAut a) (pair_of N L w x y)
      pair_longer Lines.or x y = mk_union_longer x y
      pair_longer Lines.and x y = mk_intersect_longer x y
      pair_longer Lines.xor x y = mk_xor_longer x y
      pair_longer Lines.minus x y = mk_difference_longer x y
      pair_longer Lines.seq x y = mk_sequence_longer x y
      pair_longer Lines.until x y = on_states_lem (mk_until_longer L x y)

      listed_longer : (w : Listed) (xs : List ℕ) → Respects (InAut a) (listed_of N L w xs)
      listed_longer Lines.union xs = mk_union_n_longer xs
      listed_longer Lines.inter xs = mk_intersect_n_longer xs

      pub make_longer : (l : Line ℕ) → Respects (InAut a) (make N L l)
      make_longer (constant w) = on_states_lem (constant_longer w)
      make_longer (bit w k v) = spp_of_longer (bit_longer N w k v)
      make_longer (single w x) = single_longer w x
      make_longer (pair w x y) = pair_longer w x y
      make_longer (listed w xs) = listed_longer w xs

-- ---- what is stated

pub make_follows : (N : ℕ) (L : Limits) → MakeLonger N L
make_follows N L l = aut_plain (make_longer N L l)

pub constructors_longer : (N : ℕ) (L : Limits) → ConstructorsLonger N L
constructors_longer N L = record {
  intern0 = λ k x. states_plain (intern0_longer k x);
  intern1 = λ k x. states_plain (intern1_longer L k x);
  intern2 = λ k x y. states_plain (intern2_longer L k x y);
  intern_l = λ k xs. exprs_plain (intern_l_longer L k xs);
  spp = λ h. states_plain (mk_spp_longer h);
  dup = states_plain mk_dup_longer;
  top = states_plain mk_top_longer;
  next = λ x. states_plain (mk_next_longer L x);
  until = λ x y. states_plain (mk_until_longer L x y);
  union_n = λ xs. aut_plain (mk_union_n_longer N L xs);
  union = λ x y. aut_plain (mk_union_longer N L x y);
  intersect_n_base = λ xs. aut_plain (mk_intersect_n_base_longer N L xs);
  intersect_n = λ xs. aut_plain (mk_intersect_n_longer N L xs);
  intersect = λ x y. aut_plain (mk_intersect_longer N L x y);
  xor = λ x y. aut_plain (mk_xor_longer N L x y);
  difference = λ x y. aut_plain (mk_difference_longer N L x y);
  complement = λ x. states_plain (mk_complement_longer N L x);
  sequence = λ x y. aut_plain (mk_sequence_longer N L x y);
  star = λ x. aut_plain (mk_star_longer N L x);
}
