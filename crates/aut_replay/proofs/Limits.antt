-- The law of specs/Limits: each step followed under two limits.
use Rattle.std.specs.Prelude.{if◌then◌else◌}
use mathlib.Core.Path.{◌≡◌, refl, sym, subst}
use mathlib.Core.Bool.{Bool, true, false, ◌&&◌}
use mathlib.Core.List.{List, [], ◌∷◌, ◌++◌}
use Prim.Native.Nat.{ℕ, zero, suc, ◌+◌, ◌*◌, ◌≤◌, max}
use native.Mathlib.Omega.{arith}
use lib.Dec.{eqb, ltb, leb}
use lib.ListN.{length}
use borrow.Author.Tests.{ltb-true, lt-ltb, leb-true, le-leb}
use Rattle.common.specs.Outcome.{Outcome, refused, given, Step, return, after, ◌>>=◌}
use Rattle.common.specs.Runs.{Table, placed}
use Rattle.netkat_steps.specs.ListSteps.{Edge, enter, enter_in}
use Rattle.netkat_steps.proofs.Related.{Related, insert_related, st_singleton_related, st_union_related, st_intersect_related, st_difference_related, st_xor_related, st_complement_related, st_postcompose_related, st_precompose_related, st_intersect_expr_related}
use Rattle.aut_steps.specs.Relations as Rel
use Rattle.aut_steps.specs.Tables.{SPP, UNION, INTERSECT, XOR, DIFFERENCE, COMPLEMENT, SEQUENCE, STAR, DUP, NEXT, UNTIL, TOP, kind_of, op1, op2, nest, list_of, Limits, Exprs, Aut, put_states, put_exprs, on_nodes, on_states, on_exprs}
use Rattle.aut_steps.specs.Intern.{seek, same2, same_l, nest_l, intern1, intern2, intern_l}
use Rattle.aut_steps.specs.Lists.{sorted}
use Rattle.aut_steps.specs.Constructors as Make
use Rattle.aut_steps.specs.Constructors.{Within, within, beyond, then_within, opened, extend, open_all, Opened, then_open, open_union, count_one, count_all, product, each, mk_spp, mk_top, mk_next, mk_until, relations, is_relation, Met, add_last, parts, met, unite_one, meet_one, add_relation, finish, unite_opened, mk_union_n, mk_union, meet_finish, meet, meet_opened, mk_intersect_n_base, base, bases, distribute, intersect_opened, mk_intersect_n, mk_intersect, mk_xor, mk_difference, mk_complement, sequence_with, sequence_by, mk_sequence, mk_star}
use Rattle.aut_st_steps.specs.Operations.{ops}
use Rattle.aut_delta_steps.specs.Epsilon.{each_of, epsilon}
use Rattle.aut_delta_steps.specs.Delta.{count_of, Store, put_aut, on_aut, keep_list, union_all, intersect_all, intersect_first, sequence_list, star_list, until_list, dup_list, top_list, delta_by_kind, delta_with, delta_by, delta}
use Rattle.spp_steps.proofs.Laws.{false_true}
use Rattle.aut_replay.specs.Replay as Replay
use Rattle.aut_replay.specs.Replay.{Wider, Call, called, ListCall, listed}
use Rattle.aut_replay.specs.Limits as Of
use Rattle.aut_replay.specs.Limits.{OfLimit, Carries, lifted, same, Carried, LimitsOnly}
use Rattle.aut_replay.proofs.Lists.{enter_as}

-- ---- following a step under two limits

module _ {S A : Type 0} where
  pub carry_same : (m : Step S A) → Carried m m
  carry_same m σ = same

  pub carry_if : (b : Bool) {o o' p p' : Outcome S A} → Carries o p → Carries o' p' → Carries (if b then o else o') (if b then p else p')
  carry_if true y n = y
  carry_if false y n = n

  pub carry_test : (b : Bool) (m k m' k' : Step S A) → Carried m m' → Carried k k' → Carried (if b then m else k) (if b then m' else k')
  carry_test true m k m' k' y n = y
  carry_test false m k m' k' y n = n

  -- what is refused under the larger limit is refused under the smaller
  carry_limit : (number : ℕ) → OfLimit number → (b c : Bool) {o p : Outcome S A} → (c ≡ true → b ≡ true) → Carries o p → Carries (if b then refused number else o) (if c then refused number else p)
  carry_limit number n true c f q = lifted n
  carry_limit number n false true f q = absurd (false_true (f refl))
  carry_limit number n false false f q = q

module _ {S A B : Type 0} where
  carry_after : (o p : Outcome S A) (k j : A → Step S B) → Carries o p → ((a : A) → Carried (k a) (j a)) → Carries (after o k) (after p j)
  carry_after _ p k j (lifted n) f = lifted n
  carry_after (refused number) _ k j same f = same
  carry_after (given σ a) _ k j same f = f a σ

  carry_then : (o : Outcome S A) (k j : A → Step S B) → ((a : A) → Carried (k a) (j a)) → Carries (after o k) (after o j)
  carry_then (refused number) k j f = same
  carry_then (given σ a) k j f = f a σ

  pub carry_bind : {m m' : Step S A} {k j : A → Step S B} → Carried m m' → ((a : A) → Carried (k a) (j a)) → Carried (m >>= k) (m' >>= j)
  carry_bind {m} {m'} {k} {j} h f σ = carry_after (m σ) (m' σ) k j (h σ) f

pub carry_placed : {S B A : Type 0} (put : S → B → B) (β : B) (o p : Outcome S A) → Carries o p → Carries (placed put β o) (placed put β p)
carry_placed put β _ p (lifted n) = lifted n
carry_placed put β o _ same = same

on_states_lem : {A : Type 0} {c d : Step Table A} → Carried c d → Carried (on_states c) (on_states d)
on_states_lem {c = c} {d = d} h σ = carry_placed put_states σ (c σ.states) (d σ.states) (h σ.states)

on_exprs_lem : {A : Type 0} {c d : Step Exprs A} → Carried c d → Carried (on_exprs c) (on_exprs d)
on_exprs_lem {c = c} {d = d} h σ = carry_placed put_exprs σ (c _) (d _) (h _)

pub on_aut_lem : {A : Type 0} {c d : Step Aut A} → Carried c d → Carried (on_aut c) (on_aut d)
on_aut_lem {c = c} {d = d} h σ = carry_placed put_aut σ (c σ.aut) (d σ.aut) (h σ.aut)

ltb_less : (a b e : ℕ) → a ≤ b → ltb b e ≡ true → ltb a e ≡ true
ltb_less a b e l q = lt-ltb a e (omega (arith, ltb-true b e q))

-- ---- lists that are opened

data WithinMore {A : Type 0} : Within A → Within A → Type 0 where
  fails : {o : Within A} → WithinMore beyond o
  equal : {o : Within A} → WithinMore o o

data OpenMore : Opened → Opened → Type 0 where
  fails : {o : Opened} → OpenMore Make.long o
  equal : {o : Opened} → OpenMore o o

within_if : {A : Type 0} (n m k : ℕ) (a : A) → m ≤ k → WithinMore (if leb n m then within a else beyond) (if leb n k then within a else beyond)
within_if {A} n m k a l = go (leb n m) (leb n k) (λ q. le-leb n k (omega (arith, leb-true n m q)))
  where
    go : (b c : Bool) → (b ≡ true → c ≡ true) → WithinMore (if b then within a else beyond) (if c then within a else beyond)
    go true true f = equal
    go true false f = absurd (false_true (f refl))
    go false c f = fails

within_then : {A B : Type 0} (o p : Within A) (k j : A → Within B) → WithinMore o p → ((a : A) → WithinMore (k a) (j a)) → WithinMore (then_within o k) (then_within p j)
within_then _ p k j fails f = fails
within_then (within a) _ k j equal f = f a
within_then beyond _ k j equal f = fails

open_then : (o p : Within (List ℕ)) (k j : List ℕ → Opened) → WithinMore o p → ((a : List ℕ) → OpenMore (k a) (j a)) → OpenMore (then_open o k) (then_open p j)
open_then _ p k j fails f = fails
open_then (within a) _ k j equal f = f a
open_then beyond _ k j equal f = fails

module _ {most more : ℕ} (wide : most ≤ more) (st m : List ℕ) where
  extend_more : (acc ys : List ℕ) → WithinMore (extend most acc ys) (extend more acc ys)
  unfolding extend
  extend_more acc ys = within_if (length acc + length ys) most more (acc ++ ys) wide

  open_all_more : (xs acc : List ℕ) → WithinMore (open_all most st m xs acc) (open_all more st m xs acc)
  unfolding open_all
  open_all_more [] acc = equal
  open_all_more (x ∷ xs) acc = within_then _ _ _ _ (extend_more acc (opened INTERSECT st m x)) (λ l. open_all_more xs l)

  open_test : (b : Bool) (o p : Opened) → OpenMore o p → OpenMore (if b then Make.top else o) (if b then Make.top else p)
  open_test true o p h = equal
  open_test false o p h = h

  open_union_more : (xs acc : List ℕ) → OpenMore (open_union most st m xs acc) (open_union more st m xs acc)
  unfolding open_union
  open_union_more [] acc = equal
  open_union_more (x ∷ xs) acc = open_test (eqb (kind_of st x) TOP) _ _ (open_then _ _ _ _ (extend_more acc (opened UNION st m x)) (λ l. open_union_more xs l))

  count_test : (b : Bool) (o p q : Within ℕ) → WithinMore o p → WithinMore (if b then o else q) (if b then p else q)
  count_test true o p q h = h
  count_test false o p q h = equal

  count_all_more : (xs : List ℕ) (n : ℕ) → WithinMore (count_all most st xs n) (count_all more st xs n)
  unfolding count_all count_one
  count_all_more [] n = equal
  count_all_more (x ∷ xs) n = within_then _ _ _ _ (count_test (eqb (kind_of st x) UNION) _ _ _ (within_if (n * op2 st x) most more (n * op2 st x) wide)) (λ k. count_all_more xs k)

-- ---- constructors

module _ (N : ℕ) {L L' : Limits} (wide : Wider L L') where
  intern1_carry : (k x : ℕ) → Carried (intern1 L k x) (intern1 L' k x)
  unfolding intern1
  intern1_carry k x s =
      let e : ℕ = nest s.words x + 1 in
      carry_if (ltb (seek (same2 s.words k x 0) 0 s.count) s.count) same (carry_limit 8 Of.nesting (ltb L.nesting e) (ltb L'.nesting e) (ltb_less L.nesting L'.nesting e wide.nesting) same)

  intern2_carry : (k x y : ℕ) → Carried (intern2 L k x y) (intern2 L' k x y)
  unfolding intern2
  intern2_carry k x y s =
      let e : ℕ = max (nest s.words x) (nest s.words y) + 1 in
      carry_if (ltb (seek (same2 s.words k x y) 0 s.count) s.count) same (carry_limit 8 Of.nesting (ltb L.nesting e) (ltb L'.nesting e) (ltb_less L.nesting L'.nesting e wide.nesting) same)

  intern_l_carry : (k : ℕ) (xs : List ℕ) → Carried (intern_l L k xs) (intern_l L' k xs)
  unfolding intern_l
  intern_l_carry k xs s =
      let e : ℕ = nest_l s.states.words 0 xs + 1 in
      carry_if (ltb (seek (same_l s.states.words s.members.words k xs) 0 s.states.count) s.states.count) same
      (carry_limit 8 Of.nesting (ltb L.nesting e) (ltb L'.nesting e) (ltb_less L.nesting L'.nesting e wide.nesting) same)

  mk_next_carry : (x : ℕ) → Carried (mk_next L x) (mk_next L' x)
  unfolding mk_next
  mk_next_carry x = intern1_carry NEXT x

  mk_until_carry : (x y : ℕ) → Carried (mk_until L x y) (mk_until L' x y)
  unfolding mk_until
  mk_until_carry x y = intern2_carry UNTIL x y

  finish_carry : (xs : List ℕ) → Carried (finish N L xs) (finish N L' xs)
  unfolding finish
  finish_carry xs = carry_test (eqb (length xs) 1) _ _ _ _ (carry_same _) (carry_test (eqb (length xs) 0) _ _ _ _ (carry_same _) (intern_l_carry UNION xs))

  unite_carry : (xs : List ℕ) → Carried (Make.unite N L xs) (Make.unite N L' xs)
  unfolding Make.unite
  unite_carry xs σ = carry_then (on_nodes (each (unite_one N σ.states.words) xs (parts (Rel.zero_at N) [])) σ) _ _ (λ p. carry_bind (carry_same (on_states (add_relation N p))) (λ ys. on_exprs_lem (finish_carry (sorted ys))))

  unite_opened_carry : (o p : Opened) → OpenMore o p → Carried (unite_opened N L o) (unite_opened N L' p)
  unite_opened_carry _ p fails σ = lifted Of.list
  unite_opened_carry Make.top _ equal σ = same
  unite_opened_carry Make.long _ equal σ = same
  unite_opened_carry (Make.list xs) _ equal σ = unite_carry xs σ

  mk_union_n_carry : (xs : List ℕ) → Carried (mk_union_n N L xs) (mk_union_n N L' xs)
  unfolding mk_union_n
  mk_union_n_carry xs σ =
      carry_limit 6 Of.list (ltb L.list (length xs)) (ltb L'.list (length xs)) (ltb_less L.list L'.list (length xs) wide.list)
      (carry_if (eqb (length xs) 1) same (unite_opened_carry _ _ (open_union_more wide.list σ.states.words σ.members.words xs []) σ))

  mk_union_carry : (x y : ℕ) → Carried (mk_union N L x y) (mk_union N L' x y)
  unfolding mk_union
  mk_union_carry x y σ = carry_if (eqb x y) same (carry_if (relations σ.states.words x y) same (mk_union_n_carry (x ∷ y ∷ []) σ))

  meet_finish_carry : (p : Met) (xs : List ℕ) → Carried (meet_finish N L p xs) (meet_finish N L' p xs)
  unfolding meet_finish
  meet_finish_carry p xs =
      carry_test (p.some && eqb p.relation (Rel.zero_at N)) _ _ _ _ (carry_same _)
      (carry_test (eqb (length xs) 0) _ _ _ _ (carry_same _) (carry_bind (carry_same (on_states (add_last p xs))) (λ ys. on_exprs_lem (intern_l_carry INTERSECT ys))))

  meet_carry : (xs : List ℕ) → Carried (meet N L xs) (meet N L' xs)
  unfolding meet
  meet_carry xs σ = carry_then (on_nodes (each (meet_one N σ.states.words) xs (met false (Rel.top_at N) [])) σ) _ _ (λ p. meet_finish_carry p (sorted p.others))

  meet_opened_carry : (o p : Within (List ℕ)) → WithinMore o p → Carried (meet_opened N L o) (meet_opened N L' p)
  meet_opened_carry _ p fails σ = lifted Of.list
  meet_opened_carry beyond _ equal σ = same
  meet_opened_carry (within xs) _ equal σ = meet_carry xs σ

  mk_intersect_n_base_carry : (xs : List ℕ) → Carried (mk_intersect_n_base N L xs) (mk_intersect_n_base N L' xs)
  unfolding mk_intersect_n_base
  mk_intersect_n_base_carry xs σ = meet_opened_carry _ _ (open_all_more wide.list σ.states.words σ.members.words xs []) σ

  base_carry : (xs : List ℕ) (i : ℕ) → Carried (base N L xs i) (base N L' xs i)
  unfolding base
  base_carry xs i σ = mk_intersect_n_base_carry (product σ.states.words σ.members.words xs i) σ

  bases_carry : (xs : List ℕ) (i k : ℕ) (acc : List ℕ) → Carried (bases N L xs i k acc) (bases N L' xs i k acc)
  unfolding bases
  bases_carry xs i zero acc = carry_same _
  bases_carry xs i (suc k) acc = carry_bind (base_carry xs i) (λ z. bases_carry xs (i + 1) k (acc ++ z ∷ []))

  distribute_carry : (xs : List ℕ) (o p : Within ℕ) → WithinMore o p → Carried (distribute N L xs o) (distribute N L' xs p)
  distribute_carry xs _ p fails σ = lifted Of.products
  distribute_carry xs beyond _ equal σ = same
  distribute_carry xs (within n) _ equal σ = carry_bind (bases_carry xs 0 n []) mk_union_n_carry σ

  intersect_opened_carry : (o p : Within (List ℕ)) → WithinMore o p → Carried (intersect_opened N L o) (intersect_opened N L' p)
  intersect_opened_carry _ p fails σ = lifted Of.list
  intersect_opened_carry beyond _ equal σ = same
  intersect_opened_carry (within xs) _ equal σ = distribute_carry xs _ _ (count_all_more wide.products σ.states.words σ.members.words xs 1) σ

  mk_intersect_n_carry : (xs : List ℕ) → Carried (mk_intersect_n N L xs) (mk_intersect_n N L' xs)
  unfolding mk_intersect_n
  mk_intersect_n_carry xs σ =
      carry_limit 6 Of.list (ltb L.list (length xs)) (ltb L'.list (length xs)) (ltb_less L.list L'.list (length xs) wide.list)
      (carry_if (eqb (length xs) 1) same (intersect_opened_carry _ _ (open_all_more wide.list σ.states.words σ.members.words xs []) σ))

  mk_intersect_carry : (x y : ℕ) → Carried (mk_intersect N L x y) (mk_intersect N L' x y)
  unfolding mk_intersect
  mk_intersect_carry x y σ = carry_if (eqb x y) same (carry_if (relations σ.states.words x y) same (mk_intersect_n_carry (x ∷ y ∷ []) σ))

  mk_xor_carry : (x y : ℕ) → Carried (mk_xor N L x y) (mk_xor N L' x y)
  unfolding mk_xor
  mk_xor_carry x y σ =
      carry_if (eqb x y) same (carry_if (relations σ.states.words x y) same (carry_if (ltb x y) (on_states_lem (intern2_carry XOR x y) σ) (on_states_lem (intern2_carry XOR y x) σ)))

  mk_difference_carry : (x y : ℕ) → Carried (mk_difference N L x y) (mk_difference N L' x y)
  unfolding mk_difference
  mk_difference_carry x y σ = carry_if (eqb x y) same (carry_if (relations σ.states.words x y) same (on_states_lem (intern2_carry DIFFERENCE x y) σ))

  mk_complement_carry : (x : ℕ) → Carried (mk_complement N L x) (mk_complement N L' x)
  unfolding mk_complement
  mk_complement_carry x s = carry_if (eqb (kind_of s.words x) COMPLEMENT) same (carry_if (eqb (kind_of s.words x) TOP) same (intern1_carry COMPLEMENT x s))

  sequence_with_carry : {again other : ℕ → ℕ → Step Aut ℕ} → ((a b : ℕ) → Carried (again a b) (other a b)) → (x y : ℕ) → Carried (sequence_with N L again x y) (sequence_with N L' other x y)
  unfolding sequence_with
  sequence_with_carry h x y σ =
      let st : List ℕ = σ.states.words in
      carry_if (relations st x y) same (carry_if (is_relation st x (Rel.one_at N)) same (carry_if (is_relation st x (Rel.zero_at N)) same
      (carry_if (is_relation st y (Rel.one_at N)) same (carry_if (is_relation st y (Rel.zero_at N)) same
      (carry_if (eqb (kind_of st x) SEQUENCE) (carry_bind (h (op2 st x) y) (h (op1 st x)) σ)
      (carry_if (eqb (kind_of st x) TOP && eqb (kind_of st y) TOP) same (on_states_lem (intern2_carry SEQUENCE x y) σ)))))))

  sequence_by_carry : (depth x y : ℕ) → Carried (sequence_by N L depth x y) (sequence_by N L' depth x y)
  unfolding sequence_by
  sequence_by_carry zero x y = sequence_with_carry (λ a b. carry_same (return a)) x y
  sequence_by_carry (suc depth) x y = sequence_with_carry (sequence_by_carry depth) x y

  mk_sequence_carry : (x y : ℕ) → Carried (mk_sequence N L x y) (mk_sequence N L' x y)
  unfolding mk_sequence
  mk_sequence_carry x y σ = sequence_by_carry (nest σ.states.words x) x y σ

  mk_star_carry : (x : ℕ) → Carried (mk_star N L x) (mk_star N L' x)
  unfolding mk_star
  mk_star_carry x σ =
      let st : List ℕ = σ.states.words in
      carry_if (eqb (kind_of st x) STAR) same (carry_if (eqb (kind_of st x) SPP) same (carry_if (eqb (kind_of st x) TOP) same (on_states_lem (intern1_carry STAR x) σ)))

  call_carry : (c : Call) → Carried (called N c L) (called N c L')
  call_carry (Replay.spp h) = carry_same _
  call_carry Replay.dup = carry_same _
  call_carry Replay.top = carry_same _
  call_carry (Replay.next x) = on_states_lem (mk_next_carry x)
  call_carry (Replay.until x y) = on_states_lem (mk_until_carry x y)
  call_carry (Replay.union x y) = mk_union_carry x y
  call_carry (Replay.union_n xs) = mk_union_n_carry xs
  call_carry (Replay.intersect x y) = mk_intersect_carry x y
  call_carry (Replay.intersect_n xs) = mk_intersect_n_carry xs
  call_carry (Replay.intersect_n_base xs) = mk_intersect_n_base_carry xs
  call_carry (Replay.xor x y) = mk_xor_carry x y
  call_carry (Replay.difference x y) = mk_difference_carry x y
  call_carry (Replay.complement x) = on_states_lem (mk_complement_carry x)
  call_carry (Replay.sequence x y) = mk_sequence_carry x y
  call_carry (Replay.star x) = mk_star_carry x

  -- ---- lists

  enters_carry : (s l : ℕ) (us : List Edge) → Carried (enter_in (ops N L) s l us) (enter_in (ops N L') s l us)
  unfolding enter_in
  enters_carry s l us = go (ltb (length us) L.transitions) (ltb (length us) L'.transitions) (λ q. lt-ltb (length us) L'.transitions (omega (arith, ltb-true (length us) L.transitions q, wide.transitions)))
    where
      go : (b c : Bool) → (b ≡ true → c ≡ true) → Carried {S = Aut} (if b then return (enter (ops N L) s l us) else λ σ. refused 9) (if c then return (enter (ops N L') s l us) else λ σ. refused 9)
      go true true f σ = subst (λ (es : List Edge). Carries (given σ (enter (ops N L) s l us)) (given σ es)) (sym (enter_as N L L' s l us)) same
      go true false f σ = absurd (false_true (f refl))
      go false c f σ = lifted Of.transitions

  ops_carry : Related (ops N L) (ops N L') (λ (A : Type 0) (c d : Step Aut A). Carried c d)
  ops_carry = record {
    returns = λ a. carry_same (return a);
    bind = λ p q. carry_bind p q;
    zero = refl;
    enters = enters_carry;
    union = λ l m. carry_same _;
    intersect = λ l m. carry_same _;
    difference = λ l m. carry_same _;
    sequence = λ l m. carry_same _;
    complement = λ l. carry_same _;
    mk_union = mk_union_carry;
    mk_intersect = mk_intersect_carry;
    mk_difference = mk_difference_carry;
    mk_sequence = mk_sequence_carry;
    mk_complement = λ x. on_states_lem (mk_complement_carry x);
    mk_top = carry_same _;
    mk_zero = carry_same _;
  }

  list_carry : (c : ListCall) → Carried (listed N c L) (listed N c L')
  list_carry (Replay.insert s l es) = insert_related ops_carry s l es
  list_carry (Replay.st_singleton l s) = st_singleton_related ops_carry l s
  list_carry (Replay.st_union ts us) = st_union_related ops_carry ts us
  list_carry (Replay.st_intersect ts us) = st_intersect_related ops_carry ts us
  list_carry (Replay.st_difference ts us) = st_difference_related ops_carry ts us
  list_carry (Replay.st_xor ts us) = st_xor_related ops_carry ts us
  list_carry (Replay.st_complement ts) = st_complement_related ops_carry ts
  list_carry (Replay.st_postcompose ts x) = st_postcompose_related ops_carry ts x
  list_carry (Replay.st_precompose l ts) = st_precompose_related ops_carry l ts
  list_carry (Replay.st_intersect_expr ts x) = st_intersect_expr_related ops_carry ts x

  -- ---- delta

  d_union_all : (lists : List (List Edge)) (r : List Edge) → Carried (union_all N L lists r) (union_all N L' lists r)
  unfolding union_all
  d_union_all [] r = carry_same _
  d_union_all (es ∷ ess) r = carry_bind (st_union_related ops_carry r es) (d_union_all ess)

  d_intersect_all : (lists : List (List Edge)) (r : List Edge) → Carried (intersect_all N L lists r) (intersect_all N L' lists r)
  unfolding intersect_all
  d_intersect_all [] r = carry_same _
  d_intersect_all (es ∷ ess) r = carry_bind (st_intersect_related ops_carry r es) (d_intersect_all ess)

  d_intersect_first : (lists : List (List Edge)) → Carried (intersect_first N L lists) (intersect_first N L' lists)
  d_intersect_first [] = carry_same _
  d_intersect_first (es ∷ ess) = d_intersect_all ess es

  d_sequence : (y ε : ℕ) (ts us : List Edge) → Carried (sequence_list N L y ε ts us) (sequence_list N L' y ε ts us)
  unfolding sequence_list
  d_sequence y ε ts us = carry_bind (st_postcompose_related ops_carry ts y) (λ late. carry_bind (st_precompose_related ops_carry ε us) (λ early. st_union_related ops_carry late early))

  d_star : (x ε : ℕ) (ts : List Edge) → Carried (star_list N L x ε ts) (star_list N L' x ε ts)
  unfolding star_list
  d_star x ε ts = carry_bind (st_postcompose_related ops_carry ts x) (λ late. st_precompose_related ops_carry ε late)

  d_until : (a b : ℕ) (ts us : List Edge) → Carried (until_list N L a b ts us) (until_list N L' a b ts us)
  unfolding until_list
  d_until a b ts us = carry_bind (on_states_lem (mk_until_carry a b)) (λ u. carry_bind (st_intersect_expr_related ops_carry ts u) (λ met. st_union_related ops_carry us met))

  d_dup : Carried (dup_list N L) (dup_list N L')
  unfolding dup_list
  d_dup = carry_bind (carry_same (on_states (mk_spp (Rel.one_at N)))) (λ x. st_singleton_related ops_carry (Rel.one_at N) x)

  d_top : Carried (top_list N L) (top_list N L')
  unfolding top_list
  d_top = carry_bind (carry_same (on_states mk_top)) (λ x. st_singleton_related ops_carry (Rel.top_at N) x)

  d_each : {again other : ℕ → Step Store (List Edge)} → ((x : ℕ) → Carried (again x) (other x)) → (xs : List ℕ) → Carried (each_of again xs) (each_of other xs)
  unfolding each_of
  d_each h [] = carry_same _
  d_each h (x ∷ xs) = carry_bind (h x) (λ a. carry_bind (d_each h xs) (λ l. carry_same _))

  d_kind : {again other : ℕ → Step Store (List Edge)} → ((x : ℕ) → Carried (again x) (other x)) → (x : ℕ) → Carried (delta_by_kind N L again x) (delta_by_kind N L' other x)
  unfolding delta_by_kind
  d_kind h x σ =
      let st : List ℕ = σ.aut.states.words in
      let k : ℕ = kind_of st x in
      let ms : List ℕ = list_of st σ.aut.members.words x in
      let a : ℕ = op1 st x in
      let b : ℕ = op2 st x in
      carry_if (eqb k SPP) same
      (carry_if (eqb k UNION) (carry_bind (d_each h ms) (λ lists. on_aut_lem (d_union_all lists [])) σ)
      (carry_if (eqb k INTERSECT) (carry_bind (d_each h ms) (λ lists. on_aut_lem (d_intersect_first lists)) σ)
      (carry_if (eqb k XOR) (carry_bind (h a) (λ ts. carry_bind (h b) (λ us. on_aut_lem (st_xor_related ops_carry ts us))) σ)
      (carry_if (eqb k DIFFERENCE) (carry_bind (h a) (λ ts. carry_bind (h b) (λ us. on_aut_lem (st_difference_related ops_carry ts us))) σ)
      (carry_if (eqb k COMPLEMENT) (carry_bind (h a) (λ ts. on_aut_lem (st_complement_related ops_carry ts)) σ)
      (carry_if (eqb k SEQUENCE) (carry_bind (carry_same (on_aut (epsilon N a))) (λ ε. carry_bind (h a) (λ ts. carry_bind (h b) (λ us. on_aut_lem (d_sequence b ε ts us)))) σ)
      (carry_if (eqb k STAR) (carry_bind (carry_same (on_aut (epsilon N a))) (λ ε. carry_bind (carry_same (on_aut (on_nodes (Rel.star N ε)))) (λ ε*. carry_bind (h a) (λ ts. on_aut_lem (d_star x ε* ts)))) σ)
      (carry_if (eqb k DUP) (on_aut_lem d_dup σ)
      (carry_if (eqb k NEXT) (on_aut_lem (st_singleton_related ops_carry (Rel.top_at N) a) σ)
      (carry_if (eqb k UNTIL) (carry_bind (h a) (λ ts. carry_bind (h b) (λ us. on_aut_lem (d_until a b ts us))) σ)
      (on_aut_lem d_top σ)))))))))))

  d_with : {again other : ℕ → Step Store (List Edge)} → ((x : ℕ) → Carried (again x) (other x)) → (x : ℕ) → Carried (delta_with N L again x) (delta_with N L' other x)
  unfolding delta_with
  d_with {again} {other} h x σ =
      carry_if (ltb 0 (count_of σ.aut.states.words x)) same
      (carry_after (delta_by_kind N L again x σ) (delta_by_kind N L' other x σ) (keep_list x) (keep_list x) (d_kind h x σ) (λ es. carry_same (keep_list x es)))

  d_by : (depth x : ℕ) → Carried (delta_by N L depth x) (delta_by N L' depth x)
  unfolding delta_by
  d_by zero x = d_with (λ y. carry_same (return [])) x
  d_by (suc depth) x = d_with (d_by depth) x

  d_delta : (x : ℕ) → Carried (delta N L x) (delta N L' x)
  unfolding delta
  d_delta x σ = d_by (nest σ.aut.states.words x) x σ

  pub limits_only : LimitsOnly N L L'
  limits_only = record { constructors = call_carry; lists = list_carry; delta = d_delta }
