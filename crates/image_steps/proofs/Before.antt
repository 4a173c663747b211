-- 02 (ii), the other way: a state of tables in order fits the tables that have the states before it. So 32 is not given to a record that its constructor gives, unless it is of kind 10.
use Rattle.std.specs.Prelude.{if◌then◌else◌}
use mathlib.Core.Path.{◌≡◌, refl, sym, ◌∙◌, ap, ap₂, subst}
use mathlib.Core.Bool.{Bool, true, false}
use mathlib.Core.List.{List, [], ◌∷◌}
use mathlib.Core.Logic.{◌≢◌}
use Prim.Native.Nat.{ℕ, zero, suc, ◌+◌, ◌*◌, ◌≤◌, ◌<◌, max}
use native.Mathlib.Omega.{arith}
use lib.Dec.{eqb}
use lib.ListN.{length, get_or}
use borrow.Author.Tests.{eqb-true, eqb-false, lt-ltb, le-leb, eq-eqb, ne_eqb}
use Rattle.common.specs.Outcome.{Outcome, refused, given}
use Rattle.common.specs.Runs.{Table}
use Rattle.spp_steps.specs.Wf.{ValidAt}
use Rattle.spp_steps.proofs.Laws.{at_below, by_test, false_true}
use Rattle.aut_steps.specs.Tables.{SPP, UNION, INTERSECT, XOR, DIFFERENCE, COMPLEMENT, SEQUENCE, STAR, DUP, NEXT, UNTIL, TOP, kind_of, op1, op2, nest, words, list_of, Limits, room_s, room_m, Aut}
use Rattle.aut_steps.specs.Intern.{nest_l}
use Rattle.aut_steps.specs.Kinds.{Form, leaf, constant, one, two, many, nothing, form, operands_by}
use Rattle.aut_steps.specs.Ascending.{All}
use Rattle.aut_steps.specs.Made.{IsRelation, NotBoth, Part}
use Rattle.aut_steps.specs.Wf.{states, kind, first, second, nesting, members, ExtAut, Many, Two, One, Constant, Leaf, Ok, LastSpp, members_before, WfAut}
use Rattle.aut_steps.proofs.ListLaws.{all_map, all_with, all_split}
use Rattle.aut_steps.proofs.Facts.{words_length, words_same}
use Rattle.aut_steps.proofs.Wf.{ok_as}
use Rattle.aut_steps.proofs.MadeLaws.{before_grown}
use Rattle.aut_st_steps.specs.ListSpec.{State}
use Rattle.aut_replay.specs.Replay.{called, CallAt, Replays, In}
use Rattle.aut_replay.proofs.Replay.{constructors_again}
use Rattle.image_steps.specs.Records as Records
use Rattle.image_steps.specs.Records.{meets, state_fits, interned, wanted}
use Rattle.image_steps.proofs.Depths.{valid_depth}
use Rattle.image_steps.proofs.Fits.{both, not_is, LeafRight, TwoRight, OneRight, ConstantRight, ManyRight, leaf_fits_lem, constant_fits_lem, one_fits_lem, two_fits_lem, many_fits_lem, unites_of, meets_of, both_false, sequence_fits_lem, star_fits_lem, complement_fits_lem}
use Rattle.image_steps.proofs.Constructors.{call_of, record_by_constructor}
use Rattle.image_steps.proofs.States.{as_list, members_with, with_state, Equal, by_words_lem, by_list, Interns, stands, no_members, no_state, new, record_interns, replay_came, wider_refl}

-- σ has the n states before state n of τ, as many members as these, and the relations of τ
pub record Before (N : ℕ) (τ : Aut) (n : ℕ) (σ : Aut) : Type 0 where
  pub relations : (h : ℕ) → ValidAt τ.nodes N h → ValidAt σ.nodes N h
  pub count : states σ ≡ n
  pub words : (z w : ℕ) → z < n → w < 4 → get_or σ.states.words (12 * z + w) 0 ≡ get_or τ.states.words (12 * z + w) 0
  pub members : σ.members.count ≡ members_before τ n

-- the kinds of states
pub data AnyKind (k : ℕ) : Type 0 where
  spp : k ≡ SPP → AnyKind k
  union : k ≡ UNION → AnyKind k
  intersect : k ≡ INTERSECT → AnyKind k
  xor : k ≡ XOR → AnyKind k
  difference : k ≡ DIFFERENCE → AnyKind k
  complement : k ≡ COMPLEMENT → AnyKind k
  sequence : k ≡ SEQUENCE → AnyKind k
  star : k ≡ STAR → AnyKind k
  dup : k ≡ DUP → AnyKind k
  next : k ≡ NEXT → AnyKind k
  until : k ≡ UNTIL → AnyKind k
  top : k ≡ TOP → AnyKind k

-- none is above 12
pub kind_low : {k : ℕ} → AnyKind k → k ≤ 12
kind_low (spp e) = omega arith
kind_low (union e) = omega arith
kind_low (intersect e) = omega arith
kind_low (xor e) = omega arith
kind_low (difference e) = omega arith
kind_low (complement e) = omega arith
kind_low (sequence e) = omega arith
kind_low (star e) = omega arith
kind_low (dup e) = omega arith
kind_low (next e) = omega arith
kind_low (until e) = omega arith
kind_low (top e) = omega arith

arm : {N : ℕ} {A : Type 0} (τ : Aut) (n : ℕ) (b : Bool) (f g : Form N) → (b ≡ true → A) → (b ≡ false → Ok g τ n → A) → Ok (if b then f else g) τ n → A
arm τ n true f g p q o = p refl
arm τ n false f g p q o = q refl o

by_form : (N : ℕ) (τ : Aut) (n k : ℕ) → Ok (form {N = N} k) τ n → AnyKind k
unfolding form
by_form N τ n k o =
    arm τ n (eqb k SPP) _ _ (λ q. spp (eqb-true k SPP q))
    (λ _ o. arm τ n (eqb k UNION) _ _ (λ q. union (eqb-true k UNION q))
    (λ _ o. arm τ n (eqb k INTERSECT) _ _ (λ q. intersect (eqb-true k INTERSECT q))
    (λ _ o. arm τ n (eqb k XOR) _ _ (λ q. xor (eqb-true k XOR q))
    (λ _ o. arm τ n (eqb k DIFFERENCE) _ _ (λ q. difference (eqb-true k DIFFERENCE q))
    (λ _ o. arm τ n (eqb k COMPLEMENT) _ _ (λ q. complement (eqb-true k COMPLEMENT q))
    (λ _ o. arm τ n (eqb k SEQUENCE) _ _ (λ q. sequence (eqb-true k SEQUENCE q))
    (λ _ o. arm τ n (eqb k STAR) _ _ (λ q. star (eqb-true k STAR q))
    (λ _ o. arm τ n (eqb k DUP) _ _ (λ q. dup (eqb-true k DUP q))
    (λ _ o. arm τ n (eqb k NEXT) _ _ (λ q. next (eqb-true k NEXT q))
    (λ _ o. arm τ n (eqb k UNTIL) _ _ (λ q. until (eqb-true k UNTIL q))
    (λ _ o. arm τ n (eqb k TOP) _ _ (λ q. top (eqb-true k TOP q)) (λ _ o. absurd o)
    o) o) o) o) o) o) o) o) o) o) o) o

pub any_kind : {N : ℕ} {L : Limits} {τ : Aut} → WfAut N L τ → (n : ℕ) → n < states τ → AnyKind (kind τ n)
any_kind {N} {τ = τ} g n l = by_form N τ n (kind τ n) (g.ok n l)

module _ {N : ℕ} {L : Limits} {τ σ : Aut} {n : ℕ} (g : WfAut N L τ) (l : n < states τ) (b : Before N τ n σ) where
  -- ---- what σ has of a state before n

  same_kind : (z : ℕ) → z < n → kind σ z ≡ kind τ z
  unfolding kind_of
  same_kind z m =
      ap (λ (p : ℕ). get_or σ.states.words p 0) {x = 12 * z} {y = 12 * z + 0} (omega arith) ∙ b.words z 0 m (omega arith)
      ∙ ap (λ (p : ℕ). get_or τ.states.words p 0) {x = 12 * z + 0} {y = 12 * z} (omega arith)

  same_first : (z : ℕ) → z < n → first σ z ≡ first τ z
  unfolding op1
  same_first z m = b.words z 1 m (omega arith)

  same_nesting : (z : ℕ) → z < n → nesting σ z ≡ nesting τ z
  unfolding nest
  same_nesting z m = b.words z 3 m (omega arith)

  same_nest_l : (h : ℕ) (xs : List ℕ) → All (λ z. z < n) xs → nest_l σ.states.words h xs ≡ nest_l τ.states.words h xs
  unfolding nest_l
  same_nest_l h [] a = refl
  same_nest_l h (x ∷ xs) a = ap (λ (e : ℕ). nest_l σ.states.words (max h e) xs) (same_nesting x a.0) ∙ same_nest_l (max h (nesting τ x)) xs a.1

  was : {z k : ℕ} → z < n → kind σ z ≡ k → kind τ z ≡ k
  was {z} m e = sym (same_kind z m) ∙ e

  was_relation : {z h : ℕ} → z < n → IsRelation σ.states.words z h → IsRelation τ.states.words z h
  was_relation {z} m (e, f) = (was m e, sym (same_first z m) ∙ f)

  parts_were : (k : ℕ) (xs : List ℕ) → All (λ z. z < n) xs → All (Part N τ.states.words k) xs → All (Part N σ.states.words k) xs
  parts_were k xs a p = all_with xs (λ x m q. record { other = λ e. q.other (was m e); no_top = λ e. q.no_top (was m e); no_zero = λ e. q.no_zero (was_relation m e) }) a p

  apart : (k x y : ℕ) → x < n → y < n → NotBoth τ.states.words k x y → NotBoth σ.states.words k x y
  apart k x y p q f a c = f (was p a) (was q c)

  last_were : (xs : List ℕ) → All (λ z. z < n) xs → LastSpp τ.states.words xs → LastSpp σ.states.words xs
  last_were [] a s = tt
  last_were (x ∷ xs) a (e, q) = (same_kind x a.0 ∙ e, q)

  -- ---- by form

  leaf_was : Leaf N τ n → LeafRight N σ (first τ n) (second τ n) (nesting τ n)
  leaf_was o =
      let v : ValidAt σ.nodes N (first τ n) = b.relations (first τ n) o.handle in
      record { node = at_below σ.nodes N (first τ n) v; depth = valid_depth σ.nodes N N (first τ n) (omega arith) v; unused = o.unused; nested = o.nested }

  constant_was : Constant τ n → ConstantRight (first τ n) (second τ n) (nesting τ n)
  constant_was o = record { unused1 = o.unused1; unused2 = o.unused2; nested = o.nested }

  one_was : One τ n → OneRight L σ (first τ n) (second τ n) (nesting τ n)
  one_was o = record {
    state = omega (arith, o.earlier, b.count);
    unused = o.unused;
    nested = o.nested ∙ ap (λ (h : ℕ). h + 1) (sym (same_nesting (first τ n) o.earlier));
    shallow = g.shallow n l;
  }

  two_was : Two τ n → TwoRight L σ (first τ n) (second τ n) (nesting τ n)
  two_was o = record {
    state1 = omega (arith, o.earlier1, b.count);
    state2 = omega (arith, o.earlier2, b.count);
    nested = o.nested ∙ ap₂ (λ (h k : ℕ). max h k + 1) (sym (same_nesting (first τ n) o.earlier1)) (sym (same_nesting (second τ n) o.earlier2));
    shallow = g.shallow n l;
  }

  many_was : UNION ≤ kind τ n → kind τ n ≤ INTERSECT → Many τ n → ManyRight L σ (members τ n) (first τ n) (second τ n) (nesting τ n)
  many_was p q o = record {
    start = g.packed n l p q ∙ sym b.members;
    few = g.short n l p q;
    long = words_length τ.members.words (first τ n) (second τ n);
    earlier = all_map (members τ n) (λ z m. omega (arith, b.count)) o.earlier;
    nested = o.nested ∙ ap (λ (h : ℕ). h + 1) (sym (same_nest_l 0 (members τ n) o.earlier));
    shallow = g.shallow n l;
  }

  -- ---- by kind

  -- xs are its members, if it has any; images do not know kind 10
  pub state_fits_lem : kind τ n ≢ NEXT → (xs : List ℕ) → (UNION ≤ kind τ n → kind τ n ≤ INTERSECT → members τ n ≡ xs) → state_fits N L σ xs (kind τ n) (first τ n) (second τ n) (nesting τ n) ≡ true
  unfolding state_fits form
  state_fits_lem d xs f = go (any_kind g n l)
    where
      x : ℕ
      x = first τ n

      y : ℕ
      y = second τ n

      e : ℕ
      e = nesting τ n

      at : {j : ℕ} → kind τ n ≡ j → state_fits N L σ xs j x y e ≡ true → state_fits N L σ xs (kind τ n) x y e ≡ true
      at q p = subst (λ (i : ℕ). state_fits N L σ xs i x y e ≡ true) (sym q) p

      -- with its own members
      with_own : {j : ℕ} → UNION ≤ j → j ≤ INTERSECT → kind τ n ≡ j → state_fits N L σ (members τ n) j x y e ≡ true → state_fits N L σ xs (kind τ n) x y e ≡ true
      with_own {j} p q k s = at k (subst (λ (ys : List ℕ). state_fits N L σ ys j x y e ≡ true) (f (omega arith) (omega arith)) s)

      go : AnyKind (kind τ n) → state_fits N L σ xs (kind τ n) x y e ≡ true
      go (spp k) = at k (leaf_fits_lem N L σ x y e (leaf_was (ok_as g SPP l k)))
      go (union k) =
          let o : Many τ n = ok_as g UNION l k in
          let u = g.unions n l k in
          let s = (g.made n l).union k in
          with_own (omega arith) (omega arith) k
          (both (many_fits_lem N L σ (members τ n) x y e (many_was (omega arith) (omega arith) o))
          (both (le-leb 2 y (omega (arith, u.some, words_length τ.members.words x y)))
          (unites_of N σ.states.words false s.spp 0 (members τ n) u.rising (parts_were UNION (members τ n) o.earlier s.parts) (all_with (members τ n) (λ z m p q. p (was m q)) o.earlier s.one_spp))))
      go (intersect k) =
          let o : Many τ n = ok_as g INTERSECT l k in
          let m = g.intersects n l k in
          let p = parts_were INTERSECT (members τ n) o.earlier ((g.made n l).intersect k) in
          let (a, c) = all_split (λ z. z < n) m.others m.last (subst (All (λ z. z < n)) m.parts o.earlier) in
          with_own (omega arith) (omega arith) k
          (both (many_fits_lem N L σ (members τ n) x y e (many_was (omega arith) (omega arith) o))
          (subst (λ (ys : List ℕ). meets N σ.states.words false 0 ys ≡ true) (sym m.parts)
          (meets_of N σ.states.words false 0 m.others m.last (λ _. m.some) m.rising (all_with m.others (λ z i q r. q (was i r)) a m.no_spp)
          (subst (All (Part N σ.states.words INTERSECT)) m.parts p) (last_were m.last c m.spp_last))))
      go (xor k) =
          let o : Two τ n = ok_as g XOR l k in
          let (p, q) = (g.made n l).xor k in
          at k (both (two_fits_lem N L σ x y e (two_was o)) (both (lt-ltb x y p) (not_is _ (both_false σ.states.words SPP x y (apart SPP x y o.earlier1 o.earlier2 q)))))
      go (difference k) =
          let o : Two τ n = ok_as g DIFFERENCE l k in
          let (p, q) = (g.made n l).difference k in
          at k (both (two_fits_lem N L σ x y e (two_was o)) (both (not_is _ (ne_eqb x y p)) (not_is _ (both_false σ.states.words SPP x y (apart SPP x y o.earlier1 o.earlier2 q)))))
      go (complement k) =
          let o : One τ n = ok_as g COMPLEMENT l k in
          let (p, q) = (g.made n l).complement k in
          at k (both (one_fits_lem N L σ x y e (one_was o)) (complement_fits_lem N L σ.states.words x (λ c. p (was o.earlier c), λ c. q (was o.earlier c))))
      go (sequence k) =
          let o : Two τ n = ok_as g SEQUENCE l k in
          let s = (g.made n l).sequence k in
          at k (both (two_fits_lem N L σ x y e (two_was o)) (sequence_fits_lem N L σ.states.words x y (record {
            regrouped = λ c. s.regrouped (was o.earlier1 c);
            no_one1 = λ c. s.no_one1 (was_relation o.earlier1 c);
            no_zero1 = λ c. s.no_zero1 (was_relation o.earlier1 c);
            no_one2 = λ c. s.no_one2 (was_relation o.earlier2 c);
            no_zero2 = λ c. s.no_zero2 (was_relation o.earlier2 c);
            relations = apart SPP x y o.earlier1 o.earlier2 s.relations;
            tops = apart TOP x y o.earlier1 o.earlier2 s.tops;
          })))
      go (star k) =
          let o : One τ n = ok_as g STAR l k in
          let (p, q, r) = (g.made n l).star k in
          at k (both (one_fits_lem N L σ x y e (one_was o)) (star_fits_lem N L σ.states.words x (λ c. p (was o.earlier c), λ c. q (was o.earlier c), λ c. r (was o.earlier c))))
      go (dup k) = at k (constant_fits_lem N L σ x y e (constant_was (ok_as g DUP l k)))
      go (next k) = absurd (d k)
      go (until k) = at k (two_fits_lem N L σ x y e (two_was (ok_as g UNTIL l k)))
      go (top k) = at k (constant_fits_lem N L σ x y e (constant_was (ok_as g TOP l k)))

-- ---- what a constructor gives

-- later tables have those before as they were
pub grown_before : {N : ℕ} {L : Limits} {σ τ : Aut} → WfAut N L σ → ExtAut σ τ → τ.nodes ≡ σ.nodes → Before N τ (states σ) σ
grown_before {N} {σ = σ} g w e = record {
  relations = λ h v. subst (λ (t : Table). ValidAt t N h) e v;
  count = refl;
  words = λ z i m j. sym (w.states.keep z i m j);
  members = g.counted ∙ sym (before_grown w (states σ) (omega arith));
}

pub constructor_fits : (N : ℕ) (L : Limits) (σ : Aut) → WfAut N L σ → (xs : List ℕ) (k x y e : ℕ) → k ≢ NEXT → CallAt N σ (call_of xs k x y)
    → (τ : Aut) → called N (call_of xs k x y) L σ ≡ given τ (states σ) → τ.nodes ≡ σ.nodes
    → kind τ (states σ) ≡ k → first τ (states σ) ≡ x → second τ (states σ) ≡ y → nesting τ (states σ) ≡ e → (UNION ≤ k → k ≤ INTERSECT → members τ (states σ) ≡ xs)
    → state_fits N L σ xs k x y e ≡ true
constructor_fits N L σ g xs k x y e d a τ c nodes p1 p2 p3 p4 f =
    let w = replay_came (subst (Replays N L (In N L State) (called N (call_of xs k x y) L) σ) c (constructors_again N L L (wider_refl L) (call_of xs k x y) σ g a)) in
    (λ i. state_fits N L σ xs (sym p1 i) (sym p2 i) (sym p3 i) (sym p4 i))
    ∙ state_fits_lem w.2.0 w.2.1 (grown_before g w.0 nodes) (λ q. d (sym p1 ∙ q)) xs (λ u v. f (omega (arith, p1)) (omega (arith, p1)))

-- "wants the same number": what the constructor gives as a new state, with these words and members and with nothing else made, the record gives
pub constructor_made : (N : ℕ) (L : Limits) (σ : Aut) → WfAut N L σ → (xs : List ℕ) (k x y e : ℕ) → k ≢ NEXT → CallAt N σ (call_of xs k x y)
    → (τ : Aut) → called N (call_of xs k x y) L σ ≡ given τ (states σ) → τ.nodes ≡ σ.nodes
    → kind τ (states σ) ≡ k → first τ (states σ) ≡ x → second τ (states σ) ≡ y → nesting τ (states σ) ≡ e → (UNION ≤ k → k ≤ INTERSECT → members τ (states σ) ≡ xs)
    → Records.state N L xs k x y e σ ≡ given τ (states σ)
unfolding Records.state
constructor_made N L σ g xs k x y e d a τ c nodes p1 p2 p3 p4 f =
    let t : state_fits N L σ xs k x y e ≡ true = constructor_fits N L σ g xs k x y e d a τ c nodes p1 p2 p3 p4 f in
    ap (λ (b : Bool). if b then wanted N L (states σ) (interned N L xs k x y σ) else refused 32) t
    ∙ ap (wanted N L (states σ)) (sym (record_by_constructor N L σ g xs k x y e t) ∙ c)
    ∙ ap (λ (b : Bool). if b then given τ (states σ) else refused 32) (eq-eqb (states σ) (states σ) refl)

-- ---- made again

by_two : {N : ℕ} (f : Form N) (st m : List ℕ) (i z : ℕ) → op1 st i ≡ op1 st z → op2 st i ≡ op2 st z → operands_by f st m i ≡ operands_by f st m z
by_two leaf st m i z p q = ap₂ (λ (a b : ℕ). a ∷ b ∷ []) p q
by_two (constant r) st m i z p q = ap₂ (λ (a b : ℕ). a ∷ b ∷ []) p q
by_two (one c) st m i z p q = ap₂ (λ (a b : ℕ). a ∷ b ∷ []) p q
by_two (two c) st m i z p q = ap₂ (λ (a b : ℕ). a ∷ b ∷ []) p q
by_two (many c) st m i z p q = ap₂ (words m) p q
by_two nothing st m i z p q = refl

by_members : (N k : ℕ) (st m : List ℕ) (z : ℕ) → UNION ≤ k → k ≤ INTERSECT → operands_by (form {N = N} k) st m z ≡ list_of st m z
unfolding form
by_members N k st m z a b =
    by_test (eqb k UNION)
    (λ q. ap (λ (j : ℕ). operands_by (form {N = N} j) st m z) (eqb-true k UNION q))
    (λ q. ap (λ (j : ℕ). operands_by (form {N = N} j) st m z) {x = k} {y = INTERSECT} (omega (arith, eqb-false k UNION q)))

-- a list's state
pub list_ok : {N : ℕ} {L : Limits} {τ : Aut} → WfAut N L τ → (n : ℕ) → n < states τ → UNION ≤ kind τ n → kind τ n ≤ INTERSECT → Many τ n
unfolding form
list_ok {τ} g n l lo hi = by_test (eqb (kind τ n) UNION) (λ e. ok_as g UNION l (eqb-true _ _ e)) (λ e. ok_as g INTERSECT l (omega (arith, eqb-false (kind τ n) UNION e)))

pub before_less : (τ : Aut) (i n : ℕ) → i ≤ n → members_before τ i ≤ members_before τ n
unfolding members_before
before_less τ i zero l = omega (arith, ap (members_before τ) {x = i} {y = zero} (omega arith))
before_less τ i (suc n) l =
    by_test (eqb i (suc n))
    (λ q. omega (arith, ap (members_before τ) (eqb-true i (suc n) q)))
    (λ q. omega (arith, before_less τ i n (omega (arith, eqb-false i (suc n) q))))

module _ {N : ℕ} {L : Limits} {τ σ : Aut} {n : ℕ} (g : WfAut N L τ) (l : n < states τ) (b : Before N τ n σ)
    (lists : (j : ℕ) → j < members_before τ n → get_or σ.members.words j 0 ≡ get_or τ.members.words j 0) where
  same_second : (z : ℕ) → z < n → second σ z ≡ second τ z
  unfolding op2
  same_second z m = b.words z 2 m (omega arith)

  list_behind : (z : ℕ) → UNION ≤ kind τ z → kind τ z ≤ INTERSECT → members_before τ (suc z) ≡ members_before τ z + second τ z
  unfolding members_before
  list_behind z p q = ap (λ (c : ℕ). members_before τ z + c) (as_list (kind τ z) (second τ z) 0 p q)

  same_members : (z : ℕ) → z < n → UNION ≤ kind τ z → kind τ z ≤ INTERSECT → members σ z ≡ members τ z
  same_members z m p q =
      ap₂ (words σ.members.words) (same_first g l b z m) (same_second z m)
      ∙ words_same τ.members.words σ.members.words (first τ z) (second τ z) (λ i u v. lists i (omega (arith, g.packed z (omega arith) p q, list_behind z p q, before_less τ (suc z) n m)))

  -- no state before n is equal to it
  no_equal : (xs : List ℕ) → (UNION ≤ kind τ n → kind τ n ≤ INTERSECT → members τ n ≡ xs) → (z : ℕ) → z < n → Equal σ xs (kind τ n) (first τ n) (second τ n) z → ⊥
  no_equal xs f z m (by_words_lem i) =
      let k : kind τ z ≡ kind τ n = was g l b m i.kind in
      let e : z ≡ n = g.once z n (omega arith) l k
      (ap (λ (j : ℕ). operands_by (form {N = N} j) τ.states.words τ.members.words z) k
      ∙ by_two (form (kind τ n)) τ.states.words τ.members.words z n (sym (same_first g l b z m) ∙ i.first) (sym (same_second z m) ∙ i.second)) in
      omega arith
  no_equal xs f z m (by_list p q i) =
      let k : kind τ z ≡ kind τ n = was g l b m i.kind in
      let e : z ≡ n = g.once z n (omega arith) l k
      (by_members N (kind τ z) τ.states.words τ.members.words z (omega arith) (omega arith) ∙ sym (same_members z m (omega arith) (omega arith)) ∙ i.list ∙ sym (f p q)
      ∙ sym (by_members N (kind τ n) τ.states.words τ.members.words n p q)) in
      omega arith

  -- its record is made again behind those before it, where there is room
  pub state_again : kind τ n ≢ NEXT → (xs : List ℕ) → (UNION ≤ kind τ n → kind τ n ≤ INTERSECT → members τ n ≡ xs)
      → room_s σ.states ≡ true → (UNION ≤ kind τ n → kind τ n ≤ INTERSECT → room_m σ.members (length xs) ≡ true)
      → Records.state N L xs (kind τ n) (first τ n) (second τ n) (nesting τ n) σ ≡ given (with_state σ xs (kind τ n) (first τ n) (second τ n) (nesting τ n)) (states σ)
  unfolding Records.state
  state_again d xs f r s =
      ap (λ (c : Bool). if c then wanted N L (states σ) (interned N L xs k x y σ) else refused 32) fits
      ∙ at (record_interns N L σ xs k x y e fits)
    where
      k : ℕ
      k = kind τ n

      x : ℕ
      x = first τ n

      y : ℕ
      y = second τ n

      e : ℕ
      e = nesting τ n

      fits : state_fits N L σ xs k x y e ≡ true
      fits = state_fits_lem g l b d xs f

      at : {o : Outcome Aut ℕ} → Interns σ xs k x y e (members_with k xs σ.members) o → wanted N L (states σ) o ≡ given (with_state σ xs k x y e) (states σ)
      at (stands {i} m h) = absurd (no_equal xs f i (omega (arith, b.count)) h)
      at (no_members p q m) = absurd (false_true (sym m ∙ s p q))
      at (no_state m) = absurd (false_true (sym m ∙ r))
      at (new m) = ap (λ (c : Bool). if c then given (with_state σ xs k x y e) (states σ) else refused 32) (eq-eqb (states σ) (states σ) refl)
