-- The whole test by kinds, and what a record that fits says of its operands.
use mathlib.Core.Path.{◌≡◌, sym, ◌∙◌, ap}
use mathlib.Core.Bool.{Bool, true, false, ◌&&◌, not, and-false}
use mathlib.Core.List.{List}
use mathlib.Core.Logic.{◌⊎◌, inl, inr}
use Prim.Native.Nat.{ℕ, ◌+◌, ◌<◌}
use lib.Dec.{eqb, ltb, leb}
use lib.ListN.{length}
use borrow.Author.Tests.{lt-leb, ltb-true}
use Rattle.common.specs.Runs.{Table, table}
use Rattle.aut_steps.specs.Tables.{UNION, INTERSECT, XOR, DIFFERENCE, COMPLEMENT, SEQUENCE, STAR, DUP, UNTIL, TOP, Limits, Aut, aut}
use Rattle.aut_steps.specs.Constructors.{relations}
use Rattle.aut_steps.specs.Intern.{nest_l}
use Rattle.aut_steps.proofs.Facts.{and_true}
use Rattle.image_steps.specs.Records.{state_fits, constant_fits, one_fits, two_fits, many_fits, unites, meets, all_below, sequence_fits, star_fits, complement_fits}

-- ---- what it is for each kind

module _ (N : ℕ) (L : Limits) (σ : Aut) (xs : List ℕ) (k x y e : ℕ) where
  abbrev fits : Bool
  fits = state_fits N L σ xs k x y e

  abbrev st : List ℕ
  st = σ.states.words

  pub of_constant : (k ≡ DUP) ⊎ (k ≡ TOP) → fits ≡ constant_fits N L x y e
  unfolding state_fits
  of_constant (inl q) = ap (λ (k : ℕ). state_fits N L σ xs k x y e) q
  of_constant (inr q) = ap (λ (k : ℕ). state_fits N L σ xs k x y e) q

  of_complement : k ≡ COMPLEMENT → fits ≡ (one_fits N L σ x y e && complement_fits N L st x)
  unfolding state_fits
  of_complement q = ap (λ (k : ℕ). state_fits N L σ xs k x y e) q

  of_star : k ≡ STAR → fits ≡ (one_fits N L σ x y e && star_fits N L st x)
  unfolding state_fits
  of_star q = ap (λ (k : ℕ). state_fits N L σ xs k x y e) q

  of_xor : k ≡ XOR → fits ≡ (two_fits N L σ x y e && (ltb x y && not (relations st x y)))
  unfolding state_fits
  of_xor q = ap (λ (k : ℕ). state_fits N L σ xs k x y e) q

  of_difference : k ≡ DIFFERENCE → fits ≡ (two_fits N L σ x y e && (not (eqb x y) && not (relations st x y)))
  unfolding state_fits
  of_difference q = ap (λ (k : ℕ). state_fits N L σ xs k x y e) q

  of_sequence : k ≡ SEQUENCE → fits ≡ (two_fits N L σ x y e && sequence_fits N L st x y)
  unfolding state_fits
  of_sequence q = ap (λ (k : ℕ). state_fits N L σ xs k x y e) q

  of_until : k ≡ UNTIL → fits ≡ two_fits N L σ x y e
  unfolding state_fits
  of_until q = ap (λ (k : ℕ). state_fits N L σ xs k x y e) q

  of_union : k ≡ UNION → fits ≡ (many_fits N L σ xs x y e && (leb 2 y && unites N st false 0 xs))
  unfolding state_fits
  of_union q = ap (λ (k : ℕ). state_fits N L σ xs k x y e) q

  of_intersect : k ≡ INTERSECT → fits ≡ (many_fits N L σ xs x y e && meets N st false 0 xs)
  unfolding state_fits
  of_intersect q = ap (λ (k : ℕ). state_fits N L σ xs k x y e) q

-- ---- one or two operands

module _ (N : ℕ) (L : Limits) (t m : Table) (st : List ℕ) (n : ℕ) (xs : List ℕ) (k x y e : ℕ) where
  abbrev σ : Aut
  σ = aut t (table st n) m

  abbrev whole : Bool
  whole = state_fits N L σ xs k x y e

  one_x : one_fits N L σ x y e ≡ true → x < n
  unfolding one_fits
  one_x q = ltb-true x n (and_true _ _ q).0

  two_xy : two_fits N L σ x y e ≡ true → (x < n) × (y < n)
  unfolding two_fits
  two_xy q = let (a, b) = and_true _ _ q in (ltb-true x n a, ltb-true y n (and_true _ _ b).0)

  -- its operand is a state
  pub single_x : (k ≡ COMPLEMENT) ⊎ (k ≡ STAR) → whole ≡ true → x < n
  single_x (inl q) w = one_x (and_true (one_fits N L σ x y e) (complement_fits N L st x) (sym (of_complement N L σ xs k x y e q) ∙ w)).0
  single_x (inr q) w = one_x (and_true (one_fits N L σ x y e) (star_fits N L st x) (sym (of_star N L σ xs k x y e q) ∙ w)).0

  -- its operands are states
  pub pair_xy : ((k ≡ XOR) ⊎ (k ≡ DIFFERENCE)) ⊎ ((k ≡ SEQUENCE) ⊎ (k ≡ UNTIL)) → whole ≡ true → (x < n) × (y < n)
  pair_xy (inl (inl q)) w = two_xy (and_true (two_fits N L σ x y e) (ltb x y && not (relations st x y)) (sym (of_xor N L σ xs k x y e q) ∙ w)).0
  pair_xy (inl (inr q)) w = two_xy (and_true (two_fits N L σ x y e) (not (eqb x y) && not (relations st x y)) (sym (of_difference N L σ xs k x y e q) ∙ w)).0
  pair_xy (inr (inl q)) w = two_xy (and_true (two_fits N L σ x y e) (sequence_fits N L st x y) (sym (of_sequence N L σ xs k x y e q) ∙ w)).0
  pair_xy (inr (inr q)) w = two_xy (sym (of_until N L σ xs k x y e q) ∙ w)

-- ---- lists

module _ (N : ℕ) (L : Limits) (σ : Aut) (xs : List ℕ) (k x y e : ℕ) where
  abbrev all : Bool
  all = state_fits N L σ xs k x y e

  list_no : (k ≡ UNION) ⊎ (k ≡ INTERSECT) → many_fits N L σ xs x y e ≡ false → all ≡ false
  list_no (inl q) w = of_union N L σ xs k x y e q ∙ ap (λ (b : Bool). b && (leb 2 y && unites N σ.states.words false 0 xs)) w
  list_no (inr q) w = of_intersect N L σ xs k x y e q ∙ ap (λ (b : Bool). b && meets N σ.states.words false 0 xs) w

  -- a list that is longer than a list may be
  pub list_long : (k ≡ UNION) ⊎ (k ≡ INTERSECT) → L.list < y → all ≡ false
  unfolding many_fits
  list_long p l = list_no p (simp (lt-leb y L.list l) (and-false (eqb x σ.members.count)))

  list_below : many_fits N L σ xs x y e ≡ true → all_below σ.states.count xs ≡ true
  unfolding many_fits
  list_below q =
      let n : ℕ = σ.states.count in
      let r3 : Bool = eqb e (nest_l σ.states.words 0 xs + 1) && leb e L.nesting in
      let r2 : Bool = all_below n xs && r3 in
      let r1 : Bool = eqb (length xs) y && r2 in
      (and_true (all_below n xs) r3 (and_true (eqb (length xs) y) r2 (and_true (leb y L.list) r1 (and_true (eqb x σ.members.count) (leb y L.list && r1) q).1).1).1).0

  -- its members are states
  pub fits_below : (k ≡ UNION) ⊎ (k ≡ INTERSECT) → all ≡ true → all_below σ.states.count xs ≡ true
  fits_below (inl q) w = list_below (and_true (many_fits N L σ xs x y e) (leb 2 y && unites N σ.states.words false 0 xs) (sym (of_union N L σ xs k x y e q) ∙ w)).0
  fits_below (inr q) w = list_below (and_true (many_fits N L σ xs x y e) (meets N σ.states.words false 0 xs) (sym (of_intersect N L σ xs k x y e q) ∙ w)).0
