-- 02 (ii), "a record .. that cannot be made of those before it": what a state's record was tested for (specs/Records: `state_fits`), as facts, and back.
use Rattle.std.specs.Prelude.{if◌then◌else◌}
use mathlib.Core.Path.{◌≡◌, refl, sym, ◌∙◌, ap, ap₂, subst}
use mathlib.Core.Bool.{Bool, true, false, ◌&&◌, not}
use mathlib.Core.List.{List, [], ◌∷◌, ◌++◌}
use mathlib.Core.Logic.{◌≢◌}
use Prim.Native.Nat.{ℕ, ◌+◌, ◌≤◌, ◌<◌, max}
use native.Mathlib.Omega.{arith}
use lib.Dec.{eqb, ltb, leb}
use lib.ListN.{length}
use borrow.Author.Tests.{ltb-true, leb-true, eqb-true, eqb-false, not-true, lt-ltb, le-leb, eq-eqb, ne_eqb}
use Rattle.sp_steps.proofs.Make.{false_true}
use Rattle.aut_steps.specs.Relations as Rel
use Rattle.aut_steps.specs.Tables.{SPP, UNION, INTERSECT, XOR, DIFFERENCE, COMPLEMENT, SEQUENCE, STAR, DUP, UNTIL, TOP, kind_of, op1, Limits, Aut}
use Rattle.aut_steps.specs.Intern.{nest_l}
use Rattle.aut_steps.specs.Constructors.{relations, is_relation}
use Rattle.aut_steps.specs.Ascending.{All, Increasing}
use Rattle.aut_steps.specs.Made.{IsRelation, NotBoth, Part, Sequenced}
use Rattle.aut_steps.specs.Wf.{states, nesting, LastSpp}
use Rattle.aut_steps.proofs.Facts.{and_true, and_false}
use Rattle.image_steps.specs.Records.{depth_of_r, unites, meets, all_below, leaf_fits, constant_fits, one_fits, two_fits, many_fits, sequence_fits, star_fits, complement_fits, state_fits}

-- ---- tests

-- not of a test
pub not_is : (a : Bool) → a ≡ false → not a ≡ true
not_is a e = ap not e

pub both : {a b : Bool} → a ≡ true → b ≡ true → (a && b) ≡ true
both p q = ap₂ ◌&&◌ p q

-- the arm that is true
pub in_arm : {A : Type 0} (b : Bool) {c d : Bool} → (b ≡ true → c ≡ true → A) → (b ≡ false → d ≡ true → A) → (if b then c else d) ≡ true → A
in_arm true f g e = f refl e
in_arm false f g e = g refl e

and_not : (a b : Bool) → (a ≡ true → b ≡ true → ⊥) → (a && b) ≡ false
and_not true true f = absurd (f refl refl)
and_not true false f = refl
and_not false b f = refl

-- ---- by form

-- an SPP's words
pub record LeafRight (N : ℕ) (σ : Aut) (x y e : ℕ) : Type 0 where
  pub node : x < σ.nodes.count + 2
  pub depth : depth_of_r σ.nodes.words N x ≡ N
  pub unused : y ≡ 0
  pub nested : e ≡ 0

pub record ConstantRight (x y e : ℕ) : Type 0 where
  pub unused1 : x ≡ 0
  pub unused2 : y ≡ 0
  pub nested : e ≡ 0

pub record OneRight (L : Limits) (σ : Aut) (x y e : ℕ) : Type 0 where
  pub state : x < states σ
  pub unused : y ≡ 0
  pub nested : e ≡ nesting σ x + 1
  pub shallow : e ≤ L.nesting

pub record TwoRight (L : Limits) (σ : Aut) (x y e : ℕ) : Type 0 where
  pub state1 : x < states σ
  pub state2 : y < states σ
  pub nested : e ≡ max (nesting σ x) (nesting σ y) + 1
  pub shallow : e ≤ L.nesting

pub record ManyRight (L : Limits) (σ : Aut) (xs : List ℕ) (x y e : ℕ) : Type 0 where
  pub start : x ≡ σ.members.count
  pub few : y ≤ L.list
  pub long : length xs ≡ y
  pub earlier : All (λ z. z < states σ) xs
  pub nested : e ≡ nest_l σ.states.words 0 xs + 1
  pub shallow : e ≤ L.nesting

below_all : (n : ℕ) (xs : List ℕ) → all_below n xs ≡ true → All (λ z. z < n) xs
unfolding all_below
below_all n [] e = tt
below_all n (x ∷ xs) e = let (p, q) = and_true (ltb x n) (all_below n xs) e in (ltb-true x n p, below_all n xs q)

all_below_lem : (n : ℕ) (xs : List ℕ) → All (λ z. z < n) xs → all_below n xs ≡ true
unfolding all_below
all_below_lem n [] a = refl
all_below_lem n (x ∷ xs) a = both (lt-ltb x n a.0) (all_below_lem n xs a.1)

module _ (N : ℕ) (L : Limits) (σ : Aut) where
  leaf_right : (x y e : ℕ) → leaf_fits N L σ x y e ≡ true → LeafRight N σ x y e
  unfolding leaf_fits
  leaf_right x y e q =
      let (a, q1) = and_true (ltb x (σ.nodes.count + 2)) _ q in
      let (b, q2) = and_true (eqb (depth_of_r σ.nodes.words N x) N) _ q1 in
      let (c, d) = and_true (eqb y 0) _ q2 in
      record { node = ltb-true x _ a; depth = eqb-true _ N b; unused = eqb-true y 0 c; nested = eqb-true e 0 d }

  pub leaf_fits_lem : (x y e : ℕ) → LeafRight N σ x y e → leaf_fits N L σ x y e ≡ true
  unfolding leaf_fits
  leaf_fits_lem x y e r = both (lt-ltb x _ r.node) (both (eq-eqb _ N r.depth) (both (eq-eqb y 0 r.unused) (eq-eqb e 0 r.nested)))

  constant_right : (x y e : ℕ) → constant_fits N L x y e ≡ true → ConstantRight x y e
  constant_right x y e q =
      let (a, q1) = and_true (eqb x 0) _ q in
      let (b, c) = and_true (eqb y 0) _ q1 in
      record { unused1 = eqb-true x 0 a; unused2 = eqb-true y 0 b; nested = eqb-true e 0 c }

  pub constant_fits_lem : (x y e : ℕ) → ConstantRight x y e → constant_fits N L x y e ≡ true
  constant_fits_lem x y e r = both (eq-eqb x 0 r.unused1) (both (eq-eqb y 0 r.unused2) (eq-eqb e 0 r.nested))

  one_right : (x y e : ℕ) → one_fits N L σ x y e ≡ true → OneRight L σ x y e
  unfolding one_fits
  one_right x y e q =
      let (a, q1) = and_true (ltb x σ.states.count) _ q in
      let (b, q2) = and_true (eqb y 0) _ q1 in
      let (c, d) = and_true (eqb e (nesting σ x + 1)) _ q2 in
      record { state = ltb-true x _ a; unused = eqb-true y 0 b; nested = eqb-true e _ c; shallow = leb-true e _ d }

  pub one_fits_lem : (x y e : ℕ) → OneRight L σ x y e → one_fits N L σ x y e ≡ true
  unfolding one_fits
  one_fits_lem x y e r = both (lt-ltb x _ r.state) (both (eq-eqb y 0 r.unused) (both (eq-eqb e _ r.nested) (le-leb e _ r.shallow)))

  two_right : (x y e : ℕ) → two_fits N L σ x y e ≡ true → TwoRight L σ x y e
  unfolding two_fits
  two_right x y e q =
      let (a, q1) = and_true (ltb x σ.states.count) _ q in
      let (b, q2) = and_true (ltb y σ.states.count) _ q1 in
      let (c, d) = and_true (eqb e (max (nesting σ x) (nesting σ y) + 1)) _ q2 in
      record { state1 = ltb-true x _ a; state2 = ltb-true y _ b; nested = eqb-true e _ c; shallow = leb-true e _ d }

  pub two_fits_lem : (x y e : ℕ) → TwoRight L σ x y e → two_fits N L σ x y e ≡ true
  unfolding two_fits
  two_fits_lem x y e r = both (lt-ltb x _ r.state1) (both (lt-ltb y _ r.state2) (both (eq-eqb e _ r.nested) (le-leb e _ r.shallow)))

  many_right : (xs : List ℕ) (x y e : ℕ) → many_fits N L σ xs x y e ≡ true → ManyRight L σ xs x y e
  unfolding many_fits
  many_right xs x y e q =
      let (a, q1) = and_true (eqb x σ.members.count) _ q in
      let (b, q2) = and_true (leb y L.list) _ q1 in
      let (c, q3) = and_true (eqb (length xs) y) _ q2 in
      let (d, q4) = and_true (all_below σ.states.count xs) _ q3 in
      let (f, h) = and_true (eqb e (nest_l σ.states.words 0 xs + 1)) _ q4 in
      record { start = eqb-true x _ a; few = leb-true y _ b; long = eqb-true _ y c; earlier = below_all _ xs d; nested = eqb-true e _ f; shallow = leb-true e _ h }

  pub many_fits_lem : (xs : List ℕ) (x y e : ℕ) → ManyRight L σ xs x y e → many_fits N L σ xs x y e ≡ true
  unfolding many_fits
  many_fits_lem xs x y e r =
      both (eq-eqb x _ r.start) (both (le-leb y _ r.few) (both (eq-eqb _ y r.long) (both (all_below_lem _ xs r.earlier) (both (eq-eqb e _ r.nested) (le-leb e _ r.shallow)))))

-- ---- lists

-- a member that is left as it is when a list of kind k is opened
abbrev pub Bare : ℕ → List ℕ → ℕ → Type 0
Bare k st x = (kind_of st x ≢ k) × (kind_of st x ≢ TOP)

abbrev pub NoSpp : List ℕ → ℕ → Type 0
NoSpp st x = kind_of st x ≢ SPP

abbrev pub NoZero : ℕ → List ℕ → ℕ → Type 0
NoZero N st x = op1 st x ≢ Rel.zero_at N

-- at most one SPP, and not zero
pub data OneSpp (N : ℕ) (st xs : List ℕ) : Type 0 where
  no_spp : All (NoSpp st) xs → OneSpp N st xs
  one_spp : (ls : List ℕ) (s : ℕ) (rs : List ℕ) → xs ≡ ls ++ s ∷ rs → All (NoSpp st) ls → kind_of st s ≡ SPP → NoZero N st s → All (NoSpp st) rs → OneSpp N st xs

abbrev Spps : Bool → ℕ → List ℕ → List ℕ → Type 0
Spps true N st xs = All (NoSpp st) xs
Spps false N st xs = OneSpp N st xs

pub record UnitesRight (N : ℕ) (st : List ℕ) (seen : Bool) (lo : ℕ) (xs : List ℕ) : Type 0 where
  pub rising : Increasing lo xs
  pub bare : All (Bare UNION st) xs
  pub spps : Spps seen N st xs

module _ (N : ℕ) (st : List ℕ) where
  one_more : (x : ℕ) (xs : List ℕ) → NoSpp st x → OneSpp N st xs → OneSpp N st (x ∷ xs)
  one_more x xs n (no_spp a) = no_spp (n, a)
  one_more x xs n (one_spp ls s rs e a k z b) = one_spp (x ∷ ls) s rs (ap (λ (l : List ℕ). x ∷ l) e) (n, a) k z b

  more : (seen : Bool) (x : ℕ) (xs : List ℕ) → NoSpp st x → Spps seen N st xs → Spps seen N st (x ∷ xs)
  more true x xs n a = (n, a)
  more false x xs n a = one_more x xs n a

  first_spp : (seen : Bool) (x : ℕ) (xs : List ℕ) → not seen ≡ true → kind_of st x ≡ SPP → NoZero N st x → All (NoSpp st) xs → Spps seen N st (x ∷ xs)
  first_spp true x xs q k z a = absurd (false_true q)
  first_spp false x xs q k z a = one_spp [] x xs refl tt k z a

  unites_right : (seen : Bool) (lo : ℕ) (xs : List ℕ) → unites N st seen lo xs ≡ true → UnitesRight N st seen lo xs
  unfolding unites
  unites_right true lo [] e = record { rising = tt; bare = tt; spps = tt }
  unites_right false lo [] e = record { rising = tt; bare = tt; spps = no_spp tt }
  unites_right seen lo (x ∷ xs) e = go (λ s q. unites_right s (x + 1) xs q)
    where
      go : ((s : Bool) → unites N st s (x + 1) xs ≡ true → UnitesRight N st s (x + 1) xs) → UnitesRight N st seen lo (x ∷ xs)
      go ih =
          let (a, q1) = and_true (leb lo x) _ e in
          let (b, q2) = and_true (not (eqb (kind_of st x) UNION)) _ q1 in
          let (c, q3) = and_true (not (eqb (kind_of st x) TOP)) _ q2 in
          let l : lo ≤ x = leb-true lo x a in
          let bare : Bare UNION st x = (eqb-false (kind_of st x) UNION (not-true _ b), eqb-false (kind_of st x) TOP (not-true _ c)) in
          in_arm (eqb (kind_of st x) SPP)
          (λ k q. let (s, q4) = and_true (not seen) _ q in
          let (z, q5) = and_true (not (eqb (op1 st x) (Rel.zero_at N))) _ q4 in
          let r = ih true q5 in
          record { rising = (l, r.rising); bare = (bare, r.bare); spps = first_spp seen x xs s (eqb-true (kind_of st x) SPP k) (eqb-false (op1 st x) (Rel.zero_at N) (not-true _ z)) r.spps })
          (λ k q. let r = ih seen q in
          record { rising = (l, r.rising); bare = (bare, r.bare); spps = more seen x xs (eqb-false (kind_of st x) SPP k) r.spps })
          q3

  -- only s may be SPP, once it was seen none
  abbrev Only : Bool → ℕ → ℕ → Type 0
  Only true s x = NoSpp st x
  Only false s x = kind_of st x ≡ SPP → x ≡ s

  none_behind : (s lo : ℕ) (xs : List ℕ) → s < lo → Increasing lo xs → All (Only false s) xs → All (NoSpp st) xs
  none_behind s lo [] l r a = tt
  none_behind s lo (x ∷ xs) l r a = ((λ k. omega (arith, a.0 k, r.0)), none_behind s (x + 1) xs (omega (arith, r.0)) r.1 a.1)

  pub unites_of : (seen : Bool) (s lo : ℕ) (xs : List ℕ) → Increasing lo xs → All (Part N st UNION) xs → All (Only seen s) xs → unites N st seen lo xs ≡ true
  unfolding unites
  unites_of seen s lo [] r p a = refl
  unites_of seen s lo (x ∷ xs) r p a =
      both (le-leb lo x r.0) (both (not_is _ (ne_eqb _ _ p.0.other)) (both (not_is _ (ne_eqb _ _ p.0.no_top))
      (go (λ b. unites_of b s (x + 1) xs r.1 p.1) seen a (eqb (kind_of st x) SPP) refl)))
    where
      go : ((b : Bool) → All (Only b s) xs → unites N st b (x + 1) xs ≡ true) → (seen : Bool) → All (Only seen s) (x ∷ xs) → (b : Bool) → eqb (kind_of st x) SPP ≡ b
          → (if b then (not seen && (not (eqb (op1 st x) (Rel.zero_at N)) && unites N st true (x + 1) xs)) else unites N st seen (x + 1) xs) ≡ true
      go ih true a true k = absurd (a.0 (eqb-true (kind_of st x) SPP k))
      go ih false a true k =
          let e : kind_of st x ≡ SPP = eqb-true (kind_of st x) SPP k in
          both (not_is _ (ne_eqb _ _ (λ z. p.0.no_zero (e, z)))) (ih true (none_behind s (x + 1) xs (omega (arith, a.0 e)) r.1 a.1))
      go ih seen a false k = ih seen a.1

  -- ---- an intersection's

  pub record MeetsRight (some : Bool) (lo : ℕ) (xs : List ℕ) : Type 0 where
    pub others : List ℕ
    pub last : List ℕ
    pub parts : xs ≡ others ++ last
    pub one : some ≡ false → 1 ≤ length others
    pub rising : Increasing lo others
    pub no_spp : All (NoSpp st) others
    pub bare : All (Bare INTERSECT st) others
    pub spp_last : LastSpp st last
    pub no_zero : All (NoZero N st) last

  empty_list : (xs : List ℕ) → length xs ≡ 0 → xs ≡ []
  empty_list [] e = refl
  empty_list (x ∷ xs) e = absurd (omega arith)

  meets_right : (some : Bool) (lo : ℕ) (xs : List ℕ) → meets N st some lo xs ≡ true → MeetsRight some lo xs
  unfolding meets
  meets_right some lo [] e = record {
    others = [];
    last = [];
    parts = refl;
    one = λ q. absurd (false_true (sym q ∙ e));
    rising = tt;
    no_spp = tt;
    bare = tt;
    spp_last = tt;
    no_zero = tt;
  }
  meets_right some lo (x ∷ xs) e = go (λ q. meets_right true (x + 1) xs q)
    where
      go : (meets N st true (x + 1) xs ≡ true → MeetsRight true (x + 1) xs) → MeetsRight some lo (x ∷ xs)
      go ih =
          in_arm (eqb (kind_of st x) SPP)
          (λ k q. let (s, q1) = and_true some _ q in
          let (z, n) = and_true (not (eqb (op1 st x) (Rel.zero_at N))) _ q1 in
          let nil : xs ≡ [] = empty_list xs (eqb-true (length xs) 0 n) in
          record {
            others = [];
            last = x ∷ xs;
            parts = refl;
            one = λ f. absurd (false_true (sym f ∙ s));
            rising = tt;
            no_spp = tt;
            bare = tt;
            spp_last = (eqb-true (kind_of st x) SPP k, nil);
            no_zero = (eqb-false (op1 st x) (Rel.zero_at N) (not-true _ z), subst (All (NoZero N st)) (sym nil) tt);
          })
          (λ k q. let (l, q1) = and_true (leb lo x) _ q in
          let (b, q2) = and_true (not (eqb (kind_of st x) INTERSECT)) _ q1 in
          let (c, q3) = and_true (not (eqb (kind_of st x) TOP)) _ q2 in
          let r = ih q3 in
          record {
            others = x ∷ r.others;
            last = r.last;
            parts = ap (λ (l : List ℕ). x ∷ l) r.parts;
            one = λ f. omega arith;
            rising = (leb-true lo x l, r.rising);
            no_spp = (eqb-false (kind_of st x) SPP k, r.no_spp);
            bare = ((eqb-false (kind_of st x) INTERSECT (not-true _ b), eqb-false (kind_of st x) TOP (not-true _ c)), r.bare);
            spp_last = r.spp_last;
            no_zero = r.no_zero;
          })
          e

  pub meets_of : (some : Bool) (lo : ℕ) (others last : List ℕ) → (some ≡ false → 1 ≤ length others) → Increasing lo others → All (NoSpp st) others → All (Part N st INTERSECT) (others ++ last) → LastSpp st last
      → meets N st some lo (others ++ last) ≡ true
  unfolding meets
  meets_of true lo [] [] o r n p s = refl
  meets_of false lo [] [] o r n p s = absurd (omega (arith, o refl))
  meets_of true lo [] (x ∷ xs) o r n p s =
      ap (λ (b : Bool). if b then (not (eqb (op1 st x) (Rel.zero_at N)) && eqb (length xs) 0) else (leb lo x && (not (eqb (kind_of st x) INTERSECT) && (not (eqb (kind_of st x) TOP) && meets N st true (x + 1) xs)))) (eq-eqb (kind_of st x) SPP s.0)
      ∙ both (not_is _ (ne_eqb _ _ (λ z. p.0.no_zero (s.0, z)))) (eq-eqb (length xs) 0 (ap length s.1))
  meets_of false lo [] (x ∷ xs) o r n p s = absurd (omega (arith, o refl))
  meets_of some lo (x ∷ others) last o r n p s =
      ap (λ (b : Bool). if b then (some && (not (eqb (op1 st x) (Rel.zero_at N)) && eqb (length (others ++ last)) 0)) else (leb lo x && (not (eqb (kind_of st x) INTERSECT) && (not (eqb (kind_of st x) TOP) && meets N st true (x + 1) (others ++ last))))) (ne_eqb (kind_of st x) SPP n.0)
      ∙ both (le-leb lo x r.0) (both (not_is _ (ne_eqb _ _ p.0.other)) (both (not_is _ (ne_eqb _ _ p.0.no_top))
      (meets_of true (x + 1) others last (λ e. absurd (false_true (sym e))) r.1 n.1 p.1 s)))

-- ---- the operands of a kind

module _ (st : List ℕ) where
  pub relation_false : (x h : ℕ) → (IsRelation st x h → ⊥) → is_relation st x h ≡ false
  relation_false x h f = and_not (eqb (kind_of st x) SPP) (eqb (op1 st x) h) (λ a b. f (eqb-true _ _ a, eqb-true _ _ b))

  pub both_false : (k x y : ℕ) → NotBoth st k x y → (eqb (kind_of st x) k && eqb (kind_of st y) k) ≡ false
  both_false k x y f = and_not (eqb (kind_of st x) k) (eqb (kind_of st y) k) (λ a b. f (eqb-true _ _ a) (eqb-true _ _ b))

module _ (N : ℕ) (L : Limits) (st : List ℕ) where
  not_relation : (x h : ℕ) → not (is_relation st x h) ≡ true → IsRelation st x h → ⊥
  not_relation x h q (a, b) = and_false (eqb (kind_of st x) SPP) (eqb (op1 st x) h) (not-true _ q) (eq-eqb _ _ a) (eq-eqb _ _ b)

  not_both : (k x y : ℕ) → not (eqb (kind_of st x) k && eqb (kind_of st y) k) ≡ true → NotBoth st k x y
  not_both k x y q a b = and_false (eqb (kind_of st x) k) (eqb (kind_of st y) k) (not-true _ q) (eq-eqb _ _ a) (eq-eqb _ _ b)

  sequence_right : (x y : ℕ) → sequence_fits N L st x y ≡ true → Sequenced N st x y
  unfolding sequence_fits
  sequence_right x y q =
      let (a, q1) = and_true (not (relations st x y)) _ q in
      let (b, q2) = and_true (not (is_relation st x (Rel.one_at N))) _ q1 in
      let (c, q3) = and_true (not (is_relation st x (Rel.zero_at N))) _ q2 in
      let (d, q4) = and_true (not (is_relation st y (Rel.one_at N))) _ q3 in
      let (e, q5) = and_true (not (is_relation st y (Rel.zero_at N))) _ q4 in
      let (f, h) = and_true (not (eqb (kind_of st x) SEQUENCE)) _ q5 in
      record {
        regrouped = eqb-false (kind_of st x) SEQUENCE (not-true _ f);
        no_one1 = not_relation x (Rel.one_at N) b;
        no_zero1 = not_relation x (Rel.zero_at N) c;
        no_one2 = not_relation y (Rel.one_at N) d;
        no_zero2 = not_relation y (Rel.zero_at N) e;
        relations = not_both SPP x y a;
        tops = not_both TOP x y h;
      }

  pub sequence_fits_lem : (x y : ℕ) → Sequenced N st x y → sequence_fits N L st x y ≡ true
  unfolding sequence_fits
  sequence_fits_lem x y s =
      both (not_is _ (both_false st SPP x y s.relations)) (both (not_is _ (relation_false st x (Rel.one_at N) s.no_one1)) (both (not_is _ (relation_false st x (Rel.zero_at N) s.no_zero1))
      (both (not_is _ (relation_false st y (Rel.one_at N) s.no_one2)) (both (not_is _ (relation_false st y (Rel.zero_at N) s.no_zero2))
      (both (not_is _ (ne_eqb _ _ s.regrouped)) (not_is _ (both_false st TOP x y s.tops)))))))

  star_right : (x : ℕ) → star_fits N L st x ≡ true → (kind_of st x ≢ STAR) × (kind_of st x ≢ SPP) × (kind_of st x ≢ TOP)
  unfolding star_fits
  star_right x q =
      let (a, q1) = and_true (not (eqb (kind_of st x) STAR)) _ q in
      let (b, c) = and_true (not (eqb (kind_of st x) SPP)) _ q1 in
      (eqb-false _ _ (not-true _ a), eqb-false _ _ (not-true _ b), eqb-false _ _ (not-true _ c))

  pub star_fits_lem : (x : ℕ) → (kind_of st x ≢ STAR) × (kind_of st x ≢ SPP) × (kind_of st x ≢ TOP) → star_fits N L st x ≡ true
  unfolding star_fits
  star_fits_lem x (a, b, c) = both (not_is _ (ne_eqb _ _ a)) (both (not_is _ (ne_eqb _ _ b)) (not_is _ (ne_eqb _ _ c)))

  complement_right : (x : ℕ) → complement_fits N L st x ≡ true → (kind_of st x ≢ COMPLEMENT) × (kind_of st x ≢ TOP)
  unfolding complement_fits
  complement_right x q =
      let (a, b) = and_true (not (eqb (kind_of st x) COMPLEMENT)) _ q in
      (eqb-false _ _ (not-true _ a), eqb-false _ _ (not-true _ b))

  pub complement_fits_lem : (x : ℕ) → (kind_of st x ≢ COMPLEMENT) × (kind_of st x ≢ TOP) → complement_fits N L st x ≡ true
  unfolding complement_fits
  complement_fits_lem x (a, b) = both (not_is _ (ne_eqb _ _ a)) (not_is _ (ne_eqb _ _ b))

-- ---- a record

-- what holds of a record that fits, by its kind
pub data RecordRight (N : ℕ) (L : Limits) (σ : Aut) (xs : List ℕ) (k x y e : ℕ) : Type 0 where
  spp : k ≡ SPP → LeafRight N σ x y e → RecordRight N L σ xs k x y e
  union : k ≡ UNION → ManyRight L σ xs x y e → 2 ≤ y → UnitesRight N σ.states.words false 0 xs → RecordRight N L σ xs k x y e
  intersect : k ≡ INTERSECT → ManyRight L σ xs x y e → MeetsRight N σ.states.words false 0 xs → RecordRight N L σ xs k x y e
  xor : k ≡ XOR → TwoRight L σ x y e → x < y → NotBoth σ.states.words SPP x y → RecordRight N L σ xs k x y e
  difference : k ≡ DIFFERENCE → TwoRight L σ x y e → x ≢ y → NotBoth σ.states.words SPP x y → RecordRight N L σ xs k x y e
  complement : k ≡ COMPLEMENT → OneRight L σ x y e → kind_of σ.states.words x ≢ COMPLEMENT → kind_of σ.states.words x ≢ TOP → RecordRight N L σ xs k x y e
  sequence : k ≡ SEQUENCE → TwoRight L σ x y e → Sequenced N σ.states.words x y → RecordRight N L σ xs k x y e
  star : k ≡ STAR → OneRight L σ x y e → kind_of σ.states.words x ≢ STAR → kind_of σ.states.words x ≢ SPP → kind_of σ.states.words x ≢ TOP → RecordRight N L σ xs k x y e
  dup : k ≡ DUP → ConstantRight x y e → RecordRight N L σ xs k x y e
  until : k ≡ UNTIL → TwoRight L σ x y e → RecordRight N L σ xs k x y e
  top : k ≡ TOP → ConstantRight x y e → RecordRight N L σ xs k x y e

pub fits_right : (N : ℕ) (L : Limits) (σ : Aut) (xs : List ℕ) (k x y e : ℕ) → state_fits N L σ xs k x y e ≡ true → RecordRight N L σ xs k x y e
unfolding state_fits
fits_right N L σ xs k x y e q =
    in_arm (eqb k SPP) (λ b f. spp (eqb-true k SPP b) (leaf_right N L σ x y e f))
    (λ _ q. in_arm (eqb k UNION)
    (λ b f. let (m, h) = and_true (many_fits N L σ xs x y e) _ f in
    let (t, u) = and_true (leb 2 y) _ h in
    union (eqb-true k UNION b) (many_right N L σ xs x y e m) (leb-true 2 y t) (unites_right N σ.states.words false 0 xs u))
    (λ _ q. in_arm (eqb k INTERSECT)
    (λ b f. let (m, h) = and_true (many_fits N L σ xs x y e) _ f in
    intersect (eqb-true k INTERSECT b) (many_right N L σ xs x y e m) (meets_right N σ.states.words false 0 xs h))
    (λ _ q. in_arm (eqb k XOR)
    (λ b f. let (m, h) = and_true (two_fits N L σ x y e) _ f in
    let (l, n) = and_true (ltb x y) _ h in
    xor (eqb-true k XOR b) (two_right N L σ x y e m) (ltb-true x y l) (not_both N L σ.states.words SPP x y n))
    (λ _ q. in_arm (eqb k DIFFERENCE)
    (λ b f. let (m, h) = and_true (two_fits N L σ x y e) _ f in
    let (l, n) = and_true (not (eqb x y)) _ h in
    difference (eqb-true k DIFFERENCE b) (two_right N L σ x y e m) (eqb-false x y (not-true _ l)) (not_both N L σ.states.words SPP x y n))
    (λ _ q. in_arm (eqb k COMPLEMENT)
    (λ b f. let (m, h) = and_true (one_fits N L σ x y e) _ f in
    let (n, t) = complement_right N L σ.states.words x h in
    complement (eqb-true k COMPLEMENT b) (one_right N L σ x y e m) n t)
    (λ _ q. in_arm (eqb k SEQUENCE)
    (λ b f. let (m, h) = and_true (two_fits N L σ x y e) _ f in
    sequence (eqb-true k SEQUENCE b) (two_right N L σ x y e m) (sequence_right N L σ.states.words x y h))
    (λ _ q. in_arm (eqb k STAR)
    (λ b f. let (m, h) = and_true (one_fits N L σ x y e) _ f in
    let (n, s, t) = star_right N L σ.states.words x h in
    star (eqb-true k STAR b) (one_right N L σ x y e m) n s t)
    (λ _ q. in_arm (eqb k DUP) (λ b f. dup (eqb-true k DUP b) (constant_right N L σ x y e f))
    (λ _ q. in_arm (eqb k UNTIL) (λ b f. until (eqb-true k UNTIL b) (two_right N L σ x y e f))
    (λ _ q. in_arm (eqb k TOP) (λ b f. top (eqb-true k TOP b) (constant_right N L σ x y e f))
    (λ _ q. absurd (false_true q))
    q) q) q) q) q) q) q) q) q) q) q
