-- 02 (ii), "wants the same number": `mk` gives the handle of the first node with these children, so a record is right exactly if its children fit and this is its own handle; a record for which there is no room is right if it
-- would be the next.
use Rattle.std.specs.Prelude.{if◌then◌else◌}
use mathlib.Core.Path.{◌≡◌, refl, sym, ◌∙◌, ap, ap₂, subst}
use mathlib.Core.Bool.{Bool, true, false, ◌&&◌}
use mathlib.Core.List.{List}
use Prim.Native.Nat.{ℕ, ◌+◌, ◌*◌, ◌/◌, ◌%◌, ◌≤◌, ◌<◌}
use native.Mathlib.Omega.{arith}
use lib.Dec.{eqb, ltb, leb}
use borrow.Author.Tests.{eq-eqb, ne_eqb, eqb-true, ltb-false}
use Rattle.common.specs.Outcome.{Outcome, refused, given}
use Rattle.common.specs.Runs.{Table, table}
use Rattle.common.proofs.Follow.{given_same, refused≢given}
use Rattle.sp_steps.proofs.Word.{flip_zero}
use Rattle.sp_steps.specs.Model as Sp
use Rattle.spp_steps.specs.Model as Spp
use Rattle.aut_steps.proofs.Facts.{and_true}
use Rattle.image_steps.specs.Records.{depth_of, depth_of_r, kid_fits, node_fits, node, relation_fits, relation}
use Rattle.image_steps.proofs.Nodes.{seek_most, mk_at, seek_r_most}
use Rattle.image_nodes.specs.Clauses.{children_fit, quad_fits}

-- ---- for both kinds of nodes

-- what mk gives: the handle of the first node with the children, or nothing where it would be the next
pub data Got (handle : ℕ → ℕ) (first n : ℕ) : Outcome Table ℕ → Type 0 where
  got : {σ : Table} {h : ℕ} → h ≡ handle first → Got handle first n (given σ h)
  full : {number : ℕ} → first ≡ n → Got handle first n (refused number)

got_handle : {handle : ℕ → ℕ} {first n : ℕ} {o : Outcome Table ℕ} {τ : Table} {h : ℕ} → Got handle first n o → o ≡ given τ h → h ≡ handle first
got_handle (got e) q = sym (given_same q) ∙ e
got_handle (full e) q = absurd (refused≢given q)

got_none : {handle : ℕ → ℕ} {first n : ℕ} {o : Outcome Table ℕ} {number : ℕ} → Got handle first n o → o ≡ refused number → first ≡ n
got_none (got e) q = absurd (refused≢given (sym q))
got_none (full e) q = e

-- The record of node i of n comes to o: `fit` is whether its children fit, and then mk is asked.
pub record Wanted (handle : ℕ → ℕ) (n i : ℕ) (o : Outcome Table ℕ) (fit : Bool) (mk : Outcome Table ℕ) : Type 0 where
  pub first : ℕ
  pub is : o ≡ (if fit && eqb first i then mk else refused 32)
  pub gets : fit ≡ true → Got handle first n mk

module _ {handle : ℕ → ℕ} {n i : ℕ} {o : Outcome Table ℕ} {fit : Bool} {mk : Outcome Table ℕ} (w : Wanted handle n i o fit mk) where
  test : {a b : Bool} → fit ≡ a → eqb w.first i ≡ b → o ≡ (if a && b then mk else refused 32)
  test p q = w.is ∙ ap₂ (λ (a b : Bool). if a && b then mk else refused 32) p q

  pub unfit : fit ≡ false → o ≡ refused 32
  unfit p = test p refl

  module _ (p : fit ≡ true) where
    pub no_room_wrong : {number : ℕ} → mk ≡ refused number → i < n → o ≡ refused 32
    no_room_wrong q l = test p (ne_eqb w.first i (λ e. omega (arith, e, l, got_none (w.gets p) q)))

    pub no_room : {number : ℕ} → mk ≡ refused number → i ≤ n → n ≤ i → o ≡ refused number
    no_room q l m = test p (eq-eqb w.first i (omega (arith, got_none (w.gets p) q))) ∙ q

    module _ {τ : Table} {h : ℕ} (q : mk ≡ given τ h) where
      pub other : (h ≡ handle i → ⊥) → o ≡ refused 32
      other ne = test p (ne_eqb w.first i (λ e. ne (got_handle (w.gets p) q ∙ ap handle e)))

      pub same : ((a b : ℕ) → handle a ≡ handle b → a ≡ b) → h ≡ handle i → o ≡ given τ (handle i)
      same apart e = test p (eq-eqb w.first i (apart w.first i (sym (got_handle (w.gets p) q) ∙ e))) ∙ q ∙ ap (given τ) e

last : (a b c d e : Bool) → (a && (b && (c && (d && e)))) ≡ true → e ≡ true
last a b c d e p = (and_true d e (and_true c _ (and_true b _ (and_true a _ p).1).1).1).1

-- a last test more
and_last : (a b c d e f : Bool) → (a && (b && (c && (d && (e && f))))) ≡ ((a && (b && (c && (d && e)))) && f)
and_last true true true true e f = refl
and_last true true true false e f = refl
and_last true true false d e f = refl
and_last true false c d e f = refl
and_last false b c d e f = refl

-- ---- packet nodes

module _ (N : ℕ) (t : List ℕ) (n i x0 x1 : ℕ) where
  σ : Table
  σ = table t n

  seek_first : ℕ
  seek_first = Sp.seek t x0 x1 0 n

  even : children_fit N t i x0 x1 ≡ true → x0 % 2 ≡ 0
  even p = eqb-true (x0 % 2) 0 (last (leb (x0 / 2) i) (leb (x1 / 2) i) (ltb (depth_of t N x0) N) (eqb (depth_of t N x0) (depth_of t N x1)) (eqb (x0 % 2) 0) p)

  node_got : x0 % 2 ≡ 0 → Got (λ i. 2 * i + 2) seek_first n (Sp.mk x0 x1 σ)
  unfolding σ seek_first
  node_got e = subst (Got (λ i. 2 * i + 2) seek_first n) (sym (mk_at seek_first x0 x1 σ e refl)) (at_test (ltb seek_first n) refl)
    where
      at_room : n ≤ seek_first → (b : Bool) → Got (λ i. 2 * i + 2) seek_first n (Sp.put_if b 0 x0 x1 σ)
      at_room l true = got (flip_zero (2 * n + 2) ∙ omega (arith, seek_most t x0 x1 0 n))
      at_room l false = full (omega (arith, seek_most t x0 x1 0 n))

      at_test : (b : Bool) → ltb seek_first n ≡ b → Got (λ i. 2 * i + 2) seek_first n (Sp.found_if b seek_first 0 x0 x1 σ)
      at_test true y = got (flip_zero (2 * seek_first + 2))
      at_test false y = at_room (ltb-false seek_first n y) (Sp.room σ)

  pub node_wanted : Wanted (λ i. 2 * i + 2) n i (node N i x0 x1 (table t n)) (children_fit N t i x0 x1) (Sp.mk x0 x1 (table t n))
  unfolding node node_fits σ seek_first
  node_wanted = record {
    first = seek_first;
    is = ap (λ (b : Bool). if b then Sp.mk x0 x1 (table t n) else refused 32)
        (and_last (leb (x0 / 2) i) (leb (x1 / 2) i) (ltb (depth_of t N x0) N) (eqb (depth_of t N x0) (depth_of t N x1)) (eqb (x0 % 2) 0) (eqb (Sp.seek t x0 x1 0 n) i));
    gets = λ p. node_got (even p);
  }

-- ---- relation nodes

module _ (N : ℕ) (t : List ℕ) (n i : ℕ) (X : Spp.Quad) where
  seek_first_r : ℕ
  seek_first_r = Spp.seek t X 0 n

  relation_got : Got (λ i. i + 2) seek_first_r n (Spp.mk X (table t n))
  unfolding Spp.mk seek_first_r
  relation_got = at_test (ltb seek_first_r n) refl
    where
      at_room : n ≤ seek_first_r → (b : Bool) → Got (λ i. i + 2) seek_first_r n (Spp.put_if b X (table t n))
      at_room l true = got (omega (arith, seek_r_most t X 0 n))
      at_room l false = full (omega (arith, seek_r_most t X 0 n))

      at_test : (b : Bool) → ltb seek_first_r n ≡ b → Got (λ i. i + 2) seek_first_r n (Spp.found_if b seek_first_r X (table t n))
      at_test true y = got refl
      at_test false y = at_room (ltb-false seek_first_r n y) (Spp.room t n)

  pub relation_wanted : Wanted (λ i. i + 2) n i (relation N i X (table t n)) (quad_fits N t i X) (Spp.mk X (table t n))
  unfolding relation relation_fits seek_first_r
  relation_wanted = record {
    first = seek_first_r;
    is =
        let d : ℕ = depth_of_r t N (X false false) in
        ap (λ (b : Bool). if b then Spp.mk X (table t n) else refused 32)
        (and_last (ltb d N) (kid_fits N t i d (X false false)) (kid_fits N t i d (X false true)) (kid_fits N t i d (X true false)) (kid_fits N t i d (X true true)) (eqb (Spp.seek t X 0 n) i));
    gets = λ p. relation_got;
  }
