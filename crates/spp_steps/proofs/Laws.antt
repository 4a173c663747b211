-- What holds of the definitions of specs/Wf.
use mathlib.Core.Path.{◌≡◌, refl, sym, ◌∙◌, ap, subst, fun_ext}
use mathlib.Core.Bool.{Bool, true, false}
use Prim.Native.Nat.{ℕ, zero, suc, ◌+◌, ◌*◌, ◌-◌, ◌≤◌, ◌<◌}
use native.Mathlib.Omega.{arith}
use native.Mathlib.Nat.{le_trans}
use lib.Dec.{eqb}
use borrow.Author.Tests.{eqb-true}
use Rattle.common.specs.Packets.{Packet, end, bit, Relation}
use Rattle.common.specs.Runs.{Table, Theory}
pub use Rattle.sp_steps.proofs.Make.{false_true, by_test}
use Rattle.spp_steps.specs.Model.{quad, kid, kids, mem, zero_at, one_at, top_at}
use Rattle.common.specs.Relations.{same as samePacket}
use Rattle.spp_steps.specs.Relations.{part, equal}
use Rattle.spp_steps.specs.Wf.{Ext, ValidAt, Nodes, Fixed, Level, Wf, Denotes}

pub ext_refl : (σ : Table) → Ext σ σ
ext_refl σ = record { more = omega arith; len = refl; keep = λ k l i j. refl; beyond = λ k l. refl }

pub ext_trans : {σ τ υ : Table} → Ext σ τ → Ext τ υ → Ext σ υ
ext_trans e f = record {
  more = le_trans e.more f.more;
  len = f.len ∙ e.len;
  keep = λ k l i j. f.keep k (le_trans l e.more) i j ∙ e.keep k l i j;
  beyond = λ k l. f.beyond k l ∙ e.beyond k (omega (arith, f.more));
}

-- relations of N fields, as a kind of store
abbrev pub spp_theory : ℕ → Theory
spp_theory N = record { Store = Table; Wf = Wf N; Ext = Ext; ext_refl = ext_refl; ext_trans = λ σ τ υ. ext_trans }

-- ---- old handles

pub kids_ext : {σ τ : Table} → Ext σ τ → (h : ℕ) → 2 ≤ h → h < σ.count + 2 → (i j : Bool) → kids τ.words h i j ≡ kids σ.words h i j
unfolding kids
kids_ext e h l m i j = e.keep (h - 2) (omega arith) i j

pub kids_path : {σ τ : Table} → Ext σ τ → (d h : ℕ) → ValidAt σ (suc d) h → kids τ.words h ≡ kids σ.words h
kids_path e d h a = fun_ext (λ i. fun_ext (λ j. kids_ext e h a.0 a.1 i j))

pub at_ext : {σ τ : Table} → Ext σ τ → (d h : ℕ) → ValidAt σ d h → ValidAt τ d h
at_ext e zero h a = a
at_ext {τ} e (suc d) h a =
    (a.0, omega (arith, a.1, e.more), λ i j. subst (ValidAt τ d) (sym (kids_ext e h a.0 a.1 i j)) (at_ext e d _ (a.2 i j)))

-- what a store has, a later one has
pub fixed_ext : {N : ℕ} {σ τ : Table} → Fixed N σ → Ext σ τ → Fixed N τ
fixed_ext w e = record {
  many = le_trans w.many e.more;
  zeros = λ d l i j. e.keep d (omega (arith, w.many)) i j ∙ w.zeros d l i j;
  ones = λ d l i j. e.keep _ (omega (arith, w.many)) i j ∙ w.ones d l i j;
  tops = λ d l i j. e.keep _ (omega (arith, w.many)) i j ∙ w.tops d l i j;
}

pub level_ext : {N : ℕ} {σ τ : Table} (k : ℕ) → Ext σ τ → k < σ.count → Level N σ k → Level N τ k
level_ext {τ} k e l v = record {
  depth = v.depth;
  low = v.low;
  children = λ i j. subst (ValidAt τ v.depth) (sym (e.keep k l i j)) (at_ext e v.depth _ (v.children i j));
}

pub mem_ext : {σ τ : Table} → Ext σ τ → (d h : ℕ) (p q : Packet d) → ValidAt σ d h → mem τ.words d h p q ≡ mem σ.words d h p q
unfolding mem
mem_ext e zero h end end a = refl
mem_ext {τ} e (suc d) h (bit i p) (bit j q) a =
    ap (λ (k : ℕ). mem τ.words d k p q) (kids_ext e h a.0 a.1 i j) ∙ mem_ext e d _ p q (a.2 i j)

pub den_ext : {σ τ : Table} {d h : ℕ} {R : Relation d} → Ext σ τ → Denotes σ d h R → Denotes τ d h R
den_ext {d} {h} e x = record { at = at_ext e d h x.at; means = λ p q. mem_ext e d h p q x.at ∙ x.means p q }

pub den_is : {σ : Table} {d h : ℕ} {R S : Relation d} → Denotes σ d h R → ((p q : Packet d) → R p q ≡ S p q) → Denotes σ d h S
den_is x f = record { at = x.at; means = λ p q. x.means p q ∙ f p q }

pub den_kid : {σ : Table} {d h : ℕ} {R : Relation (suc d)} → Denotes σ (suc d) h R → (i j : Bool) → Denotes σ d (kids σ.words h i j) (part R i j)
unfolding mem
den_kid x i j = record { at = x.at.2 i j; means = λ p q. x.means (bit i p) (bit j q) }

-- what a handle means is a relation that it means
pub den_mem : {σ : Table} {d h : ℕ} → ValidAt σ d h → Denotes σ d h (mem σ.words d h)
den_mem a = record { at = a; means = λ p q. refl }

-- a handle above depth 0 that has these children
pub den_node : {σ : Table} {d h : ℕ} {R : Relation (suc d)} → 2 ≤ h → h < σ.count + 2 → ((i j : Bool) → Denotes σ d (kids σ.words h i j) (part R i j)) → Denotes σ (suc d) h R
unfolding mem
den_node {σ} {d} {h} {R} l m D = record { at = (l, m, λ i j. (D i j).at); means = means }
  where
    means : (p q : Packet (suc d)) → mem σ.words (suc d) h p q ≡ R p q
    means (bit i p) (bit j q) = (D i j).means p q

-- ---- one handle for a relation

bit_eq : (x y : ℕ) → x < 2 → y < 2 → eqb x 1 ≡ eqb y 1 → x ≡ y
bit_eq zero zero l m e = refl
bit_eq zero (suc zero) l m e = absurd (false_true e)
bit_eq (suc zero) zero l m e = absurd (false_true (sym e))
bit_eq (suc zero) (suc zero) l m e = refl
bit_eq zero (suc (suc y)) l m e = absurd (omega arith)
bit_eq (suc zero) (suc (suc y)) l m e = absurd (omega arith)
bit_eq (suc (suc x)) y l m e = absurd (omega arith)

at_lt : {n : ℕ} (h : ℕ) → 2 ≤ h → h < n + 2 → h - 2 < n
at_lt h l m = omega arith

back : (x y : ℕ) → 2 ≤ x → 2 ≤ y → x - 2 ≡ y - 2 → x ≡ y
back x y l m e = omega arith

-- two handles of one depth with the same pairs are one handle
pub canonical : {σ : Table} → Nodes σ → (d x y : ℕ) → ValidAt σ d x → ValidAt σ d y → ((p q : Packet d) → mem σ.words d x p q ≡ mem σ.words d y p q) → x ≡ y
unfolding mem kids
canonical n zero x y a b e = bit_eq x y a b (e end end)
canonical n (suc d) x y a b e =
    back x y a.0 b.0 (n.once _ _ (at_lt x a.0 a.1) (at_lt y b.0 b.1) (λ i j. canonical n d _ _ (a.2 i j) (b.2 i j) (λ p q. e (bit i p) (bit j q))))

pub den_same : {N : ℕ} {σ : Table} {d x y : ℕ} {R S : Relation d} → Wf N σ → Denotes σ d x R → Denotes σ d y S → ((p q : Packet d) → R p q ≡ S p q) → x ≡ y
den_same {d} {x} {y} w a b e = canonical w.nodes d x y a.at b.at (λ p q. a.means p q ∙ e p q ∙ sym (b.means p q))

-- one handle means one relation
pub agree : {σ : Table} {d x y : ℕ} {R S : Relation d} → Denotes σ d x R → Denotes σ d y S → x ≡ y → (p q : Packet d) → R p q ≡ S p q
agree {σ} {d} {S} X Y e p q = sym (X.means p q) ∙ (subst (λ (k : ℕ). Denotes σ d k S) (sym e) Y).means p q

pub agree_path : {σ : Table} {d x y : ℕ} {R S : Relation d} → Denotes σ d x R → Denotes σ d y S → eqb x y ≡ true → R ≡ S
agree_path {x} {y} X Y e = fun_ext (λ p. fun_ext (λ q. agree X Y (eqb-true x y e) p q))

-- a handle has one depth
pub one_depth : (σ : Table) (d e h : ℕ) → ValidAt σ d h → ValidAt σ e h → d ≡ e
one_depth σ zero zero h a b = refl
one_depth σ zero (suc e) h a b = absurd (omega arith)
one_depth σ (suc d) zero h a b = absurd (omega arith)
one_depth σ (suc d) (suc e) h a b = ap suc (one_depth σ d e _ (a.2 false false) (b.2 false false))

-- a handle is below the number of nodes and the two of depth 0
pub at_below : (σ : Table) (d h : ℕ) → ValidAt σ d h → h < σ.count + 2
at_below σ zero h a = omega arith
at_below σ (suc d) h a = a.1

-- the depth below that of a handle with children is below N
pub at_low : {N : ℕ} {σ : Table} → Wf N σ → (d h : ℕ) → ValidAt σ (suc d) h → d < N
unfolding kids
at_low {σ} w d h a = let v = w.level (h - 2) (at_lt h a.0 a.1) in omega (arith, v.low, one_depth σ d v.depth _ (a.2 false false) (v.children false false))

-- ---- the constants

-- the fixed handles above depth 0
pub zero_at_above : (N d : ℕ) → 0 < d → zero_at N d ≡ d + 1
unfolding zero_at
zero_at_above N zero l = absurd (omega arith)
zero_at_above N (suc d) l = refl

pub one_at_above : (N d : ℕ) → 0 < d → one_at N d ≡ N + d + 1
unfolding one_at
one_at_above N zero l = absurd (omega arith)
one_at_above N (suc d) l = refl

pub top_at_above : (N d : ℕ) → 0 < d → top_at N d ≡ 2 * N + d + 1
unfolding top_at
top_at_above N zero l = absurd (omega arith)
top_at_above N (suc d) l = refl

module _ {N : ℕ} {σ : Table} (w : Fixed N σ) where
  -- the handle h + 2 of a constant: its node is at h
  at_node : (d k : ℕ) (R : Relation (suc d)) → k < σ.count → ((i j : Bool) → Denotes σ d (kid σ.words k i j) (part R i j)) → Denotes σ (suc d) (k + 2) R
  unfolding kids
  at_node d k R l D =
      den_node (omega arith) (omega arith) (λ i j. subst (λ (m : ℕ). Denotes σ d (kid σ.words m i j) (part R i j)) {x = k} (omega arith) (D i j))

  pub zero_den : (d : ℕ) → d ≤ N → Denotes σ d (zero_at N d) (λ p q. false)
  unfolding zero_at mem
  zero_den zero l = record { at = omega arith; means = low }
    where
      low : (p q : Packet zero) → mem σ.words zero 0 p q ≡ false
      low end end = refl
  zero_den (suc d) l =
      subst (λ (h : ℕ). Denotes σ (suc d) h (λ p q. false)) {x = d + 2} (omega arith)
      (at_node d d (λ p q. false) (omega (arith, w.many)) (λ i j. subst (λ (h : ℕ). Denotes σ d h (λ p q. false)) (sym (w.zeros d l i j)) (zero_den d (omega arith))))

  pub top_den : (d : ℕ) → d ≤ N → Denotes σ d (top_at N d) (λ p q. true)
  unfolding top_at mem
  top_den zero l = record { at = omega arith; means = low }
    where
      low : (p q : Packet zero) → mem σ.words zero 1 p q ≡ true
      low end end = refl
  top_den (suc d) l =
      subst (λ (h : ℕ). Denotes σ (suc d) h (λ p q. true)) {x = 2 * N + d + 2} (omega arith)
      (at_node d (2 * N + d) (λ p q. true) (omega (arith, w.many)) (λ i j. subst (λ (h : ℕ). Denotes σ d h (λ p q. true)) (sym (w.tops d l i j)) (top_den d (omega arith))))

  pub one_den : (d : ℕ) → d ≤ N → Denotes σ d (one_at N d) equal
  unfolding one_at mem samePacket
  one_den zero l = record { at = omega arith; means = low }
    where
      low : (p q : Packet zero) → mem σ.words zero 1 p q ≡ equal p q
      low end end = refl
  one_den (suc d) l =
      subst (λ (h : ℕ). Denotes σ (suc d) h equal) {x = N + d + 2} (omega arith)
      (at_node d (N + d) equal (omega (arith, w.many)) (λ i j. subst (λ (h : ℕ). Denotes σ d h (part equal i j)) (sym (w.ones d l i j)) (entry (one_den d (omega arith)) i j)))
    where
      entry : Denotes σ d (one_at N d) equal → (i j : Bool) → Denotes σ d (quad (one_at N d) (zero_at N d) (zero_at N d) (one_at N d) i j) (part equal i j)
      entry x false false = x
      entry x false true = zero_den d (omega arith)
      entry x true false = zero_den d (omega arith)
      entry x true true = x

module _ {N : ℕ} {σ : Table} (w : Wf N σ) where
  pub den_zero : (d : ℕ) → d ≤ N → Denotes σ d (zero_at N d) (λ p q. false)
  den_zero = zero_den w.fixed

  pub den_top : (d : ℕ) → d ≤ N → Denotes σ d (top_at N d) (λ p q. true)
  den_top = top_den w.fixed

  pub den_one : (d : ℕ) → d ≤ N → Denotes σ d (one_at N d) equal
  den_one = one_den w.fixed
