-- 02 (ii): the depth of a handle by first children, a turn at a time: one law for packet nodes and relation nodes.
use mathlib.Core.Path.{◌≡◌, refl, ◌∙◌, ap}
use mathlib.Core.Bool.{false}
use mathlib.Core.List.{List}
use Prim.Native.Nat.{ℕ, suc, ◌+◌, ◌*◌, ◌-◌, ◌/◌, ◌≤◌, ◌<◌}
use native.Mathlib.Omega.{arith}
use lib.ListN.{get_or}
use borrow.Author.Tests.{lt-ltb, le-ltb}
use Rattle.common.specs.Runs.{Table}
use Rattle.sp_steps.specs.Model as Sp
use Rattle.sp_steps.specs.Wf as SpWf
use Rattle.spp_steps.specs.Model as Spp
use Rattle.spp_steps.specs.Wf as SppWf
use Rattle.image_steps.specs.Records.{depth_of, depth_of_r}
use Rattle.image_nodes.specs.Clauses.{relations, Inside, InsideR, PreNode}

-- 0 at 0 and 1, and one more than at the first child
pub record ByFirst (depth : ℕ → ℕ → ℕ) (first : ℕ → ℕ) : Type 0 where
  pub none : (h : ℕ) → depth 0 h ≡ 0
  pub low : (n h : ℕ) → h < 2 → depth (suc n) h ≡ 0
  pub high : (n h : ℕ) → 2 ≤ h → depth (suc n) h ≡ suc (depth n (first h))

pub of_sets : (t : List ℕ) → ByFirst (depth_of t) (λ h. get_or t (2 * (h / 2 - 1)) 0)
unfolding depth_of Sp.kid
of_sets t = record { none = λ h. refl; low = λ n h l. simp (lt-ltb h 2 l); high = λ n h l. simp (le-ltb h 2 l) }

pub of_relations : (t : List ℕ) → ByFirst (depth_of_r t) (λ h. get_or t (4 * (h - 2)) 0)
unfolding depth_of_r Spp.kid
of_relations t = record { none = λ h. refl; low = λ n h l. simp (lt-ltb h 2 l); high = λ n h l. simp (le-ltb h 2 l) }

-- the first child is within the nodes too, of which there need not be room for all
pub within_sets : (t : List ℕ) {n x : ℕ} → SpWf.Rising t n → 2 ≤ x → x / 2 ≤ n → get_or t (2 * (x / 2 - 1)) 0 / 2 ≤ n
unfolding Sp.kid
within_sets t {x = x} r l m = omega (arith, r false (x / 2 - 1) (omega arith))

pub within_relations : (t : List ℕ) {n x : ℕ} → SppWf.Rising t n → 2 ≤ x → x < n + 2 → get_or t (4 * (x - 2)) 0 < n + 2
unfolding Spp.kid
within_relations t {x = x} r l m = omega (arith, r (x - 2) (omega arith) false false)

-- .. of which there is room
pub inside_sets : {t : List ℕ} {x : ℕ} → Inside t x → 2 ≤ x → Inside t (get_or t (2 * (x / 2 - 1)) 0)
inside_sets {t = t} v l = record { count = v.count; fits = v.fits; rising = v.rising; within = within_sets t v.rising l v.within }

pub inside_relations : {t : List ℕ} {x : ℕ} → InsideR t x → 2 ≤ x → InsideR t (get_or t (4 * (x - 2)) 0)
inside_relations {t = t} v l = record { count = v.count; fits = v.fits; rising = v.rising; within = within_relations t v.rising l v.within }

-- a child before i is a handle of a node
pub inside_r : {N : ℕ} {σ : Table} {i x : ℕ} → PreNode relations N σ i → x < i + 2 → InsideR σ.words x
inside_r {σ = σ} v l = record { count = σ.count; fits = v.wf.nodes.fits; rising = v.wf.nodes.rising; within = omega (arith, v.near) }

-- d turns of n are done from h, and x is the handle reached
pub record DepthAt (depth : ℕ → ℕ → ℕ) (n h d x : ℕ) : Type 0 where
  pub is : depth n h ≡ d + depth (n - d) x

module _ {depth : ℕ → ℕ → ℕ} {first : ℕ → ℕ} (b : ByFirst depth first) {n h : ℕ} where
  module _ {d x : ℕ} (w : DepthAt depth n h d x) where
    left : d < n → n - d ≡ suc (n - (d + 1))
    left l = omega arith

    pub depth_leaf : d < n → x < 2 → d ≡ depth n h
    depth_leaf l m = let e : depth (n - d) x ≡ 0 = ap (λ (k : ℕ). depth k x) (left l) ∙ b.low (n - (d + 1)) x m in omega (arith, e, w.is)

    pub depth_again : d < n → 2 ≤ x → DepthAt depth n h (d + 1) (first x)
    depth_again l m =
        let e : depth (n - d) x ≡ suc (depth (n - (d + 1)) (first x)) = ap (λ (k : ℕ). depth k x) (left l) ∙ b.high (n - (d + 1)) x m in
        record { is = omega (arith, e, w.is) }

    pub depth_end : n ≤ d → d ≤ n → n ≡ depth n h
    depth_end l m = let e : depth (n - d) x ≡ 0 = ap (λ (k : ℕ). depth k x) {x = n - d} {y = 0} (omega arith) ∙ b.none x in omega (arith, e, w.is)
