-- 01, port order, step 2 (spp.rs): the steps between packet sets and relations, on a store of both. fwd, bwd, push and pull make packet nodes only (20),
-- ifwd relation nodes only (21), has_image none.
use Rattle.std.specs.Prelude.{Bool, true, false, ◌||◌, ℕ, zero, suc, eqb, if◌then◌else◌}
use Rattle.common.specs.Outcome.{given, Step, return, ◌>>=◌}
use Rattle.common.specs.Runs.{Table, placed}
use Rattle.sp_steps.specs.Model as Sp
use Rattle.spp_steps.specs.Model.{Quad, quad, kids, mk, zero_at, one_at, top_at}

pub record Stores : Type 0 where
  pub sp : Table
  pub spp : Table

abbrev pub stores : Table → Table → Stores
stores s r = record { sp = s; spp = r }

-- a step on the packet sets alone, and one on the relations alone
abbrev pub on_sp : {A : Type 0} → Step Table A → Step Stores A
on_sp c σ = placed (λ s σ. stores s σ.spp) σ (c σ.sp)

abbrev pub on_spp : {A : Type 0} → Step Table A → Step Stores A
on_spp c σ = placed (λ r σ. stores σ.sp r) σ (c σ.spp)

-- a step on the children of a relation, on those of a set, and on both
abbrev pub below : (Quad → Step Stores ℕ) → ℕ → Step Stores ℕ
below body r σ = body (kids σ.spp.words r) σ

abbrev pub beneath : ((Bool → ℕ) → Step Stores ℕ) → ℕ → Step Stores ℕ
beneath body s σ = body (λ i. Sp.child σ.sp.words i s) σ

abbrev pub within : ((Bool → ℕ) → Quad → Step Stores ℕ) → ℕ → ℕ → Step Stores ℕ
within body s r σ = body (λ i. Sp.child σ.sp.words i s) (kids σ.spp.words r) σ

-- ---- the image and the domain of a relation

unfoldable pub fwd_node : ℕ → (ℕ → Step Stores ℕ) → Quad → Step Stores ℕ
fwd_node d f X = do
  f00 ← f (X false false)
  f10 ← f (X true false)
  f01 ← f (X false true)
  f11 ← f (X true true)
  x0 ← on_sp (Sp.union d f00 f10)
  x1 ← on_sp (Sp.union d f01 f11)
  on_sp (Sp.mk x0 x1)

unfoldable pub fwd : ℕ → ℕ → Step Stores ℕ
fwd zero r = return r
fwd (suc d) r = below (fwd_node d (fwd d)) r

unfoldable pub bwd_node : ℕ → (ℕ → Step Stores ℕ) → Quad → Step Stores ℕ
bwd_node d f X = do
  b00 ← f (X false false)
  b01 ← f (X false true)
  b10 ← f (X true false)
  b11 ← f (X true true)
  x0 ← on_sp (Sp.union d b00 b01)
  x1 ← on_sp (Sp.union d b10 b11)
  on_sp (Sp.mk x0 x1)

unfoldable pub bwd : ℕ → ℕ → Step Stores ℕ
bwd zero r = return r
bwd (suc d) r = below (bwd_node d (bwd d)) r

-- ---- the pairs whose second packet is in a set

unfoldable pub ifwd_node : (ℕ → Step Stores ℕ) → ℕ → ℕ → Step Stores ℕ
ifwd_node f x0 x1 = do
  x00 ← f x0
  x01 ← f x1
  on_spp (mk (quad x00 x01 x00 x01))

unfoldable pub ifwd : ℕ → ℕ → Step Stores ℕ
ifwd zero s = return s
ifwd (suc d) s = beneath (λ S. ifwd_node (ifwd d) (S false) (S true)) s

-- ---- the image of a set, and the packets that a relation leads into a set

-- A finished handle; or the set has all packets; or: go down.
pub data Led : Type 0 where
  done : ℕ → Led
  whole : Led
  more : Led

-- of the set s and the relation r; in the Rust's order, for push and for pull
unfoldable pub led_exit : ℕ → ℕ → ℕ → ℕ → Led
led_exit N d s r =
    if Sp.is_zero d s || eqb r (one_at N d) then done s else
    if eqb r (zero_at N d) then done (Sp.zero_at d) else
    if eqb r (top_at N d) then done (Sp.one_at d) else
    if Sp.is_universal d s then whole else
    more

abbrev pub lead : Led → Step Stores ℕ → Step Stores ℕ → Step Stores ℕ
lead (done h) w c σ = given σ h
lead whole w c σ = w σ
lead more w c σ = c σ

unfoldable pub push_node : ℕ → (ℕ → ℕ → Step Stores ℕ) → (Bool → ℕ) → Quad → Step Stores ℕ
push_node d f S X = do
  a ← f (S false) (X false false)
  b ← f (S true) (X true false)
  c ← f (S false) (X false true)
  e ← f (S true) (X true true)
  x0 ← on_sp (Sp.union d a b)
  x1 ← on_sp (Sp.union d c e)
  on_sp (Sp.mk x0 x1)

-- At depth 0 every exit is `done` (`led_exit_low`).
unfoldable pub push : ℕ → ℕ → ℕ → ℕ → Step Stores ℕ
push N zero s r = lead (led_exit N zero s r) (return 0) (return 0)
push N (suc d) s r = lead (led_exit N (suc d) s r) (fwd (suc d) r) (within (push_node d (push N d)) s r)

unfoldable pub pull_node : ℕ → (ℕ → ℕ → Step Stores ℕ) → Quad → (Bool → ℕ) → Step Stores ℕ
pull_node d f X S = do
  a ← f (X false false) (S false)
  b ← f (X true false) (S false)
  c ← f (X false true) (S true)
  e ← f (X true true) (S true)
  x0 ← on_sp (Sp.union d a c)
  x1 ← on_sp (Sp.union d b e)
  on_sp (Sp.mk x0 x1)

unfoldable pub pull : ℕ → ℕ → ℕ → ℕ → Step Stores ℕ
pull N zero r s = lead (led_exit N zero s r) (return 0) (return 0)
pull N (suc d) r s = lead (led_exit N (suc d) s r) (bwd (suc d) r) (within (λ S X. pull_node d (pull N d) X S) s r)

-- ---- whether a packet of a set is related to some packet

-- found out with no look at the nodes, or not
pub data Sure : Type 0 where
  sure : Bool → Sure
  unsure : Sure

unfoldable pub has_exit : ℕ → ℕ → ℕ → ℕ → Sure
has_exit N d s r =
    if Sp.is_zero d s || eqb r (zero_at N d) then sure false else
    if Sp.is_universal d s || (eqb r (one_at N d) || eqb r (top_at N d)) then sure true else
    unsure

-- At depth 0 every exit is `sure` (`has_exit_low`).
unfoldable pub has_image : ℕ → ℕ → ℕ → ℕ → Stores → Bool
has_image N zero s r σ = elim (has_exit N zero s r) [ sure b ↦ b | unsure ↦ false ]
has_image N (suc d) s r σ = elim (has_exit N (suc d) s r) [
  | sure b ↦ b
  | unsure ↦
      has_image N d (Sp.child σ.sp.words false s) (kids σ.spp.words r false false) σ
      || (has_image N d (Sp.child σ.sp.words false s) (kids σ.spp.words r false true) σ
      || (has_image N d (Sp.child σ.sp.words true s) (kids σ.spp.words r true false) σ
      || has_image N d (Sp.child σ.sp.words true s) (kids σ.spp.words r true true) σ))
]
