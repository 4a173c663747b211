-- When a result in the cache is right: the operation gives it, with no change, now and in every later store; and a kept number is the number of pairs.
-- Codes: 10 fwd, 11 bwd, 12 ifwd, 13 push, 14 pull, 15 has_image, with the set first and the relation second (fwd, bwd, ifwd: their operand twice);
-- 17 the number of pairs.
use Rattle.std.specs.Prelude.{◌≡◌, Bool, true, false, ◌⊎◌, ℕ, suc, eqb, if◌then◌else◌}
use Rattle.common.specs.Outcome.{given, Step}
use Rattle.common.specs.Runs.{Table}
use Rattle.cache.specs.Cache.{Valid, OnCodes, OnlyCodes}
use Rattle.sp_steps.specs.Reuse.{wide, SpValid, SpNoted}
use Rattle.spp_steps.specs.Model.{size}
use Rattle.spp_steps.specs.ImageModel.{Stores, fwd, bwd, ifwd, push, pull, has_image}
use Rattle.spp_steps.specs.Wf.{ValidAt}
use Rattle.spp_steps.proofs.Images.{both_theory}
use Rattle.spp_steps.specs.Reuse as Steps
use Rattle.spp_steps.proofs.Reuse as StepsLaws
use Rattle.spp_image.specs.declared.Way.{Way}
use Rattle.spp_image.specs.declared.Way.TheVariants.{Forward, Backward}

abbrev pub project_code : Way → ℕ
project_code Forward = 10
project_code Backward = 11

abbrev pub lead_code : Way → ℕ
lead_code Forward = 13
lead_code Backward = 14

-- a truth as a word
abbrev pub bit_of : Bool → ℕ
bit_of true = 1
bit_of false = 0

abbrev pub tells : (Stores → Bool) → Step Stores ℕ
tells f σ = given σ (bit_of (f σ))

-- what the operation of a code does on x and y, of depth d + 1
unfoldable pub run : ℕ → ℕ → ℕ → ℕ → ℕ → Step Stores ℕ
run N code d x y =
    if eqb code 10 then fwd (suc d) y else
    if eqb code 11 then bwd (suc d) y else
    if eqb code 12 then ifwd (suc d) x else
    if eqb code 13 then push N (suc d) x y else
    if eqb code 14 then pull N (suc d) y x else
    tells (has_image N (suc d) x y)

-- the depth is known by the set x, or by the relation y
abbrev pub depth_by : (N : ℕ) → Bool → ℕ → ℕ → Steps.Depth (both_theory N)
depth_by N true x y = StepsLaws.in_set N x
depth_by N false x y = StepsLaws.in_rel N y

-- a slot of images
abbrev pub Kept : ℕ → Stores → Valid
Kept N σ code x y r = Steps.Kept (both_theory N) (depth_by N (eqb code 12) x y) (λ d. run N code d x y) σ r

-- ---- the cache of one that does, by the operations on packet sets

-- to read: valid of packet sets' codes, and of images' codes
pub record Held (N : ℕ) (σ : Stores) (op x y r : ℕ) : Type 0 where
  pub sets : SpValid σ.sp op x y r
  pub images : OnCodes 10 15 (Kept N σ) op x y r

-- to note: a valid slot of packet sets, or of images
abbrev pub Written : (N : ℕ) (σ : Stores) → Valid
Written N σ op x y r = SpNoted σ.sp op x y r ⊎ OnlyCodes 10 15 (Kept N σ) op x y r

-- ---- numbers of pairs

pub record Counted (σ : Table) (code a b r : ℕ) : Type 0 where
  pub depth : ℕ
  pub at : ValidAt σ depth a
  pub counts : size σ.words depth a ≡ wide b r
