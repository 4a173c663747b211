-- fwd and bwd are one operation in two directions, and so are push and pull.
use Rattle.std.specs.Prelude.{ℕ}
use Rattle.common.specs.Outcome.{Step, ◌>>=◌}
use Rattle.common.specs.Runs.{Table}
use Rattle.sp_steps.specs.Model as Sp
use Rattle.spp_steps.specs.Model.{Quad}
use Rattle.spp_steps.specs.ImageModel.{Stores, fwd, bwd, push, pull}
use Rattle.spp_image.specs.declared.Way.{Way}
use Rattle.spp_image.specs.declared.Way.TheVariants.{Forward, Backward}

-- the image, or the domain
abbrev pub project : Way → ℕ → ℕ → Step Stores ℕ
project Forward d r = fwd d r
project Backward d r = bwd d r

-- the image of a set, or what is led into a set
abbrev pub lead : Way → ℕ → ℕ → ℕ → ℕ → Step Stores ℕ
lead Forward N d s r = push N d s r
lead Backward N d s r = pull N d r s

-- of two, which is first in a direction, and which second
abbrev pub first : Way → ℕ → ℕ → ℕ
first Forward x y = x
first Backward x y = y

abbrev pub second : Way → ℕ → ℕ → ℕ
second Forward x y = y
second Backward x y = x

-- forward, the entries of the converse relation
abbrev pub turn : Way → Quad → Quad
turn Forward X i j = X j i
turn Backward X i j = X i j

-- the set of the union of w and x, and of the union of y and z
unfoldable pub join : ℕ → ℕ → ℕ → ℕ → ℕ → Step Table ℕ
join d w x y z = do
  x0 ← Sp.union d w x
  x1 ← Sp.union d y z
  Sp.mk x0 x1
