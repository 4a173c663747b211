-- 01, 21 (relation nodes): the law of mk. The node that is there or a new one, in a store that stays well formed; the same handle in every later store; refused with 21
-- exactly if the node is missing and no record is left.
use Rattle.std.specs.Prelude.{◌≡◌, Bool, ℕ, ◌<◌}
use Rattle.common.specs.Runs.{Table}
use Rattle.spp_steps.specs.Model.{Quad, kid}

-- ---- mk

-- no node has the children X
abbrev pub Missing : Quad → Table → Type 0
Missing X σ = (k : ℕ) → k < σ.count → ((i j : Bool) → kid σ.words k i j ≡ X i j) → ⊥
