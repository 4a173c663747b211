-- 01, port order, step 2, fwd, bwd, ifwd, push, pull: push is the image of a set, pull the packets that a relation leads into a set, fwd the image of all packets, bwd
-- the packets that lead anywhere, ifwd the pairs whose second packet is in a set.
use Rattle.std.specs.Prelude.{ℕ}
use Rattle.sp_steps.specs.Wf as SpLaws
use Rattle.spp_steps.specs.ImageModel.{Stores}
use Rattle.spp_steps.specs.Wf.{Wf}

-- ---- the store of both

pub record BothWf (N : ℕ) (σ : Stores) : Type 0 where
  pub sp_wf : SpLaws.Wf N σ.sp
  pub spp_wf : Wf N σ.spp
