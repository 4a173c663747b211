-- The hypotheses of the laws can be met: tables of one field, begun, with no state yet, are in order; so what the rows of Corners.antt start from is.
use mathlib.Core.Path.{◌≡◌, refl}
use Prim.Native.Nat.{ℕ, zero, suc}
use lib.ListN.{get_or, replicate}
use Rattle.common.specs.Outcome.{given}
use Rattle.common.proofs.Follow.{given_of}
use Rattle.common.specs.Runs.{table}
use Rattle.spp_steps.specs.Model as Spp
use Rattle.spp_steps.proofs.Begin.{begun}
use Rattle.aut_steps.specs.Tables.{limits01}
use Rattle.aut_steps.specs.Wf.{WfAut}
use Rattle.aut_steps.proofs.StepSpec.{good_begun}
use Rattle.aut_steps.specs.Corners.{room}

zeros : (n j : ℕ) → ◌≡◌ {A = ℕ} (get_or (replicate n 0) j 0) 0
zeros zero j = refl
zeros (suc n) zero = refl
zeros (suc n) (suc j) = zeros n j

begins : Spp.constants 1 (table (replicate 32 0) 0) ≡ given (room 4 4).nodes (record { zero = 2; one = 3; top = 4 })
unfolding Spp.constants Spp.zeros Spp.ones Spp.tops Spp.zero_at Spp.mk Spp.seek Spp.same Spp.kid Spp.put Spp.room
begins = refl

pub in_order : WfAut 1 limits01 (room 4 4)
in_order = good_begun (replicate 48 0) (replicate 4 0) (given_of (begun 1 (replicate 32 0)) begins).wf (zeros 48)
