-- What an answer says in the words of the steps, and what is asked of steps that end with a node.
use Rattle.std.specs.Prelude.{List, ℕ, ◌<◌, Option, Some, None, Result, Ok, Err}
use Rattle.common.specs.Outcome.{Outcome, refused, given}
use Rattle.common.specs.Runs.{Table}
use Rattle.spp_steps.specs.Model as M
use Rattle.spp_steps.specs.Model.{Quad}
use Rattle.spp.specs.declared.SPP.{SPP}
use Rattle.spp.specs.declared.SPPnode.{SPPnode}
use Rattle.spp.specs.declared.Full.{Full}
use Rattle.spp.specs.Clauses.{quad_of, Asked}
use Rattle.spp_sequence.specs.Parts.{Pair}

abbrev pub early_of : Option SPP → M.Early
early_of (Some h) = M.done h.0
early_of None = M.more

-- a node is made of handles of depth d
pub record NodeAsked (N d : ℕ) (σ : Table) (m : List ℕ) (hs : List ℕ) : Type 0 where
  pub asked : Asked N d σ m hs
  pub low : d < N

abbrev pub seen_row : Result SPPnode Full → Table → Outcome Table Quad
seen_row (Ok x) τ = given τ (quad_of x)
seen_row (Err e) τ = refused 21

abbrev pub seen_two : Result (SPP × SPP) Full → Table → Outcome Table Pair
seen_two (Ok (x, y)) τ = given τ (record { first = x.0; second = y.0 })
seen_two (Err e) τ = refused 21
