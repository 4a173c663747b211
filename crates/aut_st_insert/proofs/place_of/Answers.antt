use native.Mathlib.Omega.{arith}
use Prim.Native.Nat.{◌+◌, ◌*◌, ◌-◌}
use Rattle.aut_st_edges.proofs.Parts.{found}
use Rattle.aut_st_insert.specs.Clauses.{RESULT}
use Rattle.aut_st_insert.proofs.place_of.Goals as goal

pub returns : goal.returns
returns c = found c.args.aut.now.scratch.now RESULT c.args.m (2 * (RESULT + c.args.m) - 2 * RESULT) (omega arith) c.requires c.args.s _ c.seek_target.ensures
