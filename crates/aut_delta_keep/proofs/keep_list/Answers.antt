use native.Mathlib.Omega.{arith}
use Prim.Native.Nat.{◌+◌, ◌-◌, ◌*◌}
use borrow.Rule.Slice.PartMut.{put_same}
use Rattle.std.proofs.Common.{rules}
use Rattle.refusal.proofs.Passed.{passed}
use Rattle.aut_relations.specs.Lent.{nodes_in, members_in, transitions_in}
use Rattle.aut_st_insert.specs.Clauses.{RESULT}
use Rattle.aut_delta_keep.proofs.Keeping as keeping
use Rattle.aut_delta_keep.proofs.keep_list.Goals as goal

pub returns-in_err-append-clause-keeps : goal.returns-in_err-append-clause-keeps
returns-in_err-append-clause-keeps c = search (rules, put_same (2 * RESULT) (2 * (RESULT + c.args.m) - 2 * RESULT) c.args.aut.now.scratch.now)

pub returns-in_err-append-clause-gives : goal.returns-in_err-append-clause-gives
returns-in_err-append-clause-gives c =
    keeping.stuck c.args.x (nodes_in c.args.aut.now) (members_in c.args.aut.now) (transitions_in c.args.aut.now) c.args.aut.now.states.words.now c.args.aut.now.states.count c.args.aut.now.scratch.now c.args.m c.requires.inside _ _ (passed c.from_residual.ensures) c.in_err-append.ensures.gives

pub overflow_cast-aut-2 : goal.overflow_cast-aut-2
overflow_cast-aut-2 c = omega (arith, c.in_ok-append.ensures.gives.cap, keeping.many c.args.aut.now.scratch.now c.args.m c.requires.inside)

pub returns-clause-keeps : goal.returns-clause-keeps
returns-clause-keeps c = search (rules, put_same (2 * RESULT) (2 * (RESULT + c.args.m) - 2 * RESULT) c.args.aut.now.scratch.now)

pub returns-clause-gives : goal.returns-clause-gives
returns-clause-gives c =
    keeping.stored c.args.x (nodes_in c.args.aut.now) (members_in c.args.aut.now) (transitions_in c.args.aut.now) c.args.aut.now.states.words.now c.args.aut.now.states.count c.args.aut.now.scratch.now c.args.m c.requires.inside c.in_ok-append.ensures.gives
