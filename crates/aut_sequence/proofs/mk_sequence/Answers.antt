use mathlib.Core.Path.{sym, ◌∙◌}
use native.Mathlib.Omega.{arith}
use Rattle.std.proofs.Common.{rules}
use Rattle.refusal.proofs.Passed.{passed}
use Rattle.aut_sequence.proofs.Regroup as regroup
use Rattle.aut_sequence.proofs.mk_sequence.Goals as goal

pub returns-then-not-regroups-clause-gives : goal.returns-then-not-regroups-clause-gives
returns-then-not-regroups-clause-gives c =
    regroup.as_mk c.args.config c.args.x c.args.y c.args.aut.now c.joined.new.aut c.joined.result (regroup.enough c.args.config c.args.x c.args.y (sym c.regroups.ensures ∙ c.if-not-regroups.true) c.joined.ensures.gives) (c.joined.ensures.gives c.requires.members).left

pub returns-then-not-regroups-clause-by : goal.returns-then-not-regroups-clause-by
returns-then-not-regroups-clause-by c = regroup.enough c.args.config c.args.x c.args.y (sym c.regroups.ensures ∙ c.if-not-regroups.true) c.joined.ensures.gives

pub chain_end-u-requires : goal.chain_end-u-requires
chain_end-u-requires c = regroup.walks c.requires

pub loop-z-init : goal.loop-z-init
loop-z-init c = regroup.begin c.requires (sym c.regroups.ensures ∙ c.if-not-regroups.false) c.chain_end-u.ensures (search rules)

pub joined-requires-in-loop-z : goal.joined-requires-in-loop-z
joined-requires-in-loop-z c = regroup.joined_ready c.loop-z.invariant

pub returns-in_err-z-clause-gives : goal.returns-in_err-z-clause-gives
returns-in_err-z-clause-gives c = regroup.stuck_all c.loop-z.invariant c.in_err-z.ensures.gives (passed c.from_residual.ensures)

pub returns-in_err-z-clause-by : goal.returns-in_err-z-clause-by
returns-in_err-z-clause-by c = regroup.stuck c.loop-z.invariant c.in_err-z.ensures.gives (passed c.from_residual.ensures)

pub returns-then-u-x-clause-gives : goal.returns-then-u-x-clause-gives
returns-then-u-x-clause-gives c = regroup.done_all c.loop-z.invariant c.in_ok-z.ensures.gives c.if-u-x.true

pub returns-then-u-x-clause-by : goal.returns-then-u-x-clause-by
returns-then-u-x-clause-by c = regroup.done c.loop-z.invariant c.in_ok-z.ensures.gives c.if-u-x.true

pub link_to-u-requires : goal.link_to-u-requires
link_to-u-requires c = regroup.link_ready c.loop-z.invariant c.in_ok-z.ensures.gives c.if-u-x.false

pub first-e-requires : goal.first-e-requires
first-e-requires c = regroup.first_ready c.loop-z.invariant c.in_ok-z.ensures.gives c.if-u-x.false c.link_to-u.ensures

pub loop-z-smaller : goal.loop-z-smaller
loop-z-smaller c =
    let f = regroup.fewer c.loop-z.invariant c.in_ok-z.ensures.gives c.if-u-x.false c.link_to-u.ensures in omega (arith, f.0, f.1)

pub loop-z-preserved : goal.loop-z-preserved
loop-z-preserved c =
    regroup.again c.loop-z.invariant c.in_ok-z.ensures.gives c.if-u-x.false c.link_to-u.ensures c.first-e.ensures (search rules) (c.in_ok-z.ensures.members ∙ c.loop-z.invariant.same) c.in_ok-z.ensures.keeps
