use mathlib.Core.Path.{refl}
use Rattle.aut_union.proofs.Gather.{uniting}
use Rattle.aut_union.proofs.Gather as gather
use Rattle.aut_union.proofs.unite_each.Goals as goal

pub loop-i-init : goal.loop-i-init
loop-i-init c =
    gather.begin (uniting c.args.config.fields) c.requires _ (gather.none_united c.args.config.fields c.args.aut.now.scratch.now c.args.to c.zero.ensures) refl

pub unite_one-requires : goal.unite_one-requires
unite_one-requires c = gather.member (uniting c.args.config.fields) c.requires c.loop-i.invariant c.loop-i-test.true refl

pub returns-in_err-p-clause-gives : goal.returns-in_err-p-clause-gives
returns-in_err-p-clause-gives c =
    gather.stuck (uniting c.args.config.fields) c.requires c.loop-i.invariant c.loop-i-test.true c.from_residual.ensures c.in_err-p.ensures.gives

pub loop-i-preserved : goal.loop-i-preserved
loop-i-preserved c =
    gather.again (uniting c.args.config.fields) c.requires c.loop-i.invariant c.loop-i-test.true c.in_ok-p.ensures.keeps c.in_ok-p.ensures.gives c.in_ok-p.ensures.few

pub returns-clause-gives : goal.returns-clause-gives
returns-clause-gives c = gather.end (uniting c.args.config.fields) c.requires c.loop-i.invariant c.loop-i-test.false
