use mathlib.Core.Path.{refl}
use native.Mathlib.Omega.{arith}
use Rattle.aut_union.proofs.Gather.{each_ready}
use Rattle.aut_intersect_base.proofs.Gather.{meeting}
use Rattle.aut_intersect_base.proofs.Chain as chain
use Rattle.aut_intersect_base.proofs.meet.Goals as goal

pub meet_each-requires : goal.meet_each-requires
meet_each-requires c = each_ready (meeting c.args.config.fields) c.requires.0 c.requires.1 (omega (arith, c.requires.2))

pub returns-in_err-p-clause-gives : goal.returns-in_err-p-clause-gives
returns-in_err-p-clause-gives c = chain.not_gathered c.requires.0 c.requires.1 c.requires.2 _ c.from_residual.ensures c.in_err-p.ensures.gives

pub sorted-r-requires : goal.sorted-r-requires
sorted-r-requires c = chain.sort_ready c.requires.0 c.requires.1 c.requires.2 c.in_ok-p.ensures.keeps c.in_ok-p.ensures.gives c.in_ok-p.ensures.few

pub meet_finish-requires : goal.meet_finish-requires
meet_finish-requires c =
    chain.finish_ready c.requires.0 c.requires.1 c.requires.2 c.in_ok-p.ensures.keeps c.in_ok-p.ensures.gives c.in_ok-p.ensures.few c.sorted-r.ensures c.sorted-r.auto.scratch _ refl refl

pub returns-clause-gives : goal.returns-clause-gives
returns-clause-gives c =
    chain.done c.requires.0 c.requires.1 c.requires.2 c.in_ok-p.ensures.keeps c.in_ok-p.ensures.gives c.in_ok-p.ensures.few c.sorted-r.ensures c.sorted-r.auto.scratch _ refl refl c.meet_finish.ensures.nodes c.meet_finish.ensures.keeps.scratch.length c.meet_finish.ensures.gives
