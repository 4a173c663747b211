use mathlib.Core.Path.{refl}
use native.Mathlib.Omega.{arith}
use borrow.Rule.Slice.PartMut.{put_same}
use Rattle.aut_union.proofs.Gather as gather
use Rattle.aut_union.proofs.Chain as chain
use Rattle.aut_union.proofs.unite.Goals as goal

pub unite_each-requires : goal.unite_each-requires
unite_each-requires c = gather.each_ready (gather.uniting c.args.config.fields) c.requires.0 c.requires.1 (omega (arith, c.requires.2))

pub returns-in_err-p-clause-gives : goal.returns-in_err-p-clause-gives
returns-in_err-p-clause-gives c = chain.not_gathered c.requires.0 c.requires.1 c.requires.2 _ c.from_residual.ensures c.in_err-p.ensures.gives

pub add_last-requires : goal.add_last-requires
add_last-requires c = chain.add_ready c.requires.0 c.requires.1 c.requires.2 c.in_ok-p.ensures.keeps c.in_ok-p.ensures.gives c.in_ok-p.ensures.few

pub returns-in_err-l-clause-gives : goal.returns-in_err-l-clause-gives
returns-in_err-l-clause-gives c =
    chain.not_added c.requires.0 c.requires.1 c.requires.2 c.in_ok-p.ensures.keeps c.in_ok-p.ensures.gives c.in_ok-p.ensures.few _ c.from_residual-in_err-l.ensures (gather.as_state _ _ (c.is_zero.ensures _) c.then_some-relation.ensures (c.in_err-l.ensures.gives _ _))

pub sorted-r-requires : goal.sorted-r-requires
sorted-r-requires c =
    chain.sort_ready c.requires.0 c.requires.1 c.requires.2 c.in_ok-p.ensures.keeps c.in_ok-p.ensures.gives c.in_ok-p.ensures.few (gather.as_state _ _ (c.is_zero.ensures _) c.then_some-relation.ensures (c.in_ok-l.ensures.gives _ _)) c.add_last.auto.scratch

pub finish-requires : goal.finish-requires
finish-requires c =
    chain.finish_ready c.requires.0 c.requires.1 c.requires.2 c.in_ok-p.ensures.keeps c.in_ok-p.ensures.gives c.in_ok-p.ensures.few (gather.as_state _ _ (c.is_zero.ensures _) c.then_some-relation.ensures (c.in_ok-l.ensures.gives _ _)) c.add_last.auto.scratch c.sorted-r.ensures c.sorted-r.auto.scratch

pub returns-clause-gives : goal.returns-clause-gives
returns-clause-gives c =
    chain.done c.requires.0 c.requires.1 c.requires.2 c.in_ok-p.ensures.keeps c.in_ok-p.ensures.gives c.in_ok-p.ensures.few (gather.as_state _ _ (c.is_zero.ensures _) c.then_some-relation.ensures (c.in_ok-l.ensures.gives _ _)) c.add_last.auto.scratch c.sorted-r.ensures c.sorted-r.auto.scratch refl (put_same 448 _ c.sorted-r.new.scratch) c.finish.ensures.gives
