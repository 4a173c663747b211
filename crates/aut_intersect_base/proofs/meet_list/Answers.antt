use mathlib.Core.Path.{refl}
use borrow.Rule.Slice.PartMut.{put_same}
use Rattle.aut_scratch.specs.declared.TheConstants.{SORTED}
use Rattle.aut_intersect_base.proofs.Gather as gather
use Rattle.aut_intersect_base.proofs.meet_list.Goals as goal

pub add_last-requires : goal.add_last-requires
add_last-requires c = gather.add_ready c.requires

pub returns-in_err-m-clause-gives : goal.returns-in_err-m-clause-gives
returns-in_err-m-clause-gives c = gather.not_listed c.requires c.from_residual.ensures c.in_err-m.ensures.gives refl

pub intern_list-requires : goal.intern_list-requires
intern_list-requires c = gather.list_ready c.requires c.in_ok-m.ensures.gives c.add_last.auto.scratch

pub returns-clause-gives : goal.returns-clause-gives
returns-clause-gives c =
    gather.listed c.requires c.in_ok-m.ensures.gives c.add_last.auto.scratch refl (put_same SORTED _ c.add_last.new.scratch) c.intern_list.ensures.gives
