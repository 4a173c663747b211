use mathlib.Core.Path.{refl}
use Rattle.aut_delta.proofs.Entering as entering
use Rattle.aut_delta.proofs.enter_star.Goals as goal

pub relate-requires : goal.relate-requires
relate-requires c = let e = c.in_ok-e.ensures in entering.relate_ready c.requires e.keeps e.gives e.after

pub returns-clause-gives : goal.returns-clause-gives
returns-clause-gives c = let e = c.in_ok-e.ensures in entering.star_made c.requires e.keeps e.gives e.after c.in_ok-relate.ensures.keeps c.in_ok-relate.ensures.gives refl
