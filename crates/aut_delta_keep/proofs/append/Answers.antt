use mathlib.Core.Path.{refl}
use Prim.Native.Nat.{◌*◌, ◌/◌}
use native.Mathlib.Omega.{arith}
use lib.ListN.{length}
use Rattle.aut_delta_keep.proofs.Keeping as keeping
use Rattle.aut_delta_keep.proofs.append.Goals as goal

pub returns-then-end-transitions-clause-gives : goal.returns-then-end-transitions-clause-gives
returns-then-end-transitions-clause-gives c = (keeping.no_room c.args.transitions.now.words.now c.args.list.now c.args.transitions.now.count (length c.args.list.now / 2) c.then-end-transitions.either, refl)

pub returns-clause-gives : goal.returns-clause-gives
returns-clause-gives c =
    let tr = c.args.transitions.now in
    let list = c.args.list.now in
    keeping.appended tr.words.now list tr.count (length list / 2) c.if-end-transitions.false c.if-end-gt-MOST.false
    (keeping.copied tr.words.now list (2 * tr.count) c.copy.ensures.after c.requires.1 (omega (arith, c.if-end-transitions.false, c.requires.1)))
