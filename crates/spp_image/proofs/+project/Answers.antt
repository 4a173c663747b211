use mathlib.Core.Path.{refl}
use native.Mathlib.Omega.{arith}
use Rattle.cache.proofs.Cache.{notes_refl}
use Rattle.spp_image.proofs.Turn as turn
use Rattle.spp_image.proofs.ProjectTurn as pt
use Rattle.spp_image.proofs.+project.Goals as goal

pub returns-then-depth-eq0-clause-answer : goal.returns-then-depth-eq0-clause-answer
returns-then-depth-eq0-clause-answer t c = record { gives = pt.flat c.args.way c.args.depth c.args.r.0 _ c.if-depth-eq0.true; notes = notes_refl }

pub returns-in-Some-clause-answer : goal.returns-in-Some-clause-answer
returns-in-Some-clause-answer t c = record { gives = pt.hit c.args.way c.requires c.if-depth-eq0.false c.project_code-code.ensures c.in-Some.ensures; notes = notes_refl }

pub get-node-requires : goal.get-node-requires
get-node-requires t c = pt.inside c.args.way c.requires c.if-depth-eq0.false

pub project-requires : goal.project-requires
project-requires t c =
    let T = pt.turning c.args.way c.requires c.if-depth-eq0.false c.turned-q.ensures c.get-node.ensures in
    (omega (arith, c.decreases, c.if-depth-eq0.false), turn.ready_1 T)

pub returns-in_err-w-clause-answer : goal.returns-in_err-w-clause-answer
returns-in_err-w-clause-answer t c =
    let T = pt.turning c.args.way c.requires c.if-depth-eq0.false c.turned-q.ensures c.get-node.ensures in
    turn.stopped c.from_residual.ensures.0 (turn.lost_1 T c.in_err-w.ensures.answer.gives)

pub project-requires-2 : goal.project-requires-2
project-requires-2 t c =
    let T = pt.turning c.args.way c.requires c.if-depth-eq0.false c.turned-q.ensures c.get-node.ensures in
    (omega (arith, c.decreases, c.if-depth-eq0.false), turn.ready_2 T c.in_ok-w.ensures.answer)

pub returns-in_err-x-clause-answer : goal.returns-in_err-x-clause-answer
returns-in_err-x-clause-answer t c =
    let T = pt.turning c.args.way c.requires c.if-depth-eq0.false c.turned-q.ensures c.get-node.ensures in
    turn.stopped c.from_residual-in_err-x.ensures.0 (turn.lost_2 T c.in_ok-w.ensures.answer c.in_err-x.ensures.answer.gives)

pub project-requires-3 : goal.project-requires-3
project-requires-3 t c =
    let T = pt.turning c.args.way c.requires c.if-depth-eq0.false c.turned-q.ensures c.get-node.ensures in
    (omega (arith, c.decreases, c.if-depth-eq0.false), turn.ready_3 T c.in_ok-w.ensures.answer c.in_ok-x.ensures.answer)

pub returns-in_err-y-clause-answer : goal.returns-in_err-y-clause-answer
returns-in_err-y-clause-answer t c =
    let T = pt.turning c.args.way c.requires c.if-depth-eq0.false c.turned-q.ensures c.get-node.ensures in
    turn.stopped c.from_residual-in_err-y.ensures.0 (turn.lost_3 T c.in_ok-w.ensures.answer c.in_ok-x.ensures.answer c.in_err-y.ensures.answer.gives)

pub project-requires-4 : goal.project-requires-4
project-requires-4 t c =
    let T = pt.turning c.args.way c.requires c.if-depth-eq0.false c.turned-q.ensures c.get-node.ensures in
    (omega (arith, c.decreases, c.if-depth-eq0.false), turn.ready_4 T c.in_ok-w.ensures.answer c.in_ok-x.ensures.answer c.in_ok-y.ensures.answer)

pub returns-in_err-z-clause-answer : goal.returns-in_err-z-clause-answer
returns-in_err-z-clause-answer t c =
    let T = pt.turning c.args.way c.requires c.if-depth-eq0.false c.turned-q.ensures c.get-node.ensures in
    turn.stopped c.from_residual-in_err-z.ensures.0 (turn.lost_4 T c.in_ok-w.ensures.answer c.in_ok-x.ensures.answer c.in_ok-y.ensures.answer c.in_err-z.ensures.answer.gives)

pub join-requires : goal.join-requires
join-requires t c =
    let T = pt.turning c.args.way c.requires c.if-depth-eq0.false c.turned-q.ensures c.get-node.ensures in
    turn.join_ready T c.in_ok-w.ensures.answer c.in_ok-x.ensures.answer c.in_ok-y.ensures.answer c.in_ok-z.ensures.answer refl refl

pub returns-in_err-h-clause-answer : goal.returns-in_err-h-clause-answer
returns-in_err-h-clause-answer t c =
    let T = pt.turning c.args.way c.requires c.if-depth-eq0.false c.turned-q.ensures c.get-node.ensures in
    turn.stopped c.from_residual-in_err-h.ensures.0 (turn.lost_5 T c.in_ok-w.ensures.answer c.in_ok-x.ensures.answer c.in_ok-y.ensures.answer c.in_ok-z.ensures.answer refl refl c.in_err-h.ensures.answer.gives)

pub returns-clause-answer : goal.returns-clause-answer
returns-clause-answer t c =
    let T = pt.turning c.args.way c.requires c.if-depth-eq0.false c.turned-q.ensures c.get-node.ensures in
    pt.noted c.args.way c.requires c.if-depth-eq0.false c.project_code-code.ensures (turn.done T c.in_ok-w.ensures.answer c.in_ok-x.ensures.answer c.in_ok-y.ensures.answer c.in_ok-z.ensures.answer refl refl c.in_ok-h.ensures.answer) c.note.ensures
