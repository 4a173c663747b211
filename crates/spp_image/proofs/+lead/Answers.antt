use Prim.Native.Nat.{ℕ, ◌-◌}
use native.Mathlib.Omega.{arith}
use Rattle.cache.proofs.Cache.{notes_refl}
use Rattle.sp.specs.Clauses.{store_of}
use Rattle.spp.specs.Clauses.{view_of}
use Rattle.spp_steps.specs.ImageModel.{stores}
use Rattle.spp_image.specs.Ways.{lead}
use Rattle.spp_image.proofs.Turn as turn
use Rattle.spp_image.proofs.Turn.{Turn}
use Rattle.spp_image.proofs.LeadTurn as lt
use Rattle.spp_image.proofs.+lead.Goals as goal
use Rattle.spp_image.proofs.+lead.Goals.{After-paired-mid}

pub returns-in-Done-clause-answer : goal.returns-in-Done-clause-answer
returns-in-Done-clause-answer t c = record { gives = lt.out c.args.way c.args.spp.fields c.args.depth c.args.s.0 c.args.r.0 _ _ c.in-Done.ensures; notes = notes_refl }

pub returns-in-Whole-clause-answer : goal.returns-in-Whole-clause-answer
returns-in-Whole-clause-answer t c = lt.as_whole c.args.way c.requires c.in-Whole.ensures c.project.ensures.answer

pub returns-in-Some-clause-answer : goal.returns-in-Some-clause-answer
returns-in-Some-clause-answer t c = record { gives = lt.hit c.args.way c.requires c.in-More.ensures c.lead_code-code.ensures c.in-Some.ensures; notes = notes_refl }

pub get-p-requires : goal.get-p-requires
get-p-requires t c = lt.inner c.args.way c.requires c.in-More.ensures

pub get-q-requires : goal.get-q-requires
get-q-requires t c = lt.inside c.args.way c.requires c.in-More.ensures

pub overflow_sub-below : goal.overflow_sub-below
overflow_sub-below t c = lt.deeper c.args.way c.requires c.in-More.ensures

abbrev turning : {t : ℕ} (c : After-paired-mid t) → Turn c.args.spp.fields (c.args.depth - 1) (lead c.args.way c.args.spp.fields c.args.depth c.args.s.0 c.args.r.0) (stores (store_of c.args.sets.now) (view_of c.args.spp)) c.args.cache.now
turning c = lt.turning c.args.way c.requires c.in-More.ensures c.get-p.ensures c.get-q.ensures c.paired-mid.ensures.0 c.paired-mid.ensures.1

pub lead-requires : goal.lead-requires
lead-requires t c =
    (omega (arith, c.decreases, lt.deeper c.args.way c.requires c.in-More.ensures), turn.ready_1 (turning (goal.at.lead-requires t c).After-paired-mid))

pub returns-in_err-a-in-More-clause-answer : goal.returns-in_err-a-in-More-clause-answer
returns-in_err-a-in-More-clause-answer t c =
    turn.stopped c.from_residual.ensures.0 (turn.lost_1 (turning (goal.at.returns-in_err-a-in-More-clause-answer t c).After-paired-mid) c.in_err-a-in-More.ensures.answer.gives)

pub lead-requires-in-More : goal.lead-requires-in-More
lead-requires-in-More t c =
    (omega (arith, c.decreases, lt.deeper c.args.way c.requires c.in-More.ensures), turn.ready_2 (turning (goal.at.lead-requires-in-More t c).After-paired-mid) c.in_ok-a-in-More.ensures.answer)

pub returns-in_err-b-in-More-clause-answer : goal.returns-in_err-b-in-More-clause-answer
returns-in_err-b-in-More-clause-answer t c =
    turn.stopped c.from_residual-in_err-b-in-More.ensures.0 (turn.lost_2 (turning (goal.at.returns-in_err-b-in-More-clause-answer t c).After-paired-mid) c.in_ok-a-in-More.ensures.answer c.in_err-b-in-More.ensures.answer.gives)

pub lead-requires-in-More-2 : goal.lead-requires-in-More-2
lead-requires-in-More-2 t c =
    (omega (arith, c.decreases, lt.deeper c.args.way c.requires c.in-More.ensures), turn.ready_3 (turning (goal.at.lead-requires-in-More-2 t c).After-paired-mid) c.in_ok-a-in-More.ensures.answer c.in_ok-b-in-More.ensures.answer)

pub returns-in_err-c-in-More-clause-answer : goal.returns-in_err-c-in-More-clause-answer
returns-in_err-c-in-More-clause-answer t c =
    turn.stopped c.from_residual-in_err-c-in-More.ensures.0 (turn.lost_3 (turning (goal.at.returns-in_err-c-in-More-clause-answer t c).After-paired-mid) c.in_ok-a-in-More.ensures.answer c.in_ok-b-in-More.ensures.answer c.in_err-c-in-More.ensures.answer.gives)

pub lead-requires-in-More-3 : goal.lead-requires-in-More-3
lead-requires-in-More-3 t c =
    (omega (arith, c.decreases, lt.deeper c.args.way c.requires c.in-More.ensures), turn.ready_4 (turning (goal.at.lead-requires-in-More-3 t c).After-paired-mid) c.in_ok-a-in-More.ensures.answer c.in_ok-b-in-More.ensures.answer c.in_ok-c-in-More.ensures.answer)

pub returns-in_err-d-in-More-clause-answer : goal.returns-in_err-d-in-More-clause-answer
returns-in_err-d-in-More-clause-answer t c =
    turn.stopped c.from_residual-in_err-d-in-More.ensures.0 (turn.lost_4 (turning (goal.at.returns-in_err-d-in-More-clause-answer t c).After-paired-mid) c.in_ok-a-in-More.ensures.answer c.in_ok-b-in-More.ensures.answer c.in_ok-c-in-More.ensures.answer c.in_err-d-in-More.ensures.answer.gives)

pub join-requires : goal.join-requires
join-requires t c =
    turn.join_ready (turning (goal.at.join-requires t c).After-paired-mid) c.in_ok-a-in-More.ensures.answer c.in_ok-b-in-More.ensures.answer c.in_ok-c-in-More.ensures.answer c.in_ok-d-in-More.ensures.answer c.paired-ends.ensures.0 c.paired-ends.ensures.1

pub returns-in_err-h-in-More-clause-answer : goal.returns-in_err-h-in-More-clause-answer
returns-in_err-h-in-More-clause-answer t c =
    turn.stopped c.from_residual-in_err-h-in-More.ensures.0 (turn.lost_5 (turning (goal.at.returns-in_err-h-in-More-clause-answer t c).After-paired-mid) c.in_ok-a-in-More.ensures.answer c.in_ok-b-in-More.ensures.answer c.in_ok-c-in-More.ensures.answer c.in_ok-d-in-More.ensures.answer c.paired-ends.ensures.0 c.paired-ends.ensures.1 c.in_err-h-in-More.ensures.answer.gives)

pub returns-in_ok-h-in-More-clause-answer : goal.returns-in_ok-h-in-More-clause-answer
returns-in_ok-h-in-More-clause-answer t c =
    let s = turn.done (turning (goal.at.returns-in_ok-h-in-More-clause-answer t c).After-paired-mid) c.in_ok-a-in-More.ensures.answer c.in_ok-b-in-More.ensures.answer c.in_ok-c-in-More.ensures.answer c.in_ok-d-in-More.ensures.answer c.paired-ends.ensures.0 c.paired-ends.ensures.1 c.in_ok-h-in-More.ensures.answer in
    lt.noted c.args.way c.requires c.in-More.ensures c.lead_code-code.ensures s c.note.ensures
