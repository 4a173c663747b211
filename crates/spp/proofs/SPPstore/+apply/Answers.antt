use Rattle.cache.proofs.Cache.{notes_refl}
use native.Mathlib.Omega.{arith}
use Rattle.spp.specs.Clauses.{op_of}
use Rattle.spp.proofs.Calls.{stopped}
use Rattle.spp.proofs.Quartet as quartet
use Rattle.spp.proofs.Turn as turn
use Rattle.spp.proofs.SPPstore.+apply.Goals as goal

pub returns-in-Out-clause-answer : goal.returns-in-Out-clause-answer
returns-in-Out-clause-answer t c = record {
  gives = turn.apply_out c.args.self.now.fields (op_of c.args.op) c.args.depth c.args.a.0 c.args.b.0 _ _ c.in-Out.ensures;
  notes = notes_refl;
}

pub returns-in-Some-clause-answer : goal.returns-in-Some-clause-answer
returns-in-Some-clause-answer t c = record { gives = turn.hit (turn.goes_down c.args.self.now (op_of c.args.op) c.requires c.in-On.ensures) (turn.coded c.in-On.o) c.in-Some.ensures; notes = notes_refl }

pub get-p-requires : goal.get-p-requires
get-p-requires t c = turn.in_x (turn.goes_down c.args.self.now (op_of c.args.op) c.requires c.in-On.ensures)

pub get-q-requires : goal.get-q-requires
get-q-requires t c = turn.in_y (turn.goes_down c.args.self.now (op_of c.args.op) c.requires c.in-On.ensures)

pub overflow_sub-below : goal.overflow_sub-below
overflow_sub-below t c = omega (arith, turn.above (turn.goes_down c.args.self.now (op_of c.args.op) c.requires c.in-On.ensures))

pub apply-requires : goal.apply-requires
apply-requires t c =
    let d = turn.goes_down c.args.self.now (op_of c.args.op) c.requires c.in-On.ensures in
    let q = turn.calls d c.get-p.ensures c.get-q.ensures in
    (turn.falls d c.decreases, quartet.ready_1 q)

pub returns-in_err-x00-in-On-clause-answer : goal.returns-in_err-x00-in-On-clause-answer
returns-in_err-x00-in-On-clause-answer t c =
    let d = turn.goes_down c.args.self.now (op_of c.args.op) c.requires c.in-On.ensures in
    let q = turn.calls d c.get-p.ensures c.get-q.ensures in
    stopped c.from_residual.ensures.0 (quartet.lost_1 q c.in_err-x00-in-On.ensures.answer)

pub apply-requires-in-On : goal.apply-requires-in-On
apply-requires-in-On t c =
    let d = turn.goes_down c.args.self.now (op_of c.args.op) c.requires c.in-On.ensures in
    let q = turn.calls d c.get-p.ensures c.get-q.ensures in
    (turn.falls d c.decreases, quartet.ready_2 q c.apply.ensures.same_store c.in_ok-x00-in-On.ensures.answer)

pub returns-in_err-x01-in-On-clause-answer : goal.returns-in_err-x01-in-On-clause-answer
returns-in_err-x01-in-On-clause-answer t c =
    let d = turn.goes_down c.args.self.now (op_of c.args.op) c.requires c.in-On.ensures in
    let q = turn.calls d c.get-p.ensures c.get-q.ensures in
    stopped c.from_residual-in_err-x01-in-On.ensures.0 (quartet.lost_2 q c.apply.ensures.same_store c.in_ok-x00-in-On.ensures.answer c.in_err-x01-in-On.ensures.answer)

pub apply-requires-in-On-2 : goal.apply-requires-in-On-2
apply-requires-in-On-2 t c =
    let d = turn.goes_down c.args.self.now (op_of c.args.op) c.requires c.in-On.ensures in
    let q = turn.calls d c.get-p.ensures c.get-q.ensures in
    (turn.falls d c.decreases, quartet.ready_3 q c.apply.ensures.same_store c.in_ok-x00-in-On.ensures.answer c.apply-in-On.ensures.same_store c.in_ok-x01-in-On.ensures.answer)

pub returns-in_err-x10-in-On-clause-answer : goal.returns-in_err-x10-in-On-clause-answer
returns-in_err-x10-in-On-clause-answer t c =
    let d = turn.goes_down c.args.self.now (op_of c.args.op) c.requires c.in-On.ensures in
    let q = turn.calls d c.get-p.ensures c.get-q.ensures in
    stopped c.from_residual-in_err-x10-in-On.ensures.0 (quartet.lost_3 q c.apply.ensures.same_store c.in_ok-x00-in-On.ensures.answer c.apply-in-On.ensures.same_store c.in_ok-x01-in-On.ensures.answer c.in_err-x10-in-On.ensures.answer)

pub apply-requires-in-On-3 : goal.apply-requires-in-On-3
apply-requires-in-On-3 t c =
    let d = turn.goes_down c.args.self.now (op_of c.args.op) c.requires c.in-On.ensures in
    let q = turn.calls d c.get-p.ensures c.get-q.ensures in
    (turn.falls d c.decreases, quartet.ready_4 q c.apply.ensures.same_store c.in_ok-x00-in-On.ensures.answer c.apply-in-On.ensures.same_store c.in_ok-x01-in-On.ensures.answer c.apply-in-On-2.ensures.same_store c.in_ok-x10-in-On.ensures.answer)

pub returns-in_err-x11-in-On-clause-answer : goal.returns-in_err-x11-in-On-clause-answer
returns-in_err-x11-in-On-clause-answer t c =
    let d = turn.goes_down c.args.self.now (op_of c.args.op) c.requires c.in-On.ensures in
    let q = turn.calls d c.get-p.ensures c.get-q.ensures in
    stopped c.from_residual-in_err-x11-in-On.ensures.0 (quartet.lost_4 q c.apply.ensures.same_store c.in_ok-x00-in-On.ensures.answer c.apply-in-On.ensures.same_store c.in_ok-x01-in-On.ensures.answer c.apply-in-On-2.ensures.same_store c.in_ok-x10-in-On.ensures.answer c.in_err-x11-in-On.ensures.answer)

pub mk-requires : goal.mk-requires
mk-requires t c =
    let d = turn.goes_down c.args.self.now (op_of c.args.op) c.requires c.in-On.ensures in
    let q = turn.calls d c.get-p.ensures c.get-q.ensures in
    quartet.mk_ready q c.apply.ensures.same_store c.in_ok-x00-in-On.ensures.answer c.apply-in-On.ensures.same_store c.in_ok-x01-in-On.ensures.answer c.apply-in-On-2.ensures.same_store c.in_ok-x10-in-On.ensures.answer c.apply-in-On-3.ensures.same_store c.in_ok-x11-in-On.ensures.answer

pub returns-in_err-h-in-On-clause-answer : goal.returns-in_err-h-in-On-clause-answer
returns-in_err-h-in-On-clause-answer t c =
    let d = turn.goes_down c.args.self.now (op_of c.args.op) c.requires c.in-On.ensures in
    let q = turn.calls d c.get-p.ensures c.get-q.ensures in
    stopped c.from_residual-in_err-h-in-On.ensures.0
    (quartet.made q c.apply.ensures.same_store c.in_ok-x00-in-On.ensures.answer c.apply-in-On.ensures.same_store c.in_ok-x01-in-On.ensures.answer c.apply-in-On-2.ensures.same_store c.in_ok-x10-in-On.ensures.answer c.apply-in-On-3.ensures.same_store c.in_ok-x11-in-On.ensures.answer c.in_err-h-in-On.ensures.gives)

pub returns-in_ok-h-in-On-clause-answer : goal.returns-in_ok-h-in-On-clause-answer
returns-in_ok-h-in-On-clause-answer t c =
    let d = turn.goes_down c.args.self.now (op_of c.args.op) c.requires c.in-On.ensures in
    let q = turn.calls d c.get-p.ensures c.get-q.ensures in
    let s = quartet.node q c.apply.ensures.same_store c.in_ok-x00-in-On.ensures.answer c.apply-in-On.ensures.same_store c.in_ok-x01-in-On.ensures.answer c.apply-in-On-2.ensures.same_store c.in_ok-x10-in-On.ensures.answer c.apply-in-On-3.ensures.same_store c.in_ok-x11-in-On.ensures.answer (turn.lower d) c.in_ok-h-in-On.ensures.gives in
    record { gives = s.left; notes = turn.noted d (turn.coded c.in-On.o) s c.note.ensures }
