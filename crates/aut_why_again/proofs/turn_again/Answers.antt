use native.Mathlib.Omega.{arith}
use Rattle.aut_query_calls.proofs.Works.{keeps_beside, tables_put}
use Rattle.aut_why_again.proofs.States as states
use Rattle.aut_why_again.proofs.turn_again.Goals as goal
use Rattle.aut_why_again.proofs.turn_again.Goals.{then-changed, else-changed}

pub changed-requires : goal.changed-requires
changed-requires c = states.turn_listed c.requires.turning c.requires.among

pub turn-requires : goal.turn-requires
turn-requires c =
    let Q = c.requires in
    record { members = Q.members; entries = c.args.aut.now.pending.now; count = Q.count; before = _; turning = states.turn_asks Q.turning Q.among }

pub unwrap-h-requires : goal.unwrap-h-requires
unwrap-h-requires c =
    let Q = c.requires in
    states.stands_still (states.turn_stands Q.turning Q.among) c.turn.result (c.turn.ensures.gives.gives Q.members c.args.aut.now.pending.now Q.count _ (states.turn_asks Q.turning Q.among))

pub set_at-h-requires : goal.set_at-h-requires
set_at-h-requires c = (omega (arith, states.turn_there c.requires.turning c.requires.among), states.turn_some c.requires.turning c.requires.among)

pub put_set-requires : goal.put_set-requires
put_set-requires c =
    let T = c.requires.turning in
    let m = c.requires.among in
    let p = c.args.aut.now.pending.now in elim c.if-changed.branch [
      | then-changed v ↦
          let D = rw v.unwrap-h.ensures at v.turn.ensures.gives.gives c.requires.members p c.requires.count _ (states.turn_asks T m) in
          rw (v.aut-is, v.h-is) (rw v.turn.ensures.keeps.states (omega (arith, states.turn_there T m)), states.small (states.turn_stands T m) D)
      | else-changed v ↦ rw (v.aut-is, v.h-is) (omega (arith, states.turn_there T m), states.turn_small T m v.set_at-h.ensures)
    ]

pub returns-clause-gives : goal.returns-clause-gives
returns-clause-gives c =
    λ mem n ws k T m.
    let u = c.put_set.ensures in
    let p = c.args.aut.now.pending.now in
    rw (tables_put (keeps_beside mem u.keeps) u.gives, u.keeps.scratch) (elim c.if-changed.branch [
      | then-changed w ↦
          let D = rw w.unwrap-h.ensures at w.turn.ensures.gives.gives mem p n _ (states.turn_asks T m) in
          rw (w.aut-is, w.h-is) (states.worked (states.turn_stands T m) D (keeps_beside mem w.turn.ensures.keeps) 9 c.args.s)
      | else-changed w ↦ rw (w.aut-is, w.h-is) (states.turn_stays T m c.changed.result w.if-changed.false c.changed.ensures w.set_at-h.ensures)
    ])
