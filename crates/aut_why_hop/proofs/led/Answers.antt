use native.Mathlib.Omega.{arith}
use Rattle.aut_why_hop.proofs.led.Goals as goal

pub set_at-ahead-requires : goal.set_at-ahead-requires
set_at-ahead-requires c = (omega (arith, c.requires.ahead.state), c.requires.ahead.some)

pub led_to-requires : goal.led_to-requires
led_to-requires c =
    rw c.set_at-ahead.ensures (record { end = record { few = c.requires.ready.few; wf = c.requires.ready.wf; room = c.requires.ready.room; sound = c.requires.ready.sound; small = c.requires.small; at_r = c.requires.ahead.relation }; at_a = c.requires.ahead.set })

pub returns-clause-gives : goal.returns-clause-gives
returns-clause-gives c = rw c.set_at-ahead.ensures at c.led_to.ensures.gives
