use mathlib.Core.Path.{refl, ◌∙◌}
use Rattle.std.proofs.Common.{rules}
use Rattle.aut_query_calls.proofs.Works.{keeps_beside}
use Rattle.aut_why_words.proofs.Walks.{walk_keeps}
use Rattle.aut_why_words.proofs.Lent.{marks_tables}
use Rattle.aut_why_marks.proofs.Loops.{keep_on}
use Rattle.aut_why_again.proofs.Steps as steps
use Rattle.aut_why_again.proofs.forward.Goals as goal

pub loop-init : goal.loop-init
loop-init c = record { keeps = search rules; pending = refl; started = λ mem ws A. steps.forward_begin A }

pub turns-requires : goal.turns-requires
turns-requires c =
    let I = c.loop.invariant in
    rw I.pending (record {
      members = c.requires.members;
      rounds = c.requires.rounds;
      round = c.loop.counter;
      turning = steps.forward_turning c.requires.ahead (I.started c.requires.members c.requires.rounds c.requires.ahead) c.loop-test.true;
    })

pub renew-requires : goal.renew-requires
renew-requires c =
    let I = c.loop.invariant in
    let T = steps.forward_turning c.requires.ahead (I.started c.requires.members c.requires.rounds c.requires.ahead) c.loop-test.true in
    rw (c.turns.ensures.pending, I.pending) (keep_on (walk_keeps T.on.standing.walk) c.turns.ensures.keeps.states.length)

pub loop-preserved : goal.loop-preserved
loop-preserved c =
    let I = c.loop.invariant in
    let E = rw I.pending at c.turns.ensures.gives in
    let R = rw (c.turns.ensures.pending, I.pending) at c.renew.ensures.gives in
    record {
      keeps = search rules;
      pending = c.renew.ensures.pending ∙ c.turns.ensures.pending ∙ I.pending;
      started = λ mem ws A. let B = I.started mem ws A in
          rw c.renew.ensures.keeps.scratch (steps.forward_again A B (E mem ws c.loop.counter (steps.forward_turning A B c.loop-test.true)) (marks_tables (keeps_beside mem c.renew.ensures.keeps)) R);
    }

pub returns-clause-gives : goal.returns-clause-gives
returns-clause-gives c =
    λ mem ws A. steps.forward_end A (c.loop.invariant.started mem ws A) c.loop-test.false (c.loop.auto.counter-end c.requires.ahead.later)
