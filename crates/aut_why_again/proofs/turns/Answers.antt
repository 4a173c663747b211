use mathlib.Core.Path.{refl, ◌∙◌}
use native.Mathlib.Omega.{arith}
use Rattle.std.proofs.Common.{rules}
use Rattle.aut_live_words.proofs.Words.{second_in}
use Rattle.aut_why_again.proofs.Runs as runs
use Rattle.aut_why_again.proofs.turns.Goals as goal

pub loop-i-init : goal.loop-i-init
loop-i-init c = record { keeps = search rules; pending = refl; runs = λ mem ws k T. runs.run_begin T }

pub turn_again-requires : goal.turn_again-requires
turn_again-requires c =
    let I = c.loop-i.invariant in
    rw (c.state_at-s.ensures, I.pending) (record {
      members = c.requires.members;
      count = c.args.n;
      rounds = c.requires.rounds;
      round = c.requires.round;
      turning = runs.run_turning c.requires.turning (I.runs c.requires.members c.requires.rounds c.requires.round c.requires.turning);
      among = second_in c.args.aut.now.pending.now 0 c.args.n c.loop-i.i (omega arith) (omega (arith, c.loop-i-test.true));
    })

pub loop-i-preserved : goal.loop-i-preserved
loop-i-preserved c =
    let I = c.loop-i.invariant in
    let E = rw (c.state_at-s.ensures, I.pending) at c.turn_again.ensures.gives in
    record {
      keeps = search rules;
      pending = c.turn_again.ensures.pending ∙ I.pending;
      runs = λ mem ws k T. let R = I.runs mem ws k T in
          runs.run_again T R c.loop-i-test.true (E mem c.args.n ws k (runs.run_turning T R) (second_in c.args.aut.now.pending.now 0 c.args.n c.loop-i.i (omega arith) (omega (arith, c.loop-i-test.true))));
    }

pub returns-clause-gives : goal.returns-clause-gives
returns-clause-gives c = λ mem ws k T. runs.run_end T (c.loop-i.invariant.runs mem ws k T) c.loop-i.auto.i-end c.loop-i-test.false
