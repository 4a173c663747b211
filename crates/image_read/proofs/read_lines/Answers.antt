use native.Mathlib.Omega.{arith}
use Rattle.std.proofs.Common.{rules}
use Rattle.refusal.proofs.Passed.{passed}
use Rattle.image_read.proofs.Lines as lines
use Rattle.image_read.proofs.read_lines.Goals as goal

pub loop-i-init : goal.loop-i-init
loop-i-init c = record { keeps = search rules; at = lines.lines_begin _ _ _ _ c.args.lines.now c.requires }

pub add-requires : goal.add-requires
add-requires c = record {
  room = omega (arith, c.loop-i.invariant.keeps.length, c.loop-i.invariant.at.count, c.requires.room);
  fits = lines.line_fits c.args.states c.in_ok-line.line c.in_ok-line.ensures;
}

pub returns-in_err-line-clause-gives : goal.returns-in_err-line-clause-gives
returns-in_err-line-clause-gives c =
    rw (passed c.from_residual.ensures) (lines.lines_stop _ _ _ _ c.args.lines.now c.requires c.loop-i.lines c.loop-i.i c.loop-i.invariant.at c.loop-i-test.true c.in_err-line.ensures)

pub loop-i-preserved : goal.loop-i-preserved
loop-i-preserved c = record {
  keeps = search rules;
  at = lines.lines_again _ _ _ _ c.args.lines.now c.requires c.loop-i.lines c.loop-i.i c.loop-i.invariant.at c.loop-i-test.true c.in_ok-line.ensures c.add.ensures.words c.add.ensures.count c.add.ensures.lines;
}

pub returns-clause-gives : goal.returns-clause-gives
returns-clause-gives c =
    lines.lines_end _ _ _ _ c.args.lines.now c.requires c.loop-i.lines c.loop-i.i c.loop-i.invariant.at (omega (arith, c.loop-i.auto.i-end, c.loop-i-test.false))
