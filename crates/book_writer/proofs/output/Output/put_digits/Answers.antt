use Rattle.book_writer.proofs.Rights as rights
use Rattle.book_writer.proofs.output.Output.put_digits.Goals as goal

pub loop-i-preserved : goal.loop-i-preserved
loop-i-preserved c =
    (c.loop-i.invariant.0, rights.drawn_again c.args.self.now.bytes.now c.args.self.now.at c.args.base c.args.k c.args.n c.requires.0 c.loop-i.self.bytes.now c.loop-i.m c.loop-i.i c.loop-i.invariant.1 c.loop-i-test.true)

pub returns-clause-puts : goal.returns-clause-puts
returns-clause-puts c =
    rights.drawn_end c.args.self.now.bytes.now c.args.self.now.at c.args.base c.args.k c.args.n c.requires.0 c.loop-i.self.bytes.now c.loop-i.m c.loop-i.i c.loop-i.invariant.1 c.loop-i-test.false
