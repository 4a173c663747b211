use Rattle.netcheck.proofs.Whole.{stands_none, stands_refused}
use Rattle.netcheck.proofs.closing_line.Goals as goal

pub returns-in-Ok-clause-stands : goal.returns-in-Ok-clause-stands
returns-in-Ok-clause-stands c = rw c.in-Ok.is (stands_none c.in-Ok.length c.args.line.now c.requires.1)

pub returns-in-Err-clause-stands : goal.returns-in-Err-clause-stands
returns-in-Err-clause-stands c = rw c.in-Err.is (stands_refused c.in-Err.stop c.args.line.now c.refused_line.new.line c.requires.1 c.refused_line.ensures.puts)
