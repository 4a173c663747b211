use Rattle.netcheck.proofs.Whole.{stands_long}
use Rattle.netcheck.proofs.too_long.Goals as goal

pub returns-clause-stands : goal.returns-clause-stands
returns-clause-stands c = stands_long c.args.line.now c.put.new.self c.requires.1 c.put.ensures.puts
