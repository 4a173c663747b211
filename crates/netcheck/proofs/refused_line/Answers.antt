use Rattle.netcheck.proofs.Whole.{line_told}
use Rattle.netcheck.proofs.refused_line.Goals as goal

pub unwrap-requires : goal.unwrap-requires
unwrap-requires c = (line_told c.args.stop.line c.number.ensures _ _ c.line.result c.line.ensures.answers c.requires).0

pub returns-clause-puts : goal.returns-clause-puts
returns-clause-puts c = (line_told c.args.stop.line c.number.ensures _ _ c.line.result c.line.ensures.answers c.requires).1
