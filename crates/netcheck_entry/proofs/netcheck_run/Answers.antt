use Rattle.netcheck_entry.proofs.Lines.{entry_line, entered}
use Rattle.netcheck_entry.proofs.netcheck_run.Goals as goal

pub outcome_of-requires : goal.outcome_of-requires
outcome_of-requires c = entry_line c.run-ran.ensures

pub returns : goal.returns
returns c = entered _ _ _ c.run-ran.result c.outcome_of.ensures c.run-ran.ensures
