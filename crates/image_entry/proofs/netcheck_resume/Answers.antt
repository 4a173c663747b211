use Rattle.image_entry.proofs.Lines.{resume_fits, resumed}
use Rattle.image_entry.proofs.netcheck_resume.Goals as goal

pub outcome_of-requires : goal.outcome_of-requires
outcome_of-requires c = resume_fits c.resume-ran.result c.resume-ran.ensures

pub returns : goal.returns
returns c = resumed c.resume-ran.result c.outcome_of.ensures c.resume-ran.ensures
