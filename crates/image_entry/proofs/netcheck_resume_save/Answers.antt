use Rattle.image_entry.proofs.Lines.{resume_save_fits, resume_saved_by}
use Rattle.image_entry.proofs.netcheck_resume_save.Goals as goal

pub saved_outcome_of-requires : goal.saved_outcome_of-requires
saved_outcome_of-requires c = resume_save_fits c.resume_save-saved.result c.resume_save-saved.ensures

pub returns : goal.returns
returns c = resume_saved_by c.resume_save-saved.result c.saved_outcome_of.ensures c.resume_save-saved.ensures
