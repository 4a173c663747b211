use Rattle.image_entry.proofs.Lines.{save_fits, saved_by}
use Rattle.image_entry.proofs.netcheck_save.Goals as goal

pub saved_outcome_of-requires : goal.saved_outcome_of-requires
saved_outcome_of-requires c = save_fits c.save-saved.result c.save-saved.ensures

pub returns : goal.returns
returns c = saved_by c.save-saved.result c.saved_outcome_of.ensures c.save-saved.ensures
