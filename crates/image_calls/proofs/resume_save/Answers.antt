use Rattle.std.proofs.Common.{rules}
use Rattle.image_calls.proofs.Whole as its
use Rattle.image_calls.proofs.resume_save.Goals as goal

pub returns : goal.returns
returns c = its.resume_save_entry _ (search rules) (search rules)
