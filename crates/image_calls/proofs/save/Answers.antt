use Rattle.std.proofs.Common.{rules}
use Rattle.image_calls.proofs.Whole as its
use Rattle.image_calls.proofs.save.Goals as goal

pub returns : goal.returns
returns c = its.save_entry _ (search rules)
