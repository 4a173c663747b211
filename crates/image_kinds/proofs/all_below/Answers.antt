use Rattle.std.proofs.Common.{rules}
use Rattle.image_kinds.proofs.Lists as its
use Rattle.image_kinds.proofs.all_below.Goals as goal

pub returns : goal.returns
returns c = its.all_by c.args.n c.args.list.now c.all.result (search rules)
