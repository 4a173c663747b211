use Rattle.std.proofs.Common.{rules}
use Rattle.std.proofs.lemmas.Iterator.{YieldsList-from_slice}
use Rattle.std.proofs.lemmas.Iterator.Consumers.{max_from_yields_List}
use Rattle.aut_states.proofs.Scan as scan
use Rattle.aut_states.proofs.above_list.Goals as goal

pub returns : goal.returns
returns c =
    scan.above_greatest c.args.list.now c.max.result c.map_or.result (max_from_yields_List _ _ c.max.ensures.ran (YieldsList-from_slice c.args.list.now c.iter.ensures.rest)) (search rules)
