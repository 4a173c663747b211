use Rattle.aut_intersect_base.proofs.Gather.{is_nothing}
use Rattle.aut_intersect_base.proofs.nothing.Goals as goal

pub returns : goal.returns
returns c = is_nothing c.args.config.fields c.args.relation c.zero.ensures c.eq.ensures
