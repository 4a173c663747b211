use Rattle.aut_why_least.proofs.Whole as whole
use Rattle.aut_why_least.proofs.end_of.Goals as goal

pub led_to-requires : goal.led_to-requires
led_to-requires c = whole.asked c.requires c.one_at_depth-all.ensures

pub returns-clause-gives : goal.returns-clause-gives
returns-clause-gives c = whole.answered c.requires c.one_at_depth-all.ensures c.led_to.ensures.gives
