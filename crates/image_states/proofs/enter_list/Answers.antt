use mathlib.Core.Path.{◌∙◌}
use Rattle.image_states.proofs.Entering as its
use Rattle.image_states.proofs.enter_list.Goals as goal

pub intern_list-requires : goal.intern_list-requires
intern_list-requires c =
    let w = c.args.w in
    its.list_ready c.requires.0.good c.args.list.now w.kind w.first w.second w.nesting c.requires.1 (c.list_fits.ensures.is c.requires.0.nodes c.args.members.now.words.now ∙ c.if-not-list_fits.false)

pub returns-clause-gives : goal.returns-clause-gives
returns-clause-gives c =
    its.list_entered c.args.config c.args.w c.args.list.now c.requires.1 (λ t. c.list_fits.ensures.is t c.args.members.now.words.now ∙ c.if-not-list_fits.false) c.intern_list.ensures.gives
