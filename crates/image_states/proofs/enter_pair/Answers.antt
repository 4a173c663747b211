use mathlib.Core.Path.{◌∙◌}
use mathlib.Core.List.{[]}
use Rattle.aut_steps.specs.Intern.{intern2}
use Rattle.aut_states.specs.Clauses.{limits_of}
use Rattle.aut_relations.specs.Lent.{nodes_in, members_in, aut_in}
use Rattle.image_kinds.proofs.Whole as whole
use Rattle.image_states.proofs.Entering as its
use Rattle.image_states.proofs.enter_pair.Goals as goal

pub intern2-requires : goal.intern2-requires
intern2-requires c =
    let k = c.args.config in
    let w = c.args.w in
    let x = c.args.aut.now in
    its.pair_ready c.requires.0.good w.kind w.first w.second c.requires.1
    (whole.pair_xy k.fields (limits_of k.limits) (nodes_in x) (members_in x) x.states.words.now x.states.count [] w.kind w.first w.second w.nesting c.requires.1 (c.pair_fits.ensures.is (nodes_in x) (members_in x) [] ∙ c.if-not-pair_fits.false))

pub returns-clause-gives : goal.returns-clause-gives
returns-clause-gives c =
    let k = c.args.config in
    let w = c.args.w in
    let x = c.args.aut.now in
    its.entered k w [] x (c.pair_fits.ensures.is (nodes_in x) (members_in x) [] ∙ c.if-not-pair_fits.false)
    (intern2 (limits_of k.limits) w.kind w.first w.second) (its.enters_pair k.fields (limits_of k.limits) [] w.kind w.first w.second w.nesting (aut_in x) c.requires.1) c.intern2.result _ c.intern2.ensures.gives
