use mathlib.Core.Path.{◌∙◌}
use mathlib.Core.List.{[]}
use Rattle.aut_steps.specs.Intern.{intern0}
use Rattle.aut_states.specs.Clauses.{limits_of}
use Rattle.aut_relations.specs.Lent.{states_in, members_in, aut_in}
use Rattle.image_states.proofs.Entering as its
use Rattle.image_states.proofs.enter_atom.Goals as goal

pub returns-clause-gives : goal.returns-clause-gives
returns-clause-gives c =
    let k = c.args.config in
    let w = c.args.w in
    let x = c.args.aut.now in
    its.entered k w [] x (c.atom_fits.ensures.is (limits_of k.limits) (states_in x) (members_in x) [] ∙ c.if-not-atom_fits.false)
    (intern0 w.kind w.first) (its.enters_atom k.fields (limits_of k.limits) [] w.kind w.first w.second w.nesting (aut_in x) c.requires.1) c.intern0.result _ c.intern0.ensures.gives
