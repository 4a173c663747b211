use mathlib.Core.Path.{◌∙◌}
use Rattle.aut_steps.specs.Tables.{aut}
use Rattle.spp.specs.Clauses.{store_of}
use Rattle.image_kinds.proofs.Whole as whole
use Rattle.image_kinds.proofs.atom_fits.Goals as goal

pub returns-in-9 : goal.returns-in-9
returns-in-9 c =
    let N = c.args.fields in
    let w = c.args.w in
    record { is = λ L s m xs. whole.of_constant N L (aut (store_of c.args.relations.now) s m) xs w.kind w.first w.second w.nesting c.in-9.is ∙ c.constant_fits.ensures N L }
