use Rattle.spp_steps.specs.Model as M
use Rattle.spp.specs.Clauses.{op_of}
use Rattle.aut_relations.proofs.Join as join
use Rattle.aut_relations.proofs.Aut.apply.Goals as goal

pub returns-clause-gives : goal.returns-clause-gives
returns-clause-gives c =
    let p = join.applied (λ (N : _). M.apply N (op_of c.args.op) c.args.config.fields c.args.a.0 c.args.b.0) c.requires.fields c.requires.backed.room c.in_ok-apply.ensures.answer in
    record { is = p.0; left = p.1 }
