use mathlib.Core.Path.{◌∙◌, ap}
use Prim.Native.Nat.{ℕ}
use Rattle.spp_steps.specs.Model as M
use Rattle.aut_relations.specs.Lent.{nodes_in}
use Rattle.aut_relations.proofs.Join as join
use Rattle.aut_sequence.specs.declared.Task.{Task}
use Rattle.aut_sequence.specs.Clauses.{task_of}
use Rattle.aut_sequence.proofs.relate.Goals as goal

pub returns-in_ok-sequence-in-Sequence-clause-gives : goal.returns-in_ok-sequence-in-Sequence-clause-gives
returns-in_ok-sequence-in-Sequence-clause-gives c =
    let p = join.applied (λ (N : ℕ). M.sequence N c.args.config.fields c.args.a.0 c.args.b.0) c.requires.fields c.requires.backed.room c.in_ok-sequence-in-Sequence.ensures.answer in
    record { is = ap (λ (k : Task). task_of c.args.config.fields k c.args.a.0 c.args.b.0 (nodes_in c.args.aut.now)) c.in-Sequence.is ∙ p.0; left = p.1 }

pub returns-in_ok-star-in-Star-clause-gives : goal.returns-in_ok-star-in-Star-clause-gives
returns-in_ok-star-in-Star-clause-gives c =
    let p = join.applied (λ (N : ℕ). M.star N c.args.config.fields c.args.a.0) c.requires.fields c.requires.backed.room c.in_ok-star-in-Star.ensures.answer in
    record { is = ap (λ (k : Task). task_of c.args.config.fields k c.args.a.0 c.args.b.0 (nodes_in c.args.aut.now)) c.in-Star.is ∙ p.0; left = p.1 }
