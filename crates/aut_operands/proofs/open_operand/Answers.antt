use Rattle.std.proofs.Common.{◌≡◌, ◌+◌, ◌*◌, ◌<◌, length, refl, sym, ◌∙◌, subst, rules}
use Rattle.std.proofs.lemmas.Fn.{serves_by}
use Rattle.aut_steps.specs.Ascending.{All}
use Rattle.aut_states.proofs.Scan.{given_one}
use Rattle.aut_operands.proofs.Down as below
use Rattle.aut_operands.proofs.open_operand.Goals as goal

pub find-requires-clause-callable : goal.find-requires-clause-callable
find-requires-clause-callable c =
    serves_by _ (λ xs q. q.0 ≡ c.args.states) (λ xs q x w j r. search rules) _ _ _ _ refl
    (λ xs t q x u y e j.
    let has = subst (All (λ x. 12 * x + 11 < length c.args.states.now.words.now)) (c.operands-operands.ensures ∙ sym c.iter.ensures.rest) c.requires.operands in
    let given = given_one (λ x. 12 * x + 11 < length c.args.states.now.words.now) xs c.iter.result t u x has y e in
    let here : 12 * x.now + 11 < length q.0.now.words.now = subst (λ s. 12 * x.now + 11 < length s.now.words.now) (sym j) given in
    λ z k. let there : 12 * z.now.now + 11 < length q.0.now.words.now = subst (λ x. 12 * x.now + 11 < length q.0.now.words.now) (sym k) here in search rules)

pub returns : goal.returns
returns c = below.next_of c.args.part c.args.states.now.words.now c.args.members.now.words.now c.args.x c.copied.result (c.operands-operands.ensures ∙ sym c.iter.ensures.rest)
    (below.searched c.args.part c.args.states.now.words.now _ _ (λ x b q k. search rules) c.iter.result _ c.find.result c.copied.result (search rules) c.find.ensures.ran)
