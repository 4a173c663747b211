use Rattle.aut_states.proofs.Intern as intern
use Rattle.aut_states.proofs.Members.append.Goals as goal

pub returns-clause-gives : goal.returns-clause-gives
returns-clause-gives c =
    intern.room c.args.self.now.words.now _ c.args.list.now c.args.self.now.count c.copy.ensures.after c.if-end-self.false c.if-end-gt-MOST_MEMBERS.false
