use Rattle.book_query.proofs.ask.Goals as goal

pub returns-in-Why-clause-asked : goal.returns-in-Why-clause-asked
returns-in-Why-clause-asked c = rw c.in-Why.is (c.ask_why.ensures.asked c.args.name.now)
