use Rattle.book_line.proofs.Doing as doing
use Rattle.book_line.proofs.perform.Goals as goal

pub returns-in-Makes-clause-gives : goal.returns-in-Makes-clause-gives
returns-in-Makes-clause-gives c = doing.makes_obeys c.requires c.in-Makes.is _ _ c.make_line.ensures.keeps c.make_line.ensures.gives
