use Rattle.book_construct.proofs.Join.{ready}
use Rattle.book_construct.proofs.make.Goals as goal

pub returns-in-Constant-clause-ready : goal.returns-in-Constant-clause-ready
returns-in-Constant-clause-ready c = ready c.requires.0 c.requires.1 c.in-Constant.is c.make_constant.ensures.keeps c.make_constant.ensures.gives

pub returns-in-Bit-clause-ready : goal.returns-in-Bit-clause-ready
returns-in-Bit-clause-ready c = ready c.requires.0 c.requires.1 c.in-Bit.is c.make_bit.ensures.keeps c.make_bit.ensures.gives

pub returns-in-Single-clause-ready : goal.returns-in-Single-clause-ready
returns-in-Single-clause-ready c = ready c.requires.0 c.requires.1 c.in-Single.is c.make_single.ensures.keeps c.make_single.ensures.gives

pub returns-in-Pair-clause-ready : goal.returns-in-Pair-clause-ready
returns-in-Pair-clause-ready c = ready c.requires.0 c.requires.1 c.in-Pair.is c.make_pair.ensures.keeps c.make_pair.ensures.gives

pub returns-in-Listed-clause-ready : goal.returns-in-Listed-clause-ready
returns-in-Listed-clause-ready c = ready c.requires.0 c.requires.1 c.in-Listed.is c.make_listed.ensures.keeps c.make_listed.ensures.gives
