use Rattle.aut_st_each.proofs.Join as join
use Rattle.aut_st_each.proofs.insert_made.Goals as goal

pub st_insert-requires : goal.st_insert-requires
st_insert-requires c = join.insert_ready c.requires c.in_ok-new.ensures.keeps c.in_ok-new.ensures.gives

pub returns-clause-gives : goal.returns-clause-gives
returns-clause-gives c = join.inserted c.requires c.in_ok-new.ensures.keeps c.in_ok-new.ensures.gives c.st_insert.ensures.gives
