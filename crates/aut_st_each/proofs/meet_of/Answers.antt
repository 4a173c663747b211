use Rattle.aut_st_each.proofs.Join as join
use Rattle.aut_st_each.proofs.meet_of.Goals as goal

pub apply-requires : goal.apply-requires
apply-requires c = join.labels c.requires c.mk_intersect.ensures.keeps c.in_ok-target.ensures.gives

pub returns-clause-gives : goal.returns-clause-gives
returns-clause-gives c =
    join.meets c.requires c.mk_intersect.ensures.keeps c.in_ok-target.ensures.gives c.apply.ensures.keeps c.in_ok-label.ensures.gives
