use mathlib.Core.Path.{refl}
use Rattle.refusal.proofs.Passed.{passed}
use Rattle.aut_relations.proofs.Kept.{same_refl}
use Rattle.aut_st_insert.proofs.Walking as walking
use Rattle.aut_st_insert.proofs.st_insert.Goals as goal

pub copy-requires : goal.copy-requires
copy-requires c = walking.copy_ready c.requires

pub walk-requires : goal.walk-requires
walk-requires c = walking.walk_asked c.requires _ c.copy.ensures c.copy.auto.words refl (same_refl c.args.aut.now.spp)

pub returns-in_err-met-clause-gives : goal.returns-in_err-met-clause-gives
returns-in_err-met-clause-gives c = rw (passed c.from_residual.ensures) (walking.no_walk c.requires _ c.copy.ensures c.copy.auto.words refl (same_refl c.args.aut.now.spp) c.in_err-met.ensures.gives)

pub apply-requires : goal.apply-requires
apply-requires c = walking.rest_handles c.requires _ c.copy.ensures c.copy.auto.words refl (same_refl c.args.aut.now.spp) c.in_ok-met.ensures.keeps c.in_ok-met.ensures.gives

pub returns-in_err-label-clause-gives : goal.returns-in_err-label-clause-gives
returns-in_err-label-clause-gives c =
    rw (passed c.from_residual-in_err-label.ensures)
    (walking.no_rest c.requires _ c.copy.ensures c.copy.auto.words refl (same_refl c.args.aut.now.spp) c.in_ok-met.ensures.keeps c.in_ok-met.ensures.gives c.in_err-label.ensures.keeps c.in_err-label.ensures.gives)

pub st_insert_helper-requires : goal.st_insert_helper-requires
st_insert_helper-requires c =
    walking.last_placed c.requires _ c.copy.ensures c.copy.auto.words refl (same_refl c.args.aut.now.spp) c.in_ok-met.ensures.keeps c.in_ok-met.ensures.gives c.in_ok-label.ensures.keeps c.in_ok-label.ensures.gives

pub returns-clause-gives : goal.returns-clause-gives
returns-clause-gives c =
    walking.inserted c.requires _ c.copy.ensures c.copy.auto.words refl (same_refl c.args.aut.now.spp) c.in_ok-met.ensures.keeps c.in_ok-met.ensures.gives c.in_ok-label.ensures.keeps c.in_ok-label.ensures.gives c.st_insert_helper.ensures.gives
