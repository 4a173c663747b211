use mathlib.Core.Path.{refl, sym, ◌∙◌}
use Rattle.refusal.proofs.Passed.{passed}
use Rattle.aut_st_insert.proofs.Placing as placing
use Rattle.aut_st_insert.proofs.st_insert_helper.Goals as goal

pub returns-then-eq-clause-gives : goal.returns-then-eq-clause-gives
returns-then-eq-clause-gives c = placing.no_label c.requires c.zero-zero.ensures (sym c.eq.ensures ∙ c.if-eq.true)

pub returns-in_err-z-clause-gives : goal.returns-in_err-z-clause-gives
returns-in_err-z-clause-gives c =
    rw (passed c.from_residual.ensures) (placing.not_noted c.requires c.zero-zero.ensures (sym c.eq.ensures ∙ c.if-eq.false) c.in_err-z.ensures.gives)

pub returns-then-t-z-clause-gives : goal.returns-then-t-z-clause-gives
returns-then-t-z-clause-gives c =
    placing.no_state c.requires c.zero-zero.ensures (sym c.eq.ensures ∙ c.if-eq.false) (record { spp = refl; members = refl; scratch = refl }) c.in_ok-z.ensures.gives c.if-t-z.true

pub place_in-requires : goal.place_in-requires
place_in-requires c =
    placing.in_asked c.requires c.zero-zero.ensures (sym c.eq.ensures ∙ c.if-eq.false) (record { spp = refl; members = refl; scratch = refl }) c.in_ok-z.ensures.gives

pub returns-clause-gives : goal.returns-clause-gives
returns-clause-gives c =
    placing.placed_in c.requires c.zero-zero.ensures (sym c.eq.ensures ∙ c.if-eq.false) (record { spp = refl; members = refl; scratch = refl }) c.in_ok-z.ensures.gives c.if-t-z.false c.place_in.ensures.gives
