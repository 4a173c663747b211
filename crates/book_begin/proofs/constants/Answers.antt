use mathlib.Core.Path.{refl}
use Rattle.refusal.proofs.Passed.{passed}
use Rattle.book_begin.proofs.Made as made
use Rattle.book_begin.proofs.constants.Goals as goal

pub returns-in_err-start-clause-gives : goal.returns-in_err-start-clause-gives
returns-in_err-start-clause-gives c =
    rw (passed c.from_residual.ensures) (made.no_sets c.args.fields c.args.place.now c.requires _ c.start.ensures.same_table (record { lent = refl; length = refl }) c.in_err-start.ensures.gives)

pub returns-in_err-start-2-clause-gives : goal.returns-in_err-start-2-clause-gives
returns-in_err-start-2-clause-gives c =
    rw (passed c.from_residual-in_err-start-2.ensures) (made.no_relations c.args.fields c.args.place.now c.requires _ c.start.ensures.same_table c.start-2.ensures.same_store.nodes c.in_ok-start.ensures.gives c.in_err-start-2.ensures.gives)

pub returns-clause-gives : goal.returns-clause-gives
returns-clause-gives c =
    made.constants_given c.args.fields c.args.place.now c.requires _ c.start.ensures.same_table c.start-2.ensures.same_store.nodes c.in_ok-start.ensures.gives c.in_ok-start-2.ensures.gives c.in_ok-start-2.ensures.same_store.fields
