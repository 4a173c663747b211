use mathlib.Core.Path.{sym, ◌∙◌}
use Rattle.sp_steps.proofs.Make.{false_true}
use Rattle.image_kinds.proofs.Lists as its
use Rattle.image_kinds.proofs.many_fits.Goals as goal
use Rattle.image_kinds.proofs.many_fits.Goals.{then-w-limits, else-w-limits}

pub nest_list-requires : goal.nest_list-requires
nest_list-requires c = elim c.if-w-limits.branch [
  | then-w-limits w ↦ its.in_table c.args.list.now c.requires.0 (w.all_below.ensures ∙ sym w.value-is ∙ c.if-all_below.true)
  | else-w-limits w ↦ absurd (false_true (sym w.if-w-limits.false ∙ sym w.value-is ∙ c.if-all_below.true))
]

pub returns-then-all_below-clause-has : goal.returns-then-all_below-clause-has
returns-then-all_below-clause-has c _ = elim c.if-w-limits.branch [
  | then-w-limits w ↦ its.in_table c.args.list.now c.requires.0 (w.all_below.ensures ∙ sym w.value-is ∙ c.if-all_below.true)
  | else-w-limits w ↦ absurd (false_true (sym w.if-w-limits.false ∙ sym w.value-is ∙ c.if-all_below.true))
]
