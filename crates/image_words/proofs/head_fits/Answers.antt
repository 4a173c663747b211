use mathlib.Core.Path.{sym, ◌∙◌}
use Rattle.sp_steps.proofs.Make.{false_true}
use Rattle.image_words.specs.Clauses.{head_of}
use Rattle.image_words.proofs.Words as its
use Rattle.image_words.proofs.head_fits.Goals as goal
use Rattle.image_words.proofs.head_fits.Goals.{then-counts_fit, else-counts_fit}

pub returns-then-unused : goal.returns-then-unused
returns-then-unused c = elim c.if-counts_fit.branch [
  | then-counts_fit w ↦ its.by_length c.args.image.now (head_of c.args.h) (c.counts_fit.ensures ∙ w.if-counts_fit.true) (w.unused.ensures ∙ sym w.value-is ∙ c.if-unused.true) c.blocks_of.ensures
  | else-counts_fit w ↦ absurd (false_true (sym w.if-counts_fit.false ∙ sym w.value-is ∙ c.if-unused.true))
]

pub returns-else-unused : goal.returns-else-unused
returns-else-unused c = elim c.if-counts_fit.branch [
  | then-counts_fit w ↦ its.no_blank c.args.image.now (head_of c.args.h) (c.counts_fit.ensures ∙ w.if-counts_fit.true) (w.unused.ensures ∙ sym w.value-is ∙ c.if-unused.false) ∙ sym c.if-unused.false
  | else-counts_fit w ↦ its.no_counts c.args.image.now (head_of c.args.h) (c.counts_fit.ensures ∙ w.if-counts_fit.false) ∙ sym c.if-unused.false
]
