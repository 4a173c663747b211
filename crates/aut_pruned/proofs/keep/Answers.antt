use mathlib.Core.Path.{◌∙◌}
use Rattle.aut_pruned.proofs.Labels as one
use Rattle.aut_pruned.proofs.keep.Goals as goal

pub returns-then-is_zero-clause-kept : goal.returns-then-is_zero-clause-kept
returns-then-is_zero-clause-kept c =
    one.keep_none c.requires c.args.t.target c.args.t.label.0 (c.is_zero.ensures c.args.config.fields ∙ c.if-is_zero.true)

pub returns-clause-kept : goal.returns-clause-kept
returns-clause-kept c =
    one.keep_some c.requires c.args.t.target c.args.t.label.0 (c.is_zero.ensures c.args.config.fields ∙ c.if-is_zero.false) c.put.ensures
