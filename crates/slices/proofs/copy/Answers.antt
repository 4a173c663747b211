use mathlib.Core.Path.{◌∙◌}
use native.Mathlib.Omega.{arith}
use Rattle.slices.proofs.Copied.{same_all}
use Rattle.slices.proofs.copy.Goals as goal

pub returns : goal.returns
returns g c = record { after = same_all c.args.list.now c.loop-i.out (c.loop-i.auto.out ∙ c.requires) (λ k d l. c.loop-i.invariant k d (omega (arith, l, c.loop-i-test.false))) }
