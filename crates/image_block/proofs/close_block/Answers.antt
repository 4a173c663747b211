use mathlib.Core.Path.{◌∙◌, ap}
use Prim.Native.Nat.{ℕ, ◌+◌, ◌*◌}
use native.Mathlib.Omega.{arith}
use lib.Seq.{sets}
use Rattle.image_form.specs.Form.{half, front_at}
use Rattle.image_block.proofs.Sum as its
use Rattle.image_block.proofs.close_block.Goals as goal

pub put_half-requires : goal.put_half-requires
put_half-requires c = (omega (arith, (its.front_summed c.args.image.now c.args.b c.check-sum.ensures), its.check_small (front_at c.args.image.now c.args.b)), omega arith)

pub returns : goal.returns
returns c =
    c.put_half.ensures ∙ ap (λ (v : ℕ). sets c.args.image.now (512 * c.args.b + 510) (half v)) (its.front_summed c.args.image.now c.args.b c.check-sum.ensures)
