use mathlib.Core.Path.{ap}
use Prim.Native.Nat.{ℕ, ◌+◌}
use native.Mathlib.Omega.{arith}
use lib.ListN.{get_or}
use Rattle.image_form.specs.Form.{wide_at, half_at}
use Rattle.image_block.proofs.word_at.Goals as goal

pub returns : goal.returns
unfolding wide_at half_at
returns c =
    omega (arith, c.from_be_bytes.ensures, ap (λ (j : ℕ). get_or c.args.image.now j 0) {x = c.args.i + 2 + 1} {y = c.args.i + 3} (omega arith))
