use native.Mathlib.Omega.{arith}
use Rattle.image_form.specs.Form.{half_at}
use Rattle.image_block.proofs.half_at.Goals as goal

pub returns : goal.returns
unfolding half_at
returns c = omega (arith, c.from_be_bytes.ensures)
