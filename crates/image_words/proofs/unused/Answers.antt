use Rattle.std.proofs.Common.{rules, refl, ◌+◌, ◌*◌}
use native.Mathlib.Omega.{arith}
use Rattle.image_words.proofs.Words as its
use Rattle.image_words.proofs.unused.Goals as goal

pub returns : goal.returns
returns c =
    its.unused_by c.args.image.now c.iter.result.rest.now c.args.b c.args.j c.args.k (512 * c.args.b + (2 + 4 * c.args.j)) refl (omega (arith, c.requires.0, c.requires.1)) c.iter.ensures.rest c.all.result (search rules)
