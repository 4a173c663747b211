use native.Mathlib.Omega.{arith}
use Rattle.image_words.specs.Clauses.{head_of}
use Rattle.image_words.proofs.Words as its
use Rattle.image_words.proofs.total.Goals as goal

pub returns : goal.returns
returns c = omega (arith, its.start_5 (head_of c.args.h))
