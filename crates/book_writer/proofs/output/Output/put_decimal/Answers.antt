use mathlib.Core.Path.{◌∙◌, ap}
use Prim.Native.Nat.{ℕ}
use native.Mathlib.Omega.{arith}
use Rattle.book_writer.specs.Clauses.{last_digits}
use Rattle.book_writer.proofs.Contracts.{put_of}
use Rattle.book_writer.proofs.Rights.{decimal_are}
use Rattle.book_writer.proofs.output.Output.put_decimal.Goals as goal

pub returns-clause-puts : goal.returns-clause-puts
returns-clause-puts c =
    put_of (ap (λ (k : ℕ). last_digits 10 k c.args.n) c.digits-k.ensures.is ∙ decimal_are c.args.n (omega arith)) c.put_digits.ensures.puts
