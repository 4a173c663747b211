use mathlib.Core.Path.{◌≡◌}
use Rattle.book_writer.proofs.Rights.{Drawn}
use Rattle.book_writer.proofs.output.Output.put_digits.Given as goal

abbrev pub invariant-loop-i : goal.invariant-loop-i
invariant-loop-i l =
    (l.self.bytes.ghost_name ≡ l.initial.self.bytes.ghost_name) × Drawn l.initial.self.bytes.now l.at l.base l.k l.n l.self.bytes.now l.m l.i
