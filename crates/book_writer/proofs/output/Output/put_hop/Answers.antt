use mathlib.Core.Path.{sym, ap}
use mathlib.Core.Bool.{Bool}
use Rattle.book_writer.proofs.Contracts.{put_of}
use Rattle.book_writer.specs.Clauses.{hop_part}
use Rattle.book_writer.proofs.output.Output.put_hop.Goals as goal
use Rattle.book_writer.proofs.output.Output.put_hop.Goals.{then-first, else-first}

pub returns-clause-puts : goal.returns-clause-puts
returns-clause-puts c =
    let hop = λ (first : Bool). hop_part c.args.fields first c.args.packet in
    elim c.if-first.branch [
      | then-first w ↦ put_of (ap hop (sym w.if-first.true)) (rw w.text-is at c.put_behind.ensures.puts)
      | else-first w ↦ put_of (ap hop (sym w.if-first.false)) (rw w.text-is at c.put_behind.ensures.puts)
    ]
