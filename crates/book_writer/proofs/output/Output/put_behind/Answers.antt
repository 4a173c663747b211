use Rattle.book_writer.proofs.Contracts.{put_append}
use Rattle.book_writer.proofs.output.Output.put_behind.Goals as goal

pub returns-clause-puts : goal.returns-clause-puts
returns-clause-puts c = put_append c.put.ensures.puts c.put_packet.ensures.puts
