use native.Mathlib.Omega.{arith}
use Rattle.std.proofs.Common.{rules}
use Rattle.refusal.proofs.Passed.{passed}
use Rattle.book_writer.proofs.Rights.{most_digits}
use Rattle.book_line.proofs.Doing as doing
use Rattle.book_line.proofs.ask_line.Goals as goal

pub put_decimal-requires : goal.put_decimal-requires
put_decimal-requires c = omega (arith, most_digits c.args.a)

pub returns-in_err-ask-clause-gives : goal.returns-in_err-ask-clause-gives
returns-in_err-ask-clause-gives c = rw (passed c.from_residual.ensures) (doing.ask_stops c.requires c.args.query c.args.a (doing.name_is c.put_decimal.ensures.puts (search rules)) c.in_err-ask.ensures.asked)

pub returns-clause-gives : goal.returns-clause-gives
returns-clause-gives c = doing.ask_gives c.requires c.args.query c.args.a (doing.name_is c.put_decimal.ensures.puts (search rules)) c.in_ok-ask.ensures.asked c.add.ensures.keeps c.add.ensures.lines c.add.ensures.count c.in_ok-ask.ensures.keeps
