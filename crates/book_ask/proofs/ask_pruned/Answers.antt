use Rattle.refusal.proofs.Passed.{passed}
use Rattle.book_ask.proofs.Join as join
use Rattle.book_ask.proofs.ask_pruned.Goals as goal

pub pruned_answer-requires : goal.pruned_answer-requires
pruned_answer-requires c = join.pairs_ready c.args.setting c.args.x c.in_ok-m.ensures.gives

pub returns-in_err-m-clause-asked : goal.returns-in_err-m-clause-asked
returns-in_err-m-clause-asked c = rw (passed c.from_residual.ensures) (join.pruned_refused c.args.setting c.args.x c.in_err-m.ensures.gives)

pub returns-clause-asked : goal.returns-clause-asked
returns-clause-asked c =
    join.pruned_told c.args.setting c.args.x c.in_ok-m.ensures.gives c.pruned_answer.ensures.keeps c.in_ok-m.ensures.pending c.pruned_answer.result c.pruned_answer.ensures.answers
