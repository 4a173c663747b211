use Rattle.refusal.proofs.Passed.{passed}
use Rattle.book_ask.proofs.Why as why
use Rattle.book_ask.proofs.ask_why.Goals as goal

pub why_answer-requires : goal.why_answer-requires
why_answer-requires c = why.why_asks c.args.setting c.args.x c.requires c.in_ok-n.ensures.gives

pub clear-requires : goal.clear-requires
clear-requires c = why.why_keeps c.args.setting c.args.x c.requires c.in_ok-n.ensures.gives c.in_ok-why_answer.ensures.keeps c.in_ok-why_answer.ensures.gives

pub returns-in_err-n-clause-asked : goal.returns-in_err-n-clause-asked
returns-in_err-n-clause-asked c = rw (passed c.from_residual.ensures) (why.why_refused c.args.setting c.args.x c.in_err-n.ensures.gives)

pub returns-in_err-why_answer-clause-asked : goal.returns-in_err-why_answer-clause-asked
returns-in_err-why_answer-clause-asked c =
    rw (passed c.from_residual-in_err-why_answer.ensures) (why.why_full c.args.setting c.args.x c.requires c.in_ok-n.ensures.gives c.in_err-why_answer.ensures.keeps c.in_err-why_answer.ensures.gives)

pub returns-clause-asked : goal.returns-clause-asked
returns-clause-asked c =
    why.why_told c.args.setting c.args.x c.requires c.in_ok-n.ensures.gives c.in_ok-why_answer.ensures.keeps c.in_ok-why_answer.ensures.gives c.clear.ensures.keeps c.clear.ensures.gives
