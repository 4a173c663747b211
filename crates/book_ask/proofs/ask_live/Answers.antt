use Rattle.refusal.proofs.Passed.{passed}
use Rattle.book_ask.proofs.Join as join
use Rattle.book_ask.proofs.ask_live.Goals as goal

pub size-k-requires : goal.size-k-requires
size-k-requires c = join.live_ready c.args.setting c.args.x c.in_ok-live.ensures.gives

pub live_answer-requires : goal.live_answer-requires
live_answer-requires c =
    (c.requires.query.ready.ready.few, join.live_most c.args.setting c.args.x c.in_ok-live.ensures.gives c.size-k.ensures.size)

pub returns-in_err-live-clause-asked : goal.returns-in_err-live-clause-asked
returns-in_err-live-clause-asked c = rw (passed c.from_residual.ensures) (join.live_refused c.args.setting c.args.x c.in_err-live.ensures.gives)

pub returns-clause-asked : goal.returns-clause-asked
returns-clause-asked c =
    join.live_told c.args.setting c.args.x c.in_ok-live.ensures.gives c.size-k.ensures.size c.size-k.ensures.keeps c.in_ok-live.ensures.pending c.live_answer.result c.live_answer.ensures.answers
