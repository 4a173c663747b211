use Rattle.book_query.proofs.Join as join
use Rattle.book_query.proofs.ask_empty.Goals as goal

pub returns-clause-asked : goal.returns-clause-asked
returns-clause-asked c =
    join.empty_told c.args.setting c.args.x c.in_ok-verdict.ensures.gives c.in_ok-verdict.ensures.pending c.empty_answer.result c.empty_answer.ensures.answers
