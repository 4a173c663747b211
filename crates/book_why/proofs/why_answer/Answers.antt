use native.Mathlib.Omega.{arith}
use Rattle.aut_query_calls.specs.Working.{with_members}
use Rattle.aut_query_calls.proofs.Works.{keeps_beside}
use Rattle.book_why.proofs.Writing as writing
use Rattle.refusal.proofs.Passed.{passed}
use Rattle.book_why.proofs.why_answer.Goals as goal

pub returns-in_default-clause-gives : goal.returns-in_default-clause-gives
returns-in_default-clause-gives c = record { gives = λ mem ws A. writing.answer_none c.args.config (with_members mem c.args.aut.now) A c.in_default.is c.none_answer.ensures.answers }

pub why_length-long-requires : goal.why_length-long-requires
why_length-long-requires c =
    let Q = c.requires in
    (Q.answering.standing.walk.working.ready.ready.few, writing.most c.args.config (with_members Q.members c.args.aut.now) Q.answering c.in-Some.is)

pub returns-in_err-room-clause-gives : goal.returns-in_err-room-clause-gives
returns-in_err-room-clause-gives c =
    rw (passed c.from_residual.ensures) (record {
      gives = λ mem ws A. writing.answer_full c.args.config (with_members mem c.args.aut.now) A c.in-Some.is c.in_err-room.ensures.0 (omega (arith, c.in_err-room.ensures.1, c.why_length-long.ensures));
    })

pub put_string-requires : goal.put_string-requires
put_string-requires c =
    let A = c.requires.answering in
    let m = c.requires.members in
    let x = with_members m c.args.aut.now in
    record {
      members = m;
      rounds = c.requires.rounds;
      string = _;
      picks = writing.answer_picks c.args.config x A c.in-Some.is (keeps_beside m c.forget.ensures.keeps) c.forget.ensures.gives;
      most = writing.most c.args.config x A c.in-Some.is;
      room = omega (arith, c.in_ok-room.ensures, c.why_length-long.ensures);
    }

pub returns-clause-gives : goal.returns-clause-gives
returns-clause-gives c =
    let F = c.forget.ensures.gives in
    record {
      gives = λ mem ws A.
          let x = with_members mem c.args.aut.now in
          let K = keeps_beside mem c.forget.ensures.keeps in
          writing.answer_told c.args.config x A c.in-Some.is K F (c.put_string.ensures.gives.gives mem ws _ (writing.answer_picks c.args.config x A c.in-Some.is K F));
    }
