use Rattle.refusal.proofs.Passed.{passed}
use Rattle.aut_query_calls.specs.Working.{with_members}
use Rattle.aut_why_rounds.proofs.Passes.{rounded_itself}
use Rattle.aut_why.proofs.Loop as loops
use Rattle.aut_why.proofs.next_round.Goals as goal

pub returns-in_err-round-clause-gives : goal.returns-in_err-round-clause-gives
returns-in_err-round-clause-gives c = record { gives = λ now R. rw (passed c.from_residual.ensures) (loops.next_stuck c.args.config c.args.aut.now R (rounded_itself c.in_err-round.ensures.keeps c.in_err-round.ensures.gives now R)) }

pub same_sets-requires : goal.same_sets-requires
same_sets-requires c =
    let Q = c.requires in
    loops.next_keeps c.args.config (with_members Q.members c.args.aut.now) Q.rounding c.round.ensures.pending (c.in_ok-round.ensures.gives.gives Q.members Q.before Q.rounding)

pub returns-then-same_sets-clause-gives : goal.returns-then-same_sets-clause-gives
returns-then-same_sets-clause-gives c = record {
  gives = λ now R. loops.next_same c.args.config c.args.aut.now R c.round.ensures.pending (rounded_itself c.in_ok-round.ensures.keeps c.in_ok-round.ensures.gives now R) c.same_sets.ensures c.if-same_sets.true;
}

pub copy_sets-requires : goal.copy_sets-requires
copy_sets-requires c =
    let Q = c.requires in
    loops.next_copies c.args.config (with_members Q.members c.args.aut.now) Q.rounding c.round.ensures.pending (c.in_ok-round.ensures.gives.gives Q.members Q.before Q.rounding)

pub returns-clause-gives : goal.returns-clause-gives
returns-clause-gives c = record {
  gives = λ now R.
      loops.next_more c.args.config c.args.aut.now R c.round.ensures.pending (rounded_itself c.in_ok-round.ensures.keeps c.in_ok-round.ensures.gives now R) c.same_sets.ensures c.if-same_sets.false c.copy_sets.ensures.keeps c.copy_sets.ensures.pending c.copy_sets.ensures.gives;
}
