use Rattle.refusal.proofs.Passed.{passed}
use Rattle.sp_steps.specs.Model as Sp
use Rattle.aut_why_rounds.proofs.Passes.{round_asks, rounded_itself}
use Rattle.aut_why.proofs.Loop as loops
use Rattle.aut_why.proofs.all_rounds.Goals as goal

pub round-requires : goal.round-requires
round-requires c = round_asks (λ t. Sp.zero_at c.args.config.fields) (loops.zero_rounding c.args.config c.args.aut.now c.requires.walk c.requires.among)

pub returns-in_err-round-clause-gives : goal.returns-in_err-round-clause-gives
returns-in_err-round-clause-gives c =
    let Q = c.requires in
    let R = loops.zero_rounding c.args.config c.args.aut.now Q.walk Q.among in
    rw (passed c.from_residual.ensures) (loops.all_stuck c.args.config c.args.aut.now Q.walk Q.among (rounded_itself c.in_err-round.ensures.keeps c.in_err-round.ensures.gives (λ t. Sp.zero_at c.args.config.fields) R))

pub copy_sets-requires : goal.copy_sets-requires
copy_sets-requires c =
    let Q = c.requires in
    let R = loops.zero_rounding c.args.config c.args.aut.now Q.walk Q.among in
    loops.all_copies c.args.config c.args.aut.now Q.walk Q.among c.round.ensures.pending (rounded_itself c.in_ok-round.ensures.keeps c.in_ok-round.ensures.gives (λ t. Sp.zero_at c.args.config.fields) R)

pub rounds-requires : goal.rounds-requires
rounds-requires c =
    let Q = c.requires in
    let R = loops.zero_rounding c.args.config c.args.aut.now Q.walk Q.among in
    let G = rounded_itself c.in_ok-round.ensures.keeps c.in_ok-round.ensures.gives (λ t. Sp.zero_at c.args.config.fields) R in
    let K = c.copy_sets.ensures in
    record { now = G.next; going = loops.all_going c.args.config c.args.aut.now Q.walk Q.among c.round.ensures.pending G K.keeps K.pending K.gives }

pub returns-clause-gives : goal.returns-clause-gives
returns-clause-gives c =
    let Q = c.requires in
    let R = loops.zero_rounding c.args.config c.args.aut.now Q.walk Q.among in
    let G = rounded_itself c.in_ok-round.ensures.keeps c.in_ok-round.ensures.gives (λ t. Sp.zero_at c.args.config.fields) R in
    let K = c.copy_sets.ensures in
    loops.all_done c.args.config c.args.aut.now Q.walk Q.among c.round.ensures.pending G K.keeps K.pending K.gives c.rounds.ensures.gives
