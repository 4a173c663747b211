use mathlib.Core.Path.{refl, ◌∙◌}
use native.Mathlib.Omega.{arith}
use Rattle.std.proofs.Common.{rules}
use Rattle.refusal.proofs.Passed.{passed}
use Rattle.aut_why_rounds.proofs.Passes.{round_asks}
use Rattle.aut_why.proofs.Loop as loops
use Rattle.aut_why.proofs.rounds.Goals as goal

pub loop-f-init : goal.loop-f-init
loop-f-init c = record { keeps = search rules; pending = refl; between = λ first Q. loops.rounds_begin c.args.config c.args.aut.now Q }

pub hops_after-f-requires : goal.hops_after-f-requires
hops_after-f-requires c =
    let Q = c.requires in
    let I = c.loop-f.invariant in
    let v = I.between Q.now Q.going in
    record {
      few = Q.going.rounding.walk.working.ready.ready.few;
      there = loops.rounds_there c.args.config c.args.aut.now Q.going I.pending v;
      some = loops.rounds_some c.args.config c.args.aut.now Q.going I.pending v;
    }

pub next_round-requires : goal.next_round-requires
next_round-requires c =
    let v = c.loop-f.invariant.between c.requires.now c.requires.going in round_asks v.now v.rounding

pub returns-in_err-next_round-clause-gives : goal.returns-in_err-next_round-clause-gives
returns-in_err-next_round-clause-gives c = record {
  gives = λ first Q.
      let I = c.loop-f.invariant in
      let v = I.between first Q in
      rw (passed c.from_residual.ensures) (loops.rounds_stuck c.args.config c.args.aut.now Q I.pending v c.hops_after-f.ensures (c.in_err-next_round.ensures.gives.gives v.now v.rounding));
}

pub returns-then-not-branch-clause-gives : goal.returns-then-not-branch-clause-gives
returns-then-not-branch-clause-gives c = record {
  gives = λ first Q.
      let I = c.loop-f.invariant in
      let v = I.between first Q in
      loops.rounds_end c.args.config c.args.aut.now Q I.pending v c.hops_after-f.ensures (c.in_ok-next_round.ensures.gives.gives v.now v.rounding) (c.next_round.ensures.pending ∙ I.pending) c.if-not-branch.true;
}

pub overflow_add-k : goal.overflow_add-k
overflow_add-k c =
    let Q = c.requires in
    let I = c.loop-f.invariant in
    omega (arith, loops.rounds_less c.args.config c.args.aut.now Q.going I.pending (I.between Q.now Q.going))

pub loop-f-smaller : goal.loop-f-smaller
loop-f-smaller c =
    let Q = c.requires in
    let I = c.loop-f.invariant in
    omega (arith, loops.rounds_few c.args.config c.args.aut.now Q.going I.pending (I.between Q.now Q.going))

pub loop-f-preserved : goal.loop-f-preserved
loop-f-preserved c =
    let I = c.loop-f.invariant in
    record {
      keeps = search rules;
      pending = c.next_round.ensures.pending ∙ I.pending;
      between = λ first Q.
          let v = I.between first Q in
          loops.rounds_again c.args.config c.args.aut.now Q I.pending v c.hops_after-f.ensures (c.in_ok-next_round.ensures.gives.gives v.now v.rounding) (c.next_round.ensures.pending ∙ I.pending) c.if-not-branch.false;
    }
