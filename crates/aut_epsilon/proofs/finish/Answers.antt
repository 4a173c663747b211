use native.Mathlib.Omega.{arith}
use Rattle.refusal.proofs.Passed.{passed}
use Rattle.aut_epsilon.proofs.Turns as turns
use Rattle.aut_epsilon.proofs.finish.Goals as goal

pub combine-requires : goal.combine-requires
combine-requires c = turns.combine_ready c.requires

pub returns-in_err-h-clause-gives : goal.returns-in_err-h-clause-gives
returns-in_err-h-clause-gives c = turns.unfinished c.requires c.in_err-h.ensures.gives (passed c.from_residual.ensures)

pub overflow_add-aut : goal.overflow_add-aut
overflow_add-aut c = omega (arith, turns.handle_small c.requires c.in_ok-h.ensures.keeps c.in_ok-h.ensures.gives)

pub returns-clause-gives : goal.returns-clause-gives
returns-clause-gives c = record { is = turns.marked c.requires c.in_ok-h.ensures.keeps c.in_ok-h.ensures.gives; left = c.in_ok-h.ensures.gives.left }
