use mathlib.Core.Path.{refl, ◌∙◌}
use Rattle.refusal.proofs.Passed.{passed}
use Rattle.aut_epsilon.proofs.Turns as turns
use Rattle.aut_epsilon.proofs.+epsilon.Goals as goal

pub returns-then-not-is_open-clause-gives : goal.returns-then-not-is_open-clause-gives
returns-then-not-is_open-clause-gives t c = turns.kept c.requires c.if-not-is_open.ensures c.value.ensures

pub returns-then-not-is_open-clause-after : goal.returns-then-not-is_open-clause-after
returns-then-not-is_open-clause-after t c = turns.later c.requires refl (returns-then-not-is_open-clause-gives t c)

pub lowest-y-requires : goal.lowest-y-requires
lowest-y-requires t c = turns.lowest_ready c.loop-aut.invariant

pub finish-requires : goal.finish-requires
finish-requires t c = turns.finish_ready c.loop-aut.invariant c.lowest-y.ensures c.if-y-x.true

pub returns-then-y-x-clause-gives : goal.returns-then-y-x-clause-gives
returns-then-y-x-clause-gives t c = turns.done c.loop-aut.invariant c.finish.ensures.keeps.scratch.length c.finish.ensures.gives

pub returns-then-y-x-clause-after : goal.returns-then-y-x-clause-after
returns-then-y-x-clause-after t c = turns.later c.requires (c.finish.ensures.keeps.scratch.length ∙ c.loop-aut.invariant.keeps.scratch.length) (returns-then-y-x-clause-gives t c)

pub epsilon-requires : goal.epsilon-requires
epsilon-requires t c = turns.call_ready c.loop-aut.invariant c.lowest-y.ensures c.if-y-x.false c.decreases c.requires.has

pub loop-aut-smaller : goal.loop-aut-smaller
loop-aut-smaller t c = turns.fewer c.loop-aut.invariant c.lowest-y.ensures c.epsilon.new.aut c.in_ok-epsilon.ensures.after c.in_ok-epsilon.ensures.states

pub loop-aut-preserved : goal.loop-aut-preserved
loop-aut-preserved t c = turns.again c.loop-aut.invariant c.lowest-y.ensures c.if-y-x.false c.in_ok-epsilon.ensures.keeps c.in_ok-epsilon.ensures.members c.in_ok-epsilon.ensures.states c.in_ok-epsilon.ensures.gives c.in_ok-epsilon.ensures.after

pub returns-in_err-epsilon-clause-gives : goal.returns-in_err-epsilon-clause-gives
returns-in_err-epsilon-clause-gives t c = turns.stuck c.loop-aut.invariant c.lowest-y.ensures c.in_err-epsilon.ensures.gives (passed c.from_residual.ensures)
