use mathlib.Core.Path.{◌∙◌, sym}
use native.Mathlib.Omega.{arith}
use Rattle.refusal.proofs.Passed.{passed}
use Rattle.aut_delta.proofs.Entering as entering
use Rattle.aut_delta.proofs.enter.Goals as goal

pub epsilon-requires : goal.epsilon-requires
epsilon-requires c = entering.first_ready c.requires c.first-a.ensures (sym c.kind.ensures ∙ c.in-7.is)

pub returns-in_err-epsilon-in-7-clause-gives : goal.returns-in_err-epsilon-in-7-clause-gives
returns-in_err-epsilon-in-7-clause-gives c = entering.first_stuck c.requires c.first-a.ensures (sym c.kind.ensures ∙ c.in-7.is) c.in_err-epsilon-in-7.ensures.keeps (passed c.from_residual.ensures) c.in_err-epsilon-in-7.ensures.gives

pub enter_star-requires : goal.enter_star-requires
enter_star-requires c = entering.star_first c.requires c.first-a.ensures (sym c.kind.ensures ∙ c.in-8.is)

pub returns-in_ok-epsilon-in-7-clause-gives : goal.returns-in_ok-epsilon-in-7-clause-gives
returns-in_ok-epsilon-in-7-clause-gives c =
    let e = c.in_ok-epsilon-in-7.ensures in
    entering.first_made c.requires c.first-a.ensures (sym c.kind.ensures ∙ c.in-7.is) e.keeps e.gives e.after

pub returns-in-8-clause-gives : goal.returns-in-8-clause-gives
returns-in-8-clause-gives c = entering.first_starred c.requires c.first-a.ensures (sym c.kind.ensures ∙ c.in-8.is) c.enter_star.ensures.gives

pub returns-in_default-clause-gives : goal.returns-in_default-clause-gives
returns-in_default-clause-gives c = entering.in_other c.requires (λ e. omega (arith, c.kind.ensures, c.in_default)) (λ e. omega (arith, c.kind.ensures, c.in_default))
