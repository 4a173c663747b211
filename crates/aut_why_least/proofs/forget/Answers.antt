use native.Mathlib.Omega.{arith}
use Rattle.aut_why_least.proofs.Cleared.{forgotten}
use Rattle.aut_why_least.proofs.forget.Goals as goal

pub returns-then-aut-gt-LISTS-clause-gives : goal.returns-then-aut-gt-LISTS-clause-gives
returns-then-aut-gt-LISTS-clause-gives c = forgotten (omega arith) (c.fill.ensures.after (λ y e. e))
