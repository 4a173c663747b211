use native.Mathlib.Omega.{arith}
use Rattle.aut_empty_words.proofs.Stacks.{emptied}
use Rattle.aut_empty_words.proofs.clear_pending.Goals as goal

pub returns-clause-gives : goal.returns-clause-gives
returns-clause-gives c = emptied (omega arith) c.requires (c.fill.ensures.after (λ y e. e))
