use Rattle.std.proofs.Common.{rules}
use native.Mathlib.Omega.{arith}
use Rattle.aut_empty_turn.proofs.Emptied.{zeroed}
use Rattle.aut_empty_turn.proofs.take.Goals as goal

pub returns-clause-gives : goal.returns-clause-gives
returns-clause-gives c = record { state = search rules; packets = search rules; left = zeroed _ _ (omega arith) c.requires (c.fill.ensures.after (λ y e. e)) }
