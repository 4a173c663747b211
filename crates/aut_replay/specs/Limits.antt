-- 01, "Who can cause a refusal" (6, 7, 8, 9): limits only refuse. Under larger limits a step on states and lists comes to the same from the same tables, or was refused for a limit. No table has to be in order.
use Rattle.std.specs.Prelude.{ℕ}
use Rattle.common.specs.Outcome.{Outcome, refused, Step}
use Rattle.aut_steps.specs.Tables.{Limits}
use Rattle.aut_delta_steps.specs.Delta.{delta}
use Rattle.aut_replay.specs.Replay.{Call, called, ListCall, listed}

-- the numbers of limits
pub data OfLimit : ℕ → Type 0 where
  list : OfLimit 6
  products : OfLimit 7
  nesting : OfLimit 8
  transitions : OfLimit 9

-- the second outcome is the first, unless that is refused for a limit
pub data Carries {S A : Type 0} : Outcome S A → Outcome S A → Type 0 where
  lifted : {number : ℕ} {p : Outcome S A} → OfLimit number → Carries (refused number) p
  same : {o : Outcome S A} → Carries o o

-- from all tables
abbrev pub Carried : {S A : Type 0} → Step S A → Step S A → Type 0
Carried {S} m k = (σ : S) → Carries (m σ) (k σ)

-- the law, of constructors, list operations and delta; epsilon knows no limit
pub record LimitsOnly (N : ℕ) (L L' : Limits) : Type 0 where
  pub constructors : (c : Call) → Carried (called N c L) (called N c L')
  pub lists : (c : ListCall) → Carried (listed N c L) (listed N c L')
  pub delta : (x : ℕ) → Carried (delta N L x) (delta N L' x)
