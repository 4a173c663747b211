-- A set's handle has room for one more.
use Prim.Native.Nat.{ℕ, zero, suc, ◌+◌, ◌<◌}
use native.Mathlib.Omega.{arith}
use Rattle.common.specs.Runs.{Table}
use Rattle.sp_steps.specs.Wf as SpLaws

-- of a set, + 1 is a word
pub set_small : {N : ℕ} {τ : Table} (d h : ℕ) → SpLaws.Wf N τ → SpLaws.ValidAt τ d h → h + 1 < 4294967296
set_small zero h w a = omega arith
set_small (suc d) h w a = omega (arith, a.1, w.small)
