-- A handle with its low bit changed.
use mathlib.Core.Path.{◌≡◌}
use Prim.Native.Nat.{ℕ, zero, suc, ◌<◌}
use native.Mathlib.Omega.{arith}
use Rattle.std.specs.Int.Bits.{bit_xor, xor_zero_r, xor_add_and}
use Rattle.std.proofs.lemmas.Nat.{and_mask}
use Rattle.sp_steps.specs.Word.{flip}

pub xor_is : (x s : ℕ) → s < 2 → bit_xor x s ≡ flip s x
unfolding flip
xor_is x zero l = omega (arith, xor_zero_r x)
xor_is x (suc zero) l = omega (arith, xor_add_and x 1, and_mask x 1)
xor_is x (suc (suc s)) l = absurd (omega arith)
