-- What holds of the definitions of specs/Op.
use mathlib.Core.Bool.{Bool, true, false, not, ◌||◌}
use Rattle.sp_steps.specs.Op.{Op, union, xor}

abbrev pub sem : Op → Bool → Bool → Bool
sem union x y = x || y
sem xor true y = not y
sem xor false y = y
