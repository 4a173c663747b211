-- The rows of two tables hold together.
use mathlib.Core.List.{List, [], ◌∷◌, ◌++◌}
use Rattle.common.specs.Rows.{Row, Hold}

pub both_hold : (l m : List Row) → Hold l → Hold m → Hold (l ++ m)
both_hold [] m h k = k
both_hold (r ∷ rs) m h k = (h.0, both_hold rs m h.1 k)
