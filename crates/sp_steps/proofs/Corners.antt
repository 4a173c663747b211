-- 01, "Corners, file by file", sp.rs: the rows marked [C], computed.
use mathlib.Core.Path.{◌≡◌, refl}
use mathlib.Core.List.{[], ◌∷◌}
use lib.ListN.{replicate}
use Rattle.common.specs.Outcome.{given, refused}
use Rattle.common.specs.Runs.{table}
use Rattle.sp_steps.specs.Word.{flip}
use Rattle.sp_steps.specs.Model.{kid, same, seek, room, put, intern, mk, complement, constants}

-- [C] 3 fields: empty set 6, full set 7, 3 nodes
pub three_fields : constants 3 (table (replicate 8 0) 0) ≡ given (table (0 ∷ 0 ∷ 2 ∷ 2 ∷ 4 ∷ 4 ∷ 0 ∷ 0 ∷ []) 3) 6
unfolding constants mk intern seek same kid room put flip
three_fields = refl

pub three_full : complement 6 ≡ 7
unfolding complement flip
three_full = refl

-- one record short
pub three_short : constants 3 (table (replicate 5 0) 0) ≡ refused 20
unfolding constants mk intern seek same kid room put flip
three_short = refl
