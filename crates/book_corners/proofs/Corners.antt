-- Every row of specs/Corners holds.
use mathlib.Core.Path.{refl}
use mathlib.Core.List.{◌++◌}
use Rattle.common.specs.Rows.{Hold}
use Rattle.common.proofs.Rows.{both_hold}
use Rattle.sp_steps.specs.Word as Word
use Rattle.sp_steps.specs.Model as Sp
use Rattle.spp_steps.specs.Model as Spp
use Rattle.aut_steps.specs.Corners as Constructors
use Rattle.aut_steps.proofs.Corners as ConstructorsLaws
use Rattle.aut_delta_steps.specs.Examples as Delta
use Rattle.aut_delta_steps.proofs.Examples as DeltaLaws
use Rattle.aut_query_steps.specs.Corners as Search
use Rattle.aut_query_steps.proofs.Corners as SearchLaws
use Rattle.book_corners.specs.Corners.{diagrams, rows}

hold : Hold diagrams
unfolding Sp.constants Sp.mk Sp.intern Sp.seek Sp.same Sp.kid Sp.room Sp.put Sp.complement Word.flip Spp.constants Spp.zeros Spp.ones Spp.tops Spp.zero_at Spp.one_at Spp.top_at Spp.mk Spp.seek Spp.same Spp.kid Spp.put Spp.room Spp.star Spp.star_exit
hold = (refl, (refl, (refl, (refl, (refl, tt)))))

pub corners : Hold rows
corners =
    both_hold diagrams (Constructors.rows ++ (Delta.rows ++ Search.rows)) hold
    (both_hold Constructors.rows (Delta.rows ++ Search.rows) ConstructorsLaws.corners
    (both_hold Delta.rows Search.rows DeltaLaws.corners SearchLaws.corners))
