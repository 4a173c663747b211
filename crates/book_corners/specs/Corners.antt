-- 01, "Corners, file by file": the rows marked [C], as one table of what the steps come to and what 01 says.
use Rattle.std.specs.Prelude.{List, [], ◌∷◌, ◌++◌, ℕ, replicate}
use Rattle.common.specs.Outcome.{Outcome, refused, given}
use Rattle.common.specs.Runs.{Table, table}
use Rattle.common.specs.Rows.{Row, row}
use Rattle.sp_steps.specs.Model as Sp
use Rattle.spp_steps.specs.Model as Spp
use Rattle.aut_steps.specs.Corners as Constructors
use Rattle.aut_delta_steps.specs.Examples as Delta
use Rattle.aut_query_steps.specs.Corners as Search

-- a table with no record in use
abbrev fresh : ℕ → Table
fresh k = table (replicate k 0) 0

-- what a step gave, and how many records are then in use
abbrev pub counted : {A : Type 0} → Outcome Table A → Outcome ℕ A
counted (refused number) = refused number
counted (given σ a) = given σ.count a

abbrev pub diagrams : List Row
diagrams =
    -- sp.rs: 3 fields: empty set 6, 3 nodes
    row (counted (Sp.constants 3 (fresh 6))) (given 3 6)
    -- .. and full set 7
    ∷ row (Sp.complement 6) 7
    -- spp.rs: 3 fields: zero 4, identity 7, top 10, 9 nodes
    ∷ row (counted (Spp.constants 3 (fresh 36))) (given 9 (record { zero = 4; one = 7; top = 10 }))
    -- spp.rs: 0 fields: identity and top are both handle 1
    ∷ row (counted (Spp.constants 0 (fresh 0))) (given 0 (record { zero = 0; one = 1; top = 1 }))
    -- spp.rs: star of zero is the identity (here of 3 fields; `star_zero` says it of every depth)
    ∷ row (Spp.star 3 3 4 (fresh 36)) (given (fresh 36) 7)
    ∷ []

-- and the rows of aut.rs, each with every word of the tables: on constructors, on delta, on the search
abbrev pub rows : List Row
rows = diagrams ++ (Constructors.rows ++ (Delta.rows ++ Search.rows))
