-- 01, "Corners", aut.rs: SPP top is not Top: SPP top and Dup meet in a state whose search says empty after 1 pair. The row marked [C], on tables that are begun, with every word of them
-- afterwards.
use Rattle.std.specs.Prelude.{List, [], ◌∷◌, ℕ, ◌+◌, ◌*◌, ◌/◌, length}
use Rattle.common.specs.Outcome.{given, ◌>>=◌}
use Rattle.common.specs.Runs.{table}
use Rattle.common.specs.Rows.{Row, from}
use Rattle.netkat.specs.Search.{yes}
use Rattle.aut_steps.specs.Tables.{limits01, on_states, SPP, INTERSECT, DUP}
use Rattle.aut_steps.specs.Constructors.{mk_spp, mk_dup, mk_intersect}
use Rattle.aut_steps.specs.Corners.{filled}
use Rattle.aut_delta_steps.specs.Delta.{on_aut}
use Rattle.aut_delta_steps.specs.Examples as Delta
use Rattle.aut_delta_steps.specs.Examples.{state}
use Rattle.aut_query_steps.specs.Tables.{Tables, tables, on_base}
use Rattle.aut_query_steps.specs.Search.{is_empty}

-- tables of one field (packet sets: empty 2, full 3; relations: zero 2, identity 3, top 4) with room for p packet nodes, 8 relation nodes, s states, m members and
-- r transitions: these packet nodes and relation nodes beside the constants, states, members and transitions
abbrev pub holding : ℕ → ℕ → ℕ → ℕ → List ℕ → List ℕ → List ℕ → List ℕ → List ℕ → Tables
holding p s m r sets nodes states members transitions =
    tables (table (filled (2 * p) (0 ∷ 0 ∷ sets)) (1 + length sets / 2)) (Delta.holding s m r nodes states members transitions)

-- begun, with no state yet
abbrev pub room : ℕ → Tables
room p = holding p 6 4 4 [] [] [] [] []

abbrev pub rows : List Row
rows =
    -- SPP top and Dup meet in a state whose search says empty after 1 pair
    from (room 4) (on_base (on_aut (on_states (mk_spp 4))) >>= λ x0. on_base (on_aut (on_states mk_dup)) >>= λ x1. on_base (on_aut (mk_intersect 1 limits01 x0 x1)) >>= λ x2. is_empty 1 limits01 4 10 x2)
    (given (holding 4 6 4 4 [] []
    (state SPP 4 0 0 0 1 1 (state DUP 0 0 0 3 0 2 (state INTERSECT 0 2 1 3 1 1 (state SPP 3 0 0 0 0 0 (state SPP 2 0 0 0 0 0 [])))))
    (1 ∷ 0 ∷ []) (3 ∷ 3 ∷ [])) (yes, 1))
    ∷ []
