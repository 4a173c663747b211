-- 01, "Lent tables": words 8 to 11 of a state are zero between queries. Tables as they are at rest: with these words zero, all else as it is. And any change of words 7 to 11 alone.
use Rattle.std.specs.Prelude.{List, [], ◌∷◌, ℕ, ◌+◌, ◌%◌, leb, if◌then◌else◌}
use Rattle.common.specs.Runs.{table}
use Rattle.aut_steps.specs.Tables.{Aut, put_states}
use Rattle.aut_delta_steps.specs.Delta.{Store, put_aut}
use Rattle.aut_query_steps.specs.Tables.{Tables, put_base}

-- ---- a change of the states' words, on all tables

abbrev pub in_aut : (List ℕ → List ℕ) → Aut → Aut
in_aut φ σ = put_states (table (φ σ.states.words) σ.states.count) σ

abbrev pub in_store : (List ℕ → List ℕ) → Store → Store
in_store φ σ = put_aut (in_aut φ σ.aut) σ

abbrev pub in_tables : (List ℕ → List ℕ) → Tables → Tables
in_tables φ σ = put_base (in_store φ σ.base) σ

-- ---- words 8 to 11 zero

-- the first of them
abbrev pub rest_from : ℕ
rest_from = 8

-- a part of a table that begins with its word i
unfoldable pub clear_from : ℕ → List ℕ → List ℕ
clear_from i [] = []
clear_from i (v ∷ vs) = (if leb rest_from (i % 12) then 0 else v) ∷ clear_from (i + 1) vs

unfoldable pub clear : List ℕ → List ℕ
clear st = clear_from 0 st

abbrev pub clear_tables : Tables → Tables
clear_tables σ = in_tables clear σ
