-- 01, "Corners", aut.rs: the rows marked [C] on delta, with every word of the tables.
use Rattle.std.specs.Prelude.{List, [], ◌∷◌, ℕ, ◌/◌, ◌*◌, length}
use Rattle.common.specs.Outcome.{given, ◌>>=◌}
use Rattle.common.specs.Runs.{table}
use Rattle.common.specs.Rows.{Row, from}
use Rattle.netkat_steps.specs.ListSteps.{edge}
use Rattle.aut_steps.specs.Tables.{limits01, on_states, SPP, COMPLEMENT, DUP, TOP}
use Rattle.aut_steps.specs.Constructors.{mk_spp, mk_dup, mk_complement}
use Rattle.aut_steps.specs.Corners.{filled, tables}
use Rattle.aut_delta_steps.specs.Delta.{Store, store, on_aut, delta}

-- the words of a state: kind, operands, nesting, epsilon + 1, transition start, count + 1
abbrev pub state : ℕ → ℕ → ℕ → ℕ → ℕ → ℕ → ℕ → List ℕ → List ℕ
state k x y e ε start count rest = k ∷ x ∷ y ∷ e ∷ ε ∷ start ∷ count ∷ 0 ∷ 0 ∷ 0 ∷ 0 ∷ 0 ∷ rest

-- tables of one field (zero is the handle 2, identity 3, top 4) with room for r transitions: these nodes, states, members and transitions
abbrev pub holding : ℕ → ℕ → ℕ → List ℕ → List ℕ → List ℕ → List ℕ → Store
holding s m r nodes states members transitions = store (tables s m nodes states members) (table (filled (2 * r) transitions) (length transitions / 2))

abbrev pub rows : List Row
rows =
    -- delta(Dup) is one transition, identity label, to the identity state
    from (holding 4 4 4 [] [] [] []) (on_aut (on_states mk_dup) >>= λ x0. delta 1 limits01 x0)
    (given (holding 4 4 4 [] (state DUP 0 0 0 0 0 2 (state SPP 3 0 0 0 0 0 (state SPP 2 0 0 0 0 0 []))) [] (1 ∷ 3 ∷ [])) (edge 1 3 ∷ []))
    -- delta(Complement(zero)) is one transition, top label, to Top
    ∷ from (holding 4 4 4 [] [] [] []) (on_aut (on_states (mk_spp 2)) >>= λ x0. on_aut (on_states (mk_complement 1 limits01 x0)) >>= λ x1. delta 1 limits01 x1)
    (given (holding 4 4 4 [] (state SPP 2 0 0 0 0 1 (state COMPLEMENT 0 0 1 0 0 2 (state TOP 0 0 0 0 0 0 []))) [] (2 ∷ 4 ∷ [])) (edge 2 4 ∷ []))
    ∷ []
