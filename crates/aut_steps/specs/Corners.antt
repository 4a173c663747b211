-- 01, "Corners", aut.rs: the rows marked [C] that concern constructors. What a run of them comes to: a refusal, or all words of all tables and the answer.
use Rattle.std.specs.Prelude.{List, [], ◌∷◌, ◌++◌, ℕ, ◌-◌, ◌*◌, ◌/◌, length, replicate}
use Rattle.common.specs.Outcome.{Outcome, given, ◌>>=◌}
use Rattle.common.specs.Runs.{table}
use Rattle.common.specs.Rows.{Row, from}
use Rattle.aut_steps.specs.Tables.{limits01, Aut, aut, on_states, SPP, INTERSECT, DIFFERENCE, COMPLEMENT, DUP, TOP}
use Rattle.aut_steps.specs.Constructors.{mk_spp, mk_dup, mk_top, mk_union_n, mk_intersect_n, mk_intersect, mk_difference, mk_complement}

-- ---- tables of one field: zero is the handle 2, identity 3, top 4

abbrev pub state : ℕ → ℕ → ℕ → ℕ → List ℕ → List ℕ
state k x y e rest = k ∷ x ∷ y ∷ e ∷ 0 ∷ 0 ∷ 0 ∷ 0 ∷ 0 ∷ 0 ∷ 0 ∷ 0 ∷ rest

-- these words, and zeros up to n
abbrev pub filled : ℕ → List ℕ → List ℕ
filled n ws = ws ++ replicate (n - length ws) 0

-- with room for 8 relation nodes, s states and m members: these nodes, states and members
abbrev pub tables : ℕ → ℕ → List ℕ → List ℕ → List ℕ → Aut
tables s m nodes states members =
    let all : List ℕ = (0 ∷ 0 ∷ 0 ∷ 0 ∷ 1 ∷ 0 ∷ 0 ∷ 1 ∷ 1 ∷ 1 ∷ 1 ∷ 1 ∷ []) ++ nodes in
    aut (table (filled 32 all) (length all / 4)) (table (filled (12 * s) states) (length states / 12)) (table (filled m members) (length members))

abbrev pub room : ℕ → ℕ → Aut
room s m = tables s m [] [] []

abbrev pub made : ℕ → ℕ → List ℕ → List ℕ → List ℕ → ℕ → Outcome Aut ℕ
made s m nodes states members answer = given (tables s m nodes states members) answer

abbrev pub rows : List Row
rows =
    -- mk_intersect of Top and Dup makes the one-member Intersect([Dup])
    from (room 4 4) (on_states mk_top >>= λ x0. on_states mk_dup >>= λ x1. mk_intersect 1 limits01 x0 x1)
    (made 4 4 [] (state TOP 0 0 0 (state DUP 0 0 0 (state INTERSECT 0 1 1 []))) (1 ∷ []) 2)
    -- mk_intersect(Dup, Dup) is Dup
    ∷ from (room 4 4) (on_states mk_dup >>= λ x0. mk_intersect 1 limits01 x0 x0)
    (made 4 4 [] (state DUP 0 0 0 []) [] 0)
    -- mk_intersect_n([Dup, Dup]) is Intersect([Dup])
    ∷ from (room 4 4) (on_states mk_dup >>= λ x0. mk_intersect_n 1 limits01 (x0 ∷ x0 ∷ []))
    (made 4 4 [] (state DUP 0 0 0 (state INTERSECT 0 1 1 [])) (0 ∷ []) 1)
    -- mk_intersect_n([]) is Top
    ∷ from (room 4 4) (mk_intersect_n 1 limits01 [])
    (made 4 4 [] (state TOP 0 0 0 []) [] 0)
    -- mk_union_n([]) is the zero state
    ∷ from (room 4 4) (mk_union_n 1 limits01 [])
    (made 4 4 [] (state SPP 2 0 0 []) [] 0)
    -- Complement of zero is Complement(zero), not Top
    ∷ from (room 4 4) (on_states (mk_spp 2) >>= λ x0. on_states (mk_complement 1 limits01 x0))
    (made 4 4 [] (state SPP 2 0 0 (state COMPLEMENT 0 0 1 [])) [] 1)
    -- Complement of Top is zero
    ∷ from (room 4 4) (on_states mk_top >>= λ x0. on_states (mk_complement 1 limits01 x0))
    (made 4 4 [] (state TOP 0 0 0 (state SPP 2 0 0 [])) [] 1)
    -- Difference(zero, Dup) is interned, not simplified
    ∷ from (room 4 4) (on_states (mk_spp 2) >>= λ x0. on_states mk_dup >>= λ x1. mk_difference 1 limits01 x0 x1)
    (made 4 4 [] (state SPP 2 0 0 (state DUP 0 0 0 (state DIFFERENCE 0 1 1 []))) [] 2)
    ∷ []
