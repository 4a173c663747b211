-- The rows of specs/Examples hold. So do those of other runs: stored lists, 25, epsilon, and LtlNext.
use mathlib.Core.Path.{refl}
use mathlib.Core.Bool.{true}
use mathlib.Core.List.{List, [], ◌∷◌}
use Rattle.common.specs.Outcome.{refused, given, ◌>>=◌}
use Rattle.common.specs.Rows.{Row, from, Hold}
use Rattle.netkat_steps.specs.ListSteps as ListSteps
use Rattle.netkat_steps.specs.ListSteps.{edge}
use Rattle.spp_steps.specs.Model as Spp
use Rattle.spp_steps.specs.Model.{test}
use Rattle.aut_steps.specs.Tables.{limits01, on_states, kind_of, op1, op2, nest, words, room_s, room_m, put4, SPP, UNION, INTERSECT, DIFFERENCE, COMPLEMENT, SEQUENCE, STAR, DUP, NEXT, UNTIL}
use Rattle.aut_steps.specs.Intern.{intern0, intern1, intern2, intern_l, put_l, put, seek, same2, same_at, same_l, store as storeMembers, nest_l}
use Rattle.aut_steps.specs.Lists.{least, rise}
use Rattle.aut_steps.specs.Constructors.{spp_of, mk_spp, mk_dup, mk_top, mk_union, mk_union_n, mk_intersect_n, mk_intersect, mk_intersect_n_base, mk_complement, mk_sequence, sequence_by, sequence_with, mk_star, mk_next, mk_until, unite, meet, open_union, open_all, opened, extend, each, count_all, count_one, product, base, bases, finish, add_relation, unite_one, meet_one, meet_finish, add_last, mk_difference}
use Rattle.aut_steps.specs.Corners.{made, room}
use Rattle.aut_delta_steps.specs.Epsilon.{epsilon_of, set_word, keep_epsilon, each_of, unite_all, meet_all, epsilon_by_kind, epsilon_with, epsilon_by, epsilon}
use Rattle.aut_st_steps.specs.Edges.{edges, flat}
use Rattle.aut_delta_steps.specs.Delta.{start_of, count_of, on_aut, room_t, append, list_at, keep_list, union_all, intersect_all, sequence_list, star_list, until_list, dup_list, top_list, delta_by_kind, delta_with, delta_by, delta}
use Rattle.aut_delta_steps.specs.Examples.{state, holding, rows}

abbrev pub examples : List Row
examples =
    -- the empty list of an SPP state is stored and needs no room
    from (holding 4 4 0 [] [] [] []) (on_aut (on_states (mk_spp 2)) >>= λ x0. delta 1 limits01 x0)
    (given (holding 4 4 0 [] (state SPP 2 0 0 0 0 1 []) [] []) [])
    -- no room for a list
    ∷ from (holding 4 4 0 [] [] [] []) (on_aut (on_states mk_dup) >>= λ x0. delta 1 limits01 x0) (refused 25)
    -- a test and then Dup, as in 01's book: operands' lists are stored first; the second answer is the stored list
    ∷ from (holding 6 4 4 [] [] [] []) (on_aut (spp_of (test 1 1 0 true)) >>= λ x0. on_aut (on_states mk_dup) >>= λ x1. on_aut (mk_sequence 1 limits01 x0 x1) >>= λ x2. delta 1 limits01 x2 >>= λ _. delta 1 limits01 x2)
    (given (holding 6 4 4 (0 ∷ 0 ∷ 0 ∷ 1 ∷ []) (state SPP 5 0 0 0 0 1 (state DUP 0 0 0 0 0 2 (state SEQUENCE 0 1 1 0 1 2 (state SPP 3 0 0 0 0 0 (state SPP 2 0 0 0 0 0 []))))) [] (3 ∷ 3 ∷ 3 ∷ 5 ∷ [])) (edge 3 5 ∷ []))
    -- Star of Dup leads to itself; epsilon of Dup is kept
    ∷ from (holding 6 4 4 [] [] [] []) (on_aut (on_states mk_dup) >>= λ x0. on_aut (mk_star 1 limits01 x0) >>= λ x1. delta 1 limits01 x1)
    (given (holding 6 4 4 [] (state DUP 0 0 0 3 0 2 (state STAR 0 0 1 0 1 2 (state SPP 3 0 0 0 0 0 (state SPP 2 0 0 0 0 0 [])))) [] (2 ∷ 3 ∷ 1 ∷ 3 ∷ [])) (edge 1 3 ∷ []))
    -- LtlUntil of Dup and the identity: epsilon is the second's; delta leads from the first's transition to its target met with the LtlUntil
    ∷ from (holding 6 4 4 [] [] [] []) (on_aut (on_states mk_dup) >>= λ x0. on_aut (on_states (mk_spp 3)) >>= λ x1. on_aut (on_states (mk_until limits01 x0 x1)) >>= λ x2. on_aut (epsilon 1 x2) >>= λ _. delta 1 limits01 x2)
    (given (holding 6 4 4 [] (state DUP 0 0 0 0 0 2 (state SPP 3 0 0 0 1 1 (state UNTIL 0 1 1 4 1 2 (state SPP 2 0 0 0 0 0 (state INTERSECT 0 2 2 0 0 0 []))))) (2 ∷ 1 ∷ []) (1 ∷ 3 ∷ 4 ∷ 3 ∷ [])) (edge 4 3 ∷ []))
    ∷ []

-- 02 (iv): "Epsilon is empty; delta is the top label to e, or none if e is the zero state"
abbrev pub nexts : List Row
nexts =
    -- of Dup: neither looks into e; the zero state is interned
    from (holding 6 4 4 [] [] [] []) (on_aut (on_states mk_dup) >>= λ x0. on_aut (on_states (mk_next limits01 x0)) >>= λ x1. on_aut (epsilon 1 x1) >>= λ _. delta 1 limits01 x1)
    (given (holding 6 4 4 [] (state DUP 0 0 0 0 0 0 (state NEXT 0 0 1 3 0 2 (state SPP 2 0 0 0 0 0 []))) [] (0 ∷ 4 ∷ [])) (edge 0 4 ∷ []))
    -- of the zero state
    ∷ from (holding 6 4 4 [] [] [] []) (on_aut (on_states (mk_spp 2)) >>= λ x0. on_aut (on_states (mk_next limits01 x0)) >>= λ x1. delta 1 limits01 x1)
    (given (holding 6 4 4 [] (state SPP 2 0 0 0 0 0 (state NEXT 0 0 1 0 0 1 [])) [] []) [])
    -- of another rule without strings
    ∷ from (holding 6 4 4 [] [] [] []) (on_aut (on_states (mk_spp 2)) >>= λ x0. on_aut (on_states mk_dup) >>= λ x1. on_aut (mk_difference 1 limits01 x0 x1) >>= λ x2. on_aut (on_states (mk_next limits01 x2)) >>= λ x3. delta 1 limits01 x3)
    (given (holding 6 4 4 [] (state SPP 2 0 0 0 0 0 (state DUP 0 0 0 0 0 0 (state DIFFERENCE 0 1 1 0 0 0 (state NEXT 2 0 2 0 0 2 [])))) [] (2 ∷ 4 ∷ [])) (edge 2 4 ∷ []))
    -- no room for the zero state
    ∷ from (holding 2 4 4 [] [] [] []) (on_aut (on_states mk_dup) >>= λ x0. on_aut (on_states (mk_next limits01 x0)) >>= λ x1. delta 1 limits01 x1) (refused 22)
    ∷ []

-- epsilon
abbrev pub worked : List Row
worked =
    -- of Complement(zero): all pairs; zero keeps its word 4
    from (room 4 4) (on_states (mk_spp 2) >>= λ x0. on_states (mk_complement 1 limits01 x0) >>= λ x1. epsilon 1 x1)
    (made 4 4 [] (state SPP 2 0 0 0 0 0 (state COMPLEMENT 0 0 1 5 0 0 [])) [] 4)
    -- of the Union of Dup and its Star: both members' are kept
    ∷ from (room 4 4) (on_states mk_dup >>= λ x0. mk_star 1 limits01 x0 >>= λ x1. mk_union 1 limits01 x0 x1 >>= λ x2. epsilon 1 x2)
    (made 4 4 [] (state DUP 0 0 0 3 0 0 (state STAR 0 0 1 4 0 0 (state UNION 0 2 2 4 0 0 []))) (0 ∷ 1 ∷ []) 3)
    ∷ []

-- every row holds
hold : Hold rows × Hold examples × Hold worked × Hold nexts
unfolding mk_spp mk_dup mk_top mk_union mk_union_n mk_intersect_n mk_intersect mk_intersect_n_base mk_complement mk_sequence sequence_by sequence_with mk_star mk_next mk_until unite meet open_union open_all opened extend each count_all count_one product base bases finish add_relation unite_one meet_one meet_finish add_last intern0 intern1 intern2 intern_l put_l put seek same2 same_at same_l storeMembers nest_l room_s room_m put4 kind_of op1 op2 nest words least rise test Spp.field Spp.apply Spp.exit Spp.each Spp.complement Spp.sequence Spp.seq_exit Spp.product Spp.star Spp.star_exit Spp.blocks Spp.mk Spp.seek Spp.same Spp.kids Spp.kid Spp.room Spp.put Spp.zero_at Spp.one_at Spp.top_at ListSteps.unite ListSteps.enter ListSteps.enter_in ListSteps.place ListSteps.st_singleton ListSteps.split ListSteps.insert ListSteps.insert_each ListSteps.insert_pairs ListSteps.st_union ListSteps.st_intersect ListSteps.cover_all ListSteps.st_complement ListSteps.st_postcompose ListSteps.st_precompose ListSteps.st_intersect_expr epsilon_of set_word keep_epsilon each_of unite_all meet_all epsilon_by_kind epsilon_with epsilon_by epsilon start_of count_of edges flat room_t append list_at keep_list union_all intersect_all sequence_list star_list until_list dup_list top_list delta_by_kind delta_with delta_by delta mk_difference
hold = ((refl, (refl, tt)), (refl, (refl, (refl, (refl, (refl, tt))))), (refl, (refl, tt)), (refl, (refl, (refl, (refl, tt)))))

pub corners : Hold rows
corners = hold.0

pub others : Hold examples
others = hold.1

pub epsilons : Hold worked
epsilons = hold.2

pub next_rows : Hold nexts
next_rows = hold.3
