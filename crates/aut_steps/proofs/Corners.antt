-- The rows of specs/Corners hold. So do those of other runs: each step of the constructors and each limit, in the order in which 01 and the Rust meet them.
use mathlib.Core.Path.{refl}
use mathlib.Core.Bool.{true, false}
use mathlib.Core.List.{List, [], ◌∷◌}
use Prim.Native.Nat.{ℕ}
use lib.ListN.{replicate}
use Rattle.common.specs.Outcome.{refused, ◌>>=◌}
use Rattle.common.specs.Rows.{Row, from, Hold}
use Rattle.spp_steps.specs.Model as Spp
use Rattle.spp_steps.specs.Model.{test, assign}
use Rattle.aut_steps.specs.Tables.{Limits, limits01, on_states, kind_of, op1, op2, nest, words, room_s, room_m, put4, SPP, UNION, INTERSECT, DIFFERENCE, COMPLEMENT, SEQUENCE, STAR, DUP, TOP}
use Rattle.aut_steps.specs.Intern.{intern0, intern1, intern2, intern_l, put_l, put, seek, same2, same_at, same_l, store, nest_l}
use Rattle.aut_steps.specs.Lists.{least, rise}
use Rattle.aut_steps.specs.Constructors.{spp_of, mk_spp, mk_dup, mk_top, mk_union, mk_union_n, mk_intersect_n, mk_intersect, mk_intersect_n_base, mk_difference, mk_complement, mk_sequence, sequence_by, sequence_with, mk_star, unite, meet, open_union, open_all, opened, extend, each, count_all, count_one, product, base, bases, finish, add_relation, unite_one, meet_one, meet_finish, add_last}
use Rattle.aut_steps.specs.Corners.{state, room, made, rows}

abbrev pub limits : ℕ → ℕ → ℕ → Limits
limits nesting list products = record { nesting = nesting; list = list; products = products; transitions = 64 }

-- the steps of aut.rs and the limits, seen one by one
abbrev pub examples : List Row
examples =
    -- a list has each member once
    from (room 4 4) (on_states mk_dup >>= λ x0. mk_star 1 limits01 x0 >>= λ x1. mk_union_n 1 limits01 (x0 ∷ x0 ∷ x1 ∷ []))
    (made 4 4 [] (state DUP 0 0 0 (state STAR 0 0 1 (state UNION 0 2 2 []))) (0 ∷ 1 ∷ []) 2)
    -- .. and is sorted
    ∷ from (room 4 4) (on_states mk_dup >>= λ x0. mk_star 1 limits01 x0 >>= λ x1. mk_union_n 1 limits01 (x1 ∷ x0 ∷ []))
    (made 4 4 [] (state DUP 0 0 0 (state STAR 0 0 1 (state UNION 0 2 2 []))) (0 ∷ 1 ∷ []) 2)
    -- SPP top and Dup: a Union of the two, not Top
    ∷ from (room 4 4) (on_states (mk_spp 4) >>= λ x0. on_states mk_dup >>= λ x1. mk_union 1 limits01 x0 x1)
    (made 4 4 [] (state SPP 4 0 0 (state DUP 0 0 0 (state UNION 0 2 1 []))) (0 ∷ 1 ∷ []) 2)
    -- an Intersect's SPP member is last, though its number is the lower
    ∷ from (room 4 4) (on_states (mk_spp 3) >>= λ x0. on_states mk_dup >>= λ x1. mk_intersect 1 limits01 x0 x1)
    (made 4 4 [] (state SPP 3 0 0 (state DUP 0 0 0 (state INTERSECT 0 2 1 []))) (1 ∷ 0 ∷ []) 2)
    -- nesting is 1 + the highest operand, here the second; a relation that is zero is no member of a union
    ∷ from (room 4 4) (on_states (mk_spp 2) >>= λ x0. on_states mk_dup >>= λ x1. mk_star 1 limits01 x1 >>= λ x2. mk_difference 1 limits01 x1 x2 >>= λ x3. mk_union 1 limits01 x0 x3)
    (made 4 4 [] (state SPP 2 0 0 (state DUP 0 0 0 (state STAR 1 0 1 (state DIFFERENCE 1 2 2 [])))) [] 3)
    -- Complement of Complement is undone
    ∷ from (room 4 4) (on_states mk_dup >>= λ x0. on_states (mk_complement 1 limits01 x0) >>= λ x1. on_states (mk_complement 1 limits01 x1))
    (made 4 4 [] (state DUP 0 0 0 (state COMPLEMENT 0 0 1 [])) [] 0)
    -- sequences are regrouped
    ∷ from (room 10 16) (on_states mk_dup >>= λ x0. spp_of (test 1 1 0 true) >>= λ x1. mk_sequence 1 limits01 x0 x0 >>= λ x2. mk_sequence 1 limits01 x1 x2 >>= λ x3. mk_sequence 1 limits01 x3 x1 >>= λ x4. mk_sequence 1 limits01 x4 x2)
    (made 10 16 (0 ∷ 0 ∷ 0 ∷ 1 ∷ []) (state DUP 0 0 0 (state SPP 5 0 0 (state SEQUENCE 0 0 1 (state SEQUENCE 1 2 2 (state SEQUENCE 0 1 1 (state SEQUENCE 0 4 2 (state SEQUENCE 1 5 3 (state SEQUENCE 0 3 3 (state SEQUENCE 0 7 4 (state SEQUENCE 1 8 5 [])))))))))) [] 9)
    -- products: the first union's members vary fastest
    ∷ from (room 10 16) (on_states mk_dup >>= λ x0. mk_star 1 limits01 x0 >>= λ x1. on_states (mk_complement 1 limits01 x0) >>= λ x2. mk_union 1 limits01 x0 x1 >>= λ x3. mk_union 1 limits01 x0 x2 >>= λ x4. mk_intersect 1 limits01 x3 x4)
    (made 10 16 [] (state DUP 0 0 0 (state STAR 0 0 1 (state COMPLEMENT 0 0 1 (state UNION 0 2 2 (state UNION 2 2 2 (state INTERSECT 4 1 1 (state INTERSECT 5 2 2 (state INTERSECT 7 2 2 (state INTERSECT 9 2 2 (state UNION 11 4 3 [])))))))))) (0 ∷ 1 ∷ 0 ∷ 2 ∷ 0 ∷ 0 ∷ 1 ∷ 0 ∷ 2 ∷ 1 ∷ 2 ∷ 5 ∷ 6 ∷ 7 ∷ 8 ∷ []) 9)
    -- products with relations: zero relations on the way become states
    ∷ from (room 10 16) (spp_of (test 1 1 0 false) >>= λ x0. spp_of (test 1 1 0 true) >>= λ x1. on_states mk_dup >>= λ x2. mk_union 1 limits01 x0 x2 >>= λ x3. mk_intersect_n 1 limits01 (x3 ∷ x1 ∷ []))
    (made 10 16 (1 ∷ 0 ∷ 0 ∷ 0 ∷ 0 ∷ 0 ∷ 0 ∷ 1 ∷ []) (state SPP 5 0 0 (state SPP 6 0 0 (state DUP 0 0 0 (state UNION 0 2 1 (state SPP 2 0 0 (state INTERSECT 2 2 1 [])))))) (0 ∷ 2 ∷ 2 ∷ 1 ∷ []) 5)
    -- a book of the replay
    ∷ from (room 10 16) (on_states mk_dup >>= λ x0. spp_of (test 1 1 0 false) >>= λ x1. spp_of (test 1 1 0 true) >>= λ x2. mk_sequence 1 limits01 x0 x2 >>= λ x3. mk_sequence 1 limits01 x1 x3 >>= λ _. spp_of (test 1 1 0 true) >>= λ x5. spp_of (assign 1 1 0 true) >>= λ x6. mk_sequence 1 limits01 x0 x6 >>= λ x7. mk_sequence 1 limits01 x5 x7 >>= λ x8. mk_star 1 limits01 x8 >>= λ x9. mk_difference 1 limits01 x9 x8)
    (made 10 16 (1 ∷ 0 ∷ 0 ∷ 0 ∷ 0 ∷ 0 ∷ 0 ∷ 1 ∷ 0 ∷ 1 ∷ 0 ∷ 1 ∷ []) (state DUP 0 0 0 (state SPP 5 0 0 (state SPP 6 0 0 (state SEQUENCE 0 2 1 (state SEQUENCE 1 3 2 (state SPP 7 0 0 (state SEQUENCE 0 5 1 (state SEQUENCE 2 6 2 (state STAR 7 0 3 (state DIFFERENCE 8 7 4 [])))))))))) [] 9)
    -- a new state meets 8, then 23, then 22
    ∷ from (room 2 0) (on_states (mk_spp 3) >>= λ x0. on_states mk_dup >>= λ x1. mk_union 1 (limits 0 64 32) x0 x1) (refused 8)
    -- .. 23
    ∷ from (room 2 1) (on_states (mk_spp 3) >>= λ x0. on_states mk_dup >>= λ x1. mk_union 1 limits01 x0 x1) (refused 23)
    -- .. 22
    ∷ from (room 2 2) (on_states (mk_spp 3) >>= λ x0. on_states mk_dup >>= λ x1. mk_union 1 limits01 x0 x1) (refused 22)
    -- a given list of 64
    ∷ from (room 4 4) (on_states mk_dup >>= λ x0. mk_union_n 1 limits01 (replicate 64 x0))
    (made 4 4 [] (state DUP 0 0 0 []) [] 0)
    -- a given list of 65
    ∷ from (room 4 4) (on_states mk_dup >>= λ x0. mk_union_n 1 limits01 (replicate 65 x0)) (refused 6)
    -- .. also with Top
    ∷ from (room 4 4) (on_states mk_top >>= λ x0. mk_union_n 1 limits01 (replicate 65 x0)) (refused 6)
    -- an opened list passes the limit, here of 3
    ∷ from (room 6 6) (on_states mk_dup >>= λ x0. mk_star 1 (limits 256 3 32) x0 >>= λ x1. on_states (mk_complement 1 (limits 256 3 32) x0) >>= λ x2. mk_union_n 1 (limits 256 3 32) (x0 ∷ x1 ∷ x2 ∷ []) >>= λ x3. mk_union_n 1 (limits 256 3 32) (x3 ∷ x0 ∷ [])) (refused 6)
    -- .. unless Top is met first
    ∷ from (room 6 6) (on_states mk_dup >>= λ x0. mk_star 1 (limits 256 3 32) x0 >>= λ x1. on_states (mk_complement 1 (limits 256 3 32) x0) >>= λ x2. mk_union_n 1 (limits 256 3 32) (x0 ∷ x1 ∷ x2 ∷ []) >>= λ x3. on_states mk_top >>= λ x4. mk_union_n 1 (limits 256 3 32) (x3 ∷ x4 ∷ x0 ∷ []))
    (made 6 6 [] (state DUP 0 0 0 (state STAR 0 0 1 (state COMPLEMENT 0 0 1 (state UNION 0 3 2 (state TOP 0 0 0 []))))) (0 ∷ 1 ∷ 2 ∷ []) 4)
    -- .. but a Top that comes later does not help
    ∷ from (room 6 6) (on_states mk_dup >>= λ x0. mk_star 1 (limits 256 3 32) x0 >>= λ x1. on_states (mk_complement 1 (limits 256 3 32) x0) >>= λ x2. mk_union_n 1 (limits 256 3 32) (x0 ∷ x1 ∷ x2 ∷ []) >>= λ x3. on_states mk_top >>= λ x4. mk_union_n 1 (limits 256 3 32) (x3 ∷ x0 ∷ x4 ∷ [])) (refused 6)
    -- Top is a member of an opened intersection
    ∷ from (room 6 6) (on_states mk_dup >>= λ x0. mk_star 1 (limits 256 3 32) x0 >>= λ x1. on_states (mk_complement 1 (limits 256 3 32) x0) >>= λ x2. mk_intersect_n 1 (limits 256 3 32) (x0 ∷ x1 ∷ x2 ∷ []) >>= λ x3. on_states mk_top >>= λ x4. mk_intersect 1 (limits 256 3 32) x4 x3) (refused 6)
    -- products pass the limit, here of 3
    ∷ from (room 6 6) (on_states mk_dup >>= λ x0. mk_star 1 (limits 256 64 3) x0 >>= λ x1. on_states (mk_complement 1 (limits 256 64 3) x0) >>= λ x2. mk_union 1 (limits 256 64 3) x0 x1 >>= λ x3. mk_union 1 (limits 256 64 3) x0 x2 >>= λ x4. mk_intersect 1 (limits 256 64 3) x3 x4) (refused 7)
    ∷ []

-- every row holds
hold : Hold rows × Hold examples
unfolding mk_spp mk_dup mk_top mk_union mk_union_n mk_intersect_n mk_intersect mk_intersect_n_base mk_difference mk_complement mk_sequence sequence_by sequence_with mk_star unite meet open_union open_all opened extend each count_all count_one product base bases finish add_relation unite_one meet_one meet_finish add_last intern0 intern1 intern2 intern_l put_l put seek same2 same_at same_l store nest_l room_s room_m put4 kind_of op1 op2 nest words least rise test assign Spp.field Spp.apply Spp.exit Spp.each Spp.sequence Spp.seq_exit Spp.product Spp.star Spp.star_exit Spp.blocks Spp.mk Spp.seek Spp.same Spp.kids Spp.kid Spp.room Spp.put Spp.zero_at Spp.one_at Spp.top_at
hold = ((refl, (refl, (refl, (refl, (refl, (refl, (refl, (refl, tt)))))))), (refl, (refl, (refl, (refl, (refl, (refl, (refl, (refl, (refl, (refl, (refl, (refl, (refl, (refl, (refl, (refl, (refl, (refl, (refl, (refl, (refl, tt))))))))))))))))))))))

pub corners : Hold rows
corners = hold.0

pub others : Hold examples
others = hold.1
