-- aut.rs and 01, "Forms that must change": the order of delta's steps, seen in the members that whole runs make: small books that tell other orders apart. A state to be looked at, then all that it leads to, each asked for epsilon and then for delta.
use Rattle.std.specs.Prelude.{if◌then◌else◌}
use mathlib.Core.Path.{refl}
use mathlib.Core.List.{List, [], ◌∷◌, ◌++◌}
use Prim.Native.Nat.{ℕ, zero, suc, ◌+◌}
use lib.Dec.{eqb, ltb}
use lib.ListN.{length, get_or, take, drop, replicate}
use Rattle.common.specs.Packets.{any}
use Rattle.common.specs.Outcome.{Outcome, refused, given, Step, return, ◌>>=◌}
use Rattle.common.specs.Runs.{table}
use Rattle.common.specs.Rows.{Row, row, Hold}
use Rattle.netkat_steps.specs.ListSteps as ListSteps
use Rattle.netkat_steps.specs.ListSteps.{Edge}
use Rattle.spp_steps.specs.Model as Spp
use Rattle.aut_steps.specs.Tables.{limits01, aut, on_states, kind_of, op1, op2, nest, words, room_s, room_m, put4}
use Rattle.aut_steps.specs.Intern.{intern0, intern1, intern2, intern_l, put_l, put, seek, same2, same_at, same_l, store as storeMembers, nest_l}
use Rattle.aut_steps.specs.Lists.{least, rise}
use Rattle.aut_steps.specs.Constructors.{mk_spp, mk_dup, mk_top, mk_union, mk_union_n, mk_intersect_n, mk_intersect, mk_intersect_n_base, mk_complement, mk_sequence, mk_xor, mk_difference, sequence_by, sequence_with, mk_star, mk_until, unite, meet, open_union, open_all, opened, extend, each, count_all, count_one, product, base, bases, finish, add_relation, unite_one, meet_one, meet_finish, add_last}
use Rattle.aut_delta_steps.specs.Epsilon.{epsilon_of, set_word, keep_epsilon, each_of, unite_all, meet_all, epsilon_by_kind, epsilon_with, epsilon_by, epsilon}
use Rattle.aut_st_steps.specs.Edges.{edges, flat}
use Rattle.aut_delta_steps.specs.Delta.{start_of, count_of, Store, store, on_aut, room_t, append, list_at, keep_list, union_all, intersect_all, sequence_list, star_list, until_list, dup_list, top_list, delta_by_kind, delta_with, delta_by, delta}
use Rattle.aut_delta_steps.specs.Examples.{holding}

-- targets that are not in the list yet go behind it
unfoldable pub behind : List Edge → List ℕ → List ℕ
behind [] xs = xs
behind (e ∷ es) xs = behind es (if any (eqb e.target) xs then xs else (xs ++ e.target ∷ []))

-- at most k states of the list, from the i-th on
unfoldable pub explore : ℕ → ℕ → ℕ → List ℕ → Step Store (List ℕ)
explore N zero i xs = return xs
explore N (suc k) i xs =
    if ltb i (length xs)
    then (on_aut (epsilon N (get_or xs i 0)) >>= λ e. delta N limits01 (get_or xs i 0) >>= λ es. explore N k (i + 1) (behind es xs))
    else return xs

-- the members in use
abbrev members_of : {A : Type 0} → Outcome Store A → List ℕ
members_of (refused number) = number ∷ []
members_of (given σ a) = take σ.aut.members.count σ.aut.members.words

-- tables of no field: relations are 0 and 1
abbrev none : Store
none = store (aut (table [] 0) (table (replicate 240 0) 0) (table (replicate 40 0) 0)) (table (replicate 40 0) 0)

abbrev rows : List Row
rows =
    -- Top xor Dup: a union is made also for labels that do not meet
    row (members_of ((on_aut (on_states mk_dup) >>= λ x0. on_aut (on_states mk_top) >>= λ x1. on_aut (mk_xor 0 limits01 x1 x0) >>= λ x2. explore 0 9 0 (x2 ∷ [])) none)) (3 ∷ 5 ∷ 5 ∷ 7 ∷ [])
    -- until(e, e) with e the Star of Dup;Dup: all members' lists come before the first join
    ∷ row (take 6 (drop 14 (members_of ((on_aut (on_states mk_dup) >>= λ x0. on_aut (mk_sequence 0 limits01 x0 x0) >>= λ x1. on_aut (mk_star 0 limits01 x1) >>= λ x2. on_aut (on_states (mk_until limits01 x2 x2)) >>= λ x3. explore 0 9 0 (x3 ∷ [])) none)))) (6 ∷ 7 ∷ 13 ∷ 6 ∷ 9 ∷ 6 ∷ [])
    -- Complement(Dup) and Dup: a target is made also for labels that do not meet
    ∷ row (members_of ((on_aut (on_states mk_dup) >>= λ x0. on_aut (on_states (mk_complement 1 limits01 x0)) >>= λ x1. on_aut (mk_intersect 1 limits01 x1 x0) >>= λ x2. explore 1 9 0 (x2 ∷ [])) (holding 20 40 20 [] [] [] []))) (0 ∷ 1 ∷ 5 ∷ 3 ∷ 3 ∷ 7 ∷ [])
    ∷ []

orders : Hold rows
unfolding behind explore mk_spp mk_dup mk_top mk_union mk_union_n mk_intersect_n mk_intersect mk_intersect_n_base mk_complement mk_sequence mk_xor mk_difference sequence_by sequence_with mk_star mk_until unite meet open_union open_all opened extend each count_all count_one product base bases finish add_relation unite_one meet_one meet_finish add_last intern0 intern1 intern2 intern_l put_l put seek same2 same_at same_l storeMembers nest_l room_s room_m put4 kind_of op1 op2 nest words least rise Spp.apply Spp.exit Spp.each Spp.complement Spp.sequence Spp.seq_exit Spp.product Spp.star Spp.star_exit Spp.blocks Spp.mk Spp.seek Spp.same Spp.kids Spp.kid Spp.room Spp.put Spp.zero_at Spp.one_at Spp.top_at ListSteps.unite ListSteps.enter ListSteps.enter_in ListSteps.place ListSteps.st_singleton ListSteps.split ListSteps.insert ListSteps.insert_each ListSteps.insert_pairs ListSteps.st_union ListSteps.st_intersect ListSteps.subtract_row ListSteps.subtract_rows ListSteps.st_difference ListSteps.st_xor ListSteps.cover_all ListSteps.st_complement ListSteps.st_postcompose ListSteps.st_precompose ListSteps.st_intersect_expr epsilon_of set_word keep_epsilon each_of unite_all meet_all epsilon_by_kind epsilon_with epsilon_by epsilon start_of count_of edges flat room_t append list_at keep_list union_all intersect_all sequence_list star_list until_list dup_list top_list delta_by_kind delta_with delta_by delta
orders = (refl, (refl, (refl, tt)))
