-- The row of specs/Corners holds. So do those of 01's example book with its budgets, and of the refusals 20 and 24 of a search.
use mathlib.Core.Path.{◌≡◌, refl}
use mathlib.Core.Bool.{true}
use mathlib.Core.List.{List, [], ◌∷◌}
use Prim.Native.Nat.{ℕ, zero, suc}
use native.Mathlib.Omega.{arith}
use lib.ListN.{get_or, replicate}
use Rattle.common.specs.Outcome.{refused, given, Step, ◌>>=◌}
use Rattle.common.specs.Runs.{table}
use Rattle.common.specs.Rows.{Row, from, Hold}
use Rattle.netkat.specs.Search.{no, spent}
use Rattle.netkat_steps.specs.Handles as Handles
use Rattle.netkat_steps.specs.ListSteps as ListSteps
use Rattle.sp_steps.specs.Word.{flip}
use Rattle.sp_steps.specs.Model as Sp
use Rattle.spp_steps.specs.Model as Spp
use Rattle.spp_steps.specs.Model.{test}
use Rattle.spp_steps.specs.ImageModel as Images
use Rattle.aut_steps.specs.Tables.{limits01, on_states, kind_of, op1, op2, nest, words, room_s, room_m, put4, SPP, SEQUENCE, DUP}
use Rattle.aut_steps.specs.Intern.{intern0, intern1, intern2, intern_l, put_l, put, seek, same2, same_at, same_l, store as storeMembers, nest_l}
use Rattle.aut_steps.specs.Lists.{least, rise}
use Rattle.aut_steps.specs.Constructors.{spp_of, mk_spp, mk_dup, mk_top, mk_union, mk_union_n, mk_intersect_n, mk_intersect, mk_intersect_n_base, mk_complement, mk_sequence, sequence_by, sequence_with, mk_star, mk_until, unite, meet, open_union, open_all, opened, extend, each, count_all, count_one, product, base, bases, finish, add_relation, unite_one, meet_one, meet_finish, add_last}
use Rattle.aut_delta_steps.specs.Epsilon.{epsilon_of, set_word, keep_epsilon, each_of, unite_all, meet_all, epsilon_by_kind, epsilon_with, epsilon_by, epsilon}
use Rattle.aut_st_steps.specs.Edges.{edges, flat}
use Rattle.aut_delta_steps.specs.Delta.{start_of, count_of, on_aut, room_t, append, list_at, keep_list, union_all, intersect_all, sequence_list, star_list, until_list, dup_list, top_list, delta_by_kind, delta_with, delta_by, delta}
use Rattle.aut_delta_steps.specs.Examples.{state}
use Rattle.aut_query_steps.specs.Tables.{Tables, on_base, WfTables}
use Rattle.aut_query_steps.proofs.Tables.{begun_ordered}
use Rattle.aut_query_steps.specs.Search.{is_empty}
use Rattle.aut_query_steps.specs.Corners.{holding, room, rows}

-- the constructors of 01's example book: the test of field 0 for 1, Dup, and the one after the other
abbrev book : Step Tables ℕ
book = on_base (on_aut (spp_of (test 1 1 0 true))) >>= λ x0. on_base (on_aut (on_states mk_dup)) >>= λ x1. on_base (on_aut (mk_sequence 1 limits01 x0 x1))

-- the tables once its state has been looked at
abbrev searched : Tables
searched = holding 4 6 4 4 (0 ∷ 1 ∷ []) (0 ∷ 0 ∷ 0 ∷ 1 ∷ [])
    (state SPP 5 0 0 0 0 1 (state DUP 0 0 0 3 0 2 (state SEQUENCE 0 1 1 3 1 2 (state SPP 3 0 0 0 0 0 (state SPP 2 0 0 0 0 0 [])))))
    [] (3 ∷ 3 ∷ 3 ∷ 5 ∷ [])

abbrev pub examples : List Row
examples =
    -- `empty 2` of the book
    from (room 4) (book >>= is_empty 1 limits01 4 10) (given searched (no, 2))
    -- budget 2
    ∷ from (room 4) (book >>= is_empty 1 limits01 4 2) (given searched (no, 2))
    -- budget 1: what its steps made remains
    ∷ from (room 4) (book >>= is_empty 1 limits01 4 1) (given searched (spent, 1))
    -- budget 0: nothing is worked out
    ∷ from (room 4) (book >>= is_empty 1 limits01 4 0)
    (given (holding 4 6 4 4 [] (0 ∷ 0 ∷ 0 ∷ 1 ∷ []) (state SPP 5 0 0 0 0 0 (state DUP 0 0 0 0 0 0 (state SEQUENCE 0 1 1 0 0 0 []))) [] []) (spent, 0))
    -- no pending entry: the first pair is pending before the budget is looked at
    ∷ from (room 4) (book >>= is_empty 1 limits01 0 0) (refused 24)
    -- one entry is enough: the first pair is taken before the second is pending
    ∷ from (room 4) (book >>= is_empty 1 limits01 1 10) (given searched (no, 2))
    -- no packet node more: the set that the label leads to has none
    ∷ from (room 1) (book >>= is_empty 1 limits01 4 10) (refused 20)
    ∷ []

-- every row holds
hold : Hold rows × Hold examples
unfolding is_empty Handles.search Handles.run Handles.turn Handles.expand Handles.walk flip Sp.kid Sp.child Sp.same Sp.seek Sp.room Sp.put Sp.intern Sp.mk Sp.exit Sp.join Sp.both Sp.apply Sp.union Sp.complement Sp.difference Sp.is_zero Sp.is_universal Images.fwd_node Images.fwd Images.led_exit Images.push_node Images.push Images.has_exit Images.has_image mk_spp mk_dup mk_top mk_union mk_union_n mk_intersect_n mk_intersect mk_intersect_n_base mk_complement mk_sequence sequence_by sequence_with mk_star mk_until unite meet open_union open_all opened extend each count_all count_one product base bases finish add_relation unite_one meet_one meet_finish add_last intern0 intern1 intern2 intern_l put_l put seek same2 same_at same_l storeMembers nest_l room_s room_m put4 kind_of op1 op2 nest words least rise test Spp.field Spp.apply Spp.exit Spp.each Spp.complement Spp.sequence Spp.seq_exit Spp.product Spp.star Spp.star_exit Spp.blocks Spp.mk Spp.seek Spp.same Spp.kids Spp.kid Spp.room Spp.put Spp.zero_at Spp.one_at Spp.top_at ListSteps.unite ListSteps.enter ListSteps.enter_in ListSteps.place ListSteps.st_singleton ListSteps.split ListSteps.insert ListSteps.insert_each ListSteps.insert_pairs ListSteps.st_union ListSteps.st_intersect ListSteps.cover_all ListSteps.st_complement ListSteps.st_postcompose ListSteps.st_precompose ListSteps.st_intersect_expr epsilon_of set_word keep_epsilon each_of unite_all meet_all epsilon_by_kind epsilon_with epsilon_by epsilon start_of count_of edges flat room_t append list_at keep_list union_all intersect_all sequence_list star_list until_list dup_list top_list delta_by_kind delta_with delta_by delta
hold = ((refl, tt), (refl, (refl, (refl, (refl, (refl, (refl, (refl, tt))))))))

pub corners : Hold rows
corners = hold.0

pub others : Hold examples
others = hold.1

-- ---- the tables that the rows start from are begun, and in order

zeros : (n j : ℕ) → ◌≡◌ {A = ℕ} (get_or (replicate n 0) j 0) 0
zeros zero j = refl
zeros (suc n) zero = refl
zeros (suc n) (suc j) = zeros n j

pub begins : (Sp.constants 1 (table (replicate 8 0) 0) ≡ given (room 4).sets 2) × (Spp.constants 1 (table (replicate 32 0) 0) ≡ given (room 4).base.aut.nodes (record { zero = 2; one = 3; top = 4 }))
unfolding flip Sp.constants Sp.mk Sp.intern Sp.seek Sp.same Sp.kid Sp.put Sp.room Spp.constants Spp.zeros Spp.ones Spp.tops Spp.zero_at Spp.mk Spp.seek Spp.same Spp.kid Spp.put Spp.room
begins = (refl, refl)

pub in_order : WfTables 1 limits01 (room 4)
in_order = begun_ordered (replicate 8 0) (replicate 32 0) (replicate 72 0) (replicate 4 0) (replicate 8 0) (omega arith) begins.0 begins.1 (zeros 72)
