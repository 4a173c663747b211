-- 01, "The book and its answers", lines `live` and `pruned` of the example book, with every word of the tables; and small books that tell other readings of `live_packets` apart: the need of
-- pending entries, whose live sets are kept, the order of the work list and of the predecessors.
use mathlib.Core.Path.{refl}
use mathlib.Core.Bool.{true, false}
use mathlib.Core.List.{List, [], ◌∷◌}
use Prim.Native.Nat.{ℕ}
use lib.ListN.{length, take, drop, replicate}
use Rattle.common.specs.Outcome.{Outcome, refused, given, Step, return, ◌>>=◌}
use Rattle.common.specs.Runs.{table}
use Rattle.common.specs.Rows.{Row, row, from, Hold}
use Rattle.netkat_steps.specs.ListSteps as ListSteps
use Rattle.netkat_steps.specs.ListSteps.{Edge, edge}
use Rattle.sp_steps.specs.Word.{flip}
use Rattle.sp_steps.specs.Model as Sp
use Rattle.spp_steps.specs.Model as Spp
use Rattle.spp_steps.specs.Model.{test}
use Rattle.spp_steps.specs.ImageModel as Images
use Rattle.aut_steps.specs.Tables.{limits01, aut, on_nodes, on_states, kind_of, op1, op2, nest, words, room_s, room_m, put4, SPP, SEQUENCE, DUP}
use Rattle.aut_steps.specs.Intern.{intern0, intern1, intern2, intern_l, put_l, put, seek, same2, same_at, same_l, store as storeMembers, nest_l}
use Rattle.aut_steps.specs.Lists.{least, rise}
use Rattle.aut_steps.specs.Constructors.{spp_of, mk_spp, mk_dup, mk_top, mk_union, mk_union_n, mk_intersect_n, mk_intersect, mk_intersect_n_base, mk_complement, mk_difference, mk_xor, mk_sequence, sequence_by, sequence_with, mk_star, mk_until, unite, meet, open_union, open_all, opened, extend, each, count_all, count_one, product, base, bases, finish, add_relation, unite_one, meet_one, meet_finish, add_last}
use Rattle.aut_delta_steps.specs.Epsilon.{epsilon_of, set_word, keep_epsilon, each_of, unite_all, meet_all, epsilon_by_kind, epsilon_with, epsilon_by, epsilon}
use Rattle.aut_st_steps.specs.Edges.{edges, flat}
use Rattle.aut_delta_steps.specs.Delta.{start_of, count_of, store, on_aut, room_t, append, list_at, keep_list, union_all, intersect_all, sequence_list, star_list, until_list, dup_list, top_list, delta_by_kind, delta_with, delta_by, delta}
use Rattle.aut_query_steps.specs.Tables.{Tables, tables, on_sets, on_base, live_of}
use Rattle.aut_query_steps.specs.Live.{enqueue, label_to, enlarge, keep_in, explore, pull_back, pull_from, pull_all, settle, live_sets, live_anew, live_packets}
use Rattle.aut_query_steps.specs.Pruned.{viable, prune, delta_pruned}
use Rattle.aut_query_steps.specs.Corners.{holding, room}

-- the words of a state, with live + 1
abbrev state : ℕ → ℕ → ℕ → ℕ → ℕ → ℕ → ℕ → ℕ → List ℕ → List ℕ
state k x y e ε start count live rest = k ∷ x ∷ y ∷ e ∷ ε ∷ start ∷ count ∷ live ∷ 0 ∷ 0 ∷ 0 ∷ 0 ∷ rest

-- constructor lines, for N fields
module _ (N : ℕ) where
  abbrev all : Step Tables ℕ
  all = on_base (on_aut (on_states (mk_spp (Spp.top_at N N))))

  abbrev zero_line : Step Tables ℕ
  zero_line = on_base (on_aut (on_states (mk_spp (Spp.zero_at N N))))

  abbrev is_zero : ℕ → Step Tables ℕ
  is_zero f = on_base (on_aut (spp_of (test N N f false)))

  abbrev seq : ℕ → ℕ → Step Tables ℕ
  seq a b = on_base (on_aut (mk_sequence N limits01 a b))

  abbrev or : ℕ → ℕ → Step Tables ℕ
  or a b = on_base (on_aut (mk_union N limits01 a b))

  abbrev xor : ℕ → ℕ → Step Tables ℕ
  xor a b = on_base (on_aut (mk_xor N limits01 a b))

abbrev dup : Step Tables ℕ
dup = on_base (on_aut (on_states mk_dup))

-- zeroed tables with room for 64 records of each kind, and the constants of N fields made there
abbrev begun : ℕ → Step Tables ℕ → Outcome Tables ℕ
begun N c = (on_sets (Sp.constants N) >>= λ _. on_base (on_aut (on_nodes (Spp.constants N))) >>= λ _. c)
    (tables (table (replicate 128 0) 0) (store (aut (table (replicate 256 0) 0) (table (replicate 768 0) 0) (table (replicate 64 0) 0)) (table (replicate 128 0) 0)))

-- some words of the packet nodes, of the relation nodes and of the states
abbrev packet_words : ℕ → ℕ → Outcome Tables ℕ → List ℕ
packet_words a k (refused number) = number ∷ []
packet_words a k (given σ v) = take k (drop a σ.sets.words)

abbrev relation_words : ℕ → ℕ → Outcome Tables ℕ → List ℕ
relation_words a k (refused number) = number ∷ []
relation_words a k (given σ v) = take k (drop a σ.base.aut.nodes.words)

abbrev state_words : ℕ → ℕ → Outcome Tables ℕ → List ℕ
state_words a k (refused number) = number ∷ []
state_words a k (given σ v) = take k (drop a σ.base.aut.states.words)

abbrev live : ℕ → ℕ → ℕ → Step Tables ℕ
live N lent x = live_packets N limits01 lent x

abbrev pruned : ℕ → ℕ → Step Tables ℕ
pruned N x = delta_pruned N limits01 256 x >>= λ es. return (length es)

-- the lines `live 2` and then `pruned 2` of the example book
abbrev book : Step Tables (ℕ × List Edge)
book = on_base (on_aut (spp_of (test 1 1 0 true))) >>= λ x0. dup >>= λ x1. seq 1 x0 x1 >>= λ x2. live 1 4 x2 >>= λ l. delta_pruned 1 limits01 0 x2 >>= λ es. return (l, es)

abbrev orders : List Row
orders =
    from (room 4) book
    (given (holding 4 6 4 4 (0 ∷ 1 ∷ []) (0 ∷ 0 ∷ 0 ∷ 1 ∷ [])
    (state SPP 5 0 0 0 0 1 0 (state DUP 0 0 0 3 0 2 0 (state SEQUENCE 0 1 1 3 1 2 5 (state SPP 3 0 0 0 2 1 4 (state SPP 2 0 0 0 0 0 0 [])))))
    [] (3 ∷ 3 ∷ 3 ∷ 5 ∷ [])) (4, edge 3 5 ∷ []))
    -- words 4 to 7 of an SPP state; one entry is enough, none is not
    ∷ row (state_words 4 4 (begun 0 (zero_line 0 >>= live 0 1))) (0 ∷ 0 ∷ 1 ∷ 1 ∷ [])
    ∷ row (begun 0 (zero_line 0 >>= live 0 0)) (refused 24)
    -- Dup leads to a second state; its live set is kept too
    ∷ row (begun 0 (dup >>= live 0 1)) (refused 24)
    ∷ row (state_words 19 1 (begun 0 (dup >>= live 0 2))) (2 ∷ [])
    -- live sets of other states that are kept are not used: three states are reached again
    ∷ row (begun 0 (dup >>= λ a. live 0 2 a >>= λ _. seq 0 a a >>= live 0 2)) (refused 24)
    -- a state waits twice in the work list
    ∷ row (packet_words 8 6 (begun 2 (dup >>= λ a. is_zero 2 0 >>= λ b. seq 2 a b >>= λ c. seq 2 a c >>= λ d. is_zero 2 1 >>= λ e. seq 2 e a >>= λ f. or 2 f d >>= live 2 256))) (8 ∷ 2 ∷ 8 ∷ 8 ∷ 2 ∷ 8 ∷ [])
    -- predecessors in the order of the visits, not by number
    ∷ row (packet_words 8 4 (begun 2 (dup >>= λ a. is_zero 2 0 >>= λ b. seq 2 b a >>= λ c. is_zero 2 1 >>= λ d. seq 2 a b >>= λ e. seq 2 d e >>= λ f. seq 2 f a >>= λ g. xor 2 g c >>= live 2 256))) (6 ∷ 2 ∷ 2 ∷ 3 ∷ [])
    -- pruned of an SPP state has no transition
    ∷ row (state_words 0 1 (begun 0 (zero_line 0 >>= pruned 0))) (1 ∷ [])
    ∷ []

hold : Hold orders
unfolding enqueue label_to enlarge keep_in explore pull_back pull_from pull_all settle live_sets live_anew live_packets live_of viable prune delta_pruned flip Sp.constants Sp.kid Sp.child Sp.same Sp.seek Sp.room Sp.put Sp.intern Sp.mk Sp.exit Sp.join Sp.both Sp.apply Sp.union Sp.complement Sp.difference Sp.is_zero Sp.is_universal Images.fwd_node Images.fwd Images.bwd_node Images.bwd Images.ifwd_node Images.ifwd Images.led_exit Images.pull_node Images.pull mk_spp mk_dup mk_top mk_union mk_union_n mk_intersect_n mk_intersect mk_intersect_n_base mk_complement mk_difference mk_xor mk_sequence sequence_by sequence_with mk_star mk_until unite meet open_union open_all opened extend each count_all count_one product base bases finish add_relation unite_one meet_one meet_finish add_last intern0 intern1 intern2 intern_l put_l put seek same2 same_at same_l storeMembers nest_l room_s room_m put4 kind_of op1 op2 nest words least rise test Spp.constants Spp.zeros Spp.ones Spp.tops Spp.field Spp.apply Spp.exit Spp.each Spp.complement Spp.sequence Spp.seq_exit Spp.product Spp.star Spp.star_exit Spp.blocks Spp.mk Spp.seek Spp.same Spp.kids Spp.kid Spp.room Spp.put Spp.zero_at Spp.one_at Spp.top_at ListSteps.unite ListSteps.enter ListSteps.enter_in ListSteps.place ListSteps.st_singleton ListSteps.split ListSteps.insert ListSteps.insert_each ListSteps.insert_pairs ListSteps.st_union ListSteps.st_intersect ListSteps.subtract_row ListSteps.subtract_rows ListSteps.st_difference ListSteps.st_xor ListSteps.cover_all ListSteps.st_complement ListSteps.st_postcompose ListSteps.st_precompose ListSteps.st_intersect_expr epsilon_of set_word keep_epsilon each_of unite_all meet_all epsilon_by_kind epsilon_with epsilon_by epsilon start_of count_of edges flat room_t append list_at keep_list union_all intersect_all sequence_list star_list until_list dup_list top_list delta_by_kind delta_with delta_by delta
hold = (refl, (refl, (refl, (refl, (refl, (refl, (refl, (refl, (refl, tt)))))))))
