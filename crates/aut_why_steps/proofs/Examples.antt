-- 02 (i), computed: the sentence's string and some words of the tables, in books that tell other readings of the rounds apart.
use mathlib.Core.Path.{refl}
use mathlib.Core.Bool.{Bool, true, false}
use mathlib.Core.List.{List, [], ◌∷◌}
use mathlib.Core.Option.{Option, none, some}
use Prim.Native.Nat.{ℕ, ◌*◌}
use lib.ListN.{take, replicate}
use Rattle.common.specs.Packets.{end, bit}
use Rattle.common.specs.Outcome.{Outcome, refused, given, Step, ◌>>=◌}
use Rattle.common.specs.Runs.{table}
use Rattle.common.specs.Rows.{Row, row, Hold}
use Rattle.netkat.specs.Strings.{Str, str}
use Rattle.netkat_paths.specs.Order as Order
use Rattle.netkat_paths.specs.Pick as Pick
use Rattle.netkat_steps.specs.ListSteps as ListSteps
use Rattle.sp_steps.specs.Word.{flip}
use Rattle.sp_steps.specs.Model as Sp
use Rattle.spp_steps.specs.Model as Spp
use Rattle.spp_steps.specs.Model.{test}
use Rattle.spp_steps.specs.ImageModel as Images
use Rattle.aut_steps.specs.Tables.{limits01, aut, on_nodes, on_states, kind_of, op1, op2, nest, words, room_s, room_m, put4}
use Rattle.aut_steps.specs.Intern.{intern0, intern1, intern2, intern_l, put_l, put, seek, same2, same_at, same_l, store as storeMembers, nest_l}
use Rattle.aut_steps.specs.Lists.{least, rise}
use Rattle.aut_steps.specs.Constructors.{spp_of, mk_spp, mk_dup, mk_top, mk_union, mk_union_n, mk_intersect_n, mk_intersect, mk_intersect_n_base, mk_complement, mk_difference, mk_xor, mk_sequence, sequence_by, sequence_with, mk_star, mk_until, unite, meet, open_union, open_all, opened, extend, each, count_all, count_one, product, base, bases, finish, add_relation, unite_one, meet_one, meet_finish, add_last}
use Rattle.aut_delta_steps.specs.Epsilon.{epsilon_of, value_of, set_word, keep_epsilon, each_of, unite_all, meet_all, epsilon_by_kind, epsilon_with, epsilon_by, epsilon}
use Rattle.aut_st_steps.specs.Edges.{edges, flat}
use Rattle.aut_delta_steps.specs.Delta.{start_of, count_of, store, on_aut, room_t, append, list_at, keep_list, union_all, intersect_all, sequence_list, star_list, until_list, dup_list, top_list, delta_by_kind, delta_with, delta_by, delta}
use Rattle.aut_query_steps.specs.Tables.{Tables, tables, on_sets, on_base, live_of}
use Rattle.aut_query_steps.specs.Live.{enqueue, label_to, enlarge, keep_in, explore, pull_back, pull_from, pull_all, settle, live_sets}
use Rattle.aut_why_steps.specs.Why as Why
use Rattle.aut_why_steps.specs.Why.{why}

-- constructor lines, for N fields
module _ (N : ℕ) where
  abbrev testing : ℕ → Bool → Step Tables ℕ
  testing f b = on_base (on_aut (spp_of (test N N f b)))

  abbrev setting : ℕ → Bool → Step Tables ℕ
  setting f b = on_base (on_aut (spp_of (Spp.assign N N f b)))

  abbrev seq : ℕ → ℕ → Step Tables ℕ
  seq a b = on_base (on_aut (mk_sequence N limits01 a b))

  abbrev or : ℕ → ℕ → Step Tables ℕ
  or a b = on_base (on_aut (mk_union N limits01 a b))

  abbrev one_of : List ℕ → Step Tables ℕ
  one_of xs = on_base (on_aut (mk_union_n N limits01 xs))

abbrev dup : Step Tables ℕ
dup = on_base (on_aut (on_states mk_dup))

-- zeroed tables with room for 64 records of each kind, and the constants of N fields made there
abbrev begun : {A : Type 0} (N : ℕ) → Step Tables A → Outcome Tables A
begun N c = (on_sets (Sp.constants N) >>= λ _. on_base (on_aut (on_nodes (Spp.constants N))) >>= λ _. c)
    (tables (table (replicate 128 0) 0) (store (aut (table (replicate 256 0) 0) (table (replicate 768 0) 0) (table (replicate 64 0) 0)) (table (replicate 128 0) 0)))

-- the packet nodes and some words of the states, and what is given
pub record Seen (A : Type 0) : Type 0 where
  pub packets : List ℕ
  pub states : List ℕ
  pub value : A

abbrev seen : {A : Type 0} → ℕ → Outcome Tables A → Option (Seen A)
seen k (refused number) = none
seen k (given σ v) = some (record { packets = take (2 * σ.sets.count) σ.sets.words; states = take k σ.base.aut.states.words; value = v })

-- small books
abbrev until_none : Step Tables (Option (Str 3))
until_none =
    dup >>= λ x0. testing 3 0 false >>= λ x1. seq 3 x0 x0 >>= λ x2. seq 3 x0 x1 >>= λ x3. one_of 3 (x2 ∷ x3 ∷ []) >>= λ x4. testing 3 2 false >>= λ x5. one_of 3 (x4 ∷ x5 ∷ []) >>= λ x6. why 3 limits01 256 x6

abbrev old_sets : Step Tables (Option (Str 3))
old_sets =
    dup >>= λ x0. testing 3 2 false >>= λ x1. one_of 3 (x0 ∷ x1 ∷ []) >>= λ x2. setting 3 1 false >>= λ x3. seq 3 x0 x2 >>= λ x4. seq 3 x3 x4 >>= λ x5. testing 3 0 false >>= λ x6. one_of 3 (x5 ∷ x6 ∷ []) >>= λ x7. seq 3 x0 x7 >>= λ x8. one_of 3 (x8 ∷ x7 ∷ []) >>= λ x9. why 3 limits01 256 x9

abbrev all_states : Step Tables (Option (Str 3))
all_states =
    dup >>= λ x0. testing 3 0 false >>= λ x1. seq 3 x0 x1 >>= λ x2. testing 3 0 true >>= λ x3. seq 3 x3 x2 >>= λ x4. testing 3 2 false >>= λ x5. one_of 3 (x0 ∷ x5 ∷ []) >>= λ x6. seq 3 x0 x6 >>= λ x7. seq 3 x4 x7 >>= λ x8. why 3 limits01 256 x8

abbrev rows : List Row
rows =
    -- without fields, with every word of two states: `from - by - to -`
    row (seen 24 (begun 0 (dup >>= why 0 limits01 256)))
    (some (record { packets = []; states = 9 ∷ 0 ∷ 0 ∷ 0 ∷ 1 ∷ 0 ∷ 2 ∷ 2 ∷ 0 ∷ 0 ∷ 0 ∷ 0 ∷ 1 ∷ 1 ∷ 0 ∷ 0 ∷ 0 ∷ 1 ∷ 1 ∷ 2 ∷ 0 ∷ 0 ∷ 0 ∷ 0 ∷ []; value = some (str end (end ∷ []) end) }))
    -- until none changes, not until the state has a string
    ∷ row (seen 0 (begun 3 until_none)) (some (record { packets = 0 ∷ 0 ∷ 2 ∷ 2 ∷ 4 ∷ 4 ∷ 0 ∷ 1 ∷ 8 ∷ 8 ∷ 10 ∷ 10 ∷ 4 ∷ 5 ∷ 4 ∷ 10 ∷ []; states = []; value = some (str (bit false (bit false (bit false end))) ([]) (bit false (bit false (bit false end)))) }))
    -- the sets of the round before, not those written so far
    ∷ row (seen 0 (begun 3 old_sets)) (some (record { packets = 0 ∷ 0 ∷ 2 ∷ 2 ∷ 4 ∷ 4 ∷ 4 ∷ 5 ∷ 0 ∷ 1 ∷ 10 ∷ 10 ∷ 12 ∷ 12 ∷ 4 ∷ 12 ∷ 2 ∷ 3 ∷ 18 ∷ 18 ∷ 2 ∷ 10 ∷ 4 ∷ 22 ∷ 4 ∷ 18 ∷ 2 ∷ 11 ∷ 28 ∷ 28 ∷ 4 ∷ 29 ∷ 18 ∷ 4 ∷ 10 ∷ 3 ∷ 18 ∷ 36 ∷ 10 ∷ 2 ∷ 4 ∷ 40 ∷ 4 ∷ 19 ∷ 18 ∷ 28 ∷ []; states = []; value = some (str (bit false (bit false (bit false end))) ([]) (bit false (bit false (bit false end)))) }))
    -- the sets of all states, and none
    ∷ row (seen 0 (begun 3 all_states)) (some (record { packets = 0 ∷ 0 ∷ 2 ∷ 2 ∷ 4 ∷ 4 ∷ 0 ∷ 1 ∷ 8 ∷ 8 ∷ 10 ∷ 10 ∷ 4 ∷ 5 ∷ 10 ∷ 5 ∷ []; states = []; value = none }))
    ∷ []

hold : Hold rows
unfolding Sp.mem Spp.mem Why.each Why.same_on Why.ends Why.joins Why.turn Why.rounds Why.fewest Why.rounds_of Why.why_sets Why.why Order.value Order.least Pick.hop Pick.way Pick.pick value_of enqueue label_to enlarge keep_in explore pull_back pull_from pull_all settle live_sets live_of flip Sp.constants Sp.kid Sp.child Sp.same Sp.seek Sp.room Sp.put Sp.intern Sp.mk Sp.exit Sp.join Sp.both Sp.apply Sp.union Sp.complement Sp.difference Sp.is_zero Sp.is_universal Images.fwd_node Images.fwd Images.bwd_node Images.bwd Images.ifwd_node Images.ifwd Images.led_exit Images.pull_node Images.pull Images.push_node Images.push mk_spp mk_dup mk_top mk_union mk_union_n mk_intersect_n mk_intersect mk_intersect_n_base mk_complement mk_difference mk_xor mk_sequence sequence_by sequence_with mk_star mk_until unite meet open_union open_all opened extend each count_all count_one product base bases finish add_relation unite_one meet_one meet_finish add_last intern0 intern1 intern2 intern_l put_l put seek same2 same_at same_l storeMembers nest_l room_s room_m put4 kind_of op1 op2 nest words least rise test Spp.constants Spp.zeros Spp.ones Spp.tops Spp.assign Spp.field Spp.apply Spp.exit Spp.each Spp.complement Spp.sequence Spp.seq_exit Spp.product Spp.star Spp.star_exit Spp.blocks Spp.mk Spp.seek Spp.same Spp.kids Spp.kid Spp.room Spp.put Spp.zero_at Spp.one_at Spp.top_at ListSteps.unite ListSteps.enter ListSteps.enter_in ListSteps.place ListSteps.st_singleton ListSteps.split ListSteps.insert ListSteps.insert_each ListSteps.insert_pairs ListSteps.st_union ListSteps.st_intersect ListSteps.subtract_row ListSteps.subtract_rows ListSteps.st_difference ListSteps.st_xor ListSteps.cover_all ListSteps.st_complement ListSteps.st_postcompose ListSteps.st_precompose ListSteps.st_intersect_expr epsilon_of set_word keep_epsilon each_of unite_all meet_all epsilon_by_kind epsilon_with epsilon_by epsilon start_of count_of edges flat room_t append list_at keep_list union_all intersect_all sequence_list star_list until_list dup_list top_list delta_by_kind delta_with delta_by delta
hold = (refl, (refl, (refl, (refl, tt))))
