-- 01, "The book and its answers": a whole book with its searches: constructors, a live query's walk over the states (its relations alone), and two of the plain searches of demand 3. Every word of the relation nodes, states
-- (words 0 to 6), members and transitions, the verdicts and the counts are those that another program gives, which was written from 01 and compared with the Rust.
use mathlib.Core.Path.{◌≡◌, refl}
use mathlib.Core.List.{List, [], ◌∷◌, ◌++◌}
use Prim.Native.Nat.{ℕ, ◌*◌}
use lib.ListN.{take}
use Rattle.common.specs.Outcome.{Outcome, refused, given, Step, return, ◌>>=◌}
use Rattle.netkat_steps.specs.ListSteps as ListSteps
use Rattle.spp_steps.specs.Model as Spp
use Rattle.aut_steps.specs.Tables.{limits01, on_states, kind_of, op1, op2, nest, words, room_s, room_m, put4}
use Rattle.aut_steps.specs.Intern.{intern0, intern1, intern2, intern_l, put_l, put, seek, same2, same_at, same_l, store as storeMembers, nest_l}
use Rattle.aut_steps.specs.Lists.{least, rise}
use Rattle.aut_steps.specs.Constructors.{mk_spp, mk_dup, mk_top, mk_union, mk_union_n, mk_intersect_n, mk_intersect, mk_intersect_n_base, mk_complement, mk_sequence, mk_xor, mk_difference, sequence_by, sequence_with, mk_star, mk_until, unite, meet, open_union, open_all, opened, extend, each, count_all, count_one, product, base, bases, finish, add_relation, unite_one, meet_one, meet_finish, add_last, spp_of}
use Rattle.aut_delta_steps.specs.Epsilon.{epsilon_of, set_word, keep_epsilon, each_of, unite_all, meet_all, epsilon_by_kind, epsilon_with, epsilon_by, epsilon}
use Rattle.aut_st_steps.specs.Edges.{edges, flat}
use Rattle.aut_delta_steps.specs.Delta.{start_of, count_of, Store, on_aut, room_t, append, list_at, keep_list, union_all, intersect_all, sequence_list, star_list, until_list, dup_list, top_list, delta_by_kind, delta_with, delta_by, delta}
use Rattle.aut_delta_steps.specs.Examples.{holding}
use mathlib.Core.Bool.{true, false}
use Rattle.common.specs.Packets.{packets, inhabited, image, relates}
use Rattle.netkat.specs.Search.{Verdict, yes, no, spent, turn, run, search, walk}
use Rattle.spp_steps.specs.Model.{test, assign}
use Rattle.aut_delta_steps.proofs.Order.{explore, behind}
use Rattle.aut_delta_steps.specs.PlainSearch.{answers}

abbrev verdict : Verdict → ℕ
verdict yes = 0
verdict no = 1
verdict spent = 2

-- a search's verdict and count
abbrev empty : ℕ → ℕ → Step Store (List ℕ)
empty budget x = search (answers 1 limits01) budget x >>= λ r. return (verdict r.0 ∷ r.1.count ∷ [])

-- the words of the records in use, and the answers
record Shown : Type 0 where
  nodes : List ℕ
  states : List ℕ
  members : List ℕ
  transitions : List ℕ
  answered : List ℕ

abbrev shown : List ℕ → List ℕ → List ℕ → List ℕ → List ℕ → Shown
shown a b c d e = record { nodes = a; states = b; members = c; transitions = d; answered = e }

abbrev read : Outcome Store (List ℕ) → Shown
read (refused number) = shown (number ∷ []) [] [] [] []
read (given σ answered) = shown (take (4 * σ.aut.nodes.count) σ.aut.nodes.words) (take (12 * σ.aut.states.count) σ.aut.states.words)
    (take σ.aut.members.count σ.aut.members.words) (take (2 * σ.transitions.count) σ.transitions.words) answered

book : read ((on_aut (on_states mk_dup) >>= λ x0.
    on_aut (spp_of (assign 1 1 0 false)) >>= λ x1.
    on_aut (spp_of (test 1 1 0 false)) >>= λ x2.
    on_aut (mk_sequence 1 limits01 x0 x2) >>= λ x3.
    on_aut (mk_sequence 1 limits01 x1 x3) >>= λ x4.
    on_aut (mk_star 1 limits01 x4) >>= λ x5.
    on_aut (spp_of (assign 1 1 0 true)) >>= λ x6.
    on_aut (spp_of (test 1 1 0 true)) >>= λ x7.
    on_aut (mk_sequence 1 limits01 x0 x7) >>= λ x8.
    on_aut (mk_sequence 1 limits01 x6 x8) >>= λ x9.
    on_aut (mk_union_n 1 limits01 (x9 ∷ x8 ∷ [])) >>= λ x10.
    on_aut (mk_difference 1 limits01 x7 x1) >>= λ x11.
    on_aut (mk_intersect 1 limits01 x2 x8) >>= λ x12.
    on_aut (mk_xor 1 limits01 x10 x2) >>= λ x13.
    explore 1 60 0 (x5 ∷ []) >>= λ x14.
    empty 100 x4 >>= λ x15.
    empty 100 x12 >>= λ x16.
    return (x15 ++ x16 ++ [])) (holding 17 8 8 [] [] [] []))
    ≡ shown (0 ∷ 0 ∷ 0 ∷ 0 ∷ 1 ∷ 0 ∷ 0 ∷ 1 ∷ 1 ∷ 1 ∷ 1 ∷ 1 ∷ 1 ∷ 0 ∷ 1 ∷ 0 ∷ 1 ∷ 0 ∷ 0 ∷ 0 ∷ 0 ∷ 1 ∷ 0 ∷ 1 ∷ 0 ∷ 0 ∷ 0 ∷ 1 ∷ [])
    (9 ∷ 0 ∷ 0 ∷ 0 ∷ 3 ∷ 0 ∷ 2 ∷ 0 ∷ 0 ∷ 0 ∷ 0 ∷ 0 ∷
    1 ∷ 5 ∷ 0 ∷ 0 ∷ 0 ∷ 0 ∷ 1 ∷ 0 ∷ 0 ∷ 0 ∷ 0 ∷ 0 ∷
    1 ∷ 6 ∷ 0 ∷ 0 ∷ 0 ∷ 1 ∷ 1 ∷ 0 ∷ 0 ∷ 0 ∷ 0 ∷ 0 ∷
    7 ∷ 0 ∷ 2 ∷ 1 ∷ 3 ∷ 1 ∷ 2 ∷ 0 ∷ 0 ∷ 0 ∷ 0 ∷ 0 ∷
    7 ∷ 1 ∷ 3 ∷ 2 ∷ 3 ∷ 2 ∷ 2 ∷ 0 ∷ 0 ∷ 0 ∷ 0 ∷ 0 ∷
    8 ∷ 4 ∷ 0 ∷ 3 ∷ 4 ∷ 3 ∷ 2 ∷ 0 ∷ 0 ∷ 0 ∷ 0 ∷ 0 ∷
    1 ∷ 7 ∷ 0 ∷ 0 ∷ 0 ∷ 0 ∷ 0 ∷ 0 ∷ 0 ∷ 0 ∷ 0 ∷ 0 ∷
    1 ∷ 8 ∷ 0 ∷ 0 ∷ 0 ∷ 5 ∷ 1 ∷ 0 ∷ 0 ∷ 0 ∷ 0 ∷ 0 ∷
    7 ∷ 0 ∷ 7 ∷ 1 ∷ 3 ∷ 5 ∷ 2 ∷ 0 ∷ 0 ∷ 0 ∷ 0 ∷ 0 ∷
    7 ∷ 6 ∷ 8 ∷ 2 ∷ 0 ∷ 0 ∷ 0 ∷ 0 ∷ 0 ∷ 0 ∷ 0 ∷ 0 ∷
    2 ∷ 0 ∷ 2 ∷ 3 ∷ 0 ∷ 0 ∷ 0 ∷ 0 ∷ 0 ∷ 0 ∷ 0 ∷ 0 ∷
    3 ∷ 2 ∷ 2 ∷ 2 ∷ 3 ∷ 6 ∷ 1 ∷ 0 ∷ 0 ∷ 0 ∷ 0 ∷ 0 ∷
    4 ∷ 2 ∷ 10 ∷ 4 ∷ 0 ∷ 0 ∷ 0 ∷ 0 ∷ 0 ∷ 0 ∷ 0 ∷ 0 ∷
    1 ∷ 3 ∷ 0 ∷ 0 ∷ 0 ∷ 0 ∷ 0 ∷ 0 ∷ 0 ∷ 0 ∷ 0 ∷ 0 ∷
    1 ∷ 2 ∷ 0 ∷ 0 ∷ 0 ∷ 0 ∷ 0 ∷ 0 ∷ 0 ∷ 0 ∷ 0 ∷ 0 ∷
    7 ∷ 2 ∷ 5 ∷ 4 ∷ 7 ∷ 4 ∷ 2 ∷ 0 ∷ 0 ∷ 0 ∷ 0 ∷ 0 ∷
    []) (8 ∷ 9 ∷ 8 ∷ 2 ∷ []) (13 ∷ 3 ∷ 2 ∷ 3 ∷ 2 ∷ 5 ∷ 15 ∷ 5 ∷ 15 ∷ 6 ∷ 7 ∷ 3 ∷ []) (1 ∷ 2 ∷ 0 ∷ 1 ∷ [])
unfolding behind explore mk_spp mk_dup mk_top mk_union mk_union_n mk_intersect_n mk_intersect mk_intersect_n_base mk_complement mk_sequence mk_xor mk_difference sequence_by sequence_with mk_star mk_until unite meet open_union open_all opened extend each count_all count_one product base bases finish add_relation unite_one meet_one meet_finish add_last intern0 intern1 intern2 intern_l put_l put seek same2 same_at same_l storeMembers nest_l room_s room_m put4 kind_of op1 op2 nest words least rise Spp.apply Spp.exit Spp.each Spp.complement Spp.sequence Spp.seq_exit Spp.product Spp.star Spp.star_exit Spp.blocks Spp.mk Spp.seek Spp.same Spp.kids Spp.kid Spp.room Spp.put Spp.zero_at Spp.one_at Spp.top_at ListSteps.unite ListSteps.enter ListSteps.enter_in ListSteps.place ListSteps.st_singleton ListSteps.split ListSteps.insert ListSteps.insert_each ListSteps.insert_pairs ListSteps.st_union ListSteps.st_intersect ListSteps.subtract_row ListSteps.subtract_rows ListSteps.st_difference ListSteps.st_xor ListSteps.cover_all ListSteps.st_complement ListSteps.st_postcompose ListSteps.st_precompose ListSteps.st_intersect_expr epsilon_of set_word keep_epsilon each_of unite_all meet_all epsilon_by_kind epsilon_with epsilon_by epsilon start_of count_of edges flat room_t append list_at keep_list union_all intersect_all sequence_list star_list until_list dup_list top_list delta_by_kind delta_with delta_by delta packets inhabited image relates turn run search walk Spp.mem test assign Spp.field
book = refl
