-- Books that are refused, computed: number, text line, output. With what is lent short of one record each; a list of 65; and from a begun place with small limits. And what `netcheck` writes.
use mathlib.Core.Path.{◌≡◌, refl}
use mathlib.Core.List.{List, [], ◌∷◌}
use Prim.Native.Nat.{ℕ}
use Prim.Native.String.{String}
use Rattle.netkat_steps.specs.Handles as Handles
use Rattle.netkat_steps.specs.ListSteps as ListSteps
use Rattle.sp_steps.specs.Model as Sp
use Rattle.spp_steps.specs.Model as Spp
use Rattle.spp_steps.specs.ImageModel as Images
use Rattle.sp_steps.specs.Word.{flip}
use Rattle.spp_steps.specs.Model.{test}
use Rattle.common.specs.Outcome.{Outcome, refused, given}
use Rattle.common.specs.Rows.{Row, row, Hold}
use Rattle.aut_steps.specs.Tables.{Limits, kind_of, op1, op2, nest, words, room_s, room_m, put4}
use Rattle.aut_steps.specs.Intern.{intern0, intern1, intern2, intern_l, put_l, put, seek, same2, same_at, same_l, store as storeMembers, nest_l}
use Rattle.aut_steps.specs.Lists.{least, rise}
use Rattle.aut_steps.specs.Constructors.{mk_spp, mk_dup, mk_top, mk_union, mk_union_n, mk_intersect_n, mk_intersect, mk_intersect_n_base, mk_complement, mk_sequence, sequence_by, sequence_with, mk_star, mk_until, unite, meet, open_union, open_all, opened, extend, each, count_all, count_one, product, base, bases, finish, add_relation, unite_one, meet_one, meet_finish, add_last, mk_difference, mk_xor}
use Rattle.aut_delta_steps.specs.Epsilon.{epsilon_of, set_word, keep_epsilon, each_of, unite_all, meet_all, epsilon_by_kind, epsilon_with, epsilon_by, epsilon}
use Rattle.aut_st_steps.specs.Edges.{edges, flat}
use Rattle.aut_delta_steps.specs.Delta.{start_of, count_of, room_t, append, list_at, keep_list, union_all, intersect_all, sequence_list, star_list, until_list, dup_list, top_list, delta_by_kind, delta_with, delta_by, delta}
use Rattle.aut_query_steps.specs.Tables.{live_of}
use Rattle.aut_query_steps.specs.Search.{is_empty}
use Rattle.aut_query_steps.specs.Live.{enqueue, label_to, enlarge, keep_in, explore, pull_back, pull_from, pull_all, settle, live_anew, live_sets, live_packets}
use Rattle.aut_query_steps.specs.Pruned.{viable, prune, delta_pruned}
use Rattle.book_steps.specs.Text as Text
use Rattle.book_steps.specs.Text.{bytes}
use Rattle.book_steps.specs.Reader as Reader
use Rattle.book_steps.specs.Answers as Answers
use Rattle.book_steps.specs.Claim.{netcheck_output}
use Rattle.book_steps.specs.Run.{Lent, RunState, Result, refusal, finish as finishRun, run, begin, outcome}
use Rattle.book_steps.proofs.RunExamples.{book}

-- lent: words of packet nodes, relation nodes, states, members, transitions; enough of all else
abbrev lent : ℕ → ℕ → ℕ → ℕ → ℕ → Lent
lent sp spp states members transitions = record { sp = sp; spp = spp; states = states; members = members; transitions = transitions; pending = 16; scratch = 6144; output = 100 }

abbrev enough : Lent
enough = lent 32 64 96 16 32

abbrev pub rows : List Row
rows =
    -- 6: a list of 65, though its first member is Top; of 64 it is Top
    book enough "fields 0 budget 0\ntop\nunion 0 0 0 0 0 0 0 0 0 0 0 0 0 0 0 0 0 0 0 0 0 0 0 0 0 0 0 0 0 0 0 0 0 0 0 0 0 0 0 0 0 0 0 0 0 0 0 0 0 0 0 0 0 0 0 0 0 0 0 0 0 0 0 0 0\n" 6 3 "fields 0\n"
    ∷ book enough "fields 0 budget 0\ntop\nunion 0 0 0 0 0 0 0 0 0 0 0 0 0 0 0 0 0 0 0 0 0 0 0 0 0 0 0 0 0 0 0 0 0 0 0 0 0 0 0 0 0 0 0 0 0 0 0 0 0 0 0 0 0 0 0 0 0 0 0 0 0 0 0 0\nlive 1\n" 0 0 "fields 0\nlive 1 1 1000\n"
    -- 20, 21: the constants; a packet set that a query makes; a relation
    ∷ book (lent 1 64 96 16 32) "fields 1 budget 0\n" 20 1 ""
    ∷ book (lent 2 11 96 16 32) "fields 1 budget 0\n" 21 1 ""
    ∷ book (lent 2 64 96 16 32) "fields 1 budget 9\ntest 0 1\nlive 0\n" 20 3 "fields 1\n"
    ∷ book (lent 32 12 96 16 32) "fields 1 budget 0\ntest 0 1\n" 21 2 "fields 1\n"
    -- 22: one state; 23 before it
    ∷ book (lent 32 64 23 16 32) "fields 0 budget 0\ndup\nstar 0\n" 22 3 "fields 0\n"
    ∷ book (lent 32 64 24 1 32) "fields 0 budget 0\ndup\nstar 0\nor 0 1\n" 23 4 "fields 0\n"
    -- 25: a list without room
    ∷ book (lent 32 64 96 16 1) "fields 0 budget 0\ndup\nlive 0\n" 25 3 "fields 0\n"
    ∷ []

pub all_come : Hold rows
unfolding outcome run begin Text.cut Text.words Text.same Text.digits Text.reading Text.number Text.decimal_by Text.decimal Reader.header Reader.find Reader.numbers Reader.exact Reader.parse Reader.giving Reader.resolve Answers.say Answers.share Answers.pair_lines Sp.size Spp.size Spp.assign is_empty Handles.search Handles.run Handles.turn Handles.expand Handles.walk flip Sp.kid Sp.child Sp.same Sp.seek Sp.room Sp.put Sp.intern Sp.mk Sp.exit Sp.join Sp.both Sp.apply Sp.union Sp.complement Sp.difference Sp.is_zero Sp.is_universal Images.fwd_node Images.fwd Images.led_exit Images.push_node Images.push Images.has_exit Images.has_image mk_spp mk_dup mk_top mk_union mk_union_n mk_intersect_n mk_intersect mk_intersect_n_base mk_complement mk_sequence sequence_by sequence_with mk_star mk_until unite meet open_union open_all opened extend each count_all count_one product base bases finish add_relation unite_one meet_one meet_finish add_last intern0 intern1 intern2 intern_l put_l put seek same2 same_at same_l storeMembers nest_l room_s room_m put4 kind_of op1 op2 nest words least rise test Spp.field Spp.apply Spp.exit Spp.each Spp.complement Spp.sequence Spp.seq_exit Spp.product Spp.star Spp.star_exit Spp.blocks Spp.mk Spp.seek Spp.same Spp.kids Spp.kid Spp.room Spp.put Spp.zero_at Spp.one_at Spp.top_at ListSteps.unite ListSteps.enter ListSteps.enter_in ListSteps.place ListSteps.st_singleton ListSteps.split ListSteps.insert ListSteps.insert_each ListSteps.insert_pairs ListSteps.st_union ListSteps.st_intersect ListSteps.cover_all ListSteps.st_complement ListSteps.st_postcompose ListSteps.st_precompose ListSteps.st_intersect_expr epsilon_of set_word keep_epsilon each_of unite_all meet_all epsilon_by_kind epsilon_with epsilon_by epsilon start_of count_of edges flat room_t append list_at keep_list union_all intersect_all sequence_list star_list until_list dup_list top_list delta_by_kind delta_with delta_by delta Sp.constants Spp.constants Spp.zeros Spp.ones Spp.tops enqueue label_to enlarge keep_in explore pull_back pull_from pull_all settle live_anew live_sets live_packets live_of viable prune delta_pruned Images.bwd_node Images.bwd Images.ifwd_node Images.ifwd Images.pull_node Images.pull mk_difference mk_xor ListSteps.subtract_row ListSteps.subtract_rows ListSteps.st_difference ListSteps.st_xor
all_come = (refl, (refl, (refl, (refl, (refl, (refl, (refl, (refl, (refl, tt)))))))))

-- ---- with small limits, from the begun place

abbrev large : Lent
large = lent 32 128 192 32 32

abbrev from : Limits → List ℕ → Outcome RunState ℕ → Result
from L text (refused e) = refusal large e 1 []
from L text (given p x) = finishRun large (run (record { fields = 1; budget = 9; limits = L; entries = 8; room = 100 }) 2048 text 2 p)

-- lines with these limits: the number and the text line that they come to
abbrev limited : ℕ → ℕ → ℕ → ℕ → String → ℕ → ℕ → Row
limited nesting list products transitions text number line =
    let o : Result = from (record { nesting = nesting; list = list; products = products; transitions = transitions }) (bytes text) (begin large (record { fields = 1; budget = 9 })) in
    row {A = ℕ × ℕ} (o.number, o.line) (number, line)

abbrev pub limits : List Row
limits =
    -- 8 above 2, and 2 is made
    limited 2 64 32 64 "dup\nstar 0\nnot 1\nlive 2\n" 0 0
    ∷ limited 2 64 32 64 "dup\nstar 0\nnot 1\nstar 2\n" 8 5
    -- 6 above 2: given, opened
    ∷ limited 256 2 32 64 "dup\nstar 0\nnot 1\nunion 0 1 2\n" 6 5
    ∷ limited 256 2 32 64 "dup\nstar 0\nnot 1\nor 0 1\nor 3 2\n" 6 6
    -- 7 above 1
    ∷ limited 256 64 1 64 "dup\nstar 0\nor 0 1\ntop\nand 2 3\n" 7 6
    -- 9 above 1
    ∷ limited 256 64 32 1 "test 0 0\ntest 0 1\ndup\nseq 0 2\nseq 2 2\nseq 1 4\nor 3 5\npruned 6\n" 9 9
    ∷ limited 256 64 32 2 "test 0 0\ntest 0 1\ndup\nseq 0 2\nseq 2 2\nseq 1 4\nor 3 5\npruned 6\n" 0 0
    ∷ []

pub all_run : Hold limits
unfolding outcome run begin Text.cut Text.words Text.same Text.digits Text.reading Text.number Text.decimal_by Text.decimal Reader.header Reader.find Reader.numbers Reader.exact Reader.parse Reader.giving Reader.resolve Answers.say Answers.share Answers.pair_lines Sp.size Spp.size Spp.assign is_empty Handles.search Handles.run Handles.turn Handles.expand Handles.walk flip Sp.kid Sp.child Sp.same Sp.seek Sp.room Sp.put Sp.intern Sp.mk Sp.exit Sp.join Sp.both Sp.apply Sp.union Sp.complement Sp.difference Sp.is_zero Sp.is_universal Images.fwd_node Images.fwd Images.led_exit Images.push_node Images.push Images.has_exit Images.has_image mk_spp mk_dup mk_top mk_union mk_union_n mk_intersect_n mk_intersect mk_intersect_n_base mk_complement mk_sequence sequence_by sequence_with mk_star mk_until unite meet open_union open_all opened extend each count_all count_one product base bases finish add_relation unite_one meet_one meet_finish add_last intern0 intern1 intern2 intern_l put_l put seek same2 same_at same_l storeMembers nest_l room_s room_m put4 kind_of op1 op2 nest words least rise test Spp.field Spp.apply Spp.exit Spp.each Spp.complement Spp.sequence Spp.seq_exit Spp.product Spp.star Spp.star_exit Spp.blocks Spp.mk Spp.seek Spp.same Spp.kids Spp.kid Spp.room Spp.put Spp.zero_at Spp.one_at Spp.top_at ListSteps.unite ListSteps.enter ListSteps.enter_in ListSteps.place ListSteps.st_singleton ListSteps.split ListSteps.insert ListSteps.insert_each ListSteps.insert_pairs ListSteps.st_union ListSteps.st_intersect ListSteps.cover_all ListSteps.st_complement ListSteps.st_postcompose ListSteps.st_precompose ListSteps.st_intersect_expr epsilon_of set_word keep_epsilon each_of unite_all meet_all epsilon_by_kind epsilon_with epsilon_by epsilon start_of count_of edges flat room_t append list_at keep_list union_all intersect_all sequence_list star_list until_list dup_list top_list delta_by_kind delta_with delta_by delta Sp.constants Spp.constants Spp.zeros Spp.ones Spp.tops enqueue label_to enlarge keep_in explore pull_back pull_from pull_all settle live_anew live_sets live_packets live_of viable prune delta_pruned Images.bwd_node Images.bwd Images.ifwd_node Images.ifwd Images.pull_node Images.pull mk_difference mk_xor ListSteps.subtract_row ListSteps.subtract_rows ListSteps.st_difference ListSteps.st_xor
all_run = (refl, (refl, (refl, (refl, (refl, (refl, (refl, tt)))))))

-- ---- what `netcheck` writes: 01's book, and refusals

pub example : netcheck_output (bytes "fields 1 budget 10\ntest 0 1\ndup\nseq 0 1\nempty 2\nlive 2\npruned 2\n") ≡ bytes "fields 1\nempty 2 no 2\nlive 2 1 500\npruned 2 1\npair 3 1\n"
unfolding outcome run begin Text.cut Text.words Text.same Text.digits Text.reading Text.number Text.decimal_by Text.decimal Reader.header Reader.find Reader.numbers Reader.exact Reader.parse Reader.giving Reader.resolve Answers.say Answers.share Answers.pair_lines Sp.size Spp.size Spp.assign is_empty Handles.search Handles.run Handles.turn Handles.expand Handles.walk flip Sp.kid Sp.child Sp.same Sp.seek Sp.room Sp.put Sp.intern Sp.mk Sp.exit Sp.join Sp.both Sp.apply Sp.union Sp.complement Sp.difference Sp.is_zero Sp.is_universal Images.fwd_node Images.fwd Images.led_exit Images.push_node Images.push Images.has_exit Images.has_image mk_spp mk_dup mk_top mk_union mk_union_n mk_intersect_n mk_intersect mk_intersect_n_base mk_complement mk_sequence sequence_by sequence_with mk_star mk_until unite meet open_union open_all opened extend each count_all count_one product base bases finish add_relation unite_one meet_one meet_finish add_last intern0 intern1 intern2 intern_l put_l put seek same2 same_at same_l storeMembers nest_l room_s room_m put4 kind_of op1 op2 nest words least rise test Spp.field Spp.apply Spp.exit Spp.each Spp.complement Spp.sequence Spp.seq_exit Spp.product Spp.star Spp.star_exit Spp.blocks Spp.mk Spp.seek Spp.same Spp.kids Spp.kid Spp.room Spp.put Spp.zero_at Spp.one_at Spp.top_at ListSteps.unite ListSteps.enter ListSteps.enter_in ListSteps.place ListSteps.st_singleton ListSteps.split ListSteps.insert ListSteps.insert_each ListSteps.insert_pairs ListSteps.st_union ListSteps.st_intersect ListSteps.cover_all ListSteps.st_complement ListSteps.st_postcompose ListSteps.st_precompose ListSteps.st_intersect_expr epsilon_of set_word keep_epsilon each_of unite_all meet_all epsilon_by_kind epsilon_with epsilon_by epsilon start_of count_of edges flat room_t append list_at keep_list union_all intersect_all sequence_list star_list until_list dup_list top_list delta_by_kind delta_with delta_by delta Sp.constants Spp.constants Spp.zeros Spp.ones Spp.tops enqueue label_to enlarge keep_in explore pull_back pull_from pull_all settle live_anew live_sets live_packets live_of viable prune delta_pruned Images.bwd_node Images.bwd Images.ifwd_node Images.ifwd Images.pull_node Images.pull mk_difference mk_xor ListSteps.subtract_row ListSteps.subtract_rows ListSteps.st_difference ListSteps.st_xor
example = refl

pub no_book : netcheck_output [] ≡ bytes "refused 1 1\n"
unfolding outcome run begin Text.cut Text.words Text.same Text.digits Text.reading Text.number Text.decimal_by Text.decimal Reader.header Reader.find Reader.numbers Reader.exact Reader.parse Reader.giving Reader.resolve Answers.say Answers.share Answers.pair_lines Sp.size Spp.size Spp.assign is_empty Handles.search Handles.run Handles.turn Handles.expand Handles.walk flip Sp.kid Sp.child Sp.same Sp.seek Sp.room Sp.put Sp.intern Sp.mk Sp.exit Sp.join Sp.both Sp.apply Sp.union Sp.complement Sp.difference Sp.is_zero Sp.is_universal Images.fwd_node Images.fwd Images.led_exit Images.push_node Images.push Images.has_exit Images.has_image mk_spp mk_dup mk_top mk_union mk_union_n mk_intersect_n mk_intersect mk_intersect_n_base mk_complement mk_sequence sequence_by sequence_with mk_star mk_until unite meet open_union open_all opened extend each count_all count_one product base bases finish add_relation unite_one meet_one meet_finish add_last intern0 intern1 intern2 intern_l put_l put seek same2 same_at same_l storeMembers nest_l room_s room_m put4 kind_of op1 op2 nest words least rise test Spp.field Spp.apply Spp.exit Spp.each Spp.complement Spp.sequence Spp.seq_exit Spp.product Spp.star Spp.star_exit Spp.blocks Spp.mk Spp.seek Spp.same Spp.kids Spp.kid Spp.room Spp.put Spp.zero_at Spp.one_at Spp.top_at ListSteps.unite ListSteps.enter ListSteps.enter_in ListSteps.place ListSteps.st_singleton ListSteps.split ListSteps.insert ListSteps.insert_each ListSteps.insert_pairs ListSteps.st_union ListSteps.st_intersect ListSteps.cover_all ListSteps.st_complement ListSteps.st_postcompose ListSteps.st_precompose ListSteps.st_intersect_expr epsilon_of set_word keep_epsilon each_of unite_all meet_all epsilon_by_kind epsilon_with epsilon_by epsilon start_of count_of edges flat room_t append list_at keep_list union_all intersect_all sequence_list star_list until_list dup_list top_list delta_by_kind delta_with delta_by delta Sp.constants Spp.constants Spp.zeros Spp.ones Spp.tops enqueue label_to enlarge keep_in explore pull_back pull_from pull_all settle live_anew live_sets live_packets live_of viable prune delta_pruned Images.bwd_node Images.bwd Images.ifwd_node Images.ifwd Images.pull_node Images.pull mk_difference mk_xor ListSteps.subtract_row ListSteps.subtract_rows ListSteps.st_difference ListSteps.st_xor
no_book = refl

pub unknown_line : netcheck_output (bytes "fields 0 budget 9\ndup\nempty 0\nnot 1\n") ≡ bytes "fields 0\nempty 0 no 2\nrefused 4 4\n"
unfolding outcome run begin Text.cut Text.words Text.same Text.digits Text.reading Text.number Text.decimal_by Text.decimal Reader.header Reader.find Reader.numbers Reader.exact Reader.parse Reader.giving Reader.resolve Answers.say Answers.share Answers.pair_lines Sp.size Spp.size Spp.assign is_empty Handles.search Handles.run Handles.turn Handles.expand Handles.walk flip Sp.kid Sp.child Sp.same Sp.seek Sp.room Sp.put Sp.intern Sp.mk Sp.exit Sp.join Sp.both Sp.apply Sp.union Sp.complement Sp.difference Sp.is_zero Sp.is_universal Images.fwd_node Images.fwd Images.led_exit Images.push_node Images.push Images.has_exit Images.has_image mk_spp mk_dup mk_top mk_union mk_union_n mk_intersect_n mk_intersect mk_intersect_n_base mk_complement mk_sequence sequence_by sequence_with mk_star mk_until unite meet open_union open_all opened extend each count_all count_one product base bases finish add_relation unite_one meet_one meet_finish add_last intern0 intern1 intern2 intern_l put_l put seek same2 same_at same_l storeMembers nest_l room_s room_m put4 kind_of op1 op2 nest words least rise test Spp.field Spp.apply Spp.exit Spp.each Spp.complement Spp.sequence Spp.seq_exit Spp.product Spp.star Spp.star_exit Spp.blocks Spp.mk Spp.seek Spp.same Spp.kids Spp.kid Spp.room Spp.put Spp.zero_at Spp.one_at Spp.top_at ListSteps.unite ListSteps.enter ListSteps.enter_in ListSteps.place ListSteps.st_singleton ListSteps.split ListSteps.insert ListSteps.insert_each ListSteps.insert_pairs ListSteps.st_union ListSteps.st_intersect ListSteps.cover_all ListSteps.st_complement ListSteps.st_postcompose ListSteps.st_precompose ListSteps.st_intersect_expr epsilon_of set_word keep_epsilon each_of unite_all meet_all epsilon_by_kind epsilon_with epsilon_by epsilon start_of count_of edges flat room_t append list_at keep_list union_all intersect_all sequence_list star_list until_list dup_list top_list delta_by_kind delta_with delta_by delta Sp.constants Spp.constants Spp.zeros Spp.ones Spp.tops enqueue label_to enlarge keep_in explore pull_back pull_from pull_all settle live_anew live_sets live_packets live_of viable prune delta_pruned Images.bwd_node Images.bwd Images.ifwd_node Images.ifwd Images.pull_node Images.pull mk_difference mk_xor ListSteps.subtract_row ListSteps.subtract_rows ListSteps.st_difference ListSteps.st_xor
unknown_line = refl
