-- Books run, computed: 01's with its budgets, and one for each refusal that a small book can meet: number, text line, output.
use mathlib.Core.Path.{refl}
use mathlib.Core.List.{List, [], ◌∷◌}
use Prim.Native.Nat.{ℕ}
use Prim.Native.String.{String}
use Rattle.common.specs.Rows.{Row, row, Hold}
use Rattle.netkat_steps.specs.Handles as Handles
use Rattle.netkat_steps.specs.ListSteps as ListSteps
use Rattle.sp_steps.specs.Model as Sp
use Rattle.spp_steps.specs.Model as Spp
use Rattle.spp_steps.specs.ImageModel as Images
use Rattle.sp_steps.specs.Word.{flip}
use Rattle.spp_steps.specs.Model.{test}
use Rattle.aut_steps.specs.Tables.{kind_of, op1, op2, nest, words, room_s, room_m, put4}
use Rattle.aut_steps.specs.Intern.{intern0, intern1, intern2, intern_l, put_l, put, seek, same2, same_at, same_l, store as storeMembers, nest_l}
use Rattle.aut_steps.specs.Lists.{least, rise}
use Rattle.aut_steps.specs.Constructors.{mk_spp, mk_dup, mk_top, mk_union, mk_union_n, mk_intersect_n, mk_intersect, mk_intersect_n_base, mk_complement, mk_sequence, sequence_by, sequence_with, mk_star, mk_until, unite, meet, open_union, open_all, opened, extend, each, count_all, count_one, product, base, bases, finish, add_relation, unite_one, meet_one, meet_finish, add_last, mk_difference, mk_xor}
use Rattle.aut_delta_steps.specs.Epsilon.{epsilon_of, value_of, set_word, keep_epsilon, each_of, unite_all, meet_all, epsilon_by_kind, epsilon_with, epsilon_by, epsilon}
use Rattle.aut_st_steps.specs.Edges.{edges, flat}
use Rattle.aut_delta_steps.specs.Delta.{start_of, count_of, room_t, append, list_at, keep_list, union_all, intersect_all, sequence_list, star_list, until_list, dup_list, top_list, delta_by_kind, delta_with, delta_by, delta}
use Rattle.aut_query_steps.specs.Tables.{live_of}
use Rattle.aut_query_steps.specs.Search.{is_empty}
use Rattle.aut_query_steps.specs.Live.{enqueue, label_to, enlarge, keep_in, explore, pull_back, pull_from, pull_all, settle, live_anew, live_sets, live_packets}
use Rattle.aut_query_steps.specs.Pruned.{viable, prune, delta_pruned}
use Rattle.netkat_paths.specs.Order as Order
use Rattle.netkat_paths.specs.Pick as Pick
use Rattle.aut_why_steps.specs.Why as Why
use Rattle.book_steps.specs.Text as Text
use Rattle.book_steps.specs.Text.{bytes}
use Rattle.book_steps.specs.Reader as Reader
use Rattle.book_steps.specs.Answers as Answers
use Rattle.book_steps.specs.Run.{Lent, Result, run, begin, outcome}

-- lent: so many bytes of output, words of states, of pending entries and of scratch; enough of all else
abbrev lent : ℕ → ℕ → ℕ → ℕ → Lent
lent output states pending scratch = record { sp = 32; spp = 64; states = states; members = 16; transitions = 32; pending = pending; scratch = scratch; output = output }

abbrev enough : Lent
enough = lent 100 96 16 6144

-- a book: the number, the text line and the output that it comes to with what is lent
abbrev pub book : Lent → String → ℕ → ℕ → String → Row
book l text number line output =
    let o : Result = outcome l (bytes text) in
    row {A = ℕ × ℕ × List ℕ} (o.number, o.line, o.output) (number, line, bytes output)

abbrev pub rows : List Row
rows =
    -- 01's book, and with budgets 2, 1, 0
    book enough "fields 1 budget 10\ntest 0 1\ndup\nseq 0 1\nempty 2\nlive 2\npruned 2\n" 0 0 "fields 1\nempty 2 no 2\nlive 2 1 500\npruned 2 1\npair 3 1\n"
    ∷ book enough "fields 1 budget 2\ntest 0 1\ndup\nseq 0 1\nempty 2\n" 0 0 "fields 1\nempty 2 no 2\n"
    ∷ book enough "fields 1 budget 1\ntest 0 1\ndup\nseq 0 1\nempty 2\n" 0 0 "fields 1\nempty 2 spent 1\n"
    ∷ book enough "fields 1 budget 0\ntest 0 1\ndup\nseq 0 1\nempty 2\n" 0 0 "fields 1\nempty 2 spent 0\n"
    -- live before the search, and the search twice: the budget is for each search
    ∷ book enough "fields 1 budget 2\ntest 0 1\ndup\nseq 0 1\nlive 2\nempty 2\nempty 2\n" 0 0 "fields 1\nlive 2 1 500\nempty 2 no 2\nempty 2 no 2\n"
    -- SPP top is not Top
    ∷ book enough "fields 1 budget 9\nall\ndup\nand 0 1\nempty 2\n" 0 0 "fields 1\nempty 2 yes 1\n"
    -- 1, 2
    ∷ book enough "" 1 1 ""
    ∷ book enough "fields 1 budget 10" 1 1 ""
    ∷ book enough "fields 32 budget 0\n" 2 1 ""
    -- 3: not of its form; no byte 10; the answers before stand
    ∷ book enough "fields 0 budget 0\nzero\nlive 0\nnot  0\n" 3 4 "fields 0\nlive 0 0 0\n"
    ∷ book enough "fields 0 budget 0\nzero" 3 2 "fields 0\n"
    -- 4: a later line, a query; 5
    ∷ book enough "fields 0 budget 0\ndup\nnot 1\n" 4 3 "fields 0\n"
    ∷ book enough "fields 0 budget 9\ndup\nempty 0\nnot 1\n" 4 4 "fields 0\nempty 0 no 2\n"
    ∷ book enough "fields 1 budget 0\ntest 1 0\n" 5 2 "fields 1\n"
    -- 22, 24, 26, 27
    ∷ book (lent 100 12 16 6144) "fields 0 budget 0\ndup\ntop\n" 22 3 "fields 0\n"
    ∷ book (lent 100 96 0 6144) "fields 0 budget 0\ndup\nempty 0\n" 24 3 "fields 0\n"
    ∷ book (lent 100 96 16 6143) "fields 0 budget 0\n" 26 0 ""
    ∷ book (lent 8 96 16 6144) "fields 0 budget 0\n" 27 1 ""
    ∷ book (lent 28 96 16 6144) "fields 0 budget 0\ndup\npruned 0\n" 27 3 "fields 0\n"
    ∷ book (lent 29 96 16 6144) "fields 0 budget 0\ndup\npruned 0\n" 0 0 "fields 0\npruned 0 1\npair 1 1\n"
    ∷ []

pub all_come : Hold rows
unfolding outcome run begin Text.cut Text.words Text.same Text.digits Text.reading Text.number Text.decimal_by Text.decimal Reader.header Reader.find Reader.numbers Reader.exact Reader.parse Reader.giving Reader.resolve Answers.say Answers.share Answers.pair_lines Sp.size Spp.size Spp.assign is_empty Handles.search Handles.run Handles.turn Handles.expand Handles.walk flip Sp.kid Sp.child Sp.same Sp.seek Sp.room Sp.put Sp.intern Sp.mk Sp.exit Sp.join Sp.both Sp.apply Sp.union Sp.complement Sp.difference Sp.is_zero Sp.is_universal Images.fwd_node Images.fwd Images.led_exit Images.push_node Images.push Images.has_exit Images.has_image mk_spp mk_dup mk_top mk_union mk_union_n mk_intersect_n mk_intersect mk_intersect_n_base mk_complement mk_sequence sequence_by sequence_with mk_star mk_until unite meet open_union open_all opened extend each count_all count_one product base bases finish add_relation unite_one meet_one meet_finish add_last intern0 intern1 intern2 intern_l put_l put seek same2 same_at same_l storeMembers nest_l room_s room_m put4 kind_of op1 op2 nest words least rise test Spp.field Spp.apply Spp.exit Spp.each Spp.complement Spp.sequence Spp.seq_exit Spp.product Spp.star Spp.star_exit Spp.blocks Spp.mk Spp.seek Spp.same Spp.kids Spp.kid Spp.room Spp.put Spp.zero_at Spp.one_at Spp.top_at ListSteps.unite ListSteps.enter ListSteps.enter_in ListSteps.place ListSteps.st_singleton ListSteps.split ListSteps.insert ListSteps.insert_each ListSteps.insert_pairs ListSteps.st_union ListSteps.st_intersect ListSteps.cover_all ListSteps.st_complement ListSteps.st_postcompose ListSteps.st_precompose ListSteps.st_intersect_expr epsilon_of set_word keep_epsilon each_of unite_all meet_all epsilon_by_kind epsilon_with epsilon_by epsilon start_of count_of edges flat room_t append list_at keep_list union_all intersect_all sequence_list star_list until_list dup_list top_list delta_by_kind delta_with delta_by delta Sp.constants Spp.constants Spp.zeros Spp.ones Spp.tops enqueue label_to enlarge keep_in explore pull_back pull_from pull_all settle live_anew live_sets live_packets live_of viable prune delta_pruned Images.bwd_node Images.bwd Images.ifwd_node Images.ifwd Images.pull_node Images.pull mk_difference mk_xor ListSteps.subtract_row ListSteps.subtract_rows ListSteps.st_difference ListSteps.st_xor
all_come = (refl, (refl, (refl, (refl, (refl, (refl, (refl, (refl, (refl, (refl, (refl, (refl, (refl, (refl, (refl, (refl, (refl, (refl, (refl, (refl, tt))))))))))))))))))))

-- ---- `why`

-- lent: so many words of packet nodes
abbrev narrow : ℕ → Lent
narrow sp = record { sp = sp; spp = 64; states = 120; members = 16; transitions = 32; pending = 16; scratch = 6144; output = 100 }

abbrev pub whys : List Row
whys =
    -- no fields: with a hop, without, and no string
    book enough "fields 0 budget 0\ndup\nwhy 0\n" 0 0 "fields 0\nfrom - by - to -\n"
    ∷ book enough "fields 0 budget 0\none\nwhy 0\n" 0 0 "fields 0\nfrom - to -\n"
    ∷ book enough "fields 0 budget 0\nzero\nwhy 0\n" 0 0 "fields 0\nnone\n"
    -- the fewest hops
    ∷ book enough "fields 0 budget 0\ndup\nseq 0 0\nor 0 1\nwhy 2\n" 0 0 "fields 0\nfrom - by - to -\n"
    -- one field: 01's rule; a start, a hop and an end that differ; the smallest start, though its hop is not the smallest
    ∷ book enough "fields 1 budget 0\ntest 0 1\ndup\nseq 0 1\nwhy 2\n" 0 0 "fields 1\nfrom 1 by 1 to 1\n"
    ∷ book enough "fields 1 budget 0\nset 0 1\ndup\nseq 0 1\nset 0 0\nseq 2 3\nwhy 4\n" 0 0 "fields 1\nfrom 0 by 1 to 0\n"
    ∷ book (lent 100 144 16 6144) "fields 1 budget 0\ndup\ntest 0 0\nset 0 1\nseq 1 2\nseq 3 0\ntest 0 1\nset 0 0\nseq 5 6\nseq 7 0\nor 4 8\nwhy 9\n" 0 0 "fields 1\nfrom 0 by 1 to 1\n"
    -- what `live 0` has stored does not save the walk
    ∷ book (lent 100 96 4 6144) "fields 0 budget 0\ndup\nseq 0 0\nlive 0\nwhy 1\n" 24 5 "fields 0\nlive 0 1 1000\n"
    -- 20: the rounds go on until none changes, and take a packet node more than `live`
    ∷ book (narrow 14) "fields 3 budget 0\ndup\ntest 0 0\nseq 0 0\nseq 0 1\nunion 2 3\ntest 2 0\nunion 4 5\nlive 6\n" 0 0 "fields 3\nlive 6 8 1000\n"
    ∷ book (narrow 14) "fields 3 budget 0\ndup\ntest 0 0\nseq 0 0\nseq 0 1\nunion 2 3\ntest 2 0\nunion 4 5\nwhy 6\n" 20 9 "fields 3\n"
    ∷ book (narrow 16) "fields 3 budget 0\ndup\ntest 0 0\nseq 0 0\nseq 0 1\nunion 2 3\ntest 2 0\nunion 4 5\nwhy 6\n" 0 0 "fields 3\nfrom 000 to 000\n"
    -- 27, and one byte more
    ∷ book (lent 25 96 16 6144) "fields 0 budget 0\ndup\nwhy 0\n" 27 3 "fields 0\n"
    ∷ book (lent 26 96 16 6144) "fields 0 budget 0\ndup\nwhy 0\n" 0 0 "fields 0\nfrom - by - to -\n"
    ∷ []

pub all_explained : Hold whys
unfolding outcome run begin Text.cut Text.words Text.same Text.digits Text.reading Text.number Text.decimal_by Text.decimal Reader.header Reader.find Reader.numbers Reader.exact Reader.parse Reader.giving Reader.resolve Answers.say Answers.share Answers.pair_lines Sp.size Spp.size Spp.assign is_empty Handles.search Handles.run Handles.turn Handles.expand Handles.walk flip Sp.kid Sp.child Sp.same Sp.seek Sp.room Sp.put Sp.intern Sp.mk Sp.exit Sp.join Sp.both Sp.apply Sp.union Sp.complement Sp.difference Sp.is_zero Sp.is_universal Images.fwd_node Images.fwd Images.led_exit Images.push_node Images.push Images.has_exit Images.has_image mk_spp mk_dup mk_top mk_union mk_union_n mk_intersect_n mk_intersect mk_intersect_n_base mk_complement mk_sequence sequence_by sequence_with mk_star mk_until unite meet open_union open_all opened extend each count_all count_one product base bases finish add_relation unite_one meet_one meet_finish add_last intern0 intern1 intern2 intern_l put_l put seek same2 same_at same_l storeMembers nest_l room_s room_m put4 kind_of op1 op2 nest words least rise test Spp.field Spp.apply Spp.exit Spp.each Spp.complement Spp.sequence Spp.seq_exit Spp.product Spp.star Spp.star_exit Spp.blocks Spp.mk Spp.seek Spp.same Spp.kids Spp.kid Spp.room Spp.put Spp.zero_at Spp.one_at Spp.top_at ListSteps.unite ListSteps.enter ListSteps.enter_in ListSteps.place ListSteps.st_singleton ListSteps.split ListSteps.insert ListSteps.insert_each ListSteps.insert_pairs ListSteps.st_union ListSteps.st_intersect ListSteps.cover_all ListSteps.st_complement ListSteps.st_postcompose ListSteps.st_precompose ListSteps.st_intersect_expr epsilon_of set_word keep_epsilon each_of unite_all meet_all epsilon_by_kind epsilon_with epsilon_by epsilon start_of count_of edges flat room_t append list_at keep_list union_all intersect_all sequence_list star_list until_list dup_list top_list delta_by_kind delta_with delta_by delta Sp.constants Spp.constants Spp.zeros Spp.ones Spp.tops enqueue label_to enlarge keep_in explore pull_back pull_from pull_all settle live_anew live_sets live_packets live_of viable prune delta_pruned Images.bwd_node Images.bwd Images.ifwd_node Images.ifwd Images.pull_node Images.pull mk_difference mk_xor ListSteps.subtract_row ListSteps.subtract_rows ListSteps.st_difference ListSteps.st_xor value_of Sp.mem Spp.mem Why.each Why.same_on Why.ends Why.joins Why.turn Why.rounds Why.fewest Why.rounds_of Why.why_sets Why.why Pick.hop Pick.way Pick.pick Order.value Order.least Answers.bits_of Answers.sentence
all_explained = (refl, (refl, (refl, (refl, (refl, (refl, (refl, (refl, (refl, (refl, (refl, (refl, (refl, tt)))))))))))))
