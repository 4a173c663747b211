-- Books with `why` (02 (i)), their whole outcomes worked out beforehand as those of Vectors are, and with `next` (02 (iv)), by the ordered copy of the Rust; each a reading that is easily done otherwise. Computed.
use mathlib.Core.Path.{refl}
use mathlib.Core.List.{List, [], ◌∷◌}
use Rattle.common.specs.Rows.{Row, Hold}
use Rattle.netkat_steps.specs.Handles as Handles
use Rattle.netkat_steps.specs.ListSteps as ListSteps
use Rattle.sp_steps.specs.Model as Sp
use Rattle.spp_steps.specs.Model as Spp
use Rattle.spp_steps.specs.ImageModel as Images
use Rattle.sp_steps.specs.Word.{flip}
use Rattle.spp_steps.specs.Model.{test}
use Rattle.aut_steps.specs.Tables.{kind_of, op1, op2, nest, words, room_s, room_m, put4}
use Rattle.aut_steps.specs.Intern.{intern0, intern1, intern2, intern_l, put_l, put, seek, same2, same_at, same_l, store as storeMembers, nest_l}
use Rattle.aut_steps.specs.Lists.{least, rise}
use Rattle.aut_steps.specs.Constructors.{mk_spp, mk_dup, mk_top, mk_union, mk_union_n, mk_intersect_n, mk_intersect, mk_intersect_n_base, mk_complement, mk_sequence, sequence_by, sequence_with, mk_star, mk_next, mk_until, unite, meet, open_union, open_all, opened, extend, each, count_all, count_one, product, base, bases, finish, add_relation, unite_one, meet_one, meet_finish, add_last, mk_difference, mk_xor}
use Rattle.aut_delta_steps.specs.Epsilon.{epsilon_of, value_of, set_word, keep_epsilon, each_of, unite_all, meet_all, epsilon_by_kind, epsilon_with, epsilon_by, epsilon}
use Rattle.aut_st_steps.specs.Edges.{edges, flat}
use Rattle.aut_delta_steps.specs.Delta.{start_of, count_of, room_t, append, list_at, keep_list, union_all, intersect_all, sequence_list, star_list, until_list, dup_list, top_list, delta_by_kind, delta_with, delta_by, delta}
use Rattle.aut_query_steps.specs.Tables.{live_of}
use Rattle.aut_query_steps.specs.Search.{is_empty}
use Rattle.aut_query_steps.specs.Live.{enqueue, label_to, enlarge, keep_in, explore, pull_back, pull_from, pull_all, settle, live_anew, live_sets, live_packets}
use Rattle.aut_query_steps.specs.Pruned.{viable, prune, delta_pruned}
use Rattle.netkat_paths.specs.Order as Order
use Rattle.netkat_paths.specs.Pick as Pick
use Rattle.aut_why_steps.specs.Why as Why
use Rattle.book_steps.specs.Text as Text
use Rattle.book_steps.specs.Reader as Reader
use Rattle.book_steps.specs.Answers as Answers
use Rattle.book_steps.specs.Run.{run, begin, outcome}
use Rattle.book_vectors.proofs.Vectors.{book}

abbrev pub rows : List Row
rows =
    -- a live set that is stored does not save the walk
    book
    (record { sp = 64; spp = 256; states = 360; members = 32; transitions = 64; pending = 64; scratch = 6144; output = 100 })
    "fields 3 budget 0\ndup\ntest 2 0\nseq 1 0\ntest 1 0\nseq 3 0\nset 0 0\nseq 4 5\nor 2 6\nstar 7\nand 5 3\nseq 8 9\nseq 1 10\nlive 11\nwhy 10\n"
    0 0 "fields 3\nlive 11 2 250\nfrom 000 to 000\n"
    (0 ∷ 0 ∷ 2 ∷ 2 ∷ 4 ∷ 4 ∷ 0 ∷ 1 ∷ 8 ∷ 3 ∷ 10 ∷ 5 ∷ 2 ∷ 3 ∷ 14 ∷ 5 ∷ 14 ∷ 14 ∷ 8 ∷ 2 ∷ 20 ∷ 20 ∷ 14 ∷ 21 ∷ 10 ∷ 10 ∷ 14 ∷ 10 ∷ [])
    (0 ∷ 0 ∷ 0 ∷ 0 ∷ 2 ∷ 2 ∷ 2 ∷ 2 ∷ 3 ∷ 3 ∷ 3 ∷ 3 ∷ 1 ∷ 0 ∷ 0 ∷ 1 ∷ 5 ∷ 2 ∷ 2 ∷ 5 ∷ 6 ∷ 3 ∷ 3 ∷ 6 ∷ 1 ∷ 1 ∷ 1 ∷ 1 ∷ 8 ∷ 8 ∷ 8 ∷ 8 ∷ 9 ∷ 9 ∷ 9 ∷ 9 ∷ 1 ∷ 0 ∷ 0 ∷ 0 ∷ 11 ∷ 2 ∷ 2 ∷ 11 ∷ 12 ∷ 3 ∷ 3 ∷ 12 ∷ 5 ∷ 2 ∷ 2 ∷ 2 ∷ 14 ∷ 3 ∷ 3 ∷ 14 ∷ 6 ∷ 3 ∷ 6 ∷ 3 ∷ 14 ∷ 3 ∷ 3 ∷ 3 ∷ 11 ∷ 2 ∷ 2 ∷ 2 ∷ 18 ∷ 3 ∷ 3 ∷ 3 ∷ 18 ∷ 3 ∷ 3 ∷ 18 ∷ 6 ∷ 3 ∷ 6 ∷ 6 ∷ 2 ∷ 2 ∷ 2 ∷ 11 ∷ 22 ∷ 3 ∷ 3 ∷ 22 ∷ 0 ∷ 0 ∷ 0 ∷ 1 ∷ 24 ∷ 2 ∷ 2 ∷ 2 ∷ 25 ∷ 3 ∷ 3 ∷ 25 ∷ 14 ∷ 3 ∷ 14 ∷ 3 ∷ 22 ∷ 3 ∷ 22 ∷ 22 ∷ 25 ∷ 3 ∷ 25 ∷ 25 ∷ 18 ∷ 3 ∷ 18 ∷ 18 ∷ 22 ∷ 3 ∷ 22 ∷ 3 ∷ 25 ∷ 3 ∷ 25 ∷ 3 ∷ 18 ∷ 3 ∷ 18 ∷ 3 ∷ [])
    (9 ∷ 0 ∷ 0 ∷ 0 ∷ 5 ∷ 0 ∷ 2 ∷ 0 ∷ 0 ∷ 0 ∷ 0 ∷ 0 ∷ 1 ∷ 13 ∷ 0 ∷ 0 ∷ 0 ∷ 0 ∷ 1 ∷ 0 ∷ 0 ∷ 0 ∷ 0 ∷ 0 ∷ 7 ∷ 1 ∷ 0 ∷ 1 ∷ 5 ∷ 1 ∷ 2 ∷ 0 ∷ 0 ∷ 0 ∷ 0 ∷ 0 ∷ 1 ∷ 15 ∷ 0 ∷ 0 ∷ 0 ∷ 2 ∷ 1 ∷ 0 ∷ 0 ∷ 0 ∷ 0 ∷ 0 ∷ 7 ∷ 3 ∷ 0 ∷ 1 ∷ 0 ∷ 0 ∷ 0 ∷ 0 ∷ 0 ∷ 0 ∷ 0 ∷ 0 ∷ 1 ∷ 16 ∷ 0 ∷ 0 ∷ 0 ∷ 2 ∷ 1 ∷ 0 ∷ 0 ∷ 0 ∷ 0 ∷ 0 ∷ 7 ∷ 0 ∷ 5 ∷ 1 ∷ 5 ∷ 2 ∷ 2 ∷ 0 ∷ 0 ∷ 0 ∷ 0 ∷ 0 ∷ 7 ∷ 3 ∷ 6 ∷ 2 ∷ 5 ∷ 3 ∷ 2 ∷ 0 ∷ 0 ∷ 0 ∷ 0 ∷ 0 ∷ 2 ∷ 0 ∷ 2 ∷ 3 ∷ 5 ∷ 4 ∷ 4 ∷ 0 ∷ 0 ∷ 0 ∷ 0 ∷ 0 ∷ 8 ∷ 8 ∷ 0 ∷ 4 ∷ 8 ∷ 7 ∷ 4 ∷ 0 ∷ 0 ∷ 0 ∷ 0 ∷ 0 ∷ 1 ∷ 17 ∷ 0 ∷ 0 ∷ 0 ∷ 10 ∷ 1 ∷ 0 ∷ 0 ∷ 0 ∷ 0 ∷ 0 ∷ 7 ∷ 9 ∷ 10 ∷ 5 ∷ 18 ∷ 10 ∷ 4 ∷ 20 ∷ 0 ∷ 0 ∷ 0 ∷ 0 ∷ 7 ∷ 1 ∷ 11 ∷ 6 ∷ 20 ∷ 13 ∷ 3 ∷ 28 ∷ 0 ∷ 0 ∷ 0 ∷ 0 ∷ 1 ∷ 7 ∷ 0 ∷ 0 ∷ 0 ∷ 0 ∷ 0 ∷ 0 ∷ 0 ∷ 0 ∷ 0 ∷ 0 ∷ 1 ∷ 4 ∷ 0 ∷ 0 ∷ 0 ∷ 0 ∷ 0 ∷ 0 ∷ 0 ∷ 0 ∷ 0 ∷ 0 ∷ 1 ∷ 21 ∷ 0 ∷ 0 ∷ 0 ∷ 15 ∷ 1 ∷ 0 ∷ 0 ∷ 0 ∷ 0 ∷ 0 ∷ 7 ∷ 5 ∷ 9 ∷ 5 ∷ 0 ∷ 0 ∷ 0 ∷ 0 ∷ 0 ∷ 0 ∷ 0 ∷ 0 ∷ 2 ∷ 2 ∷ 2 ∷ 6 ∷ 0 ∷ 0 ∷ 0 ∷ 0 ∷ 0 ∷ 0 ∷ 0 ∷ 0 ∷ 7 ∷ 15 ∷ 9 ∷ 5 ∷ 0 ∷ 0 ∷ 0 ∷ 0 ∷ 0 ∷ 0 ∷ 0 ∷ 0 ∷ 2 ∷ 4 ∷ 2 ∷ 6 ∷ 0 ∷ 0 ∷ 0 ∷ 0 ∷ 0 ∷ 0 ∷ 0 ∷ 0 ∷ 2 ∷ 6 ∷ 2 ∷ 6 ∷ 0 ∷ 0 ∷ 0 ∷ 0 ∷ 0 ∷ 0 ∷ 0 ∷ 0 ∷ 7 ∷ 5 ∷ 11 ∷ 6 ∷ 28 ∷ 18 ∷ 4 ∷ 20 ∷ 0 ∷ 0 ∷ 0 ∷ 0 ∷ 2 ∷ 8 ∷ 2 ∷ 7 ∷ 0 ∷ 0 ∷ 0 ∷ 0 ∷ 0 ∷ 0 ∷ 0 ∷ 0 ∷ 7 ∷ 15 ∷ 11 ∷ 6 ∷ 28 ∷ 15 ∷ 4 ∷ 20 ∷ 0 ∷ 0 ∷ 0 ∷ 0 ∷ 2 ∷ 10 ∷ 2 ∷ 7 ∷ 0 ∷ 0 ∷ 0 ∷ 0 ∷ 0 ∷ 0 ∷ 0 ∷ 0 ∷ 2 ∷ 12 ∷ 2 ∷ 7 ∷ [])
    (2 ∷ 7 ∷ 9 ∷ 16 ∷ 9 ∷ 18 ∷ 16 ∷ 18 ∷ 11 ∷ 21 ∷ 11 ∷ 23 ∷ 21 ∷ 23 ∷ [])
    (13 ∷ 7 ∷ 13 ∷ 13 ∷ 5 ∷ 7 ∷ 5 ∷ 15 ∷ 5 ∷ 26 ∷ 13 ∷ 23 ∷ 15 ∷ 20 ∷ 9 ∷ 23 ∷ 16 ∷ 26 ∷ 18 ∷ 20 ∷ 11 ∷ 23 ∷ 21 ∷ 26 ∷ 23 ∷ 20 ∷ 11 ∷ 23 ∷ 23 ∷ 20 ∷ 11 ∷ 28 ∷ 21 ∷ 29 ∷ 23 ∷ 30 ∷ 11 ∷ 31 ∷ 21 ∷ 32 ∷ 23 ∷ 33 ∷ [])
    -- word 7 is written as by `live`
    ∷ book
    (record { sp = 64; spp = 256; states = 360; members = 32; transitions = 64; pending = 64; scratch = 6144; output = 100 })
    "fields 0 budget 0\ndup\nwhy 0\n"
    0 0 "fields 0\nfrom - by - to -\n"
    ([])
    ([])
    (9 ∷ 0 ∷ 0 ∷ 0 ∷ 1 ∷ 0 ∷ 2 ∷ 2 ∷ 0 ∷ 0 ∷ 0 ∷ 0 ∷ 1 ∷ 1 ∷ 0 ∷ 0 ∷ 0 ∷ 1 ∷ 1 ∷ 2 ∷ 0 ∷ 0 ∷ 0 ∷ 0 ∷ 1 ∷ [])
    ([])
    (1 ∷ 1 ∷ [])
    -- the round that changes nothing is run
    ∷ book
    (record { sp = 64; spp = 256; states = 360; members = 32; transitions = 64; pending = 64; scratch = 6144; output = 100 })
    "fields 2 budget 0\ndup\nset 0 0\nseq 1 0\ntop\nseq 0 3\nor 2 4\nstar 5\ntest 1 0\nseq 6 7\nwhy 8\n"
    0 0 "fields 2\nfrom 00 to 00\n"
    (0 ∷ 0 ∷ 2 ∷ 2 ∷ 0 ∷ 1 ∷ 6 ∷ 6 ∷ 2 ∷ 3 ∷ 2 ∷ 7 ∷ 6 ∷ 2 ∷ [])
    (0 ∷ 0 ∷ 0 ∷ 0 ∷ 2 ∷ 2 ∷ 2 ∷ 2 ∷ 1 ∷ 0 ∷ 0 ∷ 1 ∷ 4 ∷ 2 ∷ 2 ∷ 4 ∷ 1 ∷ 1 ∷ 1 ∷ 1 ∷ 6 ∷ 6 ∷ 6 ∷ 6 ∷ 4 ∷ 2 ∷ 4 ∷ 2 ∷ 1 ∷ 0 ∷ 0 ∷ 0 ∷ 9 ∷ 2 ∷ 2 ∷ 9 ∷ 4 ∷ 2 ∷ 2 ∷ 2 ∷ 2 ∷ 2 ∷ 4 ∷ 2 ∷ 2 ∷ 2 ∷ 2 ∷ 4 ∷ 1 ∷ 0 ∷ 1 ∷ 0 ∷ 14 ∷ 14 ∷ 14 ∷ 14 ∷ 6 ∷ 2 ∷ 6 ∷ 2 ∷ 2 ∷ 6 ∷ 2 ∷ 6 ∷ 0 ∷ 1 ∷ 1 ∷ 0 ∷ 2 ∷ 6 ∷ 2 ∷ 18 ∷ 4 ∷ 6 ∷ 2 ∷ 6 ∷ 18 ∷ 2 ∷ 18 ∷ 2 ∷ [])
    (9 ∷ 0 ∷ 0 ∷ 0 ∷ 4 ∷ 0 ∷ 2 ∷ 0 ∷ 0 ∷ 0 ∷ 0 ∷ 0 ∷ 1 ∷ 8 ∷ 0 ∷ 0 ∷ 0 ∷ 0 ∷ 1 ∷ 0 ∷ 0 ∷ 0 ∷ 0 ∷ 0 ∷ 7 ∷ 1 ∷ 0 ∷ 1 ∷ 4 ∷ 1 ∷ 2 ∷ 0 ∷ 0 ∷ 0 ∷ 0 ∷ 0 ∷ 12 ∷ 0 ∷ 0 ∷ 0 ∷ 8 ∷ 2 ∷ 2 ∷ 0 ∷ 0 ∷ 0 ∷ 0 ∷ 0 ∷ 7 ∷ 0 ∷ 3 ∷ 1 ∷ 4 ∷ 3 ∷ 2 ∷ 0 ∷ 0 ∷ 0 ∷ 0 ∷ 0 ∷ 2 ∷ 0 ∷ 2 ∷ 2 ∷ 4 ∷ 4 ∷ 3 ∷ 0 ∷ 0 ∷ 0 ∷ 0 ∷ 0 ∷ 8 ∷ 5 ∷ 0 ∷ 3 ∷ 6 ∷ 6 ∷ 3 ∷ 0 ∷ 0 ∷ 0 ∷ 0 ∷ 0 ∷ 1 ∷ 10 ∷ 0 ∷ 0 ∷ 0 ∷ 8 ∷ 1 ∷ 0 ∷ 0 ∷ 0 ∷ 0 ∷ 0 ∷ 7 ∷ 6 ∷ 7 ∷ 4 ∷ 11 ∷ 8 ∷ 3 ∷ 6 ∷ 0 ∷ 0 ∷ 0 ∷ 0 ∷ 1 ∷ 5 ∷ 0 ∷ 0 ∷ 0 ∷ 0 ∷ 0 ∷ 0 ∷ 0 ∷ 0 ∷ 0 ∷ 0 ∷ 1 ∷ 3 ∷ 0 ∷ 0 ∷ 0 ∷ 0 ∷ 0 ∷ 0 ∷ 0 ∷ 0 ∷ 0 ∷ 0 ∷ 7 ∷ 3 ∷ 6 ∷ 4 ∷ 0 ∷ 0 ∷ 0 ∷ 0 ∷ 0 ∷ 0 ∷ 0 ∷ 0 ∷ 2 ∷ 2 ∷ 2 ∷ 5 ∷ 0 ∷ 0 ∷ 0 ∷ 0 ∷ 0 ∷ 0 ∷ 0 ∷ 0 ∷ 7 ∷ 3 ∷ 8 ∷ 5 ∷ 16 ∷ 10 ∷ 3 ∷ 6 ∷ 0 ∷ 0 ∷ 0 ∷ 0 ∷ 2 ∷ 4 ∷ 2 ∷ 6 ∷ 16 ∷ 12 ∷ 3 ∷ 6 ∷ [])
    (2 ∷ 4 ∷ 6 ∷ 11 ∷ 8 ∷ 13 ∷ [])
    (9 ∷ 5 ∷ 9 ∷ 8 ∷ 3 ∷ 7 ∷ 3 ∷ 5 ∷ 3 ∷ 5 ∷ 9 ∷ 12 ∷ 6 ∷ 12 ∷ 11 ∷ 5 ∷ 8 ∷ 12 ∷ 13 ∷ 5 ∷ 13 ∷ 17 ∷ 14 ∷ 16 ∷ 13 ∷ 17 ∷ 14 ∷ 16 ∷ [])
    -- the rounds do not end with the first string
    ∷ book
    (record { sp = 64; spp = 256; states = 360; members = 32; transitions = 64; pending = 64; scratch = 6144; output = 100 })
    "fields 3 budget 0\ndup\ntest 0 0\nseq 0 0\nseq 0 1\nunion 2 3\ntest 2 0\nunion 4 5\nwhy 6\n"
    0 0 "fields 3\nfrom 000 to 000\n"
    (0 ∷ 0 ∷ 2 ∷ 2 ∷ 4 ∷ 4 ∷ 0 ∷ 1 ∷ 8 ∷ 8 ∷ 10 ∷ 10 ∷ 4 ∷ 5 ∷ 4 ∷ 10 ∷ [])
    (0 ∷ 0 ∷ 0 ∷ 0 ∷ 2 ∷ 2 ∷ 2 ∷ 2 ∷ 3 ∷ 3 ∷ 3 ∷ 3 ∷ 1 ∷ 0 ∷ 0 ∷ 1 ∷ 5 ∷ 2 ∷ 2 ∷ 5 ∷ 6 ∷ 3 ∷ 3 ∷ 6 ∷ 1 ∷ 1 ∷ 1 ∷ 1 ∷ 8 ∷ 8 ∷ 8 ∷ 8 ∷ 9 ∷ 9 ∷ 9 ∷ 9 ∷ 6 ∷ 3 ∷ 3 ∷ 3 ∷ 1 ∷ 0 ∷ 0 ∷ 0 ∷ 12 ∷ 2 ∷ 2 ∷ 12 ∷ 13 ∷ 3 ∷ 3 ∷ 13 ∷ [])
    (9 ∷ 0 ∷ 0 ∷ 0 ∷ 5 ∷ 0 ∷ 2 ∷ 0 ∷ 0 ∷ 0 ∷ 0 ∷ 0 ∷ 1 ∷ 11 ∷ 0 ∷ 0 ∷ 0 ∷ 2 ∷ 1 ∷ 0 ∷ 0 ∷ 0 ∷ 0 ∷ 0 ∷ 7 ∷ 0 ∷ 0 ∷ 1 ∷ 5 ∷ 1 ∷ 2 ∷ 0 ∷ 0 ∷ 0 ∷ 0 ∷ 0 ∷ 7 ∷ 0 ∷ 1 ∷ 1 ∷ 5 ∷ 2 ∷ 2 ∷ 0 ∷ 0 ∷ 0 ∷ 0 ∷ 0 ∷ 2 ∷ 0 ∷ 2 ∷ 2 ∷ 0 ∷ 0 ∷ 0 ∷ 0 ∷ 0 ∷ 0 ∷ 0 ∷ 0 ∷ 1 ∷ 14 ∷ 0 ∷ 0 ∷ 0 ∷ 3 ∷ 1 ∷ 0 ∷ 0 ∷ 0 ∷ 0 ∷ 0 ∷ 2 ∷ 2 ∷ 3 ∷ 2 ∷ 15 ∷ 3 ∷ 2 ∷ 8 ∷ 0 ∷ 0 ∷ 0 ∷ 0 ∷ 1 ∷ 7 ∷ 0 ∷ 0 ∷ 0 ∷ 5 ∷ 1 ∷ 8 ∷ 0 ∷ 0 ∷ 0 ∷ 0 ∷ 1 ∷ 4 ∷ 0 ∷ 0 ∷ 0 ∷ 0 ∷ 0 ∷ 0 ∷ 0 ∷ 0 ∷ 0 ∷ 0 ∷ 2 ∷ 5 ∷ 2 ∷ 1 ∷ 12 ∷ 4 ∷ 2 ∷ 8 ∷ [])
    (2 ∷ 3 ∷ 2 ∷ 3 ∷ 5 ∷ 0 ∷ 1 ∷ [])
    (7 ∷ 7 ∷ 0 ∷ 7 ∷ 1 ∷ 7 ∷ 9 ∷ 7 ∷ 7 ∷ 7 ∷ [])
    -- each pull takes the set of the round before
    ∷ book
    (record { sp = 64; spp = 256; states = 360; members = 32; transitions = 64; pending = 64; scratch = 6144; output = 100 })
    "fields 3 budget 0\ndup\ntest 2 0\nunion 0 1\nset 1 0\nseq 0 2\nseq 3 4\ntest 0 0\nunion 5 6\nseq 0 7\nunion 8 7\nwhy 9\n"
    0 0 "fields 3\nfrom 000 to 000\n"
    (0 ∷ 0 ∷ 2 ∷ 2 ∷ 4 ∷ 4 ∷ 4 ∷ 5 ∷ 0 ∷ 1 ∷ 10 ∷ 10 ∷ 12 ∷ 12 ∷ 4 ∷ 12 ∷ 2 ∷ 3 ∷ 18 ∷ 18 ∷ 2 ∷ 10 ∷ 4 ∷ 22 ∷ 4 ∷ 18 ∷ 2 ∷ 11 ∷ 28 ∷ 28 ∷ 4 ∷ 29 ∷ 18 ∷ 4 ∷ 10 ∷ 3 ∷ 18 ∷ 36 ∷ 10 ∷ 2 ∷ 4 ∷ 40 ∷ 4 ∷ 19 ∷ 18 ∷ 28 ∷ [])
    (0 ∷ 0 ∷ 0 ∷ 0 ∷ 2 ∷ 2 ∷ 2 ∷ 2 ∷ 3 ∷ 3 ∷ 3 ∷ 3 ∷ 1 ∷ 0 ∷ 0 ∷ 1 ∷ 5 ∷ 2 ∷ 2 ∷ 5 ∷ 6 ∷ 3 ∷ 3 ∷ 6 ∷ 1 ∷ 1 ∷ 1 ∷ 1 ∷ 8 ∷ 8 ∷ 8 ∷ 8 ∷ 9 ∷ 9 ∷ 9 ∷ 9 ∷ 1 ∷ 0 ∷ 0 ∷ 0 ∷ 11 ∷ 2 ∷ 2 ∷ 11 ∷ 12 ∷ 3 ∷ 3 ∷ 12 ∷ 5 ∷ 2 ∷ 5 ∷ 2 ∷ 14 ∷ 3 ∷ 3 ∷ 14 ∷ 6 ∷ 3 ∷ 3 ∷ 3 ∷ 5 ∷ 2 ∷ 2 ∷ 2 ∷ 17 ∷ 3 ∷ 3 ∷ 17 ∷ 6 ∷ 3 ∷ 3 ∷ 12 ∷ 2 ∷ 2 ∷ 5 ∷ 2 ∷ 20 ∷ 3 ∷ 3 ∷ 20 ∷ 2 ∷ 2 ∷ 2 ∷ 5 ∷ 22 ∷ 3 ∷ 3 ∷ 22 ∷ [])
    (9 ∷ 0 ∷ 0 ∷ 0 ∷ 5 ∷ 0 ∷ 2 ∷ 0 ∷ 0 ∷ 0 ∷ 0 ∷ 0 ∷ 1 ∷ 13 ∷ 0 ∷ 0 ∷ 0 ∷ 1 ∷ 1 ∷ 0 ∷ 0 ∷ 0 ∷ 0 ∷ 0 ∷ 2 ∷ 0 ∷ 2 ∷ 1 ∷ 14 ∷ 1 ∷ 2 ∷ 8 ∷ 0 ∷ 0 ∷ 0 ∷ 0 ∷ 1 ∷ 15 ∷ 0 ∷ 0 ∷ 0 ∷ 0 ∷ 1 ∷ 0 ∷ 0 ∷ 0 ∷ 0 ∷ 0 ∷ 7 ∷ 0 ∷ 2 ∷ 2 ∷ 5 ∷ 2 ∷ 2 ∷ 0 ∷ 0 ∷ 0 ∷ 0 ∷ 0 ∷ 7 ∷ 3 ∷ 4 ∷ 3 ∷ 5 ∷ 3 ∷ 2 ∷ 0 ∷ 0 ∷ 0 ∷ 0 ∷ 0 ∷ 1 ∷ 16 ∷ 0 ∷ 0 ∷ 0 ∷ 4 ∷ 1 ∷ 0 ∷ 0 ∷ 0 ∷ 0 ∷ 0 ∷ 2 ∷ 2 ∷ 2 ∷ 4 ∷ 17 ∷ 4 ∷ 2 ∷ 8 ∷ 0 ∷ 0 ∷ 0 ∷ 0 ∷ 7 ∷ 0 ∷ 7 ∷ 5 ∷ 5 ∷ 5 ∷ 2 ∷ 0 ∷ 0 ∷ 0 ∷ 0 ∷ 0 ∷ 2 ∷ 4 ∷ 3 ∷ 6 ∷ 17 ∷ 6 ∷ 4 ∷ 8 ∷ 0 ∷ 0 ∷ 0 ∷ 0 ∷ 1 ∷ 7 ∷ 0 ∷ 0 ∷ 0 ∷ 12 ∷ 1 ∷ 8 ∷ 0 ∷ 0 ∷ 0 ∷ 0 ∷ 1 ∷ 4 ∷ 0 ∷ 0 ∷ 0 ∷ 0 ∷ 0 ∷ 0 ∷ 0 ∷ 0 ∷ 0 ∷ 0 ∷ 1 ∷ 19 ∷ 0 ∷ 0 ∷ 0 ∷ 9 ∷ 1 ∷ 0 ∷ 0 ∷ 0 ∷ 0 ∷ 0 ∷ 2 ∷ 7 ∷ 3 ∷ 4 ∷ 20 ∷ 9 ∷ 4 ∷ 8 ∷ 0 ∷ 0 ∷ 0 ∷ 0 ∷ 2 ∷ 10 ∷ 2 ∷ 1 ∷ 8 ∷ 12 ∷ 2 ∷ 8 ∷ [])
    (0 ∷ 1 ∷ 5 ∷ 6 ∷ 5 ∷ 6 ∷ 8 ∷ 0 ∷ 5 ∷ 12 ∷ 0 ∷ 10 ∷ [])
    (10 ∷ 7 ∷ 10 ∷ 7 ∷ 2 ∷ 7 ∷ 2 ∷ 15 ∷ 2 ∷ 15 ∷ 7 ∷ 7 ∷ 2 ∷ 21 ∷ 7 ∷ 23 ∷ 13 ∷ 18 ∷ 2 ∷ 21 ∷ 10 ∷ 23 ∷ 14 ∷ 18 ∷ 10 ∷ 7 ∷ [])
    -- pull and union alternate
    ∷ book
    (record { sp = 64; spp = 256; states = 360; members = 32; transitions = 64; pending = 64; scratch = 6144; output = 100 })
    "fields 3 budget 0\ndup\nset 1 1\nseq 1 0\ntest 2 0\nset 0 0\nseq 4 1\nseq 0 5\nseq 3 6\nor 2 0\nor 8 7\nstar 9\ntest 1 1\nseq 0 11\nseq 10 12\nwhy 13\n"
    0 0 "fields 3\nfrom 010 by 010 to 010\n"
    (0 ∷ 0 ∷ 2 ∷ 2 ∷ 4 ∷ 4 ∷ 2 ∷ 3 ∷ 8 ∷ 8 ∷ 0 ∷ 1 ∷ 12 ∷ 3 ∷ 14 ∷ 5 ∷ 12 ∷ 2 ∷ 18 ∷ 9 ∷ 12 ∷ 12 ∷ 2 ∷ 13 ∷ 22 ∷ 25 ∷ 22 ∷ 22 ∷ 18 ∷ 18 ∷ 2 ∷ 12 ∷ 32 ∷ 32 ∷ 4 ∷ 9 ∷ 24 ∷ 24 ∷ 14 ∷ 14 ∷ 24 ∷ 23 ∷ 8 ∷ 5 ∷ [])
    (0 ∷ 0 ∷ 0 ∷ 0 ∷ 2 ∷ 2 ∷ 2 ∷ 2 ∷ 3 ∷ 3 ∷ 3 ∷ 3 ∷ 1 ∷ 0 ∷ 0 ∷ 1 ∷ 5 ∷ 2 ∷ 2 ∷ 5 ∷ 6 ∷ 3 ∷ 3 ∷ 6 ∷ 1 ∷ 1 ∷ 1 ∷ 1 ∷ 8 ∷ 8 ∷ 8 ∷ 8 ∷ 9 ∷ 9 ∷ 9 ∷ 9 ∷ 2 ∷ 5 ∷ 2 ∷ 5 ∷ 11 ∷ 3 ∷ 3 ∷ 11 ∷ 1 ∷ 0 ∷ 0 ∷ 0 ∷ 13 ∷ 2 ∷ 2 ∷ 13 ∷ 14 ∷ 3 ∷ 3 ∷ 14 ∷ 6 ∷ 3 ∷ 6 ∷ 3 ∷ 11 ∷ 3 ∷ 11 ∷ 3 ∷ 2 ∷ 2 ∷ 2 ∷ 5 ∷ 18 ∷ 3 ∷ 3 ∷ 18 ∷ 5 ∷ 2 ∷ 2 ∷ 2 ∷ 20 ∷ 3 ∷ 3 ∷ 20 ∷ 2 ∷ 5 ∷ 2 ∷ 2 ∷ 22 ∷ 3 ∷ 3 ∷ 22 ∷ 5 ∷ 5 ∷ 2 ∷ 5 ∷ 24 ∷ 3 ∷ 3 ∷ 24 ∷ 24 ∷ 3 ∷ 11 ∷ 6 ∷ 0 ∷ 0 ∷ 0 ∷ 1 ∷ 27 ∷ 5 ∷ 2 ∷ 27 ∷ 28 ∷ 3 ∷ 3 ∷ 28 ∷ 27 ∷ 2 ∷ 2 ∷ 27 ∷ 30 ∷ 3 ∷ 3 ∷ 30 ∷ 27 ∷ 27 ∷ 2 ∷ 27 ∷ 2 ∷ 27 ∷ 2 ∷ 27 ∷ 32 ∷ 3 ∷ 33 ∷ 30 ∷ 2 ∷ 27 ∷ 2 ∷ 2 ∷ 35 ∷ 3 ∷ 3 ∷ 3 ∷ 2 ∷ 13 ∷ 2 ∷ 2 ∷ 37 ∷ 3 ∷ 3 ∷ 22 ∷ 30 ∷ 3 ∷ 33 ∷ 30 ∷ 13 ∷ 13 ∷ 2 ∷ 13 ∷ 2 ∷ 13 ∷ 2 ∷ 13 ∷ 40 ∷ 3 ∷ 41 ∷ 14 ∷ 37 ∷ 3 ∷ 3 ∷ 3 ∷ 3 ∷ 3 ∷ 3 ∷ 22 ∷ 14 ∷ 3 ∷ 41 ∷ 14 ∷ 22 ∷ 3 ∷ 3 ∷ 3 ∷ 32 ∷ 3 ∷ 3 ∷ 30 ∷ 3 ∷ 3 ∷ 33 ∷ 3 ∷ 3 ∷ 3 ∷ 41 ∷ 3 ∷ [])
    (9 ∷ 0 ∷ 0 ∷ 0 ∷ 5 ∷ 0 ∷ 2 ∷ 0 ∷ 0 ∷ 0 ∷ 0 ∷ 0 ∷ 1 ∷ 12 ∷ 0 ∷ 0 ∷ 0 ∷ 1 ∷ 1 ∷ 0 ∷ 0 ∷ 0 ∷ 0 ∷ 0 ∷ 7 ∷ 1 ∷ 0 ∷ 1 ∷ 5 ∷ 1 ∷ 2 ∷ 0 ∷ 0 ∷ 0 ∷ 0 ∷ 0 ∷ 1 ∷ 15 ∷ 0 ∷ 0 ∷ 0 ∷ 2 ∷ 1 ∷ 0 ∷ 0 ∷ 0 ∷ 0 ∷ 0 ∷ 1 ∷ 16 ∷ 0 ∷ 0 ∷ 0 ∷ 0 ∷ 0 ∷ 0 ∷ 0 ∷ 0 ∷ 0 ∷ 0 ∷ 1 ∷ 17 ∷ 0 ∷ 0 ∷ 0 ∷ 2 ∷ 1 ∷ 0 ∷ 0 ∷ 0 ∷ 0 ∷ 0 ∷ 7 ∷ 0 ∷ 5 ∷ 1 ∷ 5 ∷ 2 ∷ 2 ∷ 0 ∷ 0 ∷ 0 ∷ 0 ∷ 0 ∷ 7 ∷ 3 ∷ 6 ∷ 2 ∷ 5 ∷ 3 ∷ 2 ∷ 0 ∷ 0 ∷ 0 ∷ 0 ∷ 0 ∷ 2 ∷ 0 ∷ 2 ∷ 2 ∷ 0 ∷ 0 ∷ 0 ∷ 0 ∷ 0 ∷ 0 ∷ 0 ∷ 0 ∷ 2 ∷ 2 ∷ 3 ∷ 3 ∷ 5 ∷ 4 ∷ 3 ∷ 0 ∷ 0 ∷ 0 ∷ 0 ∷ 0 ∷ 8 ∷ 9 ∷ 0 ∷ 4 ∷ 8 ∷ 6 ∷ 3 ∷ 0 ∷ 0 ∷ 0 ∷ 0 ∷ 0 ∷ 1 ∷ 19 ∷ 0 ∷ 0 ∷ 0 ∷ 8 ∷ 1 ∷ 0 ∷ 0 ∷ 0 ∷ 0 ∷ 0 ∷ 7 ∷ 0 ∷ 11 ∷ 1 ∷ 5 ∷ 8 ∷ 2 ∷ 0 ∷ 0 ∷ 0 ∷ 0 ∷ 0 ∷ 7 ∷ 10 ∷ 12 ∷ 5 ∷ 5 ∷ 9 ∷ 4 ∷ 8 ∷ 0 ∷ 0 ∷ 0 ∷ 0 ∷ 1 ∷ 7 ∷ 0 ∷ 0 ∷ 0 ∷ 0 ∷ 0 ∷ 0 ∷ 0 ∷ 0 ∷ 0 ∷ 0 ∷ 1 ∷ 4 ∷ 0 ∷ 0 ∷ 0 ∷ 0 ∷ 0 ∷ 0 ∷ 0 ∷ 0 ∷ 0 ∷ 0 ∷ 1 ∷ 26 ∷ 0 ∷ 0 ∷ 0 ∷ 15 ∷ 1 ∷ 0 ∷ 0 ∷ 0 ∷ 0 ∷ 0 ∷ 7 ∷ 16 ∷ 10 ∷ 5 ∷ 0 ∷ 0 ∷ 0 ∷ 0 ∷ 0 ∷ 0 ∷ 0 ∷ 0 ∷ 2 ∷ 5 ∷ 2 ∷ 6 ∷ 0 ∷ 0 ∷ 0 ∷ 0 ∷ 0 ∷ 0 ∷ 0 ∷ 0 ∷ 7 ∷ 16 ∷ 13 ∷ 6 ∷ 5 ∷ 15 ∷ 5 ∷ 0 ∷ 0 ∷ 0 ∷ 0 ∷ 0 ∷ 2 ∷ 7 ∷ 2 ∷ 7 ∷ 0 ∷ 0 ∷ 0 ∷ 0 ∷ 0 ∷ 0 ∷ 0 ∷ 0 ∷ 2 ∷ 9 ∷ 2 ∷ 6 ∷ 20 ∷ 12 ∷ 4 ∷ 8 ∷ 0 ∷ 0 ∷ 0 ∷ 0 ∷ 2 ∷ 11 ∷ 2 ∷ 7 ∷ 20 ∷ 19 ∷ 5 ∷ 8 ∷ 0 ∷ 0 ∷ 0 ∷ 0 ∷ 2 ∷ 13 ∷ 3 ∷ 7 ∷ 20 ∷ 23 ∷ 5 ∷ 8 ∷ [])
    (0 ∷ 2 ∷ 0 ∷ 2 ∷ 7 ∷ 10 ∷ 17 ∷ 13 ∷ 19 ∷ 11 ∷ 13 ∷ 11 ∷ 19 ∷ 11 ∷ 13 ∷ 19 ∷ [])
    (14 ∷ 7 ∷ 14 ∷ 12 ∷ 5 ∷ 7 ∷ 5 ∷ 15 ∷ 14 ∷ 29 ∷ 16 ∷ 15 ∷ 10 ∷ 29 ∷ 17 ∷ 15 ∷ 11 ∷ 7 ∷ 13 ∷ 23 ∷ 21 ∷ 31 ∷ 22 ∷ 15 ∷ 13 ∷ 23 ∷ 21 ∷ 31 ∷ 22 ∷ 15 ∷ 13 ∷ 44 ∷ 21 ∷ 34 ∷ 22 ∷ 45 ∷ 23 ∷ 43 ∷ 13 ∷ 44 ∷ 21 ∷ 34 ∷ 22 ∷ 45 ∷ 23 ∷ 43 ∷ 13 ∷ 44 ∷ 21 ∷ 34 ∷ 22 ∷ 45 ∷ 23 ∷ 43 ∷ [])
    -- states in the order of their visits
    ∷ book
    (record { sp = 64; spp = 256; states = 360; members = 32; transitions = 64; pending = 64; scratch = 6144; output = 100 })
    "fields 4 budget 0\ndup\ntest 0 0\nunion 0 1\nseq 0 2\ntest 3 0\nunion 3 4\nseq 0 5\ntest 2 0\nunion 6 7\nwhy 8\n"
    0 0 "fields 4\nfrom 0000 to 0000\n"
    (0 ∷ 0 ∷ 2 ∷ 2 ∷ 4 ∷ 4 ∷ 6 ∷ 6 ∷ 2 ∷ 3 ∷ 10 ∷ 10 ∷ 12 ∷ 12 ∷ 0 ∷ 1 ∷ 16 ∷ 16 ∷ 18 ∷ 18 ∷ 20 ∷ 20 ∷ 6 ∷ 7 ∷ 2 ∷ 16 ∷ 26 ∷ 26 ∷ 28 ∷ 28 ∷ 6 ∷ 20 ∷ 6 ∷ 28 ∷ [])
    (0 ∷ 0 ∷ 0 ∷ 0 ∷ 2 ∷ 2 ∷ 2 ∷ 2 ∷ 3 ∷ 3 ∷ 3 ∷ 3 ∷ 4 ∷ 4 ∷ 4 ∷ 4 ∷ 1 ∷ 0 ∷ 0 ∷ 1 ∷ 6 ∷ 2 ∷ 2 ∷ 6 ∷ 7 ∷ 3 ∷ 3 ∷ 7 ∷ 8 ∷ 4 ∷ 4 ∷ 8 ∷ 1 ∷ 1 ∷ 1 ∷ 1 ∷ 10 ∷ 10 ∷ 10 ∷ 10 ∷ 11 ∷ 11 ∷ 11 ∷ 11 ∷ 12 ∷ 12 ∷ 12 ∷ 12 ∷ 8 ∷ 4 ∷ 4 ∷ 4 ∷ 1 ∷ 0 ∷ 0 ∷ 0 ∷ 15 ∷ 2 ∷ 2 ∷ 15 ∷ 16 ∷ 3 ∷ 3 ∷ 16 ∷ 17 ∷ 4 ∷ 4 ∷ 17 ∷ 6 ∷ 2 ∷ 2 ∷ 2 ∷ 19 ∷ 3 ∷ 3 ∷ 19 ∷ 20 ∷ 4 ∷ 4 ∷ 20 ∷ [])
    (9 ∷ 0 ∷ 0 ∷ 0 ∷ 6 ∷ 0 ∷ 2 ∷ 0 ∷ 0 ∷ 0 ∷ 0 ∷ 0 ∷ 1 ∷ 14 ∷ 0 ∷ 0 ∷ 0 ∷ 1 ∷ 1 ∷ 0 ∷ 0 ∷ 0 ∷ 0 ∷ 0 ∷ 2 ∷ 0 ∷ 2 ∷ 1 ∷ 15 ∷ 1 ∷ 2 ∷ 10 ∷ 0 ∷ 0 ∷ 0 ∷ 0 ∷ 7 ∷ 0 ∷ 2 ∷ 2 ∷ 6 ∷ 2 ∷ 2 ∷ 0 ∷ 0 ∷ 0 ∷ 0 ∷ 0 ∷ 1 ∷ 18 ∷ 0 ∷ 0 ∷ 0 ∷ 3 ∷ 1 ∷ 0 ∷ 0 ∷ 0 ∷ 0 ∷ 0 ∷ 2 ∷ 2 ∷ 2 ∷ 3 ∷ 19 ∷ 3 ∷ 2 ∷ 10 ∷ 0 ∷ 0 ∷ 0 ∷ 0 ∷ 7 ∷ 0 ∷ 5 ∷ 4 ∷ 6 ∷ 4 ∷ 2 ∷ 0 ∷ 0 ∷ 0 ∷ 0 ∷ 0 ∷ 1 ∷ 21 ∷ 0 ∷ 0 ∷ 0 ∷ 5 ∷ 1 ∷ 0 ∷ 0 ∷ 0 ∷ 0 ∷ 0 ∷ 2 ∷ 4 ∷ 2 ∷ 5 ∷ 22 ∷ 5 ∷ 2 ∷ 10 ∷ 0 ∷ 0 ∷ 0 ∷ 0 ∷ 1 ∷ 9 ∷ 0 ∷ 0 ∷ 0 ∷ 6 ∷ 1 ∷ 10 ∷ 0 ∷ 0 ∷ 0 ∷ 0 ∷ 1 ∷ 5 ∷ [])
    (0 ∷ 1 ∷ 3 ∷ 4 ∷ 6 ∷ 7 ∷ [])
    (9 ∷ 9 ∷ 9 ∷ 9 ∷ 2 ∷ 9 ∷ 2 ∷ 9 ∷ 5 ∷ 9 ∷ 5 ∷ 9 ∷ [])
    -- the rounds are run where there is no string
    ∷ book
    (record { sp = 64; spp = 256; states = 360; members = 32; transitions = 64; pending = 64; scratch = 6144; output = 100 })
    "fields 3 budget 0\ndup\ntest 0 0\nseq 0 1\ntest 0 1\nseq 3 2\ntest 2 0\nunion 0 5\nseq 0 6\nseq 4 7\nwhy 8\n"
    0 0 "fields 3\nnone\n"
    (0 ∷ 0 ∷ 2 ∷ 2 ∷ 4 ∷ 4 ∷ 0 ∷ 1 ∷ 8 ∷ 8 ∷ 10 ∷ 10 ∷ 4 ∷ 5 ∷ 10 ∷ 5 ∷ [])
    (0 ∷ 0 ∷ 0 ∷ 0 ∷ 2 ∷ 2 ∷ 2 ∷ 2 ∷ 3 ∷ 3 ∷ 3 ∷ 3 ∷ 1 ∷ 0 ∷ 0 ∷ 1 ∷ 5 ∷ 2 ∷ 2 ∷ 5 ∷ 6 ∷ 3 ∷ 3 ∷ 6 ∷ 1 ∷ 1 ∷ 1 ∷ 1 ∷ 8 ∷ 8 ∷ 8 ∷ 8 ∷ 9 ∷ 9 ∷ 9 ∷ 9 ∷ 6 ∷ 3 ∷ 3 ∷ 3 ∷ 3 ∷ 3 ∷ 3 ∷ 6 ∷ 1 ∷ 0 ∷ 0 ∷ 0 ∷ 13 ∷ 2 ∷ 2 ∷ 13 ∷ 14 ∷ 3 ∷ 3 ∷ 14 ∷ [])
    (9 ∷ 0 ∷ 0 ∷ 0 ∷ 5 ∷ 0 ∷ 2 ∷ 0 ∷ 0 ∷ 0 ∷ 0 ∷ 0 ∷ 1 ∷ 11 ∷ 0 ∷ 0 ∷ 0 ∷ 1 ∷ 1 ∷ 0 ∷ 0 ∷ 0 ∷ 0 ∷ 0 ∷ 7 ∷ 0 ∷ 1 ∷ 1 ∷ 0 ∷ 0 ∷ 0 ∷ 0 ∷ 0 ∷ 0 ∷ 0 ∷ 0 ∷ 1 ∷ 12 ∷ 0 ∷ 0 ∷ 0 ∷ 0 ∷ 1 ∷ 0 ∷ 0 ∷ 0 ∷ 0 ∷ 0 ∷ 7 ∷ 3 ∷ 2 ∷ 2 ∷ 0 ∷ 0 ∷ 0 ∷ 0 ∷ 0 ∷ 0 ∷ 0 ∷ 0 ∷ 1 ∷ 15 ∷ 0 ∷ 0 ∷ 0 ∷ 1 ∷ 1 ∷ 0 ∷ 0 ∷ 0 ∷ 0 ∷ 0 ∷ 2 ∷ 0 ∷ 2 ∷ 1 ∷ 16 ∷ 1 ∷ 2 ∷ 8 ∷ 0 ∷ 0 ∷ 0 ∷ 0 ∷ 7 ∷ 0 ∷ 6 ∷ 2 ∷ 5 ∷ 2 ∷ 2 ∷ 0 ∷ 0 ∷ 0 ∷ 0 ∷ 0 ∷ 7 ∷ 1 ∷ 7 ∷ 3 ∷ 5 ∷ 3 ∷ 2 ∷ 16 ∷ 0 ∷ 0 ∷ 0 ∷ 0 ∷ 7 ∷ 0 ∷ 8 ∷ 4 ∷ 5 ∷ 4 ∷ 2 ∷ 0 ∷ 0 ∷ 0 ∷ 0 ∷ 0 ∷ 7 ∷ 3 ∷ 9 ∷ 5 ∷ 5 ∷ 5 ∷ 2 ∷ 7 ∷ 0 ∷ 0 ∷ 0 ∷ 0 ∷ 1 ∷ 7 ∷ 0 ∷ 0 ∷ 0 ∷ 6 ∷ 1 ∷ 8 ∷ 0 ∷ 0 ∷ 0 ∷ 0 ∷ 1 ∷ 4 ∷ [])
    (0 ∷ 5 ∷ [])
    (11 ∷ 7 ∷ 11 ∷ 7 ∷ 6 ∷ 7 ∷ 6 ∷ 11 ∷ 8 ∷ 7 ∷ 8 ∷ 12 ∷ [])
    -- each round starts from epsilon
    ∷ book
    (record { sp = 64; spp = 256; states = 360; members = 32; transitions = 64; pending = 64; scratch = 6144; output = 100 })
    "fields 5 budget 0\ndup\ntest 0 0\nseq 0 1\nset 0 0\nseq 0 0\nseq 3 4\ntest 4 0\nunion 5 2 6\nwhy 7\n"
    0 0 "fields 5\nfrom 00000 to 00000\n"
    (0 ∷ 0 ∷ 2 ∷ 2 ∷ 4 ∷ 4 ∷ 6 ∷ 6 ∷ 8 ∷ 8 ∷ 0 ∷ 1 ∷ 12 ∷ 12 ∷ 14 ∷ 14 ∷ 16 ∷ 16 ∷ 18 ∷ 18 ∷ 8 ∷ 9 ∷ 8 ∷ 18 ∷ 18 ∷ 8 ∷ [])
    (0 ∷ 0 ∷ 0 ∷ 0 ∷ 2 ∷ 2 ∷ 2 ∷ 2 ∷ 3 ∷ 3 ∷ 3 ∷ 3 ∷ 4 ∷ 4 ∷ 4 ∷ 4 ∷ 5 ∷ 5 ∷ 5 ∷ 5 ∷ 1 ∷ 0 ∷ 0 ∷ 1 ∷ 7 ∷ 2 ∷ 2 ∷ 7 ∷ 8 ∷ 3 ∷ 3 ∷ 8 ∷ 9 ∷ 4 ∷ 4 ∷ 9 ∷ 10 ∷ 5 ∷ 5 ∷ 10 ∷ 1 ∷ 1 ∷ 1 ∷ 1 ∷ 12 ∷ 12 ∷ 12 ∷ 12 ∷ 13 ∷ 13 ∷ 13 ∷ 13 ∷ 14 ∷ 14 ∷ 14 ∷ 14 ∷ 15 ∷ 15 ∷ 15 ∷ 15 ∷ 10 ∷ 5 ∷ 5 ∷ 5 ∷ 10 ∷ 5 ∷ 10 ∷ 5 ∷ 1 ∷ 0 ∷ 0 ∷ 0 ∷ 19 ∷ 2 ∷ 2 ∷ 19 ∷ 20 ∷ 3 ∷ 3 ∷ 20 ∷ 21 ∷ 4 ∷ 4 ∷ 21 ∷ 22 ∷ 5 ∷ 5 ∷ 22 ∷ 5 ∷ 5 ∷ 5 ∷ 10 ∷ 5 ∷ 5 ∷ 10 ∷ 5 ∷ [])
    (9 ∷ 0 ∷ 0 ∷ 0 ∷ 7 ∷ 0 ∷ 2 ∷ 12 ∷ 0 ∷ 0 ∷ 0 ∷ 0 ∷ 1 ∷ 17 ∷ 0 ∷ 0 ∷ 0 ∷ 1 ∷ 1 ∷ 24 ∷ 0 ∷ 0 ∷ 0 ∷ 0 ∷ 7 ∷ 0 ∷ 1 ∷ 1 ∷ 7 ∷ 1 ∷ 2 ∷ 0 ∷ 0 ∷ 0 ∷ 0 ∷ 0 ∷ 1 ∷ 18 ∷ 0 ∷ 0 ∷ 0 ∷ 2 ∷ 1 ∷ 0 ∷ 0 ∷ 0 ∷ 0 ∷ 0 ∷ 7 ∷ 0 ∷ 0 ∷ 1 ∷ 7 ∷ 2 ∷ 2 ∷ 0 ∷ 0 ∷ 0 ∷ 0 ∷ 0 ∷ 7 ∷ 3 ∷ 4 ∷ 2 ∷ 7 ∷ 3 ∷ 2 ∷ 0 ∷ 0 ∷ 0 ∷ 0 ∷ 0 ∷ 1 ∷ 23 ∷ 0 ∷ 0 ∷ 0 ∷ 4 ∷ 1 ∷ 0 ∷ 0 ∷ 0 ∷ 0 ∷ 0 ∷ 2 ∷ 0 ∷ 3 ∷ 3 ∷ 24 ∷ 4 ∷ 4 ∷ 12 ∷ 0 ∷ 0 ∷ 0 ∷ 0 ∷ 1 ∷ 11 ∷ 0 ∷ 0 ∷ 0 ∷ 8 ∷ 1 ∷ 12 ∷ 0 ∷ 0 ∷ 0 ∷ 0 ∷ 1 ∷ 6 ∷ 0 ∷ 0 ∷ 0 ∷ 0 ∷ 0 ∷ 0 ∷ 0 ∷ 0 ∷ 0 ∷ 0 ∷ 2 ∷ 3 ∷ 2 ∷ 1 ∷ 18 ∷ 7 ∷ 2 ∷ 12 ∷ [])
    (2 ∷ 5 ∷ 6 ∷ 0 ∷ 1 ∷ [])
    (8 ∷ 11 ∷ 1 ∷ 11 ∷ 0 ∷ 11 ∷ 0 ∷ 18 ∷ 0 ∷ 25 ∷ 1 ∷ 24 ∷ 10 ∷ 17 ∷ 8 ∷ 11 ∷ [])
    -- `next` of a rule without strings that is not the zero state has a transition; pruned, it has none
    ∷ book
    (record { sp = 64; spp = 256; states = 360; members = 32; transitions = 64; pending = 64; scratch = 6144; output = 100 })
    "fields 1 budget 9\nzero\ndup\nminus 0 1\nnext 2\npruned 3\nempty 3\n"
    0 0 "fields 1\npruned 3 0\nempty 3 yes 2\n"
    ([])
    (0 ∷ 0 ∷ 0 ∷ 0 ∷ 1 ∷ 0 ∷ 0 ∷ 1 ∷ 1 ∷ 1 ∷ 1 ∷ 1 ∷ [])
    (1 ∷ 2 ∷ 0 ∷ 0 ∷ 0 ∷ 1 ∷ 1 ∷ 0 ∷ 0 ∷ 0 ∷ 0 ∷ 0 ∷ 9 ∷ 0 ∷ 0 ∷ 0 ∷ 3 ∷ 1 ∷ 2 ∷ 0 ∷ 0 ∷ 0 ∷ 0 ∷ 0 ∷ 5 ∷ 0 ∷ 1 ∷ 1 ∷ 3 ∷ 2 ∷ 1 ∷ 3 ∷ 0 ∷ 0 ∷ 0 ∷ 0 ∷ 10 ∷ 2 ∷ 0 ∷ 2 ∷ 3 ∷ 0 ∷ 2 ∷ 3 ∷ 0 ∷ 0 ∷ 0 ∷ 0 ∷ 1 ∷ 3 ∷ [])
    ([])
    (2 ∷ 4 ∷ 4 ∷ 3 ∷ [])
    -- a string of `next` starts anywhere and has a hop
    ∷ book
    (record { sp = 64; spp = 256; states = 360; members = 32; transitions = 64; pending = 64; scratch = 6144; output = 100 })
    "fields 1 budget 10\ntest 0 1\nnext 0\nempty 1\nlive 1\nwhy 1\n"
    0 0 "fields 1\nempty 1 no 2\nlive 1 2 1000\nfrom 0 by 1 to 1\n"
    (0 ∷ 0 ∷ 0 ∷ 1 ∷ [])
    (0 ∷ 0 ∷ 0 ∷ 0 ∷ 1 ∷ 0 ∷ 0 ∷ 1 ∷ 1 ∷ 1 ∷ 1 ∷ 1 ∷ 0 ∷ 0 ∷ 0 ∷ 1 ∷ [])
    (1 ∷ 5 ∷ 0 ∷ 0 ∷ 0 ∷ 1 ∷ 1 ∷ 5 ∷ 0 ∷ 0 ∷ 0 ∷ 0 ∷ 10 ∷ 0 ∷ 0 ∷ 1 ∷ 3 ∷ 0 ∷ 2 ∷ 4 ∷ 0 ∷ 0 ∷ 0 ∷ 0 ∷ 1 ∷ 2 ∷ [])
    ([])
    (0 ∷ 4 ∷ [])
    -- the zero state is made by delta, not by the line
    ∷ book
    (record { sp = 64; spp = 256; states = 24; members = 32; transitions = 64; pending = 64; scratch = 6144; output = 100 })
    "fields 0 budget 9\ndup\nnext 0\nlive 1\n"
    22 4 "fields 0\n"
    ([])
    ([])
    ([])
    ([])
    ([])
    ∷ []

pub all_come : Hold rows
unfolding outcome run begin Text.cut Text.words Text.same Text.digits Text.reading Text.number Text.decimal_by Text.decimal Reader.header Reader.find Reader.numbers Reader.exact Reader.parse Reader.giving Reader.resolve Answers.say Answers.share Answers.pair_lines Sp.size Spp.size Spp.assign is_empty Handles.search Handles.run Handles.turn Handles.expand Handles.walk flip Sp.kid Sp.child Sp.same Sp.seek Sp.room Sp.put Sp.intern Sp.mk Sp.exit Sp.join Sp.both Sp.apply Sp.union Sp.complement Sp.difference Sp.is_zero Sp.is_universal Images.fwd_node Images.fwd Images.led_exit Images.push_node Images.push Images.has_exit Images.has_image mk_spp mk_dup mk_top mk_union mk_union_n mk_intersect_n mk_intersect mk_intersect_n_base mk_complement mk_sequence sequence_by sequence_with mk_star mk_next mk_until unite meet open_union open_all opened extend each count_all count_one product base bases finish add_relation unite_one meet_one meet_finish add_last intern0 intern1 intern2 intern_l put_l put seek same2 same_at same_l storeMembers nest_l room_s room_m put4 kind_of op1 op2 nest words least rise test Spp.field Spp.apply Spp.exit Spp.each Spp.complement Spp.sequence Spp.seq_exit Spp.product Spp.star Spp.star_exit Spp.blocks Spp.mk Spp.seek Spp.same Spp.kids Spp.kid Spp.room Spp.put Spp.zero_at Spp.one_at Spp.top_at ListSteps.unite ListSteps.enter ListSteps.enter_in ListSteps.place ListSteps.st_singleton ListSteps.split ListSteps.insert ListSteps.insert_each ListSteps.insert_pairs ListSteps.st_union ListSteps.st_intersect ListSteps.cover_all ListSteps.st_complement ListSteps.st_postcompose ListSteps.st_precompose ListSteps.st_intersect_expr epsilon_of set_word keep_epsilon each_of unite_all meet_all epsilon_by_kind epsilon_with epsilon_by epsilon start_of count_of edges flat room_t append list_at keep_list union_all intersect_all sequence_list star_list until_list dup_list top_list delta_by_kind delta_with delta_by delta Sp.constants Spp.constants Spp.zeros Spp.ones Spp.tops enqueue label_to enlarge keep_in explore pull_back pull_from pull_all settle live_anew live_sets live_packets live_of viable prune delta_pruned Images.bwd_node Images.bwd Images.ifwd_node Images.ifwd Images.pull_node Images.pull mk_difference mk_xor ListSteps.subtract_row ListSteps.subtract_rows ListSteps.st_difference ListSteps.st_xor value_of Sp.mem Spp.mem Why.each Why.same_on Why.ends Why.joins Why.turn Why.rounds Why.fewest Why.rounds_of Why.why_sets Why.why Pick.hop Pick.way Pick.pick Order.value Order.least Answers.bits_of Answers.sentence
all_come = (refl, (refl, (refl, (refl, (refl, (refl, (refl, (refl, (refl, (refl, (refl, (refl, tt))))))))))))
