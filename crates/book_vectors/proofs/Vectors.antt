-- Books with their whole outcomes, worked out beforehand by a program written from document 01 and, where the Rust decides, equal to its own: number, text line, output, every word of every table. Computed.
use mathlib.Core.Path.{refl}
use mathlib.Core.List.{List, [], ◌∷◌}
use Prim.Native.Nat.{ℕ}
use lib.ListN.{replicate}
use Prim.Native.String.{String}
use Rattle.common.specs.Rows.{Row, row, Hold}
use Rattle.netkat_steps.specs.Handles as Handles
use Rattle.netkat_steps.specs.ListSteps as ListSteps
use Rattle.sp_steps.specs.Model as Sp
use Rattle.spp_steps.specs.Model as Spp
use Rattle.spp_steps.specs.ImageModel as Images
use Rattle.sp_steps.specs.Word.{flip}
use Rattle.spp_steps.specs.Model.{test}
use Rattle.aut_steps.specs.Tables.{kind_of, op1, op2, nest, words, room_s, room_m, put4}
use Rattle.aut_steps.specs.Intern.{intern0, intern1, intern2, intern_l, put_l, put, seek, same2, same_at, same_l, store as storeMembers, nest_l}
use Rattle.aut_steps.specs.Lists.{least, rise}
use Rattle.aut_steps.specs.Constructors.{mk_spp, mk_dup, mk_top, mk_union, mk_union_n, mk_intersect_n, mk_intersect, mk_intersect_n_base, mk_complement, mk_sequence, sequence_by, sequence_with, mk_star, mk_until, unite, meet, open_union, open_all, opened, extend, each, count_all, count_one, product, base, bases, finish, add_relation, unite_one, meet_one, meet_finish, add_last, mk_difference, mk_xor}
use Rattle.aut_steps.specs.Corners.{filled}
use Rattle.aut_delta_steps.specs.Epsilon.{epsilon_of, set_word, keep_epsilon, each_of, unite_all, meet_all, epsilon_by_kind, epsilon_with, epsilon_by, epsilon}
use Rattle.aut_st_steps.specs.Edges.{edges, flat}
use Rattle.aut_delta_steps.specs.Delta.{start_of, count_of, room_t, append, list_at, keep_list, union_all, intersect_all, sequence_list, star_list, until_list, dup_list, top_list, delta_by_kind, delta_with, delta_by, delta}
use Rattle.aut_query_steps.specs.Tables.{live_of}
use Rattle.aut_query_steps.specs.Search.{is_empty}
use Rattle.aut_query_steps.specs.Live.{enqueue, label_to, enlarge, keep_in, explore, pull_back, pull_from, pull_all, settle, live_anew, live_sets, live_packets}
use Rattle.aut_query_steps.specs.Pruned.{viable, prune, delta_pruned}
use Rattle.book_steps.specs.Text as Text
use Rattle.book_steps.specs.Text.{bytes}
use Rattle.book_steps.specs.Reader as Reader
use Rattle.book_steps.specs.Answers as Answers
use Rattle.book_steps.specs.Run.{Lent, run, begin, outcome}

-- a book: its whole outcome with what is lent
abbrev pub book : Lent → String → (number line : ℕ) → String → (sp spp states members transitions : List ℕ) → Row
book l text number line output sp spp states members transitions =
    row (outcome l (bytes text)) (record {
      number = number;
      line = line;
      output = bytes output;
      sp = filled l.sp sp;
      spp = filled l.spp spp;
      states = filled l.states states;
      members = filled l.members members;
      transitions = filled l.transitions transitions;
      pending = replicate l.pending 0;
      scratch = replicate l.scratch 0;
    })

abbrev pub rows_1 : List Row
rows_1 =
    -- budget 0
    book
    (record { sp = 40; spp = 120; states = 240; members = 40; transitions = 60; pending = 60; scratch = 6144; output = 400 })
    "fields 0 budget 2\ndup\nall\none\nseq 0 2\nseq 1 3\nand 3 1\nseq 2 0\nuntil 6 5\nlive 5\nempty 3\nlive 7\nempty 7\n"
    0 0 "fields 0\nlive 5 0 0\nempty 3 no 2\nlive 7 0 0\nempty 7 yes 2\n"
    ([])
    ([])
    (9 ∷ 0 ∷ 0 ∷ 0 ∷ 1 ∷ 0 ∷ 2 ∷ 0 ∷ 0 ∷ 0 ∷ 0 ∷ 0 ∷ 1 ∷ 1 ∷ 0 ∷ 0 ∷ 0 ∷ 1 ∷ 1 ∷ 0 ∷ 0 ∷ 0 ∷ 0 ∷ 0 ∷ 3 ∷ 0 ∷ 2 ∷ 1 ∷ 1 ∷ 1 ∷ 1 ∷ 1 ∷ 0 ∷ 0 ∷ 0 ∷ 0 ∷ 11 ∷ 0 ∷ 2 ∷ 2 ∷ 1 ∷ 1 ∷ 2 ∷ 1 ∷ 0 ∷ 0 ∷ 0 ∷ 0 ∷ 1 ∷ 0 ∷ 0 ∷ 0 ∷ 0 ∷ 0 ∷ 0 ∷ 0 ∷ 0 ∷ 0 ∷ 0 ∷ 0 ∷ 3 ∷ 2 ∷ 2 ∷ 3 ∷ 1 ∷ 2 ∷ 1 ∷ 1 ∷ [])
    (0 ∷ 1 ∷ 3 ∷ 1 ∷ [])
    (1 ∷ 1 ∷ 5 ∷ 1 ∷ [])
    -- budget 5
    ∷ book
    (record { sp = 40; spp = 120; states = 324; members = 40; transitions = 60; pending = 60; scratch = 6144; output = 400 })
    "fields 2 budget 2\ndup\nset 0 0\ntest 1 0\nseq 0 2\nseq 1 3\ntest 1 0\nset 1 1\nseq 0 6\nseq 5 7\ntest 0 0\ntest 0 0\nseq 0 10\nseq 9 11\nseq 12 4\nseq 13 11\nminus 11 14\nlive 11\nempty 15\n"
    0 0 "fields 2\nlive 11 2 500\nempty 15 no 2\n"
    (0 ∷ 0 ∷ 2 ∷ 2 ∷ 2 ∷ 3 ∷ [])
    (0 ∷ 0 ∷ 0 ∷ 0 ∷ 2 ∷ 2 ∷ 2 ∷ 2 ∷ 1 ∷ 0 ∷ 0 ∷ 1 ∷ 4 ∷ 2 ∷ 2 ∷ 4 ∷ 1 ∷ 1 ∷ 1 ∷ 1 ∷ 6 ∷ 6 ∷ 6 ∷ 6 ∷ 4 ∷ 2 ∷ 4 ∷ 2 ∷ 1 ∷ 0 ∷ 0 ∷ 0 ∷ 9 ∷ 2 ∷ 2 ∷ 9 ∷ 0 ∷ 1 ∷ 0 ∷ 1 ∷ 11 ∷ 2 ∷ 2 ∷ 11 ∷ 4 ∷ 2 ∷ 2 ∷ 2 ∷ 2 ∷ 2 ∷ 2 ∷ 4 ∷ [])
    (9 ∷ 0 ∷ 0 ∷ 0 ∷ 4 ∷ 0 ∷ 2 ∷ 0 ∷ 0 ∷ 0 ∷ 0 ∷ 0 ∷ 1 ∷ 8 ∷ 0 ∷ 0 ∷ 0 ∷ 2 ∷ 1 ∷ 0 ∷ 0 ∷ 0 ∷ 0 ∷ 0 ∷ 1 ∷ 10 ∷ 0 ∷ 0 ∷ 0 ∷ 2 ∷ 1 ∷ 0 ∷ 0 ∷ 0 ∷ 0 ∷ 0 ∷ 7 ∷ 0 ∷ 2 ∷ 1 ∷ 0 ∷ 0 ∷ 0 ∷ 0 ∷ 0 ∷ 0 ∷ 0 ∷ 0 ∷ 7 ∷ 1 ∷ 3 ∷ 2 ∷ 0 ∷ 0 ∷ 0 ∷ 0 ∷ 0 ∷ 0 ∷ 0 ∷ 0 ∷ 1 ∷ 12 ∷ 0 ∷ 0 ∷ 0 ∷ 0 ∷ 0 ∷ 0 ∷ 0 ∷ 0 ∷ 0 ∷ 0 ∷ 7 ∷ 0 ∷ 5 ∷ 1 ∷ 0 ∷ 0 ∷ 0 ∷ 0 ∷ 0 ∷ 0 ∷ 0 ∷ 0 ∷ 7 ∷ 2 ∷ 6 ∷ 2 ∷ 0 ∷ 0 ∷ 0 ∷ 0 ∷ 0 ∷ 0 ∷ 0 ∷ 0 ∷ 1 ∷ 13 ∷ 0 ∷ 0 ∷ 0 ∷ 1 ∷ 1 ∷ 8 ∷ 0 ∷ 0 ∷ 0 ∷ 0 ∷ 7 ∷ 0 ∷ 8 ∷ 1 ∷ 4 ∷ 1 ∷ 2 ∷ 8 ∷ 0 ∷ 0 ∷ 0 ∷ 0 ∷ 7 ∷ 8 ∷ 9 ∷ 2 ∷ 0 ∷ 0 ∷ 0 ∷ 0 ∷ 0 ∷ 0 ∷ 0 ∷ 0 ∷ 7 ∷ 8 ∷ 4 ∷ 3 ∷ 0 ∷ 0 ∷ 0 ∷ 0 ∷ 0 ∷ 0 ∷ 0 ∷ 0 ∷ 7 ∷ 0 ∷ 11 ∷ 4 ∷ 0 ∷ 0 ∷ 0 ∷ 0 ∷ 0 ∷ 0 ∷ 0 ∷ 0 ∷ 7 ∷ 8 ∷ 12 ∷ 5 ∷ 0 ∷ 0 ∷ 0 ∷ 0 ∷ 0 ∷ 0 ∷ 0 ∷ 0 ∷ 7 ∷ 2 ∷ 9 ∷ 2 ∷ 4 ∷ 2 ∷ 2 ∷ 0 ∷ 0 ∷ 0 ∷ 0 ∷ 0 ∷ 7 ∷ 0 ∷ 14 ∷ 3 ∷ 4 ∷ 3 ∷ 2 ∷ 0 ∷ 0 ∷ 0 ∷ 0 ∷ 0 ∷ 7 ∷ 1 ∷ 15 ∷ 4 ∷ 4 ∷ 4 ∷ 2 ∷ 0 ∷ 0 ∷ 0 ∷ 0 ∷ 0 ∷ 7 ∷ 8 ∷ 16 ∷ 5 ∷ 4 ∷ 5 ∷ 2 ∷ 0 ∷ 0 ∷ 0 ∷ 0 ∷ 0 ∷ 7 ∷ 0 ∷ 17 ∷ 6 ∷ 4 ∷ 6 ∷ 2 ∷ 0 ∷ 0 ∷ 0 ∷ 0 ∷ 0 ∷ 7 ∷ 8 ∷ 18 ∷ 7 ∷ 4 ∷ 7 ∷ 2 ∷ 0 ∷ 0 ∷ 0 ∷ 0 ∷ 0 ∷ 5 ∷ 9 ∷ 19 ∷ 8 ∷ 4 ∷ 8 ∷ 3 ∷ 0 ∷ 0 ∷ 0 ∷ 0 ∷ 0 ∷ 1 ∷ 5 ∷ 0 ∷ 0 ∷ 0 ∷ 0 ∷ 0 ∷ 0 ∷ 0 ∷ 0 ∷ 0 ∷ 0 ∷ 1 ∷ 3 ∷ 0 ∷ 0 ∷ 0 ∷ 0 ∷ 0 ∷ 0 ∷ 0 ∷ 0 ∷ 0 ∷ 0 ∷ 5 ∷ 8 ∷ 17 ∷ 6 ∷ 14 ∷ 0 ∷ 0 ∷ 0 ∷ 0 ∷ 0 ∷ 0 ∷ 0 ∷ 2 ∷ 0 ∷ 2 ∷ 7 ∷ [])
    (8 ∷ 23 ∷ [])
    (21 ∷ 5 ∷ 8 ∷ 5 ∷ 8 ∷ 10 ∷ 14 ∷ 5 ∷ 14 ∷ 8 ∷ 14 ∷ 13 ∷ 17 ∷ 5 ∷ 17 ∷ 13 ∷ 8 ∷ 14 ∷ 23 ∷ 13 ∷ [])
    -- budget 7
    ∷ book
    (record { sp = 40; spp = 120; states = 348; members = 40; transitions = 60; pending = 60; scratch = 6144; output = 400 })
    "fields 1 budget 3\ndup\ntest 0 1\nset 0 0\nseq 0 2\nseq 1 3\ntest 0 0\none\nseq 6 0\nseq 5 7\ntest 0 1\nset 0 1\nseq 10 0\nseq 9 11\ntest 0 1\nset 0 1\nseq 14 0\nseq 13 15\ntest 0 1\nset 0 0\nseq 18 0\nseq 17 19\nunion 4 8 12 16 20\nstar 21\ntest 0 0\ntest 0 0\nseq 0 24\nseq 22 25\nseq 23 26\nxor 27 27\nempty 27\npruned 28\n"
    0 0 "fields 1\nempty 27 no 2\npruned 28 0\n"
    (0 ∷ 0 ∷ 0 ∷ 1 ∷ [])
    (0 ∷ 0 ∷ 0 ∷ 0 ∷ 1 ∷ 0 ∷ 0 ∷ 1 ∷ 1 ∷ 1 ∷ 1 ∷ 1 ∷ 0 ∷ 0 ∷ 0 ∷ 1 ∷ 1 ∷ 0 ∷ 1 ∷ 0 ∷ 1 ∷ 0 ∷ 0 ∷ 0 ∷ 0 ∷ 1 ∷ 0 ∷ 1 ∷ 0 ∷ 0 ∷ 1 ∷ 0 ∷ 1 ∷ 0 ∷ 1 ∷ 1 ∷ [])
    (9 ∷ 0 ∷ 0 ∷ 0 ∷ 3 ∷ 0 ∷ 2 ∷ 0 ∷ 0 ∷ 0 ∷ 0 ∷ 0 ∷ 1 ∷ 5 ∷ 0 ∷ 0 ∷ 0 ∷ 0 ∷ 1 ∷ 0 ∷ 0 ∷ 0 ∷ 0 ∷ 0 ∷ 1 ∷ 6 ∷ 0 ∷ 0 ∷ 0 ∷ 1 ∷ 1 ∷ 0 ∷ 0 ∷ 0 ∷ 0 ∷ 0 ∷ 7 ∷ 0 ∷ 2 ∷ 1 ∷ 3 ∷ 1 ∷ 2 ∷ 0 ∷ 0 ∷ 0 ∷ 0 ∷ 0 ∷ 7 ∷ 1 ∷ 3 ∷ 2 ∷ 3 ∷ 2 ∷ 2 ∷ 0 ∷ 0 ∷ 0 ∷ 0 ∷ 0 ∷ 1 ∷ 7 ∷ 0 ∷ 0 ∷ 0 ∷ 0 ∷ 1 ∷ 0 ∷ 0 ∷ 0 ∷ 0 ∷ 0 ∷ 1 ∷ 3 ∷ 0 ∷ 0 ∷ 0 ∷ 0 ∷ 0 ∷ 0 ∷ 0 ∷ 0 ∷ 0 ∷ 0 ∷ 7 ∷ 5 ∷ 0 ∷ 1 ∷ 3 ∷ 3 ∷ 2 ∷ 0 ∷ 0 ∷ 0 ∷ 0 ∷ 0 ∷ 1 ∷ 8 ∷ 0 ∷ 0 ∷ 0 ∷ 4 ∷ 1 ∷ 0 ∷ 0 ∷ 0 ∷ 0 ∷ 0 ∷ 7 ∷ 8 ∷ 0 ∷ 1 ∷ 3 ∷ 4 ∷ 2 ∷ 0 ∷ 0 ∷ 0 ∷ 0 ∷ 0 ∷ 7 ∷ 1 ∷ 9 ∷ 2 ∷ 3 ∷ 5 ∷ 2 ∷ 0 ∷ 0 ∷ 0 ∷ 0 ∷ 0 ∷ 7 ∷ 2 ∷ 0 ∷ 1 ∷ 3 ∷ 6 ∷ 2 ∷ 0 ∷ 0 ∷ 0 ∷ 0 ∷ 0 ∷ 7 ∷ 1 ∷ 11 ∷ 2 ∷ 3 ∷ 7 ∷ 2 ∷ 0 ∷ 0 ∷ 0 ∷ 0 ∷ 0 ∷ 2 ∷ 0 ∷ 4 ∷ 3 ∷ 3 ∷ 8 ∷ 3 ∷ 0 ∷ 0 ∷ 0 ∷ 0 ∷ 0 ∷ 8 ∷ 13 ∷ 0 ∷ 4 ∷ 4 ∷ 10 ∷ 3 ∷ 0 ∷ 0 ∷ 0 ∷ 0 ∷ 0 ∷ 7 ∷ 0 ∷ 5 ∷ 1 ∷ 3 ∷ 12 ∷ 2 ∷ 0 ∷ 0 ∷ 0 ∷ 0 ∷ 0 ∷ 7 ∷ 14 ∷ 15 ∷ 5 ∷ 3 ∷ 13 ∷ 4 ∷ 0 ∷ 0 ∷ 0 ∷ 0 ∷ 0 ∷ 7 ∷ 5 ∷ 16 ∷ 6 ∷ 3 ∷ 16 ∷ 2 ∷ 0 ∷ 0 ∷ 0 ∷ 0 ∷ 0 ∷ 1 ∷ 2 ∷ 0 ∷ 0 ∷ 0 ∷ 17 ∷ 1 ∷ 3 ∷ 0 ∷ 0 ∷ 0 ∷ 0 ∷ 1 ∷ 10 ∷ 0 ∷ 0 ∷ 0 ∷ 0 ∷ 0 ∷ 0 ∷ 0 ∷ 0 ∷ 0 ∷ 0 ∷ 7 ∷ 19 ∷ 14 ∷ 5 ∷ 0 ∷ 0 ∷ 0 ∷ 0 ∷ 0 ∷ 0 ∷ 0 ∷ 0 ∷ 2 ∷ 4 ∷ 2 ∷ 6 ∷ 0 ∷ 0 ∷ 0 ∷ 0 ∷ 0 ∷ 0 ∷ 0 ∷ 0 ∷ 7 ∷ 19 ∷ 16 ∷ 6 ∷ 0 ∷ 0 ∷ 0 ∷ 0 ∷ 0 ∷ 0 ∷ 0 ∷ 0 ∷ 2 ∷ 6 ∷ 2 ∷ 7 ∷ 0 ∷ 0 ∷ 0 ∷ 0 ∷ 0 ∷ 0 ∷ 0 ∷ 0 ∷ 2 ∷ 8 ∷ 2 ∷ 6 ∷ 8 ∷ 0 ∷ 0 ∷ 0 ∷ 0 ∷ 0 ∷ 0 ∷ 0 ∷ 2 ∷ 10 ∷ 2 ∷ 7 ∷ 0 ∷ 0 ∷ 0 ∷ 0 ∷ 0 ∷ 0 ∷ 0 ∷ 0 ∷ 2 ∷ 12 ∷ 3 ∷ 7 ∷ [])
    (4 ∷ 7 ∷ 10 ∷ 12 ∷ 14 ∷ 20 ∷ 16 ∷ 22 ∷ 5 ∷ 16 ∷ 5 ∷ 22 ∷ 5 ∷ 16 ∷ 22 ∷ [])
    (6 ∷ 3 ∷ 2 ∷ 3 ∷ 2 ∷ 5 ∷ 6 ∷ 7 ∷ 6 ∷ 8 ∷ 6 ∷ 5 ∷ 6 ∷ 6 ∷ 6 ∷ 9 ∷ 6 ∷ 6 ∷ 19 ∷ 5 ∷ 14 ∷ 6 ∷ 20 ∷ 5 ∷ 5 ∷ 3 ∷ 16 ∷ 9 ∷ 24 ∷ 7 ∷ 25 ∷ 5 ∷ 24 ∷ 7 ∷ [])
    -- budget 8
    ∷ book
    (record { sp = 40; spp = 140; states = 312; members = 40; transitions = 60; pending = 60; scratch = 6144; output = 400 })
    "fields 3 budget 2\ndup\ntest 0 1\none\nseq 0 2\nseq 1 3\ntest 0 1\ntest 1 1\nseq 5 6\none\nseq 0 8\nseq 7 9\ntest 0 0\ntest 2 0\nand 11 12\nset 2 1\nset 1 1\nseq 14 15\nseq 16 0\nseq 13 17\nunion 4 10 18\nstar 19\ntest 1 0\ntest 2 1\nand 21 22\ntest 0 0\nand 23 24\ntest 2 1\ntest 1 0\nseq 26 27\nseq 20 28\nseq 25 29\nstar 30\nempty 30\nempty 31\n"
    0 0 "fields 3\nempty 30 no 1\nempty 31 no 1\n"
    (0 ∷ 0 ∷ 2 ∷ 2 ∷ 4 ∷ 4 ∷ [])
    (0 ∷ 0 ∷ 0 ∷ 0 ∷ 2 ∷ 2 ∷ 2 ∷ 2 ∷ 3 ∷ 3 ∷ 3 ∷ 3 ∷ 1 ∷ 0 ∷ 0 ∷ 1 ∷ 5 ∷ 2 ∷ 2 ∷ 5 ∷ 6 ∷ 3 ∷ 3 ∷ 6 ∷ 1 ∷ 1 ∷ 1 ∷ 1 ∷ 8 ∷ 8 ∷ 8 ∷ 8 ∷ 9 ∷ 9 ∷ 9 ∷ 9 ∷ 3 ∷ 3 ∷ 3 ∷ 6 ∷ 2 ∷ 2 ∷ 2 ∷ 5 ∷ 12 ∷ 3 ∷ 3 ∷ 12 ∷ 3 ∷ 3 ∷ 3 ∷ 12 ∷ 6 ∷ 3 ∷ 3 ∷ 3 ∷ 1 ∷ 0 ∷ 0 ∷ 0 ∷ 16 ∷ 2 ∷ 2 ∷ 16 ∷ 17 ∷ 3 ∷ 3 ∷ 17 ∷ 17 ∷ 3 ∷ 3 ∷ 3 ∷ 0 ∷ 1 ∷ 0 ∷ 1 ∷ 20 ∷ 2 ∷ 2 ∷ 20 ∷ 21 ∷ 3 ∷ 3 ∷ 21 ∷ 2 ∷ 5 ∷ 2 ∷ 5 ∷ 23 ∷ 3 ∷ 3 ∷ 23 ∷ 2 ∷ 20 ∷ 2 ∷ 20 ∷ 25 ∷ 3 ∷ 3 ∷ 25 ∷ 5 ∷ 2 ∷ 2 ∷ 2 ∷ 27 ∷ 3 ∷ 3 ∷ 27 ∷ 0 ∷ 0 ∷ 0 ∷ 1 ∷ 29 ∷ 2 ∷ 2 ∷ 29 ∷ 30 ∷ 3 ∷ 3 ∷ 30 ∷ 29 ∷ 2 ∷ 2 ∷ 2 ∷ 32 ∷ 3 ∷ 3 ∷ 32 ∷ 32 ∷ 3 ∷ 3 ∷ 3 ∷ [])
    (9 ∷ 0 ∷ 0 ∷ 0 ∷ 5 ∷ 0 ∷ 0 ∷ 0 ∷ 0 ∷ 0 ∷ 0 ∷ 0 ∷ 1 ∷ 11 ∷ 0 ∷ 0 ∷ 0 ∷ 0 ∷ 0 ∷ 0 ∷ 0 ∷ 0 ∷ 0 ∷ 0 ∷ 1 ∷ 7 ∷ 0 ∷ 0 ∷ 0 ∷ 0 ∷ 0 ∷ 0 ∷ 0 ∷ 0 ∷ 0 ∷ 0 ∷ 7 ∷ 1 ∷ 0 ∷ 1 ∷ 5 ∷ 0 ∷ 0 ∷ 0 ∷ 0 ∷ 0 ∷ 0 ∷ 0 ∷ 1 ∷ 13 ∷ 0 ∷ 0 ∷ 0 ∷ 0 ∷ 0 ∷ 0 ∷ 0 ∷ 0 ∷ 0 ∷ 0 ∷ 1 ∷ 14 ∷ 0 ∷ 0 ∷ 0 ∷ 0 ∷ 0 ∷ 0 ∷ 0 ∷ 0 ∷ 0 ∷ 0 ∷ 7 ∷ 5 ∷ 0 ∷ 1 ∷ 5 ∷ 0 ∷ 0 ∷ 0 ∷ 0 ∷ 0 ∷ 0 ∷ 0 ∷ 1 ∷ 15 ∷ 0 ∷ 0 ∷ 0 ∷ 0 ∷ 0 ∷ 0 ∷ 0 ∷ 0 ∷ 0 ∷ 0 ∷ 1 ∷ 18 ∷ 0 ∷ 0 ∷ 0 ∷ 0 ∷ 0 ∷ 0 ∷ 0 ∷ 0 ∷ 0 ∷ 0 ∷ 1 ∷ 19 ∷ 0 ∷ 0 ∷ 0 ∷ 0 ∷ 0 ∷ 0 ∷ 0 ∷ 0 ∷ 0 ∷ 0 ∷ 1 ∷ 22 ∷ 0 ∷ 0 ∷ 0 ∷ 0 ∷ 0 ∷ 0 ∷ 0 ∷ 0 ∷ 0 ∷ 0 ∷ 1 ∷ 24 ∷ 0 ∷ 0 ∷ 0 ∷ 0 ∷ 0 ∷ 0 ∷ 0 ∷ 0 ∷ 0 ∷ 0 ∷ 1 ∷ 26 ∷ 0 ∷ 0 ∷ 0 ∷ 0 ∷ 0 ∷ 0 ∷ 0 ∷ 0 ∷ 0 ∷ 0 ∷ 7 ∷ 12 ∷ 0 ∷ 1 ∷ 5 ∷ 0 ∷ 0 ∷ 0 ∷ 0 ∷ 0 ∷ 0 ∷ 0 ∷ 7 ∷ 9 ∷ 13 ∷ 2 ∷ 5 ∷ 0 ∷ 0 ∷ 0 ∷ 0 ∷ 0 ∷ 0 ∷ 0 ∷ 2 ∷ 0 ∷ 3 ∷ 3 ∷ 5 ∷ 0 ∷ 0 ∷ 0 ∷ 0 ∷ 0 ∷ 0 ∷ 0 ∷ 8 ∷ 15 ∷ 0 ∷ 4 ∷ 8 ∷ 0 ∷ 0 ∷ 0 ∷ 0 ∷ 0 ∷ 0 ∷ 0 ∷ 1 ∷ 28 ∷ 0 ∷ 0 ∷ 0 ∷ 0 ∷ 0 ∷ 0 ∷ 0 ∷ 0 ∷ 0 ∷ 0 ∷ 1 ∷ 31 ∷ 0 ∷ 0 ∷ 0 ∷ 0 ∷ 0 ∷ 0 ∷ 0 ∷ 0 ∷ 0 ∷ 0 ∷ 1 ∷ 33 ∷ 0 ∷ 0 ∷ 0 ∷ 0 ∷ 0 ∷ 0 ∷ 0 ∷ 0 ∷ 0 ∷ 0 ∷ 1 ∷ 34 ∷ 0 ∷ 0 ∷ 0 ∷ 0 ∷ 0 ∷ 0 ∷ 0 ∷ 0 ∷ 0 ∷ 0 ∷ 7 ∷ 16 ∷ 19 ∷ 5 ∷ 34 ∷ 0 ∷ 0 ∷ 0 ∷ 0 ∷ 0 ∷ 0 ∷ 0 ∷ 7 ∷ 20 ∷ 21 ∷ 6 ∷ 35 ∷ 0 ∷ 0 ∷ 0 ∷ 0 ∷ 0 ∷ 0 ∷ 0 ∷ 8 ∷ 22 ∷ 0 ∷ 7 ∷ 8 ∷ [])
    (3 ∷ 6 ∷ 14 ∷ [])
    ([])
    -- budget 9
    ∷ book
    (record { sp = 40; spp = 120; states = 240; members = 40; transitions = 60; pending = 60; scratch = 6144; output = 400 })
    "fields 3 budget 0\ndup\ntest 1 0\ntest 0 0\nseq 0 2\nseq 1 3\nseq 4 4\nset 2 1\ntest 2 0\nseq 0 7\nseq 6 8\ntest 2 0\nor 8 10\nxor 10 7\npruned 12\nempty 12\n"
    0 0 "fields 3\npruned 12 0\nempty 12 spent 0\n"
    (0 ∷ 0 ∷ 2 ∷ 2 ∷ 4 ∷ 4 ∷ [])
    (0 ∷ 0 ∷ 0 ∷ 0 ∷ 2 ∷ 2 ∷ 2 ∷ 2 ∷ 3 ∷ 3 ∷ 3 ∷ 3 ∷ 1 ∷ 0 ∷ 0 ∷ 1 ∷ 5 ∷ 2 ∷ 2 ∷ 5 ∷ 6 ∷ 3 ∷ 3 ∷ 6 ∷ 1 ∷ 1 ∷ 1 ∷ 1 ∷ 8 ∷ 8 ∷ 8 ∷ 8 ∷ 9 ∷ 9 ∷ 9 ∷ 9 ∷ 5 ∷ 2 ∷ 2 ∷ 2 ∷ 11 ∷ 3 ∷ 3 ∷ 11 ∷ 6 ∷ 3 ∷ 3 ∷ 3 ∷ 0 ∷ 1 ∷ 0 ∷ 1 ∷ 14 ∷ 2 ∷ 2 ∷ 14 ∷ 15 ∷ 3 ∷ 3 ∷ 15 ∷ 1 ∷ 0 ∷ 0 ∷ 0 ∷ 17 ∷ 2 ∷ 2 ∷ 17 ∷ 18 ∷ 3 ∷ 3 ∷ 18 ∷ [])
    (9 ∷ 0 ∷ 0 ∷ 0 ∷ 0 ∷ 0 ∷ 0 ∷ 0 ∷ 0 ∷ 0 ∷ 0 ∷ 0 ∷ 1 ∷ 12 ∷ 0 ∷ 0 ∷ 0 ∷ 0 ∷ 0 ∷ 0 ∷ 0 ∷ 0 ∷ 0 ∷ 0 ∷ 1 ∷ 13 ∷ 0 ∷ 0 ∷ 0 ∷ 0 ∷ 0 ∷ 0 ∷ 0 ∷ 0 ∷ 0 ∷ 0 ∷ 7 ∷ 0 ∷ 2 ∷ 1 ∷ 0 ∷ 0 ∷ 0 ∷ 0 ∷ 0 ∷ 0 ∷ 0 ∷ 0 ∷ 7 ∷ 1 ∷ 3 ∷ 2 ∷ 0 ∷ 0 ∷ 0 ∷ 0 ∷ 0 ∷ 0 ∷ 0 ∷ 0 ∷ 7 ∷ 2 ∷ 4 ∷ 3 ∷ 0 ∷ 0 ∷ 0 ∷ 0 ∷ 0 ∷ 0 ∷ 0 ∷ 0 ∷ 7 ∷ 0 ∷ 5 ∷ 4 ∷ 0 ∷ 0 ∷ 0 ∷ 0 ∷ 0 ∷ 0 ∷ 0 ∷ 0 ∷ 7 ∷ 1 ∷ 6 ∷ 5 ∷ 0 ∷ 0 ∷ 0 ∷ 0 ∷ 0 ∷ 0 ∷ 0 ∷ 0 ∷ 1 ∷ 16 ∷ 0 ∷ 0 ∷ 0 ∷ 0 ∷ 0 ∷ 0 ∷ 0 ∷ 0 ∷ 0 ∷ 0 ∷ 1 ∷ 19 ∷ 0 ∷ 0 ∷ 0 ∷ 0 ∷ 0 ∷ 0 ∷ 0 ∷ 0 ∷ 0 ∷ 0 ∷ 7 ∷ 0 ∷ 9 ∷ 1 ∷ 0 ∷ 0 ∷ 0 ∷ 0 ∷ 0 ∷ 0 ∷ 0 ∷ 0 ∷ 7 ∷ 8 ∷ 10 ∷ 2 ∷ 0 ∷ 0 ∷ 0 ∷ 0 ∷ 0 ∷ 0 ∷ 0 ∷ 0 ∷ 2 ∷ 0 ∷ 2 ∷ 2 ∷ 0 ∷ 0 ∷ 0 ∷ 0 ∷ 0 ∷ 0 ∷ 0 ∷ 0 ∷ 1 ∷ 4 ∷ 0 ∷ 0 ∷ 0 ∷ 0 ∷ 1 ∷ 7 ∷ [])
    (9 ∷ 10 ∷ [])
    ([])
    -- budget 12
    ∷ book
    (record { sp = 40; spp = 120; states = 300; members = 40; transitions = 60; pending = 60; scratch = 6144; output = 400 })
    "fields 3 budget 0\ndup\ntest 0 1\ntest 0 1\nseq 0 2\nseq 1 3\nstar 4\nseq 3 0\nand 3 1\nunion 1 5 4\nseq 3 2\npruned 3\nor 8 2\nlive 7\npruned 8\nunion\nuntil 11 11\nempty 8\nlive 15\npruned 14\n"
    0 0 "fields 3\npruned 3 1\npair 1 4\nlive 7 0 0\npruned 8 1\npair 12 4\nempty 8 spent 0\nlive 15 8 1000\npruned 14 0\n"
    (0 ∷ 0 ∷ 2 ∷ 2 ∷ 4 ∷ 4 ∷ 4 ∷ 5 ∷ [])
    (0 ∷ 0 ∷ 0 ∷ 0 ∷ 2 ∷ 2 ∷ 2 ∷ 2 ∷ 3 ∷ 3 ∷ 3 ∷ 3 ∷ 1 ∷ 0 ∷ 0 ∷ 1 ∷ 5 ∷ 2 ∷ 2 ∷ 5 ∷ 6 ∷ 3 ∷ 3 ∷ 6 ∷ 1 ∷ 1 ∷ 1 ∷ 1 ∷ 8 ∷ 8 ∷ 8 ∷ 8 ∷ 9 ∷ 9 ∷ 9 ∷ 9 ∷ 3 ∷ 3 ∷ 3 ∷ 6 ∷ 3 ∷ 9 ∷ 3 ∷ 9 ∷ [])
    (9 ∷ 0 ∷ 0 ∷ 0 ∷ 5 ∷ 0 ∷ 2 ∷ 0 ∷ 0 ∷ 0 ∷ 0 ∷ 0 ∷ 1 ∷ 11 ∷ 0 ∷ 0 ∷ 0 ∷ 1 ∷ 1 ∷ 9 ∷ 0 ∷ 0 ∷ 0 ∷ 0 ∷ 7 ∷ 0 ∷ 1 ∷ 1 ∷ 5 ∷ 1 ∷ 2 ∷ 9 ∷ 0 ∷ 0 ∷ 0 ∷ 0 ∷ 7 ∷ 1 ∷ 2 ∷ 2 ∷ 5 ∷ 2 ∷ 2 ∷ 0 ∷ 0 ∷ 0 ∷ 0 ∷ 0 ∷ 8 ∷ 3 ∷ 0 ∷ 3 ∷ 8 ∷ 3 ∷ 2 ∷ 0 ∷ 0 ∷ 0 ∷ 0 ∷ 0 ∷ 7 ∷ 1 ∷ 0 ∷ 1 ∷ 0 ∷ 0 ∷ 0 ∷ 0 ∷ 0 ∷ 0 ∷ 0 ∷ 0 ∷ 7 ∷ 0 ∷ 5 ∷ 2 ∷ 0 ∷ 0 ∷ 0 ∷ 0 ∷ 0 ∷ 0 ∷ 0 ∷ 0 ∷ 3 ∷ 0 ∷ 2 ∷ 2 ∷ 5 ∷ 2 ∷ 1 ∷ 7 ∷ 0 ∷ 0 ∷ 0 ∷ 0 ∷ 2 ∷ 2 ∷ 3 ∷ 4 ∷ 8 ∷ 4 ∷ 2 ∷ 8 ∷ 0 ∷ 0 ∷ 0 ∷ 0 ∷ 1 ∷ 7 ∷ 0 ∷ 0 ∷ 0 ∷ 0 ∷ 0 ∷ 0 ∷ 0 ∷ 0 ∷ 0 ∷ 0 ∷ 1 ∷ 4 ∷ 0 ∷ 0 ∷ 0 ∷ 12 ∷ 1 ∷ 7 ∷ 0 ∷ 0 ∷ 0 ∷ 0 ∷ 7 ∷ 1 ∷ 4 ∷ 4 ∷ 12 ∷ 5 ∷ 2 ∷ 9 ∷ 0 ∷ 0 ∷ 0 ∷ 0 ∷ 2 ∷ 5 ∷ 2 ∷ 5 ∷ 12 ∷ 6 ∷ 2 ∷ 9 ∷ 0 ∷ 0 ∷ 0 ∷ 0 ∷ 11 ∷ 8 ∷ 8 ∷ 5 ∷ 8 ∷ 7 ∷ 2 ∷ 8 ∷ 0 ∷ 0 ∷ 0 ∷ 0 ∷ 3 ∷ 7 ∷ 2 ∷ 6 ∷ 12 ∷ 8 ∷ 1 ∷ 0 ∷ 0 ∷ 0 ∷ 0 ∷ 0 ∷ 3 ∷ 9 ∷ 2 ∷ 6 ∷ 12 ∷ 8 ∷ 2 ∷ 0 ∷ 0 ∷ 0 ∷ 0 ∷ 0 ∷ 2 ∷ 11 ∷ 2 ∷ 7 ∷ 0 ∷ 0 ∷ 0 ∷ 0 ∷ 0 ∷ 0 ∷ 0 ∷ 0 ∷ 2 ∷ 13 ∷ 4 ∷ 7 ∷ 12 ∷ 9 ∷ 2 ∷ 9 ∷ 0 ∷ 0 ∷ 0 ∷ 0 ∷ 3 ∷ 17 ∷ 2 ∷ 5 ∷ 12 ∷ 10 ∷ 1 ∷ 0 ∷ 0 ∷ 0 ∷ 0 ∷ 0 ∷ 3 ∷ 19 ∷ 1 ∷ 5 ∷ 12 ∷ 10 ∷ 2 ∷ 0 ∷ 0 ∷ 0 ∷ 0 ∷ 0 ∷ 3 ∷ 20 ∷ 3 ∷ 6 ∷ 12 ∷ 11 ∷ 1 ∷ 0 ∷ 0 ∷ 0 ∷ 0 ∷ 0 ∷ 2 ∷ 23 ∷ 4 ∷ 7 ∷ 0 ∷ 0 ∷ 0 ∷ 0 ∷ 0 ∷ 0 ∷ 0 ∷ 0 ∷ 2 ∷ 27 ∷ 5 ∷ 7 ∷ 12 ∷ 11 ∷ 2 ∷ 9 ∷ [])
    (2 ∷ 1 ∷ 1 ∷ 3 ∷ 4 ∷ 1 ∷ 11 ∷ 13 ∷ 1 ∷ 11 ∷ 13 ∷ 14 ∷ 15 ∷ 1 ∷ 11 ∷ 14 ∷ 15 ∷ 11 ∷ 1 ∷ 11 ∷ 11 ∷ 13 ∷ 1 ∷ 15 ∷ 18 ∷ 19 ∷ 20 ∷ 11 ∷ 15 ∷ 18 ∷ 19 ∷ 20 ∷ [])
    (9 ∷ 7 ∷ 1 ∷ 7 ∷ 1 ∷ 11 ∷ 11 ∷ 11 ∷ 12 ∷ 11 ∷ 11 ∷ 11 ∷ 11 ∷ 11 ∷ 17 ∷ 11 ∷ 21 ∷ 11 ∷ 22 ∷ 11 ∷ 11 ∷ 11 ∷ 22 ∷ 11 ∷ [])
    -- budget 14
    ∷ book
    (record { sp = 40; spp = 120; states = 240; members = 40; transitions = 60; pending = 60; scratch = 6144; output = 400 })
    "fields 3 budget 0\ndup\ntest 2 0\ntest 0 0\nseq 0 2\nseq 1 3\nstar 4\nxor 5 5\nzero\ndup\nlive 6\nlive 5\nlive 6\nempty 8\n"
    0 0 "fields 3\nlive 6 0 0\nlive 5 8 1000\nlive 6 0 0\nempty 8 spent 0\n"
    (0 ∷ 0 ∷ 2 ∷ 2 ∷ 4 ∷ 4 ∷ 4 ∷ 5 ∷ 0 ∷ 1 ∷ 10 ∷ 10 ∷ 12 ∷ 5 ∷ [])
    (0 ∷ 0 ∷ 0 ∷ 0 ∷ 2 ∷ 2 ∷ 2 ∷ 2 ∷ 3 ∷ 3 ∷ 3 ∷ 3 ∷ 1 ∷ 0 ∷ 0 ∷ 1 ∷ 5 ∷ 2 ∷ 2 ∷ 5 ∷ 6 ∷ 3 ∷ 3 ∷ 6 ∷ 1 ∷ 1 ∷ 1 ∷ 1 ∷ 8 ∷ 8 ∷ 8 ∷ 8 ∷ 9 ∷ 9 ∷ 9 ∷ 9 ∷ 1 ∷ 0 ∷ 0 ∷ 0 ∷ 11 ∷ 2 ∷ 2 ∷ 11 ∷ 12 ∷ 3 ∷ 3 ∷ 12 ∷ 6 ∷ 3 ∷ 3 ∷ 3 ∷ 12 ∷ 3 ∷ 3 ∷ 3 ∷ [])
    (9 ∷ 0 ∷ 0 ∷ 0 ∷ 5 ∷ 0 ∷ 2 ∷ 0 ∷ 0 ∷ 0 ∷ 0 ∷ 0 ∷ 1 ∷ 13 ∷ 0 ∷ 0 ∷ 0 ∷ 0 ∷ 1 ∷ 0 ∷ 0 ∷ 0 ∷ 0 ∷ 0 ∷ 1 ∷ 14 ∷ 0 ∷ 0 ∷ 0 ∷ 1 ∷ 1 ∷ 0 ∷ 0 ∷ 0 ∷ 0 ∷ 0 ∷ 7 ∷ 0 ∷ 2 ∷ 1 ∷ 5 ∷ 1 ∷ 2 ∷ 0 ∷ 0 ∷ 0 ∷ 0 ∷ 0 ∷ 7 ∷ 1 ∷ 3 ∷ 2 ∷ 5 ∷ 2 ∷ 2 ∷ 0 ∷ 0 ∷ 0 ∷ 0 ∷ 0 ∷ 8 ∷ 4 ∷ 0 ∷ 3 ∷ 8 ∷ 3 ∷ 2 ∷ 8 ∷ 0 ∷ 0 ∷ 0 ∷ 0 ∷ 1 ∷ 4 ∷ 0 ∷ 0 ∷ 0 ∷ 0 ∷ 1 ∷ 7 ∷ 0 ∷ 0 ∷ 0 ∷ 0 ∷ 1 ∷ 7 ∷ 0 ∷ 0 ∷ 0 ∷ 0 ∷ 0 ∷ 0 ∷ 0 ∷ 0 ∷ 0 ∷ 0 ∷ 7 ∷ 2 ∷ 5 ∷ 4 ∷ 15 ∷ 4 ∷ 2 ∷ 10 ∷ [])
    ([])
    (7 ∷ 7 ∷ 2 ∷ 7 ∷ 2 ∷ 13 ∷ 8 ∷ 13 ∷ 8 ∷ 15 ∷ [])
    -- budget 16
    ∷ book
    (record { sp = 40; spp = 120; states = 240; members = 40; transitions = 60; pending = 60; scratch = 6144; output = 400 })
    "fields 3 budget 0\ndup\ntest 2 1\nset 0 1\nseq 0 2\nseq 1 3\nset 1 1\ntest 2 1\nseq 0 6\nseq 5 7\nstar 8\nstar 8\nunion 6\nset 2 0\nnot 12\npruned 12\nempty 13\npruned 2\n"
    0 0 "fields 3\npruned 12 0\nempty 13 spent 0\npruned 2 0\n"
    (0 ∷ 0 ∷ 2 ∷ 2 ∷ 4 ∷ 4 ∷ [])
    (0 ∷ 0 ∷ 0 ∷ 0 ∷ 2 ∷ 2 ∷ 2 ∷ 2 ∷ 3 ∷ 3 ∷ 3 ∷ 3 ∷ 1 ∷ 0 ∷ 0 ∷ 1 ∷ 5 ∷ 2 ∷ 2 ∷ 5 ∷ 6 ∷ 3 ∷ 3 ∷ 6 ∷ 1 ∷ 1 ∷ 1 ∷ 1 ∷ 8 ∷ 8 ∷ 8 ∷ 8 ∷ 9 ∷ 9 ∷ 9 ∷ 9 ∷ 0 ∷ 0 ∷ 0 ∷ 1 ∷ 11 ∷ 2 ∷ 2 ∷ 11 ∷ 12 ∷ 3 ∷ 3 ∷ 12 ∷ 3 ∷ 6 ∷ 3 ∷ 6 ∷ 2 ∷ 5 ∷ 2 ∷ 5 ∷ 15 ∷ 3 ∷ 3 ∷ 15 ∷ 1 ∷ 0 ∷ 1 ∷ 0 ∷ 17 ∷ 2 ∷ 2 ∷ 17 ∷ 18 ∷ 3 ∷ 3 ∷ 18 ∷ [])
    (9 ∷ 0 ∷ 0 ∷ 0 ∷ 0 ∷ 0 ∷ 0 ∷ 0 ∷ 0 ∷ 0 ∷ 0 ∷ 0 ∷ 1 ∷ 13 ∷ 0 ∷ 0 ∷ 0 ∷ 0 ∷ 0 ∷ 0 ∷ 0 ∷ 0 ∷ 0 ∷ 0 ∷ 1 ∷ 14 ∷ 0 ∷ 0 ∷ 0 ∷ 0 ∷ 1 ∷ 8 ∷ 0 ∷ 0 ∷ 0 ∷ 0 ∷ 7 ∷ 0 ∷ 2 ∷ 1 ∷ 0 ∷ 0 ∷ 0 ∷ 0 ∷ 0 ∷ 0 ∷ 0 ∷ 0 ∷ 7 ∷ 1 ∷ 3 ∷ 2 ∷ 0 ∷ 0 ∷ 0 ∷ 0 ∷ 0 ∷ 0 ∷ 0 ∷ 0 ∷ 1 ∷ 16 ∷ 0 ∷ 0 ∷ 0 ∷ 0 ∷ 0 ∷ 0 ∷ 0 ∷ 0 ∷ 0 ∷ 0 ∷ 7 ∷ 0 ∷ 1 ∷ 1 ∷ 0 ∷ 0 ∷ 0 ∷ 0 ∷ 0 ∷ 0 ∷ 0 ∷ 0 ∷ 7 ∷ 5 ∷ 6 ∷ 2 ∷ 0 ∷ 0 ∷ 0 ∷ 0 ∷ 0 ∷ 0 ∷ 0 ∷ 0 ∷ 8 ∷ 7 ∷ 0 ∷ 3 ∷ 0 ∷ 0 ∷ 0 ∷ 0 ∷ 0 ∷ 0 ∷ 0 ∷ 0 ∷ 1 ∷ 19 ∷ 0 ∷ 0 ∷ 0 ∷ 0 ∷ 1 ∷ 8 ∷ 0 ∷ 0 ∷ 0 ∷ 0 ∷ 6 ∷ 9 ∷ 0 ∷ 1 ∷ [])
    ([])
    ([])
    -- budget 18
    ∷ book
    (record { sp = 40; spp = 120; states = 360; members = 40; transitions = 60; pending = 60; scratch = 6144; output = 400 })
    "fields 1 budget 2\ndup\ntest 0 1\none\nseq 2 0\nseq 1 3\ntest 0 1\none\nseq 6 0\nseq 5 7\ntest 0 1\nset 0 0\nseq 10 0\nseq 9 11\nor 4 8\nor 13 12\nstar 14\ntest 0 0\ntest 0 0\nseq 0 17\nseq 15 18\nseq 16 19\ntest 0 0\nset 0 1\nseq 0 22\nseq 21 23\ntest 0 0\none\nseq 26 0\nseq 25 27\nor 24 28\nstar 29\ntest 0 1\ntest 0 0\nseq 0 32\nseq 30 33\nseq 31 34\nminus 20 35\nempty 20\npruned 35\nempty 36\n"
    0 0 "fields 1\nempty 20 no 2\npruned 35 0\nempty 36 no 2\n"
    (0 ∷ 0 ∷ 0 ∷ 1 ∷ [])
    (0 ∷ 0 ∷ 0 ∷ 0 ∷ 1 ∷ 0 ∷ 0 ∷ 1 ∷ 1 ∷ 1 ∷ 1 ∷ 1 ∷ 0 ∷ 0 ∷ 0 ∷ 1 ∷ 1 ∷ 0 ∷ 1 ∷ 0 ∷ 1 ∷ 0 ∷ 0 ∷ 0 ∷ 0 ∷ 1 ∷ 0 ∷ 1 ∷ 0 ∷ 0 ∷ 1 ∷ 0 ∷ 0 ∷ 0 ∷ 1 ∷ 1 ∷ 1 ∷ 1 ∷ 0 ∷ 1 ∷ [])
    (9 ∷ 0 ∷ 0 ∷ 0 ∷ 3 ∷ 0 ∷ 2 ∷ 0 ∷ 0 ∷ 0 ∷ 0 ∷ 0 ∷ 1 ∷ 5 ∷ 0 ∷ 0 ∷ 0 ∷ 0 ∷ 1 ∷ 0 ∷ 0 ∷ 0 ∷ 0 ∷ 0 ∷ 1 ∷ 3 ∷ 0 ∷ 0 ∷ 0 ∷ 0 ∷ 0 ∷ 0 ∷ 0 ∷ 0 ∷ 0 ∷ 0 ∷ 7 ∷ 1 ∷ 0 ∷ 1 ∷ 3 ∷ 1 ∷ 2 ∷ 0 ∷ 0 ∷ 0 ∷ 0 ∷ 0 ∷ 1 ∷ 6 ∷ 0 ∷ 0 ∷ 0 ∷ 2 ∷ 1 ∷ 0 ∷ 0 ∷ 0 ∷ 0 ∷ 0 ∷ 7 ∷ 4 ∷ 0 ∷ 1 ∷ 3 ∷ 2 ∷ 2 ∷ 0 ∷ 0 ∷ 0 ∷ 0 ∷ 0 ∷ 7 ∷ 1 ∷ 5 ∷ 2 ∷ 3 ∷ 3 ∷ 2 ∷ 0 ∷ 0 ∷ 0 ∷ 0 ∷ 0 ∷ 2 ∷ 0 ∷ 2 ∷ 3 ∷ 3 ∷ 4 ∷ 2 ∷ 0 ∷ 0 ∷ 0 ∷ 0 ∷ 0 ∷ 8 ∷ 7 ∷ 0 ∷ 4 ∷ 4 ∷ 5 ∷ 2 ∷ 0 ∷ 0 ∷ 0 ∷ 0 ∷ 0 ∷ 1 ∷ 7 ∷ 0 ∷ 0 ∷ 0 ∷ 0 ∷ 1 ∷ 6 ∷ 0 ∷ 0 ∷ 0 ∷ 0 ∷ 7 ∷ 0 ∷ 9 ∷ 1 ∷ 3 ∷ 6 ∷ 2 ∷ 0 ∷ 0 ∷ 0 ∷ 0 ∷ 0 ∷ 7 ∷ 8 ∷ 10 ∷ 5 ∷ 3 ∷ 7 ∷ 4 ∷ 0 ∷ 0 ∷ 0 ∷ 0 ∷ 0 ∷ 7 ∷ 9 ∷ 11 ∷ 6 ∷ 3 ∷ 10 ∷ 2 ∷ 0 ∷ 0 ∷ 0 ∷ 0 ∷ 0 ∷ 1 ∷ 8 ∷ 0 ∷ 0 ∷ 0 ∷ 11 ∷ 1 ∷ 0 ∷ 0 ∷ 0 ∷ 0 ∷ 0 ∷ 7 ∷ 0 ∷ 13 ∷ 1 ∷ 3 ∷ 11 ∷ 2 ∷ 0 ∷ 0 ∷ 0 ∷ 0 ∷ 0 ∷ 7 ∷ 9 ∷ 14 ∷ 2 ∷ 3 ∷ 12 ∷ 2 ∷ 0 ∷ 0 ∷ 0 ∷ 0 ∷ 0 ∷ 7 ∷ 9 ∷ 0 ∷ 1 ∷ 3 ∷ 13 ∷ 2 ∷ 0 ∷ 0 ∷ 0 ∷ 0 ∷ 0 ∷ 2 ∷ 2 ∷ 2 ∷ 3 ∷ 3 ∷ 14 ∷ 2 ∷ 0 ∷ 0 ∷ 0 ∷ 0 ∷ 0 ∷ 8 ∷ 17 ∷ 0 ∷ 4 ∷ 4 ∷ 15 ∷ 2 ∷ 0 ∷ 0 ∷ 0 ∷ 0 ∷ 0 ∷ 7 ∷ 18 ∷ 10 ∷ 5 ∷ 3 ∷ 16 ∷ 3 ∷ 0 ∷ 0 ∷ 0 ∷ 0 ∷ 0 ∷ 7 ∷ 1 ∷ 19 ∷ 6 ∷ 3 ∷ 18 ∷ 2 ∷ 3 ∷ 0 ∷ 0 ∷ 0 ∷ 0 ∷ 5 ∷ 12 ∷ 20 ∷ 7 ∷ 3 ∷ 19 ∷ 2 ∷ 0 ∷ 0 ∷ 0 ∷ 0 ∷ 0 ∷ 1 ∷ 2 ∷ 0 ∷ 0 ∷ 0 ∷ 0 ∷ 0 ∷ 0 ∷ 0 ∷ 0 ∷ 0 ∷ 0 ∷ 2 ∷ 4 ∷ 2 ∷ 6 ∷ 0 ∷ 0 ∷ 0 ∷ 0 ∷ 0 ∷ 0 ∷ 0 ∷ 0 ∷ 1 ∷ 11 ∷ 0 ∷ 0 ∷ 0 ∷ 0 ∷ 0 ∷ 0 ∷ 0 ∷ 0 ∷ 0 ∷ 0 ∷ 7 ∷ 24 ∷ 18 ∷ 5 ∷ 0 ∷ 0 ∷ 0 ∷ 0 ∷ 0 ∷ 0 ∷ 0 ∷ 0 ∷ 7 ∷ 24 ∷ 19 ∷ 6 ∷ 0 ∷ 0 ∷ 0 ∷ 0 ∷ 0 ∷ 0 ∷ 0 ∷ 0 ∷ 2 ∷ 6 ∷ 2 ∷ 7 ∷ [])
    (3 ∷ 6 ∷ 15 ∷ 16 ∷ 9 ∷ 11 ∷ 9 ∷ 26 ∷ [])
    (2 ∷ 3 ∷ 2 ∷ 5 ∷ 2 ∷ 6 ∷ 2 ∷ 9 ∷ 2 ∷ 10 ∷ 8 ∷ 10 ∷ 9 ∷ 3 ∷ 9 ∷ 7 ∷ 11 ∷ 9 ∷ 23 ∷ 5 ∷ 9 ∷ 7 ∷ 13 ∷ 3 ∷ 13 ∷ 7 ∷ 2 ∷ 7 ∷ 24 ∷ 7 ∷ 25 ∷ 7 ∷ 9 ∷ 5 ∷ 27 ∷ 7 ∷ 9 ∷ 5 ∷ 9 ∷ 7 ∷ [])
    -- budget 19
    ∷ book
    (record { sp = 40; spp = 120; states = 240; members = 40; transitions = 60; pending = 60; scratch = 6144; output = 400 })
    "fields 1 budget 1\ntop\nseq 0 0\nlive 1\nempty 1\n"
    0 0 "fields 1\nlive 1 2 1000\nempty 1 no 1\n"
    ([])
    (0 ∷ 0 ∷ 0 ∷ 0 ∷ 1 ∷ 0 ∷ 0 ∷ 1 ∷ 1 ∷ 1 ∷ 1 ∷ 1 ∷ [])
    (12 ∷ 0 ∷ 0 ∷ 0 ∷ 5 ∷ 0 ∷ 2 ∷ 4 ∷ 0 ∷ 0 ∷ 0 ∷ 0 ∷ 1 ∷ 2 ∷ [])
    ([])
    (0 ∷ 4 ∷ [])
    ∷ []

pub all_come_1 : Hold rows_1
unfolding outcome run begin Text.cut Text.words Text.same Text.digits Text.reading Text.number Text.decimal_by Text.decimal Reader.header Reader.find Reader.numbers Reader.exact Reader.parse Reader.giving Reader.resolve Answers.say Answers.share Answers.pair_lines Sp.size Spp.size Spp.assign is_empty Handles.search Handles.run Handles.turn Handles.expand Handles.walk flip Sp.kid Sp.child Sp.same Sp.seek Sp.room Sp.put Sp.intern Sp.mk Sp.exit Sp.join Sp.both Sp.apply Sp.union Sp.complement Sp.difference Sp.is_zero Sp.is_universal Images.fwd_node Images.fwd Images.led_exit Images.push_node Images.push Images.has_exit Images.has_image mk_spp mk_dup mk_top mk_union mk_union_n mk_intersect_n mk_intersect mk_intersect_n_base mk_complement mk_sequence sequence_by sequence_with mk_star mk_until unite meet open_union open_all opened extend each count_all count_one product base bases finish add_relation unite_one meet_one meet_finish add_last intern0 intern1 intern2 intern_l put_l put seek same2 same_at same_l storeMembers nest_l room_s room_m put4 kind_of op1 op2 nest words least rise test Spp.field Spp.apply Spp.exit Spp.each Spp.complement Spp.sequence Spp.seq_exit Spp.product Spp.star Spp.star_exit Spp.blocks Spp.mk Spp.seek Spp.same Spp.kids Spp.kid Spp.room Spp.put Spp.zero_at Spp.one_at Spp.top_at ListSteps.unite ListSteps.enter ListSteps.enter_in ListSteps.place ListSteps.st_singleton ListSteps.split ListSteps.insert ListSteps.insert_each ListSteps.insert_pairs ListSteps.st_union ListSteps.st_intersect ListSteps.cover_all ListSteps.st_complement ListSteps.st_postcompose ListSteps.st_precompose ListSteps.st_intersect_expr epsilon_of set_word keep_epsilon each_of unite_all meet_all epsilon_by_kind epsilon_with epsilon_by epsilon start_of count_of edges flat room_t append list_at keep_list union_all intersect_all sequence_list star_list until_list dup_list top_list delta_by_kind delta_with delta_by delta Sp.constants Spp.constants Spp.zeros Spp.ones Spp.tops enqueue label_to enlarge keep_in explore pull_back pull_from pull_all settle live_anew live_sets live_packets live_of viable prune delta_pruned Images.bwd_node Images.bwd Images.ifwd_node Images.ifwd Images.pull_node Images.pull mk_difference mk_xor ListSteps.subtract_row ListSteps.subtract_rows ListSteps.st_difference ListSteps.st_xor
all_come_1 = (refl, (refl, (refl, (refl, (refl, (refl, (refl, (refl, (refl, (refl, tt))))))))))

abbrev pub rows_2 : List Row
rows_2 =
    -- fields 2
    book
    (record { sp = 40; spp = 120; states = 240; members = 40; transitions = 60; pending = 60; scratch = 6144; output = 400 })
    "fields 2 budget 2\ndup\ntest 0 0\ntest 0 1\nseq 0 2\nseq 1 3\nstar 4\ntest 0 0\nset 1 0\nseq 0 7\nseq 6 8\nuntil 4 4\nset 0 0\nnot 11\ntop\nset 0 1\nunion 14 12\npruned 12\nempty 14\n"
    0 0 "fields 2\npruned 12 1\npair 12 16\nempty 14 no 1\n"
    (0 ∷ 0 ∷ 2 ∷ 2 ∷ [])
    (0 ∷ 0 ∷ 0 ∷ 0 ∷ 2 ∷ 2 ∷ 2 ∷ 2 ∷ 1 ∷ 0 ∷ 0 ∷ 1 ∷ 4 ∷ 2 ∷ 2 ∷ 4 ∷ 1 ∷ 1 ∷ 1 ∷ 1 ∷ 6 ∷ 6 ∷ 6 ∷ 6 ∷ 4 ∷ 2 ∷ 2 ∷ 2 ∷ 2 ∷ 2 ∷ 2 ∷ 4 ∷ 1 ∷ 0 ∷ 1 ∷ 0 ∷ 10 ∷ 2 ∷ 2 ∷ 10 ∷ 4 ∷ 2 ∷ 4 ∷ 2 ∷ 2 ∷ 4 ∷ 2 ∷ 4 ∷ 0 ∷ 1 ∷ 1 ∷ 0 ∷ 14 ∷ 6 ∷ 14 ∷ 6 ∷ [])
    (9 ∷ 0 ∷ 0 ∷ 0 ∷ 0 ∷ 0 ∷ 0 ∷ 0 ∷ 0 ∷ 0 ∷ 0 ∷ 0 ∷ 1 ∷ 8 ∷ 0 ∷ 0 ∷ 0 ∷ 0 ∷ 0 ∷ 0 ∷ 0 ∷ 0 ∷ 0 ∷ 0 ∷ 1 ∷ 9 ∷ 0 ∷ 0 ∷ 0 ∷ 0 ∷ 0 ∷ 0 ∷ 0 ∷ 0 ∷ 0 ∷ 0 ∷ 7 ∷ 0 ∷ 2 ∷ 1 ∷ 0 ∷ 0 ∷ 0 ∷ 0 ∷ 0 ∷ 0 ∷ 0 ∷ 0 ∷ 7 ∷ 1 ∷ 3 ∷ 2 ∷ 0 ∷ 0 ∷ 0 ∷ 0 ∷ 0 ∷ 0 ∷ 0 ∷ 0 ∷ 8 ∷ 4 ∷ 0 ∷ 3 ∷ 0 ∷ 0 ∷ 0 ∷ 0 ∷ 0 ∷ 0 ∷ 0 ∷ 0 ∷ 1 ∷ 11 ∷ 0 ∷ 0 ∷ 0 ∷ 0 ∷ 0 ∷ 0 ∷ 0 ∷ 0 ∷ 0 ∷ 0 ∷ 7 ∷ 0 ∷ 6 ∷ 1 ∷ 0 ∷ 0 ∷ 0 ∷ 0 ∷ 0 ∷ 0 ∷ 0 ∷ 0 ∷ 7 ∷ 1 ∷ 7 ∷ 2 ∷ 0 ∷ 0 ∷ 0 ∷ 0 ∷ 0 ∷ 0 ∷ 0 ∷ 0 ∷ 11 ∷ 4 ∷ 4 ∷ 3 ∷ 0 ∷ 0 ∷ 0 ∷ 0 ∷ 0 ∷ 0 ∷ 0 ∷ 0 ∷ 1 ∷ 12 ∷ 0 ∷ 0 ∷ 0 ∷ 0 ∷ 1 ∷ 0 ∷ 0 ∷ 0 ∷ 0 ∷ 0 ∷ 6 ∷ 10 ∷ 0 ∷ 1 ∷ 16 ∷ 0 ∷ 2 ∷ 6 ∷ 0 ∷ 0 ∷ 0 ∷ 0 ∷ 12 ∷ 0 ∷ 0 ∷ 0 ∷ 8 ∷ 1 ∷ 2 ∷ 6 ∷ 0 ∷ 0 ∷ 0 ∷ 0 ∷ 1 ∷ 13 ∷ 0 ∷ 0 ∷ 0 ∷ 0 ∷ 0 ∷ 0 ∷ 0 ∷ 0 ∷ 0 ∷ 0 ∷ 2 ∷ 0 ∷ 2 ∷ 2 ∷ 0 ∷ 0 ∷ 0 ∷ 0 ∷ 0 ∷ 0 ∷ 0 ∷ 0 ∷ 1 ∷ 3 ∷ [])
    (11 ∷ 13 ∷ [])
    (12 ∷ 7 ∷ 12 ∷ 7 ∷ [])
    -- fields 11
    ∷ book
    (record { sp = 40; spp = 120; states = 240; members = 40; transitions = 60; pending = 60; scratch = 6144; output = 400 })
    "fields 4 budget 5\ndup\ntest 2 1\ntest 2 1\nseq 0 2\nseq 1 3\npruned 4\nminus 1 4\ntest 2 0\nset 2 0\nseq 7 6\nlive 9\nseq 4 3\nempty 4\nlive 0\n"
    0 0 "fields 4\npruned 4 1\npair 1 8\nlive 9 0 0\nempty 4 no 2\nlive 0 16 1000\n"
    (0 ∷ 0 ∷ 2 ∷ 2 ∷ 4 ∷ 4 ∷ 6 ∷ 6 ∷ 2 ∷ 3 ∷ 10 ∷ 10 ∷ 12 ∷ 12 ∷ [])
    (0 ∷ 0 ∷ 0 ∷ 0 ∷ 2 ∷ 2 ∷ 2 ∷ 2 ∷ 3 ∷ 3 ∷ 3 ∷ 3 ∷ 4 ∷ 4 ∷ 4 ∷ 4 ∷ 1 ∷ 0 ∷ 0 ∷ 1 ∷ 6 ∷ 2 ∷ 2 ∷ 6 ∷ 7 ∷ 3 ∷ 3 ∷ 7 ∷ 8 ∷ 4 ∷ 4 ∷ 8 ∷ 1 ∷ 1 ∷ 1 ∷ 1 ∷ 10 ∷ 10 ∷ 10 ∷ 10 ∷ 11 ∷ 11 ∷ 11 ∷ 11 ∷ 12 ∷ 12 ∷ 12 ∷ 12 ∷ 2 ∷ 2 ∷ 2 ∷ 6 ∷ 14 ∷ 3 ∷ 3 ∷ 14 ∷ 15 ∷ 4 ∷ 4 ∷ 15 ∷ 2 ∷ 10 ∷ 2 ∷ 10 ∷ 17 ∷ 17 ∷ 17 ∷ 17 ∷ 18 ∷ 18 ∷ 18 ∷ 18 ∷ 6 ∷ 2 ∷ 2 ∷ 2 ∷ 20 ∷ 3 ∷ 3 ∷ 20 ∷ 21 ∷ 4 ∷ 4 ∷ 21 ∷ 6 ∷ 2 ∷ 6 ∷ 2 ∷ 23 ∷ 3 ∷ 3 ∷ 23 ∷ 24 ∷ 4 ∷ 4 ∷ 24 ∷ [])
    (9 ∷ 0 ∷ 0 ∷ 0 ∷ 6 ∷ 0 ∷ 2 ∷ 10 ∷ 0 ∷ 0 ∷ 0 ∷ 0 ∷ 1 ∷ 16 ∷ 0 ∷ 0 ∷ 0 ∷ 0 ∷ 1 ∷ 15 ∷ 0 ∷ 0 ∷ 0 ∷ 0 ∷ 7 ∷ 0 ∷ 1 ∷ 1 ∷ 6 ∷ 1 ∷ 2 ∷ 0 ∷ 0 ∷ 0 ∷ 0 ∷ 0 ∷ 7 ∷ 1 ∷ 2 ∷ 2 ∷ 6 ∷ 2 ∷ 2 ∷ 15 ∷ 0 ∷ 0 ∷ 0 ∷ 0 ∷ 1 ∷ 9 ∷ 0 ∷ 0 ∷ 0 ∷ 3 ∷ 1 ∷ 10 ∷ 0 ∷ 0 ∷ 0 ∷ 0 ∷ 1 ∷ 5 ∷ 0 ∷ 0 ∷ 0 ∷ 0 ∷ 0 ∷ 0 ∷ 0 ∷ 0 ∷ 0 ∷ 0 ∷ 5 ∷ 1 ∷ 3 ∷ 3 ∷ 17 ∷ 3 ∷ 1 ∷ 0 ∷ 0 ∷ 0 ∷ 0 ∷ 0 ∷ 1 ∷ 22 ∷ 0 ∷ 0 ∷ 0 ∷ 3 ∷ 1 ∷ 0 ∷ 0 ∷ 0 ∷ 0 ∷ 0 ∷ 1 ∷ 25 ∷ 0 ∷ 0 ∷ 0 ∷ 0 ∷ 0 ∷ 0 ∷ 0 ∷ 0 ∷ 0 ∷ 0 ∷ 7 ∷ 7 ∷ 6 ∷ 4 ∷ 6 ∷ 3 ∷ 1 ∷ 9 ∷ 0 ∷ 0 ∷ 0 ∷ 0 ∷ 7 ∷ 0 ∷ 3 ∷ 3 ∷ 0 ∷ 0 ∷ 0 ∷ 0 ∷ 0 ∷ 0 ∷ 0 ∷ 0 ∷ 7 ∷ 1 ∷ 10 ∷ 4 ∷ [])
    ([])
    (4 ∷ 9 ∷ 1 ∷ 9 ∷ 1 ∷ 16 ∷ [])
    -- malformed 0
    ∷ book
    (record { sp = 60; spp = 240; states = 720; members = 200; transitions = 80; pending = 60; scratch = 6144; output = 400 })
    "fields 3 budget 18446744073709551615\ndup\ntest 0 1\ntest 0 0\nseq 0 2\nseq 1 3\nstar\nuntil 4 5\nempty 3\npruned 2\none\nminus 4 6\nempty 3\nxor 10 6\nminus 3 6\nempty 12\ndup\nseq 12 4\npruned 6\npruned 16\n"
    3 7 "fields 3\n"
    ([])
    ([])
    ([])
    ([])
    ([])
    -- malformed 1
    ∷ book
    (record { sp = 60; spp = 240; states = 720; members = 200; transitions = 80; pending = 60; scratch = 6144; output = 400 })
    "fields 1 budget 100\ndup\n set 0 0\nset 0 0\nseq 0 2\nseq 1 3\nseq 4 4\nxor 4 4\nseq 1 6\nempty 6\nempty 7\n"
    3 3 "fields 1\n"
    ([])
    ([])
    ([])
    ([])
    ([])
    -- malformed 2
    ∷ book
    (record { sp = 60; spp = 240; states = 720; members = 200; transitions = 80; pending = 60; scratch = 6144; output = 400 })
    "fields 0 budget 100\ndup\none\nall\nseq 0 2\nseq 1 3\nstar 4\nstar 3\nlive 4 \nand 1 4\nzero\nminus 6 9\nor 2 10\nunion 11 10 9\nor 12 1\nseq 11 0\nlive 11\nseq 1 5\nor 10 8\nminus 17 14\nor 11 13\npruned 1\nempty 18\n"
    3 9 "fields 0\n"
    ([])
    ([])
    ([])
    ([])
    ([])
    -- malformed 3
    ∷ book
    (record { sp = 60; spp = 240; states = 720; members = 200; transitions = 80; pending = 60; scratch = 6144; output = 400 })
    "fields 0 budget 5\ndup\none\none\nseq 0 2\nseq 1 3\none\nALL\nseq 0 6\nseq 5 7\nstar 0\nseq 3 0\nempty 8\nempty 10\nlive 6\npruned 8\n"
    3 8 "fields 0\n"
    ([])
    ([])
    ([])
    ([])
    ([])
    -- malformed 4
    ∷ book
    (record { sp = 60; spp = 240; states = 720; members = 200; transitions = 80; pending = 60; scratch = 6144; output = 400 })
    "fields 3 budget 100\nall\nand 0 0\nempty 0\nnot 0\nlive 0\ntest 0x0 1\nor 1 0\nempty 6\nand 1 6\nxor 3 3\nminus 3 9\nor 3 0\nempty 9\npruned 8\nlive 9\n"
    3 7 "fields 3\nempty 0 no 1\nlive 0 8 1000\n"
    ([])
    ([])
    ([])
    ([])
    ([])
    -- malformed 5
    ∷ book
    (record { sp = 40; spp = 120; states = 288; members = 40; transitions = 60; pending = 60; scratch = 6144; output = 400 })
    "fields 1 budget 10\ndup\ntest 0 1\ntest 0 1\nseq 0 2\nseq 1 3\nseq 4 4\ntest 0 0\ntest 0 1\nseq 0 7\nseq 6 8\nstar 9\ntest 0 1\ntest 0 0\nseq 0 12\nseq 11 13\nseq 9 9\ndup\nset 0 1\nuntil 16 3\nseq 16 10\nminus 10 7\nseq 2 14\ntest 0 0\nempty 21\nempty 21\n"
    0 0 "fields 1\nempty 21 yes 2\nempty 21 yes 2\n"
    (0 ∷ 0 ∷ 0 ∷ 1 ∷ [])
    (0 ∷ 0 ∷ 0 ∷ 0 ∷ 1 ∷ 0 ∷ 0 ∷ 1 ∷ 1 ∷ 1 ∷ 1 ∷ 1 ∷ 0 ∷ 0 ∷ 0 ∷ 1 ∷ 1 ∷ 0 ∷ 0 ∷ 0 ∷ 0 ∷ 1 ∷ 0 ∷ 1 ∷ [])
    (9 ∷ 0 ∷ 0 ∷ 0 ∷ 3 ∷ 0 ∷ 2 ∷ 0 ∷ 0 ∷ 0 ∷ 0 ∷ 0 ∷ 1 ∷ 5 ∷ 0 ∷ 0 ∷ 0 ∷ 0 ∷ 1 ∷ 0 ∷ 0 ∷ 0 ∷ 0 ∷ 0 ∷ 7 ∷ 0 ∷ 1 ∷ 1 ∷ 0 ∷ 0 ∷ 0 ∷ 0 ∷ 0 ∷ 0 ∷ 0 ∷ 0 ∷ 7 ∷ 1 ∷ 2 ∷ 2 ∷ 0 ∷ 0 ∷ 0 ∷ 0 ∷ 0 ∷ 0 ∷ 0 ∷ 0 ∷ 7 ∷ 1 ∷ 3 ∷ 3 ∷ 0 ∷ 0 ∷ 0 ∷ 0 ∷ 0 ∷ 0 ∷ 0 ∷ 0 ∷ 7 ∷ 0 ∷ 4 ∷ 4 ∷ 0 ∷ 0 ∷ 0 ∷ 0 ∷ 0 ∷ 0 ∷ 0 ∷ 0 ∷ 7 ∷ 1 ∷ 5 ∷ 5 ∷ 0 ∷ 0 ∷ 0 ∷ 0 ∷ 0 ∷ 0 ∷ 0 ∷ 0 ∷ 1 ∷ 6 ∷ 0 ∷ 0 ∷ 0 ∷ 1 ∷ 1 ∷ 0 ∷ 0 ∷ 0 ∷ 0 ∷ 0 ∷ 7 ∷ 7 ∷ 2 ∷ 2 ∷ 0 ∷ 0 ∷ 0 ∷ 0 ∷ 0 ∷ 0 ∷ 0 ∷ 0 ∷ 8 ∷ 8 ∷ 0 ∷ 3 ∷ 0 ∷ 0 ∷ 0 ∷ 0 ∷ 0 ∷ 0 ∷ 0 ∷ 0 ∷ 7 ∷ 0 ∷ 7 ∷ 1 ∷ 3 ∷ 1 ∷ 2 ∷ 0 ∷ 0 ∷ 0 ∷ 0 ∷ 0 ∷ 7 ∷ 1 ∷ 10 ∷ 2 ∷ 3 ∷ 2 ∷ 2 ∷ 0 ∷ 0 ∷ 0 ∷ 0 ∷ 0 ∷ 7 ∷ 1 ∷ 8 ∷ 3 ∷ 0 ∷ 0 ∷ 0 ∷ 0 ∷ 0 ∷ 0 ∷ 0 ∷ 0 ∷ 7 ∷ 0 ∷ 12 ∷ 4 ∷ 0 ∷ 0 ∷ 0 ∷ 0 ∷ 0 ∷ 0 ∷ 0 ∷ 0 ∷ 7 ∷ 7 ∷ 13 ∷ 5 ∷ 0 ∷ 0 ∷ 0 ∷ 0 ∷ 0 ∷ 0 ∷ 0 ∷ 0 ∷ 1 ∷ 7 ∷ 0 ∷ 0 ∷ 0 ∷ 0 ∷ 0 ∷ 0 ∷ 0 ∷ 0 ∷ 0 ∷ 0 ∷ 11 ∷ 0 ∷ 2 ∷ 2 ∷ 0 ∷ 0 ∷ 0 ∷ 0 ∷ 0 ∷ 0 ∷ 0 ∷ 0 ∷ 7 ∷ 0 ∷ 9 ∷ 4 ∷ 0 ∷ 0 ∷ 0 ∷ 0 ∷ 0 ∷ 0 ∷ 0 ∷ 0 ∷ 5 ∷ 9 ∷ 1 ∷ 4 ∷ 0 ∷ 0 ∷ 0 ∷ 0 ∷ 0 ∷ 0 ∷ 0 ∷ 0 ∷ 7 ∷ 1 ∷ 11 ∷ 3 ∷ 3 ∷ 3 ∷ 2 ∷ 0 ∷ 0 ∷ 0 ∷ 0 ∷ 0 ∷ 1 ∷ 3 ∷ 0 ∷ 0 ∷ 0 ∷ 0 ∷ 0 ∷ 0 ∷ 0 ∷ 0 ∷ 0 ∷ 0 ∷ 1 ∷ 2 ∷ [])
    ([])
    (20 ∷ 3 ∷ 7 ∷ 3 ∷ 7 ∷ 5 ∷ 7 ∷ 5 ∷ [])
    -- malformed 6
    ∷ book
    (record { sp = 60; spp = 240; states = 720; members = 200; transitions = 80; pending = 60; scratch = 6144; output = 400 })
    "fields 3 budget 18446744073709551615\ndup 3\ntest 2 1\ntest 1 0\nseq 0 2\nseq 1 3\ninter 3 1 3\nempty 2\nempty 1\n"
    3 2 "fields 3\n"
    ([])
    ([])
    ([])
    ([])
    ([])
    -- malformed 7
    ∷ book
    (record { sp = 60; spp = 240; states = 720; members = 200; transitions = 80; pending = 60; scratch = 6144; output = 400 })
    "set 0 0\ntop\npruned 0\nempty 0\nminus 0 0\ntest 0 0\nminus 3 3\nempty 4\nempty 3\n"
    1 1 ""
    ([])
    ([])
    ([])
    ([])
    ([])
    ∷ []

pub all_come_2 : Hold rows_2
unfolding outcome run begin Text.cut Text.words Text.same Text.digits Text.reading Text.number Text.decimal_by Text.decimal Reader.header Reader.find Reader.numbers Reader.exact Reader.parse Reader.giving Reader.resolve Answers.say Answers.share Answers.pair_lines Sp.size Spp.size Spp.assign is_empty Handles.search Handles.run Handles.turn Handles.expand Handles.walk flip Sp.kid Sp.child Sp.same Sp.seek Sp.room Sp.put Sp.intern Sp.mk Sp.exit Sp.join Sp.both Sp.apply Sp.union Sp.complement Sp.difference Sp.is_zero Sp.is_universal Images.fwd_node Images.fwd Images.led_exit Images.push_node Images.push Images.has_exit Images.has_image mk_spp mk_dup mk_top mk_union mk_union_n mk_intersect_n mk_intersect mk_intersect_n_base mk_complement mk_sequence sequence_by sequence_with mk_star mk_until unite meet open_union open_all opened extend each count_all count_one product base bases finish add_relation unite_one meet_one meet_finish add_last intern0 intern1 intern2 intern_l put_l put seek same2 same_at same_l storeMembers nest_l room_s room_m put4 kind_of op1 op2 nest words least rise test Spp.field Spp.apply Spp.exit Spp.each Spp.complement Spp.sequence Spp.seq_exit Spp.product Spp.star Spp.star_exit Spp.blocks Spp.mk Spp.seek Spp.same Spp.kids Spp.kid Spp.room Spp.put Spp.zero_at Spp.one_at Spp.top_at ListSteps.unite ListSteps.enter ListSteps.enter_in ListSteps.place ListSteps.st_singleton ListSteps.split ListSteps.insert ListSteps.insert_each ListSteps.insert_pairs ListSteps.st_union ListSteps.st_intersect ListSteps.cover_all ListSteps.st_complement ListSteps.st_postcompose ListSteps.st_precompose ListSteps.st_intersect_expr epsilon_of set_word keep_epsilon each_of unite_all meet_all epsilon_by_kind epsilon_with epsilon_by epsilon start_of count_of edges flat room_t append list_at keep_list union_all intersect_all sequence_list star_list until_list dup_list top_list delta_by_kind delta_with delta_by delta Sp.constants Spp.constants Spp.zeros Spp.ones Spp.tops enqueue label_to enlarge keep_in explore pull_back pull_from pull_all settle live_anew live_sets live_packets live_of viable prune delta_pruned Images.bwd_node Images.bwd Images.ifwd_node Images.ifwd Images.pull_node Images.pull mk_difference mk_xor ListSteps.subtract_row ListSteps.subtract_rows ListSteps.st_difference ListSteps.st_xor
all_come_2 = (refl, (refl, (refl, (refl, (refl, (refl, (refl, (refl, (refl, (refl, tt))))))))))

abbrev pub rows_3 : List Row
rows_3 =
    -- malformed 8
    book
    (record { sp = 60; spp = 240; states = 720; members = 200; transitions = 80; pending = 60; scratch = 6144; output = 400 })
    "fields 3 budget 20\ntest 3 0\nset 1 0\ntest 0 1\nseq 0 2\nseq 1 3\ntest 2 1\nset 0 0\nseq 0 6\nseq 5 7\ntest 0 1\ntest 0 0\nseq 0 10\nseq 9 11\nseq 8 12\nuntil 11 13\nxor 6 14\nand 10 14\nstar 7\nempty 15\nxor 3 17\ninter 19 4\nxor 14 19\nxor 14 21\ntest 1 1\ninter 21 4\ninter 23 23 23 4 12 22\npruned 21\nempty 24\nempty 25\npruned 14\n"
    5 2 "fields 3\n"
    ([])
    ([])
    ([])
    ([])
    ([])
    -- malformed 9
    ∷ book
    (record { sp = 40; spp = 120; states = 240; members = 40; transitions = 60; pending = 60; scratch = 6144; output = 400 })
    "fields 1 budget 1000000\ndup\ntest 0 0\ntest 0 0\ndup\nseq 0 2\nseq 1 3\nstar 4\ndup\nand 0 5\nempty 1\nuntil 7 4\nempty 7\nempty 3\npruned 6\nlive 6\n"
    0 0 "fields 1\nempty 1 no 1\nempty 7 no 2\nempty 3 no 2\npruned 6 1\npair 9 1\nlive 6 2 1000\n"
    (0 ∷ 0 ∷ 0 ∷ 1 ∷ [])
    (0 ∷ 0 ∷ 0 ∷ 0 ∷ 1 ∷ 0 ∷ 0 ∷ 1 ∷ 1 ∷ 1 ∷ 1 ∷ 1 ∷ 1 ∷ 0 ∷ 0 ∷ 0 ∷ 1 ∷ 0 ∷ 1 ∷ [])
    (9 ∷ 0 ∷ 0 ∷ 0 ∷ 3 ∷ 0 ∷ 2 ∷ 0 ∷ 0 ∷ 0 ∷ 0 ∷ 0 ∷ 1 ∷ 5 ∷ 0 ∷ 0 ∷ 0 ∷ 1 ∷ 1 ∷ 0 ∷ 0 ∷ 0 ∷ 0 ∷ 0 ∷ 7 ∷ 0 ∷ 1 ∷ 1 ∷ 3 ∷ 1 ∷ 2 ∷ 0 ∷ 0 ∷ 0 ∷ 0 ∷ 0 ∷ 7 ∷ 1 ∷ 0 ∷ 1 ∷ 0 ∷ 0 ∷ 0 ∷ 0 ∷ 0 ∷ 0 ∷ 0 ∷ 0 ∷ 8 ∷ 2 ∷ 0 ∷ 2 ∷ 4 ∷ 2 ∷ 2 ∷ 4 ∷ 0 ∷ 0 ∷ 0 ∷ 0 ∷ 3 ∷ 0 ∷ 2 ∷ 2 ∷ 0 ∷ 0 ∷ 0 ∷ 0 ∷ 0 ∷ 0 ∷ 0 ∷ 0 ∷ 11 ∷ 0 ∷ 2 ∷ 2 ∷ 0 ∷ 0 ∷ 0 ∷ 0 ∷ 0 ∷ 0 ∷ 0 ∷ 0 ∷ 1 ∷ 3 ∷ 0 ∷ 0 ∷ 0 ∷ 0 ∷ 0 ∷ 0 ∷ 0 ∷ 0 ∷ 0 ∷ 0 ∷ 1 ∷ 2 ∷ 0 ∷ 0 ∷ 0 ∷ 0 ∷ 0 ∷ 0 ∷ 0 ∷ 0 ∷ 0 ∷ 0 ∷ 7 ∷ 1 ∷ 4 ∷ 3 ∷ 6 ∷ 3 ∷ 2 ∷ 6 ∷ [])
    (0 ∷ 3 ∷ [])
    (7 ∷ 3 ∷ 1 ∷ 3 ∷ 9 ∷ 3 ∷ 9 ∷ 5 ∷ [])
    -- malformed 11
    ∷ book
    (record { sp = 60; spp = 240; states = 720; members = 200; transitions = 80; pending = 60; scratch = 6144; output = 400 })
    "fields 2 budget 0\ndup\nset 1 0\nset 0 1\nseq 0 2\nseq 1 3\nstar 4\nset 0 1\ntop dup\nset 1 0\nseq 0 7\nseq 6 8\nxor 9 5\nnot 10\nor 8 11\nseq 9 12\nempty 13\nempty 1\n"
    3 9 "fields 2\n"
    ([])
    ([])
    ([])
    ([])
    ([])
    -- malformed 12
    ∷ book
    (record { sp = 60; spp = 240; states = 720; members = 200; transitions = 80; pending = 60; scratch = 6144; output = 400 })
    "fields 3 budget 1\ndup\ntest 0 1\nset 2 1\nseq 0 2\nseq 1 3\nseq 4 4\nuntil 3 3\nlive 4\nseq 5 5\npruned 4\nempty 8\nempty 3\npruned 5\n\n"
    3 15 "fields 3\nlive 4 4 500\npruned 4 1\npair 2 4\nempty 8 spent 1\nempty 3 spent 1\npruned 5 1\npair 5 4\n"
    ([])
    ([])
    ([])
    ([])
    ([])
    -- malformed 13
    ∷ book
    (record { sp = 60; spp = 240; states = 720; members = 200; transitions = 80; pending = 60; scratch = 6144; output = 400 })
    "fields 3 budget 2\nempty 0\npruned 0\nlive 0\nempty 0\npruned 0\n"
    4 2 "fields 3\n"
    ([])
    ([])
    ([])
    ([])
    ([])
    -- malformed 14
    ∷ book
    (record { sp = 60; spp = 240; states = 720; members = 200; transitions = 80; pending = 60; scratch = 6144; output = 400 })
    "fields 0 budget 3\ndup\none\nall\nseq 0 2\nseq 1 3\none\none\nseq 0 6\nseq 5 7\nstar 8\nand 9 1\ndup\nseq 7 11\nand 3 12\nstar 6\nlive 6\nand 6 14\nuntil 8 8\ntest 0x0 1\nempty 17\n"
    3 20 "fields 0\nlive 6 1 1000\n"
    ([])
    ([])
    ([])
    ([])
    ([])
    -- malformed 15
    ∷ book
    (record { sp = 60; spp = 240; states = 720; members = 200; transitions = 80; pending = 60; scratch = 6144; output = 400 })
    "fields 3 budget 18446744073709551615\ndup\nset 1 1\nset 2 0\nseq 0 2\nseq 1 3\nseq 4\nor 4 4\nseq 6 3\ninter 6 1\nset 2 0\nstar 8\nseq 8 0\nlive 11\n"
    3 7 "fields 3\n"
    ([])
    ([])
    ([])
    ([])
    ([])
    -- malformed 18
    ∷ book
    (record { sp = 60; spp = 240; states = 720; members = 200; transitions = 80; pending = 60; scratch = 6144; output = 400 })
    "fields 1 budget 100\ndup\nset 0 0\ntest 0 1\nseq 0 2\nseq 1 3\ntest 0 0\nset 0 0\nseq 0 6\nseq 5 7\ntest 0 0\nset 0 1\nseq 0 10\nseq 9 11\nstar 12\nuntil 13 13\nset 0 0\npruned 3\nall\ndup\nset 1 1\nempty 14\n"
    5 21 "fields 1\npruned 3 1\npair 2 1\n"
    ([])
    ([])
    ([])
    ([])
    ([])
    -- malformed 19
    ∷ book
    (record { sp = 60; spp = 240; states = 720; members = 200; transitions = 80; pending = 60; scratch = 6144; output = 400 })
    "fields 2 budget 1000000\nset 1 1\nset 0 0\nnot 0\nseq 0 2\nempty 1\ndup\nseq 5 5\nempty 3\ntest 0 0\npruned 8\nset 1 0\none\nnot 8\nor 0,0\npruned 13\nlive 8\nempty 13\n"
    3 15 "fields 2\nempty 1 no 1\nempty 3 no 1\npruned 8 0\n"
    ([])
    ([])
    ([])
    ([])
    ([])
    -- products 3
    ∷ book
    (record { sp = 60; spp = 240; states = 720; members = 200; transitions = 80; pending = 60; scratch = 6144; output = 400 })
    "fields 4 budget 5\ndup\ntest 0 0\nset 0 0\ntest 0 1\nset 0 1\ntest 1 0\nset 1 0\ntest 1 1\nset 1 1\ntest 2 0\nset 2 0\ntest 2 1\nset 2 1\ntest 3 0\nset 3 0\ntest 3 1\nset 3 1\nnot 1\nnot 2\nnot 3\nnot 4\nnot 5\nnot 6\nnot 7\nnot 8\nnot 9\nnot 10\nnot 11\nnot 12\nnot 13\nnot 14\nnot 15\nnot 16\ntop\nunion 28 31\nunion 32 26\nunion 17 24\nunion 32 23\nunion 25 32\nunion 26 29\ninter 36 39 17 38 35 34 37 24\npruned 40\n"
    7 42 "fields 4\n"
    ([])
    ([])
    ([])
    ([])
    ([])
    ∷ []

pub all_come_3 : Hold rows_3
unfolding outcome run begin Text.cut Text.words Text.same Text.digits Text.reading Text.number Text.decimal_by Text.decimal Reader.header Reader.find Reader.numbers Reader.exact Reader.parse Reader.giving Reader.resolve Answers.say Answers.share Answers.pair_lines Sp.size Spp.size Spp.assign is_empty Handles.search Handles.run Handles.turn Handles.expand Handles.walk flip Sp.kid Sp.child Sp.same Sp.seek Sp.room Sp.put Sp.intern Sp.mk Sp.exit Sp.join Sp.both Sp.apply Sp.union Sp.complement Sp.difference Sp.is_zero Sp.is_universal Images.fwd_node Images.fwd Images.led_exit Images.push_node Images.push Images.has_exit Images.has_image mk_spp mk_dup mk_top mk_union mk_union_n mk_intersect_n mk_intersect mk_intersect_n_base mk_complement mk_sequence sequence_by sequence_with mk_star mk_until unite meet open_union open_all opened extend each count_all count_one product base bases finish add_relation unite_one meet_one meet_finish add_last intern0 intern1 intern2 intern_l put_l put seek same2 same_at same_l storeMembers nest_l room_s room_m put4 kind_of op1 op2 nest words least rise test Spp.field Spp.apply Spp.exit Spp.each Spp.complement Spp.sequence Spp.seq_exit Spp.product Spp.star Spp.star_exit Spp.blocks Spp.mk Spp.seek Spp.same Spp.kids Spp.kid Spp.room Spp.put Spp.zero_at Spp.one_at Spp.top_at ListSteps.unite ListSteps.enter ListSteps.enter_in ListSteps.place ListSteps.st_singleton ListSteps.split ListSteps.insert ListSteps.insert_each ListSteps.insert_pairs ListSteps.st_union ListSteps.st_intersect ListSteps.cover_all ListSteps.st_complement ListSteps.st_postcompose ListSteps.st_precompose ListSteps.st_intersect_expr epsilon_of set_word keep_epsilon each_of unite_all meet_all epsilon_by_kind epsilon_with epsilon_by epsilon start_of count_of edges flat room_t append list_at keep_list union_all intersect_all sequence_list star_list until_list dup_list top_list delta_by_kind delta_with delta_by delta Sp.constants Spp.constants Spp.zeros Spp.ones Spp.tops enqueue label_to enlarge keep_in explore pull_back pull_from pull_all settle live_anew live_sets live_packets live_of viable prune delta_pruned Images.bwd_node Images.bwd Images.ifwd_node Images.ifwd Images.pull_node Images.pull mk_difference mk_xor ListSteps.subtract_row ListSteps.subtract_rows ListSteps.st_difference ListSteps.st_xor
all_come_3 = (refl, (refl, (refl, (refl, (refl, (refl, (refl, (refl, (refl, (refl, tt))))))))))

abbrev pub rows_4 : List Row
rows_4 =
    -- products 8
    book
    (record { sp = 40; spp = 236; states = 360; members = 40; transitions = 60; pending = 60; scratch = 6144; output = 400 })
    "fields 3 budget 20\ndup\ntest 0 0\nset 0 0\ntest 0 1\nset 0 1\ntest 1 0\nset 1 0\ntest 1 1\nset 1 1\ntest 2 0\nset 2 0\ntest 2 1\nset 2 1\nnot 1\nnot 2\nnot 3\nnot 4\nnot 5\nnot 6\nnot 7\nnot 8\nnot 9\nnot 10\nnot 11\nnot 12\ntop\nunion 14 18 22 17 23 16 24 13 21 20 15 19\ninter 26\npruned 27\n"
    0 0 "fields 3\npruned 27 1\npair 25 64\n"
    (0 ∷ 0 ∷ 2 ∷ 2 ∷ 4 ∷ 4 ∷ [])
    (0 ∷ 0 ∷ 0 ∷ 0 ∷ 2 ∷ 2 ∷ 2 ∷ 2 ∷ 3 ∷ 3 ∷ 3 ∷ 3 ∷ 1 ∷ 0 ∷ 0 ∷ 1 ∷ 5 ∷ 2 ∷ 2 ∷ 5 ∷ 6 ∷ 3 ∷ 3 ∷ 6 ∷ 1 ∷ 1 ∷ 1 ∷ 1 ∷ 8 ∷ 8 ∷ 8 ∷ 8 ∷ 9 ∷ 9 ∷ 9 ∷ 9 ∷ 6 ∷ 3 ∷ 3 ∷ 3 ∷ 6 ∷ 3 ∷ 6 ∷ 3 ∷ 3 ∷ 3 ∷ 3 ∷ 6 ∷ 3 ∷ 6 ∷ 3 ∷ 6 ∷ 5 ∷ 2 ∷ 2 ∷ 2 ∷ 15 ∷ 3 ∷ 3 ∷ 15 ∷ 5 ∷ 2 ∷ 5 ∷ 2 ∷ 17 ∷ 3 ∷ 3 ∷ 17 ∷ 2 ∷ 2 ∷ 2 ∷ 5 ∷ 19 ∷ 3 ∷ 3 ∷ 19 ∷ 2 ∷ 5 ∷ 2 ∷ 5 ∷ 21 ∷ 3 ∷ 3 ∷ 21 ∷ 1 ∷ 0 ∷ 0 ∷ 0 ∷ 23 ∷ 2 ∷ 2 ∷ 23 ∷ 24 ∷ 3 ∷ 3 ∷ 24 ∷ 1 ∷ 0 ∷ 1 ∷ 0 ∷ 26 ∷ 2 ∷ 2 ∷ 26 ∷ 27 ∷ 3 ∷ 3 ∷ 27 ∷ 0 ∷ 0 ∷ 0 ∷ 1 ∷ 29 ∷ 2 ∷ 2 ∷ 29 ∷ 30 ∷ 3 ∷ 3 ∷ 30 ∷ 0 ∷ 1 ∷ 0 ∷ 1 ∷ 32 ∷ 2 ∷ 2 ∷ 32 ∷ 33 ∷ 3 ∷ 3 ∷ 33 ∷ 0 ∷ 1 ∷ 1 ∷ 0 ∷ 35 ∷ 8 ∷ 8 ∷ 35 ∷ 36 ∷ 9 ∷ 9 ∷ 9 ∷ 36 ∷ 9 ∷ 36 ∷ 9 ∷ 9 ∷ 9 ∷ 9 ∷ 36 ∷ 9 ∷ 36 ∷ 9 ∷ 36 ∷ 35 ∷ 8 ∷ 8 ∷ 8 ∷ 41 ∷ 9 ∷ 9 ∷ 41 ∷ 35 ∷ 8 ∷ 35 ∷ 8 ∷ 43 ∷ 9 ∷ 9 ∷ 43 ∷ 8 ∷ 8 ∷ 8 ∷ 35 ∷ 45 ∷ 9 ∷ 9 ∷ 45 ∷ 8 ∷ 35 ∷ 8 ∷ 35 ∷ 47 ∷ 9 ∷ 9 ∷ 47 ∷ 0 ∷ 1 ∷ 1 ∷ 1 ∷ 49 ∷ 8 ∷ 8 ∷ 49 ∷ 50 ∷ 9 ∷ 9 ∷ 50 ∷ 32 ∷ 8 ∷ 8 ∷ 32 ∷ 52 ∷ 9 ∷ 9 ∷ 52 ∷ 1 ∷ 1 ∷ 1 ∷ 0 ∷ 54 ∷ 8 ∷ 8 ∷ 54 ∷ 55 ∷ 9 ∷ 9 ∷ 55 ∷ 26 ∷ 8 ∷ 8 ∷ 26 ∷ 57 ∷ 9 ∷ 9 ∷ 57 ∷ [])
    (9 ∷ 0 ∷ 0 ∷ 0 ∷ 0 ∷ 0 ∷ 0 ∷ 0 ∷ 0 ∷ 0 ∷ 0 ∷ 0 ∷ 1 ∷ 11 ∷ 0 ∷ 0 ∷ 0 ∷ 0 ∷ 1 ∷ 0 ∷ 0 ∷ 0 ∷ 0 ∷ 0 ∷ 1 ∷ 12 ∷ 0 ∷ 0 ∷ 0 ∷ 1 ∷ 1 ∷ 0 ∷ 0 ∷ 0 ∷ 0 ∷ 0 ∷ 1 ∷ 13 ∷ 0 ∷ 0 ∷ 0 ∷ 2 ∷ 1 ∷ 0 ∷ 0 ∷ 0 ∷ 0 ∷ 0 ∷ 1 ∷ 14 ∷ 0 ∷ 0 ∷ 0 ∷ 3 ∷ 1 ∷ 0 ∷ 0 ∷ 0 ∷ 0 ∷ 0 ∷ 1 ∷ 16 ∷ 0 ∷ 0 ∷ 0 ∷ 4 ∷ 1 ∷ 0 ∷ 0 ∷ 0 ∷ 0 ∷ 0 ∷ 1 ∷ 18 ∷ 0 ∷ 0 ∷ 0 ∷ 5 ∷ 1 ∷ 0 ∷ 0 ∷ 0 ∷ 0 ∷ 0 ∷ 1 ∷ 20 ∷ 0 ∷ 0 ∷ 0 ∷ 6 ∷ 1 ∷ 0 ∷ 0 ∷ 0 ∷ 0 ∷ 0 ∷ 1 ∷ 22 ∷ 0 ∷ 0 ∷ 0 ∷ 7 ∷ 1 ∷ 0 ∷ 0 ∷ 0 ∷ 0 ∷ 0 ∷ 1 ∷ 25 ∷ 0 ∷ 0 ∷ 0 ∷ 8 ∷ 1 ∷ 0 ∷ 0 ∷ 0 ∷ 0 ∷ 0 ∷ 1 ∷ 28 ∷ 0 ∷ 0 ∷ 0 ∷ 9 ∷ 1 ∷ 0 ∷ 0 ∷ 0 ∷ 0 ∷ 0 ∷ 1 ∷ 31 ∷ 0 ∷ 0 ∷ 0 ∷ 10 ∷ 1 ∷ 0 ∷ 0 ∷ 0 ∷ 0 ∷ 0 ∷ 1 ∷ 34 ∷ 0 ∷ 0 ∷ 0 ∷ 11 ∷ 1 ∷ 0 ∷ 0 ∷ 0 ∷ 0 ∷ 0 ∷ 6 ∷ 1 ∷ 0 ∷ 1 ∷ 38 ∷ 0 ∷ 2 ∷ 0 ∷ 0 ∷ 0 ∷ 0 ∷ 0 ∷ 6 ∷ 2 ∷ 0 ∷ 1 ∷ 39 ∷ 1 ∷ 2 ∷ 0 ∷ 0 ∷ 0 ∷ 0 ∷ 0 ∷ 6 ∷ 3 ∷ 0 ∷ 1 ∷ 40 ∷ 2 ∷ 2 ∷ 0 ∷ 0 ∷ 0 ∷ 0 ∷ 0 ∷ 6 ∷ 4 ∷ 0 ∷ 1 ∷ 41 ∷ 3 ∷ 2 ∷ 0 ∷ 0 ∷ 0 ∷ 0 ∷ 0 ∷ 6 ∷ 5 ∷ 0 ∷ 1 ∷ 43 ∷ 4 ∷ 2 ∷ 0 ∷ 0 ∷ 0 ∷ 0 ∷ 0 ∷ 6 ∷ 6 ∷ 0 ∷ 1 ∷ 45 ∷ 5 ∷ 2 ∷ 0 ∷ 0 ∷ 0 ∷ 0 ∷ 0 ∷ 6 ∷ 7 ∷ 0 ∷ 1 ∷ 47 ∷ 6 ∷ 2 ∷ 0 ∷ 0 ∷ 0 ∷ 0 ∷ 0 ∷ 6 ∷ 8 ∷ 0 ∷ 1 ∷ 49 ∷ 7 ∷ 2 ∷ 0 ∷ 0 ∷ 0 ∷ 0 ∷ 0 ∷ 6 ∷ 9 ∷ 0 ∷ 1 ∷ 52 ∷ 8 ∷ 2 ∷ 0 ∷ 0 ∷ 0 ∷ 0 ∷ 0 ∷ 6 ∷ 10 ∷ 0 ∷ 1 ∷ 54 ∷ 9 ∷ 2 ∷ 0 ∷ 0 ∷ 0 ∷ 0 ∷ 0 ∷ 6 ∷ 11 ∷ 0 ∷ 1 ∷ 57 ∷ 10 ∷ 2 ∷ 0 ∷ 0 ∷ 0 ∷ 0 ∷ 0 ∷ 6 ∷ 12 ∷ 0 ∷ 1 ∷ 59 ∷ 11 ∷ 2 ∷ 0 ∷ 0 ∷ 0 ∷ 0 ∷ 0 ∷ 12 ∷ 0 ∷ 0 ∷ 0 ∷ 11 ∷ 13 ∷ 2 ∷ 8 ∷ 0 ∷ 0 ∷ 0 ∷ 0 ∷ 2 ∷ 0 ∷ 12 ∷ 2 ∷ 11 ∷ 12 ∷ 2 ∷ 8 ∷ 0 ∷ 0 ∷ 0 ∷ 0 ∷ 1 ∷ 4 ∷ [])
    (13 ∷ 14 ∷ 15 ∷ 16 ∷ 17 ∷ 18 ∷ 19 ∷ 20 ∷ 21 ∷ 22 ∷ 23 ∷ 24 ∷ [])
    (25 ∷ 10 ∷ 25 ∷ 10 ∷ 25 ∷ 10 ∷ 25 ∷ 10 ∷ 25 ∷ 10 ∷ 25 ∷ 10 ∷ 25 ∷ 10 ∷ 25 ∷ 10 ∷ 25 ∷ 10 ∷ 25 ∷ 10 ∷ 25 ∷ 10 ∷ 25 ∷ 10 ∷ 25 ∷ 10 ∷ 25 ∷ 10 ∷ [])
    -- products 16
    ∷ book
    (record { sp = 60; spp = 240; states = 720; members = 200; transitions = 80; pending = 60; scratch = 6144; output = 400 })
    "fields 4 budget 1\ndup\ntest 0 0\nset 0 0\ntest 0 1\nset 0 1\ntest 1 0\nset 1 0\ntest 1 1\nset 1 1\ntest 2 0\nset 2 0\ntest 2 1\nset 2 1\ntest 3 0\nset 3 0\ntest 3 1\nset 3 1\nnot 1\nnot 2\nnot 3\nnot 4\nnot 5\nnot 6\nnot 7\nnot 8\nnot 9\nnot 10\nnot 11\nnot 12\nnot 13\nnot 14\nnot 15\nnot 16\ntop\nunion 26 31\nunion 21 28\nunion 23 32\nunion 30 24\nunion 20 25\nunion 20 25\ninter 38 39 34 35 36 37\nlive 40\n"
    7 42 "fields 4\n"
    ([])
    ([])
    ([])
    ([])
    ([])
    -- rich 0
    ∷ book
    (record { sp = 40; spp = 120; states = 276; members = 40; transitions = 60; pending = 60; scratch = 6144; output = 400 })
    "fields 2 budget 1\ndup\ntest 1 1\nset 1 0\nseq 0 2\nseq 1 3\nstar 4\nunion 3 5 2 2 4 5\nminus 1 5\nset 0 1\nor 8 7\nand 0 8\nseq 9 2\nor 7 10\nset 1 1\nnot 5\nuntil 0 11\nseq 15 13\nset 0 1\ntest 1 0\ntest 1 0\none\ntest 1 1\nempty 16\nempty 12\nempty 18\nempty 21\n"
    0 0 "fields 2\nempty 16 no 1\nempty 12 yes 1\nempty 18 no 1\nempty 21 no 1\n"
    (0 ∷ 0 ∷ 2 ∷ 2 ∷ [])
    (0 ∷ 0 ∷ 0 ∷ 0 ∷ 2 ∷ 2 ∷ 2 ∷ 2 ∷ 1 ∷ 0 ∷ 0 ∷ 1 ∷ 4 ∷ 2 ∷ 2 ∷ 4 ∷ 1 ∷ 1 ∷ 1 ∷ 1 ∷ 6 ∷ 6 ∷ 6 ∷ 6 ∷ 0 ∷ 0 ∷ 0 ∷ 1 ∷ 8 ∷ 2 ∷ 2 ∷ 8 ∷ 1 ∷ 0 ∷ 1 ∷ 0 ∷ 10 ∷ 2 ∷ 2 ∷ 10 ∷ 2 ∷ 4 ∷ 2 ∷ 4 ∷ 0 ∷ 1 ∷ 0 ∷ 1 ∷ 13 ∷ 2 ∷ 2 ∷ 13 ∷ 1 ∷ 0 ∷ 0 ∷ 0 ∷ 15 ∷ 2 ∷ 2 ∷ 15 ∷ 2 ∷ 10 ∷ 2 ∷ 10 ∷ 2 ∷ 13 ∷ 2 ∷ 13 ∷ [])
    (9 ∷ 0 ∷ 0 ∷ 0 ∷ 4 ∷ 0 ∷ 2 ∷ 0 ∷ 0 ∷ 0 ∷ 0 ∷ 0 ∷ 1 ∷ 9 ∷ 0 ∷ 0 ∷ 0 ∷ 0 ∷ 1 ∷ 0 ∷ 0 ∷ 0 ∷ 0 ∷ 0 ∷ 1 ∷ 11 ∷ 0 ∷ 0 ∷ 0 ∷ 1 ∷ 1 ∷ 0 ∷ 0 ∷ 0 ∷ 0 ∷ 0 ∷ 7 ∷ 0 ∷ 2 ∷ 1 ∷ 4 ∷ 1 ∷ 2 ∷ 0 ∷ 0 ∷ 0 ∷ 0 ∷ 0 ∷ 7 ∷ 1 ∷ 3 ∷ 2 ∷ 4 ∷ 2 ∷ 2 ∷ 0 ∷ 0 ∷ 0 ∷ 0 ∷ 0 ∷ 8 ∷ 4 ∷ 0 ∷ 3 ∷ 6 ∷ 3 ∷ 2 ∷ 0 ∷ 0 ∷ 0 ∷ 0 ∷ 0 ∷ 2 ∷ 0 ∷ 4 ∷ 4 ∷ 0 ∷ 0 ∷ 0 ∷ 0 ∷ 0 ∷ 0 ∷ 0 ∷ 0 ∷ 5 ∷ 1 ∷ 5 ∷ 4 ∷ 4 ∷ 4 ∷ 1 ∷ 0 ∷ 0 ∷ 0 ∷ 0 ∷ 0 ∷ 1 ∷ 12 ∷ 0 ∷ 0 ∷ 0 ∷ 4 ∷ 1 ∷ 0 ∷ 0 ∷ 0 ∷ 0 ∷ 0 ∷ 2 ∷ 4 ∷ 2 ∷ 5 ∷ 13 ∷ 0 ∷ 0 ∷ 0 ∷ 0 ∷ 0 ∷ 0 ∷ 0 ∷ 3 ∷ 6 ∷ 2 ∷ 1 ∷ 4 ∷ 4 ∷ 1 ∷ 0 ∷ 0 ∷ 0 ∷ 0 ∷ 0 ∷ 7 ∷ 9 ∷ 2 ∷ 6 ∷ 18 ∷ 0 ∷ 0 ∷ 0 ∷ 0 ∷ 0 ∷ 0 ∷ 0 ∷ 2 ∷ 8 ∷ 2 ∷ 5 ∷ 4 ∷ 4 ∷ 1 ∷ 0 ∷ 0 ∷ 0 ∷ 0 ∷ 0 ∷ 1 ∷ 14 ∷ 0 ∷ 0 ∷ 0 ∷ 0 ∷ 0 ∷ 0 ∷ 0 ∷ 0 ∷ 0 ∷ 0 ∷ 6 ∷ 5 ∷ 0 ∷ 4 ∷ 0 ∷ 0 ∷ 0 ∷ 0 ∷ 0 ∷ 0 ∷ 0 ∷ 0 ∷ 11 ∷ 0 ∷ 11 ∷ 7 ∷ 18 ∷ 0 ∷ 0 ∷ 0 ∷ 0 ∷ 0 ∷ 0 ∷ 0 ∷ 7 ∷ 15 ∷ 13 ∷ 8 ∷ 19 ∷ 0 ∷ 0 ∷ 0 ∷ 0 ∷ 0 ∷ 0 ∷ 0 ∷ 1 ∷ 16 ∷ 0 ∷ 0 ∷ 0 ∷ 0 ∷ 0 ∷ 0 ∷ 0 ∷ 0 ∷ 0 ∷ 0 ∷ 1 ∷ 5 ∷ 0 ∷ 0 ∷ 0 ∷ 0 ∷ 0 ∷ 0 ∷ 0 ∷ 0 ∷ 0 ∷ 0 ∷ 1 ∷ 3 ∷ 0 ∷ 0 ∷ 0 ∷ 0 ∷ 0 ∷ 0 ∷ 0 ∷ 0 ∷ 0 ∷ 0 ∷ 7 ∷ 2 ∷ 5 ∷ 4 ∷ [])
    (2 ∷ 3 ∷ 4 ∷ 5 ∷ 7 ∷ 8 ∷ 0 ∷ 8 ∷ 7 ∷ 10 ∷ [])
    (18 ∷ 5 ∷ 2 ∷ 5 ∷ 2 ∷ 9 ∷ 20 ∷ 9 ∷ [])
    -- rich 1
    ∷ book
    (record { sp = 40; spp = 168; states = 372; members = 40; transitions = 60; pending = 60; scratch = 6144; output = 400 })
    "fields 3 budget 1000\ndup\nset 0 1\ntest 0 0\nseq 0 2\nseq 1 3\nstar 4\nset 1 0\ntest 1 1\nseq 0 7\nseq 6 8\nxor 9 4\nall\nand 5 7\nstar 12\nnot 13\ntest 1 0\nset 2 1\nnot 16\ninter 9 15\nxor 11 16\nstar 19\ninter 17 10\nempty 20\nempty 19\npruned 21\nlive 14\nlive 2\n"
    0 0 "fields 3\nempty 20 no 1\nempty 19 no 1\npruned 21 0\nlive 14 8 1000\nlive 2 4 500\n"
    (0 ∷ 0 ∷ 2 ∷ 2 ∷ 4 ∷ 4 ∷ 4 ∷ 5 ∷ 2 ∷ 3 ∷ 10 ∷ 10 ∷ 10 ∷ 11 ∷ [])
    (0 ∷ 0 ∷ 0 ∷ 0 ∷ 2 ∷ 2 ∷ 2 ∷ 2 ∷ 3 ∷ 3 ∷ 3 ∷ 3 ∷ 1 ∷ 0 ∷ 0 ∷ 1 ∷ 5 ∷ 2 ∷ 2 ∷ 5 ∷ 6 ∷ 3 ∷ 3 ∷ 6 ∷ 1 ∷ 1 ∷ 1 ∷ 1 ∷ 8 ∷ 8 ∷ 8 ∷ 8 ∷ 9 ∷ 9 ∷ 9 ∷ 9 ∷ 3 ∷ 6 ∷ 3 ∷ 6 ∷ 6 ∷ 3 ∷ 3 ∷ 3 ∷ 5 ∷ 2 ∷ 5 ∷ 2 ∷ 13 ∷ 3 ∷ 3 ∷ 13 ∷ 2 ∷ 2 ∷ 2 ∷ 5 ∷ 15 ∷ 3 ∷ 3 ∷ 15 ∷ 5 ∷ 2 ∷ 2 ∷ 2 ∷ 17 ∷ 3 ∷ 3 ∷ 17 ∷ 0 ∷ 1 ∷ 0 ∷ 1 ∷ 19 ∷ 2 ∷ 2 ∷ 19 ∷ 20 ∷ 3 ∷ 3 ∷ 20 ∷ 1 ∷ 0 ∷ 1 ∷ 0 ∷ 22 ∷ 8 ∷ 8 ∷ 22 ∷ 23 ∷ 9 ∷ 9 ∷ 23 ∷ 1 ∷ 0 ∷ 1 ∷ 1 ∷ 17 ∷ 3 ∷ 3 ∷ 3 ∷ 3 ∷ 3 ∷ 3 ∷ 17 ∷ 3 ∷ 6 ∷ 3 ∷ 15 ∷ 3 ∷ 3 ∷ 3 ∷ 15 ∷ 2 ∷ 2 ∷ 5 ∷ 2 ∷ 13 ∷ 3 ∷ 3 ∷ 30 ∷ 6 ∷ 3 ∷ 3 ∷ 15 ∷ 17 ∷ 3 ∷ 3 ∷ 15 ∷ 9 ∷ 3 ∷ 9 ∷ 3 ∷ 2 ∷ 8 ∷ 2 ∷ 8 ∷ 35 ∷ 35 ∷ 35 ∷ 35 ∷ 8 ∷ 2 ∷ 8 ∷ 2 ∷ 37 ∷ 35 ∷ 37 ∷ 35 ∷ 0 ∷ 1 ∷ 1 ∷ 0 ∷ 39 ∷ 8 ∷ 8 ∷ 39 ∷ 40 ∷ 9 ∷ 9 ∷ 40 ∷ [])
    (9 ∷ 0 ∷ 0 ∷ 0 ∷ 5 ∷ 0 ∷ 2 ∷ 0 ∷ 0 ∷ 0 ∷ 0 ∷ 0 ∷ 1 ∷ 11 ∷ 0 ∷ 0 ∷ 0 ∷ 0 ∷ 1 ∷ 0 ∷ 0 ∷ 0 ∷ 0 ∷ 0 ∷ 1 ∷ 12 ∷ 0 ∷ 0 ∷ 0 ∷ 1 ∷ 1 ∷ 10 ∷ 0 ∷ 0 ∷ 0 ∷ 0 ∷ 7 ∷ 0 ∷ 2 ∷ 1 ∷ 5 ∷ 1 ∷ 2 ∷ 0 ∷ 0 ∷ 0 ∷ 0 ∷ 0 ∷ 7 ∷ 1 ∷ 3 ∷ 2 ∷ 5 ∷ 2 ∷ 2 ∷ 0 ∷ 0 ∷ 0 ∷ 0 ∷ 0 ∷ 8 ∷ 4 ∷ 0 ∷ 3 ∷ 8 ∷ 12 ∷ 2 ∷ 0 ∷ 0 ∷ 0 ∷ 0 ∷ 0 ∷ 1 ∷ 14 ∷ 0 ∷ 0 ∷ 0 ∷ 3 ∷ 1 ∷ 0 ∷ 0 ∷ 0 ∷ 0 ∷ 0 ∷ 1 ∷ 16 ∷ 0 ∷ 0 ∷ 0 ∷ 3 ∷ 1 ∷ 13 ∷ 0 ∷ 0 ∷ 0 ∷ 0 ∷ 7 ∷ 0 ∷ 7 ∷ 1 ∷ 5 ∷ 3 ∷ 2 ∷ 0 ∷ 0 ∷ 0 ∷ 0 ∷ 0 ∷ 7 ∷ 6 ∷ 8 ∷ 2 ∷ 5 ∷ 4 ∷ 2 ∷ 0 ∷ 0 ∷ 0 ∷ 0 ∷ 0 ∷ 4 ∷ 4 ∷ 9 ∷ 3 ∷ 5 ∷ 5 ∷ 4 ∷ 0 ∷ 0 ∷ 0 ∷ 0 ∷ 0 ∷ 1 ∷ 10 ∷ 0 ∷ 0 ∷ 0 ∷ 0 ∷ 0 ∷ 0 ∷ 0 ∷ 0 ∷ 0 ∷ 0 ∷ 3 ∷ 0 ∷ 2 ∷ 4 ∷ 17 ∷ 13 ∷ 1 ∷ 0 ∷ 0 ∷ 0 ∷ 0 ∷ 0 ∷ 8 ∷ 12 ∷ 0 ∷ 5 ∷ 8 ∷ 13 ∷ 1 ∷ 0 ∷ 0 ∷ 0 ∷ 0 ∷ 0 ∷ 6 ∷ 13 ∷ 0 ∷ 6 ∷ 42 ∷ 13 ∷ 2 ∷ 8 ∷ 0 ∷ 0 ∷ 0 ∷ 0 ∷ 1 ∷ 18 ∷ 0 ∷ 0 ∷ 0 ∷ 0 ∷ 0 ∷ 0 ∷ 0 ∷ 0 ∷ 0 ∷ 0 ∷ 1 ∷ 21 ∷ 0 ∷ 0 ∷ 0 ∷ 8 ∷ 1 ∷ 0 ∷ 0 ∷ 0 ∷ 0 ∷ 0 ∷ 6 ∷ 16 ∷ 0 ∷ 1 ∷ 25 ∷ 8 ∷ 2 ∷ 0 ∷ 0 ∷ 0 ∷ 0 ∷ 0 ∷ 3 ∷ 2 ∷ 2 ∷ 3 ∷ 0 ∷ 0 ∷ 0 ∷ 0 ∷ 0 ∷ 0 ∷ 0 ∷ 0 ∷ 1 ∷ 24 ∷ 0 ∷ 0 ∷ 0 ∷ 0 ∷ 0 ∷ 0 ∷ 0 ∷ 0 ∷ 0 ∷ 0 ∷ 3 ∷ 4 ∷ 2 ∷ 4 ∷ 5 ∷ 9 ∷ 4 ∷ 7 ∷ 0 ∷ 0 ∷ 0 ∷ 0 ∷ 1 ∷ 7 ∷ 0 ∷ 0 ∷ 0 ∷ 0 ∷ 0 ∷ 0 ∷ 0 ∷ 0 ∷ 0 ∷ 0 ∷ 1 ∷ 4 ∷ 0 ∷ 0 ∷ 0 ∷ 0 ∷ 0 ∷ 0 ∷ 0 ∷ 0 ∷ 0 ∷ 0 ∷ 1 ∷ 26 ∷ 0 ∷ 0 ∷ 0 ∷ 0 ∷ 0 ∷ 0 ∷ 0 ∷ 0 ∷ 0 ∷ 0 ∷ 1 ∷ 29 ∷ 0 ∷ 0 ∷ 0 ∷ 0 ∷ 0 ∷ 0 ∷ 0 ∷ 0 ∷ 0 ∷ 0 ∷ 1 ∷ 32 ∷ 0 ∷ 0 ∷ 0 ∷ 0 ∷ 0 ∷ 0 ∷ 0 ∷ 0 ∷ 0 ∷ 0 ∷ 1 ∷ 33 ∷ 0 ∷ 0 ∷ 0 ∷ 12 ∷ 1 ∷ 16 ∷ 0 ∷ 0 ∷ 0 ∷ 0 ∷ 12 ∷ 0 ∷ 0 ∷ 0 ∷ 11 ∷ 14 ∷ 2 ∷ 8 ∷ 0 ∷ 0 ∷ 0 ∷ 0 ∷ 7 ∷ 2 ∷ 5 ∷ 4 ∷ [])
    (5 ∷ 7 ∷ 9 ∷ 15 ∷ 10 ∷ 17 ∷ [])
    (21 ∷ 7 ∷ 2 ∷ 7 ∷ 2 ∷ 11 ∷ 7 ∷ 7 ∷ 7 ∷ 14 ∷ 2 ∷ 28 ∷ 7 ∷ 31 ∷ 26 ∷ 27 ∷ 27 ∷ 10 ∷ 2 ∷ 28 ∷ 7 ∷ 31 ∷ 26 ∷ 27 ∷ 28 ∷ 11 ∷ 27 ∷ 10 ∷ 27 ∷ 10 ∷ [])
    -- rich 8
    ∷ book
    (record { sp = 40; spp = 120; states = 324; members = 40; transitions = 60; pending = 60; scratch = 6144; output = 400 })
    "fields 1 budget 1000000\ndup\ntest 0 0\nset 0 0\nseq 0 2\nseq 1 3\nset 0 1\ntest 0 1\nseq 0 6\nseq 5 7\ntest 0 1\nset 0 0\nseq 0 10\nseq 9 11\ndup\nset 0 0\ntest 0 1\nseq 13 15\nseq 14 16\nset 0 1\nunion 1 17 7 16 0 18\nset 0 1\nset 0 0\nuntil 20 0\nuntil 22 21\nand 17 22\ndup\nseq 11 24\nand 13 20\nempty 11\nseq 27 18\nseq 16 3\nlive 25\nnot 8\ntop\nset 0 0\npruned 34\nlive 14\npruned 26\nempty 17\n"
    0 0 "fields 1\nempty 11 no 2\nlive 25 2 1000\npruned 34 0\nlive 14 2 1000\npruned 26 0\nempty 17 yes 2\n"
    (0 ∷ 0 ∷ 0 ∷ 1 ∷ [])
    (0 ∷ 0 ∷ 0 ∷ 0 ∷ 1 ∷ 0 ∷ 0 ∷ 1 ∷ 1 ∷ 1 ∷ 1 ∷ 1 ∷ 1 ∷ 0 ∷ 0 ∷ 0 ∷ 1 ∷ 0 ∷ 1 ∷ 0 ∷ 0 ∷ 1 ∷ 0 ∷ 1 ∷ 0 ∷ 0 ∷ 0 ∷ 1 ∷ 1 ∷ 1 ∷ 0 ∷ 1 ∷ [])
    (9 ∷ 0 ∷ 0 ∷ 0 ∷ 3 ∷ 0 ∷ 2 ∷ 4 ∷ 0 ∷ 0 ∷ 0 ∷ 0 ∷ 1 ∷ 5 ∷ 0 ∷ 0 ∷ 0 ∷ 0 ∷ 0 ∷ 0 ∷ 0 ∷ 0 ∷ 0 ∷ 0 ∷ 1 ∷ 6 ∷ 0 ∷ 0 ∷ 0 ∷ 1 ∷ 1 ∷ 4 ∷ 0 ∷ 0 ∷ 0 ∷ 0 ∷ 7 ∷ 0 ∷ 2 ∷ 1 ∷ 3 ∷ 1 ∷ 2 ∷ 0 ∷ 0 ∷ 0 ∷ 0 ∷ 0 ∷ 7 ∷ 1 ∷ 3 ∷ 2 ∷ 0 ∷ 0 ∷ 0 ∷ 0 ∷ 0 ∷ 0 ∷ 0 ∷ 0 ∷ 1 ∷ 7 ∷ 0 ∷ 0 ∷ 0 ∷ 4 ∷ 1 ∷ 0 ∷ 0 ∷ 0 ∷ 0 ∷ 0 ∷ 1 ∷ 8 ∷ 0 ∷ 0 ∷ 0 ∷ 2 ∷ 1 ∷ 5 ∷ 0 ∷ 0 ∷ 0 ∷ 0 ∷ 7 ∷ 0 ∷ 6 ∷ 1 ∷ 3 ∷ 2 ∷ 2 ∷ 0 ∷ 0 ∷ 0 ∷ 0 ∷ 0 ∷ 7 ∷ 5 ∷ 7 ∷ 2 ∷ 0 ∷ 0 ∷ 0 ∷ 0 ∷ 0 ∷ 0 ∷ 0 ∷ 0 ∷ 7 ∷ 6 ∷ 3 ∷ 2 ∷ 0 ∷ 0 ∷ 0 ∷ 0 ∷ 0 ∷ 0 ∷ 0 ∷ 0 ∷ 7 ∷ 2 ∷ 7 ∷ 2 ∷ 3 ∷ 3 ∷ 2 ∷ 0 ∷ 0 ∷ 0 ∷ 0 ∷ 0 ∷ 1 ∷ 9 ∷ 0 ∷ 0 ∷ 0 ∷ 0 ∷ 0 ∷ 0 ∷ 0 ∷ 0 ∷ 0 ∷ 0 ∷ 2 ∷ 0 ∷ 4 ∷ 3 ∷ 0 ∷ 0 ∷ 0 ∷ 0 ∷ 0 ∷ 0 ∷ 0 ∷ 0 ∷ 11 ∷ 5 ∷ 0 ∷ 1 ∷ 3 ∷ 4 ∷ 2 ∷ 0 ∷ 0 ∷ 0 ∷ 0 ∷ 0 ∷ 11 ∷ 13 ∷ 2 ∷ 2 ∷ 0 ∷ 0 ∷ 0 ∷ 0 ∷ 0 ∷ 0 ∷ 0 ∷ 0 ∷ 3 ∷ 4 ∷ 2 ∷ 3 ∷ 3 ∷ 5 ∷ 2 ∷ 0 ∷ 0 ∷ 0 ∷ 0 ∷ 0 ∷ 7 ∷ 2 ∷ 15 ∷ 4 ∷ 3 ∷ 6 ∷ 2 ∷ 3 ∷ 0 ∷ 0 ∷ 0 ∷ 0 ∷ 7 ∷ 0 ∷ 16 ∷ 5 ∷ 3 ∷ 7 ∷ 2 ∷ 3 ∷ 0 ∷ 0 ∷ 0 ∷ 0 ∷ 3 ∷ 6 ∷ 2 ∷ 1 ∷ 0 ∷ 0 ∷ 0 ∷ 0 ∷ 0 ∷ 0 ∷ 0 ∷ 0 ∷ 1 ∷ 3 ∷ 0 ∷ 0 ∷ 0 ∷ 2 ∷ 1 ∷ 4 ∷ 0 ∷ 0 ∷ 0 ∷ 0 ∷ 1 ∷ 2 ∷ 0 ∷ 0 ∷ 0 ∷ 0 ∷ 0 ∷ 0 ∷ 0 ∷ 0 ∷ 0 ∷ 0 ∷ 7 ∷ 18 ∷ 5 ∷ 2 ∷ 0 ∷ 0 ∷ 0 ∷ 0 ∷ 0 ∷ 0 ∷ 0 ∷ 0 ∷ 7 ∷ 0 ∷ 9 ∷ 3 ∷ 0 ∷ 0 ∷ 0 ∷ 0 ∷ 0 ∷ 0 ∷ 0 ∷ 0 ∷ 6 ∷ 8 ∷ 0 ∷ 3 ∷ 0 ∷ 0 ∷ 0 ∷ 0 ∷ 0 ∷ 0 ∷ 0 ∷ 0 ∷ 12 ∷ [])
    (0 ∷ 7 ∷ 10 ∷ 11 ∷ 10 ∷ 13 ∷ 0 ∷ 5 ∷ [])
    (19 ∷ 3 ∷ 2 ∷ 3 ∷ 6 ∷ 3 ∷ 6 ∷ 6 ∷ 19 ∷ 3 ∷ 6 ∷ 5 ∷ 6 ∷ 6 ∷ 16 ∷ 3 ∷ [])
    -- rich 9
    ∷ book
    (record { sp = 40; spp = 140; states = 348; members = 40; transitions = 60; pending = 60; scratch = 6144; output = 400 })
    "fields 4 budget 5\ndup\nset 2 1\ntest 3 0\nseq 0 2\nseq 1 3\ntest 2 1\ntest 3 1\nseq 0 6\nseq 5 7\nseq 8 8\ntest 3 1\ntest 2 1\nseq 0 11\nseq 10 12\nor 13 13\ndup\ntest 3 1\ntest 3 0\nseq 15 17\nseq 16 18\ntest 0 0\ntest 3 1\nseq 15 21\nseq 20 22\nor 19 19\ntest 3 1\nset 0 1\ntest 0 1\nempty 27\ntop\nuntil 29 25\nunion 30 27 15 14\nstar 6\ntop\ninter 32 10\ndup\ntest 1 1\nxor 20 0\nset 1 0\nlive 17\nempty 19\nlive 21\nlive 4\nlive 21\n"
    0 0 "fields 4\nempty 27 no 1\nlive 17 8 500\nempty 19 yes 2\nlive 21 8 500\nlive 4 8 500\nlive 21 8 500\n"
    (0 ∷ 0 ∷ 2 ∷ 2 ∷ 4 ∷ 4 ∷ 6 ∷ 6 ∷ 0 ∷ 1 ∷ 10 ∷ 10 ∷ 12 ∷ 12 ∷ 14 ∷ 14 ∷ [])
    (0 ∷ 0 ∷ 0 ∷ 0 ∷ 2 ∷ 2 ∷ 2 ∷ 2 ∷ 3 ∷ 3 ∷ 3 ∷ 3 ∷ 4 ∷ 4 ∷ 4 ∷ 4 ∷ 1 ∷ 0 ∷ 0 ∷ 1 ∷ 6 ∷ 2 ∷ 2 ∷ 6 ∷ 7 ∷ 3 ∷ 3 ∷ 7 ∷ 8 ∷ 4 ∷ 4 ∷ 8 ∷ 1 ∷ 1 ∷ 1 ∷ 1 ∷ 10 ∷ 10 ∷ 10 ∷ 10 ∷ 11 ∷ 11 ∷ 11 ∷ 11 ∷ 12 ∷ 12 ∷ 12 ∷ 12 ∷ 2 ∷ 6 ∷ 2 ∷ 6 ∷ 14 ∷ 3 ∷ 3 ∷ 14 ∷ 15 ∷ 4 ∷ 4 ∷ 15 ∷ 1 ∷ 0 ∷ 0 ∷ 0 ∷ 17 ∷ 2 ∷ 2 ∷ 17 ∷ 18 ∷ 3 ∷ 3 ∷ 18 ∷ 19 ∷ 4 ∷ 4 ∷ 19 ∷ 2 ∷ 2 ∷ 2 ∷ 6 ∷ 21 ∷ 3 ∷ 3 ∷ 21 ∷ 22 ∷ 4 ∷ 4 ∷ 22 ∷ 0 ∷ 0 ∷ 0 ∷ 1 ∷ 24 ∷ 2 ∷ 2 ∷ 24 ∷ 25 ∷ 3 ∷ 3 ∷ 25 ∷ 26 ∷ 4 ∷ 4 ∷ 26 ∷ 8 ∷ 4 ∷ 4 ∷ 4 ∷ 4 ∷ 8 ∷ 4 ∷ 8 ∷ 4 ∷ 4 ∷ 4 ∷ 8 ∷ 3 ∷ 3 ∷ 3 ∷ 7 ∷ 31 ∷ 4 ∷ 4 ∷ 31 ∷ 7 ∷ 3 ∷ 7 ∷ 3 ∷ 33 ∷ 4 ∷ 4 ∷ 33 ∷ [])
    (9 ∷ 0 ∷ 0 ∷ 0 ∷ 6 ∷ 0 ∷ 2 ∷ 0 ∷ 0 ∷ 0 ∷ 0 ∷ 0 ∷ 1 ∷ 16 ∷ 0 ∷ 0 ∷ 0 ∷ 3 ∷ 1 ∷ 0 ∷ 0 ∷ 0 ∷ 0 ∷ 0 ∷ 1 ∷ 20 ∷ 0 ∷ 0 ∷ 0 ∷ 0 ∷ 1 ∷ 18 ∷ 0 ∷ 0 ∷ 0 ∷ 0 ∷ 7 ∷ 0 ∷ 2 ∷ 1 ∷ 6 ∷ 1 ∷ 2 ∷ 0 ∷ 0 ∷ 0 ∷ 0 ∷ 0 ∷ 7 ∷ 1 ∷ 3 ∷ 2 ∷ 6 ∷ 3 ∷ 2 ∷ 18 ∷ 0 ∷ 0 ∷ 0 ∷ 0 ∷ 1 ∷ 23 ∷ 0 ∷ 0 ∷ 0 ∷ 0 ∷ 0 ∷ 0 ∷ 0 ∷ 0 ∷ 0 ∷ 0 ∷ 1 ∷ 27 ∷ 0 ∷ 0 ∷ 0 ∷ 0 ∷ 1 ∷ 17 ∷ 0 ∷ 0 ∷ 0 ∷ 0 ∷ 7 ∷ 0 ∷ 6 ∷ 1 ∷ 0 ∷ 0 ∷ 0 ∷ 0 ∷ 0 ∷ 0 ∷ 0 ∷ 0 ∷ 7 ∷ 5 ∷ 7 ∷ 2 ∷ 0 ∷ 0 ∷ 0 ∷ 0 ∷ 0 ∷ 0 ∷ 0 ∷ 0 ∷ 7 ∷ 6 ∷ 8 ∷ 3 ∷ 0 ∷ 0 ∷ 0 ∷ 0 ∷ 0 ∷ 0 ∷ 0 ∷ 0 ∷ 7 ∷ 0 ∷ 9 ∷ 4 ∷ 0 ∷ 0 ∷ 0 ∷ 0 ∷ 0 ∷ 0 ∷ 0 ∷ 0 ∷ 7 ∷ 5 ∷ 10 ∷ 5 ∷ 0 ∷ 0 ∷ 0 ∷ 0 ∷ 0 ∷ 0 ∷ 0 ∷ 0 ∷ 7 ∷ 0 ∷ 5 ∷ 1 ∷ 0 ∷ 0 ∷ 0 ∷ 0 ∷ 0 ∷ 0 ∷ 0 ∷ 0 ∷ 7 ∷ 6 ∷ 12 ∷ 2 ∷ 0 ∷ 0 ∷ 0 ∷ 0 ∷ 0 ∷ 0 ∷ 0 ∷ 0 ∷ 7 ∷ 6 ∷ 3 ∷ 2 ∷ 6 ∷ 2 ∷ 2 ∷ 0 ∷ 0 ∷ 0 ∷ 0 ∷ 0 ∷ 1 ∷ 28 ∷ 0 ∷ 0 ∷ 0 ∷ 0 ∷ 0 ∷ 0 ∷ 0 ∷ 0 ∷ 0 ∷ 0 ∷ 7 ∷ 15 ∷ 7 ∷ 2 ∷ 0 ∷ 0 ∷ 0 ∷ 0 ∷ 0 ∷ 0 ∷ 0 ∷ 0 ∷ 1 ∷ 29 ∷ 0 ∷ 0 ∷ 0 ∷ 0 ∷ 0 ∷ 0 ∷ 0 ∷ 0 ∷ 0 ∷ 0 ∷ 1 ∷ 30 ∷ 0 ∷ 0 ∷ 0 ∷ 0 ∷ 0 ∷ 0 ∷ 0 ∷ 0 ∷ 0 ∷ 0 ∷ 12 ∷ 0 ∷ 0 ∷ 0 ∷ 0 ∷ 0 ∷ 0 ∷ 0 ∷ 0 ∷ 0 ∷ 0 ∷ 0 ∷ 11 ∷ 19 ∷ 6 ∷ 1 ∷ 0 ∷ 0 ∷ 0 ∷ 0 ∷ 0 ∷ 0 ∷ 0 ∷ 0 ∷ 2 ∷ 0 ∷ 4 ∷ 3 ∷ 0 ∷ 0 ∷ 0 ∷ 0 ∷ 0 ∷ 0 ∷ 0 ∷ 0 ∷ 1 ∷ 9 ∷ 0 ∷ 0 ∷ 0 ∷ 0 ∷ 0 ∷ 0 ∷ 0 ∷ 0 ∷ 0 ∷ 0 ∷ 1 ∷ 32 ∷ 0 ∷ 0 ∷ 0 ∷ 0 ∷ 0 ∷ 0 ∷ 0 ∷ 0 ∷ 0 ∷ 0 ∷ 4 ∷ 0 ∷ 15 ∷ 1 ∷ 0 ∷ 0 ∷ 0 ∷ 0 ∷ 0 ∷ 0 ∷ 0 ∷ 0 ∷ 1 ∷ 34 ∷ 0 ∷ 0 ∷ 0 ∷ 0 ∷ 0 ∷ 0 ∷ 0 ∷ 0 ∷ 0 ∷ 0 ∷ 1 ∷ 5 ∷ [])
    (0 ∷ 13 ∷ 18 ∷ 20 ∷ [])
    (22 ∷ 9 ∷ 2 ∷ 9 ∷ 2 ∷ 27 ∷ 2 ∷ 16 ∷ [])
    -- rich 10
    ∷ book
    (record { sp = 40; spp = 120; states = 372; members = 40; transitions = 60; pending = 60; scratch = 6144; output = 400 })
    "fields 2 budget 1000\ndup\ntest 0 0\nset 1 0\nseq 0 2\nseq 1 3\nseq 4 4\ntest 0 0\nset 0 0\nseq 0 7\nseq 6 8\nstar 9\nxor 4 5\nzero\none\nnot 0\nand 0 13\nand 15 11\nset 1 0\nseq 13 1\nuntil 0 3\nuntil 2 13\nnot 20\nunion 21\ntest 0 1\nempty 22\nempty 23\nlive 19\nempty 11\n"
    0 0 "fields 2\nempty 22 no 1\nempty 23 no 1\nlive 19 4 1000\nempty 11 no 2\n"
    (0 ∷ 0 ∷ 2 ∷ 2 ∷ 2 ∷ 3 ∷ [])
    (0 ∷ 0 ∷ 0 ∷ 0 ∷ 2 ∷ 2 ∷ 2 ∷ 2 ∷ 1 ∷ 0 ∷ 0 ∷ 1 ∷ 4 ∷ 2 ∷ 2 ∷ 4 ∷ 1 ∷ 1 ∷ 1 ∷ 1 ∷ 6 ∷ 6 ∷ 6 ∷ 6 ∷ 4 ∷ 2 ∷ 2 ∷ 2 ∷ 1 ∷ 0 ∷ 1 ∷ 0 ∷ 9 ∷ 2 ∷ 2 ∷ 9 ∷ 4 ∷ 2 ∷ 4 ∷ 2 ∷ 2 ∷ 2 ∷ 2 ∷ 4 ∷ 0 ∷ 1 ∷ 1 ∷ 0 ∷ 13 ∷ 6 ∷ 6 ∷ 13 ∷ 9 ∷ 2 ∷ 2 ∷ 2 ∷ [])
    (9 ∷ 0 ∷ 0 ∷ 0 ∷ 4 ∷ 0 ∷ 2 ∷ 0 ∷ 0 ∷ 0 ∷ 0 ∷ 0 ∷ 1 ∷ 8 ∷ 0 ∷ 0 ∷ 0 ∷ 3 ∷ 1 ∷ 0 ∷ 0 ∷ 0 ∷ 0 ∷ 0 ∷ 1 ∷ 10 ∷ 0 ∷ 0 ∷ 0 ∷ 1 ∷ 1 ∷ 0 ∷ 0 ∷ 0 ∷ 0 ∷ 0 ∷ 7 ∷ 0 ∷ 2 ∷ 1 ∷ 4 ∷ 1 ∷ 2 ∷ 0 ∷ 0 ∷ 0 ∷ 0 ∷ 0 ∷ 7 ∷ 1 ∷ 3 ∷ 2 ∷ 4 ∷ 3 ∷ 2 ∷ 0 ∷ 0 ∷ 0 ∷ 0 ∷ 0 ∷ 7 ∷ 2 ∷ 4 ∷ 3 ∷ 4 ∷ 4 ∷ 2 ∷ 0 ∷ 0 ∷ 0 ∷ 0 ∷ 0 ∷ 7 ∷ 0 ∷ 5 ∷ 4 ∷ 4 ∷ 5 ∷ 2 ∷ 0 ∷ 0 ∷ 0 ∷ 0 ∷ 0 ∷ 7 ∷ 1 ∷ 6 ∷ 5 ∷ 4 ∷ 6 ∷ 2 ∷ 0 ∷ 0 ∷ 0 ∷ 0 ∷ 0 ∷ 1 ∷ 11 ∷ 0 ∷ 0 ∷ 0 ∷ 0 ∷ 0 ∷ 0 ∷ 0 ∷ 0 ∷ 0 ∷ 0 ∷ 7 ∷ 0 ∷ 8 ∷ 1 ∷ 0 ∷ 0 ∷ 0 ∷ 0 ∷ 0 ∷ 0 ∷ 0 ∷ 0 ∷ 7 ∷ 1 ∷ 9 ∷ 2 ∷ 0 ∷ 0 ∷ 0 ∷ 0 ∷ 0 ∷ 0 ∷ 0 ∷ 0 ∷ 8 ∷ 10 ∷ 0 ∷ 3 ∷ 0 ∷ 0 ∷ 0 ∷ 0 ∷ 0 ∷ 0 ∷ 0 ∷ 0 ∷ 4 ∷ 4 ∷ 7 ∷ 6 ∷ 4 ∷ 7 ∷ 2 ∷ 0 ∷ 0 ∷ 0 ∷ 0 ∷ 0 ∷ 1 ∷ 3 ∷ 0 ∷ 0 ∷ 0 ∷ 0 ∷ 0 ∷ 0 ∷ 0 ∷ 0 ∷ 0 ∷ 0 ∷ 1 ∷ 5 ∷ 0 ∷ 0 ∷ 0 ∷ 3 ∷ 1 ∷ 0 ∷ 0 ∷ 0 ∷ 0 ∷ 0 ∷ 6 ∷ 0 ∷ 0 ∷ 1 ∷ 0 ∷ 0 ∷ 0 ∷ 0 ∷ 0 ∷ 0 ∷ 0 ∷ 0 ∷ 3 ∷ 0 ∷ 2 ∷ 1 ∷ 0 ∷ 0 ∷ 0 ∷ 0 ∷ 0 ∷ 0 ∷ 0 ∷ 0 ∷ 3 ∷ 2 ∷ 3 ∷ 7 ∷ 0 ∷ 0 ∷ 0 ∷ 0 ∷ 0 ∷ 0 ∷ 0 ∷ 0 ∷ 11 ∷ 0 ∷ 3 ∷ 2 ∷ 4 ∷ 2 ∷ 2 ∷ 6 ∷ 0 ∷ 0 ∷ 0 ∷ 0 ∷ 11 ∷ 2 ∷ 14 ∷ 1 ∷ 6 ∷ 0 ∷ 0 ∷ 0 ∷ 0 ∷ 0 ∷ 0 ∷ 0 ∷ 6 ∷ 19 ∷ 0 ∷ 2 ∷ 15 ∷ 0 ∷ 0 ∷ 0 ∷ 0 ∷ 0 ∷ 0 ∷ 0 ∷ 1 ∷ 12 ∷ 0 ∷ 0 ∷ 0 ∷ 0 ∷ 0 ∷ 0 ∷ 0 ∷ 0 ∷ 0 ∷ 0 ∷ 3 ∷ 5 ∷ 2 ∷ 3 ∷ 4 ∷ 3 ∷ 1 ∷ 0 ∷ 0 ∷ 0 ∷ 0 ∷ 0 ∷ 2 ∷ 7 ∷ 2 ∷ 4 ∷ 11 ∷ 3 ∷ 1 ∷ 6 ∷ 0 ∷ 0 ∷ 0 ∷ 0 ∷ 5 ∷ 2 ∷ 5 ∷ 4 ∷ 11 ∷ 0 ∷ 0 ∷ 0 ∷ 0 ∷ 0 ∷ 0 ∷ 0 ∷ 2 ∷ 9 ∷ 2 ∷ 5 ∷ 0 ∷ 0 ∷ 0 ∷ 0 ∷ 0 ∷ 0 ∷ 0 ∷ 0 ∷ 5 ∷ 5 ∷ 2 ∷ 4 ∷ 4 ∷ 0 ∷ 0 ∷ 0 ∷ 0 ∷ 0 ∷ 0 ∷ 0 ∷ 2 ∷ 11 ∷ 2 ∷ 5 ∷ 0 ∷ 0 ∷ 0 ∷ 0 ∷ 0 ∷ 0 ∷ 0 ∷ 0 ∷ 2 ∷ 13 ∷ 2 ∷ 5 ∷ 11 ∷ [])
    (0 ∷ 14 ∷ 0 ∷ 12 ∷ 14 ∷ 18 ∷ 14 ∷ 2 ∷ 22 ∷ 2 ∷ 24 ∷ 5 ∷ 26 ∷ 24 ∷ 26 ∷ [])
    (14 ∷ 5 ∷ 2 ∷ 5 ∷ 23 ∷ 5 ∷ 2 ∷ 8 ∷ 2 ∷ 15 ∷ 5 ∷ 5 ∷ 5 ∷ 8 ∷ 28 ∷ 8 ∷ [])
    -- rich 14
    ∷ book
    (record { sp = 40; spp = 120; states = 384; members = 40; transitions = 60; pending = 60; scratch = 6144; output = 400 })
    "fields 2 budget 3\ndup\nset 0 0\ntest 1 1\nseq 0 2\nseq 1 3\ntest 0 1\nset 0 0\nseq 0 6\nseq 5 7\nstar 8\ntest 1 1\nset 0 1\nseq 0 11\nseq 10 12\nor 4 9\nempty 14\nxor 11 13\nor 6 2\nseq 6 16\ninter 17 17 2\nseq 18 17\nuntil 17 0\nnot 5\nset 1 0\nuntil 23 23\nuntil 24 23\nunion 25\nunion 13 26 14 18\ndup\nand 27 22\nempty 26\nempty 29\nempty 27\n"
    0 0 "fields 2\nempty 14 no 1\nempty 26 no 1\nempty 29 no 1\nempty 27 no 1\n"
    (0 ∷ 0 ∷ 2 ∷ 2 ∷ [])
    (0 ∷ 0 ∷ 0 ∷ 0 ∷ 2 ∷ 2 ∷ 2 ∷ 2 ∷ 1 ∷ 0 ∷ 0 ∷ 1 ∷ 4 ∷ 2 ∷ 2 ∷ 4 ∷ 1 ∷ 1 ∷ 1 ∷ 1 ∷ 6 ∷ 6 ∷ 6 ∷ 6 ∷ 4 ∷ 2 ∷ 4 ∷ 2 ∷ 0 ∷ 0 ∷ 0 ∷ 1 ∷ 9 ∷ 2 ∷ 2 ∷ 9 ∷ 2 ∷ 2 ∷ 2 ∷ 4 ∷ 2 ∷ 4 ∷ 2 ∷ 4 ∷ 4 ∷ 2 ∷ 4 ∷ 9 ∷ 1 ∷ 0 ∷ 1 ∷ 0 ∷ 14 ∷ 2 ∷ 2 ∷ 14 ∷ 0 ∷ 1 ∷ 1 ∷ 0 ∷ 6 ∷ 6 ∷ 6 ∷ 16 ∷ 4 ∷ 2 ∷ 2 ∷ 2 ∷ 2 ∷ 4 ∷ 2 ∷ 2 ∷ 0 ∷ 0 ∷ 1 ∷ 0 ∷ 14 ∷ 2 ∷ 2 ∷ 20 ∷ 4 ∷ 4 ∷ 2 ∷ 2 ∷ 1 ∷ 0 ∷ 1 ∷ 1 ∷ 23 ∷ 4 ∷ 2 ∷ 20 ∷ 4 ∷ 4 ∷ 2 ∷ 4 ∷ 23 ∷ 4 ∷ 2 ∷ 23 ∷ [])
    (9 ∷ 0 ∷ 0 ∷ 0 ∷ 4 ∷ 0 ∷ 0 ∷ 0 ∷ 0 ∷ 0 ∷ 0 ∷ 0 ∷ 1 ∷ 8 ∷ 0 ∷ 0 ∷ 0 ∷ 0 ∷ 0 ∷ 0 ∷ 0 ∷ 0 ∷ 0 ∷ 0 ∷ 1 ∷ 10 ∷ 0 ∷ 0 ∷ 0 ∷ 0 ∷ 0 ∷ 0 ∷ 0 ∷ 0 ∷ 0 ∷ 0 ∷ 7 ∷ 0 ∷ 2 ∷ 1 ∷ 4 ∷ 0 ∷ 0 ∷ 0 ∷ 0 ∷ 0 ∷ 0 ∷ 0 ∷ 7 ∷ 1 ∷ 3 ∷ 2 ∷ 4 ∷ 0 ∷ 0 ∷ 0 ∷ 0 ∷ 0 ∷ 0 ∷ 0 ∷ 1 ∷ 11 ∷ 0 ∷ 0 ∷ 0 ∷ 0 ∷ 0 ∷ 0 ∷ 0 ∷ 0 ∷ 0 ∷ 0 ∷ 7 ∷ 0 ∷ 1 ∷ 1 ∷ 4 ∷ 0 ∷ 0 ∷ 0 ∷ 0 ∷ 0 ∷ 0 ∷ 0 ∷ 7 ∷ 5 ∷ 6 ∷ 2 ∷ 4 ∷ 0 ∷ 0 ∷ 0 ∷ 0 ∷ 0 ∷ 0 ∷ 0 ∷ 8 ∷ 7 ∷ 0 ∷ 3 ∷ 6 ∷ 0 ∷ 0 ∷ 0 ∷ 0 ∷ 0 ∷ 0 ∷ 0 ∷ 1 ∷ 12 ∷ 0 ∷ 0 ∷ 0 ∷ 0 ∷ 0 ∷ 0 ∷ 0 ∷ 0 ∷ 0 ∷ 0 ∷ 7 ∷ 0 ∷ 9 ∷ 1 ∷ 4 ∷ 0 ∷ 0 ∷ 0 ∷ 0 ∷ 0 ∷ 0 ∷ 0 ∷ 7 ∷ 2 ∷ 10 ∷ 2 ∷ 4 ∷ 0 ∷ 0 ∷ 0 ∷ 0 ∷ 0 ∷ 0 ∷ 0 ∷ 2 ∷ 0 ∷ 2 ∷ 4 ∷ 6 ∷ 0 ∷ 0 ∷ 0 ∷ 0 ∷ 0 ∷ 0 ∷ 0 ∷ 4 ∷ 9 ∷ 11 ∷ 3 ∷ 13 ∷ 0 ∷ 0 ∷ 0 ∷ 0 ∷ 0 ∷ 0 ∷ 0 ∷ 1 ∷ 13 ∷ 0 ∷ 0 ∷ 0 ∷ 0 ∷ 0 ∷ 0 ∷ 0 ∷ 0 ∷ 0 ∷ 0 ∷ 7 ∷ 1 ∷ 13 ∷ 4 ∷ 13 ∷ 0 ∷ 0 ∷ 0 ∷ 0 ∷ 0 ∷ 0 ∷ 0 ∷ 7 ∷ 13 ∷ 14 ∷ 4 ∷ 0 ∷ 0 ∷ 0 ∷ 0 ∷ 0 ∷ 0 ∷ 0 ∷ 0 ∷ 7 ∷ 1 ∷ 16 ∷ 5 ∷ 0 ∷ 0 ∷ 0 ∷ 0 ∷ 0 ∷ 0 ∷ 0 ∷ 0 ∷ 11 ∷ 14 ∷ 0 ∷ 1 ∷ 0 ∷ 0 ∷ 0 ∷ 0 ∷ 0 ∷ 0 ∷ 0 ∷ 0 ∷ 6 ∷ 5 ∷ 0 ∷ 1 ∷ 18 ∷ 0 ∷ 0 ∷ 0 ∷ 0 ∷ 0 ∷ 0 ∷ 0 ∷ 1 ∷ 15 ∷ 0 ∷ 0 ∷ 0 ∷ 0 ∷ 0 ∷ 0 ∷ 0 ∷ 0 ∷ 0 ∷ 0 ∷ 11 ∷ 20 ∷ 20 ∷ 1 ∷ 0 ∷ 0 ∷ 0 ∷ 0 ∷ 0 ∷ 0 ∷ 0 ∷ 0 ∷ 11 ∷ 21 ∷ 20 ∷ 2 ∷ 16 ∷ 0 ∷ 0 ∷ 0 ∷ 0 ∷ 0 ∷ 0 ∷ 0 ∷ 2 ∷ 2 ∷ 5 ∷ 5 ∷ 27 ∷ 0 ∷ 0 ∷ 0 ∷ 0 ∷ 0 ∷ 0 ∷ 0 ∷ 3 ∷ 7 ∷ 2 ∷ 3 ∷ 4 ∷ 0 ∷ 0 ∷ 0 ∷ 0 ∷ 0 ∷ 0 ∷ 0 ∷ 3 ∷ 9 ∷ 2 ∷ 4 ∷ 19 ∷ 0 ∷ 0 ∷ 0 ∷ 0 ∷ 0 ∷ 0 ∷ 0 ∷ 3 ∷ 11 ∷ 2 ∷ 3 ∷ 4 ∷ 0 ∷ 0 ∷ 0 ∷ 0 ∷ 0 ∷ 0 ∷ 0 ∷ 3 ∷ 13 ∷ 2 ∷ 5 ∷ 20 ∷ 0 ∷ 0 ∷ 0 ∷ 0 ∷ 0 ∷ 0 ∷ 0 ∷ 3 ∷ 15 ∷ 2 ∷ 3 ∷ 22 ∷ 0 ∷ 0 ∷ 0 ∷ 0 ∷ 0 ∷ 0 ∷ 0 ∷ 2 ∷ 17 ∷ 5 ∷ 6 ∷ 25 ∷ [])
    (4 ∷ 8 ∷ 4 ∷ 8 ∷ 11 ∷ 15 ∷ 22 ∷ 4 ∷ 19 ∷ 8 ∷ 19 ∷ 11 ∷ 19 ∷ 15 ∷ 19 ∷ 19 ∷ 22 ∷ 24 ∷ 25 ∷ 26 ∷ 27 ∷ 28 ∷ [])
    ([])
    -- search 4
    ∷ book
    (record { sp = 40; spp = 124; states = 324; members = 40; transitions = 60; pending = 60; scratch = 6144; output = 400 })
    "fields 2 budget 5\ndup\ntest 1 1\nset 0 0\nset 1 1\nseq 2 3\nseq 4 0\nseq 1 5\ntest 0 0\ntest 1 1\nseq 7 8\nset 1 0\nset 0 1\nseq 10 11\nseq 12 0\nseq 9 13\ntest 1 0\none\nseq 0 16\nseq 15 17\nunion 6 14 18\nstar 19\ntest 0 1\ntest 1 1\nseq 21 22\ntest 1 0\ntest 0 0\nand 24 25\nseq 20 26\nseq 23 27\nor 28 28\nempty 28\n"
    0 0 "fields 2\nempty 28 yes 4\n"
    (0 ∷ 0 ∷ 2 ∷ 2 ∷ 0 ∷ 1 ∷ 6 ∷ 2 ∷ 6 ∷ 7 ∷ 2 ∷ 7 ∷ [])
    (0 ∷ 0 ∷ 0 ∷ 0 ∷ 2 ∷ 2 ∷ 2 ∷ 2 ∷ 1 ∷ 0 ∷ 0 ∷ 1 ∷ 4 ∷ 2 ∷ 2 ∷ 4 ∷ 1 ∷ 1 ∷ 1 ∷ 1 ∷ 6 ∷ 6 ∷ 6 ∷ 6 ∷ 0 ∷ 0 ∷ 0 ∷ 1 ∷ 8 ∷ 2 ∷ 2 ∷ 8 ∷ 4 ∷ 2 ∷ 4 ∷ 2 ∷ 0 ∷ 1 ∷ 0 ∷ 1 ∷ 11 ∷ 2 ∷ 2 ∷ 11 ∷ 11 ∷ 2 ∷ 11 ∷ 2 ∷ 4 ∷ 2 ∷ 2 ∷ 2 ∷ 8 ∷ 2 ∷ 2 ∷ 2 ∷ 1 ∷ 0 ∷ 1 ∷ 0 ∷ 16 ∷ 2 ∷ 2 ∷ 16 ∷ 2 ∷ 4 ∷ 2 ∷ 4 ∷ 2 ∷ 16 ∷ 2 ∷ 16 ∷ 1 ∷ 0 ∷ 0 ∷ 0 ∷ 20 ∷ 2 ∷ 2 ∷ 20 ∷ 2 ∷ 2 ∷ 2 ∷ 4 ∷ 2 ∷ 2 ∷ 2 ∷ 8 ∷ 20 ∷ 2 ∷ 2 ∷ 2 ∷ 8 ∷ 2 ∷ 8 ∷ 2 ∷ 0 ∷ 0 ∷ 1 ∷ 0 ∷ 2 ∷ 26 ∷ 2 ∷ 2 ∷ 8 ∷ 26 ∷ 8 ∷ 2 ∷ 4 ∷ 26 ∷ 8 ∷ 20 ∷ 2 ∷ 2 ∷ 8 ∷ 2 ∷ [])
    (9 ∷ 0 ∷ 0 ∷ 0 ∷ 4 ∷ 0 ∷ 2 ∷ 0 ∷ 0 ∷ 0 ∷ 0 ∷ 0 ∷ 1 ∷ 9 ∷ 0 ∷ 0 ∷ 0 ∷ 0 ∷ 1 ∷ 0 ∷ 0 ∷ 0 ∷ 0 ∷ 0 ∷ 1 ∷ 10 ∷ 0 ∷ 0 ∷ 0 ∷ 0 ∷ 0 ∷ 0 ∷ 0 ∷ 0 ∷ 0 ∷ 0 ∷ 1 ∷ 12 ∷ 0 ∷ 0 ∷ 0 ∷ 0 ∷ 0 ∷ 0 ∷ 0 ∷ 0 ∷ 0 ∷ 0 ∷ 1 ∷ 13 ∷ 0 ∷ 0 ∷ 0 ∷ 0 ∷ 1 ∷ 0 ∷ 0 ∷ 0 ∷ 0 ∷ 0 ∷ 7 ∷ 4 ∷ 0 ∷ 1 ∷ 4 ∷ 1 ∷ 2 ∷ 0 ∷ 0 ∷ 0 ∷ 0 ∷ 0 ∷ 7 ∷ 1 ∷ 5 ∷ 2 ∷ 4 ∷ 2 ∷ 2 ∷ 0 ∷ 0 ∷ 0 ∷ 0 ∷ 0 ∷ 1 ∷ 14 ∷ 0 ∷ 0 ∷ 0 ∷ 0 ∷ 0 ∷ 0 ∷ 0 ∷ 0 ∷ 0 ∷ 0 ∷ 1 ∷ 15 ∷ 0 ∷ 0 ∷ 0 ∷ 3 ∷ 1 ∷ 0 ∷ 0 ∷ 0 ∷ 0 ∷ 0 ∷ 1 ∷ 17 ∷ 0 ∷ 0 ∷ 0 ∷ 0 ∷ 0 ∷ 0 ∷ 0 ∷ 0 ∷ 0 ∷ 0 ∷ 1 ∷ 18 ∷ 0 ∷ 0 ∷ 0 ∷ 0 ∷ 0 ∷ 0 ∷ 0 ∷ 0 ∷ 0 ∷ 0 ∷ 1 ∷ 19 ∷ 0 ∷ 0 ∷ 0 ∷ 3 ∷ 1 ∷ 0 ∷ 0 ∷ 0 ∷ 0 ∷ 0 ∷ 7 ∷ 11 ∷ 0 ∷ 1 ∷ 4 ∷ 3 ∷ 2 ∷ 0 ∷ 0 ∷ 0 ∷ 0 ∷ 0 ∷ 7 ∷ 8 ∷ 12 ∷ 2 ∷ 4 ∷ 4 ∷ 2 ∷ 0 ∷ 0 ∷ 0 ∷ 0 ∷ 0 ∷ 1 ∷ 21 ∷ 0 ∷ 0 ∷ 0 ∷ 5 ∷ 1 ∷ 0 ∷ 0 ∷ 0 ∷ 0 ∷ 0 ∷ 1 ∷ 5 ∷ 0 ∷ 0 ∷ 0 ∷ 0 ∷ 0 ∷ 0 ∷ 0 ∷ 0 ∷ 0 ∷ 0 ∷ 7 ∷ 14 ∷ 0 ∷ 1 ∷ 4 ∷ 5 ∷ 2 ∷ 0 ∷ 0 ∷ 0 ∷ 0 ∷ 0 ∷ 2 ∷ 0 ∷ 3 ∷ 3 ∷ 4 ∷ 6 ∷ 2 ∷ 0 ∷ 0 ∷ 0 ∷ 0 ∷ 0 ∷ 8 ∷ 17 ∷ 0 ∷ 4 ∷ 6 ∷ 7 ∷ 2 ∷ 0 ∷ 0 ∷ 0 ∷ 0 ∷ 0 ∷ 1 ∷ 22 ∷ 0 ∷ 0 ∷ 0 ∷ 0 ∷ 0 ∷ 0 ∷ 0 ∷ 0 ∷ 0 ∷ 0 ∷ 1 ∷ 23 ∷ 0 ∷ 0 ∷ 0 ∷ 0 ∷ 1 ∷ 0 ∷ 0 ∷ 0 ∷ 0 ∷ 0 ∷ 1 ∷ 24 ∷ 0 ∷ 0 ∷ 0 ∷ 8 ∷ 1 ∷ 0 ∷ 0 ∷ 0 ∷ 0 ∷ 0 ∷ 7 ∷ 18 ∷ 21 ∷ 5 ∷ 25 ∷ 8 ∷ 2 ∷ 0 ∷ 0 ∷ 0 ∷ 0 ∷ 0 ∷ 7 ∷ 20 ∷ 22 ∷ 6 ∷ 4 ∷ 9 ∷ 2 ∷ 0 ∷ 0 ∷ 0 ∷ 0 ∷ 0 ∷ 1 ∷ 3 ∷ [])
    (6 ∷ 13 ∷ 16 ∷ [])
    (15 ∷ 5 ∷ 15 ∷ 13 ∷ 15 ∷ 25 ∷ 15 ∷ 19 ∷ 15 ∷ 27 ∷ 15 ∷ 21 ∷ 15 ∷ 29 ∷ 18 ∷ 29 ∷ 22 ∷ 29 ∷ 22 ∷ 30 ∷ [])
    -- small 0
    ∷ book
    (record { sp = 40; spp = 120; states = 240; members = 40; transitions = 60; pending = 60; scratch = 6144; output = 400 })
    "fields 2 budget 2\ntest 0 0\nstar 0\nempty 1\nseq 0 1\nnot 1\nset 1 1\nunion 4 5 5\nempty 0\nempty 6\n"
    0 0 "fields 2\nempty 1 no 1\nempty 0 no 1\nempty 6 no 1\n"
    (0 ∷ 0 ∷ 2 ∷ 2 ∷ [])
    (0 ∷ 0 ∷ 0 ∷ 0 ∷ 2 ∷ 2 ∷ 2 ∷ 2 ∷ 1 ∷ 0 ∷ 0 ∷ 1 ∷ 4 ∷ 2 ∷ 2 ∷ 4 ∷ 1 ∷ 1 ∷ 1 ∷ 1 ∷ 6 ∷ 6 ∷ 6 ∷ 6 ∷ 4 ∷ 2 ∷ 2 ∷ 2 ∷ 0 ∷ 1 ∷ 0 ∷ 1 ∷ 9 ∷ 2 ∷ 2 ∷ 9 ∷ 0 ∷ 1 ∷ 1 ∷ 0 ∷ 11 ∷ 6 ∷ 6 ∷ 11 ∷ 0 ∷ 1 ∷ 1 ∷ 1 ∷ 13 ∷ 6 ∷ 6 ∷ 13 ∷ [])
    (1 ∷ 8 ∷ 0 ∷ 0 ∷ 0 ∷ 0 ∷ 0 ∷ 0 ∷ 0 ∷ 0 ∷ 0 ∷ 0 ∷ 1 ∷ 5 ∷ 0 ∷ 0 ∷ 0 ∷ 0 ∷ 0 ∷ 0 ∷ 0 ∷ 0 ∷ 0 ∷ 0 ∷ 6 ∷ 1 ∷ 0 ∷ 1 ∷ 13 ∷ 0 ∷ 0 ∷ 0 ∷ 0 ∷ 0 ∷ 0 ∷ 0 ∷ 1 ∷ 10 ∷ 0 ∷ 0 ∷ 0 ∷ 0 ∷ 0 ∷ 0 ∷ 0 ∷ 0 ∷ 0 ∷ 0 ∷ 2 ∷ 0 ∷ 2 ∷ 2 ∷ 15 ∷ [])
    (2 ∷ 3 ∷ [])
    ([])
    ∷ []

pub all_come_4 : Hold rows_4
unfolding outcome run begin Text.cut Text.words Text.same Text.digits Text.reading Text.number Text.decimal_by Text.decimal Reader.header Reader.find Reader.numbers Reader.exact Reader.parse Reader.giving Reader.resolve Answers.say Answers.share Answers.pair_lines Sp.size Spp.size Spp.assign is_empty Handles.search Handles.run Handles.turn Handles.expand Handles.walk flip Sp.kid Sp.child Sp.same Sp.seek Sp.room Sp.put Sp.intern Sp.mk Sp.exit Sp.join Sp.both Sp.apply Sp.union Sp.complement Sp.difference Sp.is_zero Sp.is_universal Images.fwd_node Images.fwd Images.led_exit Images.push_node Images.push Images.has_exit Images.has_image mk_spp mk_dup mk_top mk_union mk_union_n mk_intersect_n mk_intersect mk_intersect_n_base mk_complement mk_sequence sequence_by sequence_with mk_star mk_until unite meet open_union open_all opened extend each count_all count_one product base bases finish add_relation unite_one meet_one meet_finish add_last intern0 intern1 intern2 intern_l put_l put seek same2 same_at same_l storeMembers nest_l room_s room_m put4 kind_of op1 op2 nest words least rise test Spp.field Spp.apply Spp.exit Spp.each Spp.complement Spp.sequence Spp.seq_exit Spp.product Spp.star Spp.star_exit Spp.blocks Spp.mk Spp.seek Spp.same Spp.kids Spp.kid Spp.room Spp.put Spp.zero_at Spp.one_at Spp.top_at ListSteps.unite ListSteps.enter ListSteps.enter_in ListSteps.place ListSteps.st_singleton ListSteps.split ListSteps.insert ListSteps.insert_each ListSteps.insert_pairs ListSteps.st_union ListSteps.st_intersect ListSteps.cover_all ListSteps.st_complement ListSteps.st_postcompose ListSteps.st_precompose ListSteps.st_intersect_expr epsilon_of set_word keep_epsilon each_of unite_all meet_all epsilon_by_kind epsilon_with epsilon_by epsilon start_of count_of edges flat room_t append list_at keep_list union_all intersect_all sequence_list star_list until_list dup_list top_list delta_by_kind delta_with delta_by delta Sp.constants Spp.constants Spp.zeros Spp.ones Spp.tops enqueue label_to enlarge keep_in explore pull_back pull_from pull_all settle live_anew live_sets live_packets live_of viable prune delta_pruned Images.bwd_node Images.bwd Images.ifwd_node Images.ifwd Images.pull_node Images.pull mk_difference mk_xor ListSteps.subtract_row ListSteps.subtract_rows ListSteps.st_difference ListSteps.st_xor
all_come_4 = (refl, (refl, (refl, (refl, (refl, (refl, (refl, (refl, (refl, (refl, tt))))))))))

abbrev pub rows_5 : List Row
rows_5 =
    -- small 1
    book
    (record { sp = 40; spp = 120; states = 240; members = 40; transitions = 60; pending = 60; scratch = 6144; output = 400 })
    "fields 3 budget 10\ndup\ntest 0 1\nset 1 1\nseq 0 2\nseq 1 3\nempty 0\nxor 1 4\nempty 0\nuntil 3 2\npruned 6\nseq 3 6\nseq 10 10\nor 4 3\npruned 3\nempty 8\nempty 12\n"
    0 0 "fields 3\nempty 0 no 2\nempty 0 no 2\npruned 6 1\npair 2 4\npruned 3 1\npair 2 8\nempty 8 no 1\nempty 12 no 2\n"
    (0 ∷ 0 ∷ 2 ∷ 2 ∷ 4 ∷ 4 ∷ 4 ∷ 5 ∷ [])
    (0 ∷ 0 ∷ 0 ∷ 0 ∷ 2 ∷ 2 ∷ 2 ∷ 2 ∷ 3 ∷ 3 ∷ 3 ∷ 3 ∷ 1 ∷ 0 ∷ 0 ∷ 1 ∷ 5 ∷ 2 ∷ 2 ∷ 5 ∷ 6 ∷ 3 ∷ 3 ∷ 6 ∷ 1 ∷ 1 ∷ 1 ∷ 1 ∷ 8 ∷ 8 ∷ 8 ∷ 8 ∷ 9 ∷ 9 ∷ 9 ∷ 9 ∷ 3 ∷ 3 ∷ 3 ∷ 6 ∷ 2 ∷ 5 ∷ 2 ∷ 5 ∷ 12 ∷ 3 ∷ 3 ∷ 12 ∷ 6 ∷ 3 ∷ 3 ∷ 3 ∷ [])
    (9 ∷ 0 ∷ 0 ∷ 0 ∷ 5 ∷ 0 ∷ 2 ∷ 0 ∷ 0 ∷ 0 ∷ 0 ∷ 0 ∷ 1 ∷ 11 ∷ 0 ∷ 0 ∷ 0 ∷ 1 ∷ 1 ∷ 0 ∷ 0 ∷ 0 ∷ 0 ∷ 0 ∷ 1 ∷ 13 ∷ 0 ∷ 0 ∷ 0 ∷ 1 ∷ 1 ∷ 8 ∷ 0 ∷ 0 ∷ 0 ∷ 0 ∷ 7 ∷ 0 ∷ 2 ∷ 1 ∷ 5 ∷ 1 ∷ 2 ∷ 8 ∷ 0 ∷ 0 ∷ 0 ∷ 0 ∷ 7 ∷ 1 ∷ 3 ∷ 2 ∷ 5 ∷ 2 ∷ 2 ∷ 0 ∷ 0 ∷ 0 ∷ 0 ∷ 0 ∷ 1 ∷ 7 ∷ 0 ∷ 0 ∷ 0 ∷ 0 ∷ 0 ∷ 0 ∷ 0 ∷ 0 ∷ 0 ∷ 0 ∷ 1 ∷ 4 ∷ 0 ∷ 0 ∷ 0 ∷ 0 ∷ 0 ∷ 0 ∷ 0 ∷ 0 ∷ 0 ∷ 0 ∷ 4 ∷ 1 ∷ 4 ∷ 3 ∷ 12 ∷ 3 ∷ 2 ∷ 9 ∷ 0 ∷ 0 ∷ 0 ∷ 0 ∷ 11 ∷ 3 ∷ 2 ∷ 2 ∷ 14 ∷ 0 ∷ 0 ∷ 0 ∷ 0 ∷ 0 ∷ 0 ∷ 0 ∷ 7 ∷ 2 ∷ 7 ∷ 4 ∷ 0 ∷ 0 ∷ 0 ∷ 0 ∷ 0 ∷ 0 ∷ 0 ∷ 0 ∷ 7 ∷ 0 ∷ 9 ∷ 5 ∷ 0 ∷ 0 ∷ 0 ∷ 0 ∷ 0 ∷ 0 ∷ 0 ∷ 0 ∷ 7 ∷ 7 ∷ 10 ∷ 6 ∷ 0 ∷ 0 ∷ 0 ∷ 0 ∷ 0 ∷ 0 ∷ 0 ∷ 0 ∷ 7 ∷ 2 ∷ 11 ∷ 7 ∷ 0 ∷ 0 ∷ 0 ∷ 0 ∷ 0 ∷ 0 ∷ 0 ∷ 0 ∷ 7 ∷ 0 ∷ 12 ∷ 8 ∷ 0 ∷ 0 ∷ 0 ∷ 0 ∷ 0 ∷ 0 ∷ 0 ∷ 0 ∷ 2 ∷ 0 ∷ 2 ∷ 3 ∷ 5 ∷ 4 ∷ 2 ∷ [])
    (3 ∷ 4 ∷ [])
    (5 ∷ 7 ∷ 2 ∷ 7 ∷ 2 ∷ 11 ∷ 2 ∷ 11 ∷ 2 ∷ 7 ∷ [])
    -- small 2
    ∷ book
    (record { sp = 40; spp = 120; states = 240; members = 40; transitions = 60; pending = 60; scratch = 6144; output = 400 })
    "fields 0 budget 1000\ndup\nall\nall\nseq 0 2\nseq 1 3\nstar 4\nall\nall\nseq 0 7\nseq 6 8\nxor 5 4\nstar 9\ninter 10\none\nunion 4 13 0 13 12 2\ninter 12 14 11\nor 6 15\nnot 1\ndup\nuntil 17 15\nuntil 18 18\nempty 11\ndup\nminus 18 4\nminus 6 3\npruned 18\nempty 23\nempty 14\n"
    0 0 "fields 0\nempty 11 no 1\npruned 18 1\npair 1 1\nempty 23 yes 1\nempty 14 no 1\n"
    ([])
    ([])
    (9 ∷ 0 ∷ 0 ∷ 0 ∷ 1 ∷ 0 ∷ 2 ∷ 2 ∷ 0 ∷ 0 ∷ 0 ∷ 0 ∷ 1 ∷ 1 ∷ 0 ∷ 0 ∷ 0 ∷ 1 ∷ 1 ∷ 2 ∷ 0 ∷ 0 ∷ 0 ∷ 0 ∷ 8 ∷ 0 ∷ 0 ∷ 1 ∷ 2 ∷ 0 ∷ 0 ∷ 0 ∷ 0 ∷ 0 ∷ 0 ∷ 0 ∷ 4 ∷ 0 ∷ 2 ∷ 2 ∷ 2 ∷ 0 ∷ 0 ∷ 0 ∷ 0 ∷ 0 ∷ 0 ∷ 0 ∷ 2 ∷ 0 ∷ 3 ∷ 3 ∷ 2 ∷ 0 ∷ 0 ∷ 0 ∷ 0 ∷ 0 ∷ 0 ∷ 0 ∷ 3 ∷ 3 ∷ 3 ∷ 3 ∷ 0 ∷ 0 ∷ 0 ∷ 0 ∷ 0 ∷ 0 ∷ 0 ∷ 0 ∷ 3 ∷ 6 ∷ 3 ∷ 3 ∷ 0 ∷ 0 ∷ 0 ∷ 0 ∷ 0 ∷ 0 ∷ 0 ∷ 0 ∷ 3 ∷ 9 ∷ 2 ∷ 3 ∷ 0 ∷ 0 ∷ 0 ∷ 0 ∷ 0 ∷ 0 ∷ 0 ∷ 0 ∷ 2 ∷ 11 ∷ 3 ∷ 4 ∷ 0 ∷ 0 ∷ 0 ∷ 0 ∷ 0 ∷ 0 ∷ 0 ∷ 0 ∷ 2 ∷ 14 ∷ 4 ∷ 4 ∷ 0 ∷ 0 ∷ 0 ∷ 0 ∷ 0 ∷ 0 ∷ 0 ∷ 0 ∷ 6 ∷ 1 ∷ 0 ∷ 1 ∷ 0 ∷ 0 ∷ 0 ∷ 0 ∷ 0 ∷ 0 ∷ 0 ∷ 0 ∷ 11 ∷ 10 ∷ 8 ∷ 5 ∷ 0 ∷ 0 ∷ 0 ∷ 0 ∷ 0 ∷ 0 ∷ 0 ∷ 0 ∷ 11 ∷ 0 ∷ 0 ∷ 1 ∷ 0 ∷ 0 ∷ 0 ∷ 0 ∷ 0 ∷ 0 ∷ 0 ∷ 0 ∷ 1 ∷ 0 ∷ 0 ∷ 0 ∷ 0 ∷ 1 ∷ 1 ∷ 0 ∷ 0 ∷ 0 ∷ 0 ∷ 0 ∷ 5 ∷ 1 ∷ 0 ∷ 1 ∷ [])
    (0 ∷ 1 ∷ 3 ∷ 0 ∷ 2 ∷ 3 ∷ 2 ∷ 3 ∷ 1 ∷ 2 ∷ 3 ∷ 5 ∷ 6 ∷ 7 ∷ 1 ∷ 5 ∷ 6 ∷ 7 ∷ [])
    (1 ∷ 1 ∷ [])
    -- small 3
    ∷ book
    (record { sp = 40; spp = 120; states = 240; members = 40; transitions = 60; pending = 60; scratch = 6144; output = 400 })
    "fields 0 budget 0\nzero\nminus 0 0\nminus 0 0\none\nnot 2\nnot 4\nor 1 4\ninter 6 4\nzero\ndup\nstar 8\nempty 9\nempty 10\n"
    0 0 "fields 0\nempty 9 spent 0\nempty 10 spent 0\n"
    ([])
    ([])
    (1 ∷ 0 ∷ 0 ∷ 0 ∷ 0 ∷ 0 ∷ 0 ∷ 0 ∷ 0 ∷ 0 ∷ 0 ∷ 0 ∷ 1 ∷ 1 ∷ 0 ∷ 0 ∷ 0 ∷ 0 ∷ 0 ∷ 0 ∷ 0 ∷ 0 ∷ 0 ∷ 0 ∷ 6 ∷ 0 ∷ 0 ∷ 1 ∷ 0 ∷ 0 ∷ 0 ∷ 0 ∷ 0 ∷ 0 ∷ 0 ∷ 0 ∷ 3 ∷ 0 ∷ 1 ∷ 2 ∷ 0 ∷ 0 ∷ 0 ∷ 0 ∷ 0 ∷ 0 ∷ 0 ∷ 0 ∷ 9 ∷ [])
    (2 ∷ [])
    ([])
    -- small 4
    ∷ book
    (record { sp = 40; spp = 120; states = 240; members = 40; transitions = 60; pending = 60; scratch = 6144; output = 400 })
    "fields 3 budget 18446744073709551615\ndup\ntest 0 1\nset 0 1\nseq 0 2\nseq 1 3\nstar 4\ntest 1 0\nunion 2 2\ndup\nor 2 7\nnot 9\nseq 6 2\nnot 4\nseq 12 9\nempty 8\n"
    0 0 "fields 3\nempty 8 no 2\n"
    (0 ∷ 0 ∷ 2 ∷ 2 ∷ 4 ∷ 4 ∷ [])
    (0 ∷ 0 ∷ 0 ∷ 0 ∷ 2 ∷ 2 ∷ 2 ∷ 2 ∷ 3 ∷ 3 ∷ 3 ∷ 3 ∷ 1 ∷ 0 ∷ 0 ∷ 1 ∷ 5 ∷ 2 ∷ 2 ∷ 5 ∷ 6 ∷ 3 ∷ 3 ∷ 6 ∷ 1 ∷ 1 ∷ 1 ∷ 1 ∷ 8 ∷ 8 ∷ 8 ∷ 8 ∷ 9 ∷ 9 ∷ 9 ∷ 9 ∷ 3 ∷ 3 ∷ 3 ∷ 6 ∷ 3 ∷ 6 ∷ 3 ∷ 6 ∷ 5 ∷ 2 ∷ 2 ∷ 2 ∷ 13 ∷ 3 ∷ 3 ∷ 13 ∷ 3 ∷ 13 ∷ 3 ∷ 13 ∷ [])
    (9 ∷ 0 ∷ 0 ∷ 0 ∷ 5 ∷ 0 ∷ 2 ∷ 0 ∷ 0 ∷ 0 ∷ 0 ∷ 0 ∷ 1 ∷ 11 ∷ 0 ∷ 0 ∷ 0 ∷ 0 ∷ 0 ∷ 0 ∷ 0 ∷ 0 ∷ 0 ∷ 0 ∷ 1 ∷ 12 ∷ 0 ∷ 0 ∷ 0 ∷ 0 ∷ 0 ∷ 0 ∷ 0 ∷ 0 ∷ 0 ∷ 0 ∷ 7 ∷ 0 ∷ 2 ∷ 1 ∷ 0 ∷ 0 ∷ 0 ∷ 0 ∷ 0 ∷ 0 ∷ 0 ∷ 0 ∷ 7 ∷ 1 ∷ 3 ∷ 2 ∷ 0 ∷ 0 ∷ 0 ∷ 0 ∷ 0 ∷ 0 ∷ 0 ∷ 0 ∷ 8 ∷ 4 ∷ 0 ∷ 3 ∷ 0 ∷ 0 ∷ 0 ∷ 0 ∷ 0 ∷ 0 ∷ 0 ∷ 0 ∷ 1 ∷ 14 ∷ 0 ∷ 0 ∷ 0 ∷ 0 ∷ 0 ∷ 0 ∷ 0 ∷ 0 ∷ 0 ∷ 0 ∷ 6 ∷ 2 ∷ 0 ∷ 1 ∷ 0 ∷ 0 ∷ 0 ∷ 0 ∷ 0 ∷ 0 ∷ 0 ∷ 0 ∷ 1 ∷ 15 ∷ 0 ∷ 0 ∷ 0 ∷ 0 ∷ 0 ∷ 0 ∷ 0 ∷ 0 ∷ 0 ∷ 0 ∷ 6 ∷ 4 ∷ 0 ∷ 3 ∷ 0 ∷ 0 ∷ 0 ∷ 0 ∷ 0 ∷ 0 ∷ 0 ∷ 0 ∷ 7 ∷ 9 ∷ 2 ∷ 4 ∷ 0 ∷ 0 ∷ 0 ∷ 0 ∷ 0 ∷ 0 ∷ 0 ∷ 0 ∷ 1 ∷ 7 ∷ 0 ∷ 0 ∷ 0 ∷ 0 ∷ 0 ∷ 0 ∷ 0 ∷ 0 ∷ 0 ∷ 0 ∷ 1 ∷ 4 ∷ [])
    ([])
    (11 ∷ 7 ∷ [])
    -- small 5
    ∷ book
    (record { sp = 40; spp = 120; states = 240; members = 40; transitions = 60; pending = 60; scratch = 6144; output = 400 })
    "fields 1 budget 100\ndup\nset 0 0\ntest 0 0\nseq 0 2\nseq 1 3\nstar 4\nset 0 1\ntest 0 1\nseq 0 7\nseq 6 8\nunion 9 8\nminus 7 1\nand 2 8\nxor 10 2\nlive 5\nempty 4\nempty 12\n"
    0 0 "fields 1\nlive 5 2 1000\nempty 4 no 2\nempty 12 yes 1\n"
    (0 ∷ 0 ∷ 0 ∷ 1 ∷ [])
    (0 ∷ 0 ∷ 0 ∷ 0 ∷ 1 ∷ 0 ∷ 0 ∷ 1 ∷ 1 ∷ 1 ∷ 1 ∷ 1 ∷ 1 ∷ 0 ∷ 1 ∷ 0 ∷ 1 ∷ 0 ∷ 0 ∷ 0 ∷ 0 ∷ 1 ∷ 0 ∷ 1 ∷ 0 ∷ 0 ∷ 0 ∷ 1 ∷ [])
    (9 ∷ 0 ∷ 0 ∷ 0 ∷ 3 ∷ 0 ∷ 2 ∷ 0 ∷ 0 ∷ 0 ∷ 0 ∷ 0 ∷ 1 ∷ 5 ∷ 0 ∷ 0 ∷ 0 ∷ 0 ∷ 1 ∷ 0 ∷ 0 ∷ 0 ∷ 0 ∷ 0 ∷ 1 ∷ 6 ∷ 0 ∷ 0 ∷ 0 ∷ 1 ∷ 1 ∷ 0 ∷ 0 ∷ 0 ∷ 0 ∷ 0 ∷ 7 ∷ 0 ∷ 2 ∷ 1 ∷ 3 ∷ 1 ∷ 2 ∷ 0 ∷ 0 ∷ 0 ∷ 0 ∷ 0 ∷ 7 ∷ 1 ∷ 3 ∷ 2 ∷ 3 ∷ 2 ∷ 2 ∷ 0 ∷ 0 ∷ 0 ∷ 0 ∷ 0 ∷ 8 ∷ 4 ∷ 0 ∷ 3 ∷ 4 ∷ 3 ∷ 2 ∷ 4 ∷ 0 ∷ 0 ∷ 0 ∷ 0 ∷ 1 ∷ 7 ∷ 0 ∷ 0 ∷ 0 ∷ 0 ∷ 0 ∷ 0 ∷ 0 ∷ 0 ∷ 0 ∷ 0 ∷ 1 ∷ 8 ∷ 0 ∷ 0 ∷ 0 ∷ 5 ∷ 1 ∷ 0 ∷ 0 ∷ 0 ∷ 0 ∷ 0 ∷ 7 ∷ 0 ∷ 7 ∷ 1 ∷ 3 ∷ 5 ∷ 2 ∷ 0 ∷ 0 ∷ 0 ∷ 0 ∷ 0 ∷ 7 ∷ 6 ∷ 8 ∷ 2 ∷ 0 ∷ 0 ∷ 0 ∷ 0 ∷ 0 ∷ 0 ∷ 0 ∷ 0 ∷ 2 ∷ 0 ∷ 2 ∷ 3 ∷ 0 ∷ 0 ∷ 0 ∷ 0 ∷ 0 ∷ 0 ∷ 0 ∷ 0 ∷ 3 ∷ 2 ∷ 2 ∷ 2 ∷ 3 ∷ 6 ∷ 1 ∷ 0 ∷ 0 ∷ 0 ∷ 0 ∷ 0 ∷ 4 ∷ 2 ∷ 10 ∷ 4 ∷ 0 ∷ 0 ∷ 0 ∷ 0 ∷ 0 ∷ 0 ∷ 0 ∷ 0 ∷ 1 ∷ 3 ∷ 0 ∷ 0 ∷ 0 ∷ 0 ∷ 0 ∷ 0 ∷ 0 ∷ 0 ∷ 0 ∷ 0 ∷ 1 ∷ 2 ∷ 0 ∷ 0 ∷ 0 ∷ 0 ∷ 0 ∷ 0 ∷ 0 ∷ 0 ∷ 0 ∷ 0 ∷ 7 ∷ 2 ∷ 5 ∷ 4 ∷ 7 ∷ 4 ∷ 2 ∷ 6 ∷ [])
    (8 ∷ 9 ∷ 8 ∷ 2 ∷ [])
    (13 ∷ 3 ∷ 2 ∷ 3 ∷ 2 ∷ 5 ∷ 15 ∷ 5 ∷ 15 ∷ 6 ∷ 7 ∷ 3 ∷ [])
    -- small 6
    ∷ book
    (record { sp = 40; spp = 120; states = 240; members = 40; transitions = 60; pending = 60; scratch = 6144; output = 400 })
    "fields 0 budget 1\ndup\nxor 0 0\nunion 1\nall\nuntil 0 3\npruned 0\nempty 1\n"
    0 0 "fields 0\npruned 0 1\npair 2 1\nempty 1 yes 1\n"
    ([])
    ([])
    (9 ∷ 0 ∷ 0 ∷ 0 ∷ 1 ∷ 0 ∷ 2 ∷ 2 ∷ 0 ∷ 0 ∷ 0 ∷ 0 ∷ 1 ∷ 0 ∷ 0 ∷ 0 ∷ 0 ∷ 1 ∷ 1 ∷ 0 ∷ 0 ∷ 0 ∷ 0 ∷ 0 ∷ 1 ∷ 1 ∷ 0 ∷ 0 ∷ 0 ∷ 1 ∷ 1 ∷ 2 ∷ 0 ∷ 0 ∷ 0 ∷ 0 ∷ 11 ∷ 0 ∷ 2 ∷ 1 ∷ [])
    ([])
    (2 ∷ 1 ∷ [])
    -- small 7
    ∷ book
    (record { sp = 40; spp = 120; states = 252; members = 40; transitions = 60; pending = 60; scratch = 6144; output = 400 })
    "fields 2 budget 1000000\ndup\ntest 0 0\nset 1 0\nseq 0 2\nseq 1 3\nset 0 1\ntest 1 1\nseq 0 6\nseq 5 7\nxor 4 8\ndup\nstar 10\nminus 5 10\nand 9 10\nset 0 1\ntest 0 0\nseq 10 14\ndup\ndup\npruned 14\ninter 9 16 18 9 17 14\nor 6 18\nempty 8\nminus 20 16\nempty 21\npruned 17\n"
    0 0 "fields 2\npruned 14 0\nempty 8 no 2\nempty 21 no 1\npruned 17 1\npair 16 4\n"
    (0 ∷ 0 ∷ 2 ∷ 2 ∷ 2 ∷ 3 ∷ [])
    (0 ∷ 0 ∷ 0 ∷ 0 ∷ 2 ∷ 2 ∷ 2 ∷ 2 ∷ 1 ∷ 0 ∷ 0 ∷ 1 ∷ 4 ∷ 2 ∷ 2 ∷ 4 ∷ 1 ∷ 1 ∷ 1 ∷ 1 ∷ 6 ∷ 6 ∷ 6 ∷ 6 ∷ 4 ∷ 2 ∷ 2 ∷ 2 ∷ 1 ∷ 0 ∷ 1 ∷ 0 ∷ 9 ∷ 2 ∷ 2 ∷ 9 ∷ 2 ∷ 4 ∷ 2 ∷ 4 ∷ 0 ∷ 0 ∷ 0 ∷ 1 ∷ 12 ∷ 2 ∷ 2 ∷ 12 ∷ [])
    (9 ∷ 0 ∷ 0 ∷ 0 ∷ 4 ∷ 0 ∷ 2 ∷ 6 ∷ 0 ∷ 0 ∷ 0 ∷ 0 ∷ 1 ∷ 8 ∷ 0 ∷ 0 ∷ 0 ∷ 0 ∷ 0 ∷ 0 ∷ 0 ∷ 0 ∷ 0 ∷ 0 ∷ 1 ∷ 10 ∷ 0 ∷ 0 ∷ 0 ∷ 0 ∷ 0 ∷ 0 ∷ 0 ∷ 0 ∷ 0 ∷ 0 ∷ 7 ∷ 0 ∷ 2 ∷ 1 ∷ 0 ∷ 0 ∷ 0 ∷ 0 ∷ 0 ∷ 0 ∷ 0 ∷ 0 ∷ 7 ∷ 1 ∷ 3 ∷ 2 ∷ 0 ∷ 0 ∷ 0 ∷ 0 ∷ 0 ∷ 0 ∷ 0 ∷ 0 ∷ 1 ∷ 11 ∷ 0 ∷ 0 ∷ 0 ∷ 0 ∷ 1 ∷ 6 ∷ 0 ∷ 0 ∷ 0 ∷ 0 ∷ 1 ∷ 13 ∷ 0 ∷ 0 ∷ 0 ∷ 1 ∷ 1 ∷ 0 ∷ 0 ∷ 0 ∷ 0 ∷ 0 ∷ 7 ∷ 0 ∷ 6 ∷ 1 ∷ 4 ∷ 1 ∷ 2 ∷ 0 ∷ 0 ∷ 0 ∷ 0 ∷ 0 ∷ 7 ∷ 5 ∷ 7 ∷ 2 ∷ 4 ∷ 2 ∷ 2 ∷ 0 ∷ 0 ∷ 0 ∷ 0 ∷ 0 ∷ 4 ∷ 4 ∷ 8 ∷ 3 ∷ 0 ∷ 0 ∷ 0 ∷ 0 ∷ 0 ∷ 0 ∷ 0 ∷ 0 ∷ 8 ∷ 0 ∷ 0 ∷ 1 ∷ 0 ∷ 0 ∷ 0 ∷ 0 ∷ 0 ∷ 0 ∷ 0 ∷ 0 ∷ 5 ∷ 5 ∷ 0 ∷ 1 ∷ 0 ∷ 0 ∷ 0 ∷ 0 ∷ 0 ∷ 0 ∷ 0 ∷ 0 ∷ 3 ∷ 0 ∷ 2 ∷ 4 ∷ 0 ∷ 0 ∷ 0 ∷ 0 ∷ 0 ∷ 0 ∷ 0 ∷ 0 ∷ 7 ∷ 0 ∷ 5 ∷ 1 ∷ 0 ∷ 0 ∷ 0 ∷ 0 ∷ 0 ∷ 0 ∷ 0 ∷ 0 ∷ 3 ∷ 2 ∷ 4 ∷ 4 ∷ 0 ∷ 0 ∷ 0 ∷ 0 ∷ 0 ∷ 0 ∷ 0 ∷ 0 ∷ 2 ∷ 6 ∷ 2 ∷ 1 ∷ 14 ∷ 0 ∷ 0 ∷ 0 ∷ 0 ∷ 0 ∷ 0 ∷ 0 ∷ 1 ∷ 5 ∷ 0 ∷ 0 ∷ 0 ∷ 3 ∷ 1 ∷ 6 ∷ 0 ∷ 0 ∷ 0 ∷ 0 ∷ 1 ∷ 3 ∷ 0 ∷ 0 ∷ 0 ∷ 0 ∷ 0 ∷ 0 ∷ 0 ∷ 0 ∷ 0 ∷ 0 ∷ 5 ∷ 14 ∷ 13 ∷ 5 ∷ [])
    (0 ∷ 9 ∷ 0 ∷ 9 ∷ 13 ∷ 5 ∷ 0 ∷ 6 ∷ [])
    (16 ∷ 5 ∷ 6 ∷ 5 ∷ 6 ∷ 11 ∷ [])
    -- small 8
    ∷ book
    (record { sp = 40; spp = 120; states = 240; members = 40; transitions = 60; pending = 60; scratch = 6144; output = 400 })
    "fields 1 budget 2\ndup\ntest 0 0\ntest 0 0\nseq 0 2\nseq 1 3\ntest 0 1\ntest 0 1\nseq 0 6\nseq 5 7\nminus 4 8\ntest 0 0\nuntil 6 10\nlive 11\nseq 9 10\nxor 13 4\nempty 0\npruned 6\npruned 13\n"
    0 0 "fields 1\nlive 11 1 500\nempty 0 no 2\npruned 6 0\npruned 13 1\npair 1 1\n"
    (0 ∷ 0 ∷ 0 ∷ 1 ∷ [])
    (0 ∷ 0 ∷ 0 ∷ 0 ∷ 1 ∷ 0 ∷ 0 ∷ 1 ∷ 1 ∷ 1 ∷ 1 ∷ 1 ∷ 1 ∷ 0 ∷ 0 ∷ 0 ∷ 0 ∷ 0 ∷ 0 ∷ 1 ∷ 1 ∷ 0 ∷ 1 ∷ [])
    (9 ∷ 0 ∷ 0 ∷ 0 ∷ 3 ∷ 0 ∷ 2 ∷ 0 ∷ 0 ∷ 0 ∷ 0 ∷ 0 ∷ 1 ∷ 5 ∷ 0 ∷ 0 ∷ 0 ∷ 0 ∷ 1 ∷ 6 ∷ 0 ∷ 0 ∷ 0 ∷ 0 ∷ 7 ∷ 0 ∷ 1 ∷ 1 ∷ 3 ∷ 1 ∷ 2 ∷ 0 ∷ 0 ∷ 0 ∷ 0 ∷ 0 ∷ 7 ∷ 1 ∷ 2 ∷ 2 ∷ 3 ∷ 2 ∷ 2 ∷ 0 ∷ 0 ∷ 0 ∷ 0 ∷ 0 ∷ 1 ∷ 6 ∷ 0 ∷ 0 ∷ 0 ∷ 0 ∷ 1 ∷ 5 ∷ 0 ∷ 0 ∷ 0 ∷ 0 ∷ 7 ∷ 0 ∷ 4 ∷ 1 ∷ 3 ∷ 3 ∷ 2 ∷ 0 ∷ 0 ∷ 0 ∷ 0 ∷ 0 ∷ 7 ∷ 4 ∷ 5 ∷ 2 ∷ 3 ∷ 4 ∷ 2 ∷ 0 ∷ 0 ∷ 0 ∷ 0 ∷ 0 ∷ 5 ∷ 3 ∷ 6 ∷ 3 ∷ 3 ∷ 5 ∷ 2 ∷ 0 ∷ 0 ∷ 0 ∷ 0 ∷ 0 ∷ 11 ∷ 4 ∷ 1 ∷ 1 ∷ 6 ∷ 0 ∷ 1 ∷ 6 ∷ 0 ∷ 0 ∷ 0 ∷ 0 ∷ 7 ∷ 7 ∷ 1 ∷ 4 ∷ 3 ∷ 6 ∷ 2 ∷ 6 ∷ 0 ∷ 0 ∷ 0 ∷ 0 ∷ 4 ∷ 3 ∷ 9 ∷ 5 ∷ 0 ∷ 0 ∷ 0 ∷ 0 ∷ 0 ∷ 0 ∷ 0 ∷ 0 ∷ 1 ∷ 3 ∷ 0 ∷ 0 ∷ 0 ∷ 0 ∷ 0 ∷ 0 ∷ 0 ∷ 0 ∷ 0 ∷ 0 ∷ 1 ∷ 2 ∷ [])
    ([])
    (11 ∷ 3 ∷ 1 ∷ 3 ∷ 1 ∷ 5 ∷ 4 ∷ 3 ∷ 4 ∷ 6 ∷ 1 ∷ 5 ∷ 1 ∷ 5 ∷ [])
    -- small 9
    ∷ book
    (record { sp = 40; spp = 120; states = 276; members = 40; transitions = 60; pending = 60; scratch = 6144; output = 400 })
    "fields 1 budget 1\ndup\ntest 0 0\nset 0 1\nseq 0 2\nseq 1 3\nstar 4\nset 0 0\ntest 0 0\nseq 0 7\nseq 6 8\ntest 0 1\ntest 0 1\nseq 0 11\nseq 10 12\nseq 5 13\nxor 14 0\ndup\nxor 15 15\nseq 16 10\nand 18 10\nnot 17\nset 0 0\nseq 13 14\nseq 2 22\nempty 10\n"
    0 0 "fields 1\nempty 10 no 1\n"
    ([])
    (0 ∷ 0 ∷ 0 ∷ 0 ∷ 1 ∷ 0 ∷ 0 ∷ 1 ∷ 1 ∷ 1 ∷ 1 ∷ 1 ∷ 1 ∷ 0 ∷ 0 ∷ 0 ∷ 0 ∷ 1 ∷ 0 ∷ 1 ∷ 1 ∷ 0 ∷ 1 ∷ 0 ∷ 0 ∷ 0 ∷ 0 ∷ 1 ∷ [])
    (9 ∷ 0 ∷ 0 ∷ 0 ∷ 0 ∷ 0 ∷ 0 ∷ 0 ∷ 0 ∷ 0 ∷ 0 ∷ 0 ∷ 1 ∷ 5 ∷ 0 ∷ 0 ∷ 0 ∷ 0 ∷ 0 ∷ 0 ∷ 0 ∷ 0 ∷ 0 ∷ 0 ∷ 1 ∷ 6 ∷ 0 ∷ 0 ∷ 0 ∷ 0 ∷ 0 ∷ 0 ∷ 0 ∷ 0 ∷ 0 ∷ 0 ∷ 7 ∷ 0 ∷ 2 ∷ 1 ∷ 0 ∷ 0 ∷ 0 ∷ 0 ∷ 0 ∷ 0 ∷ 0 ∷ 0 ∷ 7 ∷ 1 ∷ 3 ∷ 2 ∷ 0 ∷ 0 ∷ 0 ∷ 0 ∷ 0 ∷ 0 ∷ 0 ∷ 0 ∷ 8 ∷ 4 ∷ 0 ∷ 3 ∷ 0 ∷ 0 ∷ 0 ∷ 0 ∷ 0 ∷ 0 ∷ 0 ∷ 0 ∷ 1 ∷ 7 ∷ 0 ∷ 0 ∷ 0 ∷ 0 ∷ 0 ∷ 0 ∷ 0 ∷ 0 ∷ 0 ∷ 0 ∷ 7 ∷ 0 ∷ 1 ∷ 1 ∷ 0 ∷ 0 ∷ 0 ∷ 0 ∷ 0 ∷ 0 ∷ 0 ∷ 0 ∷ 7 ∷ 6 ∷ 7 ∷ 2 ∷ 0 ∷ 0 ∷ 0 ∷ 0 ∷ 0 ∷ 0 ∷ 0 ∷ 0 ∷ 1 ∷ 8 ∷ 0 ∷ 0 ∷ 0 ∷ 0 ∷ 0 ∷ 0 ∷ 0 ∷ 0 ∷ 0 ∷ 0 ∷ 7 ∷ 0 ∷ 9 ∷ 1 ∷ 0 ∷ 0 ∷ 0 ∷ 0 ∷ 0 ∷ 0 ∷ 0 ∷ 0 ∷ 7 ∷ 9 ∷ 10 ∷ 2 ∷ 0 ∷ 0 ∷ 0 ∷ 0 ∷ 0 ∷ 0 ∷ 0 ∷ 0 ∷ 7 ∷ 5 ∷ 11 ∷ 4 ∷ 0 ∷ 0 ∷ 0 ∷ 0 ∷ 0 ∷ 0 ∷ 0 ∷ 0 ∷ 4 ∷ 0 ∷ 12 ∷ 5 ∷ 0 ∷ 0 ∷ 0 ∷ 0 ∷ 0 ∷ 0 ∷ 0 ∷ 0 ∷ 1 ∷ 2 ∷ 0 ∷ 0 ∷ 0 ∷ 0 ∷ 0 ∷ 0 ∷ 0 ∷ 0 ∷ 0 ∷ 0 ∷ 3 ∷ 0 ∷ 2 ∷ 2 ∷ 0 ∷ 0 ∷ 0 ∷ 0 ∷ 0 ∷ 0 ∷ 0 ∷ 0 ∷ 6 ∷ 14 ∷ 0 ∷ 1 ∷ 0 ∷ 0 ∷ 0 ∷ 0 ∷ 0 ∷ 0 ∷ 0 ∷ 0 ∷ 7 ∷ 9 ∷ 12 ∷ 5 ∷ 0 ∷ 0 ∷ 0 ∷ 0 ∷ 0 ∷ 0 ∷ 0 ∷ 0 ∷ 7 ∷ 0 ∷ 17 ∷ 6 ∷ 0 ∷ 0 ∷ 0 ∷ 0 ∷ 0 ∷ 0 ∷ 0 ∷ 0 ∷ 7 ∷ 9 ∷ 18 ∷ 7 ∷ 0 ∷ 0 ∷ 0 ∷ 0 ∷ 0 ∷ 0 ∷ 0 ∷ 0 ∷ 7 ∷ 2 ∷ 19 ∷ 8 ∷ [])
    (10 ∷ 9 ∷ [])
    ([])
    -- small 10
    ∷ book
    (record { sp = 40; spp = 120; states = 240; members = 40; transitions = 60; pending = 60; scratch = 6144; output = 400 })
    "fields 0 budget 3\ndup\nall\nall\nseq 0 2\nseq 1 3\nall\none\nseq 0 6\nseq 5 7\nminus 4 4\nempty 9\nlive 6\nunion\nempty 12\nlive 8\nempty 12\n"
    0 0 "fields 0\nempty 9 yes 1\nlive 6 1 1000\nempty 12 yes 1\nlive 8 1 1000\nempty 12 yes 1\n"
    ([])
    ([])
    (9 ∷ 0 ∷ 0 ∷ 0 ∷ 1 ∷ 0 ∷ 2 ∷ 2 ∷ 0 ∷ 0 ∷ 0 ∷ 0 ∷ 1 ∷ 1 ∷ 0 ∷ 0 ∷ 0 ∷ 0 ∷ 1 ∷ 2 ∷ 0 ∷ 0 ∷ 0 ∷ 0 ∷ 1 ∷ 0 ∷ 0 ∷ 0 ∷ 0 ∷ 0 ∷ 1 ∷ [])
    ([])
    (1 ∷ 1 ∷ [])
    ∷ []

pub all_come_5 : Hold rows_5
unfolding outcome run begin Text.cut Text.words Text.same Text.digits Text.reading Text.number Text.decimal_by Text.decimal Reader.header Reader.find Reader.numbers Reader.exact Reader.parse Reader.giving Reader.resolve Answers.say Answers.share Answers.pair_lines Sp.size Spp.size Spp.assign is_empty Handles.search Handles.run Handles.turn Handles.expand Handles.walk flip Sp.kid Sp.child Sp.same Sp.seek Sp.room Sp.put Sp.intern Sp.mk Sp.exit Sp.join Sp.both Sp.apply Sp.union Sp.complement Sp.difference Sp.is_zero Sp.is_universal Images.fwd_node Images.fwd Images.led_exit Images.push_node Images.push Images.has_exit Images.has_image mk_spp mk_dup mk_top mk_union mk_union_n mk_intersect_n mk_intersect mk_intersect_n_base mk_complement mk_sequence sequence_by sequence_with mk_star mk_until unite meet open_union open_all opened extend each count_all count_one product base bases finish add_relation unite_one meet_one meet_finish add_last intern0 intern1 intern2 intern_l put_l put seek same2 same_at same_l storeMembers nest_l room_s room_m put4 kind_of op1 op2 nest words least rise test Spp.field Spp.apply Spp.exit Spp.each Spp.complement Spp.sequence Spp.seq_exit Spp.product Spp.star Spp.star_exit Spp.blocks Spp.mk Spp.seek Spp.same Spp.kids Spp.kid Spp.room Spp.put Spp.zero_at Spp.one_at Spp.top_at ListSteps.unite ListSteps.enter ListSteps.enter_in ListSteps.place ListSteps.st_singleton ListSteps.split ListSteps.insert ListSteps.insert_each ListSteps.insert_pairs ListSteps.st_union ListSteps.st_intersect ListSteps.cover_all ListSteps.st_complement ListSteps.st_postcompose ListSteps.st_precompose ListSteps.st_intersect_expr epsilon_of set_word keep_epsilon each_of unite_all meet_all epsilon_by_kind epsilon_with epsilon_by epsilon start_of count_of edges flat room_t append list_at keep_list union_all intersect_all sequence_list star_list until_list dup_list top_list delta_by_kind delta_with delta_by delta Sp.constants Spp.constants Spp.zeros Spp.ones Spp.tops enqueue label_to enlarge keep_in explore pull_back pull_from pull_all settle live_anew live_sets live_packets live_of viable prune delta_pruned Images.bwd_node Images.bwd Images.ifwd_node Images.ifwd Images.pull_node Images.pull mk_difference mk_xor ListSteps.subtract_row ListSteps.subtract_rows ListSteps.st_difference ListSteps.st_xor
all_come_5 = (refl, (refl, (refl, (refl, (refl, (refl, (refl, (refl, (refl, (refl, tt))))))))))

abbrev pub rows_6 : List Row
rows_6 =
    -- small 11
    book
    (record { sp = 40; spp = 120; states = 324; members = 40; transitions = 60; pending = 60; scratch = 6144; output = 400 })
    "fields 1 budget 3\ndup\ntest 0 1\ntest 0 0\nseq 0 2\nseq 1 3\nseq 4 4\nset 0 0\ntest 0 0\nseq 0 7\nseq 6 8\nseq 4 5\nset 0 0\ntest 0 0\nseq 0 12\nseq 11 13\nseq 14 14\nor 5 4\ndup\ntest 0 0\nxor 18 17\ninter\nempty 18\nand 20 16\nseq 17 1\nempty 8\ntest 0 1\ndup\npruned 26\n"
    0 0 "fields 1\nempty 18 no 1\nempty 8 no 2\npruned 26 1\npair 23 2\n"
    ([])
    (0 ∷ 0 ∷ 0 ∷ 0 ∷ 1 ∷ 0 ∷ 0 ∷ 1 ∷ 1 ∷ 1 ∷ 1 ∷ 1 ∷ 0 ∷ 0 ∷ 0 ∷ 1 ∷ 1 ∷ 0 ∷ 0 ∷ 0 ∷ 1 ∷ 0 ∷ 1 ∷ [])
    (9 ∷ 0 ∷ 0 ∷ 0 ∷ 3 ∷ 0 ∷ 2 ∷ 4 ∷ 0 ∷ 0 ∷ 0 ∷ 0 ∷ 1 ∷ 5 ∷ 0 ∷ 0 ∷ 0 ∷ 0 ∷ 0 ∷ 0 ∷ 0 ∷ 0 ∷ 0 ∷ 0 ∷ 1 ∷ 6 ∷ 0 ∷ 0 ∷ 0 ∷ 1 ∷ 1 ∷ 0 ∷ 0 ∷ 0 ∷ 0 ∷ 0 ∷ 7 ∷ 0 ∷ 2 ∷ 1 ∷ 3 ∷ 1 ∷ 2 ∷ 0 ∷ 0 ∷ 0 ∷ 0 ∷ 0 ∷ 7 ∷ 1 ∷ 3 ∷ 2 ∷ 0 ∷ 0 ∷ 0 ∷ 0 ∷ 0 ∷ 0 ∷ 0 ∷ 0 ∷ 7 ∷ 2 ∷ 4 ∷ 3 ∷ 0 ∷ 0 ∷ 0 ∷ 0 ∷ 0 ∷ 0 ∷ 0 ∷ 0 ∷ 7 ∷ 0 ∷ 5 ∷ 4 ∷ 0 ∷ 0 ∷ 0 ∷ 0 ∷ 0 ∷ 0 ∷ 0 ∷ 0 ∷ 7 ∷ 1 ∷ 6 ∷ 5 ∷ 0 ∷ 0 ∷ 0 ∷ 0 ∷ 0 ∷ 0 ∷ 0 ∷ 0 ∷ 1 ∷ 7 ∷ 0 ∷ 0 ∷ 0 ∷ 0 ∷ 0 ∷ 0 ∷ 0 ∷ 0 ∷ 0 ∷ 0 ∷ 7 ∷ 8 ∷ 3 ∷ 2 ∷ 0 ∷ 0 ∷ 0 ∷ 0 ∷ 0 ∷ 0 ∷ 0 ∷ 0 ∷ 7 ∷ 2 ∷ 7 ∷ 6 ∷ 0 ∷ 0 ∷ 0 ∷ 0 ∷ 0 ∷ 0 ∷ 0 ∷ 0 ∷ 7 ∷ 0 ∷ 10 ∷ 7 ∷ 0 ∷ 0 ∷ 0 ∷ 0 ∷ 0 ∷ 0 ∷ 0 ∷ 0 ∷ 7 ∷ 1 ∷ 11 ∷ 8 ∷ 0 ∷ 0 ∷ 0 ∷ 0 ∷ 0 ∷ 0 ∷ 0 ∷ 0 ∷ 7 ∷ 2 ∷ 9 ∷ 3 ∷ 0 ∷ 0 ∷ 0 ∷ 0 ∷ 0 ∷ 0 ∷ 0 ∷ 0 ∷ 7 ∷ 0 ∷ 13 ∷ 4 ∷ 0 ∷ 0 ∷ 0 ∷ 0 ∷ 0 ∷ 0 ∷ 0 ∷ 0 ∷ 7 ∷ 8 ∷ 14 ∷ 5 ∷ 0 ∷ 0 ∷ 0 ∷ 0 ∷ 0 ∷ 0 ∷ 0 ∷ 0 ∷ 2 ∷ 0 ∷ 2 ∷ 6 ∷ 0 ∷ 0 ∷ 0 ∷ 0 ∷ 0 ∷ 0 ∷ 0 ∷ 0 ∷ 4 ∷ 0 ∷ 2 ∷ 1 ∷ 0 ∷ 0 ∷ 0 ∷ 0 ∷ 0 ∷ 0 ∷ 0 ∷ 0 ∷ 12 ∷ 0 ∷ 0 ∷ 0 ∷ 0 ∷ 0 ∷ 0 ∷ 0 ∷ 0 ∷ 0 ∷ 0 ∷ 0 ∷ 3 ∷ 2 ∷ 1 ∷ 3 ∷ 0 ∷ 0 ∷ 0 ∷ 0 ∷ 0 ∷ 0 ∷ 0 ∷ 0 ∷ 3 ∷ 3 ∷ 1 ∷ 6 ∷ 0 ∷ 0 ∷ 0 ∷ 0 ∷ 0 ∷ 0 ∷ 0 ∷ 0 ∷ 2 ∷ 4 ∷ 2 ∷ 7 ∷ 0 ∷ 0 ∷ 0 ∷ 0 ∷ 0 ∷ 0 ∷ 0 ∷ 0 ∷ 7 ∷ 0 ∷ 1 ∷ 1 ∷ 0 ∷ 0 ∷ 0 ∷ 0 ∷ 0 ∷ 0 ∷ 0 ∷ 0 ∷ 1 ∷ 3 ∷ 0 ∷ 0 ∷ 0 ∷ 2 ∷ 1 ∷ 4 ∷ 0 ∷ 0 ∷ 0 ∷ 0 ∷ 1 ∷ 2 ∷ [])
    (4 ∷ 7 ∷ 4 ∷ 7 ∷ 19 ∷ 20 ∷ [])
    (23 ∷ 3 ∷ 2 ∷ 3 ∷ [])
    -- small 12
    ∷ book
    (record { sp = 40; spp = 120; states = 240; members = 40; transitions = 60; pending = 60; scratch = 6144; output = 400 })
    "fields 1 budget 100\ndup\ntest 0 0\ntest 0 1\nseq 0 2\nseq 1 3\nand 2 0\ntest 0 1\nempty 2\nset 0 1\npruned 8\npruned 8\nempty 3\n"
    0 0 "fields 1\nempty 2 no 1\npruned 8 0\npruned 8 0\nempty 3 no 2\n"
    ([])
    (0 ∷ 0 ∷ 0 ∷ 0 ∷ 1 ∷ 0 ∷ 0 ∷ 1 ∷ 1 ∷ 1 ∷ 1 ∷ 1 ∷ 1 ∷ 0 ∷ 0 ∷ 0 ∷ 0 ∷ 0 ∷ 0 ∷ 1 ∷ 0 ∷ 1 ∷ 0 ∷ 1 ∷ [])
    (9 ∷ 0 ∷ 0 ∷ 0 ∷ 3 ∷ 0 ∷ 2 ∷ 0 ∷ 0 ∷ 0 ∷ 0 ∷ 0 ∷ 1 ∷ 5 ∷ 0 ∷ 0 ∷ 0 ∷ 0 ∷ 0 ∷ 0 ∷ 0 ∷ 0 ∷ 0 ∷ 0 ∷ 1 ∷ 6 ∷ 0 ∷ 0 ∷ 0 ∷ 1 ∷ 1 ∷ 0 ∷ 0 ∷ 0 ∷ 0 ∷ 0 ∷ 7 ∷ 0 ∷ 2 ∷ 1 ∷ 3 ∷ 1 ∷ 2 ∷ 0 ∷ 0 ∷ 0 ∷ 0 ∷ 0 ∷ 7 ∷ 1 ∷ 3 ∷ 2 ∷ 0 ∷ 0 ∷ 0 ∷ 0 ∷ 0 ∷ 0 ∷ 0 ∷ 0 ∷ 3 ∷ 0 ∷ 2 ∷ 1 ∷ 0 ∷ 0 ∷ 0 ∷ 0 ∷ 0 ∷ 0 ∷ 0 ∷ 0 ∷ 1 ∷ 7 ∷ 0 ∷ 0 ∷ 0 ∷ 0 ∷ 1 ∷ 4 ∷ 0 ∷ 0 ∷ 0 ∷ 0 ∷ 1 ∷ 3 ∷ 0 ∷ 0 ∷ 0 ∷ 0 ∷ 0 ∷ 0 ∷ 0 ∷ 0 ∷ 0 ∷ 0 ∷ 1 ∷ 2 ∷ [])
    (0 ∷ 2 ∷ [])
    (7 ∷ 3 ∷ 2 ∷ 3 ∷ [])
    -- small 13
    ∷ book
    (record { sp = 40; spp = 120; states = 252; members = 40; transitions = 60; pending = 60; scratch = 6144; output = 400 })
    "fields 2 budget 100\ndup\ntest 0 0\ntest 0 0\nseq 0 2\nseq 1 3\nseq 4 4\ntest 1 0\ntest 0 0\nseq 0 7\nseq 6 8\ntest 0 1\nset 0 1\nseq 0 11\nseq 10 12\nor 5 5\nseq 11 6\nempty 8\nseq 15 14\nand 17 17\nunion 18 2 15 17\ntest 0 1\nempty 19\npruned 14\nempty 19\n"
    0 0 "fields 2\nempty 8 no 2\nempty 19 no 1\npruned 14 1\npair 4 2\nempty 19 no 1\n"
    (0 ∷ 0 ∷ 2 ∷ 2 ∷ 2 ∷ 3 ∷ [])
    (0 ∷ 0 ∷ 0 ∷ 0 ∷ 2 ∷ 2 ∷ 2 ∷ 2 ∷ 1 ∷ 0 ∷ 0 ∷ 1 ∷ 4 ∷ 2 ∷ 2 ∷ 4 ∷ 1 ∷ 1 ∷ 1 ∷ 1 ∷ 6 ∷ 6 ∷ 6 ∷ 6 ∷ 4 ∷ 2 ∷ 2 ∷ 2 ∷ 1 ∷ 0 ∷ 0 ∷ 0 ∷ 9 ∷ 2 ∷ 2 ∷ 9 ∷ 2 ∷ 2 ∷ 2 ∷ 4 ∷ 2 ∷ 4 ∷ 2 ∷ 4 ∷ 2 ∷ 9 ∷ 2 ∷ 9 ∷ 4 ∷ 9 ∷ 2 ∷ 9 ∷ 6 ∷ 2 ∷ 6 ∷ 2 ∷ [])
    (9 ∷ 0 ∷ 0 ∷ 0 ∷ 4 ∷ 0 ∷ 2 ∷ 0 ∷ 0 ∷ 0 ∷ 0 ∷ 0 ∷ 1 ∷ 8 ∷ 0 ∷ 0 ∷ 0 ∷ 1 ∷ 1 ∷ 8 ∷ 0 ∷ 0 ∷ 0 ∷ 0 ∷ 7 ∷ 0 ∷ 1 ∷ 1 ∷ 4 ∷ 1 ∷ 2 ∷ 0 ∷ 0 ∷ 0 ∷ 0 ∷ 0 ∷ 7 ∷ 1 ∷ 2 ∷ 2 ∷ 4 ∷ 2 ∷ 2 ∷ 0 ∷ 0 ∷ 0 ∷ 0 ∷ 0 ∷ 7 ∷ 1 ∷ 3 ∷ 3 ∷ 4 ∷ 3 ∷ 2 ∷ 8 ∷ 0 ∷ 0 ∷ 0 ∷ 0 ∷ 7 ∷ 0 ∷ 4 ∷ 4 ∷ 4 ∷ 4 ∷ 2 ∷ 0 ∷ 0 ∷ 0 ∷ 0 ∷ 0 ∷ 7 ∷ 1 ∷ 5 ∷ 5 ∷ 4 ∷ 5 ∷ 2 ∷ 8 ∷ 0 ∷ 0 ∷ 0 ∷ 0 ∷ 1 ∷ 10 ∷ 0 ∷ 0 ∷ 0 ∷ 0 ∷ 0 ∷ 0 ∷ 0 ∷ 0 ∷ 0 ∷ 0 ∷ 7 ∷ 7 ∷ 2 ∷ 2 ∷ 0 ∷ 0 ∷ 0 ∷ 0 ∷ 0 ∷ 0 ∷ 0 ∷ 0 ∷ 1 ∷ 11 ∷ 0 ∷ 0 ∷ 0 ∷ 0 ∷ 0 ∷ 0 ∷ 0 ∷ 0 ∷ 0 ∷ 0 ∷ 1 ∷ 12 ∷ 0 ∷ 0 ∷ 0 ∷ 0 ∷ 0 ∷ 0 ∷ 0 ∷ 0 ∷ 0 ∷ 0 ∷ 7 ∷ 0 ∷ 10 ∷ 1 ∷ 0 ∷ 0 ∷ 0 ∷ 0 ∷ 0 ∷ 0 ∷ 0 ∷ 0 ∷ 7 ∷ 9 ∷ 11 ∷ 2 ∷ 0 ∷ 0 ∷ 0 ∷ 0 ∷ 0 ∷ 0 ∷ 0 ∷ 0 ∷ 1 ∷ 13 ∷ 0 ∷ 0 ∷ 0 ∷ 0 ∷ 0 ∷ 0 ∷ 0 ∷ 0 ∷ 0 ∷ 0 ∷ 1 ∷ 5 ∷ 0 ∷ 0 ∷ 0 ∷ 0 ∷ 0 ∷ 0 ∷ 0 ∷ 0 ∷ 0 ∷ 0 ∷ 1 ∷ 3 ∷ 0 ∷ 0 ∷ 0 ∷ 0 ∷ 0 ∷ 0 ∷ 0 ∷ 0 ∷ 0 ∷ 0 ∷ 7 ∷ 13 ∷ 6 ∷ 6 ∷ 4 ∷ 0 ∷ 0 ∷ 0 ∷ 0 ∷ 0 ∷ 0 ∷ 0 ∷ 1 ∷ 14 ∷ 0 ∷ 0 ∷ 0 ∷ 0 ∷ 0 ∷ 0 ∷ 0 ∷ 0 ∷ 0 ∷ 0 ∷ 2 ∷ 0 ∷ 2 ∷ 7 ∷ 15 ∷ [])
    (16 ∷ 17 ∷ [])
    (14 ∷ 5 ∷ 1 ∷ 5 ∷ 1 ∷ 8 ∷ 1 ∷ 8 ∷ 4 ∷ 5 ∷ 4 ∷ 8 ∷ [])
    -- small 14
    ∷ book
    (record { sp = 40; spp = 120; states = 240; members = 40; transitions = 60; pending = 60; scratch = 6144; output = 400 })
    "fields 1 budget 100\ndup\ntest 0 0\ntest 0 1\nseq 0 2\nseq 1 3\ntest 0 1\nset 0 1\nseq 0 6\nseq 5 7\nstar 8\nminus 9 8\npruned 0\nseq 10 10\nempty 10\nempty 5\nempty 5\nempty 8\nlive 0\n"
    0 0 "fields 1\npruned 0 1\npair 10 2\nempty 10 no 1\nempty 5 no 1\nempty 5 no 1\nempty 8 no 2\nlive 0 2 1000\n"
    (0 ∷ 0 ∷ 0 ∷ 1 ∷ [])
    (0 ∷ 0 ∷ 0 ∷ 0 ∷ 1 ∷ 0 ∷ 0 ∷ 1 ∷ 1 ∷ 1 ∷ 1 ∷ 1 ∷ 1 ∷ 0 ∷ 0 ∷ 0 ∷ 0 ∷ 0 ∷ 0 ∷ 1 ∷ 0 ∷ 1 ∷ 0 ∷ 1 ∷ [])
    (9 ∷ 0 ∷ 0 ∷ 0 ∷ 3 ∷ 0 ∷ 2 ∷ 4 ∷ 0 ∷ 0 ∷ 0 ∷ 0 ∷ 1 ∷ 5 ∷ 0 ∷ 0 ∷ 0 ∷ 0 ∷ 0 ∷ 0 ∷ 0 ∷ 0 ∷ 0 ∷ 0 ∷ 1 ∷ 6 ∷ 0 ∷ 0 ∷ 0 ∷ 1 ∷ 1 ∷ 0 ∷ 0 ∷ 0 ∷ 0 ∷ 0 ∷ 7 ∷ 0 ∷ 2 ∷ 1 ∷ 0 ∷ 0 ∷ 0 ∷ 0 ∷ 0 ∷ 0 ∷ 0 ∷ 0 ∷ 7 ∷ 1 ∷ 3 ∷ 2 ∷ 0 ∷ 0 ∷ 0 ∷ 0 ∷ 0 ∷ 0 ∷ 0 ∷ 0 ∷ 1 ∷ 7 ∷ 0 ∷ 0 ∷ 0 ∷ 1 ∷ 1 ∷ 0 ∷ 0 ∷ 0 ∷ 0 ∷ 0 ∷ 7 ∷ 0 ∷ 5 ∷ 1 ∷ 3 ∷ 1 ∷ 2 ∷ 0 ∷ 0 ∷ 0 ∷ 0 ∷ 0 ∷ 7 ∷ 2 ∷ 6 ∷ 2 ∷ 3 ∷ 2 ∷ 2 ∷ 0 ∷ 0 ∷ 0 ∷ 0 ∷ 0 ∷ 8 ∷ 7 ∷ 0 ∷ 3 ∷ 4 ∷ 0 ∷ 0 ∷ 0 ∷ 0 ∷ 0 ∷ 0 ∷ 0 ∷ 5 ∷ 8 ∷ 7 ∷ 4 ∷ 4 ∷ 0 ∷ 0 ∷ 0 ∷ 0 ∷ 0 ∷ 0 ∷ 0 ∷ 1 ∷ 3 ∷ 0 ∷ 0 ∷ 0 ∷ 1 ∷ 1 ∷ 4 ∷ 0 ∷ 0 ∷ 0 ∷ 0 ∷ 1 ∷ 2 ∷ 0 ∷ 0 ∷ 0 ∷ 0 ∷ 0 ∷ 0 ∷ 0 ∷ 0 ∷ 0 ∷ 0 ∷ 7 ∷ 9 ∷ 9 ∷ 5 ∷ [])
    ([])
    (10 ∷ 3 ∷ 5 ∷ 3 ∷ 5 ∷ 6 ∷ [])
    -- small 15
    ∷ book
    (record { sp = 40; spp = 120; states = 240; members = 40; transitions = 60; pending = 60; scratch = 6144; output = 400 })
    "fields 3 budget 0\ndup\ntest 2 0\ntest 2 1\nseq 0 2\nseq 1 3\nnot 3\nempty 3\n"
    0 0 "fields 3\nempty 3 spent 0\n"
    (0 ∷ 0 ∷ 2 ∷ 2 ∷ 4 ∷ 4 ∷ [])
    (0 ∷ 0 ∷ 0 ∷ 0 ∷ 2 ∷ 2 ∷ 2 ∷ 2 ∷ 3 ∷ 3 ∷ 3 ∷ 3 ∷ 1 ∷ 0 ∷ 0 ∷ 1 ∷ 5 ∷ 2 ∷ 2 ∷ 5 ∷ 6 ∷ 3 ∷ 3 ∷ 6 ∷ 1 ∷ 1 ∷ 1 ∷ 1 ∷ 8 ∷ 8 ∷ 8 ∷ 8 ∷ 9 ∷ 9 ∷ 9 ∷ 9 ∷ 1 ∷ 0 ∷ 0 ∷ 0 ∷ 11 ∷ 2 ∷ 2 ∷ 11 ∷ 12 ∷ 3 ∷ 3 ∷ 12 ∷ 0 ∷ 0 ∷ 0 ∷ 1 ∷ 14 ∷ 2 ∷ 2 ∷ 14 ∷ 15 ∷ 3 ∷ 3 ∷ 15 ∷ [])
    (9 ∷ 0 ∷ 0 ∷ 0 ∷ 0 ∷ 0 ∷ 0 ∷ 0 ∷ 0 ∷ 0 ∷ 0 ∷ 0 ∷ 1 ∷ 13 ∷ 0 ∷ 0 ∷ 0 ∷ 0 ∷ 0 ∷ 0 ∷ 0 ∷ 0 ∷ 0 ∷ 0 ∷ 1 ∷ 16 ∷ 0 ∷ 0 ∷ 0 ∷ 0 ∷ 0 ∷ 0 ∷ 0 ∷ 0 ∷ 0 ∷ 0 ∷ 7 ∷ 0 ∷ 2 ∷ 1 ∷ 0 ∷ 0 ∷ 0 ∷ 0 ∷ 0 ∷ 0 ∷ 0 ∷ 0 ∷ 7 ∷ 1 ∷ 3 ∷ 2 ∷ 0 ∷ 0 ∷ 0 ∷ 0 ∷ 0 ∷ 0 ∷ 0 ∷ 0 ∷ 6 ∷ 3 ∷ 0 ∷ 2 ∷ [])
    ([])
    ([])
    -- small 16
    ∷ book
    (record { sp = 40; spp = 120; states = 240; members = 40; transitions = 60; pending = 60; scratch = 6144; output = 400 })
    "fields 2 budget 100\ndup\ntest 0 0\ntest 0 1\nseq 0 2\nseq 1 3\nstar 4\nset 1 0\ntest 1 1\nseq 0 7\nseq 6 8\nstar 9\ndup\nlive 6\nempty 11\ntest 0 0\nand 10 8\nnot 11\ntest 0 1\nempty 10\nunion 9 17\ninter 17\nseq 19 19\nand 9 8\npruned 22\nempty 19\npruned 22\npruned 17\n"
    0 0 "fields 2\nlive 6 4 1000\nempty 11 no 2\nempty 10 no 1\npruned 22 0\nempty 19 no 1\npruned 22 0\npruned 17 0\n"
    (0 ∷ 0 ∷ 2 ∷ 2 ∷ 0 ∷ 1 ∷ 6 ∷ 6 ∷ 2 ∷ 3 ∷ [])
    (0 ∷ 0 ∷ 0 ∷ 0 ∷ 2 ∷ 2 ∷ 2 ∷ 2 ∷ 1 ∷ 0 ∷ 0 ∷ 1 ∷ 4 ∷ 2 ∷ 2 ∷ 4 ∷ 1 ∷ 1 ∷ 1 ∷ 1 ∷ 6 ∷ 6 ∷ 6 ∷ 6 ∷ 4 ∷ 2 ∷ 2 ∷ 2 ∷ 2 ∷ 2 ∷ 2 ∷ 4 ∷ 1 ∷ 0 ∷ 1 ∷ 0 ∷ 10 ∷ 2 ∷ 2 ∷ 10 ∷ 0 ∷ 0 ∷ 0 ∷ 1 ∷ 12 ∷ 2 ∷ 2 ∷ 12 ∷ 1 ∷ 0 ∷ 0 ∷ 0 ∷ 14 ∷ 2 ∷ 2 ∷ 14 ∷ 0 ∷ 1 ∷ 0 ∷ 1 ∷ 16 ∷ 16 ∷ 16 ∷ 16 ∷ [])
    (9 ∷ 0 ∷ 0 ∷ 0 ∷ 4 ∷ 0 ∷ 2 ∷ 0 ∷ 0 ∷ 0 ∷ 0 ∷ 0 ∷ 1 ∷ 8 ∷ 0 ∷ 0 ∷ 0 ∷ 0 ∷ 0 ∷ 0 ∷ 0 ∷ 0 ∷ 0 ∷ 0 ∷ 1 ∷ 9 ∷ 0 ∷ 0 ∷ 0 ∷ 4 ∷ 1 ∷ 11 ∷ 0 ∷ 0 ∷ 0 ∷ 0 ∷ 7 ∷ 0 ∷ 2 ∷ 1 ∷ 0 ∷ 0 ∷ 0 ∷ 0 ∷ 0 ∷ 0 ∷ 0 ∷ 0 ∷ 7 ∷ 1 ∷ 3 ∷ 2 ∷ 0 ∷ 0 ∷ 0 ∷ 0 ∷ 0 ∷ 0 ∷ 0 ∷ 0 ∷ 8 ∷ 4 ∷ 0 ∷ 3 ∷ 0 ∷ 0 ∷ 0 ∷ 0 ∷ 0 ∷ 0 ∷ 0 ∷ 0 ∷ 1 ∷ 11 ∷ 0 ∷ 0 ∷ 0 ∷ 0 ∷ 1 ∷ 6 ∷ 0 ∷ 0 ∷ 0 ∷ 0 ∷ 1 ∷ 13 ∷ 0 ∷ 0 ∷ 0 ∷ 1 ∷ 1 ∷ 9 ∷ 0 ∷ 0 ∷ 0 ∷ 0 ∷ 7 ∷ 0 ∷ 7 ∷ 1 ∷ 4 ∷ 1 ∷ 2 ∷ 0 ∷ 0 ∷ 0 ∷ 0 ∷ 0 ∷ 7 ∷ 6 ∷ 8 ∷ 2 ∷ 4 ∷ 2 ∷ 2 ∷ 0 ∷ 0 ∷ 0 ∷ 0 ∷ 0 ∷ 8 ∷ 9 ∷ 0 ∷ 3 ∷ 6 ∷ 0 ∷ 0 ∷ 0 ∷ 0 ∷ 0 ∷ 0 ∷ 0 ∷ 1 ∷ 5 ∷ 0 ∷ 0 ∷ 0 ∷ 0 ∷ 0 ∷ 0 ∷ 0 ∷ 0 ∷ 0 ∷ 0 ∷ 1 ∷ 3 ∷ 0 ∷ 0 ∷ 0 ∷ 0 ∷ 0 ∷ 0 ∷ 0 ∷ 0 ∷ 0 ∷ 0 ∷ 3 ∷ 0 ∷ 2 ∷ 4 ∷ 0 ∷ 0 ∷ 0 ∷ 0 ∷ 0 ∷ 0 ∷ 0 ∷ 0 ∷ 6 ∷ 0 ∷ 0 ∷ 1 ∷ 0 ∷ 0 ∷ 0 ∷ 0 ∷ 0 ∷ 0 ∷ 0 ∷ 0 ∷ 2 ∷ 2 ∷ 2 ∷ 3 ∷ 10 ∷ 0 ∷ 0 ∷ 0 ∷ 0 ∷ 0 ∷ 0 ∷ 0 ∷ 7 ∷ 15 ∷ 15 ∷ 4 ∷ 0 ∷ 0 ∷ 0 ∷ 0 ∷ 0 ∷ 0 ∷ 0 ∷ 0 ∷ 3 ∷ 4 ∷ 2 ∷ 3 ∷ 4 ∷ 3 ∷ 2 ∷ 5 ∷ [])
    (8 ∷ 10 ∷ 2 ∷ 9 ∷ 8 ∷ 9 ∷ [])
    (11 ∷ 5 ∷ 7 ∷ 5 ∷ 7 ∷ 11 ∷ 7 ∷ 15 ∷ [])
    -- small 19
    ∷ book
    (record { sp = 40; spp = 120; states = 240; members = 40; transitions = 60; pending = 60; scratch = 6144; output = 400 })
    "fields 2 budget 2\ndup\ntest 0 0\ntest 0 0\nseq 0 2\nseq 1 3\nstar 4\ntest 1 0\ntest 1 1\nseq 0 7\nseq 6 8\nall\nor 2 0\nseq 6 7\npruned 6\nseq 10 10\nlive 7\n"
    0 0 "fields 2\npruned 6 0\nlive 7 2 500\n"
    (0 ∷ 0 ∷ 2 ∷ 2 ∷ 0 ∷ 1 ∷ 6 ∷ 6 ∷ [])
    (0 ∷ 0 ∷ 0 ∷ 0 ∷ 2 ∷ 2 ∷ 2 ∷ 2 ∷ 1 ∷ 0 ∷ 0 ∷ 1 ∷ 4 ∷ 2 ∷ 2 ∷ 4 ∷ 1 ∷ 1 ∷ 1 ∷ 1 ∷ 6 ∷ 6 ∷ 6 ∷ 6 ∷ 4 ∷ 2 ∷ 2 ∷ 2 ∷ 1 ∷ 0 ∷ 0 ∷ 0 ∷ 9 ∷ 2 ∷ 2 ∷ 9 ∷ 0 ∷ 0 ∷ 0 ∷ 1 ∷ 11 ∷ 2 ∷ 2 ∷ 11 ∷ [])
    (9 ∷ 0 ∷ 0 ∷ 0 ∷ 0 ∷ 0 ∷ 0 ∷ 0 ∷ 0 ∷ 0 ∷ 0 ∷ 0 ∷ 1 ∷ 8 ∷ 0 ∷ 0 ∷ 0 ∷ 0 ∷ 0 ∷ 0 ∷ 0 ∷ 0 ∷ 0 ∷ 0 ∷ 7 ∷ 0 ∷ 1 ∷ 1 ∷ 0 ∷ 0 ∷ 0 ∷ 0 ∷ 0 ∷ 0 ∷ 0 ∷ 0 ∷ 7 ∷ 1 ∷ 2 ∷ 2 ∷ 0 ∷ 0 ∷ 0 ∷ 0 ∷ 0 ∷ 0 ∷ 0 ∷ 0 ∷ 8 ∷ 3 ∷ 0 ∷ 3 ∷ 0 ∷ 0 ∷ 0 ∷ 0 ∷ 0 ∷ 0 ∷ 0 ∷ 0 ∷ 1 ∷ 10 ∷ 0 ∷ 0 ∷ 0 ∷ 0 ∷ 1 ∷ 10 ∷ 0 ∷ 0 ∷ 0 ∷ 0 ∷ 1 ∷ 12 ∷ 0 ∷ 0 ∷ 0 ∷ 0 ∷ 1 ∷ 9 ∷ 0 ∷ 0 ∷ 0 ∷ 0 ∷ 7 ∷ 0 ∷ 6 ∷ 1 ∷ 0 ∷ 0 ∷ 0 ∷ 0 ∷ 0 ∷ 0 ∷ 0 ∷ 0 ∷ 7 ∷ 5 ∷ 7 ∷ 2 ∷ 0 ∷ 0 ∷ 0 ∷ 0 ∷ 0 ∷ 0 ∷ 0 ∷ 0 ∷ 1 ∷ 7 ∷ 0 ∷ 0 ∷ 0 ∷ 0 ∷ 0 ∷ 0 ∷ 0 ∷ 0 ∷ 0 ∷ 0 ∷ 2 ∷ 0 ∷ 2 ∷ 1 ∷ 0 ∷ 0 ∷ 0 ∷ 0 ∷ 0 ∷ 0 ∷ 0 ∷ 0 ∷ 1 ∷ 3 ∷ [])
    (0 ∷ 1 ∷ [])
    ([])
    -- tight 0
    ∷ book
    (record { sp = 60; spp = 117; states = 720; members = 200; transitions = 80; pending = 60; scratch = 6144; output = 400 })
    "fields 2 budget 1000000\ndup\ntest 1 0\ntest 0 1\nseq 1 2\nset 0 0\nset 1 1\nseq 4 5\nseq 6 0\nseq 3 7\ntest 1 0\nset 1 0\nset 0 1\nseq 10 11\nseq 12 0\nseq 9 13\ntest 0 0\none\nseq 0 16\nseq 15 17\ntest 0 0\ntest 1 0\nseq 19 20\nset 0 0\nset 1 1\nseq 22 23\nseq 0 24\nseq 21 25\nunion 8 14 18 26\nstar 27\ntest 1 0\ntest 0 1\nand 29 30\ntest 0 0\nseq 28 32\nseq 31 33\nempty 34\n"
    21 37 "fields 2\n"
    ([])
    ([])
    ([])
    ([])
    ([])
    -- tight 4
    ∷ book
    (record { sp = 2; spp = 46; states = 39; members = 0; transitions = 1; pending = 1; scratch = 6144; output = 21 })
    "fields 3 budget 1\ntest 1 0\nset 0 1\nzero\nempty 1\n"
    20 1 ""
    ([])
    ([])
    ([])
    ([])
    ([])
    -- tight 6
    ∷ book
    (record { sp = 40; spp = 120; states = 240; members = 40; transitions = 60; pending = 60; scratch = 6144; output = 45 })
    "fields 2 budget 2\ndup\ntest 1 1\nset 1 1\nseq 0 2\nseq 1 3\ntest 1 1\ntest 0 0\nseq 0 6\nseq 5 7\nstar 8\ntest 0 0\nset 1 0\nseq 0 11\nseq 10 12\nuntil 4 13\ndup\nnot 14\nlive 11\npruned 12\n"
    0 0 "fields 2\nlive 11 4 1000\npruned 12 1\npair 9 4\n"
    (0 ∷ 0 ∷ 2 ∷ 2 ∷ [])
    (0 ∷ 0 ∷ 0 ∷ 0 ∷ 2 ∷ 2 ∷ 2 ∷ 2 ∷ 1 ∷ 0 ∷ 0 ∷ 1 ∷ 4 ∷ 2 ∷ 2 ∷ 4 ∷ 1 ∷ 1 ∷ 1 ∷ 1 ∷ 6 ∷ 6 ∷ 6 ∷ 6 ∷ 0 ∷ 0 ∷ 0 ∷ 1 ∷ 8 ∷ 2 ∷ 2 ∷ 8 ∷ 0 ∷ 1 ∷ 0 ∷ 1 ∷ 10 ∷ 2 ∷ 2 ∷ 10 ∷ 4 ∷ 2 ∷ 2 ∷ 2 ∷ 1 ∷ 0 ∷ 1 ∷ 0 ∷ 13 ∷ 2 ∷ 2 ∷ 13 ∷ [])
    (9 ∷ 0 ∷ 0 ∷ 0 ∷ 4 ∷ 0 ∷ 2 ∷ 0 ∷ 0 ∷ 0 ∷ 0 ∷ 0 ∷ 1 ∷ 9 ∷ 0 ∷ 0 ∷ 0 ∷ 0 ∷ 0 ∷ 0 ∷ 0 ∷ 0 ∷ 0 ∷ 0 ∷ 1 ∷ 11 ∷ 0 ∷ 0 ∷ 0 ∷ 0 ∷ 0 ∷ 0 ∷ 0 ∷ 0 ∷ 0 ∷ 0 ∷ 7 ∷ 0 ∷ 2 ∷ 1 ∷ 0 ∷ 0 ∷ 0 ∷ 0 ∷ 0 ∷ 0 ∷ 0 ∷ 0 ∷ 7 ∷ 1 ∷ 3 ∷ 2 ∷ 0 ∷ 0 ∷ 0 ∷ 0 ∷ 0 ∷ 0 ∷ 0 ∷ 0 ∷ 1 ∷ 12 ∷ 0 ∷ 0 ∷ 0 ∷ 0 ∷ 0 ∷ 0 ∷ 0 ∷ 0 ∷ 0 ∷ 0 ∷ 7 ∷ 0 ∷ 5 ∷ 1 ∷ 0 ∷ 0 ∷ 0 ∷ 0 ∷ 0 ∷ 0 ∷ 0 ∷ 0 ∷ 7 ∷ 1 ∷ 6 ∷ 2 ∷ 0 ∷ 0 ∷ 0 ∷ 0 ∷ 0 ∷ 0 ∷ 0 ∷ 0 ∷ 8 ∷ 7 ∷ 0 ∷ 3 ∷ 0 ∷ 0 ∷ 0 ∷ 0 ∷ 0 ∷ 0 ∷ 0 ∷ 0 ∷ 1 ∷ 14 ∷ 0 ∷ 0 ∷ 0 ∷ 0 ∷ 1 ∷ 6 ∷ 0 ∷ 0 ∷ 0 ∷ 0 ∷ 7 ∷ 0 ∷ 9 ∷ 1 ∷ 4 ∷ 1 ∷ 2 ∷ 6 ∷ 0 ∷ 0 ∷ 0 ∷ 0 ∷ 7 ∷ 5 ∷ 10 ∷ 2 ∷ 0 ∷ 0 ∷ 0 ∷ 0 ∷ 0 ∷ 0 ∷ 0 ∷ 0 ∷ 11 ∷ 4 ∷ 11 ∷ 3 ∷ 0 ∷ 0 ∷ 0 ∷ 0 ∷ 0 ∷ 0 ∷ 0 ∷ 0 ∷ 6 ∷ 12 ∷ 0 ∷ 4 ∷ 0 ∷ 0 ∷ 0 ∷ 0 ∷ 0 ∷ 0 ∷ 0 ∷ 0 ∷ 1 ∷ 5 ∷ 0 ∷ 0 ∷ 0 ∷ 0 ∷ 0 ∷ 0 ∷ 0 ∷ 0 ∷ 0 ∷ 0 ∷ 1 ∷ 3 ∷ [])
    ([])
    (14 ∷ 5 ∷ 9 ∷ 5 ∷ [])
    ∷ []

pub all_come_6 : Hold rows_6
unfolding outcome run begin Text.cut Text.words Text.same Text.digits Text.reading Text.number Text.decimal_by Text.decimal Reader.header Reader.find Reader.numbers Reader.exact Reader.parse Reader.giving Reader.resolve Answers.say Answers.share Answers.pair_lines Sp.size Spp.size Spp.assign is_empty Handles.search Handles.run Handles.turn Handles.expand Handles.walk flip Sp.kid Sp.child Sp.same Sp.seek Sp.room Sp.put Sp.intern Sp.mk Sp.exit Sp.join Sp.both Sp.apply Sp.union Sp.complement Sp.difference Sp.is_zero Sp.is_universal Images.fwd_node Images.fwd Images.led_exit Images.push_node Images.push Images.has_exit Images.has_image mk_spp mk_dup mk_top mk_union mk_union_n mk_intersect_n mk_intersect mk_intersect_n_base mk_complement mk_sequence sequence_by sequence_with mk_star mk_until unite meet open_union open_all opened extend each count_all count_one product base bases finish add_relation unite_one meet_one meet_finish add_last intern0 intern1 intern2 intern_l put_l put seek same2 same_at same_l storeMembers nest_l room_s room_m put4 kind_of op1 op2 nest words least rise test Spp.field Spp.apply Spp.exit Spp.each Spp.complement Spp.sequence Spp.seq_exit Spp.product Spp.star Spp.star_exit Spp.blocks Spp.mk Spp.seek Spp.same Spp.kids Spp.kid Spp.room Spp.put Spp.zero_at Spp.one_at Spp.top_at ListSteps.unite ListSteps.enter ListSteps.enter_in ListSteps.place ListSteps.st_singleton ListSteps.split ListSteps.insert ListSteps.insert_each ListSteps.insert_pairs ListSteps.st_union ListSteps.st_intersect ListSteps.cover_all ListSteps.st_complement ListSteps.st_postcompose ListSteps.st_precompose ListSteps.st_intersect_expr epsilon_of set_word keep_epsilon each_of unite_all meet_all epsilon_by_kind epsilon_with epsilon_by epsilon start_of count_of edges flat room_t append list_at keep_list union_all intersect_all sequence_list star_list until_list dup_list top_list delta_by_kind delta_with delta_by delta Sp.constants Spp.constants Spp.zeros Spp.ones Spp.tops enqueue label_to enlarge keep_in explore pull_back pull_from pull_all settle live_anew live_sets live_packets live_of viable prune delta_pruned Images.bwd_node Images.bwd Images.ifwd_node Images.ifwd Images.pull_node Images.pull mk_difference mk_xor ListSteps.subtract_row ListSteps.subtract_rows ListSteps.st_difference ListSteps.st_xor
all_come_6 = (refl, (refl, (refl, (refl, (refl, (refl, (refl, (refl, (refl, (refl, tt))))))))))

abbrev pub rows_7 : List Row
rows_7 =
    -- tight 8
    book
    (record { sp = 1; spp = 0; states = 63; members = 1; transitions = 6; pending = 2; scratch = 6144; output = 70 })
    "fields 0 budget 2\nzero\nnot 0\ninter 0 0\nseq 1 1\nunion 2 1 0 1 3 0\nempty 2\nempty 0\nempty 0\npruned 4\n"
    23 6 "fields 0\n"
    ([])
    ([])
    ([])
    ([])
    ([])
    -- tight 10
    ∷ book
    (record { sp = 14; spp = 67; states = 134; members = 0; transitions = 3; pending = 1; scratch = 6144; output = 34 })
    "fields 3 budget 0\ndup\nset 1 1\nset 2 1\nseq 0 2\nseq 1 3\nstar 4\ntest 1 1\ntest 2 1\nseq 0 7\nseq 6 8\nminus 5 5\nunion 10\nstar 9\nstar 9\nxor 10 10\nor 9 11\nseq 14 10\ndup\nlive 15\nlive 16\n"
    21 9 "fields 3\n"
    ([])
    ([])
    ([])
    ([])
    ([])
    -- tight 12
    ∷ book
    (record { sp = 60; spp = 152; states = 720; members = 200; transitions = 80; pending = 60; scratch = 6144; output = 400 })
    "fields 4 budget 2\ndup\nset 1 1\ntest 1 0\nseq 0 2\nseq 1 3\nstar 4\ntest 1 1\nset 0 1\nseq 0 7\nseq 6 8\ntest 2 0\ntest 3 0\nseq 0 11\nseq 10 12\nxor 4 9\nseq 8 12\nand 4 12\nunion 10\nuntil 0 17\nnot 16\nand 17 18\npruned 20\nseq 19 15\nstar 22\nor 12 5\nset 2 1\ninter 23 15 22\nempty 0\nlive 19\npruned 6\n"
    21 30 "fields 4\npruned 20 0\nempty 0 no 2\n"
    ([])
    ([])
    ([])
    ([])
    ([])
    -- tight 19
    ∷ book
    (record { sp = 5; spp = 54; states = 280; members = 0; transitions = 4; pending = 3; scratch = 6144; output = 58 })
    "fields 2 budget 18446744073709551615\ndup\nset 1 1\nset 1 0\nseq 0 2\nseq 1 3\nstar 4\nseq 4 5\ntest 1 0\ntest 1 1\nseq 0 8\nseq 7 9\nstar 10\ntest 0 0\nset 1 1\nseq 0 13\nseq 12 14\nseq 10 10\nxor 10 15\ntest 1 1\nempty 15\nempty 18\npruned 15\n"
    21 10 "fields 2\n"
    ([])
    ([])
    ([])
    ([])
    ([])
    ∷ []

pub all_come_7 : Hold rows_7
unfolding outcome run begin Text.cut Text.words Text.same Text.digits Text.reading Text.number Text.decimal_by Text.decimal Reader.header Reader.find Reader.numbers Reader.exact Reader.parse Reader.giving Reader.resolve Answers.say Answers.share Answers.pair_lines Sp.size Spp.size Spp.assign is_empty Handles.search Handles.run Handles.turn Handles.expand Handles.walk flip Sp.kid Sp.child Sp.same Sp.seek Sp.room Sp.put Sp.intern Sp.mk Sp.exit Sp.join Sp.both Sp.apply Sp.union Sp.complement Sp.difference Sp.is_zero Sp.is_universal Images.fwd_node Images.fwd Images.led_exit Images.push_node Images.push Images.has_exit Images.has_image mk_spp mk_dup mk_top mk_union mk_union_n mk_intersect_n mk_intersect mk_intersect_n_base mk_complement mk_sequence sequence_by sequence_with mk_star mk_until unite meet open_union open_all opened extend each count_all count_one product base bases finish add_relation unite_one meet_one meet_finish add_last intern0 intern1 intern2 intern_l put_l put seek same2 same_at same_l storeMembers nest_l room_s room_m put4 kind_of op1 op2 nest words least rise test Spp.field Spp.apply Spp.exit Spp.each Spp.complement Spp.sequence Spp.seq_exit Spp.product Spp.star Spp.star_exit Spp.blocks Spp.mk Spp.seek Spp.same Spp.kids Spp.kid Spp.room Spp.put Spp.zero_at Spp.one_at Spp.top_at ListSteps.unite ListSteps.enter ListSteps.enter_in ListSteps.place ListSteps.st_singleton ListSteps.split ListSteps.insert ListSteps.insert_each ListSteps.insert_pairs ListSteps.st_union ListSteps.st_intersect ListSteps.cover_all ListSteps.st_complement ListSteps.st_postcompose ListSteps.st_precompose ListSteps.st_intersect_expr epsilon_of set_word keep_epsilon each_of unite_all meet_all epsilon_by_kind epsilon_with epsilon_by epsilon start_of count_of edges flat room_t append list_at keep_list union_all intersect_all sequence_list star_list until_list dup_list top_list delta_by_kind delta_with delta_by delta Sp.constants Spp.constants Spp.zeros Spp.ones Spp.tops enqueue label_to enlarge keep_in explore pull_back pull_from pull_all settle live_anew live_sets live_packets live_of viable prune delta_pruned Images.bwd_node Images.bwd Images.ifwd_node Images.ifwd Images.pull_node Images.pull mk_difference mk_xor ListSteps.subtract_row ListSteps.subtract_rows ListSteps.st_difference ListSteps.st_xor
all_come_7 = (refl, (refl, (refl, (refl, tt))))
