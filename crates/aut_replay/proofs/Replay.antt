-- The laws of specs/Replay.
use Rattle.aut_st_steps.specs.ListSpec.{ListAt, State}
use Rattle.aut_replay.specs.Replay as Replay
use Rattle.aut_replay.specs.Replay.{Call, called, CallAt, DoneAgain, ConstructorsAgain, ListCall, listed, ListCallAt, ListsAgain}
use Rattle.aut_replay.proofs.Constructors.{mk_spp_replay, mk_dup_replay, mk_top_replay, mk_next_replay, mk_until_replay, mk_union_n_replay, mk_union_replay, mk_intersect_n_base_replay, mk_intersect_n_replay, mk_intersect_replay, mk_xor_replay, mk_difference_replay, mk_complement_replay, mk_sequence_replay, mk_star_replay}
use Rattle.aut_replay.proofs.Lists.{insert_replay, st_singleton_replay, st_union_replay, st_intersect_replay, st_difference_replay, st_xor_replay, st_complement_replay, st_postcompose_replay, st_precompose_replay, st_intersect_expr_replay}

pub constructors_again : ConstructorsAgain
constructors_again N L L' wide c σ g a = go c a
  where
    go : (c : Call) → CallAt N σ c → DoneAgain N L L' State (called N c) σ
    go (Replay.spp h) a = mk_spp_replay g a
    go Replay.dup a = mk_dup_replay g
    go Replay.top a = mk_top_replay g
    go (Replay.next x) l = mk_next_replay g l
    go (Replay.until x y) (l, m) = mk_until_replay g l m
    go (Replay.union x y) (l, m) = mk_union_replay wide g l m
    go (Replay.union_n xs) a = mk_union_n_replay wide g xs a
    go (Replay.intersect x y) (l, m) = mk_intersect_replay wide g l m
    go (Replay.intersect_n xs) a = mk_intersect_n_replay wide g xs a
    go (Replay.intersect_n_base xs) a = mk_intersect_n_base_replay wide g xs a
    go (Replay.xor x y) (l, m) = mk_xor_replay g l m
    go (Replay.difference x y) (l, m) = mk_difference_replay g l m
    go (Replay.complement x) l = mk_complement_replay g l
    go (Replay.sequence x y) (l, m) = mk_sequence_replay g l m
    go (Replay.star x) l = mk_star_replay g l

pub lists_again : ListsAgain
lists_again N L L' wide c σ g a = go c a
  where
    go : (c : ListCall) → ListCallAt N L σ c → DoneAgain N L L' (ListAt N L) (listed N c) σ
    go (Replay.insert s l es) (x, b, e) = insert_replay wide g x b e
    go (Replay.st_singleton l s) (x, b, o) = st_singleton_replay wide g x b o
    go (Replay.st_union ts us) (t, u) = st_union_replay wide g t u
    go (Replay.st_intersect ts us) (t, u) = st_intersect_replay wide g t u
    go (Replay.st_difference ts us) (t, u) = st_difference_replay wide g t u
    go (Replay.st_xor ts us) (t, u) = st_xor_replay wide g t u
    go (Replay.st_complement ts) t = st_complement_replay wide g t
    go (Replay.st_postcompose ts x) (t, i) = st_postcompose_replay wide g t i
    go (Replay.st_precompose l ts) (i, t) = st_precompose_replay wide g i t
    go (Replay.st_intersect_expr ts x) (t, i) = st_intersect_expr_replay wide g t i
