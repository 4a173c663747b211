use Rattle.slices.specs.Same.{SameSlice}
use Rattle.aut_relations.specs.Lent.{nodes_in}
use Rattle.aut_sets.specs.Lent.{OnlyScratch}
use Rattle.book_pruned.proofs.Pairs as pairs
use Rattle.book_pruned.proofs.put_pairs.Given as goal

abbrev pub invariant-loop-i : goal.invariant-loop-i
invariant-loop-i l =
    OnlyScratch l.initial.aut l.aut × SameSlice l.initial.out.bytes l.out.bytes × pairs.Placed l.config.fields (nodes_in l.initial.aut) l.m l.initial.aut.scratch.now l.initial.out l.aut.scratch.now l.out l.i
