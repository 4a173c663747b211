use mathlib.Core.Path.{◌≡◌}
use Rattle.slices.specs.Same.{SameSlice}
use Rattle.aut_sets.specs.Lent.{OnlySearch}
use Rattle.book_why.proofs.Writing.{Hopping}
use Rattle.book_why.proofs.put_string.Given as goal

abbrev pub invariant-loop-j : goal.invariant-loop-j
invariant-loop-j l = record {
  keeps : OnlySearch l.initial.aut l.aut;
  pending : l.aut.pending ≡ l.initial.aut.pending;
  bytes : SameSlice l.initial.out.bytes l.out.bytes;
  hopping : Hopping l.config l.n l.hops l.initial.aut l.initial.out l.initial.spot l.initial.j l.aut l.out l.spot l.j;
}
