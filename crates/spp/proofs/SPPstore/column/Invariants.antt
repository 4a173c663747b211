use mathlib.Core.Path.{◌≡◌}
use Rattle.common.specs.Outcome.{given}
use Rattle.spp.specs.Clauses.{store_of, columns, SameStore}
use Rattle.spp.proofs.SPPstore.column.Given as goal

abbrev pub invariant-loop-below : goal.invariant-loop-below
invariant-loop-below l = record {
  same : SameStore l.initial.self l.self;
  so_far : columns l.initial.self.fields l.diagonal l.initial.x.0 l.below (store_of l.initial.self) ≡ given (store_of l.self) l.x.0;
}
