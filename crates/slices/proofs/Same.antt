-- What several calls keep of a slice together.
use mathlib.Core.Path.{refl, ◌∙◌}
use mathlib.Core.List.{List}
use denote.Ref.{MutBor}
use Rattle.slices.specs.Same.{SameSlice}

pub slice_refl : {X : Type 0} (x : MutBor (List X)) → SameSlice x x
slice_refl x = record { lent = refl; length = refl }

pub slice_trans : {X : Type 0} {x y z : MutBor (List X)} → SameSlice x y → SameSlice y z → SameSlice x z
slice_trans p q = record { lent = q.lent ∙ p.lent; length = q.length ∙ p.length }
