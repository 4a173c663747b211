-- 01, "Lent tables": a slice that is lent, x before a call and y after it.
use Rattle.std.specs.Prelude.{◌≡◌, List, length}
use denote.Ref.{MutBor}

-- the same words are lent, as many
pub record SameSlice {X : Type 0} (x y : MutBor (List X)) : Type 0 where
  pub lent : y.ghost_name ≡ x.ghost_name
  pub length : length y.now ≡ length x.now
