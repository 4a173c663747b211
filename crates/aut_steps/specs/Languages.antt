-- Sets of strings: what a join, a star and an until need of their parts, and the laws by which the constructors simplify. Assumes nothing.
use Rattle.std.specs.Prelude.{◌↔◌, ℕ}
use Rattle.netkat.specs.Strings.{Str}
use Rattle.netkat.specs.Rules.{Language}

-- ---- sets of strings

module _ {N : ℕ} where
  infix 2 ◌≈◌
  abbrev pub ◌≈◌ : Language N → Language N → Type 0
  A ≈ B = (w : Str N) → A w ↔ B w
