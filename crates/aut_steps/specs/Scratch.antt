-- Lists in a slice of words, for the loops that read and write them: the list from a place on, a part that a step may write, a search from a place on.
use Rattle.std.specs.Prelude.{◌≡◌, List, ℕ, ◌+◌, ◌≤◌, ◌<◌, get_or}

-- ---- what a step may write

-- t is s but for the n words from a on
pub record Kept (a n : ℕ) (s t : List ℕ) : Type 0 where
  pub below : (i : ℕ) → i < a → get_or t i 0 ≡ get_or s i 0
  pub above : (i : ℕ) → a + n ≤ i → get_or t i 0 ≡ get_or s i 0
