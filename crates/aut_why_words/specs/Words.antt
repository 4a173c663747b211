-- 02 (i), and 01, "Lent tables" (words 8 to 11): what the functions on single words ask and promise while `why` runs.
use Rattle.std.specs.Prelude.{◌≡◌, Bool, true, ◌&&◌, List, [], ◌∷◌, ℕ, ◌+◌, ◌*◌, eqb, get_or, set, if◌then◌else◌}
use Rattle.aut_live_words.specs.Work.{seconds, Cleared}

-- words 8 and 9 of these states are equal
unfoldable pub same_words : List ℕ → List ℕ → Bool
same_words [] st = true
same_words (x ∷ xs) st = eqb (get_or st (12 * x + 8) 0) (get_or st (12 * x + 9) 0) && same_words xs st

-- whether the round under work, in word 9, differs from the one before
abbrev pub moved_at : List ℕ → ℕ → ℕ
moved_at st x = if eqb (get_or st (12 * x + 8) 0) (get_or st (12 * x + 9) 0) then 0 else 1

-- words 8 to 11 zero
abbrev pub zero_words : List ℕ → ℕ → List ℕ
zero_words st x = set (set (set (set st (12 * x + 8) 0) (12 * x + 9) 0) (12 * x + 10) 0) (12 * x + 11) 0

unfoldable pub clear_all : List ℕ → List ℕ → List ℕ
clear_all [] st = st
clear_all (x ∷ xs) st = clear_all xs (zero_words st x)

pub record PostClear (n : ℕ) (st p st' p' : List ℕ) : Type 0 where
  pub is : st' ≡ clear_all (seconds p 0 n) st
  pub pending : Cleared n p p'
