-- 01, "The book and its answers": lines end with byte 10, and single spaces part their words. The first place of a byte in a text.
use Rattle.std.specs.Prelude.{Bool, true, false, List, [], ◌∷◌, ℕ, zero, suc, eqb}

unfoldable pub index_after : Bool → ℕ → ℕ
index_after true n = zero
index_after false n = suc n

-- the first place of the byte b; the length if there is none
unfoldable pub index_of : ℕ → List ℕ → ℕ
index_of b [] = zero
index_of b (x ∷ l) = index_after (eqb x b) (index_of b l)
