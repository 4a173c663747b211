-- The words of a list of transitions, as they are copied from one slice to another.
use mathlib.Core.Path.{◌≡◌, refl, ◌∙◌, ap}
use mathlib.Core.List.{List, ◌∷◌}
use Prim.Native.Nat.{ℕ, zero, suc, ◌+◌, ◌*◌}
use native.Mathlib.Omega.{arith}
use lib.ListN.{get_or}
use Rattle.aut_steps.specs.Tables.{words}
use Rattle.aut_st_steps.specs.Edges.{edges, flat}

-- a list's words are those it is read from
pub flat_edges : (s : List ℕ) (a k : ℕ) → flat (edges s a k) ≡ words s (2 * a) (2 * k)
unfolding flat edges words
flat_edges s a zero = refl
flat_edges s a (suc k) =
    ap (λ (l : List ℕ). get_or s (2 * a) 0 ∷ get_or s (2 * a + 1) 0 ∷ l) (flat_edges s (a + 1) k ∙ ap (λ (b : ℕ). words s b (2 * k)) {x = 2 * (a + 1)} {y = 2 * a + 1 + 1} (omega arith))
    ∙ ap (words s (2 * a)) {x = suc (suc (2 * k))} {y = 2 * suc k} (omega arith)
