-- A transition of a list is in it.
use mathlib.Core.Path.{ap, subst}
use mathlib.Core.List.{List, Memᴰ}
use Prim.Native.Nat.{ℕ, zero, suc, ◌+◌, ◌<◌}
use native.Mathlib.Omega.{arith}
use Rattle.aut_st_steps.specs.Edges.{edges}
use Rattle.aut_st_steps.proofs.Places.{edge_at}

pub edge_in : (s : List ℕ) (a k j : ℕ) → j < k → Memᴰ (edge_at s (a + j)) (edges s a k)
unfolding edges
edge_in s a zero j l = absurd (omega arith)
edge_in s a (suc k) zero l = Memᴰ.head (ap (edge_at s) {x = a + 0} {y = a} (omega arith))
edge_in s a (suc k) (suc j) l = Memᴰ.tail (subst (λ (i : ℕ). Memᴰ (edge_at s i) (edges s (a + 1) k)) {x = a + 1 + j} {y = a + suc j} (omega arith) (edge_in s (a + 1) k j (omega arith)))
