-- An operation on relations, over all tables: its equation, and what it leaves of scratch.
use mathlib.Core.Path.{◌≡◌, subst}
use mathlib.Core.List.{List}
use Prim.Native.Nat.{ℕ, ◌≤◌}
use lib.ListN.{length}
use Rattle.std.specs.Prelude.{Ok}
use Rattle.common.specs.Outcome.{given, Step}
use Rattle.common.specs.Runs.{Table}
use Rattle.spp.specs.Clauses.{seen, Answer}
use Rattle.spp.specs.declared.SPP.{SPP as Handle}
use Rattle.aut_relations.specs.Behind.{LISTS, Modifies}
use Rattle.aut_relations.proofs.Behind.{lent, back, left_back}

-- the cache was lent for the call and is back; M, the fields of the store, are the N of the book
module _ {N M : ℕ} (o : ℕ → Step Table ℕ) (q : M ≡ N) {t τ : Table} {s m : List ℕ} (l : LISTS ≤ length s) where
  pub applied : {h : Handle} → Answer M seen (o M) t (lent s) (Ok h) τ m → (o N t ≡ given τ h.0) × Modifies N 0 0 τ s (back s m)
  applied {h} A = subst (λ (K : ℕ). (o K t ≡ given τ h.0) × Modifies K 0 0 τ s (back s m)) q (A.gives, left_back s m l A.notes)
