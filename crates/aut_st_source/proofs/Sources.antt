-- A list that is walked: what is left of it from a transition on, and that an insertion leaves it.
use mathlib.Core.Path.{◌≡◌, refl, sym, ap₂, subst}
use mathlib.Core.List.{List, [], ◌∷◌}
use Prim.Native.Nat.{ℕ, ◌+◌, ◌*◌, ◌-◌, ◌≤◌, ◌<◌}
use native.Mathlib.Omega.{arith}
use lib.ListN.{length}
use Rattle.common.specs.Runs.{Table}
use Rattle.netkat_steps.specs.ListSteps.{Edge, edge}
use Rattle.aut_steps.specs.Tables.{Aut}
use Rattle.aut_steps.specs.Wf.{ExtAut}
use Rattle.aut_st_steps.specs.Edges.{edges, EdgeAt, EdgesAt}
use Rattle.aut_st_steps.proofs.Edges.{edges_grown}
use Rattle.aut_st_steps.proofs.Places.{edges_on, edges_done, edge_at_lem}
use Rattle.aut_relations.specs.Behind.{LISTS, Modifies}
use Rattle.aut_st_insert.proofs.Join.{edges_behind}
use Rattle.aut_st_source.specs.declared.Place.{Place}
use Rattle.aut_st_source.specs.declared.Place.TheVariants as place
use Rattle.aut_st_source.specs.declared.Source.{Source}
use Rattle.aut_st_source.specs.Clauses.{edges_at, entry_at, InAt, WithinAt, source_of, entry_of, EntryIn, Within, Walked}

-- the transitions of a place from i on, of k
abbrev from_at : Place → List ℕ → List ℕ → ℕ → ℕ → List Edge
from_at (place.Stored a) tr s k i = edges tr (a + i) (k - i)
from_at (place.Scratch a) tr s k i = edges s (a + i) (k - i)

-- the transitions from i on
abbrev pub on_from : Source → List ℕ → List ℕ → ℕ → List Edge
on_from x tr s i = from_at x.place tr s x.length i

module _ (tr s : List ℕ) where
  pub from_all : (x : Source) → source_of x tr s ≡ on_from x tr s 0
  from_all x = go x.place x.length
    where
      go : (p : Place) (k : ℕ) → edges_at p tr s k ≡ from_at p tr s k 0
      go (place.Stored a) k = ap₂ (λ (b n : ℕ). edges tr b n) {x = a} {y = a + 0} {u = k} {v = k - 0} (omega arith) (omega arith)
      go (place.Scratch a) k = ap₂ (λ (b n : ℕ). edges s b n) {x = a} {y = a + 0} {u = k} {v = k - 0} (omega arith) (omega arith)

  pub from_next : (x : Source) (i : ℕ) → i < x.length → on_from x tr s i ≡ entry_of x tr s i ∷ on_from x tr s (i + 1)
  from_next x i l = go x.place
    where
      go : (p : Place) → from_at p tr s x.length i ≡ entry_at p tr s i ∷ from_at p tr s x.length (i + 1)
      go (place.Stored a) = edges_on tr a x.length i l
      go (place.Scratch a) = edges_on s a x.length i l

  pub from_done : (x : Source) (i : ℕ) → x.length ≤ i → on_from x tr s i ≡ []
  from_done x i l = go x.place
    where
      go : (p : Place) → from_at p tr s x.length i ≡ []
      go (place.Stored a) = edges_done tr (a + i) x.length i l
      go (place.Scratch a) = edges_done s (a + i) x.length i l

  pub entry_in : (x : Source) → Within tr x → LISTS ≤ length s → (i : ℕ) → i < x.length → EntryIn tr s x i
  entry_in x w r i l = go x.place w
    where
      go : (p : Place) → WithinAt tr p x.length → InAt tr s p i
      go (place.Stored a) w = omega (arith, w, l)
      go (place.Scratch a) w = omega (arith, w.1, r, l)

  pub entry_at_lem : {N : ℕ} {σ : Aut} (x : Source) → EdgesAt N σ (source_of x tr s) → (i : ℕ) → i < x.length → EdgeAt N σ (entry_of x tr s i)
  entry_at_lem {N} {σ} x p i l = go x.place p
    where
      go : (q : Place) → EdgesAt N σ (edges_at q tr s x.length) → EdgeAt N σ (entry_at q tr s i)
      go (place.Stored a) p = edge_at_lem tr a x.length i l p
      go (place.Scratch a) p = edge_at_lem s a x.length i l p

-- its length is a number of the machine's
pub length_few : (tr : List ℕ) (x : Source) → Within tr x → 2 * x.length ≤ length tr + 1088
length_few tr x w = go x.place w
  where
    go : (p : Place) → WithinAt tr p x.length → 2 * x.length ≤ length tr + 1088
    go (place.Stored a) w = omega (arith, w)
    go (place.Scratch a) w = omega (arith, w.1)

-- an insertion writes no more than the first 832 words
module _ {N : ℕ} {t : Table} {s s' : List ℕ} (p : Modifies N 0 832 t s s') (tr : List ℕ) where
  pub source_kept : (x : Source) → Within tr x → source_of x tr s' ≡ source_of x tr s
  source_kept x w = go x.place x.length w
    where
      go : (q : Place) (k : ℕ) → WithinAt tr q k → edges_at q tr s' k ≡ edges_at q tr s k
      go (place.Stored a) k w = refl
      go (place.Scratch a) k w = edges_behind p a k (omega (arith, w.0)) (omega (arith, w.1))

  pub entry_kept : (x : Source) (i : ℕ) → Within tr x → i < x.length → entry_of x tr s' i ≡ entry_of x tr s i
  entry_kept x i w l = go x.place w
    where
      go : (q : Place) → WithinAt tr q x.length → entry_at q tr s' i ≡ entry_at q tr s i
      go (place.Stored a) w = refl
      go (place.Scratch a) w =
          ap₂ edge (p.above (2 * (a + i)) (omega (arith, w.0)) (omega (arith, w.1, l))) (p.above (2 * (a + i) + 1) (omega (arith, w.0)) (omega (arith, w.1, l)))

  pub walked_later : {σ τ : Aut} {x : Source} → Walked N σ tr s x → ExtAut σ τ → Walked N τ tr s' x
  walked_later {τ = τ} {x = x} w g = record { within = w.within; edges = subst (EdgesAt N τ) (sym (source_kept x w.within)) (edges_grown g w.edges) }
