-- The transitions of a part of a slice are those of the slice from its first record on.
use mathlib.Core.Path.{◌≡◌, sym, ◌∙◌, ap, subst}
use mathlib.Core.List.{List}
use Prim.Native.Nat.{ℕ, ◌+◌, ◌*◌, ◌/◌, ◌≤◌, ◌<◌}
use native.Mathlib.Omega.{arith}
use lib.ListN.{length, get_or, take, drop}
use Rattle.std.specs.Prelude.{Option}
use Rattle.std.proofs.lemmas.List.{get_or-take, get_or-drop, length-take-le, length-drop}
use Rattle.netkat_steps.specs.ListSteps.{Edge}
use Rattle.aut_st_steps.specs.Edges.{edges}
use Rattle.aut_st_steps.specs.Places.{seek_above}
use Rattle.aut_st_edges.specs.Clauses.{listed, Finds, Seeks}
use Rattle.aut_st_edges.proofs.Moves.{edges_moved}

module _ (s : List ℕ) (a k n : ℕ) (e : n ≡ 2 * k) (l : 2 * (a + k) ≤ length s) where
  abbrev part : List ℕ
  part = take n (drop (2 * a) s)

  part_length : length part ≡ n
  part_length = length-take-le n (drop (2 * a) s) (omega (arith, length-drop (2 * a) s, e, l))

  word : (i : ℕ) → i < 2 * k → get_or part (2 * 0 + i) 0 ≡ get_or s (2 * a + i) 0
  word i q =
      ap (λ (j : ℕ). get_or part j 0) {x = 2 * 0 + i} {y = i} (omega arith)
      ∙ get_or-take n (drop (2 * a) s) i 0 (omega (arith, q, e))
      ∙ get_or-drop (2 * a) s i 0

  pub part_listed : listed part ≡ edges s a k
  part_listed = ap (edges part 0) {x = length part / 2} {y = k} (omega (arith, part_length, e)) ∙ edges_moved s part a 0 k word

  -- what was found in it
  pub sought : (x i : ℕ) → Seeks (seek_above x (listed part)) (length part / 2) i → Seeks (seek_above x (edges s a k)) k i
  sought x i f = record { is = ap (seek_above x) (sym part_listed) ∙ f.is; few = omega (arith, f.few, part_length, e) }

  pub found : (x : ℕ) (r : Option ℕ) → Finds x (listed part) r → Finds x (edges s a k) r
  found x r f = subst (λ (es : List Edge). Finds x es r) part_listed f
