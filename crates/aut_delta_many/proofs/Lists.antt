-- The stored list of a state: where it is found, that it is a list, and that its words, copied into scratch, are the same list.
use mathlib.Core.Path.{◌≡◌, sym, ◌∙◌, ap, ap₂, subst}
use mathlib.Core.List.{List, ◌∷◌}
use Prim.Native.Nat.{ℕ, zero, suc, ◌+◌, ◌*◌, ◌-◌, ◌≤◌, ◌<◌}
use native.Mathlib.Omega.{arith}
use lib.ListN.{length, get_or}
use lib.Seq.{sets}
use Rattle.netkat_steps.specs.ListSteps.{Edge}
use Rattle.aut_steps.specs.Tables.{words}
use Rattle.aut_steps.proofs.Facts.{words_length}
use Rattle.aut_steps.proofs.Scratch.{kept_sets}
use Rattle.aut_steps.specs.Wf.{states}
use Rattle.aut_st_steps.specs.Edges.{edges, flat, EdgesAt}
use Rattle.aut_st_steps.specs.ListSpec.{ListAt}
use Rattle.aut_st_steps.proofs.Places.{edges_length}
use Rattle.aut_delta_steps.specs.Delta.{Store, list_at}
use Rattle.aut_delta_steps.specs.DeltaDown.{Has}
use Rattle.aut_delta_steps.proofs.ListGoes.{list_at_lem}
use Rattle.aut_delta_steps.proofs.Extends.{edges_sets}
use Rattle.aut_delta_stage.specs.OnTables.{Prepared}
use Rattle.aut_delta_stage.proofs.Copied.{flat_edges}
use Rattle.aut_states.specs.Clauses.{limits_of}
use Rattle.aut_states.specs.declared.Limits.{Limits}
use Rattle.aut_st_edges.specs.Clauses.{Wrote}
use Rattle.aut_st_source.specs.declared.Span.{Span}
use Rattle.aut_st_source.specs.Stored.{PreFind, PostFind}

-- ---- where it is

pub found_is : (σ : Store) {y : ℕ} {p : Span} → PostFind σ.aut.states.words y p → list_at σ y ≡ edges σ.transitions.words p.start p.count
unfolding list_at
found_is σ F = ap₂ (edges σ.transitions.words) F.start (ap (λ (j : ℕ). j - 1) F.count ∙ omega arith)

module _ {N : ℕ} {l : Limits} {σ : Store} {s : List ℕ} (P : Prepared N l σ s) {y : ℕ} (k : y < states σ.aut) (has : Has σ y) where
  pub find_ready : PreFind σ.aut.states.words y
  find_ready = record { state = omega (arith, P.ready.good.fits, k); has = has }

  module _ {p : Span} (F : PostFind σ.aut.states.words y p) where
    abbrev found : List Edge
    found = edges σ.transitions.words p.start p.count

    pub found_in : 2 * (p.start + p.count) ≤ length σ.transitions.words
    found_in = omega (arith, P.worked.lists.fit, (P.worked.lists.held y k).inside p.count F.count, F.start)

    pub found_at : EdgesAt N σ.aut found
    found_at = subst (EdgesAt N σ.aut) (found_is σ F) (list_at_lem (limits_of l) ((P.worked.lists.held y k).list has))

    pub found_few : p.count ≤ l.transitions
    found_few = omega (arith, F.count, (P.worked.lists.held y k).short)

    pub found_list : ListAt N (limits_of l) σ.aut found
    found_list = record { edges = found_at; short = omega (arith, found_few, edges_length σ.transitions.words p.start p.count) }

-- ---- its words

-- k transitions of another slice, written at a
pub copied : (s u : List ℕ) (a b k : ℕ) {s' : List ℕ} → 2 * (a + k) ≤ length s → sets s (2 * a) (words u (2 * b) (2 * k)) ≡ s' → Wrote a k (edges u b k) s s'
copied s u a b k r e = subst (Wrote a k (edges u b k) s) e (record {
  is =
      ap (λ (ws : List ℕ). edges (sets s (2 * a) ws) a k) (sym (flat_edges u b k))
      ∙ ap (edges (sets s (2 * a) (flat (edges u b k))) a) (sym (edges_length u b k))
      ∙ edges_sets (edges u b k) s a (omega (arith, edges_length u b k));
  kept = kept_sets (words u (2 * b) (2 * k)) s (2 * a) (2 * k) (2 * a) (omega arith) (omega (arith, words_length u (2 * b) (2 * k)));
})

pub words_first : (s : List ℕ) (a k : ℕ) → 1 ≤ k → words s a k ≡ get_or s a 0 ∷ words s (a + 1) (k - 1)
unfolding words
words_first s a zero l = absurd (omega arith)
words_first s a (suc k) l = ap (λ (m : ℕ). get_or s a 0 ∷ words s (a + 1) m) {x = k} {y = suc k - 1} (omega arith)
