-- The stored list of a state, which is reached, and a transition that was read.
use mathlib.Core.Path.{◌≡◌, sym, ap, ap₂, subst}
use mathlib.Core.List.{List, Memᴰ}
use Prim.Native.Nat.{ℕ, ◌-◌, ◌<◌}
use native.Mathlib.Omega.{arith}
use Rattle.netkat_steps.specs.ListSteps.{Edge, edge}
use Rattle.aut_st_steps.specs.Edges.{edges}
use Rattle.aut_delta_steps.specs.Delta.{start_of, count_of, list_at}
use Rattle.aut_query_steps.specs.Tables.{Tables}
use Rattle.aut_states.specs.declared.Limits.{Limits}
use Rattle.aut_free.specs.Clear.{clear, clear_tables}
use Rattle.aut_free.proofs.Clearing.{clear_kept}
use Rattle.aut_live_words.specs.Working.{words_in}
use Rattle.aut_st_edges.specs.declared.Transition.{Transition}
use Rattle.aut_st_edges.specs.Clauses.{edge_of}
use Rattle.aut_live_words.specs.Stored.{PreFind}
use Rattle.aut_live_words.specs.Work.{seconds}
use Rattle.aut_live_words.specs.Clauses.{Listed}
use Rattle.aut_why_words.specs.Walk.{Walk}
use Rattle.aut_why_words.proofs.Walks.{walk_known, walk_there}

pub find_listed : {st tr : List ℕ} {x : ℕ} → Listed st tr x → PreFind st x
find_listed L = record { state = L.state; has = L.some }

-- ---- of a state that is reached

module _ {N : ℕ} {l : Limits} {σ : Tables} {s p : List ℕ} {n : ℕ} (K : Walk N l σ s p n) {x : ℕ} (m : Memᴰ x (seconds p 0 n)) where
  abbrev st : List ℕ
  st = words_in σ

  abbrev tr : List ℕ
  tr = σ.base.transitions.words

  start_clear : start_of (clear st) x ≡ start_of st x
  unfolding start_of
  start_clear = clear_kept st x 5 (omega arith)

  count_clear : count_of (clear st) x ≡ count_of st x
  unfolding count_of
  count_clear = clear_kept st x 6 (omega arith)

  pub walk_list : list_at (clear_tables σ).base x ≡ edges tr (start_of st x) (count_of st x - 1)
  unfolding list_at
  walk_list = ap₂ (λ (a k : ℕ). edges tr a (k - 1)) start_clear count_clear

  pub walk_listed : Listed st tr x
  walk_listed =
      let L = K.working.ready.ordered.worked.lists in
      let some : 0 < count_of st x = omega (arith, count_clear, (K.links x m).marked) in
      record { state = walk_there K x m; some = some; inside = omega (arith, L.fit, (L.held x (walk_known K x m)).inside (count_of st x - 1) (omega (arith, count_clear, some)), start_clear) }

  -- it leads to states that are reached
  pub walk_leads : (e : Edge) → Memᴰ e (edges tr (start_of st x) (count_of st x - 1)) → Memᴰ e.target (seconds p 0 n)
  walk_leads e j = (K.links x m).leads e (subst (λ (es : List Edge). Memᴰ e es) (sym walk_list) j)

-- ---- a transition that was read

module _ {t : Transition} {a b : ℕ} (q : edge_of t ≡ edge a b) where
  pub got_target : t.target ≡ a
  got_target = ap (λ (e : Edge). e.target) q

  pub got_label : t.label.0 ≡ b
  got_label = ap (λ (e : Edge). e.label) q
