-- The list at RESULT between the calls: it stands while other words are written, and is in order again when the tables have grown.
use mathlib.Core.Path.{◌≡◌, sym, subst}
use mathlib.Core.List.{List}
use Prim.Native.Nat.{ℕ, ◌+◌, ◌*◌, ◌≤◌}
use native.Mathlib.Omega.{arith}
use Rattle.std.specs.Prelude.{Ok}
use Rattle.common.specs.Outcome.{Step}
use Rattle.common.specs.Runs.{Table}
use Rattle.spp.specs.Clauses.{SameStore}
use Rattle.aut_steps.specs.Tables.{Aut}
use Rattle.aut_st_steps.specs.Edges.{edges}
use Rattle.aut_st_steps.specs.ListSpec.{ListAt}
use Rattle.aut_st_steps.proofs.ListSpec.{list_empty, list_grown}
use Rattle.aut_st_steps.proofs.Places.{edges_length, edges_same}
use Rattle.aut_states.specs.Clauses.{limits_of}
use Rattle.aut_states.specs.declared.Config.{Config}
use Rattle.aut_states.specs.declared.Limits.{Limits}
use Rattle.aut_relations.specs.Behind.{LISTS, Modifies}
use Rattle.aut_relations.specs.declared.Aut.{Aut as Lent}
use Rattle.aut_relations.specs.Lent.{aut_in, Asked}
use Rattle.aut_stage.specs.OnLent.{Goes}
use Rattle.aut_stage.proofs.OnLent.{asked_after}
use Rattle.aut_st_insert.specs.Clauses.{RESULT, list_in}
use Rattle.aut_st_insert.specs.Asked.{ListAsked}

-- ---- lists elsewhere are as they were

module _ {N a n : ℕ} {t : Table} {s s' : List ℕ} (p : Modifies N a n t s s') (b k : ℕ) where
  pub edges_before : 2 * (b + k) ≤ a → edges s' b k ≡ edges s b k
  edges_before l = edges_same s s' b k (λ i x y. p.below i (omega arith))

  pub edges_behind : a + n ≤ 2 * b → 2 * (b + k) ≤ LISTS → edges s' b k ≡ edges s b k
  edges_behind l r = edges_same s s' b k (λ i x y. p.above i (omega arith) (omega arith))

-- ---- a list within the limit

pub list_few : {N : ℕ} {l : Limits} {σ : Aut} (s : List ℕ) (a m : ℕ) → ListAt N (limits_of l) σ (edges s a m) → l.transitions ≤ 64 → m ≤ 64
list_few s a m p q = omega (arith, p.short, edges_length s a m)

module _ {k : Config} {x : Lent} where
  pub ready_few : {m : ℕ} → ListAsked k x m → m ≤ 64
  ready_few {m} r = list_few x.scratch.now RESULT m r.list r.limit

  -- no list
  pub list_none : Asked k x → k.limits.transitions ≤ 64 → ListAsked k x 0
  unfolding edges
  list_none r q = record { asked = r; list = list_empty (aut_in x); limit = q }

  -- a call that leaves it
  module _ {b n m : ℕ} {V A : Type 0} {P : Aut → A → Type 0} {see : V → A} {o : Step Aut A} {v : V} {y : Lent} (R : ListAsked k x m) (g : Goes k b n P see o x (Ok v) y) (behind : b + n ≤ 576) where
    pub list_same : list_in y m ≡ list_in x m
    list_same = edges_behind g.post.then.frame RESULT m (omega (arith, behind)) (omega (arith, ready_few R))

    pub list_after : SameStore x.spp y.spp → ListAsked k y m
    list_after K = record { asked = asked_after R.asked K g; list = subst (ListAt k.fields (limits_of k.limits) (aut_in y)) (sym list_same) (list_grown g.post.then.ext.grown R.list); limit = R.limit }
