-- The laws of the layer of specs/OnLent; and calls whose law is known, as calls of it.
use mathlib.Core.Path.{◌≡◌, refl, ◌∙◌, ap, subst}
use Prim.Native.Nat.{ℕ}
use lib.ListN.{length}
use Rattle.std.specs.Prelude.{Result, Ok, Err}
use Rattle.common.specs.Outcome.{Outcome, Step}
use Rattle.common.specs.Runs.{Table, placed}
use Rattle.refusal.specs.declared.Refusal.{Refusal}
use Rattle.refusal.specs.Numbers.{outcome}
use Rattle.spp.specs.Clauses.{SameStore}
use Rattle.aut_steps.specs.Tables.{Aut, put_nodes, on_nodes}
use Rattle.aut_steps.proofs.Wf.{grown_refl, grown_trans}
use Rattle.aut_steps.proofs.StepSpec.{StepSpec, came}
use Rattle.aut_states.specs.Clauses.{limits_of}
use Rattle.aut_states.specs.declared.Config.{Config}
use Rattle.aut_states.specs.declared.Limits.{Limits}
use Rattle.aut_relations.specs.Behind.{Modifies}
use Rattle.aut_relations.proofs.Behind.{left_refl, left_trans, left_wide, left_kept}
use Rattle.aut_relations.proofs.Order.{ready_after}
use Rattle.aut_relations.specs.declared.Aut.{Aut as Lent}
use Rattle.aut_relations.specs.Lent.{nodes_in, aut_in, Keeps, KeepsExprs, Does, Unless, Asked}
use Rattle.aut_stage.specs.Rule.{Laws, Post}
use Rattle.aut_stage.specs.OnLent.{lent_layer, Goes}

pub lent_laws : (N : ℕ) (l : Limits) → Laws (lent_layer N l)
lent_laws N l = record {
  ext_refl = λ σ. record { grown = grown_refl σ; memos = λ i w x y. refl };
  ext_trans = λ σ τ υ p q. record { grown = grown_trans p.grown q.grown; memos = λ i w x y. q.memos i w x y ∙ p.memos i w x y };
  frame_refl = λ a n σ s. left_refl a n σ.nodes s;
  frame_trans = λ a n σ τ s s' s'' e p q. left_trans e.grown.nodes p q;
  frame_wide = λ a n b m σ s s' x y p. left_wide p x y;
  frame_kept = λ a n σ s s' x len k. left_kept k len x;
  ready_kept = λ a n σ s s' len p r. ready_after r (grown_refl σ) r.good p len;
}

-- A step whose law is known: from its equation, what it left, and the law, the whole of `Post`.
module _ {k : Config} {x : Lent} (R : Asked k x) (y : Lent) (len : length y.scratch.now ≡ length x.scratch.now) {A : Type 0} {P : Aut → A → Type 0} {o : Outcome Aut A} (G : StepSpec k.fields (limits_of k.limits) P (aut_in x) o) where
  pub by_law : {V : Type 0} {see : V → A} {a n : ℕ} (r : Result V Refusal) → o ≡ outcome see r (aut_in y) → Unless r (Modifies k.fields a n (nodes_in y) x.scratch.now y.scratch.now)
      → Post (lent_layer k.fields k.limits) a n P see o (aut_in x) r (aut_in y) x.scratch.now y.scratch.now
  by_law {a = a} {n = n} (Ok v) e p =
      let i = came (subst (StepSpec k.fields (limits_of k.limits) P (aut_in x)) e G) in
      record {
        is = e;
        then = record {
          ext = record { grown = i.grown; memos = i.memos };
          frame = p;
          ready = ready_after R.ready i.grown i.good p len;
          holds = i.holds;
        };
      }
  by_law (Err e) q p = record { is = q; then = tt }

-- ---- an operation on relations

module _ {V A : Type 0} (see : V → A) (o : Step Table A) (x y : Lent) (K : KeepsExprs x y) where
  -- its equation on all tables
  on_nodes_is : (r : Result V Refusal) → o (nodes_in x) ≡ outcome see r (nodes_in y) → on_nodes o (aut_in x) ≡ outcome see r (aut_in y)
  on_nodes_is (Ok v) e = ap (placed put_nodes (aut_in x)) e ∙ rw K.states (rw K.members refl)
  on_nodes_is (Err q) e = ap (placed put_nodes (aut_in x)) e

module _ {N a n : ℕ} {V A : Type 0} {see : V → A} {o : Step Table A} {x y : Lent} {r : Result V Refusal} where
  pub on_all : KeepsExprs x y → Does N a n nodes_in see o x r y → Does N a n aut_in see (on_nodes o) x r y
  on_all K D = record { is = on_nodes_is see o x y K r D.is; left = D.left }

-- ---- calls whose law is known

module _ {k : Config} {a n : ℕ} {V A : Type 0} {P : Aut → A → Type 0} {see : V → A} {x y : Lent} {r : Result V Refusal} (R : Asked k x) where
  -- a constructor
  pub made : {o : Step Aut A} → Keeps x y → StepSpec k.fields (limits_of k.limits) P (aut_in x) (o (aut_in x)) → Does k.fields a n aut_in see o x r y → Goes k a n P see o x r y
  made K G D = record { post = by_law R y K.scratch.length G r D.is D.left }

  -- an operation on relations
  pub related : {o : Step Table A} → KeepsExprs x y → StepSpec k.fields (limits_of k.limits) P (aut_in x) (on_nodes o (aut_in x)) → Does k.fields a n nodes_in see o x r y → Goes k a n P see (on_nodes o) x r y
  related {o} K G D = record { post = by_law R y K.scratch.length G r (on_nodes_is see o x y K r D.is) D.left }

-- tables in order after a call
module _ {k : Config} {a n : ℕ} {V A : Type 0} {P : Aut → A → Type 0} {see : V → A} {x y : Lent} {o : Step Aut A} {v : V} where
  pub asked_after : Asked k x → SameStore x.spp y.spp → Goes k a n P see o x (Ok v) y → Asked k y
  asked_after R K g = record { fields = K.fields ∙ R.fields; ready = g.post.then.ready }
