-- The laws of the layer of specs/OnTables; and calls on the constructors' tables, and of epsilon, as calls of it.
use mathlib.Core.Path.{◌≡◌, refl, sym, ◌∙◌, ap, subst}
use Prim.Native.Nat.{ℕ}
use Rattle.std.specs.Prelude.{Result, Ok, Err}
use Rattle.common.specs.Outcome.{Outcome, refused, given, Step, after}
use Rattle.common.specs.Runs.{table, placed}
use Rattle.refusal.specs.declared.Refusal.{Refusal}
use Rattle.refusal.specs.Numbers.{number_of, outcome}
use Rattle.spp_steps.specs.Wf.{ValidAt}
use Rattle.spp.specs.Clauses.{SameStore}
use Rattle.spp.specs.declared.SPP.{SPP}
use Rattle.aut_steps.specs.Tables.{Aut}
use Rattle.aut_delta_steps.specs.Epsilon.{epsilon}
use Rattle.aut_delta_steps.specs.Delta.{Store, store, put_aut, on_aut}
use Rattle.aut_delta_steps.specs.Fits.{Since}
use Rattle.aut_delta_steps.specs.Wf.{WfStore}
use Rattle.aut_delta_steps.proofs.Wf.{worked_since, worked_noted}
use Rattle.aut_delta_steps.specs.Extends.{ExtStore}
use Rattle.aut_delta_steps.proofs.Extends.{went_refl, went_trans, went_since, went_noted}
use Rattle.aut_states.specs.Clauses.{limits_of}
use Rattle.aut_states.specs.declared.Config.{Config}
use Rattle.aut_states.specs.declared.Limits.{Limits}
use Rattle.aut_relations.specs.declared.Aut.{Aut as Lent}
use Rattle.aut_relations.specs.declared.Transitions.{Transitions}
use Rattle.aut_relations.proofs.Behind.{left_refl, left_trans, left_wide, left_kept}
use Rattle.aut_relations.proofs.Order.{ready_after}
use Rattle.aut_relations.specs.Lent.{aut_in, transitions_in, Keeps, Does, Asked}
use Rattle.aut_epsilon.specs.Asked.{Later}
use Rattle.aut_stage.specs.Rule.{Laws, Post}
use Rattle.aut_stage.specs.OnLent.{lent_layer, Goes}
use Rattle.aut_delta_stage.specs.OnTables.{store_in, StoreAsked, tables_layer, GoesStore}

pub tables_laws : (N : ℕ) (l : Limits) → Laws (tables_layer N l)
tables_laws N l = record {
  ext_refl = λ σ. went_refl σ;
  ext_trans = λ σ τ υ p q. went_trans p q;
  frame_refl = λ a n σ s. left_refl a n σ.aut.nodes s;
  frame_trans = λ a n σ τ s s' s'' e p q. left_trans e.grown.nodes p q;
  frame_wide = λ a n b m σ s s' x y p. left_wide p x y;
  frame_kept = λ a n σ s s' x len k. left_kept k len x;
  ready_kept = λ a n σ s s' len p r. record { ready = ready_after r.ready (went_refl σ).grown r.ready.good p len; worked = r.worked };
}

-- ---- what is asked of the constructors' tables; tables in order after a call

pub asked_of : {k : Config} {x : Lent} → StoreAsked k x → Asked k x
asked_of R = record { fields = R.fields; ready = R.prepared.ready }

module _ {k : Config} {a n : ℕ} {V A : Type 0} {P : Store → A → Type 0} {see : V → A} {x y : Lent} {o : Step Store A} {v : V} where
  pub store_after : StoreAsked k x → SameStore x.spp y.spp → GoesStore k a n P see o x (Ok v) y → StoreAsked k y
  store_after R K g = record { fields = K.fields ∙ R.fields; prepared = g.post.then.ready }

-- ---- a refusal; a step with the same outcome; what a call keeps

module _ {k : Config} {a n : ℕ} {V A : Type 0} {P : Store → A → Type 0} {see : V → A} {x y : Lent} {o : Step Store A} {r : Result V Refusal} where
  pub refused_goes : {e : Refusal} → r ≡ Err e → o (store_in x) ≡ refused (number_of e) → GoesStore k a n P see o x r y
  refused_goes q i = subst (λ (r : Result V Refusal). GoesStore k a n P see o x r y) (sym q) (record { post = record { is = i; then = tt } })

  pub step_goes : {o' : Step Store A} → o' (store_in x) ≡ o (store_in x) → GoesStore k a n P see o x r y → GoesStore k a n P see o' x r y
  step_goes e g = record { post = record { is = e ∙ g.post.is; then = g.post.then } }

-- ---- one step after another, on the constructors' tables

put_again : {A : Type 0} (α : Aut) (σ : Store) (o : Outcome Aut A) → placed put_aut σ o ≡ placed put_aut (store α σ.transitions) o
put_again α σ (refused number) = refl
put_again α σ (given β a) = refl

pub then_on : {A B : Type 0} (o : Outcome Aut A) (f : A → Step Aut B) (σ : Store) → placed put_aut σ (after o f) ≡ after (placed put_aut σ o) (λ a. on_aut (f a))
then_on (refused number) f σ = refl
then_on (given α a) f σ = put_again α σ (f a α)

module _ {k : Config} {x y : Lent} (R : StoreAsked k x) (K : Keeps x y) where
  same : store (aut_in y) (transitions_in x) ≡ store_in y
  same = ap (λ (t : Transitions). store (aut_in y) (table t.words.now t.count)) (sym K.transitions)

  -- the equation of a step on the constructors' tables
  on_aut_is : {V A : Type 0} (see : V → A) (o : Step Aut A) (r : Result V Refusal) → o (aut_in x) ≡ outcome see r (aut_in y) → on_aut o (store_in x) ≡ outcome see r (store_in y)
  on_aut_is see o (Ok v) e = ap (placed put_aut (store_in x)) e ∙ ap (λ (τ : Store). given τ (see v)) same
  on_aut_is see o (Err q) e = ap (placed put_aut (store_in x)) e

  -- ---- a call on the constructors' tables

  module _ {a n : ℕ} {V A : Type 0} {P : Aut → A → Type 0} {see : V → A} (o : Step Aut A) where
    aut_post : (r : Result V Refusal) → Post (lent_layer k.fields k.limits) a n P see (o (aut_in x)) (aut_in x) r (aut_in y) x.scratch.now y.scratch.now
        → Post (tables_layer k.fields k.limits) a n (λ τ. P τ.aut) see (on_aut o (store_in x)) (store_in x) r (store_in y) x.scratch.now y.scratch.now
    aut_post (Ok v) p =
        let w = p.then in
        let i : Since k.fields (limits_of k.limits) (aut_in x) (aut_in y) = record { grown = w.ext.grown; memos = w.ext.memos; good = w.ready.good } in
        record {
          is = on_aut_is see o (Ok v) p.is;
          then = record {
            ext = subst (ExtStore (store_in x)) same (went_since i);
            frame = w.frame;
            ready = record { ready = w.ready; worked = subst (WfStore k.fields (limits_of k.limits)) same (worked_since R.prepared.worked i) };
            holds = w.holds;
          };
        }
    aut_post (Err q) p = record { is = on_aut_is see o (Err q) p.is; then = tt }

    pub aut_goes : {r : Result V Refusal} → Goes k a n P see o x r y → GoesStore k a n (λ τ. P τ.aut) see (on_aut o) x r y
    aut_goes {r} g = record { post = aut_post r g.post }

  -- ---- a call of epsilon

  module _ (i : ℕ) where
    epsilon_post : (r : Result SPP Refusal) → Does k.fields 0 0 aut_in (λ h. h.0) (epsilon k.fields i) x r y → Later k.fields i x r y
        → Post (tables_layer k.fields k.limits) 0 0 (λ τ e. ValidAt τ.aut.nodes k.fields e) (λ (h : SPP). h.0) (on_aut (epsilon k.fields i) (store_in x)) (store_in x) r (store_in y) x.scratch.now y.scratch.now
    epsilon_post (Ok h) D late =
        let a = late k.limits R.prepared.ready in
        let f = a.law.found in
        record {
          is = on_aut_is (λ (h : SPP). h.0) (epsilon k.fields i) (Ok h) D.is;
          then = record {
            ext = subst (ExtStore (store_in x)) same (went_noted f.noted);
            frame = D.left;
            ready = record { ready = a.ready; worked = subst (WfStore k.fields (limits_of k.limits)) same (worked_noted R.prepared.worked f.noted f.good f.epsilons) };
            holds = f.means.den.at;
          };
        }
    epsilon_post (Err q) D a = record { is = on_aut_is (λ (h : SPP). h.0) (epsilon k.fields i) (Err q) D.is; then = tt }

    pub epsilon_goes : {r : Result SPP Refusal} → Does k.fields 0 0 aut_in (λ h. h.0) (epsilon k.fields i) x r y → Later k.fields i x r y → GoesStore k 0 0 (λ τ e. ValidAt τ.aut.nodes k.fields e) (λ (h : SPP). h.0) (on_aut (epsilon k.fields i)) x r y
    epsilon_goes {r} D a = record { post = epsilon_post r D a }
