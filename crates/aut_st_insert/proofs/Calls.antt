-- The calls of an insertion: a run of them, operations on relations, and states.
use mathlib.Core.Path.{◌≡◌, refl, sym, ◌∙◌, ap, subst}
use mathlib.Core.List.{List}
use Prim.Native.Nat.{ℕ, ◌≤◌}
use Rattle.std.specs.Prelude.{Result, Ok, Err}
use Rattle.common.specs.Outcome.{Outcome, Step}
use Rattle.common.specs.Runs.{Table, placed}
use Rattle.refusal.specs.declared.Refusal.{Refusal}
use Rattle.refusal.specs.Numbers.{outcome}
use Rattle.spp.specs.declared.SPP.{SPP}
use Rattle.aut_steps.specs.Tables.{Aut, put_states, on_nodes, on_states}
use Rattle.aut_steps.specs.Relations as Rel
use Rattle.aut_steps.proofs.StepSpec.{StepSpec}
use Rattle.aut_st_steps.specs.ListSpec.{Label}
use Rattle.aut_st_steps.proofs.ListSpec.{union_goes, intersect_goes, difference_goes}
use Rattle.aut_states.specs.Clauses.{limits_of}
use Rattle.aut_states.specs.declared.Config.{Config}
use Rattle.aut_relations.specs.Behind.{LISTS, Modifies}
use Rattle.aut_relations.proofs.Behind.{left_refl, left_any}
use Rattle.aut_relations.proofs.Order.{backed_of}
use Rattle.aut_relations.specs.declared.Aut.{Aut as Lent}
use Rattle.aut_relations.specs.Lent.{nodes_in, states_in, aut_in, KeepsExprs, Does, Handles, Asked, Unless}
use Rattle.aut_stage.specs.Rule.{Stage}
use Rattle.aut_stage.specs.OnLent.{lent_layer, Goes}
use Rattle.aut_stage.proofs.OnLent.{related, by_law}

-- the run `whole` from x has come to y, where `rest` is left to do
abbrev pub Run : (k : Config) (a n : ℕ) {A : Type 0} → Step Aut A → Lent → Outcome Aut A → Lent → Type 0
Run k a n whole x rest y = Stage (lent_layer k.fields k.limits) a n (whole (aut_in x)) rest (aut_in x) (aut_in y) x.scratch.now y.scratch.now

-- no list was written, so none of any n words from a on
pub anywhere : {k : Config} {V A : Type 0} {P : Aut → A → Type 0} {see : V → A} {o : Step Aut A} {x y : Lent} {v : V} (a n : ℕ) → a ≤ LISTS → Goes k 0 0 P see o x (Ok v) y → Goes k a n P see o x (Ok v) y
anywhere a n l g = record { post = record { is = g.post.is; then = record { ext = g.post.then.ext; frame = left_any a n g.post.then.frame l; ready = g.post.then.ready; holds = g.post.then.holds } } }

-- ---- an operation on the relations a and b

module _ {k : Config} {x : Lent} (R : Asked k x) {a b : ℕ} (p : Label k.fields (aut_in x) a) (q : Label k.fields (aut_in x) b) where
  pub handles : Handles k.fields x a b
  handles = record { fields = R.fields; backed = backed_of R.ready; at_a = p.at; at_b = q.at }

  module _ {r : Result SPP Refusal} {y : Lent} (K : KeepsExprs x y) where
    pub unites : Does k.fields 0 0 nodes_in (λ (h : SPP). h.0) (Rel.union k.fields a b) x r y → Goes k 0 0 (Label k.fields) (λ (h : SPP). h.0) (on_nodes (Rel.union k.fields a b)) x r y
    unites D = related R K (union_goes R.ready.good p q) D

    pub intersects : Does k.fields 0 0 nodes_in (λ (h : SPP). h.0) (Rel.intersect k.fields a b) x r y → Goes k 0 0 (Label k.fields) (λ (h : SPP). h.0) (on_nodes (Rel.intersect k.fields a b)) x r y
    intersects D = related R K (intersect_goes R.ready.good p q) D

    pub subtracts : Does k.fields 0 0 nodes_in (λ (h : SPP). h.0) (Rel.difference k.fields a b) x r y → Goes k 0 0 (Label k.fields) (λ (h : SPP). h.0) (on_nodes (Rel.difference k.fields a b)) x r y
    subtracts D = related R K (difference_goes R.ready.good p q) D

-- ---- a call on states alone

pub record StatesOnly (x y : Lent) : Type 0 where
  pub spp : y.spp ≡ x.spp
  pub members : y.members ≡ x.members
  pub scratch : y.scratch ≡ x.scratch

module _ {A V : Type 0} (o : Step Table A) (see : V → A) {x y : Lent} (U : StatesOnly x y) where
  on_states_is : (r : Result V Refusal) → o (states_in x) ≡ outcome see r (states_in y) → on_states o (aut_in x) ≡ outcome see r (aut_in y)
  on_states_is (Ok v) e = ap (placed put_states (aut_in x)) e ∙ rw U.spp (rw U.members refl)
  on_states_is (Err q) e = ap (placed put_states (aut_in x)) e

untouched : (N : ℕ) {V : Type 0} (x y : Lent) (r : Result V Refusal) → y.scratch.now ≡ x.scratch.now → Unless r (Modifies N 0 0 (nodes_in y) x.scratch.now y.scratch.now)
untouched N x y (Ok v) e = subst (λ (s : List ℕ). Modifies N 0 0 (nodes_in y) x.scratch.now s) (sym e) (left_refl 0 0 (nodes_in y) x.scratch.now)
untouched N x y (Err q) e = tt

pub on_states_goes : {k : Config} {A V : Type 0} {P : Aut → A → Type 0} (o : Step Table A) (see : V → A) {x y : Lent} (r : Result V Refusal) → Asked k x → StepSpec k.fields (limits_of k.limits) P (aut_in x) (on_states o (aut_in x)) → StatesOnly x y
    → o (states_in x) ≡ outcome see r (states_in y) → Goes k 0 0 P see (on_states o) x r y
on_states_goes {k} o see {x} {y} r R G U e = record { post = by_law R y (rw U.scratch refl) G r (on_states_is o see U r e) (untouched k.fields x y r (rw U.scratch refl)) }
