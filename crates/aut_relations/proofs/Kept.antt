-- What several calls keep together; and that who may write less keeps what is kept where more may be written.
use mathlib.Core.Path.{◌≡◌, refl, sym, subst, ◌∙◌}
use mathlib.Core.Bool.{Bool, true, false}
use mathlib.Core.List.{List}
use Prim.Native.Nat.{ℕ}
use denote.Ref.{MutBor}
use Rattle.slices.specs.Same.{SameSlice}
use Rattle.slices.proofs.Same.{slice_refl, slice_trans}
use Rattle.spp.specs.declared.SPPstore.{SPPstore}
use Rattle.spp.specs.Clauses.{SameStore}
use Rattle.spp_steps.proofs.Laws.{false_true}
use Rattle.spp.proofs.Calls.{same_trans}
use Rattle.sp.specs.declared.SPstore.{SPstore}
use Rattle.aut_states.specs.declared.States.{States}
use Rattle.aut_states.specs.declared.Members.{Members}
use Rattle.aut_relations.specs.declared.Transitions.{Transitions}
use Rattle.aut_relations.specs.declared.Aut.{Aut as Lent}
use Rattle.aut_relations.specs.Lent.{Writes, either, KeepsBut, Keeps, KeepsExprs}

pub same_refl : (s : SPPstore) → SameStore s s
same_refl s = record { nodes = slice_refl s.nodes; fields = refl }

-- ---- a table, written or not

either_refl : (b : Bool) {A B : Type 0} → A → B → either b A B
either_refl true p q = p
either_refl false p q = q

either_trans : (b : Bool) {A B C D E F : Type 0} → (A → C → E) → (B → D → F) → either b A B → either b C D → either b E F
either_trans true f g p q = f p q
either_trans false f g p q = g p q

-- written in the first, written in the second
abbrev pub implies : Bool → Bool → Bool
implies true c = c
implies false c = true

either_more : (b c : Bool) {A B : Type 0} → implies b c ≡ true → (B → A) → either b A B → either c A B
either_more true true e f p = p
either_more true false e f p = absurd (false_true e)
either_more false true e f p = f p
either_more false false e f p = p

-- ---- all tables

pub keeps_refl : {w : Writes} (x : Lent) → KeepsBut w x x
keeps_refl {w = w} x = record {
  sp = either_refl w.sp (slice_refl x.sp.nodes) refl;
  spp = either_refl w.spp (same_refl x.spp) refl;
  states = either_refl w.states (slice_refl x.states.words) refl;
  count = either_refl w.count tt refl;
  members = either_refl w.members (slice_refl x.members.words) refl;
  transitions = either_refl w.transitions (slice_refl x.transitions.words) refl;
  pending = either_refl w.pending (slice_refl x.pending) refl;
  scratch = either_refl w.scratch (slice_refl x.scratch) refl;
}

pub keeps_trans : {w : Writes} {x y z : Lent} → KeepsBut w x y → KeepsBut w y z → KeepsBut w x z
keeps_trans {w = w} p q = record {
  sp = either_trans w.sp slice_trans (λ a b. b ∙ a) p.sp q.sp;
  spp = either_trans w.spp same_trans (λ a b. b ∙ a) p.spp q.spp;
  states = either_trans w.states slice_trans (λ a b. b ∙ a) p.states q.states;
  count = either_trans w.count (λ _ _. tt) (λ a b. b ∙ a) p.count q.count;
  members = either_trans w.members slice_trans (λ a b. b ∙ a) p.members q.members;
  transitions = either_trans w.transitions slice_trans (λ a b. b ∙ a) p.transitions q.transitions;
  pending = either_trans w.pending slice_trans (λ a b. b ∙ a) p.pending q.pending;
  scratch = either_trans w.scratch slice_trans (λ a b. b ∙ a) p.scratch q.scratch;
}

-- what v writes, w writes
pub record AtMost (v w : Writes) : Type 0 where
  pub sp : implies v.sp w.sp ≡ true
  pub spp : implies v.spp w.spp ≡ true
  pub states : implies v.states w.states ≡ true
  pub count : implies v.count w.count ≡ true
  pub members : implies v.members w.members ≡ true
  pub transitions : implies v.transitions w.transitions ≡ true
  pub pending : implies v.pending w.pending ≡ true
  pub scratch : implies v.scratch w.scratch ≡ true

pub keeps_more : {v w : Writes} {x y : Lent} → AtMost v w → KeepsBut v x y → KeepsBut w x y
keeps_more {v = v} {w = w} {x = x} m p = record {
  sp = either_more v.sp w.sp m.sp (λ r. subst (λ (s : SPstore). SameSlice x.sp.nodes s.nodes) (sym r) (slice_refl x.sp.nodes)) p.sp;
  spp = either_more v.spp w.spp m.spp (λ r. subst (λ (s : SPPstore). SameStore x.spp s) (sym r) (same_refl x.spp)) p.spp;
  states = either_more v.states w.states m.states (λ r. subst (λ (s : States). SameSlice x.states.words s.words) (sym r) (slice_refl x.states.words)) p.states;
  count = either_more v.count w.count m.count (λ _. tt) p.count;
  members = either_more v.members w.members m.members (λ r. subst (λ (s : Members). SameSlice x.members.words s.words) (sym r) (slice_refl x.members.words)) p.members;
  transitions = either_more v.transitions w.transitions m.transitions (λ r. subst (λ (s : Transitions). SameSlice x.transitions.words s.words) (sym r) (slice_refl x.transitions.words)) p.transitions;
  pending = either_more v.pending w.pending m.pending (λ r. subst (λ (s : MutBor (List ℕ)). SameSlice x.pending s) (sym r) (slice_refl x.pending)) p.pending;
  scratch = either_more v.scratch w.scratch m.scratch (λ r. subst (λ (s : MutBor (List ℕ)). SameSlice x.scratch s) (sym r) (slice_refl x.scratch)) p.scratch;
}

-- of the words of relation nodes and scratch alone, of the states and members too
pub keeps_of : {x y : Lent} → KeepsExprs x y → Keeps x y
keeps_of K = keeps_more (record { sp = refl; spp = refl; states = refl; count = refl; members = refl; transitions = refl; pending = refl; scratch = refl }) K
