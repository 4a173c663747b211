-- All tables that are lent, with what is worked out (words 4 to 6 of states, transitions), as a layer of the rule for a run of calls (aut_stage): how the steps see them, what a call on them keeps, what is
-- asked, and what a function promises.
use Rattle.std.specs.Prelude.{◌≡◌, true, false, List, ℕ, Result}
use Rattle.common.specs.Outcome.{Step}
use Rattle.refusal.specs.declared.Refusal.{Refusal}
use Rattle.aut_delta_steps.specs.Delta.{Store, store}
use Rattle.aut_delta_steps.specs.Wf.{WfStore}
use Rattle.aut_delta_steps.specs.Extends.{ExtStore}
use Rattle.aut_states.specs.Clauses.{limits_of}
use Rattle.aut_states.specs.declared.Config.{Config}
use Rattle.aut_states.specs.declared.Limits.{Limits}
use Rattle.aut_relations.specs.declared.Aut.{Aut as Lent}
use Rattle.aut_relations.specs.Behind.{LISTS, Modifies}
use Rattle.aut_relations.specs.Clauses.{Ready}
use Rattle.aut_relations.specs.Lent.{aut_in, transitions_in, KeepsBut}
use Rattle.aut_stage.specs.Rule.{Layer, Post}

abbrev pub store_in : Lent → Store
store_in x = store (aut_in x) (transitions_in x)

-- ---- what a call keeps: x before, y after

-- all tables but packet nodes and pending entries are written, and scratch
abbrev pub KeepsStore : Lent → Lent → Type 0
KeepsStore x y = KeepsBut (record { sp = false; spp = true; states = true; count = true; members = true; transitions = true; pending = false; scratch = true }) x y

-- ---- what is asked

-- tables and scratch in order, and what is worked out is true
pub record Prepared (N : ℕ) (l : Limits) (σ : Store) (s : List ℕ) : Type 0 where
  pub ready : Ready N l σ.aut s
  pub worked : WfStore N (limits_of l) σ

-- .. for the fields and limits of the book
pub record StoreAsked (k : Config) (x : Lent) : Type 0 where
  pub fields : x.spp.fields ≡ k.fields
  pub prepared : Prepared k.fields k.limits (store_in x) x.scratch.now

-- ---- the layer

abbrev pub tables_layer : ℕ → Limits → Layer
tables_layer N l = record { Store = Store; Ext = λ σ τ. ExtStore σ τ; Frame = λ a n σ s s'. Modifies N a n σ.aut.nodes s s'; Ready = λ σ s. Prepared N l σ s; lists = LISTS }

-- What a function on them promises, with the tables x before and y after: as aut_stage's `Goes`.
pub record GoesStore (k : Config) (a n : ℕ) {V A : Type 0} (P : Store → A → Type 0) (see : V → A) (o : Step Store A) (x : Lent) (r : Result V Refusal) (y : Lent) : Type 0 where
  pub post : Post (tables_layer k.fields k.limits) a n P see (o (store_in x)) (store_in x) r (store_in y) x.scratch.now y.scratch.now
