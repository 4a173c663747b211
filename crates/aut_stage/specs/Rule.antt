-- A run of calls on lent tables and scratch, a call at a time. Said once, for every layer of tables (`Layer`) and every kind of value.
use Rattle.std.specs.Prelude.{◌≡◌, List, ℕ, ◌+◌, ◌≤◌, length, Result, Ok, Err}
use Rattle.common.specs.Outcome.{Outcome}
use Rattle.refusal.specs.declared.Refusal.{Refusal}
use Rattle.refusal.specs.Numbers.{outcome}
use Rattle.aut_steps.specs.Scratch.{Kept}

-- Tables and the scratch beside them: when a store has come from another, what a step may leave of scratch (n words from a on, and notes that are right of the store), and when a store and scratch
-- are in order.
pub record Layer : Type 1 where
  pub Store : Type 0
  pub Ext : Store → Store → Type 0
  pub Frame : ℕ → ℕ → Store → List ℕ → List ℕ → Type 0
  pub Ready : Store → List ℕ → Type 0
  -- the last place that is no cache
  pub lists : ℕ

pub record Laws (𝓛 : Layer) : Type 0 where
  pub ext_refl : (σ : 𝓛.Store) → 𝓛.Ext σ σ
  pub ext_trans : (σ τ υ : 𝓛.Store) → 𝓛.Ext σ τ → 𝓛.Ext τ υ → 𝓛.Ext σ υ
  pub frame_refl : (a n : ℕ) (σ : 𝓛.Store) (s : List ℕ) → 𝓛.Frame a n σ s s
  pub frame_trans : (a n : ℕ) (σ τ : 𝓛.Store) (s s' s'' : List ℕ) → 𝓛.Ext σ τ → 𝓛.Frame a n σ s s' → 𝓛.Frame a n τ s' s'' → 𝓛.Frame a n τ s s''
  pub frame_wide : (a n b m : ℕ) (σ : 𝓛.Store) (s s' : List ℕ) → a ≤ b → b + m ≤ a + n → 𝓛.Frame b m σ s s' → 𝓛.Frame a n σ s s'
  pub frame_kept : (a n : ℕ) (σ : 𝓛.Store) (s s' : List ℕ) → a + n ≤ 𝓛.lists → length s' ≡ length s → Kept a n s s' → 𝓛.Frame a n σ s s'
  pub ready_kept : (a n : ℕ) (σ : 𝓛.Store) (s s' : List ℕ) → length s' ≡ length s → 𝓛.Frame a n σ s s' → 𝓛.Ready σ s → 𝓛.Ready σ s'

-- ---- what a call leaves

-- A call from σ has come to τ with a value.
pub record Came (𝓛 : Layer) (a n : ℕ) {A : Type 0} (P : 𝓛.Store → A → Type 0) (σ τ : 𝓛.Store) (x : A) (s s' : List ℕ) : Type 0 where
  pub ext : 𝓛.Ext σ τ
  pub frame : 𝓛.Frame a n τ s s'
  pub ready : 𝓛.Ready τ s'
  pub holds : P τ x

abbrev pub Then : (𝓛 : Layer) → ℕ → ℕ → {V A : Type 0} → (𝓛.Store → A → Type 0) → (V → A) → 𝓛.Store → Result V Refusal → 𝓛.Store → List ℕ → List ℕ → Type 0
Then 𝓛 a n P see σ (Ok v) τ s s' = Came 𝓛 a n P σ τ (see v) s s'
Then 𝓛 a n P see σ (Err e) τ s s' = Unit

-- The one postcondition: the outcome o of a step from σ is what the answer r says, its value seen by `see`; and unless refused the tables are in order again, and P holds.
pub record Post (𝓛 : Layer) (a n : ℕ) {V A : Type 0} (P : 𝓛.Store → A → Type 0) (see : V → A) (o : Outcome 𝓛.Store A) (σ : 𝓛.Store) (r : Result V Refusal) (τ : 𝓛.Store) (s s' : List ℕ) : Type 0 where
  pub is : o ≡ outcome see r τ
  pub then : Then 𝓛 a n P see σ r τ s s'

-- ---- a run that does `whole` has come from σ to τ, and `rest` is left to do

pub record Stage (𝓛 : Layer) (a n : ℕ) {A : Type 0} (whole rest : Outcome 𝓛.Store A) (σ τ : 𝓛.Store) (s s' : List ℕ) : Type 0 where
  pub ext : 𝓛.Ext σ τ
  pub frame : 𝓛.Frame a n τ s s'
  pub ready : 𝓛.Ready τ s'
  pub is : whole ≡ rest
