-- What a run of steps on a store of diagrams comes to, unless it is refused: a later store that is well formed, a value of which
-- something holds, and the same value with no change in every store later still. Said once, for every such store.
use Rattle.std.specs.Prelude.{◌≡◌, List, ℕ}
use Rattle.common.specs.Outcome.{Outcome, refused, given, Step}

-- A lent table: its words, and how many records of it are in use.
pub record Table : Type 0 where
  pub words : List ℕ
  pub count : ℕ

abbrev pub table : List ℕ → ℕ → Table
table t n = record { words = t; count = n }

-- A kind of store: when it is well formed, and when one is later than another (`Ext σ τ`: all that σ has is in τ as it was).
pub record Theory : Type 1 where
  pub Store : Type 0
  pub Wf : Store → Type 0
  pub Ext : Store → Store → Type 0
  pub ext_refl : (σ : Store) → Ext σ σ
  pub ext_trans : (σ τ υ : Store) → Ext σ τ → Ext τ υ → Ext σ υ

-- The run c from σ has given the store σ' and the value a.
pub record StableResult (𝓣 : Theory) {A : Type 0} (c : Step 𝓣.Store A) (P : 𝓣.Store → A → Type 0) (σ σ' : 𝓣.Store) (a : A) : Type 0 where
  pub ext : 𝓣.Ext σ σ'
  pub wf : 𝓣.Wf σ'
  pub holds : P σ' a
  pub stable : (τ : 𝓣.Store) → 𝓣.Ext σ' τ → 𝓣.Wf τ → c τ ≡ given τ a

abbrev pub placed : {S B A : Type 0} → (S → B → B) → B → Outcome S A → Outcome B A
placed put σ (refused number) = refused number
placed put σ (given s a) = given (put s σ) a
