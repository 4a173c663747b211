-- All tables that are lent, as a query works on them, as a layer of the rule for a run of calls (aut_stage): how the steps see them, what a query asks, and what a function promises.
use Rattle.std.specs.Prelude.{◌≡◌, ◌⊎◌, List, ℕ, ◌+◌, ◌≤◌, ◌<◌, get_or, Result}
use Rattle.common.specs.Outcome.{Step}
use Rattle.cache.specs.Cache.{Valid, OnlyCodes, WritesValid}
use Rattle.refusal.specs.declared.Refusal.{Refusal}
use Rattle.spp_image.specs.Reuse.{Written, Counted}
use Rattle.aut_delta_stage.specs.OnTables.{store_in}
use Rattle.aut_query_steps.specs.Tables.{Tables, tables, diagrams, ExtTables}
use Rattle.aut_states.specs.declared.Config.{Config}
use Rattle.aut_states.specs.declared.Limits.{Limits}
use Rattle.aut_relations.specs.Behind as Behind
use Rattle.aut_relations.specs.Behind.{LISTS, cached}
use Rattle.aut_relations.specs.declared.Aut.{Aut as Lent}
use Rattle.aut_sets.specs.Lent.{sets_in}
use Rattle.aut_stage.specs.Rule.{Layer, Post}
use Rattle.aut_query_stage.specs.Layer.{QueryReady, PreQuery}

abbrev pub tables_in : Lent → Tables
tables_in x = tables (sets_in x) (store_in x)

-- ---- what a query asks

-- tables, scratch and pending entries as a query finds them, for the fields and limits of the book; i is a state
pub record QueryAsked (k : Config) (x : Lent) (i : ℕ) : Type 0 where
  pub fields : x.spp.fields ≡ k.fields
  pub query : PreQuery k.fields k.limits (tables_in x) x.scratch.now x.pending.now i

-- ---- the layer

-- to note: one of these, and valid
abbrev pub Notable : (N : ℕ) (σ : Tables) → Valid
Notable N σ op x y r = Behind.Notable N σ.base.aut.nodes op x y r ⊎ (Written N (diagrams σ) op x y r ⊎ OnlyCodes 17 17 (Counted σ.base.aut.nodes) op x y r)

-- s' is s but for the n words from a, and for results noted in the cache, which are right of the tables σ
pub record Leaves (N a n : ℕ) (σ : Tables) (s s' : List ℕ) : Type 0 where
  pub below : (i : ℕ) → i < a → get_or s' i 0 ≡ get_or s i 0
  pub above : (i : ℕ) → a + n ≤ i → i < LISTS → get_or s' i 0 ≡ get_or s i 0
  pub notes : WritesValid (Notable N σ) (cached s) (cached s')

abbrev pub query_layer : ℕ → Limits → Layer
query_layer N l = record { Store = Tables; Ext = ExtTables; Frame = λ a n σ s s'. Leaves N a n σ s s'; Ready = λ σ s. QueryReady N l σ s; lists = LISTS }

-- What a function on them promises, with the tables x before and y after, each seen by `view`: as aut_stage's `Goes`.
pub record GoesQuery (k : Config) (a n : ℕ) {V A : Type 0} (view : Lent → Tables) (P : Tables → A → Type 0) (see : V → A) (o : Step Tables A) (x : Lent) (r : Result V Refusal) (y : Lent) : Type 0 where
  pub post : Post (query_layer k.fields k.limits) a n P see (o (view x)) (view x) r (view y) x.scratch.now y.scratch.now
