-- 01, "Lent tables": words 8 to 11 of the states are zero between queries. While a query runs, seen sets stand in words 8 (`is_empty`) and live sets under work in words 9 (`live_packets`), each as handle + 1,
-- 0 for none. What holds then of the tables and of scratch: with words 8 to 11 zero they are as a query finds them. And what a call comes to: the step on the tables with these words zero.
use Rattle.std.specs.Prelude.{◌≡◌, ℕ, Option, Some, None, ◌+◌, ◌*◌, ◌-◌, ◌≤◌, ◌<◌, get_or}
use mathlib.Core.List.{List, Memᴰ}
use Rattle.netkat_steps.specs.ListSteps.{Edge}
use Rattle.sp.specs.declared.SP.{SP}
use Rattle.sp_steps.specs.Wf as SpLaws
use Rattle.spp_steps.specs.Wf.{ValidAt}
use Rattle.aut_steps.specs.Wf.{states}
use Rattle.aut_delta_steps.specs.Wf.{Stored}
use Rattle.aut_query_steps.specs.Tables.{Tables}
use Rattle.aut_query_stage.specs.Layer.{QueryReady}
use Rattle.aut_states.specs.declared.Config.{Config}
use Rattle.aut_states.specs.declared.Limits.{Limits}
use Rattle.aut_states.specs.declared.Members.{Members}
use Rattle.aut_free.specs.Clear.{in_tables, clear_tables}
use Rattle.aut_relations.specs.declared.Aut.{Aut as Lent}
use Rattle.aut_query_stage.specs.Lent.{tables_in}

-- the tables as the steps have them, words 8 to 11 of the states zero
abbrev pub clear_in : Lent → Tables
clear_in x = clear_tables (tables_in x)

-- σ are the tables as they are, words 8 to 11 too
pub record Working (N : ℕ) (l : Limits) (σ : Tables) (s : List ℕ) : Type 0 where
  pub ready : QueryReady N l (clear_tables σ) s
  pub fresh : (j : ℕ) → 12 * states σ.base.aut ≤ j → get_or σ.base.aut.states.words j 0 ≡ 0

-- .. of all tables that are lent
pub record WorkingIn (k : Config) (x : Lent) : Type 0 where
  pub fields : x.spp.fields ≡ k.fields
  pub working : Working k.fields k.limits (tables_in x) x.scratch.now

-- an edge to a state of these tables, by a relation
pub record EdgeIn (N : ℕ) (τ : Tables) (e : Edge) : Type 0 where
  pub known : e.target < states τ.base.aut
  pub at : ValidAt τ.base.aut.nodes N e.label

-- the stored list of x
pub record ListIn (N x : ℕ) (τ : Tables) (es : List Edge) : Type 0 where
  pub stored : Stored τ.base x es
  pub edges : (e : Edge) → Memᴰ e es → EdgeIn N τ e

-- ---- values of calls, and what they leave

-- a packet set, a relation of these tables
abbrev pub SetIn : ℕ → Tables → ℕ → Type 0
SetIn N τ h = SpLaws.ValidAt τ.sets N h

abbrev pub RelIn : ℕ → Tables → ℕ → Type 0
RelIn N τ h = ValidAt τ.base.aut.nodes N h

-- words 8 to 11 are as they were
abbrev pub Unwritten : Tables → Tables → Type 0
Unwritten σ τ = (x w : ℕ) → 8 ≤ w → w < 12 → get_or τ.base.aut.states.words (12 * x + w) 0 ≡ get_or σ.base.aut.states.words (12 * x + w) 0

-- ---- tables, but for the words of the states

abbrev pub words_in : Tables → List ℕ
words_in σ = σ.base.aut.states.words

abbrev pub with_words : List ℕ → Tables → Tables
with_words st σ = in_tables (λ u. st) σ

-- ---- all tables that are lent, but for the members

-- of a function that reads no member: what it asks is asked of x with some members, and what it promises is promised of x and y with any
abbrev pub with_members : Members → Lent → Lent
with_members mem x = record x { members = mem }

-- ---- a set in a word

-- a word holds the set s, or none
abbrev pub FoundSet : ℕ → Option SP → Type 0
FoundSet v (Some s) = (0 < v) × (s.0 ≡ v - 1)
FoundSet v None = v ≡ 0
