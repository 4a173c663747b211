-- 01, "Lent tables": all tables that a query works on. Packet nodes; and relation nodes, states, members and transitions, which delta and epsilon work on. Steps on a part of them as
-- steps on all; when they are in order: the nodes are well formed and what is worked out in words 4 to 7 of the states is true; and what is kept when they have come further.
use Rattle.std.specs.Prelude.{◌≡◌, ℕ, ◌+◌, ◌*◌, ◌≤◌, ◌<◌, get_or}
use mathlib.Core.List.{List, Memᴰ}
use Rattle.common.specs.Packets.{Set}
use Rattle.common.specs.Outcome.{Step}
use Rattle.common.specs.Runs.{Table, placed}
use Rattle.netkat_steps.specs.ListSteps.{Edge}
use Rattle.netkat.specs.Rules.{Language}
use Rattle.netkat.specs.Live.{IsLive}
use Rattle.sp_steps.specs.Wf as SpLaws
use Rattle.spp_steps.specs.Wf.{Wf, Ext}
use Rattle.spp_steps.specs.ImageModel.{Stores, stores}
use Rattle.aut_steps.specs.Tables.{Limits, put_nodes}
use Rattle.aut_steps.specs.Wf.{states, ExtAut}
use Rattle.aut_steps.specs.Meaning.{Holds}
use Rattle.aut_delta_steps.specs.Epsilon.{epsilon_of}
use Rattle.aut_delta_steps.specs.Delta.{count_of, Store, store, list_at}
use Rattle.aut_delta_steps.specs.Wf.{HasEpsilon, ExtT, WfStore, SameWords}

-- ---- the tables

pub record Tables : Type 0 where
  pub sets : Table  -- packet nodes
  pub base : Store  -- relation nodes, states, members, transitions

abbrev pub tables : Table → Store → Tables
tables s b = record { sets = s; base = b }

-- both kinds of nodes
abbrev pub diagrams : Tables → Stores
diagrams σ = stores σ.sets σ.base.aut.nodes

abbrev pub put_sets : Table → Tables → Tables
put_sets s σ = tables s σ.base

abbrev pub put_base : Store → Tables → Tables
put_base b σ = tables σ.sets b

abbrev pub put_relations : Table → Tables → Tables
put_relations r σ = tables σ.sets (store (put_nodes r σ.base.aut) σ.base.transitions)

-- a step on packet nodes alone, and one on the other tables, as steps on all
abbrev pub on_sets : {A : Type 0} → Step Table A → Step Tables A
on_sets c σ = placed put_sets σ (c σ.sets)

abbrev pub on_base : {A : Type 0} → Step Store A → Step Tables A
on_base c σ = placed put_base σ (c σ.base)

-- a step on both kinds of nodes that makes packet nodes only (bwd, push, pull), and one that makes relation nodes only (ifwd)
abbrev pub making_sets : {A : Type 0} → Step Stores A → Step Tables A
making_sets c σ = placed (λ s σ. put_sets s.sp σ) σ (c (diagrams σ))

abbrev pub making_relations : {A : Type 0} → Step Stores A → Step Tables A
making_relations c σ = placed (λ s σ. put_relations s.spp σ) σ (c (diagrams σ))

-- word 7 of a state: live + 1, or 0
unfoldable pub live_of : List ℕ → ℕ → ℕ
live_of st x = get_or st (12 * x + 7) 0

-- ---- tables in order

-- l is a handle of the start packets of A's strings
pub record LiveSet (N : ℕ) (t : Table) (l : ℕ) (A : Language N) : Type 0 where
  pub set : Set N
  pub den : SpLaws.Denotes t N l set
  pub is : IsLive set A

-- Word 7 of a state: what it keeps is the state's live set. Then its list is stored, and its epsilon unless it is an SPP; and the live sets of the targets are kept too.
pub record Lives (N : ℕ) (σ : Tables) : Type 0 where
  pub kept : (x : ℕ) → x < states σ.base.aut → (l : ℕ) → live_of σ.base.aut.states.words x ≡ l + 1 → LiveSet N σ.sets l (Holds N σ.base.aut x)
  pub listed : (x : ℕ) → x < states σ.base.aut → 0 < live_of σ.base.aut.states.words x → 0 < count_of σ.base.aut.states.words x
  pub has_epsilon : (x : ℕ) → x < states σ.base.aut → 0 < live_of σ.base.aut.states.words x → HasEpsilon σ.base.aut x
  pub onward : (x : ℕ) → x < states σ.base.aut → 0 < live_of σ.base.aut.states.words x → (e : Edge) → Memᴰ e (list_at σ.base x)
      → 0 < live_of σ.base.aut.states.words e.target

pub record WfTables (N : ℕ) (L : Limits) (σ : Tables) : Type 0 where
  pub sets : SpLaws.Wf N σ.sets
  pub worked : WfStore N L σ.base
  pub lives : Lives N σ

-- Steps of any query: what was worked out, live sets too, is as it was; words 8 to 11 are not written.
pub record ExtTables (σ τ : Tables) : Type 0 where
  pub sets : SpLaws.Ext σ.sets τ.sets
  pub grown : ExtAut σ.base.aut τ.base.aut
  pub epsilons : (i : ℕ) → 0 < epsilon_of σ.base.aut.states.words i → epsilon_of τ.base.aut.states.words i ≡ epsilon_of σ.base.aut.states.words i
  pub lists : (i : ℕ) → 0 < count_of σ.base.aut.states.words i → SameWords σ.base τ.base i
  pub lives : (i : ℕ) → 0 < live_of σ.base.aut.states.words i → live_of τ.base.aut.states.words i ≡ live_of σ.base.aut.states.words i
  pub others : (i w : ℕ) → 8 ≤ w → w < 12 → get_or τ.base.aut.states.words (12 * i + w) 0 ≡ get_or σ.base.aut.states.words (12 * i + w) 0
  pub transitions : ExtT σ.base.transitions τ.base.transitions
