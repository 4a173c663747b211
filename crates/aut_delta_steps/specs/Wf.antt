-- 01, "Lent tables" and "Strings": what is kept in words 4 to 6 of the states, and in the transitions, is true of the states. Word 4 is an epsilon + 1 (SPP keeps 0), words 5
-- and 6 are the start and count + 1 of a list that is a delta, with ascending targets; each transition is in one of the stored lists. It stays so while tables grow.
use Rattle.std.specs.Prelude.{◌≡◌, List, ◌⊎◌, ℕ, ◌+◌, ◌*◌, ◌≤◌, ◌<◌, length, get_or}
use Rattle.common.specs.Packets.{Relation}
use Rattle.common.specs.Runs.{Table}
use Rattle.netkat.specs.Rules.{Language}
use Rattle.netkat.specs.Hops.{IsEpsilon}
use Rattle.netkat_steps.specs.ListSteps.{Edge, IsList}
use Rattle.spp_steps.specs.Wf.{Denotes}
use Rattle.aut_steps.specs.Tables.{SPP, Limits, Aut}
use Rattle.aut_steps.specs.Wf.{states, kind, first, WfAut}
use Rattle.aut_steps.specs.Meaning.{Holds}
use Rattle.aut_delta_steps.specs.Epsilon.{epsilon_of}
use Rattle.aut_delta_steps.specs.Delta.{start_of, count_of, Store, transition_cap, list_at}
use Rattle.aut_delta_steps.specs.Fits.{tables}

-- ---- epsilon

-- e is a handle of the relation of A's strings without hops
pub record Means (N : ℕ) (t : Table) (e : ℕ) (A : Language N) : Type 0 where
  pub relation : Relation N
  pub den : Denotes t N e relation
  pub is : IsEpsilon relation A

-- Words 4: an SPP keeps 0; what another state keeps is its epsilon + 1.
pub record Epsilons (N : ℕ) (σ : Aut) : Type 0 where
  pub none : (x : ℕ) → x < states σ → kind σ x ≡ SPP → epsilon_of σ.states.words x ≡ 0
  pub kept : (x : ℕ) → x < states σ → (e : ℕ) → epsilon_of σ.states.words x ≡ e + 1 → Means N σ.nodes e (Holds N σ x)

-- e is what state x has: an SPP its handle, another what is kept
pub data Valued (σ : Aut) (x e : ℕ) : Type 0 where
  handle : kind σ x ≡ SPP → first σ x ≡ e → Valued σ x e
  memo : (kind σ x ≡ SPP → ⊥) → epsilon_of σ.states.words x ≡ e + 1 → Valued σ x e

-- what a state has can be read: it is an SPP, or its epsilon is kept
abbrev pub HasEpsilon : Aut → ℕ → Type 0
HasEpsilon σ x = (kind σ x ≡ SPP) ⊎ (0 < epsilon_of σ.states.words x)

-- the transitions in use are as they were
pub record ExtT (s t : Table) : Type 0 where
  pub more : s.count ≤ t.count
  pub len : length t.words ≡ length s.words
  pub keep : (j : ℕ) → j < 2 * s.count → get_or t.words j 0 ≡ get_or s.words j 0
  pub beyond : (j : ℕ) → 2 * t.count ≤ j → get_or t.words j 0 ≡ get_or s.words j 0

-- Words 5 and 6 of a state: the list lies among the transitions in use, is within the limit, and is a delta of the state.
pub record Held (N : ℕ) (L : Limits) (σ : Store) (x : ℕ) : Type 0 where
  pub inside : (k : ℕ) → count_of σ.aut.states.words x ≡ k + 1 → start_of σ.aut.states.words x + k ≤ σ.transitions.count
  pub short : count_of σ.aut.states.words x ≤ L.transitions + 1
  pub list : 0 < count_of σ.aut.states.words x → IsList (tables N L) (Holds N σ.aut x) σ.aut (list_at σ x)

-- transition t is in the stored list of x
abbrev pub InList : Store → ℕ → ℕ → Type 0
InList σ x t = (start_of σ.aut.states.words x ≤ t) × (t + 1 < start_of σ.aut.states.words x + count_of σ.aut.states.words x)

-- the state in whose list it is
pub record Owner (σ : Store) (t : ℕ) : Type 0 where
  pub state : ℕ
  pub known : state < states σ.aut
  pub has : InList σ state t

-- Words 5 and 6 of all states: each transition in use is in the stored list of one state. An empty list starts at a border: not within another. Where no list is stored both words are 0.
pub record Laid (σ : Store) : Type 0 where
  pub owned : (t : ℕ) → t < σ.transitions.count → Owner σ t
  pub apart : (x y t : ℕ) → x < states σ.aut → y < states σ.aut → InList σ x t → InList σ y t → x ≡ y
  pub border : (x y : ℕ) → x < states σ.aut → y < states σ.aut → count_of σ.aut.states.words x ≡ 1 → InList σ y (start_of σ.aut.states.words x)
      → start_of σ.aut.states.words x ≡ start_of σ.aut.states.words y
  pub blank : (x : ℕ) → x < states σ.aut → count_of σ.aut.states.words x ≡ 0 → start_of σ.aut.states.words x ≡ 0

pub record Lists (N : ℕ) (L : Limits) (σ : Store) : Type 0 where
  pub some : 1 ≤ L.transitions  -- the limit allows a transition
  pub fit : 2 * σ.transitions.count ≤ length σ.transitions.words
  pub small : σ.transitions.count ≤ transition_cap
  pub held : (x : ℕ) → x < states σ.aut → Held N L σ x
  pub laid : Laid σ

-- tables in order, and all that is worked out is true
pub record WfStore (N : ℕ) (L : Limits) (σ : Store) : Type 0 where
  pub good : WfAut N L σ.aut
  pub epsilons : Epsilons N σ.aut
  pub lists : Lists N L σ

-- es is the stored list of x
pub record Stored (σ : Store) (x : ℕ) (es : List Edge) : Type 0 where
  pub marked : 0 < count_of σ.aut.states.words x
  pub reads : list_at σ x ≡ es

-- words 5 and 6 of x are as they were
abbrev pub SameWords : Store → Store → ℕ → Type 0
SameWords σ τ x = (count_of τ.aut.states.words x ≡ count_of σ.aut.states.words x) × (start_of τ.aut.states.words x ≡ start_of σ.aut.states.words x)
