-- What the answers say in the words of the steps, what is left of scratch, and what is asked.
use Rattle.std.specs.Prelude.{◌≡◌, Bool, true, false, List, ℕ, ◌+◌, ◌≤◌, ◌<◌, length, Option, Some, None, Result, Ok, Err}
use Rattle.common.specs.Outcome.{Step}
use Rattle.common.specs.Runs.{Table}
use Rattle.refusal.specs.declared.Refusal.{Refusal}
use Rattle.refusal.specs.Numbers.{outcome}
use Rattle.spp_steps.specs.Wf.{ValidAt}
use Rattle.aut_steps.specs.Tables.{words}
use Rattle.spp.specs.declared.SPP.{SPP}
use Rattle.aut_steps.specs.Relations as Rel
use Rattle.aut_steps.specs.Ascending.{All}
use Rattle.aut_steps.specs.Constructors as C
use Rattle.aut_steps.specs.Constructors.{met}
use Rattle.aut_steps.specs.Scratch.{Kept}
use Rattle.aut_states.specs.Clauses.{Fits, states_of}
use Rattle.aut_states.specs.declared.States.{States}
use Rattle.aut_relations.specs.Behind.{LISTS, CacheReady}
use Rattle.aut_relations.specs.Clauses.{RelAt}
use Rattle.aut_relations.specs.declared.Aut.{Aut as Lent}
use Rattle.aut_relations.specs.Lent.{nodes_in}
use Rattle.aut_union.specs.declared.Parts.{Parts}

-- at most so many, unless refused
abbrev pub Most : {V : Type 0} → (V → ℕ) → Result V Refusal → ℕ → Type 0
Most many (Ok v) most = many v ≤ most
Most many (Err e) most = Unit

-- ---- the relations united, the other members at `to`

abbrev pub parts_at : List ℕ → ℕ → Parts → C.Parts
parts_at s to p = C.parts p.relation.0 (words s to p.others)

-- h is a relation of N fields and x a state, and there is room for one more word
pub record UniteReady (N : ℕ) (l : Lent) (h x to m : ℕ) : Type 0 where
  pub fields : l.spp.fields ≡ N
  pub backed : CacheReady N (nodes_in l) l.scratch.now
  pub at_h : ValidAt (nodes_in l) N h
  pub at_x : RelAt N (nodes_in l) l.states.words.now x
  pub room : to + m < LISTS

pub record UnitesReady (N : ℕ) (l : Lent) (from k to : ℕ) : Type 0 where
  pub fields : l.spp.fields ≡ N
  pub backed : CacheReady N (nodes_in l) l.scratch.now
  pub at : All (RelAt N (nodes_in l) l.states.words.now) (words l.scratch.now from k)
  pub apart : from + k ≤ to
  pub room : to + k ≤ LISTS

-- ---- the relation as a state

-- whether there is a relation, and the relation; with none so far it is the top
abbrev pub some_of : Option SPP → Bool
some_of (Some h) = true
some_of None = false

abbrev pub handle_of : ℕ → Option SPP → ℕ
handle_of N (Some h) = h.0
handle_of N None = Rel.top_at N

abbrev pub met_of : ℕ → Option SPP → List ℕ → C.Met
met_of N r xs = met (some_of r) (handle_of N r) xs

pub record AddReady (st s : List ℕ) (n at k : ℕ) : Type 0 where
  pub fits : Fits st n
  pub room : at + k < length s

-- the list is the words at `at`, of which one at most is new
pub record Adds (o : Step Table (List ℕ)) (x : States) (r : Result ℕ Refusal) (y : States) (s s' : List ℕ) (at k : ℕ) : Type 0 where
  pub is : o (states_of x) ≡ outcome (words s' at) r (states_of y)
  pub kept : Kept (at + k) 1 s s'
  pub few : Most (λ m. m) r (k + 1)

-- ---- what the constructors ask of their operands

-- the k words at `from`, which stand before `before`, are states
pub record ListAt (s : List ℕ) (n from k before : ℕ) : Type 0 where
  pub states : All (λ x. x < n) (words s from k)
  pub apart : from + k ≤ before

pub record PairAt (n x y : ℕ) : Type 0 where
  pub has_x : x < n
  pub has_y : y < n
