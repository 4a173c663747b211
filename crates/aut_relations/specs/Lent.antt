-- All tables that are lent: how the steps see them, what a call keeps, what its answer says, and what the operations on relations ask.
use Rattle.std.specs.Prelude.{◌≡◌, Bool, true, false, ℕ, ◌<◌, Result, Ok, Err}
use Rattle.slices.specs.Same.{SameSlice}
use Rattle.common.specs.Outcome.{Step}
use Rattle.common.specs.Runs.{Table, table}
use Rattle.refusal.specs.declared.Refusal.{Refusal}
use Rattle.refusal.specs.Numbers.{outcome}
use Rattle.spp_steps.specs.Wf.{ValidAt}
use Rattle.spp.specs.Clauses.{SameStore}
use Rattle.aut_steps.specs.Tables.{op1, Exprs, exprs, Aut, aut}
use Rattle.aut_states.specs.Clauses.{Fits}
use Rattle.aut_states.specs.declared.Config.{Config}
use Rattle.aut_relations.specs.declared.Aut.{Aut as Lent}
use Rattle.aut_relations.specs.Behind.{Modifies, CacheReady}
use Rattle.aut_relations.specs.Clauses.{Ready}

-- ---- the tables as the steps see them

abbrev pub nodes_in : Lent → Table
nodes_in x = table x.spp.nodes.now x.spp.count

abbrev pub sets_in : Lent → Table
sets_in x = table x.sp.nodes.now x.sp.count

abbrev pub states_in : Lent → Table
states_in x = table x.states.words.now x.states.count

abbrev pub members_in : Lent → Table
members_in x = table x.members.words.now x.members.count

abbrev pub exprs_in : Lent → Exprs
exprs_in x = exprs (states_in x) (members_in x)

abbrev pub aut_in : Lent → Aut
aut_in x = aut (nodes_in x) (states_in x) (members_in x)

abbrev pub transitions_in : Lent → Table
transitions_in x = table x.transitions.words.now x.transitions.count

-- ---- what a call keeps: x before, y after

-- the tables that a call may write; `count`: it may change how many states there are
pub record Writes : Type 0 where
  pub sp : Bool
  pub spp : Bool
  pub states : Bool
  pub count : Bool
  pub members : Bool
  pub transitions : Bool
  pub pending : Bool
  pub scratch : Bool

-- what is kept of a table that is written, or not
abbrev pub either : Bool → Type 0 → Type 0 → Type 0
either true A B = A
either false A B = B

-- of a table that is written the same words are lent, as many; another is as it was
pub record KeepsBut (w : Writes) (x y : Lent) : Type 0 where
  pub sp : either w.sp (SameSlice x.sp.nodes y.sp.nodes) (y.sp ≡ x.sp)
  pub spp : either w.spp (SameStore x.spp y.spp) (y.spp ≡ x.spp)
  pub states : either w.states (SameSlice x.states.words y.states.words) (y.states ≡ x.states)
  pub count : either w.count Unit (y.states.count ≡ x.states.count)
  pub members : either w.members (SameSlice x.members.words y.members.words) (y.members ≡ x.members)
  pub transitions : either w.transitions (SameSlice x.transitions.words y.transitions.words) (y.transitions ≡ x.transitions)
  pub pending : either w.pending (SameSlice x.pending y.pending) (y.pending ≡ x.pending)
  pub scratch : either w.scratch (SameSlice x.scratch y.scratch) (y.scratch ≡ x.scratch)

-- relation nodes and scratch are written
abbrev pub KeepsExprs : Lent → Lent → Type 0
KeepsExprs x y = KeepsBut (record { sp = false; spp = true; states = false; count = false; members = false; transitions = false; pending = false; scratch = true }) x y

-- .. and states and members
abbrev pub Keeps : Lent → Lent → Type 0
Keeps x y = KeepsBut (record { sp = false; spp = true; states = true; count = true; members = true; transitions = false; pending = false; scratch = true }) x y

-- ---- what an answer says

-- T, unless refused
abbrev pub Unless : {V : Type 0} → Result V Refusal → Type 0 → Type 0
Unless (Ok v) T = T
Unless (Err e) T = Unit

-- it is refused with f alone
abbrev pub Only : {V : Type 0} → Refusal → Result V Refusal → Type 0
Only f (Ok v) = Unit
Only f (Err e) = e ≡ f

-- The steps o from x, seen by `view`, come to the answer r, its value seen by `see`, and to y. Unless refused, of the lists in scratch only the n words from a on were written.
pub record Does (N a n : ℕ) {S V A : Type 0} (view : Lent → S) (see : V → A) (o : Step S A) (x : Lent) (r : Result V Refusal) (y : Lent) : Type 0 where
  pub is : o (view x) ≡ outcome see r (view y)
  pub left : Unless r (Modifies N a n (nodes_in y) x.scratch.now y.scratch.now)

-- ---- what is asked

-- tables and scratch in order, for the fields and limits of the book
pub record Asked (k : Config) (x : Lent) : Type 0 where
  pub fields : x.spp.fields ≡ k.fields
  pub ready : Ready k.fields k.limits (aut_in x) x.scratch.now

-- a and b are relations of N fields
pub record Handles (N : ℕ) (x : Lent) (a b : ℕ) : Type 0 where
  pub fields : x.spp.fields ≡ N
  pub backed : CacheReady N (nodes_in x) x.scratch.now
  pub at_a : ValidAt (nodes_in x) N a
  pub at_b : ValidAt (nodes_in x) N b

-- the states x and y are relations
pub record Relations (N : ℕ) (l : Lent) (x y : ℕ) : Type 0 where
  pub fits : Fits l.states.words.now l.states.count
  pub has_x : x < l.states.count
  pub has_y : y < l.states.count
  pub handles : Handles N l (op1 l.states.words.now x) (op1 l.states.words.now y)
