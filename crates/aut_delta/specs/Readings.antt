-- 01, "Lent tables": word 6 of a state is 0 while its list is not stored. What the answers of delta's parts say in the words of its step, and what is asked.
use Rattle.std.specs.Prelude.{◌≡◌, Bool, true, false, List, ℕ, ◌≤◌, ◌<◌, ltb, length, drop, Result, Ok, Err}
use Rattle.common.specs.Outcome.{Step, ◌>>=◌, return}
use Rattle.refusal.specs.declared.Refusal.{Refusal}
use Rattle.aut_steps.specs.Relations as Rel
use Rattle.aut_steps.specs.Tables.{on_nodes}
use Rattle.aut_steps.specs.Ascending.{All}
use Rattle.aut_delta_steps.specs.Epsilon.{epsilon}
use Rattle.aut_delta_steps.specs.Delta.{Store, on_aut}
use Rattle.aut_delta_steps.specs.DeltaReads.{list_operands, quit, enter}
use Rattle.aut_delta_steps.specs.DeltaDown.{Has, HasNot, ListWay, enters}
use Rattle.aut_states.specs.declared.Config.{Config}
use Rattle.aut_relations.specs.declared.Aut.{Aut as Lent}
use Rattle.aut_delta_stage.specs.OnTables.{store_in, StoreAsked, GoesStore}

-- ---- to enter a state

-- tables in order, and what is worked out is true; i is a state
pub record EnterAsked (k : Config) (x : Lent) (i : ℕ) : Type 0 where
  pub store : StoreAsked k x
  pub has : i < x.states.count

-- the step o has been done; of the lists in scratch nothing was touched
abbrev pub Enters : {V : Type 0} → Config → Step Store Unit → Lent → Result V Refusal → Lent → Type 0
Enters k o x r y = GoesStore k 0 0 (λ τ u. Unit) (λ v. tt) o x r y

abbrev pub epsilon_quit : ℕ → ℕ → Step Store Unit
epsilon_quit N a = on_aut (epsilon N a >>= quit)

abbrev pub star_quit : ℕ → ℕ → Step Store Unit
star_quit N a = on_aut (epsilon N a >>= λ e. on_nodes (Rel.star N e) >>= quit)

-- .. or nothing, if its place i is one of the first k
abbrev pub unless : Bool → Step Store Unit → Step Store Unit
unless true o = return tt
unless false o = o

abbrev pub unless_entered : (N i n k : ℕ) → Step Store Unit
unless_entered N i n k = unless (ltb n k) (enter N i)

-- ---- down to a state of which all operands have their lists

-- tables in order; i is a state that has no list
pub record DescendAsked (k : Config) (x : Lent) (i : ℕ) : Type 0 where
  pub store : StoreAsked k x
  pub has : i < x.states.count
  pub not_yet : HasNot (store_in x) i

-- y is the end of a way from i, with n states above it; of these those from number e on are entered
pub record Ends {V : Type 0} (k : Config) (i e y n : ℕ) (x : Lent) (r : Result V Refusal) (z : Lent) : Type 0 where
  pub above : List ℕ
  pub way : ListWay (store_in x) y above i
  pub place : length above ≡ n
  pub entered : Enters k (enters k.fields (drop e above)) x r z

-- one of them was refused
pub record EndsFull {V : Type 0} (k : Config) (i e : ℕ) (x : Lent) (r : Result V Refusal) (z : Lent) : Type 0 where
  pub end : ℕ
  pub above : List ℕ
  pub way : ListWay (store_in x) end above i
  pub entered : Enters k (enters k.fields (drop e above)) x r z

abbrev pub EndsBy : Config → ℕ → ℕ → Lent → Result (ℕ × ℕ) Refusal → Lent → Type 0
EndsBy k i e x (Ok p) z = Ends k i e p.0 p.1 x (Ok p) z
EndsBy k i e x (Err q) z = EndsFull {V = ℕ × ℕ} k i e x (Err q) z

-- ---- all operands have their lists

pub record FinishAsked (k : Config) (x : Lent) (i : ℕ) : Type 0 where
  pub store : StoreAsked k x
  pub limit : k.limits.transitions ≤ 64
  pub has : i < x.states.count
  pub not_yet : HasNot (store_in x) i
  pub lists : All (Has (store_in x)) (list_operands (store_in x) i)
