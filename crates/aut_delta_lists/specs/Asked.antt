-- 01, port order, step 3 (delta): what the lists of a kind ask, and what those from no list leave.
use Rattle.std.specs.Prelude.{List, ℕ, ◌*◌, ◌≤◌, Result}
use Rattle.common.specs.Outcome.{Step}
use Rattle.common.specs.Runs.{Table}
use Rattle.refusal.specs.declared.Refusal.{Refusal}
use Rattle.netkat_steps.specs.ListSteps.{Edge}
use Rattle.aut_steps.specs.Tables.{Aut, aut}
use Rattle.aut_st_steps.specs.ListSpec.{State, Label, ListAt}
use Rattle.aut_states.specs.Clauses.{limits_of}
use Rattle.aut_states.specs.declared.Config.{Config}
use Rattle.aut_relations.specs.Clauses.{Ready}
use Rattle.aut_relations.specs.declared.Aut.{Aut as Lent}
use Rattle.aut_relations.specs.Lent.{states_in, aut_in, Asked}
use Rattle.aut_stage.specs.Rule.{Post}
use Rattle.aut_stage.specs.OnLent.{lent_layer}
use Rattle.aut_st_insert.specs.Clauses.{FIRST, list_in}
use Rattle.aut_st_source.specs.declared.Source.{Source}
use Rattle.aut_st_source.specs.declared.Span.{Span}
use Rattle.aut_st_source.specs.Clauses.{stored, Walked}
pub use Rattle.aut_st_each.specs.Asked.{OneAsked}
pub use Rattle.aut_st_ops.specs.Asked.{TwoAsked}

-- a list that is walked
abbrev pub Lists : Config → Lent → Source → Type 0
Lists c x l = Walked c.fields (aut_in x) x.transitions.words.now x.scratch.now l

-- ---- from stored lists

-- the state y, the relation ε, and two lists
pub record SequenceAsked (c : Config) (x : Lent) (y ε : ℕ) (p q : Span) : Type 0 where
  pub asked : Asked c x
  pub limit : c.limits.transitions ≤ 64
  pub first : Lists c x (stored p.start p.count)
  pub second : Lists c x (stored q.start q.count)
  pub state : State (aut_in x) y
  pub label : Label c.fields (aut_in x) ε

-- the state y, the relation ε, and a list
pub record StarAsked (c : Config) (x : Lent) (y ε : ℕ) (p : Span) : Type 0 where
  pub asked : Asked c x
  pub limit : c.limits.transitions ≤ 64
  pub list : Lists c x (stored p.start p.count)
  pub state : State (aut_in x) y
  pub label : Label c.fields (aut_in x) ε

-- the states y and z, and two lists
pub record UntilAsked (c : Config) (x : Lent) (y z : ℕ) (p q : Span) : Type 0 where
  pub asked : Asked c x
  pub limit : c.limits.transitions ≤ 64
  pub first : Lists c x (stored p.start p.count)
  pub second : Lists c x (stored q.start q.count)
  pub left : State (aut_in x) y
  pub right : State (aut_in x) z

-- ---- from no list: relation nodes and members are not looked at

-- the tables of x, with the nodes t and the members m
abbrev pub aut_with : Lent → Table → Table → Aut
aut_with x t m = aut t (states_in x) m

-- they are in order
abbrev pub ReadyWith : Config → Lent → Table → Table → Type 0
ReadyWith c x t m = Ready c.fields c.limits (aut_with x t m) x.scratch.now

-- the tables are in order with some nodes and members, and the limit allows a transition
pub record AloneAsked (c : Config) (x : Lent) : Type 0 where
  pub nodes : Table
  pub members : Table
  pub ready : ReadyWith c x nodes members
  pub some : 1 ≤ c.limits.transitions

-- whatever the nodes and members are with which the tables are in order, if P holds of them: what GoesInsert says
pub record GoesAlone (c : Config) (P : Aut → Type 0) (o : Step Aut (List Edge)) (x : Lent) (r : Result ℕ Refusal) (y : Lent) : Type 0 where
  pub post : (t m : Table) → ReadyWith c x t m → P (aut_with x t m)
      → Post (lent_layer c.fields c.limits) 0 (2 * FIRST) (ListAt c.fields (limits_of c.limits)) (list_in y) (o (aut_with x t m)) (aut_with x t m) r (aut_with y t m) x.scratch.now y.scratch.now

-- nothing more is asked of them
abbrev pub Anything : Aut → Type 0
Anything σ = Unit
