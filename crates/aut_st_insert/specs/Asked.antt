-- What an insertion and its parts ask of the tables that are lent.
use Rattle.std.specs.Prelude.{ℕ, ◌≤◌}
use Rattle.netkat_steps.specs.ListSteps.{Edge}
use Rattle.aut_st_steps.specs.Edges.{edges, EdgeAt}
use Rattle.aut_st_steps.specs.ListSpec.{ListAt, Label}
use Rattle.aut_states.specs.Clauses.{limits_of}
use Rattle.aut_states.specs.declared.Config.{Config}
use Rattle.aut_relations.specs.declared.Aut.{Aut as Lent}
use Rattle.aut_relations.specs.Lent.{aut_in, Asked}
use Rattle.aut_st_insert.specs.Clauses.{TAKEN, list_in}

-- tables and scratch in order, the limits in range, and the m transitions at RESULT are a list
pub record ListAsked (k : Config) (x : Lent) (m : ℕ) : Type 0 where
  pub asked : Asked k x
  pub list : ListAt k.fields (limits_of k.limits) (aut_in x) (list_in x m)
  pub limit : k.limits.transitions ≤ 64

-- a transition to be placed
pub record PlaceAsked (k : Config) (x : Lent) (m : ℕ) (e : Edge) : Type 0 where
  pub list : ListAsked k x m
  pub edge : EdgeAt k.fields (aut_in x) e

-- the rest of e, which has met a label, is to be placed
pub record RestAsked (k : Config) (x : Lent) (m total meet : ℕ) (e : Edge) : Type 0 where
  pub list : ListAsked k x m
  pub at_total : Label k.fields (aut_in x) total
  pub at_meet : Label k.fields (aut_in x) meet
  pub edge : EdgeAt k.fields (aut_in x) e

-- a transition u is to be inserted, and e is one of the list
pub record MeetAsked (k : Config) (x : Lent) (m : ℕ) (u e : Edge) : Type 0 where
  pub list : ListAsked k x m
  pub new : EdgeAt k.fields (aut_in x) u
  pub edge : EdgeAt k.fields (aut_in x) e

-- the m transitions at TAKEN are the list
pub record WalkAsked (k : Config) (x : Lent) (m : ℕ) (u : Edge) : Type 0 where
  pub asked : Asked k x
  pub taken : ListAt k.fields (limits_of k.limits) (aut_in x) (edges x.scratch.now TAKEN m)
  pub limit : k.limits.transitions ≤ 64
  pub new : EdgeAt k.fields (aut_in x) u
