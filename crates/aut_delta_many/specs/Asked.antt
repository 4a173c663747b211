-- 01, port order, step 3 (delta) and "Forms that must change": the lists of a Union and of an Intersect, joined when every member's list stands in the tables. What is asked.
use Rattle.std.specs.Prelude.{◌≡◌, ℕ, ◌+◌, ◌≤◌, ◌<◌}
use Rattle.aut_steps.specs.Tables.{words}
use Rattle.aut_steps.specs.Ascending.{All}
use Rattle.aut_st_steps.specs.ListSpec.{ListAt}
use Rattle.aut_delta_steps.specs.DeltaDown.{Has}
use Rattle.aut_delta_stage.specs.OnTables.{store_in, StoreAsked, Prepared}
use Rattle.aut_states.specs.Clauses.{limits_of}
use Rattle.aut_states.specs.declared.Config.{Config}
use Rattle.aut_relations.specs.declared.Aut.{Aut as Lent}
use Rattle.aut_relations.specs.Lent.{aut_in}
use Rattle.aut_st_insert.specs.Clauses.{list_in}

-- the n transitions at RESULT are a list, and y is a state whose list is stored
pub record NextAsked (c : Config) (x : Lent) (n y : ℕ) : Type 0 where
  pub asked : StoreAsked c x
  pub limit : c.limits.transitions ≤ 64
  pub list : ListAt c.fields (limits_of c.limits) (aut_in x) (list_in x n)
  pub state : y < x.states.count
  pub has : Has (store_in x) y

-- .. and so are the k members at `from`
pub record AllAsked (c : Config) (x : Lent) (n from k : ℕ) : Type 0 where
  pub asked : StoreAsked c x
  pub limit : c.limits.transitions ≤ 64
  pub list : ListAt c.fields (limits_of c.limits) (aut_in x) (list_in x n)
  pub inside : from + k ≤ x.members.count
  pub states : All (λ y. y < x.states.count) (words x.members.words.now from k)
  pub lists : All (Has (store_in x)) (words x.members.words.now from k)

-- the k members at `from` are states whose lists are stored; there is one
pub record ManyAsked (c : Config) (x : Lent) (from k : ℕ) : Type 0 where
  pub fields : x.spp.fields ≡ c.fields
  pub prepared : Prepared c.fields c.limits (store_in x) x.scratch.now
  pub limit : c.limits.transitions ≤ 64
  pub some : 1 ≤ k
  pub inside : from + k ≤ x.members.count
  pub states : All (λ y. y < x.states.count) (words x.members.words.now from k)
  pub lists : All (Has (store_in x)) (words x.members.words.now from k)
