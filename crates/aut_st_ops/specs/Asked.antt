-- What the operations on two lists ask of all tables that are lent.
use Rattle.aut_states.specs.declared.Config.{Config}
use Rattle.aut_relations.specs.declared.Aut.{Aut as Lent}
use Rattle.aut_relations.specs.Lent.{aut_in}
use Rattle.aut_st_source.specs.declared.Source.{Source}
use Rattle.aut_st_source.specs.Clauses.{Walked}
use Rattle.aut_st_each.specs.Asked.{OneAsked}

-- two lists
pub record TwoAsked (k : Config) (x : Lent) (u v : Source) : Type 0 where
  pub first : OneAsked k x u
  pub second : Walked k.fields (aut_in x) x.transitions.words.now x.scratch.now v
