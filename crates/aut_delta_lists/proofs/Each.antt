-- What the loop over a list asks where it begins with no list.
use Rattle.aut_st_steps.specs.Edges.{edges}
use Rattle.aut_st_steps.specs.EachSteps as M
use Rattle.aut_st_steps.specs.EachSteps.{EachAt}
use Rattle.aut_st_steps.proofs.ListSpec.{list_empty}
use Rattle.aut_states.specs.declared.Config.{Config}
use Rattle.aut_relations.specs.declared.Aut.{Aut as Lent}
use Rattle.aut_relations.specs.Lent.{aut_in}
use Rattle.aut_st_source.specs.declared.Source.{Source}
use Rattle.aut_st_each.specs.Asked.{EachAsked}
use Rattle.aut_st_each.specs.Asked.{OneAsked}

module _ {k : Config} {x : Lent} {source : Source} where
  pub each_asked : {each : M.Each} → OneAsked k x source → EachAt k.fields (aut_in x) each → EachAsked k x each source 0
  unfolding edges
  each_asked W O = record { list = record { asked = W.asked; list = list_empty (aut_in x); limit = W.limit }; operands = O; walked = W.walked }
