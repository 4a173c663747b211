-- What the loops over transition lists ask. The list that is made stands at RESULT.
use Rattle.std.specs.Prelude.{ℕ, ◌≤◌}
use Rattle.netkat_steps.specs.ListSteps.{Edge}
use Rattle.aut_st_steps.specs.Edges.{EdgeAt}
use Rattle.aut_st_steps.specs.EachSteps as M
use Rattle.aut_st_steps.specs.EachSteps.{EachAt}
use Rattle.aut_states.specs.declared.Config.{Config}
use Rattle.aut_relations.specs.declared.Aut.{Aut as Lent}
use Rattle.aut_relations.specs.Lent.{aut_in, Asked}
use Rattle.aut_st_insert.specs.Asked.{ListAsked}
use Rattle.aut_st_source.specs.declared.Source.{Source}
use Rattle.aut_st_source.specs.Clauses.{Walked}

-- the operands and the transition are in order
pub record MakeAsked (k : Config) (x : Lent) (each : M.Each) (t : Edge) : Type 0 where
  pub asked : Asked k x
  pub operands : EachAt k.fields (aut_in x) each
  pub edge : EdgeAt k.fields (aut_in x) t

-- the m transitions at RESULT are a list, the operands are in order, and the source can be walked
pub record EachAsked (k : Config) (x : Lent) (each : M.Each) (source : Source) (m : ℕ) : Type 0 where
  pub list : ListAsked k x m
  pub operands : EachAt k.fields (aut_in x) each
  pub walked : Walked k.fields (aut_in x) x.transitions.words.now x.scratch.now source

-- the same with two sources
pub record PairsAsked (k : Config) (x : Lent) (source other : Source) (m : ℕ) : Type 0 where
  pub list : ListAsked k x m
  pub first : Walked k.fields (aut_in x) x.transitions.words.now x.scratch.now source
  pub second : Walked k.fields (aut_in x) x.transitions.words.now x.scratch.now other

-- the source of an operation that begins a list
pub record OneAsked (k : Config) (x : Lent) (source : Source) : Type 0 where
  pub asked : Asked k x
  pub limit : k.limits.transitions ≤ 64
  pub walked : Walked k.fields (aut_in x) x.transitions.words.now x.scratch.now source
