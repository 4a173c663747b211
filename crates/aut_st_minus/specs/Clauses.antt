-- 01, port order, step 3 (ST operations): what st_difference's loops ask, and their answer in the words of the steps. The list that is made stands at RESULT.
use Rattle.std.specs.Prelude.{ℕ, ◌*◌, Result}
use Rattle.common.specs.Outcome.{Step}
use Rattle.refusal.specs.declared.Refusal.{Refusal}
use Rattle.netkat_steps.specs.ListSteps.{Edge, Summed}
use Rattle.aut_steps.specs.Tables.{Aut}
use Rattle.aut_st_steps.specs.Edges.{EdgeAt}
use Rattle.aut_st_steps.specs.ListSpec.{Label, SumAt}
use Rattle.aut_states.specs.Clauses.{limits_of}
use Rattle.aut_states.specs.declared.Config.{Config}
use Rattle.aut_relations.specs.declared.Aut.{Aut as Lent}
use Rattle.aut_relations.specs.Lent.{aut_in}
use Rattle.aut_stage.specs.OnLent.{Goes}
use Rattle.aut_st_insert.specs.Clauses.{FIRST, list_in}
use Rattle.aut_st_insert.specs.Asked.{ListAsked}
use Rattle.aut_st_source.specs.declared.Source.{Source}
use Rattle.aut_st_source.specs.Clauses.{Walked}
use Rattle.aut_st_insert.specs.declared.Met.{Met}

-- ---- what is asked: the list at RESULT, the relation h, and of each list one transition, or the list

pub record OneAsked (k : Config) (x : Lent) (t u : Edge) (h m : ℕ) : Type 0 where
  pub list : ListAsked k x m
  pub first : EdgeAt k.fields (aut_in x) t
  pub second : EdgeAt k.fields (aut_in x) u
  pub sum : Label k.fields (aut_in x) h

pub record RowAsked (k : Config) (x : Lent) (t : Edge) (v : Source) (h m : ℕ) : Type 0 where
  pub list : ListAsked k x m
  pub first : EdgeAt k.fields (aut_in x) t
  pub second : Walked k.fields (aut_in x) x.transitions.words.now x.scratch.now v
  pub sum : Label k.fields (aut_in x) h

pub record RowsAsked (k : Config) (x : Lent) (u v : Source) (h m : ℕ) : Type 0 where
  pub list : ListAsked k x m
  pub first : Walked k.fields (aut_in x) x.transitions.words.now x.scratch.now u
  pub second : Walked k.fields (aut_in x) x.transitions.words.now x.scratch.now v
  pub sum : Label k.fields (aut_in x) h

-- ---- an answer: the labels met so far, and the list at RESULT by its length

abbrev pub sum_in : Lent → Met → Summed
sum_in x p = record { sum = p.sum.0; result = list_in x p.count }

-- the step o has been done
abbrev pub GoesSum : Config → Step Aut Summed → Lent → Result Met Refusal → Lent → Type 0
GoesSum k o x r y = Goes k 0 (2 * FIRST) (SumAt k.fields (limits_of k.limits)) (sum_in y) o x r y
