-- 01, "Lent tables": state word 4 is epsilon + 1. What is asked where the values of operands are put together, and what the law of epsilon says of the tables after it.
use Rattle.std.specs.Prelude.{◌≡◌, List, ℕ, ◌+◌, ◌*◌, ◌≤◌, ◌<◌, length}
use Rattle.common.specs.Runs.{Table}
use Rattle.spp_steps.specs.Wf.{ValidAt}
use Rattle.aut_steps.specs.Tables.{UNION, INTERSECT, kind_of, op2, words, Aut}
use Rattle.aut_steps.specs.Ascending.{All}
use Rattle.aut_delta_steps.specs.Epsilon.{value_of}
use Rattle.aut_delta_steps.specs.EpsilonReads.{operands_of}
use Rattle.aut_delta_steps.specs.EpsilonDown.{Known}
use Rattle.aut_delta_steps.specs.EpsilonSpec.{Epsiloned}
use Rattle.aut_states.specs.Clauses.{limits_of}
use Rattle.aut_states.specs.declared.Limits.{Limits}
use Rattle.aut_relations.specs.Behind.{CacheReady}
use Rattle.aut_relations.specs.Clauses.{Ready}
use Rattle.aut_relations.specs.declared.Aut.{Aut as Lent}
use Rattle.aut_relations.specs.Lent.{nodes_in}
use Rattle.aut_operands.specs.Clauses.{Inside}

-- ---- values put together

-- state y has its value, a relation
pub record ValueAt (N : ℕ) (t : Table) (st : List ℕ) (y : ℕ) : Type 0 where
  pub state : 12 * y + 11 < length st
  pub known : Known st y
  pub at : ValidAt t N (value_of st y)

-- relation nodes and cache in order, and the states ys have their values
pub record ValuesReady (N : ℕ) (x : Lent) (ys : List ℕ) : Type 0 where
  pub fields : x.spp.fields ≡ N
  pub backed : CacheReady N (nodes_in x) x.scratch.now
  pub values : All (ValueAt N (nodes_in x) x.states.words.now) ys

-- .. those at from; h is a relation
pub record EachReady (N : ℕ) (x : Lent) (h from k : ℕ) : Type 0 where
  pub list : ValuesReady N x (words x.members.words.now from k)
  pub inside : from + k ≤ length x.members.words.now
  pub at_h : ValidAt (nodes_in x) N h

-- .. the operands of i
pub record CombineReady (N : ℕ) (x : Lent) (i : ℕ) : Type 0 where
  pub operands : ValuesReady N x (operands_of x.states.words.now x.members.words.now i)
  pub inside : Inside x.states.words.now x.members.words.now i
  -- a list has a member
  pub some : UNION ≤ kind_of x.states.words.now i → kind_of x.states.words.now i ≤ INTERSECT → 1 ≤ op2 x.states.words.now i

-- ---- epsilon

-- tables in order after it, and what its law says
pub record After (N : ℕ) (l : Limits) (x : ℕ) (σ τ : Aut) (s' : List ℕ) (h : ℕ) : Type 0 where
  pub ready : Ready N l τ s'
  pub law : Epsiloned N (limits_of l) x σ τ h
