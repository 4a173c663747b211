-- 01, port order, step 3 (ST operations): the list that gets the transition stands at RESULT in scratch, and is answered as its length. 01, 9: a transition list,
-- intermediate ones included, that passes the limit is refused.
use Rattle.std.specs.Prelude.{List, ℕ, ◌*◌, Result}
use Rattle.common.specs.Outcome.{Step}
use Rattle.refusal.specs.declared.Refusal.{Refusal}
use Rattle.netkat_steps.specs.ListSteps.{Edge}
use Rattle.aut_steps.specs.Tables.{Aut}
use Rattle.aut_st_steps.specs.Edges.{edges}
use Rattle.aut_st_steps.specs.ListSpec.{ListAt}
use Rattle.aut_st_steps.specs.InsertSteps.{Part, part}
use Rattle.aut_states.specs.Clauses.{limits_of}
use Rattle.aut_states.specs.declared.Config.{Config}
use Rattle.aut_relations.specs.declared.Aut.{Aut as Lent}
use Rattle.aut_stage.specs.OnLent.{Goes}
use Rattle.aut_st_insert.specs.declared.Met.{Met}

-- ---- places in scratch, by number of the record (two words)

-- the list in hand
abbrev pub RESULT : ℕ
RESULT = 288

-- the list that it was, while a new one is made
abbrev pub TAKEN : ℕ
TAKEN = 352

-- lists that wait, where no insertion writes
abbrev pub FIRST : ℕ
FIRST = 416

abbrev pub SECOND : ℕ
SECOND = 480

-- behind them
abbrev pub END : ℕ
END = 544

-- ---- answers

-- the list at RESULT; the labels met beside it
abbrev pub list_in : Lent → ℕ → List Edge
list_in x m = edges x.scratch.now RESULT m

abbrev pub part_in : Lent → Met → Part
part_in x p = part p.sum.0 (list_in x p.count)

-- ---- what is done: a list is made by the step o, and stands at RESULT. All that is written of scratch lies

-- before FIRST
abbrev pub GoesInsert : Config → Step Aut (List Edge) → Lent → Result ℕ Refusal → Lent → Type 0
GoesInsert k o x r y = Goes k 0 (2 * FIRST) (ListAt k.fields (limits_of k.limits)) (list_in y) o x r y

-- before END
abbrev pub GoesList : Config → Step Aut (List Edge) → Lent → Result ℕ Refusal → Lent → Type 0
GoesList k o x r y = Goes k 0 (2 * END) (ListAt k.fields (limits_of k.limits)) (list_in y) o x r y
