-- 01, "Lent tables" (words 5 and 6, transitions): a finished list is stored after those already there; 25 where the whole list has no room. What storing one asks, what is kept, and what its parts say.
use Rattle.std.specs.Prelude.{◌≡◌, true, false, List, ℕ, ◌+◌, ◌*◌, ◌≤◌, ◌<◌, length, Result, Ok, Err}
use Rattle.common.specs.Runs.{Table, table}
use Rattle.netkat_steps.specs.ListSteps.{Edge}
use Rattle.refusal.specs.declared.Refusal.{Refusal}
use Rattle.refusal.specs.Numbers.{number_of}
use Rattle.aut_delta_steps.specs.Delta.{transition_cap, room_t, append}
use Rattle.aut_relations.specs.declared.Aut.{Aut as Lent}
use Rattle.aut_relations.specs.Lent.{KeepsBut}
use Rattle.aut_relations.specs.declared.Transitions.{Transitions}
pub use Rattle.aut_st_insert.specs.Clauses.{RESULT, END}

abbrev pub table_of : Transitions → Table
table_of t = table t.words.now t.count

-- the m transitions at RESULT are the list of state i
pub record KeepAsked (x : Lent) (i m : ℕ) : Type 0 where
  pub state : 12 * i + 11 < length x.states.words.now
  pub fit : 2 * x.transitions.count ≤ length x.transitions.words.now
  pub inside : 2 * (RESULT + m) ≤ length x.scratch.now

-- states and transitions are written
abbrev pub KeepsOthers : Lent → Lent → Type 0
KeepsOthers x y = KeepsBut (record { sp = false; spp = false; states = true; count = true; members = false; transitions = true; pending = false; scratch = false }) x y

-- es stands behind the transitions t
pub record Appended (es : List Edge) (t u : Table) : Type 0 where
  pub room : room_t t (length es) ≡ true
  pub cap : t.count + length es ≤ transition_cap
  pub is : append es t ≡ u

-- .. or there is no room
abbrev pub Appends : {V : Type 0} → List Edge → Table → Result V Refusal → Table → Type 0
Appends es t (Ok v) u = Appended es t u
Appends es t (Err e) u = (room_t t (length es) ≡ false) × (number_of e ≡ 25)
