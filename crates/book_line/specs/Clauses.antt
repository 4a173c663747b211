-- 01, "The book and its answers": a line behind the first, in code: what it does is its step (book_steps, `step`), or 01's number.
use Rattle.std.specs.Prelude.{◌≡◌, ℕ, ◌+◌, ◌<◌, Result, Ok, Err}
use Rattle.common.specs.Outcome.{Outcome, refused, given}
use Rattle.refusal.specs.declared.Refusal.{Refusal}
use Rattle.refusal.specs.Numbers.{number_of}
use Rattle.book_steps.specs.Reader as Reader
use Rattle.book_steps.specs.Reader.{asks}
use Rattle.book_steps.specs.Run as Run
use Rattle.book_steps.specs.Run.{execute, step}
use Rattle.book_reader.specs.Clauses.{rest, query_of}
use Rattle.book_reader.specs.declared.Cursor.{Cursor}
use Rattle.book_reader.specs.declared.Query.{Query}
use Rattle.book_memory.specs.declared.Setting.{Setting}
use Rattle.book_memory.specs.declared.Place.{Place}
use Rattle.book_memory.specs.Place.{LINES, place_in, setting_in, Onto, Standing}
use Rattle.book_place.specs.declared.Told.{Told}
use Rattle.book_place.specs.Clauses.{told_of, ToldReady}

-- ---- a step of the book is done: x before, y after

-- The step o has given the next place, which is in order; of the output, only bytes between the two places were written.
pub record Gives (S : Setting) (x y : Place) (o : Outcome Run.RunState ℕ) : Type 0 where
  pub value : ℕ
  pub is : o ≡ given (place_in y) value
  pub standing : Standing S y
  pub lines : y.lines.count ≡ x.lines.count + 1
  pub onto : Onto x y

pub record Stops (e : Refusal) (x y : Place) (o : Outcome Run.RunState ℕ) : Type 0 where
  pub is : o ≡ refused (number_of e)
  pub output : y.output ≡ x.output

abbrev pub ObeyedBy : Setting → Place → Result Unit Refusal → Place → Outcome Run.RunState ℕ → Type 0
ObeyedBy S x (Ok u) y o = Gives S x y o
ObeyedBy S x (Err e) y o = Stops e x y o

-- ---- a query

pub record PreAskLine (S : Setting) (x : Place) (z : ℕ) : Type 0 where
  pub standing : Standing S x
  pub has : z < x.aut.states.count
  pub more : x.lines.count < LINES

abbrev pub PostAskLine : Setting → Place → Query → (a z : ℕ) → Result Unit Refusal → Place → Type 0
PostAskLine S x q a z r y = ObeyedBy S x r y (execute (setting_in S x) (asks (query_of q) a z) (place_in x))

-- ---- a line

pub record PrePerform (S : Setting) (x : Place) (t : Told) : Type 0 where
  pub standing : Standing S x
  pub ready : ToldReady S.config.fields x.aut.states.count x.aut.scratch.now (Ok t)
  pub more : x.lines.count < LINES

abbrev pub PostPerform : Setting → Place → Told → Result Unit Refusal → Place → Type 0
PostPerform S x t r y = ObeyedBy S x r y (execute (setting_in S x) (told_of x.aut.scratch.now (Ok t)) (place_in x))

pub record PreObey (S : Setting) (x : Place) : Type 0 where
  pub standing : Standing S x
  pub more : x.lines.count < LINES

-- the line whose words are still to be read at c
abbrev pub PostObey : Setting → Place → Cursor → Result Unit Refusal → Place → Type 0
PostObey S x c r y = ObeyedBy S x r y (step (setting_in S x) (Reader.parse (rest c)) (place_in x))
