-- 01, "Lent tables": "Answered: the tables hold what the Rust's steps make ..; pending and scratch are zero. Refused: all tables are zero." Where a run has come to, what finishing it leaves of the tables, and the number, line and length of what is returned.
use Rattle.std.specs.Prelude.{◌≡◌, List, ℕ, ◌≤◌, length, get_or, take, Result, Ok, Err}
use Rattle.refusal.specs.Numbers as refusal
use Rattle.book_steps.specs.Run.{Came, came, failed}
use Rattle.book_memory.specs.declared.Setting.{Setting}
use Rattle.book_memory.specs.declared.Place.{Place}
use Rattle.book_memory.specs.Place.{place_in, setting_in, lengths_of, Standing}
use Rattle.book_begin.specs.Clauses.{KeepsTables, TablesZeroed, WorkZeroed}
use Rattle.book_finish.specs.declared.Stop.{Stop}

-- ---- where a run has come to: the last place's setting, or why it has stopped

-- what the run came to, not yet finished
abbrev pub came_by : Result Setting Stop → Place → Came
came_by (Ok S) p = came (setting_in S p) (place_in p)
came_by (Err s) p = failed (refusal.number_of s.refusal) s.line (take s.length p.output.bytes.now)

-- the length of what is written
abbrev pub written_by : Result Setting Stop → Place → ℕ
written_by (Ok S) p = p.output.at
written_by (Err s) p = s.length

-- the last place is in order
abbrev pub EndsBy : Result Setting Stop → Place → Type 0
EndsBy (Ok S) p = Standing S p
EndsBy (Err s) p = Unit

-- of the output, only bytes up to n are written
pub record Wrote (n : ℕ) (out out' : List ℕ) : Type 0 where
  pub fits : n ≤ length out
  pub beyond : (i : ℕ) → n ≤ i → get_or out' i 0 ≡ get_or out i 0

-- ---- finishing it

abbrev pub ran_of : Result Setting Stop → Place → Result ℕ Stop
ran_of (Ok S) p = Ok p.output.at
ran_of (Err s) p = Err s

abbrev pub TablesBy : Result Setting Stop → Place → Place → Type 0
TablesBy (Ok S) x y = KeepsTables x y
TablesBy (Err s) x y = TablesZeroed y

pub record PostFinish (w : Result Setting Stop) (x : Place) (r : Result ℕ Stop) (y : Place) : Type 0 where
  pub is : r ≡ ran_of w x
  pub work : WorkZeroed y
  pub tables : TablesBy w x y
  pub output : y.output ≡ x.output
  pub lengths : lengths_of y ≡ lengths_of x

-- ---- what is returned

-- "Each returns its number, the text line counted from 1 (0 for 26), and the output length of the lines before. Success returns 0 and line 0."
abbrev pub number_of : Result ℕ Stop → ℕ
number_of (Ok n) = 0
number_of (Err s) = refusal.number_of s.refusal

abbrev pub text_line_of : Result ℕ Stop → ℕ
text_line_of (Ok n) = 0
text_line_of (Err s) = s.line

abbrev pub length_of : Result ℕ Stop → ℕ
length_of (Ok n) = n
length_of (Err s) = s.length
