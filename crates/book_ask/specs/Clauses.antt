-- 01, "The book and its answers", the queries `empty`, `live` and `pruned`, 02 (i), `why`, and refusal 27, "output cannot hold the next answer's lines": what a query in code asks and promises. Its step is done, and its
-- answer's lines stand in the output, or nothing was written.
use Rattle.std.specs.Prelude.{◌≡◌, List, [], ◌∷◌, ◌++◌, ℕ, ◌/◌, ◌≤◌, length, get_or, take, Result, Ok, Err}
use Rattle.std.proofs.Math.Option.{Option, none}
use Rattle.common.specs.Outcome.{Outcome, refused, given}
use Rattle.refusal.specs.declared.Refusal.{Refusal}
use Rattle.refusal.specs.Numbers.{number_of}
use Rattle.aut_query_steps.specs.Tables.{ExtTables}
use Rattle.book_steps.specs.Reader as Reader
use Rattle.book_steps.specs.Run as Run
use Rattle.book_steps.specs.Run.{RunState, place, query, after_asking}
use Rattle.aut_relations.specs.declared.Aut.{Aut as Lent}
use Rattle.aut_query_stage.specs.Layer.{QueryReady, Zeroed}
use Rattle.aut_query_stage.specs.Lent.{tables_in}
use Rattle.book_writer.specs.declared.output.Output.{Output}
use Rattle.book_memory.specs.declared.Setting.{Setting}
use Rattle.book_memory.specs.Place.{setting_of}

-- the setting in the words of the steps
abbrev pub setting_with : Setting → Lent → Output → Run.Setting
setting_with S a o = setting_of S (length a.pending.now / 2) (length o.bytes.now)

-- a place in the words of the steps, for the lines that are there
abbrev pub place_with : List (Option ℕ) → Lent → Output → RunState
place_with lines a o = place (tables_in a) lines (take o.at o.bytes.now)

-- the place behind the query, whatever the lines before it are; no line can name the query
abbrev pub asked_of : Result Unit Refusal → List (Option ℕ) → Lent → Output → Outcome RunState ℕ
asked_of (Ok u) lines a o = given (place_with (lines ++ none ∷ []) a o) 0
asked_of (Err e) lines a o = refused (number_of e)

-- The tables are in order again and have come further; of the output, only the answer's bytes were written.
pub record Goes (S : Setting) (a b : Lent) (o o' : Output) : Type 0 where
  pub later : ExtTables (tables_in a) (tables_in b)
  pub ready : QueryReady S.config.fields S.config.limits (tables_in b) b.scratch.now
  pub pending : Zeroed b.pending.now
  pub from : o.at ≤ o'.at
  pub to : o'.at ≤ length o.bytes.now
  pub len : length o'.bytes.now ≡ length o.bytes.now
  pub beyond : (i : ℕ) → o'.at ≤ i → get_or o'.bytes.now i 0 ≡ get_or o.bytes.now i 0

abbrev pub GoesBy : Setting → Result Unit Refusal → (a b : Lent) → (o o' : Output) → Type 0
GoesBy S (Ok u) a b o o' = Goes S a b o o'
GoesBy S (Err e) a b o o' = o' ≡ o

-- the query of the line that is named so, whose state is x, has been done
pub record PostAsk (S : Setting) (q : Reader.Query) (name : List ℕ) (x : ℕ) (r : Result Unit Refusal) (a b : Lent) (o o' : Output) : Type 0 where
  pub is : (lines : List (Option ℕ)) → after_asking (setting_with S a o) (place_with lines a o) (query (setting_with S a o) q name x (tables_in a)) ≡ asked_of r lines b o'
  pub then : GoesBy S r a b o o'

-- of `why`, whose answer does not print the name
abbrev pub PostWhy : Setting → (x : ℕ) → Result Unit Refusal → (a b : Lent) → (o o' : Output) → Type 0
PostWhy S x r a b o o' = (name : List ℕ) → PostAsk S Reader.why name x r a b o o'
