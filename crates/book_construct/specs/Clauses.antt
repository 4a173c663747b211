-- 01, "The book and its answers", constructor lines: what a line in code says in the words of the steps, what is asked of it and what its answer promises.
use Rattle.std.specs.Prelude.{List, ℕ, ◌≤◌, ◌<◌, Result, Ok, Err}
use Rattle.refusal.specs.declared.Refusal.{Refusal}
use Rattle.aut_steps.specs.Tables.{words}
use Rattle.book_construct_steps.specs.Lines as M
use Rattle.aut_states.specs.declared.Config.{Config}
use Rattle.aut_scratch.specs.declared.TheConstants.{GIVEN}
use Rattle.aut_relations.specs.declared.Aut.{Aut as Lent}
use Rattle.aut_relations.specs.Lent.{Asked}
use Rattle.book_words.specs.Clauses.{constant_of, bit_of, single_of, pair_of, listed_of}
use Rattle.book_construct.specs.declared.Line.{Line}
use Rattle.book_construct.specs.declared.Line.TheVariants as line

-- a list's members are the first words of scratch
abbrev pub line_of : List ℕ → Line → M.Line ℕ
line_of s (line.Constant w) = M.constant (constant_of w)
line_of s (line.Bit w f v) = M.bit (bit_of w) f v
line_of s (line.Single w x) = M.single (single_of w) x
line_of s (line.Pair w x y) = M.pair (pair_of w) x y
line_of s (line.Listed w k) = M.listed (listed_of w) (words s GIVEN k)

abbrev pub Short : Line → Type 0
Short (line.Constant w) = Unit
Short (line.Bit w f v) = Unit
Short (line.Single w x) = Unit
Short (line.Pair w x y) = Unit
Short (line.Listed w k) = k ≤ 64

-- the lines that it names have states, of which there are n; its field is below N; its list fits
pub record LineReady (N n : ℕ) (s : List ℕ) (l : Line) : Type 0 where
  pub asked : M.Asked N n (line_of s l)
  pub short : Short l

-- a field of the book, and a table of relations in order
pub record FieldReady (k : Config) (x : Lent) (f : ℕ) : Type 0 where
  pub asked : Asked k x
  pub below : f < k.fields

-- the tables are in order for the next line, and the state is one of them
abbrev pub ReadyBy : Config → Result ℕ Refusal → Lent → Type 0
ReadyBy k (Ok z) y = Asked k y × (z < y.states.count)
ReadyBy k (Err e) y = Unit
