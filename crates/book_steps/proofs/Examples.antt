-- 01's book and lines that are not of their form, read: computed.
use mathlib.Core.Path.{◌≡◌, refl}
use mathlib.Core.List.{List, [], ◌∷◌}
use mathlib.Core.Option.{Option, none, some}
use Prim.Native.Nat.{ℕ}
use Prim.Native.String.{String}
use Rattle.common.specs.Rows.{Row, row, Hold}
use Rattle.book_construct_steps.specs.Lines as Lines
use Rattle.book_construct_steps.specs.Lines.{test, seq, union}
use Rattle.book_steps.specs.Text.{bytes, words, same, digits, reading, number, decimal_by, decimal}
use Rattle.book_steps.specs.Reader.{header, Instruction, bit, pair, listed, query, empty, why, find, numbers, exact, parse, makes, refuses, giving, resolve}

-- a line, and what it says
abbrev reads : String → Option Instruction → Row
reads t says = row (parse (words (bytes t))) says

abbrev pub rows : List Row
rows =
    reads "test 0 1" (some (bit test 0 1))
    ∷ reads "seq 0 1" (some (pair seq 0 1))
    ∷ reads "empty 2" (some (query empty 2))
    ∷ reads "why 2" (some (query why 2))
    ∷ reads "union" (some (listed union []))
    ∷ reads "union " none
    ∷ reads "union 3 3 0" (some (listed union (3 ∷ 3 ∷ 0 ∷ [])))
    ∷ reads "" none
    ∷ reads "dup 0" none
    ∷ reads "not" none
    ∷ reads "or 0  1" none
    ∷ reads " top" none
    ∷ reads "not 00" none
    ∷ reads "not 01" none
    ∷ reads "not +1" none
    ∷ reads "test 18446744073709551616 0" none
    ∷ reads "test 18446744073709551615 0" (some (bit test 18446744073709551615 0))
    ∷ []

pub all_read : Hold rows
unfolding words same digits reading number find numbers exact parse
all_read = (refl, (refl, (refl, (refl, (refl, (refl, (refl, (refl, (refl, (refl, (refl, (refl, (refl, (refl, (refl, (refl, (refl, tt)))))))))))))))))

-- the first line
pub first_line : header (words (bytes "fields 1 budget 10")) ≡ some (record { fields = 1; budget = 10 })
unfolding words same digits reading number header
first_line = refl

-- refusals 4 and 5, with two lines before, the second of them a query
abbrev before : List (Option ℕ)
before = some 7 ∷ none ∷ []

pub names_query : resolve 3 before (pair seq 0 1) ≡ refuses 4
unfolding resolve
names_query = refl

pub names_itself : resolve 3 before (listed union (0 ∷ 2 ∷ [])) ≡ refuses 4
unfolding resolve giving
names_itself = refl

pub names_line : resolve 3 before (pair seq 0 0) ≡ makes (Lines.pair seq 7 7)
unfolding resolve
names_line = refl

pub field_past : resolve 3 before (bit test 3 0) ≡ refuses 5
unfolding resolve
field_past = refl

pub value_past : resolve 3 before (bit test 2 2) ≡ refuses 5
unfolding resolve
value_past = refl

-- numbers are written as they are read
pub written : decimal 18446744073709551615 ≡ bytes "18446744073709551615"
unfolding decimal decimal_by
written = refl
