-- 01, "The book and its answers": the text of a book in code. What a cursor has still to read, and what each answer of the reader says in the words of the specs.
use Rattle.std.specs.Prelude.{◌≡◌, List, [], ◌∷◌, ℕ, ◌<◌, ◌^◌, ◌&&◌, ltb, length, if◌then◌else◌}
use Rattle.std.specs.Prelude as code
use Rattle.std.proofs.Math.Option.{Option, none, some}
use denote.Ref.{Bor}
use Rattle.book_reader.specs.Bytes.{index_of}
use Rattle.book_words.specs.Clauses.{constant_of, bit_of, single_of, pair_of, listed_of}
use Rattle.book_steps.specs.Text as Text
use Rattle.book_steps.specs.Text.{words, same, digits, reading, number}
use Rattle.book_steps.specs.Reader as Reader
use Rattle.book_steps.specs.Reader.{Header, map, find, lists, numbers}
use Rattle.book_reader.specs.declared.Cursor.{Cursor}
use Rattle.book_reader.specs.declared.Query.{Query}
use Rattle.book_reader.specs.declared.Query.TheVariants as query
use Rattle.book_reader.specs.declared.Said.{Said}
use Rattle.book_reader.specs.declared.Said.TheVariants as said

-- an option in code as one of the steps
abbrev pub value_of : {A : Type 0} → code.Option A → Option A
value_of (code.Some a) = some a
value_of code.None = none

-- ---- places

-- the words that are still to be read
abbrev pub words_left : code.Option (Bor (List ℕ)) → List (List ℕ)
words_left (code.Some line) = words line.now
words_left code.None = []

abbrev pub rest : Cursor → List (List ℕ)
rest c = words_left c.rest

-- the first place of the byte b
abbrev pub Finds : ℕ → List ℕ → code.Option ℕ → Type 0
Finds b text (code.Some k) = (k ≡ index_of b text) × (k < length text)
Finds b text code.None = index_of b text ≡ length text

-- ---- lines

-- a line stands in front, whose words are still to be read, and this text behind it
pub record Begins (text : List ℕ) (c : Cursor) (after : List ℕ) : Type 0 where
  pub line : List ℕ
  pub is : Text.cut text ≡ Text.line line after
  pub words : rest c ≡ words line

abbrev pub Cuts : List ℕ → code.Option (Cursor × Bor (List ℕ)) → Type 0
Cuts text (code.Some (c, after)) = Begins text c after.now
Cuts text code.None = Text.cut text ≡ Text.unended

-- ---- words

-- a word and the words behind it; none, and there is no word
abbrev pub word_of : code.Option (Bor (List ℕ) × Cursor) → List (List ℕ)
word_of (code.Some (w, c)) = w.now ∷ rest c
word_of code.None = []

-- the first word is this one; the words behind it
unfoldable pub passed : List ℕ → List (List ℕ) → Option (List (List ℕ))
passed name [] = none
passed name (w ∷ ws) = if same w name then some ws else none

abbrev pub passed_of : code.Option Cursor → Option (List (List ℕ))
passed_of (code.Some c) = some (rest c)
passed_of code.None = none

-- ---- numbers

-- a word of digits, leading zeros allowed
unfoldable pub value : List ℕ → Option ℕ
value w = if digits w && ltb (reading 0 w) (2 ^ 64) then some (reading 0 w) else none

-- the first word is a number; the words behind it
pub data Taken : Type 0 where
  behind : ℕ → List (List ℕ) → Taken
  bad : Taken

abbrev pub taken_by : Option ℕ → List (List ℕ) → Taken
taken_by none ws = bad
taken_by (some n) ws = behind n ws

unfoldable pub taken : List (List ℕ) → Taken
taken [] = bad
taken (w ∷ ws) = taken_by (number w) ws

abbrev pub taken_of : code.Option (ℕ × Cursor) → Taken
taken_of (code.Some (n, c)) = behind n (rest c)
taken_of code.None = bad

-- how many words there are, if all are numbers
abbrev pub counted : List (List ℕ) → Option ℕ
counted ws = map length (numbers ws)

-- ---- the first line

abbrev pub heading_of : code.Option (ℕ × ℕ) → Option Header
heading_of (code.Some (n, b)) = some (record { fields = n; budget = b })
heading_of code.None = none

-- ---- instructions

abbrev pub query_of : Query → Reader.Query
query_of query.Empty = Reader.empty
query_of query.Live = Reader.live
query_of query.Pruned = Reader.pruned
query_of query.Why = Reader.why

-- what a table of the code names so
abbrev pub look_up : {A : Type 0} → List (List ℕ × A) → List ℕ → code.Option A
look_up [] w = code.None
look_up (n ∷ ns) w = if same w n.0 then code.Some n.1 else look_up ns w

-- the cursor of a list stands before its numbers
abbrev pub said_of : code.Option Said → Option Reader.Instruction
said_of (code.Some (said.Constant w)) = some (Reader.constant (constant_of w))
said_of (code.Some (said.Bit w f v)) = some (Reader.bit (bit_of w) f v)
said_of (code.Some (said.Single w a)) = some (Reader.single (single_of w) a)
said_of (code.Some (said.Pair w a b)) = some (Reader.pair (pair_of w) a b)
said_of (code.Some (said.Listed w c k)) = map (λ l. Reader.listed (listed_of w) l) (numbers (rest c))
said_of (code.Some (said.Query w a)) = some (Reader.query (query_of w) a)
said_of code.None = none

-- .. of which there are k
abbrev pub SaidListed : code.Option Said → Type 0
SaidListed (code.Some (said.Constant w)) = Unit
SaidListed (code.Some (said.Bit w f v)) = Unit
SaidListed (code.Some (said.Single w a)) = Unit
SaidListed (code.Some (said.Pair w a b)) = Unit
SaidListed (code.Some (said.Listed w c k)) = counted (rest c) ≡ some k
SaidListed (code.Some (said.Query w a)) = Unit
SaidListed code.None = Unit

pub record Says (o : Option Reader.Instruction) (r : code.Option Said) : Type 0 where
  pub is : o ≡ said_of r
  pub listed : SaidListed r

-- a word that takes any number of numbers
abbrev pub listing : List ℕ → Option (List ℕ) → Option Reader.Instruction
listing w none = none
listing w (some l) = map (λ k. Reader.listed k l) (find lists w)
