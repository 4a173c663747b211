-- 01, "The book and its answers": a line in a book that runs, in code. What it is told to do by the names in it, and a constructor line.
use Rattle.std.specs.Prelude.{◌≡◌, List, [], ◌∷◌, ◌++◌, ℕ, ◌+◌, ◌≤◌, ◌<◌, length, get_or, set, Result, Ok, Err}
use Rattle.std.specs.Prelude as code
use Rattle.std.proofs.Math.Option.{Option, none, some}
use Rattle.slices.specs.Same.{SameSlice}
use Rattle.refusal.specs.declared.Refusal.{Refusal}
use Rattle.refusal.specs.declared.Refusal.TheVariants.{Name}
use Rattle.refusal.specs.Numbers.{number_of}
use Rattle.aut_steps.specs.Tables.{Limits, words}
use Rattle.aut_steps.specs.Ascending.{All}
use Rattle.aut_steps.specs.Scratch.{Kept}
use Rattle.aut_query_steps.specs.Tables.{Tables}
use Rattle.book_construct_steps.specs.Lines as Lines
use Rattle.book_steps.specs.Reader as Reader
use Rattle.book_steps.specs.Reader.{giving, resolve, makes, asks, refuses, numbers}
use Rattle.book_steps.specs.Run as Run
use Rattle.book_steps.specs.Run.{place, execute, step}
use Rattle.aut_states.specs.Clauses.{limits_of}
use Rattle.aut_states.specs.declared.Config.{Config}
use Rattle.aut_relations.specs.Behind.{LISTS}
use Rattle.aut_relations.specs.Lent.{aut_in, Asked, Keeps, Does}
use Rattle.aut_sets.specs.Lent.{OnlyScratch}
use Rattle.book_construct.specs.Clauses as Line
use Rattle.book_construct.specs.Clauses.{LineReady, ReadyBy}
use Rattle.book_construct.specs.declared.Line as line
use Rattle.book_words.specs.Clauses.{bit_of, pair_of, listed_of}
use Rattle.book_words.specs.declared.Bit.{Bit}
use Rattle.book_words.specs.declared.Pair.{Pair}
use Rattle.book_words.specs.declared.Listed.{Listed}
use Rattle.book_reader.specs.Clauses.{rest, behind, bad, taken, counted, query_of, said_of, SaidListed}
use Rattle.book_reader.specs.declared.Cursor.{Cursor}
use Rattle.book_reader.specs.declared.Said.{Said}
use Rattle.book_memory.specs.declared.Lines.{Lines as Table}
use Rattle.book_memory.specs.declared.Place.{Place}
use Rattle.book_memory.specs.Place.{lines_at, lines_in, Below}
use Rattle.book_place.specs.declared.Told.{Told}
use Rattle.book_place.specs.declared.Told.TheVariants as told

-- ---- what a call keeps: x before, y after

-- scratch is written
pub record OnlyWork (x y : Place) : Type 0 where
  pub aut : OnlyScratch x.aut y.aut
  pub lines : y.lines ≡ x.lines
  pub output : y.output ≡ x.output

-- relations, states and scratch, and the table of lines
pub record OnlyMade (x y : Place) : Type 0 where
  pub aut : Keeps x.aut y.aut
  pub lines : SameSlice x.lines.words y.lines.words
  pub output : y.output ≡ x.output

-- ---- names

-- the state that line a stands for; or it stands for nothing
abbrev pub Named : List (Option ℕ) → ℕ → Result ℕ Refusal → Type 0
Named lines a (Ok x) = get_or lines a none ≡ some x
Named lines a (Err e) = (get_or lines a none ≡ none) × (e ≡ Name)

-- an operand can be looked up, and a word written
pub record PreOperand (most : ℕ) (x : Place) : Type 0 where
  pub lines : x.lines.count ≤ length x.lines.words.now
  pub room : 64 ≤ length x.aut.scratch.now
  pub few : most ≤ 64

-- the number at c is one that stands for a state, which is written unless i is too far
pub record Took (lines : List (Option ℕ)) (most : ℕ) (c d : Cursor) (i : ℕ) (s s' : List ℕ) : Type 0 where
  pub number : ℕ
  pub state : ℕ
  pub read : taken (rest c) ≡ behind number (rest d)
  pub named : get_or lines number none ≡ some state
  pub wrote : i < most → s' ≡ set s i state
  pub left : most ≤ i → s' ≡ s

-- there is no number at c, or its line stands for nothing
pub data Missed (lines : List (Option ℕ)) (c : Cursor) : Type 0 where
  no_number : taken (rest c) ≡ bad → Missed lines c
  no_line : {a : ℕ} {vs : List (List ℕ)} → taken (rest c) ≡ behind a vs → get_or lines a none ≡ none → Missed lines c

abbrev pub PostOperand : ℕ → Cursor → ℕ → code.Option Cursor → Place → Place → Type 0
PostOperand most c i (code.Some d) x y = Took (lines_in x) most c d i x.aut.scratch.now y.aut.scratch.now
PostOperand most c i code.None x y = Missed (lines_in x) c × (y ≡ x)

pub record PreOperands (most : ℕ) (c : Cursor) (n : ℕ) (x : Place) : Type 0 where
  pub first : PreOperand most x
  pub counted : counted (rest c) ≡ some n

-- the n operands stand for `states`, whose first words are written
pub record Found (lines : List (Option ℕ)) (most : ℕ) (c : Cursor) (n : ℕ) (s : List ℕ) : Type 0 where
  pub states : List ℕ
  pub is : (N : ℕ) (l : List ℕ) → numbers (rest c) ≡ some l → (K : List ℕ → Reader.Resolved ℕ) → giving N lines l K ≡ K states
  pub size : length states ≡ n
  pub words : n ≤ most → words s 0 n ≡ states
  pub below : (b : ℕ) → Below b lines → All (λ x. x < b) states

abbrev pub FoundBy : Result Unit Refusal → List (Option ℕ) → ℕ → Cursor → ℕ → List ℕ → Type 0
FoundBy (Ok u) lines most c n s = Found lines most c n s
FoundBy (Err e) lines most c n s = (N : ℕ) (l : List ℕ) → numbers (rest c) ≡ some l → (K : List ℕ → Reader.Resolved ℕ) → giving N lines l K ≡ refuses (number_of e)

pub record PostOperands (most : ℕ) (c : Cursor) (n : ℕ) (r : Result Unit Refusal) (x y : Place) : Type 0 where
  pub kept : Kept 0 64 x.aut.scratch.now y.aut.scratch.now
  pub is : FoundBy r (lines_in x) most c n y.aut.scratch.now

-- ---- what a line is told to do

-- the members of a list are the first words of s
abbrev pub told_of : List ℕ → Result Told Refusal → Reader.Resolved ℕ
told_of s (Ok (told.Makes l)) = makes (Line.line_of s l)
told_of s (Ok (told.Asks q a x)) = asks (query_of q) a x
told_of s (Err e) = refuses (number_of e)

-- its states are below n
abbrev pub ToldReady : ℕ → ℕ → List ℕ → Result Told Refusal → Type 0
ToldReady N n s (Ok (told.Makes l)) = LineReady N n s l
ToldReady N n s (Ok (told.Asks q a x)) = x < n
ToldReady N n s (Err e) = Unit

abbrev pub setting_by : (N budget : ℕ) → Limits → (entries room : ℕ) → Run.Setting
setting_by N b L e r = record { fields = N; budget = b; limits = L; entries = e; room = r }

-- the line does the same by both
abbrev pub Alike : ℕ → Limits → List (Option ℕ) → Reader.Resolved ℕ → Reader.Resolved ℕ → Type 0
Alike N L lines t u = (b e r : ℕ) (τ : Tables) (out : List ℕ) → execute (setting_by N b L e r) t (place τ lines out) ≡ execute (setting_by N b L e r) u (place τ lines out)

pub record TellsBit (N : ℕ) (w : Bit) (f v : ℕ) (r : Result Told Refusal) : Type 0 where
  pub is : (lines : List (Option ℕ)) (s : List ℕ) → resolve N lines (Reader.bit (bit_of w) f v) ≡ told_of s r
  pub ready : (n : ℕ) (s : List ℕ) → ToldReady N n s r

pub record TellsPair (t : Table) (w : Pair) (a b : ℕ) (r : Result Told Refusal) : Type 0 where
  pub is : (N : ℕ) (s : List ℕ) → resolve N (lines_at t) (Reader.pair (pair_of w) a b) ≡ told_of s r
  pub ready : (N n : ℕ) (s : List ℕ) → Below n (lines_at t) → ToldReady N n s r

pub record TellsList (most : ℕ) (w : Listed) (c : Cursor) (r : Result Told Refusal) (x y : Place) : Type 0 where
  pub kept : Kept 0 64 x.aut.scratch.now y.aut.scratch.now
  pub is : (N : ℕ) (L : Limits) (l : List ℕ) → L.list ≡ most → numbers (rest c) ≡ some l → Alike N L (lines_in x) (resolve N (lines_in x) (Reader.listed (listed_of w) l)) (told_of y.aut.scratch.now r)
  pub ready : (N n : ℕ) → Below n (lines_in x) → ToldReady N n y.aut.scratch.now r

pub record PreTold (config : Config) (said : code.Option Said) (x : Place) : Type 0 where
  pub lines : x.lines.count ≤ length x.lines.words.now
  pub room : 64 ≤ length x.aut.scratch.now
  pub few : config.limits.list ≤ 64
  pub listed : SaidListed said

pub record PostTold (config : Config) (said : code.Option Said) (r : Result Told Refusal) (x y : Place) : Type 0 where
  pub kept : Kept 0 64 x.aut.scratch.now y.aut.scratch.now
  pub is : (b e m : ℕ) (τ : Tables) (out : List ℕ) → step (setting_by config.fields b (limits_of config.limits) e m) (said_of said) (place τ (lines_in x) out)
      ≡ execute (setting_by config.fields b (limits_of config.limits) e m) (told_of y.aut.scratch.now r) (place τ (lines_in x) out)
  pub ready : (n : ℕ) → Below n (lines_in x) → ToldReady config.fields n y.aut.scratch.now r

-- ---- a constructor line

pub record PreMake (config : Config) (l : line.Line) (x : Place) : Type 0 where
  pub asked : Asked config x.aut
  pub line : LineReady config.fields x.aut.states.count x.aut.scratch.now l
  pub more : x.lines.count < length x.lines.words.now

-- what the line's step has come to, as an answer of the constructor
pub record Constructs (config : Config) (l : line.Line) (r : Result ℕ Refusal) (x y : Place) : Type 0 where
  pub does : Does config.fields 0 LISTS aut_in (λ i. i) (Lines.make config.fields (limits_of config.limits) (Line.line_of x.aut.scratch.now l)) x.aut r y.aut
  pub ready : ReadyBy config r y.aut

-- the line's state is kept
pub record MadeLine (config : Config) (l : line.Line) (x y : Place) : Type 0 where
  pub state : ℕ
  pub made : Constructs config l (Ok state) x y
  pub lines : lines_in y ≡ lines_in x ++ some state ∷ []
  pub count : y.lines.count ≡ x.lines.count + 1

abbrev pub PostMake : Config → line.Line → Result Unit Refusal → Place → Place → Type 0
PostMake config l (Ok u) x y = MadeLine config l x y
PostMake config l (Err e) x y = Constructs config l (Err e) x y
