-- 01, promise 1, in code: a book and what is lent come to the defined outcome (book_steps, `outcome`). What each part of a run asks and promises: a line, the lines from any place in order, and a whole book that is not yet finished (its beginning: book_begin, its end: book_finish).
use Rattle.std.specs.Prelude.{◌≡◌, List, [], ◌++◌, ℕ, suc, ◌+◌, ◌≤◌, ◌<◌, min, length, Result, Ok, Err}
use denote.Ref.{Bor}
use Rattle.refusal.specs.declared.Refusal.{Refusal}
use Rattle.refusal.specs.declared.Refusal.TheVariants.{Scratch}
use Rattle.refusal.specs.Numbers as refusal
use Rattle.book_steps.specs.Text.{cut}
use Rattle.book_steps.specs.Run as Run
use Rattle.book_steps.specs.Run.{Lent, with_line, stopped, Came, failed, came_of, opened_book, ran_book}
use Rattle.book_steps.specs.Claim.{Slices, Lends, EntrySpec}
use Rattle.aut_relations.specs.Behind.{LISTS}
use Rattle.book_memory.specs.declared.Setting.{Setting}
use Rattle.book_memory.specs.declared.Place.{Place}
use Rattle.book_memory.specs.declared.Memory.{Memory}
use Rattle.book_memory.specs.Place.{LINES, place_in, written_in, setting_in, lengths_of, Onto, Standing, Empty}
use Rattle.book_finish.specs.declared.Stop.{Stop}
use Rattle.book_finish.specs.Clauses.{came_by, written_by, EndsBy, Wrote, number_of, text_line_of, length_of}

-- ---- a line

pub record PreTurn (S : Setting) (x : Place) : Type 0 where
  pub standing : Standing S x
  pub more : x.lines.count < LINES

-- the text `after` is left
pub record TurnsTo (text : List ℕ) (S : Setting) (x y : Place) (after : List ℕ) : Type 0 where
  pub is : (k : ℕ) (go : List ℕ → ℕ → Run.RunState → Run.Ran (setting_in S x)) → with_line (setting_in S x) go k (place_in x) (cut text) ≡ go after (suc k) (place_in y)
  pub standing : Standing S y
  pub lines : y.lines.count ≡ x.lines.count + 1
  pub onto : Onto x y

pub record TurnsDown (text : List ℕ) (S : Setting) (x y : Place) (e : Refusal) : Type 0 where
  pub is : (k : ℕ) (go : List ℕ → ℕ → Run.RunState → Run.Ran (setting_in S x)) → with_line (setting_in S x) go k (place_in x) (cut text) ≡ stopped (refusal.number_of e) k (written_in x)
  pub output : y.output ≡ x.output

abbrev pub PostTurn : List ℕ → Setting → Place → Result (Bor (List ℕ)) Refusal → Place → Type 0
PostTurn text S x (Ok after) y = TurnsTo text S x y after.now
PostTurn text S x (Err e) y = TurnsDown text S x y e

-- ---- a run that is not yet finished

-- from x it has come to c: w says where to, and y is left
pub record ComesTo (c : Came) (x : Place) (w : Result Setting Stop) (y : Place) : Type 0 where
  pub is : c ≡ came_by w y
  pub ends : EndsBy w y
  pub wrote : Wrote (written_by w y) x.output.bytes.now y.output.bytes.now

-- ---- the lines of a text

-- the lines left fit into the table of lines
pub record PreGo (S : Setting) (x : Place) (first left : ℕ) : Type 0 where
  pub standing : Standing S x
  pub more : x.lines.count + left ≤ LINES
  pub small : first + left < 4294967296

-- the setting is S
abbrev pub went_of : Setting → Result Unit Stop → Result Setting Stop
went_of S (Ok u) = Ok S
went_of S (Err s) = Err s

pub record PostGo (text : List ℕ) (S : Setting) (x : Place) (first left : ℕ) (r : Result Unit Stop) (y : Place) : Type 0 where
  pub comes : ComesTo (came_of (setting_in S x) (Run.run (setting_in S x) left text first (place_in x))) x (went_of S r) y
  pub on : x.output.at ≤ written_by (went_of S r) y

-- ---- a whole book

-- 26: scratch, both parts of it, is shorter than a book needs
abbrev pub PostEnough : Place → Result Unit Stop → Type 0
PostEnough x (Ok u) = 6144 ≤ length x.lines.words.now + length x.aut.scratch.now
PostEnough x (Err s) = (length x.lines.words.now + length x.aut.scratch.now < 6144) × (s ≡ record { refusal = Scratch; line = 0; length = 0 })

-- every table is zeroed, and scratch long enough
pub record PreStarted (x : Place) : Type 0 where
  pub empty : Empty x
  pub table : length x.lines.words.now ≡ LINES
  pub room : LISTS ≤ length x.aut.scratch.now

-- it is left to obey the instructions of the text behind the header
pub record Starts (book : List ℕ) (x : Place) (S : Setting) (after : List ℕ) (y : Place) : Type 0 where
  pub is : opened_book (lengths_of x) (cut book) ≡ came_of (setting_in S y) (Run.run (setting_in S y) Run.instructions after 2 (place_in y))
  pub standing : Standing S y
  pub lines : y.lines.count ≡ 0
  pub onto : Onto x y
  pub bytes : length y.output.bytes.now ≡ length x.output.bytes.now

pub record StartsNot (book : List ℕ) (x : Place) (e : Refusal) (y : Place) : Type 0 where
  pub is : opened_book (lengths_of x) (cut book) ≡ failed (refusal.number_of e) 1 []
  pub output : y.output ≡ x.output

abbrev pub PostStarted : List ℕ → Place → Result (Setting × Bor (List ℕ)) Refusal → Place → Type 0
PostStarted book x (Ok (S, after)) y = Starts book x S after.now y
PostStarted book x (Err e) y = StartsNot book x e y

-- scratch is lent in two: the table of lines is all of it, if it is shorter than that
pub record PreOpen (x : Place) : Type 0 where
  pub empty : Empty x
  pub table : length x.lines.words.now ≡ min LINES (length x.lines.words.now + length x.aut.scratch.now)

abbrev pub PostOpen : List ℕ → Place → Result Setting Stop → Place → Type 0
PostOpen book x r y = ComesTo (ran_book (lengths_of x) book) x r y

-- ---- the public entry

abbrev pub slices : (sp spp states members transitions pending scratch output : List ℕ) → Slices
slices a b c d e f g h = record { sp = a; spp = b; states = c; members = d; transitions = e; pending = f; scratch = g; output = h }

-- the lent lengths
abbrev pub lent_of : Slices → Lent
lent_of m = record {
  sp = length m.sp;
  spp = length m.spp;
  states = length m.states;
  members = length m.members;
  transitions = length m.transitions;
  pending = length m.pending;
  scratch = length m.scratch;
  output = length m.output;
}

-- what is lent for a book as one list for each table; of scratch both parts
abbrev pub slices_in : Memory → Slices
slices_in m = slices m.sp.now m.spp.now m.states.now m.members.now m.transitions.now m.pending.now (m.lines.now ++ m.scratch.now) m.output.now

-- the table of lines is as long as a book needs, or all of scratch
abbrev pub Table : Memory → Type 0
Table m = length m.lines.now ≡ min LINES (length m.lines.now + length m.scratch.now)

-- where the slices keep their lengths, the entry's promise
pub record RunsIn (book : List ℕ) (m : Memory) (r : Result ℕ Stop) (n : Memory) : Type 0 where
  pub is : Lends (lent_of (slices_in m)) (slices_in n) → EntrySpec (lent_of (slices_in m)) book (slices_in m) (number_of r) (text_line_of r) (length_of r) (slices_in n)
