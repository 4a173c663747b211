-- What is claimed of a book, for every book and all lent lengths: the file to read with 01 in hand, and from it RunSpec
-- (the lines of a run), Demands (what answers and tables mean), Conditions (when each number is returned). Definitions
-- and statements only; proofs/Claim proves them. Of the outcome's own definitions only `outcome` is named, and only to
-- say that it comes to just this.
use Rattle.std.specs.Prelude.{◌≡◌, List, [], ◌∷◌, ◌++◌, ℕ, ◌*◌, ◌/◌, ◌^◌, ◌≤◌, ◌<◌, eqb, ltb, length, get_or, replicate, if◌then◌else◌}
use Rattle.std.proofs.Math.Option.{Option, none, some}
use Rattle.common.specs.Outcome.{given}
use Rattle.common.specs.Runs.{Table, table}
use Rattle.sp_steps.specs.Model as Sp
use Rattle.spp_steps.specs.Model as Spp
use Rattle.aut_steps.specs.Tables.{Limits, aut}
use Rattle.aut_delta_steps.specs.Delta.{store}
use Rattle.aut_query_steps.specs.Tables.{tables}
use Rattle.book_steps.specs.Text.{bytes, line, unended, cut, words, decimal}
use Rattle.book_steps.specs.Reader.{Header, header, Instruction}
use Rattle.book_steps.specs.Answers.{say, fields_answer}
use Rattle.book_steps.specs.Conditions.{ReadSpec, Conditions}
use Rattle.book_steps.specs.Demands.{InOrder}
use Rattle.book_steps.specs.Run.{Lent, Setting, RunState, place, Result, outcome}
use Rattle.book_steps.specs.RunSpec.{Refused, Point, RunSpec, RunClaim, PrintedSpec}

-- ---- the whole book

-- the book's own header, and the text behind it
pub data Headed : List ℕ → Header → List ℕ → Type 0 where
  is : {book l rest : List ℕ} {h : Header} → cut book ≡ line l rest → header (words l) ≡ some h → Headed book h rest

-- "1 first line is not of its form (an empty book too)"
pub data Headless : List ℕ → Type 0 where
  no_line : {book : List ℕ} → cut book ≡ unended → Headless book
  no_form : {book l rest : List ℕ} → cut book ≡ line l rest → header (words l) ≡ none → Headless book

-- 01's numbers: 8 above 256, 6 above 64, 7 above 32, 9 above 64; "pending entry 2" words
abbrev pub setting01 : Lent → Header → Setting
setting01 lent h = record {
  fields = h.fields;
  budget = h.budget;
  limits = record { nesting = 256; list = 64; products = 32; transitions = 64 };
  entries = lent.pending / 2;
  room = lent.output;
}

-- "Every table is zeroed first": the constants of N fields, in zeroed tables; and the line `fields N`
pub data Begun (lent : Lent) (N : ℕ) : RunState → Type 0 where
  begun : {s t : Table} {z : ℕ} {c : Spp.Constants} → N ≤ 31
      → Sp.constants N (table (replicate lent.sp 0) 0) ≡ given s z
      → Spp.constants N (table (replicate lent.spp 0) 0) ≡ given t c → length (fields_answer N) ≤ lent.output
      → Begun lent N (place (tables s (store (aut t (table (replicate lent.states 0) 0)
      (table (replicate lent.members 0) 0)) (table (replicate lent.transitions 0) 0))) [] (fields_answer N))

-- "Order: 26; header 1, 2, 20, 21, 27". Of N fields there are N packet nodes and 3 N relation nodes.
pub data HeaderRefusal (lent : Lent) (N : ℕ) : ℕ → Type 0 where
  wide : 31 < N → HeaderRefusal lent N 2
  no_sets : N ≤ 31 → lent.sp / 2 < N → HeaderRefusal lent N 20
  no_relations : N ≤ 31 → N ≤ lent.sp / 2 → lent.spp / 4 < 3 * N → HeaderRefusal lent N 21
  no_room : N ≤ 31 → N ≤ lent.sp / 2 → 3 * N ≤ lent.spp / 4 → lent.output < length (fields_answer N)
      → HeaderRefusal lent N 27

-- 2,048 instructions from text line 2 on
abbrev pub first : (S : Setting) → List ℕ → RunState → Point S
first S text p = record { left = 2048; text = text; line = 2; place = p; rules = [] }

-- 01, promise 5: "a single claim about a whole book, not one for each line: constructors and queries in any order, from
-- zeroed tables, each on what the last one left." "26 scratch under 6,144 words", "line .. 0 for 26".
pub data BookSpec (lent : Lent) (book : List ℕ) (r : Result) : Type 0 where
  no_scratch : lent.scratch < 6144 → Refused lent 26 0 [] r → BookSpec lent book r
  headless : 6144 ≤ lent.scratch → Headless book → Refused lent 1 1 [] r → BookSpec lent book r
  not_begun : {h : Header} {text : List ℕ} {number : ℕ} → 6144 ≤ lent.scratch → Headed book h text
      → HeaderRefusal lent h.fields number → Refused lent number 1 [] r → BookSpec lent book r
  ran : {h : Header} {text : List ℕ} {p : RunState} → 6144 ≤ lent.scratch → Headed book h text → Begun lent h.fields p
      → InOrder (setting01 lent h) lent p [] → RunSpec (setting01 lent h) lent (first (setting01 lent h) text p) r
      → BookSpec lent book r

-- All of it, of the defined outcome. "One book with one set of lent lengths has one outcome": the only one that
-- BookSpec allows.
pub record Claim (lent : Lent) (book : List ℕ) : Type 0 where
  pub whole : BookSpec lent book (outcome lent book)
  pub only : (r : Result) → BookSpec lent book r → r ≡ outcome lent book
  pub runs : (S : Setting) (c : Point S) → InOrder S lent c.place c.rules → RunClaim S lent c
  pub begins : (h : Header) (p : RunState) → Begun lent h.fields p → InOrder (setting01 lent h) lent p []
  pub reads : (N : ℕ) (lines : List (Option ℕ)) (s : Instruction) → ReadSpec N lines s
  pub printed : PrintedSpec
  pub budget : (h : Header) (text : List ℕ) → Headed book h text → h.budget < 2 ^ 64
  pub conditions : (N : ℕ) (L : Limits) → Conditions N L

-- ---- the public entry

-- the slices lent, in the order of 01's tables
pub record Slices : Type 0 where
  pub sp : List ℕ
  pub spp : List ℕ
  pub states : List ℕ
  pub members : List ℕ
  pub transitions : List ℕ
  pub pending : List ℕ
  pub scratch : List ℕ
  pub output : List ℕ

-- "The lent memory is written only within its own lengths": the lengths are those of the slices
pub record Lends (lent : Lent) (m : Slices) : Type 0 where
  pub sp : length m.sp ≡ lent.sp
  pub spp : length m.spp ≡ lent.spp
  pub states : length m.states ≡ lent.states
  pub members : length m.members ≡ lent.members
  pub transitions : length m.transitions ≡ lent.transitions
  pub pending : length m.pending ≡ lent.pending
  pub scratch : length m.scratch ≡ lent.scratch
  pub output : length m.output ≡ lent.output

-- "output bytes past the returned length are untouched"
pub record WritesOnly (bytes before after : List ℕ) : Type 0 where
  pub len : length after ≡ length before
  pub fits : length bytes ≤ length before
  pub is : (i : ℕ) → i < length bytes → get_or after i 0 ≡ get_or bytes i 0
  pub untouched : (i : ℕ) → length bytes ≤ i → get_or after i 0 ≡ get_or before i 0

-- What is returned, and each table as it is left: the outcome r.
pub record Refines (r : Result) (number line len : ℕ)
    (before output sp spp states members transitions pending scratch : List ℕ) : Type 0 where
  pub number_is : number ≡ r.number
  pub line_is : line ≡ r.line
  pub length_is : len ≡ length r.output
  pub output_is : WritesOnly r.output before output
  pub sp_is : sp ≡ r.sp
  pub spp_is : spp ≡ r.spp
  pub states_are : states ≡ r.states
  pub members_are : members ≡ r.members
  pub transitions_are : transitions ≡ r.transitions
  pub pending_is : pending ≡ r.pending
  pub scratch_is : scratch ≡ r.scratch

-- 01, promise 1: "One book with one set of lent lengths has one outcome: number, line, output, each word of each
-- table." What the entry returns and leaves, of the slices m that it was lent.
pub record EntrySpec (lent : Lent) (book : List ℕ) (m : Slices) (number line len : ℕ) (n : Slices) : Type 0 where
  pub lends : Lends lent m
  pub refines : Refines (outcome lent book) number line len m.output n.output n.sp n.spp n.states
      n.members n.transitions n.pending n.scratch
  pub leaves : Lends lent n
  pub claim : Claim lent book

-- ---- the program

-- "`netcheck` lends 512 packet and 512 relation nodes, 256 states, 512 members, 512 transitions, 256 pending, 6,144
-- scratch words, 4,096 bytes each for book and output."
abbrev pub netcheck_lent : Lent
netcheck_lent = record {
  sp = 2 * 512;
  spp = 4 * 512;
  states = 12 * 256;
  members = 512;
  transitions = 2 * 512;
  pending = 2 * 256;
  scratch = 6144;
  output = 4096;
}

-- what is written of an outcome: "the output, and after a refusal a line `refused`, number, text line"
abbrev pub report : Result → List ℕ
report r =
    if eqb r.number 0 then r.output
    else (r.output ++ say (bytes "refused" ∷ decimal r.number ∷ decimal r.line ∷ []))

-- "For a book over 4,096 bytes it writes only `too long`", with byte 10 as every line has.
abbrev pub netcheck_output : List ℕ → List ℕ
netcheck_output book = if ltb 4096 (length book) then say (bytes "too long" ∷ []) else report (outcome netcheck_lent book)

pub record NetcheckSpec (book written : List ℕ) : Type 0 where
  pub too_long : 4096 < length book → written ≡ bytes "too long\n"
  pub answered : let r : Result = outcome netcheck_lent book in length book ≤ 4096 → r.number ≡ 0 → written ≡ r.output
  pub refused : let r : Result = outcome netcheck_lent book in length book ≤ 4096 → ¬ (r.number ≡ 0)
      → written ≡ r.output ++ (bytes "refused " ++ (decimal r.number ++ (32 ∷ (decimal r.line ++ (10 ∷ [])))))
  pub claim : Claim netcheck_lent book
