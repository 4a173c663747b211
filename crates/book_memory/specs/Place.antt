-- 01, "The book and its answers" and "Lent tables": a place of a book that runs, in code: how the steps see it, what a call keeps of what is lent, and when it is in order.
use Rattle.std.specs.Prelude.{◌≡◌, List, [], ◌∷◌, ◌++◌, ℕ, zero, suc, ◌+◌, ◌/◌, ◌≤◌, ◌<◌, length, get_or, take}
use Rattle.std.specs.Prelude as code
use Rattle.std.proofs.Math.Option.{Option, none, some}
use Rattle.slices.specs.Same.{SameSlice}
use Rattle.book_steps.specs.Run as Run
use Rattle.book_steps.specs.Run.{Lent, place, zeroed}
use Rattle.aut_states.specs.Clauses.{limits_of}
use Rattle.aut_sets.specs.Lent.{SameLent}
use Rattle.aut_query_stage.specs.Layer.{QueryReady, Zeroed}
use Rattle.aut_query_stage.specs.Lent.{tables_in}
use Rattle.book_memory.specs.declared.Setting.{Setting}
use Rattle.book_memory.specs.declared.Lines.{Lines}
use Rattle.book_memory.specs.declared.Place.{Place}
use Rattle.book_memory.specs.declared.Memory.{Memory}

abbrev pub LINES : ℕ
LINES = 2048

-- ---- the table of lines

-- a word of the table: a state + 1, or 0 for a line that cannot be named
abbrev pub stands_for : ℕ → Option ℕ
stands_for zero = none
stands_for (suc x) = some x

-- .. for a line in code
abbrev pub word_of : code.Option ℕ → ℕ
word_of code.None = 0
word_of (code.Some x) = suc x

-- the first k lines
unfoldable pub lines_of : List ℕ → ℕ → List (Option ℕ)
lines_of s zero = []
lines_of s (suc k) = lines_of s k ++ stands_for (get_or s k 0) ∷ []

abbrev pub lines_at : Lines → List (Option ℕ)
lines_at t = lines_of t.words.now t.count

-- every line that stands for a state stands for one of n
abbrev pub Below : ℕ → List (Option ℕ) → Type 0
Below n lines = (a x : ℕ) → get_or lines a none ≡ some x → x < n

-- ---- in the words of the steps

abbrev pub lines_in : Place → List (Option ℕ)
lines_in p = lines_at p.lines

-- the bytes written so far
abbrev pub written_in : Place → List ℕ
written_in p = take p.output.at p.output.bytes.now

abbrev pub place_in : Place → Run.RunState
place_in p = place (tables_in p.aut) (lines_in p) (written_in p)

-- the setting, for what is lent of entries and of bytes
abbrev pub setting_of : Setting → ℕ → ℕ → Run.Setting
setting_of S entries room = record { fields = S.config.fields; budget = S.budget; limits = limits_of S.config.limits; entries = entries; room = room }

abbrev pub setting_in : Setting → Place → Run.Setting
setting_in S p = setting_of S (length p.aut.pending.now / 2) (length p.output.bytes.now)

-- the lengths lent; of scratch both parts
abbrev pub lengths_of : Place → Lent
lengths_of p = record {
  sp = length p.aut.sp.nodes.now;
  spp = length p.aut.spp.nodes.now;
  states = length p.aut.states.words.now;
  members = length p.aut.members.words.now;
  transitions = length p.aut.transitions.words.now;
  pending = length p.aut.pending.now;
  scratch = length p.lines.words.now + length p.aut.scratch.now;
  output = length p.output.bytes.now;
}

-- ---- the slices that are lent

-- .. of a place
abbrev pub memory_of : Place → Memory
memory_of p = record {
  sp = p.aut.sp.nodes;
  spp = p.aut.spp.nodes;
  states = p.aut.states.words;
  members = p.aut.members.words;
  transitions = p.aut.transitions.words;
  pending = p.aut.pending;
  lines = p.lines.words;
  scratch = p.aut.scratch;
  output = p.output.bytes;
}

-- ---- what a call keeps: x before, y after. The same words and bytes are lent, as many

pub record SameMemory (m n : Memory) : Type 0 where
  pub sp : SameSlice m.sp n.sp
  pub spp : SameSlice m.spp n.spp
  pub states : SameSlice m.states n.states
  pub members : SameSlice m.members n.members
  pub transitions : SameSlice m.transitions n.transitions
  pub pending : SameSlice m.pending n.pending
  pub lines : SameSlice m.lines n.lines
  pub scratch : SameSlice m.scratch n.scratch
  pub output : SameSlice m.output n.output

pub record SamePlace (x y : Place) : Type 0 where
  pub aut : SameLent x.aut y.aut
  pub lines : SameSlice x.lines.words y.lines.words
  pub output : SameSlice x.output.bytes y.output.bytes

-- .. no more than this: before the instructions the fields are set too
abbrev pub SameSlices : Place → Place → Type 0
SameSlices x y = SameMemory (memory_of x) (memory_of y)

-- of the output, only bytes before the place were written, and none is taken back
pub record Onto (x y : Place) : Type 0 where
  pub from : x.output.at ≤ y.output.at
  pub beyond : (i : ℕ) → y.output.at ≤ i → get_or y.output.bytes.now i 0 ≡ get_or x.output.bytes.now i 0

-- ---- a place in order

-- tables and scratch are in order for any line, the pending entries are zero, and each line stands for one of the states
pub record Standing (S : Setting) (p : Place) : Type 0 where
  pub fields : p.aut.spp.fields ≡ S.config.fields
  pub ready : QueryReady S.config.fields S.config.limits (tables_in p.aut) p.aut.scratch.now
  pub pending : Zeroed p.aut.pending.now
  pub table : length p.lines.words.now ≡ LINES
  pub lines : p.lines.count ≤ LINES
  pub named : Below p.aut.states.count (lines_in p)

-- no record, no line and no output is there, and every word lent is 0
pub record Empty (p : Place) : Type 0 where
  pub sp : p.aut.sp.nodes.now ≡ zeroed (length p.aut.sp.nodes.now)
  pub spp : p.aut.spp.nodes.now ≡ zeroed (length p.aut.spp.nodes.now)
  pub states : p.aut.states.words.now ≡ zeroed (length p.aut.states.words.now)
  pub members : p.aut.members.words.now ≡ zeroed (length p.aut.members.words.now)
  pub transitions : p.aut.transitions.words.now ≡ zeroed (length p.aut.transitions.words.now)
  pub pending : p.aut.pending.now ≡ zeroed (length p.aut.pending.now)
  pub lines : p.lines.words.now ≡ zeroed (length p.lines.words.now)
  pub scratch : p.aut.scratch.now ≡ zeroed (length p.aut.scratch.now)
  pub no_sp : p.aut.sp.count ≡ 0
  pub no_spp : p.aut.spp.count ≡ 0
  pub no_states : p.aut.states.count ≡ 0
  pub no_members : p.aut.members.count ≡ 0
  pub no_transitions : p.aut.transitions.count ≡ 0
  pub no_lines : p.lines.count ≡ 0
  pub no_output : p.output.at ≡ 0
