-- 01, "Lent tables" ("Every table is zeroed first") and "The book and its answers" (the first line), with the limits of "Who can cause a refusal": what zeroing and the beginning of a run ask and promise.
use Rattle.std.specs.Prelude.{◌≡◌, Bool, true, false, ℕ, ◌≤◌, length, Result, Ok, Err}
use Rattle.slices.specs.Same.{SameSlice}
use Rattle.common.specs.Outcome.{Outcome, refused, given}
use Rattle.common.specs.Runs.{Table, table}
use Rattle.refusal.specs.declared.Refusal.{Refusal}
use Rattle.refusal.specs.Numbers.{number_of, outcome}
use Rattle.sp_steps.specs.Model as Sp
use Rattle.spp_steps.specs.Model as Spp
use Rattle.aut_steps.specs.Tables.{limits01, aut}
use Rattle.aut_delta_steps.specs.Delta.{store}
use Rattle.aut_query_steps.specs.Tables.{Tables, tables, WfTables}
use Rattle.book_steps.specs.Reader as Reader
use Rattle.book_steps.specs.Run as Run
use Rattle.book_steps.specs.Run.{Lent, zeroed}
use Rattle.aut_states.specs.declared.Limits.{Limits}
use Rattle.aut_relations.specs.Behind.{LISTS}
use Rattle.aut_relations.specs.Lent.{Writes, either, KeepsBut, Unless}
use Rattle.aut_query_stage.specs.Lent.{tables_in}
use Rattle.book_memory.specs.declared.Setting.{Setting}
use Rattle.book_memory.specs.declared.Place.{Place}
use Rattle.book_memory.specs.Place.{LINES, Standing, Onto, place_in, lengths_of}
use Rattle.book_begin.specs.declared.Header.{Header}

-- ---- what is kept: x before, y after

-- of the tables by w; of lines that are written the same words are lent, as many; the output is as it was
pub record KeepsPlace (w : Writes) (b : Bool) (x y : Place) : Type 0 where
  pub aut : KeepsBut w x.aut y.aut
  pub lines : either b (SameSlice x.lines.words y.lines.words) (y.lines ≡ x.lines)
  pub output : y.output ≡ x.output

-- the tables are written
abbrev pub OnlyTables : Place → Place → Type 0
OnlyTables x y = KeepsPlace (record { sp = true; spp = true; states = true; count = true; members = true; transitions = true; pending = false; scratch = false }) false x y

-- pending entries, lines and scratch
abbrev pub KeepsTables : Place → Place → Type 0
KeepsTables x y = KeepsPlace (record { sp = false; spp = false; states = false; count = false; members = false; transitions = false; pending = true; scratch = true }) true x y

-- x with N fields
abbrev pub with_fields : ℕ → Place → Place
with_fields N x = record x { aut = record x.aut { spp = record x.aut.spp { fields = N } } }

-- both tables of nodes
abbrev pub nodes_alone : Writes
nodes_alone = record { sp = true; spp = true; states = false; count = false; members = false; transitions = false; pending = false; scratch = false }

-- the fields are set, and both tables of nodes written
abbrev pub OnlyNodes : ℕ → Place → Place → Type 0
OnlyNodes N x y = KeepsPlace nodes_alone false (with_fields N x) y

-- .. and of the output bytes, in the same slice
pub record OnlyBegun (N : ℕ) (x y : Place) : Type 0 where
  pub aut : KeepsBut nodes_alone (with_fields N x).aut y.aut
  pub lines : y.lines ≡ x.lines
  pub output : SameSlice x.output.bytes y.output.bytes

-- ---- zeroing

pub record TablesZeroed (y : Place) : Type 0 where
  pub sp : y.aut.sp.nodes.now ≡ zeroed (length y.aut.sp.nodes.now)
  pub spp : y.aut.spp.nodes.now ≡ zeroed (length y.aut.spp.nodes.now)
  pub states : y.aut.states.words.now ≡ zeroed (length y.aut.states.words.now)
  pub members : y.aut.members.words.now ≡ zeroed (length y.aut.members.words.now)
  pub transitions : y.aut.transitions.words.now ≡ zeroed (length y.aut.transitions.words.now)
  pub no_sp : y.aut.sp.count ≡ 0
  pub no_spp : y.aut.spp.count ≡ 0
  pub no_states : y.aut.states.count ≡ 0
  pub no_members : y.aut.members.count ≡ 0
  pub no_transitions : y.aut.transitions.count ≡ 0

pub record WorkZeroed (y : Place) : Type 0 where
  pub pending : y.aut.pending.now ≡ zeroed (length y.aut.pending.now)
  pub lines : y.lines.words.now ≡ zeroed (length y.lines.words.now)
  pub scratch : y.aut.scratch.now ≡ zeroed (length y.aut.scratch.now)
  pub no_lines : y.lines.count ≡ 0

-- ---- before the instructions

abbrev pub header_of : Header → Reader.Header
header_of h = record { fields = h.fields; budget = h.budget }

-- 01's limits
abbrev pub limits : Limits
limits = record { nesting = 256; list = 64; products = 32; transitions = 64 }

abbrev pub setting_for : Header → Setting
setting_for h = record { config = record { fields = h.fields; limits = limits }; budget = h.budget }

-- the tables of a new book, by what the constants of both kinds of nodes have come to
abbrev pub new_tables : Lent → Outcome Table ℕ → Outcome Table Spp.Constants → Outcome Tables ℕ
new_tables lent (refused e) r = refused e
new_tables lent (given s z) (refused e) = refused e
new_tables lent (given s z) (given r c) = given (tables s (store (aut r (table (zeroed lent.states) 0) (table (zeroed lent.members) 0)) (table (zeroed lent.transitions) 0))) 0

abbrev pub constants : Lent → ℕ → Outcome Tables ℕ
constants lent N = new_tables lent (Sp.constants N (table (zeroed lent.sp) 0)) (Spp.constants N (table (zeroed lent.spp) 0))

-- z has the nodes of y, and whatever else is lent there is zeroed, but for the output: no states, members, transitions or lines
pub record Fresh (y z : Place) : Type 0 where
  pub sp : z.aut.sp ≡ y.aut.sp
  pub spp : z.aut.spp ≡ y.aut.spp
  pub states : z.aut.states.words.now ≡ zeroed (length z.aut.states.words.now)
  pub members : z.aut.members.words.now ≡ zeroed (length z.aut.members.words.now)
  pub transitions : z.aut.transitions.words.now ≡ zeroed (length z.aut.transitions.words.now)
  pub pending : z.aut.pending.now ≡ zeroed (length z.aut.pending.now)
  pub lines : z.lines.words.now ≡ zeroed (length z.lines.words.now)
  pub scratch : z.aut.scratch.now ≡ zeroed (length z.aut.scratch.now)
  pub no_states : z.aut.states.count ≡ 0
  pub no_members : z.aut.members.count ≡ 0
  pub no_transitions : z.aut.transitions.count ≡ 0
  pub no_lines : z.lines.count ≡ 0

-- the tables are in order, for N fields
pub record Ordered (N : ℕ) (y : Place) : Type 0 where
  pub fields : y.aut.spp.fields ≡ N
  pub tables : WfTables N limits01 (tables_in y.aut)

-- both tables of nodes are zeroed; nothing is asked of what else is lent
pub record PreConstants (N : ℕ) (x : Place) : Type 0 where
  pub few : N ≤ 31
  pub sp : x.aut.sp.nodes.now ≡ zeroed (length x.aut.sp.nodes.now)
  pub spp : x.aut.spp.nodes.now ≡ zeroed (length x.aut.spp.nodes.now)

-- .. and promised of any place where it is zeroed: of y, if that is one
pub record PostConstants (N : ℕ) (r : Result Unit Refusal) (y : Place) : Type 0 where
  pub is : (z : Place) → Fresh y z → constants (lengths_of z) N ≡ outcome (λ u. 0) r (tables_in z.aut)
  pub then : Unless r ((z : Place) → Fresh y z → Ordered N z)

abbrev pub PreBegin : Header → Place → Type 0
PreBegin h = PreConstants h.fields

abbrev pub begun_of : Result Unit Refusal → Place → Outcome Run.RunState ℕ
begun_of (Ok u) z = given (place_in z) 0
begun_of (Err e) z = refused (number_of e)

-- where scratch is as a book needs it, the place is in order for any line
pub record Begins (h : Header) (x y : Place) : Type 0 where
  pub standing : (z : Place) → Fresh y z → length z.lines.words.now ≡ LINES → LISTS ≤ length z.aut.scratch.now → Standing (setting_for h) z
  pub pending : y.aut.pending ≡ x.aut.pending
  pub table : y.lines ≡ x.lines
  pub bytes : length y.output.bytes.now ≡ length x.output.bytes.now
  pub onto : Onto x y

abbrev pub BeginsBy : Header → Place → Result Unit Refusal → Place → Type 0
BeginsBy h x (Ok u) y = Begins h x y
BeginsBy h x (Err e) y = y.output ≡ x.output

-- where the output begins at its first byte
pub record PostBegin (h : Header) (x : Place) (r : Result Unit Refusal) (y : Place) : Type 0 where
  pub is : x.output.at ≡ 0 → (z : Place) → Fresh y z → z.output ≡ y.output → Run.begin (lengths_of z) (header_of h) ≡ begun_of r z
  pub then : BeginsBy h x r y
