-- 02 (ii), "Reading makes a new book's constants, then each record again by its constructor": what the parts of reading an image ask and promise, in the words of image_steps/specs/Read.
use Rattle.std.specs.Prelude.{◌≡◌, Bool, true, false, ◌&&◌, List, [], ◌∷◌, ◌++◌, Result, Ok, Err, IfOk, ℕ, ◌+◌, ◌*◌, ◌-◌, ◌≤◌, ◌<◌, eqb, length, get_or}
use Rattle.std.specs.Prelude as code
use Rattle.common.specs.Outcome.{Outcome, refused, given, Step, after, ◌>>=◌}
use Rattle.refusal.specs.declared.Refusal.{Refusal}
use Rattle.refusal.specs.Numbers.{number_of, outcome}
use Rattle.aut_steps.specs.Tables.{Limits, limits01}
use Rattle.aut_steps.specs.Wf.{WfAut}
use Rattle.aut_steps.specs.Scratch.{Kept}
use Rattle.aut_relations.specs.declared.Aut.{Aut as Lent}
use Rattle.aut_relations.specs.Behind.{LISTS}
use Rattle.aut_relations.specs.Lent.{aut_in, Unless}
use Rattle.book_steps.specs.Run as Run
use Rattle.book_steps.specs.Run.{RunState, place, zeroed}
use Rattle.book_memory.specs.declared.Setting.{Setting}
use Rattle.book_memory.specs.declared.Lines.{Lines}
use Rattle.book_memory.specs.declared.Place.{Place}
use Rattle.book_memory.specs.Place.{LINES, stands_for, lines_at, lines_in, place_in, lengths_of, Below, Standing}
use Rattle.book_memory.specs.Place.{word_of as line_word}
use Rattle.book_begin.specs.declared.Header.{Header}
use Rattle.book_begin.specs.Clauses.{KeepsPlace, setting_for, Fresh, Ordered}
use Rattle.image_steps.specs.Image as Image
use Rattle.image_steps.specs.Image.{layout, start_of, reach, total}
use Rattle.image_steps.specs.Read as Read
use Rattle.image_words.specs.declared.Head.{Head}
use Rattle.image_words.specs.Clauses.{head_of, Small, Reaches, entered_by}
use Rattle.image_states.specs.Clauses.{put_in}

-- ---- block 0

-- fields and budget by block 0, 01's limits
abbrev pub header_at : List ℕ → Header
header_at image = record { fields = (Read.head_at image).fields; budget = (Read.head_at image).budget }

-- .. of a head that was read
abbrev pub setting_by : Head → Setting
setting_by h = setting_for (record { fields = h.fields; budget = h.budget })

abbrev pub setting_at : List ℕ → Setting
setting_at image = setting_for (header_at image)

-- what block 0 asks for holds of h
pub record Fitting (image : List ℕ) (h : Head) : Type 0 where
  pub fits : Read.head_fits image (head_of h) ≡ true
  pub small : Small h

-- the records are still to be read; or the number
abbrev pub opened_by : Run.Lent → Limits → List ℕ → Result Head Refusal → Outcome RunState ℕ
opened_by lent L image (Ok h) = Read.then_records L image (head_of h) (Read.fresh lent h.fields)
opened_by lent L image (Err e) = refused (number_of e)

pub record Opens (image : List ℕ) (h : Head) : Type 0 where
  pub some : 512 ≤ length image
  pub is : head_of h ≡ Read.head_at image
  pub fitting : Fitting image h

abbrev pub OpensBy : List ℕ → Result Head Refusal → Type 0
OpensBy image (Ok h) = Opens image h
OpensBy image (Err e) = Unit

pub record PostOpen (image : List ℕ) (r : Result Head Refusal) : Type 0 where
  pub is : (lent : Run.Lent) (L : Limits) → Read.read lent L image ≡ opened_by lent L image r
  pub then : OpensBy image r

-- ---- what is kept: x before, y after

-- states, members, scratch and lines are written
abbrev pub OnlyRecords : Place → Place → Type 0
OnlyRecords x y = KeepsPlace (record { sp = false; spp = false; states = true; count = true; members = true; transitions = false; pending = false; scratch = true }) true x y

-- transitions, pending entries and output are as they were, and so is the length of the table of lines
pub record Beside (x y : Place) : Type 0 where
  pub transitions : y.aut.transitions ≡ x.aut.transitions
  pub pending : y.aut.pending ≡ x.aut.pending
  pub table : length y.lines.words.now ≡ length x.lines.words.now
  pub output : y.output ≡ x.output

-- ---- nodes

-- the records of packet nodes, then of relation nodes
abbrev pub node_steps : List ℕ → Image.Head → Limits → Step RunState ℕ
node_steps image h L =
    Read.records image h L (Read.node image h L) 2 0 0 h.sp
    >>= λ _. Read.records image h L (Read.relation image h L) 4 0 (start_of 1 (layout h)) h.spp

-- both tables of nodes are zeroed
pub record PreDiagrams (x : Place) : Type 0 where
  pub sp : x.aut.sp.nodes.now ≡ zeroed (length x.aut.sp.nodes.now)
  pub spp : x.aut.spp.nodes.now ≡ zeroed (length x.aut.spp.nodes.now)

-- .. with any tables beside them that are zeroed
pub record PostDiagrams (image : List ℕ) (h : Head) (r : Result Unit Refusal) (y : Place) : Type 0 where
  pub is : (z : Place) → Fresh y z → z.output.at ≡ 0 → (L : Limits) → after (Read.fresh (lengths_of z) h.fields) (λ _. node_steps image (head_of h) L) ≡ outcome (λ u. 0) r (place_in z)
  pub then : Unless r ((z : Place) → Fresh y z → Ordered h.fields z)

-- ---- members and lines

abbrev pub PostMembers : List ℕ → ℕ → ℕ → Result Unit Refusal → Type 0
PostMembers image s k r = (h : Image.Head) (L : Limits) (p : RunState) → Read.records image h L (Read.member image h L) 1 0 s k p ≡ entered_by r p

-- a line more, or the number
abbrev pub lined_by : Result (code.Option ℕ) Refusal → RunState → Outcome RunState ℕ
lined_by (Ok l) p = given (place p.tables (p.lines ++ stands_for (line_word l) ∷ []) p.output) 0
lined_by (Err e) p = refused (number_of e)

-- it stands for one of the states, if for any, and is a word of the table
abbrev pub WithinBy : ℕ → Result (code.Option ℕ) Refusal → Type 0
WithinBy states (Ok l) = (line_word l ≤ states) × (line_word l < 4294967296)
WithinBy states (Err e) = Unit

-- the record of a line at word s
pub record PostLine (image : List ℕ) (s states : ℕ) (r : Result (code.Option ℕ) Refusal) : Type 0 where
  pub is : (h : Image.Head) (L : Limits) (i : ℕ) (p : RunState) → p.tables.base.aut.states.count ≡ states
      → (Read.enter image h L s 1 >>= λ _. Read.line image h L i s) p ≡ lined_by r p
  pub within : WithinBy states r

-- k lines stand behind word s, and have room; there is none so far
pub record PreLines (image : List ℕ) (x : Lines) (s k : ℕ) : Type 0 where
  pub reaches : Reaches image (s + k)
  pub none : x.count ≡ 0
  pub room : k ≤ length x.words.now

-- there are k lines, each of which stands for one of the states, if for any
pub record Lined (states k : ℕ) (y : Lines) : Type 0 where
  pub count : y.count ≡ k
  pub named : Below states (lines_at y)

-- the words of the table behind k lines are as they were
pub record PostLines (image : List ℕ) (s k states : ℕ) (x : Lines) (r : Result Unit Refusal) (y : Lines) : Type 0 where
  pub is : (h : Image.Head) (L : Limits) (p : RunState) → p.tables.base.aut.states.count ≡ states → p.lines ≡ []
      → Read.records image h L (Read.line image h L) 1 0 s k p ≡ outcome (λ u. 0) r (place p.tables (lines_at y) p.output)
  pub kept : (i : ℕ) → k ≤ i → get_or y.words.now i 0 ≡ get_or x.words.now i 0
  pub then : Unless r (Lined states k y)

-- spare members and unused words (image_steps: Read.ended)
abbrev pub ended_by : List ℕ → Image.Head → ℕ → Bool
ended_by image h members =
    eqb members h.members
    && Read.unused image (reach (total h)) (total h - 127 * (reach (total h) - 1)) (127 * reach (total h) - total h)

-- ---- states, and all records behind the nodes

-- tables in order, in which the records behind the nodes are read
pub record PreAutomaton (h : Head) (x : Lent) : Type 0 where
  pub good : WfAut h.fields limits01 (aut_in x)
  pub room : 64 ≤ length x.scratch.now

-- members and states
abbrev pub state_steps : List ℕ → Image.Head → Limits → Step RunState ℕ
state_steps image h L =
    Read.records image h L (Read.member image h L) 1 0 (start_of 2 (layout h)) h.members
    >>= λ _. Read.records image h L (Read.state image h L) 4 0 (start_of 3 (layout h)) h.states

pub record PostAutomaton (image : List ℕ) (h : Head) (x : Lent) (r : Result Unit Refusal) (y : Lent) : Type 0 where
  pub is : (p : RunState) → p.tables.base.aut ≡ aut_in x → state_steps image (head_of h) limits01 p ≡ outcome (λ u. 0) r (put_in (aut_in y) p)
  pub kept : Kept 0 64 x.scratch.now y.scratch.now

-- .. and room for lines, none so far
pub record PreRecords (h : Head) (x : Place) : Type 0 where
  pub automaton : PreAutomaton h x.aut
  pub no_lines : x.lines.count ≡ 0
  pub table : length x.lines.words.now ≡ LINES

-- .. then lines, and the end
abbrev pub rest_steps : List ℕ → Image.Head → Limits → Step RunState ℕ
rest_steps image h L =
    Read.records image h L (Read.member image h L) 1 0 (start_of 2 (layout h)) h.members
    >>= λ _. Read.records image h L (Read.state image h L) 4 0 (start_of 3 (layout h)) h.states
    >>= λ _. Read.records image h L (Read.line image h L) 1 0 (start_of 4 (layout h)) h.lines
    >>= λ _. Read.ended image h L

pub record Rests (h : Head) (x y : Place) : Type 0 where
  pub lined : Lined y.aut.states.count h.lines y.lines
  pub kept : Kept 0 64 x.aut.scratch.now y.aut.scratch.now

pub record PostRecords (image : List ℕ) (h : Head) (x : Place) (r : Result Unit Refusal) (y : Place) : Type 0 where
  pub is : (p : RunState) → p.tables.base.aut ≡ aut_in x.aut → p.lines ≡ []
      → rest_steps image (head_of h) limits01 p ≡ outcome (λ u. 0) r (place (put_in (aut_in y.aut) p).tables (lines_in y) p.output)
  pub then : Unless r (Rests h x y)

-- ---- an image

-- What is read into is zeroed, with no records, and scratch as a book needs it; nothing is asked of transitions, pending entries and output.
pub record PreRead (x : Place) : Type 0 where
  pub sp : x.aut.sp.nodes.now ≡ zeroed (length x.aut.sp.nodes.now)
  pub spp : x.aut.spp.nodes.now ≡ zeroed (length x.aut.spp.nodes.now)
  pub states : x.aut.states.words.now ≡ zeroed (length x.aut.states.words.now)
  pub members : x.aut.members.words.now ≡ zeroed (length x.aut.members.words.now)
  pub lines : x.lines.words.now ≡ zeroed (length x.lines.words.now)
  pub scratch : x.aut.scratch.now ≡ zeroed (length x.aut.scratch.now)
  pub no_states : x.aut.states.count ≡ 0
  pub no_members : x.aut.members.count ≡ 0
  pub no_lines : x.lines.count ≡ 0
  pub table : length x.lines.words.now ≡ LINES
  pub room : LISTS ≤ length x.aut.scratch.now

-- z has what is read into y; its transitions and pending entries are zeroed, however long, and nothing is written
pub record Alike (y z : Place) : Type 0 where
  pub sp : z.aut.sp ≡ y.aut.sp
  pub spp : z.aut.spp ≡ y.aut.spp
  pub states : z.aut.states ≡ y.aut.states
  pub members : z.aut.members ≡ y.aut.members
  pub scratch : z.aut.scratch ≡ y.aut.scratch
  pub lines : z.lines ≡ y.lines
  pub transitions : z.aut.transitions.words.now ≡ zeroed (length z.aut.transitions.words.now)
  pub no_transitions : z.aut.transitions.count ≡ 0
  pub pending : z.aut.pending.now ≡ zeroed (length z.aut.pending.now)
  pub silent : z.output.at ≡ 0

-- the place is in order for any line, with the setting S of block 0
pub record Reads (image : List ℕ) (x y : Place) (S : Setting) : Type 0 where
  pub setting : S ≡ setting_at image
  pub standing : (z : Place) → Alike y z → Standing S z
  pub silent : x.output.at ≡ 0 → y.output.at ≡ 0
  pub some : 512 ≤ length image

pub record PostRead (image : List ℕ) (x : Place) (r : Result Setting Refusal) (y : Place) : Type 0 where
  pub is : (z : Place) → Alike y z → Read.read (lengths_of z) limits01 image ≡ outcome (λ S. 0) r (place_in z)
  pub then : IfOk r (Reads image x y)
