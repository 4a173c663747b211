-- 02 (ii): "Reading makes .. each record again by its constructor .. and wants the same number". What the answers say in the words of image_steps/specs/Read, what is kept of what is lent, and what is asked.
use Rattle.std.specs.Prelude.{◌≡◌, Bool, true, false, ◌&&◌, ◌||◌, List, Result, ℕ, ◌+◌, ◌*◌, ◌/◌, ◌≤◌, ◌<◌, eqb, ltb, length, if◌then◌else◌}
use Rattle.common.specs.Outcome.{refused, given, Step, ◌>>=◌}
use Rattle.common.specs.Runs.{Table}
use Rattle.aut_steps.specs.Tables.{UNION, INTERSECT, Aut, aut}
use Rattle.aut_steps.specs.Tables.{Limits as Bounds}
use Rattle.aut_steps.specs.Wf.{WfAut}
use Rattle.aut_steps.specs.Scratch.{Kept}
use Rattle.aut_delta_steps.specs.Delta.{put_aut}
use Rattle.aut_delta_steps.specs.Fits.{Since}
use Rattle.aut_query_steps.specs.Tables.{put_base}
use Rattle.aut_states.specs.declared.Config.{Config}
use Rattle.aut_states.specs.declared.States.{States}
use Rattle.aut_states.specs.declared.Members.{Members}
use Rattle.aut_states.specs.Clauses.{limits_of, states_of, members_of, seen}
use Rattle.aut_relations.specs.declared.Aut.{Aut as Lent}
use Rattle.aut_relations.specs.Lent.{aut_in, Unless, KeepsBut}
use Rattle.book_steps.specs.Run.{RunState, place}
use Rattle.image_steps.specs.Image.{Head, layout, start_of}
use Rattle.image_steps.specs.Records as Records
use Rattle.image_steps.specs.Read as Read
use Rattle.image_words.specs.Clauses.{word_of}
use Rattle.image_kinds.specs.declared.Words.{Words}
use Rattle.image_states.specs.declared.Lists.{Lists}
use Rattle.refusal.specs.declared.Refusal.{Refusal}
use Rattle.refusal.specs.Numbers.{outcome}

-- ---- words of an image

-- the image has the blocks of the records' first n words
pub record Holds (image : List ℕ) (n : ℕ) : Type 0 where
  pub block : (i : ℕ) → i < n → 512 * (1 + i / 127) + 512 ≤ length image

-- the four words from s on
pub record WordsAt (image : List ℕ) (s : ℕ) (w : Words) : Type 0 where
  pub kind : w.kind ≡ word_of image s
  pub first : w.first ≡ word_of image (s + 1)
  pub second : w.second ≡ word_of image (s + 2)
  pub nesting : w.nesting ≡ word_of image (s + 3)

-- xs is the k words from a on
pub record Copies (image : List ℕ) (a k : ℕ) (xs : List ℕ) : Type 0 where
  pub is : (h : Head) (L : Bounds) → Read.words_from image h L a k ≡ xs

-- the head says where the members are, and how many
pub record HeadIs (h : Head) (N : ℕ) (at : Lists) : Type 0 where
  pub fields : h.fields ≡ N
  pub members : h.members ≡ at.count
  pub first : start_of 2 (layout h) ≡ at.first

-- ---- what a call keeps: x before, y after

-- states are written
abbrev pub OnlyStates : Lent → Lent → Type 0
OnlyStates x y = KeepsBut (record { sp = false; spp = false; states = true; count = true; members = false; transitions = false; pending = false; scratch = false }) x y

-- .. and members and scratch
abbrev pub OnlyExprs : Lent → Lent → Type 0
OnlyExprs x y = KeepsBut (record { sp = false; spp = false; states = true; count = true; members = true; transitions = false; pending = false; scratch = true }) x y

-- ---- a record that is made, before its number is looked at

-- a kind that has a list
abbrev pub listed : ℕ → Bool
listed k = eqb k UNION || eqb k INTERSECT

abbrev pub made : ℕ → Bounds → List ℕ → (k x y e : ℕ) → Step Aut ℕ
made N L xs k x y e σ = if Records.state_fits N L σ xs k x y e then Records.interned N L xs k x y σ else refused 32

abbrev pub made_at : List ℕ → Head → Bounds → (k x y e : ℕ) → Step Aut ℕ
made_at image h L k x y e σ =
    if listed k && ltb h.members (x + y) then refused 32
    else made h.fields L (Read.list_at image h L k x y) k x y e σ

-- .. with the list xs
abbrev pub Enters : Config → Words → List ℕ → Lent → Result ℕ Refusal → Lent → Type 0
Enters k w xs x r y = made k.fields (limits_of k.limits) xs w.kind w.first w.second w.nesting (aut_in x) ≡ seen r (aut_in y)

-- .. of which states and members alone are taken
pub record EntersList (k : Config) (w : Words) (xs : List ℕ) (st : States) (mem : Members) (r : Result ℕ Refusal) (st' : States) (mem' : Members) : Type 0 where
  pub is : (t : Table) → made k.fields (limits_of k.limits) xs w.kind w.first w.second w.nesting (aut t (states_of st) (members_of mem)) ≡ seen r (aut t (states_of st') (members_of mem'))

-- .. whose list, if it has one, is read from the image
pub record Reads (k : Config) (at : Lists) (w : Words) (x : Lent) (r : Result ℕ Refusal) (y : Lent) : Type 0 where
  pub is : (h : Head) → HeadIs h k.fields at → made_at at.image.now h (limits_of k.limits) w.kind w.first w.second w.nesting (aut_in x) ≡ seen r (aut_in y)
  pub kept : Kept 0 64 x.scratch.now y.scratch.now

-- the number n is wanted
pub record Wants (n i : ℕ) (r : Result ℕ Refusal) : Type 0 where
  pub is : (N : ℕ) (L : Bounds) (σ : Aut) → Records.wanted N L n (given σ i) ≡ seen r σ

-- the record at word s
pub record ReadsState (k : Config) (at : Lists) (s : ℕ) (x : Lent) (r : Result ℕ Refusal) (y : Lent) : Type 0 where
  pub is : (h : Head) → HeadIs h k.fields at
      → Read.state_at at.image.now h (limits_of k.limits) (word_of at.image.now s) (word_of at.image.now (s + 1)) (word_of at.image.now (s + 2)) (word_of at.image.now (s + 3)) (aut_in x) ≡ seen r (aut_in y)
  pub kept : Kept 0 64 x.scratch.now y.scratch.now

-- ---- on the place of a run

-- these tables in a place
abbrev pub put_in : Aut → RunState → RunState
put_in a p = place (put_base (put_aut a p.tables.base) p.tables) p.lines p.output

-- in order, and nothing but these states added, unless refused
abbrev pub SinceBy : {V : Type 0} → Config → Lent → Result V Refusal → Lent → Type 0
SinceBy k x r y = Unless r (Since k.fields (limits_of k.limits) (aut_in x) (aut_in y))

-- the block of the record at word s, and the record
pub record Turns (k : Config) (at : Lists) (s : ℕ) (x : Lent) (r : Result ℕ Refusal) (y : Lent) : Type 0 where
  pub is : (h : Head) → HeadIs h k.fields at → (i : ℕ) (p : RunState) → p.tables.base.aut ≡ aut_in x
      → (Read.enter at.image.now h (limits_of k.limits) s 4 >>= λ _. Read.state at.image.now h (limits_of k.limits) i s) p ≡ seen r (put_in (aut_in y) p)
  pub since : SinceBy k x r y
  pub kept : Kept 0 64 x.scratch.now y.scratch.now

-- n records, the first at word s
pub record ReadsStates (k : Config) (at : Lists) (s n : ℕ) (x : Lent) (r : Result Unit Refusal) (y : Lent) : Type 0 where
  pub is : (h : Head) → HeadIs h k.fields at → (p : RunState) → p.tables.base.aut ≡ aut_in x
      → Read.records at.image.now h (limits_of k.limits) (Read.state at.image.now h (limits_of k.limits)) 4 0 s n p ≡ outcome (λ u. 0) r (put_in (aut_in y) p)
  pub since : SinceBy k x r y
  pub kept : Kept 0 64 x.scratch.now y.scratch.now

-- ---- what is asked

-- tables in order
pub record Ordered (k : Config) (x : Lent) : Type 0 where
  pub few : k.fields ≤ 31
  pub good : WfAut k.fields (limits_of k.limits) (aut_in x)

-- .. of which states and members alone are taken; and a list as long as the record says
pub record ListAsks (k : Config) (w : Words) (xs : List ℕ) (st : States) (mem : Members) : Type 0 where
  pub few : k.fields ≤ 31
  pub nodes : Table
  pub good : WfAut k.fields (limits_of k.limits) (aut nodes (states_of st) (members_of mem))
  pub long : length xs ≡ w.second

-- .. and room for a list, and the image's members
pub record ReadAsks (k : Config) (at : Lists) (x : Lent) : Type 0 where
  pub ordered : Ordered k x
  pub list : k.limits.list ≤ 64
  pub room : 64 ≤ length x.scratch.now
  pub members : Holds at.image.now (at.first + at.count)

-- .. and a record at word s
pub record StateAsks (k : Config) (at : Lists) (s : ℕ) (x : Lent) : Type 0 where
  pub asks : ReadAsks k at x
  pub here : Holds at.image.now (s + 4)

pub record TurnAsks (k : Config) (at : Lists) (s : ℕ) (x : Lent) : Type 0 where
  pub asks : StateAsks k at s x
  pub head : Head
  pub is_head : HeadIs head k.fields at

-- .. and n records, the first at word s
pub record StatesAsk (k : Config) (at : Lists) (s n : ℕ) (x : Lent) : Type 0 where
  pub asks : ReadAsks k at x
  pub here : Holds at.image.now (s + 4 * n)
  pub head : Head
  pub is_head : HeadIs head k.fields at
