-- 02 (ii), what is claimed of images: what is read is in order, means the rules of its records, and is saved to the same bytes; an own image is read back to the same tables without words 4 to 7 and transitions; one altered
-- byte, or two that are exchanged, is found; and of a book that goes on from an image all that is claimed of a book. "For demand 3 the image is part of the book." Definitions and statements only.
use Rattle.std.specs.Prelude.{◌≡◌, ◌⊎◌, ◌≢◌, ℕ, zero, suc, ◌+◌, ◌*◌, ◌-◌, ◌^◌, ◌≤◌, ◌<◌, length, get_or, set, take}
use mathlib.Core.List.{List, [], ◌∷◌, ◌++◌, map, Memᴰ}
use Rattle.std.proofs.Math.Option.{Option, none, some}
use Rattle.common.specs.Outcome.{refused, given}
use Rattle.common.specs.Runs.{table}
use Rattle.netkat.specs.Rules.{Rule}
use Rattle.aut_steps.specs.Tables.{NEXT, kind_of, Aut, aut, limits01, words}
use Rattle.aut_steps.specs.Meaning.{rule}
use Rattle.aut_delta_steps.specs.Delta.{store}
use Rattle.aut_query_steps.specs.Tables.{tables}
use Rattle.image_form.specs.Damage.{Bytes, exchange}
use Rattle.book_steps.specs.Demands.{InOrder}
use Rattle.book_steps.specs.Run.{Lent, Setting, RunState, place, zeroed, setting_of, Result, outcome}
use Rattle.book_steps.specs.RunSpec.{Refused, Answered, Point, RunSpec, RunClaim}
use Rattle.image_steps.specs.Image.{head_of, blocks_of, saved}
use Rattle.image_steps.specs.Read.{read}
use Rattle.book_steps.specs.Run.{Came, came, failed, ran_book, finished}
use Rattle.image_steps.specs.Calls.{header_at, ran_on, Saved, save, resume, resume_save}

-- ---- what is read

-- each line means the rule of its state, by the image's records
abbrev pub rule_at : (N : ℕ) → Aut → Option ℕ → Option (Rule N)
rule_at N σ none = none
rule_at N σ (some x) = some (rule N σ x)

abbrev pub rules_in : (N : ℕ) → RunState → List (Option (Rule N))
rules_in N p = map (rule_at N p.tables.base.aut) p.lines

-- the setting by block 0
abbrev pub setting_at : Lent → List ℕ → Setting
setting_at lent image = setting_of lent (header_at lent image)

-- The place p is what the image says: in order, with its rules, and saved it is the image again.
pub record PlaceSpec (lent : Lent) (image : List ℕ) (p : RunState) : Type 0 where
  pub in_order : let S : Setting = setting_at lent image in InOrder S lent p (rules_in S.fields p)
  pub fields : (setting_at lent image).fields ≤ 31
  pub budget : (setting_at lent image).budget < 2 ^ 64
  pub lines : length p.lines ≤ 2048
  pub silent : p.output ≡ []
  pub again : saved (setting_at lent image) p ≡ image

abbrev pub ReadsRight : Type 0
ReadsRight = (lent : Lent) (image : List ℕ) (p : RunState) (x : ℕ) → Bytes image → read lent limits01 image ≡ given p x → PlaceSpec lent image p

-- the numbers with which an image is refused
abbrev pub Unread : Type 0
Unread = (lent : Lent) (image : List ℕ) (number : ℕ) → read lent limits01 image ≡ refused number
    → Memᴰ number (30 ∷ 31 ∷ 32 ∷ 20 ∷ 21 ∷ 22 ∷ 23 ∷ [])

-- ---- own images

-- the first n words, and zeros up to `room` words
abbrev pub cut_to : (room n : ℕ) → List ℕ → List ℕ
cut_to room n t = take n t ++ zeroed (room - n)

-- words 0 to 3 of the first n states, their other words 0
unfoldable pub plain_states : List ℕ → ℕ → List ℕ
plain_states st zero = []
plain_states st (suc n) = plain_states st n ++ (words st (12 * n) 4 ++ zeroed 8)

-- the place without what was worked out and without output, in tables of the lengths `lent`
abbrev pub stripped : Lent → RunState → RunState
stripped lent p =
    place
    (tables (table (cut_to lent.sp (2 * p.tables.sets.count) p.tables.sets.words) p.tables.sets.count)
    (store
    (aut (table (cut_to lent.spp (4 * p.tables.base.aut.nodes.count) p.tables.base.aut.nodes.words) p.tables.base.aut.nodes.count)
    (table (plain_states p.tables.base.aut.states.words p.tables.base.aut.states.count ++ zeroed (lent.states - 12 * p.tables.base.aut.states.count)) p.tables.base.aut.states.count)
    (table (cut_to lent.members p.tables.base.aut.members.count p.tables.base.aut.members.words) p.tables.base.aut.members.count))
    (table (zeroed lent.transitions) 0)))
    p.lines []

-- the records of p have room in tables of these lengths
pub record RoomFor (lent : Lent) (p : RunState) : Type 0 where
  pub sp : 2 * p.tables.sets.count ≤ lent.sp
  pub spp : 4 * p.tables.base.aut.nodes.count ≤ lent.spp
  pub states : 12 * p.tables.base.aut.states.count ≤ lent.states
  pub members : p.tables.base.aut.members.count ≤ lent.members

-- 02 (iv), "tables that hold this kind": state x is there, and is of kind 10
abbrev pub NextAt : RunState → ℕ → Type 0
NextAt p x = (x < p.tables.base.aut.states.count) × (kind_of p.tables.base.aut.states.words x ≡ NEXT)

abbrev pub NoNext : RunState → Type 0
NoNext p = (x : ℕ) → NextAt p x → ⊥

-- a place of a book, as a run leaves it (InOrder), without kind 10, whose image has at most 65,536 blocks
pub record OwnPlace (S : Setting) (lent : Lent) (p : RunState) : Type 0 where
  pub rules : List (Option (Rule S.fields))
  pub in_order : InOrder S lent p rules
  pub limits : S.limits ≡ limits01
  pub fields : S.fields ≤ 31
  pub budget : S.budget < 2 ^ 64
  pub lines : length p.lines ≤ 2048
  pub no_next : NoNext p
  pub few : blocks_of (head_of S p) ≤ 65536

abbrev pub OwnIsRead : Type 0
OwnIsRead = (S : Setting) (lent lent' : Lent) (p : RunState) → OwnPlace S lent p → RoomFor lent' p
    → read lent' limits01 (saved S p) ≡ given (stripped lent' p) 0

-- ---- damage

-- 30 or 31
abbrev pub Detected : Lent → List ℕ → Type 0
Detected lent image = (read lent limits01 image ≡ refused 30) ⊎ (read lent limits01 image ≡ refused 31)

-- of an image that is read: one byte altered, or two unequal bytes of one block exchanged
pub record DamageRefused (lent : Lent) (image : List ℕ) : Type 0 where
  pub altered : (i v : ℕ) → i < length image → v < 256 → v ≢ get_or image i 0 → Detected lent (set image i v)
  pub exchanged : (b i j : ℕ) → i < j → j < 512 → 512 * b + j < length image
      → get_or image (512 * b + i) 0 ≢ get_or image (512 * b + j) 0
      → Detected lent (exchange image (512 * b + i) (512 * b + j))

abbrev pub DamageIsRefused : Type 0
DamageIsRefused = (lent : Lent) (image : List ℕ) (p : RunState) (x : ℕ) → Bytes image → read lent limits01 image ≡ given p x → DamageRefused lent image

-- ---- a book that goes on

-- "its instructions count on"; text line 1 is its first line
abbrev pub on_from : (lent : Lent) (image book : List ℕ) (p : RunState) → Point (setting_at lent image)
on_from lent image book p = record {
  left = 2048 - length p.lines;
  text = book;
  line = 1;
  place = p;
  rules = rules_in (setting_at lent image).fields p;
}

-- What `resume` comes to, as a book does (book_steps/specs/Claim: BookSpec).
pub data ResumeSpec (lent : Lent) (image book : List ℕ) (r : Result) : Type 0 where
  no_scratch : lent.scratch < 6144 → Refused lent 26 0 [] r → ResumeSpec lent image book r
  unread : {number : ℕ} → 6144 ≤ lent.scratch → read lent limits01 image ≡ refused number → Refused lent number 0 [] r → ResumeSpec lent image book r
  ran : {p : RunState} {x : ℕ} → 6144 ≤ lent.scratch → read lent limits01 image ≡ given p x → PlaceSpec lent image p
      → RunSpec (setting_at lent image) lent (on_from lent image book p) r → ResumeSpec lent image book r

pub record ResumeClaim (lent : Lent) (image book : List ℕ) : Type 0 where
  pub whole : ResumeSpec lent image book (resume lent image book)
  pub only : (r : Result) → ResumeSpec lent image book r → r ≡ resume lent image book
  pub runs : (p : RunState) (x : ℕ) → read lent limits01 image ≡ given p x → RunClaim (setting_at lent image) lent (on_from lent image book p)

-- What `save` and `resume_save` come to, of a run that came to c: its own number where it is refused; 33 where a state is of kind 10; else 27 where the image has too many blocks or no room; else the image of its last place, and the tables as they are.
pub data SaveSpec (lent : Lent) (size : ℕ) : Came → Saved lent → Type 0 where
  stopped : {number line : ℕ} {output : List ℕ} {s : Saved lent} → Refused lent number line output s.result → s.image ≡ []
      → SaveSpec lent size (failed number line output) s
  unknown_kind : {S : Setting} {p : RunState} {s : Saved lent} {x : ℕ} → NextAt p x
      → Refused lent 33 0 p.output s.result → s.image ≡ [] → SaveSpec lent size (came S p) s
  no_room : {S : Setting} {p : RunState} {s : Saved lent} → NoNext p → (65536 < blocks_of (head_of S p)) ⊎ (size < 512 * blocks_of (head_of S p))
      → Refused lent 27 0 p.output s.result → s.image ≡ [] → SaveSpec lent size (came S p) s
  written : {S : Setting} {p : RunState} {s : Saved lent} → blocks_of (head_of S p) ≤ 65536 → 512 * blocks_of (head_of S p) ≤ size
      → Answered lent p s.result → s.image ≡ saved S p → length s.image ≡ 512 * blocks_of (head_of S p) → OwnPlace S lent p
      → SaveSpec lent size (came S p) s

pub record SaveClaim (lent : Lent) (size : ℕ) (book : List ℕ) : Type 0 where
  pub ran : finished lent (ran_book lent book) ≡ outcome lent book
  pub whole : SaveSpec lent size (ran_book lent book) (save lent size book)

pub record ResumeSaveClaim (lent : Lent) (size : ℕ) (image book : List ℕ) : Type 0 where
  pub ran : finished lent (ran_on lent image book) ≡ resume lent image book
  pub whole : SaveSpec lent size (ran_on lent image book) (resume_save lent size image book)
