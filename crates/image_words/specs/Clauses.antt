-- 02 (ii), "Block 0 is fields, budget (high word first), counts ..": what the code's answers say in the words of image_steps, and what its functions ask of an image.
use Rattle.std.specs.Prelude.{◌≡◌, Bool, ◌&&◌, List, ℕ, Result, Ok, Err, ◌+◌, ◌*◌, ◌/◌, ◌%◌, ◌≤◌, ◌<◌, leb, length}
use Rattle.common.specs.Outcome.{Outcome, refused, given}
use Rattle.sp_steps.specs.Model as Sp
use Rattle.spp_steps.specs.Model as Spp
use Rattle.aut_steps.specs.Tables.{Limits}
use Rattle.book_steps.specs.Run.{RunState, instructions}
use Rattle.image_form.specs.Form.{word_at}
use Rattle.refusal.specs.declared.Refusal.{Refusal}
use Rattle.refusal.specs.Numbers.{number_of}
use Rattle.image_steps.specs.Image as Image
use Rattle.image_steps.specs.Image.{reach}
use Rattle.image_steps.specs.Read as Read
use Rattle.image_words.specs.declared.Head.{Head}

-- ---- block 0

abbrev pub head_of : Head → Image.Head
head_of h = record { fields = h.fields; budget = h.budget; sp = h.sp; spp = h.spp; members = h.members; states = h.states; lines = h.lines }

-- no header word is out of range, and there are no fewer nodes than the constants
abbrev pub counts_fit : Image.Head → Bool
counts_fit h =
    leb h.fields 31 && (leb h.sp Sp.most && (leb h.spp Spp.cap && (leb h.members 16777216
    && (leb h.states 32768 && (leb h.lines instructions
    && (leb h.fields h.sp && leb (3 * h.fields) h.spp))))))

-- each count is a word's
pub record Small (h : Head) : Type 0 where
  pub sp : h.sp < 4294967296
  pub spp : h.spp < 4294967296
  pub members : h.members < 4294967296
  pub states : h.states < 4294967296
  pub lines : h.lines < 4294967296

pub record PostHead (image : List ℕ) (r : Head) : Type 0 where
  pub is : head_of r ≡ Read.head_at image
  pub small : Small r

-- ---- the records

-- word i of the records (image_steps: Read.word, whatever the head and the limits)
abbrev pub word_of : List ℕ → ℕ → ℕ
word_of image i = word_at image (1 + i / 127) (i % 127)

-- the image has the blocks of the first n words of the records
abbrev pub Reaches : List ℕ → ℕ → Type 0
Reaches image n = 512 * (1 + reach n) ≤ length image

abbrev pub entered_by : Result Unit Refusal → RunState → Outcome RunState ℕ
entered_by (Ok u) p = given p 0
entered_by (Err e) p = refused (number_of e)

abbrev pub Entered : List ℕ → ℕ → ℕ → Result Unit Refusal → Type 0
Entered image s size r = (h : Image.Head) (L : Limits) (p : RunState) → Read.enter image h L s size p ≡ entered_by r p
