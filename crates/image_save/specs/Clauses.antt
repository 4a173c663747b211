-- 02 (ii), "Write the tables to an image": what the functions that write the image of a place ask and promise. It is the image of image_steps (`saved`), and every other byte is as it was.
use Rattle.std.specs.Prelude.{◌≡◌, List, ℕ, ◌+◌, ◌*◌, ◌≤◌, ◌<◌, length, get_or}
use Rattle.std.proofs.lemmas.List.Edits.{sets}
use Rattle.image_steps.specs.Image as Image
use Rattle.image_steps.specs.Image.{head_words, head_of, body_of, word_of, blocks_of, image_of}
use Rattle.book_memory.specs.declared.Setting.{Setting}
use Rattle.book_memory.specs.declared.Place.{Place}
use Rattle.book_memory.specs.Place.{LINES, place_in, setting_in}
use Rattle.image_words.specs.declared.Head.{Head}
use Rattle.image_words.specs.Clauses.{Small}
use Rattle.image_words.specs.Clauses.{head_of as read_of}

-- ---- what is asked

-- 01's most records, 2,048 lines
pub record Few (x : Place) : Type 0 where
  pub sp : x.aut.sp.count ≤ 16777216
  pub spp : x.aut.spp.count ≤ 16777216
  pub members : x.aut.members.count ≤ 16777216
  pub states : x.aut.states.count ≤ 32768
  pub lines : x.lines.count ≤ LINES

-- all records stand in the tables
pub record Present (x : Place) : Type 0 where
  pub few : Few x
  pub sp : 2 * x.aut.sp.count ≤ length x.aut.sp.nodes.now
  pub spp : 4 * x.aut.spp.count ≤ length x.aut.spp.nodes.now
  pub members : x.aut.members.count ≤ length x.aut.members.words.now
  pub states : 12 * x.aut.states.count ≤ length x.aut.states.words.now
  pub lines : x.lines.count ≤ length x.lines.words.now

-- block b has room
pub record PreBlock (x : Place) (h : Head) (b : ℕ) (image : List ℕ) : Type 0 where
  pub present : Present x
  pub small : Small h
  pub few : b < 65536
  pub room : 512 * b + 512 ≤ length image

-- what block 0 says
abbrev pub head_in : Setting → Place → Image.Head
head_in S x = head_of (setting_in S x) (place_in x)

-- the whole image has room
pub record PreWrite (h : Head) (x : Place) (image : List ℕ) : Type 0 where
  pub present : Present x
  pub small : Small h
  pub few : blocks_of (read_of h) ≤ 65536
  pub room : 512 * blocks_of (read_of h) ≤ length image

-- ---- what is promised

-- h says what block 0 says
pub record HeadOf (S : Setting) (x : Place) (h : Head) : Type 0 where
  pub is : read_of h ≡ head_in S x
  pub small : Small h

-- word i of the records, 0 behind them
abbrev pub record_at : Place → ℕ → ℕ
record_at x i = get_or (body_of (place_in x)) i 0

-- word j of block 0
abbrev pub head_at : Head → ℕ → ℕ
head_at h j = get_or (head_words (read_of h)) j 0

-- word j of block b
abbrev pub word_in : Head → Place → (b j : ℕ) → ℕ
word_in h x = word_of (read_of h) (body_of (place_in x))

-- the image stands in the lent bytes; where h is what block 0 says, it is `saved`
abbrev pub PostWrite : Head → Place → (image image' : List ℕ) → Type 0
PostWrite h x image image' = image' ≡ sets image 0 (image_of (read_of h) (body_of (place_in x)))
