-- 02 (ii): "Block 0 is fields, budget (high word first), counts of packet nodes, relation nodes, members, states, lines; from block 1, without gaps, come those records in that order, states by words 0 to 3, a line by
-- its state + 1 (0 if it cannot be named). Unused words are 0."
use Rattle.std.specs.Prelude.{List, [], ◌∷◌, ◌++◌, ℕ, zero, suc, ◌+◌, ◌*◌, ◌/◌, ◌%◌, length, get_or, take}
use Rattle.std.proofs.Math.Option.{Option, none, some}
use Rattle.aut_steps.specs.Tables.{words}
use Rattle.image_form.specs.Form.{blocks}
use Rattle.book_steps.specs.Run.{Setting, RunState}

-- ---- block 0

pub record Head : Type 0 where
  pub fields : ℕ
  pub budget : ℕ
  pub sp : ℕ
  pub spp : ℕ
  pub members : ℕ
  pub states : ℕ
  pub lines : ℕ

abbrev pub head_words : Head → List ℕ
head_words h = h.fields ∷ h.budget / 4294967296 ∷ h.budget % 4294967296 ∷ h.sp ∷ h.spp ∷ h.members ∷ h.states ∷ h.lines ∷ []

-- ---- the records

-- so many records of so many words each
pub record Rows : Type 0 where
  pub records : ℕ
  pub words : ℕ

abbrev pub rows : ℕ → ℕ → Rows
rows n w = record { records = n; words = w }

-- packet nodes, relation nodes, members, states, lines
abbrev pub layout : Head → List Rows
layout h = rows h.sp 2 ∷ rows h.spp 4 ∷ rows h.members 1 ∷ rows h.states 4 ∷ rows h.lines 1 ∷ []

-- the word at which the records of the list's n-th rows begin; with n = 5, the words of all
unfoldable pub start_of : ℕ → List Rows → ℕ
start_of zero rs = 0
start_of (suc n) [] = 0
start_of (suc n) (r ∷ rs) = r.records * r.words + start_of n rs

abbrev pub total : Head → ℕ
total h = start_of 5 (layout h)

-- how many blocks behind block 0 have some of the first n words
abbrev pub reach : ℕ → ℕ
reach n = (n + 126) / 127

abbrev pub blocks_of : Head → ℕ
blocks_of h = 1 + reach (total h)

-- ---- an image

-- word j of block b: of block 0 the head's, of the others those of the records, and 0 behind them
abbrev pub word_of : Head → List ℕ → ℕ → ℕ → ℕ
word_of h body zero j = get_or (head_words h) j 0
word_of h body (suc b) j = get_or body (127 * b + j) 0

unfoldable pub image_of : Head → List ℕ → List ℕ
image_of h body = blocks (word_of h body) 0 (blocks_of h)

-- ---- the image of a place

abbrev pub head_of : Setting → RunState → Head
head_of S p = record {
  fields = S.fields;
  budget = S.budget;
  sp = p.tables.sets.count;
  spp = p.tables.base.aut.nodes.count;
  members = p.tables.base.aut.members.count;
  states = p.tables.base.aut.states.count;
  lines = length p.lines;
}

-- words 0 to 3 of the first n states
unfoldable pub state_words : List ℕ → ℕ → List ℕ
state_words st zero = []
state_words st (suc n) = state_words st n ++ words st (12 * n) 4

-- a line by its state + 1
abbrev pub line_word : Option ℕ → ℕ
line_word none = 0
line_word (some x) = x + 1

unfoldable pub line_words : List (Option ℕ) → List ℕ
line_words [] = []
line_words (l ∷ ls) = line_word l ∷ line_words ls

abbrev pub body_of : RunState → List ℕ
body_of p =
    take (2 * p.tables.sets.count) p.tables.sets.words
    ++ (take (4 * p.tables.base.aut.nodes.count) p.tables.base.aut.nodes.words
    ++ (take p.tables.base.aut.members.count p.tables.base.aut.members.words
    ++ (state_words p.tables.base.aut.states.words p.tables.base.aut.states.count
    ++ line_words p.lines)))

unfoldable pub saved : Setting → RunState → List ℕ
saved S p = image_of (head_of S p) (body_of p)
