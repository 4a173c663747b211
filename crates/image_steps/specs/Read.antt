-- 02 (ii), how an image is read: "It refuses before any book line, with line 0: 30 for a length of 0 or no multiple of 512; then block by block 30 for a wrong number, 31 for a wrong check, 32 for a record ending there that
-- cannot be made of those before it, comes out differently or meets 6 or 8 (20 to 23 where it has no room, constants last in block 0; a member with its state, a spare one in the last block), or a length (in block 0) not by
-- its counts, fewer nodes than the constants, a header word out of range or unused word not 0."
use Rattle.std.specs.Prelude.{Bool, true, false, ◌&&◌, ◌||◌, not, List, [], ◌∷◌, ◌++◌, ℕ, zero, suc, ◌+◌, ◌*◌, ◌-◌, ◌/◌, ◌%◌, eqb, ltb, leb, length, if◌then◌else◌}
use Rattle.std.proofs.Math.Option.{Option, none, some}
use Rattle.common.specs.Outcome.{Outcome, refused, given, Step, return, ◌>>=◌}
use Rattle.common.specs.Runs.{Table, table, placed}
use Rattle.sp_steps.specs.Model as Sp
use Rattle.spp_steps.specs.Model as Spp
use Rattle.aut_steps.specs.Tables.{UNION, INTERSECT, Limits, Aut, aut, on_nodes}
use Rattle.aut_delta_steps.specs.Delta.{store, on_aut}
use Rattle.aut_query_steps.specs.Tables.{Tables, tables, on_sets, on_base}
use Rattle.image_form.specs.Form.{word_at, verify}
use Rattle.book_steps.specs.Reader.{Header}
use Rattle.book_steps.specs.Run.{Lent, RunState, place, zeroed, instructions}
use Rattle.image_steps.specs.Image.{Head, layout, start_of, total, reach, blocks_of}
use Rattle.image_steps.specs.Records as Records

-- ---- block 0

unfoldable pub head_at : List ℕ → Head
head_at image = record {
  fields = word_at image 0 0;
  budget = 4294967296 * word_at image 0 1 + word_at image 0 2;
  sp = word_at image 0 3;
  spp = word_at image 0 4;
  members = word_at image 0 5;
  states = word_at image 0 6;
  lines = word_at image 0 7;
}

-- the k words of block b from word j on are 0
unfoldable pub unused : List ℕ → (b j k : ℕ) → Bool
unused image b j zero = true
unused image b j (suc k) = eqb (word_at image b j) 0 && unused image b (j + 1) k

-- "a length not by its counts, fewer nodes than the constants, a header word out of range or unused word not 0": 01's most records, 2,048 lines
unfoldable pub head_fits : List ℕ → Head → Bool
head_fits image h =
    leb h.fields 31 && (leb h.sp Sp.most && (leb h.spp Spp.cap && (leb h.members 16777216
    && (leb h.states 32768 && (leb h.lines instructions && (unused image 0 8 119
    && (leb h.fields h.sp && (leb (3 * h.fields) h.spp && eqb (length image / 512) (blocks_of h)))))))))

-- "constants last in block 0": the tables of a new book
abbrev pub constants_in : Lent → Outcome Table ℕ → Outcome Table Spp.Constants → Outcome RunState ℕ
constants_in lent (refused e) r = refused e
constants_in lent (given s z) (refused e) = refused e
constants_in lent (given s z) (given r c) =
    given (place (tables s (store (aut r (table (zeroed lent.states) 0) (table (zeroed lent.members) 0)) (table (zeroed lent.transitions) 0))) [] []) 0

unfoldable pub fresh : Lent → ℕ → Outcome RunState ℕ
fresh lent N = constants_in lent (Sp.constants N (table (zeroed lent.sp) 0)) (Spp.constants N (table (zeroed lent.spp) 0))

-- ---- the records

-- a step on the tables as one on the place
abbrev pub on_tables : Step Tables ℕ → Step RunState ℕ
on_tables c p = placed (λ σ p. place σ p.lines p.output) p (c p.tables)

-- a line by its word
abbrev pub line_of : ℕ → Option ℕ
line_of zero = none
line_of (suc x) = some x

module _ (image : List ℕ) (h : Head) (L : Limits) where
  abbrev pub N : ℕ
  N = h.fields

  -- word i of the records
  abbrev pub word : ℕ → ℕ
  word i = word_at image (1 + i / 127) (i % 127)

  -- k words from i on
  unfoldable pub words_from : ℕ → ℕ → List ℕ
  words_from i zero = []
  words_from i (suc k) = word i ∷ words_from (i + 1) k

  -- the block in which a record ends that has the `size` words from s on, unless a record before it reached that block
  abbrev pub looked : Option ℕ → Step RunState ℕ
  looked none = return 0
  looked (some number) = λ p. refused number

  unfoldable pub enter : ℕ → ℕ → Step RunState ℕ
  enter s size = if ltb (reach s) (reach (s + size)) then looked (verify image (reach (s + size))) else return 0

  -- k records from record i on, each of `size` words, the first from word s on; `make` is how record i at word s is made
  unfoldable pub records : (ℕ → ℕ → Step RunState ℕ) → (size i s k : ℕ) → Step RunState ℕ
  records make size i s zero = return 0
  records make size i s (suc k) = do
    _ ← enter s size
    _ ← make i s
    records make size (i + 1) (s + size) k

  abbrev pub node : ℕ → ℕ → Step RunState ℕ
  node i s = on_tables (on_sets (Records.node N i (word s) (word (s + 1))))

  abbrev pub relation : ℕ → ℕ → Step RunState ℕ
  relation i s = on_tables (on_base (on_aut (on_nodes (Records.relation N i (Spp.quad (word s) (word (s + 1)) (word (s + 2)) (word (s + 3)))))))

  -- "a member with its state"
  abbrev pub member : ℕ → ℕ → Step RunState ℕ
  member i s = return 0

  -- the members of a state's record: those from x on, y of them, which are among the image's
  abbrev pub list_at : (k x y : ℕ) → List ℕ
  list_at k x y = if eqb k UNION || eqb k INTERSECT then words_from (start_of 2 (layout h) + x) y else []

  unfoldable pub state_at : (k x y e : ℕ) → Step Aut ℕ
  state_at k x y e =
      if (eqb k UNION || eqb k INTERSECT) && ltb h.members (x + y) then (λ σ. refused 32)
      else Records.state N L (list_at k x y) k x y e

  abbrev pub state : ℕ → ℕ → Step RunState ℕ
  state i s = on_tables (on_base (on_aut (state_at (word s) (word (s + 1)) (word (s + 2)) (word (s + 3)))))

  abbrev pub line : ℕ → ℕ → Step RunState ℕ
  line i s p =
      if leb (word s) p.tables.base.aut.states.count
      then given (place p.tables (p.lines ++ line_of (word s) ∷ []) p.output) 0
      else refused 32

  -- in the last block: spare members, then unused words
  unfoldable pub ended : Step RunState ℕ
  ended p =
      if eqb p.tables.base.aut.members.count h.members
      && unused image (reach (total h)) (total h - 127 * (reach (total h) - 1)) (127 * reach (total h) - total h)
      then given p 0 else refused 32

  unfoldable pub records_of : Step RunState ℕ
  records_of = do
    _ ← records node 2 0 0 h.sp
    _ ← records relation 4 0 (start_of 1 (layout h)) h.spp
    _ ← records member 1 0 (start_of 2 (layout h)) h.members
    _ ← records state 4 0 (start_of 3 (layout h)) h.states
    _ ← records line 1 0 (start_of 4 (layout h)) h.lines
    ended

-- ---- an image

-- the place that is read, and what block 0 says; or a number
abbrev pub then_records : Limits → List ℕ → Head → Outcome RunState ℕ → Outcome RunState ℕ
then_records L image h (refused number) = refused number
then_records L image h (given p x) = records_of image h L p

abbrev pub from_head : Lent → Limits → List ℕ → Head → Outcome RunState ℕ
from_head lent L image h = if head_fits image h then then_records L image h (fresh lent h.fields) else refused 32

abbrev pub if_verified : Option ℕ → Outcome RunState ℕ → Outcome RunState ℕ
if_verified none o = o
if_verified (some number) o = refused number

unfoldable pub read : Lent → Limits → List ℕ → Outcome RunState ℕ
read lent L image =
    if eqb (length image) 0 || not (eqb (length image % 512) 0) then refused 30
    else if_verified (verify image 0) (from_head lent L image (head_at image))
