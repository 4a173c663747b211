-- 02 (ii), saving in code: "An image above 65,536 blocks, or longer than its output, meets 27, line 0, before any byte"; 02 (iv): "33, line 0, before 27, when one is wanted of tables that hold this kind". A run that came to its last place is kept as an image, or refused (image_steps, `saving`), and then finished; and the number, line and lengths of what is returned.
use Rattle.std.specs.Prelude.{◌≡◌, List, ℕ, length, Result, Ok, Err}
use Rattle.refusal.specs.Numbers as refusal
use Rattle.book_steps.specs.Run.{Lent, finished}
use Rattle.book_steps.specs.Claim.{WritesOnly}
use Rattle.book_memory.specs.declared.Setting.{Setting}
use Rattle.book_memory.specs.declared.Place.{Place}
use Rattle.book_finish.specs.declared.Stop.{Stop}
use Rattle.book_finish.specs.Clauses.{written_by, came_by, PostFinish}
use Rattle.image_save.specs.Clauses.{Present}
use Rattle.image_steps.specs.Calls.{saving}

-- all records of the last place stand in the tables
abbrev pub PreKeep : Result Setting Stop → Place → Type 0
PreKeep (Ok S) x = Present x
PreKeep (Err s) x = Unit

-- what a run that came to w comes to with its image
abbrev pub with_image : Result ℕ Stop → Result Setting Stop → Result Setting Stop
with_image (Ok n) w = w
with_image (Err s) w = Err s

-- a refused one has none
abbrev pub image_length : Result ℕ Stop → ℕ
image_length (Ok n) = n
image_length (Err s) = 0

pub record Keeps (lent : Lent) (w : Result Setting Stop) (x : Place) (r : Result ℕ Stop) (image image' : List ℕ) : Type 0 where
  pub result : (saving lent (length image) (came_by w x)).result ≡ finished lent (came_by (with_image r w) x)
  pub len : image_length r ≡ length (saving lent (length image) (came_by w x)).image
  pub is : WritesOnly (saving lent (length image) (came_by w x)).image image image'

-- the run w, which came to x, is saved; whatever was lent
pub record PostKeep (w : Result Setting Stop) (x : Place) (r : Result ℕ Stop) (image image' : List ℕ) : Type 0 where
  pub keeps : (lent : Lent) → Keeps lent w x r image image'
  pub bytes : written_by (with_image r w) x ≡ written_by w x

abbrev pub sealed_of : Result ℕ Stop → Result ℕ Stop → Result (ℕ × ℕ) Stop
sealed_of (Ok n) (Ok i) = Ok (n, i)
sealed_of (Ok n) (Err s) = Err s
sealed_of (Err s) k = Err s

-- kept, and finished
pub record PostSeal (w : Result Setting Stop) (x : Place) (r : Result (ℕ × ℕ) Stop) (y : Place) (image image' : List ℕ) : Type 0 where
  pub kept : Result ℕ Stop
  pub keeps : PostKeep w x kept image image'
  pub ran : Result ℕ Stop
  pub finishes : PostFinish (with_image kept w) x ran y
  pub is : r ≡ sealed_of ran kept

-- ---- what is returned

-- success returns 0 and line 0
abbrev pub number_of : Result (ℕ × ℕ) Stop → ℕ
number_of (Ok (n, i)) = 0
number_of (Err s) = refusal.number_of s.refusal

abbrev pub text_line_of : Result (ℕ × ℕ) Stop → ℕ
text_line_of (Ok (n, i)) = 0
text_line_of (Err s) = s.line

abbrev pub length_of : Result (ℕ × ℕ) Stop → ℕ
length_of (Ok (n, i)) = n
length_of (Err s) = s.length

abbrev pub image_length_of : Result (ℕ × ℕ) Stop → ℕ
image_length_of (Ok (n, i)) = i
image_length_of (Err s) = 0
