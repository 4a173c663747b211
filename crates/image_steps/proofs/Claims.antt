-- 02 (ii): what specs/Claims states of images, put together.
use mathlib.Core.List.{List}
use Prim.Native.Nat.{ℕ}
use Rattle.image_form.specs.Damage.{Bytes}
use Rattle.book_steps.specs.Run.{Lent}
use Rattle.image_steps.specs.Claims.{ReadsRight, Unread, OwnIsRead, DamageIsRefused, ResumeClaim, SaveClaim, ResumeSaveClaim}
use Rattle.image_steps.proofs.Reading as Reading
use Rattle.image_steps.proofs.Calls as Calls
use Rattle.image_steps.proofs.Damage as Damage
use Rattle.image_steps.proofs.Own as Own

pub reads_right : ReadsRight
reads_right = Calls.reads_right

pub unread : Unread
unread = Reading.unread

pub own_read : OwnIsRead
own_read = Own.own_read

pub damage_refused : DamageIsRefused
damage_refused = Damage.damage_refused

pub resume_claim : (lent : Lent) (image book : List ℕ) → Bytes image → ResumeClaim lent image book
resume_claim lent image book b = Calls.resume_claim lent image book b

pub save_claim : (lent : Lent) (size : ℕ) (book : List ℕ) → SaveClaim lent size book
save_claim lent size book = Calls.save_claim lent book size

pub resume_save_claim : (lent : Lent) (size : ℕ) (image book : List ℕ) → Bytes image → ResumeSaveClaim lent size image book
resume_save_claim lent size image book b = Calls.resume_save_claim lent image book b size
