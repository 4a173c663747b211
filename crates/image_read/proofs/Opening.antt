-- Block 0 of an image: the length, its number and check, its words.
use Rattle.std.specs.Prelude.{if◌then◌else◌, Result, Ok, Err}
use mathlib.Core.Path.{◌≡◌, refl, sym, ◌∙◌, ap, ap₂}
use mathlib.Core.Bool.{Bool, true, false, ◌||◌, not}
use mathlib.Core.List.{List}
use mathlib.Core.Option.{Option}
use Prim.Native.Nat.{ℕ, ◌%◌, ◌≤◌}
use native.Mathlib.Omega.{arith}
use lib.Dec.{eqb}
use lib.ListN.{length}
use borrow.Author.Tests.{eq-eqb, ne_eqb}
use Rattle.common.specs.Outcome.{Outcome, refused}
use Rattle.aut_steps.specs.Tables.{Limits}
use Rattle.book_steps.specs.Run.{Lent, RunState}
use Rattle.refusal.specs.declared.Refusal.{Refusal}
use Rattle.refusal.specs.declared.Refusal.TheVariants.{Block, Record}
use Rattle.image_form.specs.Form.{verify}
use Rattle.image_block.specs.Clauses.{looked_of}
use Rattle.image_steps.specs.Read.{head_at, head_fits, fresh, then_records, from_head, if_verified, read}
use Rattle.image_words.specs.declared.Head.{Head}
use Rattle.image_words.specs.Clauses.{head_of, PostHead}
use Rattle.image_read.specs.Clauses.{PostOpen}

-- ---- the steps

module _ (image : List ℕ) where
  by_length : (lent : Lent) (L : Limits) {a b : Bool} → eqb (length image) 0 ≡ a → eqb (length image % 512) 0 ≡ b
      → read lent L image ≡ (if a || not b then refused 30 else if_verified (verify image 0) (from_head lent L image (head_at image)))
  unfolding read
  by_length lent L p q = ap₂ (λ (a b : Bool). if a || not b then refused 30 else if_verified (verify image 0) (from_head lent L image (head_at image))) p q

  short : (b : Bool) → (o : Outcome RunState ℕ) → (if true || not b then refused 30 else o) ≡ refused 30
  short true o = refl
  short false o = refl

  pub open_empty : length image ≡ 0 → PostOpen image (Err Block)
  open_empty e = record {
    is = λ lent L. by_length lent L (eq-eqb (length image) 0 e) refl ∙ short (eqb (length image % 512) 0) (if_verified (verify image 0) (from_head lent L image (head_at image)));
    then = tt;
  }

  module _ (some : length image ≡ 0 → ⊥) where
    pub open_uneven : (length image % 512 ≡ 0 → ⊥) → PostOpen image (Err Block)
    open_uneven n = record { is = λ lent L. by_length lent L (ne_eqb (length image) 0 some) (ne_eqb (length image % 512) 0 n); then = tt }

    pub open_first : length image % 512 ≡ 0 → 512 ≤ length image
    open_first e = omega arith

    module _ (whole : length image % 512 ≡ 0) {v : Result Unit Refusal} (C : verify image 0 ≡ looked_of v) where
      by_check : (lent : Lent) (L : Limits) {w : Result Unit Refusal} → v ≡ w → read lent L image ≡ if_verified (looked_of w) (from_head lent L image (head_at image))
      by_check lent L e =
          by_length lent L (ne_eqb (length image) 0 some) (eq-eqb (length image % 512) 0 whole)
          ∙ ap (λ (o : Option ℕ). if_verified o (from_head lent L image (head_at image))) (C ∙ ap looked_of e)

      pub open_damaged : {e : Refusal} → v ≡ Err e → PostOpen image (Err e)
      open_damaged e = record { is = λ lent L. by_check lent L e; then = tt }

      module _ (e : v ≡ Ok tt) {h : Head} (H : PostHead image h) {r : Bool} (F : head_fits image (head_of h) ≡ r) where
        by_head : (lent : Lent) (L : Limits) {s : Bool} → r ≡ s
            → read lent L image ≡ (if s then then_records L image (head_of h) (fresh lent h.fields) else refused 32)
        by_head lent L f =
            by_check lent L e
            ∙ ap (from_head lent L image) (sym H.is)
            ∙ ap (λ (s : Bool). if s then then_records L image (head_of h) (fresh lent h.fields) else refused 32) (F ∙ f)

        pub open_unfit : r ≡ false → PostOpen image (Err Record)
        open_unfit f = record { is = λ lent L. by_head lent L f; then = tt }

        pub open_given : r ≡ true → PostOpen image (Ok h)
        open_given f = record { is = λ lent L. by_head lent L f; then = record { some = open_first whole; is = H.is; fitting = record { fits = F ∙ f; small = H.small } } }
