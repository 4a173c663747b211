-- 02 (ii): what is read from an image is saved to the very same bytes: no word of an image that is read is left out, and none is changed.
use mathlib.Core.Path.{◌≡◌, refl, sym, ◌∙◌, ap, ap₂, subst}
use mathlib.Core.Bool.{true, false}
use mathlib.Core.List.{List, ◌++◌}
use Prim.Native.Nat.{ℕ, zero, suc, ◌+◌, ◌*◌, ◌-◌, ◌/◌, ◌%◌, ◌≤◌, ◌<◌}
use native.Mathlib.Omega.{arith}
use lib.Dec.{eqb, ltb}
use lib.ListN.{length, get_or, get_or-eq_default}
use borrow.Author.Tests.{eqb-true, ltb-true, ltb-false}
use Rattle.common.specs.Outcome.{given}
use Rattle.sp_steps.proofs.Make.{by_test}
use Rattle.aut_steps.specs.Tables.{Limits, Aut, limits01}
use Rattle.aut_steps.proofs.Facts.{and_true}
use Rattle.book_steps.specs.Run.{Lent, RunState}
use Rattle.image_form.specs.Form.{word_at}
use Rattle.image_form.specs.Damage.{Bytes}
use Rattle.image_form.proofs.Blocks.{blocks_of_lem, blocks_same, word_small}
use Rattle.image_steps.specs.Image.{Head, head_words, word_of, image_of, head_of, body_of, saved, start_of, layout, total, reach, blocks_of}
use Rattle.image_steps.specs.Read as Read
use Rattle.image_steps.specs.Claims.{setting_at}
use Rattle.image_steps.proofs.Loops.{start1, start2, start3, start4, start5}
use Rattle.image_steps.proofs.Copies.{row_length, row_at, row_append, copied_list, Auts, members_list, states_list}
use Rattle.image_steps.proofs.Reading.{IsRead, lines_count, is_read}

unused_at : (image : List ℕ) (b j k r : ℕ) → Read.unused image b j k ≡ true → r < k → word_at image b (j + r) ≡ 0
unfolding Read.unused
unused_at image b j zero r e l = absurd (omega arith)
unused_at image b j (suc k) zero e l =
    ap (word_at image b) {x = j + 0} {y = j} (omega arith) ∙ eqb-true _ _ (and_true (eqb (word_at image b j) 0) (Read.unused image b (j + 1) k) e).0
unused_at image b j (suc k) (suc r) e l =
    ap (word_at image b) {x = j + suc r} {y = j + 1 + r} (omega arith) ∙ unused_at image b (j + 1) k r (and_true (eqb (word_at image b j) 0) (Read.unused image b (j + 1) k) e).1 (omega arith)

-- ---- word by word

module _ (lent : Lent) (L : Limits) (image : List ℕ) (p : RunState) (R : IsRead lent L image p) where
  abbrev h : Head
  h = Read.head_at image

  join : (i j k m : ℕ) → j ≡ i + k → Read.words_from image h L i k ++ Read.words_from image h L j m ≡ Read.words_from image h L i (k + m)
  join i j k m e = ap (λ (j : ℕ). Read.words_from image h L i k ++ Read.words_from image h L j m) e ∙ sym (row_append image h L k m i)

  -- the words of the place are the image's
  body_is : body_of p ≡ Read.words_from image h L 0 (total h)
  body_is =
      ap₂ (λ (a b : List ℕ). a ++ b) (copied_list image h L 2 h.fields 0 h.sp p.tables.sets R.held.sets R.opened.fits.sets)
      (ap₂ (λ (a b : List ℕ). a ++ b) (copied_list image h L 4 (3 * h.fields) (start_of 1 (layout h)) h.spp σ.nodes A.nodes R.opened.fits.relations)
      (ap₂ (λ (a b : List ℕ). a ++ b) (members_list image h L σ.members A.members ∙ ap (Read.words_from image h L (start_of 2 (layout h))) R.members_all)
      (ap₂ (λ (a b : List ℕ). a ++ b) (states_list image h L h.states σ.states A.states) R.held.lines
      ∙ join (start_of 3 (layout h)) (start_of 4 (layout h)) (4 * h.states) h.lines (sym (start4 h)))
      ∙ join (start_of 2 (layout h)) (start_of 3 (layout h)) h.members _ (omega (arith, start3 h)))
      ∙ join (start_of 1 (layout h)) (start_of 2 (layout h)) (4 * h.spp) _ (sym (start2 h)))
      ∙ join 0 (start_of 1 (layout h)) (2 * h.sp) _ (sym (start1 h))
      ∙ ap (Read.words_from image h L 0) {x = 2 * h.sp + (4 * h.spp + (h.members + (4 * h.states + h.lines)))} (omega (arith, start1 h, start2 h, start3 h, start4 h, start5 h))
    where
      σ : Aut
      σ = p.tables.base.aut

      A : Auts image h L (3 * h.fields) h.spp h.states σ
      A = R.held.auts

  body_word : (b j : ℕ) → suc b < blocks_of h → j < 127 → word_at image (suc b) j ≡ get_or (body_of p) (127 * b + j) 0
  body_word b j l m = by_test (ltb (127 * b + j) n) used free
    where
      n : ℕ
      n = total h

      used : ltb (127 * b + j) n ≡ true → word_at image (suc b) j ≡ get_or (body_of p) (127 * b + j) 0
      used e =
          ap₂ (word_at image) {y = 1 + (127 * b + j) / 127} {v = (127 * b + j) % 127} (omega arith) (omega arith)
          ∙ sym (ap (λ (s : List ℕ). get_or s (127 * b + j) 0) body_is ∙ row_at image h L n 0 (127 * b + j) (ltb-true _ _ e) ∙ ap (Read.word image h L) (omega arith))

      free : ltb (127 * b + j) n ≡ false → word_at image (suc b) j ≡ get_or (body_of p) (127 * b + j) 0
      free e =
          let a : n ≤ 127 * b + j = ltb-false _ _ e in
          let r : reach n ≡ suc b = omega arith in
          ap₂ (word_at image) {y = reach n} {v = n - 127 * (reach n - 1) + (j - (n - 127 * (reach n - 1)))} (sym r) (omega arith)
          ∙ unused_at image (reach n) (n - 127 * (reach n - 1)) (127 * reach n - n) (j - (n - 127 * (reach n - 1))) R.rest (omega arith)
          ∙ sym (get_or-eq_default (body_of p) 0 {n = 127 * b + j} (subst (λ (s : List ℕ). length s ≤ 127 * b + j) (sym body_is) (omega (arith, row_length image h L n 0))))

  -- a budget's two words
  high_low : (a b : ℕ) → b < 4294967296 → ((4294967296 * a + b) / 4294967296 ≡ a) × ((4294967296 * a + b) % 4294967296 ≡ b)
  high_low a b l = (omega arith, omega arith)

  module _ (B : Bytes image) where
    head_word : (j : ℕ) → j < 127 → word_at image 0 j ≡ get_or (head_words h) j 0
    unfolding Read.head_at
    head_word zero l = refl
    head_word (suc zero) l = sym (high_low (word_at image 0 1) (word_at image 0 2) (word_small image 0 2 B)).0
    head_word (suc (suc zero)) l = sym (high_low (word_at image 0 1) (word_at image 0 2) (word_small image 0 2 B)).1
    head_word (suc (suc (suc zero))) l = refl
    head_word (suc (suc (suc (suc zero)))) l = refl
    head_word (suc (suc (suc (suc (suc zero))))) l = refl
    head_word (suc (suc (suc (suc (suc (suc zero)))))) l = refl
    head_word (suc (suc (suc (suc (suc (suc (suc zero))))))) l = refl
    head_word (suc (suc (suc (suc (suc (suc (suc (suc j)))))))) l =
        ap (word_at image 0) {y = 8 + j} (omega arith) ∙ unused_at image 0 8 119 j R.opened.fits.blank (omega arith)

    words_same : (b j : ℕ) → b < blocks_of h → j < 127 → word_of h (body_of p) b j ≡ word_at image b j
    words_same zero j l m = sym (head_word j m)
    words_same (suc b) j l m = sym (body_word b j l m)

    image_is : image_of h (body_of p) ≡ image
    unfolding image_of
    image_is = blocks_same (word_of h (body_of p)) (word_at image) (blocks_of h) words_same ∙ sym (blocks_of_lem image (blocks_of h) B R.long R.taken)

  head_is : head_of (setting_at lent image) p ≡ h
  head_is =
      let a : p.tables.sets.count ≡ h.sp = omega (arith, R.held.sets.count, R.opened.fits.sets) in
      let b : p.tables.base.aut.nodes.count ≡ h.spp = omega (arith, R.held.auts.nodes.count, R.opened.fits.relations) in
      let c : p.tables.base.aut.members.count ≡ h.members = R.members_all in
      let d : p.tables.base.aut.states.count ≡ h.states = R.held.auts.states.count in
      let e : length p.lines ≡ h.lines = lines_count lent L image R in
      λ i. record { fields = h.fields; budget = h.budget; sp = a i; spp = b i; members = c i; states = d i; lines = e i }

-- ---- what is claimed

pub saved_again : (lent : Lent) (image : List ℕ) (p : RunState) (x : ℕ) → Bytes image → Read.read lent limits01 image ≡ given p x → saved (setting_at lent image) p ≡ image
unfolding saved
saved_again lent image p x B e =
    let R = is_read limits01 (omega arith) lent image e in
    ap (λ (h : Head). image_of h (body_of p)) (head_is lent limits01 image p R) ∙ image_is lent limits01 image p R B
