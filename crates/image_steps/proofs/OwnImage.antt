-- 02 (ii), the words of an own image, as they are read: block 0 is its head, the records have their words, every block passes its check, unused words are 0.
use Rattle.std.specs.Prelude.{if◌then◌else◌}
use mathlib.Core.Path.{◌≡◌, refl, ◌∙◌, ap, ap₂, subst}
use mathlib.Core.Bool.{Bool, true, false, ◌&&◌}
use mathlib.Core.List.{List, [], ◌∷◌}
use mathlib.Core.Option.{Option, none}
use Prim.Native.Nat.{ℕ, zero, suc, ◌+◌, ◌*◌, ◌-◌, ◌/◌, ◌%◌, ◌≤◌, ◌<◌}
use native.Mathlib.Omega.{arith}
use lib.Dec.{eqb, ltb}
use lib.ListN.{length, get_or, get_or-eq_default}
use borrow.Author.Tests.{eqb-true, eqb-false, eq-eqb, le-leb}
use Rattle.common.specs.Outcome.{given, return}
use Rattle.spp_steps.proofs.Laws.{by_test}
use Rattle.aut_steps.specs.Tables.{Limits, limits01, Aut}
use Rattle.aut_steps.specs.Ascending.{All}
use Rattle.aut_steps.specs.Wf.{states, WfAut}
use Rattle.sp_steps.specs.Wf as SpWf
use Rattle.aut_query_steps.specs.Tables.{WfTables}
use Rattle.book_steps.specs.Run.{Lent, Setting, RunState}
use Rattle.image_form.specs.Form.{word_at, verify}
use Rattle.image_form.proofs.Blocks.{blocks_length, blocks_word, blocks_verify}
use Rattle.image_steps.specs.Image.{Head, head_words, total, reach, blocks_of, word_of, image_of, head_of, body_of, saved}
use Rattle.image_steps.specs.Read.{head_at, unused, head_fits, word, looked, enter}
use Rattle.image_steps.specs.Claims.{OwnPlace}
use Rattle.image_steps.proofs.OwnBody.{WORD, Words, body_length, body_words}

words_all : (xs : List ℕ) → All (λ v. v < WORD) xs → Words xs
words_all [] a i = omega arith
words_all (x ∷ xs) a zero = a.0
words_all (x ∷ xs) a (suc i) = words_all xs a.1 i

module _ (S : Setting) (lent : Lent) (p : RunState) (own : OwnPlace S lent p) where
  abbrev image : List ℕ
  image = saved S p

  abbrev h : Head
  h = head_of S p

  abbrev body : List ℕ
  body = body_of p

  abbrev σ : Aut
  σ = p.tables.base.aut

  pub ordered : WfTables S.fields limits01 p.tables
  ordered = subst (λ (L : Limits). WfTables S.fields L p.tables) own.limits own.in_order.ordered

  pub good : WfAut S.fields limits01 σ
  good = ordered.worked.good

  pub sets : SpWf.Wf S.fields p.tables.sets
  sets = ordered.sets

  words_body : Words body
  words_body = body_words S limits01 p sets good (omega arith) own.in_order.tables.matched

  length_body : length body ≡ total h
  length_body = body_length S limits01 p sets good

  words_head : Words (head_words h)
  words_head =
      words_all (head_words h) (
        omega (arith, own.fields),
        (
          omega (arith, own.budget),
          (
            omega arith,
            (
              omega (arith, sets.small),
              (omega (arith, good.nodes.nodes.small), (omega (arith, good.members_small), (omega (arith, good.small), (omega (arith, own.lines), tt)))),
            ),
          ),
        ),
      )

  words_of : (b j : ℕ) → word_of h body b j < WORD
  words_of zero j = words_head j
  words_of (suc b) j = words_body (127 * b + j)

  pub image_length : length image ≡ 512 * blocks_of h
  unfolding saved image_of
  image_length = blocks_length (word_of h body) 0 (blocks_of h)

  pub verified : (b : ℕ) → b < blocks_of h → verify image b ≡ none
  unfolding saved image_of
  verified b l = blocks_verify (word_of h body) (blocks_of h) b own.few l (λ j m. words_of b j)

  at : (b j : ℕ) → b < blocks_of h → j < 127 → word_at image b j ≡ word_of h body b j
  unfolding saved image_of
  at b j l m = blocks_word (word_of h body) (blocks_of h) b j l m (words_of b j)

  -- word i of the records
  pub word_is : (h' : Head) (L : Limits) (i : ℕ) → i < total h → word image h' L i ≡ get_or body i 0
  word_is h' L i l =
      at (1 + i / 127) (i % 127) (omega arith) (omega arith)
      ∙ ap (λ (b : ℕ). word_of h body b (i % 127)) {x = 1 + i / 127} {y = suc (i / 127)} (omega arith)
      ∙ ap (λ (j : ℕ). get_or body j 0) {x = 127 * (i / 127) + i % 127} {y = i} (omega arith)

  pub head_is : head_at image ≡ h
  unfolding head_at
  head_is = λ i. record { fields = w 0 (omega arith) i; budget = b i; sp = w 3 (omega arith) i; spp = w 4 (omega arith) i; members = w 5 (omega arith) i; states = w 6 (omega arith) i; lines = w 7 (omega arith) i }
    where
      w : (j : ℕ) → j < 127 → word_at image 0 j ≡ word_of h body 0 j
      w j l = at 0 j (omega arith) l

      b : 4294967296 * word_at image 0 1 + word_at image 0 2 ≡ S.budget
      b = omega (arith, w 1 (omega arith), w 2 (omega arith))

  -- words of which those that are written are 0
  unused_is : (b j k : ℕ) → b < blocks_of h → j + k ≤ 127 → ((i : ℕ) → j ≤ i → i < 127 → word_of h body b i ≡ 0) → unused image b j k ≡ true
  unfolding unused
  unused_is b j zero l m f = refl
  unused_is b j (suc k) l m f = ap₂ ◌&&◌ (eq-eqb (word_at image b j) 0 (at b j l (omega arith) ∙ f j (omega arith) (omega arith))) (unused_is b (j + 1) k l (omega arith) (λ i a c. f i (omega arith) c))

  head_unused : unused image 0 8 119 ≡ true
  head_unused = unused_is 0 8 119 (omega arith) (omega arith) (λ i l m. get_or-eq_default (head_words h) 0 {n = i} l)

  pub fits : head_fits image h ≡ true
  unfolding head_fits
  fits =
      ap₂ ◌&&◌ (le-leb _ _ own.fields) (ap₂ ◌&&◌ (le-leb _ _ sets.small) (ap₂ ◌&&◌ (le-leb _ _ good.nodes.nodes.small) (ap₂ ◌&&◌ (le-leb _ _ good.members_small)
      (ap₂ ◌&&◌ (le-leb _ _ good.small) (ap₂ ◌&&◌ (le-leb _ _ own.lines) (ap₂ ◌&&◌ head_unused
      (ap₂ ◌&&◌ (le-leb _ _ sets.many) (ap₂ ◌&&◌ (le-leb _ _ good.nodes.fixed.many) (eq-eqb (length image / 512) (blocks_of h) (omega (arith, image_length)))))))))))

  -- behind the last record
  pub rest_unused : unused image (reach (total h)) (total h - 127 * (reach (total h) - 1)) (127 * reach (total h) - total h) ≡ true
  unfolding unused
  rest_unused =
      by_test (eqb (total h) 0)
      (λ e. let t : total h ≡ 0 = eqb-true (total h) 0 e in
      ap (unused image (reach (total h)) (total h - 127 * (reach (total h) - 1))) {x = 127 * reach (total h) - total h} {y = 0} (omega arith))
      (λ e. let t : 0 < total h = omega (arith, eqb-false (total h) 0 e) in
      unused_is (reach (total h)) (total h - 127 * (reach (total h) - 1)) (127 * reach (total h) - total h) (omega arith) (omega arith)
      (λ i l m. ap (λ (b : ℕ). word_of h body b i) {x = reach (total h)} {y = suc (reach (total h) - 1)} (omega arith)
      ∙ get_or-eq_default body 0 {n = 127 * (reach (total h) - 1) + i} (omega (arith, length_body))))

  -- a record that ends within the image passes the block that it ends in
  pub entered : (h' : Head) (L : Limits) (s size : ℕ) → s + size ≤ total h → (q : RunState) → enter image h' L s size q ≡ given q 0
  unfolding enter
  entered h' L s size l q = go (ltb (reach s) (reach (s + size)))
    where
      go : (c : Bool) → (if c then looked image h' L (verify image (reach (s + size))) else return 0) q ≡ given q 0
      go true = ap (λ (o : Option ℕ). looked image h' L o q) (verified (reach (s + size)) (omega arith))
      go false = refl
