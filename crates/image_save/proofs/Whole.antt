-- 02 (ii), "Write the tables to an image": all blocks have room, and together they are the image of the place. What is asked is what a place in order has (book_memory: `Standing`).
use mathlib.Core.Path.{◌≡◌, ◌∙◌, ap}
use mathlib.Core.List.{List}
use Prim.Native.Nat.{ℕ, ◌*◌, ◌≤◌, ◌<◌}
use native.Mathlib.Omega.{arith}
use lib.ListN.{length}
use lib.Seq.{sets}
use Rattle.image_form.specs.Form.{blocks}
use Rattle.image_steps.specs.Image as Image
use Rattle.image_steps.specs.Image.{blocks_of, body_of, image_of, saved}
use Rattle.book_memory.specs.declared.Setting.{Setting}
use Rattle.book_memory.specs.declared.Place.{Place}
use Rattle.book_memory.specs.Place.{place_in, setting_in, Standing}
use Rattle.image_words.specs.declared.Head.{Head}
use Rattle.image_words.specs.Clauses.{Small}
use Rattle.image_words.specs.Clauses.{head_of as read_of}
use Rattle.image_save.specs.Clauses.{Present, HeadOf, head_in, PreBlock, PreWrite, PostWrite, word_in}
use Rattle.image_save.proofs.Bytes.{Blocked}

module _ (h : Head) (x : Place) (image : List ℕ) {n : ℕ} (blocks_are : n ≡ blocks_of (read_of h)) where
  pub block_ready : PreWrite h x image → (s : List ℕ) (b : ℕ) → Blocked (word_in h x) n image s b → b < n → PreBlock x h b s
  block_ready P s b v l = record { present = P.present; small = P.small; few = omega (arith, blocks_are, P.few); room = omega (arith, blocks_are, P.room, v.len) }

  pub image_is : (s : List ℕ) → s ≡ sets image 0 (blocks (word_in h x) 0 n) → PostWrite h x image s
  unfolding image_of
  image_is s e = e ∙ ap (λ (k : ℕ). sets image 0 (blocks (word_in h x) 0 k)) blocks_are

  pub writes : Present x → Small h → n ≤ 65536 → 512 * n ≤ length image → PreWrite h x image
  writes P small few room = record { present = P; small = small; few = omega (arith, blocks_are); room = omega (arith, blocks_are) }

-- with what block 0 says of the place
module _ (S : Setting) (x : Place) {h : Head} (H : HeadOf S x h) where
  pub count_is : {n : ℕ} → n ≡ blocks_of (read_of h) → n ≡ blocks_of (head_in S x)
  count_is e = e ∙ ap blocks_of H.is

  pub saves : (image : List ℕ) {image' : List ℕ} → PostWrite h x image image' → image' ≡ sets image 0 (saved (setting_in S x) (place_in x))
  unfolding saved
  saves image w = w ∙ ap (λ (g : Image.Head). sets image 0 (image_of g (body_of (place_in x)))) H.is

-- ---- a place in order

pub standing_present : {S : Setting} {x : Place} → Standing S x → Present x
standing_present {S} {x} Z = record {
  few = record {
    sp = Z.ready.ordered.sets.small;
    spp = Z.ready.ready.good.nodes.nodes.small;
    members = Z.ready.ready.good.members_small;
    states = Z.ready.ready.good.small;
    lines = Z.lines;
  };
  sp = Z.ready.ordered.sets.fits;
  spp = Z.ready.ready.good.nodes.nodes.fits;
  members = Z.ready.ready.good.members_fit;
  states = Z.ready.ready.good.fits;
  lines = omega (arith, Z.lines, Z.table);
}
