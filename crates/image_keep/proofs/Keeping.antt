-- 02 (ii): "An image above 65,536 blocks, or longer than its output, meets 27, line 0, before any byte"; 02 (iv): 33 before it. The last place of a run is kept as its image, or the run is refused.
use Rattle.std.specs.Prelude.{if◌then◌else◌}
use Rattle.std.proofs.Common.{Result, Ok, Err}
use mathlib.Core.Path.{◌≡◌, refl, sym, ◌∙◌, ap, ap₂, subst}
use mathlib.Core.Bool.{Bool, false, ◌||◌}
use mathlib.Core.List.{List, [], ◌++◌}
use Prim.Native.Nat.{ℕ, ◌+◌, ◌*◌, ◌-◌, ◌≤◌, ◌<◌}
use native.Mathlib.Omega.{arith}
use lib.Dec.{ltb}
use lib.ListN.{length, get_or, drop, get_or-append}
use lib.Seq.{sets, sets-eq, length-sets, get_or-append-add, get_or-drop}
use borrow.Author.Tests.{lt-ltb, le-ltb}
use Rattle.refusal.specs.declared.Refusal.TheVariants.{Output}
use Rattle.book_steps.specs.Run as Run
use Rattle.book_steps.specs.Run.{Lent, RunState, came, refusal, success}
use Rattle.book_steps.specs.Claim.{WritesOnly}
use Rattle.book_memory.specs.declared.Setting.{Setting}
use Rattle.book_memory.specs.declared.Place.{Place}
use Rattle.book_memory.specs.Place.{place_in, setting_in}
use Rattle.book_finish.specs.declared.Stop.{Stop}
use Rattle.book_finish.specs.Clauses.{EndsBy}
use Rattle.image_save.proofs.Whole.{standing_present}
use Rattle.image_steps.specs.Image.{head_of, blocks_of, saved}
use Rattle.image_steps.specs.Calls.{has_next, Saved, saving}
use Rattle.image_steps.proofs.Calls.{saved_length}
use Rattle.image_keep.specs.Clauses.{PreKeep, PostKeep}

-- ---- bytes

unwritten : (image : List ℕ) → WritesOnly [] image image
unwritten image = record { len = refl; fits = omega arith; is = λ i l. absurd (omega arith); untouched = λ i l. refl }

sets_only : (xs image : List ℕ) → length xs ≤ length image → WritesOnly xs image (sets image 0 xs)
sets_only xs image l =
    let e : sets image 0 xs ≡ xs ++ drop (0 + length xs) image = sets-eq xs image 0 (omega arith) in
    record {
      len = length-sets image 0 xs;
      fits = l;
      is = λ i k. ap (λ (s : List ℕ). get_or s i 0) e ∙ get_or-append xs (drop (0 + length xs) image) 0 i k;
      untouched = λ i k.
          ap (λ (s : List ℕ). get_or s i 0) e
          ∙ ap (λ (j : ℕ). get_or (xs ++ drop (0 + length xs) image) j 0) {x = i} {y = length xs + (i - length xs)} (omega arith)
          ∙ get_or-append-add xs (drop (0 + length xs) image) (i - length xs) 0
          ∙ get_or-drop (0 + length xs) image (i - length xs) 0
          ∙ ap (λ (j : ℕ). get_or image j 0) {x = 0 + length xs + (i - length xs)} {y = i} (omega arith);
    }

-- ---- the three tests

module _ (lent : Lent) (size : ℕ) (S : Run.Setting) (p : RunState) where
  abbrev count : ℕ
  count = blocks_of (head_of S p)

  abbrev none : (number : ℕ) → Saved lent
  none number = record { result = refusal lent number 0 p.output; image = [] }

  abbrev whole : Saved lent
  whole = record { result = success lent p; image = saved S p }

  abbrev marked : Bool
  marked = has_next p.tables.base.aut.states.words p.tables.base.aut.states.count

  by_kinds : {b : Bool} → marked ≡ b → saving lent size (came S p) ≡ (if b then none 33 else if ltb 65536 count || ltb size (512 * count) then none 27 else whole)
  by_kinds e = ap (λ (x : Bool). if x then none 33 else if ltb 65536 count || ltb size (512 * count) then none 27 else whole) e

  by_tests : {a b : Bool} → marked ≡ false → ltb 65536 count ≡ a → ltb size (512 * count) ≡ b → saving lent size (came S p) ≡ (if a || b then none 27 else whole)
  by_tests k e f = by_kinds k ∙ ap₂ (λ (x y : Bool). if x || y then none 27 else whole) e f

  saving_many : marked ≡ false → 65536 < count → saving lent size (came S p) ≡ none 27
  saving_many k l = by_tests {b = ltb size (512 * count)} k (lt-ltb 65536 count l) refl

  saving_long : marked ≡ false → count ≤ 65536 → size < 512 * count → saving lent size (came S p) ≡ none 27
  saving_long m l k = by_tests m (le-ltb 65536 count l) (lt-ltb size (512 * count) k)

  saving_fits : marked ≡ false → count ≤ 65536 → 512 * count ≤ size → saving lent size (came S p) ≡ whole
  saving_fits m l k = by_tests m (le-ltb 65536 count l) (le-ltb size (512 * count) k)

-- ---- what is kept

-- a run in order can be kept
pub ends_kept : (w : Result Setting Stop) (x : Place) → EndsBy w x → PreKeep w x
ends_kept (Ok S) x z = standing_present z
ends_kept (Err s) x z = tt

module _ (x : Place) (image : List ℕ) where
  abbrev pub no_room : Stop
  no_room = record { refusal = Output; line = 0; length = x.output.at }

  module _ (S : Setting) where
    refused : ((lent : Lent) → saving lent (length image) (came (setting_in S x) (place_in x)) ≡ none lent (length image) (setting_in S x) (place_in x) 27)
        → PostKeep (Ok S) x (Err no_room) image image
    refused g = record {
      keeps = λ lent. record {
        result = ap (λ (s : Saved lent). s.result) (g lent);
        len = ap (λ (s : Saved lent). length s.image) (sym (g lent));
        is = subst (λ (s : Saved lent). WritesOnly s.image image image) (sym (g lent)) (unwritten image);
      };
      bytes = refl;
    }

    module _ {b : Bool} (kinds : has_next x.aut.states.words.now x.aut.states.count ≡ b) (known : b ≡ false) {n : ℕ} (count_is : n ≡ blocks_of (head_of (setting_in S x) (place_in x))) where
      pub keep_many : 65536 < n → PostKeep (Ok S) x (Err no_room) image image
      keep_many l = refused (λ lent. saving_many lent (length image) (setting_in S x) (place_in x) (kinds ∙ known) (omega (arith, count_is)))

      module _ (few : n ≤ 65536) where
        pub keep_long : length image < 512 * n → PostKeep (Ok S) x (Err no_room) image image
        keep_long l = refused (λ lent. saving_long lent (length image) (setting_in S x) (place_in x) (kinds ∙ known) (omega (arith, count_is)) (omega (arith, count_is)))

        pub keep_written : {image' : List ℕ} → 512 * n ≤ length image → image' ≡ sets image 0 (saved (setting_in S x) (place_in x)) → PostKeep (Ok S) x (Ok (512 * n)) image image'
        keep_written {image'} room W =
            let k : length (saved (setting_in S x) (place_in x)) ≡ 512 * n = saved_length (setting_in S x) (place_in x) ∙ ap (λ (b : ℕ). 512 * b) (sym count_is) in
            record {
              keeps = λ lent.
                  let g : saving lent (length image) (came (setting_in S x) (place_in x)) ≡ whole lent (length image) (setting_in S x) (place_in x)
                  = saving_fits lent (length image) (setting_in S x) (place_in x) (kinds ∙ known) (omega (arith, count_is)) (omega (arith, count_is)) in
                  record {
                    result = ap (λ (s : Saved lent). s.result) g;
                    len = sym k ∙ ap (λ (s : Saved lent). length s.image) (sym g);
                    is = subst (λ (s : Saved lent). WritesOnly s.image image image') (sym g)
                        (subst (WritesOnly (saved (setting_in S x) (place_in x)) image) (sym W) (sets_only (saved (setting_in S x) (place_in x)) image (omega (arith, k))));
                  };
              bytes = refl;
            }
