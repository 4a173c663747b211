-- 02 (ii), "each record again by its constructor .. and wants the same number", of packet nodes of an own image: the nodes of tables in order, made one after another from the constants on, are made as they were.
use Rattle.std.specs.Prelude.{if◌then◌else◌}
use mathlib.Core.Path.{◌≡◌, refl, sym, ◌∙◌, ap, ap₂, subst}
use mathlib.Core.Bool.{Bool, true, false, ◌&&◌}
use mathlib.Core.List.{List, [], ◌∷◌}
use mathlib.Core.Logic.{⊎_elim}
use Prim.Native.Nat.{ℕ, zero, suc, ◌+◌, ◌*◌, ◌-◌, ◌/◌, ◌%◌, ◌≤◌, ◌<◌, max}
use native.Mathlib.Omega.{arith}
use native.Mathlib.Nat.{eq-or-lt_of_le, le_trans}
use native.Mathlib.Numerals.{add-one}
use lib.Dec.{ltb}
use lib.ListN.{length, get_or, set, take, length-replicate, get_or-eq_default}
use lib.Seq.{get_or-take, length-take-le}
use borrow.Author.Tests.{eq-eqb, lt-ltb, le-ltb, le-leb, ltb-true, ltb-false}
use Rattle.common.specs.Outcome.{Outcome, refused, given}
use Rattle.common.proofs.Follow.{given_of}
use Rattle.common.specs.Runs.{Table, table}
use Rattle.sp_steps.specs.Word.{flip}
use Rattle.sp_steps.proofs.Word.{flip_half}
use Rattle.sp_steps.specs.Model.{kid, child, seek, room, put, put_if, found_if, handle, mk, most, zero_at, constants}
use Rattle.sp_steps.specs.Wf.{Wf, ValidAt, Level, Below}
use Rattle.sp_steps.specs.Make.{side}
use Rattle.sp_steps.proofs.Make.{by_test, false_true, same_kids, kids_same, seek_hit, seek_miss}
use Rattle.sp_steps.proofs.Start.{Begun, begun, begun_refused}
use Rattle.aut_steps.specs.Tables.{words}
use Rattle.book_steps.specs.Run.{zeroed}
use Rattle.image_steps.specs.Records.{depth_of, node_fits, node}
use Rattle.image_steps.proofs.Depths.{valid_depth_set}
use Rattle.image_steps.proofs.Nodes.{seek_most, kids_words, mk_at}
use Rattle.image_steps.proofs.Lists.{filled, get_or_zeroed, get_or_filled, length_filled, filled_is, filled_sets, take_words}

-- the first n of σ's nodes, in a table of `size` words
abbrev pub nodes_to : (size : ℕ) → Table → ℕ → Table
nodes_to size σ n = table (filled size (take (2 * n) σ.words)) n

module _ (N size : ℕ) (σ : Table) (wf : Wf N σ) (fits : 2 * σ.count ≤ size) where
  abbrev at : ℕ → Table
  at n = nodes_to size σ n

  long : (n : ℕ) → n ≤ σ.count → length (take (2 * n) σ.words) ≡ 2 * n
  long n l = length-take-le (2 * n) σ.words (omega (arith, wf.fits))

  at_length : (n : ℕ) → n ≤ σ.count → length (at n).words ≡ size
  at_length n l = length_filled size (take (2 * n) σ.words) (omega (arith, long n l))

  kid_at : (n : ℕ) (b : Bool) (i : ℕ) → i < n → kid (at n).words b i ≡ kid σ.words b i
  unfolding kid
  kid_at n false i l = get_or_filled size (take (2 * n) σ.words) (2 * i) ∙ get_or-take (2 * n) σ.words (2 * i) 0 (omega arith)
  kid_at n true i l = get_or_filled size (take (2 * n) σ.words) (2 * i + 1) ∙ get_or-take (2 * n) σ.words (2 * i + 1) 0 (omega arith)

  -- a handle of a node that is there
  valid_at : (n : ℕ) → n ≤ σ.count → (d h : ℕ) → h / 2 ≤ n → ValidAt σ d h → ValidAt (at n) d h
  unfolding child
  valid_at n l zero h q a = a
  valid_at n l (suc d) h q a = (
    a.0,
    q,
    λ b.
        let low : h / 2 - 1 < n = omega (arith, a.0) in
        subst (ValidAt (at n) d) (ap (flip (h % 2)) (sym (kid_at n b (h / 2 - 1) low)))
        (valid_at n l d (flip (h % 2) (kid σ.words b (h / 2 - 1))) (omega (arith, flip_half (h % 2) (kid σ.words b (h / 2 - 1)), wf.rising b (h / 2 - 1) (le_trans low l))) (a.2 b)),
  )

  -- the search for node i among the first n finds it, or would put it there
  seek_at : (n i : ℕ) → n ≤ σ.count → i ≤ n → i < σ.count → seek (at n).words (kid σ.words false i) (kid σ.words true i) 0 n ≡ i
  seek_at n i l m c =
      by_test (ltb j n)
      (λ e. let j-n : j < n = ltb-true j n e in
      wf.once j i (le_trans j-n l) c (λ b. sym (kid_at n b j j-n) ∙ same_kids (at n).words x y j (seek_hit (at n).words x y 0 n (omega arith)) b ∙ sides b))
      (λ e. ⊎_elim
      (λ q. omega (arith, ltb-false j n e, seek_most (at n).words x y 0 n))
      (λ q. absurd (false_true (sym (seek_miss (at n).words x y 0 n (omega (arith, ltb-false j n e)) i (omega arith) (omega arith)) ∙ kids_same (at n).words x y i (λ b. kid_at n b i q ∙ sym (sides b)))))
      (eq-or-lt_of_le m))
    where
      x : ℕ
      x = kid σ.words false i

      y : ℕ
      y = kid σ.words true i

      j : ℕ
      j = seek (at n).words x y 0 n

      sides : (b : Bool) → side b x y ≡ kid σ.words b i
      sides false = refl
      sides true = refl

  fits_at : (n i : ℕ) → n ≤ σ.count → i ≤ n → i < σ.count → node_fits N (at n) i (kid σ.words false i) (kid σ.words true i) ≡ true
  unfolding node_fits
  fits_at n i l m c =
      let v : Level (Below N) σ i = wf.level i c in
      let r0 : kid σ.words false i / 2 ≤ i = wf.rising false i c in
      let r1 : kid σ.words true i / 2 ≤ i = wf.rising true i c in
      let lo : v.depth < N = v.low in
      let d0 = valid_depth_set (at n) N v.depth (kid σ.words false i) (omega arith) (valid_at n l v.depth (kid σ.words false i) (omega arith) (v.children false)) in
      let d1 = valid_depth_set (at n) N v.depth (kid σ.words true i) (omega arith) (valid_at n l v.depth (kid σ.words true i) (omega arith) (v.children true)) in
      ap₂ ◌&&◌ (le-leb _ _ r0) (ap₂ ◌&&◌ (le-leb _ _ r1)
      (ap₂ ◌&&◌ (lt-ltb (depth_of (at n).words N (kid σ.words false i)) N (omega (arith, d0))) (ap₂ ◌&&◌ (eq-eqb _ _ (d0 ∙ sym d1))
      (ap₂ ◌&&◌ (eq-eqb _ _ (wf.even i c)) (eq-eqb _ _ (seek_at n i l m c))))))

  -- what `mk` then comes to
  made_at : (n i : ℕ) → n ≤ σ.count → i ≤ n → i < σ.count
      → node N i (kid σ.words false i) (kid σ.words true i) (at n) ≡ found_if (ltb i n) i 0 (kid σ.words false i) (kid σ.words true i) (at n)
  unfolding node
  made_at n i l m c =
      ap (λ (c : Bool). if c then mk (kid σ.words false i) (kid σ.words true i) (at n) else refused 32) (fits_at n i l m c)
      ∙ mk_at i (kid σ.words false i) (kid σ.words true i) (at n) (wf.even i c) (seek_at n i l m c)

  -- it is there already: a constant
  again : (n i : ℕ) → n ≤ σ.count → i < n → node N i (kid σ.words false i) (kid σ.words true i) (at n) ≡ given (at n) (handle 0 i)
  again n i l m = made_at n i l (omega arith) (omega arith) ∙ ap (λ (c : Bool). found_if c i 0 (kid σ.words false i) (kid σ.words true i) (at n)) (lt-ltb i n m)

  room_at : (n : ℕ) → n < σ.count → room (at n) ≡ true
  unfolding room
  room_at n l = ap₂ ◌&&◌ (lt-ltb n (length (at n).words / 2) (omega (arith, at_length n (omega arith)))) (lt-ltb n most (le_trans l wf.small))

  put_at : (n : ℕ) → n < σ.count → put (kid σ.words false n) (kid σ.words true n) (at n) ≡ at (n + 1)
  unfolding put kid words
  put_at n l =
      ap (λ (t : List ℕ). table t (n + 1))
      (ap (λ (j : ℕ). set (set (at n).words (2 * n) x) j y) (add-one (2 * n))
      ∙ filled_sets size (take (2 * n) σ.words) (x ∷ y ∷ []) (2 * n) (long n (omega arith)) (omega arith)
      ∙ ap (filled size) (take_words σ.words (2 * n) 2 (omega (arith, wf.fits)) ∙ ap (λ (j : ℕ). take j σ.words) {x = 2 * n + 2} {y = 2 * (n + 1)} (omega arith)))
    where
      x : ℕ
      x = get_or σ.words (2 * n) 0

      y : ℕ
      y = get_or σ.words (2 * n + 1) 0

  -- node n, made after those before it
  next : (n : ℕ) → n < σ.count → node N n (kid σ.words false n) (kid σ.words true n) (at n) ≡ given (at (n + 1)) (handle 0 n)
  next n l =
      made_at n n (omega arith) (omega arith) l
      ∙ ap (λ (c : Bool). found_if c n 0 x y (at n)) (le-ltb n n (omega arith))
      ∙ ap (λ (c : Bool). put_if c 0 x y (at n)) (room_at n l)
      ∙ ap (λ (t : Table). given t (handle 0 n)) (put_at n l)
    where
      x : ℕ
      x = kid σ.words false n

      y : ℕ
      y = kid σ.words true n

  pub node_made : (i : ℕ) → i < σ.count → node N i (kid σ.words false i) (kid σ.words true i) (at (max N i)) ≡ given (at (max N (i + 1))) (handle 0 i)
  node_made i l =
      by_test (ltb i N)
      (λ e. let m : i < N = ltb-true i N e in
      ap (λ (n : ℕ). node N i x y (at n)) {x = max N i} {y = N} (omega arith) ∙ again N i wf.many m ∙ ap (λ (n : ℕ). given (at n) (handle 0 i)) {x = N} {y = max N (i + 1)} (omega arith))
      (λ e. let m : N ≤ i = ltb-false i N e in
      ap (λ (n : ℕ). node N i x y (at n)) {x = max N i} {y = i} (omega arith) ∙ next i l ∙ ap (λ (n : ℕ). given (at n) (handle 0 i)) {x = i + 1} {y = max N (i + 1)} (omega arith))
    where
      x : ℕ
      x = kid σ.words false i

      y : ℕ
      y = kid σ.words true i

  -- a new book's constants are the first N nodes
  pub constants_made : constants N (table (zeroed size) 0) ≡ given (at N) (zero_at N)
  constants_made = go (constants N (table (zeroed size) 0)) refl
    where
      same_words_lem : (τ : Table) {h : ℕ} → Begun N (table (zeroed size) 0) τ h → τ.words ≡ (at N).words
      same_words_lem τ B =
          filled_is size (take (2 * N) σ.words) τ.words (omega (arith, long N wf.many, wf.many)) (B.later.len ∙ length-replicate size 0)
          (λ i. by_test (ltb i (2 * N))
          (λ e. let l : i < 2 * N = ltb-true i (2 * N) e in
          kids_words τ.words σ.words N (λ b k m. B.wf.const k m b ∙ sym (wf.const k m b)) i l ∙ sym (get_or-take (2 * N) σ.words i 0 l))
          (λ e. let l : 2 * N ≤ i = ltb-false i (2 * N) e in
          B.later.beyond i (omega (arith, B.count_is)) ∙ get_or_zeroed size i ∙ sym (get_or-eq_default (take (2 * N) σ.words) 0 (omega (arith, long N wf.many)))))

      go : (o : Outcome Table ℕ) → constants N (table (zeroed size) 0) ≡ o → o ≡ given (at N) (zero_at N)
      go (refused number) e = absurd (⊎_elim (λ l. omega (arith, wf.many, length-replicate {A = ℕ} size 0)) (λ l. omega (arith, wf.many, wf.small)) (begun_refused N (zeroed size) number e).1)
      go (given τ h) e =
          let B : Begun N (table (zeroed size) 0) τ h = given_of (begun N (zeroed size)) e in
          ap₂ given (ap₂ table (same_words_lem τ B) B.count_is) B.zero_is
