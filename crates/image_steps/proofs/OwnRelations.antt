-- 02 (ii), "each record again by its constructor", of relation nodes of an own image: the nodes of tables in order, made one after another from the constants on, are made as they were (as OwnNodes shows of packet nodes).
use Rattle.std.specs.Prelude.{if◌then◌else◌}
use mathlib.Core.Path.{◌≡◌, refl, sym, ◌∙◌, ap, ap₂, subst}
use mathlib.Core.Bool.{Bool, true, false, ◌&&◌}
use mathlib.Core.List.{List, [], ◌∷◌, ◌++◌}
use mathlib.Core.Logic.{⊎_elim}
use Prim.Native.Nat.{ℕ, zero, suc, ◌+◌, ◌*◌, ◌-◌, ◌/◌, ◌≤◌, ◌<◌, max}
use native.Mathlib.Omega.{arith}
use native.Mathlib.Nat.{eq-or-lt_of_le, le_trans}
use lib.Dec.{ltb}
use lib.ListN.{length, get_or, take, length-replicate, get_or-eq_default}
use lib.Seq.{get_or-take, length-take-le}
use borrow.Author.Tests.{eq-eqb, lt-ltb, le-ltb, ltb-true, ltb-false}
use Rattle.common.specs.Outcome.{Outcome, refused, given}
use Rattle.common.proofs.Follow.{given_of}
use Rattle.common.specs.Runs.{Table, table}
use Rattle.spp_steps.specs.Model.{Quad, quad, kid, kids, seek, cap, room, put, put_if, found_if, mk, Constants, constants}
use Rattle.spp_steps.specs.Wf.{Wf, ValidAt, Level}
use Rattle.spp_steps.proofs.Laws.{by_test, false_true}
use Rattle.spp_steps.proofs.Make.{same_kids, kids_same, seek_hit, seek_miss}
use Rattle.spp_steps.proofs.Begin.{Begun, begun, begun_refused}
use Rattle.aut_steps.specs.Tables.{words}
use Rattle.book_steps.specs.Run.{zeroed}
use Rattle.image_steps.specs.Records.{depth_of_r, kid_fits, relation_fits, relation}
use Rattle.image_steps.proofs.Depths.{valid_depth}
use Rattle.image_steps.proofs.Nodes.{seek_r_most, kids_r_words, mk_r_at}
use Rattle.image_steps.proofs.Lists.{filled, get_or_zeroed, get_or_filled, length_filled, filled_is, filled_sets, take_words, set4, words4}

-- the four words of node k
abbrev pub quad_at : List ℕ → ℕ → Quad
quad_at t k = quad (get_or t (4 * k) 0) (get_or t (4 * k + 1) 0) (get_or t (4 * k + 2) 0) (get_or t (4 * k + 3) 0)

kid_quad : (t : List ℕ) (k : ℕ) (i j : Bool) → kid t k i j ≡ quad_at t k i j
unfolding kid
kid_quad t k false false = refl
kid_quad t k false true = refl
kid_quad t k true false = refl
kid_quad t k true true = refl

-- the first n of σ's nodes, in a table of `size` words
abbrev pub relations_to : (size : ℕ) → Table → ℕ → Table
relations_to size σ n = table (filled size (take (4 * n) σ.words)) n

module _ (N size : ℕ) (σ : Table) (wf : Wf N σ) (fits : 4 * σ.count ≤ size) where
  abbrev at : ℕ → Table
  at n = relations_to size σ n

  long : (n : ℕ) → n ≤ σ.count → length (take (4 * n) σ.words) ≡ 4 * n
  long n l = length-take-le (4 * n) σ.words (omega (arith, wf.nodes.fits))

  at_length : (n : ℕ) → n ≤ σ.count → length (at n).words ≡ size
  at_length n l = length_filled size (take (4 * n) σ.words) (omega (arith, long n l))

  kid_at : (n k : ℕ) → k < n → (i j : Bool) → kid (at n).words k i j ≡ kid σ.words k i j
  kid_at n k l i j = kid_quad (at n).words k i j ∙ go i j ∙ sym (kid_quad σ.words k i j)
    where
      of : (w : ℕ) → w < 4 * n → get_or (at n).words w 0 ≡ get_or σ.words w 0
      of w m = get_or_filled size (take (4 * n) σ.words) w ∙ get_or-take (4 * n) σ.words w 0 m

      go : (i j : Bool) → quad_at (at n).words k i j ≡ quad_at σ.words k i j
      go false false = of (4 * k) (omega arith)
      go false true = of (4 * k + 1) (omega arith)
      go true false = of (4 * k + 2) (omega arith)
      go true true = of (4 * k + 3) (omega arith)

  -- a handle of a node that is there
  pub valid_at : (n : ℕ) → n ≤ σ.count → (d h : ℕ) → h < n + 2 → ValidAt σ d h → ValidAt (at n) d h
  unfolding kids
  valid_at n l zero h q a = a
  valid_at n l (suc d) h q a = (
    a.0,
    q,
    λ i j.
        let low : h - 2 < n = omega (arith, a.0) in
        subst (ValidAt (at n) d) (sym (kid_at n (h - 2) low i j))
        (valid_at n l d (kid σ.words (h - 2) i j) (omega (arith, wf.nodes.rising (h - 2) (le_trans low l) i j)) (a.2 i j)),
  )

  -- the search for node i among the first n finds it, or would put it there
  seek_at : (n i : ℕ) → n ≤ σ.count → i ≤ n → i < σ.count → seek (at n).words (quad_at σ.words i) 0 n ≡ i
  seek_at n i l m c =
      by_test (ltb j n)
      (λ e. let j-n : j < n = ltb-true j n e in
      wf.nodes.once j i (le_trans j-n l) c (λ a b. sym (kid_at n j j-n a b) ∙ same_kids (at n).words X j (seek_hit (at n).words X 0 n (omega arith)) a b ∙ sym (kid_quad σ.words i a b)))
      (λ e. ⊎_elim
      (λ q. omega (arith, ltb-false j n e, seek_r_most (at n).words X 0 n))
      (λ q. absurd (false_true (sym (seek_miss (at n).words X 0 n (omega (arith, ltb-false j n e)) i (omega arith) (omega arith)) ∙ kids_same (at n).words X i (λ a b. kid_at n i q a b ∙ kid_quad σ.words i a b))))
      (eq-or-lt_of_le m))
    where
      X : Quad
      X = quad_at σ.words i

      j : ℕ
      j = seek (at n).words X 0 n

  fits_at : (n i : ℕ) → n ≤ σ.count → i ≤ n → i < σ.count → relation_fits N (at n) i (quad_at σ.words i) ≡ true
  unfolding relation_fits
  fits_at n i l m c =
      ap₂ ◌&&◌ (lt-ltb d N (omega (arith, d_is, v.low)))
      (ap₂ ◌&&◌ (of false false) (ap₂ ◌&&◌ (of false true) (ap₂ ◌&&◌ (of true false) (ap₂ ◌&&◌ (of true true) (eq-eqb _ _ (seek_at n i l m c))))))
    where
      X : Quad
      X = quad_at σ.words i

      d : ℕ
      d = depth_of_r (at n).words N (X false false)

      v : Level N σ i
      v = wf.level i c

      low : (a b : Bool) → X a b < i + 2
      low a b = omega (arith, kid_quad σ.words i a b, wf.nodes.rising i c a b)

      deep : (a b : Bool) → depth_of_r (at n).words N (X a b) ≡ v.depth
      deep a b =
          valid_depth (at n) N v.depth (X a b) (omega (arith, v.low)) (valid_at n l v.depth (X a b) (omega (arith, low a b)) (subst (ValidAt σ v.depth) (kid_quad σ.words i a b) (v.children a b)))

      d_is : d ≡ v.depth
      d_is = deep false false

      of : (a b : Bool) → kid_fits N (at n).words i d (X a b) ≡ true
      of a b = ap₂ ◌&&◌ (lt-ltb (X a b) (i + 2) (low a b)) (eq-eqb (depth_of_r (at n).words N (X a b)) d (deep a b ∙ sym d_is))

  -- what `mk` then comes to
  made_at : (n i : ℕ) → n ≤ σ.count → i ≤ n → i < σ.count → relation N i (quad_at σ.words i) (at n) ≡ found_if (ltb i n) i (quad_at σ.words i) (at n)
  unfolding relation
  made_at n i l m c =
      ap (λ (c : Bool). if c then mk (quad_at σ.words i) (at n) else refused 32) (fits_at n i l m c)
      ∙ mk_r_at i (quad_at σ.words i) (at n) (seek_at n i l m c)

  -- it is there already: a constant
  again : (n i : ℕ) → n ≤ σ.count → i < n → relation N i (quad_at σ.words i) (at n) ≡ given (at n) (i + 2)
  again n i l m = made_at n i l (omega arith) (omega arith) ∙ ap (λ (c : Bool). found_if c i (quad_at σ.words i) (at n)) (lt-ltb i n m)

  room_at : (n : ℕ) → n < σ.count → room (at n).words n ≡ true
  unfolding room
  room_at n l = ap₂ ◌&&◌ (lt-ltb n (length (at n).words / 4) (omega (arith, at_length n (omega arith)))) (lt-ltb n cap (le_trans l wf.nodes.small))

  put_at : (n : ℕ) → n < σ.count → put (at n).words n (quad_at σ.words n) ≡ (at (n + 1)).words
  unfolding put
  put_at n l =
      set4 (at n).words (4 * n) (X false false) (X false true) (X true false) (X true true)
      ∙ filled_sets size (take (4 * n) σ.words) (X false false ∷ X false true ∷ X true false ∷ X true true ∷ []) (4 * n) (long n (omega arith)) (omega arith)
      ∙ ap (filled size) (ap (λ (r : List ℕ). take (4 * n) σ.words ++ r) (sym (words4 σ.words (4 * n))) ∙ take_words σ.words (4 * n) 4 (omega (arith, wf.nodes.fits))
      ∙ ap (λ (j : ℕ). take j σ.words) {x = 4 * n + 4} {y = 4 * (n + 1)} (omega arith))
    where
      X : Quad
      X = quad_at σ.words n

  -- node n, made after those before it
  next : (n : ℕ) → n < σ.count → relation N n (quad_at σ.words n) (at n) ≡ given (at (n + 1)) (n + 2)
  next n l =
      made_at n n (omega arith) (omega arith) l
      ∙ ap (λ (c : Bool). found_if c n (quad_at σ.words n) (at n)) (le-ltb n n (omega arith))
      ∙ ap (λ (c : Bool). put_if c (quad_at σ.words n) (at n)) (room_at n l)
      ∙ ap (λ (t : List ℕ). given (table t (n + 1)) (n + 2)) (put_at n l)

  pub relation_made : (i : ℕ) → i < σ.count → relation N i (quad_at σ.words i) (at (max (3 * N) i)) ≡ given (at (max (3 * N) (i + 1))) (i + 2)
  relation_made i l =
      by_test (ltb i (3 * N))
      (λ e. let m : i < 3 * N = ltb-true i (3 * N) e in
      ap (λ (n : ℕ). relation N i X (at n)) {x = max (3 * N) i} {y = 3 * N} (omega arith) ∙ again (3 * N) i wf.fixed.many m
      ∙ ap (λ (n : ℕ). given (at n) (i + 2)) {x = 3 * N} {y = max (3 * N) (i + 1)} (omega arith))
      (λ e. let m : 3 * N ≤ i = ltb-false i (3 * N) e in
      ap (λ (n : ℕ). relation N i X (at n)) {x = max (3 * N) i} {y = i} (omega arith) ∙ next i l
      ∙ ap (λ (n : ℕ). given (at n) (i + 2)) {x = i + 1} {y = max (3 * N) (i + 1)} (omega arith))
    where
      X : Quad
      X = quad_at σ.words i

  -- a new book's constants are the first 3 N nodes
  pub relations_begun : (c : Constants) × (constants N (table (zeroed size) 0) ≡ given (at (3 * N)) c)
  relations_begun = go (constants N (table (zeroed size) 0)) refl
    where
      same_kid : (τ : Table) {c : Constants} → Begun N (table (zeroed size) 0) τ c → (k : ℕ) → k < 3 * N → (i j : Bool) → kid τ.words k i j ≡ kid σ.words k i j
      same_kid τ B k l i j =
          by_test (ltb k N)
          (λ e. let m : k < N = ltb-true k N e in B.wf.fixed.zeros k m i j ∙ sym (wf.fixed.zeros k m i j))
          (λ e. by_test (ltb k (2 * N))
          (λ f. let m : N ≤ k = ltb-false k N e in let r : k < 2 * N = ltb-true k (2 * N) f in let q : k ≡ N + (k - N) = omega arith in
          rw q (B.wf.fixed.ones (k - N) (omega arith) i j ∙ sym (wf.fixed.ones (k - N) (omega arith) i j)))
          (λ f. let m : 2 * N ≤ k = ltb-false k (2 * N) f in let q : k ≡ 2 * N + (k - 2 * N) = omega arith in
          rw q (B.wf.fixed.tops (k - 2 * N) (omega arith) i j ∙ sym (wf.fixed.tops (k - 2 * N) (omega arith) i j))))

      same_words_lem : (τ : Table) {c : Constants} → Begun N (table (zeroed size) 0) τ c → τ.words ≡ (at (3 * N)).words
      same_words_lem τ B =
          filled_is size (take (4 * (3 * N)) σ.words) τ.words (omega (arith, long (3 * N) wf.fixed.many, wf.fixed.many)) (B.ext.len ∙ length-replicate size 0)
          (λ i. by_test (ltb i (4 * (3 * N)))
          (λ e. let l : i < 4 * (3 * N) = ltb-true i (4 * (3 * N)) e in
          kids_r_words τ.words σ.words (3 * N) (same_kid τ B) i l ∙ sym (get_or-take (4 * (3 * N)) σ.words i 0 l))
          (λ e. let l : 4 * (3 * N) ≤ i = ltb-false i (4 * (3 * N)) e in
          B.ext.beyond i (omega (arith, B.count)) ∙ get_or_zeroed size i ∙ sym (get_or-eq_default (take (4 * (3 * N)) σ.words) 0 (omega (arith, long (3 * N) wf.fixed.many)))))

      go : (o : Outcome Table Constants) → constants N (table (zeroed size) 0) ≡ o → (c : Constants) × (o ≡ given (at (3 * N)) c)
      go (refused number) e = absurd (⊎_elim (λ l. omega (arith, wf.fixed.many, length-replicate {A = ℕ} size 0)) (λ l. omega (arith, wf.fixed.many, wf.nodes.small)) (begun_refused N (zeroed size) number e).1)
      go (given τ c) e =
          let B : Begun N (table (zeroed size) 0) τ c = given_of (begun N (zeroed size)) e in
          (c, ap (λ (t : Table). given t c) (ap₂ table (same_words_lem τ B) B.count))
