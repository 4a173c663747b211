-- 02 (ii): "One altered byte, or two unequal bytes exchanged within the first 510, is found": it refuses with 30 or 31. Two images that agree before block b are read alike up to there; if block b of the second is not taken, it is
-- refused with that number.
use Rattle.std.specs.Prelude.{if◌then◌else◌}
use mathlib.Core.Path.{◌≡◌, refl, sym, ◌∙◌, ap, ap₂, subst}
use mathlib.Core.Bool.{Bool, true, false, ◌&&◌, ◌||◌}
use mathlib.Core.List.{List, [], ◌∷◌, ◌++◌}
use mathlib.Core.Logic.{◌⊎◌, ⊎_elim, ◌≢◌}
use mathlib.Core.Option.{none, some}
use Prim.Native.Nat.{ℕ, zero, suc, ◌+◌, ◌*◌, ◌/◌, ◌%◌, ◌≤◌, ◌<◌}
use native.Mathlib.Omega.{arith}
use lib.Dec.{eqb, ltb, leb}
use lib.ListN.{length, get_or, set, length-set}
use lib.Seq.{get_or-set_other}
use borrow.Author.Tests.{ltb-true, ltb-false}
use Rattle.common.specs.Outcome.{Outcome, refused, given, Step, return, after}
use Rattle.common.proofs.Follow.{refused≢given}
use Rattle.sp_steps.proofs.Make.{by_test}
use Rattle.sp_steps.specs.Model as Sp
use Rattle.spp_steps.specs.Model as Spp
use Rattle.aut_steps.specs.Tables.{UNION, INTERSECT, Limits, Aut, on_nodes, limits01}
use Rattle.aut_delta_steps.specs.Delta.{on_aut}
use Rattle.aut_query_steps.specs.Tables.{on_sets, on_base}
use Rattle.book_steps.specs.Run.{Lent, RunState, place, instructions}
use Rattle.image_form.specs.Form.{word_at, verify}
use Rattle.image_form.specs.Damage.{Bytes, exchange, Found, DamageFound}
use Rattle.image_form.proofs.Blocks.{verify_local, word_local}
use Rattle.image_form.proofs.Check.{damage_found}
use Rattle.image_steps.specs.Image.{Head, start_of, layout, total, reach, blocks_of}
use Rattle.image_steps.specs.Read as Read
use Rattle.image_steps.specs.Records as Records
use Rattle.image_steps.specs.Claims.{Detected, DamageIsRefused}
use Rattle.image_steps.proofs.Loops.{read_whole, start1, start2, start3, start4, start5}
use Rattle.image_steps.proofs.Reading.{IsRead, is_read}

-- ---- two runs

-- Two runs have come past the first m words: the first is refused; or no word of block b was reached, and they are the same; or the second is refused with n.
data Goes (b n m : ℕ) : Outcome RunState ℕ → Outcome RunState ℕ → Type 0 where
  over : {number : ℕ} {o : Outcome RunState ℕ} → Goes b n m (refused number) o
  alike : {o : Outcome RunState ℕ} → reach m < b → Goes b n m o o
  found : {o : Outcome RunState ℕ} → Goes b n m o (refused n)

goes_after : {b n m w : ℕ} {o r : Outcome RunState ℕ} {k l : ℕ → Step RunState ℕ} → Goes b n m o r
    → (reach m < b → (p : RunState) (x : ℕ) → Goes b n w (k x p) (l x p)) → Goes b n w (after o k) (after r l)
goes_after over f = over
goes_after {b} {n} {w = w} {k = k} {l = l} (alike {o} g) f = at o
  where
    at : (o : Outcome RunState ℕ) → Goes b n w (after o k) (after o l)
    at (refused number) = over
    at (given p x) = f g p x
goes_after found f = found

-- where block b is reached, the second is refused
goes_found : {b n m : ℕ} {o r : Outcome RunState ℕ} {p : RunState} {x : ℕ} → Goes b n m o r → b ≤ reach m → o ≡ given p x → r ≡ refused n
goes_found over l e = absurd (refused≢given e)
goes_found (alike g) l e = absurd (omega arith)
goes_found found l e = refl

goes_same : {b n m : ℕ} {o r : Outcome RunState ℕ} → reach m < b → o ≡ r → Goes b n m o r
goes_same {b} {n} {m} {o} l e = subst (Goes b n m o) e (alike l)

module _ (s t : List ℕ) (b n : ℕ) (len : length s ≡ length t) (same : (i : ℕ) → i < 512 * b → get_or s i 0 ≡ get_or t i 0) (bad : verify t b ≡ some n) where
  block_same : (c : ℕ) → c < b → (i : ℕ) → i < 512 → get_or s (512 * c + i) 0 ≡ get_or t (512 * c + i) 0
  block_same c l i m = same (512 * c + i) (omega arith)

  word_is : (c j : ℕ) → c < b → j < 127 → word_at s c j ≡ word_at t c j
  word_is c j l m = word_local s t c (block_same c l) j m

  -- ---- the records

  module _ (h : Head) (L : Limits) where
    word_same : (i : ℕ) → reach (i + 1) < b → Read.word s h L i ≡ Read.word t h L i
    word_same i l = word_is (1 + i / 127) (i % 127) (omega arith) (omega arith)

    words_same : (k i : ℕ) → reach (i + k) < b → Read.words_from s h L i k ≡ Read.words_from t h L i k
    unfolding Read.words_from
    words_same zero i l = refl
    words_same (suc k) i l = ap₂ (λ (w : ℕ) (ws : List ℕ). w ∷ ws) (word_same i (omega arith)) (words_same k (i + 1) (omega arith))

    enter_goes : (i size : ℕ) (p : RunState) → size ≤ 4 → reach i < b → Goes b n (i + size) (Read.enter s h L i size p) (Read.enter t h L i size p)
    unfolding Read.enter
    enter_goes i size p l m = at_test (ltb (reach i) (reach (i + size))) refl
      where
        at_block : (c : Bool) → ltb (reach (i + size)) b ≡ c → reach i < reach (i + size)
            → Goes b n (i + size) (Read.looked s h L (verify s (reach (i + size))) p) (Read.looked t h L (verify t (reach (i + size))) p)
        at_block true e k =
            let g : reach (i + size) < b = ltb-true _ _ e in
            goes_same g (ap (λ o. Read.looked s h L o p) (verify_local s t (reach (i + size)) (block_same (reach (i + size)) g) len))
        at_block false e k =
            let g : b ≤ reach (i + size) = ltb-false _ _ e in
            let q : verify t (reach (i + size)) ≡ some n = ap (verify t) {y = b} (omega arith) ∙ bad in
            subst (λ o. Goes b n (i + size) (Read.looked s h L (verify s (reach (i + size))) p) (Read.looked t h L o p)) (sym q) found

        at_test : (c : Bool) → ltb (reach i) (reach (i + size)) ≡ c
            → Goes b n (i + size) ((if c then Read.looked s h L (verify s (reach (i + size))) else return 0) p) ((if c then Read.looked t h L (verify t (reach (i + size))) else return 0) p)
        at_test true e = at_block (ltb (reach (i + size)) b) refl (ltb-true _ _ e)
        at_test false e = let g : reach (i + size) ≤ reach i = ltb-false _ _ e in alike (omega arith)

    -- records of one kind, from word `from` on
    module _ (make like : ℕ → ℕ → Step RunState ℕ) (size from : ℕ) (small : size ≤ 4)
        (one : (i j : ℕ) (p : RunState) → from ≤ j → reach (j + size) < b → make i j p ≡ like i j p) where
      records_go : (k i j : ℕ) (p : RunState) → from ≤ j → reach j < b → Goes b n (j + size * k) (Read.records s h L make size i j k p) (Read.records t h L like size i j k p)
      unfolding Read.records
      records_go zero i j p l m = alike (subst (λ (j : ℕ). reach j < b) {x = j} (omega arith) m)
      records_go (suc k) i j p l m =
          goes_after (enter_goes j size p small m) (λ g q x.
          goes_after (goes_same {m = j + size} g (one i j q l g)) (λ g r x.
          subst (λ (z : ℕ). Goes b n z (Read.records s h L make size (i + 1) (j + size) k r) (Read.records t h L like size (i + 1) (j + size) k r)) {x = j + size + size * k} (omega arith)
          (records_go k (i + 1) (j + size) r (omega arith) g)))

    node_same : (i j : ℕ) (p : RunState) → reach (j + 2) < b → Read.node s h L i j p ≡ Read.node t h L i j p
    node_same i j p g =
        ap₂ (λ (x y : ℕ). Read.on_tables (on_sets (Records.node h.fields i x y)) p) (word_same j (omega arith)) (word_same (j + 1) (omega arith))

    relation_same : (i j : ℕ) (p : RunState) → reach (j + 4) < b → Read.relation s h L i j p ≡ Read.relation t h L i j p
    relation_same i j p g =
        ap₂ (λ (x y : ℕ). make x y (Read.word s h L (j + 2)) (Read.word s h L (j + 3))) (word_same j (omega arith)) (word_same (j + 1) (omega arith))
        ∙ ap₂ (λ (x y : ℕ). make (Read.word t h L j) (Read.word t h L (j + 1)) x y) (word_same (j + 2) (omega arith)) (word_same (j + 3) (omega arith))
      where
        make : ℕ → ℕ → ℕ → ℕ → Outcome RunState ℕ
        make x y z w = Read.on_tables (on_base (on_aut (on_nodes (Records.relation h.fields i (Spp.quad x y z w))))) p

    -- a state's members stand before it
    list_same : (l : Bool) (x y : ℕ) → reach (start_of 3 (layout h)) < b → (l && ltb h.members (x + y)) ≡ false
        → (if l then Read.words_from s h L (start_of 2 (layout h) + x) y else []) ≡ (if l then Read.words_from t h L (start_of 2 (layout h) + x) y else [])
    unfolding start_of
    list_same true x y g e = words_same y (start_of 2 (layout h) + x) (omega (arith, ltb-false h.members (x + y) e))
    list_same false x y g e = refl

    state_at_same : (k x y e : ℕ) → reach (start_of 3 (layout h)) < b → Read.state_at s h L k x y e ≡ Read.state_at t h L k x y e
    unfolding Read.state_at
    state_at_same k x y e g = go ((eqb k UNION || eqb k INTERSECT) && ltb h.members (x + y)) refl
      where
        go : (c : Bool) → ((eqb k UNION || eqb k INTERSECT) && ltb h.members (x + y)) ≡ c
            → ◌≡◌ {A = Step Aut ℕ} (if c then (λ σ. refused 32) else Records.state h.fields L (Read.list_at s h L k x y) k x y e)
            (if c then (λ σ. refused 32) else Records.state h.fields L (Read.list_at t h L k x y) k x y e)
        go true q = refl
        go false q = ap (λ (xs : List ℕ). Records.state h.fields L xs k x y e) (list_same (eqb k UNION || eqb k INTERSECT) x y g q)

    state_same : (i j : ℕ) (p : RunState) → start_of 3 (layout h) ≤ j → reach (j + 4) < b → Read.state s h L i j p ≡ Read.state t h L i j p
    state_same i j p l g =
        ap₂ (λ (x y : ℕ). make x y (Read.word s h L (j + 2)) (Read.word s h L (j + 3))) (word_same j (omega arith)) (word_same (j + 1) (omega arith))
        ∙ ap₂ (λ (x y : ℕ). make (Read.word t h L j) (Read.word t h L (j + 1)) x y) (word_same (j + 2) (omega arith)) (word_same (j + 3) (omega arith))
        ∙ ap (λ (c : Step Aut ℕ). Read.on_tables (on_base (on_aut c)) p) (state_at_same _ _ _ _ (omega arith))
      where
        make : ℕ → ℕ → ℕ → ℕ → Outcome RunState ℕ
        make x y z w = Read.on_tables (on_base (on_aut (Read.state_at s h L x y z w))) p

    line_same : (i j : ℕ) (p : RunState) → reach (j + 1) < b → Read.line s h L i j p ≡ Read.line t h L i j p
    line_same i j p g =
        ap (λ (w : ℕ). if leb w p.tables.base.aut.states.count then given (place p.tables (p.lines ++ Read.line_of w ∷ []) p.output) 0 else refused 32) (word_same j g)

    records_of_lem : (p : RunState) → 0 < b → b ≤ reach (total h) → Goes b n (total h) (Read.records_of s h L p) (Read.records_of t h L p)
    unfolding Read.records_of
    records_of_lem p l m =
        goes_after (records_go (Read.node s h L) (Read.node t h L) 2 0 (omega arith) (λ i j q l g. node_same i j q g) h.sp 0 0 p (omega arith) (omega arith)) (λ g p x.
        goes_after (records_go (Read.relation s h L) (Read.relation t h L) 4 (start_of 1 (layout h)) (omega arith) (λ i j q l g. relation_same i j q g) h.spp 0 (start_of 1 (layout h)) p (omega arith)
        (subst Before (start1 h) g)) (λ g p x.
        goes_after (records_go (Read.member s h L) (Read.member t h L) 1 (start_of 2 (layout h)) (omega arith) (λ i j q l g. refl) h.members 0 (start_of 2 (layout h)) p (omega arith)
        (subst Before (start2 h) g)) (λ g p x.
        goes_after (records_go (Read.state s h L) (Read.state t h L) 4 (start_of 3 (layout h)) (omega arith) state_same h.states 0 (start_of 3 (layout h)) p (omega arith)
        (subst Before (start3 h) g)) (λ g p x.
        goes_after (records_go (Read.line s h L) (Read.line t h L) 1 (start_of 4 (layout h)) (omega arith) (λ i j q l g. line_same i j q g) h.lines 0 (start_of 4 (layout h)) p (omega arith)
        (subst Before (start4 h) g)) (λ g p x. absurd (omega (arith, start5 h)))))))
      where
        Before : ℕ → Type 0
        Before m = reach m < b

    -- ---- block 0

    unused_same : 0 < b → (k j : ℕ) → j + k ≤ 127 → Read.unused s 0 j k ≡ Read.unused t 0 j k
    unfolding Read.unused
    unused_same l zero j m = refl
    unused_same l (suc k) j m = ap₂ (λ (w : ℕ) (u : Bool). eqb w 0 && u) (word_is 0 j l (omega arith)) (unused_same l k (j + 1) (omega arith))

    fits_same : 0 < b → Read.head_fits s h ≡ Read.head_fits t h
    unfolding Read.head_fits
    fits_same l =
        ap₂ (λ (u : Bool) (m : ℕ). leb h.fields 31 && (leb h.sp Sp.most && (leb h.spp Spp.cap && (leb h.members 16777216
        && (leb h.states 32768 && (leb h.lines instructions && (u
        && (leb h.fields h.sp && (leb (3 * h.fields) h.spp && eqb (m / 512) (blocks_of h))))))))))
        (unused_same l 119 8 (omega arith)) len

    head_goes : (lent : Lent) → 0 < b → b ≤ reach (total h) → Goes b n (total h) (Read.from_head lent L s h) (Read.from_head lent L t h)
    head_goes lent l m =
        subst (λ (c : Bool). Goes b n (total h) (Read.from_head lent L s h) (if c then Read.then_records L t h (Read.fresh lent h.fields) else refused 32)) (fits_same l)
        (at_test (Read.head_fits s h))
      where
        at_fresh : (o : Outcome RunState ℕ) → Goes b n (total h) (Read.then_records L s h o) (Read.then_records L t h o)
        at_fresh (refused number) = over
        at_fresh (given p x) = records_of_lem p l m

        at_test : (c : Bool) → Goes b n (total h) (if c then Read.then_records L s h (Read.fresh lent h.fields) else refused 32) (if c then Read.then_records L t h (Read.fresh lent h.fields) else refused 32)
        at_test true = at_fresh (Read.fresh lent h.fields)
        at_test false = over

  head_same : 0 < b → Read.head_at s ≡ Read.head_at t
  unfolding Read.head_at
  head_same l =
      let w : (j : ℕ) → j < 127 → word_at s 0 j ≡ word_at t 0 j = λ j m. word_is 0 j l m in
      let w0 : word_at s 0 0 ≡ word_at t 0 0 = w 0 (omega arith) in
      let w1 : word_at s 0 1 ≡ word_at t 0 1 = w 1 (omega arith) in
      let w2 : word_at s 0 2 ≡ word_at t 0 2 = w 2 (omega arith) in
      let w3 : word_at s 0 3 ≡ word_at t 0 3 = w 3 (omega arith) in
      let w4 : word_at s 0 4 ≡ word_at t 0 4 = w 4 (omega arith) in
      let w5 : word_at s 0 5 ≡ word_at t 0 5 = w 5 (omega arith) in
      let w6 : word_at s 0 6 ≡ word_at t 0 6 = w 6 (omega arith) in
      let w7 : word_at s 0 7 ≡ word_at t 0 7 = w 7 (omega arith) in
      λ i. record { fields = w0 i; budget = 4294967296 * w1 i + w2 i; sp = w3 i; spp = w4 i; members = w5 i; states = w6 i; lines = w7 i }

  -- ---- the images

  -- if s is read, and block b is one of its blocks, t is refused with n
  pub prefix_same : (lent : Lent) (L : Limits) → 1 ≤ L.transitions → (p : RunState) (x : ℕ) → Read.read lent L s ≡ given p x → b < blocks_of (Read.head_at s) → Read.read lent L t ≡ refused n
  prefix_same lent L few p x e l = by_test (ltb 0 b) (λ q. later (ltb-true 0 b q)) (λ q. first (omega (arith, ltb-false 0 b q)))
    where
      R : IsRead lent L s p
      R = is_read L few lent s e

      h : Head
      h = Read.head_at s

      to : Read.read lent L t ≡ Read.if_verified (verify t 0) (Read.from_head lent L t (Read.head_at t))
      to = read_whole lent L t (omega (arith, R.long)) (omega (arith, R.long))

      first : b ≡ 0 → Read.read lent L t ≡ refused n
      first z = to ∙ ap (λ o. Read.if_verified o (Read.from_head lent L t (Read.head_at t))) (ap (verify t) (sym z) ∙ bad)

      later : 0 < b → Read.read lent L t ≡ refused n
      later z =
          let v : verify s 0 ≡ none = R.taken 0 (omega arith) in
          let u : verify t 0 ≡ none = sym (verify_local s t 0 (block_same 0 z) len) ∙ v in
          let a : Read.from_head lent L s h ≡ given p x =
          sym (read_whole lent L s (omega (arith, R.long)) (omega (arith, R.long)) ∙ ap (λ o. Read.if_verified o (Read.from_head lent L s h)) v) ∙ e in
          to ∙ ap (λ o. Read.if_verified o (Read.from_head lent L t (Read.head_at t))) u ∙ ap (Read.from_head lent L t) (sym (head_same z))
          ∙ goes_found (head_goes h L lent z (omega arith)) (omega arith) a

module _ (lent : Lent) (image : List ℕ) (p : RunState) (x : ℕ) (bytes : Bytes image) (e : Read.read lent limits01 image ≡ given p x) where
  R : IsRead lent limits01 image p
  R = is_read limits01 (omega arith) lent image e

  -- a block that is damaged, and none before it
  damaged : (t : List ℕ) (b : ℕ) → 512 * b < length image → length image ≡ length t → ((i : ℕ) → i < 512 * b → get_or image i 0 ≡ get_or t i 0) → Found t b → Detected lent t
  damaged t b l m same =
      ⊎_elim (λ v. ◌⊎◌.inl (prefix_same image t b 30 m same v lent limits01 (omega arith) p x e (omega (arith, R.long))))
      (λ v. ◌⊎◌.inr (prefix_same image t b 31 m same v lent limits01 (omega arith) p x e (omega (arith, R.long))))

  block_damage : (b : ℕ) → 512 * b < length image → DamageFound image b
  block_damage b l = damage_found image b bytes (omega (arith, R.long)) (R.taken b (omega (arith, R.long)))

  altered : (i v : ℕ) → i < length image → v < 256 → v ≢ get_or image i 0 → Detected lent (set image i v)
  altered i v l m d =
      damaged (set image i v) (i / 512) (omega arith) (sym (length-set image i v)) (λ j k. sym (get_or-set_other image i j v 0 (omega arith)))
      (subst (λ (j : ℕ). Found (set image j v) (i / 512)) (sym at) ((block_damage (i / 512) (omega arith)).altered (i % 512) v (omega arith) m (subst (λ (j : ℕ). v ≢ get_or image j 0) at d)))
    where
      at : i ≡ 512 * (i / 512) + i % 512
      at = omega arith

  exchanged : (b i j : ℕ) → i < j → j < 512 → 512 * b + j < length image → get_or image (512 * b + i) 0 ≢ get_or image (512 * b + j) 0
      → Detected lent (exchange image (512 * b + i) (512 * b + j))
  exchanged b i j l m k d =
      damaged (exchange image (512 * b + i) (512 * b + j)) b (omega arith) (simp length-set)
      (λ r q. sym (get_or-set_other (set image (512 * b + i) _) (512 * b + j) r _ 0 (omega arith) ∙ get_or-set_other image (512 * b + i) r _ 0 (omega arith)))
      ((block_damage b (omega arith)).exchanged i j l m d)

pub damage_refused : DamageIsRefused
damage_refused lent image p x bytes e = record { altered = altered lent image p x bytes e; exchanged = exchanged lent image p x bytes e }
