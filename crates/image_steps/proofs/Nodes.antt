-- 02 (ii): "each record again by its constructor .. and wants the same number", of packet nodes and relation nodes. A node's record that is taken leaves the table well formed, with all that was there, and node i has
-- the children that the record says; it is new, or it was there. It is refused with 32, or with 20 (21) where it has no room.
use Rattle.std.specs.Prelude.{if◌then◌else◌}
use mathlib.Core.Path.{◌≡◌, refl, sym, ◌∙◌, ap, ap₂, subst}
use mathlib.Core.Bool.{Bool, true, false, ◌&&◌}
use mathlib.Core.List.{List}
use mathlib.Core.Logic.{◌⊎◌, inl, inr}
use Prim.Native.Nat.{ℕ, zero, suc, ◌+◌, ◌*◌, ◌-◌, ◌/◌, ◌%◌, ◌≤◌, ◌<◌, max}
use native.Mathlib.Omega.{arith}
use lib.Dec.{eqb, ltb}
use lib.ListN.{get_or}
use borrow.Author.Tests.{eqb-true, eqb-false, ltb-true, ltb-false, leb-true}
use Rattle.common.specs.Outcome.{Outcome, refused, given}
use Rattle.common.proofs.Follow.{given_of, given_same, refused≢given}
use Rattle.common.specs.Runs.{Table}
use Rattle.sp_steps.specs.Word.{flip}
use Rattle.sp_steps.proofs.Word.{flip_zero}
use Rattle.sp_steps.specs.Make.{side}
use Rattle.sp_steps.specs.Model as Sp
use Rattle.sp_steps.specs.Wf as SpWf
use Rattle.sp_steps.proofs.Make as SpMake
use Rattle.sp_steps.proofs.Make.{by_test, false_true}
use Rattle.spp_steps.specs.Model as Spp
use Rattle.spp_steps.specs.Wf as SppWf
use Rattle.spp_steps.specs.Make.{Missing}
use Rattle.spp_steps.proofs.Laws as SppLaws
use Rattle.spp_steps.proofs.Make as SppMake
use Rattle.aut_steps.proofs.Facts.{and_true}
use Rattle.aut_delta_steps.proofs.EpsilonReads.{given_store}
use Rattle.image_steps.specs.Records.{depth_of, node_fits, node, depth_of_r, relation_fits, relation}
use Rattle.image_steps.proofs.Depths.{set_valid, handle_valid}
use Rattle.image_steps.proofs.States.{refused_number}

-- ---- packet nodes

-- a search ends at the last node at most
pub seek_most : (t : List ℕ) (x y i k : ℕ) → Sp.seek t x y i k ≤ i + k
seek_most t x y i zero = omega (arith, SpMake.seek_none t x y i)
seek_most t x y i (suc k) = by_test (Sp.same t x y i)
    (λ e. omega (arith, SpMake.seek_yes t x y i k e))
    (λ e. omega (arith, SpMake.seek_no t x y i k e, seek_most t x y (suc i) k))

-- each word is a child of a node
pub kid_word : (i : ℕ) → (b : Bool) × ((t : List ℕ) → get_or t i 0 ≡ Sp.kid t b (i / 2))
unfolding Sp.kid
kid_word i =
    by_test (eqb (i % 2) 0)
    (λ e. let q : i ≡ 2 * (i / 2) = omega (arith, eqb-true (i % 2) 0 e) in (false, λ t. ap (λ (k : ℕ). get_or t k 0) q))
    (λ e. let q : i ≡ 2 * (i / 2) + 1 = omega (arith, eqb-false (i % 2) 0 e) in (true, λ t. ap (λ (k : ℕ). get_or t k 0) q))

pub kids_words : (s t : List ℕ) (n : ℕ) → ((b : Bool) (k : ℕ) → k < n → Sp.kid s b k ≡ Sp.kid t b k) → (i : ℕ) → i < 2 * n → get_or s i 0 ≡ get_or t i 0
kids_words s t n f i l = let (b, e) = kid_word i in e s ∙ f b (i / 2) (omega arith) ∙ sym (e t)

-- what a packet node's record asks for
pub record NodeFits (N : ℕ) (t : Table) (i x0 x1 : ℕ) : Type 0 where
  pub before0 : x0 / 2 ≤ i
  pub before1 : x1 / 2 ≤ i
  pub low : depth_of t.words N x0 < N
  pub level : depth_of t.words N x0 ≡ depth_of t.words N x1
  pub even : x0 % 2 ≡ 0
  pub found : Sp.seek t.words x0 x1 0 t.count ≡ i

pub node_fits_lem : (N : ℕ) (t : Table) (i x0 x1 : ℕ) → node_fits N t i x0 x1 ≡ true → NodeFits N t i x0 x1
unfolding node_fits
node_fits_lem N t i x0 x1 e =
    let (a, e1) = and_true _ _ e in
    let (b, e2) = and_true _ _ e1 in
    let (c, e3) = and_true _ _ e2 in
    let (d, e4) = and_true _ _ e3 in
    let (f, g) = and_true _ _ e4 in
    record {
      before0 = leb-true (x0 / 2) i a;
      before1 = leb-true (x1 / 2) i b;
      low = ltb-true (depth_of t.words N x0) N c;
      level = eqb-true (depth_of t.words N x0) (depth_of t.words N x1) d;
      even = eqb-true (x0 % 2) 0 f;
      found = eqb-true (Sp.seek t.words x0 x1 0 t.count) i g;
    }

-- what a packet node's record has made of t
pub record NodeMade (N i x0 x1 : ℕ) (t t' : Table) (h : ℕ) : Type 0 where
  pub wf : SpWf.Wf N t'
  pub ext : SpWf.Ext t t'
  pub handle : h ≡ 2 * i + 2
  pub kids : (b : Bool) → Sp.kid t'.words b i ≡ side b x0 x1
  pub near : i ≤ t.count
  pub count : t'.count ≡ max t.count (i + 1)

module _ (i x0 x1 : ℕ) (t : Table) where
  put_count : (Sp.put x0 x1 t).count ≡ t.count + 1
  unfolding Sp.put
  put_count = refl

  -- mk goes by this very node
  pub mk_at : x0 % 2 ≡ 0 → Sp.seek t.words x0 x1 0 t.count ≡ i → Sp.mk x0 x1 t ≡ Sp.found_if (ltb i t.count) i 0 x0 x1 t
  unfolding Sp.mk Sp.intern
  mk_at e f =
      ap (λ (s : ℕ). Sp.intern s (flip s x0) (flip s x1) t) e
      ∙ ap₂ (λ (x y : ℕ). Sp.intern 0 x y t) (flip_zero x0) (flip_zero x1)
      ∙ ap (λ (k : ℕ). Sp.found_if (ltb k t.count) k 0 x0 x1 t) f

  kid_at : (u : List ℕ) (b : Bool) → Sp.child u b (2 * i + 2) ≡ Sp.kid u b i
  unfolding Sp.child
  kid_at u b =
      ap (λ (s : ℕ). flip s (Sp.kid u b ((2 * i + 2) / 2 - 1))) {y = 0} (omega arith)
      ∙ ap (λ (k : ℕ). flip 0 (Sp.kid u b k)) {y = i} (omega arith)
      ∙ flip_zero (Sp.kid u b i)

module _ (N i x0 x1 : ℕ) (t : Table) where
  pub node_goes : {t' : Table} {h : ℕ} → SpWf.Wf N t → node N i x0 x1 t ≡ given t' h → NodeMade N i x0 x1 t t' h
  unfolding node
  node_goes {t'} {h} w e = at_fits (node_fits N t i x0 x1) refl e
    where
      made : (f : NodeFits N t i x0 x1) → Sp.mk x0 x1 t ≡ given t' h → h ≡ 2 * i + 2 → t'.count ≡ max t.count (i + 1) → NodeMade N i x0 x1 t t' h
      made f q k c =
          let near : i ≤ t.count = omega (arith, f.found, seek_most t.words x0 x1 0 t.count) in
          let a0 : SpWf.ValidAt t (depth_of t.words N x0) x0 = set_valid w _ x0 (omega (arith, f.before0)) refl in
          let a1 : SpWf.ValidAt t (depth_of t.words N x0) x1 = set_valid w _ x1 (omega (arith, f.before1)) (sym f.level) in
          let r = given_of (SpMake.mk_made w f.low a0 a1) q in
          record {
            wf = r.wf;
            ext = r.ext;
            handle = k;
            kids = λ b. sym (kid_at i x0 x1 t t'.words b) ∙ ap (Sp.child t'.words b) (sym k) ∙ r.holds.kids b;
            near = near;
            count = c;
          }

      at_room : (f : NodeFits N t i x0 x1) → t.count ≤ i → (b : Bool) → Sp.mk x0 x1 t ≡ Sp.put_if b 0 x0 x1 t → Sp.put_if b 0 x0 x1 t ≡ given t' h → NodeMade N i x0 x1 t t' h
      at_room f l false q z = absurd (refused≢given z)
      at_room f l true q z =
          made f (q ∙ z) (sym (given_same z) ∙ flip_zero (2 * t.count + 2) ∙ omega (arith, f.found, seek_most t.words x0 x1 0 t.count))
          (ap (λ (u : Table). u.count) (sym (given_store z)) ∙ put_count i x0 x1 t ∙ omega (arith, f.found, seek_most t.words x0 x1 0 t.count))

      at_found : (f : NodeFits N t i x0 x1) → (b : Bool) → ltb i t.count ≡ b → Sp.mk x0 x1 t ≡ Sp.found_if b i 0 x0 x1 t → Sp.found_if b i 0 x0 x1 t ≡ given t' h → NodeMade N i x0 x1 t t' h
      at_found f true y q z = made f (q ∙ z) (sym (given_same z) ∙ flip_zero (2 * i + 2)) (ap (λ (u : Table). u.count) (sym (given_store z)) ∙ omega (arith, ltb-true i t.count y))
      at_found f false y q z = at_room f (ltb-false i t.count y) (Sp.room t) q z

      at_fits : (b : Bool) → node_fits N t i x0 x1 ≡ b → (if b then Sp.mk x0 x1 t else refused 32) ≡ given t' h → NodeMade N i x0 x1 t t' h
      at_fits false y z = absurd (refused≢given z)
      at_fits true y z =
          let f : NodeFits N t i x0 x1 = node_fits_lem N t i x0 x1 y in
          let q = mk_at i x0 x1 t f.even f.found in
          at_found f (ltb i t.count) refl q (sym q ∙ z)

  pub node_refuses : {number : ℕ} → node N i x0 x1 t ≡ refused number → (number ≡ 32) ⊎ (number ≡ 20)
  unfolding node
  node_refuses {number} e = go (node_fits N t i x0 x1) e
    where
      go : (b : Bool) → (if b then Sp.mk x0 x1 t else refused 32) ≡ refused number → (number ≡ 32) ⊎ (number ≡ 20)
      go true z = inr (SpMake.mk_refused x0 x1 t number z).0
      go false z = inl (sym (refused_number z))

-- ---- relation nodes

pub seek_r_most : (t : List ℕ) (X : Spp.Quad) (i k : ℕ) → Spp.seek t X i k ≤ i + k
seek_r_most t X i zero = omega (arith, SppMake.seek_none t X i)
seek_r_most t X i (suc k) = by_test (Spp.same t X i)
    (λ e. omega (arith, SppMake.seek_yes t X i k e))
    (λ e. omega (arith, SppMake.seek_no t X i k e, seek_r_most t X (suc i) k))

pub kid_r_word : (i : ℕ) → (a b : Bool) × ((t : List ℕ) → get_or t i 0 ≡ Spp.kid t (i / 4) a b)
unfolding Spp.kid
kid_r_word i = go (i % 4) refl
  where
    go : (r : ℕ) → i % 4 ≡ r → (a b : Bool) × ((t : List ℕ) → get_or t i 0 ≡ Spp.kid t (i / 4) a b)
    go zero e = let q : i ≡ 4 * (i / 4) = omega arith in (false, false, λ t. ap (λ (k : ℕ). get_or t k 0) q)
    go (suc zero) e = let q : i ≡ 4 * (i / 4) + 1 = omega arith in (false, true, λ t. ap (λ (k : ℕ). get_or t k 0) q)
    go (suc (suc zero)) e = let q : i ≡ 4 * (i / 4) + 2 = omega arith in (true, false, λ t. ap (λ (k : ℕ). get_or t k 0) q)
    go (suc (suc (suc zero))) e = let q : i ≡ 4 * (i / 4) + 3 = omega arith in (true, true, λ t. ap (λ (k : ℕ). get_or t k 0) q)
    go (suc (suc (suc (suc r)))) e = absurd (omega arith)

pub kids_r_words : (s t : List ℕ) (n : ℕ) → ((k : ℕ) → k < n → (i j : Bool) → Spp.kid s k i j ≡ Spp.kid t k i j) → (i : ℕ) → i < 4 * n → get_or s i 0 ≡ get_or t i 0
kids_r_words s t n f i l = let (a, b, e) = kid_r_word i in e s ∙ f (i / 4) (omega arith) a b ∙ sym (e t)

-- what a relation node's record asks for
pub record RelationFits (N : ℕ) (t : Table) (k : ℕ) (X : Spp.Quad) : Type 0 where
  pub depth : ℕ
  pub low : depth < N
  pub before : (i j : Bool) → X i j < k + 2
  pub level : (i j : Bool) → depth_of_r t.words N (X i j) ≡ depth
  pub found : Spp.seek t.words X 0 t.count ≡ k

pub relation_fits_lem : (N : ℕ) (t : Table) (k : ℕ) (X : Spp.Quad) → relation_fits N t k X ≡ true → RelationFits N t k X
unfolding relation_fits
relation_fits_lem N t k X e =
    let (a, e1) = and_true _ _ e in
    let (b, e2) = and_true _ _ e1 in
    let (c, e3) = and_true _ _ e2 in
    let (f, e4) = and_true _ _ e3 in
    let (g, h) = and_true _ _ e4 in
    let parts : (i j : Bool) → (ltb (X i j) (k + 2) ≡ true) × (eqb (depth_of_r t.words N (X i j)) d ≡ true) = λ i j. and_true (ltb (X i j) (k + 2)) (eqb (depth_of_r t.words N (X i j)) d) (all b c f g i j) in
    record {
      depth = d;
      low = ltb-true d N a;
      before = λ i j. ltb-true (X i j) (k + 2) (parts i j).0;
      level = λ i j. eqb-true (depth_of_r t.words N (X i j)) d (parts i j).1;
      found = eqb-true (Spp.seek t.words X 0 t.count) k h;
    }
  where
    d : ℕ
    d = depth_of_r t.words N (X false false)

    Fits : Bool → Bool → Type 0
    Fits i j = (ltb (X i j) (k + 2) && eqb (depth_of_r t.words N (X i j)) d) ≡ true

    all : Fits false false → Fits false true → Fits true false → Fits true true → (i j : Bool) → Fits i j
    all b c f g false false = b
    all b c f g false true = c
    all b c f g true false = f
    all b c f g true true = g

-- what a relation node's record has made of t
pub record RelationMade (N k : ℕ) (X : Spp.Quad) (t t' : Table) (h : ℕ) : Type 0 where
  pub wf : SppWf.Wf N t'
  pub ext : SppWf.Ext t t'
  pub handle : h ≡ k + 2
  pub kids : (i j : Bool) → Spp.kid t'.words k i j ≡ X i j
  pub near : k ≤ t.count
  pub count : t'.count ≡ max t.count (k + 1)

pub mk_r_at : (k : ℕ) (X : Spp.Quad) (t : Table) → Spp.seek t.words X 0 t.count ≡ k → Spp.mk X t ≡ Spp.found_if (ltb k t.count) k X t
unfolding Spp.mk
mk_r_at k X t f = ap (λ (k : ℕ). Spp.found_if (ltb k t.count) k X t) f

module _ (N k : ℕ) (X : Spp.Quad) (t : Table) where
  pub relation_goes : {t' : Table} {h : ℕ} → SppWf.Wf N t → relation N k X t ≡ given t' h → RelationMade N k X t t' h
  unfolding relation
  relation_goes {t'} {h} w e = at_fits (relation_fits N t k X) refl e
    where
      at_room : (f : RelationFits N t k X) → t.count ≤ k → (b : Bool) → Spp.room t.words t.count ≡ b → Spp.put_if b X t ≡ given t' h → RelationMade N k X t t' h
      at_room f l false r z = absurd (refused≢given z)
      at_room f l true r z =
          let near : k ≤ t.count = omega (arith, f.found, seek_r_most t.words X 0 t.count) in
          let same : k ≡ t.count = omega arith in
          let at : (i j : Bool) → SppWf.ValidAt t f.depth (X i j) = λ i j. handle_valid w f.depth (X i j) (omega (arith, f.before i j)) (f.level i j) in
          let miss : Missing X t = λ m l q. false_true (sym (SppMake.seek_miss t.words X 0 t.count (omega (arith, f.found)) m (omega arith) (omega arith)) ∙ SppMake.kids_same t.words X m q) in
          subst (λ (u : Table). RelationMade N k X t u h) (given_store z) (record {
            wf = SppMake.grown_wf X t r f.depth miss w f.low at;
            ext = SppMake.put_ext t.words t.count X;
            handle = sym (given_same z) ∙ omega arith;
            kids = λ i j. ap (λ (m : ℕ). Spp.kid (Spp.put t.words t.count X) m i j) same ∙ SppMake.put_new t.words t.count X (SppMake.room_fits t.words t.count r).0 i j;
            near = near;
            count = omega arith;
          })

      at_found : (f : RelationFits N t k X) → (b : Bool) → ltb k t.count ≡ b → Spp.found_if b k X t ≡ given t' h → RelationMade N k X t t' h
      at_found f true y z =
          let l : k < t.count = ltb-true k t.count y in
          subst (λ (u : Table). RelationMade N k X t u h) (given_store z) (record {
            wf = w;
            ext = SppLaws.ext_refl t;
            handle = sym (given_same z);
            kids = SppMake.same_kids t.words X k (subst (λ (m : ℕ). Spp.same t.words X m ≡ true) f.found (SppMake.seek_hit t.words X 0 t.count (omega (arith, f.found))));
            near = omega arith;
            count = omega arith;
          })
      at_found f false y z = at_room f (ltb-false k t.count y) (Spp.room t.words t.count) refl z

      at_fits : (b : Bool) → relation_fits N t k X ≡ b → (if b then Spp.mk X t else refused 32) ≡ given t' h → RelationMade N k X t t' h
      at_fits false y z = absurd (refused≢given z)
      at_fits true y z =
          let f : RelationFits N t k X = relation_fits_lem N t k X y in
          at_found f (ltb k t.count) refl (sym (mk_r_at k X t f.found) ∙ z)

  pub relation_refuses : {number : ℕ} → relation N k X t ≡ refused number → (number ≡ 32) ⊎ (number ≡ 21)
  unfolding relation
  relation_refuses {number} e = go (relation_fits N t k X) e
    where
      by : (o : Outcome Table ℕ) → SppMake.Ways X t o → o ≡ refused number → (number ≡ 32) ⊎ (number ≡ 21)
      by o (SppMake.there m l q) z = absurd (refused≢given (sym z))
      by o (SppMake.fresh m r) z = absurd (refused≢given (sym z))
      by o (SppMake.short s) z = inr (sym (refused_number z))

      go : (b : Bool) → (if b then Spp.mk X t else refused 32) ≡ refused number → (number ≡ 32) ⊎ (number ≡ 21)
      go true z = by (Spp.mk X t) (SppMake.ways X t) z
      go false z = inl (sym (refused_number z))
