-- One turn of `least_led`: an exit, a result from the cache, or one or two calls.
use Rattle.std.specs.Prelude.{Some, None, Option, is_some, IfSome}
use mathlib.Core.Path.{◌≡◌, sym, ◌∙◌, ap, ap₂, subst}
use mathlib.Core.Bool.{Bool, true, false, ◌&&◌, and-false}
use mathlib.Core.List.{List}
use Prim.Native.Nat.{ℕ, zero, suc, ◌+◌, ◌*◌, ◌-◌, ◌^◌, ◌≤◌, ◌<◌}
use native.Mathlib.Omega.{arith}
use native.Mathlib.Nat.{le_refl}
use lib.ListN.{length}
use lib.Pow.{pow_mono}
use borrow.Author.Tests.{eqb-true, eqb-false}
use Rattle.common.specs.Packets.{Packet, end, bit}
use Rattle.cache.specs.Cache.{Sound, WritesValid, Holds, Exactly}
use Rattle.cache.proofs.Cache.{sound_own, sound_holds, notes_refl, notes_trans, notes_one}
use Rattle.netkat_paths.specs.Order.{value, least}
use Rattle.sp_steps.specs.Model as Sp
use Rattle.sp_steps.specs.Wf as SpLaws
use Rattle.sp_steps.proofs.Laws as SpFacts
use Rattle.sp.specs.Clauses.{Inner, Kids}
use Rattle.spp_steps.specs.Model as Spp
use Rattle.spp_steps.specs.Model.{kids, zero_at, is_zero}
use Rattle.spp_steps.specs.ImageModel.{Stores}
use Rattle.spp_steps.specs.Wf.{ValidAt}
use Rattle.spp_steps.proofs.Laws.{den_zero}
use Rattle.spp_least.specs.Clauses.{number_of, raised, word, led_to, LEAST, HIGHEST, LeastKept, LeastRead, LeastNoted, LedAsked, LedAnswer, RowOf}
use Rattle.spp_least.proofs.Numbers.{packet_of, first_of, below, fits, same_word, least_empty, low_least, high_least}
use Rattle.spp_least.proofs.First.{low_full}

-- past a call
pub past : {σ : Stores} {m m' : List ℕ} → Sound (LeastRead σ) m → WritesValid (LeastNoted σ) m m' → Sound (LeastRead σ) m'
past s k = sound_own (λ o x y z v. v) s k

-- w is the number for the packet with number k
abbrev Is : Stores → (d k s r : ℕ) → Option ℕ → Type 0
Is σ d k s r w = (p : Packet d) → value p ≡ k → w ≡ number_of (least d (led_to σ d s r p))

-- a hit: a handle has one depth
kept_is : {σ : Stores} {d k s r : ℕ} {w : Option ℕ} → SpLaws.ValidAt σ.sp d s → LeastKept σ (LEAST + k) s r (word w) → Is σ d k s r w
kept_is {σ} {d} {k} {s} {r} {w} a v =
    subst (λ (e : ℕ). Is σ e k s r w) (SpFacts.one_depth σ.sp v.depth d s v.at_s a)
    (λ p e. same_word w (number_of (least v.depth (led_to σ v.depth s r p))) (v.is p (omega arith)))

module _ {N D : ℕ} {σ : Stores} {m : List ℕ} {k s r : ℕ} (q : LedAsked N D σ m k s r) where
  many : 2 ^ D ≤ 2147483648
  many = pow_mono {j = 31} (omega (arith, q.deep, q.few))

  -- the code fits a word
  pub code_small : LEAST + k ≤ HIGHEST
  code_small = omega (arith, q.small, many)

  exits : {w : Option ℕ} → Is σ D k s r w → LedAnswer D σ m k s r w m
  exits e = record { is = e; notes = notes_refl }

  pub empty : true ≡ Sp.is_zero D s → LedAnswer D σ m k s r None m
  unfolding Sp.is_zero
  empty e = exits (λ p f.
      let z : s ≡ Sp.zero_at D = eqb-true s _ (sym e) in
      sym (ap number_of (least_empty D (led_to σ D s r p) (λ h.
      ap (λ (b : Bool). Spp.mem σ.spp.words D r p h && b) (ap (λ (x : ℕ). Sp.mem σ.sp.words D x h) z ∙ SpFacts.zero_mem q.wf.sp_wf D q.deep h) ∙ and-false (Spp.mem σ.spp.words D r p h)))))

  pub nothing : is_zero N D r ≡ true → LedAnswer D σ m k s r None m
  unfolding is_zero
  nothing e = exits (λ p f.
      sym (ap number_of (least_empty D (led_to σ D s r p) (λ h.
      ap (λ (b : Bool). b && Sp.mem σ.sp.words D s h) (ap (λ (x : ℕ). Spp.mem σ.spp.words D x p h) (eqb-true r _ e) ∙ (den_zero q.wf.spp_wf D q.deep).means p h)))))

  flat : (d : ℕ) → d ≡ 0 → SpLaws.ValidAt σ.sp d s → ValidAt σ.spp d r → false ≡ Sp.is_zero d s → is_zero N d r ≡ false → Is σ d k s r (Some 0)
  unfolding least Sp.mem Spp.mem is_zero zero_at value
  flat zero e a c f g end h =
      let i : 1 ≡ r = omega (arith, c, eqb-false r 0 g) in
      ap₂ (λ (x y : ℕ). number_of (least 0 (led_to σ 0 x y end))) (sym (low_full s a f)) i
  flat (suc d) e a c f g p h = absurd (omega arith)

  pub full : false ≡ Sp.is_zero D s → is_zero N D r ≡ false → D ≡ 0 → LedAnswer D σ m k s r (Some 0) m
  full f g e = exits (flat D e q.at_s q.at_r f g)

  -- found in the cache
  pub hit : {v : ℕ} {w : Option ℕ} → Holds m (LEAST + k) s r v → word w ≡ v → LedAnswer D σ m k s r w m
  hit found e = exits (kept_is q.at_s (subst (LeastKept σ (LEAST + k) s r) (sym e) (sound_holds q.sound found (omega arith) code_small)))

  -- a number and its word, which is noted
  pub short : {w : Option ℕ} {m1 : List ℕ} → LedAnswer D σ m k s r w m1 → IfSome w (λ n. n < 4294967295)
  short A =
      let (p, e) = packet_of D k q.small in
      fits (least D (led_to σ D s r p)) (A.is p e) (omega (arith, q.deep, q.few))

  pub noted : {w : Option ℕ} {m1 m2 : List ℕ} {v : ℕ} → LedAnswer D σ m k s r w m1 → v ≡ word w → WritesValid (Exactly (LEAST + k) s r v) m1 m2 → LedAnswer D σ m k s r w m2
  noted A e l = record {
    is = A.is;
    notes = notes_trans A.notes (notes_one l (record {
      from = omega arith;
      to = code_small;
      valid = record { depth = D; at_s = q.at_s; at_r = q.at_r; small = omega (arith, q.small); is = λ p f. e ∙ ap word (A.is p (omega arith)) };
    }));
  }

  module _ (above : D ≡ 0 → ⊥) where
    D-is : D ≡ suc (D - 1)
    D-is = omega (arith, above)

    at_s : SpLaws.ValidAt σ.sp (suc (D - 1)) s
    at_s = subst (λ (k : ℕ). SpLaws.ValidAt σ.sp k s) D-is q.at_s

    at_r : ValidAt σ.spp (suc (D - 1)) r
    at_r = subst (λ (k : ℕ). ValidAt σ.spp k r) D-is q.at_r

    pub inner : Inner σ.sp.words s
    inner = record { low = at_s.0; inside = omega (arith, at_s.1, q.wf.sp_wf.fits) }

    pub row_ready : (1 ≤ D) × (D ≤ 31) × (k < 2 ^ D) × (2 ≤ r) × (4 * r ≤ length σ.spp.words + 4)
    row_ready = (omega (arith, above), omega (arith, q.deep, q.few), q.small, at_r.0, omega (arith, at_r.1, q.wf.spp_wf.nodes.fits))

    module _ {p0 p1 : ℕ} (K : Kids σ.sp.words s p0 p1) {x0 x1 rest : ℕ} (R : RowOf σ.spp.words D k r x0 x1 rest) where
      asked : (j : Bool) {m' : List ℕ} {x y t : ℕ} → x ≡ Sp.child σ.sp.words j s → y ≡ kids σ.spp.words r R.first j → Sound (LeastRead σ) m' → D ≡ t → (D - 1 < t) × LedAsked N (D - 1) σ m' rest x y
      asked j e f v l = (
        omega (arith, above),
        record {
          few = q.few;
          deep = omega (arith, q.deep);
          wf = q.wf;
          at_s = subst (SpLaws.ValidAt σ.sp (D - 1)) (sym e) (at_s.2 j);
          at_r = subst (ValidAt σ.spp (D - 1)) (sym f) (at_r.2 R.first j);
          small = R.low;
          sound = v;
        },
      )

      pub asked_0 : {t : ℕ} → D ≡ t → (D - 1 < t) × LedAsked N (D - 1) σ m rest p0 x0
      asked_0 = asked false K.left R.zero q.sound

      -- what a call says of the packets with first bit j
      side : (j b : Bool) (p : Packet (D - 1)) {x y : ℕ} {w : Option ℕ} → x ≡ Sp.child σ.sp.words j s → y ≡ kids σ.spp.words r R.first j → b ≡ R.first → w ≡ number_of (least (D - 1) (led_to σ (D - 1) x y p))
          → w ≡ number_of (least (D - 1) (λ h. led_to σ (suc (D - 1)) s r (bit b p) (bit j h)))
      unfolding Sp.mem Spp.mem
      side j b p e f g h =
          h ∙ ap₂ (λ (x y : ℕ). number_of (least (D - 1) (led_to σ (D - 1) x y p))) e (f ∙ ap (λ (c : Bool). kids σ.spp.words r c j) (sym g))

      module _ {low : Option ℕ} {m1 : List ℕ} (A : LedAnswer (D - 1) σ m rest p0 x0 low m1) where
        found_at : is_some low ≡ true → Is σ (suc (D - 1)) k s r low
        found_at some (bit b p) e =
            let (g, f) = first_of b R.first p k rest e R.number R.low in
            low_least (led_to σ (suc (D - 1)) s r (bit b p)) (side false b p K.left R.zero g (A.is p f)) some

        pub found : is_some low ≡ true → {w : Option ℕ} {m' : List ℕ} → w ≡ low → m' ≡ m1 → LedAnswer D σ m k s r w m'
        found some e f = rw (e, f) (record { is = subst (λ (d : ℕ). Is σ d k s r low) (sym D-is) (found_at some); notes = A.notes })

        pub asked_1 : {t : ℕ} → D ≡ t → (D - 1 < t) × LedAsked N (D - 1) σ m1 rest p1 x1
        asked_1 = asked true K.right R.one (past q.sound A.notes)

        module _ {high : Option ℕ} {m2 : List ℕ} (B : LedAnswer (D - 1) σ m1 rest p1 x1 high m2) where
          pub small : (1 ≤ D) × (D ≤ 31) × IfSome high (λ n. n < 2 ^ (D - 1))
          small =
              let (p, e) = packet_of (D - 1) rest R.low in
              (omega (arith, above), omega (arith, q.deep, q.few), below (least (D - 1) (led_to σ (D - 1) p1 x1 p)) (B.is p e) (le_refl (2 ^ (D - 1))))

          next_at : is_some low ≡ false → Is σ (suc (D - 1)) k s r (raised (2 ^ (D - 1)) high)
          next_at none (bit b p) e =
              let (g, f) = first_of b R.first p k rest e R.number R.low in
              high_least (led_to σ (suc (D - 1)) s r (bit b p))
              (side false b p K.left R.zero g (A.is p f)) none
              (side true b p K.right R.one g (B.is p f))

          pub next : is_some low ≡ false → {w : Option ℕ} {m' : List ℕ} → w ≡ raised (2 ^ (D - 1)) high → m' ≡ m2 → LedAnswer D σ m k s r w m'
          next none e f = rw (e, f) (record {
            is = subst (λ (d : ℕ). Is σ d k s r (raised (2 ^ (D - 1)) high)) (sym D-is) (next_at none);
            notes = notes_trans A.notes B.notes;
          })
