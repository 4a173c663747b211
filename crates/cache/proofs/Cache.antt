-- What holds of the definitions of specs/Cache.
use mathlib.Core.Path.{◌≡◌, refl, sym, ◌∙◌, subst}
use mathlib.Core.Logic.{◌⊎◌, inl, inr}
use mathlib.Core.List.{List}
use Prim.Native.Nat.{ℕ, ◌+◌, ◌*◌, ◌≤◌, ◌<◌}
use native.Mathlib.Omega.{arith}
use lib.ListN.{length, get_or}
use Rattle.cache.specs.Cache.{Valid, Slot, Exactly, Kept, Sound, WritesValid, Holds, OnCodes, OnlyCodes}

by_words_lem : (P : Valid) {op a b r o x y z : ℕ} → Exactly op a b r o x y z → P op a b r → P o x y z
by_words_lem P {op} {a} {b} {r} {o} {x} {y} {z} e v =
    subst (λ (k : ℕ). P k x y z) (sym e.0)
    (subst (λ (k : ℕ). P op k y z) (sym e.1)
    (subst (λ (k : ℕ). P op a k z) (sym e.2)
    (subst (λ (k : ℕ). P op a b k) (sym e.3) v)))

notes_by : {P Q : Valid} {m m' : List ℕ} → ((j : ℕ) → Slot P m' j → Slot Q m' j) → WritesValid P m m' → WritesValid Q m m'
notes_by {P} {Q} {m} {m'} f n = record { same = n.same; slots = λ j l. pick j (n.slots j l) }
  where
    pick : (j : ℕ) → Kept m m' j ⊎ Slot P m' j → Kept m m' j ⊎ Slot Q m' j
    pick j (inl e) = inl e
    pick j (inr v) = inr (f j v)

module _ {P : Valid} where
  pub sound_notes : {m m' : List ℕ} → Sound P m → WritesValid P m m' → Sound P m'
  sound_notes {m} {m'} s n = record { slots = λ j l. go j (subst (λ (k : ℕ). 4 * j + 3 < k) n.same l) }
    where
      pick : (j : ℕ) → 4 * j + 3 < length m → Kept m m' j ⊎ Slot P m' j → Slot P m' j
      pick j l (inl e) = by_words_lem P e (s.slots j l)
      pick j l (inr v) = v

      go : (j : ℕ) → 4 * j + 3 < length m → Slot P m' j
      go j l = pick j l (n.slots j l)

  -- what is found is valid
  pub sound_holds : {m : List ℕ} {op a b r : ℕ} → Sound P m → Holds m op a b r → P op a b r
  sound_holds s h =
      let e = h.words in
      by_words_lem P (sym e.0, sym e.1, sym e.2, sym e.3) (s.slots h.slot h.inside)

  pub notes_refl : {m : List ℕ} → WritesValid P m m
  notes_refl = record { same = refl; slots = λ j l. inl (refl, refl, refl, refl) }

  pub notes_trans : {m m' m'' : List ℕ} → WritesValid P m m' → WritesValid P m' m'' → WritesValid P m m''
  notes_trans {m} {m'} {m''} n k = record { same = k.same ∙ n.same; slots = λ j l. go j l }
    where
      pick : (j : ℕ) → Kept m m' j ⊎ Slot P m' j → Kept m' m'' j ⊎ Slot P m'' j → Kept m m'' j ⊎ Slot P m'' j
      pick j x (inr v) = inr v
      pick j (inl e) (inl f) = inl (f.0 ∙ e.0, f.1 ∙ e.1, f.2 ∙ e.2, f.3 ∙ e.3)
      pick j (inr v) (inl f) = inr (by_words_lem P f v)

      go : (j : ℕ) → 4 * j + 3 < length m → Kept m m'' j ⊎ Slot P m'' j
      go j l = pick j (n.slots j l) (k.slots j (subst (λ (z : ℕ). 4 * j + 3 < z) (sym n.same) l))

  -- a cache of zeros, where an empty slot is valid
  pub sound_zero : {m : List ℕ} → P 0 0 0 0 → ((i : ℕ) → i < length m → get_or m i 0 ≡ 0) → Sound P m
  sound_zero {m} v z = record { slots = λ j l. by_words_lem P (z (4 * j) (omega arith), z (4 * j + 1) (omega arith), z (4 * j + 2) (omega arith), z (4 * j + 3) l) v }

  -- one slot was noted, and it is valid
  pub notes_one : {m m' : List ℕ} {op a b r : ℕ} → WritesValid (Exactly op a b r) m m' → P op a b r → WritesValid P m m'
  notes_one n v = notes_by (λ j e. by_words_lem P e v) n

module _ {P Q : Valid} (f : (o x y z : ℕ) → P o x y z → Q o x y z) where
  pub sound_map : {m : List ℕ} → Sound P m → Sound Q m
  sound_map s = record { slots = λ j l. f _ _ _ _ (s.slots j l) }

  pub notes_map : {m m' : List ℕ} → WritesValid P m m' → WritesValid Q m m'
  notes_map n = notes_by (λ j v. f _ _ _ _ v) n

module _ {lo hi : ℕ} {P Q : Valid} (f : (o x y z : ℕ) → P o x y z → Q o x y z) where
  -- past notes of one's own
  pub sound_own : {m m' : List ℕ} → Sound (OnCodes lo hi P) m → WritesValid (OnlyCodes lo hi Q) m m' → Sound (OnCodes lo hi Q) m'
  sound_own s n = sound_notes (sound_map (λ o x y z v l h. f o x y z (v l h)) s) (notes_map (λ o x y z w l h. w.valid) n)

  -- past notes of another user, whose codes are others
  pub sound_other : {lo' hi' : ℕ} {R : Valid} {m m' : List ℕ} → ((o : ℕ) → lo ≤ o → o ≤ hi → lo' ≤ o → o ≤ hi' → ⊥)
      → Sound (OnCodes lo hi P) m → WritesValid (OnlyCodes lo' hi' R) m m' → Sound (OnCodes lo hi Q) m'
  sound_other apart s n = sound_notes (sound_map (λ o x y z v l h. f o x y z (v l h)) s) (notes_map (λ o x y z w l h. absurd (apart o l h w.from w.to)) n)

  pub notes_own : {m m' : List ℕ} → WritesValid (OnlyCodes lo hi P) m m' → WritesValid (OnlyCodes lo hi Q) m m'
  notes_own n = notes_map (λ o x y z w. record { from = w.from; to = w.to; valid = f o x y z w.valid }) n
