-- 01, "Forms that must change", memo maps in scratch: what packet sets ask of the cache and what they promise: they read valid slots of theirs (`SpValid`) and write no others (`SpNoted`).
-- So a caller has its own slots as they were, and a cache of zeros is sound for all.
use mathlib.Core.Path.{◌≡◌}
use mathlib.Core.List.{List}
use mathlib.Core.Logic.{⊎_elim}
use Prim.Native.Nat.{ℕ, ◌<◌}
use native.Mathlib.Omega.{arith}
use lib.ListN.{length, get_or}
use Rattle.common.specs.Runs.{Table}
use Rattle.cache.specs.Cache.{Valid, Sound, WritesValid}
use Rattle.cache.proofs.Cache.{sound_notes, sound_map, notes_map, sound_zero}
use Rattle.sp_steps.specs.Wf.{Ext}
use Rattle.sp_steps.specs.Reuse.{SpCode, SpValid, SpNoted}
use Rattle.sp_steps.proofs.Reuse.{valid_ext, valid_not, noted_ext, code_range}

module _ {σ τ : Table} (e : Ext σ τ) where
  -- in a later store
  pub sound_ext : {m : List ℕ} → Sound (SpValid σ) m → Sound (SpValid τ) m
  sound_ext s = sound_map (λ _ _ _ _ v. valid_ext e v) s

  pub notes_ext : {m m' : List ℕ} → WritesValid (SpNoted σ) m m' → WritesValid (SpNoted τ) m m'
  notes_ext n = notes_map (λ _ _ _ _ v. noted_ext e v) n

  -- past an operation on packet sets
  pub sound_own : {m m' : List ℕ} → Sound (SpValid σ) m → WritesValid (SpNoted τ) m m' → Sound (SpValid τ) m'
  sound_own s n = sound_notes (sound_ext s) (notes_map (λ _ _ _ _ v. v.valid) n)

-- what is asked of slots that are not of packet sets holds past an operation on packet sets
pub other_sound : {P : Valid} {σ : Table} {m m' : List ℕ} → ((op a b r : ℕ) → SpCode op → P op a b r) → Sound P m → WritesValid (SpNoted σ) m m' → Sound P m'
other_sound f s n = sound_notes s (notes_map (λ op a b r v. f op a b r v.own) n)

-- and the slots of packet sets stay past whoever writes none of theirs
pub sound_past : {P : Valid} {σ : Table} {m m' : List ℕ} → ((op a b r : ℕ) → P op a b r → SpCode op → ⊥) → Sound (SpValid σ) m → WritesValid P m m' → Sound (SpValid σ) m'
sound_past f s n = sound_notes s (notes_map (λ op a b r v. valid_not (λ c. f op a b r v c)) n)

-- a cache of zeros
pub zero_sound : {σ : Table} {m : List ℕ} → ((i : ℕ) → i < length m → get_or m i 0 ≡ 0) → Sound (SpValid σ) m
zero_sound z = sound_zero (valid_not (λ c. ⊎_elim (λ l. omega arith) (λ e. omega arith) (code_range c))) z
