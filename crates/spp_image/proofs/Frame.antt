-- The cache of all diagram operations. A caller of several of them asks one thing, `Sound (Cached N σ) m`; what each asks follows from it, and it holds
-- again after each, since each notes valid slots of its own codes (`Noted`).
use mathlib.Core.Path.{◌≡◌}
use mathlib.Core.List.{List}
use mathlib.Core.Logic.{⊎_elim}
use Prim.Native.Nat.{ℕ, ◌≤◌, ◌<◌}
use native.Mathlib.Omega.{arith}
use lib.ListN.{length, get_or}
use Rattle.cache.specs.Cache.{OnCodes, OnlyCodes, Sound, WritesValid}
use Rattle.cache.proofs.Cache.{sound_map, notes_map, sound_zero}
use Rattle.cache.proofs.Stage.{Memo}
use Rattle.sp_steps.specs.Reuse.{SpValid, SpNoted, SpCode}
use Rattle.sp_steps.proofs.Reuse.{valid_ext, valid_not, noted_ext, code_range}
use Rattle.spp_steps.specs.ImageModel.{Stores}
use Rattle.spp_steps.proofs.Laws.{spp_theory}
use Rattle.spp_steps.proofs.Images.{BothExt, both_theory}
use Rattle.spp_steps.proofs.Reuse as Steps
use Rattle.spp.specs.Reuse as Spp
use Rattle.spp_image.specs.Reuse.{Kept, Held, Written, Counted}
use Rattle.spp_image.proofs.Reuse.{kept_ext, counted_ext}

-- packet sets have the codes 1, 2 and 16, relations 3 to 9, images 10 to 15, and 17 is the number of pairs
pub record Cached (N : ℕ) (σ : Stores) (op x y r : ℕ) : Type 0 where
  pub sets : SpValid σ.sp op x y r
  pub relations : OnCodes 3 9 (Spp.Kept N σ.spp) op x y r
  pub images : OnCodes 10 15 (Kept N σ) op x y r
  pub sizes : OnCodes 17 17 (Counted σ.spp) op x y r

pub data Noted (N : ℕ) (σ : Stores) (op x y r : ℕ) : Type 0 where
  by_sets : SpNoted σ.sp op x y r → Noted N σ op x y r
  by_relations : OnlyCodes 3 9 (Spp.Kept N σ.spp) op x y r → Noted N σ op x y r
  by_images : OnlyCodes 10 15 (Kept N σ) op x y r → Noted N σ op x y r
  by_sizes : OnlyCodes 17 17 (Counted σ.spp) op x y r → Noted N σ op x y r

spp_ext : (N : ℕ) {σ τ : Stores} → BothExt σ τ → (op x y r : ℕ) → Spp.Kept N σ.spp op x y r → Spp.Kept N τ.spp op x y r
spp_ext N e op x y r k = Steps.kept_ext (spp_theory N) (Steps.of_rel N x) e.spp_ext k

pub cached_ext : {N : ℕ} {σ τ : Stores} → BothExt σ τ → (op x y r : ℕ) → Cached N σ op x y r → Cached N τ op x y r
cached_ext {N} e op x y r c = record {
  sets = valid_ext e.sp_ext c.sets;
  relations = λ l h. spp_ext N e op x y r (c.relations l h);
  images = λ l h. kept_ext N e op x y r (c.images l h);
  sizes = λ l h. counted_ext e.spp_ext op x y r (c.sizes l h);
}

pub noted_later : {N : ℕ} {σ τ : Stores} → BothExt σ τ → (op x y r : ℕ) → Noted N σ op x y r → Noted N τ op x y r
noted_later e op x y r (by_sets v) = by_sets (noted_ext e.sp_ext v)
noted_later {N} e op x y r (by_relations w) = by_relations (record { from = w.from; to = w.to; valid = spp_ext N e op x y r w.valid })
noted_later {N} e op x y r (by_images w) = by_images (record { from = w.from; to = w.to; valid = kept_ext N e op x y r w.valid })
noted_later e op x y r (by_sizes w) = by_sizes (record { from = w.from; to = w.to; valid = counted_ext e.spp_ext op x y r w.valid })

-- no code of packet sets is from 3 to 15, or 17
set_code : {op : ℕ} → SpCode op → (3 ≤ op → op ≤ 15 → ⊥) × (17 ≤ op → ⊥)
set_code c = ⊎_elim (λ e. ((λ l h. omega arith), (λ l. omega arith))) (λ e. ((λ l h. omega arith), (λ l. omega arith))) (code_range c)

pub noted_cached : {N : ℕ} (σ : Stores) (op x y r : ℕ) → Noted N σ op x y r → Cached N σ op x y r
noted_cached σ op x y r (by_sets v) =
    let n = set_code v.own in
    record {
      sets = v.valid;
      relations = λ l h. absurd (n.0 l (omega arith));
      images = λ l h. absurd (n.0 (omega arith) h);
      sizes = λ l h. absurd (n.1 l);
    }
noted_cached σ op x y r (by_relations w) = record {
  sets = valid_not (λ c. (set_code c).0 w.from (omega (arith, w.to)));
  relations = λ l h. w.valid;
  images = λ l h. absurd (omega (arith, w.to));
  sizes = λ l h. absurd (omega (arith, w.to));
}
noted_cached σ op x y r (by_images w) = record {
  sets = valid_not (λ c. (set_code c).0 (omega (arith, w.from)) w.to);
  relations = λ l h. absurd (omega (arith, w.from));
  images = λ l h. w.valid;
  sizes = λ l h. absurd (omega (arith, w.to));
}
noted_cached σ op x y r (by_sizes w) = record {
  sets = valid_not (λ c. (set_code c).1 w.from);
  relations = λ l h. absurd (omega (arith, w.from));
  images = λ l h. absurd (omega (arith, w.from));
  sizes = λ l h. w.valid;
}

-- runs of calls with this cache
abbrev pub diagram_memo : ℕ → Memo
diagram_memo N = record {
  theory = both_theory N;
  Read = Cached N;
  Note = Noted N;
  read_ext = λ σ τ e. cached_ext e;
  note_ext = λ σ τ e. noted_later e;
  note_read = noted_cached;
}

module _ {N : ℕ} {σ : Stores} {m : List ℕ} where
  -- what each asks
  pub for_sets : Sound (Cached N σ) m → Sound (SpValid σ.sp) m
  for_sets s = sound_map (λ _ _ _ _ c. c.sets) s

  pub for_relations : Sound (Cached N σ) m → Sound (OnCodes 3 9 (Spp.Kept N σ.spp)) m
  for_relations s = sound_map (λ _ _ _ _ c. c.relations) s

  pub for_images : Sound (Cached N σ) m → Sound (OnCodes 10 15 (Kept N σ)) m
  for_images s = sound_map (λ _ _ _ _ c. c.images) s

  pub for_led : Sound (Cached N σ) m → Sound (Held N σ) m
  for_led s = sound_map (λ _ _ _ _ c. record { sets = c.sets; images = c.images }) s

  pub for_size : Sound (Cached N σ) m → Sound (OnCodes 17 17 (Counted σ.spp)) m
  for_size s = sound_map (λ _ _ _ _ c. c.sizes) s

  -- what each notes; fwd, bwd, push and pull as packet sets and images do
  pub of_led : {m' : List ℕ} → WritesValid (Written N σ) m m' → WritesValid (Noted N σ) m m'
  of_led n = notes_map (λ _ _ _ _ w. ⊎_elim by_sets by_images w) n

  -- a cache of zeros
  pub zero_cached : ((i : ℕ) → i < length m → get_or m i 0 ≡ 0) → Sound (Cached N σ) m
  zero_cached z = sound_zero (record {
    sets = valid_not (λ c. ⊎_elim (λ l. omega arith) (λ e. omega arith) (code_range c));
    relations = λ l h. absurd (omega arith);
    images = λ l h. absurd (omega arith);
    sizes = λ l h. absurd (omega arith);
  }) z
