-- What holds of the definitions of specs/Reuse.
use mathlib.Core.Path.{◌≡◌, refl, ◌∙◌, ap}
use mathlib.Core.Bool.{false}
use mathlib.Core.List.{List}
use mathlib.Core.Logic.{inl, inr, ⊎_elim}
use Prim.Native.Nat.{ℕ, suc, ◌≤◌}
use native.Mathlib.Omega.{arith}
use lib.Dec.{eqb}
use Rattle.common.specs.Outcome.{given}
use Rattle.common.specs.Runs.{Table}
use Rattle.cache.specs.Cache.{OnCodes, OnlyCodes, Sound, Holds}
use Rattle.cache.proofs.Cache.{sound_holds}
use Rattle.cache.proofs.Stage.{Memo}
use Rattle.sp_steps.specs.Reuse.{wide, SpValid, SpCode}
use Rattle.sp_steps.proofs.Reuse.{valid_ext, valid_not, noted_ext, code_range}
use Rattle.spp_steps.specs.Model.{size}
use Rattle.spp_steps.specs.ImageModel.{Stores, ifwd, has_image}
use Rattle.spp_steps.specs.Wf.{Ext, ValidAt}
use Rattle.spp_steps.proofs.Laws.{at_ext, one_depth}
use Rattle.spp_steps.proofs.Size.{size_ext}
use Rattle.spp_steps.specs.Images.{BothWf}
use Rattle.spp_steps.proofs.Images.{BothExt, both_theory}
use Rattle.spp_steps.proofs.Reuse as Steps
use Rattle.spp_image.specs.Ways.{project, lead}
use Rattle.spp_image.specs.declared.Way.{Way}
use Rattle.spp_image.specs.declared.Way.TheVariants.{Forward, Backward}
use Rattle.spp_image.specs.Reuse.{project_code, lead_code, tells, run, depth_by, Kept, Held, Written, Counted}

abbrev pub Deep : ℕ → Stores → ℕ → ℕ → ℕ → ℕ → Type 0
Deep N σ code d x y = (depth_by N (eqb code 12) x y).Of σ d

pub kept_ext : (N : ℕ) {σ τ : Stores} → BothExt σ τ → (code x y r : ℕ) → Kept N σ code x y r → Kept N τ code x y r
kept_ext N e code x y r k = Steps.kept_ext (both_theory N) (depth_by N (eqb code 12) x y) e k

-- a hit: the operation gives what was found
pub reused : (N : ℕ) {σ : Stores} {m : List ℕ} {code x y r : ℕ} (d : ℕ) → BothWf N σ → Deep N σ code (suc d) x y → 10 ≤ code → code ≤ 15
    → Sound (OnCodes 10 15 (Kept N σ)) m → Holds m code x y r → run N code d x y σ ≡ given σ r
reused N {code} {x} {y} d w a l h s found = Steps.reuse (both_theory N) (depth_by N (eqb code 12) x y) d w a (sound_holds s found l h)

-- a run that gives the same in every later store may be noted
pub to_note : (N : ℕ) {σ : Stores} (code x y : ℕ) {r : ℕ} (d : ℕ) → 10 ≤ code → code ≤ 15 → Deep N σ code (suc d) x y
    → ((τ : Stores) → BothExt σ τ → BothWf N τ → run N code d x y τ ≡ given τ r) → OnlyCodes 10 15 (Kept N σ) code x y r
to_note N code x y d l h a again = record { from = l; to = h; valid = record { below = d; depth = a; again = again } }

-- ---- the cache of a function that makes no packet node

abbrev pub img_memo : ℕ → Memo
img_memo N = record {
  theory = both_theory N;
  Read = λ σ. OnCodes 10 15 (Kept N σ);
  Note = λ σ. OnlyCodes 10 15 (Kept N σ);
  read_ext = λ σ τ e o x y z v l h. kept_ext N e o x y z (v l h);
  note_ext = λ σ τ e o x y z w. record { from = w.from; to = w.to; valid = kept_ext N e o x y z w.valid };
  note_read = λ σ o x y z w l h. w.valid;
}

pub held : {N : ℕ} {σ : Stores} {m : List ℕ} → Sound (SpValid σ.sp) m → Sound (OnCodes 10 15 (Kept N σ)) m → Sound (Held N σ) m
held s i = record { slots = λ j l. record { sets = s.slots j l; images = i.slots j l } }

-- the codes are apart
pub apart : {op : ℕ} → SpCode op → 10 ≤ op → op ≤ 15 → ⊥
apart c l h = ⊎_elim (λ e. omega arith) (λ e. omega arith) (code_range c)

pub held_ext : {N : ℕ} {σ τ : Stores} → BothExt σ τ → (op x y r : ℕ) → Held N σ op x y r → Held N τ op x y r
held_ext {N} e op x y r v = record { sets = valid_ext e.sp_ext v.sets; images = λ l h. kept_ext N e op x y r (v.images l h) }

pub written_ext : {N : ℕ} {σ τ : Stores} → BothExt σ τ → (op x y r : ℕ) → Written N σ op x y r → Written N τ op x y r
written_ext e op x y r (inl v) = inl (noted_ext e.sp_ext v)
written_ext {N} e op x y r (inr w) = inr (record { from = w.from; to = w.to; valid = kept_ext N e op x y r w.valid })

pub written_held : {N : ℕ} (σ : Stores) (op x y r : ℕ) → Written N σ op x y r → Held N σ op x y r
written_held σ op x y r (inl v) = record { sets = v.valid; images = λ l h. absurd (apart v.own l h) }
written_held σ op x y r (inr w) = record { sets = valid_not (λ c. apart c w.from w.to); images = λ l h. w.valid }

abbrev pub set_memo : ℕ → Memo
set_memo N = record {
  theory = both_theory N;
  Read = Held N;
  Note = Written N;
  read_ext = λ σ τ e. held_ext e;
  note_ext = λ σ τ e. written_ext e;
  note_read = written_held;
}

pub counted_ext : {σ τ : Table} → Ext σ τ → (code a b r : ℕ) → Counted σ code a b r → Counted τ code a b r
counted_ext e code a b r k = record { depth = k.depth; at = at_ext e k.depth a k.at; counts = size_ext e k.depth a k.at ∙ k.counts }

pub reused_count : {σ : Table} {m : List ℕ} {a b r : ℕ} (d : ℕ) → ValidAt σ d a → Sound (OnCodes 17 17 (Counted σ)) m → Holds m 17 a b r → size σ.words d a ≡ wide b r
reused_count {σ} {a} d x s found =
    let k = sound_holds s found (omega arith) (omega arith) in
    ap (λ (e : ℕ). size σ.words e a) (one_depth σ d k.depth a x k.at) ∙ k.counts

pub count_to_note : {σ : Table} {a b r : ℕ} (d : ℕ) → ValidAt σ d a → size σ.words d a ≡ wide b r → OnlyCodes 17 17 (Counted σ) 17 a b r
count_to_note d x e = record { from = omega arith; to = omega arith; valid = record { depth = d; at = x; counts = e } }

-- ---- codes and directions

module _ (N d x y : ℕ) where
  pub run_project : (w : Way) → run N (project_code w) d x y ≡ project w (suc d) y
  unfolding run
  run_project Forward = refl
  run_project Backward = refl

  pub run_lead : (w : Way) → run N (lead_code w) d x y ≡ lead w N (suc d) x y
  unfolding run
  run_lead Forward = refl
  run_lead Backward = refl

  pub run_ifwd : run N 12 d x y ≡ ifwd (suc d) x
  unfolding run
  run_ifwd = refl

  pub run_has : run N 15 d x y ≡ tells (has_image N (suc d) x y)
  unfolding run
  run_has = refl

-- codes of relations' operands: y has the depth
pub project_code_lem : (w : Way) → (10 ≤ project_code w) × (project_code w ≤ 15) × (eqb (project_code w) 12 ≡ false)
project_code_lem Forward = (omega arith, omega arith, refl)
project_code_lem Backward = (omega arith, omega arith, refl)

pub lead_code_lem : (w : Way) → (10 ≤ lead_code w) × (lead_code w ≤ 15) × (eqb (lead_code w) 12 ≡ false)
lead_code_lem Forward = (omega arith, omega arith, refl)
lead_code_lem Backward = (omega arith, omega arith, refl)
