-- What holds of the definitions of specs/Reuse.
use mathlib.Core.Path.{◌≡◌, refl}
use mathlib.Core.List.{List}
use Prim.Native.Nat.{ℕ, suc, ◌≤◌}
use Rattle.common.specs.Outcome.{given}
use Rattle.common.specs.Runs.{Table}
use Rattle.cache.specs.Cache.{OnCodes, OnlyCodes, Sound, Holds}
use Rattle.cache.proofs.Cache.{sound_holds}
use Rattle.cache.proofs.Stage.{Memo}
use Rattle.spp_steps.specs.Model.{Op, union, intersect, xor, difference, not, down, each, apply}
use Rattle.spp_steps.specs.Wf.{Wf, Ext, ValidAt}
use Rattle.spp_steps.proofs.Laws.{spp_theory}
use Rattle.spp_steps.proofs.Reuse as Reuse
use Rattle.spp_steps.proofs.Reuse.{of_rel}
use Rattle.spp.specs.Reuse.{code_of, run, Kept}

-- relations of N fields with a cache
abbrev pub spp_memo : ℕ → Memo
spp_memo N = record {
  theory = spp_theory N;
  Read = λ σ. OnCodes 3 9 (Kept N σ);
  Note = λ σ. OnlyCodes 3 9 (Kept N σ);
  read_ext = λ σ τ e o x y z v l h. Reuse.kept_ext (spp_theory N) (of_rel N x) e (v l h);
  note_ext = λ σ τ e o x y z w. record { from = w.from; to = w.to; valid = Reuse.kept_ext (spp_theory N) (of_rel N x) e w.valid };
  note_read = λ σ o x y z w l h. w.valid;
}

-- a hit: the operation gives what was found
pub reused : {N : ℕ} {σ : Table} {m : List ℕ} {code x y r : ℕ} (d : ℕ) → Wf N σ → ValidAt σ (suc d) x → 3 ≤ code → code ≤ 9
    → Sound (OnCodes 3 9 (Kept N σ)) m → Holds m code x y r → run N code d x y σ ≡ given σ r
reused {N} {x} d w a l h s found = Reuse.reuse (spp_theory N) (of_rel N x) d w a (sound_holds s found l h)

-- a run that gives the same in every later store may be noted
pub to_note : {N : ℕ} {σ : Table} {code x y r : ℕ} (d : ℕ) → 3 ≤ code → code ≤ 9 → ValidAt σ (suc d) x
    → ((τ : Table) → Ext σ τ → Wf N τ → run N code d x y τ ≡ given τ r) → OnlyCodes 3 9 (Kept N σ) code x y r
to_note d l h a again = record { from = l; to = h; valid = record { below = d; depth = a; again = again } }

module _ (N : ℕ) where
  pub run_code : (o : Op) (d x y : ℕ) → run N (code_of o) d x y ≡ down (each (apply N o d)) x y
  unfolding run
  run_code union d x y = refl
  run_code intersect d x y = refl
  run_code xor d x y = refl
  run_code difference d x y = refl
  run_code not d x y = refl
