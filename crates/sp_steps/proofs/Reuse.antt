-- What holds of the definitions of specs/Reuse.
use mathlib.Core.Path.{◌≡◌, refl, ◌∙◌, ap, subst}
use mathlib.Core.Logic.{◌⊎◌, inl, inr}
use Prim.Native.Nat.{ℕ, suc, ◌≤◌}
use native.Mathlib.Omega.{arith}
use Rattle.common.specs.Packets.{Set}
use Rattle.common.specs.Outcome.{given}
use Rattle.common.proofs.Follow.{given_of}
use Rattle.common.specs.Runs.{Table, StableResult}
use Rattle.sp_steps.specs.Op.{Op}
use Rattle.sp_steps.proofs.Op.{sem}
use Rattle.sp_steps.specs.Model.{mem, both, apply, size}
use Rattle.sp_steps.specs.Wf.{WfAny, Any, Ext, ValidAt, Denotes}
use Rattle.sp_steps.proofs.Laws.{theory_in, ext_refl, ext_trans, at_ext, one_depth, den_mem, wf_down}
use Rattle.sp_steps.proofs.Size.{size_ext}
use Rattle.sp_steps.proofs.Apply.{apply_runs, both_runs}
use Rattle.sp_steps.specs.Reuse.{code, count_code, wide, Applied, SpValid, SpCode, applies, counts, SpNoted}

code_small : (o : Op) → (1 ≤ code o) × (code o ≤ 2)
code_small Op.union = (omega arith, omega arith)
code_small Op.xor = (omega arith, omega arith)

code_same : (o u : Op) → code o ≡ code u → o ≡ u
code_same Op.union Op.union e = refl
code_same Op.xor Op.xor e = refl
code_same Op.union Op.xor e = absurd (omega arith)
code_same Op.xor Op.union e = absurd (omega arith)

-- a later store
pub valid_ext : {σ τ : Table} {op a b r : ℕ} → Ext σ τ → SpValid σ op a b r → SpValid τ op a b r
valid_ext {σ} {τ} {op} {a} {b} {r} e v = record {
  applied = λ o q. let s = v.applied o q in record {
    below = s.below;
    at_a = at_ext e (suc s.below) a s.at_a;
    at_b = at_ext e (suc s.below) b s.at_b;
    again = λ υ x w. s.again υ (ext_trans e x) w;
  };
  counted = λ q. let s = v.counted q in record {
    depth = s.depth;
    at_a = at_ext e s.depth a s.at_a;
    counts = size_ext e s.depth a s.at_a ∙ s.counts;
  };
}

-- nothing is asked of the code of something else, 0 (an empty slot) too
pub valid_not : {σ : Table} {op a b r : ℕ} → (SpCode op → ⊥) → SpValid σ op a b r
valid_not f = record { applied = λ o q. absurd (f (applies o q)); counted = λ q. absurd (f (counts q)) }

pub noted_ext : {σ τ : Table} {op a b r : ℕ} → Ext σ τ → SpNoted σ op a b r → SpNoted τ op a b r
noted_ext e v = record { own = v.own; valid = valid_ext e v.valid }

-- 1, 2 or 16
pub code_range : {op : ℕ} → SpCode op → ((1 ≤ op) × (op ≤ 2)) ⊎ (op ≡ count_code)
code_range (applies o e) = inl (let s = code_small o in (omega arith, omega arith))
code_range (counts e) = inr e

-- ---- reuse

pub reuse : (o : Op) (d a b r : ℕ) (σ : Table) → WfAny (suc d) σ → ValidAt σ (suc d) a → SpValid σ (code o) a b r → both (apply o d) a b σ ≡ given σ r
reuse o d a b r σ w x v =
    let s = v.applied o refl in
    let e : s.below ≡ d = let q = one_depth σ (suc s.below) (suc d) a s.at_a x in omega arith in
    subst (λ (k : ℕ). both (apply o k) a b σ ≡ given σ r) e (s.again σ (ext_refl σ) (wf_down w (omega arith)))

pub reuse_count : (d a b r : ℕ) (σ : Table) → ValidAt σ d a → SpValid σ count_code a b r → size σ.words d a ≡ wide b r
reuse_count d a b r σ x v =
    let s = v.counted refl in
    ap (λ (k : ℕ). size σ.words k a) (one_depth σ d s.depth a x s.at_a) ∙ s.counts

-- ---- what may be kept

pub keep_applied : (o : Op) (d a b r : ℕ) (σ τ : Table) → WfAny (suc d) σ → ValidAt σ (suc d) a → ValidAt σ (suc d) b → both (apply o d) a b σ ≡ given τ r → SpNoted τ (code o) a b r
keep_applied o d a b r σ τ w x y q = record {
  own = applies o refl;
  valid = record {
    applied = λ u e. subst (λ (z : Op). Applied z τ a b r) (code_same o u e) here;
    counted = λ e. absurd (omega (arith, code_small o));
  };
}
  where
    A : Set (suc d)
    A = mem σ.words (suc d) a

    B : Set (suc d)
    B = mem σ.words (suc d) b

    good : StableResult (theory_in Any (suc d)) (both (apply o d) a b) (λ υ h. Denotes υ (suc d) h (λ p. sem o (A p) (B p))) σ τ r
    good = given_of (both_runs Any (suc d) d o (apply o d) (apply_runs Any (suc d) o d (omega arith)) σ a b A B w (den_mem x) (den_mem y)) q

    here : Applied o τ a b r
    here = record {
      below = d;
      at_a = at_ext good.ext (suc d) a x;
      at_b = at_ext good.ext (suc d) b y;
      again = λ υ e v. good.stable υ e v;
    }

pub keep_count : (d a b r : ℕ) (σ : Table) → ValidAt σ d a → size σ.words d a ≡ wide b r → SpNoted σ count_code a b r
keep_count d a b r σ x q = record {
  own = counts refl;
  valid = record {
    applied = λ o e. absurd (omega (arith, code_small o));
    counted = λ e. record { depth = d; at_a = x; counts = q };
  };
}
