-- 01, "Who can cause a refusal", 20: an operation on packet sets is refused with 20 and no other number, and only where it needs
-- a node that is not there and for which no record is left.
use mathlib.Core.Path.{◌≡◌, refl, sym, subst}
use mathlib.Core.Bool.{Bool, true, false}
use Prim.Native.Nat.{ℕ, zero, suc, ◌≤◌}
use native.Mathlib.Omega.{arith}
use Rattle.common.specs.Packets.{Set}
use Rattle.common.specs.Outcome.{Outcome, refused, given, Step, return, after, Gives, gives}
use Rattle.common.specs.Runs.{Table, StableResult}
use Rattle.sp_steps.specs.Op.{Op}
use Rattle.sp_steps.proofs.Op.{sem}
use Rattle.sp_steps.specs.Model.{child, mk, Exit, out, on, exit, join, both, follow, apply, union, xor, complement, intersect, difference}
use Rattle.sp_steps.specs.Wf.{Wf, Below, Ext, ValidAt, Denotes}
use Rattle.sp_steps.proofs.Laws.{sp_theory, ext_refl, ext_trans, den_child, den_ext}
use Rattle.sp_steps.specs.Make.{Short}
use Rattle.sp_steps.proofs.Make.{mk_refused}
use Rattle.sp_steps.proofs.Apply.{Leads, exit_right, apply_runs}
use Rattle.sp_steps.proofs.Sets.{complement_den}

-- from σ the steps come to a store that lacks a record for a node of two sets of one depth
pub record Lacks (N : ℕ) (σ : Table) : Type 0 where
  pub last : Table
  pub later : Ext σ last
  pub wf : Wf N last
  pub depth : ℕ
  pub left : ℕ
  pub right : ℕ
  pub left_at : ValidAt last depth left
  pub right_at : ValidAt last depth right
  pub short : Short left right last

-- an outcome is refused only with 20, and only so
pub data Stops (N : ℕ) (σ : Table) : Outcome Table ℕ → Type 0 where
  lacks : Lacks N σ → Stops N σ (refused 20)
  goes : {τ : Table} {h : ℕ} → Stops N σ (given τ h)

pub stops_number : {N : ℕ} {σ : Table} {o : Outcome Table ℕ} → Stops N σ o → (number : ℕ) → o ≡ refused number → (number ≡ 20) × Lacks N σ
stops_number {N} {σ} {o} s number q = go (subst (Stops N σ) q s)
  where
    back : {k : ℕ} → Stops N σ (refused k) → (k ≡ 20) × Lacks N σ
    back (lacks l) = (refl, l)

    go : Stops N σ (refused number) → (number ≡ 20) × Lacks N σ
    go s = back s

stops_ext : {N : ℕ} {σ τ : Table} {o : Outcome Table ℕ} → Ext σ τ → Stops N τ o → Stops N σ o
stops_ext e (lacks l) = lacks (record { last = l.last; later = ext_trans e l.later; wf = l.wf; depth = l.depth; left = l.left; right = l.right; left_at = l.left_at; right_at = l.right_at; short = l.short })
stops_ext e goes = goes

stops_after : {N : ℕ} {σ : Table} {c : Step Table ℕ} {P : Table → ℕ → Type 0} (o : Outcome Table ℕ) (k : ℕ → Step Table ℕ) → Stops N σ o → Gives (StableResult (sp_theory N) c P σ) o
    → ((τ : Table) (h : ℕ) → StableResult (sp_theory N) c P σ τ h → Stops N τ (k h τ)) → Stops N σ (after o k)
stops_after (refused number) k (lacks l) g f = lacks l
stops_after (given τ h) k s (gives x) f = stops_ext x.ext (f τ h x)

mk_stops : (N d x0 x1 : ℕ) (σ : Table) → Wf N σ → ValidAt σ d x0 → ValidAt σ d x1 → Stops N σ (mk x0 x1 σ)
mk_stops N d x0 x1 σ w a b = go (mk x0 x1 σ) refl
  where
    go : (o : Outcome Table ℕ) → mk x0 x1 σ ≡ o → Stops N σ o
    go (given τ h) q = goes
    go (refused number) q =
        let m = mk_refused x0 x1 σ number q in
        subst (λ (k : ℕ). Stops N σ (refused k)) (sym m.0)
        (lacks (record { last = σ; later = ext_refl σ; wf = w; depth = d; left = x0; right = x1; left_at = a; right_at = b; short = m.1 }))

pub apply_stops : (N : ℕ) (o : Op) (d : ℕ) → d ≤ N → (σ : Table) (a b : ℕ) (A B : Set d) → Wf N σ → Denotes σ d a A → Denotes σ d b B → Stops N σ (apply o d a b σ)
unfolding apply both join
apply_stops N o zero l σ a b A B w X Y = goes
apply_stops N o (suc d) l σ a b A B w X Y =
    at_exit (λ u. apply_stops N u d (omega arith)) (exit o (suc d) a b) (exit_right w l X Y o)
  where
    at_exit : ((u : Op) (σ : Table) (a b : ℕ) (A B : Set d) → Wf N σ → Denotes σ d a A → Denotes σ d b B → Stops N σ (apply u d a b σ)) → (z : Exit) → Leads σ (suc d) (λ p. sem o (A p) (B p)) z
        → Stops N σ (follow z (λ o'. apply o' d) σ)
    at_exit rec (out h) m = goes
    at_exit rec (on u x y) m =
        let D : (c : Bool) → Denotes σ d (child σ.words c x) _ = den_child m.den_x in
        let E : (c : Bool) → Denotes σ d (child σ.words c y) _ = den_child m.den_y in
        stops_after (apply u d (child σ.words false x) (child σ.words false y) σ) _ (rec u σ _ _ _ _ w (D false) (E false)) (apply_runs (Below N) N u d (omega arith) σ _ _ _ _ w (D false) (E false)) (λ τ x0 g.
        stops_after (apply u d (child σ.words true x) (child σ.words true y) τ) _ (rec u τ _ _ _ _ g.wf (den_ext g.ext (D true)) (den_ext g.ext (E true))) (apply_runs (Below N) N u d (omega arith) τ _ _ _ _ g.wf (den_ext g.ext (D true)) (den_ext g.ext (E true))) (λ υ x1 f.
        mk_stops N d x0 x1 υ f.wf (den_ext f.ext g.holds).at f.holds.at))

module _ (N d : ℕ) (l : d ≤ N) (σ : Table) (a b : ℕ) (A B : Set d) (w : Wf N σ) (X : Denotes σ d a A) (Y : Denotes σ d b B) where
  pub union_stops : Stops N σ (union d a b σ)
  unfolding union
  union_stops = apply_stops N Op.union d l σ a b A B w X Y

  pub xor_stops : Stops N σ (xor d a b σ)
  unfolding xor
  xor_stops = apply_stops N Op.xor d l σ a b A B w X Y

  turned : (o : Outcome Table ℕ) → Stops N σ o → Stops N σ (after o (λ r. return (complement r)))
  turned (refused number) (lacks h) = lacks h
  turned (given τ h) s = goes

  pub intersect_stops : Stops N σ (intersect d a b σ)
  unfolding intersect union
  intersect_stops =
      turned (union d (complement a) (complement b) σ) (apply_stops N Op.union d l σ _ _ _ _ w (complement_den X) (complement_den Y))

  pub difference_stops : Stops N σ (difference d a b σ)
  unfolding difference union
  difference_stops = turned (union d (complement a) b σ) (apply_stops N Op.union d l σ _ _ _ _ w (complement_den X) Y)
