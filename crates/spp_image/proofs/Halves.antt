-- Two unions and a node: what each call asks, and what the whole comes to.
use mathlib.Core.Path.{◌≡◌, ◌∙◌, ap}
use mathlib.Core.List.{List}
use Prim.Native.Nat.{ℕ, suc, ◌≤◌}
use native.Mathlib.Nat.{le_refl}
use Rattle.common.specs.Outcome.{Outcome, refused, after}
use Rattle.common.proofs.Follow.{given_of}
use Rattle.common.specs.Runs.{Table, StableResult}
use Rattle.common.proofs.Runs.{StableSpec, runs_map, runs_bind}
use Rattle.cache.proofs.Cache.{notes_trans}
use Rattle.sp_steps.specs.Model.{mk, union}
use Rattle.sp_steps.specs.Wf.{WfIn, Any, ValidAt}
use Rattle.sp_steps.proofs.Laws.{theory_in, at_ext, den_mem}
use Rattle.sp_steps.proofs.Make.{mk_runs}
use Rattle.sp_steps.specs.Op.{Op}
use Rattle.sp_steps.proofs.Apply.{apply_runs}
use Rattle.sp.proofs.Frame.{sound_own, notes_ext}
use Rattle.std.proofs.Common.{Result, Ok, Err}
use Rattle.sp.specs.Clauses.{seen, MkReady, Asked, Answer}
use Rattle.sp.specs.declared.SP.{SP}
use Rattle.sp.specs.declared.Full.{Full}
use Rattle.spp_image.specs.Ways.{join}
use Rattle.spp_image.specs.Clauses.{JoinAsked}

-- a union and a node, as runs
module _ (P : ℕ → Type 0) (N d : ℕ) {σ : Table} where
  union_at : (a b : ℕ) → d ≤ N → WfIn P N σ → ValidAt σ d a → ValidAt σ d b → StableSpec (theory_in P N) (union d a b) (λ τ h. ValidAt τ d h) σ
  unfolding union
  union_at a b l w x y = runs_map (theory_in P N) (λ τ h _ _ D. D.at) (apply_runs P N Op.union d l σ a b _ _ w (den_mem x) (den_mem y))

  mk_at : (a b : ℕ) → P d → WfIn P N σ → ValidAt σ d a → ValidAt σ d b → StableSpec (theory_in P N) (mk a b) (λ τ h. ValidAt τ (suc d) h) σ
  mk_at a b low w x y = runs_map (theory_in P N) (λ τ h _ _ D. D.at) (mk_runs {d = d} w low (den_mem x) (den_mem y))

pub join_runs : (P : ℕ → Type 0) (N d : ℕ) {σ : Table} (w x y z : ℕ) → d ≤ N → P d → WfIn P N σ → ValidAt σ d w → ValidAt σ d x → ValidAt σ d y → ValidAt σ d z
    → StableSpec (theory_in P N) (join d w x y z) (λ τ h. ValidAt τ (suc d) h) σ
unfolding join
join_runs P N d w x y z l low wf a b c e =
    runs_bind (theory_in P N) (union_at P N d w x l wf a b) (λ τ x0 f v p.
    runs_bind (theory_in P N) (union_at P N d y z l v (at_ext f d y c) (at_ext f d z e)) (λ υ x1 g u q.
    mk_at P N d x0 x1 low u (at_ext g d x0 p) q))

module _ {σ : Table} {m : List ℕ} {d w x y z : ℕ} (q : JoinAsked σ m d w x y z) where
  pub asked_1 : Asked σ m d w x
  asked_1 = record { ready = record { deep = q.deep; wf = q.wf; at_a = q.at_w; at_b = q.at_x }; sound = q.sound }

  pub full_1 : union d w x σ ≡ refused 20 → join d w x y z σ ≡ refused 20
  unfolding join
  full_1 e = ap (λ (o : Outcome Table ℕ). after o (λ x0. λ τ. after (union d y z τ) (λ x1. mk x0 x1))) e

  module _ {h1 : SP} {τ1 : Table} {m1 : List ℕ} (a1 : Answer (union d w x) σ m (Ok h1) τ1 m1) where
    good_1 : StableResult (theory_in Any d) (union d w x) (λ τ h. ValidAt τ d h) σ τ1 h1.0
    good_1 = given_of (union_at Any d d w x (le_refl d) q.wf q.at_w q.at_x) a1.gives

    then_1 : join d w x y z σ ≡ after (union d y z τ1) (λ x1. mk h1.0 x1)
    unfolding join
    then_1 = ap (λ (o : Outcome Table ℕ). after o (λ x0. λ τ. after (union d y z τ) (λ x1. mk x0 x1))) a1.gives

    pub asked_2 : Asked τ1 m1 d y z
    asked_2 = record {
      ready = record { deep = q.deep; wf = good_1.wf; at_a = at_ext good_1.ext d y q.at_y; at_b = at_ext good_1.ext d z q.at_z };
      sound = sound_own good_1.ext q.sound a1.notes;
    }

    pub full_2 : union d y z τ1 ≡ refused 20 → join d w x y z σ ≡ refused 20
    full_2 e = then_1 ∙ ap (λ (o : Outcome Table ℕ). after o (λ x1. mk h1.0 x1)) e

    module _ {h2 : SP} {τ2 : Table} {m2 : List ℕ} (a2 : Answer (union d y z) τ1 m1 (Ok h2) τ2 m2) where
      good_2 : StableResult (theory_in Any d) (union d y z) (λ τ h. ValidAt τ d h) τ1 τ2 h2.0
      good_2 = given_of (union_at Any d d y z (le_refl d) good_1.wf asked_2.ready.at_a asked_2.ready.at_b) a2.gives

      then_2 : join d w x y z σ ≡ mk h1.0 h2.0 τ2
      then_2 = then_1 ∙ ap (λ (o : Outcome Table ℕ). after o (λ x1. mk h1.0 x1)) a2.gives

      pub mk_ready : MkReady τ2.words τ2.count
      mk_ready = record { fits = good_2.wf.fits; small = good_2.wf.small; rising = good_2.wf.rising }

      pub made : (r : Result SP Full) (τ3 : Table) → mk h1.0 h2.0 τ2 ≡ seen r τ3 → Answer (join d w x y z) σ m r τ3 m2
      made (Err f) τ3 e = record { gives = then_2 ∙ e; notes = tt }
      made (Ok h) τ3 e =
          let good = given_of (mk_at Any d d h1.0 h2.0 tt good_2.wf (at_ext good_2.ext d h1.0 good_1.holds) good_2.holds) e in
          record { gives = then_2 ∙ e; notes = notes_ext good.ext (notes_trans (notes_ext good_2.ext a1.notes) a2.notes) }
