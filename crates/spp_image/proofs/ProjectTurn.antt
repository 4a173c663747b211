-- One turn of `project`.
use mathlib.Core.Path.{◌≡◌, refl, sym, ◌∙◌, ap, subst, fun_ext}
use mathlib.Core.Bool.{Bool}
use mathlib.Core.List.{List}
use Prim.Native.Nat.{ℕ, suc, ◌+◌, ◌*◌, ◌-◌, ◌≤◌}
use native.Mathlib.Omega.{arith}
use lib.ListN.{length}
use Rattle.common.specs.Outcome.{given, Step}
use Rattle.common.specs.Runs.{Table}
use Rattle.common.proofs.Runs.{StableSpec, runs_map}
use Rattle.cache.specs.Cache.{Sound, WritesValid, Holds, Exactly}
use Rattle.cache.proofs.Stage as stage
use Rattle.cache.proofs.Stage.{Stage}
use Rattle.sp_steps.specs.Wf as SpLaws
use Rattle.std.proofs.Common.{Ok}
use Rattle.sp.specs.declared.SP.{SP}
use Rattle.spp_steps.specs.Model.{Quad, kids}
use Rattle.spp_steps.specs.ImageModel.{Stores, stores, fwd, bwd, fwd_node, bwd_node}
use Rattle.spp_steps.specs.Wf.{ValidAt}
use Rattle.spp_steps.proofs.Laws.{at_ext, den_mem}
use Rattle.spp_steps.specs.Images.{BothWf}
use Rattle.spp_steps.proofs.Images.{BothExt, both_theory}
use Rattle.spp_steps.proofs.Results.{fwd_runs, bwd_runs}
use Rattle.spp_image.specs.Ways.{project, turn}
use Rattle.spp_image.specs.Reuse.{Held, project_code, run}
use Rattle.spp_image.proofs.Reuse.{set_memo, project_code_lem, run_project}
use Rattle.spp_image.specs.Clauses.{Asked, Answer}
use Rattle.spp_image.specs.declared.Way.{Way}
use Rattle.spp_image.specs.declared.Way.TheVariants.{Forward, Backward}
use Rattle.spp_image.proofs.Turn as turn
use Rattle.spp_image.proofs.Turn.{Turn, chain, ending, halved, halved_is}

project_runs : (N : ℕ) (w : Way) (d r : ℕ) {σ : Stores} → d ≤ N → BothWf N σ → ValidAt σ.spp d r → StableSpec (both_theory N) (project w d r) (λ τ h. SpLaws.ValidAt τ.sp d h) σ
project_runs N Forward d r l v a = runs_map (both_theory N) (λ τ h _ _ D. D.at) (fwd_runs N v l (den_mem a))
project_runs N Backward d r l v a = runs_map (both_theory N) (λ τ h _ _ D. D.at) (bwd_runs N v l (den_mem a))

-- depth 0
pub flat : (w : Way) (D r : ℕ) (σ : Stores) → D ≡ 0 → project w D r σ ≡ given σ r
unfolding fwd bwd
flat Forward D r σ e = ap (λ (k : ℕ). fwd k r σ) e
flat Backward D r σ e = ap (λ (k : ℕ). bwd k r σ) e

down : (w : Way) (d r : ℕ) (σ : Stores) → project w (suc d) r σ ≡ chain (λ i j. project w d (turn w (kids σ.spp.words r) i j)) (halved d) σ
unfolding fwd bwd fwd_node bwd_node
down Forward d r σ = refl
down Backward d r σ = refl

chained : (w : Way) (d r : ℕ) (σ : Stores) → project w (suc d) r σ ≡ chain (λ i j. project w d (turn w (kids σ.spp.words r) i j)) (ending Forward d) σ
chained w d r σ =
    down w d r σ
    ∙ ap (λ (k : ℕ → ℕ → ℕ → ℕ → Step Stores ℕ). chain (λ i j. project w d (turn w (kids σ.spp.words r) i j)) k σ)
    (fun_ext (λ a. fun_ext (λ b. fun_ext (λ c. fun_ext (λ e. fun_ext (λ τ. halved_is d a b c e τ))))))

turn_at : (w : Way) (σ : Table) (d : ℕ) (X : Quad) → ((i j : Bool) → ValidAt σ d (X i j)) → (i j : Bool) → ValidAt σ d (turn w X i j)
turn_at Forward σ d X a i j = a j i
turn_at Backward σ d X a i j = a i j

module _ {N D : ℕ} (w : Way) {σ : Stores} {m : List ℕ} {r : ℕ} (q : Asked N D σ m r) (pos : D ≡ 0 → ⊥) where
  above : D ≡ suc (D - 1)
  above = omega arith

  pub deeper : 1 ≤ D
  deeper = omega arith

  at_r : ValidAt σ.spp (suc (D - 1)) r
  at_r = subst (λ (k : ℕ). ValidAt σ.spp k r) above q.at_r

  pub inside : (2 ≤ r) × (4 * r ≤ length σ.spp.words + 4)
  inside = (at_r.0, omega (arith, at_r.1, q.wf.spp_wf.nodes.fits))

  is_run : (τ : Stores) → run N (project_code w) (D - 1) r r τ ≡ project w D r τ
  is_run τ = ap (λ (c : Step Stores ℕ). c τ) (run_project N (D - 1) r r w) ∙ ap (λ (k : ℕ). project w k r τ) (sym above)

  module _ {k : ℕ} (k-is : k ≡ project_code w) where
    pub hit : {h : ℕ} → Holds m k r r h → project w D r σ ≡ given σ h
    hit found = turn.hit N (D - 1) (project_code w) r r σ m (project_code_lem w) at_r is_run k k-is q.wf q.sound found

    pub noted : {τ5 : Table} {m5 m6 : List ℕ} {h : SP} → Stage (set_memo N) (project w D r σ) (given (stores τ5 σ.spp) h.0) σ (stores τ5 σ.spp) m m5
        → WritesValid (Exactly k r r h.0) m5 m6 → Answer N (project w D r) σ m (Ok h) τ5 m6
    noted s l = turn.noted N (D - 1) (project_code w) r r σ m (project_code_lem w) at_r is_run k k-is (project_runs N w D r q.deep q.wf q.at_r) s l

  module _ {X Y : Quad} (turned-is : (i j : Bool) → X i j ≡ turn w Y i j) (Y-is : Y ≡ kids σ.spp.words r) where
    X-is : (i j : Bool) → X i j ≡ turn w (kids σ.spp.words r) i j
    X-is i j = turned-is i j ∙ ap (λ (X : Quad). turn w X i j) Y-is

    X-same : X ≡ turn w (kids σ.spp.words r)
    X-same = fun_ext (λ i. fun_ext (λ j. X-is i j))

    at_x : (i j : Bool) → ValidAt σ.spp (D - 1) (X i j)
    at_x i j = subst (ValidAt σ.spp (D - 1)) (sym (X-is i j)) (turn_at w σ.spp (D - 1) (kids σ.spp.words r) at_r.2 i j)

    pub below_asked : (τ : Stores) (m' : List ℕ) → BothExt σ τ → BothWf N τ → Sound (Held N τ) m' → (i j : Bool) → Asked N (D - 1) τ m' (X i j)
    below_asked τ m' e v s i j = record { few = q.few; deep = omega (arith, q.deep); wf = v; at_r = at_ext e.spp_ext (D - 1) (X i j) (at_x i j); sound = s }

    pub below_can : (i j : Bool) → stage.Can (set_memo N) (λ τ h. SpLaws.ValidAt τ.sp (D - 1) h) σ (project w (D - 1) (X i j))
    below_can i j τ e v = project_runs N w (D - 1) (X i j) (omega (arith, q.deep)) v (at_ext e.spp_ext (D - 1) (X i j) (at_x i j))

    pub is : project w D r σ ≡ chain (λ i j. project w (D - 1) (X i j)) (ending Forward (D - 1)) σ
    is =
        ap (λ (k : ℕ). project w k r σ) above
        ∙ chained w (D - 1) r σ
        ∙ ap (λ (X : Quad). chain (λ i j. project w (D - 1) (X i j)) (ending Forward (D - 1)) σ) (sym X-same)

    abbrev pub turning : Turn N (D - 1) (project w D r) σ m
    turning = record {
      few = q.few;
      deep = omega (arith, q.deep, deeper);
      way = Forward;
      call = λ i j. project w (D - 1) (X i j);
      Ask = λ i j τ m'. Asked N (D - 1) τ m' (X i j);
      ask = below_asked;
      can = below_can;
      wf = q.wf;
      sound = q.sound;
      is = is;
    }
