-- One turn of `lead`.
use mathlib.Core.Path.{◌≡◌, sym, ◌∙◌, ap, ap₂, subst, fun_ext}
use mathlib.Core.Bool.{Bool, true, false}
use mathlib.Core.List.{List}
use Prim.Native.Nat.{ℕ, zero, suc, ◌+◌, ◌*◌, ◌-◌, ◌≤◌}
use native.Mathlib.Omega.{arith}
use lib.ListN.{length}
use Rattle.common.specs.Outcome.{given, Step, return}
use Rattle.common.specs.Runs.{Table}
use Rattle.common.proofs.Runs.{StableSpec, runs_map}
use Rattle.cache.specs.Cache.{Sound, WritesValid, Holds, Exactly}
use Rattle.cache.proofs.Stage as stage
use Rattle.cache.proofs.Stage.{Stage}
use Rattle.sp_steps.specs.Model as Sp
use Rattle.sp_steps.specs.Wf as SpLaws
use Rattle.sp_steps.proofs.Laws as SpLawsProofs
use Rattle.sp.specs.Clauses.{Inner, Kids}
use Rattle.std.proofs.Common.{Result, Ok}
use Rattle.sp.specs.declared.SP.{SP}
use Rattle.sp.specs.declared.Full.{Full}
use Rattle.spp_steps.specs.Model.{Quad, quad, kids}
use Rattle.spp_steps.specs.ImageModel as M
use Rattle.spp_steps.specs.ImageModel.{Stores, stores, within, fwd, bwd, Led, done, whole, more, led_exit, push, pull, push_node, pull_node}
use Rattle.spp_steps.specs.Wf.{ValidAt}
use Rattle.spp_steps.proofs.Laws.{at_ext, den_mem}
use Rattle.spp_steps.specs.Images.{BothWf}
use Rattle.spp_steps.proofs.Images.{BothExt, both_theory, led_exit_low}
use Rattle.spp_steps.proofs.Results.{push_runs, pull_runs}
use Rattle.spp_image.specs.Ways.{project, lead, first, second}
use Rattle.spp_image.specs.Reuse.{Held, lead_code, run}
use Rattle.spp_image.proofs.Reuse.{set_memo, lead_code_lem, run_lead}
use Rattle.spp_image.specs.Clauses.{Asked, LeadAsked, Answer}
use Rattle.spp_image.specs.declared.Way.{Way}
use Rattle.spp_image.specs.declared.Way.TheVariants.{Forward, Backward}
use Rattle.spp_image.proofs.Turn as turn
use Rattle.spp_image.proofs.Turn.{Turn, chain, ending, halved, halved_is}

lead_runs : (N : ℕ) (w : Way) (d s r : ℕ) {σ : Stores} → d ≤ N → BothWf N σ → SpLaws.ValidAt σ.sp d s → ValidAt σ.spp d r
    → StableSpec (both_theory N) (lead w N d s r) (λ τ h. SpLaws.ValidAt τ.sp d h) σ
lead_runs N Forward d s r l v a b = runs_map (both_theory N) (λ τ h _ _ D. D.at) (push_runs N v l (den_mem b) (SpLawsProofs.den_mem a))
lead_runs N Backward d s r l v a b = runs_map (both_theory N) (λ τ h _ _ D. D.at) (pull_runs N v l (den_mem b) (SpLawsProofs.den_mem a))

-- ---- the exits

pub out : (w : Way) (N D s r h : ℕ) (σ : Stores) → led_exit N D s r ≡ done h → lead w N D s r σ ≡ given σ h
unfolding push pull
out Forward N zero s r h σ e = ap (λ (z : Led). M.lead z (return 0) (return 0) σ) e
out Forward N (suc d) s r h σ e = ap (λ (z : Led). M.lead z (fwd (suc d) r) (within (push_node d (push N d)) s r) σ) e
out Backward N zero s r h σ e = ap (λ (z : Led). M.lead z (return 0) (return 0) σ) e
out Backward N (suc d) s r h σ e = ap (λ (z : Led). M.lead z (bwd (suc d) r) (within (λ S X. pull_node d (pull N d) X S) s r) σ) e

-- in which half of the set a call looks: forward as its second index says, backward as its first
abbrev half : Way → Bool → Bool → Bool
half Forward i j = j
half Backward i j = i

up : (w : Way) (N d s r : ℕ) (σ : Stores) → led_exit N (suc d) s r ≡ whole → lead w N (suc d) s r σ ≡ project w (suc d) r σ
unfolding push pull
up Forward N d s r σ e = ap (λ (z : Led). M.lead z (fwd (suc d) r) (within (push_node d (push N d)) s r) σ) e
up Backward N d s r σ e = ap (λ (z : Led). M.lead z (bwd (suc d) r) (within (λ S X. pull_node d (pull N d) X S) s r) σ) e

down : (w : Way) (N d s r : ℕ) (σ : Stores) → led_exit N (suc d) s r ≡ more → lead w N (suc d) s r σ
    ≡ chain (λ i j. lead w N d (Sp.child σ.sp.words (half w i j) s) (kids σ.spp.words r j i)) (λ a b c e. halved d a (first w b c) (second w b c) e) σ
unfolding push pull push_node pull_node
down Forward N d s r σ e = ap (λ (z : Led). M.lead z (fwd (suc d) r) (within (push_node d (push N d)) s r) σ) e
down Backward N d s r σ e = ap (λ (z : Led). M.lead z (bwd (suc d) r) (within (λ S X. pull_node d (pull N d) X S) s r) σ) e

chained : (w : Way) (N d s r : ℕ) (σ : Stores) → led_exit N (suc d) s r ≡ more → lead w N (suc d) s r σ
    ≡ chain (λ i j. lead w N d (Sp.child σ.sp.words (half w i j) s) (kids σ.spp.words r j i)) (ending w d) σ
chained w N d s r σ e =
    down w N d s r σ e
    ∙ ap (λ (k : ℕ → ℕ → ℕ → ℕ → Step Stores ℕ). chain (λ i j. lead w N d (Sp.child σ.sp.words (half w i j) s) (kids σ.spp.words r j i)) k σ)
    (fun_ext (λ a. fun_ext (λ b. fun_ext (λ c. fun_ext (λ e. fun_ext (λ τ. halved_is d a (first w b c) (second w b c) e τ))))))

-- the four halves, as the code has them
sides : (w : Way) (t : List ℕ) (s p0 p1 u v : ℕ) → Kids t s p0 p1 → u ≡ first w p1 p0 → v ≡ second w p1 p0 → (i j : Bool) → quad p0 u v p1 i j ≡ Sp.child t (half w i j) s
sides Forward t s p0 p1 u v K e f false false = K.left
sides Forward t s p0 p1 u v K e f false true = e ∙ K.right
sides Forward t s p0 p1 u v K e f true false = f ∙ K.left
sides Forward t s p0 p1 u v K e f true true = K.right
sides Backward t s p0 p1 u v K e f false false = K.left
sides Backward t s p0 p1 u v K e f false true = e ∙ K.left
sides Backward t s p0 p1 u v K e f true false = f ∙ K.right
sides Backward t s p0 p1 u v K e f true true = K.right

done≢whole : (h : ℕ) → done h ≡ whole → ⊥
done≢whole h e = let z : ◌≡◌ {A = ℕ} 0 1 = cc in omega arith

done≢more : (h : ℕ) → done h ≡ more → ⊥
done≢more h e = let z : ◌≡◌ {A = ℕ} 0 1 = cc in omega arith

module _ {N D : ℕ} (w : Way) {σ : Stores} {m : List ℕ} {s r : ℕ} (q : LeadAsked N D σ m s r) where
  -- at depth 0 every exit is a set
  low : (D : ℕ) (z : Led) → ((h : ℕ) → done h ≡ z → ⊥) → SpLaws.ValidAt σ.sp D s → ValidAt σ.spp D r → led_exit N D s r ≡ z → D ≡ suc (D - 1)
  low zero z n a b e = absurd (n _ (sym (led_exit_low N s r a b).1 ∙ e))
  low (suc d) z n a b e = omega arith

  -- the set has all packets
  pub whole_asked : Asked N D σ m r
  whole_asked = record { few = q.few; deep = q.deep; wf = q.wf; at_r = q.at_r; sound = q.sound }

  pub as_whole : led_exit N D s r ≡ whole → {k : Result SP Full} {τ : Table} {m' : List ℕ} → Answer N (project w D r) σ m k τ m' → Answer N (lead w N D s r) σ m k τ m'
  as_whole e a =
      let above = low D whole done≢whole q.at_s q.at_r e in
      record {
        gives =
            ap (λ (k : ℕ). lead w N k s r σ) above
            ∙ up w N (D - 1) s r σ (ap (λ (k : ℕ). led_exit N k s r) (sym above) ∙ e)
            ∙ ap (λ (k : ℕ). project w k r σ) (sym above)
            ∙ a.gives;
        notes = a.notes;
      }

  module _ (go_on : led_exit N D s r ≡ more) where
    above : D ≡ suc (D - 1)
    above = low D more done≢more q.at_s q.at_r go_on

    pub deeper : 1 ≤ D
    deeper = omega (arith, above)

    at_s : SpLaws.ValidAt σ.sp (suc (D - 1)) s
    at_s = subst (λ (k : ℕ). SpLaws.ValidAt σ.sp k s) above q.at_s

    at_r : ValidAt σ.spp (suc (D - 1)) r
    at_r = subst (λ (k : ℕ). ValidAt σ.spp k r) above q.at_r

    pub inner : Inner σ.sp.words s
    inner = record { low = at_s.0; inside = omega (arith, at_s.1, q.wf.sp_wf.fits) }

    pub inside : (2 ≤ r) × (4 * r ≤ length σ.spp.words + 4)
    inside = (at_r.0, omega (arith, at_r.1, q.wf.spp_wf.nodes.fits))

    is_run : (τ : Stores) → run N (lead_code w) (D - 1) s r τ ≡ lead w N D s r τ
    is_run τ = ap (λ (c : Step Stores ℕ). c τ) (run_lead N (D - 1) s r w) ∙ ap (λ (k : ℕ). lead w N k s r τ) (sym above)

    module _ {k : ℕ} (k-is : k ≡ lead_code w) where
      pub hit : {h : ℕ} → Holds m k s r h → lead w N D s r σ ≡ given σ h
      hit found = turn.hit N (D - 1) (lead_code w) s r σ m (lead_code_lem w) at_r is_run k k-is q.wf q.sound found

      pub noted : {τ5 : Table} {m5 m6 : List ℕ} {h : SP} → Stage (set_memo N) (lead w N D s r σ) (given (stores τ5 σ.spp) h.0) σ (stores τ5 σ.spp) m m5
          → WritesValid (Exactly k s r h.0) m5 m6 → Answer N (lead w N D s r) σ m (Ok h) τ5 m6
      noted x l = turn.noted N (D - 1) (lead_code w) s r σ m (lead_code_lem w) at_r is_run k k-is (lead_runs N w D s r q.deep q.wf q.at_s q.at_r) x l

    module _ {p0 p1 : ℕ} (K : Kids σ.sp.words s p0 p1) {A : Quad} (A-is : A ≡ kids σ.spp.words r) {u v : ℕ} (u-is : u ≡ first w p1 p0) (v-is : v ≡ second w p1 p0) where
      side : (i j : Bool) → quad p0 u v p1 i j ≡ Sp.child σ.sp.words (half w i j) s
      side = sides w σ.sp.words s p0 p1 u v K u-is v-is

      at_p : (i j : Bool) → SpLaws.ValidAt σ.sp (D - 1) (quad p0 u v p1 i j)
      at_p i j = subst (SpLaws.ValidAt σ.sp (D - 1)) (sym (side i j)) (at_s.2 (half w i j))

      at_a : (i j : Bool) → ValidAt σ.spp (D - 1) (A i j)
      at_a i j = subst (λ (X : Quad). ValidAt σ.spp (D - 1) (X i j)) (sym A-is) (at_r.2 i j)

      pub below_asked : (τ : Stores) (m' : List ℕ) → BothExt σ τ → BothWf N τ → Sound (Held N τ) m' → (i j : Bool) → LeadAsked N (D - 1) τ m' (quad p0 u v p1 i j) (A j i)
      below_asked τ m' e x k i j = record {
        few = q.few;
        deep = omega (arith, q.deep);
        wf = x;
        at_s = SpLawsProofs.at_ext e.sp_ext (D - 1) (quad p0 u v p1 i j) (at_p i j);
        at_r = at_ext e.spp_ext (D - 1) (A j i) (at_a j i);
        sound = k;
      }

      pub below_can : (i j : Bool) → stage.Can (set_memo N) (λ τ h. SpLaws.ValidAt τ.sp (D - 1) h) σ (lead w N (D - 1) (quad p0 u v p1 i j) (A j i))
      below_can i j τ e x =
          lead_runs N w (D - 1) (quad p0 u v p1 i j) (A j i) (omega (arith, q.deep)) x
          (SpLawsProofs.at_ext e.sp_ext (D - 1) (quad p0 u v p1 i j) (at_p i j)) (at_ext e.spp_ext (D - 1) (A j i) (at_a j i))

      pub is : lead w N D s r σ ≡ chain (λ i j. lead w N (D - 1) (quad p0 u v p1 i j) (A j i)) (ending w (D - 1)) σ
      is =
          ap (λ (k : ℕ). lead w N k s r σ) above
          ∙ chained w N (D - 1) s r σ (ap (λ (k : ℕ). led_exit N k s r) (sym above) ∙ go_on)
          ∙ ap (λ (f : Bool → Bool → Step Stores ℕ). chain f (ending w (D - 1)) σ)
          (fun_ext (λ i. fun_ext (λ j. sym (ap₂ (λ (x : ℕ) (X : Quad). lead w N (D - 1) x (X j i)) (side i j) A-is))))

      abbrev pub turning : Turn N (D - 1) (lead w N D s r) σ m
      turning = record {
        few = q.few;
        deep = omega (arith, q.deep, deeper);
        way = w;
        call = λ i j. lead w N (D - 1) (quad p0 u v p1 i j) (A j i);
        Ask = λ i j τ m'. LeadAsked N (D - 1) τ m' (quad p0 u v p1 i j) (A j i);
        ask = below_asked;
        can = below_can;
        wf = q.wf;
        sound = q.sound;
        is = is;
      }
