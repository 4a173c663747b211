-- A turn of `project` and of `lead`: four calls and their join. Said once, for whatever is called.
use mathlib.Core.Path.{◌≡◌, refl, sym, ◌∙◌, ap, subst, fun_ext}
use mathlib.Core.Bool.{Bool, true, false}
use mathlib.Core.List.{List}
use mathlib.Core.Logic.{inl, inr}
use Prim.Native.Nat.{ℕ, suc, ◌≤◌, ◌<◌}
use native.Mathlib.Omega.{arith}
use lib.Dec.{eqb}
use Rattle.common.specs.Outcome.{Outcome, refused, given, Step, after, ◌>>=◌}
use Rattle.common.proofs.Follow.{given_of}
use Rattle.common.specs.Runs.{Table, placed}
use Rattle.common.proofs.Runs.{StableSpec, runs_on}
use Rattle.cache.specs.Cache.{OnlyCodes, Sound, WritesValid, Holds, Exactly}
use Rattle.cache.proofs.Cache.{sound_map, notes_map}
use Rattle.cache.proofs.Stage as stage
use Rattle.cache.proofs.Stage.{Gave, Stage, Can, Four}
use Rattle.sp_steps.specs.Model as Sp
use Rattle.sp_steps.specs.Wf as SpLaws
use Rattle.sp_steps.proofs.Laws as SpLawsProofs
use Rattle.sp.specs.Clauses as sp
use Rattle.std.proofs.Common.{Result, Ok, Err, IsErr}
use Rattle.sp.specs.declared.SP.{SP}
use Rattle.sp.specs.declared.Full.{Full}
use Rattle.spp_steps.specs.ImageModel.{Stores, stores, on_sp}
use Rattle.spp_steps.specs.Wf.{ValidAt}
use Rattle.spp_steps.specs.Images.{BothWf}
use Rattle.spp_steps.proofs.Laws.{false_true}
use Rattle.spp_steps.proofs.Images.{BothExt, both_theory, in_sp}
use Rattle.spp_image.specs.Ways.{first, second, join}
use Rattle.spp_image.specs.Reuse.{Kept, Held, run, depth_by}
use Rattle.spp_image.proofs.Reuse.{set_memo, Deep, reused, to_note}
use Rattle.spp_image.specs.Clauses.{Answer, JoinAsked}
use Rattle.spp_image.specs.declared.Way.{Way}
use Rattle.spp_image.proofs.Halves as halves

-- ---- a run of the packet sets' steps in the store of both

placed_same : {A : Type 0} (s : Table) (σ : Stores) (o : Outcome Table A) → placed (λ s σ. stores s σ.spp) (stores s σ.spp) o ≡ placed (λ s σ. stores s σ.spp) σ o
placed_same s σ (refused number) = refl
placed_same s σ (given s' a) = refl

on_bind : {A B : Type 0} (c : Step Table A) (k : A → Step Table B) (σ : Stores) → after (on_sp c σ) (λ a. on_sp (k a)) ≡ on_sp (λ s. after (c s) k) σ
on_bind {A} {B} c k σ = go (c σ.sp)
  where
    go : (o : Outcome Table A) → after (placed (λ s σ. stores s σ.spp) σ o) (λ a. on_sp (k a)) ≡ placed (λ s σ. stores s σ.spp) σ (after o k)
    go (refused number) = refl
    go (given s a) = placed_same s σ (k a s)

-- the last three steps of a turn are one join
abbrev pub halved : ℕ → ℕ → ℕ → ℕ → ℕ → Step Stores ℕ
halved d w x y z = on_sp (Sp.union d w x) >>= λ x0. on_sp (Sp.union d y z) >>= λ x1. on_sp (Sp.mk x0 x1)

pub halved_is : (d w x y z : ℕ) (σ : Stores) → halved d w x y z σ ≡ on_sp (join d w x y z) σ
unfolding join
halved_is d w x y z σ =
    ap (λ (k : ℕ → Step Stores ℕ). after (on_sp (Sp.union d w x) σ) k) (fun_ext (λ x0. fun_ext (λ τ. on_bind (Sp.union d y z) (λ x1. Sp.mk x0 x1) τ)))
    ∙ on_bind (Sp.union d w x) (λ x0 s. after (Sp.union d y z s) (λ x1. Sp.mk x0 x1)) σ

-- ---- four calls and then k

abbrev pub chain : (Bool → Bool → Step Stores ℕ) → (ℕ → ℕ → ℕ → ℕ → Step Stores ℕ) → Step Stores ℕ
chain f k = f false false >>= λ a. f false true >>= λ b. f true false >>= λ c. f true true >>= λ e. k a b c e

-- what the turn ends with, the middle two in the order of a direction
abbrev pub ending : Way → ℕ → ℕ → ℕ → ℕ → ℕ → Step Stores ℕ
ending way d a b c e = on_sp (join d a (first way b c) (second way b c) e)

pub record Turn (N d : ℕ) (C : Step Stores ℕ) (σ : Stores) (m : List ℕ) : Type 1 where
  pub few : N ≤ 31
  pub deep : d < N
  pub way : Way
  pub call : Bool → Bool → Step Stores ℕ
  pub Ask : Bool → Bool → Stores → List ℕ → Type 0
  pub ask : (τ : Stores) (m' : List ℕ) → BothExt σ τ → BothWf N τ → Sound (Held N τ) m' → (i j : Bool) → Ask i j τ m'
  pub can : (i j : Bool) → Can (set_memo N) (λ τ h. SpLaws.ValidAt τ.sp d h) σ (call i j)
  pub wf : BothWf N σ
  pub sound : Sound (Held N σ) m
  pub is : C σ ≡ chain call (ending way d) σ

-- what a call has given
gave : {N : ℕ} {c : Step Stores ℕ} {σ : Stores} {m m' : List ℕ} {τ : Table} {h : SP} → Answer N c σ m (Ok h) τ m' → Gave (set_memo N) c σ m (stores τ σ.spp) m' h.0
gave a = record { is = a.gives; notes = a.notes }

-- a refusal is handed on
pub stopped : {N : ℕ} {c : Step Stores ℕ} {σ : Stores} {m m' : List ℕ} {r : Result SP Full} {τ : Table} → IsErr r → c σ ≡ refused 20 → Answer N c σ m r τ m'
stopped {r = Ok h} p e = absurd (false_true p)
stopped {r = Err x} p e = record { gives = e; notes = tt }

module _ {N d : ℕ} {C : Step Stores ℕ} {σ : Stores} {m : List ℕ} (T : Turn N d C σ m) where
  calls : Four (set_memo N) (λ τ h. SpLaws.ValidAt τ.sp d h) (C σ) σ m
  calls = record {
    f1 = T.call false false;
    f2 = T.call false true;
    f3 = T.call true false;
    f4 = T.call true true;
    k = ending T.way d;
    can1 = T.can false false;
    can2 = T.can false true;
    can3 = T.can true false;
    can4 = T.can true true;
    P-ext = λ σ τ h e p. SpLawsProofs.at_ext e.sp_ext d h p;
    start = stage.begin (set_memo N) T.wf T.sound T.is;
  }

  asked : {rest : Outcome Stores ℕ} {τ : Stores} {m' : List ℕ} → Stage (set_memo N) (C σ) rest σ τ m m' → (i j : Bool) → T.Ask i j τ m'
  asked {rest} {τ} {m'} s i j = T.ask τ m' s.ext s.wf s.sound i j

  pub ready_1 : T.Ask false false σ m
  ready_1 = asked calls.start false false

  pub lost_1 : T.call false false σ ≡ refused 20 → C σ ≡ refused 20
  unfolding calls
  lost_1 e = stage.stuck_1 calls e

  module _ {h1 : SP} {τ1 : Table} {m1 : List ℕ} (a1 : Answer N (T.call false false) σ m (Ok h1) τ1 m1) where
    pub ready_2 : T.Ask false true (stores τ1 σ.spp) m1
    unfolding calls
    ready_2 = asked (stage.stage_1 calls (gave a1)) false true

    pub lost_2 : T.call false true (stores τ1 σ.spp) ≡ refused 20 → C σ ≡ refused 20
    unfolding calls
    lost_2 e = stage.stuck_2 calls (gave a1) e

    module _ {h2 : SP} {τ2 : Table} {m2 : List ℕ} (a2 : Answer N (T.call false true) (stores τ1 σ.spp) m1 (Ok h2) τ2 m2) where
      pub ready_3 : T.Ask true false (stores τ2 σ.spp) m2
      unfolding calls
      ready_3 = asked (stage.stage_2 calls (gave a1) (gave a2)) true false

      pub lost_3 : T.call true false (stores τ2 σ.spp) ≡ refused 20 → C σ ≡ refused 20
      unfolding calls
      lost_3 e = stage.stuck_3 calls (gave a1) (gave a2) e

      module _ {h3 : SP} {τ3 : Table} {m3 : List ℕ} (a3 : Answer N (T.call true false) (stores τ2 σ.spp) m2 (Ok h3) τ3 m3) where
        pub ready_4 : T.Ask true true (stores τ3 σ.spp) m3
        unfolding calls
        ready_4 = asked (stage.stage_3 calls (gave a1) (gave a2) (gave a3)) true true

        pub lost_4 : T.call true true (stores τ3 σ.spp) ≡ refused 20 → C σ ≡ refused 20
        unfolding calls
        lost_4 e = stage.stuck_4 calls (gave a1) (gave a2) (gave a3) e

        module _ {h4 : SP} {τ4 : Table} {m4 : List ℕ} (a4 : Answer N (T.call true true) (stores τ3 σ.spp) m3 (Ok h4) τ4 m4) where
          last : Stage (set_memo N) (C σ) (ending T.way d h1.0 h2.0 h3.0 h4.0 (stores τ4 σ.spp)) σ (stores τ4 σ.spp) m m4
          unfolding calls
          last = stage.stage_4 calls (gave a1) (gave a2) (gave a3) (gave a4)

          held : SpLaws.ValidAt τ4 d h1.0 × SpLaws.ValidAt τ4 d h2.0 × SpLaws.ValidAt τ4 d h3.0 × SpLaws.ValidAt τ4 d h4.0
          unfolding calls
          held = stage.held calls (gave a1) (gave a2) (gave a3) (gave a4)

          either : (way : Way) (x y : ℕ) → SpLaws.ValidAt τ4 d x → SpLaws.ValidAt τ4 d y → SpLaws.ValidAt τ4 d (first way x y) × SpLaws.ValidAt τ4 d (second way x y)
          either Way.Forward x y a b = (a, b)
          either Way.Backward x y a b = (b, a)

          -- the middle two, as the code has them
          module _ {x y : ℕ} (x-is : x ≡ first T.way h2.0 h3.0) (y-is : y ≡ second T.way h2.0 h3.0) where
            pub join_ready : JoinAsked τ4 m4 d h1.0 x y h4.0
            join_ready =
                let p = either T.way h2.0 h3.0 held.1 held.2 in
                record {
                  deep = omega (arith, T.few, T.deep);
                  wf = SpLawsProofs.wf_down last.wf.sp_wf (omega (arith, T.deep));
                  at_w = held.0;
                  at_x = subst (SpLaws.ValidAt τ4 d) (sym x-is) p.0;
                  at_y = subst (SpLaws.ValidAt τ4 d) (sym y-is) p.1;
                  at_z = held.3;
                  sound = sound_map (λ _ _ _ _ v. v.sets) last.sound;
                }

            left : C σ ≡ on_sp (join d h1.0 x y h4.0) (stores τ4 σ.spp)
            left =
                last.left
                ∙ ap (λ (k : ℕ). on_sp (join d h1.0 k (second T.way h2.0 h3.0) h4.0) (stores τ4 σ.spp)) (sym x-is)
                ∙ ap (λ (k : ℕ). on_sp (join d h1.0 x k h4.0) (stores τ4 σ.spp)) (sym y-is)

            pub lost_5 : join d h1.0 x y h4.0 τ4 ≡ refused 20 → C σ ≡ refused 20
            lost_5 e = left ∙ ap (placed (λ s σ. stores s σ.spp) (stores τ4 σ.spp)) e

            pub done : {h5 : SP} {τ5 : Table} {m5 : List ℕ} → sp.Answer (join d h1.0 x y h4.0) τ4 m4 (Ok h5) τ5 m5
                → Stage (set_memo N) (C σ) (given (stores τ5 σ.spp) h5.0) σ (stores τ5 σ.spp) m m5
            done a5 =
                stage.finish (set_memo N) (on_sp (join d h1.0 x y h4.0))
                (record { ext = last.ext; wf = last.wf; sound = last.sound; notes = last.notes; left = left })
                (runs_on (in_sp N) last.wf (halves.join_runs (SpLaws.Below N) N d h1.0 x y h4.0 (omega (arith, T.deep)) T.deep last.wf.sp_wf join_ready.at_w join_ready.at_x join_ready.at_y join_ready.at_z))
                (record {
                  is = ap (placed (λ s σ. stores s σ.spp) (stores τ4 σ.spp)) a5.gives;
                  notes = notes_map (λ _ _ _ _ v. inl v) a5.notes;
                })

-- ---- the cache, of an operation whose relation y has depth d + 1

module _ (N d code x y : ℕ) {C : Step Stores ℕ} (σ : Stores) (m : List ℕ) (c : (10 ≤ code) × (code ≤ 15) × (eqb code 12 ≡ false)) (at : ValidAt σ.spp (suc d) y)
    (is_run : (τ : Stores) → run N code d x y τ ≡ C τ) (k : ℕ) (k-is : k ≡ code) where
  deep_at : (τ : Stores) → ValidAt τ.spp (suc d) y → Deep N τ code (suc d) x y
  deep_at τ a = subst (λ (b : Bool). (depth_by N b x y).Of τ (suc d)) (sym c.2) a

  -- found
  pub hit : {h : ℕ} → BothWf N σ → Sound (Held N σ) m → Holds m k x y h → C σ ≡ given σ h
  hit {h} w s found =
      sym (is_run σ)
      ∙ reused N d w (deep_at σ at) c.0 c.1 (sound_map (λ _ _ _ _ v. v.images) s) (subst (λ (k : ℕ). Holds m k x y h) k-is found)

  -- noted
  pub noted : {P : Stores → ℕ → Type 0} {τ5 : Table} {m5 m6 : List ℕ} {h : SP} → StableSpec (both_theory N) C P σ
      → Stage (set_memo N) (C σ) (given (stores τ5 σ.spp) h.0) σ (stores τ5 σ.spp) m m5
      → WritesValid (Exactly k x y h.0) m5 m6 → Answer N C σ m (Ok h) τ5 m6
  noted {τ5} {h} r s l =
      let good = given_of r s.left in
      record {
        gives = s.left;
        notes = stage.noted (set_memo N) s l (inr (subst (λ (o : ℕ). OnlyCodes 10 15 (Kept N (stores τ5 σ.spp)) o x y h.0) (sym k-is)
            (to_note N code x y d c.0 c.1 (deep_at (stores τ5 σ.spp) at) (λ τ e w. is_run τ ∙ good.stable τ e w))));
      }
