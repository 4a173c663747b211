-- A run of calls on a store of diagrams and a cache, a call at a time. Said once, for every kind of store (`Memo`).
use mathlib.Core.Path.{◌≡◌, ◌∙◌, ap}
use mathlib.Core.List.{List}
use Prim.Native.Nat.{ℕ}
use Rattle.common.specs.Outcome.{Outcome, refused, given, Step, after}
use Rattle.common.proofs.Follow.{given_of}
use Rattle.common.specs.Runs.{Theory, StableResult}
use Rattle.common.proofs.Runs.{StableSpec}
use Rattle.cache.specs.Cache.{Valid, Sound, WritesValid, Exactly}
use Rattle.cache.proofs.Cache.{sound_map, sound_notes, notes_map, notes_refl, notes_trans, notes_one}

-- A kind of store, what a slot that is read tells of a store, and what is told by one that is noted.
pub record Memo : Type 1 where
  pub theory : Theory
  pub Read : theory.Store → Valid
  pub Note : theory.Store → Valid
  pub read_ext : (σ τ : theory.Store) → theory.Ext σ τ → (o x y z : ℕ) → Read σ o x y z → Read τ o x y z
  pub note_ext : (σ τ : theory.Store) → theory.Ext σ τ → (o x y z : ℕ) → Note σ o x y z → Note τ o x y z
  pub note_read : (σ : theory.Store) (o x y z : ℕ) → Note σ o x y z → Read σ o x y z

-- A call of f at σ, with the cache m, has given σ1 and the value a; the cache is then m1.
pub record Gave (𝓜 : Memo) {A : Type 0} (f : Step 𝓜.theory.Store A) (σ : 𝓜.theory.Store) (m : List ℕ) (σ1 : 𝓜.theory.Store) (m1 : List ℕ) (a : A) : Type 0 where
  pub is : f σ ≡ given σ1 a
  pub notes : WritesValid (𝓜.Note σ1) m m1

-- A run that does c has come from σ with the cache m to σ' with m', and `rest` is left to do.
pub record Stage (𝓜 : Memo) {A : Type 0} (c rest : Outcome 𝓜.theory.Store A) (σ σ' : 𝓜.theory.Store) (m m' : List ℕ) : Type 0 where
  pub ext : 𝓜.theory.Ext σ σ'
  pub wf : 𝓜.theory.Wf σ'
  pub sound : Sound (𝓜.Read σ') m'
  pub notes : WritesValid (𝓜.Note σ') m m'
  pub left : c ≡ rest

module _ (𝓜 : Memo) where
  pub begin : {A : Type 0} {c rest : Outcome 𝓜.theory.Store A} {σ : 𝓜.theory.Store} {m : List ℕ}
      → 𝓜.theory.Wf σ → Sound (𝓜.Read σ) m → c ≡ rest → Stage 𝓜 c rest σ σ m m
  begin {σ} w s e = record { ext = 𝓜.theory.ext_refl σ; wf = w; sound = s; notes = notes_refl; left = e }

  module _ {A B : Type 0} (f : Step 𝓜.theory.Store A) (k : A → Step 𝓜.theory.Store B) {c : Outcome 𝓜.theory.Store B} {σ σ' : 𝓜.theory.Store} {m m' : List ℕ}
      (s : Stage 𝓜 c (after (f σ') k) σ σ' m m') where
    -- the call has given something
    pub next : {P : 𝓜.theory.Store → A → Type 0} {σ1 : 𝓜.theory.Store} {m1 : List ℕ} {a : A}
        → StableSpec 𝓜.theory f P σ' → Gave 𝓜 f σ' m' σ1 m1 a → Stage 𝓜 c (k a σ1) σ σ1 m m1
    next {P} {σ1} {m1} {a} r g =
        let good = given_of r g.is in
        let up = sound_map (𝓜.read_ext σ' σ1 good.ext) s.sound in
        record {
          ext = 𝓜.theory.ext_trans σ σ' σ1 s.ext good.ext;
          wf = good.wf;
          sound = sound_notes up (notes_map (𝓜.note_read σ1) g.notes);
          notes = notes_trans (notes_map (𝓜.note_ext σ' σ1 good.ext) s.notes) g.notes;
          left = s.left ∙ ap (λ (o : Outcome 𝓜.theory.Store A). after o k) g.is;
        }

    -- the call is refused
    pub stuck : {number : ℕ} → f σ' ≡ refused number → c ≡ refused number
    stuck e = s.left ∙ ap (λ (o : Outcome 𝓜.theory.Store A). after o k) e

  -- the last call has given something
  pub finish : {A : Type 0} (f : Step 𝓜.theory.Store A) {c : Outcome 𝓜.theory.Store A} {σ σ' σ1 : 𝓜.theory.Store} {m m' m1 : List ℕ} {a : A} {P : 𝓜.theory.Store → A → Type 0}
      → Stage 𝓜 c (f σ') σ σ' m m' → StableSpec 𝓜.theory f P σ' → Gave 𝓜 f σ' m' σ1 m1 a → Stage 𝓜 c (given σ1 a) σ σ1 m m1
  finish f {σ} {σ'} {σ1} s r g =
      let good = given_of r g.is in
      record {
        ext = 𝓜.theory.ext_trans σ σ' σ1 s.ext good.ext;
        wf = good.wf;
        sound = sound_notes (sound_map (𝓜.read_ext σ' σ1 good.ext) s.sound) (notes_map (𝓜.note_read σ1) g.notes);
        notes = notes_trans (notes_map (𝓜.note_ext σ' σ1 good.ext) s.notes) g.notes;
        left = s.left ∙ g.is;
      }

  -- nothing is left to do but to note the answer
  pub noted : {A : Type 0} {c rest : Outcome 𝓜.theory.Store A} {σ σ' : 𝓜.theory.Store} {m m' m1 : List ℕ} {op a b r : ℕ}
      → Stage 𝓜 c rest σ σ' m m' → WritesValid (Exactly op a b r) m' m1 → 𝓜.Note σ' op a b r → WritesValid (𝓜.Note σ') m m1
  noted s n v = notes_trans s.notes (notes_one n v)

-- ---- four calls

-- f can be called at every store from σ on, and P holds of what it gives
abbrev pub Can : (𝓜 : Memo) → (𝓜.theory.Store → ℕ → Type 0) → 𝓜.theory.Store → Step 𝓜.theory.Store ℕ → Type 0
Can 𝓜 P σ f = (τ : 𝓜.theory.Store) → 𝓜.theory.Ext σ τ → 𝓜.theory.Wf τ → StableSpec 𝓜.theory f P τ

-- c is four calls and then k: what each gives has P
pub record Four (𝓜 : Memo) {A : Type 0} (P : 𝓜.theory.Store → ℕ → Type 0) (c : Outcome 𝓜.theory.Store A) (σ : 𝓜.theory.Store) (m : List ℕ) : Type 0 where
  pub f1 : Step 𝓜.theory.Store ℕ
  pub f2 : Step 𝓜.theory.Store ℕ
  pub f3 : Step 𝓜.theory.Store ℕ
  pub f4 : Step 𝓜.theory.Store ℕ
  pub k : ℕ → ℕ → ℕ → ℕ → Step 𝓜.theory.Store A
  pub can1 : Can 𝓜 P σ f1
  pub can2 : Can 𝓜 P σ f2
  pub can3 : Can 𝓜 P σ f3
  pub can4 : Can 𝓜 P σ f4
  pub P-ext : (σ τ : 𝓜.theory.Store) (h : ℕ) → 𝓜.theory.Ext σ τ → P σ h → P τ h
  pub start : Stage 𝓜 c (after (f1 σ) (λ a σ1. after (f2 σ1) (λ b σ2. after (f3 σ2) (λ d σ3. after (f4 σ3) (λ e. k a b d e))))) σ σ m m

module _ {𝓜 : Memo} {A : Type 0} {P : 𝓜.theory.Store → ℕ → Type 0} {c : Outcome 𝓜.theory.Store A} {σ : 𝓜.theory.Store} {m : List ℕ} (F : Four 𝓜 P c σ m) where
  pub stuck_1 : {number : ℕ} → F.f1 σ ≡ refused number → c ≡ refused number
  stuck_1 e = stuck 𝓜 F.f1 _ F.start e

  module _ {σ1 : 𝓜.theory.Store} {m1 : List ℕ} {a : ℕ} (g1 : Gave 𝓜 F.f1 σ m σ1 m1 a) where
    run_1 : StableResult 𝓜.theory F.f1 P σ σ1 a
    run_1 = given_of (F.can1 σ F.start.ext F.start.wf) g1.is

    pub stage_1 : Stage 𝓜 c (after (F.f2 σ1) (λ b σ2. after (F.f3 σ2) (λ d σ3. after (F.f4 σ3) (λ e. F.k a b d e)))) σ σ1 m m1
    stage_1 = next 𝓜 F.f1 _ F.start (F.can1 σ F.start.ext F.start.wf) g1

    pub stuck_2 : {number : ℕ} → F.f2 σ1 ≡ refused number → c ≡ refused number
    stuck_2 e = stuck 𝓜 F.f2 _ stage_1 e

    module _ {σ2 : 𝓜.theory.Store} {m2 : List ℕ} {b : ℕ} (g2 : Gave 𝓜 F.f2 σ1 m1 σ2 m2 b) where
      run_2 : StableResult 𝓜.theory F.f2 P σ1 σ2 b
      run_2 = given_of (F.can2 σ1 stage_1.ext stage_1.wf) g2.is

      pub stage_2 : Stage 𝓜 c (after (F.f3 σ2) (λ d σ3. after (F.f4 σ3) (λ e. F.k a b d e))) σ σ2 m m2
      stage_2 = next 𝓜 F.f2 _ stage_1 (F.can2 σ1 stage_1.ext stage_1.wf) g2

      pub stuck_3 : {number : ℕ} → F.f3 σ2 ≡ refused number → c ≡ refused number
      stuck_3 e = stuck 𝓜 F.f3 _ stage_2 e

      module _ {σ3 : 𝓜.theory.Store} {m3 : List ℕ} {d : ℕ} (g3 : Gave 𝓜 F.f3 σ2 m2 σ3 m3 d) where
        run_3 : StableResult 𝓜.theory F.f3 P σ2 σ3 d
        run_3 = given_of (F.can3 σ2 stage_2.ext stage_2.wf) g3.is

        pub stage_3 : Stage 𝓜 c (after (F.f4 σ3) (λ e. F.k a b d e)) σ σ3 m m3
        stage_3 = next 𝓜 F.f3 _ stage_2 (F.can3 σ2 stage_2.ext stage_2.wf) g3

        pub stuck_4 : {number : ℕ} → F.f4 σ3 ≡ refused number → c ≡ refused number
        stuck_4 e = stuck 𝓜 F.f4 _ stage_3 e

        module _ {σ4 : 𝓜.theory.Store} {m4 : List ℕ} {e : ℕ} (g4 : Gave 𝓜 F.f4 σ3 m3 σ4 m4 e) where
          run_4 : StableResult 𝓜.theory F.f4 P σ3 σ4 e
          run_4 = given_of (F.can4 σ3 stage_3.ext stage_3.wf) g4.is

          pub stage_4 : Stage 𝓜 c (F.k a b d e σ4) σ σ4 m m4
          stage_4 = next 𝓜 F.f4 _ stage_3 (F.can4 σ3 stage_3.ext stage_3.wf) g4

          -- what the four calls gave, then
          pub held : P σ4 a × P σ4 b × P σ4 d × P σ4 e
          held = (
            F.P-ext σ3 σ4 a run_4.ext (F.P-ext σ2 σ3 a run_3.ext (F.P-ext σ1 σ2 a run_2.ext run_1.holds)),
            F.P-ext σ3 σ4 b run_4.ext (F.P-ext σ2 σ3 b run_3.ext run_2.holds),
            F.P-ext σ3 σ4 d run_4.ext run_3.holds,
            run_4.holds,
          )
