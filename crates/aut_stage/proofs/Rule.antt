-- What holds of the definitions of specs/Rule.
use mathlib.Core.Path.{◌≡◌, ◌∙◌, ap}
use mathlib.Core.List.{List, [], ◌∷◌}
use Prim.Native.Nat.{ℕ, ◌+◌, ◌≤◌}
use native.Mathlib.Omega.{arith}
use lib.ListN.{length}
use Rattle.std.specs.Prelude.{Result, Ok, Err}
use Rattle.common.specs.Outcome.{Outcome, given, Step, after}
use Rattle.refusal.specs.declared.Refusal.{Refusal}
use Rattle.aut_steps.specs.Scratch.{Kept}
use Rattle.aut_stage.specs.Rule.{Layer, Laws, Post, Stage}

-- n words from a on, among them m from b on
pub record Inside (a n b m : ℕ) : Type 0 where
  pub from : a ≤ b
  pub to : b + m ≤ a + n

pub all_of : (a n : ℕ) → Inside a n a n
all_of a n = record { from = omega arith; to = omega arith }

module _ {𝓛 : Layer} (W : Laws 𝓛) (a n : ℕ) {A : Type 0} {whole : Outcome 𝓛.Store A} {σ : 𝓛.Store} {s : List ℕ} where
  pub begin : {rest : Outcome 𝓛.Store A} → 𝓛.Ready σ s → whole ≡ rest → Stage 𝓛 a n whole rest σ σ s s
  begin r e = record { ext = W.ext_refl σ; frame = W.frame_refl a n σ s; ready = r; is = e }

  module _ {τ : 𝓛.Store} {s' : List ℕ} where
    -- what is left to do is proved equal to something else
    pub instead : {rest rest' : Outcome 𝓛.Store A} → Stage 𝓛 a n whole rest σ τ s s' → rest ≡ rest' → Stage 𝓛 a n whole rest' σ τ s s'
    instead g e = record { ext = g.ext; frame = g.frame; ready = g.ready; is = g.is ∙ e }

    -- some of the run's words were written, which is no step
    pub wrote : {rest : Outcome 𝓛.Store A} {b m : ℕ} {s'' : List ℕ} → Stage 𝓛 a n whole rest σ τ s s' → Inside a n b m → b + m ≤ 𝓛.lists → Kept b m s' s'' → length s'' ≡ length s'
        → Stage 𝓛 a n whole rest σ τ s s''
    wrote {b = b} {m = m} {s'' = s''} g i k p e =
        let f = W.frame_kept b m τ s' s'' k e p in
        record {
          ext = g.ext;
          frame = W.frame_trans a n τ τ s s' s'' (W.ext_refl τ) g.frame (W.frame_wide a n b m τ s' s'' i.from i.to f);
          ready = W.ready_kept b m τ s' s'' e f g.ready;
          is = g.is;
        }

    module _ {V B : Type 0} {see : V → B} {o : Outcome 𝓛.Store B} {b m : ℕ} {P : 𝓛.Store → B → Type 0} {υ : 𝓛.Store} {s'' : List ℕ} where
      -- a call came back with a value
      pub next : {v : V} → Post 𝓛 b m P see o τ (Ok v) υ s' s'' → Inside a n b m → (k : B → Step 𝓛.Store A) → Stage 𝓛 a n whole (after o k) σ τ s s' → Stage 𝓛 a n whole (k (see v) υ) σ υ s s''
      next p i k g =
          let w = p.then in
          record {
            ext = W.ext_trans σ τ υ g.ext w.ext;
            frame = W.frame_trans a n τ υ s s' s'' w.ext g.frame (W.frame_wide a n b m υ s' s'' i.from i.to w.frame);
            ready = w.ready;
            is = g.is ∙ ap (λ (z : Outcome 𝓛.Store B). after z k) p.is;
          }

      -- a call was refused: the run is
      pub stuck : {W : Type 0} {see' : W → A} {Q : 𝓛.Store → A → Type 0} {e : Refusal} {υ' : 𝓛.Store} {z : List ℕ} → Post 𝓛 b m P see o τ (Err e) υ s' s'' → (k : B → Step 𝓛.Store A) → Stage 𝓛 a n whole (after o k) σ τ s s'
          → Post 𝓛 a n Q see' whole σ (Err e) υ' s z
      stuck p k g = record { is = g.is ∙ ap (λ (z : Outcome 𝓛.Store B). after z k) p.is; then = tt }

    -- the last call, whatever it answers
    pub finish : {V : Type 0} {see : V → A} {b m : ℕ} {P : 𝓛.Store → A → Type 0} {o : Outcome 𝓛.Store A} {υ : 𝓛.Store} {s'' : List ℕ} → Stage 𝓛 a n whole o σ τ s s' → (r : Result V Refusal) → Post 𝓛 b m P see o τ r υ s' s'' → Inside a n b m
        → Post 𝓛 a n P see whole σ r υ s s''
    finish {b = b} {m = m} {υ = υ} {s'' = s''} g (Ok v) p i =
        let w = p.then in
        record {
          is = g.is ∙ p.is;
          then = record {
            ext = W.ext_trans σ τ υ g.ext w.ext;
            frame = W.frame_trans a n τ υ s s' s'' w.ext g.frame (W.frame_wide a n b m υ s' s'' i.from i.to w.frame);
            ready = w.ready;
            holds = w.holds;
          };
        }
    finish g (Err e) p i = record { is = g.is ∙ p.is; then = tt }

    -- nothing is left to do
    pub done : {V : Type 0} {see : V → A} {P : 𝓛.Store → A → Type 0} {v : V} → Stage 𝓛 a n whole (given τ (see v)) σ τ s s' → P τ (see v) → Post 𝓛 a n P see whole σ (Ok v) τ s s'
    done g h = record { is = g.is; then = record { ext = g.ext; frame = g.frame; ready = g.ready; holds = h } }

-- ---- a loop

-- the steps for all of a list are those for one, and then those for the others
pub record Folds {Store E A : Type 0} (one : E → A → Step Store A) (all : List E → A → Step Store A) : Type 0 where
  pub none : (x : A) (σ : Store) → all [] x σ ≡ given σ x
  pub some : (e : E) (es : List E) (x : A) (σ : Store) → all (e ∷ es) x σ ≡ after (one e x σ) (all es)

-- i turns are done: of the elements those from i on (`on i`) are left, the value is x, and P holds of it
pub record Turned (𝓛 : Layer) (a n : ℕ) {E A : Type 0} (all : List E → A → Step 𝓛.Store A) (on : ℕ → List E) (k : ℕ) (P : 𝓛.Store → A → Type 0) (whole : Outcome 𝓛.Store A) (σ τ : 𝓛.Store) (s s' : List ℕ) (x : A) (i : ℕ) : Type 0 where
  pub most : i ≤ k
  pub stage : Stage 𝓛 a n whole (all (on i) x τ) σ τ s s'
  pub holds : P τ x

module _ {𝓛 : Layer} (W : Laws 𝓛) (a n : ℕ) {E A : Type 0} {one : E → A → Step 𝓛.Store A} {all : List E → A → Step 𝓛.Store A} (F : Folds one all) {on : ℕ → List E} {k : ℕ} {P : 𝓛.Store → A → Type 0}
    {whole : Outcome 𝓛.Store A} {σ τ : 𝓛.Store} {s s' : List ℕ} {x : A} {i : ℕ} (v : Turned 𝓛 a n all on k P whole σ τ s s' x i) where
  -- the next element is e: the body is a call, by `next` or `stuck`
  pub turn : {e : E} → on i ≡ e ∷ on (i + 1) → Stage 𝓛 a n whole (after (one e x τ) (all (on (i + 1)))) σ τ s s'
  turn {e} q = instead W a n v.stage (ap (λ (es : List E). all es x τ) q ∙ F.some e (on (i + 1)) x τ)

  -- there is none left
  pub over : on i ≡ [] → Stage 𝓛 a n whole (given τ x) σ τ s s'
  over q = instead W a n v.stage (ap (λ (es : List E). all es x τ) q ∙ F.none x τ)

  -- the body gave a value
  pub again : {V : Type 0} {see : V → A} {b m : ℕ} {e : E} {y : V} {υ : 𝓛.Store} {s1 : List ℕ} → i + 1 ≤ k → on i ≡ e ∷ on (i + 1) → Post 𝓛 b m P see (one e x τ) τ (Ok y) υ s' s1 → Inside a n b m
      → Turned 𝓛 a n all on k P whole σ υ s s1 (see y) (i + 1)
  again l q p j = record { most = l; stage = next W a n p j _ (turn q); holds = p.then.holds }
