-- What holds of the definitions of specs/Runs.
use mathlib.Core.Path.{◌≡◌, refl, sym, ◌∙◌, ap, subst}
use Rattle.common.specs.Outcome.{Outcome, refused, given, Step, return, after, ◌>>=◌, Gives, refusal, gives}
use Rattle.common.proofs.Follow.{it_gives}
use Rattle.common.specs.Runs.{Theory, StableResult, placed}

-- The run c from σ is good, unless it is refused.
abbrev pub StableSpec : (𝓣 : Theory) {A : Type 0} → Step 𝓣.Store A → (𝓣.Store → A → Type 0) → 𝓣.Store → Type 0
StableSpec 𝓣 c P σ = Gives (StableResult 𝓣 c P σ) (c σ)

gives_map : {S A : Type 0} {P Q : S → A → Type 0} {o : Outcome S A} → ((σ : S) (a : A) → P σ a → Q σ a) → Gives P o → Gives Q o
gives_map f refusal = refusal
gives_map f (gives {σ} {a} p) = gives (f σ a p)

module _ (𝓣 : Theory) where
  open 𝓣 use {Store, Wf, Ext, ext_refl, ext_trans}

  module _ {A : Type 0} where
    -- what holds may be weakened
    pub runs_map : {c : Step Store A} {P Q : Store → A → Type 0} {σ : Store}
        → ((τ : Store) (a : A) → Ext σ τ → Wf τ → P τ a → Q τ a) → StableSpec 𝓣 c P σ → StableSpec 𝓣 c Q σ
    runs_map {c} {P} {Q} {σ} f r =
        gives_map (λ τ a g. record { ext = g.ext; wf = g.wf; holds = f τ a g.ext g.wf g.holds; stable = g.stable }) r

    -- a run that does the same as another, in every store from σ on
    pub runs_is : {c c' : Step Store A} {P : Store → A → Type 0} {σ : Store}
        → ((τ : Store) → Ext σ τ → c' τ ≡ c τ) → StableSpec 𝓣 c P σ → StableSpec 𝓣 c' P σ
    runs_is {c} {c'} {P} {σ} q r =
        subst (Gives (StableResult 𝓣 c' P σ)) (sym (q σ (ext_refl σ)))
        (gives_map (λ τ a g. record {
          ext = g.ext;
          wf = g.wf;
          holds = g.holds;
          stable = λ υ x w. q υ (ext_trans σ τ υ g.ext x) ∙ g.stable υ x w;
        }) r)

    -- an answer with no change
    pub runs_return : {P : Store → A → Type 0} {σ : Store} (a : A) → Wf σ → P σ a → StableSpec 𝓣 (return a) P σ
    runs_return {P} {σ} a w p = gives (record { ext = ext_refl σ; wf = w; holds = p; stable = λ τ x v. refl })

    -- a run that first reads something that no later store changes
    pub runs_read : {X : Type 0} (read : Store → X) (body : X → Step Store A) {P : Store → A → Type 0} {σ : Store}
        → ((τ : Store) → Ext σ τ → read τ ≡ read σ) → StableSpec 𝓣 (body (read σ)) P σ → StableSpec 𝓣 (λ τ. body (read τ) τ) P σ
    runs_read {X} read body {P} {σ} same r = runs_is (λ τ x. ap (λ (z : X). body z τ) (same τ x)) r

    -- one run after another
    pub runs_bind : {B : Type 0} {c : Step Store A} {k : A → Step Store B} {P : Store → A → Type 0} {Q : Store → B → Type 0} {σ : Store}
        → StableSpec 𝓣 c P σ → ((τ : Store) (a : A) → Ext σ τ → Wf τ → P τ a → StableSpec 𝓣 (k a) Q τ) → StableSpec 𝓣 (c >>= k) Q σ
    runs_bind {B} {c} {k} {P} {Q} {σ} r f = go (c σ) r
      where
        go : (o : Outcome Store A) → Gives (StableResult 𝓣 c P σ) o → Gives (StableResult 𝓣 (c >>= k) Q σ) (after o k)
        go (refused number) g = refusal
        go (given τ a) g =
            let h : StableResult 𝓣 c P σ τ a = it_gives g in
            gives_map (λ υ b g2. record {
              ext = ext_trans σ τ υ h.ext g2.ext;
              wf = g2.wf;
              holds = g2.holds;
              stable = λ ω x w. ap (λ (o : Outcome Store A). after o k) (h.stable ω (ext_trans τ υ ω g2.ext x) w) ∙ g2.stable ω x w;
            })
            (f τ a h.ext h.wf h.holds)

-- A store inside a larger one: `get` looks at it, `put` puts a later one in its place.
pub record Inside (𝓢 𝓑 : Theory) : Type 0 where
  pub get : 𝓑.Store → 𝓢.Store
  pub put : 𝓢.Store → 𝓑.Store → 𝓑.Store
  pub get_put : (s : 𝓢.Store) (σ : 𝓑.Store) → get (put s σ) ≡ s
  pub put_get : (σ : 𝓑.Store) → put (get σ) σ ≡ σ
  pub get_wf : (σ : 𝓑.Store) → 𝓑.Wf σ → 𝓢.Wf (get σ)
  pub put_wf : (s : 𝓢.Store) (σ : 𝓑.Store) → 𝓑.Wf σ → 𝓢.Wf s → 𝓢.Ext (get σ) s → 𝓑.Wf (put s σ)
  pub get_ext : (σ τ : 𝓑.Store) → 𝓑.Ext σ τ → 𝓢.Ext (get σ) (get τ)
  pub put_ext : (s : 𝓢.Store) (σ : 𝓑.Store) → 𝓢.Ext (get σ) s → 𝓑.Ext σ (put s σ)

-- a step of the smaller store as one of the larger
abbrev pub on : {𝓢 𝓑 : Theory} → Inside 𝓢 𝓑 → {A : Type 0} → Step 𝓢.Store A → Step 𝓑.Store A
on 𝓘 c σ = placed 𝓘.put σ (c (𝓘.get σ))

pub runs_on : {𝓢 𝓑 : Theory} (𝓘 : Inside 𝓢 𝓑) {A : Type 0} {c : Step 𝓢.Store A} {P : 𝓢.Store → A → Type 0} {σ : 𝓑.Store}
    → 𝓑.Wf σ → StableSpec 𝓢 c P (𝓘.get σ) → StableSpec 𝓑 (on 𝓘 c) (λ τ a. P (𝓘.get τ) a) σ
runs_on {𝓢} {𝓑} 𝓘 {A} {c} {P} {σ} w r = go (c (𝓘.get σ)) r
  where
    go : (o : Outcome 𝓢.Store A) → Gives (StableResult 𝓢 c P (𝓘.get σ)) o → Gives (StableResult 𝓑 (on 𝓘 c) (λ τ a. P (𝓘.get τ) a) σ) (placed 𝓘.put σ o)
    go (refused number) g = refusal
    go (given s a) g =
        let h : StableResult 𝓢 c P (𝓘.get σ) s a = it_gives g in
        gives (record {
          ext = 𝓘.put_ext s σ h.ext;
          wf = 𝓘.put_wf s σ w h.wf h.ext;
          holds = subst (λ (z : 𝓢.Store). P z a) (sym (𝓘.get_put s σ)) h.holds;
          stable = λ τ x v.
              ap (placed 𝓘.put τ) (h.stable (𝓘.get τ) (subst (λ (z : 𝓢.Store). 𝓢.Ext z (𝓘.get τ)) (𝓘.get_put s σ) (𝓘.get_ext (𝓘.put s σ) τ x)) (𝓘.get_wf τ v))
              ∙ ap (λ (z : 𝓑.Store). given z a) (𝓘.put_get τ);
        })
