-- 01, "Who can cause a refusal": a number is returned under its condition and under no other. What a run comes to, with its refusals: unless it is refused it is good (StableSpec), and it is refused with a number only if it comes to a later
-- well-formed store where that number is the right one. Said once, for every kind of store.
use mathlib.Core.Path.{◌≡◌, sym, subst}
use Prim.Native.Nat.{ℕ}
use Rattle.common.specs.Outcome.{Outcome, refused, given, Step, return, after, ◌>>=◌, Gives}
use Rattle.common.proofs.Follow.{it_gives}
use Rattle.common.specs.Runs.{Theory, StableResult, placed}
use Rattle.common.proofs.Runs.{StableSpec, runs_map, runs_read, runs_return, runs_bind, Inside, on, runs_on}

-- A kind of store, and when a number is the right one to be refused with.
pub record Limited : Type 1 where
  pub theory : Theory
  pub Stuck : ℕ → theory.Store → Type 0

-- from σ, an outcome is refused only so
pub data Stops (𝓛 : Limited) {A : Type 0} (σ : 𝓛.theory.Store) : Outcome 𝓛.theory.Store A → Type 0 where
  stuck : {number : ℕ} {τ : 𝓛.theory.Store} → 𝓛.theory.Ext σ τ → 𝓛.theory.Wf τ → 𝓛.Stuck number τ → Stops 𝓛 σ (refused number)
  goes : {τ : 𝓛.theory.Store} {a : A} → Stops 𝓛 σ (given τ a)

pub record Exact (𝓛 : Limited) {A : Type 0} (c : Step 𝓛.theory.Store A) (P : 𝓛.theory.Store → A → Type 0) (σ : 𝓛.theory.Store) : Type 0 where
  pub runs : StableSpec 𝓛.theory c P σ
  pub stops : Stops 𝓛 σ (c σ)

-- the store at which a refused run is stuck
pub record Stop (𝓛 : Limited) (σ : 𝓛.theory.Store) (number : ℕ) : Type 0 where
  pub last : 𝓛.theory.Store
  pub later : 𝓛.theory.Ext σ last
  pub wf : 𝓛.theory.Wf last
  pub why : 𝓛.Stuck number last

module _ (𝓛 : Limited) where
  open 𝓛 use {theory, Stuck}
  open 𝓛.theory use {Store, Wf, Ext, ext_refl, ext_trans}

  pub stop_of : {A : Type 0} {σ : Store} {o : Outcome Store A} → Stops 𝓛 σ o → (number : ℕ) → o ≡ refused number → Stop 𝓛 σ number
  stop_of {A} {σ} s number e = go (subst (Stops 𝓛 σ) e s)
    where
      go : {k : ℕ} → Stops 𝓛 {A = A} σ (refused k) → Stop 𝓛 σ k
      go (stuck {τ} x w y) = record { last = τ; later = x; wf = w; why = y }

  stops_ext : {A : Type 0} {σ τ : Store} {o : Outcome Store A} → Ext σ τ → Stops 𝓛 τ o → Stops 𝓛 σ o
  stops_ext {σ} {τ} e (stuck {τ = υ} x w s) = stuck (ext_trans σ τ υ e x) w s
  stops_ext e goes = goes

  module _ {A : Type 0} where
    pub exact_map : {c : Step Store A} {P Q : Store → A → Type 0} {σ : Store}
        → ((τ : Store) (a : A) → Ext σ τ → Wf τ → P τ a → Q τ a) → Exact 𝓛 c P σ → Exact 𝓛 c Q σ
    exact_map f r = record { runs = runs_map theory f r.runs; stops = r.stops }

    pub exact_return : {P : Store → A → Type 0} {σ : Store} (a : A) → Wf σ → P σ a → Exact 𝓛 (return a) P σ
    exact_return a w p = record { runs = runs_return theory a w p; stops = goes }

    pub exact_read : {X : Type 0} (read : Store → X) (body : X → Step Store A) {P : Store → A → Type 0} {σ : Store}
        → ((τ : Store) → Ext σ τ → read τ ≡ read σ) → Exact 𝓛 (body (read σ)) P σ → Exact 𝓛 (λ τ. body (read τ) τ) P σ
    exact_read read body same r = record { runs = runs_read theory read body same r.runs; stops = r.stops }

    pub exact_bind : {B : Type 0} {c : Step Store A} {k : A → Step Store B} {P : Store → A → Type 0} {Q : Store → B → Type 0} {σ : Store}
        → Exact 𝓛 c P σ → ((τ : Store) (a : A) → Ext σ τ → Wf τ → P τ a → Exact 𝓛 (k a) Q τ) → Exact 𝓛 (c >>= k) Q σ
    exact_bind {B} {c} {k} {P} {Q} {σ} r f =
        record { runs = runs_bind theory r.runs (λ τ a e w p. (f τ a e w p).runs); stops = go (c σ) r.stops r.runs }
      where
        go : (o : Outcome Store A) → Stops 𝓛 σ o → Gives (StableResult theory c P σ) o → Stops 𝓛 σ (after o k)
        go (refused number) (stuck x w s) g = stuck x w s
        go (given τ a) s g = let h : StableResult theory c P σ τ a = it_gives g in stops_ext h.ext (f τ a h.ext h.wf h.holds).stops

-- a smaller store's limits in a larger one
abbrev pub lifted : (𝓛 : Limited) {𝓑 : Theory} → Inside 𝓛.theory 𝓑 → Limited
lifted 𝓛 {𝓑} 𝓘 = record { theory = 𝓑; Stuck = λ number τ. 𝓛.Stuck number (𝓘.get τ) }

pub exact_on : (𝓛 : Limited) {𝓑 : Theory} (𝓘 : Inside 𝓛.theory 𝓑) {A : Type 0} {c : Step 𝓛.theory.Store A} {P : 𝓛.theory.Store → A → Type 0} {σ : 𝓑.Store}
    → 𝓑.Wf σ → Exact 𝓛 c P (𝓘.get σ) → Exact (lifted 𝓛 𝓘) (on 𝓘 c) (λ τ a. P (𝓘.get τ) a) σ
exact_on 𝓛 {𝓑} 𝓘 {A} {c} {P} {σ} w r = record { runs = runs_on 𝓘 w r.runs; stops = go (c (𝓘.get σ)) r.stops }
  where
    go : (o : Outcome 𝓛.theory.Store A) → Stops 𝓛 (𝓘.get σ) o → Stops (lifted 𝓛 𝓘) σ (placed 𝓘.put σ o)
    go (refused number) (stuck {τ = s} x v y) =
        stuck (𝓘.put_ext s σ x) (𝓘.put_wf s σ w v x) (subst (λ (z : 𝓛.theory.Store). 𝓛.Stuck number z) (sym (𝓘.get_put s σ)) y)
    go (given s a) y = goes
