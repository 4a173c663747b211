-- A loop over a list that is read element by element, where no turn writes. Said once, for every layer, list, turn, and property that the turns keep.
use mathlib.Core.Path.{◌≡◌, sym, ◌∙◌, ap, subst}
use mathlib.Core.List.{List, [], ◌∷◌}
use Prim.Native.Nat.{ℕ, ◌+◌, ◌≤◌, ◌<◌}
use native.Mathlib.Omega.{arith}
use Rattle.std.specs.Prelude.{Ok, Err}
use Rattle.common.specs.Outcome.{Outcome, Step}
use Rattle.refusal.specs.declared.Refusal.{Refusal}
use Rattle.aut_stage.specs.Rule.{Layer, Laws, Post}
use Rattle.aut_stage.proofs.Rule.{Folds, Turned, begin, stuck, done, turn, over, again, all_of}

-- k elements that are read in scratch s: the i-th is `entry s i`, those from i on are `on i`. The n words from a on are none of theirs; At holds of each, and still does when the store has grown
pub record Entries (𝓛 : Layer) (a n : ℕ) {E : Type 0} (At : 𝓛.Store → E → Type 0) (σ : 𝓛.Store) (s : List ℕ) (k : ℕ) (on : ℕ → List E) (entry : List ℕ → ℕ → E) : Type 0 where
  pub next : (i : ℕ) → i < k → on i ≡ entry s i ∷ on (i + 1)
  pub none : (i : ℕ) → k ≤ i → on i ≡ []
  pub kept : (τ : 𝓛.Store) (s' : List ℕ) → 𝓛.Frame a n τ s s' → (i : ℕ) → i < k → entry s' i ≡ entry s i
  pub at : (τ : 𝓛.Store) → 𝓛.Ext σ τ → (i : ℕ) → i < k → At τ (entry s i)

module _ {𝓛 : Layer} (L : Laws 𝓛) (a n : ℕ) {E A : Type 0} {one : E → A → Step 𝓛.Store A} {all : List E → A → Step 𝓛.Store A} (F : Folds one all) {At : 𝓛.Store → E → Type 0} {σ : 𝓛.Store} {s : List ℕ} {k : ℕ} {on : ℕ → List E}
    {entry : List ℕ → ℕ → E} (W : Entries 𝓛 a n At σ s k on entry) {P : 𝓛.Store → A → Type 0} {whole : Outcome 𝓛.Store A} where
  -- nothing is read yet
  pub read_begin : {x : A} → 𝓛.Ready σ s → whole ≡ all (on 0) x σ → P σ x → Turned 𝓛 a n all on k P whole σ σ s s x 0
  read_begin r e p = record { most = omega arith; stage = begin L a n r e; holds = p }

  -- e was read, the next in turn
  module _ {τ : 𝓛.Store} {s' : List ℕ} {x : A} {i : ℕ} (v : Turned 𝓛 a n all on k P whole σ τ s s' x i) (lt : i < k) {e : E} (read : e ≡ entry s' i) where
    same : e ≡ entry s i
    same = read ∙ W.kept τ s' v.stage.frame i lt

    pub read_at : At τ e
    read_at = subst (At τ) (sym same) (W.at τ v.stage.ext i lt)

    on_next : on i ≡ e ∷ on (i + 1)
    on_next = W.next i lt ∙ ap (λ (e : E). e ∷ on (i + 1)) (sym same)

    module _ {V : Type 0} {see : V → A} {υ : 𝓛.Store} {s'' : List ℕ} where
      pub read_stuck : {W : Type 0} {see' : W → A} {number : Refusal} {υ' : 𝓛.Store} {z : List ℕ} → Post 𝓛 a n P see (one e x τ) τ (Err number) υ s' s'' → Post 𝓛 a n P see' whole σ (Err number) υ' s z
      read_stuck q = stuck L a n q (all (on (i + 1))) (turn L a n F v on_next)

      pub read_again : {y : V} → Post 𝓛 a n P see (one e x τ) τ (Ok y) υ s' s'' → Turned 𝓛 a n all on k P whole σ υ s s'' (see y) (i + 1)
      read_again p = again L a n F v (omega arith) on_next p (all_of a n)

  -- all are read
  pub read_end : {V : Type 0} {see : V → A} {τ : 𝓛.Store} {s' : List ℕ} {y : V} {i : ℕ} → Turned 𝓛 a n all on k P whole σ τ s s' (see y) i → k ≤ i → Post 𝓛 a n P see whole σ (Ok y) τ s s'
  read_end {i = i} v le = done L a n (over L a n F v (W.none i le)) v.holds
