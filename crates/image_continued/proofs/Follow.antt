-- How to follow two runs side by side: past a `>>=`, into a test, on a part of the tables.
use Rattle.std.specs.Prelude.{if◌then◌else◌}
use mathlib.Core.Path.{◌≡◌, refl, sym, subst}
use mathlib.Core.Bool.{Bool, true, false}
use Prim.Native.Nat.{ℕ}
use Rattle.common.specs.Outcome.{Outcome, given, Step, after, Gives, gives}
use Rattle.common.specs.Runs.{placed}
use Rattle.aut_free.proofs.Alike as Alike
use Rattle.aut_free.proofs.Alike.{AlikeRuns}
use Rattle.image_continued.specs.Follow.{Follows, stops, lacks, comes, Never}

module _ {S T A B : Type 0} {E : ℕ → Type 0} where
  pub follows_map : {P Q : S → T → A → B → Type 0} {o : Outcome S A} {p : Outcome T B} → ((σ : S) (τ : T) (a : A) (b : B) → P σ τ a b → Q σ τ a b) → Follows E P o p → Follows E Q o p
  follows_map f stops = stops
  follows_map f (lacks e) = lacks e
  follows_map f (comes {σ} {τ} {a} {b} q) = comes (f σ τ a b q)

  -- one step after another
  pub follows_bind : {C D : Type 0} {P : S → T → A → B → Type 0} {Q : S → T → C → D → Type 0} {o : Outcome S A} {p : Outcome T B} {k : A → Step S C} {j : B → Step T D}
      → Follows E P o p → ((σ : S) (τ : T) (a : A) (b : B) → P σ τ a b → Follows E Q (k a σ) (j b τ)) → Follows E Q (after o k) (after p j)
  follows_bind stops f = stops
  follows_bind (lacks e) f = lacks e
  follows_bind (comes {σ} {τ} {a} {b} q) f = f σ τ a b q

  -- the first run has come to its end
  pub follows_alone : {C D : Type 0} {P : S → T → A → B → Type 0} {Q : S → T → C → D → Type 0} {σ : S} {a : A} {c : C} {p : Outcome T B} {j : B → Step T D}
      → Follows E P (given σ a) p → ((τ : T) (b : B) → P σ τ a b → Follows E Q (given σ c) (j b τ)) → Follows E Q (given σ c) (after p j)
  follows_alone (lacks e) f = lacks e
  follows_alone (comes {τ = τ} {b = b} q) f = f τ b q

  -- with what is known of each
  pub follows_with : {Q : S → T → A → B → Type 0} {P : S → A → Type 0} {R : T → B → Type 0} {o : Outcome S A} {p : Outcome T B} → Gives P o → Gives R p → Follows E Q o p
      → Follows E (λ σ τ a b. Q σ τ a b × P σ a × R τ b) o p
  follows_with g h stops = stops
  follows_with g h (lacks e) = lacks e
  follows_with (gives g) (gives h) (comes q) = comes (q, g, h)

  pub follows_right : {Q : S → T → A → B → Type 0} {R : T → B → Type 0} {o : Outcome S A} {p : Outcome T B} → Gives R p → Follows E Q o p → Follows E (λ σ τ a b. Q σ τ a b × R τ b) o p
  follows_right h stops = stops
  follows_right h (lacks e) = lacks e
  follows_right (gives h) (comes q) = comes (q, h)

  -- outcomes that are the same
  pub follows_as : {Q : S → T → A → B → Type 0} {o o' : Outcome S A} {p p' : Outcome T B} → o ≡ o' → p ≡ p' → Follows E Q o' p' → Follows E Q o p
  follows_as {Q} {o} {o'} {p} {p'} d e f = subst (λ (u : Outcome S A). Follows E Q u p) (sym d) (subst (λ (u : Outcome T B). Follows E Q o' u) (sym e) f)

  -- a test that both make
  pub follows_if : {Q : S → T → A → B → Type 0} {b c : Bool} {o o' : Outcome S A} {p p' : Outcome T B} → b ≡ c → (b ≡ true → Follows E Q o p) → (b ≡ false → Follows E Q o' p')
      → Follows E Q (if b then o else o') (if c then p else p')
  follows_if {Q} {b} {c} {o} {o'} {p} {p'} e f g = subst (λ (d : Bool). Follows E Q (if b then o else o') (if d then p else p')) e (go b refl)
    where
      go : (d : Bool) → b ≡ d → Follows E Q (if d then o else o') (if d then p else p')
      go true q = f q
      go false q = g q

  -- .. between steps
  pub follows_branch : {Q : S → T → A → B → Type 0} {b c : Bool} (m k : Step S A) (m' k' : Step T B) (σ : S) (τ : T) → b ≡ c → (b ≡ true → Follows E Q (m σ) (m' τ)) → (b ≡ false → Follows E Q (k σ) (k' τ))
      → Follows E Q ((if b then m else k) σ) ((if c then m' else k') τ)
  follows_branch {Q} {b} {c} m k m' k' σ τ e f g = subst (λ (d : Bool). Follows E Q ((if b then m else k) σ) ((if d then m' else k') τ)) e (go b refl)
    where
      go : (d : Bool) → b ≡ d → Follows E Q ((if d then m else k) σ) ((if d then m' else k') τ)
      go true q = f q
      go false q = g q

  pub follows_choose : {Q : S → T → A → B → Type 0} (b : Bool) (m k : Step S A) (m' k' : Step T B) (σ : S) (τ : T) → (b ≡ true → Follows E Q (m σ) (m' τ)) → (b ≡ false → Follows E Q (k σ) (k' τ))
      → Follows E Q ((if b then m else k) σ) ((if b then m' else k') τ)
  follows_choose true m k m' k' σ τ f g = f refl
  follows_choose false m k m' k' σ τ f g = g refl

  -- .. that the second alone makes
  pub follows_test : {Q : S → T → A → B → Type 0} {o : Outcome S A} (b : Bool) (m k : Step T B) (τ : T) → (b ≡ true → Follows E Q o (m τ)) → (b ≡ false → Follows E Q o (k τ)) → Follows E Q o ((if b then m else k) τ)
  follows_test true m k τ f g = f refl
  follows_test false m k τ f g = g refl

  -- nothing else is allowed
  pub follows_never : {Q : S → T → A → B → Type 0} {o : Outcome S A} {p : Outcome T B} → Follows Never Q o p → Follows E Q o p
  follows_never stops = stops
  follows_never (lacks e) = absurd e
  follows_never (comes q) = comes q

  -- on a part of the tables
  pub follows_placed : {S' T' : Type 0} {P : S' → T' → A → B → Type 0} {Q : S → T → A → B → Type 0} (put : S' → S → S) (set : T' → T → T) (σ : S) (τ : T) {o : Outcome S' A} {p : Outcome T' B}
      → Follows E P o p → ((s : S') (t : T') (a : A) (b : B) → P s t a b → Q (put s σ) (set t τ) a b) → Follows E Q (placed put σ o) (placed set τ p)
  follows_placed put set σ τ stops f = stops
  follows_placed put set σ τ (lacks e) f = lacks e
  follows_placed put set σ τ (comes {σ = s} {τ = t} {a} {b} q) f = comes (f s t a b q)

-- runs that are alike
pub follows_alike : {S A : Type 0} {E : ℕ → Type 0} {R : S → S → Type 0} {o p : Outcome S A} → AlikeRuns R o p → Follows E (λ σ τ a b. (a ≡ b) × R σ τ) o p
follows_alike Alike.stops = stops
follows_alike (Alike.comes r) = comes (refl, r)
