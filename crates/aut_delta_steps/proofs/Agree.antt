-- 01, "Forms that must change" (delta and epsilon call themselves on operands): two runs that come to the same: both refused with one number, and W is the reason for it; or both to one store and answer, of which Q holds. A step that calls
-- itself on operands is followed once, for two ways to call: so its law, and that the depth of its calls does not matter, are one proof. Assumes nothing.
use Rattle.std.specs.Prelude.{if◌then◌else◌}
use mathlib.Core.Path.{◌≡◌, refl, ap₂, subst}
use mathlib.Core.List.{List, [], ◌∷◌, map}
use mathlib.Core.Bool.{Bool, true, false}
use Prim.Native.Nat.{ℕ}
use Rattle.common.specs.Outcome.{Outcome, refused, given, Step, after, Gives, refusal, gives}
use Rattle.common.specs.Runs.{placed}

pub data Agree {S A : Type 0} (W : ℕ → Type 0) (Q : S → A → Type 0) : Outcome S A → Outcome S A → Type 0 where
  stop : {number : ℕ} → W number → Agree W Q (refused number) (refused number)
  come : {σ : S} {a : A} → Q σ a → Agree W Q (given σ a) (given σ a)

module _ {S A : Type 0} {W : ℕ → Type 0} {Q : S → A → Type 0} where
  pub agree_same : {o p : Outcome S A} → Agree W Q o p → o ≡ p
  agree_same (stop w) = refl
  agree_same (come q) = refl

  pub agree_gives : {o p : Outcome S A} → Agree W Q o p → Gives Q o
  agree_gives (stop w) = refusal
  agree_gives (come q) = gives q

  -- what is given, and why it is refused
  pub agree_came : {σ : S} {a : A} {p : Outcome S A} → Agree W Q (given σ a) p → Q σ a
  agree_came (come q) = q

  pub agree_stopped : {number : ℕ} {p : Outcome S A} → Agree W Q (refused number) p → W number
  agree_stopped (stop w) = w

  -- .. of an outcome that is known
  pub agree_given : {o p : Outcome S A} {σ : S} {a : A} → Agree W Q o p → o ≡ given σ a → Q σ a
  agree_given {p = p} c e = agree_came (subst (λ (o : Outcome S A). Agree W Q o p) e c)

  pub agree_refused : {o p : Outcome S A} {number : ℕ} → Agree W Q o p → o ≡ refused number → W number
  agree_refused {p = p} c e = agree_stopped (subst (λ (o : Outcome S A). Agree W Q o p) e c)

  pub agree_bind : {B : Type 0} {W' : ℕ → Type 0} {R : S → B → Type 0} {o p : Outcome S A} {k j : A → Step S B} → Agree W Q o p
      → ((number : ℕ) → W number → W' number) → ((σ : S) (a : A) → Q σ a → Agree W' R (k a σ) (j a σ)) → Agree W' R (after o k) (after p j)
  agree_bind (stop {number} w) g f = stop (g number w)
  agree_bind (come {σ} {a} q) g f = f σ a q

  pub agree_map : {W' : ℕ → Type 0} {R : S → A → Type 0} {o p : Outcome S A} → Agree W Q o p
      → ((number : ℕ) → W number → W' number) → ((σ : S) (a : A) → Q σ a → R σ a) → Agree W' R o p
  agree_map (stop {number} w) g f = stop (g number w)
  agree_map (come {σ} {a} q) g f = come (f σ a q)

  -- a test
  pub agree_if : (b : Bool) {o p o' p' : Outcome S A} → (b ≡ true → Agree W Q o p) → (b ≡ false → Agree W Q o' p') → Agree W Q (if b then o else o') (if b then p else p')
  agree_if true f g = f refl
  agree_if false f g = g refl

  -- a step on a part of the store
  pub agree_placed : {B : Type 0} {W' : ℕ → Type 0} {R : B → A → Type 0} (put : S → B → B) (β : B) {o p : Outcome S A} → Agree W Q o p
      → ((number : ℕ) → W number → W' number) → ((σ : S) (a : A) → Q σ a → R (put σ β) a) → Agree W' R (placed put β o) (placed put β p)
  agree_placed put β (stop {number} w) g f = stop (g number w)
  agree_placed put β (come {σ} {a} q) g f = come (f σ a q)

-- ---- an answer for each member of a list

pub data All2 {A B : Type 0} (P : A → B → Type 0) : List A → List B → Type 0 where
  none : All2 P [] []
  also : {a : A} {b : B} {as' : List A} {bs : List B} → P a b → All2 P as' bs → All2 P (a ∷ as') (b ∷ bs)

pub all2_map : {A B : Type 0} {P Q : A → B → Type 0} {as' : List A} {bs : List B} → ((a : A) (b : B) → P a b → Q a b) → All2 P as' bs → All2 Q as' bs
all2_map f none = none
all2_map f (also {a} {b} p r) = also (f a b p) (all2_map f r)

-- what is read of each member is its answer
pub all2_reads : {A B : Type 0} (f : A → B) {as' : List A} {bs : List B} → All2 (λ a b. f a ≡ b) as' bs → map f as' ≡ bs
all2_reads f none = refl
all2_reads f (also e r) = ap₂ ◌∷◌ e (all2_reads f r)
