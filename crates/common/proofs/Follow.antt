-- How to show something of what a step gives: follow its code. `step` and `call` go past a `>>=`, `branch` into an `if`. Assumes nothing.
use Rattle.std.specs.Prelude.{if◌then◌else◌}
use mathlib.Core.Path.{◌≡◌, refl, subst}
use mathlib.Core.Bool.{Bool, true, false}
use Prim.Native.Nat.{ℕ}
use native.Mathlib.Omega.{arith}
use Rattle.common.specs.Outcome.{Outcome, refused, given, Step, after, Gives, refusal, gives}

pub it_gives : {Store B : Type 0} {Q : Store → B → Type 0} {σ : Store} {b : B} → Gives Q (given σ b) → Q σ b
it_gives (gives q) = q

-- what an outcome gives, and the other way round
pub given_of : {Store B : Type 0} {Q : Store → B → Type 0} {o : Outcome Store B} → Gives Q o → {σ : Store} {b : B} → o ≡ given σ b → Q σ b
given_of {Q} g e = it_gives (subst (λ o. Gives Q o) e g)

pub if_given : {Store B : Type 0} {Q : Store → B → Type 0} (o : Outcome Store B) → ((σ : Store) (b : B) → o ≡ given σ b → Q σ b) → Gives Q o
if_given (refused number) h = refusal
if_given (given σ b) h = gives (h σ b refl)

module _ {Store A B : Type 0} {Q : Store → B → Type 0} where
  pub step : {o : Outcome Store A} {k : A → Step Store B} → ((σ : Store) (a : A) → o ≡ given σ a → Gives Q (k a σ)) → Gives Q (after o k)
  step {o} {k} h = go o refl
    where
      go : (r : Outcome Store A) → o ≡ r → Gives Q (after r k)
      go (refused number) e = refusal
      go (given σ a) e = h σ a e

  -- the same past a step of which something is shown already
  pub call : {P : Store → A → Type 0} {o : Outcome Store A} {k : A → Step Store B} → Gives P o → ((σ : Store) (a : A) → P σ a → Gives Q (k a σ)) → Gives Q (after o k)
  call refusal h = refusal
  call (gives {σ} {a} p) h = h σ a p

pub branch : {Store B : Type 0} {Q : Store → B → Type 0} (b : Bool) (m k : Step Store B) (σ : Store) →
    (b ≡ true → Gives Q (m σ)) → (b ≡ false → Gives Q (k σ)) → Gives Q ((if b then m else k) σ)
branch {Q} b m k σ t f = go b refl
  where
    go : (c : Bool) → b ≡ c → Gives Q ((if c then m else k) σ)
    go true e = t e
    go false e = f e

-- ---- two outcomes that are equal

pub given_same : {Store B : Type 0} {σ σ' : Store} {b b' : B} → ◌≡◌ {A = Outcome Store B} (given σ b) (given σ' b') → b ≡ b'
given_same e = cc

pub refused≢given : {Store B : Type 0} {number : ℕ} {σ : Store} {b : B} → ¬ (◌≡◌ {A = Outcome Store B} (refused number) (given σ b))
refused≢given e = let z : ◌≡◌ {A = ℕ} 0 1 = cc in omega arith
