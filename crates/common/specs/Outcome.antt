-- What a step over a store comes to: it may make new records in the store, so it hands the store on; or it is refused, with the number of 01.
use Rattle.std.specs.Prelude.{Bool, true, false, ℕ}

pub data Outcome (Store A : Type 0) : Type 0 where
  refused : ℕ → Outcome Store A
  given : Store → A → Outcome Store A

abbrev pub Step : Type 0 → Type 0 → Type 0
Step Store A = Store → Outcome Store A

module _ {Store A : Type 0} where
  -- nothing is done
  abbrev pub return : A → Step Store A
  return a σ = given σ a

  abbrev pub after : {B : Type 0} → Outcome Store A → (A → Step Store B) → Outcome Store B
  after (refused number) k = refused number
  after (given σ a) k = k a σ

  infixl 1 ◌>>=◌
  -- one step after another; a refusal ends both
  abbrev pub ◌>>=◌ : {B : Type 0} → Step Store A → (A → Step Store B) → Step Store B
  (m >>= k) σ = after (m σ) k

-- `Gives Q o`: unless the outcome o is a refusal, Q holds of the store and the value that it gives.
pub data Gives {Store A : Type 0} (Q : Store → A → Type 0) : Outcome Store A → Type 0 where
  refusal : {number : ℕ} → Gives Q (refused number)
  gives : {σ : Store} {a : A} → Q σ a → Gives Q (given σ a)
