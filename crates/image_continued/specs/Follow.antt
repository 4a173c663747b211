-- 02 (ii): "A book continued after a read gets every answer that the uninterrupted run gave": the two runs side by side. Where the first is refused, nothing is said of the second. Where it gives something, the second gives
-- what Q relates to it, or it is refused with a number that E allows.
use Rattle.std.specs.Prelude.{ℕ}
use Rattle.common.specs.Outcome.{Outcome, refused, given}

pub data Follows {S T A B : Type 0} (E : ℕ → Type 0) (Q : S → T → A → B → Type 0) : Outcome S A → Outcome T B → Type 0 where
  stops : {number : ℕ} {o : Outcome T B} → Follows E Q (refused number) o
  lacks : {number : ℕ} {o : Outcome S A} → E number → Follows E Q o (refused number)
  comes : {σ : S} {τ : T} {a : A} {b : B} → Q σ τ a b → Follows E Q (given σ a) (given τ b)

-- no number is allowed
abbrev pub Never : ℕ → Type 0
Never number = ⊥
