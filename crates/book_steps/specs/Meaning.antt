-- 01, "The book and its answers": what a book means, by its text alone: each constructor line a rule, by the rules of the lines that it names. And when
-- the states of its lines hold the strings of these rules.
use Rattle.std.specs.Prelude.{List, [], ◌∷◌, ℕ, ◌<◌}
use Rattle.std.proofs.Math.Option.{Option, none, some}
use Rattle.netkat.specs.Rules.{Rule, In}
use Rattle.aut_steps.specs.Tables.{Aut}
use Rattle.aut_steps.specs.Languages.{◌≈◌}
use Rattle.aut_steps.specs.Wf.{states}
use Rattle.aut_steps.specs.Meaning.{Holds}

-- ---- states and rules, line by line

-- the state x holds the strings of the rule r
pub record Same (N : ℕ) (σ : Aut) (x : ℕ) (r : Rule N) : Type 0 where
  pub state : x < states σ
  pub strings : Holds N σ x ≈ In r

pub data Matched (N : ℕ) (σ : Aut) : List (Option ℕ) → List (Option (Rule N)) → Type 0 where
  done : Matched N σ [] []
  asked : {lines : List (Option ℕ)} {R : List (Option (Rule N))} → Matched N σ lines R
      → Matched N σ (none ∷ lines) (none ∷ R)
  made : {x : ℕ} {r : Rule N} {lines : List (Option ℕ)} {R : List (Option (Rule N))} → Same N σ x r → Matched N σ lines R
      → Matched N σ (some x ∷ lines) (some r ∷ R)
