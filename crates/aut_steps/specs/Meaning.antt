-- The rule that a state stands for, read off the tables from its operands, which are earlier states; and the strings that it holds. Both are the same in
-- all later tables.
use Rattle.std.specs.Prelude.{List, [], ◌∷◌, ℕ, zero, suc}
use Rattle.netkat.specs.Rules.{Rule, Rules, Language, In, relation, none, also, top}
use Rattle.aut_steps.specs.Relations.{pairs}
use Rattle.aut_steps.specs.Tables.{Aut}
use Rattle.aut_steps.specs.Kinds.{Form, leaf, constant, one, two, many, nothing, form}
use Rattle.aut_steps.specs.Wf.{kind, first, second, members}

module _ {N : ℕ} where
  unfoldable pub rules_of : (ℕ → Rule N) → List ℕ → Rules N
  rules_of r [] = none
  rules_of r (x ∷ xs) = also (r x) (rules_of r xs)

  -- the rule of a state of this form, with r for the rules of its operands
  abbrev pub shape : Form N → Aut → (ℕ → Rule N) → ℕ → Rule N
  shape leaf σ r x = relation (pairs N σ.nodes (first σ x))
  shape (constant c) σ r x = c
  shape (one c) σ r x = c (r (first σ x))
  shape (two c) σ r x = c (r (first σ x)) (r (second σ x))
  shape (many c) σ r x = c (rules_of r (members σ x))
  shape nothing σ r x = top

module _ (N : ℕ) where
  -- the rule of a state below f; operands are below the state
  unfoldable pub rule_below : Aut → ℕ → ℕ → Rule N
  rule_below σ zero x = top
  rule_below σ (suc f) x = shape (form (kind σ x)) σ (rule_below σ f) x

  -- the rule that a state stands for
  unfoldable pub rule : Aut → ℕ → Rule N
  rule σ x = rule_below σ (suc x) x

  -- the strings that a state holds; some member's strings, and every member's
  abbrev pub Holds : Aut → ℕ → Language N
  Holds σ x w = In (rule σ x) w
