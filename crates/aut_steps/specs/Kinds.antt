-- AExpr's kinds, by number: what their operands are, and the rule that a state of the kind stands for.
use Rattle.std.specs.Prelude.{List, [], ◌∷◌, ℕ, eqb, if◌then◌else◌}
use Rattle.netkat.specs.Rules.{Rule, Rules, union, intersection, xor, difference, complement, sequence, star, dup, next, until, top}
use Rattle.aut_steps.specs.Tables.{SPP, UNION, INTERSECT, XOR, DIFFERENCE, COMPLEMENT, SEQUENCE, STAR, DUP, NEXT, UNTIL, TOP, op1, op2, list_of}

pub data Form (N : ℕ) : Type 0 where
  leaf : Form N
  constant : Rule N → Form N
  one : (Rule N → Rule N) → Form N
  two : (Rule N → Rule N → Rule N) → Form N
  many : (Rules N → Rule N) → Form N
  nothing : Form N

module _ {N : ℕ} where
  unfoldable pub form : ℕ → Form N
  form k =
      if eqb k SPP then leaf else
      if eqb k UNION then many union else
      if eqb k INTERSECT then many intersection else
      if eqb k XOR then two xor else
      if eqb k DIFFERENCE then two difference else
      if eqb k COMPLEMENT then one complement else
      if eqb k SEQUENCE then two sequence else
      if eqb k STAR then one star else
      if eqb k DUP then constant dup else
      if eqb k NEXT then one next else
      if eqb k UNTIL then two until else
      if eqb k TOP then constant top else
      nothing

  -- what tells two states of a kind apart
  abbrev pub operands_by : Form N → List ℕ → List ℕ → ℕ → List ℕ
  operands_by leaf st m x = op1 st x ∷ op2 st x ∷ []
  operands_by (constant r) st m x = op1 st x ∷ op2 st x ∷ []
  operands_by (one c) st m x = op1 st x ∷ op2 st x ∷ []
  operands_by (two c) st m x = op1 st x ∷ op2 st x ∷ []
  operands_by (many c) st m x = list_of st m x
  operands_by nothing st m x = []
