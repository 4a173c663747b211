-- 01, "Lent tables": words 1 and 2 of a state are its operands, or the start and the number of its members; word 4 is 0 while its epsilon is not worked out, word 6 while its list is not stored.
-- What the readers of operands say in the words of the steps, and what is asked.
use Rattle.std.specs.Prelude.{◌≡◌, Bool, true, false, List, ℕ, ◌+◌, ◌*◌, ◌≤◌, ◌<◌, length, Option, Some, None}
use Rattle.aut_steps.specs.Tables.{UNION, INTERSECT, kind_of, op1, op2, nest, words}
use Rattle.aut_steps.specs.Ascending.{All}
use Rattle.aut_delta_steps.specs.Delta.{count_of}
use Rattle.aut_delta_steps.specs.EpsilonReads.{operands_with}
use Rattle.aut_delta_steps.specs.EpsilonDown.{Known, Open, First}
use Rattle.aut_delta_steps.specs.DeltaReads.{list_operands_with}
use Rattle.aut_operands.specs.declared.Part.{Part}
use Rattle.aut_operands.specs.declared.Part.TheVariants as part

-- ---- operands

-- those whose epsilon is read, and those whose list is
abbrev pub operands_by : Part → ℕ → List ℕ → ℕ → ℕ → List ℕ
operands_by part.Epsilon k ys a b = operands_with k ys a b
operands_by part.Delta k ys a b = list_operands_with k ys a b

abbrev pub operands_of : Part → List ℕ → List ℕ → ℕ → List ℕ
operands_of p st mem x = operands_by p (kind_of st x) (words mem (op1 st x) (op2 st x)) (op1 st x) (op2 st x)

-- a list's members are in the table
pub record Inside (st mem : List ℕ) (x : ℕ) : Type 0 where
  pub state : 12 * x + 11 < length st
  pub list : UNION ≤ kind_of st x → kind_of st x ≤ INTERSECT → op1 st x + op2 st x ≤ length mem

-- ---- what is worked out

abbrev pub Worked : Part → List ℕ → ℕ → Type 0
Worked part.Epsilon st x = Known st x
Worked part.Delta st x = 0 < count_of st x

abbrev pub NotYet : Part → List ℕ → ℕ → Type 0
NotYet part.Epsilon st x = Open st x
NotYet part.Delta st x = count_of st x ≡ 0

abbrev pub Told : Part → List ℕ → ℕ → Bool → Type 0
Told p st x true = NotYet p st x
Told p st x false = Worked p st x

-- ---- the way down

-- x and its operands are states that can be looked at
pub record Looks (p : Part) (st mem : List ℕ) (x : ℕ) : Type 0 where
  pub inside : Inside st mem x
  pub operands : All (λ y. 12 * y + 11 < length st) (operands_of p st mem x)

-- x's first operand that is not worked out; none: all are
abbrev pub Next : Part → List ℕ → List ℕ → ℕ → Option ℕ → Type 0
Next p st mem x (Some r) = First (Worked p st) (NotYet p st) r (operands_of p st mem x)
Next p st mem x None = All (Worked p st) (operands_of p st mem x)

-- so many states, whose operands are states that are nested lower
pub record Nested (st mem : List ℕ) (count : ℕ) : Type 0 where
  pub inside : (x : ℕ) → x < count → Inside st mem x
  pub lower : (x : ℕ) → x < count → All (λ y. (y < count) × (nest st y < nest st x)) (operands_of part.Epsilon st mem x)

-- x is one of them, and its epsilon is not worked out
pub record Descends (st mem : List ℕ) (x : ℕ) : Type 0 where
  pub count : ℕ
  pub nested : Nested st mem count
  pub has : x < count
  pub not_yet : Open st x
