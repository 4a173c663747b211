-- 01, "Lent tables": state word 4 is epsilon + 1. So `epsilon` may work its operands out one after another, keep none of the answers, and read them from the tables when it
-- puts them together: the step that does so, and that it is `epsilon`.
use Rattle.std.specs.Prelude.{List, [], ◌∷◌, ℕ, eqb, if◌then◌else◌}
use Rattle.common.specs.Outcome.{given, Step, return, ◌>>=◌}
use Rattle.common.specs.Runs.{Table}
use Rattle.aut_steps.specs.Relations as Rel
use Rattle.aut_steps.specs.Tables.{UNION, INTERSECT, XOR, DIFFERENCE, COMPLEMENT, SEQUENCE, STAR, UNTIL, TOP, kind_of, op1, op2, list_of}
use Rattle.aut_steps.specs.Constructors.{each}
use Rattle.aut_st_steps.specs.Operations as Ops
use Rattle.aut_delta_steps.specs.Epsilon.{value_of}

-- ---- the step

-- the operands that are worked out, by kind
unfoldable pub operands_with : ℕ → List ℕ → ℕ → ℕ → List ℕ
operands_with k ys a b =
    if eqb k UNION then ys
    else if eqb k INTERSECT then ys
    else if eqb k XOR then a ∷ b ∷ []
    else if eqb k DIFFERENCE then a ∷ b ∷ []
    else if eqb k COMPLEMENT then a ∷ []
    else if eqb k SEQUENCE then a ∷ b ∷ []
    else if eqb k STAR then a ∷ []
    else if eqb k UNTIL then b ∷ []
    else []

abbrev pub operands_of : List ℕ → List ℕ → ℕ → List ℕ
operands_of st mem x = operands_with (kind_of st x) (list_of st mem x) (op1 st x) (op2 st x)

-- a step for each, whose answers are not kept
unfoldable pub work_all : {S A : Type 0} → (ℕ → Step S A) → List ℕ → Step S Unit
work_all f [] = return tt
work_all f (y ∷ ys) = f y >>= λ a. work_all f ys

module _ (N : ℕ) where
  -- relations of members united, and intersected from the first; v has their values
  abbrev pub unite_values : (ℕ → ℕ) → List ℕ → Step Table ℕ
  unite_values v ys = each (λ y h. Rel.union N h (v y)) ys (Rel.zero_at N)

  abbrev pub meet_values : (ℕ → ℕ) → List ℕ → Step Table ℕ
  meet_values v [] = return (Rel.one_at N)
  meet_values v (y ∷ ys) = each (λ z h. Rel.intersect N h (v z)) ys (v y)

  -- put together by kind
  unfoldable pub combine_by : (ℕ → ℕ) → ℕ → List ℕ → ℕ → ℕ → Step Table ℕ
  combine_by v k ys a b t =
      if eqb k UNION then unite_values v ys t
      else if eqb k INTERSECT then meet_values v ys t
      else if eqb k XOR then Rel.xor N (v a) (v b) t
      else if eqb k DIFFERENCE then Rel.difference N (v a) (v b) t
      else if eqb k COMPLEMENT then Ops.complement N (v a) t
      else if eqb k SEQUENCE then Rel.sequence N (v a) (v b) t
      else if eqb k STAR then Rel.star N (v a) t
      else if eqb k UNTIL then given t (v b)
      else if eqb k TOP then given t (Rel.top_at N)
      else given t (Rel.zero_at N)

  abbrev pub combine_on : List ℕ → List ℕ → ℕ → Step Table ℕ
  combine_on st mem x = combine_by (value_of st) (kind_of st x) (list_of st mem x) (op1 st x) (op2 st x)
