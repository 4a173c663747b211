-- 01, "Lent tables": a finished list is stored, and words 5 and 6 of its state say where. So `delta` may enter a state (work out the epsilon of a Sequence's or a Star's first operand, and the star of it), have its
-- operands' lists worked out one after another, keep none of the answers, and read them from the tables when it puts them together: the step that does so, and that it is `delta`.
use Rattle.std.specs.Prelude.{List, [], ◌∷◌, map, ℕ, eqb, if◌then◌else◌}
use Rattle.common.specs.Outcome.{given, Step, return, ◌>>=◌}
use Rattle.netkat_steps.specs.ListSteps.{Edge, st_singleton, st_xor, st_difference, st_complement}
use Rattle.aut_steps.specs.Relations as Rel
use Rattle.aut_steps.specs.Tables.{SPP, UNION, INTERSECT, XOR, DIFFERENCE, COMPLEMENT, SEQUENCE, STAR, DUP, NEXT, UNTIL, Limits, Aut, on_nodes}
use Rattle.aut_steps.specs.Wf.{kind, first, second, members}
use Rattle.aut_st_steps.specs.Operations.{ops}
use Rattle.aut_delta_steps.specs.Epsilon.{epsilon}
use Rattle.aut_delta_steps.specs.Delta.{Store, on_aut, union_all, intersect_first, sequence_list, star_list, until_list, dup_list, top_list}

-- ---- the step

-- the operands whose lists are worked out, by kind
unfoldable pub list_operands_with : ℕ → List ℕ → ℕ → ℕ → List ℕ
list_operands_with k ys a b =
    if eqb k UNION then ys
    else if eqb k INTERSECT then ys
    else if eqb k XOR then a ∷ b ∷ []
    else if eqb k DIFFERENCE then a ∷ b ∷ []
    else if eqb k COMPLEMENT then a ∷ []
    else if eqb k SEQUENCE then a ∷ b ∷ []
    else if eqb k STAR then a ∷ []
    else if eqb k UNTIL then a ∷ b ∷ []
    else []

abbrev pub list_operands : Store → ℕ → List ℕ
list_operands σ x = list_operands_with (kind σ.aut x) (members σ.aut x) (first σ.aut x) (second σ.aut x)

-- an answer that is not kept
abbrev pub quit : ℕ → Step Aut Unit
quit e σ = given σ tt

module _ (N : ℕ) where
  -- what is worked out before them
  unfoldable pub enter_with : ℕ → ℕ → Step Aut Unit
  enter_with k a =
      if eqb k SEQUENCE then (epsilon N a >>= quit)
      else if eqb k STAR then (epsilon N a >>= λ e. on_nodes (Rel.star N e) >>= quit)
      else return tt

  abbrev pub enter : ℕ → Step Store Unit
  enter x σ = on_aut (enter_with (kind σ.aut x) (first σ.aut x)) σ

module _ (N : ℕ) (L : Limits) where
  -- put together by kind: v has the operands' lists, e is the first operand's epsilon
  unfoldable pub together_with : (ℕ → List Edge) → ℕ → ℕ → ℕ → List ℕ → ℕ → ℕ → Step Aut (List Edge)
  together_with v e k x ys a b =
      if eqb k SPP then return []
      else if eqb k UNION then union_all N L (map v ys) []
      else if eqb k INTERSECT then intersect_first N L (map v ys)
      else if eqb k XOR then st_xor (ops N L) (v a) (v b)
      else if eqb k DIFFERENCE then st_difference (ops N L) (v a) (v b)
      else if eqb k COMPLEMENT then st_complement (ops N L) (v a)
      else if eqb k SEQUENCE then sequence_list N L b e (v a) (v b)
      else if eqb k STAR then (on_nodes (Rel.star N e) >>= λ h. star_list N L x h (v a))
      else if eqb k DUP then dup_list N L
      else if eqb k NEXT then st_singleton (ops N L) (Rel.top_at N) a
      else if eqb k UNTIL then until_list N L a b (v a) (v b)
      else top_list N L
