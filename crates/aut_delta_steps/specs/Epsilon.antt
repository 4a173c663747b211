-- 01, "Lent tables": state word 4 is epsilon + 1, 0 while not worked out; SPP keeps it at 0. aut.rs's `epsilon` as a step in the Rust's order: of a Union
-- or an Intersect all members are worked out first, then combined from zero, or from the first. It calls itself on operands, whose nesting is lower.
use Rattle.std.specs.Prelude.{List, [], ◌∷◌, ℕ, zero, suc, ◌+◌, ◌*◌, ◌-◌, eqb, ltb, get_or, set, if◌then◌else◌}
use Rattle.common.specs.Outcome.{given, Step, return, ◌>>=◌}
use Rattle.common.specs.Runs.{Table, table}
use Rattle.aut_steps.specs.Relations as Rel
use Rattle.aut_steps.specs.Tables.{SPP, UNION, INTERSECT, XOR, DIFFERENCE, COMPLEMENT, SEQUENCE, STAR, UNTIL, TOP, kind_of, op1, op2, nest, list_of, Aut, put_states, on_nodes}
use Rattle.aut_st_steps.specs.Operations.{complement}

-- word 4 of a state
unfoldable pub epsilon_of : List ℕ → ℕ → ℕ
epsilon_of st x = get_or st (12 * x + 4) 0

-- what is worked out: an SPP's handle, any other state's word 4 without its mark
unfoldable pub value_of : List ℕ → ℕ → ℕ
value_of st x = if eqb (kind_of st x) SPP then op1 st x else epsilon_of st x - 1

-- word w of state x is written
unfoldable pub set_word : ℕ → ℕ → ℕ → Table → Table
set_word x w v s = table (set s.words (12 * x + w) v) s.count

-- the epsilon of x is kept
unfoldable pub keep_epsilon : ℕ → ℕ → Step Aut ℕ
keep_epsilon x e σ = given (put_states (set_word x 4 (e + 1) σ.states) σ) e

-- the answers for each element of a list, in order
unfoldable pub each_of : {S A : Type 0} → (ℕ → Step S A) → List ℕ → Step S (List A)
each_of f [] = return []
each_of f (x ∷ xs) = do
  a ← f x
  as' ← each_of f xs
  return (a ∷ as')

module _ (N : ℕ) where
  -- relations united, from h on
  unfoldable pub unite_all : List ℕ → ℕ → Step Aut ℕ
  unite_all [] h = return h
  unite_all (e ∷ es) h = on_nodes (Rel.union N h e) >>= unite_all es

  -- relations intersected, from h on
  unfoldable pub meet_all : List ℕ → ℕ → Step Aut ℕ
  meet_all [] h = return h
  meet_all (e ∷ es) h = on_nodes (Rel.intersect N h e) >>= meet_all es

  -- from the first of them; the identity if there is none
  abbrev pub meet_first : List ℕ → Step Aut ℕ
  meet_first [] = return (Rel.one_at N)
  meet_first (e ∷ es) = meet_all es e

  -- worked out by kind; `again` is how on operands
  unfoldable pub epsilon_by_kind : (ℕ → Step Aut ℕ) → ℕ → Step Aut ℕ
  epsilon_by_kind again x σ =
      let st : List ℕ = σ.states.words in
      let k : ℕ = kind_of st x in
      if eqb k UNION then (each_of again (list_of st σ.members.words x) >>= λ es. unite_all es (Rel.zero_at N)) σ
      else if eqb k INTERSECT then (each_of again (list_of st σ.members.words x) >>= meet_first) σ
      else if eqb k XOR then (again (op1 st x) >>= λ a. again (op2 st x) >>= λ b. on_nodes (Rel.xor N a b)) σ
      else if eqb k DIFFERENCE then (again (op1 st x) >>= λ a. again (op2 st x) >>= λ b. on_nodes (Rel.difference N a b)) σ
      else if eqb k COMPLEMENT then (again (op1 st x) >>= λ a. on_nodes (complement N a)) σ
      else if eqb k SEQUENCE then (again (op1 st x) >>= λ a. again (op2 st x) >>= λ b. on_nodes (Rel.sequence N a b)) σ
      else if eqb k STAR then (again (op1 st x) >>= λ a. on_nodes (Rel.star N a)) σ
      else if eqb k UNTIL then again (op2 st x) σ
      else if eqb k TOP then given σ (Rel.top_at N)
      -- Dup and LtlNext
      else given σ (Rel.zero_at N)

  unfoldable pub epsilon_with : (ℕ → Step Aut ℕ) → ℕ → Step Aut ℕ
  epsilon_with again x σ =
      let st : List ℕ = σ.states.words in
      if eqb (kind_of st x) SPP then given σ (op1 st x)
      else if ltb 0 (epsilon_of st x) then given σ (epsilon_of st x - 1)
      else (epsilon_by_kind again x >>= keep_epsilon x) σ

  -- at most `depth` calls deep: the nesting falls
  unfoldable pub epsilon_by : ℕ → ℕ → Step Aut ℕ
  epsilon_by zero x = epsilon_with return x
  epsilon_by (suc depth) x = epsilon_with (epsilon_by depth) x

  unfoldable pub epsilon : ℕ → Step Aut ℕ
  epsilon x σ = epsilon_by (nest σ.states.words x) x σ
