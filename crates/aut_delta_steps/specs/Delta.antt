-- 01, "Lent tables": a transition is 2 words, target and label; state words 5 and 6 are transition start and count + 1, 0 while not worked out. A finished list
-- is stored after those already there (25 if the whole list has no room); an empty one has as its start the number of transitions then stored.
-- aut.rs's `delta` as a step in the Rust's order, but that of a union every member's list is worked out before the first join ("Forms that must change").
use Rattle.std.specs.Prelude.{Bool, ◌&&◌, List, [], ◌∷◌, ℕ, zero, suc, ◌+◌, ◌*◌, ◌-◌, ◌/◌, eqb, ltb, leb, length, get_or, if◌then◌else◌}
use Rattle.std.proofs.lemmas.List.Edits.{sets}
use Rattle.common.specs.Outcome.{refused, given, Step, return, ◌>>=◌}
use Rattle.common.specs.Runs.{Table, table, placed}
use Rattle.netkat_steps.specs.ListSteps.{Edge, st_singleton, st_union, st_intersect, st_difference, st_xor, st_complement, st_postcompose, st_precompose, st_intersect_expr}
use Rattle.aut_steps.specs.Relations as Rel
use Rattle.aut_steps.specs.Tables.{SPP, UNION, INTERSECT, XOR, DIFFERENCE, COMPLEMENT, SEQUENCE, STAR, DUP, NEXT, UNTIL, kind_of, op1, op2, nest, list_of, Limits, Aut, put_states, on_nodes, on_states}
use Rattle.aut_steps.specs.Constructors.{mk_spp, mk_top, mk_until}
use Rattle.aut_st_steps.specs.Operations.{ops}
use Rattle.aut_st_steps.specs.Edges.{edges, flat}
use Rattle.aut_delta_steps.specs.Epsilon.{set_word, each_of, epsilon}

-- words 5 and 6 of a state
unfoldable pub start_of : List ℕ → ℕ → ℕ
start_of st x = get_or st (12 * x + 5) 0

unfoldable pub count_of : List ℕ → ℕ → ℕ
count_of st x = get_or st (12 * x + 6) 0

-- ---- the store

pub record Store : Type 0 where
  pub aut : Aut
  pub transitions : Table

abbrev pub store : Aut → Table → Store
store a t = record { aut = a; transitions = t }

abbrev pub put_aut : Aut → Store → Store
put_aut a σ = store a σ.transitions

-- a step on the constructors' tables as one on all
abbrev pub on_aut : {A : Type 0} → Step Aut A → Step Store A
on_aut c σ = placed put_aut σ (c σ.aut)

-- ---- stored lists

abbrev pub transition_cap : ℕ
transition_cap = 16777216

-- room for k more transitions
unfoldable pub room_t : Table → ℕ → Bool
room_t t k = leb (t.count + k) (length t.words / 2) && leb (t.count + k) transition_cap

-- where the next list starts
abbrev pub next_start : Table → ℕ
next_start t = t.count

-- a list behind the transitions in use
unfoldable pub append : List Edge → Table → Table
append es t = table (sets t.words (2 * t.count) (flat es)) (t.count + length es)

-- the stored list of a state
unfoldable pub list_at : Store → ℕ → List Edge
list_at σ x = edges σ.transitions.words (start_of σ.aut.states.words x) (count_of σ.aut.states.words x - 1)

-- the finished list of x is stored
unfoldable pub keep_list : ℕ → List Edge → Step Store (List Edge)
keep_list x es σ =
    let t : Table = σ.transitions in
    let a : Aut = σ.aut in
    if room_t t (length es)
    then given (store (put_states (set_word x 6 (length es + 1) (set_word x 5 (next_start t) a.states)) a) (append es t)) es
    else refused 25

-- ---- delta, for N fields

module _ (N : ℕ) (L : Limits) where
  -- lists joined, from the list r on
  unfoldable pub union_all : List (List Edge) → List Edge → Step Aut (List Edge)
  union_all [] r = return r
  union_all (es ∷ ess) r = st_union (ops N L) r es >>= union_all ess

  -- lists intersected, from the list r on
  unfoldable pub intersect_all : List (List Edge) → List Edge → Step Aut (List Edge)
  intersect_all [] r = return r
  intersect_all (es ∷ ess) r = st_intersect (ops N L) r es >>= intersect_all ess

  -- from the first of them; the empty list if there is none
  abbrev pub intersect_first : List (List Edge) → Step Aut (List Edge)
  intersect_first [] = return []
  intersect_first (es ∷ ess) = intersect_all ess es

  -- of a Sequence: what starts with a hop of the first operand, and what starts behind its strings without hops
  unfoldable pub sequence_list : ℕ → ℕ → List Edge → List Edge → Step Aut (List Edge)
  sequence_list y ε ts us = do
    late ← st_postcompose (ops N L) ts y
    early ← st_precompose (ops N L) ε us
    st_union (ops N L) late early

  -- of the Star x
  unfoldable pub star_list : ℕ → ℕ → List Edge → Step Aut (List Edge)
  star_list x ε* ts = do
    late ← st_postcompose (ops N L) ts x
    st_precompose (ops N L) ε* late

  -- of the LtlUntil of a and b
  unfoldable pub until_list : ℕ → ℕ → List Edge → List Edge → Step Aut (List Edge)
  until_list a b ts us = do
    u ← on_states (mk_until L a b)
    met ← st_intersect_expr (ops N L) ts u
    st_union (ops N L) us met

  unfoldable pub dup_list : Step Aut (List Edge)
  dup_list = on_states (mk_spp (Rel.one_at N)) >>= st_singleton (ops N L) (Rel.one_at N)

  unfoldable pub top_list : Step Aut (List Edge)
  top_list = on_states mk_top >>= st_singleton (ops N L) (Rel.top_at N)

  -- worked out by kind; `again` is how on operands
  unfoldable pub delta_by_kind : (ℕ → Step Store (List Edge)) → ℕ → Step Store (List Edge)
  delta_by_kind again x σ =
      let st : List ℕ = σ.aut.states.words in
      let ms : List ℕ = list_of st σ.aut.members.words x in
      let a : ℕ = op1 st x in
      let b : ℕ = op2 st x in
      let k : ℕ = kind_of st x in
      if eqb k SPP then given σ []
      else if eqb k UNION then (each_of again ms >>= λ lists. on_aut (union_all lists [])) σ
      else if eqb k INTERSECT then (each_of again ms >>= λ lists. on_aut (intersect_first lists)) σ
      else if eqb k XOR then (again a >>= λ ts. again b >>= λ us. on_aut (st_xor (ops N L) ts us)) σ
      else if eqb k DIFFERENCE then (again a >>= λ ts. again b >>= λ us. on_aut (st_difference (ops N L) ts us)) σ
      else if eqb k COMPLEMENT then (again a >>= λ ts. on_aut (st_complement (ops N L) ts)) σ
      else if eqb k SEQUENCE then (on_aut (epsilon N a) >>= λ ε. again a >>= λ ts. again b >>= λ us. on_aut (sequence_list b ε ts us)) σ
      else if eqb k STAR then (on_aut (epsilon N a) >>= λ ε. on_aut (on_nodes (Rel.star N ε)) >>= λ ε*. again a >>= λ ts. on_aut (star_list x ε* ts)) σ
      else if eqb k DUP then on_aut dup_list σ
      else if eqb k NEXT then on_aut (st_singleton (ops N L) (Rel.top_at N) a) σ
      else if eqb k UNTIL then (again a >>= λ ts. again b >>= λ us. on_aut (until_list a b ts us)) σ
      -- Top
      else on_aut top_list σ

  unfoldable pub delta_with : (ℕ → Step Store (List Edge)) → ℕ → Step Store (List Edge)
  delta_with again x σ =
      if ltb 0 (count_of σ.aut.states.words x) then given σ (list_at σ x)
      else (delta_by_kind again x >>= keep_list x) σ

  -- at most `depth` calls deep: the nesting falls
  unfoldable pub delta_by : ℕ → ℕ → Step Store (List Edge)
  delta_by zero x = delta_with (λ y. return []) x
  delta_by (suc depth) x = delta_with (delta_by depth) x

  unfoldable pub delta : ℕ → Step Store (List Edge)
  delta x σ = delta_by (nest σ.aut.states.words x) x σ
