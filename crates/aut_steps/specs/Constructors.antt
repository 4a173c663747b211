-- The smart constructors of aut.rs as steps in the Rust's order, under the Rust's names. 01, "Who can cause a refusal": a given list
-- that passes the limit meets 6 before any member is opened; then 6 is met where an opened list passes it; 7 where products do; a new state meets 8, 23, 22.
use Rattle.std.specs.Prelude.{Bool, true, false, ◌&&◌, List, [], ◌∷◌, ◌++◌, ℕ, zero, suc, ◌+◌, ◌*◌, ◌/◌, ◌%◌, eqb, ltb, leb, length, get_or, if◌then◌else◌}
use Rattle.common.specs.Outcome.{refused, given, Step, return, ◌>>=◌}
use Rattle.common.specs.Runs.{Table}
use Rattle.aut_steps.specs.Relations as Rel
use Rattle.aut_steps.specs.Tables.{SPP, UNION, INTERSECT, XOR, DIFFERENCE, COMPLEMENT, SEQUENCE, STAR, DUP, NEXT, UNTIL, TOP, kind_of, op1, op2, nest, list_of, Limits, Exprs, Aut, on_nodes, on_states, on_exprs, on_states_of}
use Rattle.aut_steps.specs.Intern.{intern0, intern1, intern2, intern_l}
use Rattle.aut_steps.specs.Lists.{sorted}

-- what may pass a limit
pub data Within (A : Type 0) : Type 0 where
  within : A → Within A
  beyond : Within A

abbrev pub then_within : {A B : Type 0} → Within A → (A → Within B) → Within B
then_within (within a) k = k a
then_within beyond k = beyond

-- ---- opening a list

-- what a member is opened to: the members of a state of kind k, any other state itself
unfoldable pub opened : ℕ → List ℕ → List ℕ → ℕ → List ℕ
opened k st m x = if eqb (kind_of st x) k then list_of st m x else x ∷ []

-- a list with more behind it, as long as the limit allows
unfoldable pub extend : ℕ → List ℕ → List ℕ → Within (List ℕ)
extend most acc ys = if leb (length acc + length ys) most then within (acc ++ ys) else beyond

-- Intersect members are opened
unfoldable pub open_all : ℕ → List ℕ → List ℕ → List ℕ → List ℕ → Within (List ℕ)
open_all most st m [] acc = within acc
open_all most st m (x ∷ xs) acc = then_within (extend most acc (opened INTERSECT st m x)) (open_all most st m xs)

-- Union members are opened; Top ends it
pub data Opened : Type 0 where
  list : List ℕ → Opened
  top : Opened
  long : Opened

abbrev pub then_open : Within (List ℕ) → (List ℕ → Opened) → Opened
then_open (within xs) k = k xs
then_open beyond k = long

unfoldable pub open_union : ℕ → List ℕ → List ℕ → List ℕ → List ℕ → Opened
open_union most st m [] acc = list acc
open_union most st m (x ∷ xs) acc = if eqb (kind_of st x) TOP then top else then_open (extend most acc (opened UNION st m x)) (open_union most st m xs)

-- a step for each element of a list
unfoldable pub each : {S A : Type 0} → (ℕ → A → Step S A) → List ℕ → A → Step S A
each one [] a = return a
each one (x ∷ xs) a = one x a >>= each one xs

-- ---- products of a list with Union members

-- the products are counted: the Union members' sizes multiplied
unfoldable pub count_one : ℕ → List ℕ → ℕ → ℕ → Within ℕ
count_one most st x n =
    if eqb (kind_of st x) UNION
    then (if leb (n * op2 st x) most then within (n * op2 st x) else beyond)
    else within n

unfoldable pub count_all : ℕ → List ℕ → List ℕ → ℕ → Within ℕ
count_all most st [] n = within n
count_all most st (x ∷ xs) n = then_within (count_one most st x n) (count_all most st xs)

-- how many products there are
abbrev pub size : List ℕ → ℕ → ℕ
size st x = if eqb (kind_of st x) UNION then op2 st x else 1

abbrev pub sizes : List ℕ → List ℕ → ℕ
sizes st [] = 1
sizes st (x ∷ xs) = size st x * sizes st xs

-- product i of a list: a member of each Union, the first Union's members vary fastest
unfoldable pub product : List ℕ → List ℕ → List ℕ → ℕ → List ℕ
product st m [] i = []
product st m (x ∷ xs) i =
    if eqb (kind_of st x) UNION
    then get_or m (op1 st x + i % op2 st x) 0 ∷ product st m xs (i / op2 st x)
    else x ∷ product st m xs i

-- ---- states that need no look at their operands

unfoldable pub mk_spp : ℕ → Step Table ℕ
mk_spp h = intern0 SPP h

unfoldable pub mk_dup : Step Table ℕ
mk_dup = intern0 DUP 0

unfoldable pub mk_top : Step Table ℕ
mk_top = intern0 TOP 0

-- 02 (iv): kind 10 is never simplified
unfoldable pub mk_next : Limits → ℕ → Step Table ℕ
mk_next L x = intern1 L NEXT x

unfoldable pub mk_until : Limits → ℕ → ℕ → Step Table ℕ
mk_until L x y = intern2 L UNTIL x y

-- the state of a relation that a step makes
abbrev pub spp_of : Step Table ℕ → Step Aut ℕ
spp_of c = on_nodes c >>= (λ h. on_states (mk_spp h))

-- both are SPP
abbrev pub relations : List ℕ → ℕ → ℕ → Bool
relations st x y = eqb (kind_of st x) SPP && eqb (kind_of st y) SPP

-- state x is the relation h
abbrev pub is_relation : List ℕ → ℕ → ℕ → Bool
is_relation st x h = eqb (kind_of st x) SPP && eqb (op1 st x) h

-- the union of the relations in a list, and its other members
pub record Parts : Type 0 where
  pub relation : ℕ
  pub others : List ℕ

abbrev pub parts : ℕ → List ℕ → Parts
parts h xs = record { relation = h; others = xs }

-- the intersection of the relations in a list, if there are any, and its other members; Top goes
pub record Met : Type 0 where
  pub some : Bool
  pub relation : ℕ
  pub others : List ℕ

abbrev pub met : Bool → ℕ → List ℕ → Met
met b h xs = record { some = b; relation = h; others = xs }

-- the relation goes last, as a state
unfoldable pub add_last : Met → List ℕ → Step Table (List ℕ)
add_last p xs = if p.some then (mk_spp p.relation >>= (λ i. return (xs ++ i ∷ []))) else return xs

-- ---- the constructors, for N fields

module _ (N : ℕ) where
  unfoldable pub unite_one : List ℕ → ℕ → Parts → Step Table Parts
  unite_one st x p =
      if eqb (kind_of st x) SPP
      then Rel.union N p.relation (op1 st x) >>= (λ h. return (parts h p.others))
      else return (parts p.relation (p.others ++ x ∷ []))

  -- the relation goes in as a state, unless it is zero
  unfoldable pub add_relation : Parts → Step Table (List ℕ)
  add_relation p = if eqb p.relation (Rel.zero_at N) then return p.others else (mk_spp p.relation >>= (λ i. return (p.others ++ i ∷ [])))

  unfoldable pub meet_one : List ℕ → ℕ → Met → Step Table Met
  meet_one st x p =
      if eqb (kind_of st x) TOP then return p
      else if eqb (kind_of st x) SPP then (Rel.intersect N p.relation (op1 st x) >>= (λ h. return (met true h p.others)))
      else return (met p.some p.relation (p.others ++ x ∷ []))

  module _ (L : Limits) where
    -- the state of a sorted list
    unfoldable pub finish : List ℕ → Step Exprs ℕ
    finish xs =
        if eqb (length xs) 1 then return (get_or xs 0 0)
        else if eqb (length xs) 0 then on_states_of (mk_spp (Rel.zero_at N))
        else intern_l L UNION xs

    unfoldable pub unite : List ℕ → Step Aut ℕ
    unite xs σ =
        (on_nodes (each (unite_one σ.states.words) xs (parts (Rel.zero_at N) [])) >>= λ p.
        on_states (add_relation p) >>= λ ys.
        on_exprs (finish (sorted ys))) σ

    abbrev pub unite_opened : Opened → Step Aut ℕ
    unite_opened top σ = on_states mk_top σ
    unite_opened long σ = refused 6
    unite_opened (list xs) σ = unite xs σ

    unfoldable pub mk_union_n : List ℕ → Step Aut ℕ
    mk_union_n xs σ =
        if ltb L.list (length xs) then refused 6
        else if eqb (length xs) 1 then given σ (get_or xs 0 0)
        else unite_opened (open_union L.list σ.states.words σ.members.words xs []) σ

    unfoldable pub mk_union : ℕ → ℕ → Step Aut ℕ
    mk_union x y σ =
        let st : List ℕ = σ.states.words in
        if eqb x y then given σ x
        else if relations st x y then spp_of (Rel.union N (op1 st x) (op1 st y)) σ
        else mk_union_n (x ∷ y ∷ []) σ

    -- ---- intersections

    unfoldable pub meet_finish : Met → List ℕ → Step Aut ℕ
    meet_finish p xs =
        if p.some && eqb p.relation (Rel.zero_at N) then on_states (mk_spp (Rel.zero_at N))
        else if eqb (length xs) 0 then on_states (if p.some then mk_spp p.relation else mk_top)
        else (on_states (add_last p xs) >>= λ ys. on_exprs (intern_l L INTERSECT ys))

    unfoldable pub meet : List ℕ → Step Aut ℕ
    meet xs σ =
        (on_nodes (each (meet_one σ.states.words) xs (met false (Rel.top_at N) [])) >>= λ p.
        meet_finish p (sorted p.others)) σ

    abbrev pub meet_opened : Within (List ℕ) → Step Aut ℕ
    meet_opened beyond σ = refused 6
    meet_opened (within xs) σ = meet xs σ

    unfoldable pub mk_intersect_n_base : List ℕ → Step Aut ℕ
    mk_intersect_n_base xs σ = meet_opened (open_all L.list σ.states.words σ.members.words xs []) σ

    -- the intersection of product i
    unfoldable pub base : List ℕ → ℕ → Step Aut ℕ
    base xs i σ = mk_intersect_n_base (product σ.states.words σ.members.words xs i) σ

    -- of k products from i on
    unfoldable pub bases : List ℕ → ℕ → ℕ → List ℕ → Step Aut (List ℕ)
    bases xs i zero acc = return acc
    bases xs i (suc k) acc = base xs i >>= (λ z. bases xs (i + 1) k (acc ++ z ∷ []))

    abbrev pub distribute : List ℕ → Within ℕ → Step Aut ℕ
    distribute xs beyond σ = refused 7
    distribute xs (within n) σ = (bases xs 0 n [] >>= mk_union_n) σ

    abbrev pub intersect_opened : Within (List ℕ) → Step Aut ℕ
    intersect_opened beyond σ = refused 6
    intersect_opened (within xs) σ = distribute xs (count_all L.products σ.states.words xs 1) σ

    unfoldable pub mk_intersect_n : List ℕ → Step Aut ℕ
    mk_intersect_n xs σ =
        if ltb L.list (length xs) then refused 6
        else if eqb (length xs) 1 then given σ (get_or xs 0 0)
        else intersect_opened (open_all L.list σ.states.words σ.members.words xs []) σ

    unfoldable pub mk_intersect : ℕ → ℕ → Step Aut ℕ
    mk_intersect x y σ =
        let st : List ℕ = σ.states.words in
        if eqb x y then given σ x
        else if relations st x y then spp_of (Rel.intersect N (op1 st x) (op1 st y)) σ
        else mk_intersect_n (x ∷ y ∷ []) σ

    -- ---- the others

    unfoldable pub mk_xor : ℕ → ℕ → Step Aut ℕ
    mk_xor x y σ =
        let st : List ℕ = σ.states.words in
        if eqb x y then on_states (mk_spp (Rel.zero_at N)) σ
        else if relations st x y then spp_of (Rel.xor N (op1 st x) (op1 st y)) σ
        else if ltb x y then on_states (intern2 L XOR x y) σ
        else on_states (intern2 L XOR y x) σ

    unfoldable pub mk_difference : ℕ → ℕ → Step Aut ℕ
    mk_difference x y σ =
        let st : List ℕ = σ.states.words in
        if eqb x y then on_states (mk_spp (Rel.zero_at N)) σ
        else if relations st x y then spp_of (Rel.difference N (op1 st x) (op1 st y)) σ
        else on_states (intern2 L DIFFERENCE x y) σ

    unfoldable pub mk_complement : ℕ → Step Table ℕ
    mk_complement x s =
        if eqb (kind_of s.words x) COMPLEMENT then given s (op1 s.words x)
        else if eqb (kind_of s.words x) TOP then mk_spp (Rel.zero_at N) s
        else intern1 L COMPLEMENT x s

    -- (a; b); c is regrouped, which calls it again on the parts of the first operand: `again` is how
    unfoldable pub sequence_with : (ℕ → ℕ → Step Aut ℕ) → ℕ → ℕ → Step Aut ℕ
    sequence_with again x y σ =
        let st : List ℕ = σ.states.words in
        if relations st x y then spp_of (Rel.sequence N (op1 st x) (op1 st y)) σ
        else if is_relation st x (Rel.one_at N) then given σ y
        else if is_relation st x (Rel.zero_at N) then on_states (mk_spp (Rel.zero_at N)) σ
        else if is_relation st y (Rel.one_at N) then given σ x
        else if is_relation st y (Rel.zero_at N) then on_states (mk_spp (Rel.zero_at N)) σ
        else if eqb (kind_of st x) SEQUENCE then (again (op2 st x) y >>= again (op1 st x)) σ
        else if eqb (kind_of st x) TOP && eqb (kind_of st y) TOP then on_states mk_top σ
        else on_states (intern2 L SEQUENCE x y) σ

    -- at most `depth` calls deep: the nesting of the first operand falls
    unfoldable pub sequence_by : ℕ → ℕ → ℕ → Step Aut ℕ
    sequence_by zero x y = sequence_with (λ a b. return a) x y
    sequence_by (suc depth) x y = sequence_with (sequence_by depth) x y

    unfoldable pub mk_sequence : ℕ → ℕ → Step Aut ℕ
    mk_sequence x y σ = sequence_by (nest σ.states.words x) x y σ

    unfoldable pub mk_star : ℕ → Step Aut ℕ
    mk_star x σ =
        let st : List ℕ = σ.states.words in
        if eqb (kind_of st x) STAR then given σ x
        else if eqb (kind_of st x) SPP then spp_of (Rel.star N (op1 st x)) σ
        else if eqb (kind_of st x) TOP then on_states mk_top σ
        else on_states (intern1 L STAR x) σ
