-- What holds of the definitions of specs/DeltaDown.
use Rattle.std.specs.Prelude.{if◌then◌else◌}
use mathlib.Core.Path.{◌≡◌, refl, sym, ◌∙◌, ap, ap₂, subst}
use mathlib.Core.Bool.{Bool, true, false}
use mathlib.Core.List.{List, [], ◌∷◌, map}
use Prim.Native.Nat.{ℕ, zero, suc, ◌+◌, ◌*◌, ◌≤◌, ◌<◌}
use native.Mathlib.Omega.{arith}
use lib.Dec.{eqb}
use lib.ListN.{length, get_or, take, drop}
use borrow.Author.Tests.{eqb-true, eqb-false}
use Rattle.common.specs.Outcome.{Outcome, refused, given, Step, after}
use Rattle.common.proofs.Follow.{refused≢given}
use Rattle.common.specs.Runs.{Table, placed}
use Rattle.netkat.specs.Rules.{sequence, star, next}
use Rattle.netkat_steps.specs.ListSteps.{Edge}
use Rattle.spp_steps.proofs.Laws.{by_test}
use Rattle.aut_steps.specs.Relations as Rel
use Rattle.aut_steps.specs.Tables.{SPP, UNION, INTERSECT, XOR, DIFFERENCE, COMPLEMENT, SEQUENCE, STAR, DUP, NEXT, UNTIL, Limits, Aut, put_nodes, on_nodes}
use Rattle.aut_steps.specs.Kinds.{form}
use Rattle.aut_steps.specs.Ascending.{All}
use Rattle.aut_steps.proofs.ListLaws.{all_map}
use Rattle.aut_steps.specs.Wf.{states, kind, first, second, nesting, members, WfAut}
use Rattle.aut_steps.proofs.Wf.{kind_grown, first_grown, second_grown, members_grown, state_grown, ok_as}
use Rattle.aut_steps.proofs.StepSpec.{StepSpec, stops, comes, goes_return, goes_bind}
use Rattle.aut_steps.proofs.StateLaws.{nodes_goes}
use Rattle.aut_st_steps.specs.Edges.{EdgesAt}
use Rattle.aut_st_steps.proofs.Edges.{edges_grown}
use Rattle.aut_st_steps.specs.ListSpec.{ListAt}
use Rattle.aut_st_steps.proofs.ListSpec.{list_empty, st_xor_goes, st_difference_goes, st_complement_goes}
use Rattle.aut_delta_steps.proofs.ListGoes.{list_at_lem, ListsAt, empties, with_list_lem, union_all_goes, intersect_first_goes, sequence_list_goes, star_list_goes, until_list_goes, dup_list_goes, next_list_goes, top_list_goes}
use Rattle.aut_delta_steps.proofs.Labels.{star_makes}
use Rattle.aut_delta_steps.specs.EpsilonSpec.{Ready}
use Rattle.aut_delta_steps.specs.Epsilon.{value_of, epsilon}
use Rattle.aut_delta_steps.specs.Delta.{count_of, Store, store, put_aut, room_t, append, list_at, keep_list, delta}
use Rattle.aut_delta_steps.proofs.Agree.{Agree, agree_came}
use Rattle.aut_delta_steps.specs.Noted.{Noted}
use Rattle.aut_delta_steps.proofs.Noted.{noted_refl, written, written_other}
use Rattle.aut_delta_steps.specs.Wf.{WfStore, Valued, handle, memo, Stored}
use Rattle.aut_delta_steps.proofs.Wf.{valued_reads}
use Rattle.aut_delta_steps.proofs.Operands.{Below, below_one, below_two}
use Rattle.aut_delta_steps.specs.EpsilonReads.{work_all}
use Rattle.aut_delta_steps.specs.EpsilonDown.{First, this, later, Known}
use Rattle.aut_delta_steps.proofs.EpsilonDown.{first_of, first_open, opens, opens_fewer, known_of, epsilon_known, known_means}
use Rattle.aut_delta_steps.specs.Extends.{ExtStore}
use Rattle.aut_delta_steps.proofs.Extends.{went_refl, went_trans, went_noted}
use Rattle.aut_delta_steps.proofs.DeltaRuns.{Halted, Deltaed}
use Rattle.aut_delta_steps.proofs.DeltaLaws.{delta_goes}
use Rattle.aut_delta_steps.specs.DeltaReads.{list_operands_with, list_operands, quit, enter_with, enter, together_with}
use Rattle.aut_delta_steps.proofs.DeltaReads.{together, finish_list, valued_went, entered, entered_went, entered_worked, entered_value, star_noted, star_went, star_worked, star_again, list_operands_below, delta_stored, delta_works}
use Rattle.aut_delta_steps.specs.DeltaDown.{Has, HasNot, ListWay, bottom, down, enters}

-- ---- to enter a state

-- x is entered: words 4 and relation nodes may be new, and to enter it again does nothing
pub record Entered (N : ℕ) (L : Limits) (σ : Store) (x : ℕ) (τ : Store) : Type 0 where
  pub noted : Noted σ.aut τ.aut
  pub transitions : τ.transitions ≡ σ.transitions
  pub worked : WfStore N L τ
  pub known : SEQUENCE ≤ kind σ.aut x → kind σ.aut x ≤ STAR → Known τ.aut.states.words (first σ.aut x)
  pub again : (υ : Store) → ExtStore τ υ → WfStore N L υ → enter N x υ ≡ given υ tt

valued_nodes : {α : Aut} (t : Table) {x e : ℕ} → Valued α x e → Valued (put_nodes t α) x e
valued_nodes t (handle k f) = handle k f
valued_nodes t (memo k f) = memo k f

given_first : {A : Type 0} {σ τ : Store} {a b : A} → ◌≡◌ {A = Outcome Store A} (given σ a) (given τ b) → σ ≡ τ
given_first e = cc

module _ {N : ℕ} {L : Limits} {σ : Store} (W : WfStore N L σ) {x : ℕ} (l : x < states σ.aut) where
  abbrev a : ℕ
  a = first σ.aut x

  enter_in_lem : {υ : Store} → ExtStore σ υ → (k : ℕ) → kind σ.aut x ≡ k → enter N x υ ≡ placed put_aut υ (enter_with N k a υ.aut)
  enter_in_lem {υ} w k e = ap₂ (λ (j a : ℕ). placed put_aut υ (enter_with N j a υ.aut)) (kind_grown w.grown x l ∙ e) (first_grown w.grown x l)

  epsilon_later : {τ υ : Store} {ε : ℕ} → a < states τ.aut → ExtStore τ υ → WfStore N L υ → Valued τ.aut a ε → epsilon N a υ.aut ≡ given υ.aut ε
  epsilon_later {υ = υ} m w B v =
      let u = valued_went w m v in
      epsilon_known (record { good = B.good; epsilons = B.epsilons }) (state_grown w.grown m) (known_of u) ∙ ap (given υ.aut) (valued_reads u)

  -- by what it gives
  enter_sequence : kind σ.aut x ≡ SEQUENCE → (o : Outcome Aut ℕ) → epsilon N a σ.aut ≡ o → {τ : Store} → placed put_aut σ (after o quit) ≡ given τ tt → Entered N L σ x τ
  unfolding enter_with form
  enter_sequence e (refused number) q p = absurd (refused≢given p)
  enter_sequence e (given α ε) q {τ} p =
      subst (Entered N L σ x) (given_first p) (record {
        noted = (entered W m q).found.noted;
        transitions = refl;
        worked = entered_worked W m q;
        known = λ u v. known_of (entered_value W m q);
        again = λ υ w B. enter_in_lem (went_trans (entered_went W m q) w) SEQUENCE e
            ∙ ap (λ (o : Outcome Aut ℕ). placed put_aut υ (after o quit)) (epsilon_later (state_grown (entered_went W m q).grown m) w B (entered_value W m q));
      })
    where
      m : a < states σ.aut
      m = (below_two W.good l SEQUENCE e sequence refl).0.state

  then_star : kind σ.aut x ≡ STAR → {α : Aut} {ε : ℕ} → epsilon N a σ.aut ≡ given α ε → (o : Outcome Table ℕ) → Rel.star N ε α.nodes ≡ o
      → {τ : Store} → placed put_aut σ (after (placed put_nodes α o) quit) ≡ given τ tt → Entered N L σ x τ
  unfolding enter_with form
  then_star e q (refused number) s p = absurd (refused≢given p)
  then_star e {α} {ε} q (given t h) s p =
      subst (Entered N L σ x) (given_first p) (record {
        noted = star_noted W m q s;
        transitions = refl;
        worked = star_worked W m q s;
        known = λ u v. known_of (valued_nodes t (entered_value W m q));
        again = λ υ w B. enter_in_lem (went_trans (star_went W m q s) w) STAR e
            ∙ ap (λ (o : Outcome Aut ℕ). placed put_aut υ (after o (λ e τ. after (on_nodes (Rel.star N e) τ) quit))) (epsilon_later (state_grown (star_went W m q s).grown m) w B (valued_nodes t (entered_value W m q)))
            ∙ ap (λ (o : Outcome Table ℕ). placed put_aut υ (after (placed put_nodes υ.aut o) quit)) (star_again W m q s υ.aut.nodes w.grown.nodes B.good.nodes);
      })
    where
      m : a < states σ.aut
      m = (below_one W.good l STAR e star refl).state

  enter_star : kind σ.aut x ≡ STAR → (o : Outcome Aut ℕ) → epsilon N a σ.aut ≡ o → {τ : Store} → placed put_aut σ (after o (λ e τ. after (on_nodes (Rel.star N e) τ) quit)) ≡ given τ tt → Entered N L σ x τ
  enter_star e (refused number) q p = absurd (refused≢given p)
  enter_star e (given α ε) q p = then_star e q (Rel.star N ε α.nodes) refl p

  pub enter_gives : {τ : Store} → enter N x σ ≡ given τ tt → Entered N L σ x τ
  unfolding enter_with
  enter_gives p =
      let k : ℕ = kind σ.aut x in
      by_test (eqb k SEQUENCE)
      (λ t. let e : k ≡ SEQUENCE = eqb-true k SEQUENCE t in enter_sequence e (epsilon N a σ.aut) refl (sym (enter_in_lem (went_refl σ) SEQUENCE e) ∙ p))
      (λ n1. by_test (eqb k STAR)
      (λ t. let e : k ≡ STAR = eqb-true k STAR t in enter_star e (epsilon N a σ.aut) refl (sym (enter_in_lem (went_refl σ) STAR e) ∙ p))
      (λ n2. subst (Entered N L σ x) (given_first (sym (nothing n1 n2 (went_refl σ)) ∙ p)) (record { noted = noted_refl σ.aut; transitions = refl; worked = W; known = λ u v. absurd (omega (arith, eqb-false k SEQUENCE n1, eqb-false k STAR n2)); again = λ υ w B. nothing n1 n2 w })))
    where
      nothing : eqb (kind σ.aut x) SEQUENCE ≡ false → eqb (kind σ.aut x) STAR ≡ false → {υ : Store} → ExtStore σ υ → enter N x υ ≡ given υ tt
      nothing n1 n2 {υ} w = enter_in_lem w (kind σ.aut x) refl ∙ none
        where
          none : placed put_aut υ (enter_with N (kind σ.aut x) a υ.aut) ≡ given υ tt
          none = simp (n1, n2)

-- ---- tables with the same lists

pub same_list_operands : {N : ℕ} {L : Limits} {σ τ : Store} → WfStore N L σ → ExtStore σ τ → {x : ℕ} → x < states σ.aut → list_operands τ x ≡ list_operands σ x
unfolding list_operands_with form
same_list_operands {σ = σ} {τ} W w {x} l =
    ap (λ (j : ℕ). list_operands_with j (members τ.aut x) (first τ.aut x) (second τ.aut x)) (kind_grown w.grown x l)
    ∙ ap₂ (λ (a b : ℕ). list_operands_with (kind σ.aut x) (members τ.aut x) a b) (first_grown w.grown x l) (second_grown w.grown x l)
    ∙ by_test (eqb (kind σ.aut x) UNION)
    (λ t. ap list (members_grown w.grown x l (ok_as W.good UNION l (eqb-true (kind σ.aut x) UNION t)).inside))
    (λ n1. by_test (eqb (kind σ.aut x) INTERSECT)
    (λ t. ap list (members_grown w.grown x l (ok_as W.good INTERSECT l (eqb-true (kind σ.aut x) INTERSECT t)).inside))
    (λ n2. other n1 n2))
  where
    list : List ℕ → List ℕ
    list ys = list_operands_with (kind σ.aut x) ys (first σ.aut x) (second σ.aut x)

    other : eqb (kind σ.aut x) UNION ≡ false → eqb (kind σ.aut x) INTERSECT ≡ false → list (members τ.aut x) ≡ list (members σ.aut x)
    other n1 n2 = simp (n1, n2)

first_map : {K O K' O' : ℕ → Type 0} {z : ℕ} {ys : List ℕ} → ((y : ℕ) → K y → K' y) → ((y : ℕ) → O y → O' y) → First K O z ys → First K' O' z ys
first_map {z = z} f g (this o) = this (g z o)
first_map f g (later {y} k r) = later (f y k) (first_map f g r)

module _ {N : ℕ} {L : Limits} {σ τ : Store} (W : WfStore N L σ) (w : ExtStore σ τ) (same : (i : ℕ) → count_of τ.aut.states.words i ≡ count_of σ.aut.states.words i) where
  has_same : (ys : List ℕ) → All (Has σ) ys → All (Has τ) ys
  has_same ys p = all_map ys (λ y h. omega (arith, same y)) p

  pub way_same : {y x : ℕ} {xs : List ℕ} → x < states σ.aut → ListWay σ y xs x → ListWay τ y xs x
  way_same {y} l (bottom n h) = bottom (same y ∙ n) (subst (All (Has τ)) (sym (same_list_operands W w l)) (has_same (list_operands σ y) h))
  way_same {x = x} l (down {z = z} n f v) =
      down (same x ∙ n) (subst (First (Has τ) (HasNot τ) z) (sym (same_list_operands W w l)) (first_map (λ y h. omega (arith, same y)) (λ y e. same y ∙ e) f))
      (way_same (first_of (Below σ.aut x) f (list_operands_below W l)).state v)

module _ {N : ℕ} {L : Limits} {σ : Store} {x : ℕ} {τ : Store} (E : Entered N L σ x τ) where
  pub enter_count : (i : ℕ) → count_of τ.aut.states.words i ≡ count_of σ.aut.states.words i
  unfolding count_of
  enter_count i = E.noted.words i 6 (omega arith) (λ q. omega arith)

  pub enter_went : ExtStore σ τ
  enter_went = subst (λ (t : Table). ExtStore σ (store τ.aut t)) (sym E.transitions) (went_noted E.noted)

-- ---- a list that is put together

goes_if : {N : ℕ} {L : Limits} {A : Type 0} {P : Aut → A → Type 0} {σ α : Aut} (b : Bool) (f g : Step Aut A) → (b ≡ true → StepSpec N L P σ (f α)) → (b ≡ false → StepSpec N L P σ (g α)) → StepSpec N L P σ ((if b then f else g) α)
goes_if true f g p q = p refl
goes_if false f g p q = q refl

module _ {N : ℕ} {L : Limits} {σ : Store} (W : WfStore N L σ) where
  list_of : {z : ℕ} → z < states σ.aut → Has σ z → ListAt N L σ.aut (list_at σ z)
  list_of {z} l h =
      let d : Deltaed N L z σ σ (list_at σ z) = agree_came (subst (λ o. Agree (Halted N L σ) (Deltaed N L z σ) o (delta N L z σ)) (delta_stored W l h) (delta_goes W l)) in
      record { edges = list_at_lem L d.listed.list; short = d.listed.short }

  lists_of : (x : ℕ) (zs : List ℕ) → All (Below σ.aut x) zs → All (Has σ) zs → ListsAt N L σ.aut (map (list_at σ) zs)
  lists_of x [] b h = empties
  lists_of x (z ∷ zs) b h = with_list_lem (list_of b.0.state h.0) (lists_of x zs b.1 h.1)

  module _ {x : ℕ} (l : x < states σ.aut) (has : All (Has σ) (list_operands σ x)) (known : SEQUENCE ≤ kind σ.aut x → kind σ.aut x ≤ STAR → Known σ.aut.states.words (first σ.aut x)) where
    in_list : (k : ℕ) → kind σ.aut x ≡ k → {zs : List ℕ} → list_operands_with k (members σ.aut x) (first σ.aut x) (second σ.aut x) ≡ zs → All (Below σ.aut x) zs × All (Has σ) zs
    in_list k e {zs} p =
        let q : list_operands σ x ≡ zs = ap (λ (j : ℕ). list_operands_with j (members σ.aut x) (first σ.aut x) (second σ.aut x)) e ∙ p in
        (subst (All (Below σ.aut x)) q (list_operands_below W l), subst (All (Has σ)) q has)

    one_at : {a : ℕ} → All (Below σ.aut x) (a ∷ []) × All (Has σ) (a ∷ []) → EdgesAt N σ.aut (list_at σ a)
    one_at p = (list_of p.0.0.state p.1.0).edges

    two_at : {a b : ℕ} → All (Below σ.aut x) (a ∷ b ∷ []) × All (Has σ) (a ∷ b ∷ []) → EdgesAt N σ.aut (list_at σ a) × EdgesAt N σ.aut (list_at σ b)
    two_at p = ((list_of p.0.0.state p.1.0).edges, (list_of p.0.1.0.state p.1.1.0).edges)

    together_goes : StepSpec N L (ListAt N L) σ.aut (together_with N L (list_at σ) (value_of σ.aut.states.words (first σ.aut x)) (kind σ.aut x) x (members σ.aut x) (first σ.aut x) (second σ.aut x) σ.aut)
    unfolding together_with list_operands_with form
    together_goes =
        let k : ℕ = kind σ.aut x in
        let g : WfAut N L σ.aut = W.good in
        goes_if (eqb k SPP) _ _ (λ q. goes_return [] g (list_empty σ.aut))
        (λ n1. goes_if (eqb k UNION) _ _ (λ q. let p = in_list UNION (eqb-true k UNION q) refl in union_all_goes _ g (lists_of x (members σ.aut x) p.0 p.1) (list_empty σ.aut))
        (λ n2. goes_if (eqb k INTERSECT) _ _ (λ q. let p = in_list INTERSECT (eqb-true k INTERSECT q) refl in intersect_first_goes _ g (lists_of x (members σ.aut x) p.0 p.1))
        (λ n3. goes_if (eqb k XOR) _ _ (λ q. let (t, u) = two_at (in_list XOR (eqb-true k XOR q) refl) in st_xor_goes g t u)
        (λ n4. goes_if (eqb k DIFFERENCE) _ _ (λ q. let (t, u) = two_at (in_list DIFFERENCE (eqb-true k DIFFERENCE q) refl) in st_difference_goes g t u)
        (λ n5. goes_if (eqb k COMPLEMENT) _ _ (λ q. st_complement_goes g (one_at (in_list COMPLEMENT (eqb-true k COMPLEMENT q) refl)))
        (λ n6. goes_if (eqb k SEQUENCE) _ _ (λ q.
        let e : k ≡ SEQUENCE = eqb-true k SEQUENCE q in
        let p = in_list SEQUENCE e refl in
        let (t, u) = two_at p in
        sequence_list_goes g p.0.1.0.state (record { at = (known_means (ready) p.0.0.state (known (omega arith) (omega arith))).den.at }) t u)
        (λ n7. goes_if (eqb k STAR) _ _ (λ q.
        let e : k ≡ STAR = eqb-true k STAR q in
        let p = in_list STAR e refl in
        goes_bind (nodes_goes g (star_makes g.nodes (known_means (ready) p.0.0.state (known (omega arith) (omega arith))).den))
        (λ τ h w v d. star_list_goes v (state_grown w l) (record { at = d.at }) (edges_grown w (one_at p))))
        (λ n8. goes_if (eqb k DUP) _ _ (λ q. dup_list_goes g W.lists.some)
        (λ n9. goes_if (eqb k NEXT) _ _ (λ q. next_list_goes g W.lists.some (below_one g l NEXT (eqb-true k NEXT q) next refl).state)
        (λ n10. goes_if (eqb k UNTIL) _ _ (λ q.
        let p = in_list UNTIL (eqb-true k UNTIL q) refl in
        let (t, u) = two_at p in
        until_list_goes g p.0.0.state p.0.1.0.state t u)
        (λ n11. top_list_goes g W.lists.some)))))))))))
      where
        ready : Ready N L σ.aut
        ready = record { good = W.good; epsilons = W.epsilons }

    -- no list is stored by that
    together_count : {τ : Store} {es : List Edge} → together N L x σ ≡ given τ es → (i : ℕ) → count_of τ.aut.states.words i ≡ count_of σ.aut.states.words i
    unfolding count_of
    together_count {τ} {es} q i = go together_goes q
      where
        go : {o : Outcome Aut (List Edge)} → StepSpec N L (ListAt N L) σ.aut o → placed put_aut σ o ≡ given τ es → get_or τ.aut.states.words (12 * i + 6) 0 ≡ get_or σ.aut.states.words (12 * i + 6) 0
        go (stops w g y) p = absurd (refused≢given p)
        go (comes r) p = ap (λ (υ : Store). get_or υ.aut.states.words (12 * i + 6) 0) (sym (given_first p)) ∙ r.memos i 6 (omega arith) (omega arith)

-- ---- the list at the end of the way is worked out

pub record Gave (N : ℕ) (L : Limits) (σ : Store) (y : ℕ) (τ : Store) (es : List Edge) : Type 0 where
  pub went : ExtStore σ τ
  pub worked : WfStore N L τ
  pub stored : Stored τ y es
  pub only : (i : ℕ) → (i ≡ y → ⊥) → count_of τ.aut.states.words i ≡ count_of σ.aut.states.words i

keep_only : (x : ℕ) (es : List Edge) (σ : Store) {τ : Store} {fs : List Edge} → keep_list x es σ ≡ given τ fs → (i : ℕ) → (i ≡ x → ⊥) → count_of τ.aut.states.words i ≡ count_of σ.aut.states.words i
unfolding keep_list count_of
keep_only x es σ {τ} {fs} q i n = go (room_t σ.transitions (length es)) q
  where
    α : Aut
    α = written σ.aut x 5 σ.transitions.count

    go : (b : Bool) → (if b then given (store (written α x 6 (length es + 1)) (append es σ.transitions)) es else refused 25) ≡ given τ fs → get_or τ.aut.states.words (12 * i + 6) 0 ≡ get_or σ.aut.states.words (12 * i + 6) 0
    go true p = ap (λ (υ : Store). get_or υ.aut.states.words (12 * i + 6) 0) (sym (given_first p))
        ∙ written_other α x 6 (length es + 1) (12 * i + 6) (λ j. n (omega arith)) ∙ written_other σ.aut x 5 σ.transitions.count (12 * i + 6) (λ j. omega arith)
    go false p = absurd (refused≢given p)

module _ {N : ℕ} {L : Limits} where
  work_has : {σ : Store} → WfStore N L σ → (ys : List ℕ) → All (λ y. y < states σ.aut) ys → All (Has σ) ys → work_all (delta N L) ys σ ≡ given σ tt
  unfolding work_all
  work_has W [] a h = refl
  work_has W (y ∷ ys) a h = ap (λ (o : Outcome Store (List Edge)). after o (λ es. work_all (delta N L) ys)) (delta_stored W a.0 h.0) ∙ work_has W ys a.1 h.1

  operands_states : {σ : Store} → WfStore N L σ → {x : ℕ} → x < states σ.aut → All (λ y. y < states σ.aut) (list_operands σ x)
  operands_states {σ} W {x} l = all_map (list_operands σ x) (λ y b. b.state) (list_operands_below W l)

  bottom_gave : {σ : Store} → WfStore N L σ → {y : ℕ} → y < states σ.aut → HasNot σ y → All (Has σ) (list_operands σ y) → {τ : Store} {es : List Edge} → delta N L y σ ≡ given τ es → Gave N L σ y τ es
  bottom_gave {σ} W {y} l n h {τ} {es} e =
      let d : Deltaed N L y σ τ es = agree_came (subst (λ o. Agree (Halted N L σ) (Deltaed N L y σ) o (delta N L y σ)) e (delta_goes W l)) in
      record { went = d.listed.went; worked = d.listed.worked; stored = d.stored; only = λ i k. go i k (enter N y σ) refl (sym (delta_works W l n) ∙ e) }
    where
      kept : (i : ℕ) → (i ≡ y → ⊥) → (υ : Store) (o : Outcome Store (List Edge)) → ((ω : Store) (fs : List Edge) → o ≡ given ω fs → (i : ℕ) → count_of ω.aut.states.words i ≡ count_of υ.aut.states.words i)
          → after o (keep_list y) ≡ given τ es → count_of τ.aut.states.words i ≡ count_of υ.aut.states.words i
      kept i k υ (refused number) c q = absurd (refused≢given q)
      kept i k υ (given ω fs) c q = keep_only y fs ω q i k ∙ c ω fs refl i

      go : (i : ℕ) → (i ≡ y → ⊥) → (o : Outcome Store Unit) → enter N y σ ≡ o → after o (λ u. finish_list N L (list_operands σ y) y) ≡ given τ es → count_of τ.aut.states.words i ≡ count_of σ.aut.states.words i
      go i k (refused number) p q = absurd (refused≢given q)
      go i k (given υ u) p q =
          let E : Entered N L σ y υ = enter_gives W l p in
          let w : ExtStore σ υ = enter_went E in
          let B : WfStore N L υ = E.worked in
          let m : y < states υ.aut = state_grown w.grown l in
          let s : list_operands υ y ≡ list_operands σ y = same_list_operands W w l in
          let hs : All (Has υ) (list_operands υ y) = subst (All (Has υ)) (sym s) (has_same W w (enter_count E) (list_operands σ y) h) in
          let f : work_all (delta N L) (list_operands σ y) υ ≡ given υ tt = ap (λ (ys : List ℕ). work_all (delta N L) ys υ) (sym s) ∙ work_has B (list_operands υ y) (operands_states B m) hs in
          kept i k υ (together N L y υ) (λ ω fs c. together_count B m hs (known_in E w) c)
          (sym (ap (λ (o : Outcome Store Unit). after o (λ u υ. after (together N L y υ) (keep_list y))) f) ∙ q)
          ∙ enter_count E i
        where
          known_in : Entered N L σ y υ → ExtStore σ υ → SEQUENCE ≤ kind υ.aut y → kind υ.aut y ≤ STAR → Known υ.aut.states.words (first υ.aut y)
          known_in E w c d =
              subst (Known υ.aut.states.words) (sym (first_grown w.grown y l)) (E.known (omega (arith, kind_grown w.grown y l)) (omega (arith, kind_grown w.grown y l)))

  -- .. after the states above it are entered
  way_gave : {y x : ℕ} (xs : List ℕ) {σ : Store} → WfStore N L σ → x < states σ.aut → ListWay σ y xs x → {τ : Store} {es : List Edge} → after (enters N xs σ) (λ u. delta N L y) ≡ given τ es → Gave N L σ y τ es
  unfolding work_all
  way_gave [] W l (bottom n h) e = bottom_gave W l n h e
  way_gave {y} (x ∷ xs) {σ} W l (down {z = z} n f v) {τ} {es} e = go (λ υ B m v q. way_gave xs B m v q) (enter N x σ) refl e
    where
      go : ((υ : Store) → WfStore N L υ → z < states υ.aut → ListWay υ y xs z → after (enters N xs υ) (λ u. delta N L y) ≡ given τ es → Gave N L υ y τ es)
          → (o : Outcome Store Unit) → enter N x σ ≡ o → after (after o (λ u. enters N xs)) (λ u. delta N L y) ≡ given τ es → Gave N L σ y τ es
      go ih (refused number) p q = absurd (refused≢given q)
      go ih (given υ u) p q =
          let E : Entered N L σ x υ = enter_gives W l p in
          let m = (first_of (Below σ.aut x) f (list_operands_below W l)).state in
          let r : Gave N L υ y τ es = ih υ E.worked (state_grown (enter_went E).grown m) (way_same W (enter_went E) (enter_count E) m v) q in
          record { went = went_trans (enter_went E) r.went; worked = r.worked; stored = r.stored; only = λ i k. r.only i k ∙ enter_count E i }

  -- the nesting falls
  pub list_way_state : {σ : Store} → WfStore N L σ → {y x : ℕ} {xs : List ℕ} → x < states σ.aut → ListWay σ y xs x → (y < states σ.aut) × (nesting σ.aut y ≤ nesting σ.aut x)
  list_way_state W l (bottom n h) = (l, omega arith)
  list_way_state {σ} W {x = x} l (down n f v) =
      let b = first_of (Below σ.aut x) f (list_operands_below W l) in
      let (m, k) = list_way_state W b.state v in
      (m, omega (arith, b.lower, k))

  -- ---- the operands of a state above go the same

  work_stuck : {σ : Store} → WfStore N L σ → {z number : ℕ} (ys : List ℕ) → All (λ y. y < states σ.aut) ys → First (Has σ) (HasNot σ) z ys → delta N L z σ ≡ refused number → work_all (delta N L) ys σ ≡ refused number
  unfolding work_all
  work_stuck W (z ∷ ys) l (this p) d = ap (λ (o : Outcome Store (List Edge)). after o (λ es. work_all (delta N L) ys)) d
  work_stuck W (y ∷ ys) l (later h f) d = ap (λ (o : Outcome Store (List Edge)). after o (λ es. work_all (delta N L) ys)) (delta_stored W l.0 h) ∙ work_stuck W ys l.1 f d
  work_stuck {σ = σ} W {z = z} {number = number} [] l x3 d = elim x3 [ ]

  work_same : {σ τ : Store} → WfStore N L σ → WfStore N L τ → ExtStore σ τ → {z : ℕ} (ys : List ℕ) → All (λ y. y < states σ.aut) ys → First (Has σ) (HasNot σ) z ys → delta N L z τ ≡ delta N L z σ
      → work_all (delta N L) ys τ ≡ work_all (delta N L) ys σ
  unfolding work_all
  work_same W B w (z ∷ ys) l (this p) d = ap (λ (o : Outcome Store (List Edge)). after o (λ es. work_all (delta N L) ys)) d
  work_same {σ} {τ} W B w (y ∷ ys) l (later h f) d =
      ap (λ (o : Outcome Store (List Edge)). after o (λ es. work_all (delta N L) ys)) (delta_stored B (state_grown w.grown l.0) (omega (arith, (w.lists y h).0)))
      ∙ work_same W B w ys l.1 f d
      ∙ ap (λ (o : Outcome Store (List Edge)). after o (λ es. work_all (delta N L) ys)) (sym (delta_stored W l.0 h))
  work_same {σ = σ} {τ = τ} W B w {z = z} [] l x3 d = elim x3 [ ]

  -- ---- the law: enter the states of the way, work out the list at its end, and then the state's own

  -- one level: x is entered, and the list at the end of the way from z, its first operand without one, is worked out
  module _ {σ : Store} (W : WfStore N L σ) {x y z : ℕ} (l : x < states σ.aut) (n : HasNot σ x) (f : First (Has σ) (HasNot σ) z (list_operands σ x)) {xs : List ℕ} (v : ListWay σ y xs z) {υ : Store} (p : enter N x σ ≡ given υ tt) where
    b : Below σ.aut x z
    b = first_of (Below σ.aut x) f (list_operands_below W l)

    apart : x ≡ y → ⊥
    apart q = omega (arith, b.lower, (list_way_state W b.state v).1, ap (nesting σ.aut) q)

    E : Entered N L σ x υ
    E = enter_gives W l p

    lˣ : x < states υ.aut
    lˣ = state_grown (enter_went E).grown l

    lᶻ : z < states υ.aut
    lᶻ = state_grown (enter_went E).grown b.state

    vᵘ : ListWay υ y xs z
    vᵘ = way_same W (enter_went E) (enter_count E) b.state v

    same : list_operands υ x ≡ list_operands σ x
    same = same_list_operands W (enter_went E) l

    fᵘ : First (Has υ) (HasNot υ) z (list_operands σ x)
    fᵘ = first_map (λ y h. omega (arith, enter_count E y)) (λ y e. enter_count E y ∙ e) f

    sᵘ : All (λ y. y < states υ.aut) (list_operands σ x)
    sᵘ = subst (All (λ y. y < states υ.aut)) same (operands_states E.worked lˣ)

    runs : delta N L x σ ≡ finish_list N L (list_operands σ x) x υ
    runs = delta_works W l n ∙ ap (λ (o : Outcome Store Unit). after o (λ u. finish_list N L (list_operands σ x) x)) p

    level : (o : Outcome Store (List Edge)) → after (enters N xs υ) (λ u. delta N L y) ≡ o → after o (λ es. delta N L z) ≡ delta N L z υ → after o (λ es. delta N L x) ≡ delta N L x σ
    level (refused number) e ih =
        sym (runs ∙ ap (λ (o : Outcome Store Unit). after o (λ u υ. after (together N L x υ) (keep_list x))) (work_stuck E.worked (list_operands σ x) sᵘ fᵘ (sym ih)))
    level (given τ es) e ih =
        let r : Gave N L υ y τ es = way_gave xs E.worked lᶻ vᵘ e in
        let m : x < states τ.aut = state_grown r.went.grown lˣ in
        delta_works r.worked m (r.only x apart ∙ enter_count E x ∙ n)
        ∙ ap (λ (o : Outcome Store Unit). after o (λ u. finish_list N L (list_operands τ x) x)) (E.again τ r.went r.worked)
        ∙ ap (λ (ys : List ℕ). finish_list N L ys x τ) (same_list_operands E.worked r.went lˣ ∙ same)
        ∙ ap (λ (o : Outcome Store Unit). after o (λ u υ. after (together N L x υ) (keep_list x))) (work_same E.worked r.worked r.went (list_operands σ x) sᵘ fᵘ ih)
        ∙ sym runs

  pub delta_down : {y x : ℕ} (xs : List ℕ) {σ : Store} → WfStore N L σ → x < states σ.aut → ListWay σ y xs x → after (after (enters N xs σ) (λ u. delta N L y)) (λ es. delta N L x) ≡ delta N L x σ
  unfolding work_all
  delta_down {y} [] {σ} W l (bottom n h) = go (delta N L y σ) refl
    where
      go : (o : Outcome Store (List Edge)) → delta N L y σ ≡ o → after o (λ es. delta N L y) ≡ delta N L y σ
      go (refused number) e = sym e
      go (given τ es) e =
          let r : Gave N L σ y τ es = bottom_gave W l n h e in
          delta_stored r.worked (state_grown r.went.grown l) r.stored.marked ∙ ap (given τ) r.stored.reads ∙ sym e
  delta_down {y} (x ∷ xs) {σ} W l (down {z = z} n f v) = go (λ υ B m v. delta_down xs B m v) (enter N x σ) refl
    where
      go : ((υ : Store) → WfStore N L υ → z < states υ.aut → ListWay υ y xs z → after (after (enters N xs υ) (λ u. delta N L y)) (λ es. delta N L z) ≡ delta N L z υ)
          → (o : Outcome Store Unit) → enter N x σ ≡ o → after (after (after o (λ u. enters N xs)) (λ u. delta N L y)) (λ es. delta N L x) ≡ delta N L x σ
      go ih (refused number) p = sym (delta_works W l n ∙ ap (λ (o : Outcome Store Unit). after o (λ u. finish_list N L (list_operands σ x) x)) p)
      go ih (given υ u) p =
          level W l n f v p (after (enters N xs υ) (λ u. delta N L y)) refl (ih υ (E W l n f v p).worked (lᶻ W l n f v p) (vᵘ W l n f v p))

-- ---- what is entered need not be entered again

first_one : {K O : ℕ → Type 0} {z z' : ℕ} {ys : List ℕ} → ((y : ℕ) → K y → O y → ⊥) → First K O z ys → First K O z' ys → z ≡ z'
first_one n (this o) (this p) = refl
first_one {z = z} n (this o) (later k f) = absurd (n z k o)
first_one {z' = z'} n (later k f) (this o) = absurd (n z' k o)
first_one n (later k f) (later h g) = first_one n f g

-- each state of the way is entered
module _ (N : ℕ) (L : Limits) where
  abbrev Again : Store → ℕ → Type 0
  Again υ x = (ω : Store) → ExtStore υ ω → WfStore N L ω → enter N x ω ≡ given ω tt

  record AllEntered (σ υ : Store) (xs : List ℕ) : Type 0 where
    went : ExtStore σ υ
    worked : WfStore N L υ
    again : All (Again υ) xs
    counts : (i : ℕ) → count_of υ.aut.states.words i ≡ count_of σ.aut.states.words i

module _ {N : ℕ} {L : Limits} where
  -- the way from x, and the one after the list at its end is stored: the states above are the same, as far as the first went
  module _ {σ τ : Store} (W : WfStore N L σ) {y : ℕ} {es : List Edge} (r : Gave N L σ y τ es) (P : ℕ → Type 0) where
    next_same : {x z z' : ℕ} → x < states σ.aut → (z ≡ y → ⊥) → First (Has σ) (HasNot σ) z (list_operands σ x) → First (Has τ) (HasNot τ) z' (list_operands τ x) → z ≡ z'
    next_same {z = z} l n f g =
        first_one (λ y h e. omega arith) (subst (First (Has τ) (HasNot τ) z) (sym (same_list_operands W r.went l)) (still f)) g
      where
        still : {ys : List ℕ} → First (Has σ) (HasNot σ) z ys → First (Has τ) (HasNot τ) z ys
        still (this e) = this (r.only z n ∙ e)
        still (later {y = i} h f) = later {y = i} (omega (arith, (r.went.lists i h).0)) (still f)

    way_prefix : {x y' : ℕ} {xs xs' : List ℕ} → x < states σ.aut → ListWay σ y xs x → ListWay τ y' xs' x → All P xs → All P (take (length xs) xs')
    way_prefix l (bottom n h) w p = tt
    way_prefix l (down n f v) (bottom n' h) p = tt
    way_prefix l (down n f (bottom n'' h)) (down n' f' v') p = (p.0, tt)
    way_prefix {x} {y'} l (down {z = z} n f (down {xs = xs} n'' f'' v)) (down {z = z'} {xs = xs'} n' f' v') p =
        let b = first_of (Below σ.aut x) f (list_operands_below W l) in
        let c = first_of (Below σ.aut z) f'' (list_operands_below W b.state) in
        let apart : z ≡ y → ⊥ = λ q. omega (arith, c.lower, (list_way_state W c.state v).1, ap (nesting σ.aut) q) in
        (p.0, way_prefix b.state (down n'' f'' v) (subst (ListWay τ y' xs') (sym (next_same l apart f f')) v') p.1)

  all_entered : {y x : ℕ} (xs : List ℕ) {σ : Store} → WfStore N L σ → x < states σ.aut → ListWay σ y xs x → {υ : Store} → enters N xs σ ≡ given υ tt → AllEntered N L σ υ xs
  unfolding work_all
  all_entered [] {σ} W l v {υ} e = subst (λ (υ : Store). AllEntered N L σ υ []) (given_first e) (record { went = went_refl σ; worked = W; again = tt; counts = λ i. refl })
  all_entered {y} (x ∷ xs) {σ} W l (down {z = z} n f v) {υ} e = go (λ τ B m w q. all_entered xs B m w q) (enter N x σ) refl e
    where
      go : ((τ : Store) → WfStore N L τ → z < states τ.aut → ListWay τ y xs z → enters N xs τ ≡ given υ tt → AllEntered N L τ υ xs) → (o : Outcome Store Unit) → enter N x σ ≡ o → after o (λ u. enters N xs) ≡ given υ tt → AllEntered N L σ υ (x ∷ xs)
      go ih (refused number) p q = absurd (refused≢given q)
      go ih (given τ u) p q =
          let E : Entered N L σ x τ = enter_gives W l p in
          let m = (first_of (Below σ.aut x) f (list_operands_below W l)).state in
          let r : AllEntered N L τ υ xs = ih τ E.worked (state_grown (enter_went E).grown m) (way_same W (enter_went E) (enter_count E) m v) q in
          record { went = went_trans (enter_went E) r.went; worked = r.worked; again = (λ ω w B. E.again ω (went_trans r.went w) B, r.again); counts = λ i. r.counts i ∙ enter_count E i }

-- the end of a way
pub list_way_end : {σ : Store} {y x : ℕ} {xs : List ℕ} → ListWay σ y xs x → HasNot σ y × All (Has σ) (list_operands σ y)
list_way_end (bottom n h) = (n, h)
list_way_end (down n f v) = list_way_end v

-- A way from a state whose operands all have lists ends there.
pub list_way_stays : {σ : Store} {y r : ℕ} {zs : List ℕ} → All (Has σ) (list_operands σ y) → ListWay σ r zs y → r ≡ y
list_way_stays h (bottom n k) = refl
list_way_stays {σ} h (down n f v) = absurd (omega (arith, first_open f, first_of (Has σ) f h))

-- Who is called on the end of a way, when the states above it are entered, calls no further.
pub delta_calls_last : {N : ℕ} {L : Limits} {σ : Store} → WfStore N L σ → {y x : ℕ} {xs : List ℕ} → x < states σ.aut → ListWay σ y xs x → {υ : Store} → enters N xs σ ≡ given υ tt
    → {r : ℕ} {zs : List ℕ} → ListWay υ r zs y → r ≡ y
delta_calls_last {N} {L} {σ} W {y} {xs = xs} l v {υ} e w =
    let a : AllEntered N L σ υ xs = all_entered xs W l v e in
    list_way_stays
    (subst (All (Has υ)) (sym (same_list_operands W a.went (list_way_state W l v).0)) (has_same W a.went a.counts (list_operands σ y) (list_way_end v).1))
    w

-- a way whose first i states are entered
skip_entered : (N i : ℕ) (xs : List ℕ) (σ : Store) → All (λ x. enter N x σ ≡ given σ tt) (take i xs) → enters N xs σ ≡ enters N (drop i xs) σ
unfolding work_all
skip_entered N zero xs σ p = refl
skip_entered N (suc i) [] σ p = refl
skip_entered N (suc i) (x ∷ xs) σ p = ap (λ (o : Outcome Store Unit). after o (λ u. enters N xs)) p.0 ∙ skip_entered N i xs σ p.1

-- In the next turn, as many states are entered already as the way had above its end: one number is enough.
pub enters_rest : {N : ℕ} {L : Limits} {σ : Store} → WfStore N L σ → {y x : ℕ} {xs : List ℕ} → x < states σ.aut → ListWay σ y xs x → {υ : Store} → enters N xs σ ≡ given υ tt → {τ : Store} {es : List Edge} → delta N L y υ ≡ given τ es
    → {y' : ℕ} {xs' : List ℕ} → ListWay τ y' xs' x → enters N xs' τ ≡ enters N (drop (length xs) xs') τ
enters_rest {N} {L} {σ} W {y} {xs = xs} l v {υ} e {τ} {es} d {xs' = xs'} v' =
    let a : AllEntered N L σ υ xs = all_entered xs W l v e in
    let r : Gave N L σ y τ es = way_gave xs W l v (ap (λ (o : Outcome Store Unit). after o (λ u. delta N L y)) e ∙ d) in
    let m : y < states υ.aut = state_grown a.went.grown (list_way_state W l v).0 in
    let b : Deltaed N L y υ τ es = agree_came (subst (λ o. Agree (Halted N L υ) (Deltaed N L y υ) o (delta N L y υ)) d (delta_goes a.worked m)) in
    skip_entered N (length xs) xs' τ (all_map (take (length xs) xs') (λ x g. g τ b.listed.went r.worked) (way_prefix W r (Again N L υ) l v v' a.again))

-- Each turn leaves fewer states without a list among those that were there when it began (a turn may make new states, behind them).
pub has_more : {N : ℕ} {L : Limits} {σ : Store} → WfStore N L σ → {y x : ℕ} {xs : List ℕ} → x < states σ.aut → ListWay σ y xs x → {τ : Store} {es : List Edge} → after (enters N xs σ) (λ u. delta N L y) ≡ given τ es
    → (n : ℕ) → y < n → opens (count_of τ.aut.states.words) n < opens (count_of σ.aut.states.words) n
has_more {σ = σ} W {y} {xs = xs} l v {τ} e n m =
    let r = way_gave xs W l v e in
    opens_fewer (count_of σ.aut.states.words) (count_of τ.aut.states.words) (λ i h. (r.went.lists i h).0) y n m (list_way_end v).0 r.stored.marked
