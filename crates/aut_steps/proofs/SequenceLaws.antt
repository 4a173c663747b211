-- mk_sequence: the state holds the joins of its operands' strings (01, "Strings"). The depth of its regrouping: any depth from the nesting of the first
-- operand on does the same, so that mk_sequence is what the Rust writes, a function that calls itself.
use Rattle.std.specs.Prelude.{if◌then◌else◌}
use mathlib.Core.Path.{◌≡◌, refl, ◌∙◌, ap}
use mathlib.Core.Bool.{Bool, true, false, ◌&&◌}
use Prim.Native.Nat.{ℕ, zero, suc, ◌≤◌, ◌<◌}
use native.Mathlib.Omega.{arith}
use lib.Dec.{eqb}
use borrow.Author.Tests.{eqb-true, eqb-false, eq-eqb}
use Rattle.common.specs.Packets.{Packet, Relation}
use Rattle.common.specs.Outcome.{Outcome, refused, given, Step, return, after}
use Rattle.netkat.specs.Rules.{In, Join, sequence}
use Rattle.spp_steps.proofs.Laws.{den_zero, den_one}
use Rattle.spp_steps.specs.Relations.{equal}
use Rattle.aut_steps.specs.Relations as Spp
use Rattle.aut_steps.specs.Tables.{SPP, SEQUENCE, TOP, Limits, Aut, on_states}
use Rattle.aut_steps.specs.Intern.{intern2}
use Rattle.aut_steps.specs.Constructors.{mk_spp, mk_top, spp_of, relations, is_relation, sequence_with, sequence_by, mk_sequence}
use Rattle.aut_steps.specs.Kinds.{form}
use Rattle.aut_steps.specs.Languages.{◌≈◌}
use Rattle.aut_steps.proofs.Languages.{same, ≈-sym, ◌then◌, Rel, rel_same, rel_none, join_same, join_rel, join_assoc, join_one_left, join_one_right, join_none_left, join_none_right, join_whole}
use Rattle.aut_steps.proofs.RelationLaws.{sequence_made}
use Rattle.aut_steps.proofs.Facts.{and_true, and_false}
use Rattle.aut_steps.specs.Made.{IsRelation}
use Rattle.aut_steps.proofs.MadeLaws.{made_sequence}
use Rattle.aut_steps.specs.Wf.{states, kind, first, second, nesting, Two, WfAut}
use Rattle.aut_steps.proofs.Wf.{nesting_grown, state_grown, ok_as}
use Rattle.aut_steps.proofs.StepSpec.{StepSpec, came, goes_return, goes_bind, goes_map, choose}
use Rattle.aut_steps.specs.Meaning.{Holds}
use Rattle.aut_steps.proofs.Meaning.{Is, is_same, holds_grown, holds_spp, holds_sequence, holds_top}
use Rattle.aut_steps.proofs.StateLaws.{handle, zero_goes, mk_top_goes, spp_of_goes, both_spp, not_both, two_goes}

-- what is asked of a call on operands of lower nesting
abbrev Joins : (N : ℕ) (L : Limits) → (ℕ → ℕ → Step Aut ℕ) → ℕ → Type 0
Joins N L again depth =
    (τ : Aut) → WfAut N L τ → (a b : ℕ) → a < states τ → b < states τ → nesting τ a < depth → StepSpec N L (Is N (Join (Holds N τ a) (Holds N τ b))) τ (again a b τ)

module _ {N : ℕ} {L : Limits} where
  module _ {σ : Aut} (g : WfAut N L σ) (x y : ℕ) (l : x < states σ) (m : y < states σ) where
    -- the parts of a Sequence
    parts : kind σ x ≡ SEQUENCE → Two σ x
    unfolding form
    parts e = ok_as g SEQUENCE l e

    -- state z is the relation h
    relation_is : (z h : ℕ) → z < states σ → is_relation σ.states.words z h ≡ true → {R : Relation N} → ((p q : Packet N) → Spp.pairs N σ.nodes h p q ≡ R p q) → Holds N σ z ≈ Rel R
    relation_is z h i e f =
        let (a, b) = and_true (eqb (kind σ z) SPP) (eqb (first σ z) h) e in
        holds_spp g i (eqb-true (kind σ z) SPP a) then rel_same (λ p q. ap (λ (j : ℕ). Spp.pairs N σ.nodes j p q) (eqb-true (first σ z) h b) ∙ f p q)

    not_relation : (z h : ℕ) → is_relation σ.states.words z h ≡ false → IsRelation σ.states.words z h → ⊥
    not_relation z h q (a, b) = and_false (eqb (kind σ z) SPP) (eqb (first σ z) h) q (eq-eqb (kind σ z) SPP a) (eq-eqb (first σ z) h b)

    zero_pairs : (p q : Packet N) → Spp.pairs N σ.nodes (Spp.zero_at N) p q ≡ false
    zero_pairs = (den_zero g.nodes N (omega arith)).means

    one_pairs : (p q : Packet N) → Spp.pairs N σ.nodes (Spp.one_at N) p q ≡ equal p q
    one_pairs = (den_one g.nodes N (omega arith)).means

    sequence_with_goes : (again : ℕ → ℕ → Step Aut ℕ) → Joins N L again (nesting σ x) → StepSpec N L (Is N (Join (Holds N σ x) (Holds N σ y))) σ (sequence_with N L again x y σ)
    unfolding sequence_with form In
    sequence_with_goes again f =
        choose (relations σ.states.words x y)
        (λ q. let (a, b) = both_spp g x y q in
        goes_map (spp_of_goes g (Spp.sequence N (first σ x) (first σ y)) (sequence_made N σ.nodes g.nodes (first σ x) (first σ y) (handle g l a) (handle g m b)))
        (λ τ z w v i. is_same (≈-sym (join_same (holds_spp g l a) (holds_spp g m b) then join_rel (Spp.pairs N σ.nodes (first σ x)) (Spp.pairs N σ.nodes (first σ y)))) i))
        (λ n1. choose (is_relation σ.states.words x (Spp.one_at N))
        (λ q. goes_return y g (record { state = m; strings = ≈-sym (join_same (relation_is x (Spp.one_at N) l q one_pairs) (λ w. same) then join_one_left (Holds N σ y)) }))
        (λ n2. choose (is_relation σ.states.words x (Spp.zero_at N))
        (λ q. goes_map (zero_goes g) (λ τ z w v i. is_same (≈-sym (join_same (relation_is x (Spp.zero_at N) l q zero_pairs then rel_none (λ p q. refl)) (λ w. same) then join_none_left (Holds N σ y))) i))
        (λ n3. choose (is_relation σ.states.words y (Spp.one_at N))
        (λ q. goes_return x g (record { state = l; strings = ≈-sym (join_same (λ w. same) (relation_is y (Spp.one_at N) m q one_pairs) then join_one_right (Holds N σ x)) }))
        (λ n4. choose (is_relation σ.states.words y (Spp.zero_at N))
        (λ q. goes_map (zero_goes g) (λ τ z w v i. is_same (≈-sym (join_same (λ w. same) (relation_is y (Spp.zero_at N) m q zero_pairs then rel_none (λ p q. refl)) then join_none_right (Holds N σ x))) i))
        (λ n5. choose (eqb (kind σ x) SEQUENCE)
        (λ q. let e : kind σ x ≡ SEQUENCE = eqb-true (kind σ x) SEQUENCE q in
        let t : Two σ x = parts e in
        let s : Holds N σ x ≈ Join (Holds N σ (first σ x)) (Holds N σ (second σ x)) = holds_sequence g l e in
        let l1 : first σ x < states σ = omega (arith, t.earlier1) in
        let l2 : second σ x < states σ = omega (arith, t.earlier2) in
        goes_bind (f σ g (second σ x) y l2 m (omega (arith, t.nested))) (λ τ z w v i.
        goes_map (f τ v (first σ x) z (state_grown w l1) i.state (omega (arith, t.nested, nesting_grown w (first σ x) l1))) (λ υ r w' v' j.
        is_same (join_same (holds_grown g w l1) i.strings then ≈-sym (join_assoc (Holds N σ (first σ x)) (Holds N σ (second σ x)) (Holds N σ y)) then join_same (≈-sym s) (λ w. same)) j)))
        (λ n6. choose (eqb (kind σ x) TOP && eqb (kind σ y) TOP)
        (λ q. let (a, b) = and_true (eqb (kind σ x) TOP) (eqb (kind σ y) TOP) q in
        goes_map (mk_top_goes g) (λ τ z w v i. is_same (≈-sym (join_same (holds_top g l (eqb-true (kind σ x) TOP a)) (holds_top g m (eqb-true (kind σ y) TOP b)) then join_whole)) i))
        (λ n7. two_goes g SEQUENCE sequence refl l m (λ xs. made_sequence (record {
          regrouped = eqb-false (kind σ x) SEQUENCE n6;
          no_one1 = not_relation x (Spp.one_at N) n2;
          no_zero1 = not_relation x (Spp.zero_at N) n3;
          no_one2 = not_relation y (Spp.one_at N) n4;
          no_zero2 = not_relation y (Spp.zero_at N) n5;
          relations = not_both g SPP x y n1;
          tops = not_both g TOP x y n7;
        })))))))))

    -- ---- two ways to go on do the same, if they do on operands of lower nesting

    with_same : (again other : ℕ → ℕ → Step Aut ℕ) → Joins N L again (nesting σ x)
        → ((τ : Aut) → WfAut N L τ → (a b : ℕ) → a < states τ → b < states τ → nesting τ a < nesting σ x → again a b τ ≡ other a b τ)
        → sequence_with N L again x y σ ≡ sequence_with N L other x y σ
    unfolding sequence_with
    with_same again other f h = go (eqb (kind σ x) SEQUENCE) refl
      where
        rest : (o : Outcome Aut ℕ) → StepSpec N L (Is N (Join (Holds N σ (second σ x)) (Holds N σ y))) σ o → kind σ x ≡ SEQUENCE → after o (again (first σ x)) ≡ after o (other (first σ x))
        rest (refused e) r s = refl
        rest (given τ z) r s =
            let t : Two σ x = parts s in let l1 : first σ x < states σ = omega (arith, t.earlier1) in let i = came r in
            h τ i.good (first σ x) z (state_grown i.grown l1) i.holds.state (omega (arith, t.nested, nesting_grown i.grown (first σ x) l1))

        calls : kind σ x ≡ SEQUENCE → after (again (second σ x) y σ) (again (first σ x)) ≡ after (other (second σ x) y σ) (other (first σ x))
        calls s =
            let t : Two σ x = parts s in let l2 : second σ x < states σ = omega (arith, t.earlier2) in let less : nesting σ (second σ x) < nesting σ x = omega (arith, t.nested) in
            rest (again (second σ x) y σ) (f σ g (second σ x) y l2 m less) s ∙ ap (λ (o : Outcome Aut ℕ). after o (other (first σ x))) (h σ g (second σ x) y l2 m less)

        body : Bool → Outcome Aut ℕ → Outcome Aut ℕ
        body b o =
            if relations σ.states.words x y then spp_of (Spp.sequence N (first σ x) (first σ y)) σ
            else if is_relation σ.states.words x (Spp.one_at N) then given σ y
            else if is_relation σ.states.words x (Spp.zero_at N) then on_states (mk_spp (Spp.zero_at N)) σ
            else if is_relation σ.states.words y (Spp.one_at N) then given σ x
            else if is_relation σ.states.words y (Spp.zero_at N) then on_states (mk_spp (Spp.zero_at N)) σ
            else if b then o
            else if eqb (kind σ x) TOP && eqb (kind σ y) TOP then on_states mk_top σ
            else on_states (intern2 L SEQUENCE x y) σ

        go : (b : Bool) → eqb (kind σ x) SEQUENCE ≡ b → body b (after (again (second σ x) y σ) (again (first σ x))) ≡ body b (after (other (second σ x) y σ) (other (first σ x)))
        go true q = ap (body true) (calls (eqb-true (kind σ x) SEQUENCE q))
        go false q = refl

  -- ---- every depth that is enough

  pub sequence_by_goes : (depth : ℕ) {σ : Aut} → WfAut N L σ → {x y : ℕ} → x < states σ → y < states σ → nesting σ x ≤ depth
      → StepSpec N L (Is N (Join (Holds N σ x) (Holds N σ y))) σ (sequence_by N L depth x y σ)
  unfolding sequence_by
  sequence_by_goes zero g {x} {y} l m d = sequence_with_goes g x y l m (λ a b. return a) (λ τ v a b i j k. absurd (omega arith))
  sequence_by_goes (suc depth) g {x} {y} l m d = sequence_with_goes g x y l m (sequence_by N L depth) (λ τ v a b i j k. sequence_by_goes depth v i j (omega arith))

  pub sequence_depth : (depth other : ℕ) {σ : Aut} → WfAut N L σ → {x y : ℕ} → x < states σ → y < states σ → nesting σ x ≤ depth → nesting σ x ≤ other
      → sequence_by N L depth x y σ ≡ sequence_by N L other x y σ
  unfolding sequence_by
  sequence_depth zero zero g l m d e = refl
  sequence_depth zero (suc other) g {x} {y} l m d e =
      with_same g x y l m (λ a b. return a) (sequence_by N L other) (λ τ v a b i j k. absurd (omega arith)) (λ τ v a b i j k. absurd (omega arith))
  sequence_depth (suc depth) zero g {x} {y} l m d e =
      with_same g x y l m (sequence_by N L depth) (λ a b. return a) (λ τ v a b i j k. absurd (omega arith)) (λ τ v a b i j k. absurd (omega arith))
  sequence_depth (suc depth) (suc other) g {x} {y} l m d e =
      with_same g x y l m (sequence_by N L depth) (sequence_by N L other) (λ τ v a b i j k. sequence_by_goes depth v i j (omega arith))
      (λ τ v a b i j k. sequence_depth depth other v i j (omega arith) (omega arith))

  module _ {σ : Aut} (g : WfAut N L σ) {x y : ℕ} (l : x < states σ) (m : y < states σ) where
    pub mk_sequence_goes : StepSpec N L (Is N (Join (Holds N σ x) (Holds N σ y))) σ (mk_sequence N L x y σ)
    unfolding mk_sequence
    mk_sequence_goes = sequence_by_goes (nesting σ x) g l m (omega arith)

    -- it is the Rust's: the call's own parts go to mk_sequence again
    pub mk_sequence_is : mk_sequence N L x y σ ≡ sequence_with N L (mk_sequence N L) x y σ
    unfolding mk_sequence sequence_by
    mk_sequence_is =
        sequence_depth (nesting σ x) (suc (nesting σ x)) g l m (omega arith) (omega arith)
        ∙ with_same g x y l m (sequence_by N L (nesting σ x)) (mk_sequence N L) (λ τ v a b i j k. sequence_by_goes (nesting σ x) v i j (omega arith))
        (λ τ v a b i j k. sequence_depth (nesting σ x) (nesting τ a) v i j (omega arith) (omega arith))
