-- What holds of the definitions of specs/EpsilonSpec.
use mathlib.Core.Path.{◌≡◌, refl, sym, ◌∙◌, ap, subst}
use mathlib.Core.Bool.{false}
use mathlib.Core.List.{List, [], ◌∷◌, map}
use mathlib.Core.Logic.{inl}
use Prim.Native.Nat.{ℕ, zero, suc, ◌+◌, ◌*◌, ◌-◌, ◌≤◌, ◌<◌}
use native.Mathlib.Omega.{arith}
use lib.Dec.{eqb, ltb}
use lib.ListN.{length, length-append, get_or}
use borrow.Author.Tests.{eqb-true, eqb-false, ltb-true, ltb-false}
use Rattle.common.specs.Packets.{Relation}
use Rattle.common.specs.Relations.{noneʳ, allʳ, ∁ʳ, ◌⊕ʳ◌, ◌∖ʳ◌, ◌⨾◌}
use Rattle.common.specs.Outcome.{Outcome, given, Step, return, after, ◌>>=◌}
use Rattle.common.specs.Runs.{Table, placed}
use Rattle.netkat.specs.Rules.{Language, Join, Star, union, intersection, xor, difference, complement, sequence, star, until}
use Rattle.netkat.specs.Hops.{IsEpsilon}
use Rattle.netkat.proofs.Laws.Hops.{epsilon_same, epsilon_dup, epsilon_union, epsilon_intersection, epsilon_xor, epsilon_difference, epsilon_complement, epsilon_sequence, epsilon_star, epsilon_until, epsilon_next}
use Rattle.netkat.proofs.Laws.Derivatives.{epsilon_true}
use Rattle.spp_steps.specs.Wf.{Wf, Denotes}
use Rattle.spp_steps.proofs.Laws.{den_ext, den_mem, den_zero, den_top, by_test}
use Rattle.spp_steps.proofs.Make.{Lacks}
use Rattle.spp_steps.specs.Closure.{closure}
use Rattle.aut_steps.specs.Relations as Rel
use Rattle.aut_steps.specs.Tables.{SPP, UNION, INTERSECT, XOR, DIFFERENCE, COMPLEMENT, SEQUENCE, STAR, DUP, NEXT, UNTIL, TOP, Limits, Aut, put_nodes, on_nodes}
use Rattle.aut_steps.specs.Kinds.{form}
use Rattle.aut_steps.specs.Languages.{◌≈◌}
use Rattle.aut_steps.proofs.Languages.{≈-sym, ◌then◌, same, sum_none, sum_assoc, none_sum, None, Either, Both, Minus, Differ, Not}
use Rattle.aut_steps.specs.Ascending.{All}
use Rattle.aut_steps.proofs.RelationLaws.{Makes, lacks, makes}
use Rattle.aut_steps.specs.Wf.{states, kind, first, nesting, members, ExtAut, WfAut}
use Rattle.aut_steps.proofs.Wf.{grown_nodes, kind_grown, nesting_grown, state_grown}
use Rattle.aut_steps.proofs.StepSpec.{RefusalReason, no_node, good_nodes}
use Rattle.aut_steps.specs.Meaning.{rule, Holds}
use Rattle.aut_steps.proofs.Meaning.{HoldsSome, HoldsAll, holds_grown, holds_spp, holds_union, holds_intersect, holds_xor, holds_difference, holds_complement, holds_sequence, holds_star, holds_dup, holds_next, holds_until, holds_top}
use Rattle.aut_steps.proofs.StateLaws as StateLaws
use Rattle.aut_st_steps.specs.Operations as Ops
use Rattle.aut_delta_steps.specs.Epsilon.{epsilon_of, value_of, keep_epsilon, each_of, unite_all, meet_all, meet_first, epsilon_by_kind, epsilon_with, epsilon_by, epsilon}
use Rattle.aut_delta_steps.proofs.Labels.{union_makes, intersect_makes, difference_makes, xor_makes, sequence_makes, complement_makes, star_makes, closure_is}
use Rattle.aut_delta_steps.proofs.Agree.{Agree, stop, come, agree_same, agree_bind, agree_map, agree_if, All2, none, also, all2_map, all2_reads}
use Rattle.aut_delta_steps.specs.Noted.{Noted}
use Rattle.aut_delta_steps.proofs.Noted.{noted_refl, noted_trans, noted_nodes, noted_grown, noted_word, written, written_other, written_here, written_good, written_grown, written_count}
use Rattle.aut_delta_steps.specs.Wf.{Means, Epsilons, Valued, handle, memo}
use Rattle.aut_delta_steps.proofs.Wf.{means_ext, means_same, epsilons_since, valued_noted, valued_reads}
use Rattle.aut_delta_steps.proofs.Operands.{Below, below_one, below_two, below_many, last_kind, no_kind}
use Rattle.aut_delta_steps.specs.EpsilonSpec.{Found, Epsiloned, Ready}

-- ---- what a run comes to

module _ (N : ℕ) (L : Limits) where
  -- from σ, it is refused because a relation node is lacking (21)
  pub record Stopped (σ : Aut) (number : ℕ) : Type 0 where
    pub last : Aut
    pub noted : Noted σ last
    pub good : WfAut N L last
    pub lacking : Lacks number last.nodes

  -- each is a handle of the relation of the member's strings without hops, as σ has them
  abbrev pub MeansAll : Aut → Table → List ℕ → List ℕ → Type 0
  MeansAll σ t xs es = All2 (λ x e. Means N t e (Holds N σ x)) xs es

  -- the answer for an operand of a state of σ, asked in τ
  pub record Asked (σ : Aut) (y : ℕ) (τ υ : Aut) (e : ℕ) : Type 0 where
    pub noted : Noted τ υ
    pub ready : Ready N L υ
    pub means : Means N υ.nodes e (Holds N σ y)
    pub value : Valued υ y e

  -- the answers for a list of operands
  pub record AskedAll (σ : Aut) (ys : List ℕ) (τ υ : Aut) (es : List ℕ) : Type 0 where
    pub noted : Noted τ υ
    pub ready : Ready N L υ
    pub means : MeansAll σ υ.nodes ys es
    pub values : All2 (Valued υ) ys es

  -- two ways to call go the same on operands of lower nesting, and as they should
  abbrev pub Calls : (again other : ℕ → Step Aut ℕ) → ℕ → Type 0
  Calls again other depth = (τ : Aut) → Ready N L τ → (y : ℕ) → y < states τ → nesting τ y < depth → Agree (Stopped τ) (Epsiloned N L y τ) (again y τ) (other y τ)

is_as : {N : ℕ} {R : Relation N} {A B : Language N} → A ≈ B → IsEpsilon R B → IsEpsilon R A
is_as f i = epsilon_same (λ a z. ((f _).1, (f _).0)) i

module _ {N : ℕ} {L : Limits} where
  -- 01's number and its reason, as the constructors have them
  pub stopped_why : {σ : Aut} {number : ℕ} (s : Stopped N L σ number) → RefusalReason L s.last number
  stopped_why s = no_node s.lacking

  pub stopped_21 : {σ : Aut} {number : ℕ} → Stopped N L σ number → number ≡ 21
  stopped_21 s = s.lacking.number_is

  stopped_from : {σ τ : Aut} → Noted σ τ → (number : ℕ) → Stopped N L τ number → Stopped N L σ number
  stopped_from n number s = record { last = s.last; noted = noted_trans n s.noted; good = s.good; lacking = s.lacking }

  found_ready : {A : Language N} {σ τ : Aut} {e : ℕ} → Found N L A σ τ e → Ready N L τ
  found_ready f = record { good = f.good; epsilons = f.epsilons }

  found_from : {A B : Language N} {σ τ υ : Aut} {e : ℕ} → Noted σ τ → A ≈ B → Found N L A τ υ e → Found N L B σ υ e
  found_from n s f = record { noted = noted_trans n f.noted; good = f.good; epsilons = f.epsilons; means = means_same s f.means }

  -- one step after another
  bind_agree : {X : Type 0} {Q : Aut → X → Type 0} {A : Language N} {σ : Aut} {o p : Outcome Aut X} {k j : X → Step Aut ℕ} → Agree (Stopped N L σ) Q o p
      → ((τ : Aut) (a : X) → Q τ a → Noted σ τ × Agree (Stopped N L τ) (Found N L A τ) (k a τ) (j a τ)) → Agree (Stopped N L σ) (Found N L A σ) (after o k) (after p j)
  bind_agree c f = agree_bind c (λ n s. s) (λ τ a q. let (n, d) = f τ a q in agree_map d (stopped_from n) (λ υ e r. found_from n (λ w. same) r))

  same_agree : {A B : Language N} {σ : Aut} {o p : Outcome Aut ℕ} → A ≈ B → Agree (Stopped N L σ) (Found N L A σ) o p → Agree (Stopped N L σ) (Found N L B σ) o p
  same_agree {σ = σ} s c = agree_map c (λ n w. w) (λ υ e r. found_from (noted_refl σ) s r)

  -- a step on relation nodes
  pub nodes_agree : {A : Language N} {R : Relation N} {σ : Aut} {o : Outcome Table ℕ} → Ready N L σ → Makes N R σ.nodes o → IsEpsilon R A
      → Agree (Stopped N L σ) (Found N L A σ) (placed put_nodes σ o) (placed put_nodes σ o)
  nodes_agree {σ = σ} r (lacks {t' = t} e w y) i = stop (record { last = put_nodes t σ; noted = noted_nodes e; good = good_nodes r.good e w; lacking = y })
  nodes_agree {R = R} {σ = σ} r (makes {t' = t} {h} m) i =
      let v : WfAut N L (put_nodes t σ) = good_nodes r.good m.ext m.wf in
      come (record {
        noted = noted_nodes m.ext;
        good = v;
        epsilons = epsilons_since r.good (record { grown = grown_nodes {σ = σ} m.ext; memos = λ i w l n. refl; good = v }) r.epsilons;
        means = record { relation = R; den = m.den; is = i };
      })

  -- an answer with no step
  return_agree : {A : Language N} {σ : Aut} {h : ℕ} → Ready N L σ → Means N σ.nodes h A → Agree (Stopped N L σ) (Found N L A σ) (given σ h) (given σ h)
  return_agree {σ = σ} r m = come (record { noted = noted_refl σ; good = r.good; epsilons = r.epsilons; means = m })

  -- ---- lists of relations

  module _ (σ : Aut) where
    pub unite_agree : (xs : List ℕ) {A : Language N} {τ : Aut} {es : List ℕ} (h : ℕ) → Ready N L τ → Means N τ.nodes h A → MeansAll N L σ τ.nodes xs es
        → Agree (Stopped N L τ) (Found N L (Either A (HoldsSome N σ xs)) τ) (unite_all N es h τ) (unite_all N es h τ)
    unfolding unite_all
    unite_agree [] h r m none = return_agree r (means_same (λ w. (inl, sum_none.0)) m)
    unite_agree (x ∷ xs) {A} {τ} h r m (also d ds) =
        same_agree (λ w. (sum_assoc.1, sum_assoc.0))
        (bind_agree (nodes_agree {A = Either A (Holds N σ x)} r (union_makes r.good.nodes m.den d.den) (epsilon_union m.is d.is))
        (λ υ k f. (f.noted, unite_agree xs k (found_ready f) f.means (all2_map (λ y e p. means_ext f.noted.nodes p) ds))))

    pub meet_agree : (xs : List ℕ) {A : Language N} {τ : Aut} {es : List ℕ} (h : ℕ) → Ready N L τ → Means N τ.nodes h A → MeansAll N L σ τ.nodes xs es
        → Agree (Stopped N L τ) (Found N L (Both A (HoldsAll N σ xs)) τ) (meet_all N es h τ) (meet_all N es h τ)
    unfolding meet_all
    meet_agree [] h r m none = return_agree r (means_same (λ w. (λ a. (a, tt), λ p. p.0)) m)
    meet_agree (x ∷ xs) {A} {τ} h r m (also d ds) =
        same_agree (λ w. (λ p. (p.0.0, (p.0.1, p.1)), λ p. ((p.0, p.1.0), p.1.1)))
        (bind_agree (nodes_agree {A = Both A (Holds N σ x)} r (intersect_makes r.good.nodes m.den d.den) (epsilon_intersection m.is d.is))
        (λ υ k f. (f.noted, meet_agree xs k (found_ready f) f.means (all2_map (λ y e p. means_ext f.noted.nodes p) ds))))

    -- an Intersect has a member
    pub first_agree : (xs : List ℕ) {τ : Aut} {es : List ℕ} → Ready N L τ → 1 ≤ length xs → MeansAll N L σ τ.nodes xs es
        → Agree (Stopped N L τ) (Found N L (HoldsAll N σ xs) τ) (meet_first N es τ) (meet_first N es τ)
    first_agree [] r s none = absurd (omega arith)
    first_agree (x ∷ xs) r s (also {b = e} d ds) = meet_agree xs e r d ds

  -- ---- calls on operands

  module _ {σ : Aut} (r : Ready N L σ) {x : ℕ} (l : x < states σ) {again other : ℕ → Step Aut ℕ} (calls : Calls N L again other (nesting σ x)) where
    ask : {τ : Aut} → Noted σ τ → Ready N L τ → {y : ℕ} → Below σ x y → Agree (Stopped N L τ) (Asked N L σ y τ) (again y τ) (other y τ)
    ask {τ} n q {y} b =
        agree_map (calls τ q y (state_grown (noted_grown n) b.state) (omega (arith, nesting_grown (noted_grown n) y b.state, b.lower))) (λ k s. s)
        (λ υ e a. record {
          noted = a.found.noted;
          ready = found_ready a.found;
          means = means_same (holds_grown r.good (noted_grown n) b.state) a.found.means;
          value = a.value;
        })

    pub ask_all : (ys : List ℕ) {τ : Aut} → Noted σ τ → Ready N L τ → All (Below σ x) ys → Agree (Stopped N L τ) (AskedAll N L σ ys τ) (each_of again ys τ) (each_of other ys τ)
    unfolding each_of
    ask_all [] {τ} n q b = come (record { noted = noted_refl τ; ready = q; means = none; values = none })
    ask_all (y ∷ ys) {τ} n q b =
        agree_bind (ask n q b.0) (λ k s. s) (λ υ e a.
        agree_bind (ask_all ys (noted_trans n a.noted) a.ready b.1) (λ k s. stopped_from a.noted k s) (λ ω es c.
        come (record {
          noted = noted_trans a.noted c.noted;
          ready = c.ready;
          means = also (means_ext c.noted.nodes a.means) c.means;
          values = also (valued_noted c.noted (state_grown (noted_grown (noted_trans n a.noted)) b.0.state) a.value) c.values;
        })))

    -- ---- by the number of operands

    -- an operation on relations, and on sets of strings
    one_agree : (F : Relation N → Relation N) (C : Language N → Language N) (op : ℕ → Step Table ℕ)
        → ((t : Table) → Wf N t → (a : ℕ) (R : Relation N) → Denotes t N a R → Makes N (F R) t (op a t))
        → ((R : Relation N) (A : Language N) → IsEpsilon R A → IsEpsilon (F R) (C A))
        → {a : ℕ} → Below σ x a
        → Agree (Stopped N L σ) (Found N L (C (Holds N σ a)) σ) ((again a >>= λ p. on_nodes (op p)) σ) ((other a >>= λ p. on_nodes (op p)) σ)
    one_agree F C op make is b =
        bind_agree (ask (noted_refl σ) r b) (λ τ p f. (f.noted, nodes_agree f.ready (make _ f.ready.good.nodes p _ f.means.den) (is _ _ f.means.is)))

    two_agree : (F : Relation N → Relation N → Relation N) (C : Language N → Language N → Language N) (op : ℕ → ℕ → Step Table ℕ)
        → ((t : Table) → Wf N t → (a : ℕ) (R : Relation N) → Denotes t N a R → (b : ℕ) (S : Relation N) → Denotes t N b S → Makes N (F R S) t (op a b t))
        → ((R S : Relation N) (A B : Language N) → IsEpsilon R A → IsEpsilon S B → IsEpsilon (F R S) (C A B))
        → {a b : ℕ} → Below σ x a × Below σ x b
        → Agree (Stopped N L σ) (Found N L (C (Holds N σ a) (Holds N σ b)) σ) ((again a >>= λ p. again b >>= λ q. on_nodes (op p q)) σ) ((other a >>= λ p. other b >>= λ q. on_nodes (op p q)) σ)
    two_agree F C op make is b =
        bind_agree (ask (noted_refl σ) r b.0) (λ τ p f. (
          f.noted,
          bind_agree (ask f.noted f.ready b.1) (λ υ q h. (
            h.noted,
            nodes_agree h.ready (make _ h.ready.good.nodes p _ (den_ext h.noted.nodes f.means.den) q _ h.means.den) (is _ _ _ _ f.means.is h.means.is),
          )),
        ))

    -- ---- by kind

    kind_agree : eqb (kind σ x) SPP ≡ false → Agree (Stopped N L σ) (Found N L (Holds N σ x) σ) (epsilon_by_kind N again x σ) (epsilon_by_kind N other x σ)
    unfolding epsilon_by_kind form
    kind_agree n1 =
        let k : ℕ = kind σ x in
        let g : WfAut N L σ = r.good in
        agree_if (eqb k UNION)
        (λ q. let e : k ≡ UNION = eqb-true k UNION q in
        same_agree (≈-sym (holds_union g l e))
        (bind_agree (ask_all (members σ x) (noted_refl σ) r (below_many g l UNION e union refl)) (λ τ es f. (
          f.noted,
          same_agree {A = Either None (HoldsSome N σ (members σ x))} (λ w. none_sum (λ b. b))
              (unite_agree σ (members σ x) (Rel.zero_at N) f.ready (record { relation = noneʳ; den = den_zero f.ready.good.nodes N (omega arith); is = record { ends = λ a z. same } }) f.means),
        ))))
        (λ n2. agree_if (eqb k INTERSECT)
        (λ q. let e : k ≡ INTERSECT = eqb-true k INTERSECT q in
        same_agree (≈-sym (holds_intersect g l e))
        (bind_agree (ask_all (members σ x) (noted_refl σ) r (below_many g l INTERSECT e intersection refl)) (λ τ es f. (
          f.noted,
          first_agree σ (members σ x) f.ready (some_member e) f.means,
        ))))
        (λ n3. agree_if (eqb k XOR)
        (λ q. let e : k ≡ XOR = eqb-true k XOR q in
        same_agree (≈-sym (holds_xor g l e)) (two_agree ◌⊕ʳ◌ Differ (Rel.xor N) (λ t w a R x b S y. xor_makes w x y) (λ R S A B i j. epsilon_xor i j) (below_two g l XOR e xor refl)))
        (λ n4. agree_if (eqb k DIFFERENCE)
        (λ q. let e : k ≡ DIFFERENCE = eqb-true k DIFFERENCE q in
        same_agree (≈-sym (holds_difference g l e)) (two_agree ◌∖ʳ◌ Minus (Rel.difference N) (λ t w a R x b S y. difference_makes w x y) (λ R S A B i j. epsilon_difference i j) (below_two g l DIFFERENCE e difference refl)))
        (λ n5. agree_if (eqb k COMPLEMENT)
        (λ q. let e : k ≡ COMPLEMENT = eqb-true k COMPLEMENT q in
        same_agree (≈-sym (holds_complement g l e)) (one_agree ∁ʳ Not (Ops.complement N) (λ t w a R x. complement_makes w x) (λ R A i. epsilon_complement i) (below_one g l COMPLEMENT e complement refl)))
        (λ n6. agree_if (eqb k SEQUENCE)
        (λ q. let e : k ≡ SEQUENCE = eqb-true k SEQUENCE q in
        same_agree (≈-sym (holds_sequence g l e)) (two_agree ◌⨾◌ Join (Rel.sequence N) (λ t w a R x b S y. sequence_makes w x y) (λ R S A B i j. epsilon_sequence i j) (below_two g l SEQUENCE e sequence refl)))
        (λ n7. agree_if (eqb k STAR)
        (λ q. let e : k ≡ STAR = eqb-true k STAR q in
        same_agree (≈-sym (holds_star g l e)) (one_agree closure Star (Rel.star N) (λ t w a R x. star_makes w x) (λ R A i. epsilon_star i (closure_is R)) (below_one g l STAR e star refl)))
        (λ n8. agree_if (eqb k UNTIL)
        (λ q. let e : k ≡ UNTIL = eqb-true k UNTIL q in
        same_agree (≈-sym (holds_until g l e)) (agree_map (ask (noted_refl σ) r (below_two g l UNTIL e until refl).1) (λ n s. s) (λ τ p f. record {
          noted = f.noted;
          good = f.ready.good;
          epsilons = f.ready.epsilons;
          means = record { relation = f.means.relation; den = f.means.den; is = epsilon_until (epsilon_true (rule N σ (first σ x))) f.means.is };
        })))
        (λ n9. agree_if (eqb k TOP)
        (λ q. return_agree r (record { relation = allʳ; den = den_top g.nodes N (omega arith); is = is_as (holds_top g l (eqb-true k TOP q)) (record { ends = λ a z. same }) }))
        (λ n10. return_agree r (record {
          relation = noneʳ;
          den = den_zero g.nodes N (omega arith);
          is = by_test (eqb k DUP)
              (λ q. is_as (holds_dup g l (eqb-true k DUP q)) epsilon_dup)
              (λ n11. by_test (eqb k NEXT)
              (λ q. is_as (holds_next g l (eqb-true k NEXT q)) (epsilon_next (Holds N σ (first σ x))))
              (λ n12. absurd (last_kind g l (no_kind k n1 n2 n3 n4 n5 n6 n7 n8 n11 n12 n9 n10))));
        }))))))))))
      where
        some_member : kind σ x ≡ INTERSECT → 1 ≤ length (members σ x)
        some_member e = let m = r.good.intersects x l e in omega (arith, ap length m.parts, length-append m.others m.last, m.some)

    -- what is worked out is kept
    epsilons_word : {τ : Aut} {e : ℕ} → (kind σ x ≡ SPP → ⊥) → Found N L (Holds N σ x) σ τ e → Epsilons N (written τ x 4 (e + 1))
    unfolding epsilon_of
    epsilons_word {τ} {e} n f =
        let m : x < states τ = state_grown (noted_grown f.noted) l in
        let w : ExtAut τ (written τ x 4 (e + 1)) = written_grown τ x 4 (e + 1) m (omega arith) (omega arith) in
        record {
          none = λ y a k. by_test (eqb y x)
              (λ t. absurd (n (sym (kind_grown (noted_grown f.noted) x l) ∙ sym (kind_grown w x m) ∙ subst (λ (z : ℕ). kind (written τ x 4 (e + 1)) z ≡ SPP) (eqb-true y x t) k)))
              (λ t. other_word y (eqb-false y x t) ∙ f.epsilons.none y (back a) (sym (kind_grown w y (back a)) ∙ k));
          kept = λ y a d q. by_test (eqb y x)
              (λ t. here y (eqb-true y x t) a d q)
              (λ t. means_same (≈-sym (holds_grown f.good w (back a))) (f.epsilons.kept y (back a) d (sym (other_word y (eqb-false y x t)) ∙ q)));
        }
      where
        back : {y : ℕ} → y < states (written τ x 4 (e + 1)) → y < states τ
        back a = omega (arith, written_count τ x 4 (e + 1))

        other_word : (y : ℕ) → (y ≡ x → ⊥) → get_or (written τ x 4 (e + 1)).states.words (12 * y + 4) 0 ≡ get_or τ.states.words (12 * y + 4) 0
        other_word y k = written_other τ x 4 (e + 1) (12 * y + 4) (λ q. k (omega arith))

        here : (y : ℕ) → y ≡ x → y < states (written τ x 4 (e + 1)) → (d : ℕ) → get_or (written τ x 4 (e + 1)).states.words (12 * y + 4) 0 ≡ d + 1 → Means N τ.nodes d (Holds N (written τ x 4 (e + 1)) y)
        here y t a d q =
            let m : x < states τ = state_grown (noted_grown f.noted) l in
            let w : ExtAut τ (written τ x 4 (e + 1)) = written_grown τ x 4 (e + 1) m (omega arith) (omega arith) in
            let v : d ≡ e = omega (arith, ap (λ (j : ℕ). get_or (written τ x 4 (e + 1)).states.words (12 * j + 4) 0) t, written_here τ x 4 (e + 1) (omega (arith, f.good.fits))) in
            subst (λ (j : ℕ). Means N τ.nodes d (Holds N (written τ x 4 (e + 1)) j)) (sym t)
            (subst (λ (j : ℕ). Means N τ.nodes j (Holds N (written τ x 4 (e + 1)) x)) (sym v)
            (means_same (≈-sym (holds_grown f.good w m then holds_grown r.good (noted_grown f.noted) l)) f.means))

    kept_agree : eqb (kind σ x) SPP ≡ false → epsilon_of σ.states.words x ≡ 0 → (τ : Aut) (e : ℕ) → Found N L (Holds N σ x) σ τ e
        → Agree (Stopped N L σ) (Epsiloned N L x σ) (keep_epsilon x e τ) (keep_epsilon x e τ)
    unfolding keep_epsilon epsilon_of
    kept_agree n z τ e f =
        let m : x < states τ = state_grown (noted_grown f.noted) l in
        let w : ExtAut τ (written τ x 4 (e + 1)) = written_grown τ x 4 (e + 1) m (omega arith) (omega arith) in
        come (record {
          found = record {
            noted = noted_word f.noted x (e + 1) l z;
            good = written_good τ x 4 (e + 1) m (omega arith) (omega arith) f.good;
            epsilons = epsilons_word (eqb-false (kind σ x) SPP n) f;
            means = f.means;
          };
          value = memo (λ q. eqb-false (kind σ x) SPP n (sym (kind_grown (noted_grown f.noted) x l) ∙ sym (kind_grown w x m) ∙ q)) (written_here τ x 4 (e + 1) (omega (arith, f.good.fits)));
        })

    pub epsilon_with_agree : Agree (Stopped N L σ) (Epsiloned N L x σ) (epsilon_with N again x σ) (epsilon_with N other x σ)
    unfolding epsilon_with
    epsilon_with_agree =
        agree_if (eqb (kind σ x) SPP)
        (λ q. let e : kind σ x ≡ SPP = eqb-true (kind σ x) SPP q in
        come (record {
          found = record {
            noted = noted_refl σ;
            good = r.good;
            epsilons = r.epsilons;
            means = record {
              relation = Rel.pairs N σ.nodes (first σ x);
              den = den_mem (StateLaws.handle r.good l e);
              is = is_as (holds_spp r.good l e) (record { ends = λ a z. (λ p. p.1, λ t. (refl, t)) });
            };
          };
          value = handle e refl;
        }))
        (λ n. agree_if (ltb 0 (epsilon_of σ.states.words x))
        (λ q. let c : epsilon_of σ.states.words x ≡ epsilon_of σ.states.words x - 1 + 1 = omega (arith, ltb-true 0 (epsilon_of σ.states.words x) q) in
        come (record {
          found = record { noted = noted_refl σ; good = r.good; epsilons = r.epsilons; means = r.epsilons.kept x l (epsilon_of σ.states.words x - 1) c };
          value = memo (eqb-false (kind σ x) SPP n) c;
        }))
        (λ z. agree_bind (kind_agree n) (λ k s. s) (kept_agree n (omega (arith, ltb-false 0 (epsilon_of σ.states.words x) z)))))

  -- ---- every depth that is enough

  by_agree : (depth more : ℕ) {σ : Aut} → Ready N L σ → {x : ℕ} → x < states σ → nesting σ x ≤ depth → nesting σ x ≤ more
      → Agree (Stopped N L σ) (Epsiloned N L x σ) (epsilon_by N depth x σ) (epsilon_by N more x σ)
  unfolding epsilon_by
  by_agree zero zero r l d e = epsilon_with_agree r l {again = return} {other = return} (λ τ q y m k. absurd (omega arith))
  by_agree zero (suc more) r l d e = epsilon_with_agree r l {again = return} {other = epsilon_by N more} (λ τ q y m k. absurd (omega arith))
  by_agree (suc depth) zero r l d e = epsilon_with_agree r l {again = epsilon_by N depth} {other = return} (λ τ q y m k. absurd (omega arith))
  by_agree (suc depth) (suc more) r l d e =
      epsilon_with_agree r l {again = epsilon_by N depth} {other = epsilon_by N more} (λ τ q y m k. by_agree depth more q m (omega arith) (omega arith))

  module _ {σ : Aut} (r : Ready N L σ) {x : ℕ} (l : x < states σ) where
    pub epsilon_goes : Agree (Stopped N L σ) (Epsiloned N L x σ) (epsilon N x σ) (epsilon N x σ)
    unfolding epsilon
    epsilon_goes = by_agree (nesting σ x) (nesting σ x) r l (omega arith) (omega arith)

    pub epsilon_depth : (depth : ℕ) → nesting σ x ≤ depth → epsilon_by N depth x σ ≡ epsilon N x σ
    unfolding epsilon
    epsilon_depth depth d = agree_same (by_agree depth (nesting σ x) r l d (omega arith))

    -- it is the Rust's: the operands go to epsilon again
    pub epsilon_is : epsilon N x σ ≡ epsilon_with N (epsilon N) x σ
    unfolding epsilon epsilon_by
    epsilon_is =
        agree_same (by_agree (nesting σ x) (suc (nesting σ x)) r l (omega arith) (omega arith))
        ∙ agree_same (epsilon_with_agree r l {again = epsilon_by N (nesting σ x)} {other = epsilon N} (λ τ q y m k. by_agree (nesting σ x) (nesting τ y) q m (omega arith) (omega arith)))

    -- in the tables that it gives, the handle is an epsilon of the state
    pub epsilon_means : {τ : Aut} {e : ℕ} → Epsiloned N L x σ τ e → Means N τ.nodes e (Holds N τ x)
    epsilon_means d = means_same (≈-sym (holds_grown r.good (noted_grown d.found.noted) l)) d.found.means

  -- epsilon on operands of a state, whatever its nesting
  pub epsilon_calls : (depth : ℕ) → Calls N L (epsilon N) (epsilon N) depth
  epsilon_calls depth τ r y m k = epsilon_goes r m

  -- what is read of the members afterwards are their answers
  pub values_read : {σ τ υ : Aut} {ys es : List ℕ} → AskedAll N L σ ys τ υ es → map (value_of υ.states.words) ys ≡ es
  values_read {υ = υ} a = all2_reads (value_of υ.states.words) (all2_map (λ y e v. valued_reads v) a.values)
