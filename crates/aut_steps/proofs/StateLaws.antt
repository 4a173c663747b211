-- The constructors without lists: which strings their states hold (01, "Strings").
use mathlib.Core.Path.{◌≡◌, refl, sym, ◌∙◌, ap, ap₂, subst}
use mathlib.Core.Bool.{true, false, ◌&&◌}
use mathlib.Core.List.{List}
use mathlib.Core.Logic.{◌⊎◌, inl, inr}
use Prim.Native.Nat.{ℕ, ◌+◌, ◌<◌, max}
use native.Mathlib.Omega.{arith}
use lib.Dec.{eqb, ltb}
use borrow.Author.Tests.{eqb-true, eqb-false, eq-eqb, ltb-true, ltb-false}
use Rattle.common.specs.Packets.{Relation}
use Rattle.common.specs.Outcome.{Outcome, Step}
use Rattle.common.specs.Runs.{Table, placed}
use Rattle.netkat.specs.Rules.{Rule, In, Star, Next, Until, dup, complement, star, xor, difference, next, until}
use Rattle.spp_steps.specs.Wf.{ValidAt, Denotes}
use Rattle.spp_steps.proofs.Laws.{den_ext, den_zero}
use Rattle.aut_steps.specs.Relations as Spp
use Rattle.aut_steps.specs.Tables.{SPP, XOR, DIFFERENCE, COMPLEMENT, STAR, DUP, NEXT, UNTIL, TOP, Limits, Aut, put_states, put_nodes, on_states}
use Rattle.aut_steps.specs.Intern.{intern1, intern2}
use Rattle.aut_steps.specs.Constructors.{mk_spp, mk_dup, mk_top, spp_of, relations, mk_xor, mk_difference, mk_complement, mk_star, mk_next, mk_until}
use Rattle.aut_steps.specs.Kinds.{Form, one, two, form}
use Rattle.aut_steps.specs.Languages.{◌≈◌}
use Rattle.aut_steps.proofs.Languages.{≈-sym, ◌then◌, Rel, None, Whole, Differ, Minus, Not, rel_same, rel_none, differ_rel, minus_rel, differ_same, minus_same, not_same, star_same, star_rel, star_star, star_whole}
use Rattle.aut_steps.proofs.RelationLaws.{Makes, lacks, makes, xor_pairs, xor_made, difference_made, star_made, closure_steps}
use Rattle.spp_steps.specs.Closure.{closure}
use Rattle.aut_steps.proofs.Decide.{not_not}
use Rattle.aut_steps.proofs.Facts.{and_true, and_false}
use Rattle.aut_steps.specs.Made.{IsRelation, NotBoth, MadeOf}
use Rattle.aut_steps.proofs.MadeLaws.{made_given, made_xor, made_difference, made_complement, made_star}
use Rattle.aut_steps.specs.Wf.{states, kind, first, nesting, WfAut}
use Rattle.aut_steps.proofs.Wf.{grown_nodes, ok_as}
use Rattle.aut_steps.proofs.StepSpec.{no_node, StepSpec, stops, comes, goes_return, goes_bind, goes_map, good_nodes, choose, choose_in}
use Rattle.aut_steps.proofs.InternLaws.{Fit, intern0_goes, intern1_goes, intern2_goes}
use Rattle.aut_steps.specs.Meaning.{shape, rule, Holds}
use Rattle.aut_steps.proofs.Meaning.{Is, is_same, in_same, rule_is, rule_grown, holds_spp, holds_complement, holds_star, holds_dup, holds_top}

module _ {N : ℕ} {L : Limits} {σ : Aut} (g : WfAut N L σ) where
  -- ---- relations

  -- a step on relation nodes
  pub nodes_goes : {R : Relation N} {o : Outcome Table ℕ} → Makes N R σ.nodes o → StepSpec N L (λ τ h. Denotes τ.nodes N h R) σ (placed put_nodes σ o)
  nodes_goes (lacks e w y) = stops (grown_nodes {σ = σ} e) (good_nodes g e w) (no_node y)
  nodes_goes (makes m) = comes (record { grown = grown_nodes {σ = σ} m.ext; memos = λ i w l k. refl; good = good_nodes g m.ext m.wf; holds = m.den })

  -- the handle of an SPP state
  pub handle : {x : ℕ} → x < states σ → kind σ x ≡ SPP → ValidAt σ.nodes N (first σ x)
  unfolding form
  handle l e = (ok_as g SPP l e).handle

  pub spp_state : {h : ℕ} {R : Relation N} → Denotes σ.nodes N h R → StepSpec N L (λ τ z. Is N (Rel R) τ z × IsRelation τ.states.words z h) σ (on_states (mk_spp h) σ)
  unfolding mk_spp form
  spp_state {h} {R} d = goes_map (intern0_goes g SPP h (λ l. omega arith) (d.at, refl, refl)) (λ τ z w v s. (
    record {
      state = s.state;
      strings = holds_spp v s.state s.is.kind then rel_same (λ p q. ap (λ (j : ℕ). Spp.pairs N τ.nodes j p q) s.is.first ∙ (den_ext w.nodes d).means p q);
    },
    (s.is.kind, s.is.first),
  ))

  pub mk_spp_goes : {h : ℕ} {R : Relation N} → Denotes σ.nodes N h R → StepSpec N L (Is N (Rel R)) σ (on_states (mk_spp h) σ)
  mk_spp_goes d = goes_map (spp_state d) (λ τ z w v s. s.0)

  pub zero_goes : StepSpec N L (Is N None) σ (on_states (mk_spp (Spp.zero_at N)) σ)
  zero_goes = goes_map (mk_spp_goes (den_zero g.nodes N (omega arith))) (λ τ z w v i. is_same (rel_none (λ p q. refl)) i)

  pub mk_dup_goes : StepSpec N L (Is N (In dup)) σ (on_states mk_dup σ)
  unfolding mk_dup form
  mk_dup_goes = goes_map (intern0_goes g DUP 0 (λ l. omega arith) (refl, refl, refl)) (λ τ z w v s. record { state = s.state; strings = holds_dup v s.state s.is.kind })

  pub mk_top_goes : StepSpec N L (Is N Whole) σ (on_states mk_top σ)
  unfolding mk_top form
  mk_top_goes = goes_map (intern0_goes g TOP 0 (λ l. omega arith) (refl, refl, refl)) (λ τ z w v s. record { state = s.state; strings = holds_top v s.state s.is.kind })

-- the state of a relation that a step makes
pub spp_of_goes : {N : ℕ} {L : Limits} {σ : Aut} → WfAut N L σ → {R : Relation N} (c : Step Table ℕ) → Makes N R σ.nodes (c σ.nodes) → StepSpec N L (Is N (Rel R)) σ (spp_of c σ)
spp_of_goes g c m = goes_bind (nodes_goes g m) (λ τ h w v d. mk_spp_goes v d)

module _ {N : ℕ} {L : Limits} {σ : Aut} (g : WfAut N L σ) where
  -- ---- one and two operands

  pub one_goes : (k : ℕ) (c : Rule N → Rule N) → form k ≡ one c → {x : ℕ} → x < states σ → ((xs : List ℕ) → MadeOf N σ.states.words k x 0 xs)
      → StepSpec N L (Is N (In (c (rule N σ x)))) σ (on_states (intern1 L k x) σ)
  one_goes k c q {x} l made =
      goes_map (intern1_goes g k x made l (subst (λ (f : Form N). Fit f σ x 0 (nesting σ x + 1)) (sym q) (l, refl, refl))) (λ τ z w v s. record {
        state = s.state;
        strings = in_same (rule_is v k z s.state s.is.kind ∙ ap (λ (f : Form N). shape f τ (rule N τ) z) q ∙ ap c (ap (rule N τ) s.is.first ∙ rule_grown g w l));
      })

  pub two_goes : (k : ℕ) (c : Rule N → Rule N → Rule N) → form k ≡ two c → {x y : ℕ} → x < states σ → y < states σ → ((xs : List ℕ) → MadeOf N σ.states.words k x y xs)
      → StepSpec N L (Is N (In (c (rule N σ x) (rule N σ y)))) σ (on_states (intern2 L k x y) σ)
  two_goes k c q {x} {y} l m made =
      goes_map (intern2_goes g k x y made l m (subst (λ (f : Form N). Fit f σ x y (max (nesting σ x) (nesting σ y) + 1)) (sym q) (l, m, refl))) (λ τ z w v s. record {
        state = s.state;
        strings = in_same (rule_is v k z s.state s.is.kind ∙ ap (λ (f : Form N). shape f τ (rule N τ) z) q
            ∙ ap₂ c (ap (rule N τ) s.is.first ∙ rule_grown g w l) (ap (rule N τ) s.is.second ∙ rule_grown g w m));
      })

  -- both are SPP
  pub both_spp : (x y : ℕ) → relations σ.states.words x y ≡ true → (kind σ x ≡ SPP) × (kind σ y ≡ SPP)
  both_spp x y e = let (p, q) = and_true (eqb (kind σ x) SPP) (eqb (kind σ y) SPP) e in (eqb-true (kind σ x) SPP p, eqb-true (kind σ y) SPP q)

  -- not both are of kind k, where that was tested
  pub not_both : (k x y : ℕ) → (eqb (kind σ x) k && eqb (kind σ y) k) ≡ false → NotBoth σ.states.words k x y
  not_both k x y q a b = and_false (eqb (kind σ x) k) (eqb (kind σ y) k) q (eq-eqb (kind σ x) k a) (eq-eqb (kind σ y) k b)

  module _ {x : ℕ} (l : x < states σ) where
    pub mk_complement_goes : StepSpec N L (Is N (Not (Holds N σ x))) σ (on_states (mk_complement N L x) σ)
    unfolding mk_complement form In
    mk_complement_goes =
        choose_in put_states σ (eqb (kind σ x) COMPLEMENT) _ _
        (λ q. let e : kind σ x ≡ COMPLEMENT = eqb-true (kind σ x) COMPLEMENT q in
        goes_return (first σ x) g (record { state = omega (arith, (ok_as g COMPLEMENT l e).earlier); strings = ≈-sym (not_same (holds_complement g l e) then not_not (rule N σ (first σ x))) }))
        (λ n. choose_in put_states σ (eqb (kind σ x) TOP) _ _
        (λ q. let s : Holds N σ x ≈ Whole = holds_top g l (eqb-true (kind σ x) TOP q) in
        goes_map (zero_goes g) (λ τ z w v i. is_same (λ u. (λ a. absurd a, λ n. n ((s u).1 tt))) i))
        (λ n'. one_goes COMPLEMENT complement refl l (λ xs. made_complement (eqb-false (kind σ x) COMPLEMENT n) (eqb-false (kind σ x) TOP n'))))

    pub mk_next_goes : StepSpec N L (Is N (Next (Holds N σ x))) σ (on_states (mk_next L x) σ)
    unfolding mk_next form In
    mk_next_goes = one_goes NEXT next refl l (λ xs. made_given (λ u. omega arith))

    pub mk_star_goes : StepSpec N L (Is N (Star (Holds N σ x))) σ (mk_star N L x σ)
    unfolding mk_star form In
    mk_star_goes =
        choose (eqb (kind σ x) STAR)
        (λ q. let e : kind σ x ≡ STAR = eqb-true (kind σ x) STAR q in
        let s : Holds N σ x ≈ Star (Holds N σ (first σ x)) = holds_star g l e in
        goes_return x g (record { state = l; strings = s then ≈-sym (star_star (Holds N σ (first σ x))) then ≈-sym (star_same s) }))
        (λ n. choose (eqb (kind σ x) SPP)
        (λ q. let e : kind σ x ≡ SPP = eqb-true (kind σ x) SPP q in
        goes_map (spp_of_goes g (Spp.star N (first σ x)) (star_made N σ.nodes g.nodes (first σ x) (handle g l e)))
        (λ τ z w v i. is_same (≈-sym (star_same (holds_spp g l e) then star_rel (Spp.pairs N σ.nodes (first σ x)) (closure (Spp.pairs N σ.nodes (first σ x))) (closure_steps N (Spp.pairs N σ.nodes (first σ x))))) i))
        (λ n'. choose (eqb (kind σ x) TOP)
        (λ q. let s : Holds N σ x ≈ Whole = holds_top g l (eqb-true (kind σ x) TOP q) in
        goes_map (mk_top_goes g) (λ τ z w v i. is_same (≈-sym star_whole then ≈-sym (star_same s)) i))
        (λ n''. one_goes STAR star refl l (λ xs. made_star (eqb-false (kind σ x) STAR n) (eqb-false (kind σ x) SPP n') (eqb-false (kind σ x) TOP n'')))))

  module _ {x y : ℕ} (l : x < states σ) (m : y < states σ) where
    pub mk_until_goes : StepSpec N L (Is N (Until (Holds N σ x) (Holds N σ y))) σ (on_states (mk_until L x y) σ)
    unfolding mk_until form In
    mk_until_goes = two_goes UNTIL until refl l m (λ xs. made_given (λ u. omega arith))

    pub mk_xor_goes : StepSpec N L (Is N (Differ (Holds N σ x) (Holds N σ y))) σ (mk_xor N L x y σ)
    unfolding mk_xor form In
    mk_xor_goes =
        choose (eqb x y)
        (λ q. let e : x ≡ y = eqb-true x y q in goes_map (zero_goes g) (λ τ z w v i. is_same (λ u. (λ a. absurd a, self e u)) i))
        (λ d. choose (relations σ.states.words x y)
        (λ q. let (a, b) = both_spp x y q in
        goes_map (spp_of_goes g (Spp.xor N (first σ x) (first σ y)) (xor_made N σ.nodes g.nodes (first σ x) (first σ y) (handle g l a) (handle g m b)))
        (λ τ z w v i. is_same (≈-sym (differ_same (holds_spp g l a) (holds_spp g m b) then differ_rel (Spp.pairs N σ.nodes (first σ x)) (Spp.pairs N σ.nodes (first σ y))
        then ≈-sym (rel_same (λ p q. xor_pairs (Spp.pairs N σ.nodes (first σ x) p q) (Spp.pairs N σ.nodes (first σ y) p q))))) i))
        (λ n. let f : NotBoth σ.states.words SPP x y = not_both SPP x y n in
        choose (ltb x y)
        (λ b. two_goes XOR xor refl l m (λ xs. made_xor (ltb-true x y b) f))
        (λ b. goes_map (two_goes XOR xor refl m l (λ xs. made_xor (omega (arith, eqb-false x y d, ltb-false x y b)) (λ a c. f c a))) (λ τ z w v i. is_same swap i))))
      where
        self : x ≡ y → (u : _) → Differ (Holds N σ x) (Holds N σ y) u → ⊥
        self e u (inl (a, n)) = n (subst (λ (k : ℕ). Holds N σ k u) e a)
        self e u (inr (a, n)) = n (subst (λ (k : ℕ). Holds N σ k u) (sym e) a)

        turn : {A B : Type 0} → A ⊎ B → B ⊎ A
        turn (inl a) = inr a
        turn (inr b) = inl b

        swap : Differ (Holds N σ y) (Holds N σ x) ≈ Differ (Holds N σ x) (Holds N σ y)
        swap u = (turn, turn)

    pub mk_difference_goes : StepSpec N L (Is N (Minus (Holds N σ x) (Holds N σ y))) σ (mk_difference N L x y σ)
    unfolding mk_difference form In
    mk_difference_goes =
        choose (eqb x y)
        (λ q. let e : x ≡ y = eqb-true x y q in
        goes_map (zero_goes g) (λ τ z w v i. is_same (λ u. (λ a. absurd a, λ (a, n). n (subst (λ (k : ℕ). Holds N σ k u) e a))) i))
        (λ d. choose (relations σ.states.words x y)
        (λ q. let (a, b) = both_spp x y q in
        goes_map (spp_of_goes g (Spp.difference N (first σ x) (first σ y)) (difference_made N σ.nodes g.nodes (first σ x) (first σ y) (handle g l a) (handle g m b)))
        (λ τ z w v i. is_same (≈-sym (minus_same (holds_spp g l a) (holds_spp g m b) then minus_rel (Spp.pairs N σ.nodes (first σ x)) (Spp.pairs N σ.nodes (first σ y)))) i))
        (λ n. two_goes DIFFERENCE difference refl l m (λ xs. made_difference (eqb-false x y d) (not_both SPP x y n))))
