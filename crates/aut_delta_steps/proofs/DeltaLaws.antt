-- 01, "Strings": delta: a string a,[h,..],z is in a state exactly if some transition's label relates a to h and h,[..],z is in its target. The law of `delta`: unless it is
-- refused, with its reason, it gives a list that is a delta of the state, with ascending targets, and stores it; what was worked out before stays, and all that is worked out is true.
-- Any depth of its calls from the nesting on does the same, so it is the Rust's function that calls itself.
use mathlib.Core.Path.{◌≡◌, refl, ◌∙◌, ap}
use mathlib.Core.List.{List, [], ◌∷◌, map}
use Prim.Native.Nat.{ℕ, zero, suc, ◌+◌, ◌-◌, ◌≤◌, ◌<◌}
use native.Mathlib.Omega.{arith}
use lib.Dec.{eqb, ltb}
use lib.ListN.{length, length-append}
use borrow.Author.Tests.{eqb-true, ltb-true, ltb-false}
use Rattle.common.specs.Outcome.{Step, return, ◌>>=◌, Gives}
use Rattle.netkat.specs.Strings.{str}
use Rattle.netkat.specs.Rules.{Language, union, intersection, xor, difference, complement, sequence, star, until, next}
use Rattle.netkat_steps.specs.ListSteps as ListSteps
use Rattle.netkat_steps.specs.ListSteps.{Edge, MadeList, IsList}
use Rattle.netkat.specs.Promise.{DeltaOf}
use Rattle.netkat_steps.proofs.ListSteps.{meaning_of, list_later, list_same, list_none, list_delta, xor_true, difference_true, complement_true}
use Rattle.spp_steps.proofs.Laws.{den_ext, by_test}
use Rattle.aut_steps.specs.Relations as Rel
use Rattle.aut_steps.specs.Tables.{SPP, UNION, INTERSECT, XOR, DIFFERENCE, COMPLEMENT, SEQUENCE, STAR, DUP, NEXT, UNTIL, TOP, Limits, Aut, on_nodes}
use Rattle.aut_steps.specs.Kinds.{form}
use Rattle.aut_steps.proofs.Languages.{≈-sym, ◌then◌, same, none_sum, Either, Minus, Differ, Not, join_same, until_same}
use Rattle.aut_steps.specs.Ascending.{All}
use Rattle.aut_steps.specs.Wf.{states, kind, first, second, nesting, members, WfAut}
use Rattle.aut_steps.proofs.Wf.{grown_trans, nesting_grown, state_grown}
use Rattle.aut_steps.specs.Meaning.{Holds}
use Rattle.aut_steps.proofs.Meaning.{HoldsSome, holds_grown, holds_spp, holds_union, holds_intersect, holds_xor, holds_difference, holds_complement, holds_sequence, holds_star, holds_dup, holds_next, holds_until, holds_top}
use Rattle.aut_steps.proofs.StateLaws.{nodes_goes}
use Rattle.aut_st_steps.specs.Operations.{ops}
use Rattle.aut_steps.proofs.StepSpec.{StepSpec}
use Rattle.aut_st_steps.specs.Edges.{EdgesAt}
use Rattle.aut_st_steps.proofs.Edges.{edges_grown}
use Rattle.aut_st_steps.specs.ListSpec.{ListAt}
use Rattle.aut_st_steps.proofs.ListSpec.{list_empty, st_xor_goes, st_difference_goes, st_complement_goes}
use Rattle.aut_delta_steps.proofs.ListGoes.{list_at_lem, empties, with_list_lem, union_all_goes, intersect_first_goes, sequence_list_goes, star_list_goes, until_list_goes, dup_list_goes, next_list_goes, top_list_goes}
use Rattle.aut_delta_steps.specs.Epsilon.{each_of, epsilon}
use Rattle.aut_delta_steps.specs.Delta.{start_of, count_of, Store, on_aut, room_t, list_at, keep_list, union_all, intersect_first, sequence_list, star_list, until_list, delta_by_kind, delta_with, delta_by, delta}
use Rattle.aut_delta_steps.proofs.Labels.{star_makes}
use Rattle.aut_delta_steps.specs.Fits.{tables}
use Rattle.aut_delta_steps.proofs.Fits.{since, list_as, since_refl, fits}
use Rattle.aut_delta_steps.proofs.Agree.{Agree, stop, come, agree_same, agree_bind, agree_map, agree_if, none, also, all2_map, all2_reads}
use Rattle.aut_delta_steps.specs.Wf.{WfStore}
use Rattle.aut_delta_steps.proofs.Wf.{later_grown}
use Rattle.aut_delta_steps.proofs.Operands.{Below, below_one, below_two, below_many, last_kind, no_kind}
use Rattle.aut_delta_steps.proofs.DeltaLists.{union_all_true, intersect_first_true, sequence_true, star_true, until_true, next_true, dup_true, top_true}
use Rattle.aut_delta_steps.specs.Extends.{ExtStore}
use Rattle.aut_delta_steps.proofs.Extends.{edges_length, went_refl, went_trans, before_refl, before_trans, stored_went, keeping_grown, keeping_stored, keeping_worked, keeping_before, keeping_went}
use Rattle.aut_delta_steps.proofs.DeltaRuns.{Halted, no_transitions, Listed, Deltaed, AskedList, AskedLists, DeltaCalls, halted_from, bind_agree, same_agree, list_step, goes_step, epsilon_step, list_went}

module _ {N : ℕ} {L : Limits} where
  -- ---- calls on operands

  module _ {σ : Store} (W : WfStore N L σ) {x : ℕ} (l : x < states σ.aut) {again other : ℕ → Step Store (List Edge)} (calls : DeltaCalls N L again other (nesting σ.aut x)) where
    ask : {τ : Store} → ExtStore σ τ → WfStore N L τ → {y : ℕ} → Below σ.aut x y → Agree (Halted N L τ) (AskedList N L σ x y τ) (again y τ) (other y τ)
    ask {τ} w q {y} b =
        agree_map (calls τ q y (state_grown w.grown b.state) (omega (arith, nesting_grown w.grown y b.state, b.lower))) (λ k h. h)
        (λ υ es a. record {
          went = a.listed.went;
          before = record { same = λ i m. a.listed.before.same i (omega (arith, b.earlier)) };
          worked = a.listed.worked;
          list = list_same (tables N L) (λ p h hs z. holds_grown W.good w.grown b.state (str p (h ∷ hs) z)) a.listed.list;
          short = a.listed.short;
          stored = a.stored;
        })

    pub ask_all : (ys : List ℕ) {τ : Store} → ExtStore σ τ → WfStore N L τ → All (Below σ.aut x) ys → Agree (Halted N L τ) (AskedLists N L σ x ys τ) (each_of again ys τ) (each_of other ys τ)
    unfolding each_of
    ask_all [] {τ} w q b = come (record { went = went_refl τ; before = before_refl x τ; worked = q; are = none; neat = empties; stored = none })
    ask_all (y ∷ ys) {τ} w q b =
        agree_bind (ask w q b.0) (λ k h. h) (λ υ es a.
        agree_bind (ask_all ys (went_trans w a.went) a.worked b.1) (λ k h. halted_from a.went k h) (λ ω lists c.
        come (record {
          went = went_trans a.went c.went;
          before = before_trans a.before c.before;
          worked = c.worked;
          are = also (list_went a.worked c.went c.worked a.list) c.are;
          neat = with_list_lem (record { edges = edges_grown c.went.grown (list_at_lem L a.list); short = a.short }) c.neat;
          stored = also (stored_went a.worked c.went (state_grown (grown_trans w.grown a.went.grown) b.0.state) a.stored) c.stored;
        })))

    -- ---- by the number of operands

    one_agree : (C : Language N → Language N) (op : List Edge → Step Aut (List Edge))
        → ((a : Aut) → WfAut N L a → (ts : List Edge) (A : Language N) → IsList (since N L a) A a ts → Gives (MadeList (since N L a) (C A) a) (op ts a))
        → ((a : Aut) → WfAut N L a → (ts : List Edge) → EdgesAt N a ts → StepSpec N L (ListAt N L) a (op ts a))
        → {a : ℕ} → Below σ.aut x a
        → Agree (Halted N L σ) (Listed N L x (C (Holds N σ.aut a)) σ) ((again a >>= λ ts. on_aut (op ts)) σ) ((other a >>= λ ts. on_aut (op ts)) σ)
    one_agree C op made end b =
        bind_agree (ask (went_refl σ) W b) (λ τ ts f. (
          f.went,
          f.before,
          list_step f.worked (made τ.aut f.worked.good ts _ (list_as L f.list)) (end τ.aut f.worked.good ts (list_at_lem L f.list)),
        ))

    two_agree : (C : Language N → Language N → Language N) (op : List Edge → List Edge → Step Aut (List Edge))
        → ((a : Aut) → WfAut N L a → (ts us : List Edge) (A B : Language N) → IsList (since N L a) A a ts → IsList (since N L a) B a us → Gives (MadeList (since N L a) (C A B) a) (op ts us a))
        → ((a : Aut) → WfAut N L a → (ts us : List Edge) → EdgesAt N a ts → EdgesAt N a us → StepSpec N L (ListAt N L) a (op ts us a))
        → {a b : ℕ} → Below σ.aut x a × Below σ.aut x b
        → Agree (Halted N L σ) (Listed N L x (C (Holds N σ.aut a) (Holds N σ.aut b)) σ) ((again a >>= λ ts. again b >>= λ us. on_aut (op ts us)) σ)
        ((other a >>= λ ts. other b >>= λ us. on_aut (op ts us)) σ)
    two_agree C op made end b =
        bind_agree (ask (went_refl σ) W b.0) (λ τ ts f. (
          f.went,
          f.before,
          bind_agree (ask f.went f.worked b.1) (λ υ us h. (
            h.went,
            h.before,
            let i = list_went f.worked h.went h.worked f.list in
                list_step h.worked (made υ.aut h.worked.good ts us _ _ (list_as L i) (list_as L h.list)) (end υ.aut h.worked.good ts us (list_at_lem L i) (list_at_lem L h.list)),
          )),
        ))

    -- ---- by kind

    abbrev g : WfAut N L σ.aut
    g = W.good

    union_agree : kind σ.aut x ≡ UNION → Agree (Halted N L σ) (Listed N L x (Holds N σ.aut x) σ)
        ((each_of again (members σ.aut x) >>= λ lists. on_aut (union_all N L lists [])) σ) ((each_of other (members σ.aut x) >>= λ lists. on_aut (union_all N L lists [])) σ)
    unfolding form
    union_agree e =
        same_agree (≈-sym (holds_union g l e))
        (bind_agree (ask_all (members σ.aut x) (went_refl σ) W (below_many g l UNION e union refl)) (λ τ lists f. (
          f.went,
          f.before,
          same_agree {A = Either (λ w. ⊥) (HoldsSome N σ.aut (members σ.aut x))} (λ w. none_sum (λ b. b))
              (list_step f.worked
              (union_all_true (Holds N σ.aut) (members σ.aut x) (since_refl f.worked.good) (list_none (since N L τ.aut)) (all2_map (λ y es i. list_as L i) f.are))
              (union_all_goes lists f.worked.good f.neat (list_empty τ.aut))),
        )))

    intersect_agree : kind σ.aut x ≡ INTERSECT → Agree (Halted N L σ) (Listed N L x (Holds N σ.aut x) σ)
        ((each_of again (members σ.aut x) >>= λ lists. on_aut (intersect_first N L lists)) σ) ((each_of other (members σ.aut x) >>= λ lists. on_aut (intersect_first N L lists)) σ)
    unfolding form
    intersect_agree e =
        same_agree (≈-sym (holds_intersect g l e))
        (bind_agree (ask_all (members σ.aut x) (went_refl σ) W (below_many g l INTERSECT e intersection refl)) (λ τ lists f. (
          f.went,
          f.before,
          list_step f.worked
              (intersect_first_true (Holds N σ.aut) (members σ.aut x) (since_refl f.worked.good) some (all2_map (λ y es i. list_as L i) f.are))
              (intersect_first_goes lists f.worked.good f.neat),
        )))
      where
        some : 1 ≤ length (members σ.aut x)
        some = let m = g.intersects x l e in omega (arith, ap length m.parts, length-append m.others m.last, m.some)

    sequence_agree : kind σ.aut x ≡ SEQUENCE → Agree (Halted N L σ) (Listed N L x (Holds N σ.aut x) σ)
        ((on_aut (epsilon N (first σ.aut x)) >>= λ ε. again (first σ.aut x) >>= λ ts. again (second σ.aut x) >>= λ us. on_aut (sequence_list N L (second σ.aut x) ε ts us)) σ)
        ((on_aut (epsilon N (first σ.aut x)) >>= λ ε. other (first σ.aut x) >>= λ ts. other (second σ.aut x) >>= λ us. on_aut (sequence_list N L (second σ.aut x) ε ts us)) σ)
    unfolding form
    sequence_agree e =
        let (b1, b2) = below_two g l SEQUENCE e sequence refl in
        bind_agree (epsilon_step W b1.state) (λ τ₁ ε c. (
          c.went,
          record { same = λ i m. c.same i },
          bind_agree (ask c.went c.worked b1) (λ τ₂ ts f. (
            f.went,
            f.before,
            let w₂ = went_trans c.went f.went in
                bind_agree (ask w₂ f.worked b2) (λ τ₃ us h. (
                  h.went,
                  h.before,
                  let w₃ = went_trans w₂ h.went in
                      let d = den_ext (went_trans f.went h.went).grown.nodes c.holds.den in
                      let k = state_grown w₃.grown b2.state in
                      let s = holds_grown g w₃.grown b2.state in
                      let i = list_went f.worked h.went h.worked f.list in
                      let j = list_same (tables N L) (λ p u hs z. ≈-sym s (str p (u ∷ hs) z)) h.list in
                      same_agree (join_same (λ w. same) s then ≈-sym (holds_sequence g l e))
                      (list_step h.worked (sequence_true (since_refl h.worked.good) k d c.holds.is (list_as L i) (list_as L j))
                      (sequence_list_goes h.worked.good k (record { at = d.at }) (list_at_lem L i) (list_at_lem L j))),
                )),
          )),
        ))

    star_agree : kind σ.aut x ≡ STAR → Agree (Halted N L σ) (Listed N L x (Holds N σ.aut x) σ)
        ((on_aut (epsilon N (first σ.aut x)) >>= λ ε. on_aut (on_nodes (Rel.star N ε)) >>= λ ε*. again (first σ.aut x) >>= λ ts. on_aut (star_list N L x ε* ts)) σ)
        ((on_aut (epsilon N (first σ.aut x)) >>= λ ε. on_aut (on_nodes (Rel.star N ε)) >>= λ ε*. other (first σ.aut x) >>= λ ts. on_aut (star_list N L x ε* ts)) σ)
    unfolding form
    star_agree e =
        let b = below_one g l STAR e star refl in
        bind_agree (epsilon_step W b.state) (λ τ₁ ε c. (
          c.went,
          record { same = λ i m. c.same i },
          bind_agree (goes_step c.worked (nodes_goes c.worked.good (star_makes c.worked.good.nodes c.holds.den))) (λ τ₂ ε* d. (
            d.went,
            record { same = λ i m. d.same i },
            let w₂ = went_trans c.went d.went in
                bind_agree (ask w₂ d.worked b) (λ τ₃ ts f. (
                  f.went,
                  f.before,
                  let w₃ = went_trans w₂ f.went in
                      let h = den_ext f.went.grown.nodes d.holds in
                      let k = state_grown w₃.grown l in
                      let s = holds_star g l e in
                      same_agree (≈-sym s)
                      (list_step f.worked (star_true (since_refl f.worked.good) k (holds_grown g w₃.grown l then s) h c.holds.is (list_as L f.list))
                      (star_list_goes f.worked.good k (record { at = h.at }) (list_at_lem L f.list))),
                )),
          )),
        ))

    until_agree : kind σ.aut x ≡ UNTIL → Agree (Halted N L σ) (Listed N L x (Holds N σ.aut x) σ)
        ((again (first σ.aut x) >>= λ ts. again (second σ.aut x) >>= λ us. on_aut (until_list N L (first σ.aut x) (second σ.aut x) ts us)) σ)
        ((other (first σ.aut x) >>= λ ts. other (second σ.aut x) >>= λ us. on_aut (until_list N L (first σ.aut x) (second σ.aut x) ts us)) σ)
    unfolding form
    until_agree e =
        let (b1, b2) = below_two g l UNTIL e until refl in
        bind_agree (ask (went_refl σ) W b1) (λ τ₁ ts f. (
          f.went,
          f.before,
          bind_agree (ask f.went f.worked b2) (λ τ₂ us h. (
            h.went,
            h.before,
            let w₂ = went_trans f.went h.went in
                let s1 = holds_grown g w₂.grown b1.state in
                let s2 = holds_grown g w₂.grown b2.state in
                let k1 = state_grown w₂.grown b1.state in
                let k2 = state_grown w₂.grown b2.state in
                let i = list_same (tables N L) (λ p u hs z. ≈-sym s1 (str p (u ∷ hs) z)) (list_went f.worked h.went h.worked f.list) in
                let j = list_same (tables N L) (λ p u hs z. ≈-sym s2 (str p (u ∷ hs) z)) h.list in
                same_agree (until_same s1 s2 then ≈-sym (holds_until g l e))
                (list_step h.worked (until_true (since_refl h.worked.good) k1 k2 (list_as L i) (list_as L j))
                (until_list_goes h.worked.good k1 k2 (list_at_lem L i) (list_at_lem L j))),
          )),
        ))

    kind_agree : Agree (Halted N L σ) (Listed N L x (Holds N σ.aut x) σ) (delta_by_kind N L again x σ) (delta_by_kind N L other x σ)
    unfolding delta_by_kind form
    kind_agree =
        let k : ℕ = kind σ.aut x in
        agree_if (eqb k SPP)
        (λ q. let s = holds_spp g l (eqb-true k SPP q) in
        come (record {
          went = went_refl σ;
          before = before_refl x σ;
          worked = W;
          list = list_same (tables N L) (λ p h hs z. (λ b. absurd b, λ b. absurd (omega (arith, ap length ((s (str p (h ∷ hs) z)).0 b).0)))) (list_none (tables N L));
          short = omega arith;
        }))
        (λ n1. agree_if (eqb k UNION) (λ q. union_agree (eqb-true k UNION q))
        (λ n2. agree_if (eqb k INTERSECT) (λ q. intersect_agree (eqb-true k INTERSECT q))
        (λ n3. agree_if (eqb k XOR)
        (λ q. let e : k ≡ XOR = eqb-true k XOR q in
        same_agree (≈-sym (holds_xor g l e))
        (two_agree Differ (ListSteps.st_xor (ops N L)) (λ a v ts us A B i j. xor_true (since N L a) fits (since_refl v) i j) (λ a v ts us t u. st_xor_goes v t u) (below_two g l XOR e xor refl)))
        (λ n4. agree_if (eqb k DIFFERENCE)
        (λ q. let e : k ≡ DIFFERENCE = eqb-true k DIFFERENCE q in
        same_agree (≈-sym (holds_difference g l e))
        (two_agree Minus (ListSteps.st_difference (ops N L)) (λ a v ts us A B i j. difference_true (since N L a) fits (since_refl v) i j) (λ a v ts us t u. st_difference_goes v t u) (below_two g l DIFFERENCE e difference refl)))
        (λ n5. agree_if (eqb k COMPLEMENT)
        (λ q. let e : k ≡ COMPLEMENT = eqb-true k COMPLEMENT q in
        same_agree (≈-sym (holds_complement g l e))
        (one_agree Not (ListSteps.st_complement (ops N L)) (λ a v ts A i. complement_true (since N L a) fits a (since_refl v) i) (λ a v ts t. st_complement_goes v t) (below_one g l COMPLEMENT e complement refl)))
        (λ n6. agree_if (eqb k SEQUENCE) (λ q. sequence_agree (eqb-true k SEQUENCE q))
        (λ n7. agree_if (eqb k STAR) (λ q. star_agree (eqb-true k STAR q))
        (λ n8. agree_if (eqb k DUP) (λ q. same_agree (≈-sym (holds_dup g l (eqb-true k DUP q))) (list_step W (dup_true (since_refl g)) (dup_list_goes g W.lists.some)))
        (λ n9. agree_if (eqb k NEXT)
        (λ q. let e : k ≡ NEXT = eqb-true k NEXT q in
        let b = below_one g l NEXT e next refl in
        same_agree (≈-sym (holds_next g l e)) (list_step W (next_true (since_refl g) b.state) (next_list_goes g W.lists.some b.state)))
        (λ n10. agree_if (eqb k UNTIL) (λ q. until_agree (eqb-true k UNTIL q))
        (λ n11. by_test (eqb k TOP)
        (λ q. same_agree (≈-sym (holds_top g l (eqb-true k TOP q))) (list_step W (top_true (since_refl g)) (top_list_goes g W.lists.some)))
        (λ n12. absurd (last_kind g l (no_kind k n1 n2 n3 n4 n5 n6 n7 n8 n9 n10 n11 n12))))))))))))))

    -- the finished list is stored
    kept_agree : count_of σ.aut.states.words x ≡ 0 → (τ : Store) (es : List Edge) → Listed N L x (Holds N σ.aut x) σ τ es → Agree (Halted N L σ) (Deltaed N L x σ) (keep_list x es τ) (keep_list x es τ)
    unfolding keep_list
    kept_agree z τ es f =
        let m : x < states τ.aut = state_grown f.went.grown l in
        let i = list_same (tables N L) (λ p h hs z. ≈-sym (holds_grown g f.went.grown l) (str p (h ∷ hs) z)) f.list in
        agree_if (room_t τ.transitions (length es))
        (λ q. let w = keeping_worked f.worked m es q ((f.before.same x (omega arith)).0 ∙ z) i f.short in
        come (record {
          listed = record {
            went = keeping_went f.worked m es q f.went z;
            before = keeping_before f.worked m es q f.before;
            worked = w;
            list = list_later (tables N L) (later_grown f.worked.good (keeping_grown f.worked m es q) w.good) f.list;
            short = f.short;
          };
          stored = keeping_stored f.worked m es q;
        }))
        (λ n. stop (record { last = τ; grown = f.went.grown; transitions = f.went.transitions; good = f.worked.good; why = no_transitions es (list_at_lem L f.list) n }))

    short_list : 0 < count_of σ.aut.states.words x → length (list_at σ x) ≤ L.transitions
    unfolding list_at
    short_list c = omega (arith, edges_length σ.transitions.words (start_of σ.aut.states.words x) (count_of σ.aut.states.words x - 1), (W.lists.held x l).short)

    pub delta_with_agree : Agree (Halted N L σ) (Deltaed N L x σ) (delta_with N L again x σ) (delta_with N L other x σ)
    unfolding delta_with
    delta_with_agree =
        agree_if (ltb 0 (count_of σ.aut.states.words x))
        (λ q. let c : 0 < count_of σ.aut.states.words x = ltb-true 0 (count_of σ.aut.states.words x) q in
        come (record {
          listed = record { went = went_refl σ; before = before_refl (x + 1) σ; worked = W; list = (W.lists.held x l).list c; short = short_list c };
          stored = record { marked = c; reads = refl };
        }))
        (λ z. agree_bind kind_agree (λ k h. h) (kept_agree (omega (arith, ltb-false 0 (count_of σ.aut.states.words x) z))))

  -- ---- every depth that is enough

  by_agree : (depth more : ℕ) {σ : Store} → WfStore N L σ → {x : ℕ} → x < states σ.aut → nesting σ.aut x ≤ depth → nesting σ.aut x ≤ more
      → Agree (Halted N L σ) (Deltaed N L x σ) (delta_by N L depth x σ) (delta_by N L more x σ)
  unfolding delta_by
  by_agree zero zero W l d e = delta_with_agree W l {again = λ y. return []} {other = λ y. return []} (λ τ q y m k. absurd (omega arith))
  by_agree zero (suc more) W l d e = delta_with_agree W l {again = λ y. return []} {other = delta_by N L more} (λ τ q y m k. absurd (omega arith))
  by_agree (suc depth) zero W l d e = delta_with_agree W l {again = delta_by N L depth} {other = λ y. return []} (λ τ q y m k. absurd (omega arith))
  by_agree (suc depth) (suc more) W l d e =
      delta_with_agree W l {again = delta_by N L depth} {other = delta_by N L more} (λ τ q y m k. by_agree depth more q m (omega arith) (omega arith))

  module _ {σ : Store} (W : WfStore N L σ) {x : ℕ} (l : x < states σ.aut) where
    pub delta_goes : Agree (Halted N L σ) (Deltaed N L x σ) (delta N L x σ) (delta N L x σ)
    unfolding delta
    delta_goes = by_agree (nesting σ.aut x) (nesting σ.aut x) W l (omega arith) (omega arith)

    pub delta_depth : (depth : ℕ) → nesting σ.aut x ≤ depth → delta_by N L depth x σ ≡ delta N L x σ
    unfolding delta
    delta_depth depth d = agree_same (by_agree depth (nesting σ.aut x) W l d (omega arith))

    -- it is the Rust's: the operands go to delta again
    pub delta_is : delta N L x σ ≡ delta_with N L (delta N L) x σ
    unfolding delta delta_by
    delta_is =
        agree_same (by_agree (nesting σ.aut x) (suc (nesting σ.aut x)) W l (omega arith) (omega arith))
        ∙ agree_same (delta_with_agree W l {again = delta_by N L (nesting σ.aut x)} {other = delta N L} (λ τ q y m k. by_agree (nesting σ.aut x) (nesting τ.aut y) q m (omega arith) (omega arith)))

    -- in the tables that it gives, the list is a delta of the state, as the plain search asks it
    pub delta_list : {τ : Store} {es : List Edge} → Deltaed N L x σ τ es → IsList (tables N L) (Holds N τ.aut x) τ.aut es
    delta_list d = list_same (tables N L) (λ p h hs z. ≈-sym (holds_grown W.good d.listed.went.grown l) (str p (h ∷ hs) z)) d.listed.list

    pub delta_of : {τ : Store} {es : List Edge} (d : Deltaed N L x σ τ es) → DeltaOf (meaning_of (tables N L)) τ.aut x (delta_list d).list
    delta_of d = list_delta (tables N L) x (delta_list d)

  -- delta on operands of a state, whatever its nesting
  pub delta_calls : (depth : ℕ) → DeltaCalls N L (delta N L) (delta N L) depth
  delta_calls depth τ W y m k = delta_goes W m

  -- what is read of the members afterwards are their lists
  pub lists_read : {σ τ υ : Store} {x : ℕ} {ys : List ℕ} {lists : List (List Edge)} → AskedLists N L σ x ys τ υ lists → map (list_at υ) ys ≡ lists
  lists_read {υ = υ} a = all2_reads (list_at υ) (all2_map (λ y es s. s.reads) a.stored)
