-- Each kind's list is what `together` gives for it, by the rule for a run of calls (aut_stage).
use mathlib.Core.Path.{◌≡◌, refl, sym, ◌∙◌, ap, ap₂, subst}
use mathlib.Core.List.{List, []}
use Prim.Native.Nat.{ℕ, ◌+◌, ◌*◌, ◌≤◌, ◌<◌}
use native.Mathlib.Omega.{arith}
use lib.ListN.{length}
use Rattle.std.specs.Prelude.{Result, Ok, Err}
use Rattle.common.specs.Outcome.{given, Step, after}
use Rattle.netkat_steps.specs.ListSteps as St
use Rattle.netkat_steps.specs.ListSteps.{Edge}
use Rattle.refusal.specs.declared.Refusal.{Refusal}
use Rattle.spp.specs.declared.SPP.{SPP as Handle}
use Rattle.aut_steps.specs.Relations as Rel
use Rattle.aut_steps.proofs.RelationLaws.{star_made}
use Rattle.aut_steps.specs.Tables.{SPP, UNION, INTERSECT, XOR, DIFFERENCE, COMPLEMENT, SEQUENCE, STAR, DUP, NEXT, UNTIL, TOP, kind_of, op1, op2, words, Aut, on_nodes}
use Rattle.aut_steps.specs.Ascending.{All}
use Rattle.aut_steps.proofs.ListLaws.{all_map}
use Rattle.aut_steps.proofs.Wf.{state_grown}
use Rattle.aut_steps.proofs.StepSpec.{goes_map}
use Rattle.aut_steps.proofs.StateLaws.{nodes_goes}
use Rattle.aut_st_steps.specs.Operations.{ops}
use Rattle.aut_st_steps.specs.Edges.{edges}
use Rattle.aut_st_steps.proofs.Edges.{edges_grown}
use Rattle.aut_st_steps.specs.ListSpec.{ListAt, Label}
use Rattle.aut_st_steps.proofs.ListSpec.{list_empty}
use Rattle.aut_delta_steps.specs.Epsilon.{value_of}
use Rattle.aut_delta_steps.specs.Delta.{list_at, union_all, intersect_first, sequence_list, star_list, until_list, dup_list, top_list}
use Rattle.aut_delta_steps.specs.DeltaReads.{together_with}
use Rattle.aut_delta_steps.specs.EpsilonDown.{Known}
use Rattle.aut_states.specs.Clauses.{limits_of}
use Rattle.aut_states.specs.declared.Config.{Config}
use Rattle.aut_relations.specs.declared.Aut.{Aut as Lent}
use Rattle.aut_relations.specs.declared.Transitions.{Transitions}
use Rattle.aut_relations.specs.Lent.{nodes_in, aut_in, KeepsExprs, Does, Asked, Handles}
use Rattle.aut_relations.proofs.Order.{backed_of}
use Rattle.aut_sequence.specs.Clauses.{task_of}
use Rattle.aut_sequence.specs.declared.Task.TheVariants as task
use Rattle.aut_stage.specs.Rule.{Laws, Stage}
use Rattle.aut_stage.proofs.Rule.{Inside, begin, next, stuck, finish, done, all_of}
use Rattle.aut_stage.specs.OnLent.{lent_layer, Goes}
use Rattle.aut_stage.proofs.OnLent.{lent_laws, related, asked_after}
use Rattle.aut_st_insert.specs.Clauses.{RESULT, GoesList}
use Rattle.aut_st_source.specs.declared.Source.{Source}
use Rattle.aut_st_source.specs.declared.Span.{Span}
use Rattle.aut_st_source.specs.Clauses.{stored, Walked, source_of}
use Rattle.aut_st_source.specs.Stored.{PreFind, PostFind}
use Rattle.aut_delta_lists.specs.Asked.{TwoAsked}
use Rattle.aut_delta_lists.specs.Asked.{OneAsked}
use Rattle.aut_delta_stage.specs.OnTables.{store_in}
use Rattle.aut_delta_many.specs.Clauses.{lists_at}
use Rattle.aut_delta_many.specs.Asked.{ManyAsked}
use Rattle.aut_delta_many.proofs.Lists.{found_is}
use Rattle.aut_delta_lists.specs.Asked.{SequenceAsked, StarAsked, UntilAsked, AloneAsked}
use Rattle.aut_delta_lists.proofs.Alone.{lent_asked}
use Rattle.aut_delta_kinds.specs.Clauses.{TogetherAsked, together_of, Two}
use Rattle.aut_delta_kinds.proofs.Operands as operands

part : Inside 0 1088 0 832
part = record { from = omega arith; to = omega arith }

no_list : Inside 0 1088 0 0
no_list = record { from = omega arith; to = omega arith }

none_at : (s : List ℕ) → edges s RESULT 0 ≡ []
unfolding edges
none_at s = refl

module _ {k : Config} {x : Lent} {i : ℕ} (R : TogetherAsked k x i) where
  abbrev N : ℕ
  N = k.fields

  W : Laws (lent_layer N k.limits)
  W = lent_laws N k.limits

  abbrev σ : Aut
  σ = aut_in x

  abbrev st : List ℕ
  st = x.states.words.now

  abbrev tr : List ℕ
  tr = x.transitions.words.now

  abbrev v : ℕ → List Edge
  v = list_at (store_in x)

  abbrev whole : Step Aut (List Edge)
  whole = together_of N k.limits (store_in x) i

  abbrev Gives : ℕ → Step Aut (List Edge) → Result ℕ Refusal → Lent → Type 0
  Gives n o r y = Goes k 0 n (ListAt N (limits_of k.limits)) (λ m. edges y.scratch.now RESULT m) o x r y

  pub asked : Asked k x
  asked = record { fields = R.fields; ready = R.ready.prepared.ready }

  pub alone_ready : AloneAsked k x
  alone_ready = lent_asked asked R.ready.prepared.worked.lists.some

  -- the whole is one call
  gives : {n : ℕ} (o : Step Aut (List Edge)) → Inside 0 1088 0 n → whole σ ≡ o σ → {r : Result ℕ Refusal} {y : Lent} → Gives n o r y → Gives 1088 whole r y
  gives o j e {r} g = record { post = finish W 0 1088 (begin W 0 1088 asked.ready e) r g.post j }

  -- with its words in variables
  module _ {a b : ℕ} (pa : a ≡ op1 st i) (pb : b ≡ op2 st i) where
    abbrev ys : List ℕ
    ys = words x.members.words.now a b

    at_kind : (q : ℕ) → kind_of st i ≡ q → whole σ ≡ together_with N (limits_of k.limits) v (value_of st a) q i ys a b σ
    at_kind q e =
        ap (λ (q : ℕ). together_with N (limits_of k.limits) v (value_of st (op1 st i)) q i (words x.members.words.now (op1 st i) (op2 st i)) (op1 st i) (op2 st i) σ) e
        ∙ ap₂ (λ (a b : ℕ). together_with N (limits_of k.limits) v (value_of st a) q i (words x.members.words.now a b) a b σ) (sym pa) (sym pb)

    -- ---- no list

    pub of_spp : kind_of st i ≡ SPP → Gives 1088 whole (Ok 0) x
    unfolding together_with
    of_spp e = record {
      post = done W 0 1088 {see = λ (m : ℕ). edges x.scratch.now RESULT m} {v = 0} (begin W 0 1088 asked.ready (at_kind SPP e ∙ ap (given σ) (sym (none_at x.scratch.now))))
          (subst (ListAt N (limits_of k.limits) σ) (sym (none_at x.scratch.now)) (list_empty σ));
    }

    module _ {r : Result ℕ Refusal} {y : Lent} where
      pub of_dup : kind_of st i ≡ DUP → Gives 832 (dup_list N (limits_of k.limits)) r y → Gives 1088 whole r y
      unfolding together_with
      of_dup e g = gives (dup_list N (limits_of k.limits)) part (at_kind DUP e) g

      pub of_top : kind_of st i ≡ TOP → Gives 832 (top_list N (limits_of k.limits)) r y → Gives 1088 whole r y
      unfolding together_with
      of_top e g = gives (top_list N (limits_of k.limits)) part (at_kind TOP e) g

      pub of_next : kind_of st i ≡ NEXT → Gives 832 (St.st_singleton (ops N (limits_of k.limits)) (Rel.top_at N) a) r y → Gives 1088 whole r y
      unfolding together_with
      of_next e g = gives (St.st_singleton (ops N (limits_of k.limits)) (Rel.top_at N) a) part (at_kind NEXT e) g

      -- ---- the members' lists

      pub of_union : kind_of st i ≡ UNION → Gives 1088 (union_all N (limits_of k.limits) (lists_at (store_in x) a b) []) r y → Gives 1088 whole r y
      unfolding together_with
      of_union e g = gives (union_all N (limits_of k.limits) (lists_at (store_in x) a b) []) (all_of 0 1088) (at_kind UNION e) g

      pub of_intersect : kind_of st i ≡ INTERSECT → Gives 1088 (intersect_first N (limits_of k.limits) (lists_at (store_in x) a b)) r y → Gives 1088 whole r y
      unfolding together_with
      of_intersect e g = gives (intersect_first N (limits_of k.limits) (lists_at (store_in x) a b)) (all_of 0 1088) (at_kind INTERSECT e) g

    many_ready : All (operands.Operand R.ready) ys → (1 ≤ b) × (a + b ≤ x.members.count) → ManyAsked k x a b
    many_ready p q = record {
      fields = R.fields;
      prepared = R.ready.prepared;
      limit = R.ready.limit;
      some = q.0;
      inside = q.1;
      states = all_map ys (λ y h. h.0) p;
      lists = all_map ys (λ y h. h.1) p;
    }

    pub union_ready : kind_of st i ≡ UNION → ManyAsked k x a b
    union_ready e = many_ready (operands.union_members R.ready pa pb e) (operands.union_some R.ready pa pb e)

    pub intersect_ready : kind_of st i ≡ INTERSECT → ManyAsked k x a b
    intersect_ready e = many_ready (operands.intersect_members R.ready pa pb e) (operands.intersect_some R.ready pa pb e)

    pub next_ready : kind_of st i ≡ NEXT → AloneAsked k x × (a < x.states.count)
    next_ready e = (alone_ready, operands.next_operand R.ready pa pb e)

    -- ---- one list

    -- u is the list that is found
    module _ {d : Span} (q : PostFind st a d) (e : kind_of st i ≡ COMPLEMENT) {u : Source} (is-list : u ≡ stored d.start d.count) where
      pub complement_ready : OneAsked k x u
      complement_ready = subst (OneAsked k x) (sym is-list) (record { asked = asked; limit = R.ready.limit; walked = operands.walked R.ready (operands.complement_operand R.ready pa pb e) q })

      pub of_complement : {r : Result ℕ Refusal} {y : Lent} → Gives 832 (St.st_complement (ops N (limits_of k.limits)) (source_of u tr x.scratch.now)) r y → Gives 1088 whole r y
      unfolding together_with
      of_complement {r} {y} g =
          gives (St.st_complement (ops N (limits_of k.limits)) (edges tr d.start d.count)) part (at_kind COMPLEMENT e ∙ ap (λ (es : List Edge). St.st_complement (ops N (limits_of k.limits)) es σ) (found_is (store_in x) q))
          (subst (λ (u : Source). Gives 832 (St.st_complement (ops N (limits_of k.limits)) (source_of u tr x.scratch.now)) r y) is-list g)

    -- ---- two lists

    module _ {d1 d2 : Span} (q1 : PostFind st a d1) (q2 : PostFind st b d2) where
      abbrev ts : List Edge
      ts = edges tr d1.start d1.count

      abbrev us : List Edge
      us = edges tr d2.start d2.count

      lists_are : (o : List Edge → List Edge → Step Aut (List Edge)) → o (v a) (v b) σ ≡ o ts us σ
      lists_are o = ap₂ (λ (xs ys : List Edge). o xs ys σ) (found_is (store_in x) q1) (found_is (store_in x) q2)

      module _ {r : Result ℕ Refusal} {y : Lent} where
        pub of_xor : kind_of st i ≡ XOR → Gives 1088 (St.st_xor (ops N (limits_of k.limits)) ts us) r y → Gives 1088 whole r y
        unfolding together_with
        of_xor e g = gives (St.st_xor (ops N (limits_of k.limits)) ts us) (all_of 0 1088) (at_kind XOR e ∙ lists_are (St.st_xor (ops N (limits_of k.limits)))) g

        pub of_difference : kind_of st i ≡ DIFFERENCE → {u v : Source} → u ≡ stored d1.start d1.count → v ≡ stored d2.start d2.count
            → Gives 832 (St.st_difference (ops N (limits_of k.limits)) (source_of u tr x.scratch.now) (source_of v tr x.scratch.now)) r y → Gives 1088 whole r y
        unfolding together_with
        of_difference e {u} {v} is-first is-second g =
            gives (St.st_difference (ops N (limits_of k.limits)) ts us) part (at_kind DIFFERENCE e ∙ lists_are (St.st_difference (ops N (limits_of k.limits))))
            (subst (λ (w : Source). Gives 832 (St.st_difference (ops N (limits_of k.limits)) ts (source_of w tr x.scratch.now)) r y) is-second
            (subst (λ (w : Source). Gives 832 (St.st_difference (ops N (limits_of k.limits)) (source_of w tr x.scratch.now) (source_of v tr x.scratch.now)) r y) is-first g))

        pub of_until : kind_of st i ≡ UNTIL → Gives 1088 (until_list N (limits_of k.limits) a b ts us) r y → Gives 1088 whole r y
        unfolding together_with
        of_until e g = gives (until_list N (limits_of k.limits) a b ts us) (all_of 0 1088) (at_kind UNTIL e ∙ lists_are (until_list N (limits_of k.limits) a b)) g

        pub of_sequence : {h : ℕ} → value_of st a ≡ h → kind_of st i ≡ SEQUENCE → Gives 1088 (sequence_list N (limits_of k.limits) b h ts us) r y → Gives 1088 whole r y
        unfolding together_with
        of_sequence {h} w e g =
            gives (sequence_list N (limits_of k.limits) b h ts us) (all_of 0 1088)
            (at_kind SEQUENCE e ∙ lists_are (sequence_list N (limits_of k.limits) b (value_of st a)) ∙ ap (λ (h : ℕ). sequence_list N (limits_of k.limits) b h ts us σ) w) g

      module _ (t : Two (kind_of st i)) where
        p : operands.Operand R.ready a × operands.Operand R.ready b
        p = operands.two_operands R.ready pa pb t

        pub two_ready : TwoAsked k x (stored d1.start d1.count) (stored d2.start d2.count)
        two_ready = record { first = record { asked = asked; limit = R.ready.limit; walked = operands.walked R.ready p.0 q1 }; second = operands.walked R.ready p.1 q2 }

        pub difference_ready : {u v : Source} → u ≡ stored d1.start d1.count → v ≡ stored d2.start d2.count → TwoAsked k x u v
        difference_ready {v = v} is-first is-second = subst (λ (w : Source). TwoAsked k x w v) (sym is-first) (subst (λ (w : Source). TwoAsked k x (stored d1.start d1.count) w) (sym is-second) two_ready)

        pub until_ready : UntilAsked k x a b d1 d2
        until_ready = record { asked = asked; limit = R.ready.limit; first = operands.walked R.ready p.0 q1; second = operands.walked R.ready p.1 q2; left = p.0.0; right = p.1.0 }

        module _ (e : kind_of st i ≡ SEQUENCE) where
          pub sequence_value : (12 * a + 11 < length st) × Known st a
          sequence_value = operands.value_ask R.ready pa pb (omega (arith, e)) (omega (arith, e)) p.0

          pub sequence_ready : {h : ℕ} → value_of st a ≡ h → SequenceAsked k x b h d1 d2
          sequence_ready w = record {
            asked = asked;
            limit = R.ready.limit;
            first = operands.walked R.ready p.0 q1;
            second = operands.walked R.ready p.1 q2;
            state = p.1.0;
            label = operands.epsilon_label R.ready pa pb (omega (arith, e)) (omega (arith, e)) p.0 w;
          }

  -- ---- a Star

  module _ (e : kind_of st i ≡ STAR) {a : ℕ} (pa : a ≡ op1 st i) where
    star_has : operands.Operand R.ready a
    star_has = operands.star_operand R.ready pa refl e

    pub star_ask : PreFind st a
    star_ask = operands.find_ready R.ready star_has

    pub star_value : (12 * a + 11 < length st) × Known st a
    star_value = operands.value_ask R.ready pa refl (omega (arith, e)) (omega (arith, e)) star_has

    module _ {d : Span} (q : PostFind st a d) {c : ℕ} (w : value_of st a ≡ c) where
      at_c : Label N σ c
      at_c = operands.epsilon_label R.ready pa refl (omega (arith, e)) (omega (arith, e)) star_has w

      pub relate_ready : Handles N x c c
      relate_ready = record { fields = R.fields; backed = backed_of asked.ready; at_a = at_c.at; at_b = at_c.at }

      abbrev then_list : ℕ → Step Aut (List Edge)
      then_list h = star_list N (limits_of k.limits) i h (edges tr d.start d.count)

      star_0 : Stage (lent_layer N k.limits) 0 1088 (whole σ) (after (on_nodes (Rel.star N c) σ) then_list) σ σ x.scratch.now x.scratch.now
      unfolding together_with
      star_0 = begin W 0 1088 asked.ready
          (at_kind pa refl STAR e ∙ ap₂ (λ (c : ℕ) (es : List Edge). after (on_nodes (Rel.star N c) σ) (λ h. star_list N (limits_of k.limits) i h es)) w (found_is (store_in x) q))

      module _ {y : Lent} (K : KeepsExprs x y) where
        -- what `relate` answers
        abbrev Relates : Result Handle Refusal → Type 0
        Relates r = Does N 0 0 nodes_in (λ h. h.0) (task_of N task.Star c c) x r y

        starred : {r : Result Handle Refusal} → Relates r → Goes k 0 0 (Label N) (λ (h : Handle). h.0) (on_nodes (Rel.star N c)) x r y
        starred D = related asked K (goes_map (nodes_goes asked.ready.good (star_made N (nodes_in x) asked.ready.good.nodes c at_c.at)) (λ τ h w v j. record { at = j.at })) D

        pub star_stuck : {f : Refusal} {r : Result ℕ Refusal} → r ≡ Err f → Relates (Err f) → Gives 1088 whole r y
        star_stuck {f} {r} z D = subst (λ (r : Result ℕ Refusal). Gives 1088 whole r y) (sym z) (record { post = stuck W 0 1088 (starred D).post then_list star_0 })

        module _ {h : Handle} (D : Relates (Ok h)) where
          star_1 : Stage (lent_layer N k.limits) 0 1088 (whole σ) (then_list h.0 (aut_in y)) σ (aut_in y) x.scratch.now y.scratch.now
          star_1 = next W 0 1088 (starred D).post no_list then_list star_0

          pub star_ready : StarAsked k y i h.0 d
          star_ready =
              let g = (starred D).post.then in
              let u = operands.walked R.ready star_has q in
              record {
                asked = asked_after asked K.spp (starred D);
                limit = R.ready.limit;
                list = subst (λ (t : Transitions). Walked N (aut_in y) t.words.now y.scratch.now (stored d.start d.count)) (sym K.transitions) (record { within = u.within; edges = edges_grown g.ext.grown u.edges });
                state = state_grown g.ext.grown R.ready.has;
                label = g.holds;
              }

          pub of_star : {r : Result ℕ Refusal} {z : Lent} → GoesList k (star_list N (limits_of k.limits) i h.0 (edges y.transitions.words.now d.start d.count)) y r z → Gives 1088 whole r z
          of_star {r} {z} g =
              let g' : GoesList k (then_list h.0) y r z
              = subst (λ (t : Transitions). GoesList k (star_list N (limits_of k.limits) i h.0 (edges t.words.now d.start d.count)) y r z) K.transitions g in
              record { post = finish W 0 1088 star_1 r g'.post (all_of 0 1088) }
