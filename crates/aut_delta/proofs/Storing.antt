-- finish: a state of which all operands have their lists is entered, its list put together and stored.
use Rattle.std.specs.Prelude.{if◌then◌else◌, Result, Ok, Err}
use mathlib.Core.Path.{◌≡◌, refl, sym, ◌∙◌, ap, subst}
use mathlib.Core.Bool.{Bool, true, false}
use mathlib.Core.List.{List, [], ◌∷◌}
use Prim.Native.Nat.{ℕ, ◌+◌, ◌<◌}
use native.Mathlib.Omega.{arith}
use lib.ListN.{length}
use Rattle.common.specs.Outcome.{Outcome, refused, given, after}
use Rattle.common.proofs.Follow.{refused≢given}
use Rattle.common.specs.Runs.{Table}
use Rattle.netkat_steps.specs.ListSteps.{Edge}
use Rattle.aut_steps.specs.Tables.{Limits, Aut}
use Rattle.aut_steps.specs.Ascending.{All}
use Rattle.aut_steps.proofs.ListLaws.{all_map}
use Rattle.aut_steps.specs.Wf.{states}
use Rattle.aut_steps.proofs.Wf.{kind_grown, first_grown, state_grown}
use Rattle.aut_st_steps.specs.Edges.{edges}
use Rattle.aut_st_steps.specs.ListSpec.{ListAt}
use Rattle.aut_delta_steps.specs.Delta.{Store, store, room_t, append, keep_list, delta}
use Rattle.aut_delta_steps.proofs.Agree.{Agree, agree_came}
use Rattle.aut_delta_steps.proofs.Noted.{written}
use Rattle.aut_delta_steps.specs.Wf.{WfStore}
use Rattle.aut_delta_steps.proofs.Extends.{edges_length}
use Rattle.aut_delta_steps.specs.EpsilonReads.{work_all}
use Rattle.aut_delta_steps.proofs.EpsilonReads.{given_store}
use Rattle.aut_delta_steps.specs.EpsilonDown.{Known}
use Rattle.aut_delta_steps.proofs.DeltaRuns.{Halted, Deltaed}
use Rattle.aut_delta_steps.proofs.DeltaLaws.{delta_goes}
use Rattle.aut_delta_steps.specs.DeltaReads.{list_operands, enter}
use Rattle.aut_delta_steps.proofs.DeltaReads.{together, finish_list, list_operands_below, delta_stored, delta_works}
use Rattle.aut_delta_steps.specs.DeltaDown.{Has}
use Rattle.aut_delta_steps.proofs.DeltaDown.{Entered, enter_gives, enter_count, enter_went, same_list_operands}
use Rattle.refusal.specs.declared.Refusal.{Refusal}
use Rattle.refusal.specs.Numbers.{outcome}
use Rattle.aut_states.specs.Clauses.{limits_of}
use Rattle.aut_states.specs.declared.Config.{Config}
use Rattle.aut_relations.specs.Behind.{Modifies}
use Rattle.aut_relations.specs.declared.Aut.{Aut as Lent}
use Rattle.aut_relations.specs.Lent.{Keeps}
use Rattle.aut_relations.proofs.Order.{in_table, ready_after}
use Rattle.aut_stage.specs.Rule.{Laws, Stage}
use Rattle.aut_stage.proofs.Rule.{all_of, begin, instead, next}
use Rattle.aut_stage.specs.OnLent.{Goes}
use Rattle.aut_delta_keep.specs.Clauses.{RESULT}
use Rattle.aut_delta_stage.specs.OnTables.{store_in, StoreAsked, tables_layer, GoesStore, Prepared}
use Rattle.aut_delta_stage.proofs.OnTables.{tables_laws, store_after, refused_goes, step_goes, aut_goes}
use Rattle.aut_delta_kinds.specs.Clauses.{TogetherAsked, together_of}
use Rattle.aut_delta_keep.specs.Clauses.{KeepAsked, KeepsOthers}
use Rattle.aut_delta.specs.Clauses.{Deltas}
use Rattle.aut_delta.specs.Readings.{EnterAsked, Enters, FinishAsked}

-- nothing is worked out of lists that are stored
work_has : {N : ℕ} {L : Limits} {σ : Store} → WfStore N L σ → (ys : List ℕ) → All (λ y. y < states σ.aut) ys → All (Has σ) ys → work_all (delta N L) ys σ ≡ given σ tt
unfolding work_all
work_has W [] a h = refl
work_has {N} {L} W (y ∷ ys) a h = ap (λ (o : Outcome Store (List Edge)). after o (λ es. work_all (delta N L) ys)) (delta_stored W a.0 h.0) ∙ work_has W ys a.1 h.1

-- the relation nodes are as they were
keep_nodes : (x : ℕ) (es : List Edge) (σ : Store) {τ : Store} {fs : List Edge} → keep_list x es σ ≡ given τ fs → τ.aut.nodes ≡ σ.aut.nodes
unfolding keep_list
keep_nodes x es σ {τ} {fs} q = go (room_t σ.transitions (length es)) q
  where
    α : Aut
    α = written σ.aut x 5 σ.transitions.count

    go : (b : Bool) → (if b then given (store (written α x 6 (length es + 1)) (append es σ.transitions)) es else refused 25) ≡ given τ fs → τ.aut.nodes ≡ σ.aut.nodes
    go true p = ap (λ (υ : Store). υ.aut.nodes) (sym (given_store p))
    go false p = absurd (refused≢given p)

module _ {k : Config} {i : ℕ} {x : Lent} (F : FinishAsked k x i) where
  abbrev N : ℕ
  N = k.fields

  abbrev L : Limits
  L = limits_of k.limits

  abbrev σ : Store
  σ = store_in x

  W : Laws (tables_layer N k.limits)
  W = tables_laws N k.limits

  V : WfStore N L σ
  V = F.store.prepared.worked

  abbrev whole : Outcome Store (List Edge)
  whole = delta N L i σ

  g0 : Stage (tables_layer N k.limits) 0 1088 whole (after (enter N i σ) (λ u. finish_list N L (list_operands σ i) i)) σ σ x.scratch.now x.scratch.now
  g0 = begin W 0 1088 F.store.prepared (delta_works V F.has F.not_yet)

  pub enter_ready : EnterAsked k x i
  enter_ready = record { store = F.store; has = F.has }

  pub no_node : {e : Refusal} {r : Result (Unit {0}) Refusal} {y z : Lent} → r ≡ Err e → Enters {V = Unit {0}} k (enter N i) x (Err e) y → Deltas k i x r z
  no_node q P = refused_goes q (g0.is ∙ ap (λ (o : Outcome Store Unit). after o (λ u. finish_list N L (list_operands σ i) i)) P.post.is)

  module _ {y1 : Lent} (P1 : Enters k (enter N i) x (Ok (tt {0})) y1) (K1 : Keeps x y1) where
    abbrev τ1 : Store
    τ1 = store_in y1

    I : Entered N L σ i τ1
    I = enter_gives V F.has P1.post.is

    S1 : StoreAsked k y1
    S1 = store_after F.store K1.spp P1

    W1 : WfStore N L τ1
    W1 = S1.prepared.worked

    same : list_operands τ1 i ≡ list_operands σ i
    same = same_list_operands V (enter_went I) F.has

    has1 : i < states τ1.aut
    has1 = state_grown (enter_went I).grown F.has

    lists1 : All (Has τ1) (list_operands σ i)
    lists1 = all_map (list_operands σ i) (λ y h. omega (arith, enter_count I y)) F.lists

    pub together_ready : TogetherAsked k y1 i
    together_ready = record {
      fields = S1.fields;
      ready = record {
        prepared = S1.prepared;
        limit = F.limit;
        has = has1;
        lists = subst (All (Has τ1)) (sym same) lists1;
        known = λ a b.
            let j = kind_grown (enter_went I).grown i F.has in
            subst (Known τ1.aut.states.words) (sym (first_grown (enter_went I).grown i F.has)) (I.known (omega (arith, j)) (omega (arith, j)));
      };
    }

    all_there : work_all (delta N L) (list_operands σ i) τ1 ≡ given τ1 tt
    all_there = work_has W1 (list_operands σ i) (subst (All (λ y. y < states τ1.aut)) same (all_map (list_operands τ1 i) (λ y b. b.state) (list_operands_below W1 has1))) lists1

    g2 : Stage (tables_layer N k.limits) 0 1088 whole (after (together N L i τ1) (keep_list i)) σ τ1 x.scratch.now y1.scratch.now
    g2 =
        instead W 0 1088
        (next W 0 1088 P1.post (record { from = omega arith; to = omega arith }) (λ u. finish_list N L (list_operands σ i) i) g0)
        (ap (λ (o : Outcome Store Unit). after o (λ u υ. after (together N L i υ) (keep_list i))) all_there)

    module _ {y2 : Lent} (K2 : Keeps y1 y2) where
      -- what `together` answers
      abbrev Joins : Result ℕ Refusal → Type 0
      Joins r = Goes k 0 1088 (ListAt N L) (λ m. edges y2.scratch.now RESULT m) (together_of N k.limits τ1 i) y1 r y2

      joined : {r : Result ℕ Refusal} → Joins r → GoesStore k 0 1088 (λ τ. ListAt N L τ.aut) (λ m. edges y2.scratch.now RESULT m) (together N L i) y1 r y2
      joined T = step_goes refl (aut_goes S1 K2 (together_of N k.limits τ1 i) T)

      pub no_list : {e : Refusal} {r : Result (Unit {0}) Refusal} {z : Lent} → r ≡ Err e → Joins (Err e) → Deltas k i x r z
      no_list q T = refused_goes q (g2.is ∙ ap (λ (o : Outcome Store (List Edge)). after o (keep_list i)) (joined T).post.is)

      module _ {m : ℕ} (T : Joins (Ok m)) where
        abbrev es : List Edge
        es = edges y2.scratch.now RESULT m

        abbrev τ2 : Store
        τ2 = store_in y2

        g3 : Stage (tables_layer N k.limits) 0 1088 whole (keep_list i es τ2) σ τ2 x.scratch.now y2.scratch.now
        g3 = next W 0 1088 (joined T).post (all_of 0 1088) (keep_list i) g2

        pub keep_ready : KeepAsked y2 i m
        keep_ready =
            let c = (joined T).post.then in
            record {
              state = in_table c.ready.ready.good (state_grown c.ext.grown has1);
              fit = c.ready.worked.lists.fit;
              inside = omega (arith, c.ready.ready.room, c.holds.short, edges_length y2.scratch.now RESULT m, F.limit);
            }

        module _ {y3 : Lent} (K3 : KeepsOthers y2 y3) where
          abbrev τ3 : Store
          τ3 = store_in y3

          pub stored : (r : Result (Unit {0}) Refusal) → keep_list i es τ2 ≡ outcome (λ u. es) r τ3 → Deltas k i x r y3
          stored (Err e) q = record { post = record { is = g3.is ∙ q; then = tt } }
          stored (Ok u) q =
              let D : Deltaed N L i σ τ3 es = agree_came (subst (λ o. Agree (Halted N L σ) (Deltaed N L i σ) o whole) (g3.is ∙ q) (delta_goes V F.has)) in
              let at : y2.scratch.now ≡ y3.scratch.now = sym (ap (λ s. s.now) K3.scratch) in
              let frame : Modifies N 0 1088 τ3.aut.nodes x.scratch.now y2.scratch.now = subst (λ (t : Table). Modifies N 0 1088 t x.scratch.now y2.scratch.now) (sym (keep_nodes i es τ2 q)) g3.frame in
              record {
                post = record {
                  is = g3.is ∙ q ∙ ap (λ (es : List Edge). given τ3 es) (sym D.stored.reads);
                  then = record {
                    ext = D.listed.went;
                    frame = subst (λ (s : List ℕ). Modifies N 0 1088 τ3.aut.nodes x.scratch.now s) at frame;
                    ready = subst (λ (s : List ℕ). Prepared N k.limits τ3 s) at (record {
                      ready = ready_after F.store.prepared.ready D.listed.went.grown D.listed.worked.good frame (K2.scratch.length ∙ K1.scratch.length);
                      worked = D.listed.worked;
                    });
                    holds = record { marked = D.stored.marked; reads = refl };
                  };
                };
              }
