-- One transition of each list: a run of calls (aut_st_stage).
use mathlib.Core.Path.{◌≡◌, refl, sym, ◌∙◌, ap}
use mathlib.Core.List.{List}
use Prim.Native.Nat.{ℕ}
use native.Mathlib.Omega.{arith}
use Rattle.std.specs.Prelude.{Result, Ok, Err}
use Rattle.std.specs.Result.{IsErr, IsErrAnd}
use Rattle.common.specs.Outcome.{Step, return, after, ◌>>=◌}
use Rattle.refusal.specs.declared.Refusal.{Refusal}
use Rattle.netkat_steps.specs.ListSteps as St
use Rattle.netkat_steps.specs.ListSteps.{Edge, edge, Summed}
use Rattle.spp.specs.declared.SPP.{SPP}
use Rattle.aut_steps.specs.Tables as T
use Rattle.aut_steps.specs.Tables.{Aut, on_nodes}
use Rattle.aut_steps.specs.Relations as Rel
use Rattle.aut_steps.proofs.Wf.{grown_trans, state_grown}
use Rattle.aut_steps.proofs.StepSpec.{goes_map}
use Rattle.aut_steps.specs.Constructors.{mk_difference}
use Rattle.aut_steps.proofs.StateLaws.{mk_difference_goes}
use Rattle.aut_st_steps.specs.Operations.{ops}
use Rattle.aut_st_steps.specs.Edges.{EdgeAt}
use Rattle.aut_st_steps.proofs.Edges.{edge_grown}
use Rattle.aut_st_steps.specs.ListSpec.{Label, State}
use Rattle.aut_st_steps.proofs.ListSpec.{label_grown, relation_of}
use Rattle.aut_st_steps.specs.EachSteps.{subtract_one}
use Rattle.aut_st_steps.proofs.MinusSteps.{summed}
use Rattle.aut_states.specs.Clauses.{limits_of}
use Rattle.aut_states.specs.declared.Config.{Config}
use Rattle.aut_relations.specs.declared.Aut.{Aut as Lent}
use Rattle.aut_relations.specs.Lent.{nodes_in, aut_in, Keeps, KeepsExprs, Does, Handles}
use Rattle.aut_relations.proofs.Kept.{keeps_of}
use Rattle.aut_stage.specs.OnLent.{Goes}
use Rattle.aut_stage.proofs.Rule.{all_of}
use Rattle.aut_stage.proofs.OnLent.{made}
use Rattle.aut_st_insert.specs.Clauses.{list_in, GoesInsert}
use Rattle.aut_st_insert.specs.Asked.{ListAsked}
use Rattle.aut_st_insert.proofs.Join.{list_same, list_after}
use Rattle.aut_st_insert.proofs.Calls.{handles, intersects, unites}
use Rattle.aut_st_stage.proofs.Run.{no_list, Run, run_begin, run_next, run_stuck, run_as, run_done}
use Rattle.aut_st_insert.specs.declared.Met.{Met}
use Rattle.aut_st_minus.specs.Clauses.{OneAsked, GoesSum}

module _ {k : Config} {x : Lent} {t u : Edge} {h m : ℕ} (R : OneAsked k x t u h m) where
  abbrev N : ℕ
  N = k.fields

  abbrev L : T.Limits
  L = limits_of k.limits

  abbrev whole : Step Aut Summed
  whole = subtract_one N L t u (summed N L h (list_in x m))

  abbrev fourth : ℕ → ℕ → ℕ → Step Aut Summed
  fourth a meet g = St.insert (ops N L) a meet (list_in x m) >>= λ fs. return (summed N L g fs)

  abbrev third : ℕ → ℕ → Step Aut Summed
  third a meet = on_nodes (Rel.union N h meet) >>= fourth a meet

  abbrev second : ℕ → Step Aut Summed
  second a = on_nodes (Rel.intersect N t.label u.label) >>= third a

  abbrev Done : Result Met Refusal → Lent → Type 0
  Done r y = GoesSum k whole x r y

  run_0 : Run k 0 832 whole (λ σ. after (mk_difference N L t.target u.target σ) second) x x
  unfolding subtract_one
  run_0 = run_begin R.list.asked refl

  -- ---- the difference of the targets

  module _ {y1 : Lent} {r1 : Result ℕ Refusal} (K1 : Keeps x y1) (D1 : Does N 0 0 aut_in (λ i. i) (mk_difference N L t.target u.target) x r1 y1) where
    differs : Goes k 0 0 State (λ i. i) (mk_difference N L t.target u.target) x r1 y1
    differs = made R.list.asked K1 (goes_map (mk_difference_goes R.list.asked.ready.good R.first.state R.second.state) (λ τ z w v i. i.state)) D1

  pub stuck_1 : {y1 : Lent} {e : Refusal} {r : Result Met Refusal} → IsErr r × IsErrAnd r (λ z. z ≡ e) → Keeps x y1 → Does N 0 0 aut_in (λ i. i) (mk_difference N L t.target u.target) x (Err e) y1 → Done r y1
  stuck_1 q K1 D1 = run_stuck second run_0 q (differs K1 D1)

  module _ {y1 : Lent} {a : ℕ} (K1 : Keeps x y1) (D1 : Does N 0 0 aut_in (λ i. i) (mk_difference N L t.target u.target) x (Ok a) y1) where
    run_1 : Run k 0 832 whole (λ σ. after (on_nodes (Rel.intersect N t.label u.label) σ) (third a)) x y1
    run_1 = run_next second run_0 no_list K1 (differs K1 D1)

    list_1 : ListAsked k y1 m
    list_1 = list_after R.list (differs K1 D1) (omega arith) K1.spp

    first_1 : Label N (aut_in y1) t.label
    first_1 = relation_of (edge_grown run_1.stage.ext.grown R.first)

    second_1 : Label N (aut_in y1) u.label
    second_1 = relation_of (edge_grown run_1.stage.ext.grown R.second)

    -- ---- where the labels meet

    pub meet_asked : Handles N y1 t.label u.label
    meet_asked = handles run_1.asked first_1 second_1

    module _ {y2 : Lent} {r2 : Result SPP Refusal} (K2 : KeepsExprs y1 y2) (D2 : Does N 0 0 nodes_in (λ (l : SPP). l.0) (Rel.intersect N t.label u.label) y1 r2 y2) where
      meets : Goes k 0 0 (Label N) (λ (l : SPP). l.0) (on_nodes (Rel.intersect N t.label u.label)) y1 r2 y2
      meets = intersects run_1.asked first_1 second_1 K2 D2

    pub stuck_2 : {y2 : Lent} {e : Refusal} {r : Result Met Refusal} → IsErr r × IsErrAnd r (λ z. z ≡ e) → KeepsExprs y1 y2 → Does N 0 0 nodes_in (λ (l : SPP). l.0) (Rel.intersect N t.label u.label) y1 (Err e) y2 → Done r y2
    stuck_2 q K2 D2 = run_stuck (third a) run_1 q (meets K2 D2)

    module _ {y2 : Lent} {v : SPP} (K2 : KeepsExprs y1 y2) (D2 : Does N 0 0 nodes_in (λ (l : SPP). l.0) (Rel.intersect N t.label u.label) y1 (Ok v) y2) where
      run_2 : Run k 0 832 whole (λ σ. after (on_nodes (Rel.union N h v.0) σ) (fourth a v.0)) x y2
      run_2 = run_next (third a) run_1 no_list (keeps_of K2) (meets K2 D2)

      list_2 : ListAsked k y2 m
      list_2 = list_after list_1 (meets K2 D2) (omega arith) K2.spp

      sum_2 : Label N (aut_in y2) h
      sum_2 = label_grown run_2.stage.ext.grown R.sum

      meet_2 : Label N (aut_in y2) v.0
      meet_2 = (meets K2 D2).post.then.holds

      -- ---- the labels met so far

      pub sum_asked : Handles N y2 h v.0
      sum_asked = handles run_2.asked sum_2 meet_2

      module _ {y3 : Lent} {r3 : Result SPP Refusal} (K3 : KeepsExprs y2 y3) (D3 : Does N 0 0 nodes_in (λ (l : SPP). l.0) (Rel.union N h v.0) y2 r3 y3) where
        sums : Goes k 0 0 (Label N) (λ (l : SPP). l.0) (on_nodes (Rel.union N h v.0)) y2 r3 y3
        sums = unites run_2.asked sum_2 meet_2 K3 D3

      pub stuck_3 : {y3 : Lent} {e : Refusal} {r : Result Met Refusal} → IsErr r × IsErrAnd r (λ z. z ≡ e) → KeepsExprs y2 y3 → Does N 0 0 nodes_in (λ (l : SPP). l.0) (Rel.union N h v.0) y2 (Err e) y3 → Done r y3
      stuck_3 q K3 D3 = run_stuck (fourth a v.0) run_2 q (sums K3 D3)

      module _ {y3 : Lent} {w : SPP} (K3 : KeepsExprs y2 y3) (D3 : Does N 0 0 nodes_in (λ (l : SPP). l.0) (Rel.union N h v.0) y2 (Ok w) y3) where
        abbrev put : List Edge → Step Aut (List Edge)
        put fs = St.insert (ops N L) a v.0 fs

        abbrev last : List Edge → Step Aut Summed
        last fs = return (summed N L w.0 fs)

        same : list_in y3 m ≡ list_in x m
        same = list_same list_2 (sums K3 D3) (omega arith) ∙ list_same list_1 (meets K2 D2) (omega arith) ∙ list_same R.list (differs K1 D1) (omega arith)

        run_3 : Run k 0 832 whole (λ σ. after (put (list_in y3 m) σ) last) x y3
        run_3 = run_as (run_next (fourth a v.0) run_2 no_list (keeps_of K3) (sums K3 D3)) (ap (λ (fs : List Edge). after (put fs (aut_in y3)) last) (sym same))

        -- ---- the insertion

        pub insert_asked : ListAsked k y3 m × EdgeAt N (aut_in y3) (edge a v.0)
        insert_asked =
            let met = (sums K3 D3).post.then.ext.grown in (
              list_after list_2 (sums K3 D3) (omega arith) K3.spp,
              record { state = state_grown (grown_trans (meets K2 D2).post.then.ext.grown met) (differs K1 D1).post.then.holds; relation = (label_grown met meet_2).at },
            )

        module _ {y4 : Lent} where
          pub stuck_4 : {e : Refusal} {r : Result Met Refusal} → IsErr r × IsErrAnd r (λ z. z ≡ e) → GoesInsert k (put (list_in y3 m)) y3 (Err e) y4 → Done r y4
          stuck_4 q G = run_stuck last run_3 q G

          pub met : {n : ℕ} → Keeps y3 y4 → GoesInsert k (put (list_in y3 m)) y3 (Ok n) y4 → Done (Ok (record { sum = w; count = n })) y4
          met K4 G = run_done (run_next last run_3 (all_of 0 832) K4 G) (record { sum = label_grown G.post.then.ext.grown (sums K3 D3).post.then.holds; result = G.post.then.holds })
