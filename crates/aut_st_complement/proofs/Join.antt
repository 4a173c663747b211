-- st_complement: its calls, one after the other.
use mathlib.Core.Path.{◌≡◌, refl, sym, ◌∙◌, ap, subst}
use mathlib.Core.List.{List, []}
use Prim.Native.Nat.{ℕ}
use native.Mathlib.Omega.{arith}
use Rattle.std.specs.Prelude.{Result, Ok}
use Rattle.common.specs.Outcome.{given, Step, after, ◌>>=◌}
use Rattle.netkat_steps.specs.ListSteps as St
use Rattle.netkat_steps.specs.ListSteps.{Edge, edge}
use Rattle.refusal.specs.declared.Refusal.{Refusal}
use Rattle.refusal.specs.Numbers.{outcome}
use Rattle.slices.specs.Same.{SameSlice}
use Rattle.spp_steps.specs.Model as Spp
use Rattle.spp.specs.declared.SPP.{SPP}
use Rattle.aut_steps.specs.Tables.{Aut, on_nodes, on_states}
use Rattle.aut_steps.specs.Relations as Rel
use Rattle.aut_steps.specs.Constructors.{mk_top}
use Rattle.aut_steps.proofs.StepSpec.{goes_map}
use Rattle.aut_steps.proofs.StateLaws.{mk_top_goes}
use Rattle.aut_steps.proofs.Wf.{grown_trans}
use Rattle.aut_st_steps.specs.Operations.{ops}
use Rattle.aut_st_steps.specs.Edges.{edges, EdgeAt}
use Rattle.aut_st_steps.specs.ListSpec.{ListAt, Label, State}
use Rattle.aut_st_steps.proofs.ListSpec.{list_empty, list_grown, label_grown, complement_goes}
use Rattle.aut_st_steps.specs.EachSteps as M
use Rattle.aut_states.specs.Clauses.{limits_of, states_of, Fits}
use Rattle.aut_states.specs.declared.Config.{Config}
use Rattle.aut_states.specs.declared.States.{States}
use Rattle.aut_relations.specs.declared.Aut.{Aut as Lent}
use Rattle.aut_relations.specs.Lent.{nodes_in, states_in, aut_in, Keeps, KeepsExprs, Does, Handles}
use Rattle.aut_relations.proofs.Order.{fits}
use Rattle.aut_stage.specs.OnLent.{Goes}
use Rattle.aut_stage.proofs.OnLent.{related}
use Rattle.aut_stage.proofs.Rule.{all_of}
use Rattle.aut_st_insert.specs.Clauses.{RESULT, GoesInsert}
use Rattle.aut_st_insert.specs.Asked.{ListAsked}
use Rattle.aut_st_insert.proofs.Join.{edges_behind, list_few}
use Rattle.aut_st_source.specs.declared.Source.{Source}
use Rattle.aut_st_stage.proofs.Turns.{source_in}
use Rattle.aut_st_stage.proofs.Run.{no_list, Run, run_begin, run_next, run_as, run_finish, stated, keeps_stated, goes_stated}
use Rattle.aut_st_stage.proofs.Waits.{Waits, waits, waits_later, with_it}
use Rattle.aut_st_each.specs.Asked.{EachAsked}
use Rattle.aut_relations.proofs.Kept.{keeps_of}
use Rattle.aut_st_each.proofs.Join.{handles}
use Rattle.aut_st_each.specs.Asked.{OneAsked}
use Rattle.aut_st_complement.proofs.Cover.{cover}

none_at : (s : List ℕ) → edges s RESULT 0 ≡ []
unfolding edges
none_at s = refl

-- the complement is an operation on relations
as_complement : {N : ℕ} (h : ℕ) {r : Result SPP Refusal} {x y : Lent} → Does N 0 0 nodes_in (λ h. h.0) (Spp.apply N Spp.not N h h) x r y → Does N 0 0 nodes_in (λ h. h.0) (Spp.complement N N h) x r y
unfolding Spp.complement
as_complement h D = D

module _ {k : Config} {x : Lent} {z : Source} (R : OneAsked k x z) where
  abbrev whole : Step Aut (List Edge)
  whole = St.st_complement (ops k.fields (limits_of k.limits)) (source_in z x)

  abbrev targets : Step Aut (List Edge)
  targets = St.insert_each (ops k.fields (limits_of k.limits)) (St.complement_of (ops k.fields (limits_of k.limits))) (source_in z x) (edges x.scratch.now RESULT 0)

  abbrev put_in : List Edge → ℕ → ℕ → Step Aut (List Edge)
  put_in es rest top = St.insert (ops k.fields (limits_of k.limits)) top rest es

  abbrev top_then : List Edge → ℕ → Step Aut (List Edge)
  top_then es rest = on_states mk_top >>= put_in es rest

  abbrev rest_then : List Edge → ℕ → Step Aut (List Edge)
  rest_then es sum = on_nodes (Spp.complement k.fields k.fields sum) >>= top_then es

  abbrev cover_then : List Edge → Step Aut (List Edge)
  cover_then es = cover k (source_in z x) (Rel.zero_at k.fields) >>= rest_then es

  pub run_0 : Run k 0 832 whole (λ σ. after (targets σ) cover_then) x x
  unfolding St.st_complement
  run_0 = run_begin R.asked (ap (λ (es : List Edge). after (St.insert_each (ops k.fields (limits_of k.limits)) (St.complement_of (ops k.fields (limits_of k.limits))) (source_in z x) es (aut_in x)) cover_then) (sym (none_at x.scratch.now)))

  pub targets_asked : EachAsked k x M.complement z 0
  targets_asked = record {
    list = record { asked = R.asked; list = subst (ListAt k.fields (limits_of k.limits) (aut_in x)) (sym (none_at x.scratch.now)) (list_empty (aut_in x)); limit = R.limit };
    operands = tt;
    walked = R.walked;
  }

  -- the targets are made, in a list of n
  module _ {y : Lent} {n : ℕ} (K : Keeps x y) (D : GoesInsert k targets x (Ok n) y) where
    abbrev es : List Edge
    es = edges y.scratch.now RESULT n

    pub run_1 : Run k 0 832 whole (cover_then es) x y
    run_1 = run_next cover_then run_0 (all_of 0 832) K D

    source_waits : Waits k y z (source_in z x)
    source_waits = waits_later (waits R.walked) (all_of 0 832) K D

    pub cover_asked : OneAsked k y z
    cover_asked = record { asked = run_1.asked; limit = R.limit; walked = source_waits.walked }

    pub covered : {V : Type 0} {see : V → ℕ} {r : Result V Refusal} {v : Lent} → Goes k 0 0 (Label k.fields) see (cover k (source_in z y) (Rel.zero_at k.fields)) y r v → Goes k 0 0 (Label k.fields) see (cover k (source_in z x) (Rel.zero_at k.fields)) y r v
    covered G = with_it source_waits (λ ts. cover k ts (Rel.zero_at k.fields)) G

    -- their labels are united
    module _ {v : Lent} {sum : SPP} (K₂ : KeepsExprs y v) (D₂ : Goes k 0 0 (Label k.fields) (λ h. h.0) (cover k (source_in z y) (Rel.zero_at k.fields)) y (Ok sum) v) where
      pub run_2 : Run k 0 832 whole (rest_then es sum.0) x v
      run_2 = run_next (rest_then es) run_1 no_list (keeps_of K₂) (covered D₂)

      pub rest_asked : Handles k.fields v sum.0 sum.0
      rest_asked = let h = D₂.post.then.holds.at in handles run_2.asked h h

      pub rested : {r : Result SPP Refusal} {w : Lent} → KeepsExprs v w → Does k.fields 0 0 nodes_in (λ h. h.0) (Spp.apply k.fields Spp.not k.fields sum.0 sum.0) v r w → Goes k 0 0 (Label k.fields) (λ h. h.0) (on_nodes (Spp.complement k.fields k.fields sum.0)) v r w
      rested K D = related run_2.asked K (complement_goes run_2.asked.ready.good D₂.post.then.holds) (as_complement sum.0 D)

      -- what none of them has
      module _ {w : Lent} {rest : SPP} (K₃ : KeepsExprs v w) (D₃ : Does k.fields 0 0 nodes_in (λ h. h.0) (Spp.apply k.fields Spp.not k.fields sum.0 sum.0) v (Ok rest) w) where
        pub run_3 : Run k 0 832 whole (top_then es rest.0) x w
        run_3 = run_next (top_then es) run_2 no_list (keeps_of K₃) (rested K₃ D₃)

        pub top_asked : Fits w.states.words.now w.states.count
        top_asked = fits run_3.asked.ready.good

        pub topped : {r : Result ℕ Refusal} {s : States} → mk_top (states_in w) ≡ outcome (λ i. i) r (states_of s) → Goes k 0 0 State (λ i. i) (on_states mk_top) w r (stated w s)
        topped e = goes_stated mk_top run_3.asked (goes_map (mk_top_goes run_3.asked.ready.good) (λ τ x w v i. i.state)) e

        list_is : edges w.scratch.now RESULT n ≡ es
        list_is =
            let few = list_few y.scratch.now RESULT n D.post.then.holds R.limit in
            edges_behind (rested K₃ D₃).post.then.frame RESULT n (omega arith) (omega (arith, few)) ∙ edges_behind D₂.post.then.frame RESULT n (omega arith) (omega (arith, few))

        -- and Top
        module _ {s : States} {top : ℕ} (e₄ : SameSlice w.states.words s.words) (D₄ : mk_top (states_in w) ≡ given (states_of s) top) where
          topped_4 : Goes k 0 0 State (λ i. i) (on_states mk_top) w (Ok top) (stated w s)
          topped_4 = topped {r = Ok top} D₄

          run_4 : Run k 0 832 whole (put_in (edges w.scratch.now RESULT n) rest.0 top) x (stated w s)
          run_4 = run_as (run_next (put_in es rest.0) run_3 no_list (keeps_stated e₄) topped_4) (ap (λ (es : List Edge). put_in es rest.0 top (aut_in (stated w s))) (sym list_is))

          pub insert_asked : ListAsked k (stated w s) n × EdgeAt k.fields (aut_in (stated w s)) (edge top rest.0)
          insert_asked =
              let g = topped_4.post.then in
              let h = (rested K₃ D₃).post.then in (
                record {
                  asked = run_4.asked;
                  list = subst (ListAt k.fields (limits_of k.limits) (aut_in (stated w s))) (sym list_is) (list_grown (grown_trans D₂.post.then.ext.grown (grown_trans h.ext.grown g.ext.grown)) D.post.then.holds);
                  limit = R.limit;
                },
                record { state = g.holds; relation = (label_grown g.ext.grown h.holds).at },
              )

          pub inserted : {V : Type 0} {see : V → List Edge} {r : Result V Refusal} {u : Lent} → Goes k 0 832 (ListAt k.fields (limits_of k.limits)) see (put_in (edges w.scratch.now RESULT n) rest.0 top) (stated w s) r u → Goes k 0 832 (ListAt k.fields (limits_of k.limits)) see whole x r u
          inserted F = run_finish run_4 (all_of 0 832) F
