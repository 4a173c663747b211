-- What is made of a transition, by the rule for a run of calls (aut_stage); and a transition made and inserted.
use mathlib.Core.Path.{◌≡◌, refl, sym, ◌∙◌, ap, subst}
use mathlib.Core.List.{List}
use Prim.Native.Nat.{ℕ, ◌≤◌}
use native.Mathlib.Omega.{arith}
use lib.ListN.{length}
use Rattle.std.specs.Prelude.{Result, Ok}
use Rattle.common.specs.Outcome.{Outcome, given, Step, return, after}
use Rattle.common.specs.Runs.{Table, placed}
use Rattle.refusal.specs.declared.Refusal.{Refusal}
use Rattle.netkat_steps.specs.ListSteps as St
use Rattle.netkat_steps.specs.ListSteps.{Edge, edge}
use Rattle.spp_steps.specs.Wf.{ValidAt}
use Rattle.spp.specs.declared.SPP.{SPP}
use Rattle.aut_steps.specs.Tables.{Aut, put_states, on_nodes, on_states}
use Rattle.aut_steps.specs.Relations as Rel
use Rattle.aut_steps.specs.Constructors as C
use Rattle.aut_steps.proofs.StepSpec.{goes_map}
use Rattle.aut_steps.proofs.Wf.{state_grown}
use Rattle.aut_steps.proofs.IntersectLaws.{mk_intersect_goes}
use Rattle.aut_st_steps.specs.Operations.{ops}
use Rattle.aut_st_steps.specs.Edges.{edges, EdgeAt}
use Rattle.aut_st_steps.proofs.Edges.{edge_grown}
use Rattle.aut_st_steps.specs.ListSpec.{ListAt, State}
use Rattle.aut_st_steps.proofs.ListSpec.{list_grown, relation_of, intersect_goes}
use Rattle.aut_st_steps.specs.EachSteps as M
use Rattle.aut_st_steps.specs.EachSteps.{made, insert_made}
use Rattle.aut_st_steps.proofs.EachSteps.{made_goes}
use Rattle.aut_states.specs.Clauses.{limits_of, states_of}
use Rattle.aut_states.specs.declared.Config.{Config}
use Rattle.aut_states.specs.declared.States.{States}
use Rattle.aut_relations.specs.declared.Aut.{Aut as Lent}
use Rattle.aut_relations.specs.Behind.{Modifies}
use Rattle.aut_relations.proofs.Behind.{left_refl, left_wide}
use Rattle.aut_relations.specs.Lent.{nodes_in, states_in, aut_in, Keeps, KeepsExprs, Does, Asked, Handles}
use Rattle.aut_relations.proofs.Kept.{keeps_of}
use Rattle.aut_relations.proofs.Order.{backed_of}
use Rattle.aut_stage.specs.OnLent.{Goes}
use Rattle.aut_stage.proofs.OnLent as OnLent
use Rattle.aut_stage.proofs.OnLent.{by_law, on_all, related}
use Rattle.aut_stage.proofs.Rule.{Inside, all_of}
use Rattle.aut_st_insert.specs.Clauses.{RESULT}
use Rattle.aut_st_insert.specs.Asked.{ListAsked}
use Rattle.aut_st_insert.proofs.Join.{edges_behind, list_few}
use Rattle.aut_st_edges.specs.declared.Transition.{Transition}
use Rattle.aut_st_edges.specs.Clauses.{edge_of}
use Rattle.aut_st_stage.proofs.Run.{Run, run_begin, run_next, run_as, run_done, run_finish, stated}
use Rattle.aut_st_each.specs.declared.Each.{Each}
use Rattle.aut_st_each.specs.Clauses.{each_of}
use Rattle.aut_st_each.specs.Asked.{MakeAsked}

-- two relations of tables in order
pub handles : {k : Config} {x : Lent} → Asked k x → {a b : ℕ} → ValidAt (nodes_in x) k.fields a → ValidAt (nodes_in x) k.fields b → Handles k.fields x a b
handles R a b = record { fields = R.fields; backed = backed_of R.ready; at_a = a; at_b = b }

nothing : (n : ℕ) → Inside 0 n 0 0
nothing n = record { from = omega arith; to = omega arith }

-- ---- make_edge: `a` is told to be `b`

module _ {k : Config} {x : Lent} {a b : Each} {t : Transition} (q : a ≡ b) (R : MakeAsked k x (each_of a) (edge_of t)) where
  abbrev makes : Step Aut Edge
  makes = made k.fields (limits_of k.limits) (each_of a) (edge_of t)

  abbrev told : Step Aut Edge
  told = made k.fields (limits_of k.limits) (each_of b) (edge_of t)

  -- what the steps come to is what one call does, and then the transition with what it gave
  one : {y : Lent} {o : Outcome Aut ℕ} {w : Transition} (put : ℕ → Edge) {h : ℕ} → length y.scratch.now ≡ length x.scratch.now → Modifies k.fields 0 576 (nodes_in y) x.scratch.now y.scratch.now → o ≡ given (aut_in y) h → told (aut_in x) ≡ after o (λ z. return (put z)) → put h ≡ edge_of w
      → Goes k 0 576 (EdgeAt k.fields) edge_of makes x (Ok w) y
  one {y} {o} {w} put {h} len left e is p = record {
    post = by_law R.asked y len (made_goes R.asked.ready.good (each_of a) R.operands R.edge) (Ok w)
        (ap (λ (a : Each). made k.fields (limits_of k.limits) (each_of a) (edge_of t) (aut_in x)) q ∙ is ∙ ap (λ (r : Outcome Aut ℕ). after r (λ z. return (put z))) e ∙ ap (λ (z : Edge). return z (aut_in y)) p) left;
  }

  -- a target is made
  pub by_target : {y : Lent} {o : Step Aut ℕ} {n z : ℕ} → length y.scratch.now ≡ length x.scratch.now → Does k.fields 0 n aut_in (λ i. i) o x (Ok z) y → n ≤ 576 → told (aut_in x) ≡ after (o (aut_in x)) (λ z. return (edge z t.label.0))
      → Goes k 0 576 (EdgeAt k.fields) edge_of makes x (Ok (record { target = z; label = t.label })) y
  by_target len D l is = one (λ z. edge z t.label.0) len (left_wide D.left (omega arith) (omega arith)) D.is is refl

  pub by_states : (o : Step Table ℕ) {s : States} {z : ℕ} → o (states_in x) ≡ given (states_of s) z → told (aut_in x) ≡ after (on_states o (aut_in x)) (λ z. return (edge z t.label.0))
      → Goes k 0 576 (EdgeAt k.fields) edge_of makes x (Ok (record { target = z; label = t.label })) (stated x s)
  by_states o e is = one (λ z. edge z t.label.0) refl (left_refl 0 576 (nodes_in x) x.scratch.now) (ap (placed put_states (aut_in x)) e) is refl

  -- a label
  pub by_label : {y : Lent} {o : Step Table ℕ} {h : SPP} → KeepsExprs x y → Does k.fields 0 0 nodes_in (λ h. h.0) o x (Ok h) y → told (aut_in x) ≡ after (on_nodes o (aut_in x)) (λ z. return (edge t.target z))
      → Goes k 0 576 (EdgeAt k.fields) edge_of makes x (Ok (record { target = t.target; label = h })) y
  by_label {y} {o} K D is = let D' = on_all K D in one (λ z. edge t.target z) K.scratch.length (left_wide D'.left (omega arith) (omega arith)) D'.is is refl

-- ---- meet_of: the target is made before the label

module _ {k : Config} {x : Lent} {s l : ℕ} {u : Edge} (R : MakeAsked k x (M.meet (edge s l)) u) where
  abbrev met : Step Aut Edge
  met = made k.fields (limits_of k.limits) (M.meet (edge s l)) u

  abbrev label : ℕ → Step Aut Edge
  label z τ = after (on_nodes (Rel.intersect k.fields l u.label) τ) (λ m. return (edge z m))

  met_0 : Run k 0 576 met (λ σ. after (C.mk_intersect k.fields (limits_of k.limits) s u.target σ) label) x x
  met_0 = run_begin R.asked refl

  module _ {y : Lent} {z : ℕ} (K : Keeps x y) (D : Does k.fields 0 576 aut_in (λ i. i) (C.mk_intersect k.fields (limits_of k.limits) s u.target) x (Ok z) y) where
    target : Goes k 0 576 State (λ i. i) (C.mk_intersect k.fields (limits_of k.limits) s u.target) x (Ok z) y
    target = OnLent.made R.asked K (goes_map (mk_intersect_goes R.asked.ready.good R.operands.state R.edge.state) (λ τ x w v i. i.state)) D

    met_1 : Run k 0 576 met (label z) x y
    met_1 = run_next label met_0 (all_of 0 576) K target

    at_l : EdgeAt k.fields (aut_in y) (edge s l)
    at_l = edge_grown met_1.stage.ext.grown R.operands

    at_u : EdgeAt k.fields (aut_in y) u
    at_u = edge_grown met_1.stage.ext.grown R.edge

    pub labels : Handles k.fields y l u.label
    labels = handles met_1.asked at_l.relation at_u.relation

    pub meets : {v : Lent} {h : SPP} → KeepsExprs y v → Does k.fields 0 0 nodes_in (λ h. h.0) (Rel.intersect k.fields l u.label) y (Ok h) v → Goes k 0 576 (EdgeAt k.fields) edge_of met x (Ok (record { target = z; label = h })) v
    meets K' E =
        let g = related met_1.asked K' (intersect_goes met_1.asked.ready.good (relation_of at_l) (relation_of at_u)) E in
        run_done (run_next (λ m. return (edge z m)) met_1 (nothing 576) (keeps_of K') g) (record { state = state_grown g.post.then.ext.grown target.post.then.holds; relation = g.post.then.holds.at })

-- ---- insert_made

module _ {k : Config} {x : Lent} {a : M.Each} {u : Edge} {m : ℕ} (R : ListAsked k x m × MakeAsked k x a u) where
  abbrev insert_in : List Edge → Edge → Step Aut (List Edge)
  insert_in es new = St.insert (ops k.fields (limits_of k.limits)) new.target new.label es

  abbrev inserts : Step Aut (List Edge)
  inserts = insert_made k.fields (limits_of k.limits) a u (edges x.scratch.now RESULT m)

  module _ {y : Lent} {new : Transition} (K : Keeps x y) (D : Goes k 0 576 (EdgeAt k.fields) edge_of (made k.fields (limits_of k.limits) a u) x (Ok new) y) where
    -- the list stands while the transition is made
    list_is : edges y.scratch.now RESULT m ≡ edges x.scratch.now RESULT m
    list_is = edges_behind D.post.then.frame RESULT m (omega arith) (omega (arith, list_few x.scratch.now RESULT m R.0.list R.0.limit))

    ran : Run k 0 832 inserts (insert_in (edges y.scratch.now RESULT m) (edge_of new)) x y
    ran = run_as (run_next (insert_in (edges x.scratch.now RESULT m)) (run_begin R.0.asked refl) (record { from = omega arith; to = omega arith }) K D) (ap (λ (es : List Edge). insert_in es (edge_of new) (aut_in y)) (sym list_is))

    pub insert_ready : ListAsked k y m × EdgeAt k.fields (aut_in y) (edge_of new)
    insert_ready = (
      record {
        asked = ran.asked;
        list = subst (ListAt k.fields (limits_of k.limits) (aut_in y)) (sym list_is) (list_grown D.post.then.ext.grown R.0.list);
        limit = R.0.limit;
      },
      D.post.then.holds,
    )

    pub inserted : {V : Type 0} {see : V → List Edge} {r : Result V Refusal} {v : Lent} → Goes k 0 832 (ListAt k.fields (limits_of k.limits)) see (insert_in (edges y.scratch.now RESULT m) (edge_of new)) y r v → Goes k 0 832 (ListAt k.fields (limits_of k.limits)) see inserts x r v
    inserted E = run_finish ran (all_of 0 832) E
