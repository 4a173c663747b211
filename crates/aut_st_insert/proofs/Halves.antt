-- One transition of the list: the run of calls for what it meets the inserted one in, the run for its rest, and both.
use mathlib.Core.Path.{refl, sym, ◌∙◌, ap}
use mathlib.Core.List.{List}
use Prim.Native.Nat.{ℕ}
use native.Mathlib.Omega.{arith}
use Rattle.std.specs.Prelude.{Result, Ok, Err}
use Rattle.common.specs.Outcome.{Step, return, after, ◌>>=◌}
use Rattle.refusal.specs.declared.Refusal.{Refusal}
use Rattle.netkat_steps.specs.ListSteps as St
use Rattle.netkat_steps.specs.ListSteps.{Edge, edge}
use Rattle.spp.specs.declared.SPP.{SPP}
use Rattle.aut_steps.specs.Tables as T
use Rattle.aut_steps.specs.Tables.{Aut, on_nodes}
use Rattle.aut_steps.specs.Relations as Rel
use Rattle.aut_steps.proofs.StepSpec.{goes_map}
use Rattle.aut_steps.specs.Constructors.{mk_union}
use Rattle.aut_steps.proofs.UnionLaws.{mk_union_goes}
use Rattle.aut_st_steps.specs.Operations.{ops}
use Rattle.aut_st_steps.proofs.Edges.{edge_grown}
use Rattle.aut_st_steps.specs.ListSpec.{ListAt, Label, State}
use Rattle.aut_st_steps.proofs.ListSpec.{label_grown, relation_of}
use Rattle.aut_st_steps.specs.InsertSteps.{Part, part, PartAt, meet_in, rest_in, split_one}
use Rattle.aut_states.specs.Clauses.{limits_of}
use Rattle.aut_states.specs.declared.Config.{Config}
use Rattle.aut_relations.specs.declared.Aut.{Aut as Lent}
use Rattle.aut_relations.specs.Lent.{nodes_in, aut_in, Keeps, KeepsExprs, Does, Handles, Asked}
use Rattle.aut_stage.specs.OnLent.{Goes}
use Rattle.aut_stage.proofs.OnLent.{lent_laws, made, asked_after}
use Rattle.aut_stage.proofs.Rule.{Inside, all_of, begin, instead, next, stuck, finish, done}
use Rattle.aut_union.specs.Clauses.{PairAt}
use Rattle.aut_st_insert.specs.declared.Met.{Met}
use Rattle.aut_st_insert.specs.Clauses.{list_in, part_in}
use Rattle.aut_st_insert.specs.Asked.{ListAsked, PlaceAsked, MeetAsked, RestAsked}
use Rattle.aut_st_insert.proofs.Join.{list_same, list_after}
use Rattle.aut_st_insert.proofs.Calls.{Run, anywhere, handles, unites, intersects, subtracts}

-- ---- what both halves end with: the label u is made, and e is to be placed; the answer is u and the list

pub record Half (k : Config) (a n : ℕ) (x : Lent) (m : ℕ) (whole : Step Aut Part) (u : SPP) (e : Edge) (z : Lent) : Type 0 where
  pub asked : PlaceAsked k z m e
  pub label : Label k.fields (aut_in z) u.0
  pub inside : Inside a n 576 128
  pub stage : Run k a n whole x (after (St.place (ops k.fields (limits_of k.limits)) e.target e.label (list_in z m) (aut_in z)) (λ fs. return (part u.0 fs))) z

module _ {k : Config} {a n : ℕ} {x : Lent} {m : ℕ} {whole : Step Aut Part} {u : SPP} {e : Edge} {z : Lent} (H : Half k a n x m whole u e z) where
  abbrev Placed : Result ℕ Refusal → Lent → Type 0
  Placed r o = Goes k 576 128 (ListAt k.fields (limits_of k.limits)) (list_in o) (St.place (ops k.fields (limits_of k.limits)) e.target e.label (list_in z m)) z r o

  pub half_stuck : {V : Type 0} {see : V → Part} {q : Refusal} {o o' : Lent} → Placed (Err q) o → Goes k a n (PartAt k.fields (limits_of k.limits)) see whole x (Err q) o'
  half_stuck g = record { post = stuck (lent_laws k.fields k.limits) a n g.post (λ fs. return (part u.0 fs)) H.stage }

  pub half_done : {q : ℕ} {o : Lent} → Placed (Ok q) o → Goes k a n (PartAt k.fields (limits_of k.limits)) (part_in o) whole x (Ok (record { sum = u; count = q })) o
  half_done g = record {
    post = done (lent_laws k.fields k.limits) a n (next (lent_laws k.fields k.limits) a n g.post H.inside (λ fs. return (part u.0 fs)) H.stage)
        (record { label = label_grown g.post.then.ext.grown H.label; list = g.post.then.holds });
  }

-- ---- meet_in

module _ {k : Config} {x : Lent} {m s h s2 h2 : ℕ} (R : MeetAsked k x m (edge s h) (edge s2 h2)) where
  abbrev L : T.Limits
  L = limits_of k.limits

  abbrev whole : Step Aut Part
  whole = meet_in k.fields L s h (edge s2 h2) (list_in x m)

  abbrev third : ℕ → List Edge → ℕ → Step Aut Part
  third meet es both = St.place (ops k.fields L) both meet es >>= λ fs. return (part meet fs)

  abbrev second : ℕ → Step Aut Part
  second meet = mk_union k.fields L s s2 >>= third meet (list_in x m)

  stage_0 : Run k 192 512 whole x (after (on_nodes (Rel.intersect k.fields h h2) (aut_in x)) second) x
  unfolding meet_in
  stage_0 = begin (lent_laws k.fields k.limits) 192 512 R.list.asked.ready refl

  module _ {y : Lent} (K : KeepsExprs x y) where
    call_1 : {r : Result SPP Refusal} → Does k.fields 0 0 nodes_in (λ (u : SPP). u.0) (Rel.intersect k.fields h h2) x r y → Goes k 0 0 (Label k.fields) (λ (u : SPP). u.0) (on_nodes (Rel.intersect k.fields h h2)) x r y
    call_1 D = intersects R.list.asked (relation_of R.new) (relation_of R.edge) K D

    pub no_meet : {V : Type 0} {see : V → Part} {e : Refusal} {z : Lent} → Does k.fields 0 0 nodes_in (λ (u : SPP). u.0) (Rel.intersect k.fields h h2) x (Err e) y → Goes k 192 512 (PartAt k.fields L) see whole x (Err e) z
    no_meet D = record { post = stuck (lent_laws k.fields k.limits) 192 512 (call_1 D).post second stage_0 }

    module _ {u : SPP} (D : Does k.fields 0 0 nodes_in (λ (u : SPP). u.0) (Rel.intersect k.fields h h2) x (Ok u) y) where
      list_1 : ListAsked k y m
      list_1 = list_after R.list (call_1 D) (omega arith) K.spp

      stage_1 : Run k 192 512 whole x (after (mk_union k.fields L s s2 (aut_in y)) (third u.0 (list_in x m))) y
      stage_1 = next (lent_laws k.fields k.limits) 192 512 (anywhere 192 512 (omega arith) (call_1 D)).post (all_of 192 512) second stage_0

      pub union_asked : Asked k y × PairAt y.states.count s s2
      union_asked = (list_1.asked, record { has_x = (edge_grown (call_1 D).post.then.ext.grown R.new).state; has_y = (edge_grown (call_1 D).post.then.ext.grown R.edge).state })

      module _ {z : Lent} (K2 : Keeps y z) where
        call_2 : {r : Result ℕ Refusal} → Does k.fields 192 384 aut_in (λ i. i) (mk_union k.fields L s s2) y r z → Goes k 192 384 State (λ i. i) (mk_union k.fields L s s2) y r z
        call_2 E = made list_1.asked K2 (goes_map (mk_union_goes list_1.asked.ready.good union_asked.1.has_x union_asked.1.has_y) (λ τ z w v i. i.state)) E

        pub no_union : {V : Type 0} {see : V → Part} {e : Refusal} {o : Lent} → Does k.fields 192 384 aut_in (λ (i : ℕ). i) (mk_union k.fields L s s2) y (Err e) z → Goes k 192 512 (PartAt k.fields L) see whole x (Err e) o
        no_union E = record { post = stuck (lent_laws k.fields k.limits) 192 512 (call_2 E).post (third u.0 (list_in x m)) stage_1 }

        pub meet_half : {both : ℕ} → Does k.fields 192 384 aut_in (λ i. i) (mk_union k.fields L s s2) y (Ok both) z → Half k 192 512 x m whole u (edge both u.0) z
        meet_half {both} E =
            let label = label_grown (call_2 E).post.then.ext.grown (call_1 D).post.then.holds in
            record {
              asked = record { list = list_after list_1 (call_2 E) (omega arith) K2.spp; edge = record { state = (call_2 E).post.then.holds; relation = label.at } };
              label = label;
              inside = record { from = omega arith; to = omega arith };
              stage = instead (lent_laws k.fields k.limits) 192 512 (next (lent_laws k.fields k.limits) 192 512 (call_2 E).post (record { from = omega arith; to = omega arith }) (third u.0 (list_in x m)) stage_1)
                  (ap (λ (es : List Edge). after (St.place (ops k.fields L) both u.0 es (aut_in z)) (λ fs. return (part u.0 fs))) (sym (list_same list_1 (call_2 E) (omega arith) ∙ list_same R.list (call_1 D) (omega arith))));
            }

-- ---- rest_in

module _ {k : Config} {x : Lent} {m total meet s2 h2 : ℕ} (R : RestAsked k x m total meet (edge s2 h2)) where
  abbrev Lʳ : T.Limits
  Lʳ = limits_of k.limits

  abbrev wholeʳ : Step Aut Part
  wholeʳ = rest_in k.fields Lʳ total meet (edge s2 h2) (list_in x m)

  abbrev thirdʳ : ℕ → List Edge → ℕ → Step Aut Part
  thirdʳ sum es others = St.place (ops k.fields Lʳ) s2 others es >>= λ fs. return (part sum fs)

  abbrev secondʳ : ℕ → Step Aut Part
  secondʳ sum = on_nodes (Rel.difference k.fields h2 meet) >>= thirdʳ sum (list_in x m)

  stageʳ_0 : Run k 576 128 wholeʳ x (after (on_nodes (Rel.union k.fields total meet) (aut_in x)) secondʳ) x
  unfolding rest_in
  stageʳ_0 = begin (lent_laws k.fields k.limits) 576 128 R.list.asked.ready refl

  module _ {y : Lent} (K : KeepsExprs x y) where
    sum_call : {r : Result SPP Refusal} → Does k.fields 0 0 nodes_in (λ (u : SPP). u.0) (Rel.union k.fields total meet) x r y → Goes k 0 0 (Label k.fields) (λ (u : SPP). u.0) (on_nodes (Rel.union k.fields total meet)) x r y
    sum_call D = unites R.list.asked R.at_total R.at_meet K D

    pub no_sum : {V : Type 0} {see : V → Part} {e : Refusal} {z : Lent} → Does k.fields 0 0 nodes_in (λ (u : SPP). u.0) (Rel.union k.fields total meet) x (Err e) y → Goes k 576 128 (PartAt k.fields Lʳ) see wholeʳ x (Err e) z
    no_sum D = record { post = stuck (lent_laws k.fields k.limits) 576 128 (sum_call D).post secondʳ stageʳ_0 }

    module _ {u : SPP} (D : Does k.fields 0 0 nodes_in (λ (u : SPP). u.0) (Rel.union k.fields total meet) x (Ok u) y) where
      sum_list : ListAsked k y m
      sum_list = list_after R.list (sum_call D) (omega arith) K.spp

      label_1 : Label k.fields (aut_in y) h2
      label_1 = label_grown (sum_call D).post.then.ext.grown (relation_of R.edge)

      meet_1 : Label k.fields (aut_in y) meet
      meet_1 = label_grown (sum_call D).post.then.ext.grown R.at_meet

      stageʳ_1 : Run k 576 128 wholeʳ x (after (on_nodes (Rel.difference k.fields h2 meet) (aut_in y)) (thirdʳ u.0 (list_in x m))) y
      stageʳ_1 = next (lent_laws k.fields k.limits) 576 128 (anywhere 576 128 (omega arith) (sum_call D)).post (all_of 576 128) secondʳ stageʳ_0

      pub rest_handles : Handles k.fields y h2 meet
      rest_handles = handles sum_list.asked label_1 meet_1

      module _ {z : Lent} (K2 : KeepsExprs y z) where
        rest_call : {r : Result SPP Refusal} → Does k.fields 0 0 nodes_in (λ (u : SPP). u.0) (Rel.difference k.fields h2 meet) y r z → Goes k 0 0 (Label k.fields) (λ (u : SPP). u.0) (on_nodes (Rel.difference k.fields h2 meet)) y r z
        rest_call E = subtracts sum_list.asked label_1 meet_1 K2 E

        pub no_rest : {V : Type 0} {see : V → Part} {e : Refusal} {o : Lent} → Does k.fields 0 0 nodes_in (λ (u : SPP). u.0) (Rel.difference k.fields h2 meet) y (Err e) z → Goes k 576 128 (PartAt k.fields Lʳ) see wholeʳ x (Err e) o
        no_rest E = record { post = stuck (lent_laws k.fields k.limits) 576 128 (rest_call E).post (thirdʳ u.0 (list_in x m)) stageʳ_1 }

        pub rest_half : {v : SPP} → Does k.fields 0 0 nodes_in (λ (u : SPP). u.0) (Rel.difference k.fields h2 meet) y (Ok v) z → Half k 576 128 x m wholeʳ u (edge s2 v.0) z
        rest_half {v} E = record {
          asked = record {
            list = list_after sum_list (rest_call E) (omega arith) K2.spp;
            edge = record { state = (edge_grown (rest_call E).post.then.ext.grown (edge_grown (sum_call D).post.then.ext.grown R.edge)).state; relation = (rest_call E).post.then.holds.at };
          };
          label = label_grown (rest_call E).post.then.ext.grown (sum_call D).post.then.holds;
          inside = all_of 576 128;
          stage = instead (lent_laws k.fields k.limits) 576 128 (next (lent_laws k.fields k.limits) 576 128 (anywhere 576 128 (omega arith) (rest_call E)).post (all_of 576 128) (thirdʳ u.0 (list_in x m)) stageʳ_1)
              (ap (λ (es : List Edge). after (St.place (ops k.fields Lʳ) s2 v.0 es (aut_in z)) (λ fs. return (part u.0 fs))) (sym (list_same sum_list (rest_call E) (omega arith) ∙ list_same R.list (sum_call D) (omega arith))));
        }

-- ---- split_one

module _ {k : Config} {x : Lent} {m s h total s2 h2 : ℕ} (R : MeetAsked k x m (edge s h) (edge s2 h2) × Label k.fields (aut_in x) total) where
  abbrev Lˢ : T.Limits
  Lˢ = limits_of k.limits

  abbrev one : Step Aut Part
  one = split_one k.fields Lˢ s h (edge s2 h2) (part total (list_in x m))

  abbrev half : Part → Step Aut Part
  half q = rest_in k.fields Lˢ total q.label (edge s2 h2) q.list

  stage : Run k 192 512 one x (after (meet_in k.fields Lˢ s h (edge s2 h2) (list_in x m) (aut_in x)) half) x
  unfolding split_one
  stage = begin (lent_laws k.fields k.limits) 192 512 R.0.list.asked.ready refl

  module _ {y : Lent} where
    pub not_split : {V : Type 0} {see : V → Part} {e : Refusal} {z : Lent} → Goes k 192 512 (PartAt k.fields Lˢ) (part_in y) (meet_in k.fields Lˢ s h (edge s2 h2) (list_in x m)) x (Err e) y → Goes k 192 512 (PartAt k.fields Lˢ) see one x (Err e) z
    not_split g = record { post = stuck (lent_laws k.fields k.limits) 192 512 g.post half stage }

    module _ (K : Keeps x y) {q : Met} (g : Goes k 192 512 (PartAt k.fields Lˢ) (part_in y) (meet_in k.fields Lˢ s h (edge s2 h2) (list_in x m)) x (Ok q) y) where
      pub rest_asked : RestAsked k y q.count total q.sum.0 (edge s2 h2)
      rest_asked = record {
        list = record { asked = asked_after R.0.list.asked K.spp g; list = g.post.then.holds.list; limit = R.0.list.limit };
        at_total = label_grown g.post.then.ext.grown R.1;
        at_meet = g.post.then.holds.label;
        edge = edge_grown g.post.then.ext.grown R.0.edge;
      }

      pub splits : {r : Result Met Refusal} {z : Lent} → Goes k 576 128 (PartAt k.fields Lˢ) (part_in z) (rest_in k.fields Lˢ total q.sum.0 (edge s2 h2) (list_in y q.count)) y r z → Goes k 192 512 (PartAt k.fields Lˢ) (part_in z) one x r z
      splits {r} f = record { post = finish (lent_laws k.fields k.limits) 192 512 (next (lent_laws k.fields k.limits) 192 512 g.post (all_of 192 512) half stage) r f.post (record { from = omega arith; to = omega arith }) }
