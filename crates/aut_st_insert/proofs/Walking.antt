-- The walk over the list that was, a turn for each of its transitions; and an insertion: the list is put aside, the walk, then what is left of the label.
use mathlib.Core.Path.{◌≡◌, refl, sym, ◌∙◌, ap, ap₂, subst}
use mathlib.Core.List.{List, []}
use mathlib.Core.Logic.{inl}
use Prim.Native.Nat.{ℕ, ◌+◌, ◌*◌, ◌-◌, ◌≤◌, ◌<◌}
use native.Mathlib.Omega.{arith}
use lib.ListN.{length}
use Rattle.std.specs.Prelude.{Result, Ok, Err}
use Rattle.common.specs.Outcome.{Step, after}
use Rattle.refusal.specs.declared.Refusal.{Refusal}
use Rattle.netkat_steps.specs.ListSteps as St
use Rattle.netkat_steps.specs.ListSteps.{Edge, edge}
use Rattle.spp.specs.declared.SPP.{SPP}
use Rattle.spp.specs.Clauses.{SameStore}
use Rattle.aut_steps.specs.Tables as T
use Rattle.aut_steps.specs.Tables.{Aut, on_nodes}
use Rattle.aut_steps.specs.Relations as Rel
use Rattle.aut_st_steps.specs.Operations.{ops}
use Rattle.aut_st_steps.specs.Edges.{edges, EdgeAt}
use Rattle.aut_st_steps.proofs.Edges.{edge_grown}
use Rattle.aut_st_steps.specs.ListSpec.{ListAt, Label}
use Rattle.aut_st_steps.proofs.ListSpec.{zero_label, relation_of}
use Rattle.aut_st_steps.proofs.Places.{edge_at, edges_on, edges_done, edge_at_lem}
use Rattle.aut_st_steps.specs.InsertSteps.{Part, part, PartAt, split_one, walk}
use Rattle.aut_st_steps.proofs.InsertSteps.{place_rest, insert_is}
use Rattle.aut_states.specs.Clauses.{limits_of}
use Rattle.aut_states.specs.declared.Config.{Config}
use Rattle.aut_relations.specs.declared.Aut.{Aut as Lent}
use Rattle.aut_relations.specs.Lent.{nodes_in, aut_in, Keeps, KeepsExprs, Does, Handles, Asked}
use Rattle.aut_stage.specs.OnLent.{lent_layer, Goes}
use Rattle.aut_stage.proofs.OnLent.{lent_laws, asked_after}
use Rattle.aut_stage.proofs.Rule.{Folds, Turned, begin, instead, wrote, next, stuck, finish}
use Rattle.aut_stage.proofs.Turns.{Entries, read_begin, read_at, read_stuck, read_again, read_end}
use Rattle.aut_st_edges.specs.Clauses.{Wrote, CopyReady}
use Rattle.aut_st_insert.specs.declared.Met.{Met}
use Rattle.aut_st_insert.specs.Clauses.{RESULT, TAKEN, list_in, part_in, GoesInsert}
use Rattle.aut_st_insert.specs.Asked.{ListAsked, PlaceAsked, MeetAsked, WalkAsked}
use Rattle.aut_relations.proofs.Kept.{keeps_refl, keeps_trans}
use Rattle.aut_st_insert.proofs.Join.{list_few, ready_few, list_none, list_same, list_after}
use Rattle.aut_st_insert.proofs.Calls.{Run, anywhere, handles, subtracts}

edges_none : (s : List ℕ) (a : ℕ) → edges s a 0 ≡ []
unfolding edges
edges_none s a = refl

-- ---- walk

-- i transitions are done: the tables b have become `now`, and the labels met so far and the list are p
abbrev Turns : Config → ℕ → ℕ → ℕ → Lent → Lent → Part → ℕ → Type 0
Turns k x h m b now p i = Turned (lent_layer k.fields k.limits) 192 512 (walk k.fields (limits_of k.limits) x h) (λ i. edges b.scratch.now (TAKEN + i) (m - i)) m (PartAt k.fields (limits_of k.limits))
    (walk k.fields (limits_of k.limits) x h (edges b.scratch.now TAKEN m) (part (Rel.zero_at k.fields) []) (aut_in b)) (aut_in b) (aut_in now) b.scratch.now now.scratch.now p i

pub record Walking (k : Config) (x h m : ℕ) (b now : Lent) (met : Met) (i : ℕ) : Type 0 where
  pub begun : WalkAsked k b m (edge x h)
  pub keeps : Keeps b now
  pub asked : Asked k now
  pub turned : Turns k x h m b now (part_in now met) i

folds : (N : ℕ) (L : T.Limits) (x h : ℕ) → Folds (split_one N L x h) (walk N L x h)
unfolding walk
folds N L x h = record { none = λ p σ. refl; some = λ u us p σ. refl }

module _ {k : Config} {x h m : ℕ} {b : Lent} where
  pub taken_few : WalkAsked k b m (edge x h) → m ≤ 64
  taken_few R = list_few b.scratch.now TAKEN m R.taken R.limit

  entries : WalkAsked k b m (edge x h) → Entries (lent_layer k.fields k.limits) 192 512 (EdgeAt k.fields) (aut_in b) b.scratch.now m (λ i. edges b.scratch.now (TAKEN + i) (m - i)) (λ s i. edge_at s (TAKEN + i))
  entries R = record {
    next = λ i lt. edges_on b.scratch.now TAKEN m i lt;
    none = λ i le. edges_done b.scratch.now (TAKEN + i) m i le;
    kept = λ τ s p i lt. ap₂ edge (p.above (2 * (TAKEN + i)) (omega arith) (omega (arith, taken_few R, lt))) (p.above (2 * (TAKEN + i) + 1) (omega arith) (omega (arith, taken_few R, lt)));
    at = λ τ g i lt. edge_grown g.grown (edge_at_lem b.scratch.now TAKEN m i lt R.taken.edges);
  }

  pub walk_begin : WalkAsked k b m (edge x h) → {z : SPP} → Rel.zero_at k.fields ≡ z.0 → Walking k x h m b b (record { sum = z; count = 0 }) 0
  walk_begin R e = record {
    begun = R;
    keeps = keeps_refl b;
    asked = R.asked;
    turned = subst (λ (z : ℕ). Turns k x h m b b (part z (list_in b 0)) 0) e (read_begin (lent_laws k.fields k.limits) 192 512 (folds k.fields (limits_of k.limits) x h) (entries R) R.asked.ready
        (ap₂ (λ (a n : ℕ). walk k.fields (limits_of k.limits) x h (edges b.scratch.now a n) (part (Rel.zero_at k.fields) []) (aut_in b)) {x = TAKEN} {y = TAKEN + 0} {u = m} {v = m - 0} (omega arith) (omega arith)
        ∙ ap (λ (es : List Edge). walk k.fields (limits_of k.limits) x h (edges b.scratch.now (TAKEN + 0) (m - 0)) (part (Rel.zero_at k.fields) es) (aut_in b)) (sym (edges_none b.scratch.now RESULT)))
        (record { label = zero_label R.asked.ready.good; list = (list_none R.asked R.limit).list }));
  }

  module _ {now : Lent} {met : Met} {i : ℕ} (v : Walking k x h m b now met i) where
    -- the word that is read
    pub word_in : i < m → 2 * (TAKEN + i) + 1 < length now.scratch.now
    word_in lt = omega (arith, lt, taken_few v.begun, v.asked.ready.room)

    -- the transition that is read
    module _ (lt : i < m) {u : Edge} (read : u ≡ edge_at now.scratch.now (TAKEN + i)) where
      pub split_asked : MeetAsked k now met.count (edge x h) u × Label k.fields (aut_in now) met.sum.0
      split_asked = (
        record {
          list = record { asked = v.asked; list = v.turned.holds.list; limit = v.begun.limit };
          new = edge_grown v.turned.stage.ext.grown v.begun.new;
          edge = read_at (lent_laws k.fields k.limits) 192 512 (folds k.fields (limits_of k.limits) x h) (entries v.begun) v.turned lt read;
        },
        v.turned.holds.label,
      )

      module _ {next : Lent} where
        pub walk_stuck : {V : Type 0} {see : V → Part} {e : Refusal} {z : Lent} → Goes k 192 512 (PartAt k.fields (limits_of k.limits)) (part_in next) (split_one k.fields (limits_of k.limits) x h u (part_in now met)) now (Err e) next
            → Goes k 192 512 (PartAt k.fields (limits_of k.limits)) see (walk k.fields (limits_of k.limits) x h (edges b.scratch.now TAKEN m) (part (Rel.zero_at k.fields) [])) b (Err e) z
        walk_stuck g = record { post = read_stuck (lent_laws k.fields k.limits) 192 512 (folds k.fields (limits_of k.limits) x h) (entries v.begun) v.turned lt read g.post }

        pub walk_again : {q : Met} → Keeps now next → Goes k 192 512 (PartAt k.fields (limits_of k.limits)) (part_in next) (split_one k.fields (limits_of k.limits) x h u (part_in now met)) now (Ok q) next
            → Walking k x h m b next q (i + 1)
        walk_again K g = record {
          begun = v.begun;
          keeps = keeps_trans v.keeps K;
          asked = asked_after v.asked K.spp g;
          turned = read_again (lent_laws k.fields k.limits) 192 512 (folds k.fields (limits_of k.limits) x h) (entries v.begun) v.turned lt read g.post;
        }

  pub walk_end : {now : Lent} {met : Met} {i : ℕ} → Walking k x h m b now met i → m ≤ i
      → Goes k 192 512 (PartAt k.fields (limits_of k.limits)) (part_in now) (walk k.fields (limits_of k.limits) x h (edges b.scratch.now TAKEN m) (part (Rel.zero_at k.fields) [])) b (Ok met) now
  walk_end v le = record { post = read_end (lent_laws k.fields k.limits) 192 512 (folds k.fields (limits_of k.limits) x h) (entries v.begun) v.turned le }

-- ---- insert

module _ {k : Config} {a : Lent} {m x h : ℕ} (R : ListAsked k a m × EdgeAt k.fields (aut_in a) (edge x h)) where
  abbrev L : T.Limits
  L = limits_of k.limits

  abbrev insert : Step Aut (List Edge)
  insert = St.insert (ops k.fields L) x h (list_in a m)

  abbrev rest_of : Part → Step Aut (List Edge)
  rest_of = place_rest k.fields L x h

  pub copy_ready : CopyReady a.scratch.now RESULT m TAKEN
  copy_ready = record { source = omega (arith, ready_few R.0, R.0.asked.ready.room); room = omega (arith, ready_few R.0, R.0.asked.ready.room); apart = inl (omega (arith, ready_few R.0)) }

  -- the list was put aside
  module _ (b : Lent) (W : Wrote TAKEN m (list_in a m) a.scratch.now b.scratch.now) (len : length b.scratch.now ≡ length a.scratch.now) (same : aut_in b ≡ aut_in a) (kept : SameStore a.spp b.spp) where
    stage_0 : Run k 0 832 insert a (after (walk k.fields L x h (edges b.scratch.now TAKEN m) (part (Rel.zero_at k.fields) []) (aut_in b)) rest_of) b
    stage_0 = subst (λ (τ : Aut). Run k 0 832 insert a (after (walk k.fields L x h (edges b.scratch.now TAKEN m) (part (Rel.zero_at k.fields) []) τ) rest_of) b) (sym same)
        (rw same (wrote (lent_laws k.fields k.limits) 0 832 (instead (lent_laws k.fields k.limits) 0 832 (begin (lent_laws k.fields k.limits) 0 832 R.0.asked.ready (insert_is k.fields L x h (list_in a m) (aut_in a)))
        (ap (λ (es : List Edge). after (walk k.fields L x h es (part (Rel.zero_at k.fields) []) (aut_in a)) rest_of) (sym W.is))) (record { from = omega arith; to = omega (arith, ready_few R.0) }) (omega (arith, ready_few R.0)) W.kept len))

    pub walk_asked : WalkAsked k b m (edge x h)
    walk_asked = record {
      asked = record { fields = kept.fields ∙ R.0.asked.fields; ready = stage_0.ready };
      taken = subst (λ (τ : Aut). ListAt k.fields L τ (edges b.scratch.now TAKEN m)) (sym same) (subst (ListAt k.fields L (aut_in a)) (sym W.is) R.0.list);
      limit = R.0.limit;
      new = subst (λ (τ : Aut). EdgeAt k.fields τ (edge x h)) (sym same) R.1;
    }

    module _ {c : Lent} where
      pub no_walk : {V : Type 0} {see : V → List Edge} {e : Refusal} {z : Lent} → Goes k 192 512 (PartAt k.fields L) (part_in c) (walk k.fields L x h (edges b.scratch.now TAKEN m) (part (Rel.zero_at k.fields) [])) b (Err e) c
          → Goes k 0 832 (ListAt k.fields L) see insert a (Err e) z
      no_walk g = record { post = stuck (lent_laws k.fields k.limits) 0 832 g.post rest_of stage_0 }

      module _ (K : Keeps b c) {met : Met} (g : Goes k 192 512 (PartAt k.fields L) (part_in c) (walk k.fields L x h (edges b.scratch.now TAKEN m) (part (Rel.zero_at k.fields) [])) b (Ok met) c) where
        list_1 : ListAsked k c met.count
        list_1 = record { asked = asked_after walk_asked.asked K.spp g; list = g.post.then.holds.list; limit = R.0.limit }

        new_1 : EdgeAt k.fields (aut_in c) (edge x h)
        new_1 = edge_grown g.post.then.ext.grown walk_asked.new

        abbrev last : ℕ → Step Aut (List Edge)
        last rest = St.place (ops k.fields L) x rest (list_in c met.count)

        stage_1 : Run k 0 832 insert a (after (on_nodes (Rel.difference k.fields h met.sum.0) (aut_in c)) last) c
        unfolding place_rest
        stage_1 = next (lent_laws k.fields k.limits) 0 832 g.post (record { from = omega arith; to = omega arith }) rest_of stage_0

        pub rest_handles : Handles k.fields c h met.sum.0
        rest_handles = handles list_1.asked (relation_of new_1) g.post.then.holds.label

        module _ {d : Lent} (K2 : KeepsExprs c d) where
          rest_call : {r : Result SPP Refusal} → Does k.fields 0 0 nodes_in (λ (w : SPP). w.0) (Rel.difference k.fields h met.sum.0) c r d → Goes k 0 0 (Label k.fields) (λ (w : SPP). w.0) (on_nodes (Rel.difference k.fields h met.sum.0)) c r d
          rest_call E = subtracts list_1.asked (relation_of new_1) g.post.then.holds.label K2 E

          pub no_rest : {V : Type 0} {see : V → List Edge} {e : Refusal} {z : Lent} → Does k.fields 0 0 nodes_in (λ (w : SPP). w.0) (Rel.difference k.fields h met.sum.0) c (Err e) d → Goes k 0 832 (ListAt k.fields L) see insert a (Err e) z
          no_rest E = record { post = stuck (lent_laws k.fields k.limits) 0 832 (rest_call E).post last stage_1 }

          module _ {w : SPP} (E : Does k.fields 0 0 nodes_in (λ (w : SPP). w.0) (Rel.difference k.fields h met.sum.0) c (Ok w) d) where
            pub last_placed : PlaceAsked k d met.count (edge x w.0)
            last_placed = record { list = list_after list_1 (rest_call E) (omega arith) K2.spp; edge = record { state = (edge_grown (rest_call E).post.then.ext.grown new_1).state; relation = (rest_call E).post.then.holds.at } }

            stage_2 : Run k 0 832 insert a (St.place (ops k.fields L) x w.0 (list_in d met.count) (aut_in d)) d
            stage_2 = instead (lent_laws k.fields k.limits) 0 832 (next (lent_laws k.fields k.limits) 0 832 (anywhere 0 832 (omega arith) (rest_call E)).post (record { from = omega arith; to = omega arith }) last stage_1)
                (ap (λ (es : List Edge). St.place (ops k.fields L) x w.0 es (aut_in d)) (sym (list_same list_1 (rest_call E) (omega arith))))

            pub inserted : {r : Result ℕ Refusal} {z : Lent} → Goes k 576 128 (ListAt k.fields L) (list_in z) (St.place (ops k.fields L) x w.0 (list_in d met.count)) d r z → GoesInsert k insert a r z
            inserted {r} f = record { post = finish (lent_laws k.fields k.limits) 0 832 stage_2 r f.post (record { from = omega arith; to = omega arith }) }
