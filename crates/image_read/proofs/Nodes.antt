-- The constants, then the records of packet nodes and of relation nodes.
use Rattle.std.specs.Prelude.{Result, Ok, Err, OnOk}
use mathlib.Core.Path.{◌≡◌, refl, sym, ◌∙◌, ap, ap₂, subst}
use mathlib.Core.List.{List}
use Prim.Native.Nat.{ℕ, ◌+◌, ◌*◌, max}
use native.Mathlib.Omega.{arith}
use Rattle.slices.specs.Same.{SameSlice}
use Rattle.common.specs.Outcome.{Outcome, refused, after}
use Rattle.refusal.specs.declared.Refusal.{Refusal}
use Rattle.refusal.specs.Numbers.{number_of, outcome}
use Rattle.sp.specs.Clauses as sets
use Rattle.sp.specs.declared.SPstore.{SPstore}
use Rattle.spp.specs.Clauses as relations
use Rattle.spp.specs.declared.SPPstore.{SPPstore}
use Rattle.aut_steps.specs.Tables.{Limits, limits01, put_nodes}
use Rattle.aut_steps.proofs.Wf.{grown_nodes}
use Rattle.aut_steps.proofs.StepSpec.{good_nodes}
use Rattle.aut_delta_steps.specs.Fits.{Since}
use Rattle.aut_delta_steps.proofs.Wf.{worked_since}
use Rattle.aut_delta_steps.proofs.Extends.{went_since}
use Rattle.aut_query_steps.specs.Tables.{WfTables, put_sets}
use Rattle.aut_query_steps.proofs.Steps.{ordered_sets, ordered_base}
use Rattle.aut_relations.specs.Lent.{aut_in, Unless}
use Rattle.aut_query_stage.specs.Lent.{tables_in}
use Rattle.book_steps.specs.Run.{Lent, RunState}
use Rattle.book_memory.specs.declared.Place.{Place}
use Rattle.book_memory.specs.Place.{place_in, lengths_of}
use Rattle.image_steps.specs.Image as Image
use Rattle.image_steps.specs.Image.{layout, start_of}
use Rattle.image_steps.specs.Read as Read
use Rattle.image_words.specs.declared.Head.{Head}
use Rattle.image_words.specs.Clauses.{head_of, Reaches}
use Rattle.image_words.proofs.Words.{start_1, start_5}
use Rattle.image_nodes.specs.Clauses as nodes
use Rattle.image_nodes.specs.Clauses.{packets, PreNode, Grown, PostNodes}
use Rattle.book_begin.specs.Clauses.{Fresh, Ordered, PreConstants, PostConstants}
use Rattle.book_begin.proofs.Made.{nodes_at, with_all, fresh_with}
use Rattle.image_read.specs.Clauses.{Fitting, node_steps, PreDiagrams, PostDiagrams}
use Rattle.image_read.proofs.Constants.{fresh_is}
use Rattle.image_read.proofs.Ending.{fits, reaching}

-- z has these nodes
at_nodes : {y z : Place} → Fresh y z → nodes_at z y.aut.sp y.aut.spp ≡ z
at_nodes {y} {z} F = ap₂ (nodes_at z) (sym F.sp) (sym F.spp)

-- .. and with others is as fresh
with_nodes : {y z : Place} (s : SPstore) (t : SPPstore) (x : Place) → Fresh y z → x.aut.sp ≡ s → x.aut.spp ≡ t → Fresh x (nodes_at z s t)
with_nodes s t x F a b = record { sp = sym a; spp = sym b; states = F.states; members = F.members; transitions = F.transitions; pending = F.pending; lines = F.lines; scratch = F.scratch; no_states = F.no_states; no_members = F.no_members; no_transitions = F.no_transitions; no_lines = F.no_lines }

module _ (image : List ℕ) (h : Head) (x : Place) (fit : Fitting image h) (P : PreDiagrams x) where
  abbrev N : ℕ
  N = h.fields

  abbrev g : Image.Head
  g = head_of h

  -- the steps, and those behind the packet nodes
  abbrev all : Lent → Limits → Outcome RunState ℕ
  all lent L = after (Read.fresh lent N) (λ _. node_steps image g L)

  abbrev later : Limits → Outcome RunState ℕ → Outcome RunState ℕ
  later L o = after o (λ _. Read.records image g L (Read.relation image g L) 4 0 (start_of 1 (layout g)) h.spp)

  pub constants_ready : PreConstants h.fields x
  constants_ready = record { few = (fits image h fit).fields; sp = P.sp; spp = P.spp }

  pub no_constants : {e : Refusal} (y : Place) → PostConstants h.fields (Err e) y → PostDiagrams image h (Err e) y
  no_constants {e} y B = record { is = λ z F at L. ap (λ (o : Outcome RunState ℕ). after o (λ _. node_steps image g L)) (fresh_is N (Err e) B z F at); then = tt }

  module _ (x₁ : Place) (B : PostConstants h.fields (Ok tt) x₁) where
    -- with the slice of packet nodes, as it was, for what is lent beside
    begun : Ordered N (with_all x₁ x.aut.sp.nodes)
    begun = B.then (with_all x₁ x.aut.sp.nodes) (fresh_with P.sp)

    pub nodes_ready : PreNode packets h.fields (sets.store_of x₁.aut.sp) 0 × Reaches image (2 * h.sp)
    nodes_ready = (record { wf = begun.tables.sets; near = omega arith }, reaching image h fit (2 * h.sp) (omega (arith, start_5 (head_of h))))

    module _ (s : SPstore) (a : SameSlice x₁.aut.sp.nodes s.nodes) {m : Result Unit Refusal} (F : PostNodes packets image h.fields 0 h.sp (sets.store_of x₁.aut.sp) m (sets.store_of s)) where
      -- the steps with these packet nodes, among what is lent at z
      by_nodes : (t : SPPstore) → SameSlice x₁.aut.spp.nodes t.nodes → (z : Place) → Fresh (nodes_at x₁ s t) z → z.output.at ≡ 0 → (L : Limits)
          → all (lengths_of (nodes_at z s t)) L ≡ later L (outcome (λ u. 0) m (packets.put (sets.store_of s) (place_in (nodes_at z x₁.aut.sp x₁.aut.spp))))
      by_nodes t b z G at L =
          let z₁ : Place = nodes_at z x₁.aut.sp x₁.aut.spp in
          let lengths : lengths_of (nodes_at z s t) ≡ lengths_of z₁ = rw (a.length, b.length) refl in
          ap (λ (lent : Lent). all lent L) lengths
          ∙ ap (λ (o : Outcome RunState ℕ). after o (λ _. node_steps image g L)) (fresh_is N (Ok tt) B z₁ (with_nodes x₁.aut.sp x₁.aut.spp x₁ G refl refl) at)
          ∙ ap (later L) (F.is g L (place_in z₁) refl refl)

    pub no_nodes : (s : SPstore) {e : Refusal} → SameSlice x₁.aut.sp.nodes s.nodes → PostNodes packets image h.fields 0 h.sp (sets.store_of x₁.aut.sp) (Err e) (sets.store_of s) → PostDiagrams image h (Err e) (nodes_at x₁ s x₁.aut.spp)
    no_nodes s {e} a F = record {
      is = λ z G at L.
          subst (λ (w : Place). all (lengths_of w) L ≡ refused (number_of e)) (at_nodes G) (by_nodes s a F x₁.aut.spp (record { lent = refl; length = refl }) z G at L);
      then = tt;
    }

    module _ (s : SPstore) (F : PostNodes packets image h.fields 0 h.sp (sets.store_of x₁.aut.sp) (Ok tt) (sets.store_of s)) where
      pub relations_ready : PreNode nodes.relations x₁.aut.spp.fields (relations.store_of x₁.aut.spp) 0 × Reaches image (2 * h.sp + 4 * h.spp)
      relations_ready = (
        rw begun.fields (record { wf = begun.tables.worked.good.nodes; near = omega arith }),
        reaching image h fit (2 * h.sp + 4 * h.spp) (omega (arith, start_5 (head_of h))),
      )

      module _ (a : SameSlice x₁.aut.sp.nodes s.nodes) (t : SPPstore) (b : relations.SameStore x₁.aut.spp t) where
        -- the tables are in order
        in_order : (k : Result Unit Refusal) → OnOk k (Grown nodes.relations x₁.aut.spp.fields (relations.store_of x₁.aut.spp) (max x₁.aut.spp.count h.spp) (relations.store_of t)) → Unless k ((z : Place) → Fresh (nodes_at x₁ s t) z → Ordered h.fields z)
        in_order (Err e) y = tt
        in_order (Ok v) y =
            let y : Grown nodes.relations N (relations.store_of x₁.aut.spp) (max x₁.aut.spp.count h.spp) (relations.store_of t) = rw begun.fields at y in
            λ z G.
            let z₁ : Place = nodes_at z x₁.aut.sp x₁.aut.spp in
            let B₁ : Ordered N z₁ = B.then z₁ (with_nodes x₁.aut.sp x₁.aut.spp x₁ G refl refl) in
            let o : WfTables N limits01 (put_sets (sets.store_of s) (tables_in z₁.aut)) = ordered_sets B₁.tables F.then.ext F.then.wf in
            let w : Since N limits01 (aut_in z₁.aut) (put_nodes (relations.store_of t) (aut_in z₁.aut)) = record { grown = grown_nodes {σ = aut_in z₁.aut} y.ext; memos = λ i w l k. refl; good = good_nodes o.worked.good y.ext y.wf } in
            subst (Ordered h.fields) (at_nodes G) (record { fields = b.fields ∙ begun.fields; tables = ordered_base o (went_since w) (worked_since o.worked w) })

        pub diagrams : {k : Result Unit Refusal} → PostNodes nodes.relations image x₁.aut.spp.fields (2 * h.sp) h.spp (relations.store_of x₁.aut.spp) k (relations.store_of t) → PostDiagrams image h k (nodes_at x₁ s t)
        diagrams {k} R = record {
          is = λ z G at L.
              let z₁ : Place = nodes_at z x₁.aut.sp x₁.aut.spp in
              subst (λ (w : Place). all (lengths_of w) L ≡ outcome (λ u. 0) k (place_in w)) (at_nodes G)
              (by_nodes s a F t b.nodes z G at L
              ∙ ap (λ (i : ℕ). Read.records image g L (Read.relation image g L) 4 0 i h.spp (packets.put (sets.store_of s) (place_in z₁))) (start_1 g)
              ∙ R.is g L (packets.put (sets.store_of s) (place_in z₁)) (sym begun.fields) refl);
          then = in_order k R.then;
        }
