-- An image read: what it comes to is what image_steps says, and the place stands as a book's does.
use Rattle.std.specs.Prelude.{Result, Ok, Err}
use mathlib.Core.Path.{◌≡◌, refl, sym, ◌∙◌, ap, subst}
use mathlib.Core.List.{List}
use Prim.Native.Nat.{ℕ, ◌+◌, ◌≤◌}
use native.Mathlib.Omega.{arith}
use lib.ListN.{length, get_or}
use lib.Seq.{get_or-drop}
use Rattle.common.specs.Outcome.{Outcome, refused, given, after}
use Rattle.cache.specs.Cache.{Sound}
use Rattle.cache.proofs.Cache.{sound_zero, sound_map}
use Rattle.refusal.specs.declared.Refusal.{Refusal}
use Rattle.refusal.specs.Numbers.{outcome}
use Rattle.aut_steps.specs.Tables.{Limits, limits01}
use Rattle.aut_relations.specs.Behind.{LISTS, cached}
use Rattle.aut_relations.specs.Lent.{aut_in}
use Rattle.aut_query_stage.specs.Layer.{Readable}
use Rattle.aut_query_stage.specs.Lent.{tables_in}
use Rattle.book_steps.specs.Run.{Lent, RunState, place, zeroed}
use Rattle.book_memory.specs.declared.Setting.{Setting}
use Rattle.book_memory.specs.declared.Place.{Place}
use Rattle.book_memory.specs.Place.{lines_in, place_in, lengths_of, SameSlices, Standing, Empty}
use Rattle.book_begin.specs.Clauses.{setting_for, OnlyNodes, Fresh, Ordered}
use Rattle.book_begin.proofs.Zero.{own_zeros, no_lines}
use Rattle.book_begin.proofs.Made.{with_all}
use Rattle.book_begin.proofs.Beginning.{readable_zero}
use Rattle.image_steps.specs.Image as Image
use Rattle.image_steps.specs.Read as Read
use Rattle.image_steps.specs.Read.{head_at, then_records, records_of, read}
use Rattle.image_steps.proofs.Reading.{IsRead, is_read}
use Rattle.image_words.specs.declared.Head.{Head}
use Rattle.image_words.specs.Clauses.{head_of}
use Rattle.image_states.specs.Clauses.{put_in}
use Rattle.image_read.specs.Clauses.{setting_by, setting_at, PostOpen, OnlyRecords, PostDiagrams, node_steps, rest_steps, PreRecords, PostRecords, Beside, PreRead, Alike, PostRead}
use Rattle.image_read.proofs.Lines.{after_both}

-- ---- the steps in two parts

module _ (image : List ℕ) (h : Image.Head) (L : Limits) where
  split : (p : RunState) → records_of image h L p ≡ after (node_steps image h L p) (λ _. rest_steps image h L)
  unfolding records_of
  split p = after_both (Read.records image h L (Read.node image h L) 2 0 0 h.sp p) (Read.records image h L (Read.relation image h L) 4 0 (Image.start_of 1 (Image.layout h)) h.spp) (rest_steps image h L)

  in_parts : (o : Outcome RunState ℕ) → then_records L image h o ≡ after (after o (λ _. node_steps image h L)) (λ _. rest_steps image h L)
  in_parts (refused number) = refl
  in_parts (given p x) = split p

-- ---- an image

-- y, with the transitions, pending entries and output of z
abbrev over : Place → Place → Place
over y z = record {
  aut = record { sp = y.aut.sp; spp = y.aut.spp; states = y.aut.states; members = y.aut.members; transitions = z.aut.transitions; pending = z.aut.pending; scratch = y.aut.scratch };
  lines = y.lines;
  output = z.output;
}

module _ (image : List ℕ) (x : Place) (P : PreRead x) where
  pub not_opened : {e : Refusal} → PostOpen image (Err e) → (y : Place) → PostRead image x (Err e) y
  not_opened O y = record { is = λ z A. O.is (lengths_of z) limits01; then = tt }

  module _ (h : Head) (O : PostOpen image (Ok h)) where
    by_nodes : {r : Result Unit Refusal} {y : Place} → PostDiagrams image h r y → (z : Place) → Fresh y z → z.output.at ≡ 0 → read (lengths_of z) limits01 image ≡ after (outcome {A = ℕ} (λ u. 0) r (place_in z)) (λ _. rest_steps image (head_of h) limits01)
    by_nodes D z F at =
        O.is (lengths_of z) limits01
        ∙ in_parts image (head_of h) limits01 (Read.fresh (lengths_of z) h.fields)
        ∙ ap (λ (o : Outcome RunState ℕ). after o (λ _. rest_steps image (head_of h) limits01)) (D.is z F at limits01)

    module _ (y : Place) (K : OnlyNodes h.fields x y) where
      over_fresh : (z : Place) → z.aut.transitions.words.now ≡ zeroed (length z.aut.transitions.words.now) → z.aut.transitions.count ≡ 0 → z.aut.pending.now ≡ zeroed (length z.aut.pending.now) → Fresh y (over y z)
      over_fresh z t n p = record {
        sp = refl;
        spp = refl;
        states = rw K.aut.states P.states;
        members = rw K.aut.members P.members;
        transitions = t;
        pending = p;
        lines = rw K.lines P.lines;
        scratch = rw K.aut.scratch P.scratch;
        no_states = rw K.aut.states P.no_states;
        no_members = rw K.aut.members P.no_members;
        no_transitions = n;
        no_lines = rw K.lines P.no_lines;
      }

      pub no_diagrams : {e : Refusal} → PostDiagrams image h (Err e) y → PostRead image x (Err e) y
      no_diagrams D = record {
        is = λ z A.
            let lengths : lengths_of z ≡ lengths_of (over y z) = rw (A.sp, A.spp, A.states, A.members, A.scratch, A.lines) refl in
            ap (λ (l : Lent). read l limits01 image) lengths ∙ by_nodes D (over y z) (over_fresh z A.transitions A.no_transitions A.pending) A.silent;
        then = tt;
      }

      module _ (D : PostDiagrams image h (Ok tt) y) where
        pub records_ready : PreRecords h y
        records_ready =
            let z : Place = over y (with_all y x.aut.scratch) in
            let o : Ordered h.fields z = D.then z (over_fresh (with_all y x.aut.scratch) P.scratch refl P.scratch) in
            record {
              automaton = record { good = o.tables.worked.good; room = let m : LISTS ≤ length y.aut.scratch.now = rw K.aut.scratch P.room in omega (arith, m) };
              no_lines = rw K.lines P.no_lines;
              table = rw K.lines P.table;
            }

        module _ (v : Place) (M : OnlyRecords y v) where
          module _ (z : Place) (A : Alike v z) where
            F : Fresh y (over y z)
            F = over_fresh z A.transitions A.no_transitions A.pending

            by_records : {r : Result Unit Refusal} → PostRecords image h y r v → read (lengths_of z) limits01 image ≡ outcome {A = ℕ} (λ u. 0) r (place_in z)
            by_records {r} R =
                let lengths : lengths_of z ≡ lengths_of (over y z) = rw (A.sp, A.spp, A.states, A.members, A.scratch, A.lines, M.aut.sp, M.aut.spp, M.aut.states.length, M.aut.members.length, M.aut.scratch.length, M.lines.length) refl in
                let p : RunState = place_in (over y z) in
                let placed : place (put_in (aut_in v.aut) p).tables (lines_in v) p.output ≡ place_in z = rw (A.sp, A.spp, A.states, A.members, A.lines, M.aut.sp) refl in
                ap (λ (l : Lent). read l limits01 image) lengths
                ∙ by_nodes D (over y z) F A.silent
                ∙ R.is p refl (no_lines y.lines.words.now (rw K.lines P.no_lines))
                ∙ ap (outcome {A = ℕ} (λ u. 0) r) placed

            -- the place stands, if it is what is read
            stands : PostRecords image h y (Ok tt) v → Standing (setting_at image) z
            stands R =
                let I : IsRead (lengths_of z) limits01 image (place_in z) = is_read limits01 (omega arith) (lengths_of z) image (by_records R) in
                let e : head_of h ≡ head_at image = O.then.is in
                let o : Ordered h.fields (over y z) = D.then (over y z) F in
                let room : LISTS ≤ length y.aut.scratch.now = rw K.aut.scratch P.room in
                let empty : (i : ℕ) → get_or (cached v.aut.scratch.now) i 0 ≡ 0
                = λ i. get_or-drop LISTS v.aut.scratch.now i 0 ∙ R.then.kept.above (LISTS + i) (omega arith) ∙ rw K.aut.scratch (own_zeros P.scratch (LISTS + i)) in
                let s : Sound (Readable (head_at image).fields (tables_in z.aut)) (cached z.aut.scratch.now) = sound_zero {m = cached z.aut.scratch.now} (readable_zero (head_at image).fields (tables_in z.aut)) (λ i l. rw A.scratch (empty i)) in
                record {
                  fields = rw (A.spp, M.aut.spp) (o.fields ∙ ap (λ (g : Image.Head). g.fields) e);
                  ready = record {
                    ready = record {
                      few = I.opened.fits.fields;
                      good = I.held.ordered.worked.good;
                      room = rw A.scratch (omega (arith, M.aut.scratch.length, room));
                      sound = sound_map (λ o x y r v. v.relations) s;
                      list = omega arith;
                      products = omega arith;
                    };
                    ordered = I.held.ordered;
                    limit = omega arith;
                    sound = s;
                    resting = I.held.room.zero;
                  };
                  pending = own_zeros A.pending;
                  table = rw A.lines (M.lines.length ∙ rw K.lines P.table);
                  lines = rw A.lines (omega (arith, R.then.lined.count, ap (λ (g : Image.Head). g.lines) e, I.opened.fits.lines));
                  named = rw (A.lines, A.states) R.then.lined.named;
                }

          pub no_records : {e : Refusal} → PostRecords image h y (Err e) v → PostRead image x (Err e) v
          no_records R = record { is = λ z A. by_records z A R; then = tt }

          pub read_done : PostRecords image h y (Ok tt) v → {S : Setting} → S ≡ setting_by h → PostRead image x (Ok S) v
          read_done R {S} q =
              let e : S ≡ setting_at image = q ∙ ap (λ (g : Image.Head). setting_for (record { fields = g.fields; budget = g.budget })) O.then.is in
              record {
                is = λ z A. by_records z A R;
                then = record {
                  setting = e;
                  standing = λ z A. subst (λ (S : Setting). Standing S z) (sym e) (stands z A R);
                  silent = λ at. rw (M.output ∙ K.output) at;
                  some = O.then.some;
                };
              }

-- ---- of a place that was empty, the promise is of the place itself

module _ {x y : Place} (E : Empty x) (K : SameSlices x y) (B : Beside x y) where
  alike_itself : Alike y y
  alike_itself = record {
    sp = refl;
    spp = refl;
    states = refl;
    members = refl;
    scratch = refl;
    lines = refl;
    transitions = rw B.transitions E.transitions;
    no_transitions = rw B.transitions E.no_transitions;
    pending = rw B.pending E.pending;
    silent = rw B.output E.no_output;
  }

  pub read_itself : {image : List ℕ} {r : Result Setting Refusal} → PostRead image x r y → read (lengths_of x) limits01 image ≡ outcome (λ S. 0) r (place_in y)
  read_itself {image} R = ap (λ (l : Lent). read l limits01 image) (sym lengths) ∙ R.is y alike_itself
    where
      lengths : lengths_of y ≡ lengths_of x
      lengths = rw (K.sp.length, K.spp.length, K.states.length, K.members.length, K.transitions.length, K.pending.length, K.lines.length, K.scratch.length, K.output.length) refl

  pub stands_itself : {image : List ℕ} {S : Setting} → PostRead image x (Ok S) y → Standing S y
  stands_itself R = R.then.standing y alike_itself
