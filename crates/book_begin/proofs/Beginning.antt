-- The constants, and the first line of the output.
use Rattle.std.specs.Prelude.{if◌then◌else◌}
use Rattle.std.specs.Prelude as code
use mathlib.Core.Path.{◌≡◌, refl, sym, ◌∙◌, ap, ap₂, subst}
use mathlib.Core.Bool.{Bool}
use mathlib.Core.Logic.{⊎_elim}
use mathlib.Core.List.{List, [], ◌++◌}
use mathlib.Core.Option.{Option}
use Prim.Native.Nat.{ℕ, ◌+◌, ◌*◌, ◌≤◌, ◌<◌}
use native.Mathlib.Omega.{arith}
use lib.Dec.{leb}
use lib.ListN.{length, take}
use lib.Seq.{get_or-drop}
use borrow.Author.Tests.{le-ltb, le-leb, lt-leb}
use Rattle.slices.specs.Same.{SameSlice}
use Rattle.common.specs.Outcome.{Outcome, refused, given}
use Rattle.common.specs.Runs.{Table, table}
use Rattle.refusal.specs.declared.Refusal.{Refusal}
use Rattle.refusal.specs.Numbers.{number_of}
use Rattle.cache.specs.Cache.{Sound}
use Rattle.cache.proofs.Cache.{sound_zero, sound_map}
use Rattle.sp_steps.specs.Model as Sp
use Rattle.sp_steps.proofs.Reuse.{valid_not, code_range}
use Rattle.spp_steps.specs.Model as Spp
use Rattle.aut_query_steps.specs.Tables.{Tables}
use Rattle.aut_relations.specs.Behind.{LISTS, cached}
use Rattle.aut_query_stage.specs.Layer.{Readable, QueryReady}
use Rattle.aut_query_stage.specs.Lent.{tables_in}
use Rattle.book_steps.specs.Answers.{fields_answer}
use Rattle.book_steps.specs.Reader as Reader
use Rattle.book_steps.specs.Run as Run
use Rattle.book_steps.specs.Run.{Lent, zeroed, place}
use Rattle.book_writer.specs.Clauses.{Answers}
use Rattle.book_writer.specs.declared.output.Output.{Output}
use Rattle.book_writer.proofs.Contracts.{put_take}
use Rattle.book_memory.specs.declared.Place.{Place}
use Rattle.book_memory.specs.Place.{LINES, Empty, Standing, lines_in, lengths_of}
use Rattle.book_begin.specs.declared.Header.{Header}
use Rattle.book_begin.specs.Clauses.{header_of, limits, setting_for, OnlyNodes, OnlyBegun, new_tables, constants, Fresh, Ordered, PostConstants, PreBegin, begun_of, Begins, PostBegin}
use Rattle.book_begin.proofs.Zero.{own_zeros, no_lines}
use Rattle.book_begin.proofs.Made.{fresh_itself}

-- ---- an empty cache

pub readable_zero : (N : ℕ) (σ : Tables) → Readable N σ 0 0 0 0
readable_zero N σ = record {
  relations = λ l h. absurd (omega arith);
  images = record { sets = valid_not (λ c. ⊎_elim (λ e. omega arith) (λ e. omega arith) (code_range c)); images = λ l h. absurd (omega arith) };
  numbers = λ l h. absurd (omega arith);
}

-- ---- what else is as it was

pub only_nodes : {N : ℕ} {x y : Place} → OnlyNodes N x y → OnlyBegun N x y
only_nodes K = record { aut = K.aut; lines = K.lines; output = rw K.output (record { lent = refl; length = refl }) }

pub only_line : {N : ℕ} {x y : Place} → OnlyNodes N x y → (o : Output) → SameSlice y.output.bytes o.bytes → OnlyBegun N x (record { aut = y.aut; lines = y.lines; output = o })
only_line K o s = record { aut = K.aut; lines = K.lines; output = subst (λ (q : Output). SameSlice q.bytes o.bytes) K.output s }

-- ---- the first line

-- what the tables of the constants and the first line come to
abbrev with_line : Lent → ℕ → Outcome Tables ℕ → Outcome Run.RunState ℕ
with_line lent N (refused e) = refused e
with_line lent N (given σ z) = if leb (length (fields_answer N)) lent.output then given (place σ [] (fields_answer N)) 0 else refused 27

begun_line : (lent : Lent) (h : Reader.Header) (o : Outcome Table ℕ) (r : Outcome Table Spp.Constants) → Run.begun lent h o r ≡ with_line lent h.fields (new_tables lent o r)
begun_line lent h (refused e) r = refl
begun_line lent h (given s z) (refused e) = refl
begun_line lent h (given s z) (given r c) = refl

module _ (h : Header) (x : Place) (P : PreBegin h x) where
  begin_by : (L : Lent) {o : Outcome Tables ℕ} → constants L h.fields ≡ o → Run.begin L (header_of h) ≡ with_line L h.fields o
  unfolding Run.begin
  begin_by L e =
      ap (λ (b : Bool). if b then refused 2 else Run.begun L (header_of h) (Sp.constants h.fields (table (zeroed L.sp) 0)) (Spp.constants h.fields (table (zeroed L.spp) 0))) (le-ltb 31 h.fields P.few)
      ∙ begun_line L (header_of h) (Sp.constants h.fields (table (zeroed L.sp) 0)) (Spp.constants h.fields (table (zeroed L.spp) 0))
      ∙ ap (with_line L h.fields) e

  module _ {y : Place} (K : OnlyNodes h.fields x y) where
    pub begin_not : {e : Refusal} → PostConstants h.fields (code.Err e) y → PostBegin h x (code.Err e) y
    begin_not C = record { is = λ at z F u. begin_by (lengths_of z) (C.is z F); then = K.output }

    module _ (C : PostConstants h.fields (code.Ok tt) y) (o : Output) where
      -- the place behind the first line, if the output is o
      abbrev w : Place
      w = record { aut = y.aut; lines = y.lines; output = o }

      module _ (z : Place) (F : Fresh w z) where
        -- .. is as fresh behind the constants
        constants_fresh : Fresh y z
        constants_fresh = record { sp = F.sp; spp = F.spp; states = F.states; members = F.members; transitions = F.transitions; pending = F.pending; lines = F.lines; scratch = F.scratch; no_states = F.no_states; no_members = F.no_members; no_transitions = F.no_transitions; no_lines = F.no_lines }

        both_by : {t : Bool} → leb (length (fields_answer h.fields)) (length z.output.bytes.now) ≡ t → Run.begin (lengths_of z) (header_of h) ≡ (if t then given (place (tables_in z.aut) [] (fields_answer h.fields)) 0 else refused 27)
        both_by u = begin_by (lengths_of z) (C.is z constants_fresh) ∙ ap (λ (t : Bool). if t then given (place (tables_in z.aut) [] (fields_answer h.fields)) 0 else refused 27) u

        none : lines_in z ≡ []
        none = no_lines z.lines.words.now F.no_lines

        standing : length z.lines.words.now ≡ LINES → LISTS ≤ length z.aut.scratch.now → Standing (setting_for h) z
        standing len room =
            let B : Ordered h.fields z = C.then z constants_fresh in
            let s : Sound (Readable h.fields (tables_in z.aut)) (cached z.aut.scratch.now) = sound_zero (readable_zero h.fields (tables_in z.aut)) (λ i k. get_or-drop LISTS z.aut.scratch.now i 0 ∙ own_zeros F.scratch (LISTS + i)) in
            let q : QueryReady h.fields limits (tables_in z.aut) z.aut.scratch.now = record {
              ready = record { few = P.few; good = B.tables.worked.good; room = room; sound = sound_map (λ op x y r v. v.relations) s; list = omega arith; products = omega arith };
              ordered = B.tables;
              limit = omega arith;
              sound = s;
              resting = λ x' w k m. own_zeros F.states (12 * x' + w);
            } in
            record {
              fields = B.fields;
              ready = q;
              pending = own_zeros F.pending;
              table = len;
              lines = let e : z.lines.count ≡ 0 = F.no_lines in omega arith;
              named = rw none (λ i x g. absurd (cc));
            }

      pub begin_said : (q : code.Result Unit Refusal) → Answers (fields_answer h.fields) y.output q o → PostBegin h x q w
      begin_said (code.Ok u) told =
          let told : Answers (fields_answer h.fields) x.output (code.Ok u) o = rw K.output at told in
          record {
            is = λ at z F e.
                let room : length (fields_answer h.fields) ≤ length z.output.bytes.now = let m : length z.output.bytes.now ≡ length o.bytes.now = ap (λ (p : Output). length p.bytes.now) e in omega (arith, told.behind, told.room, told.wrote.len) in
                both_by z F (le-leb (length (fields_answer h.fields)) (length z.output.bytes.now) room)
                ∙ ap₂ (λ (ls : List (Option ℕ)) (bs : List ℕ). given (place (tables_in z.aut) ls bs) 0) (sym (none z F))
                (sym (ap (λ (p : Output). take p.at p.bytes.now) e ∙ put_take told ∙ ap (λ (n : ℕ). take n x.output.bytes.now ++ fields_answer h.fields) at));
            then = record {
              standing = λ z F. standing z F;
              pending = K.aut.pending;
              table = K.lines;
              bytes = told.wrote.len;
              onto = record { from = omega (arith, told.behind); beyond = λ j l. told.wrote.above j (omega (arith, told.behind)) };
            };
          }
      begin_said (code.Err e) told = record {
        is = λ at z F u.
            let full : length z.output.bytes.now < length (fields_answer h.fields) =
            let m : length z.output.bytes.now ≡ length y.output.bytes.now = ap (λ (p : Output). length p.bytes.now) (u ∙ told.2) in
            let n : y.output.at ≡ 0 = ap (λ (p : Output). p.at) K.output ∙ at in
            omega (arith, told.1, m, n) in
            both_by z F (lt-leb (length (fields_answer h.fields)) (length z.output.bytes.now) full) ∙ ap (λ (x : Refusal). refused (number_of x)) (sym told.0);
        then = told.2 ∙ K.output;
      }

-- ---- of a place that was empty, the promise is of the place itself

module _ (h : Header) {x y : Place} (E : Empty x) (K : OnlyBegun h.fields x y) where
  pub begin_itself : {r : code.Result Unit Refusal} → PostBegin h x r y → Run.begin (lengths_of x) (header_of h) ≡ begun_of r y
  begin_itself B = ap (λ (l : Lent). Run.begin l (header_of h)) (sym lengths) ∙ B.is E.no_output y (fresh_itself E K.aut K.lines) refl
    where
      lengths : lengths_of y ≡ lengths_of x
      lengths = rw (K.aut.sp.length, K.aut.spp.nodes.length, K.aut.states, K.aut.members, K.aut.transitions, K.aut.pending, K.aut.scratch, K.lines, K.output.length) refl

  pub standing_itself : Begins h x y → length x.lines.words.now ≡ LINES → LISTS ≤ length x.aut.scratch.now → Standing (setting_for h) y
  standing_itself B len room = B.standing y (fresh_itself E K.aut K.lines) (rw K.lines len) (rw K.aut.scratch room)
