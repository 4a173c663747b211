-- A whole book: from zeroed tables to what is returned and left.
use Rattle.std.specs.Prelude.{if◌then◌else◌}
use Rattle.std.specs.Prelude as code
use Rattle.std.specs.Result.{IsErr, IsErrAnd}
use mathlib.Core.Path.{◌≡◌, refl, sym, ◌∙◌, ap, ap₂, subst}
use mathlib.Core.Bool.{Bool}
use mathlib.Core.List.{List, [], ◌++◌}
use Prim.Native.Nat.{ℕ, ◌+◌, ◌≤◌, ◌<◌}
use native.Mathlib.Omega.{arith}
use lib.Dec.{ltb}
use lib.ListN.{length, get_or, take, length-append}
use lib.Seq.{length-take-le, get_or-take}
use borrow.Author.Tests.{lt-ltb, le-ltb}
use Rattle.std.proofs.lemmas.List.{replicate-append-replicate}
use Rattle.common.specs.Outcome.{refused}
use Rattle.common.specs.Runs.{table}
use Rattle.refusal.specs.declared.Refusal.{Refusal}
use Rattle.refusal.specs.declared.Refusal.TheVariants as refusals
use Rattle.refusal.proofs.Passed.{passed}
use Rattle.sp_steps.specs.Model as Sp
use Rattle.spp_steps.specs.Model as Spp
use Rattle.book_steps.specs.Text.{cut}
use Rattle.book_steps.specs.Reader as Reader
use Rattle.book_steps.specs.Run as Run
use Rattle.book_steps.specs.Run.{Lent, zeroed, Result, outcome, Came, failed, came_of, headed_book, started_book, opened_book, ran_book, finished}
use Rattle.book_steps.specs.Claim.{Slices, Lends, WritesOnly, Refines, EntrySpec}
use Rattle.book_steps.proofs.Claim as Claim
use Rattle.book_steps.proofs.Finished.{book_finished}
use Rattle.book_reader.specs.Clauses.{Begins, rest, heading_of}
use Rattle.book_reader.specs.declared.Cursor.{Cursor}
use Rattle.book_memory.specs.declared.Setting.{Setting}
use Rattle.book_memory.specs.declared.Place.{Place}
use Rattle.book_memory.specs.declared.Memory.{Memory}
use Rattle.book_memory.specs.Place.{lengths_of, memory_of, Empty}
use Rattle.book_writer.specs.declared.output.Output.{Output}
use Rattle.book_finish.specs.declared.Stop.{Stop}
use Rattle.book_finish.specs.Clauses.{Wrote, came_by, written_by, PostFinish, number_of, text_line_of, length_of}
use Rattle.book_run.specs.Clauses.{ComesTo, went_of, PostGo, PostEnough, Starts, StartsNot, PreOpen, PostOpen, lent_of, slices_in, Table, RunsIn}

-- ---- the header

wide : (lent : Lent) (h : Reader.Header) → 31 < h.fields → Run.begin lent h ≡ refused 2
unfolding Run.begin
wide lent h l = ap (λ (b : Bool). if b then refused 2 else Run.begun lent h (Sp.constants h.fields (table (zeroed lent.sp) 0)) (Spp.constants h.fields (table (zeroed lent.spp) 0))) (lt-ltb 31 h.fields l)

pub started_wide : (book : List ℕ) (x : Place) {c : Cursor} {after : List ℕ} {g : code.Option (ℕ × ℕ)} {n b : ℕ} → Begins book c after → Reader.header (rest c) ≡ heading_of g → g ≡ code.Some (n, b) → 31 < n → StartsNot book x refusals.Fields x
started_wide book x {after = after} {n = n} {b = b} B H f l = record {
  is = ap (opened_book (lengths_of x)) B.is
      ∙ ap (λ o. headed_book (lengths_of x) o after) (ap Reader.header (sym B.words) ∙ H ∙ ap heading_of f)
      ∙ ap (started_book (lengths_of x) (record { fields = n; budget = b }) after) (wide (lengths_of x) (record { fields = n; budget = b }) l);
  output = refl;
}

-- ---- a run from zeroed tables

by_scratch : (lent : Lent) (book : List ℕ) {b : Bool} → ltb lent.scratch 6144 ≡ b → ran_book lent book ≡ (if b then failed 26 0 [] else opened_book lent (cut book))
unfolding ran_book
by_scratch lent book e = ap (λ (b : Bool). if b then failed 26 0 [] else opened_book lent (cut book)) e

unwritten : {out out' : List ℕ} → out' ≡ out → Wrote 0 out out'
unwritten e = record { fits = omega arith; beyond = λ i l. ap (λ (o : List ℕ). get_or o i 0) e }

module _ (book : List ℕ) (x : Place) where
  pub open_short : (s : Stop) → PostEnough x (code.Err s) → PostOpen book x (code.Err s) x
  open_short s (l, e) = rw e (record { is = by_scratch (lengths_of x) book (lt-ltb (length x.lines.words.now + length x.aut.scratch.now) 6144 l); ends = tt; wrote = unwritten refl })

  module _ (l : 6144 ≤ length x.lines.words.now + length x.aut.scratch.now) where
    open_by : ran_book (lengths_of x) book ≡ opened_book (lengths_of x) (cut book)
    open_by = by_scratch (lengths_of x) book (le-ltb (length x.lines.words.now + length x.aut.scratch.now) 6144 l)

    pub open_not : {e : Refusal} {s : Stop} {y : Place} → s ≡ record { refusal = e; line = 1; length = 0 } → StartsNot book x e y → PostOpen book x (code.Err s) y
    open_not q s = rw q (record { is = open_by ∙ s.is; ends = tt; wrote = unwritten (ap (λ (o : Output). o.bytes.now) s.output) })

    module _ {S : Setting} {after : List ℕ} {y : Place} (s : Starts book x S after y) where
      pub open_went : {w : code.Result Setting Stop} {r : code.Result Unit Stop} {z : Place} → PostGo after S y 2 Run.instructions r z → w ≡ went_of S r → PostOpen book x w z
      open_went {w} {r} {z} g e = rw e (record {
        is = open_by ∙ s.is ∙ g.comes.is;
        ends = g.comes.ends;
        wrote = record {
          fits = omega (arith, g.comes.wrote.fits, s.bytes);
          beyond = λ i k. g.comes.wrote.beyond i k ∙ s.onto.beyond i (omega (arith, g.on));
        };
      })

      pub open_stopped : {e : Stop} {q : code.Result Setting Stop} {z : Place} → PostGo after S y 2 Run.instructions (code.Err e) z → IsErr q × IsErrAnd q (λ a. a ≡ e) → PostOpen book x q z
      open_stopped g by = open_went g (passed by)

-- ---- what is left

-- the slices of a place
abbrev pub slices_at : Place → Slices
slices_at p = slices_in (memory_of p)

pub lends_own : (x : Place) → Lends (lengths_of x) (slices_at x)
lends_own x = record { sp = refl; spp = refl; states = refl; members = refl; transitions = refl; pending = refl; scratch = length-append x.lines.words.now x.aut.scratch.now; output = refl }

pub lent_own : (x : Place) → lent_of (slices_at x) ≡ lengths_of x
lent_own x = ap (with_scratch x) (length-append x.lines.words.now x.aut.scratch.now)
  where
    with_scratch : Place → ℕ → Lent
    with_scratch x n = record {
      sp = length x.aut.sp.nodes.now;
      spp = length x.aut.spp.nodes.now;
      states = length x.aut.states.words.now;
      members = length x.aut.members.words.now;
      transitions = length x.aut.transitions.words.now;
      pending = length x.aut.pending.now;
      scratch = n;
      output = length x.output.bytes.now;
    }

-- what is zeroed of the slices is as a book asks it
pub open_ready : (m : Memory) (x : Place) {x₁ : Place} → Table m → m ≡ memory_of x → lengths_of x₁ ≡ lengths_of x → length x₁.lines.words.now ≡ length x.lines.words.now → Empty x₁ → PreOpen x₁
open_ready m x {x₁} t p s l e =
    let a : length m.lines.now ≡ length x.lines.words.now = ap (λ m. length m.lines.now) p in
    let b : length m.scratch.now ≡ length x.aut.scratch.now = ap (λ m. length m.scratch.now) p in
    let c : length x₁.lines.words.now + length x₁.aut.scratch.now ≡ length x.lines.words.now + length x.aut.scratch.now = ap (λ (k : Lent). k.scratch) s in
    record { empty = e; table = omega (arith, t) }

pub written_is : {n : ℕ} {out out' : List ℕ} → length out' ≡ length out → Wrote n out out' → WritesOnly (take n out') out out'
written_is {n} {out} {out'} len w =
    let e : length (take n out') ≡ n = length-take-le n out' (omega (arith, w.fits)) in
    record {
      len = len;
      fits = omega (arith, w.fits);
      is = λ i l. sym (get_or-take n out' i 0 (omega arith));
      untouched = λ i l. w.beyond i (omega arith);
    }

pub taken_length : {n : ℕ} {out out' : List ℕ} → length out' ≡ length out → Wrote n out out' → n ≡ length (take n out')
taken_length {n} {out} {out'} len w = sym (length-take-le n out' (omega (arith, w.fits)))

-- A run that came to y, finished: x is what was lent, z what is left.
module _ (x y z : Place) (L : Lends (lengths_of x) (slices_at z)) where
  zero_scratch : z.lines.words.now ≡ zeroed (length z.lines.words.now) → z.aut.scratch.now ≡ zeroed (length z.aut.scratch.now) → z.lines.words.now ++ z.aut.scratch.now ≡ zeroed (lengths_of x).scratch
  zero_scratch a b =
      ap₂ (λ (s t : List ℕ). s ++ t) a b
      ∙ replicate-append-replicate (length z.lines.words.now) (length z.aut.scratch.now) 0
      ∙ ap zeroed (sym (length-append z.lines.words.now z.aut.scratch.now) ∙ L.scratch)

  pub left_is : (w : code.Result Setting Stop) {r : code.Result ℕ Stop} → Wrote (written_by w y) x.output.bytes.now y.output.bytes.now → PostFinish w y r z
      → Refines (finished (lengths_of x) (came_by w y)) (number_of r) (text_line_of r) (length_of r) x.output.bytes.now z.output.bytes.now z.aut.sp.nodes.now z.aut.spp.nodes.now z.aut.states.words.now z.aut.members.words.now z.aut.transitions.words.now z.aut.pending.now (z.lines.words.now ++ z.aut.scratch.now)
  left_is (code.Ok S) W F =
      let o : y.output.bytes.now ≡ z.output.bytes.now = ap (λ (o : Output). o.bytes.now) (sym F.output) in
      let b : Wrote y.output.at x.output.bytes.now z.output.bytes.now = subst (Wrote y.output.at x.output.bytes.now) o W in
      rw (F.is, o) (record {
        number_is = refl;
        line_is = refl;
        length_is = taken_length L.output b;
        output_is = written_is L.output b;
        sp_is = ap (λ s. s.nodes.now) F.tables.aut.sp;
        spp_is = ap (λ s. s.nodes.now) F.tables.aut.spp;
        states_are = ap (λ s. s.words.now) F.tables.aut.states;
        members_are = ap (λ s. s.words.now) F.tables.aut.members;
        transitions_are = ap (λ s. s.words.now) F.tables.aut.transitions;
        pending_is = F.work.pending ∙ ap zeroed L.pending;
        scratch_is = zero_scratch F.work.lines F.work.scratch;
      })
  left_is (code.Err s) W F =
      let o : y.output.bytes.now ≡ z.output.bytes.now = ap (λ (o : Output). o.bytes.now) (sym F.output) in
      let b : Wrote s.length x.output.bytes.now z.output.bytes.now = subst (Wrote s.length x.output.bytes.now) o W in
      rw (F.is, o) (record {
        number_is = refl;
        line_is = refl;
        length_is = taken_length L.output b;
        output_is = written_is L.output b;
        sp_is = F.tables.sp ∙ ap zeroed L.sp;
        spp_is = F.tables.spp ∙ ap zeroed L.spp;
        states_are = F.tables.states ∙ ap zeroed L.states;
        members_are = F.tables.members ∙ ap zeroed L.members;
        transitions_are = F.tables.transitions ∙ ap zeroed L.transitions;
        pending_is = F.work.pending ∙ ap zeroed L.pending;
        scratch_is = zero_scratch F.work.lines F.work.scratch;
      })

-- x is what was lent, x₁ zeroed, y where the run c ended and z what is left
module _ (x x₁ y z : Place) (s : lengths_of x₁ ≡ lengths_of x) (o : x₁.output.bytes ≡ x.output.bytes) (c : Lent → Came) {w : code.Result Setting Stop} (O : ComesTo (c (lengths_of x₁)) x₁ w y) where
  pub came_is : c (lengths_of x) ≡ came_by w y
  came_is = ap c (sym s) ∙ O.is

  pub wrote_is : Wrote (written_by w y) x.output.bytes.now y.output.bytes.now
  wrote_is = subst (λ (b : List ℕ). Wrote (written_by w y) b y.output.bytes.now) (ap (λ b. b.now) o) O.wrote

  module _ {r : code.Result ℕ Stop} (F : PostFinish w y r z) where
    -- the run's own end is the outcome of c
    pub comes_to : {e : Result} → e ≡ finished (lengths_of x) (c (lengths_of x)) → Lends (lengths_of x) (slices_at z)
        → Refines e (number_of r) (text_line_of r) (length_of r) x.output.bytes.now z.output.bytes.now z.aut.sp.nodes.now z.aut.spp.nodes.now z.aut.states.words.now z.aut.members.words.now z.aut.transitions.words.now z.aut.pending.now (z.lines.words.now ++ z.aut.scratch.now)
    comes_to {e} q L =
        subst (λ (e : Result). Refines e (number_of r) (text_line_of r) (length_of r) x.output.bytes.now z.output.bytes.now z.aut.sp.nodes.now z.aut.spp.nodes.now z.aut.states.words.now z.aut.members.words.now z.aut.transitions.words.now z.aut.pending.now (z.lines.words.now ++ z.aut.scratch.now))
        (sym (q ∙ ap (finished (lengths_of x)) came_is)) (left_is x y z L w wrote_is F)

-- what holds of the slices of places, of their own lengths, holds of those of what was lent
pub of_slices : (E : Lent → Slices → Slices → Type 0) (x z : Place) {m n : Memory} → m ≡ memory_of x → n ≡ memory_of z → E (lengths_of x) (slices_at x) (slices_at z) → E (lent_of (slices_in m)) (slices_in m) (slices_in n)
of_slices E x z p q e = rw (p, q, lent_own x) e

pub runs : (book : List ℕ) (x x₁ y z : Place) {m n : Memory} {w : code.Result Setting Stop} {r : code.Result ℕ Stop} → lengths_of x₁ ≡ lengths_of x → x₁.output.bytes ≡ x.output.bytes → PostOpen book x₁ w y → PostFinish w y r z → m ≡ memory_of x → n ≡ memory_of z → RunsIn book m r n
runs book x x₁ y z {m} {n} {w} {r} s o O F p q = record {
  is = of_slices (λ (k : Lent) (a b : Slices). Lends k b → EntrySpec k book a (number_of r) (text_line_of r) (length_of r) b) x z p q
      (λ (L : Lends (lengths_of x) (slices_at z)). Claim.entry (lends_own x) (comes_to x x₁ y z s o (λ (l : Lent). ran_book l book) O F (sym (book_finished (lengths_of x) book)) L));
}
