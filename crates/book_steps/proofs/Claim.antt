-- The claim of specs/Claim.antt, proved of the defined outcome, for every book and all lent lengths.
use Rattle.std.specs.Prelude.{if◌then◌else◌}
use mathlib.Core.Path.{◌≡◌, refl, sym, ◌∙◌, ap, ap₂, subst}
use native.Mathlib.Omega.{arith}
use mathlib.Core.Logic.{◌⊎◌, inl, ⊎_elim}
use mathlib.Core.Bool.{Bool, true, false}
use mathlib.Core.List.{List, []}
use mathlib.Core.Option.{Option, none, some}
use Prim.Native.Nat.{ℕ, zero, suc, ◌+◌, ◌*◌, ◌/◌, ◌≤◌, ◌<◌}
use lib.Dec.{ltb, leb}
use lib.ListN.{length, get_or, replicate, length-replicate}
use borrow.Author.Tests.{ltb-true, ltb-false, leb-true, leb-false, le-leb, lt-ltb}
use Rattle.common.specs.Outcome.{Outcome, refused, given}
use Rattle.common.proofs.Follow.{given_of}
use Rattle.common.specs.Runs.{Table, table}
use Rattle.sp_steps.specs.Model as Sp
use Rattle.sp_steps.proofs.Start as SpStart
use Rattle.spp_steps.specs.Model as Spp
use Rattle.spp_steps.proofs.Laws.{by_test}
use Rattle.spp_steps.proofs.Begin as SppBegin
use Rattle.aut_steps.specs.Tables.{aut}
use Rattle.aut_delta_steps.specs.Delta.{store}
use Rattle.aut_query_steps.specs.Tables.{tables}
use Rattle.aut_query_steps.proofs.Tables.{begun_ordered}
use Rattle.book_steps.specs.Text.{Cut, line, unended, cut, words}
use Rattle.book_steps.specs.Reader.{Header, header}
use Rattle.book_steps.specs.Answers.{fields_answer}
use Rattle.book_steps.specs.Run as Run
use Rattle.book_steps.specs.Run.{Lent, RunState, place, zeroed, begin, Result, started, headed, opened, outcome}
use Rattle.book_steps.specs.Meaning as Meaning
use Rattle.book_steps.specs.Demands.{TableSpec, RoomSpec, InOrder}
use Rattle.book_steps.specs.Claim as Claim
use Rattle.book_steps.specs.RunSpec.{Refused, Point, Final}
use Rattle.book_steps.specs.Claim.{setting01, Begun, begun, HeaderRefusal, first, Headed, Headless, BookSpec, Slices, Lends, Refines, EntrySpec}
use Rattle.book_steps.proofs.Conditions.{conditions}
use Rattle.book_steps.proofs.Header.{headed_small}
use Rattle.book_steps.proofs.Printed.{printed}
use Rattle.book_steps.proofs.Reading.{reads}
use Rattle.book_steps.proofs.Lines.{in_order}
use Rattle.book_steps.proofs.Runs.{kept, run_one, run_spec, runs}

-- ---- before the first instruction

zero_at_lem : (n j : ℕ) → ◌≡◌ {A = ℕ} (get_or (zeroed n) j 0) 0
zero_at_lem zero j = refl
zero_at_lem (suc n) zero = refl
zero_at_lem (suc n) (suc j) = zero_at_lem n j

-- a table as it is lent, zeroed, and one that has come from it
table_from : {room size most : ℕ} {t : Table} → length t.words ≡ length (zeroed room) → size * t.count ≤ length t.words → t.count ≤ most
    → ((j : ℕ) → size * t.count ≤ j → get_or t.words j 0 ≡ get_or (zeroed room) j 0) → TableSpec room size most t
table_from {room} e w c b =
    let l : length (zeroed room) ≡ room = length-replicate {A = ℕ} room 0 in
    record { len = e ∙ l; whole = omega arith; cap = c; beyond = λ j k. b j k ∙ zero_at_lem room j }

table_none : (room size most : ℕ) → TableSpec room size most (table (zeroed room) 0)
table_none room size most = record { len = length-replicate {A = ℕ} room 0; whole = omega arith; cap = omega arith; beyond = λ j k. zero_at_lem room j }

pub begun_in_order : {lent : Lent} (h : Header) {p : RunState} → Begun lent h.fields p → InOrder (setting01 lent h) lent p []
begun_in_order {lent} h (begun {s} {t} l a b f) =
    let sp = given_of (SpStart.begun h.fields (zeroed lent.sp)) a in
    let spp = given_of (SppBegin.begun h.fields (zeroed lent.spp)) b in
    in_order (setting01 lent h) lent
    (begun_ordered (zeroed lent.sp) (zeroed lent.spp) (zeroed lent.states) (zeroed lent.members) (zeroed lent.transitions) (omega arith) a b (zero_at_lem lent.states))
    (record {
      sp = table_from sp.later.len sp.wf.fits sp.wf.small sp.later.beyond;
      spp = table_from spp.ext.len spp.wf.nodes.fits spp.wf.nodes.small spp.ext.beyond;
      states = table_none lent.states 12 32768;
      members = table_none lent.members 1 16777216;
      transitions = table_none lent.transitions 2 16777216;
      zero = λ x w l m. zero_at_lem lent.states (12 * x + w);
    })
    Meaning.done

module _ (lent : Lent) (h : Header) where
  abbrev N : ℕ
  N = h.fields

  data Start : Outcome RunState ℕ → Type 0 where
    refuses_at : {number : ℕ} → HeaderRefusal lent N number → Start (refused number)
    begins_at : {p : RunState} {x : ℕ} → Begun lent N p → Start (given p x)

  start : Start (begin lent h)
  unfolding begin
  start = small (ltb 31 N) refl
    where
      room : N ≤ 31 → {s t : Table} {z : ℕ} {c : Spp.Constants} → Sp.constants N (table (zeroed lent.sp) 0) ≡ given s z → Spp.constants N (table (zeroed lent.spp) 0) ≡ given t c → (b : Bool) → leb (length (fields_answer N)) lent.output ≡ b
          → Start (if b then given (place (tables s (store (aut t (table (zeroed lent.states) 0) (table (zeroed lent.members) 0)) (table (zeroed lent.transitions) 0))) [] (fields_answer N)) 0 else refused 27)
      room w a c true e = begins_at (begun w a c (leb-true (length (fields_answer N)) lent.output e))
      room w {s} {t} {z} {c} a d false e =
          refuses_at (HeaderRefusal.no_room w
          (by_test (ltb (lent.sp / 2) N) (λ q. absurd (SpStart.begun_fits N (zeroed lent.sp) s z a (inl (omega (arith, ltb-true (lent.sp / 2) N q, length-replicate {A = ℕ} lent.sp 0))))) (λ q. ltb-false (lent.sp / 2) N q))
          (by_test (ltb (lent.spp / 4) (3 * N)) (λ q. absurd (SppBegin.begun_fits N (zeroed lent.spp) t c d (inl (omega (arith, ltb-true (lent.spp / 4) (3 * N) q, length-replicate {A = ℕ} lent.spp 0))))) (λ q. ltb-false (lent.spp / 4) (3 * N) q))
          (leb-false (length (fields_answer N)) lent.output e))

      both_made : N ≤ 31 → (s : Outcome Table ℕ) (r : Outcome Table Spp.Constants) → Sp.constants N (table (zeroed lent.sp) 0) ≡ s → Spp.constants N (table (zeroed lent.spp) 0) ≡ r → Start (Run.begun lent h s r)
      both_made w (refused e) r a b =
          let (n, f) = SpStart.begun_refused N (zeroed lent.sp) e a in
          subst (λ (n : ℕ). Start (refused n)) (sym n) (refuses_at (HeaderRefusal.no_sets w (⊎_elim (λ l. omega (arith, length-replicate {A = ℕ} lent.sp 0)) (λ l. absurd (omega arith)) f)))
      both_made w (given s z) (refused e) a b =
          let (n, f) = SppBegin.begun_refused N (zeroed lent.spp) e b in
          subst (λ (n : ℕ). Start (refused n)) (sym n) (refuses_at (HeaderRefusal.no_relations w
          (by_test (ltb (lent.sp / 2) N) (λ q. absurd (SpStart.begun_fits N (zeroed lent.sp) s z a (inl (omega (arith, ltb-true (lent.sp / 2) N q, length-replicate {A = ℕ} lent.sp 0))))) (λ q. ltb-false (lent.sp / 2) N q))
          (⊎_elim (λ l. omega (arith, length-replicate {A = ℕ} lent.spp 0)) (λ l. absurd (omega arith)) f)))
      both_made w (given s z) (given r c) a b = room w a b (leb (length (fields_answer N)) lent.output) refl

      small : (b : Bool) → ltb 31 N ≡ b → Start (if b then refused 2 else Run.begun lent h (Sp.constants N (table (zeroed lent.sp) 0)) (Spp.constants N (table (zeroed lent.spp) 0)))
      small true e = refuses_at (HeaderRefusal.wide (ltb-true 31 N e))
      small false e = both_made (ltb-false 31 N e) (Sp.constants N (table (zeroed lent.sp) 0)) (Spp.constants N (table (zeroed lent.spp) 0)) refl refl

  -- the header is refused with one number, or the tables are begun
  header_one : {m n : ℕ} → HeaderRefusal lent N m → HeaderRefusal lent N n → m ≡ n
  header_one (HeaderRefusal.wide a) (HeaderRefusal.wide e) = refl
  header_one (HeaderRefusal.wide a) (HeaderRefusal.no_sets e f) = absurd (omega arith)
  header_one (HeaderRefusal.wide a) (HeaderRefusal.no_relations e f g) = absurd (omega arith)
  header_one (HeaderRefusal.wide a) (HeaderRefusal.no_room e f g i) = absurd (omega arith)
  header_one (HeaderRefusal.no_sets a b) (HeaderRefusal.wide e) = absurd (omega arith)
  header_one (HeaderRefusal.no_sets a b) (HeaderRefusal.no_sets e f) = refl
  header_one (HeaderRefusal.no_sets a b) (HeaderRefusal.no_relations e f g) = absurd (omega arith)
  header_one (HeaderRefusal.no_sets a b) (HeaderRefusal.no_room e f g i) = absurd (omega arith)
  header_one (HeaderRefusal.no_relations a b c) (HeaderRefusal.wide e) = absurd (omega arith)
  header_one (HeaderRefusal.no_relations a b c) (HeaderRefusal.no_sets e f) = absurd (omega arith)
  header_one (HeaderRefusal.no_relations a b c) (HeaderRefusal.no_relations e f g) = refl
  header_one (HeaderRefusal.no_relations a b c) (HeaderRefusal.no_room e f g i) = absurd (omega arith)
  header_one (HeaderRefusal.no_room a b c d) (HeaderRefusal.wide e) = absurd (omega arith)
  header_one (HeaderRefusal.no_room a b c d) (HeaderRefusal.no_sets e f) = absurd (omega arith)
  header_one (HeaderRefusal.no_room a b c d) (HeaderRefusal.no_relations e f g) = absurd (omega arith)
  header_one (HeaderRefusal.no_room a b c d) (HeaderRefusal.no_room e f g i) = refl

  not_both : {p : RunState} {number : ℕ} → Begun lent N p → HeaderRefusal lent N number → ⊥
  not_both (begun l a b f) (HeaderRefusal.wide m) = omega arith
  not_both (begun {s} {z = z} l a b f) (HeaderRefusal.no_sets k m) = SpStart.begun_fits h.fields (zeroed lent.sp) s z a (inl (omega (arith, length-replicate {A = ℕ} lent.sp 0)))
  not_both (begun {t = t} {c = c} l a b f) (HeaderRefusal.no_relations k m n) = SppBegin.begun_fits h.fields (zeroed lent.spp) t c b (inl (omega (arith, length-replicate {A = ℕ} lent.spp 0)))
  not_both (begun l a b f) (HeaderRefusal.no_room k m n o) = omega arith

  pub begin_refused : (number : ℕ) → HeaderRefusal lent N number → begin lent h ≡ refused number
  begin_refused number y = go (begin lent h) refl start
    where
      go : (c : Outcome RunState ℕ) → begin lent h ≡ c → Start c → begin lent h ≡ refused number
      go (refused e) q (refuses_at z) = q ∙ ap (λ (n : ℕ). refused n) (header_one z y)
      go (given p x) q (begins_at z) = absurd (not_both z y)

  pub begin_given : {p : RunState} → Begun lent N p → begin lent h ≡ given p 0
  unfolding begin
  begin_given (begun {s} {t} l a b f) =
      ap (λ (c : Bool). if c then refused 2 else Run.begun lent h (Sp.constants h.fields (table (zeroed lent.sp) 0)) (Spp.constants h.fields (table (zeroed lent.spp) 0)))
      (by_test (ltb 31 h.fields) (λ e. absurd (omega (arith, ltb-true 31 h.fields e))) (λ e. e))
      ∙ ap₂ (Run.begun lent h) a b
      ∙ ap (λ (c : Bool). if c then given (place (tables s (store (aut t (table (zeroed lent.states) 0) (table (zeroed lent.members) 0)) (table (zeroed lent.transitions) 0))) [] (fields_answer h.fields)) 0 else refused 27)
      (le-leb (length (fields_answer h.fields)) lent.output f)

-- ---- the whole book

module _ (lent : Lent) (book : List ℕ) where
  pub whole_book : BookSpec lent book (outcome lent book)
  unfolding outcome
  whole_book = long (ltb lent.scratch 6144) refl
    where
      begins : 6144 ≤ lent.scratch → (h : Header) (text : List ℕ) → Headed book h text → (c : Outcome RunState ℕ) → Start lent h c → BookSpec lent book (started lent h text c)
      begins w h text i (refused e) (refuses_at y) = BookSpec.not_begun w i y refl
      begins w h text i (given p x) (begins_at y) = BookSpec.ran w i y (begun_in_order h y) (run_spec (setting01 lent h) lent 2048 text 2 (begun_in_order h y))

      heads : 6144 ≤ lent.scratch → (l rest : List ℕ) → cut book ≡ line l rest → (o : Option Header) → header (words l) ≡ o → BookSpec lent book (headed lent o rest)
      heads w l rest e none q = BookSpec.headless w (Headless.no_form e q) refl
      heads w l rest e (some h) q = begins w h rest (Headed.is e q) (begin lent h) (start lent h)

      opens : 6144 ≤ lent.scratch → (c : Cut) → cut book ≡ c → BookSpec lent book (opened lent c)
      opens w unended e = BookSpec.headless w (Headless.no_line e) refl
      opens w (line l rest) e = heads w l rest e (header (words l)) refl

      long : (b : Bool) → ltb lent.scratch 6144 ≡ b → BookSpec lent book (if b then Run.refusal lent 26 0 [] else opened lent (cut book))
      long true e = BookSpec.no_scratch (ltb-true lent.scratch 6144 e) refl
      long false e = opens (ltb-false lent.scratch 6144 e) (cut book) refl

-- ---- there is no other outcome

module _ (lent : Lent) (book : List ℕ) where
  open_is : 6144 ≤ lent.scratch → opened lent (cut book) ≡ outcome lent book
  unfolding outcome
  open_is w = sym (ap (λ (b : Bool). if b then Run.refusal lent 26 0 [] else opened lent (cut book)) (by_test (ltb lent.scratch 6144) (λ e. absurd (omega (arith, ltb-true lent.scratch 6144 e))) (λ e. e)))

  headed_is : {h : Header} {text : List ℕ} → 6144 ≤ lent.scratch → Headed book h text → started lent h text (begin lent h) ≡ outcome lent book
  headed_is w (Headed.is {rest = rest} e q) = ap (λ (o : Option Header). headed lent o rest) (sym q) ∙ ap (opened lent) (sym e) ∙ open_is w

  pub only_outcome : (r : Result) → BookSpec lent book r → r ≡ outcome lent book
  unfolding outcome
  only_outcome r (BookSpec.no_scratch w z) = z ∙ sym (ap (λ (b : Bool). if b then Run.refusal lent 26 0 [] else opened lent (cut book)) (lt-ltb lent.scratch 6144 w))
  only_outcome r (BookSpec.headless w (Headless.no_line e) z) = z ∙ ap (opened lent) (sym e) ∙ open_is w
  only_outcome r (BookSpec.headless w (Headless.no_form {rest = rest} e q) z) = z ∙ ap (λ (o : Option Header). headed lent o rest) (sym q) ∙ ap (opened lent) (sym e) ∙ open_is w
  only_outcome r (BookSpec.not_begun {h} {text} {number} w i y z) = z ∙ ap (started lent h text) (sym (begin_refused lent h number y)) ∙ headed_is w i
  only_outcome r (BookSpec.ran {h} {text} {p} w i y t z) = run_one (setting01 lent h) lent (first (setting01 lent h) text p) r z ∙ ap (started lent h text) (sym (begin_given lent h y)) ∙ headed_is w i

-- ---- all of it

pub claim : (lent : Lent) (book : List ℕ) → Claim.Claim lent book
claim lent book = record {
  whole = whole_book lent book;
  only = only_outcome lent book;
  runs = λ S c i. runs S lent c i;
  begins = λ h p b. begun_in_order h b;
  reads = reads;
  printed = printed;
  budget = λ h text i. headed_small i;
  conditions = conditions;
}

-- ---- the public entry

-- a book's outcome has tables of the lengths lent
pub record Sized (lent : Lent) (r : Result) : Type 0 where
  pub sp : length r.sp ≡ lent.sp
  pub spp : length r.spp ≡ lent.spp
  pub states : length r.states ≡ lent.states
  pub members : length r.members ≡ lent.members
  pub transitions : length r.transitions ≡ lent.transitions
  pub pending : length r.pending ≡ lent.pending
  pub scratch : length r.scratch ≡ lent.scratch

long_as : {xs : List ℕ} {n : ℕ} → xs ≡ replicate n 0 → length xs ≡ n
long_as {n = n} e = ap length e ∙ length-replicate {A = ℕ} n 0

refused_sized : {lent : Lent} {number k : ℕ} {output : List ℕ} {r : Result} → Refused lent number k output r → Sized lent r
refused_sized z = record {
  sp = long_as (ap (λ (r : Result). r.sp) z);
  spp = long_as (ap (λ (r : Result). r.spp) z);
  states = long_as (ap (λ (r : Result). r.states) z);
  members = long_as (ap (λ (r : Result). r.members) z);
  transitions = long_as (ap (λ (r : Result). r.transitions) z);
  pending = long_as (ap (λ (r : Result). r.pending) z);
  scratch = long_as (ap (λ (r : Result). r.scratch) z);
}

run_sized : {lent : Lent} (S : Run.Setting) (c : Point S) {r : Result} → InOrder S lent c.place c.rules → Final S lent c r → Sized lent r
run_sized S c i (Final.ends e z) =
    let t = i.tables.room in
    record {
      sp = ap (λ (r : Result). length r.sp) z ∙ t.sp.len;
      spp = ap (λ (r : Result). length r.spp) z ∙ t.spp.len;
      states = ap (λ (r : Result). length r.states) z ∙ t.states.len;
      members = ap (λ (r : Result). length r.members) z ∙ t.members.len;
      transitions = ap (λ (r : Result). length r.transitions) z ∙ t.transitions.len;
      pending = long_as (ap (λ (r : Result). r.pending) z);
      scratch = long_as (ap (λ (r : Result). r.scratch) z);
    }
run_sized S c i (Final.stops y z) = refused_sized z

pub book_sized : {lent : Lent} {book : List ℕ} {r : Result} → BookSpec lent book r → Sized lent r
book_sized (BookSpec.no_scratch w z) = refused_sized z
book_sized (BookSpec.headless w i z) = refused_sized z
book_sized (BookSpec.not_begun w i y z) = refused_sized z
book_sized {lent} (BookSpec.ran {h} w i y t (d, v, z)) = run_sized (setting01 lent h) d (kept (setting01 lent h) lent t v) z

-- it is enough that the slices have the lengths and that the outcome is the defined one
pub entry : {lent : Lent} {book : List ℕ} {m n : Slices} {number k len : ℕ} → Lends lent m
    → Refines (outcome lent book) number k len m.output n.output n.sp n.spp n.states n.members n.transitions n.pending n.scratch → EntrySpec lent book m number k len n
entry {lent} {book} l c =
    let z = book_sized (whole_book lent book) in
    record {
      lends = l;
      refines = c;
      leaves = record {
        sp = ap length c.sp_is ∙ z.sp;
        spp = ap length c.spp_is ∙ z.spp;
        states = ap length c.states_are ∙ z.states;
        members = ap length c.members_are ∙ z.members;
        transitions = ap length c.transitions_are ∙ z.transitions;
        pending = ap length c.pending_is ∙ z.pending;
        scratch = ap length c.scratch_is ∙ z.scratch;
        output = c.output_is.len ∙ l.output;
      };
      claim = claim lent book;
    }
