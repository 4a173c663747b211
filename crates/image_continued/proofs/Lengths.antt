-- 02 (ii), "its lent lengths no smaller": a book that comes to a place comes to the same place in longer tables (book_longer); without what was worked out, in tables of one length, the two are equal.
use Rattle.std.specs.Prelude.{if◌then◌else◌}
use mathlib.Core.Path.{◌≡◌, refl, sym, ◌∙◌, ap, ap₂, subst}
use mathlib.Core.Bool.{Bool}
use mathlib.Core.List.{List, [], ◌∷◌, ◌++◌}
use mathlib.Core.Option.{Option}
use Prim.Native.Nat.{ℕ, zero, suc, ◌+◌, ◌*◌, ◌-◌, ◌≤◌}
use native.Mathlib.Omega.{arith}
use lib.ListN.{length, take}
use borrow.Author.Tests.{ltb-false, le-ltb}
use Rattle.common.specs.Outcome.{Outcome, given}
use Rattle.common.specs.Runs.{Table, table}
use Rattle.aut_steps.specs.Tables.{aut}
use Rattle.aut_delta_steps.specs.Delta.{store}
use Rattle.aut_query_steps.specs.Tables.{tables}
use Rattle.book_steps.specs.Text.{cut}
use Rattle.book_steps.specs.Reader.{Header}
use Rattle.book_steps.specs.Demands.{RoomSpec}
use Rattle.book_steps.specs.Run.{Lent, Setting, RunState, place, zeroed, Ran, answered, run, instructions, begin, setting_of, came, failed, came_of, started_book, headed_book, opened_book, ran_book}
use Rattle.book_longer.specs.Longer.{LongerWords, Longer, LongerPlace, Follows, goes, RanFollows, ends, LongerLent}
use Rattle.book_longer.proofs.Words.{words_same, by_count}
use Rattle.book_longer.proofs.Run.{run_longer}
use Rattle.book_longer.proofs.Book.{begin_follows}
use Rattle.image_steps.specs.Claims.{cut_to, plain_states, stripped, RoomFor}
use Rattle.image_continued.proofs.Book.{book_stands, Started}

-- ---- without what was worked out

take_same : (n : ℕ) (s t : List ℕ) → LongerWords s t → n ≤ length s → take n s ≡ take n t
take_same zero s t r l = refl
take_same (suc n) [] t r l = absurd (omega arith)
take_same (suc n) (x ∷ s) [] r l = absurd (omega (arith, r.len))
take_same (suc n) (x ∷ s) (y ∷ t) r l = λ d. sym (r.reads 0) d ∷ take_same n s t (record { reads = λ i. r.reads (suc i); len = omega (arith, r.len) }) (omega arith) d

-- the first words of a table, f of them by its count
cut_same : (room : ℕ) (f : ℕ → ℕ) (t u : Table) → Longer t u → f t.count ≤ length t.words → table (cut_to room (f t.count) t.words) t.count ≡ table (cut_to room (f u.count) u.words) u.count
cut_same room f = by_count (λ t u. f t.count ≤ length t.words → table (cut_to room (f t.count) t.words) t.count ≡ table (cut_to room (f u.count) u.words) u.count)
    (λ s t n r l. ap (λ (ws : List ℕ). table (ws ++ zeroed (room - f n)) n) (take_same (f n) s t r l))

plain_same : (s t : List ℕ) → LongerWords s t → (n : ℕ) → plain_states s n ≡ plain_states t n
unfolding plain_states
plain_same s t r zero = refl
plain_same s t r (suc n) = ap₂ (λ (a b : List ℕ). a ++ (b ++ zeroed 8)) (plain_same s t r n) (words_same r (12 * n) 4)

states_same : (room : ℕ) (t u : Table) → Longer t u → table (plain_states t.words t.count ++ zeroed (room - 12 * t.count)) t.count ≡ table (plain_states u.words u.count ++ zeroed (room - 12 * u.count)) u.count
states_same room = by_count (λ t u. table (plain_states t.words t.count ++ zeroed (room - 12 * t.count)) t.count ≡ table (plain_states u.words u.count ++ zeroed (room - 12 * u.count)) u.count)
    (λ s t n r. ap (λ (ws : List ℕ). table (ws ++ zeroed (room - 12 * n)) n) (plain_same s t r n))

pub stripped_same : (lent lent' : Lent) {p q : RunState} → RoomSpec lent p.tables → LongerPlace p q → stripped lent' p ≡ stripped lent' q
stripped_same lent lent' {p} {q} s r =
    λ d. place (tables (sets d) (store (aut (nodes d) (state d) (member d)) (table (zeroed lent'.transitions) 0))) (sym r.lines d) []
  where
    sets : table (cut_to lent'.sp (2 * p.tables.sets.count) p.tables.sets.words) p.tables.sets.count ≡ table (cut_to lent'.sp (2 * q.tables.sets.count) q.tables.sets.words) q.tables.sets.count
    sets = cut_same lent'.sp (λ n. 2 * n) p.tables.sets q.tables.sets r.tables.sets (omega (arith, s.sp.len, s.sp.whole))

    nodes : (stripped lent' p).tables.base.aut.nodes ≡ (stripped lent' q).tables.base.aut.nodes
    nodes = cut_same lent'.spp (λ n. 4 * n) p.tables.base.aut.nodes q.tables.base.aut.nodes r.tables.base.aut.nodes (omega (arith, s.spp.len, s.spp.whole))

    member : (stripped lent' p).tables.base.aut.members ≡ (stripped lent' q).tables.base.aut.members
    member = cut_same lent'.members (λ n. n) p.tables.base.aut.members q.tables.base.aut.members r.tables.base.aut.members (omega (arith, s.members.len, s.members.whole))

    state : (stripped lent' p).tables.base.aut.states ≡ (stripped lent' q).tables.base.aut.states
    state = states_same lent'.states p.tables.base.aut.states q.tables.base.aut.states r.tables.base.aut.states

pub room_for : {lent lent' : Lent} {p : RunState} → LongerLent lent lent' → RoomSpec lent p.tables → RoomFor lent' p
room_for w s = record { sp = omega (arith, w.sp, s.sp.whole); spp = omega (arith, w.spp, s.spp.whole); states = omega (arith, w.states, s.states.whole); members = omega (arith, w.members, s.members.whole) }

-- ---- a book

-- a book that has begun and come to p
pub started_run : (lent : Lent) (book : List ℕ) {S : Setting} {p : RunState} (s : Started lent book S p) → ran_book lent book ≡ came (setting_of lent s.says) p
unfolding ran_book
started_run lent book s =
    ap (λ (b : Bool). if b then failed 26 0 [] else opened_book lent (cut book)) s.room
    ∙ ap (opened_book lent) s.cuts
    ∙ ap (λ (o : Option Header). headed_book lent o s.text) s.reads
    ∙ ap (started_book lent s.says s.text) s.begins
    ∙ ap (came_of (setting_of lent s.says)) s.runs

-- the same book with longer tables
pub record Lengthened (lent lent' : Lent) (book : List ℕ) {S : Setting} {p : RunState} (s : Started lent book S p) : Type 0 where
  pub at : RunState
  pub comes : ran_book lent' book ≡ came (setting_of lent' s.says) at
  pub longer : LongerPlace p at

module _ {lent lent' : Lent} (w : LongerLent lent lent') (book : List ℕ) {S : Setting} {p : RunState} (s : Started lent book S p) where
  abbrev h : Header
  h = s.says

  abbrev T : Setting
  T = setting_of lent' h

  ran : {first : RunState} → begin lent' h ≡ given first s.value → (r : Ran T) → run T instructions s.text 2 first ≡ r → RanFollows {S = setting_of lent h} (answered p) r → Lengthened lent lent' book s
  ran {first} b r e (ends {q = q} l) = record {
    at = q;
    comes = started_run lent' book (record {
      room = le-ltb lent'.scratch 6144 (omega (arith, ltb-false lent.scratch 6144 s.room, w.scratch));
      head = s.head;
      text = s.text;
      cuts = s.cuts;
      says = h;
      reads = s.reads;
      first = first;
      value = s.value;
      begins = b;
      setting = refl;
      runs = e;
    });
    longer = l;
  }

  began : (o : Outcome RunState ℕ) → begin lent' h ≡ o → Follows LongerPlace (given s.first s.value) o → Lengthened lent lent' book s
  began o b (goes {τ = first} l) =
      ran b (run T instructions s.text 2 first) refl
      (subst (λ (r : Ran (setting_of lent h)). RanFollows r (run T instructions s.text 2 first)) s.runs
      (run_longer (setting_of lent h) T (record { fields = refl; budget = refl; limits = refl; entries = omega (arith, w.pending); room = w.output }) lent [] instructions s.text 2 s.first first
      ((book_stands lent h).begins s.first s.value s.begins).in_order l))

  pub lengthened : Lengthened lent lent' book s
  lengthened = began (begin lent' h) refl (subst (λ (o : Outcome RunState ℕ). Follows LongerPlace o (begin lent' h)) s.begins (begin_follows w h))
