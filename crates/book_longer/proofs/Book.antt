-- The whole book (specs/Longer: BookLonger, AnsweredLonger): begun in zeroed tables, then run.
use Rattle.std.specs.Prelude.{if◌then◌else◌}
use mathlib.Core.Path.{◌≡◌, refl, sym, ◌∙◌}
use mathlib.Core.Bool.{Bool, true, false}
use mathlib.Core.List.{List, []}
use mathlib.Core.Option.{Option, none, some}
use Prim.Native.Nat.{ℕ, zero, suc, ◌≤◌, ◌<◌}
use native.Mathlib.Omega.{arith}
use lib.Dec.{ltb, leb}
use lib.ListN.{length, get_or, length-replicate}
use borrow.Author.Tests.{ltb-true, ltb-false, leb-true, le-leb}
use Rattle.common.specs.Outcome.{Outcome, refused, given, Gives, gives, refusal}
use Rattle.common.specs.Runs.{Table, table}
use Rattle.spp_steps.proofs.Laws.{false_true}
use Rattle.sp_steps.specs.Model as Sp
use Rattle.spp_steps.specs.Model as Spp
use Rattle.aut_steps.specs.Tables.{aut}
use Rattle.aut_delta_steps.specs.Delta.{store}
use Rattle.aut_query_steps.specs.Tables.{tables}
use Rattle.book_steps.specs.Text.{Cut, line, unended, cut, words}
use Rattle.book_steps.specs.Reader.{Header, header}
use Rattle.book_steps.specs.Answers.{fields_answer}
use Rattle.book_steps.specs.Demands.{InOrder}
use Rattle.book_steps.specs.Claim as Claim
use Rattle.book_steps.specs.Run as Run
use Rattle.book_steps.specs.Run.{Lent, RunState, place, Ran, answered, stopped, zeroed, instructions, begun, begin, setting_of, success, finish, started, headed, opened, outcome}
use Rattle.book_steps.proofs.Claim.{begun_in_order}
use Rattle.book_longer.specs.Longer as Longer
use Rattle.book_longer.specs.Longer.{LongerWords, LongerPlace, OfRoom, no_output, Follows, lacked, same_refusal, goes, Front, output_of, RanFollows, LongerLent, LongerResult, OfLack, room, no_scratch, BookFollows, BookLonger, AnsweredLonger}
use Rattle.book_longer.proofs.Sets as Sets
use Rattle.book_longer.proofs.Relations as Relations
use Rattle.book_longer.proofs.Run.{run_longer}

-- ---- zeroed tables

zero_at_lem : (n i : ℕ) → ◌≡◌ {A = ℕ} (get_or (zeroed n) i 0) 0
zero_at_lem zero i = refl
zero_at_lem (suc n) zero = refl
zero_at_lem (suc n) (suc i) = zero_at_lem n i

pub zeroed_longer : (a b : ℕ) → a ≤ b → LongerWords (zeroed a) (zeroed b)
zeroed_longer a b l = record { reads = λ i. zero_at_lem b i ∙ sym (zero_at_lem a i); len = omega (arith, length-replicate {A = ℕ} a 0, length-replicate {A = ℕ} b 0) }

none_longer : (a b : ℕ) → a ≤ b → Longer.Longer (table (zeroed a) 0) (table (zeroed b) 0)
none_longer a b l = record { words = zeroed_longer a b l; count = refl }

module _ {lent more : Lent} (w : LongerLent lent more) where
  refusal_longer : (e k : ℕ) (out : List ℕ) → LongerResult (Run.refusal lent e k out) (Run.refusal more e k out)
  refusal_longer e k out = record {
    number = refl;
    line = refl;
    output = refl;
    sp = zeroed_longer _ _ w.sp;
    spp = zeroed_longer _ _ w.spp;
    states = zeroed_longer _ _ w.states;
    members = zeroed_longer _ _ w.members;
    transitions = zeroed_longer _ _ w.transitions;
    pending = zeroed_longer _ _ w.pending;
    scratch = zeroed_longer _ _ w.scratch;
  }

  success_longer : {p q : RunState} → LongerPlace p q → LongerResult (success lent p) (success more q)
  success_longer r = record {
    number = refl;
    line = refl;
    output = r.output;
    sp = r.tables.sets.words;
    spp = r.tables.base.aut.nodes.words;
    states = r.tables.base.aut.states.words;
    members = r.tables.base.aut.members.words;
    transitions = r.tables.base.transitions.words;
    pending = zeroed_longer _ _ w.pending;
    scratch = zeroed_longer _ _ w.scratch;
  }

  -- ---- the first line

  module _ (h : Header) where
    begun_follows : {o u : Outcome Table ℕ} {r v : Outcome Table Spp.Constants} → Follows Longer.Longer o u → Follows Longer.Longer r v → Follows LongerPlace (begun lent h o r) (begun more h u v)
    begun_follows (lacked n) g = lacked n
    begun_follows same_refusal g = same_refusal
    begun_follows (goes f) (lacked n) = lacked n
    begun_follows (goes f) same_refusal = same_refusal
    begun_follows (goes {σ = s} {τ = t} f) (goes {σ = r} {τ = v} g) =
        go (leb (length (fields_answer h.fields)) lent.output) (leb (length (fields_answer h.fields)) more.output)
        (λ b. le-leb (length (fields_answer h.fields)) more.output (omega (arith, leb-true (length (fields_answer h.fields)) lent.output b, w.output)))
      where
        at : Lent → Table → Table → RunState
        at l s r = place (tables s (store (aut r (table (zeroed l.states) 0) (table (zeroed l.members) 0)) (table (zeroed l.transitions) 0))) [] (fields_answer h.fields)

        go : (b c : Bool) → (b ≡ true → c ≡ true) → Follows {A = ℕ} LongerPlace (if b then given (at lent s r) 0 else refused 27) (if c then given (at more t v) 0 else refused 27)
        go true true e = goes (record {
          tables = record {
            sets = f;
            base = record {
              aut = record { nodes = g; states = none_longer _ _ w.states; members = none_longer _ _ w.members };
              transitions = none_longer _ _ w.transitions;
            };
          };
          lines = refl;
          output = refl;
        })
        go true false e = absurd (false_true (e refl))
        go false c e = lacked no_output

    pub begin_follows : Follows LongerPlace (begin lent h) (begin more h)
    unfolding begin
    begin_follows = go (ltb 31 h.fields)
      where
        go : (b : Bool) → Follows LongerPlace
            (if b then refused 2 else begun lent h (Sp.constants h.fields (table (zeroed lent.sp) 0)) (Spp.constants h.fields (table (zeroed lent.spp) 0)))
            (if b then refused 2 else begun more h (Sp.constants h.fields (table (zeroed more.sp) 0)) (Spp.constants h.fields (table (zeroed more.spp) 0)))
        go true = same_refusal
        go false = begun_follows (Sets.constants_longer h.fields _ _ (none_longer _ _ w.sp)) (Relations.constants_longer h.fields _ _ (none_longer _ _ w.spp))

-- .. and the tables are in order
begin_ordered : (lent : Lent) (h : Header) → Gives (λ p x. InOrder (setting_of lent h) lent p []) (begin lent h)
unfolding begin
begin_ordered lent h = small (ltb 31 h.fields) refl
  where
    N : ℕ
    N = h.fields

    fits : N ≤ 31 → {s t : Table} {z : ℕ} {c : Spp.Constants} → Sp.constants N (table (zeroed lent.sp) 0) ≡ given s z → Spp.constants N (table (zeroed lent.spp) 0) ≡ given t c → (b : Bool) → leb (length (fields_answer N)) lent.output ≡ b
        → Gives {A = ℕ} (λ p x. InOrder (setting_of lent h) lent p [])
        (if b then given (place (tables s (store (aut t (table (zeroed lent.states) 0) (table (zeroed lent.members) 0)) (table (zeroed lent.transitions) 0))) [] (fields_answer N)) 0 else refused 27)
    fits l a c true e = gives (begun_in_order h (Claim.begun l a c (leb-true (length (fields_answer N)) lent.output e)))
    fits l a c false e = refusal

    made : N ≤ 31 → (s : Outcome Table ℕ) (r : Outcome Table Spp.Constants) → Sp.constants N (table (zeroed lent.sp) 0) ≡ s → Spp.constants N (table (zeroed lent.spp) 0) ≡ r
        → Gives (λ p x. InOrder (setting_of lent h) lent p []) (begun lent h s r)
    made l (refused e) r a b = refusal
    made l (given s z) (refused e) a b = refusal
    made l (given s z) (given r c) a b = fits l a b (leb (length (fields_answer N)) lent.output) refl

    small : (b : Bool) → ltb 31 N ≡ b → Gives (λ p x. InOrder (setting_of lent h) lent p []) (if b then refused 2 else begun lent h (Sp.constants N (table (zeroed lent.sp) 0)) (Spp.constants N (table (zeroed lent.spp) 0)))
    small true e = refusal
    small false e = made (ltb-false 31 N e) (Sp.constants N (table (zeroed lent.sp) 0)) (Spp.constants N (table (zeroed lent.spp) 0)) refl refl

-- ---- the book

module _ {lent more : Lent} (w : LongerLent lent more) where
  front_none : (ys : List ℕ) → Front [] ys
  front_none ys = record { rest = ys; is = refl }

  finish_follows : (h : Header) {r : Ran (setting_of lent h)} {s : Ran (setting_of more h)} → RanFollows r s → BookFollows (finish lent r) (finish more s)
  finish_follows h (Longer.ends r) = BookFollows.same (success_longer w r)
  finish_follows h (Longer.stops {number} {k} {out}) = BookFollows.same (refusal_longer w number k out)
  finish_follows h (Longer.lacks {out = out} {r = r} n f) = BookFollows.lacks (room n) (printed r f)
    where
      printed : (r : Ran (setting_of more h)) → Front out (output_of r) → Front out (finish more r).output
      printed (answered p) f = f
      printed (stopped e k o) f = f

  started_follows : (h : Header) (text : List ℕ) {o u : Outcome RunState ℕ} → Gives (λ p x. InOrder (setting_of lent h) lent p []) o → Follows LongerPlace o u → BookFollows (started lent h text o) (started more h text u)
  started_follows h text g (lacked n) = BookFollows.lacks (room n) (front_none _)
  started_follows h text g (same_refusal {number}) = BookFollows.same (refusal_longer w number 1 [])
  started_follows h text (gives i) (goes {σ = p} {τ = q} r) =
      finish_follows h (run_longer (setting_of lent h) (setting_of more h) (record { fields = refl; budget = refl; limits = refl; entries = omega (arith, w.pending); room = w.output }) lent [] instructions text 2 p q i r)

  headed_follows : (o : Option Header) (text : List ℕ) → BookFollows (headed lent o text) (headed more o text)
  headed_follows none text = BookFollows.same (refusal_longer w 1 1 [])
  headed_follows (some h) text = started_follows h text (begin_ordered lent h) (begin_follows w h)

  opened_follows : (c : Cut) → BookFollows (opened lent c) (opened more c)
  opened_follows unended = BookFollows.same (refusal_longer w 1 1 [])
  opened_follows (line l rest) = headed_follows (header (words l)) rest

  outcome_follows : (book : List ℕ) → BookFollows (outcome lent book) (outcome more book)
  unfolding outcome
  outcome_follows book = go (ltb lent.scratch 6144) (ltb more.scratch 6144) (λ b. ltb-false lent.scratch 6144 b) (λ b. ltb-true more.scratch 6144 b)
    where
      go : (b c : Bool) → (b ≡ false → 6144 ≤ lent.scratch) → (c ≡ true → more.scratch < 6144)
          → BookFollows (if b then Run.refusal lent 26 0 [] else opened lent (cut book)) (if c then Run.refusal more 26 0 [] else opened more (cut book))
      go true c f g = BookFollows.lacks no_scratch (front_none _)
      go false true f g = absurd (omega (arith, f refl, g refl, w.scratch))
      go false false f g = opened_follows (cut book)

-- ---- what is stated

pub book_longer : BookLonger
book_longer lent more w book = outcome_follows w book

room_number : {number : ℕ} → OfRoom number → 20 ≤ number
room_number Longer.no_packet_node = omega arith
room_number Longer.no_relation_node = omega arith
room_number Longer.no_state = omega arith
room_number Longer.no_member = omega arith
room_number Longer.no_entry = omega arith
room_number Longer.no_transition = omega arith
room_number Longer.no_output = omega arith

lack_number : {number : ℕ} → OfLack number → 20 ≤ number
lack_number (room n) = room_number n
lack_number no_scratch = omega arith

pub answered_longer : AnsweredLonger
answered_longer lent more w book e = go (book_longer lent more w book)
  where
    go : BookFollows (outcome lent book) (outcome more book) → LongerResult (outcome lent book) (outcome more book)
    go (BookFollows.lacks n f) = absurd (omega (arith, lack_number n, e))
    go (BookFollows.same r) = r
