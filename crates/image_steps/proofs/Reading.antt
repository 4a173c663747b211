-- 02 (ii): what is read is in order, with the rules of its records and the image's words in its tables; and the numbers with which an image is refused.
use Rattle.std.specs.Prelude.{if◌then◌else◌}
use mathlib.Core.Path.{◌≡◌, refl, sym, ◌∙◌, ap, ap₂, subst}
use mathlib.Core.Bool.{Bool, true, false, ◌&&◌, ◌||◌}
use mathlib.Core.List.{List, [], ◌∷◌, ◌++◌, map, Memᴰ}
use mathlib.Core.Logic.{⊎_elim}
use mathlib.Core.Option.{Option, none, some}
use Prim.Native.Nat.{ℕ, zero, suc, ◌+◌, ◌*◌, ◌-◌, ◌/◌, ◌^◌, ◌≤◌, ◌<◌}
use native.Mathlib.Omega.{arith}
use lib.Dec.{eqb, ltb, leb}
use lib.ListN.{length}
use borrow.Author.Tests.{leb-true, eqb-true}
use Rattle.common.specs.Outcome.{Outcome, refused, given, Step}
use Rattle.common.proofs.Follow.{given_of}
use Rattle.common.specs.Runs.{Table, table, placed}
use Rattle.sp_steps.specs.Model as Sp
use Rattle.sp_steps.proofs.Start as SpStart
use Rattle.spp_steps.specs.Model as Spp
use Rattle.spp_steps.proofs.Begin as SppBegin
use Rattle.aut_steps.specs.Tables.{UNION, INTERSECT, Limits, limits01, Aut, aut, put_nodes}
use Rattle.aut_steps.specs.Wf.{states}
use Rattle.aut_steps.proofs.Facts.{and_true}
use Rattle.aut_steps.proofs.Wf.{grown_nodes}
use Rattle.aut_steps.proofs.StepSpec.{good_nodes}
use Rattle.aut_delta_steps.specs.Delta.{store, put_aut}
use Rattle.aut_delta_steps.specs.Fits.{Since}
use Rattle.aut_delta_steps.proofs.Wf.{worked_since}
use Rattle.aut_delta_steps.proofs.Extends.{went_since}
use Rattle.aut_query_steps.specs.Tables.{Tables, tables, put_sets, put_base, WfTables, ExtTables}
use Rattle.aut_query_steps.proofs.Tables.{gone_later, begun_ordered}
use Rattle.aut_query_steps.proofs.Steps.{gone_sets, gone_base, ordered_sets, ordered_base}
use Rattle.image_form.specs.Form.{verify}
use Rattle.image_form.specs.Damage.{Bytes}
use Rattle.image_form.proofs.Blocks.{word_small}
use Rattle.book_steps.specs.Answers.{fields_answer}
use Rattle.book_steps.specs.Run.{Lent, Setting, RunState, place, zeroed}
use Rattle.book_steps.specs.Meaning.{Matched, done, asked, made}
use Rattle.book_steps.specs.Demands.{RoomSpec, InOrder}
use Rattle.book_steps.specs.Claim.{begun}
use Rattle.book_steps.proofs.Lines.{room_later, in_order}
use Rattle.book_steps.proofs.Claim.{begun_in_order}
use Rattle.image_steps.specs.Image.{Head, layout, start_of, total, reach, blocks_of, line_word, line_words}
use Rattle.image_steps.specs.Records as Records
use Rattle.image_steps.specs.Read.{head_at, unused, constants_in, fresh, line_of, word, words_from, records, list_at, state_at, node, relation, member, state, line, ended, records_of, read}
use Rattle.image_steps.specs.Claims.{rule_at, rules_in, setting_at, Unread}
use Rattle.image_steps.proofs.States.{state_goes, state_refuses}
use Rattle.image_steps.proofs.Nodes.{node_goes, node_refuses, relation_goes, relation_refuses}
use Rattle.image_steps.proofs.Loops.{Comes, stops, comes, comes_given, comes_refused, comes_after, comes_if, Taken, start1, start2, start3, start4, start5, records_come, Opened, read_comes}
use Rattle.image_steps.proofs.Copies.{lines_length, row_length, row_append, Copied, node_copied, relation_copied, Auts, auts_more}

-- ---- the numbers

abbrev pub Refusing : ℕ → Type 0
Refusing number = Memᴰ number (30 ∷ 31 ∷ 32 ∷ 20 ∷ 21 ∷ 22 ∷ 23 ∷ [])

r30 : Refusing 30
r30 = Memᴰ.head refl

r31 : Refusing 31
r31 = Memᴰ.tail (Memᴰ.head refl)

r32 : {number : ℕ} → number ≡ 32 → Refusing number
r32 e = Memᴰ.tail (Memᴰ.tail (Memᴰ.head e))

r20 : {number : ℕ} → number ≡ 20 → Refusing number
r20 e = Memᴰ.tail (Memᴰ.tail (Memᴰ.tail (Memᴰ.head e)))

r21 : {number : ℕ} → number ≡ 21 → Refusing number
r21 e = Memᴰ.tail (Memᴰ.tail (Memᴰ.tail (Memᴰ.tail (Memᴰ.head e))))

r22 : {number : ℕ} → number ≡ 22 → Refusing number
r22 e = Memᴰ.tail (Memᴰ.tail (Memᴰ.tail (Memᴰ.tail (Memᴰ.tail (Memᴰ.head e)))))

r23 : {number : ℕ} → number ≡ 23 → Refusing number
r23 e = Memᴰ.tail (Memᴰ.tail (Memᴰ.tail (Memᴰ.tail (Memᴰ.tail (Memᴰ.tail (Memᴰ.head e))))))

r_state : {number : ℕ} → Memᴰ number (32 ∷ 23 ∷ 22 ∷ []) → Refusing number
r_state (Memᴰ.head e) = r32 e
r_state (Memᴰ.tail (Memᴰ.head e)) = r23 e
r_state (Memᴰ.tail (Memᴰ.tail (Memᴰ.head e))) = r22 e
r_state {number = number} (mathlib.Core.List.Memᴰ.tail (mathlib.Core.List.Memᴰ.tail (mathlib.Core.List.Memᴰ.tail x12))) = elim x12 [ ]

-- ---- lines

-- each line that can be named has one of the n states
abbrev pub Named : ℕ → List (Option ℕ) → Type 0
Named n [] = Unit
Named n (none ∷ ls) = Named n ls
Named n (some x ∷ ls) = (x < n) × Named n ls

named_wide : {m n : ℕ} (ls : List (Option ℕ)) → m ≤ n → Named m ls → Named n ls
named_wide [] l k = tt
named_wide (none ∷ ls) l k = named_wide ls l k
named_wide (some x ∷ ls) l (a, k) = (omega arith, named_wide ls l k)

named_more : (n : ℕ) (ls : List (Option ℕ)) (w : ℕ) → w ≤ n → Named n ls → Named n (ls ++ line_of w ∷ [])
named_more n [] zero l k = tt
named_more n [] (suc x) l k = (l, tt)
named_more n (none ∷ ls) w l k = named_more n ls w l k
named_more n (some x ∷ ls) w l (a, k) = (a, named_more n ls w l k)

-- each means the rule of its state
named_matched : (N : ℕ) (σ : Aut) (ls : List (Option ℕ)) → Named (states σ) ls → Matched N σ ls (map (rule_at N σ) ls)
named_matched N σ [] k = done
named_matched N σ (none ∷ ls) k = asked (named_matched N σ ls k)
named_matched N σ (some x ∷ ls) (a, k) = made (record { state = a; strings = λ w. (λ s. s, λ s. s) }) (named_matched N σ ls k)

-- ---- a new book's tables

-- the setting by block 0, under the limits L
abbrev pub setting_in : Lent → Limits → List ℕ → Setting
setting_in lent L image = record { fields = (head_at image).fields; budget = (head_at image).budget; limits = L; entries = lent.pending / 2; room = lent.output }

-- the same tables lent, and an output for the first line
abbrev longer : Lent → ℕ → Lent
longer lent n = record {
  sp = lent.sp;
  spp = lent.spp;
  states = lent.states;
  members = lent.members;
  transitions = lent.transitions;
  pending = lent.pending;
  scratch = lent.scratch;
  output = n;
}

room_fresh : (lent : Lent) {N : ℕ} {s r : Table} {z : ℕ} {c : Spp.Constants} → N ≤ 31 → Sp.constants N (table (zeroed lent.sp) 0) ≡ given s z → Spp.constants N (table (zeroed lent.spp) 0) ≡ given r c
    → RoomSpec lent (tables s (store (aut r (table (zeroed lent.states) 0) (table (zeroed lent.members) 0)) (table (zeroed lent.transitions) 0)))
room_fresh lent {N} l a b =
    let r = (begun_in_order {lent = longer lent (length (fields_answer N))} (record { fields = N; budget = 0 }) (begun l a b (omega arith))).tables.room in
    record { sp = r.sp; spp = r.spp; states = r.states; members = r.members; transitions = r.transitions; zero = r.zero }

-- ---- the records

-- a line's word, back and forth
line_word_lem : (w : ℕ) → line_word (line_of w) ≡ w
line_word_lem zero = refl
line_word_lem (suc x) = omega arith

lines_more : (ls : List (Option ℕ)) (l : Option ℕ) → line_words (ls ++ l ∷ []) ≡ line_words ls ++ line_word l ∷ []
unfolding line_words
lines_more [] l = refl
lines_more (k ∷ ls) l = ap {B = List ℕ} (λ r. line_word k ∷ r) (lines_more ls l)

module _ (lent : Lent) (L : Limits) (image : List ℕ) where
  abbrev h : Head
  h = head_at image

  abbrev N : ℕ
  N = (head_at image).fields

  S : Setting
  S = setting_in lent L image

  -- the place when so many packet nodes, relation nodes, states and lines are made: in order, and with the image's words
  pub record Held (a b c d : ℕ) (p : RunState) : Type 0 where
    pub ordered : WfTables (head_at image).fields L p.tables
    pub room : RoomSpec lent p.tables
    pub sets : Copied image (head_at image) L 2 (head_at image).fields 0 a p.tables.sets
    pub auts : Auts image (head_at image) L (3 * (head_at image).fields) b c p.tables.base.aut
    pub named : Named (states p.tables.base.aut) p.lines
    pub lines : line_words p.lines ≡ words_from image (head_at image) L (start_of 4 (layout (head_at image))) d
    pub silent : p.output ≡ []

  fresh_comes : 1 ≤ L.transitions → N ≤ 31 → Comes Refusing (Held 0 0 0 0) (fresh lent N)
  unfolding fresh words_from line_words
  fresh_comes few l = go (Sp.constants N (table (zeroed lent.sp) 0)) (Spp.constants N (table (zeroed lent.spp) 0)) refl refl
    where
      go : (s : Outcome Table ℕ) (r : Outcome Table Spp.Constants) → Sp.constants N (table (zeroed lent.sp) 0) ≡ s → Spp.constants N (table (zeroed lent.spp) 0) ≡ r
          → Comes Refusing (Held 0 0 0 0) (constants_in lent s r)
      go (refused e) r a b = stops (r20 (SpStart.begun_refused N (zeroed lent.sp) e a).0)
      go (given s z) (refused e) a b = stops (r21 (SppBegin.begun_refused N (zeroed lent.spp) e b).0)
      go (given s z) (given r c) a b =
          let m = room_fresh lent l a b in
          let B = given_of (SpStart.begun N (zeroed lent.sp)) a in
          let C = given_of (SppBegin.begun N (zeroed lent.spp)) b in
          comes (record {
            ordered = begun_ordered (zeroed lent.sp) (zeroed lent.spp) (zeroed lent.states) (zeroed lent.members) (zeroed lent.transitions) few a b (λ j. m.states.beyond j (omega arith));
            room = m;
            sets = record { count = omega (arith, B.count_is); fits = B.wf.fits; same = λ j l. absurd (omega arith) };
            auts = record {
              nodes = record { count = omega (arith, C.count); fits = C.wf.nodes.fits; same = λ j l. absurd (omega arith) };
              states = record { count = refl; same = λ j r l m. absurd (omega arith) };
              members = record { fits = omega arith; same = λ j l. absurd (omega arith) };
            };
            named = tt;
            lines = refl;
            silent = refl;
          })

  -- the tables have come further
  held_later : {a b c d a' b' c' : ℕ} {p : RunState} {σ : Tables} → Held a b c d p → ExtTables p.tables σ → WfTables N L σ
      → Copied image h L 2 N 0 a' σ.sets → Auts image h L (3 * N) b' c' σ.base.aut → Held a' b' c' d (place σ p.lines p.output)
  unfolding S
  held_later {p = p} i x o C A = record {
    ordered = o;
    room = room_later S lent i.room x o;
    sets = C;
    auts = A;
    named = named_wide p.lines x.grown.states.more i.named;
    lines = i.lines;
    silent = i.silent;
  }

  held_aut : {a b c d b' c' : ℕ} {p : RunState} {τ : Aut} → Held a b c d p → Since N L p.tables.base.aut τ → Auts image h L (3 * N) b' c' τ
      → Held a b' c' d (place (put_base (put_aut τ p.tables.base) p.tables) p.lines p.output)
  held_aut i w A = held_later i (gone_later (gone_base (went_since w))) (ordered_base i.ordered (went_since w) (worked_since i.ordered.worked w)) i.sets A

  node_comes : (b c d i : ℕ) (p : RunState) → Held i b c d p → Comes Refusing (Held (i + 1) b c d) (node image h L i (0 + 2 * i) p)
  node_comes b c d i p m = go (Records.node N i x0 x1 p.tables.sets) refl
    where
      x0 : ℕ
      x0 = word image h L (0 + 2 * i)

      x1 : ℕ
      x1 = word image h L (0 + 2 * i + 1)

      go : (o : Outcome Table ℕ) → Records.node N i x0 x1 p.tables.sets ≡ o
          → Comes Refusing (Held (i + 1) b c d) (placed (λ (σ : Tables) (p : RunState). place σ p.lines p.output) p (placed put_sets p.tables o))
      go (refused number) e = stops (⊎_elim r32 r20 (node_refuses N i x0 x1 p.tables.sets e))
      go (given t y) e =
          let d = node_goes N i x0 x1 p.tables.sets m.ordered.sets e in
          comes (held_later m (gone_later (gone_sets d.ext)) (ordered_sets m.ordered d.ext d.wf) (node_copied image h L N 0 i m.sets d) m.auts)

  -- a step on the constructors' tables, as one on the place
  abbrev on_place : RunState → Outcome Aut ℕ → Outcome RunState ℕ
  on_place p o = placed (λ (σ : Tables) (p : RunState). place σ p.lines p.output) p (placed put_base p.tables (placed put_aut p.tables.base o))

  relation_comes : (a c d i : ℕ) (p : RunState) → Held a i c d p → Comes Refusing (Held a (i + 1) c d) (relation image h L i (start_of 1 (layout h) + 4 * i) p)
  relation_comes a c d i p m = go (Records.relation N i X p.tables.base.aut.nodes) refl
    where
      s : ℕ
      s = start_of 1 (layout h) + 4 * i

      X : Spp.Quad
      X = Spp.quad (word image h L s) (word image h L (s + 1)) (word image h L (s + 2)) (word image h L (s + 3))

      go : (o : Outcome Table ℕ) → Records.relation N i X p.tables.base.aut.nodes ≡ o → Comes Refusing (Held a (i + 1) c d) (on_place p (placed put_nodes p.tables.base.aut o))
      go (refused number) e = stops (⊎_elim r32 r21 (relation_refuses N i X p.tables.base.aut.nodes e))
      go (given t y) e =
          let g = m.ordered.worked.good in
          let d = relation_goes N i X p.tables.base.aut.nodes g.nodes e in
          comes (held_aut m (record { grown = grown_nodes {σ = p.tables.base.aut} d.ext; memos = λ i w a b. refl; good = good_nodes g d.ext d.wf })
          (record { nodes = relation_copied image h L N (3 * N) (start_of 1 (layout h)) i m.auts.nodes d; states = m.auts.states; members = m.auts.members }))

  state_comes : (a b d i : ℕ) (p : RunState) → Held a b i d p → Comes Refusing (Held a b (i + 1) d) (state image h L i (start_of 3 (layout h) + 4 * i) p)
  unfolding state_at
  state_comes a b d i p m = at_list ((eqb k UNION || eqb k INTERSECT) && ltb h.members (x + y))
    where
      s : ℕ
      s = start_of 3 (layout h) + 4 * i

      k : ℕ
      k = word image h L s

      x : ℕ
      x = word image h L (s + 1)

      y : ℕ
      y = word image h L (s + 2)

      e : ℕ
      e = word image h L (s + 3)

      go : (o : Outcome Aut ℕ) → Records.state N L (list_at image h L k x y) k x y e p.tables.base.aut ≡ o → Comes Refusing (Held a b (i + 1) d) (on_place p o)
      go (refused number) q = stops (r_state (state_refuses N L p.tables.base.aut (list_at image h L k x y) k x y e number q))
      go (given τ z) q =
          let d = state_goes N L p.tables.base.aut m.ordered.worked.good (list_at image h L k x y) k x y e τ z q in
          comes (held_aut m (record { grown = d.grown; memos = d.memos; good = d.good }) (auts_more image h L m.auts k x y e refl refl refl refl d))

      at_list : (c : Bool) → Comes Refusing (Held a b (i + 1) d) (on_place p ((if c then (λ (σ : Aut). refused 32) else Records.state N L (list_at image h L k x y) k x y e) p.tables.base.aut))
      at_list true = stops (r32 refl)
      at_list false = go (Records.state N L (list_at image h L k x y) k x y e p.tables.base.aut) refl

  line_comes : (a b c i : ℕ) (p : RunState) → Held a b c i p → Comes Refusing (Held a b c (i + 1)) (line image h L i (start_of 4 (layout h) + 1 * i) p)
  unfolding words_from
  line_comes a b c i p m =
      comes_if (leb w (states p.tables.base.aut))
      (λ e. comes (record {
        ordered = m.ordered;
        room = m.room;
        sets = m.sets;
        auts = m.auts;
        named = named_more (states p.tables.base.aut) p.lines w (leb-true w (states p.tables.base.aut) e) m.named;
        lines = lines_more p.lines (line_of w) ∙ ap₂ (λ (l : List ℕ) (w : ℕ). l ++ w ∷ []) m.lines (line_word_lem w ∙ ap (word image h L) (omega arith)) ∙ sym (row_append image h L i 1 s);
        silent = m.silent;
      }))
      (λ e. stops (r32 refl))
    where
      s : ℕ
      s = start_of 4 (layout h)

      w : ℕ
      w = word image h L (s + 1 * i)

  -- ---- all records

  -- What is known of an image that is read to the place p: all its records are made, all its blocks are taken, and there is nothing else.
  pub record IsRead (p : RunState) : Type 0 where
    pub opened : Opened image
    pub long : length image ≡ 512 * blocks_of (head_at image)
    pub held : Held (head_at image).sp (head_at image).spp (head_at image).states (head_at image).lines p
    pub taken : Taken image (total (head_at image))
    pub members_all : p.tables.base.aut.members.count ≡ (head_at image).members
    pub rest : unused image (reach (total (head_at image))) (total (head_at image) - 127 * (reach (total (head_at image)) - 1)) (127 * reach (total (head_at image)) - total (head_at image)) ≡ true

  ended_comes : (p : RunState) → Opened image → Held h.sp h.spp h.states h.lines p → Taken image (total h) → Comes Refusing IsRead (ended image h L p)
  unfolding ended
  ended_comes p w m t =
      comes_if (eqb n h.members && u)
      (λ e. let (a, b) = and_true (eqb n h.members) u e in
      comes (record { opened = w; long = omega (arith, w.whole, w.fits.blocks); held = m; taken = t; members_all = eqb-true n h.members a; rest = b }))
      (λ e. stops (r32 refl))
    where
      n : ℕ
      n = p.tables.base.aut.members.count

      u : Bool
      u = unused image (reach (total h)) (total h - 127 * (reach (total h) - 1)) (127 * reach (total h) - total h)

  records_read : (p : RunState) → Opened image → Held 0 0 0 0 p → Comes Refusing IsRead (records_of image h L p)
  unfolding records_of
  records_read p w m =
      comes_after (all (λ i. Held i 0 0 0) (node image h L) 2 0 (omega arith) (node_comes 0 0 0) h.sp p start m) (λ p x m.
      comes_after (all (λ i. Held h.sp i 0 0) (relation image h L) 4 (start_of 1 (layout h)) (omega arith) (relation_comes h.sp 0 0) h.spp p (subst (Taken image) (start1 h) m.1) m.0) (λ p x m.
      comes_after (all (λ i. Held h.sp h.spp 0 0) (member image h L) 1 (start_of 2 (layout h)) (omega arith) (λ i p m. comes m) h.members p (subst (Taken image) (start2 h) m.1) m.0) (λ p x m.
      comes_after (all (λ i. Held h.sp h.spp i 0) (state image h L) 4 (start_of 3 (layout h)) (omega arith) (state_comes h.sp h.spp 0) h.states p (subst (Taken image) (start3 h) m.1) m.0) (λ p x m.
      comes_after (all (λ i. Held h.sp h.spp h.states i) (line image h L) 1 (start_of 4 (layout h)) (omega arith) (line_comes h.sp h.spp h.states) h.lines p (subst (Taken image) (start4 h) m.1) m.0) (λ p x m.
      ended_comes p w m.0 (subst (Taken image) (start5 h) m.1))))))
    where
      all : (P : ℕ → RunState → Type 0) (make : ℕ → ℕ → Step RunState ℕ) (size from : ℕ) → size ≤ 4 → ((i : ℕ) (p : RunState) → P i p → Comes Refusing (P (i + 1)) (make i (from + size * i) p))
          → (n : ℕ) (p : RunState) → Taken image from → P 0 p → Comes Refusing (λ q. P n q × Taken image (from + size * n)) (records image h L make size 0 from n p)
      all = records_come image h L Refusing r30 r31

      start : Taken image 0
      start b l = subst (λ (b : ℕ). verify image b ≡ none) {x = 0} (omega arith) w.first

  -- what is read, or the number
  pub read_is : 1 ≤ L.transitions → Comes Refusing IsRead (read lent L image)
  read_is few = read_comes lent L image Refusing r30 r31 (r32 refl) (λ w. fresh_comes few w.fits.fields) (λ w p m. records_read p w m)

  pub lines_count : {p : RunState} → IsRead p → length p.lines ≡ h.lines
  lines_count {p} R = sym (lines_length p.lines) ∙ ap length R.held.lines ∙ row_length image h L h.lines (start_of 4 (layout h))

  -- in order, with the rules of its records
  held_order : {a b c d : ℕ} {p : RunState} → Held a b c d p → InOrder (setting_in lent L image) lent p (rules_in N p)
  held_order {p = p} m = in_order (setting_in lent L image) lent m.ordered m.room (named_matched N p.tables.base.aut p.lines m.named)

-- ---- the budget

pub budget_small : (image : List ℕ) → Bytes image → (head_at image).budget < 2 ^ 64
unfolding head_at
budget_small image b = omega (arith, word_small image 0 1 b, word_small image 0 2 b)

-- ---- what is read

-- all of specs/Claims: PlaceSpec but the image again
pub record PlaceRead (S : Setting) (lent : Lent) (p : RunState) : Type 0 where
  pub in_order : InOrder S lent p (rules_in S.fields p)
  pub fields : S.fields ≤ 31
  pub budget : S.budget < 2 ^ 64
  pub lines : length p.lines ≤ 2048
  pub silent : p.output ≡ []

-- under any limits that allow a transition
pub is_read : (L : Limits) → 1 ≤ L.transitions → (lent : Lent) (image : List ℕ) {p : RunState} {x : ℕ} → read lent L image ≡ given p x → IsRead lent L image p
is_read L few lent image e = comes_given (read_is lent L image few) e

pub read_limits : (L : Limits) → 1 ≤ L.transitions → (lent : Lent) (image : List ℕ) (p : RunState) (x : ℕ) → Bytes image → read lent L image ≡ given p x → PlaceRead (setting_in lent L image) lent p
read_limits L few lent image p x b e =
    let R = is_read L few lent image e in
    record {
      in_order = held_order lent L image R.held;
      fields = R.opened.fits.fields;
      budget = budget_small image b;
      lines = omega (arith, lines_count lent L image R, R.opened.fits.lines);
      silent = R.held.silent;
    }

pub unread_limits : (L : Limits) → 1 ≤ L.transitions → (lent : Lent) (image : List ℕ) (number : ℕ) → read lent L image ≡ refused number → Refusing number
unread_limits L few lent image number e = comes_refused (read_is lent L image few) e

-- under 01's
pub read_in_order : (lent : Lent) (image : List ℕ) (p : RunState) (x : ℕ) → Bytes image → read lent limits01 image ≡ given p x → PlaceRead (setting_at lent image) lent p
read_in_order lent image p x b e = read_limits limits01 (omega arith) lent image p x b e

pub unread : Unread
unread lent image number e = unread_limits limits01 (omega arith) lent image number e
