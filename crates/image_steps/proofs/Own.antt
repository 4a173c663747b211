-- 02 (ii), an own image is read back: a place in order, saved and read, is the same tables without what was worked out (specs/Claims: OwnIsRead).
use Rattle.std.specs.Prelude.{if◌then◌else◌}
use mathlib.Core.Path.{◌≡◌, refl, sym, ◌∙◌, ap, ap₂}
use mathlib.Core.Bool.{Bool, true, false, ◌&&◌, ◌||◌}
use mathlib.Core.List.{List, [], ◌∷◌, ◌++◌}
use mathlib.Core.Option.{Option, none, some}
use Prim.Native.Nat.{ℕ, ◌+◌, ◌*◌, ◌-◌, ◌≤◌, ◌<◌, max}
use native.Mathlib.Omega.{arith}
use native.Mathlib.Numerals.{add-one}
use lib.Dec.{eqb, ltb, leb}
use lib.ListN.{length, get_or, take}
use lib.Seq.{take-suc, take-length}
use borrow.Author.Tests.{eqb-true, eq-eqb, le-ltb, le-leb}
use Rattle.common.specs.Outcome.{refused, given}
use Rattle.common.specs.Runs.{Table, table, placed}
use Rattle.sp_steps.specs.Model as Sp
use Rattle.spp_steps.specs.Model as Spp
use Rattle.spp_steps.proofs.Laws.{by_test}
use Rattle.aut_steps.specs.Tables.{UNION, INTERSECT, kind_of, op1, op2, nest, words, Limits, limits01, Aut, aut, put_nodes}
use Rattle.aut_steps.specs.Wf.{states, kind, first, second, nesting, members, members_before}
use Rattle.aut_steps.specs.Kinds.{form}
use Rattle.aut_steps.proofs.Facts.{words_length}
use Rattle.aut_steps.proofs.Wf.{ok_as}
use Rattle.aut_delta_steps.specs.Delta.{store, put_aut}
use Rattle.aut_query_steps.specs.Tables.{tables, put_sets, put_base}
use Rattle.book_steps.specs.Run.{Lent, Setting, RunState, place, zeroed}
use Rattle.image_steps.specs.Image.{Head, layout, start_of, line_word, head_of, saved}
use Rattle.image_steps.specs.Records as Records
use Rattle.image_steps.specs.Read.{head_at, constants_in, fresh, line_of, word, words_from, records, node, relation, member, list_at, state_at, state, line, ended, records_of, then_records, from_head, if_verified}
use Rattle.image_steps.specs.Claims.{cut_to, plain_states, stripped, RoomFor, OwnPlace, OwnIsRead}
use Rattle.image_steps.proofs.Lists.{words_at, filled, cut_filled}
use Rattle.image_steps.proofs.OwnNodes.{nodes_to, node_made, constants_made}
use Rattle.image_steps.proofs.OwnRelations.{relations_to, relation_made, relations_begun}
use Rattle.image_steps.proofs.OwnStates.{plain_length, states_to, members_to, state_made}
use Rattle.image_steps.proofs.OwnBody.{line_low, lines_at, body_sp, body_spp, body_members, body_state, body_line}
use Rattle.image_steps.proofs.OwnImage.{good, sets, image_length, verified, word_is, head_is, fits, rest_unused, entered}
use Rattle.image_steps.proofs.Loops.{read_whole, after_given, records_made}
use Rattle.image_steps.proofs.Copies.{row_is}
use Rattle.image_steps.proofs.States.{is_list}

line_back : (l : Option ℕ) → line_of (line_word l) ≡ l
line_back none = refl
line_back (some x) = ap line_of (add-one x)

module _ (lent : Lent) (p : RunState) where
  -- the first a packet nodes of p, b relation nodes and c states with their members, in tables of the lengths `lent`; and these lines
  abbrev place_to : (a b c : ℕ) → List (Option ℕ) → RunState
  place_to a b c ls =
      place
      (tables (nodes_to lent.sp p.tables.sets a)
      (store (aut (relations_to lent.spp p.tables.base.aut.nodes b) (states_to lent.states p.tables.base.aut c) (members_to lent.members p.tables.base.aut c))
      (table (zeroed lent.transitions) 0)))
      ls []

module _ (S : Setting) (lent lent' : Lent) (p : RunState) (own : OwnPlace S lent p) (room : RoomFor lent' p) where
  abbrev N : ℕ
  N = S.fields

  abbrev L : Limits
  L = limits01

  abbrev image : List ℕ
  image = saved S p

  abbrev h : Head
  h = head_of S p

  abbrev sp : Table
  sp = p.tables.sets

  abbrev σ : Aut
  σ = p.tables.base.aut

  abbrev at : (a b c : ℕ) → List (Option ℕ) → RunState
  at = place_to lent' p

  -- ---- a new book's constants

  no_states : states_to lent'.states σ 0 ≡ table (zeroed lent'.states) 0
  unfolding plain_states
  no_states = ap (λ (k : ℕ). table (zeroed k) 0) {x = lent'.states - 0} {y = lent'.states} (omega arith)

  no_members : members_to lent'.members σ 0 ≡ table (zeroed lent'.members) 0
  unfolding members_before
  no_members = ap (λ (k : ℕ). table (zeroed k) 0) {x = lent'.members - 0} {y = lent'.members} (omega arith)

  fresh_is : fresh lent' N ≡ given (at N (3 * N) 0 []) 0
  unfolding fresh
  fresh_is =
      ap₂ (constants_in lent') (constants_made N lent'.sp sp (sets S lent p own) room.sp) (relations_begun N lent'.spp σ.nodes (good S lent p own).nodes room.spp).1
      ∙ ap₂ (λ (s m : Table). given (place (tables (nodes_to lent'.sp sp N) (store (aut (relations_to lent'.spp σ.nodes (3 * N)) s m) (table (zeroed lent'.transitions) 0))) [] []) 0) (sym no_states) (sym no_members)

  -- ---- packet nodes

  word_sp : (j : ℕ) → j < 2 * sp.count → word image h L j ≡ get_or sp.words j 0
  unfolding start_of
  word_sp j l = word_is S lent p own h L j (omega arith) ∙ body_sp S L p (sets S lent p own) (good S lent p own) j l

  node_next : (i : ℕ) → i < sp.count → node image h L i (0 + 2 * i) (at (max N i) (3 * N) 0 []) ≡ given (at (max N (i + 1)) (3 * N) 0 []) (Sp.handle 0 i)
  unfolding Sp.kid
  node_next i l =
      ap (λ o. placed (λ σ p. place σ p.lines p.output) q (placed put_sets q.tables o))
      (ap₂ (λ (x y : ℕ). Records.node N i x y (nodes_to lent'.sp sp (max N i))) (w0) (w1) ∙ node_made N lent'.sp sp (sets S lent p own) room.sp i l)
    where
      q : RunState
      q = at (max N i) (3 * N) 0 []

      w0 : word image h L (0 + 2 * i) ≡ get_or sp.words (2 * i) 0
      w0 = word_sp (0 + 2 * i) (omega arith) ∙ ap (λ (j : ℕ). get_or sp.words j 0) {x = 0 + 2 * i} {y = 2 * i} (omega arith)

      w1 : word image h L (0 + 2 * i + 1) ≡ get_or sp.words (2 * i + 1) 0
      w1 = word_sp (0 + 2 * i + 1) (omega arith) ∙ ap (λ (j : ℕ). get_or sp.words j 0) {x = 0 + 2 * i + 1} {y = 2 * i + 1} (omega arith)

  nodes_made : records image h L (node image h L) 2 0 0 sp.count (at N (3 * N) 0 []) ≡ given (at sp.count (3 * N) 0 []) 0
  unfolding start_of
  nodes_made =
      ap (λ (n : ℕ). records image h L (node image h L) 2 0 0 sp.count (at n (3 * N) 0 [])) {x = N} {y = max N 0} (omega arith)
      ∙ records_made image h L (entered S lent p own h L) (node image h L) 2 0 sp.count (omega arith) (λ i. at (max N i) (3 * N) 0 []) (λ i. Sp.handle 0 i) node_next
      ∙ ap (λ (n : ℕ). given (at n (3 * N) 0 []) 0) {x = max N sp.count} {y = sp.count} (omega (arith, (sets S lent p own).many))

  -- ---- relation nodes

  abbrev start : ℕ → ℕ
  start n = start_of n (layout h)

  word_spp : (j : ℕ) → j < 4 * σ.nodes.count → word image h L (start 1 + j) ≡ get_or σ.nodes.words j 0
  unfolding start_of
  word_spp j l = word_is S lent p own h L (start 1 + j) (omega arith) ∙ body_spp S L p (sets S lent p own) (good S lent p own) j l

  relation_next : (i : ℕ) → i < σ.nodes.count
      → relation image h L i (start 1 + 4 * i) (at sp.count (max (3 * N) i) 0 []) ≡ given (at sp.count (max (3 * N) (i + 1)) 0 []) (i + 2)
  relation_next i l =
      ap (λ o. placed (λ σ p. place σ p.lines p.output) q (placed put_base q.tables (placed put_aut q.tables.base (placed put_nodes q.tables.base.aut o))))
      (ap₂ (λ (x y : ℕ). Records.relation N i (Spp.quad x y (word image h L (start 1 + 4 * i + 2)) (word image h L (start 1 + 4 * i + 3))) t) (w 0 (omega arith) (omega arith)) (w 1 (omega arith) (omega arith))
      ∙ ap₂ (λ (x y : ℕ). Records.relation N i (Spp.quad (get_or σ.nodes.words (4 * i) 0) (get_or σ.nodes.words (4 * i + 1) 0) x y) t) (w 2 (omega arith) (omega arith)) (w 3 (omega arith) (omega arith))
      ∙ relation_made N lent'.spp σ.nodes (good S lent p own).nodes room.spp i l)
    where
      q : RunState
      q = at sp.count (max (3 * N) i) 0 []

      t : Table
      t = relations_to lent'.spp σ.nodes (max (3 * N) i)

      w : (k : ℕ) {j m : ℕ} → k < 4 → (j ≡ start 1 + (4 * i + k)) × (m ≡ 4 * i + k) → word image h L j ≡ get_or σ.nodes.words m 0
      w k {j} {m} e (a, b) = ap (word image h L) a ∙ word_spp (4 * i + k) (omega arith) ∙ ap (λ (j : ℕ). get_or σ.nodes.words j 0) (sym b)

  relations_made : records image h L (relation image h L) 4 0 (start 1) σ.nodes.count (at sp.count (3 * N) 0 []) ≡ given (at sp.count σ.nodes.count 0 []) 0
  unfolding start_of
  relations_made =
      ap (λ (n : ℕ). records image h L (relation image h L) 4 0 (start 1) σ.nodes.count (at sp.count n 0 [])) {x = 3 * N} {y = max (3 * N) 0} (omega arith)
      ∙ records_made image h L (entered S lent p own h L) (relation image h L) 4 (start 1) σ.nodes.count (omega arith) (λ i. at sp.count (max (3 * N) i) 0 []) (λ i. i + 2) relation_next
      ∙ ap (λ (n : ℕ). given (at sp.count n 0 []) 0) {x = max (3 * N) σ.nodes.count} {y = σ.nodes.count} (omega (arith, (good S lent p own).nodes.fixed.many))

  -- ---- members

  abbrev begun : RunState
  begun = at sp.count σ.nodes.count 0 []

  members_passed : records image h L (member image h L) 1 0 (start 2) σ.members.count begun ≡ given begun 0
  unfolding start_of
  members_passed = records_made image h L (entered S lent p own h L) (member image h L) 1 (start 2) σ.members.count (omega arith) (λ i. begun) (λ i. 0) (λ i l. refl)

  -- ---- states

  word_member : (j : ℕ) → j < σ.members.count → word image h L (start 2 + j) ≡ get_or σ.members.words j 0
  unfolding start_of
  word_member j l = word_is S lent p own h L (start 2 + j) (omega arith) ∙ body_members S L p (sets S lent p own) (good S lent p own) j l

  list_read : (x k : ℕ) → x + k ≤ σ.members.count → words σ.members.words x k ≡ words_from image h L (start 2 + x) k
  list_read x k l =
      row_is image h L (words σ.members.words x k) (start 2 + x) k (words_length σ.members.words x k)
      (λ j m. words_at σ.members.words x k j m ∙ sym (word_member (x + j) (omega arith)) ∙ ap (word image h L) (omega arith))

  word_state : (x w : ℕ) → x < states σ → w < 4 → word image h L (start 3 + 4 * x + w) ≡ get_or σ.states.words (12 * x + w) 0
  unfolding start_of
  word_state x w l m = word_is S lent p own h L (start 3 + 4 * x + w) (omega arith) ∙ body_state S L p (sets S lent p own) (good S lent p own) x w l m

  list_end : (i : ℕ) → i < states σ → (eqb (kind σ i) UNION || eqb (kind σ i) INTERSECT) ≡ true → first σ i + second σ i ≤ σ.members.count
  unfolding form
  list_end i l q =
      by_test (eqb (kind σ i) UNION)
      (λ e. (ok_as (good S lent p own) UNION l (eqb-true _ _ e)).inside)
      (λ e. (ok_as (good S lent p own) INTERSECT l (eqb-true _ _ (sym (ap (λ (c : Bool). c || eqb (kind σ i) INTERSECT) e) ∙ q))).inside)

  state_at_lem : (i : ℕ) → i < states σ
      → state_at image h L (kind σ i) (first σ i) (second σ i) (nesting σ i) (at sp.count σ.nodes.count i []).tables.base.aut ≡ given (at sp.count σ.nodes.count (i + 1) []).tables.base.aut i
  unfolding state_at
  state_at_lem i l =
      ap (λ (c : Bool). (if c then (λ σ. refused 32) else Records.state N L xs (kind σ i) (first σ i) (second σ i) (nesting σ i)) τ) (whole (eqb (kind σ i) UNION || eqb (kind σ i) INTERSECT) refl)
      ∙ state_made σ (good S lent p own) lent'.spp lent'.states lent'.members room.spp room.states room.members i l (λ k. own.no_next i (l, k)) xs
      (λ a b. let c = is_list (kind σ i) a b in
      list_read (first σ i) (second σ i) (list_end i l c) ∙ sym (ap (λ (c : Bool). if c then words_from image h L (start 2 + first σ i) (second σ i) else []) c))
    where
      τ : Aut
      τ = (at sp.count σ.nodes.count i []).tables.base.aut

      xs : List ℕ
      xs = list_at image h L (kind σ i) (first σ i) (second σ i)

      whole : (c : Bool) → (eqb (kind σ i) UNION || eqb (kind σ i) INTERSECT) ≡ c → (c && ltb h.members (first σ i + second σ i)) ≡ false
      whole true q = le-ltb h.members (first σ i + second σ i) (list_end i l q)
      whole false q = refl

  state_next : (i : ℕ) → i < states σ → state image h L i (start 3 + 4 * i) (at sp.count σ.nodes.count i []) ≡ given (at sp.count σ.nodes.count (i + 1) []) i
  unfolding kind_of op1 op2 nest
  state_next i l =
      ap (λ o. placed (λ σ p. place σ p.lines p.output) q (placed put_base q.tables (placed put_aut q.tables.base o)))
      (ap₂ (λ (x y : ℕ). state_at image h L x y (word image h L (start 3 + 4 * i + 2)) (word image h L (start 3 + 4 * i + 3)) τ) w0 (word_state i 1 l (omega arith))
      ∙ ap₂ (λ (x y : ℕ). state_at image h L (kind σ i) (first σ i) x y τ) (word_state i 2 l (omega arith)) (word_state i 3 l (omega arith))
      ∙ state_at_lem i l)
    where
      q : RunState
      q = at sp.count σ.nodes.count i []

      τ : Aut
      τ = q.tables.base.aut

      w0 : word image h L (start 3 + 4 * i) ≡ get_or σ.states.words (12 * i) 0
      w0 =
          ap (word image h L) {x = start 3 + 4 * i} {y = start 3 + 4 * i + 0} (omega arith) ∙ word_state i 0 l (omega arith)
          ∙ ap (λ (j : ℕ). get_or σ.states.words j 0) {x = 12 * i + 0} {y = 12 * i} (omega arith)

  states_made : records image h L (state image h L) 4 0 (start 3) (states σ) begun ≡ given (at sp.count σ.nodes.count (states σ) []) 0
  unfolding start_of
  states_made = records_made image h L (entered S lent p own h L) (state image h L) 4 (start 3) (states σ) (omega arith) (λ i. at sp.count σ.nodes.count i []) (λ i. i) state_next

  -- ---- lines

  abbrev lined : ℕ → RunState
  lined i = at sp.count σ.nodes.count (states σ) (take i p.lines)

  line_next : (i : ℕ) → i < length p.lines → line image h L i (start 4 + 1 * i) (lined i) ≡ given (lined (i + 1)) 0
  unfolding start_of
  line_next i l =
      ap (λ (w : ℕ). if leb w (states σ) then given (place q.tables (q.lines ++ line_of w ∷ []) q.output) 0 else refused 32) w_is
      ∙ ap (λ (c : Bool). if c then given (place q.tables (q.lines ++ line_of (line_word x) ∷ []) q.output) 0 else refused 32) (le-leb (line_word x) (states σ) low)
      ∙ ap (λ (ls : List (Option ℕ)). given (place q.tables ls []) 0) (ap (λ (y : Option ℕ). take i p.lines ++ y ∷ []) (line_back x) ∙ sym (take-suc p.lines i none l) ∙ ap (λ (j : ℕ). take j p.lines) (sym (add-one i)))
    where
      q : RunState
      q = lined i

      x : Option ℕ
      x = get_or p.lines i none

      w_is : word image h L (start 4 + 1 * i) ≡ line_word x
      w_is =
          ap (word image h L) {x = start 4 + 1 * i} {y = start 4 + i} (omega arith) ∙ word_is S lent p own h L (start 4 + i) (omega arith)
          ∙ body_line S L p (sets S lent p own) (good S lent p own) i l

      low : line_word x ≤ states σ
      low = omega (arith, line_low own.in_order.tables.matched i, lines_at p.lines i l)

  lines_made : records image h L (line image h L) 1 0 (start 4) (length p.lines) (lined 0) ≡ given (lined (length p.lines)) 0
  unfolding start_of
  lines_made = records_made image h L (entered S lent p own h L) (line image h L) 1 (start 4) (length p.lines) (omega arith) lined (λ i. 0) line_next

  -- ---- all

  ended_is : ended image h L (lined (length p.lines)) ≡ given (lined (length p.lines)) 0
  unfolding ended
  ended_is =
      ap (λ (c : Bool). if c then given (lined (length p.lines)) 0 else refused 32)
      (ap₂ ◌&&◌ (eq-eqb (members_before σ (states σ)) σ.members.count (sym (good S lent p own).counted)) (rest_unused S lent p own))

  stripped_is : lined (length p.lines) ≡ stripped lent' p
  stripped_is = λ i.
      place (tables (table (a i) sp.count) (store (aut (table (b i) σ.nodes.count) (table (c i) (states σ)) (m i)) (table (zeroed lent'.transitions) 0))) (take-length p.lines i) []
    where
      a : filled lent'.sp (take (2 * sp.count) sp.words) ≡ cut_to lent'.sp (2 * sp.count) sp.words
      a = sym (cut_filled lent'.sp (2 * sp.count) sp.words (sets S lent p own).fits)

      b : filled lent'.spp (take (4 * σ.nodes.count) σ.nodes.words) ≡ cut_to lent'.spp (4 * σ.nodes.count) σ.nodes.words
      b = sym (cut_filled lent'.spp (4 * σ.nodes.count) σ.nodes.words (good S lent p own).nodes.nodes.fits)

      c : filled lent'.states (plain_states σ.states.words (states σ)) ≡ plain_states σ.states.words (states σ) ++ zeroed (lent'.states - 12 * states σ)
      c = ap (λ (k : ℕ). plain_states σ.states.words (states σ) ++ zeroed (lent'.states - k)) (plain_length σ.states.words (states σ))

      m : members_to lent'.members σ (states σ) ≡ table (cut_to lent'.members σ.members.count σ.members.words) σ.members.count
      m =
          ap (λ (k : ℕ). table (filled lent'.members (take k σ.members.words)) k) (sym (good S lent p own).counted)
          ∙ ap (λ (t : List ℕ). table t σ.members.count) (sym (cut_filled lent'.members σ.members.count σ.members.words (good S lent p own).members_fit))

  records_read : records_of image h L (at N (3 * N) 0 []) ≡ given (stripped lent' p) 0
  unfolding records_of
  records_read =
      after_given _ nodes_made ∙ after_given _ relations_made ∙ after_given _ members_passed ∙ after_given _ states_made ∙ after_given _ lines_made ∙ ended_is
      ∙ ap (λ (q : RunState). given q 0) stripped_is

pub own_read : OwnIsRead
own_read S lent lent' p own room =
    let n = image_length S lent p own in
    read_whole lent' limits01 (saved S p) (omega (arith, n)) (omega (arith, n))
    ∙ ap (λ (o : Option ℕ). if_verified o (from_head lent' limits01 (saved S p) (head_at (saved S p)))) (verified S lent p own 0 (omega arith))
    ∙ ap (from_head lent' limits01 (saved S p)) (head_is S lent p own)
    ∙ ap (λ (c : Bool). if c then then_records limits01 (saved S p) (head_of S p) (fresh lent' S.fields) else refused 32) (fits S lent p own)
    ∙ ap (then_records limits01 (saved S p) (head_of S p)) (fresh_is S lent lent' p own room)
    ∙ records_read S lent lent' p own room
