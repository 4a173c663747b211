-- The place that is read from an own image (image_steps/specs/Claims: stripped), with the lent lengths of the save: the same packet nodes, relation nodes, members, lines and states by words 0 to 3; nothing is stored. It is in order.
use mathlib.Core.Path.{◌≡◌, refl, sym, ◌∙◌, ap, subst}
use mathlib.Core.List.{List, [], ◌∷◌, ◌++◌, append-nil}
use mathlib.Core.Option.{Option}
use Prim.Native.Nat.{ℕ, zero, suc, ◌+◌, ◌*◌, ◌-◌, ◌≤◌, ◌<◌}
use native.Mathlib.Omega.{arith}
use lib.Dec.{ltb}
use lib.ListN.{length, get_or, take, length-append, length-replicate, get_or-append}
use lib.Seq.{get_or-append-add}
use borrow.Author.Tests.{ltb-true, ltb-false}
use Rattle.common.specs.Runs.{Table, table}
use Rattle.netkat.specs.Rules.{Rule}
use Rattle.sp_steps.specs.Wf as SpLaws
use Rattle.spp_steps.specs.Wf.{Wf, Ext}
use Rattle.spp_steps.proofs.Laws.{ext_refl, by_test}
use Rattle.aut_steps.specs.Tables.{words, Limits, Aut}
use Rattle.aut_steps.specs.Wf.{states, ExtM, ExtAut, WfAut}
use Rattle.aut_steps.proofs.Wf.{extm_refl}
use Rattle.aut_delta_steps.specs.Epsilon.{epsilon_of}
use Rattle.aut_delta_steps.specs.Delta.{start_of, count_of}
use Rattle.aut_delta_steps.proofs.Noted.{good_same}
use Rattle.aut_delta_steps.specs.Wf.{WfStore}
use Rattle.aut_query_steps.specs.Tables.{live_of, WfTables}
use Rattle.aut_replay.specs.Replay.{SettledLists}
use Rattle.aut_replay.proofs.Epsilon.{epsilon_again}
use Rattle.aut_replay.proofs.Delta.{delta_again}
use Rattle.book_steps.specs.Demands.{TableSpec, RoomSpec, InOrder}
use Rattle.book_steps.specs.Run.{Lent, Setting, RunState, zeroed}
use Rattle.book_steps.proofs.Meaning.{matched_grown}
use Rattle.book_steps.proofs.Lines.{in_order}
use Rattle.image_steps.specs.Claims.{cut_to, plain_states, stripped}
use Rattle.image_continued.specs.Records.{SameRecords}
use Rattle.image_continued.specs.Mode.{Mode, apart, beside, whole, Whole}
use Rattle.image_continued.specs.Continued.{live_at, Standing, Continues, CutContinued}
use Rattle.image_continued.proofs.Delta.{wider_refl}
use Rattle.image_continued.proofs.Tables.{TwinTables}
use Rattle.image_continued.proofs.Lines.{continues_of}

-- ---- words

zero_at_lem : (n j : ℕ) → ◌≡◌ {A = ℕ} (get_or (zeroed n) j 0) 0
zero_at_lem zero j = refl
zero_at_lem (suc n) zero = refl
zero_at_lem (suc n) (suc j) = zero_at_lem n j

-- behind a list, zeros
behind : (l : List ℕ) (n j : ℕ) → length l ≤ j → get_or (l ++ zeroed n) j 0 ≡ 0
behind [] n j m = zero_at_lem n j
behind (x ∷ xs) n zero m = absurd (omega arith)
behind (x ∷ xs) n (suc j) m = behind xs n j (omega arith)

all_zero : (t : List ℕ) → ((j : ℕ) → get_or t j 0 ≡ 0) → zeroed (length t) ≡ t
all_zero [] f = refl
all_zero (x ∷ xs) f = (λ d. sym (f 0) d ∷ zeroed (length xs)) ∙ ap (λ (l : List ℕ). x ∷ l) (all_zero xs (λ j. f (suc j)))

cut_all : (n : ℕ) (t : List ℕ) → n ≤ length t → ((j : ℕ) → n ≤ j → get_or t j 0 ≡ 0) → take n t ++ zeroed (length t - n) ≡ t
cut_all zero t l f = ap zeroed {x = length t - 0} {y = length t} (omega arith) ∙ all_zero t (λ j. f j (omega arith))
cut_all (suc n) [] l f = absurd (omega arith)
cut_all (suc n) (x ∷ xs) l f =
    ap (λ (k : ℕ). x ∷ (take n xs ++ zeroed k)) {x = suc (length xs) - suc n} {y = length xs - n} (omega arith)
    ∙ ap (λ (l : List ℕ). x ∷ l) (cut_all n xs (omega arith) (λ j m. f (suc j) (omega arith)))

-- a table whose words behind its records are 0
pub cut_same : {room size most : ℕ} {t : Table} → TableSpec room size most t → table (cut_to room (size * t.count) t.words) t.count ≡ t
cut_same {room} {size} {most} {t} s =
    ap (λ (l : List ℕ). table l t.count)
    (ap (λ (k : ℕ). take (size * t.count) t.words ++ zeroed (k - size * t.count)) (sym s.len) ∙ cut_all (size * t.count) t.words (omega (arith, s.len, s.whole)) s.beyond)

-- ---- states by words 0 to 3

plain_length : (st : List ℕ) (n : ℕ) → length (plain_states st n) ≡ 12 * n
unfolding plain_states words
plain_length st zero = refl
plain_length st (suc n) = length-append (plain_states st n) (words st (12 * n) 4 ++ zeroed 8) ∙ ap (λ (k : ℕ). k + 12) (plain_length st n) ∙ omega arith

-- the words of the last of them
last_low : (st : List ℕ) (n w : ℕ) → w < 4 → get_or (words st (12 * n) 4 ++ zeroed 8) w 0 ≡ get_or st (12 * n + w) 0
unfolding words
last_low st n zero l = ap (λ (j : ℕ). get_or st j 0) {x = 12 * n} {y = 12 * n + 0} (omega arith)
last_low st n (suc zero) l = ap (λ (j : ℕ). get_or st j 0) {x = 12 * n + 1} {y = 12 * n + 1} refl
last_low st n (suc (suc zero)) l = ap (λ (j : ℕ). get_or st j 0) {x = 12 * n + 1 + 1} {y = 12 * n + 2} (omega arith)
last_low st n (suc (suc (suc zero))) l = ap (λ (j : ℕ). get_or st j 0) {x = 12 * n + 1 + 1 + 1} {y = 12 * n + 3} (omega arith)
last_low st n (suc (suc (suc (suc w)))) l = absurd (omega arith)

last_high : (st : List ℕ) (n w : ℕ) → 4 ≤ w → get_or (words st (12 * n) 4 ++ zeroed 8) w 0 ≡ 0
unfolding words
last_high st n w l = behind (words st (12 * n) 4) 8 w l

-- by state and word
plain_word : (P : ℕ → ℕ → Type 0) (st : List ℕ) (n x w : ℕ) → x < n → w < 12
    → ((y : ℕ) → P y (get_or (words st (12 * y) 4 ++ zeroed 8) w 0)) → P x (get_or (plain_states st n) (12 * x + w) 0)
unfolding plain_states
plain_word P st zero x w l m f = absurd (omega arith)
plain_word P st (suc n) x w l m f = by_test (ltb x n)
    (λ q. subst (P x) (sym (get_or-append (plain_states st n) (words st (12 * n) 4 ++ zeroed 8) 0 (12 * x + w) (omega (arith, plain_length st n, ltb-true x n q)))) (plain_word P st n x w (ltb-true x n q) m f))
    (λ q. let e : x ≡ n = omega (arith, ltb-false x n q) in
    subst (λ (y : ℕ). P y (get_or (plain_states st n ++ (words st (12 * n) 4 ++ zeroed 8)) (12 * y + w) 0)) (sym e)
    (subst (P n) (sym (ap (λ (j : ℕ). get_or (plain_states st n ++ (words st (12 * n) 4 ++ zeroed 8)) j 0) {x = 12 * n + w} {y = length (plain_states st n) + w} (omega (arith, plain_length st n))
    ∙ get_or-append-add (plain_states st n) (words st (12 * n) 4 ++ zeroed 8) w 0)) (f n)))

module _ (st : List ℕ) (n k : ℕ) where
  abbrev plain : List ℕ
  plain = plain_states st n ++ zeroed k

  inside : (x w : ℕ) → x < n → w < 12 → get_or plain (12 * x + w) 0 ≡ get_or (plain_states st n) (12 * x + w) 0
  inside x w l m = get_or-append (plain_states st n) (zeroed k) 0 (12 * x + w) (omega (arith, plain_length st n))

  pub plain_low : (x w : ℕ) → x < n → w < 4 → get_or plain (12 * x + w) 0 ≡ get_or st (12 * x + w) 0
  plain_low x w l m = inside x w l (omega arith) ∙ plain_word (λ y v. v ≡ get_or st (12 * y + w) 0) st n x w l (omega arith) (λ y. last_low st y w m)

  pub plain_high : (x w : ℕ) → 4 ≤ w → w < 12 → get_or plain (12 * x + w) 0 ≡ 0
  plain_high x w a b = by_test (ltb x n)
      (λ q. inside x w (ltb-true x n q) b ∙ plain_word (λ y v. v ≡ 0) st n x w (ltb-true x n q) b (λ y. last_high st y w a))
      (λ q. behind (plain_states st n) k (12 * x + w) (omega (arith, plain_length st n, ltb-false x n q)))

  pub plain_beyond : (j : ℕ) → 12 * n ≤ j → get_or plain j 0 ≡ 0
  plain_beyond j l = behind (plain_states st n) k j (omega (arith, plain_length st n))

-- ---- the place

table_none : (room size most : ℕ) → TableSpec room size most (table (zeroed room) 0)
table_none room size most = record { len = length-replicate {A = ℕ} room 0; whole = omega arith; cap = omega arith; beyond = λ j k. zero_at_lem room j }

module _ (S : Setting) (lent : Lent) (p : RunState) (R : List (Option (Rule S.fields))) (s : Standing S lent p R) where
  abbrev N : ℕ
  N = S.fields

  abbrev L : Limits
  L = S.limits

  abbrev q : RunState
  q = stripped lent p

  abbrev A : Aut
  A = p.tables.base.aut

  abbrev B : Aut
  B = q.tables.base.aut

  r : RoomSpec lent p.tables
  r = s.in_order.tables.room

  o : WfTables N L p.tables
  o = s.in_order.ordered

  same_sets : q.tables.sets ≡ p.tables.sets
  same_sets = cut_same r.sp

  same_nodes : B.nodes ≡ A.nodes
  same_nodes = cut_same r.spp

  same_members : B.members ≡ A.members
  same_members = ap (λ (n : ℕ). table (cut_to lent.members n A.members.words) A.members.count) {x = A.members.count} {y = 1 * A.members.count} (omega arith) ∙ cut_same r.members

  len : length B.states.words ≡ lent.states
  len = length-append (plain_states A.states.words (states A)) (zeroed (lent.states - 12 * states A)) ∙ omega (arith, plain_length A.states.words (states A), length-replicate {A = ℕ} (lent.states - 12 * states A) 0, r.states.whole)

  low : (x w : ℕ) → w < 4 → get_or B.states.words (12 * x + w) 0 ≡ get_or A.states.words (12 * x + w) 0
  low x w l = by_test (ltb x (states A))
      (λ t. plain_low A.states.words (states A) (lent.states - 12 * states A) x w (ltb-true x (states A) t) l)
      (λ t. let m = ltb-false x (states A) t in
      plain_beyond A.states.words (states A) (lent.states - 12 * states A) (12 * x + w) (omega arith) ∙ sym (r.states.beyond (12 * x + w) (omega arith)))

  high : (x w : ℕ) → 4 ≤ w → w < 12 → get_or B.states.words (12 * x + w) 0 ≡ 0
  high = plain_high A.states.words (states A) (lent.states - 12 * states A)

  beyond : (j : ℕ) → 12 * states A ≤ j → get_or B.states.words j 0 ≡ 0
  beyond = plain_beyond A.states.words (states A) (lent.states - 12 * states A)

  records : SameRecords A B
  records = record { nodes = sym same_nodes; members = sym same_members; count = refl; len = r.states.len ∙ sym len; words = λ x w l. sym (low x w l) }

  grown : ExtAut A B
  grown = record {
    nodes = subst (Ext A.nodes) (sym same_nodes) (ext_refl A.nodes);
    states = record { more = omega arith; len = len ∙ sym r.states.len; keep = λ i w l m. low i w m; beyond = λ j l. beyond j l ∙ sym (r.states.beyond j l) };
    members = subst (ExtM A.members) (sym same_members) (extm_refl A.members);
  }

  good : WfAut N L B
  good = good_same o.worked.good grown (subst (Wf N) (sym same_nodes) o.worked.good.nodes) refl same_members

  no_epsilon : (x : ℕ) → epsilon_of B.states.words x ≡ 0
  unfolding epsilon_of
  no_epsilon x = high x 4 (omega arith) (omega arith)

  no_start : (x : ℕ) → start_of B.states.words x ≡ 0
  unfolding start_of
  no_start x = high x 5 (omega arith) (omega arith)

  no_list : (x : ℕ) → count_of B.states.words x ≡ 0
  unfolding count_of
  no_list x = high x 6 (omega arith) (omega arith)

  no_live : (x : ℕ) → live_of B.states.words x ≡ 0
  unfolding live_of
  no_live x = high x 7 (omega arith) (omega arith)

  worked : WfStore N L q.tables.base
  worked = record {
    good = good;
    epsilons = record { none = λ x l k. no_epsilon x; kept = λ x l e k. absurd (omega (arith, no_epsilon x)) };
    lists = record {
      some = o.worked.lists.some;
      fit = omega arith;
      small = omega arith;
      held = λ x l. record { inside = λ k e. absurd (omega (arith, no_list x)); short = omega (arith, no_list x); list = λ c. absurd (omega (arith, no_list x)) };
      laid = record {
        owned = λ t l. absurd (omega arith);
        apart = λ x y t l m a b. absurd (omega (arith, a.1, no_start x, no_list x));
        border = λ x y l m c a. absurd (omega (arith, no_list x));
        blank = λ x l c. no_start x;
      };
    };
  }

  ordered : WfTables N L q.tables
  ordered = record {
    sets = subst (SpLaws.Wf N) (sym same_sets) o.sets;
    worked = worked;
    lives = record {
      kept = λ x l v e. absurd (omega (arith, no_live x));
      listed = λ x l c. absurd (omega (arith, no_live x));
      has_epsilon = λ x l c. absurd (omega (arith, no_live x));
      onward = λ x l c. absurd (omega (arith, no_live x));
    };
  }

  room : RoomSpec lent q.tables
  room = record {
    sp = subst (TableSpec lent.sp 2 16777216) (sym same_sets) r.sp;
    spp = subst (TableSpec lent.spp 4 16777216) (sym same_nodes) r.spp;
    states = record { len = len; whole = r.states.whole; cap = r.states.cap; beyond = beyond };
    members = subst (TableSpec lent.members 1 16777216) (sym same_members) r.members;
    transitions = table_none lent.transitions 2 16777216;
    zero = λ x w l m. high x w (omega arith) m;
  }

  settled : SettledLists N L q.tables.base
  settled = (delta_again N L L (wider_refl L)).begins q.tables.base ((epsilon_again N L L).begins B (λ x l. no_epsilon x)) (λ x l. no_list x)

  pub in_order_again : InOrder S lent q R
  in_order_again = in_order S lent ordered room (matched_grown o.worked.good grown s.in_order.tables.matched)

  pub stands_again : Standing S lent q R
  stands_again = record { in_order = in_order_again; settled = settled }

  twins : (mode : Mode) → (Whole mode → (x : ℕ) → live_at p x ≡ 0) → TwinTables N L mode p.tables q.tables
  twins mode f = record {
    base = record {
      less = record { knows = record { same = records; epsilons = λ x m. absurd (omega (arith, no_epsilon x)) }; lists = λ x m. absurd (omega (arith, no_list x)) };
      room = r.transitions.len ∙ sym (length-replicate {A = ℕ} lent.transitions 0);
      left = record { worked = o.worked; settled = s.settled };
      right = record { worked = worked; settled = settled };
    };
    left = o;
    right = ordered;
    lives = λ x m. absurd (omega (arith, no_live x));
    sets = λ e. sym same_sets;
    words = λ e x m. absurd (omega (arith, no_live x));
    all = λ e x m. absurd (omega (arith, f e x));
  }

  goes_on : (mode : Mode) → (Whole mode → (x : ℕ) → live_at p x ≡ 0) → Continues S lent mode p.output p q
  goes_on mode f = continues_of S lent p q (twins mode f) R s.in_order in_order_again refl (sym (append-nil p.output))

  pub cut_continued : CutContinued S lent p R
  cut_continued = record { always = goes_on beside (λ e. absurd e); without_live = λ n. goes_on whole (λ e. n) }
