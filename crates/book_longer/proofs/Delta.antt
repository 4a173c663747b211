-- `delta` (aut_delta_steps' Delta) on longer tables: of a state among the first ones, whose operands are.
use mathlib.Core.Path.{◌≡◌, refl}
use mathlib.Core.Bool.{true, ◌&&◌}
use mathlib.Core.List.{List, [], ◌∷◌}
use Prim.Native.Nat.{ℕ, zero, suc, ◌+◌, ◌*◌, ◌-◌, ◌/◌, ◌≤◌, ◌<◌}
use native.Mathlib.Omega.{arith}
use lib.Dec.{eqb, ltb, leb}
use lib.ListN.{length}
use borrow.Author.Tests.{leb-true, le-leb}
use Rattle.common.specs.Outcome.{Step, ◌>>=◌}
use Rattle.common.specs.Runs.{table}
use Rattle.netkat_steps.specs.ListSteps.{Edge, edge, st_complement}
use Rattle.aut_steps.specs.Relations as Rel
use Rattle.aut_steps.specs.Tables.{SPP, UNION, INTERSECT, XOR, DIFFERENCE, COMPLEMENT, SEQUENCE, STAR, DUP, NEXT, UNTIL, kind_of, op1, op2, words, Limits, Aut, on_nodes}
use Rattle.aut_steps.specs.Wf.{states, WfAut}
use Rattle.aut_st_steps.specs.Operations.{ops}
use Rattle.aut_st_steps.specs.Edges.{edges, flat}
use Rattle.aut_delta_steps.proofs.Extends.{flat_length}
use Rattle.aut_delta_steps.specs.Epsilon.{each_of, epsilon}
use Rattle.aut_delta_steps.specs.Delta.{Store, store, put_aut, on_aut, transition_cap, room_t, append, list_at, keep_list, union_all, intersect_all, intersect_first, sequence_list, star_list, until_list, dup_list, top_list, delta_by_kind, delta_with, delta_by, delta}
use Rattle.book_longer.specs.Longer.{LongerWords, Longer, LongerStore, no_transition, Follows, goes, Respects, DeltaLonger}
use Rattle.book_longer.proofs.Follow.{follows_map, follows_placed, follows_value, follows_if, follows_case, follows_room, along, reading, returns, bind}
use Rattle.book_longer.proofs.Words.{at, kinds, firsts, seconds, nests, starts, counts, sets_longer, by_count}
use Rattle.book_longer.proofs.Sets.{and_true}
use Rattle.book_longer.proofs.Relations.{star_longer}
use Rattle.book_longer.proofs.Anchored.{Anchor, InAut, InStore, here, in_here, store_longer}
use Rattle.book_longer.proofs.Constructors.{on_nodes_lem, on_states_lem, mk_spp_longer, mk_top_longer, mk_until_longer}
use Rattle.netkat_steps.proofs.Related.{st_singleton_related, st_union_related, st_intersect_related, st_difference_related, st_xor_related, st_complement_related, st_postcompose_related, st_precompose_related, st_intersect_expr_related}
use Rattle.book_longer.proofs.Lists.{ops_respect}
use Rattle.book_longer.proofs.Operands as Op
use Rattle.book_longer.proofs.Operands.{First, Second, Closed, closed_here, first_below, second_below, list_below, each_below, word_longer}
use Rattle.book_longer.proofs.Epsilon.{list_same, epsilon_longer}

-- ---- stored lists

pub edges_same : {s t : List ℕ} → LongerWords s t → (i k : ℕ) → edges s i k ≡ edges t i k
unfolding edges
edges_same r i zero = refl
edges_same r i (suc k) = λ d. edge (at r (2 * i) d) (at r (2 * i + 1) d) ∷ edges_same r (i + 1) k d

room_t_more : {s t : List ℕ} (n k : ℕ) → LongerWords s t → room_t (table s n) k ≡ true → room_t (table t n) k ≡ true
unfolding room_t
room_t_more {s} {t} n k r e =
    let (a, b) = and_true (leb (n + k) (length s / 2)) (leb (n + k) transition_cap) e in
    λ d. le-leb (n + k) (length t / 2) (omega (arith, leb-true (n + k) (length s / 2) a, r.len)) d && b d

room_t_fits : (s : List ℕ) (n k : ℕ) → room_t (table s n) k ≡ true → 2 * n + 2 * k ≤ length s
unfolding room_t
room_t_fits s n k e = let (a, b) = and_true (leb (n + k) (length s / 2)) (leb (n + k) transition_cap) e in omega (arith, leb-true (n + k) (length s / 2) a)

append_longer : {s t : List ℕ} (n : ℕ) (es : List Edge) → 2 * n + 2 * length es ≤ length s → LongerWords s t → Longer (append es (table s n)) (append es (table t n))
unfolding append
append_longer n es l r = record { words = sets_longer (flat es) (2 * n) (omega (arith, flat_length es)) r; count = refl }

module _ {a : Anchor} where
  pub on_aut_lem : {A : Type 0} {c : Step Aut A} → Respects (InAut a) c → Respects (InStore a) (on_aut c)
  on_aut_lem h σ τ r = follows_placed put_aut σ τ (h σ.aut τ.aut r.aut) (λ s t p. record { aut = p; transitions = r.transitions })

  pub list_at_in : {σ τ : Store} → InStore a σ τ → (x : ℕ) → list_at σ x ≡ list_at τ x
  unfolding list_at
  list_at_in r x = λ d. edges_same r.transitions.words (starts r.aut.states.words d x) (counts r.aut.states.words d x - 1) d

  keep_list_longer : (x : ℕ) (es : List Edge) → x < a.states → Respects (InStore a) (keep_list x es)
  unfolding keep_list
  keep_list_longer x es l σ τ r =
      by_count (λ u v. Follows (InStore a) (keep_list x es (store σ.aut u)) (keep_list x es (store τ.aut v))) (λ s t n w.
      follows_room no_transition (room_t (table s n) (length es)) (room_t (table t n) (length es)) (room_t_more n (length es) w) (λ b. goes (record {
        aut = record {
          nodes = r.aut.nodes;
          states = word_longer x 6 (length es + 1) l (omega arith) (omega arith) (word_longer x 5 n l (omega arith) (omega arith) r.aut.states);
          members = r.aut.members;
        };
        transitions = append_longer n es (room_t_fits s n (length es) b) w;
      }))) σ.transitions τ.transitions r.transitions

  module _ (N : ℕ) (L : Limits) where
    union_all_longer : (ess : List (List Edge)) (es : List Edge) → Respects (InAut a) (union_all N L ess es)
    unfolding union_all
    union_all_longer [] es = returns es
    union_all_longer (us ∷ ess) es = bind (st_union_related (ops_respect N L) es us) (union_all_longer ess)

    intersect_all_longer : (ess : List (List Edge)) (es : List Edge) → Respects (InAut a) (intersect_all N L ess es)
    unfolding intersect_all
    intersect_all_longer [] es = returns es
    intersect_all_longer (us ∷ ess) es = bind (st_intersect_related (ops_respect N L) es us) (intersect_all_longer ess)

    intersect_first_longer : (ess : List (List Edge)) → Respects (InAut a) (intersect_first N L ess)
    intersect_first_longer [] = returns []
    intersect_first_longer (es ∷ ess) = intersect_all_longer ess es

    sequence_list_longer : (y ε : ℕ) (ts us : List Edge) → Respects (InAut a) (sequence_list N L y ε ts us)
    unfolding sequence_list
    sequence_list_longer y ε ts us = bind (st_postcompose_related (ops_respect N L) ts y) (λ late. bind (st_precompose_related (ops_respect N L) ε us) (λ early. st_union_related (ops_respect N L) late early))

    star_list_longer : (x ε* : ℕ) (ts : List Edge) → Respects (InAut a) (star_list N L x ε* ts)
    unfolding star_list
    star_list_longer x ε* ts = bind (st_postcompose_related (ops_respect N L) ts x) (λ late. st_precompose_related (ops_respect N L) ε* late)

    until_list_longer : (x y : ℕ) (ts us : List Edge) → Respects (InAut a) (until_list N L x y ts us)
    unfolding until_list
    until_list_longer x y ts us = bind (on_states_lem (mk_until_longer L x y)) (λ u. bind (st_intersect_expr_related (ops_respect N L) ts u) (λ met. st_union_related (ops_respect N L) us met))

    dup_list_longer : Respects (InAut a) (dup_list N L)
    unfolding dup_list
    dup_list_longer = bind (on_states_lem (mk_spp_longer (Rel.one_at N))) (st_singleton_related (ops_respect N L) (Rel.one_at N))

    top_list_longer : Respects (InAut a) (top_list N L)
    unfolding top_list
    top_list_longer = bind (on_states_lem mk_top_longer) (st_singleton_related (ops_respect N L) (Rel.top_at N))

    module _ (c : Closed a) {again : ℕ → Step Store (List Edge)} (h : (x : ℕ) → x < a.states → Respects (InStore a) (again x)) {x : ℕ} (l : x < a.states) {σ τ : Store} (r : InStore a σ τ) where
      -- the lists of two operands, then an operation on them
      join_longer : {k : ℕ} {f : List Edge → List Edge → Step Aut (List Edge)} → ((ts us : List Edge) → Respects (InAut a) (f ts us)) → First k → Second k → eqb (kind_of σ.aut.states.words x) k ≡ true
          → Follows (InStore a) ((again (op1 σ.aut.states.words x) >>= λ ts. again (op2 σ.aut.states.words x) >>= λ us. on_aut (f ts us)) σ)
          ((again (op1 τ.aut.states.words x) >>= λ ts. again (op2 τ.aut.states.words x) >>= λ us. on_aut (f ts us)) τ)
      join_longer {f = f} g p q e =
          let w = r.aut.states.words in
          along (λ d. again (firsts w d x) >>= λ ts. again (seconds w d x) >>= λ us. on_aut (f ts us))
          (bind (h _ (first_below c r.aut l p e)) (λ ts. bind (h _ (second_below c r.aut l q e)) (λ us. on_aut_lem (g ts us)))) σ τ r

      delta_by_kind_longer : Follows (InStore a) (delta_by_kind N L again x σ) (delta_by_kind N L again x τ)
      unfolding delta_by_kind
      delta_by_kind_longer =
          let w = r.aut.states.words in
          let o = ops_respect {a = a} N L in
          follows_if (λ d. eqb (kinds w d x) SPP) (goes r)
          (follows_case (λ d. eqb (kinds w d x) UNION)
          (λ e. along (λ d. each_of again (list_same r.aut x d) >>= λ ess. on_aut (union_all N L ess [])) (bind (each_below h _ (list_below c r.aut l Op.union e)) (λ ess. on_aut_lem (union_all_longer ess []))) σ τ r)
          (λ _. follows_case (λ d. eqb (kinds w d x) INTERSECT)
          (λ e. along (λ d. each_of again (list_same r.aut x d) >>= λ ess. on_aut (intersect_first N L ess)) (bind (each_below h _ (list_below c r.aut l Op.intersect e)) (λ ess. on_aut_lem (intersect_first_longer ess))) σ τ r)
          (λ _. follows_case (λ d. eqb (kinds w d x) XOR) (join_longer (st_xor_related o) Op.xor Op.xor₂)
          (λ _. follows_case (λ d. eqb (kinds w d x) DIFFERENCE) (join_longer (st_difference_related o) Op.difference Op.difference₂)
          (λ _. follows_case (λ d. eqb (kinds w d x) COMPLEMENT)
          (λ e. along (λ d. again (firsts w d x) >>= λ ts. on_aut (st_complement (ops N L) ts)) (bind (h _ (first_below c r.aut l Op.complement e)) (λ ts. on_aut_lem (st_complement_related o ts))) σ τ r)
          (λ _. follows_case (λ d. eqb (kinds w d x) SEQUENCE)
          (λ e. along (λ d. on_aut (epsilon N (firsts w d x)) >>= λ ε. again (firsts w d x) >>= λ ts. again (seconds w d x) >>= λ us. on_aut (sequence_list N L (seconds w d x) ε ts us))
          (bind (on_aut_lem (epsilon_longer N c _ (first_below c r.aut l Op.sequence e))) (λ ε. bind (h _ (first_below c r.aut l Op.sequence e)) (λ ts. bind (h _ (second_below c r.aut l Op.sequence₂ e)) (λ us. on_aut_lem (sequence_list_longer _ ε ts us))))) σ τ r)
          (λ _. follows_case (λ d. eqb (kinds w d x) STAR)
          (λ e. along (λ d. on_aut (epsilon N (firsts w d x)) >>= λ ε. on_aut (on_nodes (Rel.star N ε)) >>= λ ε*. again (firsts w d x) >>= λ ts. on_aut (star_list N L x ε* ts))
          (bind (on_aut_lem (epsilon_longer N c _ (first_below c r.aut l Op.star e))) (λ ε. bind (on_aut_lem (on_nodes_lem (star_longer N N ε))) (λ ε*. bind (h _ (first_below c r.aut l Op.star e)) (λ ts. on_aut_lem (star_list_longer x ε* ts))))) σ τ r)
          (λ _. follows_if (λ d. eqb (kinds w d x) DUP) (on_aut_lem dup_list_longer σ τ r)
          (follows_if (λ d. eqb (kinds w d x) NEXT) (reading (λ b. on_aut_lem (st_singleton_related o (Rel.top_at N) b)) (λ d. firsts w d x) σ τ r)
          (follows_case (λ d. eqb (kinds w d x) UNTIL)
          (λ e. along (λ d. again (firsts w d x) >>= λ ts. again (seconds w d x) >>= λ us. on_aut (until_list N L (firsts w d x) (seconds w d x) ts us))
          (bind (h _ (first_below c r.aut l Op.until e)) (λ ts. bind (h _ (second_below c r.aut l Op.until₂ e)) (λ us. on_aut_lem (until_list_longer _ _ ts us)))) σ τ r)
          (λ _. on_aut_lem top_list_longer σ τ r)))))))))))

    module _ (c : Closed a) where
      delta_with_longer : {again : ℕ → Step Store (List Edge)} → ((x : ℕ) → x < a.states → Respects (InStore a) (again x)) → (x : ℕ) → x < a.states → Respects (InStore a) (delta_with N L again x)
      unfolding delta_with
      delta_with_longer h x l σ τ r =
          follows_if (λ d. ltb 0 (counts r.aut.states.words d x)) (follows_value r (list_at_in r x)) (bind (λ σ τ r. delta_by_kind_longer c h l r) (λ es. keep_list_longer x es l) σ τ r)

      delta_by_longer : (depth x : ℕ) → x < a.states → Respects (InStore a) (delta_by N L depth x)
      unfolding delta_by
      delta_by_longer zero x l = delta_with_longer (λ y m. returns []) x l
      delta_by_longer (suc depth) x l = delta_with_longer (delta_by_longer depth) x l

      pub delta_longer : (x : ℕ) → x < a.states → Respects (InStore a) (delta N L x)
      unfolding delta
      delta_longer x l σ τ r = reading (λ depth. delta_by_longer depth x l) (λ d. nests r.aut.states.words d x) σ τ r

-- ---- from tables in order

pub delta_follows : {N : ℕ} {L : Limits} {σ τ : Store} {x : ℕ} → WfAut N L σ.aut → x < states σ.aut → LongerStore σ τ → Follows LongerStore (delta N L x σ) (delta N L x τ)
delta_follows {N} {L} {σ} {τ} {x} g l r =
    follows_map (λ s t p. store_longer p) (delta_longer {a = here σ.aut} N L (closed_here g) x l σ τ (record { aut = in_here g.fits r.aut; transitions = r.transitions }))

-- the stored list of a state
pub list_at_same : {σ τ : Store} → LongerStore σ τ → (x : ℕ) → list_at σ x ≡ list_at τ x
unfolding list_at
list_at_same r x = λ d. edges_same r.transitions.words (starts r.aut.states.words d x) (counts r.aut.states.words d x - 1) d

pub delta_stated : (N : ℕ) (L : Limits) → DeltaLonger N L
delta_stated N L σ τ x g l r = delta_follows g l r
