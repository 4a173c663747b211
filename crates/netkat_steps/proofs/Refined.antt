-- A search over handles that is not refused reports the verdict and the count of the plain search. Each step of the machine is followed
-- (`step`, `call`, `branch`) beside the plain search's, with the handles standing for the sets.
use Rattle.std.specs.Prelude.{if◌then◌else◌}
use mathlib.Core.Path.{◌≡◌, refl, sym, ◌∙◌, ap, subst}
use mathlib.Core.Bool.{Bool, true, false, not}
use mathlib.Core.List.{List, [], ◌∷◌}
use lib.Dec.{eqb, ltb}
use lib.ListN.{length}
use Prim.Native.Nat.{ℕ, zero, suc}
use Rattle.common.specs.Packets.{Set, Relation, inhabited, image, relates}
use Rattle.common.specs.Outcome.{refused, given, return, after, Gives, refusal, gives}
use Rattle.netkat.specs.Search
use Rattle.netkat.specs.Lists.{State, Transition}
use Rattle.netkat.specs.Search.{Automaton, Pair, Log, yes, no, spent, fresh_of, skip, expand, walked, seen_at}
use Rattle.netkat_steps.specs.Handles
use Rattle.netkat_steps.specs.Handles.{Machine, Link, Entry, goes, found, Reading, Alike, none, also, Grows, IsLink, Makes, Implements, Reports, Refines}
use Rattle.common.proofs.Follow.{call, branch}
use Rattle.netkat.proofs.Laws.Runs.{not_true, not_false}

-- ---- what the plain turn comes to, by what it meets

module _ {n : ℕ} (𝓐 : Automaton n) (pair : Pair n) (rest : List (Pair n)) (log : Log n) (τ : 𝓐.Store) where
  turn_skips : inhabited (fresh_of pair log) ≡ false → Search.turn 𝓐 pair rest log τ ≡ given τ (Search.goes rest (skip log))
  unfolding Search.turn
  turn_skips f = rw f

  turn_finds : {τ₁ : 𝓐.Store} {e : Relation n} → inhabited (fresh_of pair log) ≡ true → 𝓐.epsilon pair.state τ ≡ given τ₁ e → relates e (fresh_of pair log) ≡ true →
      Search.turn 𝓐 pair rest log τ ≡ given τ₁ (Search.found (expand pair.state (fresh_of pair log) log))
  unfolding Search.turn
  turn_finds f h r = rw (f, h, r)

  turn_walks : {τ₁ τ₂ : 𝓐.Store} {e : Relation n} {list : List (Transition State n)} → inhabited (fresh_of pair log) ≡ true → 𝓐.epsilon pair.state τ ≡ given τ₁ e →
      relates e (fresh_of pair log) ≡ false → 𝓐.delta pair.state τ₁ ≡ given τ₂ list →
      Search.turn 𝓐 pair rest log τ ≡ given τ₂ (Search.goes (Search.walk (fresh_of pair log) list rest) (walked list (expand pair.state (fresh_of pair log) log)))
  unfolding Search.turn
  turn_walks f h r d = rw (f, h, r, d)

-- ---- lists alike, and stores that grow

alike_map : {A B : Type 0} {R S : A → B → Type 0} → ((a : A) (b : B) → R a b → S a b) → {l : List A} {m : List B} → Alike R l m → Alike S l m
alike_map f none = none
alike_map f (also r rs) = also (f _ _ r) (alike_map f rs)

module _ {n : ℕ} {𝓒 : Machine} {𝓐 : Automaton n} (𝓡 : Reading 𝓒 𝓐) where
  grows_refl : {σ : 𝓒.Store} → Grows 𝓡 σ σ
  grows_refl = record { known = λ s k. k; is = λ h x i. i; is_label = λ l r i. i }

  grows_trans : {σ σ₁ σ₂ : 𝓒.Store} → Grows 𝓡 σ σ₁ → Grows 𝓡 σ₁ σ₂ → Grows 𝓡 σ σ₂
  grows_trans f g = record {
    known = λ s k. g.known s (f.known s k);
    is = λ h x i. g.is h x (f.is h x i);
    is_label = λ l r i. g.is_label l r (f.is_label l r i);
  }

  -- an entry stands for a pair
  data IsEntry (σ : 𝓒.Store) : Entry 𝓒.Handle → Pair n → Type 0 where
    is_entry : {s : State} {h : 𝓒.Handle} {x : Set n} → 𝓡.Known σ s → 𝓡.Is σ h x → IsEntry σ (record { state = s; packets = h }) (record { state = s; packets = x })

  entry_grows : {σ σ' : 𝓒.Store} → Grows 𝓡 σ σ' → (a : Entry 𝓒.Handle) (b : Pair n) → IsEntry σ a b → IsEntry σ' a b
  entry_grows g a b (is_entry {s} {h} {x} k i) = is_entry (g.known s k) (g.is h x i)

  link_grows : {σ σ' : 𝓒.Store} → Grows 𝓡 σ σ' → (a : Link 𝓒.Label) (b : Transition State n) → IsLink 𝓡 σ a b → IsLink 𝓡 σ' a b
  link_grows g a b l = record { target = l.target; known = g.known a.target l.known; label = g.is_label a.label b.label l.label }

module _ {n : ℕ} (𝓒 : Machine) (𝓐 : Automaton n) (𝓡 : Reading 𝓒 𝓐) (works : Implements 𝓒 𝓐 𝓡) where
  abbrev Entries : 𝓒.Store → List (Entry 𝓒.Handle) → List (Pair n) → Type 0
  Entries σ = Alike (IsEntry 𝓡 σ)

  -- ---- the walk

  put_sim : {σ : 𝓒.Store} {τ : 𝓐.Store} {s s' : State} {h : 𝓒.Handle} {x : Set n} {entries : List (Entry 𝓒.Handle)} {pending : List (Pair n)} {zero? : Bool} →
      𝓡.Agrees σ τ → s ≡ s' → 𝓡.Known σ s → 𝓡.Is σ h x → Entries σ entries pending → zero? ≡ not (inhabited x) →
      Gives (λ σ' entries'. Makes 𝓡 σ σ' τ (Entries σ' entries' (Search.put s' x pending))) ((if zero? then return entries else Handles.put 𝓒 s h entries) σ)
  put_sim {σ} {s} {s'} {h} {x} {entries} {pending} a c k i es z =
      branch _ _ _ _
      (λ t. gives {a = entries} (record { grows = grows_refl 𝓡; agrees = a; right = rw (not_true (inhabited x) (sym z ∙ t)) es }))
      (λ f. branch (ltb (length entries) 𝓒.capacity) _ _ σ
      (λ t. gives {a = record { state = s; packets = h } ∷ entries} (record {
        grows = grows_refl 𝓡;
        agrees = a;
        right = rw (not_false (inhabited x) (sym z ∙ f), ← c) (also (is_entry k i) es);
      }))
      (λ f. refusal))

  walk_sim : (links : List (Link 𝓒.Label)) (list : List (Transition State n)) (σ₀ σ : 𝓒.Store) (τ : 𝓐.Store) (h : 𝓒.Handle) (x : Set n)
      (entries : List (Entry 𝓒.Handle)) (pending : List (Pair n)) → Grows 𝓡 σ₀ σ → 𝓡.Agrees σ τ → 𝓡.Is σ h x → Alike (IsLink 𝓡 σ) links list → Entries σ entries pending →
      Gives (λ σ' entries'. Makes 𝓡 σ₀ σ' τ (Entries σ' entries' (Search.walk x list pending))) (Handles.walk 𝓒 h links entries σ)
  unfolding Search.walk Handles.walk
  walk_sim [] [] σ₀ σ τ h x entries pending g a i none es = gives (record { grows = g; agrees = a; right = es })
  walk_sim (link ∷ links) (t ∷ list) σ₀ σ τ h x entries pending g a i (also l ls) es =
      call (works.push_works a i l.label) (λ σ₁ next P.
      call (works.is_zero_works P.agrees P.right) (λ σ₂ zero? Z.
      let g₂ = grows_trans 𝓡 P.grows Z.grows in
      call (put_sim Z.agrees l.target (g₂.known link.target l.known) (Z.grows.is next (image x t.label) P.right) (alike_map (entry_grows 𝓡 g₂) es) Z.right) (λ σ₃ entries₃ E.
      let g₃ = grows_trans 𝓡 g₂ E.grows in
      walk_sim links list σ₀ σ₃ τ h x entries₃ (Search.put t.target (image x t.label) pending) (grows_trans 𝓡 g g₃) E.agrees (g₃.is h x i) (alike_map (link_grows 𝓡 g₃) ls) E.right)))
  walk_sim [] (t ∷ list) σ₀ σ τ h x entries pending g a i x13 es = elim x13 [ ]
  walk_sim (link ∷ links) [] σ₀ σ τ h x entries pending g a i x10 es = elim x10 [ ]

  -- ---- a turn

  -- the machine's pending list and seen sets stand for those of the plain search
  record Match (σ : 𝓒.Store) (τ : 𝓐.Store) (entries : List (Entry 𝓒.Handle)) (seen : State → 𝓒.Handle) (pending : List (Pair n)) (plain : State → Set n) : Type 0 where
    agrees : 𝓡.Agrees σ τ
    entries_are : Entries σ entries pending
    seen_are : (t : State) → 𝓡.Is σ (seen t) (plain t)

  match_grows : {σ σ' : 𝓒.Store} {τ : 𝓐.Store} {entries : List (Entry 𝓒.Handle)} {seen : State → 𝓒.Handle} {pending : List (Pair n)} {plain : State → Set n} →
      Grows 𝓡 σ σ' → 𝓡.Agrees σ' τ → Match σ τ entries seen pending plain → Match σ' τ entries seen pending plain
  match_grows {seen} {plain} g a m = record {
    agrees = a;
    entries_are = alike_map (entry_grows 𝓡 g) m.entries_are;
    seen_are = λ t. g.is (seen t) (plain t) (m.seen_are t);
  }

  -- what the plain turn does beside the machine's
  abbrev Beside : Pair n → List (Pair n) → Log n → 𝓐.Store → 𝓒.Store → Handles.Turn 𝓒 → Type 0
  Beside pair rest log τ σ' (goes entries seen) = (τ' : 𝓐.Store) × (pending : List (Pair n)) × (log' : Log n) ×
      (Search.turn 𝓐 pair rest log τ ≡ given τ' (Search.goes pending log')) × (log'.count ≡ suc log.count) × Match σ' τ' entries seen pending log'.seen
  Beside pair rest log τ σ' found = (τ' : 𝓐.Store) × (log' : Log n) ×
      (Search.turn 𝓐 pair rest log τ ≡ given τ' (Search.found log')) × (log'.count ≡ suc log.count) × 𝓡.Agrees σ' τ'

  seen_at_lem : (s : State) {σ : 𝓒.Store} {h : 𝓒.Handle} {x : Set n} (seen : State → 𝓒.Handle) (plain : State → Set n) → 𝓡.Is σ h x → ((t : State) → 𝓡.Is σ (seen t) (plain t)) →
      (t : State) → 𝓡.Is σ (if eqb s t then h else seen t) (seen_at s x plain t)
  seen_at_lem s {σ} {h} {x} seen plain i is t = go (eqb s t)
    where
      go : (b : Bool) → 𝓡.Is σ (if b then h else seen t) (if b then x else plain t)
      go true = i
      go false = is t

  module _ (s : State) (x : Set n) (rest : List (Entry 𝓒.Handle)) (pending : List (Pair n)) (seen : State → 𝓒.Handle) (log : Log n) (τ : 𝓐.Store) where
    abbrev pair_here : Pair n
    pair_here = record { state = s; packets = x }

    -- the fresh packets, not none, are expanded
    expand_sim : {σ : 𝓒.Store} {fresh : 𝓒.Handle} → 𝓡.Known σ s → 𝓡.Is σ fresh (fresh_of pair_here log) → inhabited (fresh_of pair_here log) ≡ true → Match σ τ rest seen pending log.seen →
        Gives (Beside pair_here pending log τ) (Handles.expand 𝓒 s fresh rest seen σ)
    unfolding Handles.expand
    expand_sim {fresh} k i some m =
        call (works.union_works m.agrees (m.seen_are s) i) (λ σ₁ both U.
        call (works.epsilon_works U.agrees (U.grows.known s k)) (λ σ₂ e (τ₂, r, plain-e, E).
        let g₂ = grows_trans 𝓡 U.grows E.grows in
        call (works.has_image_works E.agrees (g₂.is fresh _ i) E.right) (λ σ₃ has H.
        let g₃ = grows_trans 𝓡 g₂ H.grows in
        branch _ _ _ _
        (λ t. gives {a = found} (τ₂, expand s (fresh_of pair_here log) log, turn_finds 𝓐 pair_here pending log τ some plain-e (sym H.right ∙ t), refl, H.agrees))
        (λ f.
        call (works.delta_works H.agrees (g₃.known s k)) (λ σ₄ links (τ₄, list, plain-d, L).
        let since-union = grows_trans 𝓡 E.grows (grows_trans 𝓡 H.grows L.grows) in
        let g₄ = grows_trans 𝓡 U.grows since-union in
        call (walk_sim links list σ₁ σ₄ τ₄ fresh (fresh_of pair_here log) rest pending since-union L.agrees (g₄.is fresh _ i) L.right (alike_map (entry_grows 𝓡 g₄) m.entries_are)) (λ σ₅ entries W.
        gives {a = goes entries (λ t. if eqb s t then both else seen t)} (
          τ₄,
          Search.walk (fresh_of pair_here log) list pending,
          walked list (expand s (fresh_of pair_here log) log),
          turn_walks 𝓐 pair_here pending log τ some plain-e (sym H.right ∙ f) plain-d,
          refl,
          record {
            agrees = W.agrees;
            entries_are = W.right;
            seen_are = seen_at_lem s seen log.seen (W.grows.is both _ U.right) (λ t. W.grows.is (seen t) _ (U.grows.is (seen t) _ (m.seen_are t)));
          },
        )))))))

    turn_sim : {σ : 𝓒.Store} {h : 𝓒.Handle} → 𝓡.Known σ s → 𝓡.Is σ h x → Match σ τ rest seen pending log.seen →
        Gives (Beside pair_here pending log τ) (Handles.turn 𝓒 (record { state = s; packets = h }) rest seen σ)
    unfolding Handles.turn
    turn_sim k i m =
        call (works.difference_works m.agrees i (m.seen_are s)) (λ σ₁ fresh D.
        call (works.is_zero_works D.agrees D.right) (λ σ₂ zero? Z.
        let g = grows_trans 𝓡 D.grows Z.grows in
        let m₂ : Match σ₂ τ rest seen pending log.seen = match_grows g Z.agrees m in
        branch _ _ _ _
        (λ t. gives {a = goes rest seen} (τ, pending, skip log, turn_skips 𝓐 pair_here pending log τ (not_true _ (sym Z.right ∙ t)), refl, m₂))
        (λ f. expand_sim (g.known s k) (Z.grows.is fresh (fresh_of pair_here log) D.right) (not_false _ (sym Z.right ∙ f)) m₂)))

  turn_beside : (σ : 𝓒.Store) (τ : 𝓐.Store) (entry : Entry 𝓒.Handle) (pair : Pair n) (rest : List (Entry 𝓒.Handle)) (pending : List (Pair n)) (seen : State → 𝓒.Handle) (log : Log n) →
      IsEntry 𝓡 σ entry pair → Match σ τ rest seen pending log.seen → Gives (Beside pair pending log τ) (Handles.turn 𝓒 entry rest seen σ)
  turn_beside σ τ entry pair rest pending seen log (is_entry {s} {h} {x} k i) m = turn_sim s x rest pending seen log τ k i m

  -- ---- a run

  run_sim : (left : ℕ) (σ : 𝓒.Store) (entries : List (Entry 𝓒.Handle)) (pending : List (Pair n)) (seen : State → 𝓒.Handle) (count : ℕ) (log : Log n) (τ : 𝓐.Store) →
      Match σ τ entries seen pending log.seen → Entries σ entries pending → log.count ≡ count → Gives (Reports 𝓡 (Search.run 𝓐 left pending log τ)) (Handles.run 𝓒 left entries seen count σ)
  unfolding Search.run Handles.run
  run_sim zero σ [] [] seen count log τ m none c = gives {a = (yes, count)} (record { store = τ; log = log; came_to = refl; counted = c; agrees = m.agrees })
  run_sim zero σ (entry ∷ rest) (pair ∷ pending) seen count log τ m (also e es) c = gives {a = (spent, count)} (record { store = τ; log = log; came_to = refl; counted = c; agrees = m.agrees })
  run_sim (suc left) σ [] [] seen count log τ m none c = gives {a = (yes, count)} (record { store = τ; log = log; came_to = refl; counted = c; agrees = m.agrees })
  run_sim (suc left) σ (entry ∷ rest) (pair ∷ pending) seen count log τ m (also e es) c =
      call (turn_beside σ τ entry pair rest pending seen log e (record { agrees = m.agrees; entries_are = es; seen_are = m.seen_are }))
      (λ σ₁ t b. after_turn σ₁ t b (λ entries₁ pending₁ seen₁ log₁ τ₁. run_sim left σ₁ entries₁ pending₁ seen₁ (suc count) log₁ τ₁))
    where
      after_turn : (σ₁ : 𝓒.Store) (t : Handles.Turn 𝓒) → Beside pair pending log τ σ₁ t →
          ((entries₁ : List (Entry 𝓒.Handle)) (pending₁ : List (Pair n)) (seen₁ : State → 𝓒.Handle) (log₁ : Log n) (τ₁ : 𝓐.Store) → Match σ₁ τ₁ entries₁ seen₁ pending₁ log₁.seen →
          Entries σ₁ entries₁ pending₁ → log₁.count ≡ suc count → Gives (Reports 𝓡 (Search.run 𝓐 left pending₁ log₁ τ₁)) (Handles.run 𝓒 left entries₁ seen₁ (suc count) σ₁)) →
          Gives (Reports 𝓡 (Search.run 𝓐 (suc left) (pair ∷ pending) log τ)) (Handles.onward 𝓒 (λ entries seen. Handles.run 𝓒 left entries seen (suc count)) (suc count) t σ₁)
      after_turn σ₁ (goes entries₁ seen₁) (τ₁, pending₁, log₁, q, c₁, m₁) rec =
          let same : Search.run 𝓐 (suc left) (pair ∷ pending) log τ ≡ Search.run 𝓐 left pending₁ log₁ τ₁ = rw q in
          subst (λ o. Gives (Reports 𝓡 o) (Handles.run 𝓒 left entries₁ seen₁ (suc count) σ₁)) (sym same) (rec entries₁ pending₁ seen₁ log₁ τ₁ m₁ m₁.entries_are (c₁ ∙ ap suc c))
      after_turn σ₁ found (τ₁, log₁, q, c₁, a₁) rec = gives {a = (no, suc count)} (record { store = τ₁; log = log₁; came_to = rw q; counted = c₁ ∙ ap suc c; agrees = a₁ })
  run_sim zero σ [] (pair ∷ pending) seen count log τ m x9 c = elim x9 [ ]
  run_sim zero σ (entry ∷ rest) [] seen count log τ m x8 c = elim x8 [ ]
  run_sim (suc left) σ [] (pair ∷ pending) seen count log τ m x6 c = elim x6 [ ]
  run_sim (suc left) σ (entry ∷ rest) [] seen count log τ m x7 c = elim x7 [ ]

  -- ---- the promise

  pub refines : Refines 𝓡
  unfolding Search.search Handles.search
  refines budget s σ τ a k = by_room (ltb 0 𝓒.capacity)
    where
      entries : List (Entry 𝓒.Handle)
      entries = record { state = s; packets = 𝓒.one } ∷ []

      first_are : Entries σ entries (Search.first s)
      first_are = also (is_entry k (works.one_works a)) none

      by_room : (b : Bool) → Gives (Reports 𝓡 (Search.search 𝓐 budget s τ)) (after ((if b then return entries else λ σ. refused 24) σ) (λ pending. Handles.run 𝓒 budget pending (λ t. 𝓒.zero) 0))
      by_room true = run_sim budget σ entries (Search.first s) (λ t. 𝓒.zero) 0 Search.start τ (record { agrees = a; entries_are = first_are; seen_are = λ t. works.zero_works a }) first_are refl
      by_room false = refusal
