-- `no` comes with a string of the state, and after `yes` the state has none.
use mathlib.Core.Path.{◌≡◌, refl, subst}
use mathlib.Core.Logic.{◌⊎◌, inl, inr}
use mathlib.Core.List.Memᴰ
use mathlib.Core.List.{List, [], ◌∷◌, Memᴰ}
use lib.Dec.{T}
use Prim.Native.Nat.{ℕ}
use Rattle.common.specs.Packets.{Packet, Set, Relation, inhabited, image, relates}
use Rattle.netkat.specs.Strings.{Str, str}
use Rattle.netkat.specs.Lists.{State, Transition}
use Rattle.netkat.specs.Hops.{IsEpsilon}
use Rattle.netkat.proofs.Laws.Lists.{through_of, through_to}
use Rattle.netkat.specs.Search.{Automaton, Pair, Log, found, walk, fresh_of, skip, expand, walked, first, start}
use Rattle.netkat.specs.Promise.{Meaning, Kept, DeltaOf, Lawful}
use Rattle.common.proofs.PacketLaws.{inhabited_of, image_of_lem, image_to, relates_of, relates_to}
use Rattle.common.proofs.Follow.{given_of}
use Rattle.netkat.proofs.Laws.Seen.{expand_keeps, expand_adds, expand_cases, fresh_held, fresh_or_seen}
use Rattle.netkat.proofs.Laws.Walks.{walk_rest, walk_new, walk_cases, pair_for}
use Rattle.netkat.proofs.Laws.Runs.{Went, skipped, ended, walked_on, KeptByTurns}

module _ {n : ℕ} {Store : Type 0} (𝓜 : Meaning n Store) where
  open 𝓜 use {Good, Known, Holds}

  -- the packet p at the state t is seen, or pending
  abbrev pub Covered : List (Pair n) → Log n → State → Packet n → Type 0
  Covered pending log t p = T (log.seen t p) ⊎ ((q : Pair n) × Memᴰ q pending × (q.state ≡ t) × T (q.packets p))

  module _ (σ₀ : Store) (s₀ : State) where
    -- a string from p on in s shows a string of s₀, where the search began
    abbrev pub Shows : Store → State → Packet n → Type 0
    Shows σ s p = (hs : List (Packet n)) (z : Packet n) → Holds σ s (str p hs z) → (w : Str n) × Holds σ₀ s₀ w

    -- What holds between two turns.
    pub record Sound (σ : Store) (pending : List (Pair n)) (log : Log n) : Type 0 where
      pub good : Good σ
      pub seen_known : (s : State) (p : Packet n) → T (log.seen s p) → Known σ s
      pub pending_known : (q : Pair n) → Memᴰ q pending → Known σ q.state
      -- what is pending is reached
      pub shows : (q : Pair n) → Memᴰ q pending → (p : Packet n) → T (q.packets p) → Shows σ q.state p
      -- a packet seen at a state ends no string there, and each string from it goes on from a packet that is seen or pending
      pub no_end : (s : State) (p : Packet n) → T (log.seen s p) → (z : Packet n) → ¬ Holds σ s (str p [] z)
      pub goes_on : (s : State) (p : Packet n) → T (log.seen s p) → (h : Packet n) (hs : List (Packet n)) (z : Packet n) → Holds σ s (str p (h ∷ hs) z) →
          (t : State) × Covered pending log t h × Holds σ t (str h hs z)
      -- so is every packet at the first state, which has its strings still
      pub first_covered : (p : Packet n) → Covered pending log s₀ p
      pub first_known : Known σ s₀
      pub first_same : (w : Str n) → Holds σ₀ s₀ w → Holds σ s₀ w

    covered_known : {σ : Store} {pending : List (Pair n)} {log : Log n} → Sound σ pending log → (t : State) (p : Packet n) → Covered pending log t p → Known σ t
    covered_known i t p (inl h) = i.seen_known t p h
    covered_known i t p (inr (q, m, e, h)) = rw e at (i.pending_known q m)

    -- ---- the start
    pub sound_start : Good σ₀ → Known σ₀ s₀ → Sound σ₀ (first s₀) start
    sound_start g k = record {
      good = g;
      seen_known = λ s p h. absurd h;
      pending_known = λ q m. rw (Memᴰ.eq_of_singleton m) k;
      shows = λ q m p h hs z w. (str p hs z, rw (Memᴰ.eq_of_singleton m) at w);
      no_end = λ s p h. absurd h;
      goes_on = λ s p h. absurd h;
      first_covered = λ p. inr (_, Memᴰ.head refl, refl, tt);
      first_known = k;
      first_same = λ w h. h;
    }

    -- ---- asking keeps it
    sound_kept : {σ σ' : Store} {pending : List (Pair n)} {log : Log n} → Kept 𝓜 σ σ' → Sound σ pending log → Sound σ' pending log
    sound_kept k i = record {
      good = k.good;
      seen_known = λ s p h. k.known s (i.seen_known s p h);
      pending_known = λ q m. k.known q.state (i.pending_known q m);
      shows = λ q m p h hs z w. i.shows q m p h hs z ((k.same q.state (i.pending_known q m) (str p hs z)).1 w);
      no_end = λ s p h z w. i.no_end s p h z ((k.same s (i.seen_known s p h) (str p [] z)).1 w);
      goes_on = λ s p h a hs z w.
          let (t, c, v) = i.goes_on s p h a hs z ((k.same s (i.seen_known s p h) (str p (a ∷ hs) z)).1 w) in
          (t, c, (k.same t (covered_known i t a c) (str a hs z)).0 v);
      first_covered = i.first_covered;
      first_known = k.known s₀ i.first_known;
      first_same = λ w h. (k.same s₀ i.first_known w).0 (i.first_same w h);
    }

    -- ---- a pair whose packets have all been seen
    sound_skip : {σ : Store} {pair : Pair n} {rest : List (Pair n)} {log : Log n} → ¬ T (inhabited (fresh_of pair log)) →
        Sound σ (pair ∷ rest) log → Sound σ rest (skip log)
    sound_skip {σ} {pair} {rest} {log} f i = record {
      good = i.good;
      seen_known = i.seen_known;
      pending_known = λ q m. i.pending_known q (Memᴰ.tail m);
      shows = λ q m. i.shows q (Memᴰ.tail m);
      no_end = i.no_end;
      goes_on = λ s p h a hs z w. let (t, c, v) = i.goes_on s p h a hs z w in (t, still t a c, v);
      first_covered = λ p. still s₀ p (i.first_covered p);
      first_known = i.first_known;
      first_same = i.first_same;
    }
      where
        seen_already : (t : State) (p : Packet n) → pair.state ≡ t → T (fresh_of pair log p) ⊎ T (log.seen pair.state p) → T (log.seen t p)
        seen_already t p e (inl h) = absurd (f (inhabited_of (fresh_of pair log) p h))
        seen_already t p e (inr h) = subst (λ r. T (log.seen r p)) e h

        at_pair : (t : State) (p : Packet n) (q : Pair n) → q.state ≡ t → T (q.packets p) → (q ≡ pair) ⊎ Memᴰ q rest → Covered rest log t p
        at_pair t p q e h (inl c) = inl (seen_already t p (rw c at e) (fresh_or_seen pair log p (rw c at h)))
        at_pair t p q e h (inr m) = inr (q, m, e, h)

        still : (t : State) (p : Packet n) → Covered (pair ∷ rest) log t p → Covered rest log t p
        still t p (inl h) = inl h
        still t p (inr (q, m, e, h)) = at_pair t p q e h (Memᴰ.cases_cons m)

    -- ---- a pair with fresh packets, none of which ends a string: its list is walked
    module _ (σ : Store) (pair : Pair n) (rest : List (Pair n)) (log : Log n) (e : Relation n) (list : List (Transition State n)) where
      abbrev s : State
      s = pair.state

      abbrev fresh : Set n
      fresh = fresh_of pair log

      abbrev new_log : Log n
      new_log = walked list (expand s fresh log)

      -- what was covered before the turn is covered after it
      still : (t : State) (p : Packet n) → Covered (pair ∷ rest) log t p → Covered (walk fresh list rest) new_log t p
      still t p (inl h) = inl (expand_keeps s fresh log t p h)
      still t p (inr (q, m, c, h)) = at_pair (Memᴰ.cases_cons m)
        where
          seen_now : s ≡ t → T (fresh p) ⊎ T (log.seen s p) → T (new_log.seen t p)
          seen_now d (inl k) = subst (λ r. T (new_log.seen r p)) d (expand_adds s fresh log p k)
          seen_now d (inr k) = subst (λ r. T (new_log.seen r p)) d (expand_keeps s fresh log s p k)

          at_pair : (q ≡ pair) ⊎ Memᴰ q rest → Covered (walk fresh list rest) new_log t p
          at_pair (inl d) = inl (seen_now (rw d at c) (fresh_or_seen pair log p (rw d at h)))
          at_pair (inr k) = inr (q, walk_rest fresh list k, c, h)

      sound_walk : Sound σ (pair ∷ rest) log → IsEpsilon e (Holds σ s) → ¬ T (relates e fresh) → DeltaOf 𝓜 σ s list → Sound σ (walk fresh list rest) new_log
      sound_walk i eps r dlt = record {
        good = i.good;
        seen_known = λ t p h. by_seen_known t p (expand_cases s fresh log t p h);
        pending_known = λ q m. by_known q (walk_cases fresh list rest m);
        shows = λ q m. by_shows q (walk_cases fresh list rest m);
        no_end = λ t p h. by_no_end t p (expand_cases s fresh log t p h);
        goes_on = λ t p h. by_goes_on t p (expand_cases s fresh log t p h);
        first_covered = λ p. still s₀ p (i.first_covered p);
        first_known = i.first_known;
        first_same = i.first_same;
      }
        where
          here : Memᴰ pair (pair ∷ rest)
          here = Memᴰ.head refl

          by_seen_known : (t : State) (p : Packet n) → ((s ≡ t) × T (fresh p)) ⊎ T (log.seen t p) → Known σ t
          by_seen_known t p (inl (c, h)) = rw c at (i.pending_known pair here)
          by_seen_known t p (inr h) = i.seen_known t p h

          by_known : (q : Pair n) → ((t : Transition State n) × Memᴰ t list × (q ≡ pair_for fresh t)) ⊎ Memᴰ q rest → Known σ q.state
          by_known q (inl (t, m, c)) = rw c (dlt.known t m)
          by_known q (inr m) = i.pending_known q (Memᴰ.tail m)

          -- a string from where a transition leads is the tail of a string from a fresh packet
          led : (t : Transition State n) → Memᴰ t list → (h : Packet n) → T (image fresh t.label h) → Shows σ t.target h
          led t m h j hs z w =
              let (p, f, l) = image_to fresh t.label h j in
              i.shows pair here p (fresh_held pair log p f) (h ∷ hs) z ((dlt.is.allows p h hs z).0 (through_of (λ t. t.label) (λ t. Holds σ t.target) (str p (h ∷ hs) z) m (l, w)))

          by_shows : (q : Pair n) → ((t : Transition State n) × Memᴰ t list × (q ≡ pair_for fresh t)) ⊎ Memᴰ q rest → (p : Packet n) → T (q.packets p) → Shows σ q.state p
          by_shows q (inl (t, m, c)) p h = rw c (led t m p (rw c at h))
          by_shows q (inr m) p h = i.shows q (Memᴰ.tail m) p h

          by_no_end : (t : State) (p : Packet n) → ((s ≡ t) × T (fresh p)) ⊎ T (log.seen t p) → (z : Packet n) → ¬ Holds σ t (str p [] z)
          by_no_end t p (inl (c, h)) z w = r (relates_of e fresh p z h ((eps.ends p z).0 (rw (← c) at w)))
          by_no_end t p (inr h) z w = i.no_end t p h z w

          by_goes_on : (t : State) (p : Packet n) → ((s ≡ t) × T (fresh p)) ⊎ T (log.seen t p) → (h : Packet n) (hs : List (Packet n)) (z : Packet n) →
              Holds σ t (str p (h ∷ hs) z) → (u : State) × Covered (walk fresh list rest) new_log u h × Holds σ u (str h hs z)
          by_goes_on t p (inl (c, f)) h hs z w =
              let (u, m, y) = through_to (λ t. t.label) (λ t. Holds σ t.target) list (str p (h ∷ hs) z) ((dlt.is.allows p h hs z).1 (rw (← c) at w)) in
              let j : T (image fresh u.label h) = image_of_lem fresh u.label p h f y.0 in
              (u.target, inr (pair_for fresh u, walk_new fresh list rest m h j, refl, j), y.1)
          by_goes_on t p (inr k) h hs z w =
              let (u, c, v) = i.goes_on t p k h hs z w in
              (u, still u h c, v)

    -- ---- the end in `yes`
    pub sound_yes : {σ : Store} {log : Log n} → Sound σ [] log → (w : Str n) → ¬ Holds σ₀ s₀ w
    sound_yes {σ} {log} i w h = dead w.hops s₀ w.start (seen s₀ w.start (i.first_covered w.start)) w.end (i.first_same w h)
      where
        seen : (t : State) (p : Packet n) → Covered [] log t p → T (log.seen t p)
        seen t p (inl k) = k
        seen t p (inr (q, m, c, k)) = absurd (Memᴰ.not-nil m)

        dead : (hs : List (Packet n)) (t : State) (p : Packet n) → T (log.seen t p) → (z : Packet n) → ¬ Holds σ t (str p hs z)
        dead [] t p k z v = i.no_end t p k z v
        dead (a ∷ hs) t p k z v =
            let (u, c, x) = i.goes_on t p k a hs z v in
            dead hs u a (seen u a c) z x

-- ---- the turns, and the end in `no`

module _ {n : ℕ} (𝓐 : Automaton n) (𝓜 : Meaning n 𝓐.Store) (law : Lawful 𝓐 𝓜) (σ₀ : 𝓐.Store) (s₀ : State) where
  open 𝓜 use {Good, Known, Holds}

  -- epsilon, once asked, stays true
  epsilon_kept : {σ σ' : 𝓐.Store} {s : State} {e : Relation n} → Kept 𝓜 σ σ' → Known σ s → IsEpsilon e (Holds σ s) → IsEpsilon e (Holds σ' s)
  epsilon_kept {s} k m h = record {
    ends = λ a z. (λ w. (h.ends a z).0 ((k.same s m (str a [] z)).1 w), λ t. (k.same s m (str a [] z)).0 ((h.ends a z).1 t));
  }

  pub sound_turns : KeptByTurns 𝓐 (λ left σ pending log. Sound 𝓜 σ₀ s₀ σ pending log)
  sound_turns left σ pair rest log i σ' pending log' (skipped f) = sound_skip 𝓜 σ₀ s₀ (λ t. rw f at t) i
  sound_turns left σ pair rest log i σ' pending log' (walked_on {e} {list} f h r d) =
      let here : Known σ pair.state = i.pending_known pair (Memᴰ.head refl) in
      let (k₁, eps) = given_of (law.epsilon_true _ _ i.good here) h in
      let there = k₁.known pair.state here in
      let (k₂, dlt) = given_of (law.delta_true _ _ k₁.good there) d in
      sound_walk 𝓜 σ₀ s₀ σ' pair rest log e list (sound_kept 𝓜 σ₀ s₀ k₂ (sound_kept 𝓜 σ₀ s₀ k₁ i)) (epsilon_kept k₂ there eps) (λ t. rw r at t) dlt

  pub sound_no : {σ σ' : 𝓐.Store} {pair : Pair n} {rest : List (Pair n)} {log log' : Log n} → Sound 𝓜 σ₀ s₀ σ (pair ∷ rest) log →
      Went 𝓐 pair rest log σ σ' (found log') → (w : Str n) × Holds σ₀ s₀ w
  sound_no {pair} {log} i (ended {e} f h r) =
      let here = i.pending_known pair (Memᴰ.head refl) in
      let (k, eps) = given_of (law.epsilon_true _ _ i.good here) h in
      let (p, z, m, t) = relates_to e (fresh_of pair log) (rw r tt) in
      i.shows pair (Memᴰ.head refl) p (fresh_held pair log p m) [] z ((k.same pair.state here (str p [] z)).1 ((eps.ends p z).1 t))
