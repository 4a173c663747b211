-- The live sets that a work list computes are the starts of the states' strings; the pruned list; and `yes` exactly if the live set is empty.
-- For a work list that is a list of states to look at again (`todo` of live_packets): `Working` holds between two targets taken from it and
-- `Pulling` between two steps into the target taken, with a lemma for each thing that can happen.
use Rattle.std.specs.Prelude.{if◌then◌else◌}
use mathlib.Core.Path.{◌≡◌, refl, sym, ap, subst}
use mathlib.Core.Logic.{◌↔◌, ◌⊎◌, inl, inr}
use mathlib.Core.Bool.{Bool, true, false}
use mathlib.Core.List.Memᴰ
use mathlib.Core.List.{List, [], ◌∷◌, Memᴰ}
use lib.Dec.{T, eqb, eqb→eq, eqb_refl}
use lib.ListN.{length}
use Prim.Native.Nat.{ℕ, ◌*◌, ◌^◌, ◌≤◌, ◌<◌}
use native.Mathlib.Omega.{arith}
use Rattle.common.specs.Packets.{Packet, packets, any, Set, inhabited}
use Rattle.common.proofs.PacketLaws.{packets_length, packet_listed, both, each, inhabited_of, inhabited_to}
use Rattle.common.specs.Relations.{starts, nonempty}
use Rattle.common.proofs.RelationLaws.{by_test, starts_of, starts_to, preimage_of, preimage_to, nonempty_of}
use Rattle.netkat.specs.Strings.{Str, str}
use Rattle.netkat.specs.Rules.{Language}
use Rattle.netkat.specs.Hops.{Hop}
use Rattle.netkat.specs.Lists.{State, Transition, covers, Disjoint, Ascending, Allows, IsDelta}
use Rattle.netkat.specs.Live.{Starting, IsLive, Reached, Step, IsStep, pulled, Added, Derived, begun, added, Settled, Saturated, cut, pruned, Pruned}
use Rattle.netkat.proofs.Laws.Tally.{tally, tally_le, tally_mono, tally_more, total, total_le, total_more}
use Rattle.netkat.proofs.Laws.Lists.{through_of, through_to, covers_of, covers_to}

module _ {n : ℕ} {Holds : State → Language n} (𝓡 : Reached Holds) where
  open 𝓡 use {states, epsilon, delta}

  -- ---- only starts of strings are live

  pub record Sound (live : State → Set n) : Type 0 where
    pub starting : (s : State) → Memᴰ s states → (p : Packet n) → T (live s p) → Starting (Holds s) p

  pub record HasEnds (live : State → Set n) : Type 0 where
    pub ending : (s : State) → Memᴰ s states → (p : Packet n) → T (starts (epsilon s) p) → T (live s p)

  pub sound_begun : Sound (λ s. starts (epsilon s))
  sound_begun = record {
    starting = λ s m p t.
        let (z, u) = starts_to (epsilon s) p t in
        record { hops = []; end = z; held = ((𝓡.epsilon_true s m).ends p z).1 u };
  }

  -- what a step leads back to from starts of strings starts strings
  pulled_starts : {live : State → Set n} → Sound live → (e : Step 𝓡) → IsStep 𝓡 e → (p : Packet n) → T (pulled e.by live p) → Starting (Holds e.source) p
  pulled_starts {live} i e k p t =
      let (h, l, u) = preimage_to e.by.label (live e.by.target) p t in
      let w = i.starting e.by.target (𝓡.closed e.source k.reached e.by k.listed) h u in
      record {
        hops = h ∷ w.hops;
        end = w.end;
        held = ((𝓡.delta_true e.source k.reached).allows p h w.hops w.end).0
            (through_of (λ t. t.label) (λ t. Holds t.target) (str p (h ∷ w.hops) w.end) k.listed (l, w.held));
      }

  pub sound_added : {live live' : State → Set n} → Sound live → (e : Step 𝓡) → IsStep 𝓡 e → Added 𝓡 e.source (pulled e.by live) live live' → Sound live'
  sound_added {live} {live'} i e k f = record { starting = λ s m p t. go s m p ((f.at s p).0 t) }
    where
      go : (s : State) → Memᴰ s states → (p : Packet n) → T (live s p) ⊎ ((e.source ≡ s) × T (pulled e.by live p)) → Starting (Holds s) p
      go s m p (inl u) = i.starting s m p u
      go s m p (inr (q, u)) = subst (λ s. Starting (Holds s) p) q (pulled_starts i e k p u)

  ends_added : {live live' : State → Set n} → HasEnds live → {s : State} {x : Set n} → Added 𝓡 s x live live' → HasEnds live'
  ends_added i f = record { ending = λ u m p t. (f.at u p).1 (inl (i.ending u m p t)) }

  -- ---- and all of them, once no step can add

  all_live : {live : State → Set n} → HasEnds live → Saturated 𝓡 live → (hs : List (Packet n)) (s : State) → Memᴰ s states → (p z : Packet n) → Holds s (str p hs z) → T (live s p)
  all_live i f [] s m p z w = i.ending s m p (starts_of (epsilon s) p z (((𝓡.epsilon_true s m).ends p z).0 w))
  all_live {live} i f (h ∷ hs) s m p z w =
      let (t, k, l, v) = in_parts (through_to (λ t. t.label) (λ t. Holds t.target) (delta s) (str p (h ∷ hs) z) (((𝓡.delta_true s m).allows p h hs z).1 w)) in
      (f.settled (record { source = s; by = t }) (record { reached = m; listed = k })).nothing_more p
      (preimage_of t.label (live t.target) p h l (all_live i f hs t.target (𝓡.closed s m t k) h z v))
    where
      in_parts : (t : Transition State n) × Memᴰ t (delta s) × (T (t.label p h) × Holds t.target (str h hs z)) →
          (t : Transition State n) × Memᴰ t (delta s) × T (t.label p h) × Holds t.target (str h hs z)
      in_parts (t, k, (l, v)) = (t, k, l, v)

  exactly_live : {live : State → Set n} → Sound live → HasEnds live → Saturated 𝓡 live → (s : State) → Memᴰ s states → IsLive (live s) (Holds s)
  exactly_live i j f s m = record { live = λ a. (i.starting s m a, λ w. all_live j f w.hops s m a w.end w.held) }

  worked_sound : {live : State → Set n} → Derived 𝓡 live → Sound live
  worked_sound begun = sound_begun
  worked_sound (added w e k f) = sound_added (worked_sound w) e k f

  worked_ends : {live : State → Set n} → Derived 𝓡 live → HasEnds live
  worked_ends begun = record { ending = λ s m p t. t }
  worked_ends (added w e k f) = ends_added (worked_ends w) f

  -- What a work list computes is exactly the live sets, once nothing more can be added.
  pub worked_live : {live : State → Set n} → Derived 𝓡 live → Saturated 𝓡 live → (s : State) → Memᴰ s states → IsLive (live s) (Holds s)
  worked_live w f = exactly_live (worked_sound w) (worked_ends w) f

  -- ---- the list of states to look at again

  -- Between two targets taken: a step that could add something has its target on the list.
  pub record Working (live : State → Set n) (todo : List State) : Type 0 where
    pub sound : Sound live
    pub ends : HasEnds live
    pub waits : (e : Step 𝓡) → IsStep 𝓡 e → Settled 𝓡 live e ⊎ Memᴰ e.by.target todo

  -- Between two steps into the target taken: `left` are those still to be looked at.
  pub record Pulling (live : State → Set n) (todo : List State) (left : List (Step 𝓡)) : Type 0 where
    pub sound : Sound live
    pub ends : HasEnds live
    pub waits : (e : Step 𝓡) → IsStep 𝓡 e → Settled 𝓡 live e ⊎ (Memᴰ e.by.target todo ⊎ Memᴰ e left)

  -- It begins with every state on the list.
  pub working_begin : (todo : List State) → ((s : State) → Memᴰ s states → Memᴰ s todo) → Working (λ s. starts (epsilon s)) todo
  working_begin todo f = record {
    sound = sound_begun;
    ends = record { ending = λ s m p t. t };
    waits = λ e k. inr (f e.by.target (𝓡.closed e.source k.reached e.by k.listed));
  }

  -- A target is taken: the steps into it are to be looked at.
  pub pulling_begin : {live : State → Set n} {todo : List State} (target : State) (left : List (Step 𝓡)) → Working live (target ∷ todo) →
      ((e : Step 𝓡) → IsStep 𝓡 e → e.by.target ≡ target → Memᴰ e left) → Pulling live todo left
  pulling_begin {live} {todo} target left i f = record {
    sound = i.sound;
    ends = i.ends;
    waits = λ e k. go e k (i.waits e k);
  }
    where
      at : (e : Step 𝓡) → IsStep 𝓡 e → (e.by.target ≡ target) ⊎ Memᴰ e.by.target todo → Memᴰ e.by.target todo ⊎ Memᴰ e left
      at e k (inl q) = inr (f e k q)
      at e k (inr m) = inl m

      go : (e : Step 𝓡) → IsStep 𝓡 e → Settled 𝓡 live e ⊎ Memᴰ e.by.target (target ∷ todo) → Settled 𝓡 live e ⊎ (Memᴰ e.by.target todo ⊎ Memᴰ e left)
      go e k (inl d) = inl d
      go e k (inr m) = inr (at e k (Memᴰ.cases_cons m))

  -- A step that adds nothing.
  pub pulling_same : {live : State → Set n} {todo : List State} {e : Step 𝓡} {left : List (Step 𝓡)} → Pulling live todo (e ∷ left) → Settled 𝓡 live e → Pulling live todo left
  pulling_same {live} {todo} {e} {left} i d = record { sound = i.sound; ends = i.ends; waits = λ g k. go g (i.waits g k) }
    where
      at : (g : Step 𝓡) → (g ≡ e) ⊎ Memᴰ g left → Settled 𝓡 live g ⊎ (Memᴰ g.by.target todo ⊎ Memᴰ g left)
      at g (inl q) = inl (subst (λ e. Settled 𝓡 live e) (sym q) d)
      at g (inr m) = inr (inr m)

      go : (g : Step 𝓡) → Settled 𝓡 live g ⊎ (Memᴰ g.by.target todo ⊎ Memᴰ g (e ∷ left)) → Settled 𝓡 live g ⊎ (Memᴰ g.by.target todo ⊎ Memᴰ g left)
      go g (inl c) = inl c
      go g (inr (inl m)) = inr (inl m)
      go g (inr (inr m)) = at g (Memᴰ.cases_cons m)

  -- A step by which its source's set grows: the source is put on the list.
  pub pulling_more : {live live' : State → Set n} {todo : List State} {e : Step 𝓡} {left : List (Step 𝓡)} → Pulling live todo (e ∷ left) → IsStep 𝓡 e →
      Added 𝓡 e.source (pulled e.by live) live live' → Pulling live' (e.source ∷ todo) left
  pulling_more {live} {live'} {todo} {e} {left} i j f = record {
    sound = sound_added i.sound e j f;
    ends = ends_added i.ends f;
    waits = λ g k. by_target g k (by_test (eqb e.source g.by.target));
  }
    where
      -- at a target other than the source nothing has changed, and no set has shrunk
      still : (g : Step 𝓡) → ¬ T (eqb e.source g.by.target) → (p : Packet n) → T (pulled g.by live' p) → T (pulled g.by live p)
      still g u p t =
          let (h, l, v) = preimage_to g.by.label (live' g.by.target) p t in
          preimage_of g.by.label (live g.by.target) p h l (old h ((f.at g.by.target h).0 v))
        where
          old : (h : Packet n) → T (live g.by.target h) ⊎ ((e.source ≡ g.by.target) × T (pulled e.by live h)) → T (live g.by.target h)
          old h (inl v) = v
          old h (inr (q, v)) = absurd (u (subst (λ r. T (eqb e.source r)) q (eqb_refl e.source)))

      at : (g : Step 𝓡) → ¬ T (eqb e.source g.by.target) → (g ≡ e) ⊎ Memᴰ g left → Settled 𝓡 live' g ⊎ (Memᴰ g.by.target (e.source ∷ todo) ⊎ Memᴰ g left)
      at g u (inl q) = inl (record { nothing_more = λ p t. (f.at g.source p).1 (inr (ap (λ g. g.source) (sym q), subst (λ g. T (pulled g.by live p)) q (still g u p t))) })
      at g u (inr m) = inr (inr m)

      go : (g : Step 𝓡) → ¬ T (eqb e.source g.by.target) → Settled 𝓡 live g ⊎ (Memᴰ g.by.target todo ⊎ Memᴰ g (e ∷ left)) →
          Settled 𝓡 live' g ⊎ (Memᴰ g.by.target (e.source ∷ todo) ⊎ Memᴰ g left)
      go g u (inl c) = inl (record { nothing_more = λ p t. (f.at g.source p).1 (inl (c.nothing_more p (still g u p t))) })
      go g u (inr (inl m)) = inr (inl (Memᴰ.tail m))
      go g u (inr (inr m)) = at g u (Memᴰ.cases_cons m)

      by_target : (g : Step 𝓡) → IsStep 𝓡 g → T (eqb e.source g.by.target) ⊎ (¬ T (eqb e.source g.by.target)) →
          Settled 𝓡 live' g ⊎ (Memᴰ g.by.target (e.source ∷ todo) ⊎ Memᴰ g left)
      by_target g k (inl t) = inr (inl (Memᴰ.head (sym (eqb→eq e.source g.by.target t))))
      by_target g k (inr u) = go g u (i.waits g k)

  -- No step into the target is left.
  pub pulling_end : {live : State → Set n} {todo : List State} → Pulling live todo [] → Working live todo
  pulling_end {live} {todo} i = record { sound = i.sound; ends = i.ends; waits = λ e k. go e (i.waits e k) }
    where
      go : (e : Step 𝓡) → Settled 𝓡 live e ⊎ (Memᴰ e.by.target todo ⊎ Memᴰ e []) → Settled 𝓡 live e ⊎ Memᴰ e.by.target todo
      go e (inl d) = inl d
      go e (inr (inl m)) = inr m
      go e (inr (inr m)) = absurd (Memᴰ.not-nil m)

  -- No state is left: the sets are the live ones.
  pub working_end : {live : State → Set n} → Working live [] → (s : State) → Memᴰ s states → IsLive (live s) (Holds s)
  working_end {live} i = exactly_live i.sound i.ends (record { settled = λ e k. go e (i.waits e k) })
    where
      go : (e : Step 𝓡) → Settled 𝓡 live e ⊎ Memᴰ e.by.target [] → Settled 𝓡 live e
      go e (inl d) = d
      go e (inr m) = absurd (Memᴰ.not-nil m)

-- ---- the sets grow, and no further than all packets: how often a state can be put on the list

module _ {n : ℕ} {Holds : State → Language n} (𝓡 : Reached Holds) where
  open 𝓡 use {states}

  -- how many packets are live, over the states reached
  unfoldable pub amount : (State → Set n) → ℕ
  amount live = total (λ s. tally (live s) (packets n)) states

  pub amount_most : (live : State → Set n) → amount live ≤ length states * 2 ^ n
  unfolding amount
  amount_most live = total_le (λ s. tally (live s) (packets n)) (2 ^ n) (λ s. omega (arith, tally_le (live s) (packets n), packets_length n)) states

  pub amount_more : {s : State} {x : Set n} {live live' : State → Set n} → Added 𝓡 s x live live' → T (any (eqb s) states) → (p : Packet n) → T (x p) → ¬ T (live s p) →
      amount live < amount live'
  unfolding amount
  amount_more {s} {x} {live} {live'} f m p t u =
      total_more (λ s. tally (live s) (packets n)) (λ s. tally (live' s) (packets n)) (λ r. tally_mono (live r) (live' r) (kept r) (packets n)) s
      (tally_more (live s) (live' s) (kept s) {a = p} u ((f.at s p).1 (inr (refl, t))) (packet_listed p)) states m
    where
      kept : (r : State) (q : Packet n) → T (live r q) → T (live' r q)
      kept r q v = (f.at r q).1 (inl v)

-- ---- the pruned list

module _ {n : ℕ} (live : State → Set n) where
  -- what is in it
  pub pruned_of_lem : {t : Transition State n} {list : List (Transition State n)} → Memᴰ t list → T (nonempty (cut live t).label) → Memᴰ (cut live t) (pruned live list)
  unfolding pruned
  pruned_of_lem {t} (Memᴰ.head {x} {xs} e) u = go (nonempty (cut live x).label) refl
    where
      go : (b : Bool) → nonempty (cut live x).label ≡ b → Memᴰ (cut live t) (if b then (cut live x ∷ pruned live xs) else pruned live xs)
      go true q = Memᴰ.head (ap (cut live) e)
      go false q = absurd (rw q at (subst (λ t. T (nonempty (cut live t).label)) e u))
  pruned_of_lem {t} (Memᴰ.tail {x} {xs} m) u = go (nonempty (cut live x).label) (pruned_of_lem m u)
    where
      go : (b : Bool) → Memᴰ (cut live t) (pruned live xs) → Memᴰ (cut live t) (if b then (cut live x ∷ pruned live xs) else pruned live xs)
      go true k = Memᴰ.tail k
      go false k = k

  pub pruned_to : {u : Transition State n} (list : List (Transition State n)) → Memᴰ u (pruned live list) →
      (t : Transition State n) × Memᴰ t list × (u ≡ cut live t) × T (nonempty u.label)
  unfolding pruned
  pruned_to [] m = absurd (Memᴰ.not-nil m)
  pruned_to {u} (x ∷ xs) m = go (nonempty (cut live x).label) refl m (λ k. pruned_to xs k)
    where
      Found : List (Transition State n) → Type 0
      Found list = (t : Transition State n) × Memᴰ t list × (u ≡ cut live t) × T (nonempty u.label)

      later : Found xs → Found (x ∷ xs)
      later (t, k, q, v) = (t, Memᴰ.tail k, q, v)

      at : nonempty (cut live x).label ≡ true → (u ≡ cut live x) ⊎ Memᴰ u (pruned live xs) → (Memᴰ u (pruned live xs) → Found xs) → Found (x ∷ xs)
      at q (inl e) rec = (x, Memᴰ.head refl, e, rw (e, q) tt)
      at q (inr k) rec = later (rec k)

      go : (b : Bool) → nonempty (cut live x).label ≡ b → Memᴰ u (if b then (cut live x ∷ pruned live xs) else pruned live xs) → (Memᴰ u (pruned live xs) → Found xs) → Found (x ∷ xs)
      go true q k rec = at q (Memᴰ.cases_cons k) rec
      go false q k rec = later (rec k)

  cut_label : (t : Transition State n) (a h : Packet n) → T ((cut live t).label a h) → T (t.label a h) × T (live t.target h)
  cut_label t a h = each (t.label a h) (live t.target h)

  pruned_covers : (list : List (Transition State n)) (a h : Packet n) → T (covers (pruned live list) a h) → T (covers list a h)
  pruned_covers list a h c =
      let (u, m, l) = covers_to (pruned live list) a h c in
      let (t, k, q, v) = pruned_to list m in
      covers_of k a h (cut_label t a h (subst (λ u. T (u.label a h)) q l)).0

  pub pruned_disjoint : {list : List (Transition State n)} → Disjoint list → Disjoint (pruned live list)
  unfolding pruned
  pruned_disjoint Disjoint.none = Disjoint.none
  pruned_disjoint (Disjoint.also {t} {ts} p d) = go (nonempty (cut live t).label) (pruned_disjoint d)
    where
      go : (b : Bool) → Disjoint (pruned live ts) → Disjoint (if b then (cut live t ∷ pruned live ts) else pruned live ts)
      go true e = Disjoint.also (λ a h l c. p a h (cut_label t a h l).0 (pruned_covers ts a h c)) e
      go false e = e

  pub pruned_ascending : {list : List (Transition State n)} → Ascending list → Ascending (pruned live list)
  unfolding pruned
  pruned_ascending Ascending.none = Ascending.none
  pruned_ascending (Ascending.also {t} {ts} p d) = go (nonempty (cut live t).label) (pruned_ascending d)
    where
      above : (u : Transition State n) → Memᴰ u (pruned live ts) → t.target < u.target
      above u m =
          let (v, k, q, w) = pruned_to ts m in
          subst (λ u. t.target < u.target) (sym q) (p v k)

      go : (b : Bool) → Ascending (pruned live ts) → Ascending (if b then (cut live t ∷ pruned live ts) else pruned live ts)
      go true e = Ascending.also above e
      go false e = e

  module _ {Holds : State → Language n} {A : Language n} {list : List (Transition State n)} (d : IsDelta Holds list A) (up : Ascending list)
      (is_live : (t : Transition State n) → Memᴰ t list → IsLive (live t.target) (Holds t.target))
    where
      pub pruned_law : Pruned Holds A (pruned live list)
      pruned_law = record {
        delta = record { disjoint = pruned_disjoint d.disjoint; allows = λ a h hs z. (there a h hs z, back a h hs z) };
        ascending = pruned_ascending up;
        viable = viable;
        no_empty = λ u m. (pruned_to list m).3;
      }
        where
          there : (a h : Packet n) (hs : List (Packet n)) (z : Packet n) → Allows Holds (pruned live list) (str a (h ∷ hs) z) → A (str a (h ∷ hs) z)
          there a h hs z y =
              let (u, m, x) = through_to (λ t. t.label) (λ t. Holds t.target) (pruned live list) (str a (h ∷ hs) z) y in
              let (t, k, q, v) = pruned_to list m in
              let x' = subst (λ u. Hop u.label (Holds u.target) (str a (h ∷ hs) z)) q x in
              (d.allows a h hs z).0 (through_of (λ t. t.label) (λ t. Holds t.target) (str a (h ∷ hs) z) k ((cut_label t a h x'.0).0, x'.1))

          back : (a h : Packet n) (hs : List (Packet n)) (z : Packet n) → A (str a (h ∷ hs) z) → Allows Holds (pruned live list) (str a (h ∷ hs) z)
          back a h hs z y =
              let (t, k, x) = through_to (λ t. t.label) (λ t. Holds t.target) list (str a (h ∷ hs) z) ((d.allows a h hs z).1 y) in
              let l = both (t.label a h) (live t.target h) x.0 (((is_live t k).live h).1 (record { hops = hs; end = z; held = x.1 })) in
              through_of (λ t. t.label) (λ t. Holds t.target) (str a (h ∷ hs) z) (pruned_of_lem k (nonempty_of (cut live t).label a h l)) (l, x.1)

          viable : (u : Transition State n) → Memᴰ u (pruned live list) → (a h : Packet n) → T (u.label a h) → (hs : List (Packet n)) × (z : Packet n) × A (str a (h ∷ hs) z)
          viable u m a h l =
              let (t, k, q, v) = pruned_to list m in
              let (l₁, l₂) = cut_label t a h (subst (λ u. T (u.label a h)) q l) in
              let w = ((is_live t k).live h).0 l₂ in
              (w.hops, w.end, (d.allows a h w.hops w.end).0 (through_of (λ t. t.label) (λ t. Holds t.target) (str a (h ∷ w.hops) w.end) k (l₁, w.held)))

-- ---- `yes` exactly if the live set is empty

module _ {n : ℕ} where
  pub live_empty : {x : Set n} {A : Language n} → IsLive x A → (¬ T (inhabited x)) ↔ ((w : Str n) → ¬ A w)
  live_empty {x} {A} i = (
    λ u w h. u (inhabited_of x w.start ((i.live w.start).1 (record { hops = w.hops; end = w.end; held = h }))),
    λ f t. let (a, v) = inhabited_to x t in let s = (i.live a).0 v in f (str a s.hops s.end) s.held,
  )
