-- The pick from the sets is the picked string: from each packet the least hop from which the rest can still be had, to the one target that its
-- label leads to, since the labels of a delta are disjoint.
use Rattle.std.specs.Prelude.{if◌then◌else◌}
use mathlib.Core.Path.{◌≡◌, refl, sym, ◌∙◌, ap, subst}
use mathlib.Core.Logic.{◌⊎◌, inl, inr, ⊎_elim}
use mathlib.Core.Bool.{Bool, true, false, not, ◌&&◌}
use mathlib.Core.List.Memᴰ
use mathlib.Core.List.{List, [], ◌∷◌, ◌++◌, Memᴰ}
use mathlib.Core.Option.{Option, none, some, some-injective, none-ne-some}
use lib.ListN.{length}
use lib.Dec.{T, ltb, ltb→lt, nltb→le}
use Prim.Native.Nat.{ℕ, zero, suc, ◌≤◌, ◌<◌}
use native.Mathlib.Omega.{arith}
use Rattle.common.specs.Packets.{Packet, Set, Relation}
use Rattle.common.proofs.PacketLaws.{both, each}
use Rattle.netkat.specs.Strings.{Str, str}
use Rattle.netkat.specs.Rules.{Language}
use Rattle.netkat.specs.Lists.{State, Transition}
use Rattle.netkat.specs.Live.{Reached}
use Rattle.netkat.proofs.Laws.Lists.{through_of, through_to, disjoint_one}
use Rattle.netkat_paths.specs.Order.{value, map, least, Lower, here, there, Before, fewer, lower, Picked}
use Rattle.netkat_paths.specs.Pick.{IsWithin, Hop, Way, hop_to, lower_hop, led, hop, arrive, onward, from, way, pick}
use Rattle.netkat_paths.proofs.OrderLaws.{Found, nothing, found, found_good, found_low, found_some, least_found, least_in, least_low, least_some}
use Rattle.netkat_paths.proofs.WithinLaws.{within_to, within_of}

-- ---- what `map` gives comes from something

pub map_to : {A B : Type 0} (f : A → B) (o : Option A) {b : B} → map f o ≡ some b → (a : A) × (o ≡ some a) × (b ≡ f a)
map_to f none {b} e = absurd (none-ne-some b e)
map_to f (some a) {b} e = (a, refl, sym (some-injective (f a) b e))

-- ---- the hop

module _ {n : ℕ} where
  abbrev pub number : Hop n → ℕ
  number h = value h.packet

  -- the transition leads p to the hop, and the hop's packet is in its target's set
  pub record LedBy (live : State → Set n) (p : Packet n) (t : Transition State n) (h : Hop n) : Type 0 where
    pub target : t.target ≡ h.target
    pub label : T (t.label p h.packet)
    pub inside : T (live t.target h.packet)

  -- some transition of the list does
  pub record Led (list : List (Transition State n)) (live : State → Set n) (p : Packet n) (h : Hop n) : Type 0 where
    pub by : Transition State n
    pub listed : Memᴰ by list
    pub leads : LedBy live p by h

  led_found : (live : State → Set n) (p : Packet n) (t : Transition State n) → Found (LedBy live p t) number (led t live p)
  led_found live p t = go (least_found n (λ h. t.label p h && live t.target h))
    where
      In : Packet n → Type 0
      In h = T (t.label p h && live t.target h)

      into : (h : Hop n) → LedBy live p t h → In h.packet
      into h l = both (t.label p h.packet) (live t.target h.packet) l.label l.inside

      go : {o : Option (Packet n)} → Found In value o → Found (LedBy live p t) number (map (hop_to t.target) o)
      go (nothing f) = nothing (λ h l. f h.packet (into h l))
      go (found {a = q} u f) =
          let (v, w) = each (t.label p q) (live t.target q) u in
          found (record { target = refl; label = v; inside = w }) (λ h l. f h.packet (into h l))

  lower_found : {G H : Hop n → Type 0} {a b : Option (Hop n)} → Found G number a → Found H number b → Found (λ h. G h ⊎ H h) number (lower_hop a b)
  lower_found (nothing f) (nothing g) = nothing (λ h. ⊎_elim (f h) (g h))
  lower_found (nothing f) (found t g) = found (inr t) (λ h. ⊎_elim (λ u. absurd (f h u)) (g h))
  lower_found (found t f) (nothing g) = found (inl t) (λ h. ⊎_elim (f h) (λ u. absurd (g h u)))
  lower_found {G} {H} (found {a = x} t f) (found {a = y} u g) = go (ltb (number y) (number x)) refl
    where
      go : (b : Bool) → ltb (number y) (number x) ≡ b → Found (λ h. G h ⊎ H h) number (if b then some y else some x)
      go true e = found (inr u) (λ h. ⊎_elim (λ v. omega (arith, ltb→lt (number y) (number x) (subst (λ b. T b) (sym e) tt), f h v)) (g h))
      go false e = found (inl t) (λ h. ⊎_elim (f h) (λ v. omega (arith, nltb→le (number y) (number x) (subst (λ b. T (not b)) (sym e) tt), g h v)))

  -- what is good by another name
  found_alike : {G H : Hop n → Type 0} {o : Option (Hop n)} → ((h : Hop n) → G h → H h) → ((h : Hop n) → H h → G h) → Found G number o → Found H number o
  found_alike f' g' (nothing f) = nothing (λ h u. f h (g' h u))
  found_alike f' g' (found {a = x} t f) = found (f' x t) (λ h u. f h (g' h u))

  hop_found : (live : State → Set n) (p : Packet n) (list : List (Transition State n)) (G : Hop n → Type 0) {best : Option (Hop n)} → Found G number best →
      Found (λ h. G h ⊎ Led list live p h) number (hop list live p best)
  unfolding hop
  hop_found live p [] G i = found_alike (λ h. inl) (λ h. ⊎_elim (λ u. u) (λ u. absurd (Memᴰ.not-nil u.listed))) i
  hop_found live p (t ∷ ts) G i = found_alike into back (hop_found live p ts (λ h. G h ⊎ LedBy live p t h) (lower_found i (led_found live p t)))
    where
      into : (h : Hop n) → (G h ⊎ LedBy live p t h) ⊎ Led ts live p h → G h ⊎ Led (t ∷ ts) live p h
      into h (inl (inl u)) = inl u
      into h (inl (inr u)) = inr (record { by = t; listed = Memᴰ.head refl; leads = u })
      into h (inr u) = inr (record { by = u.by; listed = Memᴰ.tail u.listed; leads = u.leads })

      which : (h : Hop n) (u : Led (t ∷ ts) live p h) → (u.by ≡ t) ⊎ Memᴰ u.by ts → (G h ⊎ LedBy live p t h) ⊎ Led ts live p h
      which h u (inl e) = inl (inr (subst (λ t. LedBy live p t h) e u.leads))
      which h u (inr m) = inr (record { by = u.by; listed = m; leads = u.leads })

      back : (h : Hop n) → G h ⊎ Led (t ∷ ts) live p h → (G h ⊎ LedBy live p t h) ⊎ Led ts live p h
      back h (inl u) = inl (inl u)
      back h (inr u) = which h u (Memᴰ.cases_cons u.listed)

  -- `hop` gives the hop with the least packet of those that the list leads to.
  pub hop_least : (list : List (Transition State n)) (live : State → Set n) (p : Packet n) → Found (Led list live p) number (hop list live p none)
  hop_least list live p = found_alike (λ h. ⊎_elim (λ u. absurd u) (λ u. u)) (λ h. inr) (hop_found live p list (λ h. ⊥) (nothing (λ h u. u)))

-- ---- what way and pick are put together from

module _ {n : ℕ} (epsilon : State → Relation n) (delta : State → List (Transition State n)) (sets : ℕ → State → Set n) where
  pub way_end : (s : State) (p : Packet n) {v : Way n} → way epsilon delta sets zero s p ≡ some v → (z : Packet n) × (least n (epsilon s p) ≡ some z) × (v ≡ arrive z)
  unfolding way
  way_end s p e = map_to arrive (least n (epsilon s p)) e

  pub way_next : (k : ℕ) (s : State) (p : Packet n) {v : Way n} → way epsilon delta sets (suc k) s p ≡ some v →
      (h : Hop n) × (w : Way n) × (hop (delta s) (sets k) p none ≡ some h) × (way epsilon delta sets k h.target h.packet ≡ some w) × (v ≡ onward h.packet w)
  unfolding way
  way_next k s p {v} e = go (hop (delta s) (sets k) p none) refl e
    where
      go : (o : Option (Hop n)) → hop (delta s) (sets k) p none ≡ o →
          elim o [ none ↦ none | some h ↦ map (onward h.packet) (way epsilon delta sets k h.target h.packet) ] ≡ some v →
          (h : Hop n) × (w : Way n) × (hop (delta s) (sets k) p none ≡ some h) × (way epsilon delta sets k h.target h.packet ≡ some w) × (v ≡ onward h.packet w)
      go none f e = absurd (none-ne-some v e)
      go (some h) f e = let (w, g, i) = map_to (onward h.packet) (way epsilon delta sets k h.target h.packet) e in (h, w, f, g, i)

  pub pick_start : (k : ℕ) (x : State) {w : Str n} → pick epsilon delta sets k x ≡ some w →
      (p : Packet n) × (v : Way n) × (least n (sets k x) ≡ some p) × (way epsilon delta sets k x p ≡ some v) × (w ≡ from p v)
  unfolding pick
  pick_start k x {w} e = go (least n (sets k x)) refl e
    where
      go : (o : Option (Packet n)) → least n (sets k x) ≡ o → elim o [ none ↦ none | some p ↦ map (from p) (way epsilon delta sets k x p) ] ≡ some w →
          (p : Packet n) × (v : Way n) × (least n (sets k x) ≡ some p) × (way epsilon delta sets k x p ≡ some v) × (w ≡ from p v)
      go none f e = absurd (none-ne-some w e)
      go (some p) f e = let (v, g, i) = map_to (from p) (way epsilon delta sets k x p) e in (p, v, f, g, i)

  pub way_long : (k : ℕ) (s : State) (p : Packet n) {v : Way n} → way epsilon delta sets k s p ≡ some v → length v.hops ≡ k
  way_long zero s p {v} e = let (z, f, g) = way_end s p e in ap (λ v. length v.hops) g
  way_long (suc k) s p {v} e = let (h, w, f, g, i) = way_next k s p e in ap (λ v. length v.hops) i ∙ ap suc (way_long k h.target h.packet g)

  -- the same the other way round
  way_end_of : (s : State) (p z : Packet n) → least n (epsilon s p) ≡ some z → way epsilon delta sets zero s p ≡ some (arrive z)
  unfolding way
  way_end_of s p z e = ap (map arrive) e

  way_next_of : (k : ℕ) (s : State) (p : Packet n) (h : Hop n) (w : Way n) → hop (delta s) (sets k) p none ≡ some h → way epsilon delta sets k h.target h.packet ≡ some w →
      way epsilon delta sets (suc k) s p ≡ some (onward h.packet w)
  unfolding way
  way_next_of k s p h w e f =
      ap (λ o. elim o [ none ↦ none | some h ↦ map (onward h.packet) (way epsilon delta sets k h.target h.packet) ]) e ∙ ap (map (onward h.packet)) f

  pick_of : (k : ℕ) (x : State) (p : Packet n) (v : Way n) → least n (sets k x) ≡ some p → way epsilon delta sets k x p ≡ some v → pick epsilon delta sets k x ≡ some (from p v)
  unfolding pick
  pick_of k x p v e f = ap (λ o. elim o [ none ↦ none | some p ↦ map (from p) (way epsilon delta sets k x p) ]) e ∙ ap (map (from p)) f

-- ---- the first way

-- w is the first of A's ways of k hops from p: no other has the lower packet where they first differ
pub record FirstWay {n : ℕ} (A : Language n) (p : Packet n) (k : ℕ) (w : Way n) : Type 0 where
  pub long : length w.hops ≡ k
  pub held : A (from p w)
  pub first : (hs : List (Packet n)) (z : Packet n) → length hs ≡ k → A (str p hs z) → ¬ Lower (hs ++ z ∷ []) (w.hops ++ w.end ∷ [])

-- A has no string from p with fewer hops than k
abbrev pub NoneFewer : {n : ℕ} → Language n → Packet n → ℕ → Type 0
NoneFewer {n} A p k = (hs : List (Packet n)) (z : Packet n) → length hs < k → ¬ A (str p hs z)

module _ {n : ℕ} where
  lower_some : {ps qs : List (Packet n)} → Lower ps qs → 0 < length ps
  lower_some (here l) = omega arith
  lower_some (there l) = omega arith

  lower_parts : {p q : Packet n} {ps qs : List (Packet n)} → Lower (p ∷ ps) (q ∷ qs) → (value p < value q) ⊎ ((p ≡ q) × Lower ps qs)
  lower_parts (here l) = inl l
  lower_parts (there l) = inr (refl, l)

  -- two lists of packets, where the first's front is no lower
  not_lower : {p q : Packet n} {ps qs : List (Packet n)} → value q ≤ value p → (p ≡ q → ¬ Lower ps qs) → ¬ Lower (p ∷ ps) (q ∷ qs)
  not_lower f g l = ⊎_elim (λ m. omega (arith, f, m)) (λ m. g m.0 m.1) (lower_parts l)

module _ {n : ℕ} {Holds : State → Language n} (𝓡 : Reached Holds) (sets : ℕ → State → Set n) where
  open 𝓡 use {states, epsilon, delta}

  -- the sets up to K are those of the states reached
  abbrev pub AreWithin : ℕ → Type 0
  AreWithin K = (j : ℕ) → j ≤ K → (s : State) → Memᴰ s states → IsWithin j (sets j s) (Holds s)

  -- a string with a hop, by the transition that it takes
  hop_to_lem : (s : State) → Memᴰ s states → (p h : Packet n) (hs : List (Packet n)) (z : Packet n) → Holds s (str p (h ∷ hs) z) →
      (t : Transition State n) × Memᴰ t (delta s) × T (t.label p h) × Holds t.target (str h hs z)
  hop_to_lem s m p h hs z w =
      let (t, k, x) = through_to (λ t. t.label) (λ t. Holds t.target) (delta s) (str p (h ∷ hs) z) (((𝓡.delta_true s m).allows p h hs z).1 w) in
      (t, k, x.0, x.1)

  hop_of : (s : State) → Memᴰ s states → (p h : Packet n) (hs : List (Packet n)) (z : Packet n) (t : Transition State n) → Memᴰ t (delta s) → T (t.label p h) →
      Holds t.target (str h hs z) → Holds s (str p (h ∷ hs) z)
  hop_of s m p h hs z t k l w = ((𝓡.delta_true s m).allows p h hs z).0 (through_of (λ t. t.label) (λ t. Holds t.target) (str p (h ∷ hs) z) k (l, w))

  -- k hops from a packet of the k-th set, where no string has fewer: the first way
  abbrev pub FirstWays : ℕ → Type 0
  FirstWays k = (s : State) → Memᴰ s states → (p : Packet n) → T (sets k s p) → NoneFewer (Holds s) p k →
      (w : Way n) × (way epsilon delta sets k s p ≡ some w) × FirstWay (Holds s) p k w

  first_zero : AreWithin zero → FirstWays zero
  first_zero i s m p t f = let w = within_to (i zero (omega arith) s m) p t in ends w.hops w.end w.short w.held
    where
      ending : (z : Packet n) → Holds s (str p [] z) → T (epsilon s p z)
      ending z = ((𝓡.epsilon_true s m).ends p z).0

      no_lower : (z : Packet n) → least n (epsilon s p) ≡ some z → (hs : List (Packet n)) (y : Packet n) → length hs ≡ 0 → Holds s (str p hs y) → ¬ Lower (hs ++ y ∷ []) (z ∷ [])
      no_lower z e [] y l v = not_lower (least_low (epsilon s p) e y (ending y v)) (λ q u. omega (arith, lower_some u))
      no_lower z e (h ∷ hs) y l v = absurd (omega (arith, l))

      ends : (hs : List (Packet n)) (z : Packet n) → length hs ≤ 0 → Holds s (str p hs z) → (w : Way n) × (way epsilon delta sets zero s p ≡ some w) × FirstWay (Holds s) p zero w
      ends [] z l v =
          let (y, e) = least_some (epsilon s p) z (ending z v) in
          (arrive y, way_end_of epsilon delta sets s p y e, record { long = refl; held = ((𝓡.epsilon_true s m).ends p y).1 (least_in (epsilon s p) e); first = no_lower y e })
      ends (h ∷ hs) z l v = absurd (omega (arith, l))

  module _ (k : ℕ) (i : AreWithin (suc k)) (again : FirstWays k) (s : State) (m : Memᴰ s states) (p : Packet n) (few : NoneFewer (Holds s) p (suc k)) where
    -- the hop of a string with k more is one that the list leads to
    leads : (h : Packet n) (hs : List (Packet n)) (z : Packet n) → length hs ≤ k → (t : Transition State n) → Memᴰ t (delta s) → T (t.label p h) →
        Holds t.target (str h hs z) → Led (delta s) (sets k) p (hop_to t.target h)
    leads h hs z l t c b v = record {
      by = t;
      listed = c;
      leads = record { target = refl; label = b; inside = within_of (i k (omega arith) t.target (𝓡.closed s m t c)) h hs z l v };
    }

    module _ (h : Hop n) (best : Found (Led (delta s) (sets k) p) number (some h)) where
      L : Led (delta s) (sets k) p h
      L = found_good best

      extend : (hs : List (Packet n)) (z : Packet n) → Holds h.target (str h.packet hs z) → Holds s (str p (h.packet ∷ hs) z)
      extend hs z v = hop_of s m p h.packet hs z L.by L.listed L.leads.label (subst (λ u. Holds u (str h.packet hs z)) (sym L.leads.target) v)

      rest : (w : Way n) × (way epsilon delta sets k h.target h.packet ≡ some w) × FirstWay (Holds h.target) h.packet k w
      rest =
          again h.target (subst (λ u. Memᴰ u states) L.leads.target (𝓡.closed s m L.by L.listed)) h.packet
          (subst (λ u. T (sets k u h.packet)) L.leads.target L.leads.inside) (λ hs z l v. few (h.packet ∷ hs) z (omega (arith, l)) (extend hs z v))

      -- labels are disjoint: a string by the same hop goes to the same target
      same_target : (t : Transition State n) → Memᴰ t (delta s) → T (t.label p h.packet) → t.target ≡ h.target
      same_target t c b = ap (λ t. t.target) (disjoint_one (𝓡.delta_true s m).disjoint c L.listed p h.packet b L.leads.label) ∙ L.leads.target

      by_hop : (w : Way n) → FirstWay (Holds h.target) h.packet k w → FirstWay (Holds s) p (suc k) (onward h.packet w)
      by_hop w F = record { long = ap suc F.long; held = extend w.hops w.end F.held; first = first }
        where
          moved : (g : Packet n) (gs : List (Packet n)) (z : Packet n) → g ≡ h.packet → (t : Transition State n) → Memᴰ t (delta s) → T (t.label p g) →
              Holds t.target (str g gs z) → Holds h.target (str h.packet gs z)
          moved g gs z q t c b y =
              subst (λ u. Holds u (str h.packet gs z)) (same_target t c (subst (λ g. T (t.label p g)) q b)) (subst (λ g. Holds t.target (str g gs z)) q y)

          first : (hs : List (Packet n)) (z : Packet n) → length hs ≡ suc k → Holds s (str p hs z) → ¬ Lower (hs ++ z ∷ []) (h.packet ∷ (w.hops ++ w.end ∷ []))
          first [] z l x = absurd (omega (arith, l))
          first (g ∷ gs) z l x =
              let (t, c, b, y) = hop_to_lem s m p g gs z x in
              not_lower (found_low best (hop_to t.target g) (leads g gs z (omega (arith, l)) t c b y)) (λ q. F.first gs z (omega (arith, l)) (moved g gs z q t c b y))

  first_next : (k : ℕ) → AreWithin (suc k) → FirstWays k → FirstWays (suc k)
  first_next k i again s m p t few = let w = within_to (i (suc k) (omega arith) s m) p t in hops w.hops w.end w.short w.held
    where
      by : (h : Hop n) → hop (delta s) (sets k) p none ≡ some h → (w : Way n) × (way epsilon delta sets (suc k) s p ≡ some w) × FirstWay (Holds s) p (suc k) w
      by h e =
          let best = subst (λ o. Found (Led (delta s) (sets k) p) number o) e (hop_least (delta s) (sets k) p) in
          let (w, g, F) = rest k i again s m p few h best in
          (onward h.packet w, way_next_of epsilon delta sets k s p h w e g, by_hop k i again s m p few h best w F)

      hops : (hs : List (Packet n)) (z : Packet n) → length hs ≤ suc k → Holds s (str p hs z) → (w : Way n) × (way epsilon delta sets (suc k) s p ≡ some w) × FirstWay (Holds s) p (suc k) w
      hops [] z l v = absurd (few [] z (omega arith) v)
      hops (h ∷ hs) z l v =
          let (t, c, b, y) = hop_to_lem s m p h hs z v in
          let (g, e) = found_some (hop_least (delta s) (sets k) p) (hop_to t.target h) (leads k i again s m p few h hs z (omega (arith, l)) t c b y) in
          by g e

  pub way_first : (k : ℕ) → AreWithin k → FirstWays k
  way_first zero i = first_zero i
  way_first (suc k) i = first_next k i (way_first k (λ j l. i j (omega (arith, l))))

  -- The pick from the sets is the picked string, where K is the fewest hops.
  pub pick_picked : (K : ℕ) → AreWithin K → (x : State) → Memᴰ x states → (p : Packet n) → T (sets K x p) → ((j : ℕ) → j < K → (q : Packet n) → T (sets j x q) → ⊥) →
      (w : Str n) × (pick epsilon delta sets K x ≡ some w) × (length w.hops ≡ K) × Picked (Holds x) w
  pick_picked K i x m p t none_before = begin (least_some (sets K x) p t)
    where
      few : (q : Packet n) → NoneFewer (Holds x) q K
      few q hs z l v = none_before (length hs) l q (within_of (i (length hs) (omega (arith, l)) x m) q hs z (omega arith) v)

      begin : (a : Packet n) × (least n (sets K x) ≡ some a) → (w : Str n) × (pick epsilon delta sets K x ≡ some w) × (length w.hops ≡ K) × Picked (Holds x) w
      begin (a, e) =
          let (v, g, F) = way_first K i x m a (least_in (sets K x) e) (few a) in
          (from a v, pick_of epsilon delta sets K x a v e g, F.long, record { held = F.held; first = not_before v F })
        where
          not_before : (v : Way n) → FirstWay (Holds x) a K v → (u : Str n) → Holds x u → ¬ Before u (from a v)
          not_before v F u h (fewer l) = few u.start u.hops u.end (omega (arith, l, F.long)) h
          not_before v F u h (lower l d) =
              not_lower (least_low (sets K x) e u.start (within_of (i K (omega arith) x m) u.start u.hops u.end (omega (arith, l, F.long)) h))
              (λ q r. F.first u.hops u.end (l ∙ F.long) (subst (λ b. Holds x (str b u.hops u.end)) q h) r) d
