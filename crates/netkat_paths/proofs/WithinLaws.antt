-- The starts of strings with at most k hops, from those with at most k - 1 at the targets: as 02 (i) says how the sets are to be had.
use mathlib.Core.Path.{◌≡◌, sym, subst}
use mathlib.Core.Logic.{◌↔◌, ◌⊎◌, inl, inr}
use mathlib.Core.List.{List, [], ◌∷◌, Memᴰ}
use lib.ListN.{length}
use lib.Dec.{T}
use Prim.Native.Nat.{ℕ, suc, ◌≤◌}
use native.Mathlib.Omega.{arith}
use Rattle.common.specs.Packets.{Packet, Set, Relation}
use Rattle.common.specs.Relations.{starts, preimage}
use Rattle.common.proofs.RelationLaws.{starts_of, starts_to, preimage_of, preimage_to}
use Rattle.netkat.specs.Strings.{Str, str}
use Rattle.netkat.specs.Rules.{Language}
use Rattle.netkat.specs.Hops.{IsEpsilon}
use Rattle.netkat.specs.Lists.{State, Transition, IsDelta}
use Rattle.netkat.specs.Live.{IsLive}
use Rattle.netkat.proofs.Laws.Lists.{through_of, through_to}
use Rattle.netkat_paths.specs.Pick.{StartingWithin, IsWithin}

module _ {n : ℕ} where
  -- a packet of the set starts such a string, and each start of one is in the set
  pub within_to : {k : ℕ} {x : Set n} {A : Language n} → IsWithin k x A → (a : Packet n) → T (x a) → StartingWithin k A a
  within_to i a = (i.within a).0

  pub within_of : {k : ℕ} {x : Set n} {A : Language n} → IsWithin k x A → (a : Packet n) (hs : List (Packet n)) (z : Packet n) → length hs ≤ k → A (str a hs z) → T (x a)
  within_of i a hs z l h = (i.within a).1 (record { hops = hs; end = z; short = l; held = h })

  pub within_more : {k : ℕ} {x y : Set n} {A : Language n} → IsWithin k x A → IsWithin (suc k) y A → (a : Packet n) → T (x a) → T (y a)
  within_more i j a t = let s = within_to i a t in within_of j a s.hops s.end (omega (arith, s.short)) s.held

  -- where no string has more than k hops, these are the live packets
  pub live_within : {k : ℕ} {x : Set n} {A : Language n} → IsWithin k x A → ((w : Str n) → A w → length w.hops ≤ k) → IsLive x A
  live_within i f = record {
    live = λ a. (
      λ t. let s = within_to i a t in record { hops = s.hops; end = s.end; held = s.held },
      λ s. within_of i a s.hops s.end (f (str a s.hops s.end) s.held) s.held,
    );
  }

  -- ---- no hops: the starts of epsilon

  module _ {e : Relation n} {A : Language n} (ε : IsEpsilon e A) where
    starts_within : (k : ℕ) (a : Packet n) → T (starts e a) → StartingWithin k A a
    starts_within k a t = let (z, u) = starts_to e a t in record { hops = []; end = z; short = omega arith; held = (ε.ends a z).1 u }

    within_starts : (a z : Packet n) → A (str a [] z) → T (starts e a)
    within_starts a z h = starts_of e a z ((ε.ends a z).0 h)

    pub within_zero : {x : Set n} → ((a : Packet n) → x a ≡ starts e a) → IsWithin 0 x A
    within_zero {x} f = record {
      within = λ a. (
        λ t. starts_within 0 a (subst (λ b. T b) (f a) t),
        λ s. subst (λ b. T b) (sym (f a)) (ends a s.hops s.end s.short s.held),
      );
    }
      where
        ends : (a : Packet n) (hs : List (Packet n)) (z : Packet n) → length hs ≤ 0 → A (str a hs z) → T (starts e a)
        ends a [] z l h = within_starts a z h
        ends a (g ∷ gs) z l h = absurd (omega (arith, l))

    -- ---- one more: those, and what a label leads back to

    pub within_next : {Holds : State → Language n} {list : List (Transition State n)} {k : ℕ} {x : Set n} (live : State → Set n) → IsDelta Holds list A →
        ((t : Transition State n) → Memᴰ t list → IsWithin k (live t.target) (Holds t.target)) →
        ((a : Packet n) → T (x a) ↔ (T (starts e a) ⊎ ((t : Transition State n) × Memᴰ t list × T (preimage t.label (live t.target) a)))) → IsWithin (suc k) x A
    within_next {Holds} {list} {k} {x} live d i f = record { within = λ a. (λ t. there a ((f a).0 t), λ s. (f a).1 (back a s.hops s.end s.short s.held)) }
      where
        Led : Packet n → Type 0
        Led a = (t : Transition State n) × Memᴰ t list × T (preimage t.label (live t.target) a)

        there : (a : Packet n) → T (starts e a) ⊎ Led a → StartingWithin (suc k) A a
        there a (inl t) = starts_within (suc k) a t
        there a (inr (t, m, u)) =
            let (h, l, v) = preimage_to t.label (live t.target) a u in
            let s = within_to (i t m) h v in
            record {
              hops = h ∷ s.hops;
              end = s.end;
              short = omega (arith, s.short);
              held = (d.allows a h s.hops s.end).0 (through_of (λ t. t.label) (λ t. Holds t.target) (str a (h ∷ s.hops) s.end) m (l, s.held));
            }

        back : (a : Packet n) (hs : List (Packet n)) (z : Packet n) → length hs ≤ suc k → A (str a hs z) → T (starts e a) ⊎ Led a
        back a [] z l w = inl (within_starts a z w)
        back a (h ∷ hs) z l w =
            let (t, m, y) = through_to (λ t. t.label) (λ t. Holds t.target) list (str a (h ∷ hs) z) ((d.allows a h hs z).1 w) in
            inr (t, m, preimage_of t.label (live t.target) a h y.0 (within_of (i t m) h hs z (omega (arith, l)) y.1))
