-- What is pending after a list is walked: what was, and for each transition that leads anywhere one pair.
use Rattle.std.specs.Prelude.{if◌then◌else◌}
use mathlib.Core.Path.{◌≡◌, refl}
use mathlib.Core.Logic.{◌⊎◌, inl, inr}
use mathlib.Core.Bool.{Bool, true, false}
use mathlib.Core.List.Memᴰ
use mathlib.Core.List.{List, [], ◌∷◌, Memᴰ}
use lib.Dec.{T}
use Prim.Native.Nat.{ℕ}
use Rattle.common.specs.Packets.{Packet, Set, inhabited, image}
use Rattle.netkat.specs.Lists.{State, Transition}
use Rattle.netkat.specs.Search.{Pair, put, walk}
use Rattle.common.proofs.PacketLaws.{inhabited_of}

module _ {n : ℕ} where
  abbrev pub pair_of : State → Set n → Pair n
  pair_of s x = record { state = s; packets = x }

  put_rest : (s : State) (x : Set n) {q : Pair n} {pending : List (Pair n)} → Memᴰ q pending → Memᴰ q (put s x pending)
  put_rest s x {q} {pending} m = go (inhabited x)
    where
      go : (b : Bool) → Memᴰ q (if b then (pair_of s x ∷ pending) else pending)
      go true = Memᴰ.tail m
      go false = m

  put_new : (s : State) (x : Set n) (p : Packet n) → T (x p) → (pending : List (Pair n)) → Memᴰ (pair_of s x) (put s x pending)
  put_new s x p t pending = go (inhabited x) refl
    where
      go : (b : Bool) → inhabited x ≡ b → Memᴰ (pair_of s x) (if b then (pair_of s x ∷ pending) else pending)
      go true e = Memᴰ.head refl
      go false e = absurd (rw e at (inhabited_of x p t))

  put_cases : (s : State) (x : Set n) {q : Pair n} (pending : List (Pair n)) → Memᴰ q (put s x pending) → (q ≡ pair_of s x) ⊎ Memᴰ q pending
  put_cases s x {q} pending = go (inhabited x)
    where
      go : (b : Bool) → Memᴰ q (if b then (pair_of s x ∷ pending) else pending) → (q ≡ pair_of s x) ⊎ Memᴰ q pending
      go true m = Memᴰ.cases_cons m
      go false m = inr m

  module _ (fresh : Set n) where
    abbrev pub pair_for : Transition State n → Pair n
    pair_for t = pair_of t.target (image fresh t.label)

    pub walk_rest : (list : List (Transition State n)) {q : Pair n} {pending : List (Pair n)} → Memᴰ q pending → Memᴰ q (walk fresh list pending)
    unfolding walk
    walk_rest [] m = m
    walk_rest (t ∷ ts) m = walk_rest ts (put_rest t.target (image fresh t.label) m)

    pub walk_new : {t : Transition State n} (list : List (Transition State n)) (pending : List (Pair n)) → Memᴰ t list → (h : Packet n) → T (image fresh t.label h) →
        Memᴰ (pair_for t) (walk fresh list pending)
    unfolding walk
    walk_new [] pending m h i = absurd (Memᴰ.not-nil m)
    walk_new {t} (u ∷ us) pending m h i = go (Memᴰ.cases_cons m) (λ k. walk_new us (put u.target (image fresh u.label) pending) k h i)
      where
        go : (t ≡ u) ⊎ Memᴰ t us → (Memᴰ t us → Memᴰ (pair_for t) (walk fresh us (put u.target (image fresh u.label) pending))) →
            Memᴰ (pair_for t) (walk fresh us (put u.target (image fresh u.label) pending))
        go (inl e) rec = walk_rest us (rw (← e) (put_new t.target (image fresh t.label) h i pending))
        go (inr k) rec = rec k

    pub walk_cases : {q : Pair n} (list : List (Transition State n)) (pending : List (Pair n)) → Memᴰ q (walk fresh list pending) →
        ((t : Transition State n) × Memᴰ t list × (q ≡ pair_for t)) ⊎ Memᴰ q pending
    unfolding walk
    walk_cases [] pending m = inr m
    walk_cases {q} (u ∷ us) pending m = go (walk_cases us (put u.target (image fresh u.label) pending) m)
      where
        last : (q ≡ pair_for u) ⊎ Memᴰ q pending → ((t : Transition State n) × Memᴰ t (u ∷ us) × (q ≡ pair_for t)) ⊎ Memᴰ q pending
        last (inl e) = inl (u, Memᴰ.head refl, e)
        last (inr k) = inr k

        go : ((t : Transition State n) × Memᴰ t us × (q ≡ pair_for t)) ⊎ Memᴰ q (put u.target (image fresh u.label) pending) →
            ((t : Transition State n) × Memᴰ t (u ∷ us) × (q ≡ pair_for t)) ⊎ Memᴰ q pending
        go (inl (t, k, e)) = inl (t, Memᴰ.tail k, e)
        go (inr k) = last (put_cases u.target (image fresh u.label) pending k)
