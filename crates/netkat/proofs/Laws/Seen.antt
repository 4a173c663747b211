-- What an expansion does to the packets seen: none is lost, the fresh ones are added, and nothing else.
use Rattle.std.specs.Prelude.{if◌then◌else◌}
use mathlib.Core.Path.{◌≡◌, refl, sym, subst}
use mathlib.Core.Logic.{◌⊎◌, inl, inr}
use mathlib.Core.Bool.{Bool, true, false, not}
use lib.Dec.{T, T_not, eqb, eqb→eq, eqb_refl}
use Prim.Native.Nat.{ℕ}
use Rattle.common.specs.Packets.{Packet, Set, ◌∪◌}
use Rattle.netkat.specs.Lists.{State}
use Rattle.netkat.specs.Search.{Pair, Log, seen_at, fresh_of, expand}
use Rattle.common.proofs.PacketLaws.{both, each, either, or_left, or_right}

T→true : (b : Bool) → T b → b ≡ true
T→true true t = refl
T→true false t = absurd t

module _ {n : ℕ} (s : State) (x : Set n) (seen : State → Set n) where
  seen_there : seen_at s x seen s ≡ x
  seen_there = rw (T→true (eqb s s) (eqb_refl s))

  -- what is seen at t afterwards: at s it is x
  seen_cases : (t : State) (p : Packet n) → T (seen_at s x seen t p) → ((s ≡ t) × T (x p)) ⊎ T (seen t p)
  seen_cases t p = go (eqb s t) refl
    where
      go : (b : Bool) → eqb s t ≡ b → T ((if b then x else seen t) p) → ((s ≡ t) × T (x p)) ⊎ T (seen t p)
      go true e h = inl (eqb→eq s t (rw e tt), h)
      go false e h = inr h

  -- if x has what was seen at s, nothing is lost
  seen_kept_lem : ((p : Packet n) → T (seen s p) → T (x p)) → (t : State) (p : Packet n) → T (seen t p) → T (seen_at s x seen t p)
  seen_kept_lem more t p = go (eqb s t) refl
    where
      go : (b : Bool) → eqb s t ≡ b → T (seen t p) → T ((if b then x else seen t) p)
      go true e h = more p (subst (λ r. T (seen r p)) (sym (eqb→eq s t (rw e tt))) h)
      go false e h = h

module _ {n : ℕ} (s : State) (fresh : Set n) (log : Log n) where
  pub expand_keeps : (t : State) (p : Packet n) → T (log.seen t p) → T ((expand s fresh log).seen t p)
  expand_keeps = seen_kept_lem s (log.seen s ∪ fresh) log.seen (λ p h. or_left (log.seen s p) (fresh p) h)

  pub expand_adds : (p : Packet n) → T (fresh p) → T ((expand s fresh log).seen s p)
  expand_adds p h = rw (seen_there s (log.seen s ∪ fresh) log.seen) (or_right (log.seen s p) (fresh p) h)

  pub expand_cases : (t : State) (p : Packet n) → T ((expand s fresh log).seen t p) → ((s ≡ t) × T (fresh p)) ⊎ T (log.seen t p)
  expand_cases t p h = by (seen_cases s (log.seen s ∪ fresh) log.seen t p h)
    where
      at_s : s ≡ t → T (log.seen s p) ⊎ T (fresh p) → ((s ≡ t) × T (fresh p)) ⊎ T (log.seen t p)
      at_s e (inl h) = inr (subst (λ r. T (log.seen r p)) e h)
      at_s e (inr h) = inl (e, h)

      by : ((s ≡ t) × T ((log.seen s ∪ fresh) p)) ⊎ T (log.seen t p) → ((s ≡ t) × T (fresh p)) ⊎ T (log.seen t p)
      by (inl h) = at_s h.0 (either (log.seen s p) (fresh p) h.1)
      by (inr h) = inr h

module _ {n : ℕ} (pair : Pair n) (log : Log n) (p : Packet n) where
  pub fresh_held : T (fresh_of pair log p) → T (pair.packets p)
  fresh_held h = (each (pair.packets p) (not (log.seen pair.state p)) h).0

  pub fresh_new : T (fresh_of pair log p) → ¬ T (log.seen pair.state p)
  fresh_new h t = T_not (log.seen pair.state p) (each (pair.packets p) (not (log.seen pair.state p)) h).1 t

  -- a packet of the pair is fresh or seen
  pub fresh_or_seen : T (pair.packets p) → T (fresh_of pair log p) ⊎ T (log.seen pair.state p)
  fresh_or_seen h = go (log.seen pair.state p) refl
    where
      go : (b : Bool) → log.seen pair.state p ≡ b → T (fresh_of pair log p) ⊎ T (log.seen pair.state p)
      go true e = inr (rw e tt)
      go false e = inl (both (pair.packets p) (not (log.seen pair.state p)) h (rw e tt))
