-- The tests of Relations.antt say what their names say.
use mathlib.Core.Path.{◌≡◌, refl, ap₂, subst}
use mathlib.Core.Logic.{◌↔◌, ◌⊎◌, inl, inr}
use mathlib.Core.List.Memᴰ
use mathlib.Core.List.{List, [], ◌∷◌, Memᴰ}
use mathlib.Core.Bool.{Bool, true, false, not, ◌&&◌, ◌||◌, beq}
use lib.Dec.{T, T_not, not_T}
use Prim.Native.Nat.{ℕ}
use Rattle.common.specs.Packets.{Packet, end, bit, packets, Set, Relation}
use Rattle.common.proofs.PacketLaws.{both, each, either, or_left, or_right, packet_listed, inhabited_of, inhabited_to}
use Rattle.common.specs.Relations.{same, ◌⨾◌, starts, preimage, nonempty, Closure, here, step, via, starʳ}

-- a test passes or not
pub by_test : (b : Bool) → T b ⊎ (¬ T b)
by_test true = inl tt
by_test false = inr (λ t. t)

pub not_of : (b : Bool) → ¬ T b → T (not b)
not_of = not_T

pub not_to : (b : Bool) → T (not b) → ¬ T b
not_to = T_not

pub minus_of : (a b : Bool) → T a → ¬ T b → T (a && not b)
minus_of a b t u = both a (not b) t (not_T b u)

pub minus_to : (a b : Bool) → T (a && not b) → T a × ¬ T b
minus_to a b t = let (u, v) = each a (not b) t in (u, T_not b v)

beq_refl : (a : Bool) → T (beq a a)
beq_refl true = tt
beq_refl false = tt

beq_eq : (a b : Bool) → T (beq a b) → a ≡ b
beq_eq true true t = refl
beq_eq true false t = absurd t
beq_eq false true t = absurd t
beq_eq false false t = refl

pub same_refl : {n : ℕ} (p : Packet n) → T (same p p)
unfolding same
same_refl end = tt
same_refl (bit a p) = both (beq a a) (same p p) (beq_refl a) (same_refl p)

pub same_eq : {n : ℕ} (p q : Packet n) → T (same p q) → p ≡ q
unfolding same
same_eq end end t = refl
same_eq (bit a p) (bit b q) t = let (u, v) = each (beq a b) (same p q) t in ap₂ bit (beq_eq a b u) (same_eq p q v)

module _ {n : ℕ} where
  pub seq_of : (r s : Relation n) (a b z : Packet n) → T (r a b) → T (s b z) → T ((r ⨾ s) a z)
  unfolding ◌⨾◌
  seq_of r s a b z t u = inhabited_of (λ b. r a b && s b z) b (both (r a b) (s b z) t u)

  pub seq_to : (r s : Relation n) (a z : Packet n) → T ((r ⨾ s) a z) → (b : Packet n) × T (r a b) × T (s b z)
  unfolding ◌⨾◌
  seq_to r s a z t =
      let (b, u) = inhabited_to (λ b. r a b && s b z) t in
      let (v, w) = each (r a b) (s b z) u in
      (b, v, w)

  pub starts_of : (r : Relation n) (a z : Packet n) → T (r a z) → T (starts r a)
  unfolding starts
  starts_of r a z t = inhabited_of (r a) z t

  pub starts_to : (r : Relation n) (a : Packet n) → T (starts r a) → (z : Packet n) × T (r a z)
  unfolding starts
  starts_to r a t = inhabited_to (r a) t

  pub preimage_of : (r : Relation n) (x : Set n) (a h : Packet n) → T (r a h) → T (x h) → T (preimage r x a)
  unfolding preimage
  preimage_of r x a h t u = inhabited_of (λ h. r a h && x h) h (both (r a h) (x h) t u)

  pub preimage_to : (r : Relation n) (x : Set n) (a : Packet n) → T (preimage r x a) → (h : Packet n) × T (r a h) × T (x h)
  unfolding preimage
  preimage_to r x a t =
      let (h, u) = inhabited_to (λ h. r a h && x h) t in
      let (v, w) = each (r a h) (x h) u in
      (h, v, w)

  pub nonempty_of : (r : Relation n) (a z : Packet n) → T (r a z) → T (nonempty r)
  unfolding nonempty
  nonempty_of r a z t = inhabited_of (starts r) a (starts_of r a z t)

  pub nonempty_to : (r : Relation n) → T (nonempty r) → (a z : Packet n) × T (r a z)
  unfolding nonempty
  nonempty_to r t =
      let (a, u) = inhabited_to (starts r) t in
      let (z, v) = starts_to r a u in
      (a, z, v)

  -- ---- the closure
  pub closure_map : {R S : Packet n → Packet n → Type 0} → ((a z : Packet n) → R a z → S a z) → {a z : Packet n} → Closure R a z → Closure S a z
  closure_map f here = here
  closure_map f (step r c) = step (f _ _ r) (closure_map f c)

  pub closure_join : {R : Packet n → Packet n → Type 0} {a b z : Packet n} → Closure R a b → Closure R b z → Closure R a z
  closure_join here d = d
  closure_join (step r c) d = step r (closure_join c d)

  -- ---- the star is the closure

  module _ (r : Relation n) where
    via_to : (l : List (Packet n)) (a z : Packet n) → T (via l r a z) → Closure (λ a z. T (r a z)) a z
    unfolding via
    via_to [] a z t = go (either (same a z) (r a z) t)
      where
        go : T (same a z) ⊎ T (r a z) → Closure (λ a z. T (r a z)) a z
        go (inl u) = subst (λ z. Closure (λ a z. T (r a z)) a z) (same_eq a z u) here
        go (inr u) = step u here
    via_to (b ∷ bs) a z t = go (either (via bs r a z) (via bs r a b && via bs r b z) t) (via_to bs a z) (via_to bs a b) (via_to bs b z)
      where
        go : T (via bs r a z) ⊎ T (via bs r a b && via bs r b z) → (T (via bs r a z) → Closure (λ a z. T (r a z)) a z) → (T (via bs r a b) → Closure (λ a z. T (r a z)) a b) →
            (T (via bs r b z) → Closure (λ a z. T (r a z)) b z) → Closure (λ a z. T (r a z)) a z
        go (inl u) f g h = f u
        go (inr u) f g h = let (v, w) = each (via bs r a b) (via bs r b z) u in closure_join (g v) (h w)

    via_base : (l : List (Packet n)) (a z : Packet n) → T (same a z) ⊎ T (r a z) → T (via l r a z)
    unfolding via
    via_base [] a z (inl u) = or_left (same a z) (r a z) u
    via_base [] a z (inr u) = or_right (same a z) (r a z) u
    via_base (b ∷ bs) a z u = or_left (via bs r a z) (via bs r a b && via bs r b z) (via_base bs a z u)

    -- ways by a listed packet join
    via_join : (l : List (Packet n)) (a b z : Packet n) → Memᴰ b l → T (via l r a b) → T (via l r b z) → T (via l r a z)
    unfolding via
    via_join [] a b z m t u = absurd (Memᴰ.not-nil m)
    via_join (c ∷ cs) a b z m t u = go (Memᴰ.cases_cons m) (λ x y k. via_join cs x b y k)
      where
        Way : Packet n → Packet n → Type 0
        Way x y = T (via cs r x y)

        direct : Way a z → T (via cs r a z || (via cs r a c && via cs r c z))
        direct v = or_left (via cs r a z) (via cs r a c && via cs r c z) v

        by_c : Way a c → Way c z → T (via cs r a z || (via cs r a c && via cs r c z))
        by_c v w = or_right (via cs r a z) (via cs r a c && via cs r c z) (both (via cs r a c) (via cs r c z) v w)

        parts : (x y : Packet n) → T (via cs r x y || (via cs r x c && via cs r c y)) → Way x y ⊎ (Way x c × Way c y)
        parts x y v = split (either (via cs r x y) (via cs r x c && via cs r c y) v)
          where
            split : Way x y ⊎ T (via cs r x c && via cs r c y) → Way x y ⊎ (Way x c × Way c y)
            split (inl w) = inl w
            split (inr w) = inr (each (via cs r x c) (via cs r c y) w)

        into_c : (x : Packet n) → Way x c ⊎ (Way x c × Way c c) → Way x c
        into_c x (inl v) = v
        into_c x (inr v) = v.0

        out_of_c : (y : Packet n) → Way c y ⊎ (Way c c × Way c y) → Way c y
        out_of_c y (inl v) = v
        out_of_c y (inr v) = v.1

        later : ((x y : Packet n) → Way x b → Way b y → Way x y) → Way a b ⊎ (Way a c × Way c b) → Way b z ⊎ (Way b c × Way c z) → T (via cs r a z || (via cs r a c && via cs r c z))
        later join (inl v) (inl w) = direct (join a z v w)
        later join (inl v) (inr w) = by_c (join a c v w.0) w.1
        later join (inr v) (inl w) = by_c v.0 (join c z v.1 w)
        later join (inr v) (inr w) = by_c v.0 w.1

        go : (b ≡ c) ⊎ Memᴰ b cs → ((x y : Packet n) → Memᴰ b cs → Way x b → Way b y → Way x y) → T (via cs r a z || (via cs r a c && via cs r c z))
        go (inl e) join =
            by_c (into_c a (parts a c (subst (λ b. T (via cs r a b || (via cs r a c && via cs r c b))) e t)))
            (out_of_c z (parts c z (subst (λ b. T (via cs r b z || (via cs r b c && via cs r c z))) e u)))
        go (inr k) join = later (λ x y v w. join x y k v w) (parts a b t) (parts b z u)

    pub star_closure : (a z : Packet n) → T (starʳ r a z) ↔ Closure (λ a z. T (r a z)) a z
    unfolding starʳ
    star_closure a z = (via_to (packets n) a z, back)
      where
        back : {a z : Packet n} → Closure (λ a z. T (r a z)) a z → T (via (packets n) r a z)
        back {a} here = via_base (packets n) a a (inl (same_refl a))
        back (step {a} {b} {z} t c) = via_join (packets n) a b z (packet_listed b) (via_base (packets n) a b (inr t)) (back c)
