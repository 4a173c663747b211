-- The list of packets has 2 ^ n members, and every packet is one. So the tests of Packets.antt say what their names say.
use mathlib.Core.Path.{◌≡◌, refl, ap, subst}
use mathlib.Core.Logic.{◌⊎◌, inl, inr}
use mathlib.Core.Bool.{Bool, true, false, ◌||◌, ◌&&◌}
use mathlib.Core.List.Memᴰ
use mathlib.Core.List.{List, [], ◌∷◌, map, Memᴰ}
use lib.ListN.{length, length-append, length-map}
use lib.Dec.{T}
use Prim.Native.Nat.{ℕ, zero, suc, ◌^◌}
use native.Mathlib.Omega.{arith}
use Rattle.common.specs.Packets.{Packet, end, bit, packets, any, Set, Relation, inhabited, image, relates}

pub packets_length : (n : ℕ) → length (packets n) ≡ 2 ^ n
unfolding packets
packets_length zero = refl
packets_length (suc n) = simp (length-append, length-map, packets_length n) (omega arith)

map_listed : {A B : Type 0} (f : A → B) {a : A} {l : List A} → Memᴰ a l → Memᴰ (f a) (map f l)
map_listed f (Memᴰ.head e) = Memᴰ.head (ap f e)
map_listed f (Memᴰ.tail m) = Memᴰ.tail (map_listed f m)

pub packet_listed : {n : ℕ} (p : Packet n) → Memᴰ p (packets n)
unfolding packets
packet_listed end = Memᴰ.head refl
packet_listed (bit false p) = Memᴰ.append_left _ (map_listed (bit false) (packet_listed p))
packet_listed (bit {n} true p) = Memᴰ.append_right (map (bit false) (packets n)) (map_listed (bit true) (packet_listed p))

-- ---- tests

pub both : (a b : Bool) → T a → T b → T (a && b)
both true b s t = t
both false b s t = s

pub each : (a b : Bool) → T (a && b) → T a × T b
each true b t = (tt, t)
each false b t = absurd t

pub either : (a b : Bool) → T (a || b) → T a ⊎ T b
either true b t = inl tt
either false b t = inr t

pub or_left : (a b : Bool) → T a → T (a || b)
or_left true b t = tt
or_left false b t = absurd t

pub or_right : (a b : Bool) → T b → T (a || b)
or_right true b t = tt
or_right false b t = t

pub any_of : {A : Type 0} (test : A → Bool) {x : A} {l : List A} → Memᴰ x l → T (test x) → T (any test l)
any_of test (Memᴰ.head {x} {xs} e) t = or_left (test x) (any test xs) (subst (λ y. T (test y)) e t)
any_of test (Memᴰ.tail {x} {xs} m) t = or_right (test x) (any test xs) (any_of test m t)

pub any_to : {A : Type 0} (test : A → Bool) (l : List A) → T (any test l) → (x : A) × T (test x)
any_to test [] t = absurd t
any_to test (x ∷ xs) t = go (either (test x) (any test xs) t) (any_to test xs)
  where
    go : T (test x) ⊎ T (any test xs) → (T (any test xs) → (y : _) × T (test y)) → (y : _) × T (test y)
    go (inl h) k = (x, h)
    go (inr h) k = k h

module _ {n : ℕ} where
  pub inhabited_of : (s : Set n) (p : Packet n) → T (s p) → T (inhabited s)
  unfolding inhabited
  inhabited_of s p t = any_of s (packet_listed p) t

  pub inhabited_to : (s : Set n) → T (inhabited s) → (p : Packet n) × T (s p)
  unfolding inhabited
  inhabited_to s t = any_to s (packets n) t

  pub image_of_lem : (s : Set n) (r : Relation n) (p q : Packet n) → T (s p) → T (r p q) → T (image s r q)
  unfolding image
  image_of_lem s r p q t u = inhabited_of (λ p. s p && r p q) p (both (s p) (r p q) t u)

  pub image_to : (s : Set n) (r : Relation n) (q : Packet n) → T (image s r q) → (p : Packet n) × T (s p) × T (r p q)
  unfolding image
  image_to s r q t =
      let (p, u) = inhabited_to (λ p. s p && r p q) t in
      let (v, w) = each (s p) (r p q) u in
      (p, v, w)

  pub relates_of : (r : Relation n) (s : Set n) (p q : Packet n) → T (s p) → T (r p q) → T (relates r s)
  unfolding relates
  relates_of r s p q t u = inhabited_of (λ p. s p && inhabited (r p)) p (both (s p) (inhabited (r p)) t (inhabited_of (r p) q u))

  pub relates_to : (r : Relation n) (s : Set n) → T (relates r s) → (p q : Packet n) × T (s p) × T (r p q)
  unfolding relates
  relates_to r s t =
      let (p, u) = inhabited_to (λ p. s p && inhabited (r p)) t in
      let (v, w) = each (s p) (inhabited (r p)) u in
      let (q, x) = inhabited_to (r p) w in
      (p, q, v, x)
