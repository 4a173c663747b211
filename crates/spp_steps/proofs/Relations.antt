-- What holds of the definitions of specs/Relations.
use mathlib.Core.Path.{◌≡◌, refl, sym, ap, subst}
use mathlib.Core.Logic.{⊎_elim, ◌↔◌}
use mathlib.Core.Bool.{Bool, true, false, ◌&&◌, ◌||◌, or-false}
use Prim.Native.Nat.{ℕ, zero, suc, ◌<◌}
use native.Mathlib.Omega.{arith}
use lib.Dec.{T}
use Rattle.common.specs.Packets.{Packet, end, bit, packets, Set, Relation, all, inhabited, image}
use Rattle.common.specs.Relations.{◌⨾◌, starts, preimage}
use Rattle.common.proofs.RelationLaws.{same_refl, same_eq, seq_of, seq_to, preimage_of, preimage_to}
use Rattle.common.proofs.PacketLaws.{both, each, either, or_left, or_right, inhabited_of, inhabited_to, image_of_lem, image_to}
use Rattle.spp_steps.specs.Relations.{part, compose, equal, bit_at, set_bit, alike, testing, assigning}

-- two tests that hold at the same time are equal
pub tests_equal : (a b : Bool) → (T a → T b) → (T b → T a) → a ≡ b
tests_equal true true f g = refl
tests_equal true false f g = absurd (f tt)
tests_equal false true f g = absurd (g tt)
tests_equal false false f g = refl

module _ {n : ℕ} where
  pub inhabited_split : (s : Set (suc n)) → inhabited s ≡ (inhabited (λ p. s (bit false p)) || inhabited (λ p. s (bit true p)))
  inhabited_split s = tests_equal (inhabited s) (l || r) down up
    where
      l : Bool
      l = inhabited (λ p. s (bit false p))

      r : Bool
      r = inhabited (λ p. s (bit true p))

      side : (p : Packet (suc n)) → T (s p) → T (l || r)
      side (bit false p) t = or_left l r (inhabited_of (λ p. s (bit false p)) p t)
      side (bit true p) t = or_right l r (inhabited_of (λ p. s (bit true p)) p t)

      down : T (inhabited s) → T (l || r)
      down t = let (p, u) = inhabited_to s t in side p u

      up : T (l || r) → T (inhabited s)
      up t =
          ⊎_elim
          (λ u. let (p, v) = inhabited_to (λ p. s (bit false p)) u in inhabited_of s (bit false p) v)
          (λ u. let (p, v) = inhabited_to (λ p. s (bit true p)) u in inhabited_of s (bit true p) v)
          (either l r t)

pub inhabited_end : (s : Set zero) → inhabited s ≡ s end
unfolding inhabited packets
inhabited_end s = or-false (s end)

-- ---- composition, equality, domain and what a relation leads back to are common's, under spp.rs's names

module _ {n : ℕ} where
  -- the packets that a relation leads to any packet
  abbrev pub domain : Relation n → Set n
  domain R = starts R

  -- the packets that a relation leads into a set
  abbrev pub leads : Relation n → Set n → Set n
  leads R S = preimage R S

-- by the first bits
pub compose_part : {n : ℕ} (R S : Relation (suc n)) (i j : Bool) (p q : Packet n)
    → part (compose R S) i j p q ≡ (compose (part R i false) (part S false j) p q || compose (part R i true) (part S true j) p q)
unfolding ◌⨾◌
compose_part R S i j p q = inhabited_split (λ m. R (bit i p) m && S m (bit j q))

module _ {n : ℕ} (R : Relation n) where
  -- composed with nothing, and with equality
  pub compose_nothing : (p q : Packet n) → compose R (λ p q. false) p q ≡ false
  compose_nothing p q = tests_equal (compose R (λ p q. false) p q) false (λ t. (seq_to R (λ p q. false) p q t).2) (λ t. absurd t)

  pub nothing_compose : (p q : Packet n) → compose (λ p q. false) R p q ≡ false
  nothing_compose p q = tests_equal (compose (λ p q. false) R p q) false (λ t. (seq_to (λ p q. false) R p q t).1) (λ t. absurd t)

  pub compose_equal : (p q : Packet n) → compose R equal p q ≡ R p q
  compose_equal p q =
      tests_equal (compose R equal p q) (R p q)
      (λ t. let (m, u, v) = seq_to R equal p q t in subst (λ m. T (R p m)) (same_eq m q v) u)
      (λ t. seq_of R equal p q q t (same_refl q))

  pub equal_compose : (p q : Packet n) → compose equal R p q ≡ R p q
  equal_compose p q =
      tests_equal (compose equal R p q) (R p q)
      (λ t. let (m, u, v) = seq_to equal R p q t in subst (λ m. T (R m q)) (sym (same_eq p m u)) v)
      (λ t. seq_of equal R p p q (same_refl p) t)

-- ---- sets and relations

-- by the first bits
pub image_part : {n : ℕ} (S : Set (suc n)) (R : Relation (suc n)) (j : Bool) (q : Packet n)
    → image S R (bit j q) ≡ (image (λ p. S (bit false p)) (part R false j) q || image (λ p. S (bit true p)) (part R true j) q)
unfolding image
image_part S R j q = inhabited_split (λ p. S p && R p (bit j q))

pub domain_part : {n : ℕ} (R : Relation (suc n)) (i : Bool) (p : Packet n) → domain R (bit i p) ≡ (domain (part R i false) p || domain (part R i true) p)
unfolding starts
domain_part R i p = inhabited_split (R (bit i p))

pub leads_part : {n : ℕ} (R : Relation (suc n)) (S : Set (suc n)) (i : Bool) (p : Packet n)
    → leads R S (bit i p) ≡ (leads (part R i false) (λ q. S (bit false q)) p || leads (part R i true) (λ q. S (bit true q)) p)
unfolding preimage
leads_part R S i p = inhabited_split (λ q. R (bit i p) q && S q)

-- of all packets
pub leads_all : {n : ℕ} (R : Relation n) (S : Set n) → ((p : Packet n) → S p ≡ true) → (p : Packet n) → leads R S p ≡ domain R p
unfolding starts
leads_all R S e p =
    tests_equal (leads R S p) (domain R p)
    (λ t. let (q, u, v) = preimage_to R S p t in inhabited_of (R p) q u)
    (λ t. let (q, u) = inhabited_to (R p) t in preimage_of R S p q u (subst T (sym (e q)) tt))

pub image_all : {n : ℕ} (R : Relation n) (S : Set n) → ((p : Packet n) → S p ≡ true) → (q : Packet n) → image S R q ≡ image all R q
image_all R S e q =
    tests_equal (image S R q) (image all R q)
    (λ t. let (p, u, v) = image_to S R q t in image_of_lem all R p q tt v)
    (λ t. let (p, u, v) = image_to all R q t in image_of_lem S R p q (subst T (sym (e p)) tt) v)

-- a set without packets has none
pub uninhabited : {n : ℕ} (S : Set n) → inhabited S ≡ false → (p : Packet n) → S p ≡ false
uninhabited S e p = tests_equal (S p) false (λ t. subst T e (inhabited_of S p t)) (λ t. absurd t)

alike_self : (b : Bool) → T (alike b b)
alike_self false = tt
alike_self true = tt

alike_is : (a b : Bool) → T (alike a b) → b ≡ a
alike_is false false t = refl
alike_is false true t = absurd t
alike_is true false t = absurd t
alike_is true true t = refl

pub testing_is : {n : ℕ} (f : ℕ) (v : Bool) (p q : Packet n) → T (testing f v p q) ↔ ((p ≡ q) × (bit_at f p ≡ v))
unfolding testing
testing_is f v p q = (
  λ t. let (a, e) = each (alike v (bit_at f p)) (equal p q) t in (same_eq p q e, alike_is v (bit_at f p) a),
  λ h. both (alike v (bit_at f p)) (equal p q) (subst (λ b. T (alike v b)) (sym h.1) (alike_self v)) (subst (λ q. T (equal p q)) h.0 (same_refl p)),
)

pub assigning_is : {n : ℕ} (f : ℕ) (v : Bool) (p q : Packet n) → T (assigning f v p q) ↔ (set_bit f v p ≡ q)
unfolding assigning
assigning_is f v p q = (same_eq (set_bit f v p) q, λ h. subst (λ q. T (equal (set_bit f v p) q)) h (same_refl (set_bit f v p)))

-- the bit that is set, and the others
pub set_bit_same : {n : ℕ} (f : ℕ) (v : Bool) (p : Packet n) → f < n → bit_at f (set_bit f v p) ≡ v
unfolding bit_at set_bit
set_bit_same f v end l = absurd (omega arith)
set_bit_same zero v (bit b p) l = refl
set_bit_same (suc f) v (bit b p) l = set_bit_same f v p (omega arith)

pub set_bit_other : {n : ℕ} (f g : ℕ) (v : Bool) (p : Packet n) → (f ≡ g → ⊥) → bit_at g (set_bit f v p) ≡ bit_at g p
unfolding bit_at set_bit
set_bit_other f g v end l = refl
set_bit_other zero zero v (bit b p) l = absurd (l refl)
set_bit_other zero (suc g) v (bit b p) l = refl
set_bit_other (suc f) zero v (bit b p) l = refl
set_bit_other (suc f) (suc g) v (bit b p) l = set_bit_other f g v p (λ e. l (ap suc e))
