-- 01, "Strings": a packet is N bits; every bit pattern is a packet. All of them in a list, and sets and relations of them.
use Rattle.std.specs.Prelude.{Bool, true, false, not, ◌&&◌, ◌||◌, List, [], ◌∷◌, ◌++◌, map, ℕ, zero, suc}

-- A packet is N bits; every bit pattern is a packet.
pub data Packet : ℕ → Type 0 where
  end : Packet zero
  bit : {n : ℕ} → Bool → Packet n → Packet (suc n)

-- All packets. There are 2 ^ N (`packets_length`), and each is listed (`packet_listed`; both in PacketLaws.antt).
unfoldable pub packets : (n : ℕ) → List (Packet n)
packets zero = end ∷ []
packets (suc n) = map (bit false) (packets n) ++ map (bit true) (packets n)

-- Whether some element of a list passes a test.
abbrev pub any : {A : Type 0} → (A → Bool) → List A → Bool
any test [] = false
any test (x ∷ xs) = test x || any test xs

-- A set of packets, and a relation on packets, each by its test.
abbrev pub Set : ℕ → Type 0
Set n = Packet n → Bool

abbrev pub Relation : ℕ → Type 0
Relation n = Packet n → Packet n → Bool

module _ {n : ℕ} where
  abbrev pub all : Set n
  all p = true

  abbrev pub nothing : Set n
  nothing p = false

  infixl 40 ◌∖◌ ◌∪◌
  -- what is in the first and not in the second
  abbrev pub ◌∖◌ : Set n → Set n → Set n
  (s ∖ t) p = s p && not (t p)

  abbrev pub ◌∪◌ : Set n → Set n → Set n
  (s ∪ t) p = s p || t p

  -- whether the set has a packet
  unfoldable pub inhabited : Set n → Bool
  inhabited s = any s (packets n)

  -- the packets that a relation leads to from a set
  unfoldable pub image : Set n → Relation n → Set n
  image s r q = inhabited (λ p. s p && r p q)

  -- whether a relation relates a packet of a set to any packet
  unfoldable pub relates : Relation n → Set n → Bool
  relates r s = inhabited (λ p. s p && inhabited (r p))
