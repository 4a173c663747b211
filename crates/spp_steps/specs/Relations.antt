-- 01, "Strings" and `test f v`, `set f v`: relations on packets. Equality, composition, what a relation leads to and from, and how each goes by the
-- first bits; the relations that test and set one bit.
use Rattle.std.specs.Prelude.{Bool, true, false, not, ◌&&◌, ℕ, zero, suc}
use Rattle.common.specs.Packets.{Packet, end, bit, Relation}
use Rattle.common.specs.Relations.{same, ◌⨾◌}

module _ {n : ℕ} where
  -- the pairs whose first bits are i and j
  abbrev pub part : Relation (suc n) → Bool → Bool → Relation n
  part R i j p q = R (bit i p) (bit j q)

-- ---- composition, equality, domain and what a relation leads back to are common's, under spp.rs's names

module _ {n : ℕ} where
  abbrev pub compose : Relation n → Relation n → Relation n
  compose R S = R ⨾ S

  abbrev pub equal : Relation n
  equal = same

-- ---- bits of a packet

-- the bit of field f; field 0 is the first
unfoldable pub bit_at : {n : ℕ} → ℕ → Packet n → Bool
bit_at f end = false
bit_at zero (bit b p) = b
bit_at (suc f) (bit b p) = bit_at f p

-- the packet with the bit of field f set to v
unfoldable pub set_bit : {n : ℕ} → ℕ → Bool → Packet n → Packet n
set_bit f v end = end
set_bit zero v (bit b p) = bit v p
set_bit (suc f) v (bit b p) = bit b (set_bit f v p)

abbrev pub alike : Bool → Bool → Bool
alike false b = not b
alike true b = b

-- a packet to itself, if its bit f is v
unfoldable pub testing : {n : ℕ} → ℕ → Bool → Relation n
testing f v p q = alike v (bit_at f p) && equal p q

-- a packet to the one with its bit f set to v
unfoldable pub assigning : {n : ℕ} → ℕ → Bool → Relation n
assigning f v p q = equal (set_bit f v p) q
