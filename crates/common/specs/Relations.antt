-- Relations on packets, by their tests: none and all, the identity, the set operations, one relation after another, and what a relation leads
-- back to. These are the operations of spp.rs as mathematics; RelationLaws.antt says that the tests say what their names say.
use Rattle.std.specs.Prelude.{Bool, true, false, not, ◌&&◌, ◌||◌, ℕ, List, [], ◌∷◌}
use Rattle.std.specs.Bool.{beq}
use Rattle.common.specs.Packets.{Packet, end, bit, packets, Set, Relation, inhabited}

-- whether two packets are one
unfoldable pub same : {n : ℕ} → Relation n
same end end = true
same (bit a p) (bit b q) = beq a b && same p q

module _ {n : ℕ} where
  abbrev pub noneʳ : Relation n
  noneʳ a z = false

  abbrev pub allʳ : Relation n
  allʳ a z = true

  infixl 40 ◌∪ʳ◌ ◌∖ʳ◌ ◌⊕ʳ◌
  infixl 45 ◌∩ʳ◌
  infixl 50 ◌⨾◌
  abbrev pub ◌∪ʳ◌ : Relation n → Relation n → Relation n
  (r ∪ʳ s) a z = r a z || s a z

  abbrev pub ◌∩ʳ◌ : Relation n → Relation n → Relation n
  (r ∩ʳ s) a z = r a z && s a z

  -- what is in the first and not in the second
  abbrev pub ◌∖ʳ◌ : Relation n → Relation n → Relation n
  (r ∖ʳ s) a z = r a z && not (s a z)

  -- what is in exactly one of the two
  abbrev pub ◌⊕ʳ◌ : Relation n → Relation n → Relation n
  (r ⊕ʳ s) a z = (r a z && not (s a z)) || (s a z && not (r a z))

  abbrev pub ∁ʳ : Relation n → Relation n
  ∁ʳ r a z = not (r a z)

  -- the first, and then the second
  unfoldable pub ◌⨾◌ : Relation n → Relation n → Relation n
  (r ⨾ s) a z = inhabited (λ b. r a b && s b z)

  -- the packets that a relation relates to any packet
  unfoldable pub starts : Relation n → Set n
  starts r a = inhabited (r a)

  -- the packets from which a relation leads into a set
  unfoldable pub preimage : Relation n → Set n → Set n
  preimage r x a = inhabited (λ h. r a h && x h)

  -- whether a relation has a pair
  unfoldable pub nonempty : Relation n → Bool
  nonempty r = inhabited (starts r)

  -- The reflexive and transitive closure: any number of steps.
  pub data Closure (R : Packet n → Packet n → Type 0) : Packet n → Packet n → Type 0 where
    here : {a : Packet n} → Closure R a a
    step : {a b z : Packet n} → R a b → Closure R b z → Closure R a z

  -- by way of packets of a list only
  unfoldable pub via : List (Packet n) → Relation n → Relation n
  via [] r a z = same a z || r a z
  via (b ∷ bs) r a z = via bs r a z || (via bs r a b && via bs r b z)

  -- The star as a test: by way of any packets. It is the closure (`star_closure` in RelationLaws.antt).
  unfoldable pub starʳ : Relation n → Relation n
  starʳ r = via (packets n) r
