-- 01, "Strings" (star is any number of joins, none giving the packet itself): the star of a relation by blocks, as spp.rs makes it, and that it is the reflexive and transitive closure: it relates two packets exactly if there
-- is a finite path from the one to the other.
use Rattle.std.specs.Prelude.{Bool, true, false, ◌||◌, ℕ, zero, suc, T}
use Rattle.common.specs.Packets.{Packet, bit, Relation}
use Rattle.common.specs.Relations.{Closure as Paths}
use Rattle.spp_steps.specs.Relations.{part, compose}

-- a finite path of steps of R
abbrev pub Way : {n : ℕ} → Relation n → Packet n → Packet n → Type 0
Way R = Paths (λ p q. T (R p q))

abbrev pub plus : {n : ℕ} → Relation n → Relation n → Relation n
plus R S p q = R p q || S p q

-- the entries of the star of R, where f is the star of relations of one bit less
module _ {n : ℕ} (f : Relation n → Relation n) (R : Relation (suc n)) where
  abbrev pub d* : Relation n
  d* = f (part R true true)

  abbrev pub bd* : Relation n
  bd* = compose (part R false true) d*

  abbrev pub bd*c : Relation n
  bd*c = compose bd* (part R true false)

  abbrev pub a+ : Relation n
  a+ = plus (part R false false) bd*c

  abbrev pub s00 : Relation n
  s00 = f a+

  abbrev pub s01 : Relation n
  s01 = compose s00 bd*

  abbrev pub cs00 : Relation n
  cs00 = compose (part R true false) s00

  abbrev pub s10 : Relation n
  s10 = compose d* cs00

  abbrev pub s11 : Relation n
  s11 = plus d* (compose s10 bd*)

  abbrev pub block : Bool → Bool → Relation n
  block false false = s00
  block false true = s01
  block true false = s10
  block true true = s11

unfoldable pub closure : {n : ℕ} → Relation n → Relation n
closure {n = zero} R p q = true
closure {n = suc n} R (bit i p) (bit j q) = block closure R i j p q
