-- 01, "Strings": a string is a start packet, a list of zero or more hop packets, and an end packet. The tail of a string with hops starts at
-- its first hop and drops that hop from the list.
use Rattle.std.specs.Prelude.{List, [], ◌∷◌, ℕ, zero, suc}
use Rattle.common.specs.Packets.{Packet}

pub record Str (n : ℕ) : Type 0 where
  pub start : Packet n
  pub hops : List (Packet n)
  pub end : Packet n

module _ {n : ℕ} where
  abbrev pub str : Packet n → List (Packet n) → Packet n → Str n
  str a hs z = record { start = a; hops = hs; end = z }

  -- The k-th tail of a, hs, z, the string itself for k = 0. It is asked for only where there are k hops.
  abbrev pub tail : ℕ → Packet n → List (Packet n) → Packet n → Str n
  tail zero a hs z = str a hs z
  tail (suc k) a [] z = str a [] z
  tail (suc k) a (h ∷ hs) z = tail k h hs z
