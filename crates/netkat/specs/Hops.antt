-- 01, "Strings": epsilon is the relation of a state's strings without hops; delta: a string a,[h,..],z is in a state exactly if some
-- transition's label relates a to h and h,[..],z is in its target. Here: what epsilon is, and the sets of strings with a hop that delta is
-- made of. Laws/Hops.antt takes each operator of a rule one hop at a time.
use Rattle.std.specs.Prelude.{◌↔◌, ◌⊎◌, List, [], ◌∷◌, T, ℕ}
use Rattle.common.specs.Packets.{Packet, Relation}
use Rattle.netkat.specs.Strings.{Str, str}
use Rattle.netkat.specs.Rules.{Language, Join}

module _ {n : ℕ} where
  -- e is the relation of A's strings without hops.
  pub record IsEpsilon (e : Relation n) (A : Language n) : Type 0 where
    pub ends : (a z : Packet n) → A (str a [] z) ↔ T (e a z)

  -- The two sets have the same strings with hops.
  abbrev pub SameHops : Language n → Language n → Type 0
  SameHops A B = (a h : Packet n) (hs : List (Packet n)) (z : Packet n) → A (str a (h ∷ hs) z) ↔ B (str a (h ∷ hs) z)

  -- the strings of A and those of B
  abbrev pub Either : Language n → Language n → Language n
  Either A B w = A w ⊎ B w

  -- What is left of A's strings behind the start a and the first hop h.
  abbrev pub Behind : Packet n → Packet n → Language n → Language n
  Behind a h A w = A (str a (h ∷ w.hops) w.end)

  abbrev pub hop_in : Relation n → Language n → Packet n → List (Packet n) → Packet n → Type 0
  hop_in r B a [] z = ⊥
  hop_in r B a (h ∷ hs) z = T (r a h) × B (str h hs z)

  -- The strings that take a hop by r and have their tail in B: what one transition allows.
  abbrev pub Hop : Relation n → Language n → Language n
  Hop r B w = hop_in r B w.start w.hops w.end

  abbrev pub late_in : Language n → Language n → Packet n → List (Packet n) → Packet n → Type 0
  late_in A B a [] z = ⊥
  late_in A B a (h ∷ hs) z = Join (Behind a h A) B (str h hs z)

  -- The joins of A and B whose first hop is of A's string.
  abbrev pub Late : Language n → Language n → Language n
  Late A B w = late_in A B w.start w.hops w.end

  -- The joins of a pair of r, which has no hop, and a string of B.
  pub record Early (r : Relation n) (B : Language n) (w : Str n) : Type 0 where
    pub dropped : Packet n
    pub left : T (r w.start dropped)
    pub right : B (str dropped w.hops w.end)
