-- 02 (i): "the starts of strings with at most k hops", and the pick from these sets: the least start, then hop by hop the least packet from which
-- the rest can still be had, then the least end.
use Rattle.std.specs.Prelude.{◌&&◌, List, [], ◌∷◌, ◌↔◌, ℕ, zero, suc, ◌≤◌, T, ltb, length, if◌then◌else◌}
use Rattle.std.proofs.Math.Option.{Option, none, some}
use Rattle.common.specs.Packets.{Packet, Set, Relation}
use Rattle.netkat.specs.Strings.{Str, str}
use Rattle.netkat.specs.Rules.{Language}
use Rattle.netkat.specs.Lists.{State, Transition}
use Rattle.netkat_paths.specs.Order.{value, map, least}

module _ {n : ℕ} where
  -- a starts a string of A with at most k hops
  pub record StartingWithin (k : ℕ) (A : Language n) (a : Packet n) : Type 0 where
    pub hops : List (Packet n)
    pub end : Packet n
    pub short : length hops ≤ k
    pub held : A (str a hops end)

  -- x is the set of these packets
  pub record IsWithin (k : ℕ) (x : Set n) (A : Language n) : Type 0 where
    pub within : (a : Packet n) → T (x a) ↔ StartingWithin k A a

-- ---- the pick

-- a hop: its packet, and the state that it leads to
pub record Hop (n : ℕ) : Type 0 where
  pub packet : Packet n
  pub target : State

-- what follows a packet: hops, end
pub record Way (n : ℕ) : Type 0 where
  pub hops : List (Packet n)
  pub end : Packet n

module _ {n : ℕ} where
  abbrev pub hop_to : State → Packet n → Hop n
  hop_to t h = record { packet = h; target = t }

  -- the lower of two, the first where they are equal
  abbrev pub lower_hop : Option (Hop n) → Option (Hop n) → Option (Hop n)
  lower_hop none none = none
  lower_hop none (some b) = some b
  lower_hop (some a) none = some a
  lower_hop (some a) (some b) = if ltb (value b.packet) (value a.packet) then some b else some a

  -- the least packet to which a transition leads p, of those in its target's set
  abbrev pub led : Transition State n → (State → Set n) → Packet n → Option (Hop n)
  led t live p = map (hop_to t.target) (least n (λ h. t.label p h && live t.target h))

  -- .. over a list of transitions; `best` is the least of those before
  unfoldable pub hop : List (Transition State n) → (State → Set n) → Packet n → (best : Option (Hop n)) → Option (Hop n)
  hop [] live p best = best
  hop (t ∷ ts) live p best = hop ts live p (lower_hop best (led t live p))

  abbrev pub arrive : Packet n → Way n
  arrive z = record { hops = []; end = z }

  abbrev pub onward : Packet n → Way n → Way n
  onward h w = record { hops = h ∷ w.hops; end = w.end }

  abbrev pub from : Packet n → Way n → Str n
  from p w = str p w.hops w.end

-- by each state's epsilon and transitions, and `sets`, for a number of hops and a state
module _ {n : ℕ} (epsilon : State → Relation n) (delta : State → List (Transition State n)) (sets : ℕ → State → Set n) where
  -- k hops from the packet p at the state s, and the end
  unfoldable pub way : (k : ℕ) → State → Packet n → Option (Way n)
  way zero s p = map arrive (least n (epsilon s p))
  way (suc k) s p = elim (hop (delta s) (sets k) p none) [ none ↦ none | some h ↦ map (onward h.packet) (way k h.target h.packet) ]

  -- the string of k hops, from the least start on
  unfoldable pub pick : (k : ℕ) → State → Option (Str n)
  pick k x = elim (least n (sets k x)) [ none ↦ none | some p ↦ map (from p) (way k x p) ]
