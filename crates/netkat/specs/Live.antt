-- 01, "Strings": live: the start packets of a state's strings. Pruned: each delta label cut to pairs whose second packet is live in the target;
-- empty ones go. And what a work list over the states reached computes (`live_packets`). Laws/Live.antt proves that it is just that.
use Rattle.std.specs.Prelude.{◌≡◌, ◌↔◌, ◌⊎◌, ◌&&◌, T, ℕ, if◌then◌else◌}
use mathlib.Core.List.{List, [], ◌∷◌, Memᴰ}
use Rattle.common.specs.Packets.{Packet, Set, Relation}
use Rattle.common.specs.Relations.{starts, preimage, nonempty}
use Rattle.netkat.specs.Strings.{str}
use Rattle.netkat.specs.Rules.{Language}
use Rattle.netkat.specs.Hops.{IsEpsilon}
use Rattle.netkat.specs.Lists.{State, Transition, to, Ascending, IsDelta}

module _ {n : ℕ} where
  -- a starts a string of A
  pub record Starting (A : Language n) (a : Packet n) : Type 0 where
    pub hops : List (Packet n)
    pub end : Packet n
    pub held : A (str a hops end)

  -- Live: x is the set of the start packets of A's strings.
  pub record IsLive (x : Set n) (A : Language n) : Type 0 where
    pub live : (a : Packet n) → T (x a) ↔ Starting A a

-- The states reached: each with its epsilon and its delta, and with the targets of its list among them.
pub record Reached {n : ℕ} (Holds : State → Language n) : Type 0 where
  pub states : List State
  pub epsilon : State → Relation n
  pub delta : State → List (Transition State n)
  pub closed : (s : State) → Memᴰ s states → (t : Transition State n) → Memᴰ t (delta s) → Memᴰ t.target states
  pub epsilon_true : (s : State) → Memᴰ s states → IsEpsilon (epsilon s) (Holds s)
  pub delta_true : (s : State) → Memᴰ s states → IsDelta Holds (delta s) (Holds s)

-- The packets from which the transition leads back from what is live at its target.
abbrev pub pulled : {n : ℕ} → Transition State n → (State → Set n) → Set n
pulled t live = preimage t.label (live t.target)

module _ {n : ℕ} {Holds : State → Language n} (𝓡 : Reached Holds) where
  open 𝓡 use {states, epsilon, delta}

  -- a transition of a state reached
  pub record Step : Type 0 where
    pub source : State
    pub by : Transition State n

  pub record IsStep (e : Step) : Type 0 where
    pub reached : Memᴰ e.source states
    pub listed : Memᴰ e.by (delta e.source)

  -- `live'` is `live` with the packets of x at s, and no others.
  pub record Added (s : State) (x : Set n) (live live' : State → Set n) : Type 0 where
    pub at : (u : State) (p : Packet n) → T (live' u p) ↔ (T (live u p) ⊎ ((s ≡ u) × T (x p)))

  -- What a work list comes to: it starts from the starts of epsilon, and adds only what a label leads back to from a live packet.
  pub data Derived : (State → Set n) → Type 0 where
    begun : Derived (λ s. starts (epsilon s))
    added : {live live' : State → Set n} → Derived live → (e : Step) → IsStep e → Added e.source (pulled e.by live) live live' → Derived live'

  -- The step can add nothing more.
  pub record Settled (live : State → Set n) (e : Step) : Type 0 where
    pub nothing_more : (p : Packet n) → T (pulled e.by live p) → T (live e.source p)

  -- Nothing more can be added.
  pub record Saturated (live : State → Set n) : Type 0 where
    pub settled : (e : Step) → IsStep e → Settled live e

-- ---- the pruned list

module _ {n : ℕ} where
  -- the label cut to pairs whose second packet is live in the target
  abbrev pub cut : (State → Set n) → Transition State n → Transition State n
  cut live t = to t.target (λ a h. t.label a h && live t.target h)

  -- each label cut; empty ones go
  unfoldable pub pruned : (State → Set n) → List (Transition State n) → List (Transition State n)
  pruned live [] = []
  pruned live (t ∷ ts) = if nonempty (cut live t).label then (cut live t ∷ pruned live ts) else pruned live ts

  -- What is promised of it, for a list that is a delta of A.
  pub record Pruned (Holds : State → Language n) (A : Language n) (list : List (Transition State n)) : Type 0 where
    -- it is a delta of A still, with targets that ascend
    pub delta : IsDelta Holds list A
    pub ascending : Ascending list
    -- and each pair of each label is the beginning of a string
    pub viable : (t : Transition State n) → Memᴰ t list → (a h : Packet n) → T (t.label a h) → (hs : List (Packet n)) × (z : Packet n) × A (str a (h ∷ hs) z)
    pub no_empty : (t : Transition State n) → Memᴰ t list → T (nonempty t.label)
