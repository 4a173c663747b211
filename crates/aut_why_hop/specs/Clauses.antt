-- 02 (i): "It picks the fewest hops, then the smallest start, then the hops in order": what the choice of one hop asks and promises. Word 8 of a transition's target is the set (+ 1) of packets
-- from which the rest can still be had.
use Rattle.std.specs.Prelude.{◌≡◌, Bool, true, List, map, ℕ, ◌+◌, ◌*◌, ◌-◌, ◌^◌, ◌≤◌, ◌<◌, ltb, length, get_or}
use Rattle.std.specs.Prelude as code
use Rattle.std.proofs.Math.Option.{Option, none, some}
use Rattle.common.specs.Packets.{Packet, Set}
use Rattle.cache.specs.Cache.{Sound}
use Rattle.netkat.specs.Lists.{State, Transition, to}
use Rattle.netkat_paths.specs.Order.{value}
use Rattle.netkat_paths.specs.Pick.{Hop, hop}
use Rattle.netkat_steps.specs.ListSteps.{Edge}
use Rattle.sp_steps.specs.Model as Sp
use Rattle.sp_steps.specs.Wf as SpLaws
use Rattle.spp_steps.specs.Model as Spp
use Rattle.spp_steps.specs.Wf.{ValidAt}
use Rattle.spp_steps.specs.ImageModel.{Stores}
use Rattle.spp_steps.specs.Images.{BothWf}
use Rattle.aut_st_steps.specs.Edges.{edges}
use Rattle.aut_delta_steps.specs.Delta.{start_of, count_of}
use Rattle.aut_relations.specs.Behind.{LISTS, cached}
use Rattle.aut_live_words.specs.Clauses.{Listed}
use Rattle.aut_sets.specs.Clauses.{NotesBehind}
use Rattle.spp_least.specs.Clauses.{LeastRead, LeastNoted}

-- the handle in word 8 of a state
abbrev pub ahead_of : List ℕ → ℕ → ℕ
ahead_of st x = get_or st (12 * x + 8) 0 - 1

-- the packets of these sets
abbrev pub aheads : (N : ℕ) → Stores → List ℕ → State → Set N
aheads N σ st x = Sp.mem σ.sp.words N (ahead_of st x)

-- a transition by its label's pairs
abbrev pub leading : (N : ℕ) → Stores → Edge → Transition State N
leading N σ e = to e.target (Spp.mem σ.spp.words N e.label)

-- the stored list of x
abbrev pub list_of : List ℕ → List ℕ → ℕ → List Edge
list_of st tr x = edges tr (start_of st x) (count_of st x - 1)

-- ---- the tables and the cache

-- the nodes are in order, and least packets that are noted are right
pub record LeastReady (N : ℕ) (σ : Stores) (s : List ℕ) : Type 0 where
  pub few : N ≤ 31
  pub wf : BothWf N σ
  pub room : LISTS ≤ length s
  pub sound : Sound (LeastRead σ) (cached s)

-- ---- one transition

-- the label is a relation, the target a state, and word 8 of this state has a set
pub record Ahead (N : ℕ) (σ : Stores) (st : List ℕ) (target label : ℕ) : Type 0 where
  pub state : 12 * target + 11 < length st
  pub some : 0 < get_or st (12 * target + 8) 0
  pub set : SpLaws.ValidAt σ.sp N (ahead_of st target)
  pub relation : ValidAt σ.spp N label

pub record PreLed (N : ℕ) (σ : Stores) (st s : List ℕ) (target label packet : ℕ) : Type 0 where
  pub ready : LeastReady N σ s
  pub ahead : Ahead N σ st target label
  pub small : packet < 2 ^ N

-- the packet is lower than that of the best hop so far
abbrev pub sooner : ℕ → code.Option (ℕ × ℕ) → Bool
sooner packet code.None = true
sooner packet (code.Some (low, t)) = ltb packet low

-- ---- the list of x

pub record PreHop (N : ℕ) (σ : Stores) (st tr s : List ℕ) (x packet : ℕ) : Type 0 where
  pub ready : LeastReady N σ s
  pub list : Listed st tr x
  pub aheads : (i : ℕ) → i < count_of st x - 1 → Ahead N σ st (get_or tr (2 * (start_of st x + i)) 0) (get_or tr (2 * (start_of st x + i) + 1) 0)
  pub small : packet < 2 ^ N

abbrev pub Hops : {N : ℕ} → code.Option (ℕ × ℕ) → Option (Hop N) → Type 0
Hops {N} (code.Some (p, t)) o = (h : Hop N) × (o ≡ some h) × (p ≡ value h.packet) × (t ≡ h.target)
Hops code.None o = o ≡ none

pub record PostHop (N : ℕ) (σ : Stores) (st tr : List ℕ) (x packet : ℕ) (r : code.Option (ℕ × ℕ)) (s s' : List ℕ) : Type 0 where
  pub is : (p : Packet N) → value p ≡ packet → Hops r (hop (map (leading N σ) (list_of st tr x)) (aheads N σ st) p none)
  pub left : NotesBehind (LeastNoted σ) s s'
