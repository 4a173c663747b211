-- 02 (i), "the smallest start, then the hops in order, then the end": the least packet of a set, the least of a set to which a relation leads a packet, and the least to which it leads
-- at all, each by its number, or none. Of scratch only the cache is written, with right results of codes that no other operation has.
use Rattle.std.specs.Prelude.{◌≡◌, List, ℕ, Option, ◌^◌, ◌≤◌, ◌<◌, length, get_or}
use Rattle.common.specs.Packets.{Packet}
use Rattle.common.specs.Runs.{Table}
use Rattle.cache.specs.Cache.{Sound}
use Rattle.netkat_paths.specs.Order.{value, least}
use Rattle.sp_steps.specs.Wf as SpLaws
use Rattle.spp_steps.specs.Model as Spp
use Rattle.spp_steps.specs.Wf.{ValidAt}
use Rattle.spp_steps.specs.ImageModel.{Stores}
use Rattle.spp_steps.specs.Images.{BothWf}
use Rattle.spp_least.specs.Clauses.{number_of, led_to, LeastRead, LeastNoted}
use Rattle.aut_relations.specs.Behind.{LISTS, cached}
use Rattle.aut_sets.specs.Clauses.{NotesBehind}

-- of the set a
pub record PreFirst (N : ℕ) (t : Table) (a : ℕ) : Type 0 where
  pub few : N ≤ 31
  pub wf : SpLaws.Wf N t
  pub at_a : SpLaws.ValidAt t N a

-- of the packet with number k and the relation r
pub record PreEnd (N : ℕ) (σ : Stores) (s : List ℕ) (k r : ℕ) : Type 0 where
  pub few : N ≤ 31
  pub wf : BothWf N σ
  pub room : LISTS ≤ length s
  pub sound : Sound (LeastRead σ) (cached s)
  pub small : k < 2 ^ N
  pub at_r : ValidAt σ.spp N r

-- of the set a too
pub record PreLed (N : ℕ) (σ : Stores) (s : List ℕ) (k a r : ℕ) : Type 0 where
  pub end : PreEnd N σ s k r
  pub at_a : SpLaws.ValidAt σ.sp N a

pub record PostLed (N : ℕ) (σ : Stores) (k a r : ℕ) (w : Option ℕ) (s s' : List ℕ) : Type 0 where
  pub is : (p : Packet N) → value p ≡ k → w ≡ number_of (least N (led_to σ N a r p))
  pub left : NotesBehind (LeastNoted σ) s s'

pub record PostEnd (N : ℕ) (σ : Stores) (k r : ℕ) (w : Option ℕ) (s s' : List ℕ) : Type 0 where
  pub is : (p : Packet N) → value p ≡ k → w ≡ number_of (least N (λ z. Spp.mem σ.spp.words N r p z))
  pub left : NotesBehind (LeastNoted σ) s s'

-- the cache is zeroed, the lists are as they were
pub record Forgotten (s s' : List ℕ) : Type 0 where
  pub below : (i : ℕ) → i < LISTS → get_or s' i 0 ≡ get_or s i 0
  pub zeroed : (i : ℕ) → LISTS ≤ i → get_or s' i 0 ≡ 0
