-- 02 (i), "the smallest start, then the hops in order, then the end": the least packet of a set, and the least of a set to which a relation leads a packet, as numbers, and as words of the cache.
use Rattle.std.specs.Prelude.{◌≡◌, Bool, true, false, ◌&&◌, List, ℕ, Option, Some, None, ◌+◌, ◌-◌, ◌^◌, ◌≤◌, ◌<◌, if◌then◌else◌, option_map}
use Rattle.std.proofs.Math.Option as maybe
use Rattle.std.proofs.Math.Option.{none, some}
use Rattle.common.specs.Packets.{Packet, Set}
use Rattle.common.specs.Runs.{Table}
use Rattle.cache.specs.Cache.{Valid, OnCodes, OnlyCodes, Sound, WritesValid}
use Rattle.netkat_paths.specs.Order.{value, least}
use Rattle.sp_steps.specs.Model as Sp
use Rattle.sp_steps.specs.Wf as SpLaws
use Rattle.spp_steps.specs.Model as Spp
use Rattle.spp_steps.specs.Model.{kids}
use Rattle.spp_steps.specs.Wf.{ValidAt}
use Rattle.spp_steps.specs.ImageModel.{Stores}
use Rattle.spp_steps.specs.Images.{BothWf}

-- the number of a packet that may be missing
abbrev pub number_of : {n : ℕ} → maybe.Option (Packet n) → Option ℕ
number_of none = None
number_of (some p) = Some (value p)

-- .. as a word: 0, or the number + 1
abbrev pub word : Option ℕ → ℕ
word None = 0
word (Some k) = k + 1

abbrev pub word_of : {n : ℕ} → maybe.Option (Packet n) → ℕ
word_of o = word (number_of o)

-- a number that may be missing, with a bit 1 in front, which counts k
abbrev pub raised : ℕ → Option ℕ → Option ℕ
raised k = option_map (λ w. k + w)

-- ---- of a set

pub record LeastAsked (d : ℕ) (t : Table) (s : ℕ) : Type 0 where
  pub deep : d ≤ 31
  pub wf : SpLaws.WfAny d t
  pub at_s : SpLaws.ValidAt t d s

-- ---- of a set to which a relation leads

-- the packets of the set s to which the relation r leads p
abbrev pub led_to : Stores → (d s r : ℕ) → Packet d → Set d
led_to σ d s r p h = Spp.mem σ.spp.words d r p h && Sp.mem σ.sp.words d s h

-- The cache's code for the packet with number k is LEAST + k. No other operation has a code that high.
abbrev pub LEAST : ℕ
LEAST = 2147483648

abbrev pub HIGHEST : ℕ
HIGHEST = LEAST + 2147483647

-- a slot of least packets, with the set first and the relation second
pub record LeastKept (σ : Stores) (op s r w : ℕ) : Type 0 where
  pub depth : ℕ
  pub at_s : SpLaws.ValidAt σ.sp depth s
  pub at_r : ValidAt σ.spp depth r
  pub small : op - LEAST < 2 ^ depth
  pub is : (p : Packet depth) → value p ≡ op - LEAST → w ≡ word_of (least depth (led_to σ depth s r p))

abbrev pub LeastRead : Stores → Valid
LeastRead σ = OnCodes LEAST HIGHEST (LeastKept σ)

abbrev pub LeastNoted : Stores → Valid
LeastNoted σ = OnlyCodes LEAST HIGHEST (LeastKept σ)

-- what `least_led` asks of the packet with number k, the set s and the relation r of depth d, with N fields, the nodes σ and the cache m
pub record LedAsked (N d : ℕ) (σ : Stores) (m : List ℕ) (k s r : ℕ) : Type 0 where
  pub few : N ≤ 31
  pub deep : d ≤ N
  pub wf : BothWf N σ
  pub at_s : SpLaws.ValidAt σ.sp d s
  pub at_r : ValidAt σ.spp d r
  pub small : k < 2 ^ d
  pub sound : Sound (LeastRead σ) m

pub record LedAnswer (d : ℕ) (σ : Stores) (m : List ℕ) (k s r : ℕ) (w : Option ℕ) (m' : List ℕ) : Type 0 where
  pub is : (p : Packet d) → value p ≡ k → w ≡ number_of (least d (led_to σ d s r p))
  pub notes : WritesValid (LeastNoted σ) m m'

-- x0 and x1 are the row of the node r for the first bit of the packet with number k of d bits; its other bits are the number `rest`
pub record RowOf (u : List ℕ) (d k r x0 x1 rest : ℕ) : Type 0 where
  pub first : Bool
  pub number : k ≡ (if first then 2 ^ (d - 1) else 0) + rest
  pub low : rest < 2 ^ (d - 1)
  pub zero : x0 ≡ kids u r first false
  pub one : x1 ≡ kids u r first true
