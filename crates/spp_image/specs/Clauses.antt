-- What an answer says in the words of the steps, what the functions ask, and what they ensure.
use Rattle.std.specs.Prelude.{◌≡◌, List, ℕ, ◌≤◌, Result, Ok, Err}
use Rattle.common.specs.Outcome.{Outcome, refused, given, Step}
use Rattle.common.specs.Runs.{Table}
use Rattle.cache.specs.Cache.{Sound, WritesValid}
use Rattle.sp_steps.specs.Wf as SpLaws
use Rattle.sp_steps.specs.Reuse.{SpValid}
use Rattle.sp.specs.declared.SP.{SP}
use Rattle.sp.specs.declared.Full.{Full}
use Rattle.spp_steps.specs.Wf.{ValidAt}
use Rattle.spp_steps.specs.ImageModel as M
use Rattle.spp_steps.specs.ImageModel.{Stores, stores}
use Rattle.spp_steps.specs.Images.{BothWf}
use Rattle.spp_image.specs.Reuse.{Held, Written}
use Rattle.spp_image.specs.declared.Led.{Led}
use Rattle.spp_image.specs.declared.Led.TheVariants.{Done, Whole, More}

-- a handle and the packet nodes at exit, with the relation nodes ρ; or refusal 20
abbrev pub seen : Result SP Full → Table → Table → Outcome Stores ℕ
seen (Ok h) τ ρ = given (stores τ ρ) h.0
seen (Err e) τ ρ = refused 20

-- what an operation on the relation r of depth d asks, with N fields, the nodes σ and the cache m
pub record Asked (N d : ℕ) (σ : Stores) (m : List ℕ) (r : ℕ) : Type 0 where
  pub few : N ≤ 31
  pub deep : d ≤ N
  pub wf : BothWf N σ
  pub at_r : ValidAt σ.spp d r
  pub sound : Sound (Held N σ) m

-- the same of the set s and the relation r
pub record LeadAsked (N d : ℕ) (σ : Stores) (m : List ℕ) (s r : ℕ) : Type 0 where
  pub few : N ≤ 31
  pub deep : d ≤ N
  pub wf : BothWf N σ
  pub at_s : SpLaws.ValidAt σ.sp d s
  pub at_r : ValidAt σ.spp d r
  pub sound : Sound (Held N σ) m

-- what is noted in the cache, unless refused
abbrev pub Noted : ℕ → List ℕ → Result SP Full → Table → Table → List ℕ → Type 0
Noted N m (Ok h) τ ρ m' = WritesValid (Written N (stores τ ρ)) m m'
Noted N m (Err e) τ ρ m' = Unit

-- the answer r is what the steps c come to from the nodes σ, with the packet nodes τ at exit, and all that is noted is right
pub record Answer (N : ℕ) (c : Step Stores ℕ) (σ : Stores) (m : List ℕ) (r : Result SP Full) (τ : Table) (m' : List ℕ) : Type 0 where
  pub gives : c σ ≡ seen r τ σ.spp
  pub notes : Noted N m r τ σ.spp m'

-- what `join` of four packet sets of depth d asks, with the packet nodes σ and the cache m
pub record JoinAsked (σ : Table) (m : List ℕ) (d w x y z : ℕ) : Type 0 where
  pub deep : d ≤ 31
  pub wf : SpLaws.WfAny d σ
  pub at_w : SpLaws.ValidAt σ d w
  pub at_x : SpLaws.ValidAt σ d x
  pub at_y : SpLaws.ValidAt σ d y
  pub at_z : SpLaws.ValidAt σ d z
  pub sound : Sound (SpValid σ) m

abbrev pub led_of : Led → M.Led
led_of (Done h) = M.done h.0
led_of Whole = M.whole
led_of More = M.more
