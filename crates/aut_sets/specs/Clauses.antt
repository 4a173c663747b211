-- 01, port order, steps 1 and 2, for the queries: operations on packet sets and images with the cache behind the lists in scratch. Each gives what its step gives; of scratch only the cache is written,
-- with right results.
use Rattle.std.specs.Prelude.{◌≡◌, Bool, List, ℕ, ◌≤◌, ◌<◌, length, get_or, Result}
use Rattle.common.specs.Outcome.{Step}
use Rattle.common.specs.Runs.{Table}
use Rattle.cache.specs.Cache.{Valid, OnCodes, OnlyCodes, Sound, WritesValid}
use Rattle.sp_steps.specs.Model as Sp
use Rattle.sp_steps.specs.Wf as SpLaws
use Rattle.sp_steps.specs.Reuse.{SpValid, SpNoted}
use Rattle.spp_steps.specs.Model as Spp
use Rattle.spp_steps.specs.Wf.{Wf, ValidAt}
use Rattle.spp_steps.specs.ImageModel.{Stores, has_image}
use Rattle.spp_steps.specs.Images.{BothWf}
use Rattle.spp_image.specs.Reuse.{Held, Kept, Counted}
use Rattle.refusal.specs.declared.Refusal.{Refusal}
use Rattle.refusal.specs.Numbers.{outcome}
use Rattle.aut_relations.specs.Lent.{Unless}
use Rattle.aut_relations.specs.Behind.{LISTS, cached}

-- the lists are as they were, and each slot of the cache is as it was or satisfies P
pub record NotesBehind (P : Valid) (s s' : List ℕ) : Type 0 where
  pub below : (i : ℕ) → i < LISTS → get_or s' i 0 ≡ get_or s i 0
  pub notes : WritesValid P (cached s) (cached s')

-- The steps c from σ have come to the answer r, its value seen by `see`, and to τ; unless refused, each slot of the cache is as it was or satisfies P of τ.
pub record Gives {S V : Type 0} (P : S → Valid) (see : V → ℕ) (c : Step S ℕ) (σ : S) (r : Result V Refusal) (τ : S) (s s' : List ℕ) : Type 0 where
  pub is : c σ ≡ outcome see r τ
  pub left : Unless r (NotesBehind (P τ) s s')

-- ---- packet sets

pub record PreSet (N : ℕ) (t : Table) (s : List ℕ) (a : ℕ) : Type 0 where
  pub few : N ≤ 31
  pub wf : SpLaws.Wf N t
  pub room : LISTS ≤ length s
  pub sound : Sound (SpValid t) (cached s)
  pub at_a : SpLaws.ValidAt t N a

pub record PreSets (N : ℕ) (t : Table) (s : List ℕ) (a b : ℕ) : Type 0 where
  pub first : PreSet N t s a
  pub at_b : SpLaws.ValidAt t N b

pub record PostSize (N : ℕ) (t : Table) (a r : ℕ) (s s' : List ℕ) : Type 0 where
  pub is : r ≡ Sp.size t.words N a
  pub left : NotesBehind (SpNoted t) s s'

-- ---- images

-- of the relation r
pub record PreImage (N : ℕ) (σ : Stores) (s : List ℕ) (r : ℕ) : Type 0 where
  pub few : N ≤ 31
  pub wf : BothWf N σ
  pub room : LISTS ≤ length s
  pub sound : Sound (Held N σ) (cached s)
  pub at_r : ValidAt σ.spp N r

-- of the set a and the relation r
pub record PreLead (N : ℕ) (σ : Stores) (s : List ℕ) (a r : ℕ) : Type 0 where
  pub image : PreImage N σ s r
  pub at_a : SpLaws.ValidAt σ.sp N a

pub record PostHas (N : ℕ) (σ : Stores) (a r : ℕ) (b : Bool) (s s' : List ℕ) : Type 0 where
  pub is : b ≡ has_image N N a r σ
  pub left : NotesBehind (OnlyCodes 10 15 (Kept N σ)) s s'

-- ---- the relation of a set

pub record PreLift (N : ℕ) (σ : Stores) (s : List ℕ) (a : ℕ) : Type 0 where
  pub few : N ≤ 31
  pub wf : BothWf N σ
  pub room : LISTS ≤ length s
  pub sound : Sound (Held N σ) (cached s)
  pub at_a : SpLaws.ValidAt σ.sp N a

-- ---- numbers of pairs

pub record PreCount (N : ℕ) (t : Table) (s : List ℕ) (r : ℕ) : Type 0 where
  pub few : N ≤ 31
  pub wf : Wf N t
  pub room : LISTS ≤ length s
  pub sound : Sound (OnCodes 17 17 (Counted t)) (cached s)
  pub at_r : ValidAt t N r

pub record PostCount (N : ℕ) (t : Table) (r k : ℕ) (s s' : List ℕ) : Type 0 where
  pub is : k ≡ Spp.size t.words N r
  pub left : NotesBehind (OnlyCodes 17 17 (Counted t)) s s'
