-- What an answer and the store at exit say of the steps' outcome (a handle is given, `Full` is 01's refusal 20), and what the functions ask.
use Rattle.std.specs.Prelude.{◌≡◌, true, false, List, ℕ, ◌*◌, ◌/◌, ◌≤◌, length, Result, Ok, Err}
use Rattle.common.specs.Outcome.{Outcome, refused, given, Step}
use Rattle.common.specs.Runs.{Table, table}
use Rattle.cache.specs.Cache.{Sound, WritesValid}
use Rattle.sp_steps.specs.Op as steps
use Rattle.sp_steps.specs.Model.{child, Exit, out, on, ordered, most, size}
use Rattle.sp_steps.specs.Wf.{WfAny, Rising, ValidAt}
use Rattle.sp_steps.specs.Reuse.{SpValid, SpNoted}
use Rattle.sp.specs.declared.SP.{SP}
use Rattle.sp.specs.declared.Full.{Full}
use Rattle.sp.specs.declared.SPstore.{SPstore}
use Rattle.sp.specs.declared.SPview.{SPview}
use Rattle.sp.specs.declared.Quick.{Quick}
use Rattle.sp.specs.declared.Quick.TheVariants.{Out, On}
use Rattle.sp.specs.declared.Op.{Op}
use Rattle.sp.specs.declared.Op.TheVariants.{Union, Xor}

-- the nodes of a store
abbrev pub store_of : SPstore → Table
store_of s = table s.nodes.now s.count

abbrev pub view_of : SPview → Table
view_of s = table s.nodes.now s.count

abbrev pub seen : Result SP Full → Table → Outcome Table ℕ
seen (Ok h) τ = given τ h.0
seen (Err e) τ = refused 20

abbrev pub op_of : Op → steps.Op
op_of Union = steps.Op.union
op_of Xor = steps.Op.xor

abbrev pub exit_of : steps.Op → Quick → Exit
exit_of o (Out h) = out h.0
exit_of o (On x y) = on o x.0 y.0

abbrev pub Ordered : ℕ → ℕ → Quick → Type 0
Ordered a b r = (o : steps.Op) → ordered o a b ≡ exit_of o r

-- the nodes fit, and none has itself or a later one as a child
pub record MkReady (t : List ℕ) (n : ℕ) : Type 0 where
  pub fits : 2 * n ≤ length t
  pub small : n ≤ most
  pub rising : Rising t n

-- h has children
pub record Inner (t : List ℕ) (h : ℕ) : Type 0 where
  pub low : 2 ≤ h
  pub inside : 2 * (h / 2) ≤ length t

pub record Kids (t : List ℕ) (h x0 x1 : ℕ) : Type 0 where
  pub left : x0 ≡ child t false h
  pub right : x1 ≡ child t true h

-- a well-formed store for d fields or more and two sets of depth d
pub record Ready (σ : Table) (d a b : ℕ) : Type 0 where
  pub deep : d ≤ 31
  pub wf : WfAny d σ
  pub at_a : ValidAt σ d a
  pub at_b : ValidAt σ d b

pub record Asked (σ : Table) (m : List ℕ) (d a b : ℕ) : Type 0 where
  pub ready : Ready σ d a b
  pub sound : Sound (SpValid σ) m

-- unless refused, the cache was given only valid slots of packet sets
abbrev pub Noted : List ℕ → Result SP Full → Table → List ℕ → Type 0
Noted m (Ok h) τ m' = WritesValid (SpNoted τ) m m'
Noted m (Err e) τ m' = Unit

-- the steps `c` from the nodes σ and the cache m have given r, τ and m'
pub record Answer (c : Step Table ℕ) (σ : Table) (m : List ℕ) (r : Result SP Full) (τ : Table) (m' : List ℕ) : Type 0 where
  pub gives : c σ ≡ seen r τ
  pub notes : Noted m r τ m'

pub record SizeAsked (σ : Table) (m : List ℕ) (d a : ℕ) : Type 0 where
  pub deep : d ≤ 31
  pub wf : WfAny d σ
  pub at_a : ValidAt σ d a
  pub sound : Sound (SpValid σ) m

pub record SizeAnswer (σ : Table) (m : List ℕ) (d a r : ℕ) (m' : List ℕ) : Type 0 where
  pub is : r ≡ size σ.words d a
  pub notes : WritesValid (SpNoted σ) m m'
