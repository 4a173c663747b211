-- 01, "Forms that must change", memo maps in scratch: what a result that is kept for reuse must say, so that reuse changes nothing: in this and in every later store, to go down with the
-- operation on the two sets gives that result with no change; and a kept number is the number of packets. It survives every later store.
use Rattle.std.specs.Prelude.{◌≡◌, ℕ, suc, ◌+◌, ◌*◌}
use Rattle.common.specs.Outcome.{given}
use Rattle.common.specs.Runs.{Table}
use Rattle.sp_steps.specs.Op.{Op}
use Rattle.sp_steps.specs.Model.{both, apply, size}
use Rattle.sp_steps.specs.Wf.{WfAny, Ext, ValidAt}

-- the operations' codes in the cache
abbrev pub code : Op → ℕ
code Op.union = 1
code Op.xor = 2

abbrev pub count_code : ℕ
count_code = 16

-- two words as one number
abbrev pub wide : ℕ → ℕ → ℕ
wide high low = 4294967296 * high + low

pub record Applied (o : Op) (σ : Table) (a b r : ℕ) : Type 0 where
  pub below : ℕ
  pub at_a : ValidAt σ (suc below) a
  pub at_b : ValidAt σ (suc below) b
  pub again : (τ : Table) → Ext σ τ → WfAny (suc below) τ → both (apply o below) a b τ ≡ given τ r

pub record Counted (σ : Table) (a b r : ℕ) : Type 0 where
  pub depth : ℕ
  pub at_a : ValidAt σ depth a
  pub counts : size σ.words depth a ≡ wide b r

-- a slot of the cache: of another operation, nothing is asked
pub record SpValid (σ : Table) (op a b r : ℕ) : Type 0 where
  pub applied : (o : Op) → op ≡ code o → Applied o σ a b r
  pub counted : op ≡ count_code → Counted σ a b r

-- the codes of packet sets
pub data SpCode (op : ℕ) : Type 0 where
  applies : (o : Op) → op ≡ code o → SpCode op
  counts : op ≡ count_code → SpCode op

-- what packet sets write: a slot of theirs, and valid
pub record SpNoted (σ : Table) (op a b r : ℕ) : Type 0 where
  pub own : SpCode op
  pub valid : SpValid σ op a b r
