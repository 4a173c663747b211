-- 01, "sp.rs": a node's stored left child is always even. `mk`: what it makes is a well-formed store that is later than the old one, and the one handle with the two children.
-- It is refused exactly if the node is not there and no record is left.
use Rattle.std.specs.Prelude.{◌≡◌, Bool, true, false, ℕ, ◌%◌, ◌<◌}
use Rattle.common.specs.Runs.{Table}
use Rattle.sp_steps.specs.Word.{flip}
use Rattle.sp_steps.specs.Model.{kid, room}

-- x for the left, y for the right
abbrev pub side : {A : Type 0} → Bool → A → A → A
side false x y = x
side true x y = y

-- no node has the stored children x and y
abbrev pub Missing : Table → ℕ → ℕ → Type 0
Missing σ x y = (i : ℕ) → i < σ.count → ((b : Bool) → kid σ.words b i ≡ side b x y) → ⊥

-- ---- refusal

-- `mk x0 x1` needs a node that σ has not and for which no record is left
pub record Short (x0 x1 : ℕ) (σ : Table) : Type 0 where
  pub missing : Missing σ (flip (x0 % 2) x0) (flip (x0 % 2) x1)
  pub no_room : room σ ≡ false
