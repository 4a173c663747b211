-- 01, "memo maps are optional in extra scratch": what a result that is kept for reuse must say, so that reuse changes nothing: in this and in every later store, to go down gives that result with no
-- change. It survives every later store. Said once, for every operation: on relations, and between relations and packet sets.
use Rattle.std.specs.Prelude.{◌≡◌, ℕ, suc}
use Rattle.common.specs.Outcome.{given, Step}
use Rattle.common.specs.Runs.{Theory}

-- By which handle the depth of an operation is known: it is of one depth, and stays so.
pub record Depth (𝓣 : Theory) : Type 1 where
  pub Of : 𝓣.Store → ℕ → Type 0
  pub later : (σ τ : 𝓣.Store) (d : ℕ) → 𝓣.Ext σ τ → Of σ d → Of τ d
  pub one : (σ : 𝓣.Store) (d e : ℕ) → Of σ d → Of σ e → d ≡ e

-- the result r of c, which goes down from the depth above `below`
pub record Kept (𝓣 : Theory) (𝓓 : Depth 𝓣) (c : ℕ → Step 𝓣.Store ℕ) (σ : 𝓣.Store) (r : ℕ) : Type 0 where
  pub below : ℕ
  pub depth : 𝓓.Of σ (suc below)
  pub again : (τ : 𝓣.Store) → 𝓣.Ext σ τ → 𝓣.Wf τ → c below τ ≡ given τ r
