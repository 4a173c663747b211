-- 01, "Who can cause a refusal": the search on the tables is refused with 20 only where a packet node is lacking, with 24 only where all pending entries are taken, and else only with what epsilon and delta
-- meet, with their reason. With SearchLaws: the whole law of `is_empty`.
use mathlib.Core.List.{List, Memᴰ}
use Rattle.std.specs.Prelude.{ℕ, ◌<◌}
use Rattle.netkat_steps.specs.Handles.{Entry}
use Rattle.sp_steps.specs.Wf as SpLaws
use Rattle.spp_steps.specs.Wf.{ValidAt}
use Rattle.aut_steps.specs.Wf.{states}
use Rattle.aut_query_steps.specs.Tables.{Tables}

module _ (N : ℕ) where
  -- an entry and a link of these tables
  pub record Pending (σ : Tables) (e : Entry ℕ) : Type 0 where
    pub known : e.state < states σ.base.aut
    pub at : SpLaws.ValidAt σ.sets N e.packets

  abbrev pub Entries : Tables → List (Entry ℕ) → Type 0
  Entries σ es = (e : Entry ℕ) → Memᴰ e es → Pending σ e
