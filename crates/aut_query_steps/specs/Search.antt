-- 01, "The book and its answers" and `is_empty`: the search on the tables, in the Rust's order of steps. netkat's search over handles, with packet sets and relations as the handles
-- of sp.rs and spp.rs: per pair the budget, difference, union into seen (20), epsilon (21), has_image, delta, and per transition push (20) and then a pending entry (24).
use Rattle.std.specs.Prelude.{map, ℕ, min}
use Rattle.common.specs.Outcome.{given, Step, return, after}
use Rattle.netkat_steps.specs.ListSteps.{Edge}
use Rattle.netkat.specs.Search.{Verdict}
use Rattle.netkat_steps.specs.Handles as Handles
use Rattle.netkat_steps.specs.Handles.{Machine, Link}
use Rattle.sp_steps.specs.Model as Sp
use Rattle.spp_steps.specs.ImageModel as Images
use Rattle.aut_steps.specs.Tables.{Limits}
use Rattle.aut_delta_steps.specs.Epsilon.{epsilon}
use Rattle.aut_delta_steps.specs.Delta.{on_aut, delta}
use Rattle.aut_query_steps.specs.Tables.{Tables, diagrams, on_sets, on_base, making_sets}

-- "Capacity is whole records, at most .. 2^24 records of any other table": of the pending entries lent
abbrev pub pending_cap : ℕ
pending_cap = 16777216

abbrev pub capacity : ℕ → ℕ
capacity lent = min lent pending_cap

-- a transition as the search walks it
abbrev pub link : Edge → Link ℕ
link e = record { target = e.target; label = e.label }

-- for N fields, with `lent` pending entries
abbrev pub machine : ℕ → Limits → ℕ → Machine
machine N L lent = record {
  Store = Tables;
  Handle = ℕ;
  Label = ℕ;
  one = Sp.one_at N;
  zero = Sp.zero_at N;
  difference = λ g h. on_sets (Sp.difference N g h);
  union = λ g h. on_sets (Sp.union N g h);
  is_zero = λ h. return (Sp.is_zero N h);
  push = λ h l. making_sets (Images.push N N h l);
  has_image = λ h l σ. given σ (Images.has_image N N h l (diagrams σ));
  epsilon = λ s. on_base (on_aut (epsilon N s));
  delta = λ s σ. after (on_base (delta N L s) σ) (λ es. return (map link es));
  capacity = capacity lent;
}

-- the verdict and the pairs taken
unfoldable pub is_empty : ℕ → Limits → (lent budget s : ℕ) → Step Tables (Verdict × ℕ)
is_empty N L lent budget s = Handles.search (machine N L lent) budget s
