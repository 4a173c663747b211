-- 01, "Strings": pruned: each delta label cut to pairs whose second packet is live in the target; empty ones go. aut.rs's `delta_pruned` as a step in the Rust's order: the live sets, delta, and
-- for each transition ifwd (21) and intersect (21). These run at every query, also with live sets that are kept.
use Rattle.std.specs.Prelude.{List, [], ◌∷◌, ℕ, ◌-◌, eqb, if◌then◌else◌}
use Rattle.common.specs.Outcome.{Step, return, ◌>>=◌}
use Rattle.netkat_steps.specs.ListSteps.{Edge, edge}
use Rattle.spp_steps.specs.ImageModel as Images
use Rattle.aut_steps.specs.Relations as Rel
use Rattle.aut_steps.specs.Tables.{Limits, on_nodes}
use Rattle.aut_delta_steps.specs.Delta.{on_aut, delta}
use Rattle.aut_query_steps.specs.Tables.{Tables, on_base, making_relations, live_of}
use Rattle.aut_query_steps.specs.Live.{live_packets}

module _ (N : ℕ) where
  -- the label cut, by the live set of its target
  unfoldable pub viable : Edge → Step Tables ℕ
  viable e σ = (making_relations (Images.ifwd N (live_of σ.base.aut.states.words e.target - 1)) >>= λ allowed. on_base (on_aut (on_nodes (Rel.intersect N e.label allowed)))) σ

  unfoldable pub prune : List Edge → Step Tables (List Edge)
  prune [] = return []
  prune (e ∷ es) = do
    l ← viable e
    rest ← prune es
    return (if eqb l (Rel.zero_at N) then rest else (edge e.target l ∷ rest))

unfoldable pub delta_pruned : ℕ → Limits → (lent x : ℕ) → Step Tables (List Edge)
delta_pruned N L lent x = live_packets N L lent x >>= λ _. on_base (delta N L x) >>= prune N
