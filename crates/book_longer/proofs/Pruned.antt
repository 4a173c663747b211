-- `delta_pruned` (aut_query_steps' Pruned) on longer tables, with no fewer pending entries: from tables in order, of a state that is there.
use mathlib.Core.List.{List, [], ◌∷◌}
use Prim.Native.Nat.{ℕ, ◌-◌, ◌≤◌, ◌<◌}
use native.Mathlib.Omega.{arith}
use Rattle.common.specs.Outcome.{◌>>=◌}
use Rattle.netkat_steps.specs.ListSteps.{Edge}
use Rattle.spp_steps.specs.Model as Spp
use Rattle.spp_steps.specs.ImageModel as Images
use Rattle.aut_steps.specs.Relations as Rel
use Rattle.aut_steps.specs.Tables.{Limits, on_nodes}
use Rattle.aut_steps.specs.Wf.{states}
use Rattle.aut_delta_steps.specs.Delta.{on_aut}
use Rattle.aut_query_steps.specs.Tables.{Tables, on_base, making_relations, WfTables}
use Rattle.aut_query_steps.specs.Pruned.{viable, prune, delta_pruned}
use Rattle.aut_query_steps.proofs.Steps.{ends_gives}
use Rattle.aut_query_steps.proofs.LiveLaws.{live_ends}
use Rattle.book_longer.specs.Longer.{LongerTables, Follows, Respects}
use Rattle.book_longer.proofs.Follow.{follows_bind, follows_given, along, returns, bind}
use Rattle.book_longer.proofs.Words.{lives}
use Rattle.book_longer.proofs.Relations.{apply_longer}
use Rattle.book_longer.proofs.Images.{ifwd_longer}
use Rattle.book_longer.proofs.Queries.{delta_onward, relations_plain, nodes_plain}
use Rattle.book_longer.proofs.Live.{live_follows}

module _ (N : ℕ) where
  viable_longer : (e : Edge) → Respects LongerTables (viable N e)
  unfolding viable
  viable_longer e σ τ r =
      along (λ d. making_relations (Images.ifwd N (lives r.base.aut.states.words d e.target - 1)) >>= λ allowed. on_base (on_aut (on_nodes (Rel.intersect N e.label allowed))))
      (bind (relations_plain (ifwd_longer N _)) (λ allowed. nodes_plain (apply_longer N N Spp.intersect e.label allowed))) σ τ r

  prune_longer : (es : List Edge) → Respects LongerTables (prune N es)
  unfolding prune
  prune_longer [] = returns []
  prune_longer (e ∷ es) = bind (viable_longer e) (λ l. bind (prune_longer es) (λ rest. returns _))

pub pruned_follows : {N : ℕ} {L : Limits} {lent more : ℕ} → lent ≤ more → (x : ℕ) (σ τ : Tables) → WfTables N L σ → x < states σ.base.aut → LongerTables σ τ
    → Follows LongerTables (delta_pruned N L lent x σ) (delta_pruned N L more x τ)
unfolding delta_pruned
pruned_follows {N} {L} {lent} {more} wide x σ τ o k r =
    follows_given (ends_gives (live_ends lent o k)) (live_follows wide x σ τ o.worked k r) (λ σ₁ τ₁ _ C r₁.
    follows_bind (delta_onward {n = states σ₁.base.aut} x (omega (arith, C.later.grown.states.more)) σ₁ τ₁ (record { longer = r₁; worked = C.ordered.worked; more = omega arith })) (λ σ₂ τ₂ es r₂. prune_longer N es σ₂ τ₂ r₂.longer))
