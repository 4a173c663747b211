-- What holds of the definitions of specs/Onto.
use Rattle.std.specs.Prelude.{if◌then◌else◌}
use mathlib.Core.Path.{◌≡◌, refl, ◌∙◌, ap}
use mathlib.Core.Bool.{Bool, true, false}
use mathlib.Core.List.{List, [], ◌∷◌, ◌++◌, append-nil, append_assoc}
use Prim.Native.Nat.{ℕ}
use lib.Dec.{eqb}
use Rattle.common.specs.Outcome.{Outcome, refused, given, Step, return, after, ◌>>=◌}
use Rattle.netkat_steps.specs.ListSteps.{Edge, edge}
use Rattle.aut_steps.specs.Relations as Rel
use Rattle.aut_query_steps.specs.Tables.{Tables}
use Rattle.aut_query_steps.specs.Pruned.{viable, prune}
use Rattle.aut_stage.proofs.Rule.{Folds}
use Rattle.aut_pruned.specs.Onto.{behind}

module _ (N : ℕ) where
  unfoldable pub prune_onto : List Edge → List Edge → Step Tables (List Edge)
  prune_onto [] kept = return kept
  prune_onto (e ∷ es) kept = viable N e >>= λ l. prune_onto es (behind N kept e.target l)

  -- one label
  abbrev pub prune_one : Edge → List Edge → Step Tables (List Edge)
  prune_one e kept σ = after (viable N e σ) (λ l τ. given τ (behind N kept e.target l))

  pub prune_folds : Folds prune_one prune_onto
  unfolding prune_onto
  prune_folds = record { none = λ kept σ. refl; some = λ e es kept σ. go (viable N e σ) (λ l. behind N kept e.target l) es }
    where
      go : (o : Outcome Tables ℕ) (f : ℕ → List Edge) (es : List Edge) → after o (λ l. prune_onto es (f l)) ≡ after (after o (λ l τ. given τ (f l))) (prune_onto es)
      go (refused n) f es = refl
      go (given τ l) f es = refl

  moved : (c : Bool) (kept rest : List Edge) (e : Edge) → kept ++ (if c then rest else (e ∷ rest)) ≡ (if c then kept else (kept ++ e ∷ [])) ++ rest
  moved true kept rest e = refl
  moved false kept rest e = rw append_assoc

  onto_is : (es kept : List Edge) (σ : Tables) → after (prune N es σ) (λ r. return (kept ++ r)) ≡ prune_onto es kept σ
  unfolding prune prune_onto
  onto_is [] kept σ = ap (λ (l : List Edge). given σ l) (append-nil kept)
  onto_is (e ∷ es) kept σ = go (viable N e σ) (λ k τ. onto_is es k τ)
    where
      two : (τ : Tables) (l : ℕ) (r : Outcome Tables (List Edge))
          → after (after r (λ rest. return (if eqb l (Rel.zero_at N) then rest else (edge e.target l ∷ rest)))) (λ r. return (kept ++ r)) ≡ after r (λ r. return (behind N kept e.target l ++ r))
      two τ l (refused n) = refl
      two τ l (given υ rest) = ap (λ (z : List Edge). given υ z) (moved (eqb l (Rel.zero_at N)) kept rest (edge e.target l))

      go : (o : Outcome Tables ℕ) → ((k : List Edge) (τ : Tables) → after (prune N es τ) (λ r. return (k ++ r)) ≡ prune_onto es k τ)
          → after (after o (λ l τ. after (prune N es τ) (λ rest. return (if eqb l (Rel.zero_at N) then rest else (edge e.target l ∷ rest))))) (λ r. return (kept ++ r))
          ≡ after o (λ l. prune_onto es (behind N kept e.target l))
      go (refused n) ih = refl
      go (given τ l) ih = two τ l (prune N es τ) ∙ ih (behind N kept e.target l) τ

  same : (o : Outcome Tables (List Edge)) → o ≡ after o (λ r. return ([] ++ r))
  same (refused n) = refl
  same (given τ r) = refl

  pub prune_is : (es : List Edge) (σ : Tables) → prune N es σ ≡ prune_onto es [] σ
  prune_is es σ = same (prune N es σ) ∙ onto_is es [] σ
