-- How a turn goes, and how a run ends. `Went` says what a turn did, so that no proof below takes `turn` apart again; `run_ends` carries an
-- invariant from a run's start to its end.
use mathlib.Core.Path.{◌≡◌, refl, sym}
use mathlib.Core.Bool.{Bool, true, false, not}
use mathlib.Core.List.{List, [], ◌∷◌}
use Prim.Native.Nat.{ℕ, zero, suc}
use Rattle.common.specs.Packets.{Relation, inhabited, relates}
use Rattle.common.specs.Outcome.{Outcome, refused, given, after, Gives, refusal, gives}
use Rattle.netkat.specs.Lists.{State, Transition}
use Rattle.netkat.specs.Search.{Automaton, Pair, Log, Verdict, yes, no, spent, Turn, goes, found, walk, fresh_of, skip, expand, walked, turn, onward, run}
use Rattle.common.proofs.Follow.{it_gives, step, branch}

pub not_true : (b : Bool) → not b ≡ true → b ≡ false
not_true true e = sym e
not_true false e = refl

pub not_false : (b : Bool) → not b ≡ false → b ≡ true
not_false true e = refl
not_false false e = sym e

module _ {n : ℕ} (𝓐 : Automaton n) where
  open 𝓐 use {Store, epsilon, delta}

  module _ (pair : Pair n) (rest : List (Pair n)) (log : Log n) (σ : Store) where
    -- What a turn did, by the store and the turn that it gave.
    pub data Went : Store → Turn n → Type 0 where
      skipped : inhabited (fresh_of pair log) ≡ false → Went σ (goes rest (skip log))
      ended : {σ₁ : Store} {e : Relation n} → inhabited (fresh_of pair log) ≡ true → epsilon pair.state σ ≡ given σ₁ e → relates e (fresh_of pair log) ≡ true →
          Went σ₁ (found (expand pair.state (fresh_of pair log) log))
      walked_on : {σ₁ σ₂ : Store} {e : Relation n} {list : List (Transition State n)} → inhabited (fresh_of pair log) ≡ true →
          epsilon pair.state σ ≡ given σ₁ e → relates e (fresh_of pair log) ≡ false → delta pair.state σ₁ ≡ given σ₂ list →
          Went σ₂ (goes (walk (fresh_of pair log) list rest) (walked list (expand pair.state (fresh_of pair log) log)))

    pub went : Gives Went (turn 𝓐 pair rest log σ)
    unfolding turn
    went =
        branch _ _ _ _ (λ f. gives (skipped (not_true _ f))) (λ f.
        step (λ σ₁ e h.
        branch _ _ _ _ (λ r. gives (ended (not_false _ f) h r)) (λ r.
        step (λ σ₂ list d. gives (walked_on (not_false _ f) h r d)))))

  -- ---- how a run ends, with an invariant that speaks of what is left of the budget, the store, what is pending and the log

  module _ (Inv : ℕ → Store → List (Pair n) → Log n → Type 0) where
    -- Each turn that goes on keeps it.
    abbrev pub KeptByTurns : Type 0
    KeptByTurns = (left : ℕ) (σ : Store) (pair : Pair n) (rest : List (Pair n)) (log : Log n) → Inv (suc left) σ (pair ∷ rest) log →
        (σ' : Store) (pending : List (Pair n)) (log' : Log n) → Went pair rest log σ σ' (goes pending log') → Inv left σ' pending log'

    -- What is known at the end.
    abbrev pub Ends : Store → Verdict → Log n → Type 0
    Ends σ' yes log' = (left : ℕ) × Inv left σ' [] log'
    Ends σ' no log' = (left : ℕ) × (σ : Store) × (pair : Pair n) × (rest : List (Pair n)) × (log : Log n) ×
        Inv (suc left) σ (pair ∷ rest) log × Went pair rest log σ σ' (found log')
    Ends σ' spent log' = (pair : Pair n) × (rest : List (Pair n)) × Inv zero σ' (pair ∷ rest) log'

    abbrev pub EndsIn : Store → Verdict × Log n → Type 0
    EndsIn σ' r = Ends σ' r.0 r.1

    pub run_ends : KeptByTurns → (left : ℕ) (pending : List (Pair n)) (log : Log n) (σ : Store) → Inv left σ pending log → Gives EndsIn (run 𝓐 left pending log σ)
    unfolding run
    run_ends kept zero [] log σ i = gives {a = (yes, log)} (zero, i)
    run_ends kept zero (pair ∷ rest) log σ i = gives {a = (spent, log)} (pair, rest, i)
    run_ends kept (suc left) [] log σ i = gives {a = (yes, log)} (suc left, i)
    run_ends kept (suc left) (pair ∷ rest) log σ i = go (turn 𝓐 pair rest log σ) (went pair rest log σ) (λ pending log σ. run_ends kept left pending log σ)
      where
        go : (o : Outcome Store (Turn n)) → Gives (Went pair rest log σ) o →
            ((pending : List (Pair n)) (log : Log n) (σ : Store) → Inv left σ pending log → Gives EndsIn (run 𝓐 left pending log σ)) →
            Gives EndsIn (after o (onward 𝓐 (run 𝓐 left)))
        go (refused number) w rec = refusal
        go (given σ' (goes pending log')) w rec = rec pending log' σ' (kept left σ pair rest log i σ' pending log' (it_gives w))
        go (given σ' (found log')) w rec = gives {a = (no, log')} (left, σ, pair, rest, log, i, it_gives w)
