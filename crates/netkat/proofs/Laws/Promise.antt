-- The promise of Promise.antt, put together.
use mathlib.Core.Path.{◌≡◌, refl, sym}
use mathlib.Core.List.{List, [], ◌∷◌}
use Prim.Native.Nat.{ℕ, ◌+◌, ◌≤◌}
use native.Mathlib.Omega.{arith}
use Rattle.common.specs.Outcome.{given}
use Rattle.netkat.specs.Lists.{State}
use Rattle.netkat.specs.Search.{Automaton, Pair, Log, Verdict, yes, no, spent, search, first, start}
use Rattle.netkat.specs.Promise.{Meaning, Lawful, Distinct, pair_bound, Promised, Promise}
use Rattle.common.proofs.Follow.{given_of, if_given}
use Rattle.netkat.proofs.Laws.Runs.{Ends, run_ends}
use Rattle.netkat.proofs.Laws.Bound.{Within, within_kept, within_most, within_found, CountsOnce, once_kept, once_found}
use Rattle.netkat.proofs.Laws.Answers.{Sound, sound_start, sound_turns, sound_yes, sound_no}
use Rattle.netkat.proofs.Laws.Budget.{search_counted, yes≢spent, no≢spent, yes≢no}

module _ {n : ℕ} (𝓐 : Automaton n) (𝓜 : Meaning n 𝓐.Store) (law : Lawful 𝓐 𝓜) where
  open 𝓐 use {Store}

  module _ (budget : ℕ) (σ σ' : Store) (s : State) (log : Log n) where
    -- the pairs taken, and one more where one is pending still
    abbrev Taken : Verdict → Type 0
    Taken yes = log.count ≤ pair_bound log
    Taken no = log.count ≤ pair_bound log
    Taken spent = log.count + 1 ≤ pair_bound log

    taken : (v : Verdict) → Ends 𝓐 (Within 𝓐) σ' v log → Taken v
    taken yes (left, i) = omega (arith, within_most log [] i)
    taken no (left, σ₁, pair, rest, log₁, i, w) = omega (arith, within_most log rest (within_found 𝓐 i w))
    taken spent (pair, rest, i) = omega (arith, within_most log (pair ∷ rest) i)

    abbrev Between : ℕ → Store → List (Pair n) → Log n → Type 0
    Between left σ₁ pending log₁ = Sound 𝓜 σ s σ₁ pending log₁

    once : (v : Verdict) → Ends 𝓐 (CountsOnce 𝓐) σ' v log → Distinct log.expanded
    once yes (left, i) = i
    once no (left, σ₁, pair, rest, log₁, i, w) = once_found 𝓐 i w
    once spent (pair, rest, i) = i

    -- by the verdict; of the verdicts that it did not come to nothing is to be shown
    promised : (v : Verdict) → search 𝓐 budget s σ ≡ given σ' (v, log) → Distinct log.expanded → Taken v → Ends 𝓐 Between σ' v log → Promised 𝓜 budget σ s v log
    promised yes h o t (left, i) = record {
      once = o;
      bound = t;
      enough = λ l e. absurd (yes≢spent e);
      exactly = λ u. (λ e. sound_yes 𝓜 σ s i, λ f. refl);
      string = λ e. absurd (yes≢no e);
    }
    promised no h o t (left, σ₁, pair, rest, log₁, i, w) = record {
      once = o;
      bound = t;
      enough = λ l e. absurd (no≢spent e);
      exactly = λ u. (λ e. absurd (yes≢no (sym e)), λ f. let (v, x) = sound_no 𝓐 𝓜 law σ s i w in absurd (f v x));
      string = λ e. sound_no 𝓐 𝓜 law σ s i w;
    }
    promised spent h o t (pair, rest, i) = record {
      once = o;
      bound = omega arith;
      enough = λ l e. absurd (omega (arith, search_counted 𝓐 budget s σ σ' spent log h));
      exactly = λ u. absurd (u refl);
      string = λ e. absurd (no≢spent (sym e));
    }

  pub promise : Promise 𝓐 𝓜
  unfolding search
  promise budget σ s g k = if_given (search 𝓐 budget s σ) (λ σ' r h.
      promised budget σ σ' s r.1 r.0 h
      (once budget σ σ' s r.1 r.0 (given_of (run_ends 𝓐 (CountsOnce 𝓐) (once_kept 𝓐) budget (first s) start σ tt) h))
      (taken budget σ σ' s r.1 r.0 (given_of (run_ends 𝓐 (Within 𝓐) (within_kept 𝓐) budget (first s) start σ (omega arith)) h))
      (given_of (run_ends 𝓐 (Between budget σ σ' s r.1) (sound_turns 𝓐 𝓜 law σ s) budget (first s) start σ (sound_start 𝓜 σ s g k)) h))
