-- Demand 3, for one search of a program: of all emptiness searches that 01 does not refuse, each reports exactly the answer and the count of
-- 01's plain search, and what is promised of the plain search holds of it. Each yes or no says "empty" exactly if no string belongs to the
-- state, and exactly if its live set is empty where both answer, in whichever order. proofs/Demand.antt proves it of a machine that works for a
-- lawful automaton.
use Rattle.std.specs.Prelude.{◌≡◌, ◌↔◌, T, ℕ}
use Rattle.common.specs.Packets.{Set, inhabited}
use Rattle.common.specs.Outcome.{Gives}
use Rattle.netkat.specs.Lists.{State}
use Rattle.netkat.specs.Search.{Automaton, Verdict, yes, spent, search}
use Rattle.netkat.specs.Promise.{Meaning, Promised, Budgeted}
use Rattle.netkat.specs.Live.{IsLive}
use Rattle.netkat_steps.specs.Handles as Handles
use Rattle.netkat_steps.specs.Handles.{Machine, Reading, Reports}

-- Of the machine's search for s that came to r.
pub record Demanded {n : ℕ} {𝓒 : Machine} {𝓐 : Automaton n} (𝓡 : Reading 𝓒 𝓐) (𝓜 : Meaning n 𝓐.Store) (budget : ℕ) (s : State) (τ : 𝓐.Store) (σ' : 𝓒.Store) (r : Verdict × ℕ) : Type 0 where
  pub reports : Reports 𝓡 (search 𝓐 budget s τ) σ' r
  pub promised : Promised 𝓜 budget τ s r.0 reports.log
  pub budgeted : Budgeted 𝓐 τ s
  pub live_alike : (x : Set n) → IsLive x (𝓜.Holds τ s) → ¬ (r.0 ≡ spent) → (r.0 ≡ yes) ↔ (¬ T (inhabited x))

abbrev pub Demand : {n : ℕ} {𝓒 : Machine} {𝓐 : Automaton n} → Reading 𝓒 𝓐 → Meaning n 𝓐.Store → Type 0
Demand {n} {𝓒} {𝓐} 𝓡 𝓜 = (budget : ℕ) (s : State) (σ : 𝓒.Store) (τ : 𝓐.Store) → 𝓡.Agrees σ τ → 𝓡.Known σ s → 𝓜.Good τ → 𝓜.Known τ s →
    Gives (λ σ' r. Demanded 𝓡 𝓜 budget s τ σ' r) (Handles.search 𝓒 budget s σ)
