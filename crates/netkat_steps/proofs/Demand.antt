-- Demand 3 for one search, put together.
use mathlib.Core.Path.{◌≡◌}
use mathlib.Core.Logic.{◌↔◌}
use lib.Dec.{T}
use Prim.Native.Nat.{ℕ}
use Rattle.common.specs.Packets.{Set, inhabited}
use Rattle.common.proofs.Follow.{given_of, if_given}
use Rattle.netkat.specs.Lists.{State}
use Rattle.netkat.specs.Search.{Automaton, Log, Verdict, yes, spent}
use Rattle.netkat.specs.Promise.{Meaning, Lawful, Promised}
use Rattle.netkat.specs.Live.{IsLive}
use Rattle.netkat_steps.specs.Handles as Handles
use Rattle.netkat_steps.specs.Handles.{Machine, Reading, Implements}
use Rattle.netkat_steps.specs.Demand.{Demand}
use Rattle.netkat.proofs.Laws.Promise.{promise}
use Rattle.netkat.proofs.Laws.Budget.{budgeted}
use Rattle.netkat_steps.proofs.Refined.{refines}
use Rattle.netkat.proofs.Laws.Live.{live_empty}

-- Search and live set answer alike: `yes` exactly if the live set is empty.
pub verdict_live : {n : ℕ} {Store : Type 0} {𝓜 : Meaning n Store} {budget : ℕ} {σ : Store} {s : State} {verdict : Verdict} {log : Log n} →
    Promised 𝓜 budget σ s verdict log → (x : Set n) → IsLive x (𝓜.Holds σ s) → ¬ (verdict ≡ spent) → (verdict ≡ yes) ↔ (¬ T (inhabited x))
verdict_live p x i u = (λ e. (live_empty i).1 ((p.exactly u).0 e), λ f. (p.exactly u).1 ((live_empty i).0 f))

pub demand : {n : ℕ} (𝓒 : Machine) (𝓐 : Automaton n) (𝓡 : Reading 𝓒 𝓐) (𝓜 : Meaning n 𝓐.Store) → Implements 𝓒 𝓐 𝓡 → Lawful 𝓐 𝓜 → Demand 𝓡 𝓜
demand 𝓒 𝓐 𝓡 𝓜 works law budget s σ τ a k g m = if_given (Handles.search 𝓒 budget s σ) (λ σ' r h.
    let plain = given_of (refines 𝓒 𝓐 𝓡 works budget s σ τ a k) h in
    let promised = given_of (promise 𝓐 𝓜 law budget τ s g m) plain.came_to in
    record { reports = plain; promised = promised; budgeted = budgeted 𝓐 τ s; live_alike = verdict_live promised })
