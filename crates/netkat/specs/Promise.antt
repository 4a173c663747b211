-- What is promised of the plain search (demand 3; 01, "What every promise says"), over any automaton whose answers are true of the strings that
-- its states hold. Laws/Promise.antt and Laws/Budget.antt prove it.
use Rattle.std.specs.Prelude.{◌≡◌, ◌↔◌, length, T, eqb, ℕ, ◌+◌, ◌*◌, ◌^◌, ◌≤◌, ◌<◌}
use mathlib.Core.List.{List, [], ◌∷◌, Memᴰ}
use Rattle.common.specs.Packets.{any}
use Rattle.netkat.specs.Strings.{Str}
use Rattle.netkat.specs.Rules.{Language, Rule, In}
use Rattle.common.specs.Outcome.{given, Gives}
use Rattle.netkat.specs.Hops.{IsEpsilon}
use Rattle.netkat.specs.Lists.{State, Transition, IsDelta, Ascending}
use Rattle.netkat.specs.Search.{Automaton, Log, Verdict, yes, no, spent, search}

-- ---- What an automaton's states hold, and when its answers are true

-- A store may be well formed, and a state known in it (made there). A known state holds strings.
pub record Meaning (n : ℕ) (Store : Type 0) : Type 1 where
  pub Good : Store → Type 0
  pub Known : Store → State → Type 0
  pub Holds : Store → State → Language n

module _ {n : ℕ} {Store : Type 0} (𝓜 : Meaning n Store) where
  open 𝓜 use {Good, Known, Holds}

  -- The step from σ to σ' keeps the store well formed, every state known, and the strings of each.
  pub record Kept (σ σ' : Store) : Type 0 where
    pub good : Good σ'
    pub known : (t : State) → Known σ t → Known σ' t
    pub same : (t : State) → Known σ t → (w : Str n) → Holds σ t w ↔ Holds σ' t w

  -- What delta gives for s: known targets, ascending; labels disjoint; and a string a,[h,..],z is in s exactly if some transition's label
  -- relates a to h and h,[..],z is in its target.
  pub record DeltaOf (σ : Store) (s : State) (list : List (Transition State n)) : Type 0 where
    pub known : (t : Transition State n) → Memᴰ t list → Known σ t.target
    pub ascending : Ascending list
    pub is : IsDelta (Holds σ) list (Holds σ s)

-- Every answer of the automaton is true.
pub record Lawful {n : ℕ} (𝓐 : Automaton n) (𝓜 : Meaning n 𝓐.Store) : Type 0 where
  pub epsilon_true : (σ : 𝓐.Store) (s : State) → 𝓜.Good σ → 𝓜.Known σ s → Gives (λ σ' e. Kept 𝓜 σ σ' × IsEpsilon e (𝓜.Holds σ' s)) (𝓐.epsilon s σ)
  pub delta_true : (σ : 𝓐.Store) (s : State) → 𝓜.Good σ → 𝓜.Known σ s → Gives (λ σ' list. Kept 𝓜 σ σ' × DeltaOf 𝓜 σ' s list) (𝓐.delta s σ)

-- ---- What is promised of a search that is not refused

-- No state is listed twice.
abbrev pub Distinct : List State → Type 0
Distinct [] = Unit {0}
Distinct (s ∷ l) = (¬ T (any (eqb s) l)) × Distinct l

module _ {n : ℕ} where
  -- 1 + S × P × T
  abbrev pub pair_bound : Log n → ℕ
  pair_bound log = 1 + length log.expanded * 2 ^ n * log.longest

  -- Of the search for s in σ with a budget, which ended in a verdict.
  pub record Promised {Store : Type 0} (𝓜 : Meaning n Store) (budget : ℕ) (σ : Store) (s : State) (verdict : Verdict) (log : Log n) : Type 0 where
    -- S counts an expanded state once
    pub once : Distinct log.expanded
    -- none takes more than 1 + S × P × T pairs
    pub bound : log.count ≤ pair_bound log
    -- a search whose budget is at least this number, by its own S and T, yields a verdict, yes or no
    pub enough : pair_bound log ≤ budget → ¬ (verdict ≡ spent)
    -- each yes or no says "empty" exactly if no string belongs to the state
    pub exactly : ¬ (verdict ≡ spent) → (verdict ≡ yes) ↔ ((w : Str n) → ¬ 𝓜.Holds σ s w)
    -- and `no` comes with a string
    pub string : verdict ≡ no → (w : Str n) × 𝓜.Holds σ s w

  abbrev pub Promise : (𝓐 : Automaton n) (𝓜 : Meaning n 𝓐.Store) → Type 0
  Promise 𝓐 𝓜 = (budget : ℕ) (σ : 𝓐.Store) (s : State) → 𝓜.Good σ → 𝓜.Known σ s → Gives (λ σ' r. Promised 𝓜 budget σ s r.0 r.1) (search 𝓐 budget s σ)

  -- ---- What is promised of the budget, of any automaton

  module _ (𝓐 : Automaton n) (σ : 𝓐.Store) (s : State) where
    abbrev pub Spent : ℕ → Type 0
    Spent budget = (σ' : 𝓐.Store) × (log : Log n) × (search 𝓐 budget s σ ≡ given σ' (spent, log)) × (log.count ≡ budget)

    -- With some budget the search answers yes or no, and has then taken k pairs.
    abbrev pub Needs : ℕ → Type 0
    Needs k = (budget : ℕ) × (σ' : 𝓐.Store) × (verdict : Verdict) × (log : Log n) × (search 𝓐 budget s σ ≡ given σ' (verdict, log)) × (¬ (verdict ≡ spent)) × (log.count ≡ k)

    pub record Budgeted : Type 0 where
      -- `spent` exactly if the search needs more than the budget; the count is then the budget
      pub spent_iff : (k : ℕ) → Needs k → (budget : ℕ) → Spent budget ↔ (budget < k)
      -- a verdict `spent` comes with the whole budget as its count, whatever a larger budget would give
      pub spent_count : (budget : ℕ) (σ' : 𝓐.Store) (log : Log n) → search 𝓐 budget s σ ≡ given σ' (spent, log) → log.count ≡ budget
      -- what is spent on a budget is spent on a smaller one
      pub spent_below : (budget less : ℕ) → less ≤ budget → Spent budget → Spent less
      -- what is answered, or refused, on a budget is answered or refused in the same way on a larger one
      pub settled : (budget more : ℕ) → budget ≤ more → ((σ' : 𝓐.Store) (log : Log n) → ¬ (search 𝓐 budget s σ ≡ given σ' (spent, log))) →
          search 𝓐 more s σ ≡ search 𝓐 budget s σ

-- The meaning of states that are rules: a state holds the strings of its rule.
abbrev pub of_rules : {n : ℕ} {Store : Type 0} → (Store → Type 0) → (Store → State → Type 0) → (Store → State → Rule n) → Meaning n Store
of_rules good known rule = record { Good = good; Known = known; Holds = λ σ s w. In (rule σ s) w }
