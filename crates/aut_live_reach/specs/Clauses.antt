-- 01, "Strings" (live): what the visits of live_packets in code ask and promise.
use Rattle.std.specs.Prelude.{◌≡◌, ℕ, ◌+◌, ◌*◌, ◌-◌, ◌/◌, ◌≤◌, ◌<◌, length, get_or, Result, IfOk}
use Rattle.common.specs.Outcome.{Step}
use Rattle.refusal.specs.declared.Refusal.{Refusal}
use Rattle.aut_query_steps.specs.Tables.{Tables}
use Rattle.aut_query_steps.specs.Search.{capacity}
use Rattle.aut_query_steps.specs.Live as M
use Rattle.aut_query_steps.specs.Live.{live_at, found}
use Rattle.aut_query_stage.specs.Lent.{tables_in, GoesQuery}
use Rattle.aut_states.specs.Clauses.{limits_of}
use Rattle.aut_states.specs.declared.Config.{Config}
use Rattle.aut_relations.specs.declared.Aut.{Aut as Lent}
use Rattle.aut_query_calls.specs.Working.{clear_in}
use Rattle.aut_live_words.specs.Work.{live_by, seconds, Held, Doubled}
pub use Rattle.aut_delta.specs.Clauses.{END}

-- ---- a visit

-- n states are reached; that of entry `head` is to be visited
pub record VisitAsked (k : Config) (x : Lent) (head n : ℕ) : Type 0 where
  pub fields : x.spp.fields ≡ k.fields
  pub held : Held k.fields k.limits (tables_in x) x.scratch.now x.pending.now n n
  pub waits : head < n

abbrev pub visited_state : Lent → ℕ → ℕ
visited_state x head = get_or x.pending.now (2 * head + 1) 0

abbrev pub visiting : Config → Lent → (head n : ℕ) → Step Tables M.Visit
visiting k x head n = M.visit k.fields (limits_of k.limits) (length x.pending.now / 2) (visited_state x head) (seconds x.pending.now 0 head) (seconds x.pending.now (head + 1) (n - (head + 1)))

-- the set of s, and the states behind entry `head`, of m
abbrev pub visit_in : Config → Lent → (head s m : ℕ) → M.Visit
visit_in k y head s m = record { ends = live_by k.fields y.states.words.now s; waiting = seconds y.pending.now (head + 1) (m - (head + 1)) }

-- from n states reached in x it has come to m in y
pub record Further (k : Config) (x : Lent) (head n : ℕ) (y : Lent) (m : ℕ) : Type 0 where
  pub held : Held k.fields k.limits (tables_in y) y.scratch.now y.pending.now m m
  pub live : (t : ℕ) → live_by k.fields y.states.words.now t ≡ live_at (visited_state x head) (live_by k.fields y.states.words.now (visited_state x head)) (live_by k.fields x.states.words.now) t
  pub low : (j : ℕ) → j < 2 * n → get_or y.pending.now j 0 ≡ get_or x.pending.now j 0
  pub more : n ≤ m
  pub doubled : Doubled x.pending.now n → Doubled y.pending.now m

pub record Visits (k : Config) (head n : ℕ) (x : Lent) (r : Result ℕ Refusal) (y : Lent) : Type 0 where
  pub post : GoesQuery k 0 (2 * END) clear_in (λ τ v. Unit) (visit_in k y head (visited_state x head)) (visiting k x head n) x r y
  pub further : IfOk r (Further k x head n y)

-- ---- all visits

-- one state is reached, its set empty
pub record ExploreAsked (k : Config) (x : Lent) : Type 0 where
  pub fields : x.spp.fields ≡ k.fields
  pub held : Held k.fields k.limits (tables_in x) x.scratch.now x.pending.now 1 1
  pub doubled : Doubled x.pending.now 1

abbrev pub exploring : Config → Lent → Step Tables M.Found
exploring k x = M.explore k.fields (limits_of k.limits) (length x.pending.now / 2) (capacity (length x.pending.now / 2)) (seconds x.pending.now 0 0) (seconds x.pending.now 0 1) (live_by k.fields x.states.words.now)

-- n states are reached, in the order of their entries, each with its set
pub record Explores (k : Config) (x : Lent) (r : Result ℕ Refusal) (y : Lent) : Type 0 where
  pub post : GoesQuery k 0 (2 * END) clear_in (λ τ f. Unit) (λ n. found (seconds y.pending.now 0 n) (live_by k.fields y.states.words.now)) (exploring k x) x r y
  pub held : IfOk r (λ n. Held k.fields k.limits (tables_in y) y.scratch.now y.pending.now n n)
  pub doubled : IfOk r (λ n. Doubled y.pending.now n)
