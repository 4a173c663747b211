-- 01, "Strings" (live): what the work list of live_packets in code asks and promises.
use Rattle.std.specs.Prelude.{◌≡◌, ℕ, ◌+◌, ◌*◌, ◌/◌, ◌<◌, length, get_or, Result, IfOk, OnOk}
use mathlib.Core.List.{[], Memᴰ}
use Rattle.common.specs.Outcome.{Step}
use Rattle.refusal.specs.declared.Refusal.{Refusal}
use Rattle.aut_delta_steps.specs.Delta.{count_of}
use Rattle.aut_query_steps.specs.Tables.{Tables}
use Rattle.aut_query_steps.specs.Live as M
use Rattle.aut_query_steps.specs.Live.{Work, work, takes}
use Rattle.aut_query_steps.specs.Explored.{Linked}
use Rattle.aut_query_steps.proofs.SettleLaws.{Pulls}
use Rattle.aut_query_stage.specs.Lent.{tables_in, GoesQuery}
use Rattle.aut_states.specs.Clauses.{limits_of}
use Rattle.aut_states.specs.declared.Config.{Config}
use Rattle.aut_states.specs.declared.Members.{Members}
use Rattle.aut_relations.specs.declared.Aut.{Aut as Lent}
use Rattle.aut_query_calls.specs.Working.{clear_in, with_members}
use Rattle.aut_live_words.specs.Work.{work_of, live_by, seconds, stack, Held}

-- ---- what is held, in all tables that are lent; n states are reached, and m wait in `todo`

abbrev pub HeldIn : Config → Lent → ℕ → ℕ → Type 0
HeldIn k x n m = Held k.fields k.limits (tables_in x) x.scratch.now x.pending.now n m

-- the m states of `todo`, and the live sets so far
abbrev pub work_in : Config → Lent → ℕ → Work
work_in k x m = work (stack x.pending.now m) (live_by k.fields x.states.words.now)

-- t and s are reached, of n states; s has its list
pub record Source (k : Config) (x : Lent) (n m t s : ℕ) : Type 0 where
  pub held : HeldIn k x n m
  pub target : 0 < work_of x.states.words.now t
  pub source : 0 < work_of x.states.words.now s
  pub listed : 0 < count_of x.states.words.now s

-- no member is read: here and below, some members are asked for, and the promise is of any; nor is the number of the states taken
pub record PullAsked (k : Config) (x : Lent) (t s m : ℕ) : Type 0 where
  pub members : Members
  pub count : ℕ
  pub source : Source k (with_members members x) count m t s

-- a step o on the work list has been done, n states are reached; unless refused, `todo` has as many entries as the answer says
pub record Pulled (k : Config) (n : ℕ) (o : Step Tables Work) (x : Lent) (r : Result ℕ Refusal) (y : Lent) : Type 0 where
  pub post : GoesQuery k 0 0 clear_in (λ τ w. Unit) (work_in k y) o x r y
  pub held : IfOk r (λ m. HeldIn k y n m)
  pub second : OnOk r ((i : ℕ) → get_or y.pending.now (2 * i + 1) 0 ≡ get_or x.pending.now (2 * i + 1) 0)
  pub lists : OnOk r ((u : ℕ) → count_of y.states.words.now u ≡ count_of x.states.words.now u)

-- the step on the work list, from its m entries
abbrev pub pulling : Config → Lent → (t s m : ℕ) → Step Tables Work
pulling k x t s m = M.pull_from k.fields (limits_of k.limits) (length x.pending.now / 2) t s (work_in k x m)

abbrev pub PullsFrom : Config → (t s m : ℕ) → Lent → Result ℕ Refusal → Lent → Type 0
PullsFrom k t s m x r y = (mem : Members) (n : ℕ) → Source k (with_members mem x) n m t s → Pulled k n (pulling k (with_members mem x) t s m) (with_members mem x) r (with_members mem y)

-- all states reached have their lists
pub record Target (k : Config) (x : Lent) (n m t : ℕ) : Type 0 where
  pub held : HeldIn k x n m
  pub target : 0 < work_of x.states.words.now t
  pub listed : (u : ℕ) → 0 < work_of x.states.words.now u → 0 < count_of x.states.words.now u

pub record TargetAsked (k : Config) (x : Lent) (n m t : ℕ) : Type 0 where
  pub members : Members
  pub target : Target k (with_members members x) n m t

abbrev pub pulling_all : Config → Lent → (t n m : ℕ) → Step Tables Work
pulling_all k x t n m = M.pull_all k.fields (limits_of k.limits) (length x.pending.now / 2) t (seconds x.pending.now 0 n) (work_in k x m)

abbrev pub PullsAll : Config → (t n m : ℕ) → Lent → Result ℕ Refusal → Lent → Type 0
PullsAll k t n m x r y = (mem : Members) → Target k (with_members mem x) n m t → Pulled k n (pulling_all k (with_members mem x) t n m) (with_members mem x) r (with_members mem y)

-- ---- until no state is left

-- the list begins with all n states, and the laws of the work list hold
pub record SettleReady (k : Config) (x : Lent) (n : ℕ) : Type 0 where
  pub held : HeldIn k x n n
  pub links : (u : ℕ) → Memᴰ u (seconds x.pending.now 0 n) → Linked (clear_in x).base (seconds x.pending.now 0 n) u
  pub pulls : Pulls (clear_in x).base held.working.ready.ordered.worked (seconds x.pending.now 0 n) links (takes k.fields (limits_of k.limits) (length x.pending.now / 2) (seconds x.pending.now 0 n)) [] (clear_in x) (work_in k x n)

pub record SettleAsked (k : Config) (x : Lent) (n : ℕ) : Type 0 where
  pub members : Members
  pub ready : SettleReady k (with_members members x) n

abbrev pub settling : Config → Lent → ℕ → Step Tables (ℕ → ℕ)
settling k x n =
    M.settle k.fields (limits_of k.limits) (length x.pending.now / 2) (takes k.fields (limits_of k.limits) (length x.pending.now / 2) (seconds x.pending.now 0 n)) (seconds x.pending.now 0 n) (work_in k x n)

pub record Settled (k : Config) (n : ℕ) (x : Lent) (r : Result (Unit {0}) Refusal) (y : Lent) : Type 0 where
  pub post : GoesQuery k 0 0 clear_in (λ τ w. Unit) (λ u. live_by k.fields y.states.words.now) (settling k x n) x r y
  pub held : OnOk r (HeldIn k y n 0)
  pub second : OnOk r ((i : ℕ) → get_or y.pending.now (2 * i + 1) 0 ≡ get_or x.pending.now (2 * i + 1) 0)

pub record Settles (k : Config) (n : ℕ) (x : Lent) (r : Result (Unit {0}) Refusal) (y : Lent) : Type 0 where
  pub gives : (mem : Members) → SettleReady k (with_members mem x) n → Settled k n (with_members mem x) r (with_members mem y)
