-- 02 (i): "k rising from 0 until none changes": what one round more and the loop over rounds in code ask and promise.
use Rattle.std.specs.Prelude.{◌≡◌, Bool, true, false, not, ℕ, ◌+◌, ◌*◌, ◌≤◌, ◌<◌, length, get_or, if◌then◌else◌, Option, Some, None, Result, IfOk}
use mathlib.Core.List.{List, [], Memᴰ}
use Rattle.common.specs.Outcome.{Step, after}
use Rattle.refusal.specs.declared.Refusal.{Refusal}
use Rattle.sp_steps.specs.Model as Sp
use Rattle.aut_query_steps.specs.Tables.{Tables}
use Rattle.aut_why_steps.specs.Why.{Sets, same_on, round_zero, round, rounds, most_rounds, fewest}
use Rattle.aut_why_steps.proofs.Progress.{Progress}
use Rattle.aut_query_stage.specs.Lent.{tables_in, GoesQuery}
use Rattle.aut_states.specs.Clauses.{limits_of}
use Rattle.aut_states.specs.declared.Config.{Config}
use Rattle.aut_states.specs.declared.Limits.{Limits}
use Rattle.aut_relations.specs.declared.Aut.{Aut as Lent}
use Rattle.aut_free.specs.Clear.{clear_tables}
use Rattle.aut_query_calls.specs.Working.{clear_in}
use Rattle.aut_live_words.specs.Work.{seconds}
use Rattle.aut_why_words.specs.Walk.{Walk, HasSets}
use Rattle.aut_why_rounds.specs.Clauses.{SetsOn, Rounding, RoundingIn, hops_of}

-- ---- one round more

-- the round after `now` has given `next`: whether a set differs; if one does, words 8 have its sets
pub record Compared (k : Config) (now : Sets) (n : ℕ) (next : Sets) (y : Lent) (more : Bool) : Type 0 where
  pub walk : Walk k.fields k.limits (tables_in y) y.scratch.now y.pending.now n
  pub is : same_on (seconds y.pending.now 0 n) now next ≡ not more
  pub sets : more ≡ true → HasSets 8 y.states.words.now y.pending.now n next

pub record OneMore (k : Config) (now : Sets) (n : ℕ) (x : Lent) (r : Result Bool Refusal) (y : Lent) : Type 0 where
  pub next : Sets
  pub post : GoesQuery k 0 0 clear_in (SetsOn k.fields (seconds x.pending.now 0 n)) (λ b. next) (round k.fields (seconds x.pending.now 0 n) now) x r y
  pub compared : IfOk r (λ b. Compared k now n next y b)

pub record NextGives (k : Config) (n : ℕ) (x : Lent) (r : Result Bool Refusal) (y : Lent) : Type 0 where
  pub gives : (now : Sets) → RoundingIn k false x n now → OneMore k now n x r y

-- ---- the fewest hops

-- x is a state whose word 8 has a set
pub record PreHops (N : ℕ) (st : List ℕ) (x : ℕ) : Type 0 where
  pub few : N ≤ 31
  pub there : 12 * x + 11 < length st
  pub some : 0 < get_or st (12 * x + 8) 0

-- f is that of the rounds before; the set h is that of round k
abbrev pub hops_after : (N h k : ℕ) → Option ℕ → Option ℕ
hops_after N h k (Some f) = Some f
hops_after N h k None = if Sp.is_zero N h then None else Some k

-- ---- until none changes

-- `now` is round 0, in words 8; x is a state
pub record Going (N : ℕ) (l : Limits) (σ : Tables) (s p : List ℕ) (n : ℕ) (now : Sets) (x : ℕ) : Type 0 where
  pub rounding : Rounding N l false σ s p n now
  pub progress : Progress N (limits_of l) (seconds p 0 n) (clear_tables σ) [] now
  pub among : Memᴰ x (seconds p 0 n)

-- .. of all tables
abbrev pub GoingIn : Config → Lent → (n : ℕ) → Sets → (i : ℕ) → Type 0
GoingIn k x n now i = Going k.fields k.limits (tables_in x) x.scratch.now x.pending.now n now i

pub record RoundsAsked (k : Config) (x : Lent) (n i : ℕ) : Type 0 where
  pub now : Sets
  pub going : GoingIn k x n now i

-- the rounds are `sets`, and f is the fewest hops of a string of i; the walk stands
pub record Ended (k : Config) (n i : ℕ) (sets : List Sets) (y : Lent) (f : Option ℕ) : Type 0 where
  pub walk : Walk k.fields k.limits (tables_in y) y.scratch.now y.pending.now n
  pub hops : f ≡ hops_of (fewest k.fields i 0 sets)
  pub few : length sets ≤ most_rounds k.fields (seconds y.pending.now 0 n)

-- the step o for the rounds has come to the answer r and the tables y
pub record RoundsAt (k : Config) (o : Step Tables (List Sets)) (n i : ℕ) (x : Lent) (r : Result (Option ℕ) Refusal) (y : Lent) : Type 0 where
  pub sets : List Sets
  pub post : GoesQuery k 0 0 clear_in (λ τ w. Unit) (λ f. sets) o x r y
  pub ended : IfOk r (λ f. Ended k n i sets y f)

pub record RoundsGive (k : Config) (n i : ℕ) (x : Lent) (r : Result (Option ℕ) Refusal) (y : Lent) : Type 0 where
  pub gives : (now : Sets) → GoingIn k x n now i → RoundsAt k (rounds k.fields (most_rounds k.fields (seconds x.pending.now 0 n)) (seconds x.pending.now 0 n) [] now) n i x r y

-- ---- from round 0 on

pub record AllAsked (k : Config) (x : Lent) (n i : ℕ) : Type 0 where
  pub walk : Walk k.fields k.limits (tables_in x) x.scratch.now x.pending.now n
  pub among : Memᴰ i (seconds x.pending.now 0 n)

abbrev pub all_rounds : ℕ → List ℕ → Step Tables (List Sets)
all_rounds N ss σ = after (round_zero N ss σ) (rounds N (most_rounds N ss) ss [])

abbrev pub AllAt : Config → (n i : ℕ) → Lent → Result (Option ℕ) Refusal → Lent → Type 0
AllAt k n i x r y = RoundsAt k (all_rounds k.fields (seconds x.pending.now 0 n)) n i x r y
