-- 02 (i): "states in `states` order get the starts of strings with at most k hops: `bwd` of epsilon, joined by ascending target with `pull` of the k - 1 sets": what a round in code asks and promises.
use Rattle.std.specs.Prelude.{◌≡◌, ◌≢◌, Bool, true, false, ℕ, ◌+◌, ◌*◌, ◌-◌, ◌<◌, length, get_or, Option, Some, None, Result}
use mathlib.Core.List.{List, Memᴰ}
use Rattle.std.proofs.Math.Option.{Option as Fewest, none, some}
use Rattle.common.specs.Outcome.{Step, ◌>>=◌}
use Rattle.refusal.specs.declared.Refusal.{Refusal}
use Rattle.sp_steps.specs.Model as Sp
use Rattle.sp_steps.specs.Wf as SpLaws
use Rattle.sp.specs.declared.SP.{SP}
use Rattle.spp_steps.specs.Wf.{ValidAt}
use Rattle.spp_steps.specs.ImageModel as Images
use Rattle.aut_delta_steps.specs.Delta.{list_at}
use Rattle.aut_query_steps.specs.Tables.{Tables, on_sets, making_sets}
use Rattle.aut_query_steps.specs.Explored.{Linked}
use Rattle.aut_why_steps.specs.Why.{Sets, ends, joins, turn, each}
use Rattle.aut_query_stage.specs.Lent.{tables_in, GoesQuery}
use Rattle.aut_states.specs.declared.Config.{Config}
use Rattle.aut_states.specs.declared.Limits.{Limits}
use Rattle.aut_states.specs.declared.Members.{Members}
use Rattle.aut_relations.specs.declared.Aut.{Aut as Lent}
use Rattle.aut_relations.specs.Lent.{Unless}
use Rattle.aut_sets.specs.Lent.{sets_in}
use Rattle.aut_free.specs.Clear.{clear_tables}
use Rattle.aut_query_calls.specs.Working.{clear_in, with_members, Working}
use Rattle.aut_query_calls.specs.Working.{SetIn}
use Rattle.aut_live_words.specs.Work.{seconds}
use Rattle.aut_why_words.specs.Walk.{Walk, HasSets}

-- ---- the set of a state

-- a function does the step o, which gives a set, from the tables x: it has come to the answer r and the tables y
abbrev pub GivesSet : Config → Step Tables ℕ → Lent → Result SP Refusal → Lent → Type 0
GivesSet k o x r y = GoesQuery k 0 0 clear_in (SetIn k.fields) (λ h. h.0) o x r y

-- x has its list and its epsilon
pub record Visited (N : ℕ) (l : Limits) (σ : Tables) (s : List ℕ) (x : ℕ) : Type 0 where
  pub working : Working N l σ s
  pub all : List ℕ
  pub linked : Linked (clear_tables σ).base all x

-- .. of all tables
abbrev pub VisitedIn : Config → Lent → (i : ℕ) → Type 0
VisitedIn k x i = Visited k.fields k.limits (tables_in x) x.scratch.now i

-- no member is read: here and below, some members are asked for, and the promise is of any
pub record EndsAsked (k : Config) (x : Lent) (i : ℕ) : Type 0 where
  pub members : Members
  pub visited : VisitedIn k (with_members members x) i

pub record EndsGive (k : Config) (i : ℕ) (x : Lent) (r : Result SP Refusal) (y : Lent) : Type 0 where
  pub gives : (mem : Members) → VisitedIn k (with_members mem x) i → GivesSet k (ends k.fields i) (with_members mem x) r (with_members mem y)

-- what one transition leads back is joined to u
abbrev pub join_one : (N label ahead u : ℕ) → Step Tables ℕ
join_one N label ahead u = making_sets (Images.pull N N label ahead) >>= λ p. on_sets (Sp.union N u p)

-- a transition to y by `label`, of whose round before word 8 has the set; u is a set
pub record Joining (N : ℕ) (l : Limits) (σ : Tables) (s : List ℕ) (y label u : ℕ) : Type 0 where
  pub working : Working N l σ s
  pub there : 12 * y + 11 < length σ.base.aut.states.words
  pub some : 0 < get_or σ.base.aut.states.words (12 * y + 8) 0
  pub ahead : SpLaws.ValidAt σ.sets N (get_or σ.base.aut.states.words (12 * y + 8) 0 - 1)
  pub at_label : ValidAt σ.base.aut.nodes N label
  pub at : SpLaws.ValidAt σ.sets N u

-- .. of all tables
abbrev pub JoiningIn : Config → Lent → (y label u : ℕ) → Type 0
JoiningIn k x y label u = Joining k.fields k.limits (tables_in x) x.scratch.now y label u

pub record JoinAsked (k : Config) (x : Lent) (t label u : ℕ) : Type 0 where
  pub members : Members
  pub joining : JoiningIn k (with_members members x) t label u

pub record JoinGives (k : Config) (t label u : ℕ) (x : Lent) (r : Result SP Refusal) (y : Lent) : Type 0 where
  pub gives : (mem : Members) → JoiningIn k (with_members mem x) t label u
      → GivesSet k (join_one k.fields label (get_or x.states.words.now (12 * t + 8) 0 - 1) u) (with_members mem x) r (with_members mem y)

-- words 8 of the n states have the sets `before`; x is one of them
pub record Turning (N : ℕ) (l : Limits) (σ : Tables) (s p : List ℕ) (n : ℕ) (before : Sets) (x : ℕ) : Type 0 where
  pub walk : Walk N l σ s p n
  pub sets : HasSets 8 σ.base.aut.states.words p n before
  pub valid : (y : ℕ) → Memᴰ y (seconds p 0 n) → SpLaws.ValidAt σ.sets N (before y)
  pub among : Memᴰ x (seconds p 0 n)

-- .. of all tables, with the entries p
abbrev pub TurningIn : Config → Lent → List ℕ → (n : ℕ) → Sets → (i : ℕ) → Type 0
TurningIn k x p n before i = Turning k.fields k.limits (tables_in x) x.scratch.now p n before i

-- no entry is read either
pub record TurnAsked (k : Config) (x : Lent) (i : ℕ) : Type 0 where
  pub members : Members
  pub entries : List ℕ
  pub count : ℕ
  pub before : Sets
  pub turning : TurningIn k (with_members members x) entries count before i

pub record Turns (k : Config) (i : ℕ) (x : Lent) (r : Result SP Refusal) (y : Lent) : Type 0 where
  pub gives : (mem : Members) (p : List ℕ) (n : ℕ) (before : Sets) → TurningIn k (with_members mem x) p n before i → GivesSet k (turn k.fields before i) (with_members mem x) r (with_members mem y)

-- .. and u is a set, which each transition of i is joined to
pub record JoinsAsked (k : Config) (x : Lent) (i u : ℕ) : Type 0 where
  pub turn : TurnAsked k x i
  pub at : SpLaws.ValidAt (sets_in x) k.fields u

pub record Joins (k : Config) (i u : ℕ) (x : Lent) (r : Result SP Refusal) (y : Lent) : Type 0 where
  pub gives : (mem : Members) (p : List ℕ) (n : ℕ) (before : Sets) → TurningIn k (with_members mem x) p n before i → SpLaws.ValidAt (sets_in x) k.fields u
      → GivesSet k (joins k.fields (list_at (clear_in (with_members mem x)).base i) before u) (with_members mem x) r (with_members mem y)

-- ---- a round

-- the step for each state: in round 0 without hops, later from the sets before
abbrev pub step_of : ℕ → Bool → Sets → ℕ → Step Tables ℕ
step_of N true before = ends N
step_of N false before = turn N before

-- the sets that it begins with
abbrev pub start_of : ℕ → Bool → Sets → Sets
start_of N true before = λ t. Sp.zero_at N
start_of N false before = before

-- sets of these states
abbrev pub SetsOn : ℕ → List ℕ → Tables → Sets → Type 0
SetsOn N ss τ w = (y : ℕ) → Memᴰ y ss → SpLaws.ValidAt τ.sets N (w y)

-- words 8 have the sets of the round before, but in round 0
pub record Rounding (N : ℕ) (l : Limits) (first : Bool) (σ : Tables) (s p : List ℕ) (n : ℕ) (before : Sets) : Type 0 where
  pub walk : Walk N l σ s p n
  pub sets : first ≡ false → HasSets 8 σ.base.aut.states.words p n before
  pub valid : first ≡ false → SetsOn N (seconds p 0 n) σ before

-- .. of all tables
abbrev pub RoundingIn : Config → Bool → Lent → (n : ℕ) → Sets → Type 0
RoundingIn k first x n before = Rounding k.fields k.limits first (tables_in x) x.scratch.now x.pending.now n before

-- i is one of the states
pub record StepAsked (k : Config) (first : Bool) (x : Lent) (i : ℕ) : Type 0 where
  pub members : Members
  pub count : ℕ
  pub before : Sets
  pub rounding : RoundingIn k first (with_members members x) count before
  pub among : Memᴰ i (seconds x.pending.now 0 count)

pub record Stepped (k : Config) (first : Bool) (i : ℕ) (x : Lent) (r : Result SP Refusal) (y : Lent) : Type 0 where
  pub gives : (mem : Members) (n : ℕ) (before : Sets) → RoundingIn k first (with_members mem x) n before → Memᴰ i (seconds x.pending.now 0 n)
      → GivesSet k (step_of k.fields first before i) (with_members mem x) r (with_members mem y)

pub record RoundAsked (k : Config) (first : Bool) (x : Lent) (n : ℕ) : Type 0 where
  pub members : Members
  pub before : Sets
  pub rounding : RoundingIn k first (with_members members x) n before

abbrev pub round_of : ℕ → Bool → List ℕ → Sets → Step Tables Sets
round_of N first ss before = each (step_of N first before) ss (start_of N first before)

-- the sets `next` are in words 9; the other words are as they were
pub record Under (k : Config) (x y : Lent) (n : ℕ) (next : Sets) : Type 0 where
  pub walk : Walk k.fields k.limits (tables_in y) y.scratch.now y.pending.now n
  pub sets : HasSets 9 y.states.words.now y.pending.now n next
  pub others : (i w : ℕ) → w < 12 → w ≢ 9 → get_or y.states.words.now (12 * i + w) 0 ≡ get_or x.states.words.now (12 * i + w) 0

-- a round after `before` has come to the answer r and the tables y; unless refused, it has given `next`
pub record Rounded (k : Config) (first : Bool) (before : Sets) (n : ℕ) (x : Lent) (r : Result Unit Refusal) (y : Lent) : Type 0 where
  pub next : Sets
  pub post : GoesQuery k 0 0 clear_in (SetsOn k.fields (seconds x.pending.now 0 n)) (λ u. next) (round_of k.fields first (seconds x.pending.now 0 n) before) x r y
  pub under : Unless r (Under k x y n next)

pub record RoundGives (k : Config) (first : Bool) (n : ℕ) (x : Lent) (r : Result Unit Refusal) (y : Lent) : Type 0 where
  pub gives : (mem : Members) (before : Sets) → RoundingIn k first (with_members mem x) n before → Rounded k first before n (with_members mem x) r (with_members mem y)

-- ---- the fewest hops

-- as the code has it
abbrev pub hops_of : Fewest ℕ → Option ℕ
hops_of none = None
hops_of (some k) = Some k
