-- 02 (i), "Picking makes no nodes": an earlier round is worked out again from the tables as they stand. What is asked and what is promised.
use Rattle.std.specs.Prelude.{◌≡◌, ℕ, ◌+◌, ◌≤◌, ◌<◌, length}
use mathlib.Core.List.{List, Memᴰ}
use Rattle.aut_query_steps.specs.Tables.{Tables}
use Rattle.aut_query_stage.specs.Lent.{tables_in, Leaves}
use Rattle.aut_states.specs.declared.Config.{Config}
use Rattle.aut_states.specs.declared.Limits.{Limits}
use Rattle.aut_states.specs.declared.Members.{Members}
use Rattle.aut_relations.specs.declared.Aut.{Aut as Lent}
use Rattle.aut_free.specs.Clear.{clear_tables}
use Rattle.aut_live_words.specs.Work.{seconds}
use Rattle.aut_why_steps.specs.Why.{Sets, round_at}
use Rattle.aut_why_words.specs.Walk.{HasSets, Standing}
use Rattle.aut_query_calls.specs.Working.{words_in, with_words, with_members}
use Rattle.aut_why_marks.specs.Columns.{Fills}
use Rattle.aut_why_again.specs.Redone.{Free, Unkept, Redone, Worked, AtRound, OnRound}

-- ---- one state

-- this is round k, and it is not the last
pub record Onward (N : ℕ) (l : Limits) (σ : Tables) (s p : List ℕ) (n : ℕ) (ws : List Sets) (k : ℕ) : Type 0 where
  pub on : OnRound N l σ s p n ws k
  pub more : k + 1 < length ws

-- .. of all tables that are lent
abbrev pub OnwardIn : Config → Lent → (n : ℕ) → List Sets → (k : ℕ) → Type 0
OnwardIn g x n ws k = Onward g.fields g.limits (tables_in x) x.scratch.now x.pending.now n ws k

-- no member is read: here and below, some members are asked for, and the promise is of any
pub record PreTurnAgain (g : Config) (x : Lent) (i : ℕ) : Type 0 where
  pub members : Members
  pub count : ℕ
  pub rounds : List Sets
  pub round : ℕ
  pub turning : OnwardIn g (with_members members x) count rounds round
  pub among : Memᴰ i (seconds x.pending.now 0 count)

abbrev pub PostTurnAgain : Config → (i : ℕ) → (x y : Lent) → Type 0
PostTurnAgain g i x y = (mem : Members) (n : ℕ) (ws : List Sets) (k : ℕ) → OnwardIn g (with_members mem x) n ws k → Memᴰ i (seconds x.pending.now 0 n)
    → Worked g.fields 9 i (round_at g.fields ws (k + 1) i) (tables_in (with_members mem x)) (tables_in (with_members mem y)) x.scratch.now y.scratch.now

-- ---- a round

abbrev pub StandingIn : Config → Lent → (n : ℕ) → List Sets → Type 0
StandingIn g x n ws = Standing g.fields g.limits (tables_in x) x.scratch.now x.pending.now n ws

-- round 0
pub record PreStart (g : Config) (x : Lent) (n : ℕ) : Type 0 where
  pub members : Members
  pub rounds : List Sets
  pub standing : StandingIn g (with_members members x) n rounds

pub record Started (N : ℕ) (W : ℕ → Type 0) (p : List ℕ) (n : ℕ) (ws : List Sets) (k : ℕ) (σ τ : Tables) (s s' : List ℕ) : Type 0 where
  pub redone : Redone N W (seconds p 0 n) σ τ s s'
  pub here : AtRound N (words_in τ) p n ws k

-- words 8 have round k, and words 10 are as they were
abbrev pub StartedIn : Config → (n : ℕ) → List Sets → (k : ℕ) → (x y : Lent) → Type 0
StartedIn g n ws k x y = Started g.fields Unkept x.pending.now n ws k (tables_in x) (tables_in y) x.scratch.now y.scratch.now

abbrev pub PostStart : Config → (n : ℕ) → (x y : Lent) → Type 0
PostStart g n x y = (mem : Members) (ws : List Sets) → StandingIn g (with_members mem x) n ws → StartedIn g n ws 0 (with_members mem x) (with_members mem y)

-- the round after round k, in words 9
pub record PreTurns (g : Config) (x : Lent) (n : ℕ) : Type 0 where
  pub members : Members
  pub rounds : List Sets
  pub round : ℕ
  pub turning : OnwardIn g (with_members members x) n rounds round

pub record Turned (N : ℕ) (p : List ℕ) (n : ℕ) (next : Sets) (σ τ : Tables) (s s' : List ℕ) : Type 0 where
  pub tables : τ ≡ with_words (words_in τ) σ
  pub fills : Fills 9 (λ x. next x + 1) (seconds p 0 n) (words_in σ) (words_in τ)
  pub frame : Leaves N 0 0 (clear_tables σ) s s'
  pub len : length s' ≡ length s

abbrev pub PostTurns : Config → (n : ℕ) → (x y : Lent) → Type 0
PostTurns g n x y = (mem : Members) (ws : List Sets) (k : ℕ) → OnwardIn g (with_members mem x) n ws k
    → Turned g.fields x.pending.now n (round_at g.fields ws (k + 1)) (tables_in (with_members mem x)) (tables_in (with_members mem y)) x.scratch.now y.scratch.now

-- ---- from a round to a later one

pub record Ahead (N : ℕ) (l : Limits) (σ : Tables) (s p : List ℕ) (n : ℕ) (ws : List Sets) (from to : ℕ) : Type 0 where
  pub on : OnRound N l σ s p n ws from
  pub later : from ≤ to
  pub has : to < length ws

abbrev pub AheadIn : Config → Lent → (n : ℕ) → List Sets → (from to : ℕ) → Type 0
AheadIn g x n ws from to = Ahead g.fields g.limits (tables_in x) x.scratch.now x.pending.now n ws from to

pub record PreForward (g : Config) (x : Lent) (n from to : ℕ) : Type 0 where
  pub members : Members
  pub rounds : List Sets
  pub ahead : AheadIn g (with_members members x) n rounds from to

abbrev pub PostForward : Config → (n from to : ℕ) → (x y : Lent) → Type 0
PostForward g n from to x y = (mem : Members) (ws : List Sets) → AheadIn g (with_members mem x) n ws from to → StartedIn g n ws to (with_members mem x) (with_members mem y)

-- ---- a round to go on from

-- words 8 and words 10 have round k
pub record Kept (N : ℕ) (p : List ℕ) (n : ℕ) (ws : List Sets) (k : ℕ) (σ τ : Tables) (s s' : List ℕ) : Type 0 where
  pub started : Started N Free p n ws k σ τ s s'
  pub marked : HasSets 10 (words_in τ) p n (round_at N ws k)

pub record HasRound (N : ℕ) (l : Limits) (σ : Tables) (s p : List ℕ) (n : ℕ) (ws : List Sets) (k : ℕ) : Type 0 where
  pub standing : Standing N l σ s p n ws
  pub has : k < length ws

abbrev pub HasRoundIn : Config → Lent → (n : ℕ) → List Sets → (k : ℕ) → Type 0
HasRoundIn g x n ws k = HasRound g.fields g.limits (tables_in x) x.scratch.now x.pending.now n ws k

pub record PreRemake (g : Config) (x : Lent) (n k : ℕ) : Type 0 where
  pub members : Members
  pub rounds : List Sets
  pub has : HasRoundIn g (with_members members x) n rounds k

abbrev pub PostRemake : Config → (n k : ℕ) → (x y : Lent) → Type 0
PostRemake g n k x y = (mem : Members) (ws : List Sets) → HasRoundIn g (with_members mem x) n ws k
    → Kept g.fields x.pending.now n ws k (tables_in (with_members mem x)) (tables_in (with_members mem y)) x.scratch.now y.scratch.now

-- ---- the sets of round j, from a round that is kept

-- Round j is one of the rounds ws that stand; words 10 have round `mark`, unless that is a later one.
pub record Earlier (N : ℕ) (l : Limits) (σ : Tables) (s p : List ℕ) (n : ℕ) (ws : List Sets) (j mark : ℕ) : Type 0 where
  pub standing : Standing N l σ s p n ws
  pub has : j < length ws
  pub marked : mark ≤ j → HasSets 10 (words_in σ) p n (round_at N ws mark)

abbrev pub EarlierIn : Config → Lent → (n : ℕ) → List Sets → (j mark : ℕ) → Type 0
EarlierIn g x n ws j mark = Earlier g.fields g.limits (tables_in x) x.scratch.now x.pending.now n ws j mark

pub record PreSetsFor (g : Config) (x : Lent) (n j mark : ℕ) : Type 0 where
  pub members : Members
  pub rounds : List Sets
  pub earlier : EarlierIn g (with_members members x) n rounds j mark

pub record FromMark (N : ℕ) (p : List ℕ) (n : ℕ) (ws : List Sets) (j r : ℕ) (σ τ : Tables) (s s' : List ℕ) : Type 0 where
  pub low : r ≤ j
  pub kept : Kept N p n ws r σ τ s s'

abbrev pub PostFromMark : Config → (n j mark : ℕ) → (x : Lent) → (r : ℕ) → (y : Lent) → Type 0
PostFromMark g n j mark x r y = (mem : Members) (ws : List Sets) → EarlierIn g (with_members mem x) n ws j mark
    → FromMark g.fields x.pending.now n ws j r (tables_in (with_members mem x)) (tables_in (with_members mem y)) x.scratch.now y.scratch.now

-- words 8 have round j, words 10 a round up to j; no node is made, and of the tables only words 8 to 11 of states are written
pub record SetsFor (N : ℕ) (l : Limits) (p : List ℕ) (n : ℕ) (ws : List Sets) (j r : ℕ) (σ τ : Tables) (s s' : List ℕ) : Type 0 where
  pub tables : clear_tables τ ≡ clear_tables σ
  pub standing : Standing N l τ s' p n ws
  pub round : HasSets 8 (words_in τ) p n (round_at N ws j)
  pub low : r ≤ j
  pub marked : HasSets 10 (words_in τ) p n (round_at N ws r)
  pub frame : Leaves N 0 0 (clear_tables σ) s s'
  pub len : length s' ≡ length s

abbrev pub PostSetsFor : Config → (n j mark : ℕ) → (x : Lent) → (r : ℕ) → (y : Lent) → Type 0
PostSetsFor g n j mark x r y = (mem : Members) (ws : List Sets) → EarlierIn g (with_members mem x) n ws j mark
    → SetsFor g.fields g.limits x.pending.now n ws j r (tables_in (with_members mem x)) (tables_in (with_members mem y)) x.scratch.now y.scratch.now
