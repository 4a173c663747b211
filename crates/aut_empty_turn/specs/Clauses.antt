-- 01, `is_empty` (a pair is taken, and only what was not seen before goes on): what a turn in code asks and promises.
use Rattle.std.specs.Prelude.{◌≡◌, List, ℕ, ◌+◌, ◌*◌, ◌-◌, ◌/◌, ◌<◌, length, get_or, set, Option, Result, IfOk}
use Rattle.refusal.specs.declared.Refusal.{Refusal}
use Rattle.netkat_steps.specs.Handles as Handles
use Rattle.aut_query_stage.specs.Lent.{GoesQuery}
use Rattle.aut_states.specs.declared.Config.{Config}
use Rattle.aut_relations.specs.declared.Aut.{Aut as Lent}
use Rattle.aut_query_calls.specs.Working.{clear_in}
use Rattle.aut_empty_words.specs.Words.{entry_at, entries_of, seen_in}
use Rattle.aut_empty_pair.specs.Clauses.{TurnedTo}
pub use Rattle.aut_empty_pair.specs.Clauses.{search_in, Over, SeekingIn, turn_of}

-- the words of entry k have been read, and are 0
pub record Takes (p : List ℕ) (k i h : ℕ) (p' : List ℕ) : Type 0 where
  pub state : i ≡ get_or p (2 * k) 0
  pub packets : h ≡ get_or p (2 * k + 1) 0
  pub left : p' ≡ set (set p (2 * k) 0) (2 * k + 1) 0

pub record TurnAsked (k : Config) (x : Lent) (n : ℕ) : Type 0 where
  pub search : SeekingIn k x n
  pub some : 0 < n

pub record Turns (k : Config) (n : ℕ) (x : Lent) (r : Result (Option ℕ) Refusal) (y : Lent) : Type 0 where
  pub post : GoesQuery k 0 1088 clear_in (λ τ v. Unit) (turn_of k (length x.pending.now / 2) y.states.words.now y.pending.now)
      (Handles.turn (search_in k x) (entry_at x.pending.now (n - 1)) (entries_of x.pending.now (n - 1)) (seen_in k.fields x.states.words.now)) x r y
  pub held : IfOk r (TurnedTo k (n - 1) y)
