-- 01, "Lent tables" (the pending table): what the functions on single words and entries ask and promise while live sets are worked out.
use Rattle.std.specs.Prelude.{◌≡◌, List, ℕ, Option, Some, None, ◌+◌, ◌*◌, ◌-◌, ◌/◌, ◌≤◌, ◌<◌, length, get_or}
use Rattle.spp.specs.declared.SPP.{SPP}
use Rattle.aut_st_steps.specs.Edges.{edges}
use Rattle.aut_delta_steps.specs.Delta.{start_of, count_of}
use Rattle.aut_query_steps.specs.Search.{capacity}
use Rattle.aut_query_steps.specs.Live as M
use Rattle.aut_live_words.specs.Work.{work_of, seconds, Enqueues, clear_words, Cleared}

-- ---- the states reached

-- y is a state, and there are no more entries than the table has
pub record PreReach (N : ℕ) (st p : List ℕ) (n y : ℕ) : Type 0 where
  pub few : N ≤ 31
  pub state : 12 * y + 11 < length st
  pub fits : n ≤ length p / 2

-- x has a stored list, whose targets are states
pub record Listed (st tr : List ℕ) (x : ℕ) : Type 0 where
  pub state : 12 * x + 11 < length st
  pub some : 0 < count_of st x
  pub inside : 2 * (start_of st x + (count_of st x - 1)) ≤ length tr

pub record PreEnqueue (N : ℕ) (st tr p : List ℕ) (n x : ℕ) : Type 0 where
  pub few : N ≤ 31
  pub listed : Listed st tr x
  pub targets : (i : ℕ) → i < count_of st x - 1 → 12 * get_or tr (2 * (start_of st x + i)) 0 + 11 < length st
  pub fits : n ≤ length p / 2

abbrev pub PostEnqueue : (N n x : ℕ) → Option ℕ → (st tr p st' p' : List ℕ) → Type 0
PostEnqueue N n x r st tr p st' p' = Enqueues N (capacity (length p / 2)) (edges tr (start_of st x) (count_of st x - 1)) n st p r st' p'

-- ---- the work list

abbrev pub PreLabel : List ℕ → List ℕ → ℕ → Type 0
PreLabel st tr s = Listed st tr s

abbrev pub label_of : Option SPP → M.Label
label_of (Some h) = M.by h.0
label_of None = M.none

abbrev pub PostLabel : (st tr : List ℕ) → (t s : ℕ) → Option SPP → Type 0
PostLabel st tr t s r = M.label_to t (edges tr (start_of st s) (count_of st s - 1)) ≡ label_of r

-- s is a state that is reached; a set's handle + 1 is a word
pub record PreEnlarge (st p : List ℕ) (m s h : ℕ) : Type 0 where
  pub state : 12 * s + 11 < length st
  pub reached : 0 < work_of st s
  pub small : h + 1 < 4294967296
  pub fits : m ≤ length p / 2

-- ---- live sets

-- the second words of n entries are states
pub record PreKeep (st p : List ℕ) (n : ℕ) : Type 0 where
  pub fits : n ≤ length p / 2
  pub states : (i : ℕ) → i < n → 12 * get_or p (2 * i + 1) 0 + 11 < length st

pub record PreCopy (st p : List ℕ) (n a b : ℕ) : Type 0 where
  pub states : PreKeep st p n
  pub from : a < 12
  pub to : b < 12

pub record PostClear (n : ℕ) (st p st' p' : List ℕ) : Type 0 where
  pub is : st' ≡ clear_words (seconds p 0 n) st
  pub pending : Cleared n p p'
