-- 01, "The book and its answers": the plain search of demand 3. It is fed the state, B, and each state's epsilon and transition list with its
-- targets' numbers: epsilon is asked for first, and the list only where epsilon did not end the search. It works on sets of packets.
use Rattle.std.specs.Prelude.{not, List, [], ◌∷◌, length, eqb, ℕ, zero, suc, max, if◌then◌else◌}
use Rattle.common.specs.Packets.{Set, Relation, any, all, nothing, ◌∖◌, ◌∪◌, inhabited, image, relates}
use Rattle.common.specs.Outcome.{Step, return, ◌>>=◌}
use Rattle.netkat.specs.Lists.{State, Transition}

-- Where the search asks. To work out a state's epsilon or its list may make new states in the store, and may be refused. The list is walked by
-- ascending target: a lawful automaton gives it so (`DeltaOf` in Promise.antt).
pub record Automaton (n : ℕ) : Type 1 where
  pub Store : Type 0
  pub epsilon : State → Step Store (Relation n)
  pub delta : State → Step Store (List (Transition State n))

-- A pair is a (state, packet set) taken from the pending list.
pub record Pair (n : ℕ) : Type 0 where
  pub state : State
  pub packets : Set n

-- It keeps a pending list, the packets seen at each state, and a count. S counts an expanded state once; T is the length of the longest list
-- walked, 0 if none.
pub record Log (n : ℕ) : Type 0 where
  pub seen : State → Set n  -- the packets seen at each state
  pub count : ℕ  -- the pairs taken
  pub expanded : List State  -- the states expanded: S is its length
  pub longest : ℕ  -- T

pub data Verdict : Type 0 where
  yes no spent : Verdict

-- One pair taken: the search goes on with a pending list, or has found a string.
pub data Turn (n : ℕ) : Type 0 where
  goes : List (Pair n) → Log n → Turn n
  found : Log n → Turn n

-- a state put among those expanded, unless it is there
abbrev pub noted : State → List State → List State
noted s done = if any (eqb s) done then done else (s ∷ done)

module _ {n : ℕ} where
  -- `seen` with the packets x at the state s
  abbrev pub seen_at : State → Set n → (State → Set n) → State → Set n
  seen_at s x seen t = if eqb s t then x else seen t

  -- `is_empty` decides which end of the pending list gives and gets (the last in is the first out: here the head), and which results are left
  -- off (the empty ones).
  abbrev pub put : State → Set n → List (Pair n) → List (Pair n)
  put s x pending = if inhabited x then (record { state = s; packets = x } ∷ pending) else pending

  -- The list is walked, each transition putting at most one pair pending: its target, and the packets its label leads to (from the fresh ones,
  -- as `is_empty` decides).
  unfoldable pub walk : Set n → List (Transition State n) → List (Pair n) → List (Pair n)
  walk fresh [] pending = pending
  walk fresh (t ∷ ts) pending = walk fresh ts (put t.target (image fresh t.label) pending)

  -- the pair's packets that are not yet seen at its state
  abbrev pub fresh_of : Pair n → Log n → Set n
  fresh_of pair log = pair.packets ∖ log.seen pair.state

  abbrev pub skip : Log n → Log n
  skip log = record { seen = log.seen; count = suc log.count; expanded = log.expanded; longest = log.longest }

  abbrev pub expand : State → Set n → Log n → Log n
  expand s fresh log = record {
    seen = seen_at s (log.seen s ∪ fresh) log.seen;
    count = suc log.count;
    expanded = noted s log.expanded;
    longest = log.longest;
  }

  abbrev pub walked : List (Transition State n) → Log n → Log n
  walked list log = record { seen = log.seen; count = log.count; expanded = log.expanded; longest = max log.longest (length list) }

  -- It starts with one pair pending (the state, all packets), none seen, count 0.
  abbrev pub first : State → List (Pair n)
  first s = record { state = s; packets = all } ∷ []

  abbrev pub start : Log n
  start = record { seen = λ s. nothing; count = 0; expanded = []; longest = 0 }

  module _ (𝓐 : Automaton n) where
    open 𝓐 use {Store, epsilon, delta}

    -- A pair is taken, and `rest` stays pending. If all its packets are already seen at its state, it is skipped. Else the state is expanded:
    -- they become seen there; if the state's epsilon relates a fresh one to any packet, the search ends in `no`; else the list is walked.
    -- A refusal that the steps meet ends it without an answer.
    unfoldable pub turn : Pair n → List (Pair n) → Log n → Step Store (Turn n)
    turn pair rest log =
        let s = pair.state in
        let fresh = fresh_of pair log in
        if not (inhabited fresh) then return (goes rest (skip log)) else do
          e ← epsilon s
          if relates e fresh then return (found (expand s fresh log)) else do
            list ← delta s
            return (goes (walk fresh list rest) (walked list (expand s fresh log)))

    abbrev pub onward : (List (Pair n) → Log n → Step Store (Verdict × Log n)) → Turn n → Step Store (Verdict × Log n)
    onward go (goes pending log) = go pending log
    onward go (found log) = return (no, log)

    -- A step: with nothing pending it ends in `yes`, "empty"; else with count B, so that nothing is left of the budget, in `spent`; else it
    -- takes a pair and adds 1 to the count.
    unfoldable pub run : ℕ → List (Pair n) → Log n → Step Store (Verdict × Log n)
    run zero [] log = return (yes, log)
    run zero (pair ∷ rest) log = return (spent, log)
    run (suc left) [] log = return (yes, log)
    run (suc left) (pair ∷ rest) log = turn pair rest log >>= onward (run left)

    unfoldable pub search : ℕ → State → Step Store (Verdict × Log n)
    search budget s = run budget (first s) start
