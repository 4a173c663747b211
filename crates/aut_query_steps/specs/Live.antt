-- 01, "Strings": live: the start packets of a state's strings; "Lent tables": state word 7 is live + 1, 0 while not worked out; the pending table holds `states` and then `todo`, one entry a member.
-- aut.rs's `live_packets` as a step in the Rust's order. A set that is kept for the state is given at once; those of other states are worked out again from nothing.
use Rattle.std.specs.Prelude.{List, [], ◌∷◌, ◌++◌, reverse, ℕ, zero, suc, ◌+◌, ◌*◌, ◌-◌, ◌^◌, eqb, ltb, length, if◌then◌else◌}
use Rattle.common.specs.Packets.{any}
use Rattle.common.specs.Outcome.{refused, given, Step, return, ◌>>=◌}
use Rattle.common.specs.Runs.{Table}
use Rattle.netkat_steps.specs.ListSteps.{Edge}
use Rattle.sp_steps.specs.Model as Sp
use Rattle.spp_steps.specs.ImageModel as Images
use Rattle.aut_steps.specs.Tables.{Limits, put_states}
use Rattle.aut_delta_steps.specs.Epsilon.{set_word, epsilon}
use Rattle.aut_delta_steps.specs.Delta.{store, on_aut, list_at, delta}
use Rattle.aut_query_steps.specs.Tables.{Tables, on_sets, on_base, put_base, making_sets, live_of}
use Rattle.aut_query_steps.specs.Search.{capacity}

-- the live sets under work, with h for s
abbrev pub live_at : ℕ → ℕ → (ℕ → ℕ) → ℕ → ℕ
live_at s h live t = if eqb s t then h else live t

-- ---- the states reached, breadth first

-- the states in the order of their visits, and the starts of their strings without hops
pub record Found : Type 0 where
  pub states : List ℕ
  pub live : ℕ → ℕ

abbrev pub found : List ℕ → (ℕ → ℕ) → Found
found ss live = record { states = ss; live = live }

-- the starts of a visited state's strings without hops, and the states that wait then
pub record Visit : Type 0 where
  pub ends : ℕ
  pub waiting : List ℕ

-- The targets of a list that are not yet among the states go behind them, each one entry (24). `visited` are the states that have been visited, `waiting` those that have not.
unfoldable pub enqueue : (room : ℕ) → List Edge → (visited waiting : List ℕ) → Step Tables (List ℕ)
enqueue room [] visited waiting = return waiting
enqueue room (e ∷ es) visited waiting =
    if any (eqb e.target) (visited ++ waiting) then enqueue room es visited waiting
    else if ltb (length (visited ++ waiting)) room then enqueue room es visited (waiting ++ e.target ∷ [])
    else (λ σ. refused 24)

-- ---- the work list

-- `todo`, the state to be taken next first, and the live sets so far
pub record Work : Type 0 where
  pub todo : List ℕ
  pub live : ℕ → ℕ

abbrev pub work : List ℕ → (ℕ → ℕ) → Work
work ts live = record { todo = ts; live = live }

-- the next one, if there is one
abbrev pub taking : {A : Type 0} → List ℕ → A → (ℕ → List ℕ → A) → A
taking [] end next = end
taking (t ∷ rest) end next = next t rest

-- the label of a list's transition to t
pub data Label : Type 0 where
  by : ℕ → Label
  none : Label

unfoldable pub label_to : ℕ → List Edge → Label
label_to t [] = none
label_to t (e ∷ es) = if eqb t e.target then by e.label else label_to t es

-- Where the set of s grew, s is looked at again, one entry more (24).
unfoldable pub enlarge : (room s combined : ℕ) → Work → Step Tables Work
enlarge room s combined w =
    if eqb combined (w.live s) then return w
    else if ltb (length w.todo) room then return (work (s ∷ w.todo) (live_at s combined w.live))
    else (λ σ. refused 24)

-- words 7 of the states reached are written
unfoldable pub keep_in : List ℕ → (ℕ → ℕ) → Table → Table
keep_in [] live s = s
keep_in (x ∷ xs) live s = keep_in xs live (set_word x 7 (live x + 1) s)

abbrev pub keep_lives : List ℕ → (ℕ → ℕ) → Tables → Tables
keep_lives xs live σ = put_base (store (put_states (keep_in xs live σ.base.aut.states) σ.base.aut) σ.base.transitions) σ

-- the epsilon of a visited state, which is kept
abbrev pub asks : ℕ → ℕ → Step Tables ℕ
asks N s = on_base (on_aut (epsilon N s))

module _ (N : ℕ) (L : Limits) (lent : ℕ) where
  -- Per state: epsilon (21), bwd (20), delta, then its targets (24).
  abbrev pub visit : (s : ℕ) → (visited waiting : List ℕ) → Step Tables Visit
  visit s visited waiting = do
    e ← asks N s
    ends ← making_sets (Images.bwd N e)
    list ← on_base (delta N L s)
    waiting' ← enqueue (capacity lent) list (visited ++ s ∷ []) waiting
    return (record { ends = ends; waiting = waiting' })

  -- at most `most` visits: there are no more states than entries
  unfoldable pub explore : (most : ℕ) → (visited waiting : List ℕ) → (ℕ → ℕ) → Step Tables Found
  explore zero visited waiting live = return (found visited live)
  explore (suc most) visited [] live = return (found visited live)
  explore (suc most) visited (s ∷ waiting) live = visit s visited waiting >>= λ v. explore most (visited ++ s ∷ []) v.waiting (live_at s v.ends live)

  -- The source s leads to the target t by the label l: pull (20), union (20).
  unfoldable pub pull_back : (t s l : ℕ) → Work → Step Tables Work
  pull_back t s l w = do
    accepted ← making_sets (Images.pull N N l (w.live t))
    combined ← on_sets (Sp.union N (w.live s) accepted)
    enlarge (capacity lent) s combined w

  -- a state as a predecessor of t, if its list leads there
  unfoldable pub pull_from : (t s : ℕ) → Work → Step Tables Work
  pull_from t s w σ = elim (label_to t (list_at σ.base s)) [ by l ↦ pull_back t s l w σ | none ↦ given σ w ]

  -- the predecessors of t, in the order in which they were found: that of the visits
  unfoldable pub pull_all : (t : ℕ) → List ℕ → Work → Step Tables Work
  pull_all t [] w = return w
  pull_all t (s ∷ ss) w = pull_from t s w >>= pull_all t ss

  -- at most `most` states are taken from the list
  unfoldable pub settle : (most : ℕ) → List ℕ → Work → Step Tables (ℕ → ℕ)
  settle zero states w = return w.live
  settle (suc most) states w = taking w.todo (return w.live) (λ t rest. pull_all t states (work rest w.live) >>= settle most states)

  -- each state is taken once, and once more for each packet that a set grew by
  abbrev pub takes : List ℕ → ℕ
  takes states = length states + length states * 2 ^ N

  -- from the last state on
  abbrev pub settled : Found → Step Tables (ℕ → ℕ)
  settled f = settle (takes f.states) f.states (work (reverse f.states) f.live)

  -- as with no set stored: the states reached, with their live sets
  unfoldable pub live_sets : ℕ → Step Tables Found
  live_sets x =
      if ltb 0 (capacity lent)
      then (explore (capacity lent) [] (x ∷ []) (λ t. Sp.zero_at N) >>= λ f. settled f >>= λ live. return (found f.states live))
      else (λ σ. refused 24)

  -- these are kept
  unfoldable pub live_anew : ℕ → Step Tables ℕ
  live_anew x = live_sets x >>= λ f σ. given (keep_lives f.states f.live σ) (f.live x)

  unfoldable pub live_packets : ℕ → Step Tables ℕ
  live_packets x σ =
      let v : ℕ = live_of σ.base.aut.states.words x in
      if ltb 0 v then given σ (v - 1) else live_anew x σ
