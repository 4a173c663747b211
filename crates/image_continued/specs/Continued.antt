-- 02 (ii): "A book continued after a read gets every answer that the uninterrupted run gave, .. unless working out live sets again makes it meet 20 or 24." Here with the same lent lengths. What the places of the two runs have in common,
-- line by line; what a line comes to in both; and what the rest of the text comes to. A place that is read from an own image is the place of the save without what was worked out (image_steps/specs/Claims: stripped).
-- Definitions and statements only.
use Rattle.std.specs.Prelude.{◌≡◌, ◌⊎◌, Bool, true, false, ◌&&◌, not, List, [], ◌++◌, ℕ, suc, ◌-◌, ◌<◌, ltb, length}
use Rattle.std.proofs.Math.Option.{Option, none, some}
use Rattle.common.specs.Outcome.{given}
use Rattle.netkat.specs.Rules.{Rule}
use Rattle.aut_steps.specs.Tables.{limits01}
use Rattle.book_construct_steps.specs.Lines.{Line}
use Rattle.aut_delta_steps.specs.Epsilon.{epsilon_of}
use Rattle.aut_delta_steps.specs.Delta.{count_of, list_at}
use Rattle.aut_query_steps.specs.Tables.{live_of}
use Rattle.aut_replay.specs.Replay.{SettledLists}
use Rattle.book_steps.specs.Text.{line, cut, words}
use Rattle.book_steps.specs.Reader.{Header, Query, empty, live, pruned, why, Instruction, parse, Resolved, makes, asks, refuses, resolve}
use Rattle.book_steps.specs.Demands.{InOrder}
use Rattle.book_steps.specs.Run.{Lent, Setting, RunState, step, Ran, answered, stopped, run, instructions, begin, setting_of}
use Rattle.image_steps.specs.Read.{read}
use Rattle.book_steps.specs.Run.{came, came_of, ran_book}
use Rattle.image_steps.specs.Calls.{ran_on}
use Rattle.image_steps.specs.Claims.{setting_at, stripped}
use Rattle.image_continued.specs.Records.{SameRecords}
use Rattle.image_continued.specs.Follow.{Follows, Never}
use Rattle.image_continued.specs.Mode.{Mode, beside, whole, InStep, Whole, Allowed}

-- word 7 of a state: its live set + 1, or 0
abbrev pub live_at : RunState → ℕ → ℕ
live_at p x = live_of p.tables.base.aut.states.words x

-- ---- working out live sets again

-- a query of a state whose live set is v - 1 in the uninterrupted run, v' - 1 in the continued one: the second works out what the first has stored (`why` works out all in both)
abbrev pub reworks_query : Query → (v v' : ℕ) → Bool
reworks_query empty v v' = false
reworks_query live v v' = ltb 0 v && not (ltb 0 v')
reworks_query pruned v v' = ltb 0 v && not (ltb 0 v')
reworks_query why v v' = false

abbrev pub reworks_resolved : Resolved ℕ → RunState → RunState → Bool
reworks_resolved (makes l) p q = false
reworks_resolved (asks k a x) p q = reworks_query k (live_at p x) (live_at q x)
reworks_resolved (refuses number) p q = false

module _ (S : Setting) where
  abbrev pub reworks : Option Instruction → RunState → RunState → Bool
  reworks none p q = false
  reworks (some s) p q = reworks_resolved (resolve S.fields p.lines s) p q

  -- a line of the text does so, where the two runs have come to it
  pub data WorksAgain : (left : ℕ) → List ℕ → RunState → RunState → Type 0 where
    here : {left : ℕ} {text l rest : List ℕ} {p q : RunState} → cut text ≡ line l rest → reworks (parse (words l)) p q ≡ true → WorksAgain (suc left) text p q
    later : {left : ℕ} {text l rest : List ℕ} {p q p' q' : RunState} {x y : ℕ} → cut text ≡ line l rest → step S (parse (words l)) p ≡ given p' x → step S (parse (words l)) q ≡ given q' y
        → WorksAgain left rest p' q' → WorksAgain (suc left) text p q

  -- what a run has printed
  abbrev pub output_of : Ran S → List ℕ
  output_of (answered p) = p.output
  output_of (stopped number at output) = output

  module _ (lent : Lent) where
    -- ---- places

    -- a place of a run: in order, and what is stored was worked out from what is stored for its operands
    pub record Standing (p : RunState) (R : List (Option (Rule S.fields))) : Type 0 where
      pub in_order : InOrder S lent p R
      pub settled : SettledLists S.fields S.limits p.tables.base

    -- p of the uninterrupted run, q of the continued one: the same lines and rules, relation nodes, members and states by words 0 to 3. Whatever is stored in q is stored in p, the same. What p had printed at the cut is `before`.
    pub record Continues (mode : Mode) (before : List ℕ) (p q : RunState) : Type 0 where
      pub rules : List (Option (Rule S.fields))
      pub left : Standing p rules
      pub right : Standing q rules
      pub lines : p.lines ≡ q.lines
      pub output : p.output ≡ before ++ q.output
      pub records : SameRecords p.tables.base.aut q.tables.base.aut
      pub epsilons : (x : ℕ) → 0 < epsilon_of q.tables.base.aut.states.words x → epsilon_of p.tables.base.aut.states.words x ≡ epsilon_of q.tables.base.aut.states.words x
      pub lists : (x : ℕ) → 0 < count_of q.tables.base.aut.states.words x → (0 < count_of p.tables.base.aut.states.words x) × (list_at p.tables.base x ≡ list_at q.tables.base x)
      pub lives : (x : ℕ) → 0 < live_at q x → 0 < live_at p x
      pub sets : InStep mode → p.tables.sets ≡ q.tables.sets
      pub same_lives : InStep mode → (x : ℕ) → 0 < live_at q x → live_at p x ≡ live_at q x
      pub all_lives : Whole mode → (x : ℕ) → 0 < live_at p x → 0 < live_at q x

    -- ---- a line

    -- Where it is answered in p it is answered in q, and they go on so; or q meets 20 or 24. While packet nodes go in step, and if it works out no live set again, it meets neither.
    abbrev pub LineContinued : Type 0
    LineContinued = (mode : Mode) (before : List ℕ) (p q : RunState) → Continues mode before p q → (i : Option Instruction) → (InStep mode → reworks i p q ≡ false)
        → Follows (Allowed mode) (λ p' q' x y. (x ≡ y) × Continues mode before p' q') (step S i p) (step S i q)

    -- a constructor line: with no exception
    abbrev pub ConstructorContinued : Type 0
    ConstructorContinued = (mode : Mode) (before : List ℕ) (p q : RunState) → Continues mode before p q → (s : Instruction) (l : Line ℕ) → resolve S.fields p.lines s ≡ makes l
        → Follows Never (λ p' q' x y. (x ≡ y) × Continues mode before p' q') (step S (some s) p) (step S (some s) q)

    -- ---- the rest of the text

    pub data RunsOn (Excuse : Type 0) (before : List ℕ) : Ran S → Ran S → Type 0 where
      -- both come to its end, with the same answers
      ended : {mode : Mode} {p q : RunState} → Continues mode before p q → RunsOn Excuse before (answered p) (answered q)
      -- the uninterrupted run is refused; the continued one has all its answers, and perhaps more
      further : {number at : ℕ} {output : List ℕ} {r : Ran S} (more : List ℕ) → before ++ output_of r ≡ output ++ more → RunsOn Excuse before (stopped number at output) r
      -- the continued run meets 20 or 24; its answers are the first of the other's
      short : {number at : ℕ} {output : List ℕ} {r : Ran S} (more : List ℕ) → Excuse → (number ≡ 20) ⊎ (number ≡ 24) → output_of r ≡ before ++ (output ++ more) → RunsOn Excuse before r (stopped number at output)

    -- while packet nodes go in step, 20 and 24 are excused only by a line that works out a live set again
    abbrev pub RunContinued : Type 0
    RunContinued = (mode : Mode) (before : List ℕ) (p q : RunState) → Continues mode before p q → (left : ℕ) (text : List ℕ) (k k' : ℕ)
        → RunsOn (InStep mode → WorksAgain left text p q) before (run S left text k p) (run S left text k' q)

    -- where the second has all live sets, none is worked out again
    abbrev pub NeverAgain : Type 0
    NeverAgain = (before : List ℕ) (p q : RunState) → Continues whole before p q → (left : ℕ) (text : List ℕ) → WorksAgain left text p q → ⊥

    -- ---- the cut

    -- from every place of a run its image goes on
    pub record CutContinued (p : RunState) (R : List (Option (Rule S.fields))) : Type 0 where
      pub always : Continues beside p.output p (stripped lent p)
      pub without_live : ((x : ℕ) → live_at p x ≡ 0) → Continues whole p.output p (stripped lent p)

-- ---- a book

-- A book begins in a place of a run, and its lines keep it one.
pub record BookStands (lent : Lent) (h : Header) : Type 0 where
  pub begins : (p : RunState) (x : ℕ) → begin lent h ≡ given p x → Standing (setting_of lent h) lent p []
  pub keeps : (p q : RunState) (R : List (Option (Rule h.fields))) (left : ℕ) (text : List ℕ) (k : ℕ) → Standing (setting_of lent h) lent p R → run (setting_of lent h) left text k p ≡ answered q
      → (Q : List (Option (Rule h.fields))) × Standing (setting_of lent h) lent q Q

-- The book `text ++ more` uninterrupted, and `more` continued from the image of the book `text`, whose last place is p. "Its instructions count on"; its text lines count from 1.
pub record BookContinued (lent : Lent) (h : Header) (text more : List ℕ) (first p : RunState) : Type 0 where
  pub answers : RunsOn (setting_of lent h) lent (WorksAgain (setting_of lent h) (instructions - length p.lines) more p (stripped lent p)) p.output
      (run (setting_of lent h) instructions (text ++ more) 2 first) (run (setting_of lent h) (instructions - length p.lines) more 1 (stripped lent p))
  pub without_live : ((x : ℕ) → live_at p x ≡ 0) → WorksAgain (setting_of lent h) (instructions - length p.lines) more p (stripped lent p) → ⊥

-- In the words of the calls: the book `book` comes to p with the setting S; then `book ++ more` is run, and `more` is continued from an image that says S and is read as p without what was worked out, as p's own is (OwnIsRead).
pub record CallsContinued (lent : Lent) (book more : List ℕ) (S : Setting) (p : RunState) : Type 0 where
  pub on : Ran S
  pub uninterrupted : ran_book lent (book ++ more) ≡ came_of S on
  pub continued : (image : List ℕ) → setting_at lent image ≡ S → read lent limits01 image ≡ given (stripped lent p) 0
      → ran_on lent image more ≡ came_of S (run S (instructions - length p.lines) more 1 (stripped lent p))
  pub answers : RunsOn S lent (WorksAgain S (instructions - length p.lines) more p (stripped lent p)) p.output on (run S (instructions - length p.lines) more 1 (stripped lent p))
  pub without_live : ((x : ℕ) → live_at p x ≡ 0) → WorksAgain S (instructions - length p.lines) more p (stripped lent p) → ⊥

pub record ContinuedClaim : Type 0 where
  pub lines : (S : Setting) (lent : Lent) → LineContinued S lent
  pub constructors : (S : Setting) (lent : Lent) → ConstructorContinued S lent
  pub runs : (S : Setting) (lent : Lent) → RunContinued S lent
  pub never : (S : Setting) (lent : Lent) → NeverAgain S lent
  pub cuts : (S : Setting) (lent : Lent) (p : RunState) (R : List (Option (Rule S.fields))) → Standing S lent p R → CutContinued S lent p R
  pub stands : (lent : Lent) (h : Header) → BookStands lent h
  pub books : (lent : Lent) (h : Header) (text more : List ℕ) (first p : RunState) (x : ℕ) → begin lent h ≡ given first x → run (setting_of lent h) instructions text 2 first ≡ answered p
      → BookContinued lent h text more first p
  pub calls : (lent : Lent) (book more : List ℕ) (S : Setting) (p : RunState) → ran_book lent book ≡ came S p → CallsContinued lent book more S p
