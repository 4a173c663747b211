-- The text line of a refusal is at most 2,050: the header is line 1, and there are at most 2,048 instructions.
use Rattle.std.specs.Prelude.{if◌then◌else◌}
use mathlib.Core.Bool.{Bool, true, false}
use mathlib.Core.List.{List, [], ◌∷◌}
use mathlib.Core.Option.{Option, none, some}
use Prim.Native.Nat.{ℕ, zero, suc, ◌+◌, ◌≤◌}
use native.Mathlib.Omega.{arith}
use lib.Dec.{ltb}
use Rattle.common.specs.Outcome.{Outcome, refused, given}
use Rattle.book_steps.specs.Text.{Cut, line, unended, cut, words}
use Rattle.book_steps.specs.Reader.{Header, header, parse}
use Rattle.book_steps.specs.Run.{Lent, Setting, RunState, Ran, onward, with_line, step, run, setting_of, begin, finish, refusal, started, headed, opened, outcome}

module _ (lent : Lent) (S : Setting) where
  -- the text line where a run ends, at most m
  abbrev Ends : ℕ → Ran S → Type 0
  Ends m r = (finish lent r).line ≤ m

  module _ (go : List ℕ → ℕ → RunState → Ran S) (k left : ℕ) (p : RunState) (after : (rest : List ℕ) (q : RunState) → Ends (suc k + left) (go rest (suc k) q)) where
    by_step : (rest : List ℕ) (o : Outcome RunState ℕ) → Ends (k + suc left) (onward S (go rest) k p o)
    by_step rest (refused e) = omega arith
    by_step rest (given q x) = omega (arith, after rest q)

    by_cut : (c : Cut) → Ends (k + suc left) (with_line S go k p c)
    by_cut unended = omega arith
    by_cut (line l rest) = by_step rest (step S (parse (words l)) p)

  pub run_line : (left : ℕ) (text : List ℕ) (k : ℕ) (p : RunState) → Ends (k + left) (run S left text k p)
  unfolding run
  run_line zero [] k p = omega arith
  run_line zero (b ∷ text) k p = omega arith
  run_line (suc left) [] k p = omega arith
  run_line (suc left) (b ∷ text) k p = by_cut (run S left) k left p (λ rest q. run_line left rest (suc k) q) (cut (b ∷ text))

module _ (lent : Lent) where
  started_line : (h : Header) (text : List ℕ) (o : Outcome RunState ℕ) → (started lent h text o).line ≤ 2050
  started_line h text (refused e) = omega arith
  started_line h text (given p x) = run_line lent (setting_of lent h) 2048 text 2 p

  headed_line : (h : Option Header) (text : List ℕ) → (headed lent h text).line ≤ 2050
  headed_line none text = omega arith
  headed_line (some h) text = started_line h text (begin lent h)

  opened_line : (c : Cut) → (opened lent c).line ≤ 2050
  opened_line unended = omega arith
  opened_line (line l rest) = headed_line (header (words l)) rest

  pub outcome_line : (book : List ℕ) → (outcome lent book).line ≤ 2050
  unfolding outcome
  outcome_line book = by_scratch (ltb lent.scratch 6144)
    where
      by_scratch : (b : Bool) → (if b then refusal lent 26 0 [] else opened lent (cut book)).line ≤ 2050
      by_scratch true = omega arith
      by_scratch false = opened_line (cut book)
