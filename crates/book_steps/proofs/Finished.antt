-- A book that is run and then finished comes to its outcome.
use Rattle.std.specs.Prelude.{if◌then◌else◌}
use mathlib.Core.Path.{◌≡◌, refl}
use mathlib.Core.Bool.{Bool, true, false}
use mathlib.Core.List.{List, []}
use mathlib.Core.Option.{Option, none, some}
use Prim.Native.Nat.{ℕ}
use lib.Dec.{ltb}
use Rattle.common.specs.Outcome.{Outcome, refused, given}
use Rattle.book_steps.specs.Text.{Cut, line, unended, cut, words}
use Rattle.book_steps.specs.Reader.{Header, header}
use Rattle.book_steps.specs.Run.{Lent, Setting, RunState, Ran, answered, stopped, run, begin, setting_of, started, headed, opened, refusal, finish, outcome, failed, came_of, started_book, headed_book, opened_book, ran_book, finished}

module _ (lent : Lent) where
  pub finished_run : (S : Setting) (r : Ran S) → finished lent (came_of S r) ≡ finish lent r
  finished_run S (answered p) = refl
  finished_run S (stopped e k out) = refl

  begins : (h : Header) (text : List ℕ) (o : Outcome RunState ℕ) → finished lent (started_book lent h text o) ≡ started lent h text o
  begins h text (refused e) = refl
  begins h text (given p x) = finished_run (setting_of lent h) (run (setting_of lent h) 2048 text 2 p)

  heads : (o : Option Header) (text : List ℕ) → finished lent (headed_book lent o text) ≡ headed lent o text
  heads none text = refl
  heads (some h) text = begins h text (begin lent h)

  opens : (c : Cut) → finished lent (opened_book lent c) ≡ opened lent c
  opens unended = refl
  opens (line l rest) = heads (header (words l)) rest

  pub book_finished : (book : List ℕ) → finished lent (ran_book lent book) ≡ outcome lent book
  unfolding ran_book outcome
  book_finished book = long (ltb lent.scratch 6144)
    where
      long : (b : Bool) → finished lent (if b then failed 26 0 [] else opened_book lent (cut book)) ≡ (if b then refusal lent 26 0 [] else opened lent (cut book))
      long true = refl
      long false = opens (cut book)
