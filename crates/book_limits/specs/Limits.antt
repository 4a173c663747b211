-- 02 (vi): "A book answered under smaller numbers is answered alike under larger ones", as far as limits go today: constructor lines, queries, and the lines of a book from any place on, under limits and under larger ones. No table has to be in order.
-- Definitions and statements only.
use Rattle.std.specs.Prelude.{◌≡◌, List, ℕ}
use Rattle.std.proofs.Math.Option.{Option}
use Rattle.aut_steps.specs.Tables.{Limits}
use Rattle.aut_replay.specs.Replay.{Wider}
use Rattle.aut_replay.specs.Limits.{OfLimit, Carried}
use Rattle.book_construct_steps.specs.Lines.{Line, make}
use Rattle.aut_query_steps.specs.Search.{is_empty}
use Rattle.aut_query_steps.specs.Live.{live_packets}
use Rattle.aut_query_steps.specs.Pruned.{delta_pruned}
use Rattle.aut_why_steps.specs.Why.{why}
use Rattle.book_steps.specs.Reader.{Instruction}
use Rattle.book_steps.specs.Run.{Lent, Setting, RunState, step, Ran, answered, stopped, run, finish}
use Rattle.book_longer.specs.Longer.{Front, output_of}

-- ---- constructor lines and queries

module _ (N : ℕ) (L L' : Limits) where
  abbrev pub MakeCarried : Type 0
  MakeCarried = (l : Line ℕ) → Carried (make N L l) (make N L' l)

  -- with so many pending entries
  pub record QueriesCarried (entries : ℕ) : Type 0 where
    pub empty : (budget x : ℕ) → Carried (is_empty N L entries budget x) (is_empty N L' entries budget x)
    pub live : (x : ℕ) → Carried (live_packets N L entries x) (live_packets N L' entries x)
    pub pruned : (x : ℕ) → Carried (delta_pruned N L entries x) (delta_pruned N L' entries x)
    pub why : (x : ℕ) → Carried (why N L entries x) (why N L' entries x)

-- ---- the lines of a book

-- settings that are alike but for their limits: those of the second are as large or larger
pub record WiderSetting (S T : Setting) : Type 0 where
  pub fields : T.fields ≡ S.fields
  pub budget : T.budget ≡ S.budget
  pub limits : Wider S.limits T.limits
  pub entries : T.entries ≡ S.entries
  pub room : T.room ≡ S.room

-- The second run ends as the first, at one place: the same words of every table, the same output; or stops as it does; or the first was stopped for a limit, and all that it had printed the second prints too.
pub data RanCarries {S T : Setting} : Ran S → Ran T → Type 0 where
  ends : {p : RunState} → RanCarries (answered p) (answered p)
  stops : {number k : ℕ} {out : List ℕ} → RanCarries (stopped number k out) (stopped number k out)
  lifted : {number k : ℕ} {out : List ℕ} {r : Ran T} → OfLimit number → Front out (output_of r) → RanCarries (stopped number k out) r

-- a line
abbrev pub StepCarried : Type 0
StepCarried = (S T : Setting) → WiderSetting S T → (s : Option Instruction) → Carried (step S s) (step T s)

-- a run, from any place
abbrev pub RunCarried : Type 0
RunCarried = (S T : Setting) → WiderSetting S T → (left : ℕ) (text : List ℕ) (k : ℕ) (p : RunState) → RanCarries (run S left text k p) (run T left text k p)

-- What ends at a place ends there; what is answered (number 0) is answered with the same output and the same words of every table.
pub record AnsweredAlike {S T : Setting} (r : Ran S) (s : Ran T) : Type 0 where
  pub place : (p : RunState) → r ≡ answered p → s ≡ answered p
  pub result : (lent : Lent) → (finish lent r).number ≡ 0 → finish lent s ≡ finish lent r

abbrev pub AnsweredCarried : Type 0
AnsweredCarried = (S T : Setting) → WiderSetting S T → (left : ℕ) (text : List ℕ) (k : ℕ) (p : RunState) → AnsweredAlike (run S left text k p) (run T left text k p)
