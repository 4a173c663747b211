-- 01, promise 1: one book with one set of lent lengths has one outcome: number, line, output, each word of each table. This is it, as a function of the two: the book is read
-- and run line by line, from zeroed tables. 01, "Who can cause a refusal", Order: 26; header 1, 2, 20, 21, 27; then by line 3, 4, 5, then whichever the steps meet first, 27 last.
use Rattle.std.specs.Prelude.{List, [], ◌∷◌, ◌++◌, map, ℕ, zero, suc, ◌+◌, ◌/◌, ltb, leb, length, replicate, if◌then◌else◌}
use Rattle.std.proofs.Math.Option.{Option, none, some}
use Rattle.common.specs.Outcome.{Outcome, refused, given, Step, return, ◌>>=◌}
use Rattle.common.specs.Runs.{Table, table}
use Rattle.netkat_steps.specs.ListSteps.{Edge}
use Rattle.sp_steps.specs.Model as Sp
use Rattle.spp_steps.specs.Model as Spp
use Rattle.aut_steps.specs.Tables.{Limits, limits01, aut}
use Rattle.book_construct_steps.specs.Lines.{make}
use Rattle.aut_delta_steps.specs.Delta.{store, on_aut}
use Rattle.aut_query_steps.specs.Tables.{Tables, tables, on_base}
use Rattle.aut_query_steps.specs.Search.{is_empty}
use Rattle.aut_query_steps.specs.Live.{live_packets}
use Rattle.aut_query_steps.specs.Pruned.{delta_pruned}
use Rattle.aut_why_steps.specs.Why as Why
use Rattle.book_steps.specs.Text.{Cut, line, unended, cut, words}
use Rattle.book_steps.specs.Reader.{Header, header, Query, empty, live, pruned, why, Instruction, parse, Resolved, makes, asks, refuses, resolve}
use Rattle.book_steps.specs.Answers.{name_of, fields_answer, empty_answer, live_answer, pruned_answer, why_answer}

-- ---- what is lent: words of each table, bytes of the output

pub record Lent : Type 0 where
  pub sp : ℕ
  pub spp : ℕ
  pub states : ℕ
  pub members : ℕ
  pub transitions : ℕ
  pub pending : ℕ
  pub scratch : ℕ
  pub output : ℕ

-- what holds for the whole book: the fields, the budget of each search, the limits, and what is lent of entries and bytes
pub record Setting : Type 0 where
  pub fields : ℕ
  pub budget : ℕ
  pub limits : Limits
  pub entries : ℕ
  pub room : ℕ

-- ---- the place in a book that runs

-- the tables; what each line so far stands for, a constructor line for a state, a query for nothing; the output
pub record RunState : Type 0 where
  pub tables : Tables
  pub lines : List (Option ℕ)
  pub output : List ℕ

abbrev pub place : Tables → List (Option ℕ) → List ℕ → RunState
place σ lines out = record { tables = σ; lines = lines; output = out }

-- the answer to a query of the line that is named so, whose state is x
module _ (S : Setting) where
  abbrev pub query : Query → (name : List ℕ) → ℕ → Step Tables (List ℕ)
  query empty name x = is_empty S.fields S.limits S.entries S.budget x >>= λ r. return (empty_answer name r.0 r.1)
  query live name x = live_packets S.fields S.limits S.entries x >>= λ h σ. given σ (live_answer S.fields name (Sp.size σ.sets.words S.fields h))
  query pruned name x = delta_pruned S.fields S.limits S.entries x >>= λ es σ.
      given σ (pruned_answer name (map (λ (e : Edge). record { target = e.target; number = Spp.size σ.base.aut.nodes.words S.fields e.label }) es))
  query why name x = Why.why S.fields S.limits S.entries x >>= λ o. return (why_answer S.fields o)

  -- a line's step: a number that refuses it, or the next place
  abbrev pub after_making : RunState → Outcome Tables ℕ → Outcome RunState ℕ
  after_making p (refused e) = refused e
  after_making p (given σ x) = given (place σ (p.lines ++ some x ∷ []) p.output) x

  -- 27: the output cannot hold the answer's lines
  abbrev pub after_asking : RunState → Outcome Tables (List ℕ) → Outcome RunState ℕ
  after_asking p (refused e) = refused e
  after_asking p (given σ answer) =
      if leb (length (p.output ++ answer)) S.room then given (place σ (p.lines ++ none ∷ []) (p.output ++ answer)) 0 else refused 27

  abbrev pub execute : Resolved ℕ → RunState → Outcome RunState ℕ
  execute (refuses e) p = refused e
  execute (makes l) p = after_making p (on_base (on_aut (make S.fields S.limits l)) p.tables)
  execute (asks q a x) p = after_asking p (query q (name_of a) x p.tables)

  -- 3: the line is not of its form
  abbrev pub step : Option Instruction → RunState → Outcome RunState ℕ
  step none p = refused 3
  step (some s) p = execute (resolve S.fields p.lines s) p

  -- ---- the lines, one after the other

  -- the place at the end; or a number, a text line, and the output of the lines before
  pub data Ran : Type 0 where
    answered : RunState → Ran
    stopped : (number line : ℕ) → List ℕ → Ran

  abbrev pub onward : (ℕ → RunState → Ran) → (k : ℕ) → RunState → Outcome RunState ℕ → Ran
  onward go k p (refused e) = stopped e k p.output
  onward go k p (given q x) = go (suc k) q

  abbrev pub with_line : (List ℕ → ℕ → RunState → Ran) → (k : ℕ) → RunState → Cut → Ran
  with_line go k p unended = stopped 3 k p.output
  with_line go k p (line l rest) = onward (go rest) k p (step (parse (words l)) p)

  -- at most `left` instructions from text line k on
  unfoldable pub run : (left : ℕ) → List ℕ → (k : ℕ) → RunState → Ran
  run zero [] k p = answered p
  run zero (b ∷ text) k p = stopped 3 k p.output
  run (suc left) [] k p = answered p
  run (suc left) (b ∷ text) k p = with_line (run left) k p (cut (b ∷ text))

-- ---- the whole book

-- every table zeroed
abbrev pub zeroed : ℕ → List ℕ
zeroed n = replicate n 0

abbrev pub instructions : ℕ
instructions = 2048

-- begun tables, and the first line of the output
abbrev pub begun : Lent → Header → Outcome Table ℕ → Outcome Table Spp.Constants → Outcome RunState ℕ
begun lent h (refused e) r = refused e
begun lent h (given s z) (refused e) = refused e
begun lent h (given s z) (given r c) =
    if leb (length (fields_answer h.fields)) lent.output
    then given (place (tables s (store (aut r (table (zeroed lent.states) 0) (table (zeroed lent.members) 0)) (table (zeroed lent.transitions) 0))) [] (fields_answer h.fields)) 0
    else refused 27

unfoldable pub begin : Lent → Header → Outcome RunState ℕ
begin lent h =
    if ltb 31 h.fields then refused 2
    else begun lent h (Sp.constants h.fields (table (zeroed lent.sp) 0)) (Spp.constants h.fields (table (zeroed lent.spp) 0))

-- what 01 says of the numbers: the limits are its own
abbrev pub setting_of : Lent → Header → Setting
setting_of lent h = record { fields = h.fields; budget = h.budget; limits = limits01; entries = lent.pending / 2; room = lent.output }

-- number, text line and output; each word of each table
pub record Result : Type 0 where
  pub number : ℕ
  pub line : ℕ
  pub output : List ℕ
  pub sp : List ℕ
  pub spp : List ℕ
  pub states : List ℕ
  pub members : List ℕ
  pub transitions : List ℕ
  pub pending : List ℕ
  pub scratch : List ℕ

module _ (lent : Lent) where
  -- Refused: all tables are zero.
  abbrev pub refusal : (number line : ℕ) → List ℕ → Result
  refusal e k out = record {
    number = e;
    line = k;
    output = out;
    sp = zeroed lent.sp;
    spp = zeroed lent.spp;
    states = zeroed lent.states;
    members = zeroed lent.members;
    transitions = zeroed lent.transitions;
    pending = zeroed lent.pending;
    scratch = zeroed lent.scratch;
  }

  -- Answered: the tables hold what the steps made; pending and scratch are zero. Success returns 0 and line 0.
  abbrev pub success : RunState → Result
  success p = record {
    number = 0;
    line = 0;
    output = p.output;
    sp = p.tables.sets.words;
    spp = p.tables.base.aut.nodes.words;
    states = p.tables.base.aut.states.words;
    members = p.tables.base.aut.members.words;
    transitions = p.tables.base.transitions.words;
    pending = zeroed lent.pending;
    scratch = zeroed lent.scratch;
  }

  abbrev pub finish : {S : Setting} → Ran S → Result
  finish (answered p) = success p
  finish (stopped e k out) = refusal e k out

  -- the instructions begin in text line 2
  abbrev pub started : Header → List ℕ → Outcome RunState ℕ → Result
  started h text (refused e) = refusal e 1 []
  started h text (given p x) = finish (run (setting_of lent h) instructions text 2 p)

  abbrev pub headed : Option Header → List ℕ → Result
  headed none text = refusal 1 1 []
  headed (some h) text = started h text (begin lent h)

  abbrev pub opened : Cut → Result
  opened unended = refusal 1 1 []
  opened (line l rest) = headed (header (words l)) rest

  -- the outcome of a book
  unfoldable pub outcome : List ℕ → Result
  outcome book = if ltb lent.scratch 6144 then refusal 26 0 [] else opened (cut book)

-- ---- a run, not yet finished

-- the place at the end, with its setting; or a number, a text line, and the output of the lines before
pub data Came : Type 0 where
  came : Setting → RunState → Came
  failed : (number line : ℕ) → List ℕ → Came

abbrev pub came_of : (S : Setting) → Ran S → Came
came_of S (answered p) = came S p
came_of S (stopped e k out) = failed e k out

module _ (lent : Lent) where
  abbrev pub started_book : Header → List ℕ → Outcome RunState ℕ → Came
  started_book h text (refused e) = failed e 1 []
  started_book h text (given p x) = came_of (setting_of lent h) (run (setting_of lent h) instructions text 2 p)

  abbrev pub headed_book : Option Header → List ℕ → Came
  headed_book none text = failed 1 1 []
  headed_book (some h) text = started_book h text (begin lent h)

  abbrev pub opened_book : Cut → Came
  opened_book unended = failed 1 1 []
  opened_book (line l rest) = headed_book (header (words l)) rest

  -- a book; finished, it is its outcome (proofs/Finished)
  unfoldable pub ran_book : List ℕ → Came
  ran_book book = if ltb lent.scratch 6144 then failed 26 0 [] else opened_book (cut book)

  abbrev pub finished : Came → Result
  finished (came S p) = success lent p
  finished (failed e k out) = refusal lent e k out
