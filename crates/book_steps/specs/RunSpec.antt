-- 01, "What every promise says": what is claimed of a run of lines, from any point in order with its rules, text line and instructions left.
-- Definitions and statements only; proofs/Runs proves them. The text's own bytes are walked, with Text and Reader, the
-- answers' bytes (Answers), the steps (`make`, `is_empty`, `live_packets`, `delta_pruned`) and what is demanded of them
-- (Demands). `run` stands in RunClaim alone, which says that it comes to just this.
use Rattle.std.specs.Prelude.{◌≡◌, ◌↔◌, ◌⊎◌, ℕ, suc, ◌^◌, ◌≤◌, ◌<◌, length, get_or, replicate}
use mathlib.Core.List.{List, [], ◌∷◌, ◌++◌, map, Memᴰ}
use Rattle.std.proofs.Math.Option.{Option, none, some}
use Rattle.common.specs.Outcome.{refused, given}
use Rattle.netkat.specs.Strings.{Str}
use Rattle.netkat.specs.Rules.{Rule}
use Rattle.netkat_steps.specs.ListSteps.{Edge}
use Rattle.netkat.specs.Search.{Verdict, yes, spent}
use Rattle.sp_steps.specs.Model as Sp
use Rattle.spp_steps.specs.Model as Spp
use Rattle.aut_steps.specs.Tables.{Aut}
use Rattle.book_construct_steps.specs.Lines.{Line, means, make}
use Rattle.aut_delta_steps.specs.Delta.{put_aut}
use Rattle.aut_query_steps.specs.Tables.{Tables, put_base, ExtTables}
use Rattle.aut_query_steps.specs.Search.{is_empty}
use Rattle.aut_query_steps.specs.Live.{live_packets}
use Rattle.aut_query_steps.specs.Pruned.{delta_pruned}
use Rattle.aut_why_steps.specs.Why as Why
use Rattle.book_steps.specs.Text.{line, unended, cut, words}
use Rattle.book_steps.specs.Reader as Reader
use Rattle.book_steps.specs.Reader.{Query, Instruction, parse, makes, asks, resolve}
use Rattle.book_steps.specs.Answers.{share, Nearest, name_of, empty_answer, live_answer, Pairs, pruned_answer, why_answer}
use Rattle.book_steps.specs.Meaning.{Same}
use Rattle.book_steps.specs.Conditions.{Misnamed, OutOfRange}
use Rattle.book_steps.specs.Demands.{SearchSpec, LiveSpec, PrunedSpec, WhySpec, TablesSpec, InOrder}
use Rattle.book_steps.specs.Run.{Lent, Setting, RunState, place, Result, run, finish}

-- "number, line, output, each word of each table"; "pending and scratch are zero" in both
abbrev pub leaves : Lent → (number at : ℕ) → (output sp spp states members transitions : List ℕ) → Result
leaves lent number at output sp spp states members transitions = record {
  number = number;
  line = at;
  output = output;
  sp = sp;
  spp = spp;
  states = states;
  members = members;
  transitions = transitions;
  pending = replicate lent.pending 0;
  scratch = replicate lent.scratch 0;
}

-- "Refused: all tables are zero"; "the output length of the lines before"
abbrev pub Refused : Lent → (number line : ℕ) → (output : List ℕ) → Result → Type 0
Refused lent number k output r = r ≡ leaves lent number k output (replicate lent.sp 0) (replicate lent.spp 0)
    (replicate lent.states 0) (replicate lent.members 0) (replicate lent.transitions 0)

-- "Answered: the tables hold what the Rust's steps make"; "Success returns 0 and line 0"
abbrev pub Answered : Lent → RunState → Result → Type 0
Answered lent p r = r ≡ leaves lent 0 0 p.output p.tables.sets.words p.tables.base.aut.nodes.words
    p.tables.base.aut.states.words p.tables.base.aut.members.words p.tables.base.transitions.words

module _ (S : Setting) where
  abbrev pub N : ℕ
  N = S.fields

  -- what each line so far means by the text alone: a constructor line a rule, a query nothing
  abbrev pub Meant : Type 0
  Meant = List (Option (Rule N))

  -- ---- a line

  -- the targets and the numbers of pairs that a list's lines resolve
  abbrev pub told : Tables → List Edge → List Pairs
  told τ es =
      map (λ (e : Edge). record { target = e.target; number = Spp.size τ.base.aut.nodes.words N e.label }) es

  -- what a query of the line named so, whose state is x and rule r, has answered from the tables σ, leaving τ
  pub data QuerySpec (σ : Tables) (name : List ℕ) (x : ℕ) (r : Rule N) (τ : Tables) : Query → List ℕ → Type 0 where
    emptied : {v : Verdict} {c : ℕ} → is_empty N S.limits S.entries S.budget x σ ≡ given τ (v, c)
        → SearchSpec S σ x r v c → QuerySpec σ name x r τ Reader.empty (empty_answer name v c)
    lived : {l : ℕ} → live_packets N S.limits S.entries x σ ≡ given τ l
        → LiveSpec S r (Sp.size τ.sets.words N l)
        → QuerySpec σ name x r τ Reader.live (live_answer N name (Sp.size τ.sets.words N l))
    pruned : {es : List Edge} → delta_pruned N S.limits S.entries x σ ≡ given τ es
        → PrunedSpec S τ x r (told τ es) → QuerySpec σ name x r τ Reader.pruned (pruned_answer name (told τ es))
    explained : {o : Option (Str N)} → Why.why N S.limits S.entries x σ ≡ given τ o → WhySpec S r o
        → QuerySpec σ name x r τ Reader.why (why_answer N o)

  abbrev pub QueryRefused : Tables → Query → ℕ → ℕ → Type 0
  QueryRefused σ Reader.empty x number = is_empty N S.limits S.entries S.budget x σ ≡ refused number
  QueryRefused σ Reader.live x number = live_packets N S.limits S.entries x σ ≡ refused number
  QueryRefused σ Reader.pruned x number = delta_pruned N S.limits S.entries x σ ≡ refused number
  QueryRefused σ Reader.why x number = Why.why N S.limits S.entries x σ ≡ refused number

  -- What the line s has done: "constructors and queries in any order, .. each on what the last one left". The place and
  -- the rules behind it.
  pub data LineSpec (p : RunState) (R : Meant) (s : Instruction) : RunState → Meant → Type 0 where
    made : {l : Line ℕ} {m : Line (Rule N)} {x : ℕ} {τ : Aut} → resolve N p.lines s ≡ makes l → resolve N R s ≡ makes m
        → make N S.limits l p.tables.base.aut ≡ given τ x → Same N τ x (means (λ r. r) m)
        → LineSpec p R s
        (place (put_base (put_aut τ p.tables.base) p.tables) (p.lines ++ some x ∷ []) p.output)
        (R ++ some (means (λ r. r) m) ∷ [])
    answered : {q : Query} {a x : ℕ} {r : Rule N} {τ : Tables} {answer : List ℕ} → resolve N p.lines s ≡ asks q a x
        → resolve N R s ≡ asks q a r → QuerySpec p.tables (name_of a) x r τ q answer → length (p.output ++ answer) ≤ S.room
        → LineSpec p R s (place τ (p.lines ++ none ∷ []) (p.output ++ answer)) (R ++ none ∷ [])

  -- Where a run stands: at most `left` instructions in the text, which begins with text line `line`; place; rules.
  pub record Point : Type 0 where
    pub left : ℕ
    pub text : List ℕ
    pub line : ℕ
    pub place : RunState
    pub rules : Meant

  abbrev pub Reads : Point → (rest : List ℕ) → Option Instruction → Type 0
  Reads c rest s = (0 < c.left) × ((l : List ℕ) × (cut c.text ≡ line l rest) × (parse (words l) ≡ s))

  -- Why the next line is refused: "3 a line is not of its form, lacks byte 10, or is instruction 2,049"; "by line 3, 4,
  -- 5, then whichever the steps meet first, 27 last". The steps' number is that of the line's own step (Conditions).
  pub data LineRefusal (c : Point) : ℕ → Type 0 where
    too_many : ¬ (c.text ≡ []) → c.left ≡ 0 → LineRefusal c 3
    no_end : ¬ (c.text ≡ []) → 0 < c.left → cut c.text ≡ unended → LineRefusal c 3
    no_form : {rest : List ℕ} → Reads c rest none → LineRefusal c 3
    misnamed : {rest : List ℕ} {s : Instruction} → Reads c rest (some s) → Misnamed c.place.lines s → LineRefusal c 4
    out_of_range : {rest : List ℕ} {s : Instruction} → Reads c rest (some s) → OutOfRange N s → LineRefusal c 5
    making : {rest : List ℕ} {s : Instruction} {l : Line ℕ} {number : ℕ} → Reads c rest (some s)
        → resolve N c.place.lines s ≡ makes l → make N S.limits l c.place.tables.base.aut ≡ refused number
        → Memᴰ number (6 ∷ 7 ∷ 8 ∷ 21 ∷ 22 ∷ 23 ∷ []) → LineRefusal c number
    asking : {rest : List ℕ} {s : Instruction} {q : Query} {a x number : ℕ} → Reads c rest (some s)
        → resolve N c.place.lines s ≡ asks q a x → QueryRefused c.place.tables q x number
        → Memᴰ number (6 ∷ 7 ∷ 8 ∷ 9 ∷ 20 ∷ 21 ∷ 22 ∷ 23 ∷ 24 ∷ 25 ∷ []) → LineRefusal c number
    no_room : {rest : List ℕ} {s : Instruction} {q : Query} {a x : ℕ} {r : Rule N} {τ : Tables} {answer : List ℕ}
        → Reads c rest (some s) → resolve N c.place.lines s ≡ asks q a x → resolve N c.rules s ≡ asks q a r
        → QuerySpec c.place.tables (name_of a) x r τ q answer → S.room < length (c.place.output ++ answer)
        → LineRefusal c 27

  -- ---- the lines of a book

  module _ (lent : Lent) where
    -- The next line is done, from c to d; what was there and worked out is as it was (`ExtTables`).
    pub record LineStep (c d : Point) : Type 0 where
      pub says : Instruction
      pub reads : Reads c d.text (some says)
      pub counted : c.left ≡ suc d.left
      pub line_is : d.line ≡ suc c.line
      pub does : LineSpec c.place c.rules says d.place d.rules
      pub later : ExtTables c.place.tables d.place.tables
      pub tables : TablesSpec S lent d.place d.rules

    -- lines done one after the other, from the first point to the second
    pub data Steps : Point → Point → Type 0 where
      here : {c : Point} → Steps c c
      on : {c d e : Point} → LineStep c d → Steps d e → Steps c e

    -- "A refused line ends the book"; or the text is at its end
    pub data Final (c : Point) (r : Result) : Type 0 where
      ends : c.text ≡ [] → Answered lent c.place r → Final c r
      stops : {number : ℕ} → LineRefusal c number → Refused lent number c.line c.place.output r → Final c r

    -- From the point c on, the text comes to r.
    abbrev pub RunSpec : Point → Result → Type 0
    RunSpec c r = (d : Point) × Steps c d × Final d r

    -- Demand 3: "and exactly if its live set is empty where both answer, in whichever order". Two lines of one run,
    -- `empty a` at d and `live b` at e, of lines that made one state x: `yes` is printed exactly if `live` prints 0.
    abbrev pub Alike : Point → Point → Type 0
    Alike d e = (a b x c m : ℕ) (v : Verdict) (r q : Rule N) (τ υ : Tables)
        → get_or d.place.lines a none ≡ some x → get_or e.place.lines b none ≡ some x
        → QuerySpec d.place.tables (name_of a) x r τ Reader.empty (empty_answer (name_of a) v c)
        → QuerySpec e.place.tables (name_of b) x q υ Reader.live (live_answer N (name_of b) m)
        → S.budget < 2 ^ 64 → N < 64 → a < 2 ^ 64 → b < 2 ^ 64 → c < 2 ^ 64 → m < 2 ^ 64
        → ¬ (v ≡ spent) → (v ≡ yes) ↔ (m ≡ 0)

    -- What is claimed of a run from any point in order, a begun book's or a continued one's.
    pub record RunClaim (c : Point) : Type 0 where
      pub whole : RunSpec c (finish lent (run S c.left c.text c.line c.place))
      pub only : (r : Result) → RunSpec c r → r ≡ finish lent (run S c.left c.text c.line c.place)
      pub kept : (d : Point) → Steps c d → InOrder S lent d.place d.rules
      pub linear : (d e : Point) → Steps c d → Steps c e → Steps d e ⊎ Steps e d
      pub alike : (d e : Point) → Steps c d → Steps c e → Alike d e

-- The bytes printed say which line, which verdict and which numbers it was; and the share is the one number that 02 (iii) asks for.
pub record PrintedSpec : Type 0 where
  pub empty : (a b c d : ℕ) (v w : Verdict) → a < 2 ^ 64 → b < 2 ^ 64 → c < 2 ^ 64 → d < 2 ^ 64
      → empty_answer (name_of a) v c ≡ empty_answer (name_of b) w d → (a ≡ b) × (v ≡ w) × (c ≡ d)
  pub live : (N a b c d : ℕ) → a < 2 ^ 64 → b < 2 ^ 64 → c < 2 ^ 64 → d < 2 ^ 64
      → live_answer N (name_of a) c ≡ live_answer N (name_of b) d → (a ≡ b) × (c ≡ d)
  -- 02 (i): "No two strings may print alike."
  pub why : (n : ℕ) (v w : Option (Str n)) → why_answer n v ≡ why_answer n w → v ≡ w
  -- 02 (iii): "Halves go to the even thousandth", "for every count and total"
  pub nearest : (count total : ℕ) → 0 < total → Nearest count total (share count total)
  pub no_other : (count total s : ℕ) → 0 < total → Nearest count total s → s ≡ share count total
