-- 02 (ii): "A book continued after a read gets every answer that the uninterrupted run gave, its lent lengths no smaller". More lent memory takes no answer away: from tables that are those of another run with zeros behind,
-- each step gives the same value and again such tables, or is refused with the same number, unless the other run was refused for room (20 to 25, 27). Definitions and statements only.
use Rattle.std.specs.Prelude.{◌≡◌, Bool, List, ◌++◌, ℕ, ◌≤◌, ◌<◌, length, get_or}
use Rattle.std.proofs.Math.Option.{Option}
use Rattle.common.specs.Packets.{Packet}
use Rattle.common.specs.Outcome.{Outcome, refused, given, Step}
use Rattle.common.specs.Runs.{Table}
use Rattle.netkat.specs.Rules.{Rule}
use Rattle.netkat_steps.specs.ListSteps as St
use Rattle.netkat_steps.specs.ListSteps.{Edge}
use Rattle.sp_steps.specs.Model as Sp
use Rattle.spp_steps.specs.Model as Spp
use Rattle.spp_steps.specs.ImageModel as Images
use Rattle.spp_steps.specs.ImageModel.{Stores}
use Rattle.aut_steps.specs.Tables.{Limits, Exprs, Aut}
use Rattle.aut_steps.specs.Intern as Intern
use Rattle.aut_steps.specs.Constructors as Make
use Rattle.aut_steps.specs.Wf.{states, WfAut}
use Rattle.aut_st_steps.specs.Operations.{ops}
use Rattle.book_construct_steps.specs.Lines.{Line, make}
use Rattle.aut_delta_steps.specs.Epsilon.{epsilon}
use Rattle.aut_delta_steps.specs.Delta.{Store, delta}
use Rattle.aut_query_steps.specs.Tables.{Tables, WfTables}
use Rattle.aut_query_steps.specs.Search.{is_empty}
use Rattle.aut_query_steps.specs.Live.{live_packets}
use Rattle.aut_query_steps.specs.Pruned.{delta_pruned}
use Rattle.aut_why_steps.specs.Why.{why}
use Rattle.book_steps.specs.Demands.{InOrder}
use Rattle.book_steps.specs.Reader.{Instruction}
use Rattle.book_steps.specs.Run.{Lent, Setting, RunState, step, Ran, answered, stopped, run, Result, outcome}

-- ---- longer tables

-- u has the words of t, and zeros behind
pub record LongerWords (t u : List ℕ) : Type 0 where
  pub reads : (i : ℕ) → get_or u i 0 ≡ get_or t i 0
  pub len : length t ≤ length u

pub record Longer (t u : Table) : Type 0 where
  pub words : LongerWords t.words u.words
  pub count : u.count ≡ t.count

pub record LongerStores (σ τ : Stores) : Type 0 where
  pub sp : Longer σ.sp τ.sp
  pub spp : Longer σ.spp τ.spp

pub record LongerExprs (σ τ : Exprs) : Type 0 where
  pub states : Longer σ.states τ.states
  pub members : Longer σ.members τ.members

pub record LongerAut (σ τ : Aut) : Type 0 where
  pub nodes : Longer σ.nodes τ.nodes
  pub states : Longer σ.states τ.states
  pub members : Longer σ.members τ.members

pub record LongerStore (σ τ : Store) : Type 0 where
  pub aut : LongerAut σ.aut τ.aut
  pub transitions : Longer σ.transitions τ.transitions

pub record LongerTables (σ τ : Tables) : Type 0 where
  pub sets : Longer σ.sets τ.sets
  pub base : LongerStore σ.base τ.base

-- one place of a book, in longer tables
pub record LongerPlace (p q : RunState) : Type 0 where
  pub tables : LongerTables p.tables q.tables
  pub lines : q.lines ≡ p.lines
  pub output : q.output ≡ p.output

-- ---- runs

-- the numbers of lent memory, without 26
pub data OfRoom : ℕ → Type 0 where
  no_packet_node : OfRoom 20
  no_relation_node : OfRoom 21
  no_state : OfRoom 22
  no_member : OfRoom 23
  no_entry : OfRoom 24
  no_transition : OfRoom 25
  no_output : OfRoom 27

-- The second outcome follows the first: it has the same value, and stores that R relates; or the same refusal; or the first was refused for room.
pub data Follows {S A : Type 0} (R : S → S → Type 0) : Outcome S A → Outcome S A → Type 0 where
  lacked : {number : ℕ} {p : Outcome S A} → OfRoom number → Follows R (refused number) p
  same_refusal : {number : ℕ} → Follows R (refused number) (refused number)
  goes : {σ τ : S} {a : A} → R σ τ → Follows R (given σ a) (given τ a)

-- from stores that R relates
abbrev pub Respects : {S A : Type 0} → (S → S → Type 0) → Step S A → Type 0
Respects {S} R c = (σ τ : S) → R σ τ → Follows R (c σ) (c τ)

-- ---- steps for which no table has to be in order

-- on packet nodes
pub record SetsLonger : Type 0 where
  pub mk : (x y : ℕ) → Respects Longer (Sp.mk x y)
  pub union : (d a b : ℕ) → Respects Longer (Sp.union d a b)
  pub xor : (d a b : ℕ) → Respects Longer (Sp.xor d a b)
  pub intersect : (d a b : ℕ) → Respects Longer (Sp.intersect d a b)
  pub difference : (d a b : ℕ) → Respects Longer (Sp.difference d a b)
  pub constants : (d : ℕ) → Respects Longer (Sp.constants d)
  pub mem : (t u : List ℕ) → LongerWords t u → (d h : ℕ) (p : Packet d) → Sp.mem u d h p ≡ Sp.mem t d h p
  pub size : (t u : List ℕ) → LongerWords t u → (d h : ℕ) → Sp.size u d h ≡ Sp.size t d h

-- on relation nodes, of N fields
pub record RelationsLonger (N : ℕ) : Type 0 where
  pub mk : (X : Spp.Quad) → Respects Longer (Spp.mk X)
  pub apply : (o : Spp.Op) (d a b : ℕ) → Respects Longer (Spp.apply N o d a b)
  pub complement : (d a : ℕ) → Respects Longer (Spp.complement N d a)
  pub sequence : (d a b : ℕ) → Respects Longer (Spp.sequence N d a b)
  pub star : (d a : ℕ) → Respects Longer (Spp.star N d a)
  pub test : (d f : ℕ) (v : Bool) → Respects Longer (Spp.test N d f v)
  pub assign : (d f : ℕ) (v : Bool) → Respects Longer (Spp.assign N d f v)
  pub constants : Respects Longer (Spp.constants N)
  pub mem : (t u : List ℕ) → LongerWords t u → (d h : ℕ) (p q : Packet d) → Spp.mem u d h p q ≡ Spp.mem t d h p q
  pub size : (t u : List ℕ) → LongerWords t u → (d h : ℕ) → Spp.size u d h ≡ Spp.size t d h

-- between packet sets and relations
pub record ImagesLonger (N : ℕ) : Type 0 where
  pub fwd : (d r : ℕ) → Respects LongerStores (Images.fwd d r)
  pub bwd : (d r : ℕ) → Respects LongerStores (Images.bwd d r)
  pub ifwd : (d s : ℕ) → Respects LongerStores (Images.ifwd d s)
  pub push : (d s r : ℕ) → Respects LongerStores (Images.push N d s r)
  pub pull : (d r s : ℕ) → Respects LongerStores (Images.pull N d r s)
  pub has_image_lem : (d s r : ℕ) (σ τ : Stores) → LongerStores σ τ → Images.has_image N d s r τ ≡ Images.has_image N d s r σ

module _ (N : ℕ) (L : Limits) where
  -- interning and the constructors
  pub record ConstructorsLonger : Type 0 where
    pub intern0 : (k x : ℕ) → Respects Longer (Intern.intern0 k x)
    pub intern1 : (k x : ℕ) → Respects Longer (Intern.intern1 L k x)
    pub intern2 : (k x y : ℕ) → Respects Longer (Intern.intern2 L k x y)
    pub intern_l : (k : ℕ) (xs : List ℕ) → Respects LongerExprs (Intern.intern_l L k xs)
    pub spp : (h : ℕ) → Respects Longer (Make.mk_spp h)
    pub dup : Respects Longer Make.mk_dup
    pub top : Respects Longer Make.mk_top
    pub next : (x : ℕ) → Respects Longer (Make.mk_next L x)
    pub until : (x y : ℕ) → Respects Longer (Make.mk_until L x y)
    pub union_n : (xs : List ℕ) → Respects LongerAut (Make.mk_union_n N L xs)
    pub union : (x y : ℕ) → Respects LongerAut (Make.mk_union N L x y)
    pub intersect_n_base : (xs : List ℕ) → Respects LongerAut (Make.mk_intersect_n_base N L xs)
    pub intersect_n : (xs : List ℕ) → Respects LongerAut (Make.mk_intersect_n N L xs)
    pub intersect : (x y : ℕ) → Respects LongerAut (Make.mk_intersect N L x y)
    pub xor : (x y : ℕ) → Respects LongerAut (Make.mk_xor N L x y)
    pub difference : (x y : ℕ) → Respects LongerAut (Make.mk_difference N L x y)
    pub complement : (x : ℕ) → Respects Longer (Make.mk_complement N L x)
    pub sequence : (x y : ℕ) → Respects LongerAut (Make.mk_sequence N L x y)
    pub star : (x : ℕ) → Respects LongerAut (Make.mk_star N L x)

  -- the operations on transition lists
  pub record ListsLonger : Type 0 where
    pub insert : (s l : ℕ) (es : List Edge) → Respects LongerAut (St.insert (ops N L) s l es)
    pub singleton : (l s : ℕ) → Respects LongerAut (St.st_singleton (ops N L) l s)
    pub union : (ts us : List Edge) → Respects LongerAut (St.st_union (ops N L) ts us)
    pub intersect : (ts us : List Edge) → Respects LongerAut (St.st_intersect (ops N L) ts us)
    pub difference : (ts us : List Edge) → Respects LongerAut (St.st_difference (ops N L) ts us)
    pub xor : (ts us : List Edge) → Respects LongerAut (St.st_xor (ops N L) ts us)
    pub complement : (ts : List Edge) → Respects LongerAut (St.st_complement (ops N L) ts)
    pub postcompose : (ts : List Edge) (x : ℕ) → Respects LongerAut (St.st_postcompose (ops N L) ts x)
    pub precompose : (l : ℕ) (ts : List Edge) → Respects LongerAut (St.st_precompose (ops N L) l ts)
    pub intersect_expr : (ts : List Edge) (x : ℕ) → Respects LongerAut (St.st_intersect_expr (ops N L) ts x)

-- ---- steps that write words 4 to 7 of states: from tables in order, of a state that is there. Of a state that is not, the shorter table may have no such word.

module _ (N : ℕ) (L : Limits) where
  abbrev pub EpsilonLonger : Type 0
  EpsilonLonger = (σ τ : Aut) (x : ℕ) → WfAut N L σ → x < states σ → LongerAut σ τ → Follows LongerAut (epsilon N x σ) (epsilon N x τ)

  abbrev pub DeltaLonger : Type 0
  DeltaLonger = (σ τ : Store) (x : ℕ) → WfAut N L σ.aut → x < states σ.aut → LongerStore σ τ → Follows LongerStore (delta N L x σ) (delta N L x τ)

-- ---- the lines of a book

module _ (N : ℕ) (L : Limits) where
  -- a constructor line
  abbrev pub MakeLonger : Type 0
  MakeLonger = (l : Line ℕ) → Respects LongerAut (make N L l)

  -- queries of a state x, with no fewer pending entries
  pub record QueriesLonger (entries more : ℕ) (σ τ : Tables) (x : ℕ) : Type 0 where
    pub empty : (budget : ℕ) → Follows LongerTables (is_empty N L entries budget x σ) (is_empty N L more budget x τ)
    pub live : Follows LongerTables (live_packets N L entries x σ) (live_packets N L more x τ)
    pub pruned : Follows LongerTables (delta_pruned N L entries x σ) (delta_pruned N L more x τ)
    pub why : Follows LongerTables (why N L entries x σ) (why N L more x τ)

  abbrev pub QueryLonger : Type 0
  QueryLonger = (entries more : ℕ) → entries ≤ more → (σ τ : Tables) (x : ℕ) → WfTables N L σ → x < states σ.base.aut → LongerTables σ τ → QueriesLonger entries more σ τ x

-- settings that differ in what is lent
pub record LongerSetting (S T : Setting) : Type 0 where
  pub fields : T.fields ≡ S.fields
  pub budget : T.budget ≡ S.budget
  pub limits : T.limits ≡ S.limits
  pub entries : S.entries ≤ T.entries
  pub room : S.room ≤ T.room

-- the first is a front part of the second
pub record Front (xs ys : List ℕ) : Type 0 where
  pub rest : List ℕ
  pub is : ys ≡ xs ++ rest

abbrev pub output_of : {S : Setting} → Ran S → List ℕ
output_of (answered p) = p.output
output_of (stopped number k out) = out

-- The second run ends as the first, in longer tables; or stops as it does; or the first stopped for room, and all that it had printed the second prints too.
pub data RanFollows {S T : Setting} : Ran S → Ran T → Type 0 where
  ends : {p q : RunState} → LongerPlace p q → RanFollows (answered p) (answered q)
  stops : {number k : ℕ} {out : List ℕ} → RanFollows (stopped number k out) (stopped number k out)
  lacks : {number k : ℕ} {out : List ℕ} {r : Ran T} → OfRoom number → Front out (output_of r) → RanFollows (stopped number k out) r

-- a line, from two places of which the first is in order
abbrev pub StepLonger : Type 0
StepLonger = (S T : Setting) → LongerSetting S T → (lent : Lent) (rules : List (Option (Rule S.fields))) (s : Option Instruction) (p q : RunState) → InOrder S lent p rules → LongerPlace p q
    → Follows LongerPlace (step S s p) (step T s q)

-- a run
abbrev pub RunLonger : Type 0
RunLonger = (S T : Setting) → LongerSetting S T → (lent : Lent) (rules : List (Option (Rule S.fields))) (left : ℕ) (text : List ℕ) (k : ℕ) (p q : RunState) → InOrder S lent p rules → LongerPlace p q
    → RanFollows (run S left text k p) (run T left text k q)

-- ---- the whole book

pub record LongerLent (lent more : Lent) : Type 0 where
  pub sp : lent.sp ≤ more.sp
  pub spp : lent.spp ≤ more.spp
  pub states : lent.states ≤ more.states
  pub members : lent.members ≤ more.members
  pub transitions : lent.transitions ≤ more.transitions
  pub pending : lent.pending ≤ more.pending
  pub scratch : lent.scratch ≤ more.scratch
  pub output : lent.output ≤ more.output

-- the same number, line and output; the tables of the first, with zeros behind
pub record LongerResult (r s : Result) : Type 0 where
  pub number : s.number ≡ r.number
  pub line : s.line ≡ r.line
  pub output : s.output ≡ r.output
  pub sp : LongerWords r.sp s.sp
  pub spp : LongerWords r.spp s.spp
  pub states : LongerWords r.states s.states
  pub members : LongerWords r.members s.members
  pub transitions : LongerWords r.transitions s.transitions
  pub pending : LongerWords r.pending s.pending
  pub scratch : LongerWords r.scratch s.scratch

-- the numbers of lent memory
pub data OfLack : ℕ → Type 0 where
  room : {number : ℕ} → OfRoom number → OfLack number
  no_scratch : OfLack 26

-- A book that was refused for lack of memory has printed no more than with more memory; any other comes to the same.
pub data BookFollows (r s : Result) : Type 0 where
  lacks : OfLack r.number → Front r.output s.output → BookFollows r s
  same : LongerResult r s → BookFollows r s

abbrev pub BookLonger : Type 0
BookLonger = (lent more : Lent) → LongerLent lent more → (book : List ℕ) → BookFollows (outcome lent book) (outcome more book)

-- what was answered (number 0) is answered
abbrev pub AnsweredLonger : Type 0
AnsweredLonger = (lent more : Lent) → LongerLent lent more → (book : List ℕ) → (outcome lent book).number ≡ 0 → LongerResult (outcome lent book) (outcome more book)
