-- 01, demands 2 and 3, at one place of a book: what an answer says of the rule that the line asked for means, and what the
-- tables hold. Definitions and statements only. Claim says them of every line of a book; proofs/Claim proves them.
use Rattle.std.specs.Prelude.{◌≡◌, ◌↔◌, ℕ, ◌+◌, ◌*◌, ◌^◌, ◌≤◌, ◌<◌, length, get_or}
use mathlib.Core.List.{List, map, Memᴰ}
use Rattle.std.proofs.Math.Option.{Option, none, some}
use Rattle.common.specs.Packets.{Set}
use Rattle.common.specs.Outcome.{given}
use Rattle.common.specs.Runs.{Table}
use Rattle.netkat.specs.Strings.{Str}
use Rattle.netkat.specs.Rules.{Rule, In}
use Rattle.netkat.specs.Hops.{IsEpsilon}
use Rattle.netkat.specs.Lists.{State, Transition, Ascending, IsDelta}
use Rattle.netkat.specs.Search.{Log, Verdict, yes, no, spent, search}
use Rattle.netkat.specs.Promise.{Distinct, Needs}
use Rattle.netkat.specs.Live as Live
use Rattle.netkat_paths.specs.Order.{Picked}
use Rattle.netkat.specs.Live.{IsLive}
use Rattle.sp_steps.specs.Model as Sp
use Rattle.sp_steps.specs.Size as SpSize
use Rattle.spp_steps.specs.Size as SppSize
use Rattle.aut_steps.specs.Relations as Rel
use Rattle.aut_steps.specs.Tables.{SPP, Aut}
use Rattle.aut_steps.specs.Kinds as Kinds
use Rattle.aut_steps.specs.Wf as Good
use Rattle.aut_steps.specs.Wf.{states, kind, operands, Ok}
use Rattle.aut_steps.specs.Meaning.{Holds}
use Rattle.aut_delta_steps.specs.Epsilon.{epsilon_of}
use Rattle.aut_delta_steps.specs.Delta.{start_of, count_of, Store, list_at}
use Rattle.aut_delta_steps.specs.PlainSearch.{decoded, answers}
use Rattle.aut_query_steps.specs.Tables.{Tables, live_of, WfTables}
use Rattle.book_steps.specs.Answers.{Pairs}
use Rattle.book_steps.specs.Meaning.{Same, Matched}
use Rattle.book_steps.specs.Run.{Lent, Setting, RunState}

-- "Capacity is whole records, at most 32,768 states and 2^24 records of any other table; words beyond stay zero": a
-- table of `size` words a record, of which `room` words are lent
pub record TableSpec (room size most : ℕ) (t : Table) : Type 0 where
  pub len : length t.words ≡ room
  pub whole : size * t.count ≤ room
  pub cap : t.count ≤ most
  pub beyond : (j : ℕ) → size * t.count ≤ j → get_or t.words j 0 ≡ 0

-- "Packet node 2 words, relation node 4, state 12, member 1, transition 2 .. State words: .. 8 to 11 zero"
pub record RoomSpec (lent : Lent) (σ : Tables) : Type 0 where
  pub sp : TableSpec lent.sp 2 16777216 σ.sets
  pub spp : TableSpec lent.spp 4 16777216 σ.base.aut.nodes
  pub states : TableSpec lent.states 12 32768 σ.base.aut.states
  pub members : TableSpec lent.members 1 16777216 σ.base.aut.members
  pub transitions : TableSpec lent.transitions 2 16777216 σ.base.transitions
  pub zero : (x w : ℕ) → 8 ≤ w → w < 12 → get_or σ.base.aut.states.words (12 * x + w) 0 ≡ 0

module _ (S : Setting) where
  abbrev pub N : ℕ
  N = S.fields

  -- ---- what an answer says of the rule r of the line asked for, whose state is x

  -- Demand 3: "each reports exactly the answer and the count of 01's plain search, and none takes more than
  -- 1 + S × P × T pairs .. A search not refused whose budget is at least this number, by its own S and T, always yields
  -- a verdict, yes or no. Each yes or no, from a smaller budget too, says "empty" exactly if no string belongs to the
  -- state". 01: "`spent` is printed exactly if the search needs more than B pairs; the count is then B".
  pub record SearchSpec (σ : Tables) (x : ℕ) (r : Rule N) (v : Verdict) (c : ℕ) : Type 0 where
    pub end : Store
    pub log : Log N
    pub plain : search (answers N S.limits) S.budget x σ.base ≡ given end (v, log)
    pub count : c ≡ log.count
    pub once : Distinct log.expanded
    pub bound : c ≤ 1 + length log.expanded * 2 ^ N * log.longest
    pub enough : 1 + length log.expanded * 2 ^ N * log.longest ≤ S.budget → ¬ (v ≡ spent)
    pub exactly : ¬ (v ≡ spent) → (v ≡ yes) ↔ ((w : Str N) → ¬ In r w)
    pub string : v ≡ no → (w : Str N) × In r w
    pub within : c ≤ S.budget
    pub spent_count : v ≡ spent → c ≡ S.budget
    pub spent_iff : (k : ℕ) → Needs (answers N S.limits) σ.base x k → (v ≡ spent) ↔ (S.budget < k)

  -- "Live: the start packets of a state's strings"; "`live`: line, live packets, .."
  pub record LiveSpec (r : Rule N) (count : ℕ) : Type 0 where
    pub set : Set N
    pub is : IsLive set (In r)
    pub counted : count ≡ SpSize.number set

  abbrev pub pair_of : Transition State N → Pairs
  pair_of t = record { target = t.target; number = SppSize.pairs t.label }

  -- "Pruned: each delta label cut to pairs whose second packet is live in the target; empty ones go." "Each `pair`:
  -- target state number, packet pairs in the label; targets ascend." τ is left by the query.
  pub record PrunedSpec (τ : Tables) (x : ℕ) (r : Rule N) (pairs : List Pairs) : Type 0 where
    pub same : Same N τ.base.aut x r
    pub list : List (Transition State N)
    pub delta : (answers N S.limits).delta x τ.base ≡ given τ.base list
    pub is : IsDelta (Holds N τ.base.aut) list (In r)
    pub ascending : Ascending list
    pub live : State → Set N
    pub lives : (t : Transition State N) → Memᴰ t list
        → IsLive (live t.target) (Holds N τ.base.aut t.target)
    pub cut : pairs ≡ map pair_of (Live.pruned live list)

  -- 02 (i): "`why a` prints a string of the state .. It picks the fewest hops, then the smallest start, then the hops in
  -- order, then the end"; "an empty state prints `none`"
  pub data WhySpec (r : Rule N) : Option (Str N) → Type 0 where
    nothing : ((w : Str N) → ¬ In r w) → WhySpec r none
    picked : {w : Str N} → Picked (In r) w → WhySpec r (some w)

  -- ---- the tables at a place of the book

  -- Demand 2: "constructors, delta, epsilon, live .. sets mean what 01's strings say; labels to distinct targets are
  -- disjoint." "State words: 0 kind, 1 and 2 operands, 3 nesting, 4 epsilon + 1, 5 and 6 transition start and
  -- count + 1, 7 live + 1. Words 4 to 7 are 0 while not worked out, and unused operands are 0; SPP keeps word 4 at 0."
  -- "Nesting: SPP, Dup, Top 0, others 1 + the highest operand" (`Ok`: operands are earlier states). "256 is made".
  pub record StateSpec (σ : Tables) (A : Aut) (st : List ℕ) (x : ℕ) : Type 0 where
    pub form : Ok (Kinds.form {N = N} (kind A x)) A x
    pub nesting : Good.nesting A x ≤ S.limits.nesting
    pub leaf : kind A x ≡ SPP → epsilon_of st x ≡ 0
    pub epsilon : (e : ℕ) → epsilon_of st x ≡ e + 1 → IsEpsilon (Rel.pairs N A.nodes e) (Holds N A x)
    pub inside : (k : ℕ) → count_of st x ≡ k + 1 → start_of st x + k ≤ σ.base.transitions.count
    pub delta : 0 < count_of st x → IsDelta (Holds N A) (map (decoded N A) (list_at σ.base x)) (Holds N A x)
    pub ascending : 0 < count_of st x → Ascending (map (decoded N A) (list_at σ.base x))
    pub live : (l : ℕ) → live_of st x ≡ l + 1 → IsLive (Sp.mem σ.sets.words N l) (Holds N A x)

  -- .. of each state; no state twice; and each line's state holds exactly its rule's strings
  pub record TablesSpec (lent : Lent) (p : RunState) (R : List (Option (Rule N))) : Type 0 where
    pub room : RoomSpec lent p.tables
    pub state : (x : ℕ) → x < states p.tables.base.aut
        → StateSpec p.tables p.tables.base.aut p.tables.base.aut.states.words x
    pub once : let A : Aut = p.tables.base.aut in (x y : ℕ) → x < states A → y < states A
        → kind A x ≡ kind A y → operands N A x ≡ operands N A y → x ≡ y
    pub matched : Matched N p.tables.base.aut p.lines R

  -- A place from which a run is as Claim says: tables in order (`WfTables`: the invariant of the steps) that mean the
  -- rules.
  pub record InOrder (lent : Lent) (p : RunState) (R : List (Option (Rule N))) : Type 0 where
    pub ordered : WfTables N S.limits p.tables
    pub tables : TablesSpec lent p R
