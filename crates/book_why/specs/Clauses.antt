-- 02 (i): "A query `why a` prints a string of the state in words", "Picking makes no nodes": what the functions that pick the string from the rounds that stand, hop by hop, and write its sentence ask and promise.
use Rattle.std.specs.Prelude.{◌≡◌, Bool, ℕ, suc, ◌+◌, ◌^◌, ◌≤◌, ◌<◌, length, Result, IfSome}
use Rattle.std.specs.Prelude as code
use mathlib.Core.List.{List, Memᴰ, map}
use Rattle.std.proofs.Math.Option.{Option, some}
use Rattle.common.specs.Packets.{Packet}
use Rattle.netkat.specs.Strings.{Str}
use Rattle.netkat_paths.specs.Order.{value}
use Rattle.netkat_paths.specs.Pick.{Way, arrive, onward, from, way}
use Rattle.refusal.specs.declared.Refusal.{Refusal}
use Rattle.sp_steps.specs.Model as Sp
use Rattle.aut_steps.specs.Relations as Rel
use Rattle.aut_delta_steps.specs.Epsilon.{value_of}
use Rattle.aut_delta_steps.specs.Delta.{list_at}
use Rattle.aut_delta_steps.specs.PlainSearch.{decoded}
use Rattle.aut_query_steps.specs.Tables.{Tables, diagrams}
use Rattle.aut_query_stage.specs.Lent.{tables_in}
use Rattle.aut_states.specs.declared.Config.{Config}
use Rattle.aut_states.specs.declared.Limits.{Limits}
use Rattle.aut_states.specs.declared.Members.{Members}
use Rattle.aut_relations.specs.declared.Aut.{Aut as Lent}
use Rattle.aut_free.specs.Clear.{clear_tables}
use Rattle.aut_query_calls.specs.Working.{clear_in, with_members}
use Rattle.aut_live_words.specs.Work.{seconds}
use Rattle.aut_why_steps.specs.Why.{Sets, fewest, round_at, pick_at, pick_by}
use Rattle.aut_why_words.specs.Walk.{HasSets, Standing}
use Rattle.aut_why_again.specs.Rounds.{hops_of}
use Rattle.aut_why_again.specs.Clauses.{StandingIn}
use Rattle.aut_why_hop.specs.Clauses.{LeastReady}
use Rattle.book_steps.specs.Answers.{sentence, why_answer}
use Rattle.book_steps.specs.Sentence.{word_length, sentence_length}
use Rattle.book_writer.specs.declared.output.Output.{Output}
use Rattle.book_writer.specs.Clauses.{Room, Put, Answers, start_part, hop_part, end_part}
use Rattle.book_why.specs.declared.Spot.{Spot}

-- what follows the packet q at the state x, with k hops, from what stands in the tables (aut_why_steps, Why: pick_at)
abbrev pub way_at : (N : ℕ) → Tables → List Sets → (k x : ℕ) → Packet N → Option (Way N)
way_at N σ ws k x q =
    way (λ s. Rel.pairs N σ.base.aut.nodes (value_of σ.base.aut.states.words s)) (λ s. map (decoded N σ.base.aut) (list_at σ.base s))
    (λ j s. Sp.mem σ.sets.words N (round_at N ws j s)) k x q

-- ---- where the picking stands

-- the rounds stand, and k hops more, v, follow the packet q at the state x; words 10 have round `mark`
pub record Going (N : ℕ) (l : Limits) (σ : Tables) (s p : List ℕ) (n : ℕ) (ws : List Sets) (k mark x : ℕ) (q : Packet N) (v : Way N) : Type 0 where
  pub standing : Standing N l σ s p n ws
  pub least : LeastReady N (diagrams σ) s
  pub inside : k < length ws
  pub marked : HasSets 10 σ.base.aut.states.words p n (round_at N ws mark)
  pub among : Memᴰ x (seconds p 0 n)
  pub way : way_at N (clear_tables σ) ws k x q ≡ some v

-- the string w with k hops is picked for x
pub record Picks (N : ℕ) (l : Limits) (σ : Tables) (s p : List ℕ) (n : ℕ) (ws : List Sets) (k x : ℕ) (w : Str N) : Type 0 where
  pub standing : Standing N l σ s p n ws
  pub least : LeastReady N (diagrams σ) s
  pub inside : k < length ws
  pub among : Memᴰ x (seconds p 0 n)
  pub is : pick_at N (clear_tables σ) ws k x ≡ some w

-- .. of all tables that are lent
abbrev pub GoingIn : (g : Config) → Lent → (n : ℕ) → List Sets → (k mark i : ℕ) → Packet g.fields → Way g.fields → Type 0
GoingIn g x n ws k mark i q v = Going g.fields g.limits (tables_in x) x.scratch.now x.pending.now n ws k mark i q v

abbrev pub PicksIn : (g : Config) → Lent → (n : ℕ) → List Sets → (k i : ℕ) → Str g.fields → Type 0
PicksIn g x n ws k i w = Picks g.fields g.limits (tables_in x) x.scratch.now x.pending.now n ws k i w

-- no packet node is made, and of the states only words 8 to 11 are written
abbrev pub Unmade : Lent → Lent → Type 0
Unmade x y = clear_in y ≡ clear_in x

-- ---- the start

-- no member is read: here and below, some members are asked for, and the promise is of any
pub record PreStart (g : Config) (x : Lent) (o : Output) (n hops i : ℕ) : Type 0 where
  pub members : Members
  pub rounds : List Sets
  pub string : Str g.fields
  pub picks : PicksIn g (with_members members x) n rounds hops i string
  pub most : hops ≤ 2 ^ 55
  pub room : Room (5 + word_length g.fields) o

pub record Started (g : Config) (n : ℕ) (ws : List Sets) (hops : ℕ) (w : Str g.fields) (x : Lent) (o : Output) (r : Spot) (y : Lent) (o' : Output) : Type 0 where
  pub packet : Packet g.fields
  pub way : Way g.fields
  pub number : value packet ≡ r.packet
  pub going : GoingIn g y n ws hops r.rounds.mark r.state packet way
  pub whole : w ≡ from packet way
  pub same : r.rounds.n ≡ n
  pub unmade : Unmade x y
  pub put : Put (start_part g.fields r.packet) o o'

pub record PostStart (g : Config) (n hops i : ℕ) (x : Lent) (o : Output) (r : Spot) (y : Lent) (o' : Output) : Type 0 where
  pub gives : (mem : Members) (ws : List Sets) (w : Str g.fields) → PicksIn g (with_members mem x) n ws hops i w → Started g n ws hops w (with_members mem x) o r (with_members mem y) o'

-- ---- a hop, j hops before the end

pub record PreNext (g : Config) (x : Lent) (o : Output) (n j : ℕ) (spot : Spot) : Type 0 where
  pub members : Members
  pub rounds : List Sets
  pub packet : Packet g.fields
  pub way : Way g.fields
  pub number : value packet ≡ spot.packet
  pub going : GoingIn g (with_members members x) n rounds (suc j) spot.rounds.mark spot.state packet way
  pub room : Room (4 + word_length g.fields) o

pub record Nexted (g : Config) (n : ℕ) (ws : List Sets) (j : ℕ) (first : Bool) (v : Way g.fields) (x : Lent) (o : Output) (r : Spot) (y : Lent) (o' : Output) : Type 0 where
  pub packet : Packet g.fields
  pub way : Way g.fields
  pub number : value packet ≡ r.packet
  pub going : GoingIn g y n ws j r.rounds.mark r.state packet way
  pub whole : v ≡ onward packet way
  pub same : r.rounds.n ≡ n
  pub unmade : Unmade x y
  pub put : Put (hop_part g.fields first r.packet) o o'

pub record PostNext (g : Config) (n j : ℕ) (first : Bool) (spot : Spot) (x : Lent) (o : Output) (r : Spot) (y : Lent) (o' : Output) : Type 0 where
  pub gives : (mem : Members) (ws : List Sets) (q : Packet g.fields) (v : Way g.fields) → value q ≡ spot.packet → GoingIn g (with_members mem x) n ws (suc j) spot.rounds.mark spot.state q v
      → Nexted g n ws j first v (with_members mem x) o r (with_members mem y) o'

-- ---- the end

pub record PreLast (g : Config) (x : Lent) (o : Output) (spot : Spot) : Type 0 where
  pub members : Members
  pub count : ℕ
  pub rounds : List Sets
  pub packet : Packet g.fields
  pub way : Way g.fields
  pub number : value packet ≡ spot.packet
  pub going : GoingIn g (with_members members x) count rounds 0 spot.rounds.mark spot.state packet way
  pub room : Room (5 + word_length g.fields) o

pub record Lasted (g : Config) (n : ℕ) (ws : List Sets) (v : Way g.fields) (o : Output) (y : Lent) (o' : Output) : Type 0 where
  pub packet : Packet g.fields
  pub number : ℕ
  pub is : value packet ≡ number
  pub whole : v ≡ arrive packet
  pub standing : StandingIn g y n ws
  pub put : Put (end_part g.fields number) o o'

pub record PostLast (g : Config) (spot : Spot) (x : Lent) (o : Output) (y : Lent) (o' : Output) : Type 0 where
  pub gives : (mem : Members) (n : ℕ) (ws : List Sets) (q : Packet g.fields) (v : Way g.fields) → value q ≡ spot.packet → GoingIn g (with_members mem x) n ws 0 spot.rounds.mark spot.state q v
      → Lasted g n ws v o (with_members mem y) o'

-- ---- the whole sentence

pub record PreString (g : Config) (x : Lent) (o : Output) (n hops i : ℕ) : Type 0 where
  pub members : Members
  pub rounds : List Sets
  pub string : Str g.fields
  pub picks : PicksIn g (with_members members x) n rounds hops i string
  pub most : hops ≤ 2 ^ 55
  pub room : Room (sentence_length g.fields hops) o

pub record Stringed (g : Config) (n : ℕ) (ws : List Sets) (w : Str g.fields) (x : Lent) (o : Output) (y : Lent) (o' : Output) : Type 0 where
  pub unmade : Unmade x y
  pub standing : StandingIn g y n ws
  pub put : Put (sentence g.fields w) o o'

pub record PostString (g : Config) (n hops i : ℕ) (x : Lent) (o : Output) (y : Lent) (o' : Output) : Type 0 where
  pub gives : (mem : Members) (ws : List Sets) (w : Str g.fields) → PicksIn g (with_members mem x) n ws hops i w → Stringed g n ws w (with_members mem x) o (with_members mem y) o'

-- ---- the answer

-- the rounds stand; f is the fewest hops of a string of x, if there is one, and then a string is picked
pub record Answering (N : ℕ) (l : Limits) (σ : Tables) (s p : List ℕ) (n : ℕ) (ws : List Sets) (f : code.Option ℕ) (x : ℕ) : Type 0 where
  pub standing : Standing N l σ s p n ws
  pub among : Memᴰ x (seconds p 0 n)
  pub hops : f ≡ hops_of (fewest N x 0 ws)
  pub known : (k : ℕ) → fewest N x 0 ws ≡ some k → (w : Str N) × (pick_at N (clear_tables σ) ws k x ≡ some w) × (k < length ws) × (length w.hops ≡ k)
  pub most : IfSome f (λ k. k ≤ 2 ^ 55)

abbrev pub AnsweringIn : Config → Lent → (n : ℕ) → List Sets → code.Option ℕ → (i : ℕ) → Type 0
AnsweringIn g x n ws f i = Answering g.fields g.limits (tables_in x) x.scratch.now x.pending.now n ws f i

pub record PreAnswer (g : Config) (x : Lent) (n : ℕ) (f : code.Option ℕ) (i : ℕ) : Type 0 where
  pub members : Members
  pub rounds : List Sets
  pub answering : AnsweringIn g (with_members members x) n rounds f i

pub record WhyAnswered (g : Config) (n : ℕ) (ws : List Sets) (i : ℕ) (x : Lent) (o : Output) (r : Result Unit Refusal) (y : Lent) (o' : Output) : Type 0 where
  pub unmade : Unmade x y
  pub standing : StandingIn g y n ws
  pub answers : Answers (why_answer g.fields (pick_by g.fields (clear_in x) ws i (fewest g.fields i 0 ws))) o r o'

pub record PostAnswer (g : Config) (n : ℕ) (f : code.Option ℕ) (i : ℕ) (x : Lent) (o : Output) (r : Result Unit Refusal) (y : Lent) (o' : Output) : Type 0 where
  pub gives : (mem : Members) (ws : List Sets) → AnsweringIn g (with_members mem x) n ws f i → WhyAnswered g n ws i (with_members mem x) o r (with_members mem y) o'
