-- 01, "Lent tables": states of 12 words, members of 1. State words: 0 kind (1 to 12 in AExpr's order), 1 and 2 operands (for Union and
-- Intersect, start and count in the members; for SPP, word 1 is the relation's handle), 3 nesting; unused operands are 0.
-- Capacity is whole records, at most 32,768 states and 2^24 members.
use Rattle.std.specs.Prelude.{Bool, ◌&&◌, List, [], ◌∷◌, ℕ, zero, suc, ◌+◌, ◌*◌, ◌/◌, ltb, leb, length, get_or, set}
use Rattle.common.specs.Outcome.{Step}
use Rattle.common.specs.Runs.{Table, placed}

-- ---- kinds, in AExpr's order

abbrev pub SPP : ℕ
SPP = 1

abbrev pub UNION : ℕ
UNION = 2

abbrev pub INTERSECT : ℕ
INTERSECT = 3

abbrev pub XOR : ℕ
XOR = 4

abbrev pub DIFFERENCE : ℕ
DIFFERENCE = 5

abbrev pub COMPLEMENT : ℕ
COMPLEMENT = 6

abbrev pub SEQUENCE : ℕ
SEQUENCE = 7

abbrev pub STAR : ℕ
STAR = 8

abbrev pub DUP : ℕ
DUP = 9

abbrev pub NEXT : ℕ
NEXT = 10

abbrev pub UNTIL : ℕ
UNTIL = 11

abbrev pub TOP : ℕ
TOP = 12

-- ---- the words of a state

unfoldable pub kind_of : List ℕ → ℕ → ℕ
kind_of st x = get_or st (12 * x) 0

unfoldable pub op1 : List ℕ → ℕ → ℕ
op1 st x = get_or st (12 * x + 1) 0

unfoldable pub op2 : List ℕ → ℕ → ℕ
op2 st x = get_or st (12 * x + 2) 0

unfoldable pub nest : List ℕ → ℕ → ℕ
nest st x = get_or st (12 * x + 3) 0

-- k words from a
unfoldable pub words : List ℕ → ℕ → ℕ → List ℕ
words s a zero = []
words s a (suc k) = get_or s a 0 ∷ words s (a + 1) k

-- the members of a Union or an Intersect
abbrev pub list_of : List ℕ → List ℕ → ℕ → List ℕ
list_of st m x = words m (op1 st x) (op2 st x)

-- ---- limits and capacities

-- 01's limits: 8 nesting above 256, 6 lists above 64, 7 products above 32, 9 transitions above 64. They are given from above.
pub record Limits : Type 0 where
  pub nesting : ℕ
  pub list : ℕ
  pub products : ℕ
  pub transitions : ℕ

abbrev pub limits01 : Limits
limits01 = record { nesting = 256; list = 64; products = 32; transitions = 64 }

abbrev pub state_cap : ℕ
state_cap = 32768

abbrev pub member_cap : ℕ
member_cap = 16777216

-- room for one more state, and for k more members
unfoldable pub room_s : Table → Bool
room_s s = ltb s.count (length s.words / 12) && ltb s.count state_cap

unfoldable pub room_m : Table → ℕ → Bool
room_m m k = leb (m.count + k) (length m.words) && leb (m.count + k) member_cap

-- the state n
unfoldable pub put4 : List ℕ → ℕ → ℕ → ℕ → ℕ → ℕ → List ℕ
put4 st n k x y e = set (set (set (set st (12 * n) k) (12 * n + 1) x) (12 * n + 2) y) (12 * n + 3) e

-- ---- the store

-- the tables that make up a state: its words, and its members where it has any
pub record Exprs : Type 0 where
  pub states : Table
  pub members : Table

abbrev pub exprs : Table → Table → Exprs
exprs s m = record { states = s; members = m }

-- the store of the constructors
pub record Aut : Type 0 where
  pub nodes : Table
  pub states : Table
  pub members : Table

abbrev pub aut : Table → Table → Table → Aut
aut r s m = record { nodes = r; states = s; members = m }

-- a step on some of the tables as one on all
abbrev pub put_nodes : Table → Aut → Aut
put_nodes t σ = aut t σ.states σ.members

abbrev pub put_states : Table → Aut → Aut
put_states t σ = aut σ.nodes t σ.members

abbrev pub put_exprs : Exprs → Aut → Aut
put_exprs t σ = aut σ.nodes t.states t.members

abbrev pub on_nodes : {A : Type 0} → Step Table A → Step Aut A
on_nodes c σ = placed put_nodes σ (c σ.nodes)

abbrev pub on_states : {A : Type 0} → Step Table A → Step Aut A
on_states c σ = placed put_states σ (c σ.states)

abbrev pub on_exprs : {A : Type 0} → Step Exprs A → Step Aut A
on_exprs c σ = placed put_exprs σ (c (exprs σ.states σ.members))

-- the same for a step on states within one on states and members
abbrev pub on_states_of : {A : Type 0} → Step Table A → Step Exprs A
on_states_of c τ = placed (λ s τ. exprs s τ.members) τ (c τ.states)
