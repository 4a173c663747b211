-- Tables in order. The relation store is well formed; the tables fit; past the states in use the words are 0; each state's operands are earlier states, its nesting is 1 + the highest operand's
-- (0 for SPP, Dup, Top) and at most the limit; lists are among the members, within the limit; Union's ascend without duplicates, Intersect's too, with the SPP member last;
-- each state is one that its constructor gives; members are without gaps: a list starts where the lists of the states before it end;
-- no two states are equal; an SPP state's relation is valid at depth N. And when tables have grown: they have all that was there, as it was.
-- Words 4 to 11 of a state may change later, so of them nothing is said.
use Rattle.std.specs.Prelude.{◌≡◌, List, [], ◌∷◌, ◌++◌, ℕ, zero, suc, ◌+◌, ◌*◌, ◌≤◌, ◌<◌, max, eqb, length, get_or, if◌then◌else◌}
use Rattle.common.specs.Runs.{Table}
use Rattle.spp_steps.specs.Wf.{Wf, Ext, ValidAt}
use Rattle.aut_steps.specs.Tables.{SPP, UNION, INTERSECT, kind_of, op1, op2, nest, list_of, Limits, state_cap, member_cap, Aut}
use Rattle.aut_steps.specs.Intern.{nest_l}
use Rattle.aut_steps.specs.Kinds.{Form, leaf, constant, one, two, many, nothing, form, operands_by}
use Rattle.aut_steps.specs.Made.{MadeOf}
use Rattle.aut_steps.specs.Ascending.{All, Increasing}

-- ---- the words of a state, in a store

abbrev pub states : Aut → ℕ
states σ = σ.states.count

abbrev pub kind : Aut → ℕ → ℕ
kind σ x = kind_of σ.states.words x

abbrev pub first : Aut → ℕ → ℕ
first σ x = op1 σ.states.words x

abbrev pub second : Aut → ℕ → ℕ
second σ x = op2 σ.states.words x

abbrev pub nesting : Aut → ℕ → ℕ
nesting σ x = nest σ.states.words x

abbrev pub members : Aut → ℕ → List ℕ
members σ x = list_of σ.states.words σ.members.words x

-- ---- tables that have grown

-- the states in use keep their kind, operands and nesting; past those of t nothing is touched
pub record ExtS (s t : Table) : Type 0 where
  pub more : s.count ≤ t.count
  pub len : length t.words ≡ length s.words
  pub keep : (i w : ℕ) → i < s.count → w < 4 → get_or t.words (12 * i + w) 0 ≡ get_or s.words (12 * i + w) 0
  pub beyond : (j : ℕ) → 12 * t.count ≤ j → get_or t.words j 0 ≡ get_or s.words j 0

-- the members in use are as they were
pub record ExtM (s t : Table) : Type 0 where
  pub more : s.count ≤ t.count
  pub len : length t.words ≡ length s.words
  pub keep : (i : ℕ) → i < s.count → get_or t.words i 0 ≡ get_or s.words i 0
  pub beyond : (j : ℕ) → t.count ≤ j → get_or t.words j 0 ≡ get_or s.words j 0

pub record ExtAut (σ τ : Aut) : Type 0 where
  pub nodes : Ext σ.nodes τ.nodes
  pub states : ExtS σ.states τ.states
  pub members : ExtM σ.members τ.members

-- ---- a state in order

pub record Leaf (N : ℕ) (σ : Aut) (x : ℕ) : Type 0 where
  pub handle : ValidAt σ.nodes N (first σ x)
  pub unused : second σ x ≡ 0
  pub nested : nesting σ x ≡ 0

pub record Constant (σ : Aut) (x : ℕ) : Type 0 where
  pub unused1 : first σ x ≡ 0
  pub unused2 : second σ x ≡ 0
  pub nested : nesting σ x ≡ 0

pub record One (σ : Aut) (x : ℕ) : Type 0 where
  pub earlier : first σ x < x
  pub unused : second σ x ≡ 0
  pub nested : nesting σ x ≡ nesting σ (first σ x) + 1

pub record Two (σ : Aut) (x : ℕ) : Type 0 where
  pub earlier1 : first σ x < x
  pub earlier2 : second σ x < x
  pub nested : nesting σ x ≡ max (nesting σ (first σ x)) (nesting σ (second σ x)) + 1

pub record Many (σ : Aut) (x : ℕ) : Type 0 where
  pub inside : first σ x + second σ x ≤ σ.members.count
  pub earlier : All (λ y. y < x) (members σ x)
  pub nested : nesting σ x ≡ nest_l σ.states.words 0 (members σ x) + 1

abbrev pub Ok : {N : ℕ} → Form N → Aut → ℕ → Type 0
Ok {N} leaf σ x = Leaf N σ x
Ok (constant r) σ x = Constant σ x
Ok (one c) σ x = One σ x
Ok (two c) σ x = Two σ x
Ok (many c) σ x = Many σ x
Ok nothing σ x = ⊥

-- a Union's list: two or more, ascending, each once
pub record United (xs : List ℕ) : Type 0 where
  pub some : 2 ≤ length xs
  pub rising : Increasing 0 xs

-- an Intersect's list: one or more that are not SPP, ascending, each once; then an SPP, or nothing
abbrev pub LastSpp : List ℕ → List ℕ → Type 0
LastSpp st [] = Unit
LastSpp st (x ∷ xs) = (kind_of st x ≡ SPP) × (xs ≡ [])

pub record Meeting (st xs : List ℕ) : Type 0 where
  pub others : List ℕ
  pub last : List ℕ
  pub parts : xs ≡ others ++ last
  pub some : 1 ≤ length others
  pub rising : Increasing 0 others
  pub no_spp : All (λ y. kind_of st y ≡ SPP → ⊥) others
  pub spp_last : LastSpp st last

-- state x is as its constructor gives it
abbrev pub Made : ℕ → Aut → ℕ → Type 0
Made N σ x = MadeOf N σ.states.words (kind σ x) (first σ x) (second σ x) (members σ x)

-- how many members a state of kind k with the second operand c has
abbrev pub length_as : ℕ → ℕ → ℕ
length_as k c = if eqb k UNION then c else if eqb k INTERSECT then c else 0

-- how many the states before x have
unfoldable pub members_before : Aut → ℕ → ℕ
members_before σ zero = 0
members_before σ (suc x) = members_before σ x + length_as (kind σ x) (second σ x)

abbrev pub operands : ℕ → Aut → ℕ → List ℕ
operands N σ x = operands_by (form {N = N} (kind σ x)) σ.states.words σ.members.words x

pub record WfAut (N : ℕ) (L : Limits) (σ : Aut) : Type 0 where
  pub nodes : Wf N σ.nodes
  pub fits : 12 * states σ ≤ length σ.states.words
  pub small : states σ ≤ state_cap
  pub fresh : (j : ℕ) → 12 * states σ ≤ j → get_or σ.states.words j 0 ≡ 0
  pub members_fit : σ.members.count ≤ length σ.members.words
  pub members_small : σ.members.count ≤ member_cap
  pub ok : (x : ℕ) → x < states σ → Ok (form {N = N} (kind σ x)) σ x
  pub shallow : (x : ℕ) → x < states σ → nesting σ x ≤ L.nesting
  pub short : (x : ℕ) → x < states σ → UNION ≤ kind σ x → kind σ x ≤ INTERSECT → second σ x ≤ L.list
  pub unions : (x : ℕ) → x < states σ → kind σ x ≡ UNION → United (members σ x)
  pub intersects : (x : ℕ) → x < states σ → kind σ x ≡ INTERSECT → Meeting σ.states.words (members σ x)
  pub made : (x : ℕ) → x < states σ → Made N σ x
  pub packed : (x : ℕ) → x < states σ → UNION ≤ kind σ x → kind σ x ≤ INTERSECT → first σ x ≡ members_before σ x
  pub counted : σ.members.count ≡ members_before σ (states σ)
  pub once : (x y : ℕ) → x < states σ → y < states σ → kind σ x ≡ kind σ y → operands N σ x ≡ operands N σ y → x ≡ y
