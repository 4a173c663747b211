-- 02 (ii): "a record .. that cannot be made of those before it". What the tests promise in the words of image_steps/specs/Records, and what they ask.
use Rattle.std.specs.Prelude.{◌≡◌, Bool, false, List, ◌⊎◌, Option, Some, None, ℕ}
use Rattle.common.specs.Runs.{Table, table}
use Rattle.aut_steps.specs.Tables.{SPP, UNION, INTERSECT, XOR, DIFFERENCE, COMPLEMENT, SEQUENCE, STAR, DUP, UNTIL, TOP, Limits, Aut, aut}
use Rattle.aut_states.specs.Clauses.{limits_of}
use Rattle.aut_states.specs.declared.Limits.{Limits as Bounds}
use Rattle.image_steps.specs.Records as Records
use Rattle.image_kinds.specs.declared.Words.{Words}
use Rattle.image_kinds.specs.declared.Shape.{Shape}
use Rattle.image_kinds.specs.declared.Shape.TheVariants as shape

-- ---- kinds

-- no record of this kind fits
pub record NoKind (k : ℕ) : Type 0 where
  pub never : (N : ℕ) (L : Limits) (σ : Aut) (xs : List ℕ) (x y e : ℕ) → Records.state_fits N L σ xs k x y e ≡ false

abbrev pub ShapeOf : ℕ → Shape → Type 0
ShapeOf k shape.Leaf = k ≡ SPP
ShapeOf k shape.Constant = (k ≡ DUP) ⊎ (k ≡ TOP)
ShapeOf k shape.Single = (k ≡ COMPLEMENT) ⊎ (k ≡ STAR)
ShapeOf k shape.Pair = ((k ≡ XOR) ⊎ (k ≡ DIFFERENCE)) ⊎ ((k ≡ SEQUENCE) ⊎ (k ≡ UNTIL))
ShapeOf k shape.List = (k ≡ UNION) ⊎ (k ≡ INTERSECT)

abbrev pub Shaped : ℕ → Option Shape → Type 0
Shaped k None = NoKind k
Shaped k (Some s) = ShapeOf k s

-- of no other state
abbrev pub IsAtom : ℕ → Type 0
IsAtom k = (k ≡ SPP) ⊎ ((k ≡ DUP) ⊎ (k ≡ TOP))

-- ---- what is promised

-- the member is no good, or the list goes on
abbrev pub turn_of : Option Bool → (Bool → Bool) → Bool
turn_of None go = false
turn_of (Some seen) go = go seen

-- the member decides, or the list goes on
abbrev pub met_of : Option Bool → Bool → Bool
met_of (Some b) go = b
met_of None go = go

-- the whole test, for the kinds of each shape; tables that are not read are any, and so is a list that is not there
pub record AtomFits (N : ℕ) (relations : Table) (w : Words) (r : Bool) : Type 0 where
  pub is : (L : Limits) (s m : Table) (xs : List ℕ) → Records.state_fits N L (aut relations s m) xs w.kind w.first w.second w.nesting ≡ r

pub record SingleFits (l : Bounds) (st : List ℕ) (n : ℕ) (w : Words) (r : Bool) : Type 0 where
  pub is : (N : ℕ) (t m : Table) (xs : List ℕ) → Records.state_fits N (limits_of l) (aut t (table st n) m) xs w.kind w.first w.second w.nesting ≡ r

pub record PairFits (N : ℕ) (l : Bounds) (st : List ℕ) (n : ℕ) (w : Words) (r : Bool) : Type 0 where
  pub is : (t m : Table) (xs : List ℕ) → Records.state_fits N (limits_of l) (aut t (table st n) m) xs w.kind w.first w.second w.nesting ≡ r

-- .. where the members so far end at `members`
pub record ListFits (N : ℕ) (l : Bounds) (st : List ℕ) (n : ℕ) (xs : List ℕ) (members : ℕ) (w : Words) (r : Bool) : Type 0 where
  pub is : (t : Table) (m : List ℕ) → Records.state_fits N (limits_of l) (aut t (table st n) (table m members)) xs w.kind w.first w.second w.nesting ≡ r
