-- A cache of results: slots of four words, the operation's code, two operands, the result. Code 0 is an empty slot.
-- What a slot must satisfy is its user's (`Valid`). A cache is sound if each slot does; a step only notes slots that do.
use Rattle.std.specs.Prelude.{◌≡◌, ◌⊎◌, List, ℕ, Option, Some, None, ◌+◌, ◌*◌, ◌/◌, ◌%◌, ◌≤◌, ◌<◌, length, get_or}

-- of an operation's code, two operands and a result
abbrev pub Valid : Type 1
Valid = ℕ → ℕ → ℕ → ℕ → Type 0

-- the four words of slot j satisfy P
abbrev pub Slot : Valid → List ℕ → ℕ → Type 0
Slot P m j = P (get_or m (4 * j) 0) (get_or m (4 * j + 1) 0) (get_or m (4 * j + 2) 0) (get_or m (4 * j + 3) 0)

-- exactly these four words
abbrev pub Exactly : ℕ → ℕ → ℕ → ℕ → Valid
Exactly op a b r o x y z = (o ≡ op) × (x ≡ a) × (y ≡ b) × (z ≡ r)

-- slot j of m' is as in m
abbrev pub Kept : List ℕ → List ℕ → ℕ → Type 0
Kept m m' j = Slot (Exactly (get_or m (4 * j) 0) (get_or m (4 * j + 1) 0) (get_or m (4 * j + 2) 0) (get_or m (4 * j + 3) 0)) m' j

pub record Sound (P : Valid) (m : List ℕ) : Type 0 where
  pub slots : (j : ℕ) → 4 * j + 3 < length m → Slot P m j

-- m' is m with some slots written, each so that P holds of it
pub record WritesValid (P : Valid) (m m' : List ℕ) : Type 0 where
  pub same : length m' ≡ length m
  pub slots : (j : ℕ) → 4 * j + 3 < length m → Kept m m' j ⊎ Slot P m' j

-- some slot has these four words
pub record Holds (m : List ℕ) (op a b r : ℕ) : Type 0 where
  pub slot : ℕ
  pub inside : 4 * slot + 3 < length m
  pub words : Slot (Exactly op a b r) m slot

-- what a look says
abbrev pub Found : List ℕ → ℕ → ℕ → ℕ → Option ℕ → Type 0
Found m op a b (Some r) = Holds m op a b r
Found m op a b None = Unit

-- of a result of 64 bits, its high half before its low half
abbrev pub FoundWide : List ℕ → ℕ → ℕ → Option ℕ → Type 0
FoundWide m op a (Some r) = Holds m op a (r / 4294967296) (r % 4294967296)
FoundWide m op a None = Unit

-- ---- the codes of one user: those from lo to hi

-- to read: valid of these codes, whatever the slots of other users hold
abbrev pub OnCodes : ℕ → ℕ → Valid → Valid
OnCodes lo hi P op a b r = lo ≤ op → op ≤ hi → P op a b r

-- to note: one of these codes, and valid
pub record OnlyCodes (lo hi : ℕ) (P : Valid) (op a b r : ℕ) : Type 0 where
  pub from : lo ≤ op
  pub to : op ≤ hi
  pub valid : P op a b r
