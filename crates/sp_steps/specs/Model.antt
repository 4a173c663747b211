-- 01, "sp.rs" and "Lent tables": packet sets on a table of nodes, two words a node, as the Rust's steps make them; refusal 20.
use Rattle.std.specs.Prelude.{◌≡◌, refl, Bool, true, false, ◌&&◌, ◌||◌, List, ℕ, zero, suc, ◌+◌, ◌*◌, ◌-◌, ◌/◌, ◌%◌, eqb, ltb, length, get_or, set}
use Rattle.common.specs.Packets.{Packet, end, bit}
use Rattle.common.specs.Outcome.{Outcome, refused, given, Step, return, ◌>>=◌}
use Rattle.common.specs.Runs.{Table, table}
use Rattle.sp_steps.specs.Word.{flip}
use Rattle.sp_steps.specs.Op.{Op}

-- the stored child of node i
unfoldable pub kid : List ℕ → Bool → ℕ → ℕ
kid t false i = get_or t (2 * i) 0
kid t true i = get_or t (2 * i + 1) 0

-- the child of a handle: an odd handle complements both
unfoldable pub child : List ℕ → Bool → ℕ → ℕ
child t b h = flip (h % 2) (kid t b (h / 2 - 1))

-- the packet p is in the set h of depth d
unfoldable pub mem : List ℕ → (d : ℕ) → ℕ → Packet d → Bool
mem t d h end = eqb (h % 2) 1
mem t d h (bit {n} b p) = mem t n (child t b h) p

-- the empty set and the full set of a depth
abbrev pub zero_at : ℕ → ℕ
zero_at d = 2 * d

abbrev pub one_at : ℕ → ℕ
one_at d = 2 * d + 1

-- ---- mk

-- node i has the stored children x and y
unfoldable pub same : List ℕ → ℕ → ℕ → ℕ → Bool
same t x y i = eqb (kid t false i) x && eqb (kid t true i) y

-- the first of the k nodes from i on with the stored children x and y, or i + k
unfoldable pub seek : List ℕ → ℕ → ℕ → ℕ → ℕ → ℕ
seek t x y i zero = i
seek t x y i (suc k) = elim (same t x y i) [ true ↦ i | false ↦ seek t x y (suc i) k ]

-- the most records of a table
abbrev pub most : ℕ
most = 16777216

-- one more record is left
unfoldable pub room : Table → Bool
room σ = ltb σ.count (length σ.words / 2) && ltb σ.count most

-- a node more
unfoldable pub put : ℕ → ℕ → Table → Table
put x y σ = table (set (set σ.words (2 * σ.count) x) (2 * σ.count + 1) y) (σ.count + 1)

-- the handle of node i, complemented if s is 1
abbrev pub handle : ℕ → ℕ → ℕ
handle s i = flip s (2 * i + 2)

abbrev pub put_if : Bool → ℕ → ℕ → ℕ → Step Table ℕ
put_if true s x y σ = given (put x y σ) (handle s σ.count)
put_if false s x y σ = refused 20

abbrev pub found_if : Bool → ℕ → ℕ → ℕ → ℕ → Step Table ℕ
found_if true i s x y σ = given σ (handle s i)
found_if false i s x y σ = put_if (room σ) s x y σ

unfoldable pub intern : ℕ → ℕ → ℕ → Step Table ℕ
intern s x y σ = let i : ℕ = seek σ.words x y 0 σ.count in found_if (ltb i σ.count) i s x y σ

-- the set whose packets with first bit 0 are x0 and with first bit 1 are x1; the stored left child is even
unfoldable pub mk : ℕ → ℕ → Step Table ℕ
mk x0 x1 = intern (x0 % 2) (flip (x0 % 2) x0) (flip (x0 % 2) x1)

-- ---- operations on two sets

-- What an operation finds out with no look at the nodes: the set, or with which operation on which two sets to go down.
pub data Exit : Type 0 where
  out : ℕ → Exit
  on : Op → ℕ → ℕ → Exit

abbrev pub pick : Bool → Exit → Exit → Exit
pick true x y = x
pick false x y = y

-- the lower handle first
abbrev pub ordered : Op → ℕ → ℕ → Exit
ordered o a b = pick (ltb b a) (on o b a) (on o a b)

unfoldable pub exit : Op → ℕ → ℕ → ℕ → Exit
exit Op.union d a b =
    pick (eqb a b) (out a)
    (pick (eqb a (flip 1 b)) (out (one_at d))
    (pick (eqb a (zero_at d) || eqb b (one_at d)) (out b)
    (pick (eqb b (zero_at d) || eqb a (one_at d)) (out a) (ordered Op.union a b))))
exit Op.xor d a b =
    pick (eqb a b) (out (zero_at d))
    (pick (eqb a (zero_at d)) (out b)
    (pick (eqb b (zero_at d)) (out a)
    (pick (eqb a (one_at d)) (out (flip 1 b))
    (pick (eqb b (one_at d)) (out (flip 1 a)) (ordered Op.xor a b)))))

-- both sides, and the set made of them
unfoldable pub join : (ℕ → ℕ → Step Table ℕ) → ℕ → ℕ → ℕ → ℕ → Step Table ℕ
join f a0 b0 a1 b1 = do
  x0 ← f a0 b0
  x1 ← f a1 b1
  mk x0 x1

unfoldable pub both : (ℕ → ℕ → Step Table ℕ) → ℕ → ℕ → Step Table ℕ
both f a b σ = join f (child σ.words false a) (child σ.words false b) (child σ.words true a) (child σ.words true b) σ

abbrev pub follow : Exit → (Op → ℕ → ℕ → Step Table ℕ) → Step Table ℕ
follow (out h) f = return h
follow (on o a b) f = both (f o) a b

-- an exit at depth 0 is always `out` (`exit_flat`)
abbrev pub last : Exit → ℕ
last (out h) = h
last (on o a b) = a

unfoldable pub apply : Op → ℕ → ℕ → ℕ → Step Table ℕ
apply o zero a b = return (last (exit o zero a b))
apply o (suc d) a b = follow (exit o (suc d) a b) (λ o'. apply o' d)

unfoldable pub union : ℕ → ℕ → ℕ → Step Table ℕ
union d a b = apply Op.union d a b

unfoldable pub xor : ℕ → ℕ → ℕ → Step Table ℕ
xor d a b = apply Op.xor d a b

unfoldable pub complement : ℕ → ℕ
complement a = flip 1 a

unfoldable pub intersect : ℕ → ℕ → ℕ → Step Table ℕ
intersect d a b = do
  r ← union d (complement a) (complement b)
  return (complement r)

unfoldable pub difference : ℕ → ℕ → ℕ → Step Table ℕ
difference d a b = do
  r ← union d (complement a) b
  return (complement r)

unfoldable pub is_zero : ℕ → ℕ → Bool
is_zero d a = eqb a (zero_at d)

unfoldable pub is_universal : ℕ → ℕ → Bool
is_universal d a = eqb a (one_at d)

-- how many packets are in the set
unfoldable pub size : List ℕ → ℕ → ℕ → ℕ
size t zero h = h % 2
size t (suc d) h = size t d (child t false h) + size t d (child t true h)

-- the store begun: the empty sets of depth 1 to d, in a table with no node
unfoldable pub constants : ℕ → Step Table ℕ
constants zero = return 0
constants (suc d) = do
  z ← constants d
  mk z z
