-- 01, port order, step 2 (spp.rs): the steps on the store of relations. A node has four words, the handles x00, x01, x10, x11; the first index is the
-- bit of the first packet. Handle h of depth 1 or more is node h - 2; of depth 0 there are 0, nothing, and 1, the one pair. A step that needs a node
-- for which the table has no room is refused with 21.
use Rattle.std.specs.Prelude.{Bool, true, false, ◌&&◌, ◌||◌, List, ℕ, zero, suc, ◌+◌, ◌*◌, ◌-◌, ◌/◌, eqb, ltb, length, get_or, set, if◌then◌else◌}
use Rattle.common.specs.Packets.{Packet, end, bit}
use Rattle.common.specs.Outcome.{refused, given, Step, return, ◌>>=◌}
use Rattle.common.specs.Runs.{Table, table}

-- ---- nodes

-- one handle for each pair of bits
abbrev pub Quad : Type 0
Quad = Bool → Bool → ℕ

abbrev pub quad : ℕ → ℕ → ℕ → ℕ → Quad
quad x00 x01 x10 x11 false false = x00
quad x00 x01 x10 x11 false true = x01
quad x00 x01 x10 x11 true false = x10
quad x00 x01 x10 x11 true true = x11

-- the children of node k
unfoldable pub kid : List ℕ → ℕ → Quad
kid t k false false = get_or t (4 * k) 0
kid t k false true = get_or t (4 * k + 1) 0
kid t k true false = get_or t (4 * k + 2) 0
kid t k true true = get_or t (4 * k + 3) 0

-- the children of a handle
unfoldable pub kids : List ℕ → ℕ → Quad
kids t h i j = kid t (h - 2) i j

-- whether the relation h of depth d relates the first packet to the second
unfoldable pub mem : List ℕ → (d : ℕ) → ℕ → Packet d → Packet d → Bool
mem t zero h end end = eqb h 1
mem t (suc d) h (bit i p) (bit j q) = mem t d (kids t h i j) p q

-- whether node k has the children X
unfoldable pub same : List ℕ → Quad → ℕ → Bool
same t X k = (eqb (kid t k false false) (X false false) && eqb (kid t k false true) (X false true))
    && (eqb (kid t k true false) (X true false) && eqb (kid t k true true) (X true true))

-- the first of the k nodes from i on with the children X, or i + k
unfoldable pub seek : List ℕ → Quad → ℕ → ℕ → ℕ
seek t X i zero = i
seek t X i (suc k) = elim (same t X i) [ true ↦ i | false ↦ seek t X (suc i) k ]

abbrev pub cap : ℕ
cap = 16777216

-- whether the table has room for one more node
unfoldable pub room : List ℕ → ℕ → Bool
room t n = ltb n (length t / 4) && ltb n cap

unfoldable pub put : List ℕ → ℕ → Quad → List ℕ
put t n X = set (set (set (set t (4 * n) (X false false)) (4 * n + 1) (X false true)) (4 * n + 2) (X true false)) (4 * n + 3) (X true true)

abbrev pub put_if : Bool → Quad → Step Table ℕ
put_if true X σ = given (table (put σ.words σ.count X) (σ.count + 1)) (σ.count + 2)
put_if false X σ = refused 21

abbrev pub found_if : Bool → ℕ → Quad → Step Table ℕ
found_if true i X σ = given σ (i + 2)
found_if false i X σ = put_if (room σ.words σ.count) X σ

-- the node with the children X: the one that is there, or a new one
unfoldable pub mk : Quad → Step Table ℕ
mk X σ = let i : ℕ = seek σ.words X 0 σ.count in found_if (ltb i σ.count) i X σ

-- ---- the constants

-- The fixed handles of a store of N fields, at depth d: nothing, the identity, all pairs.
unfoldable pub zero_at : ℕ → ℕ → ℕ
zero_at N zero = 0
zero_at N (suc d) = suc d + 1

unfoldable pub one_at : ℕ → ℕ → ℕ
one_at N zero = 1
one_at N (suc d) = N + suc d + 1

unfoldable pub top_at : ℕ → ℕ → ℕ
top_at N zero = 1
top_at N (suc d) = 2 * N + suc d + 1

-- A store is begun with the zeros of depths 1 to N, then the identities, then the tops.
unfoldable pub zeros : ℕ → Step Table ℕ
zeros zero = return 0
zeros (suc d) = zeros d >>= λ z. mk (quad z z z z)

unfoldable pub ones : ℕ → ℕ → Step Table ℕ
ones N zero = return 1
ones N (suc d) = ones N d >>= λ x. mk (quad x (zero_at N d) (zero_at N d) x)

unfoldable pub tops : ℕ → Step Table ℕ
tops zero = return 1
tops (suc d) = tops d >>= λ x. mk (quad x x x x)

pub record Constants : Type 0 where
  pub zero : ℕ
  pub one : ℕ
  pub top : ℕ

unfoldable pub constants : ℕ → Step Table Constants
constants N = do
  z ← zeros N
  o ← ones N N
  t ← tops N
  return (record { zero = z; one = o; top = t })

-- ---- the pointwise operations

pub data Op : Type 0 where
  union intersect xor difference not : Op

-- A finished handle, or: go down with this operation on these two handles.
pub data Exit : Type 0 where
  out : ℕ → Exit
  on : Op → ℕ → ℕ → Exit

-- the smaller handle first
abbrev pub sorted : Op → ℕ → ℕ → Exit
sorted o a b = if ltb b a then on o b a else on o a b

-- The complement of a is `not` of a and a.
unfoldable pub exit : ℕ → Op → ℕ → ℕ → ℕ → Exit
exit N union d a b =
    if eqb a b then out a else
    if eqb a (zero_at N d) || eqb b (top_at N d) then out b else
    if eqb b (zero_at N d) || eqb a (top_at N d) then out a else
    sorted union a b
exit N intersect d a b =
    if eqb a b then out a else
    if eqb a (zero_at N d) || eqb b (top_at N d) then out a else
    if eqb b (zero_at N d) || eqb a (top_at N d) then out b else
    sorted intersect a b
exit N xor d a b =
    if eqb a b then out (zero_at N d) else
    if eqb a (zero_at N d) then out b else
    if eqb b (zero_at N d) then out a else
    if eqb a (top_at N d) then on not b b else
    if eqb b (top_at N d) then on not a a else
    sorted xor a b
exit N difference d a b =
    if eqb a b then out (zero_at N d) else
    if eqb a (zero_at N d) || eqb b (zero_at N d) then out a else
    if eqb a (top_at N d) then on not b b else
    on difference a b
exit N not d a b = if ltb a 2 then out (1 - a) else on not a a

abbrev pub follow : Exit → (Op → ℕ → ℕ → Step Table ℕ) → Step Table ℕ
follow (out h) k σ = given σ h
follow (on o x y) k σ = k o x y σ

-- the four entries by f, and the node
unfoldable pub each : (ℕ → ℕ → Step Table ℕ) → Quad → Quad → Step Table ℕ
each f A B = do
  x00 ← f (A false false) (B false false)
  x01 ← f (A false true) (B false true)
  x10 ← f (A true false) (B true false)
  x11 ← f (A true true) (B true true)
  mk (quad x00 x01 x10 x11)

-- a step on the children of two handles
abbrev pub down : (Quad → Quad → Step Table ℕ) → ℕ → ℕ → Step Table ℕ
down body a b σ = body (kids σ.words a) (kids σ.words b) σ

-- At depth 0 every exit is `out` (`exit_low`).
unfoldable pub apply : ℕ → Op → ℕ → ℕ → ℕ → Step Table ℕ
apply N o zero a b = follow (exit N o zero a b) (λ o x y. return 0)
apply N o (suc d) a b = follow (exit N o (suc d) a b) (λ o. down (each (apply N o d)))

unfoldable pub complement : ℕ → ℕ → ℕ → Step Table ℕ
complement N d a = apply N not d a a

-- ---- sequence and star

-- A finished handle, or: go down.
pub data Early : Type 0 where
  done : ℕ → Early
  more : Early

abbrev pub finish : Early → Step Table ℕ → Step Table ℕ
finish (done h) c σ = given σ h
finish more c σ = c σ

unfoldable pub seq_exit : ℕ → ℕ → ℕ → ℕ → Early
seq_exit N d a b =
    if eqb a (zero_at N d) || eqb b (one_at N d) then done a else
    if eqb b (zero_at N d) || eqb a (one_at N d) then done b else
    more

-- the matrix product: eight entries by f, their sums by u
unfoldable pub product : (ℕ → ℕ → Step Table ℕ) → (ℕ → ℕ → Step Table ℕ) → Quad → Quad → Step Table ℕ
product f u A B = do
  a00b00 ← f (A false false) (B false false)
  a01b10 ← f (A false true) (B true false)
  a00b01 ← f (A false false) (B false true)
  a01b11 ← f (A false true) (B true true)
  a10b00 ← f (A true false) (B false false)
  a11b10 ← f (A true true) (B true false)
  a10b01 ← f (A true false) (B false true)
  a11b11 ← f (A true true) (B true true)
  x00 ← u a00b00 a01b10
  x01 ← u a00b01 a01b11
  x10 ← u a10b00 a11b10
  x11 ← u a10b01 a11b11
  mk (quad x00 x01 x10 x11)

-- At depth 0 every exit is `done` (`seq_exit_low`).
unfoldable pub sequence : ℕ → ℕ → ℕ → ℕ → Step Table ℕ
sequence N zero a b = finish (seq_exit N zero a b) (return 0)
sequence N (suc d) a b = finish (seq_exit N (suc d) a b) (down (product (sequence N d) (apply N union d)) a b)

unfoldable pub star_exit : ℕ → ℕ → ℕ → Early
star_exit N d x =
    if eqb x (zero_at N d) then done (one_at N d) else
    if eqb x (one_at N d) || eqb x (top_at N d) then done x else
    more

-- the star of a matrix: of its entries by s, with products by f and sums by u
unfoldable pub blocks : (ℕ → Step Table ℕ) → (ℕ → ℕ → Step Table ℕ) → (ℕ → ℕ → Step Table ℕ) → Quad → Step Table ℕ
blocks s f u X = do
  d* ← s (X true true)
  bd* ← f (X false true) d*
  bd*c ← f bd* (X true false)
  a+bd*c ← u (X false false) bd*c
  x00 ← s a+bd*c
  x01 ← f x00 bd*
  cx00 ← f (X true false) x00
  x10 ← f d* cx00
  x10bd* ← f x10 bd*
  x11 ← u d* x10bd*
  mk (quad x00 x01 x10 x11)

-- a step on the children of one handle
abbrev pub under : (Quad → Step Table ℕ) → ℕ → Step Table ℕ
under body a σ = body (kids σ.words a) σ

-- At depth 0 every exit is `done` (`star_exit_low`).
unfoldable pub star : ℕ → ℕ → ℕ → Step Table ℕ
star N zero x = finish (star_exit N zero x) (return 0)
star N (suc d) x = finish (star_exit N (suc d) x) (under (blocks (star N d) (sequence N d) (apply N union d)) x)

-- ---- one field

-- The diagram of depth d with the entry at field f, the identity below it, and above it x00 and x11 equal and the other entries zero.
-- It is made from field f up. There is a field f: f < d.
unfoldable pub field : ℕ → (ℕ → ℕ → Quad) → ℕ → ℕ → Step Table ℕ
field N entry zero f = return 1
field N entry (suc d) zero = mk (entry (one_at N d) (zero_at N d))
field N entry (suc d) (suc f) = field N entry d f >>= λ x. mk (quad x (zero_at N d) (zero_at N d) x)

-- the entries, with x the identity and z zero of the depth below
abbrev pub test_entry : Bool → ℕ → ℕ → Quad
test_entry false x z = quad x z z z
test_entry true x z = quad z z z x

abbrev pub assign_entry : Bool → ℕ → ℕ → Quad
assign_entry false x z = quad x z x z
assign_entry true x z = quad z x z x

unfoldable pub test : ℕ → ℕ → ℕ → Bool → Step Table ℕ
test N d f v = field N (test_entry v) d f

unfoldable pub assign : ℕ → ℕ → ℕ → Bool → Step Table ℕ
assign N d f v = field N (assign_entry v) d f

-- ---- answers with no step

unfoldable pub is_zero : ℕ → ℕ → ℕ → Bool
is_zero N d h = eqb h (zero_at N d)

-- the number of packet pairs
unfoldable pub size : List ℕ → ℕ → ℕ → ℕ
size t zero h = h
size t (suc d) h = size t d (kids t h false false) + size t d (kids t h false true) + (size t d (kids t h true false) + size t d (kids t h true true))
