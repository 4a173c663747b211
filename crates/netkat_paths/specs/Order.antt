-- 02 (i): "It picks the fewest hops, then the smallest start, then the hops in order, then the end, each read as a binary number." Packets
-- as numbers, the least packet of a set, the order on strings, and when a string is the picked one of a set of strings.
use Rattle.std.specs.Prelude.{◌≡◌, Bool, true, false, List, [], ◌∷◌, ◌++◌, ℕ, zero, suc, ◌+◌, ◌^◌, ◌<◌, length, if◌then◌else◌}
use Rattle.std.proofs.Math.Option.{Option, none, some}
use Rattle.common.specs.Packets.{Packet, end, bit, Set}
use Rattle.netkat.specs.Strings.{Str}
use Rattle.netkat.specs.Rules.{Language}

-- a packet read as a binary number, field 0 first
unfoldable pub value : {n : ℕ} → Packet n → ℕ
value end = 0
value (bit {n} b p) = (if b then 2 ^ n else 0) + value p

abbrev pub map : {A B : Type 0} → (A → B) → Option A → Option B
map f none = none
map f (some a) = some (f a)

abbrev pub or_else : {A : Type 0} → Option A → Option A → Option A
or_else none b = b
or_else (some a) b = some a

-- the least packet of a set
unfoldable pub least : (n : ℕ) → Set n → Option (Packet n)
least zero x = if x end then some end else none
least (suc n) x = or_else (map (bit false) (least n (λ p. x (bit false p)))) (map (bit true) (least n (λ p. x (bit true p))))

module _ {n : ℕ} where
  -- the packets of a string: start, hops in order, end
  abbrev pub packets_of : Str n → List (Packet n)
  packets_of w = w.start ∷ (w.hops ++ w.end ∷ [])

  -- at the first place where the lists differ, the first has the lower number
  pub data Lower : List (Packet n) → List (Packet n) → Type 0 where
    here : {p q : Packet n} {ps qs : List (Packet n)} → value p < value q → Lower (p ∷ ps) (q ∷ qs)
    there : {p : Packet n} {ps qs : List (Packet n)} → Lower ps qs → Lower (p ∷ ps) (p ∷ qs)

  -- v comes before w
  pub data Before (v w : Str n) : Type 0 where
    fewer : length v.hops < length w.hops → Before v w
    lower : length v.hops ≡ length w.hops → Lower (packets_of v) (packets_of w) → Before v w

  -- w is picked from A: it is in A, and no string of A comes before it
  pub record Picked (A : Language n) (w : Str n) : Type 0 where
    pub held : A w
    pub first : (v : Str n) → A v → ¬ Before v w
