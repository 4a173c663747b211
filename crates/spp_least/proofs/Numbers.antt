-- Packets as numbers, and least packets as numbers and as words.
use Rattle.std.specs.Prelude.{if◌then◌else◌, Some, None, is_some, IfSome}
use Rattle.std.specs.Prelude as std
use mathlib.Core.Path.{◌≡◌, refl, sym, ◌∙◌, ap, subst}
use mathlib.Core.Bool.{Bool, true, false}
use mathlib.Core.Option.{Option, none, some}
use Prim.Native.Nat.{ℕ, zero, suc, ◌+◌, ◌-◌, ◌^◌, ◌≤◌, ◌<◌}
use native.Mathlib.Omega.{arith}
use native.Mathlib.Decide.{dec_lt}
use lib.Pow.{pow_mono}
use Rattle.common.specs.Packets.{Packet, end, bit, Set}
use Rattle.netkat_paths.specs.Order.{value, map, or_else, least}
use Rattle.netkat_paths.proofs.OrderLaws.{value_small}
use Rattle.sp_steps.proofs.Make.{false_true}
use Rattle.spp_least.specs.Clauses.{number_of, word, word_of, raised}

-- a number is below 2 to the number of bits
small : {n k : ℕ} (o : Option (Packet n)) → 2 ^ n ≤ k → IfSome (number_of o) (λ m. m < k)
small none l = tt
small (some p) l = omega (arith, value_small p)

pub below : {n k : ℕ} {w : std.Option ℕ} (o : Option (Packet n)) → w ≡ number_of o → 2 ^ n ≤ k → IfSome w (λ m. m < k)
below {k = k} o e l = subst (λ v. IfSome v (λ m. m < k)) (sym e) (small o l)

-- a number that has a word
pub fits : {n : ℕ} {w : std.Option ℕ} (o : Option (Packet n)) → w ≡ number_of o → n ≤ 31 → IfSome w (λ m. m < 4294967295)
fits o e l = below o e (omega (arith, pow_mono {j = 31} l))

-- what a word says of the packet
pub word_none : {n : ℕ} (o : Option (Packet n)) → word_of o ≡ 0 → o ≡ none
word_none none e = refl
word_none (some p) e = absurd (omega arith)

pub word_some : {n : ℕ} (o : Option (Packet n)) → (word_of o ≡ 0 → ⊥) → (p : Packet n) × (o ≡ some p) × (value p + 1 ≡ word_of o)
word_some none f = absurd (f refl)
word_some (some p) f = (p, refl, refl)

-- every number is a packet's
pub packet_of : (d k : ℕ) → k < 2 ^ d → (p : Packet d) × (value p ≡ k)
unfolding value
packet_of zero k l = (end, omega arith)
packet_of (suc d) k l = go (dec_lt k (2 ^ d)) (packet_of d k) (packet_of d (k - 2 ^ d))
  where
    go : Dec (k < 2 ^ d) → (k < 2 ^ d → (p : Packet d) × (value p ≡ k)) → (k - 2 ^ d < 2 ^ d → (p : Packet d) × (value p ≡ k - 2 ^ d)) → (p : Packet (suc d)) × (value p ≡ k)
    go (yes h) f g = let (p, e) = f h in (bit false p, omega arith)
    go (no h) f g = let (p, e) = g (omega arith) in (bit true p, omega arith)

-- the first bit and the other bits of a number
pub first_of : {n : ℕ} (b c : Bool) (p : Packet n) (k rest : ℕ) → value (bit b p) ≡ k → k ≡ (if c then 2 ^ n else 0) + rest → rest < 2 ^ n → (b ≡ c) × (value p ≡ rest)
unfolding value
first_of false false p k rest e f l = (refl, omega arith)
first_of true true p k rest e f l = (refl, omega arith)
first_of false true p k rest e f l = absurd (omega (arith, value_small p))
first_of true false p k rest e f l = absurd (omega (arith, value_small p))

-- a set with no packet
pub least_empty : (d : ℕ) (x : Set d) → ((p : Packet d) → x p ≡ false) → least d x ≡ none
unfolding least
least_empty zero x e = rw (e end)
least_empty (suc d) x e = rw (least_empty d (λ p. x (bit false p)) (λ p. e (bit false p)), least_empty d (λ p. x (bit true p)) (λ p. e (bit true p)))

-- a set with a packet whose first bit is 0
low_number : {n : ℕ} (x y : Option (Packet n)) → is_some (number_of x) ≡ true → number_of x ≡ number_of (or_else (map (bit false) x) (map (bit true) y))
unfolding value
low_number none y e = absurd (false_true e)
low_number (some p) y e = ap Some (omega arith)

pub low_least : {n : ℕ} (x : Set (suc n)) {low : std.Option ℕ} → low ≡ number_of (least n (λ p. x (bit false p))) → is_some low ≡ true → low ≡ number_of (least (suc n) x)
unfolding least
low_least {n} x e has = e ∙ low_number (least n (λ p. x (bit false p))) (least n (λ p. x (bit true p))) (ap is_some (sym e) ∙ has)

-- .. and with none
high_number : {n : ℕ} (x y : Option (Packet n)) → is_some (number_of x) ≡ false → raised (2 ^ n) (number_of y) ≡ number_of (or_else (map (bit false) x) (map (bit true) y))
unfolding value
high_number none none e = refl
high_number none (some q) e = refl
high_number (some p) y e = absurd (false_true (sym e))

pub high_least : {n : ℕ} (x : Set (suc n)) {low high : std.Option ℕ} → low ≡ number_of (least n (λ p. x (bit false p))) → is_some low ≡ false → high ≡ number_of (least n (λ p. x (bit true p)))
    → raised (2 ^ n) high ≡ number_of (least (suc n) x)
unfolding least
high_least {n} x e lacks f =
    ap (raised (2 ^ n)) f ∙ high_number (least n (λ p. x (bit false p))) (least n (λ p. x (bit true p))) (ap is_some (sym e) ∙ lacks)

-- two answers with one word are one
pub same_word : (a b : std.Option ℕ) → word a ≡ word b → a ≡ b
same_word None None e = refl
same_word None (Some k) e = absurd (omega arith)
same_word (Some k) None e = absurd (omega arith)
same_word (Some j) (Some k) e = ap Some (omega arith)
