-- The steps on packet nodes (sp_steps' Model) on longer tables: mk, union, xor, difference, intersect, the constants; membership and size.
use mathlib.Core.Path.{◌≡◌, refl, sym, subst}
use mathlib.Core.Bool.{Bool, true, false, ◌&&◌}
use mathlib.Core.List.{List}
use Prim.Native.Nat.{ℕ, zero, suc, ◌+◌, ◌*◌, ◌-◌, ◌/◌, ◌%◌, ◌<◌}
use native.Mathlib.Omega.{arith}
use lib.Dec.{eqb, ltb}
use lib.ListN.{length, length-set}
use borrow.Author.Tests.{ltb-true, lt-ltb}
use Rattle.spp_steps.proofs.Laws.{false_true}
use Rattle.common.specs.Packets.{Packet, end, bit}
use Rattle.common.specs.Outcome.{Step}
use Rattle.common.specs.Runs.{Table, table}
use Rattle.sp_steps.specs.Word.{flip}
use Rattle.sp_steps.specs.Op.{Op}
use Rattle.sp_steps.specs.Model.{kid, child, mem, same, seek, most, room, put, put_if, found_if, intern, mk, Exit, out, on, exit, join, both, follow, last, apply, union, xor, complement, intersect, difference, size, constants}
use Rattle.book_longer.specs.Longer.{LongerWords, Longer, no_packet_node, Follows, lacked, goes, Respects, SetsLonger}
use Rattle.book_longer.proofs.Follow.{returns, bind, along}
use Rattle.book_longer.proofs.Words.{at, set_longer, by_count}

-- ---- reading

module _ {s t : List ℕ} (r : LongerWords s t) where
  pub kid_same : (b : Bool) (i : ℕ) → kid s b i ≡ kid t b i
  unfolding kid
  kid_same false i = at r (2 * i)
  kid_same true i = at r (2 * i + 1)

  pub child_same : (b : Bool) (h : ℕ) → child s b h ≡ child t b h
  unfolding child
  child_same b h = λ d. flip (h % 2) (kid_same b (h / 2 - 1) d)

  seek_same : (x y i k : ℕ) → seek s x y i k ≡ seek t x y i k
  unfolding seek same
  seek_same x y i zero = refl
  seek_same x y i (suc k) = λ d. elim (eqb (kid_same false i d) x && eqb (kid_same true i d) y) [ true ↦ i | false ↦ seek_same x y (suc i) k d ]

  pub mem_same : (d h : ℕ) (p : Packet d) → mem s d h p ≡ mem t d h p
  unfolding mem
  mem_same d h end = refl
  mem_same d h (bit {n} b p) = λ e. mem_same n (child_same b h e) p e

  pub size_same : (d h : ℕ) → size s d h ≡ size t d h
  unfolding size
  size_same zero h = refl
  size_same (suc d) h = λ e. size_same d (child_same false h e) e + size_same d (child_same true h e) e

-- ---- mk

pub and_true : (a b : Bool) → (a && b) ≡ true → (a ≡ true) × (b ≡ true)
and_true true b e = (refl, e)
and_true false b e = absurd (false_true e)

room_more : {s t : List ℕ} (n : ℕ) → LongerWords s t → room (table s n) ≡ true → room (table t n) ≡ true
unfolding room
room_more {s} {t} n r e =
    let (a, b) = and_true (ltb n (length s / 2)) (ltb n most) e in
    λ d. lt-ltb n (length t / 2) (omega (arith, ltb-true n (length s / 2) a, r.len)) d && b d

room_fits : (s : List ℕ) (n : ℕ) → room (table s n) ≡ true → 2 * n + 1 < length s
unfolding room
room_fits s n e = let (a, b) = and_true (ltb n (length s / 2)) (ltb n most) e in omega (arith, ltb-true n (length s / 2) a)

put_longer : {s t : List ℕ} (x y n : ℕ) → 2 * n + 1 < length s → LongerWords s t → Longer (put x y (table s n)) (put x y (table t n))
unfolding put
put_longer {s} x y n l r = record { words = set_longer (2 * n + 1) y (omega (arith, length-set s (2 * n) x)) (set_longer (2 * n) x (omega arith) r); count = refl }

module _ {s t : List ℕ} (n : ℕ) (r : LongerWords s t) where
  put_if_longer : (h x y : ℕ) (b c : Bool) → (b ≡ true → c ≡ true) → (b ≡ true → 2 * n + 1 < length s) → Follows Longer (put_if b h x y (table s n)) (put_if c h x y (table t n))
  put_if_longer h x y true true f l = goes (put_longer x y n (l refl) r)
  put_if_longer h x y true false f l = absurd (false_true (f refl))
  put_if_longer h x y false c f l = lacked no_packet_node

  found_if_longer : (i h x y : ℕ) (b : Bool) → Follows Longer (found_if b i h x y (table s n)) (found_if b i h x y (table t n))
  found_if_longer i h x y true = goes (record { words = r; count = refl })
  found_if_longer i h x y false = put_if_longer h x y (room (table s n)) (room (table t n)) (room_more n r) (room_fits s n)

intern_longer : (h x y : ℕ) → Respects Longer (intern h x y)
unfolding intern
intern_longer h x y = by_count (λ σ τ. Follows Longer (intern h x y σ) (intern h x y τ)) (λ s t n r.
    subst (λ (j : ℕ). Follows Longer (found_if (ltb (seek s x y 0 n) n) (seek s x y 0 n) h x y (table s n)) (found_if (ltb j n) j h x y (table t n))) (seek_same r x y 0 n)
    (found_if_longer n r (seek s x y 0 n) h x y (ltb (seek s x y 0 n) n)))

pub mk_longer : (x y : ℕ) → Respects Longer (mk x y)
unfolding mk
mk_longer x y = intern_longer (x % 2) (flip (x % 2) x) (flip (x % 2) y)

-- ---- operations on two sets

join_longer : {f : ℕ → ℕ → Step Table ℕ} → ((a b : ℕ) → Respects Longer (f a b)) → (a0 b0 a1 b1 : ℕ) → Respects Longer (join f a0 b0 a1 b1)
unfolding join
join_longer h a0 b0 a1 b1 = bind (h a0 b0) (λ x0. bind (h a1 b1) (λ x1. mk_longer x0 x1))

both_longer : {f : ℕ → ℕ → Step Table ℕ} → ((a b : ℕ) → Respects Longer (f a b)) → (a b : ℕ) → Respects Longer (both f a b)
unfolding both
both_longer {f} h a b σ τ r =
    let w = r.words in
    along (λ d. join f (child_same w false a d) (child_same w false b d) (child_same w true a d) (child_same w true b d)) (join_longer h _ _ _ _) σ τ r

follow_longer : (e : Exit) {f : Op → ℕ → ℕ → Step Table ℕ} → ((o : Op) (a b : ℕ) → Respects Longer (f o a b)) → Respects Longer (follow e f)
follow_longer (out h) g = returns h
follow_longer (on o a b) g = both_longer (g o) a b

pub apply_longer : (d : ℕ) (o : Op) (a b : ℕ) → Respects Longer (apply o d a b)
unfolding apply
apply_longer zero o a b = returns (last (exit o zero a b))
apply_longer (suc d) o a b = follow_longer (exit o (suc d) a b) (apply_longer d)

pub union_longer : (d a b : ℕ) → Respects Longer (union d a b)
unfolding union
union_longer d a b = apply_longer d Op.union a b

pub xor_longer : (d a b : ℕ) → Respects Longer (xor d a b)
unfolding xor
xor_longer d a b = apply_longer d Op.xor a b

pub intersect_longer : (d a b : ℕ) → Respects Longer (intersect d a b)
unfolding intersect
intersect_longer d a b = bind (union_longer d (complement a) (complement b)) (λ r. returns (complement r))

pub difference_longer : (d a b : ℕ) → Respects Longer (difference d a b)
unfolding difference
difference_longer d a b = bind (union_longer d (complement a) b) (λ r. returns (complement r))

pub constants_longer : (d : ℕ) → Respects Longer (constants d)
unfolding constants
constants_longer zero = returns 0
constants_longer (suc d) = bind (constants_longer d) (λ z. mk_longer z z)

-- ---- what is stated

pub sets_longer : SetsLonger
sets_longer = record {
  mk = mk_longer;
  union = union_longer;
  xor = xor_longer;
  intersect = intersect_longer;
  difference = difference_longer;
  constants = constants_longer;
  mem = λ t u r d h p. sym (mem_same r d h p);
  size = λ t u r d h. sym (size_same r d h);
}
