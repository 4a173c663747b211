-- The steps on relation nodes (spp_steps' Model) on longer tables: mk, the pointwise operations, sequence, star, test and set of a bit, the constants; pairs and size.
use mathlib.Core.Path.{◌≡◌, refl, sym, subst, fun_ext}
use mathlib.Core.Bool.{Bool, true, false, ◌&&◌}
use mathlib.Core.List.{List}
use Prim.Native.Nat.{ℕ, zero, suc, ◌+◌, ◌*◌, ◌-◌, ◌/◌, ◌<◌}
use native.Mathlib.Omega.{arith}
use lib.Dec.{eqb, ltb}
use lib.ListN.{length, set, length-set}
use borrow.Author.Tests.{ltb-true, lt-ltb}
use Rattle.spp_steps.proofs.Laws.{false_true}
use Rattle.common.specs.Packets.{Packet, end, bit}
use Rattle.common.specs.Outcome.{Step}
use Rattle.common.specs.Runs.{Table, table}
use Rattle.spp_steps.specs.Model as Spp
use Rattle.spp_steps.specs.Model.{Quad, quad, kid, kids, mem, same, seek, cap, room, put, put_if, found_if, mk, zero_at, one_at, zeros, ones, tops, constants, Op, Exit, out, on, exit, follow, each, down, apply, complement, Early, done, more, finish, seq_exit, product, sequence, star_exit, blocks, under, star, field, test_entry, assign_entry, assign, size}
use Rattle.book_longer.specs.Longer.{LongerWords, Longer, no_relation_node, Follows, lacked, goes, Respects, RelationsLonger}
use Rattle.book_longer.proofs.Follow.{returns, bind, along}
use Rattle.book_longer.proofs.Words.{at, set_longer, by_count}
use Rattle.book_longer.proofs.Sets.{and_true}

-- ---- reading

module _ {s t : List ℕ} (r : LongerWords s t) where
  kid_same : (k : ℕ) (i j : Bool) → kid s k i j ≡ kid t k i j
  unfolding kid
  kid_same k false false = at r (4 * k)
  kid_same k false true = at r (4 * k + 1)
  kid_same k true false = at r (4 * k + 2)
  kid_same k true true = at r (4 * k + 3)

  -- the children of a handle
  pub kids_same : (h : ℕ) → kids s h ≡ kids t h
  unfolding kids
  kids_same h = fun_ext (λ i. fun_ext (λ j. kid_same (h - 2) i j))

  seek_same : (X : Quad) (i k : ℕ) → seek s X i k ≡ seek t X i k
  unfolding seek same
  seek_same X i zero = refl
  seek_same X i (suc k) = λ d.
      elim ((eqb (kid_same i false false d) (X false false) && eqb (kid_same i false true d) (X false true)) && (eqb (kid_same i true false d) (X true false) && eqb (kid_same i true true d) (X true true)))
      [ true ↦ i | false ↦ seek_same X (suc i) k d ]

  pub mem_same : (d h : ℕ) (p q : Packet d) → mem s d h p q ≡ mem t d h p q
  unfolding mem
  mem_same zero h end end = refl
  mem_same (suc d) h (bit i p) (bit j q) = λ e. mem_same d (kids_same h e i j) p q e

  pub size_same : (d h : ℕ) → size s d h ≡ size t d h
  unfolding size
  size_same zero h = refl
  size_same (suc d) h = λ e.
      size_same d (kids_same h e false false) e + size_same d (kids_same h e false true) e + (size_same d (kids_same h e true false) e + size_same d (kids_same h e true true) e)

-- ---- mk

room_more : {s t : List ℕ} (n : ℕ) → LongerWords s t → room s n ≡ true → room t n ≡ true
unfolding room
room_more {s} {t} n r e =
    let (a, b) = and_true (ltb n (length s / 4)) (ltb n cap) e in
    λ d. lt-ltb n (length t / 4) (omega (arith, ltb-true n (length s / 4) a, r.len)) d && b d

room_fits : (s : List ℕ) (n : ℕ) → room s n ≡ true → 4 * n + 3 < length s
unfolding room
room_fits s n e = let (a, b) = and_true (ltb n (length s / 4)) (ltb n cap) e in omega (arith, ltb-true n (length s / 4) a)

put_longer : {s t : List ℕ} (n : ℕ) (X : Quad) → 4 * n + 3 < length s → LongerWords s t → LongerWords (put s n X) (put t n X)
unfolding put
put_longer {s} n X l r =
    let s₁ : List ℕ = set s (4 * n) (X false false) in
    let s₂ : List ℕ = set s₁ (4 * n + 1) (X false true) in
    let e₁ = length-set s (4 * n) (X false false) in
    let e₂ = length-set s₁ (4 * n + 1) (X false true) in
    let e₃ = length-set s₂ (4 * n + 2) (X true false) in
    set_longer (4 * n + 3) (X true true) (omega (arith, e₁, e₂, e₃)) (set_longer (4 * n + 2) (X true false) (omega (arith, e₁, e₂)) (set_longer (4 * n + 1) (X false true) (omega (arith, e₁)) (set_longer (4 * n) (X false false) (omega arith) r)))

module _ {s t : List ℕ} (n : ℕ) (r : LongerWords s t) where
  put_if_longer : (X : Quad) (b c : Bool) → (b ≡ true → c ≡ true) → (b ≡ true → 4 * n + 3 < length s) → Follows Longer (put_if b X (table s n)) (put_if c X (table t n))
  put_if_longer X true true f l = goes (record { words = put_longer n X (l refl) r; count = refl })
  put_if_longer X true false f l = absurd (false_true (f refl))
  put_if_longer X false c f l = lacked no_relation_node

  found_if_longer : (i : ℕ) (X : Quad) (b : Bool) → Follows Longer (found_if b i X (table s n)) (found_if b i X (table t n))
  found_if_longer i X true = goes (record { words = r; count = refl })
  found_if_longer i X false = put_if_longer X (room s n) (room t n) (room_more n r) (room_fits s n)

pub mk_longer : (X : Quad) → Respects Longer (mk X)
unfolding mk
mk_longer X = by_count (λ σ τ. Follows Longer (mk X σ) (mk X τ)) (λ s t n r.
    subst (λ (j : ℕ). Follows Longer (found_if (ltb (seek s X 0 n) n) (seek s X 0 n) X (table s n)) (found_if (ltb j n) j X (table t n))) (seek_same r X 0 n)
    (found_if_longer n r (seek s X 0 n) X (ltb (seek s X 0 n) n)))

-- ---- the constants

zeros_longer : (d : ℕ) → Respects Longer (zeros d)
unfolding zeros
zeros_longer zero = returns 0
zeros_longer (suc d) = bind (zeros_longer d) (λ z. mk_longer (quad z z z z))

ones_longer : (N d : ℕ) → Respects Longer (ones N d)
unfolding ones
ones_longer N zero = returns 1
ones_longer N (suc d) = bind (ones_longer N d) (λ x. mk_longer (quad x (zero_at N d) (zero_at N d) x))

tops_longer : (d : ℕ) → Respects Longer (tops d)
unfolding tops
tops_longer zero = returns 1
tops_longer (suc d) = bind (tops_longer d) (λ x. mk_longer (quad x x x x))

pub constants_longer : (N : ℕ) → Respects Longer (constants N)
unfolding constants
constants_longer N = bind (zeros_longer N) (λ z. bind (ones_longer N N) (λ o. bind (tops_longer N) (λ t. returns (record { zero = z; one = o; top = t }))))

-- ---- the pointwise operations

follow_longer : (e : Exit) {f : Op → ℕ → ℕ → Step Table ℕ} → ((o : Op) (a b : ℕ) → Respects Longer (f o a b)) → Respects Longer (follow e f)
follow_longer (out h) g = returns h
follow_longer (on o a b) g = g o a b

each_longer : {f : ℕ → ℕ → Step Table ℕ} → ((a b : ℕ) → Respects Longer (f a b)) → (A B : Quad) → Respects Longer (each f A B)
unfolding each
each_longer h A B = bind (h _ _) (λ x00. bind (h _ _) (λ x01. bind (h _ _) (λ x10. bind (h _ _) (λ x11. mk_longer (quad x00 x01 x10 x11)))))

down_longer : {body : Quad → Quad → Step Table ℕ} → ((A B : Quad) → Respects Longer (body A B)) → (a b : ℕ) → Respects Longer (down body a b)
down_longer {body} h a b σ τ r = along (λ d. body (kids_same r.words a d) (kids_same r.words b d)) (h _ _) σ τ r

pub apply_longer : (N d : ℕ) (o : Op) (a b : ℕ) → Respects Longer (apply N o d a b)
unfolding apply
apply_longer N zero o a b = follow_longer (exit N o zero a b) (λ o x y. returns 0)
apply_longer N (suc d) o a b = follow_longer (exit N o (suc d) a b) (λ o. down_longer (each_longer (apply_longer N d o)))

pub complement_longer : (N d a : ℕ) → Respects Longer (complement N d a)
unfolding complement
complement_longer N d a = apply_longer N d Spp.not a a

-- ---- sequence and star

finish_longer : (e : Early) {c : Step Table ℕ} → Respects Longer c → Respects Longer (finish e c)
finish_longer (done h) g = returns h
finish_longer more g = g

module _ {f u : ℕ → ℕ → Step Table ℕ} (h : (a b : ℕ) → Respects Longer (f a b)) (g : (a b : ℕ) → Respects Longer (u a b)) where
  product_longer : (A B : Quad) → Respects Longer (product f u A B)
  unfolding product
  product_longer A B =
      bind (h _ _) (λ a. bind (h _ _) (λ b. bind (h _ _) (λ c. bind (h _ _) (λ d. bind (h _ _) (λ a'. bind (h _ _) (λ b'. bind (h _ _) (λ c'. bind (h _ _) (λ d'.
      bind (g a b) (λ x00. bind (g c d) (λ x01. bind (g a' b') (λ x10. bind (g c' d') (λ x11. mk_longer (quad x00 x01 x10 x11)))))))))))))

  blocks_longer : {s : ℕ → Step Table ℕ} → ((a : ℕ) → Respects Longer (s a)) → (X : Quad) → Respects Longer (blocks s f u X)
  unfolding blocks
  blocks_longer k X =
      bind (k _) (λ d*. bind (h _ d*) (λ bd*. bind (h bd* _) (λ bd*c. bind (g _ bd*c) (λ a+. bind (k a+) (λ x00. bind (h x00 bd*) (λ x01. bind (h _ x00) (λ cx00.
      bind (h d* cx00) (λ x10. bind (h x10 bd*) (λ x10bd*. bind (g d* x10bd*) (λ x11. mk_longer (quad x00 x01 x10 x11)))))))))))

pub sequence_longer : (N d a b : ℕ) → Respects Longer (sequence N d a b)
unfolding sequence
sequence_longer N zero a b = finish_longer (seq_exit N zero a b) (returns 0)
sequence_longer N (suc d) a b = finish_longer (seq_exit N (suc d) a b) (down_longer (product_longer (sequence_longer N d) (apply_longer N d Spp.union)) a b)

under_longer : {body : Quad → Step Table ℕ} → ((A : Quad) → Respects Longer (body A)) → (a : ℕ) → Respects Longer (under body a)
under_longer {body} h a σ τ r = along (λ d. body (kids_same r.words a d)) (h _) σ τ r

pub star_longer : (N d x : ℕ) → Respects Longer (star N d x)
unfolding star
star_longer N zero x = finish_longer (star_exit N zero x) (returns 0)
star_longer N (suc d) x = finish_longer (star_exit N (suc d) x) (under_longer (blocks_longer (sequence_longer N d) (apply_longer N d Spp.union) (star_longer N d)) x)

-- ---- one field

field_longer : (N : ℕ) (entry : ℕ → ℕ → Quad) (d f : ℕ) → Respects Longer (field N entry d f)
unfolding field
field_longer N entry zero f = returns 1
field_longer N entry (suc d) zero = mk_longer (entry (one_at N d) (zero_at N d))
field_longer N entry (suc d) (suc f) = bind (field_longer N entry d f) (λ x. mk_longer (quad x (zero_at N d) (zero_at N d) x))

pub test_longer : (N d f : ℕ) (v : Bool) → Respects Longer (Spp.test N d f v)
unfolding Spp.test
test_longer N d f v = field_longer N (test_entry v) d f

pub assign_longer : (N d f : ℕ) (v : Bool) → Respects Longer (assign N d f v)
unfolding assign
assign_longer N d f v = field_longer N (assign_entry v) d f

-- ---- what is stated

pub relations_longer : (N : ℕ) → RelationsLonger N
relations_longer N = record {
  mk = mk_longer;
  apply = λ o d a b. apply_longer N d o a b;
  complement = complement_longer N;
  sequence = sequence_longer N;
  star = star_longer N;
  test = test_longer N;
  assign = assign_longer N;
  constants = constants_longer N;
  mem = λ t u r d h p q. sym (mem_same r d h p q);
  size = λ t u r d h. sym (size_same r d h);
}
