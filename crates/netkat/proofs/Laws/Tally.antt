-- How many elements of a list pass a test, and a sum over a list of states.
use mathlib.Core.Path.{◌≡◌, refl, subst}
use mathlib.Core.Logic.{◌⊎◌, inl, inr}
use mathlib.Core.Bool.{Bool, true, false}
use mathlib.Core.List.{List, [], ◌∷◌, ◌++◌, map, Memᴰ}
use lib.ListN.{length}
use lib.Dec.{T, eqb, eqb→eq}
use Prim.Native.Nat.{ℕ, ◌+◌, ◌*◌, ◌≤◌, ◌<◌}
use native.Mathlib.Omega.{arith}
use Rattle.common.specs.Packets.{Packet, end, bit, packets, any}
use Rattle.common.specs.Relations.{same}
use Rattle.common.proofs.PacketLaws.{either}

unfoldable pub one : Bool → ℕ
one true = 1
one false = 0

one_mono : (a b : Bool) → (T a → T b) → one a ≤ one b
unfolding one
one_mono true true h = omega arith
one_mono true false h = absurd (h tt)
one_mono false b h = omega arith

one_more : (a b : Bool) → ¬ T a → T b → one a < one b
unfolding one
one_more true b h t = absurd (h tt)
one_more false true h t = omega arith
one_more false false h t = absurd t

one_le : (a : Bool) → one a ≤ 1
unfolding one
one_le true = omega arith
one_le false = omega arith

module _ {A : Type 0} where
  -- how many elements pass
  unfoldable pub tally : (A → Bool) → List A → ℕ
  tally f [] = 0
  tally f (x ∷ xs) = one (f x) + tally f xs

  pub tally_le : (f : A → Bool) (l : List A) → tally f l ≤ length l
  unfolding tally
  tally_le f [] = omega arith
  tally_le f (x ∷ xs) = omega (arith, one_le (f x), tally_le f xs)

  pub tally_mono : (f g : A → Bool) → ((x : A) → T (f x) → T (g x)) → (l : List A) → tally f l ≤ tally g l
  unfolding tally
  tally_mono f g h [] = omega arith
  tally_mono f g h (x ∷ xs) = omega (arith, one_mono (f x) (g x) (h x), tally_mono f g h xs)

  -- one element more
  pub tally_more : (f g : A → Bool) → ((x : A) → T (f x) → T (g x)) → {a : A} → ¬ T (f a) → T (g a) → {l : List A} → Memᴰ a l → tally f l < tally g l
  unfolding tally
  tally_more f g h u t (Memᴰ.head {x} {xs} e) =
      omega (arith, one_more (f x) (g x) (subst (λ y. ¬ T (f y)) e u) (subst (λ y. T (g y)) e t), tally_mono f g h xs)
  tally_more f g h u t (Memᴰ.tail {x} {xs} m) = omega (arith, one_mono (f x) (g x) (h x), tally_more f g h u t m)

pub total : (ℕ → ℕ) → List ℕ → ℕ
total f [] = 0
total f (s ∷ l) = f s + total f l

pub total_le : (f : ℕ → ℕ) (k : ℕ) → ((s : ℕ) → f s ≤ k) → (l : List ℕ) → total f l ≤ length l * k
unfolding total
total_le f k h [] = omega arith
total_le f k h (s ∷ l) = omega (arith, h s, total_le f k h l)

pub total_mono : (f g : ℕ → ℕ) → ((s : ℕ) → f s ≤ g s) → (l : List ℕ) → total f l ≤ total g l
unfolding total
total_mono f g h [] = omega arith
total_mono f g h (s ∷ l) = omega (arith, h s, total_mono f g h l)

-- more at one that is listed
pub total_more : (f g : ℕ → ℕ) → ((s : ℕ) → f s ≤ g s) → (s : ℕ) → f s < g s → (l : List ℕ) → T (any (eqb s) l) → total f l < total g l
unfolding total
total_more f g h s m [] t = absurd t
total_more f g h s m (r ∷ l) t = go (either (eqb s r) (any (eqb s) l) t) (total_more f g h s m l)
  where
    go : T (eqb s r) ⊎ T (any (eqb s) l) → (T (any (eqb s) l) → total f l < total g l) → f r + total f l < g r + total g l
    go (inl e) k = omega (arith, subst (λ x. f x < g x) (eqb→eq s r e) m, total_mono f g h l)
    go (inr u) k = omega (arith, h r, k u)

-- and at one that is listed first now
pub total_new : (f g : ℕ → ℕ) → ((s : ℕ) → f s ≤ g s) → (s : ℕ) → f s < g s → (l : List ℕ) → total f l < total g (s ∷ l)
unfolding total
total_new f g h s m l = omega (arith, total_mono f g h l)

-- ---- each packet is listed once

tally_map : {A B : Type 0} (f : B → Bool) (g : A → B) (l : List A) → tally f (map g l) ≡ tally (λ x. f (g x)) l
unfolding tally
tally_map f g [] = refl
tally_map f g (x ∷ xs) = rw (tally_map f g xs)

tally_append : {A : Type 0} (f : A → Bool) (l m : List A) → tally f (l ++ m) ≡ tally f l + tally f m
unfolding tally
tally_append f [] m = omega arith
tally_append f (x ∷ xs) m = omega (arith, tally_append f xs m)

tally_none : {A : Type 0} (l : List A) → tally (λ x. false) l ≡ 0
unfolding tally one
tally_none [] = refl
tally_none (x ∷ xs) = omega (arith, tally_none xs)

pub packet_once : {n : ℕ} (p : Packet n) → tally (same p) (packets n) ≡ 1
unfolding packets same tally one
packet_once end = refl
packet_once (bit {n} false p) =
    let f = same (bit false p) in
    let left = map (bit false) (packets n) in
    let right = map (bit true) (packets n) in
    omega (arith, tally_append f left right, tally_map f (bit false) (packets n), tally_map f (bit true) (packets n), tally_none (packets n), packet_once p)
packet_once (bit {n} true p) =
    let f = same (bit true p) in
    let left = map (bit false) (packets n) in
    let right = map (bit true) (packets n) in
    omega (arith, tally_append f left right, tally_map f (bit false) (packets n), tally_map f (bit true) (packets n), tally_none (packets n), packet_once p)
