-- Packets as numbers: below 2 ^ n, and each number at most once. `least` finds the least packet of a set, if it has one. The order on strings
-- is total, so a set of strings has at most one picked string.
use Rattle.std.specs.Prelude.{if◌then◌else◌}
use mathlib.Core.Path.{◌≡◌, refl, sym, ap, ap₂, subst}
use mathlib.Core.Logic.{◌⊎◌, inl, inr}
use mathlib.Core.Bool.{Bool, true, false}
use mathlib.Core.List.{List, [], ◌∷◌, ◌++◌, head-eq_of_cons-eq, tail-eq_of_cons-eq}
use mathlib.Core.Option.{Option, none, some}
use lib.ListN.{length, length-append}
use lib.Dec.{T, ltb, ltb→lt, nltb→le}
use Prim.Native.Nat.{ℕ, zero, suc, ◌^◌, ◌≤◌, ◌<◌}
use native.Mathlib.Omega.{arith}
use Rattle.common.specs.Packets.{Packet, end, bit, Set}
use Rattle.common.proofs.RelationLaws.{by_test, not_of}
use Rattle.netkat.specs.Strings.{Str, str}
use Rattle.netkat.specs.Rules.{Language}
use Rattle.netkat_paths.specs.Order.{value, map, or_else, least, packets_of, Lower, here, there, Before, fewer, lower, Picked}

-- ---- packets as numbers

pub value_small : {n : ℕ} (p : Packet n) → value p < 2 ^ n
unfolding value
value_small end = omega arith
value_small (bit {n} true p) = omega (arith, value_small p)
value_small (bit {n} false p) = omega (arith, value_small p)

pub value_one : {n : ℕ} {p q : Packet n} → value p ≡ value q → p ≡ q
unfolding value
value_one {p = end} {q = end} e = refl
value_one {p = bit true p} {q = bit true q} e = ap (bit true) (value_one (omega (arith, e)))
value_one {p = bit false p} {q = bit false q} e = ap (bit false) (value_one (omega (arith, e)))
value_one {p = bit true p} {q = bit false q} e = absurd (omega (arith, e, value_small q))
value_one {p = bit false p} {q = bit true q} e = absurd (omega (arith, e, value_small p))

-- ---- the least of what is good

-- What is found is good, and no other good one has a lower number; or nothing is good.
pub data Found {A : Type 0} (Good : A → Type 0) (number : A → ℕ) : Option A → Type 0 where
  nothing : ((b : A) → Good b → ⊥) → Found Good number none
  found : {a : A} → Good a → ((b : A) → Good b → number a ≤ number b) → Found Good number (some a)

module _ {A : Type 0} {Good : A → Type 0} {number : A → ℕ} where
  pub found_good : {a : A} → Found Good number (some a) → Good a
  found_good (found g f) = g

  pub found_low : {a : A} → Found Good number (some a) → (b : A) → Good b → number a ≤ number b
  found_low (found g f) = f

  pub found_none : Found Good number none → (b : A) → Good b → ⊥
  found_none (nothing f) = f

  pub found_some : {o : Option A} → Found Good number o → (b : A) → Good b → (a : A) × (o ≡ some a)
  found_some (nothing f) b g = absurd (f b g)
  found_some (found {a} g f) b h = (a, refl)

pub least_found : (n : ℕ) (x : Set n) → Found (λ p. T (x p)) value (least n x)
unfolding least value
least_found zero x = go (x end) refl
  where
    at : (b : Bool) → x end ≡ b → (p : Packet zero) → T (x p) → T b
    at b e end t = subst (λ b. T b) e t

    go : (b : Bool) → x end ≡ b → Found (λ p. T (x p)) value (if b then some end else none)
    go true e = found (subst (λ b. T b) (sym e) tt) (λ q t. low q)
      where
        low : (q : Packet zero) → value {n = zero} end ≤ value q
        low end = omega arith
    go false e = nothing (at false e)
least_found (suc n) x = join (least_found n (λ p. x (bit false p))) (least_found n (λ p. x (bit true p)))
  where
    join : {o u : Option (Packet n)} → Found (λ p. T (x (bit false p))) value o → Found (λ p. T (x (bit true p))) value u → Found (λ p. T (x p)) value (or_else (map (bit false) o) (map (bit true) u))
    join (found {a = p} t f) i = found t low
      where
        low : (q : Packet (suc n)) → T (x q) → value (bit false p) ≤ value q
        low (bit false q) u = omega (arith, f q u)
        low (bit true q) u = omega (arith, value_small p)
    join (nothing f) (found {a = p} t g) = found t low
      where
        low : (q : Packet (suc n)) → T (x q) → value (bit true p) ≤ value q
        low (bit false q) u = absurd (f q u)
        low (bit true q) u = omega (arith, g q u)
    join (nothing f) (nothing g) = nothing no
      where
        no : (q : Packet (suc n)) → T (x q) → ⊥
        no (bit false q) u = f q u
        no (bit true q) u = g q u

module _ {n : ℕ} (x : Set n) where
  least_as : {o : Option (Packet n)} → least n x ≡ o → Found (λ p. T (x p)) value o
  least_as e = subst (λ o. Found (λ p. T (x p)) value o) e (least_found n x)

  pub least_in : {p : Packet n} → least n x ≡ some p → T (x p)
  least_in e = found_good (least_as e)

  pub least_low : {p : Packet n} → least n x ≡ some p → (q : Packet n) → T (x q) → value p ≤ value q
  least_low e = found_low (least_as e)

  pub least_none : least n x ≡ none → (q : Packet n) → T (x q) → ⊥
  least_none e = found_none (least_as e)

  pub least_some : (q : Packet n) → T (x q) → (p : Packet n) × (least n x ≡ some p)
  least_some q t = found_some (least_found n x) q t

pub least_same : {n : ℕ} (x y : Set n) → ((p : Packet n) → x p ≡ y p) → least n x ≡ least n y
unfolding least
least_same {n = zero} x y f = ap (λ b. if b then some end else none) (f end)
least_same {n = suc n} x y f =
    ap₂ (λ o u. or_else (map (bit false) o) (map (bit true) u)) (least_same (λ p. x (bit false p)) (λ p. y (bit false p)) (λ p. f (bit false p))) (least_same (λ p. x (bit true p)) (λ p. y (bit true p)) (λ p. f (bit true p)))

-- ---- the order on strings is total

order : (a b : ℕ) → (a < b) ⊎ (a ≡ b) ⊎ (b < a)
order a b = go (by_test (ltb a b)) (by_test (ltb b a))
  where
    go : T (ltb a b) ⊎ (¬ T (ltb a b)) → T (ltb b a) ⊎ (¬ T (ltb b a)) → (a < b) ⊎ (a ≡ b) ⊎ (b < a)
    go (inl t) u = inl (ltb→lt a b t)
    go (inr f) (inl t) = inr (inr (ltb→lt b a t))
    go (inr f) (inr g) = inr (inl (omega (arith, nltb→le a b (not_of (ltb a b) f), nltb→le b a (not_of (ltb b a) g))))

module _ {n : ℕ} where
  -- one of the two is lower, or they are the same
  pub data Compared (ps qs : List (Packet n)) : Type 0 where
    below : Lower ps qs → Compared ps qs
    equal : ps ≡ qs → Compared ps qs
    above : Lower qs ps → Compared ps qs

  pub compare : (ps qs : List (Packet n)) → length ps ≡ length qs → Compared ps qs
  compare [] [] e = equal refl
  compare [] (q ∷ qs) e = absurd (omega (arith, e))
  compare (p ∷ ps) [] e = absurd (omega (arith, e))
  compare (p ∷ ps) (q ∷ qs) e = go (order (value p) (value q)) (compare ps qs (omega (arith, e)))
    where
      behind : p ≡ q → Compared ps qs → Compared (p ∷ ps) (q ∷ qs)
      behind f (below l) = below (subst (λ q. Lower (p ∷ ps) (q ∷ qs)) f (there l))
      behind f (equal g) = equal (ap₂ ◌∷◌ f g)
      behind f (above l) = above (subst (λ q. Lower (q ∷ qs) (p ∷ ps)) f (there l))

      go : (value p < value q) ⊎ (value p ≡ value q) ⊎ (value q < value p) → Compared ps qs → Compared (p ∷ ps) (q ∷ qs)
      go (inl l) c = below (here l)
      go (inr (inl f)) c = behind (value_one f) c
      go (inr (inr l)) c = above (here l)

  split_end : (hs gs : List (Packet n)) {y z : Packet n} → hs ++ y ∷ [] ≡ gs ++ z ∷ [] → (hs ≡ gs) × (y ≡ z)
  split_end [] [] e = (refl, head-eq_of_cons-eq e)
  split_end [] (g ∷ gs) {y} {z} e = absurd (omega (arith, ap length e, length-append gs (z ∷ [])))
  split_end (h ∷ hs) [] {y} {z} e = absurd (omega (arith, ap length e, length-append hs (y ∷ [])))
  split_end (h ∷ hs) (g ∷ gs) e = let (f, q) = split_end hs gs (tail-eq_of_cons-eq e) in (ap₂ ◌∷◌ (head-eq_of_cons-eq e) f, q)

  pub data ComparedStr (v w : Str n) : Type 0 where
    before : Before v w → ComparedStr v w
    same : v ≡ w → ComparedStr v w
    after : Before w v → ComparedStr v w

  compare_str : (v w : Str n) → ComparedStr v w
  compare_str v w = go (order (length v.hops) (length w.hops))
    where
      at : length v.hops ≡ length w.hops → Compared (packets_of v) (packets_of w) → ComparedStr v w
      at e (below l) = before (lower e l)
      at e (above l) = after (lower (sym e) l)
      at e (equal f) =
          let (g, h) = split_end v.hops w.hops (tail-eq_of_cons-eq f) in
          same (λ i. str (head-eq_of_cons-eq f i) (g i) (h i))

      go : (length v.hops < length w.hops) ⊎ (length v.hops ≡ length w.hops) ⊎ (length w.hops < length v.hops) → ComparedStr v w
      go (inl l) = before (fewer l)
      go (inr (inl e)) =
          at e (compare (packets_of v) (packets_of w) (omega (arith, e, length-append v.hops (v.end ∷ []), length-append w.hops (w.end ∷ []))))
      go (inr (inr l)) = after (fewer l)

  pub picked_one : {A : Language n} {v w : Str n} → Picked A v → Picked A w → v ≡ w
  picked_one {A} {v} {w} i j = go (compare_str v w)
    where
      go : ComparedStr v w → v ≡ w
      go (before b) = absurd (j.first v i.held b)
      go (same e) = e
      go (after b) = absurd (i.first w j.held b)
