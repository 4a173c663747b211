-- What holds of the definitions of specs/Languages.
use mathlib.Core.Path.{◌≡◌, refl, sym, ◌∙◌, ap, ap₂, subst, subst₂}
use mathlib.Core.Bool.{Bool, false, not, ◌&&◌, ◌||◌}
use mathlib.Core.List.{List, [], ◌++◌, append_assoc, append-nil}
use mathlib.Core.Logic.{◌↔◌, ◌⊎◌, inl, inr}
use Prim.Native.Nat.{ℕ, zero, suc}
use lib.Dec.{T, T_not, not_T}
use Rattle.common.specs.Packets.{Packet, Relation}
use Rattle.common.proofs.PacketLaws.{both, each, either, or_left, or_right}
use Rattle.netkat.specs.Strings.{Str, str}
use Rattle.netkat.specs.Rules.{Language, Join, Joins, Star, Next, Until}
use Rattle.common.proofs.RelationLaws.{seq_of, seq_to, same_refl, same_eq}
use Rattle.spp_steps.specs.Relations.{compose, equal}
use Rattle.aut_steps.specs.Languages.{◌≈◌}

-- ---- sums

infixr 3 ◌so◌
pub ◌so◌ : {A B C : Type 0} → A ↔ B → B ↔ C → A ↔ C
e so f = (λ a. f.0 (e.0 a), λ c. e.1 (f.1 c))

pub back : {A B : Type 0} → A ↔ B → B ↔ A
back e = (e.1, e.0)

pub same : {A : Type 0} → A ↔ A
same = (λ a. a, λ a. a)

pub sum_same : {A A' B B' : Type 0} → A ↔ A' → B ↔ B' → (A ⊎ B) ↔ (A' ⊎ B')
sum_same {A} {A'} {B} {B'} f g = (there, back)
  where
    there : A ⊎ B → A' ⊎ B'
    there (inl a) = inl (f.0 a)
    there (inr b) = inr (g.0 b)

    back : A' ⊎ B' → A ⊎ B
    back (inl a) = inl (f.1 a)
    back (inr b) = inr (g.1 b)

pub sum_assoc : {A B C : Type 0} → (A ⊎ (B ⊎ C)) ↔ ((A ⊎ B) ⊎ C)
sum_assoc {A} {B} {C} = (there, back)
  where
    there : A ⊎ (B ⊎ C) → (A ⊎ B) ⊎ C
    there (inl a) = inl (inl a)
    there (inr (inl b)) = inl (inr b)
    there (inr (inr c)) = inr c

    back : (A ⊎ B) ⊎ C → A ⊎ (B ⊎ C)
    back (inl (inl a)) = inl a
    back (inl (inr b)) = inr (inl b)
    back (inr c) = inr (inr c)

pub sum_swap : {A B C : Type 0} → ((A ⊎ B) ⊎ C) ↔ ((A ⊎ C) ⊎ B)
sum_swap {A} {B} {C} = (turn, turn)
  where
    turn : {A B C : Type 0} → (A ⊎ B) ⊎ C → (A ⊎ C) ⊎ B
    turn (inl (inl a)) = inl (inl a)
    turn (inl (inr b)) = inr b
    turn (inr c) = inl (inr c)

pub sum_turn : {A B : Type 0} → (A ⊎ B) ↔ (B ⊎ A)
sum_turn = (turn, turn)
  where
    turn : {A B : Type 0} → A ⊎ B → B ⊎ A
    turn (inl a) = inr a
    turn (inr b) = inl b

pub sum_none : {A : Type 0} → (A ⊎ ⊥) ↔ A
sum_none {A} = (there, inl)
  where
    there : A ⊎ ⊥ → A
    there (inl a) = a
    there (inr b) = absurd b

pub none_sum : {A B : Type 0} → ¬ A → (A ⊎ B) ↔ B
none_sum {A} {B} n = (there, inr)
  where
    there : A ⊎ B → B
    there (inl a) = absurd (n a)
    there (inr b) = b

-- ---- sets of strings

module _ {N : ℕ} where
  infix 2 ◌⊆◌
  abbrev pub ◌⊆◌ : Language N → Language N → Type 0
  A ⊆ B = (w : Str N) → A w → B w

  pub ≈-sym : {A B : Language N} → A ≈ B → B ≈ A
  ≈-sym e w = ((e w).1, (e w).0)

  infixr 3 ◌then◌
  pub ◌then◌ : {A B C : Language N} → A ≈ B → B ≈ C → A ≈ C
  (e then f) w = (λ a. (f w).0 ((e w).0 a), λ c. (e w).1 ((f w).1 c))

  -- the strings without hops of a relation
  abbrev pub Rel : Relation N → Language N
  Rel R w = (w.hops ≡ []) × T (R w.start w.end)

  -- ---- parts may be replaced

  pub join_map : {A A' B B' : Language N} → A ⊆ A' → B ⊆ B' → Join A B ⊆ Join A' B'
  join_map f g w j = record { first = j.first; dropped = j.dropped; second = j.second; joined = j.joined; left = f _ j.left; right = g _ j.right }

  pub join_same : {A A' B B' : Language N} → A ≈ A' → B ≈ B' → Join A B ≈ Join A' B'
  join_same f g w = (join_map (λ v. (f v).0) (λ v. (g v).0) w, join_map (λ v. (f v).1) (λ v. (g v).1) w)

  joins_map : {A A' : Language N} → A ⊆ A' → (k : ℕ) → Joins A k ⊆ Joins A' k
  joins_map f zero w p = p
  joins_map {A} {A'} f (suc k) w j = join_map {B = Joins A k} {B' = Joins A' k} f (joins_map f k) w j

  star_map : {A A' : Language N} → A ⊆ A' → Star A ⊆ Star A'
  star_map f w s = record { number = s.number; joins = joins_map f s.number w s.joins }

  pub star_same : {A A' : Language N} → A ≈ A' → Star A ≈ Star A'
  star_same f w = (star_map (λ v. (f v).0) w, star_map (λ v. (f v).1) w)

  until_map : {A A' B B' : Language N} → A ⊆ A' → B ⊆ B' → Until A B ⊆ Until A' B'
  until_map f g w u = record { number = u.number; within = u.within; some_tail = g _ u.some_tail; every_longer = λ j l. f _ (u.every_longer j l) }

  next_map : {A A' : Language N} → A ⊆ A' → Next A ⊆ Next A'
  next_map f w n = record { hop = n.hop; its_tail = f _ n.its_tail }

  pub next_same : {A A' : Language N} → A ≈ A' → Next A ≈ Next A'
  next_same f w = (next_map (λ v. (f v).0) w, next_map (λ v. (f v).1) w)

  pub until_same : {A A' B B' : Language N} → A ≈ A' → B ≈ B' → Until A B ≈ Until A' B'
  until_same f g w = (until_map (λ v. (f v).0) (λ v. (g v).0) w, until_map (λ v. (f v).1) (λ v. (g v).1) w)

  -- ---- joins

  pub join_assoc : (A B C : Language N) → Join (Join A B) C ≈ Join A (Join B C)
  join_assoc A B C w = (there, back)
    where
      there : Join (Join A B) C w → Join A (Join B C) w
      there j =
          let i = j.left in
          record {
            first = i.first;
            dropped = i.dropped;
            second = i.second ++ j.second;
            joined = j.joined ∙ ap (λ (l : List (Packet N)). l ++ j.second) i.joined ∙ append_assoc i.first i.second j.second;
            left = i.left;
            right = record { first = i.second; dropped = j.dropped; second = j.second; joined = refl; left = i.right; right = j.right };
          }

      back : Join A (Join B C) w → Join (Join A B) C w
      back j =
          let i = j.right in
          record {
            first = j.first ++ i.first;
            dropped = i.dropped;
            second = i.second;
            joined = j.joined ∙ ap (λ (l : List (Packet N)). j.first ++ l) i.joined ∙ sym (append_assoc j.first i.first i.second);
            left = record { first = j.first; dropped = j.dropped; second = i.first; joined = refl; left = j.left; right = i.left };
            right = i.right;
          }

  pub join_rel : (R S : Relation N) → Join (Rel R) (Rel S) ≈ Rel (compose R S)
  join_rel R S w = (there, back)
    where
      there : Join (Rel R) (Rel S) w → Rel (compose R S) w
      there j = (j.joined ∙ ap₂ (λ (l m : List (Packet N)). l ++ m) j.left.0 j.right.0, seq_of R S w.start j.dropped w.end j.left.1 j.right.1)

      back : Rel (compose R S) w → Join (Rel R) (Rel S) w
      back (h, t) = let (m, u, v) = seq_to R S w.start w.end t in record { first = []; dropped = m; second = []; joined = h; left = (refl, u); right = (refl, v) }

  pub join_one_left : (A : Language N) → Join (Rel equal) A ≈ A
  join_one_left A w = (there, λ a. record { first = []; dropped = w.start; second = w.hops; joined = refl; left = (refl, same_refl w.start); right = a })
    where
      there : Join (Rel equal) A w → A w
      there j =
          subst₂ (λ (c : Packet N) (l : List (Packet N)). A (str c l w.end)) (sym (same_eq w.start j.dropped j.left.1))
          (sym (j.joined ∙ ap (λ (l : List (Packet N)). l ++ j.second) j.left.0)) j.right

  pub join_one_right : (A : Language N) → Join A (Rel equal) ≈ A
  join_one_right A w = (there, λ a. record { first = w.hops; dropped = w.end; second = []; joined = sym (append-nil w.hops); left = a; right = (refl, same_refl w.end) })
    where
      there : Join A (Rel equal) w → A w
      there j =
          subst₂ (λ (c : Packet N) (l : List (Packet N)). A (str w.start l c)) (same_eq j.dropped w.end j.right.1)
          (sym (j.joined ∙ ap (λ (l : List (Packet N)). j.first ++ l) j.right.0 ∙ append-nil j.first)) j.left

  abbrev pub None : Language N
  None w = ⊥

  abbrev pub Whole : Language N
  Whole w = Unit {0}

  pub join_none_left : (A : Language N) → Join None A ≈ None
  join_none_left A w = (λ j. j.left, λ x. absurd x)

  pub join_none_right : (A : Language N) → Join A None ≈ None
  join_none_right A w = (λ j. j.right, λ x. absurd x)

  pub join_whole : Join Whole Whole ≈ Whole
  join_whole w = (λ x. tt, λ x. record { first = []; dropped = w.start; second = w.hops; joined = refl; left = tt; right = tt })

  -- ---- stars

  pub star_join : {A : Language N} {b z : Packet N} {ks : List (Packet N)} (j : ℕ) (a : Packet N) (hs : List (Packet N)) → Joins A j (str a hs b) → Star A (str b ks z) → Star A (str a (hs ++ ks) z)
  star_join {A} {b} {z} {ks} zero a hs (h, p) s = subst₂ (λ (c : Packet N) (l : List (Packet N)). Star A (str c (l ++ ks) z)) (sym p) (sym h) s
  star_join {ks = ks} (suc k) a hs j s =
      let t = star_join k j.dropped j.second j.right s in
      record {
        number = suc t.number;
        joins = record {
          first = j.first;
          dropped = j.dropped;
          second = j.second ++ ks;
          joined = ap (λ (l : List (Packet N)). l ++ ks) j.joined ∙ append_assoc j.first j.second ks;
          left = j.left;
          right = t.joins;
        };
      }

  pub once : {A : Language N} → A ⊆ Star A
  once w a = record { number = 1; joins = record { first = w.hops; dropped = w.end; second = []; joined = sym (append-nil w.hops); left = a; right = (refl, refl) } }

  pub star_star : (A : Language N) → Star (Star A) ≈ Star A
  star_star A w = (λ s. there s.number w s.joins, once w)
    where
      there : (k : ℕ) → Joins (Star A) k ⊆ Star A
      there zero w p = record { number = zero; joins = p }
      there (suc k) w j =
          subst (λ (l : List (Packet N)). Star A (str w.start l w.end)) (sym j.joined)
          (star_join j.left.number w.start j.first j.left.joins (there k _ j.right))

  pub star_whole : Star Whole ≈ Whole
  star_whole w = (λ x. tt, λ x. once w tt)

  -- k steps of a relation, one after the other
  abbrev pub Steps : Relation N → ℕ → Packet N → Packet N → Type 0
  Steps R zero p q = p ≡ q
  Steps R (suc k) p q = (m : Packet N) × T (R p m) × Steps R k m q

  pub star_rel : (R S : Relation N) → ((p q : Packet N) → T (S p q) ↔ ((k : ℕ) × Steps R k p q)) → Star (Rel R) ≈ Rel S
  star_rel R S c w = (λ s. let (h, t) = there s.number w s.joins in (h, (c w.start w.end).1 t), back)
    where
      there : (k : ℕ) (w : Str N) → Joins (Rel R) k w → (w.hops ≡ []) × ((k : ℕ) × Steps R k w.start w.end)
      there zero w (h, p) = (h, (zero, p))
      there (suc k) w j =
          let (l, (i, s)) = there k _ j.right in
          (j.joined ∙ ap₂ (λ (l m : List (Packet N)). l ++ m) j.left.0 l, (suc i, (j.dropped, j.left.1, s)))

      run : (k : ℕ) (a z : Packet N) → Steps R k a z → Joins (Rel R) k (str a [] z)
      run zero a z s = (refl, s)
      run (suc k) a z (m, t, s) = record { first = []; dropped = m; second = []; joined = refl; left = (refl, t); right = run k m z s }

      back : Rel S w → Star (Rel R) w
      back (h, t) =
          let (k, s) = (c w.start w.end).0 t in
          subst (λ (l : List (Packet N)). Star (Rel R) (str w.start l w.end)) (sym h) (record { number = k; joins = run k w.start w.end s })

  -- ---- the set operations on relations

  abbrev pub Either : Language N → Language N → Language N
  Either A B w = A w ⊎ B w

  abbrev pub Both : Language N → Language N → Language N
  Both A B w = A w × B w

  abbrev pub Minus : Language N → Language N → Language N
  Minus A B w = A w × ¬ B w

  abbrev pub Differ : Language N → Language N → Language N
  Differ A B w = (A w × ¬ B w) ⊎ (B w × ¬ A w)

  abbrev pub Not : Language N → Language N
  Not A w = ¬ A w

  pub either_same : {A A' B B' : Language N} → A ≈ A' → B ≈ B' → Either A B ≈ Either A' B'
  either_same f g w = sum_same (f w) (g w)

  pub both_same : {A A' B B' : Language N} → A ≈ A' → B ≈ B' → Both A B ≈ Both A' B'
  both_same f g w = (λ (a, b). ((f w).0 a, (g w).0 b), λ (a, b). ((f w).1 a, (g w).1 b))

  pub not_same : {A A' : Language N} → A ≈ A' → Not A ≈ Not A'
  not_same f w = (λ n a. n ((f w).1 a), λ n a. n ((f w).0 a))

  pub minus_same : {A A' B B' : Language N} → A ≈ A' → B ≈ B' → Minus A B ≈ Minus A' B'
  minus_same f g = both_same f (not_same g)

  pub differ_same : {A A' B B' : Language N} → A ≈ A' → B ≈ B' → Differ A B ≈ Differ A' B'
  differ_same f g = either_same (minus_same f g) (minus_same g f)

  pub either_rel : (R S : Relation N) → Either (Rel R) (Rel S) ≈ Rel (λ p q. R p q || S p q)
  either_rel R S w = (there, back)
    where
      r : Bool
      r = R w.start w.end

      s : Bool
      s = S w.start w.end

      there : Either (Rel R) (Rel S) w → Rel (λ p q. R p q || S p q) w
      there (inl (h, t)) = (h, or_left r s t)
      there (inr (h, t)) = (h, or_right r s t)

      pick : w.hops ≡ [] → T r ⊎ T s → Either (Rel R) (Rel S) w
      pick h (inl t) = inl (h, t)
      pick h (inr t) = inr (h, t)

      back : Rel (λ p q. R p q || S p q) w → Either (Rel R) (Rel S) w
      back (h, t) = pick h (either r s t)

  pub both_rel : (R S : Relation N) → Both (Rel R) (Rel S) ≈ Rel (λ p q. R p q && S p q)
  both_rel R S w = (
    λ ((h, t), (k, u)). (h, both (R w.start w.end) (S w.start w.end) t u),
    λ (h, t). let (u, v) = each (R w.start w.end) (S w.start w.end) t in ((h, u), (h, v)),
  )

  pub minus_rel : (R S : Relation N) → Minus (Rel R) (Rel S) ≈ Rel (λ p q. R p q && not (S p q))
  minus_rel R S w = (
    λ ((h, t), n). (h, both (R w.start w.end) (not (S w.start w.end)) t (not_T (S w.start w.end) (λ u. n (h, u)))),
    λ (h, t). let (u, v) = each (R w.start w.end) (not (S w.start w.end)) t in ((h, u), λ (k, s). T_not (S w.start w.end) v s),
  )

  pub differ_rel : (R S : Relation N) → Differ (Rel R) (Rel S) ≈ Rel (λ p q. (R p q && not (S p q)) || (S p q && not (R p q)))
  differ_rel R S = either_same (minus_rel R S) (minus_rel S R) then either_rel (λ p q. R p q && not (S p q)) (λ p q. S p q && not (R p q))

  -- two relations with the same pairs
  pub rel_same : {R S : Relation N} → ((p q : Packet N) → R p q ≡ S p q) → Rel R ≈ Rel S
  rel_same f w = (λ (h, t). (h, subst T (f w.start w.end) t), λ (h, t). (h, subst T (sym (f w.start w.end)) t))

  pub rel_none : {R : Relation N} → ((p q : Packet N) → R p q ≡ false) → Rel R ≈ None
  rel_none f w = (λ (h, t). subst T (f w.start w.end) t, λ x. absurd x)
