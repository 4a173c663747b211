-- The laws of one hop. For each operator: which strings without hops it holds (the laws `epsilon-..`: what epsilon has to be, from the
-- operands' epsilons), and which strings a,[h,..],z it holds (the laws `..-hop`: what delta has to give). For xor, difference and complement
-- the second goes by the labels of the operands' lists: Laws/Lists.antt.
use mathlib.Core.Path.{◌≡◌, refl, sym, ap, subst}
use mathlib.Core.Logic.{◌↔◌, ◌⊎◌, inl, inr}
use mathlib.Core.Bool.{◌||◌}
use mathlib.Core.List.{List, [], ◌∷◌, ◌++◌}
use lib.ListN.{length}
use lib.Dec.{T}
use Prim.Native.Nat.{ℕ, zero, suc, ◌≤◌, ◌<◌}
use native.Mathlib.Omega.{arith}
use Rattle.common.specs.Packets.{Packet, Relation}
use Rattle.common.proofs.PacketLaws.{both, each, either, or_left, or_right}
use Rattle.common.specs.Relations.{same, noneʳ, allʳ, ◌∪ʳ◌, ◌∩ʳ◌, ◌∖ʳ◌, ◌⊕ʳ◌, ∁ʳ, ◌⨾◌, Closure, here, step}
use Rattle.common.proofs.RelationLaws.{not_of, not_to, minus_of, minus_to, same_refl, same_eq, seq_of, seq_to}
use Rattle.netkat.specs.Strings.{str}
use Rattle.netkat.specs.Rules.{Rule, Rules, relation, union, intersection, dup, top, none, also, Language, Join, Joins, Star, TailIn, Until, Next, In}
use Rattle.netkat.specs.Hops.{IsEpsilon, SameHops, Hop, Late, Early}

module _ {n : ℕ} where
  -- ---- strings without hops

  pub epsilon_same : {e : Relation n} {A B : Language n} → ((a z : Packet n) → A (str a [] z) ↔ B (str a [] z)) → IsEpsilon e A → IsEpsilon e B
  epsilon_same f i = record { ends = λ a z. (λ b. (i.ends a z).0 ((f a z).1 b), λ t. (f a z).0 ((i.ends a z).1 t)) }

  pub epsilon_relation : (r : Relation n) → IsEpsilon r (In (relation r))
  unfolding In
  epsilon_relation r = record { ends = λ a z. (λ w. w.1, λ t. (refl, t)) }

  pub epsilon_dup : IsEpsilon noneʳ (In {n = n} dup)
  unfolding In
  epsilon_dup = record { ends = λ a z. (λ w. absurd (omega (arith, ap length w.0)), λ t. absurd t) }

  pub epsilon_top : IsEpsilon allʳ (In {n = n} top)
  unfolding In
  epsilon_top = record { ends = λ a z. (λ w. tt, λ t. tt) }

  module _ {d e : Relation n} {A B : Language n} (i : IsEpsilon d A) (j : IsEpsilon e B) where
    pub epsilon_union : IsEpsilon (d ∪ʳ e) (λ w. A w ⊎ B w)
    epsilon_union = record { ends = λ a z. (there a z, λ t. back a z (either (d a z) (e a z) t)) }
      where
        there : (a z : Packet n) → A (str a [] z) ⊎ B (str a [] z) → T (d a z || e a z)
        there a z (inl x) = or_left (d a z) (e a z) ((i.ends a z).0 x)
        there a z (inr y) = or_right (d a z) (e a z) ((j.ends a z).0 y)

        back : (a z : Packet n) → T (d a z) ⊎ T (e a z) → A (str a [] z) ⊎ B (str a [] z)
        back a z (inl t) = inl ((i.ends a z).1 t)
        back a z (inr t) = inr ((j.ends a z).1 t)

    pub epsilon_intersection : IsEpsilon (d ∩ʳ e) (λ w. A w × B w)
    epsilon_intersection = record {
      ends = λ a z. (
        λ w. both (d a z) (e a z) ((i.ends a z).0 w.0) ((j.ends a z).0 w.1),
        λ t. let (u, v) = each (d a z) (e a z) t in ((i.ends a z).1 u, (j.ends a z).1 v),
      );
    }

    pub epsilon_difference : IsEpsilon (d ∖ʳ e) (λ w. A w × ¬ B w)
    epsilon_difference = record {
      ends = λ a z. (
        λ w. minus_of (d a z) (e a z) ((i.ends a z).0 w.0) (λ t. w.1 ((j.ends a z).1 t)),
        λ t. let (u, v) = minus_to (d a z) (e a z) t in ((i.ends a z).1 u, λ y. v ((j.ends a z).0 y)),
      );
    }

    pub epsilon_sequence : IsEpsilon (d ⨾ e) (Join A B)
    epsilon_sequence = record { ends = λ a z. (λ w. there a z w.first w.dropped w.second w.joined w.left w.right, back a z) }
      where
        there : (a z : Packet n) (hs : List (Packet n)) (b : Packet n) (ks : List (Packet n)) → [] ≡ hs ++ ks → A (str a hs b) → B (str b ks z) → T ((d ⨾ e) a z)
        there a z [] b [] p x y = seq_of d e a b z ((i.ends a b).0 x) ((j.ends b z).0 y)
        there a z [] b (k ∷ ks) p x y = absurd (omega (arith, ap length p))
        there a z (h ∷ hs) b ks p x y = absurd (omega (arith, ap length p))

        back : (a z : Packet n) → T ((d ⨾ e) a z) → Join A B (str a [] z)
        back a z t =
            let (b, u, v) = seq_to d e a z t in
            record { first = []; dropped = b; second = []; joined = refl; left = (i.ends a b).1 u; right = (j.ends b z).1 v }

    pub epsilon_until : IsEpsilon e (Until A B)
    epsilon_until = record {
      ends = λ a z. (
        λ w. (j.ends a z).0 (there a z w.number w.within w.some_tail),
        λ t. record { number = 0; within = omega arith; some_tail = (j.ends a z).1 t; every_longer = λ k l. absurd (omega arith) },
      );
    }
      where
        there : (a z : Packet n) (k : ℕ) → k ≤ 0 → TailIn B k (str a [] z) → B (str a [] z)
        there a z zero l b = b
        there a z (suc k) l b = absurd (omega arith)

  pub epsilon_xor : {d e : Relation n} {A B : Language n} → IsEpsilon d A → IsEpsilon e B → IsEpsilon (d ⊕ʳ e) (λ w. (A w × ¬ B w) ⊎ (B w × ¬ A w))
  epsilon_xor i j = epsilon_union (epsilon_difference i j) (epsilon_difference j i)

  pub epsilon_complement : {e : Relation n} {A : Language n} → IsEpsilon e A → IsEpsilon (∁ʳ e) (λ w. ¬ A w)
  epsilon_complement {e} i = record { ends = λ a z. (λ w. not_of (e a z) (λ t. w ((i.ends a z).1 t)), λ t x. not_to (e a z) t ((i.ends a z).0 x)) }

  pub epsilon_next : (A : Language n) → IsEpsilon noneʳ (Next A)
  epsilon_next A = record { ends = λ a z. (λ w. absurd (omega (arith, w.hop)), λ t. absurd t) }

  -- a list of rules, member by member
  pub epsilon_union_none : IsEpsilon noneʳ (In {n = n} (union none))
  unfolding In
  epsilon_union_none = record { ends = λ a z. (λ w. w, λ t. t) }

  pub epsilon_union_also : {d e : Relation n} (r : Rule n) (rs : Rules n) → IsEpsilon d (In r) → IsEpsilon e (In (union rs)) → IsEpsilon (d ∪ʳ e) (In (union (also r rs)))
  unfolding In
  epsilon_union_also r rs i j = record { ends = (epsilon_union i j).ends }

  pub epsilon_intersection_none : IsEpsilon allʳ (In {n = n} (intersection none))
  unfolding In
  epsilon_intersection_none = record { ends = λ a z. (λ w. tt, λ t. tt) }

  pub epsilon_intersection_also : {d e : Relation n} (r : Rule n) (rs : Rules n) → IsEpsilon d (In r) → IsEpsilon e (In (intersection rs)) →
      IsEpsilon (d ∩ʳ e) (In (intersection (also r rs)))
  unfolding In
  epsilon_intersection_also r rs i j = record { ends = (epsilon_intersection i j).ends }

  -- ---- Star without hops: any number of steps of epsilon

  no_hops : (hs ks : List (Packet n)) → [] ≡ hs ++ ks → (hs ≡ []) × (ks ≡ [])
  no_hops [] ks p = (refl, sym p)
  no_hops (h ∷ hs) ks p = absurd (omega (arith, ap length p))

  module _ (A : Language n) where
    -- A's strings without hops
    abbrev pub Ends : Packet n → Packet n → Type 0
    Ends a z = A (str a [] z)

    joins_end : (k : ℕ) (a z : Packet n) → Joins A k (str a [] z) → Closure Ends a z
    joins_end zero a z (p, q) = subst (λ z. Closure Ends a z) q here
    joins_end (suc k) a z w =
        let (p, q) = no_hops w.first w.second w.joined in
        step (subst (λ hs. A (str a hs w.dropped)) p w.left) (joins_end k w.dropped z (subst (λ hs. Joins A k (str w.dropped hs z)) q w.right))

    star_step : {a b : Packet n} {hs : List (Packet n)} {z : Packet n} → Ends a b → Star A (str b hs z) → Star A (str a hs z)
    star_step {b} {hs} x s = record {
      number = suc s.number;
      joins = record { first = []; dropped = b; second = hs; joined = refl; left = x; right = s.joins };
    }

    closure_end : {a z : Packet n} → Closure Ends a z → Star A (str a [] z)
    closure_end here = record { number = 0; joins = (refl, refl) }
    closure_end (step x c) = star_step x (closure_end c)

    pub star_end : (a z : Packet n) → Star A (str a [] z) ↔ Closure Ends a z
    star_end a z = (λ s. joins_end s.number a z s.joins, closure_end)

  -- The closure is given as a relation c: spp.rs's star of e.
  pub epsilon_star : {e c : Relation n} {A : Language n} → IsEpsilon e A → ((a z : Packet n) → T (c a z) ↔ Closure (λ a z. T (e a z)) a z) → IsEpsilon c (Star A)
  epsilon_star {e} {c} {A} i f = record {
    ends = λ a z. (λ s. (f a z).1 (to ((star_end A a z).0 s)), λ t. (star_end A a z).1 (from ((f a z).0 t)));
  }
    where
      to : {a z : Packet n} → Closure (Ends A) a z → Closure (λ a z. T (e a z)) a z
      to here = here
      to (step x k) = step ((i.ends _ _).0 x) (to k)

      from : {a z : Packet n} → Closure (λ a z. T (e a z)) a z → Closure (Ends A) a z
      from here = here
      from (step x k) = step ((i.ends _ _).1 x) (from k)

  -- ---- strings with a hop

  pub relation_hop : (r : Relation n) → SameHops (In (relation r)) (λ w. ⊥)
  unfolding In
  relation_hop r a h hs z = (λ w. absurd (omega (arith, ap length w.0)), λ t. absurd t)

  -- Dup: one transition, the identity, to the identity
  pub dup_hop : SameHops (In {n = n} dup) (Hop same (In (relation same)))
  unfolding In
  dup_hop a h hs z = (there, back)
    where
      there : (h ∷ hs ≡ a ∷ []) × (a ≡ z) → T (same a h) × ((hs ≡ []) × T (same h z))
      there (p, q) =
          let at-start : a ≡ h = cc in
          let at_end : h ≡ z = cc in
          (rw at-start (same_refl h), (cc, rw at_end (same_refl z)))

      back : T (same a h) × ((hs ≡ []) × T (same h z)) → (h ∷ hs ≡ a ∷ []) × (a ≡ z)
      back (t, (p, u)) =
          let at-start : a ≡ h = same_eq a h t in
          let at_end : h ≡ z = same_eq h z u in
          (cc, cc)

  -- Top: one transition, all pairs, to Top
  pub top_hop : SameHops (In {n = n} top) (Hop allʳ (In top))
  unfolding In
  top_hop a h hs z = (λ w. (tt, tt), λ w. tt)

  -- LtlNext: one transition, all pairs, to the operand
  pub next_hop : (A : Language n) → SameHops (Next A) (Hop allʳ A)
  next_hop A a h hs z = (λ w. (tt, w.its_tail), λ w. record { hop = omega arith; its_tail = w.1 })

  -- LtlUntil: the second, or the first and the tail again in the whole
  pub until_hop : (A B : Language n) → SameHops (Until A B) (λ w. B w ⊎ (A w × Hop allʳ (Until A B) w))
  until_hop A B a h hs z = (λ w. there w.number w.within w.some_tail w.every_longer, back)
    where
      there : (k : ℕ) → k ≤ suc (length hs) → TailIn B k (str a (h ∷ hs) z) → ((j : ℕ) → j < k → TailIn A j (str a (h ∷ hs) z)) →
          B (str a (h ∷ hs) z) ⊎ (A (str a (h ∷ hs) z) × (Unit {0} × Until A B (str h hs z)))
      there zero l b f = inl b
      there (suc k) l b f = inr (f 0 (omega arith), (tt, record { number = k; within = omega arith; some_tail = b; every_longer = λ j m. f (suc j) (omega arith) }))

      longer : A (str a (h ∷ hs) z) → (k : ℕ) → ((j : ℕ) → j < k → TailIn A j (str h hs z)) → (j : ℕ) → j < suc k → TailIn A j (str a (h ∷ hs) z)
      longer x k f zero l = x
      longer x k f (suc j) l = f j (omega arith)

      back : B (str a (h ∷ hs) z) ⊎ (A (str a (h ∷ hs) z) × (Unit {0} × Until A B (str h hs z))) → Until A B (str a (h ∷ hs) z)
      back (inl b) = record { number = 0; within = omega arith; some_tail = b; every_longer = λ j l. absurd (omega arith) }
      back (inr (x, (t, u))) = record { number = suc u.number; within = omega (arith, u.within); some_tail = u.some_tail; every_longer = longer x u.number u.every_longer }

  -- Sequence: the first hop is of the first operand's string, or that string has none
  pub sequence_hop : {d : Relation n} {A : Language n} (B : Language n) → IsEpsilon d A → SameHops (Join A B) (λ w. Late A B w ⊎ Early d B w)
  sequence_hop {d} {A} B i a h hs z = (λ w. there w.first w.dropped w.second w.joined w.left w.right, back)
    where
      there : (fs : List (Packet n)) (b : Packet n) (ks : List (Packet n)) → h ∷ hs ≡ fs ++ ks → A (str a fs b) → B (str b ks z) →
          Late A B (str a (h ∷ hs) z) ⊎ Early d B (str a (h ∷ hs) z)
      there [] b ks p x y = inr (record { dropped = b; left = (i.ends a b).0 x; right = rw p y })
      there (f ∷ fs) b ks p x y =
          let at_hop : h ≡ f = cc in
          inl (record { first = fs; dropped = b; second = ks; joined = cc; left = rw at_hop x; right = y })

      back : Late A B (str a (h ∷ hs) z) ⊎ Early d B (str a (h ∷ hs) z) → Join A B (str a (h ∷ hs) z)
      back (inl w) = record {
        first = h ∷ w.first;
        dropped = w.dropped;
        second = w.second;
        joined = ap (λ l. h ∷ l) w.joined;
        left = w.left;
        right = w.right;
      }
      back (inr w) = record { first = []; dropped = w.dropped; second = h ∷ hs; joined = refl; left = (i.ends a w.dropped).1 w.left; right = w.right }

  -- Star: any number of steps of epsilon, then a string of the operand with a hop, then the star again
  pub star_hop : {e c : Relation n} (A : Language n) → IsEpsilon e A → ((a z : Packet n) → T (c a z) ↔ Closure (λ a z. T (e a z)) a z) →
      SameHops (Star A) (Early c (Late A (Star A)))
  star_hop {e} {c} A i f a h hs z = (λ s. early a (there s.number a s.joins), λ w. back ((f a w.dropped).0 w.left) w.right)
    where
      -- a way from a to where the hop is taken
      Found : Packet n → Type 0
      Found a = (b : Packet n) × Closure (λ a z. T (e a z)) a b × Late A (Star A) (str b (h ∷ hs) z)

      early : (a : Packet n) → Found a → Early c (Late A (Star A)) (str a (h ∷ hs) z)
      early a (b, k, l) = record { dropped = b; left = (f a b).1 k; right = l }

      one_more : (k : ℕ) (a : Packet n) (fs : List (Packet n)) (b : Packet n) (ks : List (Packet n)) → h ∷ hs ≡ fs ++ ks → A (str a fs b) → Joins A k (str b ks z) →
          (Joins A k (str b (h ∷ hs) z) → Found b) → Found a
      one_more k a [] b ks p x y rec =
          let (m, q, l) = rec (rw p y) in
          (m, step ((i.ends a b).0 x) q, l)
      one_more k a (g ∷ fs) b ks p x y rec =
          let at_hop : h ≡ g = cc in
          (a, here, record { first = fs; dropped = b; second = ks; joined = cc; left = rw at_hop x; right = record { number = k; joins = y } })

      there : (k : ℕ) (a : Packet n) → Joins A k (str a (h ∷ hs) z) → Found a
      there zero a w = absurd (omega (arith, ap length w.0))
      there (suc k) a w = one_more k a w.first w.dropped w.second w.joined w.left w.right (there k w.dropped)

      back : {a b : Packet n} → Closure (λ a z. T (e a z)) a b → Late A (Star A) (str b (h ∷ hs) z) → Star A (str a (h ∷ hs) z)
      back here w = record {
        number = suc w.right.number;
        joins = record { first = h ∷ w.first; dropped = w.dropped; second = w.second; joined = ap (λ l. h ∷ l) w.joined; left = w.left; right = w.right.joins };
      }
      back (step x k) w = star_step A ((i.ends _ _).1 x) (back k w)
