-- Whether a rule holds a string can be decided: there are finitely many packets, and a string has finitely many hops. So a string that a complement's
-- complement holds is held. Assumes nothing.
use mathlib.Core.Path.{◌≡◌, refl, sym, ap, subst}
use mathlib.Core.Bool.{Bool, true, false}
use mathlib.Core.List.Memᴰ
use mathlib.Core.List.{List, [], ◌∷◌, ◌++◌, Memᴰ}
use mathlib.Core.Logic.Dec
use mathlib.Core.Logic.{◌⊎◌, inl, inr}
use Prim.Native.Nat.{ℕ, zero, suc, ◌≤◌, ◌<◌}
use native.Mathlib.Omega.{arith}
use native.Mathlib.Decide.{dec_lt}
use lib.Dec.{T}
use lib.ListN.{length, length-append}
use Rattle.common.specs.Packets.{Packet, end, bit, packets}
use Rattle.common.proofs.PacketLaws.{packet_listed}
use Rattle.netkat.specs.Strings.{Str, str}
use Rattle.netkat.specs.Rules.{Rule, Rules, Language, Join, Joins, Star, TailIn, Until, In, InSome, InEach, relation, union, intersection, xor, difference, complement, sequence, star, dup, next, until, top, none, also}
use Rattle.common.proofs.RelationLaws.{same_refl, same_eq}
use Rattle.spp_steps.specs.Relations.{equal}
use Rattle.aut_steps.specs.Languages.{◌≈◌}
use Rattle.aut_steps.proofs.Languages.{Not, star_join, once}

-- ---- deciding

both_dec : {A B : Type 0} → Dec A → Dec B → Dec (A × B)
both_dec (yes a) (yes b) = yes (a, b)
both_dec (yes a) (no n) = no (λ p. n p.1)
both_dec (no n) d = no (λ p. n p.0)

either_dec : {A B : Type 0} → Dec A → Dec B → Dec (A ⊎ B)
either_dec (yes a) d = yes (inl a)
either_dec (no n) (yes b) = yes (inr b)
either_dec {A} {B} (no n) (no m) = no neither
  where
    neither : A ⊎ B → ⊥
    neither (inl a) = n a
    neither (inr b) = m b

not_dec : {A : Type 0} → Dec A → Dec (¬ A)
not_dec (yes a) = no (λ n. n a)
not_dec (no n) = yes n

test_dec : (b : Bool) → Dec (T b)
test_dec true = yes tt
test_dec false = no (λ t. t)

packet_dec : {N : ℕ} (p q : Packet N) → Dec (p ≡ q)
packet_dec p q = Dec.of_iff (same_eq p q, λ e. subst (λ r. T (equal p r)) e (same_refl p)) (test_dec (equal p q))

-- some packet
any_dec : (N : ℕ) (P : Packet N → Type 0) → ((p : Packet N) → Dec (P p)) → Dec ((p : Packet N) × P p)
any_dec zero P d = Dec.of_iff (λ a. (end, a), λ (p, a). at_end p a) (d end)
  where
    at_end : (p : Packet zero) → P p → P end
    at_end end a = a
any_dec (suc n) P d = Dec.of_iff (out, λ (p, a). back p a) (either_dec (any_dec n (λ p. P (bit false p)) (λ p. d (bit false p))) (any_dec n (λ p. P (bit true p)) (λ p. d (bit true p))))
  where
    out : ((p : Packet n) × P (bit false p)) ⊎ ((p : Packet n) × P (bit true p)) → (p : Packet (suc n)) × P p
    out (inl (p, a)) = (bit false p, a)
    out (inr (p, a)) = (bit true p, a)

    back : (p : Packet (suc n)) → P p → ((p : Packet n) × P (bit false p)) ⊎ ((p : Packet n) × P (bit true p))
    back (bit false p) a = inl (p, a)
    back (bit true p) a = inr (p, a)

-- some number up to n, every number below n
up_to_dec : (P : ℕ → Type 0) → ((k : ℕ) → Dec (P k)) → (n : ℕ) → Dec ((k : ℕ) × (k ≤ n) × P k)
up_to_dec P d zero = Dec.of_iff (λ a. (0, omega arith, a), λ (k, l, a). subst P {x = k} {y = 0} (omega arith) a) (d 0)
up_to_dec P d (suc n) = Dec.of_iff (out, back) (either_dec (d (suc n)) (up_to_dec P d n))
  where
    out : P (suc n) ⊎ ((k : ℕ) × (k ≤ n) × P k) → (k : ℕ) × (k ≤ suc n) × P k
    out (inl a) = (suc n, omega arith, a)
    out (inr (k, l, a)) = (k, omega arith, a)

    at : (k : ℕ) → k ≤ suc n → P k → Dec (n < k) → P (suc n) ⊎ ((k : ℕ) × (k ≤ n) × P k)
    at k l a (yes m) = inl (subst P {x = k} {y = suc n} (omega arith) a)
    at k l a (no m) = inr (k, omega arith, a)

    back : ((k : ℕ) × (k ≤ suc n) × P k) → P (suc n) ⊎ ((k : ℕ) × (k ≤ n) × P k)
    back (k, l, a) = at k l a (dec_lt n k)

below_dec : (P : ℕ → Type 0) → ((k : ℕ) → Dec (P k)) → (n : ℕ) → Dec ((k : ℕ) → k < n → P k)
below_dec P d zero = yes (λ k l. absurd (omega arith))
below_dec P d (suc n) = Dec.of_iff (out, λ f. (f n (omega arith), λ k l. f k (omega arith))) (both_dec (d n) (below_dec P d n))
  where
    at : (k : ℕ) → k < suc n → P n → (k < n → P k) → Dec (k < n) → P k
    at k l a f (yes m) = f m
    at k l a f (no m) = subst P {x = n} {y = k} (omega arith) a

    out : P n × ((k : ℕ) → k < n → P k) → (k : ℕ) → k < suc n → P k
    out (a, f) k l = at k l a (f k) (dec_lt k n)

-- some way to part a list
parts_dec : {A : Type 0} (l : List A) (P : List A → List A → Type 0) → ((hs ks : List A) → l ≡ hs ++ ks → Dec (P hs ks)) → Dec ((hs ks : List A) × (l ≡ hs ++ ks) × P hs ks)
parts_dec {A} [] P d = Dec.of_iff (λ a. ([], [], refl, a), λ (hs, ks, e, a). back hs ks e a) (d [] [] refl)
  where
    back : (hs ks : List A) → [] ≡ hs ++ ks → P hs ks → P [] []
    back [] ks e a = subst (P []) (sym e) a
    back (h ∷ hs) ks e a = let z : ◌≡◌ {A = ℕ} 0 1 = cc in absurd (omega arith)
parts_dec {A} (x ∷ l) P d =
    Dec.of_iff (out, λ (hs, ks, e, a). back hs ks e a)
    (either_dec (d [] (x ∷ l) refl) (parts_dec l (λ hs ks. P (x ∷ hs) ks) (λ hs ks e. d (x ∷ hs) ks (ap (λ (r : List A). x ∷ r) e))))
  where
    out : P [] (x ∷ l) ⊎ ((hs ks : List A) × (l ≡ hs ++ ks) × P (x ∷ hs) ks) → (hs ks : List A) × (x ∷ l ≡ hs ++ ks) × P hs ks
    out (inl a) = ([], x ∷ l, refl, a)
    out (inr (hs, ks, e, a)) = (x ∷ hs, ks, ap (λ (r : List A). x ∷ r) e, a)

    back : (hs ks : List A) → x ∷ l ≡ hs ++ ks → P hs ks → P [] (x ∷ l) ⊎ ((hs ks : List A) × (l ≡ hs ++ ks) × P (x ∷ hs) ks)
    back [] ks e a = inl (subst (P []) (sym e) a)
    back (h ∷ hs) ks e a = let p : h ≡ x = cc in let q : l ≡ hs ++ ks = cc in inr (hs, ks, q, subst (λ (y : A). P (y ∷ hs) ks) p a)

-- ---- joins and untils

module _ {N : ℕ} where
  nil_dec : (l : List (Packet N)) → Dec (l ≡ [])
  nil_dec [] = yes refl
  nil_dec (x ∷ l) = no (λ e. let z : ◌≡◌ {A = ℕ} 0 1 = cc in omega arith)

  single_dec : (l : List (Packet N)) (a : Packet N) → Dec (l ≡ a ∷ [])
  single_dec [] a = no (λ e. let z : ◌≡◌ {A = ℕ} 0 1 = cc in omega arith)
  single_dec (x ∷ []) a = Dec.of_iff (ap (λ (y : Packet N). y ∷ []), λ e. let p : x ≡ a = cc in p) (packet_dec x a)
  single_dec (x ∷ (y ∷ l)) a = no (λ e. let z : ◌≡◌ {A = ℕ} 0 1 = cc in omega arith)

  module _ {A B : Language N} (dA : (w : Str N) → Dec (A w)) (dB : (w : Str N) → Dec (B w)) (w : Str N) where
    join_dec : Dec (Join A B w)
    join_dec = Dec.of_iff (
      λ (hs, ks, e, (b, (x, y))). record { first = hs; dropped = b; second = ks; joined = e; left = x; right = y },
      λ j. (j.first, j.second, j.joined, (j.dropped, (j.left, j.right))),
    )
        (parts_dec w.hops (λ hs ks. (b : Packet N) × (A (str w.start hs b) × B (str b ks w.end)))
        (λ hs ks e. any_dec N (λ b. A (str w.start hs b) × B (str b ks w.end)) (λ b. both_dec (dA (str w.start hs b)) (dB (str b ks w.end)))))

    until_dec : Dec (Until A B w)
    until_dec = Dec.of_iff
        (λ (k, l, (b, f)). record { number = k; within = l; some_tail = b; every_longer = f }, λ u. (u.number, u.within, (u.some_tail, u.every_longer)))
        (up_to_dec (λ k. TailIn B k w × ((j : ℕ) → j < k → TailIn A j w)) (λ k. both_dec (dB _) (below_dec (λ j. TailIn A j w) (λ j. dA _) k)) (length w.hops))

  -- ---- stars

  module _ (A : Language N) (d : (w : Str N) → Dec (A w)) where
    -- any number of joins of strings without hops, by way of the packets of a list
    abbrev Way : List (Packet N) → Packet N → Packet N → Type 0
    Way [] p q = (p ≡ q) ⊎ A (str p [] q)
    Way (v ∷ l) p q = Way l p q ⊎ (Way l p v × Way l v q)

    way_dec : (l : List (Packet N)) (p q : Packet N) → Dec (Way l p q)
    way_dec [] p q = either_dec (packet_dec p q) (d (str p [] q))
    way_dec (v ∷ l) p q = either_dec (way_dec l p q) (both_dec (way_dec l p v) (way_dec l v q))

    way_of : (l : List (Packet N)) (p q : Packet N) → (p ≡ q) ⊎ A (str p [] q) → Way l p q
    way_of [] p q a = a
    way_of (v ∷ l) p q a = inl (way_of l p q a)

    way_star : (l : List (Packet N)) (p q : Packet N) → Way l p q → Star A (str p [] q)
    way_star [] p q (inl e) = record { number = 0; joins = (refl, e) }
    way_star [] p q (inr a) = once (str p [] q) a
    way_star (v ∷ l) p q (inl a) = way_star l p q a
    way_star (v ∷ l) p q (inr (a, b)) = let s = way_star l p v a in star_join s.number p [] s.joins (way_star l v q b)

    way_way : (l : List (Packet N)) (p m q : Packet N) → Memᴰ m l → Way l p m → Way l m q → Way l p q
    way_way [] p m q i a b = absurd (Memᴰ.not-nil i)
    way_way (v ∷ l) p m q i a b = at (λ x y. way_way l x m y) (Memᴰ.cases_cons i) a b
      where
        to_v : m ≡ v → (x : Packet N) → Way l x m ⊎ (Way l x v × Way l v m) → Way l x v
        to_v e x (inl a) = subst (Way l x) e a
        to_v e x (inr (a, b)) = a

        from_v : m ≡ v → (x : Packet N) → Way l m x ⊎ (Way l m v × Way l v x) → Way l v x
        from_v e x (inl a) = subst (λ (y : Packet N). Way l y x) e a
        from_v e x (inr (a, b)) = b

        at : ((x y : Packet N) → Memᴰ m l → Way l x m → Way l m y → Way l x y) → (m ≡ v) ⊎ Memᴰ m l → Way l p m ⊎ (Way l p v × Way l v m) → Way l m q ⊎ (Way l m v × Way l v q) → Way l p q ⊎ (Way l p v × Way l v q)
        at inner (inl e) a b = inr (to_v e p a, from_v e q b)
        at inner (inr i) (inl a) (inl b) = inl (inner p q i a b)
        at inner (inr i) (inl a) (inr (b, c)) = inr (inner p v i a b, c)
        at inner (inr i) (inr (a, b)) (inl c) = inr (a, inner v q i b c)
        at inner (inr i) (inr (a, b)) (inr (c, e)) = inr (a, e)

    abbrev Reach : Packet N → Packet N → Type 0
    Reach p q = Way (packets N) p q

    reach : (p m q : Packet N) → A (str p [] m) → Reach m q → Reach p q
    reach p m q a b = way_way (packets N) p m q (packet_listed m) (way_of (packets N) p m (inr a)) b

    -- the first join that has a hop
    abbrev Hop : Packet N → Packet N → List (Packet N) → List (Packet N) → Type 0
    Hop a z [] ks = ⊥
    Hop a z (h ∷ hs) ks = (b : Packet N) × (c : Packet N) × Reach a b × A (str b (h ∷ hs) c) × Star A (str c ks z)

    abbrev FirstHop : Packet N → List (Packet N) → Packet N → Type 0
    FirstHop a l z = (hs ks : List (Packet N)) × (l ≡ hs ++ ks) × Hop a z hs ks

    parted : (a z : Packet N) (l : List (Packet N)) → Star A (str a l z) → ((l ≡ []) × Reach a z) ⊎ FirstHop a l z
    parted a z l s = go s.number a l s.joins
      where
        longer : (a m : Packet N) (l : List (Packet N)) → A (str a [] m) → ((l ≡ []) × Reach m z) ⊎ FirstHop m l z → ((l ≡ []) × Reach a z) ⊎ FirstHop a l z
        longer a m l x (inl (e, r)) = inl (e, reach a m z x r)
        longer a m l x (inr ([], ks, e, h)) = absurd h
        longer a m l x (inr (k ∷ hs, ks, e, (b, c, r, y, s))) = inr (k ∷ hs, ks, e, (b, c, reach a m b x r, y, s))

        at : (k : ℕ) (a m : Packet N) (l hs ks : List (Packet N)) → l ≡ hs ++ ks → A (str a hs m) → Joins A k (str m ks z) → (((ks ≡ []) × Reach m z) ⊎ FirstHop m ks z) → ((l ≡ []) × Reach a z) ⊎ FirstHop a l z
        at k a m l [] ks e x y r = subst (λ (j : List (Packet N)). ((j ≡ []) × Reach a z) ⊎ FirstHop a j z) (sym e) (longer a m ks x r)
        at k a m l (h ∷ hs) ks e x y r = inr (h ∷ hs, ks, e, (a, m, way_of (packets N) a a (inl refl), x, record { number = k; joins = y }))

        go : (k : ℕ) (a : Packet N) (l : List (Packet N)) → Joins A k (str a l z) → ((l ≡ []) × Reach a z) ⊎ FirstHop a l z
        go zero a l (e, p) = inl (e, way_of (packets N) a z (inl p))
        go (suc k) a l j = at k a j.dropped l j.first j.second j.joined j.left j.right (go k j.dropped j.second j.right)

    whole : (a z : Packet N) (l : List (Packet N)) → ((l ≡ []) × Reach a z) ⊎ FirstHop a l z → Star A (str a l z)
    whole a z l (inl (e, r)) = subst (λ (j : List (Packet N)). Star A (str a j z)) (sym e) (way_star (packets N) a z r)
    whole a z l (inr (hs, ks, e, h)) = subst (λ (j : List (Packet N)). Star A (str a j z)) (sym e) (at hs h)
      where
        at : (hs : List (Packet N)) → Hop a z hs ks → Star A (str a (hs ++ ks) z)
        at [] h = absurd h
        at (k ∷ hs) (b, c, r, x, s) =
            let u = once (str b (k ∷ hs) c) x in
            let v = way_star (packets N) a b r in
            star_join v.number a [] v.joins (star_join u.number b (k ∷ hs) u.joins s)

    star_dec_by : (n : ℕ) (a z : Packet N) (l : List (Packet N)) → length l ≤ n → Dec (Star A (str a l z))
    star_dec_by zero a z l m = Dec.of_iff (whole a z l, parted a z l)
        (either_dec (both_dec (nil_dec l) (way_dec (packets N) a z)) (parts_dec l (Hop a z) (λ hs ks e. short hs ks e)))
      where
        short : (hs ks : List (Packet N)) → l ≡ hs ++ ks → Dec (Hop a z hs ks)
        short [] ks e = no (λ x. x)
        short (h ∷ hs) ks e = absurd (omega (arith, ap length e))
    star_dec_by (suc n) a z l m = Dec.of_iff (whole a z l, parted a z l)
        (either_dec (both_dec (nil_dec l) (way_dec (packets N) a z)) (parts_dec l (Hop a z) (hop (λ c ks. star_dec_by n c z ks))))
      where
        hop : ((c : Packet N) (ks : List (Packet N)) → length ks ≤ n → Dec (Star A (str c ks z))) → (hs ks : List (Packet N)) → l ≡ hs ++ ks → Dec (Hop a z hs ks)
        hop rec [] ks e = no (λ x. x)
        hop rec (h ∷ hs) ks e =
            let less : length ks ≤ n = omega (arith, ap length e, length-append hs ks) in
            Dec.of_iff (λ (b, (c, (r, (x, s)))). (b, c, r, x, s), λ (b, c, r, x, s). (b, (c, (r, (x, s)))))
            (any_dec N (λ b. (c : Packet N) × (Reach a b × (A (str b (h ∷ hs) c) × Star A (str c ks z))))
            (λ b. any_dec N (λ c. Reach a b × (A (str b (h ∷ hs) c) × Star A (str c ks z)))
            (λ c. both_dec (way_dec (packets N) a b) (both_dec (d (str b (h ∷ hs) c)) (rec c ks less)))))

    star_dec : (w : Str N) → Dec (Star A w)
    star_dec w = star_dec_by (length w.hops) w.start w.end w.hops (omega arith)

  -- ---- rules

  mutual
    unfolding In

    pub in_dec : (r : Rule N) (w : Str N) → Dec (In r w)
    in_dec (relation r) w = both_dec (nil_dec w.hops) (test_dec (r w.start w.end))
    in_dec (union rs) w = some_dec rs w
    in_dec (intersection rs) w = each_dec rs w
    in_dec (xor a b) w = either_dec (both_dec (in_dec a w) (not_dec (in_dec b w))) (both_dec (in_dec b w) (not_dec (in_dec a w)))
    in_dec (difference a b) w = both_dec (in_dec a w) (not_dec (in_dec b w))
    in_dec (sequence a b) w = join_dec (in_dec a) (in_dec b) w
    in_dec (until a b) w = until_dec (in_dec a) (in_dec b) w
    in_dec (complement a) w = not_dec (in_dec a w)
    in_dec (star a) w = star_dec (λ v. In a v) (in_dec a) w
    in_dec (next a) w = Dec.of_iff (λ (l, x). record { hop = l; its_tail = x }, λ x. (x.hop, x.its_tail)) (both_dec (dec_lt 0 (length w.hops)) (in_dec a _))
    in_dec dup w = both_dec (single_dec w.hops w.start) (packet_dec w.start w.end)
    in_dec top w = yes tt

    some_dec : (rs : Rules N) (w : Str N) → Dec (InSome rs w)
    some_dec none w = no (λ x. x)
    some_dec (also r rs) w = either_dec (in_dec r w) (some_dec rs w)

    each_dec : (rs : Rules N) (w : Str N) → Dec (InEach rs w)
    each_dec none w = yes tt
    each_dec (also r rs) w = both_dec (in_dec r w) (each_dec rs w)

  pub not_not : (r : Rule N) → Not (Not (In r)) ≈ In r
  not_not r w = Dec.not-not (in_dec r w)
