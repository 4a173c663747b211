-- What the steps on words do: lists among the members, a search, a new state's words.
use Rattle.std.specs.Prelude.{if◌then◌else◌}
use mathlib.Core.Path.{◌≡◌, refl, sym, ◌∙◌, ap, ap₂, subst}
use mathlib.Core.Bool.{Bool, true, false, ◌&&◌}
use mathlib.Core.List.{List, [], ◌∷◌}
use mathlib.Core.Logic.{inl, inr, ◌≢◌}
use Prim.Native.Nat.{ℕ, zero, suc, ◌+◌, ◌*◌, ◌/◌, ◌≤◌, ◌<◌}
use native.Mathlib.Omega.{arith}
use lib.Dec.{eqb, ltb, leb}
use lib.ListN.{length, get_or, set, length-set}
use lib.Seq.{sets, get_or-set_same, get_or-set_other}
use borrow.Author.Tests.{eqb-true, eq-eqb, ltb-true, leb-true, eqb-false}
use Rattle.common.specs.Runs.{Table}
use Rattle.aut_steps.specs.Tables.{kind_of, op1, op2, nest, words, state_cap, member_cap, room_s, room_m, put4}
use Rattle.aut_steps.specs.Intern.{seek, same2, same_at, same_l}
use Rattle.aut_steps.proofs.ListLaws.{Some}

pub and_true : (a b : Bool) → (a && b) ≡ true → (a ≡ true) × (b ≡ true)
and_true true b e = (refl, e)
and_true false b e = let z : ◌≡◌ {A = ℕ} 0 1 = cc in absurd (omega arith)

pub and_false : (a b : Bool) → (a && b) ≡ false → a ≡ true → b ≡ true → ⊥
and_false true true e p q = let z : ◌≡◌ {A = ℕ} 0 1 = cc in omega arith
and_false true false e p q = let z : ◌≡◌ {A = ℕ} 0 1 = cc in omega arith
and_false false b e p q = let z : ◌≡◌ {A = ℕ} 0 1 = cc in omega arith

-- ---- words

pub words_length : (s : List ℕ) (a k : ℕ) → length (words s a k) ≡ k
unfolding words
words_length s a zero = refl
words_length s a (suc k) = ap suc (words_length s (a + 1) k)

pub words_same : (s t : List ℕ) (b k : ℕ) → ((i : ℕ) → b ≤ i → i < b + k → get_or t i 0 ≡ get_or s i 0) → words t b k ≡ words s b k
unfolding words
words_same s t b zero f = refl
words_same s t b (suc k) f = ap₂ (λ (x : ℕ) (l : List ℕ). x ∷ l) (f b (omega arith) (omega arith)) (words_same s t (b + 1) k (λ i l r. f i (omega arith) (omega arith)))

pub sets_below : (ys s : List ℕ) (a i : ℕ) → i < a → get_or (sets s a ys) i 0 ≡ get_or s i 0
sets_below [] s a i l = refl
sets_below (y ∷ ys) s a i l = sets_below ys (set s a y) (suc a) i (omega arith) ∙ get_or-set_other s a i y 0 (λ e. omega arith)

pub sets_above : (ys s : List ℕ) (a i : ℕ) → a + length ys ≤ i → get_or (sets s a ys) i 0 ≡ get_or s i 0
sets_above [] s a i l = refl
sets_above (y ∷ ys) s a i l = sets_above ys (set s a y) (suc a) i (omega arith) ∙ get_or-set_other s a i y 0 (λ e. omega arith)

pub words_sets : (ys s : List ℕ) (a : ℕ) → a + length ys ≤ length s → words (sets s a ys) a (length ys) ≡ ys
unfolding words
words_sets [] s a l = refl
words_sets (y ∷ ys) s a l =
    ap₂ (λ (x : ℕ) (r : List ℕ). x ∷ r)
    (sets_below ys (set s a y) (suc a) a (omega arith) ∙ get_or-set_same s a y 0 (omega arith))
    (ap (λ (b : ℕ). words (sets (set s a y) (suc a) ys) b (length ys)) {x = a + 1} {y = suc a} (omega arith)
    ∙ words_sets ys (set s a y) (suc a) (simp length-set (omega arith)))

-- a word of the list, by its place
pub some_word : (P : ℕ → Type 0) (s : List ℕ) (a k j : ℕ) → j < k → P (get_or s (a + j) 0) → Some P (words s a k)
unfolding words
some_word P s a zero j l p = absurd (omega arith)
some_word P s a (suc k) zero l p = inl (subst (λ (i : ℕ). P (get_or s i 0)) {x = a + 0} {y = a} (omega arith) p)
some_word P s a (suc k) (suc j) l p = inr (some_word P s (a + 1) k j (omega arith) (subst (λ (i : ℕ). P (get_or s i 0)) {x = a + suc j} {y = a + 1 + j} (omega arith) p))

pub word_of : (P : ℕ → Type 0) (s : List ℕ) (a k : ℕ) → Some P (words s a k) → (j : ℕ) × (j < k) × P (get_or s (a + j) 0)
unfolding words
word_of P s a zero p = absurd p
word_of P s a (suc k) (inl p) = (0, omega arith, subst (λ (i : ℕ). P (get_or s i 0)) {x = a} {y = a + 0} (omega arith) p)
word_of P s a (suc k) (inr p) =
    let (j, l, q) = word_of P s (a + 1) k p in
    (suc j, omega arith, subst (λ (i : ℕ). P (get_or s i 0)) {x = a + 1 + j} {y = a + suc j} (omega arith) q)

-- ---- a search

pub seek_hit : (f : ℕ → Bool) (i k : ℕ) → seek f i k < i + k → f (seek f i k) ≡ true
unfolding seek
seek_hit f i zero l = absurd (omega arith)
seek_hit f i (suc k) l = go (λ m. seek_hit f (i + 1) k m) (f i) refl l
  where
    go : (seek f (i + 1) k < i + 1 + k → f (seek f (i + 1) k) ≡ true) → (c : Bool) → f i ≡ c → (if c then i else seek f (i + 1) k) < i + suc k → f (if c then i else seek f (i + 1) k) ≡ true
    go ih true e m = e
    go ih false e m = ih (omega arith)

pub seek_miss : (f : ℕ → Bool) (i k : ℕ) → i + k ≤ seek f i k → (j : ℕ) → i ≤ j → j < i + k → f j ≡ true → ⊥
unfolding seek
seek_miss f i zero l j a b t = omega arith
seek_miss f i (suc k) l j a b t = go (λ m c. seek_miss f (i + 1) k m j c) (f i) refl l
  where
    go : (i + 1 + k ≤ seek f (i + 1) k → i + 1 ≤ j → j < i + 1 + k → f j ≡ true → ⊥) → (c : Bool) → f i ≡ c → i + suc k ≤ (if c then i else seek f (i + 1) k) → ⊥
    go ih true e m = omega arith
    go ih false e m = at_i (eqb i j) refl
      where
        at_i : (c : Bool) → eqb i j ≡ c → ⊥
        at_i true q = let z : true ≡ false = sym t ∙ ap f (sym (eqb-true i j q)) ∙ e in let o : ◌≡◌ {A = ℕ} 0 1 = cc in omega arith
        at_i false q = ih (omega arith) (omega (arith, eqb-false i j q)) (omega arith) t

-- state i is of kind k with the words x and y
pub record Is2 (st : List ℕ) (k x y i : ℕ) : Type 0 where
  pub kind : kind_of st i ≡ k
  pub first : op1 st i ≡ x
  pub second : op2 st i ≡ y

pub same2_is : (st : List ℕ) (k x y i : ℕ) → same2 st k x y i ≡ true → Is2 st k x y i
unfolding same2
same2_is st k x y i e =
    let (p, q) = and_true (eqb (kind_of st i) k) (eqb (op1 st i) x && eqb (op2 st i) y) e in
    let (r, s) = and_true (eqb (op1 st i) x) (eqb (op2 st i) y) q in
    record { kind = eqb-true (kind_of st i) k p; first = eqb-true (op1 st i) x r; second = eqb-true (op2 st i) y s }

pub is_same2 : (st : List ℕ) (k x y i : ℕ) → Is2 st k x y i → same2 st k x y i ≡ true
unfolding same2
is_same2 st k x y i e =
    ap₂ ◌&&◌ (eq-eqb (kind_of st i) k e.kind) (ap₂ ◌&&◌ (eq-eqb (op1 st i) x e.first) (eq-eqb (op2 st i) y e.second))

-- state i is of kind k with the list xs
pub record IsL (st m : List ℕ) (k : ℕ) (xs : List ℕ) (i : ℕ) : Type 0 where
  pub kind : kind_of st i ≡ k
  pub list : words m (op1 st i) (op2 st i) ≡ xs

same_at_lem : (m : List ℕ) (a : ℕ) (xs : List ℕ) → same_at m a xs ≡ true → words m a (length xs) ≡ xs
unfolding same_at words
same_at_lem m a [] e = refl
same_at_lem m a (x ∷ xs) e = go (λ q. same_at_lem m (a + 1) xs q) (eqb (get_or m a 0) x) refl e
  where
    go : (same_at m (a + 1) xs ≡ true → words m (a + 1) (length xs) ≡ xs) → (c : Bool) → eqb (get_or m a 0) x ≡ c → (if c then same_at m (a + 1) xs else false) ≡ true → get_or m a 0 ∷ words m (a + 1) (length xs) ≡ x ∷ xs
    go ih true q e = ap₂ (λ (y : ℕ) (l : List ℕ). y ∷ l) (eqb-true (get_or m a 0) x q) (ih e)
    go ih false q e = let z : ◌≡◌ {A = ℕ} 0 1 = cc in absurd (omega arith)

at_same : (m : List ℕ) (a k : ℕ) → same_at m a (words m a k) ≡ true
unfolding same_at words
at_same m a zero = refl
at_same m a (suc k) = ap (λ (c : Bool). if c then same_at m (a + 1) (words m (a + 1) k) else false) (eq-eqb (get_or m a 0) (get_or m a 0) refl) ∙ at_same m (a + 1) k

pub same_l_is : (st m : List ℕ) (k : ℕ) (xs : List ℕ) (i : ℕ) → same_l st m k xs i ≡ true → IsL st m k xs i
unfolding same_l
same_l_is st m k xs i e = go (eqb (kind_of st i) k) refl (eqb (op2 st i) (length xs)) refl e
  where
    go : (c : Bool) → eqb (kind_of st i) k ≡ c → (d : Bool) → eqb (op2 st i) (length xs) ≡ d → (if c then (if d then same_at m (op1 st i) xs else false) else false) ≡ true → IsL st m k xs i
    go true p true q e = record { kind = eqb-true (kind_of st i) k p; list = ap (words m (op1 st i)) (eqb-true (op2 st i) (length xs) q) ∙ same_at_lem m (op1 st i) xs e }
    go true p false q e = let z : ◌≡◌ {A = ℕ} 0 1 = cc in absurd (omega arith)
    go false p d q e = let z : ◌≡◌ {A = ℕ} 0 1 = cc in absurd (omega arith)

pub is_same_l : (st m : List ℕ) (k : ℕ) (xs : List ℕ) (i : ℕ) → IsL st m k xs i → same_l st m k xs i ≡ true
unfolding same_l
is_same_l st m k xs i e = subst (λ (l : List ℕ). same_l st m k l i ≡ true) e.list at_list
  where
    at_list : same_l st m k (words m (op1 st i) (op2 st i)) i ≡ true
    at_list =
        ap₂ (λ (c d : Bool). if c then (if d then same_at m (op1 st i) (words m (op1 st i) (op2 st i)) else false) else false)
        (eq-eqb (kind_of st i) k e.kind) (eq-eqb (op2 st i) _ (sym (words_length m (op1 st i) (op2 st i))))
        ∙ at_same m (op1 st i) (op2 st i)

-- ---- room

pub room_state : (s : Table) → room_s s ≡ true → (12 * s.count + 11 < length s.words) × (s.count < state_cap)
unfolding room_s
room_state s e =
    let (p, q) = and_true (ltb s.count (length s.words / 12)) (ltb s.count state_cap) e in
    let l : s.count < length s.words / 12 = ltb-true s.count (length s.words / 12) p in
    (omega arith, ltb-true s.count state_cap q)

pub room_members : (m : Table) (k : ℕ) → room_m m k ≡ true → (m.count + k ≤ length m.words) × (m.count + k ≤ member_cap)
unfolding room_m
room_members m k e =
    let (p, q) = and_true (leb (m.count + k) (length m.words)) (leb (m.count + k) member_cap) e in
    (leb-true (m.count + k) (length m.words) p, leb-true (m.count + k) member_cap q)

-- ---- a new state's words

module _ (st : List ℕ) (n k x y e : ℕ) where
  abbrev s1 : List ℕ
  s1 = set st (12 * n) k

  abbrev s2 : List ℕ
  s2 = set s1 (12 * n + 1) x

  abbrev s3 : List ℕ
  s3 = set s2 (12 * n + 2) y

  pub put4_length : length (put4 st n k x y e) ≡ length st
  unfolding put4
  put4_length = simp length-set

  -- only the words 0 to 3 of state n change
  pub put4_other : (p : ℕ) → p ≢ 12 * n → p ≢ 12 * n + 1 → p ≢ 12 * n + 2 → p ≢ 12 * n + 3 → get_or (put4 st n k x y e) p 0 ≡ get_or st p 0
  unfolding put4
  put4_other p a b c d =
      get_or-set_other s3 (12 * n + 3) p e 0 d ∙ get_or-set_other s2 (12 * n + 2) p y 0 c
      ∙ get_or-set_other s1 (12 * n + 1) p x 0 b ∙ get_or-set_other st (12 * n) p k 0 a

  module _ (room : 12 * n + 11 < length st) where
    pub put4_kind : kind_of (put4 st n k x y e) n ≡ k
    unfolding put4 kind_of
    put4_kind =
        get_or-set_other s3 (12 * n + 3) (12 * n) e 0 (λ q. omega arith) ∙ get_or-set_other s2 (12 * n + 2) (12 * n) y 0 (λ q. omega arith)
        ∙ get_or-set_other s1 (12 * n + 1) (12 * n) x 0 (λ q. omega arith) ∙ get_or-set_same st (12 * n) k 0 (omega arith)

    pub put4_op1 : op1 (put4 st n k x y e) n ≡ x
    unfolding put4 op1
    put4_op1 =
        get_or-set_other s3 (12 * n + 3) (12 * n + 1) e 0 (λ q. omega arith) ∙ get_or-set_other s2 (12 * n + 2) (12 * n + 1) y 0 (λ q. omega arith)
        ∙ get_or-set_same s1 (12 * n + 1) x 0 (simp length-set (omega arith))

    pub put4_op2 : op2 (put4 st n k x y e) n ≡ y
    unfolding put4 op2
    put4_op2 =
        get_or-set_other s3 (12 * n + 3) (12 * n + 2) e 0 (λ q. omega arith)
        ∙ get_or-set_same s2 (12 * n + 2) y 0 (simp length-set (omega arith))

    pub put4_nest : nest (put4 st n k x y e) n ≡ e
    unfolding put4 nest
    put4_nest = get_or-set_same s3 (12 * n + 3) e 0 (simp length-set (omega arith))
