-- The products of a list with Union members: how many there are, and that a string is in every member exactly if it is in every member of some product.
use Rattle.std.specs.Prelude.{if◌then◌else◌}
use mathlib.Core.Path.{◌≡◌, refl, sym, ◌∙◌, ap, ap₂, subst}
use mathlib.Core.Bool.{Bool, true, false}
use mathlib.Core.List.{List, [], ◌∷◌}
use mathlib.Core.Logic.{◌↔◌}
use Prim.Native.Nat.{ℕ, zero, suc, ◌+◌, ◌*◌, ◌/◌, ◌%◌, ◌≤◌, ◌<◌}
use native.Mathlib.Omega.{arith}
use native.Mathlib.Nat.{mul-le-mul, mul_assoc, mul_comm, mul-one, one-mul, zero-mul, mod-lt, mod-eq_of_lt, div-eq_of_lt, div-lt_iff_lt-mul, add-mul-div_left, add-mul-mod_self_left, mul-le-mul_left, mul-suc}
use lib.Dec.{eqb, leb}
use lib.ListN.{get_or}
use borrow.Author.Tests.{eqb-true, leb-false}
use Rattle.netkat.specs.Strings.{Str}
use Rattle.aut_steps.specs.Tables.{UNION, kind_of, op2, words, Limits, Aut}
use Rattle.aut_steps.specs.Constructors.{size, sizes, within, beyond, then_within, count_one, count_all, product}
use Rattle.aut_steps.specs.Kinds.{form}
use Rattle.aut_steps.specs.Ascending.{All}
use Rattle.aut_steps.proofs.ListLaws.{Some, all_at}
use Rattle.aut_steps.proofs.Facts.{words_length, some_word, word_of}
use Rattle.aut_steps.specs.Wf.{states, kind, first, second, members, ExtAut, WfAut}
use Rattle.aut_steps.proofs.Wf.{kind_grown, first_grown, second_grown, ok_as}
use Rattle.aut_steps.specs.Meaning.{Holds}
use Rattle.aut_steps.proofs.Meaning.{HoldsAll, holds_union}

-- what is counted is the number of products
pub counted : (most : ℕ) (st xs : List ℕ) (n m : ℕ) → count_all most st xs n ≡ within m → m ≡ n * sizes st xs
unfolding count_all count_one
counted most st [] n m e = let q : n ≡ m = cc in sym q ∙ sym (mul-one n)
counted most st (x ∷ xs) n m e = go (λ k q. counted most st xs k m q) (eqb (kind_of st x) UNION) refl (leb (n * op2 st x) most) e
  where
    at : (c : Bool) → eqb (kind_of st x) UNION ≡ c → size st x ≡ (if c then op2 st x else 1)
    at c q = ap (λ (b : Bool). if b then op2 st x else 1) q

    go : ((k : ℕ) → count_all most st xs k ≡ within m → m ≡ k * sizes st xs) → (c : Bool) → eqb (kind_of st x) UNION ≡ c → (d : Bool)
        → then_within (if c then (if d then within (n * op2 st x) else beyond) else within n) (count_all most st xs) ≡ within m → m ≡ n * (size st x * sizes st xs)
    go ih true q true e = ih (n * op2 st x) e ∙ ap (λ (s : ℕ). n * s * sizes st xs) (sym (at true q)) ∙ mul_assoc n (size st x) (sizes st xs)
    go ih true q false e = let z : ◌≡◌ {A = ℕ} 0 1 = cc in absurd (omega arith)
    go ih false q d e = ih n e ∙ ap (λ (s : ℕ). n * s) (sym (one-mul (sizes st xs)) ∙ ap (λ (s : ℕ). s * sizes st xs) (sym (at false q)))

-- ---- places in mixed radix

pos : (c s i : ℕ) → i < c * s → 0 < c
pos zero s i l = absurd (omega (arith, zero-mul s))
pos (suc c) s i l = omega arith

digit : (c s i : ℕ) → i < c * s → i % c < c
digit c s i l = mod-lt i (pos c s i l)

rest : (c s i : ℕ) → i < c * s → i / c < s
rest c s i l = (div-lt_iff_lt-mul {k = c} {x = i} {y = s} (pos c s i l)).1 (omega (arith, mul_comm s c))

place : (c s j i : ℕ) → j < c → i < s → j + c * i < c * s
place c s j i l m = omega (arith, mul-le-mul_left c m, mul-suc c i)

place_digit : (c j i : ℕ) → j < c → (j + c * i) % c ≡ j
place_digit c j i l = add-mul-mod_self_left j c i ∙ mod-eq_of_lt l

place_rest : (c j i : ℕ) → j < c → (j + c * i) / c ≡ i
place_rest c j i l = add-mul-div_left j i {y = c} (omega arith) ∙ ap (λ (k : ℕ). k + i) (div-eq_of_lt l) ∙ omega arith

-- ---- products of states

module _ {N : ℕ} {L : Limits} {σ : Aut} (g : WfAut N L σ) where
  abbrev st : List ℕ
  st = σ.states.words

  abbrev mem : List ℕ
  mem = σ.members.words

  earlier : (x : ℕ) → x < states σ → kind σ x ≡ UNION → All (λ y. y < x) (members σ x)
  unfolding form
  earlier x l e = (ok_as g UNION l e).earlier

  -- a Union has two members or more
  pub union_size : {x : ℕ} → x < states σ → kind σ x ≡ UNION → 2 ≤ second σ x
  union_size {x} l e = omega (arith, (g.unions x l e).some, words_length mem (first σ x) (second σ x))

  sizes_some : (xs : List ℕ) → All (λ x. x < states σ) xs → 1 ≤ sizes st xs
  sizes_some [] a = omega arith
  sizes_some (x ∷ xs) a = go (sizes_some xs a.1) (eqb (kind σ x) UNION) refl
    where
      go : 1 ≤ sizes st xs → (b : Bool) → eqb (kind σ x) UNION ≡ b → 1 ≤ size st x * sizes st xs
      go ih true q = mul-le-mul (subst (λ (b : Bool). 1 ≤ (if b then second σ x else 1)) (sym q) (omega (arith, union_size a.0 (eqb-true (kind σ x) UNION q)))) ih
      go ih false q = mul-le-mul (subst (λ (b : Bool). 1 ≤ (if b then second σ x else 1)) (sym q) (omega arith)) ih

  -- the count passes the limit only if the number of products does
  pub passed : (most : ℕ) (xs : List ℕ) → All (λ x. x < states σ) xs → (n : ℕ) → count_all most st xs n ≡ beyond → most < n * sizes st xs
  unfolding count_all count_one
  passed most [] a n e = let z : ◌≡◌ {A = ℕ} 0 1 = cc in absurd (omega arith)
  passed most (x ∷ xs) a n e = go (λ k q. passed most xs a.1 k q) (eqb (kind σ x) UNION) refl (leb (n * second σ x) most) refl e
    where
      at : (c : Bool) → eqb (kind σ x) UNION ≡ c → size st x ≡ (if c then second σ x else 1)
      at c q = ap (λ (b : Bool). if b then second σ x else 1) q

      go : ((k : ℕ) → count_all most st xs k ≡ beyond → most < k * sizes st xs) → (c : Bool) → eqb (kind σ x) UNION ≡ c → (d : Bool) → leb (n * second σ x) most ≡ d
          → then_within (if c then (if d then within (n * second σ x) else beyond) else within n) (count_all most st xs) ≡ beyond → most < n * (size st x * sizes st xs)
      go ih true p true q e = omega (arith, ih (n * second σ x) e, ap (λ (z : ℕ). n * z * sizes st xs) (at true p), mul_assoc n (size st x) (sizes st xs))
      go ih true p false q e =
          omega (arith, leb-false (n * second σ x) most q, mul-le-mul_left (n * second σ x) (sizes_some xs a.1), mul-one (n * second σ x), ap (λ (z : ℕ). n * z * sizes st xs) (at true p), mul_assoc n (size st x) (sizes st xs))
      go ih false p d q e = omega (arith, ih n e, ap (λ (z : ℕ). n * (z * sizes st xs)) (at false p), ap (λ (z : ℕ). n * z) (one-mul (sizes st xs)))

  -- a product's members are states
  pub product_states : (xs : List ℕ) → All (λ x. x < states σ) xs → (i : ℕ) → i < sizes st xs → All (λ x. x < states σ) (product st mem xs i)
  unfolding product
  product_states [] a i l = tt
  product_states (x ∷ xs) a i l = go (λ j m. product_states xs a.1 j m) (eqb (kind σ x) UNION) refl
    where
      member : (j : ℕ) → j < second σ x → kind σ x ≡ UNION → get_or mem (first σ x + j) 0 < states σ
      member j m e = omega (arith, at_place (words mem (first σ x) (second σ x)) (first σ x) (second σ x) j m refl (earlier x a.0 e))
        where
          at_place : (l : List ℕ) (b k j : ℕ) → j < k → l ≡ words mem b k → All (λ y. y < x) l → get_or mem (b + j) 0 < x
          at_place l b k j m q h = all_at (λ y. y < x) l h (subst (λ (r : List ℕ). Some (λ y. y ≡ get_or mem (b + j) 0) r) (sym q) (some_word (λ y. y ≡ get_or mem (b + j) 0) mem b k j m refl))

      go : ((j : ℕ) → j < sizes st xs → All (λ x. x < states σ) (product st mem xs j)) → (c : Bool) → eqb (kind σ x) UNION ≡ c
          → All (λ x. x < states σ) (if c then get_or mem (first σ x + i % second σ x) 0 ∷ product st mem xs (i / second σ x) else x ∷ product st mem xs i)
      go ih true q =
          let m : i < second σ x * sizes st xs = subst (λ (b : Bool). i < (if b then second σ x else 1) * sizes st xs) q l in
          (member (i % second σ x) (digit (second σ x) (sizes st xs) i m) (eqb-true (kind σ x) UNION q), ih (i / second σ x) (rest (second σ x) (sizes st xs) i m))
      go ih false q = (a.0, ih i (omega (arith, subst (λ (b : Bool). i < (if b then second σ x else 1) * sizes st xs) q l, one-mul (sizes st xs))))

  -- in every member exactly if in every member of some product
  pub in_product : (xs : List ℕ) → All (λ x. x < states σ) xs → (u : Str N) → HoldsAll N σ xs u ↔ ((i : ℕ) × (i < sizes st xs) × HoldsAll N σ (product st mem xs i) u)
  unfolding product
  in_product [] a u = (λ h. (0, omega arith, tt), λ h. tt)
  in_product (x ∷ xs) a u = go (in_product xs a.1 u) (eqb (kind σ x) UNION) refl
    where
      s : ℕ
      s = sizes st xs

      c : ℕ
      c = second σ x

      go : HoldsAll N σ xs u ↔ ((i : ℕ) × (i < s) × HoldsAll N σ (product st mem xs i) u) → (b : Bool) → eqb (kind σ x) UNION ≡ b
          → HoldsAll N σ (x ∷ xs) u ↔ ((i : ℕ) × (i < size st x * s) × HoldsAll N σ (if eqb (kind σ x) UNION then get_or mem (first σ x + i % c) 0 ∷ product st mem xs (i / c) else x ∷ product st mem xs i) u)
      go ih b q = subst (λ (t : Bool). HoldsAll N σ (x ∷ xs) u ↔ ((i : ℕ) × (i < (if t then c else 1) * s) × HoldsAll N σ (if t then get_or mem (first σ x + i % c) 0 ∷ product st mem xs (i / c) else x ∷ product st mem xs i) u)) (sym q) (at b q)
        where
          at : (b : Bool) → eqb (kind σ x) UNION ≡ b → HoldsAll N σ (x ∷ xs) u ↔ ((i : ℕ) × (i < (if b then c else 1) * s) × HoldsAll N σ (if b then get_or mem (first σ x + i % c) 0 ∷ product st mem xs (i / c) else x ∷ product st mem xs i) u)
          at true q = (there, back)
            where
              e : kind σ x ≡ UNION
              e = eqb-true (kind σ x) UNION q

              there : HoldsAll N σ (x ∷ xs) u → (i : ℕ) × (i < c * s) × HoldsAll N σ (get_or mem (first σ x + i % c) 0 ∷ product st mem xs (i / c)) u
              there (h, hs) =
                  let (j, l, p) = word_of (λ y. Holds N σ y u) mem (first σ x) c ((holds_union g a.0 e u).0 h) in
                  let (i, m, ps) = ih.0 hs in (
                    j + c * i,
                    place c s j i l m,
                    (
                      subst (λ (k : ℕ). Holds N σ (get_or mem (first σ x + k) 0) u) (sym (place_digit c j i l)) p,
                      subst (λ (k : ℕ). HoldsAll N σ (product st mem xs k) u) (sym (place_rest c j i l)) ps,
                    ),
                  )

              back : ((i : ℕ) × (i < c * s) × HoldsAll N σ (get_or mem (first σ x + i % c) 0 ∷ product st mem xs (i / c)) u) → HoldsAll N σ (x ∷ xs) u
              back (i, l, (p, ps)) =
                  ((holds_union g a.0 e u).1 (some_word (λ y. Holds N σ y u) mem (first σ x) c (i % c) (digit c s i l) p), ih.1 (i / c, rest c s i l, ps))
          at false q = (
            λ (h, hs). let (i, m, ps) = ih.0 hs in (i, omega (arith, one-mul s), (h, ps)),
            λ (i, l, (h, ps)). (h, ih.1 (i, omega (arith, one-mul s), ps)),
          )

  -- a later table has the same products
  pub sizes_grown : {τ : Aut} → ExtAut σ τ → (xs : List ℕ) → All (λ x. x < states σ) xs → sizes τ.states.words xs ≡ sizes st xs
  sizes_grown w [] a = refl
  sizes_grown w (x ∷ xs) a =
      ap₂ (λ (p q : ℕ). p * q) (ap₂ (λ (k c : ℕ). if eqb k UNION then c else 1) (kind_grown w x a.0) (second_grown w x a.0)) (sizes_grown w xs a.1)

  pub product_grown : {τ : Aut} → ExtAut σ τ → (xs : List ℕ) → All (λ x. x < states σ) xs → (i : ℕ) → i < sizes st xs
      → product τ.states.words τ.members.words xs i ≡ product st mem xs i
  unfolding product form
  product_grown w [] a i l = refl
  product_grown {τ} w (x ∷ xs) a i l =
      ap (λ (k : ℕ). if eqb k UNION then get_or τ.members.words (first τ x + i % second τ x) 0 ∷ product τ.states.words τ.members.words xs (i / second τ x) else x ∷ product τ.states.words τ.members.words xs i) (kind_grown w x a.0)
      ∙ go (λ j m. product_grown w xs a.1 j m) (eqb (kind σ x) UNION) refl
    where
      inside : kind σ x ≡ UNION → first σ x + second σ x ≤ σ.members.count
      inside e = (ok_as g UNION a.0 e).inside

      go : ((j : ℕ) → j < sizes st xs → product τ.states.words τ.members.words xs j ≡ product st mem xs j) → (b : Bool) → eqb (kind σ x) UNION ≡ b
          → (if b then get_or τ.members.words (first τ x + i % second τ x) 0 ∷ product τ.states.words τ.members.words xs (i / second τ x) else x ∷ product τ.states.words τ.members.words xs i)
          ≡ (if b then get_or mem (first σ x + i % second σ x) 0 ∷ product st mem xs (i / second σ x) else x ∷ product st mem xs i)
      go ih true q =
          let m : i < second σ x * sizes st xs = subst (λ (b : Bool). i < (if b then second σ x else 1) * sizes st xs) q l in
          ap₂ (λ (p c : ℕ). get_or τ.members.words (p + i % c) 0 ∷ product τ.states.words τ.members.words xs (i / c)) (first_grown w x a.0) (second_grown w x a.0)
          ∙ ap₂ (λ (y : ℕ) (ys : List ℕ). y ∷ ys)
          (w.members.keep (first σ x + i % second σ x) (omega (arith, digit (second σ x) (sizes st xs) i m, inside (eqb-true (kind σ x) UNION q))))
          (ih (i / second σ x) (rest (second σ x) (sizes st xs) i m))
      go ih false q = ap (λ (ys : List ℕ). x ∷ ys) (ih i (omega (arith, subst (λ (b : Bool). i < (if b then second σ x else 1) * sizes st xs) q l, one-mul (sizes st xs))))
