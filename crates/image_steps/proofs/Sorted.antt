-- For 02 (ii), "each record again by its constructor", of Union and Intersect: a list that ascends is decided by its members, so `sorted` gives it back however its members stood.
use mathlib.Core.Path.{◌≡◌, refl, sym, ap₂, subst}
use mathlib.Core.List.{List, [], ◌∷◌, ◌++◌}
use mathlib.Core.Logic.{◌⊎◌, inl, inr, ⊎_elim}
use Prim.Native.Nat.{ℕ, ◌+◌, ◌≤◌}
use native.Mathlib.Omega.{arith}
use Rattle.aut_steps.specs.Lists.{sorted}
use Rattle.aut_steps.specs.Ascending.{Increasing}
use Rattle.aut_steps.proofs.ListLaws.{Member, some_left, some_right, some_split, some_sorted, sorted_rising}

-- a member is lo or more
rising_from : (lo : ℕ) (xs : List ℕ) → Increasing lo xs → (y : ℕ) → Member xs y → lo ≤ y
rising_from lo [] r y m = absurd m
rising_from lo (x ∷ xs) r y (inl e) = omega (arith, r.0)
rising_from lo (x ∷ xs) r y (inr m) = omega (arith, r.0, rising_from (x + 1) xs r.1 y m)

-- the lists have the same members
pub record Alike (xs ys : List ℕ) : Type 0 where
  pub to : (z : ℕ) → Member xs z → Member ys z
  pub from : (z : ℕ) → Member ys z → Member xs z

-- behind equal heads
tail_member : (lo x y : ℕ) (xs ys : List ℕ) → x ≡ y → Increasing (x + 1) xs → (z : ℕ) → Member xs z → (y ≡ z) ⊎ Member ys z → Member ys z
tail_member lo x y xs ys e r z m (inl q) = absurd (omega (arith, rising_from (x + 1) xs r z m))
tail_member lo x y xs ys e r z m (inr q) = q

pub rising_one : (lo : ℕ) (xs ys : List ℕ) → Increasing lo xs → Increasing lo ys → Alike xs ys → xs ≡ ys
rising_one lo [] [] r s a = refl
rising_one lo [] (y ∷ ys) r s a = absurd (a.from y (inl refl))
rising_one lo (x ∷ xs) [] r s a = absurd (a.to x (inl refl))
rising_one lo (x ∷ xs) (y ∷ ys) r s a =
    ap₂ (λ (z : ℕ) (l : List ℕ). z ∷ l) heads
    (rising_one (x + 1) xs ys r.1 (subst (λ (z : ℕ). Increasing (z + 1) ys) (sym heads) s.1) (record {
      to = λ z m. tail_member lo x y xs ys heads r.1 z m (a.to z (inr m));
      from = λ z m. tail_member lo y x ys xs (sym heads) s.1 z m (a.from z (inr m));
    }))
  where
    heads : x ≡ y
    heads =
        let p : y ≤ x = rising_from y (y ∷ ys) (omega arith, s.1) x (a.to x (inl refl)) in
        let q : x ≤ y = rising_from x (x ∷ xs) (omega arith, r.1) y (a.from y (inl refl)) in
        omega arith

pub sorted_one : (ys xs : List ℕ) → Increasing 0 xs → Alike ys xs → sorted ys ≡ xs
sorted_one ys xs r a = rising_one 0 (sorted ys) xs (sorted_rising ys) r (record {
  to = λ z m. a.to z ((some_sorted (λ y. y ≡ z) ys).1 m);
  from = λ z m. (some_sorted (λ y. y ≡ z) ys).0 (a.from z m);
})

pub sorted_same : (xs : List ℕ) → Increasing 0 xs → sorted xs ≡ xs
sorted_same xs r = sorted_one xs xs r (record { to = λ z m. m; from = λ z m. m })

-- one of the middle goes last
pub put_last : (ls : List ℕ) (s : ℕ) (rs : List ℕ) → Alike ((ls ++ rs) ++ s ∷ []) (ls ++ s ∷ rs)
put_last ls s rs = record { to = to; from = from }
  where
    at_end : (z : ℕ) → (s ≡ z) ⊎ ⊥ → Member (ls ++ s ∷ rs) z
    at_end z (inl e) = some_right (λ y. y ≡ z) ls (s ∷ rs) (inl e)
    at_end z (inr b) = absurd b

    before : (z : ℕ) → Member ls z ⊎ Member rs z → Member (ls ++ s ∷ rs) z
    before z (inl m) = some_left (λ y. y ≡ z) ls (s ∷ rs) m
    before z (inr m) = some_right (λ y. y ≡ z) ls (s ∷ rs) (inr m)

    to : (z : ℕ) → Member ((ls ++ rs) ++ s ∷ []) z → Member (ls ++ s ∷ rs) z
    to z m = ⊎_elim (λ n. before z (some_split (λ y. y ≡ z) ls rs n)) (at_end z) (some_split (λ y. y ≡ z) (ls ++ rs) (s ∷ []) m)

    behind : (z : ℕ) → (s ≡ z) ⊎ Member rs z → Member ((ls ++ rs) ++ s ∷ []) z
    behind z (inl e) = some_right (λ y. y ≡ z) (ls ++ rs) (s ∷ []) (inl e)
    behind z (inr m) = some_left (λ y. y ≡ z) (ls ++ rs) (s ∷ []) (some_right (λ y. y ≡ z) ls rs m)

    from : (z : ℕ) → Member (ls ++ s ∷ rs) z → Member ((ls ++ rs) ++ s ∷ []) z
    from z m = ⊎_elim (λ n. some_left (λ y. y ≡ z) (ls ++ rs) (s ∷ []) (some_left (λ y. y ≡ z) ls rs n)) (behind z) (some_split (λ y. y ≡ z) ls (s ∷ rs) m)
