-- Where targets are numbers, compared by number, every list that aut.rs's operations make has ascending targets.
use Rattle.std.specs.Prelude.{if◌then◌else◌}
use mathlib.Core.Path.{◌≡◌, refl, sym, subst}
use mathlib.Core.Logic.{◌⊎◌, inl, inr}
use mathlib.Core.Bool.{Bool, true, false}
use mathlib.Core.List.Memᴰ
use mathlib.Core.List.{List, [], ◌∷◌, Memᴰ}
use lib.Dec.{eqb, ltb}
use borrow.Author.Tests.{eqb-true, eqb-false, ltb-true, ltb-false}
use Prim.Native.Nat.{ℕ, ◌<◌}
use native.Mathlib.Omega.{arith}
use Rattle.common.specs.Packets.{Relation}
use Rattle.common.specs.Relations.{noneʳ, ◌∪ʳ◌, ◌∩ʳ◌, ◌∖ʳ◌}
use Rattle.netkat.specs.Lists.{State, Transition, to, Above, Ascending, Targets, void, place_in, place, st_singleton, split, insert, insert_each, insert_pairs}

-- Two targets are one if their numbers are, and stand by their numbers.
pub record ByNumber (𝓣 : Targets State) : Type 0 where
  pub same_is : (s t : State) → 𝓣.same s t ≡ eqb s t
  pub before_is : (s t : State) → 𝓣.before s t ≡ ltb s t

module _ {n : ℕ} (𝓣 : Targets State) (by : ByNumber 𝓣) where
  module _ (t : Transition State n) where
    -- what the two tests say of t and a member u
    data Stands (u : Transition State n) : Bool → Bool → Type 0 where
      same_place : {c : Bool} → t.target ≡ u.target → Stands u true c
      before : t.target < u.target → Stands u false true
      behind : u.target < t.target → Stands u false false

    stands : (u : Transition State n) → Stands u (𝓣.same t.target u.target) (𝓣.before t.target u.target)
    stands u = go (𝓣.same t.target u.target) (𝓣.before t.target u.target) (sym (by.same_is t.target u.target)) (sym (by.before_is t.target u.target))
      where
        go : (b c : Bool) → eqb t.target u.target ≡ b → ltb t.target u.target ≡ c → Stands u b c
        go true c e f = same_place (eqb-true t.target u.target e)
        go false true e f = before (ltb-true t.target u.target f)
        go false false e f = behind (omega (arith, eqb-false t.target u.target e, ltb-false t.target u.target f))

    place_above : (s : State) (list : List (Transition State n)) → s < t.target → Above s list → Above s (place_in 𝓣 t list)
    unfolding place_in
    place_above s [] l a = λ v m. subst (λ v. s < v.target) (sym (Memᴰ.eq_of_singleton m)) l
    place_above s (u ∷ us) l a = go (𝓣.same t.target u.target) (𝓣.before t.target u.target) (place_above s us l (λ v m. a v (Memᴰ.tail m)))
      where
        here : s < u.target
        here = a u (Memᴰ.head refl)

        cons : (x : Transition State n) (xs : List (Transition State n)) → s < x.target → Above s xs → Above s (x ∷ xs)
        cons x xs l a v m = by_case (Memᴰ.cases_cons m)
          where
            by_case : (v ≡ x) ⊎ Memᴰ v xs → s < v.target
            by_case (inl e) = subst (λ v. s < v.target) (sym e) l
            by_case (inr k) = a v k

        go : (b c : Bool) → Above s (place_in 𝓣 t us) → Above s (if b then (to u.target (u.label ∪ʳ t.label) ∷ us) else if c then (t ∷ u ∷ us) else (u ∷ place_in 𝓣 t us))
        go true c rec = cons (to u.target (u.label ∪ʳ t.label)) us here (λ v m. a v (Memᴰ.tail m))
        go false true rec = cons t (u ∷ us) l a
        go false false rec = cons u (place_in 𝓣 t us) here rec

    place_in_ascends : {list : List (Transition State n)} → Ascending list → Ascending (place_in 𝓣 t list)
    unfolding place_in
    place_in_ascends Ascending.none = Ascending.also (λ v m. absurd (Memᴰ.not-nil m)) Ascending.none
    place_in_ascends (Ascending.also {t = u} {ts = us} p d) = go (𝓣.same t.target u.target) (𝓣.before t.target u.target) (stands u) (place_in_ascends d)
      where
        go : (b c : Bool) → Stands u b c → Ascending (place_in 𝓣 t us) → Ascending (if b then (to u.target (u.label ∪ʳ t.label) ∷ us) else if c then (t ∷ u ∷ us) else (u ∷ place_in 𝓣 t us))
        go true c s rec = Ascending.also p d
        go false true (before l) rec = Ascending.also (λ v m. all_above l v (Memᴰ.cases_cons m)) (Ascending.also p d)
          where
            all_above : t.target < u.target → (v : Transition State n) → (v ≡ u) ⊎ Memᴰ v us → t.target < v.target
            all_above l v (inl e) = subst (λ v. t.target < v.target) (sym e) l
            all_above l v (inr k) = omega (arith, p v k)
        go false false (behind l) rec = Ascending.also (place_above u.target us l p) rec

    pub place_ascends : {list : List (Transition State n)} → Ascending list → Ascending (place 𝓣 t list)
    unfolding place
    place_ascends {list} d = go (void 𝓣 t) (place_in_ascends d)
      where
        go : (b : Bool) → Ascending (place_in 𝓣 t list) → Ascending (if b then list else place_in 𝓣 t list)
        go true e = d
        go false e = e

  split_ascends : (t : Transition State n) (rest : List (Transition State n)) (total : Relation n) (result : List (Transition State n)) → Ascending result → Ascending (split 𝓣 t rest total result)
  unfolding split
  split_ascends t [] total result d = place_ascends (to t.target (t.label ∖ʳ total)) d
  split_ascends t (u ∷ us) total result d = split_ascends t us (total ∪ʳ (t.label ∩ʳ u.label)) _ (place_ascends _ (place_ascends _ d))

  -- st_insert gives an ascending list, whatever it was given
  pub insert_ascends : (t : Transition State n) (list : List (Transition State n)) → Ascending (insert 𝓣 t list)
  unfolding insert
  insert_ascends t list = split_ascends t list noneʳ [] Ascending.none

  pub each_ascends : (f : Transition State n → Transition State n) (ts list : List (Transition State n)) → Ascending list → Ascending (insert_each 𝓣 f ts list)
  unfolding insert_each
  each_ascends f [] list d = d
  each_ascends f (t ∷ ts) list d = each_ascends f ts (insert 𝓣 (f t) list) (insert_ascends (f t) list)

  pub pairs_ascend : (f : Transition State n → Transition State n → Transition State n) (ts us list : List (Transition State n)) → Ascending list → Ascending (insert_pairs 𝓣 f ts us list)
  unfolding insert_pairs
  pairs_ascend f [] us list d = d
  pairs_ascend f (t ∷ ts) us list d = pairs_ascend f ts us (insert_each 𝓣 (f t) us list) (each_ascends (f t) us list d)

  pub st_singleton_ascends : (r : Relation n) (s : State) → Ascending (st_singleton 𝓣 r s)
  unfolding st_singleton
  st_singleton_ascends r s = go (void 𝓣 (to s r))
    where
      go : (b : Bool) → Ascending (if b then [] else (to s r ∷ []))
      go true = Ascending.none
      go false = Ascending.also (λ v m. absurd (Memᴰ.not-nil m)) Ascending.none
