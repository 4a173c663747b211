-- Searches and lists: where a search begins and what it finds, the highest of a list, what a closure may be asked.
use mathlib.Core.Path.{◌≡◌, refl, sym, ◌∙◌, ap, ap₂, subst}
use mathlib.Core.Bool.{Bool, true, false, true≢false, ◌&&◌}
use mathlib.Core.List.{List, [], ◌∷◌}
use mathlib.Core.Logic.{⊎_elim}
use Prim.Native.Nat.{ℕ, ◌+◌, ◌*◌, ◌<◌, ◌≤◌, max}
use native.Mathlib.Omega.{arith}
use lib.Dec.{eqb}
use lib.ListN.{length, get_or}
use lib.Pointwise.{pointwise}
use borrow.Author.Tests.{eq-eqb, ne_eqb}
use Rattle.std.specs.Prelude.{Option, Some, None, MatchOption, is_some}
use Rattle.std.proofs.Common.{Bor, Iter}
use Rattle.std.specs.Iterator.{Yields, CallableAtEachTurn}
use Rattle.std.specs.List.{fold, reduce}
use Rattle.std.specs.Option.{option_map, unwrap_or}
use Rattle.std.proofs.lemmas.Fn.{fronts, serves_by}
use Rattle.std.proofs.lemmas.Bool.{cases_lt}
use Rattle.slices.proofs.Records.{Test, Placed, Whole}
use Rattle.aut_steps.specs.Tables.{kind_of, op1, op2, nest, list_of, Exprs}
use Rattle.aut_steps.specs.Intern.{same2, same_l, nest_l}
use Rattle.aut_steps.specs.Ascending.{All}
use Rattle.aut_steps.proofs.Facts.{same2_is, same_l_is}
use Rattle.aut_steps.proofs.Scratch.{seek_here, seek_end, seek_skip}
use Rattle.aut_states.proofs.Slices.{same_words}
use Rattle.aut_states.specs.Clauses.{Found, Fits, From, Ready1, Ready2, ListAsked, above_l}

-- ---- a search that begins at from

module _ {f : ℕ → Bool} {from n : ℕ} (p : From f from n) where
  none_before : (i : ℕ) → ((k : ℕ) → from ≤ k → k < i → f k ≡ false) → (k : ℕ) → k < i → f k ≡ false
  none_before i h k l = ⊎_elim (λ b. p.none k b) (λ b. h k b l) (cases_lt k from)

  -- what it finds is the first of all
  pub first : (o : Option ℕ) → MatchOption o ((k : ℕ) → from ≤ k → k < n → f k ≡ false) (λ i. (from ≤ i) × (i < n) × (f i ≡ true) × ((k : ℕ) → from ≤ k → k < i → f k ≡ false)) → Found f n o
  first None h = seek_skip f n n (omega arith) (none_before n h) ∙ seek_end f n n (omega arith)
  first (Some i) h = (h.1, seek_skip f n i (omega (arith, h.1)) (none_before i h.3) ∙ seek_here f n i h.1 h.2)

-- ---- find

-- a state at a place has this kind and these operands
abbrev pub here : ℕ → ℕ → ℕ → List ℕ → ℕ → Bool
here k x y st a = eqb (get_or st a 0) k && (eqb (get_or st (a + 1) 0) x && eqb (get_or st (a + 2) 0) y)

pub here_moved : (k x y : ℕ) → Test 12 (here k x y)
here_moved k x y s t a b e =
    let w : get_or s a 0 ≡ get_or t b 0 = ap (λ (i : ℕ). get_or s i 0) {x = a} {y = a + 0} (omega arith) ∙ e 0 (omega arith) ∙ ap (λ (i : ℕ). get_or t i 0) {x = b + 0} {y = b} (omega arith) in
    ap₂ ◌&&◌ (ap (λ (v : ℕ). eqb v k) w) (ap₂ (λ (v w : ℕ). eqb v x && eqb w y) (e 1 (omega arith)) (e 2 (omega arith)))

here_same : (k x y : ℕ) (st : List ℕ) (i : ℕ) → same2 st k x y i ≡ here k x y st (12 * i)
unfolding same2 kind_of op1 op2
here_same k x y st i = refl

pub whole : {from count len : ℕ} → len + 12 * from ≡ 12 * count → Whole 12 from count len
whole e = record { as_many = omega arith; inside = λ i l. omega arith; ends = λ j l. omega arith; place = λ j. omega arith }

module _ (st : List ℕ) (k x y : ℕ) {from n : ℕ} (p : From (same2 st k x y) from n) where
  pub found : (o : Option ℕ) → Placed (here k x y) 12 st from n o → Found (same2 st k x y) n (option_map (λ i. from + i) o)
  found None h = first p None (λ j l m. here_same k x y st j ∙ h j l m)
  found (Some i) h = first p (Some (from + i)) (omega arith, h.0, here_same k x y st (from + i) ∙ h.1, λ j l m. here_same k x y st j ∙ h.2 j l m)

-- ---- is_at_list

module _ (st m xs : List ℕ) (k i : ℕ) where
  pub other_kind : (kind_of st i ≡ k → ⊥) → same_l st m k xs i ≡ false
  unfolding same_l
  other_kind p = simp (ne_eqb (kind_of st i) k p)

  pub of_kind : kind_of st i ≡ k → same_l st m k xs i ≡ pointwise eqb (list_of st m i) xs
  unfolding same_l
  of_kind p = simp (eq-eqb (kind_of st i) k p) (same_words m xs (op1 st i) (op2 st i))

-- ---- above_list, nest_list

above_fold : (h x : ℕ) (xs : List ℕ) → h ≡ x + 1 → fold max x xs + 1 ≡ above_l h xs
unfolding above_l
above_fold h x [] e = sym e
above_fold h x (y ∷ ys) e = above_fold (max h (y + 1)) (max x y) ys (omega (arith, e))

-- it is one above the greatest
pub above_greatest : (xs : List ℕ) (o : Option (Bor ℕ)) (r : ℕ) → option_map (λ y. y.now) o ≡ reduce max xs → MatchOption o (r ≡ 0) (λ y. r ≡ y.now + 1) → r ≡ above_l 0 xs
unfolding above_l
above_greatest [] None r e m = m
above_greatest [] (Some y) r e m = absurd (true≢false (ap is_some e))
above_greatest (x ∷ xs) None r e m = absurd (true≢false (sym (ap is_some e)))
above_greatest (x ∷ xs) (Some y) r e m = m ∙ ap (λ (o : Option ℕ). unwrap_or o 0 + 1) e ∙ above_fold (max 0 (x + 1)) x xs (omega arith)

pub nest_fold : (st : List ℕ) (h : ℕ) (xs : List ℕ) → fold (λ a x. max a (nest st x)) h xs ≡ nest_l st h xs
unfolding nest_l
nest_fold st h [] = refl
nest_fold st h (x ∷ xs) = nest_fold st (max h (nest st x)) xs

-- an item that an iterator of a slice gives is of the slice
turned : (P : ℕ → Type 0) (xs : List (Bor ℕ)) (s t : Iter ℕ) → All P s.rest.now → Yields fronts s xs t → All P t.rest.now
turned P [] s t a y = subst (λ (s : Iter ℕ). All P s.rest.now) y a
turned P (x ∷ xs) s t a y = turned P xs y.0 t (subst (All P) y.1 a).1 y.2

pub given_one : (P : ℕ → Type 0) (xs : List (Bor ℕ)) (s t u : Iter ℕ) (x : Bor ℕ) → All P s.rest.now → Yields fronts s xs t → fronts t (Some x) u → P x.now
given_one P xs s t u x a y e = (subst (All P) e (turned P xs s t a y)).0

-- what a closure may be asked at the items of a slice, from what holds of all of it
pub served : {F : Type 0} {R : F → Bor ℕ → F → Type 0} {Q : F → Bor ℕ → Type 0} {s : Iter ℕ} {p f : F} {ys : List ℕ} (P : ℕ → Type 0) → s.rest.now ≡ ys → p ≡ f → All P ys → ((x : Bor ℕ) (q : F) → R f x q → q ≡ f) → ((x : Bor ℕ) → P x.now → Q f x) → CallableAtEachTurn fronts R Q s p
served {F} {R} {Q} {s} {p} {f} P rest is all stays asks =
    serves_by R (λ xs q. q ≡ f) (λ xs q x w j r. stays x w (subst (λ (h : F). R h x w) j r)) fronts Q s p is
    (λ xs t q x u y e j. subst (λ (h : F). Q h x) (sym j) (asks x (given_one P xs s t u x (subst (All P) (sym rest) all) y e)))

-- ---- where a search begins

not_true : (b : Bool) → (b ≡ true → ⊥) → b ≡ false
not_true true f = absurd (f refl)
not_true false f = refl

pub from_start : {f : ℕ → Bool} {n : ℕ} → From f 0 n
from_start = record { within = omega arith; none = λ i l. absurd (omega arith) }

pub from_1 : {t : List ℕ} {n k x : ℕ} → Ready1 t n k x → From (same2 t k x 0) (x + 1) n
from_1 {t} {n} {k} {x} r = record {
  within = omega (arith, r.has_x);
  none = λ i l. not_true (same2 t k x 0 i) (λ q. let s = same2_is t k x 0 i q in omega (arith, s.first, r.earlier i (omega (arith, r.has_x)) s.kind));
}

pub from_2 : {t : List ℕ} {n k x y a : ℕ} → Ready2 t n k x y → a ≡ max x y → From (same2 t k x y) (a + 1) n
from_2 {t} {n} {k} {x} {y} r e = record {
  within = omega (arith, r.has_x, r.has_y);
  none = λ i l. not_true (same2 t k x y i) (λ q. let s = same2_is t k x y i q in
      let m = r.earlier i (omega (arith, r.has_x, r.has_y)) s.kind in
      omega (arith, s.first, s.second, m.0, m.1));
}

above_most : (n h : ℕ) (xs : List ℕ) → h ≤ n → All (λ x. x < n) xs → above_l h xs ≤ n
unfolding above_l
above_most n h [] l a = l
above_most n h (x ∷ xs) l a = above_most n (max h (x + 1)) xs (omega (arith, a.0)) a.1

-- below that: below h, or not above some of the list
above_some : (i h : ℕ) (xs : List ℕ) → i < above_l h xs → All (λ x. x < i) xs → i < h
unfolding above_l
above_some i h [] l a = l
above_some i h (x ∷ xs) l a = let m : i < max h (x + 1) = above_some i (max h (x + 1)) xs l a.1 in omega (arith, a.0)

pub from_list : {τ : Exprs} {k : ℕ} {xs : List ℕ} {a : ℕ} → ListAsked τ k xs → a ≡ above_l 0 xs → From (same_l τ.states.words τ.members.words k xs) a τ.states.count
from_list {τ} {k} {xs} {a} r e =
    let most : above_l 0 xs ≤ τ.states.count = above_most τ.states.count 0 xs (omega arith) r.has in
    record {
      within = omega (arith, most);
      none = λ i l. not_true (same_l τ.states.words τ.members.words k xs i) (λ q.
          let z = same_l_is τ.states.words τ.members.words k xs i q in
          let y : i < 0 = above_some i 0 xs (omega (arith, e)) (subst (All (λ x. x < i)) z.list (r.earlier i (omega (arith, most, e)) z.kind)) in
          omega arith);
    }

-- states are in the table
pub inside : {t : List ℕ} {n : ℕ} (xs : List ℕ) → Fits t n → All (λ x. x < n) xs → All (λ x. 12 * x + 11 < length t) xs
inside [] f a = tt
inside (x ∷ xs) f a = (omega (arith, f.fits, a.0), inside xs f a.1)
