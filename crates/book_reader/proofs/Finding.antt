-- The first place of a byte, a word that is a name, and what a table names: as the library says it, and as the specs do.
use Rattle.std.specs.Prelude.{Option, Some, None, MatchOption, IsSomeAnd, option_map, if◌then◌else◌}
use mathlib.Core.Path.{◌≡◌, refl, sym, ◌∙◌, ap, subst}
use mathlib.Core.Bool.{Bool, true, false, cond, ◌&&◌, not}
use mathlib.Core.List.{List, [], ◌∷◌}
use mathlib.Core.List.{map as list_map}
use mathlib.Core.Option.{some}
use Prim.Native.Nat.{ℕ, suc, ◌≤◌}
use native.Mathlib.Omega.{arith}
use lib.Dec.{eqb, ltb}
use borrow.Author.Tests.{ltb-true, ltb-false}
use lib.ListN.{length}
use Rattle.std.specs.List.{position_or_len, find as list_find}
use Rattle.std.specs.Str.{bytes_eq}
use Rattle.std.proofs.Common.{Bor}
use Rattle.book_steps.specs.Text.{bytes, same}
use Rattle.book_steps.specs.Reader.{Named, map, find}
use Rattle.book_reader.specs.Bytes.{index_of, index_after}
use Rattle.book_reader.specs.Clauses.{Finds, value_of, look_up}

index_is : (b : ℕ) (l : List ℕ) → index_of b l ≡ position_or_len (λ x. eqb x b) l
unfolding index_of index_after
index_is b [] = refl
index_is b (x ∷ l) = at (eqb x b) (index_is b l) ∙ ap (λ (n : ℕ). cond (not (eqb x b)) n 0) (omega arith)
  where
    at : (t : Bool) → index_of b l ≡ position_or_len (λ x. eqb x b) l → index_after t (index_of b l) ≡ cond (not t) (suc (position_or_len (λ x. eqb x b) l)) 0
    at true e = refl
    at false e = ap suc e

index_few : (b : ℕ) (l : List ℕ) → index_of b l ≤ length l
unfolding index_of index_after
index_few b [] = omega arith
index_few b (x ∷ l) = at (eqb x b) (index_few b l)
  where
    at : (t : Bool) → index_of b l ≤ length l → index_after t (index_of b l) ≤ suc (length l)
    at true h = omega arith
    at false h = omega arith

pub finds : (b : ℕ) (l : List ℕ) (r : Option ℕ) → r ≡ cond (ltb (position_or_len (λ x. eqb x b) l) (length l)) (Some (position_or_len (λ x. eqb x b) l)) None → Finds b l r
finds b l r e = at (ltb (position_or_len (λ x. eqb x b) l) (length l)) refl e
  where
    at : (t : Bool) → ltb (position_or_len (λ x. eqb x b) l) (length l) ≡ t → r ≡ cond t (Some (position_or_len (λ x. eqb x b) l)) None → Finds b l r
    at true f e = subst (Finds b l) (sym e) (sym (index_is b l), ltb-true (position_or_len (λ x. eqb x b) l) (length l) f)
    at false f e = subst (Finds b l) (sym e) (omega (arith, index_is b l, index_few b l, ltb-false (position_or_len (λ x. eqb x b) l) (length l) f))

-- ---- names

pub same_is : (v w : List ℕ) → same v w ≡ bytes_eq v w
unfolding same
same_is [] [] = refl
same_is [] (b ∷ w) = refl
same_is (a ∷ v) [] = refl
same_is (a ∷ v) (b ∷ w) = ap (λ (t : Bool). eqb a b && t) (same_is v w)

-- what `map` makes of an option, by what its closure gives of each value
pub mapped_is : {A B : Type 0} (f : A → B) {P : A → B → Type 0} (o : Option A) (r : Option B) → MatchOption o (r ≡ None) (λ x. IsSomeAnd r (P x)) → ((x : A) (y : B) → P x y → y ≡ f x) → r ≡ option_map f o
mapped_is f None r m k = m
mapped_is f (Some x) None m k = absurd m
mapped_is f (Some x) (Some y) m k = ap Some (k x y m)

module _ {A : Type 0} (w : List ℕ) where
  abbrev pub has_name : Bor (List ℕ) × A → Bool
  has_name n = bytes_eq w n.0.now

  found_is : (ns : List (Bor (List ℕ) × A)) → option_map (λ n. n.1) (list_find has_name ns) ≡ look_up (list_map (λ n. (n.0.now, n.1)) ns) w
  found_is [] = refl
  found_is (n ∷ ns) = at (bytes_eq w n.0.now) (found_is ns) ∙ ap (λ (b : Bool). if b then Some n.1 else look_up (list_map (λ n. (n.0.now, n.1)) ns) w) (sym (same_is w n.0.now))
    where
      at : (b : Bool) → option_map (λ n. n.1) (list_find has_name ns) ≡ look_up (list_map (λ n. (n.0.now, n.1)) ns) w
          → option_map (λ n. n.1) (cond b (Some n) (list_find has_name ns)) ≡ (if b then Some n.1 else look_up (list_map (λ n. (n.0.now, n.1)) ns) w)
      at true e = refl
      at false e = e

  pub named_is : (ns : List (Bor (List ℕ) × A)) (o : Option (Bor (Bor (List ℕ) × A))) → option_map (λ x. x.now) o ≡ list_find has_name ns → option_map (λ x. x.now.1) o ≡ look_up (list_map (λ n. (n.0.now, n.1)) ns) w
  named_is ns o e = at o ∙ ap (option_map (λ n. n.1)) e ∙ found_is ns
    where
      at : (o : Option (Bor (Bor (List ℕ) × A))) → option_map (λ x. x.now.1) o ≡ option_map (λ n. n.1) (option_map (λ x. x.now) o)
      at None = refl
      at (Some x) = refl

-- row by row, the two tables name the same
abbrev pub Alike : {A B : Type 0} → (A → B) → List (List ℕ × A) → List (Named B) → Type 0
Alike f [] [] = Unit
Alike f [] (m ∷ ms) = ⊥
Alike f (n ∷ ns) [] = ⊥
Alike f (n ∷ ns) (m ∷ ms) = (n.0 ≡ bytes m.word) × (f n.1 ≡ m.value) × Alike f ns ms

pub find_alike : {A B : Type 0} (f : A → B) (ns : List (List ℕ × A)) (ms : List (Named B)) → Alike f ns ms → (w : List ℕ) → find ms w ≡ map f (value_of (look_up ns w))
unfolding find
find_alike f [] [] r w = refl
find_alike f [] (m ∷ ms) r w = absurd r
find_alike f (n ∷ ns) [] r w = absurd r
find_alike {A} {B} f (n ∷ ns) (m ∷ ms) r w =
    ap (λ (l : List ℕ). if same w l then some m.value else find ms w) (sym r.0) ∙ at (same w n.0) (find_alike f ns ms r.2 w)
  where
    at : (b : Bool) → find ms w ≡ map f (value_of (look_up ns w)) → (if b then some m.value else find ms w) ≡ map f (value_of (if b then Some n.1 else look_up ns w))
    at true e = ap some (sym r.1)
    at false e = e
