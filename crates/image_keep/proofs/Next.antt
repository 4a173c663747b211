-- 02 (iv), "tables that hold this kind": a search for a state of kind 10 by `any` among the records.
use Rattle.std.specs.Prelude.{Option, Some, None, IsSomeAnd, IfSome, MatchBool, is_some}
use mathlib.Core.Path.{◌≡◌, refl, sym, ◌∙◌, ap, subst}
use mathlib.Core.Bool.{Bool, true, false, true≢false}
use mathlib.Core.List.{List}
use Prim.Native.Nat.{ℕ, ◌+◌, ◌*◌, ◌≤◌, ◌<◌}
use native.Mathlib.Omega.{arith}
use denote.Ref.{Bor}
use denote.Param.Members.{Mut}
use lib.Dec.{eqb}
use lib.ListN.{length, get_or, take}
use borrow.Author.Tests.{eqb-true, eqb-false}
use Rattle.std.specs.Fn.{Called}
use Rattle.std.proofs.lemmas.List.{get_or-take, length-take-le}
use Rattle.std.specs.Option.{option_map}
use Rattle.std.specs.List.{IsSubsliceAt}
use Rattle.std.specs.Iterator.Runs.{Run, AllItemsGive, AnyItemGives, IsChunksExactRun}
use Rattle.aut_steps.specs.Tables.{NEXT, kind_of}
use Rattle.image_steps.specs.Calls.{has_next}
use Rattle.image_steps.proofs.Calls.{next_found, next_some}

-- the record at a place is of kind 10
abbrev pub here : List ℕ → ℕ → Bool
here s a = eqb (get_or s a 0) NEXT

not_true : (b : Bool) → (b ≡ true → ⊥) → b ≡ false
not_true true f = absurd (f refl)
not_true false f = refl

there : {A : Type 0} (P : A → Type 0) {z : A} (o : Option A) → option_map (λ y. y) o ≡ Some z → IfSome o P → IsSomeAnd o P
there P None e h = absurd (true≢false (ap is_some (sym e)))
there P (Some x) e h = h

here_kind : (st : List ℕ) (i : ℕ) → here st (12 * i) ≡ eqb (kind_of st i) NEXT
unfolding kind_of
here_kind st i = refl

module _ {S F : Type 0} {steps : S → Option (Bor (List ℕ)) → S → Type 0} (g : Mut F (Bor (List ℕ) × Unit {0}) Bool) (f : F)
    (k : (x : Bor (List ℕ)) (b : Bool) (q : F) → Called g f (x, tt) b q → (q ≡ f) × (b ≡ here x.now 0))
    (u : Run steps) (xs : Bor (List ℕ)) {m : ℕ} {ys : List ℕ} (sized : m ≡ 12) (rest : ys ≡ xs.now) (run : IsChunksExactRun u m ys) (st : List ℕ) (n : ℕ) (fits : 12 * n ≤ length st) (is : xs.now ≡ take (12 * n) st) where
  r : IsChunksExactRun u 12 xs.now
  r = subst (λ (l : List ℕ). IsChunksExactRun u 12 l) rest (subst (λ (j : ℕ). IsChunksExactRun u j ys) sized run)

  long : length xs.now ≡ 12 * n
  long = ap length is ∙ length-take-le (12 * n) st fits

  told : (i : ℕ) (b : Bool) (o : Option (Bor (List ℕ))) → IsSomeAnd o (λ x. Called g f (x, tt) b f)
      → IfSome o (λ x. (length x.now ≡ 12) × (i * 12 + 12 ≤ length xs.now) × IsSubsliceAt 12 xs.now (i * 12) x.now) → (i < n) × (eqb (kind_of st i) NEXT ≡ b)
  told i b None c q = absurd c
  told i b (Some x) c (l, le, part) =
      let m : i < n = omega (arith, long) in
      let w : get_or x.now 0 0 ≡ get_or st (12 * i) 0 =
      part.2 0 0 (omega arith) ∙ ap (λ (s : List ℕ). get_or s (i * 12 + 0) 0) is ∙ get_or-take (12 * n) st (i * 12 + 0) 0 (omega (arith, m))
      ∙ ap (λ (j : ℕ). get_or st j 0) {x = i * 12 + 0} {y = 12 * i} (omega arith) in
      (m, sym (here_kind st i) ∙ ap (λ (v : ℕ). eqb v NEXT) (sym w) ∙ sym (k x b f c).1)

  pub found : (b : Bool) → MatchBool b (AnyItemGives u g f true) ((u.whole ≡ true) × AllItemsGive u g f false) → has_next st n ≡ b
  found true p =
      let some = p (λ a b q c. (k a.0 b q c).0) in
      let it = told some.0 true (u.at some.0) some.2 (r.2 some.0) in
      next_found st n some.0 it.0 (eqb-true (kind_of st some.0) NEXT it.1)
  found false p =
      let each = p.1 (λ a b q c. (k a.0 b q c).0) in
      let none = λ (j : ℕ) (l : j < n). (told j false (u.at j) (there _ (u.at j) (u.reads j xs (subst (λ (m : ℕ). j < m) (sym (r.1 p.0)) (omega (arith, long, l)))) (each j)) (r.2 j)).1 in
      not_true (has_next st n) (λ e. let (x, (l, q)) = next_some st n e in eqb-false (kind_of st x) NEXT (none x l) q)
