-- open_operand and lowest: operands looked at one after another, and states one below another.
use mathlib.Core.Path.{◌≡◌, refl, sym, ◌∙◌, subst}
use mathlib.Core.Bool.{Bool, true, false}
use mathlib.Core.List.{List, [], ◌∷◌}
use Rattle.std.specs.Prelude.{Option, Some, None, IfSome, MatchOption}
use Rattle.std.specs.Option.{option_copied}
use Rattle.std.proofs.Common.{Bor, Iter}
use denote.Param.Members.{Mut}
use Rattle.std.specs.Fn.{CalledAt}
use Rattle.std.specs.Iterator.{Yields}
use Rattle.std.specs.List.{FoldsTo}
use Rattle.std.proofs.lemmas.Fn.{fronts}
use Prim.Native.Nat.{ℕ, zero, suc, ◌<◌}
use native.Mathlib.Omega.{arith}
use lib.Dec.{eqb}
use lib.ListN.{length, get_or}
use borrow.Author.Tests.{eqb-true, eqb-false}
use Rattle.spp_steps.proofs.Laws.{by_test}
use Rattle.aut_steps.specs.Tables.{UNION, INTERSECT, nest, Limits, Aut}
use Rattle.aut_steps.specs.Kinds.{form}
use Rattle.aut_steps.specs.Ascending.{All}
use Rattle.aut_steps.specs.Wf.{states, kind, WfAut}
use Rattle.aut_steps.proofs.Wf.{ok_as}
use Rattle.aut_delta_steps.specs.EpsilonDown.{First, this, later, Way, bottom, down}
use Rattle.aut_delta_steps.proofs.EpsilonDown.{first_of, first_open}
use Rattle.aut_operands.specs.declared.Part.{Part}
use Rattle.aut_operands.specs.declared.Part.TheVariants as part
use Rattle.aut_operands.specs.Clauses.{operands_of, Inside, Worked, NotYet, Told, Next, Descends}

pub all_get_d : (P : ℕ → Type 0) (ys : List ℕ) (j : ℕ) → j < length ys → All P ys → P (get_or ys j 0)
all_get_d P [] j l a = absurd (omega arith)
all_get_d P (y ∷ ys) zero l a = a.0
all_get_d P (y ∷ ys) (suc j) l a = all_get_d P ys j (omega arith) a.1

-- ---- operands that an iterator gives

module _ {F : Type 0} (p : Part) (st : List ℕ) (g₀ : Mut F (Bor (Bor ℕ) × Unit {0}) Bool) (f : F) (tells : (x : Bor ℕ) (b : Bool) (q : F) → CalledAt g₀ f x b q → Told p st x.now b × (q ≡ f)) where
  pub first : (xs : List (Bor ℕ)) (s t u : Iter ℕ) (x : Bor ℕ) (g q h : F) → g ≡ f → Yields fronts s xs t → fronts t (Some x) u → FoldsTo (λ p x q. CalledAt g₀ p x false q) g xs q → CalledAt g₀ q x true h → First (Worked p st) (NotYet p st) x.now s.rest.now
  first [] s t u x g q h e y w c d =
      subst (λ (s : Iter ℕ). First (Worked p st) (NotYet p st) x.now s.rest.now) (sym y)
      (subst (First (Worked p st) (NotYet p st) x.now) (sym w) (this (tells x true h (subst (λ (g : F). CalledAt g₀ g x true h) (sym c ∙ e) d)).0))
  first (z ∷ xs) s t u x g q h e y w c d =
      let m = tells z false c.0 (subst (λ (g : F). CalledAt g₀ g z false c.0) e c.1) in
      subst (First (Worked p st) (NotYet p st) x.now) (sym y.1) (later m.0 (first xs y.0 t u x c.0 q h m.1 y.2 w c.2 d))

  pub none : (xs : List (Bor ℕ)) (s t : Iter ℕ) (g q : F) → g ≡ f → Yields fronts s xs t → length t.rest.now ≡ 0 → FoldsTo (λ p x q. CalledAt g₀ p x false q) g xs q → All (Worked p st) s.rest.now
  none [] s t g q e y w c = subst (λ (s : Iter ℕ). All (Worked p st) s.rest.now) (sym y) (empty t.rest.now w)
    where
      empty : (l : List ℕ) → length l ≡ 0 → All (Worked p st) l
      empty [] n = tt
      empty (x ∷ l) n = absurd (omega arith)
  none (z ∷ xs) s t g q e y w c =
      let m = tells z false c.0 (subst (λ (g : F). CalledAt g₀ g z false c.0) e c.1) in
      subst (All (Worked p st)) (sym y.1) (m.0, none xs y.0 t c.0 q m.1 y.2 w c.2)

  pub searched : (s u : Iter ℕ) (r : Option (Bor ℕ)) (o : Option ℕ) → o ≡ option_copied r
      → (xs : List (Bor ℕ)) × (q : F) × ((t : Iter ℕ) × Yields fronts s xs t × fronts t r u) × FoldsTo (λ p x q. CalledAt g₀ p x false q) f xs q × IfSome r (λ x. (h : F) × CalledAt g₀ q x true h)
      → MatchOption o (All (Worked p st) s.rest.now) (λ z. First (Worked p st) (NotYet p st) z s.rest.now)
  searched s u None o e d = subst (λ (o : Option ℕ). MatchOption o (All (Worked p st) s.rest.now) (λ z. First (Worked p st) (NotYet p st) z s.rest.now)) (sym e) (none d.0 s d.2.0 f d.1 refl d.2.1 d.2.2.0 d.3)
  searched s u (Some x) o e d = subst (λ (o : Option ℕ). MatchOption o (All (Worked p st) s.rest.now) (λ z. First (Worked p st) (NotYet p st) z s.rest.now)) (sym e) (first d.0 s d.2.0 u x f d.1 d.4.0 refl d.2.1 d.2.2 d.3 d.4.1)

pub next_of : (p : Part) (st mem : List ℕ) {ys : List ℕ} (x : ℕ) (o : Option ℕ) → operands_of p st mem x ≡ ys → MatchOption o (All (Worked p st) ys) (λ z. First (Worked p st) (NotYet p st) z ys) → Next p st mem x o
next_of p st mem x None e d = subst (All (Worked p st)) (sym e) d
next_of p st mem x (Some z) e d = subst (First (Worked p st) (NotYet p st) z) (sym e) d

-- ---- y is reached from x

pub record Reached (st mem : List ℕ) (x y : ℕ) : Type 0 where
  pub from : Descends st mem y
  pub back : (r : ℕ) → Way st mem r y → Way st mem r x

module _ {st mem : List ℕ} {x y : ℕ} (v : Reached st mem x y) where
  abbrev d : Descends st mem y
  d = v.from

  abbrev zs : List ℕ
  zs = operands_of part.Epsilon st mem y

  lower : {z : ℕ} → First (Worked part.Epsilon st) (NotYet part.Epsilon st) z zs → (z < d.count) × (nest st z < nest st y)
  lower f = first_of (λ z. (z < d.count) × (nest st z < nest st y)) f (d.nested.lower y d.has)

  pub arrived : All (Worked part.Epsilon st) zs → Way st mem y x
  arrived a = v.back y (bottom d.not_yet a)

  module _ {z : ℕ} (f : First (Worked part.Epsilon st) (NotYet part.Epsilon st) z zs) where
    pub further : Reached st mem x z
    further = record { from = record { count = d.count; nested = d.nested; has = (lower f).0; not_yet = first_open f }; back = λ r w. v.back r (down d.not_yet f w) }

    pub falls : nest st z < nest st y
    falls = (lower f).1

-- ---- tables in order

-- a list's members are in the table
pub inside_of : {N : ℕ} {L : Limits} {σ : Aut} → WfAut N L σ → {x : ℕ} → x < states σ → Inside σ.states.words σ.members.words x
unfolding form
inside_of {σ = σ} g {x} l = record {
  state = omega (arith, g.fits);
  list = λ p q. by_test (eqb (kind σ x) UNION)
      (λ b. omega (arith, (ok_as g UNION l (eqb-true (kind σ x) UNION b)).inside, g.members_fit))
      (λ b. omega (arith, (ok_as g INTERSECT l (omega (arith, eqb-false (kind σ x) UNION b))).inside, g.members_fit));
}
