-- A slice that has what another has, element by element.
use mathlib.Core.Path.{◌≡◌, refl, ap₂}
use mathlib.Core.List.{List, [], ◌∷◌}
use Prim.Native.Nat.{suc}
use native.Mathlib.Omega.{arith}
use lib.ListN.{length}
use Rattle.std.specs.List.{SameBelow}

pub same_all : {X : Type 0} (xs ys : List X) → length ys ≡ length xs → SameBelow xs ys (length xs) → ys ≡ xs
same_all [] [] e f = refl
same_all [] (y ∷ ys) e f = absurd (omega (arith, e))
same_all (x ∷ xs) [] e f = absurd (omega (arith, e))
same_all (x ∷ xs) (y ∷ ys) e f = ap₂ (λ (z : _) (zs : List _). z ∷ zs) (f 0 x (omega arith)) (same_all xs ys (omega (arith, e)) (λ k d l. f (suc k) d (omega (arith, l))))
