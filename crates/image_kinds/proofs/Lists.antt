-- What is known of a list whose members are in the table.
use Rattle.std.specs.Prelude.{◌↔◌, IsTrue, EachIndex, slice_index}
use mathlib.Core.Path.{◌≡◌, refl, ap₂}
use mathlib.Core.Bool.{Bool, true, false, ◌&&◌}
use mathlib.Core.List.{List, [], ◌∷◌}
use Prim.Native.Nat.{ℕ, zero, suc, ◌+◌, ◌*◌, ◌<◌}
use native.Mathlib.Omega.{arith}
use lib.ListN.{length, get_or}
use borrow.Author.Tests.{ltb-true, lt-ltb}
use Rattle.sp_steps.proofs.Make.{by_test, false_true}
use Rattle.aut_steps.specs.Ascending.{All}
use Rattle.aut_steps.proofs.Facts.{and_true}
use Rattle.aut_states.specs.Clauses.{Fits}
use Rattle.aut_states.proofs.Scan.{inside}
use Rattle.image_steps.specs.Records.{all_below}

pub all_below_lem : (n : ℕ) (xs : List ℕ) → all_below n xs ≡ true → All (λ x. x < n) xs
unfolding all_below
all_below_lem n [] e = tt
all_below_lem n (x ∷ xs) e = let (a, b) = and_true _ _ e in (ltb-true x n a, all_below_lem n xs b)

-- a test of each is that of all
below_yes : (n : ℕ) (xs : List ℕ) → ((k : ℕ) → k < length xs → get_or xs k 0 < n) → all_below n xs ≡ true
unfolding all_below
below_yes n [] f = refl
below_yes n (x ∷ xs) f = ap₂ ◌&&◌ (lt-ltb x n (f 0 (omega arith))) (below_yes n xs (λ k l. f (suc k) (omega arith)))

below_at : (n : ℕ) (xs : List ℕ) → all_below n xs ≡ true → (k : ℕ) → k < length xs → get_or xs k 0 < n
unfolding all_below
below_at n [] e k l = absurd (omega arith)
below_at n (x ∷ xs) e zero l = ltb-true x n (and_true _ _ e).0
below_at n (x ∷ xs) e (suc k) l = below_at n xs (and_true _ _ e).1 k (omega arith)

pub all_by : (n : ℕ) (xs : List ℕ) (r : Bool) → (IsTrue r ↔ EachIndex xs (λ k. slice_index xs k < n)) → all_below n xs ≡ r
all_by n xs true (f, g) = below_yes n xs (f refl)
all_by n xs false (f, g) = by_test (all_below n xs) (λ e. absurd (false_true (g (below_at n xs e)))) (λ e. e)

-- their records are within the words
pub in_table : {st : List ℕ} {n : ℕ} (xs : List ℕ) → Fits st n → all_below n xs ≡ true → All (λ x. 12 * x + 11 < length st) xs
in_table {n = n} xs f e = inside xs f (all_below_lem n xs e)
