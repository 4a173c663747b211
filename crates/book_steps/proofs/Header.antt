-- A header's numbers are below 2^64: they are numbers by 01's form.
use Rattle.std.specs.Prelude.{if◌then◌else◌}
use mathlib.Core.Path.{◌≡◌, refl, sym, ◌∙◌, ap}
use native.Mathlib.Omega.{arith}
use mathlib.Core.Bool.{Bool, true, false, ◌&&◌}
use mathlib.Core.List.{List, [], ◌∷◌}
use mathlib.Core.Option.{Option, none, some}
use Prim.Native.Nat.{ℕ, ◌^◌, ◌<◌}
use lib.Dec.{ltb}
use borrow.Author.Tests.{ltb-true}
use Rattle.book_steps.specs.Text.{bytes, same, digits, reading, plain, number}
use Rattle.book_steps.specs.Reader.{Header, header_of, header}
use Rattle.book_steps.specs.Claim.{Headed}

none_not : {A : Type 0} {a : A} → ¬ (◌≡◌ {A = Option A} none (some a))
none_not e = let z : ◌≡◌ {A = ℕ} 0 1 = cc in omega arith

some_same : {A : Type 0} {a b : A} → ◌≡◌ {A = Option A} (some a) (some b) → a ≡ b
some_same e = cc

last_true : (a b c : Bool) → (a && b && c) ≡ true → c ≡ true
last_true true true c e = e
last_true true false c e = absurd (let z : ◌≡◌ {A = ℕ} 0 1 = cc in omega arith)
last_true false true c e = absurd (let z : ◌≡◌ {A = ℕ} 0 1 = cc in omega arith)
last_true false false c e = absurd (let z : ◌≡◌ {A = ℕ} 0 1 = cc in omega arith)

pub number_small : (w : List ℕ) (n : ℕ) → number w ≡ some n → n < 2 ^ 64
unfolding number
number_small w n e = go (plain w && digits w && ltb (reading 0 w) (2 ^ 64)) refl e
  where
    go : (b : Bool) → (plain w && digits w && ltb (reading 0 w) (2 ^ 64)) ≡ b → (if b then some (reading 0 w) else none) ≡ some n → n < 2 ^ 64
    go true q e = let r : reading 0 w ≡ n = some_same e in omega (arith, r, ltb-true (reading 0 w) (2 ^ 64) (last_true (plain w) (digits w) (ltb (reading 0 w) (2 ^ 64)) q))
    go false q e = absurd (none_not e)

header_small : (ws : List (List ℕ)) (h : Header) → header ws ≡ some h → h.budget < 2 ^ 64
unfolding header
header_small [] h e = absurd (none_not e)
header_small (f ∷ []) h e = absurd (none_not e)
header_small (f ∷ n ∷ []) h e = absurd (none_not e)
header_small (f ∷ n ∷ b ∷ []) h e = absurd (none_not e)
header_small (f ∷ n ∷ b ∷ m ∷ []) h e = at (same f (bytes "fields") && same b (bytes "budget")) (number n) (number m) refl e
  where
    at : (c : Bool) (o p : Option ℕ) → number m ≡ p → (if c then header_of o p else none) ≡ some h → h.budget < 2 ^ 64
    at false o p q e = absurd (none_not e)
    at true none none q e = absurd (none_not e)
    at true none (some y) q e = absurd (none_not e)
    at true (some x) none q e = absurd (none_not e)
    at true (some x) (some y) q e = let r : y ≡ h.budget = ap (λ (h : Header). h.budget) (some_same e) in omega (arith, r, number_small m y q)
header_small (f ∷ n ∷ b ∷ m ∷ l ∷ ls) h e = absurd (none_not e)

pub headed_small : {book text : List ℕ} {h : Header} → Headed book h text → h.budget < 2 ^ 64
headed_small (Headed.is {l = l} {h = h} e q) = header_small _ h q
