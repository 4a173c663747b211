-- Tables that are zeroed.
use mathlib.Core.Path.{◌≡◌, sym, ◌∙◌, ap}
use mathlib.Core.List.{List, []}
use Prim.Native.Nat.{ℕ}
use native.Mathlib.Omega.{arith}
use lib.Dec.{ltb}
use lib.ListN.{length, get_or, length-replicate, get_or-replicate, get_or-eq_default}
use borrow.Author.Tests.{ltb-true, ltb-false}
use Rattle.spp_steps.proofs.Laws.{by_test}
use Rattle.book_steps.specs.Run.{zeroed}
use Rattle.aut_query_stage.specs.Layer.{Zeroed}
use Rattle.book_memory.specs.Place.{lines_of}

pub zeros : (n : ℕ) → Zeroed (zeroed n)
zeros n j = by_test (ltb j n)
    (λ e. get_or-replicate {A = ℕ} n j 0 0 (ltb-true j n e))
    (λ e. get_or-eq_default (zeroed n) 0 (omega (arith, length-replicate {A = ℕ} n 0, ltb-false j n e)))

pub zeroed_length : {t : List ℕ} {n : ℕ} → t ≡ zeroed n → length t ≡ n
zeroed_length {n = n} e = ap length e ∙ length-replicate {A = ℕ} n 0

-- what is zeroed is the zeroed of its own length
pub zeroed_own : (n : ℕ) {t : List ℕ} → t ≡ zeroed n → t ≡ zeroed (length t)
zeroed_own n {t} e = e ∙ ap zeroed {x = n} {y = length t} (sym (ap length e ∙ length-replicate {A = ℕ} n 0))

-- .. so every word of it is 0
pub own_zeros : {t : List ℕ} → t ≡ zeroed (length t) → Zeroed t
own_zeros {t} e j = ap (λ (s : List ℕ). get_or s j 0) e ∙ zeros (length t) j

pub no_lines : (s : List ℕ) {k : ℕ} → k ≡ 0 → lines_of s k ≡ []
unfolding lines_of
no_lines s e = ap (lines_of s) e
