-- What `netcheck` writes is as specs/Claim says (NetcheckSpec).
use Rattle.std.specs.Prelude.{if◌then◌else◌}
use mathlib.Core.Path.{◌≡◌, refl, sym, ◌∙◌, ap}
use native.Mathlib.Omega.{arith}
use mathlib.Core.Bool.{Bool, true, false}
use mathlib.Core.List.{List, [], ◌∷◌, ◌++◌, append_assoc}
use Prim.Native.Nat.{ℕ, ◌≤◌, ◌<◌}
use lib.Dec.{eqb, ltb}
use lib.ListN.{length}
use borrow.Author.Tests.{ltb-true, lt-ltb, eqb-true, eq-eqb}
use Rattle.spp_steps.proofs.Laws.{by_test}
use Rattle.book_steps.specs.Text.{bytes, decimal}
use Rattle.book_steps.specs.Answers.{say}
use Rattle.book_steps.specs.Run.{Result, outcome}
use Rattle.book_steps.specs.Claim.{netcheck_lent, report, netcheck_output, NetcheckSpec}
use Rattle.book_steps.proofs.Claim.{claim}

runs : (book : List ℕ) → length book ≤ 4096 → netcheck_output book ≡ report (outcome netcheck_lent book)
runs book l = ap (λ (b : Bool). if b then say (bytes "too long" ∷ []) else report (outcome netcheck_lent book))
    (by_test (ltb 4096 (length book)) (λ e. absurd (omega (arith, ltb-true 4096 (length book) e))) (λ e. e))

refused_line_lem : (r : Result) → ¬ (r.number ≡ 0) → report r ≡ r.output ++ say (bytes "refused" ∷ decimal r.number ∷ decimal r.line ∷ [])
refused_line_lem r n = ap (λ (b : Bool). if b then r.output else (r.output ++ say (bytes "refused" ∷ decimal r.number ∷ decimal r.line ∷ [])))
    (by_test (eqb r.number 0) (λ e. absurd (n (eqb-true r.number 0 e))) (λ e. e))

spelt : (a b : List ℕ) → say (bytes "refused" ∷ a ∷ b ∷ []) ≡ bytes "refused " ++ (a ++ (32 ∷ (b ++ (10 ∷ []))))
unfolding say
spelt a b = refl

too_long : say (bytes "too long" ∷ []) ≡ bytes "too long\n"
unfolding say
too_long = refl

pub netcheck : (book : List ℕ) → NetcheckSpec book (netcheck_output book)
netcheck book = record {
  too_long = λ l. ap (λ (b : Bool). if b then say (bytes "too long" ∷ []) else report (outcome netcheck_lent book)) (lt-ltb 4096 (length book) l) ∙ too_long;
  answered = λ l e. runs book l
      ∙ ap (λ (b : Bool). if b then (outcome netcheck_lent book).output else ((outcome netcheck_lent book).output ++ say (bytes "refused" ∷ decimal (outcome netcheck_lent book).number ∷ decimal (outcome netcheck_lent book).line ∷ [])))
      (eq-eqb (outcome netcheck_lent book).number 0 e);
  refused = λ l n. runs book l ∙ refused_line_lem (outcome netcheck_lent book) n
      ∙ ap (λ (t : List ℕ). (outcome netcheck_lent book).output ++ t) (spelt (decimal (outcome netcheck_lent book).number) (decimal (outcome netcheck_lent book).line));
  claim = claim netcheck_lent book;
}
