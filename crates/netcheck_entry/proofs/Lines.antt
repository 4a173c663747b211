-- The text line of a refusal fits into the struct; and what holds of the number, line and length that a run returns holds of the struct's.
use Rattle.std.specs.Prelude as code
use mathlib.Core.Path.{◌≡◌, sym, subst}
use mathlib.Core.List.{List}
use Prim.Native.Nat.{ℕ, ◌≤◌}
use native.Mathlib.Omega.{arith}
use Rattle.book_steps.specs.Run.{Lent}
use Rattle.book_steps.specs.Claim.{Slices, EntrySpec}
use Rattle.book_steps.proofs.LineNumbers.{outcome_line}
use Rattle.book_finish.specs.Clauses.{number_of, text_line_of, length_of}
use Rattle.book_run.specs.Clauses.{lent_of}
use Rattle.book_finish.specs.declared.Stop.{Stop}
use Rattle.netcheck_entry.specs.declared.Outcome as Struct
use Rattle.netcheck_entry.specs.Outcome.{outcome_of, Entered}

pub entry_line : {lent : Lent} {book : List ℕ} {m n : Slices} {number line len : ℕ} → EntrySpec lent book m number line len n → line ≤ 2050
entry_line {lent} {book} e = omega (arith, e.refines.line_is, outcome_line lent book)

module _ (P : (number line len : ℕ) → Type 0) where
  by_case : (ran : code.Result ℕ Stop) → P (number_of ran) (text_line_of ran) (length_of ran) → P (outcome_of ran).number (outcome_of ran).line (outcome_of ran).length
  by_case (code.Ok k) h = h
  by_case (code.Err s) h = h

  pub of_fields : (ran : code.Result ℕ Stop) {r : Struct.Outcome} → r ≡ outcome_of ran → P (number_of ran) (text_line_of ran) (length_of ran) → P r.number r.line r.length
  of_fields ran q h = subst (λ (s : Struct.Outcome). P s.number s.line s.length) (sym q) (by_case ran h)

pub entered : (book : List ℕ) (m n : Slices) (ran : code.Result ℕ Stop) {r : Struct.Outcome} → r ≡ outcome_of ran → EntrySpec (lent_of m) book m (number_of ran) (text_line_of ran) (length_of ran) n → Entered book m r n
entered book m n = of_fields (λ (number line len : ℕ). EntrySpec (lent_of m) book m number line len n)
