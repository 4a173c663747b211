-- 01, "Who can cause a refusal": "Each returns its number, the text line counted from 1 (0 for 26), and the output length of the lines before. Success returns 0 and line 0." As C gets it.
use Rattle.std.specs.Prelude.{List, ℕ, Result, Ok, Err}
use Rattle.refusal.specs.Numbers.{number_of}
use Rattle.book_steps.specs.Claim.{Slices, EntrySpec}
pub use Rattle.book_run.specs.Clauses.{lent_of, slices}
use Rattle.book_finish.specs.declared.Stop.{Stop}
use Rattle.netcheck_entry.specs.declared.Outcome.{Outcome}

-- the answer for each case
abbrev pub outcome_of : Result ℕ Stop → Outcome
outcome_of (Ok n) = record { number = 0; line = 0; length = n }
outcome_of (Err s) = record { number = number_of s.refusal; line = s.line; length = s.length }

-- the entry's promise, of the struct's fields
abbrev pub Entered : List ℕ → Slices → Outcome → Slices → Type 0
Entered book m r n = EntrySpec (lent_of m) book m r.number r.line r.length n
