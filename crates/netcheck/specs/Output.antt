-- 01: "The program `netcheck` reads the book on standard input, runs it and writes the output, and after a refusal a line `refused`, number, text line. For a book over 4,096 bytes it writes only `too long`."
use Rattle.std.specs.Prelude.{◌≡◌, Bool, List, [], ◌∷◌, ◌++◌, ℕ, ◌≤◌, eqb, length, take, if◌then◌else◌}
use Rattle.book_steps.specs.Text.{bytes, decimal}
use Rattle.book_steps.specs.Answers.{say}
use Rattle.book_steps.specs.Run.{outcome}
use Rattle.book_steps.specs.Claim.{Slices, netcheck_lent, report}
use Rattle.book_run.specs.Clauses.{slices}
use Rattle.netcheck_entry.specs.declared.Tables.{Tables}
use Rattle.netcheck.specs.declared.Written.{Written}

abbrev pub refused_line : (number line : ℕ) → List ℕ
refused_line number line = say (bytes "refused" ∷ decimal number ∷ decimal line ∷ [])

-- with byte 10, as every line has
abbrev pub too_long : List ℕ
too_long = say (bytes "too long" ∷ [])

-- ---- in code

abbrev pub slices_of : Tables → Slices
slices_of t = slices t.sp.now t.spp.now t.states.now t.members.now t.transitions.now t.pending.now t.scratch.now t.output.now

-- what is written for the bytes read, where `over` says that more stand behind them
abbrev pub writes : Bool → List ℕ → List ℕ
writes over book = if over then too_long else report (outcome netcheck_lent book)

-- the line behind the output, if there is one
abbrev pub closing : (number line : ℕ) → List ℕ
closing number line = if eqb number 0 then [] else refused_line number line

-- `&xs[..n]` is in bounds and has n bytes
abbrev pub IsPrefixLen : ℕ → List ℕ → Type 0
IsPrefixLen n xs = (n ≤ length xs) × (n ≡ length (take n xs))

-- bs stands at the start of s
pub record Stands (bs : List ℕ) (n : ℕ) (s : List ℕ) : Type 0 where
  pub counts : IsPrefixLen n s
  pub is : take n s ≡ bs

-- the output and then the closing line are what is to be written
pub record Prepared (over : Bool) (book : List ℕ) (w : Written) (output line : List ℕ) : Type 0 where
  pub output_counts : IsPrefixLen w.output output
  pub closing_counts : IsPrefixLen w.closing line
  pub is : take w.output output ++ take w.closing line ≡ writes over book
