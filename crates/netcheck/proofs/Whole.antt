-- What stands in the output and the closing line, and what is written for the whole of standard input.
use Rattle.std.specs.Prelude.{if◌then◌else◌}
use mathlib.Core.Path.{◌≡◌, refl, sym, ◌∙◌, ap, subst}
use mathlib.Core.Bool.{Bool, true, false}
use mathlib.Core.List.{List, [], ◌++◌, append-nil}
use Prim.Native.Nat.{ℕ, ◌≤◌, ◌<◌}
use native.Mathlib.Omega.{arith}
use lib.Dec.{eqb}
use lib.ListN.{length, take, length-append}
use lib.Seq.{length-take-le, get_or-take, ext_get_or}
use borrow.Author.Tests.{lt-ltb, le-ltb}
use Rattle.book_steps.specs.Claim as Claim
use Rattle.book_steps.specs.Claim.{Slices, Lends, EntrySpec}
use Rattle.book_steps.specs.Run.{Lent, Result, outcome}
use Rattle.book_steps.specs.Text.{bytes, decimal}
use Rattle.book_steps.specs.Answers.{say}
use Rattle.refusal.specs.declared.Refusal.{Refusal}
use Rattle.refusal.specs.declared.Refusal.TheVariants as refusals
use Rattle.refusal.specs.Numbers as refusal
use Rattle.book_writer.specs.Clauses.{Room, Put, Answers}
use Rattle.book_writer.specs.declared.output.Output.{Output}
use Rattle.book_writer.proofs.Contracts.{put_take}
use Rattle.std.specs.Prelude as code
use Rattle.book_writer.proofs.Rights.{most_digits}
use Rattle.book_writer.proofs.Lines.{length_three}
use Rattle.book_finish.specs.declared.Stop.{Stop}
use Rattle.book_finish.specs.Clauses.{number_of, text_line_of}
use Rattle.book_run.specs.Clauses.{lent_of}
use Rattle.netcheck.specs.Output.{refused_line, closing, too_long, writes, IsPrefixLen, Stands, Prepared}
use Rattle.book_steps.specs.Claim.{netcheck_lent, report, netcheck_output}

counts : (n : ℕ) (s : List ℕ) → n ≤ length s → IsPrefixLen n s
counts n s l = (l, sym (length-take-le n s l))

-- ---- the closing line

-- 64 bytes hold it
line_whole : (number line : ℕ) (o o' : Output) (r : code.Result Unit Refusal) → Answers (refused_line number line) o r o' → Room 64 o → code.IsOk r × Put (refused_line number line) o o'
line_whole number line o o' (code.Ok u) A l = (refl, A)
line_whole number line o o' (code.Err e) A l =
    absurd (omega (arith, A.1, length_three (bytes "refused") (decimal number) (decimal line), most_digits number, most_digits line))

pub line_told : {number n : ℕ} (line : ℕ) → n ≡ number → (o o' : Output) (r : code.Result Unit Refusal) → Answers (refused_line n line) o r o' → Room 64 o → code.IsOk r × Put (refused_line number line) o o'
line_told {number} {n} line e o o' r A l = subst (λ (k : ℕ). code.IsOk r × Put (refused_line k line) o o') e (line_whole n line o o' r A l)

pub stands_put : {bs : List ℕ} (o o' : Output) → o.at ≡ 0 → Put bs o o' → Stands bs o'.at o'.bytes.now
stands_put {bs} o o' z p = record {
  counts = counts o'.at o'.bytes.now o'.fits;
  is = put_take p ∙ ap (λ (n : ℕ). take n o.bytes.now ++ bs) z;
}

-- of an answer, none
pub stands_none : (n : ℕ) (o : Output) → o.at ≡ 0 → Stands (closing (number_of (code.Ok n)) (text_line_of (code.Ok n))) o.at o.bytes.now
stands_none n o z = rw z (record { counts = counts 0 o.bytes.now (omega arith); is = refl })

some_number : (e : Refusal) → eqb (refusal.number_of e) 0 ≡ false
some_number refusals.Header = refl
some_number refusals.Fields = refl
some_number refusals.Form = refl
some_number refusals.Name = refl
some_number refusals.Range = refl
some_number refusals.List = refl
some_number refusals.Products = refl
some_number refusals.Nesting = refl
some_number refusals.TransitionList = refl
some_number refusals.Sp = refl
some_number refusals.Spp = refl
some_number refusals.States = refl
some_number refusals.Members = refl
some_number refusals.Pending = refl
some_number refusals.Transitions = refl
some_number refusals.Scratch = refl
some_number refusals.Output = refl
some_number refusals.Block = refl
some_number refusals.Check = refl
some_number refusals.Record = refl
some_number refusals.Next = refl

pub stands_refused : (s : Stop) (o o' : Output) → o.at ≡ 0 → Put (refused_line (refusal.number_of s.refusal) s.line) o o'
    → Stands (closing (number_of (code.Err s)) (text_line_of (code.Err s))) o'.at o'.bytes.now
stands_refused s o o' z p = record { counts = (stands_put o o' z p).counts; is = (stands_put o o' z p).is ∙ simp (some_number s.refusal) }

-- the bytes of the code
pub stands_long : (o o' : Output) → o.at ≡ 0 → Put (bytes "too long\n") o o' → Stands too_long o'.at o'.bytes.now
unfolding say
stands_long o o' z p = stands_put o o' z p

-- ---- the output

pub written_take : {bs s s' : List ℕ} → Claim.WritesOnly bs s s' → take (length bs) s' ≡ bs
written_take {bs} {s} {s'} w =
    ext_get_or 0 (take (length bs) s') bs (length-take-le (length bs) s' (omega (arith, w.fits, w.len)))
    (λ i l. let m : i < length bs = omega (arith, length-take-le (length bs) s' (omega (arith, w.fits, w.len))) in get_or-take (length bs) s' i 0 m ∙ w.is i m)

-- what is lent is what the slices have
pub lent_is : {l : Lent} {m : Slices} → Lends l m → lent_of m ≡ l
lent_is {l} {m} e = rw (e.sp, e.spp, e.states, e.members, e.transitions, e.pending, e.scratch, e.output)

-- ---- what is to be written

report_by : (b : Bool) (out line : List ℕ) → out ++ (if b then [] else line) ≡ (if b then out else (out ++ line))
report_by true out line = append-nil out
report_by false out line = refl

report_is : (r : Result) → r.output ++ closing r.number r.line ≡ report r
report_is r = report_by (eqb r.number 0) r.output (refused_line r.number r.line)

pub writes_over : {over : Bool} {book output s : List ℕ} {n : ℕ} → over ≡ true → Stands too_long n s → Prepared over book (record { output = 0; closing = n }) output s
writes_over {output = output} e t = record { output_counts = counts 0 output (omega arith); closing_counts = t.counts; is = t.is ∙ simp e }

-- the closing line is lent as `last`
pub writes_told : {over : Bool} {book last : List ℕ} {m m' : Slices} (number line len : ℕ) (s : List ℕ) {n : ℕ} → over ≡ false → Lends netcheck_lent m → EntrySpec (lent_of m) book m number line len m' → Stands (closing number line) n s
    → last ≡ s → Prepared over book (record { output = len; closing = n }) m'.output last
writes_told {over} {book} {last} {m} {m'} number line len s {n} o l e t same = rw same (record {
  output_counts = counts len m'.output (omega (arith, e.refines.length_is, e.refines.output_is.fits, e.refines.output_is.len));
  closing_counts = t.counts;
  is = both ∙ ap (λ (k : Lent). report (outcome k book)) (lent_is l) ∙ simp o;
})
  where
    start : take len m'.output ≡ (outcome (lent_of m) book).output
    start = ap (λ (k : ℕ). take k m'.output) e.refines.length_is ∙ written_take e.refines.output_is

    end : take n s ≡ closing (outcome (lent_of m) book).number (outcome (lent_of m) book).line
    end = t.is ∙ ap (λ (k : ℕ). closing k line) e.refines.number_is ∙ ap (λ (k : ℕ). closing (outcome (lent_of m) book).number k) e.refines.line_is

    both : take len m'.output ++ take n s ≡ report (outcome (lent_of m) book)
    both = ap (λ (a : List ℕ). a ++ take n s) start ∙ ap (λ (a : List ℕ). (outcome (lent_of m) book).output ++ a) end ∙ report_is (outcome (lent_of m) book)

-- The book is all of standard input, or its first 4,096 bytes: what is written is what 01 says of the whole.
pub whole_short : (book : List ℕ) → length book ≤ 4096 → writes false book ≡ netcheck_output book
whole_short book l = sym (simp (le-ltb 4096 (length book) l))

pub whole_long : (book rest : List ℕ) → length book ≡ 4096 → 0 < length rest → writes true book ≡ netcheck_output (book ++ rest)
whole_long book rest e l = sym (simp (lt-ltb 4096 (length (book ++ rest)) (omega (arith, length-append book rest))))
