-- `empty`: its step and its answer's line, put together.
use Rattle.std.specs.Prelude.{Result, Ok}
use mathlib.Core.Path.{ap}
use mathlib.Core.List.{List}
use Prim.Native.Nat.{ℕ}
use Rattle.common.specs.Outcome.{Outcome, given, after}
use Rattle.refusal.specs.declared.Refusal.{Refusal}
use Rattle.netkat.specs.Search as Plain
use Rattle.aut_query_steps.specs.Tables.{Tables}
use Rattle.book_steps.specs.Answers.{empty_answer}
use Rattle.book_steps.specs.Reader as Reader
use Rattle.aut_relations.specs.declared.Aut.{Aut as Lent}
use Rattle.aut_query_stage.specs.Layer.{Zeroed}
use Rattle.aut_empty.specs.Clauses.{Empties}
use Rattle.book_writer.specs.Clauses.{Answers, verdict_of}
use Rattle.book_writer.specs.declared.output.Output.{Output}
use Rattle.book_writer.specs.declared.Verdict.{Verdict}
use Rattle.book_memory.specs.declared.Setting.{Setting}
use Rattle.book_ask.specs.Clauses.{PostAsk}
use Rattle.book_ask.proofs.Join.{ask_told}

-- ---- `empty`

abbrev tells_empty : List ℕ → Outcome Tables (Plain.Verdict × ℕ) → Outcome Tables (List ℕ)
tells_empty name o = after o (λ v τ. given τ (empty_answer name v.0 v.1))

module _ (S : Setting) (x : ℕ) {a b : Lent} where
  pub empty_told : {v : Verdict} {k : ℕ} → Empties S.config S.budget x a (Ok (v, k)) b → Zeroed b.pending.now
      → {name : List ℕ} {o o' : Output} (r : Result Unit Refusal) → Answers (empty_answer name (verdict_of v) k) o r o' → PostAsk S Reader.empty name x r a b o o'
  empty_told G z {name} {o} r u = ask_told S Reader.empty name x a o (ap (tells_empty name) G.post.is) G.post.then.ext G.post.then.ready z r u
