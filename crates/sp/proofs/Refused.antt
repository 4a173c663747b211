-- What `?` returns.
use Rattle.std.proofs.Common.{◌≡◌, List, ℕ, Result}
use Rattle.std.specs.Result.{IsErr, IsErrAnd}
use Rattle.std.proofs.lemmas.Result.{err_from_is_err_and}
use Rattle.common.specs.Outcome.{Outcome, Step, refused}
use Rattle.common.specs.Runs.{Table}
use Rattle.sp.specs.declared.SP.{SP}
use Rattle.sp.specs.declared.Full.{Full}
use Rattle.sp.specs.Clauses.{seen, Answer}

pub refused_seen : (r : Result SP Full) {e : Full} {o : Outcome Table ℕ} (τ : Table) → IsErr r × IsErrAnd r (λ x. x ≡ e) → o ≡ refused 20 → o ≡ seen r τ
refused_seen r τ p q = rw ((err_from_is_err_and r p.1).1) q

pub refused_answer : {r : Result SP Full} {e : Full} {c : Step Table ℕ} {σ τ : Table} {m m' : List ℕ} → IsErr r × IsErrAnd r (λ x. x ≡ e) → c σ ≡ refused 20 → Answer c σ m r τ m'
refused_answer {r} p q = rw ((err_from_is_err_and r p.1).1) (record { gives = q; notes = tt })
