-- What `?` hands on is the error that it met, where both are of one type.
use Rattle.std.proofs.Common.{◌≡◌, Result, Err, rules}
use Rattle.std.specs.Result.{IsErr, IsErrAnd}

pub passed : {A E : Type 0} {r : Result A E} {e : E} → IsErr r × IsErrAnd r (λ x. x ≡ e) → r ≡ Err e
passed p = search rules
