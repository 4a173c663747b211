-- What `.map_err(..)?` hands on, and what it lets through.
use Rattle.std.proofs.Common.{◌≡◌, refl}
use Rattle.std.specs.Prelude.{Result, Ok, Err, MatchResult}

-- r was this error, of which was made what Q says
pub record Made {A E : Type 0} (r : Result A E) (Q : E → Type 0) : Type 0 where
  pub error : E
  pub was : r ≡ Err error
  pub is : Q error

pub mapped : {A E F : Type 0} (r : Result A E) (s : F) (Q : E → Type 0) → MatchResult r (λ v. ◌≡◌ {A = Result A F} (Err s) (Ok v)) Q → Made r Q
mapped (Ok v) s Q m = absurd (cc)
mapped (Err e) s Q m = record { error = e; was = refl; is = m }

pub through : {A E : Type 0} (F : Type 0) {x : A} (r : Result A E) → MatchResult r (λ v. ◌≡◌ {A = Result A F} (Ok x) (Ok v)) (λ e. ⊥) → r ≡ Ok x
through F (Ok v) m = cc
through F (Err e) m = absurd m
