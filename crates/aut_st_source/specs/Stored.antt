-- 01, port order, step 3 (delta): where the stored list of a state is.
use Rattle.std.specs.Prelude.{◌≡◌, List, ℕ, ◌+◌, ◌*◌, ◌<◌, length}
use Rattle.aut_delta_steps.specs.Delta.{start_of, count_of}
use Rattle.aut_st_source.specs.declared.Span.{Span}

pub record PreFind (st : List ℕ) (y : ℕ) : Type 0 where
  pub state : 12 * y + 11 < length st
  pub has : 0 < count_of st y

pub record PostFind (st : List ℕ) (y : ℕ) (p : Span) : Type 0 where
  pub start : start_of st y ≡ p.start
  pub count : count_of st y ≡ p.count + 1
