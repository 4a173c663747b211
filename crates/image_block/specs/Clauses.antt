-- 02 (ii): "30 for a wrong number, 31 for a wrong check": what an answer says in the words of image_form.
use Rattle.std.proofs.Math.Option.{Option, none, some}
use Rattle.std.specs.Prelude.{ℕ, Result, Ok, Err}
use Rattle.refusal.specs.declared.Refusal.{Refusal}
use Rattle.refusal.specs.Numbers.{number_of}

-- the number with which a block is refused
abbrev pub looked_of : Result Unit Refusal → Option ℕ
looked_of (Ok u) = none
looked_of (Err e) = some (number_of e)
