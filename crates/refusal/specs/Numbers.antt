-- 01, "Who can cause a refusal", and 02 (ii): the numbers of refusals; and an answer of the code as an outcome.
use Rattle.std.specs.Prelude.{ℕ, Result, Ok, Err}
use Rattle.common.specs.Outcome.{Outcome, refused, given}
use Rattle.refusal.specs.declared.Refusal.{Refusal}
use Rattle.refusal.specs.declared.Refusal.TheVariants.{Header, Fields, Form, Name, Range, List, Products, Nesting, TransitionList, Sp, Spp, States, Members, Pending, Transitions, Scratch, Output, Block, Check, Record, Next}

abbrev pub number_of : Refusal → ℕ
number_of Header = 1
number_of Fields = 2
number_of Form = 3
number_of Name = 4
number_of Range = 5
number_of List = 6
number_of Products = 7
number_of Nesting = 8
number_of TransitionList = 9
number_of Sp = 20
number_of Spp = 21
number_of States = 22
number_of Members = 23
number_of Pending = 24
number_of Transitions = 25
number_of Scratch = 26
number_of Output = 27
number_of Block = 30
number_of Check = 31
number_of Record = 32
number_of Next = 33

-- an answer of the code and the store at exit: the value as the steps see it, or the refusal's number
abbrev pub outcome : {V Store A : Type 0} → (V → A) → Result V Refusal → Store → Outcome Store A
outcome see (Ok v) σ = given σ (see v)
outcome see (Err e) σ = refused (number_of e)
