use mathlib.Core.Path.{refl}
use Rattle.std.specs.Prelude.{Ok, Err}
use Rattle.refusal.specs.declared.Refusal.TheVariants.{Spp}
use Rattle.refusal.proofs.Passed.{passed}
use Rattle.spp_steps.specs.Model as Spp
use Rattle.book_construct.proofs.Join.{did}
use Rattle.book_construct.proofs.field.Goals as goal

pub returns-in_err-test-in-Test-clause-gives : goal.returns-in_err-test-in-Test-clause-gives
unfolding Spp.test
returns-in_err-test-in-Test-clause-gives c = rw (passed c.from_residual.ensures) (did c.requires c.args.v c.in-Test.is _ refl (Err Spp) c.in_err-test-in-Test.ensures.gives)

pub returns-in_err-assign-in-Set-clause-gives : goal.returns-in_err-assign-in-Set-clause-gives
unfolding Spp.assign
returns-in_err-assign-in-Set-clause-gives c = rw (passed c.from_residual-in_err-assign-in-Set.ensures) (did c.requires c.args.v c.in-Set.is _ refl (Err Spp) c.in_err-assign-in-Set.ensures.gives)

pub returns-in_ok-test-in-Test-clause-gives : goal.returns-in_ok-test-in-Test-clause-gives
unfolding Spp.test
returns-in_ok-test-in-Test-clause-gives c = did c.requires c.args.v c.in-Test.is _ refl (Ok _) c.in_ok-test-in-Test.ensures.gives

pub returns-in_ok-assign-in-Set-clause-gives : goal.returns-in_ok-assign-in-Set-clause-gives
unfolding Spp.assign
returns-in_ok-assign-in-Set-clause-gives c = did c.requires c.args.v c.in-Set.is _ refl (Ok _) c.in_ok-assign-in-Set.ensures.gives
