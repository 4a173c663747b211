use mathlib.Core.Path.{refl}
use Rattle.refusal.specs.declared.Refusal.TheVariants as refusal
use native.Mathlib.Omega.{arith}
use Rattle.aut_union.proofs.Calls as calls
use Rattle.aut_intersect_base.proofs.Opening.{open_ready}
use Rattle.aut_intersect.proofs.Chain as chain
use Rattle.aut_intersect.proofs.mk_intersect_n.Goals as goal

pub returns-then-k-config-clause-gives : goal.returns-then-k-config-clause-gives
returns-then-k-config-clause-gives c =
    calls.not_done refusal.List (calls.too_many chain.of_list c.args.config c.args.aut.now c.args.from c.args.k c.if-k-config.true)

pub returns-then-k-eq1-clause-gives : goal.returns-then-k-eq1-clause-gives
returns-then-k-eq1-clause-gives c =
    calls.itself (calls.single chain.of_list c.args.config c.args.aut.now c.args.from c.args.k c.if-k-config.false c.if-k-eq1.true)

pub open-requires : goal.open-requires
open-requires c = open_ready c.requires.0 c.requires.1 (omega arith)

pub returns-in_err-m-clause-gives : goal.returns-in_err-m-clause-gives
returns-in_err-m-clause-gives c = chain.too_long c.requires.0 c.requires.1 c.if-k-config.false c.if-k-eq1.false c.«open».ensures c.in_err-m.ensures.value c.from_residual.ensures

pub distribute-requires : goal.distribute-requires
distribute-requires c = chain.distribute_asked c.requires.0 c.requires.1 c.if-k-config.false c.if-k-eq1.false c.«open».ensures c.in_ok-m.ensures.ok_part c.«open».auto.scratch _ refl refl refl

pub returns-clause-gives : goal.returns-clause-gives
returns-clause-gives c =
    chain.distributed c.requires.0 c.requires.1 c.if-k-config.false c.if-k-eq1.false c.«open».ensures c.in_ok-m.ensures.ok_part c.«open».auto.scratch _ refl refl refl c.distribute.ensures.gives
