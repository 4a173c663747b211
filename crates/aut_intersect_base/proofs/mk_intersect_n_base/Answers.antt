use mathlib.Core.Path.{refl}
use native.Mathlib.Omega.{arith}
use Rattle.refusal.specs.declared.Refusal.TheVariants as refusal
use Rattle.aut_steps.specs.Constructors.{meet_opened}
use Rattle.aut_states.specs.Clauses.{limits_of}
use Rattle.aut_intersect_base.proofs.Chain.{opens}
use Rattle.aut_intersect_base.proofs.Opening as opening
use Rattle.aut_intersect_base.proofs.mk_intersect_n_base.Goals as goal

pub open-requires : goal.open-requires
open-requires c = opening.open_ready c.requires.0 c.requires.1 (omega arith)

pub returns-in_err-m-clause-gives : goal.returns-in_err-m-clause-gives
returns-in_err-m-clause-gives c =
    opening.too_long c.requires.0 c.requires.1 (omega arith) (meet_opened c.args.config.fields (limits_of c.args.config.limits)) (opens c.args.config c.args.aut.now c.args.from c.args.k) refusal.List refl c.«open».ensures c.in_err-m.ensures.value c.from_residual.ensures

pub meet-requires : goal.meet-requires
meet-requires c = opening.next_ready c.requires.0 c.requires.1 (omega arith) c.«open».ensures c.in_ok-m.ensures.ok_part c.«open».auto.scratch _ refl refl refl

pub returns-clause-gives : goal.returns-clause-gives
returns-clause-gives c =
    opening.next_done c.requires.0 c.requires.1 (omega arith) c.«open».ensures c.in_ok-m.ensures.ok_part c.«open».auto.scratch _ refl refl refl (meet_opened c.args.config.fields (limits_of c.args.config.limits)) (opens c.args.config c.args.aut.now c.args.from c.args.k) (omega arith) c.meet.ensures.gives
