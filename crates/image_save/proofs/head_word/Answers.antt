use native.Mathlib.Omega.{arith}
use mathlib.Core.Path.{refl}
use Rattle.image_save.proofs.Body as body
use Rattle.image_save.proofs.head_word.Goals as goal

pub returns-in-0 : goal.returns-in-0
returns-in-0 c = body.head_is c.args.h c.args.j 0 _ c.in-0.is refl

pub returns-in-1 : goal.returns-in-1
returns-in-1 c = body.head_is c.args.h c.args.j 1 _ c.in-1.is refl

pub returns-in-2 : goal.returns-in-2
returns-in-2 c = body.head_is c.args.h c.args.j 2 _ c.in-2.is refl

pub returns-in-3 : goal.returns-in-3
returns-in-3 c = body.head_is c.args.h c.args.j 3 _ c.in-3.is refl

pub returns-in-4 : goal.returns-in-4
returns-in-4 c = body.head_is c.args.h c.args.j 4 _ c.in-4.is refl

pub returns-in-5 : goal.returns-in-5
returns-in-5 c = body.head_is c.args.h c.args.j 5 _ c.in-5.is refl

pub returns-in-6 : goal.returns-in-6
returns-in-6 c = body.head_is c.args.h c.args.j 6 _ c.in-6.is refl

pub returns-in-7 : goal.returns-in-7
returns-in-7 c = body.head_is c.args.h c.args.j 7 _ c.in-7.is refl

pub returns-in_default : goal.returns-in_default
returns-in_default c = body.head_over c.args.h c.args.j (omega arith)
