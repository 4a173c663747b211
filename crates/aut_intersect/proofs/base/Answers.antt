use mathlib.Core.Path.{refl}
use Rattle.aut_intersect.proofs.Turns as turns
use Rattle.aut_intersect.proofs.base.Goals as goal

pub product-requires : goal.product-requires
product-requires c = turns.product_ready c.requires

pub mk_intersect_n_base-requires : goal.mk_intersect_n_base-requires
mk_intersect_n_base-requires c = turns.base_asked c.requires refl refl c.product.ensures c.product.auto.scratch

pub returns-clause-gives : goal.returns-clause-gives
returns-clause-gives c = turns.base_done c.requires refl refl c.product.ensures c.product.auto.scratch c.mk_intersect_n_base.ensures.gives
