use mathlib.Core.Path.{refl}
use Rattle.spp_least.proofs.First as first
use Rattle.spp_least.proofs.+least.Goals as goal

pub returns-then-is_zero : goal.returns-then-is_zero
returns-then-is_zero t c = first.empty c.requires c.if-is_zero.ensures

pub returns-then-depth-eq0 : goal.returns-then-depth-eq0
returns-then-depth-eq0 t c = first.full c.requires c.if-is_zero.ensures c.if-depth-eq0.true

pub least-requires : goal.least-requires
least-requires t c = first.asked_0 c.requires c.if-depth-eq0.false c.get-p.ensures c.decreases

pub least-requires-in-None : goal.least-requires-in-None
least-requires-in-None t c = first.asked_1 c.requires c.if-depth-eq0.false c.get-p.ensures c.decreases

pub raise-requires : goal.raise-requires
raise-requires t c = first.small c.requires c.if-depth-eq0.false c.get-p.ensures c.least.ensures c.least-in-None.ensures

pub returns-in-None : goal.returns-in-None
returns-in-None t c = first.next c.requires c.if-depth-eq0.false c.get-p.ensures c.in-None.ensures c.least-in-None.ensures refl c.raise.ensures

pub returns-in_default : goal.returns-in_default
returns-in_default t c = first.found c.requires c.if-depth-eq0.false c.get-p.ensures c.least.ensures (first.is_one _ c.in_default.not-None)
