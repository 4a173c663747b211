use mathlib.Core.Path.{◌∙◌, ap, sym}
use native.Mathlib.Omega.{arith}
use Prim.Native.Nat.{◌-◌}
use Rattle.spp_steps.specs.Model.{mk, Quad}
use Rattle.spp.specs.Clauses.{store_of, entry_of}
use Rattle.spp.proofs.Calls.{refused_on}
use Rattle.spp.proofs.Rising as rising
use Rattle.spp.proofs.SPPstore.+field.Goals as goal

pub returns-then-var-eq0-clause-gives : goal.returns-then-var-eq0-clause-gives
returns-then-var-eq0-clause-gives t c =
    let s = c.args.self.now in
    rising.field_here s.fields (entry_of c.args.assigned c.args.value) c.args.depth c.args.var (store_of s) c.requires.below c.if-var-eq0.true
    c.one_at_depth-one.ensures (c.zero_at_depth-zero.ensures s.fields) (ap (λ (X : Quad). mk X (store_of s)) (sym c.entry.ensures) ∙ c.mk.ensures.gives)

pub returns-in_err-x-clause-gives : goal.returns-in_err-x-clause-gives
returns-in_err-x-clause-gives t c =
    let s = c.args.self.now in
    refused_on _ (store_of c.field.new.self) c.from_residual.ensures.0
    (rising.field_stuck s.fields (entry_of c.args.assigned c.args.value) c.args.depth c.args.var (store_of s) c.requires.below c.if-var-eq0.false c.in_err-x.ensures.gives)

pub mk-requires-2 : goal.mk-requires-2
mk-requires-2 t c =
    rising.field_fits c.args.self.now.fields c.args.assigned c.args.value (c.args.depth - 1) (c.args.var - 1) c.requires.wf
    (omega (arith, c.requires.deep)) (omega (arith, c.requires.below, c.if-var-eq0.false)) c.in_ok-x.ensures.gives

pub returns-clause-gives : goal.returns-clause-gives
returns-clause-gives t c =
    let s = c.args.self.now in
    rising.field_then s.fields (entry_of c.args.assigned c.args.value) c.args.depth c.args.var (store_of s) c.requires.below c.if-var-eq0.false
    c.in_ok-x.ensures.gives (c.zero_at_depth-zero.ensures s.fields) c.mk-2.ensures.gives
