use mathlib.Core.Path.{◌≡◌, refl, ◌∙◌, ap, sym}
use native.Mathlib.Omega.{arith}
use Rattle.slices.proofs.Same.{slice_refl}
use Rattle.spp_steps.specs.Model.{zero_at}
use Rattle.spp.specs.declared.SPP.{SPP}
use Rattle.spp.specs.Clauses.{store_of, columns, beside}
use Rattle.spp.proofs.Calls.{same_trans, refused_on}
use Rattle.spp.proofs.Rising as rising
use Rattle.spp.proofs.SPPstore.column.Goals.{After-mk, then-diagonal, else-diagonal}
use Rattle.spp.proofs.SPPstore.column.Goals as goal

side : (c : After-mk) → beside c.args.diagonal c.loop-below.x.0 (zero_at c.args.self.now.fields c.loop-below.below) ≡ c.if-diagonal.side.0
side c =
    let x = c.loop-below.x.0 in
    let z = zero_at c.args.self.now.fields c.loop-below.below in
    elim c.if-diagonal.branch [
      | then-diagonal w ↦ ap (λ b. beside b x z) w.if-diagonal.true ∙ w.zero_at_depth-side.ensures c.args.self.now.fields ∙ sym (ap (λ (s : SPP). s.0) w.side-is)
      | else-diagonal w ↦ ap (λ b. beside b x z) w.if-diagonal.false ∙ sym (ap (λ (s : SPP). s.0) w.side-is)
    ]

pub loop-below-init : goal.loop-below-init
loop-below-init c = record {
  same = record { nodes = slice_refl c.args.self.now.nodes; fields = refl };
  so_far = rising.columns_none c.args.self.now.fields c.args.diagonal c.args.base.0 (store_of c.args.self.now);
}

pub mk-requires : goal.mk-requires
mk-requires c = rising.columns_fits c.args.self.now.fields c.loop-below.below c.requires (omega arith) c.loop-below.invariant.so_far

pub returns-in_err-x-clause-gives : goal.returns-in_err-x-clause-gives
returns-in_err-x-clause-gives c =
    let s = c.args.self.now in
    let e = rising.columns_then s.fields c.args.diagonal c.args.base.0 (store_of s) c.loop-below.below c.loop-below.invariant.so_far
    (side (goal.at.returns-in_err-x-clause-gives c).After-mk) c.in_err-x.ensures.gives in
    refused_on _ (store_of c.mk.new.self) c.from_residual.ensures.0
    (rising.columns_stuck s.fields c.args.diagonal c.args.base.0 (store_of s) c.loop-below.below s.fields c.loop-below-test.true e)

pub loop-below-preserved : goal.loop-below-preserved
loop-below-preserved c = record {
  same = same_trans c.loop-below.invariant.same c.mk.ensures.same_store;
  so_far = rising.columns_then c.args.self.now.fields c.args.diagonal c.args.base.0 (store_of c.args.self.now) c.loop-below.below c.loop-below.invariant.so_far
      (side (goal.at.loop-below-preserved c).After-mk) c.in_ok-x.ensures.gives;
}

pub returns-clause-gives : goal.returns-clause-gives
returns-clause-gives c =
    let s = c.args.self.now in
    ap (λ D. columns s.fields c.args.diagonal c.args.base.0 D (store_of s)) {x = s.fields} {y = c.loop-below.below} (omega arith) ∙ c.loop-below.invariant.so_far
