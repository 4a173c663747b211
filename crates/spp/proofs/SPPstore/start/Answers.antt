use mathlib.Core.Path.{◌≡◌}
use Rattle.std.specs.Prelude.{Result, Ok, Err, IsErr}
use Rattle.common.specs.Outcome.{Outcome, refused}
use Rattle.common.specs.Runs.{Table, table}
use Rattle.spp_steps.specs.Model as M
use Rattle.spp_steps.proofs.Laws.{false_true}
use Rattle.spp.specs.declared.Constants.{Constants}
use Rattle.spp.specs.declared.Full.{Full}
use Rattle.spp.specs.Clauses.{store_of, seen_start}
use Rattle.spp.proofs.Rising as rising
use Rattle.spp.proofs.SPPstore.start.Goals as goal

refused_at : (r : Result Constants Full) (τ : Table) {o : Outcome Table M.Constants} → IsErr r → o ≡ refused 21 → o ≡ seen_start r τ
refused_at (Ok c) τ p e = absurd (false_true p)
refused_at (Err x) τ p e = e

pub returns-in_err-zero-clause-gives : goal.returns-in_err-zero-clause-gives
returns-in_err-zero-clause-gives c =
    refused_at _ (store_of c.column.new.self) c.from_residual.ensures.0
    (rising.start_1 c.args.self.now.fields (table c.args.self.now.nodes.now 0) c.in_err-zero.ensures.gives)

pub column-requires-2 : goal.column-requires-2
column-requires-2 c = rising.asked_2 c.args.self.now.fields c.args.self.now.nodes.now c.requires c.in_ok-zero.ensures.gives c.column.ensures.same_store.fields

pub returns-in_err-one-clause-gives : goal.returns-in_err-one-clause-gives
returns-in_err-one-clause-gives c =
    refused_at _ (store_of c.column-2.new.self) c.from_residual-in_err-one.ensures.0
    (rising.start_2 c.args.self.now.fields (table c.args.self.now.nodes.now 0) c.in_ok-zero.ensures.gives c.column.ensures.same_store.fields c.in_err-one.ensures.gives)

pub column-requires-3 : goal.column-requires-3
column-requires-3 c =
    rising.asked_3 c.args.self.now.fields c.args.self.now.nodes.now c.requires c.in_ok-zero.ensures.gives c.column.ensures.same_store.fields
    c.in_ok-one.ensures.gives c.column-2.ensures.same_store.fields

pub returns-in_err-top-clause-gives : goal.returns-in_err-top-clause-gives
returns-in_err-top-clause-gives c =
    refused_at _ (store_of c.column-3.new.self) c.from_residual-in_err-top.ensures.0
    (rising.start_3 c.args.self.now.fields (table c.args.self.now.nodes.now 0) c.in_ok-zero.ensures.gives c.column.ensures.same_store.fields
    c.in_ok-one.ensures.gives c.column-2.ensures.same_store.fields c.in_err-top.ensures.gives)

pub returns-clause-gives : goal.returns-clause-gives
returns-clause-gives c =
    rising.start_4 c.args.self.now.fields (table c.args.self.now.nodes.now 0) c.in_ok-zero.ensures.gives c.column.ensures.same_store.fields
    c.in_ok-one.ensures.gives c.column-2.ensures.same_store.fields c.in_ok-top.ensures.gives
