use Rattle.std.specs.Prelude.{Some}
use mathlib.Core.Path.{refl, ◌∙◌, ap}
use Rattle.refusal.specs.declared.Refusal.TheVariants as refusal
use Rattle.aut_union.proofs.Calls as calls
use Rattle.aut_union.proofs.Chain as chain
use Rattle.aut_union.proofs.mk_union_n.Goals as goal

pub returns-then-k-config-clause-gives : goal.returns-then-k-config-clause-gives
returns-then-k-config-clause-gives c =
    calls.not_done refusal.List (calls.too_many chain.of_list c.args.config c.args.aut.now c.args.from c.args.k c.if-k-config.true)

pub returns-then-k-eq1-clause-gives : goal.returns-then-k-eq1-clause-gives
returns-then-k-eq1-clause-gives c =
    calls.itself (calls.single chain.of_list c.args.config c.args.aut.now c.args.from c.args.k c.if-k-config.false c.if-k-eq1.true)

pub open_union-requires : goal.open_union-requires
open_union-requires c = chain.open_ready c.requires.0 c.requires.1

pub returns-in_err-opened-clause-gives : goal.returns-in_err-opened-clause-gives
returns-in_err-opened-clause-gives c =
    chain.too_long c.requires.0 c.requires.1 c.if-k-config.false c.if-k-eq1.false c.open_union.ensures c.in_err-opened.ensures.value c.from_residual.ensures

pub returns-in-Top-clause-gives : goal.returns-in-Top-clause-gives
returns-in-Top-clause-gives c =
    chain.meets_top c.requires.0 c.requires.1 c.if-k-config.false c.if-k-eq1.false c.open_union.ensures c.open_union.auto.scratch (c.in_ok-opened.ensures.ok_part ∙ ap Some c.in-Top.is) c.mk_top.new.self c.mk_top.ensures.gives refl refl

pub unite-requires : goal.unite-requires
unite-requires c =
    chain.unite_ready c.requires.0 c.requires.1 c.if-k-config.false c.if-k-eq1.false c.open_union.ensures c.open_union.auto.scratch (c.in_ok-opened.ensures.ok_part ∙ ap Some c.in-List.is) _ refl refl refl

pub returns-in-List-clause-gives : goal.returns-in-List-clause-gives
returns-in-List-clause-gives c =
    chain.united c.requires.0 c.requires.1 c.if-k-config.false c.if-k-eq1.false c.open_union.ensures c.open_union.auto.scratch (c.in_ok-opened.ensures.ok_part ∙ ap Some c.in-List.is) _ refl refl refl c.unite.ensures.gives
