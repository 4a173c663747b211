use mathlib.Core.Path.{sym, ◌∙◌, ap, subst}
use Rattle.netkat_steps.specs.ListSteps.{Edge}
use Rattle.spp_steps.specs.Model as Spp
use Rattle.spp_steps.specs.Wf.{ValidAt}
use Rattle.aut_relations.specs.Lent.{nodes_in}
use Rattle.book_pruned.proofs.pair_at.Goals as goal

pub pairs-requires : goal.pairs-requires
pairs-requires c = let p = c.requires.0 in record {
  few = p.few;
  wf = p.wf;
  room = p.room;
  sound = p.sound;
  at_r = subst (λ (e : Edge). ValidAt (nodes_in c.args.aut.now) c.args.config.fields e.label) (sym c.transition_at-t.ensures) (p.labels _ c.requires.1);
}

pub returns-clause-is : goal.returns-clause-is
returns-clause-is c = record {
  target = ap (λ (e : Edge). e.target) c.transition_at-t.ensures;
  is = c.pairs.ensures.pairs.is ∙ ap (λ (e : Edge). Spp.size c.args.aut.now.spp.nodes.now c.args.config.fields e.label) c.transition_at-t.ensures;
  left = c.pairs.ensures.pairs.left;
}
