use Rattle.aut_sets.specs.Lent.{diagrams_in, OnlyScratch}
use Rattle.aut_why_hop.proofs.Hops as hops
use Rattle.aut_why_hop.proofs.hop.Given as goal

abbrev pub invariant-loop-i : goal.invariant-loop-i
invariant-loop-i l = record {
  keeps : OnlyScratch l.initial.aut l.aut;
  hops : hops.Hopping l.config.fields (diagrams_in l.initial.aut) l.initial.aut.states.words.now l.initial.aut.transitions.words.now l.packet l.list.start l.list.count l.initial.aut.scratch.now l.aut.scratch.now l.best l.i;
}
