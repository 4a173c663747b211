-- 01, port order, step 3 (ST operations): what aut.rs's operations on transition lists call on labels and states, for N fields. The constructors are
-- the smart ones, so a target may be a state that stands already; a list that passes the limit is refused with 9 (netkat's ListSteps).
use Rattle.std.specs.Prelude.{ℕ}
use Rattle.common.specs.Outcome.{Step}
use Rattle.common.specs.Runs.{Table}
use Rattle.netkat_steps.specs.ListSteps.{Operations}
use Rattle.spp_steps.specs.Model as Spp
use Rattle.aut_steps.specs.Relations as Rel
use Rattle.aut_steps.specs.Tables.{Limits, Aut, on_nodes, on_states}
use Rattle.aut_steps.specs.Constructors.{mk_spp, mk_top, mk_union, mk_intersect, mk_difference, mk_complement, mk_sequence}

-- the complement of a relation at the root
abbrev pub complement : ℕ → ℕ → Step Table ℕ
complement N a = Spp.complement N N a

abbrev pub ops : ℕ → Limits → Operations
ops N L = record {
  Store = Aut;
  zero = Rel.zero_at N;
  union = λ l m. on_nodes (Rel.union N l m);
  intersect = λ l m. on_nodes (Rel.intersect N l m);
  difference = λ l m. on_nodes (Rel.difference N l m);
  sequence = λ l m. on_nodes (Rel.sequence N l m);
  complement = λ l. on_nodes (complement N l);
  mk_union = mk_union N L;
  mk_intersect = mk_intersect N L;
  mk_difference = mk_difference N L;
  mk_sequence = mk_sequence N L;
  mk_complement = λ x. on_states (mk_complement N L x);
  mk_top = on_states mk_top;
  mk_zero = on_states (mk_spp (Rel.zero_at N));
  limit = L.transitions;
}
