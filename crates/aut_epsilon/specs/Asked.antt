-- epsilon on all tables that are lent: what is asked, and what holds of the tables after it.
use Rattle.std.specs.Prelude.{◌≡◌, ℕ, ◌<◌, Result, Ok, Err}
use Rattle.refusal.specs.declared.Refusal.{Refusal}
use Rattle.spp.specs.declared.SPP.{SPP}
use Rattle.aut_steps.specs.Ascending.{All}
use Rattle.aut_delta_steps.specs.EpsilonReads.{operands_of}
use Rattle.aut_delta_steps.specs.EpsilonDown.{Known, Open}
use Rattle.aut_delta_steps.specs.Wf.{Epsilons}
use Rattle.aut_states.specs.declared.Limits.{Limits}
use Rattle.aut_relations.specs.Clauses.{Ready}
use Rattle.aut_relations.specs.declared.Aut.{Aut as Lent}
use Rattle.aut_relations.specs.Lent.{aut_in}
use Rattle.aut_epsilon.specs.Clauses.{After}

-- tables in order, for some limits, and what is worked out is true; i is a state
pub record EpsilonAsked (N : ℕ) (x : Lent) (i : ℕ) : Type 0 where
  pub limits : Limits
  pub fields : x.spp.fields ≡ N
  pub ready : Ready N limits (aut_in x) x.scratch.now
  pub epsilons : Epsilons N (aut_in x)
  pub has : i < x.states.count

-- .. one that is not worked out, whose operands all are
pub record FinishAsked (N : ℕ) (x : Lent) (i : ℕ) : Type 0 where
  pub asked : EpsilonAsked N x i
  pub not_yet : Open x.states.words.now i
  pub known : All (Known x.states.words.now) (operands_of x.states.words.now x.members.words.now i)

-- from x it has come to y, with the answer r: unless refused, whatever the limits are for which the tables were in order, they still are, and the law of epsilon holds
abbrev pub Later : ℕ → ℕ → Lent → Result SPP Refusal → Lent → Type 0
Later N i x (Ok h) y = (l : Limits) → Ready N l (aut_in x) x.scratch.now → After N l i (aut_in x) (aut_in y) y.scratch.now h.0
Later N i x (Err e) y = Unit
