-- What the answers say in the words of the steps, what is left of scratch, and what is asked.
use Rattle.std.specs.Prelude.{◌≡◌, Bool, ◌&&◌, List, ℕ, ◌+◌, ◌≤◌, ◌<◌, eqb, length, Option, Result, if◌then◌else◌}
use Rattle.common.specs.Outcome.{Step, ◌>>=◌}
use Rattle.common.specs.Runs.{Table}
use Rattle.refusal.specs.declared.Refusal.{Refusal}
use Rattle.refusal.specs.Numbers.{outcome}
use Rattle.spp_steps.specs.Wf.{ValidAt}
use Rattle.spp.specs.declared.SPP.{SPP}
use Rattle.aut_steps.specs.Tables.{INTERSECT, words, Aut, on_states, on_exprs}
use Rattle.aut_steps.specs.Tables.{Limits as Bounds}
use Rattle.aut_steps.specs.Intern.{intern_l}
use Rattle.aut_steps.specs.Relations as Rel
use Rattle.aut_steps.specs.Ascending.{All}
use Rattle.aut_steps.specs.Wf.{WfAut}
use Rattle.aut_steps.specs.Scratch.{Kept}
use Rattle.aut_steps.specs.Constructors as C
use Rattle.aut_steps.specs.Constructors.{met}
use Rattle.aut_states.specs.declared.Config.{Config}
use Rattle.aut_states.specs.Clauses.{limits_of}
use Rattle.aut_scratch.specs.declared.TheConstants.{SORTED}
use Rattle.aut_relations.specs.Behind.{LISTS}
use Rattle.aut_relations.specs.declared.Aut.{Aut as Lent}
use Rattle.aut_relations.specs.Lent.{nodes_in, aut_in}
use Rattle.aut_union.specs.Clauses.{handle_of, met_of}
use Rattle.aut_intersect_base.specs.declared.Met.{Met}

-- ---- the relations intersected, the other members at `to`

abbrev pub met_at : ℕ → List ℕ → ℕ → Met → C.Met
met_at N s to p = met_of N p.relation (words s to p.others)

-- ---- the end of an intersection

-- there is a relation, and it is zero
abbrev pub nothing_of : ℕ → Bool → ℕ → Bool
nothing_of N b h = b && eqb h (Rel.zero_at N)

-- no other members: the relation's state, or Top
abbrev pub alone_of : Bool → ℕ → Step Table ℕ
alone_of b h = if b then C.mk_spp h else C.mk_top

-- the list with the relation last
abbrev pub list_of : Bounds → Bool → ℕ → List ℕ → List ℕ → Step Aut ℕ
list_of L b h others xs = on_states (C.add_last (met b h others) xs) >>= λ ys. on_exprs (intern_l L INTERSECT ys)

-- ---- the list's state

-- the tables are in order, the k words at SORTED are states, and so is the relation
pub record FinishReady (c : Config) (x : Lent) (r : Option SPP) (k : ℕ) : Type 0 where
  pub fields : c.fields ≤ 31
  pub good : WfAut c.fields (limits_of c.limits) (aut_in x)
  pub handle : ValidAt (nodes_in x) c.fields (handle_of c.fields r)
  pub states : All (λ i. i < x.states.count) (words x.scratch.now SORTED k)
  pub few : k ≤ 64
  pub room : LISTS ≤ length x.scratch.now

-- of scratch, the word behind the list may be written
pub record Finishes (o : Step Aut ℕ) (x : Lent) (r : Result ℕ Refusal) (y : Lent) (k : ℕ) : Type 0 where
  pub is : o (aut_in x) ≡ outcome (λ i. i) r (aut_in y)
  pub kept : Kept (SORTED + k) 1 x.scratch.now y.scratch.now
