-- What is asked of the tables: that they are in order, and that a state which is a relation has its handle.
use Rattle.std.specs.Prelude.{◌≡◌, List, ℕ, ◌+◌, ◌*◌, ◌≤◌, ◌<◌, length}
use Rattle.common.specs.Runs.{Table}
use Rattle.cache.specs.Cache.{Sound}
use Rattle.spp_steps.specs.Wf.{ValidAt}
use Rattle.aut_steps.specs.Tables.{Aut, kind_of, op1, SPP}
use Rattle.aut_steps.specs.Wf.{WfAut}
use Rattle.aut_states.specs.Clauses.{limits_of}
use Rattle.aut_states.specs.declared.Limits.{Limits}
use Rattle.aut_relations.specs.Behind.{LISTS, Readable, cached}

-- the tables are in order, the limits in range
pub record Ready (N : ℕ) (l : Limits) (σ : Aut) (s : List ℕ) : Type 0 where
  pub few : N ≤ 31
  pub good : WfAut N (limits_of l) σ
  pub room : LISTS ≤ length s
  pub sound : Sound (Readable N σ.nodes) (cached s)
  pub list : l.list ≤ 64
  pub products : l.products ≤ 32

-- state x is in the table; if it is a relation, its handle is in order
pub record RelAt (N : ℕ) (t : Table) (st : List ℕ) (x : ℕ) : Type 0 where
  pub state : 12 * x + 11 < length st
  pub handle : kind_of st x ≡ SPP → ValidAt t N (op1 st x)
