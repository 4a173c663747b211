-- 01, "Strings": epsilon is the relation of a state's strings without hops. The law of `epsilon`: unless a relation node is lacking (21) it gives a handle of that relation and
-- keeps it, writes only words 4 that were not worked out, and what is worked out stays true. Any depth of its calls from the nesting on does the same, so it is the Rust's function that calls itself.
use Rattle.std.specs.Prelude.{ℕ}
use Rattle.netkat.specs.Rules.{Language}
use Rattle.aut_steps.specs.Tables.{Limits, Aut}
use Rattle.aut_steps.specs.Wf.{WfAut}
use Rattle.aut_steps.specs.Meaning.{Holds}
use Rattle.aut_delta_steps.specs.Noted.{Noted}
use Rattle.aut_delta_steps.specs.Wf.{Means, Epsilons, Valued}

-- ---- what a run comes to

module _ (N : ℕ) (L : Limits) where
  -- it has given a handle of the relation of A's strings without hops
  pub record Found (A : Language N) (σ τ : Aut) (e : ℕ) : Type 0 where
    pub noted : Noted σ τ
    pub good : WfAut N L τ
    pub epsilons : Epsilons N τ
    pub means : Means N τ.nodes e A

  -- .. of state x, and it is kept
  pub record Epsiloned (x : ℕ) (σ τ : Aut) (e : ℕ) : Type 0 where
    pub found : Found (Holds N σ x) σ τ e
    pub value : Valued τ x e

  -- tables in order, with what is worked out
  pub record Ready (σ : Aut) : Type 0 where
    pub good : WfAut N L σ
    pub epsilons : Epsilons N σ
