-- 01, "Strings": what states and labels mean in the tables of aut.rs, and that the operations of Operations.antt do what their names say: so netkat's laws of the list
-- operations hold of them. Said of all tables since σ₀, which have grown, with words 4 to 11 of every state as they were: so every law hands that on.
use Rattle.std.specs.Prelude.{ℕ, ◌<◌}
use Rattle.netkat_steps.specs.ListSteps.{Readings}
use Rattle.spp_steps.specs.Wf.{Denotes}
use Rattle.aut_steps.specs.Tables.{Limits, Aut}
use Rattle.aut_steps.specs.Wf.{states, ExtAut, WfAut}
use Rattle.aut_steps.specs.StepSpec.{Memos}
use Rattle.aut_steps.specs.Meaning.{Holds}
use Rattle.aut_st_steps.specs.Operations.{ops}

module _ (N : ℕ) (L : Limits) where
  -- what is meant, with G for well-formed tables
  abbrev pub readings : (Aut → Type 0) → Readings N (ops N L)
  readings G = record {
    Good = G;
    Known = λ σ s. s < states σ;
    Holds = Holds N;
    IsLabel = λ σ l R. Denotes σ.nodes N l R;
  }

  -- the tables of aut.rs
  abbrev pub tables : Readings N (ops N L)
  tables = readings (WfAut N L)

  -- τ is in order and has come from σ₀, with nothing worked out in between
  pub record Since (σ₀ τ : Aut) : Type 0 where
    pub grown : ExtAut σ₀ τ
    pub memos : Memos σ₀ τ
    pub good : WfAut N L τ
