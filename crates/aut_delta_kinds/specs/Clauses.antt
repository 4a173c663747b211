-- 01, port order, step 3 (delta): what putting a state's list together, from the stored lists of its operands, asks.
use Rattle.std.specs.Prelude.{◌≡◌, List, ℕ, ◌≤◌, ◌<◌}
use Rattle.common.specs.Outcome.{Step}
use Rattle.netkat_steps.specs.ListSteps.{Edge}
use Rattle.aut_steps.specs.Tables.{XOR, COMPLEMENT, SEQUENCE, STAR, DUP, NEXT, UNTIL, Aut}
use Rattle.aut_steps.specs.Ascending.{All}
use Rattle.aut_steps.specs.Wf.{states, kind, first, second, members}
use Rattle.aut_delta_steps.specs.Epsilon.{value_of}
use Rattle.aut_delta_steps.specs.Delta.{Store, list_at}
use Rattle.aut_delta_steps.specs.DeltaReads.{list_operands, together_with}
use Rattle.aut_delta_steps.specs.DeltaDown.{Has}
use Rattle.aut_delta_steps.specs.EpsilonDown.{Known}
use Rattle.aut_states.specs.Clauses.{limits_of}
use Rattle.aut_states.specs.declared.Config.{Config}
use Rattle.aut_states.specs.declared.Limits.{Limits}
use Rattle.aut_relations.specs.declared.Aut.{Aut as Lent}
use Rattle.aut_delta_stage.specs.OnTables.{store_in, Prepared}

pub record PreTogether (N : ℕ) (l : Limits) (σ : Store) (s : List ℕ) (x : ℕ) : Type 0 where
  pub prepared : Prepared N l σ s
  pub limit : l.transitions ≤ 64
  pub has : x < states σ.aut
  pub lists : All (Has σ) (list_operands σ x)
  pub known : SEQUENCE ≤ kind σ.aut x → kind σ.aut x ≤ STAR → Known σ.aut.states.words (first σ.aut x)

pub record TogetherAsked (k : Config) (x : Lent) (i : ℕ) : Type 0 where
  pub fields : x.spp.fields ≡ k.fields
  pub ready : PreTogether k.fields k.limits (store_in x) x.scratch.now i

-- the kinds of two stored lists
pub record Two (k : ℕ) : Type 0 where
  pub from : XOR ≤ k
  pub to : k ≤ UNTIL
  pub complement : k ≡ COMPLEMENT → ⊥
  pub star : k ≡ STAR → ⊥
  pub dup : k ≡ DUP → ⊥
  pub next : k ≡ NEXT → ⊥

-- the step on the constructors' tables, for what the tables σ have
abbrev pub together_of : ℕ → Limits → Store → ℕ → Step Aut (List Edge)
together_of N l σ x = together_with N (limits_of l) (list_at σ) (value_of σ.aut.states.words (first σ.aut x)) (kind σ.aut x) x (members σ.aut x) (first σ.aut x) (second σ.aut x)
