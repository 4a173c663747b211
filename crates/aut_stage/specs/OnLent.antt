-- All tables that are lent as a layer of the rule: nodes, states and members, which the constructors and the lists of transitions change. Words 4 to 11 of every state are kept.
use Rattle.std.specs.Prelude.{ℕ, Result}
use Rattle.common.specs.Outcome.{Step}
use Rattle.refusal.specs.declared.Refusal.{Refusal}
use Rattle.aut_steps.specs.Tables.{Aut}
use Rattle.aut_steps.specs.Wf.{ExtAut}
use Rattle.aut_steps.specs.StepSpec.{Memos}
use Rattle.aut_states.specs.declared.Config.{Config}
use Rattle.aut_states.specs.declared.Limits.{Limits}
use Rattle.aut_relations.specs.Behind.{LISTS, Modifies}
use Rattle.aut_relations.specs.Clauses.{Ready}
use Rattle.aut_relations.specs.declared.Aut.{Aut as Lent}
use Rattle.aut_relations.specs.Lent.{aut_in}
use Rattle.aut_stage.specs.Rule.{Layer, Post}

-- later tables: grown, and words 4 to 11 of every state are as they were
pub record Onward (σ τ : Aut) : Type 0 where
  pub grown : ExtAut σ τ
  pub memos : Memos σ τ

abbrev pub lent_layer : ℕ → Limits → Layer
lent_layer N l = record { Store = Aut; Ext = Onward; Frame = λ a n σ s s'. Modifies N a n σ.nodes s s'; Ready = λ σ s. Ready N l σ s; lists = LISTS }

-- What a function on all tables promises, with the tables x before and y after: the steps o come to the answer r, its value seen by `see`; and unless refused, P holds of it, the tables have grown and are
-- in order, and of the lists in scratch only the n words from a on were written.
pub record Goes (k : Config) (a n : ℕ) {V A : Type 0} (P : Aut → A → Type 0) (see : V → A) (o : Step Aut A) (x : Lent) (r : Result V Refusal) (y : Lent) : Type 0 where
  pub post : Post (lent_layer k.fields k.limits) a n P see (o (aut_in x)) (aut_in x) r (aut_in y) x.scratch.now y.scratch.now
