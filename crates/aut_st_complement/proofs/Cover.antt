-- The labels united: a loop over a source.
use mathlib.Core.Path.{◌≡◌, refl, subst}
use mathlib.Core.List.{List}
use Prim.Native.Nat.{ℕ}
use native.Mathlib.Omega.{arith}
use Rattle.std.specs.Prelude.{Result}
use Rattle.refusal.specs.declared.Refusal.{Refusal}
use Rattle.common.specs.Outcome.{Step}
use Rattle.netkat_steps.specs.ListSteps as St
use Rattle.netkat_steps.specs.ListSteps.{Edge}
use Rattle.spp.specs.declared.SPP.{SPP}
use Rattle.aut_steps.specs.Tables.{Aut, on_nodes}
use Rattle.aut_steps.specs.Relations as Rel
use Rattle.aut_st_steps.specs.Operations.{ops}
use Rattle.aut_st_steps.specs.Edges.{EdgeAt}
use Rattle.aut_st_steps.specs.ListSpec.{Label}
use Rattle.aut_st_steps.proofs.ListSpec.{zero_label, relation_of, union_goes}
use Rattle.aut_states.specs.Clauses.{limits_of}
use Rattle.aut_states.specs.declared.Config.{Config}
use Rattle.aut_relations.specs.declared.Aut.{Aut as Lent}
use Rattle.aut_relations.specs.Lent.{nodes_in, aut_in, KeepsExprs, Does, Asked, Handles}
use Rattle.aut_stage.specs.OnLent.{Goes}
use Rattle.aut_stage.proofs.OnLent.{related}
use Rattle.aut_stage.proofs.Rule.{Folds}
use Rattle.aut_st_source.specs.declared.Source.{Source}
use Rattle.aut_st_stage.proofs.Turns.{TurningIn, turn_begin_in}
use Rattle.aut_st_each.proofs.Join.{handles}
use Rattle.aut_st_each.specs.Asked.{OneAsked}

module _ (k : Config) where
  abbrev pub cover_one : Edge → ℕ → Step Aut ℕ
  cover_one e h = on_nodes (Rel.union k.fields h e.label)

  abbrev pub cover : List Edge → ℕ → Step Aut ℕ
  cover es h = St.cover_all (ops k.fields (limits_of k.limits)) es h

  cover_folds : Folds cover_one cover
  unfolding St.cover_all
  cover_folds = record { none = λ h σ. refl; some = λ e es h σ. refl }

-- i labels are united, in h
abbrev pub Covered : Config → Source → Lent → Lent → ℕ → ℕ → Type 0
Covered k x b now h i = TurningIn 0 0 k (Label k.fields) (cover_one k) (cover k) x b (Rel.zero_at k.fields) now h i

pub cover_begin : {k : Config} {x : Source} {b : Lent} → OneAsked k b x → {h : ℕ} → Rel.zero_at k.fields ≡ h → Covered k x b b h 0
cover_begin {k} {x} {b} R e = subst (λ (h : ℕ). Covered k x b b h 0) e (turn_begin_in (record { from = omega arith; to = omega arith }) (cover_folds k) R.walked R.asked (zero_label R.asked.ready.good))

-- h and the label of a transition
module _ {k : Config} {now : Lent} (R : Asked k now) {h : ℕ} (holds : Label k.fields (aut_in now) h) {e : Edge} (p : EdgeAt k.fields (aut_in now) e) where
  pub both_labels : Handles k.fields now h e.label
  both_labels = handles R holds.at p.relation

  pub united : {r : Result SPP Refusal} {next : Lent} → KeepsExprs now next → Does k.fields 0 0 nodes_in (λ h. h.0) (Rel.union k.fields h e.label) now r next → Goes k 0 0 (Label k.fields) (λ h. h.0) (cover_one k e h) now r next
  united K D = related R K (union_goes R.ready.good holds (relation_of p)) D
