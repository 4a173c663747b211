-- What holds of the definitions of specs/Fits.
use mathlib.Core.Path.{refl, ◌∙◌, subst}
use mathlib.Core.List.{List}
use lib.Dec.{T}
use Prim.Native.Nat.{ℕ}
use native.Mathlib.Omega.{arith}
use Rattle.common.specs.Packets.{Relation}
use Rattle.common.specs.Outcome.{Outcome, Gives, refusal, gives}
use Rattle.common.specs.Runs.{Table, placed}
use Rattle.netkat.specs.Rules.{Language}
use Rattle.netkat.specs.Lists.{Transition, State}
use Rattle.netkat_steps.specs.ListSteps.{Edge, Readings, Later, MadeLabel, MadeState, LawfulOps, Are, none, also, IsList}
use Rattle.spp_steps.specs.Wf.{Denotes}
use Rattle.spp_steps.proofs.Laws.{den_ext, den_zero, agree}
use Rattle.aut_steps.specs.Tables.{Limits, Aut, put_nodes}
use Rattle.aut_steps.proofs.Languages.{≈-sym}
use Rattle.aut_steps.proofs.RelationLaws.{Makes}
use Rattle.aut_steps.specs.Wf.{WfAut}
use Rattle.aut_steps.proofs.Wf.{grown_refl, grown_trans, state_grown}
use Rattle.aut_steps.specs.StepSpec.{Gone}
use Rattle.aut_steps.proofs.StepSpec.{StepSpec, stops, comes}
use Rattle.aut_steps.proofs.Meaning.{Is, holds_grown}
use Rattle.aut_steps.proofs.StateLaws.{nodes_goes, zero_goes, mk_top_goes, mk_complement_goes, mk_difference_goes}
use Rattle.aut_steps.proofs.UnionLaws.{mk_union_goes}
use Rattle.aut_steps.proofs.IntersectLaws.{mk_intersect_goes}
use Rattle.aut_steps.proofs.SequenceLaws.{mk_sequence_goes}
use Rattle.aut_st_steps.specs.Operations.{ops}
use Rattle.aut_delta_steps.proofs.Labels.{union_makes, intersect_makes, difference_makes, sequence_makes, complement_makes}
use Rattle.aut_delta_steps.specs.Fits.{readings, Since}

module _ (N : ℕ) (L : Limits) where
  abbrev pub since : Aut → Readings N (ops N L)
  since σ₀ = readings N L (Since N L σ₀)

-- lists mean the same whatever tables are called well formed
module _ {N : ℕ} (L : Limits) {G H : Aut → Type 0} {σ : Aut} where
  are_as : {es : List Edge} {list : List (Transition State N)} → Are (readings N L G) σ es list → Are (readings N L H) σ es list
  are_as none = none
  are_as (also k i a) = also k i (are_as a)

  pub list_as : {A : Language N} {es : List Edge} → IsList (readings N L G) A σ es → IsList (readings N L H) A σ es
  list_as i = record { list = i.list; are = are_as i.are; delta = i.delta; ascending = i.ascending }

module _ {N : ℕ} {L : Limits} where
  pub since_refl : {σ : Aut} → WfAut N L σ → Since N L σ σ
  since_refl {σ} g = record { grown = grown_refl σ; memos = λ i w l m. refl; good = g }

  pub since_trans : {σ τ υ : Aut} → Since N L σ τ → Since N L τ υ → Since N L σ υ
  since_trans s t = record { grown = grown_trans s.grown t.grown; memos = λ i w l m. t.memos i w l m ∙ s.memos i w l m; good = t.good }

  pub since_gone : {A : Type 0} {P : Aut → A → Type 0} {σ τ : Aut} {a : A} → Gone N L P σ τ a → Since N L σ τ
  since_gone r = record { grown = r.grown; memos = r.memos; good = r.good }

  module _ {σ₀ : Aut} where
    -- what a step keeps
    later : {A : Type 0} {P : Aut → A → Type 0} {σ τ : Aut} {a : A} → Since N L σ₀ σ → Gone N L P σ τ a → Later (since N L σ₀) σ τ
    later s r = record {
      good = since_trans s (since_gone r);
      known = λ x l. state_grown r.grown l;
      same = λ x l. ≈-sym (holds_grown s.good r.grown l);
      label = λ h R d. den_ext r.grown.nodes d;
    }

    pub fits_state : {B : Language N} {σ : Aut} {o : Outcome Aut ℕ} → Since N L σ₀ σ → StepSpec N L (Is N B) σ o → Gives (MadeState (since N L σ₀) B σ) o
    fits_state s (stops w g y) = refusal
    fits_state s (comes r) = gives (record { later = later s r; known = r.holds.state; strings = r.holds.strings })

    pub fits_label : {R : Relation N} {σ : Aut} {o : Outcome Table ℕ} → Since N L σ₀ σ → Makes N R σ.nodes o → Gives (MadeLabel (since N L σ₀) R σ) (placed put_nodes σ o)
    fits_label {R} {σ} {o} s m = at (placed put_nodes σ o) (nodes_goes s.good m)
      where
        at : (o : Outcome Aut ℕ) → StepSpec N L (λ τ h. Denotes τ.nodes N h R) σ o → Gives (MadeLabel (since N L σ₀) R σ) o
        at _ (stops w g y) = refusal
        at _ (comes r) = gives (record { later = later s r; is = r.holds })

    pub fits : LawfulOps (since N L σ₀)
    fits = record {
      zero_is = λ s. den_zero s.good.nodes N (omega arith);
      zero_has_none = λ s d a h t. subst T (agree d (den_zero s.good.nodes N (omega arith)) refl a h) t;
      union_fits = λ s x y. fits_label s (union_makes s.good.nodes x y);
      intersect_fits = λ s x y. fits_label s (intersect_makes s.good.nodes x y);
      difference_fits = λ s x y. fits_label s (difference_makes s.good.nodes x y);
      sequence_fits = λ s x y. fits_label s (sequence_makes s.good.nodes x y);
      complement_fits = λ s x. fits_label s (complement_makes s.good.nodes x);
      mk_union_fits = λ x y s l m. fits_state s (mk_union_goes s.good l m);
      mk_intersect_fits = λ x y s l m. fits_state s (mk_intersect_goes s.good l m);
      mk_difference_fits = λ x y s l m. fits_state s (mk_difference_goes s.good l m);
      mk_sequence_fits = λ x y s l m. fits_state s (mk_sequence_goes s.good l m);
      mk_complement_fits = λ x s l. fits_state s (mk_complement_goes s.good l);
      mk_top_fits = λ s. fits_state s (mk_top_goes s.good);
      mk_zero_fits = λ s. fits_state s (zero_goes s.good);
    }
