-- What holds of the definitions of specs/EachSteps.
use Prim.Native.Nat.{ℕ}
use Rattle.netkat_steps.specs.ListSteps.{Edge}
use Rattle.aut_steps.specs.Tables.{Limits, Aut}
use Rattle.aut_steps.specs.Wf.{ExtAut, WfAut}
use Rattle.aut_steps.proofs.Wf.{grown_refl, state_grown}
use Rattle.aut_steps.proofs.StepSpec.{StepSpec}
use Rattle.aut_st_steps.specs.Edges.{EdgeAt}
use Rattle.aut_st_steps.proofs.Edges.{edge_grown}
use Rattle.aut_st_steps.proofs.ListSpec.{Maker, label_grown, return_makes, follow_makes, after_makes, meet_with_makes, complement_makes, rest_makes, meet_makes}
use Rattle.aut_st_steps.specs.EachSteps.{Each, same, sequence, after, intersect, complement, rest, meet, made, EachAt}

pub each_grown : (N : ℕ) {σ τ : Aut} → ExtAut σ τ → (e : Each) → EachAt N σ e → EachAt N τ e
each_grown N g same a = tt
each_grown N g (sequence x) a = state_grown g a
each_grown N g (after l) a = label_grown g a
each_grown N g (intersect x) a = state_grown g a
each_grown N g complement a = tt
each_grown N g (rest l) a = label_grown g a
each_grown N g (meet t) a = edge_grown g a

pub made_makes : {N : ℕ} (L : Limits) (σ : Aut) (e : Each) → EachAt N σ e → Maker N L σ (made N L e)
made_makes L σ same a = return_makes σ
made_makes L σ (sequence x) a = follow_makes a
made_makes L σ (after l) a = after_makes a
made_makes L σ (intersect x) a = meet_with_makes a
made_makes L σ complement a = complement_makes σ
made_makes L σ (rest l) a = rest_makes a
made_makes L σ (meet t) a = meet_makes σ t a

pub made_goes : {N : ℕ} {L : Limits} {σ : Aut} → WfAut N L σ → (e : Each) → EachAt N σ e → {t : Edge} → EdgeAt N σ t → StepSpec N L (EdgeAt N) σ (made N L e t σ)
made_goes {N} {L} {σ} g e a {t} p = made_makes L σ e a σ t (grown_refl σ) g p
