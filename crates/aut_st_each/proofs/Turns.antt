-- The loops over lists: the steps for all of a list are those for one, and then those for the others.
use mathlib.Core.Path.{◌≡◌, refl}
use mathlib.Core.List.{List}
use Rattle.common.specs.Outcome.{Outcome, refused, given, Step, after}
use Rattle.netkat_steps.specs.ListSteps as St
use Rattle.netkat_steps.specs.ListSteps.{Edge}
use Rattle.aut_steps.specs.Tables.{Aut}
use Rattle.aut_st_steps.specs.Operations.{ops}
use Rattle.aut_st_steps.specs.EachSteps as M
use Rattle.aut_st_steps.specs.EachSteps.{made, insert_made}
use Rattle.aut_states.specs.Clauses.{limits_of}
use Rattle.aut_states.specs.declared.Config.{Config}
use Rattle.aut_stage.proofs.Rule.{Folds}

-- ---- insert_each

after_after : {S A B C : Type 0} (o : Outcome S A) (f : A → Step S B) (g : B → Step S C) → after o (λ a τ. after (f a τ) g) ≡ after (after o f) g
after_after (refused e) f g = refl
after_after (given σ a) f g = refl

module _ (k : Config) (a : M.Each) where
  abbrev pub each_all : List Edge → List Edge → Step Aut (List Edge)
  each_all es r = St.insert_each (ops k.fields (limits_of k.limits)) (made k.fields (limits_of k.limits) a) es r

  pub each_folds : Folds (insert_made k.fields (limits_of k.limits) a) each_all
  unfolding St.insert_each
  each_folds = record { none = λ r σ. refl; some = λ e es r σ. after_after (made k.fields (limits_of k.limits) a e σ) (λ new. St.insert (ops k.fields (limits_of k.limits)) new.target new.label r) (each_all es) }

-- ---- insert_pairs

module _ (k : Config) (us : List Edge) where
  abbrev pub pairs_all : List Edge → List Edge → Step Aut (List Edge)
  pairs_all es r = St.insert_pairs (ops k.fields (limits_of k.limits)) (St.meet_of (ops k.fields (limits_of k.limits))) es us r

  pub pairs_folds : Folds (λ e r. each_all k (M.meet e) us r) pairs_all
  unfolding St.insert_pairs
  pairs_folds = record { none = λ r σ. refl; some = λ e es r σ. refl }
