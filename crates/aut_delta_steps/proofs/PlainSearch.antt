-- What holds of the definitions of specs/PlainSearch.
use mathlib.Core.Path.{◌≡◌, refl, sym, ap₂, subst, fun_ext}
use mathlib.Core.List.{List, [], ◌∷◌, map}
use Prim.Native.Nat.{ℕ, ◌<◌}
use native.Mathlib.Omega.{arith}
use lib.Dec.{T}
use Rattle.common.specs.Outcome.{Outcome, refused, given, after, Gives, refusal, gives}
use Rattle.netkat.specs.Hops.{IsEpsilon}
use Rattle.netkat.specs.Lists.{State, Transition, to}
use Rattle.netkat_steps.specs.ListSteps.{Edge, Are, none, also}
use Rattle.netkat.specs.Promise.{Meaning, Kept, DeltaOf, Lawful, Promise}
use Rattle.netkat.proofs.Laws.Promise.{promise}
use Rattle.aut_steps.specs.Relations as Rel
use Rattle.aut_steps.specs.Tables.{Limits, limits01, Aut}
use Rattle.aut_steps.proofs.Languages.{≈-sym}
use Rattle.aut_steps.specs.Wf.{states, ExtAut}
use Rattle.aut_steps.proofs.Wf.{state_grown}
use Rattle.aut_steps.specs.Meaning.{Holds}
use Rattle.aut_steps.proofs.Meaning.{holds_grown}
use Rattle.aut_steps.proofs.Instance.{in_order}
use Rattle.aut_delta_steps.specs.Epsilon.{epsilon}
use Rattle.aut_delta_steps.specs.Delta.{Store, on_aut, delta}
use Rattle.aut_delta_steps.specs.Examples.{holding}
use Rattle.aut_delta_steps.specs.Fits.{tables}
use Rattle.aut_delta_steps.proofs.Agree.{Agree, come}
use Rattle.aut_delta_steps.specs.Wf.{Means, WfStore}
use Rattle.aut_delta_steps.proofs.Wf.{means_same, begun}
use Rattle.aut_delta_steps.proofs.DeltaRuns.{Halted, Stepped, Deltaed, epsilon_step}
use Rattle.aut_delta_steps.proofs.DeltaLaws.{delta_goes, delta_list, delta_of}
use Rattle.aut_delta_steps.specs.PlainSearch.{decoded, answers}

module _ (N : ℕ) where
  module _ (L : Limits) where
    -- what its states hold: the strings of the rules that they stand for
    abbrev pub meaning : Meaning N Store
    meaning = record { Good = WfStore N L; Known = λ σ s. s < states σ.aut; Holds = λ σ. Holds N σ.aut }

module _ {N : ℕ} {L : Limits} where
  kept : {σ τ : Store} → WfStore N L σ → ExtAut σ.aut τ.aut → WfStore N L τ → Kept (meaning N L) σ τ
  kept W w W' = record { good = W'; known = λ s k. state_grown w k; same = λ s k. ≈-sym (holds_grown W.good w k) }

  epsilon_answer : (σ : Store) (s : State) → WfStore N L σ → s < states σ.aut → Gives (λ τ e. Kept (meaning N L) σ τ × IsEpsilon e (Holds N τ.aut s)) ((answers N L).epsilon s σ)
  epsilon_answer σ s W l = at (on_aut (epsilon N s) σ) (on_aut (epsilon N s) σ) (epsilon_step W l)
    where
      at : (o p : Outcome Store ℕ) → Agree (Halted N L σ) (Stepped N L (λ τ e. Means N τ.nodes e (Holds N σ.aut s)) σ) o p
          → Gives (λ τ e. Kept (meaning N L) σ τ × IsEpsilon e (Holds N τ.aut s)) (after o (λ e τ. given τ (Rel.pairs N τ.aut.nodes e)))
      at (refused number) p a = refusal
      at (given τ e) p (come f) =
          let m = means_same (≈-sym (holds_grown W.good f.went.grown l)) f.holds in
          gives (
            kept W f.went.grown f.worked,
            record {
              ends = λ a z. (λ w. subst T (sym (m.den.means a z)) ((m.is.ends a z).0 w), λ t. (m.is.ends a z).1 (subst T (m.den.means a z) t));
            },
          )

  -- labels that mean relations decode to them
  decodes : {σ : Aut} {es : List Edge} {list : List (Transition State N)} → Are (tables N L) σ es list → map (decoded N σ) es ≡ list
  decodes none = refl
  decodes (also {s} k d a) = ap₂ ◌∷◌ (ap₂ to {x = s} refl (fun_ext (λ p. fun_ext (λ q. d.means p q)))) (decodes a)

  delta_answer : (σ : Store) (s : State) → WfStore N L σ → s < states σ.aut → Gives (λ τ list. Kept (meaning N L) σ τ × DeltaOf (meaning N L) τ s list) ((answers N L).delta s σ)
  delta_answer σ s W l = at (delta N L s σ) (delta N L s σ) (delta_goes W l)
    where
      at : (o p : Outcome Store (List Edge)) → Agree (Halted N L σ) (Deltaed N L s σ) o p
          → Gives (λ τ list. Kept (meaning N L) σ τ × DeltaOf (meaning N L) τ s list) (after o (λ es τ. given τ (map (decoded N τ.aut) es)))
      at (refused number) p a = refusal
      at (given τ es) p (come d) =
          let o = delta_of W l d in
          gives (
            kept W d.listed.went.grown d.listed.worked,
            subst (DeltaOf (meaning N L) τ s) (sym (decodes (delta_list W l d).are)) (record { known = o.known; ascending = o.ascending; is = o.is }),
          )

  -- every answer is true
  pub lawful : Lawful (answers N L) (meaning N L)
  lawful = record { epsilon_true = epsilon_answer; delta_true = delta_answer }

  -- .. so what is promised of the plain search holds
  pub search_promise : Promise (answers N L) (meaning N L)
  search_promise = promise (answers N L) (meaning N L) lawful

-- Tables of one field, begun, with no state yet: what the rows of Examples.antt start from.
pub at_first : WfStore 1 limits01 (holding 4 4 4 [] [] [] [])
at_first = begun (omega arith) in_order refl refl
