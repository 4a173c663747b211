-- 01, "Who can cause a refusal" and "Strings": what a run of delta comes to: refused, from later tables in order and with its reason; or a list that is a delta, in tables where all that is worked out is true. One step after another, and
-- the steps on the constructors' tables that it is made of.
use mathlib.Core.Path.{◌≡◌}
use mathlib.Core.Bool.{false}
use mathlib.Core.List.{List, ◌∷◌}
use Prim.Native.Nat.{ℕ, ◌+◌, ◌≤◌, ◌<◌}
use lib.ListN.{length}
use Rattle.common.specs.Outcome.{Outcome, Step, after, Gives, refusal, gives}
use Rattle.common.specs.Runs.{placed}
use Rattle.netkat.specs.Strings.{str}
use Rattle.netkat.specs.Rules.{Language}
use Rattle.netkat_steps.specs.ListSteps.{Edge, MadeList, IsList}
use Rattle.netkat_steps.proofs.ListSteps.{list_later, list_same}
use Rattle.aut_steps.specs.Tables.{Limits, Aut}
use Rattle.aut_steps.specs.Languages.{◌≈◌}
use Rattle.aut_steps.specs.Wf.{states, nesting, ExtAut, WfAut}
use Rattle.aut_steps.proofs.Wf.{grown_trans}
use Rattle.aut_steps.proofs.StepSpec.{RefusalReason, no_node, StepSpec, stops, comes}
use Rattle.aut_steps.specs.Meaning.{Holds}
use Rattle.aut_st_steps.specs.Edges.{EdgesAt}
use Rattle.aut_st_steps.specs.ListSpec.{ListAt}
use Rattle.aut_delta_steps.proofs.ListGoes.{ListsAt}
use Rattle.aut_delta_steps.specs.Epsilon.{epsilon}
use Rattle.aut_delta_steps.specs.Delta.{Store, store, put_aut, on_aut, room_t}
use Rattle.aut_delta_steps.specs.Fits.{tables}
use Rattle.aut_delta_steps.proofs.Fits.{since_gone, since, list_as}
use Rattle.aut_delta_steps.proofs.Agree.{Agree, stop, come, agree_gives, agree_bind, agree_map, agree_placed, All2}
use Rattle.aut_delta_steps.proofs.Noted.{noted_grown}
use Rattle.aut_delta_steps.specs.Wf.{Means, HasEpsilon, ExtT, WfStore, Stored, SameWords}
use Rattle.aut_delta_steps.proofs.Wf.{valued_has, later_grown, extt_refl, extt_trans, worked_since, worked_noted}
use Rattle.aut_delta_steps.proofs.EpsilonLaws.{epsilon_goes}
use Rattle.aut_delta_steps.specs.Extends.{ExtStore}
use Rattle.aut_delta_steps.proofs.Extends.{went_trans, same_since, same_noted, went_since, went_noted, Before, before_trans}

-- why a run that has come to the tables τ is refused
pub data WhyDelta (N : ℕ) (L : Limits) (τ : Store) : ℕ → Type 0 where
  -- a constructor, a relation, or the limit of a list
  listing : {number : ℕ} → RefusalReason L τ.aut number → WhyDelta N L τ number
  -- this finished list has no room
  no_transitions : (es : List Edge) → EdgesAt N τ.aut es → room_t τ.transitions (length es) ≡ false → WhyDelta N L τ 25

module _ (N : ℕ) (L : Limits) where
  -- from σ, it is refused in later tables, with the right number
  pub record Halted (σ : Store) (number : ℕ) : Type 0 where
    pub last : Store
    pub grown : ExtAut σ.aut last.aut
    pub transitions : ExtT σ.transitions last.transitions
    pub good : WfAut N L last.aut
    pub why : WhyDelta N L last number

  -- it has given a list that is a delta of A; of x and of later states no list was stored
  pub record Listed (x : ℕ) (A : Language N) (σ τ : Store) (es : List Edge) : Type 0 where
    pub went : ExtStore σ τ
    pub before : Before x σ τ
    pub worked : WfStore N L τ
    pub list : IsList (tables N L) A τ.aut es
    pub short : length es ≤ L.transitions

  -- .. of state x, and it is stored
  pub record Deltaed (x : ℕ) (σ τ : Store) (es : List Edge) : Type 0 where
    pub listed : Listed (x + 1) (Holds N σ.aut x) σ τ es
    pub stored : Stored τ x es

  -- the list of an operand of a state x of σ, asked in τ
  pub record AskedList (σ : Store) (x y : ℕ) (τ υ : Store) (es : List Edge) : Type 0 where
    pub went : ExtStore τ υ
    pub before : Before x τ υ
    pub worked : WfStore N L υ
    pub list : IsList (tables N L) (Holds N σ.aut y) υ.aut es
    pub short : length es ≤ L.transitions
    pub stored : Stored υ y es

  -- the lists of a list of operands
  pub record AskedLists (σ : Store) (x : ℕ) (ys : List ℕ) (τ υ : Store) (lists : List (List Edge)) : Type 0 where
    pub went : ExtStore τ υ
    pub before : Before x τ υ
    pub worked : WfStore N L υ
    pub are : All2 (λ y es. IsList (tables N L) (Holds N σ.aut y) υ.aut es) ys lists
    pub neat : ListsAt N L υ.aut lists
    pub stored : All2 (Stored υ) ys lists

  -- a step that stores no list has given a value of which P holds
  pub record Stepped {X : Type 0} (P : Aut → X → Type 0) (σ τ : Store) (v : X) : Type 0 where
    pub went : ExtStore σ τ
    pub same : (i : ℕ) → SameWords σ τ i
    pub worked : WfStore N L τ
    pub holds : P τ.aut v

  -- two ways to call go the same on operands of lower nesting, and as they should
  abbrev pub DeltaCalls : (again other : ℕ → Step Store (List Edge)) → ℕ → Type 0
  DeltaCalls again other depth = (τ : Store) → WfStore N L τ → (y : ℕ) → y < states τ.aut → nesting τ.aut y < depth → Agree (Halted τ) (Deltaed y τ) (again y τ) (other y τ)

module _ {N : ℕ} {L : Limits} where
  pub halted_from : {σ τ : Store} → ExtStore σ τ → (number : ℕ) → Halted N L τ number → Halted N L σ number
  halted_from w number h = record { last = h.last; grown = grown_trans w.grown h.grown; transitions = extt_trans w.transitions h.transitions; good = h.good; why = h.why }

  -- one step after another
  pub bind_agree : {X : Type 0} {Q : Store → X → Type 0} {x : ℕ} {A : Language N} {σ : Store} {o p : Outcome Store X} {k j : X → Step Store (List Edge)} → Agree (Halted N L σ) Q o p
      → ((τ : Store) (a : X) → Q τ a → ExtStore σ τ × Before x σ τ × Agree (Halted N L τ) (Listed N L x A τ) (k a τ) (j a τ)) → Agree (Halted N L σ) (Listed N L x A σ) (after o k) (after p j)
  bind_agree c f = agree_bind c (λ n h. h) (λ τ a q.
      let (w, b, d) = f τ a q in
      agree_map d (halted_from w) (λ υ es r. record { went = went_trans w r.went; before = before_trans b r.before; worked = r.worked; list = r.list; short = r.short }))

  pub same_agree : {x : ℕ} {A B : Language N} {σ : Store} {o p : Outcome Store (List Edge)} → A ≈ B → Agree (Halted N L σ) (Listed N L x A σ) o p → Agree (Halted N L σ) (Listed N L x B σ) o p
  same_agree s c = agree_map c (λ n h. h) (λ υ es r. record { went = r.went; before = r.before; worked = r.worked; list = list_same (tables N L) (λ a h hs z. s (str a (h ∷ hs) z)) r.list; short = r.short })

  -- ---- steps on the constructors' tables

  module _ {σ : Store} (W : WfStore N L σ) where
    -- a list is made
    pub list_step : {x : ℕ} {A : Language N} {o : Outcome Aut (List Edge)} → Gives (MadeList (since N L σ.aut) A σ.aut) o → StepSpec N L (ListAt N L) σ.aut o
        → Agree (Halted N L σ) (Listed N L x A σ) (placed put_aut σ o) (placed put_aut σ o)
    list_step refusal (stops {τ} w g y) = stop (record { last = store τ σ.transitions; grown = w; transitions = extt_refl σ.transitions; good = g; why = listing y })
    list_step (gives M) (comes r) = come (record { went = went_since M.later.good; before = record { same = λ i l. same_since σ M.later.good i }; worked = worked_since W M.later.good; list = list_as L M.is; short = r.holds.short })

    -- a relation or a state is made
    pub goes_step : {X : Type 0} {P : Aut → X → Type 0} {o : Outcome Aut X} → StepSpec N L P σ.aut o → Agree (Halted N L σ) (Stepped N L P σ) (placed put_aut σ o) (placed put_aut σ o)
    goes_step (stops {τ = τ} w g y) = stop (record { last = store τ σ.transitions; grown = w; transitions = extt_refl σ.transitions; good = g; why = listing y })
    goes_step (comes r) = come (record { went = went_since (since_gone r); same = same_since σ (since_gone r); worked = worked_since W (since_gone r); holds = r.holds })

    -- an epsilon is worked out
    pub epsilon_step : {x : ℕ} → x < states σ.aut → Agree (Halted N L σ) (Stepped N L (λ τ e. Means N τ.nodes e (Holds N σ.aut x)) σ) (on_aut (epsilon N x) σ) (on_aut (epsilon N x) σ)
    epsilon_step l =
        agree_placed put_aut σ (epsilon_goes (record { good = W.good; epsilons = W.epsilons }) l)
        (λ n s. record { last = store s.last σ.transitions; grown = noted_grown s.noted; transitions = extt_refl σ.transitions; good = s.good; why = listing (no_node s.lacking) })
        (λ τ e f. record { went = went_noted f.found.noted; same = same_noted σ f.found.noted; worked = worked_noted W f.found.noted f.found.good f.found.epsilons; holds = f.found.means })

    -- .. and the state has it
    pub epsilon_has : {x : ℕ} → x < states σ.aut → Gives (λ τ e. HasEpsilon τ.aut x) (on_aut (epsilon N x) σ)
    epsilon_has l = agree_gives (agree_placed put_aut σ (epsilon_goes (record { good = W.good; epsilons = W.epsilons }) l) (λ n s. s) (λ τ e f. valued_has f.value))

  -- lists in later tables
  pub list_went : {A : Language N} {σ τ : Store} {es : List Edge} → WfStore N L σ → ExtStore σ τ → WfStore N L τ → IsList (tables N L) A σ.aut es → IsList (tables N L) A τ.aut es
  list_went W w W' i = list_later (tables N L) (later_grown W.good w.grown W'.good) i
