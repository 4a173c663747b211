-- enter: the epsilon of a state, the star of it, and which of them by kind.
use mathlib.Core.Path.{◌≡◌, refl, sym, ◌∙◌, ap, subst}
use mathlib.Core.Bool.{Bool}
use Prim.Native.Nat.{ℕ, ◌≤◌, ◌<◌}
use borrow.Author.Tests.{ne_eqb, lt-ltb, le-ltb}
use Rattle.std.specs.Prelude.{Result, Ok, Err}
use Rattle.common.specs.Outcome.{Outcome, given, Step, after, ◌>>=◌}
use Rattle.netkat.specs.Rules.{sequence, star}
use Rattle.refusal.specs.declared.Refusal.{Refusal}
use Rattle.spp_steps.specs.Wf.{Denotes, ValidAt}
use Rattle.spp_steps.specs.Closure.{closure}
use Rattle.spp.specs.declared.SPP.{SPP}
use Rattle.aut_steps.specs.Relations as Rel
use Rattle.aut_steps.specs.Tables.{SEQUENCE, STAR, kind_of, op1, Aut, on_nodes}
use Rattle.aut_steps.specs.Kinds.{form}
use Rattle.aut_steps.proofs.StateLaws.{nodes_goes}
use Rattle.aut_delta_steps.specs.Epsilon.{epsilon}
use Rattle.aut_delta_steps.specs.Delta.{Store, on_aut}
use Rattle.aut_delta_steps.proofs.Operands.{below_one, below_two}
use Rattle.aut_delta_steps.proofs.Labels.{star_makes}
use Rattle.aut_delta_steps.specs.DeltaReads.{quit, enter_with, enter}
use Rattle.aut_states.specs.declared.Config.{Config}
use Rattle.aut_relations.specs.declared.Aut.{Aut as Lent}
use Rattle.aut_relations.specs.Lent.{nodes_in, aut_in, Keeps, KeepsExprs, Does, Handles}
use Rattle.aut_relations.proofs.Kept.{keeps_of}
use Rattle.aut_relations.proofs.Order.{backed_of}
use Rattle.aut_sequence.specs.Clauses.{task_of}
use Rattle.aut_sequence.specs.declared.Task.TheVariants as task
use Rattle.aut_epsilon.specs.Clauses.{After}
use Rattle.aut_epsilon.specs.Asked.{EpsilonAsked, Later}
use Rattle.aut_stage.specs.Rule.{Laws, Stage}
use Rattle.aut_stage.proofs.Rule.{all_of, begin, instead, next, stuck, done}
use Rattle.aut_stage.proofs.OnLent.{related}
use Rattle.aut_delta_stage.specs.OnTables.{store_in, StoreAsked, tables_layer, GoesStore}
use Rattle.aut_delta_stage.proofs.OnTables.{tables_laws, asked_of, store_after, refused_goes, step_goes, then_on, aut_goes, epsilon_goes}
use Rattle.aut_delta.specs.Readings.{EnterAsked, Enters, epsilon_quit, star_quit, unless, unless_entered}

-- ---- nothing is done

pub nothing : {k : Config} {x : Lent} {o : Step Store Unit} {V : Type 0} {v : V} → StoreAsked k x → o (store_in x) ≡ given (store_in x) tt → Enters k o x (Ok v) x
nothing {k} R e = let W = tables_laws k.fields k.limits in record { post = done W 0 0 (begin W 0 0 R.prepared e) tt }

-- ---- epsilon, and the star of it

module _ {k : Config} {x y : Lent} {a : ℕ} (R : EnterAsked k x a) (K : Keeps x y) where
  abbrev N : ℕ
  N = k.fields

  W : Laws (tables_layer N k.limits)
  W = tables_laws N k.limits

  module _ (f : ℕ → Step Aut Unit) where
    abbrev whole : Outcome Store Unit
    whole = on_aut (epsilon N a >>= f) (store_in x)

    g0 : Stage (tables_layer N k.limits) 0 0 whole (after (on_aut (epsilon N a) (store_in x)) (λ e. on_aut (f e))) (store_in x) (store_in x) x.scratch.now x.scratch.now
    g0 = begin W 0 0 R.store.prepared (then_on (epsilon N a (aut_in x)) f (store_in x))

    pub no_epsilon : {e : Refusal} {V : Type 0} {r : Result V Refusal} {z : Lent} → r ≡ Err e → Does N 0 0 {V = SPP} aut_in (λ h. h.0) (epsilon N a) x (Err e) y → Enters k (on_aut (epsilon N a >>= f)) x r z
    no_epsilon {e} {V} q D =
        refused_goes q (stuck W 0 0 {see' = λ (v : V). tt} {Q = λ τ u. Unit} {υ' = store_in x} {z = x.scratch.now} (epsilon_goes R.store K a {r = Err e} D tt).post (λ e. on_aut (f e)) g0).is

    module _ {h : SPP} (D : Does N 0 0 aut_in (λ h. h.0) (epsilon N a) x (Ok h) y) (A : Later k.fields a x (Ok h) y) where
      E : GoesStore k 0 0 (λ τ e. ValidAt τ.aut.nodes N e) (λ (h : SPP). h.0) (on_aut (epsilon N a)) x (Ok h) y
      E = epsilon_goes R.store K a D A

      g1 : Stage (tables_layer N k.limits) 0 0 whole (on_aut (f h.0) (store_in y)) (store_in x) (store_in y) x.scratch.now y.scratch.now
      g1 = next W 0 0 E.post (all_of 0 0) (λ e. on_aut (f e)) g0

  module _ {h : SPP} (D : Does N 0 0 aut_in (λ h. h.0) (epsilon N a) x (Ok h) y) (A : Later k.fields a x (Ok h) y) where
    pub epsilon_made : {V : Type 0} {v : V} → Enters k (epsilon_quit N a) x (Ok v) y
    epsilon_made = record { post = done W 0 0 (g1 quit D A) tt }

    left : After N k.limits a (aut_in x) (aut_in y) y.scratch.now h.0
    left = A k.limits R.store.prepared.ready

    pub relate_ready : Handles N y h.0 h.0
    relate_ready = record { fields = K.spp.fields ∙ R.store.fields; backed = backed_of left.ready; at_a = left.law.found.means.den.at; at_b = left.law.found.means.den.at }

    abbrev then_star : ℕ → Step Aut Unit
    then_star e = on_nodes (Rel.star N e) >>= quit

    S1 : StoreAsked k y
    S1 = store_after R.store K.spp (E then_star D A)

    g2 : Stage (tables_layer N k.limits) 0 0 (star_quit N a (store_in x)) (after (on_aut (on_nodes (Rel.star N h.0)) (store_in y)) (λ g. on_aut (quit g))) (store_in x) (store_in y) x.scratch.now y.scratch.now
    g2 = instead W 0 0 (g1 then_star D A) (then_on (on_nodes (Rel.star N h.0) (aut_in y)) quit (store_in y))

    module _ {z : Lent} (L : KeepsExprs y z) {r : Result SPP Refusal} (S : Does N 0 0 nodes_in (λ h. h.0) (task_of N task.Star h.0 h.0) y r z) where
      abbrev Starred : Result SPP Refusal → Type 0
      Starred r = GoesStore k 0 0 (λ τ e. Denotes τ.aut.nodes N e (closure left.law.found.means.relation)) (λ (h : SPP). h.0) (on_aut (on_nodes (Rel.star N h.0))) y r z

      starred : Starred r
      starred = aut_goes S1 (keeps_of L) (on_nodes (Rel.star N h.0)) (related (asked_of S1) L (nodes_goes left.ready.good (star_makes left.ready.good.nodes left.law.found.means.den)) S)

      pub no_star : {e : Refusal} {V : Type 0} {q : Result V Refusal} {u : Lent} → q ≡ Err e → r ≡ Err e → Enters k (star_quit N a) x q u
      no_star {e} {V} q p =
          refused_goes q (stuck W 0 0 {see' = λ (v : V). tt} {Q = λ τ u. Unit} {υ' = store_in x} {z = x.scratch.now} (subst (λ (r : Result SPP Refusal). Starred r) p starred).post (λ g. on_aut (quit g)) g2).is

      pub star_made : {g : SPP} {V : Type 0} {v : V} → r ≡ Ok g → Enters k (star_quit N a) x (Ok v) z
      star_made p = record { post = done W 0 0 (next W 0 0 (subst (λ (r : Result SPP Refusal). Starred r) p starred).post (all_of 0 0) (λ g. on_aut (quit g)) g2) tt }

-- ---- by kind

other_kind : (N k a : ℕ) → (k ≡ SEQUENCE → ⊥) → (k ≡ STAR → ⊥) → (σ : Store) → on_aut (enter_with N k a) σ ≡ given σ tt
unfolding enter_with
other_kind N k a n m σ = simp (ne_eqb k SEQUENCE n, ne_eqb k STAR m)

enter_kind : (N : ℕ) (x : Lent) (i : ℕ) {q : ℕ} → kind_of x.states.words.now i ≡ q → enter N i (store_in x) ≡ on_aut (enter_with N q (op1 x.states.words.now i)) (store_in x)
enter_kind N x i e = ap (λ (q : ℕ). on_aut (enter_with N q (op1 x.states.words.now i)) (store_in x)) e

module _ {k : Config} {x : Lent} (i : ℕ) where
  module _ {y : Lent} {V : Type 0} {r : Result V Refusal} where
    pub in_sequence : kind_of x.states.words.now i ≡ SEQUENCE → Enters k (epsilon_quit k.fields (op1 x.states.words.now i)) x r y → Enters k (enter k.fields i) x r y
    unfolding enter_with
    in_sequence e g = step_goes (enter_kind k.fields x i e) g

    pub in_star : kind_of x.states.words.now i ≡ STAR → Enters k (star_quit k.fields (op1 x.states.words.now i)) x r y → Enters k (enter k.fields i) x r y
    unfolding enter_with
    in_star e g = step_goes (enter_kind k.fields x i e) g

module _ {k : Config} {x : Lent} {i : ℕ} (R : EnterAsked k x i) where
  pub in_other : {V : Type 0} {v : V} → (kind_of x.states.words.now i ≡ SEQUENCE → ⊥) → (kind_of x.states.words.now i ≡ STAR → ⊥) → Enters k (enter k.fields i) x (Ok v) x
  in_other n7 n8 = nothing R.store (other_kind k.fields (kind_of x.states.words.now i) (op1 x.states.words.now i) n7 n8 (store_in x))

  pub sequence_ready : kind_of x.states.words.now i ≡ SEQUENCE → EnterAsked k x (op1 x.states.words.now i)
  unfolding form
  sequence_ready e = record { store = R.store; has = (below_two R.store.prepared.ready.good R.has SEQUENCE e sequence refl).0.state }

  pub star_ready : kind_of x.states.words.now i ≡ STAR → EnterAsked k x (op1 x.states.words.now i)
  unfolding form
  star_ready e = record { store = R.store; has = (below_one R.store.prepared.ready.good R.has STAR e star refl).state }

  -- with its first operand in a variable
  module _ {a : ℕ} (is : a ≡ op1 x.states.words.now i) where
    module _ (e : kind_of x.states.words.now i ≡ SEQUENCE) where
      ready : EnterAsked k x a
      ready = subst (EnterAsked k x) (sym is) (sequence_ready e)

      pub first_ready : EpsilonAsked k.fields x a
      first_ready = record { limits = k.limits; fields = ready.store.fields; ready = ready.store.prepared.ready; epsilons = ready.store.prepared.worked.epsilons; has = ready.has }

      as_enter : {y : Lent} {V : Type 0} {r : Result V Refusal} → Enters k (epsilon_quit k.fields a) x r y → Enters k (enter k.fields i) x r y
      as_enter {y} {r = r} g = in_sequence i e (subst (λ (a : ℕ). Enters k (epsilon_quit k.fields a) x r y) is g)

      module _ {y : Lent} (K : Keeps x y) where
        pub first_stuck : {q : Refusal} {V : Type 0} {r : Result V Refusal} {z : Lent} → r ≡ Err q → Does k.fields 0 0 {V = SPP} aut_in (λ h. h.0) (epsilon k.fields a) x (Err q) y → Enters k (enter k.fields i) x r z
        first_stuck p D = as_enter (no_epsilon ready K quit p D)

        pub first_made : {h : SPP} {V : Type 0} {v : V} → Does k.fields 0 0 aut_in (λ h. h.0) (epsilon k.fields a) x (Ok h) y → Later k.fields a x (Ok h) y → Enters k (enter k.fields i) x (Ok v) y
        first_made D A = as_enter (epsilon_made ready K D A)

    module _ (e : kind_of x.states.words.now i ≡ STAR) where
      pub star_first : EnterAsked k x a
      star_first = subst (EnterAsked k x) (sym is) (star_ready e)

      pub first_starred : {y : Lent} {V : Type 0} {r : Result V Refusal} → Enters k (star_quit k.fields a) x r y → Enters k (enter k.fields i) x r y
      first_starred {y} {r = r} g = in_star i e (subst (λ (a : ℕ). Enters k (star_quit k.fields a) x r y) is g)

-- ---- unless it was done before

module _ {k : Config} {x : Lent} (i n e : ℕ) {V : Type 0} where
  pub new_done : {v : V} → StoreAsked k x → n < e → Enters k (unless_entered k.fields i n e) x (Ok v) x
  new_done R m = nothing R (ap (λ (b : Bool). unless b (enter k.fields i) (store_in x)) (lt-ltb n e m))

  pub new_enters : {y : Lent} {r : Result V Refusal} → e ≤ n → Enters k (enter k.fields i) x r y → Enters k (unless_entered k.fields i n e) x r y
  new_enters m g = step_goes (ap (λ (b : Bool). unless b (enter k.fields i) (store_in x)) (le-ltb n e m)) g
