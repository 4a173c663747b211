-- Lists of at most one transition, from no list: st_singleton, and a state made and then st_singleton. Each is a run of calls over what is lent, with any nodes and members in place of those that are.
use Rattle.std.specs.Prelude.{if◌then◌else◌}
use mathlib.Core.Path.{◌≡◌, refl, sym, ◌∙◌, ap, ap₂, subst}
use mathlib.Core.Bool.{true, false}
use mathlib.Core.List.{List, [], ◌∷◌}
use Prim.Native.Nat.{ℕ, ◌≤◌}
use native.Mathlib.Omega.{arith}
use lib.Dec.{eqb}
use lib.ListN.{length}
use borrow.Author.Tests.{eq-eqb, ne_eqb}
use borrow.Rule.Slice.Mut.{set_vals}
use Rattle.std.specs.Prelude.{Result, Ok, Err}
use Rattle.std.specs.Result.{IsErr, IsErrAnd}
use Rattle.common.specs.Outcome.{given, Step, return, after, ◌>>=◌}
use Rattle.common.specs.Runs.{Table, table}
use Rattle.slices.specs.Same.{SameSlice}
use Rattle.refusal.specs.declared.Refusal.{Refusal}
use Rattle.refusal.specs.Numbers.{outcome}
use Rattle.spp.specs.declared.SPPstore.{SPPstore}
use Rattle.netkat_steps.specs.ListSteps as St
use Rattle.netkat_steps.specs.ListSteps.{Edge, edge}
use Rattle.spp_steps.proofs.Laws.{den_one, den_top}
use Rattle.aut_steps.specs.Tables.{Aut, aut, on_states}
use Rattle.aut_steps.specs.Relations as Rel
use Rattle.aut_steps.specs.Constructors.{mk_spp, mk_top}
use Rattle.aut_steps.specs.Wf.{WfAut}
use Rattle.aut_steps.proofs.StepSpec.{StepSpec, goes_map}
use Rattle.aut_steps.proofs.StateLaws.{mk_spp_goes, mk_top_goes}
use Rattle.aut_st_steps.specs.Operations.{ops}
use Rattle.aut_st_steps.specs.Edges.{edges, EdgeAt, none, also}
use Rattle.aut_st_steps.proofs.Edges.{edge_grown}
use Rattle.aut_st_steps.specs.ListSpec.{ListAt, State, Label}
use Rattle.aut_st_steps.proofs.ListSpec.{list_empty, zero_state_goes}
use Rattle.aut_delta_steps.specs.Delta.{dup_list, top_list}
use Rattle.aut_states.specs.Clauses.{limits_of}
use Rattle.aut_states.specs.declared.Config.{Config}
use Rattle.aut_states.specs.declared.Members.{Members}
use Rattle.aut_states.specs.declared.States.{States}
use Rattle.aut_relations.specs.declared.Aut.{Aut as Lent}
use Rattle.aut_relations.specs.Lent.{nodes_in, states_in, members_in, aut_in, Asked}
use Rattle.aut_stage.specs.Rule.{Post}
use Rattle.aut_stage.specs.OnLent.{lent_layer, Goes}
use Rattle.aut_stage.proofs.Rule.{all_of}
use Rattle.aut_st_edges.specs.Clauses.{Wrote}
use Rattle.aut_st_insert.specs.Clauses.{RESULT, list_in, GoesInsert}
use Rattle.aut_st_stage.proofs.Run.{no_list, Run, written, stated, keeps_stated, goes_stated, run_begin, run_as, run_wrote, run_next, run_stuck, run_finish, run_done}
use Rattle.aut_delta_lists.specs.Asked.{aut_with, ReadyWith, AloneAsked, GoesAlone, Anything}

none_at : (s : List ℕ) → edges s RESULT 0 ≡ []
unfolding edges
none_at s = refl

-- ---- with any nodes and members

-- x, where the nodes t, of N fields, and the members m are lent
abbrev among : ℕ → Lent → Table → Table → Lent
among N x t m = record {
  sp = x.sp;
  spp = record { nodes = set_vals t.words x.spp.nodes; count = t.count; fields = N };
  states = x.states;
  members = record { words = set_vals m.words x.members.words; count = m.count };
  transitions = x.transitions;
  pending = x.pending;
  scratch = x.scratch;
}

-- the tables that are lent are in order, and the limit allows a transition
pub record Lone (k : Config) (x : Lent) : Type 0 where
  pub asked : Asked k x
  pub some : 1 ≤ k.limits.transitions

module _ {k : Config} {x : Lent} (A : AloneAsked k x) where
  lone : {t m : Table} → ReadyWith k x t m → Lone k (among k.fields x t m)
  lone R = record { asked = record { fields = refl; ready = R }; some = A.some }

  -- what holds with all that could be lent
  pub every : {P : Aut → Type 0} {o : Step Aut (List Edge)} {r : Result ℕ Refusal} {y : Lent} → ((t m : Table) → Lone k (among k.fields x t m) → P (aut_with x t m) → GoesInsert k o (among k.fields x t m) r (among k.fields y t m)) → GoesAlone k P o x r y
  every f = record { post = λ t m R p. (f t m (lone R) p).post }

-- ---- with the nodes and members that are lent: what is asked, and what comes of it where they are kept

pub lent_asked : {k : Config} {x : Lent} → Asked k x → 1 ≤ k.limits.transitions → AloneAsked k x
lent_asked {x = x} R some = record { nodes = nodes_in x; members = members_in x; ready = R.ready; some = some }

pub lent_gives : {k : Config} {P : Aut → Type 0} {o : Step Aut (List Edge)} {x y : Lent} {r : Result ℕ Refusal} → Asked k x → y.spp ≡ x.spp → y.members ≡ x.members → P (aut_in x) → GoesAlone k P o x r y → GoesInsert k o x r y
lent_gives {k} {o = o} {x = x} {y = y} {r = r} R s m p G =
    let same : aut_with y (nodes_in x) (members_in x) ≡ aut_in y
    = ap₂ (λ (n : SPPstore) (l : Members). aut (table n.nodes.now n.count) (states_in y) (table l.words.now l.count)) (sym s) (sym m) in
    record { post = subst (λ (τ : Aut). Post (lent_layer k.fields k.limits) 0 832 (ListAt k.fields (limits_of k.limits)) (list_in y) (o (aut_in x)) (aut_in x) r τ x.scratch.now y.scratch.now) same (G.post (nodes_in x) (members_in x) R.ready p) }

-- ---- st_singleton, of the label h and the state t

module _ {k : Config} {x : Lent} {t h : ℕ} (L : Lone k x) (E : EdgeAt k.fields (aut_in x) (edge t h)) {zero : ℕ} (zero_is : Rel.zero_at k.fields ≡ zero) where
  abbrev single : Step Aut (List Edge)
  single = St.st_singleton (ops k.fields (limits_of k.limits)) h t

  -- with the zero state z
  abbrev rest : ℕ → Step Aut (List Edge)
  rest z = if eqb t z then return [] else return (edge t h ∷ [])

  -- no transition
  no_edge : {y : Lent} → Run k 0 832 single (return []) x y → GoesInsert k single x (Ok 0) y
  no_edge {y} g = run_done (run_as g (ap (given (aut_in y)) (sym (none_at y.scratch.now)))) (subst (ListAt k.fields (limits_of k.limits) (aut_in y)) (sym (none_at y.scratch.now)) (list_empty (aut_in y)))

  pub label_zero : eqb h zero ≡ true → GoesInsert k single x (Ok 0) x
  unfolding St.st_singleton
  label_zero e =
      let q : eqb h (Rel.zero_at k.fields) ≡ true = ap (eqb h) zero_is ∙ e in
      no_edge (run_begin L.asked (simp q))

  module _ (apart : eqb h zero ≡ false) where
    single_0 : Run k 0 832 single (λ σ. after (on_states (mk_spp zero) σ) rest) x x
    unfolding St.st_singleton
    single_0 =
        let q : eqb h (Rel.zero_at k.fields) ≡ false = ap (eqb h) zero_is ∙ apart in
        let w : single (aut_in x) ≡ after (on_states (mk_spp (Rel.zero_at k.fields)) (aut_in x)) rest = simp q in
        run_begin L.asked (w ∙ ap (λ (z : ℕ). after (on_states (mk_spp z) (aut_in x)) rest) zero_is)

    module _ {st : States} where
      zero_made : (r : Result ℕ Refusal) → mk_spp zero (states_in x) ≡ outcome (λ i. i) r (table st.words.now st.count) → Goes k 0 0 State (λ i. i) (on_states (mk_spp zero)) x r (stated x st)
      zero_made r e = goes_stated (mk_spp zero) L.asked (subst (λ (z : ℕ). StepSpec k.fields (limits_of k.limits) State (aut_in x) (on_states (mk_spp z) (aut_in x))) zero_is (zero_state_goes L.asked.ready.good)) e

      pub single_stuck : (e : Refusal) {r : Result ℕ Refusal} → IsErr r × IsErrAnd r (λ x. x ≡ e) → mk_spp zero (states_in x) ≡ outcome (λ i. i) (Err e) (table st.words.now st.count) → GoesInsert k single x r (stated x st)
      single_stuck e q p = run_stuck rest single_0 q (zero_made (Err e) p)

      module _ {z : ℕ} (same : SameSlice x.states.words st.words) (p : mk_spp zero (states_in x) ≡ outcome (λ i. i) (Ok z) (table st.words.now st.count)) where
        single_1 : Run k 0 832 single (rest z) x (stated x st)
        single_1 = run_next rest single_0 no_list (keeps_stated same) (zero_made (Ok z) p)

        pub target_zero : t ≡ z → GoesInsert k single x (Ok 0) (stated x st)
        target_zero e =
            let y : eqb t z ≡ true = eq-eqb t z e in
            no_edge (run_as single_1 (simp y))

        pub one_edge : (t ≡ z → ⊥) → {w : List ℕ} → Wrote RESULT 1 (edge t h ∷ []) x.scratch.now w → length w ≡ length x.scratch.now → GoesInsert k single x (Ok 1) (written (stated x st) w)
        one_edge n W len =
            let τ : Aut = aut_in (stated x st) in
            let y : eqb t z ≡ false = ne_eqb t z n in
            let one : rest z τ ≡ given τ (edge t h ∷ []) = simp y in
            let at : EdgeAt k.fields τ (edge t h) = edge_grown single_1.stage.ext.grown E in
            run_done (run_wrote (run_as single_1 (one ∙ ap (given τ) (sym W.is))) (record { from = omega arith; to = omega arith }) (omega arith) W.kept len)
            (subst (ListAt k.fields (limits_of k.limits) τ) (sym W.is) (record { edges = also at none; short = L.some }))

-- ---- a state is made by o, and then st_singleton with the label h

pub record Makes (k : Config) (x : Lent) (whole : Step Aut (List Edge)) (o : Step Table ℕ) (h : ℕ) : Type 0 where
  pub is : whole ≡ (on_states o >>= St.st_singleton (ops k.fields (limits_of k.limits)) h)
  pub state : StepSpec k.fields (limits_of k.limits) State (aut_in x) (on_states o (aut_in x))
  pub label : (σ : Aut) → WfAut k.fields (limits_of k.limits) σ → Label k.fields σ h

module _ {k : Config} {x : Lent} (L : Lone k x) {whole : Step Aut (List Edge)} {o : Step Table ℕ} {h : ℕ} (M : Makes k x whole o h) where
  abbrev then_single : ℕ → Step Aut (List Edge)
  then_single = St.st_singleton (ops k.fields (limits_of k.limits)) h

  made_0 : Run k 0 832 whole (λ σ. after (on_states o σ) then_single) x x
  made_0 = run_begin L.asked (ap (λ (s : Step Aut (List Edge)). s (aut_in x)) M.is)

  module _ {st : States} where
    pub made_stuck : (e : Refusal) {r : Result ℕ Refusal} → IsErr r × IsErrAnd r (λ x. x ≡ e) → o (states_in x) ≡ outcome (λ i. i) (Err e) (table st.words.now st.count) → GoesInsert k whole x r (stated x st)
    made_stuck e q p = run_stuck then_single made_0 q (goes_stated o {r = Err e} L.asked M.state p)

    module _ {i : ℕ} (same : SameSlice x.states.words st.words) (p : o (states_in x) ≡ outcome (λ i. i) (Ok i) (table st.words.now st.count)) where
      state_made : Goes k 0 0 State (λ i. i) (on_states o) x (Ok i) (stated x st)
      state_made = goes_stated o L.asked M.state p

      made_1 : Run k 0 832 whole (then_single i) x (stated x st)
      made_1 = run_next then_single made_0 no_list (keeps_stated same) state_made

      pub made_ready : Lone k (stated x st) × EdgeAt k.fields (aut_in (stated x st)) (edge i h)
      made_ready = (record { asked = made_1.asked; some = L.some }, record { state = state_made.post.then.holds; relation = (M.label (aut_in (stated x st)) made_1.asked.ready.good).at })

      pub made_done : {r : Result ℕ Refusal} {y : Lent} → GoesInsert k (then_single i) (stated x st) r y → GoesInsert k whole x r y
      made_done G = run_finish made_1 (all_of 0 832) G

-- .. with any nodes and members
module _ {k : Config} {x : Lent} (A : AloneAsked k x) {whole : Step Aut (List Edge)} {o : Step Table ℕ} {h : ℕ} (M : (z : Lent) → Asked k z → Makes k z whole o h) {st : States} where
  pub any_stuck : (e : Refusal) {r : Result ℕ Refusal} → IsErr r × IsErrAnd r (λ x. x ≡ e) → o (states_in x) ≡ outcome (λ i. i) (Err e) (table st.words.now st.count) → GoesAlone k Anything whole x r (stated x st)
  any_stuck e q p = every A (λ t m L u. made_stuck L (M _ L.asked) {st = st} e q p)

  module _ {i : ℕ} (same : SameSlice x.states.words st.words) (p : o (states_in x) ≡ outcome (λ i. i) (Ok i) (table st.words.now st.count)) where
    pub any_ready : AloneAsked k (stated x st)
    any_ready =
        let L : Lone k (among k.fields x A.nodes A.members) = lone A A.ready in
        record { nodes = A.nodes; members = A.members; ready = (made_ready L (M _ L.asked) {st = st} same p).0.asked.ready; some = A.some }

    pub any_done : {r : Result ℕ Refusal} {y : Lent} → GoesAlone k (λ σ. EdgeAt k.fields σ (edge i h)) (St.st_singleton (ops k.fields (limits_of k.limits)) h i) (stated x st) r y → GoesAlone k Anything whole x r y
    any_done {r} {y} G = every A (λ t m L u.
        let (S, E) = made_ready L (M _ L.asked) {st = st} same p in
        let last : GoesInsert k (St.st_singleton (ops k.fields (limits_of k.limits)) h i) (stated (among k.fields x t m) st) r (among k.fields y t m)
        = record { post = G.post t m S.asked.ready E } in
        made_done L (M _ L.asked) {st = st} same p last)

-- Dup: the identity, and its state
pub dup : {k : Config} {one : ℕ} → Rel.one_at k.fields ≡ one → (x : Lent) → Asked k x → Makes k x (dup_list k.fields (limits_of k.limits)) (mk_spp one) one
unfolding dup_list
dup {k} one_is x R = record {
  is = ap (λ (h : ℕ). on_states (mk_spp h) >>= St.st_singleton (ops k.fields (limits_of k.limits)) h) one_is;
  state = subst (λ (h : ℕ). StepSpec k.fields (limits_of k.limits) State (aut_in x) (on_states (mk_spp h) (aut_in x))) one_is
      (goes_map (mk_spp_goes R.ready.good (den_one R.ready.good.nodes k.fields (omega arith))) (λ τ x w v i. i.state));
  label = λ σ g. subst (Label k.fields σ) one_is (record { at = (den_one g.nodes k.fields (omega arith)).at });
}

-- every pair
top_label : {k : Config} {top : ℕ} → Rel.top_at k.fields ≡ top → (σ : Aut) → WfAut k.fields (limits_of k.limits) σ → Label k.fields σ top
top_label {k} top_is σ g = subst (Label k.fields σ) top_is (record { at = (den_top g.nodes k.fields (omega arith)).at })

-- Top
pub top : {k : Config} {top : ℕ} → Rel.top_at k.fields ≡ top → (x : Lent) → Asked k x → Makes k x (top_list k.fields (limits_of k.limits)) mk_top top
unfolding top_list
top {k} top_is x R = record {
  is = ap (λ (h : ℕ). on_states mk_top >>= St.st_singleton (ops k.fields (limits_of k.limits)) h) top_is;
  state = goes_map (mk_top_goes R.ready.good) (λ τ x w v i. i.state);
  label = top_label top_is;
}

-- LtlNext
pub next_edge : {k : Config} {top : ℕ} → Rel.top_at k.fields ≡ top → {σ : Aut} → WfAut k.fields (limits_of k.limits) σ → {a : ℕ} → State σ a → EdgeAt k.fields σ (edge a top)
next_edge top_is {σ} g s = record { state = s; relation = (top_label top_is σ g).at }

pub next_done : {k : Config} {x : Lent} {top : ℕ} → Rel.top_at k.fields ≡ top → {a : ℕ} {r : Result ℕ Refusal} {y : Lent} → GoesAlone k (λ σ. EdgeAt k.fields σ (edge a top)) (St.st_singleton (ops k.fields (limits_of k.limits)) top a) x r y
    → GoesAlone k (λ σ. State σ a) (St.st_singleton (ops k.fields (limits_of k.limits)) (Rel.top_at k.fields) a) x r y
next_done {k} {x} top_is {a} {r} {y} G =
    subst (λ (h : ℕ). GoesAlone k (λ σ. State σ a) (St.st_singleton (ops k.fields (limits_of k.limits)) h a) x r y) (sym top_is)
    (record { post = λ t m R s. G.post t m R (next_edge top_is R.good s) })
