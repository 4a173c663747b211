-- The relations of a list intersected, and the state of the list.
use Rattle.std.specs.Prelude.{if◌then◌else◌, Option, Some, None, Result, Ok, Err}
use mathlib.Core.Path.{◌≡◌, refl, sym, ◌∙◌, ap, ap₂, subst}
use mathlib.Core.Bool.{Bool, true, false}
use mathlib.Core.List.{List, [], ◌∷◌, ◌++◌}
use Prim.Native.Nat.{ℕ, ◌+◌, ◌-◌, ◌≤◌, ◌<◌}
use native.Mathlib.Omega.{arith}
use lib.Dec.{eqb}
use lib.ListN.{length, set, take, drop}
use borrow.Author.Tests.{eq-eqb, ne_eqb, eqb-true}
use Rattle.std.specs.Option.{option_eq}
use Rattle.std.specs.Result.{IsErr, IsErrAnd}
use Rattle.common.specs.Outcome.{Outcome, given, Step, return, after, ◌>>=◌, Gives, gives}
use Rattle.common.proofs.Follow.{call, branch}
use Rattle.common.specs.Runs.{Table, placed}
use Rattle.refusal.specs.declared.Refusal.{Refusal}
use Rattle.refusal.specs.Numbers.{outcome}
use Rattle.refusal.proofs.Passed.{passed}
use Rattle.spp_steps.specs.Wf.{Wf, ValidAt}
use Rattle.spp_steps.proofs.Laws.{ext_refl, den_top}
use Rattle.spp.specs.declared.SPP.{SPP as Handle}
use Rattle.aut_steps.specs.Tables.{SPP, TOP, INTERSECT, kind_of, op1, words, Limits, Aut, aut, exprs, put_states, put_exprs, on_states, on_exprs}
use Rattle.aut_steps.specs.Relations as Rel
use Rattle.aut_steps.proofs.RelationLaws.{intersect_made}
use Rattle.aut_steps.specs.Ascending.{All}
use Rattle.aut_steps.proofs.ListLaws.{all_append}
use Rattle.aut_steps.proofs.Facts.{words_length}
use Rattle.aut_steps.specs.Scratch.{Kept}
use Rattle.aut_steps.proofs.Scratch.{kept_refl, words_append}
use Rattle.aut_steps.specs.Intern.{intern_l}
use Rattle.aut_steps.specs.Wf.{states, WfAut}
use Rattle.aut_steps.specs.StepSpec.{Gone}
use Rattle.aut_steps.proofs.StepSpec.{StepSpec, came, goes_return}
use Rattle.aut_steps.specs.Constructors as C
use Rattle.aut_steps.specs.Constructors.{met, meet_one, add_last, meet_finish, mk_spp, mk_top}
use Rattle.aut_states.specs.declared.Config.{Config}
use Rattle.aut_states.specs.declared.States.{States}
use Rattle.aut_states.specs.Clauses.{limits_of, states_of, seen, ListAsked}
use Rattle.aut_states.proofs.Slices.{part}
use Rattle.aut_relations.proofs.Behind.{left_any, words_behind}
use Rattle.aut_relations.proofs.Order as order
use Rattle.aut_relations.specs.declared.Aut.{Aut as Lent}
use Rattle.aut_relations.specs.Lent.{nodes_in, states_in, members_in, exprs_in, aut_in, Does}
use Rattle.aut_relations.proofs.Each.{Grows, makes_gives}
use Rattle.aut_union.specs.Clauses.{some_of, handle_of, met_of, UniteReady, AddReady, Adds}
use Rattle.aut_union.proofs.Gather.{Each, Gathers, put_left, behind_goes}
use Rattle.aut_union.proofs.Calls.{itself, handed, states_is, exprs_is, intersect_asked}
use Rattle.aut_intersect_base.specs.declared.Met.{Met}
use Rattle.aut_intersect_base.specs.Clauses.{met_at, nothing_of, alone_of, list_of, FinishReady, Finishes}

-- ---- one member

pub meet_gives : (N : ℕ) (st : List ℕ) (P : ℕ → Type 0) (t : Table) (x : ℕ) (p : C.Met) → Wf N t → ValidAt t N p.relation × All P p.others → Each N st P t x
    → Gives (Grows N (λ t p. ValidAt t N p.relation × All P p.others) t) (meet_one N st x p t)
unfolding meet_one
meet_gives N st P t x p w h v =
    branch (eqb (kind_of st x) TOP) (return p) (if eqb (kind_of st x) SPP then (Rel.intersect N p.relation (op1 st x) >>= (λ u. return (met true u p.others))) else return (met p.some p.relation (p.others ++ x ∷ []))) t
    (λ q. gives (record { ext = ext_refl t; wf = w; holds = h }))
    (λ _. branch (eqb (kind_of st x) SPP) (Rel.intersect N p.relation (op1 st x) >>= (λ u. return (met true u p.others))) (return (met p.some p.relation (p.others ++ x ∷ []))) t
    (λ q. call (makes_gives (intersect_made N t w p.relation (op1 st x) h.0 (v.0.handle (eqb-true (kind_of st x) SPP q)))) (λ t1 u d. gives (record { ext = d.ext; wf = d.wf; holds = (d.den.at, h.1) })))
    (λ q. gives (record { ext = ext_refl t; wf = w; holds = (h.0, all_append P p.others (x ∷ []) h.1 (v.1, tt)) })))

abbrev pub meeting : (N : ℕ) → Gathers N
meeting N = record {
  V = Met;
  A = C.Met;
  see = met_at N;
  many = λ p. p.others;
  relation = λ p. p.relation;
  others = λ p. p.others;
  one = meet_one N;
  start = met false (Rel.top_at N) [];
  start_at = λ w l. (den_top w N (omega arith)).at;
  start_none = refl;
  step = meet_gives N;
}

-- none yet
pub none_met : (N : ℕ) (s : List ℕ) (to : ℕ) → met_at N s to (record { relation = None; others = 0 }) ≡ met false (Rel.top_at N) []
unfolding words
none_met N s to = refl

module _ {N : ℕ} {x : Lent} {i to : ℕ} (p : Met) (R : UniteReady N x (handle_of N p.relation) i to p.others) where
  abbrev kinds : List ℕ
  kinds = x.states.words.now

  abbrev acc : C.Met
  acc = met_at N x.scratch.now to p

  abbrev sum : Step Table C.Met
  sum = meet_one N kinds i acc

  ways : Bool → Bool → Outcome Table C.Met
  ways c d = (if c then return acc else if d then (Rel.intersect N acc.relation (op1 kinds i) >>= (λ u. return (met true u acc.others))) else return (met acc.some acc.relation (acc.others ++ i ∷ []))) (nodes_in x)

  is_way : (c d : Bool) → eqb (kind_of kinds i) TOP ≡ c → eqb (kind_of kinds i) SPP ≡ d → sum (nodes_in x) ≡ ways c d
  unfolding meet_one ways
  is_way c d p q = ap₂ ways p q

  pub is_top : kind_of kinds i ≡ TOP → Does N (to + p.others) 1 nodes_in (met_at N x.scratch.now to) sum x (Ok p) x
  unfolding ways
  is_top e = itself (is_way true _ (eq-eqb _ _ e) refl)

  module _ (n : kind_of kinds i ≡ TOP → ⊥) where
    module _ (e : kind_of kinds i ≡ SPP) {g : ℕ} (q : g ≡ op1 kinds i) {h : ℕ} (d : handle_of N p.relation ≡ h) where
      sum_is : {o : Outcome Table ℕ} → Rel.intersect N h g (nodes_in x) ≡ o → sum (nodes_in x) ≡ after o (λ u. return (met true u acc.others))
      unfolding ways
      sum_is w = is_way false true (ne_eqb _ _ n) (eq-eqb _ _ e) ∙ ap (λ (o : Outcome Table ℕ). after o (λ u. return (met true u acc.others))) (ap₂ (λ (h g : ℕ). Rel.intersect N h g (nodes_in x)) d (sym q) ∙ w)

      pub joined : {y : Lent} {u : Handle} → Does N 0 0 nodes_in (λ h. h.0) (Rel.intersect N h g) x (Ok u) y → Does N (to + p.others) 1 nodes_in (met_at N y.scratch.now to) sum x (Ok (record { relation = Some u; others = p.others })) y
      joined {y} {u} D = record {
        is = sum_is D.is ∙ ap (λ (ys : List ℕ). given (nodes_in y) (met true u.0 ys)) (sym (words_behind to p.others D.left (omega arith) (omega (arith, R.room))));
        left = left_any (to + p.others) 1 D.left (omega (arith, R.room));
      }

      pub not_joined : {y : Lent} {V : Type 0} {see : V → C.Met} {see' : Handle → ℕ} {r : Result V Refusal} {f : Refusal} → IsErr r × IsErrAnd r (λ x. x ≡ f) → Does N 0 0 nodes_in see' (Rel.intersect N h g) x (Err f) y
          → Does N (to + p.others) 1 nodes_in see sum x r y
      not_joined {f = f} z D = handed f z (sum_is D.is)

    pub other : (kind_of kinds i ≡ SPP → ⊥) → {y : Lent} → nodes_in y ≡ nodes_in x → y.scratch.now ≡ set x.scratch.now (to + p.others) i
        → Does N (to + p.others) 1 nodes_in (met_at N y.scratch.now to) sum x (Ok (record { relation = p.relation; others = p.others + 1 })) y
    unfolding ways
    other e {y} t s = record {
      is = is_way false false (ne_eqb _ _ n) (ne_eqb _ _ e) ∙ ap₂ (λ (t : Table) (ys : List ℕ). given t (met acc.some acc.relation ys)) (sym t)
          (sym (ap (λ (s : List ℕ). words s to (p.others + 1)) s ∙ words_append x.scratch.now (i ∷ []) to p.others 1 refl (omega (arith, R.room, R.backed.room))));
      left = put_left (nodes_in y) (to + p.others) i R.room s;
    }

-- ---- the list's state

-- the list with the relation's state
last_goes : {N : ℕ} {L : Limits} {σ : Aut} → WfAut N L σ → (b : Bool) (h : ℕ) (others xs : List ℕ) → ValidAt σ.nodes N h → All (λ x. x < states σ) xs
    → StepSpec N L (λ τ ys. All (λ y. y < states τ) ys) σ (on_states (add_last (met b h others) xs) σ)
unfolding add_last
last_goes g true h others xs a l = behind_goes g h xs a l
last_goes g false h others xs a l = goes_return xs g l

module _ {c : Config} {x : Lent} {rel : Option Handle} {k : ℕ} (F : FinishReady c x rel k) where
  abbrev N : ℕ
  N = c.fields

  abbrev L : Limits
  L = limits_of c.limits

  abbrev b : Bool
  b = some_of rel

  abbrev h : ℕ
  h = handle_of N rel

  abbrev xs : List ℕ
  xs = words x.scratch.now 448 k

  pub add_ready : AddReady x.states.words.now x.scratch.now x.states.count 448 k
  add_ready = record { fits = order.fits F.good; room = omega (arith, F.few, F.room) }

  abbrev whole : List ℕ → Step Aut ℕ
  whole others = list_of L b h others xs

  abbrev Added : Result ℕ Refusal → States → List ℕ → Type 0
  Added r t s = (N : ℕ) (others : List ℕ) → Adds (add_last (met_of N rel others) xs) x.states r t x.scratch.now s 448 k

  abbrev interned : List ℕ → Step Aut ℕ
  interned ys = on_exprs (intern_l L INTERSECT ys)

  module _ {t : States} {s1 : List ℕ} where
    after_1 : {r : Result ℕ Refusal} → Added r t s1 → (others : List ℕ) → whole others (aut_in x) ≡ after (placed put_states (aut_in x) (outcome (words s1 448) r (states_of t))) interned
    after_1 D others = ap (λ (o : Outcome Table (List ℕ)). after (placed put_states (aut_in x) o) interned) (D N others).is

    pub not_listed : {e : Refusal} {r : Result ℕ Refusal} {y : Lent} → IsErr r × IsErrAnd r (λ x. x ≡ e) → Added (Err e) t s1 → y.scratch.now ≡ s1 → (others : List ℕ) → Finishes (whole others) x r y k
    not_listed {r = r} {y = y} z D s others = subst (λ (r : Result ℕ Refusal). Finishes (whole others) x r y k) (sym (passed z)) (record { is = after_1 D others; kept = subst (Kept (448 + k) 1 x.scratch.now) (sym s) (D N others).kept })

    module _ {m : ℕ} (D : Added (Ok m) t s1) (len1 : length s1 ≡ length x.scratch.now) where
      abbrev σ1 : Aut
      σ1 = aut (nodes_in x) (states_of t) (members_in x)

      few_1 : m ≤ k + 1
      few_1 = (D N []).few

      law : Gone N L (λ τ ys. All (λ y. y < states τ) ys) (aut_in x) σ1 (words s1 448 m)
      law = came (subst (StepSpec N L (λ τ ys. All (λ y. y < states τ) ys) (aut_in x)) (ap (placed put_states (aut_in x)) (D N []).is) (last_goes F.good b h [] xs F.handle F.states))

      abbrev ys : List ℕ
      ys = take (448 + m - 448) (drop 448 s1)

      ys_are : words s1 448 m ≡ ys
      ys_are = part s1 448 m (omega (arith, F.few, F.room, len1, few_1))

      pub list_ready : ListAsked (exprs (states_of t) (members_in x)) INTERSECT ys
      list_ready = intersect_asked law.good (subst (All (λ y. y < t.count)) ys_are law.holds)

      pub listed : {r : Result ℕ Refusal} {y : Lent} → nodes_in y ≡ nodes_in x → y.scratch.now ≡ s1 → intern_l L INTERSECT ys (exprs (states_of t) (members_in x)) ≡ seen r (exprs_in y) → (others : List ℕ) → Finishes (whole others) x r y k
      listed {r} {y} n s I others = record {
        is = after_1 D others ∙ ap (λ (ys : List ℕ). interned ys σ1) ys_are ∙ ap (placed put_exprs σ1) I ∙ exprs_is σ1 y r n;
        kept = subst (Kept (448 + k) 1 x.scratch.now) (sym s) (D N others).kept;
      }

  -- ---- meet_finish

  abbrev end : List ℕ → Step Aut ℕ
  end others = meet_finish N L (met_of N rel others) xs

  abbrev ends : Bool → Bool → List ℕ → Step Aut ℕ
  ends u v others = if u then on_states (mk_spp (Rel.zero_at N)) else if v then on_states (alone_of b h) else whole others

  is_end : (u v : Bool) → nothing_of N b h ≡ u → eqb k 0 ≡ v → (others : List ℕ) → end others (aut_in x) ≡ ends u v others (aut_in x)
  unfolding meet_finish
  is_end u v p q others = ap₂ (λ (u v : Bool). ends u v others (aut_in x)) p (ap (λ (j : ℕ). eqb j 0) (words_length x.scratch.now 448 k) ∙ q)

  module _ (t : States) {r : Result ℕ Refusal} {y : Lent} (e : aut_in y ≡ aut (nodes_in x) (states_of t) (members_in x)) (s : y.scratch.now ≡ x.scratch.now) where
    pub at_zero : nothing_of N b h ≡ true → {z : ℕ} → Rel.zero_at N ≡ z → mk_spp z (states_in x) ≡ seen r (states_of t) → (others : List ℕ) → Finishes (end others) x r y k
    at_zero f z w others = record {
      is = is_end true (eqb k 0) f refl others ∙ ap (placed put_states (aut_in x)) (ap (λ (z : ℕ). mk_spp z (states_in x)) z ∙ w) ∙ states_is x y t r e;
      kept = subst (Kept (448 + k) 1 x.scratch.now) (sym s) (kept_refl (448 + k) 1 x.scratch.now);
    }

    pub at_none : nothing_of N b h ≡ false → k ≡ 0 → alone_of b h (states_in x) ≡ seen r (states_of t) → (others : List ℕ) → Finishes (end others) x r y k
    at_none f q w others = record {
      is = is_end false true f (eq-eqb k 0 q) others ∙ ap (placed put_states (aut_in x)) w ∙ states_is x y t r e;
      kept = subst (Kept (448 + k) 1 x.scratch.now) (sym s) (kept_refl (448 + k) 1 x.scratch.now);
    }

  pub at_list : nothing_of N b h ≡ false → (k ≡ 0 → ⊥) → {r : Result ℕ Refusal} {y : Lent} → ((others : List ℕ) → Finishes (whole others) x r y k) → (others : List ℕ) → Finishes (end others) x r y k
  at_list f q D others =
      let d = D others in
      record { is = is_end false false f (ne_eqb k 0 q) others ∙ d.is; kept = d.kept }

pub is_nothing : (N : ℕ) (r : Option Handle) {z : Handle} {b : Bool} → Rel.zero_at N ≡ z.0 → b ≡ option_eq (λ g h. eqb g.0 h.0) r (Some z) → nothing_of N (some_of r) (handle_of N r) ≡ b
is_nothing N None d e = sym e
is_nothing N (Some h) d e = ap (eqb h.0) d ∙ sym e
