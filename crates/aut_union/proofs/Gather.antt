-- The relations of a list gathered into one, the other members behind a place of scratch: said once for unions and intersections. And the relation's state behind a list.
use Rattle.std.specs.Prelude.{if◌then◌else◌, not, Option, Some, None, Result, Ok, Err}
use mathlib.Core.Path.{◌≡◌, refl, sym, ◌∙◌, ap, ap₂, subst}
use mathlib.Core.Bool.{Bool, true, false}
use mathlib.Core.List.{List, [], ◌∷◌, ◌++◌}
use Prim.Native.Nat.{ℕ, ◌+◌, ◌≤◌, ◌<◌}
use native.Mathlib.Omega.{arith}
use lib.Dec.{eqb}
use lib.ListN.{length, get_or, set, length-set}
use borrow.Author.Tests.{eq-eqb, ne_eqb, eqb-true}
use Rattle.std.specs.Bool.{then_some}
use Rattle.std.specs.Result.{IsErr, IsErrAnd}
use Rattle.common.specs.Outcome.{Outcome, refused, given, Step, return, after, ◌>>=◌, Gives, gives}
use Rattle.common.proofs.Follow.{call, branch, given_of}
use Rattle.common.specs.Runs.{Table, placed}
use Rattle.refusal.specs.declared.Refusal.{Refusal}
use Rattle.refusal.specs.Numbers.{number_of}
use Rattle.refusal.proofs.Passed.{passed}
use Rattle.spp_steps.specs.Model.{is_zero}
use Rattle.spp_steps.specs.Wf.{Wf, Ext, ValidAt}
use Rattle.spp_steps.proofs.Laws.{ext_refl, at_ext, den_mem, den_zero}
use Rattle.spp.specs.declared.SPP.{SPP as Handle}
use Rattle.aut_steps.specs.Tables.{SPP, kind_of, op1, words, Limits, Aut, aut, put_states}
use Rattle.aut_steps.specs.Relations as Rel
use Rattle.aut_steps.proofs.RelationLaws.{union_made}
use Rattle.aut_steps.specs.Ascending.{All}
use Rattle.aut_steps.proofs.ListLaws.{all_append, all_map}
use Rattle.aut_steps.specs.Wf.{states, WfAut}
use Rattle.aut_steps.proofs.Wf.{grown_nodes, states_grown}
use Rattle.aut_steps.proofs.StepSpec.{StepSpec, placed_map, good_nodes}
use Rattle.aut_steps.proofs.StateLaws.{mk_spp_goes}
use Rattle.aut_steps.specs.Constructors as C
use Rattle.aut_steps.specs.Constructors.{parts, each, unite_one, add_relation, add_last, mk_spp}
use Rattle.aut_steps.proofs.Scratch.{kept_refl, kept_sets, words_append}
use Rattle.aut_states.specs.declared.Config.{Config}
use Rattle.aut_states.specs.declared.States.{States}
use Rattle.aut_states.specs.Clauses.{states_of}
use Rattle.aut_relations.specs.Behind.{LISTS, Modifies}
use Rattle.aut_relations.proofs.Kept.{keeps_refl, keeps_trans}
use Rattle.aut_relations.proofs.Behind.{left_any, left_kept, words_behind}
use Rattle.aut_relations.specs.Clauses.{RelAt}
use Rattle.aut_relations.specs.declared.Aut.{Aut as Lent}
use Rattle.aut_relations.specs.Lent.{nodes_in, states_in, members_in, aut_in, KeepsExprs, Does, Asked}
use Rattle.aut_relations.proofs.Order as order
use Rattle.aut_relations.proofs.Each.{Grows, Keeps, Turn, makes_gives, each_gives}
use Rattle.aut_relations.proofs.Each as turns
use Rattle.aut_union.specs.declared.Parts.{Parts}
use Rattle.aut_union.specs.Clauses.{some_of, handle_of, met_of, parts_at, UniteReady, UnitesReady, Adds, ListAt}

-- one word is written among the lists
pub put_left : {N : ℕ} {s s' : List ℕ} (t : Table) (a x : ℕ) → a < LISTS → s' ≡ set s a x → Modifies N a 1 t s s'
put_left {s = s} t a x l e = subst (Modifies _ a 1 t s) (sym e) (left_kept (kept_sets (x ∷ []) s a 1 a (omega arith) (omega arith)) (simp length-set) (omega arith))

-- ---- tables after a call

pub tables_after : {x y : Lent} → KeepsExprs x y → aut (nodes_in y) (states_in x) (members_in x) ≡ aut_in y
tables_after K = rw K.states (rw K.members refl)

-- ---- the members of a list, of which P holds

module _ (N : ℕ) (st : List ℕ) (P : ℕ → Type 0) where
  abbrev pub Each : Table → ℕ → Type 0
  Each t x = RelAt N t st x × P x

  pub each_later : (t t' : Table) (x : ℕ) → Ext t t' → Each t x → Each t' x
  each_later t t' x e v = (record { state = v.0.state; handle = λ k. at_ext e N (op1 st x) (v.0.handle k) }, v.1)

-- nothing but relations in order
unfoldable pub Any : ℕ → Type 0
Any x = Unit

pub members_of_lem : (N : ℕ) (st : List ℕ) (t : Table) (xs : List ℕ) → All (RelAt N t st) xs → All (Each N st Any t) xs
unfolding Any
members_of_lem N st t xs a = all_map xs (λ x r. (r, tt)) a

-- a step for each of a list of states
pub gathered : {N : ℕ} {L : Limits} {σ : Aut} {A : Type 0} {one : ℕ → A → Step Table A} {I : Table → A → Type 0} → WfAut N L σ → Keeps N one (Each N σ.states.words (λ x. x < states σ)) I
    → (xs : List ℕ) → All (λ x. x < states σ) xs → (a : A) → I σ.nodes a → {t1 : Table} {a1 : A} → each one xs a σ.nodes ≡ given t1 a1 → Grows N I σ.nodes t1 a1
gathered {σ = σ} g K xs h a i e = given_of (each_gives K xs σ.nodes a g.nodes i (all_map xs (λ x m. (order.rel_at g m, m)) h)) e

-- ---- a way to gather, for N fields

pub record Gathers (N : ℕ) : Type 1 where
  -- a value of the code and of the steps
  pub V : Type 0
  pub A : Type 0
  pub see : List ℕ → ℕ → V → A
  pub many : V → ℕ
  pub relation : A → ℕ
  pub others : A → List ℕ
  -- one more member, and what is there before the first
  pub one : List ℕ → ℕ → A → Step Table A
  pub start : A
  pub start_at : {t : Table} → Wf N t → N ≤ 31 → ValidAt t N (relation start)
  pub start_none : others start ≡ []
  pub step : (st : List ℕ) (P : ℕ → Type 0) (t : Table) (x : ℕ) (a : A) → Wf N t → ValidAt t N (relation a) × All P (others a) → Each N st P t x → Gives (Grows N (λ t a. ValidAt t N (relation a) × All P (others a)) t) (one st x a t)

module _ {N : ℕ} (G : Gathers N) where
  abbrev pub Held : (ℕ → Type 0) → Table → G.A → Type 0
  Held P t a = ValidAt t N (G.relation a) × All P (G.others a)

  keeps : (st : List ℕ) (P : ℕ → Type 0) → Keeps N (G.one st) (Each N st P) (Held P)
  keeps st P = record { later = each_later N st P; step = G.step st P }

  begun : {t : Table} (P : ℕ → Type 0) → Wf N t → N ≤ 31 → Held P t G.start
  begun P w l = (G.start_at w l, subst (All P) (sym G.start_none) tt)

  -- ---- the loop

  -- i members of the k at from are done; x was there before the first
  pub record Turned (x : Lent) (from k to : ℕ) (y : Lent) (v : G.V) (i : ℕ) : Type 0 where
    pub keeps : KeepsExprs x y
    pub turn : Turn N (G.one x.states.words.now) (Held Any) G.start (nodes_in x) x.scratch.now from k to (G.see y.scratch.now to v) (nodes_in y) y.scratch.now (G.many v) i

  abbrev All_of : Lent → ℕ → ℕ → Step Table G.A
  All_of x from k = each (G.one x.states.words.now) (words x.scratch.now from k) G.start

  module _ {x : Lent} {from k to : ℕ} (R : UnitesReady N x from k to) where
    abbrev st : List ℕ
    st = x.states.words.now

    abbrev K : Keeps N (G.one st) (Each N st Any) (Held Any)
    K = keeps st Any

    pub begin : (v : G.V) → G.see x.scratch.now to v ≡ G.start → G.many v ≡ 0 → Turned x from k to x v 0
    begin v e z = record {
      keeps = keeps_refl x;
      turn = subst (λ (a : G.A). Turn N (G.one st) (Held Any) G.start (nodes_in x) x.scratch.now from k to a (nodes_in x) x.scratch.now (G.many v) 0) (sym e)
          (subst (λ (m : ℕ). Turn N (G.one st) (Held Any) G.start (nodes_in x) x.scratch.now from k to G.start (nodes_in x) x.scratch.now m 0) (sym z)
          (turns.begin K G.start (nodes_in x) x.scratch.now from k to R.apart R.room R.backed (begun Any R.backed.wf R.backed.few)));
    }

    module _ {y : Lent} {v : G.V} {i : ℕ} (T : Turned x from k to y v i) where
      abbrev a : G.A
      a = G.see y.scratch.now to v

      module _ (l : i < k) {h : ℕ} where
        pub member : G.relation a ≡ h → UniteReady N y h (get_or y.scratch.now (from + i) 0) to (G.many v)
        member e = record {
          fields = T.keeps.spp.fields ∙ R.fields;
          backed = T.turn.backed;
          at_h = subst (ValidAt (nodes_in y) N) e T.turn.holds.0;
          at_x = rw T.keeps.states (turns.member K G.start (nodes_in x) x.scratch.now from k to R.apart R.room a (nodes_in y) y.scratch.now (G.many v) i T.turn l (members_of_lem N st (nodes_in x) (words x.scratch.now from k) R.at)).0;
          room = omega (arith, T.turn.few, l, R.room);
        }

      abbrev One : Step Table G.A
      One = G.one y.states.words.now (get_or y.scratch.now (from + i) 0) a

      module _ (l : i < k) {z : Lent} where
        pub stuck : {V : Type 0} {see : V → G.A} {see' : G.V → G.A} {r : Result V Refusal} {e : Refusal} {b n : ℕ} → IsErr r × IsErrAnd r (λ x. x ≡ e) → Does N b n nodes_in see' One y (Err e) z → Does N to k nodes_in see (All_of x from k) x r z
        stuck {V} {see} {r = r} {e = e} p D = subst (λ (r : Result V Refusal). Does N to k nodes_in see (All_of x from k) x r z) (sym (passed p)) (record {
          is = turns.stuck K G.start (nodes_in x) x.scratch.now from k to R.apart R.room a (nodes_in y) y.scratch.now (G.many v) i T.turn l (subst (λ (s : _). G.one s.words.now (get_or y.scratch.now (from + i) 0) a (nodes_in y) ≡ refused (number_of e)) T.keeps.states D.is);
          left = tt;
        })

        pub again : {w : G.V} → KeepsExprs y z → Does N (to + G.many v) 1 nodes_in (G.see z.scratch.now to) One y (Ok w) z → G.many w ≤ G.many v + 1 → Turned x from k to z w (i + 1)
        again {w} E D f = record {
          keeps = keeps_trans T.keeps E;
          turn = turns.again K G.start (nodes_in x) x.scratch.now from k to R.apart R.room a (nodes_in y) y.scratch.now (G.many v) i T.turn l (members_of_lem N st (nodes_in x) (words x.scratch.now from k) R.at)
              (G.see z.scratch.now to w) (nodes_in z) z.scratch.now (G.many w)
              (subst (λ (s : _). G.one s.words.now (get_or y.scratch.now (from + i) 0) a (nodes_in y) ≡ given (nodes_in z) (G.see z.scratch.now to w)) T.keeps.states D.is) D.left f E.scratch.length;
        }

      pub end : k ≤ i → Does N to k nodes_in (G.see y.scratch.now to) (All_of x from k) x (Ok v) y
      end l = record {
        is = turns.end K G.start (nodes_in x) x.scratch.now from k to R.apart R.room a (nodes_in y) y.scratch.now (G.many v) i T.turn l;
        left = T.turn.left;
      }

-- ---- in tables that are in order

-- they still are, and what was gathered is a relation and states
pub record First (c : Config) (G : Gathers c.fields) (y : Lent) (v : G.V) (to : ℕ) : Type 0 where
  pub asked : Asked c y
  pub holds : Held G (λ i. i < y.states.count) (nodes_in y) (G.see y.scratch.now to v)

module _ {c : Config} (G : Gathers c.fields) {x : Lent} (R : Asked c x) {from k to : ℕ} (A : ListAt x.scratch.now x.states.count from k to) (r : to + k ≤ LISTS) where
  pub each_ready : UnitesReady c.fields x from k to
  each_ready = record {
    fields = R.fields;
    backed = order.backed_of R.ready;
    at = all_map (words x.scratch.now from k) (λ i l. order.rel_at R.ready.good l) A.states;
    apart = A.apart;
    room = r;
  }

  module _ {y : Lent} (E : KeepsExprs x y) {v : G.V} (D : Does c.fields to k nodes_in (G.see y.scratch.now to) (All_of G x from k) x (Ok v) y) where
    grows : Grows c.fields (Held G (λ i. i < x.states.count)) (nodes_in x) (nodes_in y) (G.see y.scratch.now to v)
    grows =
        gathered R.ready.good (keeps G x.states.words.now (λ i. i < x.states.count)) (words x.scratch.now from k) A.states G.start
        (begun G (λ i. i < x.states.count) R.ready.good.nodes R.ready.few) D.is

    pub first_done : First c G y v to
    first_done = record {
      asked = record {
        fields = E.spp.fields ∙ R.fields;
        ready = rw E.states (rw E.members (order.ready_after R.ready (grown_nodes grows.ext) (good_nodes R.ready.good grows.ext grows.wf) D.left E.scratch.length));
      };
      holds = rw E.states grows.holds;
    }

-- ---- unions

-- one member
pub unite_gives : (N : ℕ) (st : List ℕ) (P : ℕ → Type 0) (t : Table) (x : ℕ) (p : C.Parts) → Wf N t → ValidAt t N p.relation × All P p.others → Each N st P t x
    → Gives (Grows N (λ t p. ValidAt t N p.relation × All P p.others) t) (unite_one N st x p t)
unfolding unite_one
unite_gives N st P t x p w h v =
    branch (eqb (kind_of st x) SPP) (Rel.union N p.relation (op1 st x) >>= (λ u. return (parts u p.others))) (return (parts p.relation (p.others ++ x ∷ []))) t
    (λ q. call (makes_gives (union_made N t w p.relation (op1 st x) h.0 (v.0.handle (eqb-true (kind_of st x) SPP q)))) (λ t1 u d. gives (record { ext = d.ext; wf = d.wf; holds = (d.den.at, h.1) })))
    (λ q. gives (record { ext = ext_refl t; wf = w; holds = (h.0, all_append P p.others (x ∷ []) h.1 (v.1, tt)) }))

abbrev pub uniting : (N : ℕ) → Gathers N
uniting N = record {
  V = Parts;
  A = C.Parts;
  see = parts_at;
  many = λ p. p.others;
  relation = λ p. p.relation;
  others = λ p. p.others;
  one = unite_one N;
  start = parts (Rel.zero_at N) [];
  start_at = λ w l. (den_zero w N (omega arith)).at;
  start_none = refl;
  step = unite_gives N;
}

-- none yet
pub none_united : (N : ℕ) (s : List ℕ) (to : ℕ) {z : Handle} → Rel.zero_at N ≡ z.0 → parts_at s to (record { relation = z; others = 0 }) ≡ parts (Rel.zero_at N) []
unfolding words
none_united N s to e = ap (λ (h : ℕ). parts h []) (sym e)

module _ {N : ℕ} {x : Lent} {i to : ℕ} (p : Parts) (R : UniteReady N x p.relation.0 i to p.others) where
  abbrev kinds : List ℕ
  kinds = x.states.words.now

  abbrev sum : Step Table C.Parts
  sum = unite_one N kinds i (parts_at x.scratch.now to p)

  module _ (e : kind_of kinds i ≡ SPP) {g : ℕ} (q : g ≡ op1 kinds i) where
    sum_is : {o : Outcome Table ℕ} → Rel.union N p.relation.0 g (nodes_in x) ≡ o → sum (nodes_in x) ≡ after o (λ u. return (parts u (words x.scratch.now to p.others)))
    unfolding unite_one
    sum_is {o} w = simp (eq-eqb (kind_of kinds i) SPP e) (ap (λ (o : Outcome Table ℕ). after o (λ u. return (parts u (words x.scratch.now to p.others)))) (ap (λ (g : ℕ). Rel.union N p.relation.0 g (nodes_in x)) (sym q) ∙ w))

    pub united : {y : Lent} {h : Handle} → Does N 0 0 nodes_in (λ h. h.0) (Rel.union N p.relation.0 g) x (Ok h) y → Does N (to + p.others) 1 nodes_in (parts_at y.scratch.now to) sum x (Ok (record { relation = h; others = p.others })) y
    united {y} {h} D = record {
      is = sum_is D.is ∙ ap (λ (ys : List ℕ). given (nodes_in y) (parts h.0 ys)) (sym (words_behind to p.others D.left (omega arith) (omega (arith, R.room))));
      left = left_any (to + p.others) 1 D.left (omega (arith, R.room));
    }

    pub not_united : {y : Lent} {V : Type 0} {see : V → C.Parts} {see' : Handle → ℕ} {r : Result V Refusal} {f : Refusal} → IsErr r × IsErrAnd r (λ x. x ≡ f) → Does N 0 0 nodes_in see' (Rel.union N p.relation.0 g) x (Err f) y
        → Does N (to + p.others) 1 nodes_in see sum x r y
    not_united {y} {V} {see} {r = r} z D = subst (λ (r : Result V Refusal). Does N (to + p.others) 1 nodes_in see sum x r y) (sym (passed z)) (record { is = sum_is D.is; left = tt })

  -- a member that is no relation
  pub other : (kind_of kinds i ≡ SPP → ⊥) → {y : Lent} → nodes_in y ≡ nodes_in x → y.scratch.now ≡ set x.scratch.now (to + p.others) i
      → Does N (to + p.others) 1 nodes_in (parts_at y.scratch.now to) sum x (Ok (record { relation = p.relation; others = p.others + 1 })) y
  unfolding unite_one
  other e {y} n s = record {
    is = simp (ne_eqb (kind_of kinds i) SPP e) (ap₂ (λ (t : Table) (ys : List ℕ). given t (parts p.relation.0 ys)) (sym n)
        (sym (ap (λ (s : List ℕ). words s to (p.others + 1)) s ∙ words_append x.scratch.now (i ∷ []) to p.others 1 refl (omega (arith, R.room, R.backed.room)))));
    left = put_left (nodes_in y) (to + p.others) i R.room s;
  }

-- ---- a state goes behind a list, or none

-- they are states
pub behind_goes : {N : ℕ} {L : Limits} {σ : Aut} → WfAut N L σ → (h : ℕ) (xs : List ℕ) → ValidAt σ.nodes N h → All (λ x. x < states σ) xs
    → StepSpec N L (λ τ ys. All (λ y. y < states τ) ys) σ (placed put_states σ (after (mk_spp h σ.states) (λ i. return (xs ++ i ∷ []))))
behind_goes {σ = σ} g h xs v a =
    placed_map put_states σ (mk_spp h σ.states) (λ i. xs ++ i ∷ []) (mk_spp_goes g (den_mem v)) (λ τ i w u s. all_append (λ y. y < states τ) xs (i ∷ []) (states_grown w xs a) (s.state, tt))

module _ {o : Step Table (List ℕ)} {x : States} {s : List ℕ} {at k : ℕ} where
  pub adds_none : o (states_of x) ≡ given (states_of x) (words s at k) → Adds o x (Ok k) x s s at k
  adds_none e = record { is = e; kept = kept_refl (at + k) 1 s; few = omega arith }

  -- w makes the state
  module _ {w : Outcome Table ℕ} (e : o (states_of x) ≡ after w (λ i. return (words s at k ++ i ∷ []))) where
    pub adds_refused : {y : States} {r : Result ℕ Refusal} (f : Refusal) → IsErr r × IsErrAnd r (λ x. x ≡ f) → w ≡ refused (number_of f) → Adds o x r y s s at k
    adds_refused {y} {r} f z q =
        subst (λ (r : Result ℕ Refusal). Adds o x r y s s at k) (sym (passed z))
        (record { is = e ∙ ap (λ (w : Outcome Table ℕ). after w (λ i. return (words s at k ++ i ∷ []))) q; kept = kept_refl (at + k) 1 s; few = tt })

    pub adds_state : {y : States} {i : ℕ} → at + k < length s → w ≡ given (states_of y) i → Adds o x (Ok (k + 1)) y s (set s (at + k) i) at k
    adds_state {y} {i} r q = record {
      is = e ∙ ap (λ (w : Outcome Table ℕ). after w (λ i. return (words s at k ++ i ∷ []))) q ∙ ap (given (states_of y)) (sym (words_append s (i ∷ []) at k 1 refl (omega arith)));
      kept = kept_sets (i ∷ []) s (at + k) 1 (at + k) (omega arith) (omega arith);
      few = omega arith;
    }

-- ---- the relation's state goes last

module _ (r : Option Handle) (N : ℕ) (t : Table) (xs others : List ℕ) where
  abbrev pub last : Outcome Table (List ℕ)
  last = add_last (met_of N r others) xs t

  is_last : {v : Option Handle} → r ≡ v → last ≡ (if some_of v then (mk_spp (handle_of N v) >>= (λ i. return (xs ++ i ∷ []))) else return xs) t
  unfolding add_last
  is_last e = ap (λ (r : Option Handle). (if some_of r then (mk_spp (handle_of N r) >>= (λ i. return (xs ++ i ∷ []))) else return xs) t) e

  pub none_last : r ≡ None → last ≡ given t xs
  none_last e = is_last e

  pub a_last : {h : Handle} → r ≡ Some h → last ≡ after (mk_spp h.0 t) (λ i. return (xs ++ i ∷ []))
  a_last e = is_last e

-- a relation that is zero stands for none
zero_last : (N : ℕ) (t : Table) (h : Handle) (xs : List ℕ) (b : Bool) → is_zero N N h.0 ≡ b → add_last (met_of N (then_some (not b) h) xs) xs t ≡ add_relation N (parts h.0 xs) t
unfolding add_last add_relation is_zero
zero_last N t h xs true e = sym (simp e)
zero_last N t h xs false e = sym (simp e)

pub as_state : (N : ℕ) (h : Handle) {b : Bool} {x y : States} {s s' : List ℕ} {at k : ℕ} {q : Option Handle} {r : Result ℕ Refusal} → is_zero N N h.0 ≡ b → q ≡ then_some (not b) h
    → Adds (add_last (met_of N q (words s at k)) (words s at k)) x r y s s' at k → Adds (add_relation N (parts h.0 (words s at k))) x r y s s' at k
as_state N h {b} {x = x} {s = s} {at = at} {k = k} e v D = record {
  is = sym (ap (λ (q : Option Handle). add_last (met_of N q (words s at k)) (words s at k) (states_of x)) v ∙ zero_last N (states_of x) h (words s at k) b e) ∙ D.is;
  kept = D.kept;
  few = D.few;
}
