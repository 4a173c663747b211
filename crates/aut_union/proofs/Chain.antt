-- The chain of calls of a union: what each call is asked, and what the whole comes to.
use Rattle.std.specs.Prelude.{Option, Some, Result, Ok, Err}
use mathlib.Core.Path.{◌≡◌, refl, sym, ◌∙◌, ap, subst}
use mathlib.Core.List.{List, []}
use Prim.Native.Nat.{ℕ, ◌+◌, ◌-◌, ◌≤◌, ◌<◌}
use native.Mathlib.Omega.{arith}
use lib.Dec.{eqb}
use lib.ListN.{length, take, drop}
use Rattle.std.specs.Option.{ok_or}
use Rattle.std.specs.Result.{IsErr, IsErrAnd}
use Rattle.common.specs.Outcome.{Outcome, Step, after, ◌>>=◌}
use Rattle.common.specs.Runs.{Table, placed}
use Rattle.refusal.specs.declared.Refusal.{Refusal}
use Rattle.refusal.specs.declared.Refusal.TheVariants as refusal
use Rattle.spp_steps.specs.Wf.{ValidAt}
use Rattle.aut_steps.specs.Tables.{UNION, words, Limits, Aut, aut, exprs, put_nodes, put_states, put_exprs, on_states, on_exprs}
use Rattle.aut_steps.specs.Relations as Rel
use Rattle.aut_steps.specs.Ascending.{All}
use Rattle.aut_steps.proofs.ListLaws.{all_sorted}
use Rattle.aut_steps.specs.Lists.{sorted}
use Rattle.aut_steps.specs.Wf.{states, WfAut}
use Rattle.aut_steps.specs.StepSpec.{Gone}
use Rattle.aut_steps.proofs.StepSpec.{StepSpec, goes_return, came, branch_in}
use Rattle.aut_steps.specs.Constructors as C
use Rattle.aut_steps.specs.Constructors.{Parts, parts, each, unite_one, add_relation, mk_top, Opened, list, open_union, unite_opened}
use Rattle.aut_steps.specs.Scratch.{Kept}
use Rattle.aut_steps.proofs.Scratch.{kept_wide}
use Rattle.aut_states.specs.declared.Config.{Config}
use Rattle.aut_states.specs.declared.States.{States}
use Rattle.aut_states.specs.Clauses.{limits_of, states_of, seen, ListAsked}
use Rattle.aut_states.proofs.Slices.{part}
use Rattle.aut_scratch.specs.Clauses.{OpenReady, OpenedUnion, opened_of, SortReady, Sorts}
use Rattle.aut_scratch.specs.declared.Opened.{Opened as Answer}
use Rattle.aut_scratch.specs.declared.Opened.TheVariants as answer
use Rattle.aut_relations.specs.Behind.{Modifies}
use Rattle.aut_relations.proofs.Behind.{left_wide, left_kept}
use Rattle.aut_relations.proofs.Order as order
use Rattle.aut_relations.proofs.Opens.{AllOpen, union_states}
use Rattle.aut_relations.specs.declared.Aut.{Aut as Lent}
use Rattle.aut_relations.specs.Lent.{nodes_in, states_in, members_in, exprs_in, aut_in, KeepsExprs, Does, Asked}
use Rattle.aut_union.specs.declared.Parts.{Parts as Gathered}
use Rattle.aut_union.specs.Clauses.{parts_at, AddReady, Adds, ListAt}
use Rattle.aut_union.proofs.Gather.{First, uniting, first_done, tables_after, behind_goes}
use Rattle.aut_union.proofs.Calls.{left_then, not_done, handed, missing, always, states_is, exprs_is, Written, written_asked, written_done, ListExits, OfList, several, PairExits, OfPair, union_asked}

-- the list with the relation's state
added_goes : {N : ℕ} {L : Limits} {σ : Aut} → WfAut N L σ → (p : Parts) → ValidAt σ.nodes N p.relation → All (λ x. x < states σ) p.others
    → StepSpec N L (λ τ ys. All (λ y. y < states τ) ys) σ (on_states (add_relation N p) σ)
unfolding add_relation
added_goes {N} {L} {σ} g p h a =
    branch_in put_states σ (eqb p.relation (Rel.zero_at N)) _ _ σ.states
    (λ q. goes_return p.others g a)
    (λ q. behind_goes g p.relation p.others h a)

-- ---- unite

module _ {c : Config} {x : Lent} {k : ℕ} (R : Asked c x) (A : ListAt x.scratch.now x.states.count 256 k 320) (few : k ≤ 64) where
  abbrev N : ℕ
  N = c.fields

  abbrev L : Limits
  L = limits_of c.limits

  abbrev whole : Step Aut ℕ
  whole = C.unite N L (words x.scratch.now 256 k)

  abbrev first : Step Table Parts
  first = each (unite_one N x.states.words.now) (words x.scratch.now 256 k) (parts (Rel.zero_at N) [])

  abbrev rest1 : Parts → Step Aut ℕ
  rest1 p = on_states (add_relation N p) >>= λ ys. on_exprs (C.finish N L (sorted ys))

  abbrev rest2 : List ℕ → Step Aut ℕ
  rest2 ys = on_exprs (C.finish N L (sorted ys))

  after_1 : {o : Outcome Table Parts} → first (nodes_in x) ≡ o → whole (aut_in x) ≡ after (placed put_nodes (aut_in x) o) rest1
  unfolding C.unite
  after_1 e = ap (λ (o : Outcome Table Parts). after (placed put_nodes (aut_in x) o) rest1) e

  pub not_gathered : {y : Lent} {V : Type 0} {see : V → Parts} {r : Result ℕ Refusal} (e : Refusal) → IsErr r × IsErrAnd r (λ x. x ≡ e) → Does N 320 k nodes_in see first x (Err e) y → Does N 320 256 aut_in (λ i. i) whole x r y
  not_gathered e p D = handed e p (after_1 D.is)

  module _ {y : Lent} {p : Gathered} (E : KeepsExprs x y) (D : Does N 320 k nodes_in (parts_at y.scratch.now 320) first x (Ok p) y) (few_1 : p.others ≤ k) where
    then_1 : First c (uniting N) y p 320
    then_1 = first_done (uniting N) R A (omega (arith, few)) E D

    abbrev second : Step Table (List ℕ)
    second = add_relation N (parts_at y.scratch.now 320 p)

    after_2 : {o : Outcome Table (List ℕ)} → second (states_in y) ≡ o → whole (aut_in x) ≡ after (placed put_states (aut_in y) o) rest2
    after_2 e = after_1 D.is ∙ ap (rest1 (parts_at y.scratch.now 320 p)) (tables_after E) ∙ ap (λ (o : Outcome Table (List ℕ)). after (placed put_states (aut_in y) o) rest2) e

    pub add_ready : AddReady y.states.words.now y.scratch.now y.states.count 320 p.others
    add_ready = record { fits = order.fits then_1.asked.ready.good; room = omega (arith, few, few_1, then_1.asked.ready.room) }

    module _ {t : States} {s2 : List ℕ} where
      pub not_added : {z : Lent} {r : Result ℕ Refusal} (e : Refusal) → IsErr r × IsErrAnd r (λ x. x ≡ e) → Adds second y.states (Err e) t y.scratch.now s2 320 p.others → Does N 320 256 aut_in (λ i. i) whole x r z
      not_added e q B = handed e q (after_2 B.is)

      module _ {l : ℕ} (B : Adds second y.states (Ok l) t y.scratch.now s2 320 p.others) (len2 : length s2 ≡ length y.scratch.now) where
        abbrev σ2 : Aut
        σ2 = aut (nodes_in y) (states_of t) (members_in y)

        law_2 : Gone N L (λ τ ys. All (λ y. y < states τ) ys) (aut_in y) σ2 (words s2 320 l)
        law_2 = came (subst (StepSpec N L (λ τ ys. All (λ y. y < states τ) ys) (aut_in y)) (ap (placed put_states (aut_in y)) B.is) (added_goes then_1.asked.ready.good (parts_at y.scratch.now 320 p) then_1.holds.0 then_1.holds.1))

        pub sort_ready : SortReady s2 320 l 448
        sort_ready = record {
          small = order.small law_2.good (words s2 320 l) law_2.holds;
          apart = omega (arith, few, few_1, B.few);
          room = omega (arith, few, few_1, B.few, then_1.asked.ready.room, len2);
        }

        module _ {q : ℕ} {s3 : List ℕ} (S : Sorts (words s2 320 l) q s2 s3 448 l) (len3 : length s3 ≡ length s2) where
          abbrev ys : List ℕ
          ys = take (448 + q - 448) (drop 448 s3)

          ys_are : sorted (words s2 320 l) ≡ ys
          ys_are = S.is ∙ part s3 448 q (omega (arith, few, few_1, B.few, S.few, then_1.asked.ready.room, len2, len3))

          pub finish_ready : ListAsked (exprs (states_of t) (members_in y)) UNION ys × (N ≤ 31)
          finish_ready = (union_asked law_2.good (subst (All (λ y. y < t.count)) ys_are ((all_sorted (λ y. y < t.count) (words s2 320 l)).0 law_2.holds)), R.ready.few)

          left_3 : Modifies N 320 256 (nodes_in y) x.scratch.now s3
          left_3 =
              left_then
              (left_then (left_wide D.left (omega arith) (omega (arith, few))) B.kept len2 (omega arith) (omega (arith, few, few_1)) (omega arith))
              S.kept len3 (omega arith) (omega (arith, few, few_1, B.few)) (omega arith)

          pub done : {z : Lent} {r : Result ℕ Refusal} → nodes_in z ≡ nodes_in y → z.scratch.now ≡ s3 → C.finish N L ys (exprs (states_of t) (members_in y)) ≡ seen r (exprs_in z) → Does N 320 256 aut_in (λ i. i) whole x r z
          done {z} {r} n s f = record {
            is = after_2 B.is ∙ ap (λ (ys : List ℕ). placed put_exprs σ2 (C.finish N L ys (exprs (states_of t) (members_in y)))) ys_are ∙ ap (placed put_exprs σ2) f ∙ exprs_is σ2 z r n;
            left = always r (subst (λ (τ : Table). Modifies N 320 256 τ x.scratch.now z.scratch.now) (sym n) (subst (Modifies N 320 256 (nodes_in y) x.scratch.now) (sym s) left_3));
          }

-- ---- mk_union_n

-- the members are opened
abbrev pub opening : ℕ → Limits → List ℕ → Step Aut ℕ
opening N L xs σ = unite_opened N L (open_union L.list σ.states.words σ.members.words xs []) σ

pub list_exits : ListExits C.mk_union_n opening
unfolding C.mk_union_n
list_exits N L xs σ = refl

abbrev pub of_list : OfList
of_list = record { whole = C.mk_union_n; rest = opening; is = list_exits }

module _ {c : Config} {x : Lent} {from k : ℕ} (R : Asked c x) (A : ListAt x.scratch.now x.states.count from k 256) where
  abbrev all_n : Step Aut ℕ
  all_n = C.mk_union_n c.fields (limits_of c.limits) (words x.scratch.now from k)

  abbrev open_n : Opened
  open_n = open_union c.limits.list x.states.words.now x.members.words.now (words x.scratch.now from k) []

  pub open_ready : OpenReady x.states.words.now x.members.words.now x.scratch.now c.limits.list UNION from k 256
  open_ready = record { at = order.open_union_at R.ready.good (words x.scratch.now from k) A.states; limit = R.ready.list; apart = A.apart; room = omega (arith, R.ready.list, R.ready.room) }

  module _ (h : k ≤ c.limits.list) (p : k ≡ 1 → ⊥) {r1 : Option Answer} {s1 : List ℕ} (O : OpenedUnion open_n r1 x.scratch.now s1 256 c.limits.list) where
    after_open : all_n (aut_in x) ≡ unite_opened c.fields (limits_of c.limits) (opened_of r1 s1 256) (aut_in x)
    after_open = several of_list c x from k h p ∙ ap (λ (o : Opened). unite_opened c.fields (limits_of c.limits) o (aut_in x)) O.is

  module _ (h : k ≤ c.limits.list) (p : k ≡ 1 → ⊥) {r1 : Option Answer} {s1 : List ℕ} (O : OpenedUnion open_n r1 x.scratch.now s1 256 c.limits.list) where
    told : {v : Option Answer} → r1 ≡ v → OpenedUnion open_n v x.scratch.now s1 256 c.limits.list
    told e = subst (λ (r : Option Answer). OpenedUnion open_n r x.scratch.now s1 256 c.limits.list) e O

    pub too_long : {e : Refusal} → Err e ≡ ok_or r1 refusal.List → {r : Result ℕ Refusal} → IsErr r × IsErrAnd r (λ x. x ≡ e) → {y : Lent} → Does c.fields 256 320 aut_in (λ i. i) all_n x r y
    too_long v q {y} = missing (λ (o : Option Answer) (r : Result ℕ Refusal). r1 ≡ o → Does c.fields 256 320 aut_in (λ i. i) all_n x r y) v q (λ e. not_done refusal.List (after_open h p (told e))) refl

    module _ (len1 : length s1 ≡ length x.scratch.now) where
      -- Top is among them
      pub meets_top : r1 ≡ Some answer.Top → (t : States) {r : Result ℕ Refusal} {y : Lent} → mk_top (states_in x) ≡ seen r (states_of t) → aut_in y ≡ aut (nodes_in x) (states_of t) (members_in x) → y.scratch.now ≡ s1
          → Does c.fields 256 320 aut_in (λ i. i) all_n x r y
      meets_top e t {r} {y} q z s = record {
        is = after_open h p (told e) ∙ ap (placed put_states (aut_in x)) q ∙ states_is x y t r z;
        left = always r (subst (λ (σ : Aut). Modifies c.fields 256 320 σ.nodes x.scratch.now y.scratch.now) (sym z) (subst (Modifies c.fields 256 320 (nodes_in x) x.scratch.now) (sym s)
            (left_wide (left_kept O.kept len1 (omega (arith, R.ready.list))) (omega arith) (omega (arith, R.ready.list)))));
      }

      -- a list
      module _ {m : ℕ} (e : r1 ≡ Some (answer.List m)) where
        few_m : m ≤ 64
        few_m = omega (arith, R.ready.list, (told e).few)

        module _ (y : Lent) (tables : aut_in y ≡ aut_in x) (fields : y.spp.fields ≡ x.spp.fields) (s : y.scratch.now ≡ s1) where
          written : Written 256 m x y
          written = record {
            kept = subst (Kept 256 64 x.scratch.now) (sym s) (kept_wide O.kept (omega arith) (omega (arith, R.ready.list)));
            len = ap length s ∙ len1;
            few = few_m;
            states = subst (λ (s : List ℕ). All (λ i. i < x.states.count) (words s 256 m)) (sym s)
                (subst (AllOpen (λ i. i < x.states.count)) (told e).is (union_states R.ready.good c.limits.list (words x.scratch.now from k) [] A.states tt));
            tables = tables;
            fields = fields;
          }

          pub unite_ready : Asked c y × ListAt y.scratch.now y.states.count 256 m 320 × (m ≤ 64)
          unite_ready =
              let q = written_asked written R (omega arith) in
              (q.0, q.1, few_m)

          pub united : {r : Result ℕ Refusal} {z : Lent} → Does c.fields 320 256 aut_in (λ i. i) (C.unite c.fields (limits_of c.limits) (words y.scratch.now 256 m)) y r z → Does c.fields 256 320 aut_in (λ i. i) all_n x r z
          united D = written_done written (omega arith) (after_open h p (told e) ∙ ap (λ (s : List ℕ). C.unite c.fields (limits_of c.limits) (words s 256 m) (aut_in x)) (sym s)) D

-- ---- mk_union

pub pair_exits : PairExits C.mk_union Rel.union C.mk_union_n
unfolding C.mk_union
pair_exits N L x y σ = refl

abbrev pub of_pair : OfPair
of_pair = record { at = 192; n = 320; room = omega arith; whole = C.mk_union; relation = Rel.union; many = C.mk_union_n; is = pair_exits }
