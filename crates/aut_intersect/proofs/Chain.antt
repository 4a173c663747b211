-- The chain of calls of an intersection: what each call is asked, and what the whole comes to.
use Rattle.std.specs.Prelude.{Option, Some, Result, Ok, Err}
use Rattle.std.specs.Option.{ok_or}
use mathlib.Core.Path.{◌≡◌, refl, ◌∙◌, ap, subst}
use mathlib.Core.List.{List, []}
use Prim.Native.Nat.{ℕ, ◌+◌, ◌≤◌}
use native.Mathlib.Omega.{arith}
use native.Mathlib.Nat.{one-mul}
use lib.ListN.{length}
use Rattle.std.specs.Result.{IsErr, IsErrAnd}
use Rattle.common.specs.Outcome.{Outcome, Step, after}
use Rattle.refusal.specs.declared.Refusal.{Refusal}
use Rattle.refusal.specs.declared.Refusal.TheVariants as refusal
use Rattle.aut_steps.specs.Tables.{words, Limits, Aut}
use Rattle.aut_steps.specs.Relations as Rel
use Rattle.aut_steps.proofs.Products.{counted}
use Rattle.aut_steps.proofs.UnionLaws.{mk_union_n_goes}
use Rattle.aut_steps.specs.Constructors as C
use Rattle.aut_steps.specs.Constructors.{Within, within, sizes, open_all, count_all, mk_union_n, intersect_opened}
use Rattle.aut_states.specs.declared.Config.{Config}
use Rattle.aut_states.specs.Clauses.{limits_of}
use Rattle.aut_scratch.specs.Clauses.{OpenedAll, CountReady, Counts}
use Rattle.aut_relations.proofs.Order as order
use Rattle.aut_relations.specs.declared.Aut.{Aut as Lent}
use Rattle.aut_relations.specs.Lent.{aut_in, Keeps, Does, Asked}
use Rattle.aut_stage.specs.OnLent.{Goes}
use Rattle.aut_stage.proofs.Rule as rule
use Rattle.aut_stage.proofs.OnLent.{lent_laws, made}
use Rattle.aut_union.specs.Clauses.{ListAt}
use Rattle.aut_union.proofs.Calls.{not_done, handed, missing, ListExits, OfList, several, PairExits, OfPair}
use Rattle.aut_intersect_base.proofs.Opening as opening
use Rattle.aut_intersect.specs.Clauses.{BasesReady, AllStates}

abbrev no_products : Refusal → Result (Unit {0}) Refusal
no_products e = Err e

-- what holds after a call, without what its steps promise
does : {c : Config} {a n : ℕ} {V A : Type 0} {P : Aut → A → Type 0} {see : V → A} {o : Step Aut A} {x y : Lent} (r : Result V Refusal) → Goes c a n P see o x r y → Does c.fields a n aut_in see o x r y
does (Ok v) G = record { is = G.post.is; left = G.post.then.frame }
does (Err e) G = record { is = G.post.is; left = tt }

-- ---- distribute

module _ {c : Config} {x : Lent} {k : ℕ} (R : Asked c x) (A : ListAt x.scratch.now x.states.count 64 k 128) where
  abbrev N : ℕ
  N = c.fields

  abbrev L : Limits
  L = limits_of c.limits

  abbrev xs : List ℕ
  xs = words x.scratch.now 64 k

  abbrev whole : Step Aut ℕ
  whole = intersect_opened N L (within xs)

  abbrev count : Within ℕ
  count = count_all c.limits.products x.states.words.now xs 1

  pub count_ready : CountReady x.states.words.now xs c.limits.products × (64 + k ≤ length x.scratch.now)
  count_ready = (record { at = order.below R.ready.good xs A.states; limit = R.ready.products }, omega (arith, A.apart, R.ready.room))

  module _ {o : Option ℕ} (T : Counts count o) where
    pub too_many : {e : Refusal} → Err e ≡ ok_or o refusal.Products → {r : Result ℕ Refusal} → IsErr r × IsErrAnd r (λ x. x ≡ e) → {y : Lent} → Does N 128 448 aut_in (λ i. i) whole x r y
    too_many v p {y} = missing (λ (o : Option ℕ) (r : Result ℕ Refusal). Counts count o → Does N 128 448 aut_in (λ i. i) whole x r y) v p
        (λ T. not_done refusal.Products (ap (λ (o : Within ℕ). C.distribute N L xs o (aut_in x)) T.is)) T

  module _ {n : ℕ} {o : Option ℕ} (T : Counts count o) (some : o ≡ Some n) where
    K : Counts count (Some n)
    K = subst (Counts count) some T

    abbrev products : Step Aut (List ℕ)
    products = C.bases N L xs 0 n []

    pub bases_ready : BasesReady c x k n
    bases_ready = record { asked = R; list = A; products = omega (arith, counted c.limits.products x.states.words.now xs 1 n K.is, one-mul (sizes x.states.words.now xs)); few = K.few }

    after_count : whole (aut_in x) ≡ after (products (aut_in x)) (mk_union_n N L)
    after_count = ap (λ (o : Within ℕ). C.distribute N L xs o (aut_in x)) K.is

    module _ {y : Lent} where
      pub not_based : {e : Refusal} {r : Result ℕ Refusal} {z : Lent} → IsErr r × IsErrAnd r (λ x. x ≡ e) → Goes c 128 448 AllStates (λ u. words y.scratch.now 128 n) products x (no_products e) y → Does N 128 448 aut_in (λ i. i) whole x r z
      not_based {e} p G = handed e p (after_count ∙ ap (λ (o : Outcome Aut (List ℕ)). after o (mk_union_n N L)) G.post.is)

      module _ (E : Keeps x y) {v : Unit {0}} (G : Goes c 128 448 AllStates (λ u. words y.scratch.now 128 n) products x (Ok v) y) where
        asked : Asked c y
        asked = record { fields = E.spp.fields ∙ R.fields; ready = G.post.then.ready }

        pub union_asked : Asked c y × ListAt y.scratch.now y.states.count 128 n 256
        union_asked = (asked, record { states = G.post.then.holds; apart = omega (arith, K.few) })

        pub united : {r : Result ℕ Refusal} {z : Lent} → Keeps y z → Does N 256 320 aut_in (λ i. i) (mk_union_n N L (words y.scratch.now 128 n)) y r z → Does N 128 448 aut_in (λ i. i) whole x r z
        united {r} F D = does r (record {
          post = rule.finish (lent_laws N c.limits) 128 448
              (rule.next (lent_laws N c.limits) 128 448 G.post (rule.all_of 128 448) (mk_union_n N L) (rule.begin (lent_laws N c.limits) 128 448 R.ready after_count))
              r (made asked F (mk_union_n_goes G.post.then.ready.good (words y.scratch.now 128 n) G.post.then.holds) D).post (record { from = omega arith; to = omega arith });
        })

-- ---- mk_intersect_n

-- the members are opened
abbrev pub open_step : ℕ → Limits → List ℕ → Step Aut ℕ
open_step N L xs σ = intersect_opened N L (open_all L.list σ.states.words σ.members.words xs []) σ

pub list_exits : ListExits C.mk_intersect_n open_step
unfolding C.mk_intersect_n
list_exits N L ys σ = refl

abbrev pub of_list : OfList
of_list = record { whole = C.mk_intersect_n; rest = open_step; is = list_exits }

module _ {c : Config} {x : Lent} {from k : ℕ} (R : Asked c x) (A : ListAt x.scratch.now x.states.count from k 64) where
  abbrev all_n : Step Aut ℕ
  all_n = C.mk_intersect_n c.fields (limits_of c.limits) (words x.scratch.now from k)

  abbrev rest : Within (List ℕ) → Step Aut ℕ
  rest = intersect_opened c.fields (limits_of c.limits)

  abbrev open_n : Within (List ℕ)
  open_n = open_all c.limits.list x.states.words.now x.members.words.now (words x.scratch.now from k) []

  module _ (h : k ≤ c.limits.list) (p : k ≡ 1 → ⊥) {o : Option ℕ} {s1 : List ℕ} (O : OpenedAll open_n o x.scratch.now s1 64 c.limits.list) where
    pub too_long : {e : Refusal} → Err e ≡ ok_or o refusal.List → {r : Result ℕ Refusal} → IsErr r × IsErrAnd r (λ x. x ≡ e) → {y : Lent} → Does c.fields 64 512 aut_in (λ i. i) all_n x r y
    too_long v q = opening.too_long R A (omega arith) rest (several of_list c x from k h p) refusal.List refl O v q

    module _ {m : ℕ} (some : o ≡ Some m) (len1 : length s1 ≡ length x.scratch.now) (y : Lent) (tables : aut_in y ≡ aut_in x) (fields : y.spp.fields ≡ x.spp.fields) (s : y.scratch.now ≡ s1) where
      pub distribute_asked : Asked c y × ListAt y.scratch.now y.states.count 64 m 128
      distribute_asked = let p = opening.next_ready R A (omega arith) O some len1 y tables fields s in (p.0, p.1)

      pub distributed : {r : Result ℕ Refusal} {z : Lent} → Does c.fields 128 448 aut_in (λ i. i) (rest (within (words y.scratch.now 64 m))) y r z → Does c.fields 64 512 aut_in (λ i. i) all_n x r z
      distributed D = opening.next_done R A (omega arith) O some len1 y tables fields s rest (several of_list c x from k h p) (omega arith) D

-- ---- mk_intersect

pub pair_exits : PairExits C.mk_intersect Rel.intersect C.mk_intersect_n
unfolding C.mk_intersect
pair_exits N L x y σ = refl

abbrev pub of_pair : OfPair
of_pair = record { at = 0; n = 512; room = omega arith; whole = C.mk_intersect; relation = Rel.intersect; many = C.mk_intersect_n; is = pair_exits }
