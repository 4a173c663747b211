-- The chain of calls of an intersection: what each call is asked, and what the whole comes to.
use Rattle.std.specs.Prelude.{Result, Ok, Err}
use mathlib.Core.Path.{◌≡◌, refl, sym, ◌∙◌, ap, ap₂, subst}
use mathlib.Core.Bool.{false}
use mathlib.Core.List.{List, []}
use Prim.Native.Nat.{ℕ, ◌≤◌, ◌<◌}
use native.Mathlib.Omega.{arith}
use lib.ListN.{length}
use Rattle.std.specs.Result.{IsErr, IsErrAnd}
use Rattle.common.specs.Outcome.{Outcome, Step, after}
use Rattle.common.specs.Runs.{Table, table, placed}
use Rattle.refusal.specs.declared.Refusal.{Refusal}
use Rattle.spp_steps.specs.Wf.{ValidAt}
use Rattle.spp.specs.declared.SPPstore.{SPPstore}
use Rattle.aut_steps.specs.Tables.{words, Limits, Aut, put_nodes}
use Rattle.aut_steps.specs.Relations as Rel
use Rattle.aut_steps.specs.Ascending.{All}
use Rattle.aut_steps.proofs.ListLaws.{all_sorted}
use Rattle.aut_steps.specs.Lists.{sorted}
use Rattle.aut_steps.specs.Wf.{WfAut}
use Rattle.aut_steps.specs.Scratch.{Kept}
use Rattle.aut_steps.specs.Constructors as C
use Rattle.aut_steps.specs.Constructors.{met, each, meet_one, meet_finish, open_all, meet_opened}
use Rattle.aut_states.specs.declared.Config.{Config}
use Rattle.aut_states.specs.Clauses.{limits_of}
use Rattle.aut_scratch.specs.Clauses.{SortReady, Sorts}
use Rattle.aut_relations.specs.Behind.{Modifies}
use Rattle.aut_relations.proofs.Behind.{left_wide}
use Rattle.aut_relations.proofs.Order as order
use Rattle.aut_relations.specs.declared.Aut.{Aut as Lent}
use Rattle.aut_relations.specs.Lent.{nodes_in, aut_in, KeepsExprs, Does, Asked}
use Rattle.aut_union.specs.Clauses.{handle_of, met_of, ListAt}
use Rattle.aut_union.proofs.Gather.{First, first_done, tables_after}
use Rattle.aut_union.proofs.Calls.{left_then, handed, always}
use Rattle.aut_intersect_base.specs.declared.Met.{Met}
use Rattle.aut_intersect_base.specs.Clauses.{met_at, FinishReady, Finishes}
use Rattle.aut_intersect_base.proofs.Gather.{meeting}

-- ---- meet

module _ {c : Config} {x : Lent} {k : ℕ} (R : Asked c x) (A : ListAt x.scratch.now x.states.count 256 k 320) (few : k ≤ 64) where
  abbrev N : ℕ
  N = c.fields

  abbrev L : Limits
  L = limits_of c.limits

  abbrev whole : Step Aut ℕ
  whole = C.meet N L (words x.scratch.now 256 k)

  abbrev first : Step Table C.Met
  first = each (meet_one N x.states.words.now) (words x.scratch.now 256 k) (met false (Rel.top_at N) [])

  abbrev rest : C.Met → Step Aut ℕ
  rest p = meet_finish N L p (sorted p.others)

  after_1 : {o : Outcome Table C.Met} → first (nodes_in x) ≡ o → whole (aut_in x) ≡ after (placed put_nodes (aut_in x) o) rest
  unfolding C.meet
  after_1 e = ap (λ (o : Outcome Table C.Met). after (placed put_nodes (aut_in x) o) rest) e

  pub not_gathered : {y : Lent} {V : Type 0} {see : V → C.Met} {r : Result ℕ Refusal} (e : Refusal) → IsErr r × IsErrAnd r (λ x. x ≡ e) → Does N 320 k nodes_in see first x (Err e) y → Does N 320 256 aut_in (λ i. i) whole x r y
  not_gathered e p D = handed e p (after_1 D.is)

  module _ {y : Lent} {p : Met} (E : KeepsExprs x y) (D : Does N 320 k nodes_in (met_at N y.scratch.now 320) first x (Ok p) y) (few_1 : p.others ≤ k) where
    then_1 : First c (meeting N) y p 320
    then_1 = first_done (meeting N) R A (omega (arith, few)) E D

    abbrev others : List ℕ
    others = words y.scratch.now 320 p.others

    pub sort_ready : SortReady y.scratch.now 320 p.others 448
    sort_ready = record { small = order.small then_1.asked.ready.good others then_1.holds.1; apart = omega (arith, few, few_1); room = omega (arith, few, few_1, then_1.asked.ready.room) }

    module _ {q : ℕ} {s3 : List ℕ} (S : Sorts others q y.scratch.now s3 448 p.others) (len3 : length s3 ≡ length y.scratch.now) (w : Lent) (tables : aut_in w ≡ aut_in y) (s : w.scratch.now ≡ s3) where
      sorted_are : sorted others ≡ words w.scratch.now 448 q
      sorted_are = S.is ∙ ap (λ (s : List ℕ). words s 448 q) (sym s)

      pub finish_ready : FinishReady c w p.relation q
      finish_ready = record {
        fields = R.ready.few;
        good = subst (WfAut N L) (sym tables) then_1.asked.ready.good;
        handle = subst (λ (σ : Aut). ValidAt σ.nodes N (handle_of N p.relation)) (sym tables) then_1.holds.0;
        states = subst (λ (σ : Aut). All (λ i. i < σ.states.count) (words w.scratch.now 448 q)) (sym tables)
            (subst (All (λ i. i < y.states.count)) sorted_are ((all_sorted (λ i. i < y.states.count) others).0 then_1.holds.1));
        few = omega (arith, few, few_1, S.few);
        room = omega (arith, then_1.asked.ready.room, len3, ap length s);
      }

      pub done : {z : Lent} {r : Result ℕ Refusal} → z.spp ≡ w.spp → length z.scratch.now ≡ length w.scratch.now
          → ((others : List ℕ) → Finishes (meet_finish N L (met_of N p.relation others) (words w.scratch.now 448 q)) w r z q) → Does N 320 256 aut_in (λ i. i) whole x r z
      done {z} {r} n len4 F =
          let f = F others in
          let left_3 : Modifies N 320 256 (nodes_in y) x.scratch.now w.scratch.now =
          left_then (left_wide D.left (omega arith) (omega (arith, few))) (subst (Kept 448 p.others y.scratch.now) (sym s) S.kept) (ap length s ∙ len3) (omega arith) (omega (arith, few, few_1)) (omega arith) in
          let left_4 : Modifies N 320 256 (nodes_in y) x.scratch.now z.scratch.now = left_then left_3 f.kept len4 (omega arith) (omega (arith, few, few_1, S.few)) (omega arith) in
          record {
            is = after_1 D.is ∙ ap (rest (met_at N y.scratch.now 320 p)) (tables_after E)
                ∙ ap₂ (λ (ys : List ℕ) (σ : Aut). meet_finish N L (met_of N p.relation others) ys σ) sorted_are (sym tables) ∙ f.is;
            left = always r (subst (λ (τ : Table). Modifies N 320 256 τ x.scratch.now z.scratch.now) (sym (ap (λ (s : SPPstore). table s.nodes.now s.count) n ∙ ap (λ (σ : Aut). σ.nodes) tables)) left_4);
          }

-- ---- mk_intersect_n_base

pub opens : (c : Config) (x : Lent) (from k : ℕ) → C.mk_intersect_n_base c.fields (limits_of c.limits) (words x.scratch.now from k) (aut_in x)
    ≡ meet_opened c.fields (limits_of c.limits) (open_all c.limits.list x.states.words.now x.members.words.now (words x.scratch.now from k) []) (aut_in x)
unfolding C.mk_intersect_n_base
opens c x from k = refl
