-- The operations on transition lists have alike runs on twins, since what they call has (netkat_steps, `Related`); and so has what delta puts together.
use mathlib.Core.Path.{refl}
use mathlib.Core.List.{List, [], ◌∷◌, map}
use Prim.Native.Nat.{ℕ}
use lib.Dec.{eqb, ltb}
use lib.ListN.{length}
use Rattle.common.specs.Outcome.{Step}
use Rattle.netkat_steps.specs.ListSteps.{Edge, enter, enter_in}
use Rattle.netkat_steps.proofs.Related.{Related, st_singleton_related, st_union_related, st_intersect_related, st_difference_related, st_xor_related, st_complement_related, st_postcompose_related, st_precompose_related, st_intersect_expr_related}
use Rattle.aut_steps.specs.Relations as Rel
use Rattle.aut_steps.specs.Tables.{SPP, UNION, INTERSECT, XOR, DIFFERENCE, COMPLEMENT, SEQUENCE, STAR, DUP, NEXT, UNTIL, Limits, Aut}
use Rattle.aut_st_steps.specs.Operations.{ops, complement}
use Rattle.aut_delta_steps.specs.Delta.{union_all, intersect_all, intersect_first, sequence_list, star_list, until_list, dup_list, top_list}
use Rattle.aut_delta_steps.specs.DeltaReads.{together_with}
use Rattle.aut_free.proofs.Alike.{AlikeRuns, stops, Respects}
use Rattle.aut_free.proofs.Twin.{TwinAut}
use Rattle.aut_free.proofs.Runs.{alike_bind, returns, test, bind}
use Rattle.aut_free.proofs.Constructors.{on_nodes_lem, on_states_lem, mk_spp_free, mk_top_free, mk_until_free, mk_union_free, mk_intersect_free, mk_difference_free, mk_complement_free, mk_sequence_free}

-- ---- the operations of the tables, on twins

enters_free : {f g : List ℕ} (N : ℕ) (L : Limits) (s l : ℕ) (us : List Edge) → Respects (TwinAut f g) (enter_in (ops N L) s l us)
unfolding enter_in
enters_free N L s l us = test (ltb (length us) L.transitions) (returns (enter (ops N L) s l us)) (λ σ τ r. stops)

pub ops_respect : {f g : List ℕ} (N : ℕ) (L : Limits) → Related (ops N L) (ops N L) (λ (A : Type 0) (c d : Step Aut A). (σ τ : Aut) → TwinAut f g σ τ → AlikeRuns (TwinAut f g) (c σ) (d τ))
ops_respect N L = record {
  returns = λ a. returns a;
  bind = λ p q σ τ r. alike_bind (p σ τ r) (λ σ₁ τ₁ a r₁. q a σ₁ τ₁ r₁);
  zero = refl;
  enters = enters_free N L;
  union = λ l m. on_nodes_lem (Rel.union N l m);
  intersect = λ l m. on_nodes_lem (Rel.intersect N l m);
  difference = λ l m. on_nodes_lem (Rel.difference N l m);
  sequence = λ l m. on_nodes_lem (Rel.sequence N l m);
  complement = λ l. on_nodes_lem (complement N l);
  mk_union = mk_union_free N L;
  mk_intersect = mk_intersect_free N L;
  mk_difference = mk_difference_free N L;
  mk_sequence = mk_sequence_free N L;
  mk_complement = λ x. on_states_lem (mk_complement_free N L x);
  mk_top = on_states_lem mk_top_free;
  mk_zero = on_states_lem (mk_spp_free (Rel.zero_at N));
}

-- ---- what delta puts together of the operands' lists

module _ {f g : List ℕ} (N : ℕ) (L : Limits) where
  pub union_all_free : (ess : List (List Edge)) (es : List Edge) → Respects (TwinAut f g) (union_all N L ess es)
  unfolding union_all
  union_all_free [] es = returns es
  union_all_free (us ∷ ess) es = bind (st_union_related (ops_respect N L) es us) (union_all_free ess)

  intersect_all_free : (ess : List (List Edge)) (es : List Edge) → Respects (TwinAut f g) (intersect_all N L ess es)
  unfolding intersect_all
  intersect_all_free [] es = returns es
  intersect_all_free (us ∷ ess) es = bind (st_intersect_related (ops_respect N L) es us) (intersect_all_free ess)

  pub intersect_first_free : (ess : List (List Edge)) → Respects (TwinAut f g) (intersect_first N L ess)
  intersect_first_free [] = returns []
  intersect_first_free (es ∷ ess) = intersect_all_free ess es

  pub sequence_list_free : (y ε : ℕ) (ts us : List Edge) → Respects (TwinAut f g) (sequence_list N L y ε ts us)
  unfolding sequence_list
  sequence_list_free y ε ts us = bind (st_postcompose_related (ops_respect N L) ts y) (λ late. bind (st_precompose_related (ops_respect N L) ε us) (λ early. st_union_related (ops_respect N L) late early))

  pub star_list_free : (x ε* : ℕ) (ts : List Edge) → Respects (TwinAut f g) (star_list N L x ε* ts)
  unfolding star_list
  star_list_free x ε* ts = bind (st_postcompose_related (ops_respect N L) ts x) (λ late. st_precompose_related (ops_respect N L) ε* late)

  pub until_list_free : (a b : ℕ) (ts us : List Edge) → Respects (TwinAut f g) (until_list N L a b ts us)
  unfolding until_list
  until_list_free a b ts us = bind (on_states_lem (mk_until_free L a b)) (λ u. bind (st_intersect_expr_related (ops_respect N L) ts u) (λ met. st_union_related (ops_respect N L) us met))

  pub dup_list_free : Respects (TwinAut f g) (dup_list N L)
  unfolding dup_list
  dup_list_free = bind (on_states_lem (mk_spp_free (Rel.one_at N))) (st_singleton_related (ops_respect N L) (Rel.one_at N))

  pub top_list_free : Respects (TwinAut f g) (top_list N L)
  unfolding top_list
  top_list_free = bind (on_states_lem mk_top_free) (st_singleton_related (ops_respect N L) (Rel.top_at N))

  pub together_free : (v : ℕ → List Edge) (e k x : ℕ) (ys : List ℕ) (a b : ℕ) → Respects (TwinAut f g) (together_with N L v e k x ys a b)
  unfolding together_with
  together_free v e k x ys a b =
      test (eqb k SPP) (returns [])
      (test (eqb k UNION) (union_all_free (map v ys) [])
      (test (eqb k INTERSECT) (intersect_first_free (map v ys))
      (test (eqb k XOR) (st_xor_related (ops_respect N L) (v a) (v b))
      (test (eqb k DIFFERENCE) (st_difference_related (ops_respect N L) (v a) (v b))
      (test (eqb k COMPLEMENT) (st_complement_related (ops_respect N L) (v a))
      (test (eqb k SEQUENCE) (sequence_list_free b e (v a) (v b))
      (test (eqb k STAR) (bind (on_nodes_lem (Rel.star N e)) (λ h. star_list_free x h (v a)))
      (test (eqb k DUP) dup_list_free
      (test (eqb k NEXT) (st_singleton_related (ops_respect N L) (Rel.top_at N) a)
      (test (eqb k UNTIL) (until_list_free a b (v a) (v b))
      top_list_free))))))))))
