-- The operations on transition lists are followed in longer tables, since what they call is (netkat_steps, `Related`).
use mathlib.Core.Path.{refl}
use mathlib.Core.List.{List}
use Prim.Native.Nat.{ℕ}
use lib.Dec.{ltb}
use lib.ListN.{length}
use Rattle.common.specs.Outcome.{Step}
use Rattle.netkat_steps.specs.ListSteps.{Edge, enter, enter_in}
use Rattle.netkat_steps.proofs.Related.{Related, insert_related, st_singleton_related, st_union_related, st_intersect_related, st_difference_related, st_xor_related, st_complement_related, st_postcompose_related, st_precompose_related, st_intersect_expr_related}
use Rattle.spp_steps.specs.Model as Spp
use Rattle.aut_steps.specs.Relations as Rel
use Rattle.aut_steps.specs.Tables.{Limits, Aut}
use Rattle.aut_st_steps.specs.Operations.{ops}
use Rattle.book_longer.specs.Longer.{Follows, same_refusal, Respects, ListsLonger}
use Rattle.book_longer.proofs.Follow.{follows_bind, returns, test}
use Rattle.book_longer.proofs.Relations.{apply_longer, complement_longer, sequence_longer}
use Rattle.book_longer.proofs.Anchored.{Anchor, InAut, nowhere, aut_plain}
use Rattle.book_longer.proofs.Constructors.{on_nodes_lem, on_states_lem, mk_spp_longer, mk_top_longer, mk_union_longer, mk_intersect_longer, mk_difference_longer, mk_complement_longer, mk_sequence_longer}

-- ---- the operations of the tables

enters_longer : {a : Anchor} (N : ℕ) (L : Limits) (s l : ℕ) (us : List Edge) → Respects (InAut a) (enter_in (ops N L) s l us)
unfolding enter_in
enters_longer N L s l us = test (ltb (length us) L.transitions) (returns (enter (ops N L) s l us)) (λ σ τ r. same_refusal)

pub ops_respect : {a : Anchor} (N : ℕ) (L : Limits) → Related (ops N L) (ops N L) (λ (A : Type 0) (c d : Step Aut A). (σ τ : Aut) → InAut a σ τ → Follows (InAut a) (c σ) (d τ))
ops_respect N L = record {
  returns = λ a. returns a;
  bind = λ p q σ τ r. follows_bind (p σ τ r) (λ σ₁ τ₁ a r₁. q a σ₁ τ₁ r₁);
  zero = refl;
  enters = enters_longer N L;
  union = λ l m. on_nodes_lem (apply_longer N N Spp.union l m);
  intersect = λ l m. on_nodes_lem (apply_longer N N Spp.intersect l m);
  difference = λ l m. on_nodes_lem (apply_longer N N Spp.difference l m);
  sequence = λ l m. on_nodes_lem (sequence_longer N N l m);
  complement = λ l. on_nodes_lem (complement_longer N N l);
  mk_union = mk_union_longer N L;
  mk_intersect = mk_intersect_longer N L;
  mk_difference = mk_difference_longer N L;
  mk_sequence = mk_sequence_longer N L;
  mk_complement = λ x. on_states_lem (mk_complement_longer N L x);
  mk_top = on_states_lem mk_top_longer;
  mk_zero = on_states_lem (mk_spp_longer (Rel.zero_at N));
}

-- ---- what is stated

pub lists_longer : (N : ℕ) (L : Limits) → ListsLonger N L
lists_longer N L =
    let o = ops_respect {a = nowhere} N L in
    record {
      insert = λ s l es. aut_plain (insert_related o s l es);
      singleton = λ l s. aut_plain (st_singleton_related o l s);
      union = λ ts us. aut_plain (st_union_related o ts us);
      intersect = λ ts us. aut_plain (st_intersect_related o ts us);
      difference = λ ts us. aut_plain (st_difference_related o ts us);
      xor = λ ts us. aut_plain (st_xor_related o ts us);
      complement = λ ts. aut_plain (st_complement_related o ts);
      postcompose = λ ts x. aut_plain (st_postcompose_related o ts x);
      precompose = λ l ts. aut_plain (st_precompose_related o l ts);
      intersect_expr = λ ts x. aut_plain (st_intersect_expr_related o ts x);
    }
