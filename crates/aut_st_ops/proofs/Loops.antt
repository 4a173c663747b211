-- What the loops begin with; and a loop over a list behind other steps, as a run of calls (aut_st_stage).
use mathlib.Core.Path.{◌≡◌, refl, ap, subst}
use mathlib.Core.List.{List, []}
use Prim.Native.Nat.{ℕ}
use Rattle.std.specs.Prelude.{Result, Ok, Err}
use Rattle.std.specs.Result.{IsErr, IsErrAnd}
use Rattle.common.specs.Outcome.{Step, after}
use Rattle.refusal.specs.declared.Refusal.{Refusal}
use Rattle.netkat_steps.specs.ListSteps as St
use Rattle.netkat_steps.specs.ListSteps.{Edge, Summed}
use Rattle.aut_steps.specs.Tables.{Aut}
use Rattle.aut_steps.specs.Relations.{zero_at}
use Rattle.aut_st_steps.specs.Operations.{ops}
use Rattle.aut_st_steps.specs.Edges.{edges}
use Rattle.aut_st_steps.specs.EachSteps as M
use Rattle.aut_st_steps.specs.EachSteps.{EachAt}
use Rattle.aut_st_steps.specs.ListSpec.{ListAt, Label}
use Rattle.aut_st_steps.proofs.ListSpec.{zero_label}
use Rattle.aut_states.specs.Clauses.{limits_of}
use Rattle.aut_states.specs.declared.Config.{Config}
use Rattle.aut_relations.specs.declared.Aut.{Aut as Lent}
use Rattle.aut_relations.specs.Lent.{aut_in, Keeps}
use Rattle.aut_stage.specs.OnLent.{Goes}
use Rattle.aut_stage.proofs.Rule.{all_of}
use Rattle.aut_st_insert.specs.Clauses.{list_in, GoesInsert}
use Rattle.aut_st_insert.proofs.Join.{list_none}
use Rattle.aut_st_source.specs.declared.Source.{Source}
use Rattle.aut_st_stage.proofs.Turns.{source_in}
use Rattle.aut_st_stage.proofs.Run.{Run, run_begin, run_next, run_stuck, run_finish}
use Rattle.aut_st_stage.proofs.Waits.{Waits, waits, waits_later, with_it}
use Rattle.aut_st_each.specs.Asked.{EachAsked, PairsAsked, OneAsked}
use Rattle.aut_st_minus.specs.Clauses.{RowsAsked}
use Rattle.aut_st_ops.specs.Asked.{TwoAsked}

-- ---- the list at RESULT is empty

pub same_asked : {k : Config} {x : Lent} {z : Source} → OneAsked k x z → EachAsked k x M.same z 0
same_asked R = record { list = list_none R.asked R.limit; operands = tt; walked = R.walked }

pub pairs_asked : {k : Config} {x : Lent} {u v : Source} → TwoAsked k x u v → PairsAsked k x u v 0
pairs_asked R = record { list = list_none R.first.asked R.first.limit; first = R.first.walked; second = R.second }

pub rows_asked : {k : Config} {x : Lent} {u v : Source} → TwoAsked k x u v → {h : ℕ} → zero_at k.fields ≡ h → RowsAsked k x u v h 0
rows_asked {k = k} {x = x} R e = record { list = list_none R.first.asked R.first.limit; first = R.first.walked; second = R.second; sum = subst (Label k.fields (aut_in x)) e (zero_label R.first.asked.ready.good) }

-- ---- a loop behind other steps

-- `whole` does the steps `first`, which come to a value b; then what `each b` makes of each transition of z is inserted into the list of b
pub record Behind (k : Config) (x : Lent) (z : Source) {B : Type 0} (whole : Step Aut (List Edge)) (first : Step Aut B) (each : B → M.Each) (list : B → List Edge) : Type 0 where
  pub asked : OneAsked k x z
  pub is : whole (aut_in x) ≡ after (first (aut_in x)) (λ b. St.insert_each (ops k.fields (limits_of k.limits)) (M.made k.fields (limits_of k.limits) (each b)) (source_in z x) (list b))

module _ {k : Config} {x : Lent} {z : Source} {B : Type 0} {whole : Step Aut (List Edge)} {first : Step Aut B} {each : B → M.Each} {list : B → List Edge} (R : Behind k x z whole first each list) where
  abbrev loop : List Edge → B → Step Aut (List Edge)
  loop es b = St.insert_each (ops k.fields (limits_of k.limits)) (M.made k.fields (limits_of k.limits) (each b)) es (list b)

  -- a list made, which stands at RESULT
  abbrev Lists : Lent → Step Aut (List Edge) → Result ℕ Refusal → Lent → Type 0
  Lists b o r y = GoesInsert k o b r y

  run_0 : Run k 0 832 whole (λ σ. after (first σ) (loop (source_in z x))) x x
  run_0 = run_begin R.asked.asked R.is

  module _ {P : Aut → B → Type 0} {V : Type 0} {see : V → B} {y : Lent} where
    pub first_stuck : {e : Refusal} {r : Result ℕ Refusal} → IsErr r × IsErrAnd r (λ e'. e' ≡ e) → Goes k 0 832 P see first x (Err e) y → Lists x whole r y
    first_stuck q G = run_stuck (loop (source_in z x)) run_0 q G

    module _ {v : V} (K : Keeps x y) (G : Goes k 0 832 P see first x (Ok v) y) where
      run_1 : Run k 0 832 whole (loop (source_in z x) (see v)) x y
      run_1 = run_next (loop (source_in z x)) run_0 (all_of 0 832) K G

      z_waits : Waits k y z (source_in z x)
      z_waits = waits_later (waits R.asked.walked) (all_of 0 832) K G

      pub loop_asked : {n : ℕ} → ListAt k.fields (limits_of k.limits) (aut_in y) (list_in y n) → EachAt k.fields (aut_in y) (each (see v)) → EachAsked k y (each (see v)) z n
      loop_asked p q = record { list = record { asked = run_1.asked; list = p; limit = R.asked.limit }; operands = q; walked = z_waits.walked }

      pub loop_done : {r : Result ℕ Refusal} {w : Lent} → Lists y (loop (source_in z y) (see v)) r w → Lists x whole r w
      loop_done H = run_finish run_1 (all_of 0 832) (with_it z_waits (λ es. loop es (see v)) H)

-- ---- st_union, st_difference

module _ {k : Config} {x : Lent} {u v : Source} (R : TwoAsked k x u v) where
  pub union_loops : Behind k x v (St.st_union (ops k.fields (limits_of k.limits)) (source_in u x) (source_in v x))
      (St.insert_each (ops k.fields (limits_of k.limits)) (M.made k.fields (limits_of k.limits) M.same) (source_in u x) (list_in x 0)) (λ es. M.same) (λ es. es)
  unfolding St.st_union edges
  union_loops = record { asked = record { asked = R.first.asked; limit = R.first.limit; walked = R.second }; is = refl }

  pub difference_loops : {h : ℕ} → zero_at k.fields ≡ h → Behind k x u (St.st_difference (ops k.fields (limits_of k.limits)) (source_in u x) (source_in v x))
      (St.subtract_rows (ops k.fields (limits_of k.limits)) (source_in u x) (source_in v x) (record { sum = h; result = list_in x 0 })) (λ q. M.rest q.sum) (λ q. q.result)
  unfolding St.st_difference edges
  difference_loops q = record {
    asked = R.first;
    is = ap (λ (h : ℕ). after (St.subtract_rows (ops k.fields (limits_of k.limits)) (source_in u x) (source_in v x) (record { sum = h; result = [] }) (aut_in x)) (λ (s : Summed). St.insert_each (ops k.fields (limits_of k.limits)) (M.made k.fields (limits_of k.limits) (M.rest s.sum)) (source_in u x) s.result)) q;
  }
