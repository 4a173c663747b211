-- st_xor: the two stored lists, walked twice.
use mathlib.Core.Path.{◌≡◌, refl}
use mathlib.Core.List.{List}
use Prim.Native.Nat.{ℕ}
use lib.ListN.{length}
use Rattle.std.specs.Prelude.{Result, Ok, Err}
use Rattle.std.specs.Result.{IsErr, IsErrAnd}
use Rattle.common.specs.Outcome.{Step}
use Rattle.refusal.specs.declared.Refusal.{Refusal}
use Rattle.netkat_steps.specs.ListSteps as St
use Rattle.netkat_steps.specs.ListSteps.{Edge}
use Rattle.aut_steps.specs.Tables.{Aut}
use Rattle.aut_st_steps.specs.Operations.{ops}
use Rattle.aut_st_steps.specs.Edges.{edges}
use Rattle.aut_states.specs.Clauses.{limits_of}
use Rattle.aut_states.specs.declared.Config.{Config}
use Rattle.aut_relations.specs.declared.Aut.{Aut as Lent}
use Rattle.aut_relations.specs.Lent.{Keeps}
use Rattle.aut_st_insert.specs.Clauses.{RESULT, FIRST, SECOND, GoesInsert, GoesList}
use Rattle.aut_st_source.specs.declared.Source.{Source}
use Rattle.aut_st_source.specs.Clauses.{stored, scratched}
use Rattle.aut_st_stage.proofs.Turns.{source_in}
use Rattle.aut_st_edges.specs.Clauses.{Wrote, CopyReady}
use Rattle.aut_st_stage.proofs.Run.{written}
use Rattle.aut_st_stage.proofs.Waits.{Waits, waits, waits_as, with_two}
use Rattle.aut_st_ops.specs.Asked.{TwoAsked}
use Rattle.aut_st_xor.specs.Asked.{StoredAsked}
use Rattle.aut_st_xor.proofs.Joins as join
use Rattle.aut_st_xor.proofs.Joins.{Joins}

-- u and v are the lists that are walked
module _ {q : Config} {x : Lent} {a k b j : ℕ} {u v : Source} (R : StoredAsked q x a k b j) (u-is : u ≡ stored a k) (v-is : v ≡ stored b j) where
  abbrev minus : List Edge → List Edge → Step Aut (List Edge)
  minus = St.st_difference (ops q.fields (limits_of q.limits))

  abbrev ts : List Edge
  ts = edges x.transitions.words.now a k

  abbrev us : List Edge
  us = edges x.transitions.words.now b j

  -- a list made by the steps o, which stands at RESULT; the whole
  abbrev Lists : Lent → Step Aut (List Edge) → Result ℕ Refusal → Lent → Type 0
  Lists b o r y = GoesInsert q o b r y

  abbrev Whole : Result ℕ Refusal → Lent → Type 0
  Whole r y = GoesList q (St.st_xor (ops q.fields (limits_of q.limits)) ts us) x r y

  joins : Joins q x (St.st_xor (ops q.fields (limits_of q.limits)) ts us) (minus ts us) (minus us ts)
  unfolding St.st_xor
  joins = record { asked = R.first.asked; limit = R.first.limit; is = refl }

  first_0 : Waits q x u ts
  first_0 = waits_as (waits R.first.walked) u-is

  second_0 : Waits q x v us
  second_0 = waits_as (waits R.second) v-is

  abbrev One : Result ℕ Refusal → Lent → Type 0
  One r y = Lists x (minus (source_in u x) (source_in v x)) r y

  one : {r : Result ℕ Refusal} {y : Lent} → One r y → Lists x (minus ts us) r y
  one G = with_two first_0 second_0 minus G

  pub stuck_1 : {y : Lent} {e : Refusal} {r : Result ℕ Refusal} → IsErr r × IsErrAnd r (λ z. z ≡ e) → One (Err e) y → Whole r y
  stuck_1 p G = join.stuck_1 joins p (one G)

  module _ {y : Lent} {n : ℕ} (K1 : Keeps x y) (G1 : One (Ok n) y) where
    pub copy_1 : CopyReady y.scratch.now RESULT n FIRST
    copy_1 = join.copy_1 joins K1 (one G1)

    module _ {w : List ℕ} (C1 : Wrote FIRST n (edges y.scratch.now RESULT n) y.scratch.now w) (len1 : length w ≡ length y.scratch.now) where
      first_2 : Waits q (written y w) u ts
      first_2 = waits_as (join.stored_waits joins K1 (one G1) C1 len1 (waits R.first.walked)) u-is

      second_2 : Waits q (written y w) v us
      second_2 = waits_as (join.stored_waits joins K1 (one G1) C1 len1 (waits R.second)) v-is

      pub other_asked : TwoAsked q (written y w) v u
      other_asked = record { first = record { asked = (join.run_2 joins K1 (one G1) C1 len1).asked; limit = R.first.limit; walked = second_2.walked }; second = first_2.walked }

      abbrev Other : Result ℕ Refusal → Lent → Type 0
      Other r z = Lists (written y w) (minus (source_in v (written y w)) (source_in u (written y w))) r z

      other : {r : Result ℕ Refusal} {z : Lent} → Other r z → Lists (written y w) (minus us ts) r z
      other G = with_two second_2 first_2 minus G

      pub stuck_2 : {z : Lent} {e : Refusal} {r : Result ℕ Refusal} → IsErr r × IsErrAnd r (λ z. z ≡ e) → Other (Err e) z → Whole r z
      stuck_2 p G = join.stuck_2 joins K1 (one G1) C1 len1 p (other G)

      module _ {z : Lent} {m : ℕ} (K2 : Keeps (written y w) z) (G2 : Other (Ok m) z) where
        pub copy_2 : CopyReady z.scratch.now RESULT m SECOND
        copy_2 = join.copy_2 joins K1 (one G1) C1 len1 K2 (other G2)

        module _ {w' : List ℕ} (C2 : Wrote SECOND m (edges z.scratch.now RESULT m) z.scratch.now w') (len2 : length w' ≡ length z.scratch.now) {s t : Source} (first : s ≡ scratched FIRST n) (second : t ≡ scratched SECOND m) where
          pub join_asked : TwoAsked q (written z w') s t
          join_asked = join.join_asked joins K1 (one G1) C1 len1 K2 (other G2) C2 len2 first second

          pub joined : {r : Result ℕ Refusal} {o : Lent} → Lists (written z w') (St.st_union (ops q.fields (limits_of q.limits)) (source_in s (written z w')) (source_in t (written z w'))) r o → Whole r o
          joined G = join.joined joins K1 (one G1) C1 len1 K2 (other G2) C2 len2 first second G
