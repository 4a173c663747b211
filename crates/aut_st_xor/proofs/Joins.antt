-- Two lists made and joined (st_xor, and delta of a Sequence): a run of calls (aut_st_stage) in which one waits at FIRST, the other at SECOND.
use mathlib.Core.Path.{◌≡◌}
use mathlib.Core.List.{List}
use Prim.Native.Nat.{ℕ, ◌≤◌}
use native.Mathlib.Omega.{arith}
use lib.ListN.{length}
use Rattle.std.specs.Prelude.{Result, Ok, Err}
use Rattle.std.specs.Result.{IsErr, IsErrAnd}
use Rattle.common.specs.Outcome.{Step, after, ◌>>=◌}
use Rattle.refusal.specs.declared.Refusal.{Refusal}
use Rattle.netkat_steps.specs.ListSteps as St
use Rattle.netkat_steps.specs.ListSteps.{Edge}
use Rattle.aut_steps.specs.Tables.{Aut}
use Rattle.aut_st_steps.specs.Operations.{ops}
use Rattle.aut_st_steps.specs.Edges.{edges}
use Rattle.aut_states.specs.Clauses.{limits_of}
use Rattle.aut_states.specs.declared.Config.{Config}
use Rattle.aut_relations.specs.declared.Aut.{Aut as Lent}
use Rattle.aut_relations.specs.Lent.{aut_in, Keeps, Asked}
use Rattle.aut_stage.proofs.Rule.{all_of}
use Rattle.aut_st_insert.specs.Clauses.{RESULT, FIRST, SECOND, GoesInsert, GoesList}
use Rattle.aut_st_insert.proofs.Join.{list_few}
use Rattle.aut_st_edges.specs.Clauses.{Wrote, CopyReady}
use Rattle.aut_st_source.specs.declared.Source.{Source}
use Rattle.aut_st_source.specs.Clauses.{stored, scratched}
use Rattle.aut_st_stage.proofs.Turns.{source_in}
use Rattle.aut_st_stage.proofs.Run.{list_made, Run, written, run_begin, run_next, run_stuck, run_finish}
use Rattle.aut_st_stage.proofs.Waits.{Waits, waits_as, with_two, waits_later, waits_copied, copy_ready, copy_waits, run_copied}
use Rattle.aut_st_ops.specs.Asked.{TwoAsked}

pub record Joins (k : Config) (x : Lent) (whole left right : Step Aut (List Edge)) : Type 0 where
  pub asked : Asked k x
  pub limit : k.limits.transitions ≤ 64
  pub is : whole (aut_in x) ≡ after (left (aut_in x)) (λ ls. right >>= St.st_union (ops k.fields (limits_of k.limits)) ls)

module _ {k : Config} {x : Lent} {whole left right : Step Aut (List Edge)} (J : Joins k x whole left right) where
  abbrev join : List Edge → List Edge → Step Aut (List Edge)
  join = St.st_union (ops k.fields (limits_of k.limits))

  -- a list made by the steps o, which stands at RESULT
  abbrev Lists : Lent → Step Aut (List Edge) → Result ℕ Refusal → Lent → Type 0
  Lists b o r y = GoesInsert k o b r y

  abbrev Whole : Result ℕ Refusal → Lent → Type 0
  Whole r y = GoesList k whole x r y

  run_0 : Run k 0 1088 whole (λ σ. after (left σ) (λ ls. right >>= join ls)) x x
  run_0 = run_begin J.asked J.is

  pub stuck_1 : {y : Lent} {e : Refusal} {r : Result ℕ Refusal} → IsErr r × IsErrAnd r (λ z. z ≡ e) → Lists x left (Err e) y → Whole r y
  stuck_1 q G = run_stuck (λ ls. right >>= join ls) run_0 q G

  module _ {y : Lent} {n : ℕ} (K1 : Keeps x y) (G1 : Lists x left (Ok n) y) where
    run_1 : Run k 0 1088 whole (λ σ. after (right σ) (join (edges y.scratch.now RESULT n))) x y
    run_1 = run_next (λ ls. right >>= join ls) run_0 list_made K1 G1

    pub copy_1 : CopyReady y.scratch.now RESULT n FIRST
    copy_1 = copy_ready y n J.limit G1.post.then.holds FIRST (omega arith) (omega arith) run_1.asked

    module _ {w : List ℕ} (C1 : Wrote FIRST n (edges y.scratch.now RESULT n) y.scratch.now w) (len1 : length w ≡ length y.scratch.now) where
      -- from here the second list is made
      pub run_2 : Run k 0 1088 whole (λ σ. after (right σ) (join (edges y.scratch.now RESULT n))) x (written y w)
      run_2 = run_copied y n J.limit G1.post.then.holds FIRST (omega arith) (omega arith) C1 len1 run_1

      pub stuck_2 : {z : Lent} {e : Refusal} {r : Result ℕ Refusal} → IsErr r × IsErrAnd r (λ z. z ≡ e) → Lists (written y w) right (Err e) z → Whole r z
      stuck_2 q G = run_stuck (join (edges y.scratch.now RESULT n)) run_2 q G

      -- a stored list, which is walked again
      pub stored_waits : {a i : ℕ} {es : List Edge} → Waits k x (stored a i) es → Waits k (written y w) (stored a i) es
      stored_waits W = waits_copied (waits_later W (all_of 0 832) K1 G1) FIRST n tt C1.kept

      module _ {z : Lent} {m : ℕ} (K2 : Keeps (written y w) z) (G2 : Lists (written y w) right (Ok m) z) where
        run_3 : Run k 0 1088 whole (join (edges y.scratch.now RESULT n) (edges z.scratch.now RESULT m)) x z
        run_3 = run_next (join (edges y.scratch.now RESULT n)) run_2 list_made K2 G2

        left_3 : Waits k z (scratched FIRST n) (edges y.scratch.now RESULT n)
        left_3 = waits_later (copy_waits y n J.limit G1.post.then.holds FIRST (omega arith) (omega arith) C1) (all_of 0 832) K2 G2

        pub copy_2 : CopyReady z.scratch.now RESULT m SECOND
        copy_2 = copy_ready z m J.limit G2.post.then.holds SECOND (omega arith) (omega arith) run_3.asked

        module _ {v : List ℕ} (C2 : Wrote SECOND m (edges z.scratch.now RESULT m) z.scratch.now v) (len2 : length v ≡ length z.scratch.now) where
          run_4 : Run k 0 1088 whole (join (edges y.scratch.now RESULT n) (edges z.scratch.now RESULT m)) x (written z v)
          run_4 = run_copied z m J.limit G2.post.then.holds SECOND (omega arith) (omega arith) C2 len2 run_3

          left_4 : Waits k (written z v) (scratched FIRST n) (edges y.scratch.now RESULT n)
          left_4 = waits_copied left_3 SECOND m (omega (arith, list_few y.scratch.now RESULT n G1.post.then.holds J.limit)) C2.kept

          right_4 : Waits k (written z v) (scratched SECOND m) (edges z.scratch.now RESULT m)
          right_4 = copy_waits z m J.limit G2.post.then.holds SECOND (omega arith) (omega arith) C2

          -- the sources that are joined
          module _ {s t : Source} (first : s ≡ scratched FIRST n) (second : t ≡ scratched SECOND m) where
            pub join_asked : TwoAsked k (written z v) s t
            join_asked = record { first = record { asked = run_4.asked; limit = J.limit; walked = (waits_as left_4 first).walked }; second = (waits_as right_4 second).walked }

            pub joined : {r : Result ℕ Refusal} {u : Lent} → Lists (written z v) (join (source_in s (written z v)) (source_in t (written z v))) r u → Whole r u
            joined G = run_finish run_4 list_made (with_two (waits_as left_4 first) (waits_as right_4 second) join G)
