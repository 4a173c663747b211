-- A list is made of one that is walked, and is copied, to wait for the last call: part of a run of calls (aut_stage).
use mathlib.Core.Path.{◌≡◌}
use mathlib.Core.List.{List}
use Prim.Native.Nat.{ℕ, ◌≤◌}
use lib.ListN.{length}
use Rattle.std.specs.Prelude.{Result, Ok, Err}
use Rattle.std.specs.Result.{IsErr, IsErrAnd}
use Rattle.common.specs.Outcome.{Step, after}
use Rattle.refusal.specs.declared.Refusal.{Refusal}
use Rattle.netkat_steps.specs.ListSteps.{Edge}
use Rattle.aut_steps.specs.Tables.{Aut}
use Rattle.aut_states.specs.declared.Config.{Config}
use Rattle.aut_relations.specs.declared.Aut.{Aut as Lent}
use Rattle.aut_relations.specs.Lent.{Keeps}
use Rattle.aut_st_insert.specs.Clauses.{RESULT, FIRST, SECOND, list_in, GoesInsert, GoesList}
use Rattle.aut_st_edges.specs.Clauses.{Wrote, CopyReady}
use Rattle.aut_st_source.specs.declared.Source.{Source}
use Rattle.aut_st_source.specs.Clauses.{scratched}
use Rattle.aut_st_stage.proofs.Turns.{source_in}
use Rattle.aut_st_stage.proofs.Run.{list_made, Run, written, run_next, run_stuck}
use Rattle.aut_st_stage.proofs.Waits.{Waits, with_it, copy_ready, copy_waits, run_copied}

-- by `make` of the list us, which u is in the tables x; f is left to do with it
module _ {k : Config} (limit : k.limits.transitions ≤ 64) {whole : Step Aut (List Edge)} {b x : Lent} {u : Source} {us : List Edge} (make : List Edge → Step Aut (List Edge)) (f : List Edge → Step Aut (List Edge))
    (g : Run k 0 1088 whole (λ σ. after (make us σ) f) b x) (W : Waits k x u us) where
  pub list_stuck : {y : Lent} {e : Refusal} {z : Result ℕ Refusal} → IsErr z × IsErrAnd z (λ x. x ≡ e) → GoesInsert k (make (source_in u x)) x (Err e) y → GoesList k whole b z y
  list_stuck q G = run_stuck f g q (with_it W make G)

  module _ {y : Lent} {n : ℕ} (K : Keeps x y) (G : GoesInsert k (make (source_in u x)) x (Ok n) y) where
    made : Run k 0 1088 whole (f (list_in y n)) b y
    made = run_next f g list_made K (with_it W make G)

    -- it is copied to `at`
    module _ (at : ℕ) (from : FIRST ≤ at) (to : at ≤ SECOND) where
      pub list_copy : CopyReady y.scratch.now RESULT n at
      list_copy = copy_ready y n limit G.post.then.holds at from to made.asked

      module _ {w : List ℕ} (C : Wrote at n (list_in y n) y.scratch.now w) where
        pub list_waits : Waits k (written y w) (scratched at n) (list_in y n)
        list_waits = copy_waits y n limit G.post.then.holds at from to C

        pub list_next : length w ≡ length y.scratch.now → Run k 0 1088 whole (f (list_in y n)) b (written y w)
        list_next len = run_copied y n limit G.post.then.holds at from to C len made
