-- The lists of a Sequence, a Star and an LtlUntil, as runs of calls (aut_stage). The first list made waits at FIRST, the second at SECOND.
use mathlib.Core.Path.{◌≡◌, refl}
use mathlib.Core.List.{List}
use Prim.Native.Nat.{ℕ}
use native.Mathlib.Omega.{arith}
use lib.ListN.{length}
use Rattle.std.specs.Prelude.{Result, Ok, Err}
use Rattle.std.specs.Result.{IsErr, IsErrAnd}
use Rattle.common.specs.Outcome.{Step, after}
use Rattle.common.specs.Runs.{table}
use Rattle.slices.specs.Same.{SameSlice}
use Rattle.refusal.specs.declared.Refusal.{Refusal}
use Rattle.refusal.specs.Numbers.{outcome}
use Rattle.netkat_steps.specs.ListSteps as St
use Rattle.netkat_steps.specs.ListSteps.{Edge}
use Rattle.aut_steps.specs.Tables.{UNTIL, Aut, on_states}
use Rattle.aut_steps.specs.Constructors.{mk_until}
use Rattle.aut_steps.proofs.StepSpec.{goes_map}
use Rattle.aut_steps.proofs.StateLaws.{mk_until_goes}
use Rattle.aut_st_steps.specs.Operations.{ops}
use Rattle.aut_st_steps.specs.Edges.{edges}
use Rattle.aut_st_steps.specs.ListSpec.{Label, State}
use Rattle.aut_st_steps.proofs.ListSpec.{label_grown}
use Rattle.aut_delta_steps.specs.Delta.{sequence_list, star_list, until_list}
use Rattle.aut_states.specs.Clauses.{limits_of, Ready2}
use Rattle.aut_states.specs.declared.Config.{Config}
use Rattle.aut_states.specs.declared.States.{States}
use Rattle.aut_relations.specs.declared.Aut.{Aut as Lent}
use Rattle.aut_relations.specs.Lent.{states_in, aut_in, Keeps}
use Rattle.aut_relations.proofs.Order.{ready_until}
use Rattle.aut_stage.specs.OnLent.{Goes}
use Rattle.aut_stage.proofs.Rule.{all_of}
use Rattle.aut_st_insert.specs.Clauses.{RESULT, FIRST, SECOND, list_in, GoesInsert, GoesList}
use Rattle.aut_st_edges.specs.Clauses.{Wrote, CopyReady}
use Rattle.aut_st_source.specs.declared.Source.{Source}
use Rattle.aut_st_source.specs.declared.Span.{Span}
use Rattle.aut_st_source.specs.Clauses.{stored, scratched}
use Rattle.aut_st_each.specs.Asked.{OneAsked}
use Rattle.aut_st_ops.specs.Asked.{TwoAsked}
use Rattle.aut_st_stage.proofs.Turns.{source_in}
use Rattle.aut_st_stage.proofs.Run.{no_list, list_made, Run, written, stated, keeps_stated, goes_stated, run_begin, run_next, run_stuck, run_finish}
use Rattle.aut_st_stage.proofs.Waits.{Waits, waits, waits_as, with_it, with_two, waits_later, waits_copied}
use Rattle.aut_st_xor.proofs.Joins as join
use Rattle.aut_st_xor.proofs.Joins.{Joins}
use Rattle.aut_delta_lists.specs.Asked.{SequenceAsked, StarAsked, UntilAsked}
use Rattle.aut_delta_lists.proofs.Waiting.{list_stuck, list_copy, list_waits, list_next}

-- the transitions of a stored list
abbrev stored_in : Lent → Span → List Edge
stored_in x p = edges x.transitions.words.now p.start p.count

-- ---- a Star

module _ {k : Config} {x : Lent} {y ε : ℕ} {list : Span} (S : StarAsked k x y ε list) where
  abbrev star : Step Aut (List Edge)
  star = star_list k.fields (limits_of k.limits) y ε (stored_in x list)

  abbrev late : List Edge → Step Aut (List Edge)
  late es = St.st_postcompose (ops k.fields (limits_of k.limits)) es y

  abbrev early : List Edge → Step Aut (List Edge)
  early = St.st_precompose (ops k.fields (limits_of k.limits)) ε

  star_0 : Run k 0 1088 star (λ σ. after (late (stored_in x list) σ) early) x x
  unfolding star_list
  star_0 = run_begin S.asked refl

  -- u is the stored list
  module _ {u : Source} (is-list : u ≡ stored list.start list.count) where
    there : Waits k x u (stored_in x list)
    there = waits_as (waits S.list) is-list

    pub star_stuck : {x1 : Lent} {e : Refusal} {z : Result ℕ Refusal} → IsErr z × IsErrAnd z (λ x. x ≡ e) → GoesInsert k (late (source_in u x)) x (Err e) x1 → GoesList k star x z x1
    star_stuck q G = list_stuck S.limit late early star_0 there q G

    module _ {x1 : Lent} {n : ℕ} (K : Keeps x x1) (G : GoesInsert k (late (source_in u x)) x (Ok n) x1) where
      pub star_copy : CopyReady x1.scratch.now RESULT n FIRST
      star_copy = list_copy S.limit late early star_0 there K G FIRST (omega arith) (omega arith)

      module _ {w : List ℕ} (C : Wrote FIRST n (list_in x1 n) x1.scratch.now w) (len : length w ≡ length x1.scratch.now) where
        star_1 : Run k 0 1088 star (early (list_in x1 n)) x (written x1 w)
        star_1 = list_next S.limit late early star_0 there K G FIRST (omega arith) (omega arith) C len

        -- v is the list at FIRST
        module _ {v : Source} (is-first : v ≡ scratched FIRST n) where
          star_waits : Waits k (written x1 w) v (list_in x1 n)
          star_waits = waits_as (list_waits S.limit late early star_0 there K G FIRST (omega arith) (omega arith) C) is-first

          pub star_ready : OneAsked k (written x1 w) v × Label k.fields (aut_in (written x1 w)) ε
          star_ready = (record { asked = star_1.asked; limit = S.limit; walked = star_waits.walked }, label_grown star_1.stage.ext.grown S.label)

          pub star_done : {r : Result ℕ Refusal} {x2 : Lent} → GoesInsert k (early (source_in v (written x1 w))) (written x1 w) r x2 → GoesList k star x r x2
          star_done E = run_finish star_1 list_made (with_it star_waits early E)

-- ---- a Sequence: two lists made and joined (aut_st_xor)

module _ {k : Config} {x : Lent} {y ε : ℕ} {first second : Span} (S : SequenceAsked k x y ε first second) where
  abbrev seq : Step Aut (List Edge)
  seq = sequence_list k.fields (limits_of k.limits) y ε (stored_in x first) (stored_in x second)

  abbrev seq_late : List Edge → Step Aut (List Edge)
  seq_late es = St.st_postcompose (ops k.fields (limits_of k.limits)) es y

  abbrev seq_early : List Edge → Step Aut (List Edge)
  seq_early = St.st_precompose (ops k.fields (limits_of k.limits)) ε

  joins : Joins k x seq (seq_late (stored_in x first)) (seq_early (stored_in x second))
  unfolding sequence_list
  joins = record { asked = S.asked; limit = S.limit; is = refl }

  -- u is the first list
  module _ {u : Source} (is-first : u ≡ stored first.start first.count) where
    first_there : Waits k x u (stored_in x first)
    first_there = waits_as (waits S.first) is-first

    abbrev Left : Result ℕ Refusal → Lent → Type 0
    Left r x1 = GoesInsert k (seq_late (source_in u x)) x r x1

    left : {r : Result ℕ Refusal} {x1 : Lent} → Left r x1 → GoesInsert k (seq_late (stored_in x first)) x r x1
    left G = with_it first_there seq_late G

    pub seq_stuck_1 : {x1 : Lent} {e : Refusal} {z : Result ℕ Refusal} → IsErr z × IsErrAnd z (λ x. x ≡ e) → Left (Err e) x1 → GoesList k seq x z x1
    seq_stuck_1 q G = join.stuck_1 joins q (left G)

    module _ {x1 : Lent} {n : ℕ} (K : Keeps x x1) (G : Left (Ok n) x1) where
      pub seq_copy_1 : CopyReady x1.scratch.now RESULT n FIRST
      seq_copy_1 = join.copy_1 joins K (left G)

      -- v is the second list
      module _ {w : List ℕ} (C : Wrote FIRST n (list_in x1 n) x1.scratch.now w) (len : length w ≡ length x1.scratch.now) {v : Source} (is-second : v ≡ stored second.start second.count) where
        second_there : Waits k (written x1 w) v (stored_in x second)
        second_there = waits_as (waits_copied (waits_later (waits S.second) (all_of 0 832) K (left G)) FIRST n tt C.kept) is-second

        pub seq_ready : OneAsked k (written x1 w) v × Label k.fields (aut_in (written x1 w)) ε
        seq_ready =
            let g = join.run_2 joins K (left G) C len in
            (record { asked = g.asked; limit = S.limit; walked = second_there.walked }, label_grown g.stage.ext.grown S.label)

        abbrev Right : Result ℕ Refusal → Lent → Type 0
        Right r x2 = GoesInsert k (seq_early (source_in v (written x1 w))) (written x1 w) r x2

        right : {r : Result ℕ Refusal} {x2 : Lent} → Right r x2 → GoesInsert k (seq_early (stored_in x second)) (written x1 w) r x2
        right E = with_it second_there seq_early E

        pub seq_stuck_2 : {x2 : Lent} {e : Refusal} {z : Result ℕ Refusal} → IsErr z × IsErrAnd z (λ x. x ≡ e) → Right (Err e) x2 → GoesList k seq x z x2
        seq_stuck_2 q E = join.stuck_2 joins K (left G) C len q (right E)

        module _ {x2 : Lent} {m : ℕ} (K2 : Keeps (written x1 w) x2) (E : Right (Ok m) x2) where
          pub seq_copy_2 : CopyReady x2.scratch.now RESULT m SECOND
          seq_copy_2 = join.copy_2 joins K (left G) C len K2 (right E)

          -- the two that are joined
          module _ {w2 : List ℕ} (C2 : Wrote SECOND m (list_in x2 m) x2.scratch.now w2) (len2 : length w2 ≡ length x2.scratch.now) {s t : Source} (is-left : s ≡ scratched FIRST n) (is-right : t ≡ scratched SECOND m) where
            pub seq_join : TwoAsked k (written x2 w2) s t
            seq_join = join.join_asked joins K (left G) C len K2 (right E) C2 len2 is-left is-right

            pub seq_done : {r : Result ℕ Refusal} {x3 : Lent} → GoesInsert k (St.st_union (ops k.fields (limits_of k.limits)) (source_in s (written x2 w2)) (source_in t (written x2 w2))) (written x2 w2) r x3 → GoesList k seq x r x3
            seq_done J = join.joined joins K (left G) C len K2 (right E) C2 len2 is-left is-right J

-- ---- an LtlUntil: its state first

module _ {k : Config} {x : Lent} {y z : ℕ} {first second : Span} (S : UntilAsked k x y z first second) where
  abbrev until : Step Aut (List Edge)
  until = until_list k.fields (limits_of k.limits) y z (stored_in x first) (stored_in x second)

  abbrev meet : ℕ → List Edge → Step Aut (List Edge)
  meet u es = St.st_intersect_expr (ops k.fields (limits_of k.limits)) es u

  abbrev unite : List Edge → List Edge → Step Aut (List Edge)
  unite = St.st_union (ops k.fields (limits_of k.limits))

  abbrev meet_unite : ℕ → Step Aut (List Edge)
  meet_unite u σ = after (meet u (stored_in x first) σ) (unite (stored_in x second))

  until_0 : Run k 0 1088 until (λ σ. after (on_states (mk_until (limits_of k.limits) y z) σ) meet_unite) x x
  unfolding until_list
  until_0 = run_begin S.asked refl

  pub until_make : Ready2 x.states.words.now x.states.count UNTIL y z
  until_make = ready_until S.asked.ready.good S.left S.right

  module _ {st : States} where
    until_made : (r : Result ℕ Refusal) → mk_until (limits_of k.limits) y z (states_in x) ≡ outcome (λ i. i) r (table st.words.now st.count) → Goes k 0 0 State (λ i. i) (on_states (mk_until (limits_of k.limits) y z)) x r (stated x st)
    until_made r e = goes_stated (mk_until (limits_of k.limits) y z) S.asked (goes_map (mk_until_goes S.asked.ready.good S.left S.right) (λ τ x w v i. i.state)) e

    pub until_stuck_1 : (e : Refusal) {r : Result ℕ Refusal} → IsErr r × IsErrAnd r (λ x. x ≡ e) → mk_until (limits_of k.limits) y z (states_in x) ≡ outcome (λ i. i) (Err e) (table st.words.now st.count) → GoesList k until x r (stated x st)
    until_stuck_1 e q p = run_stuck meet_unite until_0 q (until_made (Err e) p)

    -- u is the first list
    module _ {i : ℕ} (same : SameSlice x.states.words st.words) (p : mk_until (limits_of k.limits) y z (states_in x) ≡ outcome (λ i. i) (Ok i) (table st.words.now st.count)) {u : Source} (is-first : u ≡ stored first.start first.count) where
      until_1 : Run k 0 1088 until (meet_unite i) x (stated x st)
      until_1 = run_next meet_unite until_0 (record { from = omega arith; to = omega arith }) (keeps_stated same) (until_made (Ok i) p)

      until_first : Waits k (stated x st) u (stored_in x first)
      until_first = waits_as (waits_later (waits S.first) no_list (keeps_stated same) (until_made (Ok i) p)) is-first

      pub until_meet : OneAsked k (stated x st) u × State (aut_in (stated x st)) i
      until_meet = (record { asked = until_1.asked; limit = S.limit; walked = until_first.walked }, (until_made (Ok i) p).post.then.holds)

      abbrev Met : Result ℕ Refusal → Lent → Type 0
      Met r x1 = GoesInsert k (meet i (source_in u (stated x st))) (stated x st) r x1

      pub until_stuck_2 : {x1 : Lent} {e : Refusal} {r : Result ℕ Refusal} → IsErr r × IsErrAnd r (λ x. x ≡ e) → Met (Err e) x1 → GoesList k until x r x1
      until_stuck_2 q G = list_stuck S.limit (meet i) (unite (stored_in x second)) until_1 until_first q G

      module _ {x1 : Lent} {n : ℕ} (K : Keeps (stated x st) x1) (G : Met (Ok n) x1) where
        pub until_copy : CopyReady x1.scratch.now RESULT n FIRST
        until_copy = list_copy S.limit (meet i) (unite (stored_in x second)) until_1 until_first K G FIRST (omega arith) (omega arith)

        -- the two that are joined
        module _ {w : List ℕ} (C : Wrote FIRST n (list_in x1 n) x1.scratch.now w) (len : length w ≡ length x1.scratch.now) {s t : Source} (is-second : s ≡ stored second.start second.count) (is-met : t ≡ scratched FIRST n) where
          until_2 : Run k 0 1088 until (unite (stored_in x second) (list_in x1 n)) x (written x1 w)
          until_2 = list_next S.limit (meet i) (unite (stored_in x second)) until_1 until_first K G FIRST (omega arith) (omega arith) C len

          until_met : Waits k (written x1 w) t (list_in x1 n)
          until_met = waits_as (list_waits S.limit (meet i) (unite (stored_in x second)) until_1 until_first K G FIRST (omega arith) (omega arith) C) is-met

          until_second : Waits k (written x1 w) s (stored_in x second)
          until_second = waits_as (waits_copied (waits_later (waits_later (waits S.second) no_list (keeps_stated same) (until_made (Ok i) p)) (all_of 0 832) K G) FIRST n tt C.kept) is-second

          pub until_join : TwoAsked k (written x1 w) s t
          until_join = record { first = record { asked = until_2.asked; limit = S.limit; walked = until_second.walked }; second = until_met.walked }

          pub until_done : {r : Result ℕ Refusal} {x2 : Lent} → GoesInsert k (unite (source_in s (written x1 w)) (source_in t (written x1 w))) (written x1 w) r x2 → GoesList k until x r x2
          until_done E = run_finish until_2 list_made (with_two until_second until_met unite E)
