-- A pending pair taken: the body of `turn`, by the rule for a run of calls (aut_stage).
use Rattle.std.specs.Prelude.{if◌then◌else◌, Result, Ok, Err, Option, Some}
use mathlib.Core.Path.{◌≡◌, refl, sym, ◌∙◌, ap, ap₂, subst}
use mathlib.Core.Bool.{Bool, true, false}
use mathlib.Core.List.{List}
use Prim.Native.Nat.{ℕ, ◌+◌, ◌*◌, ◌-◌, ◌/◌, ◌≤◌, ◌<◌}
use native.Mathlib.Omega.{arith}
use lib.ListN.{length, set}
use Rattle.common.specs.Outcome.{Outcome, given, Step, return, after}
use Rattle.refusal.specs.declared.Refusal.{Refusal}
use Rattle.netkat_steps.specs.Handles as Handles
use Rattle.netkat_steps.specs.Handles.{Entry, goes}
use Rattle.sp_steps.specs.Model as Sp
use Rattle.sp_steps.specs.Wf as SpLaws
use Rattle.sp_steps.specs.Reuse.{SpNoted}
use Rattle.sp_steps.proofs.Laws as SpLawsProofs
use Rattle.sp.specs.declared.SP.{SP}
use Rattle.aut_query_steps.specs.Tables.{Tables, on_sets}
use Rattle.aut_query_steps.specs.Search.{machine}
use Rattle.aut_query_steps.specs.Pending.{Pending}
use Rattle.aut_query_stage.specs.Lent.{tables_in, query_layer}
use Rattle.aut_query_stage.proofs.Lent.{query_laws}
use Rattle.aut_states.specs.Clauses.{limits_of}
use Rattle.aut_states.specs.declared.Config.{Config}
use Rattle.aut_relations.specs.declared.Aut.{Aut as Lent}
use Rattle.aut_stage.specs.Rule.{Laws, Post, Stage}
use Rattle.aut_stage.proofs.Rule.{begin, next, instead, finish, done, all_of}
use Rattle.aut_sets.specs.Lent.{sets_in, OnlySets, OnlyMarks}
use Rattle.aut_sets.specs.Clauses.{Gives, PreSets}
use Rattle.aut_free.specs.Clear.{clear_tables}
use Rattle.aut_query_calls.specs.Working.{clear_in, Working, WorkingIn}
use Rattle.aut_query_calls.specs.Working.{SetIn}
use Rattle.aut_query_calls.proofs.Ran.{Ran}
use Rattle.aut_query_calls.proofs.Works.{prepared}
use Rattle.aut_query_calls.proofs.Calls.{asks_sets, difference_ran}
use Rattle.aut_empty_words.specs.Words.{entry_at, entries_of, seen_in, Stack}
use Rattle.aut_empty_words.proofs.Stacks.{stack_later, top, taken_rest, stack_pop, same_tables}
use Rattle.aut_empty_pair.proofs.Expands.{none_of}
use Rattle.aut_empty_pair.specs.Clauses.{search_in, SeekingIn, turn_of, ExpandAsked, Expands}
use Rattle.aut_empty_turn.specs.Clauses.{Takes, TurnAsked, Turns}

module _ {k : Config} {x : Lent} {n : ℕ} (R : TurnAsked k x n) where
  abbrev N : ℕ
  N = k.fields

  abbrev p : List ℕ
  p = x.pending.now

  abbrev taken : List ℕ
  taken = set (set p (2 * (n - 1)) 0) (2 * (n - 1) + 1) 0

  L : Laws (query_layer k.fields k.limits)
  L = query_laws k.fields k.limits

  last : Pending N (clear_in x) (entry_at p (n - 1))
  last = top R.search.seeking.stack R.some

  pub top_in : 2 * (n - 1) + 1 < length p
  top_in = omega (arith, R.some, R.search.seeking.stack.room)

  -- of a turn: with so many words lent, the entry, those that are left, the sets seen, the tables and scratch
  abbrev Turning : (lent : ℕ) → Entry ℕ → List (Entry ℕ) → (ℕ → ℕ) → Tables → List ℕ → Result (Option ℕ) Refusal → Lent → Type 0
  Turning lent e es f τ s r y = Post (query_layer k.fields k.limits) 0 1088 (λ τ v. Unit) (turn_of k (lent / 2) y.states.words.now y.pending.now)
      (Handles.turn (machine k.fields (limits_of k.limits) (lent / 2)) e es f (clear_tables τ)) (clear_tables τ) r (clear_in y) s y.scratch.now

  -- ---- the entry is taken

  module _ {x1 : Lent} (K1 : OnlyMarks x x1) (same : x1.states ≡ x.states) {i packets : ℕ} (T : Takes p (n - 1) i packets x1.pending.now) where
    tables1 : tables_in x1 ≡ tables_in x
    tables1 = same_tables K1 same

    abbrev entry : Entry ℕ
    entry = record { state = i; packets = packets }

    entry_is : entry ≡ entry_at p (n - 1)
    entry_is = ap₂ (λ (a b : ℕ). record { state = a; packets = b }) T.state T.packets

    known : Pending N (clear_in x) entry
    known = subst (Pending N (clear_in x)) (sym entry_is) last

    rest1 : entries_of x1.pending.now (n - 1) ≡ entries_of p (n - 1)
    rest1 = rw T.left (taken_rest R.search.seeking.stack R.some)

    -- the turn from there, as the turn from before
    back : (r : Result (Option ℕ) Refusal) (y : Lent) → Turning (length x1.pending.now) entry (entries_of x1.pending.now (n - 1)) (seen_in N x1.states.words.now) (tables_in x1) x1.scratch.now r y
        → Turning (length p) (entry_at p (n - 1)) (entries_of p (n - 1)) (seen_in N x.states.words.now) (tables_in x) x.scratch.now r y
    back r y P =
        subst (λ (c : ℕ). Turning c (entry_at p (n - 1)) (entries_of p (n - 1)) (seen_in N x.states.words.now) (tables_in x) x.scratch.now r y) K1.pending.length
        (subst (λ (e : Entry ℕ). Turning (length x1.pending.now) e (entries_of p (n - 1)) (seen_in N x.states.words.now) (tables_in x) x.scratch.now r y) entry_is
        (subst (λ (es : List (Entry ℕ)). Turning (length x1.pending.now) entry es (seen_in N x.states.words.now) (tables_in x) x.scratch.now r y) rest1
        (subst (λ (τ : Tables). Turning (length x1.pending.now) entry (entries_of x1.pending.now (n - 1)) (seen_in N x.states.words.now) τ x.scratch.now r y) tables1
        (rw (sym same) (rw (sym K1.scratch) P)))))

    W1 : Working N k.limits (tables_in x1) x1.scratch.now
    W1 = rw K1.scratch (subst (λ (τ : Tables). Working N k.limits τ x.scratch.now) (sym tables1) R.search.seeking.working)

    V1 : WorkingIn k x1
    V1 = record { fields = rw K1.spp R.search.fields; working = W1 }

    stack1 : Stack N (clear_in x1) x1.pending.now (n - 1)
    stack1 = rw T.left (subst (λ (τ : Tables). Stack N (clear_tables τ) taken (n - 1)) (sym tables1) (stack_pop R.search.seeking.stack R.some))

    has1 : i < x1.states.count
    has1 = rw same known.known

    at1 : SpLaws.ValidAt (sets_in x1) N packets
    at1 = rw K1.sp known.at

    seen1 : (z : ℕ) → SpLaws.ValidAt (sets_in x1) N (seen_in N x1.states.words.now z)
    seen1 z = rw K1.sp (rw same (R.search.seeking.seen z))

    pub seen_asks : (12 * i + 11 < length x1.states.words.now) × (N ≤ 31)
    seen_asks = (omega (arith, has1, (prepared x1 W1).worked.good.fits), W1.ready.ready.few)

    abbrev whole : Outcome Tables (Handles.Turn (search_in k x1))
    whole = Handles.turn (search_in k x1) entry (entries_of x1.pending.now (n - 1)) (seen_in N x1.states.words.now) (clear_in x1)

    abbrev goes_on : ℕ → Step Tables (Handles.Turn (search_in k x1))
    goes_on fresh = if Sp.is_zero N fresh then return (goes (entries_of x1.pending.now (n - 1)) (seen_in N x1.states.words.now))
        else Handles.expand (search_in k x1) i fresh (entries_of x1.pending.now (n - 1)) (seen_in N x1.states.words.now)

    module _ {y : ℕ} (e0 : y ≡ seen_in N x1.states.words.now i) where
      at_y : SpLaws.ValidAt (sets_in x1) N y
      at_y = subst (SpLaws.ValidAt (sets_in x1) N) (sym e0) (seen1 i)

      pub difference_asks : PreSets N (sets_in x1) x1.scratch.now packets y
      difference_asks = asks_sets x1 W1 packets at1 y at_y

      start : Stage (query_layer k.fields k.limits) 0 1088 whole (after (on_sets (Sp.difference N packets y) (clear_in x1)) goes_on) (clear_in x1) (clear_in x1) x1.scratch.now x1.scratch.now
      unfolding Handles.turn
      start = begin L 0 1088 W1.ready (ap (λ (z : ℕ). after (on_sets (Sp.difference N packets z) (clear_in x1)) goes_on) (sym e0))

      -- ---- difference

      module _ {y1 : Lent} (K : OnlySets x1 y1) where
        abbrev Minus : Result SP Refusal → Type 0
        Minus r = Gives SpNoted (λ (h : SP). h.0) (Sp.difference N packets y) (sets_in x1) r (sets_in y1) x1.scratch.now y1.scratch.now

        minus : {r : Result SP Refusal} → Minus r → Ran k 0 0 (SetIn N) (λ (h : SP). h.0) (on_sets (Sp.difference N packets y)) x1 r y1
        minus G = difference_ran W1 packets at1 y at_y K G

        pub turn_stuck : {e : Refusal} {r : Result (Option ℕ) Refusal} {z : Lent} → r ≡ Err e → Minus (Err e) → Turns k n x r z
        turn_stuck {e} {r} {z} q G = subst (λ (r : Result (Option ℕ) Refusal). Turns k n x r z) (sym q) (record {
          post = record { post = back (Err e) z (record { is = start.is ∙ ap (λ (o : Outcome Tables ℕ). after o goes_on) (minus G).post.is; then = tt }) };
          held = tt;
        })

        module _ {h : SP} (G : Minus (Ok h)) where
          middle : Stage (query_layer k.fields k.limits) 0 1088 whole (goes_on h.0 (clear_in y1)) (clear_in x1) (clear_in y1) x1.scratch.now y1.scratch.now
          middle = next L 0 1088 (minus G).post (none_of 1088) goes_on start

          -- how the search stands beside what is fresh
          search : SeekingIn k y1 (n - 1)
          search = record {
            fields = rw K.spp V1.fields;
            seeking = record {
              working = (minus G).working;
              stack = rw K.pending (stack_later (minus G).post.then.ext stack1);
              seen = λ z. rw K.states (SpLawsProofs.at_ext (minus G).post.then.ext.sets N (seen_in N x1.states.words.now z) (seen1 z));
              spare = rw K.states (rw same R.search.seeking.spare);
            };
          }

          -- by whether anything is
          chosen : {b : Bool} → b ≡ Sp.is_zero N h.0 → goes_on h.0 (clear_in y1)
              ≡ (if b then return (goes (entries_of x1.pending.now (n - 1)) (seen_in N x1.states.words.now)) else Handles.expand (search_in k x1) i h.0 (entries_of x1.pending.now (n - 1)) (seen_in N x1.states.words.now)) (clear_in y1)
          chosen q = ap (λ (b : Bool). (if b then return (goes (entries_of x1.pending.now (n - 1)) (seen_in N x1.states.words.now))
              else Handles.expand (search_in k x1) i h.0 (entries_of x1.pending.now (n - 1)) (seen_in N x1.states.words.now)) (clear_in y1)) (sym q)

          same_pending : x1.pending.now ≡ y1.pending.now
          same_pending = rw (sym K.pending) refl

          same_states : x1.states.words.now ≡ y1.states.words.now
          same_states = rw (sym K.states) refl

          pub turn_zero : true ≡ Sp.is_zero N h.0 → Turns k n x (Ok (Some (n - 1))) y1
          turn_zero z = record {
            post = record {
              post = back (Ok (Some (n - 1))) y1 (done L 0 1088 (instead L 0 1088 middle (chosen z
                  ∙ ap₂ (λ (q s : List ℕ). given (clear_in y1) (goes (entries_of q (n - 1)) (seen_in N s))) same_pending same_states)) tt);
            };
            held = search.seeking;
          }

          pub expand_asks : ExpandAsked k y1 (n - 1) i h.0
          expand_asks = record { search = search; at = (minus G).post.then.holds; has = rw K.states has1 }

          pub turn_expand : false ≡ Sp.is_zero N h.0 → {z : Lent} (r : Result (Option ℕ) Refusal) → Expands k (n - 1) i h.0 y1 r z → Turns k n x r z
          turn_expand q {z} r E = record { post = record { post = back r z (finish L 0 1088 (instead L 0 1088 middle (chosen q)) r (rw (sym K.pending) (rw (sym K.states) E.post.post)) (all_of 0 1088)) }; held = E.held }
