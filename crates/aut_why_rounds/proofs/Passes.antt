-- A round: the sets of the n states, in turn, go into words 9.
use Rattle.std.specs.Prelude.{Result, Ok, Err, if◌then◌else◌}
use mathlib.Core.Path.{◌≡◌, refl, sym, ◌∙◌, ap, subst}
use mathlib.Core.Logic.{◌≢◌, ◌⊎◌, inl, inr, ⊎_elim}
use mathlib.Core.Bool.{Bool, true, false}
use mathlib.Core.List.Memᴰ
use mathlib.Core.List.{List, Memᴰ}
use Prim.Native.Nat.{ℕ, ◌+◌, ◌*◌, ◌-◌, ◌≤◌, ◌<◌}
use native.Mathlib.Omega.{arith}
use lib.Dec.{eqb}
use lib.ListN.{length, get_or, set}
use lib.Seq.{get_or-set_same, get_or-set_other}
use borrow.Author.Tests.{eqb-true, eqb-false}
use Rattle.common.specs.Outcome.{Outcome, Step, after}
use Rattle.refusal.specs.declared.Refusal.{Refusal}
use Rattle.sp_steps.specs.Wf as SpLaws
use Rattle.sp_steps.proofs.Laws as SpLawsProofs
use Rattle.sp.specs.declared.SP.{SP}
use Rattle.spp_steps.proofs.Laws.{by_test}
use Rattle.aut_query_steps.specs.Tables.{Tables}
use Rattle.aut_query_steps.specs.Live.{live_at}
use Rattle.aut_why_steps.specs.Why.{Sets, ends, turn, each}
use Rattle.aut_query_stage.specs.Lent.{tables_in, query_layer}
use Rattle.aut_query_stage.proofs.Lent.{query_laws}
use Rattle.aut_states.specs.declared.Config.{Config}
use Rattle.aut_states.specs.declared.Limits.{Limits}
use Rattle.aut_stage.specs.Rule.{Stage}
use Rattle.aut_stage.proofs.Rule.{begin, next, instead, stuck, done, all_of}
use Rattle.aut_relations.specs.declared.Aut.{Aut as Lent}
use Rattle.aut_sets.specs.Lent.{sets_in, OnlySets, OnlyMarks, OnlySearch}
use Rattle.aut_query_calls.specs.Working.{clear_in}
use Rattle.aut_sets.proofs.Small.{set_small}
use Rattle.aut_live_words.specs.Work.{seconds}
use Rattle.aut_live_words.proofs.Words.{seconds_on, seconds_done, seconds_all, second_in}
use Rattle.aut_why_words.specs.Walk.{Walk}
use Rattle.aut_query_calls.proofs.Works.{beside_itself, tables_put, clear_written}
use Rattle.aut_why_words.proofs.Walks.{walk_there, walk_made, walk_written}
use Rattle.aut_why_words.proofs.Lent.{sets_base}
use Rattle.aut_why_rounds.specs.Clauses.{GivesSet, Visited, Turning, step_of, start_of, SetsOn, Rounding, RoundingIn, round_of, Rounded, RoundAsked, RoundGives}
use Rattle.aut_why_rounds.proofs.Turns.{sets_working}

-- ---- one state

module _ {N : ℕ} {l : Limits} {first : Bool} {σ : Tables} {s p : List ℕ} {n : ℕ} {before : Sets} (R : Rounding N l first σ s p n before) {x : ℕ} (m : Memᴰ x (seconds p 0 n)) where
  pub step_visited : Visited N l σ s x
  step_visited = record { working = R.walk.working; all = seconds p 0 n; linked = R.walk.links x m }

  pub step_turning : first ≡ false → Turning N l σ s p n before x
  step_turning q = record { walk = R.walk; sets = R.sets q; valid = R.valid q; among = m }

-- .. by which of the two it is
module _ (k : Config) (before : Sets) (i : ℕ) (x : Lent) (r : Result SP Refusal) (y : Lent) where
  pub step_ends : {first : Bool} → first ≡ true → GivesSet k (ends k.fields i) x r y → GivesSet k (step_of k.fields first before i) x r y
  step_ends q A = subst (λ (b : Bool). GivesSet k (step_of k.fields b before i) x r y) (sym q) A

  pub step_turns : {first : Bool} → first ≡ false → GivesSet k (turn k.fields before i) x r y → GivesSet k (step_of k.fields first before i) x r y
  step_turns q A = subst (λ (b : Bool). GivesSet k (step_of k.fields b before i) x r y) (sym q) A

-- ---- all states

start_valid : (N : ℕ) (first : Bool) (before : Sets) (ss : List ℕ) (σ : Tables) → SpLaws.Wf N σ.sets → (first ≡ false → SetsOn N ss σ before) → SetsOn N ss σ (start_of N first before)
start_valid N true before ss σ w f y m = SpLawsProofs.zero_at_lem w N (omega arith)
start_valid N false before ss σ w f y m = f refl y m

module _ (k : Config) (x : Lent) {first : Bool} {n : ℕ} {before : Sets} (R : RoundingIn k first x n before) where
  abbrev N : ℕ
  N = k.fields

  abbrev p : List ℕ
  p = x.pending.now

  abbrev ss : List ℕ
  ss = seconds p 0 n

  abbrev f : ℕ → Step Tables ℕ
  f = step_of N first before

  abbrev whole : Outcome Tables Sets
  whole = round_of N first ss before (clear_in x)

  -- i states have their sets
  pub record Passed (z : Lent) (i : ℕ) : Type 0 where
    pub now : Sets
    pub stage : Stage (query_layer N k.limits) 0 0 whole (each f (seconds p i (n - i)) now (clear_in z)) (clear_in x) (clear_in z) x.scratch.now z.scratch.now
    pub walk : Walk N k.limits (tables_in z) z.scratch.now p n
    pub valid : SetsOn N ss (tables_in z) now
    pub has : (j : ℕ) → Memᴰ j ss → Memᴰ j (seconds p i (n - i)) ⊎ (get_or z.states.words.now (12 * j + 9) 0 ≡ now j + 1)
    pub others : (j w : ℕ) → w < 12 → w ≢ 9 → get_or z.states.words.now (12 * j + w) 0 ≡ get_or x.states.words.now (12 * j + w) 0

  pub pass_begin : Passed x 0
  pass_begin = record {
    now = start_of N first before;
    stage = begin (query_laws N k.limits) 0 0 R.walk.working.ready (ap (λ (xs : List ℕ). each f xs (start_of N first before) (clear_in x)) (seconds_all p n));
    walk = R.walk;
    valid = start_valid N first before ss (tables_in x) R.walk.working.ready.ordered.sets R.valid;
    has = λ j m. inl (subst (Memᴰ j) (seconds_all p n) m);
    others = λ j w a b. refl;
  }

  module _ {z : Lent} {i : ℕ} (v : Passed z i) where
    pass_rounding : Rounding N k.limits first (tables_in z) z.scratch.now p n before
    pass_rounding = record {
      walk = v.walk;
      sets = λ q. record { is = λ j m. v.others j 8 (omega arith) (λ e. omega arith) ∙ (R.sets q).is j m };
      valid = λ q y m. SpLawsProofs.at_ext v.stage.ext.sets N (before y) (R.valid q y m);
    }

    -- the entries are as they were
    pub pass_asks : z.pending ≡ x.pending → RoundingIn k first z n before
    pass_asks q = rw q pass_rounding

    pub pass_entry : i < n → 2 * i + 1 < length p
    pass_entry lt = omega (arith, R.walk.room)

    module _ (lt : i < n) where
      abbrev y : ℕ
      y = get_or p (2 * i + 1) 0

      pub pass_in : Memᴰ y ss
      pass_in = second_in p 0 n i (omega arith) (omega arith)

      pub pass_there : 12 * y + 11 < length z.states.words.now
      pass_there = walk_there v.walk y pass_in

      -- .. of the state that stands in the entry
      pub pass_given : z.pending ≡ x.pending → {s : ℕ} → s ≡ get_or z.pending.now (2 * i + 1) 0 → {r : Result SP Refusal} {w : Lent} → (RoundingIn k first z n before → Memᴰ s (seconds z.pending.now 0 n) → GivesSet k (f s) z r w) → GivesSet k (f y) z r w
      pass_given q {s} e {r} {w} G = subst (λ (t : ℕ). GivesSet k (f t) z r w) same (G (pass_asks q) here)
        where
          same : s ≡ y
          same = e ∙ rw q refl

          here : Memᴰ s (seconds z.pending.now 0 n)
          here = rw (same, q) pass_in

      abbrev rest : ℕ → Step Tables Sets
      rest u = each f (seconds p (i + 1) (n - (i + 1))) (live_at y u v.now)

      turned : Stage (query_layer N k.limits) 0 0 whole (after (f y (clear_in z)) rest) (clear_in x) (clear_in z) x.scratch.now z.scratch.now
      unfolding each
      turned = instead (query_laws N k.limits) 0 0 v.stage (ap (λ (xs : List ℕ). each f xs v.now (clear_in z)) (seconds_on p n i lt))

      pub pass_stuck : {e : Refusal} {w : Lent} → GivesSet k (f y) z (Err e) w → Rounded k first before n x (Err e) w
      pass_stuck G = record { next = before; post = record { post = stuck (query_laws N k.limits) 0 0 G.post rest turned }; under = tt }

      module _ {h : SP} {w : Lent} (A : OnlySets z w) (G : GivesSet k (f y) z (Ok h) w) where
        pub pass_small : h.0 + 1 < 4294967296
        pass_small = set_small N h.0 G.post.then.ready.ordered.sets G.post.then.holds

        -- the word is written
        module _ {u : Lent} (K : OnlyMarks w u) (q : u.states.words.now ≡ set w.states.words.now (12 * y + 9) (h.0 + 1)) where
          abbrev st1 : List ℕ
          st1 = z.states.words.now

          abbrev st2 : List ℕ
          st2 = set st1 (12 * y + 9) (h.0 + 1)

          words : u.states.words.now ≡ st2
          words = q ∙ rw A.states refl

          abbrev new : Sets
          new = live_at y h.0 v.now

          -- the word of j, which is y or had its set
          written : (j : ℕ) → (j ≡ y) ⊎ (get_or st1 (12 * j + 9) 0 ≡ v.now j + 1) → get_or st2 (12 * j + 9) 0 ≡ new j + 1
          written j c = by_test (eqb y j)
              (λ b. subst (λ (z : ℕ). get_or st2 (12 * z + 9) 0 ≡ h.0 + 1) (eqb-true y j b) (get_or-set_same st1 (12 * y + 9) (h.0 + 1) 0 (omega (arith, pass_there)))
              ∙ sym (ap (λ (b : Bool). (if b then h.0 else v.now j) + 1) b))
              (λ b. let n : (y ≡ j → ⊥) = eqb-false y j b in
              get_or-set_other st1 (12 * y + 9) (12 * j + 9) (h.0 + 1) 0 (λ e. n (omega arith))
              ∙ ⊎_elim (λ e. absurd (n (sym e))) (λ e. e) c ∙ sym (ap (λ (b : Bool). (if b then h.0 else v.now j) + 1) b))

          stage_2 : Stage (query_layer N k.limits) 0 0 whole (rest h.0 (clear_in w)) (clear_in x) (clear_in w) x.scratch.now w.scratch.now
          stage_2 = next (query_laws N k.limits) 0 0 G.post (all_of 0 0) rest turned

          walk_2 : Walk N k.limits (tables_in w) w.scratch.now p n
          walk_2 = walk_made v.walk (sets_base A) (sets_working k A v.walk.working G.post.then.ready)

          set_here : (j : ℕ) → Memᴰ j ss → SpLaws.ValidAt (sets_in w) N (new j)
          set_here j m = by_test (eqb y j)
              (λ b. subst (SpLaws.ValidAt (sets_in w) N) (sym (ap (λ (b : Bool). if b then h.0 else v.now j) b)) G.post.then.holds)
              (λ b. subst (SpLaws.ValidAt (sets_in w) N) (sym (ap (λ (b : Bool). if b then h.0 else v.now j) b)) (SpLawsProofs.at_ext G.post.then.ext.sets N (v.now j) (v.valid j m)))

          pub pass_again : Passed u (i + 1)
          pass_again = record {
            now = new;
            stage = rw (clear_written K y 9 (h.0 + 1) (omega arith) (omega arith) q, K.scratch) stage_2;
            walk = rw (tables_put K q, K.scratch) (walk_written walk_2 y 9 (h.0 + 1) (omega arith) (omega arith) pass_in);
            valid = λ j m. rw K.sp (set_here j m);
            has = λ j m. ⊎_elim
                (λ c. ⊎_elim (λ e. inr (rw words (written j (inl e)))) (λ c. inl c) (Memᴰ.cases_cons (subst (Memᴰ j) (seconds_on p n i lt) c)))
                (λ e. inr (rw words (written j (inr e)))) (v.has j m);
            others = λ j w a b. rw words (get_or-set_other st1 (12 * y + 9) (12 * j + w) (h.0 + 1) 0 (λ e. b (omega arith)) ∙ v.others j w a b);
          }

    pub pass_end : n ≤ i → z.pending ≡ x.pending → Rounded k first before n x (Ok tt) z
    unfolding each
    pass_end le q = record {
      next = v.now;
      post = record {
        post = done (query_laws N k.limits) 0 0 (instead (query_laws N k.limits) 0 0 v.stage (ap (λ (xs : List ℕ). each f xs v.now (clear_in z)) (seconds_done p i n i le))) v.valid;
      };
      under = rw q (record {
        walk = v.walk;
        sets = record { is = λ j m. ⊎_elim (λ c. absurd (Memᴰ.not-nil (subst (Memᴰ j) (seconds_done p i n i le) c))) (λ e. e) (v.has j m) };
        others = v.others;
      });
    }

-- .. with the members that are lent
pub round_asks : {k : Config} {first : Bool} {x : Lent} {n : ℕ} (before : Sets) → RoundingIn k first x n before → RoundAsked k first x n
round_asks {x = x} before R = record { members = x.members; before = before; rounding = R }

pub rounded_itself : {k : Config} {first : Bool} {n : ℕ} {x : Lent} {r : Result Unit Refusal} {y : Lent} → OnlySearch x y → RoundGives k first n x r y → (before : Sets) → RoundingIn k first x n before → Rounded k first before n x r y
rounded_itself {k} {first} {n} {x} {r} {y} K G before R = subst (λ (z : Lent). Rounded k first before n x r z) (beside_itself x y K.members) (G.gives x.members before R)
