-- The loops over the states: a column of sets is worked out, state by state.
use mathlib.Core.Path.{◌≡◌, refl, sym, ◌∙◌, ap, subst}
use mathlib.Core.Bool.{true}
use mathlib.Core.List.{List, Memᴰ}
use Prim.Native.Nat.{ℕ, ◌+◌, ◌*◌, ◌≤◌, ◌<◌}
use native.Mathlib.Omega.{arith}
use lib.Dec.{eqb}
use lib.ListN.{length, get_or}
use borrow.Author.Tests.{eqb-true, eqb-false}
use Rattle.std.specs.Prelude.{Result, Ok, Err, IsOk}
use Rattle.common.specs.Outcome.{given}
use Rattle.common.proofs.Follow.{given_same, refused≢given}
use Rattle.refusal.specs.declared.Refusal.{Refusal}
use Rattle.sp_steps.specs.Model as Sp
use Rattle.spp_steps.proofs.Laws.{by_test}
use Rattle.aut_relations.specs.declared.Aut.{Aut as Lent}
use Rattle.aut_sets.specs.Lent.{OnlySearch}
use Rattle.aut_query_steps.specs.Tables.{Tables}
use Rattle.aut_query_stage.specs.Lent.{Leaves, tables_in}
use Rattle.aut_states.specs.declared.Config.{Config}
use Rattle.aut_states.specs.declared.Limits.{Limits}
use Rattle.aut_free.specs.Clear.{clear_tables}
use Rattle.aut_query_calls.specs.Working.{clear_in}
use Rattle.aut_live_words.specs.Work.{seconds}
use Rattle.aut_live_words.specs.Clauses.{PreKeep}
use Rattle.aut_why_steps.specs.Why.{Sets, ends, each, round_at}
use Rattle.aut_why_steps.proofs.Turns.{each_turns}
use Rattle.aut_why_words.specs.Walk.{HasSets}
use Rattle.aut_why_words.proofs.Walks.{walk_keeps}
use Rattle.aut_query_calls.specs.Working.{words_in, with_words}
use Rattle.aut_why_rounds.specs.Clauses.{RoundingIn, Rounded}
use Rattle.aut_why_marks.proofs.Loops.{Filling, fill_begin, fill_again, fill_end}
use Rattle.aut_why_again.specs.Redone.{Free, Redone, Worked}
use Rattle.aut_why_again.specs.Clauses.{Onward, Turned, StandingIn}
use Rattle.aut_why_again.proofs.States.{store_same, search_tables}
use Rattle.aut_why_again.proofs.Carry.{leaves_none, leaves_then, clear_redone, standing_on, round_on}

-- words 9 of the first i states are the sets `next`
pub record Running (N : ℕ) (next : Sets) (n : ℕ) (p : List ℕ) (σ τ : Tables) (s s1 : List ℕ) (i : ℕ) : Type 0 where
  pub tables : τ ≡ with_words (words_in τ) σ
  pub filling : Filling 9 (λ x. next x + 1) n p (words_in σ) (words_in τ) i
  pub frame : Leaves N 0 0 (clear_tables σ) s s1
  pub len : length s1 ≡ length s

module _ {N : ℕ} {l : Limits} {σ : Tables} {s p : List ℕ} {n : ℕ} {ws : List Sets} {k : ℕ} (T : Onward N l σ s p n ws k) where
  abbrev next : Sets
  next = round_at N ws (k + 1)

  abbrev keeps : PreKeep (words_in σ) p n
  keeps = walk_keeps T.on.standing.walk

  pub run_begin : Running N next n p σ σ s s 0
  run_begin = record { tables = refl; filling = fill_begin 9 (λ x. next x + 1); frame = leaves_none N (clear_tables σ) s; len = refl }

  module _ {τ : Tables} {s1 : List ℕ} {i : ℕ} (R : Running N next n p σ τ s s1 i) where
    redone : Redone N (λ w. w ≡ 9) (seconds p 0 n) σ τ s s1
    redone = record { tables = R.tables; words = R.filling.words; frame = R.frame; len = R.len }

    free : (w : ℕ) → w ≡ 9 → Free w
    free w q = omega arith

    -- round k stays while the next is worked out
    pub run_turning : Onward N l τ s1 p n ws k
    run_turning = record {
      on = record { standing = standing_on free redone T.on.standing; here = round_on R.filling.words (λ q. omega arith) (λ q. omega arith) T.on.here };
      more = T.more;
    }

    pub run_again : i < n → {υ : Tables} {s2 : List ℕ} → Worked N 9 (get_or p (2 * i + 1) 0) (next (get_or p (2 * i + 1) 0)) τ υ s1 s2 → Running N next n p σ υ s s2 (i + 1)
    run_again k {υ} {s2} W = record {
      tables = again;
      filling = subst (λ (u : List ℕ). Filling 9 (λ x. next x + 1) n p (words_in σ) u (i + 1)) (sym (ap words_in W.tables)) (fill_again 9 (λ x. next x + 1) R.filling k (omega arith) (keeps.states i k) refl);
      frame = leaves_then R.frame (subst (λ (κ : Tables). Leaves N 0 0 κ s1 s2) (clear_redone free redone) W.frame);
      len = W.len ∙ R.len;
    }
      where
        again : υ ≡ with_words (words_in υ) σ
        again =
            W.tables ∙ ap (λ (κ : Tables). with_words (lib.ListN.set (words_in τ) (12 * get_or p (2 * i + 1) 0 + 9) (next (get_or p (2 * i + 1) 0) + 1)) κ) R.tables
            ∙ ap (λ (u : List ℕ). with_words u σ) (sym (ap words_in W.tables))

    pub run_end : i ≤ n → n ≤ i → Turned N p n next σ τ s s1
    run_end m k = record { tables = R.tables; fills = fill_end 9 (λ x. next x + 1) R.filling m k; frame = R.frame; len = R.len }

-- ---- round 0

module _ (g : Config) (x : Lent) {n : ℕ} {ws : List Sets} (S : StandingIn g x n ws) where
  abbrev N : ℕ
  N = g.fields

  abbrev ss : List ℕ
  ss = seconds x.pending.now 0 n

  pub zero_asks : (before : Sets) → RoundingIn g true x n before
  zero_asks before = record { walk = S.walk; sets = λ q. absurd (let z : ◌≡◌ {A = ℕ} 0 1 = cc in omega arith); valid = λ q. absurd (let z : ◌≡◌ {A = ℕ} 0 1 = cc in omega arith) }

  -- all ends stand
  stands : (v : Sets) × (each (ends N) ss (λ u. Sp.zero_at N) (clear_in x) ≡ given (clear_in x) v) × ((i : ℕ) → Memᴰ i ss → v i ≡ round_at N ws 0 i) × ((u : ℕ) → (Memᴰ u ss → ⊥) → v u ≡ Sp.zero_at N)
  stands = each_turns (ends N) (round_at N ws 0) (clear_in x) ss (λ u. Sp.zero_at N) S.again.first

  module _ {before : Sets} {y : Lent} where
    pub zero_refused : {e : Refusal} → Rounded g true before n x (Err e) y → ⊥
    zero_refused D = refused≢given (sym D.post.post.is ∙ stands.1)

    pub zero_stands : (r : Result Unit Refusal) → Rounded g true before n x r y → IsOk r
    zero_stands (Ok u) D = refl
    zero_stands (Err e) D = absurd (zero_refused D)

    pub zero_turned : {u : Unit} → Rounded g true before n x (Ok u) y → OnlySearch x y → y.pending ≡ x.pending → Turned N x.pending.now n (round_at N ws 0) (tables_in x) (tables_in y) x.scratch.now y.scratch.now
    zero_turned {u} D K P = record {
      tables = search_tables K (ap (λ (τ : Tables). τ.sets) (store_same same));
      fills = record {
        is = λ i m. sets.is i m ∙ ap (λ (f : Sets). f i + 1) (given_same same) ∙ ap (λ (h : ℕ). h + 1) (stands.2 i m);
        words = record {
          others = λ i w h f. by_test (eqb w 9)
              (λ t. let q : w ≡ 9 = eqb-true w 9 t in D.under.walk.rest i w (omega arith) h (λ m. f q (among i m)) ∙ sym (S.walk.rest i w (omega arith) h (f q)))
              (λ t. D.under.others i w h (eqb-false w 9 t));
          len = K.states.length;
        };
      };
      frame = subst (λ (τ : Tables). Leaves N 0 0 τ x.scratch.now y.scratch.now) (store_same same) D.post.post.then.frame;
      len = K.scratch.length;
    }
      where
        same : given (clear_in y) D.next ≡ given (clear_in x) stands.0
        same = sym D.post.post.is ∙ stands.1

        entries : y.pending.now ≡ x.pending.now
        entries = rw P refl

        sets : HasSets 9 y.states.words.now x.pending.now n D.next
        sets = subst (λ (p : List ℕ). HasSets 9 y.states.words.now p n D.next) entries D.under.sets

        among : (i : ℕ) → Memᴰ i (seconds y.pending.now 0 n) → Memᴰ i ss
        among i m = subst (λ (p : List ℕ). Memᴰ i (seconds p 0 n)) entries m
