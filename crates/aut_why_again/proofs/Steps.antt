-- From round to round, and to a round that is kept.
use Rattle.std.specs.Prelude.{if◌then◌else◌}
use mathlib.Core.Path.{◌≡◌, refl, sym, ◌∙◌, ap, subst}
use mathlib.Core.Logic.{⊎_elim}
use mathlib.Core.Bool.{Bool}
use mathlib.Core.List.{List, Memᴰ}
use Prim.Native.Nat.{ℕ, ◌+◌, ◌*◌, ◌-◌, ◌%◌, ◌≤◌, ◌<◌}
use native.Mathlib.Nat.{mod-lt, mod-eq_of_lt}
use native.Mathlib.Omega.{arith}
use lib.Dec.{eqb, ltb}
use lib.ListN.{get_or}
use borrow.Author.Tests.{eqb-true, ltb-true, ltb-false}
use Rattle.spp_steps.proofs.Laws.{by_test}
use Rattle.aut_query_steps.specs.Tables.{Tables}
use Rattle.aut_states.specs.declared.Limits.{Limits}
use Rattle.aut_live_words.specs.Work.{seconds}
use Rattle.aut_why_steps.specs.Why.{Sets, round_at}
use Rattle.aut_why_words.specs.Walk.{HasSets}
use Rattle.aut_why_words.specs.Words.{moved_at}
use Rattle.aut_query_calls.specs.Working.{words_in, with_words}
use Rattle.aut_why_marks.specs.Columns.{Fills, Before}
use Rattle.aut_why_marks.specs.Clauses.{Renews, Restores}
use Rattle.aut_why_marks.proofs.Columns.{writes_none, writes_then, writes_wide}
use Rattle.aut_why_again.specs.Redone.{Free, Unkept, Redone, AtRound, OnRound}
use Rattle.aut_why_again.specs.Clauses.{Onward, Turned, Started, Ahead, Kept, HasRound, Earlier, FromMark, SetsFor}
use Rattle.aut_why_again.proofs.Carry.{redone_wide, redone_words, redone_then, clear_redone, standing_on, has_on, round_on}

before_unkept : (w : ℕ) → Before w → Unkept w
before_unkept w u = ⊎_elim (λ q. (omega arith, λ r. omega arith)) (λ q. (omega arith, λ r. omega arith)) u

nine_unkept : (w : ℕ) → w ≡ 9 → Unkept w
nine_unkept w q = (omega arith, λ r. omega arith)

unkept_free : (w : ℕ) → Unkept w → Free w
unkept_free w u = u.0

before_free : (w : ℕ) → Before w → Free w
before_free w u = (before_unkept w u).0

-- every set may have changed
fresh_marks : {N : ℕ} {st p : List ℕ} {n : ℕ} {ws : List Sets} {k : ℕ} → HasSets 8 st p n (round_at N ws k) → ((x : ℕ) → Memᴰ x (seconds p 0 n) → get_or st (12 * x + 11) 0 ≡ 1) → AtRound N st p n ws k
fresh_marks h f = record { sets = h; marks = λ x m q. absurd (omega (arith, f x m, q)) }

moved_zero : (st : List ℕ) (x : ℕ) → moved_at st x ≡ 0 → get_or st (12 * x + 8) 0 ≡ get_or st (12 * x + 9) 0
moved_zero st x q = by_test (eqb a b) (λ t. eqb-true a b t) (λ t. absurd (omega (arith, sym (ap (λ (d : Bool). if d then 0 else 1) t) ∙ q)))
  where
    a : ℕ
    a = get_or st (12 * x + 8) 0

    b : ℕ
    b = get_or st (12 * x + 9) 0

pub rest_low : (j step : ℕ) → 0 < step → j % step ≤ j
rest_low j step k = by_test (ltb j step) (λ t. omega (arith, mod-eq_of_lt (ltb-true j step t))) (λ t. omega (arith, mod-lt j k, ltb-false j step t))

-- ---- round 0

-- words of the tables τ are written
abbrev Written : Tables → Tables → Type 0
Written τ υ = υ ≡ with_words (words_in υ) τ

after : (σ : Tables) {τ υ : Tables} → Written τ υ → Written σ τ → Written σ υ
after σ {υ = υ} e f = e ∙ ap (with_words (words_in υ)) f

pub start_end : {N : ℕ} {p : List ℕ} {n : ℕ} {ws : List Sets} {σ τ υ : Tables} {s s1 : List ℕ} → Turned N p n (round_at N ws 0) σ τ s s1 → υ ≡ with_words (words_in υ) τ → Restores 9 (seconds p 0 n) (words_in τ) (words_in υ)
    → Started N Unkept p n ws 0 σ υ s s1
start_end {σ = σ} T e R = record {
  redone = record { tables = after σ e T.tables; words = writes_then (writes_wide nine_unkept T.fills.words) (writes_wide before_unkept R.words); frame = T.frame; len = T.len };
  here = fresh_marks (record { is = λ x m. R.now x m ∙ T.fills.is x m }) R.marks;
}

-- ---- one round

module _ {N : ℕ} {l : Limits} {σ : Tables} {s p : List ℕ} {n : ℕ} {ws : List Sets} where
  pub forward_begin : {from to : ℕ} → Ahead N l σ s p n ws from to → Started N Unkept p n ws from σ σ s s
  forward_begin A = record { redone = redone_words σ σ s refl (writes_none Unkept (seconds p 0 n) (words_in σ)); here = A.on.here }

  module _ {from to : ℕ} (A : Ahead N l σ s p n ws from to) {τ : Tables} {s1 : List ℕ} {k : ℕ} (B : Started N Unkept p n ws k σ τ s s1) where
    pub forward_on : OnRound N l τ s1 p n ws k
    forward_on = record { standing = standing_on unkept_free B.redone A.on.standing; here = B.here }

    pub forward_turning : k < to → Onward N l τ s1 p n ws k
    forward_turning h = record { on = forward_on; more = omega (arith, A.has) }

    pub forward_again : {υ φ : Tables} {s2 : List ℕ} → Turned N p n (round_at N ws (k + 1)) τ υ s1 s2 → φ ≡ with_words (words_in φ) υ → Renews (seconds p 0 n) (words_in υ) (words_in φ) → Started N Unkept p n ws (k + 1) σ φ s s2
    forward_again {υ} {φ} {s2} T e R = record {
      redone = redone_then unkept_free B.redone (record {
        tables = after τ e T.tables;
        words = writes_then (writes_wide nine_unkept T.fills.words) (writes_wide before_unkept R.words);
        frame = T.frame;
        len = T.len;
      });
      here = record {
        sets = record { is = λ x m. R.now x m ∙ T.fills.is x m };
        marks = λ x m q. (omega arith, stays x m (moved_zero (words_in υ) x (sym (R.marks x m) ∙ q)));
      };
    }
      where
        stays : (x : ℕ) → Memᴰ x (seconds p 0 n) → get_or (words_in υ) (12 * x + 8) 0 ≡ get_or (words_in υ) (12 * x + 9) 0 → round_at N ws (k + 1 - 1) x ≡ round_at N ws (k + 1) x
        stays x m q =
            ap (λ (j : ℕ). round_at N ws j x) {x = k + 1 - 1} {y = k} (omega arith)
            ∙ omega (arith, B.here.sets.is x m, T.fills.words.others x 8 (omega arith) (λ q u. omega arith), q, T.fills.is x m)

    pub forward_end : to ≤ k → k ≤ to → Started N Unkept p n ws to σ τ s s1
    forward_end a b = subst (λ (j : ℕ). Started N Unkept p n ws j σ τ s s1) {x = k} {y = to} (omega arith) B

  -- ---- a round is kept

  module _ {k : ℕ} (H : HasRound N l σ s p n ws k) {τ : Tables} {s1 : List ℕ} (B : Started N Unkept p n ws 0 σ τ s s1) where
    pub remake_ahead : Ahead N l τ s1 p n ws 0 k
    remake_ahead = record { on = record { standing = standing_on unkept_free B.redone H.standing; here = B.here }; later = omega arith; has = H.has }

    module _ {υ : Tables} {s2 : List ℕ} (W : Started N Unkept p n ws k τ υ s1 s2) where
      whole : Redone N Free (seconds p 0 n) σ υ s s2
      whole = redone_then (λ w u. u) (redone_wide unkept_free B.redone) (redone_wide unkept_free W.redone)

      pub remake_end : {φ : Tables} → φ ≡ with_words (words_in φ) υ → Fills 10 (λ x. get_or (words_in υ) (12 * x + 8) 0) (seconds p 0 n) (words_in υ) (words_in φ) → Kept N p n ws k σ φ s s2
      remake_end e F = record {
        started = record {
          redone = record { tables = after σ e whole.tables; words = writes_then whole.words (writes_wide (λ w q. omega arith) F.words); frame = whole.frame; len = whole.len };
          here = round_on F.words (λ q. omega arith) (λ q. omega arith) W.here;
        };
        marked = record { is = λ x m. F.is x m ∙ W.here.sets.is x m };
      }

  module _ {j mark : ℕ} (E : Earlier N l σ s p n ws j mark) where
    pub earlier_has : (k : ℕ) → k ≤ j → HasRound N l σ s p n ws k
    earlier_has k b = record { standing = E.standing; has = omega (arith, E.has) }

    pub restored_mark : mark ≤ j → {τ : Tables} → τ ≡ with_words (words_in τ) σ → Restores 10 (seconds p 0 n) (words_in σ) (words_in τ) → FromMark N p n ws j mark σ τ s s
    restored_mark k {τ} e R = record {
      low = k;
      kept = record {
        started = record {
          redone = redone_words σ τ s e (writes_wide before_free R.words);
          here = fresh_marks (record { is = λ x m. R.now x m ∙ (E.marked k).is x m }) R.marks;
        };
        marked = has_on R.words 10 (omega arith) (λ u. (before_unkept 10 u).1 refl) (E.marked k);
      };
    }

    -- ---- round j

    module _ {r : ℕ} {τ : Tables} {s1 : List ℕ} (M : FromMark N p n ws j r σ τ s s1) where
      pub sets_ahead : Ahead N l τ s1 p n ws r j
      sets_ahead = record { on = record { standing = standing_on (λ w u. u) M.kept.started.redone E.standing; here = M.kept.started.here }; later = M.low; has = E.has }

      pub sets_end : {υ : Tables} {s2 : List ℕ} → Started N Unkept p n ws j τ υ s1 s2 → SetsFor N l p n ws j r σ υ s s2
      sets_end {υ} {s2} B =
          let D : Redone N Free (seconds p 0 n) σ υ s s2 = redone_then (λ w u. u) M.kept.started.redone (redone_wide unkept_free B.redone) in
          record {
            tables = clear_redone (λ w u. u) D;
            standing = standing_on (λ w u. u) D E.standing;
            round = B.here.sets;
            low = M.low;
            marked = has_on B.redone.words 10 (omega arith) (λ u. u.1 refl) M.kept.marked;
            frame = D.frame;
            len = D.len;
          }
