-- Words 8 to 11 of states are written, and results are noted: the rounds stand as before.
use mathlib.Core.Path.{◌≡◌, refl, sym, ◌∙◌, ap, subst}
use mathlib.Core.List.{List}
use Prim.Native.Nat.{ℕ, ◌+◌, ◌*◌, ◌≤◌, ◌<◌}
use native.Mathlib.Omega.{arith}
use lib.ListN.{get_or}
use Rattle.cache.proofs.Cache.{notes_refl, notes_trans}
use Rattle.aut_steps.specs.Wf.{states}
use Rattle.aut_query_steps.specs.Tables.{Tables}
use Rattle.aut_query_steps.specs.Explored.{Linked}
use Rattle.aut_query_steps.proofs.Tables.{later_refl}
use Rattle.aut_query_stage.specs.Layer.{QueryReady}
use Rattle.aut_query_stage.specs.Lent.{Leaves}
use Rattle.aut_query_stage.proofs.Lent.{query_ready}
use Rattle.aut_states.specs.declared.Limits.{Limits}
use Rattle.aut_free.specs.Clear.{clear_tables}
use Rattle.aut_free.proofs.Clearing.{by_word}
use Rattle.aut_live_words.specs.Work.{seconds}
use Rattle.aut_why_steps.specs.Why.{Sets, Again}
use Rattle.aut_why_words.specs.Walk.{Walk, HasSets, Standing}
use Rattle.aut_query_calls.specs.Working.{words_in, with_words}
use Rattle.aut_why_marks.specs.Columns.{Writes}
use Rattle.aut_why_marks.proofs.Columns.{writes_then, writes_wide, writes_clear}
use Rattle.aut_why_again.specs.Redone.{Free, Redone, AtRound}

pub leaves_none : (N : ℕ) (κ : Tables) (s : List ℕ) → Leaves N 0 0 κ s s
leaves_none N κ s = record { below = λ i x. refl; above = λ i x y. refl; notes = notes_refl }

pub leaves_then : {N : ℕ} {κ : Tables} {s s1 s2 : List ℕ} → Leaves N 0 0 κ s s1 → Leaves N 0 0 κ s1 s2 → Leaves N 0 0 κ s s2
leaves_then a b = record { below = λ i x. b.below i x ∙ a.below i x; above = λ i x y. b.above i x y ∙ a.above i x y; notes = notes_trans a.notes b.notes }

pub redone_wide : {N : ℕ} {U W : ℕ → Type 0} {ss : List ℕ} {σ τ : Tables} {s s1 : List ℕ} → ((w : ℕ) → U w → W w) → Redone N U ss σ τ s s1 → Redone N W ss σ τ s s1
redone_wide i r = record { tables = r.tables; words = writes_wide i r.words; frame = r.frame; len = r.len }

-- no scratch is taken
pub redone_words : {N : ℕ} {W : ℕ → Type 0} {ss : List ℕ} (σ τ : Tables) (s : List ℕ) → τ ≡ with_words (words_in τ) σ → Writes W ss (words_in σ) (words_in τ) → Redone N W ss σ τ s s
redone_words {N} σ τ s e w = record { tables = e; words = w; frame = leaves_none N (clear_tables σ) s; len = refl }

module _ {W : ℕ → Type 0} (low : (w : ℕ) → W w → Free w) {N : ℕ} {ss : List ℕ} {σ τ : Tables} {s s1 : List ℕ} (R : Redone N W ss σ τ s s1) where
  pub clear_redone : clear_tables τ ≡ clear_tables σ
  clear_redone = ap clear_tables R.tables ∙ ap (λ (u : List ℕ). with_words u σ) (writes_clear low R.words)

  pub redone_then : {υ : Tables} {s2 : List ℕ} → Redone N W ss τ υ s1 s2 → Redone N W ss σ υ s s2
  redone_then {υ} {s2} Q = record {
    tables = Q.tables ∙ ap (with_words (words_in υ)) R.tables;
    words = writes_then R.words Q.words;
    frame = leaves_then R.frame (subst (λ (κ : Tables). Leaves N 0 0 κ s1 s2) clear_redone Q.frame);
    len = Q.len ∙ R.len;
  }

module _ {W : ℕ → Type 0} (low : (w : ℕ) → W w → Free w) {N : ℕ} {σ τ : Tables} {s s1 p : List ℕ} {n : ℕ} (R : Redone N W (seconds p 0 n) σ τ s s1) {l : Limits} where
  walk_on : Walk N l σ s p n → Walk N l τ s1 p n
  walk_on K = record {
    working = record {
      ready = subst (λ (κ : Tables). QueryReady N l κ s1) (sym (clear_redone low R)) (query_ready K.working.ready (later_refl (clear_tables σ)) K.working.ready.ordered R.frame R.len);
      fresh = by_word (λ j. 12 * states τ.base.aut ≤ j → get_or (words_in τ) j 0 ≡ 0)
          (λ x w b k. R.words.others x w b (λ u m. omega (arith, (K.links x m).known, count, k)) ∙ K.working.fresh (12 * x + w) (omega (arith, count, k)));
    };
    links = λ x m. subst (λ (κ : Tables). Linked κ.base (seconds p 0 n) x) (sym (clear_redone low R)) (K.links x m);
    rest = λ x w a b f. R.words.others x w b (λ u m. f m) ∙ K.rest x w a b f;
    first = K.first;
    after = K.after;
    room = K.room;
  }
    where
      count : states τ.base.aut ≡ states σ.base.aut
      count = ap (λ (υ : Tables). states υ.base.aut) R.tables

  pub standing_on : {ws : List Sets} → Standing N l σ s p n ws → Standing N l τ s1 p n ws
  standing_on {ws} S = record { walk = walk_on S.walk; again = subst (λ (κ : Tables). Again N (seconds p 0 n) κ ws) (sym (clear_redone low R)) S.again }

-- ---- words of a round

module _ {W : ℕ → Type 0} {st st1 p : List ℕ} {n : ℕ} (D : Writes W (seconds p 0 n) st st1) where
  pub has_on : (w : ℕ) → w < 12 → (W w → ⊥) → {v : Sets} → HasSets w st p n v → HasSets w st1 p n v
  has_on w l f h = record { is = λ x m. D.others x w l (λ u k. f u) ∙ h.is x m }

  pub round_on : (W 8 → ⊥) → (W 11 → ⊥) → {N : ℕ} {ws : List Sets} {k : ℕ} → AtRound N st p n ws k → AtRound N st1 p n ws k
  round_on f g h = record { sets = has_on 8 (omega arith) f h.sets; marks = λ x m q. h.marks x m (sym (D.others x 11 (omega arith) (λ u k. g u)) ∙ q) }
