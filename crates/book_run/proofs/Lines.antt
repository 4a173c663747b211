-- The lines of a book, one after the other.
use Rattle.slices.proofs.Same.{slice_refl, slice_trans}
use Rattle.aut_relations.proofs.Kept.{keeps_refl, keeps_trans}
use Rattle.std.specs.Prelude as code
use mathlib.Core.Path.{◌≡◌, refl, sym, ◌∙◌, ap, ap₂}
use mathlib.Core.List.{List, [], ◌∷◌}
use Prim.Native.Nat.{ℕ, zero, suc, ◌+◌, ◌-◌, ◌/◌, ◌≤◌, ◌<◌}
use native.Mathlib.Omega.{arith}
use lib.ListN.{length, get_or, take}
use Rattle.refusal.specs.declared.Refusal.{Refusal}
use Rattle.refusal.specs.declared.Refusal.TheVariants as refusal
use Rattle.refusal.specs.Numbers.{number_of}
use Rattle.book_steps.specs.Text.{cut}
use Rattle.book_steps.specs.Run as Run
use Rattle.book_steps.specs.Run.{Came, with_line, answered, stopped, came_of}
use Rattle.book_memory.specs.declared.Setting.{Setting}
use Rattle.book_memory.specs.declared.Place.{Place}
use Rattle.book_writer.specs.declared.output.Output.{Output}
use Rattle.book_memory.specs.Place.{LINES, place_in, setting_of, setting_in, SamePlace, Standing}
use Rattle.book_finish.specs.declared.Stop.{Stop}
use Rattle.book_finish.specs.Clauses.{Wrote}
use Rattle.book_run.specs.Clauses.{PreTurn, TurnsTo, TurnsDown, PreGo, PostGo}

-- ---- the lines

module _ (S : Run.Setting) where
  run_step : (left : ℕ) (text : List ℕ) (k : ℕ) (p : Run.RunState) → 0 < left → 0 < length text → Run.run S left text k p ≡ with_line S (Run.run S (left - 1)) k p (cut text)
  unfolding Run.run
  run_step zero text k p a b = absurd (omega arith)
  run_step (suc left) [] k p a b = absurd (omega arith)
  run_step (suc left) (x ∷ text) k p a b = ap (λ (l : ℕ). with_line S (Run.run S l) k p (cut (x ∷ text))) {x = left} {y = suc left - 1} (omega arith)

  run_end : (left : ℕ) (text : List ℕ) (k : ℕ) (p : Run.RunState) → length text ≡ 0 → Run.run S left text k p ≡ answered p
  unfolding Run.run
  run_end zero [] k p e = refl
  run_end (suc left) [] k p e = refl
  run_end zero (x ∷ text) k p e = absurd (omega arith)
  run_end (suc left) (x ∷ text) k p e = absurd (omega arith)

  run_many : (left : ℕ) (text : List ℕ) (k : ℕ) (p : Run.RunState) → left ≡ 0 → 0 < length text → Run.run S left text k p ≡ stopped 3 k p.output
  unfolding Run.run
  run_many zero (x ∷ text) k p e b = refl
  run_many zero [] k p e b = absurd (omega arith)
  run_many (suc left) text k p e b = absurd (omega arith)

-- what the lines of a text come to
abbrev lines_from : List ℕ → Setting → Place → (line left : ℕ) → Came
lines_from text S x line left = came_of (setting_in S x) (Run.run (setting_in S x) left text line (place_in x))

-- the run from x has come to the place y, the text `rest`, in text line `line`, with so many instructions left
pub record Going (text : List ℕ) (S : Setting) (x : Place) (first all : ℕ) (y : Place) (rest : List ℕ) (line left : ℕ) : Type 0 where
  pub is : lines_from text S x first all ≡ lines_from rest S y line left
  pub standing : Standing S y
  pub more : y.lines.count + left ≤ LINES
  pub small : line + left < 4294967296
  pub same : SamePlace x y
  pub on : x.output.at ≤ y.output.at
  pub beyond : (i : ℕ) → y.output.at ≤ i → get_or y.output.bytes.now i 0 ≡ get_or x.output.bytes.now i 0

pub same_refl : (x : Place) → SamePlace x x
same_refl x = record { aut = keeps_refl x.aut; lines = slice_refl x.lines.words; output = slice_refl x.output.bytes }

pub same_trans : {x y z : Place} → SamePlace x y → SamePlace y z → SamePlace x z
same_trans a b = record { aut = keeps_trans a.aut b.aut; lines = slice_trans a.lines b.lines; output = slice_trans a.output b.output }

-- the setting says of what is lent only how many entries and bytes there are
pub setting_same : (S : Setting) (x y : Place) → length y.aut.pending.now ≡ length x.aut.pending.now → length y.output.bytes.now ≡ length x.output.bytes.now → setting_in S y ≡ setting_in S x
setting_same S x y a b = ap₂ (λ (p o : ℕ). setting_of S (p / 2) o) a b

module _ {text : List ℕ} {S : Setting} {x : Place} {first all : ℕ} where
  pub going_begin : PreGo S x first all → Going text S x first all x text first all
  going_begin P = record { is = refl; standing = P.standing; more = P.more; small = P.small; same = same_refl x; on = omega arith; beyond = λ i l. refl }

  module _ {y : Place} {rest : List ℕ} {line left : ℕ} (v : Going text S x first all y rest line left) where
    abbrev T : Run.Setting
    T = setting_in S y

    wrote : Wrote y.output.at x.output.bytes.now y.output.bytes.now
    wrote = record { fits = omega (arith, y.output.fits, v.same.output.length); beyond = v.beyond }

    pub going_end : {u : Unit {0}} → length rest ≡ 0 → PostGo text S x first all (code.Ok u) y
    going_end l = record {
      comes = record {
        is = v.is ∙ ap (came_of T) (run_end T left rest line (place_in y) l);
        ends = v.standing;
        wrote = wrote;
      };
      on = v.on;
    }

    module _ (l : 0 < length rest) where
      pub going_many : left ≡ 0 → PostGo text S x first all (code.Err (record { refusal = refusal.Form; line = line; length = y.output.at })) y
      going_many e = record {
        comes = record {
          is = v.is ∙ ap (came_of T) (run_many T left rest line (place_in y) e l);
          ends = tt;
          wrote = wrote;
        };
        on = v.on;
      }

      module _ (n : 0 < left) where
        pub going_turn : PreTurn S y
        going_turn = record { standing = v.standing; more = omega (arith, v.more) }

        on_step : {o : Run.Ran T} → with_line T (Run.run T (left - 1)) line (place_in y) (cut rest) ≡ o → lines_from text S x first all ≡ came_of T o
        on_step e = v.is ∙ ap (came_of T) (run_step T left rest line (place_in y) n l ∙ e)

        pub going_stopped : {f : Refusal} {s : Stop} {z : Place} → s ≡ record { refusal = f; line = line; length = y.output.at } → TurnsDown rest S y z f → PostGo text S x first all (code.Err s) z
        going_stopped {f} {s} {z} e d = rw e (record {
          comes = record {
            is = on_step (d.is line (Run.run T (left - 1)) ∙ ap (λ (o : List ℕ). stopped (number_of f) line (take y.output.at o)) (sym (ap (λ (o : Output). o.bytes.now) d.output)));
            ends = tt;
            wrote = rw d.output wrote;
          };
          on = v.on;
        })

        pub going_again : {z : Place} {next : List ℕ} → TurnsTo rest S y z next → SamePlace y z → Going text S x first all z next (line + 1) (left - 1)
        going_again {z} {next} d s = record {
          is = on_step (d.is line (Run.run T (left - 1)))
              ∙ ap (λ (R : Run.Setting). came_of R (Run.run R (left - 1) next (suc line) (place_in z))) (sym (setting_same S y z s.aut.pending.length s.output.length))
              ∙ ap (lines_by z next) {x = suc line} {y = line + 1} (omega arith);
          standing = d.standing;
          more = omega (arith, v.more, d.lines);
          small = omega (arith, v.small);
          same = same_trans v.same s;
          on = omega (arith, v.on, d.onto.from);
          beyond = λ i k. d.onto.beyond i k ∙ v.beyond i (omega (arith, d.onto.from));
        }
          where
            lines_by : Place → List ℕ → ℕ → Came
            lines_by z next k = lines_from next S z k (left - 1)
