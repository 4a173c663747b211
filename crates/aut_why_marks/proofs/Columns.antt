-- What holds of the definitions of specs/Columns.
use mathlib.Core.Path.{◌≡◌, refl, sym, ◌∙◌, subst}
use mathlib.Core.List.{List, Memᴰ}
use Prim.Native.Nat.{ℕ, ◌+◌, ◌*◌, ◌≤◌, ◌<◌}
use native.Mathlib.Omega.{arith}
use lib.Dec.{leb}
use lib.ListN.{set, length-set}
use lib.Seq.{get_or-set_other}
use borrow.Author.Tests.{leb-true, leb-false}
use Rattle.spp_steps.proofs.Laws.{by_test}
use Rattle.aut_free.specs.Clear.{clear}
use Rattle.aut_free.proofs.Clearing.{same_words_lem, clear_length, clear_kept, clear_zero}
use Rattle.aut_why_marks.specs.Columns.{Writes}

pub writes_none : (W : ℕ → Type 0) (ss st : List ℕ) → Writes W ss st st
writes_none W ss st = record { others = λ x w l f. refl; len = refl }

pub writes_then : {W : ℕ → Type 0} {ss st st1 st2 : List ℕ} → Writes W ss st st1 → Writes W ss st1 st2 → Writes W ss st st2
writes_then a b = record { others = λ x w l f. b.others x w l f ∙ a.others x w l f; len = b.len ∙ a.len }

pub writes_wide : {U W : ℕ → Type 0} {ss st st1 : List ℕ} → ((w : ℕ) → U w → W w) → Writes U ss st st1 → Writes W ss st st1
writes_wide i a = record { others = λ x w l f. a.others x w l (λ u m. f (i w u) m); len = a.len }

-- one word of a state
pub writes_one : (W : ℕ → Type 0) (ss st : List ℕ) (x w v : ℕ) → Memᴰ x ss → W w → w < 12 → Writes W ss st (set st (12 * x + w) v)
writes_one W ss st x w v m u l = record {
  others = λ y k j f. get_or-set_other st (12 * x + w) (12 * y + k) v 0 (λ q. f (subst W {x = w} {y = k} (omega arith) u) (subst (λ (z : ℕ). Memᴰ z ss) {x = x} {y = y} (omega arith) m));
  len = length-set st (12 * x + w) v;
}

-- columns 8 to 11 are free
pub writes_clear : {W : ℕ → Type 0} {ss st st1 : List ℕ} → ((w : ℕ) → W w → 8 ≤ w) → Writes W ss st st1 → clear st1 ≡ clear st
writes_clear {W} {ss} {st} {st1} i a = same_words_lem (clear st1) (clear st) (clear_length st1 ∙ a.len ∙ sym (clear_length st)) (λ x w l. by_test (leb 8 w)
    (λ b. clear_zero st1 x w (leb-true 8 w b) l ∙ sym (clear_zero st x w (leb-true 8 w b) l))
    (λ b. let k : w < 8 = leb-false 8 w b in clear_kept st1 x w k ∙ a.others x w l (λ u m. omega (arith, i w u)) ∙ sym (clear_kept st x w k)))
