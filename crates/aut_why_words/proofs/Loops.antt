-- Over the n states: whether words 8 and 9 are equal, and the loop that makes words 8 to 11 zero again.
use Rattle.std.specs.Prelude.{not, if◌then◌else◌}
use Rattle.std.specs.List.{list_all, range_with_len}
use Rattle.std.specs.Int.{from_bool}
use mathlib.Core.Path.{◌≡◌, refl, sym, ◌∙◌, ap}
use mathlib.Core.Bool.{Bool, true, false, ◌&&◌}
use mathlib.Core.List.{List}
use Prim.Native.Nat.{ℕ, zero, suc, ◌+◌, ◌*◌, ◌-◌, ◌≤◌, ◌<◌}
use native.Mathlib.Omega.{arith}
use lib.Dec.{eqb}
use lib.ListN.{length, get_or, set, length-set}
use lib.Seq.{get_or-set_same, get_or-set_other}
use borrow.Author.Tests.{eqb-true, eqb-false}
use Rattle.spp_steps.proofs.Laws.{by_test}
use Rattle.aut_live_words.specs.Work.{seconds}
use Rattle.aut_live_words.proofs.Words.{seconds_same, seconds_on, seconds_done, seconds_all}
use Rattle.aut_why_words.specs.Words.{same_words, moved_at, zero_words, clear_all, PostClear}

-- ---- same

-- whether the state of entry i has equal sets
abbrev pub equal_at : List ℕ → List ℕ → ℕ → Bool
equal_at st p i = eqb (get_or st (12 * get_or p (2 * i + 1) 0 + 8) 0) (get_or st (12 * get_or p (2 * i + 1) 0 + 9) 0)

-- sets that have not moved are equal
equal_is : (b c : Bool) → from_bool b ≡ (if c then 0 else 1) → not b ≡ c
equal_is true true q = absurd (omega (arith, q))
equal_is true false q = refl
equal_is false true q = refl
equal_is false false q = absurd (omega (arith, q))

pub equal_told : (st p : List ℕ) (i x : ℕ) (m b : Bool) → x ≡ get_or p (2 * i + 1) 0 → from_bool m ≡ moved_at st x → b ≡ not m → b ≡ equal_at st p i
equal_told st p i x m b e q r = r ∙ equal_is m (equal_at st p i) (rw e at q)

-- to test k entries from a on is to test their states
pub same_each : (st p : List ℕ) (a k : ℕ) → same_words (seconds p a k) st ≡ list_all (equal_at st p) (range_with_len a k)
unfolding same_words seconds
same_each st p a zero = refl
same_each st p a (suc k) = ap (λ (b : Bool). equal_at st p a && b) (same_each st p (a + 1) k)

-- ---- clear

pub zero_length : (st : List ℕ) (x : ℕ) → length (zero_words st x) ≡ length st
zero_length st x =
    length-set (set (set (set st (12 * x + 8) 0) (12 * x + 9) 0) (12 * x + 10) 0) (12 * x + 11) 0
    ∙ length-set (set (set st (12 * x + 8) 0) (12 * x + 9) 0) (12 * x + 10) 0
    ∙ length-set (set st (12 * x + 8) 0) (12 * x + 9) 0
    ∙ length-set st (12 * x + 8) 0

pub record Clearing (n : ℕ) (st₀ p₀ st p : List ℕ) (i : ℕ) : Type 0 where
  pub is : clear_all (seconds p i (n - i)) st ≡ clear_all (seconds p₀ 0 n) st₀
  pub first : (j : ℕ) → get_or p (2 * j) 0 ≡ get_or p₀ (2 * j) 0
  pub within : (j : ℕ) → j < i → get_or p (2 * j + 1) 0 ≡ 0
  pub beyond : (j : ℕ) → i ≤ j → get_or p (2 * j + 1) 0 ≡ get_or p₀ (2 * j + 1) 0

module _ {st₀ p₀ : List ℕ} {n : ℕ} where
  pub clear_begin : Clearing n st₀ p₀ st₀ p₀ 0
  clear_begin = record {
    is = ap (λ (l : List ℕ). clear_all l st₀) (sym (seconds_all p₀ n));
    first = λ j. refl;
    within = λ j l. absurd (omega arith);
    beyond = λ j l. refl;
  }

  module _ {st p : List ℕ} {i : ℕ} (v : Clearing n st₀ p₀ st p i) where
    abbrev y : ℕ
    y = get_or p (2 * i + 1) 0

    pub clear_again : i < n → 2 * i + 1 < length p → Clearing n st₀ p₀ (zero_words st y) (set p (2 * i + 1) 0) (i + 1)
    unfolding clear_all
    clear_again l f = record {
      is = ap (λ (xs : List ℕ). clear_all xs (zero_words st y)) (seconds_same p (set p (2 * i + 1) 0) (i + 1) (n - (i + 1)) (λ j a b. get_or-set_other p (2 * i + 1) (2 * j + 1) 0 0 (λ q. omega arith)))
          ∙ sym (ap (λ (l : List ℕ). clear_all l st) (seconds_on p n i l)) ∙ v.is;
      first = λ j. get_or-set_other p (2 * i + 1) (2 * j) 0 0 (λ q. omega arith) ∙ v.first j;
      within = λ j a. by_test (eqb j i)
          (λ t. ap (λ (j : ℕ). get_or (set p (2 * i + 1) 0) (2 * j + 1) 0) (eqb-true j i t) ∙ get_or-set_same p (2 * i + 1) 0 0 f)
          (λ t. let q : (j ≡ i → ⊥) = eqb-false j i t in get_or-set_other p (2 * i + 1) (2 * j + 1) 0 0 (λ e. omega (arith, q)) ∙ v.within j (omega (arith, q)));
      beyond = λ j a. get_or-set_other p (2 * i + 1) (2 * j + 1) 0 0 (λ e. omega arith) ∙ v.beyond j (omega arith);
    }

    pub clear_end : i ≤ n → n ≤ i → PostClear n st₀ p₀ st p
    unfolding clear_all
    clear_end m l = record {
      is = sym (ap (λ (l : List ℕ). clear_all l st) (seconds_done p i n i l)) ∙ v.is;
      pending = record { first = v.first; within = λ j a. v.within j (omega arith); beyond = λ j a. v.beyond j (omega arith) };
    }
