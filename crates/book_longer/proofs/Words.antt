-- What is read of longer tables is the same; what is written within the shorter table leaves the other one longer.
use mathlib.Core.Path.{◌≡◌, refl, sym, ◌∙◌, subst, fun_ext}
use mathlib.Core.List.{List, [], ◌∷◌}
use Prim.Native.Nat.{ℕ, zero, suc, ◌+◌, ◌*◌, ◌≤◌, ◌<◌}
use native.Mathlib.Omega.{arith}
use lib.Dec.{eqb}
use lib.ListN.{length, get_or, set, length-set}
use lib.Seq.{get_or-set_same, get_or-set_other, sets}
use borrow.Author.Tests.{eqb-true, eqb-false}
use Rattle.spp_steps.proofs.Laws.{by_test}
use Rattle.common.specs.Runs.{Table, table}
use Rattle.aut_steps.specs.Tables.{kind_of, op1, op2, nest, words}
use Rattle.aut_delta_steps.specs.Epsilon.{epsilon_of}
use Rattle.aut_delta_steps.specs.Delta.{start_of, count_of}
use Rattle.aut_query_steps.specs.Tables.{live_of}
use Rattle.book_longer.specs.Longer.{LongerWords, Longer}

-- ---- reading

-- a word, from the shorter to the longer
pub at : {s t : List ℕ} → LongerWords s t → (i : ℕ) → get_or s i 0 ≡ get_or t i 0
at r i = sym (r.reads i)

module _ {s t : List ℕ} (r : LongerWords s t) where
  pub kinds : kind_of s ≡ kind_of t
  unfolding kind_of
  kinds = fun_ext (λ x. at r (12 * x))

  pub firsts : op1 s ≡ op1 t
  unfolding op1
  firsts = fun_ext (λ x. at r (12 * x + 1))

  pub seconds : op2 s ≡ op2 t
  unfolding op2
  seconds = fun_ext (λ x. at r (12 * x + 2))

  pub nests : nest s ≡ nest t
  unfolding nest
  nests = fun_ext (λ x. at r (12 * x + 3))

  pub epsilons : epsilon_of s ≡ epsilon_of t
  unfolding epsilon_of
  epsilons = fun_ext (λ x. at r (12 * x + 4))

  pub starts : start_of s ≡ start_of t
  unfolding start_of
  starts = fun_ext (λ x. at r (12 * x + 5))

  pub counts : count_of s ≡ count_of t
  unfolding count_of
  counts = fun_ext (λ x. at r (12 * x + 6))

  pub lives : live_of s ≡ live_of t
  unfolding live_of
  lives = fun_ext (λ x. at r (12 * x + 7))

  pub words_same : (a k : ℕ) → words s a k ≡ words t a k
  unfolding words
  words_same a zero = refl
  words_same a (suc k) = λ d. at r a d ∷ words_same (a + 1) k d

-- ---- writing

pub set_longer : {s t : List ℕ} (i v : ℕ) → i < length s → LongerWords s t → LongerWords (set s i v) (set t i v)
set_longer {s} {t} i v l r = record {
  reads = λ j. by_test (eqb j i)
      (λ q. subst (λ (k : ℕ). get_or (set t i v) k 0 ≡ get_or (set s i v) k 0) (sym (eqb-true j i q)) (get_or-set_same t i v 0 (omega (arith, r.len)) ∙ sym (get_or-set_same s i v 0 l)))
      (λ q. get_or-set_other t i j v 0 (eqb-false j i q) ∙ r.reads j ∙ sym (get_or-set_other s i j v 0 (eqb-false j i q)));
  len = omega (arith, r.len, length-set s i v, length-set t i v);
}

pub sets_longer : (vs : List ℕ) {s t : List ℕ} (i : ℕ) → i + length vs ≤ length s → LongerWords s t → LongerWords (sets s i vs) (sets t i vs)
sets_longer [] i l r = r
sets_longer (v ∷ vs) {s} i l r = sets_longer vs (suc i) (omega (arith, length-set s i v)) (set_longer i v (omega arith) r)

-- ---- tables

-- two tables with one count
pub by_count : (P : Table → Table → Type 0) → ((s t : List ℕ) (n : ℕ) → LongerWords s t → P (table s n) (table t n)) → (σ τ : Table) → Longer σ τ → P σ τ
by_count P h σ τ r = subst (λ (n : ℕ). P σ (table τ.words n)) (sym r.count) (h σ.words τ.words σ.count r.words)
