-- What is read of tables that are twins is the same: kind, operands, nesting; of tables that are alike also what is worked out in words 4 to 6. A word below 4 that is written leaves them twins, one below 7 alike.
use mathlib.Core.Path.{◌≡◌, refl, sym, ◌∙◌, ap, subst, fun_ext}
use mathlib.Core.List.{List}
use Prim.Native.Nat.{ℕ, ◌+◌, ◌*◌, ◌<◌}
use native.Mathlib.Omega.{arith}
use lib.Dec.{eqb, ltb}
use lib.ListN.{length, get_or, set, length-set}
use lib.Seq.{get_or-set_same, get_or-set_other, set_out}
use borrow.Author.Tests.{eqb-true, eqb-false, ltb-true, ltb-false}
use Rattle.spp_steps.proofs.Laws.{by_test}
use Rattle.common.specs.Runs.{Table}
use Rattle.aut_steps.specs.Tables.{kind_of, op1, op2, nest, put4}
use Rattle.aut_delta_steps.specs.Epsilon.{epsilon_of, set_word}
use Rattle.aut_delta_steps.specs.Delta.{start_of, count_of}
use Rattle.aut_free.proofs.Alike.{Framed, AlikeWords, AlikeStates}
use Rattle.aut_free.proofs.Twin.{TwinFramed, TwinWords}

-- ---- reading

module _ {f g s t : List ℕ} (r : TwinWords f g s t) where
  pub kinds : kind_of s ≡ kind_of t
  unfolding kind_of
  kinds = fun_ext (λ x. ap (λ (i : ℕ). get_or s i 0) {x = 12 * x} {y = 12 * x + 0} (omega arith) ∙ r.same x 0 (omega arith) ∙ ap (λ (i : ℕ). get_or t i 0) {x = 12 * x + 0} {y = 12 * x} (omega arith))

  pub firsts : op1 s ≡ op1 t
  unfolding op1
  firsts = fun_ext (λ x. r.same x 1 (omega arith))

  pub seconds : op2 s ≡ op2 t
  unfolding op2
  seconds = fun_ext (λ x. r.same x 2 (omega arith))

  pub nests : nest s ≡ nest t
  unfolding nest
  nests = fun_ext (λ x. r.same x 3 (omega arith))

module _ {f g s t : List ℕ} (r : AlikeWords f g s t) where
  pub epsilons : epsilon_of s ≡ epsilon_of t
  unfolding epsilon_of
  epsilons = fun_ext (λ x. r.same x 4 (omega arith))

  pub starts : start_of s ≡ start_of t
  unfolding start_of
  starts = fun_ext (λ x. r.same x 5 (omega arith))

  pub counts : count_of s ≡ count_of t
  unfolding count_of
  counts = fun_ext (λ x. r.same x 6 (omega arith))

-- ---- writing

-- the same word written in two lists that are as long
pub set_both : (s t : List ℕ) (i v j : ℕ) → length s ≡ length t → get_or s j 0 ≡ get_or t j 0 → get_or (set s i v) j 0 ≡ get_or (set t i v) j 0
set_both s t i v j len e =
    by_test (eqb j i)
    (λ q. subst (λ (k : ℕ). get_or (set s i v) k 0 ≡ get_or (set t i v) k 0) (sym (eqb-true j i q)) (by_test (ltb i (length s))
    (λ l. get_or-set_same s i v 0 (ltb-true i (length s) l) ∙ sym (get_or-set_same t i v 0 (omega (arith, ltb-true i (length s) l))))
    (λ l. ap (λ (u : List ℕ). get_or u i 0) (set_out s i v (ltb-false i (length s) l)) ∙ subst (λ (k : ℕ). get_or s k 0 ≡ get_or t k 0) (eqb-true j i q) e
    ∙ sym (ap (λ (u : List ℕ). get_or u i 0) (set_out t i v (omega (arith, ltb-false i (length s) l)))))))
    (λ q. get_or-set_other s i j v 0 (eqb-false j i q) ∙ e ∙ sym (get_or-set_other t i j v 0 (eqb-false j i q)))

twin_framed_set : {f s : List ℕ} (i x w v : ℕ) → i ≡ 12 * x + w → w < 4 → TwinFramed f s → TwinFramed f (set s i v)
twin_framed_set {s = s} i x w v e l p = record {
  len = length-set s i v ∙ p.len;
  words = λ y u a b. get_or-set_other s i (12 * y + u) v 0 (λ q. omega (arith, e)) ∙ p.words y u a b;
}

framed_set : {f s : List ℕ} (x w v : ℕ) → w < 7 → Framed f s → Framed f (set s (12 * x + w) v)
framed_set {s = s} x w v l p = record {
  len = length-set s (12 * x + w) v ∙ p.len;
  words = λ y u a b. get_or-set_other s (12 * x + w) (12 * y + u) v 0 (λ q. omega arith) ∙ p.words y u a b;
}

module _ {f g : List ℕ} where
  twin_set : {s t : List ℕ} (i x w v : ℕ) → i ≡ 12 * x + w → w < 4 → TwinWords f g s t → TwinWords f g (set s i v) (set t i v)
  twin_set {s} {t} i x w v e l r = record {
    len = length-set s i v ∙ r.len ∙ sym (length-set t i v);
    same = λ y u m. set_both s t i v (12 * y + u) r.len (r.same y u m);
    left = twin_framed_set i x w v e l r.left;
    right = twin_framed_set i x w v e l r.right;
  }

  -- a state's first four words
  pub twin_put4 : {s t : List ℕ} (n k x y e : ℕ) → TwinWords f g s t → TwinWords f g (put4 s n k x y e) (put4 t n k x y e)
  unfolding put4
  twin_put4 n k x y e r =
      twin_set (12 * n + 3) n 3 e refl (omega arith) (twin_set (12 * n + 2) n 2 y refl (omega arith) (twin_set (12 * n + 1) n 1 x refl (omega arith) (twin_set (12 * n) n 0 k (omega arith) (omega arith) r)))

  pub alike_word : {s t : Table} (x w v : ℕ) → w < 7 → AlikeStates f g s t → AlikeStates f g (set_word x w v s) (set_word x w v t)
  unfolding set_word
  alike_word {s} {t} x w v l r = record {
    words = record {
      len = length-set s.words (12 * x + w) v ∙ r.words.len ∙ sym (length-set t.words (12 * x + w) v);
      same = λ y u m. set_both s.words t.words (12 * x + w) v (12 * y + u) r.words.len (r.words.same y u m);
      left = framed_set x w v l r.words.left;
      right = framed_set x w v l r.words.right;
    };
    count = r.count;
  }
