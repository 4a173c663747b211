-- What holds of the definitions of specs/Clauses.
use mathlib.Core.Path.{◌≡◌, refl, sym, ◌∙◌, ap, subst}
use mathlib.Core.Bool.{Bool, true, false}
use mathlib.Core.List.{List, ◌∷◌, ◌++◌}
use Prim.Native.Nat.{ℕ, ◌+◌, ◌-◌, ◌≤◌, ◌<◌}
use native.Mathlib.Omega.{arith}
use lib.Dec.{ltb}
use lib.ListN.{length, get_or, take, length-append, get_or-append}
use lib.Seq.{length-take-le, get_or-take, ext_get_or, get_or-append-add}
use borrow.Author.Tests.{ltb-true, ltb-false}
use Rattle.book_steps.specs.Answers.{Pairs, pair_lines, pruned_answer}
use Rattle.book_writer.specs.Clauses.{Wrote, PutAt, pruned_head, pair_line}

pub pruned_is : (name : List ℕ) (pairs : List Pairs) → pruned_answer name pairs ≡ pruned_head name (length pairs) ++ pair_lines pairs
pruned_is name pairs = refl

pub pairs_are : (p : Pairs) (ps : List Pairs) → pair_lines (p ∷ ps) ≡ pair_line p.target p.number ++ pair_lines ps
unfolding pair_lines
pairs_are p ps = refl

-- ---- one behind the other

module _ {at : ℕ} {bs cs s s' s'' : List ℕ} (w : Wrote at bs s s') (v : Wrote (at + length bs) cs s' s'') where
  append_is : (i : ℕ) → i < length (bs ++ cs) → get_or s'' (at + i) 0 ≡ get_or (bs ++ cs) i 0
  append_is i l = go (ltb i (length bs)) refl
    where
      go : (b : Bool) → ltb i (length bs) ≡ b → get_or s'' (at + i) 0 ≡ get_or (bs ++ cs) i 0
      go true e =
          let m : i < length bs = ltb-true i (length bs) e in
          v.below (at + i) (omega arith) ∙ w.is i m ∙ sym (get_or-append bs cs 0 i m)
      go false e =
          let m : length bs ≤ i = ltb-false i (length bs) e in
          ap (λ (j : ℕ). get_or s'' j 0) {x = at + i} {y = at + length bs + (i - length bs)} (omega arith)
          ∙ v.is (i - length bs) (omega (arith, length-append bs cs))
          ∙ sym (get_or-append-add bs cs (i - length bs) 0)
          ∙ ap (λ (j : ℕ). get_or (bs ++ cs) j 0) {x = length bs + (i - length bs)} {y = i} (omega arith)

  pub wrote_append : Wrote at (bs ++ cs) s s''
  wrote_append = record {
    len = v.len ∙ w.len;
    is = append_is;
    below = λ i l. v.below i (omega arith) ∙ w.below i l;
    above = λ i l. v.above i (omega (arith, length-append bs cs)) ∙ w.above i (omega (arith, length-append bs cs));
  }

pub put_append : {at r r' : ℕ} {bs cs s s' s'' : List ℕ} → PutAt at bs r s s' → PutAt r cs r' s' s'' → PutAt at (bs ++ cs) r' s s''
put_append {at} {r} {r'} {bs} {cs} {s} {s'} {s''} p q = record {
  behind = omega (arith, p.behind, q.behind, length-append bs cs);
  room = omega (arith, q.room, p.wrote.len);
  wrote = wrote_append p.wrote (subst (λ (a : ℕ). Wrote a cs s' s'') p.behind q.wrote);
}

-- the same bytes
pub put_of : {at r : ℕ} {bs cs s s' : List ℕ} → bs ≡ cs → PutAt at bs r s s' → PutAt at cs r s s'
put_of {at} {r} {bs} {cs} {s} {s'} e p = subst (λ (x : List ℕ). PutAt at x r s s') e p

-- ---- the output up to a place

module _ {at r : ℕ} {bs s s' : List ℕ} (p : PutAt at bs r s s') where
  start : length (take at s) ≡ at
  start = length-take-le at s (omega (arith, p.behind, p.room))

  end : length (take r s') ≡ r
  end = length-take-le r s' (omega (arith, p.room, p.wrote.len))

  -- what was written before, and bs
  pub put_take : take r s' ≡ take at s ++ bs
  put_take = ext_get_or 0 (take r s') (take at s ++ bs) (omega (arith, start, end, p.behind, length-append (take at s) bs)) (λ i l. go i (omega (arith, end)) (ltb i at) refl)
    where
      go : (i : ℕ) → i < r → (b : Bool) → ltb i at ≡ b → get_or (take r s') i 0 ≡ get_or (take at s ++ bs) i 0
      go i l true e =
          let m : i < at = ltb-true i at e in
          get_or-take r s' i 0 l ∙ p.wrote.below i m ∙ sym (get_or-take at s i 0 m) ∙ sym (get_or-append (take at s) bs 0 i (omega (arith, start)))
      go i l false e =
          let m : at ≤ i = ltb-false i at e in
          get_or-take r s' i 0 l
          ∙ ap (λ (j : ℕ). get_or s' j 0) {x = i} {y = at + (i - at)} (omega arith)
          ∙ p.wrote.is (i - at) (omega (arith, p.behind))
          ∙ sym (get_or-append-add (take at s) bs (i - at) 0)
          ∙ ap (λ (j : ℕ). get_or (take at s ++ bs) j 0) {x = length (take at s) + (i - at)} {y = i} (omega (arith, start))
