-- The operands of the first states are first states: so `epsilon` and `delta`, which call themselves on operands, write to words within the shorter table. Tables in order are such (`closed_here`); steps leave them so,
-- since words 0 to 3 of these states and their members are kept.
use mathlib.Core.Path.{◌≡◌, refl, sym, ◌∙◌, ap, ap₂, subst}
use mathlib.Core.Bool.{true}
use mathlib.Core.List.{List, [], ◌∷◌}
use Prim.Native.Nat.{ℕ, ◌+◌, ◌*◌, ◌≤◌, ◌<◌}
use native.Mathlib.Omega.{arith}
use lib.Dec.{eqb}
use lib.ListN.{get_or, length-set}
use lib.Seq.{get_or-set_other}
use borrow.Author.Tests.{eqb-true}
use Rattle.common.specs.Outcome.{Step}
use Rattle.common.specs.Runs.{Table}
use Rattle.netkat.specs.Rules as Rules
use Rattle.aut_steps.specs.Tables.{UNION, INTERSECT, XOR, DIFFERENCE, COMPLEMENT, SEQUENCE, STAR, NEXT, UNTIL, kind_of, op1, op2, words, list_of, Limits, Aut}
use Rattle.aut_steps.specs.Kinds.{Form, many, form}
use Rattle.aut_steps.specs.Ascending.{All}
use Rattle.aut_steps.specs.Wf.{states, Many, Ok, WfAut}
use Rattle.aut_steps.proofs.Wf.{ok_as}
use Rattle.aut_steps.proofs.Facts as Facts
use Rattle.aut_delta_steps.specs.Epsilon.{set_word, each_of}
use Rattle.aut_delta_steps.proofs.Operands.{below_one, below_two}
use Rattle.book_longer.specs.Longer.{Respects}
use Rattle.book_longer.proofs.Follow.{returns, bind}
use Rattle.book_longer.proofs.Words.{set_longer}
use Rattle.book_longer.proofs.Anchored.{Anchor, States, InAut, here}

-- kinds whose word 1 is a state; whose word 2 is one; with a list
pub data First : ℕ → Type 0 where
  xor : First XOR
  difference : First DIFFERENCE
  complement : First COMPLEMENT
  sequence : First SEQUENCE
  star : First STAR
  next : First NEXT
  until : First UNTIL

pub data Second : ℕ → Type 0 where
  xor₂ : Second XOR
  difference₂ : Second DIFFERENCE
  sequence₂ : Second SEQUENCE
  until₂ : Second UNTIL

pub data Listed : ℕ → Type 0 where
  union : Listed UNION
  intersect : Listed INTERSECT

-- a list among the members, of earlier states
pub record Lists (a : Anchor) (x : ℕ) : Type 0 where
  pub inside : op1 a.words x + op2 a.words x ≤ a.members
  pub earlier : All (λ y. y < x) (list_of a.words a.list x)

pub record Closed (a : Anchor) : Type 0 where
  pub first : (k x : ℕ) → First k → x < a.states → kind_of a.words x ≡ k → op1 a.words x < x
  pub second : (k x : ℕ) → Second k → x < a.states → kind_of a.words x ≡ k → op2 a.words x < x
  pub lists : (k x : ℕ) → Listed k → x < a.states → kind_of a.words x ≡ k → Lists a x

module _ {N : ℕ} {L : Limits} {σ : Aut} (g : WfAut N L σ) where
  pub closed_here : Closed (here σ)
  unfolding form
  closed_here = record { first = first; second = second; lists = lists }
    where
      first : (k x : ℕ) → First k → x < states σ → kind_of σ.states.words x ≡ k → op1 σ.states.words x < x
      first _ x xor l e = (below_two g l XOR e Rules.xor refl).0.earlier
      first _ x difference l e = (below_two g l DIFFERENCE e Rules.difference refl).0.earlier
      first _ x complement l e = (below_one g l COMPLEMENT e Rules.complement refl).earlier
      first _ x sequence l e = (below_two g l SEQUENCE e Rules.sequence refl).0.earlier
      first _ x star l e = (below_one g l STAR e Rules.star refl).earlier
      first _ x next l e = (below_one g l NEXT e Rules.next refl).earlier
      first _ x until l e = (below_two g l UNTIL e Rules.until refl).0.earlier

      second : (k x : ℕ) → Second k → x < states σ → kind_of σ.states.words x ≡ k → op2 σ.states.words x < x
      second _ x xor₂ l e = (below_two g l XOR e Rules.xor refl).1.earlier
      second _ x difference₂ l e = (below_two g l DIFFERENCE e Rules.difference refl).1.earlier
      second _ x sequence₂ l e = (below_two g l SEQUENCE e Rules.sequence refl).1.earlier
      second _ x until₂ l e = (below_two g l UNTIL e Rules.until refl).1.earlier

      lists : (k x : ℕ) → Listed k → x < states σ → kind_of σ.states.words x ≡ k → Lists (here σ) x
      lists _ x union l e = let o : Many σ x = subst (λ (f : Form N). Ok f σ x) {x = form UNION} {y = many Rules.union} refl (ok_as g UNION l e) in record { inside = o.inside; earlier = o.earlier }
      lists _ x intersect l e = let o : Many σ x = subst (λ (f : Form N). Ok f σ x) {x = form INTERSECT} {y = many Rules.intersection} refl (ok_as g INTERSECT l e) in record { inside = o.inside; earlier = o.earlier }

-- ---- operands as they are read

module _ {a : Anchor} (c : Closed a) {σ τ : Aut} (r : InAut a σ τ) {x : ℕ} (l : x < a.states) where
  kind_kept : kind_of σ.states.words x ≡ kind_of a.words x
  unfolding kind_of
  kind_kept =
      ap (λ (i : ℕ). get_or σ.states.words i 0) {x = 12 * x} {y = 12 * x + 0} (omega arith) ∙ r.states.kept x 0 l (omega arith)
      ∙ ap (λ (i : ℕ). get_or a.words i 0) {x = 12 * x + 0} {y = 12 * x} (omega arith)

  first_kept : op1 σ.states.words x ≡ op1 a.words x
  unfolding op1
  first_kept = r.states.kept x 1 l (omega arith)

  second_kept : op2 σ.states.words x ≡ op2 a.words x
  unfolding op2
  second_kept = r.states.kept x 2 l (omega arith)

  pub first_below : {k : ℕ} → First k → eqb (kind_of σ.states.words x) k ≡ true → op1 σ.states.words x < a.states
  first_below {k} f e = omega (arith, first_kept, c.first k x f l (sym kind_kept ∙ eqb-true (kind_of σ.states.words x) k e))

  pub second_below : {k : ℕ} → Second k → eqb (kind_of σ.states.words x) k ≡ true → op2 σ.states.words x < a.states
  second_below {k} f e = omega (arith, second_kept, c.second k x f l (sym kind_kept ∙ eqb-true (kind_of σ.states.words x) k e))

  pub list_below : {k : ℕ} → Listed k → eqb (kind_of σ.states.words x) k ≡ true → All (λ y. y < a.states) (list_of σ.states.words σ.members.words x)
  list_below {k} f e =
      let o = c.lists k x f l (sym kind_kept ∙ eqb-true (kind_of σ.states.words x) k e) in
      let q : list_of σ.states.words σ.members.words x ≡ list_of a.words a.list x =
      ap₂ (words σ.members.words) first_kept second_kept ∙ Facts.words_same a.list σ.members.words (op1 a.words x) (op2 a.words x) (λ i m n. r.members.kept i (omega (arith, o.inside))) in
      subst (All (λ y. y < a.states)) (sym q) (wide (list_of a.words a.list x) o.earlier)
    where
      wide : (ys : List ℕ) → All (λ y. y < x) ys → All (λ y. y < a.states) ys
      wide [] p = tt
      wide (y ∷ ys) (m, p) = (omega arith, wide ys p)

-- an answer for each element of a list
pub each_below : {S A : Type 0} {R : S → S → Type 0} {P : ℕ → Type 0} {one : ℕ → Step S A} → ((x : ℕ) → P x → Respects R (one x)) → (xs : List ℕ) → All P xs → Respects R (each_of one xs)
unfolding each_of
each_below h [] p = returns []
each_below h (x ∷ xs) (q, p) = bind (h x q) (λ a. bind (each_below h xs p) (λ l. returns (a ∷ l)))

-- ---- writing

-- a word from 4 on
pub word_longer : {a : Anchor} {s t : Table} (x w v : ℕ) → x < a.states → 4 ≤ w → w < 12 → States a s t → States a (set_word x w v s) (set_word x w v t)
unfolding set_word
word_longer {a} {s} {t} x w v l m n r = record {
  words = set_longer (12 * x + w) v (omega (arith, r.fits)) r.words;
  count = r.count;
  fits = omega (arith, r.fits, length-set s.words (12 * x + w) v);
  more = r.more;
  kept = λ y u i j. get_or-set_other s.words (12 * x + w) (12 * y + u) v 0 (λ q. omega arith) ∙ r.kept y u i j;
}
