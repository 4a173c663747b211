-- A store is begun with the empty sets of depth 1 to N. 01, "sp.rs": 0 fields: handles 0 and 1, no nodes.
-- That is refused exactly if the table has no N records. The full sets, which the Rust makes next, are then found and not made.
use mathlib.Core.Path.{◌≡◌, refl, sym, ◌∙◌, ap, subst}
use mathlib.Core.Bool.{Bool, true, false, ◌&&◌}
use mathlib.Core.List.{List}
use mathlib.Core.Logic.{◌⊎◌, ⊎_elim}
use Prim.Native.Nat.{ℕ, zero, suc, ◌-◌, ◌/◌, ◌%◌, ◌≤◌, ◌<◌}
use native.Mathlib.Omega.{arith}
use native.Mathlib.Nat.{eq-or-lt_of_le, le_refl}
use lib.Dec.{ltb}
use lib.ListN.{length}
use borrow.Author.Tests.{ltb-true, ltb-false}
use Rattle.common.specs.Outcome.{Outcome, refused, given, after, Gives, refusal, gives}
use Rattle.common.proofs.Follow.{call, given_of}
use Rattle.common.specs.Runs.{Table, table}
use Rattle.sp_steps.specs.Word.{flip}
use Rattle.sp_steps.proofs.Word.{flip_zero}
use Rattle.sp_steps.specs.Model.{kid, child, room, most, mk, zero_at, one_at, constants}
use Rattle.sp_steps.specs.Wf.{WfIn, Wf, WfAny, Ext, ValidAt}
use Rattle.sp_steps.proofs.Laws.{ext_refl, ext_trans, low_child, zero_at_lem, child_zero, den_one, one_flip, child_flip}
use Rattle.sp_steps.specs.Make.{side}
use Rattle.sp_steps.proofs.Make.{Made, mk_made, mk_again, mk_refused, by_test}

-- what holds when the store for N fields is begun in σ
pub record Begun (N : ℕ) (σ τ : Table) (h : ℕ) : Type 0 where
  pub later : Ext σ τ
  pub wf : Wf N τ
  pub count_is : τ.count ≡ N
  pub zero_is : h ≡ zero_at N

-- on the way there
record Part (N : ℕ) (σ τ : Table) (h : ℕ) : Type 0 where
  later : Ext σ τ
  wf : WfAny N τ
  count_is : τ.count ≡ N
  zero_is : h ≡ zero_at N

none_yet : (t : List ℕ) → WfAny 0 (table t 0)
none_yet t = record {
  fits = omega arith;
  small = omega arith;
  even = λ i l. absurd (omega arith);
  once = λ i j l m e. absurd (omega arith);
  many = omega arith;
  const = λ i l b. absurd (omega arith);
  rising = λ b i l. absurd (omega arith);
  level = λ i l. absurd (omega arith);
}

side_same : {A : Type 0} (b : Bool) (x : A) → side b x x ≡ x
side_same false x = refl
side_same true x = refl

module _ (d : ℕ) (σ τ : Table) (h : ℕ) (n : σ.count ≡ d) (wf : WfAny d τ) (M : Made σ d (zero_at d) (zero_at d) τ h) where
  low : h % 2 ≡ 0
  low = sym (low_child wf h M.at.0 M.at.1) ∙ ap (λ (k : ℕ). k % 2) (M.kids false) ∙ omega arith

  plain : (b : Bool) → kid τ.words b (h / 2 - 1) ≡ zero_at d
  unfolding child
  plain b = sym (flip_zero _) ∙ ap (λ (s : ℕ). flip s (kid τ.words b (h / 2 - 1))) (sym low) ∙ M.kids b ∙ side_same b (zero_at d)

  index : h / 2 - 1 ≡ d
  index =
      by_test (ltb (h / 2 - 1) d)
      (λ e. absurd (omega (arith, wf.const (h / 2 - 1) (ltb-true (h / 2 - 1) d e) false, plain false, ltb-true (h / 2 - 1) d e)))
      (λ e. omega (arith, ltb-false (h / 2 - 1) d e, M.at.0, M.at.1, M.one_more))

  half : h / 2 ≡ suc d
  half = omega (arith, index, M.at.0)

  count_of : τ.count ≡ suc d
  count_of = omega (arith, half, M.at.1, M.one_more)

  stored : (b : Bool) → kid τ.words b d ≡ zero_at d
  stored b = ap (kid τ.words b) (sym index) ∙ plain b

  wf_more : WfAny (suc d) τ
  wf_more = record {
    fits = wf.fits;
    small = wf.small;
    even = wf.even;
    once = wf.once;
    many = omega (arith, count_of);
    const = λ i l b. ⊎_elim (λ q. ap (kid τ.words b) q ∙ stored b ∙ ap zero_at (sym q)) (λ q. wf.const i q b) (last i l);
    rising = wf.rising;
    level = wf.level;
  }
    where
      last : (i : ℕ) → i < suc d → (i ≡ d) ⊎ (i < d)
      last i l = eq-or-lt_of_le (omega arith)

  zero_of : h ≡ zero_at (suc d)
  zero_of = omega (arith, low, half)

gives_of : {P Q : Table → ℕ → Type 0} {o : Outcome Table ℕ} → ((τ : Table) (h : ℕ) → P τ h → Q τ h) → Gives P o → Gives Q o
gives_of f refusal = refusal
gives_of f (gives {σ} {a} p) = gives (f σ a p)

part_next : (d : ℕ) (σ τ : Table) (z : ℕ) → Part d σ τ z → Gives (Part (suc d) σ) (mk z z τ)
part_next d σ τ z B =
    subst (λ (k : ℕ). Gives (Part (suc d) σ) (mk k k τ)) (sym B.zero_is)
    (gives_of (λ υ h g. record {
      later = ext_trans B.later g.ext;
      wf = wf_more d τ υ h B.count_is g.wf g.holds;
      count_is = count_of d τ υ h B.count_is g.wf g.holds;
      zero_is = zero_of d τ υ h B.count_is g.wf g.holds;
    })
    (mk_made B.wf tt (zero_at_lem B.wf d (le_refl d)) (zero_at_lem B.wf d (le_refl d))))

part : (N : ℕ) (t : List ℕ) → Gives (Part N (table t 0)) (constants N (table t 0))
unfolding constants
part zero t = gives (record { later = ext_refl (table t 0); wf = none_yet t; count_is = refl; zero_is = refl })
part (suc d) t = call (part d t) (λ τ z B. part_next d (table t 0) τ z B)

-- all nodes are constants
wf_whole : (N : ℕ) (σ : Table) → WfAny N σ → σ.count ≡ N → Wf N σ
wf_whole N σ w e = record {
  fits = w.fits;
  small = w.small;
  even = w.even;
  once = w.once;
  many = w.many;
  const = w.const;
  rising = w.rising;
  level = λ i l. record {
    depth = i;
    low = omega arith;
    children = λ b. subst (ValidAt σ i) (sym (w.const i (omega arith) b)) (zero_at_lem w i (omega arith));
  };
}

-- unless refused, the store is begun
pub begun : (N : ℕ) (t : List ℕ) → Gives (Begun N (table t 0)) (constants N (table t 0))
begun N t = gives_of (λ τ h B. record { later = B.later; wf = wf_whole N τ B.wf B.count_is; count_is = B.count_is; zero_is = B.zero_is }) (part N t)

-- 0 fields: no nodes
pub begun_none : (t : List ℕ) → constants 0 (table t 0) ≡ given (table t 0) 0
unfolding constants
begun_none t = refl

-- the full set of each depth is there: the Rust's `one_at_depth` makes nothing
pub one_made : {P : ℕ → Type 0} {N : ℕ} {σ : Table} → WfIn P N σ → (d : ℕ) → d < N → mk (one_at d) (one_at d) σ ≡ given σ (one_at (suc d))
one_made {σ} w d l = mk_again d (one_at (suc d)) (one_at d) (one_at d) w (den_one w (suc d) l).at (λ b. kids b ∙ sym (side_same b (one_at d)))
  where
    kids : (b : Bool) → child σ.words b (one_at (suc d)) ≡ one_at d
    kids b = ap (child σ.words b) (sym (one_flip (suc d))) ∙ child_flip σ.words b (zero_at (suc d)) ∙ ap (flip 1) (child_zero w d l b) ∙ one_flip d

-- ---- refusal

full_at : (σ : Table) → room σ ≡ false → (length σ.words / 2 ≤ σ.count) ⊎ (most ≤ σ.count)
unfolding room
full_at σ e =
    by_test (ltb σ.count (length σ.words / 2))
    (λ p. ◌⊎◌.inr (ltb-false σ.count most (sym (ap (λ (c : Bool). c && ltb σ.count most) p) ∙ e)))
    (λ p. ◌⊎◌.inl (ltb-false σ.count (length σ.words / 2) p))

-- the table has not N records
abbrev pub TooFew : ℕ → List ℕ → Type 0
TooFew N t = (length t / 2 < N) ⊎ (most < N)

too_few_next : (d : ℕ) (t : List ℕ) → TooFew d t → TooFew (suc d) t
too_few_next d t = ⊎_elim (λ l. ◌⊎◌.inl (omega arith)) (λ l. ◌⊎◌.inr (omega arith))

pub begun_refused : (N : ℕ) (t : List ℕ) (number : ℕ) → constants N (table t 0) ≡ refused number → (number ≡ 20) × TooFew N t
unfolding constants
begun_refused zero t number e = absurd (let z : ◌≡◌ {A = ℕ} 0 1 = cc in omega arith)
begun_refused (suc d) t number e = go (constants d (table t 0)) refl e (begun_refused d t number)
  where
    go : (o : Outcome Table ℕ) → constants d (table t 0) ≡ o → after o (λ z. mk z z) ≡ refused number
        → (constants d (table t 0) ≡ refused number → (number ≡ 20) × TooFew d t) → (number ≡ 20) × TooFew (suc d) t
    go (refused other) q r h = let x = h (q ∙ r) in (x.0, too_few_next d t x.1)
    go (given τ z) q r h =
        let B : Begun d (table t 0) τ z = given_of (begun d t) q in
        let m = mk_refused z z τ number r in
        (m.0, ⊎_elim (λ l. ◌⊎◌.inl (omega (arith, B.later.len, B.count_is))) (λ l. ◌⊎◌.inr (omega (arith, B.count_is))) (full_at τ m.1.no_room))

pub begun_fits : (N : ℕ) (t : List ℕ) (τ : Table) (h : ℕ) → constants N (table t 0) ≡ given τ h → TooFew N t → ⊥
begun_fits N t τ h q =
    let B : Begun N (table t 0) τ h = given_of (begun N t) q in
    ⊎_elim (λ l. omega (arith, B.wf.fits, B.later.len, B.count_is)) (λ l. omega (arith, B.wf.small, B.count_is))
