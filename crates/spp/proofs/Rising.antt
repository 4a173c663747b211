-- Diagrams that are made from the bottom up, a node at each depth: the constants, and those of one field.
use mathlib.Core.Path.{◌≡◌, refl, sym, ◌∙◌, ap, ap₂, subst}
use mathlib.Core.Bool.{Bool, true, false}
use mathlib.Core.List.{List}
use Prim.Native.Nat.{ℕ, zero, suc, ◌+◌, ◌-◌, ◌≤◌, ◌<◌}
use native.Mathlib.Omega.{arith}
use native.Mathlib.Nat.{le_trans}
use Rattle.common.specs.Outcome.{Outcome, refused, given, Step, return, after, ◌>>=◌, Gives, refusal, gives}
use Rattle.common.proofs.Follow.{given_of, call}
use Rattle.common.specs.Runs.{Table, table}
use Rattle.spp_steps.specs.Model.{Quad, quad, mk, zero_at, one_at, zeros, ones, tops, constants, Constants, field, test, assign}
use Rattle.spp_steps.specs.Wf.{Wf}
use Rattle.spp_steps.proofs.Laws.{false_true}
use Rattle.spp_steps.proofs.Make.{Ways, there, fresh, short, ways, grown, put_len, room_fits, grown_rising}
use Rattle.spp_steps.proofs.Begin.{zeros_count}
use Rattle.spp_steps.proofs.Field.{test_exact, assign_exact}
use Rattle.spp.specs.Clauses.{Fits, ColumnAsked, columns, beside, entry_of}
use Rattle.spp.proofs.Calls.{fits}

-- ---- the nodes still fit, and the handle is one of them

record Raised (n : ℕ) (τ : Table) (h : ℕ) : Type 0 where
  fits : Fits τ.words τ.count
  within : h < τ.count + 2
  more : n ≤ τ.count

mk_raised : (n : ℕ) (X : Quad) (σ : Table) → n ≤ σ.count → Fits σ.words σ.count → ((i j : Bool) → X i j < σ.count + 2) → Gives (Raised n) (mk X σ)
mk_raised n X σ m f below = go (mk X σ) (ways X σ)
  where
    go : (o : Outcome Table ℕ) → Ways X σ o → Gives (Raised n) o
    go o (there k l q) = gives {σ = σ} {a = k + 2} (record { fits = f; within = omega arith; more = omega arith })
    go o (fresh miss r) =
        let l = room_fits σ.words σ.count r in
        gives {σ = grown X σ} {a = σ.count + 2} (record {
          fits = record { fits = omega (arith, put_len σ.words σ.count X, l.0); small = omega (arith, l.1); rising = grown_rising X σ r f.rising below };
          within = omega arith;
          more = omega arith;
        })
    go o (short z) = refusal

zero_most : (N d : ℕ) → zero_at N d ≤ d + 1
unfolding zero_at
zero_most N zero = omega arith
zero_most N (suc d) = omega arith

-- the children of the next constant
next_below : (N : ℕ) (b : Bool) (y d n : ℕ) → y < n + 2 → (b ≡ true → suc d ≤ n) → (i j : Bool) → quad y (beside b y (zero_at N d)) (beside b y (zero_at N d)) y i j < n + 2
next_below N b y d n l z false false = l
next_below N b y d n l z true true = l
next_below N false y d n l z false true = l
next_below N false y d n l z true false = l
next_below N true y d n l z false true = let k : suc d ≤ n = z refl in omega (arith, zero_most N d)
next_below N true y d n l z true false = let k : suc d ≤ n = z refl in omega (arith, zero_most N d)

columns_raised : (N : ℕ) (b : Bool) (x d : ℕ) (σ : Table) → Fits σ.words σ.count → x < σ.count + 2 → (b ≡ true → d ≤ σ.count) → Gives (Raised σ.count) (columns N b x d σ)
unfolding columns
columns_raised N b x zero σ f l z = gives (record { fits = f; within = l; more = omega arith })
columns_raised N b x (suc d) σ f l z =
    call (columns_raised N b x d σ f l (λ e. let k : suc d ≤ σ.count = z e in omega arith)) (λ τ y g.
    mk_raised σ.count _ τ g.more g.fits (next_below N b y d τ.count g.within (λ e. le_trans (z e) g.more)))

-- the nodes fit after a column, whole or a part of it
pub columns_fits : (N : ℕ) {σ : Table} {b : Bool} {x d : ℕ} (e : ℕ) {τ : Table} {h : ℕ} → ColumnAsked σ b x d → e ≤ d → columns N b x e σ ≡ given τ h → Fits τ.words τ.count
columns_fits N {σ} {b} {x} e q l p = (given_of (columns_raised N b x e σ q.fits q.base_in (λ z. le_trans l (q.zeros_in z))) p).fits

-- the nodes fit after a diagram of one field
pub field_fits : (N : ℕ) (assigned value : Bool) (d f : ℕ) {σ τ : Table} {h : ℕ} → Wf N σ → d ≤ N → f < d → field N (entry_of assigned value) d f σ ≡ given τ h → Fits τ.words τ.count
unfolding test assign
field_fits N true v d f {σ} w l m q = fits (given_of (assign_exact N v d f l m σ w).runs q).wf
field_fits N false v d f {σ} w l m q = fits (given_of (test_exact N v d f l m σ w).runs q).wf

-- ---- a node more

past : {A B : Type 0} {o : Outcome Table A} (τ : Table) (a : A) (k : A → Step Table B) → o ≡ given τ a → after o k ≡ k a τ
past τ a k e = ap (λ (o : Outcome Table _). after o k) e

halted : {A B : Type 0} {o : Outcome Table A} {number : ℕ} (k : A → Step Table B) → o ≡ refused number → after o k ≡ refused number
halted k e = ap (λ (o : Outcome Table _). after o k) e

above : ℕ → Bool → ℕ → ℕ → Step Table ℕ
above N b d y = mk (quad y (beside b y (zero_at N d)) (beside b y (zero_at N d)) y)

module _ (N : ℕ) (b : Bool) (x : ℕ) (σ : Table) where
  pub columns_none : columns N b x 0 σ ≡ given σ x
  unfolding columns
  columns_none = refl

  columns_up : (d : ℕ) → columns N b x (d + 1) σ ≡ after (columns N b x d σ) (above N b d)
  unfolding columns above
  columns_up d = ap (λ (D : ℕ). columns N b x D σ) {x = d + 1} {y = suc d} (omega arith)

  pub columns_then : (d : ℕ) {σ1 : Table} {y w : ℕ} {o : Outcome Table ℕ} → columns N b x d σ ≡ given σ1 y
      → beside b y (zero_at N d) ≡ w → mk (quad y w w y) σ1 ≡ o → columns N b x (d + 1) σ ≡ o
  unfolding above
  columns_then d {σ1} {y} e z q = columns_up d ∙ past σ1 y (above N b d) e ∙ ap (λ (w : ℕ). mk (quad y w w y) σ1) z ∙ q

  -- no more is done once a node is refused
  columns_over : {number : ℕ} (d k : ℕ) → columns N b x d σ ≡ refused number → columns N b x (d + k) σ ≡ refused number
  columns_over d zero e = ap (λ (D : ℕ). columns N b x D σ) {x = d + 0} {y = d} (omega arith) ∙ e
  columns_over d (suc k) e =
      ap (λ (D : ℕ). columns N b x D σ) {x = d + suc k} {y = d + k + 1} (omega arith) ∙ columns_up (d + k) ∙ halted (above N b (d + k)) (columns_over d k e)

  pub columns_stuck : {number : ℕ} (d D : ℕ) → d < D → columns N b x (d + 1) σ ≡ refused number → columns N b x D σ ≡ refused number
  columns_stuck d D l e = ap (λ (D : ℕ). columns N b x D σ) {x = D} {y = d + 1 + (D - (d + 1))} (omega arith) ∙ columns_over (d + 1) (D - (d + 1)) e

-- the three columns of a store's start
zeros_is : (N d : ℕ) (σ : Table) → zeros d σ ≡ columns N false 0 d σ
unfolding zeros columns above
zeros_is N zero σ = refl
zeros_is N (suc d) σ = ap (λ (o : Outcome Table ℕ). after o (above N false d)) (zeros_is N d σ)

ones_is : (N d : ℕ) (σ : Table) → ones N d σ ≡ columns N true 1 d σ
unfolding ones columns above
ones_is N zero σ = refl
ones_is N (suc d) σ = ap (λ (o : Outcome Table ℕ). after o (above N true d)) (ones_is N d σ)

tops_is : (N d : ℕ) (σ : Table) → tops d σ ≡ columns N false 1 d σ
unfolding tops columns above
tops_is N zero σ = refl
tops_is N (suc d) σ = ap (λ (o : Outcome Table ℕ). after o (above N false d)) (tops_is N d σ)

-- a column of a store for as many fields
columns_for : {N N' : ℕ} (b : Bool) (x : ℕ) (σ : Table) {o : Outcome Table ℕ} → N' ≡ N → columns N' b x N' σ ≡ o → columns N b x N σ ≡ o
columns_for b x σ {o} e q = subst (λ (N : ℕ). columns N b x N σ ≡ o) e q

column_asked_for : {N N' : ℕ} {b : Bool} {x : ℕ} {σ : Table} → N' ≡ N → ColumnAsked σ b x N → ColumnAsked σ b x N'
column_asked_for {b} {x} {σ} e q = subst (ColumnAsked σ b x) (sym e) q

-- what is asked by the three of a store's start
module _ (N : ℕ) (t : List ℕ) (few : N ≤ 31) where
  pub asked_1 : ColumnAsked (table t 0) false 0 N
  asked_1 = record {
    deep = few;
    fits = record { fits = omega arith; small = omega arith; rising = λ k l i j. absurd (omega arith) };
    base_in = omega arith;
    zeros_in = λ e. absurd (false_true e);
  }

  -- each on a store for as many fields as the one before
  module _ {σ1 : Table} {z N1 : ℕ} (q1 : columns N false 0 N (table t 0) ≡ given σ1 z) (e1 : N1 ≡ N) where
    ones_asked : ColumnAsked σ1 true 1 N
    ones_asked = record {
      deep = few;
      fits = columns_fits N N asked_1 (omega arith) q1;
      base_in = omega arith;
      zeros_in = λ e. omega (arith, zeros_count N t σ1 z (zeros_is N N (table t 0) ∙ q1));
    }

    pub asked_2 : ColumnAsked σ1 true 1 N1
    asked_2 = column_asked_for e1 ones_asked

    pub asked_3 : {σ2 : Table} {o N2 : ℕ} → columns N1 true 1 N1 σ1 ≡ given σ2 o → N2 ≡ N1 → ColumnAsked σ2 false 1 N2
    asked_3 q2 e2 = column_asked_for (e2 ∙ e1) (record {
      deep = few;
      fits = columns_fits N N ones_asked (omega arith) (columns_for true 1 _ e1 q2);
      base_in = omega arith;
      zeros_in = λ e. absurd (false_true e);
    })

module _ (N : ℕ) (σ : Table) where
  k3 : ℕ → ℕ → ℕ → Step Table Constants
  k3 z o t = return (record { zero = z; one = o; top = t })

  k2 : ℕ → ℕ → Step Table Constants
  k2 z o = tops N >>= k3 z o

  k1 : ℕ → Step Table Constants
  k1 z = ones N N >>= k2 z

  pub start_1 : columns N false 0 N σ ≡ refused 21 → constants N σ ≡ refused 21
  unfolding constants k1 k2 k3
  start_1 e = halted k1 (zeros_is N N σ ∙ e)

  module _ {σ1 : Table} {z N1 : ℕ} (q1 : columns N false 0 N σ ≡ given σ1 z) (e1 : N1 ≡ N) where
    first : constants N σ ≡ k1 z σ1
    unfolding constants k1 k2 k3
    first = past σ1 z k1 (zeros_is N N σ ∙ q1)

    ones_for : {r : Outcome Table ℕ} → columns N1 true 1 N1 σ1 ≡ r → ones N N σ1 ≡ r
    ones_for q = ones_is N N σ1 ∙ columns_for true 1 σ1 e1 q

    pub start_2 : columns N1 true 1 N1 σ1 ≡ refused 21 → constants N σ ≡ refused 21
    unfolding k1
    start_2 q = first ∙ halted (k2 z) (ones_for q)

    module _ {σ2 : Table} {o N2 : ℕ} (q2 : columns N1 true 1 N1 σ1 ≡ given σ2 o) (e2 : N2 ≡ N1) where
      second : constants N σ ≡ k2 z o σ2
      unfolding k1
      second = first ∙ past σ2 o (k2 z) (ones_for q2)

      tops_for : {r : Outcome Table ℕ} → columns N2 false 1 N2 σ2 ≡ r → tops N σ2 ≡ r
      tops_for q = tops_is N N σ2 ∙ columns_for false 1 σ2 (e2 ∙ e1) q

      pub start_3 : columns N2 false 1 N2 σ2 ≡ refused 21 → constants N σ ≡ refused 21
      unfolding k2
      start_3 q = second ∙ halted (k3 z o) (tops_for q)

      pub start_4 : {σ3 : Table} {t : ℕ} → columns N2 false 1 N2 σ2 ≡ given σ3 t → constants N σ ≡ given σ3 (record { zero = z; one = o; top = t })
      unfolding k2 k3
      start_4 {σ3} {t} q = second ∙ past σ3 t (k3 z o) (tops_for q)

module _ (N : ℕ) (e : ℕ → ℕ → Quad) (D f : ℕ) (σ : Table) (inside : f < D) where
  from_here : (D f : ℕ) → f < D → f ≡ 0 → field N e D f σ ≡ mk (e (one_at N (D - 1)) (zero_at N (D - 1))) σ
  unfolding field
  from_here zero f l n = absurd (omega arith)
  from_here (suc d) zero l n = ap (λ (d : ℕ). mk (e (one_at N d) (zero_at N d)) σ) {x = d} (omega arith)
  from_here (suc d) (suc f) l n = absurd (omega arith)

  pub field_here : {x z : ℕ} {o : Outcome Table ℕ} → f ≡ 0 → one_at N (D - 1) ≡ x → zero_at N (D - 1) ≡ z → mk (e x z) σ ≡ o → field N e D f σ ≡ o
  field_here n p q m = from_here D f inside n ∙ ap₂ (λ (x z : ℕ). mk (e x z) σ) p q ∙ m

  field_up : (f ≡ 0 → ⊥) → field N e D f σ ≡ after (field N e (D - 1) (f - 1) σ) (above N true (D - 1))
  unfolding field above
  field_up n = ap₂ (λ (D f : ℕ). field N e D f σ) {x = D} {y = suc (D - 1)} {u = f} {v = suc (f - 1)} (omega arith) (omega arith)

  pub field_stuck : {number : ℕ} → (f ≡ 0 → ⊥) → field N e (D - 1) (f - 1) σ ≡ refused number → field N e D f σ ≡ refused number
  field_stuck n q = field_up n ∙ halted (above N true (D - 1)) q

  pub field_then : {σ1 : Table} {x z : ℕ} {o : Outcome Table ℕ} → (f ≡ 0 → ⊥) → field N e (D - 1) (f - 1) σ ≡ given σ1 x
      → zero_at N (D - 1) ≡ z → mk (quad x z z x) σ1 ≡ o → field N e D f σ ≡ o
  unfolding above
  field_then {σ1} {x} n q p m = field_up n ∙ past σ1 x (above N true (D - 1)) q ∙ ap (λ (z : ℕ). mk (quad x z z x) σ1) p ∙ m
