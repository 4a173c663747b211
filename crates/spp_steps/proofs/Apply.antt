-- 01, port order, step 2, boolean operations: each exit is right, at depth 0 there is always one, and so every operation means what it should. One law for all of them.
use Rattle.std.specs.Prelude.{if◌then◌else◌}
use mathlib.Core.Path.{◌≡◌, refl, sym, ap}
use mathlib.Core.Bool.{Bool, true, false, not as flip, ◌&&◌, ◌||◌, or_self, or-true, or-false, or_comm, and_self, and-true, and-false, and_comm, and-not_self}
use mathlib.Core.Logic.{◌⊎◌, ⊎_elim}
use mathlib.Core.Logic.◌⊎◌.{inl, inr}
use Prim.Native.Nat.{ℕ, zero, suc, ◌-◌, ◌≤◌, ◌<◌}
use native.Mathlib.Omega.{arith}
use lib.Dec.{eqb, ltb}
use borrow.Author.Tests.{eqb-true, ltb-true}
use Rattle.common.specs.Packets.{Packet, end, Relation}
use Rattle.common.specs.Outcome.{Step, return}
use Rattle.common.specs.Runs.{Table}
use Rattle.spp_steps.proofs.Exact.{Exact, exact_bind, exact_map, exact_read, exact_return}
use Rattle.spp_steps.specs.Model.{Quad, quad, kids, mem, zero_at, top_at, Op, union, intersect, xor, difference, not, Exit, out, on, sorted, exit, follow, each, down, apply}
use Rattle.spp_steps.specs.Relations.{part}
use Rattle.spp_steps.specs.Wf.{Wf, Ext, ValidAt, Denotes}
use Rattle.spp_steps.proofs.Laws.{at_low, ext_refl, ext_trans, kids_path, den_ext, den_is, den_kid, den_zero, den_top, agree}
use Rattle.spp_steps.proofs.Make.{spp_limits, mk_exact, quad_den}

-- what an operation does to a pair's two bits of membership
abbrev pub sem : Op → Bool → Bool → Bool
sem union x y = x || y
sem intersect x y = x && y
sem xor true y = flip y
sem xor false y = y
sem difference x y = x && flip y
sem not x y = flip x

-- the operation on two relations
abbrev pub pointwise : {d : ℕ} → Op → Relation d → Relation d → Relation d
pointwise o R S p q = sem o (R p q) (S p q)

-- ---- exits

-- to go down with the operation o on x and y makes R
pub record Going (σ : Table) (d : ℕ) (R : Relation d) (o : Op) (x y : ℕ) : Type 0 where
  pub left : Relation d
  pub right : Relation d
  pub den_x : Denotes σ d x left
  pub den_y : Denotes σ d y right
  pub makes : (p q : Packet d) → pointwise o left right p q ≡ R p q

-- what an exit leads to is R
abbrev pub Leads : (σ : Table) (d : ℕ) → Relation d → Exit → Type 0
Leads σ d R (out h) = Denotes σ d h R
Leads σ d R (on o x y) = Going σ d R o x y

pub by_if : {A : Type 0} (P : A → Type 0) (c : Bool) (x y : A) → (c ≡ true → P x) → (c ≡ false → P y) → P (if c then x else y)
by_if P true x y f g = f refl
by_if P false x y f g = g refl

pub or_cases : (a b : Bool) → (a || b) ≡ true → (a ≡ true) ⊎ (b ≡ true)
or_cases true b e = inl refl
or_cases false b e = inr e

xor_self : (x : Bool) → false ≡ sem xor x x
xor_self true = refl
xor_self false = refl

xor_false : (x : Bool) → x ≡ sem xor x false
xor_false true = refl
xor_false false = refl

xor_true : (x : Bool) → flip x ≡ sem xor x true
xor_true true = refl
xor_true false = refl

xor_comm : (x y : Bool) → sem xor y x ≡ sem xor x y
xor_comm true y = sym (xor_true y)
xor_comm false y = sym (xor_false y)

not_low : {σ : Table} (d a : ℕ) {R : Relation d} → Denotes σ d a R → a < 2 → Denotes σ d (1 - a) (λ p q. flip (R p q))
unfolding mem
not_low {σ} zero a {R} X l = record { at = omega arith; means = low a l X.means }
  where
    low : (a : ℕ) → a < 2 → ((p q : Packet zero) → mem σ.words zero a p q ≡ R p q) → (p q : Packet zero) → mem σ.words zero (1 - a) p q ≡ flip (R p q)
    low zero l m end end = ap flip (m end end)
    low (suc zero) l m end end = ap flip (m end end)
    low (suc (suc a)) l m end end = absurd (omega arith)
not_low (suc d) a X l = absurd (omega (arith, X.at.0))

module _ {N d a b : ℕ} {σ : Table} {R S : Relation d} (w : Wf N σ) (l : d ≤ N) (X : Denotes σ d a R) (Y : Denotes σ d b S) where
  L : Op → Exit → Type 0
  L o = Leads σ d (pointwise o R S)

  same : eqb a b ≡ true → (p q : Packet d) → R p q ≡ S p q
  same e = agree X Y (eqb-true a b e)

  a_zero : eqb a (zero_at N d) ≡ true → (p q : Packet d) → R p q ≡ false
  a_zero e = agree X (den_zero w d l) (eqb-true a (zero_at N d) e)

  a_top : eqb a (top_at N d) ≡ true → (p q : Packet d) → R p q ≡ true
  a_top e = agree X (den_top w d l) (eqb-true a (top_at N d) e)

  b_zero : eqb b (zero_at N d) ≡ true → (p q : Packet d) → S p q ≡ false
  b_zero e = agree Y (den_zero w d l) (eqb-true b (zero_at N d) e)

  b_top : eqb b (top_at N d) ≡ true → (p q : Packet d) → S p q ≡ true
  b_top e = agree Y (den_top w d l) (eqb-true b (top_at N d) e)

  sorted_leads : (o : Op) → ((x y : Bool) → sem o y x ≡ sem o x y) → Leads σ d (pointwise o R S) (sorted o a b)
  sorted_leads o comm =
      by_if (Leads σ d (pointwise o R S)) (ltb b a) (on o b a) (on o a b)
      (λ _. record { left = S; right = R; den_x = Y; den_y = X; makes = λ p q. comm (R p q) (S p q) })
      (λ _. record { left = R; right = S; den_x = X; den_y = Y; makes = λ p q. refl })

  -- every exit is right
  pub exit_right : (o : Op) → Leads σ d (pointwise o R S) (exit N o d a b)
  unfolding exit L
  exit_right union =
      by_if (L union) (eqb a b) (out a) _ (λ e. den_is X (λ p q. rw (same e p q, or_self)))
      (λ _. by_if (L union) (eqb a (zero_at N d) || eqb b (top_at N d)) (out b) _
      (λ e. den_is Y (λ p q. ⊎_elim (λ c. rw (a_zero c p q)) (λ c. rw (b_top c p q, or-true)) (or_cases _ _ e)))
      (λ _. by_if (L union) (eqb b (zero_at N d) || eqb a (top_at N d)) (out a) _
      (λ e. den_is X (λ p q. ⊎_elim (λ c. rw (b_zero c p q, or-false)) (λ c. rw (a_top c p q)) (or_cases _ _ e)))
      (λ _. sorted_leads union (λ x y. or_comm y x))))
  exit_right intersect =
      by_if (L intersect) (eqb a b) (out a) _ (λ e. den_is X (λ p q. rw (same e p q, and_self)))
      (λ _. by_if (L intersect) (eqb a (zero_at N d) || eqb b (top_at N d)) (out a) _
      (λ e. den_is X (λ p q. ⊎_elim (λ c. rw (a_zero c p q)) (λ c. rw (b_top c p q, and-true)) (or_cases _ _ e)))
      (λ _. by_if (L intersect) (eqb b (zero_at N d) || eqb a (top_at N d)) (out b) _
      (λ e. den_is Y (λ p q. ⊎_elim (λ c. rw (b_zero c p q, and-false)) (λ c. rw (a_top c p q)) (or_cases _ _ e)))
      (λ _. sorted_leads intersect (λ x y. and_comm y x))))
  exit_right xor =
      by_if (L xor) (eqb a b) (out (zero_at N d)) _ (λ e. den_is (den_zero w d l) (λ p q. rw (same e p q) (xor_self (S p q))))
      (λ _. by_if (L xor) (eqb a (zero_at N d)) (out b) _ (λ e. den_is Y (λ p q. rw (a_zero e p q)))
      (λ _. by_if (L xor) (eqb b (zero_at N d)) (out a) _ (λ e. den_is X (λ p q. rw (b_zero e p q) (xor_false (R p q))))
      (λ _. by_if (L xor) (eqb a (top_at N d)) (on not b b) _ (λ e. record { left = S; right = S; den_x = Y; den_y = Y; makes = λ p q. rw (a_top e p q) })
      (λ _. by_if (L xor) (eqb b (top_at N d)) (on not a a) _ (λ e. record { left = R; right = R; den_x = X; den_y = X; makes = λ p q. rw (b_top e p q) (xor_true (R p q)) })
      (λ _. sorted_leads xor xor_comm)))))
  exit_right difference =
      by_if (L difference) (eqb a b) (out (zero_at N d)) _ (λ e. den_is (den_zero w d l) (λ p q. rw (same e p q, and-not_self)))
      (λ _. by_if (L difference) (eqb a (zero_at N d) || eqb b (zero_at N d)) (out a) _
      (λ e. den_is X (λ p q. ⊎_elim (λ c. rw (a_zero c p q)) (λ c. rw (b_zero c p q, and-true)) (or_cases _ _ e)))
      (λ _. by_if (L difference) (eqb a (top_at N d)) (on not b b) _ (λ e. record { left = S; right = S; den_x = Y; den_y = Y; makes = λ p q. rw (a_top e p q) })
      (λ _. record { left = R; right = S; den_x = X; den_y = Y; makes = λ p q. refl })))
  exit_right not =
      by_if (L not) (ltb a 2) (out (1 - a)) (on not a a) (λ e. not_low d a X (ltb-true a 2 e))
      (λ _. record { left = R; right = R; den_x = X; den_y = X; makes = λ p q. refl })

-- ---- depth 0

-- two handles of depth 0
pub by_bits : (P : ℕ → ℕ → Type 0) → P 0 0 → P 0 1 → P 1 0 → P 1 1 → (a b : ℕ) → a < 2 → b < 2 → P a b
by_bits P x y z u zero zero l m = x
by_bits P x y z u zero (suc zero) l m = y
by_bits P x y z u (suc zero) zero l m = z
by_bits P x y z u (suc zero) (suc zero) l m = u
by_bits P x y z u zero (suc (suc b)) l m = absurd (omega arith)
by_bits P x y z u (suc zero) (suc (suc b)) l m = absurd (omega arith)
by_bits P x y z u (suc (suc a)) b l m = absurd (omega arith)

-- there an exit is always taken
pub exit_low : (N : ℕ) (o : Op) (a b : ℕ) → a < 2 → b < 2 → (h : ℕ) × (exit N o zero a b ≡ out h)
unfolding exit zero_at top_at
exit_low N union = by_bits (λ a b. (h : ℕ) × (exit N union zero a b ≡ out h)) (_, refl) (_, refl) (_, refl) (_, refl)
exit_low N intersect = by_bits (λ a b. (h : ℕ) × (exit N intersect zero a b ≡ out h)) (_, refl) (_, refl) (_, refl) (_, refl)
exit_low N xor = by_bits (λ a b. (h : ℕ) × (exit N xor zero a b ≡ out h)) (_, refl) (_, refl) (_, refl) (_, refl)
exit_low N difference = by_bits (λ a b. (h : ℕ) × (exit N difference zero a b ≡ out h)) (_, refl) (_, refl) (_, refl) (_, refl)
exit_low N not = by_bits (λ a b. (h : ℕ) × (exit N not zero a b ≡ out h)) (_, refl) (_, refl) (_, refl) (_, refl)

-- ---- the law of every operation

-- f makes F of two relations of depth d
abbrev pub Makes : (N d : ℕ) → (ℕ → ℕ → Step Table ℕ) → (Relation d → Relation d → Relation d) → Type 0
Makes N d f F = (σ : Table) (a b : ℕ) (R S : Relation d) → Wf N σ → Denotes σ d a R → Denotes σ d b S → Exact (spp_limits N) (f a b) (λ τ h. Denotes τ d h (F R S)) σ

-- a step that reads the children of two handles
pub down_exact : {N a b : ℕ} (d : ℕ) {σ : Table} {P : Table → ℕ → Type 0} (body : Quad → Quad → Step Table ℕ) → ValidAt σ (suc d) a → ValidAt σ (suc d) b
    → Exact (spp_limits N) (body (kids σ.words a) (kids σ.words b)) P σ → Exact (spp_limits N) (down body a b) P σ
down_exact {N} {a} {b} d {σ} body x y r =
    exact_read (spp_limits N) (λ (τ : Table). kids τ.words a) (λ A τ. body A (kids τ.words b) τ) (λ τ e. kids_path e d a x)
    (exact_read (spp_limits N) (λ (τ : Table). kids τ.words b) (body (kids σ.words a)) (λ τ e. kids_path e d b y) r)

-- to go down makes the same of the relations of one bit more
pub each_exact : (N d : ℕ) (o : Op) (f : ℕ → ℕ → Step Table ℕ) → Makes N d f (pointwise o) → Makes N (suc d) (down (each f)) (pointwise o)
unfolding each
each_exact N d o f makes σ a b R S w X Y = down_exact d (each f) X.at Y.at
    (exact_bind (spp_limits N) (entry σ false false (ext_refl σ) w) (λ τ1 x00 e1 w1 D1.
    exact_bind (spp_limits N) (entry τ1 false true e1 w1) (λ τ2 x01 e2 w2 D2.
    let f2 = ext_trans e1 e2 in
    exact_bind (spp_limits N) (entry τ2 true false f2 w2) (λ τ3 x10 e3 w3 D3.
    let f3 = ext_trans f2 e3 in
    exact_bind (spp_limits N) (entry τ3 true true f3 w3) (λ τ4 x11 e4 w4 D4.
    mk_exact (quad x00 x01 x10 x11) (pointwise o R S) w4 (at_low w d a X.at)
    (quad_den (pointwise o R S) (den_ext (ext_trans e2 (ext_trans e3 e4)) D1) (den_ext (ext_trans e3 e4) D2) (den_ext e4 D3) D4))))))
  where
    entry : (τ : Table) (i j : Bool) → Ext σ τ → Wf N τ
        → Exact (spp_limits N) (f (kids σ.words a i j) (kids σ.words b i j)) (λ τ h. Denotes τ d h (pointwise o (part R i j) (part S i j))) τ
    entry τ i j e v = makes τ _ _ _ _ v (den_ext e (den_kid X i j)) (den_ext e (den_kid Y i j))

pub apply_exact : (N : ℕ) (o : Op) (d : ℕ) → d ≤ N → Makes N d (apply N o d) (pointwise o)
unfolding apply
apply_exact N o zero l σ a b R S w X Y = at_exit (exit N o zero a b) (exit_low N o a b X.at Y.at) (exit_right w l X Y o)
  where
    at_exit : (z : Exit) → (h : ℕ) × (z ≡ out h) → Leads σ zero (pointwise o R S) z
        → Exact (spp_limits N) (follow z (λ o x y. return 0)) (λ τ h. Denotes τ zero h (pointwise o R S)) σ
    at_exit (out h) q D = exact_return (spp_limits N) h w D
    at_exit (on u x y) (h, q) D = let z : ◌≡◌ {A = ℕ} 0 1 = cc in absurd (omega arith)
apply_exact N o (suc d) l σ a b R S w X Y = at_exit (λ u. each_exact N d u (apply N u d) (apply_exact N u d (omega arith))) (exit N o (suc d) a b) (exit_right w l X Y o)
  where
    at_exit : ((u : Op) → Makes N (suc d) (down (each (apply N u d))) (pointwise u)) → (z : Exit) → Leads σ (suc d) (pointwise o R S) z
        → Exact (spp_limits N) (follow z (λ o. down (each (apply N o d)))) (λ τ h. Denotes τ (suc d) h (pointwise o R S)) σ
    at_exit deep (out h) D = exact_return (spp_limits N) h w D
    at_exit deep (on u x y) D = exact_map (spp_limits N) (λ τ h _ _ H. den_is H D.makes) (deep u σ x y D.left D.right w D.den_x D.den_y)
