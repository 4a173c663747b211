-- 01, "Port order" 1, the operations on two sets: each exit is right, at depth 0 there is always one, and so every operation means what it should,
-- in a well-formed later store, and gives the same handle with no change in every store later still. One law for all of them.
use mathlib.Core.Path.{◌≡◌, refl, sym, ◌∙◌, ap, ap₂, subst}
use mathlib.Core.Bool.{Bool, true, false, not, ◌||◌, or_self, or-true, or-false}
use mathlib.Core.Logic.{◌⊎◌, ⊎_elim}
use mathlib.Core.Logic.◌⊎◌.{inl, inr}
use Prim.Native.Nat.{ℕ, zero, suc, ◌≤◌, ◌<◌}
use native.Mathlib.Omega.{arith}
use lib.Dec.{eqb, ltb}
use borrow.Author.Tests.{eqb-true}
use Rattle.common.specs.Packets.{Packet, bit, Set}
use Rattle.common.specs.Outcome.{Step, return}
use Rattle.common.specs.Runs.{Table}
use Rattle.common.proofs.Runs.{StableSpec, runs_map, runs_is, runs_return, runs_bind}
use Rattle.sp_steps.specs.Word.{flip}
use Rattle.sp_steps.specs.Op.{Op}
use Rattle.sp_steps.proofs.Op.{sem}
use Rattle.sp_steps.specs.Model.{child, zero_at, one_at, Exit, out, on, pick, ordered, exit, join, both, follow, last, apply}
use Rattle.sp_steps.specs.Wf.{WfIn, Ext, ValidAt, Denotes}
use Rattle.sp_steps.proofs.Laws.{theory_in, at_low, child_ext, den_ext, den_map, den_child, den_flip, den_zero, den_one}
use Rattle.sp_steps.proofs.Make.{node, mk_runs}

-- ---- exits

-- to go down with the operation o on x and y makes S
pub record Going (σ : Table) (d : ℕ) (S : Set d) (o : Op) (x y : ℕ) : Type 0 where
  pub left : Set d
  pub right : Set d
  pub den_x : Denotes σ d x left
  pub den_y : Denotes σ d y right
  pub makes : (p : Packet d) → sem o (left p) (right p) ≡ S p

-- what an exit leads to is S
abbrev pub Leads : Table → (d : ℕ) → Set d → Exit → Type 0
Leads σ d S (out h) = Denotes σ d h S
Leads σ d S (on o x y) = Going σ d S o x y

pick_leads : (P : Exit → Type 0) (c : Bool) (x y : Exit) → (c ≡ true → P x) → (c ≡ false → P y) → P (pick c x y)
pick_leads Q true x y f g = f refl
pick_leads Q false x y f g = g refl

or_either : (a b : Bool) → (a || b) ≡ true → (a ≡ true) ⊎ (b ≡ true)
or_either true b e = inl refl
or_either false b e = inr e

or_not : (x : Bool) → true ≡ (not x || x)
or_not true = refl
or_not false = refl

xor_self : (x : Bool) → false ≡ sem Op.xor x x
xor_self true = refl
xor_self false = refl

xor_false : (x : Bool) → x ≡ sem Op.xor x false
xor_false true = refl
xor_false false = refl

xor_true : (x : Bool) → not x ≡ sem Op.xor x true
xor_true true = refl
xor_true false = refl

pub sem_comm : (o : Op) (x y : Bool) → sem o y x ≡ sem o x y
sem_comm Op.union true y = or-true y
sem_comm Op.union false y = or-false y
sem_comm Op.xor true true = refl
sem_comm Op.xor true false = refl
sem_comm Op.xor false true = refl
sem_comm Op.xor false false = refl

-- one handle means one set
pub agree : {σ : Table} {d x y : ℕ} {S T : Set d} → Denotes σ d x S → Denotes σ d y T → x ≡ y → (p : Packet d) → S p ≡ T p
agree {σ} {d} {T} X Y e p = sym (X.means p) ∙ (subst (λ (k : ℕ). Denotes σ d k T) (sym e) Y).means p

module _ {P : ℕ → Type 0} {N d a b : ℕ} {σ : Table} {A B : Set d} (w : WfIn P N σ) (l : d ≤ N) (X : Denotes σ d a A) (Y : Denotes σ d b B) where
  ordered_leads : (o : Op) → Leads σ d (λ p. sem o (A p) (B p)) (ordered o a b)
  ordered_leads o =
      pick_leads (Leads σ d (λ p. sem o (A p) (B p))) (ltb b a) (on o b a) (on o a b)
      (λ _. record { left = B; right = A; den_x = Y; den_y = X; makes = λ p. sem_comm o (A p) (B p) })
      (λ _. record { left = A; right = B; den_x = X; den_y = Y; makes = λ p. refl })

  -- of a constant
  a_zero : eqb a (zero_at d) ≡ true → (p : Packet d) → false ≡ A p
  a_zero e p = sym (agree X (den_zero w d l) (eqb-true a (zero_at d) e) p)

  a_one : eqb a (one_at d) ≡ true → (p : Packet d) → true ≡ A p
  a_one e p = sym (agree X (den_one w d l) (eqb-true a (one_at d) e) p)

  b_zero : eqb b (zero_at d) ≡ true → (p : Packet d) → false ≡ B p
  b_zero e p = sym (agree Y (den_zero w d l) (eqb-true b (zero_at d) e) p)

  b_one : eqb b (one_at d) ≡ true → (p : Packet d) → true ≡ B p
  b_one e p = sym (agree Y (den_one w d l) (eqb-true b (one_at d) e) p)

  -- every exit is right
  pub exit_right : (o : Op) → Leads σ d (λ p. sem o (A p) (B p)) (exit o d a b)
  unfolding exit
  exit_right Op.union =
      pick_leads Q (eqb a b) (out a) _
      (λ e. den_map (λ p. sym (or_self (A p)) ∙ ap (λ (m : Bool). A p || m) (agree X Y (eqb-true a b e) p)) X)
      (λ _. pick_leads Q (eqb a (flip 1 b)) (out (one_at d)) _
      (λ e. den_map (λ p. or_not (B p) ∙ ap (λ (m : Bool). m || B p) (sym (agree X (den_flip Y) (eqb-true a (flip 1 b) e) p))) (den_one w d l))
      (λ _. pick_leads Q (eqb a (zero_at d) || eqb b (one_at d)) (out b) _
      (λ e. den_map (λ p. ⊎_elim
      (λ q. ap (λ (m : Bool). m || B p) (a_zero q p))
      (λ q. sym (b_one q p) ∙ sym (or-true (A p)) ∙ ap (λ (m : Bool). A p || m) (b_one q p))
      (or_either _ _ e)) Y)
      (λ _. pick_leads Q (eqb b (zero_at d) || eqb a (one_at d)) (out a) (ordered Op.union a b)
      (λ e. den_map (λ p. ⊎_elim
      (λ q. sym (or-false (A p)) ∙ ap (λ (m : Bool). A p || m) (b_zero q p))
      (λ q. sym (a_one q p) ∙ ap (λ (m : Bool). m || B p) (a_one q p))
      (or_either _ _ e)) X)
      (λ _. ordered_leads Op.union))))
    where
      Q : Exit → Type 0
      Q = Leads σ d (λ p. A p || B p)
  exit_right Op.xor =
      pick_leads Q (eqb a b) (out (zero_at d)) _
      (λ e. den_map (λ p. xor_self (A p) ∙ ap (sem Op.xor (A p)) (agree X Y (eqb-true a b e) p)) (den_zero w d l))
      (λ _. pick_leads Q (eqb a (zero_at d)) (out b) _
      (λ e. den_map (λ p. ap (λ (m : Bool). sem Op.xor m (B p)) (a_zero e p)) Y)
      (λ _. pick_leads Q (eqb b (zero_at d)) (out a) _
      (λ e. den_map (λ p. xor_false (A p) ∙ ap (sem Op.xor (A p)) (b_zero e p)) X)
      (λ _. pick_leads Q (eqb a (one_at d)) (out (flip 1 b)) _
      (λ e. den_map (λ p. ap (λ (m : Bool). sem Op.xor m (B p)) (a_one e p)) (den_flip Y))
      (λ _. pick_leads Q (eqb b (one_at d)) (out (flip 1 a)) (ordered Op.xor a b)
      (λ e. den_map (λ p. xor_true (A p) ∙ ap (sem Op.xor (A p)) (b_one e p)) (den_flip X))
      (λ _. ordered_leads Op.xor)))))
    where
      Q : Exit → Type 0
      Q = Leads σ d (λ p. sem Op.xor (A p) (B p))

-- at depth 0 an exit is always taken
pub exit_flat : (o : Op) (a b : ℕ) → a < 2 → b < 2 → exit o 0 a b ≡ out (last (exit o 0 a b))
unfolding exit flip
exit_flat Op.union zero zero l m = refl
exit_flat Op.union zero (suc zero) l m = refl
exit_flat Op.union (suc zero) zero l m = refl
exit_flat Op.union (suc zero) (suc zero) l m = refl
exit_flat Op.union zero (suc (suc b)) l m = absurd (omega arith)
exit_flat Op.union (suc zero) (suc (suc b)) l m = absurd (omega arith)
exit_flat Op.union (suc (suc a)) b l m = absurd (omega arith)
exit_flat Op.xor zero zero l m = refl
exit_flat Op.xor zero (suc zero) l m = refl
exit_flat Op.xor (suc zero) zero l m = refl
exit_flat Op.xor (suc zero) (suc zero) l m = refl
exit_flat Op.xor zero (suc (suc b)) l m = absurd (omega arith)
exit_flat Op.xor (suc zero) (suc (suc b)) l m = absurd (omega arith)
exit_flat Op.xor (suc (suc a)) b l m = absurd (omega arith)

-- ---- what an operation comes to at its exit

pub apply_out : (o : Op) (d a b h : ℕ) (σ : Table) → exit o d a b ≡ out h → apply o d a b σ ≡ return h σ
unfolding apply
apply_out o zero a b h σ q = ap (λ (z : Exit). return (last z) σ) q
apply_out o (suc d) a b h σ q = ap (λ (z : Exit). follow z (λ o'. apply o' d) σ) q

pub apply_on : (o : Op) (d a b : ℕ) (u : Op) (x y : ℕ) (σ : Table) → exit o (suc d) a b ≡ on u x y → apply o (suc d) a b σ ≡ both (apply u d) x y σ
unfolding apply
apply_on o d a b u x y σ q = ap (λ (z : Exit). follow z (λ o'. apply o' d) σ) q

-- ---- both sides

-- the children of two handles are what they were
pub both_ext : (f : ℕ → ℕ → Step Table ℕ) {σ τ : Table} (d a b : ℕ) → Ext σ τ → ValidAt σ (suc d) a → ValidAt σ (suc d) b
    → both f a b τ ≡ join f (child σ.words false a) (child σ.words false b) (child σ.words true a) (child σ.words true b) τ
unfolding both
both_ext f {σ} {τ} d a b e x y =
    ap₂ (λ (u v : ℕ). join f u v (child τ.words true a) (child τ.words true b) τ) (child_ext e false a x.0 x.1) (child_ext e false b y.0 y.1)
    ∙ ap₂ (λ (u v : ℕ). join f (child σ.words false a) (child σ.words false b) u v τ) (child_ext e true a x.0 x.1) (child_ext e true b y.0 y.1)

-- f makes the operation o of two sets of depth d
abbrev pub Makes : (ℕ → Type 0) → ℕ → ℕ → Op → (ℕ → ℕ → Step Table ℕ) → Type 0
Makes P N d o f = (σ : Table) (a b : ℕ) (A B : Set d) → WfIn P N σ → Denotes σ d a A → Denotes σ d b B
    → StableSpec (theory_in P N) (f a b) (λ τ h. Denotes τ d h (λ p. sem o (A p) (B p))) σ

pub both_runs : (P : ℕ → Type 0) (N d : ℕ) (o : Op) (f : ℕ → ℕ → Step Table ℕ) → Makes P N d o f → (σ : Table) (a b : ℕ) (A B : Set (suc d))
    → WfIn P N σ → Denotes σ (suc d) a A → Denotes σ (suc d) b B → StableSpec (theory_in P N) (both f a b) (λ τ h. Denotes τ (suc d) h (λ p. sem o (A p) (B p))) σ
unfolding join
both_runs P N d o f makes σ a b A B w X Y =
    runs_is (theory_in P N) (λ τ e. both_ext f d a b e X.at Y.at)
    (runs_bind (theory_in P N) (makes σ _ _ _ _ w (den_child X false) (den_child Y false)) (λ τ x0 e v D.
    runs_bind (theory_in P N) (makes τ _ _ _ _ v (den_ext e (den_child X true)) (den_ext e (den_child Y true))) (λ υ x1 g u E.
    runs_map (theory_in P N) (λ ω h _ _ H. den_map whole H) (mk_runs u (at_low w d a X.at) (den_ext g D) E))))
  where
    whole : (p : Packet (suc d)) → node (λ p. sem o (A (bit false p)) (B (bit false p))) (λ p. sem o (A (bit true p)) (B (bit true p))) p ≡ sem o (A p) (B p)
    whole (bit false p) = refl
    whole (bit true p) = refl

-- ---- the law of every operation

pub apply_runs : (P : ℕ → Type 0) (N : ℕ) (o : Op) (d : ℕ) → d ≤ N → Makes P N d o (apply o d)
unfolding apply
apply_runs P N o zero l σ a b A B w X Y =
    runs_return (theory_in P N) (last (exit o zero a b)) w (subst (Leads σ zero (λ p. sem o (A p) (B p))) (exit_flat o a b X.at Y.at) (exit_right w l X Y o))
apply_runs P N o (suc d) l σ a b A B w X Y = at_exit (λ u. apply_runs P N u d (omega arith)) (exit o (suc d) a b) refl (exit_right w l X Y o)
  where
    S : Set (suc d)
    S p = sem o (A p) (B p)

    at_exit : ((u : Op) → Makes P N d u (apply u d)) → (z : Exit) → exit o (suc d) a b ≡ z → Leads σ (suc d) S z
        → StableSpec (theory_in P N) (follow (exit o (suc d) a b) (λ o'. apply o' d)) (λ τ h. Denotes τ (suc d) h S) σ
    at_exit rec (out h) q m = runs_is (theory_in P N) (λ τ _. ap (λ (z : Exit). follow z (λ o'. apply o' d) τ) q) (runs_return (theory_in P N) h w m)
    at_exit rec (on u x y) q m =
        runs_is (theory_in P N) (λ τ _. ap (λ (z : Exit). follow z (λ o'. apply o' d) τ) q)
        (runs_map (theory_in P N) (λ τ h _ _ H. den_map m.makes H) (both_runs P N d u (apply u d) (rec u) σ x y m.left m.right w m.den_x m.den_y))
