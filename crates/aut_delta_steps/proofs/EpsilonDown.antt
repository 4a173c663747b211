-- What holds of the definitions of specs/EpsilonDown.
use mathlib.Core.Path.{◌≡◌, refl, sym, ◌∙◌, ap, ap₂, subst}
use mathlib.Core.List.{List, [], ◌∷◌}
use Prim.Native.Nat.{ℕ, zero, suc, ◌+◌, ◌*◌, ◌≤◌, ◌<◌}
use native.Mathlib.Omega.{arith}
use lib.Dec.{eqb}
use borrow.Author.Tests.{eqb-true, eqb-false}
use Rattle.common.specs.Outcome.{Outcome, refused, given, after}
use Rattle.common.proofs.Follow.{refused≢given}
use Rattle.common.specs.Runs.{Table, placed}
use Rattle.spp_steps.proofs.Laws.{by_test}
use Rattle.aut_steps.specs.Tables.{SPP, words, Limits, Aut, put_nodes}
use Rattle.aut_steps.specs.Ascending.{All}
use Rattle.aut_steps.proofs.ListLaws.{all_map}
use Rattle.aut_steps.specs.Wf.{states, kind, first, second, nesting}
use Rattle.aut_steps.proofs.Wf.{kind_grown, first_grown, second_grown, state_grown}
use Rattle.aut_steps.specs.Meaning.{Holds}
use Rattle.aut_delta_steps.specs.Epsilon.{epsilon_of, value_of, keep_epsilon, epsilon}
use Rattle.aut_delta_steps.proofs.Agree.{Agree, agree_came}
use Rattle.aut_delta_steps.specs.Noted.{Noted}
use Rattle.aut_delta_steps.proofs.Noted.{noted_grown, written_other}
use Rattle.aut_delta_steps.specs.Wf.{Means, Valued, handle, memo}
use Rattle.aut_delta_steps.proofs.Wf.{valued_reads}
use Rattle.aut_delta_steps.proofs.Operands.{Below}
use Rattle.aut_delta_steps.specs.EpsilonSpec.{Epsiloned, Ready}
use Rattle.aut_delta_steps.proofs.EpsilonLaws.{Stopped, epsilon_goes}
use Rattle.aut_delta_steps.specs.EpsilonReads.{operands_with, operands_of, work_all, combine_on}
use Rattle.aut_delta_steps.proofs.EpsilonReads.{combine_at, operands_below, epsilon_spp, epsilon_kept, epsilon_works}
use Rattle.aut_delta_steps.specs.EpsilonDown.{Known, Open, First, this, later, FirstOpen, Way, bottom, down}

pub first_of : (P : ℕ → Type 0) {K O : ℕ → Type 0} {z : ℕ} {ys : List ℕ} → First K O z ys → All P ys → P z
first_of P (this o) a = a.0
first_of P (later k f) a = first_of P f a.1

pub first_open : {K O : ℕ → Type 0} {z : ℕ} {ys : List ℕ} → First K O z ys → O z
first_open (this o) = o
first_open (later k f) = first_open f

pub way_open : {st mem : List ℕ} {y x : ℕ} → Way st mem y x → Open st x
way_open (bottom o a) = o
way_open (down o f w) = o

pub way_end : {st mem : List ℕ} {y x : ℕ} → Way st mem y x → Open st y × All (Known st) (operands_of st mem y)
way_end (bottom o a) = (o, a)
way_end (down o f w) = way_end w

-- A way from a state whose operands are all worked out ends there: who is called on the end of a way calls no further.
pub way_stays : {st mem : List ℕ} {y r : ℕ} → All (Known st) (operands_of st mem y) → Way st mem r y → r ≡ y
way_stays a (bottom o b) = refl
way_stays {st} a (down o f w) = let z = first_open f in absurd (omega (arith, z.1, first_of (Known st) f a z.0))

pub known_of : {σ : Aut} {y e : ℕ} → Valued σ y e → Known σ.states.words y
known_of (handle k f) n = absurd (n k)
known_of (memo n m) k = omega (arith, m)

-- the operands are as they were
pub same_operands : {σ τ : Aut} → Noted σ τ → {x : ℕ} → x < states σ → operands_of τ.states.words τ.members.words x ≡ operands_of σ.states.words σ.members.words x
same_operands {σ} {τ} n {x} l =
    let w = noted_grown n in
    ap (λ (k : ℕ). operands_with k (words τ.members.words (first τ x) (second τ x)) (first τ x) (second τ x)) (kind_grown w x l)
    ∙ ap (λ (t : Table). operands_with (kind σ x) (words t.words (first τ x) (second τ x)) (first τ x) (second τ x)) n.members
    ∙ ap₂ (λ (p q : ℕ). operands_with (kind σ x) (words σ.members.words p q) p q) (first_grown w x l) (second_grown w x l)

-- ---- a run in tables in order

module _ {N : ℕ} {L : Limits} {σ : Aut} (r : Ready N L σ) where
  pub epsilon_known : {x : ℕ} → x < states σ → Known σ.states.words x → epsilon N x σ ≡ given σ (value_of σ.states.words x)
  unfolding value_of
  epsilon_known {x} l k =
      by_test (eqb (kind σ x) SPP)
      (λ q. epsilon_spp r l (eqb-true (kind σ x) SPP q) ∙ simp q)
      (λ q. epsilon_kept r l (eqb-false (kind σ x) SPP q) (k (eqb-false (kind σ x) SPP q)) ∙ simp q)

  -- .. and it is a handle of the relation
  pub known_means : {x : ℕ} → x < states σ → Known σ.states.words x → Means N σ.nodes (value_of σ.states.words x) (Holds N σ x)
  known_means {x} l k = (agree_came (subst (λ o. Agree (Stopped N L σ) (Epsiloned N L x σ) o (epsilon N x σ)) (epsilon_known l k) (epsilon_goes r l))).found.means

  work_known : (ys : List ℕ) → All (λ y. y < states σ) ys → All (Known σ.states.words) ys → work_all (epsilon N) ys σ ≡ given σ tt
  unfolding work_all
  work_known [] a k = refl
  work_known (y ∷ ys) a k = ap (λ (o : Outcome Aut ℕ). after o (λ h. work_all (epsilon N) ys)) (epsilon_known a.0 k.0) ∙ work_known ys a.1 k.1

  operands_states : {x : ℕ} → x < states σ → All (λ y. y < states σ) (operands_of σ.states.words σ.members.words x)
  operands_states {x} l = all_map (operands_of σ.states.words σ.members.words x) (λ y b. b.state) (operands_below r l)

  -- where a state's operands are all worked out, they are put together and kept
  pub bottom_run : {y : ℕ} → y < states σ → Open σ.states.words y → All (Known σ.states.words) (operands_of σ.states.words σ.members.words y) → epsilon N y σ ≡ after (combine_at N y σ) (keep_epsilon y)
  bottom_run {y} l o a =
      epsilon_works r l o.0 o.1
      ∙ ap (λ (p : Outcome Aut Unit). after p (λ u υ. after (combine_at N y υ) (keep_epsilon y))) (work_known (operands_of σ.states.words σ.members.words y) (operands_states l) a)

  -- the nesting falls
  pub way_state : {y x : ℕ} → x < states σ → Way σ.states.words σ.members.words y x → (y < states σ) × (nesting σ y ≤ nesting σ x)
  way_state l (bottom o a) = (l, omega arith)
  way_state l (down o f w) =
      let b = first_of (Below σ _) f (operands_below r l) in
      let (m, n) = way_state b.state w in
      (m, omega (arith, b.lower, n))

  pub way_lower : {y x : ℕ} → x < states σ → (y ≡ x → ⊥) → Way σ.states.words σ.members.words y x → nesting σ y < nesting σ x
  way_lower l n (bottom o a) = absurd (n refl)
  way_lower l n (down o f w) =
      let b = first_of (Below σ _) f (operands_below r l) in
      omega (arith, b.lower, (way_state b.state w).1)

-- ---- the state at the end of the way is worked out

module _ {N : ℕ} {L : Limits} {σ : Aut} (r : Ready N L σ) {y : ℕ} {τ : Aut} {h : ℕ} (m : y < states σ) (o : Open σ.states.words y) (a : All (Known σ.states.words) (operands_of σ.states.words σ.members.words y)) (e : epsilon N y σ ≡ given τ h) where
  law : Epsiloned N L y σ τ h
  law = agree_came (subst (λ p. Agree (Stopped N L σ) (Epsiloned N L y σ) p (epsilon N y σ)) e (epsilon_goes r m))

  noted : Noted σ τ
  noted = law.found.noted

  ready : Ready N L τ
  ready = record { good = law.found.good; epsilons = law.found.epsilons }

  -- no other state is
  bottom_only : (x : ℕ) → (x ≡ y → ⊥) → epsilon_of τ.states.words x ≡ epsilon_of σ.states.words x
  unfolding epsilon_of keep_epsilon
  bottom_only x n = go (combine_on N σ.states.words σ.members.words y σ.nodes) (sym (bottom_run r m o a) ∙ e)
    where
      given_at : {υ : Aut} {b : ℕ} → ◌≡◌ {A = Outcome Aut ℕ} (given υ b) (given τ h) → υ ≡ τ
      given_at d = cc

      go : (p : Outcome Table ℕ) → after (placed put_nodes σ p) (keep_epsilon y) ≡ given τ h → epsilon_of τ.states.words x ≡ epsilon_of σ.states.words x
      go (refused number) q = absurd (refused≢given q)
      go (given t g) q = ap (λ (υ : Aut). epsilon_of υ.states.words x) (sym (given_at q)) ∙ written_other (put_nodes t σ) y 4 (g + 1) (12 * x + 4) (λ j. n (omega arith))

  pub open_still : {x : ℕ} → x < states σ → (x ≡ y → ⊥) → Open σ.states.words x → Open τ.states.words x
  open_still {x} l n p = (λ q. p.0 (sym (kind_grown (noted_grown noted) x l) ∙ q), bottom_only x n ∙ p.1)

  known_still : {x : ℕ} → x < states σ → Known σ.states.words x → Known τ.states.words x
  known_still {x} l k n = let j : 0 < epsilon_of σ.states.words x = k (λ q. n (kind_grown (noted_grown noted) x l ∙ q)) in omega (arith, noted.kept x j)

  -- the operands of a state above go the same
  work_same : {z : ℕ} (ys : List ℕ) → All (λ x. x < states σ) ys → FirstOpen σ.states.words z ys → epsilon N z τ ≡ epsilon N z σ → work_all (epsilon N) ys τ ≡ work_all (epsilon N) ys σ
  unfolding work_all
  work_same (z ∷ ys) l (this p) d = ap (λ (p : Outcome Aut ℕ). after p (λ h. work_all (epsilon N) ys)) d
  work_same (x ∷ ys) l (later k f) d =
      ap (λ (p : Outcome Aut ℕ). after p (λ h. work_all (epsilon N) ys)) (epsilon_known ready (state_grown (noted_grown noted) l.0) (known_still l.0 k))
      ∙ work_same ys l.1 f d
      ∙ ap (λ (p : Outcome Aut ℕ). after p (λ h. work_all (epsilon N) ys)) (sym (epsilon_known r l.0 k))
  work_same {z = z} [] l x3 d = elim x3 [ ]

  pub same_above : {x : ℕ} → x < states σ → Way σ.states.words σ.members.words y x → epsilon N x τ ≡ epsilon N x σ
  same_above l (bottom p b) = epsilon_known ready (state_grown (noted_grown noted) m) (known_of law.value) ∙ ap (given τ) (valued_reads law.value) ∙ sym e
  same_above {x} l (down {z = z} p f w) =
      let b = first_of (Below σ _) f (operands_below r l) in
      let n : x ≡ y → ⊥ = λ q. omega (arith, b.lower, (way_state r b.state w).1, ap (nesting σ) q) in
      let q : Open τ.states.words x = open_still l n p in
      epsilon_works ready (state_grown (noted_grown noted) l) q.0 q.1
      ∙ ap (λ (ys : List ℕ). after (work_all (epsilon N) ys τ) (λ u υ. after (combine_at N x υ) (keep_epsilon x))) (same_operands noted l)
      ∙ ap (λ (p : Outcome Aut Unit). after p (λ u υ. after (combine_at N x υ) (keep_epsilon x))) (work_same (operands_of σ.states.words σ.members.words x) (operands_states r l) f (same_above b.state w))
      ∙ sym (epsilon_works r l p.0 p.1)

-- ---- the law

module _ {N : ℕ} {L : Limits} {σ : Aut} (r : Ready N L σ) where
  work_stuck : {z number : ℕ} (ys : List ℕ) → All (λ x. x < states σ) ys → FirstOpen σ.states.words z ys → epsilon N z σ ≡ refused number → work_all (epsilon N) ys σ ≡ refused number
  unfolding work_all
  work_stuck (z ∷ ys) l (this p) d = ap (λ (p : Outcome Aut ℕ). after p (λ h. work_all (epsilon N) ys)) d
  work_stuck (x ∷ ys) l (later k f) d = ap (λ (p : Outcome Aut ℕ). after p (λ h. work_all (epsilon N) ys)) (epsilon_known r l.0 k) ∙ work_stuck ys l.1 f d
  work_stuck {z = z} {number = number} [] l x3 d = elim x3 [ ]

  -- a refusal at the end of the way is the state's own
  pub stuck_above : {y x number : ℕ} → x < states σ → Way σ.states.words σ.members.words y x → epsilon N y σ ≡ refused number → epsilon N x σ ≡ refused number
  stuck_above l (bottom o a) e = e
  stuck_above {x = x} l (down o f w) e =
      epsilon_works r l o.0 o.1
      ∙ ap (λ (p : Outcome Aut Unit). after p (λ u υ. after (combine_at N x υ) (keep_epsilon x)))
      (work_stuck (operands_of σ.states.words σ.members.words x) (operands_states r l) f (stuck_above (first_of (Below σ _) f (operands_below r l)).state w e))

  -- first the end of the way, and then the state
  pub epsilon_down : {y x : ℕ} → x < states σ → Way σ.states.words σ.members.words y x → after (epsilon N y σ) (λ h. epsilon N x) ≡ epsilon N x σ
  epsilon_down {y} {x} l w = go (epsilon N y σ) refl
    where
      go : (p : Outcome Aut ℕ) → epsilon N y σ ≡ p → after p (λ h. epsilon N x) ≡ epsilon N x σ
      go (refused number) e = sym (stuck_above l w e)
      go (given τ h) e = let (o, a) = way_end w in same_above r (way_state r l w).0 o a e l w

-- ---- how many are not worked out

abbrev one_open : ℕ → ℕ
one_open zero = 1
one_open (suc e) = 0

-- of the first n states; f has the words
abbrev pub opens : (ℕ → ℕ) → ℕ → ℕ
opens f zero = 0
opens f (suc n) = one_open (f n) + opens f n

one_fewer : (a b : ℕ) → (0 < a → b ≡ a) → one_open b ≤ one_open a
one_fewer zero zero f = omega arith
one_fewer zero (suc b) f = omega arith
one_fewer (suc a) zero f = absurd (omega (arith, f (omega arith)))
one_fewer (suc a) (suc b) f = omega arith

one_less : (a b : ℕ) → a ≡ 0 → 0 < b → one_open b < one_open a
one_less zero zero e k = absurd (omega arith)
one_less zero (suc b) e k = omega arith
one_less (suc a) b e k = absurd (omega arith)

module _ (f g : ℕ → ℕ) (kept : (i : ℕ) → 0 < f i → g i ≡ f i) where
  opens_kept : (n : ℕ) → opens g n ≤ opens f n
  opens_kept zero = omega arith
  opens_kept (suc n) = omega (arith, one_fewer (f n) (g n) (kept n), opens_kept n)

  pub opens_fewer : (y n : ℕ) → y < n → f y ≡ 0 → 0 < g y → opens g n < opens f n
  opens_fewer y zero l o k = absurd (omega arith)
  opens_fewer y (suc n) l o k =
      by_test (eqb y n)
      (λ q. let e : y ≡ n = eqb-true y n q in omega (arith, opens_kept n, one_less (f n) (g n) (ap f (sym e) ∙ o) (omega (arith, ap g e))))
      (λ q. omega (arith, one_fewer (f n) (g n) (kept n), opens_fewer y n (omega (arith, eqb-false y n q)) o k))
