-- What holds of the definitions of specs/Wf.
use mathlib.Core.Path.{◌≡◌, refl, sym, ◌∙◌, ap, subst}
use mathlib.Core.Bool.{Bool, true, false, not}
use mathlib.Core.List.{List}
use Prim.Native.Nat.{ℕ, zero, suc, ◌*◌, ◌-◌, ◌/◌, ◌%◌, ◌≤◌, ◌<◌}
use native.Mathlib.Omega.{arith}
use native.Mathlib.Nat.{le_trans}
use lib.Dec.{eqb}
use borrow.Author.Tests.{eqb-true, eqb-false, eq-eqb, ne_eqb}
use Rattle.common.specs.Packets.{Packet, end, bit, Set}
use Rattle.common.specs.Runs.{Table, Theory}
use Rattle.sp_steps.specs.Word.{flip}
use Rattle.sp_steps.proofs.Word.{flip_half, flip_mod, flip_flip, flip_one, flip_zero, halves}
use Rattle.sp_steps.specs.Model.{kid, child, mem, zero_at, one_at}
use Rattle.sp_steps.specs.Wf.{Ext, ValidAt, Level, WfIn, Below, Wf, WfAny, Denotes}

pub ext_refl : (σ : Table) → Ext σ σ
ext_refl σ = record { more = omega arith; len = refl; keep = λ b i l. refl; beyond = λ i l. refl }

pub ext_trans : {σ τ υ : Table} → Ext σ τ → Ext τ υ → Ext σ υ
ext_trans e f = record {
  more = le_trans e.more f.more;
  len = f.len ∙ e.len;
  keep = λ b i l. f.keep b i (le_trans l e.more) ∙ e.keep b i l;
  beyond = λ i l. f.beyond i l ∙ e.beyond i (omega (arith, f.more));
}

-- packet sets for N fields, as a kind of store
abbrev pub theory_in : (ℕ → Type 0) → ℕ → Theory
theory_in P N = record { Store = Table; Wf = WfIn P N; Ext = Ext; ext_refl = ext_refl; ext_trans = λ σ τ υ. ext_trans }

abbrev pub sp_theory : ℕ → Theory
sp_theory N = theory_in (Below N) N

-- ---- old handles

pub child_ext : {σ τ : Table} → Ext σ τ → (b : Bool) (h : ℕ) → 2 ≤ h → h / 2 ≤ σ.count → child τ.words b h ≡ child σ.words b h
unfolding child
child_ext e b h l m = ap (flip _) (e.keep b (h / 2 - 1) (omega arith))

pub at_ext : {σ τ : Table} → Ext σ τ → (d h : ℕ) → ValidAt σ d h → ValidAt τ d h
at_ext e zero h a = a
at_ext {τ} e (suc d) h a =
    (a.0, le_trans a.1 e.more, λ b. subst (ValidAt τ d) (sym (child_ext e b h a.0 a.1)) (at_ext e d _ (a.2 b)))

pub mem_ext : {σ τ : Table} → Ext σ τ → (d h : ℕ) (p : Packet d) → ValidAt σ d h → mem τ.words d h p ≡ mem σ.words d h p
unfolding mem
mem_ext e d h end a = refl
mem_ext {σ} {τ} e d h (bit {n} b p) a =
    ap (λ (k : ℕ). mem τ.words n k p) (child_ext e b h a.0 a.1) ∙ mem_ext e n _ p (a.2 b)

pub den_ext : {σ τ : Table} {d h : ℕ} {S : Set d} → Ext σ τ → Denotes σ d h S → Denotes τ d h S
den_ext {d} {h} e x = record { at = at_ext e d h x.at; means = λ p. mem_ext e d h p x.at ∙ x.means p }

pub den_map : {σ : Table} {d h : ℕ} {S T : Set d} → ((p : Packet d) → S p ≡ T p) → Denotes σ d h S → Denotes σ d h T
den_map f x = record { at = x.at; means = λ p. x.means p ∙ f p }

pub den_child : {σ : Table} {d h : ℕ} {S : Set (suc d)} → Denotes σ (suc d) h S → (b : Bool) → Denotes σ d (child σ.words b h) (λ p. S (bit b p))
unfolding mem
den_child x b = record { at = x.at.2 b; means = λ p. x.means (bit b p) }

-- what a handle means is a set that it means
pub den_mem : {σ : Table} {d h : ℕ} → ValidAt σ d h → Denotes σ d h (mem σ.words d h)
den_mem a = record { at = a; means = λ p. refl }

-- ---- complement

pub child_flip : (t : List ℕ) (b : Bool) (h : ℕ) → child t b (flip 1 h) ≡ flip 1 (child t b h)
unfolding child
child_flip t b h =
    ap (λ (k : ℕ). flip (flip 1 h % 2) (kid t b (k - 1))) (flip_half 1 h)
    ∙ ap (λ (k : ℕ). flip k (kid t b (h / 2 - 1))) (flip_mod 1 h ∙ omega arith)
    ∙ flip_one (h % 2) (kid t b (h / 2 - 1))

pub at_flip : (σ : Table) (d h : ℕ) → ValidAt σ d h → ValidAt σ d (flip 1 h)
at_flip σ zero h a = omega (arith, flip_half 1 h)
at_flip σ (suc d) h a =
    (omega (arith, flip_half 1 h), omega (arith, flip_half 1 h), λ b. subst (ValidAt σ d) (sym (child_flip σ.words b h)) (at_flip σ d _ (a.2 b)))

pub odd_flip : (h : ℕ) → eqb (flip 1 h % 2) 1 ≡ not (eqb (h % 2) 1)
odd_flip h = go (h % 2) refl
  where
    go : (k : ℕ) → h % 2 ≡ k → eqb (flip 1 h % 2) 1 ≡ not (eqb k 1)
    go zero e = eq-eqb (flip 1 h % 2) 1 (omega (arith, flip_mod 1 h))
    go (suc zero) e = ne_eqb (flip 1 h % 2) 1 (λ q. omega (arith, flip_mod 1 h))
    go (suc (suc k)) e = absurd (omega arith)

pub mem_flip : (t : List ℕ) (d h : ℕ) (p : Packet d) → mem t d (flip 1 h) p ≡ not (mem t d h p)
unfolding mem
mem_flip t d h end = odd_flip h
mem_flip t d h (bit {n} b p) = ap (λ (k : ℕ). mem t n k p) (child_flip t b h) ∙ mem_flip t n (child t b h) p

pub den_flip : {σ : Table} {d h : ℕ} {S : Set d} → Denotes σ d h S → Denotes σ d (flip 1 h) (λ p. not (S p))
den_flip {σ} {d} {h} x = record { at = at_flip σ d h x.at; means = λ p. mem_flip σ.words d h p ∙ ap not (x.means p) }

-- ---- one handle for a set

pub low_child : {P : ℕ → Type 0} {N : ℕ} {σ : Table} → WfIn P N σ → (h : ℕ) → 2 ≤ h → h / 2 ≤ σ.count → child σ.words false h % 2 ≡ h % 2
unfolding child
low_child {σ} w h l m = omega (arith, flip_mod (h % 2) (kid σ.words false (h / 2 - 1)), w.even (h / 2 - 1) (omega arith))

-- the packet of zeros
unfoldable pub zeros : (d : ℕ) → Packet d
zeros zero = end
zeros (suc d) = bit false (zeros d)

-- it is in the sets with an odd handle
pub mem_zeros : {P : ℕ → Type 0} {N : ℕ} {σ : Table} → WfIn P N σ → (d h : ℕ) → ValidAt σ d h → mem σ.words d h (zeros d) ≡ eqb (h % 2) 1
unfolding mem zeros
mem_zeros w zero h a = refl
mem_zeros w (suc d) h a = mem_zeros w d _ (a.2 false) ∙ ap (λ (k : ℕ). eqb k 1) (low_child w h a.0 a.1)

odd_eq : (a b : ℕ) → eqb (a % 2) 1 ≡ eqb (b % 2) 1 → a % 2 ≡ b % 2
odd_eq a b e = go (eqb (b % 2) 1) refl
  where
    go : (c : Bool) → eqb (b % 2) 1 ≡ c → a % 2 ≡ b % 2
    go true q = eqb-true _ _ (e ∙ q) ∙ sym (eqb-true _ _ q)
    go false q =
        let x : a % 2 ≡ 1 → ⊥ = eqb-false _ _ (e ∙ q) in
        let y : b % 2 ≡ 1 → ⊥ = eqb-false _ _ q in
        omega arith

flip_inj : (s x y : ℕ) → flip s x ≡ flip s y → x ≡ y
flip_inj s x y e = sym (flip_flip s x) ∙ ap (flip s) e ∙ flip_flip s y

at_lt : {n : ℕ} (h : ℕ) → 2 ≤ h → h / 2 ≤ n → h / 2 - 1 < n
at_lt h l m = omega arith

half_of : (x y : ℕ) → 2 ≤ x → 2 ≤ y → x / 2 - 1 ≡ y / 2 - 1 → x / 2 ≡ y / 2
half_of x y l m e = omega arith

stored_of : (t : List ℕ) (x y : ℕ) → x % 2 ≡ y % 2 → (c : Bool) → child t c x ≡ child t c y → kid t c (x / 2 - 1) ≡ kid t c (y / 2 - 1)
unfolding child
stored_of t x y l c e = flip_inj (y % 2) _ _ (ap (λ (s : ℕ). flip s (kid t c (x / 2 - 1))) (sym l) ∙ e)

-- two handles of one depth with the same packets are one handle
pub canonical : {P : ℕ → Type 0} {N : ℕ} {σ : Table} → WfIn P N σ → (d x y : ℕ) → ValidAt σ d x → ValidAt σ d y
    → ((p : Packet d) → mem σ.words d x p ≡ mem σ.words d y p) → x ≡ y
unfolding mem
canonical w zero x y a b e = let q : x % 2 ≡ y % 2 = odd_eq x y (e end) in omega arith
canonical {σ} w (suc d) x y a b e =
    let low : x % 2 ≡ y % 2 = odd_eq x y (sym (mem_zeros w (suc d) x a) ∙ e (zeros (suc d)) ∙ mem_zeros w (suc d) y b) in
    let kids : (c : Bool) → child σ.words c x ≡ child σ.words c y = λ c. canonical w d _ _ (a.2 c) (b.2 c) (λ p. e (bit c p)) in
    let i : x / 2 - 1 ≡ y / 2 - 1 = w.once _ _ (at_lt x a.0 a.1) (at_lt y b.0 b.1) (λ c. stored_of σ.words x y low c (kids c)) in
    halves x y (half_of x y a.0 b.0 i) low

pub den_same : {P : ℕ → Type 0} {N : ℕ} {σ : Table} {d x y : ℕ} {S T : Set d} → WfIn P N σ → Denotes σ d x S → Denotes σ d y T → ((p : Packet d) → S p ≡ T p) → x ≡ y
den_same {d} {x} {y} w a b e = canonical w d x y a.at b.at (λ p. a.means p ∙ e p ∙ sym (b.means p))

-- ---- the constants

pub child_zero : {P : ℕ → Type 0} {N : ℕ} {σ : Table} → WfIn P N σ → (d : ℕ) → d < N → (b : Bool) → child σ.words b (zero_at (suc d)) ≡ zero_at d
unfolding child
child_zero {σ} w d l b =
    ap (λ (s : ℕ). flip s (kid σ.words b (2 * suc d / 2 - 1))) {y = 0} (omega arith)
    ∙ flip_zero _
    ∙ ap (kid σ.words b) {y = d} (omega arith)
    ∙ w.const d l b

pub zero_at_lem : {P : ℕ → Type 0} {N : ℕ} {σ : Table} → WfIn P N σ → (d : ℕ) → d ≤ N → ValidAt σ d (zero_at d)
zero_at_lem w zero l = omega arith
zero_at_lem {σ} w (suc d) l =
    (omega arith, omega (arith, w.many), λ b. subst (ValidAt σ d) (sym (child_zero w d l b)) (zero_at_lem w d (omega arith)))

pub zero_mem : {P : ℕ → Type 0} {N : ℕ} {σ : Table} → WfIn P N σ → (d : ℕ) → d ≤ N → (p : Packet d) → mem σ.words d (zero_at d) p ≡ false
unfolding mem
zero_mem w d l end = refl
zero_mem {σ} w d l (bit {n} b p) = ap (λ (k : ℕ). mem σ.words n k p) (child_zero w n l b) ∙ zero_mem w n (omega arith) p

pub den_zero : {P : ℕ → Type 0} {N : ℕ} {σ : Table} → WfIn P N σ → (d : ℕ) → d ≤ N → Denotes σ d (zero_at d) (λ p. false)
den_zero w d l = record { at = zero_at_lem w d l; means = zero_mem w d l }

pub one_flip : (d : ℕ) → flip 1 (zero_at d) ≡ one_at d
unfolding flip
one_flip d = omega arith

pub den_one : {P : ℕ → Type 0} {N : ℕ} {σ : Table} → WfIn P N σ → (d : ℕ) → d ≤ N → Denotes σ d (one_at d) (λ p. true)
den_one {σ} w d l = subst (λ (h : ℕ). Denotes σ d h (λ p. true)) (one_flip d) (den_flip (den_zero w d l))

-- ---- depths

-- a handle has one depth
pub one_depth : (σ : Table) (d e h : ℕ) → ValidAt σ d h → ValidAt σ e h → d ≡ e
one_depth σ zero zero h a b = refl
one_depth σ zero (suc e) h a b = absurd (omega arith)
one_depth σ (suc d) zero h a b = absurd (omega arith)
one_depth σ (suc d) (suc e) h a b = ap suc (one_depth σ d e _ (a.2 false) (b.2 false))

-- a handle is of an earlier node than the next, or of depth 0
pub at_half : (σ : Table) (d h : ℕ) → ValidAt σ d h → h / 2 ≤ σ.count
at_half σ zero h a = omega arith
at_half σ (suc d) h a = a.1

pub level_ext : {P : ℕ → Type 0} {σ τ : Table} (i : ℕ) → Ext σ τ → i < σ.count → Level P σ i → Level P τ i
level_ext {τ} i e l v = record {
  depth = v.depth;
  low = v.low;
  children = λ b. subst (ValidAt τ v.depth) (sym (e.keep b i l)) (at_ext e v.depth _ (v.children b));
}

pub at_flip_by : (σ : Table) (d h s : ℕ) → s < 2 → ValidAt σ d h → ValidAt σ d (flip s h)
at_flip_by σ d h zero l a = subst (ValidAt σ d) (sym (flip_zero h)) a
at_flip_by σ d h (suc zero) l a = at_flip σ d h a
at_flip_by σ d h (suc (suc s)) l a = absurd (omega arith)

-- the depth below that of a handle with children is one of P
pub at_low : {P : ℕ → Type 0} {N : ℕ} {σ : Table} → WfIn P N σ → (d h : ℕ) → ValidAt σ (suc d) h → P d
unfolding child
at_low {P} {σ} w d h a =
    subst P (sym (one_depth σ d v.depth _ (a.2 false) (at_flip_by σ v.depth _ (h % 2) (omega arith) (v.children false)))) v.low
  where
    v : Level P σ (h / 2 - 1)
    v = w.level (h / 2 - 1) (at_lt h a.0 a.1)

-- fewer constants are asked for
pub wf_down : {P : ℕ → Type 0} {N M : ℕ} {σ : Table} → WfIn P N σ → M ≤ N → WfAny M σ
wf_down w l = record {
  fits = w.fits;
  small = w.small;
  even = w.even;
  once = w.once;
  many = le_trans l w.many;
  const = λ i m b. w.const i (le_trans m l) b;
  rising = w.rising;
  level = λ i m. let v = w.level i m in record { depth = v.depth; low = tt; children = v.children };
}
