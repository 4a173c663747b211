-- Interning: what each way through comes to.
use Rattle.std.specs.Prelude.{if◌then◌else◌}
use mathlib.Core.Path.{◌≡◌, refl, sym, ◌∙◌, ap}
use mathlib.Core.Bool.{Bool, true, false}
use mathlib.Core.List.{List}
use Prim.Native.Nat.{ℕ, ◌+◌, ◌-◌, ◌<◌, ◌≤◌, max}
use native.Mathlib.Omega.{arith}
use lib.Dec.{ltb, leb}
use lib.ListN.{length}
use borrow.Author.Tests.{eq-eqb, ne_eqb, lt-ltb, le-ltb, le-leb, leb-true}
use borrow.Rule.Slice.PartMut.{put_mid}
use Rattle.std.specs.Prelude.{Result, Ok, Err}
use Rattle.common.specs.Outcome.{Outcome, refused, given}
use Rattle.common.specs.Runs.{Table, table, placed}
use Rattle.refusal.specs.declared.Refusal.{Refusal}
use Rattle.refusal.specs.declared.Refusal.TheVariants.{Nesting}
use Rattle.aut_steps.specs.Tables.{kind_of, op1, nest, member_cap, room_m, Exprs, exprs, Limits, COMPLEMENT, TOP}
use Rattle.aut_steps.specs.Intern.{seek, same2, same_l, put, intern0, intern1, intern2, nest_l, store, put_l, intern_l}
use Rattle.aut_steps.specs.Relations.{zero_at}
use Rattle.aut_steps.specs.Constructors.{mk_spp, mk_complement}
use Rattle.aut_steps.proofs.Facts.{and_true}
use Rattle.aut_states.specs.Clauses.{seen, append}
use Rattle.aut_states.proofs.Slices.{pasted}

-- ---- a state that stands already, one that is nested too high, and a new one

abbrev way : {S : Type 0} → ℕ → ℕ → ℕ → ℕ → S → Outcome S ℕ → Outcome S ℕ
way i n most e s new = if ltb i n then given s i else if ltb most e then refused 8 else new

module _ {S : Type 0} (n most e : ℕ) (s : S) (new : Outcome S ℕ) where
  way_found : (i j : ℕ) → (i < n) × (j ≡ i) → way j n most e s new ≡ given s i
  way_found i j p = simp (p.1, lt-ltb i n p.0)

  way_deep : (j : ℕ) → j ≡ n → most < e → way j n most e s new ≡ refused 8
  way_deep j p l = simp (p, le-ltb n n (omega arith), lt-ltb most e l)

  way_new : (j : ℕ) → j ≡ n → e ≤ most → way j n most e s new ≡ new
  way_new j p l = simp (p, le-ltb n n (omega arith), le-ltb most e l)

refuses : {S : Type 0} (s : S) {r : Refusal} {o : Result ℕ Refusal} → o ≡ Err r → r ≡ Nesting → seen o s ≡ refused 8
refuses s {r} {o} p q = ap (λ (o : Result ℕ Refusal). seen o s) p ∙ ap (λ (r : Refusal). seen (Err r) s) q

module _ (σ : Table) (k x : ℕ) where
  pub found0 : {i : ℕ} → (i < σ.count) × (seek (same2 σ.words k x 0) 0 σ.count ≡ i) → intern0 k x σ ≡ given σ i
  unfolding intern0
  found0 {i} p = simp (p.1, lt-ltb i σ.count p.0)

  pub new0 : {z : Outcome Table ℕ} → seek (same2 σ.words k x 0) 0 σ.count ≡ σ.count → put k x 0 0 σ ≡ z → intern0 k x σ ≡ z
  unfolding intern0
  new0 p w = simp (p, le-ltb σ.count σ.count (omega arith)) w

module _ (L : Limits) (σ : Table) (k x : ℕ) where
  pub found1 : {i : ℕ} → (i < σ.count) × (seek (same2 σ.words k x 0) 0 σ.count ≡ i) → intern1 L k x σ ≡ given σ i
  unfolding intern1
  found1 p = way_found σ.count L.nesting (nest σ.words x + 1) σ (put k x 0 (nest σ.words x + 1) σ) _ _ p

  module _ {e : ℕ} (p : seek (same2 σ.words k x 0) 0 σ.count ≡ σ.count) (e-is : e ≡ nest σ.words x) where
    pub deep1 : {r : Refusal} {o : Result ℕ Refusal} → (L.nesting ≤ e) × (r ≡ Nesting) → o ≡ Err r → intern1 L k x σ ≡ seen o σ
    unfolding intern1
    deep1 d q =
        way_deep σ.count L.nesting (nest σ.words x + 1) σ (put k x 0 (nest σ.words x + 1) σ) _ p (omega (arith, e-is, d.0)) ∙ sym (refuses σ q d.1)

    pub new1 : {h : ℕ} → (e < L.nesting) × (h ≡ e + 1) → {z : Outcome Table ℕ} → put k x 0 h σ ≡ z → intern1 L k x σ ≡ z
    unfolding intern1
    new1 {h} l w =
        way_new σ.count L.nesting (nest σ.words x + 1) σ (put k x 0 (nest σ.words x + 1) σ) _ p (omega (arith, e-is, l.0))
        ∙ ap (λ (e : ℕ). put k x 0 e σ) {x = nest σ.words x + 1} {y = h} (omega (arith, e-is, l.1)) ∙ w

module _ (L : Limits) (σ : Table) (k x y : ℕ) where
  abbrev e2 : ℕ
  e2 = max (nest σ.words x) (nest σ.words y) + 1

  pub found2 : {i : ℕ} → (i < σ.count) × (seek (same2 σ.words k x y) 0 σ.count ≡ i) → intern2 L k x y σ ≡ given σ i
  unfolding intern2
  found2 p = way_found σ.count L.nesting e2 σ (put k x y e2 σ) _ _ p

  module _ {a b h : ℕ} (p : seek (same2 σ.words k x y) 0 σ.count ≡ σ.count) (a-is : a ≡ nest σ.words x) (b-is : b ≡ nest σ.words y) (h-is : h ≡ max a b) where
    pub deep2 : {r : Refusal} {o : Result ℕ Refusal} → (L.nesting ≤ h) × (r ≡ Nesting) → o ≡ Err r → intern2 L k x y σ ≡ seen o σ
    unfolding intern2
    deep2 d q = way_deep σ.count L.nesting e2 σ (put k x y e2 σ) _ p (omega (arith, a-is, b-is, h-is, d.0)) ∙ sym (refuses σ q d.1)

    pub new2 : {e : ℕ} → (h < L.nesting) × (e ≡ h + 1) → {z : Outcome Table ℕ} → put k x y e σ ≡ z → intern2 L k x y σ ≡ z
    unfolding intern2
    new2 {e} l w =
        way_new σ.count L.nesting e2 σ (put k x y e2 σ) _ p (omega (arith, a-is, b-is, h-is, l.0))
        ∙ ap (λ (e : ℕ). put k x y e σ) {x = e2} {y = e} (omega (arith, a-is, b-is, h-is, l.1)) ∙ w

-- ---- push_list

-- the words of the part that the list is copied to are z
pub room : (d z xs : List ℕ) (m : ℕ) → z ≡ xs → m + length xs ≤ length d → m + length xs ≤ member_cap → append xs (table d m) ≡ given (table (put_mid m (m + length xs - m) d z) (m + length xs)) m
unfolding append room_m store
room d z xs m e a b =
    simp (le-leb (m + length xs) (length d) a, le-leb (m + length xs) member_cap b, pasted d z xs m (length xs) e refl a)

-- what was appended fits
fits_by : (xs : List ℕ) (m : Table) {m' : Table} {i : ℕ} (c : Bool) → room_m m (length xs) ≡ c → (if c then given (store xs m) m.count else refused 23) ≡ given m' i → m.count + length xs ≤ member_cap
unfolding room_m
fits_by xs m true q e = leb-true (m.count + length xs) member_cap (and_true (leb (m.count + length xs) (length m.words)) (leb (m.count + length xs) member_cap) q).1
fits_by xs m false q e = absurd (cc)

pub fits : (xs : List ℕ) (m : Table) {m' : Table} {i : ℕ} → append xs m ≡ given m' i → m.count + length xs ≤ member_cap
unfolding append
fits xs m e = fits_by xs m (room_m m (length xs)) refl e

module _ (k e : ℕ) (xs : List ℕ) (s m : Table) where
  abbrev both : Bool → Outcome Exprs ℕ
  both c = if c then placed (λ s τ. exprs s (store xs τ.members)) (exprs s m) (put k m.count (length xs) e s) else refused 23

  unplaced_by : {n : ℕ} (c : Bool) → (if c then given (store xs m) m.count else refused 23) ≡ refused n → both c ≡ refused n
  unplaced_by true q = absurd (cc)
  unplaced_by false q = cc

  pub unplaced : {n : ℕ} → append xs m ≡ refused n → put_l k xs e (exprs s m) ≡ refused n
  unfolding append put_l
  unplaced q = unplaced_by (room_m m (length xs)) q

  placed_as : (s' : Table) (r : Result ℕ Refusal) → put k m.count (length xs) e s ≡ seen r s' → both true ≡ seen r (exprs s' (store xs m))
  placed_as s' (Ok i) p = ap (placed (λ s τ. exprs s (store xs τ.members)) (exprs s m)) p
  placed_as s' (Err n) p = ap (placed (λ s τ. exprs s (store xs τ.members)) (exprs s m)) p

  added_by : {m' : Table} {i : ℕ} (s' : Table) (r : Result ℕ Refusal) (c : Bool) → (if c then given (store xs m) m.count else refused 23) ≡ given m' i → put k i (length xs) e s ≡ seen r s' → both c ≡ seen r (exprs s' m')
  added_by {m'} {i} s' r true q p =
      let a : store xs m ≡ m' = cc in
      let b : i ≡ m.count = cc in
      placed_as s' r (ap (λ (i : ℕ). put k i (length xs) e s) (sym b) ∙ p) ∙ ap (λ (m : Table). seen r (exprs s' m)) a
  added_by s' r false q p = absurd (cc)

  pub added : {m' : Table} {i : ℕ} (s' : Table) (r : Result ℕ Refusal) → append xs m ≡ given m' i → put k i (length xs) e s ≡ seen r s' → put_l k xs e (exprs s m) ≡ seen r (exprs s' m')
  unfolding append put_l
  added s' r q p = added_by s' r (room_m m (length xs)) q p

-- ---- intern_list; e is the highest nesting of the list

module _ (L : Limits) (τ : Exprs) (k : ℕ) (xs : List ℕ) where
  abbrev e_l : ℕ
  e_l = nest_l τ.states.words 0 xs + 1

  abbrev place : ℕ
  place = seek (same_l τ.states.words τ.members.words k xs) 0 τ.states.count

  pub found_l : {i : ℕ} → (i < τ.states.count) × (place ≡ i) → intern_l L k xs τ ≡ given τ i
  unfolding intern_l
  found_l p = way_found τ.states.count L.nesting e_l τ (put_l k xs e_l τ) _ _ p

  module _ {e : ℕ} (p : place ≡ τ.states.count) (e-is : e ≡ nest_l τ.states.words 0 xs) where
    pub deep_l : {r : Refusal} {o : Result ℕ Refusal} → (L.nesting ≤ e) × (r ≡ Nesting) → o ≡ Err r → intern_l L k xs τ ≡ seen o τ
    unfolding intern_l
    deep_l d q = way_deep τ.states.count L.nesting e_l τ (put_l k xs e_l τ) _ p (omega (arith, e-is, d.0)) ∙ sym (refuses τ q d.1)

    pub new_l : {h : ℕ} → (e < L.nesting) × (h ≡ e + 1) → {z : Outcome Exprs ℕ} → put_l k xs h τ ≡ z → intern_l L k xs τ ≡ z
    unfolding intern_l
    new_l {h} l w =
        way_new τ.states.count L.nesting e_l τ (put_l k xs e_l τ) _ p (omega (arith, e-is, l.0))
        ∙ ap (λ (e : ℕ). put_l k xs e τ) {x = e_l} {y = h} (omega (arith, e-is, l.1)) ∙ w

-- ---- mk_complement

module _ (N : ℕ) (L : Limits) (x : ℕ) (σ : Table) where
  pub undone : kind_of σ.words x ≡ COMPLEMENT → mk_complement N L x σ ≡ given σ (op1 σ.words x)
  unfolding mk_complement
  undone e = simp (eq-eqb (kind_of σ.words x) COMPLEMENT e)

  module _ {z : Outcome Table ℕ} where
    pub of_top : kind_of σ.words x ≡ TOP → {h : ℕ} → zero_at N ≡ h → mk_spp h σ ≡ z → mk_complement N L x σ ≡ z
    unfolding mk_complement
    of_top e {h} q w =
        simp (ne_eqb (kind_of σ.words x) COMPLEMENT (λ d. omega (arith, e, d)), eq-eqb (kind_of σ.words x) TOP e) (ap (λ (h : ℕ). mk_spp h σ) q ∙ w)

    pub of_other : (kind_of σ.words x ≡ COMPLEMENT → ⊥) → (kind_of σ.words x ≡ TOP → ⊥) → intern1 L COMPLEMENT x σ ≡ z → mk_complement N L x σ ≡ z
    unfolding mk_complement
    of_other p q w = simp (ne_eqb (kind_of σ.words x) COMPLEMENT p, ne_eqb (kind_of σ.words x) TOP q) w
