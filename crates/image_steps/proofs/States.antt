-- 02 (ii), a state's record made again: unless it is refused, it is a new state with these very words and members, and the tables are in order; and with which numbers it is refused.
use Rattle.std.specs.Prelude.{if◌then◌else◌}
use mathlib.Core.Path.{◌≡◌, refl, sym, ◌∙◌, ap, ap₂, subst}
use mathlib.Core.Bool.{Bool, true, false, ◌||◌}
use mathlib.Core.List.{List, [], ◌∷◌, Memᴰ}
use Prim.Native.Nat.{ℕ, ◌+◌, ◌*◌, ◌≤◌, ◌<◌, max}
use native.Mathlib.Omega.{arith}
use lib.Dec.{eqb, ltb}
use lib.ListN.{length, get_or}
use lib.Seq.{length-sets}
use borrow.Author.Tests.{eqb-true, eqb-false, eq-eqb, ne_eqb, ltb-true, le-ltb}
use Rattle.common.specs.Outcome.{Outcome, refused, given, Step}
use Rattle.common.proofs.Follow.{refused≢given}
use Rattle.common.specs.Runs.{Table, table, placed}
use Rattle.sp_steps.proofs.Make.{by_test, false_true}
use Rattle.aut_steps.specs.Tables.{SPP, UNION, INTERSECT, XOR, DIFFERENCE, COMPLEMENT, SEQUENCE, STAR, DUP, UNTIL, TOP, kind_of, op1, op2, nest, words, Limits, room_s, room_m, put4, exprs, Aut, aut, put_states, put_exprs, on_states, on_exprs}
use Rattle.aut_steps.specs.Intern.{seek, same2, same_l, put, intern0, intern1, intern2, nest_l, store, put_l, intern_l}
use Rattle.aut_steps.specs.Wf.{states, kind, first, second, nesting, members, ExtAut, length_as, WfAut}
use Rattle.aut_steps.specs.StepSpec.{Memos}
use Rattle.aut_steps.proofs.Facts.{seek_hit, Is2, same2_is, IsL, same_l_is, room_state, put4_kind, put4_op1, put4_op2, put4_nest, words_sets}
use Rattle.aut_st_steps.specs.ListSpec.{State}
use Rattle.aut_replay.specs.Replay.{called, Wider, Replays, comes, In}
use Rattle.aut_replay.proofs.Replay.{constructors_again}
use Rattle.image_steps.specs.Records as Records
use Rattle.image_steps.specs.Records.{state_fits, interned, wanted}
use Rattle.image_steps.proofs.Fits as Fits
use Rattle.image_steps.proofs.Fits.{ManyRight, RecordRight, fits_right}
use Rattle.image_steps.proofs.Constructors.{call_of, record_by_constructor, call_at}

-- ---- kinds with a list

pub if_list : {A : Type 0} (k : ℕ) → (UNION ≤ k → k ≤ INTERSECT → A) → ((UNION ≤ k → k ≤ INTERSECT → ⊥) → A) → A
if_list k f g =
    by_test (eqb k UNION)
    (λ u. let e : k ≡ UNION = eqb-true k UNION u in f (omega arith) (omega arith))
    (λ u. by_test (eqb k INTERSECT)
    (λ v. let e : k ≡ INTERSECT = eqb-true k INTERSECT v in f (omega arith) (omega arith))
    (λ v. g (λ lo hi. omega (arith, eqb-false k UNION u, eqb-false k INTERSECT v))))

pub is_list : (k : ℕ) → UNION ≤ k → k ≤ INTERSECT → (eqb k UNION || eqb k INTERSECT) ≡ true
is_list k a b =
    by_test (eqb k UNION)
    (λ e. ap (λ (c : Bool). c || eqb k INTERSECT) e)
    (λ e. ap (λ (c : Bool). c || eqb k INTERSECT) e ∙ eq-eqb k INTERSECT (omega (arith, eqb-false k UNION e)))

-- what is a for them and b for the others
module _ {A : Type 0} (k : ℕ) (a b : A) where
  pub as_list : UNION ≤ k → k ≤ INTERSECT → (if eqb k UNION then a else if eqb k INTERSECT then a else b) ≡ a
  as_list lo hi = go (eqb k UNION) (eqb k INTERSECT) (is_list k lo hi)
    where
      go : (c d : Bool) → (c || d) ≡ true → (if c then a else if d then a else b) ≡ a
      go true d e = refl
      go false true e = refl
      go false false e = absurd (false_true e)

  pub as_other : (UNION ≤ k → k ≤ INTERSECT → ⊥) → (if eqb k UNION then a else if eqb k INTERSECT then a else b) ≡ b
  as_other n = ap₂ (λ (c d : Bool). if c then a else if d then a else b) (ne_eqb k UNION (λ e. n (omega arith) (omega arith))) (ne_eqb k INTERSECT (λ e. n (omega arith) (omega arith)))

-- ---- what interning comes to

-- the members with a list's behind them
abbrev pub members_with : (k : ℕ) → List ℕ → Table → Table
members_with k xs m = if eqb k UNION then store xs m else if eqb k INTERSECT then store xs m else m

-- the tables with this record behind the others
abbrev pub with_state : Aut → List ℕ → (k x y e : ℕ) → Aut
with_state σ xs k x y e = aut σ.nodes (table (put4 σ.states.words (states σ) k x y e) (states σ + 1)) (members_with k xs σ.members)

-- state i has the kind k and the words x and y, or the list xs
pub data Equal (σ : Aut) (xs : List ℕ) (k x y i : ℕ) : Type 0 where
  by_words_lem : Is2 σ.states.words k x y i → Equal σ xs k x y i
  by_list : UNION ≤ k → k ≤ INTERSECT → IsL σ.states.words σ.members.words k xs i → Equal σ xs k x y i

-- an equal state stands; there is no room; or the record is put behind the others, and m' are the members with its own
pub data Interns (σ : Aut) (xs : List ℕ) (k x y e : ℕ) (m' : Table) : Outcome Aut ℕ → Type 0 where
  stands : {i : ℕ} → i < states σ → Equal σ xs k x y i → Interns σ xs k x y e m' (given σ i)
  no_members : UNION ≤ k → k ≤ INTERSECT → room_m σ.members (length xs) ≡ false → Interns σ xs k x y e m' (refused 23)
  no_state : room_s σ.states ≡ false → Interns σ xs k x y e m' (refused 22)
  new : room_s σ.states ≡ true → Interns σ xs k x y e m' (given (aut σ.nodes (table (put4 σ.states.words (states σ) k x y e) (states σ + 1)) m') (states σ))

module _ (σ : Aut) (xs : List ℕ) (k x y e : ℕ) where
  put_interns : Interns σ xs k x y e σ.members (placed put_states σ (put k x y e σ.states))
  unfolding put
  put_interns = go (room_s σ.states) refl
    where
      go : (b : Bool) → room_s σ.states ≡ b
          → Interns σ xs k x y e σ.members (placed put_states σ (if b then given (table (put4 σ.states.words (states σ) k x y e) (states σ + 1)) (states σ) else refused 22))
      go true q = new q
      go false q = no_state q

  module _ {m' : Table} {S : Type 0} (put : S → Aut → Aut) where
    -- a state that stands, or what comes then
    find : (s : S) → put s σ ≡ σ → (i : ℕ) (o : Outcome S ℕ) → (i < states σ → Equal σ xs k x y i) → Interns σ xs k x y e m' (placed put σ o) → Interns σ xs k x y e m' (placed put σ (if ltb i (states σ) then given s i else o))
    find s p i o h f = go (ltb i (states σ)) refl
      where
        go : (b : Bool) → ltb i (states σ) ≡ b → Interns σ xs k x y e m' (placed put σ (if b then given s i else o))
        go true q = let l : i < states σ = ltb-true i (states σ) q in subst (λ (τ : Aut). Interns σ xs k x y e m' (given τ i)) (sym p) (stands l (h l))
        go false q = f

    -- within the limit of nesting
    deep : (most d : ℕ) → d ≤ most → (o : Outcome S ℕ) → Interns σ xs k x y e m' (placed put σ o) → Interns σ xs k x y e m' (placed put σ (if ltb most d then refused 8 else o))
    deep most d l o f = subst (λ (b : Bool). Interns σ xs k x y e m' (placed put σ (if b then refused 8 else o))) (sym (le-ltb most d l)) f

-- the first number at which a search ends
equal2 : (σ : Aut) (xs : List ℕ) (k x y : ℕ) → seek (same2 σ.states.words k x y) 0 (states σ) < states σ → Equal σ xs k x y (seek (same2 σ.states.words k x y) 0 (states σ))
equal2 σ xs k x y l = by_words_lem (same2_is σ.states.words k x y _ (seek_hit (same2 σ.states.words k x y) 0 (states σ) (omega arith)))

module _ (L : Limits) (σ : Aut) (xs : List ℕ) (k : ℕ) where
  abbrev Comes : (x y e : ℕ) → Outcome Aut ℕ → Type 0
  Comes x y e = Interns σ xs k x y e σ.members

  intern0_plain : (x : ℕ) → Comes x 0 0 (on_states (intern0 k x) σ)
  unfolding intern0
  intern0_plain x = find σ xs k x 0 0 put_states σ.states refl _ _ (equal2 σ xs k x 0) (put_interns σ xs k x 0 0)

  intern1_plain : (x : ℕ) → nesting σ x + 1 ≤ L.nesting → Comes x 0 (nesting σ x + 1) (on_states (intern1 L k x) σ)
  unfolding intern1
  intern1_plain x l =
      find σ xs k x 0 _ put_states σ.states refl _ _ (equal2 σ xs k x 0) (deep σ xs k x 0 _ put_states L.nesting (nesting σ x + 1) l _ (put_interns σ xs k x 0 (nesting σ x + 1)))

  intern2_plain : (x y : ℕ) → max (nesting σ x) (nesting σ y) + 1 ≤ L.nesting → Comes x y (max (nesting σ x) (nesting σ y) + 1) (on_states (intern2 L k x y) σ)
  unfolding intern2
  intern2_plain x y l =
      find σ xs k x y _ put_states σ.states refl _ _ (equal2 σ xs k x y) (deep σ xs k x y _ put_states L.nesting (max (nesting σ x) (nesting σ y) + 1) l _ (put_interns σ xs k x y (max (nesting σ x) (nesting σ y) + 1)))

  intern_l_plain : UNION ≤ k → k ≤ INTERSECT → nest_l σ.states.words 0 xs + 1 ≤ L.nesting
      → Interns σ xs k σ.members.count (length xs) (nest_l σ.states.words 0 xs + 1) (store xs σ.members) (on_exprs (intern_l L k xs) σ)
  unfolding intern_l put_l put
  intern_l_plain u v l =
      find σ xs k nm (length xs) d put_exprs (exprs σ.states σ.members) refl _ _
      (λ i. by_list u v (same_l_is σ.states.words σ.members.words k xs _ (seek_hit (same_l σ.states.words σ.members.words k xs) 0 (states σ) (omega arith))))
      (deep σ xs k nm (length xs) d put_exprs L.nesting d l _ (at_members (room_m σ.members (length xs)) refl))
    where
      nm : ℕ
      nm = σ.members.count

      d : ℕ
      d = nest_l σ.states.words 0 xs + 1

      put_state : Bool → Outcome Aut ℕ
      put_state c = placed put_exprs σ (placed (λ s τ. exprs s (store xs τ.members)) (exprs σ.states σ.members) (if c then given (table (put4 σ.states.words (states σ) k nm (length xs) d) (states σ + 1)) (states σ) else refused 22))

      at_states : (c : Bool) → room_s σ.states ≡ c → Interns σ xs k nm (length xs) d (store xs σ.members) (put_state c)
      at_states true q = new q
      at_states false q = no_state q

      at_members : (b : Bool) → room_m σ.members (length xs) ≡ b
          → Interns σ xs k nm (length xs) d (store xs σ.members)
          (placed put_exprs σ (if b then placed (λ s τ. exprs s (store xs τ.members)) (exprs σ.states σ.members) (if room_s σ.states then given (table (put4 σ.states.words (states σ) k nm (length xs) d) (states σ + 1)) (states σ) else refused 22) else refused 23))
      at_members true q = at_states (room_s σ.states) refl
      at_members false q = no_members u v q

  intern0_interns : (x y e : ℕ) → y ≡ 0 → e ≡ 0 → Comes x y e (on_states (intern0 k x) σ)
  intern0_interns x y e p q = subst (λ (z : ℕ). Comes x z e (on_states (intern0 k x) σ)) (sym p) (subst (λ (z : ℕ). Comes x 0 z (on_states (intern0 k x) σ)) (sym q) (intern0_plain x))

  intern1_interns : (x y e : ℕ) → y ≡ 0 → e ≡ nesting σ x + 1 → e ≤ L.nesting → Comes x y e (on_states (intern1 L k x) σ)
  intern1_interns x y e p q l =
      subst (λ (z : ℕ). Comes x z e (on_states (intern1 L k x) σ)) (sym p)
      (subst (λ (z : ℕ). Comes x 0 z (on_states (intern1 L k x) σ)) (sym q) (intern1_plain x (omega arith)))

  intern2_interns : (x y e : ℕ) → e ≡ max (nesting σ x) (nesting σ y) + 1 → e ≤ L.nesting → Comes x y e (on_states (intern2 L k x y) σ)
  intern2_interns x y e q l = subst (λ (z : ℕ). Comes x y z (on_states (intern2 L k x y) σ)) (sym q) (intern2_plain x y (omega arith))

  -- a list behind the members in use
  intern_l_interns : (x y e : ℕ) → UNION ≤ k → k ≤ INTERSECT → x ≡ σ.members.count → length xs ≡ y → e ≡ nest_l σ.states.words 0 xs + 1 → e ≤ L.nesting
      → Interns σ xs k x y e (store xs σ.members) (on_exprs (intern_l L k xs) σ)
  intern_l_interns x y e u v p r q l =
      subst (λ (z : ℕ). Interns σ xs k z y e (store xs σ.members) (on_exprs (intern_l L k xs) σ)) (sym p)
      (subst (λ (z : ℕ). Interns σ xs k σ.members.count z e (store xs σ.members) (on_exprs (intern_l L k xs) σ)) r
      (subst (λ (z : ℕ). Interns σ xs k σ.members.count (length xs) z (store xs σ.members) (on_exprs (intern_l L k xs) σ)) (sym q) (intern_l_plain u v (omega arith))))

-- interning a record that fits
pub record_interns : (N : ℕ) (L : Limits) (σ : Aut) (xs : List ℕ) (k x y e : ℕ) → state_fits N L σ xs k x y e ≡ true → Interns σ xs k x y e (members_with k xs σ.members) (interned N L xs k x y σ)
unfolding interned
record_interns N L σ xs k x y e q = go (fits_right N L σ xs k x y e q)
  where
    at : {j : ℕ} → k ≡ j → Interns σ xs j x y e (members_with j xs σ.members) (interned N L xs j x y σ) → Interns σ xs k x y e (members_with k xs σ.members) (interned N L xs k x y σ)
    at e' p = subst (λ (i : ℕ). Interns σ xs i x y e (members_with i xs σ.members) (interned N L xs i x y σ)) (sym e') p

    go : RecordRight N L σ xs k x y e → Interns σ xs k x y e (members_with k xs σ.members) (interned N L xs k x y σ)
    go (Fits.spp j r) = at j (intern0_interns L σ xs SPP x y e r.unused r.nested)
    go (Fits.union j m t r) = at j (intern_l_interns L σ xs UNION x y e (omega arith) (omega arith) m.start m.long m.nested m.shallow)
    go (Fits.intersect j m r) = at j (intern_l_interns L σ xs INTERSECT x y e (omega arith) (omega arith) m.start m.long m.nested m.shallow)
    go (Fits.xor j r l n) = at j (intern2_interns L σ xs XOR x y e r.nested r.shallow)
    go (Fits.difference j r d n) = at j (intern2_interns L σ xs DIFFERENCE x y e r.nested r.shallow)
    go (Fits.complement j r c t) = at j (intern1_interns L σ xs COMPLEMENT x y e r.unused r.nested r.shallow)
    go (Fits.sequence j r s) = at j (intern2_interns L σ xs SEQUENCE x y e r.nested r.shallow)
    go (Fits.star j r s p t) = at j (intern1_interns L σ xs STAR x y e r.unused r.nested r.shallow)
    go (Fits.dup j r) = at j (intern0_interns L σ xs DUP x y e r.unused2 r.nested)
    go (Fits.until j r) = at j (intern2_interns L σ xs UNTIL x y e r.nested r.shallow)
    go (Fits.top j r) = at j (intern0_interns L σ xs TOP x y e r.unused2 r.nested)

-- ---- a record that is made

-- τ are the tables with the record behind the others; i is its number
pub record StateMade (N : ℕ) (L : Limits) (xs : List ℕ) (k x y e : ℕ) (σ τ : Aut) (i : ℕ) : Type 0 where
  pub is : τ ≡ with_state σ xs k x y e
  pub number : i ≡ states σ
  pub fits : state_fits N L σ xs k x y e ≡ true
  pub good : WfAut N L τ
  pub grown : ExtAut σ τ
  pub memos : Memos σ τ
  pub count : states τ ≡ states σ + 1
  pub kind_is : kind τ (states σ) ≡ k
  pub first_is : first τ (states σ) ≡ x
  pub second_is : second τ (states σ) ≡ y
  pub nesting_is : nesting τ (states σ) ≡ e
  pub unworked : (w : ℕ) → 4 ≤ w → w < 12 → get_or τ.states.words (12 * states σ + w) 0 ≡ 0
  pub nodes : τ.nodes ≡ σ.nodes
  pub members_are : τ.members ≡ members_with k xs σ.members
  pub members_count : τ.members.count ≡ σ.members.count + length_as k y
  pub list : UNION ≤ k → k ≤ INTERSECT → members τ (states σ) ≡ xs
  pub states_length : length τ.states.words ≡ length σ.states.words
  pub members_length : length τ.members.words ≡ length σ.members.words

wanted_is : (N : ℕ) (L : Limits) (n : ℕ) (o : Outcome Aut ℕ) {τ : Aut} {i : ℕ} → wanted N L n o ≡ given τ i → (o ≡ given τ i) × (i ≡ n)
wanted_is N L n (refused number) e = absurd (refused≢given e)
wanted_is N L n (given υ j) {τ} {i} e = go (eqb j n) refl e
  where
    go : (b : Bool) → eqb j n ≡ b → (if b then given υ j else refused 32) ≡ given τ i → (given υ j ≡ given τ i) × (i ≡ n)
    go true q e = let s : j ≡ i = cc in (e, sym s ∙ eqb-true j n q)
    go false q e = absurd (refused≢given e)

new_at : {σ : Aut} {xs : List ℕ} {k x y e : ℕ} {m' : Table} (o : Outcome Aut ℕ) → Interns σ xs k x y e m' o → (τ : Aut) (i : ℕ) → o ≡ given τ i → i ≡ states σ
    → (τ ≡ aut σ.nodes (table (put4 σ.states.words (states σ) k x y e) (states σ + 1)) m') × (room_s σ.states ≡ true)
new_at o (stands {i = j} l h) τ i p q = let s : j ≡ i = cc in absurd (omega arith)
new_at o (no_members a b c) τ i p q = absurd (refused≢given p)
new_at o (no_state a) τ i p q = absurd (refused≢given p)
new_at o (new r) τ i p q = (cc, r)

new_is : {σ τ : Aut} {xs : List ℕ} {k x y e i : ℕ} {m' : Table} → Interns σ xs k x y e m' (given τ i) → i ≡ states σ
    → (τ ≡ aut σ.nodes (table (put4 σ.states.words (states σ) k x y e) (states σ + 1)) m') × (room_s σ.states ≡ true)
new_is {τ} {i} r q = new_at (given τ i) r τ i refl q

pub replay_came : {N : ℕ} {L : Limits} {A : Type 0} {P : Aut → A → Type 0} {step : Step Aut A} {σ τ : Aut} {a : A} → Replays N L P step σ (given τ a) → ExtAut σ τ × Memos σ τ × P τ a
replay_came (comes g m p r) = (g, m, p)

pub wider_refl : (L : Limits) → Wider L L
wider_refl L = record { nesting = omega arith; list = omega arith; products = omega arith; transitions = omega arith }

members_counted : (k y : ℕ) (xs : List ℕ) (m : Table) → (UNION ≤ k → k ≤ INTERSECT → length xs ≡ y) → (members_with k xs m).count ≡ m.count + length_as k y
unfolding store
members_counted k y xs m f =
    if_list k
    (λ lo hi. ap (λ (t : Table). t.count) (as_list k (store xs m) m lo hi) ∙ omega (arith, f lo hi, as_list k y 0 lo hi))
    (λ n. ap (λ (t : Table). t.count) (as_other k (store xs m) m n) ∙ omega (arith, as_other k y 0 n))

members_long : (k : ℕ) (xs : List ℕ) (m : Table) → length (members_with k xs m).words ≡ length m.words
unfolding store
members_long k xs m =
    if_list k
    (λ lo hi. ap (λ (t : Table). length t.words) (as_list k (store xs m) m lo hi) ∙ length-sets m.words m.count xs)
    (λ n. ap (λ (t : Table). length t.words) (as_other k (store xs m) m n))

store_counts : (xs : List ℕ) (m : Table) → (store xs m).count ≡ m.count + length xs
unfolding store
store_counts xs m = refl

stored_words : (xs : List ℕ) (m : Table) → m.count + length xs ≤ length m.words → words (store xs m).words m.count (length xs) ≡ xs
unfolding store
stored_words xs m l = words_sets xs m.words m.count l

-- a list's record
pub list_right : {N : ℕ} {L : Limits} {σ : Aut} {xs : List ℕ} {k x y e : ℕ} → RecordRight N L σ xs k x y e → UNION ≤ k → k ≤ INTERSECT → ManyRight L σ xs x y e
list_right (Fits.spp j r) a b = absurd (omega arith)
list_right (Fits.union j m t r) a b = m
list_right (Fits.intersect j m r) a b = m
list_right (Fits.xor j r l n) a b = absurd (omega arith)
list_right (Fits.difference j r d n) a b = absurd (omega arith)
list_right (Fits.complement j r c t) a b = absurd (omega arith)
list_right (Fits.sequence j r s) a b = absurd (omega arith)
list_right (Fits.star j r s p t) a b = absurd (omega arith)
list_right (Fits.dup j r) a b = absurd (omega arith)
list_right (Fits.until j r) a b = absurd (omega arith)
list_right (Fits.top j r) a b = absurd (omega arith)

pub state_goes : (N : ℕ) (L : Limits) (σ : Aut) → WfAut N L σ → (xs : List ℕ) (k x y e : ℕ) → (τ : Aut) (i : ℕ) → Records.state N L xs k x y e σ ≡ given τ i → StateMade N L xs k x y e σ τ i
unfolding Records.state
state_goes N L σ g xs k x y e τ i q = go (state_fits N L σ xs k x y e) refl q
  where
    n : ℕ
    n = states σ

    made : state_fits N L σ xs k x y e ≡ true → interned N L xs k x y σ ≡ given τ i → i ≡ n → StateMade N L xs k x y e σ τ i
    made f o j =
        let r : RecordRight N L σ xs k x y e = fits_right N L σ xs k x y e f in
        let w = replay_came (subst (Replays N L (In N L State) (called N (call_of xs k x y) L) σ) (record_by_constructor N L σ g xs k x y e f ∙ o) (constructors_again N L L (wider_refl L) (call_of xs k x y) σ g (call_at N L σ g xs k x y e f))) in
        let t = new_is (subst (Interns σ xs k x y e (members_with k xs σ.members)) o (record_interns N L σ xs k x y e f)) j in
        let is : τ ≡ with_state σ xs k x y e = t.0 in
        let room : 12 * n + 11 < length σ.states.words = (room_state σ.states t.1).0 in
        let good : WfAut N L τ = w.2.0 in
        let st : τ.states.words ≡ put4 σ.states.words n k x y e = ap (λ (υ : Aut). υ.states.words) is in
        let c1 : first τ n ≡ x = ap (λ (l : List ℕ). op1 l n) st ∙ put4_op1 σ.states.words n k x y e room in
        let c2 : second τ n ≡ y = ap (λ (l : List ℕ). op2 l n) st ∙ put4_op2 σ.states.words n k x y e room in
        let ms : τ.members ≡ members_with k xs σ.members = ap (λ (υ : Aut). υ.members) is in
        let mc : τ.members.count ≡ σ.members.count + length_as k y = ap (λ (m : Table). m.count) ms ∙ members_counted k y xs σ.members (λ a b. (list_right r a b).long) in
        let ml : length τ.members.words ≡ length σ.members.words = ap (λ (m : Table). length m.words) ms ∙ members_long k xs σ.members in
        record {
          is = is;
          number = j;
          fits = f;
          good = good;
          grown = w.0;
          memos = w.1;
          count = ap (λ (υ : Aut). υ.states.count) is;
          kind_is = ap (λ (l : List ℕ). kind_of l n) st ∙ put4_kind σ.states.words n k x y e room;
          first_is = c1;
          second_is = c2;
          nesting_is = ap (λ (l : List ℕ). nest l n) st ∙ put4_nest σ.states.words n k x y e room;
          unworked = λ v a b. w.1 n v a b ∙ g.fresh (12 * n + v) (omega arith);
          nodes = ap (λ (υ : Aut). υ.nodes) is;
          members_are = ms;
          members_count = mc;
          list = λ a b.
              let m : ManyRight L σ xs x y e = list_right r a b in
              ap (λ (υ : Table). words υ.words (first τ n) (second τ n)) (ms ∙ as_list k (store xs σ.members) σ.members a b)
              ∙ ap₂ (words (store xs σ.members).words) (c1 ∙ m.start) (c2 ∙ sym m.long)
              ∙ stored_words xs σ.members (omega (arith, good.members_fit, ml, ap (λ (m : Table). m.count) (ms ∙ as_list k (store xs σ.members) σ.members a b), store_counts xs σ.members));
          states_length = w.0.states.len;
          members_length = ml;
        }

    go : (b : Bool) → state_fits N L σ xs k x y e ≡ b → (if b then wanted N L n (interned N L xs k x y σ) else refused 32) ≡ given τ i → StateMade N L xs k x y e σ τ i
    go true f q = let (o, j) = wanted_is N L n (interned N L xs k x y σ) q in made f o j
    go false f q = absurd (refused≢given q)

-- ---- a record that is refused

pub refused_number : {S A : Type 0} {a b : ℕ} → ◌≡◌ {A = Outcome S A} (refused a) (refused b) → a ≡ b
refused_number e = cc

-- "32 for a record .. that cannot be made of those before it, comes out differently or meets .. 8 (.. 23 where it has no room ..)": 8 is not met, for the nesting was tested
pub state_refuses : (N : ℕ) (L : Limits) (σ : Aut) (xs : List ℕ) (k x y e number : ℕ) → Records.state N L xs k x y e σ ≡ refused number → Memᴰ number (32 ∷ 23 ∷ 22 ∷ [])
unfolding Records.state
state_refuses N L σ xs k x y e number q = go (state_fits N L σ xs k x y e) refl q
  where
    m' : Table
    m' = members_with k xs σ.members

    other : (b : Bool) (τ : Aut) (i : ℕ) → (if b then given τ i else refused 32) ≡ refused number → Memᴰ number (32 ∷ 23 ∷ 22 ∷ [])
    other true τ i q = absurd (refused≢given (sym q))
    other false τ i q = Memᴰ.head (sym (refused_number q))

    at : {o : Outcome Aut ℕ} → Interns σ xs k x y e m' o → wanted N L (states σ) o ≡ refused number → Memᴰ number (32 ∷ 23 ∷ 22 ∷ [])
    at (stands {i} l h) q = other (eqb i (states σ)) σ i q
    at (no_members u v r) q = Memᴰ.tail (Memᴰ.head (sym (refused_number q)))
    at (no_state r) q = Memᴰ.tail (Memᴰ.tail (Memᴰ.head (sym (refused_number q))))
    at (new r) q = other (eqb (states σ) (states σ)) _ (states σ) q

    go : (b : Bool) → state_fits N L σ xs k x y e ≡ b → (if b then wanted N L (states σ) (interned N L xs k x y σ) else refused 32) ≡ refused number → Memᴰ number (32 ∷ 23 ∷ 22 ∷ [])
    go true f q = at (record_interns N L σ xs k x y e f) q
    go false f q = Memᴰ.head (sym (refused_number q))
