-- `intern` (aut_steps' Intern) on longer tables.
use Rattle.std.specs.Prelude.{if◌then◌else◌}
use mathlib.Core.Path.{◌≡◌, refl, sym, ◌∙◌, ap, ap₂, subst}
use mathlib.Core.Bool.{true, false, ◌&&◌}
use mathlib.Core.List.{List, [], ◌∷◌}
use Prim.Native.Nat.{ℕ, suc, ◌+◌, ◌*◌, ◌/◌, max, ◌≤◌, ◌<◌}
use native.Mathlib.Omega.{arith}
use lib.Dec.{eqb, ltb, leb}
use lib.ListN.{length, get_or, set, length-set}
use lib.Seq.{sets, get_or-set_other}
use borrow.Author.Tests.{ltb-true, lt-ltb, leb-true, le-leb}
use Rattle.common.specs.Outcome.{Outcome, given}
use Rattle.common.specs.Runs.{Table, table}
use Rattle.aut_steps.specs.Tables.{nest, Limits, state_cap, member_cap, room_s, room_m, put4, Exprs, exprs}
use Rattle.aut_steps.specs.Intern.{seek, same2, same_at, same_l, put, intern0, intern1, intern2, nest_l, store, put_l, intern_l}
use Rattle.book_longer.specs.Longer.{LongerWords, no_state, no_member, Follows, same_refusal, goes, Respects}
use Rattle.book_longer.proofs.Follow.{follows_placed, follows_value, follows_if, follows_room}
use Rattle.book_longer.proofs.Words.{at, kinds, firsts, seconds, nests, set_longer, sets_longer}
use Rattle.book_longer.proofs.Sets.{and_true}
use Rattle.book_longer.proofs.Anchored.{Anchor, States, Members, InExprs, by_states, by_members}

-- ---- room

room_s_more : {s t : List ℕ} (n : ℕ) → LongerWords s t → room_s (table s n) ≡ true → room_s (table t n) ≡ true
unfolding room_s
room_s_more {s} {t} n r e =
    let (a, b) = and_true (ltb n (length s / 12)) (ltb n state_cap) e in
    λ d. lt-ltb n (length t / 12) (omega (arith, ltb-true n (length s / 12) a, r.len)) d && b d

room_s_fits : (s : List ℕ) (n : ℕ) → room_s (table s n) ≡ true → 12 * n + 11 < length s
unfolding room_s
room_s_fits s n e = let (a, b) = and_true (ltb n (length s / 12)) (ltb n state_cap) e in omega (arith, ltb-true n (length s / 12) a)

room_m_more : {s t : List ℕ} (n k : ℕ) → LongerWords s t → room_m (table s n) k ≡ true → room_m (table t n) k ≡ true
unfolding room_m
room_m_more {s} {t} n k r e =
    let (a, b) = and_true (leb (n + k) (length s)) (leb (n + k) member_cap) e in
    λ d. le-leb (n + k) (length t) (omega (arith, leb-true (n + k) (length s) a, r.len)) d && b d

room_m_fits : (s : List ℕ) (n k : ℕ) → room_m (table s n) k ≡ true → n + k ≤ length s
unfolding room_m
room_m_fits s n k e = let (a, b) = and_true (leb (n + k) (length s)) (leb (n + k) member_cap) e in leb-true (n + k) (length s) a

-- ---- a new state

-- words from i on written
sets_before : (vs s : List ℕ) (i j : ℕ) → j < i → get_or (sets s i vs) j 0 ≡ get_or s j 0
sets_before [] s i j l = refl
sets_before (v ∷ vs) s i j l = sets_before vs (set s i v) (suc i) j (omega arith) ∙ get_or-set_other s i j v 0 (λ q. omega arith)

put4_longer : {s t : List ℕ} (n k x y e : ℕ) → 12 * n + 11 < length s → LongerWords s t → LongerWords (put4 s n k x y e) (put4 t n k x y e)
unfolding put4
put4_longer {s} n k x y e l r =
    let s₁ : List ℕ = set s (12 * n) k in
    let s₂ : List ℕ = set s₁ (12 * n + 1) x in
    let e₁ = length-set s (12 * n) k in
    let e₂ = length-set s₁ (12 * n + 1) x in
    let e₃ = length-set s₂ (12 * n + 2) y in
    set_longer (12 * n + 3) e (omega (arith, e₁, e₂, e₃)) (set_longer (12 * n + 2) y (omega (arith, e₁, e₂)) (set_longer (12 * n + 1) x (omega (arith, e₁)) (set_longer (12 * n) k (omega arith) r)))

put4_length : (s : List ℕ) (n k x y e : ℕ) → length (put4 s n k x y e) ≡ length s
unfolding put4
put4_length s n k x y e =
    length-set (set (set (set s (12 * n) k) (12 * n + 1) x) (12 * n + 2) y) (12 * n + 3) e ∙ length-set (set (set s (12 * n) k) (12 * n + 1) x) (12 * n + 2) y
    ∙ length-set (set s (12 * n) k) (12 * n + 1) x ∙ length-set s (12 * n) k

put4_before : (s : List ℕ) (n k x y e j : ℕ) → j < 12 * n → get_or (put4 s n k x y e) j 0 ≡ get_or s j 0
unfolding put4
put4_before s n k x y e j l =
    get_or-set_other (set (set (set s (12 * n) k) (12 * n + 1) x) (12 * n + 2) y) (12 * n + 3) j e 0 (λ q. omega arith)
    ∙ get_or-set_other (set (set s (12 * n) k) (12 * n + 1) x) (12 * n + 2) j y 0 (λ q. omega arith) ∙ get_or-set_other (set s (12 * n) k) (12 * n + 1) j x 0 (λ q. omega arith)
    ∙ get_or-set_other s (12 * n) j k 0 (λ q. omega arith)

nest_l_same : {s t : List ℕ} → LongerWords s t → (h : ℕ) (xs : List ℕ) → nest_l s h xs ≡ nest_l t h xs
unfolding nest_l
nest_l_same r h [] = refl
nest_l_same r h (x ∷ xs) = λ d. nest_l_same r (max h (nests r d x)) xs d

same_at_same : {s t : List ℕ} → LongerWords s t → (i : ℕ) (xs : List ℕ) → same_at s i xs ≡ same_at t i xs
unfolding same_at
same_at_same r i [] = refl
same_at_same r i (x ∷ xs) = λ d. if eqb (at r i d) x then same_at_same r (i + 1) xs d else false

module _ {a : Anchor} where
  state_put : {s t : List ℕ} (n k x y e : ℕ) → 12 * n + 11 < length s → States a (table s n) (table t n) → States a (table (put4 s n k x y e) (n + 1)) (table (put4 t n k x y e) (n + 1))
  state_put {s} n k x y e l r = record {
    words = put4_longer n k x y e l r.words;
    count = refl;
    fits = omega (arith, put4_length s n k x y e, r.fits);
    more = omega (arith, r.more);
    kept = λ z w i j. put4_before s n k x y e (12 * z + w) (omega (arith, r.more)) ∙ r.kept z w i j;
  }

  put_longer : {s t : Table} {x z e u : ℕ} (k y : ℕ) → x ≡ z → e ≡ u → States a s t → Follows (States a) (put k x y e s) (put k z y u t)
  unfolding put
  put_longer {s} {t} {x} {e = e} {u = u} k y p q r =
      subst (λ (z : ℕ). Follows (States a) (put k x y e s) (put k z y u t)) p
      (subst (λ (u : ℕ). Follows (States a) (put k x y e s) (put k x y u t)) q
      (by_states (λ s t. Follows (States a) (put k x y e s) (put k x y e t)) (λ s t n r.
      follows_room no_state (room_s (table s n)) (room_s (table t n)) (room_s_more n r.words) (λ b. goes (state_put n k x y e (room_s_fits s n b) r))) s t r))

  -- found, or else
  found_or : {s t : Table} {i j : ℕ} {o p : Outcome Table ℕ} → States a s t → i ≡ j → Follows (States a) o p
      → Follows (States a) (if ltb i s.count then given s i else o) (if ltb j t.count then given t j else p)
  found_or r e q = follows_if (ap₂ ltb e (sym r.count)) (follows_value r e) q

  found : {s t : Table} (r : States a s t) (k x y : ℕ) → seek (same2 s.words k x y) 0 s.count ≡ seek (same2 t.words k x y) 0 t.count
  unfolding same2
  found r k x y = λ d. seek (λ i. eqb (kinds r.words d i) k && (eqb (firsts r.words d i) x && eqb (seconds r.words d i) y)) 0 (sym r.count d)

  pub intern0_longer : (k x : ℕ) → Respects (States a) (intern0 k x)
  unfolding intern0
  intern0_longer k x s t r = found_or r (found r k x 0) (put_longer k 0 refl refl r)

  pub intern1_longer : (L : Limits) (k x : ℕ) → Respects (States a) (intern1 L k x)
  unfolding intern1
  intern1_longer L k x s t r =
      let e : nest s.words x + 1 ≡ nest t.words x + 1 = λ d. nests r.words d x + 1 in
      found_or r (found r k x 0) (follows_if (ap (ltb L.nesting) e) same_refusal (put_longer k 0 refl e r))

  pub intern2_longer : (L : Limits) (k x y : ℕ) → Respects (States a) (intern2 L k x y)
  unfolding intern2
  intern2_longer L k x y s t r =
      let e : max (nest s.words x) (nest s.words y) + 1 ≡ max (nest t.words x) (nest t.words y) + 1 = λ d. max (nests r.words d x) (nests r.words d y) + 1 in
      found_or r (found r k x y) (follows_if (ap (ltb L.nesting) e) same_refusal (put_longer k y refl e r))

  -- ---- lists

  found_list : {σ τ : Exprs} (r : InExprs a σ τ) (k : ℕ) (xs : List ℕ)
      → seek (same_l σ.states.words σ.members.words k xs) 0 σ.states.count ≡ seek (same_l τ.states.words τ.members.words k xs) 0 τ.states.count
  unfolding same_l
  found_list r k xs = λ d.
      seek (λ i. if eqb (kinds r.states.words d i) k then (if eqb (seconds r.states.words d i) (length xs) then same_at_same r.members.words (firsts r.states.words d i) xs d else false) else false) 0
      (sym r.states.count d)

  store_longer : {s t : List ℕ} (n : ℕ) (xs : List ℕ) → n + length xs ≤ length s → Members a (table s n) (table t n) → Members a (store xs (table s n)) (store xs (table t n))
  unfolding store
  store_longer {s} n xs l r = record {
    words = sets_longer xs n l r.words;
    count = refl;
    more = omega (arith, r.more);
    kept = λ i j. sets_before xs s n i (omega (arith, r.more)) ∙ r.kept i j;
  }

  put_l_longer : {σ τ : Exprs} {e u : ℕ} (k : ℕ) (xs : List ℕ) → e ≡ u → InExprs a σ τ → Follows (InExprs a) (put_l k xs e σ) (put_l k xs u τ)
  unfolding put_l
  put_l_longer {σ} {τ} {e} {u} k xs q r =
      by_members (λ s t. Follows (InExprs a) (put_l k xs e (exprs σ.states s)) (put_l k xs u (exprs τ.states t))) (λ s t n m.
      follows_room no_member (room_m (table s n) (length xs)) (room_m (table t n) (length xs)) (room_m_more n (length xs) m.words) (λ b.
      follows_placed (λ s τ. exprs s (store xs τ.members)) (exprs σ.states (table s n)) (exprs τ.states (table t n)) (put_longer k (length xs) refl q r.states)
      (λ s₁ t₁ p. record { states = p; members = store_longer n xs (room_m_fits s n (length xs) b) m }))) σ.members τ.members r.members

  pub intern_l_longer : (L : Limits) (k : ℕ) (xs : List ℕ) → Respects (InExprs a) (intern_l L k xs)
  unfolding intern_l
  intern_l_longer L k xs σ τ r =
      let e : nest_l σ.states.words 0 xs + 1 ≡ nest_l τ.states.words 0 xs + 1 = λ d. nest_l_same r.states.words 0 xs d + 1 in
      follows_if (ap₂ ltb (found_list r k xs) (sym r.states.count)) (follows_value r (found_list r k xs)) (follows_if (ap (ltb L.nesting) e) same_refusal (put_l_longer k xs e r))
