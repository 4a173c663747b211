-- `intern` (aut_steps' Intern) on tables that are twins.
use Rattle.std.specs.Prelude.{if◌then◌else◌}
use mathlib.Core.Path.{◌≡◌, refl, ap, ap₂, subst}
use mathlib.Core.Bool.{false, ◌&&◌}
use mathlib.Core.List.{List, [], ◌∷◌}
use Prim.Native.Nat.{ℕ, ◌+◌, ◌/◌, max}
use lib.Dec.{eqb, ltb}
use lib.ListN.{length}
use Rattle.common.specs.Outcome.{Outcome, given}
use Rattle.common.specs.Runs.{Table, table}
use Rattle.aut_steps.specs.Tables.{nest, Limits, state_cap, room_s, room_m, put4, Exprs, exprs}
use Rattle.aut_steps.specs.Intern.{seek, same2, same_at, same_l, put, intern0, intern1, intern2, nest_l, store, put_l, intern_l}
use Rattle.aut_free.proofs.Alike.{AlikeRuns, stops, comes, Respects}
use Rattle.aut_free.proofs.Runs.{alike_placed, alike_given, alike_if}
use Rattle.aut_free.proofs.Twin.{TwinWords, TwinStates, TwinExprs}
use Rattle.aut_free.proofs.Words.{kinds, firsts, seconds, nests, twin_put4}

module _ {f g : List ℕ} where
  room_same : {s t : Table} → TwinStates f g s t → room_s s ≡ room_s t
  unfolding room_s
  room_same r = λ d. ltb (r.count d) (r.words.len d / 12) && ltb (r.count d) state_cap

  put_alike : {s t : Table} {x z e u : ℕ} (k y : ℕ) → x ≡ z → e ≡ u → TwinStates f g s t → AlikeRuns (TwinStates f g) (put k x y e s) (put k z y u t)
  unfolding put
  put_alike {s} {t} {x} {e = e} {u = u} k y p q r =
      subst (λ (a : ℕ). AlikeRuns (TwinStates f g) (put k x y e s) (put k a y u t)) p
      (subst (λ (b : ℕ). AlikeRuns (TwinStates f g) (put k x y e s) (put k x y b t)) q
      (alike_if (room_same r)
      (subst (λ (n : ℕ). AlikeRuns (TwinStates f g) (given (table (put4 s.words s.count k x y e) (s.count + 1)) s.count) (given (table (put4 t.words n k x y e) (n + 1)) n)) r.count
      (comes (record { words = twin_put4 s.count k x y e r.words; count = refl })))
      stops))

  -- found, or else
  found_or : {s t : Table} {i j : ℕ} {o p : Outcome Table ℕ} → TwinStates f g s t → i ≡ j → AlikeRuns (TwinStates f g) o p
      → AlikeRuns (TwinStates f g) (if ltb i s.count then given s i else o) (if ltb j t.count then given t j else p)
  found_or r e q = alike_if (ap₂ ltb e r.count) (alike_given r e) q

  found : {s t : Table} (r : TwinStates f g s t) (k x y : ℕ) → seek (same2 s.words k x y) 0 s.count ≡ seek (same2 t.words k x y) 0 t.count
  unfolding same2
  found r k x y = λ d. seek (λ i. eqb (kinds r.words d i) k && (eqb (firsts r.words d i) x && eqb (seconds r.words d i) y)) 0 (r.count d)

  pub intern0_free : (k x : ℕ) → Respects (TwinStates f g) (intern0 k x)
  unfolding intern0
  intern0_free k x s t r = found_or r (found r k x 0) (put_alike k 0 refl refl r)

  pub intern1_free : (L : Limits) (k x : ℕ) → Respects (TwinStates f g) (intern1 L k x)
  unfolding intern1
  intern1_free L k x s t r =
      let e : nest s.words x + 1 ≡ nest t.words x + 1 = λ d. nests r.words d x + 1 in
      found_or r (found r k x 0) (alike_if (ap (ltb L.nesting) e) stops (put_alike k 0 refl e r))

  pub intern2_free : (L : Limits) (k x y : ℕ) → Respects (TwinStates f g) (intern2 L k x y)
  unfolding intern2
  intern2_free L k x y s t r =
      let e : max (nest s.words x) (nest s.words y) + 1 ≡ max (nest t.words x) (nest t.words y) + 1 = λ d. max (nests r.words d x) (nests r.words d y) + 1 in
      found_or r (found r k x y) (alike_if (ap (ltb L.nesting) e) stops (put_alike k y refl e r))

  -- ---- lists

  nest_l_same : {s t : List ℕ} → TwinWords f g s t → (h : ℕ) (xs : List ℕ) → nest_l s h xs ≡ nest_l t h xs
  unfolding nest_l
  nest_l_same r h [] = refl
  nest_l_same r h (x ∷ xs) = λ d. nest_l_same r (max h (nests r d x)) xs d

  found_list : {σ τ : Exprs} (r : TwinExprs f g σ τ) (k : ℕ) (xs : List ℕ)
      → seek (same_l σ.states.words σ.members.words k xs) 0 σ.states.count ≡ seek (same_l τ.states.words τ.members.words k xs) 0 τ.states.count
  unfolding same_l
  found_list r k xs = λ d.
      seek (λ i. if eqb (kinds r.states.words d i) k then (if eqb (seconds r.states.words d i) (length xs) then same_at (r.members d).words (firsts r.states.words d i) xs else false) else false) 0
      (r.states.count d)

  put_l_alike : {σ τ : Exprs} {e u : ℕ} (k : ℕ) (xs : List ℕ) → e ≡ u → TwinExprs f g σ τ → AlikeRuns (TwinExprs f g) (put_l k xs e σ) (put_l k xs u τ)
  unfolding put_l
  put_l_alike {σ} {τ} k xs q r =
      alike_if (λ d. room_m (r.members d) (length xs))
      (alike_placed (λ s τ. exprs s (store xs τ.members)) σ τ (put_alike k (length xs) (λ d. (r.members d).count) q r.states) (λ s t p. record { states = p; members = ap (store xs) r.members }))
      stops

  pub intern_l_free : (L : Limits) (k : ℕ) (xs : List ℕ) → Respects (TwinExprs f g) (intern_l L k xs)
  unfolding intern_l
  intern_l_free L k xs σ τ r =
      let e : nest_l σ.states.words 0 xs + 1 ≡ nest_l τ.states.words 0 xs + 1 = λ d. nest_l_same r.states.words 0 xs d + 1 in
      alike_if (ap₂ ltb (found_list r k xs) r.states.count) (alike_given r (found_list r k xs)) (alike_if (ap (ltb L.nesting) e) stops (put_l_alike k xs e r))
