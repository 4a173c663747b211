-- One turn of `apply`: an exit, a result from the cache, or four calls and a node.
use mathlib.Core.Path.{◌≡◌, refl, sym, ◌∙◌, ap, ap₂, subst}
use mathlib.Core.Bool.{true, false}
use mathlib.Core.List.{List, [], ◌∷◌}
use Prim.Native.Nat.{ℕ, zero, suc, ◌+◌, ◌*◌, ◌-◌, ◌≤◌, ◌<◌}
use native.Mathlib.Omega.{arith}
use lib.ListN.{length}
use Rattle.common.specs.Outcome.{given, Step, return}
use Rattle.common.proofs.Follow.{given_of}
use Rattle.common.specs.Runs.{Table, StableResult}
use Rattle.cache.specs.Cache.{OnlyCodes, WritesValid, Holds, Exactly}
use Rattle.cache.proofs.Stage as stage
use Rattle.cache.proofs.Stage.{Stage}
use Rattle.spp_steps.specs.Model.{Op, Exit, out, on, Quad, quad, kids, mem, mk, exit, follow, down, each, apply}
use Rattle.spp_steps.specs.Wf.{ValidAt, Denotes}
use Rattle.spp_steps.proofs.Laws.{spp_theory, at_ext, den_mem}
use Rattle.spp_steps.proofs.Apply.{Leads, Going, pointwise, exit_right, exit_low, apply_exact}
use Rattle.spp.specs.Reuse.{Kept, code_of}
use Rattle.spp.proofs.Reuse.{spp_memo, run_code, reused, to_note}
use denote.Enum.Declared.{tag_of}
use Rattle.spp.specs.contracts.Op.{the_type}
use Rattle.spp.specs.declared.Op as Own
use Rattle.spp.specs.declared.Op.TheVariants.{Union, Intersect, Xor, Difference, Not}
use Rattle.spp.specs.declared.SPPstore.{SPPstore}
use Rattle.spp.specs.Clauses.{op_of, store_of, Asked}
use Rattle.spp.proofs.Calls.{inside, at_kids, apply_can}
use Rattle.spp.proofs.Quartet.{Quartet}

pub apply_out : (N : ℕ) (o : Op) (D a b h : ℕ) (σ : Table) → exit N o D a b ≡ out h → apply N o D a b σ ≡ given σ h
unfolding apply
apply_out N o zero a b h σ e = ap (λ (z : Exit). follow z (λ o x y. return 0) σ) e
apply_out N o (suc d) a b h σ e = ap (λ (z : Exit). follow z (λ o. down (each (apply N o d))) σ) e

apply_on : (N : ℕ) (o : Op) (d a b : ℕ) (u : Op) (x y : ℕ) (σ : Table) → exit N o (suc d) a b ≡ on u x y → apply N o (suc d) a b σ ≡ down (each (apply N u d)) x y σ
unfolding apply
apply_on N o d a b u x y σ e = ap (λ (z : Exit). follow z (λ o. down (each (apply N o d))) σ) e

code_low : (o : Op) → 3 ≤ code_of o
code_low Op.union = omega arith
code_low Op.intersect = omega arith
code_low Op.xor = omega arith
code_low Op.difference = omega arith
code_low Op.not = omega arith

code_high : (o : Op) → code_of o ≤ 9
code_high Op.union = omega arith
code_high Op.intersect = omega arith
code_high Op.xor = omega arith
code_high Op.difference = omega arith
code_high Op.not = omega arith

-- an operation of the code is its code in the cache
pub coded : (o : Own.Op) → tag_of the_type o + 3 ≡ code_of (op_of o)
coded Union = refl
coded Intersect = refl
coded Xor = refl
coded Difference = refl
coded Not = refl

out≢on : {h : ℕ} {u : Op} {x y : ℕ} → out h ≡ on u x y → ⊥
out≢on e = let z : ◌≡◌ {A = ℕ} 0 1 = cc in omega arith

-- no exit: it goes down, with u on x and y
pub record Down (s : SPPstore) (o : Op) (D a b : ℕ) (m : List ℕ) (u : Op) (x y : ℕ) : Type 0 where
  asked : Asked s.fields D (store_of s) m (a ∷ b ∷ [])
  go_on : exit s.fields o D a b ≡ on u x y

pub goes_down : (s : SPPstore) (o : Op) {D a b : ℕ} {m : List ℕ} {u : Op} {x y : ℕ} → Asked s.fields D (store_of s) m (a ∷ b ∷ []) → exit s.fields o D a b ≡ on u x y → Down s o D a b m u x y
goes_down s o r e = record { asked = r; go_on = e }

module _ {s : SPPstore} {o : Op} {D a b : ℕ} {m : List ℕ} {u : Op} {x y : ℕ} (G : Down s o D a b m u x y) where
  abbrev N : ℕ
  N = s.fields

  abbrev σ : Table
  σ = store_of s

  going : Going σ D (pointwise o (mem σ.words D a) (mem σ.words D b)) u x y
  going = subst (Leads σ D (pointwise o (mem σ.words D a) (mem σ.words D b))) G.go_on (exit_right G.asked.wf G.asked.deep (den_mem G.asked.at.0) (den_mem G.asked.at.1.0) o)

  low : (D : ℕ) → ValidAt σ D a → ValidAt σ D b → exit N o D a b ≡ on u x y → D ≡ suc (D - 1)
  low zero p q e = let w = exit_low N o a b p q in absurd (out≢on (sym w.1 ∙ e))
  low (suc d) p q e = omega arith

  -- at depth 0 there is an exit
  pub above : D ≡ suc (D - 1)
  above = low D G.asked.at.0 G.asked.at.1.0 G.go_on

  pub falls : {t : ℕ} → D ≡ t → D - 1 < t
  falls e = omega (arith, above)

  pub lower : D - 1 < N
  lower = omega (arith, above, G.asked.deep)

  at_x : ValidAt σ (suc (D - 1)) x
  at_x = subst (λ (k : ℕ). ValidAt σ k x) above going.den_x.at

  at_y : ValidAt σ (suc (D - 1)) y
  at_y = subst (λ (k : ℕ). ValidAt σ k y) above going.den_y.at

  is_down : (τ : Table) → apply N o D a b τ ≡ down (each (apply N u (D - 1))) x y τ
  is_down τ = ap (λ (k : ℕ). apply N o k a b τ) above ∙ apply_on N o (D - 1) a b u x y τ (ap (λ (k : ℕ). exit N o k a b) (sym above) ∙ G.go_on)

  pub in_x : (2 ≤ x) × (4 * x ≤ length σ.words + 4)
  in_x = inside (D - 1) x G.asked.wf at_x

  pub in_y : (2 ≤ y) × (4 * y ≤ length σ.words + 4)
  in_y = inside (D - 1) y G.asked.wf at_y

  pub hit : {code h : ℕ} → code ≡ code_of u → Holds m code x y h → apply N o D a b σ ≡ given σ h
  hit {h} e found =
      is_down σ ∙ ap (λ (c : Step Table ℕ). c σ) (sym (run_code N u (D - 1) x y))
      ∙ reused (D - 1) G.asked.wf at_x (code_low u) (code_high u) G.asked.sound (subst (λ (k : ℕ). Holds m k x y h) e found)

  module _ {A B : Quad} (A-is : A ≡ kids σ.words x) (B-is : B ≡ kids σ.words y) where
    pub calls : Quartet s (D - 1) (λ N. apply N u (D - 1)) (λ h1 h2 h3 h4. mk (quad h1 h2 h3 h4)) (apply N o D a b σ) m
        (A false false) (B false false) (A false true) (B false true) (A true false) (B true false) (A true true) (B true true)
    unfolding each
    calls =
        let p = at_kids σ (D - 1) x A A-is at_x in
        let q = at_kids σ (D - 1) y B B-is at_y in
        record {
          can = apply_can N (D - 1) (omega (arith, G.asked.deep)) u;
          asked = record {
            few = G.asked.few;
            deep = omega (arith, G.asked.deep);
            wf = G.asked.wf;
            at = (p false false, (q false false, (p false true, (q false true, (p true false, (q true false, (p true true, (q true true, tt))))))));
            sound = G.asked.sound;
          };
          is = is_down σ ∙ ap₂ (λ (A B : Quad). each (apply N u (D - 1)) A B σ) (sym A-is) (sym B-is);
        }

  -- what was made may be noted
  pub noted : {code h : ℕ} {τ : Table} {m4 m5 : List ℕ} → code ≡ code_of u → Stage (spp_memo N) (apply N o D a b σ) (given τ h) σ τ m m4
      → WritesValid (Exactly code x y h) m4 m5 → WritesValid (OnlyCodes 3 9 (Kept N τ)) m m5
  noted {h} {τ} {m4} {m5} e s k = stage.noted (spp_memo N) s (subst (λ (k : ℕ). WritesValid (Exactly k x y h) m4 m5) e k) noting
    where
      whole : StableResult (spp_theory N) (apply N o D a b) (λ τ h. Denotes τ D h (pointwise o (mem σ.words D a) (mem σ.words D b))) σ τ h
      whole = given_of (apply_exact N o D G.asked.deep σ a b _ _ G.asked.wf (den_mem G.asked.at.0) (den_mem G.asked.at.1.0)).runs s.left

      noting : OnlyCodes 3 9 (Kept N τ) (code_of u) x y h
      noting = to_note (D - 1) (code_low u) (code_high u) (at_ext whole.ext (suc (D - 1)) x at_x)
          (λ τ e w. ap (λ (c : Step Table ℕ). c τ) (run_code N u (D - 1) x y) ∙ sym (is_down τ) ∙ whole.stable τ e w)
