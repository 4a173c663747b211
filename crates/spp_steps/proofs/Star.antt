-- 01, port order, step 2, star: the reflexive and transitive closure of a relation, by blocks.
use mathlib.Core.Path.{◌≡◌, refl, sym, subst}
use mathlib.Core.Bool.{Bool, true, false, ◌||◌}
use mathlib.Core.Logic.{⊎_elim}
use Prim.Native.Nat.{ℕ, zero, suc, ◌≤◌, ◌<◌}
use native.Mathlib.Omega.{arith}
use lib.Dec.{eqb}
use Rattle.common.specs.Packets.{Relation}
use Rattle.common.specs.Outcome.{Step, return}
use Rattle.common.specs.Runs.{Table}
use Rattle.spp_steps.proofs.Exact.{Exact, exact_bind, exact_read}
use Rattle.spp_steps.specs.Model.{quad, kids, zero_at, one_at, top_at, union, apply, Early, done, more, star_exit, sequence, blocks, under, star}
use Rattle.spp_steps.specs.Relations.{part, compose}
use Rattle.spp_steps.specs.Closure.{closure, block}
use Rattle.spp_steps.proofs.Closure.{closure_nothing, closure_equal, closure_top, closure_part}
use Rattle.spp_steps.specs.Wf.{Wf, Denotes}
use Rattle.spp_steps.proofs.Laws.{at_low, ext_trans, kids_path, den_ext, den_is, den_kid, den_zero, den_one, den_top, agree_path}
use Rattle.spp_steps.proofs.Make.{spp_limits, mk_exact, quad_den}
use Rattle.spp_steps.proofs.Apply.{Makes, pointwise, apply_exact, by_if, or_cases}
use Rattle.spp_steps.proofs.Sequence.{Ends, finish_exact, finish_low, sequence_exact}

pub star_exit_right : {N d a : ℕ} {σ : Table} {R : Relation d} → Wf N σ → d ≤ N → Denotes σ d a R → Ends σ d (closure R) (star_exit N d a)
unfolding star_exit
star_exit_right {N} {d} {a} {σ} {R} w l X =
    by_if P (eqb a (zero_at N d)) (done (one_at N d)) _
    (λ e. den_is (den_one w d l) (λ p q. rw (agree_path X (den_zero w d l) e) (sym (closure_nothing p q))))
    (λ _. by_if P (eqb a (one_at N d) || eqb a (top_at N d)) (done a) more
    (λ e. den_is X (λ p q. ⊎_elim
    (λ c. rw (agree_path X (den_one w d l) c) (sym (closure_equal p q)))
    (λ c. rw (agree_path X (den_top w d l) c) (sym (closure_top p q)))
    (or_cases _ _ e)))
    (λ _. tt))
  where
    P : Early → Type 0
    P = Ends σ d (closure R)

-- at depth 0 an exit is always taken
pub star_exit_low : (N a : ℕ) → a < 2 → (h : ℕ) × (star_exit N zero a ≡ done h)
unfolding star_exit zero_at one_at top_at
star_exit_low N zero l = (_, refl)
star_exit_low N (suc zero) l = (_, refl)
star_exit_low N (suc (suc a)) l = absurd (omega arith)

-- s makes the closure of a relation of depth d
abbrev pub Closes : (N d : ℕ) → (ℕ → Step Table ℕ) → Type 0
Closes N d s = (σ : Table) (a : ℕ) (R : Relation d) → Wf N σ → Denotes σ d a R → Exact (spp_limits N) (s a) (λ τ h. Denotes τ d h (closure R)) σ

-- to go down makes the closure of the relation of one bit more
pub blocks_exact : (N d : ℕ) (s : ℕ → Step Table ℕ) (f u : ℕ → ℕ → Step Table ℕ) → Closes N d s → Makes N d f compose → Makes N d u (pointwise union)
    → Closes N (suc d) (under (blocks s f u))
unfolding blocks
blocks_exact N d s f u closes makes adds σ a R w Y =
    exact_read (spp_limits N) (λ (τ : Table). kids τ.words a) (blocks s f u) (λ τ e. kids_path e d a Y.at)
    (exact_bind (spp_limits N) (closes σ _ _ w (X true true)) (λ τ1 d* e1 w1 D1.
    exact_bind (spp_limits N) (makes τ1 _ _ _ _ w1 (den_ext e1 (X false true)) D1) (λ τ2 bd* e2 w2 D2. let f2 = ext_trans e1 e2 in
    exact_bind (spp_limits N) (makes τ2 _ _ _ _ w2 D2 (den_ext f2 (X true false))) (λ τ3 bd*c e3 w3 D3. let f3 = ext_trans f2 e3 in
    exact_bind (spp_limits N) (adds τ3 _ _ _ _ w3 (den_ext f3 (X false false)) D3) (λ τ4 a+ e4 w4 D4. let f4 = ext_trans f3 e4 in
    exact_bind (spp_limits N) (closes τ4 _ _ w4 D4) (λ τ5 x00 e5 w5 D5. let f5 = ext_trans f4 e5 in let g5 = ext_trans e3 (ext_trans e4 e5) in
    exact_bind (spp_limits N) (makes τ5 _ _ _ _ w5 D5 (den_ext g5 D2)) (λ τ6 x01 e6 w6 D6. let f6 = ext_trans f5 e6 in
    exact_bind (spp_limits N) (makes τ6 _ _ _ _ w6 (den_ext f6 (X true false)) (den_ext e6 D5)) (λ τ7 cx00 e7 w7 D7. let g7 = ext_trans g5 (ext_trans e6 e7) in
    exact_bind (spp_limits N) (makes τ7 _ _ _ _ w7 (den_ext (ext_trans e2 g7) D1) D7) (λ τ8 x10 e8 w8 D8. let g8 = ext_trans g7 e8 in
    exact_bind (spp_limits N) (makes τ8 _ _ _ _ w8 D8 (den_ext g8 D2)) (λ τ9 x10bd* e9 w9 D9. let g9 = ext_trans g8 e9 in
    exact_bind (spp_limits N) (adds τ9 _ _ _ _ w9 (den_ext (ext_trans e2 g9) D1) D9) (λ τ10 x11 e10 w10 D10.
    let h9 = ext_trans e9 e10 in let h7 = ext_trans e7 (ext_trans e8 h9) in
    mk_exact (quad x00 x01 x10 x11) (closure R) w10 (at_low w d a Y.at)
    (quad_den (closure R) (entry false false (den_ext (ext_trans e6 h7) D5)) (entry false true (den_ext h7 D6)) (entry true false (den_ext h9 D8)) (entry true true D10)))))))))))))
  where
    X : (i j : Bool) → Denotes σ d (kids σ.words a i j) (part R i j)
    X = den_kid Y

    entry : {τ : Table} {x : ℕ} (i j : Bool) → Denotes τ d x (block closure R i j) → Denotes τ d x (part (closure R) i j)
    entry {τ} {x} i j D = subst (Denotes τ d x) (sym (closure_part R i j)) D

pub star_exact : (N d : ℕ) → d ≤ N → Closes N d (star N d)
unfolding star
star_exact N zero l σ a R w X = finish_low (return 0) (star_exit N zero a) (star_exit_low N a X.at) w (star_exit_right w l X)
star_exact N (suc d) l σ a R w X =
    finish_exact (star_exit N (suc d) a) w (star_exit_right w l X)
    (blocks_exact N d (star N d) (sequence N d) (apply N union d) (star_exact N d (omega arith)) (sequence_exact N d (omega arith)) (apply_exact N union d (omega arith)) σ a R w X)
