-- 01, port order, step 2, sequence: the composition of two relations, by the matrix product of their entries.
use mathlib.Core.Path.{◌≡◌, refl, sym}
use mathlib.Core.Bool.{Bool, true, false, ◌||◌}
use mathlib.Core.Logic.{⊎_elim}
use Prim.Native.Nat.{ℕ, zero, suc, ◌≤◌, ◌<◌}
use native.Mathlib.Omega.{arith}
use lib.Dec.{eqb}
use Rattle.common.specs.Packets.{Relation}
use Rattle.common.specs.Outcome.{Step, return}
use Rattle.common.specs.Runs.{Table}
use Rattle.spp_steps.proofs.Exact.{Exact, exact_bind, exact_return}
use Rattle.spp_steps.specs.Model.{quad, kids, zero_at, one_at, union, apply, down, Early, done, more, finish, seq_exit, product, sequence}
use Rattle.spp_steps.specs.Relations.{part, compose}
use Rattle.spp_steps.proofs.Relations.{compose_part, compose_equal, equal_compose, compose_nothing, nothing_compose}
use Rattle.spp_steps.specs.Wf.{Wf, Ext, Denotes}
use Rattle.spp_steps.proofs.Laws.{at_low, ext_refl, ext_trans, den_ext, den_is, den_kid, den_zero, den_one, agree_path}
use Rattle.spp_steps.proofs.Make.{spp_limits, mk_exact, quad_den}
use Rattle.spp_steps.proofs.Apply.{Makes, pointwise, down_exact, apply_exact, by_if, or_cases, by_bits}

-- what an exit gives is R
abbrev pub Ends : (σ : Table) (d : ℕ) → Relation d → Early → Type 0
Ends σ d R (done h) = Denotes σ d h R
Ends σ d R more = Unit

-- a run that may end early
pub finish_exact : {N d : ℕ} {σ : Table} {R : Relation d} {c : Step Table ℕ} (z : Early) → Wf N σ → Ends σ d R z → Exact (spp_limits N) c (λ τ h. Denotes τ d h R) σ
    → Exact (spp_limits N) (finish z c) (λ τ h. Denotes τ d h R) σ
finish_exact {N} (done h) w D r = exact_return (spp_limits N) h w D
finish_exact more w D r = r

pub finish_low : {N : ℕ} {σ : Table} {R : Relation zero} (c : Step Table ℕ) (z : Early) → (h : ℕ) × (z ≡ done h) → Wf N σ → Ends σ zero R z
    → Exact (spp_limits N) (finish z c) (λ τ h. Denotes τ zero h R) σ
finish_low {N} c (done h) q w D = exact_return (spp_limits N) h w D
finish_low c more (h, q) w D = let z : ◌≡◌ {A = ℕ} 0 1 = cc in absurd (omega arith)

pub seq_exit_right : {N d a b : ℕ} {σ : Table} {R S : Relation d} → Wf N σ → d ≤ N → Denotes σ d a R → Denotes σ d b S → Ends σ d (compose R S) (seq_exit N d a b)
unfolding seq_exit
seq_exit_right {N} {d} {a} {b} {σ} {R} {S} w l X Y =
    by_if P (eqb a (zero_at N d) || eqb b (one_at N d)) (done a) _
    (λ e. den_is X (λ p q. ⊎_elim
    (λ c. rw (agree_path X (den_zero w d l) c) (sym (nothing_compose S p q)))
    (λ c. rw (agree_path Y (den_one w d l) c) (sym (compose_equal R p q)))
    (or_cases _ _ e)))
    (λ _. by_if P (eqb b (zero_at N d) || eqb a (one_at N d)) (done b) more
    (λ e. den_is Y (λ p q. ⊎_elim
    (λ c. rw (agree_path Y (den_zero w d l) c) (sym (compose_nothing R p q)))
    (λ c. rw (agree_path X (den_one w d l) c) (sym (equal_compose S p q)))
    (or_cases _ _ e)))
    (λ _. tt))
  where
    P : Early → Type 0
    P = Ends σ d (compose R S)

-- at depth 0 an exit is always taken
pub seq_exit_low : (N a b : ℕ) → a < 2 → b < 2 → (h : ℕ) × (seq_exit N zero a b ≡ done h)
unfolding seq_exit zero_at one_at
seq_exit_low N = by_bits (λ a b. (h : ℕ) × (seq_exit N zero a b ≡ done h)) (_, refl) (_, refl) (_, refl) (_, refl)

-- to go down makes the composition of the relations of one bit more
pub product_exact : (N d : ℕ) (f u : ℕ → ℕ → Step Table ℕ) → Makes N d f compose → Makes N d u (pointwise union) → Makes N (suc d) (down (product f u)) compose
unfolding product
product_exact N d f u makes adds σ a b R S w X Y = down_exact d (product f u) X.at Y.at
    (exact_bind (spp_limits N) (mul σ false false false (ext_refl σ) w) (λ τ1 a00b00 e1 w1 D1. let f1 = e1 in
    exact_bind (spp_limits N) (mul τ1 false true false f1 w1) (λ τ2 a01b10 e2 w2 D2. let f2 = ext_trans f1 e2 in
    exact_bind (spp_limits N) (mul τ2 false false true f2 w2) (λ τ3 a00b01 e3 w3 D3. let f3 = ext_trans f2 e3 in
    exact_bind (spp_limits N) (mul τ3 false true true f3 w3) (λ τ4 a01b11 e4 w4 D4. let f4 = ext_trans f3 e4 in
    exact_bind (spp_limits N) (mul τ4 true false false f4 w4) (λ τ5 a10b00 e5 w5 D5. let f5 = ext_trans f4 e5 in
    exact_bind (spp_limits N) (mul τ5 true true false f5 w5) (λ τ6 a11b10 e6 w6 D6. let f6 = ext_trans f5 e6 in
    exact_bind (spp_limits N) (mul τ6 true false true f6 w6) (λ τ7 a10b01 e7 w7 D7. let f7 = ext_trans f6 e7 in
    exact_bind (spp_limits N) (mul τ7 true true true f7 w7) (λ τ8 a11b11 e8 w8 D8.
    let g6 = ext_trans e7 e8 in let g5 = ext_trans e6 g6 in let g4 = ext_trans e5 g5 in let g3 = ext_trans e4 g4 in let g2 = ext_trans e3 g3 in let g1 = ext_trans e2 g2 in
    exact_bind (spp_limits N) (adds τ8 _ _ _ _ w8 (den_ext g1 D1) (den_ext g2 D2)) (λ τ9 x00 e9 w9 D9.
    exact_bind (spp_limits N) (adds τ9 _ _ _ _ w9 (den_ext (ext_trans g3 e9) D3) (den_ext (ext_trans g4 e9) D4)) (λ τ10 x01 e10 w10 D10. let h10 = ext_trans e9 e10 in
    exact_bind (spp_limits N) (adds τ10 _ _ _ _ w10 (den_ext (ext_trans g5 h10) D5) (den_ext (ext_trans g6 h10) D6)) (λ τ11 x10 e11 w11 D11. let h11 = ext_trans h10 e11 in
    exact_bind (spp_limits N) (adds τ11 _ _ _ _ w11 (den_ext (ext_trans e8 h11) D7) (den_ext h11 D8)) (λ τ12 x11 e12 w12 D12.
    mk_exact (quad x00 x01 x10 x11) (compose R S) w12 (at_low w d a X.at)
    (quad_den (compose R S) (sum false false (den_ext (ext_trans e10 (ext_trans e11 e12)) D9)) (sum false true (den_ext (ext_trans e11 e12) D10))
    (sum true false (den_ext e12 D11)) (sum true true D12)))))))))))))))
  where
    mul : (τ : Table) (i k j : Bool) → Ext σ τ → Wf N τ
        → Exact (spp_limits N) (f (kids σ.words a i k) (kids σ.words b k j)) (λ τ h. Denotes τ d h (compose (part R i k) (part S k j))) τ
    mul τ i k j e v = makes τ _ _ _ _ v (den_ext e (den_kid X i k)) (den_ext e (den_kid Y k j))

    sum : {τ : Table} {x : ℕ} (i j : Bool) → Denotes τ d x (pointwise union (compose (part R i false) (part S false j)) (compose (part R i true) (part S true j)))
        → Denotes τ d x (part (compose R S) i j)
    sum i j D = den_is D (λ p q. sym (compose_part R S i j p q))

pub sequence_exact : (N d : ℕ) → d ≤ N → Makes N d (sequence N d) compose
unfolding sequence
sequence_exact N zero l σ a b R S w X Y = finish_low (return 0) (seq_exit N zero a b) (seq_exit_low N a b X.at Y.at) w (seq_exit_right w l X Y)
sequence_exact N (suc d) l σ a b R S w X Y =
    finish_exact (seq_exit N (suc d) a b) w (seq_exit_right w l X Y)
    (product_exact N d (sequence N d) (apply N union d) (sequence_exact N d (omega arith)) (apply_exact N union d (omega arith)) σ a b R S w X Y)
