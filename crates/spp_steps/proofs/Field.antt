-- 01, `test f v` and `set f v`: the relation from a packet to itself if its bit f is v, and to the packet with its bit f set to v.
use mathlib.Core.Path.{sym}
use mathlib.Core.Bool.{Bool, true, false, and-false}
use Prim.Native.Nat.{ℕ, zero, suc, ◌≤◌, ◌<◌}
use native.Mathlib.Omega.{arith}
use Rattle.common.specs.Packets.{Relation}
use Rattle.common.specs.Runs.{Table}
use Rattle.spp_steps.proofs.Exact.{Exact, exact_bind}
use Rattle.spp_steps.specs.Model.{Quad, quad, zero_at, one_at, field, test_entry, assign_entry, test, assign}
use Rattle.common.specs.Relations.{same as samePacket}
use Rattle.spp_steps.specs.Relations.{part, equal, bit_at, set_bit, alike, testing, assigning}
use Rattle.spp_steps.specs.Wf.{Wf, Denotes}
use Rattle.spp_steps.proofs.Laws.{den_is, den_zero, den_one}
use Rattle.spp_steps.proofs.Make.{spp_limits, mk_exact}

-- The diagrams of one field, for any entry: G d f is what is meant at depth d.
module _ (N : ℕ) (entry : ℕ → ℕ → Quad) (G : (d : ℕ) → ℕ → Relation d)
    (here : (d : ℕ) (σ : Table) (x z : ℕ) → Denotes σ d x equal → Denotes σ d z (λ p q. false) → (i j : Bool) → Denotes σ d (entry x z i j) (part (G (suc d) zero) i j))
    (above : (d f : ℕ) (σ : Table) (x z : ℕ) → Denotes σ d x (G d f) → Denotes σ d z (λ p q. false) → (i j : Bool) → Denotes σ d (quad x z z x i j) (part (G (suc d) (suc f)) i j)) where
  field_exact : (d f : ℕ) → d ≤ N → f < d → (σ : Table) → Wf N σ → Exact (spp_limits N) (field N entry d f) (λ τ h. Denotes τ d h (G d f)) σ
  unfolding field
  field_exact zero f l m σ w = absurd (omega arith)
  field_exact (suc d) zero l m σ w =
      mk_exact (entry (one_at N d) (zero_at N d)) (G (suc d) zero) w l (here d σ (one_at N d) (zero_at N d) (den_one w d (omega arith)) (den_zero w d (omega arith)))
  field_exact (suc d) (suc f) l m σ w =
      exact_bind (spp_limits N) (field_exact d f (omega arith) (omega arith) σ w) (λ τ x e v D.
      mk_exact (quad x (zero_at N d) (zero_at N d) x) (G (suc d) (suc f)) v l (above d f τ x (zero_at N d) D (den_zero v d (omega arith))))

-- ---- the entries

test_here : (v : Bool) (d : ℕ) (σ : Table) (x z : ℕ) → Denotes σ d x equal → Denotes σ d z (λ p q. false) → (i j : Bool) → Denotes σ d (test_entry v x z i j) (part (testing zero v) i j)
unfolding testing samePacket bit_at
test_here false d σ x z X Z false false = X
test_here false d σ x z X Z false true = Z
test_here false d σ x z X Z true false = Z
test_here false d σ x z X Z true true = Z
test_here true d σ x z X Z false false = Z
test_here true d σ x z X Z false true = Z
test_here true d σ x z X Z true false = Z
test_here true d σ x z X Z true true = X

test_above : (v : Bool) (d f : ℕ) (σ : Table) (x z : ℕ) → Denotes σ d x (testing f v) → Denotes σ d z (λ p q. false) → (i j : Bool)
    → Denotes σ d (quad x z z x i j) (part (testing (suc f) v) i j)
unfolding testing samePacket bit_at
test_above v d f σ x z X Z false false = X
test_above v d f σ x z X Z false true = den_is Z (λ p q. sym (and-false (alike v (bit_at f p))))
test_above v d f σ x z X Z true false = den_is Z (λ p q. sym (and-false (alike v (bit_at f p))))
test_above v d f σ x z X Z true true = X

assign_here : (v : Bool) (d : ℕ) (σ : Table) (x z : ℕ) → Denotes σ d x equal → Denotes σ d z (λ p q. false) → (i j : Bool) → Denotes σ d (assign_entry v x z i j) (part (assigning zero v) i j)
unfolding assigning samePacket set_bit
assign_here false d σ x z X Z false false = X
assign_here false d σ x z X Z false true = Z
assign_here false d σ x z X Z true false = X
assign_here false d σ x z X Z true true = Z
assign_here true d σ x z X Z false false = Z
assign_here true d σ x z X Z false true = X
assign_here true d σ x z X Z true false = Z
assign_here true d σ x z X Z true true = X

assign_above : (v : Bool) (d f : ℕ) (σ : Table) (x z : ℕ) → Denotes σ d x (assigning f v) → Denotes σ d z (λ p q. false) → (i j : Bool)
    → Denotes σ d (quad x z z x i j) (part (assigning (suc f) v) i j)
unfolding assigning samePacket set_bit
assign_above v d f σ x z X Z false false = X
assign_above v d f σ x z X Z false true = Z
assign_above v d f σ x z X Z true false = Z
assign_above v d f σ x z X Z true true = X

-- ---- the two laws

module _ (N : ℕ) (v : Bool) where
  pub test_exact : (d f : ℕ) → d ≤ N → f < d → (σ : Table) → Wf N σ → Exact (spp_limits N) (test N d f v) (λ τ h. Denotes τ d h (testing f v)) σ
  unfolding test
  test_exact = field_exact N (test_entry v) (λ d f. testing f v) (test_here v) (test_above v)

  pub assign_exact : (d f : ℕ) → d ≤ N → f < d → (σ : Table) → Wf N σ → Exact (spp_limits N) (assign N d f v) (λ τ h. Denotes τ d h (assigning f v)) σ
  unfolding assign
  assign_exact = field_exact N (assign_entry v) (λ d f. assigning f v) (assign_here v) (assign_above v)
