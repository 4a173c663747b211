-- Each part can be called in every store where its operands are handles; and what it gives are handles.
use mathlib.Core.Path.{◌≡◌, sym, ◌∙◌, ap, subst}
use mathlib.Core.Bool.{Bool, true, false}
use mathlib.Core.List.{List}
use Prim.Native.Nat.{ℕ, zero, suc, ◌-◌, ◌≤◌, ◌<◌}
use native.Mathlib.Omega.{arith}
use Rattle.std.specs.Prelude.{Result, Ok, Err, IsErr}
use Rattle.common.specs.Outcome.{refused, given, Step, return}
use Rattle.common.specs.Runs.{Table}
use Rattle.common.proofs.Runs.{StableSpec, runs_map, runs_bind, runs_return}
use Rattle.cache.proofs.Stage.{Can}
use Rattle.spp_steps.specs.Model.{union, Early, done, more, Quad, quad, apply, seq_exit, finish, down, under, product, sequence, star_exit, blocks, star}
use Rattle.spp_steps.specs.Wf.{Wf, Ext, ValidAt}
use Rattle.spp_steps.proofs.Laws.{spp_theory, ext_refl, ext_trans, at_ext, den_mem, false_true}
use Rattle.spp_steps.proofs.Sequence.{seq_exit_low, sequence_exact}
use Rattle.spp_steps.proofs.Star.{star_exit_low, star_exact}
use Rattle.spp.proofs.Reuse.{spp_memo}
use Rattle.spp.specs.declared.SPP.{SPP}
use Rattle.spp.specs.declared.SPPnode.{SPPnode}
use Rattle.spp.specs.declared.Full.{Full}
use Rattle.spp.specs.Clauses.{Answer}
use Rattle.spp.proofs.Calls.{apply_can, mk_can, quad_at}
use Rattle.spp_sequence.specs.Parts.{row, sums, Pair, through, around}
use Rattle.spp_sequence.specs.Clauses.{seen_row, seen_two, NodeAsked}

-- ---- exits

done≢more : {h : ℕ} → done h ≡ more → ⊥
done≢more e = let z : ◌≡◌ {A = ℕ} 0 1 = cc in omega arith

-- at depth 0 there is an exit
pub seq_above : (N D a b : ℕ) (σ : Table) → ValidAt σ D a → ValidAt σ D b → seq_exit N D a b ≡ more → D ≡ suc (D - 1)
seq_above N zero a b σ p q e = let w = seq_exit_low N a b p q in absurd (done≢more (sym w.1 ∙ e))
seq_above N (suc d) a b σ p q e = omega arith

pub star_above : (N D x : ℕ) (σ : Table) → ValidAt σ D x → star_exit N D x ≡ more → D ≡ suc (D - 1)
star_above N zero x σ p e = let w = star_exit_low N x p in absurd (done≢more (sym w.1 ∙ e))
star_above N (suc d) x σ p e = omega arith

pub sequence_done : (N D a b h : ℕ) (σ : Table) → seq_exit N D a b ≡ done h → sequence N D a b σ ≡ given σ h
unfolding sequence
sequence_done N zero a b h σ e = ap (λ (z : Early). finish z (return 0) σ) e
sequence_done N (suc d) a b h σ e = ap (λ (z : Early). finish z (down (product (sequence N d) (apply N union d)) a b) σ) e

pub sequence_more : (N d a b : ℕ) (σ : Table) → seq_exit N (suc d) a b ≡ more → sequence N (suc d) a b σ ≡ down (product (sequence N d) (apply N union d)) a b σ
unfolding sequence
sequence_more N d a b σ e = ap (λ (z : Early). finish z (down (product (sequence N d) (apply N union d)) a b) σ) e

pub star_done : (N D x h : ℕ) (σ : Table) → star_exit N D x ≡ done h → star N D x σ ≡ given σ h
unfolding star
star_done N zero x h σ e = ap (λ (z : Early). finish z (return 0) σ) e
star_done N (suc d) x h σ e = ap (λ (z : Early). finish z (under (blocks (star N d) (sequence N d) (apply N union d)) x) σ) e

pub star_more : (N d x : ℕ) (σ : Table) → star_exit N (suc d) x ≡ more → star N (suc d) x σ ≡ under (blocks (star N d) (sequence N d) (apply N union d)) x σ
unfolding star
star_more N d x σ e = ap (λ (z : Early). finish z (under (blocks (star N d) (sequence N d) (apply N union d)) x) σ) e

-- ---- calls

module _ (N d : ℕ) (deep : d ≤ N) {σ : Table} where
  pub sequence_can : (a b : ℕ) → ValidAt σ d a → ValidAt σ d b → Can (spp_memo N) (λ τ h. ValidAt τ d h) σ (sequence N d a b)
  sequence_can a b x y τ e w =
      runs_map (spp_theory N) (λ υ h _ _ D. D.at) (sequence_exact N d deep τ a b _ _ w (den_mem (at_ext e d a x)) (den_mem (at_ext e d b y))).runs

  pub star_can : (a : ℕ) → ValidAt σ d a → Can (spp_memo N) (λ τ h. ValidAt τ d h) σ (star N d a)
  star_can a x τ e w = runs_map (spp_theory N) (λ υ h _ _ D. D.at) (star_exact N d deep τ a _ w (den_mem (at_ext e d a x))).runs

  pub row_can : (p0 p1 : ℕ) (B : Quad) → ValidAt σ d p0 → ValidAt σ d p1 → ((i j : Bool) → ValidAt σ d (B i j)) → (τ : Table) → Ext σ τ → Wf N τ
      → StableSpec (spp_theory N) (row (sequence N d) p0 p1 B) (λ τ X. (i j : Bool) → ValidAt τ d (X i j)) τ
  unfolding row
  row_can p0 p1 B x0 x1 y τ e w =
      runs_bind (spp_theory N) (sequence_can p0 (B false false) x0 (y false false) τ e w) (λ τ1 a e1 w1 A1.
      runs_bind (spp_theory N) (sequence_can p1 (B true false) x1 (y true false) τ1 (ext_trans e e1) w1) (λ τ2 b e2 w2 A2.
      let f2 = ext_trans e (ext_trans e1 e2) in
      runs_bind (spp_theory N) (sequence_can p0 (B false true) x0 (y false true) τ2 f2 w2) (λ τ3 c e3 w3 A3.
      runs_bind (spp_theory N) (sequence_can p1 (B true true) x1 (y true true) τ3 (ext_trans f2 e3) w3) (λ τ4 h e4 w4 A4.
      runs_return (spp_theory N) (quad a b c h) w4
      (quad_at τ4 d a b c h (at_ext (ext_trans e2 (ext_trans e3 e4)) d a A1) (at_ext (ext_trans e3 e4) d b A2) (at_ext e4 d c A3) A4)))))

  pub sums_can : (R S : Quad) → ((i j : Bool) → ValidAt σ d (R i j)) → ((i j : Bool) → ValidAt σ d (S i j)) → d < N → Can (spp_memo N) (λ τ h. ValidAt τ (suc d) h) σ (sums (apply N union d) R S)
  unfolding sums
  sums_can R S x y l τ e w =
      runs_bind (spp_theory N) (apply_can N d deep union _ _ (x false false) (x false true) τ e w) (λ τ1 a e1 w1 A1.
      runs_bind (spp_theory N) (apply_can N d deep union _ _ (x true false) (x true true) τ1 (ext_trans e e1) w1) (λ τ2 b e2 w2 A2.
      let f2 = ext_trans e (ext_trans e1 e2) in
      runs_bind (spp_theory N) (apply_can N d deep union _ _ (y false false) (y false true) τ2 f2 w2) (λ τ3 c e3 w3 A3.
      runs_bind (spp_theory N) (apply_can N d deep union _ _ (y true false) (y true true) τ3 (ext_trans f2 e3) w3) (λ τ4 h e4 w4 A4.
      mk_can d (quad a b c h) l w4
      (quad_at τ4 d a b c h (at_ext (ext_trans e2 (ext_trans e3 e4)) d a A1) (at_ext (ext_trans e3 e4) d b A2) (at_ext e4 d c A3) A4)))))

module _ (N d : ℕ) (deep : d ≤ N) where
  pub through_can : (τ : Table) (X : Quad) (v : ℕ) → ((i j : Bool) → ValidAt τ d (X i j)) → ValidAt τ d v → Wf N τ
      → StableSpec (spp_theory N) (through (sequence N d) (apply N union d) X v) (λ τ p. ValidAt τ d p.first × ValidAt τ d p.second) τ
  unfolding through
  through_can τ X v x y w =
      runs_bind (spp_theory N) (sequence_can N d deep (X false true) v (x false true) y τ (ext_refl τ) w) (λ τ1 a e1 w1 A1.
      runs_bind (spp_theory N) (sequence_can N d deep a (X true false) A1 (at_ext e1 d _ (x true false)) τ1 (ext_refl τ1) w1) (λ τ2 b e2 w2 A2.
      runs_bind (spp_theory N) (apply_can N d deep union (X false false) b (at_ext (ext_trans e1 e2) d _ (x false false)) A2 τ2 (ext_refl τ2) w2) (λ τ3 c e3 w3 A3.
      runs_return (spp_theory N) (record { first = a; second = c }) w3 (at_ext (ext_trans e2 e3) d a A1, A3))))

  pub around_can : (τ : Table) (c v q x : ℕ) → ValidAt τ d c → ValidAt τ d v → ValidAt τ d q → ValidAt τ d x → d < N → Wf N τ
      → StableSpec (spp_theory N) (around (sequence N d) (apply N union d) c v q x) (λ τ h. ValidAt τ (suc d) h) τ
  unfolding around
  around_can τ c v q x Ac Av Aq Ax l w =
      runs_bind (spp_theory N) (sequence_can N d deep x q Ax Aq τ (ext_refl τ) w) (λ τ1 x01 e1 w1 A1.
      runs_bind (spp_theory N) (sequence_can N d deep c x (at_ext e1 d c Ac) (at_ext e1 d x Ax) τ1 (ext_refl τ1) w1) (λ τ2 cx e2 w2 A2.
      let f2 = ext_trans e1 e2 in
      runs_bind (spp_theory N) (sequence_can N d deep v cx (at_ext f2 d v Av) A2 τ2 (ext_refl τ2) w2) (λ τ3 x10 e3 w3 A3.
      let f3 = ext_trans f2 e3 in
      runs_bind (spp_theory N) (sequence_can N d deep x10 q A3 (at_ext f3 d q Aq) τ3 (ext_refl τ3) w3) (λ τ4 xq e4 w4 A4.
      let f4 = ext_trans f3 e4 in
      runs_bind (spp_theory N) (apply_can N d deep union v xq (at_ext f4 d v Av) A4 τ4 (ext_refl τ4) w4) (λ τ5 x11 e5 w5 A5.
      mk_can d (quad x x01 x10 x11) l w5
      (quad_at τ5 d x x01 x10 x11 (at_ext (ext_trans f4 e5) d x Ax) (at_ext (ext_trans e2 (ext_trans e3 (ext_trans e4 e5))) d x01 A1) (at_ext (ext_trans e4 e5) d x10 A3) A5))))))

pub node_asked_for : {N N' d : ℕ} {σ : Table} {m hs : List ℕ} → N' ≡ N → NodeAsked N d σ m hs → NodeAsked N' d σ m hs
node_asked_for {d} {σ} {m} {hs} e q = subst (λ (N : ℕ). NodeAsked N d σ m hs) (sym e) q

-- a refusal is handed on
module _ {N : ℕ} {σ τ : Table} {m m' : List ℕ} where
  pub row_stopped : {c : Step Table Quad} {r : Result SPPnode Full} → IsErr r → c σ ≡ refused 21 → Answer N seen_row c σ m r τ m'
  row_stopped {r = Ok x} p e = absurd (false_true p)
  row_stopped {r = Err x} p e = record { gives = e; notes = tt }

  pub through_stopped : {c : Step Table Pair} {r : Result (SPP × SPP) Full} → IsErr r → c σ ≡ refused 21 → Answer N seen_two c σ m r τ m'
  through_stopped {r = Ok x} p e = absurd (false_true p)
  through_stopped {r = Err x} p e = record { gives = e; notes = tt }
