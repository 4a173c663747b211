-- What a call gives, in the words of `Stage`; and that an operation can be called in every store where its operands are handles.
use mathlib.Core.Path.{◌≡◌, refl, sym, ◌∙◌, subst}
use mathlib.Core.Bool.{Bool, true, false}
use mathlib.Core.List.{List, [], ◌∷◌}
use Prim.Native.Nat.{ℕ, suc, ◌+◌, ◌*◌, ◌≤◌, ◌<◌}
use native.Mathlib.Omega.{arith}
use lib.ListN.{length}
use Rattle.slices.proofs.Same.{slice_trans}
use Rattle.common.specs.Packets.{bit, Relation}
use Rattle.common.specs.Outcome.{Outcome, refused, given, Step}
use Rattle.common.specs.Runs.{Table}
use Rattle.common.proofs.Runs.{StableSpec, runs_map}
use Rattle.cache.proofs.Stage.{Gave}
use Rattle.cache.proofs.Cache.{notes_refl}
use Rattle.spp_steps.specs.Model.{Op, Quad, quad, kids, mem, mk, apply}
use Rattle.spp_steps.specs.Wf.{Wf, Ext, ValidAt}
use Rattle.spp_steps.proofs.Laws.{spp_theory, at_ext, den_mem, false_true}
use Rattle.spp_steps.proofs.Make.{mk_exact}
use Rattle.spp_steps.proofs.Apply.{apply_exact}
use Rattle.spp.proofs.Reuse.{spp_memo}
use Rattle.spp.specs.Clauses.{store_of, seen, SameStore, Asked, Noted, Answer, AllValidAt, Fits}
use Rattle.std.specs.Prelude.{Result, Ok, Err, IsErr}
use Rattle.spp.specs.declared.SPP.{SPP}
use Rattle.spp.specs.declared.Full.{Full}
use Rattle.spp.specs.declared.SPPstore.{SPPstore}

module _ {R A : Type 0} {see : R → Table → Outcome Table A} {N : ℕ} {c : Step Table A} {σ τ : Table} {m m' : List ℕ} {r : R} (z : Answer N see c σ m r τ m') where
  pub gave_of : {υ : Table} {a : A} → see r τ ≡ given υ a → Gave (spp_memo N) c σ m υ m' a
  gave_of e = record { is = z.gives ∙ e; notes = subst (λ (o : Outcome Table A). Noted N m o m') e z.notes }

  pub lost_of : see r τ ≡ refused 21 → c σ ≡ refused 21
  lost_of e = z.gives ∙ e

module _ {N : ℕ} {c : Step Table ℕ} {σ τ : Table} {m m' : List ℕ} where
  pub gave : {h : SPP} → Answer N seen c σ m (Ok h) τ m' → Gave (spp_memo N) c σ m τ m' h.0
  gave z = gave_of z refl

  pub lost : {e : Full} → Answer N seen c σ m (Err e) τ m' → c σ ≡ refused 21
  lost z = lost_of z refl

-- one store after two calls
pub same_trans : {s t u : SPPstore} → SameStore s t → SameStore t u → SameStore s u
same_trans p q = record { nodes = slice_trans p.nodes q.nodes; fields = q.fields ∙ p.fields }

-- a refusal is handed on
pub refused_on : (r : Result SPP Full) (τ : Table) {o : Outcome Table ℕ} → IsErr r → o ≡ refused 21 → o ≡ seen r τ
refused_on (Ok h) τ p e = absurd (false_true p)
refused_on (Err x) τ p e = e

pub stopped : {N : ℕ} {c : Step Table ℕ} {σ τ : Table} {m m' : List ℕ} {r : Result SPP Full} → IsErr r → c σ ≡ refused 21 → Answer N seen c σ m r τ m'
stopped {r = Ok h} p e = absurd (false_true p)
stopped {r = Err x} p e = record { gives = e; notes = tt }

-- what a call asks and what it comes to, where its store is for as many fields
pub asked_for : {N N' d : ℕ} {σ : Table} {m hs : List ℕ} → N' ≡ N → Asked N d σ m hs → Asked N' d σ m hs
asked_for {d} {σ} {m} {hs} e q = subst (λ (N : ℕ). Asked N d σ m hs) (sym e) q

pub answer_for : {R A : Type 0} {see : R → Table → Outcome Table A} {N N' : ℕ} {σ τ : Table} {m m' : List ℕ} {r : R} (c : ℕ → Step Table A)
    → N' ≡ N → Answer N' see (c N') σ m r τ m' → Answer N see (c N) σ m r τ m'
answer_for {see} {σ} {τ} {m} {m'} {r} c e z = subst (λ (N : ℕ). Answer N see (c N) σ m r τ m') e z

-- what a call gave, or not, on a store t for as many fields as s; f is told how many
module _ {R A : Type 0} {see : R → Table → Outcome Table A} {s t : SPPstore} (f : ℕ → Step Table A) {τ : Table} {m m' : List ℕ} {r : R}
    (p : SameStore s t) (z : Answer t.fields see (f t.fields) (store_of t) m r τ m') where
  pub gave_on : {υ : Table} {a : A} → see r τ ≡ given υ a → Gave (spp_memo s.fields) (f s.fields) (store_of t) m υ m' a
  gave_on e = gave_of (answer_for f p.fields z) e

  pub lost_on : see r τ ≡ refused 21 → f s.fields (store_of t) ≡ refused 21
  lost_on e = lost_of (answer_for f p.fields z) e

-- a call that has no cache
pub gave_alone : {N : ℕ} {c : Step Table ℕ} {σ σ1 : Table} {m : List ℕ} {h : ℕ} → c σ ≡ given σ1 h → Gave (spp_memo N) c σ m σ1 m h
gave_alone e = record { is = e; notes = notes_refl }

pub ats_ext : {σ τ : Table} (d : ℕ) (hs : List ℕ) → Ext σ τ → AllValidAt σ d hs → AllValidAt τ d hs
ats_ext d [] e a = tt
ats_ext d (h ∷ hs) e a = (at_ext e d h a.0, ats_ext d hs e a.1)

pub fits : {N : ℕ} {σ : Table} → Wf N σ → Fits σ.words σ.count
fits w = record { fits = w.nodes.fits; small = w.nodes.small; rising = w.nodes.rising }

-- where the children of a handle are
pub inside : {N : ℕ} {σ : Table} (d h : ℕ) → Wf N σ → ValidAt σ (suc d) h → (2 ≤ h) × (4 * h ≤ length σ.words + 4)
inside d h w a = (a.0, omega (arith, a.1, w.nodes.fits))

pub at_kids : (σ : Table) (d h : ℕ) (A : Quad) → A ≡ kids σ.words h → ValidAt σ (suc d) h → (i j : Bool) → ValidAt σ d (A i j)
at_kids σ d h A e a i j = subst (λ (X : Quad). ValidAt σ d (X i j)) (sym e) (a.2 i j)

module _ (N d : ℕ) (deep : d ≤ N) {σ : Table} where
  pub apply_can : (o : Op) (a b : ℕ) → ValidAt σ d a → ValidAt σ d b → (τ : Table) → Ext σ τ → Wf N τ → StableSpec (spp_theory N) (apply N o d a b) (λ τ h. ValidAt τ d h) τ
  apply_can o a b x y τ e w =
      runs_map (spp_theory N) (λ υ h _ _ D. D.at) (apply_exact N o d deep τ a b _ _ w (den_mem (at_ext e d a x)) (den_mem (at_ext e d b y))).runs

-- the relation of four
joined : List ℕ → (d : ℕ) → Quad → Relation (suc d)
joined t d X (bit i p) (bit j q) = mem t d (X i j) p q

pub mk_can : {N : ℕ} {σ : Table} (d : ℕ) (X : Quad) → d < N → Wf N σ → ((i j : Bool) → ValidAt σ d (X i j)) → StableSpec (spp_theory N) (mk X) (λ τ h. ValidAt τ (suc d) h) σ
unfolding joined
mk_can {N} {σ} d X l w a = runs_map (spp_theory N) (λ υ h _ _ D. D.at) (mk_exact X (joined σ.words d X) w l (λ i j. den_mem (a i j))).runs

pub quad_at : (σ : Table) (d a b c e : ℕ) → ValidAt σ d a → ValidAt σ d b → ValidAt σ d c → ValidAt σ d e → (i j : Bool) → ValidAt σ d (quad a b c e i j)
quad_at σ d a b c e x y z u false false = x
quad_at σ d a b c e x y z u false true = y
quad_at σ d a b c e x y z u true false = z
quad_at σ d a b c e x y z u true true = u
