-- 01, "Lent tables": words 0 to 3 of a state are its record; words 4 to 11 are what was worked out. Tables that are twins have the same relation nodes, members and states by words 0 to 3; words 4 to 11 are those
-- of f and of g, which no constructor writes. No table has to be in order. Tables that are alike are twins, and stay alike while words 4 to 11 are not written: what has alike runs on twins has them on tables that are alike.
use mathlib.Core.Path.{◌≡◌, refl, sym, ◌∙◌}
use mathlib.Core.List.{List}
use Prim.Native.Nat.{ℕ, ◌+◌, ◌*◌, ◌≤◌, ◌<◌}
use native.Mathlib.Omega.{arith}
use lib.Dec.{ltb}
use lib.ListN.{length, get_or}
use borrow.Author.Tests.{ltb-true, ltb-false}
use Rattle.common.specs.Outcome.{Step}
use Rattle.common.specs.Runs.{Table}
use Rattle.spp_steps.proofs.Laws.{by_test}
use Rattle.aut_steps.specs.Tables.{Exprs, Aut}
use Rattle.aut_free.proofs.Alike.{Framed, AlikeWords, AlikeAut, Respects}
use Rattle.aut_free.proofs.Runs.{alike_wider}

-- s has words 4 to 11 of every state as f has them: they are not written
pub record TwinFramed (f s : List ℕ) : Type 0 where
  pub len : length s ≡ length f
  pub words : (x w : ℕ) → 4 ≤ w → w < 12 → get_or s (12 * x + w) 0 ≡ get_or f (12 * x + w) 0

-- words 0 to 3 are the same; words 4 to 11 of the first are those of f, of the second those of g
pub record TwinWords (f g s t : List ℕ) : Type 0 where
  pub len : length s ≡ length t
  pub same : (x w : ℕ) → w < 4 → get_or s (12 * x + w) 0 ≡ get_or t (12 * x + w) 0
  pub left : TwinFramed f s
  pub right : TwinFramed g t

pub record TwinStates (f g : List ℕ) (s t : Table) : Type 0 where
  pub words : TwinWords f g s.words t.words
  pub count : s.count ≡ t.count

pub record TwinExprs (f g : List ℕ) (σ τ : Exprs) : Type 0 where
  pub states : TwinStates f g σ.states τ.states
  pub members : σ.members ≡ τ.members

pub record TwinAut (f g : List ℕ) (σ τ : Aut) : Type 0 where
  pub nodes : σ.nodes ≡ τ.nodes
  pub states : TwinStates f g σ.states τ.states
  pub members : σ.members ≡ τ.members

-- ---- at the start of a run

framed_refl : (s : List ℕ) → TwinFramed s s
framed_refl s = record { len = refl; words = λ x w l m. refl }

pub twin_words : (s t : List ℕ) → length s ≡ length t → ((x w : ℕ) → w < 4 → get_or s (12 * x + w) 0 ≡ get_or t (12 * x + w) 0) → TwinWords s t s t
twin_words s t e h = record { len = e; same = h; left = framed_refl s; right = framed_refl t }

-- ---- from twins to tables that are alike

framed_on : {f s s' : List ℕ} → Framed f s → TwinFramed s s' → Framed f s'
framed_on p q = record { len = q.len ∙ p.len; words = λ x w l m. q.words x w (omega (arith, l)) m ∙ p.words x w l m }

module _ {f g : List ℕ} where
  pub twins : {s t : List ℕ} → AlikeWords f g s t → TwinWords s t s t
  twins {s} {t} r = twin_words s t r.len (λ x w l. r.same x w (omega (arith, l)))

  alike_on : {s t s' t' : List ℕ} → AlikeWords f g s t → TwinWords s t s' t' → AlikeWords f g s' t'
  alike_on r p = record {
    len = p.len;
    same = λ x w l. by_test (ltb w 4) (λ b. p.same x w (ltb-true w 4 b))
        (λ b. p.left.words x w (ltb-false w 4 b) (omega (arith, l)) ∙ r.same x w l ∙ sym (p.right.words x w (ltb-false w 4 b) (omega (arith, l))));
    left = framed_on r.left p.left;
    right = framed_on r.right p.right;
  }

  pub by_twins : {A : Type 0} {c : Step Aut A} → ((h k : List ℕ) → Respects (TwinAut h k) c) → Respects (AlikeAut f g) c
  by_twins p σ τ r =
      alike_wider (p _ _ σ τ (record { nodes = r.nodes; states = record { words = twins r.states.words; count = r.states.count }; members = r.members }))
      (λ s t q. record { nodes = q.nodes; states = record { words = alike_on r.states.words q.states.words; count = q.states.count }; members = q.members })
