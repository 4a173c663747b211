-- What each operation on relations makes: a later store that is well formed, and a handle of the relation that its name says.
use mathlib.Core.Logic.{◌↔◌}
use mathlib.Core.Path.{◌≡◌, refl, subst}
use mathlib.Core.Bool.{Bool, true, false, not, ◌&&◌, ◌||◌}
use lib.Dec.{T}
use Prim.Native.Nat.{ℕ, zero, suc}
use native.Mathlib.Omega.{arith}
use Rattle.common.specs.Packets.{Packet, Relation}
use Rattle.common.specs.Outcome.{Outcome, refused, given, Step, Gives, gives}
use Rattle.common.specs.Runs as Runs
use Rattle.common.specs.Runs.{Table}
use Rattle.spp_steps.specs.Model as Spp
use Rattle.spp_steps.specs.Relations.{compose}
use Rattle.spp_steps.specs.Wf.{Wf, Ext, ValidAt, Denotes}
use Rattle.spp_steps.proofs.Laws.{spp_theory, den_mem}
use Rattle.spp_steps.proofs.Exact.{Exact, Stops, stuck}
use Rattle.spp_steps.proofs.Make.{Lacks, spp_limits}
use Rattle.spp_steps.proofs.Apply.{sem, pointwise, apply_exact}
use Rattle.spp_steps.proofs.Sequence.{sequence_exact}
use Rattle.common.specs.Relations.{here, step}
use Rattle.spp_steps.specs.Closure.{Way, closure}
use Rattle.spp_steps.proofs.Closure.{closure_paths}
use Rattle.spp_steps.proofs.Star.{star_exact}
use Rattle.aut_steps.proofs.Languages.{Steps}
use Rattle.aut_steps.specs.Relations.{union, intersect, xor, difference, sequence, star, pairs}

-- in exactly one of the two
pub xor_pairs : (x y : Bool) → sem Spp.xor x y ≡ ((x && not y) || (y && not x))
xor_pairs true true = refl
xor_pairs true false = refl
xor_pairs false true = refl
xor_pairs false false = refl

module _ (N : ℕ) where
  pub record Made (R : Relation N) (t t' : Table) (h : ℕ) : Type 0 where
    pub ext : Ext t t'
    pub wf : Wf N t'
    pub den : Denotes t' N h R

  -- what an operation from t comes to: it is refused only where a node is lacking
  pub data Makes (R : Relation N) (t : Table) : Outcome Table ℕ → Type 0 where
    lacks : {number : ℕ} {t' : Table} → Ext t t' → Wf N t' → Lacks number t' → Makes R t (refused number)
    makes : {t' : Table} {h : ℕ} → Made R t t' h → Makes R t (given t' h)

  pub made : {R : Relation N} {c : Step Table ℕ} {t : Table} → Exact (spp_limits N) c (λ τ h. Denotes τ N h R) t → Makes R t (c t)
  made {R} {c} {t} e = at (c t) e.runs e.stops
    where
      at : (o : Outcome Table ℕ) → Gives (Runs.StableResult (spp_theory N) c (λ τ h. Denotes τ N h R) t) o → Stops (spp_limits N) t o → Makes R t o
      at (refused number) g (stuck x w s) = lacks x w s
      at (given t' h) (gives g) s = makes (record { ext = g.ext; wf = g.wf; den = g.holds })

  -- any number of steps
  way_steps : (R : Relation N) {p q : Packet N} → Way R p q → (k : ℕ) × Steps R k p q
  way_steps R here = (zero, refl)
  way_steps R (step {b = m} e w) = let (k, s) = way_steps R w in (suc k, (m, e, s))

  steps_way : (R : Relation N) (k : ℕ) (p q : Packet N) → Steps R k p q → Way R p q
  steps_way R zero p q e = subst (Way R p) e here
  steps_way R (suc k) p q (m, e, s) = step e (steps_way R k m q s)

  module _ (t : Table) (w : Wf N t) where
    pub star_made : (a : ℕ) → ValidAt t N a → Makes (closure (pairs N t a)) t (star N a t)
    star_made a x = made (star_exact N N (omega arith) t a (pairs N t a) w (den_mem x))

    module _ (a b : ℕ) (x : ValidAt t N a) (y : ValidAt t N b) where
      by : (o : Spp.Op) → Makes (pointwise o (pairs N t a) (pairs N t b)) t (Spp.apply N o N a b t)
      by o = made (apply_exact N o N (omega arith) t a b (pairs N t a) (pairs N t b) w (den_mem x) (den_mem y))

      pub union_made : Makes (λ p q. pairs N t a p q || pairs N t b p q) t (union N a b t)
      union_made = by Spp.union

      pub intersect_made : Makes (λ p q. pairs N t a p q && pairs N t b p q) t (intersect N a b t)
      intersect_made = by Spp.intersect

      pub xor_made : Makes (pointwise Spp.xor (pairs N t a) (pairs N t b)) t (xor N a b t)
      xor_made = by Spp.xor

      pub difference_made : Makes (λ p q. pairs N t a p q && not (pairs N t b p q)) t (difference N a b t)
      difference_made = by Spp.difference

      pub sequence_made : Makes (compose (pairs N t a) (pairs N t b)) t (sequence N a b t)
      sequence_made = made (sequence_exact N N (omega arith) t a b (pairs N t a) (pairs N t b) w (den_mem x) (den_mem y))

  pub closure_steps : (R : Relation N) (p q : Packet N) → T (closure R p q) ↔ ((k : ℕ) × Steps R k p q)
  closure_steps R p q = (λ c. way_steps R ((closure_paths R p q).0 c), λ (k, s). (closure_paths R p q).1 (steps_way R k p q s))
