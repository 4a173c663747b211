-- What each operation of spp.rs comes to (01, port order, step 2). Unless it is refused, a well-formed later store and the handle of what is meant, and the same
-- handle with no change in every store later still (StableSpec). It is refused only where it comes to a later well-formed store that lacks a node (Stop).
use mathlib.Core.Path.{◌≡◌, sym, subst}
use mathlib.Core.Logic.{◌↔◌}
use mathlib.Core.Bool.{Bool, not as flip}
use Prim.Native.Nat.{ℕ, suc, ◌≤◌, ◌<◌}
use lib.Dec.{T}
use Rattle.common.specs.Packets.{Packet, Set, Relation, all, image}
use Rattle.common.specs.Outcome.{Step, refused}
use Rattle.common.specs.Runs.{Table}
use Rattle.common.proofs.Runs.{StableSpec, runs_map}
use Rattle.spp_steps.proofs.Exact.{Limited, Stop, Exact, stop_of}
use Rattle.spp_steps.specs.Model.{Quad, mem, mk, Op, not, apply, complement, sequence, star, test, assign}
use Rattle.spp_steps.specs.ImageModel.{Stores, fwd, bwd, ifwd, push, pull}
use Rattle.spp_steps.specs.Relations.{part, compose, testing, assigning}
use Rattle.spp_steps.proofs.Relations.{domain, leads}
use Rattle.spp_steps.specs.Closure.{closure, Way}
use Rattle.spp_steps.proofs.Closure.{closure_paths}
use Rattle.spp_steps.specs.Wf.{Wf, Denotes}
use Rattle.spp_steps.proofs.Laws.{spp_theory}
use Rattle.spp_steps.proofs.Make.{mk_exact}
use Rattle.spp_steps.proofs.Apply.{pointwise, apply_exact}
use Rattle.spp_steps.proofs.Sequence.{sequence_exact}
use Rattle.spp_steps.proofs.Star.{star_exact}
use Rattle.spp_steps.proofs.Field.{test_exact, assign_exact}
use Rattle.spp_steps.specs.Images.{BothWf}
use Rattle.spp_steps.proofs.Images.{both_theory, SetAt, RelAt, fwd_exact, bwd_exact, ifwd_exact, push_exact, pull_exact}

-- ---- one relation more

module _ (N : ℕ) {d : ℕ} {σ : Table} (w : Wf N σ) where
  pub mk_runs : d < N → (X : Quad) (R : Relation (suc d)) → ((i j : Bool) → Denotes σ d (X i j) (part R i j)) → StableSpec (spp_theory N) (mk X) (λ τ h. Denotes τ (suc d) h R) σ
  mk_runs l X R D = (mk_exact X R w l D).runs

  module _ (l : d ≤ N) where
    pub test_runs : (f : ℕ) (v : Bool) → f < d → StableSpec (spp_theory N) (test N d f v) (λ τ h. Denotes τ d h (testing f v)) σ
    test_runs f v m = (test_exact N v d f l m σ w).runs

    pub assign_runs : (f : ℕ) (v : Bool) → f < d → StableSpec (spp_theory N) (assign N d f v) (λ τ h. Denotes τ d h (assigning f v)) σ
    assign_runs f v m = (assign_exact N v d f l m σ w).runs

    module _ {a : ℕ} {R : Relation d} (X : Denotes σ d a R) where
      pub complement_runs : StableSpec (spp_theory N) (complement N d a) (λ τ h. Denotes τ d h (λ p q. flip (R p q))) σ
      unfolding complement
      complement_runs = (apply_exact N not d l σ a a R R w X X).runs

      pub star_runs : StableSpec (spp_theory N) (star N d a) (λ τ h. Denotes τ d h (closure R)) σ
      star_runs = (star_exact N d l σ a R w X).runs

      -- it relates two packets exactly if a path of R leads from the one to the other
      pub star_paths : StableSpec (spp_theory N) (star N d a) (λ τ h. (p q : Packet d) → T (mem τ.words d h p q) ↔ Way R p q) σ
      star_paths = runs_map (spp_theory N) (λ τ h _ _ D p q. subst (λ (b : Bool). T b ↔ Way R p q) (sym (D.means p q)) (closure_paths R p q)) star_runs

      module _ {b : ℕ} {S : Relation d} (Y : Denotes σ d b S) where
        pub apply_runs : (o : Op) → StableSpec (spp_theory N) (apply N o d a b) (λ τ h. Denotes τ d h (pointwise o R S)) σ
        apply_runs o = (apply_exact N o d l σ a b R S w X Y).runs

        pub sequence_runs : StableSpec (spp_theory N) (sequence N d a b) (λ τ h. Denotes τ d h (compose R S)) σ
        sequence_runs = (sequence_exact N d l σ a b R S w X Y).runs

-- ---- sets and relations

module _ (N : ℕ) {d : ℕ} {σ : Stores} (w : BothWf N σ) where
  pub ifwd_runs : {s : ℕ} {S : Set d} → SetAt σ d s S → StableSpec (both_theory N) (ifwd d s) (λ τ h. RelAt τ d h (λ p q. S q)) σ
  ifwd_runs {s} {S} X = (ifwd_exact N d σ s S w X).runs

  module _ (l : d ≤ N) {r : ℕ} {R : Relation d} (Y : RelAt σ d r R) where
    pub fwd_runs : StableSpec (both_theory N) (fwd d r) (λ τ h. SetAt τ d h (image all R)) σ
    fwd_runs = (fwd_exact N d l σ r R w Y).runs

    pub bwd_runs : StableSpec (both_theory N) (bwd d r) (λ τ h. SetAt τ d h (domain R)) σ
    bwd_runs = (bwd_exact N d l σ r R w Y).runs

    module _ {s : ℕ} {S : Set d} (X : SetAt σ d s S) where
      pub push_runs : StableSpec (both_theory N) (push N d s r) (λ τ h. SetAt τ d h (image S R)) σ
      push_runs = (push_exact N d l σ s r S R w X Y).runs

      pub pull_runs : StableSpec (both_theory N) (pull N d r s) (λ τ h. SetAt τ d h (leads R S)) σ
      pull_runs = (pull_exact N d l σ s r S R w X Y).runs

-- ---- refusals

-- An exact run that is refused: the number is the right one, at a later well-formed store.
pub refused_why : (𝓛 : Limited) {A : Type 0} {c : Step 𝓛.theory.Store A} {P : 𝓛.theory.Store → A → Type 0} {σ : 𝓛.theory.Store}
    → Exact 𝓛 c P σ → (number : ℕ) → c σ ≡ refused number → Stop 𝓛 σ number
refused_why 𝓛 x number e = stop_of 𝓛 x.stops number e
