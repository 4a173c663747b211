-- The machine of Direct.antt works for its automaton; so demand 3 holds of it, for the automaton of rules for one.
use mathlib.Core.Path.{refl, ap, ap₂}
use mathlib.Core.Bool.{not}
use mathlib.Core.List.{List, [], ◌∷◌, map}
use Prim.Native.Nat.{ℕ}
use Rattle.common.specs.Packets.{◌∖◌, ◌∪◌, inhabited, image, relates}
use Rattle.common.specs.Outcome.{gives}
use Rattle.common.proofs.Follow.{if_given, step}
use Rattle.netkat.specs.Lists.{State, Transition}
use Rattle.netkat.specs.Search.{Automaton}
use Rattle.netkat_steps.specs.Handles.{Alike, none, also, Grows, IsLink, Implements}
use Rattle.netkat_steps.specs.Demand.{Demand}
use Rattle.netkat_steps.specs.Direct.{link_of, direct, itself}
use Rattle.netkat.specs.Derivatives.{rules, rules_meaning}
use Rattle.netkat_steps.proofs.Demand.{demand}
use Rattle.netkat.proofs.Laws.Derivatives.{rules_lawful}

module _ {n : ℕ} (𝓐 : Automaton n) (capacity : ℕ) where
  grown : (σ σ' : 𝓐.Store) → Grows (itself 𝓐 capacity) σ σ'
  grown σ σ' = record { known = λ s k. k; is = λ h x i. i; is_label = λ l r i. i }

  links_are : (σ : 𝓐.Store) (list : List (Transition State n)) → Alike (IsLink (itself 𝓐 capacity) σ) (map (link_of 𝓐 capacity) list) list
  links_are σ [] = none
  links_are σ (t ∷ list) = also (record { target = refl; known = tt; label = refl }) (links_are σ list)

  pub direct_works : Implements (direct 𝓐 capacity) 𝓐 (itself 𝓐 capacity)
  direct_works = record {
    one_works = λ a. refl;
    zero_works = λ a. refl;
    difference_works = λ a p q. gives (record { grows = grown _ _; agrees = a; right = ap₂ ◌∖◌ p q });
    union_works = λ a p q. gives (record { grows = grown _ _; agrees = a; right = ap₂ ◌∪◌ p q });
    is_zero_works = λ a p. gives (record { grows = grown _ _; agrees = a; right = ap (λ x. not (inhabited x)) p });
    push_works = λ a p q. gives (record { grows = grown _ _; agrees = a; right = ap₂ image p q });
    has_image_works = λ a p q. gives (record { grows = grown _ _; agrees = a; right = ap₂ relates q p });
    epsilon_works = λ {σ} {τ} {s} a k. if_given (𝓐.epsilon s σ) (λ σ' e h. (σ', e, rw a at h, record { grows = grown _ _; agrees = refl; right = refl }));
    delta_works = λ {σ} {τ} {s} a k. step {o = 𝓐.delta s σ} (λ σ' list h. gives (σ', list, rw a at h, record { grows = grown _ _; agrees = refl; right = links_are σ' list }));
  }

pub direct_demand : {n : ℕ} (capacity : ℕ) → Demand (itself (rules {n = n}) capacity) rules_meaning
direct_demand capacity = demand (direct rules capacity) rules (itself rules capacity) rules_meaning (direct_works rules capacity) rules_lawful
