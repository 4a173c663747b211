-- The plain search as a search over handles: a set is its own handle, a relation its own label, and no operation is refused but by the pending
-- list's capacity. So what Handles.antt asks can be had, for every automaton (proofs/Direct.antt).
use Rattle.std.specs.Prelude.{◌≡◌, not, map, ℕ}
use Rattle.common.specs.Packets.{Set, Relation, all, nothing, ◌∖◌, ◌∪◌, inhabited, image, relates}
use Rattle.common.specs.Outcome.{return, ◌>>=◌}
use Rattle.netkat.specs.Lists.{State, Transition}
use Rattle.netkat.specs.Search.{Automaton}
use Rattle.netkat_steps.specs.Handles.{Machine, Link, Reading}

module _ {n : ℕ} (𝓐 : Automaton n) (capacity : ℕ) where
  abbrev pub link_of : Transition State n → Link (Relation n)
  link_of t = record { target = t.target; label = t.label }

  abbrev pub direct : Machine
  direct = record {
    Store = 𝓐.Store;
    Handle = Set n;
    Label = Relation n;
    one = all;
    zero = nothing;
    difference = λ g h. return (g ∖ h);
    union = λ g h. return (g ∪ h);
    is_zero = λ h. return (not (inhabited h));
    push = λ h l. return (image h l);
    has_image = λ h l. return (relates l h);
    epsilon = 𝓐.epsilon;
    delta = λ s. 𝓐.delta s >>= λ list. return (map link_of list);
    capacity = capacity;
  }

  abbrev pub itself : Reading direct 𝓐
  itself = record { Agrees = λ σ τ. σ ≡ τ; Known = λ σ s. Unit {0}; Is = λ σ h x. h ≡ x; IsLabel = λ σ l r. l ≡ r }
