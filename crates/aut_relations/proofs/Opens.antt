-- A list of states is opened to states. And a step on states after which a list is made of its answer.
use Rattle.std.specs.Prelude.{if◌then◌else◌}
use mathlib.Core.Path.{refl}
use mathlib.Core.Bool.{Bool, true, false}
use mathlib.Core.List.{List, [], ◌∷◌, ◌++◌}
use Prim.Native.Nat.{ℕ, ◌<◌}
use lib.Dec.{eqb}
use Rattle.netkat.specs.Rules.{union, intersection}
use Rattle.aut_steps.specs.Tables.{UNION, INTERSECT, TOP, Limits, Aut}
use Rattle.aut_steps.specs.Kinds.{form}
use Rattle.aut_steps.specs.Ascending.{All}
use Rattle.aut_steps.proofs.ListLaws.{all_append}
use Rattle.aut_steps.specs.Wf.{states, kind, WfAut}
use Rattle.aut_steps.proofs.UnionLaws.{Extended, fits, passes, extended, opened_states}
use Rattle.aut_steps.specs.Constructors.{Within, within, beyond, then_within, Opened, list, top, long, then_open, opened, extend, open_all, open_union}

abbrev pub AllOpen : (ℕ → Type 0) → Opened → Type 0
AllOpen P (list xs) = All P xs
AllOpen P top = Unit
AllOpen P long = Unit

abbrev pub AllWithin : (ℕ → Type 0) → Within (List ℕ) → Type 0
AllWithin P (within xs) = All P xs
AllWithin P beyond = Unit

module _ {N : ℕ} {L : Limits} {σ : Aut} (g : WfAut N L σ) where
  abbrev State : ℕ → Type 0
  State x = x < states σ

  longer : (most : ℕ) (acc ys : List ℕ) → All State acc → All State ys → AllWithin State (extend most acc ys)
  longer most acc ys a b = go (extend most acc ys) (extended most acc ys)
    where
      go : (o : Within (List ℕ)) → Extended most (acc ++ ys) o → AllWithin State o
      go (within zs) (fits l) = all_append State acc ys a b
      go beyond (passes l) = tt

  pub union_states : (most : ℕ) (xs acc : List ℕ) → All State xs → All State acc → AllOpen State (open_union most σ.states.words σ.members.words xs acc)
  unfolding open_union form
  union_states most [] acc a b = b
  union_states most (x ∷ xs) acc a b =
      at_top (λ acc' c. union_states most xs acc' a.1 c) (eqb (kind σ x) TOP)
    where
      rest : ((acc' : List ℕ) → All State acc' → AllOpen State (open_union most σ.states.words σ.members.words xs acc')) → (o : Within (List ℕ)) → AllWithin State o
          → AllOpen State (then_open o (open_union most σ.states.words σ.members.words xs))
      rest ih (within zs) c = ih zs c
      rest ih beyond c = tt

      at_top : ((acc' : List ℕ) → All State acc' → AllOpen State (open_union most σ.states.words σ.members.words xs acc')) → (c : Bool)
          → AllOpen State (if c then top else then_open (extend most acc (opened UNION σ.states.words σ.members.words x)) (open_union most σ.states.words σ.members.words xs))
      at_top ih true = tt
      at_top ih false = rest ih (extend most acc (opened UNION σ.states.words σ.members.words x)) (longer most acc (opened UNION σ.states.words σ.members.words x) b (opened_states g UNION union refl x a.0))

  pub all_states_lem : (most : ℕ) (xs acc : List ℕ) → All State xs → All State acc → AllWithin State (open_all most σ.states.words σ.members.words xs acc)
  unfolding open_all form
  all_states_lem most [] acc a b = b
  all_states_lem most (x ∷ xs) acc a b =
      rest (λ acc' c. all_states_lem most xs acc' a.1 c) (extend most acc (opened INTERSECT σ.states.words σ.members.words x))
      (longer most acc (opened INTERSECT σ.states.words σ.members.words x) b (opened_states g INTERSECT intersection refl x a.0))
    where
      rest : ((acc' : List ℕ) → All State acc' → AllWithin State (open_all most σ.states.words σ.members.words xs acc')) → (o : Within (List ℕ)) → AllWithin State o
          → AllWithin State (then_within o (open_all most σ.states.words σ.members.words xs))
      rest ih (within zs) c = ih zs c
      rest ih beyond c = tt
