-- A store for the list operations of ListSteps.antt: the list of the relations made and the list of the rules made. A label and a state are places
-- in them, and each operation puts one more at the end. So what is asked of labels and states can be had (ExampleStoreLaws.antt).
use Rattle.std.specs.Prelude.{if◌then◌else◌}
use mathlib.Core.List.{List, [], ◌∷◌, ◌++◌}
use lib.ListN.{length, get_or}
use Prim.Native.Nat.{ℕ}
use Rattle.common.specs.Packets.{Relation}
use Rattle.common.specs.Relations.{noneʳ, ◌∪ʳ◌, ◌∩ʳ◌, ◌∖ʳ◌, ∁ʳ, ◌⨾◌, nonempty}
use Rattle.common.specs.Outcome.{Step, given}
use Rattle.netkat.specs.Rules.{Rule, relation, union, intersection, difference, sequence, complement, top, none, also}
use Rattle.netkat.specs.Lists.{State}
use Rattle.netkat_steps.specs.ListSteps.{Label, Operations}

pub record Made (n : ℕ) : Type 0 where
  pub relations : List (Relation n)
  pub rules : List (Rule n)

module _ {n : ℕ} where
  abbrev pub label_at : Made n → Label → Relation n
  label_at σ l = get_or σ.relations l noneʳ

  abbrev pub rule_at : Made n → State → Rule n
  rule_at σ s = get_or σ.rules s top

  -- a relation without pairs is the zero relation, which was made first
  abbrev pub new_label : Relation n → Step (Made n) Label
  new_label r σ = if nonempty r then given (record { relations = σ.relations ++ r ∷ []; rules = σ.rules }) (length σ.relations) else given σ 0

  abbrev pub new_state : Rule n → Step (Made n) State
  new_state r σ = given (record { relations = σ.relations; rules = σ.rules ++ r ∷ [] }) (length σ.rules)

-- with room for `limit` transitions in a list
abbrev pub workshop : ℕ → ℕ → Operations
workshop n limit = record {
  Store = Made n;
  zero = 0;
  union = λ l m σ. new_label (label_at σ l ∪ʳ label_at σ m) σ;
  intersect = λ l m σ. new_label (label_at σ l ∩ʳ label_at σ m) σ;
  difference = λ l m σ. new_label (label_at σ l ∖ʳ label_at σ m) σ;
  sequence = λ l m σ. new_label (label_at σ l ⨾ label_at σ m) σ;
  complement = λ l σ. new_label (∁ʳ (label_at σ l)) σ;
  mk_union = λ s t σ. new_state (union (also (rule_at σ s) (also (rule_at σ t) none))) σ;
  mk_intersect = λ s t σ. new_state (intersection (also (rule_at σ s) (also (rule_at σ t) none))) σ;
  mk_difference = λ s t σ. new_state (difference (rule_at σ s) (rule_at σ t)) σ;
  mk_sequence = λ s t σ. new_state (sequence (rule_at σ s) (rule_at σ t)) σ;
  mk_complement = λ s σ. new_state (complement (rule_at σ s)) σ;
  mk_top = λ σ. new_state top σ;
  mk_zero = λ σ. new_state (relation noneʳ) σ;
  limit = limit;
}
