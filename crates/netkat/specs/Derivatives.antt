-- 01, "Strings" and aut.rs's `epsilon` and `delta`: every rule has an epsilon and a delta, worked out from its operands' by the operations of
-- Lists.antt, with rules as targets. And an automaton whose states are rules. Laws/Derivatives.antt proves that both are true of the strings
-- of 01, for every rule: so what is asked of targets and of automata can be had.
use Rattle.std.specs.Prelude.{false, List, [], ◌∷◌, ◌++◌, map, length, get_or, ℕ, suc, ◌<◌}
use Rattle.common.specs.Packets.{Relation}
use Rattle.common.specs.Relations.{same, noneʳ, allʳ, ◌∪ʳ◌, ◌∩ʳ◌, ◌∖ʳ◌, ◌⊕ʳ◌, ∁ʳ, ◌⨾◌, starʳ}
use Rattle.common.specs.Outcome.{given}
use Rattle.netkat.specs.Rules.{Rule, Rules, relation, union, intersection, xor, difference, sequence, until, complement, star, next, dup, top, none, also}
use Rattle.netkat.specs.Lists.{State, Transition, to, Targets, st_singleton, st_union, st_intersect, st_difference, st_xor, st_complement, st_postcompose, st_precompose, st_intersect_expr}
use Rattle.netkat.specs.Search.{Automaton}
use Rattle.netkat.specs.Promise.{Meaning, of_rules}

module _ {n : ℕ} where
  -- rules as targets: nothing is simplified, and no two are found to be one
  abbrev pub rule_targets : Targets (Rule n)
  rule_targets = record {
    union = λ a b. union (also a (also b none));
    intersection = λ a b. intersection (also a (also b none));
    difference = difference;
    sequence = sequence;
    complement = complement;
    top = top;
    is_zero = λ a. false;
    same = λ a b. false;
    before = λ a b. false;
  }

  unfoldable mutual
    pub epsilon : Rule n → Relation n
    epsilon (relation r) = r
    epsilon (union rs) = epsilon_some rs
    epsilon (intersection rs) = epsilon_each rs
    epsilon (xor a b) = epsilon a ⊕ʳ epsilon b
    epsilon (difference a b) = epsilon a ∖ʳ epsilon b
    epsilon (sequence a b) = epsilon a ⨾ epsilon b
    epsilon (until a b) = epsilon b
    epsilon (complement a) = ∁ʳ (epsilon a)
    epsilon (star a) = starʳ (epsilon a)
    epsilon (next a) = noneʳ
    epsilon dup = noneʳ
    epsilon top = allʳ

    pub epsilon_some : Rules n → Relation n
    epsilon_some none = noneʳ
    epsilon_some (also r rs) = epsilon r ∪ʳ epsilon_some rs

    pub epsilon_each : Rules n → Relation n
    epsilon_each none = allʳ
    epsilon_each (also r rs) = epsilon r ∩ʳ epsilon_each rs

  unfoldable mutual
    pub delta : Rule n → List (Transition (Rule n) n)
    delta (relation r) = []
    delta (union rs) = delta_some rs
    delta (intersection rs) = delta_each rs
    delta (xor a b) = st_xor rule_targets (delta a) (delta b)
    delta (difference a b) = st_difference rule_targets (delta a) (delta b)
    delta (sequence a b) = st_union rule_targets (st_postcompose rule_targets (delta a) b) (st_precompose rule_targets (epsilon a) (delta b))
    delta (until a b) = st_union rule_targets (delta b) (st_intersect_expr rule_targets (delta a) (until a b))
    delta (complement a) = st_complement rule_targets (delta a)
    delta (star a) = st_precompose rule_targets (starʳ (epsilon a)) (st_postcompose rule_targets (delta a) (star a))
    delta (next a) = st_singleton rule_targets allʳ a
    delta dup = st_singleton rule_targets same (relation same)
    delta top = st_singleton rule_targets allʳ top

    pub delta_some : Rules n → List (Transition (Rule n) n)
    delta_some none = []
    delta_some (also r rs) = st_union rule_targets (delta r) (delta_some rs)

    pub delta_each : Rules n → List (Transition (Rule n) n)
    delta_each none = st_singleton rule_targets allʳ top
    delta_each (also r rs) = st_intersect rule_targets (delta r) (delta_each rs)

  abbrev pub rule_at : List (Rule n) → State → Rule n
  rule_at σ s = get_or σ s top

  -- the targets in a row, from k on
  unfoldable pub numbered : State → List (Transition (Rule n) n) → List (Transition State n)
  numbered k [] = []
  numbered k (t ∷ ts) = to k t.label ∷ numbered (suc k) ts

  abbrev pub targets : List (Transition (Rule n) n) → List (Rule n)
  targets list = map (λ t. t.target) list

  -- Its store is the list of the rules made so far, a state is a place in it, and delta makes the targets of its list as new states.
  abbrev pub rules : Automaton n
  rules = record {
    Store = List (Rule n);
    epsilon = λ s σ. given σ (epsilon (rule_at σ s));
    delta = λ s σ. given (σ ++ targets (delta (rule_at σ s))) (numbered (length σ) (delta (rule_at σ s)));
  }

  abbrev pub rules_meaning : Meaning n (List (Rule n))
  rules_meaning = of_rules (λ σ. Unit {0}) (λ σ s. s < length σ) rule_at
