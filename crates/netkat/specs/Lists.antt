-- 01, "Strings": delta: a string a,[h,..],z is in a state exactly if some transition's label relates a to h and h,[..],z is in its target.
-- A transition list as what it means, over any targets; and aut.rs's operations on such lists, over any operations on the targets. Demand 2:
-- labels to distinct targets are disjoint. Laws/Lists.antt has the law of each operation.
use Rattle.std.specs.Prelude.{◌≡◌, ◌↔◌, ◌⊎◌, Bool, not, ◌||◌, T, ℕ, ◌<◌, if◌then◌else◌}
use mathlib.Core.List.{List, [], ◌∷◌, Memᴰ}
use Rattle.common.specs.Packets.{Packet, Relation}
use Rattle.common.specs.Relations.{noneʳ, ◌∪ʳ◌, ◌∩ʳ◌, ◌∖ʳ◌, ∁ʳ, ◌⨾◌, nonempty}
use Rattle.netkat.specs.Strings.{Str}
use Rattle.netkat.specs.Rules.{Language, Join}
use Rattle.netkat.specs.Hops.{SameHops, Hop}

pub record Transition (Target : Type 0) (n : ℕ) : Type 0 where
  pub target : Target
  pub label : Relation n

abbrev pub to : {Target : Type 0} {n : ℕ} → Target → Relation n → Transition Target n
to t r = record { target = t; label = r }

-- ---- what a list means

-- The two relations have no pair in common.
abbrev pub DisjointRel : {n : ℕ} → Relation n → Relation n → Type 0
DisjointRel {n} r s = (a h : Packet n) → T (r a h) → ¬ T (s a h)

module _ {Target : Type 0} {n : ℕ} where
  -- the pairs of all labels
  abbrev pub covers : List (Transition Target n) → Relation n
  covers [] = noneʳ
  covers (t ∷ ts) = t.label ∪ʳ covers ts

  -- No pair is in two labels.
  pub data Disjoint : List (Transition Target n) → Type 0 where
    none : Disjoint []
    also : {t : Transition Target n} {ts : List (Transition Target n)} → DisjointRel t.label (covers ts) → Disjoint ts → Disjoint (t ∷ ts)

  -- The strings that take a hop by what r gives for some member of the list and have their tail in what B gives for it.
  abbrev pub Through : (Transition Target n → Relation n) → (Transition Target n → Language n) → List (Transition Target n) → Language n
  Through r B [] w = ⊥
  Through r B (t ∷ ts) w = Hop (r t) (B t) w ⊎ Through r B ts w

  -- the same for some member of each of two lists
  abbrev pub ThroughPair : (Transition Target n → Transition Target n → Relation n) → (Transition Target n → Transition Target n → Language n) →
      List (Transition Target n) → List (Transition Target n) → Language n
  ThroughPair r B [] us w = ⊥
  ThroughPair r B (t ∷ ts) us w = Through (r t) (B t) us w ⊎ ThroughPair r B ts us w

  module _ (Holds : Target → Language n) where
    -- What the list allows: some transition's label relates a to h and h,[..],z is in its target.
    abbrev pub Allows : List (Transition Target n) → Language n
    Allows = Through (λ t. t.label) (λ t. Holds t.target)

    -- The list is a delta of A: labels disjoint, and a string with a hop is in A exactly if the list allows it.
    pub record IsDelta (list : List (Transition Target n)) (A : Language n) : Type 0 where
      pub disjoint : Disjoint list
      pub allows : SameHops (Allows list) A

-- ---- targets that are numbers

-- A state's number.
abbrev pub State : Type 0
State = ℕ

module _ {n : ℕ} where
  -- every target of the list is above s
  abbrev pub Above : State → List (Transition State n) → Type 0
  Above s list = (t : Transition State n) → Memᴰ t list → s < t.target

  -- Targets ascend, so that no target is listed twice.
  pub data Ascending : List (Transition State n) → Type 0 where
    none : Ascending []
    also : {t : Transition State n} {ts : List (Transition State n)} → Above t.target ts → Ascending ts → Ascending (t ∷ ts)

-- ---- the operations on targets that aut.rs's list operations call

pub record Targets (Target : Type 0) : Type 0 where
  pub union : Target → Target → Target  -- mk_union
  pub intersection : Target → Target → Target  -- mk_intersect
  pub difference : Target → Target → Target  -- mk_difference
  pub sequence : Target → Target → Target  -- mk_sequence
  pub complement : Target → Target  -- mk_complement
  pub top : Target  -- mk_top
  pub is_zero : Target → Bool  -- whether it is the zero state
  pub same : Target → Target → Bool  -- whether the two are one
  pub before : Target → Target → Bool  -- whether the first stands before the second in a list

-- Each does to the strings of the targets what its name says.
pub record TargetsHold {Target : Type 0} {n : ℕ} (𝓣 : Targets Target) (Holds : Target → Language n) : Type 0 where
  pub union_holds : (s t : Target) (w : Str n) → Holds (𝓣.union s t) w ↔ (Holds s w ⊎ Holds t w)
  pub intersection_holds : (s t : Target) (w : Str n) → Holds (𝓣.intersection s t) w ↔ (Holds s w × Holds t w)
  pub difference_holds : (s t : Target) (w : Str n) → Holds (𝓣.difference s t) w ↔ (Holds s w × ¬ Holds t w)
  pub sequence_holds : (s t : Target) (w : Str n) → Holds (𝓣.sequence s t) w ↔ Join (Holds s) (Holds t) w
  pub complement_holds : (s : Target) (w : Str n) → Holds (𝓣.complement s) w ↔ (¬ Holds s w)
  pub top_holds : (w : Str n) → Holds 𝓣.top w
  pub zero_holds : (s : Target) → T (𝓣.is_zero s) → (w : Str n) → ¬ Holds s w
  pub same_one : (s t : Target) → T (𝓣.same s t) → s ≡ t

-- ---- aut.rs's operations on lists (ST)

module _ {Target : Type 0} {n : ℕ} (𝓣 : Targets Target) where
  open 𝓣 use {is_zero, same, before}

  -- A transition that leads nowhere: its label or its target is zero.
  abbrev pub void : Transition Target n → Bool
  void t = not (nonempty t.label) || is_zero t.target

  -- at its place by the targets' order; the labels of one target are united
  unfoldable pub place_in : Transition Target n → List (Transition Target n) → List (Transition Target n)
  place_in t [] = t ∷ []
  place_in t (u ∷ us) =
      if same t.target u.target then (to u.target (u.label ∪ʳ t.label) ∷ us) else if before t.target u.target then (t ∷ u ∷ us) else (u ∷ place_in t us)

  -- st_insert_helper
  unfoldable pub place : Transition Target n → List (Transition Target n) → List (Transition Target n)
  place t list = if void t then list else place_in t list

  -- st_singleton
  unfoldable pub st_singleton : Relation n → Target → List (Transition Target n)
  st_singleton r s = if void (to s r) then [] else (to s r ∷ [])

  -- The walk of st_insert over what the list has: where the labels meet, the union of the targets; where they do not, what there was. What
  -- is left of the new label in the end goes to the new target.
  unfoldable pub split : Transition Target n → List (Transition Target n) → Relation n → List (Transition Target n) → List (Transition Target n)
  split t [] total result = place (to t.target (t.label ∖ʳ total)) result
  split t (u ∷ us) total result =
      let meet = t.label ∩ʳ u.label in
      let result₁ = place (to (𝓣.union t.target u.target) meet) result in
      let result₂ = place (to u.target (u.label ∖ʳ meet)) result₁ in
      split t us (total ∪ʳ meet) result₂

  -- st_insert
  unfoldable pub insert : Transition Target n → List (Transition Target n) → List (Transition Target n)
  insert t list = split t list noneʳ []

  -- for each transition of a list, what f makes of it is inserted
  unfoldable pub insert_each : (Transition Target n → Transition Target n) → List (Transition Target n) → List (Transition Target n) → List (Transition Target n)
  insert_each f [] result = result
  insert_each f (t ∷ ts) result = insert_each f ts (insert (f t) result)

  -- for each transition of the first list and each of the second
  unfoldable pub insert_pairs : (Transition Target n → Transition Target n → Transition Target n) → List (Transition Target n) → List (Transition Target n) →
      List (Transition Target n) → List (Transition Target n)
  insert_pairs f [] us result = result
  insert_pairs f (t ∷ ts) us result = insert_pairs f ts us (insert_each (f t) us result)

  -- st_union
  unfoldable pub st_union : List (Transition Target n) → List (Transition Target n) → List (Transition Target n)
  st_union ts us = insert_each (λ u. u) us (insert_each (λ t. t) ts [])

  -- st_intersect
  unfoldable pub st_intersect : List (Transition Target n) → List (Transition Target n) → List (Transition Target n)
  st_intersect ts us = insert_pairs (λ t u. to (𝓣.intersection t.target u.target) (t.label ∩ʳ u.label)) ts us []

  -- st_difference: the differences where the labels meet; where none does, what the first list has
  unfoldable pub st_difference : List (Transition Target n) → List (Transition Target n) → List (Transition Target n)
  st_difference ts us =
      let met = insert_pairs (λ t u. to (𝓣.difference t.target u.target) (t.label ∩ʳ u.label)) ts us [] in
      insert_each (λ t. to t.target (t.label ∖ʳ (covers ts ∩ʳ covers us))) ts met

  -- st_xor
  unfoldable pub st_xor : List (Transition Target n) → List (Transition Target n) → List (Transition Target n)
  st_xor ts us = st_union (st_difference ts us) (st_difference us ts)

  -- st_complement: the complements of the targets; the rest of the packet pairs goes to Top
  unfoldable pub st_complement : List (Transition Target n) → List (Transition Target n)
  st_complement ts =
      let complements = insert_each (λ t. to (𝓣.complement t.target) t.label) ts [] in
      insert (to 𝓣.top (∁ʳ (covers ts))) complements

  -- st_postcompose: each target followed by e
  unfoldable pub st_postcompose : List (Transition Target n) → Target → List (Transition Target n)
  st_postcompose ts e = insert_each (λ t. to (𝓣.sequence t.target e) t.label) ts []

  -- st_precompose: r before each label
  unfoldable pub st_precompose : Relation n → List (Transition Target n) → List (Transition Target n)
  st_precompose r ts = insert_each (λ t. to t.target (r ⨾ t.label)) ts []

  -- st_intersect_expr: each target met with e
  unfoldable pub st_intersect_expr : List (Transition Target n) → Target → List (Transition Target n)
  st_intersect_expr ts e = insert_each (λ t. to (𝓣.intersection t.target e) t.label) ts []
