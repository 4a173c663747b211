-- 01's example, and a small one for each thing that is easily done otherwise: what the search, delta, the live set and the pruned list come to is
-- computed.
use Rattle.std.specs.Prelude.{if◌then◌else◌}
use mathlib.Core.Path.{◌≡◌, refl}
use mathlib.Core.Bool.{Bool, true, false, not, ◌&&◌}
use mathlib.Core.List.{List, [], ◌∷◌}
use lib.Dec.{eqb}
use Prim.Native.Nat.{ℕ, ◌+◌}
use Rattle.common.specs.Packets.{Packet, end, bit, packets, Set, Relation, inhabited, image, relates}
use Rattle.common.specs.Relations.{same, noneʳ, allʳ, ◌⨾◌, starts, preimage, nonempty}
use Rattle.common.specs.Outcome.{Outcome, refused, given, return}
use Rattle.netkat.specs.Rules.{Rule, relation, union, intersection, sequence, complement, dup, top, none, also}
use Rattle.netkat.specs.Lists.{State, Transition, to, place_in, place, st_singleton, split, insert, insert_each, insert_pairs, st_union, st_intersect, st_complement, st_postcompose, st_precompose}
use Rattle.netkat.specs.Search.{Automaton, Log, Verdict, yes, no, spent, walk, turn, run, search}
use Rattle.netkat.specs.Promise.{pair_bound}
use Rattle.netkat.specs.Live.{pulled, pruned}
use Rattle.netkat_steps.specs.Handles as Handles
use Rattle.netkat_steps.specs.Direct.{direct}
use Rattle.netkat_steps.specs.ListSteps as ListSteps
use Rattle.netkat_steps.specs.ListSteps.{Edge, edge}
use Rattle.netkat_steps.proofs.ExampleStore.{Made, label_at, workshop}
use Rattle.netkat.specs.Derivatives.{epsilon, epsilon_each, delta, delta_some, delta_each, numbered, rules}

-- ---- what is printed

pub data Printed : Type 0 where
  nothing_printed : Printed
  printed : Verdict → ℕ → Printed  -- verdict and count

unfoldable pub print : {Store : Type 0} → Outcome Store (Verdict × Log 1) → Printed
print (refused number) = nothing_printed
print (given σ r) = printed r.0 r.1.count

-- ---- 01's book: `fields 1`, `test 0 1`, `dup`, `seq 0 1`, `empty 2`

-- the bit of a packet of one field
unfoldable pub bit_of : Packet 1 → Bool
bit_of (bit b end) = b

unfoldable pub test : Relation 1
test p q = bit_of p && same p q

-- what the three lines make: states 0, 1 and 2
unfoldable pub book : List (Rule 1)
book = relation test ∷ dup ∷ sequence (relation test) dup ∷ []

pub budget_ten : print (search rules 10 2 book) ≡ printed no 2
unfolding print search run turn walk inhabited image relates packets book test bit_of same ◌⨾◌ starts nonempty place_in place st_singleton split insert insert_each st_union st_postcompose st_precompose epsilon delta numbered
budget_ten = refl

budget_two : print (search rules 2 2 book) ≡ printed no 2
unfolding print search run turn walk inhabited image relates packets book test bit_of same ◌⨾◌ starts nonempty place_in place st_singleton split insert insert_each st_union st_postcompose st_precompose epsilon delta numbered
budget_two = refl

budget_one : print (search rules 1 2 book) ≡ printed spent 1
unfolding print search run turn walk inhabited image relates packets book test bit_of same ◌⨾◌ starts nonempty place_in place st_singleton split insert insert_each st_union st_postcompose st_precompose epsilon delta numbered
budget_one = refl

budget_none : print (search rules 0 2 book) ≡ printed spent 0
unfolding print search run turn walk inhabited image relates packets book test bit_of same ◌⨾◌ starts nonempty place_in place st_singleton split insert insert_each st_union st_postcompose st_precompose epsilon delta numbered
budget_none = refl

-- A relation holds no string with a hop, so the relation of all pairs is not Top: met with Dup it has no string, and the search says so after 1
-- pair. Top has strings.
all_is_not_top : print (search rules 5 0 (intersection (also (relation allʳ) (also dup none)) ∷ [])) ≡ printed yes 1
unfolding print search run turn walk inhabited image relates packets same starts nonempty place_in place st_singleton split insert insert_each insert_pairs st_intersect epsilon epsilon_each delta delta_each numbered
all_is_not_top = refl

top_and_dup : print (search rules 5 0 (intersection (also top (also dup none)) ∷ [])) ≡ printed no 2
unfolding print search run turn walk inhabited image relates packets same starts nonempty place_in place st_singleton split insert insert_each insert_pairs st_intersect epsilon epsilon_each delta delta_each numbered
top_and_dup = refl

-- ---- automata by a table

-- the packets of one field
abbrev o : Packet 1
o = bit false end

abbrev i : Packet 1
i = bit true end

-- the relation of one pair
only : Packet 1 → Packet 1 → Relation 1
only a z p q = same a p && same z q

module _ (eps : State → Relation 1) (list : State → List (Transition State 1)) where
  abbrev table : Automaton 1
  table = record { Store = Unit {0}; epsilon = λ s. return (eps s); delta = λ s. return (list s) }

  abbrev answer : ℕ → Printed
  answer budget = print (search table budget 0 tt)

  abbrev bound_of : Outcome (Unit {0}) (Verdict × Log 1) → ℕ
  bound_of (refused number) = 0
  bound_of (given σ r) = pair_bound r.1

-- A state without strings: `yes` after the first pair; 1 + S × P × T is 1.
nowhere : answer (λ s. noneʳ) (λ s. []) 5 ≡ printed yes 1
unfolding print search run turn walk inhabited image relates packets
nowhere = refl

nowhere_bound : bound_of (λ s. noneʳ) (λ s. []) (search (table (λ s. noneʳ) (λ s. [])) 5 0 tt) ≡ 1
unfolding search run turn walk inhabited image relates packets
nowhere_bound = refl

-- A state that leads to itself: the second pair is skipped, and counted.
round : answer (λ s. noneʳ) (λ s. to 0 allʳ ∷ []) 5 ≡ printed yes 2
unfolding print search run turn walk inhabited image relates packets
round = refl

-- A label that leads nowhere: the empty result is left off.
dead_end : answer (λ s. noneʳ) (λ s. to 1 noneʳ ∷ []) 5 ≡ printed yes 1
unfolding print search run turn walk inhabited image relates packets
dead_end = refl

-- State 1 is reached by packet 0, which ends no string there, and later by packet 1, which does: a state is not visited once only.
twice : answer (λ s. if eqb s 1 then only i i else noneʳ) (λ s. if eqb s 1 then (to 1 (only o i) ∷ []) else (to 1 (only o o) ∷ [])) 5 ≡ printed no 3
unfolding print search run turn walk inhabited image relates packets only same
twice = refl

-- ---- the same search over handles, with room for a number of pending pairs

printed_by : {Store : Type 0} → Outcome Store (Verdict × ℕ) → Printed
printed_by (refused number) = nothing_printed
printed_by (given σ r) = printed r.0 r.1

dead_end_handles : printed_by (Handles.search (direct (table (λ s. noneʳ) (λ s. to 1 noneʳ ∷ [])) 4) 5 0 tt) ≡ printed yes 1
unfolding printed_by Handles.search Handles.run Handles.turn Handles.expand Handles.walk inhabited image relates packets
dead_end_handles = refl

-- The first pair is pending before the budget is looked at.
no_room : Handles.search (direct (table (λ s. noneʳ) (λ s. [])) 0) 0 0 tt ≡ refused 24
unfolding Handles.search Handles.run
no_room = refl

-- ---- delta, as the numbers of pairs in its labels

pairs : Relation 1 → List (Packet 1) → ℕ
pairs r [] = 0
pairs r (a ∷ l) = row (r a) (packets 1) + pairs r l
  where
    row : Set 1 → List (Packet 1) → ℕ
    row x [] = 0
    row x (p ∷ ps) = (if x p then 1 else 0) + row x ps

labels : {Target : Type 0} → List (Transition Target 1) → List ℕ
labels [] = []
labels (t ∷ ts) = pairs t.label (packets 1) ∷ labels ts

-- Complement of zero: one transition with all 4 pairs, to Top.
complement_zero : labels (delta {n = 1} (complement (relation noneʳ))) ≡ 4 ∷ []
unfolding labels pairs inhabited packets starts nonempty place_in place split insert insert_each st_complement delta
complement_zero = refl

-- Dup or Top: where the labels meet (2 pairs) the union of the targets; the other 2 pairs go to Top alone.
dup_or_top : labels (delta {n = 1} (union (also dup (also top none)))) ≡ 2 ∷ 2 ∷ []
unfolding labels pairs inhabited packets same starts nonempty place_in place st_singleton split insert insert_each st_union delta delta_some
dup_or_top = refl

-- ---- the same by steps over a store

refusal_of : Outcome (Made 1) (List Edge) → ℕ
refusal_of (refused number) = number
refusal_of (given σ es) = 0

step_labels : Outcome (Made 1) (List Edge) → List ℕ
step_labels (refused number) = []
step_labels (given σ es) = go es
  where
    go : List Edge → List ℕ
    go [] = []
    go (e ∷ es) = pairs (label_at σ e.label) (packets 1) ∷ go es

-- relation 0 is the zero relation; states 0 and 1 are the identity and Top, with the labels 1, the identity, and 2, all pairs
begun : Made 1
begun = record { relations = noneʳ ∷ same ∷ allʳ ∷ []; rules = relation same ∷ top ∷ [] }

complement_zero_steps : step_labels (ListSteps.st_complement (workshop 1 64) [] begun) ≡ 4 ∷ []
unfolding step_labels begun pairs inhabited packets starts nonempty ListSteps.st_complement ListSteps.insert_each ListSteps.cover_all ListSteps.insert ListSteps.split ListSteps.place ListSteps.enter_in ListSteps.enter
complement_zero_steps = refl

dup_or_top_steps : step_labels (ListSteps.st_union (workshop 1 64) (edge 0 1 ∷ []) (edge 1 2 ∷ []) begun) ≡ 2 ∷ 2 ∷ []
unfolding step_labels begun pairs inhabited packets same starts nonempty ListSteps.st_union ListSteps.insert_each ListSteps.insert ListSteps.split ListSteps.place ListSteps.enter_in ListSteps.enter
dup_or_top_steps = refl

-- with room for one transition the second is refused
no_room_steps : refusal_of (ListSteps.st_union (workshop 1 1) (edge 0 1 ∷ []) (edge 1 2 ∷ []) begun) ≡ 9
unfolding refusal_of begun pairs inhabited packets same starts nonempty ListSteps.st_union ListSteps.insert_each ListSteps.insert ListSteps.split ListSteps.place ListSteps.enter_in ListSteps.enter
no_room_steps = refl

-- ---- live: from packet 1 at state 3, the pair 0,1 leads back to packet 0 alone

leads_back : pulled (to 3 (only o i)) (λ s p. same i p) o ≡ true
unfolding preimage inhabited packets only same
leads_back = refl

leads_back_only : pulled (to 3 (only o i)) (λ s p. same i p) i ≡ false
unfolding preimage inhabited packets only same
leads_back_only = refl

-- ---- the pruned list: packet 1 is live at state 3, so of the pairs 0,1 and 1,0 the first is kept

swap : Relation 1
swap a z = not (same a z)

pruned_swap : labels (pruned (λ s p. same i p) (to 3 swap ∷ to 4 (only o o) ∷ [])) ≡ 1 ∷ []
unfolding labels pairs pruned inhabited packets starts nonempty swap only same
pruned_swap = refl

at : Packet 1 → Packet 1 → List (Transition State 1) → List Bool
at a h [] = []
at a h (t ∷ ts) = t.label a h ∷ at a h ts

pruned_kept : at o i (pruned (λ s p. same i p) (to 3 swap ∷ [])) ≡ true ∷ []
unfolding at pruned inhabited packets starts nonempty swap same
pruned_kept = refl

pruned_cut : at i o (pruned (λ s p. same i p) (to 3 swap ∷ [])) ≡ false ∷ []
unfolding at pruned inhabited packets starts nonempty swap same
pruned_cut = refl
