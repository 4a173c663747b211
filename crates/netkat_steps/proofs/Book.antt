-- 01's book: what specs/ promises of it. `empty 2` says `no`, so the rule has a string; a work list over the states 2 and 3 computes the live sets,
-- which have 1 packet of 2 at state 2 (`live 2 1 500`); the pruned list is one transition, to state 3, whose label has 1 pair (`pruned 2 1`,
-- `pair 3 1`). So what Promise.antt and Live.antt ask can be had.
use Rattle.std.specs.Prelude.{if◌then◌else◌}
use mathlib.Core.Path.{◌≡◌, refl, sym, ap, subst}
use mathlib.Core.Logic.{◌⊎◌, inl, inr}
use mathlib.Core.Bool.{Bool, true, false, ◌||◌}
use mathlib.Core.List.Memᴰ
use mathlib.Core.List.{List, [], ◌∷◌, ◌++◌, Memᴰ}
use lib.ListN.{length, get_or}
use lib.Dec.{T, eqb, eqb→eq}
use Prim.Native.Nat.{ℕ, ◌+◌, ◌<◌}
use native.Mathlib.Omega.{arith}
use Rattle.common.specs.Packets.{Packet, packets, Set, Relation, inhabited}
use Rattle.common.proofs.PacketLaws.{either, or_left, or_right}
use Rattle.common.specs.Relations.{same, noneʳ, ◌⨾◌, starts, preimage, nonempty}
use Rattle.common.specs.Outcome.{Outcome, refused, given}
use Rattle.common.proofs.Follow.{given_of}
use Rattle.netkat.specs.Strings.{Str}
use Rattle.netkat.specs.Rules.{Rule, relation, sequence, dup, Language, In}
use Rattle.netkat.specs.Lists.{State, Transition, to, Disjoint, IsDelta, place_in, place, st_singleton, split, insert, insert_each, st_union, st_postcompose, st_precompose}
use Rattle.netkat.specs.Search.{Log, Verdict, no, search}
use Rattle.netkat.specs.Live.{IsLive, Reached, Step, pulled, Added, Derived, begun, added, Saturated, pruned}
use Rattle.netkat.proofs.Laws.Hops.{relation_hop}
use Rattle.netkat.proofs.Laws.Live.{worked_live}
use Rattle.netkat.proofs.Laws.Tally.{one, tally}
use Rattle.netkat.specs.Derivatives.{epsilon, delta, rule_at, targets, numbered, rules}
use Rattle.netkat_steps.proofs.Examples.{printed, print, bit_of, test, book, budget_ten}
use Rattle.netkat.proofs.Laws.Derivatives.{epsilon_true, numbered_from, delta_of, rules_promise}

-- ---- the search that says `no` gives a string of the rule

-- what is printed says what the answer was
print_answer : {Store : Type 0} (o : Outcome Store (Verdict × Log 1)) (v : Verdict) (k : ℕ) → print o ≡ printed v k → (σ : Store) × (log : Log 1) × (o ≡ given σ (v, log))
unfolding print
print_answer (refused number) v k e = let z : ◌≡◌ {A = ℕ} 0 1 = cc in absurd (omega arith)
print_answer (given σ r) v k e = let same-verdict : r.0 ≡ v = cc in (σ, r.1, ap (λ x. given σ (x, r.1)) same-verdict)

a_string : (w : Str 1) × In (sequence (relation test) dup) w
unfolding book
a_string =
    let (σ, log, e) = print_answer (search rules 10 2 book) no 2 budget_ten in
    (given_of (rules_promise 10 book 2 tt (omega arith)) e).string refl

-- ---- the live sets, and the pruned list

-- delta of state 2 makes state 3
abbrev made : List (Rule 1)
made = book ++ targets (delta (rule_at book 2))

abbrev list : List (Transition State 1)
list = numbered (length book) (delta (rule_at book 2))

abbrev deltas : State → List (Transition State 1)
deltas s = if eqb s 2 then list else []

abbrev Holds : State → Language 1
Holds s = In (rule_at made s)

two : 2 < length book
unfolding book
two = omega arith

list_to : (t : Transition State 1) → Memᴰ t list → t.target ≡ 3
unfolding book delta place_in place st_singleton split insert insert_each st_union st_postcompose st_precompose inhabited packets test bit_of same ◌⨾◌ starts nonempty epsilon
list_to t m = let (p, q) = numbered_from 3 (delta (rule_at book 2)) t m in omega arith

rule_three : rule_at made 3 ≡ relation same
unfolding book delta place_in place st_singleton split insert insert_each st_union st_postcompose st_precompose inhabited packets test bit_of same ◌⨾◌ starts nonempty epsilon
rule_three = refl

one_of : {s : State} → Memᴰ s (2 ∷ 3 ∷ []) → (s ≡ 2) ⊎ (s ≡ 3)
one_of {s} m = go (Memᴰ.cases_cons m)
  where
    go : (s ≡ 2) ⊎ Memᴰ s (3 ∷ []) → (s ≡ 2) ⊎ (s ≡ 3)
    go (inl e) = inl e
    go (inr k) = inr (Memᴰ.eq_of_singleton k)

closed : (s : State) (t : Transition State 1) → Memᴰ t (deltas s) → Memᴰ t.target (2 ∷ 3 ∷ [])
closed s t = go (eqb s 2)
  where
    go : (b : Bool) → Memᴰ t (if b then list else []) → Memᴰ t.target (2 ∷ 3 ∷ [])
    go true m = Memᴰ.tail (Memᴰ.head (list_to t m))
    go false m = absurd (Memᴰ.not-nil m)

three_delta : IsDelta Holds [] (Holds 3)
three_delta = record {
  disjoint = Disjoint.none;
  allows = λ a h hs z. (λ x. absurd x, λ x. (relation_hop same a h hs z).0 (rw rule_three at x));
}

deltas_true : {s : State} → (s ≡ 2) ⊎ (s ≡ 3) → IsDelta Holds (deltas s) (Holds s)
deltas_true (inl e) = subst (λ s. IsDelta Holds (deltas s) (Holds s)) (sym e) (delta_of book 2 two).is
deltas_true (inr e) = subst (λ s. IsDelta Holds (deltas s) (Holds s)) (sym e) three_delta

abbrev reached : Reached Holds
reached = record {
  states = 2 ∷ 3 ∷ [];
  epsilon = λ s. epsilon (rule_at made s);
  delta = deltas;
  closed = λ s m t k. closed s t k;
  epsilon_true = λ s m. epsilon_true (rule_at made s);
  delta_true = λ s m. deltas_true (one_of m);
}

-- the work list adds once, to state 2
abbrev begin : State → Set 1
begin s = starts (epsilon (rule_at made s))

-- the one transition of the list
abbrev only : Transition State 1
only = get_or list 0 (to 0 noneʳ)

only_listed : Memᴰ only list
unfolding book delta place_in place st_singleton split insert insert_each st_union st_postcompose st_precompose inhabited packets test bit_of same ◌⨾◌ starts nonempty epsilon numbered
only_listed = Memᴰ.head refl

only_one : (t : Transition State 1) → Memᴰ t list → t ≡ only
unfolding book delta place_in place st_singleton split insert insert_each st_union st_postcompose st_precompose inhabited packets test bit_of same ◌⨾◌ starts nonempty epsilon numbered
only_one t m = Memᴰ.eq_of_singleton m

abbrev back : Step reached
back = record { source = 2; by = only }

abbrev live : State → Set 1
live u p = if eqb 2 u then (begin u p || pulled only begin p) else begin u p

adds : Added reached 2 (pulled only begin) begin live
adds = record { at = λ u p. (there u p (eqb 2 u) refl, from u p (eqb 2 u) refl) }
  where
    there : (u : State) (p : Packet 1) (b : Bool) → eqb 2 u ≡ b → T (if b then (begin u p || pulled only begin p) else begin u p) → T (begin u p) ⊎ ((2 ≡ u) × T (pulled only begin p))
    there u p true e t = go (either (begin u p) (pulled only begin p) t)
      where
        go : T (begin u p) ⊎ T (pulled only begin p) → T (begin u p) ⊎ ((2 ≡ u) × T (pulled only begin p))
        go (inl x) = inl x
        go (inr x) = inr (eqb→eq 2 u (rw e tt), x)
    there u p false e t = inl t

    from : (u : State) (p : Packet 1) (b : Bool) → eqb 2 u ≡ b → T (begin u p) ⊎ ((2 ≡ u) × T (pulled only begin p)) → T (if b then (begin u p || pulled only begin p) else begin u p)
    from u p true e (inl x) = or_left (begin u p) (pulled only begin p) x
    from u p true e (inr x) = or_right (begin u p) (pulled only begin p) x.1
    from u p false e (inl x) = x
    from u p false e (inr x) = absurd (subst (λ b. T b) e (subst (λ u. T (eqb 2 u)) x.0 tt))

worked : Derived reached live
worked = added begun back (record { reached = Memᴰ.head refl; listed = only_listed }) adds

finished : Saturated reached live
finished = record { settled = λ e k. record { nothing_more = λ p t. go e.source e.by (eqb e.source 2) refl k.listed p t } }
  where
    at_two : (t : Transition State 1) → t ≡ only → (p : Packet 1) → T (preimage t.label (live t.target) p) → T (live 2 p)
    at_two t e p x =
        let y : T (preimage only.label (live only.target) p) = rw e at x in
        let z : T (preimage only.label (live 3) p) = subst (λ u. T (preimage only.label (live u) p)) (list_to only only_listed) y in
        or_right (begin 2 p) (pulled only begin p) (subst (λ u. T (preimage only.label (begin u) p)) (sym (list_to only only_listed)) z)

    go : (s : State) (t : Transition State 1) (b : Bool) → eqb s 2 ≡ b → Memᴰ t (if b then list else []) → (p : Packet 1) → T (preimage t.label (live t.target) p) → T (live s p)
    go s t true e m p x = subst (λ s. T (live s p)) (sym (eqb→eq s 2 (rw e tt))) (at_two t (only_one t m) p x)
    go s t false e m p x = absurd (Memᴰ.not-nil m)

-- what the work list computes is the live set of state 2
live_two : IsLive (live 2) (In (rule_at made 2))
live_two = worked_live reached worked finished 2 (Memᴰ.head refl)

-- `live 2 1 500`: 1 packet of 2
live_count : tally (live 2) (packets 1) ≡ 1
unfolding one tally book delta place_in place st_singleton split insert insert_each st_union st_postcompose st_precompose inhabited packets test bit_of same ◌⨾◌ starts preimage nonempty epsilon numbered
live_count = refl

-- `pruned 2 1`, `pair 3 1`: one transition, to state 3, with one pair in its label
pairs : Relation 1 → List (Packet 1) → ℕ
pairs r [] = 0
pairs r (a ∷ l) = tally (r a) (packets 1) + pairs r l

data Shown : Type 0 where
  pair : State → ℕ → Shown

show : List (Transition State 1) → List Shown
show [] = []
show (t ∷ ts) = pair t.target (pairs t.label (packets 1)) ∷ show ts

pruned_two : show (pruned live list) ≡ pair 3 1 ∷ []
unfolding show pairs pruned one tally book delta place_in place st_singleton split insert insert_each st_union st_postcompose st_precompose inhabited packets test bit_of same ◌⨾◌ starts preimage nonempty epsilon numbered
pruned_two = refl
