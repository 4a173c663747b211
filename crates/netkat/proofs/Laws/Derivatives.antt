-- The epsilon and the delta of Derivatives.antt are true of the strings of 01, for every rule, and the automaton of rules is lawful. So the laws
-- of one hop and of lists are enough for every kind of rule, and what they ask can be had.
use mathlib.Core.Path.{◌≡◌, refl, sym, ap, subst}
use mathlib.Core.Logic.{◌↔◌, ◌⊎◌, inl, inr}
use mathlib.Core.List.Memᴰ
use mathlib.Core.List.{List, [], ◌∷◌, ◌++◌, append_assoc, Memᴰ}
use lib.ListN.{length, length-append, length-map, get_or-append}
use lib.Seq.{get_or-append_seam}
use lib.Dec.{T}
use Prim.Native.Nat.{ℕ, suc, ◌+◌, ◌≤◌, ◌<◌}
use native.Mathlib.Omega.{arith}
use Rattle.common.specs.Packets.{Packet, Relation}
use Rattle.common.specs.Relations.{same, allʳ, starʳ}
use Rattle.common.proofs.RelationLaws.{star_closure}
use Rattle.common.specs.Outcome.{gives}
use Rattle.netkat.specs.Strings.{Str, str}
use Rattle.netkat.specs.Rules.{Rule, Rules, relation, union, intersection, xor, difference, sequence, until, complement, star, next, dup, top, none, also, In}
use Rattle.netkat.specs.Hops.{IsEpsilon, SameHops, Hop}
use Rattle.netkat.specs.Lists.{State, Transition, to, covers, Disjoint, Ascending, Allows, IsDelta, TargetsHold, st_singleton, st_union, st_difference, st_xor, st_complement, st_postcompose, st_precompose, st_intersect_expr}
use Rattle.netkat.specs.Promise.{Kept, DeltaOf, Lawful, Promise}
use Rattle.netkat.specs.Derivatives.{rule_targets, epsilon, epsilon_some, epsilon_each, delta, delta_some, delta_each, rule_at, numbered, targets, rules, rules_meaning}
use Rattle.netkat.proofs.Laws.Hops as Hops
use Rattle.netkat.proofs.Laws.Lists as Lists
use Rattle.netkat.proofs.Laws.Promise.{promise}

module _ {n : ℕ} where
  pub rules_hold : TargetsHold rule_targets (In {n = n})
  unfolding In
  rules_hold = record {
    union_holds = λ s t w. (drop w s t, add w s t);
    intersection_holds = λ s t w. (λ x. (x.0, x.1.0), λ x. (x.0, (x.1, tt)));
    difference_holds = λ s t w. (λ x. x, λ x. x);
    sequence_holds = λ s t w. (λ x. x, λ x. x);
    complement_holds = λ s w. (λ x. x, λ x. x);
    top_holds = λ w. tt;
    zero_holds = λ s t. absurd t;
    same_one = λ s t u. absurd u;
  }
    where
      drop : (w : Str n) (s t : Rule n) → In s w ⊎ (In t w ⊎ ⊥) → In s w ⊎ In t w
      drop w s t (inl x) = inl x
      drop w s t (inr (inl x)) = inr x
      drop w s t (inr (inr x)) = absurd x

      add : (w : Str n) (s t : Rule n) → In s w ⊎ In t w → In s w ⊎ (In t w ⊎ ⊥)
      add w s t (inl x) = inl x
      add w s t (inr x) = inr (inl x)

  mutual
    unfolding epsilon epsilon_some epsilon_each In

    pub epsilon_true : (r : Rule n) → IsEpsilon (epsilon r) (In r)
    epsilon_true (relation r) = Hops.epsilon_relation r
    epsilon_true (union rs) = some_true rs
    epsilon_true (intersection rs) = each_true rs
    epsilon_true (xor a b) = Hops.epsilon_xor (epsilon_true a) (epsilon_true b)
    epsilon_true (difference a b) = Hops.epsilon_difference (epsilon_true a) (epsilon_true b)
    epsilon_true (sequence a b) = Hops.epsilon_sequence (epsilon_true a) (epsilon_true b)
    epsilon_true (until a b) = Hops.epsilon_until (epsilon_true a) (epsilon_true b)
    epsilon_true (complement a) = Hops.epsilon_complement (epsilon_true a)
    epsilon_true (star a) = Hops.epsilon_star (epsilon_true a) (star_closure (epsilon a))
    epsilon_true (next a) = Hops.epsilon_next (In a)
    epsilon_true dup = Hops.epsilon_dup
    epsilon_true top = Hops.epsilon_top

    some_true : (rs : Rules n) → IsEpsilon (epsilon_some rs) (In (union rs))
    some_true none = Hops.epsilon_union_none
    some_true (also r rs) = Hops.epsilon_union_also r rs (epsilon_true r) (some_true rs)

    each_true : (rs : Rules n) → IsEpsilon (epsilon_each rs) (In (intersection rs))
    each_true none = Hops.epsilon_intersection_none
    each_true (also r rs) = Hops.epsilon_intersection_also r rs (epsilon_true r) (each_true rs)

  -- the empty list of rules, and one more
  union_none_hop : SameHops (λ w. ⊥) (In {n = n} (union none))
  unfolding In
  union_none_hop a h hs z = (λ x. x, λ x. x)

  union_also_hop : (r : Rule n) (rs : Rules n) → SameHops (λ w. In r w ⊎ In (union rs) w) (In (union (also r rs)))
  unfolding In
  union_also_hop r rs a h hs z = (λ x. x, λ x. x)

  intersection_none_hop : SameHops (In {n = n} top) (In (intersection none))
  unfolding In
  intersection_none_hop a h hs z = (λ x. tt, λ x. tt)

  intersection_also_hop : (r : Rule n) (rs : Rules n) → SameHops (λ w. In r w × In (intersection rs) w) (In (intersection (also r rs)))
  unfolding In
  intersection_also_hop r rs a h hs z = (λ x. (x.0, x.1), λ x. (x.0, x.1))

  -- the operators whose hops are not those of a set operation
  sequence_delta : (a b : Rule n) {ts us : List (Transition (Rule n) n)} → IsDelta In ts (In a) → IsDelta In us (In b) →
      IsDelta In (st_union rule_targets (st_postcompose rule_targets ts b) (st_precompose rule_targets (epsilon a) us)) (In (sequence a b))
  unfolding In
  sequence_delta a b d e = Lists.delta_by In (Hops.sequence_hop (In b) (epsilon_true a))
      (Lists.union_delta rule_targets In rules_hold (Lists.st_postcompose_delta rule_targets In rules_hold d b) (Lists.st_precompose_delta rule_targets In rules_hold e (epsilon a)))

  star_delta : (a : Rule n) {ts : List (Transition (Rule n) n)} → IsDelta In ts (In a) →
      IsDelta In (st_precompose rule_targets (starʳ (epsilon a)) (st_postcompose rule_targets ts (star a))) (In (star a))
  unfolding In
  star_delta a d = Lists.delta_by In (Hops.star_hop (In a) (epsilon_true a) (star_closure (epsilon a)))
      (Lists.st_precompose_delta rule_targets In rules_hold (Lists.st_postcompose_delta rule_targets In rules_hold d (star a)) (starʳ (epsilon a)))

  until_delta : (a b : Rule n) {ts us : List (Transition (Rule n) n)} → IsDelta In ts (In a) → IsDelta In us (In b) →
      IsDelta In (st_union rule_targets us (st_intersect_expr rule_targets ts (until a b))) (In (until a b))
  unfolding In
  until_delta a b d e = Lists.delta_by In (Hops.until_hop (In a) (In b))
      (Lists.union_delta rule_targets In rules_hold e (Lists.tail_delta rule_targets In rules_hold d (until a b)))

  next_delta : (a : Rule n) → IsDelta In (st_singleton rule_targets allʳ a) (In (next a))
  unfolding In
  next_delta a = Lists.delta_by In (Hops.next_hop (In a)) (Lists.st_singleton_delta rule_targets In rules_hold allʳ a)

  xor_delta : (a b : Rule n) {ts us : List (Transition (Rule n) n)} → IsDelta In ts (In a) → IsDelta In us (In b) → IsDelta In (st_xor rule_targets ts us) (In (xor a b))
  unfolding In
  xor_delta a b d e = Lists.xor_delta rule_targets In rules_hold d e

  difference_delta : (a b : Rule n) {ts us : List (Transition (Rule n) n)} → IsDelta In ts (In a) → IsDelta In us (In b) → IsDelta In (st_difference rule_targets ts us) (In (difference a b))
  unfolding In
  difference_delta a b d e = Lists.difference_delta rule_targets In rules_hold d e

  complement_delta : (a : Rule n) {ts : List (Transition (Rule n) n)} → IsDelta In ts (In a) → IsDelta In (st_complement rule_targets ts) (In (complement a))
  unfolding In
  complement_delta a d = Lists.complement_delta rule_targets In rules_hold d

  relation_delta : (r : Relation n) → IsDelta In [] (In (relation r))
  relation_delta r = Lists.delta_by In (Hops.relation_hop r) (Lists.delta_none In)

  mutual
    unfolding delta delta_some delta_each

    pub delta_true : (r : Rule n) → IsDelta In (delta r) (In r)
    delta_true (relation r) = relation_delta r
    delta_true (union rs) = some_delta rs
    delta_true (intersection rs) = each_delta rs
    delta_true (xor a b) = xor_delta a b (delta_true a) (delta_true b)
    delta_true (difference a b) = difference_delta a b (delta_true a) (delta_true b)
    delta_true (sequence a b) = sequence_delta a b (delta_true a) (delta_true b)
    delta_true (until a b) = until_delta a b (delta_true a) (delta_true b)
    delta_true (complement a) = complement_delta a (delta_true a)
    delta_true (star a) = star_delta a (delta_true a)
    delta_true (next a) = next_delta a
    delta_true dup = Lists.delta_by In Hops.dup_hop (Lists.st_singleton_delta rule_targets In rules_hold same (relation same))
    delta_true top = Lists.delta_by In Hops.top_hop (Lists.st_singleton_delta rule_targets In rules_hold allʳ top)

    some_delta : (rs : Rules n) → IsDelta In (delta_some rs) (In (union rs))
    some_delta none = Lists.delta_same In union_none_hop (Lists.delta_none In)
    some_delta (also r rs) = Lists.delta_same In (union_also_hop r rs) (Lists.union_delta rule_targets In rules_hold (delta_true r) (some_delta rs))

    each_delta : (rs : Rules n) → IsDelta In (delta_each rs) (In (intersection rs))
    each_delta none = Lists.delta_same In {A = In top} intersection_none_hop (Lists.delta_by In Hops.top_hop (Lists.st_singleton_delta rule_targets In rules_hold allʳ top))
    each_delta (also r rs) = Lists.delta_same In (intersection_also_hop r rs) (Lists.intersection_delta rule_targets In rules_hold (delta_true r) (each_delta rs))

  -- ---- the automaton of rules

  kept_same : (σ : List (Rule n)) → Kept rules_meaning σ σ
  kept_same σ = record { good = tt; known = λ t k. k; same = λ t k w. (λ x. x, λ x. x) }

  kept_more : (σ more : List (Rule n)) → Kept rules_meaning σ (σ ++ more)
  kept_more σ more = record {
    good = tt;
    known = λ t k. simp length-append (omega arith);
    same = λ t k w. (λ x. rw (get_or-append σ more top t k) x, λ x. rw (get_or-append σ more top t k) at x);
  }

  -- the states from k on are the targets of the list
  abbrev Placed : List (Rule n) → State → List (Transition (Rule n) n) → Type 0
  Placed σ k [] = Unit {0}
  Placed σ k (t ∷ ts) = (rule_at σ k ≡ t.target) × Placed σ (suc k) ts

  all_placed : (σ : List (Rule n)) (list : List (Transition (Rule n) n)) → Placed (σ ++ targets list) (length σ) list
  all_placed σ [] = tt
  all_placed σ (t ∷ ts) = (
    get_or-append_seam σ t.target (targets ts) top,
    subst (λ k. Placed (σ ++ (t.target ∷ targets ts)) k ts) one_longer (subst (λ l. Placed l (length (σ ++ (t.target ∷ []))) ts) (append_assoc σ (t.target ∷ []) (targets ts)) (all_placed (σ ++ (t.target ∷ [])) ts)),
  )
    where
      one_longer : length (σ ++ (t.target ∷ [])) ≡ suc (length σ)
      one_longer = simp length-append (omega arith)

  pub numbered_from : (k : State) (list : List (Transition (Rule n) n)) (t : Transition State n) → Memᴰ t (numbered k list) → (k ≤ t.target) × (t.target < k + length list)
  unfolding numbered
  numbered_from k [] t m = absurd (Memᴰ.not-nil m)
  numbered_from k (u ∷ us) t m = go (Memᴰ.cases_cons m) (λ k. numbered_from _ us t k)
    where
      go : (t ≡ to k u.label) ⊎ Memᴰ t (numbered (suc k) us) → (Memᴰ t (numbered (suc k) us) → (suc k ≤ t.target) × (t.target < suc k + length us)) →
          (k ≤ t.target) × (t.target < k + suc (length us))
      go (inl e) rec = let q : t.target ≡ k = ap (λ t. t.target) e in (omega arith, omega arith)
      go (inr m) rec = let (p, q) = rec m in (omega arith, omega arith)

  numbered_ascend : (k : State) (list : List (Transition (Rule n) n)) → Ascending (numbered k list)
  unfolding numbered
  numbered_ascend k [] = Ascending.none
  numbered_ascend k (t ∷ ts) = Ascending.also (λ u m. (numbered_from (suc k) ts u m).0) (numbered_ascend (suc k) ts)

  numbered_covers : (k : State) (list : List (Transition (Rule n) n)) (a h : Packet n) → covers (numbered k list) a h ≡ covers list a h
  unfolding numbered
  numbered_covers k [] a h = refl
  numbered_covers k (t ∷ ts) a h = rw (numbered_covers (suc k) ts a h)

  numbered_disjoint : (k : State) {list : List (Transition (Rule n) n)} → Disjoint list → Disjoint (numbered k list)
  unfolding numbered
  numbered_disjoint k Disjoint.none = Disjoint.none
  numbered_disjoint k (Disjoint.also {ts} p d) = Disjoint.also (λ a h l m. p a h l (subst (λ b. T b) (numbered_covers (suc k) ts a h) m)) (numbered_disjoint (suc k) d)

  numbered_allows : (σ : List (Rule n)) (k : State) (list : List (Transition (Rule n) n)) → Placed σ k list → (w : Str n) →
      Allows (λ s. In (rule_at σ s)) (numbered k list) w ↔ Allows In list w
  unfolding numbered
  numbered_allows σ k [] p w = (λ x. x, λ x. x)
  numbered_allows σ k (t ∷ ts) (e, p) w = (there (numbered_allows σ (suc k) ts p w).0, back (numbered_allows σ (suc k) ts p w).1)
    where
      there : (Allows (λ s. In (rule_at σ s)) (numbered (suc k) ts) w → Allows In ts w) →
          Hop t.label (In (rule_at σ k)) w ⊎ Allows (λ s. In (rule_at σ s)) (numbered (suc k) ts) w → Hop t.label (In t.target) w ⊎ Allows In ts w
      there f (inl x) = inl (subst (λ r. Hop t.label (In r) w) e x)
      there f (inr x) = inr (f x)

      back : (Allows In ts w → Allows (λ s. In (rule_at σ s)) (numbered (suc k) ts) w) →
          Hop t.label (In t.target) w ⊎ Allows In ts w → Hop t.label (In (rule_at σ k)) w ⊎ Allows (λ s. In (rule_at σ s)) (numbered (suc k) ts) w
      back f (inl x) = inl (subst (λ r. Hop t.label (In r) w) (sym e) x)
      back f (inr x) = inr (f x)

  pub delta_of : (σ : List (Rule n)) (s : State) → s < length σ → DeltaOf rules_meaning (σ ++ targets (delta (rule_at σ s))) s (numbered (length σ) (delta (rule_at σ s)))
  delta_of σ s k = record {
    known = λ t m. simp (length-append, length-map) (numbered_from (length σ) list t m).1;
    ascending = numbered_ascend (length σ) list;
    is = record {
      disjoint = numbered_disjoint (length σ) (delta_true (rule_at σ s)).disjoint;
      allows = λ a h hs z. (
        λ x. rw same_rule (((delta_true (rule_at σ s)).allows a h hs z).0 ((placed (str a (h ∷ hs) z)).0 x)),
        λ x. (placed (str a (h ∷ hs) z)).1 (((delta_true (rule_at σ s)).allows a h hs z).1 (rw same_rule at x)),
      );
    };
  }
    where
      list : List (Transition (Rule n) n)
      list = delta (rule_at σ s)

      same_rule : rule_at (σ ++ targets list) s ≡ rule_at σ s
      same_rule = get_or-append σ (targets list) top s k

      placed : (w : Str n) → Allows (λ s. In (rule_at (σ ++ targets list) s)) (numbered (length σ) list) w ↔ Allows In list w
      placed w = numbered_allows (σ ++ targets list) (length σ) list (all_placed σ list) w

  pub rules_lawful : Lawful {n = n} rules rules_meaning
  rules_lawful = record {
    epsilon_true = λ σ s g k. gives (kept_same σ, epsilon_true (rule_at σ s));
    delta_true = λ σ s g k. gives (kept_more σ (targets (delta (rule_at σ s))), delta_of σ s k);
  }

  -- so what is promised holds of the search for any rule
  pub rules_promise : Promise {n = n} rules rules_meaning
  rules_promise = promise rules rules_meaning rules_lawful
