-- The laws of transition lists, in three groups.
--   1. `Placed` and its laws: what st_insert_helper does to a list. `Splitting` with `split_begin`, `split_turn`, `split_end`: the walk of
--      st_insert, a turn at a time; in the end the list is a delta of what it was one of, and of the new transition's strings.
--   2. `..-hops`: which strings all the transitions that an operation inserts allow together. No target or label has to be a function of
--      its operands: any transition with the right strings will do (`delta_with`). `through_none`, `through_more`, `pair_none`, `pair_more`:
--      a loop of inserts, by what is still to be walked. `delta_kept`, `placed_kept`, `splitting_kept`: while the targets keep their strings.
--   3. the laws of the operations of Lists.antt, from these two.
-- Where targets and labels are handles into a store and steps may be refused, the first two groups are used as netkat_steps/proofs/ListSteps.antt uses them.
use Rattle.std.specs.Prelude.{if◌then◌else◌}
use mathlib.Core.Path.{◌≡◌, refl, sym, ◌∙◌, subst}
use mathlib.Core.Logic.{◌↔◌, ◌⊎◌, inl, inr}
use mathlib.Core.Bool.{Bool, true, false, not, ◌&&◌, ◌||◌}
use mathlib.Core.List.Memᴰ
use mathlib.Core.List.{List, [], ◌∷◌, Memᴰ}
use lib.Dec.{T}
use Prim.Native.Nat.{ℕ}
use Rattle.common.specs.Packets.{Packet, Relation}
use Rattle.common.proofs.PacketLaws.{both, each, either, or_left, or_right}
use Rattle.common.specs.Relations.{noneʳ, allʳ, ◌∪ʳ◌, ◌∩ʳ◌, ◌∖ʳ◌, ∁ʳ, ◌⨾◌, nonempty}
use Rattle.common.proofs.RelationLaws.{by_test, not_of, not_to, minus_of, minus_to, seq_of, seq_to, nonempty_of}
use Rattle.netkat.specs.Strings.{Str, str}
use Rattle.netkat.specs.Rules.{Language, Join}
use Rattle.netkat.specs.Hops.{SameHops, Either, Hop, Late, Early}
use Rattle.netkat.specs.Lists.{Transition, to, DisjointRel, covers, Disjoint, none, also, Through, ThroughPair, Allows, IsDelta, Targets, TargetsHold, void, place_in, place, st_singleton, split, insert, insert_each, insert_pairs, st_union, st_intersect, st_difference, st_xor, st_complement, st_postcompose, st_precompose, st_intersect_expr}

module _ {Target : Type 0} {n : ℕ} where
  -- ---- a list by its members

  pub through_of : (r : Transition Target n → Relation n) (B : Transition Target n → Language n) {t : Transition Target n} {list : List (Transition Target n)} (w : Str n) →
      Memᴰ t list → Hop (r t) (B t) w → Through r B list w
  through_of r B w (Memᴰ.head e) x = inl (subst (λ u. Hop (r u) (B u) w) e x)
  through_of r B w (Memᴰ.tail m) x = inr (through_of r B w m x)

  pub through_to : (r : Transition Target n → Relation n) (B : Transition Target n → Language n) (list : List (Transition Target n)) (w : Str n) →
      Through r B list w → (t : Transition Target n) × Memᴰ t list × Hop (r t) (B t) w
  through_to r B [] w x = absurd x
  through_to r B (t ∷ ts) w (inl x) = (t, Memᴰ.head refl, x)
  through_to r B (t ∷ ts) w (inr x) =
      let (u, m, y) = through_to r B ts w x in
      (u, Memᴰ.tail m, y)

  pub through_same : (r : Transition Target n → Relation n) (B C : Transition Target n → Language n) (list : List (Transition Target n)) →
      ((t : Transition Target n) → Memᴰ t list → (w : Str n) → B t w ↔ C t w) → SameHops (Through r B list) (Through r C list)
  through_same r B C list f a h hs z = (
    λ y. let (t, m, p) = through_to r B list (str a (h ∷ hs) z) y in through_of r C (str a (h ∷ hs) z) m (p.0, (f t m (str h hs z)).0 p.1),
    λ y. let (t, m, p) = through_to r C list (str a (h ∷ hs) z) y in through_of r B (str a (h ∷ hs) z) m (p.0, (f t m (str h hs z)).1 p.1),
  )

  pub covers_of : {t : Transition Target n} {list : List (Transition Target n)} → Memᴰ t list → (a h : Packet n) → T (t.label a h) → T (covers list a h)
  covers_of (Memᴰ.head {x} {xs} e) a h l = or_left (x.label a h) (covers xs a h) (subst (λ u. T (u.label a h)) e l)
  covers_of (Memᴰ.tail {x} {xs} m) a h l = or_right (x.label a h) (covers xs a h) (covers_of m a h l)

  pub covers_to : (list : List (Transition Target n)) (a h : Packet n) → T (covers list a h) → (t : Transition Target n) × Memᴰ t list × T (t.label a h)
  covers_to [] a h l = absurd l
  covers_to (t ∷ ts) a h l = go (either (t.label a h) (covers ts a h) l) (covers_to ts a h)
    where
      go : T (t.label a h) ⊎ T (covers ts a h) → (T (covers ts a h) → (u : Transition Target n) × Memᴰ u ts × T (u.label a h)) →
          (u : Transition Target n) × Memᴰ u (t ∷ ts) × T (u.label a h)
      go (inl x) rec = (t, Memᴰ.head refl, x)
      go (inr x) rec =
          let (u, m, y) = rec x in
          (u, Memᴰ.tail m, y)

  -- In a disjoint list the label that holds a pair is one member's: labels to distinct targets are disjoint.
  pub disjoint_one : {list : List (Transition Target n)} → Disjoint list → {t u : Transition Target n} → Memᴰ t list → Memᴰ u list →
      (a h : Packet n) → T (t.label a h) → T (u.label a h) → t ≡ u
  disjoint_one none m k a h l j = absurd (Memᴰ.not-nil m)
  disjoint_one (also {t = x} {ts = xs} p d) {t} {u} m k a h l j = go (Memᴰ.cases_cons m) (Memᴰ.cases_cons k) (λ m k. disjoint_one d m k a h l j)
    where
      go : (t ≡ x) ⊎ Memᴰ t xs → (u ≡ x) ⊎ Memᴰ u xs → (Memᴰ t xs → Memᴰ u xs → t ≡ u) → t ≡ u
      go (inl e) (inl f) rec = e ∙ sym f
      go (inl e) (inr k) rec = absurd (p a h (subst (λ y. T (y.label a h)) e l) (covers_of k a h j))
      go (inr m) (inl f) rec = absurd (p a h (subst (λ y. T (y.label a h)) f j) (covers_of m a h l))
      go (inr m) (inr k) rec = rec m k

  module _ (Holds : Target → Language n) where
    pub delta_same : {list : List (Transition Target n)} {A B : Language n} → SameHops A B → IsDelta Holds list A → IsDelta Holds list B
    delta_same f d = record {
      disjoint = d.disjoint;
      allows = λ a h hs z. (λ x. (f a h hs z).0 ((d.allows a h hs z).0 x), λ y. (d.allows a h hs z).1 ((f a h hs z).1 y));
    }

    -- by a law of one hop, which has the operator on its left
    pub delta_by : {list : List (Transition Target n)} {A B : Language n} → SameHops B A → IsDelta Holds list A → IsDelta Holds list B
    delta_by f d = record {
      disjoint = d.disjoint;
      allows = λ a h hs z. (λ x. (f a h hs z).1 ((d.allows a h hs z).0 x), λ y. (d.allows a h hs z).1 ((f a h hs z).0 y));
    }

    -- with another transition that has the same strings
    pub delta_with : {list : List (Transition Target n)} {A B C : Language n} → SameHops B C → IsDelta Holds list (Either A B) → IsDelta Holds list (Either A C)
    delta_with {list} {A} {B} {C} f d = delta_same {B = Either A C} (λ a h hs z. (there a h hs z, back a h hs z)) d
      where
        there : (a h : Packet n) (hs : List (Packet n)) (z : Packet n) → Either A B (str a (h ∷ hs) z) → Either A C (str a (h ∷ hs) z)
        there a h hs z (inl x) = inl x
        there a h hs z (inr x) = inr ((f a h hs z).0 x)

        back : (a h : Packet n) (hs : List (Packet n)) (z : Packet n) → Either A C (str a (h ∷ hs) z) → Either A B (str a (h ∷ hs) z)
        back a h hs z (inl x) = inl x
        back a h hs z (inr x) = inr ((f a h hs z).1 x)

    pub delta_none : IsDelta Holds [] (λ w. ⊥)
    delta_none = record { disjoint = none; allows = λ a h hs z. (λ x. x, λ x. x) }

    -- ---- 1. st_insert_helper, and the walk of st_insert

    -- `Placed t list list'`: list' is the list with the transition t in it. It is left off where it allows nothing; it is united with a
    -- transition to the same target; or it is new, at some place.
    pub data Placed (t : Transition Target n) : List (Transition Target n) → List (Transition Target n) → Type 0 where
      left_off : {list : List (Transition Target n)} → SameHops (Hop t.label (Holds t.target)) (λ w. ⊥) → Placed t list list
      new : {list : List (Transition Target n)} → Placed t list (t ∷ list)
      united : {s : Target} {r : Relation n} {list : List (Transition Target n)} → t.target ≡ s → Placed t (to s r ∷ list) (to s (r ∪ʳ t.label) ∷ list)
      past : {u : Transition Target n} {list list' : List (Transition Target n)} → Placed t list list' → Placed t (u ∷ list) (u ∷ list')

    pub placed_allows : {t : Transition Target n} {list list' : List (Transition Target n)} → Placed t list list' →
        SameHops (Allows Holds list') (λ w. Allows Holds list w ⊎ Hop t.label (Holds t.target) w)
    placed_allows {t} {list} (left_off f) a h hs z = (λ x. inl x, back)
      where
        back : Allows Holds list (str a (h ∷ hs) z) ⊎ Hop t.label (Holds t.target) (str a (h ∷ hs) z) → Allows Holds list (str a (h ∷ hs) z)
        back (inl x) = x
        back (inr x) = absurd ((f a h hs z).0 x)
    placed_allows {t} {list} new a h hs z = (there, back)
      where
        there : Hop t.label (Holds t.target) (str a (h ∷ hs) z) ⊎ Allows Holds list (str a (h ∷ hs) z) → Allows Holds list (str a (h ∷ hs) z) ⊎ Hop t.label (Holds t.target) (str a (h ∷ hs) z)
        there (inl x) = inr x
        there (inr x) = inl x

        back : Allows Holds list (str a (h ∷ hs) z) ⊎ Hop t.label (Holds t.target) (str a (h ∷ hs) z) → Hop t.label (Holds t.target) (str a (h ∷ hs) z) ⊎ Allows Holds list (str a (h ∷ hs) z)
        back (inl x) = inr x
        back (inr x) = inl x
    placed_allows {t} (united {s} {r} {list} e) a h hs z = (there, back)
      where
        X : Type 0
        X = Holds s (str h hs z)

        first : T (r a h) ⊎ T (t.label a h) → X → ((T (r a h) × X) ⊎ Allows Holds list (str a (h ∷ hs) z)) ⊎ Hop t.label (Holds t.target) (str a (h ∷ hs) z)
        first (inl l) x = inl (inl (l, x))
        first (inr l) x = inr (l, subst (λ s. Holds s (str h hs z)) (sym e) x)

        there : (T (r a h || t.label a h) × X) ⊎ Allows Holds list (str a (h ∷ hs) z) → ((T (r a h) × X) ⊎ Allows Holds list (str a (h ∷ hs) z)) ⊎ Hop t.label (Holds t.target) (str a (h ∷ hs) z)
        there (inl (l, x)) = first (either (r a h) (t.label a h) l) x
        there (inr y) = inl (inr y)

        back : ((T (r a h) × X) ⊎ Allows Holds list (str a (h ∷ hs) z)) ⊎ Hop t.label (Holds t.target) (str a (h ∷ hs) z) → (T (r a h || t.label a h) × X) ⊎ Allows Holds list (str a (h ∷ hs) z)
        back (inl (inl (l, x))) = inl (or_left (r a h) (t.label a h) l, x)
        back (inl (inr y)) = inr y
        back (inr (l, x)) = inl (or_right (r a h) (t.label a h) l, subst (λ s. Holds s (str h hs z)) e x)
    placed_allows {t} (past {u} {list} {list'} p) a h hs z = (there (placed_allows p a h hs z).0, back (placed_allows p a h hs z).1)
      where
        U : Type 0
        U = Hop u.label (Holds u.target) (str a (h ∷ hs) z)

        N : Type 0
        N = Hop t.label (Holds t.target) (str a (h ∷ hs) z)

        there : (Allows Holds list' (str a (h ∷ hs) z) → Allows Holds list (str a (h ∷ hs) z) ⊎ N) → U ⊎ Allows Holds list' (str a (h ∷ hs) z) → (U ⊎ Allows Holds list (str a (h ∷ hs) z)) ⊎ N
        there f (inl x) = inl (inl x)
        there f (inr y) = later (f y)
          where
            later : Allows Holds list (str a (h ∷ hs) z) ⊎ N → (U ⊎ Allows Holds list (str a (h ∷ hs) z)) ⊎ N
            later (inl y) = inl (inr y)
            later (inr x) = inr x

        back : (Allows Holds list (str a (h ∷ hs) z) ⊎ N → Allows Holds list' (str a (h ∷ hs) z)) → (U ⊎ Allows Holds list (str a (h ∷ hs) z)) ⊎ N → U ⊎ Allows Holds list' (str a (h ∷ hs) z)
        back f (inl (inl x)) = inl x
        back f (inl (inr y)) = inr (f (inl y))
        back f (inr x) = inr (f (inr x))

    pub placed_covers : {t : Transition Target n} {list list' : List (Transition Target n)} → Placed t list list' → (a h : Packet n) →
        T (covers list' a h) → T (covers list a h) ⊎ T (t.label a h)
    placed_covers (left_off f) a h l = inl l
    placed_covers {t} (new {list}) a h l = swap (either (t.label a h) (covers list a h) l)
      where
        swap : T (t.label a h) ⊎ T (covers list a h) → T (covers list a h) ⊎ T (t.label a h)
        swap (inl x) = inr x
        swap (inr x) = inl x
    placed_covers {t} (united {r} {list} e) a h l = go (either (r a h || t.label a h) (covers list a h) l)
      where
        first : T (r a h) ⊎ T (t.label a h) → T (r a h || covers list a h) ⊎ T (t.label a h)
        first (inl x) = inl (or_left (r a h) (covers list a h) x)
        first (inr x) = inr x

        go : T (r a h || t.label a h) ⊎ T (covers list a h) → T (r a h || covers list a h) ⊎ T (t.label a h)
        go (inl x) = first (either (r a h) (t.label a h) x)
        go (inr x) = inl (or_right (r a h) (covers list a h) x)
    placed_covers {t} (past {u} {list} {list'} p) a h l = go (either (u.label a h) (covers list' a h) l) (λ m. placed_covers p a h m)
      where
        later : T (covers list a h) ⊎ T (t.label a h) → T (u.label a h || covers list a h) ⊎ T (t.label a h)
        later (inl x) = inl (or_right (u.label a h) (covers list a h) x)
        later (inr x) = inr x

        go : T (u.label a h) ⊎ T (covers list' a h) → (T (covers list' a h) → T (covers list a h) ⊎ T (t.label a h)) → T (u.label a h || covers list a h) ⊎ T (t.label a h)
        go (inl x) rec = inl (or_left (u.label a h) (covers list a h) x)
        go (inr x) rec = later (rec x)

    pub placed_disjoint : {t : Transition Target n} {list list' : List (Transition Target n)} → Placed t list list' → Disjoint list → DisjointRel t.label (covers list) → Disjoint list'
    placed_disjoint (left_off f) d p = d
    placed_disjoint new d p = also p d
    placed_disjoint {t} (united {r} {list} e) (also q d) p = also (λ a h l m. go a h (either (r a h) (t.label a h) l) m) d
      where
        go : (a h : Packet n) → T (r a h) ⊎ T (t.label a h) → ¬ T (covers list a h)
        go a h (inl x) m = q a h x m
        go a h (inr x) m = p a h x (or_right (r a h) (covers list a h) m)
    placed_disjoint {t} (past {u} {list} {list'} k) (also q d) p =
        also (λ a h l m. go a h l (placed_covers k a h m)) (placed_disjoint k d (λ a h l m. p a h l (or_right (u.label a h) (covers list a h) m)))
      where
        go : (a h : Packet n) → T (u.label a h) → T (covers list a h) ⊎ T (t.label a h) → ⊥
        go a h l (inl x) = q a h l x
        go a h l (inr x) = p a h x (or_left (u.label a h) (covers list a h) l)

    -- Between two turns of the walk for t over a list that is a delta of A: `rest` is to be walked, `total` are the pairs of t's label that
    -- were met, `result` is the list so far.
    pub record Splitting (t : Transition Target n) (A : Language n) (rest : List (Transition Target n)) (total : Relation n) (result : List (Transition Target n)) : Type 0 where
      pub disjoint : Disjoint result
      pub rest_disjoint : Disjoint rest
      pub apart : DisjointRel (covers result) (covers rest)
      pub total_apart : DisjointRel total (covers rest)
      pub total_has : (a h : Packet n) → T (covers result a h) → T (t.label a h) → T (total a h)
      pub allows : SameHops (λ w. Allows Holds result w ⊎ (Allows Holds rest w ⊎ Hop (t.label ∖ʳ total) (Holds t.target) w)) (λ w. A w ⊎ Hop t.label (Holds t.target) w)

    pub split_begin : {t : Transition Target n} {list : List (Transition Target n)} {A : Language n} → IsDelta Holds list A → Splitting t A list noneʳ []
    split_begin {t} {list} {A} d = record {
      disjoint = none;
      rest_disjoint = d.disjoint;
      apart = λ a h x. absurd x;
      total_apart = λ a h x. absurd x;
      total_has = λ a h x. absurd x;
      allows = λ a h hs z. (there a h hs z, back a h hs z);
    }
      where
        New : Language n
        New = Hop t.label (Holds t.target)

        there : (a h : Packet n) (hs : List (Packet n)) (z : Packet n) → ⊥ ⊎ (Allows Holds list (str a (h ∷ hs) z) ⊎ (T (t.label a h && true) × Holds t.target (str h hs z))) →
            A (str a (h ∷ hs) z) ⊎ New (str a (h ∷ hs) z)
        there a h hs z (inl x) = absurd x
        there a h hs z (inr (inl x)) = inl ((d.allows a h hs z).0 x)
        there a h hs z (inr (inr (l, x))) = inr ((each (t.label a h) true l).0, x)

        back : (a h : Packet n) (hs : List (Packet n)) (z : Packet n) → A (str a (h ∷ hs) z) ⊎ New (str a (h ∷ hs) z) →
            ⊥ ⊎ (Allows Holds list (str a (h ∷ hs) z) ⊎ (T (t.label a h && true) × Holds t.target (str h hs z)))
        back a h hs z (inl x) = inr (inl ((d.allows a h hs z).1 x))
        back a h hs z (inr (l, x)) = inr (inr (both (t.label a h) true l tt, x))

    -- One turn: x has the strings of t's target and of u's. It gets the pairs that t and u share; u keeps its others.
    module _ {t u : Transition Target n} {A : Language n} {us result result₁ result₂ : List (Transition Target n)} {total : Relation n} {x : Target}
        (s : Splitting t A (u ∷ us) total result)
        (is_union : (w : Str n) → Holds x w ↔ (Holds t.target w ⊎ Holds u.target w))
        (p₁ : Placed (to x (t.label ∩ʳ u.label)) result result₁)
        (p₂ : Placed (to u.target (u.label ∖ʳ (t.label ∩ʳ u.label))) result₁ result₂)
      where
        -- u's label, against the rest and against what is there
        u_rest : Disjoint (u ∷ us) → DisjointRel u.label (covers us)
        u_rest (also p d) = p

        rest_of : Disjoint (u ∷ us) → Disjoint us
        rest_of (also p d) = d

        u_result : (a h : Packet n) → T (u.label a h) → ¬ T (covers result a h)
        u_result a h l m = s.apart a h m (or_left (u.label a h) (covers us a h) l)

        u_total : (a h : Packet n) → T (u.label a h) → ¬ T (total a h)
        u_total a h l m = s.total_apart a h m (or_left (u.label a h) (covers us a h) l)

        covers₁ : (a h : Packet n) → T (covers result₁ a h) → T (covers result a h) ⊎ (T (t.label a h) × T (u.label a h))
        covers₁ a h l = go (placed_covers p₁ a h l)
          where
            go : T (covers result a h) ⊎ T (t.label a h && u.label a h) → T (covers result a h) ⊎ (T (t.label a h) × T (u.label a h))
            go (inl m) = inl m
            go (inr m) = inr (each (t.label a h) (u.label a h) m)

        covers₂ : (a h : Packet n) → T (covers result₂ a h) → T (covers result a h) ⊎ T (u.label a h)
        covers₂ a h l = go (placed_covers p₂ a h l)
          where
            first : T (covers result a h) ⊎ (T (t.label a h) × T (u.label a h)) → T (covers result a h) ⊎ T (u.label a h)
            first (inl m) = inl m
            first (inr m) = inr m.1

            go : T (covers result₁ a h) ⊎ T (u.label a h && not (t.label a h && u.label a h)) → T (covers result a h) ⊎ T (u.label a h)
            go (inl m) = first (covers₁ a h m)
            go (inr m) = inr (minus_to (u.label a h) (t.label a h && u.label a h) m).0

        disjoint₁ : Disjoint result₁
        disjoint₁ = placed_disjoint p₁ s.disjoint (λ a h l. u_result a h (each (t.label a h) (u.label a h) l).1)

        disjoint₂ : Disjoint result₂
        disjoint₂ = placed_disjoint p₂ disjoint₁ (λ a h l m.
            let (k, j) = minus_to (u.label a h) (t.label a h && u.label a h) l in
            go a h k j (covers₁ a h m))
          where
            go : (a h : Packet n) → T (u.label a h) → ¬ T (t.label a h && u.label a h) → T (covers result a h) ⊎ (T (t.label a h) × T (u.label a h)) → ⊥
            go a h k j (inl m) = u_result a h k m
            go a h k j (inr m) = j (both (t.label a h) (u.label a h) m.0 m.1)

        apart₂ : DisjointRel (covers result₂) (covers us)
        apart₂ a h l m = go (covers₂ a h l)
          where
            go : T (covers result a h) ⊎ T (u.label a h) → ⊥
            go (inl k) = s.apart a h k (or_right (u.label a h) (covers us a h) m)
            go (inr k) = u_rest s.rest_disjoint a h k m

        total_apart₂ : DisjointRel (total ∪ʳ (t.label ∩ʳ u.label)) (covers us)
        total_apart₂ a h l m = go (either (total a h) (t.label a h && u.label a h) l)
          where
            go : T (total a h) ⊎ T (t.label a h && u.label a h) → ⊥
            go (inl k) = s.total_apart a h k (or_right (u.label a h) (covers us a h) m)
            go (inr k) = u_rest s.rest_disjoint a h (each (t.label a h) (u.label a h) k).1 m

        total_has₂ : (a h : Packet n) → T (covers result₂ a h) → T (t.label a h) → T (total a h || (t.label a h && u.label a h))
        total_has₂ a h l m = go (covers₂ a h l)
          where
            go : T (covers result a h) ⊎ T (u.label a h) → T (total a h || (t.label a h && u.label a h))
            go (inl k) = or_left (total a h) (t.label a h && u.label a h) (s.total_has a h k m)
            go (inr k) = or_right (total a h) (t.label a h && u.label a h) (both (t.label a h) (u.label a h) m k)

        module _ (a h : Packet n) (hs : List (Packet n)) (z : Packet n) where
          abbrev R : Bool
          R = t.label a h

          abbrev U : Bool
          U = u.label a h

          abbrev X : Type 0
          X = Holds t.target (str h hs z)

          abbrev Y : Type 0
          Y = Holds u.target (str h hs z)

          abbrev Before : Type 0
          Before = Allows Holds result (str a (h ∷ hs) z) ⊎ (((T U × Y) ⊎ Allows Holds us (str a (h ∷ hs) z)) ⊎ (T (R && not (total a h)) × X))

          abbrev After : Type 0
          After = Allows Holds result₂ (str a (h ∷ hs) z) ⊎ (Allows Holds us (str a (h ∷ hs) z) ⊎ (T (R && not (total a h || (R && U))) × X))

          -- what stands in the new list
          old : Allows Holds result (str a (h ∷ hs) z) → After
          old y = inl ((placed_allows p₂ a h hs z).1 (inl ((placed_allows p₁ a h hs z).1 (inl y))))

          met : T R → T U → X ⊎ Y → After
          met r v y = inl ((placed_allows p₂ a h hs z).1 (inl ((placed_allows p₁ a h hs z).1 (inr (both R U r v, (is_union (str h hs z)).1 y)))))

          u_alone : T U → ¬ T R → Y → After
          u_alone v r y = inl ((placed_allows p₂ a h hs z).1 (inr (minus_of U (R && U) v (λ m. r (each R U m).0), y)))

          t_alone : T R → ¬ T U → ¬ T (total a h) → X → After
          t_alone r v k x = inr (inr (minus_of R (total a h || (R && U)) r (λ m. no_more (either (total a h) (R && U) m)), x))
            where
              no_more : T (total a h) ⊎ T (R && U) → ⊥
              no_more (inl m) = k m
              no_more (inr m) = v (each R U m).1

          forth : Before → After
          forth (inl y) = old y
          forth (inr (inl (inl (v, y)))) = go (by_test R)
            where
              go : T R ⊎ (¬ T R) → After
              go (inl r) = met r v (inr y)
              go (inr r) = u_alone v r y
          forth (inr (inl (inr y))) = inr (inl y)
          forth (inr (inr (l, y))) = go (minus_to R (total a h) l) (by_test U)
            where
              go : T R × ¬ T (total a h) → T U ⊎ (¬ T U) → After
              go (r, k) (inl v) = met r v (inl y)
              go (r, k) (inr v) = t_alone r v k y

          -- and from where
          from_union : T R → T U → X ⊎ Y → Before
          from_union r v (inl y) = inr (inr (minus_of R (total a h) r (u_total a h v), y))
          from_union r v (inr y) = inr (inl (inl (v, y)))

          from₁ : Allows Holds result (str a (h ∷ hs) z) ⊎ (T (R && U) × Holds x (str h hs z)) → Before
          from₁ (inl y) = inl y
          from₁ (inr (l, y)) = let (r, v) = each R U l in from_union r v ((is_union (str h hs z)).0 y)

          from₂ : Allows Holds result₁ (str a (h ∷ hs) z) ⊎ (T (U && not (R && U)) × Y) → Before
          from₂ (inl y) = from₁ ((placed_allows p₁ a h hs z).0 y)
          from₂ (inr (l, y)) = inr (inl (inl ((minus_to U (R && U) l).0, y)))

          back : After → Before
          back (inl y) = from₂ ((placed_allows p₂ a h hs z).0 y)
          back (inr (inl y)) = inr (inl (inr y))
          back (inr (inr (l, y))) =
              let (r, k) = minus_to R (total a h || (R && U)) l in
              inr (inr (minus_of R (total a h) r (λ m. k (or_left (total a h) (R && U) m)), y))

        pub split_turn : Splitting t A us (total ∪ʳ (t.label ∩ʳ u.label)) result₂
        split_turn = record {
          disjoint = disjoint₂;
          rest_disjoint = rest_of s.rest_disjoint;
          apart = apart₂;
          total_apart = total_apart₂;
          total_has = total_has₂;
          allows = λ a h hs z. (λ y. (s.allows a h hs z).0 (back a h hs z y), λ y. forth a h hs z ((s.allows a h hs z).1 y));
        }

    pub split_end : {t : Transition Target n} {A : Language n} {total : Relation n} {result out : List (Transition Target n)} → Splitting t A [] total result →
        Placed (to t.target (t.label ∖ʳ total)) result out → IsDelta Holds out (Either A (Hop t.label (Holds t.target)))
    split_end {t} {A} {total} {result} {out} s p = record {
      disjoint = placed_disjoint p s.disjoint (λ a h l m. let (r, k) = minus_to (t.label a h) (total a h) l in k (s.total_has a h m r));
      allows = λ a h hs z. (λ y. (s.allows a h hs z).0 (there a h hs z ((placed_allows p a h hs z).0 y)), λ y. (placed_allows p a h hs z).1 (back a h hs z ((s.allows a h hs z).1 y)));
    }
      where
        Last : Language n
        Last = Hop (t.label ∖ʳ total) (Holds t.target)

        there : (a h : Packet n) (hs : List (Packet n)) (z : Packet n) → Allows Holds result (str a (h ∷ hs) z) ⊎ Last (str a (h ∷ hs) z) →
            Allows Holds result (str a (h ∷ hs) z) ⊎ (⊥ ⊎ Last (str a (h ∷ hs) z))
        there a h hs z (inl y) = inl y
        there a h hs z (inr y) = inr (inr y)

        back : (a h : Packet n) (hs : List (Packet n)) (z : Packet n) → Allows Holds result (str a (h ∷ hs) z) ⊎ (⊥ ⊎ Last (str a (h ∷ hs) z)) →
            Allows Holds result (str a (h ∷ hs) z) ⊎ Last (str a (h ∷ hs) z)
        back a h hs z (inl y) = inl y
        back a h hs z (inr (inl y)) = absurd y
        back a h hs z (inr (inr y)) = inr y

    -- ---- 2. which strings the transitions that an operation inserts allow together

    -- what a list covers, where it allows
    pub allows_covers : (list : List (Transition Target n)) (a h : Packet n) (hs : List (Packet n)) (z : Packet n) → Allows Holds list (str a (h ∷ hs) z) → T (covers list a h)
    allows_covers [] a h hs z x = x
    allows_covers (t ∷ ts) a h hs z (inl (l, x)) = or_left (t.label a h) (covers ts a h) l
    allows_covers (t ∷ ts) a h hs z (inr x) = or_right (t.label a h) (covers ts a h) (allows_covers ts a h hs z x)

    -- Of a disjoint list: where a label holds the pair, the list allows what its target holds and nothing else.
    pub allows_at : {list : List (Transition Target n)} → Disjoint list → {t : Transition Target n} → Memᴰ t list → (a h : Packet n) → T (t.label a h) →
        (hs : List (Packet n)) (z : Packet n) → Allows Holds list (str a (h ∷ hs) z) ↔ Holds t.target (str h hs z)
    allows_at {list} d {t} m a h l hs z = (there, λ x. through_of (λ t. t.label) (λ t. Holds t.target) (str a (h ∷ hs) z) m (l, x))
      where
        there : Allows Holds list (str a (h ∷ hs) z) → Holds t.target (str h hs z)
        there y =
            let (u, k, j, x) = in_parts (through_to (λ t. t.label) (λ t. Holds t.target) list (str a (h ∷ hs) z) y) in
            subst (λ u. Holds u.target (str h hs z)) (sym (disjoint_one d m k a h l j)) x
          where
            in_parts : (u : Transition Target n) × Memᴰ u list × (T (u.label a h) × Holds u.target (str h hs z)) →
                (u : Transition Target n) × Memᴰ u list × T (u.label a h) × Holds u.target (str h hs z)
            in_parts (u, k, (j, x)) = (u, k, j, x)

    -- Complement goes by which label holds (a, h): there the target must not hold the tail; where none does, any tail will do.
    pub complement_hops : {list : List (Transition Target n)} → Disjoint list →
        SameHops (λ w. Through (λ t. t.label) (λ t v. ¬ Holds t.target v) list w ⊎ Hop (∁ʳ (covers list)) (λ v. Unit {0}) w) (λ w. ¬ Allows Holds list w)
    complement_hops {list} d a h hs z = (there, λ never. back never (by_test (covers list a h)))
      where
        W : Str n
        W = str a (h ∷ hs) z

        C : Language n
        C = Through (λ t. t.label) (λ t v. ¬ Holds t.target v) list

        there : C W ⊎ (T (not (covers list a h)) × Unit {0}) → ¬ Allows Holds list W
        there (inl y) x =
            let (t, m, p) = through_to (λ t. t.label) (λ t v. ¬ Holds t.target v) list W y in
            p.1 ((allows_at d m a h p.0 hs z).0 x)
        there (inr y) x = not_to (covers list a h) y.0 (allows_covers list a h hs z x)

        back : ¬ Allows Holds list W → T (covers list a h) ⊎ (¬ T (covers list a h)) → C W ⊎ (T (not (covers list a h)) × Unit {0})
        back never (inl c) =
            let (t, m, l) = covers_to list a h c in
            inl (through_of (λ t. t.label) (λ t v. ¬ Holds t.target v) W m (l, λ x. never ((allows_at d m a h l hs z).1 x)))
        back never (inr c) = inr (not_of (covers list a h) c, tt)

    -- a pair of members
    pub pair_of : (r : Transition Target n → Transition Target n → Relation n) (B : Transition Target n → Transition Target n → Language n) {t u : Transition Target n}
        {ts us : List (Transition Target n)} (w : Str n) → Memᴰ t ts → Memᴰ u us → Hop (r t u) (B t u) w → ThroughPair r B ts us w
    pair_of r B {u} {us} w (Memᴰ.head e) k x = inl (through_of (r _) (B _) w k (subst (λ t. Hop (r t u) (B t u) w) e x))
    pair_of r B w (Memᴰ.tail m) k x = inr (pair_of r B w m k x)

    pub pair_to : (r : Transition Target n → Transition Target n → Relation n) (B : Transition Target n → Transition Target n → Language n)
        (ts us : List (Transition Target n)) (w : Str n) → ThroughPair r B ts us w →
        (t u : Transition Target n) × Memᴰ t ts × Memᴰ u us × Hop (r t u) (B t u) w
    pair_to r B [] us w x = absurd x
    pair_to r B (t ∷ ts) us w (inl x) =
        let (u, k, y) = through_to (r t) (B t) us w x in
        (t, u, Memᴰ.head refl, k, y)
    pair_to r B (t ∷ ts) us w (inr x) =
        let (v, u, m, k, y) = pair_to r B ts us w x in
        (v, u, Memᴰ.tail m, k, y)

    -- Intersect: where two labels meet, the intersection of the targets.
    pub intersection_hops : (ts us : List (Transition Target n)) →
        SameHops (ThroughPair (λ t u. t.label ∩ʳ u.label) (λ t u v. Holds t.target v × Holds u.target v) ts us) (λ w. Allows Holds ts w × Allows Holds us w)
    intersection_hops ts us a h hs z = (there, back)
      where
        W : Str n
        W = str a (h ∷ hs) z

        Both : Transition Target n → Transition Target n → Language n
        Both t u v = Holds t.target v × Holds u.target v

        there : ThroughPair (λ t u. t.label ∩ʳ u.label) Both ts us W → Allows Holds ts W × Allows Holds us W
        there y =
            let (t, u, m, k, p) = pair_to (λ t u. t.label ∩ʳ u.label) Both ts us W y in
            let (l, j) = each (t.label a h) (u.label a h) p.0 in
            (through_of (λ t. t.label) (λ t. Holds t.target) W m (l, p.1.0), through_of (λ t. t.label) (λ t. Holds t.target) W k (j, p.1.1))

        back : Allows Holds ts W × Allows Holds us W → ThroughPair (λ t u. t.label ∩ʳ u.label) Both ts us W
        back (x, y) =
            let (t, m, p) = through_to (λ t. t.label) (λ t. Holds t.target) ts W x in
            let (u, k, q) = through_to (λ t. t.label) (λ t. Holds t.target) us W y in
            pair_of (λ t u. t.label ∩ʳ u.label) Both W m k (both (t.label a h) (u.label a h) p.0 q.0, (p.1, q.1))

    -- Difference goes by which label of the second list holds (a, h). `shared` are the pairs that both lists cover.
    pub difference_hops : (ts us : List (Transition Target n)) → Disjoint us → (shared : Relation n) → ((a h : Packet n) → T (shared a h) ↔ (T (covers ts a h) × T (covers us a h))) →
        SameHops (λ w. ThroughPair (λ t u. t.label ∩ʳ u.label) (λ t u v. Holds t.target v × ¬ Holds u.target v) ts us w ⊎ Through (λ t. t.label ∖ʳ shared) (λ t. Holds t.target) ts w)
        (λ w. Allows Holds ts w × ¬ Allows Holds us w)
    difference_hops ts us d shared is_shared a h hs z = (there, back)
      where
        W : Str n
        W = str a (h ∷ hs) z

        Minus : Transition Target n → Transition Target n → Language n
        Minus t u v = Holds t.target v × ¬ Holds u.target v

        Met : Type 0
        Met = ThroughPair (λ t u. t.label ∩ʳ u.label) Minus ts us W

        Others : Type 0
        Others = Through (λ t. t.label ∖ʳ shared) (λ t. Holds t.target) ts W

        there : Met ⊎ Others → Allows Holds ts W × ¬ Allows Holds us W
        there (inl y) =
            let (t, u, m, k, p) = pair_to (λ t u. t.label ∩ʳ u.label) Minus ts us W y in
            let (l, j) = each (t.label a h) (u.label a h) p.0 in
            (through_of (λ t. t.label) (λ t. Holds t.target) W m (l, p.1.0), λ x. p.1.1 ((allows_at d k a h j hs z).0 x))
        there (inr y) =
            let (t, m, p) = through_to (λ t. t.label ∖ʳ shared) (λ t. Holds t.target) ts W y in
            let (l, j) = minus_to (t.label a h) (shared a h) p.0 in
            (through_of (λ t. t.label) (λ t. Holds t.target) W m (l, p.1), λ x. j ((is_shared a h).1 (covers_of m a h l, allows_covers us a h hs z x)))

        back : Allows Holds ts W × ¬ Allows Holds us W → Met ⊎ Others
        back (x, never) = go (through_to (λ t. t.label) (λ t. Holds t.target) ts W x) (by_test (covers us a h))
          where
            go : (t : Transition Target n) × Memᴰ t ts × Hop t.label (Holds t.target) W → T (covers us a h) ⊎ (¬ T (covers us a h)) → Met ⊎ Others
            go (t, m, p) (inl c) =
                let (u, k, j) = covers_to us a h c in
                inl (pair_of (λ t u. t.label ∩ʳ u.label) Minus W m k (both (t.label a h) (u.label a h) p.0 j, (p.1, λ x. never ((allows_at d k a h j hs z).1 x))))
            go (t, m, p) (inr c) = inr (through_of (λ t. t.label ∖ʳ shared) (λ t. Holds t.target) W m (minus_of (t.label a h) (shared a h) p.0 (λ x. c ((is_shared a h).0 x).1), p.1))

    -- Postcompose: joins whose first hop is of the first string.
    pub st_postcompose_hops : (ts : List (Transition Target n)) (E : Language n) → SameHops (Through (λ t. t.label) (λ t. Join (Holds t.target) E) ts) (Late (Allows Holds ts) E)
    st_postcompose_hops ts E a h hs z = (there, back)
      where
        W : Str n
        W = str a (h ∷ hs) z

        there : Through (λ t. t.label) (λ t. Join (Holds t.target) E) ts W → Late (Allows Holds ts) E W
        there y =
            let (t, m, p) = through_to (λ t. t.label) (λ t. Join (Holds t.target) E) ts W y in
            let j = p.1 in
            record {
              first = j.first;
              dropped = j.dropped;
              second = j.second;
              joined = j.joined;
              left = through_of (λ t. t.label) (λ t. Holds t.target) (str a (h ∷ j.first) j.dropped) m (p.0, j.left);
              right = j.right;
            }

        back : Late (Allows Holds ts) E W → Through (λ t. t.label) (λ t. Join (Holds t.target) E) ts W
        back j =
            let (t, m, p) = through_to (λ t. t.label) (λ t. Holds t.target) ts (str a (h ∷ j.first) j.dropped) j.left in
            through_of (λ t. t.label) (λ t. Join (Holds t.target) E) W m (
              p.0,
              record {
                first = j.first;
                dropped = j.dropped;
                second = j.second;
                joined = j.joined;
                left = p.1;
                right = j.right;
              },
            )

    -- Precompose: joins of a pair of r and a string of the list.
    pub st_precompose_hops : (r : Relation n) (ts : List (Transition Target n)) → SameHops (Through (λ t. r ⨾ t.label) (λ t. Holds t.target) ts) (Early r (Allows Holds ts))
    st_precompose_hops r ts a h hs z = (there, back)
      where
        W : Str n
        W = str a (h ∷ hs) z

        there : Through (λ t. r ⨾ t.label) (λ t. Holds t.target) ts W → Early r (Allows Holds ts) W
        there y =
            let (t, m, p) = through_to (λ t. r ⨾ t.label) (λ t. Holds t.target) ts W y in
            let (b, l, j) = seq_to r t.label a h p.0 in
            record { dropped = b; left = l; right = through_of (λ t. t.label) (λ t. Holds t.target) (str b (h ∷ hs) z) m (j, p.1) }

        back : Early r (Allows Holds ts) W → Through (λ t. r ⨾ t.label) (λ t. Holds t.target) ts W
        back e =
            let (t, m, p) = through_to (λ t. t.label) (λ t. Holds t.target) ts (str e.dropped (h ∷ hs) z) e.right in
            through_of (λ t. r ⨾ t.label) (λ t. Holds t.target) W m (seq_of r t.label a e.dropped h e.left p.0, p.1)

    -- Each target met with a state: strings of the list whose tail is in E.
    pub tail_hops : (ts : List (Transition Target n)) (E : Language n) →
        SameHops (Through (λ t. t.label) (λ t v. Holds t.target v × E v) ts) (λ w. Allows Holds ts w × Hop allʳ E w)
    tail_hops ts E a h hs z = (there, back)
      where
        W : Str n
        W = str a (h ∷ hs) z

        there : Through (λ t. t.label) (λ t v. Holds t.target v × E v) ts W → Allows Holds ts W × Hop allʳ E W
        there y =
            let (t, m, p) = through_to (λ t. t.label) (λ t v. Holds t.target v × E v) ts W y in
            (through_of (λ t. t.label) (λ t. Holds t.target) W m (p.0, p.1.0), (tt, p.1.1))

        back : Allows Holds ts W × Hop allʳ E W → Through (λ t. t.label) (λ t v. Holds t.target v × E v) ts W
        back (x, (u, e)) =
            let (t, m, p) = through_to (λ t. t.label) (λ t. Holds t.target) ts W x in
            through_of (λ t. t.label) (λ t v. Holds t.target v × E v) W m (p.0, (p.1, e))

  -- ---- while the targets keep their strings

  module _ (Holds Held : Target → Language n) where
    -- the targets of the list have the same strings by both
    abbrev pub Keeps : List (Transition Target n) → Type 0
    Keeps list = (t : Transition Target n) → Memᴰ t list → (w : Str n) → Holds t.target w ↔ Held t.target w

    pub allows_kept : (list : List (Transition Target n)) → Keeps list → SameHops (Allows Holds list) (Allows Held list)
    allows_kept list f a h hs z = (
      λ y.
          let (t, m, p) = through_to (λ t. t.label) (λ t. Holds t.target) list (str a (h ∷ hs) z) y in
          through_of (λ t. t.label) (λ t. Held t.target) (str a (h ∷ hs) z) m (p.0, (f t m (str h hs z)).0 p.1),
      λ y.
          let (t, m, p) = through_to (λ t. t.label) (λ t. Held t.target) list (str a (h ∷ hs) z) y in
          through_of (λ t. t.label) (λ t. Holds t.target) (str a (h ∷ hs) z) m (p.0, (f t m (str h hs z)).1 p.1),
    )

    pub delta_kept : {list : List (Transition Target n)} {A : Language n} → Keeps list → IsDelta Holds list A → IsDelta Held list A
    delta_kept {list} f d = record {
      disjoint = d.disjoint;
      allows = λ a h hs z. (λ y. (d.allows a h hs z).0 ((allows_kept list f a h hs z).1 y), λ y. (allows_kept list f a h hs z).0 ((d.allows a h hs z).1 y));
    }

    pub placed_kept : {t : Transition Target n} {list list' : List (Transition Target n)} → ((w : Str n) → Holds t.target w ↔ Held t.target w) →
        Placed Holds t list list' → Placed Held t list list'
    placed_kept f (left_off g) = left_off (λ a h hs z. (λ x. (g a h hs z).0 (x.0, (f (str h hs z)).1 x.1), λ x. absurd x))
    placed_kept f new = new
    placed_kept f (united e) = united e
    placed_kept f (past p) = past (placed_kept f p)

    -- the walk of st_insert goes on after a step that made new targets
    pub splitting_kept : {t : Transition Target n} {A : Language n} {rest : List (Transition Target n)} {total : Relation n} {result : List (Transition Target n)} →
        ((w : Str n) → Holds t.target w ↔ Held t.target w) → Keeps rest → Keeps result → Splitting Holds t A rest total result → Splitting Held t A rest total result
    splitting_kept {t} {A} {rest} {total} {result} f g k s = record {
      disjoint = s.disjoint;
      rest_disjoint = s.rest_disjoint;
      apart = s.apart;
      total_apart = s.total_apart;
      total_has = s.total_has;
      allows = λ a h hs z. (
        λ y. new a h hs z ((s.allows a h hs z).0 (old a h hs z y)),
        λ y. now a h hs z ((s.allows a h hs z).1 (before a h hs z y)),
      );
    }
      where
        New : (Target → Language n) → Language n
        New H = Hop t.label (H t.target)

        SoFar : (Target → Language n) → Language n
        SoFar H w = Allows H result w ⊎ (Allows H rest w ⊎ Hop (t.label ∖ʳ total) (H t.target) w)

        old : (a h : Packet n) (hs : List (Packet n)) (z : Packet n) → SoFar Held (str a (h ∷ hs) z) → SoFar Holds (str a (h ∷ hs) z)
        old a h hs z (inl y) = inl ((allows_kept result k a h hs z).1 y)
        old a h hs z (inr (inl y)) = inr (inl ((allows_kept rest g a h hs z).1 y))
        old a h hs z (inr (inr y)) = inr (inr (y.0, (f (str h hs z)).1 y.1))

        now : (a h : Packet n) (hs : List (Packet n)) (z : Packet n) → SoFar Holds (str a (h ∷ hs) z) → SoFar Held (str a (h ∷ hs) z)
        now a h hs z (inl y) = inl ((allows_kept result k a h hs z).0 y)
        now a h hs z (inr (inl y)) = inr (inl ((allows_kept rest g a h hs z).0 y))
        now a h hs z (inr (inr y)) = inr (inr (y.0, (f (str h hs z)).0 y.1))

        new : (a h : Packet n) (hs : List (Packet n)) (z : Packet n) → A (str a (h ∷ hs) z) ⊎ New Holds (str a (h ∷ hs) z) → A (str a (h ∷ hs) z) ⊎ New Held (str a (h ∷ hs) z)
        new a h hs z (inl y) = inl y
        new a h hs z (inr y) = inr (y.0, (f (str h hs z)).0 y.1)

        before : (a h : Packet n) (hs : List (Packet n)) (z : Packet n) → A (str a (h ∷ hs) z) ⊎ New Held (str a (h ∷ hs) z) → A (str a (h ∷ hs) z) ⊎ New Holds (str a (h ∷ hs) z)
        before a h hs z (inl y) = inl y
        before a h hs z (inr y) = inr (y.0, (f (str h hs z)).1 y.1)

  -- ---- a loop of inserts, by what is still to be walked

  module _ (A : Language n) where
    pub through_none : (r : Transition Target n → Relation n) (B : Transition Target n → Language n) → SameHops A (Either A (Through r B []))
    through_none r B a h hs z = (λ x. inl x, drop)
      where
        drop : A (str a (h ∷ hs) z) ⊎ ⊥ → A (str a (h ∷ hs) z)
        drop (inl x) = x
        drop (inr x) = absurd x

    -- what t's turn adds, and what the rest does
    pub through_more : (r : Transition Target n → Relation n) (B : Transition Target n → Language n) (t : Transition Target n) (ts : List (Transition Target n)) →
        SameHops (λ w. (A w ⊎ Hop (r t) (B t) w) ⊎ Through r B ts w) (Either A (Through r B (t ∷ ts)))
    through_more r B t ts a h hs z = (there, back)
      where
        W : Str n
        W = str a (h ∷ hs) z

        there : (A W ⊎ Hop (r t) (B t) W) ⊎ Through r B ts W → A W ⊎ (Hop (r t) (B t) W ⊎ Through r B ts W)
        there (inl (inl x)) = inl x
        there (inl (inr x)) = inr (inl x)
        there (inr x) = inr (inr x)

        back : A W ⊎ (Hop (r t) (B t) W ⊎ Through r B ts W) → (A W ⊎ Hop (r t) (B t) W) ⊎ Through r B ts W
        back (inl x) = inl (inl x)
        back (inr (inl x)) = inl (inr x)
        back (inr (inr x)) = inr x

    pub pair_none : (r : Transition Target n → Transition Target n → Relation n) (B : Transition Target n → Transition Target n → Language n) (us : List (Transition Target n)) →
        SameHops A (Either A (ThroughPair r B [] us))
    pair_none r B us a h hs z = (λ x. inl x, drop)
      where
        drop : A (str a (h ∷ hs) z) ⊎ ⊥ → A (str a (h ∷ hs) z)
        drop (inl x) = x
        drop (inr x) = absurd x

    pub pair_more : (r : Transition Target n → Transition Target n → Relation n) (B : Transition Target n → Transition Target n → Language n)
        (t : Transition Target n) (ts us : List (Transition Target n)) → SameHops (λ w. (A w ⊎ Through (r t) (B t) us w) ⊎ ThroughPair r B ts us w) (Either A (ThroughPair r B (t ∷ ts) us))
    pair_more r B t ts us a h hs z = (there, back)
      where
        W : Str n
        W = str a (h ∷ hs) z

        there : (A W ⊎ Through (r t) (B t) us W) ⊎ ThroughPair r B ts us W → A W ⊎ (Through (r t) (B t) us W ⊎ ThroughPair r B ts us W)
        there (inl (inl x)) = inl x
        there (inl (inr x)) = inr (inl x)
        there (inr x) = inr (inr x)

        back : A W ⊎ (Through (r t) (B t) us W ⊎ ThroughPair r B ts us W) → (A W ⊎ Through (r t) (B t) us W) ⊎ ThroughPair r B ts us W
        back (inl x) = inl (inl x)
        back (inr (inl x)) = inl (inr x)
        back (inr (inr x)) = inr x

-- ---- 3. the laws of the operations of Lists.antt

module _ {Target : Type 0} {n : ℕ} (𝓣 : Targets Target) (Holds : Target → Language n) (mean : TargetsHold 𝓣 Holds) where
  abbrev Edges : Type 0
  Edges = List (Transition Target n)

  void_allows : (t : Transition Target n) → T (void 𝓣 t) → SameHops (Hop t.label (Holds t.target)) (λ w. ⊥)
  void_allows t v a h hs z = (λ x. go x (either (not (nonempty t.label)) (𝓣.is_zero t.target) v), λ x. absurd x)
    where
      go : T (t.label a h) × Holds t.target (str h hs z) → T (not (nonempty t.label)) ⊎ T (𝓣.is_zero t.target) → ⊥
      go (l, x) (inl e) = not_to (nonempty t.label) e (nonempty_of t.label a h l)
      go (l, x) (inr e) = mean.zero_holds t.target e (str h hs z) x

  placed_in : (t : Transition Target n) (list : Edges) → Placed Holds t list (place_in 𝓣 t list)
  unfolding place_in
  placed_in t [] = new
  placed_in t (u ∷ us) = go (𝓣.same t.target u.target) refl (𝓣.before t.target u.target) (placed_in t us)
    where
      go : (b : Bool) → 𝓣.same t.target u.target ≡ b → (c : Bool) → Placed Holds t us (place_in 𝓣 t us) →
          Placed Holds t (u ∷ us) (if b then (to u.target (u.label ∪ʳ t.label) ∷ us) else if c then (t ∷ u ∷ us) else (u ∷ place_in 𝓣 t us))
      go true e c p = united (mean.same_one t.target u.target (rw e tt))
      go false e true p = new
      go false e false p = past p

  pub place_placed : (t : Transition Target n) (list : Edges) → Placed Holds t list (place 𝓣 t list)
  unfolding place
  place_placed t list = go (void 𝓣 t) refl
    where
      go : (b : Bool) → void 𝓣 t ≡ b → Placed Holds t list (if b then list else place_in 𝓣 t list)
      go true e = left_off (void_allows t (rw e tt))
      go false e = placed_in t list

  pub st_singleton_delta : (r : Relation n) (s : Target) → IsDelta Holds (st_singleton 𝓣 r s) (Hop r (Holds s))
  unfolding st_singleton
  st_singleton_delta r s = go (void 𝓣 (to s r)) refl
    where
      out : (a h : Packet n) (hs : List (Packet n)) (z : Packet n) → (T (r a h) × Holds s (str h hs z)) ⊎ ⊥ → T (r a h) × Holds s (str h hs z)
      out a h hs z (inl x) = x
      out a h hs z (inr x) = absurd x

      go : (b : Bool) → void 𝓣 (to s r) ≡ b → IsDelta Holds (if b then [] else (to s r ∷ [])) (Hop r (Holds s))
      go true e = record { disjoint = none; allows = λ a h hs z. (λ x. absurd x, λ x. (void_allows (to s r) (rw e tt) a h hs z).0 x) }
      go false e = record { disjoint = also (λ a h l m. m) none; allows = λ a h hs z. (out a h hs z, λ x. inl x) }

  split_delta : (t : Transition Target n) (A : Language n) (rest : Edges) (total : Relation n) (result : Edges) → Splitting Holds t A rest total result →
      IsDelta Holds (split 𝓣 t rest total result) (Either A (Hop t.label (Holds t.target)))
  unfolding split
  split_delta t A [] total result s = split_end Holds s (place_placed (to t.target (t.label ∖ʳ total)) result)
  split_delta t A (u ∷ us) total result s =
      split_delta t A us (total ∪ʳ (t.label ∩ʳ u.label)) _
      (split_turn Holds s (mean.union_holds t.target u.target) (place_placed _ result) (place_placed _ _))

  -- st_insert: what the list allowed, and what the new transition allows
  pub insert_delta : (t : Transition Target n) {list : Edges} {A : Language n} → IsDelta Holds list A → IsDelta Holds (insert 𝓣 t list) (Either A (Hop t.label (Holds t.target)))
  unfolding insert
  insert_delta t {list} {A} d = split_delta t A list noneʳ [] (split_begin Holds d)

  module _ (r : Transition Target n → Relation n) (B : Transition Target n → Language n) (f : Transition Target n → Transition Target n)
      (made : (t : Transition Target n) → SameHops (Hop (f t).label (Holds (f t).target)) (Hop (r t) (B t)))
    where
      pub each_delta : (ts : Edges) {list : Edges} {A : Language n} → IsDelta Holds list A → IsDelta Holds (insert_each 𝓣 f ts list) (Either A (Through r B ts))
      unfolding insert_each
      each_delta [] {list} {A} d = delta_same Holds (through_none A r B) d
      each_delta (t ∷ ts) {list} {A} d =
          delta_same Holds (through_more A r B t ts) (each_delta ts {A = Either A (Hop (r t) (B t))} (delta_with Holds (made t) (insert_delta (f t) d)))

      pub each_from_none : (ts : Edges) → IsDelta Holds (insert_each 𝓣 f ts []) (Through r B ts)
      each_from_none ts = delta_same Holds (λ a h hs z. (drop a h hs z, λ x. inr x)) (each_delta ts (delta_none Holds))
        where
          drop : (a h : Packet n) (hs : List (Packet n)) (z : Packet n) → ⊥ ⊎ Through r B ts (str a (h ∷ hs) z) → Through r B ts (str a (h ∷ hs) z)
          drop a h hs z (inl x) = absurd x
          drop a h hs z (inr x) = x

  module _ (r : Transition Target n → Transition Target n → Relation n) (B : Transition Target n → Transition Target n → Language n)
      (f : Transition Target n → Transition Target n → Transition Target n)
      (made : (t u : Transition Target n) → SameHops (Hop (f t u).label (Holds (f t u).target)) (Hop (r t u) (B t u)))
    where
      pub pairs_delta : (ts us : Edges) {list : Edges} {A : Language n} → IsDelta Holds list A → IsDelta Holds (insert_pairs 𝓣 f ts us list) (Either A (ThroughPair r B ts us))
      unfolding insert_pairs
      pairs_delta [] us {list} {A} d = delta_same Holds (pair_none A r B us) d
      pairs_delta (t ∷ ts) us {list} {A} d = delta_same Holds (pair_more A r B t ts us) (pairs_delta ts us (each_delta (r t) (B t) (f t) (made t) us d))

      pub pairs_from_none : (ts us : Edges) → IsDelta Holds (insert_pairs 𝓣 f ts us []) (ThroughPair r B ts us)
      pairs_from_none ts us = delta_same Holds (λ a h hs z. (drop a h hs z, λ x. inr x)) (pairs_delta ts us (delta_none Holds))
        where
          drop : (a h : Packet n) (hs : List (Packet n)) (z : Packet n) → ⊥ ⊎ ThroughPair r B ts us (str a (h ∷ hs) z) → ThroughPair r B ts us (str a (h ∷ hs) z)
          drop a h hs z (inl x) = absurd x
          drop a h hs z (inr x) = x

  -- a transition to a target with the strings of B
  made_of : (r : Relation n) (x : Target) (B : Language n) → ((w : Str n) → Holds x w ↔ B w) → SameHops (Hop r (Holds x)) (Hop r B)
  made_of r x B f a h hs z = (λ y. (y.0, (f (str h hs z)).0 y.1), λ y. (y.0, (f (str h hs z)).1 y.1))

  as_is : (t : Transition Target n) → SameHops (Hop t.label (Holds t.target)) (Hop t.label (Holds t.target))
  as_is t a h hs z = (λ x. x, λ x. x)

  module _ {ts : Edges} {A : Language n} (d : IsDelta Holds ts A) where
    pub complement_delta : IsDelta Holds (st_complement 𝓣 ts) (λ w. ¬ A w)
    unfolding st_complement
    complement_delta = delta_same Holds (λ a h hs z. (there a h hs z, back a h hs z))
        (insert_delta (to 𝓣.top (∁ʳ (covers ts)))
        (each_from_none (λ t. t.label) (λ t v. ¬ Holds t.target v) (λ t. to (𝓣.complement t.target) t.label)
        (λ t. made_of t.label (𝓣.complement t.target) (λ v. ¬ Holds t.target v) (mean.complement_holds t.target)) ts))
      where
        Complements : Language n
        Complements = Through (λ t. t.label) (λ t v. ¬ Holds t.target v) ts

        any_tail : (a h : Packet n) (hs : List (Packet n)) (z : Packet n) → Complements (str a (h ∷ hs) z) ⊎ Hop (∁ʳ (covers ts)) (Holds 𝓣.top) (str a (h ∷ hs) z) →
            Complements (str a (h ∷ hs) z) ⊎ Hop (∁ʳ (covers ts)) (λ v. Unit {0}) (str a (h ∷ hs) z)
        any_tail a h hs z (inl x) = inl x
        any_tail a h hs z (inr x) = inr (x.0, tt)

        to_top : (a h : Packet n) (hs : List (Packet n)) (z : Packet n) → Complements (str a (h ∷ hs) z) ⊎ Hop (∁ʳ (covers ts)) (λ v. Unit {0}) (str a (h ∷ hs) z) →
            Complements (str a (h ∷ hs) z) ⊎ Hop (∁ʳ (covers ts)) (Holds 𝓣.top) (str a (h ∷ hs) z)
        to_top a h hs z (inl x) = inl x
        to_top a h hs z (inr x) = inr (x.0, mean.top_holds (str h hs z))

        there : (a h : Packet n) (hs : List (Packet n)) (z : Packet n) → Complements (str a (h ∷ hs) z) ⊎ Hop (∁ʳ (covers ts)) (Holds 𝓣.top) (str a (h ∷ hs) z) → ¬ A (str a (h ∷ hs) z)
        there a h hs z y x = (complement_hops Holds d.disjoint a h hs z).0 (any_tail a h hs z y) ((d.allows a h hs z).1 x)

        back : (a h : Packet n) (hs : List (Packet n)) (z : Packet n) → ¬ A (str a (h ∷ hs) z) → Complements (str a (h ∷ hs) z) ⊎ Hop (∁ʳ (covers ts)) (Holds 𝓣.top) (str a (h ∷ hs) z)
        back a h hs z x = to_top a h hs z ((complement_hops Holds d.disjoint a h hs z).1 (λ y. x ((d.allows a h hs z).0 y)))

    pub st_postcompose_delta : (e : Target) → IsDelta Holds (st_postcompose 𝓣 ts e) (Late A (Holds e))
    unfolding st_postcompose
    st_postcompose_delta e = delta_same Holds (λ a h hs z. (λ y. there a h hs z ((st_postcompose_hops Holds ts (Holds e) a h hs z).0 y), λ y. (st_postcompose_hops Holds ts (Holds e) a h hs z).1 (back a h hs z y)))
        (each_from_none (λ t. t.label) (λ t. Join (Holds t.target) (Holds e)) (λ t. to (𝓣.sequence t.target e) t.label)
        (λ t. made_of t.label (𝓣.sequence t.target e) (Join (Holds t.target) (Holds e)) (mean.sequence_holds t.target e)) ts)
      where
        there : (a h : Packet n) (hs : List (Packet n)) (z : Packet n) → Late (Allows Holds ts) (Holds e) (str a (h ∷ hs) z) → Late A (Holds e) (str a (h ∷ hs) z)
        there a h hs z j = record {
          first = j.first;
          dropped = j.dropped;
          second = j.second;
          joined = j.joined;
          left = (d.allows a h j.first j.dropped).0 j.left;
          right = j.right;
        }

        back : (a h : Packet n) (hs : List (Packet n)) (z : Packet n) → Late A (Holds e) (str a (h ∷ hs) z) → Late (Allows Holds ts) (Holds e) (str a (h ∷ hs) z)
        back a h hs z j = record {
          first = j.first;
          dropped = j.dropped;
          second = j.second;
          joined = j.joined;
          left = (d.allows a h j.first j.dropped).1 j.left;
          right = j.right;
        }

    pub st_precompose_delta : (r : Relation n) → IsDelta Holds (st_precompose 𝓣 r ts) (Early r A)
    unfolding st_precompose
    st_precompose_delta r = delta_same Holds (λ a h hs z. (λ y. there a h hs z ((st_precompose_hops Holds r ts a h hs z).0 y), λ y. (st_precompose_hops Holds r ts a h hs z).1 (back a h hs z y)))
        (each_from_none (λ t. r ⨾ t.label) (λ t. Holds t.target) (λ t. to t.target (r ⨾ t.label)) (λ t a h hs z. (λ x. x, λ x. x)) ts)
      where
        there : (a h : Packet n) (hs : List (Packet n)) (z : Packet n) → Early r (Allows Holds ts) (str a (h ∷ hs) z) → Early r A (str a (h ∷ hs) z)
        there a h hs z e = record { dropped = e.dropped; left = e.left; right = (d.allows e.dropped h hs z).0 e.right }

        back : (a h : Packet n) (hs : List (Packet n)) (z : Packet n) → Early r A (str a (h ∷ hs) z) → Early r (Allows Holds ts) (str a (h ∷ hs) z)
        back a h hs z e = record { dropped = e.dropped; left = e.left; right = (d.allows e.dropped h hs z).1 e.right }

    pub tail_delta : (e : Target) → IsDelta Holds (st_intersect_expr 𝓣 ts e) (λ w. A w × Hop allʳ (Holds e) w)
    unfolding st_intersect_expr
    tail_delta e = delta_same Holds (λ a h hs z. (λ y. let (x, v) = (tail_hops Holds ts (Holds e) a h hs z).0 y in ((d.allows a h hs z).0 x, v), λ y. (tail_hops Holds ts (Holds e) a h hs z).1 ((d.allows a h hs z).1 y.0, y.1)))
        (each_from_none (λ t. t.label) (λ t v. Holds t.target v × Holds e v) (λ t. to (𝓣.intersection t.target e) t.label)
        (λ t. made_of t.label (𝓣.intersection t.target e) (λ v. Holds t.target v × Holds e v) (mean.intersection_holds t.target e)) ts)

  module _ {ts us : Edges} {A B : Language n} (d : IsDelta Holds ts A) (e : IsDelta Holds us B) where
    pub union_delta : IsDelta Holds (st_union 𝓣 ts us) (Either A B)
    unfolding st_union
    union_delta = delta_same Holds (λ a h hs z. (there a h hs z, back a h hs z))
        (each_delta (λ t. t.label) (λ t. Holds t.target) (λ t. t) as_is us (each_from_none (λ t. t.label) (λ t. Holds t.target) (λ t. t) as_is ts))
      where
        there : (a h : Packet n) (hs : List (Packet n)) (z : Packet n) → Allows Holds ts (str a (h ∷ hs) z) ⊎ Allows Holds us (str a (h ∷ hs) z) → A (str a (h ∷ hs) z) ⊎ B (str a (h ∷ hs) z)
        there a h hs z (inl x) = inl ((d.allows a h hs z).0 x)
        there a h hs z (inr x) = inr ((e.allows a h hs z).0 x)

        back : (a h : Packet n) (hs : List (Packet n)) (z : Packet n) → A (str a (h ∷ hs) z) ⊎ B (str a (h ∷ hs) z) → Allows Holds ts (str a (h ∷ hs) z) ⊎ Allows Holds us (str a (h ∷ hs) z)
        back a h hs z (inl x) = inl ((d.allows a h hs z).1 x)
        back a h hs z (inr x) = inr ((e.allows a h hs z).1 x)

    pub intersection_delta : IsDelta Holds (st_intersect 𝓣 ts us) (λ w. A w × B w)
    unfolding st_intersect
    intersection_delta =
        delta_same Holds (λ a h hs z. (
          λ y. let (x, v) = (intersection_hops Holds ts us a h hs z).0 y in ((d.allows a h hs z).0 x, (e.allows a h hs z).0 v),
          λ y. (intersection_hops Holds ts us a h hs z).1 ((d.allows a h hs z).1 y.0, (e.allows a h hs z).1 y.1),
        ))
        (pairs_from_none (λ t u. t.label ∩ʳ u.label) (λ t u v. Holds t.target v × Holds u.target v) (λ t u. to (𝓣.intersection t.target u.target) (t.label ∩ʳ u.label))
        (λ t u. made_of (t.label ∩ʳ u.label) (𝓣.intersection t.target u.target) (λ v. Holds t.target v × Holds u.target v) (mean.intersection_holds t.target u.target)) ts us)

    pub difference_delta : IsDelta Holds (st_difference 𝓣 ts us) (λ w. A w × ¬ B w)
    unfolding st_difference
    difference_delta =
        delta_same Holds (λ a h hs z. (
          λ y.
              let (x, v) = (law a h hs z).0 y in
              ((d.allows a h hs z).0 x, λ b. v ((e.allows a h hs z).1 b)),
          λ y. (law a h hs z).1 ((d.allows a h hs z).1 y.0, λ b. y.1 ((e.allows a h hs z).0 b)),
        ))
        (each_delta (λ t. t.label ∖ʳ (covers ts ∩ʳ covers us)) (λ t. Holds t.target) (λ t. to t.target (t.label ∖ʳ (covers ts ∩ʳ covers us))) (λ t a h hs z. (λ x. x, λ x. x)) ts
        (pairs_from_none (λ t u. t.label ∩ʳ u.label) (λ t u v. Holds t.target v × ¬ Holds u.target v) (λ t u. to (𝓣.difference t.target u.target) (t.label ∩ʳ u.label))
        (λ t u. made_of (t.label ∩ʳ u.label) (𝓣.difference t.target u.target) (λ v. Holds t.target v × ¬ Holds u.target v) (mean.difference_holds t.target u.target)) ts us))
      where
        law : SameHops (λ w. ThroughPair (λ t u. t.label ∩ʳ u.label) (λ t u v. Holds t.target v × ¬ Holds u.target v) ts us w ⊎ Through (λ t. t.label ∖ʳ (covers ts ∩ʳ covers us)) (λ t. Holds t.target) ts w)
            (λ w. Allows Holds ts w × ¬ Allows Holds us w)
        law = difference_hops Holds ts us e.disjoint (covers ts ∩ʳ covers us) (λ a h. (each (covers ts a h) (covers us a h), λ x. both (covers ts a h) (covers us a h) x.0 x.1))

  pub xor_delta : {ts us : Edges} {A B : Language n} → IsDelta Holds ts A → IsDelta Holds us B → IsDelta Holds (st_xor 𝓣 ts us) (λ w. (A w × ¬ B w) ⊎ (B w × ¬ A w))
  unfolding st_xor
  xor_delta d e = union_delta (difference_delta d e) (difference_delta e d)
