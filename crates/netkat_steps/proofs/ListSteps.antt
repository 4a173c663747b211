-- The laws of the list operations over a store: unless refused, each makes a list that is a delta of the right strings, with disjoint labels and
-- ascending targets, and all that the store had means what it meant.
use Rattle.std.specs.Prelude.{if◌then◌else◌}
use mathlib.Core.Path.{◌≡◌, refl, sym, subst}
use mathlib.Core.Logic.{◌↔◌, ◌⊎◌, inl, inr}
use mathlib.Core.Bool.{Bool, true, false, ◌&&◌, ◌||◌}
use mathlib.Core.List.Memᴰ
use mathlib.Core.List.{List, [], ◌∷◌, Memᴰ}
use lib.ListN.{length}
use lib.Dec.{T, eqb, ltb, eqb→eq}
use borrow.Author.Tests.{eqb-true, eqb-false, ltb-true, ltb-false}
use Prim.Native.Nat.{ℕ, ◌<◌}
use native.Mathlib.Omega.{arith}
use Rattle.common.specs.Packets.{Packet, Relation}
use Rattle.common.proofs.PacketLaws.{both, each, either, or_left, or_right}
use Rattle.common.proofs.RelationLaws.{not_of, not_to}
use Rattle.common.specs.Relations.{allʳ, ◌∪ʳ◌, ◌∩ʳ◌, ◌∖ʳ◌, ∁ʳ, ◌⨾◌}
use Rattle.common.specs.Outcome.{Outcome, given, Step, return, Gives, refusal, gives}
use Rattle.common.proofs.Follow.{call, branch}
use Rattle.netkat.specs.Strings.{Str, str}
use Rattle.netkat.specs.Rules.{Language, Join}
use Rattle.netkat.specs.Hops.{SameHops, Either, Hop, Late, Early}
use Rattle.netkat.specs.Lists.{State, Transition, to, covers, Disjoint, Above, Ascending, Through, ThroughPair, Allows}
use Rattle.netkat_steps.specs.ListSteps
use Rattle.netkat_steps.specs.ListSteps.{Label, Edge, edge, Operations, Readings, Later, MadeState, LawfulOps, Are, none, also, IsList, MadeList, leads_to, unite, enter, enter_in, place, split, insert, insert_each, insert_pairs}
use Rattle.netkat.specs.Promise.{Meaning, Kept, DeltaOf}
use Rattle.netkat.proofs.Laws.Lists as Lists

module _ {n : ℕ} {𝓞 : Operations} (𝓡 : Readings n 𝓞) where
  open 𝓡 use {Good, Known, Holds, IsLabel}

  -- ---- later stores

  pub later_refl : {σ : 𝓞.Store} → Good σ → Later 𝓡 σ σ
  later_refl g = record { good = g; known = λ s k. k; same = λ s k w. (λ x. x, λ x. x); label = λ l r i. i }

  pub later_trans : {σ σ₁ σ₂ : 𝓞.Store} → Later 𝓡 σ σ₁ → Later 𝓡 σ₁ σ₂ → Later 𝓡 σ σ₂
  later_trans f g = record {
    good = g.good;
    known = λ s k. g.known s (f.known s k);
    same = λ s k w. (λ x. (g.same s (f.known s k) w).0 ((f.same s k w).0 x), λ x. (f.same s k w).1 ((g.same s (f.known s k) w).1 x));
    label = λ l r i. g.label l r (f.label l r i);
  }

  pub are_later : {σ σ' : 𝓞.Store} {es : List Edge} {list : List (Transition State n)} → Later 𝓡 σ σ' → Are 𝓡 σ es list → Are 𝓡 σ' es list
  are_later f none = none
  are_later f (also k i a) = also (f.known _ k) (f.label _ _ i) (are_later f a)

  are_known : {σ : 𝓞.Store} {es : List Edge} {list : List (Transition State n)} → Are 𝓡 σ es list → (t : Transition State n) → Memᴰ t list → Known σ t.target
  are_known none t m = absurd (Memᴰ.not-nil m)
  are_known {σ} (also {s} {r} {ts} k i a) t m = go (Memᴰ.cases_cons m) (λ m. are_known a t m)
    where
      go : (t ≡ to s r) ⊎ Memᴰ t ts → (Memᴰ t ts → Known σ t.target) → Known σ t.target
      go (inl e) rec = subst (λ t. Known σ t.target) (sym e) k
      go (inr m) rec = rec m

  keeps : {σ σ' : 𝓞.Store} {es : List Edge} {list : List (Transition State n)} → Later 𝓡 σ σ' → Are 𝓡 σ es list → Lists.Keeps (Holds σ) (Holds σ') list
  keeps f a t m w = f.same t.target (are_known a t m) w

  pub list_later : {A : Language n} {σ σ' : 𝓞.Store} {es : List Edge} → Later 𝓡 σ σ' → IsList 𝓡 A σ es → IsList 𝓡 A σ' es
  list_later {σ} {σ'} f i = record {
    list = i.list;
    are = are_later f i.are;
    delta = Lists.delta_kept (Holds σ) (Holds σ') (keeps f i.are) i.delta;
    ascending = i.ascending;
  }

  pub list_same : {A B : Language n} {σ : 𝓞.Store} {es : List Edge} → SameHops A B → IsList 𝓡 A σ es → IsList 𝓡 B σ es
  list_same {σ} f i = record { list = i.list; are = i.are; delta = Lists.delta_same (Holds σ) f i.delta; ascending = i.ascending }

  pub list_none : {σ : 𝓞.Store} → IsList 𝓡 (λ w. ⊥) σ []
  list_none {σ} = record { list = []; are = none; delta = Lists.delta_none (Holds σ); ascending = Ascending.none }

  -- ---- as an automaton's answers (Promise.antt)

  abbrev pub meaning_of : Meaning n 𝓞.Store
  meaning_of = record { Good = Good; Known = Known; Holds = Holds }

  pub later_kept : {σ σ' : 𝓞.Store} → Later 𝓡 σ σ' → Kept meaning_of σ σ'
  later_kept f = record { good = f.good; known = f.known; same = f.same }

  pub list_delta : {σ : 𝓞.Store} (s : State) {es : List Edge} (i : IsList 𝓡 (Holds σ s) σ es) → DeltaOf meaning_of σ s i.list
  list_delta s i = record { known = are_known i.are; ascending = i.ascending; is = i.delta }

  weaken : {S A : Type 0} {P Q : S → A → Type 0} {o : Outcome S A} → ((σ : S) (a : A) → P σ a → Q σ a) → Gives P o → Gives Q o
  weaken f refusal = refusal
  weaken f (gives {σ} {a} p) = gives (f σ a p)

  pub made_same : {A B : Language n} {σ : 𝓞.Store} {o : Outcome 𝓞.Store (List Edge)} → SameHops A B → Gives (MadeList 𝓡 A σ) o → Gives (MadeList 𝓡 B σ) o
  made_same f = weaken (λ σ' es m. record { later = m.later; is = list_same f m.is })

  pub made_by : {A B : Language n} {σ : 𝓞.Store} {o : Outcome 𝓞.Store (List Edge)} → SameHops B A → Gives (MadeList 𝓡 A σ) o → Gives (MadeList 𝓡 B σ) o
  made_by f = made_same (λ a h hs z. ((f a h hs z).1, (f a h hs z).0))

  pub made_from : {A : Language n} {σ σ₁ : 𝓞.Store} {o : Outcome 𝓞.Store (List Edge)} → Later 𝓡 σ σ₁ → Gives (MadeList 𝓡 A σ₁) o → Gives (MadeList 𝓡 A σ) o
  made_from f = weaken (λ σ' es m. record { later = later_trans f m.later; is = m.is })

  -- ---- st_insert_helper

  record PlacedIn (s : State) (r : Relation n) (list : List (Transition State n)) (σ σ' : 𝓞.Store) (es : List Edge) : Type 0 where
    later : Later 𝓡 σ σ'
    list' : List (Transition State n)
    are : Are 𝓡 σ' es list'
    placed : Lists.Placed (Holds σ') (to s r) list list'
    above : (x : State) → x < s → Above x list → Above x list'
    ascending : Ascending list → Ascending list'

  cons_above : (x : State) (t : Transition State n) {ts : List (Transition State n)} → x < t.target → Above x ts → Above x (t ∷ ts)
  cons_above x t {ts} l a v m = go (Memᴰ.cases_cons m)
    where
      go : (v ≡ t) ⊎ Memᴰ v ts → x < v.target
      go (inl e) = subst (λ v. x < v.target) (sym e) l
      go (inr k) = a v k

  head_above : (x : State) (t : Transition State n) {ts : List (Transition State n)} → Above x (t ∷ ts) → x < t.target
  head_above x t a = a t (Memᴰ.head refl)

  tail_above : (x : State) (t : Transition State n) {ts : List (Transition State n)} → Above x (t ∷ ts) → Above x ts
  tail_above x t a v m = a v (Memᴰ.tail m)

  -- what a list leads to is above what is below its targets
  leads_above : {σ : 𝓞.Store} {es : List Edge} {list : List (Transition State n)} (s x : State) → Are 𝓡 σ es list → T (leads_to 𝓞 s es) → Above x list → x < s
  leads_above s x none t a = absurd t
  leads_above s x (also {s = u} {r} {es} {ts} k i b) t a = go (either (eqb s u) (leads_to 𝓞 s es) t) (λ v. leads_above s x b v (tail_above x (to u r) a))
    where
      go : T (eqb s u) ⊎ T (leads_to 𝓞 s es) → (T (leads_to 𝓞 s es) → x < s) → x < s
      go (inl e) rec = subst (λ s. x < s) (sym (eqb→eq s u e)) (head_above x (to u r) a)
      go (inr v) rec = rec v

  module _ (fits : LawfulOps 𝓡) where
    unite_true : {σ : 𝓞.Store} {es : List Edge} {list : List (Transition State n)} (s : State) {l : Label} {r : Relation n} → Good σ → IsLabel σ l r → Are 𝓡 σ es list →
        T (leads_to 𝓞 s es) → Gives (PlacedIn s r list σ) (unite 𝓞 s l es σ)
    unfolding unite
    unite_true s g il none t = absurd t
    unite_true {σ} s {l} {r} g il (also {s = u} {l = m} {r = q} {es} {ts} k i a) t = branch (eqb s u) _ _ σ
        (λ e. call (fits.union_fits g i il) (λ σ₁ p M. gives (record {
          later = M.later;
          list' = to u (q ∪ʳ r) ∷ ts;
          are = also (M.later.known u k) M.is (are_later M.later a);
          placed = Lists.united (eqb-true s u e);
          above = λ x lt ab. cons_above x (to u (q ∪ʳ r)) (head_above x (to u q) ab) (tail_above x (to u q) ab);
          ascending = relabel;
        })))
        (λ e. call (unite_true s g il a (there e)) (λ σ₁ es' P. gives (record {
          later = P.later;
          list' = to u q ∷ P.list';
          are = also (P.later.known u k) (P.later.label m q i) P.are;
          placed = Lists.past P.placed;
          above = λ x lt ab. cons_above x (to u q) (head_above x (to u q) ab) (P.above x lt (tail_above x (to u q) ab));
          ascending = further e P.above P.ascending;
        })))
      where
        relabel : Ascending (to u q ∷ ts) → Ascending (to u (q ∪ʳ r) ∷ ts)
        relabel (Ascending.also p d) = Ascending.also p d

        there : eqb s u ≡ false → T (leads_to 𝓞 s es)
        there e = go (either (eqb s u) (leads_to 𝓞 s es) t)
          where
            go : T (eqb s u) ⊎ T (leads_to 𝓞 s es) → T (leads_to 𝓞 s es)
            go (inl v) = absurd (subst (λ b. T b) e v)
            go (inr v) = v

        further : eqb s u ≡ false → {ts' : List (Transition State n)} → ((x : State) → x < s → Above x ts → Above x ts') → (Ascending ts → Ascending ts') → Ascending (to u q ∷ ts) → Ascending (to u q ∷ ts')
        further e f h (Ascending.also p d) = Ascending.also (f u (leads_above s u a (there e) p) p) (h d)

    enter_true : {σ : 𝓞.Store} {es : List Edge} {list : List (Transition State n)} (s : State) {l : Label} {r : Relation n} → Good σ → Known σ s → IsLabel σ l r → Are 𝓡 σ es list →
        leads_to 𝓞 s es ≡ false → PlacedIn s r list σ σ (enter 𝓞 s l es)
    unfolding enter
    enter_true s {r} g ks il none f = record {
      later = later_refl g;
      list' = to s r ∷ [];
      are = also ks il none;
      placed = Lists.new;
      above = λ x lt ab. cons_above x (to s r) lt ab;
      ascending = λ d. Ascending.also (λ v m. absurd (Memᴰ.not-nil m)) d;
    }
    enter_true {σ} s {l} {r} g ks il (also {s = u} {l = m} {r = q} {es} {ts} k i a) f = go (ltb s u) refl (enter_true s g ks il a (no_later (eqb s u) (leads_to 𝓞 s es) f))
      where
        no_later : (b c : Bool) → (b || c) ≡ false → c ≡ false
        no_later true c e = absurd (subst (λ b. T b) e tt)
        no_later false c e = e

        not_here : (b c : Bool) → (b || c) ≡ false → b ≡ false
        not_here true c e = absurd (subst (λ b. T b) e tt)
        not_here false c e = refl

        before : s < u → Ascending (to u q ∷ ts) → Ascending (to s r ∷ to u q ∷ ts)
        before lt (Ascending.also p d) = Ascending.also (cons_above s (to u q) lt all_above) (Ascending.also p d)
          where
            all_above : Above s ts
            all_above v m = let q : u < v.target = p v m in omega arith

        behind : u < s → {ts' : List (Transition State n)} → ((x : State) → x < s → Above x ts → Above x ts') → (Ascending ts → Ascending ts') → Ascending (to u q ∷ ts) → Ascending (to u q ∷ ts')
        behind lt f h (Ascending.also p d) = Ascending.also (f u lt p) (h d)

        go : (b : Bool) → ltb s u ≡ b → PlacedIn s r ts σ σ (enter 𝓞 s l es) → PlacedIn s r (to u q ∷ ts) σ σ (if b then (edge s l ∷ edge u m ∷ es) else (edge u m ∷ enter 𝓞 s l es))
        go true e P = record {
          later = later_refl g;
          list' = to s r ∷ to u q ∷ ts;
          are = also ks il (also k i a);
          placed = Lists.new;
          above = λ x lt ab. cons_above x (to s r) lt ab;
          ascending = before (ltb-true s u e);
        }
        go false e P = record {
          later = later_refl g;
          list' = to u q ∷ P.list';
          are = also k i P.are;
          placed = Lists.past P.placed;
          above = λ x lt ab. cons_above x (to u q) (head_above x (to u q) ab) (P.above x lt (tail_above x (to u q) ab));
          ascending = behind (omega (arith, ltb-false s u e, eqb-false s u (not_here (eqb s u) (leads_to 𝓞 s es) f))) P.above P.ascending;
        }

    placed_from : {s : State} {r : Relation n} {list : List (Transition State n)} {σ σ₁ : 𝓞.Store} {o : Outcome 𝓞.Store (List Edge)} → Later 𝓡 σ σ₁ →
        Gives (PlacedIn s r list σ₁) o → Gives (PlacedIn s r list σ) o
    placed_from f = weaken (λ σ' es P. record { later = later_trans f P.later; list' = P.list'; are = P.are; placed = P.placed; above = P.above; ascending = P.ascending })

    place_true : {σ : 𝓞.Store} {es : List Edge} {list : List (Transition State n)} (s : State) (l : Label) {r : Relation n} → Good σ → Known σ s → IsLabel σ l r → Are 𝓡 σ es list →
        Gives (PlacedIn s r list σ) (place 𝓞 s l es σ)
    unfolding place enter_in
    place_true {σ} {es} {list} s l {r} g ks il a = branch (eqb l 𝓞.zero) _ _ σ
        (λ e. gives (record {
          later = later_refl g;
          list' = list;
          are = a;
          placed = Lists.left_off (λ b h hs z. (λ x. fits.zero_has_none g (subst (λ l. IsLabel σ l r) (eqb-true l 𝓞.zero e) il) b h x.0, λ x. absurd x));
          above = λ x lt ab. ab;
          ascending = λ d. d;
        }))
        (λ e. call (fits.mk_zero_fits g) (λ σ₁ z Z.
        let a₁ = are_later Z.later a in
        branch (eqb s z) _ _ σ₁
        (λ e. gives (record {
          later = Z.later;
          list' = list;
          are = a₁;
          placed = Lists.left_off (λ b h hs w. (λ x. (Z.strings (str h hs w)).0 (subst (λ s. Holds σ₁ s (str h hs w)) (eqb-true s z e) x.1), λ x. absurd x));
          above = λ x lt ab. ab;
          ascending = λ d. d;
        }))
        (λ e. branch (leads_to 𝓞 s es) _ _ σ₁
        (λ t. placed_from Z.later (unite_true s Z.later.good (Z.later.label l r il) a₁ (subst (λ b. T b) (sym t) tt)))
        (λ f. branch (ltb (length es) 𝓞.limit) _ _ σ₁
        (λ t. placed_from Z.later (gives (enter_true s Z.later.good (Z.later.known s ks) (Z.later.label l r il) a₁ f)))
        (λ f. refusal)))))

    -- ---- st_insert

    split_true : (us : List Edge) {σ : 𝓞.Store} {es : List Edge} {rest result : List (Transition State n)} (s : State) (l total : Label) {r tot : Relation n} {A B : Language n} →
        Good σ → Known σ s → ((w : Str n) → Holds σ s w ↔ B w) → IsLabel σ l r → Are 𝓡 σ us rest → IsLabel σ total tot → Are 𝓡 σ es result → Ascending result →
        Lists.Splitting (Holds σ) (to s r) A rest tot result → Gives (MadeList 𝓡 (Either A (Hop r B)) σ) (split 𝓞 s l us total es σ)
    unfolding split
    split_true [] {σ} {result} s l total {r} {tot} {A} {B} g ks strings il none it b up S =
        call (fits.difference_fits g il it) (λ σ₁ d D.
        weaken (λ σ₂ es₂ P. finish σ₂ es₂ (later_trans D.later P.later) P) (place_true s d D.later.good (D.later.known s ks) D.is (are_later D.later b)))
      where
        finish : {σ₁ : 𝓞.Store} (σ₂ : 𝓞.Store) (es₂ : List Edge) → Later 𝓡 σ σ₂ → PlacedIn s (r ∖ʳ tot) result σ₁ σ₂ es₂ → MadeList 𝓡 (Either A (Hop r B)) σ σ₂ es₂
        finish σ₂ es₂ f P = record {
          later = f;
          is = record {
            list = P.list';
            are = P.are;
            delta = Lists.delta_with (Holds σ₂) (λ a h hs z. (
              λ x. (x.0, (strings (str h hs z)).0 ((f.same s ks (str h hs z)).1 x.1)),
              λ x. (x.0, (f.same s ks (str h hs z)).0 ((strings (str h hs z)).1 x.1)),
            )) (Lists.split_end (Holds σ₂) (Lists.splitting_kept (Holds σ) (Holds σ₂) (f.same s ks) (λ t m. absurd (Memᴰ.not-nil m)) (keeps f b) S) P.placed);
            ascending = P.ascending up;
          };
        }
    split_true (e ∷ us) {σ} s l total {r} {tot} {A} {B} g ks strings il (also {s = u} {l = m} {r = q} ku im a) it b up S =
        call (fits.intersect_fits g il im) (λ σ₁ meet M.
        call (fits.mk_union_fits s u M.later.good (M.later.known s ks) (M.later.known u ku)) (λ σ₂ x X.
        let f₂ = later_trans M.later X.later in
        call (place_true x meet f₂.good X.known (X.later.label meet _ M.is) (are_later f₂ b)) (λ σ₃ es₃ P.
        let f₃ = later_trans f₂ P.later in
        let i₃ = P.later.label meet _ (X.later.label meet _ M.is) in
        call (fits.union_fits f₃.good (f₃.label total tot it) i₃) (λ σ₄ total₄ U.
        let f₄ = later_trans f₃ U.later in
        call (fits.difference_fits f₄.good (f₄.label m q im) (U.later.label meet _ i₃)) (λ σ₅ others O.
        let f₅ = later_trans f₄ O.later in
        let since₃ = later_trans U.later O.later in
        call (place_true u others f₅.good (f₅.known u ku) O.is (are_later since₃ P.are)) (λ σ₆ es₆ R.
        let f₆ = later_trans f₅ R.later in
        let from₃ = later_trans since₃ R.later in
        let from₂ = later_trans P.later from₃ in
        let from₁ = later_trans X.later from₂ in
        made_from f₆ (split_true us s l total₄ f₆.good (f₆.known s ks)
        (λ w. (λ y. (strings w).0 ((f₆.same s ks w).1 y), λ y. (f₆.same s ks w).0 ((strings w).1 y)))
        (f₆.label l r il) (are_later f₆ a) (R.later.label total₄ _ (O.later.label total₄ _ U.is)) R.are (R.ascending (P.ascending up))
        (Lists.split_turn (Holds σ₆)
        (Lists.splitting_kept (Holds σ) (Holds σ₆) (f₆.same s ks) (keeps f₆ (also ku im a)) (keeps f₆ b) S)
        (is_union σ₁ σ₂ σ₆ x X from₂ from₁ (M.later.known s ks) (M.later.known u ku))
        (Lists.placed_kept (Holds σ₃) (Holds σ₆) (from₃.same x (P.later.known x X.known)) P.placed)
        R.placed))))))))
      where
        is_union : (σ₁ σ₂ σ₆ : 𝓞.Store) (x : State) → MadeState 𝓡 (λ w. Holds σ₁ s w ⊎ Holds σ₁ u w) σ₁ σ₂ x → Later 𝓡 σ₂ σ₆ → Later 𝓡 σ₁ σ₆ → Known σ₁ s → Known σ₁ u →
            (w : Str n) → Holds σ₆ x w ↔ (Holds σ₆ s w ⊎ Holds σ₆ u w)
        is_union σ₁ σ₂ σ₆ x X f₂ f₁ k₁ k₂ w = (λ y. there ((X.strings w).0 ((f₂.same x X.known w).1 y)), λ y. (f₂.same x X.known w).0 ((X.strings w).1 (back y)))
          where
            there : Holds σ₁ s w ⊎ Holds σ₁ u w → Holds σ₆ s w ⊎ Holds σ₆ u w
            there (inl y) = inl ((f₁.same s k₁ w).0 y)
            there (inr y) = inr ((f₁.same u k₂ w).0 y)

            back : Holds σ₆ s w ⊎ Holds σ₆ u w → Holds σ₁ s w ⊎ Holds σ₁ u w
            back (inl y) = inl ((f₁.same s k₁ w).1 y)
            back (inr y) = inr ((f₁.same u k₂ w).1 y)

    -- What the list was a delta of, and what the new transition allows: B are the strings of its target.
    pub insert_true : {σ : 𝓞.Store} {es : List Edge} (s : State) (l : Label) {r : Relation n} {A B : Language n} → Good σ → Known σ s → ((w : Str n) → Holds σ s w ↔ B w) → IsLabel σ l r →
        IsList 𝓡 A σ es → Gives (MadeList 𝓡 (Either A (Hop r B)) σ) (insert 𝓞 s l es σ)
    unfolding insert
    insert_true {σ} s l g ks strings il i =
        split_true _ s l 𝓞.zero g ks strings il i.are (fits.zero_is g) none Ascending.none (Lists.split_begin (Holds σ) i.delta)

    -- a list that was begun with the empty one
    made_none : {C D : Language n} {σ : 𝓞.Store} {o : Outcome 𝓞.Store (List Edge)} → SameHops C D → Gives (MadeList 𝓡 (Either (λ w. ⊥) C) σ) o → Gives (MadeList 𝓡 D σ) o
    made_none {C} {D} f m = made_same {A = Either (λ w. ⊥) C} {B = D} (λ a h hs z. (there a h hs z, λ x. inr ((f a h hs z).1 x))) m
      where
        there : (a h : Packet n) (hs : List (Packet n)) (z : Packet n) → ⊥ ⊎ C (str a (h ∷ hs) z) → D (str a (h ∷ hs) z)
        there a h hs z (inl x) = absurd x
        there a h hs z (inr x) = (f a h hs z).0 x

    -- ---- for each transition of a list, what is made of it is inserted

    -- a step from σ has made an edge whose label is r and whose target has the strings of B
    pub record MadeEdge (r : Relation n) (B : Language n) (σ σ' : 𝓞.Store) (e : Edge) : Type 0 where
      pub later : Later 𝓡 σ σ'
      pub known : Known σ' e.target
      pub strings : (w : Str n) → Holds σ' e.target w ↔ B w
      pub is : IsLabel σ' e.label r

    -- σ₀ is where the lists are given; what is made of an edge may depend on what it means there
    module _ (σ₀ : 𝓞.Store) where
      pub each_true : (r : Transition State n → Relation n) (B : Transition State n → Language n) (make : Edge → Step 𝓞.Store Edge)
          (makes : (σ : 𝓞.Store) (s : State) (l : Label) (q : Relation n) → Later 𝓡 σ₀ σ → Known σ₀ s → IsLabel σ₀ l q → Gives (MadeEdge (r (to s q)) (B (to s q)) σ) (make (edge s l) σ))
          (ts : List Edge) {list : List (Transition State n)} {σ : 𝓞.Store} {es : List Edge} {A : Language n} → Are 𝓡 σ₀ ts list → Later 𝓡 σ₀ σ → IsList 𝓡 A σ es →
          Gives (MadeList 𝓡 (Either A (Through r B list)) σ) (insert_each 𝓞 make ts es σ)
      unfolding insert_each
      each_true r B make makes [] {A} none f i = gives (record { later = later_refl f.good; is = list_same (Lists.through_none A r B) i })
      each_true r B make makes (e ∷ ts) {A} (also {s} {l} {r = q} {ts = rest} k il a) f i =
          call (makes _ s l q f k il) (λ σ₁ e₁ M.
          call (insert_true e₁.target e₁.label M.later.good M.known M.strings M.is (list_later M.later i)) (λ σ₂ es₂ I.
          let f₂ = later_trans M.later I.later in
          made_same (Lists.through_more A r B (to s q) rest)
          (made_from f₂ (each_true r B make makes ts {A = Either A (Hop (r (to s q)) (B (to s q)))} a (later_trans f f₂) I.is))))

      pub pairs_true : (r : Transition State n → Transition State n → Relation n) (B : Transition State n → Transition State n → Language n) (make : Edge → Edge → Step 𝓞.Store Edge)
          (makes : (σ : 𝓞.Store) (s : State) (l : Label) (q : Relation n) (s' : State) (l' : Label) (q' : Relation n) → Later 𝓡 σ₀ σ → Known σ₀ s → IsLabel σ₀ l q → Known σ₀ s' → IsLabel σ₀ l' q' →
          Gives (MadeEdge (r (to s q) (to s' q')) (B (to s q) (to s' q')) σ) (make (edge s l) (edge s' l') σ))
          (ts us : List Edge) {list list' : List (Transition State n)} {σ : 𝓞.Store} {es : List Edge} {A : Language n} → Are 𝓡 σ₀ ts list → Are 𝓡 σ₀ us list' → Later 𝓡 σ₀ σ → IsList 𝓡 A σ es →
          Gives (MadeList 𝓡 (Either A (ThroughPair r B list list')) σ) (insert_pairs 𝓞 make ts us es σ)
      unfolding insert_pairs
      pairs_true r B make makes [] us {list'} {A} none b f i = gives (record { later = later_refl f.good; is = list_same (Lists.pair_none A r B list') i })
      pairs_true r B make makes (e ∷ ts) us {list'} {A} (also {s} {l} {r = q} {ts = rest} k il a) b f i =
          call (each_true (r (to s q)) (B (to s q)) (make (edge s l)) (λ σ s' l' q' f k' il'. makes σ s l q s' l' q' f k il k' il') us b f i) (λ σ₁ es₁ I.
          made_same (Lists.pair_more A r B (to s q) rest list')
          (made_from I.later (pairs_true r B make makes ts us {A = Either A (Through (r (to s q)) (B (to s q)) list')} a b (later_trans f I.later) I.is)))

      -- ---- the operations

      abbrev Own : Transition State n → Language n
      Own t = Holds σ₀ t.target

      as_they_are : (σ : 𝓞.Store) (s : State) (l : Label) (q : Relation n) → Later 𝓡 σ₀ σ → Known σ₀ s → IsLabel σ₀ l q → Gives (MadeEdge q (Holds σ₀ s) σ) (given σ (edge s l))
      as_they_are σ s l q f k il = gives (record { later = later_refl f.good; known = f.known s k; strings = λ w. ((f.same s k w).1, (f.same s k w).0); is = f.label l q il })

      module _ (g : Good σ₀) where
        pub union_true : {ts us : List Edge} {A B : Language n} → IsList 𝓡 A σ₀ ts → IsList 𝓡 B σ₀ us → Gives (MadeList 𝓡 (Either A B) σ₀) (ListSteps.st_union 𝓞 ts us σ₀)
        unfolding ListSteps.st_union
        union_true {ts} {us} {A} {B} i j =
            call (each_true (λ t. t.label) Own return as_they_are ts i.are (later_refl g) list_none) (λ σ₁ es₁ F.
            made_same {A = Either (Either (λ w. ⊥) (Through (λ t. t.label) Own i.list)) (Through (λ t. t.label) Own j.list)} same
            (made_from F.later (each_true (λ t. t.label) Own return as_they_are us j.are F.later F.is)))
          where
            same : SameHops (Either (Either (λ w. ⊥) (Through (λ t. t.label) Own i.list)) (Through (λ t. t.label) Own j.list)) (Either A B)
            same a h hs z = (there, back)
              where
                W : Str n
                W = str a (h ∷ hs) z

                there : (⊥ ⊎ Through (λ t. t.label) Own i.list W) ⊎ Through (λ t. t.label) Own j.list W → A W ⊎ B W
                there (inl (inl x)) = absurd x
                there (inl (inr x)) = inl ((i.delta.allows a h hs z).0 x)
                there (inr x) = inr ((j.delta.allows a h hs z).0 x)

                back : A W ⊎ B W → (⊥ ⊎ Through (λ t. t.label) Own i.list W) ⊎ Through (λ t. t.label) Own j.list W
                back (inl x) = inl (inr ((i.delta.allows a h hs z).1 x))
                back (inr x) = inr ((j.delta.allows a h hs z).1 x)

        pub intersection_true : {ts us : List Edge} {A B : Language n} → IsList 𝓡 A σ₀ ts → IsList 𝓡 B σ₀ us →
            Gives (MadeList 𝓡 (λ w. A w × B w) σ₀) (ListSteps.st_intersect 𝓞 ts us σ₀)
        unfolding ListSteps.st_intersect
        intersection_true {ts} {us} {A} {B} i j = made_none same (pairs_true (λ t u. t.label ∩ʳ u.label) (λ t u v. Own t v × Own u v) (ListSteps.meet_of 𝓞) makes ts us i.are j.are (later_refl g) list_none)
          where
            same : SameHops (ThroughPair (λ t u. t.label ∩ʳ u.label) (λ t u v. Own t v × Own u v) i.list j.list) (λ w. A w × B w)
            same a h hs z = (
              λ y. let (x, v) = (Lists.intersection_hops (Holds σ₀) i.list j.list a h hs z).0 y in ((i.delta.allows a h hs z).0 x, (j.delta.allows a h hs z).0 v),
              λ y. (Lists.intersection_hops (Holds σ₀) i.list j.list a h hs z).1 ((i.delta.allows a h hs z).1 y.0, (j.delta.allows a h hs z).1 y.1),
            )

            makes : (σ : 𝓞.Store) (s : State) (l : Label) (q : Relation n) (s' : State) (l' : Label) (q' : Relation n) → Later 𝓡 σ₀ σ → Known σ₀ s → IsLabel σ₀ l q → Known σ₀ s' → IsLabel σ₀ l' q' →
                Gives (MadeEdge (q ∩ʳ q') (λ v. Holds σ₀ s v × Holds σ₀ s' v) σ) (ListSteps.meet_of 𝓞 (edge s l) (edge s' l') σ)
            makes σ s l q s' l' q' f k il k' il' =
                call (fits.mk_intersect_fits s s' f.good (f.known s k) (f.known s' k')) (λ σ₁ x X.
                let f₁ = later_trans f X.later in
                call (fits.intersect_fits f₁.good (f₁.label l q il) (f₁.label l' q' il')) (λ σ₂ m M.
                gives {a = edge x m} (record {
                  later = later_trans X.later M.later;
                  known = M.later.known x X.known;
                  strings = λ w. (
                    λ y. let (u, v) = (X.strings w).0 ((M.later.same x X.known w).1 y) in ((f.same s k w).1 u, (f.same s' k' w).1 v),
                    λ y. (M.later.same x X.known w).0 ((X.strings w).1 ((f.same s k w).0 y.0, (f.same s' k' w).0 y.1)),
                  );
                  is = M.is;
                })))

        pub st_postcompose_true : {ts : List Edge} {A : Language n} (e : State) → Known σ₀ e → IsList 𝓡 A σ₀ ts → Gives (MadeList 𝓡 (Late A (Holds σ₀ e)) σ₀) (ListSteps.st_postcompose 𝓞 ts e σ₀)
        unfolding ListSteps.st_postcompose
        st_postcompose_true {ts} {A} e ke i = made_none same (each_true (λ t. t.label) (λ t. Join (Own t) (Holds σ₀ e)) (ListSteps.followed_by 𝓞 e) makes ts i.are (later_refl g) list_none)
          where
            same : SameHops (Through (λ t. t.label) (λ t. Join (Own t) (Holds σ₀ e)) i.list) (Late A (Holds σ₀ e))
            same a h hs z = (
              λ y.
                  let j = (Lists.st_postcompose_hops (Holds σ₀) i.list (Holds σ₀ e) a h hs z).0 y in
                  record { first = j.first; dropped = j.dropped; second = j.second; joined = j.joined; left = (i.delta.allows a h j.first j.dropped).0 j.left; right = j.right },
              λ j. (Lists.st_postcompose_hops (Holds σ₀) i.list (Holds σ₀ e) a h hs z).1
                  (record { first = j.first; dropped = j.dropped; second = j.second; joined = j.joined; left = (i.delta.allows a h j.first j.dropped).1 j.left; right = j.right }),
            )

            makes : (σ : 𝓞.Store) (s : State) (l : Label) (q : Relation n) → Later 𝓡 σ₀ σ → Known σ₀ s → IsLabel σ₀ l q →
                Gives (MadeEdge q (Join (Holds σ₀ s) (Holds σ₀ e)) σ) (ListSteps.followed_by 𝓞 e (edge s l) σ)
            makes σ s l q f k il =
                call (fits.mk_sequence_fits s e f.good (f.known s k) (f.known e ke)) (λ σ₁ x X.
                gives {a = edge x l} (record {
                  later = X.later;
                  known = X.known;
                  strings = λ w. (λ y. older w ((X.strings w).0 y), λ y. (X.strings w).1 (newer w y));
                  is = X.later.label l q (f.label l q il);
                }))
              where
                older : (w : Str n) → Join (Holds σ s) (Holds σ e) w → Join (Holds σ₀ s) (Holds σ₀ e) w
                older w j = record { first = j.first; dropped = j.dropped; second = j.second; joined = j.joined; left = (f.same s k _).1 j.left; right = (f.same e ke _).1 j.right }

                newer : (w : Str n) → Join (Holds σ₀ s) (Holds σ₀ e) w → Join (Holds σ s) (Holds σ e) w
                newer w j = record { first = j.first; dropped = j.dropped; second = j.second; joined = j.joined; left = (f.same s k _).0 j.left; right = (f.same e ke _).0 j.right }

        pub st_precompose_true : {ts : List Edge} {A : Language n} (l : Label) (r : Relation n) → IsLabel σ₀ l r → IsList 𝓡 A σ₀ ts → Gives (MadeList 𝓡 (Early r A) σ₀) (ListSteps.st_precompose 𝓞 l ts σ₀)
        unfolding ListSteps.st_precompose
        st_precompose_true {ts} {A} l r il i = made_none same (each_true (λ t. r ⨾ t.label) Own (ListSteps.after 𝓞 l) makes ts i.are (later_refl g) list_none)
          where
            same : SameHops (Through (λ t. r ⨾ t.label) Own i.list) (Early r A)
            same a h hs z = (
              λ y.
                  let e = (Lists.st_precompose_hops (Holds σ₀) r i.list a h hs z).0 y in
                  record { dropped = e.dropped; left = e.left; right = (i.delta.allows e.dropped h hs z).0 e.right },
              λ e. (Lists.st_precompose_hops (Holds σ₀) r i.list a h hs z).1 (record { dropped = e.dropped; left = e.left; right = (i.delta.allows e.dropped h hs z).1 e.right }),
            )

            makes : (σ : 𝓞.Store) (s : State) (m : Label) (q : Relation n) → Later 𝓡 σ₀ σ → Known σ₀ s → IsLabel σ₀ m q → Gives (MadeEdge (r ⨾ q) (Holds σ₀ s) σ) (ListSteps.after 𝓞 l (edge s m) σ)
            makes σ s m q f k im =
                call (fits.sequence_fits f.good (f.label l r il) (f.label m q im)) (λ σ₁ p M.
                let f₁ = later_trans f M.later in
                gives {a = edge s p} (record { later = M.later; known = f₁.known s k; strings = λ w. ((f₁.same s k w).1, (f₁.same s k w).0); is = M.is }))

        pub tail_true : {ts : List Edge} {A : Language n} (e : State) → Known σ₀ e → IsList 𝓡 A σ₀ ts →
            Gives (MadeList 𝓡 (λ w. A w × Hop allʳ (Holds σ₀ e) w) σ₀) (ListSteps.st_intersect_expr 𝓞 ts e σ₀)
        unfolding ListSteps.st_intersect_expr
        tail_true {ts} {A} e ke i = made_none same (each_true (λ t. t.label) (λ t v. Own t v × Holds σ₀ e v) (ListSteps.met_with 𝓞 e) makes ts i.are (later_refl g) list_none)
          where
            same : SameHops (Through (λ t. t.label) (λ t v. Own t v × Holds σ₀ e v) i.list) (λ w. A w × Hop allʳ (Holds σ₀ e) w)
            same a h hs z = (
              λ y. let (x, v) = (Lists.tail_hops (Holds σ₀) i.list (Holds σ₀ e) a h hs z).0 y in ((i.delta.allows a h hs z).0 x, v),
              λ y. (Lists.tail_hops (Holds σ₀) i.list (Holds σ₀ e) a h hs z).1 ((i.delta.allows a h hs z).1 y.0, y.1),
            )

            makes : (σ : 𝓞.Store) (s : State) (l : Label) (q : Relation n) → Later 𝓡 σ₀ σ → Known σ₀ s → IsLabel σ₀ l q →
                Gives (MadeEdge q (λ v. Holds σ₀ s v × Holds σ₀ e v) σ) (ListSteps.met_with 𝓞 e (edge s l) σ)
            makes σ s l q f k il =
                call (fits.mk_intersect_fits s e f.good (f.known s k) (f.known e ke)) (λ σ₁ x X.
                gives {a = edge x l} (record {
                  later = X.later;
                  known = X.known;
                  strings = λ w. (
                    λ y. let (u, v) = (X.strings w).0 y in ((f.same s k w).1 u, (f.same e ke w).1 v),
                    λ y. (X.strings w).1 ((f.same s k w).0 y.0, (f.same e ke w).0 y.1),
                  );
                  is = X.later.label l q (f.label l q il);
                }))

        pub st_singleton_true : (l : Label) (s : State) {r : Relation n} → Known σ₀ s → IsLabel σ₀ l r → Gives (MadeList 𝓡 (Hop r (Holds σ₀ s)) σ₀) (ListSteps.st_singleton 𝓞 l s σ₀)
        unfolding ListSteps.st_singleton
        st_singleton_true l s {r} ks il = branch (eqb l 𝓞.zero) _ _ σ₀
            (λ e. gives (record { later = later_refl g; is = nothing (λ a h hs z x. fits.zero_has_none g (subst (λ l. IsLabel σ₀ l r) (eqb-true l 𝓞.zero e) il) a h x.0) }))
            (λ e. call (fits.mk_zero_fits g) (λ σ₁ z Z. branch (eqb s z) _ _ σ₁
            (λ e. gives (record {
              later = Z.later;
              is = nothing (λ a h hs w x. (Z.strings (str h hs w)).0 (subst (λ s. Holds σ₁ s (str h hs w)) (eqb-true s z e) ((Z.later.same s ks (str h hs w)).0 x.1)));
            }))
            (λ e. gives (record {
              later = Z.later;
              is = record {
                list = to s r ∷ [];
                are = also (Z.later.known s ks) (Z.later.label l r il) none;
                delta = record {
                  disjoint = Disjoint.also (λ a h l m. m) Disjoint.none;
                  allows = λ a h hs w. (one σ₁ Z.later a h hs w, λ x. inl (x.0, (Z.later.same s ks (str h hs w)).0 x.1));
                };
                ascending = Ascending.also (λ v m. absurd (Memᴰ.not-nil m)) Ascending.none;
              };
            }))))
          where
            nothing : {σ : 𝓞.Store} → ((a h : Packet n) (hs : List (Packet n)) (z : Packet n) → ¬ Hop r (Holds σ₀ s) (str a (h ∷ hs) z)) → IsList 𝓡 (Hop r (Holds σ₀ s)) σ []
            nothing f = list_same (λ a h hs z. (λ x. absurd x, f a h hs z)) list_none

            one : (σ₁ : 𝓞.Store) → Later 𝓡 σ₀ σ₁ → (a h : Packet n) (hs : List (Packet n)) (w : Packet n) → (T (r a h) × Holds σ₁ s (str h hs w)) ⊎ ⊥ → T (r a h) × Holds σ₀ s (str h hs w)
            one σ₁ f a h hs w (inl x) = (x.0, (f.same s ks (str h hs w)).1 x.1)
            one σ₁ f a h hs w (inr x) = absurd x

        -- the union of the labels of a list, and of what was there
        record Covered (c : Relation n) (list : List (Transition State n)) (σ σ' : 𝓞.Store) (k : Label) : Type 0 where
          later : Later 𝓡 σ σ'
          covered : Relation n
          is : IsLabel σ' k covered
          pairs : (a h : Packet n) → T (covered a h) ↔ (T (c a h) ⊎ T (covers list a h))

        cover_true : (ts : List Edge) {list : List (Transition State n)} {σ : 𝓞.Store} {sum : Label} {c : Relation n} → Are 𝓡 σ₀ ts list → Later 𝓡 σ₀ σ → IsLabel σ sum c →
            Gives (Covered c list σ) (ListSteps.cover_all 𝓞 ts sum σ)
        unfolding ListSteps.cover_all
        cover_true [] {c} none f is = gives (record { later = later_refl f.good; covered = c; is = is; pairs = λ a h. (λ x. inl x, drop a h) })
          where
            drop : (a h : Packet n) → T (c a h) ⊎ ⊥ → T (c a h)
            drop a h (inl x) = x
            drop a h (inr x) = absurd x
        cover_true (e ∷ ts) {c} (also {s} {l} {r = q} {ts = rest} k il b) f is =
            call (fits.union_fits f.good is (f.label l q il)) (λ σ₁ m U.
            weaken (λ σ₂ k K. record { later = later_trans U.later K.later; covered = K.covered; is = K.is; pairs = λ a h. (λ x. there a h ((K.pairs a h).0 x), λ x. (K.pairs a h).1 (back a h x)) })
            (cover_true ts b (later_trans f U.later) U.is))
          where
            first : (a h : Packet n) → T (c a h) ⊎ T (q a h) → T (c a h) ⊎ T (q a h || covers rest a h)
            first a h (inl x) = inl x
            first a h (inr x) = inr (or_left (q a h) (covers rest a h) x)

            there : (a h : Packet n) → T (c a h || q a h) ⊎ T (covers rest a h) → T (c a h) ⊎ T (q a h || covers rest a h)
            there a h (inl x) = first a h (either (c a h) (q a h) x)
            there a h (inr x) = inr (or_right (q a h) (covers rest a h) x)

            later_ones : (a h : Packet n) → T (q a h) ⊎ T (covers rest a h) → T (c a h || q a h) ⊎ T (covers rest a h)
            later_ones a h (inl x) = inl (or_right (c a h) (q a h) x)
            later_ones a h (inr x) = inr x

            back : (a h : Packet n) → T (c a h) ⊎ T (q a h || covers rest a h) → T (c a h || q a h) ⊎ T (covers rest a h)
            back a h (inl x) = inl (or_left (c a h) (q a h) x)
            back a h (inr x) = later_ones a h (either (q a h) (covers rest a h) x)

        pub complement_true : {ts : List Edge} {A : Language n} → IsList 𝓡 A σ₀ ts → Gives (MadeList 𝓡 (λ w. ¬ A w) σ₀) (ListSteps.st_complement 𝓞 ts σ₀)
        unfolding ListSteps.st_complement
        complement_true {ts} {A} i =
            call (each_true (λ t. t.label) (λ t v. ¬ Own t v) (ListSteps.complement_of 𝓞) makes ts i.are (later_refl g) list_none) (λ σ₁ es₁ C.
            call (cover_true ts i.are C.later (fits.zero_is C.later.good)) (λ σ₂ k K.
            call (fits.complement_fits K.later.good K.is) (λ σ₃ rest R.
            call (fits.mk_top_fits R.later.good) (λ σ₄ top P.
            let f = later_trans K.later (later_trans R.later P.later) in
            made_same {A = Either (Either (λ w. ⊥) Complements) (Hop (∁ʳ K.covered) (λ w. Unit {0}))} (same K.covered K.pairs)
            (made_from (later_trans C.later f) (insert_true top rest P.later.good P.known P.strings (P.later.label rest _ R.is) (list_later f C.is)))))))
          where
            Complements : Language n
            Complements = Through (λ t. t.label) (λ t v. ¬ Own t v) i.list

            same : (c : Relation n) → ((a h : Packet n) → T (c a h) ↔ (⊥ ⊎ T (covers i.list a h))) → SameHops (Either (Either (λ w. ⊥) Complements) (Hop (∁ʳ c) (λ w. Unit {0}))) (λ w. ¬ A w)
            same c pairs a h hs z = (
              λ y x. (Lists.complement_hops (Holds σ₀) i.delta.disjoint a h hs z).0 (there y) ((i.delta.allows a h hs z).1 x),
              λ x. back ((Lists.complement_hops (Holds σ₀) i.delta.disjoint a h hs z).1 (λ y. x ((i.delta.allows a h hs z).0 y))),
            )
              where
                W : Str n
                W = str a (h ∷ hs) z

                drop : ⊥ ⊎ T (covers i.list a h) → T (covers i.list a h)
                drop (inl x) = absurd x
                drop (inr x) = x

                there : (⊥ ⊎ Complements W) ⊎ Hop (∁ʳ c) (λ w. Unit {0}) W → Complements W ⊎ Hop (∁ʳ (covers i.list)) (λ v. Unit {0}) W
                there (inl (inl x)) = absurd x
                there (inl (inr x)) = inl x
                there (inr x) = inr (not_of (covers i.list a h) (λ t. not_to (c a h) x.0 ((pairs a h).1 (inr t))), tt)

                back : Complements W ⊎ Hop (∁ʳ (covers i.list)) (λ v. Unit {0}) W → (⊥ ⊎ Complements W) ⊎ Hop (∁ʳ c) (λ w. Unit {0}) W
                back (inl x) = inl (inr x)
                back (inr x) = inr (not_of (c a h) (λ t. not_to (covers i.list a h) x.0 (drop ((pairs a h).0 t))), tt)

            makes : (σ : 𝓞.Store) (s : State) (l : Label) (q : Relation n) → Later 𝓡 σ₀ σ → Known σ₀ s → IsLabel σ₀ l q →
                Gives (MadeEdge q (λ v. ¬ Holds σ₀ s v) σ) (ListSteps.complement_of 𝓞 (edge s l) σ)
            makes σ s l q f k il =
                call (fits.mk_complement_fits s f.good (f.known s k)) (λ σ₁ x X.
                gives {a = edge x l} (record {
                  later = X.later;
                  known = X.known;
                  strings = λ w. (λ y u. (X.strings w).0 y ((f.same s k w).0 u), λ y. (X.strings w).1 (λ u. y ((f.same s k w).1 u)));
                  is = X.later.label l q (f.label l q il);
                }))

        -- ---- st_difference: the differences where labels meet, and the union of what is met

        pub record Subtracted (A : Language n) (Met : Packet n → Packet n → Type 0) (σ σ' : 𝓞.Store) (s : ListSteps.Summed) : Type 0 where
          pub later : Later 𝓡 σ σ'
          pub met : Relation n
          pub is : IsLabel σ' s.sum met
          pub pairs : (a h : Packet n) → T (met a h) ↔ Met a h
          pub list : IsList 𝓡 A σ' s.result

        row_true : (s : State) (l : Label) (q : Relation n) → Known σ₀ s → IsLabel σ₀ l q → (us : List Edge) {list : List (Transition State n)} {σ : 𝓞.Store} {S : ListSteps.Summed} {A : Language n} {c : Relation n} →
            Are 𝓡 σ₀ us list → Later 𝓡 σ₀ σ → IsLabel σ S.sum c → IsList 𝓡 A σ S.result →
            Gives (Subtracted (Either A (Through (λ u. q ∩ʳ u.label) (λ u v. Holds σ₀ s v × ¬ Own u v) list)) (λ a h. T (c a h) ⊎ (T (q a h) × T (covers list a h))) σ) (ListSteps.subtract_row 𝓞 (edge s l) us S σ)
        unfolding ListSteps.subtract_row
        row_true s l q k il [] {A} {c} none f is i = gives (record {
          later = later_refl f.good;
          met = c;
          is = is;
          pairs = λ a h. (λ x. inl x, drop a h);
          list = list_same (Lists.through_none A (λ u. q ∩ʳ u.label) (λ u v. Holds σ₀ s v × ¬ Own u v)) i;
        })
          where
            drop : (a h : Packet n) → T (c a h) ⊎ (T (q a h) × ⊥) → T (c a h)
            drop a h (inl x) = x
            drop a h (inr x) = absurd x.1
        row_true s l q k il (e ∷ us) {σ} {A} {c} (also {s = s'} {l = l'} {r = q'} {ts = rest} k' il' b) f is i =
            call (fits.mk_difference_fits s s' f.good (f.known s k) (f.known s' k')) (λ σ₁ x X.
            let f₁ = later_trans f X.later in
            call (fits.intersect_fits f₁.good (f₁.label l q il) (f₁.label l' q' il')) (λ σ₂ m M.
            let since = later_trans X.later M.later in
            call (fits.union_fits M.later.good (since.label _ c is) M.is) (λ σ₃ sum₃ U.
            let since₃ = later_trans since U.later in
            let x-since = later_trans M.later U.later in
            call (insert_true x m {B = λ v. Holds σ₀ s v × ¬ Holds σ₀ s' v} U.later.good (x-since.known x X.known)
            (λ w. (
              λ y. let (u, v) = (X.strings w).0 ((x-since.same x X.known w).1 y) in ((f.same s k w).1 u, λ t. v ((f.same s' k' w).0 t)),
              λ y. (x-since.same x X.known w).0 ((X.strings w).1 ((f.same s k w).0 y.0, λ t. y.1 ((f.same s' k' w).1 t))),
            ))
            (U.later.label m _ M.is) (list_later since₃ i)) (λ σ₄ es₄ I.
            let since₄ = later_trans since₃ I.later in
            weaken (λ σ₅ S₅ R. record {
              later = later_trans since₄ R.later;
              met = R.met;
              is = R.is;
              pairs = λ a h. (λ y. there a h ((R.pairs a h).0 y), λ y. (R.pairs a h).1 (back a h y));
              list = list_same (Lists.through_more A (λ u. q ∩ʳ u.label) (λ u v. Holds σ₀ s v × ¬ Own u v) (to s' q') rest) R.list;
            })
            (row_true s l q k il us {A = Either A (Hop (q ∩ʳ q') (λ v. Holds σ₀ s v × ¬ Holds σ₀ s' v))} b (later_trans f since₄) (I.later.label sum₃ _ U.is) I.is)))))
          where
            first : (a h : Packet n) → T (c a h) ⊎ T (q a h && q' a h) → T (c a h) ⊎ (T (q a h) × T (q' a h || covers rest a h))
            first a h (inl x) = inl x
            first a h (inr x) = let (u, v) = each (q a h) (q' a h) x in inr (u, or_left (q' a h) (covers rest a h) v)

            there : (a h : Packet n) → T (c a h || (q a h && q' a h)) ⊎ (T (q a h) × T (covers rest a h)) → T (c a h) ⊎ (T (q a h) × T (q' a h || covers rest a h))
            there a h (inl x) = first a h (either (c a h) (q a h && q' a h) x)
            there a h (inr x) = inr (x.0, or_right (q' a h) (covers rest a h) x.1)

            second : (a h : Packet n) → T (q a h) → T (q' a h) ⊎ T (covers rest a h) → T (c a h || (q a h && q' a h)) ⊎ (T (q a h) × T (covers rest a h))
            second a h u (inl v) = inl (or_right (c a h) (q a h && q' a h) (both (q a h) (q' a h) u v))
            second a h u (inr v) = inr (u, v)

            back : (a h : Packet n) → T (c a h) ⊎ (T (q a h) × T (q' a h || covers rest a h)) → T (c a h || (q a h && q' a h)) ⊎ (T (q a h) × T (covers rest a h))
            back a h (inl x) = inl (or_left (c a h) (q a h && q' a h) x)
            back a h (inr x) = second a h x.0 (either (q' a h) (covers rest a h) x.1)

        pub rows_true : (ts us : List Edge) {list list' : List (Transition State n)} {σ : 𝓞.Store} {S : ListSteps.Summed} {A : Language n} {c : Relation n} →
            Are 𝓡 σ₀ ts list → Are 𝓡 σ₀ us list' → Later 𝓡 σ₀ σ → IsLabel σ S.sum c → IsList 𝓡 A σ S.result →
            Gives (Subtracted (Either A (ThroughPair (λ t u. t.label ∩ʳ u.label) (λ t u v. Own t v × ¬ Own u v) list list')) (λ a h. T (c a h) ⊎ (T (covers list a h) × T (covers list' a h))) σ)
            (ListSteps.subtract_rows 𝓞 ts us S σ)
        unfolding ListSteps.subtract_rows
        rows_true [] us {list'} {A} {c} none b f is i = gives (record {
          later = later_refl f.good;
          met = c;
          is = is;
          pairs = λ a h. (λ x. inl x, drop a h);
          list = list_same (Lists.pair_none A (λ t u. t.label ∩ʳ u.label) (λ t u v. Own t v × ¬ Own u v) list') i;
        })
          where
            drop : (a h : Packet n) → T (c a h) ⊎ (⊥ × T (covers list' a h)) → T (c a h)
            drop a h (inl x) = x
            drop a h (inr x) = absurd x.0
        rows_true (e ∷ ts) us {list'} {A} {c} (also {s} {l} {r = q} {ts = rest} k il b') b f is i =
            call (row_true s l q k il us b f is i) (λ σ₁ S₁ R.
            weaken (λ σ₂ S₂ Q. record {
              later = later_trans R.later Q.later;
              met = Q.met;
              is = Q.is;
              pairs = λ a h. (λ y. there a h R.met (R.pairs a h).0 ((Q.pairs a h).0 y), λ y. (Q.pairs a h).1 (back a h R.met (R.pairs a h).1 y));
              list = list_same (Lists.pair_more A (λ t u. t.label ∩ʳ u.label) (λ t u v. Own t v × ¬ Own u v) (to s q) rest list') Q.list;
            })
            (rows_true ts us {A = Either A (Through (λ u. q ∩ʳ u.label) (λ u v. Holds σ₀ s v × ¬ Own u v) list')} b' b (later_trans f R.later) R.is R.list))
          where
            first : (a h : Packet n) → T (c a h) ⊎ (T (q a h) × T (covers list' a h)) → T (c a h) ⊎ (T (q a h || covers rest a h) × T (covers list' a h))
            first a h (inl x) = inl x
            first a h (inr x) = inr (or_left (q a h) (covers rest a h) x.0, x.1)

            there : (a h : Packet n) (d : Relation n) → (T (d a h) → T (c a h) ⊎ (T (q a h) × T (covers list' a h))) → T (d a h) ⊎ (T (covers rest a h) × T (covers list' a h)) →
                T (c a h) ⊎ (T (q a h || covers rest a h) × T (covers list' a h))
            there a h d p (inl x) = first a h (p x)
            there a h d p (inr x) = inr (or_right (q a h) (covers rest a h) x.0, x.1)

            second : (a h : Packet n) (d : Relation n) → (T (c a h) ⊎ (T (q a h) × T (covers list' a h)) → T (d a h)) → T (covers list' a h) → T (q a h) ⊎ T (covers rest a h) →
                T (d a h) ⊎ (T (covers rest a h) × T (covers list' a h))
            second a h d p v (inl u) = inl (p (inr (u, v)))
            second a h d p v (inr u) = inr (u, v)

            back : (a h : Packet n) (d : Relation n) → (T (c a h) ⊎ (T (q a h) × T (covers list' a h)) → T (d a h)) → T (c a h) ⊎ (T (q a h || covers rest a h) × T (covers list' a h)) →
                T (d a h) ⊎ (T (covers rest a h) × T (covers list' a h))
            back a h d p (inl x) = inl (p (inl x))
            back a h d p (inr x) = second a h d p x.1 (either (q a h) (covers rest a h) x.0)

    pub difference_true : {σ₀ : 𝓞.Store} {ts us : List Edge} {A B : Language n} → Good σ₀ → IsList 𝓡 A σ₀ ts → IsList 𝓡 B σ₀ us →
        Gives (MadeList 𝓡 (λ w. A w × ¬ B w) σ₀) (ListSteps.st_difference 𝓞 ts us σ₀)
    unfolding ListSteps.st_difference
    difference_true {σ₀} {ts} {us} {A} {B} g i j =
        call (rows_true σ₀ g ts us i.are j.are (later_refl g) (fits.zero_is g) list_none) (λ σ₁ S R.
        made_same {A = Either (Either (λ w. ⊥) Met) (Through (λ t. t.label ∖ʳ R.met) (λ t. Holds σ₁ t.target) i.list)} (same σ₁ R.later R.met R.pairs)
        (made_from R.later (each_true σ₁ (λ t. t.label ∖ʳ R.met) (λ t. Holds σ₁ t.target) (ListSteps.rest_of 𝓞 S.sum) (makes σ₁ S.sum R.met R.is) ts
        (are_later R.later i.are) (later_refl R.later.good) R.list)))
      where
        Met : Language n
        Met = ThroughPair (λ t u. t.label ∩ʳ u.label) (λ t u v. Holds σ₀ t.target v × ¬ Holds σ₀ u.target v) i.list j.list

        makes : (σ₁ : 𝓞.Store) (sum : Label) (met : Relation n) → IsLabel σ₁ sum met → (σ : 𝓞.Store) (s : State) (l : Label) (q : Relation n) → Later 𝓡 σ₁ σ → Known σ₁ s → IsLabel σ₁ l q →
            Gives (MadeEdge (q ∖ʳ met) (Holds σ₁ s) σ) (ListSteps.rest_of 𝓞 sum (edge s l) σ)
        makes σ₁ sum met is σ s l q f k il =
            call (fits.difference_fits f.good (f.label l q il) (f.label sum met is)) (λ σ₂ d D.
            let f₂ = later_trans f D.later in
            gives {a = edge s d} (record { later = D.later; known = f₂.known s k; strings = λ w. ((f₂.same s k w).1, (f₂.same s k w).0); is = D.is }))

        same : (σ₁ : 𝓞.Store) → Later 𝓡 σ₀ σ₁ → (met : Relation n) → ((a h : Packet n) → T (met a h) ↔ (⊥ ⊎ (T (covers i.list a h) × T (covers j.list a h)))) →
            SameHops (Either (Either (λ w. ⊥) Met) (Through (λ t. t.label ∖ʳ met) (λ t. Holds σ₁ t.target) i.list)) (λ w. A w × ¬ B w)
        same σ₁ f met pairs a h hs z = (
          λ y.
              let (x, v) = law.0 (there y) in
              ((i.delta.allows a h hs z).0 x, λ b. v ((j.delta.allows a h hs z).1 b)),
          λ y. back (law.1 ((i.delta.allows a h hs z).1 y.0, λ b. y.1 ((j.delta.allows a h hs z).0 b))),
        )
          where
            W : Str n
            W = str a (h ∷ hs) z

            Rest : (State → Language n) → Type 0
            Rest H = Through (λ t. t.label ∖ʳ met) (λ t. H t.target) i.list W

            drop : (a h : Packet n) → ⊥ ⊎ (T (covers i.list a h) × T (covers j.list a h)) → T (covers i.list a h) × T (covers j.list a h)
            drop a h (inl x) = absurd x
            drop a h (inr x) = x

            law : (Met W ⊎ Rest (Holds σ₀)) ↔ (Allows (Holds σ₀) i.list W × ¬ Allows (Holds σ₀) j.list W)
            law = Lists.difference_hops (Holds σ₀) i.list j.list j.delta.disjoint met (λ a h. (λ x. drop a h ((pairs a h).0 x), λ x. (pairs a h).1 (inr x))) a h hs z

            kept : Rest (Holds σ₀) ↔ Rest (Holds σ₁)
            kept = Lists.through_same (λ t. t.label ∖ʳ met) (λ t. Holds σ₀ t.target) (λ t. Holds σ₁ t.target) i.list (keeps f i.are) a h hs z

            there : (⊥ ⊎ Met W) ⊎ Rest (Holds σ₁) → Met W ⊎ Rest (Holds σ₀)
            there (inl (inl x)) = absurd x
            there (inl (inr x)) = inl x
            there (inr x) = inr (kept.1 x)

            back : Met W ⊎ Rest (Holds σ₀) → (⊥ ⊎ Met W) ⊎ Rest (Holds σ₁)
            back (inl x) = inl (inr x)
            back (inr x) = inr (kept.0 x)

    pub xor_true : {σ₀ : 𝓞.Store} {ts us : List Edge} {A B : Language n} → Good σ₀ → IsList 𝓡 A σ₀ ts → IsList 𝓡 B σ₀ us →
        Gives (MadeList 𝓡 (λ w. (A w × ¬ B w) ⊎ (B w × ¬ A w)) σ₀) (ListSteps.st_xor 𝓞 ts us σ₀)
    unfolding ListSteps.st_xor
    xor_true g i j =
        call (difference_true g i j) (λ σ₁ left L.
        call (difference_true L.later.good (list_later L.later j) (list_later L.later i)) (λ σ₂ right R.
        made_from (later_trans L.later R.later) (union_true σ₂ R.later.good (list_later R.later L.is) R.is)))
