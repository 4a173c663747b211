-- The store of ExampleStore.antt fits: what ListSteps.antt asks can be had.
use Rattle.std.specs.Prelude.{if◌then◌else◌}
use mathlib.Core.Path.{◌≡◌, refl, sym, ◌∙◌, ap, ap₂, subst, fun_ext}
use mathlib.Core.Bool.{Bool, true, false}
use mathlib.Core.Logic.{◌↔◌}
use mathlib.Core.List.{List, [], ◌∷◌, ◌++◌}
use lib.ListN.{length, get_or, length-append, get_or-append}
use lib.Seq.{get_or-append_seam}
use lib.Dec.{T}
use Prim.Native.Nat.{ℕ, ◌<◌}
use native.Mathlib.Omega.{arith}
use Rattle.common.specs.Packets.{Packet, Relation}
use Rattle.common.specs.Relations.{noneʳ, ◌∪ʳ◌, ◌∩ʳ◌, ◌∖ʳ◌, ∁ʳ, ◌⨾◌, nonempty}
use Rattle.common.proofs.RelationLaws.{nonempty_of}
use Rattle.common.specs.Outcome.{given, Gives, gives}
use Rattle.netkat.specs.Strings.{Str}
use Rattle.netkat.specs.Rules.{Rule, relation, top, Language, In}
use Rattle.netkat_steps.specs.ListSteps.{Label, Readings, Later, MadeLabel, MadeState, LawfulOps}
use Rattle.netkat_steps.proofs.ExampleStore.{Made, label_at, rule_at, new_label, workshop}
use Rattle.netkat.proofs.Laws.Derivatives.{rules_hold}
use Rattle.netkat_steps.proofs.ListSteps.{later_refl}

module _ (n limit : ℕ) where
  -- the zero relation was made first
  record Begun (σ : Made n) : Type 0 where
    some : 0 < length σ.relations
    zero_first : label_at σ 0 ≡ noneʳ

  record Is (σ : Made n) (l : Label) (r : Relation n) : Type 0 where
    made : l < length σ.relations
    is : label_at σ l ≡ r

  abbrev readings : Readings n (workshop n limit)
  readings = record { Good = Begun; Known = λ σ s. s < length σ.rules; Holds = λ σ s. In (rule_at σ s); IsLabel = Is }

  label_kept : (σ : Made n) (more : List (Relation n)) (l : Label) → l < length σ.relations → get_or (σ.relations ++ more) l noneʳ ≡ label_at σ l
  label_kept σ more l m = get_or-append σ.relations more noneʳ l m

  later_label : (σ : Made n) (r : Relation n) → Begun σ → Later readings σ (record { relations = σ.relations ++ r ∷ []; rules = σ.rules })
  later_label σ r g = record {
    good = record { some = simp length-append (omega (arith, g.some)); zero_first = rw (label_kept σ (r ∷ []) 0 g.some) g.zero_first };
    known = λ s k. k;
    same = λ s k w. (λ x. x, λ x. x);
    label = λ l q i. record { made = simp length-append (omega (arith, i.made)); is = rw (label_kept σ (r ∷ []) l i.made) i.is };
  }

  later_state : (σ : Made n) (r : Rule n) → Begun σ → Later readings σ (record { relations = σ.relations; rules = σ.rules ++ r ∷ [] })
  later_state σ r g = record {
    good = record { some = g.some; zero_first = g.zero_first };
    known = λ s k. simp length-append (omega arith);
    same = λ s k w. (λ x. rw (get_or-append σ.rules (r ∷ []) top s k) x, λ x. rw (get_or-append σ.rules (r ∷ []) top s k) at x);
    label = λ l q i. record { made = i.made; is = i.is };
  }

  no_pairs : (r : Relation n) → nonempty r ≡ false → r ≡ noneʳ
  no_pairs r e = fun_ext (λ a. fun_ext (λ h. go a h (r a h) refl))
    where
      go : (a h : Packet n) (b : Bool) → r a h ≡ b → r a h ≡ false
      go a h true q = absurd (subst (λ b. T b) e (nonempty_of r a h (rw q tt)))
      go a h false q = q

  label_made : (σ : Made n) (r q : Relation n) → Begun σ → r ≡ q → Gives (MadeLabel readings q σ) (new_label r σ)
  label_made σ r q g e = go (nonempty r) refl
    where
      go : (b : Bool) → nonempty r ≡ b → Gives (MadeLabel readings q σ) (if b then given (record { relations = σ.relations ++ r ∷ []; rules = σ.rules }) (length σ.relations) else given σ 0)
      go true t = gives {a = length σ.relations} (record {
        later = later_label σ r g;
        is = record { made = simp length-append (omega arith); is = rw (get_or-append_seam σ.relations r [] noneʳ) e };
      })
      go false t = gives (record { later = later_refl readings g; is = record { made = g.some; is = g.zero_first ∙ sym (no_pairs r t) ∙ e } })

  state_made : (σ : Made n) (r : Rule n) (B : Language n) → Begun σ → ((w : Str n) → In r w ↔ B w) →
      MadeState readings B σ (record { relations = σ.relations; rules = σ.rules ++ r ∷ [] }) (length σ.rules)
  state_made σ r B g f = record {
    later = later_state σ r g;
    known = simp length-append (omega arith);
    strings = λ w. (λ x. (f w).0 (rw (get_or-append_seam σ.rules r [] top) at x), λ x. rw (get_or-append_seam σ.rules r [] top) ((f w).1 x));
  }

  no_strings : (w : Str n) → In (relation noneʳ) w ↔ ⊥
  unfolding In
  no_strings w = (λ x. x.1, λ x. absurd x)

  all_strings : (w : Str n) → In {n = n} top w ↔ Unit {0}
  unfolding In
  all_strings w = (λ x. tt, λ x. tt)

  none_there : {σ : Made n} {r : Relation n} → Begun σ → Is σ 0 r → (a h : Packet n) → ¬ T (r a h)
  none_there {σ} {r} g i a h t = subst (λ q. T (q a h)) (sym i.is ∙ g.zero_first) t

  workshop_fits : LawfulOps readings
  workshop_fits = record {
    zero_is = λ g. record { made = g.some; is = g.zero_first };
    zero_has_none = λ g i a h t. none_there g i a h t;
    union_fits = λ {σ} g i j. label_made σ _ _ g (ap₂ ◌∪ʳ◌ i.is j.is);
    intersect_fits = λ {σ} g i j. label_made σ _ _ g (ap₂ ◌∩ʳ◌ i.is j.is);
    difference_fits = λ {σ} g i j. label_made σ _ _ g (ap₂ ◌∖ʳ◌ i.is j.is);
    sequence_fits = λ {σ} g i j. label_made σ _ _ g (ap₂ ◌⨾◌ i.is j.is);
    complement_fits = λ {σ} g i. label_made σ _ _ g (ap ∁ʳ i.is);
    mk_union_fits = λ {σ} s t g k m. gives (state_made σ _ _ g (rules_hold.union_holds (rule_at σ s) (rule_at σ t)));
    mk_intersect_fits = λ {σ} s t g k m. gives (state_made σ _ _ g (rules_hold.intersection_holds (rule_at σ s) (rule_at σ t)));
    mk_difference_fits = λ {σ} s t g k m. gives (state_made σ _ _ g (rules_hold.difference_holds (rule_at σ s) (rule_at σ t)));
    mk_sequence_fits = λ {σ} s t g k m. gives (state_made σ _ _ g (rules_hold.sequence_holds (rule_at σ s) (rule_at σ t)));
    mk_complement_fits = λ {σ} s g k. gives (state_made σ _ _ g (rules_hold.complement_holds (rule_at σ s)));
    mk_top_fits = λ {σ} g. gives (state_made σ _ _ g all_strings);
    mk_zero_fits = λ {σ} g. gives (state_made σ _ _ g no_strings);
  }
