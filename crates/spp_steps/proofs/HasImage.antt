-- 01, port order, step 2, has_image: true exactly if some packet of the set is related to some packet. It makes no node.
use mathlib.Core.Path.{◌≡◌, refl, sym, ◌∙◌, ap₂, subst}
use mathlib.Core.Bool.{Bool, true, false, ◌||◌}
use mathlib.Core.Logic.{⊎_elim}
use Prim.Native.Nat.{ℕ, zero, suc, ◌≤◌, ◌<◌}
use native.Mathlib.Omega.{arith}
use lib.Dec.{T, eqb}
use Rattle.common.specs.Packets.{Packet, bit, Set, Relation, inhabited, relates}
use Rattle.common.proofs.PacketLaws.{either, or_left, or_right, inhabited_to, relates_of, relates_to}
use Rattle.sp_steps.specs.Model as Sp
use Rattle.sp_steps.proofs.Laws as SpLaws
use Rattle.sp_steps.proofs.Sets as SpSets
use Rattle.spp_steps.specs.Model.{kids, zero_at, one_at, top_at, is_zero}
use Rattle.spp_steps.specs.ImageModel.{Stores, Sure, sure, unsure, has_exit, has_image}
use Rattle.common.proofs.RelationLaws.{same_refl}
use Rattle.spp_steps.specs.Relations.{part}
use Rattle.spp_steps.proofs.Relations.{uninhabited, tests_equal}
use Rattle.spp_steps.proofs.Laws.{den_kid, den_zero, den_one, den_top, agree_path, by_test, false_true}
use Rattle.spp_steps.proofs.Apply.{by_if, or_cases, by_bits}
use Rattle.spp_steps.proofs.Size.{none_zero}
use Rattle.spp_steps.specs.Images.{BothWf}
use Rattle.spp_steps.proofs.Images.{SetAt, RelAt, or_neither, some_packet}

-- by the first bits
relates_part : {n : ℕ} (R : Relation (suc n)) (S : Set (suc n)) → relates R S
    ≡ (relates (part R false false) (λ p. S (bit false p)) || (relates (part R false true) (λ p. S (bit false p))
    || (relates (part R true false) (λ p. S (bit true p)) || relates (part R true true) (λ p. S (bit true p)))))
relates_part {n} R S = tests_equal (relates R S) (r00 || (r01 || (r10 || r11))) down up
  where
    side : Bool → Set n
    side i p = S (bit i p)

    r00 : Bool
    r00 = relates (part R false false) (side false)

    r01 : Bool
    r01 = relates (part R false true) (side false)

    r10 : Bool
    r10 = relates (part R true false) (side true)

    r11 : Bool
    r11 = relates (part R true true) (side true)

    at : (p q : Packet (suc n)) → T (S p) → T (R p q) → T (r00 || (r01 || (r10 || r11)))
    at (bit false p) (bit false q) t u = or_left r00 (r01 || (r10 || r11)) (relates_of (part R false false) (side false) p q t u)
    at (bit false p) (bit true q) t u = or_right r00 (r01 || (r10 || r11)) (or_left r01 (r10 || r11) (relates_of (part R false true) (side false) p q t u))
    at (bit true p) (bit false q) t u =
        or_right r00 (r01 || (r10 || r11)) (or_right r01 (r10 || r11) (or_left r10 r11 (relates_of (part R true false) (side true) p q t u)))
    at (bit true p) (bit true q) t u =
        or_right r00 (r01 || (r10 || r11)) (or_right r01 (r10 || r11) (or_right r10 r11 (relates_of (part R true true) (side true) p q t u)))

    down : T (relates R S) → T (r00 || (r01 || (r10 || r11)))
    down t = let (p, q, u, v) = relates_to R S t in at p q u v

    back : (i j : Bool) → T (relates (part R i j) (side i)) → T (relates R S)
    back i j t = let (p, q, u, v) = relates_to (part R i j) (side i) t in relates_of R S (bit i p) (bit j q) u v

    up : T (r00 || (r01 || (r10 || r11))) → T (relates R S)
    up t =
        ⊎_elim (back false false) (λ t.
        ⊎_elim (back false true) (λ t.
        ⊎_elim (back true false) (back true true) (either r10 r11 t)) (either r01 (r10 || r11) t)) (either r00 (r01 || (r10 || r11)) t)

-- an exit tells the truth
abbrev Tells : Bool → Sure → Type 0
Tells c (sure b) = b ≡ c
Tells c unsure = Unit

module _ {N d s r : ℕ} {σ : Stores} {S : Set d} {R : Relation d} (l : d ≤ N) (w : BothWf N σ) (X : SetAt σ d s S) (Y : RelAt σ d r R) where
  -- a relation that is not nothing has a pair
  some_pair : eqb r (zero_at N d) ≡ false → (p q : Packet d) × T (R p q)
  unfolding is_zero
  some_pair e =
      by_test (inhabited (λ p. inhabited (R p)))
      (λ t. let (p, u) = inhabited_to (λ p. inhabited (R p)) (subst T (sym t) tt) in let (q, v) = inhabited_to (R p) u in (p, q, v))
      (λ t. absurd (false_true (sym e ∙ none_zero l w.spp_wf Y (λ p. uninhabited (R p) (uninhabited (λ p. inhabited (R p)) t p)))))

  yes_if : (p q : Packet d) → T (S p) → T (R p q) → true ≡ relates R S
  yes_if p q t u = tests_equal true (relates R S) (λ x. relates_of R S p q t u) (λ x. tt)

  no_if : ((p q : Packet d) → T (S p) → T (R p q) → ⊥) → false ≡ relates R S
  no_if f = tests_equal false (relates R S) (λ x. absurd x) (λ x. let (p, q, u, v) = relates_to R S x in f p q u v)

  has_exit_right : Tells (relates R S) (has_exit N d s r)
  unfolding has_exit
  has_exit_right =
      by_if P (Sp.is_zero d s || eqb r (zero_at N d)) (sure false) _
      (λ e. no_if (λ p q t u. ⊎_elim
      (λ c. subst T (SpSets.zero_none N d l w.sp_wf X c p) t)
      (λ c. subst (λ (R : Relation d). T (R p q)) (agree_path Y (den_zero w.spp_wf d l) c) u)
      (or_cases _ _ e)))
      (λ n. let (n0, n1) = or_neither _ _ n in
      by_if P (Sp.is_universal d s || (eqb r (one_at N d) || eqb r (top_at N d))) (sure true) unsure
      (λ e. ⊎_elim
      (λ c. let (p, q, u) = some_pair n1 in yes_if p q (subst T (sym (SpSets.universal_all N d l w.sp_wf X c p)) tt) u)
      (λ c. let (p, t) = inhabited_to S (some_packet l w X Y n0) in yes_if p p t (⊎_elim
      (λ c. subst (λ (R : Relation d). T (R p p)) (sym (agree_path Y (den_one w.spp_wf d l) c)) (same_refl p))
      (λ c. subst (λ (R : Relation d). T (R p p)) (sym (agree_path Y (den_top w.spp_wf d l) c)) tt)
      (or_cases _ _ c)))
      (or_cases _ _ e))
      (λ _. tt))
    where
      P : Sure → Type 0
      P = Tells (relates R S)

-- at depth 0 an exit is always sure
pub has_exit_low : (N s r : ℕ) → s < 2 → r < 2 → (b : Bool) × (has_exit N zero s r ≡ sure b)
unfolding has_exit zero_at one_at top_at Sp.is_zero Sp.is_universal
has_exit_low N = by_bits (λ s r. (b : Bool) × (has_exit N zero s r ≡ sure b)) (_, refl) (_, refl) (_, refl) (_, refl)

pub has_image_is : (N d : ℕ) → d ≤ N → (σ : Stores) (s r : ℕ) (S : Set d) (R : Relation d) → BothWf N σ → SetAt σ d s S → RelAt σ d r R → has_image N d s r σ ≡ relates R S
unfolding has_image
has_image_is N zero l σ s r S R w X Y = go (has_exit N zero s r) (has_exit_low N s r X.at Y.at) (has_exit_right l w X Y)
  where
    go : (z : Sure) → (b : Bool) × (z ≡ sure b) → Tells (relates R S) z → elim z [ sure b ↦ b | unsure ↦ false ] ≡ relates R S
    go (sure b) q t = t
    go unsure (b, q) t = let z : ◌≡◌ {A = ℕ} 0 1 = cc in absurd (omega arith)
has_image_is N (suc d) l σ s r S R w X Y =
    go (has_exit N (suc d) s r) (has_exit_right l w X Y) (λ i j. has_image_is N d (omega arith) σ _ _ _ _ w (SpLaws.den_child X i) (den_kid Y i j))
  where
    entry : Bool → Bool → Bool
    entry i j = has_image N d (Sp.child σ.sp.words i s) (kids σ.spp.words r i j) σ

    go : (z : Sure) → Tells (relates R S) z → ((i j : Bool) → entry i j ≡ relates (part R i j) (λ p. S (bit i p)))
        → elim z [ sure b ↦ b | unsure ↦ entry false false || (entry false true || (entry true false || entry true true)) ] ≡ relates R S
    go (sure b) t e = t
    go unsure t e = ap₂ ◌||◌ (e false false) (ap₂ ◌||◌ (e false true) (ap₂ ◌||◌ (e true false) (e true true))) ∙ sym (relates_part R S)
