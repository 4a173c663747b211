-- 01, "Strings": the list that delta makes for each kind of state is a delta of the right strings, from the operands' epsilons and lists. All tables are since σ₀ (Fits.antt).
use mathlib.Core.List.{List, [], ◌∷◌}
use mathlib.Core.Logic.{inl}
use Prim.Native.Nat.{ℕ, ◌<◌, ◌≤◌}
use native.Mathlib.Omega.{arith}
use lib.ListN.{length}
use Rattle.common.specs.Packets.{Relation}
use Rattle.common.specs.Relations.{allʳ}
use Rattle.common.specs.Outcome.{Gives}
use Rattle.common.proofs.Follow.{call}
use Rattle.netkat.specs.Strings.{str}
use Rattle.netkat.specs.Rules.{Language, Join, Star, Until, Next, In, dup}
use Rattle.netkat.specs.Hops.{IsEpsilon, Hop, Late}
use Rattle.netkat.proofs.Laws.Hops.{sequence_hop, star_hop, until_hop, next_hop, dup_hop}
use Rattle.netkat_steps.specs.ListSteps.{Edge, st_singleton, MadeList, IsList}
use Rattle.netkat_steps.proofs.ListSteps.{later_refl, later_trans, list_later, list_same, made_same, made_by, made_from, union_true, intersection_true, st_postcompose_true, st_precompose_true, tail_true, st_singleton_true}
use Rattle.spp_steps.specs.Wf.{Denotes}
use Rattle.spp_steps.proofs.Laws.{den_one, den_top}
use Rattle.spp_steps.specs.Closure.{closure}
use Rattle.aut_steps.specs.Relations as Rel
use Rattle.aut_steps.specs.Tables.{Limits, Aut}
use Rattle.aut_steps.specs.Languages.{◌≈◌}
use Rattle.aut_steps.proofs.Languages.{same, sum_none, sum_assoc, Either, Both, Whole, join_same}
use Rattle.aut_steps.specs.Ascending.{All}
use Rattle.aut_steps.proofs.ListLaws.{Some}
use Rattle.aut_steps.specs.Wf.{states}
use Rattle.aut_steps.specs.Meaning.{Holds}
use Rattle.aut_steps.proofs.StateLaws.{mk_spp_goes, mk_top_goes, mk_until_goes}
use Rattle.aut_st_steps.specs.Operations.{ops}
use Rattle.aut_delta_steps.specs.Delta.{union_all, intersect_all, intersect_first, sequence_list, star_list, until_list, dup_list, top_list}
use Rattle.aut_delta_steps.proofs.Labels.{closure_is}
use Rattle.aut_delta_steps.specs.Fits.{Since}
use Rattle.aut_delta_steps.proofs.Fits.{since, fits, fits_state}
use Rattle.aut_delta_steps.proofs.Agree.{All2, none, also, all2_map}

-- each of the lists is a delta of what B gives for its state
abbrev pub AreLists : (N : ℕ) (L : Limits) → Aut → (ℕ → Language N) → Aut → List ℕ → List (List Edge) → Type 0
AreLists N L σ₀ B σ xs lists = All2 (λ x es. IsList (since N L σ₀) (B x) σ es) xs lists

module _ {N : ℕ} {L : Limits} {σ₀ : Aut} where
  -- ---- lists of lists

  module _ (B : ℕ → Language N) where
    pub union_all_true : (xs : List ℕ) {lists : List (List Edge)} {A : Language N} {σ : Aut} {r : List Edge} → Since N L σ₀ σ → IsList (since N L σ₀) A σ r → AreLists N L σ₀ B σ xs lists
        → Gives (MadeList (since N L σ₀) (Either A (λ w. Some (λ x. B x w) xs)) σ) (union_all N L lists r σ)
    unfolding union_all
    union_all_true [] {σ = σ} s i none =
        made_same (since N L σ₀) (λ a h hs z. (inl, sum_none.0)) (Gives.gives (record { later = later_refl (since N L σ₀) s; is = i }))
    union_all_true (x ∷ xs) {A = A} {σ = σ} s i (also j js) =
        call (union_true (since N L σ₀) fits σ s i j) (λ σ₁ r₁ M.
        made_same (since N L σ₀) {A = Either (Either A (B x)) (λ w. Some (λ x. B x w) xs)} (λ a h hs z. (sum_assoc.1, sum_assoc.0))
        (made_from (since N L σ₀) M.later (union_all_true xs M.later.good M.is (all2_map (λ y es k. list_later (since N L σ₀) M.later k) js))))

    pub intersect_all_true : (xs : List ℕ) {lists : List (List Edge)} {A : Language N} {σ : Aut} {r : List Edge} → Since N L σ₀ σ → IsList (since N L σ₀) A σ r → AreLists N L σ₀ B σ xs lists
        → Gives (MadeList (since N L σ₀) (Both A (λ w. All (λ x. B x w) xs)) σ) (intersect_all N L lists r σ)
    unfolding intersect_all
    intersect_all_true [] {σ = σ} s i none =
        made_same (since N L σ₀) (λ a h hs z. (λ x. (x, tt), λ p. p.0)) (Gives.gives (record { later = later_refl (since N L σ₀) s; is = i }))
    intersect_all_true (x ∷ xs) {A = A} {σ = σ} s i (also j js) =
        call (intersection_true (since N L σ₀) fits σ s i j) (λ σ₁ r₁ M.
        made_same (since N L σ₀) {A = Both (Both A (B x)) (λ w. All (λ x. B x w) xs)} (λ a h hs z. (λ p. (p.0.0, (p.0.1, p.1)), λ p. ((p.0, p.1.0), p.1.1)))
        (made_from (since N L σ₀) M.later (intersect_all_true xs M.later.good M.is (all2_map (λ y es k. list_later (since N L σ₀) M.later k) js))))

    pub intersect_first_true : (xs : List ℕ) {lists : List (List Edge)} {σ : Aut} → Since N L σ₀ σ → 1 ≤ length xs → AreLists N L σ₀ B σ xs lists
        → Gives (MadeList (since N L σ₀) (λ w. All (λ x. B x w) xs) σ) (intersect_first N L lists σ)
    intersect_first_true [] s l none = absurd (omega arith)
    intersect_first_true (x ∷ xs) s l (also j js) = intersect_all_true xs s j js

  module _ {σ : Aut} (s : Since N L σ₀ σ) where
    -- ---- Sequence and Star

    pub sequence_true : {A : Language N} {R : Relation N} {ε b : ℕ} {ts us : List Edge} → b < states σ → Denotes σ.nodes N ε R → IsEpsilon R A
        → IsList (since N L σ₀) A σ ts → IsList (since N L σ₀) (Holds N σ b) σ us → Gives (MadeList (since N L σ₀) (Join A (Holds N σ b)) σ) (sequence_list N L b ε ts us σ)
    unfolding sequence_list
    sequence_true {R = R} {ε} {b} l d e i j =
        call (st_postcompose_true (since N L σ₀) fits σ s b l i) (λ σ₁ late M.
        call (st_precompose_true (since N L σ₀) fits σ₁ M.later.good ε R (M.later.label ε R d) (list_later (since N L σ₀) M.later j)) (λ σ₂ early P.
        made_by (since N L σ₀) (sequence_hop (Holds N σ b) e)
        (made_from (since N L σ₀) (later_trans (since N L σ₀) M.later P.later)
        (union_true (since N L σ₀) fits σ₂ P.later.good (list_later (since N L σ₀) P.later M.is) P.is))))

    pub star_true : {A : Language N} {R : Relation N} {ε* x : ℕ} {ts : List Edge} → x < states σ → Holds N σ x ≈ Star A → Denotes σ.nodes N ε* (closure R) → IsEpsilon R A
        → IsList (since N L σ₀) A σ ts → Gives (MadeList (since N L σ₀) (Star A) σ) (star_list N L x ε* ts σ)
    unfolding star_list
    star_true {A} {R} {ε*} {x} l h d e i =
        call (st_postcompose_true (since N L σ₀) fits σ s x l i) (λ σ₁ late M.
        made_by (since N L σ₀) (star_hop A e (closure_is R))
        (made_from (since N L σ₀) M.later
        (st_precompose_true (since N L σ₀) fits σ₁ M.later.good ε* (closure R) (M.later.label ε* (closure R) d)
        (list_same (since N L σ₀) {A = Late A (Holds N σ x)} {B = Late A (Star A)} (λ a k hs z. join_same (λ w. same) h (str k hs z)) M.is))))

    -- ---- LtlUntil and LtlNext

    pub until_true : {a b : ℕ} {ts us : List Edge} → a < states σ → b < states σ → IsList (since N L σ₀) (Holds N σ a) σ ts → IsList (since N L σ₀) (Holds N σ b) σ us
        → Gives (MadeList (since N L σ₀) (Until (Holds N σ a) (Holds N σ b)) σ) (until_list N L a b ts us σ)
    unfolding until_list
    until_true {a} {b} l m i j =
        call (fits_state s (mk_until_goes s.good l m)) (λ σ₁ u M.
        call (tail_true (since N L σ₀) fits σ₁ M.later.good u M.known (list_later (since N L σ₀) M.later i)) (λ σ₂ met P.
        made_by (since N L σ₀) (until_hop (Holds N σ a) (Holds N σ b))
        (made_from (since N L σ₀) (later_trans (since N L σ₀) M.later P.later)
        (union_true (since N L σ₀) fits σ₂ P.later.good (list_later (since N L σ₀) (later_trans (since N L σ₀) M.later P.later) j)
        (list_same (since N L σ₀) {A = λ w. Holds N σ a w × Hop allʳ (Holds N σ₁ u) w} {B = λ w. Holds N σ a w × Hop allʳ (Until (Holds N σ a) (Holds N σ b)) w} (λ p h hs z. (λ q. (q.0, (q.1.0, (M.strings (str h hs z)).0 q.1.1)), λ q. (q.0, (q.1.0, (M.strings (str h hs z)).1 q.1.1)))) P.is)))))

    pub next_true : {a : ℕ} → a < states σ → Gives (MadeList (since N L σ₀) (Next (Holds N σ a)) σ) (st_singleton (ops N L) (Rel.top_at N) a σ)
    next_true {a} l =
        made_by (since N L σ₀) (next_hop (Holds N σ a))
        (st_singleton_true (since N L σ₀) fits σ s (Rel.top_at N) a l (den_top s.good.nodes N (omega arith)))

    -- ---- Dup and Top

    pub dup_true : Gives (MadeList (since N L σ₀) (In dup) σ) (dup_list N L σ)
    unfolding dup_list In
    dup_true =
        call (fits_state s (mk_spp_goes s.good (den_one s.good.nodes N (omega arith)))) (λ σ₁ z M.
        made_from (since N L σ₀) M.later
        (made_by (since N L σ₀) (λ a h hs y. (
          λ q. let p = (dup_hop a h hs y).0 q in (p.0, (M.strings (str h hs y)).1 p.1),
          λ q. (dup_hop a h hs y).1 (q.0, (M.strings (str h hs y)).0 q.1),
        ))
        (st_singleton_true (since N L σ₀) fits σ₁ M.later.good (Rel.one_at N) z M.known (den_one M.later.good.good.nodes N (omega arith)))))

    pub top_true : Gives (MadeList (since N L σ₀) Whole σ) (top_list N L σ)
    unfolding top_list
    top_true =
        call (fits_state s (mk_top_goes s.good)) (λ σ₁ t M.
        made_from (since N L σ₀) M.later
        (made_same (since N L σ₀) (λ a h hs z. (λ q. tt, λ q. (tt, (M.strings (str h hs z)).1 tt)))
        (st_singleton_true (since N L σ₀) fits σ₁ M.later.good (Rel.top_at N) t M.known (den_top M.later.good.good.nodes N (omega arith)))))
