-- What epsilon puts together: it depends on the operands' values alone, is stable, and is the same by what later tables have.
use Rattle.std.specs.Prelude.{if◌then◌else◌}
use mathlib.Core.Path.{◌≡◌, refl, ◌∙◌, ap, ap₂}
use mathlib.Core.Bool.{Bool, true, false}
use mathlib.Core.List.{List, [], ◌∷◌}
use Prim.Native.Nat.{ℕ, ◌<◌}
use native.Mathlib.Omega.{arith}
use lib.Dec.{eqb}
use borrow.Author.Tests.{eqb-true}
use Rattle.common.specs.Outcome.{given, Step, ◌>>=◌}
use Rattle.common.proofs.Runs as Runs
use Rattle.common.specs.Runs.{Table, placed}
use Rattle.common.proofs.Runs.{runs_bind, runs_return, runs_map}
use Rattle.netkat.specs.Rules.{union, intersection}
use Rattle.spp_steps.specs.Model as Spp
use Rattle.spp_steps.specs.Wf.{Wf, ValidAt}
use Rattle.spp_steps.proofs.Laws.{at_ext, den_mem, den_zero, den_one, den_top, spp_theory}
use Rattle.spp_steps.proofs.Sequence.{sequence_exact}
use Rattle.spp_steps.proofs.Star.{star_exact}
use Rattle.aut_steps.specs.Relations as Rel
use Rattle.aut_steps.specs.Tables.{UNION, INTERSECT, XOR, DIFFERENCE, COMPLEMENT, SEQUENCE, STAR, UNTIL, TOP, Limits, Aut, put_nodes}
use Rattle.aut_steps.specs.Constructors.{each}
use Rattle.aut_steps.specs.Kinds.{form}
use Rattle.aut_steps.specs.Ascending.{All}
use Rattle.aut_steps.proofs.ListLaws.{all_map}
use Rattle.aut_steps.specs.Wf.{states, kind, members, WfAut}
use Rattle.aut_st_steps.specs.Operations as Ops
use Rattle.aut_delta_steps.specs.EpsilonReads.{operands_with, operands_of, unite_values, meet_values, combine_by}
use Rattle.aut_replay.specs.Replay.{Later, epsilon_from}
use Rattle.aut_replay.proofs.Runs.{kind_later, first_later, second_later}
use Rattle.aut_replay.proofs.Opening.{list_later}
use Rattle.aut_replay.proofs.Constructors.{apply_runs}

-- ---- tests

pub pick : {A : Type 0} (b : Bool) {x x' y y' : A} → (b ≡ true → x ≡ x') → (b ≡ false → y ≡ y') → (if b then x else y) ≡ (if b then x' else y')
pick true f g = f refl
pick false f g = g refl

pub pick_all : {A : Type 0} (P : ℕ → Type 0) (b : Bool) (xs ys : List ℕ) {o p o' p' : A} → All P (if b then xs else ys) → (All P xs → o ≡ p) → (All P ys → o' ≡ p') → (if b then o else o') ≡ (if b then p else p')
pick_all P true xs ys h f g = f h
pick_all P false xs ys h f g = g h

runs_all : {N : ℕ} {P : Table → ℕ → Type 0} {t : Table} (Q : ℕ → Type 0) (b : Bool) (xs ys : List ℕ) (c d : Step Table ℕ)
    → All Q (if b then xs else ys) → (All Q xs → Runs.StableSpec (spp_theory N) c P t) → (All Q ys → Runs.StableSpec (spp_theory N) d P t) → Runs.StableSpec (spp_theory N) (λ t. if b then c t else d t) P t
runs_all Q true xs ys c d h f g = f h
runs_all Q false xs ys c d h f g = g h

-- ---- by the operands' values alone

module _ (N : ℕ) (v w : ℕ → ℕ) where
  abbrev Same : ℕ → Type 0
  Same y = v y ≡ w y

  unite_as : (ys : List ℕ) → All Same ys → (h : ℕ) → each (λ y h. Rel.union N h (v y)) ys h ≡ each (λ y h. Rel.union N h (w y)) ys h
  unfolding each
  unite_as [] a h = refl
  unite_as (y ∷ ys) a h = λ d. Rel.union N h (a.0 d) >>= (λ r. unite_as ys a.1 r d)

  meet_as : (ys : List ℕ) → All Same ys → (h : ℕ) → each (λ y h. Rel.intersect N h (v y)) ys h ≡ each (λ y h. Rel.intersect N h (w y)) ys h
  unfolding each
  meet_as [] a h = refl
  meet_as (y ∷ ys) a h = λ d. Rel.intersect N h (a.0 d) >>= (λ r. meet_as ys a.1 r d)

  first_as : (ys : List ℕ) → All Same ys → meet_values N v ys ≡ meet_values N w ys
  first_as [] a = refl
  first_as (y ∷ ys) a = ap (λ (h : ℕ). each (λ z h. Rel.intersect N h (v z)) ys h) a.0 ∙ meet_as ys a.1 (w y)

  pub combine_as : (k : ℕ) (ys : List ℕ) (a b : ℕ) (t : Table) → All Same (operands_with k ys a b) → combine_by N v k ys a b t ≡ combine_by N w k ys a b t
  unfolding combine_by operands_with
  combine_as k ys a b t h =
      pick_all Same (eqb k UNION) _ _ h (λ h. ap (λ (c : Step Table ℕ). c t) (unite_as ys h (Rel.zero_at N)))
      (λ h. pick_all Same (eqb k INTERSECT) _ _ h (λ h. ap (λ (c : Step Table ℕ). c t) (first_as ys h))
      (λ h. pick_all Same (eqb k XOR) _ _ h (λ h. ap₂ (λ (p q : ℕ). Rel.xor N p q t) h.0 h.1.0)
      (λ h. pick_all Same (eqb k DIFFERENCE) _ _ h (λ h. ap₂ (λ (p q : ℕ). Rel.difference N p q t) h.0 h.1.0)
      (λ h. pick_all Same (eqb k COMPLEMENT) _ _ h (λ h. ap (λ (p : ℕ). Ops.complement N p t) h.0)
      (λ h. pick_all Same (eqb k SEQUENCE) _ _ h (λ h. ap₂ (λ (p q : ℕ). Rel.sequence N p q t) h.0 h.1.0)
      (λ h. pick_all Same (eqb k STAR) _ _ h (λ h. ap (λ (p : ℕ). Rel.star N p t) h.0)
      (λ h. pick_all Same (eqb k UNTIL) _ _ h (λ h. ap (given t) h.0)
      (λ h. refl))))))))

-- ---- it is stable

module _ (N : ℕ) where
  abbrev Handle : Table → ℕ → Type 0
  Handle t h = ValidAt t N h

  fold_runs : (o : Spp.Op) (v : ℕ → ℕ) (ys : List ℕ) {t : Table} → Wf N t → All (λ y. ValidAt t N (v y)) ys → (h : ℕ) → ValidAt t N h
      → Runs.StableSpec (spp_theory N) (each (λ y h. Spp.apply N o N h (v y)) ys h) Handle t
  unfolding each
  fold_runs o v [] w a h x = runs_return (spp_theory N) h w x
  fold_runs o v (y ∷ ys) w a h x =
      runs_bind (spp_theory N) (apply_runs N 0 o h (v y) w x a.0) (λ u r e w' q. fold_runs o v ys w' (all_map ys (λ z i. at_ext e N (v z) i) a.1) r q)

  first_runs : (v : ℕ → ℕ) (ys : List ℕ) {t : Table} → Wf N t → All (λ y. ValidAt t N (v y)) ys → Runs.StableSpec (spp_theory N) (meet_values N v ys) Handle t
  first_runs v [] w a = runs_return (spp_theory N) (Rel.one_at N) w (den_one w N (omega arith)).at
  first_runs v (y ∷ ys) w a = fold_runs Spp.intersect v ys w a.1 (v y) a.0

  pub star_runs : (a : ℕ) {t : Table} → Wf N t → ValidAt t N a → Runs.StableSpec (spp_theory N) (Rel.star N a) Handle t
  star_runs a {t} w x = runs_map (spp_theory N) (λ t h e w d. d.at) (star_exact N N (omega arith) t a _ w (den_mem x)).runs

  pub combine_runs : (v : ℕ → ℕ) (k : ℕ) (ys : List ℕ) (a b : ℕ) {t : Table} → Wf N t → All (λ y. ValidAt t N (v y)) (operands_with k ys a b) → Runs.StableSpec (spp_theory N) (combine_by N v k ys a b) Handle t
  unfolding combine_by operands_with Spp.complement
  combine_runs v k ys a b {t} w h =
      let P : ℕ → Type 0 = λ y. ValidAt t N (v y) in
      runs_all P (eqb k UNION) _ _ _ _ h (λ h. fold_runs Spp.union v ys w h (Rel.zero_at N) (den_zero w N (omega arith)).at)
      (λ h. runs_all P (eqb k INTERSECT) _ _ _ _ h (λ h. first_runs v ys w h)
      (λ h. runs_all P (eqb k XOR) _ _ _ _ h (λ h. apply_runs N 0 Spp.xor (v a) (v b) w h.0 h.1.0)
      (λ h. runs_all P (eqb k DIFFERENCE) _ _ _ _ h (λ h. apply_runs N 0 Spp.difference (v a) (v b) w h.0 h.1.0)
      (λ h. runs_all P (eqb k COMPLEMENT) _ _ _ _ h (λ h. apply_runs N 0 Spp.not (v a) (v a) w h.0 h.0)
      (λ h. runs_all P (eqb k SEQUENCE) _ _ _ _ h (λ h. runs_map (spp_theory N) (λ t h e w d. d.at) (sequence_exact N N (omega arith) t (v a) (v b) _ _ w (den_mem h.0) (den_mem h.1.0)).runs)
      (λ h. runs_all P (eqb k STAR) _ _ _ _ h (λ h. star_runs (v a) w h.0)
      (λ h. runs_all P (eqb k UNTIL) _ _ _ _ h (λ h. runs_return (spp_theory N) (v b) w h.0)
      (λ h. last (eqb k TOP)))))))))
    where
      last : (c : Bool) → Runs.StableSpec (spp_theory N) (λ t. if c then given t (Rel.top_at N) else given t (Rel.zero_at N)) Handle t
      last true = runs_return (spp_theory N) (Rel.top_at N) w (den_top w N (omega arith)).at
      last false = runs_return (spp_theory N) (Rel.zero_at N) w (den_zero w N (omega arith)).at

-- ---- by what later tables have

module _ {N : ℕ} {L : Limits} {σ υ : Aut} (g : WfAut N L σ) (u : Later σ υ) (x : ℕ) (l : x < states σ) where
  union_members : eqb (kind σ x) UNION ≡ true → members υ x ≡ members σ x
  unfolding form
  union_members q = list_later g u UNION union refl x l (eqb-true (kind σ x) UNION q)

  intersect_members : eqb (kind σ x) INTERSECT ≡ true → members υ x ≡ members σ x
  unfolding form
  intersect_members q = list_later g u INTERSECT intersection refl x l (eqb-true (kind σ x) INTERSECT q)

  pub operands_later : operands_of υ.states.words υ.members.words x ≡ operands_of σ.states.words σ.members.words x
  unfolding operands_with
  operands_later =
      (λ d. operands_with (kind_later u x l d) (members υ x) (first_later u x l d) (second_later u x l d))
      ∙ pick (eqb (kind σ x) UNION) union_members (λ _. pick (eqb (kind σ x) INTERSECT) intersect_members (λ _. refl))

  pub from_later : (v : ℕ → ℕ) (ω : Aut) → epsilon_from N v υ x ω ≡ epsilon_from N v σ x ω
  unfolding combine_by
  from_later v ω =
      ap (placed put_nodes ω)
      ((λ d. combine_by N v (kind_later u x l d) (members υ x) (first_later u x l d) (second_later u x l d) ω.nodes)
      ∙ pick (eqb (kind σ x) UNION) (λ q. ap (λ (ys : List ℕ). unite_values N v ys ω.nodes) (union_members q))
      (λ _. pick (eqb (kind σ x) INTERSECT) (λ q. ap (λ (ys : List ℕ). meet_values N v ys ω.nodes) (intersect_members q)) (λ _. refl)))
