-- What delta puts together: it replays, depends on the operands' lists alone, and is the same by what later tables have.
use Rattle.std.specs.Prelude.{if◌then◌else◌}
use mathlib.Core.Path.{◌≡◌, refl, ◌∙◌, ap, ap₂}
use mathlib.Core.Bool.{Bool, true, false}
use mathlib.Core.List.{List, [], ◌∷◌, map}
use Prim.Native.Nat.{ℕ, ◌≤◌, ◌<◌}
use native.Mathlib.Omega.{arith}
use lib.Dec.{eqb}
use borrow.Author.Tests.{eqb-true}
use Rattle.common.specs.Outcome.{Step, ◌>>=◌}
use Rattle.netkat.specs.Rules.{union, intersection}
use Rattle.netkat_steps.specs.ListSteps.{Edge, st_xor, st_difference, st_complement}
use Rattle.spp_steps.proofs.Laws.{den_one, den_top}
use Rattle.aut_steps.specs.Relations as Rel
use Rattle.aut_steps.specs.Tables.{SPP, UNION, INTERSECT, XOR, DIFFERENCE, COMPLEMENT, SEQUENCE, STAR, DUP, NEXT, UNTIL, Limits, Aut, on_nodes}
use Rattle.aut_steps.specs.Kinds.{form}
use Rattle.aut_steps.specs.Ascending.{All}
use Rattle.aut_steps.specs.Wf.{states, kind, first, second, members, ExtAut, WfAut}
use Rattle.aut_steps.proofs.Wf.{grown_trans, state_grown}
use Rattle.aut_st_steps.specs.Operations.{ops}
use Rattle.aut_st_steps.specs.Edges.{EdgesAt}
use Rattle.aut_st_steps.proofs.Edges.{edges_grown}
use Rattle.aut_st_steps.specs.ListSpec.{ListAt, Label, State}
use Rattle.aut_st_steps.proofs.ListSpec.{list_grown, list_empty, label_grown}
use Rattle.aut_delta_steps.proofs.ListGoes.{ListsAt, empties, with_list_lem}
use Rattle.aut_delta_steps.specs.Delta.{union_all, intersect_all, intersect_first, sequence_list, star_list, until_list, dup_list, top_list}
use Rattle.aut_delta_steps.specs.DeltaReads.{list_operands_with, together_with}
use Rattle.aut_replay.specs.Replay.{Later, Wider, Replays, In, list_from}
use Rattle.aut_replay.proofs.Runs.{kind_later, first_later, second_later, replays_return, replays_bind, replays_branch}
use Rattle.aut_replay.proofs.Opening.{list_later}
use Rattle.aut_replay.proofs.Constructors.{star_replay, mk_spp_replay, mk_top_replay, mk_until_replay}
use Rattle.aut_replay.proofs.Lists.{st_singleton_replay, st_union_replay, st_intersect_replay, st_difference_replay, st_xor_replay, st_complement_replay, st_postcompose_replay, st_precompose_replay, st_intersect_expr_replay}
use Rattle.aut_replay.proofs.Values.{pick}

-- ---- lists joined

later_lists : {N : ℕ} {L : Limits} {σ τ : Aut} {lists : List (List Edge)} → ExtAut σ τ → ListsAt N L σ lists → ListsAt N L τ lists
later_lists w empties = empties
later_lists w (with_list_lem t ts) = with_list_lem (list_grown w t) (later_lists w ts)

-- the lists of these states
lists_of : {N : ℕ} {L : Limits} {σ : Aut} (v : ℕ → List Edge) (ys : List ℕ) → All (λ y. ListAt N L σ (v y)) ys → ListsAt N L σ (map v ys)
lists_of v [] a = empties
lists_of v (y ∷ ys) a = with_list_lem a.0 (lists_of v ys a.1)

module _ {N : ℕ} {L L' : Limits} (wide : Wider L L') where
  union_all_replay : (lists : List (List Edge)) {σ : Aut} {r : List Edge} → WfAut N L σ → ListsAt N L σ lists → ListAt N L σ r → Replays N L' (In N L (ListAt N L)) (union_all N L' lists r) σ (union_all N L lists r σ)
  unfolding union_all
  union_all_replay [] {r = r} g ts t = replays_return r (g, t)
  union_all_replay (es ∷ lists) g (with_list_lem u us) t = replays_bind (st_union_replay wide g t.edges u.edges) (λ τ r w (v, p). union_all_replay lists v (later_lists w us) p)

  intersect_all_replay : (lists : List (List Edge)) {σ : Aut} {r : List Edge} → WfAut N L σ → ListsAt N L σ lists → ListAt N L σ r
      → Replays N L' (In N L (ListAt N L)) (intersect_all N L' lists r) σ (intersect_all N L lists r σ)
  unfolding intersect_all
  intersect_all_replay [] {r = r} g ts t = replays_return r (g, t)
  intersect_all_replay (es ∷ lists) g (with_list_lem u us) t = replays_bind (st_intersect_replay wide g t.edges u.edges) (λ τ r w (v, p). intersect_all_replay lists v (later_lists w us) p)

  intersect_first_replay : (lists : List (List Edge)) {σ : Aut} → WfAut N L σ → ListsAt N L σ lists → Replays N L' (In N L (ListAt N L)) (intersect_first N L' lists) σ (intersect_first N L lists σ)
  intersect_first_replay [] {σ} g ts = replays_return [] (g, list_empty σ)
  intersect_first_replay (es ∷ lists) g (with_list_lem u us) = intersect_all_replay lists g us u

  module _ {σ : Aut} (g : WfAut N L σ) where
    sequence_list_replay : {b ε : ℕ} {ts us : List Edge} → State σ b → Label N σ ε → EdgesAt N σ ts → EdgesAt N σ us
        → Replays N L' (In N L (ListAt N L)) (sequence_list N L' b ε ts us) σ (sequence_list N L b ε ts us σ)
    unfolding sequence_list
    sequence_list_replay k a t u =
        replays_bind (st_postcompose_replay wide g t k) (λ σ₁ late w₁ (v₁, p₁).
        replays_bind (st_precompose_replay wide v₁ (label_grown w₁ a) (edges_grown w₁ u)) (λ σ₂ early w₂ (v₂, p₂). st_union_replay wide v₂ (edges_grown w₂ p₁.edges) p₂.edges))

    star_list_replay : {x ε* : ℕ} {ts : List Edge} → State σ x → Label N σ ε* → EdgesAt N σ ts → Replays N L' (In N L (ListAt N L)) (star_list N L' x ε* ts) σ (star_list N L x ε* ts σ)
    unfolding star_list
    star_list_replay k a t = replays_bind (st_postcompose_replay wide g t k) (λ σ₁ late w₁ (v₁, p₁). st_precompose_replay wide v₁ (label_grown w₁ a) p₁.edges)

    until_list_replay : {a b : ℕ} {ts us : List Edge} → State σ a → State σ b → EdgesAt N σ ts → EdgesAt N σ us
        → Replays N L' (In N L (ListAt N L)) (until_list N L' a b ts us) σ (until_list N L a b ts us σ)
    unfolding until_list
    until_list_replay k m t u =
        replays_bind (mk_until_replay g k m) (λ σ₁ x w₁ (v₁, p₁).
        replays_bind (st_intersect_expr_replay wide v₁ (edges_grown w₁ t) p₁) (λ σ₂ met w₂ (v₂, p₂). st_union_replay wide v₂ (edges_grown (grown_trans w₁ w₂) u) p₂.edges))

    module _ (one : 1 ≤ L.transitions) where
      dup_list_replay : Replays N L' (In N L (ListAt N L)) (dup_list N L') σ (dup_list N L σ)
      unfolding dup_list
      dup_list_replay =
          replays_bind (mk_spp_replay g (record { at = (den_one g.nodes N (omega arith)).at })) (λ σ₁ x w (v, p). st_singleton_replay wide v p (record { at = (den_one v.nodes N (omega arith)).at }) one)

      top_list_replay : Replays N L' (In N L (ListAt N L)) (top_list N L') σ (top_list N L σ)
      unfolding top_list
      top_list_replay = replays_bind (mk_top_replay g) (λ σ₁ x w (v, p). st_singleton_replay wide v p (record { at = (den_top v.nodes N (omega arith)).at }) one)

-- ---- by kind

-- what is needed of the operands of x
pub record Operands (N : ℕ) (L : Limits) (α : Aut) (v : ℕ → List Edge) (e k x : ℕ) (ys : List ℕ) (a b : ℕ) : Type 0 where
  pub lists : All (λ y. ListAt N L α (v y)) (list_operands_with k ys a b)
  pub state : State α x
  pub sequence : eqb k SEQUENCE ≡ true → State α b × Label N α e
  pub star : eqb k STAR ≡ true → Label N α e
  pub next : eqb k NEXT ≡ true → State α a
  pub until : eqb k UNTIL ≡ true → State α a × State α b

replays_all : {N : ℕ} {L : Limits} {A : Type 0} {Q : Aut → A → Type 0} {σ : Aut} (P : ℕ → Type 0) (b : Bool) (xs zs : List ℕ) (m k m' k' : Step Aut A) → All P (if b then xs else zs)
    → (b ≡ true → All P xs → Replays N L Q m' σ (m σ)) → (b ≡ false → All P zs → Replays N L Q k' σ (k σ)) → Replays N L Q (if b then m' else k') σ ((if b then m else k) σ)
replays_all P true xs zs m k m' k' h f g = f refl h
replays_all P false xs zs m k m' k' h f g = g refl h

pub together_replay : {N : ℕ} {L L' : Limits} → Wider L L' → {α : Aut} → WfAut N L α → 1 ≤ L.transitions → (v : ℕ → List Edge) (e k x : ℕ) (ys : List ℕ) (a b : ℕ) → Operands N L α v e k x ys a b
    → Replays N L' (In N L (ListAt N L)) (together_with N L' v e k x ys a b) α (together_with N L v e k x ys a b α)
unfolding together_with list_operands_with
together_replay {N} {L} wide {α} g one v e k x ys a b o =
    let P : ℕ → Type 0 = λ y. ListAt N L α (v y) in
    replays_branch (eqb k SPP) _ _ _ _ (λ _. replays_return [] (g, list_empty α))
    (λ _. replays_all P (eqb k UNION) _ _ _ _ _ _ o.lists (λ _ h. union_all_replay wide (map v ys) g (lists_of v ys h) (list_empty α))
    (λ _ h. replays_all P (eqb k INTERSECT) _ _ _ _ _ _ h (λ _ h. intersect_first_replay wide (map v ys) g (lists_of v ys h))
    (λ _ h. replays_all P (eqb k XOR) _ _ _ _ _ _ h (λ _ h. st_xor_replay wide g h.0.edges h.1.0.edges)
    (λ _ h. replays_all P (eqb k DIFFERENCE) _ _ _ _ _ _ h (λ _ h. st_difference_replay wide g h.0.edges h.1.0.edges)
    (λ _ h. replays_all P (eqb k COMPLEMENT) _ _ _ _ _ _ h (λ _ h. st_complement_replay wide g h.0.edges)
    (λ _ h. replays_all P (eqb k SEQUENCE) _ _ _ _ _ _ h (λ q h. sequence_list_replay wide g (o.sequence q).0 (o.sequence q).1 h.0.edges h.1.0.edges)
    (λ _ h. replays_all P (eqb k STAR) _ _ _ _ _ _ h
    (λ q h. replays_bind (star_replay g (o.star q)) (λ τ s w (u, i). star_list_replay wide u (state_grown w o.state) i (edges_grown w h.0.edges)))
    (λ _ h. replays_branch (eqb k DUP) _ _ _ _ (λ _. dup_list_replay wide g one)
    (λ _. replays_branch (eqb k NEXT) _ _ _ _ (λ q. st_singleton_replay wide g (o.next q) (record { at = (den_top g.nodes N (omega arith)).at }) one)
    (λ _. replays_all P (eqb k UNTIL) _ _ _ _ _ _ h (λ q h. until_list_replay wide g (o.until q).0 (o.until q).1 h.0.edges h.1.0.edges)
    (λ _ h. top_list_replay wide g one)))))))))))

-- ---- by the operands' lists alone

pick_both : {A : Type 0} (P : ℕ → Type 0) (b : Bool) (xs ys : List ℕ) {o p o' p' : A} → All P (if b then xs else ys) → (b ≡ true → All P xs → o ≡ p) → (All P ys → o' ≡ p') → (if b then o else o') ≡ (if b then p else p')
pick_both P true xs ys h f g = f refl h
pick_both P false xs ys h f g = g h

map_as : (v w : ℕ → List Edge) (ys : List ℕ) → All (λ y. v y ≡ w y) ys → map v ys ≡ map w ys
map_as v w [] a = refl
map_as v w (y ∷ ys) a = ap₂ ◌∷◌ a.0 (map_as v w ys a.1)

pub together_as : (N : ℕ) (L : Limits) (v w : ℕ → List Edge) (e f k x : ℕ) (ys : List ℕ) (a b : ℕ) → All (λ y. v y ≡ w y) (list_operands_with k ys a b)
    → (eqb k SEQUENCE ≡ true → e ≡ f) → (eqb k STAR ≡ true → e ≡ f) → together_with N L v e k x ys a b ≡ together_with N L w f k x ys a b
unfolding together_with list_operands_with
together_as N L v w e f k x ys a b h s t =
    let P : ℕ → Type 0 = λ y. v y ≡ w y in
    pick (eqb k SPP) (λ _. refl)
    (λ _. pick_both P (eqb k UNION) _ _ h (λ _ h. ap (λ (l : List (List Edge)). union_all N L l []) (map_as v w ys h))
    (λ h. pick_both P (eqb k INTERSECT) _ _ h (λ _ h. ap (λ (l : List (List Edge)). intersect_first N L l) (map_as v w ys h))
    (λ h. pick_both P (eqb k XOR) _ _ h (λ _ h. ap₂ (st_xor (ops N L)) h.0 h.1.0)
    (λ h. pick_both P (eqb k DIFFERENCE) _ _ h (λ _ h. ap₂ (st_difference (ops N L)) h.0 h.1.0)
    (λ h. pick_both P (eqb k COMPLEMENT) _ _ h (λ _ h. ap (st_complement (ops N L)) h.0)
    (λ h. pick_both P (eqb k SEQUENCE) _ _ h (λ q h. λ d. sequence_list N L b (s q d) (h.0 d) (h.1.0 d))
    (λ h. pick_both P (eqb k STAR) _ _ h (λ q h. λ d. on_nodes (Rel.star N (t q d)) >>= λ r. star_list N L x r (h.0 d))
    (λ h. pick (eqb k DUP) (λ _. refl)
    (λ _. pick (eqb k NEXT) (λ _. refl)
    (λ _. pick_both P (eqb k UNTIL) _ _ h (λ _ h. ap₂ (until_list N L a b) h.0 h.1.0)
    (λ h. refl)))))))))))

-- ---- by what later tables have

module _ {N : ℕ} {M : Limits} {σ υ : Aut} (g : WfAut N M σ) (u : Later σ υ) (x : ℕ) (l : x < states σ) where
  union_members : eqb (kind σ x) UNION ≡ true → members υ x ≡ members σ x
  unfolding form
  union_members q = list_later g u UNION union refl x l (eqb-true (kind σ x) UNION q)

  intersect_members : eqb (kind σ x) INTERSECT ≡ true → members υ x ≡ members σ x
  unfolding form
  intersect_members q = list_later g u INTERSECT intersection refl x l (eqb-true (kind σ x) INTERSECT q)

  pub list_operands_later : list_operands_with (kind υ x) (members υ x) (first υ x) (second υ x) ≡ list_operands_with (kind σ x) (members σ x) (first σ x) (second σ x)
  unfolding list_operands_with
  list_operands_later =
      (λ d. list_operands_with (kind_later u x l d) (members υ x) (first_later u x l d) (second_later u x l d))
      ∙ pick (eqb (kind σ x) UNION) union_members (λ _. pick (eqb (kind σ x) INTERSECT) intersect_members (λ _. refl))

  pub list_from_later : (L : Limits) (v : ℕ → List Edge) (e : ℕ → ℕ) → list_from N L v e υ x ≡ list_from N L v e σ x
  unfolding together_with
  list_from_later L v e =
      (λ d. together_with N L v (e (first_later u x l d)) (kind_later u x l d) x (members υ x) (first_later u x l d) (second_later u x l d))
      ∙ pick (eqb (kind σ x) SPP) (λ _. refl)
      (λ _. pick (eqb (kind σ x) UNION) (λ q. ap (λ (ys : List ℕ). union_all N L (map v ys) []) (union_members q))
      (λ _. pick (eqb (kind σ x) INTERSECT) (λ q. ap (λ (ys : List ℕ). intersect_first N L (map v ys)) (intersect_members q)) (λ _. refl)))
