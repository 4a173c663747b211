-- What holds of the definitions of specs/EpsilonReads.
use Rattle.std.specs.Prelude.{if◌then◌else◌}
use mathlib.Core.Path.{◌≡◌, refl, sym, ◌∙◌, ap, ap₂, subst}
use mathlib.Core.Bool.{Bool, true, false}
use mathlib.Core.List.{List, [], ◌∷◌, map}
use Prim.Native.Nat.{ℕ, ◌-◌, ◌<◌}
use native.Mathlib.Omega.{arith}
use lib.Dec.{eqb}
use lib.ListN.{get_or}
use borrow.Author.Tests.{eqb-true, eq-eqb, ne_eqb, lt-ltb, le-ltb}
use Rattle.common.specs.Outcome.{Outcome, refused, given, Step, return, after, ◌>>=◌}
use Rattle.common.proofs.Follow.{refused≢given}
use Rattle.common.specs.Runs.{Table, placed}
use Rattle.netkat.specs.Rules.{union, intersection, xor, difference, complement, sequence, star, until}
use Rattle.spp_steps.specs.Wf.{ValidAt}
use Rattle.spp_steps.proofs.Laws.{by_test}
use Rattle.aut_steps.specs.Relations as Rel
use Rattle.aut_steps.specs.Tables.{SPP, UNION, INTERSECT, XOR, DIFFERENCE, COMPLEMENT, SEQUENCE, STAR, UNTIL, TOP, words, list_of, Limits, Aut, put_nodes, on_nodes}
use Rattle.aut_steps.specs.Kinds.{form}
use Rattle.aut_steps.specs.Ascending.{All}
use Rattle.aut_steps.specs.Constructors.{each}
use Rattle.aut_steps.specs.Wf.{states, kind, first, second, members, WfAut}
use Rattle.aut_steps.proofs.Wf.{kind_grown, first_grown, second_grown}
use Rattle.aut_st_steps.specs.Operations as Ops
use Rattle.aut_delta_steps.specs.Epsilon.{epsilon_of, value_of, keep_epsilon, each_of, unite_all, meet_all, meet_first, epsilon_by_kind, epsilon_with, epsilon}
use Rattle.aut_delta_steps.proofs.Agree.{Agree, stop, come, All2, none, also, all2_map, all2_reads}
use Rattle.aut_delta_steps.specs.Noted.{Noted}
use Rattle.aut_delta_steps.proofs.Noted.{noted_refl, noted_grown}
use Rattle.aut_delta_steps.specs.Wf.{Valued}
use Rattle.aut_delta_steps.proofs.Wf.{valued_reads}
use Rattle.aut_delta_steps.proofs.Operands.{Below, below_one, below_two, below_many}
use Rattle.aut_delta_steps.specs.EpsilonSpec.{Ready}
use Rattle.aut_delta_steps.proofs.EpsilonLaws.{Stopped, AskedAll, MeansAll, ask_all, epsilon_goes, epsilon_is}
use Rattle.aut_delta_steps.specs.EpsilonReads.{operands_with, operands_of, work_all, unite_values, meet_values, combine_by, combine_on}

module _ (N : ℕ) where
  -- from the values that the tables have
  abbrev pub combine_at : ℕ → Step Aut ℕ
  combine_at x σ = on_nodes (combine_on N σ.states.words σ.members.words x) σ

-- ---- what is worked out can be read again

-- y has its value, a relation
pub record Value (N : ℕ) (σ : Aut) (y : ℕ) : Type 0 where
  pub valued : Valued σ y (value_of σ.states.words y)
  pub at : ValidAt σ.nodes N (value_of σ.states.words y)

value_of_lem : {N : ℕ} {σ : Aut} {y e : ℕ} → Valued σ y e → ValidAt σ.nodes N e → Value N σ y
value_of_lem {N} {σ} {y} v a = record { valued = subst (Valued σ y) (sym (valued_reads v)) v; at = subst (ValidAt σ.nodes N) (sym (valued_reads v)) a }

pub given_store : {S A : Type 0} {σ τ : S} {a b : A} → ◌≡◌ {A = Outcome S A} (given σ a) (given τ b) → σ ≡ τ
given_store e = cc

-- an answer that is not kept
abbrev forget : {S A : Type 0} → A → Step S Unit
forget a σ = given σ tt

work_each : {S A : Type 0} (f : ℕ → Step S A) (ys : List ℕ) (σ : S) → work_all f ys σ ≡ after (each_of f ys σ) forget
unfolding work_all each_of
work_each f [] σ = refl
work_each {S} {A} f (y ∷ ys) σ = go (λ τ. work_each f ys τ) (f y σ)
  where
    rest : (a : A) (o : Outcome S (List A)) → after o forget ≡ after (after o (λ es. return (a ∷ es))) forget
    rest a (refused number) = refl
    rest a (given τ es) = refl

    go : ((τ : S) → work_all f ys τ ≡ after (each_of f ys τ) forget) → (o : Outcome S A) → after o (λ a. work_all f ys) ≡ after (after o (λ a τ. after (each_of f ys τ) (λ es. return (a ∷ es)))) forget
    go ih (refused number) = refl
    go ih (given τ a) = ih τ ∙ rest a (each_of f ys τ)

-- the answers are not needed where they can be had otherwise
module _ {S A : Type 0} {W : ℕ → Type 0} {Q : S → List A → Type 0} (f : ℕ → Step S A) (ys : List ℕ) (σ : S) {p : Outcome S (List A)} (c : Agree W Q (each_of f ys σ) p) where
  pub each_work : {B : Type 0} (k : List A → Step S B) (j : Step S B) → ((τ : S) (es : List A) → Q τ es → k es τ ≡ j τ) → after (each_of f ys σ) k ≡ after (work_all f ys σ) (λ u. j)
  each_work k j e = go c ∙ ap (λ (o : Outcome S Unit). after o (λ u. j)) (sym (work_each f ys σ))
    where
      go : {o p : Outcome S (List A)} → Agree W Q o p → after o k ≡ after (after o forget) (λ u. j)
      go (stop w) = refl
      go (come {σ = τ} {a = es} q) = e τ es q

  pub work_gives : (R : S → Type 0) → ((τ : S) (es : List A) → Q τ es → R τ) → {τ : S} → work_all f ys σ ≡ given τ tt → R τ
  work_gives R h {τ} e = go c (sym (work_each f ys σ) ∙ e)
    where
      go : {o p : Outcome S (List A)} → Agree W Q o p → after o forget ≡ given τ tt → R τ
      go (stop w) q = absurd (refused≢given q)
      go (come {σ = τ'} {a = es} d) q = subst R (given_store q) (h τ' es d)

-- ---- relations of a list

again_placed : (σ : Aut) (t : Table) (o : Outcome Table ℕ) → placed put_nodes (put_nodes t σ) o ≡ placed put_nodes σ o
again_placed σ t (refused number) = refl
again_placed σ t (given u h) = refl

module _ (N : ℕ) (v : ℕ → ℕ) where
  unite_values_lem : (ys : List ℕ) (h : ℕ) (σ : Aut) → unite_all N (map v ys) h σ ≡ placed put_nodes σ (each (λ y h. Rel.union N h (v y)) ys h σ.nodes)
  unfolding unite_all each
  unite_values_lem [] h σ = refl
  unite_values_lem (y ∷ ys) h σ = go (λ h τ. unite_values_lem ys h τ) (Rel.union N h (v y) σ.nodes)
    where
      go : ((h : ℕ) (τ : Aut) → unite_all N (map v ys) h τ ≡ placed put_nodes τ (each (λ y h. Rel.union N h (v y)) ys h τ.nodes)) → (o : Outcome Table ℕ)
          → after (placed put_nodes σ o) (unite_all N (map v ys)) ≡ placed put_nodes σ (after o (each (λ y h. Rel.union N h (v y)) ys))
      go ih (refused number) = refl
      go ih (given t u) = ih u (put_nodes t σ) ∙ again_placed σ t (each (λ y h. Rel.union N h (v y)) ys u t)

  meet_values_lem : (ys : List ℕ) (h : ℕ) (σ : Aut) → meet_all N (map v ys) h σ ≡ placed put_nodes σ (each (λ y h. Rel.intersect N h (v y)) ys h σ.nodes)
  unfolding meet_all each
  meet_values_lem [] h σ = refl
  meet_values_lem (y ∷ ys) h σ = go (λ h τ. meet_values_lem ys h τ) (Rel.intersect N h (v y) σ.nodes)
    where
      go : ((h : ℕ) (τ : Aut) → meet_all N (map v ys) h τ ≡ placed put_nodes τ (each (λ y h. Rel.intersect N h (v y)) ys h τ.nodes)) → (o : Outcome Table ℕ)
          → after (placed put_nodes σ o) (meet_all N (map v ys)) ≡ placed put_nodes σ (after o (each (λ y h. Rel.intersect N h (v y)) ys))
      go ih (refused number) = refl
      go ih (given t u) = ih u (put_nodes t σ) ∙ again_placed σ t (each (λ y h. Rel.intersect N h (v y)) ys u t)

  first_values : (ys : List ℕ) (σ : Aut) → meet_first N (map v ys) σ ≡ placed put_nodes σ (meet_values N v ys σ.nodes)
  first_values [] σ = refl
  first_values (y ∷ ys) σ = meet_values_lem ys (v y) σ

-- ---- the answers of one or two operands, as those of a list

module _ {S A : Type 0} (f : ℕ → Step S ℕ) (a : ℕ) (σ : S) where
  one_each : (k : ℕ → Step S A) → after (f a σ) k ≡ after (each_of f (a ∷ []) σ) (λ es. k (get_or es 0 0))
  unfolding each_of
  one_each k = go (f a σ)
    where
      go : (o : Outcome S ℕ) → after o k ≡ after (after o (λ p. return (p ∷ []))) (λ es. k (get_or es 0 0))
      go (refused number) = refl
      go (given τ p) = refl

  two_each : (b : ℕ) (k : ℕ → ℕ → Step S A) → after (f a σ) (λ p τ. after (f b τ) (k p)) ≡ after (each_of f (a ∷ b ∷ []) σ) (λ es. k (get_or es 0 0) (get_or es 1 0))
  unfolding each_of
  two_each b k = go (f a σ)
    where
      then_b : (p : ℕ) (o : Outcome S ℕ) → after o (k p) ≡ after (after (after o (λ q. return (q ∷ []))) (λ es. return (p ∷ es))) (λ es. k (get_or es 0 0) (get_or es 1 0))
      then_b p (refused number) = refl
      then_b p (given τ q) = refl

      go : (o : Outcome S ℕ) → after o (λ p τ. after (f b τ) (k p)) ≡ after (after o (λ p τ. after (after (f b τ) (λ q. return (q ∷ []))) (λ es. return (p ∷ es)))) (λ es. k (get_or es 0 0) (get_or es 1 0))
      go (refused number) = refl
      go (given τ p) = then_b p (f b τ)

-- ---- the law

pub all_if : (P : ℕ → Type 0) (b : Bool) (xs ys : List ℕ) → (b ≡ true → All P xs) → (b ≡ false → All P ys) → All P (if b then xs else ys)
all_if P true xs ys f g = f refl
all_if P false xs ys f g = g refl

module _ {N : ℕ} {L : Limits} {σ : Aut} (r : Ready N L σ) {x : ℕ} (l : x < states σ) where
  abbrev st : List ℕ
  st = σ.states.words

  abbrev operands : List ℕ
  operands = operands_of st σ.members.words x

  pub operands_below : All (Below σ x) operands
  unfolding operands_with form
  operands_below =
      let k : ℕ = kind σ x in
      let g : WfAut N L σ = r.good in
      all_if (Below σ x) (eqb k UNION) _ _ (λ q. below_many g l UNION (eqb-true k UNION q) union refl)
      (λ n. all_if (Below σ x) (eqb k INTERSECT) _ _ (λ q. below_many g l INTERSECT (eqb-true k INTERSECT q) intersection refl)
      (λ n. all_if (Below σ x) (eqb k XOR) _ _ (λ q. both (below_two g l XOR (eqb-true k XOR q) xor refl))
      (λ n. all_if (Below σ x) (eqb k DIFFERENCE) _ _ (λ q. both (below_two g l DIFFERENCE (eqb-true k DIFFERENCE q) difference refl))
      (λ n. all_if (Below σ x) (eqb k COMPLEMENT) _ _ (λ q. (below_one g l COMPLEMENT (eqb-true k COMPLEMENT q) complement refl, tt))
      (λ n. all_if (Below σ x) (eqb k SEQUENCE) _ _ (λ q. both (below_two g l SEQUENCE (eqb-true k SEQUENCE q) sequence refl))
      (λ n. all_if (Below σ x) (eqb k STAR) _ _ (λ q. (below_one g l STAR (eqb-true k STAR q) star refl, tt))
      (λ n. all_if (Below σ x) (eqb k UNTIL) _ _ (λ q. ((below_two g l UNTIL (eqb-true k UNTIL q) until refl).1, tt))
      (λ n. tt))))))))
    where
      both : {a b : ℕ} → Below σ x a × Below σ x b → All (Below σ x) (a ∷ b ∷ [])
      both p = (p.0, (p.1, tt))

  asked : Agree (Stopped N L σ) (AskedAll N L σ operands σ) (each_of (epsilon N) operands σ) (each_of (epsilon N) operands σ)
  asked = ask_all r l {again = epsilon N} {other = epsilon N} (λ τ q y m k. epsilon_goes q m) operands (noted_refl σ) r operands_below

  -- each operand has its value, where all are worked out
  pub record WorkedOut (τ : Aut) : Type 0 where
    pub noted : Noted σ τ
    pub ready : Ready N L τ
    pub values : All (Value N τ) operands

  pub worked_out : {τ : Aut} → work_all (epsilon N) operands σ ≡ given τ tt → WorkedOut τ
  worked_out e = work_gives (epsilon N) operands σ asked WorkedOut (λ τ es a. record { noted = a.noted; ready = a.ready; values = go a.means a.values }) e
    where
      go : {τ : Aut} {ys es : List ℕ} → MeansAll N L σ τ.nodes ys es → All2 (Valued τ) ys es → All (Value N τ) ys
      go none none = tt
      go (also m ms) (also v vs) = (value_of_lem v m.den.at, go ms vs)

  -- by kind: zs are the operands, K puts the answers together
  module _ (zs : List ℕ) (e : operands ≡ zs) (K : List ℕ → Step Aut ℕ) where
    by_list : ((υ : Aut) → Noted σ υ → K (map (value_of υ.states.words) zs) υ ≡ combine_at N x υ) → after (each_of (epsilon N) zs σ) K ≡ after (work_all (epsilon N) operands σ) (λ u. combine_at N x)
    by_list f =
        ap (λ (zs : List ℕ). after (each_of (epsilon N) zs σ) K) (sym e)
        ∙ each_work (epsilon N) operands σ asked K (combine_at N x) (λ υ es a.
        ap (λ (es : List ℕ). K es υ) (sym (all2_reads (value_of υ.states.words) (all2_map (λ y e v. valued_reads v) a.values)))
        ∙ ap (λ (zs : List ℕ). K (map (value_of υ.states.words) zs) υ) e
        ∙ f υ a.noted)

  -- what is put together afterwards, by what x was before
  combine_same : (υ : Aut) → Noted σ υ → (k : ℕ) → kind σ x ≡ k
      → combine_at N x υ ≡ placed put_nodes υ (combine_by N (value_of υ.states.words) k (members σ x) (first σ x) (second σ x) υ.nodes)
  combine_same υ n k e =
      let w = noted_grown n in
      let v : ℕ → ℕ = value_of υ.states.words in
      ap (λ (j : ℕ). placed put_nodes υ (combine_by N v j (members υ x) (first υ x) (second υ x) υ.nodes)) (kind_grown w x l ∙ e)
      ∙ ap (λ (m : Table). placed put_nodes υ (combine_by N v k (list_of υ.states.words m.words x) (first υ x) (second υ x) υ.nodes)) n.members
      ∙ ap₂ (λ (a b : ℕ). placed put_nodes υ (combine_by N v k (words σ.members.words a b) a b υ.nodes)) (first_grown w x l) (second_grown w x l)

  abbrev Works : Outcome Aut ℕ → Type 0
  Works o = o ≡ after (work_all (epsilon N) operands σ) (λ u. combine_at N x)

  -- with so many operands, of which op makes the relation
  module _ (k : ℕ) (e : kind σ x ≡ k) where
    operands_are : {zs : List ℕ} → operands_with k (members σ x) (first σ x) (second σ x) ≡ zs → operands ≡ zs
    operands_are q = ap (λ (j : ℕ). operands_with j (members σ x) (first σ x) (second σ x)) e ∙ q

    combine_is : (υ : Aut) → Noted σ υ → {o : Outcome Table ℕ} → combine_by N (value_of υ.states.words) k (members σ x) (first σ x) (second σ x) υ.nodes ≡ o → placed put_nodes υ o ≡ combine_at N x υ
    combine_is υ n q = sym (combine_same υ n k e ∙ ap (placed put_nodes υ) q)

    two_works : (op : ℕ → ℕ → Step Table ℕ) → operands_with k (members σ x) (first σ x) (second σ x) ≡ first σ x ∷ second σ x ∷ []
        → ((v : ℕ → ℕ) (t : Table) → combine_by N v k (members σ x) (first σ x) (second σ x) t ≡ op (v (first σ x)) (v (second σ x)) t)
        → Works ((epsilon N (first σ x) >>= λ a. epsilon N (second σ x) >>= λ b. on_nodes (op a b)) σ)
    two_works op p q =
        two_each (epsilon N) (first σ x) σ (second σ x) (λ a b. on_nodes (op a b))
        ∙ by_list (first σ x ∷ second σ x ∷ []) (operands_are p) (λ es. on_nodes (op (get_or es 0 0) (get_or es 1 0))) (λ υ n. combine_is υ n (q (value_of υ.states.words) υ.nodes))

    one_works : (op : ℕ → Step Table ℕ) (a : ℕ) → operands_with k (members σ x) (first σ x) (second σ x) ≡ a ∷ []
        → ((v : ℕ → ℕ) (t : Table) → combine_by N v k (members σ x) (first σ x) (second σ x) t ≡ op (v a) t)
        → Works ((epsilon N a >>= λ p. on_nodes (op p)) σ)
    one_works op a p q =
        one_each (epsilon N) a σ (λ p. on_nodes (op p))
        ∙ by_list (a ∷ []) (operands_are p) (λ es. on_nodes (op (get_or es 0 0))) (λ υ n. combine_is υ n (q (value_of υ.states.words) υ.nodes))

    many_works : (K : List ℕ → Step Aut ℕ) (op : (ℕ → ℕ) → List ℕ → Step Table ℕ) → operands_with k (members σ x) (first σ x) (second σ x) ≡ members σ x
        → ((v : ℕ → ℕ) (t : Table) → combine_by N v k (members σ x) (first σ x) (second σ x) t ≡ op v (members σ x) t)
        → ((v : ℕ → ℕ) (ys : List ℕ) (υ : Aut) → K (map v ys) υ ≡ on_nodes (op v ys) υ)
        → Works ((each_of (epsilon N) (members σ x) >>= K) σ)
    many_works K op p q f =
        by_list (members σ x) (operands_are p) K (λ υ n. f (value_of υ.states.words) (members σ x) υ ∙ combine_is υ n (q (value_of υ.states.words) υ.nodes))

    none_works : (h : ℕ) → operands_with k (members σ x) (first σ x) (second σ x) ≡ [] → ((v : ℕ → ℕ) (t : Table) → combine_by N v k (members σ x) (first σ x) (second σ x) t ≡ given t h) → Works (given σ h)
    unfolding each_of
    none_works h p q = by_list [] (operands_are p) (λ es σ. given σ h) (λ υ n. combine_is υ n (q (value_of υ.states.words) υ.nodes))

  is_kind : {o : Outcome Aut ℕ} → Works o → epsilon_by_kind N (epsilon N) x σ ≡ o → Works (epsilon_by_kind N (epsilon N) x σ)
  is_kind w q = q ∙ w

  kind_works : Works (epsilon_by_kind N (epsilon N) x σ)
  unfolding epsilon_by_kind operands_with combine_by
  kind_works =
      let k : ℕ = kind σ x in
      let a : ℕ = first σ x in
      let b : ℕ = second σ x in
      by_test (eqb k UNION)
      (λ q. is_kind (many_works UNION (eqb-true k UNION q) (λ es. unite_all N es (Rel.zero_at N)) (unite_values N) refl (λ v t. refl) (λ v ys υ. unite_values_lem N v ys (Rel.zero_at N) υ)) (simp q))
      (λ n2. by_test (eqb k INTERSECT)
      (λ q. is_kind (many_works INTERSECT (eqb-true k INTERSECT q) (meet_first N) (meet_values N) refl (λ v t. refl) (λ v ys υ. first_values N v ys υ)) (simp (n2, q)))
      (λ n3. by_test (eqb k XOR)
      (λ q. is_kind (two_works XOR (eqb-true k XOR q) (Rel.xor N) refl (λ v t. refl)) (simp (n2, n3, q)))
      (λ n4. by_test (eqb k DIFFERENCE)
      (λ q. is_kind (two_works DIFFERENCE (eqb-true k DIFFERENCE q) (Rel.difference N) refl (λ v t. refl)) (simp (n2, n3, n4, q)))
      (λ n5. by_test (eqb k COMPLEMENT)
      (λ q. is_kind (one_works COMPLEMENT (eqb-true k COMPLEMENT q) (Ops.complement N) a refl (λ v t. refl)) (simp (n2, n3, n4, n5, q)))
      (λ n6. by_test (eqb k SEQUENCE)
      (λ q. is_kind (two_works SEQUENCE (eqb-true k SEQUENCE q) (Rel.sequence N) refl (λ v t. refl)) (simp (n2, n3, n4, n5, n6, q)))
      (λ n7. by_test (eqb k STAR)
      (λ q. is_kind (one_works STAR (eqb-true k STAR q) (Rel.star N) a refl (λ v t. refl)) (simp (n2, n3, n4, n5, n6, n7, q)))
      (λ n8. by_test (eqb k UNTIL)
      (λ q. is_kind (until_works (eqb-true k UNTIL q)) (simp (n2, n3, n4, n5, n6, n7, n8, q)))
      (λ n9. by_test (eqb k TOP)
      (λ q. is_kind (none_works TOP (eqb-true k TOP q) (Rel.top_at N) refl (λ v t. refl)) (simp (n2, n3, n4, n5, n6, n7, n8, n9, q)))
      (λ n10. is_kind (none_works k refl (Rel.zero_at N) (simp (n2, n3, n4, n5, n6, n7, n8, n9)) (λ v t. simp (n2, n3, n4, n5, n6, n7, n8, n9, n10))) (simp (n2, n3, n4, n5, n6, n7, n8, n9, n10)))))))))))
    where
      value_only : (o : Outcome Aut ℕ) → o ≡ after o (λ p. on_nodes (λ t. given t p))
      value_only (refused number) = refl
      value_only (given τ p) = refl

      until_works : kind σ x ≡ UNTIL → Works (epsilon N (second σ x) σ)
      until_works e = value_only (epsilon N (second σ x) σ) ∙ one_works UNTIL e (λ p t. given t p) (second σ x) refl (λ v t. refl)

  -- a relation, a state that is worked out, and one that is not
  pub epsilon_spp : kind σ x ≡ SPP → epsilon N x σ ≡ given σ (first σ x)
  unfolding epsilon_with
  epsilon_spp e = epsilon_is r l ∙ it
    where
      it : epsilon_with N (epsilon N) x σ ≡ given σ (first σ x)
      it = simp (eq-eqb (kind σ x) SPP e)

  pub epsilon_kept : (kind σ x ≡ SPP → ⊥) → 0 < epsilon_of st x → epsilon N x σ ≡ given σ (epsilon_of st x - 1)
  unfolding epsilon_with
  epsilon_kept n m = epsilon_is r l ∙ it
    where
      it : epsilon_with N (epsilon N) x σ ≡ given σ (epsilon_of st x - 1)
      it = simp (ne_eqb (kind σ x) SPP n, lt-ltb 0 (epsilon_of st x) m)

  pub epsilon_works : (kind σ x ≡ SPP → ⊥) → epsilon_of st x ≡ 0 → epsilon N x σ ≡ after (work_all (epsilon N) operands σ) (λ u υ. after (combine_at N x υ) (keep_epsilon x))
  unfolding epsilon_with
  epsilon_works n m = epsilon_is r l ∙ it ∙ ap (λ (o : Outcome Aut ℕ). after o (keep_epsilon x)) kind_works ∙ then_keep (work_all (epsilon N) operands σ)
    where
      it : epsilon_with N (epsilon N) x σ ≡ (epsilon_by_kind N (epsilon N) x >>= keep_epsilon x) σ
      it = simp (ne_eqb (kind σ x) SPP n, le-ltb 0 (epsilon_of st x) (omega arith))

      then_keep : (o : Outcome Aut Unit) → after (after o (λ u. combine_at N x)) (keep_epsilon x) ≡ after o (λ u υ. after (combine_at N x υ) (keep_epsilon x))
      then_keep (refused number) = refl
      then_keep (given υ u) = refl
