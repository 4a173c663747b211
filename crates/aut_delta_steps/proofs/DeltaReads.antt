-- What holds of the definitions of specs/DeltaReads.
use mathlib.Core.Path.{◌≡◌, refl, sym, ◌∙◌, ap, ap₂, subst}
use mathlib.Core.List.{List, [], ◌∷◌, map}
use Prim.Native.Nat.{ℕ, ◌≤◌, ◌<◌}
use native.Mathlib.Omega.{arith}
use lib.Dec.{eqb}
use borrow.Author.Tests.{eqb-true, eqb-false, lt-ltb, le-ltb}
use Rattle.common.specs.Outcome.{Outcome, refused, given, Step, return, after, ◌>>=◌}
use Rattle.common.proofs.Follow.{given_of}
use Rattle.common.specs.Runs as Runs
use Rattle.common.specs.Runs.{Table, placed}
use Rattle.netkat.specs.Rules.{union, intersection, xor, difference, complement, sequence, star, until}
use Rattle.netkat_steps.specs.ListSteps.{Edge, st_singleton, st_xor, st_difference, st_complement}
use Rattle.spp_steps.specs.Wf.{Wf, Ext, Denotes}
use Rattle.spp_steps.proofs.Laws.{spp_theory, by_test}
use Rattle.spp_steps.proofs.Star.{star_exact}
use Rattle.spp_steps.specs.Closure.{closure}
use Rattle.aut_steps.specs.Relations as Rel
use Rattle.aut_steps.specs.Tables.{SPP, UNION, INTERSECT, XOR, DIFFERENCE, COMPLEMENT, SEQUENCE, STAR, DUP, NEXT, UNTIL, Limits, Aut, put_nodes, on_nodes}
use Rattle.aut_steps.specs.Kinds.{form}
use Rattle.aut_steps.specs.Ascending.{All}
use Rattle.aut_steps.specs.Wf.{states, kind, first, second, members, WfAut}
use Rattle.aut_steps.proofs.Wf.{grown_nodes, kind_grown, first_grown, second_grown, members_grown, state_grown, ok_as}
use Rattle.aut_st_steps.specs.Operations.{ops}
use Rattle.aut_delta_steps.specs.Epsilon.{value_of, each_of, epsilon}
use Rattle.aut_delta_steps.specs.Delta.{count_of, Store, store, put_aut, on_aut, list_at, keep_list, union_all, intersect_first, sequence_list, star_list, until_list, dup_list, top_list, delta_by_kind, delta_with, delta}
use Rattle.aut_delta_steps.proofs.Agree.{Agree, agree_came}
use Rattle.aut_delta_steps.specs.Noted.{Noted}
use Rattle.aut_delta_steps.proofs.Noted.{noted_trans, noted_nodes, noted_good}
use Rattle.aut_delta_steps.specs.Wf.{WfStore, Valued, handle, memo}
use Rattle.aut_delta_steps.proofs.Wf.{epsilons_grown, valued_reads, worked_noted}
use Rattle.aut_delta_steps.proofs.Operands.{Below, below_one, below_two, below_many}
use Rattle.aut_delta_steps.specs.EpsilonSpec.{Epsiloned}
use Rattle.aut_delta_steps.proofs.EpsilonLaws.{Stopped, epsilon_goes}
use Rattle.aut_delta_steps.specs.EpsilonReads.{work_all}
use Rattle.aut_delta_steps.proofs.EpsilonReads.{all_if, each_work}
use Rattle.aut_delta_steps.specs.Extends.{ExtStore}
use Rattle.aut_delta_steps.proofs.Extends.{went_refl, went_trans, went_noted}
use Rattle.aut_delta_steps.proofs.DeltaRuns.{Halted, AskedLists}
use Rattle.aut_delta_steps.proofs.DeltaLaws.{ask_all, delta_goes, delta_is, lists_read}
use Rattle.aut_delta_steps.specs.DeltaReads.{list_operands_with, list_operands, quit, enter_with, enter, together_with}

module _ (N : ℕ) (L : Limits) where
  -- from what the tables have
  abbrev pub together : ℕ → Step Store (List Edge)
  together x σ = on_aut (together_with N L (list_at σ) (value_of σ.aut.states.words (first σ.aut x)) (kind σ.aut x) x (members σ.aut x) (first σ.aut x) (second σ.aut x)) σ

  -- the operands' lists, then the state's
  abbrev pub finish_list : List ℕ → ℕ → Step Store (List Edge)
  finish_list ys x τ = after (work_all (delta N L) ys τ) (λ u υ. after (together x υ) (keep_list x))

-- ---- the answers of one or two operands, as those of a list

abbrev nth0 : List (List Edge) → List Edge
nth0 [] = []
nth0 (a ∷ r) = a

abbrev nth1 : List (List Edge) → List Edge
nth1 [] = []
nth1 (a ∷ r) = nth0 r

module _ {S A : Type 0} (f : ℕ → Step S (List Edge)) (a : ℕ) (σ : S) where
  one_each : (k : List Edge → Step S A) → after (f a σ) k ≡ after (each_of f (a ∷ []) σ) (λ es. k (nth0 es))
  unfolding each_of
  one_each k = go (f a σ)
    where
      go : (o : Outcome S (List Edge)) → after o k ≡ after (after o (λ p. return (p ∷ []))) (λ es. k (nth0 es))
      go (refused number) = refl
      go (given τ p) = refl

  two_each : (b : ℕ) (k : List Edge → List Edge → Step S A) → after (f a σ) (λ p τ. after (f b τ) (k p)) ≡ after (each_of f (a ∷ b ∷ []) σ) (λ es. k (nth0 es) (nth1 es))
  unfolding each_of
  two_each b k = go (f a σ)
    where
      then_b : (p : List Edge) (o : Outcome S (List Edge)) → after o (k p) ≡ after (after (after o (λ q. return (q ∷ []))) (λ es. return (p ∷ es))) (λ es. k (nth0 es) (nth1 es))
      then_b p (refused number) = refl
      then_b p (given τ q) = refl

      go : (o : Outcome S (List Edge)) → after o (λ p τ. after (f b τ) (k p)) ≡ after (after o (λ p τ. after (after (f b τ) (λ q. return (q ∷ []))) (λ es. return (p ∷ es)))) (λ es. k (nth0 es) (nth1 es))
      go (refused number) = refl
      go (given τ p) = then_b p (f b τ)

-- ---- what is entered stays

pub valued_went : {σ τ : Store} → ExtStore σ τ → {x e : ℕ} → x < states σ.aut → Valued σ.aut x e → Valued τ.aut x e
valued_went w {x} l (handle k f) = handle (kind_grown w.grown x l ∙ k) (first_grown w.grown x l ∙ f)
valued_went w {x} l (memo k m) = memo (λ q. k (sym (kind_grown w.grown x l) ∙ q)) (w.epsilons x (omega (arith, m)) ∙ m)

module _ {N : ℕ} {L : Limits} {σ : Store} (W : WfStore N L σ) {a : ℕ} (l : a < states σ.aut) {α : Aut} {ε : ℕ} (q : epsilon N a σ.aut ≡ given α ε) where
  pub entered : Epsiloned N L a σ.aut α ε
  entered = agree_came (subst (λ o. Agree (Stopped N L σ.aut) (Epsiloned N L a σ.aut) o (epsilon N a σ.aut)) q (epsilon_goes (record { good = W.good; epsilons = W.epsilons }) l))

  pub entered_went : ExtStore σ (store α σ.transitions)
  entered_went = went_noted entered.found.noted

  pub entered_worked : WfStore N L (store α σ.transitions)
  entered_worked = worked_noted W entered.found.noted entered.found.good entered.found.epsilons

  pub entered_value : Valued α a ε
  entered_value = entered.value

  -- .. and the star of it
  module _ {t : Table} {h : ℕ} (s : Rel.star N ε α.nodes ≡ given t h) where
    star_made : Runs.StableResult (spp_theory N) (Rel.star N ε) (λ τ h. Denotes τ N h (closure entered.found.means.relation)) α.nodes t h
    star_made = given_of (star_exact N N (omega arith) α.nodes ε _ entered.found.good.nodes entered.found.means.den).runs s

    pub star_noted : Noted σ.aut (put_nodes t α)
    star_noted = noted_trans entered.found.noted (noted_nodes star_made.ext)

    pub star_went : ExtStore σ (store (put_nodes t α) σ.transitions)
    star_went = went_noted star_noted

    pub star_worked : WfStore N L (store (put_nodes t α) σ.transitions)
    star_worked =
        worked_noted W star_noted (noted_good W.good star_noted star_made.wf)
        (epsilons_grown entered.found.good (grown_nodes {σ = α} star_made.ext) (λ x m. refl) entered.found.epsilons)

    pub star_again : (u : Table) → Ext t u → Wf N u → Rel.star N ε u ≡ given u h
    star_again u x w = star_made.stable u x w

-- ---- the law

module _ {N : ℕ} {L : Limits} {σ : Store} (W : WfStore N L σ) {x : ℕ} (l : x < states σ.aut) where
  abbrev D : ℕ → Step Store (List Edge)
  D = delta N L

  abbrev a : ℕ
  a = first σ.aut x

  abbrev b : ℕ
  b = second σ.aut x

  pub list_operands_below : All (Below σ.aut x) (list_operands σ x)
  unfolding list_operands_with form
  list_operands_below =
      let k : ℕ = kind σ.aut x in
      let g : WfAut N L σ.aut = W.good in
      all_if (Below σ.aut x) (eqb k UNION) _ _ (λ q. below_many g l UNION (eqb-true k UNION q) union refl)
      (λ n. all_if (Below σ.aut x) (eqb k INTERSECT) _ _ (λ q. below_many g l INTERSECT (eqb-true k INTERSECT q) intersection refl)
      (λ n. all_if (Below σ.aut x) (eqb k XOR) _ _ (λ q. both (below_two g l XOR (eqb-true k XOR q) xor refl))
      (λ n. all_if (Below σ.aut x) (eqb k DIFFERENCE) _ _ (λ q. both (below_two g l DIFFERENCE (eqb-true k DIFFERENCE q) difference refl))
      (λ n. all_if (Below σ.aut x) (eqb k COMPLEMENT) _ _ (λ q. (below_one g l COMPLEMENT (eqb-true k COMPLEMENT q) complement refl, tt))
      (λ n. all_if (Below σ.aut x) (eqb k SEQUENCE) _ _ (λ q. both (below_two g l SEQUENCE (eqb-true k SEQUENCE q) sequence refl))
      (λ n. all_if (Below σ.aut x) (eqb k STAR) _ _ (λ q. (below_one g l STAR (eqb-true k STAR q) star refl, tt))
      (λ n. all_if (Below σ.aut x) (eqb k UNTIL) _ _ (λ q. both (below_two g l UNTIL (eqb-true k UNTIL q) until refl))
      (λ n. tt))))))))
    where
      both : {a b : ℕ} → Below σ.aut x a × Below σ.aut x b → All (Below σ.aut x) (a ∷ b ∷ [])
      both p = (p.0, (p.1, tt))

  asked : {τ : Store} → ExtStore σ τ → WfStore N L τ → Agree (Halted N L τ) (AskedLists N L σ x (list_operands σ x) τ) (each_of D (list_operands σ x) τ) (each_of D (list_operands σ x) τ)
  asked w q = ask_all W l {again = D} {other = D} (λ τ q y m k. delta_goes q m) (list_operands σ x) w q list_operands_below

  -- zs are the operands, K puts the lists together
  module _ {τ : Store} (w : ExtStore σ τ) (q : WfStore N L τ) (zs : List ℕ) (e : list_operands σ x ≡ zs) (K : List (List Edge) → Step Store (List Edge)) where
    by_list : ((υ : Store) → ExtStore τ υ → WfStore N L υ → K (map (list_at υ) zs) υ ≡ together N L x υ) → after (each_of D zs τ) K ≡ after (work_all D (list_operands σ x) τ) (λ u. together N L x)
    by_list f =
        ap (λ (zs : List ℕ). after (each_of D zs τ) K) (sym e)
        ∙ each_work D (list_operands σ x) τ (asked w q) K (together N L x) (λ υ es c.
        ap (λ (es : List (List Edge)). K es υ) (sym (lists_read c))
        ∙ ap (λ (zs : List ℕ). K (map (list_at υ) zs) υ) e
        ∙ f υ c.went c.worked)

  -- what is put together afterwards, by what x was before
  together_same : (υ : Store) → ExtStore σ υ → (k : ℕ) → kind σ.aut x ≡ k
      → together N L x υ ≡ placed put_aut υ (together_with N L (list_at υ) (value_of υ.aut.states.words a) k x (members υ.aut x) a b υ.aut)
  together_same υ w k e =
      ap (λ (j : ℕ). placed put_aut υ (together_with N L (list_at υ) (value_of υ.aut.states.words (first υ.aut x)) j x (members υ.aut x) (first υ.aut x) (second υ.aut x) υ.aut)) (kind_grown w.grown x l ∙ e)
      ∙ ap₂ (λ (a b : ℕ). placed put_aut υ (together_with N L (list_at υ) (value_of υ.aut.states.words a) k x (members υ.aut x) a b υ.aut)) (first_grown w.grown x l) (second_grown w.grown x l)

  -- with so many operands, of which op makes the list
  module _ (k : ℕ) (e : kind σ.aut x ≡ k) {τ : Store} (w : ExtStore σ τ) (q : WfStore N L τ) where
    operands_are : {zs : List ℕ} → list_operands_with k (members σ.aut x) a b ≡ zs → list_operands σ x ≡ zs
    operands_are p = ap (λ (j : ℕ). list_operands_with j (members σ.aut x) a b) e ∙ p

    -- op is what is put together
    abbrev Makes : (Store → Step Aut (List Edge)) → Type 0
    Makes op = (υ : Store) → ExtStore τ υ → WfStore N L υ → together_with N L (list_at υ) (value_of υ.aut.states.words a) k x (members υ.aut x) a b υ.aut ≡ op υ υ.aut

    together_is : (op : Store → Step Aut (List Edge)) → Makes op → (υ : Store) → ExtStore τ υ → WfStore N L υ → on_aut (op υ) υ ≡ together N L x υ
    together_is op m υ v p = sym (together_same υ (went_trans w v) k e ∙ ap (placed put_aut υ) (m υ v p))

    two_lists : (op : List Edge → List Edge → Step Aut (List Edge)) → list_operands_with k (members σ.aut x) a b ≡ a ∷ b ∷ [] → Makes (λ υ. op (list_at υ a) (list_at υ b))
        → after (D a τ) (λ ts υ. after (D b υ) (λ us. on_aut (op ts us))) ≡ after (work_all D (list_operands σ x) τ) (λ u. together N L x)
    two_lists op p m = two_each D a τ b (λ ts us. on_aut (op ts us)) ∙ by_list w q (a ∷ b ∷ []) (operands_are p) (λ es. on_aut (op (nth0 es) (nth1 es))) (together_is (λ υ. op (list_at υ a) (list_at υ b)) m)

    one_list : (op : List Edge → Step Aut (List Edge)) → list_operands_with k (members σ.aut x) a b ≡ a ∷ [] → Makes (λ υ. op (list_at υ a))
        → after (D a τ) (λ ts. on_aut (op ts)) ≡ after (work_all D (list_operands σ x) τ) (λ u. together N L x)
    one_list op p m = one_each D a τ (λ ts. on_aut (op ts)) ∙ by_list w q (a ∷ []) (operands_are p) (λ es. on_aut (op (nth0 es))) (together_is (λ υ. op (list_at υ a)) m)

    many_lists : (op : List (List Edge) → Step Aut (List Edge)) → list_operands_with k (members σ.aut x) a b ≡ members σ.aut x → Makes (λ υ. op (map (list_at υ) (members σ.aut x)))
        → after (each_of D (members σ.aut x) τ) (λ lists. on_aut (op lists)) ≡ after (work_all D (list_operands σ x) τ) (λ u. together N L x)
    many_lists op p m = by_list w q (members σ.aut x) (operands_are p) (λ lists. on_aut (op lists)) (together_is (λ υ. op (map (list_at υ) (members σ.aut x))) m)

    no_lists : (op : Step Aut (List Edge)) → list_operands_with k (members σ.aut x) a b ≡ [] → Makes (λ υ. op) → on_aut op τ ≡ after (work_all D (list_operands σ x) τ) (λ u. together N L x)
    unfolding each_of
    no_lists op p m = by_list w q [] (operands_are p) (λ lists. on_aut op) (together_is (λ υ. op) m)

  abbrev Goal : Outcome Store (List Edge) → Type 0
  Goal o = o ≡ after (enter N x σ) (λ u τ. after (work_all D (list_operands σ x) τ) (λ u. together N L x))

  enter_is : (k : ℕ) → kind σ.aut x ≡ k → enter N x σ ≡ placed put_aut σ (enter_with N k a σ.aut)
  enter_is k e = ap (λ (j : ℕ). placed put_aut σ (enter_with N j a σ.aut)) e

  -- nothing is worked out before
  plain : {o : Outcome Store (List Edge)} → enter N x σ ≡ given σ tt → o ≡ after (work_all D (list_operands σ x) σ) (λ u. together N L x) → Goal o
  plain e p = p ∙ ap (λ (o : Outcome Store Unit). after o (λ u τ. after (work_all D (list_operands σ x) τ) (λ u. together N L x))) (sym e)

  members_same : (k : ℕ) → kind σ.aut x ≡ k → (UNION ≤ k) × (k ≤ INTERSECT) → {τ : Store} → ExtStore σ τ → members τ.aut x ≡ members σ.aut x
  unfolding form
  members_same k e r w =
      by_test (eqb (kind σ.aut x) UNION)
      (λ t. members_grown w.grown x l (ok_as W.good UNION l (eqb-true (kind σ.aut x) UNION t)).inside)
      (λ t. members_grown w.grown x l (ok_as W.good INTERSECT l (omega (arith, eqb-false (kind σ.aut x) UNION t, r.0, r.1))).inside)

  sequence_works : kind σ.aut x ≡ SEQUENCE → Goal ((on_aut (epsilon N a) >>= λ ε. D a >>= λ ts. D b >>= λ us. on_aut (sequence_list N L b ε ts us)) σ)
  unfolding enter_with together_with list_operands_with form
  sequence_works e = go (epsilon N a σ.aut) refl ∙ ap (λ (o : Outcome Store Unit). after o (λ u τ. after (work_all D (list_operands σ x) τ) (λ u. together N L x))) (sym (enter_is SEQUENCE e))
    where
      m : a < states σ.aut
      m = (below_two W.good l SEQUENCE e sequence refl).0.state

      go : (o : Outcome Aut ℕ) → epsilon N a σ.aut ≡ o
          → after (placed put_aut σ o) (λ ε τ. after (D a τ) (λ ts υ. after (D b υ) (λ us. on_aut (sequence_list N L b ε ts us)))) ≡ after (placed put_aut σ (after o quit)) (λ u τ. after (work_all D (list_operands σ x) τ) (λ u. together N L x))
      go (refused number) q = refl
      go (given α ε) q =
          two_lists SEQUENCE e (entered_went W m q) (entered_worked W m q) (sequence_list N L b ε) refl
          (λ υ v p. ap (λ (j : ℕ). sequence_list N L b j (list_at υ a) (list_at υ b) υ.aut) (valued_reads (valued_went v (state_grown (entered_went W m q).grown m) (entered_value W m q))))

  star_works : kind σ.aut x ≡ STAR → Goal ((on_aut (epsilon N a) >>= λ ε. on_aut (on_nodes (Rel.star N ε)) >>= λ ε*. D a >>= λ ts. on_aut (star_list N L x ε* ts)) σ)
  unfolding enter_with together_with list_operands_with form
  star_works e = go (epsilon N a σ.aut) refl ∙ ap (λ (o : Outcome Store Unit). after o (λ u τ. after (work_all D (list_operands σ x) τ) (λ u. together N L x))) (sym (enter_is STAR e))
    where
      m : a < states σ.aut
      m = (below_one W.good l STAR e star refl).state

      then_star : {α : Aut} {ε : ℕ} → epsilon N a σ.aut ≡ given α ε → (o : Outcome Table ℕ) → Rel.star N ε α.nodes ≡ o
          → after (placed put_aut (store α σ.transitions) (placed put_nodes α o)) (λ ε* τ. after (D a τ) (λ ts. on_aut (star_list N L x ε* ts)))
          ≡ after (placed put_aut σ (after (placed put_nodes α o) quit)) (λ u τ. after (work_all D (list_operands σ x) τ) (λ u. together N L x))
      then_star q (refused number) s = refl
      then_star {α} {ε} q (given t h) s =
          one_list STAR e (star_went W m q s) (star_worked W m q s) (star_list N L x h) refl
          (λ υ v p. ap (λ (j : ℕ). after (placed put_nodes υ.aut (Rel.star N j υ.aut.nodes)) (λ h. star_list N L x h (list_at υ a))) (valued_reads (valued_went v (state_grown (star_went W m q s).grown m) (valued_nodes (entered_value W m q))))
          ∙ ap (λ (o : Outcome Table ℕ). after (placed put_nodes υ.aut o) (λ h. star_list N L x h (list_at υ a))) (star_again W m q s υ.aut.nodes v.grown.nodes p.good.nodes))
        where
          valued_nodes : Valued α a ε → Valued (put_nodes t α) a ε
          valued_nodes (handle k f) = handle k f
          valued_nodes (memo k f) = memo k f

      go : (o : Outcome Aut ℕ) → epsilon N a σ.aut ≡ o
          → after (placed put_aut σ o) (λ ε τ. after (on_aut (on_nodes (Rel.star N ε)) τ) (λ ε* υ. after (D a υ) (λ ts. on_aut (star_list N L x ε* ts))))
          ≡ after (placed put_aut σ (after o (λ e τ. after (on_nodes (Rel.star N e) τ) quit))) (λ u τ. after (work_all D (list_operands σ x) τ) (λ u. together N L x))
      go (refused number) q = refl
      go (given α ε) q = then_star q (Rel.star N ε α.nodes) refl

  is_kind : {o : Outcome Store (List Edge)} → Goal o → delta_by_kind N L D x σ ≡ o → Goal (delta_by_kind N L D x σ)
  is_kind w q = q ∙ w

  abbrev w₀ : ExtStore σ σ
  w₀ = went_refl σ

  -- kinds that enter nothing
  module _ (k : ℕ) (e : kind σ.aut x ≡ k) (no : enter_with N k a σ.aut ≡ given σ.aut tt) where
    enters_not : enter N x σ ≡ given σ tt
    enters_not = enter_is k e ∙ ap (placed put_aut σ) no

    two_works : (op : List Edge → List Edge → Step Aut (List Edge)) → list_operands_with k (members σ.aut x) a b ≡ a ∷ b ∷ []
        → ((v : ℕ → List Edge) (c : ℕ) (ys : List ℕ) (α : Aut) → together_with N L v c k x ys a b α ≡ op (v a) (v b) α) → Goal ((D a >>= λ ts. D b >>= λ us. on_aut (op ts us)) σ)
    two_works op p m = plain enters_not (two_lists k e w₀ W op p (λ υ v q. m (list_at υ) _ _ υ.aut))

    one_works : (op : List Edge → Step Aut (List Edge)) → list_operands_with k (members σ.aut x) a b ≡ a ∷ []
        → ((v : ℕ → List Edge) (c : ℕ) (ys : List ℕ) (α : Aut) → together_with N L v c k x ys a b α ≡ op (v a) α) → Goal ((D a >>= λ ts. on_aut (op ts)) σ)
    one_works op p m = plain enters_not (one_list k e w₀ W op p (λ υ v q. m (list_at υ) _ _ υ.aut))

    none_works : (op : Step Aut (List Edge)) → list_operands_with k (members σ.aut x) a b ≡ []
        → ((v : ℕ → List Edge) (c : ℕ) (ys : List ℕ) (α : Aut) → together_with N L v c k x ys a b α ≡ op α) → Goal (on_aut op σ)
    none_works op p m = plain enters_not (no_lists k e w₀ W op p (λ υ v q. m (list_at υ) _ _ υ.aut))

    many_works : (UNION ≤ k) × (k ≤ INTERSECT) → (op : List (List Edge) → Step Aut (List Edge)) → list_operands_with k (members σ.aut x) a b ≡ members σ.aut x
        → ((v : ℕ → List Edge) (c : ℕ) (ys : List ℕ) (α : Aut) → together_with N L v c k x ys a b α ≡ op (map v ys) α) → Goal ((each_of D (members σ.aut x) >>= λ lists. on_aut (op lists)) σ)
    many_works r op p m =
        plain enters_not (many_lists k e w₀ W op p (λ υ v q. m (list_at υ) _ _ υ.aut ∙ ap (λ (ys : List ℕ). op (map (list_at υ) ys) υ.aut) (members_same k e r v)))

  kind_works : Goal (delta_by_kind N L D x σ)
  unfolding delta_by_kind list_operands_with together_with enter_with
  kind_works =
      let k : ℕ = kind σ.aut x in
      by_test (eqb k SPP)
      (λ q. is_kind (none_works SPP (eqb-true k SPP q) refl (return []) refl (λ v c ys α. refl)) (simp q))
      (λ n1. by_test (eqb k UNION)
      (λ q. is_kind (many_works UNION (eqb-true k UNION q) refl (omega arith, omega arith) (λ lists. union_all N L lists []) refl (λ v c ys α. refl)) (simp (n1, q)))
      (λ n2. by_test (eqb k INTERSECT)
      (λ q. is_kind (many_works INTERSECT (eqb-true k INTERSECT q) refl (omega arith, omega arith) (intersect_first N L) refl (λ v c ys α. refl)) (simp (n1, n2, q)))
      (λ n3. by_test (eqb k XOR)
      (λ q. is_kind (two_works XOR (eqb-true k XOR q) refl (st_xor (ops N L)) refl (λ v c ys α. refl)) (simp (n1, n2, n3, q)))
      (λ n4. by_test (eqb k DIFFERENCE)
      (λ q. is_kind (two_works DIFFERENCE (eqb-true k DIFFERENCE q) refl (st_difference (ops N L)) refl (λ v c ys α. refl)) (simp (n1, n2, n3, n4, q)))
      (λ n5. by_test (eqb k COMPLEMENT)
      (λ q. is_kind (one_works COMPLEMENT (eqb-true k COMPLEMENT q) refl (st_complement (ops N L)) refl (λ v c ys α. refl)) (simp (n1, n2, n3, n4, n5, q)))
      (λ n6. by_test (eqb k SEQUENCE)
      (λ q. is_kind (sequence_works (eqb-true k SEQUENCE q)) (simp (n1, n2, n3, n4, n5, n6, q)))
      (λ n7. by_test (eqb k STAR)
      (λ q. is_kind (star_works (eqb-true k STAR q)) (simp (n1, n2, n3, n4, n5, n6, n7, q)))
      (λ n8. by_test (eqb k DUP)
      (λ q. is_kind (none_works DUP (eqb-true k DUP q) refl (dup_list N L) refl (λ v c ys α. refl)) (simp (n1, n2, n3, n4, n5, n6, n7, n8, q)))
      (λ n9. by_test (eqb k NEXT)
      (λ q. is_kind (none_works NEXT (eqb-true k NEXT q) refl (st_singleton (ops N L) (Rel.top_at N) a) refl (λ v c ys α. refl)) (simp (n1, n2, n3, n4, n5, n6, n7, n8, n9, q)))
      (λ n10. by_test (eqb k UNTIL)
      (λ q. is_kind (two_works UNTIL (eqb-true k UNTIL q) refl (until_list N L a b) refl (λ v c ys α. refl)) (simp (n1, n2, n3, n4, n5, n6, n7, n8, n9, n10, q)))
      (λ n11. is_kind (none_works k refl (simp (n7, n8)) (top_list N L) (simp (n2, n3, n4, n5, n6, n7, n8, n11)) (λ v c ys α. simp (n1, n2, n3, n4, n5, n6, n7, n8, n9, n10, n11)))
      (simp (n1, n2, n3, n4, n5, n6, n7, n8, n9, n10, n11)))))))))))))

  -- a list that is stored, and one that is not
  pub delta_stored : 0 < count_of σ.aut.states.words x → delta N L x σ ≡ given σ (list_at σ x)
  unfolding delta_with
  delta_stored m = delta_is W l ∙ it
    where
      it : delta_with N L D x σ ≡ given σ (list_at σ x)
      it = simp (lt-ltb 0 (count_of σ.aut.states.words x) m)

  pub delta_works : count_of σ.aut.states.words x ≡ 0 → delta N L x σ ≡ after (enter N x σ) (λ u. finish_list N L (list_operands σ x) x)
  unfolding delta_with
  delta_works z = delta_is W l ∙ it ∙ ap (λ (o : Outcome Store (List Edge)). after o (keep_list x)) kind_works ∙ then_keep (enter N x σ)
    where
      it : delta_with N L D x σ ≡ (delta_by_kind N L D x >>= keep_list x) σ
      it = simp (le-ltb 0 (count_of σ.aut.states.words x) (omega arith))

      keep_last : (o : Outcome Store Unit) → after (after o (λ u. together N L x)) (keep_list x) ≡ after o (λ u υ. after (together N L x υ) (keep_list x))
      keep_last (refused number) = refl
      keep_last (given υ u) = refl

      then_keep : (o : Outcome Store Unit) → after (after o (λ u τ. after (work_all D (list_operands σ x) τ) (λ u. together N L x))) (keep_list x) ≡ after o (λ u. finish_list N L (list_operands σ x) x)
      then_keep (refused number) = refl
      then_keep (given τ u) = keep_last (work_all D (list_operands σ x) τ)
