-- `epsilon` and `delta` (aut_delta_steps' Epsilon, Delta) on tables that are alike: they recurse on a depth that they read in word 3, which is the same; what they call has alike runs on twins.
use mathlib.Core.Path.{◌≡◌, refl, ap, subst}
use mathlib.Core.List.{List, [], ◌∷◌}
use Prim.Native.Nat.{ℕ, zero, suc, ◌+◌, ◌-◌}
use native.Mathlib.Omega.{arith}
use lib.Dec.{eqb, ltb}
use lib.ListN.{length}
use Rattle.common.specs.Outcome.{given, Step, ◌>>=◌}
use Rattle.common.specs.Runs.{Table}
use Rattle.netkat_steps.specs.ListSteps.{Edge, st_xor, st_difference}
use Rattle.aut_steps.specs.Relations as Rel
use Rattle.aut_steps.specs.Tables.{SPP, UNION, INTERSECT, XOR, DIFFERENCE, COMPLEMENT, SEQUENCE, STAR, DUP, NEXT, UNTIL, TOP, op1, op2, words, list_of, Limits, Aut, put_states, on_nodes}
use Rattle.aut_st_steps.specs.Operations.{ops, complement}
use Rattle.aut_st_steps.specs.Edges.{edges}
use Rattle.aut_delta_steps.specs.Epsilon.{set_word, keep_epsilon, unite_all, meet_all, meet_first, epsilon_by_kind, epsilon_with, epsilon_by, epsilon}
use Rattle.aut_delta_steps.specs.Delta.{Store, store, put_aut, on_aut, room_t, append, list_at, keep_list, sequence_list, until_list, delta_by_kind, delta_with, delta_by, delta}
use Rattle.aut_free.proofs.Alike.{AlikeAut, AlikeStore, AlikeRuns, stops, comes, Respects}
use Rattle.aut_free.proofs.Runs.{alike_placed, alike_given, alike_if, along, reading, returns, bind, each_of_respects}
use Rattle.aut_free.proofs.Twin.{TwinAut, twins, by_twins}
use Rattle.aut_free.proofs.Words.{kinds, firsts, seconds, nests, epsilons, starts, counts, alike_word}
use Rattle.aut_free.proofs.Constructors.{on_nodes_lem}
use Rattle.netkat_steps.proofs.Related.{st_singleton_related, st_difference_related, st_xor_related, st_complement_related}
use Rattle.aut_free.proofs.Lists.{ops_respect, union_all_free, intersect_first_free, sequence_list_free, star_list_free, until_list_free, dup_list_free, top_list_free}

module _ {f g : List ℕ} where
  -- the members of a list's state
  list_same : {σ τ : Aut} → AlikeAut f g σ τ → (x : ℕ) → list_of σ.states.words σ.members.words x ≡ list_of τ.states.words τ.members.words x
  list_same r x = λ d. words (r.members d).words (firsts (twins r.states.words) d x) (seconds (twins r.states.words) d x)

  nodes_free : {A : Type 0} (c : Step Table A) → Respects (AlikeAut f g) (on_nodes c)
  nodes_free c = by_twins (λ h k. on_nodes_lem c)

  -- ---- epsilon

  keep_epsilon_free : (x e : ℕ) → Respects (AlikeAut f g) (keep_epsilon x e)
  unfolding keep_epsilon
  keep_epsilon_free x e σ τ r = comes (record { nodes = r.nodes; states = alike_word x 4 (e + 1) (omega arith) r.states; members = r.members })

  module _ (N : ℕ) where
    unite_all_free : (es : List ℕ) (h : ℕ) → Respects (AlikeAut f g) (unite_all N es h)
    unfolding unite_all
    unite_all_free [] h = returns h
    unite_all_free (e ∷ es) h = bind (nodes_free (Rel.union N h e)) (unite_all_free es)

    meet_all_free : (es : List ℕ) (h : ℕ) → Respects (AlikeAut f g) (meet_all N es h)
    unfolding meet_all
    meet_all_free [] h = returns h
    meet_all_free (e ∷ es) h = bind (nodes_free (Rel.intersect N h e)) (meet_all_free es)

    meet_first_free : (es : List ℕ) → Respects (AlikeAut f g) (meet_first N es)
    meet_first_free [] = returns (Rel.one_at N)
    meet_first_free (e ∷ es) = meet_all_free es e

    module _ {again : ℕ → Step Aut ℕ} (h : (x : ℕ) → Respects (AlikeAut f g) (again x)) where
      -- two operands, then relations
      both_free : (c : ℕ → ℕ → Step Table ℕ) (x y : ℕ) → Respects (AlikeAut f g) (again x >>= λ a. again y >>= λ b. on_nodes (c a b))
      both_free c x y = bind (h x) (λ a. bind (h y) (λ b. nodes_free (c a b)))

      one_free : (c : ℕ → Step Table ℕ) (x : ℕ) → Respects (AlikeAut f g) (again x >>= λ a. on_nodes (c a))
      one_free c x = bind (h x) (λ a. nodes_free (c a))

      both_alike : {σ τ : Aut} (c : ℕ → ℕ → Step Table ℕ) {x y u v : ℕ} → x ≡ u → y ≡ v → AlikeAut f g σ τ
          → AlikeRuns (AlikeAut f g) ((again x >>= λ a. again y >>= λ b. on_nodes (c a b)) σ) ((again u >>= λ a. again v >>= λ b. on_nodes (c a b)) τ)
      both_alike {σ} {τ} c {x} {y} p q r = along (λ d. again (p d) >>= λ a. again (q d) >>= λ b. on_nodes (c a b)) (both_free c x y) σ τ r

      epsilon_by_kind_free : (x : ℕ) → Respects (AlikeAut f g) (epsilon_by_kind N again x)
      unfolding epsilon_by_kind
      epsilon_by_kind_free x σ τ r =
          let w = twins r.states.words in
          let a = ap (λ (o : ℕ → ℕ). o x) (firsts w) in
          let b = ap (λ (o : ℕ → ℕ). o x) (seconds w) in
          alike_if (λ d. eqb (kinds w d x) UNION) (reading (λ l. bind (each_of_respects h l) (λ es. unite_all_free es (Rel.zero_at N))) (list_same r x) σ τ r)
          (alike_if (λ d. eqb (kinds w d x) INTERSECT) (reading (λ l. bind (each_of_respects h l) meet_first_free) (list_same r x) σ τ r)
          (alike_if (λ d. eqb (kinds w d x) XOR) (both_alike (Rel.xor N) a b r)
          (alike_if (λ d. eqb (kinds w d x) DIFFERENCE) (both_alike (Rel.difference N) a b r)
          (alike_if (λ d. eqb (kinds w d x) COMPLEMENT) (reading (one_free (complement N)) a σ τ r)
          (alike_if (λ d. eqb (kinds w d x) SEQUENCE) (both_alike (Rel.sequence N) a b r)
          (alike_if (λ d. eqb (kinds w d x) STAR) (reading (one_free (Rel.star N)) a σ τ r)
          (alike_if (λ d. eqb (kinds w d x) UNTIL) (reading h b σ τ r)
          (alike_if (λ d. eqb (kinds w d x) TOP) (comes r) (comes r)))))))))

      epsilon_with_free : (x : ℕ) → Respects (AlikeAut f g) (epsilon_with N again x)
      unfolding epsilon_with
      epsilon_with_free x σ τ r =
          let w = twins r.states.words in
          alike_if (λ d. eqb (kinds w d x) SPP) (alike_given r (λ d. firsts w d x))
          (alike_if (λ d. ltb 0 (epsilons r.states.words d x)) (alike_given r (λ d. epsilons r.states.words d x - 1)) (bind (epsilon_by_kind_free x) (keep_epsilon_free x) σ τ r))

    epsilon_by_free : (depth x : ℕ) → Respects (AlikeAut f g) (epsilon_by N depth x)
    unfolding epsilon_by
    epsilon_by_free zero x = epsilon_with_free (λ a. returns a) x
    epsilon_by_free (suc depth) x = epsilon_with_free (epsilon_by_free depth) x

    pub epsilon_alike : (x : ℕ) → Respects (AlikeAut f g) (epsilon N x)
    unfolding epsilon
    epsilon_alike x σ τ r = reading (λ depth. epsilon_by_free depth x) (λ d. nests (twins r.states.words) d x) σ τ r

  -- ---- delta

  pub on_aut_lem : {A : Type 0} {c : Step Aut A} → Respects (AlikeAut f g) c → Respects (AlikeStore f g) (on_aut c)
  on_aut_lem h σ τ r = alike_placed put_aut σ τ (h σ.aut τ.aut r.aut) (λ s t p. record { aut = p; transitions = r.transitions })

  on_twins : {A : Type 0} {c : Step Aut A} → ((h k : List ℕ) → Respects (TwinAut h k) c) → Respects (AlikeStore f g) (on_aut c)
  on_twins p = on_aut_lem (by_twins p)

  pub list_at_same : {σ τ : Store} → AlikeStore f g σ τ → (x : ℕ) → list_at σ x ≡ list_at τ x
  unfolding list_at
  list_at_same r x = λ d. edges (r.transitions d).words (starts r.aut.states.words d x) (counts r.aut.states.words d x - 1)

  keep_list_free : (x : ℕ) (es : List Edge) → Respects (AlikeStore f g) (keep_list x es)
  unfolding keep_list
  keep_list_free x es σ τ r =
      alike_if (λ d. room_t (r.transitions d) (length es))
      (subst
      (λ (t : Table). AlikeRuns (AlikeStore f g)
      (given (store (put_states (set_word x 6 (length es + 1) (set_word x 5 σ.transitions.count σ.aut.states)) σ.aut) (append es σ.transitions)) es)
      (given (store (put_states (set_word x 6 (length es + 1) (set_word x 5 t.count τ.aut.states)) τ.aut) (append es t)) es))
      r.transitions
      (comes (record {
        aut = record {
          nodes = r.aut.nodes;
          states = alike_word x 6 (length es + 1) (omega arith) (alike_word x 5 σ.transitions.count (omega arith) r.aut.states);
          members = r.aut.members;
        };
        transitions = refl;
      })))
      stops

  module _ (N : ℕ) (L : Limits) where
    module _ {again : ℕ → Step Store (List Edge)} (h : (x : ℕ) → Respects (AlikeStore f g) (again x)) where
      -- the lists of two operands, then an operation on them
      join_free : {c : List Edge → List Edge → Step Aut (List Edge)} → ((ts us : List Edge) (h k : List ℕ) → Respects (TwinAut h k) (c ts us)) → (x y : ℕ)
          → Respects (AlikeStore f g) (again x >>= λ ts. again y >>= λ us. on_aut (c ts us))
      join_free p x y = bind (h x) (λ ts. bind (h y) (λ us. on_twins (p ts us)))

      delta_by_kind_free : (x : ℕ) → Respects (AlikeStore f g) (delta_by_kind N L again x)
      unfolding delta_by_kind
      delta_by_kind_free x σ τ r =
          let w = twins r.aut.states.words in
          alike_if (λ d. eqb (kinds w d x) SPP) (comes r)
          (alike_if (λ d. eqb (kinds w d x) UNION) (reading (λ l. bind (each_of_respects h l) (λ ess. on_twins (λ h k. union_all_free N L ess []))) (list_same r.aut x) σ τ r)
          (alike_if (λ d. eqb (kinds w d x) INTERSECT) (reading (λ l. bind (each_of_respects h l) (λ ess. on_twins (λ h k. intersect_first_free N L ess))) (list_same r.aut x) σ τ r)
          (alike_if (λ d. eqb (kinds w d x) XOR) (along (λ d. again (firsts w d x) >>= λ ts. again (seconds w d x) >>= λ us. on_aut (st_xor (ops N L) ts us)) (join_free (λ ts us h k. st_xor_related (ops_respect N L) ts us) _ _) σ τ r)
          (alike_if (λ d. eqb (kinds w d x) DIFFERENCE) (along (λ d. again (firsts w d x) >>= λ ts. again (seconds w d x) >>= λ us. on_aut (st_difference (ops N L) ts us)) (join_free (λ ts us h k. st_difference_related (ops_respect N L) ts us) _ _) σ τ r)
          (alike_if (λ d. eqb (kinds w d x) COMPLEMENT) (reading (λ a. bind (h a) (λ ts. on_twins (λ h k. st_complement_related (ops_respect N L) ts))) (λ d. firsts w d x) σ τ r)
          (alike_if (λ d. eqb (kinds w d x) SEQUENCE)
          (along (λ d. on_aut (epsilon N (firsts w d x)) >>= λ ε. again (firsts w d x) >>= λ ts. again (seconds w d x) >>= λ us. on_aut (sequence_list N L (seconds w d x) ε ts us))
          (bind (on_aut_lem (epsilon_alike N _)) (λ ε. join_free (λ ts us h k. sequence_list_free N L (op2 σ.aut.states.words x) ε ts us) _ _)) σ τ r)
          (alike_if (λ d. eqb (kinds w d x) STAR)
          (reading (λ a. bind (on_aut_lem (epsilon_alike N a)) (λ ε. bind (on_aut_lem (nodes_free (Rel.star N ε))) (λ ε*. bind (h a) (λ ts. on_twins (λ h k. star_list_free N L x ε* ts))))) (λ d. firsts w d x) σ τ r)
          (alike_if (λ d. eqb (kinds w d x) DUP) (on_twins (λ h k. dup_list_free N L) σ τ r)
          (alike_if (λ d. eqb (kinds w d x) NEXT) (reading (λ a. on_twins (λ h k. st_singleton_related (ops_respect N L) (Rel.top_at N) a)) (λ d. firsts w d x) σ τ r)
          (alike_if (λ d. eqb (kinds w d x) UNTIL)
          (along (λ d. again (firsts w d x) >>= λ ts. again (seconds w d x) >>= λ us. on_aut (until_list N L (firsts w d x) (seconds w d x) ts us)) (join_free (λ ts us h k. until_list_free N L (op1 σ.aut.states.words x) (op2 σ.aut.states.words x) ts us) _ _) σ τ r)
          (on_twins (λ h k. top_list_free N L) σ τ r)))))))))))

      delta_with_free : (x : ℕ) → Respects (AlikeStore f g) (delta_with N L again x)
      unfolding delta_with
      delta_with_free x σ τ r =
          alike_if (λ d. ltb 0 (counts r.aut.states.words d x)) (alike_given r (list_at_same r x)) (bind (delta_by_kind_free x) (keep_list_free x) σ τ r)

    delta_by_free : (depth x : ℕ) → Respects (AlikeStore f g) (delta_by N L depth x)
    unfolding delta_by
    delta_by_free zero x = delta_with_free (λ y. returns []) x
    delta_by_free (suc depth) x = delta_with_free (delta_by_free depth) x

    pub delta_alike : (x : ℕ) → Respects (AlikeStore f g) (delta N L x)
    unfolding delta
    delta_alike x σ τ r = reading (λ depth. delta_by_free depth x) (λ d. nests (twins r.aut.states.words) d x) σ τ r
