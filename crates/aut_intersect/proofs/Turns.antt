-- One product, and a turn of the loop over the products.
use mathlib.Core.Path.{◌≡◌, refl, sym, ◌∙◌, ap, subst}
use mathlib.Core.List.{List, [], ◌∷◌, ◌++◌}
use Prim.Native.Nat.{ℕ, suc, ◌+◌, ◌-◌, ◌≤◌, ◌<◌}
use native.Mathlib.Omega.{arith}
use lib.ListN.{length, set, length-set}
use Rattle.std.specs.Prelude.{Result, Ok, Err}
use Rattle.std.specs.Result.{IsErr, IsErrAnd}
use Rattle.common.specs.Outcome.{given, Step, after}
use Rattle.refusal.specs.declared.Refusal.{Refusal}
use Rattle.refusal.proofs.Passed.{passed}
use Rattle.aut_steps.specs.Tables.{words, Limits, Aut}
use Rattle.aut_steps.specs.Ascending.{All}
use Rattle.aut_steps.proofs.ListLaws.{all_append, all_map}
use Rattle.aut_steps.proofs.Scratch.{kept_wide, kept_sets, words_append}
use Rattle.aut_steps.proofs.Wf.{states_grown, state_grown}
use Rattle.aut_steps.proofs.StepSpec.{StepSpec}
use Rattle.aut_steps.proofs.Meaning.{Is, HoldsAll}
use Rattle.aut_steps.proofs.Products.{product_states, sizes_grown}
use Rattle.aut_steps.proofs.IntersectLaws.{mk_intersect_n_base_goes}
use Rattle.aut_steps.specs.Constructors as C
use Rattle.aut_steps.specs.Constructors.{product, sizes, mk_intersect_n_base}
use Rattle.aut_states.specs.declared.Config.{Config}
use Rattle.aut_states.specs.Clauses.{limits_of}
use Rattle.aut_scratch.specs.Clauses.{ProductReady, Products}
use Rattle.aut_relations.specs.Behind.{LISTS}
use Rattle.aut_relations.proofs.Behind.{words_before}
use Rattle.aut_relations.proofs.Order as order
use Rattle.aut_relations.specs.declared.Aut.{Aut as Lent}
use Rattle.aut_relations.specs.Lent.{aut_in, Keeps, Does, Asked}
use Rattle.aut_stage.specs.Rule.{Stage}
use Rattle.aut_stage.specs.OnLent.{lent_layer, Goes}
use Rattle.aut_stage.proofs.Rule as rule
use Rattle.aut_stage.proofs.OnLent.{lent_laws, made}
use Rattle.aut_union.specs.Clauses.{ListAt}
use Rattle.aut_union.proofs.Calls.{Written, written_asked, written_done}
use Rattle.aut_intersect.specs.Clauses.{BaseReady, BasesReady, AllStates}

-- ---- base

module _ {c : Config} {x : Lent} {k i : ℕ} (B : BaseReady c x k i) where
  pub product_ready : ProductReady x.states.words.now x.members.words.now x.scratch.now 64 k 192
  product_ready = record { at = order.product_at B.asked.ready.good (words x.scratch.now 64 k) B.list.states; apart = omega (arith, B.list.apart); room = omega (arith, B.list.apart, B.asked.ready.room) }

  abbrev product_i : List ℕ
  product_i = product x.states.words.now x.members.words.now (words x.scratch.now 64 k) i

  law : StepSpec c.fields (limits_of c.limits) (Is c.fields (HoldsAll c.fields (aut_in x) product_i)) (aut_in x) (C.base c.fields (limits_of c.limits) (words x.scratch.now 64 k) i (aut_in x))
  unfolding C.base
  law = mk_intersect_n_base_goes B.asked.ready.good product_i (product_states B.asked.ready.good (words x.scratch.now 64 k) B.list.states i B.product)

  -- the product is written
  module _ {y : Lent} (tables : aut_in y ≡ aut_in x) (fields : y.spp.fields ≡ x.spp.fields) (P : Products product_i x.scratch.now y.scratch.now 192 k) (len : length y.scratch.now ≡ length x.scratch.now) where
    written : Written 192 k x y
    written = record {
      kept = kept_wide P.kept (omega arith) (omega (arith, B.list.apart));
      len = len;
      few = omega (arith, B.list.apart);
      states = subst (All (λ z. z < x.states.count)) P.is (product_states B.asked.ready.good (words x.scratch.now 64 k) B.list.states i B.product);
      tables = tables;
      fields = fields;
    }

    pub base_asked : Asked c y × ListAt y.scratch.now y.states.count 192 k 256
    base_asked = written_asked written B.asked (omega arith)

    pub base_done : {r : Result ℕ Refusal} {z : Lent} → Does c.fields 256 320 aut_in (λ i. i) (mk_intersect_n_base c.fields (limits_of c.limits) (words y.scratch.now 192 k)) y r z
        → Does c.fields 192 384 aut_in (λ i. i) (C.base c.fields (limits_of c.limits) (words x.scratch.now 64 k) i) x r z
    unfolding C.base
    base_done D = written_done written (omega arith) (ap (λ (xs : List ℕ). mk_intersect_n_base c.fields (limits_of c.limits) xs (aut_in x)) P.is) D

-- ---- bases

-- i products are done; their states are at 128
pub record Turn (c : Config) (x₀ : Lent) (k n : ℕ) (x : Lent) (i : ℕ) : Type 0 where
  pub at : i ≤ n
  pub keeps : Keeps x₀ x
  pub stage : Stage (lent_layer c.fields c.limits) 128 448 (C.bases c.fields (limits_of c.limits) (words x₀.scratch.now 64 k) 0 n [] (aut_in x₀))
      (C.bases c.fields (limits_of c.limits) (words x₀.scratch.now 64 k) i (n - i) (words x.scratch.now 128 i) (aut_in x)) (aut_in x₀) (aut_in x) x₀.scratch.now x.scratch.now
  pub results : AllStates (aut_in x) (words x.scratch.now 128 i)

module _ {c : Config} {x₀ : Lent} {k n : ℕ} (B : BasesReady c x₀ k n) where
  abbrev N : ℕ
  N = c.fields

  abbrev L : Limits
  L = limits_of c.limits

  abbrev xs : List ℕ
  xs = words x₀.scratch.now 64 k

  abbrev whole : Step Aut (List ℕ)
  whole = C.bases N L xs 0 n []

  pub begin : Keeps x₀ x₀ → Turn c x₀ k n x₀ 0
  unfolding words
  begin K = record { at = omega arith; keeps = K; stage = rule.begin (lent_laws N c.limits) 128 448 B.asked.ready (ap (λ (j : ℕ). C.bases N L xs 0 j [] (aut_in x₀)) {x = n} {y = n - 0} (omega arith)); results = tt }

  module _ {x : Lent} {i : ℕ} (v : Turn c x₀ k n x i) where
    same_list : words x.scratch.now 64 k ≡ xs
    same_list = words_before 64 k v.stage.frame (omega (arith, B.list.apart))

    asked : Asked c x
    asked = record { fields = v.keeps.spp.fields ∙ B.asked.fields; ready = v.stage.ready }

    list_here : All (λ z. z < x.states.count) xs
    list_here = states_grown v.stage.ext.grown xs B.list.states

    module _ (h : i < n) where
      pub turn_asked : BaseReady c x k i
      turn_asked = record {
        asked = asked;
        list = record { states = subst (All (λ z. z < x.states.count)) (sym same_list) list_here; apart = B.list.apart };
        product = omega (arith, B.products, ap (sizes x.states.words.now) same_list, sizes_grown B.asked.ready.good v.stage.ext.grown xs B.list.states);
      }

      -- what comes after the state z of product i
      abbrev rest : ℕ → Step Aut (List ℕ)
      rest z = C.bases N L xs (i + 1) (n - (i + 1)) (words x.scratch.now 128 i ++ z ∷ [])

      on_turn : C.bases N L xs i (n - i) (words x.scratch.now 128 i) (aut_in x) ≡ after (C.base N L (words x.scratch.now 64 k) i (aut_in x)) rest
      unfolding C.bases
      on_turn =
          ap (λ (j : ℕ). C.bases N L xs i j (words x.scratch.now 128 i) (aut_in x)) {x = n - i} {y = suc (n - (i + 1))} (omega arith)
          ∙ ap (λ (ys : List ℕ). after (C.base N L ys i (aut_in x)) rest) (sym same_list)

      abbrev stage_1 : Stage (lent_layer N c.limits) 128 448 (whole (aut_in x₀)) (after (C.base N L (words x.scratch.now 64 k) i (aut_in x)) rest) (aut_in x₀) (aut_in x) x₀.scratch.now x.scratch.now
      stage_1 = rule.instead (lent_laws N c.limits) 128 448 v.stage on_turn

      pub stuck : {e : Refusal} {x1 : Lent} {r : Result Unit Refusal} {y : Lent} → IsErr r × IsErrAnd r (λ x. x ≡ e) → Keeps x x1 → Does N 192 384 aut_in (λ i. i) (C.base N L (words x.scratch.now 64 k) i) x (Err e) x1
          → Goes c 128 448 AllStates (λ u. words y.scratch.now 128 n) whole x₀ r y
      stuck {r = r} {y = y} q K D =
          subst (λ (r : Result Unit Refusal). Goes c 128 448 AllStates (λ u. words y.scratch.now 128 n) whole x₀ r y) (sym (passed q))
          (record { post = rule.stuck (lent_laws N c.limits) 128 448 (made asked K (law turn_asked) D).post rest stage_1 })

      module _ {z : ℕ} {x1 : Lent} (K : Keeps x x1) (D : Does N 192 384 aut_in (λ i. i) (C.base N L (words x.scratch.now 64 k) i) x (Ok z) x1) where
        gone : Goes c 192 384 (Is N (HoldsAll N (aut_in x) (product_i turn_asked))) (λ i. i) (C.base N L (words x.scratch.now 64 k) i) x (Ok z) x1
        gone = made asked K (law turn_asked) D

        room : LISTS ≤ length x1.scratch.now
        room = gone.post.then.ready.room

        abbrev s2 : List ℕ
        s2 = set x1.scratch.now (128 + i) z

        stage_2 : Stage (lent_layer N c.limits) 128 448 (whole (aut_in x₀)) (rest z (aut_in x1)) (aut_in x₀) (aut_in x1) x₀.scratch.now s2
        stage_2 = rule.wrote (lent_laws N c.limits) 128 448
            (rule.next (lent_laws N c.limits) 128 448 gone.post (record { from = omega arith; to = omega arith }) rest stage_1)
            (record { from = omega arith; to = omega (arith, B.few) }) (omega (arith, B.few)) (kept_sets (z ∷ []) x1.scratch.now (128 + i) 1 (128 + i) (omega arith) (omega arith)) (simp length-set)

        listed : words s2 128 (i + 1) ≡ words x.scratch.now 128 i ++ z ∷ []
        listed = words_append x1.scratch.now (z ∷ []) 128 i 1 refl (omega (arith, B.few, room)) ∙ ap (λ (ys : List ℕ). ys ++ z ∷ []) (words_before 128 i D.left (omega (arith, B.few)))

        -- the state is written
        pub again : {y : Lent} → aut_in y ≡ aut_in x1 → y.scratch.now ≡ s2 → Keeps x₀ y → Turn c x₀ k n y (i + 1)
        again {y} t s E =
            let l : words y.scratch.now 128 (i + 1) ≡ words x.scratch.now 128 i ++ z ∷ [] = ap (λ (s : List ℕ). words s 128 (i + 1)) s ∙ listed in
            record {
              at = omega arith;
              keeps = E;
              stage = rule.instead (lent_laws N c.limits) 128 448
                  (subst (λ (τ : Aut). Stage (lent_layer N c.limits) 128 448 (whole (aut_in x₀)) (rest z τ) (aut_in x₀) τ x₀.scratch.now y.scratch.now) (sym t)
                  (subst (λ (s : List ℕ). Stage (lent_layer N c.limits) 128 448 (whole (aut_in x₀)) (rest z (aut_in x1)) (aut_in x₀) (aut_in x1) x₀.scratch.now s) (sym s) stage_2))
                  (ap (λ (ys : List ℕ). C.bases N L xs (i + 1) (n - (i + 1)) ys (aut_in y)) (sym l));
              results = subst (AllStates (aut_in y)) (sym l) (subst (λ (τ : Aut). AllStates τ (words x.scratch.now 128 i ++ z ∷ [])) (sym t)
                  (all_append (λ y. y < x1.states.count) (words x.scratch.now 128 i) (z ∷ []) (all_map (words x.scratch.now 128 i) (λ y m. state_grown gone.post.then.ext.grown m) v.results) (gone.post.then.holds.state, tt)));
            }

    pub end : {v : Unit {0}} → n ≤ i → Goes c 128 448 AllStates (λ u. words x.scratch.now 128 n) whole x₀ (Ok v) x
    unfolding C.bases
    end h = record {
      post = rule.done (lent_laws N c.limits) 128 448
          (rule.instead (lent_laws N c.limits) 128 448 v.stage (ap (λ (j : ℕ). C.bases N L xs i j (words x.scratch.now 128 i) (aut_in x)) {x = n - i} {y = 0} (omega arith) ∙ ap (λ (j : ℕ). given (aut_in x) (words x.scratch.now 128 j)) {x = i} {y = n} (omega (arith, v.at))))
          (subst (λ (j : ℕ). AllStates (aut_in x) (words x.scratch.now 128 j)) {x = i} {y = n} (omega (arith, v.at)) v.results);
    }
