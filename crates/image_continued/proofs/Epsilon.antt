-- epsilon in two runs with the same records, of which the second has no more stored: where the first gives a relation, the second gives the same one, with the same records again. What the first has stored and the second has not, the second
-- works out again, and makes nothing (aut_replay); what neither has, both work out in step.
use mathlib.Core.Path.{◌≡◌, refl, sym, ◌∙◌, ap, subst}
use mathlib.Core.Logic.{inl, inr}
use mathlib.Core.List.{List, [], ◌∷◌}
use Prim.Native.Nat.{ℕ, zero, suc, ◌+◌, ◌*◌, ◌-◌, ◌<◌}
use native.Mathlib.Omega.{arith}
use lib.Dec.{eqb, ltb}
use lib.ListN.{length, get_or}
use borrow.Author.Tests.{eqb-true, eqb-false, ltb-true, ltb-false}
use Rattle.common.specs.Outcome.{Outcome, refused, given, after, Gives}
use Rattle.common.proofs.Follow.{if_given}
use Rattle.common.specs.Runs.{Table, placed}
use Rattle.spp_steps.proofs.Laws.{by_test}
use Rattle.aut_steps.specs.Tables.{SPP, Limits, Aut, put_nodes}
use Rattle.aut_steps.specs.Ascending.{All}
use Rattle.aut_steps.proofs.ListLaws.{all_map, all_with}
use Rattle.aut_steps.specs.Wf.{states, kind, first, second, nesting, members}
use Rattle.aut_steps.proofs.Wf.{nesting_grown, state_grown}
use Rattle.aut_delta_steps.specs.Epsilon.{epsilon_of, keep_epsilon, epsilon}
use Rattle.aut_delta_steps.specs.Noted.{Noted}
use Rattle.aut_delta_steps.proofs.Noted.{noted_refl, noted_trans, noted_grown, written, written_other, written_here}
use Rattle.aut_delta_steps.specs.Wf as Worked
use Rattle.aut_delta_steps.specs.Wf.{Valued, handle, memo}
use Rattle.aut_delta_steps.specs.EpsilonSpec.{Ready, Epsiloned}
use Rattle.aut_delta_steps.specs.EpsilonReads.{operands_of, work_all, combine_by}
use Rattle.aut_delta_steps.proofs.EpsilonReads.{combine_at, Value, operands_below, WorkedOut, worked_out, epsilon_spp, epsilon_kept, epsilon_works}
use Rattle.aut_replay.specs.Replay.{Later, values, HasEpsilon, EpsilonKept, Settled}
use Rattle.aut_replay.proofs.Runs.{later_refl, grown_later}
use Rattle.aut_replay.proofs.Values.{combine_as, operands_later, from_later}
use Rattle.aut_replay.proofs.Epsilon.{has_valued, has_stored, ran, ran_ready, settles, values_agree}
use Rattle.image_continued.specs.Records.{SameRecords}
use Rattle.image_continued.specs.Follow.{Follows, stops, comes, Never}
use Rattle.image_continued.proofs.Records.{kind_same, first_same, second_same, members_same, operands_same, state_same, same_later, same_nodes, same_written, same_right}
use Rattle.image_continued.proofs.Follow.{follows_map, follows_bind, follows_alone, follows_with, follows_right, follows_as}

-- ---- the two tables

-- the same records; an epsilon that the second has stored is stored in the first
pub record Knows (σ τ : Aut) : Type 0 where
  pub same : SameRecords σ τ
  pub epsilons : (x : ℕ) → 0 < epsilon_of τ.states.words x → 0 < epsilon_of σ.states.words x

-- .. both in order, and settled
pub record TwinEpsilons (N : ℕ) (L : Limits) (σ τ : Aut) : Type 0 where
  pub knows : Knows σ τ
  pub left : Ready N L σ
  pub right : Ready N L τ
  pub settled_left : Settled N L σ
  pub settled_right : Settled N L τ

-- they have come so far from σ and τ
pub record Onward (N : ℕ) (L : Limits) (σ τ σ' τ' : Aut) : Type 0 where
  pub twins : TwinEpsilons N L σ' τ'
  pub left : Noted σ σ'
  pub right : Noted τ τ'

-- epsilon of x has given one relation in both, and both have it
pub record Epsilons (N : ℕ) (L : Limits) (x : ℕ) (σ τ σ' τ' : Aut) (e e' : ℕ) : Type 0 where
  pub one : e ≡ e'
  pub onward : Onward N L σ τ σ' τ'
  pub left : Valued σ' x e
  pub right : Valued τ' x e'

-- ---- what is at hand

pub at_hand : {N : ℕ} {L : Limits} {σ : Aut} → Ready N L σ → {x e : ℕ} → x < states σ → Valued σ x e → epsilon N x σ ≡ given σ e
at_hand {σ = σ} r {x} l (handle k f) = epsilon_spp r l k ∙ ap (given σ) f
at_hand {σ = σ} r {x} {e} l (memo k f) = epsilon_kept r l k (omega (arith, f)) ∙ ap (given σ) {x = epsilon_of σ.states.words x - 1} {y = e} (omega (arith, f))

-- what can be read is at hand
pub has_of : {N : ℕ} {L : Limits} {σ : Aut} → Ready N L σ → {x : ℕ} → x < states σ → Worked.HasEpsilon σ x → HasEpsilon σ x
has_of r l (inl e) = has_valued (handle e refl)
has_of r l (inr m) = has_stored r l m

work_known : {N : ℕ} {L : Limits} {σ : Aut} → Ready N L σ → (ys : List ℕ) → All (λ y. (y < states σ) × HasEpsilon σ y) ys → work_all (epsilon N) ys σ ≡ given σ tt
unfolding work_all
work_known r [] a = refl
work_known {N} {σ = σ} r (y ∷ ys) a = ap (λ (o : Outcome Aut ℕ). after o (λ e. work_all (epsilon N) ys)) (at_hand r a.0.0 a.0.1) ∙ work_known r ys a.1

-- what is asked of calls on operands nested below d
abbrev Calls : ℕ → Limits → ℕ → Type 0
Calls N L d = (σ τ : Aut) → TwinEpsilons N L σ τ → (x : ℕ) → x < states σ → nesting σ x < d → Follows Never (Epsilons N L x σ τ) (epsilon N x σ) (epsilon N x τ)

module _ {N : ℕ} {L : Limits} where
  -- one value, wherever it is at hand
  pub value_same : {σ τ : Aut} → TwinEpsilons N L σ τ → {x : ℕ} → x < states σ → {e e' : ℕ} → Valued σ x e → Valued τ x e' → e ≡ e'
  value_same {σ} t {x} l v w = values_agree (suc (nesting σ x)) t.left t.settled_left (same_later t.knows.same) t.right t.settled_right l (omega arith) v w

  all_follow : (d : ℕ) → Calls N L d → (ys : List ℕ) (σ τ : Aut) → TwinEpsilons N L σ τ → All (λ y. (y < states σ) × (nesting σ y < d)) ys
      → Follows Never (λ σ' τ' u v. Onward N L σ τ σ' τ') (work_all (epsilon N) ys σ) (work_all (epsilon N) ys τ)
  unfolding work_all
  all_follow d f [] σ τ t a = comes (record { twins = t; left = noted_refl σ; right = noted_refl τ })
  all_follow d f (y ∷ ys) σ τ t a = follows_bind (f σ τ t y a.0.0 a.0.1) (λ σ₁ τ₁ e e' p.
      let n : Noted σ σ₁ = p.onward.left in
      follows_map (λ σ₂ τ₂ u v o. record { twins = o.twins; left = noted_trans n o.left; right = noted_trans p.onward.right o.right })
      (all_follow d f ys σ₁ τ₁ p.onward.twins (all_map ys (λ z c. (state_grown (noted_grown n) c.0, omega (arith, c.1, nesting_grown (noted_grown n) z c.0))) a.1)))

  -- ---- one state

  module _ {σ τ : Aut} (t : TwinEpsilons N L σ τ) (x : ℕ) (l : x < states σ) where
    abbrev ys : List ℕ
    ys = operands_of σ.states.words σ.members.words x

    l' : x < states τ
    l' = state_same t.knows.same l

    law_left : Gives (λ σ' e. Epsiloned N L x σ σ' e × Settled N L σ') (epsilon N x σ)
    law_left = if_given (epsilon N x σ) (λ σ' e q. (ran t.left l q, settles t.left t.settled_left l q))

    law_right : Gives (λ τ' e. Epsiloned N L x τ τ' e × Settled N L τ') (epsilon N x τ)
    law_right = if_given (epsilon N x τ) (λ τ' e q. (ran t.right l' q, settles t.right t.settled_right l' q))

    -- in order and settled, by the laws of each
    in_order : Follows Never (λ σ' τ' e e'. (e ≡ e') × Knows σ' τ') (epsilon N x σ) (epsilon N x τ) → Follows Never (Epsilons N L x σ τ) (epsilon N x σ) (epsilon N x τ)
    in_order f = follows_map
        (λ σ' τ' e e' ((q, k), (p, s), (p', s')). record {
          one = q;
          onward = record {
            twins = record { knows = k; left = ran_ready p; right = ran_ready p'; settled_left = s; settled_right = s' };
            left = p.found.noted;
            right = p'.found.noted;
          };
          left = p.value;
          right = p'.value;
        })
        (follows_with law_left law_right f)

    -- nothing is worked out
    both_given : {e e' : ℕ} → epsilon N x σ ≡ given σ e → epsilon N x τ ≡ given τ e' → e ≡ e' → Follows Never (Epsilons N L x σ τ) (epsilon N x σ) (epsilon N x τ)
    both_given p q s = in_order (follows_as p q (comes (s, t.knows)))

    module _ (n : kind σ x ≡ SPP → ⊥) (d : ℕ) (low : nesting σ x < suc d) (f : Calls N L d) where
      n' : kind τ x ≡ SPP → ⊥
      n' q = n (kind_same t.knows.same x ∙ q)

      below : All (λ y. (y < states σ) × (nesting σ y < d)) ys
      below = all_map ys (λ y b. (b.state, omega (arith, b.lower))) (operands_below t.left l)

      -- the operands in both, the second's by its own list
      operands_follow : Follows Never (λ σ' τ' u v. Onward N L σ τ σ' τ') (work_all (epsilon N) ys σ) (work_all (epsilon N) (operands_of τ.states.words τ.members.words x) τ)
      operands_follow = follows_as refl (ap (λ (zs : List ℕ). work_all (epsilon N) zs τ) (sym (operands_same t.knows.same x))) (all_follow d f ys σ τ t below)

      worked_right : Gives (λ τ' u. WorkedOut t.right l' τ') (work_all (epsilon N) (operands_of τ.states.words τ.members.words x) τ)
      worked_right = if_given _ (λ τ' u q. worked_out t.right l' q)

      -- the values of the operands of x in tables that have come so far
      module _ {σ' τ' : Aut} (o : Onward N L σ τ σ' τ') (wr : WorkedOut t.right l' τ') where
        k : SameRecords σ' τ'
        k = o.twins.knows.same

        right_has : All (λ y. HasEpsilon τ' y) ys
        right_has = subst (All (λ y. HasEpsilon τ' y)) (sym (operands_same t.knows.same x)) (all_map {P = Value N τ'} (operands_of τ.states.words τ.members.words x) (λ y v. v.valued) wr.values)

        same_values : All (λ y. HasEpsilon σ' y) ys → All (λ y. values σ' y ≡ values τ' y) ys
        same_values a =
            let both : All (λ y. HasEpsilon σ' y × HasEpsilon τ' y) ys = all_with ys (λ y h g. (h, g)) a right_has in
            all_with ys (λ y b h. value_same o.twins (state_grown (noted_grown o.left) b.state) h.0 h.1) (operands_below t.left l) both

        same_combined : All (λ y. HasEpsilon σ' y) ys
            → combine_by N (values σ') (kind σ' x) (members σ' x) (first σ' x) (second σ' x) σ'.nodes ≡ combine_by N (values τ') (kind τ' x) (members τ' x) (first τ' x) (second τ' x) τ'.nodes
        same_combined a =
            combine_as N (values σ') (values τ') (kind σ' x) (members σ' x) (first σ' x) (second σ' x) σ'.nodes
            (subst (All (λ y. values σ' y ≡ values τ' y)) (sym (operands_later t.left.good (grown_later (noted_grown o.left) (later_refl σ')) x l)) (same_values a))
            ∙ (λ i. combine_by N (values τ') (kind_same k x i) (members_same k x i) (first_same k x i) (second_same k x i) (k.nodes i))

      -- written in both
      knows_written : {σ' τ' : Aut} → Knows σ' τ' → 12 * x + 4 < length σ'.states.words → (e e' : ℕ) → Knows (written σ' x 4 (e + 1)) (written τ' x 4 (e' + 1))
      unfolding epsilon_of
      knows_written {σ'} {τ'} k fit e e' = record {
        same = same_written k.same x 4 (e + 1) (e' + 1) (omega arith) (omega arith);
        epsilons = λ i m. by_test (eqb i x)
            (λ q. omega (arith, written_here σ' x 4 (e + 1) fit, ap (λ (j : ℕ). get_or (written σ' x 4 (e + 1)).states.words (12 * j + 4) 0) (eqb-true i x q)))
            (λ q. let j = eqb-false i x q in
            omega (
              arith,
              written_other σ' x 4 (e + 1) (12 * i + 4) (λ z. j (omega arith)),
              k.epsilons i (omega (arith, written_other τ' x 4 (e' + 1) (12 * i + 4) (λ z. j (omega arith)))),
            ));
      }

      -- .. and where the first has it already
      knows_right : {σ' τ' : Aut} → Knows σ' τ' → 0 < epsilon_of σ'.states.words x → (e' : ℕ) → Knows σ' (written τ' x 4 (e' + 1))
      unfolding epsilon_of
      knows_right {σ'} {τ'} k has e' = record {
        same = same_right k.same x 4 (e' + 1) (omega arith) (omega arith);
        epsilons = λ i m. by_test (eqb i x)
            (λ q. omega (arith, ap (λ (j : ℕ). get_or σ'.states.words (12 * j + 4) 0) (eqb-true i x q)))
            (λ q. let j = eqb-false i x q in k.epsilons i (omega (arith, written_other τ' x 4 (e' + 1) (12 * i + 4) (λ z. j (omega arith)))));
      }

      -- neither has it
      in_step : epsilon_of σ.states.words x ≡ 0 → epsilon_of τ.states.words x ≡ 0 → Follows Never (Epsilons N L x σ τ) (epsilon N x σ) (epsilon N x τ)
      unfolding keep_epsilon
      in_step z z' = in_order (follows_as (epsilon_works t.left l n z) (epsilon_works t.right l' n' z')
          (follows_bind (follows_with (if_given _ (λ σ' u q. worked_out t.left l q)) worked_right operands_follow) (λ σ' τ' u v (o, wl, wr).
          let fit : 12 * x + 4 < length σ'.states.words = omega (arith, o.left.len, t.left.good.fits) in
          put_together σ' τ' o.twins.knows fit _ _ (same_combined o wr (all_map ys (λ y w. w.valued) wl.values)))))
        where
          put_together : (σ' τ' : Aut) → Knows σ' τ' → 12 * x + 4 < length σ'.states.words → (o o' : Outcome Table ℕ) → o ≡ o'
              → Follows Never (λ σ'' τ'' e e'. (e ≡ e') × Knows σ'' τ'') (after (placed put_nodes σ' o) (keep_epsilon x)) (after (placed put_nodes τ' o') (keep_epsilon x))
          put_together σ' τ' k fit o o' e = follows_as refl (ap (λ (u : Outcome Table ℕ). after (placed put_nodes τ' u) (keep_epsilon x)) (sym e)) (go o)
            where
              go : (o : Outcome Table ℕ) → Follows Never (λ σ'' τ'' e e'. (e ≡ e') × Knows σ'' τ'') (after (placed put_nodes σ' o) (keep_epsilon x)) (after (placed put_nodes τ' o) (keep_epsilon x))
              go (refused number) = stops
              go (given u h) = comes (refl, knows_written {σ' = put_nodes u σ'} {τ' = put_nodes u τ'} (record { same = same_nodes k.same u; epsilons = k.epsilons }) fit h h)

      -- the first has it: the second works it out again
      again : 0 < epsilon_of σ.states.words x → epsilon_of τ.states.words x ≡ 0 → Follows Never (Epsilons N L x σ τ) (epsilon N x σ) (epsilon N x τ)
      unfolding keep_epsilon
      again m z' = in_order (follows_as (at_hand t.left l v) (epsilon_works t.right l' n' z')
          (follows_alone (follows_as (sym (work_known t.left ys has)) refl (follows_right worked_right operands_follow)) (λ τ' u (o, wr).
          follows_as refl (ap (λ (p : Outcome Aut ℕ). after p (keep_epsilon x)) (together τ' o wr)) (comes (refl, knows_right o.twins.knows m (values σ x))))))
        where
          p : EpsilonKept N L σ x
          p = t.settled_left.epsilons x l m

          v : Valued σ x (values σ x)
          v = has_stored t.left l m

          has : All (λ y. (y < states σ) × HasEpsilon σ y) ys
          has = all_with ys (λ y b h. (b.state, h)) (operands_below t.left l) p.operands

          together : (τ' : Aut) → Onward N L σ τ σ τ' → WorkedOut t.right l' τ' → combine_at N x τ' ≡ given τ' (values σ x)
          together τ' o wr =
              let w : Later σ τ' = same_later o.twins.knows.same in
              from_later t.left.good w x l (values τ') τ'
              ∙ ap (placed put_nodes τ') (sym (combine_as N (values σ) (values τ') (kind σ x) (members σ x) (first σ x) (second σ x) τ'.nodes (same_values o wr p.operands)))
              ∙ p.again.same τ' w o.twins.right.good

  epsilon_by : (d : ℕ) → Calls N L d
  epsilon_by zero σ τ t x l m = absurd (omega arith)
  epsilon_by (suc d) σ τ t x l m =
      by_test (eqb (kind σ x) SPP)
      (λ q. let e = eqb-true (kind σ x) SPP q in
      both_given t x l (epsilon_spp t.left l e) (epsilon_spp t.right (state_same t.knows.same l) (sym (kind_same t.knows.same x) ∙ e)) (first_same t.knows.same x))
      (λ q. let n = eqb-false (kind σ x) SPP q in
      by_test (ltb 0 (epsilon_of τ.states.words x))
      (λ s'. let m' : 0 < epsilon_of τ.states.words x = ltb-true 0 _ s' in
      kept n (t.knows.epsilons x m') m')
      (λ s'. let z' : epsilon_of τ.states.words x ≡ 0 = omega (arith, ltb-false 0 (epsilon_of τ.states.words x) s') in
      by_test (ltb 0 (epsilon_of σ.states.words x))
      (λ s. again t x l n d m (epsilon_by d) (ltb-true 0 _ s) z')
      (λ s. in_step t x l n d m (epsilon_by d) (omega (arith, ltb-false 0 (epsilon_of σ.states.words x) s)) z')))
    where
      kept : (kind σ x ≡ SPP → ⊥) → 0 < epsilon_of σ.states.words x → 0 < epsilon_of τ.states.words x → Follows Never (Epsilons N L x σ τ) (epsilon N x σ) (epsilon N x τ)
      kept n a b =
          let n' : kind τ x ≡ SPP → ⊥ = λ q. n (kind_same t.knows.same x ∙ q) in
          both_given t x l (epsilon_kept t.left l n a) (epsilon_kept t.right (state_same t.knows.same l) n' b) (value_same t l (memo n (omega arith)) (memo n' (omega arith)))

  pub epsilon_follows : {σ τ : Aut} → TwinEpsilons N L σ τ → (x : ℕ) → x < states σ → Follows Never (Epsilons N L x σ τ) (epsilon N x σ) (epsilon N x τ)
  epsilon_follows {σ} {τ} t x l = epsilon_by (suc (nesting σ x)) σ τ t x l (omega arith)
