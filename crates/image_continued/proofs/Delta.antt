-- delta in two runs with the same records, of which the second has no more stored: where the first gives a list, the second gives the same one, with the same records again. It cannot meet 25: it has no more transitions.
use Rattle.std.specs.Prelude.{if◌then◌else◌}
use mathlib.Core.Path.{◌≡◌, refl, sym, ◌∙◌, ap, subst}
use mathlib.Core.Bool.{Bool, true, false}
use mathlib.Core.Logic.{◌⊎◌, inl, inr, ⊎_elim}
use mathlib.Core.List.{List, [], ◌∷◌}
use Prim.Native.Nat.{ℕ, zero, suc, ◌+◌, ◌*◌, ◌-◌, ◌≤◌, ◌<◌}
use native.Mathlib.Omega.{arith}
use lib.Dec.{eqb, ltb}
use lib.ListN.{length, get_or}
use borrow.Author.Tests.{eqb-true, eqb-false, eq-eqb, ne_eqb, ltb-true, ltb-false}
use Rattle.common.specs.Outcome.{Outcome, refused, given, Step, after, ◌>>=◌, Gives, refusal}
use Rattle.common.specs.Outcome as Outcomes
use Rattle.common.proofs.Follow.{given_of, if_given, given_same, refused≢given}
use Rattle.common.specs.Runs.{Table, placed}
use Rattle.netkat.specs.Rules.{sequence, star}
use Rattle.netkat_steps.specs.ListSteps.{Edge}
use Rattle.spp_steps.specs.Wf.{Ext}
use Rattle.spp_steps.proofs.Laws.{by_test}
use Rattle.aut_steps.specs.Relations as Rel
use Rattle.aut_steps.specs.Tables.{SEQUENCE, STAR, Limits, Aut, put_nodes, on_nodes}
use Rattle.aut_steps.specs.Kinds.{form}
use Rattle.aut_steps.specs.Ascending.{All}
use Rattle.aut_steps.proofs.ListLaws.{all_map, all_with}
use Rattle.aut_steps.specs.Wf.{states, kind, first, second, nesting, members}
use Rattle.aut_steps.proofs.Wf.{grown_nodes, nesting_grown, state_grown}
use Rattle.aut_delta_steps.specs.Epsilon.{epsilon_of, epsilon}
use Rattle.aut_delta_steps.specs.Delta.{count_of, Store, store, put_aut, room_t, append, list_at, keep_list, delta}
use Rattle.aut_delta_steps.proofs.Agree.{agree_given}
use Rattle.aut_delta_steps.proofs.Noted.{noted_grown, written, written_other, written_here, written_length}
use Rattle.aut_delta_steps.specs.Wf.{SameWords, WfStore}
use Rattle.aut_delta_steps.proofs.Operands.{below_one, below_two}
use Rattle.aut_delta_steps.specs.EpsilonSpec.{Epsiloned}
use Rattle.aut_delta_steps.specs.EpsilonReads.{work_all}
use Rattle.aut_delta_steps.specs.Extends.{ExtStore}
use Rattle.aut_delta_steps.proofs.Extends.{room_transitions, went_refl, went_trans, same_noted, stored_count, Before, before_refl, before_trans}
use Rattle.aut_delta_steps.proofs.DeltaRuns.{Deltaed}
use Rattle.aut_delta_steps.proofs.DeltaLaws.{delta_goes}
use Rattle.aut_delta_steps.specs.DeltaReads.{list_operands, quit, enter_with, enter, together_with}
use Rattle.aut_delta_steps.proofs.DeltaReads.{together, finish_list, list_operands_below, entered, entered_went, entered_worked, entered_value, star_noted, star_went, star_worked, delta_stored, delta_works}
use Rattle.aut_delta_steps.proofs.Sizes.{sum, transitions_sum}
use Rattle.aut_replay.specs.Replay.{Later, Wider, values, HasEpsilon, ListKept, SettledLists, DeltaDone, lacks, gives}
use Rattle.aut_replay.proofs.Runs.{later_refl, grown_later, kind_later, first_later}
use Rattle.aut_replay.proofs.Values.{star_runs}
use Rattle.aut_replay.proofs.Epsilon.{has_valued, has_kept}
use Rattle.aut_replay.proofs.Together.{together_as, list_operands_later}
use Rattle.aut_replay.proofs.Delta.{ready_of, lists_settle, delta_again}
use Rattle.aut_free.proofs.Twin.{TwinAut}
use Rattle.aut_free.proofs.Lists.{together_free}
use Rattle.image_continued.specs.Records.{SameRecords}
use Rattle.image_continued.specs.Follow.{Follows, stops, comes, Never}
use Rattle.image_continued.proofs.Records.{twin_of, of_twin, kind_same, first_same, second_same, members_same, list_operands_same, state_same, same_later, same_nodes, same_written, same_right}
use Rattle.image_continued.proofs.Follow.{follows_map, follows_bind, follows_alone, follows_with, follows_as, follows_placed, follows_alike}
use Rattle.image_continued.proofs.Epsilon.{Knows, TwinEpsilons, value_same, at_hand, epsilon_follows}
use Rattle.image_continued.proofs.Counts.{sum_less, sum_lacks, room_for}

-- ---- the two tables

-- in order, and what is stored was worked out there
pub record Sound (N : ℕ) (L : Limits) (σ : Store) : Type 0 where
  pub worked : WfStore N L σ
  pub settled : SettledLists N L σ

-- the same records; what the second has stored is stored in the first
pub record KnowsLists (σ τ : Store) : Type 0 where
  pub knows : Knows σ.aut τ.aut
  pub lists : (x : ℕ) → 0 < count_of τ.aut.states.words x → 0 < count_of σ.aut.states.words x

pub record TwinStores (N : ℕ) (L : Limits) (σ τ : Store) : Type 0 where
  pub less : KnowsLists σ τ
  pub room : length σ.transitions.words ≡ length τ.transitions.words
  pub left : Sound N L σ
  pub right : Sound N L τ

-- delta of x has given one list in both
pub record Deltas (N : ℕ) (L : Limits) (x : ℕ) (σ τ σ' τ' : Store) (es es' : List Edge) : Type 0 where
  pub one : es ≡ es'
  pub twins : TwinStores N L σ' τ'
  pub left : Deltaed N L x σ σ' es
  pub right : Deltaed N L x τ τ' es'

pub wider_refl : (L : Limits) → Wider L L
wider_refl L = record { nesting = omega arith; list = omega arith; products = omega arith; transitions = omega arith }

pub epsilons_of : {N : ℕ} {L : Limits} {σ τ : Store} → TwinStores N L σ τ → TwinEpsilons N L σ.aut τ.aut
epsilons_of t = record {
  knows = t.less.knows;
  left = ready_of t.left.worked;
  right = ready_of t.right.worked;
  settled_left = t.left.settled.settled;
  settled_right = t.right.settled.settled;
}

module _ {N : ℕ} {L : Limits} where
  deltaed : {σ τ : Store} {x : ℕ} {es : List Edge} → WfStore N L σ → x < states σ.aut → delta N L x σ ≡ given τ es → Deltaed N L x σ τ es
  deltaed W l q = agree_given (delta_goes W l) q

  -- ---- one list, wherever it is stored

  module _ {σ τ : Store} (t : TwinStores N L σ τ) where
    abbrev s : SameRecords σ.aut τ.aut
    s = t.less.knows.same

    pub list_one : {x : ℕ} → x < states σ.aut → 0 < count_of σ.aut.states.words x → 0 < count_of τ.aut.states.words x → list_at σ x ≡ list_at τ x
    list_one {x} l c c' = go ((delta_again N L L (wider_refl L)).again σ t.left.worked t.left.settled x (list_at σ x) l (record { marked = c; reads = refl }) τ (same_later s) t.right.worked t.right.settled)
      where
        here : delta N L x τ ≡ given τ (list_at τ x)
        here = delta_stored t.right.worked (state_same s l) c'

        go : DeltaDone N L x τ (list_at σ x) → list_at σ x ≡ list_at τ x
        go (lacks q) = absurd (refused≢given (sym q ∙ here))
        go (gives q u w) = given_same (sym q ∙ here)

    -- ---- no more transitions

    lengths : (i : ℕ) → i < states σ.aut → count_of τ.aut.states.words i - 1 ≤ count_of σ.aut.states.words i - 1
    lengths i l = by_test (ltb 0 (count_of τ.aut.states.words i))
        (λ q. let c' : 0 < count_of τ.aut.states.words i = ltb-true 0 _ q in
        let c : 0 < count_of σ.aut.states.words i = t.less.lists i c' in
        omega (arith, stored_count {σ = σ} {x = i} {es = list_at σ i} (record { marked = c; reads = refl }), stored_count {σ = τ} {x = i} {es = list_at τ i} (record { marked = c'; reads = refl }), ap length (list_one l c c')))
        (λ q. omega (arith, ltb-false 0 (count_of τ.aut.states.words i) q))

    pub fewer : τ.transitions.count ≤ σ.transitions.count
    fewer = omega (
      arith,
      transitions_sum σ t.left.worked.lists,
      transitions_sum τ t.right.worked.lists ∙ ap (sum (λ x. count_of τ.aut.states.words x - 1)) (sym s.count),
      sum_less (λ x. count_of τ.aut.states.words x - 1) (λ x. count_of σ.aut.states.words x - 1) (states σ.aut) lengths,
    )

    -- by a list that the first has and the second has not
    fewer_by : {x : ℕ} → x < states σ.aut → 0 < count_of σ.aut.states.words x → count_of τ.aut.states.words x ≡ 0 → τ.transitions.count + length (list_at σ x) ≤ σ.transitions.count
    fewer_by {x} l c z = omega (
      arith,
      transitions_sum σ t.left.worked.lists,
      transitions_sum τ t.right.worked.lists ∙ ap (sum (λ x. count_of τ.aut.states.words x - 1)) (sym s.count),
      sum_lacks (λ x. count_of τ.aut.states.words x - 1) (λ x. count_of σ.aut.states.words x - 1) (states σ.aut) x l (omega arith) lengths,
      stored_count {σ = σ} {x = x} {es = list_at σ x} (record { marked = c; reads = refl }),
    )

    pub room_both : (k : ℕ) → room_t σ.transitions k ≡ true → room_t τ.transitions k ≡ true
    room_both k e = let (a, b) = room_transitions σ.transitions k e in room_for τ.transitions k (omega (arith, fewer, t.room)) (omega (arith, fewer))

    room_again : {x : ℕ} → x < states σ.aut → 0 < count_of σ.aut.states.words x → count_of τ.aut.states.words x ≡ 0 → room_t τ.transitions (length (list_at σ x)) ≡ true
    room_again l c z = room_for τ.transitions (length (list_at _ _)) (omega (arith, fewer_by l c z, t.room, t.left.worked.lists.fit)) (omega (arith, fewer_by l c z, t.left.worked.lists.small))

-- ---- what is worked out before the operands' lists

-- the state has an epsilon to be worked out first
abbrev Enters : Aut → ℕ → Type 0
Enters σ x = (kind σ x ≡ SEQUENCE) ⊎ (kind σ x ≡ STAR)

record EnterTo (N : ℕ) (L : Limits) (x : ℕ) (σ σ' : Store) : Type 0 where
  went : ExtStore σ σ'
  same : (i : ℕ) → SameWords σ σ' i
  sound : Sound N L σ'
  has : Enters σ.aut x → HasEpsilon σ'.aut (first σ.aut x)

module _ {N : ℕ} {L : Limits} {σ : Store} (S : Sound N L σ) {x : ℕ} (l : x < states σ.aut) where
  abbrev a : ℕ
  a = first σ.aut x

  enters_first : Enters σ.aut x → a < states σ.aut
  unfolding form
  enters_first (inl e) = (below_two S.worked.good l SEQUENCE e sequence refl).0.state
  enters_first (inr e) = (below_one S.worked.good l STAR e star refl).state

  enter_sequence : kind σ.aut x ≡ SEQUENCE → enter N x σ ≡ placed put_aut σ (after (epsilon N a σ.aut) quit)
  unfolding enter_with
  enter_sequence e = simp (eq-eqb (kind σ.aut x) SEQUENCE e)

  enter_star : kind σ.aut x ≡ STAR → enter N x σ ≡ placed put_aut σ (after (epsilon N a σ.aut) (λ e. on_nodes (Rel.star N e) >>= quit))
  unfolding enter_with
  enter_star e = simp (ne_eqb (kind σ.aut x) SEQUENCE (λ q. omega arith), eq-eqb (kind σ.aut x) STAR e)

  enter_none : (Enters σ.aut x → ⊥) → enter N x σ ≡ given σ tt
  unfolding enter_with
  enter_none n = simp (ne_eqb (kind σ.aut x) SEQUENCE (λ q. n (inl q)), ne_eqb (kind σ.aut x) STAR (λ q. n (inr q)))

  -- one of three
  entering : {A : Type 0} → (kind σ.aut x ≡ SEQUENCE → A) → (kind σ.aut x ≡ STAR → A) → ((Enters σ.aut x → ⊥) → A) → A
  entering f g h =
      by_test (eqb (kind σ.aut x) SEQUENCE) (λ q. f (eqb-true _ _ q))
      (λ q. by_test (eqb (kind σ.aut x) STAR) (λ r. g (eqb-true _ _ r)) (λ r. h (λ e. ⊎_elim (eqb-false _ _ q) (eqb-false _ _ r) e)))

  enter_law : Gives (λ σ' u. EnterTo N L x σ σ') (enter N x σ)
  enter_law = entering
      (λ e. subst (Gives (λ σ' u. EnterTo N L x σ σ')) (sym (enter_sequence e)) (by_epsilon (enters_first (inl e)) (epsilon N a σ.aut) refl))
      (λ e. subst (Gives (λ σ' u. EnterTo N L x σ σ')) (sym (enter_star e)) (with_star (enters_first (inr e)) (epsilon N a σ.aut) refl))
      (λ n. subst (Gives (λ σ' u. EnterTo N L x σ σ')) (sym (enter_none n)) (Outcomes.gives (record { went = went_refl σ; same = λ i. (refl, refl); sound = S; has = λ e. absurd (n e) })))
    where
      by_epsilon : a < states σ.aut → (o : Outcome Aut ℕ) → epsilon N a σ.aut ≡ o → Gives (λ σ' u. EnterTo N L x σ σ') (placed put_aut σ (after o quit))
      by_epsilon m (refused number) q = refusal
      by_epsilon m (given α ε) q = Outcomes.gives (record {
        went = entered_went S.worked m q;
        same = same_noted σ (entered S.worked m q).found.noted;
        sound = record { worked = entered_worked S.worked m q; settled = (delta_again N L L (wider_refl L)).notes σ S.worked S.settled a m α ε q };
        has = λ e. has_valued (entered_value S.worked m q);
      })

      starred : (m : a < states σ.aut) {α : Aut} {ε : ℕ} (q : epsilon N a σ.aut ≡ given α ε) → (o : Outcome Table ℕ) → Rel.star N ε α.nodes ≡ o
          → Gives (λ σ' u. EnterTo N L x σ σ') (placed put_aut σ (after (placed put_nodes α o) quit))
      starred m q (refused number) z = refusal
      starred m {α} {ε} q (given t h) z =
          let p : Epsiloned N L a σ.aut α ε = entered S.worked m q in
          let w : Ext α.nodes t = (given_of (star_runs N ε p.found.good.nodes p.found.means.den.at) z).ext in
          let W : WfStore N L (store (put_nodes t α) σ.transitions) = star_worked S.worked m q z in
          let s₁ : SettledLists N L (store α σ.transitions) = (delta_again N L L (wider_refl L)).notes σ S.worked S.settled a m α ε q in
          Outcomes.gives (record {
            went = star_went S.worked m q z;
            same = same_noted σ (star_noted S.worked m q z);
            sound = record {
              worked = W;
              settled = (delta_again N L L (wider_refl L)).grows (store α σ.transitions) (entered_worked S.worked m q) s₁ (put_nodes t α)
                  (record { grown = grown_nodes {σ = α} w; memos = λ i u b c. refl; good = W.good });
            };
            has = λ e. has_kept (grown_nodes {σ = α} w) (λ i b. refl) (state_grown (noted_grown p.found.noted) m) (has_valued (entered_value S.worked m q));
          })

      with_star : a < states σ.aut → (o : Outcome Aut ℕ) → epsilon N a σ.aut ≡ o → Gives (λ σ' u. EnterTo N L x σ σ') (placed put_aut σ (after o (λ e. on_nodes (Rel.star N e) >>= quit)))
      with_star m (refused number) q = refusal
      with_star m (given α ε) q = starred m q (Rel.star N ε α.nodes) refl

-- .. in both
record EnterBoth (N : ℕ) (L : Limits) (x : ℕ) (σ τ σ' τ' : Store) : Type 0 where
  twins : TwinStores N L σ' τ'
  left : EnterTo N L x σ σ'
  right : EnterTo N L x τ τ'

module _ {N : ℕ} {L : Limits} {σ τ : Store} (t : TwinStores N L σ τ) {x : ℕ} (l : x < states σ.aut) where
  abbrev r : SameRecords σ.aut τ.aut
  r = t.less.knows.same

  abbrev b : ℕ
  b = first σ.aut x

  l₂ : x < states τ.aut
  l₂ = state_same r l

  enter_knows : Follows Never (λ σ' τ' u v. Knows σ'.aut τ'.aut) (enter N x σ) (enter N x τ)
  enter_knows = entering t.left l
      (λ e. follows_as (enter_sequence t.left l e)
      (enter_sequence t.right l₂ (sym (kind_same r x) ∙ e) ∙ ap (λ (c : ℕ). placed put_aut τ (after (epsilon N c τ.aut) quit)) (sym (first_same r x)))
      (follows_placed put_aut put_aut σ τ
      (follows_bind (epsilon_follows (epsilons_of t) b (enters_first t.left l (inl e))) (λ α β h h' p. comes p.onward.twins.knows))
      (λ α β u v k. k)))
      (λ e. follows_as (enter_star t.left l e)
      (enter_star t.right l₂ (sym (kind_same r x) ∙ e) ∙ ap (λ (c : ℕ). placed put_aut τ (after (epsilon N c τ.aut) (λ e. on_nodes (Rel.star N e) >>= quit))) (sym (first_same r x)))
      (follows_placed put_aut put_aut σ τ
      (follows_bind (epsilon_follows (epsilons_of t) b (enters_first t.left l (inr e))) (λ α β h h' p.
      let k : Knows α β = p.onward.twins.knows in
      follows_as refl (λ d. after (placed put_nodes β (Rel.star N (sym p.one d) (sym k.same.nodes d))) quit) (starred α β k (Rel.star N h α.nodes))))
      (λ α β u v k. k)))
      (λ n. follows_as (enter_none t.left l n) (enter_none t.right l₂ (λ e. n (⊎_elim (λ q. inl (kind_same r x ∙ q)) (λ q. inr (kind_same r x ∙ q)) e))) (comes t.less.knows))
    where
      starred : (α β : Aut) → Knows α β → (o : Outcome Table ℕ) → Follows Never (λ α' β' u v. Knows α' β') (after (placed put_nodes α o) quit) (after (placed put_nodes β o) quit)
      starred α β k (refused number) = stops
      starred α β k (given s h) = comes (record { same = same_nodes k.same s; epsilons = k.epsilons })

  enter_follows : Follows Never (λ σ' τ' u v. EnterBoth N L x σ τ σ' τ') (enter N x σ) (enter N x τ)
  enter_follows = follows_map
      (λ σ' τ' u v (k, p, q). record {
        twins = record {
          less = record { knows = k; lists = λ i c. omega (arith, (p.same i).0, t.less.lists i (omega (arith, (q.same i).0))) };
          room = p.went.transitions.len ∙ t.room ∙ sym q.went.transitions.len;
          left = p.sound;
          right = q.sound;
        };
        left = p;
        right = q;
      })
      (follows_with (enter_law t.left l) (enter_law t.right l₂) enter_knows)

-- ---- the operands' lists

-- what is asked of calls on operands nested below d
abbrev ListCalls : ℕ → Limits → ℕ → Type 0
ListCalls N L d = (σ τ : Store) → TwinStores N L σ τ → (x : ℕ) → x < states σ.aut → nesting σ.aut x < d → Follows Never (Deltas N L x σ τ) (delta N L x σ) (delta N L x τ)

-- those of a list, operands of x; no list of x is stored
record WorkedTo (N : ℕ) (L : Limits) (x : ℕ) (ys : List ℕ) (σ τ σ' τ' : Store) : Type 0 where
  twins : TwinStores N L σ' τ'
  left : ExtStore σ σ'
  right : ExtStore τ τ'
  before : Before x τ τ'
  stored_left : All (λ y. 0 < count_of σ'.aut.states.words y) ys
  stored_right : All (λ y. 0 < count_of τ'.aut.states.words y) ys

marked_went : {σ τ : Store} → ExtStore σ τ → (y : ℕ) → 0 < count_of σ.aut.states.words y → 0 < count_of τ.aut.states.words y
marked_went w y m = omega (arith, (w.lists y m).0)

module _ {N : ℕ} {L : Limits} where
  all_follow : (d : ℕ) → ListCalls N L d → (x : ℕ) (ys : List ℕ) (σ τ : Store) → TwinStores N L σ τ → All (λ y. (y < states σ.aut) × (nesting σ.aut y < d) × (y < x)) ys
      → Follows Never (λ σ' τ' u v. WorkedTo N L x ys σ τ σ' τ') (work_all (delta N L) ys σ) (work_all (delta N L) ys τ)
  unfolding work_all
  all_follow d f x [] σ τ t a = comes (record { twins = t; left = went_refl σ; right = went_refl τ; before = before_refl x τ; stored_left = tt; stored_right = tt })
  all_follow d f x (y ∷ ys) σ τ t a = follows_bind (f σ τ t y a.0.0 a.0.1) (λ σ₁ τ₁ es es' p.
      let w : ExtStore σ σ₁ = p.left.listed.went in
      follows_map (λ σ₂ τ₂ u v o. record {
        twins = o.twins;
        left = went_trans w o.left;
        right = went_trans p.right.listed.went o.right;
        before = before_trans (record { same = λ i m. p.right.listed.before.same i (omega (arith, a.0.2)) }) o.before;
        stored_left = (marked_went o.left y p.left.stored.marked, o.stored_left);
        stored_right = (marked_went o.right y p.right.stored.marked, o.stored_right);
      })
      (all_follow d f x ys σ₁ τ₁ p.twins (all_map ys (λ z c. (state_grown w.grown c.0, omega (arith, c.1, nesting_grown w.grown z c.0), c.2)) a.1)))

  work_stored : {σ : Store} → WfStore N L σ → (ys : List ℕ) → All (λ y. (y < states σ.aut) × (0 < count_of σ.aut.states.words y)) ys → work_all (delta N L) ys σ ≡ given σ tt
  unfolding work_all
  work_stored W [] a = refl
  work_stored {σ} W (y ∷ ys) a = ap (λ (o : Outcome Store (List Edge)). after o (λ e. work_all (delta N L) ys)) (delta_stored W a.0.0 a.0.1) ∙ work_stored W ys a.1

-- ---- the list is put together, and stored

module _ {N : ℕ} {L : Limits} {σ τ : Store} (t : TwinStores N L σ τ) {x : ℕ} (l : x < states σ.aut) (stored : All (λ y. 0 < count_of σ.aut.states.words y) (list_operands σ x))
    (stored' : All (λ y. 0 < count_of τ.aut.states.words y) (list_operands σ x)) (has : Enters σ.aut x → HasEpsilon σ.aut (first σ.aut x)) (has' : Enters σ.aut x → HasEpsilon τ.aut (first σ.aut x))
  where
    q : SameRecords σ.aut τ.aut
    q = t.less.knows.same

    same_lists : All (λ y. list_at σ y ≡ list_at τ y) (list_operands σ x)
    same_lists =
        let both : All (λ y. (0 < count_of σ.aut.states.words y) × (0 < count_of τ.aut.states.words y)) (list_operands σ x) = all_with (list_operands σ x) (λ y m n. (m, n)) stored stored' in
        all_with (list_operands σ x) (λ y b m. list_one t b.state m.0 m.1) (list_operands_below t.left.worked l) both

    same_value : Enters σ.aut x → values σ.aut (first σ.aut x) ≡ values τ.aut (first σ.aut x)
    same_value e = value_same (epsilons_of t) (enters_first t.left l e) (has e) (has' e)

    -- the same step
    same_together :
        together_with N L (list_at σ) (values σ.aut (first σ.aut x)) (kind σ.aut x) x (members σ.aut x) (first σ.aut x) (second σ.aut x)
        ≡ together_with N L (list_at τ) (values τ.aut (first σ.aut x)) (kind σ.aut x) x (members σ.aut x) (first σ.aut x) (second σ.aut x)
    same_together = together_as N L (list_at σ) (list_at τ) _ _ (kind σ.aut x) x (members σ.aut x) (first σ.aut x) (second σ.aut x) same_lists
        (λ e. same_value (inl (eqb-true _ _ e))) (λ e. same_value (inr (eqb-true _ _ e)))

    together_follows : Follows Never (λ σ' τ' es es'. (es ≡ es') × TwinAut σ.aut.states.words τ.aut.states.words σ'.aut τ'.aut × (σ'.transitions ≡ σ.transitions) × (τ'.transitions ≡ τ.transitions))
        (together N L x σ) (together N L x τ)
    together_follows = follows_placed put_aut put_aut σ τ
        (follows_as (ap (λ (c : Step Aut (List Edge)). c σ.aut) same_together)
        (λ d. together_with N L (list_at τ) (values τ.aut (sym (first_same q x) d)) (sym (kind_same q x) d) x (sym (members_same q x) d) (sym (first_same q x) d) (sym (second_same q x) d) τ.aut)
        (follows_alike (together_free N L _ _ _ _ _ _ _ σ.aut τ.aut (twin_of q))))
        (λ α β es es' (e, w). (e, w, refl, refl))

module _ {N : ℕ} {L : Limits} {σ τ : Store} (t : TwinStores N L σ τ) {x : ℕ} (l : x < states σ.aut) where
  -- words 5 and 6 of x are written in tables that are twins from σ and τ on
  knows_both : {α β : Aut} → TwinAut σ.aut.states.words τ.aut.states.words α β → (m n k : ℕ) {u v : Table}
      → KnowsLists (store (written (written α x 5 m) x 6 (k + 1)) u) (store (written (written β x 5 n) x 6 (k + 1)) v)
  unfolding count_of epsilon_of
  knows_both {α} {β} w m n k = record {
    knows = record {
      same = same_written (same_written (of_twin w) x 5 m n (omega arith) (omega arith)) x 6 (k + 1) (k + 1) (omega arith) (omega arith);
      epsilons = λ i c. omega (
        arith,
        word α m i 4 (λ z. omega arith) (λ z. omega arith) (omega arith),
        w.states.words.left.words i 4 (omega arith) (omega arith),
        t.less.knows.epsilons i (omega (arith, word β n i 4 (λ z. omega arith) (λ z. omega arith) (omega arith), w.states.words.right.words i 4 (omega arith) (omega arith))),
      );
    };
    lists = λ i c. by_test (eqb i x)
        (λ z. omega (arith, here, ap (λ (j : ℕ). get_or (written (written α x 5 m) x 6 (k + 1)).states.words (12 * j + 6) 0) (eqb-true i x z)))
        (λ z. let j = eqb-false i x z in
        omega (
          arith,
          word α m i 6 (λ y. omega arith) (λ y. j (omega arith)) (omega arith),
          w.states.words.left.words i 6 (omega arith) (omega arith),
          t.less.lists i (omega (arith, word β n i 6 (λ y. omega arith) (λ y. j (omega arith)) (omega arith), w.states.words.right.words i 6 (omega arith) (omega arith))),
        ));
  }
    where
      word : (γ : Aut) (v i u : ℕ) → (12 * i + u ≡ 12 * x + 5 → ⊥) → (12 * i + u ≡ 12 * x + 6 → ⊥) → u < 12
          → get_or (written (written γ x 5 v) x 6 (k + 1)).states.words (12 * i + u) 0 ≡ get_or γ.states.words (12 * i + u) 0
      word γ v i u a b c = written_other (written γ x 5 v) x 6 (k + 1) (12 * i + u) b ∙ written_other γ x 5 v (12 * i + u) a

      here : get_or (written (written α x 5 m) x 6 (k + 1)).states.words (12 * x + 6) 0 ≡ k + 1
      here = written_here (written α x 5 m) x 6 (k + 1) (omega (arith, written_length α x 5 m, w.states.words.left.len, t.left.worked.good.fits))

  -- .. in the second alone, where the first has the list
  knows_second : 0 < count_of σ.aut.states.words x → (n k : ℕ) {v : Table} → KnowsLists σ (store (written (written τ.aut x 5 n) x 6 (k + 1)) v)
  unfolding count_of epsilon_of
  knows_second has n k = record {
    knows = record {
      same = same_right (same_right t.less.knows.same x 5 n (omega arith) (omega arith)) x 6 (k + 1) (omega arith) (omega arith);
      epsilons = λ i c. t.less.knows.epsilons i (omega (arith, word i 4 (λ z. omega arith) (λ z. omega arith) (omega arith)));
    };
    lists = λ i c. by_test (eqb i x)
        (λ z. omega (arith, ap (λ (j : ℕ). get_or σ.aut.states.words (12 * j + 6) 0) (eqb-true i x z)))
        (λ z. let j = eqb-false i x z in t.less.lists i (omega (arith, word i 6 (λ y. omega arith) (λ y. j (omega arith)) (omega arith))));
  }
    where
      word : (i u : ℕ) → (12 * i + u ≡ 12 * x + 5 → ⊥) → (12 * i + u ≡ 12 * x + 6 → ⊥) → u < 12
          → get_or (written (written τ.aut x 5 n) x 6 (k + 1)).states.words (12 * i + u) 0 ≡ get_or τ.aut.states.words (12 * i + u) 0
      word i u a b c = written_other (written τ.aut x 5 n) x 6 (k + 1) (12 * i + u) b ∙ written_other τ.aut x 5 n (12 * i + u) a

  keep_follows : (σ' τ' : Store) (es : List Edge) → TwinAut σ.aut.states.words τ.aut.states.words σ'.aut τ'.aut → σ'.transitions ≡ σ.transitions → τ'.transitions ≡ τ.transitions
      → Follows Never (λ σ'' τ'' fs fs'. (fs ≡ fs') × KnowsLists σ'' τ'') (keep_list x es σ') (keep_list x es τ')
  unfolding keep_list
  keep_follows σ' τ' es w a b = go (room_t σ'.transitions (length es)) refl
    where
      new : Store → Store
      new ρ = store (written (written ρ.aut x 5 ρ.transitions.count) x 6 (length es + 1)) (append es ρ.transitions)

      go : (c : Bool) → room_t σ'.transitions (length es) ≡ c
          → Follows Never (λ σ'' τ'' fs fs'. (fs ≡ fs') × KnowsLists σ'' τ'') (if c then given (new σ') es else refused 25) (if room_t τ'.transitions (length es) then given (new τ') es else refused 25)
      go false e = stops
      go true e = follows_as refl (ap (λ (c : Bool). if c then given (new τ') es else refused 25) room)
          (comes (refl, knows_both w σ'.transitions.count τ'.transitions.count (length es)))
        where
          room : room_t τ'.transitions (length es) ≡ true
          room = ap (λ (s : Table). room_t s (length es)) b ∙ room_both t (length es) (ap (λ (s : Table). room_t s (length es)) (sym a) ∙ e)

  keep_again : 0 < count_of σ.aut.states.words x → count_of τ.aut.states.words x ≡ 0
      → Follows Never (λ σ'' τ'' fs fs'. (fs ≡ fs') × KnowsLists σ'' τ'') (given σ (list_at σ x)) (keep_list x (list_at σ x) τ)
  unfolding keep_list
  keep_again c z = follows_as refl (ap (λ (b : Bool). if b then given new (list_at σ x) else refused 25) (room_again t l c z))
      (comes (refl, knows_second c τ.transitions.count (length (list_at σ x))))
    where
      new : Store
      new = store (written (written τ.aut x 5 τ.transitions.count) x 6 (length (list_at σ x) + 1)) (append (list_at σ x) τ.transitions)

-- ---- one state

module _ {N : ℕ} {L : Limits} {σ τ : Store} (t : TwinStores N L σ τ) (x : ℕ) (l : x < states σ.aut) where
  l₃ : x < states τ.aut
  l₃ = state_same t.less.knows.same l

  delta_law : {ρ : Store} → Sound N L ρ → x < states ρ.aut → Gives (λ ρ' es. Deltaed N L x ρ ρ' es × SettledLists N L ρ') (delta N L x ρ)
  delta_law {ρ} S m = if_given (delta N L x ρ) (λ ρ' es q. (deltaed S.worked m q, lists_settle (wider_refl L) S.worked S.settled m q))

  in_order : Follows Never (λ σ' τ' es es'. (es ≡ es') × KnowsLists σ' τ') (delta N L x σ) (delta N L x τ) → Follows Never (Deltas N L x σ τ) (delta N L x σ) (delta N L x τ)
  in_order f = follows_map
      (λ σ' τ' es es' ((q, k), (p, s), (p', s')). record {
        one = q;
        twins = record {
          less = k;
          room = p.listed.went.transitions.len ∙ t.room ∙ sym p'.listed.went.transitions.len;
          left = record { worked = p.listed.worked; settled = s };
          right = record { worked = p'.listed.worked; settled = s' };
        };
        left = p;
        right = p';
      })
      (follows_with (delta_law t.left l) (delta_law t.right l₃) f)

  -- nothing is worked out before where the list is stored
  enter_kept : ListKept N L σ x → enter N x σ ≡ given σ tt
  enter_kept p = entering t.left l
      (λ e. enter_sequence t.left l e ∙ ap (λ (o : Outcome Aut ℕ). placed put_aut σ (after o quit)) (at_hand (ready_of t.left.worked) (enters_first t.left l (inl e)) (p.sequence e)))
      (λ e. let (h, (n, i)) = p.star e in
      enter_star t.left l e
      ∙ ap (λ (o : Outcome Aut ℕ). placed put_aut σ (after o (λ e. on_nodes (Rel.star N e) >>= quit))) (at_hand (ready_of t.left.worked) (enters_first t.left l (inr e)) h)
      ∙ ap (λ (o : Outcome Aut ℕ). placed put_aut σ (after o quit)) (i.same σ.aut (later_refl σ.aut) t.left.worked.good))
      (λ n. enter_none t.left l n)

  abbrev ys : List ℕ
  ys = list_operands σ x

  module _ (d : ℕ) (low : nesting σ.aut x < suc d) (f : ListCalls N L d) where
    below : {σ' : Store} → ExtStore σ σ' → All (λ y. (y < states σ'.aut) × (nesting σ'.aut y < d) × (y < x)) ys
    below w = all_map ys (λ y b. (state_grown w.grown b.state, omega (arith, b.lower, nesting_grown w.grown y b.state), b.earlier)) (list_operands_below t.left.worked l)

    -- the second by the operands of the first
    works_right : count_of τ.aut.states.words x ≡ 0 → delta N L x τ ≡ after (enter N x τ) (λ u. finish_list N L ys x)
    works_right z = delta_works t.right.worked l₃ z ∙ ap (λ (zs : List ℕ). after (enter N x τ) (λ u. finish_list N L zs x)) (sym (list_operands_same t.less.knows.same x))

    -- what holds when the operands' lists are there
    module _ {σ₁ τ₁ σ₂ τ₂ : Store} (e : EnterBoth N L x σ τ σ₁ τ₁) (w : WorkedTo N L x ys σ₁ τ₁ σ₂ τ₂) where
      went : ExtStore σ σ₂
      went = went_trans e.left.went w.left

      late : Later σ.aut σ₂.aut
      late = grown_later went.grown (later_refl σ₂.aut)

      as_before : Enters σ₂.aut x → Enters σ.aut x
      as_before (inl q) = inl (sym (kind_later late x l) ∙ q)
      as_before (inr q) = inr (sym (kind_later late x l) ∙ q)

      in_second : Enters σ.aut x → Enters τ.aut x
      in_second (inl q) = inl (sym (kind_same t.less.knows.same x) ∙ q)
      in_second (inr q) = inr (sym (kind_same t.less.knows.same x) ∙ q)

      has_left : Enters σ.aut x → HasEpsilon σ₂.aut (first σ.aut x)
      has_left j = has_kept w.left.grown w.left.epsilons (state_grown e.left.went.grown (enters_first t.left l j)) (e.left.has j)

      has_right : Enters σ.aut x → HasEpsilon τ₂.aut (first σ.aut x)
      has_right j = has_kept w.right.grown w.right.epsilons (state_grown e.right.went.grown (state_same t.less.knows.same (enters_first t.left l j)))
          (subst (λ (c : ℕ). HasEpsilon τ₁.aut c) (sym (first_same t.less.knows.same x)) (e.right.has (in_second j)))

      lists_later : list_operands σ₂ x ≡ ys
      lists_later = list_operands_later t.left.worked.good late x l

      finish : Follows Never (λ σ' τ' es es'. (es ≡ es') × KnowsLists σ' τ') (after (together N L x σ₂) (keep_list x)) (after (together N L x τ₂) (keep_list x))
      finish =
          let m : x < states σ₂.aut = state_grown went.grown l in
          follows_bind
          (together_follows w.twins m
          (subst (All (λ y. 0 < count_of σ₂.aut.states.words y)) (sym lists_later) w.stored_left)
          (subst (All (λ y. 0 < count_of τ₂.aut.states.words y)) (sym lists_later) w.stored_right)
          (λ j. subst (λ (c : ℕ). HasEpsilon σ₂.aut c) (sym (first_later late x l)) (has_left (as_before j)))
          (λ j. subst (λ (c : ℕ). HasEpsilon τ₂.aut c) (sym (first_later late x l)) (has_right (as_before j))))
          (λ σ₃ τ₃ es es' (q, tw, a, b). follows_as refl (ap (λ (fs : List Edge). keep_list x fs τ₃) (sym q)) (keep_follows w.twins m σ₃ τ₃ es tw a b))

    -- neither has it
    in_step : count_of σ.aut.states.words x ≡ 0 → count_of τ.aut.states.words x ≡ 0 → Follows Never (Deltas N L x σ τ) (delta N L x σ) (delta N L x τ)
    in_step z z' = in_order (follows_as (delta_works t.left.worked l z) (works_right z')
        (follows_bind (enter_follows t l) (λ σ₁ τ₁ u v e.
        follows_bind (all_follow d f x ys σ₁ τ₁ e.twins (below e.left.went)) (λ σ₂ τ₂ u v w. finish e w))))

    -- the first has it: the second works it out again
    again : 0 < count_of σ.aut.states.words x → count_of τ.aut.states.words x ≡ 0 → Follows Never (Deltas N L x σ τ) (delta N L x σ) (delta N L x τ)
    again c z' = in_order (follows_as (delta_stored t.left.worked l c) (works_right z')
        (follows_alone (follows_as (sym (enter_kept p)) refl (enter_follows t l)) (λ τ₁ u e.
        follows_alone (follows_as (sym (work_stored t.left.worked ys stored)) refl (all_follow d f x ys σ τ₁ e.twins (below (went_refl σ)))) (λ τ₂ u w.
        follows_as refl (ap (λ (o : Outcome Store (List Edge)). after o (keep_list x)) (anew e w))
        (keep_again w.twins l c ((w.before.same x (omega arith)).0 ∙ (e.right.same x).0 ∙ z'))))))
      where
        p : ListKept N L σ x
        p = t.left.settled.lists x l c

        stored : All (λ y. (y < states σ.aut) × (0 < count_of σ.aut.states.words y)) ys
        stored = all_with ys (λ y b m. (b.state, m)) (list_operands_below t.left.worked l) p.operands

        has : Enters σ.aut x → HasEpsilon σ.aut (first σ.aut x)
        has (inl e) = p.sequence e
        has (inr e) = (p.star e).0

        anew : {τ₁ τ₂ : Store} → EnterBoth N L x σ τ σ τ₁ → WorkedTo N L x ys σ τ₁ σ τ₂ → together N L x τ₂ ≡ given τ₂ (list_at σ x)
        anew {τ₁} {τ₂} e w =
            let k : SameRecords σ.aut τ₂.aut = w.twins.less.knows.same in
            ap (placed put_aut τ₂)
            ((λ i. together_with N L (list_at τ₂) (values τ₂.aut (sym (first_same k x) i)) (sym (kind_same k x) i) x (sym (members_same k x) i) (sym (first_same k x) i) (sym (second_same k x) i) τ₂.aut)
            ∙ ap (λ (c : Step Aut (List Edge)). c τ₂.aut) (sym (same_together w.twins l w.stored_left w.stored_right has (has_right e w)))
            ∙ p.again.same τ₂.aut (same_later k) w.twins.right.worked.good)

module _ {N : ℕ} {L : Limits} where
  delta_by : (d : ℕ) → ListCalls N L d
  delta_by zero σ τ t x l m = absurd (omega arith)
  delta_by (suc d) σ τ t x l m =
      by_test (ltb 0 (count_of τ.aut.states.words x))
      (λ s'. let c' : 0 < count_of τ.aut.states.words x = ltb-true 0 _ s' in
      let c : 0 < count_of σ.aut.states.words x = t.less.lists x c' in
      in_order t x l (follows_as (delta_stored t.left.worked l c) (delta_stored t.right.worked (state_same t.less.knows.same l) c') (comes (list_one t l c c', t.less))))
      (λ s'. let z' : count_of τ.aut.states.words x ≡ 0 = omega (arith, ltb-false 0 (count_of τ.aut.states.words x) s') in
      by_test (ltb 0 (count_of σ.aut.states.words x))
      (λ s. again t x l d m (delta_by d) (ltb-true 0 _ s) z')
      (λ s. in_step t x l d m (delta_by d) (omega (arith, ltb-false 0 (count_of σ.aut.states.words x) s)) z'))

  pub delta_follows : {σ τ : Store} → TwinStores N L σ τ → (x : ℕ) → x < states σ.aut → Follows Never (Deltas N L x σ τ) (delta N L x σ) (delta N L x τ)
  delta_follows {σ} {τ} t x l = delta_by (suc (nesting σ.aut x)) σ τ t x l (omega arith)
