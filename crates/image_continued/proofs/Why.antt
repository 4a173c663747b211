-- `why` in two runs: the live sets of the same states are worked out and kept, then the rounds, each set the same; the second may lack a packet node (20), where packet nodes do not go in step. The string is the picked one of one
-- set of strings, so it is the same.
use mathlib.Core.Path.{◌≡◌, refl, sym, ap, ap₂, subst}
use mathlib.Core.Bool.{Bool, ◌&&◌}
use mathlib.Core.List.{List, [], ◌∷◌, ◌++◌, Memᴰ}
use mathlib.Core.Option.{Option, none, some}
use Prim.Native.Nat.{ℕ, zero, suc, ◌<◌}
use Rattle.common.specs.Outcome.{Step, return, ◌>>=◌}
use Rattle.netkat.specs.Strings.{Str}
use Rattle.netkat.specs.Rules.{Language}
use Rattle.netkat.specs.Lists.{State, Transition}
use Rattle.netkat_steps.specs.ListSteps.{Edge, Are, IsList}
use Rattle.netkat_paths.proofs.OrderLaws.{picked_one}
use Rattle.spp_steps.specs.ImageModel as Images
use Rattle.aut_steps.specs.Tables.{Limits}
use Rattle.aut_steps.specs.Languages.{◌≈◌}
use Rattle.aut_steps.specs.Meaning.{Holds}
use Rattle.aut_steps.specs.Wf.{states}
use Rattle.aut_steps.proofs.Wf.{state_grown}
use Rattle.aut_delta_steps.specs.Epsilon.{value_of}
use Rattle.aut_delta_steps.specs.Delta.{Store, list_at}
use Rattle.aut_delta_steps.specs.Fits.{tables as readings}
use Rattle.aut_query_steps.specs.Tables.{Tables, making_sets}
use Rattle.aut_query_steps.specs.Search.{capacity}
use Rattle.aut_query_steps.specs.Live.{live_at, Found, keep_lives}
use Rattle.aut_query_steps.specs.Explored.{Linked}
use Rattle.aut_query_steps.proofs.Steps.{ends_gives}
use Rattle.aut_query_steps.proofs.LiveLaws.{Reached, sets_ends, kept_later}
use Rattle.aut_why_steps.specs.Why.{Sets, each, same_on, ends, joins, turn, round_zero, round, rounds, most_rounds, rounds_of, why_sets, why}
use Rattle.aut_why_steps.proofs.Turns.{epsilon_means}
use Rattle.aut_why_steps.proofs.WhyLaws.{linked_ext, Chosen, why_ends}
use Rattle.aut_replay.proofs.Delta.{ready_of}
use Rattle.image_continued.specs.Follow.{Follows, comes}
use Rattle.image_continued.specs.Mode.{Mode, Allowed}
use Rattle.image_continued.proofs.Records.{state_same}
use Rattle.image_continued.proofs.Follow.{follows_map, follows_bind, follows_with, follows_as, follows_branch}
use Rattle.image_continued.proofs.Epsilon.{value_same, has_of}
use Rattle.image_continued.proofs.Delta.{epsilons_of, list_one}
use Rattle.image_continued.proofs.Tables.{TwinTables, Is, SetStep, is_on, is_zero_set, same_test, union_follow, pull_follow, bwd_follow}
use Rattle.image_continued.proofs.Settle.{OnSets, sets_refl, sets_trans, sets_of, AllIs, all_on, all_at, At, at_on}
use Rattle.image_continued.proofs.Live.{FoundIs, sets_follow}
use Rattle.image_continued.proofs.Kept.{same_strings}
use Rattle.image_continued.proofs.Packets.{kept_both}

-- ---- the picked string

chosen_one : {N : ℕ} {A B : Language N} {o o' : Option (Str N)} → B ≈ A → Chosen A o → Chosen B o' → o ≡ o'
chosen_one f (Chosen.nothing n) (Chosen.nothing m) = refl
chosen_one f (Chosen.nothing n) (Chosen.picked {w} p) = absurd (n w ((f w).0 p.held))
chosen_one f (Chosen.picked {w} p) (Chosen.nothing m) = absurd (m w ((f w).1 p.held))
chosen_one f (Chosen.picked {w} p) (Chosen.picked {w = v} q) = ap some (picked_one p (record { held = (f v).0 q.held; first = λ u b. q.first u ((f u).1 b) }))

-- ---- the rounds

module _ {N : ℕ} {L : Limits} {mode : Mode} (b c : Store) (ss : List ℕ) (left : (s : ℕ) → Memᴰ s ss → Linked b ss s) (right : (s : ℕ) → Memᴰ s ss → Linked c ss s) where
  module _ {σ τ : Tables} (a : At N L mode b c σ τ) (s : ℕ) (m : Memᴰ s ss) where
    link : Linked σ.base ss s
    link = subst (λ (d : Store). Linked d ss s) (sym a.is_left) (left s m)

    link' : Linked τ.base ss s
    link' = subst (λ (d : Store). Linked d ss s) (sym a.is_right) (right s m)

    value : value_of σ.base.aut.states.words s ≡ value_of τ.base.aut.states.words s
    value = value_same (epsilons_of a.twins.base) link.known (has_of (ready_of a.twins.base.left.worked) link.known link.has_epsilon)
        (has_of (ready_of a.twins.base.right.worked) link'.known link'.has_epsilon)

    lists : list_at σ.base s ≡ list_at τ.base s
    lists = list_one a.twins.base link.known link.marked link'.marked

    ends_follow : Follows (Allowed mode) (SetStep N L mode σ τ) (ends N s σ) (ends N s τ)
    unfolding ends
    ends_follow = follows_as refl (ap (λ (e : ℕ). making_sets (Images.bwd N e) τ) (sym value)) (bwd_follow a.twins (epsilon_means a.twins.left.worked link).den)

  joins_follow : (es : List Edge) {list : List (Transition State N)} {σ τ : Tables} → TwinTables N L mode σ τ → Are (readings N L) σ.base.aut es list → (v v' : Sets) → AllIs N mode σ τ v v' → (u u' : ℕ) → Is N mode σ τ u u'
      → Follows (Allowed mode) (λ σ' τ' h h'. OnSets N L mode σ τ σ' τ' × Is N mode σ' τ' h h') (joins N es v u σ) (joins N es v' u' τ)
  unfolding joins
  joins_follow [] t Are.none v v' f u u' i = comes (sets_refl t, i)
  joins_follow (e ∷ es) {σ = σ} {τ = τ} t (Are.also {s} {ts = ts} k d as') v v' f u u' i =
      follows_bind (pull_follow t (f s) d) (λ σ₁ τ₁ p p' q.
      let o₁ : OnSets N L mode σ τ σ₁ τ₁ = sets_of q in
      follows_bind (union_follow o₁.onward.twins (is_on o₁.onward i) q.is) (λ σ₂ τ₂ w w' r.
      let o₂ : OnSets N L mode σ τ σ₂ τ₂ = sets_trans o₁ (sets_of r) in
      follows_map (λ σ₃ τ₃ h h' (o₃, j). (sets_trans o₂ o₃, j))
      (joins_follow es o₂.onward.twins (subst (λ (b : Store). Are (readings N L) b.aut es ts) (sym o₂.base_left) as') v v' (all_on o₂.onward f) w w' r.is)))

  turn_follow : {σ τ : Tables} → At N L mode b c σ τ → (s : ℕ) → Memᴰ s ss → (v v' : Sets) → AllIs N mode σ τ v v'
      → Follows (Allowed mode) (λ σ' τ' h h'. OnSets N L mode σ τ σ' τ' × Is N mode σ' τ' h h') (turn N v s σ) (turn N v' s τ)
  unfolding turn
  turn_follow {σ} {τ} a s m v v' f = follows_bind (ends_follow a s m) (λ σ₁ τ₁ u u' p.
      let o : OnSets N L mode σ τ σ₁ τ₁ = sets_of p in
      follows_as refl (ap (λ (es : List Edge). joins N es v' u' τ₁) (sym (lists a s m)))
      (follows_map (λ σ₂ τ₂ h h' (o₂, j). (sets_trans o o₂, j))
      (joins_follow (list_at σ.base s) o.onward.twins
      (subst (λ (b : Store). Are (readings N L) b.aut (list_at σ.base s) is_list.list) (sym o.base_left) is_list.are)
      v v' (all_on o.onward f) u u' p.is)))
    where
      is_list : IsList (readings N L) (Holds N σ.base.aut s) σ.base.aut (list_at σ.base s)
      is_list = (a.twins.left.worked.lists.held s (link a s m).known).list (link a s m).marked

  -- for each state in turn, a step that gives one set in both, as long as K holds
  each_follow : {f f' : ℕ → Step Tables ℕ} (K : Tables → Tables → Type 0) → ((σ τ σ' τ' : Tables) → OnSets N L mode σ τ σ' τ' → K σ τ → K σ' τ')
      → ((σ τ : Tables) → At N L mode b c σ τ → K σ τ → (s : ℕ) → Memᴰ s ss → Follows (Allowed mode) (λ σ' τ' h h'. OnSets N L mode σ τ σ' τ' × Is N mode σ' τ' h h') (f s σ) (f' s τ))
      → (zs : List ℕ) → ((s : ℕ) → Memᴰ s zs → Memᴰ s ss) → {σ τ : Tables} → At N L mode b c σ τ → K σ τ → (w w' : Sets) → AllIs N mode σ τ w w'
      → Follows (Allowed mode) (λ σ' τ' v v'. OnSets N L mode σ τ σ' τ' × AllIs N mode σ' τ' v v') (each f zs w σ) (each f' zs w' τ)
  unfolding each
  each_follow K on g [] h a k w w' i = comes (sets_refl a.twins, i)
  each_follow K on g (s ∷ zs) h {σ} {τ} a k w w' i = follows_bind (g σ τ a k s (h s (Memᴰ.head refl))) (λ σ₁ τ₁ u u' (o, j).
      follows_map (λ σ₂ τ₂ v v' (o₂, q). (sets_trans o o₂, q))
      (each_follow K on g zs (λ z m. h z (Memᴰ.tail m)) (at_on a o) (on σ τ σ₁ τ₁ o k) (live_at s u w) (live_at s u' w') (all_at s u u' w w' j (all_on o.onward i))))

  round_zero_follow : {σ τ : Tables} → At N L mode b c σ τ → Follows (Allowed mode) (λ σ' τ' v v'. OnSets N L mode σ τ σ' τ' × AllIs N mode σ' τ' v v') (round_zero N ss σ) (round_zero N ss τ)
  round_zero_follow a = each_follow (λ σ τ. Unit {0}) (λ σ τ σ' τ' o k. tt) (λ σ τ a k s m. follows_map (λ σ' τ' h h' p. (sets_of p, p.is)) (ends_follow a s m)) ss (λ s m. m) a tt _ _ (λ t. is_zero_set a.twins)

  round_follow : {σ τ : Tables} → At N L mode b c σ τ → (v v' : Sets) → AllIs N mode σ τ v v' → Follows (Allowed mode) (λ σ' τ' w w'. OnSets N L mode σ τ σ' τ' × AllIs N mode σ' τ' w w') (round N ss v σ) (round N ss v' τ)
  round_follow a v v' f = each_follow (λ σ τ. AllIs N mode σ τ v v') (λ σ τ σ' τ' o k. all_on o.onward k) (λ σ τ a k s m. turn_follow a s m v v' k) ss (λ s m. m) a f v v' f

  same_on_lem : {σ τ : Tables} → TwinTables N L mode σ τ → (zs : List ℕ) {v v' w w' : Sets} → AllIs N mode σ τ v v' → AllIs N mode σ τ w w' → same_on zs v w ≡ same_on zs v' w'
  unfolding same_on
  same_on_lem t [] f g = refl
  same_on_lem t (s ∷ zs) f g = ap₂ (λ (x y : Bool). x && y) (same_test t (f s) (g s)) (same_on_lem t zs f g)

  rounds_follow : (most : ℕ) {σ τ : Tables} → At N L mode b c σ τ → (done done' : List Sets) (v v' : Sets) → AllIs N mode σ τ v v'
      → Follows (Allowed mode) (λ σ' τ' ws ws'. OnSets N L mode σ τ σ' τ') (rounds N most ss done v σ) (rounds N most ss done' v' τ)
  unfolding rounds
  rounds_follow zero a done done' v v' f = comes (sets_refl a.twins)
  rounds_follow (suc most) {σ} {τ} a done done' v v' f =
      follows_bind (round_follow a v v' f) (λ σ₁ τ₁ w w' (o, g).
      follows_branch _ _ _ _ σ₁ τ₁ (same_on_lem o.onward.twins ss (all_on o.onward f) g)
      (λ q. comes o)
      (λ q. follows_map (λ σ₂ τ₂ ws ws' o₂. sets_trans o o₂) (rounds_follow most (at_on a o) (done ++ v ∷ []) (done' ++ v' ∷ []) w w' g)))

-- ---- why

module _ {N : ℕ} {L : Limits} (lent : ℕ) {mode : Mode} {σ τ : Tables} (t : TwinTables N L mode σ τ) {x : ℕ} (k : x < states σ.base.aut) where
  k' : x < states τ.base.aut
  k' = state_same t.base.less.knows.same k

  rounds_of_follow : {σ₁ τ₁ : Tables} {f f' : Found} → FoundIs N L mode σ τ σ₁ τ₁ f f' → Reached N L (capacity lent) x σ σ₁ f → Reached N L (capacity lent) x τ τ₁ f'
      → Follows (Allowed mode) (λ σ' τ' r r'. TwinTables N L mode σ' τ') (rounds_of N L lent f σ₁) (rounds_of N L lent f' τ₁)
  unfolding rounds_of
  rounds_of_follow {σ₁} {τ₁} {f} {f'} p R R' =
      follows_as refl (λ d. (round_zero N (sym p.states d) >>= rounds N (most_rounds N (sym p.states d)) (sym p.states d) [] >>= λ ws. return (record { states = sym p.states d; sets = ws })) ω')
      (follows_bind (follows_bind {Q = λ σ₃ τ₃ ws ws'. TwinTables N L mode σ₃ τ₃} (round_zero_follow ω.base ω'.base f.states left right (record { twins = s; is_left = refl; is_right = refl })) (λ σ₂ τ₂ v v' (o, i).
      follows_map (λ σ₃ τ₃ ws ws' o₃. o₃.onward.twins) (rounds_follow ω.base ω'.base f.states left right (most_rounds N f.states) (at_on (record { twins = s; is_left = refl; is_right = refl }) o) [] [] v v' i)))
      (λ σ₃ τ₃ ws ws' s₃. comes s₃))
    where
      ω : Tables
      ω = keep_lives f.states f.live σ₁

      ω' : Tables
      ω' = keep_lives f'.states f'.live τ₁

      s : TwinTables N L mode ω ω'
      s = kept_both p R R'

      left : (i : ℕ) → Memᴰ i f.states → Linked ω.base f.states i
      left i m = linked_ext R.ordered.worked (kept_later σ₁ f.states f.live R.ordered R.links R.lives) (R.links i m)

      right : (i : ℕ) → Memᴰ i f.states → Linked ω'.base f.states i
      right i m =
          subst (λ (ss : List ℕ). Linked ω'.base ss i) (sym p.states)
          (linked_ext R'.ordered.worked (kept_later τ₁ f'.states f'.live R'.ordered R'.links R'.lives) (R'.links i (subst (Memᴰ i) p.states m)))

  both : Follows (Allowed mode) (λ σ' τ' o o'. TwinTables N L mode σ' τ') (why N L lent x σ) (why N L lent x τ)
  unfolding why why_sets
  both = follows_bind (follows_bind (follows_with (ends_gives (sets_ends lent t.left k)) (ends_gives (sets_ends lent t.right k')) (sets_follow lent t x k)) (λ σ₁ τ₁ f f' (p, R, R'). rounds_of_follow p R R'))
      (λ σ₂ τ₂ r r' s. comes s)

  pub why_follows : Follows (Allowed mode) (λ σ' τ' o o'. (o ≡ o') × TwinTables N L mode σ' τ') (why N L lent x σ) (why N L lent x τ)
  why_follows = follows_map (λ σ' τ' o o' (s, p, p'). (chosen_one (same_strings s (state_grown p.later.grown k)) p.chosen p'.chosen, s))
      (follows_with (ends_gives (why_ends lent t.left k)) (ends_gives (why_ends lent t.right k')) both)
