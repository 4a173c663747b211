-- `is_empty` in two runs: the second takes the same pairs, state by state and set by set, and comes to the same verdict and count; or it lacks a packet node (20), where packet nodes do not go in step.
use Rattle.std.specs.Prelude.{if◌then◌else◌}
use mathlib.Core.Path.{◌≡◌, refl, sym, ◌∙◌, ap, subst}
use mathlib.Core.Bool.{Bool, true, false}
use mathlib.Core.List.{List, [], ◌∷◌, map}
use Prim.Native.Nat.{ℕ, zero, suc, ◌<◌}
use lib.Dec.{eqb, ltb}
use lib.ListN.{length}
use Rattle.common.specs.Outcome.{return, ◌>>=◌}
use Rattle.netkat.specs.Lists.{State, Transition}
use Rattle.netkat_steps.specs.ListSteps.{Edge, Are}
use Rattle.netkat_steps.specs.Handles as Handles
use Rattle.netkat_steps.specs.Handles.{Link, Entry, Alike, none, also, Turn, goes, found}
use Rattle.sp_steps.specs.Model as Sp
use Rattle.spp_steps.specs.ImageModel as Images
use Rattle.aut_steps.specs.Tables.{Limits}
use Rattle.aut_steps.specs.Wf.{states}
use Rattle.aut_steps.proofs.Wf.{state_grown}
use Rattle.aut_delta_steps.specs.Delta.{Store}
use Rattle.aut_delta_steps.specs.Fits.{tables as readings}
use Rattle.aut_query_steps.specs.Tables.{Tables, diagrams}
use Rattle.aut_query_steps.specs.Search.{capacity, link, machine, is_empty}
use Rattle.image_continued.specs.Follow.{Follows, stops, comes}
use Rattle.image_continued.specs.Mode.{Mode, Allowed}
use Rattle.image_continued.proofs.Follow.{follows_map, follows_bind, follows_as, follows_branch}
use Rattle.image_continued.proofs.Tables.{TwinTables, OnTables, Is, on_refl, on_trans, is_on, is_zero_set, is_all, same_zero, same_image, union_follow, difference_follow, push_follow, epsilon_tables, delta_tables}

-- ---- what the two searches have

-- an entry in both: one state, and one set
record EntryIs (N : ℕ) (mode : Mode) (σ τ : Tables) (e e' : Entry ℕ) : Type 0 where
  state : e.state ≡ e'.state
  known : e.state < states σ.base.aut
  packets : Is N mode σ τ e.packets e'.packets

abbrev Entries : (N : ℕ) (mode : Mode) → Tables → Tables → List (Entry ℕ) → List (Entry ℕ) → Type 0
Entries N mode σ τ = Alike (EntryIs N mode σ τ)

abbrev Seen : (N : ℕ) (mode : Mode) → Tables → Tables → (State → ℕ) → (State → ℕ) → Type 0
Seen N mode σ τ seen seen' = (t : State) → Is N mode σ τ (seen t) (seen' t)

entries_length : {A B : Type 0} {R : A → B → Type 0} {l : List A} {m : List B} → Alike R l m → length l ≡ length m
entries_length none = refl
entries_length (also p r) = ap suc (entries_length r)

alike_map : {A B : Type 0} {R Q : A → B → Type 0} {l : List A} {m : List B} → ((a : A) (b : B) → R a b → Q a b) → Alike R l m → Alike Q l m
alike_map f none = none
alike_map f (also {a} {b} p r) = also (f a b p) (alike_map f r)

module _ {N : ℕ} {L : Limits} {mode : Mode} {σ τ σ' τ' : Tables} (o : OnTables N L mode σ τ σ' τ') where
  entries_on : {es es' : List (Entry ℕ)} → Entries N mode σ τ es es' → Entries N mode σ' τ' es es'
  entries_on r = alike_map (λ e e' p. record { state = p.state; known = state_grown o.left.went.grown p.known; packets = is_on o p.packets }) r

  seen_on : {seen seen' : State → ℕ} → Seen N mode σ τ seen seen' → Seen N mode σ' τ' seen seen'
  seen_on f t = is_on o (f t)

module _ (N : ℕ) (L : Limits) (lent : ℕ) (mode : Mode) where
  abbrev M : Handles.Machine
  M = machine N L lent

  -- what a turn comes to
  data TurnIs (σ τ : Tables) : Turn M → Turn M → Type 0 where
    both_go : {es es' : List (Entry ℕ)} {seen seen' : State → ℕ} → Entries N mode σ τ es es' → Seen N mode σ τ seen seen' → TurnIs σ τ (goes es seen) (goes es' seen')
    both_find : TurnIs σ τ found found

  -- ---- the walk along a list

  put_follow : {Q : Tables → Tables → List (Entry ℕ) → List (Entry ℕ) → Type 0} (σ τ : Tables) (s h h' : ℕ) {es es' : List (Entry ℕ)} → Entries N mode σ τ es es'
      → Q σ τ (record { state = s; packets = h } ∷ es) (record { state = s; packets = h' } ∷ es') → Follows (Allowed mode) Q (Handles.put M s h es σ) (Handles.put M s h' es' τ)
  put_follow σ τ s h h' r q = follows_branch _ _ _ _ σ τ (ap (λ (n : ℕ). ltb n (capacity lent)) (entries_length r)) (λ e. comes q) (λ e. stops)

  walk_follow : (es : List Edge) {list : List (Transition State N)} {σ τ : Tables} → TwinTables N L mode σ τ → Are (readings N L) σ.base.aut es list → (h h' : ℕ) → Is N mode σ τ h h'
      → (ps ps' : List (Entry ℕ)) → Entries N mode σ τ ps ps'
      → Follows (Allowed mode) (λ σ' τ' fs fs'. OnTables N L mode σ τ σ' τ' × Entries N mode σ' τ' fs fs') (Handles.walk M h (map link es) ps σ) (Handles.walk M h' (map link es) ps' τ)
  unfolding Handles.walk
  walk_follow [] t Are.none h h' i ps ps' r = comes (on_refl t, r)
  walk_follow (e ∷ es) {σ = σ} {τ = τ} t (Are.also {s} {l} {ts = ts} k d as') h h' i ps ps' r =
      follows_bind (push_follow t i d) (λ σ₁ τ₁ next next' p.
      let o : OnTables N L mode σ τ σ₁ τ₁ = p.onward in
      let as₁ : Are (readings N L) σ₁.base.aut es ts = subst (λ (b : Store). Are (readings N L) b.aut es ts) (sym p.base_left) as' in
      follows_bind {P = λ σ' τ' fs fs'. OnTables N L mode σ₁ τ₁ σ' τ' × Entries N mode σ' τ' fs fs' × Are (readings N L) σ'.base.aut es ts}
      (follows_branch _ _ _ _ σ₁ τ₁ (same_zero o.twins p.is)
      (λ q. comes (on_refl o.twins, entries_on o r, as₁))
      (λ q. put_follow σ₁ τ₁ s next next' (entries_on o r) (on_refl o.twins, also (record { state = refl; known = state_grown o.left.went.grown k; packets = p.is }) (entries_on o r), as₁)))
      (λ σ₂ τ₂ fs fs' (o₂, r₂, as₂).
      follows_map (λ σ₃ τ₃ gs gs' (o₃, r₃). (on_trans (on_trans o o₂) o₃, r₃)) (walk_follow es o₂.twins as₂ h h' (is_on (on_trans o o₂) i) fs fs' r₂)))

  -- ---- a turn

  seen_at_lem : {σ τ : Tables} (s : State) (h h' : ℕ) (seen seen' : State → ℕ) → Is N mode σ τ h h' → Seen N mode σ τ seen seen' → Seen N mode σ τ (λ t. if eqb s t then h else seen t) (λ t. if eqb s t then h' else seen' t)
  seen_at_lem {σ} {τ} s h h' seen seen' i f t = go (eqb s t)
    where
      go : (b : Bool) → Is N mode σ τ (if b then h else seen t) (if b then h' else seen' t)
      go true = i
      go false = f t

  -- the list, and the walk along it
  rest_follow : {σ τ : Tables} → TwinTables N L mode σ τ → (s : State) → s < states σ.base.aut → {h h' : ℕ} → Is N mode σ τ h h' → {es es' : List (Entry ℕ)} → Entries N mode σ τ es es'
      → {seen seen' : State → ℕ} → Seen N mode σ τ seen seen'
      → Follows (Allowed mode) (λ σ' τ' a b. OnTables N L mode σ τ σ' τ' × TurnIs σ' τ' a b)
      ((M.delta s >>= λ list. Handles.walk M h list es >>= λ pending. return (goes pending seen)) σ) ((M.delta s >>= λ list. Handles.walk M h' list es' >>= λ pending. return (goes pending seen')) τ)
  rest_follow {σ} {τ} t s k {h} {h'} i {es} {es'} r {seen} {seen'} f = follows_bind links (λ σ₁ τ₁ ls ls' (fs, list, a, b, o, as').
      follows_as (ap (λ (ls : List (Link ℕ)). (Handles.walk M h ls es >>= λ pending. return (goes pending seen)) σ₁) a) (ap (λ (ls : List (Link ℕ)). (Handles.walk M h' ls es' >>= λ pending. return (goes pending seen')) τ₁) b)
      (follows_bind (walk_follow fs o.twins as' h h' (is_on o i) es es' (entries_on o r)) (λ σ₂ τ₂ gs gs' (o₂, r₂). comes (on_trans o o₂, both_go r₂ (seen_on (on_trans o o₂) f)))))
    where
      links : Follows (Allowed mode)
          (λ σ₁ τ₁ ls ls'. (fs : List Edge) × (list : List (Transition State N)) × (ls ≡ map link fs) × (ls' ≡ map link fs) × OnTables N L mode σ τ σ₁ τ₁ × Are (readings N L) σ₁.base.aut fs list)
          (M.delta s σ) (M.delta s τ)
      links = follows_bind (delta_tables t s k) (λ σ₁ τ₁ fs fs' d. comes (fs, d.list.list, refl, ap (map link) (sym d.one), d.onward, d.list.are))

  expand_follow : {σ τ : Tables} → TwinTables N L mode σ τ → (s : State) → s < states σ.base.aut → {h h' : ℕ} → Is N mode σ τ h h' → {es es' : List (Entry ℕ)} → Entries N mode σ τ es es'
      → {seen seen' : State → ℕ} → Seen N mode σ τ seen seen'
      → Follows (Allowed mode) (λ σ' τ' a b. OnTables N L mode σ τ σ' τ' × TurnIs σ' τ' a b) (Handles.expand M s h es seen σ) (Handles.expand M s h' es' seen' τ)
  unfolding Handles.expand
  expand_follow {σ} {τ} t s k {h} {h'} i {es} {es'} r {seen} {seen'} f =
      follows_bind (union_follow t (f s) i) (λ σ₁ τ₁ both both' p.
      let o₁ : OnTables N L mode σ τ σ₁ τ₁ = p.onward in
      follows_bind (epsilon_tables o₁.twins s (state_grown o₁.left.went.grown k)) (λ σ₂ τ₂ e e' q.
      let o₂ : OnTables N L mode σ τ σ₂ τ₂ = on_trans o₁ q.onward in
      follows_branch _ _ _ _ σ₂ τ₂ (same_image o₂.twins (is_on o₂ i) q.means.den ∙ ap (λ (c : ℕ). Images.has_image N N h' c (diagrams τ₂)) q.one)
      (λ _. comes (o₂, both_find))
      (λ _. follows_map (λ σ₃ τ₃ a b (o₃, z). (on_trans o₂ o₃, z))
      (rest_follow o₂.twins s (state_grown o₂.left.went.grown k) (is_on o₂ i) (entries_on o₂ r) (seen_at_lem s both both' seen seen' (is_on q.onward p.is) (seen_on o₂ f))))))

  turn_follow : {σ τ : Tables} → TwinTables N L mode σ τ → {e e' : Entry ℕ} → EntryIs N mode σ τ e e' → {es es' : List (Entry ℕ)} → Entries N mode σ τ es es' → {seen seen' : State → ℕ} → Seen N mode σ τ seen seen'
      → Follows (Allowed mode) (λ σ' τ' a b. OnTables N L mode σ τ σ' τ' × TurnIs σ' τ' a b) (Handles.turn M e es seen σ) (Handles.turn M e' es' seen' τ)
  unfolding Handles.turn
  turn_follow {σ} {τ} t {e} {e'} p {es} {es'} r {seen} {seen'} f =
      follows_as refl (ap (λ (s : State). (M.difference e'.packets (seen' s) >>= λ fresh. M.is_zero fresh >>= λ z. if z then return (goes es' seen') else Handles.expand M s fresh es' seen') τ) (sym p.state))
      (follows_bind (difference_follow t p.packets (f e.state)) (λ σ₁ τ₁ fresh fresh' q.
      let o : OnTables N L mode σ τ σ₁ τ₁ = q.onward in
      follows_branch _ _ _ _ σ₁ τ₁ (same_zero o.twins q.is)
      (λ _. comes (o, both_go (entries_on o r) (seen_on o f)))
      (λ _. follows_map (λ σ₂ τ₂ a b (o₂, z). (on_trans o o₂, z)) (expand_follow o.twins e.state (state_grown o.left.went.grown p.known) q.is (entries_on o r) (seen_on o f)))))

  -- ---- a run

  run_follow : (left : ℕ) {σ τ : Tables} → TwinTables N L mode σ τ → {es es' : List (Entry ℕ)} → Entries N mode σ τ es es' → {seen seen' : State → ℕ} → Seen N mode σ τ seen seen' → (count : ℕ)
      → Follows (Allowed mode) (λ σ' τ' v v'. (v ≡ v') × OnTables N L mode σ τ σ' τ') (Handles.run M left es seen count σ) (Handles.run M left es' seen' count τ)
  unfolding Handles.run
  run_follow zero t none f count = comes (refl, on_refl t)
  run_follow zero t (also p r) f count = comes (refl, on_refl t)
  run_follow (suc left) t none f count = comes (refl, on_refl t)
  run_follow (suc left) {σ} {τ} t (also p r) f count = follows_bind (turn_follow t p r f) (λ σ₁ τ₁ a b (o, z).
      follows_map (λ σ₂ τ₂ v v' (q, o₂). (q, on_trans o o₂)) (go o.twins z (λ es₁ es₁' r₁ seen₁ seen₁' f₁. run_follow left o.twins r₁ f₁ (suc count))))
    where
      go : {σ₁ τ₁ : Tables} → TwinTables N L mode σ₁ τ₁ → {a b : Turn M} → TurnIs σ₁ τ₁ a b
          → ((es es' : List (Entry ℕ)) → Entries N mode σ₁ τ₁ es es' → (seen seen' : State → ℕ) → Seen N mode σ₁ τ₁ seen seen'
          → Follows (Allowed mode) (λ σ' τ' v v'. (v ≡ v') × OnTables N L mode σ₁ τ₁ σ' τ') (Handles.run M left es seen (suc count) σ₁) (Handles.run M left es' seen' (suc count) τ₁))
          → Follows (Allowed mode) (λ σ' τ' v v'. (v ≡ v') × OnTables N L mode σ₁ τ₁ σ' τ')
          (Handles.onward M (λ pending seen. Handles.run M left pending seen (suc count)) (suc count) a σ₁) (Handles.onward M (λ pending seen. Handles.run M left pending seen (suc count)) (suc count) b τ₁)
      go t₁ (both_go {es} {es'} {seen} {seen'} r₁ f₁) rec = rec es es' r₁ seen seen' f₁
      go t₁ both_find rec = comes (refl, on_refl t₁)

  pub empty_follows : (budget s : ℕ) {σ τ : Tables} → TwinTables N L mode σ τ → s < states σ.base.aut
      → Follows (Allowed mode) (λ σ' τ' v v'. (v ≡ v') × OnTables N L mode σ τ σ' τ') (is_empty N L lent budget s σ) (is_empty N L lent budget s τ)
  unfolding is_empty Handles.search
  empty_follows budget s {σ} {τ} t k = follows_bind {P = λ σ' τ' es es'. OnTables N L mode σ τ σ' τ' × Entries N mode σ' τ' es es'}
      (put_follow σ τ s (Sp.one_at N) (Sp.one_at N) none (on_refl t, also (record { state = refl; known = k; packets = is_all t }) none))
      (λ σ₁ τ₁ es es' (o, r). follows_map (λ σ₂ τ₂ v v' (q, o₂). (q, on_trans o o₂)) (run_follow budget o.twins r (λ u. is_zero_set o.twins) 0))
