-- The second run works out live sets that the first has stored. Each state that it reaches has its epsilon, list and live set stored in the first, so epsilon and delta go as before; it is refused only where it lacks a packet node
-- (20) or a pending entry (24): "unless working out live sets again makes it meet 20 or 24".
use Rattle.std.specs.Prelude.{if◌then◌else◌}
use mathlib.Core.Path.{◌≡◌, refl, sym, ◌∙◌, ap, subst}
use mathlib.Core.Logic.{⊎_elim}
use mathlib.Core.Bool.{Bool, true, false}
use mathlib.Core.List.Memᴰ
use mathlib.Core.List.{List, [], ◌∷◌, ◌++◌, reverse, Memᴰ}
use Prim.Native.Nat.{ℕ, zero, suc, ◌<◌}
use native.Mathlib.Omega.{arith}
use lib.Dec.{eqb, ltb}
use lib.ListN.{length}
use borrow.Author.Tests.{ltb-true}
use Rattle.common.specs.Packets.{Set, Relation, any}
use Rattle.common.specs.Outcome.{Outcome, refused, given, Step, return, ◌>>=◌, Gives, refusal, gives}
use Rattle.common.specs.Runs as Runs
use Rattle.common.specs.Runs.{Table, placed}
use Rattle.netkat_steps.specs.ListSteps.{Edge}
use Rattle.sp_steps.specs.Model as Sp
use Rattle.sp_steps.specs.Wf as SpLaws
use Rattle.sp_steps.proofs.Laws as SpLawsProofs
use Rattle.sp_steps.proofs.Sets as SpSets
use Rattle.sp_steps.proofs.Refused as SpRefused
use Rattle.spp_steps.specs.Wf.{Denotes}
use Rattle.spp_steps.proofs.Relations.{domain}
use Rattle.spp_steps.proofs.Exact.{Exact, Stops, stuck}
use Rattle.spp_steps.specs.ImageModel as Images
use Rattle.spp_steps.specs.ImageModel.{Stores}
use Rattle.spp_steps.proofs.Images.{both_theory, set_limits, pull_exact, bwd_exact}
use Rattle.aut_steps.specs.Tables.{Limits, Aut}
use Rattle.aut_steps.specs.Wf.{states}
use Rattle.aut_delta_steps.specs.Epsilon.{epsilon}
use Rattle.aut_delta_steps.specs.Delta.{count_of, Store, put_aut, on_aut, list_at, delta}
use Rattle.aut_delta_steps.proofs.DeltaReads.{delta_stored}
use Rattle.aut_query_steps.specs.Tables.{Tables, diagrams, put_sets, put_base, on_sets, on_base, making_sets, live_of}
use Rattle.aut_query_steps.proofs.Tables.{both_wf, Gone}
use Rattle.aut_query_steps.proofs.Steps.{gone_refl, gone_trans, gone_sets, ordered_sets, ends_gives}
use Rattle.aut_query_steps.specs.Search.{capacity}
use Rattle.aut_query_steps.specs.Live as Live
use Rattle.aut_query_steps.specs.Live.{live_at, Found, Visit, enqueue, visit, explore, Work, work, Label, by, none, label_to, enlarge, pull_back, pull_from, pull_all, settle, takes, live_sets}
use Rattle.aut_query_steps.proofs.ExploreLaws.{Exploring, visit_ends, explore_ends}
use Rattle.aut_query_steps.proofs.LiveLaws.{begins}
use Rattle.aut_replay.specs.Replay.{values, HasEpsilon}
use Rattle.aut_replay.proofs.Delta.{ready_of}
use Rattle.image_continued.specs.Follow.{Follows, lacks, comes}
use Rattle.image_continued.specs.Mode.{Mode, InStep, Allowed, no_node, no_entry}
use Rattle.image_continued.proofs.Follow.{follows_map, follows_alone, follows_right, follows_as, follows_test}
use Rattle.image_continued.proofs.Epsilon.{at_hand, has_of}
use Rattle.image_continued.proofs.Tables.{TwinTables, label_right, epsilon_tables, delta_tables}
use Rattle.image_continued.proofs.Settle.{label_at}

-- the second has come so far, the first not
pub record Alone (N : ℕ) (L : Limits) (mode : Mode) (σ τ τ' : Tables) : Type 0 where
  pub twins : TwinTables N L mode σ τ'
  pub right : Gone τ τ'

-- .. with packet nodes alone
record AloneSets (N : ℕ) (L : Limits) (mode : Mode) (σ τ τ' : Tables) : Type 0 where
  twins : TwinTables N L mode σ τ'
  right : Gone τ τ'
  base : τ'.base ≡ τ.base

-- .. and a handle was made
record AloneStep (N : ℕ) (L : Limits) (mode : Mode) (σ τ τ' : Tables) (h : ℕ) : Type 0 where
  sets : AloneSets N L mode σ τ τ'
  at : SpLaws.ValidAt τ'.sets N h

sets_refl : {N : ℕ} {L : Limits} {mode : Mode} {σ τ : Tables} → TwinTables N L mode σ τ → AloneSets N L mode σ τ τ
sets_refl {τ = τ} t = record { twins = t; right = gone_refl τ; base = refl }

sets_trans : {N : ℕ} {L : Limits} {mode : Mode} {σ τ τ' τ'' : Tables} → AloneSets N L mode σ τ τ' → AloneSets N L mode σ τ' τ'' → AloneSets N L mode σ τ τ''
sets_trans p q = record { twins = q.twins; right = gone_trans p.right q.right; base = q.base ∙ p.base }

module _ {N : ℕ} {L : Limits} {mode : Mode} (loose : InStep mode → ⊥) {σ τ : Tables} (t : TwinTables N L mode σ τ) where
  -- ---- steps that make packet nodes

  made_alone : {S : Type 0} (get : S → Table) (o : Outcome S ℕ) → Gives (λ s h. SpLaws.Ext τ.sets (get s) × SpLaws.Wf N (get s) × SpLaws.ValidAt (get s) N h) o → ((number : ℕ) → o ≡ refused number → number ≡ 20)
      → Follows (Allowed mode) (λ σ' τ' (u : Unit {0}) h. AloneStep N L mode σ τ τ' h) (given σ tt) (placed (λ s σ. put_sets (get s) σ) τ o)
  made_alone get (refused number) g f = subst (λ (k : ℕ). Follows (Allowed mode) (λ σ' τ' (u : Unit {0}) h. AloneStep N L mode σ τ τ' h) (given σ tt) (refused k)) (sym (f number refl)) (lacks (no_node loose))
  made_alone get (given s h) (gives (e, w, i)) f = comes (record {
    sets = record {
      twins = record { base = t.base; left = t.left; right = ordered_sets t.right e w; lives = t.lives; sets = λ q. absurd (loose q); words = t.words; all = t.all };
      right = gone_sets e;
      base = refl;
    };
    at = i;
  })

  union_alone : (g h : ℕ) → SpLaws.ValidAt τ.sets N g → SpLaws.ValidAt τ.sets N h → Follows (Allowed mode) (λ σ' τ' (u : Unit {0}) h. AloneStep N L mode σ τ τ' h) (given σ tt) (on_sets (Sp.union N g h) τ)
  union_alone g h i j = made_alone (λ u. u) (Sp.union N g h τ.sets)
      (go (SpSets.union_runs N N (omega arith) τ.sets g h _ _ t.right.sets (SpLawsProofs.den_mem i) (SpLawsProofs.den_mem j)))
      (λ number q. (SpRefused.stops_number (SpRefused.union_stops N N (omega arith) τ.sets g h _ _ t.right.sets (SpLawsProofs.den_mem i) (SpLawsProofs.den_mem j)) number q).0)
    where
      go : {d : Step Table ℕ} {X : Set N} {o : Outcome Table ℕ} → Gives (Runs.StableResult (SpLawsProofs.sp_theory N) d (λ u h. SpLaws.Denotes u N h X) τ.sets) o
          → Gives (λ s h. SpLaws.Ext τ.sets s × SpLaws.Wf N s × SpLaws.ValidAt s N h) o
      go refusal = refusal
      go (gives r) = gives (r.ext, r.wf, r.holds.at)

  images_alone : (X : Set N) (c : Step Stores ℕ) → Exact (set_limits N) c (λ s h. SpLaws.Denotes s.sp N h X) (diagrams τ) → Follows (Allowed mode) (λ σ' τ' (u : Unit {0}) h. AloneStep N L mode σ τ τ' h) (given σ tt) (making_sets c τ)
  images_alone X c x = made_alone (λ s. s.sp) (c (diagrams τ)) (go x.runs) (λ number q. number_of (subst (Stops (set_limits N) (diagrams τ)) q x.stops))
    where
      go : {d : Step Stores ℕ} {o : Outcome Stores ℕ} → Gives (Runs.StableResult (both_theory N) d (λ s h. SpLaws.Denotes s.sp N h X) (diagrams τ)) o
          → Gives (λ s h. SpLaws.Ext τ.sets s.sp × SpLaws.Wf N s.sp × SpLaws.ValidAt s.sp N h) o
      go refusal = refusal
      go (gives r) = gives (r.ext.sp_ext, r.wf.sp_wf, r.holds.at)

      number_of : {u : Stores} {number : ℕ} → Stops (set_limits N) {A = ℕ} u (refused number) → number ≡ 20
      number_of (stuck a b y) = y.number_is

-- ---- the work list

-- handles of the second's sets
abbrev Valid : ℕ → Tables → (ℕ → ℕ) → Type 0
Valid N τ v = (u : ℕ) → SpLaws.ValidAt τ.sets N (v u)

valid_on : (N : ℕ) {τ τ' : Tables} (v : ℕ → ℕ) → Gone τ τ' → Valid N τ v → Valid N τ' v
valid_on N v g f u = SpLawsProofs.at_ext g.sets N (v u) (f u)

valid_at : (N : ℕ) (τ : Tables) (s h : ℕ) (v : ℕ → ℕ) → SpLaws.ValidAt τ.sets N h → Valid N τ v → Valid N τ (live_at s h v)
valid_at N τ s h v i f u = go (eqb s u)
  where
    go : (b : Bool) → SpLaws.ValidAt τ.sets N (if b then h else v u)
    go true = i
    go false = f u

module _ {N : ℕ} {L : Limits} (lent : ℕ) {mode : Mode} (loose : InStep mode → ⊥) {σ : Tables} where
  enlarge_alone : {τ : Tables} → TwinTables N L mode σ τ → (s h : ℕ) → SpLaws.ValidAt τ.sets N h → (w : Work) → Valid N τ w.live
      → Follows (Allowed mode) (λ σ' τ' (u : Unit {0}) (w' : Work). AloneSets N L mode σ τ τ' × Valid N τ' w'.live) (given σ tt) (enlarge (capacity lent) s h w τ)
  unfolding enlarge
  enlarge_alone {τ} t s h i w f = follows_test (eqb h (w.live s)) _ _ τ
      (λ q. comes (sets_refl t, f))
      (λ q. follows_test (ltb (length w.todo) (capacity lent)) _ _ τ
      (λ q. comes (sets_refl t, valid_at N τ s h w.live i f))
      (λ q. lacks (no_entry loose)))

  pull_back_alone : {τ : Tables} → TwinTables N L mode σ τ → (u s l : ℕ) {R : Relation N} → Denotes τ.base.aut.nodes N l R → (w : Work) → Valid N τ w.live
      → Follows (Allowed mode) (λ σ' τ' (z : Unit {0}) (w' : Work). AloneSets N L mode σ τ τ' × Valid N τ' w'.live) (given σ tt) (pull_back N L lent u s l w τ)
  unfolding pull_back
  pull_back_alone {τ} t u s l {R} d w f =
      follows_alone (images_alone loose t _ (Images.pull N N l (w.live u)) (pull_exact N N (omega arith) (diagrams τ) (w.live u) l _ R (both_wf t.right) (SpLawsProofs.den_mem (f u)) d)) (λ τ₁ p q.
      let f₁ : Valid N τ₁ w.live = valid_on N w.live q.sets.right f in
      follows_alone (union_alone loose q.sets.twins (w.live s) p (f₁ s) q.at) (λ τ₂ c r.
      let o : AloneSets N L mode σ τ τ₂ = sets_trans q.sets r.sets in
      follows_map (λ σ₃ τ₃ z w' (o₃, g). (sets_trans o o₃, g)) (enlarge_alone o.twins s c r.at w (valid_on N w.live o.right f))))

  -- the states reached: their lists are stored
  module _ (c : Store) (ss : List ℕ) (known : (s : ℕ) → Memᴰ s ss → s < states c.aut) (stored : (s : ℕ) → Memᴰ s ss → 0 < count_of c.aut.states.words s) where
    pull_from_alone : {τ : Tables} → TwinTables N L mode σ τ → τ.base ≡ c → (u s : ℕ) → Memᴰ s ss → (w : Work) → Valid N τ w.live
        → Follows (Allowed mode) (λ σ' τ' (z : Unit {0}) (w' : Work). AloneSets N L mode σ τ τ' × Valid N τ' w'.live) (given σ tt) (pull_from N L lent u s w τ)
    unfolding pull_from
    pull_from_alone {τ} t e u s m w f = go (label_to u (list_at τ.base s)) refl
      where
        k : s < states τ.base.aut
        k = subst (λ (b : Store). s < states b.aut) (sym e) (known s m)

        marked : 0 < count_of τ.base.aut.states.words s
        marked = subst (λ (b : Store). 0 < count_of b.aut.states.words s) (sym e) (stored s m)

        go : (z : Label) → label_to u (list_at τ.base s) ≡ z
            → Follows (Allowed mode) (λ σ' τ' (z : Unit {0}) (w' : Work). AloneSets N L mode σ τ τ' × Valid N τ' w'.live) (given σ tt) (elim z [ by l ↦ pull_back N L lent u s l w τ | none ↦ given τ w ])
        go (Live.by l) q = pull_back_alone t u s l (label_at u (list_at τ.base s) ((t.right.worked.lists.held s k).list marked).are q).1 w f
        go Live.none q = comes (sets_refl t, f)

    pull_all_alone : {τ : Tables} → TwinTables N L mode σ τ → τ.base ≡ c → (u : ℕ) (zs : List ℕ) → ((s : ℕ) → Memᴰ s zs → Memᴰ s ss) → (w : Work) → Valid N τ w.live
        → Follows (Allowed mode) (λ σ' τ' (z : Unit {0}) (w' : Work). AloneSets N L mode σ τ τ' × Valid N τ' w'.live) (given σ tt) (pull_all N L lent u zs w τ)
    unfolding pull_all
    pull_all_alone t e u [] g w f = comes (sets_refl t, f)
    pull_all_alone t e u (s ∷ zs) g w f = follows_alone (pull_from_alone t e u s (g s (Memᴰ.head refl)) w f) (λ τ₁ w₁ (o, f₁).
        follows_map (λ σ₂ τ₂ z w₂ (o₂, f₂). (sets_trans o o₂, f₂)) (pull_all_alone o.twins (o.base ∙ e) u zs (λ z m. g z (Memᴰ.tail m)) w₁ f₁))

    settle_alone : (most : ℕ) {τ : Tables} → TwinTables N L mode σ τ → τ.base ≡ c → (w : Work) → Valid N τ w.live
        → Follows (Allowed mode) (λ σ' τ' (z : Unit {0}) v. AloneSets N L mode σ τ τ') (given σ tt) (settle N L lent most ss w τ)
    unfolding settle
    settle_alone zero t e w f = comes (sets_refl t)
    settle_alone (suc most) {τ} t e w f = go w.todo (λ τ₁ w₁ o f₁. settle_alone most o.twins (o.base ∙ e) w₁ f₁)
      where
        go : (l : List ℕ)
            → ((τ₁ : Tables) (w₁ : Work) → AloneSets N L mode σ τ τ₁ → Valid N τ₁ w₁.live → Follows (Allowed mode) (λ σ' τ' (z : Unit {0}) v. AloneSets N L mode σ τ₁ τ') (given σ tt) (settle N L lent most ss w₁ τ₁))
            → Follows (Allowed mode) (λ σ' τ' (z : Unit {0}) v. AloneSets N L mode σ τ τ') (given σ tt)
            (Live.taking l (return w.live) (λ t rest. pull_all N L lent t ss (work rest w.live) >>= settle N L lent most ss) τ)
        go [] rec = comes (sets_refl t)
        go (u ∷ rest) rec = follows_alone (pull_all_alone t e u ss (λ s m. m) (work rest w.live) f) (λ τ₁ w₁ (o, f₁). follows_map (λ σ₂ τ₂ z v o₂. sets_trans o o₂) (rec τ₁ w₁ o f₁))

-- ---- the walk

-- the live set of s is stored in the first
abbrev pub Lives : Tables → ℕ → Type 0
Lives σ s = 0 < live_of σ.base.aut.states.words s

record VisitAlone (N : ℕ) (L : Limits) (mode : Mode) (σ τ τ' : Tables) (v : Visit) : Type 0 where
  alone : Alone N L mode σ τ τ'
  waiting : (s : ℕ) → Memᴰ s v.waiting → Lives σ s

-- the states found have their live sets in the first
pub record FoundAlone (N : ℕ) (L : Limits) (mode : Mode) (σ τ τ' : Tables) (f : Found) : Type 0 where
  pub alone : Alone N L mode σ τ τ'
  pub lives : (s : ℕ) → Memᴰ s f.states → Lives σ s

alone_trans : {N : ℕ} {L : Limits} {mode : Mode} {σ τ τ' τ'' : Tables} → Alone N L mode σ τ τ' → Alone N L mode σ τ' τ'' → Alone N L mode σ τ τ''
alone_trans p q = record { twins = q.twins; right = gone_trans p.right q.right }

enqueue_alone : {mode : Mode} → (InStep mode → ⊥) → (P : ℕ → Type 0) {Q : Tables → Tables → Unit {0} → List ℕ → Type 0} (room : ℕ) (es : List Edge) (visited waiting : List ℕ) (σ τ : Tables)
    → ((s : ℕ) → Memᴰ s waiting → P s) → ((e : Edge) → Memᴰ e es → P e.target) → ((w : List ℕ) → ((s : ℕ) → Memᴰ s w → P s) → Q σ τ tt w)
    → Follows (Allowed mode) Q (given σ tt) (enqueue room es visited waiting τ)
unfolding enqueue
enqueue_alone loose P room [] visited waiting σ τ f g q = comes (q waiting f)
enqueue_alone loose P room (e ∷ es) visited waiting σ τ f g q =
    follows_test (any (eqb e.target) (visited ++ waiting)) _ _ τ (λ _. enqueue_alone loose P room es visited waiting σ τ f (λ d m. g d (Memᴰ.tail m)) q)
    (λ _. follows_test (ltb (length (visited ++ waiting)) room) _ _ τ
    (λ _. enqueue_alone loose P room es visited (waiting ++ e.target ∷ []) σ τ
    (λ s m. ⊎_elim (f s) (λ n. ⊎_elim (λ j. subst P (sym j) (g e (Memᴰ.head refl))) (λ n. absurd (Memᴰ.not-nil n)) (Memᴰ.cases_cons n)) (Memᴰ.append_cases waiting m))
    (λ d m. g d (Memᴰ.tail m)) q)
    (λ _. lacks (no_entry loose)))

module _ {N : ℕ} {L : Limits} (lent : ℕ) {mode : Mode} (loose : InStep mode → ⊥) {σ : Tables} where
  -- what the first has of such a state
  module _ {τ : Tables} (t : TwinTables N L mode σ τ) {s : ℕ} (k : s < states σ.base.aut) (p : Lives σ s) where
    has : HasEpsilon σ.base.aut s
    has = has_of (ready_of t.base.left.worked) k (t.left.lives.has_epsilon s k p)

    epsilon_left : on_base (on_aut (epsilon N s)) σ ≡ given σ (values σ.base.aut s)
    epsilon_left = ap (λ (o : Outcome Aut ℕ). placed put_base σ (placed put_aut σ.base o)) (at_hand (ready_of t.base.left.worked) k has)

    delta_left : on_base (delta N L s) σ ≡ given σ (list_at σ.base s)
    delta_left = ap (placed put_base σ) (delta_stored t.base.left.worked k (t.left.lives.listed s k p))

  visit_alone : {τ : Tables} → TwinTables N L mode σ τ → (s : ℕ) → s < states σ.base.aut → Lives σ s → (visited waiting : List ℕ) → ((z : ℕ) → Memᴰ z waiting → Lives σ z)
      → Follows (Allowed mode) (λ σ' τ' (u : Unit {0}) v. VisitAlone N L mode σ τ τ' v) (given σ tt) (visit N L lent s visited waiting τ)
  visit_alone {τ} t s k p visited waiting f =
      follows_alone (follows_as (sym (epsilon_left t k p)) refl (epsilon_tables t s k)) (λ τ₁ e q.
      let t₁ : TwinTables N L mode σ τ₁ = q.onward.twins in
      let d : Denotes τ₁.base.aut.nodes N e q.means.relation = subst (λ (i : ℕ). Denotes τ₁.base.aut.nodes N i q.means.relation) q.one (label_right t₁ q.means.den) in
      follows_alone (images_alone loose t₁ (domain q.means.relation) (Images.bwd N e) (bwd_exact N N (omega arith) (diagrams τ₁) e q.means.relation (both_wf t₁.right) d)) (λ τ₂ h r.
      follows_alone (follows_as (sym (delta_left r.sets.twins k p)) refl (delta_tables r.sets.twins s k)) (λ τ₃ es z.
      let g : Gone τ τ₃ = gone_trans q.onward.right (gone_trans r.sets.right z.onward.right) in
      follows_alone {P = λ σ₄ τ₄ (u : Unit {0}) w. Alone N L mode σ τ τ₄ × ((i : ℕ) → Memᴰ i w → Lives σ i)}
      (enqueue_alone loose (Lives σ) (capacity lent) es (visited ++ s ∷ []) waiting σ τ₃ f
      (λ i m. t.left.lives.onward s k p i (subst (Memᴰ i) (sym z.one) m))
      (λ w c. (record { twins = z.onward.twins; right = g }, c)))
      (λ τ₄ w (o, c). comes (record { alone = o; waiting = c })))))

  explore_alone : (most : ℕ) (visited waiting : List ℕ) (live : ℕ → ℕ) {τ : Tables} → TwinTables N L mode σ τ → Exploring N L (capacity lent) τ visited waiting live
      → ((z : ℕ) → Memᴰ z visited → Lives σ z) → ((z : ℕ) → Memᴰ z waiting → Lives σ z)
      → Follows (Allowed mode) (λ σ' τ' (u : Unit {0}) g. FoundAlone N L mode σ τ τ' g) (given σ tt) (explore N L lent most visited waiting live τ)
  unfolding explore
  explore_alone zero visited waiting live {τ} t X f g = comes (record { alone = record { twins = t; right = gone_refl τ }; lives = f })
  explore_alone (suc most) visited [] live {τ} t X f g = comes (record { alone = record { twins = t; right = gone_refl τ }; lives = f })
  explore_alone (suc most) visited (s ∷ waiting) live {τ} t X f g =
      follows_alone (follows_right (ends_gives (visit_ends lent X))
      (visit_alone t s (omega (arith, X.known s (Memᴰ.head refl), t.base.less.knows.same.count)) (g s (Memᴰ.head refl)) visited waiting (λ z m. g z (Memᴰ.tail m)))) (λ τ₁ v (p, z).
      follows_map (λ σ₂ τ₂ u h q. record { alone = alone_trans p.alone q.alone; lives = q.lives })
      (explore_alone most (visited ++ s ∷ []) v.waiting (live_at s v.ends live) p.alone.twins z.next
      (λ i m. ⊎_elim (f i) (λ n. ⊎_elim (λ j. subst (Lives σ) (sym j) (g s (Memᴰ.head refl))) (λ n. absurd (Memᴰ.not-nil n)) (Memᴰ.cases_cons n)) (Memᴰ.append_cases visited m))
      p.waiting))

  pub sets_alone : {τ : Tables} → TwinTables N L mode σ τ → (x : ℕ) → x < states σ.base.aut → Lives σ x
      → Follows (Allowed mode) (λ σ' τ' (u : Unit {0}) f. FoundAlone N L mode σ τ τ' f) (given σ tt) (live_sets N L lent x τ)
  unfolding live_sets
  sets_alone {τ} t x k p = follows_test (ltb 0 (capacity lent)) _ _ τ
      (λ q. let X = begins lent t.right k' (ltb-true 0 (capacity lent) q) in
      follows_alone (follows_right (ends_gives (explore_ends lent (capacity lent) [] (x ∷ []) (λ u. Sp.zero_at N) X (omega arith)))
      (explore_alone (capacity lent) [] (x ∷ []) (λ u. Sp.zero_at N) t X (λ z m. absurd (Memᴰ.not-nil m))
      (λ z m. ⊎_elim (λ j. subst (Lives σ) (sym j) p) (λ n. absurd (Memᴰ.not-nil n)) (Memᴰ.cases_cons m)))) (λ τ₁ f (o, z).
      follows_alone (settle_alone lent loose τ₁.base f.states (λ s m. (z.links s m).known) (λ s m. (z.links s m).marked) (takes N L lent f.states) o.alone.twins refl (work (reverse f.states) f.live) z.some)
      (λ τ₂ v r. comes (record { alone = record { twins = r.twins; right = gone_trans o.alone.right r.right }; lives = o.lives }))))
      (λ q. lacks (no_entry loose))
    where
      k' : x < states τ.base.aut
      k' = omega (arith, t.base.less.knows.same.count)
