-- `live_packets`, the work list, in two runs: the sets of the states reached grow alike, so the same states are looked at again. The second may lack a packet node (20), where packet nodes do not go in step.
use Rattle.std.specs.Prelude.{if◌then◌else◌}
use mathlib.Core.Path.{◌≡◌, refl, sym, ◌∙◌, ap, subst}
use mathlib.Core.Bool.{Bool, true, false}
use mathlib.Core.List.{List, [], ◌∷◌, Memᴰ}
use Prim.Native.Nat.{ℕ, zero, suc, ◌<◌}
use native.Mathlib.Omega.{arith}
use lib.Dec.{eqb, ltb}
use lib.ListN.{length}
use Rattle.common.specs.Packets.{Relation}
use Rattle.common.specs.Outcome.{given, return, ◌>>=◌}
use Rattle.netkat.specs.Lists.{State, Transition}
use Rattle.netkat_steps.specs.ListSteps.{Edge, Are}
use Rattle.spp_steps.specs.Wf.{Denotes}
use Rattle.spp_steps.proofs.Laws.{by_test}
use Rattle.aut_steps.specs.Tables.{Limits, Aut}
use Rattle.aut_steps.specs.Wf.{states}
use Rattle.aut_delta_steps.specs.Delta.{count_of, Store, list_at}
use Rattle.aut_delta_steps.specs.Fits.{tables as readings}
use Rattle.aut_query_steps.specs.Tables.{Tables}
use Rattle.aut_query_steps.specs.Search.{capacity}
use Rattle.aut_query_steps.specs.Live as Live
use Rattle.aut_query_steps.specs.Live.{live_at, Work, work, Label, by, none, label_to, enlarge, pull_back, pull_from, pull_all, settle}
use Rattle.image_continued.specs.Follow.{Follows, stops, comes}
use Rattle.image_continued.specs.Mode.{Mode, Allowed}
use Rattle.image_continued.proofs.Follow.{follows_map, follows_bind, follows_as, follows_branch}
use Rattle.image_continued.proofs.Delta.{list_one}
use Rattle.image_continued.proofs.Tables.{TwinTables, OnTables, Is, SetStep, on_refl, on_trans, is_on, same_test, union_follow, pull_follow}

-- they have come further with packet nodes alone
pub record OnSets (N : ℕ) (L : Limits) (mode : Mode) (σ τ σ' τ' : Tables) : Type 0 where
  pub onward : OnTables N L mode σ τ σ' τ'
  pub base_left : σ'.base ≡ σ.base
  pub base_right : τ'.base ≡ τ.base

pub sets_refl : {N : ℕ} {L : Limits} {mode : Mode} {σ τ : Tables} → TwinTables N L mode σ τ → OnSets N L mode σ τ σ τ
sets_refl t = record { onward = on_refl t; base_left = refl; base_right = refl }

pub sets_trans : {N : ℕ} {L : Limits} {mode : Mode} {σ τ σ' τ' σ'' τ'' : Tables} → OnSets N L mode σ τ σ' τ' → OnSets N L mode σ' τ' σ'' τ'' → OnSets N L mode σ τ σ'' τ''
sets_trans p q = record { onward = on_trans p.onward q.onward; base_left = q.base_left ∙ p.base_left; base_right = q.base_right ∙ p.base_right }

pub sets_of : {N : ℕ} {L : Limits} {mode : Mode} {σ τ σ' τ' : Tables} {h h' : ℕ} → SetStep N L mode σ τ σ' τ' h h' → OnSets N L mode σ τ σ' τ'
sets_of p = record { onward = p.onward; base_left = p.base_left; base_right = p.base_right }

-- sets by state, alike in both
abbrev pub AllIs : (N : ℕ) (mode : Mode) → Tables → Tables → (ℕ → ℕ) → (ℕ → ℕ) → Type 0
AllIs N mode σ τ v v' = (t : ℕ) → Is N mode σ τ (v t) (v' t)

pub all_on : {N : ℕ} {L : Limits} {mode : Mode} {σ τ σ' τ' : Tables} {v v' : ℕ → ℕ} → OnTables N L mode σ τ σ' τ' → AllIs N mode σ τ v v' → AllIs N mode σ' τ' v v'
all_on o f t = is_on o (f t)

pub all_at : {N : ℕ} {mode : Mode} {σ τ : Tables} (s h h' : ℕ) (v v' : ℕ → ℕ) → Is N mode σ τ h h' → AllIs N mode σ τ v v' → AllIs N mode σ τ (live_at s h v) (live_at s h' v')
all_at {N} {mode} {σ} {τ} s h h' v v' i f t = go (eqb s t)
  where
    go : (b : Bool) → Is N mode σ τ (if b then h else v t) (if b then h' else v' t)
    go true = i
    go false = f t

-- the work list of both
pub record WorkIs (N : ℕ) (mode : Mode) (σ τ : Tables) (w w' : Work) : Type 0 where
  pub todo : w.todo ≡ w'.todo
  pub live : AllIs N mode σ τ w.live w'.live

work_on : {N : ℕ} {L : Limits} {mode : Mode} {σ τ σ' τ' : Tables} {w w' : Work} → OnTables N L mode σ τ σ' τ' → WorkIs N mode σ τ w w' → WorkIs N mode σ' τ' w w'
work_on o p = record { todo = p.todo; live = all_on o p.live }

-- the labels of a list are relations
pub label_at : {N : ℕ} {L : Limits} {a : Aut} (t : ℕ) {l : ℕ} (es : List Edge) {list : List (Transition State N)} → Are (readings N L) a es list → label_to t es ≡ Live.by l → (R : Relation N) × Denotes a.nodes N l R
unfolding label_to
label_at t [] Are.none q = let z : ◌≡◌ {A = ℕ} 0 1 = cc in absurd (omega arith)
label_at {N} {L} {a} t {l} (e ∷ es) (Are.also {s} {l = m} {r} k d as') q =
    by_test (eqb t s)
    (λ b. (r, subst (λ (i : ℕ). Denotes a.nodes N i r) (by_label (sym (ap (λ (c : Bool). if c then Live.by m else label_to t es) b) ∙ q)) d))
    (λ b. label_at t es as' (ap (λ (c : Bool). if c then Live.by m else label_to t es) (sym b) ∙ q))
  where
    by_label : {i j : ℕ} → Live.by i ≡ Live.by j → i ≡ j
    by_label e = cc

-- the tables have these stores
pub record At (N : ℕ) (L : Limits) (mode : Mode) (b c : Store) (σ τ : Tables) : Type 0 where
  pub twins : TwinTables N L mode σ τ
  pub is_left : σ.base ≡ b
  pub is_right : τ.base ≡ c

pub at_on : {N : ℕ} {L : Limits} {mode : Mode} {b c : Store} {σ τ σ' τ' : Tables} → At N L mode b c σ τ → OnSets N L mode σ τ σ' τ' → At N L mode b c σ' τ'
at_on a o = record { twins = o.onward.twins; is_left = o.base_left ∙ a.is_left; is_right = o.base_right ∙ a.is_right }

module _ {N : ℕ} {L : Limits} (lent : ℕ) {mode : Mode} where
  enlarge_follow : {σ τ : Tables} → TwinTables N L mode σ τ → (s h h' : ℕ) → Is N mode σ τ h h' → {w w' : Work} → WorkIs N mode σ τ w w'
      → Follows (Allowed mode) (λ σ' τ' v v'. OnSets N L mode σ τ σ' τ' × WorkIs N mode σ' τ' v v') (enlarge (capacity lent) s h w σ) (enlarge (capacity lent) s h' w' τ)
  unfolding enlarge
  enlarge_follow {σ} {τ} t s h h' i {w} {w'} p = follows_branch _ _ _ _ σ τ (same_test t i (p.live s))
      (λ q. comes (sets_refl t, p))
      (λ q. follows_branch _ _ _ _ σ τ (ap (λ (l : List ℕ). ltb (length l) (capacity lent)) p.todo)
      (λ q. comes (sets_refl t, record { todo = ap (λ (l : List ℕ). s ∷ l) p.todo; live = all_at s h h' w.live w'.live i p.live }))
      (λ q. stops))

  pull_back_follow : {σ τ : Tables} → TwinTables N L mode σ τ → (t s l : ℕ) {R : Relation N} → Denotes σ.base.aut.nodes N l R → {w w' : Work} → WorkIs N mode σ τ w w'
      → Follows (Allowed mode) (λ σ' τ' v v'. OnSets N L mode σ τ σ' τ' × WorkIs N mode σ' τ' v v') (pull_back N L lent t s l w σ) (pull_back N L lent t s l w' τ)
  unfolding pull_back
  pull_back_follow {σ} {τ} tw t s l d {w} {w'} p =
      follows_bind (pull_follow tw (p.live t) d) (λ σ₁ τ₁ a a' q.
      let o₁ : OnSets N L mode σ τ σ₁ τ₁ = sets_of q in
      follows_bind (union_follow o₁.onward.twins (is_on o₁.onward (p.live s)) q.is) (λ σ₂ τ₂ c c' u.
      let o₂ : OnSets N L mode σ τ σ₂ τ₂ = sets_trans o₁ (sets_of u) in
      follows_map (λ σ₃ τ₃ v v' (o₃, r). (sets_trans o₂ o₃, r)) (enlarge_follow o₂.onward.twins s c c' u.is (work_on o₂.onward p))))

  -- the states reached: their lists are stored in both
  module _ (b c : Store) (ss : List ℕ) (known : (s : ℕ) → Memᴰ s ss → s < states b.aut) (left : (s : ℕ) → Memᴰ s ss → 0 < count_of b.aut.states.words s)
      (right : (s : ℕ) → Memᴰ s ss → 0 < count_of c.aut.states.words s)
    where
      pull_from_follow : {σ τ : Tables} → At N L mode b c σ τ → (t s : ℕ) → Memᴰ s ss → {w w' : Work} → WorkIs N mode σ τ w w'
          → Follows (Allowed mode) (λ σ' τ' v v'. OnSets N L mode σ τ σ' τ' × WorkIs N mode σ' τ' v v') (pull_from N L lent t s w σ) (pull_from N L lent t s w' τ)
      unfolding pull_from
      pull_from_follow {σ} {τ} a t s m {w} {w'} p = follows_as refl (ap (λ (z : Label). elim z [ by l ↦ pull_back N L lent t s l w' τ | none ↦ given τ w' ]) (ap (label_to t) (sym lists))) (go (label_to t (list_at σ.base s)) refl)
        where
          k : s < states σ.base.aut
          k = subst (λ (e : Store). s < states e.aut) (sym a.is_left) (known s m)

          marked : 0 < count_of σ.base.aut.states.words s
          marked = subst (λ (e : Store). 0 < count_of e.aut.states.words s) (sym a.is_left) (left s m)

          lists : list_at σ.base s ≡ list_at τ.base s
          lists = list_one a.twins.base k marked (subst (λ (e : Store). 0 < count_of e.aut.states.words s) (sym a.is_right) (right s m))

          go : (z : Label) → label_to t (list_at σ.base s) ≡ z
              → Follows (Allowed mode) (λ σ' τ' v v'. OnSets N L mode σ τ σ' τ' × WorkIs N mode σ' τ' v v')
              (elim z [ by l ↦ pull_back N L lent t s l w σ | none ↦ given σ w ]) (elim z [ by l ↦ pull_back N L lent t s l w' τ | none ↦ given τ w' ])
          go (Live.by l) q = pull_back_follow a.twins t s l (label_at t (list_at σ.base s) ((a.twins.left.worked.lists.held s k).list marked).are q).1 p
          go Live.none q = comes (sets_refl a.twins, p)

      pull_all_follow : {σ τ : Tables} → At N L mode b c σ τ → (t : ℕ) (zs : List ℕ) → ((s : ℕ) → Memᴰ s zs → Memᴰ s ss) → {w w' : Work} → WorkIs N mode σ τ w w'
          → Follows (Allowed mode) (λ σ' τ' v v'. OnSets N L mode σ τ σ' τ' × WorkIs N mode σ' τ' v v') (pull_all N L lent t zs w σ) (pull_all N L lent t zs w' τ)
      unfolding pull_all
      pull_all_follow a t [] f p = comes (sets_refl a.twins, p)
      pull_all_follow a t (s ∷ zs) f p = follows_bind (pull_from_follow a t s (f s (Memᴰ.head refl)) p) (λ σ₁ τ₁ v v' (o, q).
          follows_map (λ σ₂ τ₂ u u' (o₂, r). (sets_trans o o₂, r)) (pull_all_follow (at_on a o) t zs (λ z m. f z (Memᴰ.tail m)) q))

      settle_follow : (most : ℕ) {σ τ : Tables} → At N L mode b c σ τ → {w w' : Work} → WorkIs N mode σ τ w w'
          → Follows (Allowed mode) (λ σ' τ' v v'. OnSets N L mode σ τ σ' τ' × AllIs N mode σ' τ' v v') (settle N L lent most ss w σ) (settle N L lent most ss w' τ)
      unfolding settle
      settle_follow zero a p = comes (sets_refl a.twins, p.live)
      settle_follow (suc most) {σ} {τ} a {w} {w'} p =
          follows_as refl (ap (λ (l : List ℕ). Live.taking l (return w'.live) (λ t rest. pull_all N L lent t ss (work rest w'.live) >>= settle N L lent most ss) τ) (sym p.todo))
          (go w.todo (λ v v' σ₁ τ₁ o q. settle_follow most (at_on a o) q))
        where
          go : (l : List ℕ)
              → ((v v' : Work) (σ₁ τ₁ : Tables) → OnSets N L mode σ τ σ₁ τ₁ → WorkIs N mode σ₁ τ₁ v v'
              → Follows (Allowed mode) (λ σ' τ' v v'. OnSets N L mode σ₁ τ₁ σ' τ' × AllIs N mode σ' τ' v v') (settle N L lent most ss v σ₁) (settle N L lent most ss v' τ₁))
              → Follows (Allowed mode) (λ σ' τ' v v'. OnSets N L mode σ τ σ' τ' × AllIs N mode σ' τ' v v')
              (Live.taking l (return w.live) (λ t rest. pull_all N L lent t ss (work rest w.live) >>= settle N L lent most ss) σ)
              (Live.taking l (return w'.live) (λ t rest. pull_all N L lent t ss (work rest w'.live) >>= settle N L lent most ss) τ)
          go [] rec = comes (sets_refl a.twins, p.live)
          go (t ∷ rest) rec = follows_bind (pull_all_follow a t ss (λ s m. m) {w = work rest w.live} {w' = work rest w'.live} (record { todo = refl; live = p.live })) (λ σ₁ τ₁ v v' (o, q).
              follows_map (λ σ₂ τ₂ u u' (o₂, r). (sets_trans o o₂, r)) (rec v v' σ₁ τ₁ o q))

      pub settled_follow : (most : ℕ) {σ τ : Tables} → TwinTables N L mode σ τ → σ.base ≡ b → τ.base ≡ c → (todo : List ℕ) {v v' : ℕ → ℕ} → AllIs N mode σ τ v v'
          → Follows (Allowed mode) (λ σ' τ' u u'. OnSets N L mode σ τ σ' τ' × AllIs N mode σ' τ' u u') (settle N L lent most ss (work todo v) σ) (settle N L lent most ss (work todo v') τ)
      settled_follow most t e e' todo f = settle_follow most (record { twins = t; is_left = e; is_right = e' }) (record { todo = refl; live = f })
