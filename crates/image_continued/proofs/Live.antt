-- The live sets of the states reached, worked out in two runs: the same states in the same order, and for each the same set. The second may lack a packet node (20), where packet nodes do not go in step.
use mathlib.Core.Path.{◌≡◌, refl, sym, ap, subst}
use mathlib.Core.List.{List, [], ◌∷◌, ◌++◌, reverse, Memᴰ}
use Prim.Native.Nat.{ℕ, zero, suc, ◌<◌}
use native.Mathlib.Omega.{arith}
use lib.Dec.{eqb, ltb}
use lib.ListN.{length}
use borrow.Author.Tests.{ltb-true}
use Rattle.common.specs.Packets.{any}
use Rattle.common.specs.Outcome.{return, ◌>>=◌}
use Rattle.netkat_steps.specs.ListSteps.{Edge}
use Rattle.sp_steps.specs.Model as Sp
use Rattle.spp_steps.specs.ImageModel as Images
use Rattle.aut_steps.specs.Tables.{Limits}
use Rattle.aut_steps.specs.Wf.{states}
use Rattle.aut_steps.proofs.Wf.{state_grown}
use Rattle.aut_delta_steps.specs.Delta.{delta}
use Rattle.aut_query_steps.specs.Tables.{Tables, making_sets, on_base}
use Rattle.aut_query_steps.specs.Search.{capacity}
use Rattle.aut_query_steps.specs.Live.{live_at, Found, found, Visit, enqueue, visit, explore, settle, takes, work, live_sets}
use Rattle.aut_query_steps.proofs.Steps.{ends_gives}
use Rattle.aut_query_steps.proofs.ExploreLaws.{Exploring, visit_ends, explore_ends}
use Rattle.aut_query_steps.proofs.LiveLaws.{begins}
use Rattle.image_continued.specs.Follow.{Follows, stops, comes}
use Rattle.image_continued.specs.Mode.{Mode, Allowed}
use Rattle.image_continued.proofs.Follow.{follows_map, follows_bind, follows_with, follows_as, follows_choose}
use Rattle.image_continued.proofs.Tables.{TwinTables, OnTables, Is, on_refl, on_trans, is_on, is_zero_set, bwd_follow, epsilon_tables, delta_tables}
use Rattle.image_continued.proofs.Settle.{AllIs, all_on, all_at, settled_follow}

-- ---- the walk

-- the same states wait
enqueue_follow : {E : ℕ → Type 0} {Q : Tables → Tables → List ℕ → List ℕ → Type 0} (room : ℕ) (es : List Edge) (visited waiting : List ℕ) (σ τ : Tables) → ((w : List ℕ) → Q σ τ w w)
    → Follows E Q (enqueue room es visited waiting σ) (enqueue room es visited waiting τ)
unfolding enqueue
enqueue_follow room [] visited waiting σ τ q = comes (q waiting)
enqueue_follow room (e ∷ es) visited waiting σ τ q =
    follows_choose (any (eqb e.target) (visited ++ waiting)) _ _ _ _ σ τ (λ _. enqueue_follow room es visited waiting σ τ q)
    (λ _. follows_choose (ltb (length (visited ++ waiting)) room) _ _ _ _ σ τ (λ _. enqueue_follow room es visited (waiting ++ e.target ∷ []) σ τ q) (λ _. stops))

-- what a visit comes to in both
record VisitIs (N : ℕ) (L : Limits) (mode : Mode) (σ τ σ' τ' : Tables) (v v' : Visit) : Type 0 where
  onward : OnTables N L mode σ τ σ' τ'
  waiting : v.waiting ≡ v'.waiting
  ends : Is N mode σ' τ' v.ends v'.ends

-- what the walk comes to
pub record FoundIs (N : ℕ) (L : Limits) (mode : Mode) (σ τ σ' τ' : Tables) (f f' : Found) : Type 0 where
  pub onward : OnTables N L mode σ τ σ' τ'
  pub states : f.states ≡ f'.states
  pub live : AllIs N mode σ' τ' f.live f'.live

module _ {N : ℕ} {L : Limits} (lent : ℕ) {mode : Mode} where
  visit_follow : {σ τ : Tables} → TwinTables N L mode σ τ → (s : ℕ) → s < states σ.base.aut → (visited waiting : List ℕ)
      → Follows (Allowed mode) (VisitIs N L mode σ τ) (visit N L lent s visited waiting σ) (visit N L lent s visited waiting τ)
  visit_follow {σ} {τ} t s k visited waiting =
      follows_bind (epsilon_tables t s k) (λ σ₁ τ₁ e e' p.
      follows_as refl (ap (λ (e : ℕ). (making_sets (Images.bwd N e) >>= λ ends. on_base (delta N L s) >>= λ list. enqueue (capacity lent) list (visited ++ s ∷ []) waiting >>= λ w. return (record { ends = ends; waiting = w })) τ₁) (sym p.one))
      (follows_bind (bwd_follow p.onward.twins p.means.den) (λ σ₂ τ₂ h h' q.
      let o₂ : OnTables N L mode σ τ σ₂ τ₂ = on_trans p.onward q.onward in
      follows_bind (delta_tables o₂.twins s (state_grown o₂.left.went.grown k)) (λ σ₃ τ₃ es es' d.
      let o₃ : OnTables N L mode σ τ σ₃ τ₃ = on_trans o₂ d.onward in
      follows_as refl (ap (λ (es : List Edge). (enqueue (capacity lent) es (visited ++ s ∷ []) waiting >>= λ w. return (record { ends = h'; waiting = w })) τ₃) (sym d.one))
      (follows_bind {P = λ σ₄ τ₄ w w'. (w ≡ w') × OnTables N L mode σ τ σ₄ τ₄ × Is N mode σ₄ τ₄ h h'}
      (enqueue_follow (capacity lent) es (visited ++ s ∷ []) waiting σ₃ τ₃ (λ w. (refl, o₃, is_on d.onward q.is)))
      (λ σ₄ τ₄ w w' (r, o, i). comes (record { onward = o; waiting = r; ends = i })))))))

  explore_follow : (most : ℕ) (visited waiting : List ℕ) (live live' : ℕ → ℕ) {σ τ : Tables} → TwinTables N L mode σ τ → Exploring N L (capacity lent) σ visited waiting live → Exploring N L (capacity lent) τ visited waiting live'
      → AllIs N mode σ τ live live' → Follows (Allowed mode) (FoundIs N L mode σ τ) (explore N L lent most visited waiting live σ) (explore N L lent most visited waiting live' τ)
  unfolding explore
  explore_follow zero visited waiting live live' t X X' f = comes (record { onward = on_refl t; states = refl; live = f })
  explore_follow (suc most) visited [] live live' t X X' f = comes (record { onward = on_refl t; states = refl; live = f })
  explore_follow (suc most) visited (s ∷ waiting) live live' {σ} {τ} t X X' f =
      follows_bind (follows_with (ends_gives (visit_ends lent X)) (ends_gives (visit_ends lent X')) (visit_follow t s (X.known s (Memᴰ.head refl)) visited waiting)) (λ σ₁ τ₁ v v' (p, z, z').
      follows_as refl (ap (λ (w : List ℕ). explore N L lent most (visited ++ s ∷ []) w (live_at s v'.ends live') τ₁) (sym p.waiting))
      (follows_map (λ σ₂ τ₂ g g' q. record { onward = on_trans p.onward q.onward; states = q.states; live = q.live })
      (explore_follow most (visited ++ s ∷ []) v.waiting (live_at s v.ends live) (live_at s v'.ends live') p.onward.twins z.next
      (subst (λ (w : List ℕ). Exploring N L (capacity lent) τ₁ (visited ++ s ∷ []) w (live_at s v'.ends live')) (sym p.waiting) z'.next)
      (all_at s v.ends v'.ends live live' p.ends (all_on p.onward f)))))

  -- ---- the sets

  pub sets_follow : {σ τ : Tables} → TwinTables N L mode σ τ → (x : ℕ) → x < states σ.base.aut → Follows (Allowed mode) (FoundIs N L mode σ τ) (live_sets N L lent x σ) (live_sets N L lent x τ)
  unfolding live_sets
  sets_follow {σ} {τ} t x k = follows_choose (ltb 0 (capacity lent)) _ _ _ _ σ τ
      (λ q. let room = ltb-true 0 (capacity lent) q in
      let X = begins lent t.left k room in
      let X' = begins lent t.right k' room in
      follows_bind (follows_with (ends_gives (explore_ends lent (capacity lent) [] (x ∷ []) (λ u. Sp.zero_at N) X (omega arith))) (ends_gives (explore_ends lent (capacity lent) [] (x ∷ []) (λ u. Sp.zero_at N) X' (omega arith)))
      (explore_follow (capacity lent) [] (x ∷ []) (λ u. Sp.zero_at N) (λ u. Sp.zero_at N) t X X' (λ u. is_zero_set t))) (λ σ₁ τ₁ f f' (p, z, z').
      follows_as refl (λ d. (settle N L lent (takes N L lent (sym p.states d)) (sym p.states d) (work (reverse (sym p.states d)) f'.live) >>= λ live. return (found (sym p.states d) live)) τ₁)
      (follows_bind (settled_follow lent σ₁.base τ₁.base f.states (λ s m. (z.links s m).known) (λ s m. (z.links s m).marked) (λ s m. (z'.links s (subst (Memᴰ s) p.states m)).marked)
      (takes N L lent f.states) p.onward.twins refl refl (reverse f.states) p.live) (λ σ₂ τ₂ v v' (o, i).
      comes (record { onward = on_trans p.onward o.onward; states = refl; live = i })))))
      (λ q. stops)
    where
      k' : x < states τ.base.aut
      k' = omega (arith, t.base.less.knows.same.count)
