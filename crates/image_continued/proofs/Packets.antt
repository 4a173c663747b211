-- `live_packets` in two runs: the live set of the state in both, as one set; the second may meet 20 or 24 where packet nodes do not go in step.
use mathlib.Core.Path.{◌≡◌, sym, ◌∙◌, ap, subst}
use mathlib.Core.Logic.{◌⊎◌, inl, inr, ⊎_elim}
use mathlib.Core.List.{Memᴰ}
use Prim.Native.Nat.{ℕ, ◌+◌, ◌-◌, ◌<◌}
use native.Mathlib.Omega.{arith}
use lib.Dec.{ltb}
use borrow.Author.Tests.{ltb-true, ltb-false, lt-ltb, le-ltb}
use Rattle.common.specs.Outcome.{given}
use Rattle.spp_steps.proofs.Laws.{by_test}
use Rattle.aut_steps.specs.Tables.{Limits}
use Rattle.aut_steps.specs.Wf.{states}
use Rattle.aut_steps.proofs.Wf.{state_grown}
use Rattle.aut_query_steps.specs.Tables.{Tables, live_of, ExtTables}
use Rattle.aut_query_steps.specs.Live.{Found, keep_lives, live_anew, live_packets}
use Rattle.aut_query_steps.proofs.Steps.{ends_gives}
use Rattle.aut_query_steps.proofs.LiveLaws.{Reached, sets_ends, live_goes}
use Rattle.image_continued.specs.Follow.{Follows, comes}
use Rattle.image_continued.specs.Mode.{Mode, InStep, Whole, Allowed}
use Rattle.image_continued.proofs.Follow.{follows_map, follows_bind, follows_alone, follows_with, follows_right, follows_as}
use Rattle.image_continued.proofs.Records.{state_same}
use Rattle.image_continued.proofs.Tables.{in-step?, whole_steps, TwinTables, Is}
use Rattle.image_continued.proofs.Live.{FoundIs, sets_follow}
use Rattle.image_continued.proofs.Kept.{KeptTo, kept_none, kept_to, kept_twins, live_is}
use Rattle.image_continued.proofs.Alone.{sets_alone}

-- the live set of x was given in both, and is kept there
pub record LiveIs (N : ℕ) (L : Limits) (mode : Mode) (x : ℕ) (σ τ σ' τ' : Tables) (l l' : ℕ) : Type 0 where
  pub twins : TwinTables N L mode σ' τ'
  pub left : ExtTables σ σ'
  pub right : ExtTables τ τ'
  pub is : Is N mode σ' τ' l l'
  pub kept_left : live_of σ'.base.aut.states.words x ≡ l + 1
  pub kept_right : live_of τ'.base.aut.states.words x ≡ l' + 1

-- the sets of the same states are kept in both
pub kept_both : {N : ℕ} {L : Limits} {mode : Mode} {room x : ℕ} {σ₀ τ₀ σ τ : Tables} {f f' : Found} → FoundIs N L mode σ₀ τ₀ σ τ f f' → Reached N L room x σ₀ σ f → Reached N L room x τ₀ τ f'
    → TwinTables N L mode (keep_lives f.states f.live σ) (keep_lives f'.states f'.live τ)
kept_both {N} {L} {mode} {σ = σ} {τ = τ} {f = f} {f' = f'} p R R' =
    kept_twins t k k' (λ i c. more i c (k.each i) (k'.each i)) (λ e i c. equal e i c (k.each i) (k'.each i)) (λ e i c. back e i c (k.each i) (k'.each i))
  where
    t : TwinTables N L mode σ τ
    t = p.onward.twins

    ω : Tables
    ω = keep_lives f.states f.live σ

    ω' : Tables
    ω' = keep_lives f'.states f'.live τ

    k : KeptTo N L f.states f.live σ ω
    k = kept_to R.ordered t.base.left f.states f.live R.links R.lives

    k' : KeptTo N L f'.states f'.live τ ω'
    k' = kept_to R'.ordered t.base.right f'.states f'.live R'.links R'.lives

    Each : Tables → Tables → Found → ℕ → Type 0
    Each ω σ f i = (Memᴰ i f.states × (live_of ω.base.aut.states.words i ≡ f.live i + 1)) ⊎ ((Memᴰ i f.states → ⊥) × (live_of ω.base.aut.states.words i ≡ live_of σ.base.aut.states.words i))

    more : (i : ℕ) → 0 < live_of ω'.base.aut.states.words i → Each ω σ f i → Each ω' τ f' i → 0 < live_of ω.base.aut.states.words i
    more i c (inl (m, q)) y = omega (arith, q)
    more i c (inr (n, q)) (inl (m, r)) = absurd (n (subst (Memᴰ i) (sym p.states) m))
    more i c (inr (n, q)) (inr (m, r)) = omega (arith, q, t.lives i (omega (arith, r)))

    equal : InStep mode → (i : ℕ) → 0 < live_of ω'.base.aut.states.words i → Each ω σ f i → Each ω' τ f' i → live_of ω.base.aut.states.words i ≡ live_of ω'.base.aut.states.words i
    equal e i c (inl (m, q)) (inl (m', r)) = q ∙ ap (λ (h : ℕ). h + 1) ((p.live i).one e) ∙ sym r
    equal e i c (inl (m, q)) (inr (n, r)) = absurd (n (subst (Memᴰ i) p.states m))
    equal e i c (inr (n, q)) (inl (m, r)) = absurd (n (subst (Memᴰ i) (sym p.states) m))
    equal e i c (inr (n, q)) (inr (m, r)) = q ∙ t.words e i (omega (arith, r)) ∙ sym r

    back : Whole mode → (i : ℕ) → 0 < live_of ω.base.aut.states.words i → Each ω σ f i → Each ω' τ f' i → 0 < live_of ω'.base.aut.states.words i
    back e i c x (inl (m, r)) = omega (arith, r)
    back e i c (inl (m, q)) (inr (n, r)) = absurd (n (subst (Memᴰ i) p.states m))
    back e i c (inr (n, q)) (inr (m, r)) = omega (arith, r, t.all e i (omega (arith, q)))

module _ {N : ℕ} {L : Limits} (lent : ℕ) {mode : Mode} {σ τ : Tables} (t : TwinTables N L mode σ τ) {x : ℕ} (k : x < states σ.base.aut)
    (fresh : InStep mode → 0 < live_of σ.base.aut.states.words x → 0 < live_of τ.base.aut.states.words x)
  where
    abbrev v : ℕ
    v = live_of σ.base.aut.states.words x

    abbrev v' : ℕ
    v' = live_of τ.base.aut.states.words x

    k' : x < states τ.base.aut
    k' = state_same t.base.less.knows.same k

    stored : (ρ : Tables) → 0 < live_of ρ.base.aut.states.words x → live_packets N L lent x ρ ≡ given ρ (live_of ρ.base.aut.states.words x - 1)
    unfolding live_packets
    stored ρ p = simp (lt-ltb 0 (live_of ρ.base.aut.states.words x) p)

    anew : (ρ : Tables) → live_of ρ.base.aut.states.words x ≡ 0 → live_packets N L lent x ρ ≡ live_anew N L lent x ρ
    unfolding live_packets
    anew ρ p = simp (le-ltb 0 (live_of ρ.base.aut.states.words x) (omega arith))

    in_step : Follows (Allowed mode) (λ σ' τ' l l'. TwinTables N L mode σ' τ' × (InStep mode → l ≡ l')) (live_anew N L lent x σ) (live_anew N L lent x τ)
    unfolding live_anew
    in_step = follows_bind (follows_with (ends_gives (sets_ends lent t.left k)) (ends_gives (sets_ends lent t.right k')) (sets_follow lent t x k)) (λ σ₁ τ₁ f f' (p, R, R').
        comes (kept_both p R R', (p.live x).one))

    again : (InStep mode → ⊥) → 0 < v → Follows (Allowed mode) (λ σ' τ' l l'. TwinTables N L mode σ' τ' × (InStep mode → l ≡ l')) (given σ (v - 1)) (live_anew N L lent x τ)
    unfolding live_anew
    again loose p = follows_alone (follows_right (ends_gives (sets_ends lent t.right k')) (sets_alone lent loose t x k p)) (λ τ₁ f (o, R).
        let K : KeptTo N L f.states f.live τ₁ (keep_lives f.states f.live τ₁) = kept_to R.ordered o.alone.twins.base.right f.states f.live R.links R.lives in
        comes (
          kept_twins o.alone.twins (kept_none o.alone.twins.left o.alone.twins.base.left f.live) K
              (λ i c. ⊎_elim (λ (m, q). o.lives i m) (λ (n, q). o.alone.twins.lives i (omega (arith, q))) (K.each i))
              (λ e. absurd (loose e)) (λ e. absurd (loose (whole_steps mode e))),
          λ e. absurd (loose e),
        ))

    both : Follows (Allowed mode) (λ σ' τ' l l'. TwinTables N L mode σ' τ' × (InStep mode → l ≡ l')) (live_packets N L lent x σ) (live_packets N L lent x τ)
    both =
        by_test (ltb 0 v')
        (λ q. let p' : 0 < v' = ltb-true 0 v' q in follows_as (stored σ (t.lives x p')) (stored τ p') (comes (t, λ e. ap (λ (n : ℕ). n - 1) (t.words e x p'))))
        (λ q. let z' : v' ≡ 0 = omega (arith, ltb-false 0 v' q) in
        by_test (ltb 0 v)
        (λ r. let p : 0 < v = ltb-true 0 v r in follows_as (stored σ p) (anew τ z') (by_mode p z' (in-step? mode)))
        (λ r. follows_as (anew σ (omega (arith, ltb-false 0 v r))) (anew τ z') in_step))
      where
        by_mode : 0 < v → v' ≡ 0 → InStep mode ⊎ (InStep mode → ⊥) → Follows (Allowed mode) (λ σ' τ' l l'. TwinTables N L mode σ' τ' × (InStep mode → l ≡ l')) (given σ (v - 1)) (live_anew N L lent x τ)
        by_mode p z (inl e) = absurd (omega (arith, fresh e p))
        by_mode p z (inr e) = again e p

    pub live_follows : Follows (Allowed mode) (LiveIs N L mode x σ τ) (live_packets N L lent x σ) (live_packets N L lent x τ)
    live_follows = follows_map
        (λ σ' τ' l l' ((s, e), p, p'). record {
          twins = s;
          left = p.later;
          right = p'.later;
          is = live_is s (state_grown p.later.grown k) p.set p'.set e;
          kept_left = p.kept;
          kept_right = p'.kept;
        })
        (follows_with (live_goes lent t.left k) (live_goes lent t.right k') both)
