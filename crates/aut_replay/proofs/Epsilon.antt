-- epsilon keeps tables settled, and what is at hand in settled tables is given again in all later ones.
use mathlib.Core.Path.{◌≡◌, refl, sym, ◌∙◌, ap, subst}
use mathlib.Core.List.{List, [], ◌∷◌}
use mathlib.Core.Logic.{◌⊎◌, inl, inr, ⊎_elim}
use Prim.Native.Nat.{ℕ, zero, suc, ◌+◌, ◌*◌, ◌-◌, ◌≤◌, ◌<◌}
use native.Mathlib.Omega.{arith}
use lib.Dec.{eqb, ltb}
use lib.ListN.{get_or}
use borrow.Author.Tests.{eqb-true, eqb-false, ltb-true, ltb-false}
use Rattle.common.specs.Outcome.{Outcome, refused, given, Step, after, Gives, gives, refusal}
use Rattle.common.proofs.Follow.{given_same, refused≢given}
use Rattle.common.specs.Runs as Runs
use Rattle.common.specs.Runs.{Table, placed}
use Rattle.spp_steps.specs.Wf.{Ext, ValidAt}
use Rattle.spp_steps.proofs.Laws.{spp_theory, by_test}
use Rattle.aut_steps.specs.Tables.{SPP, nest, Limits, Aut, put_nodes}
use Rattle.aut_steps.specs.Ascending.{All}
use Rattle.aut_steps.proofs.ListLaws.{all_map, all_with}
use Rattle.aut_steps.specs.Wf.{states, kind, first, second, nesting, members, ExtAut, WfAut}
use Rattle.aut_steps.proofs.Wf.{grown_trans, grown_nodes, kind_grown, first_grown, state_grown}
use Rattle.aut_steps.specs.StepSpec.{Memos}
use Rattle.aut_delta_steps.specs.Epsilon.{epsilon_of, keep_epsilon, epsilon}
use Rattle.aut_delta_steps.proofs.Agree.{agree_given}
use Rattle.aut_delta_steps.specs.Noted.{Noted}
use Rattle.aut_delta_steps.proofs.Noted.{noted_refl, noted_trans, noted_grown, noted_word, written, written_other, written_here, written_grown, written_count}
use Rattle.aut_delta_steps.specs.Wf.{Valued, handle, memo}
use Rattle.aut_delta_steps.proofs.Wf.{valued_noted, valued_reads}
use Rattle.aut_delta_steps.specs.EpsilonSpec.{Ready, Epsiloned}
use Rattle.aut_delta_steps.proofs.EpsilonLaws.{epsilon_goes}
use Rattle.aut_delta_steps.specs.EpsilonReads.{operands_of, work_all, combine_by}
use Rattle.aut_delta_steps.proofs.EpsilonReads.{combine_at, given_store, operands_below, worked_out, epsilon_spp, epsilon_kept, epsilon_works}
use Rattle.aut_replay.specs.Replay.{Later, Again, values, HasEpsilon, epsilon_from, EpsilonKept, Settled, EpsilonDone, EpsilonAgain}
use Rattle.aut_replay.proofs.Runs.{later_refl, grown_later, again_grown, kind_later, first_later}
use Rattle.aut_replay.proofs.Values.{combine_as, combine_runs, operands_later, from_later}

-- the operands of x
abbrev operands_in : Aut → ℕ → List ℕ
operands_in σ x = operands_of σ.states.words σ.members.words x

-- ---- what is at hand stays

-- what is stored in words 4 is as it was
abbrev pub Kept : Aut → Aut → Type 0
Kept σ τ = (i : ℕ) → 0 < epsilon_of σ.states.words i → epsilon_of τ.states.words i ≡ epsilon_of σ.states.words i

module _ {σ τ : Aut} (g : ExtAut σ τ) (k : Kept σ τ) {x : ℕ} (l : x < states σ) where
  pub valued_kept : {e : ℕ} → Valued σ x e → Valued τ x e
  valued_kept (handle a f) = handle (kind_grown g x l ∙ a) (first_grown g x l ∙ f)
  valued_kept (memo n m) = memo (λ q. n (sym (kind_grown g x l) ∙ q)) (k x (omega (arith, m)) ∙ m)

  pub value_kept : HasEpsilon σ x → values τ x ≡ values σ x
  value_kept h = valued_reads (valued_kept h)

  pub has_kept : HasEpsilon σ x → HasEpsilon τ x
  has_kept h = subst (Valued τ x) (sym (value_kept h)) (valued_kept h)

-- a value is at hand
pub has_valued : {σ : Aut} {x e : ℕ} → Valued σ x e → HasEpsilon σ x
has_valued {σ} {x} v = subst (Valued σ x) (sym (valued_reads v)) v

module _ {N : ℕ} {L : Limits} {σ : Aut} (r : Ready N L σ) {x : ℕ} (l : x < states σ) where
  -- what is stored is at hand
  pub has_stored : 0 < epsilon_of σ.states.words x → HasEpsilon σ x
  has_stored m = has_valued {e = epsilon_of σ.states.words x - 1} (memo (λ q. omega (arith, r.epsilons.none x l q)) (omega arith))

  pub stored_valued : {e : ℕ} → (kind σ x ≡ SPP → ⊥) → Valued σ x e → 0 < epsilon_of σ.states.words x
  stored_valued n (handle k f) = absurd (n k)
  stored_valued n (memo k m) = omega (arith, m)

-- ---- settled tables that go on

module _ {N : ℕ} {M : Limits} {σ τ : Aut} (r : Ready N M σ) (w : ExtAut σ τ) (k : Kept σ τ) where
  later : Later σ τ
  later = grown_later w (later_refl τ)

  pub made_kept : {L : Limits} {x : ℕ} → x < states σ → All (λ y. HasEpsilon σ y) (operands_in σ x) → Again N L (epsilon_from N (values σ) σ x) τ (values τ x) → EpsilonKept N L τ x
  made_kept {x = x} l a s = record {
    operands = subst (All (λ y. HasEpsilon τ y)) (sym (operands_later r.good later x l)) (all_with (operands_in σ x) (λ y b h. has_kept w k b.state h) (operands_below r l) a);
    again = record {
      same = λ υ u v.
          from_later r.good later x l (values τ) υ
          ∙ ap (placed put_nodes υ) (combine_as N (values τ) (values σ) (kind σ x) (members σ x) (first σ x) (second σ x) υ.nodes (all_with (operands_in σ x) (λ y b h. value_kept w k b.state h) (operands_below r l) a))
          ∙ s.same υ u v;
    };
  }

  -- each that is stored now was stored, or is kept so
  pub settled_kept : {L : Limits} → Settled N L σ → ((x : ℕ) → x < states τ → 0 < epsilon_of τ.states.words x → ((x < states σ) × (0 < epsilon_of σ.states.words x)) ⊎ EpsilonKept N L τ x) → Settled N L τ
  settled_kept {L} s f = record { epsilons = λ x l m. ⊎_elim (λ (l', m'). old x l' m') (λ e. e) (f x l m) }
    where
      old : (x : ℕ) → x < states σ → 0 < epsilon_of σ.states.words x → EpsilonKept N L τ x
      old x l m =
          let p : EpsilonKept N L σ x = s.epsilons x l m in
          made_kept l p.operands (subst (Again N L (epsilon_from N (values σ) σ x) τ) (sym (value_kept w k l (has_stored r l m))) (again_grown w p.again))

-- a state of which a word is not 0 is there
pub was_there : {N : ℕ} {M : Limits} {σ : Aut} → WfAut N M σ → (x w : ℕ) → 0 < get_or σ.states.words (12 * x + w) 0 → x < states σ
was_there {σ = σ} g x w m =
    by_test (ltb x (states σ)) (λ t. ltb-true x (states σ) t)
    (λ t. absurd (omega (arith, g.fresh (12 * x + w) (omega (arith, ltb-false x (states σ) t)))))

-- constructors and list operations
pub settled_grown : {N : ℕ} {M L : Limits} {σ τ : Aut} → Ready N M σ → Settled N L σ → ExtAut σ τ → Memos σ τ → Settled N L τ
unfolding epsilon_of
settled_grown r s g m =
    settled_kept r g (λ i b. m i 4 (omega arith) (omega arith)) s
    (λ x l b. let q = m x 4 (omega arith) (omega arith) in inl (was_there r.good x 4 (omega (arith, q)), omega (arith, q)))

-- ---- a run of epsilon

-- words 4 of states that are nested d deep or more are as they were
abbrev Above : ℕ → Aut → Aut → Type 0
Above d σ τ = (i : ℕ) → d ≤ nesting σ i → epsilon_of τ.states.words i ≡ epsilon_of σ.states.words i

nesting_noted : {σ τ : Aut} → Noted σ τ → (i : ℕ) → nesting τ i ≡ nesting σ i
unfolding nest
nesting_noted n i = n.words i 3 (omega arith) (λ q. omega arith)

module _ {N : ℕ} {M : Limits} where
  pub ran : {σ τ : Aut} {x e : ℕ} → Ready N M σ → x < states σ → epsilon N x σ ≡ given τ e → Epsiloned N M x σ τ e
  ran r l q = agree_given (epsilon_goes r l) q

  pub ran_ready : {σ τ : Aut} {x e : ℕ} → Epsiloned N M x σ τ e → Ready N M τ
  ran_ready p = record { good = p.found.good; epsilons = p.found.epsilons }

-- what is asked of calls on operands below d
abbrev Settling : ℕ → Limits → Limits → ℕ → Type 0
Settling N M L d = (σ : Aut) → Ready N M σ → Settled N L σ → (x : ℕ) → x < states σ → nesting σ x < d → (τ : Aut) (e : ℕ) → epsilon N x σ ≡ given τ e → Settled N L τ × Above (nesting σ x + 1) σ τ

module _ {N : ℕ} {M L : Limits} where
  settle_all : (d : ℕ) → Settling N M L d → (ys : List ℕ) {σ τ : Aut} → Ready N M σ → Settled N L σ → All (λ y. (y < states σ) × (nesting σ y < d)) ys → work_all (epsilon N) ys σ ≡ given τ tt
      → Settled N L τ × Above d σ τ
  unfolding work_all
  settle_all d f [] {σ} {τ} r s b q = subst (λ (ρ : Aut). Settled N L ρ × Above d σ ρ) (given_store q) (s, λ i m. refl)
  settle_all d f (y ∷ ys) {σ} {τ} r s b q = go (λ ρ. settle_all d f ys {σ = ρ} {τ = τ}) (epsilon N y σ) refl q
    where
      go : ((ρ : Aut) → Ready N M ρ → Settled N L ρ → All (λ y. (y < states ρ) × (nesting ρ y < d)) ys → work_all (epsilon N) ys ρ ≡ given τ tt → Settled N L τ × Above d ρ τ)
          → (o : Outcome Aut ℕ) → epsilon N y σ ≡ o → after o (λ a. work_all (epsilon N) ys) ≡ given τ tt → Settled N L τ × Above d σ τ
      go ih (refused number) e q = absurd (refused≢given q)
      go ih (given ρ a) e q =
          let p : Epsiloned N M y σ ρ a = ran r b.0.0 e in
          let n : Noted σ ρ = p.found.noted in
          let (s₁, u₁) = f σ r s y b.0.0 b.0.1 ρ a e in
          let (s₂, u₂) = ih ρ (ran_ready p) s₁ (all_map ys (λ z c. (state_grown (noted_grown n) c.0, omega (arith, c.1, nesting_noted n z))) b.1) q in
          (s₂, λ i m. u₂ i (omega (arith, nesting_noted n i)) ∙ u₁ i (omega (arith, b.0.1)))

  module _ {σ : Aut} (r : Ready N M σ) (s : Settled N L σ) (x : ℕ) (l : x < states σ) (n : kind σ x ≡ SPP → ⊥) (z : epsilon_of σ.states.words x ≡ 0) (f : Settling N M L (nesting σ x)) where
    abbrev ys : List ℕ
    ys = operands_in σ x

    -- the relation is put together in τ, and stored
    put_together : {τ : Aut} → Noted σ τ → Ready N M τ → Settled N L τ → Above (nesting σ x) σ τ → All (λ y. HasEpsilon τ y × ValidAt τ.nodes N (values τ y)) ys
        → {ρ : Aut} {e : ℕ} → after (combine_at N x τ) (keep_epsilon x) ≡ given ρ e → Settled N L ρ × Above (nesting σ x + 1) σ ρ
    unfolding keep_epsilon epsilon_of
    put_together {τ} m r₁ s₁ u a {ρ} {e} q = go (combine_runs N (values τ) (kind τ x) (members τ x) (first τ x) (second τ x) r₁.good.nodes (subst (All (λ y. ValidAt τ.nodes N (values τ y))) (sym same) (all_map ys (λ y p. p.1) a))) q
      where
        c : Step Table ℕ
        c = combine_by N (values τ) (kind τ x) (members τ x) (first τ x) (second τ x)

        same : operands_in τ x ≡ ys
        same = operands_later r.good (grown_later (noted_grown m) (later_refl τ)) x l

        lx : x < states τ
        lx = state_grown (noted_grown m) l

        go : {o : Outcome Table ℕ} → Gives (Runs.StableResult (spp_theory N) c (λ t h. ValidAt t N h) τ.nodes) o → after (placed put_nodes τ o) (keep_epsilon x) ≡ given ρ e → Settled N L ρ × Above (nesting σ x + 1) σ ρ
        go refusal q = absurd (refused≢given q)
        go (gives {σ = t} {a = h} p) q = subst (λ (κ : Aut). Settled N L κ × Above (nesting σ x + 1) σ κ) (given_store q) (settled, above)
          where
            τ₂ : Aut
            τ₂ = put_nodes t τ

            last : Aut
            last = written τ₂ x 4 (h + 1)

            grown : ExtAut τ last
            grown = grown_trans (grown_nodes {σ = τ} p.ext) (written_grown τ₂ x 4 (h + 1) lx (omega arith) (omega arith))

            other : (i : ℕ) → (i ≡ x → ⊥) → get_or last.states.words (12 * i + 4) 0 ≡ get_or τ.states.words (12 * i + 4) 0
            other i k = written_other τ₂ x 4 (h + 1) (12 * i + 4) (λ j. k (omega arith))

            none : get_or τ.states.words (12 * x + 4) 0 ≡ 0
            none = u x (omega arith) ∙ z

            apart : (i : ℕ) → 0 < get_or τ.states.words (12 * i + 4) 0 → i ≡ x → ⊥
            apart i k j = omega (arith, none, ap (λ (i : ℕ). get_or τ.states.words (12 * i + 4) 0) j)

            kept : Kept τ last
            kept i k = other i (apart i k)

            here : get_or last.states.words (12 * x + 4) 0 ≡ h + 1
            here = written_here τ₂ x 4 (h + 1) (omega (arith, r₁.good.fits, lx))

            value : values last x ≡ h
            value = valued_reads {σ = last} (memo (λ j. n (sym (kind_grown (grown_trans (noted_grown m) grown) x l) ∙ j)) here)

            settled : Settled N L last
            settled = settled_kept r₁ grown kept s₁ (λ i b k. by_test (eqb i x)
                (λ j. inr (subst (EpsilonKept N L last) (sym (eqb-true i x j)) (made_kept r₁ grown kept lx (subst (All (λ y. HasEpsilon τ y)) (sym same) (all_map ys (λ y p. p.0) a))
                (subst (Again N L (epsilon_from N (values τ) τ x) last) (sym value) (record { same = λ υ w v. ap (placed put_nodes υ) (p.stable υ.nodes w.nodes v.nodes) })))))
                (λ j. inl (omega (arith, written_count τ₂ x 4 (h + 1)), omega (arith, other i (eqb-false i x j)))))

            above : Above (nesting σ x + 1) σ last
            above i k = other i (λ j. omega (arith, ap (nesting σ) j)) ∙ u i (omega arith)

    works : {ρ : Aut} {e : ℕ} → after (work_all (epsilon N) ys σ) (λ u υ. after (combine_at N x υ) (keep_epsilon x)) ≡ given ρ e → Settled N L ρ × Above (nesting σ x + 1) σ ρ
    works {ρ} {e} q = go (work_all (epsilon N) ys σ) refl q
      where
        go : (o : Outcome Aut Unit) → work_all (epsilon N) ys σ ≡ o → after o (λ u υ. after (combine_at N x υ) (keep_epsilon x)) ≡ given ρ e → Settled N L ρ × Above (nesting σ x + 1) σ ρ
        go (refused number) w q = absurd (refused≢given q)
        go (given τ u) w q =
            let o = worked_out r l w in
            let (s₁, a₁) = settle_all (nesting σ x) f ys r s (all_map ys (λ y b. (b.state, b.lower)) (operands_below r l)) w in
            put_together o.noted o.ready s₁ a₁ (all_map ys (λ y p. (p.valued, p.at)) o.values) q

  settles_by : (d : ℕ) → Settling N M L d
  settles_by zero σ r s x l m τ e q = absurd (omega arith)
  settles_by (suc d) σ r s x l m τ e q =
      by_test (eqb (kind σ x) SPP)
      (λ t. unchanged (given_store (sym (epsilon_spp r l (eqb-true (kind σ x) SPP t)) ∙ q)))
      (λ n. by_test (ltb 0 (epsilon_of σ.states.words x))
      (λ t. unchanged (given_store (sym (epsilon_kept r l (eqb-false (kind σ x) SPP n) (ltb-true 0 _ t)) ∙ q)))
      (λ t. let z : epsilon_of σ.states.words x ≡ 0 = omega (arith, ltb-false 0 (epsilon_of σ.states.words x) t) in
      works r s x l (eqb-false (kind σ x) SPP n) z (λ ρ r₁ s₁ y k b. settles_by d ρ r₁ s₁ y k (omega arith)) (sym (epsilon_works r l (eqb-false (kind σ x) SPP n) z) ∙ q)))
    where
      unchanged : σ ≡ τ → Settled N L τ × Above (nesting σ x + 1) σ τ
      unchanged p = subst (λ (ρ : Aut). Settled N L ρ × Above (nesting σ x + 1) σ ρ) p (s, λ i k. refl)

  pub settles : {σ : Aut} → Ready N M σ → Settled N L σ → {x : ℕ} → x < states σ → {τ : Aut} {e : ℕ} → epsilon N x σ ≡ given τ e → Settled N L τ
  settles {σ} r s {x} l {τ} {e} q = (settles_by (suc (nesting σ x)) σ r s x l (omega arith) τ e q).0

-- ---- the same value wherever it is at hand

module _ {N : ℕ} {M L : Limits} where
  pub values_agree : (d : ℕ) {σ υ : Aut} → Ready N M σ → Settled N L σ → Later σ υ → Ready N L υ → Settled N L υ → {x : ℕ} → x < states σ → nesting σ x < d → {e e' : ℕ}
      → Valued σ x e → Valued υ x e' → e ≡ e'
  values_agree zero r s w r' s' l m v v' = absurd (omega arith)
  values_agree (suc d) r s w r' s' {x} l m (handle k f) (handle k' f') = sym f ∙ sym (first_later w x l) ∙ f'
  values_agree (suc d) r s w r' s' {x} l m (handle k f) (memo k' f') = absurd (k' (kind_later w x l ∙ k))
  values_agree (suc d) r s w r' s' {x} l m (memo k f) (handle k' f') = absurd (k (sym (kind_later w x l) ∙ k'))
  values_agree (suc d) {σ} {υ} r s w r' s' {x} l m (memo k f) (memo k' f') =
      let p : EpsilonKept N L σ x = s.epsilons x l (omega (arith, f)) in
      let p' : EpsilonKept N L υ x = s'.epsilons x (omega (arith, w.more)) (omega (arith, f')) in
      let both : All (λ y. HasEpsilon σ y × HasEpsilon υ y) (operands_in σ x) =
      all_with (operands_in σ x) (λ y a b. (a, b)) p.operands (subst (All (λ y. HasEpsilon υ y)) (operands_later r.good w x l) p'.operands) in
      let same : All (λ y. values σ y ≡ values υ y) (operands_in σ x) =
      all_with (operands_in σ x) (λ y b h. values_agree d r s w r' s' b.state (omega (arith, b.lower)) h.0 h.1) (operands_below r l) both in
      sym (valued_reads {σ = σ} (memo k f))
      ∙ given_same (sym (p.again.same υ w r'.good) ∙ ap (placed put_nodes υ) (combine_as N (values σ) (values υ) (kind σ x) (members σ x) (first σ x) (second σ x) υ.nodes same)
      ∙ sym (from_later r.good w x l (values υ) υ) ∙ p'.again.same υ (later_refl υ) r'.good)
      ∙ valued_reads {σ = υ} (memo k' f')

-- ---- done again

pub later_noted : {σ υ τ : Aut} → Later σ υ → τ.nodes ≡ υ.nodes → Noted υ τ → Later σ τ
later_noted {σ} {υ} {τ} w e n = record {
  nodes = subst (Ext σ.nodes) (sym e) w.nodes;
  more = omega (arith, w.more, n.count);
  words = λ x u l m. n.words x u (omega arith) (λ q. omega arith) ∙ w.words x u l m;
  members = λ i l. ap (λ (m : Table). get_or m.words i 0) n.members ∙ w.members i l;
}

-- on υ, those of a list are given again: v has their values
record AllDone (N : ℕ) (L : Limits) (v : ℕ → ℕ) (σ υ : Aut) (ys : List ℕ) : Type 0 where
  last : Aut
  gives : work_all (epsilon N) ys υ ≡ given last tt
  nodes : last.nodes ≡ υ.nodes
  noted : Noted υ last
  later : Later σ last
  ready : Ready N L last
  given : All (λ y. Valued last y (v y)) ys

module _ {N : ℕ} {L : Limits} {σ : Aut} where
  done_all : (ys : List ℕ)
      → ((υ : Aut) → Later σ υ → Ready N L υ → Settled N L υ → All (λ y. (y < states σ) × EpsilonDone N y υ (values σ y)) ys)
      → (υ : Aut) → Later σ υ → Ready N L υ → Settled N L υ → AllDone N L (values σ) σ υ ys
  unfolding work_all
  done_all [] f υ w r s = record { last = υ; gives = refl; nodes = refl; noted = noted_refl υ; later = w; ready = r; given = tt }
  done_all (y ∷ ys) f υ w r s =
      let (ly, d) = (f υ w r s).0 in
      let p : Epsiloned N L y υ d.last (values σ y) = ran r (omega (arith, w.more)) d.gives in
      let w₁ : Later σ d.last = later_noted w d.nodes d.noted in
      let a : AllDone N L (values σ) σ d.last ys = done_all ys (λ υ w r s. (f υ w r s).1) d.last w₁ (ran_ready p) (settles r s (omega (arith, w.more)) d.gives) in
      record {
        last = a.last;
        gives = ap (λ (o : Outcome Aut ℕ). after o (λ e. work_all (epsilon N) ys)) d.gives ∙ a.gives;
        nodes = a.nodes ∙ d.nodes;
        noted = noted_trans d.noted a.noted;
        later = a.later;
        ready = a.ready;
        given = (valued_noted a.noted (omega (arith, w₁.more)) p.value, a.given);
      }

module _ {N : ℕ} {M L : Limits} {σ : Aut} (r : Ready N M σ) (s : Settled N L σ) where
  pub done_by : (d : ℕ) (x : ℕ) → x < states σ → nesting σ x < d → (e : ℕ) → Valued σ x e → (υ : Aut) → Later σ υ → Ready N L υ → Settled N L υ → EpsilonDone N x υ e
  unfolding keep_epsilon
  done_by zero x l m e v υ w r' s' = absurd (omega arith)
  done_by (suc d) x l m e (handle k f) υ w r' s' = record {
    last = υ;
    gives = epsilon_spp r' (omega (arith, w.more)) (kind_later w x l ∙ k) ∙ ap (given υ) (first_later w x l ∙ f);
    nodes = refl;
    noted = noted_refl υ;
  }
  done_by (suc d) x l m e (memo k f) υ w r' s' =
      by_test (ltb 0 (epsilon_of υ.states.words x))
      (λ t. let c : 0 < epsilon_of υ.states.words x = ltb-true 0 _ t in
      record {
        last = υ;
        gives = epsilon_kept r' l' n' c ∙ ap (given υ) (sym (values_agree (suc d) r s w r' s' l m (memo k f) (memo n' (omega arith))));
        nodes = refl;
        noted = noted_refl υ;
      })
      (λ t. let z : epsilon_of υ.states.words x ≡ 0 = omega (arith, ltb-false 0 (epsilon_of υ.states.words x) t) in
      anew (done_all (operands_in σ x) (λ υ w r' s'. all_with (operands_in σ x) (λ y b h. (b.state, done_by d y b.state (omega (arith, b.lower)) (values σ y) h υ w r' s')) (operands_below r l) p.operands) υ w r' s') z)
    where
      l' : x < states υ
      l' = omega (arith, w.more)

      n' : kind υ x ≡ SPP → ⊥
      n' q = k (sym (kind_later w x l) ∙ q)

      p : EpsilonKept N L σ x
      p = s.epsilons x l (omega (arith, f))

      anew : AllDone N L (values σ) σ υ (operands_in σ x) → epsilon_of υ.states.words x ≡ 0 → EpsilonDone N x υ e
      anew a z = record {
        last = written a.last x 4 (e + 1);
        gives =
            epsilon_works r' l' n' z
            ∙ ap (λ (ys : List ℕ). after (work_all (epsilon N) ys υ) (λ u υ. after (combine_at N x υ) (keep_epsilon x))) (operands_later r.good w x l)
            ∙ ap (λ (o : Outcome Aut Unit). after o (λ u υ. after (combine_at N x υ) (keep_epsilon x))) a.gives
            ∙ ap (λ (o : Outcome Aut ℕ). after o (keep_epsilon x)) together;
        nodes = a.nodes;
        noted = noted_word a.noted x (e + 1) l' z;
      }
        where
          together : combine_at N x a.last ≡ given a.last e
          together =
              from_later r.good a.later x l (values a.last) a.last
              ∙ ap (placed put_nodes a.last) (combine_as N (values a.last) (values σ) (kind σ x) (members σ x) (first σ x) (second σ x) a.last.nodes (all_map (operands_in σ x) (λ y v. valued_reads v) a.given))
              ∙ p.again.same a.last a.later a.ready.good ∙ ap (given a.last) (valued_reads {σ = σ} (memo k f))

pub epsilon_again : (N : ℕ) (L L' : Limits) → EpsilonAgain N L L'
epsilon_again N L L' = record {
  begins = λ σ z. record { epsilons = λ x l m. absurd (omega (arith, z x l)) };
  grows = λ σ r s τ g m. settled_grown r s g m;
  settles = λ σ r s x l τ e q. (settles r s l q, (ran r l q).value);
  again = λ σ r s x e l v υ w r' s'. done_by r s (suc (nesting σ x)) x l (omega arith) e v υ w r' s';
}
