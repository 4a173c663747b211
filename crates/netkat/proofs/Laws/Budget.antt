-- What the budget does: it stops a search that needs more, and changes nothing else.
use mathlib.Core.Path.{◌≡◌, refl, sym, ◌∙◌, ap}
use mathlib.Core.Logic.{◌⊎◌, inl, inr}
use mathlib.Core.List.{List, [], ◌∷◌}
use Prim.Native.Nat.{ℕ, zero, suc, ◌+◌, ◌≤◌, ◌<◌}
use native.Mathlib.Nat.{lt_of_not-le}
use native.Mathlib.Omega.{arith}
use Rattle.common.specs.Outcome.{Outcome, refused, given, after, Gives}
use Rattle.netkat.specs.Lists.{State}
use Rattle.netkat.specs.Search.{Automaton, Pair, Log, Verdict, yes, no, spent, Turn, goes, found, turn, onward, run, search, first, start}
use Rattle.netkat.specs.Promise.{Spent, Needs, Budgeted}
use Rattle.common.proofs.Follow.{it_gives, given_of, given_same, refused≢given}
use Rattle.netkat.proofs.Laws.Runs.{Went, went, skipped, ended, walked_on, KeptByTurns, Ends, run_ends}

pub yes≢spent : ¬ (yes ≡ spent)
yes≢spent e = let z : ◌≡◌ {A = ℕ} 0 1 = cc in omega arith

pub no≢spent : ¬ (no ≡ spent)
no≢spent e = let z : ◌≡◌ {A = ℕ} 0 1 = cc in omega arith

pub yes≢no : ¬ (yes ≡ no)
yes≢no e = let z : ◌≡◌ {A = ℕ} 0 1 = cc in omega arith

module _ {n : ℕ} (𝓐 : Automaton n) where
  open 𝓐 use {Store}

  abbrev Answer : Type 0
  Answer = Outcome Store (Verdict × Log n)

  goes_count : {pair : Pair n} {rest : List (Pair n)} {log : Log n} {σ σ' : Store} {pending : List (Pair n)} {log' : Log n} →
      Went 𝓐 pair rest log σ σ' (goes pending log') → log'.count ≡ suc log.count
  goes_count (skipped f) = refl
  goes_count (walked_on f h r d) = refl

  found_count : {pair : Pair n} {rest : List (Pair n)} {log : Log n} {σ σ' : Store} {log' : Log n} →
      Went 𝓐 pair rest log σ σ' (found log') → log'.count ≡ suc log.count
  found_count (ended f h r) = refl

  -- ---- the count and what is left of the budget

  module _ (budget : ℕ) where
    abbrev Left : ℕ → Store → List (Pair n) → Log n → Type 0
    Left left σ pending log = log.count + left ≡ budget

    left_kept : KeptByTurns 𝓐 Left
    left_kept left σ pair rest log i σ' pending log' w = omega (arith, goes_count w)

    abbrev pub Counted : Verdict → ℕ → Type 0
    Counted yes k = k ≤ budget
    Counted no k = k ≤ budget
    Counted spent k = k ≡ budget

    counted : (σ : Store) (v : Verdict) (log : Log n) → Ends 𝓐 Left σ v log → Counted v log.count
    counted σ yes log (left, i) = omega arith
    counted σ no log (left, σ₁, pair, rest, log₁, i, w) = omega (arith, found_count w)
    counted σ spent log (pair, rest, i) = omega arith

    pub search_counted : (s : State) (σ σ' : Store) (v : Verdict) (log : Log n) → search 𝓐 budget s σ ≡ given σ' (v, log) → Counted v log.count
    unfolding search
    search_counted s σ σ' v log h = counted σ' v log (given_of (run_ends 𝓐 Left left_kept budget (first s) start σ (omega arith)) h)

  -- ---- a run that is not stopped by its budget goes the same way on a larger one

  abbrev Unspent : Answer → Type 0
  Unspent o = (σ' : Store) (log' : Log n) → ¬ (o ≡ given σ' (spent, log'))

  settled_run : (left more : ℕ) → left ≤ more → (pending : List (Pair n)) (log : Log n) (σ : Store) → Unspent (run 𝓐 left pending log σ) →
      run 𝓐 more pending log σ ≡ run 𝓐 left pending log σ
  unfolding run
  settled_run zero zero l [] log σ u = refl
  settled_run zero (suc more) l [] log σ u = refl
  settled_run zero more l (pair ∷ rest) log σ u = absurd (u σ log refl)
  settled_run (suc left) zero l pending log σ u = absurd (omega arith)
  settled_run (suc left) (suc more) l [] log σ u = refl
  settled_run (suc left) (suc more) l (pair ∷ rest) log σ u = go (turn 𝓐 pair rest log σ) u (λ pending log σ. settled_run left more (omega arith) pending log σ)
    where
      go : (o : Outcome Store (Turn n)) → Unspent (after o (onward 𝓐 (run 𝓐 left))) →
          ((pending : List (Pair n)) (log : Log n) (σ : Store) → Unspent (run 𝓐 left pending log σ) → run 𝓐 more pending log σ ≡ run 𝓐 left pending log σ) →
          after o (onward 𝓐 (run 𝓐 more)) ≡ after o (onward 𝓐 (run 𝓐 left))
      go (refused number) u rec = refl
      go (given σ' (goes pending log')) u rec = rec pending log' σ' u
      go (given σ' (found log')) u rec = refl

  -- ---- what is spent on a budget is spent on a smaller one

  abbrev SpentIn : Answer → Type 0
  SpentIn o = (σ' : Store) × (log' : Log n) × (o ≡ given σ' (spent, log'))

  spent_below_run : (left less : ℕ) → less ≤ left → (pending : List (Pair n)) (log : Log n) (σ : Store) → SpentIn (run 𝓐 left pending log σ) →
      SpentIn (run 𝓐 less pending log σ)
  unfolding run
  spent_below_run zero zero l pending log σ u = u
  spent_below_run (suc left) zero l [] log σ (σ', log', e) = absurd (yes≢spent (ap (λ r. r.0) (given_same e)))
  spent_below_run (suc left) zero l (pair ∷ rest) log σ u = (σ, log, refl)
  spent_below_run zero (suc less) l pending log σ u = absurd (omega arith)
  spent_below_run (suc left) (suc less) l [] log σ (σ', log', e) = absurd (yes≢spent (ap (λ r. r.0) (given_same e)))
  spent_below_run (suc left) (suc less) l (pair ∷ rest) log σ u =
      go (turn 𝓐 pair rest log σ) u (λ pending log σ. spent_below_run left less (omega arith) pending log σ)
    where
      go : (o : Outcome Store (Turn n)) → SpentIn (after o (onward 𝓐 (run 𝓐 left))) →
          ((pending : List (Pair n)) (log : Log n) (σ : Store) → SpentIn (run 𝓐 left pending log σ) → SpentIn (run 𝓐 less pending log σ)) →
          SpentIn (after o (onward 𝓐 (run 𝓐 less)))
      go (refused number) (σ', log', e) rec = (σ', log', e)
      go (given σ₁ (goes pending log₁)) u rec = rec pending log₁ σ₁ u
      go (given σ₁ (found log₁)) (σ', log', e) rec = (σ', log', e)

  -- ---- an answer comes already on a budget of the pairs that it took

  just_run : (left : ℕ) (pending : List (Pair n)) (log : Log n) (σ σ' : Store) (v : Verdict) (log' : Log n) → ¬ (v ≡ spent) →
      run 𝓐 left pending log σ ≡ given σ' (v, log') → (j : ℕ) × (log'.count ≡ log.count + j) × (run 𝓐 j pending log σ ≡ given σ' (v, log'))
  unfolding run
  just_run zero [] log σ σ' v log' u e = (0, omega (arith, ap (λ r. r.1.count) (given_same e)), e)
  just_run zero (pair ∷ rest) log σ σ' v log' u e = absurd (u (ap (λ r. r.0) (sym (given_same e))))
  just_run (suc left) [] log σ σ' v log' u e = (0, omega (arith, ap (λ r. r.1.count) (given_same e)), e)
  just_run (suc left) (pair ∷ rest) log σ σ' v log' u e =
      let (j, c, d) = go (turn 𝓐 pair rest log σ) (went 𝓐 pair rest log σ) e (λ pending log₁ σ₁ e. just_run left pending log₁ σ₁ σ' v log' u e) in
      (suc j, c, d)
    where
      go : (o : Outcome Store (Turn n)) → Gives (Went 𝓐 pair rest log σ) o → after o (onward 𝓐 (run 𝓐 left)) ≡ given σ' (v, log') →
          ((pending : List (Pair n)) (log₁ : Log n) (σ₁ : Store) → run 𝓐 left pending log₁ σ₁ ≡ given σ' (v, log') →
          (j : ℕ) × (log'.count ≡ log₁.count + j) × (run 𝓐 j pending log₁ σ₁ ≡ given σ' (v, log'))) →
          (j : ℕ) × (log'.count ≡ log.count + suc j) × (after o (onward 𝓐 (run 𝓐 j)) ≡ given σ' (v, log'))
      go (refused number) w e rec = absurd (refused≢given e)
      go (given σ₁ (goes pending log₁)) w e rec =
          let (j, c, d) = rec pending log₁ σ₁ e in
          (j, omega (arith, goes_count (it_gives w)), d)
      go (given σ₁ (found log₁)) w e rec = (0, omega (arith, found_count (it_gives w), ap (λ r. r.1.count) (given_same e)), e)

  -- ---- the promise

  module _ (σ : Store) (s : State) where
    -- an answer on a budget: spent or not
    by_answer : (o : Answer) → SpentIn o ⊎ Unspent o
    by_answer (refused number) = inr (λ σ' log' e. refused≢given e)
    by_answer (given σ₁ (yes, log₁)) = inr (λ σ' log' e. yes≢spent (ap (λ r. r.0) (given_same e)))
    by_answer (given σ₁ (no, log₁)) = inr (λ σ' log' e. no≢spent (ap (λ r. r.0) (given_same e)))
    by_answer (given σ₁ (spent, log₁)) = inl (σ₁, log₁, refl)

    spent_of : (budget : ℕ) → SpentIn (search 𝓐 budget s σ) → Spent 𝓐 σ s budget
    spent_of budget (σ', log', e) = (σ', log', e, search_counted budget s σ σ' spent log' e)

    settled : (budget more : ℕ) → budget ≤ more → Unspent (search 𝓐 budget s σ) → search 𝓐 more s σ ≡ search 𝓐 budget s σ
    unfolding search
    settled budget more l u = settled_run budget more l (first s) start σ u

    below : (budget less : ℕ) → less ≤ budget → SpentIn (search 𝓐 budget s σ) → SpentIn (search 𝓐 less s σ)
    unfolding search
    below budget less l u = spent_below_run budget less l (first s) start σ u

    -- on a budget of the pairs that it needs the search answers
    just : (k : ℕ) → Needs 𝓐 σ s k → (σ' : Store) × (v : Verdict) × (log : Log n) × (search 𝓐 k s σ ≡ given σ' (v, log)) × (¬ (v ≡ spent)) × (log.count ≡ k)
    unfolding search
    just k (budget, σ', v, log, e, u, c) =
        let (j, d, r) = just_run budget (first s) start σ σ' v log u e in
        let at_j : j ≡ k = omega arith in
        (σ', v, log, rw at_j at r, u, c)

    unspent : (budget : ℕ) {σ' : Store} {v : Verdict} {log : Log n} → search 𝓐 budget s σ ≡ given σ' (v, log) → ¬ (v ≡ spent) → Unspent (search 𝓐 budget s σ)
    unspent budget e u σ₁ log₁ e₁ = u (ap (λ r. r.0) (given_same (sym e ∙ e₁)))

    more_needed : (k : ℕ) → Needs 𝓐 σ s k → (budget : ℕ) → Spent 𝓐 σ s budget → budget < k
    more_needed k needs budget (σ₁, log₁, e₁, c₁) =
        let (σ', v, log, e, u, c) = just k needs in
        lt_of_not-le (λ l. unspent k e u σ₁ log₁ (sym (settled k budget l (unspent k e u)) ∙ e₁))

    spent_if_less : (k : ℕ) → Needs 𝓐 σ s k → (budget : ℕ) → budget < k → Spent 𝓐 σ s budget
    spent_if_less k needs budget l = go (by_answer (search 𝓐 budget s σ)) (just k needs)
      where
        too_many : (v : Verdict) → ¬ (v ≡ spent) → Counted budget v k → ⊥
        too_many yes u h = omega arith
        too_many no u h = omega arith
        too_many spent u h = u refl

        go : SpentIn (search 𝓐 budget s σ) ⊎ Unspent (search 𝓐 budget s σ) →
            (σ' : Store) × (v : Verdict) × (log : Log n) × (search 𝓐 k s σ ≡ given σ' (v, log)) × (¬ (v ≡ spent)) × (log.count ≡ k) → Spent 𝓐 σ s budget
        go (inl h) t = spent_of budget h
        go (inr h) (σ', v, log, e, u, c) =
            let same : search 𝓐 budget s σ ≡ given σ' (v, log) = sym (settled budget k (omega arith) h) ∙ e in
            absurd (too_many v u (rw c at (search_counted budget s σ σ' v log same)))

    pub budgeted : Budgeted 𝓐 σ s
    budgeted = record {
      spent_iff = λ k needs budget. (more_needed k needs budget, spent_if_less k needs budget);
      spent_count = λ budget σ' log e. search_counted budget s σ σ' spent log e;
      spent_below = λ budget less l u. spent_of less (below budget less l (u.0, u.1, u.2));
      settled = settled;
    }
