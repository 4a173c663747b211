-- 01, "Lent tables": while live sets are worked out, word 9 of a state is its set + 1 if it is reached, and 0 if not; the pending table holds `states` in the second words of its entries, in the order of
-- the visits, and `todo` in the first words, the last on top. What single functions write, in words.
use Rattle.std.specs.Prelude.{◌≡◌, ◌≢◌, List, [], ◌∷◌, ℕ, zero, suc, ◌+◌, ◌*◌, ◌-◌, ◌/◌, ◌≤◌, ◌<◌, eqb, ltb, length, get_or, set, Option, Some, None, if◌then◌else◌}
use Rattle.common.specs.Packets.{any}
use Rattle.netkat_steps.specs.ListSteps.{Edge}
use Rattle.sp_steps.specs.Model as Sp
use Rattle.sp_steps.specs.Wf as SpLaws
use Rattle.aut_st_steps.specs.Places.{put_edge}
use Rattle.aut_query_steps.specs.Tables.{Tables}
use Rattle.aut_query_steps.specs.Search.{capacity}
use Rattle.aut_states.specs.declared.Limits.{Limits}
use Rattle.aut_query_calls.specs.Working.{Working}

-- ---- states and pending entries

unfoldable pub work_of : List ℕ → ℕ → ℕ
work_of st x = get_or st (12 * x + 9) 0

-- the live sets under work; empty where a state is not reached
unfoldable pub live_by : ℕ → List ℕ → ℕ → ℕ
live_by N st x = if ltb 0 (work_of st x) then work_of st x - 1 else Sp.zero_at N

-- the second words of k entries from a on
unfoldable pub seconds : List ℕ → ℕ → ℕ → List ℕ
seconds p a zero = []
seconds p a (suc k) = get_or p (2 * a + 1) 0 ∷ seconds p (a + 1) k

-- the first words of m entries, the last one first
unfoldable pub stack : List ℕ → ℕ → List ℕ
stack p zero = []
stack p (suc m) = get_or p (2 * m) 0 ∷ stack p m

-- n states are reached, and m wait in `todo`
pub record Held (N : ℕ) (l : Limits) (σ : Tables) (s p : List ℕ) (n m : ℕ) : Type 0 where
  pub working : Working N l σ s
  pub marked : (x : ℕ) → any (eqb x) (seconds p 0 n) ≡ ltb 0 (work_of σ.base.aut.states.words x)
  pub sets : (x : ℕ) → 0 < work_of σ.base.aut.states.words x → SpLaws.ValidAt σ.sets N (work_of σ.base.aut.states.words x - 1)
  pub rest : (x w : ℕ) → 8 ≤ w → w < 12 → w ≢ 9 → get_or σ.base.aut.states.words (12 * x + w) 0 ≡ 0
  pub todo : (i : ℕ) → m ≤ i → get_or p (2 * i) 0 ≡ 0
  pub after : (i : ℕ) → n ≤ i → get_or p (2 * i + 1) 0 ≡ 0
  pub room : n ≤ capacity (length p / 2)
  pub high : m ≤ capacity (length p / 2)

-- while states are visited both words of an entry are its state
abbrev pub Doubled : List ℕ → ℕ → Type 0
Doubled p n = (i : ℕ) → i < n → get_or p (2 * i) 0 ≡ get_or p (2 * i + 1) 0

-- ---- what is written

-- y is reached: it is there already, or it gets an entry and the empty set, or there is no entry for it
pub data Reaches (N : ℕ) (most n y : ℕ) (st p : List ℕ) : Option ℕ → List ℕ → List ℕ → Type 0 where
  there : 0 < work_of st y → Reaches N most n y st p (Some n) st p
  new : work_of st y ≡ 0 → n < most → Reaches N most n y st p (Some (n + 1)) (set st (12 * y + 9) (Sp.zero_at N + 1)) (put_edge p n y y)
  full : work_of st y ≡ 0 → most ≤ n → Reaches N most n y st p None st p

-- .. and all targets of a list
pub data Enqueues (N : ℕ) (most : ℕ) : List Edge → ℕ → List ℕ → List ℕ → Option ℕ → List ℕ → List ℕ → Type 0 where
  none : {n : ℕ} {st p : List ℕ} → Enqueues N most [] n st p (Some n) st p
  one : {e : Edge} {es : List Edge} {n k : ℕ} {st p st₁ p₁ st₂ p₂ : List ℕ} {r : Option ℕ} → Reaches N most n e.target st p (Some k) st₁ p₁ → Enqueues N most es k st₁ p₁ r st₂ p₂ → Enqueues N most (e ∷ es) n st p r st₂ p₂
  over : {e : Edge} {es : List Edge} {n : ℕ} {st p st₁ p₁ : List ℕ} → Reaches N most n e.target st p None st₁ p₁ → Enqueues N most (e ∷ es) n st p None st₁ p₁

-- the set of s is h: it was already, or s gets it and goes on `todo`, or there is no entry
pub data Enlarges (most m s h : ℕ) (st p : List ℕ) : Option ℕ → List ℕ → List ℕ → Type 0 where
  same : h ≡ work_of st s - 1 → Enlarges most m s h st p (Some m) st p
  more : (h ≡ work_of st s - 1 → ⊥) → m < most → Enlarges most m s h st p (Some (m + 1)) (set st (12 * s + 9) (h + 1)) (set p (2 * m) s)
  full : (h ≡ work_of st s - 1 → ⊥) → most ≤ m → Enlarges most m s h st p None st p

-- words b from words a
unfoldable pub copy_words : (a b : ℕ) → List ℕ → List ℕ → List ℕ
copy_words a b [] st = st
copy_words a b (x ∷ xs) st = copy_words a b xs (set st (12 * x + b) (get_or st (12 * x + a) 0))

-- words 9 zero
unfoldable pub clear_words : List ℕ → List ℕ → List ℕ
clear_words [] st = st
clear_words (x ∷ xs) st = clear_words xs (set st (12 * x + 9) 0)

-- the second words of n entries are zero
pub record Cleared (n : ℕ) (p p' : List ℕ) : Type 0 where
  pub first : (i : ℕ) → get_or p' (2 * i) 0 ≡ get_or p (2 * i) 0
  pub within : (i : ℕ) → i < n → get_or p' (2 * i + 1) 0 ≡ 0
  pub beyond : (i : ℕ) → n ≤ i → get_or p' (2 * i + 1) 0 ≡ get_or p (2 * i + 1) 0
