-- 01, "Lent tables" (the pending table, state word 8) and `is_empty`: how the search stands in words, and what is written there.
use Rattle.std.specs.Prelude.{◌≡◌, List, [], ◌∷◌, ℕ, zero, suc, ◌+◌, ◌*◌, ◌-◌, ◌/◌, ◌≤◌, ◌<◌, eqb, length, get_or, set, if◌then◌else◌, Option, Some, None}
use Rattle.netkat_steps.specs.Handles.{Entry}
use Rattle.sp_steps.specs.Model as Sp
use Rattle.aut_query_steps.specs.Tables.{Tables}
use Rattle.aut_query_steps.specs.Search.{capacity}
use Rattle.aut_query_steps.specs.Pending.{Entries}

abbrev pub entry_at : List ℕ → ℕ → Entry ℕ
entry_at p i = record { state = get_or p (2 * i) 0; packets = get_or p (2 * i + 1) 0 }

-- n pending entries, the last first
unfoldable pub entries_of : List ℕ → ℕ → List (Entry ℕ)
entries_of p zero = []
entries_of p (suc n) = entry_at p n ∷ entries_of p n

-- the packets seen at a state: word 8 is their set + 1, or 0
unfoldable pub seen_in : ℕ → List ℕ → ℕ → ℕ
seen_in N st x = if eqb (get_or st (12 * x + 8) 0) 0 then Sp.zero_at N else get_or st (12 * x + 8) 0 - 1

-- the entries are of these tables; behind them the words are 0
pub record Stack (N : ℕ) (σ : Tables) (p : List ℕ) (n : ℕ) : Type 0 where
  pub entries : Entries N σ (entries_of p n)
  pub room : 2 * n ≤ length p
  pub idle : (j : ℕ) → 2 * n ≤ j → get_or p j 0 ≡ 0

-- ---- pending entries, and words cleared

abbrev pub Puts : Option ℕ → List ℕ → ℕ → ℕ → ℕ → List ℕ → Type 0
Puts (Some m) p n t h p' = (m ≡ n + 1) × (n < capacity (length p / 2)) × (p' ≡ set (set p (2 * n) t) (2 * n + 1) h)
Puts None p n t h p' = capacity (length p / 2) ≤ n

-- words 8 of the first n states are 0, all else is as it was
pub record Rested (st : List ℕ) (n : ℕ) (st' : List ℕ) : Type 0 where
  pub zero : (x : ℕ) → x < n → get_or st' (12 * x + 8) 0 ≡ 0
  pub beyond : (x : ℕ) → n ≤ x → get_or st' (12 * x + 8) 0 ≡ get_or st (12 * x + 8) 0
  pub kept : (x w : ℕ) → w < 12 → (w ≡ 8 → ⊥) → get_or st' (12 * x + w) 0 ≡ get_or st (12 * x + w) 0

pub record Emptied (p : List ℕ) (n : ℕ) (p' : List ℕ) : Type 0 where
  pub zero : (j : ℕ) → j < 2 * n → get_or p' j 0 ≡ 0
  pub beyond : (j : ℕ) → 2 * n ≤ j → get_or p' j 0 ≡ get_or p j 0
