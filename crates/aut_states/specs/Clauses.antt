-- What an answer says in the words of the steps, and what the functions ask of the tables.
use Rattle.std.specs.Prelude.{◌≡◌, Bool, false, List, [], ◌∷◌, ℕ, ◌+◌, ◌*◌, ◌≤◌, ◌<◌, max, length, Option, Some, None, Result, if◌then◌else◌}
use Rattle.common.specs.Outcome.{Outcome, refused, given, Step}
use Rattle.common.specs.Runs.{Table, table}
use Rattle.refusal.specs.declared.Refusal.{Refusal}
use Rattle.refusal.specs.Numbers.{outcome}
use Rattle.aut_steps.specs.Tables as M
use Rattle.aut_steps.specs.Tables.{Exprs, exprs, kind_of, op1, op2, words, state_cap, member_cap, room_m}
use Rattle.aut_steps.specs.Intern.{seek, store}
use Rattle.aut_steps.specs.Ascending.{All}
use Rattle.aut_states.specs.declared.Limits.{Limits}
use Rattle.aut_states.specs.declared.States.{States}
use Rattle.aut_states.specs.declared.Members.{Members}

abbrev pub limits_of : Limits → M.Limits
limits_of l = record { nesting = l.nesting; list = l.list; products = l.products; transitions = l.transitions }

abbrev pub states_of : States → Table
states_of s = table s.words.now s.count

abbrev pub members_of : Members → Table
members_of m = table m.words.now m.count

abbrev pub exprs_of : States → Members → Exprs
exprs_of s m = exprs (states_of s) (members_of m)

-- the number of a state, or where a list begins, and the tables at exit
abbrev pub seen : {S : Type 0} → Result ℕ Refusal → S → Outcome S ℕ
seen r σ = outcome (λ i. i) r σ

-- the first of n with f, if there is one
abbrev pub Found : (ℕ → Bool) → ℕ → Option ℕ → Type 0
Found f n (Some i) = (i < n) × (seek f 0 n ≡ i)
Found f n None = seek f 0 n ≡ n

-- a list behind the members in use
unfoldable pub append : List ℕ → Step Table ℕ
append xs m = if room_m m (length xs) then given (store xs m) m.count else refused 23

-- ---- what is asked

pub record Fits (t : List ℕ) (n : ℕ) : Type 0 where
  pub fits : 12 * n ≤ length t
  pub small : n ≤ state_cap

-- where a search for the first of n with f may begin: none before it has f
pub record From (f : ℕ → Bool) (from n : ℕ) : Type 0 where
  pub within : from ≤ n
  pub none : (i : ℕ) → i < from → f i ≡ false

-- the operands are states; those of a state of kind k are earlier states
pub record Ready1 (t : List ℕ) (n k x : ℕ) : Type 0 where
  pub fits : Fits t n
  pub has_x : x < n
  pub earlier : (i : ℕ) → i < n → kind_of t i ≡ k → op1 t i < i

pub record Ready2 (t : List ℕ) (n k x y : ℕ) : Type 0 where
  pub fits : Fits t n
  pub has_x : x < n
  pub has_y : y < n
  pub earlier : (i : ℕ) → i < n → kind_of t i ≡ k → (op1 t i < i) × (op2 t i < i)

-- one above the highest of a list, or h if that is more
unfoldable pub above_l : ℕ → List ℕ → ℕ
above_l h [] = h
above_l h (x ∷ xs) = above_l (max h (x + 1)) xs

-- where state i is of the list kind k, its members are in the table
pub record ListIn (st m : List ℕ) (i k : ℕ) : Type 0 where
  pub within : kind_of st i ≡ k → op1 st i + op2 st i ≤ length m

pub record PushReady (τ : Exprs) : Type 0 where
  pub fits : Fits τ.states.words τ.states.count
  pub small : τ.members.count ≤ member_cap

-- the list has states only, and those of a state of kind k are earlier states
pub record ListAsked (τ : Exprs) (k : ℕ) (xs : List ℕ) : Type 0 where
  pub push : PushReady τ
  pub lists : (i : ℕ) → i < τ.states.count → ListIn τ.states.words τ.members.words i k
  pub has : All (λ x. x < τ.states.count) xs
  pub earlier : (i : ℕ) → i < τ.states.count → kind_of τ.states.words i ≡ k → All (λ x. x < i) (words τ.members.words (op1 τ.states.words i) (op2 τ.states.words i))
