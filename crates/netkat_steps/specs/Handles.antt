-- 01, "The book and its answers": a pair is a (state, packet set) taken from the pending list, as in `is_empty`, the first and the skipped
-- included; the first pair is pending before the budget is looked at. The search as a program does it: a packet set and a relation are handles
-- into a store, each operation on them may make new nodes or be refused, and the pending list has a capacity (24). Its steps are those of
-- `is_empty`, in its order. Laws/Refined.antt: where it is not refused, it reports the plain search's verdict and count.
use Rattle.std.specs.Prelude.{◌≡◌, Bool, not, List, [], ◌∷◌, length, eqb, ltb, ℕ, zero, suc, if◌then◌else◌}
use Rattle.common.specs.Packets.{Set, Relation, all, nothing, ◌∖◌, ◌∪◌, inhabited, image, relates}
use Rattle.common.specs.Outcome.{Outcome, refused, given, Step, return, ◌>>=◌, Gives}
use Rattle.netkat.specs.Lists.{State, Transition}
use Rattle.netkat.specs.Search.{Automaton, Log, Verdict, yes, no, spent, search as plainSearch}

-- ---- the machine

pub record Link (Label : Type 0) : Type 0 where
  pub target : State
  pub label : Label

pub record Entry (Handle : Type 0) : Type 0 where
  pub state : State
  pub packets : Handle

pub record Machine : Type 1 where
  pub Store : Type 0
  pub Handle : Type 0  -- of a packet set
  pub Label : Type 0  -- of a relation
  pub one : Handle
  pub zero : Handle
  pub difference : Handle → Handle → Step Store Handle
  pub union : Handle → Handle → Step Store Handle
  pub is_zero : Handle → Step Store Bool
  pub push : Handle → Label → Step Store Handle
  pub has_image : Handle → Label → Step Store Bool
  pub epsilon : State → Step Store Label
  pub delta : State → Step Store (List (Link Label))
  pub capacity : ℕ  -- of the pending list, in entries

module _ (𝓒 : Machine) where
  open 𝓒 use {Store, Handle, Label, one, difference, union, is_zero, push, has_image, epsilon, delta, capacity}

  pub data Turn : Type 0 where
    goes : List (Entry Handle) → (State → Handle) → Turn
    found : Turn

  -- One more entry, or refusal 24.
  abbrev pub put : State → Handle → List (Entry Handle) → Step Store (List (Entry Handle))
  put s x pending = if ltb (length pending) capacity then return (record { state = s; packets = x } ∷ pending) else λ σ. refused 24

  unfoldable pub walk : Handle → List (Link Label) → List (Entry Handle) → Step Store (List (Entry Handle))
  walk fresh [] pending = return pending
  walk fresh (t ∷ ts) pending = do
    next ← push fresh t.label
    zero? ← is_zero next
    pending' ← if zero? then return pending else put t.target next pending
    walk fresh ts pending'

  -- The fresh packets become seen at s; epsilon is asked for, and then the list.
  unfoldable pub expand : State → Handle → List (Entry Handle) → (State → Handle) → Step Store Turn
  expand s fresh rest seen = do
    both ← union (seen s) fresh
    e ← epsilon s
    has ← has_image fresh e
    if has then return found else do
      list ← delta s
      pending ← walk fresh list rest
      return (goes pending (λ t. if eqb s t then both else seen t))

  unfoldable pub turn : Entry Handle → List (Entry Handle) → (State → Handle) → Step Store Turn
  turn entry rest seen = do
    fresh ← difference entry.packets (seen entry.state)
    zero? ← is_zero fresh
    if zero? then return (goes rest seen) else expand entry.state fresh rest seen

  abbrev pub onward : (List (Entry Handle) → (State → Handle) → Step Store (Verdict × ℕ)) → ℕ → Turn → Step Store (Verdict × ℕ)
  onward go count (goes pending seen) = go pending seen
  onward go count found = return (no, count)

  unfoldable pub run : ℕ → List (Entry Handle) → (State → Handle) → ℕ → Step Store (Verdict × ℕ)
  run zero [] seen count = return (yes, count)
  run zero (entry ∷ rest) seen count = return (spent, count)
  run (suc left) [] seen count = return (yes, count)
  run (suc left) (entry ∷ rest) seen count = turn entry rest seen >>= onward (λ pending seen. run left pending seen (suc count)) (suc count)

  -- The first pair is pending before the budget is looked at.
  unfoldable pub search : ℕ → State → Step Store (Verdict × ℕ)
  search budget s = put s one [] >>= λ pending. run budget pending (λ t. 𝓒.zero) 0

-- ---- when a machine works for an automaton

-- What the handles stand for. `Is σ h x`: in the store σ the handle h stands for the set x.
-- `Agrees σ τ`: the machine's store σ is well formed, and has made what the automaton's store τ has.
pub record Reading {n : ℕ} (𝓒 : Machine) (𝓐 : Automaton n) : Type 1 where
  pub Agrees : 𝓒.Store → 𝓐.Store → Type 0
  pub Known : 𝓒.Store → State → Type 0
  pub Is : 𝓒.Store → 𝓒.Handle → Set n → Type 0
  pub IsLabel : 𝓒.Store → 𝓒.Label → Relation n → Type 0

pub data Alike {A B : Type 0} (R : A → B → Type 0) : List A → List B → Type 0 where
  none : Alike R [] []
  also : {a : A} {b : B} {l : List A} {m : List B} → R a b → Alike R l m → Alike R (a ∷ l) (b ∷ m)

module _ {n : ℕ} {𝓒 : Machine} {𝓐 : Automaton n} (𝓡 : Reading 𝓒 𝓐) where
  -- A step from σ to σ' takes nothing away, and changes no meaning.
  pub record Grows (σ σ' : 𝓒.Store) : Type 0 where
    pub known : (s : State) → 𝓡.Known σ s → 𝓡.Known σ' s
    pub is : (h : 𝓒.Handle) (x : Set n) → 𝓡.Is σ h x → 𝓡.Is σ' h x
    pub is_label : (l : 𝓒.Label) (r : Relation n) → 𝓡.IsLabel σ l r → 𝓡.IsLabel σ' l r

  -- a link stands for a transition: one target, and the label's relation
  pub record IsLink (σ : 𝓒.Store) (link : Link 𝓒.Label) (t : Transition State n) : Type 0 where
    pub target : link.target ≡ t.target
    pub known : 𝓡.Known σ link.target
    pub label : 𝓡.IsLabel σ link.label t.label

  -- What a step gives is right: the store has grown, still agrees with τ, and what was made is as it should be.
  pub record Makes (σ σ' : 𝓒.Store) (τ : 𝓐.Store) (Right : Type 0) : Type 0 where
    pub grows : Grows σ σ'
    pub agrees : 𝓡.Agrees σ' τ
    pub right : Right

-- Each operation does what its name says, unless it is refused; and where epsilon and delta are not refused, the automaton's are not.
pub record Implements {n : ℕ} (𝓒 : Machine) (𝓐 : Automaton n) (𝓡 : Reading 𝓒 𝓐) : Type 0 where
  pub one_works : {σ : 𝓒.Store} {τ : 𝓐.Store} → 𝓡.Agrees σ τ → 𝓡.Is σ 𝓒.one all
  pub zero_works : {σ : 𝓒.Store} {τ : 𝓐.Store} → 𝓡.Agrees σ τ → 𝓡.Is σ 𝓒.zero nothing
  pub difference_works : {σ : 𝓒.Store} {τ : 𝓐.Store} {g h : 𝓒.Handle} {x y : Set n} → 𝓡.Agrees σ τ → 𝓡.Is σ g x → 𝓡.Is σ h y →
      Gives (λ σ' k. Makes 𝓡 σ σ' τ (𝓡.Is σ' k (x ∖ y))) (𝓒.difference g h σ)
  pub union_works : {σ : 𝓒.Store} {τ : 𝓐.Store} {g h : 𝓒.Handle} {x y : Set n} → 𝓡.Agrees σ τ → 𝓡.Is σ g x → 𝓡.Is σ h y →
      Gives (λ σ' k. Makes 𝓡 σ σ' τ (𝓡.Is σ' k (x ∪ y))) (𝓒.union g h σ)
  pub is_zero_works : {σ : 𝓒.Store} {τ : 𝓐.Store} {h : 𝓒.Handle} {x : Set n} → 𝓡.Agrees σ τ → 𝓡.Is σ h x →
      Gives (λ σ' b. Makes 𝓡 σ σ' τ (b ≡ not (inhabited x))) (𝓒.is_zero h σ)
  pub push_works : {σ : 𝓒.Store} {τ : 𝓐.Store} {h : 𝓒.Handle} {l : 𝓒.Label} {x : Set n} {r : Relation n} → 𝓡.Agrees σ τ → 𝓡.Is σ h x → 𝓡.IsLabel σ l r →
      Gives (λ σ' k. Makes 𝓡 σ σ' τ (𝓡.Is σ' k (image x r))) (𝓒.push h l σ)
  pub has_image_works : {σ : 𝓒.Store} {τ : 𝓐.Store} {h : 𝓒.Handle} {l : 𝓒.Label} {x : Set n} {r : Relation n} → 𝓡.Agrees σ τ → 𝓡.Is σ h x → 𝓡.IsLabel σ l r →
      Gives (λ σ' b. Makes 𝓡 σ σ' τ (b ≡ relates r x)) (𝓒.has_image h l σ)
  pub epsilon_works : {σ : 𝓒.Store} {τ : 𝓐.Store} {s : State} → 𝓡.Agrees σ τ → 𝓡.Known σ s →
      Gives (λ σ' l. (τ' : 𝓐.Store) × (e : Relation n) × (𝓐.epsilon s τ ≡ given τ' e) × Makes 𝓡 σ σ' τ' (𝓡.IsLabel σ' l e)) (𝓒.epsilon s σ)
  pub delta_works : {σ : 𝓒.Store} {τ : 𝓐.Store} {s : State} → 𝓡.Agrees σ τ → 𝓡.Known σ s →
      Gives (λ σ' links. (τ' : 𝓐.Store) × (list : List (Transition State n)) × (𝓐.delta s τ ≡ given τ' list) × Makes 𝓡 σ σ' τ' (Alike (IsLink 𝓡 σ') links list)) (𝓒.delta s σ)

-- ---- what is promised: a search of the machine that is not refused reports the verdict and the count of the plain search

module _ {n : ℕ} {𝓒 : Machine} {𝓐 : Automaton n} (𝓡 : Reading 𝓒 𝓐) where
  -- What the machine reports, r, is what the plain search came to, o.
  pub record Reports (o : Outcome 𝓐.Store (Verdict × Log n)) (σ' : 𝓒.Store) (r : Verdict × ℕ) : Type 0 where
    pub store : 𝓐.Store
    pub log : Log n
    pub came_to : o ≡ given store (r.0, log)
    pub counted : log.count ≡ r.1
    pub agrees : 𝓡.Agrees σ' store

  abbrev pub Refines : Type 0
  Refines = (budget : ℕ) (s : State) (σ : 𝓒.Store) (τ : 𝓐.Store) → 𝓡.Agrees σ τ → 𝓡.Known σ s → Gives (Reports (plainSearch 𝓐 budget s τ)) (search 𝓒 budget s σ)
