-- aut.rs's operations on transition lists (ST) as steps over a store: a target is a state's number, a label the handle of a relation, and each
-- operation on either may make new records or be refused. 01: a transition list, intermediate ones included, that passes its limit is refused
-- (9); targets ascend. The order of steps is the Rust's. proofs/ListSteps.antt has the law of each: a layer above only has to say what its own
-- operations on labels and states do (`LawfulOps`).
use Rattle.std.specs.Prelude.{◌↔◌, ◌⊎◌, Bool, List, [], ◌∷◌, length, T, eqb, ltb, ℕ, if◌then◌else◌}
use Rattle.common.specs.Packets.{Packet, Relation, any}
use Rattle.common.specs.Relations.{noneʳ, ◌∪ʳ◌, ◌∩ʳ◌, ◌∖ʳ◌, ∁ʳ, ◌⨾◌}
use Rattle.common.specs.Outcome.{refused, Step, return, ◌>>=◌, Gives}
use Rattle.netkat.specs.Strings.{Str}
use Rattle.netkat.specs.Rules.{Language, Join}
use Rattle.netkat.specs.Lists.{State, Transition, to, IsDelta, Ascending}

-- the handle of a relation
abbrev pub Label : Type 0
Label = ℕ

pub record Edge : Type 0 where
  pub target : State
  pub label : Label

abbrev pub edge : State → Label → Edge
edge s l = record { target = s; label = l }

-- ---- the operations on labels and states that the list operations call

pub record Operations : Type 1 where
  pub Store : Type 0
  pub zero : Label  -- the zero relation
  pub union : Label → Label → Step Store Label
  pub intersect : Label → Label → Step Store Label
  pub difference : Label → Label → Step Store Label
  pub sequence : Label → Label → Step Store Label
  pub complement : Label → Step Store Label
  pub mk_union : State → State → Step Store State
  pub mk_intersect : State → State → Step Store State
  pub mk_difference : State → State → Step Store State
  pub mk_sequence : State → State → Step Store State
  pub mk_complement : State → Step Store State
  pub mk_top : Step Store State
  pub mk_zero : Step Store State  -- the zero state: mk_spp of the zero relation
  pub limit : ℕ  -- of a transition list

-- ---- the list operations

-- st_difference on its way: the union of the labels' meets, and the list so far
pub record Summed : Type 0 where
  pub sum : Label
  pub result : List Edge

module _ (𝓞 : Operations) where
  open 𝓞 use {Store, zero, union, intersect, difference, sequence, complement, mk_union, mk_intersect, mk_difference, mk_sequence, mk_complement, mk_top, mk_zero, limit}

  -- whether the list has a transition to s
  abbrev pub leads_to : State → List Edge → Bool
  leads_to s list = any (λ u. eqb s u.target) list

  -- l united with the label of the transition to s
  unfoldable pub unite : State → Label → List Edge → Step Store (List Edge)
  unite s l [] = return []
  unite s l (u ∷ us) = if eqb s u.target then (union u.label l >>= λ m. return (edge u.target m ∷ us)) else (unite s l us >>= λ us'. return (u ∷ us'))

  -- a new transition, at its place by ascending targets
  unfoldable pub enter : State → Label → List Edge → List Edge
  enter s l [] = edge s l ∷ []
  enter s l (u ∷ us) = if ltb s u.target then (edge s l ∷ u ∷ us) else (u ∷ enter s l us)

  -- one more transition, or refusal 9
  unfoldable pub enter_in : State → Label → List Edge → Step Store (List Edge)
  enter_in s l list = if ltb (length list) limit then return (enter s l list) else λ σ. refused 9

  -- st_insert_helper
  unfoldable pub place : State → Label → List Edge → Step Store (List Edge)
  place s l list = if eqb l zero then return list else do
    z ← mk_zero
    if eqb s z then return list else if leads_to s list then unite s l list else enter_in s l list

  -- st_singleton
  unfoldable pub st_singleton : Label → State → Step Store (List Edge)
  st_singleton l s = if eqb l zero then return [] else do
    z ← mk_zero
    if eqb s z then return [] else return (edge s l ∷ [])

  -- st_insert: the walk over what the list has
  unfoldable pub split : State → Label → List Edge → Label → List Edge → Step Store (List Edge)
  split s l [] total result = do
    rest ← difference l total
    place s rest result
  split s l (u ∷ us) total result = do
    meet ← intersect l u.label
    both ← mk_union s u.target
    result₁ ← place both meet result
    total₁ ← union total meet
    others ← difference u.label meet
    result₂ ← place u.target others result₁
    split s l us total₁ result₂

  unfoldable pub insert : State → Label → List Edge → Step Store (List Edge)
  insert s l list = split s l list zero []

  -- for each transition of a list, what is made of it is inserted
  unfoldable pub insert_each : (Edge → Step Store Edge) → List Edge → List Edge → Step Store (List Edge)
  insert_each make [] result = return result
  insert_each make (u ∷ us) result = do
    new ← make u
    result₁ ← insert new.target new.label result
    insert_each make us result₁

  unfoldable pub insert_pairs : (Edge → Edge → Step Store Edge) → List Edge → List Edge → List Edge → Step Store (List Edge)
  insert_pairs make [] us result = return result
  insert_pairs make (t ∷ ts) us result = do
    result₁ ← insert_each (make t) us result
    insert_pairs make ts us result₁

  -- st_union
  unfoldable pub st_union : List Edge → List Edge → Step Store (List Edge)
  st_union ts us = do
    first ← insert_each return ts []
    insert_each return us first

  -- st_intersect: the target is made before the label
  abbrev pub meet_of : Edge → Edge → Step Store Edge
  meet_of t u = do
    x ← mk_intersect t.target u.target
    m ← intersect t.label u.label
    return (edge x m)

  unfoldable pub st_intersect : List Edge → List Edge → Step Store (List Edge)
  st_intersect ts us = insert_pairs meet_of ts us []

  -- st_difference
  unfoldable pub subtract_row : Edge → List Edge → Summed → Step Store Summed
  subtract_row t [] s = return s
  subtract_row t (u ∷ us) s = do
    x ← mk_difference t.target u.target
    m ← intersect t.label u.label
    sum₁ ← union s.sum m
    result₁ ← insert x m s.result
    subtract_row t us (record { sum = sum₁; result = result₁ })

  unfoldable pub subtract_rows : List Edge → List Edge → Summed → Step Store Summed
  subtract_rows [] us s = return s
  subtract_rows (t ∷ ts) us s = do
    s₁ ← subtract_row t us s
    subtract_rows ts us s₁

  abbrev pub rest_of : Label → Edge → Step Store Edge
  rest_of sum t = do
    d ← difference t.label sum
    return (edge t.target d)

  unfoldable pub st_difference : List Edge → List Edge → Step Store (List Edge)
  st_difference ts us = do
    s ← subtract_rows ts us (record { sum = zero; result = [] })
    insert_each (rest_of s.sum) ts s.result

  -- st_xor
  unfoldable pub st_xor : List Edge → List Edge → Step Store (List Edge)
  st_xor ts us = do
    left ← st_difference ts us
    right ← st_difference us ts
    st_union left right

  -- st_complement
  abbrev pub complement_of : Edge → Step Store Edge
  complement_of t = do
    x ← mk_complement t.target
    return (edge x t.label)

  unfoldable pub cover_all : List Edge → Label → Step Store Label
  cover_all [] sum = return sum
  cover_all (t ∷ ts) sum = do
    sum₁ ← union sum t.label
    cover_all ts sum₁

  unfoldable pub st_complement : List Edge → Step Store (List Edge)
  st_complement ts = do
    complements ← insert_each complement_of ts []
    covered ← cover_all ts zero
    rest ← complement covered
    top ← mk_top
    insert top rest complements

  -- st_postcompose
  abbrev pub followed_by : State → Edge → Step Store Edge
  followed_by e t = do
    x ← mk_sequence t.target e
    return (edge x t.label)

  unfoldable pub st_postcompose : List Edge → State → Step Store (List Edge)
  st_postcompose ts e = insert_each (followed_by e) ts []

  -- st_precompose
  abbrev pub after : Label → Edge → Step Store Edge
  after l t = do
    m ← sequence l t.label
    return (edge t.target m)

  unfoldable pub st_precompose : Label → List Edge → Step Store (List Edge)
  st_precompose l ts = insert_each (after l) ts []

  -- st_intersect_expr
  abbrev pub met_with : State → Edge → Step Store Edge
  met_with e t = do
    x ← mk_intersect t.target e
    return (edge x t.label)

  unfoldable pub st_intersect_expr : List Edge → State → Step Store (List Edge)
  st_intersect_expr ts e = insert_each (met_with e) ts []

-- ---- what states and labels mean in a store

pub record Readings (n : ℕ) (𝓞 : Operations) : Type 1 where
  pub Good : 𝓞.Store → Type 0  -- well formed
  pub Known : 𝓞.Store → State → Type 0  -- made there
  pub Holds : 𝓞.Store → State → Language n
  pub IsLabel : 𝓞.Store → Label → Relation n → Type 0

module _ {n : ℕ} {𝓞 : Operations} (𝓡 : Readings n 𝓞) where
  open 𝓡 use {Good, Known, Holds, IsLabel}

  -- The store σ' is well formed, and what σ has means in σ' what it meant.
  pub record Later (σ σ' : 𝓞.Store) : Type 0 where
    pub good : Good σ'
    pub known : (s : State) → Known σ s → Known σ' s
    pub same : (s : State) → Known σ s → (w : Str n) → Holds σ s w ↔ Holds σ' s w
    pub label : (l : Label) (r : Relation n) → IsLabel σ l r → IsLabel σ' l r

  -- a step from σ has made a label of r; a state with the strings of B
  pub record MadeLabel (r : Relation n) (σ σ' : 𝓞.Store) (l : Label) : Type 0 where
    pub later : Later σ σ'
    pub is : IsLabel σ' l r

  pub record MadeState (B : Language n) (σ σ' : 𝓞.Store) (s : State) : Type 0 where
    pub later : Later σ σ'
    pub known : Known σ' s
    pub strings : (w : Str n) → Holds σ' s w ↔ B w

  -- Each operation does what its name says, unless it is refused.
  pub record LawfulOps : Type 0 where
    pub zero_is : {σ : 𝓞.Store} → Good σ → IsLabel σ 𝓞.zero noneʳ
    pub zero_has_none : {σ : 𝓞.Store} {r : Relation n} → Good σ → IsLabel σ 𝓞.zero r → (a h : Packet n) → ¬ T (r a h)
    pub union_fits : {σ : 𝓞.Store} {l m : Label} {r s : Relation n} → Good σ → IsLabel σ l r → IsLabel σ m s → Gives (MadeLabel (r ∪ʳ s) σ) (𝓞.union l m σ)
    pub intersect_fits : {σ : 𝓞.Store} {l m : Label} {r s : Relation n} → Good σ → IsLabel σ l r → IsLabel σ m s → Gives (MadeLabel (r ∩ʳ s) σ) (𝓞.intersect l m σ)
    pub difference_fits : {σ : 𝓞.Store} {l m : Label} {r s : Relation n} → Good σ → IsLabel σ l r → IsLabel σ m s → Gives (MadeLabel (r ∖ʳ s) σ) (𝓞.difference l m σ)
    pub sequence_fits : {σ : 𝓞.Store} {l m : Label} {r s : Relation n} → Good σ → IsLabel σ l r → IsLabel σ m s → Gives (MadeLabel (r ⨾ s) σ) (𝓞.sequence l m σ)
    pub complement_fits : {σ : 𝓞.Store} {l : Label} {r : Relation n} → Good σ → IsLabel σ l r → Gives (MadeLabel (∁ʳ r) σ) (𝓞.complement l σ)
    pub mk_union_fits : {σ : 𝓞.Store} (s t : State) → Good σ → Known σ s → Known σ t → Gives (MadeState (λ w. Holds σ s w ⊎ Holds σ t w) σ) (𝓞.mk_union s t σ)
    pub mk_intersect_fits : {σ : 𝓞.Store} (s t : State) → Good σ → Known σ s → Known σ t → Gives (MadeState (λ w. Holds σ s w × Holds σ t w) σ) (𝓞.mk_intersect s t σ)
    pub mk_difference_fits : {σ : 𝓞.Store} (s t : State) → Good σ → Known σ s → Known σ t → Gives (MadeState (λ w. Holds σ s w × ¬ Holds σ t w) σ) (𝓞.mk_difference s t σ)
    pub mk_sequence_fits : {σ : 𝓞.Store} (s t : State) → Good σ → Known σ s → Known σ t → Gives (MadeState (Join (Holds σ s) (Holds σ t)) σ) (𝓞.mk_sequence s t σ)
    pub mk_complement_fits : {σ : 𝓞.Store} (s : State) → Good σ → Known σ s → Gives (MadeState (λ w. ¬ Holds σ s w) σ) (𝓞.mk_complement s σ)
    pub mk_top_fits : {σ : 𝓞.Store} → Good σ → Gives (MadeState (λ w. Unit {0}) σ) (𝓞.mk_top σ)
    pub mk_zero_fits : {σ : 𝓞.Store} → Good σ → Gives (MadeState (λ w. ⊥) σ) (𝓞.mk_zero σ)

  -- The edges stand for the transitions: the same known targets, and the labels' relations.
  pub data Are (σ : 𝓞.Store) : List Edge → List (Transition State n) → Type 0 where
    none : Are σ [] []
    also : {s : State} {l : Label} {r : Relation n} {es : List Edge} {ts : List (Transition State n)} → Known σ s → IsLabel σ l r → Are σ es ts → Are σ (edge s l ∷ es) (to s r ∷ ts)

  -- The edges are a delta of A, with ascending targets.
  pub record IsList (A : Language n) (σ : 𝓞.Store) (es : List Edge) : Type 0 where
    pub list : List (Transition State n)
    pub are : Are σ es list
    pub delta : IsDelta (Holds σ) list A
    pub ascending : Ascending list

  -- A step from σ has made such a list.
  pub record MadeList (A : Language n) (σ σ' : 𝓞.Store) (es : List Edge) : Type 0 where
    pub later : Later σ σ'
    pub is : IsList A σ' es
