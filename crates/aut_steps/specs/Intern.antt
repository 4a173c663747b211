-- `intern` of aut.rs: a state that stands already is returned; a new one meets 8, then 23 (lists), then 22 (01, "Order").
use Rattle.std.specs.Prelude.{Bool, true, false, ◌&&◌, List, [], ◌∷◌, ℕ, zero, suc, ◌+◌, max, eqb, ltb, length, get_or, if◌then◌else◌}
use Rattle.std.proofs.lemmas.List.Edits.{sets}
use Rattle.common.specs.Outcome.{refused, given, Step}
use Rattle.common.specs.Runs.{Table, table, placed}
use Rattle.aut_steps.specs.Tables.{kind_of, op1, op2, nest, Limits, room_s, room_m, put4, Exprs, exprs}

-- the first number from i, of k, at which f holds; i + k if there is none
unfoldable pub seek : (ℕ → Bool) → ℕ → ℕ → ℕ
seek f i zero = i
seek f i (suc k) = if f i then i else seek f (i + 1) k

-- state i has this kind and these two words
unfoldable pub same2 : List ℕ → ℕ → ℕ → ℕ → ℕ → Bool
same2 st k x y i = eqb (kind_of st i) k && (eqb (op1 st i) x && eqb (op2 st i) y)

-- the members from a are this list
unfoldable pub same_at : List ℕ → ℕ → List ℕ → Bool
same_at m a [] = true
same_at m a (x ∷ xs) = if eqb (get_or m a 0) x then same_at m (a + 1) xs else false

-- state i has this kind and this list
unfoldable pub same_l : List ℕ → List ℕ → ℕ → List ℕ → ℕ → Bool
same_l st m k xs i = if eqb (kind_of st i) k then (if eqb (op2 st i) (length xs) then same_at m (op1 st i) xs else false) else false

-- a state at the end of the table
unfoldable pub put : ℕ → ℕ → ℕ → ℕ → Step Table ℕ
put k x y e s = if room_s s then given (table (put4 s.words s.count k x y e) (s.count + 1)) s.count else refused 22

-- SPP, Dup, Top: no operand that is a state, so nesting 0
unfoldable pub intern0 : ℕ → ℕ → Step Table ℕ
intern0 k x s =
    let i : ℕ = seek (same2 s.words k x 0) 0 s.count in
    if ltb i s.count then given s i else put k x 0 0 s

-- one operand
unfoldable pub intern1 : Limits → ℕ → ℕ → Step Table ℕ
intern1 L k x s =
    let i : ℕ = seek (same2 s.words k x 0) 0 s.count in
    let e : ℕ = nest s.words x + 1 in
    if ltb i s.count then given s i else if ltb L.nesting e then refused 8 else put k x 0 e s

-- two operands
unfoldable pub intern2 : Limits → ℕ → ℕ → ℕ → Step Table ℕ
intern2 L k x y s =
    let i : ℕ = seek (same2 s.words k x y) 0 s.count in
    let e : ℕ = max (nest s.words x) (nest s.words y) + 1 in
    if ltb i s.count then given s i else if ltb L.nesting e then refused 8 else put k x y e s

-- the highest nesting of a list, or h
unfoldable pub nest_l : List ℕ → ℕ → List ℕ → ℕ
nest_l st h [] = h
nest_l st h (x ∷ xs) = nest_l st (max h (nest st x)) xs

-- the list goes behind the members in use
unfoldable pub store : List ℕ → Table → Table
store xs m = table (sets m.words m.count xs) (m.count + length xs)

-- a list's state at the end of the table, its members at the end of theirs
unfoldable pub put_l : ℕ → List ℕ → ℕ → Step Exprs ℕ
put_l k xs e τ =
    if room_m τ.members (length xs)
    then placed (λ s τ. exprs s (store xs τ.members)) τ (put k τ.members.count (length xs) e τ.states)
    else refused 23

-- a list
unfoldable pub intern_l : Limits → ℕ → List ℕ → Step Exprs ℕ
intern_l L k xs τ =
    let i : ℕ = seek (same_l τ.states.words τ.members.words k xs) 0 τ.states.count in
    let e : ℕ = nest_l τ.states.words 0 xs + 1 in
    if ltb i τ.states.count then given τ i else if ltb L.nesting e then refused 8 else put_l k xs e τ
