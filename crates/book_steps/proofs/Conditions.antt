-- The conditions of specs/Conditions, place by place: refused there exactly if.
use Rattle.std.specs.Prelude.{if◌then◌else◌}
use mathlib.Core.Path.{◌≡◌, refl, sym, ◌∙◌, ap, ap₂, subst}
use native.Mathlib.Omega.{arith}
use native.Mathlib.Nat.{mul-le-mul, mul_assoc, mul-one, one-mul, mul-le-mul_left}
use mathlib.Core.Logic.{◌↔◌, ◌⊎◌, inl, inr, ⊎_elim}
use mathlib.Core.Bool.{Bool, true, false, ◌&&◌}
use mathlib.Core.List.{List, [], ◌∷◌, ◌++◌, append_assoc, Memᴰ}
use Prim.Native.Nat.{ℕ, zero, suc, ◌+◌, ◌*◌, ◌-◌, ◌/◌, ◌%◌, max, min, ◌≤◌, ◌<◌}
use lib.Dec.{eqb, ltb, leb}
use lib.ListN.{length, get_or, length-append}
use borrow.Author.Tests.{eqb-true, eqb-false, ltb-true, ltb-false, leb-true, leb-false, lt-ltb, le-leb, eq-eqb}
use Rattle.common.specs.Packets.{any}
use Rattle.common.specs.Outcome.{Outcome, refused, given, Step, return, ◌>>=◌}
use Rattle.common.specs.Runs.{Table, table, placed}
use Rattle.netkat_steps.specs.ListSteps.{Edge, enter, enter_in}
use Rattle.netkat_steps.specs.Handles as Handles
use Rattle.netkat_steps.specs.Handles.{Entry}
use Rattle.sp_steps.specs.Model as Sp
use Rattle.sp_steps.specs.Make as SpMake
use Rattle.sp_steps.proofs.Make as SpMakeLaws
use Rattle.sp_steps.specs.Word.{flip}
use Rattle.spp_steps.specs.Model as Spp
use Rattle.spp_steps.specs.Make as SppMake
use Rattle.spp_steps.proofs.Make as SppMakeLaws
use Rattle.spp_steps.proofs.Laws.{by_test}
use Rattle.aut_steps.specs.Tables.{UNION, INTERSECT, TOP, kind_of, op2, nest, Limits, room_s, room_m, put4, Exprs, exprs, Aut, put_states, on_states}
use Rattle.aut_steps.specs.Intern as Intern
use Rattle.aut_steps.specs.Intern.{seek, same2, same_l, nest_l, put, put_l, intern1, intern2, intern_l}
use Rattle.aut_steps.proofs.Facts.{seek_hit, seek_miss}
use Rattle.aut_steps.specs.Constructors as C
use Rattle.aut_steps.proofs.Products.{counted as products-counted}
use Rattle.aut_st_steps.specs.Operations.{ops}
use Rattle.aut_st_steps.specs.Edges.{edges}
use Rattle.aut_delta_steps.specs.Delta.{start_of, count_of, Store, store, room_t, append, list_at, keep_list}
use Rattle.aut_delta_steps.specs.Epsilon.{set_word}
use Rattle.aut_delta_steps.proofs.Noted.{written, written_here, written_other, written_length}
use Rattle.aut_delta_steps.proofs.Extends.{edges_sets, room_transitions}
use Rattle.aut_query_steps.specs.Tables.{Tables}
use Rattle.aut_query_steps.specs.Search.{machine, capacity}
use Rattle.aut_query_steps.specs.Live.{live_at, Found, found, Work, work, enqueue, enlarge, live_sets, explore, settled}
use Rattle.aut_why_steps.proofs.WhyLaws.{why_stops}
use Rattle.book_steps.specs.Conditions.{opens, before_top, unseen, Lacks, New, Conditions}
use Rattle.book_steps.proofs.Numbers.{Only, stops, then_only, unite_only, meet_only, bases_only, union_n_only, top_only, placed_only}

-- ---- tests

clash : {S A : Type 0} {σ : S} {a : A} {n : ℕ} → ¬ (◌≡◌ {A = Outcome S A} (given σ a) (refused n))
clash e = let z : ◌≡◌ {A = ℕ} 0 1 = cc in omega arith

other : {S A : Type 0} {m n : ℕ} → ◌≡◌ {A = Outcome S A} (refused m) (refused n) → m ≡ n
other e = cc

true_false : ¬ (true ≡ false)
true_false e = let z : ◌≡◌ {A = ℕ} 0 1 = cc in omega arith

then_iff : {A B C : Type 0} → A ↔ B → B ↔ C → A ↔ C
then_iff p q = (λ a. q.0 (p.0 a), λ c. p.1 (q.1 c))

either_iff : {A B C D : Type 0} → A ↔ B → C ↔ D → (A ⊎ C) ↔ (B ⊎ D)
either_iff p q = (λ s. ⊎_elim (λ a. inl (p.0 a)) (λ c. inr (q.0 c)) s, λ s. ⊎_elim (λ b. inl (p.1 b)) (λ d. inr (q.1 d)) s)

-- given if b, else refused
else_refused : {S A : Type 0} (σ : S) (a : A) (n : ℕ) (b : Bool) → (◌≡◌ {A = Outcome S A} (if b then given σ a else refused n) (refused n)) ↔ (b ≡ false)
else_refused σ a n true = (λ e. absurd (clash e), λ e. absurd (true_false e))
else_refused σ a n false = (λ e. refl, λ e. refl)

else_step : {S A : Type 0} (m : Step S A) (σ τ : S) (a : A) (n : ℕ) → m σ ≡ given τ a → (b : Bool) → (◌≡◌ {A = Outcome S A} ((if b then m else (λ σ. refused n)) σ) (refused n)) ↔ (b ≡ false)
else_step m σ τ a n q true = (λ e. absurd (clash (sym q ∙ e)), λ e. absurd (true_false e))
else_step m σ τ a n q false = (λ e. refl, λ e. refl)

both_tests : (a b : Bool) → ((a && b) ≡ false) ↔ ((a ≡ false) ⊎ (b ≡ false))
both_tests true b = (λ e. inr e, λ s. ⊎_elim (λ e. absurd (true_false e)) (λ e. e) s)
both_tests false b = (λ e. inl refl, λ s. refl)

not_less : (m n : ℕ) → (ltb m n ≡ false) ↔ (n < m + 1)
not_less m n = (λ e. omega (arith, ltb-false m n e), λ l. by_test (ltb m n) (λ e. absurd (omega (arith, ltb-true m n e))) (λ e. e))

not_most : (m n : ℕ) → (leb m n ≡ false) ↔ (n < m)
not_most m n = (λ e. leb-false m n e, λ l. by_test (leb m n) (λ e. absurd (omega (arith, leb-true m n e))) (λ e. e))

-- a table without one more record, and without room for a list
one_more : (m a b : ℕ) → ((ltb m a && ltb m b) ≡ false) ↔ ((a < m + 1) ⊎ (b < m + 1))
one_more m a b = then_iff (both_tests (ltb m a) (ltb m b)) (either_iff (not_less m a) (not_less m b))

list_more : (m a b : ℕ) → ((leb m a && leb m b) ≡ false) ↔ ((a < m) ⊎ (b < m))
list_more m a b = then_iff (both_tests (leb m a) (leb m b)) (either_iff (not_most m a) (not_most m b))

-- ---- 22, 23, 25

no_state : (k x y e : ℕ) (s : Table) → (put k x y e s ≡ refused 22) ↔ Lacks 12 32768 s 1
unfolding put room_s
no_state k x y e s =
    then_iff (else_refused (table (put4 s.words s.count k x y e) (s.count + 1)) s.count 22 (room_s s)) (one_more s.count (length s.words / 12) 32768)

by_one : (n m : ℕ) → (n < m) ↔ (n / 1 < m)
by_one n m = (λ l. omega arith, λ l. omega arith)

no_members : (k : ℕ) (xs : List ℕ) (e : ℕ) (τ : Exprs) → (put_l k xs e τ ≡ refused 23) ↔ Lacks 1 16777216 τ.members (length xs)
unfolding put_l put room_m
no_members k xs e τ =
    then_iff (go (room_m τ.members (length xs)) (room_s τ.states))
    (then_iff (list_more (τ.members.count + length xs) (length τ.members.words) 16777216)
    (either_iff (by_one (length τ.members.words) (τ.members.count + length xs)) (λ a. a, λ a. a)))
  where
    go : (b c : Bool)
        → (◌≡◌ {A = Outcome Exprs ℕ} (if b then placed (λ s τ. exprs s (Intern.store xs τ.members)) τ (if c then given (table (put4 τ.states.words τ.states.count k τ.members.count (length xs) e) (τ.states.count + 1)) τ.states.count else refused 22) else refused 23) (refused 23))
        ↔ (b ≡ false)
    go true true = (λ q. absurd (clash q), λ q. absurd (true_false q))
    go true false = (λ q. absurd (let z : ◌≡◌ {A = ℕ} 22 23 = other q in omega arith), λ q. absurd (true_false q))
    go false c = (λ q. refl, λ q. refl)

no_transitions : (x : ℕ) (es : List Edge) (σ : Store) → (keep_list x es σ ≡ refused 25) ↔ Lacks 2 16777216 σ.transitions (length es)
unfolding keep_list room_t
no_transitions x es σ =
    then_iff (else_refused (store (put_states (set_word x 6 (length es + 1) (set_word x 5 σ.transitions.count σ.aut.states)) σ.aut) (append es σ.transitions)) es 25 (room_t σ.transitions (length es)))
    (list_more (σ.transitions.count + length es) (length σ.transitions.words / 2) 16777216)

given_store : {σ τ : Store} {es fs : List Edge} → ◌≡◌ {A = Outcome Store (List Edge)} (given σ es) (given τ fs) → σ ≡ τ
given_store e = cc

stored : (x : ℕ) (es : List Edge) (σ τ : Store) → 12 * x + 6 < length σ.aut.states.words → keep_list x es σ ≡ given τ es
    → (start_of τ.aut.states.words x ≡ σ.transitions.count) × (count_of τ.aut.states.words x ≡ length es + 1) × (list_at τ x ≡ es)
unfolding keep_list start_of count_of list_at append set_word
stored x es σ τ l e = go (room_t σ.transitions (length es)) refl e
  where
    α : Aut
    α = written σ.aut x 5 σ.transitions.count

    β : Store
    β = store (written α x 6 (length es + 1)) (append es σ.transitions)

    start : get_or β.aut.states.words (12 * x + 5) 0 ≡ σ.transitions.count
    start = written_other α x 6 (length es + 1) (12 * x + 5) (λ q. omega arith) ∙ written_here σ.aut x 5 σ.transitions.count (omega arith)

    count : get_or β.aut.states.words (12 * x + 6) 0 ≡ length es + 1
    count = written_here α x 6 (length es + 1) (omega (arith, written_length σ.aut x 5 σ.transitions.count))

    read : room_t σ.transitions (length es) ≡ true → edges β.transitions.words (get_or β.aut.states.words (12 * x + 5) 0) (get_or β.aut.states.words (12 * x + 6) 0 - 1) ≡ es
    read r =
        ap₂ (λ (a k : ℕ). edges β.transitions.words a (k - 1)) start count ∙ ap (λ (k : ℕ). edges β.transitions.words σ.transitions.count k) {x = length es + 1 - 1} {y = length es} (omega arith)
        ∙ edges_sets es σ.transitions.words σ.transitions.count (omega (arith, (room_transitions σ.transitions (length es) r).0))

    go : (b : Bool) → room_t σ.transitions (length es) ≡ b → (if b then given β es else refused 25) ≡ given τ es
        → (get_or τ.aut.states.words (12 * x + 5) 0 ≡ σ.transitions.count) × (get_or τ.aut.states.words (12 * x + 6) 0 ≡ length es + 1)
        × (edges τ.transitions.words (get_or τ.aut.states.words (12 * x + 5) 0) (get_or τ.aut.states.words (12 * x + 6) 0 - 1) ≡ es)
    go true r e = subst (λ (υ : Store). (get_or υ.aut.states.words (12 * x + 5) 0 ≡ σ.transitions.count) × (get_or υ.aut.states.words (12 * x + 6) 0 ≡ length es + 1)
        × (edges υ.transitions.words (get_or υ.aut.states.words (12 * x + 5) 0) (get_or υ.aut.states.words (12 * x + 6) 0 - 1) ≡ es)) (given_store e) (start, count, read r)
    go false r e = absurd (clash (sym e))

-- ---- 20, 21

no_set : (x y : ℕ) (t : Table) → (Sp.mk x y t ≡ refused 20) ↔ (SpMake.Missing t (flip (x % 2) x) (flip (x % 2) y) × Lacks 2 16777216 t 1)
unfolding Sp.room
no_set x y t = (
  λ e. let z = (SpMakeLaws.mk_refused x y t 20 e).1 in (z.missing, (one_more t.count (length t.words / 2) 16777216).0 z.no_room),
  λ (m, l). SpMakeLaws.mk_short x y t (record { missing = m; no_room = (one_more t.count (length t.words / 2) 16777216).1 l }),
)

no_relation : (X : Spp.Quad) (t : Table) → (Spp.mk X t ≡ refused 21) ↔ (SppMake.Missing X t × Lacks 4 16777216 t 1)
unfolding Spp.room
no_relation X t = (
  λ e. go (subst (SppMakeLaws.Ways X t) e (SppMakeLaws.ways X t)),
  λ (m, l). SppMakeLaws.mk_short X t (record { missing = m; no_room = (one_more t.count (length t.words / 4) 16777216).1 l }),
)
  where
    go : SppMakeLaws.Ways X t (refused 21) → SppMake.Missing X t × Lacks 4 16777216 t 1
    go (SppMakeLaws.short z) = (z.missing, (one_more t.count (length t.words / 4) 16777216).0 z.no_room)

-- ---- 8

not_sought : (f : ℕ → Bool) (n : ℕ) → (ltb (seek f 0 n) n ≡ false) ↔ New f n
not_sought f n = (
  λ e i l. by_test (f i) (λ t. absurd (seek_miss f 0 n (omega (arith, ltb-false (seek f 0 n) n e)) i (omega arith) (omega arith) t)) (λ t. t),
  λ g. by_test (ltb (seek f 0 n) n)
      (λ t. let l : seek f 0 n < n = ltb-true (seek f 0 n) n t in absurd (true_false (sym (seek_hit f 0 n (omega arith)) ∙ g (seek f 0 n) l)))
      (λ t. t),
)

put_not_8 : (k x y e : ℕ) (s : Table) → ¬ (put k x y e s ≡ refused 8)
unfolding put
put_not_8 k x y e s = go (room_s s)
  where
    go : (b : Bool) → ¬ ((if b then given (table (put4 s.words s.count k x y e) (s.count + 1)) s.count else refused 22) ≡ refused 8)
    go true q = clash q
    go false q = let z : ◌≡◌ {A = ℕ} 22 8 = other q in omega arith

put_l_not_8 : (k : ℕ) (xs : List ℕ) (e : ℕ) (τ : Exprs) → ¬ (put_l k xs e τ ≡ refused 8)
unfolding put_l put
put_l_not_8 k xs e τ = go (room_m τ.members (length xs)) (room_s τ.states)
  where
    go : (b c : Bool)
        → ¬ (◌≡◌ {A = Outcome Exprs ℕ} (if b then placed (λ s τ. exprs s (Intern.store xs τ.members)) τ (if c then given (table (put4 τ.states.words τ.states.count k τ.members.count (length xs) e) (τ.states.count + 1)) τ.states.count else refused 22) else refused 23) (refused 8))
    go true true q = clash q
    go true false q = let z : ◌≡◌ {A = ℕ} 22 8 = other q in omega arith
    go false c q = let z : ◌≡◌ {A = ℕ} 23 8 = other q in omega arith

-- a state that is there, or too deep, or put
new_deep : {S : Type 0} (σ : S) (i n e : ℕ) (o : Outcome S ℕ) → ¬ (o ≡ refused 8) → (b : Bool) → ((if b then given σ i else if ltb n e then refused 8 else o) ≡ refused 8) ↔ ((b ≡ false) × (n < e))
new_deep σ i n e o never true = (λ z. absurd (clash z), λ (q, l). absurd (true_false q))
new_deep σ i n e o never false = (λ z. (refl, deep (ltb n e) refl z), λ (q, l). ap (λ (b : Bool). if b then refused 8 else o) (lt-ltb n e l))
  where
    deep : (b : Bool) → ltb n e ≡ b → (if b then refused 8 else o) ≡ refused 8 → n < e
    deep true q z = ltb-true n e q
    deep false q z = absurd (never z)

both_iff : {A B C : Type 0} → A ↔ B → (A × C) ↔ (B × C)
both_iff p = (λ (a, c). (p.0 a, c), λ (b, c). (p.1 b, c))

deep_one : (L : Limits) (k x : ℕ) (s : Table) → (intern1 L k x s ≡ refused 8) ↔ (New (same2 s.words k x 0) s.count × (L.nesting < nest s.words x + 1))
unfolding intern1
deep_one L k x s =
    let f : ℕ → Bool = same2 s.words k x 0 in
    let e : ℕ = nest s.words x + 1 in
    then_iff (new_deep s (seek f 0 s.count) L.nesting e (put k x 0 e s) (put_not_8 k x 0 e s) (ltb (seek f 0 s.count) s.count)) (both_iff (not_sought f s.count))

deep_two : (L : Limits) (k x y : ℕ) (s : Table) → (intern2 L k x y s ≡ refused 8) ↔ (New (same2 s.words k x y) s.count × (L.nesting < max (nest s.words x) (nest s.words y) + 1))
unfolding intern2
deep_two L k x y s =
    let f : ℕ → Bool = same2 s.words k x y in
    let e : ℕ = max (nest s.words x) (nest s.words y) + 1 in
    then_iff (new_deep s (seek f 0 s.count) L.nesting e (put k x y e s) (put_not_8 k x y e s) (ltb (seek f 0 s.count) s.count)) (both_iff (not_sought f s.count))

deep_list : (L : Limits) (k : ℕ) (xs : List ℕ) (τ : Exprs) → (intern_l L k xs τ ≡ refused 8)
    ↔ (New (same_l τ.states.words τ.members.words k xs) τ.states.count × (L.nesting < nest_l τ.states.words 0 xs + 1))
unfolding intern_l
deep_list L k xs τ =
    let f : ℕ → Bool = same_l τ.states.words τ.members.words k xs in
    let e : ℕ = nest_l τ.states.words 0 xs + 1 in
    then_iff (new_deep τ (seek f 0 τ.states.count) L.nesting e (put_l k xs e τ) (put_l_not_8 k xs e τ) (ltb (seek f 0 τ.states.count) τ.states.count)) (both_iff (not_sought f τ.states.count))

-- ---- 9

full_list : (N : ℕ) (L : Limits) (s l : ℕ) (es : List Edge) (σ : Aut) → (enter_in (ops N L) s l es σ ≡ refused 9) ↔ (L.transitions < length es + 1)
unfolding enter_in
full_list N L s l es σ =
    then_iff (else_step (return (enter (ops N L) s l es)) σ σ (enter (ops N L) s l es) 9 refl (ltb (length es) L.transitions)) (not_less (length es) L.transitions)

-- ---- 24

no_pair : (N : ℕ) (L : Limits) (entries s x : ℕ) (pending : List (Entry ℕ)) (σ : Tables) → (Handles.put (machine N L entries) s x pending σ ≡ refused 24) ↔ (min entries 16777216 < length pending + 1)
no_pair N L entries s x pending σ =
    then_iff (else_step (return (record { state = s; packets = x } ∷ pending)) σ σ (record { state = s; packets = x } ∷ pending) 24 refl (ltb (length pending) (min entries 16777216)))
    (not_less (length pending) (min entries 16777216))

no_first : (N : ℕ) (L : Limits) (entries x : ℕ) (σ : Tables) → min entries 16777216 < 1 → live_sets N L entries x σ ≡ refused 24
unfolding live_sets
no_first N L entries x σ l =
    ap (λ (b : Bool). if◌then◌else◌ {A = Step Tables Found} b
    (explore N L entries (capacity entries) [] (x ∷ []) (λ t. Sp.zero_at N) >>= λ f. settled N L entries f >>= λ live. return (found f.states live)) (λ σ. refused 24) σ)
    ((not_less 0 (min entries 16777216)).1 l)

first : (N : ℕ) (L : Limits) (entries x : ℕ) (σ : Tables) → 1 ≤ min entries 16777216 → live_sets N L entries x σ
    ≡ (explore N L entries (min entries 16777216) [] (x ∷ []) (λ t. Sp.zero_at N) >>= λ f. settled N L entries f >>= λ live. return (found f.states live)) σ
unfolding live_sets
first N L entries x σ l =
    ap (λ (b : Bool). if◌then◌else◌ {A = Step Tables Found} b
    (explore N L entries (capacity entries) [] (x ∷ []) (λ t. Sp.zero_at N) >>= λ f. settled N L entries f >>= λ live. return (found f.states live)) (λ σ. refused 24) σ)
    (lt-ltb 0 (min entries 16777216) l)

no_todo : (room s combined : ℕ) (w : Work) (σ : Tables) → (enlarge room s combined w σ ≡ refused 24) ↔ ((¬ (combined ≡ w.live s)) × (room < length w.todo + 1))
unfolding enlarge
no_todo room s combined w σ = then_iff (go (eqb combined (w.live s)) (ltb (length w.todo) room)) (
  λ (a, b). (eqb-false combined (w.live s) a, (not_less (length w.todo) room).0 b),
  λ (a, b). (by_test (eqb combined (w.live s)) (λ t. absurd (a (eqb-true combined (w.live s) t))) (λ t. t), (not_less (length w.todo) room).1 b),
)
  where
    go : (a b : Bool)
        → (◌≡◌ {A = Outcome Tables Work} (if◌then◌else◌ {A = Step Tables Work} a (return w) (if◌then◌else◌ {A = Step Tables Work} b (return (work (s ∷ w.todo) (live_at s combined w.live))) (λ σ. refused 24)) σ) (refused 24))
        ↔ ((a ≡ false) × (b ≡ false))
    go true b = (λ e. absurd (clash e), λ (e, f). absurd (true_false e))
    go false true = (λ e. absurd (clash e), λ (e, f). absurd (true_false f))
    go false false = (λ e. (refl, refl), λ e. refl)

no_found : (room : ℕ) (es : List Edge) (visited waiting : List ℕ) (σ : Tables) → length (visited ++ waiting) ≤ room
    → (enqueue room es visited waiting σ ≡ refused 24) ↔ (room < length (visited ++ waiting) + length (unseen (visited ++ waiting) es))
unfolding enqueue
no_found room [] visited waiting σ l = (λ e. absurd (clash e), λ k. absurd (omega arith))
no_found room (e ∷ es) visited waiting σ l =
    go (any (eqb e.target) (visited ++ waiting)) (ltb (length (visited ++ waiting)) room) refl (no_found room es visited waiting σ l) (λ m. no_found room es visited (waiting ++ e.target ∷ []) σ (omega (arith, longer, m)))
  where
    next : List ℕ
    next = visited ++ (waiting ++ e.target ∷ [])

    same : next ≡ (visited ++ waiting) ++ e.target ∷ []
    same = sym (append_assoc visited waiting (e.target ∷ []))

    longer : length next ≡ length (visited ++ waiting) + 1
    longer = ap length same ∙ length-append (visited ++ waiting) (e.target ∷ [])

    go : (a b : Bool) → ltb (length (visited ++ waiting)) room ≡ b
        → ((enqueue room es visited waiting σ ≡ refused 24) ↔ (room < length (visited ++ waiting) + length (unseen (visited ++ waiting) es)))
        → (length (visited ++ waiting) < room → (enqueue room es visited (waiting ++ e.target ∷ []) σ ≡ refused 24) ↔ (room < length next + length (unseen next es)))
        → ((if a then enqueue room es visited waiting else if b then enqueue room es visited (waiting ++ e.target ∷ []) else (λ σ. refused 24)) σ ≡ refused 24)
        ↔ (room < length (visited ++ waiting) + length (if a then unseen (visited ++ waiting) es else (e.target ∷ unseen ((visited ++ waiting) ++ e.target ∷ []) es)))
    go true b q i j = i
    go false true q i j =
        let (f, g) = j (ltb-true (length (visited ++ waiting)) room q) in
        let k : length (unseen next es) ≡ length (unseen ((visited ++ waiting) ++ e.target ∷ []) es) = ap (λ (s : List ℕ). length (unseen s es)) same in
        (λ z. omega (arith, f z, longer, k), λ z. g (omega (arith, z, longer, k)))
    go false false q i j = (λ z. omega (arith, ltb-false (length (visited ++ waiting)) room q), λ z. refl)

-- ---- 6: lists that are opened

long_not : {xs : List ℕ} → ¬ (C.list xs ≡ C.long)
long_not e = let z : ◌≡◌ {A = ℕ} 0 1 = cc in omega arith

top_not : ¬ (C.top ≡ C.long)
top_not e = let z : ◌≡◌ {A = ℕ} 0 1 = cc in omega arith

within_not : {A : Type 0} {a : A} → ¬ (C.within a ≡ C.beyond)
within_not e = let z : ◌≡◌ {A = ℕ} 0 1 = cc in omega arith

module _ (most : ℕ) (st m : List ℕ) where
  long_union : (xs acc : List ℕ) → length acc ≤ most → (C.open_union most st m xs acc ≡ C.long) ↔ (most < length acc + opens UNION st m (before_top st xs))
  unfolding C.open_union C.extend
  long_union [] acc l = (λ e. absurd (long_not e), λ k. absurd (omega arith))
  long_union (x ∷ xs) acc l =
      go (eqb (kind_of st x) TOP) (leb (length acc + length (C.opened UNION st m x)) most) refl (λ j. long_union xs (acc ++ C.opened UNION st m x) (omega (arith, longer, j)))
    where
      ys : List ℕ
      ys = C.opened UNION st m x

      longer : length (acc ++ ys) ≡ length acc + length ys
      longer = length-append acc ys

      go : (a b : Bool) → leb (length acc + length ys) most ≡ b
          → (length acc + length ys ≤ most → (C.open_union most st m xs (acc ++ ys) ≡ C.long) ↔ (most < length (acc ++ ys) + opens UNION st m (before_top st xs)))
          → ((if a then C.top else C.then_open (if b then C.within (acc ++ ys) else C.beyond) (C.open_union most st m xs)) ≡ C.long)
          ↔ (most < length acc + opens UNION st m (if a then [] else (x ∷ before_top st xs)))
      go true b q i = (λ e. absurd (top_not e), λ k. absurd (omega arith))
      go false true q i =
          let (f, g) = i (leb-true (length acc + length ys) most q) in
          (λ e. omega (arith, f e, longer), λ k. g (omega (arith, k, longer)))
      go false false q i = (λ e. omega (arith, leb-false (length acc + length ys) most q), λ k. refl)

  long_all : (xs acc : List ℕ) → length acc ≤ most → (C.open_all most st m xs acc ≡ C.beyond) ↔ (most < length acc + opens INTERSECT st m xs)
  unfolding C.open_all C.extend
  long_all [] acc l = (λ e. absurd (within_not e), λ k. absurd (omega arith))
  long_all (x ∷ xs) acc l =
      go (leb (length acc + length (C.opened INTERSECT st m x)) most) refl (λ j. long_all xs (acc ++ C.opened INTERSECT st m x) (omega (arith, longer, j)))
    where
      ys : List ℕ
      ys = C.opened INTERSECT st m x

      longer : length (acc ++ ys) ≡ length acc + length ys
      longer = length-append acc ys

      go : (b : Bool) → leb (length acc + length ys) most ≡ b
          → (length acc + length ys ≤ most → (C.open_all most st m xs (acc ++ ys) ≡ C.beyond) ↔ (most < length (acc ++ ys) + opens INTERSECT st m xs))
          → (C.then_within (if b then C.within (acc ++ ys) else C.beyond) (C.open_all most st m xs) ≡ C.beyond) ↔ (most < length acc + (length ys + opens INTERSECT st m xs))
      go true q i =
          let (f, g) = i (leb-true (length acc + length ys) most q) in
          (λ e. omega (arith, f e, longer), λ k. g (omega (arith, k, longer)))
      go false q i = (λ e. omega (arith, leb-false (length acc + length ys) most q), λ k. refl)

module _ (N : ℕ) (L : Limits) where
  -- 6 is not met behind the opening
  abbrev Six : ℕ → Type 0
  Six m = ¬ (m ≡ 6)

  not_6 : {o : Outcome Aut ℕ} → Only Six (λ e. omega arith) (λ e. omega arith) (λ e. omega arith) (λ e. omega arith) o → ¬ (o ≡ refused 6)
  not_6 p e = go (subst (λ (o : Outcome Aut ℕ). Only Six (λ e. omega arith) (λ e. omega arith) (λ e. omega arith) (λ e. omega arith) o) e p)
    where
      go : Only Six (λ e. omega arith) (λ e. omega arith) (λ e. omega arith) (λ e. omega arith) {S = Aut} {A = ℕ} (refused 6) → ⊥
      go (stops n) = n refl

  unite_6 : (xs : List ℕ) (σ : Aut) → ¬ (C.unite N L xs σ ≡ refused 6)
  unite_6 xs σ = not_6 (unite_only Six (λ e. omega arith) (λ e. omega arith) (λ e. omega arith) (λ e. omega arith) N L xs σ)

  meet_6 : (xs : List ℕ) (σ : Aut) → ¬ (C.meet N L xs σ ≡ refused 6)
  meet_6 xs σ = not_6 (meet_only Six (λ e. omega arith) (λ e. omega arith) (λ e. omega arith) (λ e. omega arith) N L xs σ)

  top_6 : (σ : Aut) → ¬ (on_states C.mk_top σ ≡ refused 6)
  top_6 σ = not_6 (placed_only Six (λ e. omega arith) (λ e. omega arith) (λ e. omega arith) (λ e. omega arith) put_states σ (top_only Six (λ e. omega arith) (λ e. omega arith) (λ e. omega arith) (λ e. omega arith) σ.states))

  union_list : (xs : List ℕ) (σ : Aut) → (C.mk_union_n N L xs σ ≡ refused 6)
      ↔ ((L.list < length xs) ⊎ ((¬ (length xs ≡ 1)) × (L.list < opens UNION σ.states.words σ.members.words (before_top σ.states.words xs))))
  unfolding C.mk_union_n
  union_list xs σ = go (ltb L.list (length xs)) refl (eqb (length xs) 1) refl (C.open_union L.list σ.states.words σ.members.words xs []) refl
    where
      Long : Type 0
      Long = L.list < opens UNION σ.states.words σ.members.words (before_top σ.states.words xs)

      iff : (C.open_union L.list σ.states.words σ.members.words xs [] ≡ C.long) ↔ Long
      iff = then_iff (long_union L.list σ.states.words σ.members.words xs [] (omega arith)) (λ l. omega (arith, l), λ l. omega (arith, l))

      not_yet : ltb L.list (length xs) ≡ false → {o : C.Opened} → C.open_union L.list σ.states.words σ.members.words xs [] ≡ o → ¬ (o ≡ C.long)
          → ¬ ((L.list < length xs) ⊎ ((¬ (length xs ≡ 1)) × Long))
      not_yet p r n s = ⊎_elim (λ l. omega (arith, ltb-false L.list (length xs) p)) (λ (a, l). n (sym r ∙ iff.1 l)) s

      go : (a : Bool) → ltb L.list (length xs) ≡ a → (b : Bool) → eqb (length xs) 1 ≡ b → (o : C.Opened) → C.open_union L.list σ.states.words σ.members.words xs [] ≡ o
          → ((if a then refused 6 else if b then given σ (get_or xs 0 0) else C.unite_opened N L o σ) ≡ refused 6) ↔ ((L.list < length xs) ⊎ ((¬ (length xs ≡ 1)) × Long))
      go true p b q o r = (λ e. inl (ltb-true L.list (length xs) p), λ s. refl)
      go false p true q o r = (λ e. absurd (clash e), λ s. absurd (⊎_elim (λ l. omega (arith, ltb-false L.list (length xs) p)) (λ (a, l). a (eqb-true (length xs) 1 q)) s))
      go false p false q C.long r = (λ e. inr (eqb-false (length xs) 1 q, iff.0 r), λ s. refl)
      go false p false q C.top r = (λ e. absurd (top_6 σ e), λ s. absurd (not_yet p r top_not s))
      go false p false q (C.list ys) r = (λ e. absurd (unite_6 ys σ e), λ s. absurd (not_yet p r long_not s))

  base_list : (xs : List ℕ) (σ : Aut) → (C.mk_intersect_n_base N L xs σ ≡ refused 6) ↔ (L.list < opens INTERSECT σ.states.words σ.members.words xs)
  unfolding C.mk_intersect_n_base
  base_list xs σ = go (C.open_all L.list σ.states.words σ.members.words xs []) refl
    where
      iff : (C.open_all L.list σ.states.words σ.members.words xs [] ≡ C.beyond) ↔ (L.list < opens INTERSECT σ.states.words σ.members.words xs)
      iff = then_iff (long_all L.list σ.states.words σ.members.words xs [] (omega arith)) (λ l. omega (arith, l), λ l. omega (arith, l))

      go : (o : C.Within (List ℕ)) → C.open_all L.list σ.states.words σ.members.words xs [] ≡ o
          → (C.meet_opened N L o σ ≡ refused 6) ↔ (L.list < opens INTERSECT σ.states.words σ.members.words xs)
      go (C.within ys) r = (λ e. absurd (meet_6 ys σ e), λ l. absurd (within_not (sym r ∙ iff.1 l)))
      go C.beyond r = (λ e. iff.0 r, λ l. refl)

  -- ---- 6 and 7 of an intersection

  module _ (xs : List ℕ) (σ : Aut) where
    abbrev opening : C.Within (List ℕ)
    opening = C.open_all L.list σ.states.words σ.members.words xs []

    intersect_is : length xs ≤ L.list → ¬ (length xs ≡ 1) → C.mk_intersect_n N L xs σ ≡ C.intersect_opened N L opening σ
    unfolding C.mk_intersect_n
    intersect_is l n =
        ap (λ (b : Bool). if b then refused 6 else if eqb (length xs) 1 then given σ (get_or xs 0 0) else C.intersect_opened N L opening σ)
        (by_test (ltb L.list (length xs)) (λ e. absurd (omega (arith, ltb-true L.list (length xs) e))) (λ e. e))
        ∙ ap (λ (b : Bool). if b then given σ (get_or xs 0 0) else C.intersect_opened N L opening σ) (by_test (eqb (length xs) 1) (λ e. absurd (n (eqb-true (length xs) 1 e))) (λ e. e))

    data Way : Type 0 where
      given_long : L.list < length xs → C.mk_intersect_n N L xs σ ≡ refused 6 → Way
      given_one : length xs ≤ L.list → length xs ≡ 1 → C.mk_intersect_n N L xs σ ≡ given σ (get_or xs 0 0) → Way
      opens_it : length xs ≤ L.list → ¬ (length xs ≡ 1) → Way

    way : Way
    unfolding C.mk_intersect_n
    way = go (ltb L.list (length xs)) refl (eqb (length xs) 1) refl refl
      where
        go : (a : Bool) → ltb L.list (length xs) ≡ a → (b : Bool) → eqb (length xs) 1 ≡ b
            → C.mk_intersect_n N L xs σ ≡ (if a then refused 6 else if b then given σ (get_or xs 0 0) else C.intersect_opened N L opening σ) → Way
        go true p b q e = given_long (ltb-true L.list (length xs) p) e
        go false p true q e = given_one (ltb-false L.list (length xs) p) (eqb-true (length xs) 1 q) e
        go false p false q e = opens_it (ltb-false L.list (length xs) p) (eqb-false (length xs) 1 q)

    abbrev Later6 : Type 0
    Later6 = (ys : List ℕ) × (n : ℕ) × (opening ≡ C.within ys) × (C.count_all L.products σ.states.words ys 1 ≡ C.within n) × ((C.bases N L ys 0 n [] >>= C.mk_union_n N L) σ ≡ refused 6)

    abbrev Cond6 : Type 0
    Cond6 = (L.list < length xs) ⊎ ((length xs ≤ L.list) × (¬ (length xs ≡ 1)) × ((L.list < opens INTERSECT σ.states.words σ.members.words xs) ⊎ Later6))

    iff_open : (opening ≡ C.beyond) ↔ (L.list < opens INTERSECT σ.states.words σ.members.words xs)
    iff_open = then_iff (long_all L.list σ.states.words σ.members.words xs [] (omega arith)) (λ l. omega (arith, l), λ l. omega (arith, l))

    intersect_list : (C.mk_intersect_n N L xs σ ≡ refused 6) ↔ Cond6
    unfolding C.mk_intersect_n
    intersect_list = (λ e. only way e, λ s. if_so s)
      where
        at_count : length xs ≤ L.list → ¬ (length xs ≡ 1) → (ys : List ℕ) → opening ≡ C.within ys → (c : C.Within ℕ) → C.count_all L.products σ.states.words ys 1 ≡ c
            → C.distribute N L ys c σ ≡ refused 6 → Cond6
        at_count l n ys r (C.within k) s e = inr (l, n, inr (ys, k, r, s, e))
        at_count l n ys r C.beyond s e = absurd (let z : ◌≡◌ {A = ℕ} 7 6 = other e in omega arith)

        at_open : length xs ≤ L.list → ¬ (length xs ≡ 1) → (o : C.Within (List ℕ)) → opening ≡ o → C.intersect_opened N L o σ ≡ refused 6 → Cond6
        at_open l n (C.within ys) r e = at_count l n ys r (C.count_all L.products σ.states.words ys 1) refl e
        at_open l n C.beyond r e = inr (l, n, inl (iff_open.0 r))

        only : Way → C.mk_intersect_n N L xs σ ≡ refused 6 → Cond6
        only (given_long l q) e = inl l
        only (given_one l n q) e = absurd (clash (sym q ∙ e))
        only (opens_it l n) e = at_open l n opening refl (sym (intersect_is l n) ∙ e)

        if_so : Cond6 → C.mk_intersect_n N L xs σ ≡ refused 6
        if_so (inl l) = ap (λ (b : Bool). if b then refused 6 else if eqb (length xs) 1 then given σ (get_or xs 0 0) else C.intersect_opened N L opening σ) (lt-ltb L.list (length xs) l)
        if_so (inr (l, n, inl k)) = intersect_is l n ∙ ap (λ (o : C.Within (List ℕ)). C.intersect_opened N L o σ) (iff_open.1 k)
        if_so (inr (l, n, inr (ys, k, r, s, e))) = intersect_is l n ∙ ap (λ (o : C.Within (List ℕ)). C.intersect_opened N L o σ) r ∙ ap (λ (c : C.Within ℕ). C.distribute N L ys c σ) s ∙ e

    -- 7 is not met behind the count
    abbrev Seven : ℕ → Type 0
    Seven m = ¬ (m ≡ 7)

    rest_7 : (ys : List ℕ) (k : ℕ) → ¬ ((C.bases N L ys 0 k [] >>= C.mk_union_n N L) σ ≡ refused 7)
    rest_7 ys k e = go (subst (λ (o : Outcome Aut ℕ). Only Seven (λ e. omega arith) (λ e. omega arith) (λ e. omega arith) (λ e. omega arith) o) e
        (then_only Seven (λ e. omega arith) (λ e. omega arith) (λ e. omega arith) (λ e. omega arith)
        (bases_only Seven (λ e. omega arith) (λ e. omega arith) (λ e. omega arith) (λ e. omega arith) N L (λ e. omega arith) ys 0 k [] σ)
        (λ τ zs. union_n_only Seven (λ e. omega arith) (λ e. omega arith) (λ e. omega arith) (λ e. omega arith) N L (λ e. omega arith) zs τ)))
      where
        go : Only Seven (λ e. omega arith) (λ e. omega arith) (λ e. omega arith) (λ e. omega arith) {S = Aut} {A = ℕ} (refused 7) → ⊥
        go (stops n) = n refl

    abbrev Cond7 : Type 0
    Cond7 = (length xs ≤ L.list) × (¬ (length xs ≡ 1)) × ((ys : List ℕ) × (opening ≡ C.within ys) × (C.count_all L.products σ.states.words ys 1 ≡ C.beyond))

    products : (C.mk_intersect_n N L xs σ ≡ refused 7) ↔ Cond7
    products = (λ e. only way e, λ (l, n, (ys, r, s)). intersect_is l n ∙ ap (λ (o : C.Within (List ℕ)). C.intersect_opened N L o σ) r ∙ ap (λ (c : C.Within ℕ). C.distribute N L ys c σ) s)
      where
        at_count : length xs ≤ L.list → ¬ (length xs ≡ 1) → (ys : List ℕ) → opening ≡ C.within ys → (c : C.Within ℕ) → C.count_all L.products σ.states.words ys 1 ≡ c
            → C.distribute N L ys c σ ≡ refused 7 → Cond7
        at_count l n ys r (C.within k) s e = absurd (rest_7 ys k e)
        at_count l n ys r C.beyond s e = (l, n, (ys, r, s))

        at_open : length xs ≤ L.list → ¬ (length xs ≡ 1) → (o : C.Within (List ℕ)) → opening ≡ o → C.intersect_opened N L o σ ≡ refused 7 → Cond7
        at_open l n (C.within ys) r e = at_count l n ys r (C.count_all L.products σ.states.words ys 1) refl e
        at_open l n C.beyond r e = absurd (let z : ◌≡◌ {A = ℕ} 6 7 = other e in omega arith)

        only : Way → C.mk_intersect_n N L xs σ ≡ refused 7 → Cond7
        only (given_long l q) e = absurd (let z : ◌≡◌ {A = ℕ} 6 7 = other (sym q ∙ e) in omega arith)
        only (given_one l n q) e = absurd (clash (sym q ∙ e))
        only (opens_it l n) e = at_open l n opening refl (sym (intersect_is l n) ∙ e)

-- ---- the products, counted

module _ (most : ℕ) (st : List ℕ) where
  abbrev Members : List ℕ → Type 0
  Members xs = (x : ℕ) → Memᴰ x xs → kind_of st x ≡ UNION → 0 < op2 st x

  size_some : (x : ℕ) → (kind_of st x ≡ UNION → 0 < op2 st x) → 1 ≤ C.size st x
  size_some x f = go (eqb (kind_of st x) UNION) refl
    where
      go : (b : Bool) → eqb (kind_of st x) UNION ≡ b → 1 ≤ (if b then op2 st x else 1)
      go true q = f (eqb-true (kind_of st x) UNION q)
      go false q = omega arith

  sizes_some : (xs : List ℕ) → Members xs → 1 ≤ C.sizes st xs
  sizes_some [] f = omega arith
  sizes_some (x ∷ xs) f = mul-le-mul (size_some x (f x (Memᴰ.head refl))) (sizes_some xs (λ y m. f y (Memᴰ.tail m)))

  passed : (xs : List ℕ) → Members xs → (n : ℕ) → C.count_all most st xs n ≡ C.beyond → most < n * C.sizes st xs
  unfolding C.count_all C.count_one
  passed [] f n e = absurd (within_not e)
  passed (x ∷ xs) f n e = go (λ k q. passed xs (λ y m. f y (Memᴰ.tail m)) k q) (eqb (kind_of st x) UNION) refl (leb (n * op2 st x) most) refl e
    where
      at : (c : Bool) → eqb (kind_of st x) UNION ≡ c → C.size st x ≡ (if c then op2 st x else 1)
      at c q = ap (λ (b : Bool). if b then op2 st x else 1) q

      go : ((k : ℕ) → C.count_all most st xs k ≡ C.beyond → most < k * C.sizes st xs) → (c : Bool) → eqb (kind_of st x) UNION ≡ c → (d : Bool) → leb (n * op2 st x) most ≡ d
          → C.then_within (if c then (if d then C.within (n * op2 st x) else C.beyond) else C.within n) (C.count_all most st xs) ≡ C.beyond → most < n * (C.size st x * C.sizes st xs)
      go ih true p true q e = omega (arith, ih (n * op2 st x) e, ap (λ (z : ℕ). n * z * C.sizes st xs) (at true p), mul_assoc n (C.size st x) (C.sizes st xs))
      go ih true p false q e =
          omega (arith, leb-false (n * op2 st x) most q, mul-le-mul_left (n * op2 st x) (sizes_some xs (λ y m. f y (Memᴰ.tail m))), mul-one (n * op2 st x), ap (λ (z : ℕ). n * z * C.sizes st xs) (at true p), mul_assoc n (C.size st x) (C.sizes st xs))
      go ih false p d q e = omega (arith, ih n e, ap (λ (z : ℕ). n * (z * C.sizes st xs)) (at false p), ap (λ (z : ℕ). n * z) (one-mul (C.sizes st xs)))

  within_most : (xs : List ℕ) (n k : ℕ) → n ≤ most → C.count_all most st xs n ≡ C.within k → k ≤ most
  unfolding C.count_all C.count_one
  within_most [] n k l e = let q : n ≡ k = cc in omega arith
  within_most (x ∷ xs) n k l e = go (eqb (kind_of st x) UNION) (leb (n * op2 st x) most) refl e (λ j m q. within_most xs j k m q)
    where
      go : (c d : Bool) → leb (n * op2 st x) most ≡ d → C.then_within (if c then (if d then C.within (n * op2 st x) else C.beyond) else C.within n) (C.count_all most st xs) ≡ C.within k
          → ((j : ℕ) → j ≤ most → C.count_all most st xs j ≡ C.within k → k ≤ most) → k ≤ most
      go true true q e ih = ih (n * op2 st x) (leb-true (n * op2 st x) most q) e
      go true false q e ih = absurd (within_not (sym e))
      go false d q e ih = ih n l e

  counted : (xs : List ℕ) → 1 ≤ most → Members xs → (C.count_all most st xs 1 ≡ C.beyond) ↔ (most < C.sizes st xs)
  counted xs l f = (λ e. omega (arith, passed xs f 1 e, one-mul (C.sizes st xs)), λ k. go (C.count_all most st xs 1) refl k)
    where
      go : (c : C.Within ℕ) → C.count_all most st xs 1 ≡ c → most < C.sizes st xs → c ≡ C.beyond
      go (C.within k) e j = absurd (omega (arith, within_most xs 1 k l e, products-counted most st xs 1 k e, one-mul (C.sizes st xs)))
      go C.beyond e j = refl

-- ---- all of them

pub conditions : (N : ℕ) (L : Limits) → Conditions N L
conditions N L = record {
  union_list = union_list N L;
  base_list = base_list N L;
  intersect_list = intersect_list N L;
  products = products N L;
  counted = λ st xs l f. counted L.products st xs l f;
  deep_one = deep_one L;
  deep_two = deep_two L;
  deep_list = deep_list L;
  no_members = no_members;
  no_state = no_state;
  full_list = full_list N L;
  no_set = no_set;
  no_relation = no_relation;
  no_pair = no_pair N L;
  no_first = no_first N L;
  first = first N L;
  no_found = no_found;
  no_todo = no_todo;
  no_transitions = no_transitions;
  stored = stored;
  why_stops = why_stops N L;
}
