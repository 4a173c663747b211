-- Constructor lines and queries under larger limits (specs/Limits: MakeCarried, QueriesCarried). A query reads the limits in delta alone.
use Rattle.std.specs.Prelude.{if◌then◌else◌}
use mathlib.Core.Bool.{Bool, true, false}
use mathlib.Core.List.{List, [], ◌∷◌, ◌++◌}
use Prim.Native.Nat.{ℕ, zero, suc}
use lib.Dec.{ltb}
use Rattle.common.specs.Outcome.{Outcome, refused, given, Step, after, ◌>>=◌}
use Rattle.netkat.specs.Lists.{State}
use Rattle.netkat.specs.Search.{Verdict}
use Rattle.netkat_steps.specs.Handles as Handles
use Rattle.netkat_steps.specs.Handles.{Machine, Link, Entry, Turn}
use Rattle.sp_steps.specs.Model as Sp
use Rattle.spp_steps.specs.ImageModel as Images
use Rattle.aut_steps.specs.Tables.{Limits}
use Rattle.aut_replay.specs.Replay as Replay
use Rattle.aut_replay.specs.Replay.{Wider, Call, called}
use Rattle.aut_replay.specs.Limits.{OfLimit, Carries, lifted, same, Carried}
use Rattle.aut_replay.proofs.Limits.{carry_same, carry_if, carry_test, carry_bind, carry_placed, limits_only}
use Rattle.book_construct_steps.specs.Lines as Lines
use Rattle.book_construct_steps.specs.Lines.{Line, constant, bit, single, pair, listed, Single, Pair, Listed, single_of, pair_of, listed_of, make}
use Rattle.aut_delta_steps.specs.Delta.{Store, delta}
use Rattle.aut_query_steps.specs.Tables.{Tables, diagrams, on_base, put_base, live_of}
use Rattle.aut_query_steps.specs.Search.{capacity, machine, is_empty}
use Rattle.aut_query_steps.specs.Live.{live_at, Work, work, asks, visit, explore, pull_back, pull_from, pull_all, settle, takes, live_sets, live_anew, live_packets}
use Rattle.aut_query_steps.specs.Pruned.{delta_pruned}
use Rattle.aut_why_steps.specs.Why.{rounds_of, why_sets, why}
use Rattle.book_limits.specs.Limits.{MakeCarried, QueriesCarried}

pub on_base_lem : {A : Type 0} {c d : Step Store A} → Carried c d → Carried (on_base c) (on_base d)
on_base_lem {c = c} {d = d} h σ = carry_placed put_base σ (c σ.base) (d σ.base) (h σ.base)

-- ---- constructor lines

module _ (N : ℕ) {L L' : Limits} (wide : Wider L L') where
  call_carry : (c : Call) → Carried (called N c L) (called N c L')
  call_carry = (limits_only N wide).constructors

  single_carry : (w : Single) (x : ℕ) → Carried (single_of N L w x) (single_of N L' w x)
  single_carry Lines.not x = call_carry (Replay.complement x)
  single_carry Lines.star x = call_carry (Replay.star x)
  single_carry Lines.next x = call_carry (Replay.next x)

  pair_carry : (w : Pair) (x y : ℕ) → Carried (pair_of N L w x y) (pair_of N L' w x y)
  pair_carry Lines.or x y = call_carry (Replay.union x y)
  pair_carry Lines.and x y = call_carry (Replay.intersect x y)
  pair_carry Lines.xor x y = call_carry (Replay.xor x y)
  pair_carry Lines.minus x y = call_carry (Replay.difference x y)
  pair_carry Lines.seq x y = call_carry (Replay.sequence x y)
  pair_carry Lines.until x y = call_carry (Replay.until x y)

  listed_carry : (w : Listed) (xs : List ℕ) → Carried (listed_of N L w xs) (listed_of N L' w xs)
  listed_carry Lines.union xs = call_carry (Replay.union_n xs)
  listed_carry Lines.inter xs = call_carry (Replay.intersect_n xs)

  pub make_carried : MakeCarried N L L'
  make_carried (constant w) = carry_same _
  make_carried (bit w f v) = carry_same _
  make_carried (single w x) = single_carry w x
  make_carried (pair w x y) = pair_carry w x y
  make_carried (listed w xs) = listed_carry w xs

-- ---- queries

module _ (N : ℕ) {L L' : Limits} (wide : Wider L L') (lent : ℕ) where
  delta_carry : (x : ℕ) → Carried (on_base (delta N L x)) (on_base (delta N L' x))
  delta_carry x = on_base_lem ((limits_only N wide).delta x)

  -- ---- is_empty

  abbrev 𝓒 : Machine
  𝓒 = machine N L lent

  abbrev 𝓓 : Machine
  𝓓 = machine N L' lent

  -- as Carries, of turns of the two machines
  data Turns : Outcome Tables (Turn 𝓒) → Outcome Tables (Turn 𝓓) → Type 0 where
    lifts : {number : ℕ} {p : Outcome Tables (Turn 𝓓)} → OfLimit number → Turns (refused number) p
    refuses : {number : ℕ} → Turns (refused number) (refused number)
    goes : {σ : Tables} {pending : List (Entry ℕ)} {seen : State → ℕ} → Turns (given σ (Handles.goes pending seen)) (given σ (Handles.goes pending seen))
    finds : {σ : Tables} → Turns (given σ Handles.found) (given σ Handles.found)

  abbrev Turned : Step Tables (Turn 𝓒) → Step Tables (Turn 𝓓) → Type 0
  Turned m k = (σ : Tables) → Turns (m σ) (k σ)

  turned_after : {A : Type 0} (o p : Outcome Tables A) (k : A → Step Tables (Turn 𝓒)) (j : A → Step Tables (Turn 𝓓)) → Carries o p → ((a : A) → Turned (k a) (j a)) → Turns (after o k) (after p j)
  turned_after _ p k j (lifted n) f = lifts n
  turned_after (refused number) _ k j same f = refuses
  turned_after (given σ a) _ k j same f = f a σ

  turned_bind : {A : Type 0} {m m' : Step Tables A} {k : A → Step Tables (Turn 𝓒)} {j : A → Step Tables (Turn 𝓓)} → Carried m m' → ((a : A) → Turned (k a) (j a)) → Turned (m >>= k) (m' >>= j)
  turned_bind {m = m} {m' = m'} {k = k} {j = j} h f σ = turned_after (m σ) (m' σ) k j (h σ) f

  turned_test : (b : Bool) (m k : Step Tables (Turn 𝓒)) (m' k' : Step Tables (Turn 𝓓)) → Turned m m' → Turned k k' → Turned (if b then m else k) (if b then m' else k')
  turned_test true m k m' k' y n = y
  turned_test false m k m' k' y n = n

  walk_carry : (fresh : ℕ) (links : List (Link ℕ)) (pending : List (Entry ℕ)) → Carried (Handles.walk 𝓒 fresh links pending) (Handles.walk 𝓓 fresh links pending)
  unfolding Handles.walk
  walk_carry fresh [] pending = carry_same _
  walk_carry fresh (t ∷ ts) pending = carry_bind (carry_same (𝓒.push fresh t.label)) (λ next. carry_bind (carry_same _) (walk_carry fresh ts))

  expand_carry : (s fresh : ℕ) (rest : List (Entry ℕ)) (seen : State → ℕ) → Turned (Handles.expand 𝓒 s fresh rest seen) (Handles.expand 𝓓 s fresh rest seen)
  unfolding Handles.expand
  expand_carry s fresh rest seen =
      turned_bind (carry_same (𝓒.union (seen s) fresh)) (λ both.
      turned_bind (carry_same _) (λ e σ.
      turned_test (Images.has_image N N fresh e (diagrams σ)) _ _ _ _ (λ τ. finds)
      (turned_bind (carry_bind (delta_carry s) (λ es. carry_same _)) (λ links. turned_bind (walk_carry fresh links rest) (λ pending τ. goes))) σ))

  turn_carry : (entry : Entry ℕ) (rest : List (Entry ℕ)) (seen : State → ℕ) → Turned (Handles.turn 𝓒 entry rest seen) (Handles.turn 𝓓 entry rest seen)
  unfolding Handles.turn
  turn_carry entry rest seen =
      turned_bind (carry_same (𝓒.difference entry.packets (seen entry.state))) (λ fresh. turned_test (Sp.is_zero N fresh) _ _ _ _ (λ σ. goes) (expand_carry entry.state fresh rest seen))

  onward_carry : {f g : List (Entry ℕ) → (State → ℕ) → Step Tables (Verdict × ℕ)} (count : ℕ) {o : Outcome Tables (Turn 𝓒)} {p : Outcome Tables (Turn 𝓓)} → ((pending : List (Entry ℕ)) (seen : State → ℕ) → Carried (f pending seen) (g pending seen)) → Turns o p
      → Carries (after o (Handles.onward 𝓒 f count)) (after p (Handles.onward 𝓓 g count))
  onward_carry count h (lifts n) = lifted n
  onward_carry count h refuses = same
  onward_carry count h (goes {σ} {pending} {seen}) = h pending seen σ
  onward_carry count h finds = same

  run_carry : (left : ℕ) (entries : List (Entry ℕ)) (seen : State → ℕ) (count : ℕ) → Carried (Handles.run 𝓒 left entries seen count) (Handles.run 𝓓 left entries seen count)
  unfolding Handles.run
  run_carry zero [] seen count σ = same
  run_carry zero (entry ∷ rest) seen count σ = same
  run_carry (suc left) [] seen count σ = same
  run_carry (suc left) (entry ∷ rest) seen count σ = onward_carry (suc count) (λ pending seen'. run_carry left pending seen' (suc count)) (turn_carry entry rest seen σ)

  is_empty_carry : (budget s : ℕ) → Carried (is_empty N L lent budget s) (is_empty N L' lent budget s)
  unfolding is_empty Handles.search
  is_empty_carry budget s = carry_bind (carry_same (Handles.put 𝓒 s (Sp.one_at N) [])) (λ pending. run_carry budget pending (λ t. Sp.zero_at N) 0)

  -- ---- live_packets

  visit_carry : (s : ℕ) (visited waiting : List ℕ) → Carried (visit N L lent s visited waiting) (visit N L' lent s visited waiting)
  visit_carry s visited waiting = carry_bind (carry_same (asks N s)) (λ e. carry_bind (carry_same _) (λ ends. carry_bind (delta_carry s) (λ list. carry_same _)))

  explore_carry : (most : ℕ) (visited waiting : List ℕ) (live : ℕ → ℕ) → Carried (explore N L lent most visited waiting live) (explore N L' lent most visited waiting live)
  unfolding explore
  explore_carry zero visited waiting live = carry_same _
  explore_carry (suc most) visited [] live = carry_same _
  explore_carry (suc most) visited (s ∷ waiting) live = carry_bind (visit_carry s visited waiting) (λ v. explore_carry most (visited ++ s ∷ []) v.waiting (live_at s v.ends live))

  -- no limit is read
  pull_carry : (t : ℕ) (ss : List ℕ) (w : Work) → Carried (pull_all N L lent t ss w) (pull_all N L' lent t ss w)
  unfolding pull_all pull_from pull_back
  pull_carry t [] w = carry_same _
  pull_carry t (s ∷ ss) w = carry_bind (carry_same _) (pull_carry t ss)

  settle_carry : (most : ℕ) (ss todo : List ℕ) (live : ℕ → ℕ) → Carried (settle N L lent most ss (work todo live)) (settle N L' lent most ss (work todo live))
  unfolding settle
  settle_carry zero ss todo live = carry_same _
  settle_carry (suc most) ss [] live = carry_same _
  settle_carry (suc most) ss (t ∷ rest) live = carry_bind (pull_carry t ss (work rest live)) (λ w. settle_carry most ss w.todo w.live)

  sets_carry : (x : ℕ) → Carried (live_sets N L lent x) (live_sets N L' lent x)
  unfolding live_sets
  sets_carry x =
      carry_test (ltb 0 (capacity lent)) _ _ _ _
      (carry_bind (explore_carry (capacity lent) [] (x ∷ []) (λ t. Sp.zero_at N)) (λ f. carry_bind (settle_carry (takes N L lent f.states) f.states _ f.live) (λ live. carry_same _)))
      (carry_same _)

  live_carry : (x : ℕ) → Carried (live_packets N L lent x) (live_packets N L' lent x)
  unfolding live_packets live_anew
  live_carry x σ = carry_if (ltb 0 (live_of σ.base.aut.states.words x)) same (carry_bind (sets_carry x) (λ f. carry_same _) σ)

  -- ---- delta_pruned, why

  pruned_carry : (x : ℕ) → Carried (delta_pruned N L lent x) (delta_pruned N L' lent x)
  unfolding delta_pruned
  pruned_carry x = carry_bind (live_carry x) (λ h. carry_bind (delta_carry x) (λ es. carry_same _))

  why_carry : (x : ℕ) → Carried (why N L lent x) (why N L' lent x)
  unfolding why why_sets rounds_of
  why_carry x = carry_bind (carry_bind (sets_carry x) (λ f. carry_same _)) (λ r. carry_same _)

  pub queries_carried : QueriesCarried N L L' lent
  queries_carried = record { empty = is_empty_carry; live = live_carry; pruned = pruned_carry; why = why_carry }
