-- `live_packets` (aut_query_steps' Live) on longer tables, with no fewer pending entries: from tables in order, of a state that is there. The walk makes at most as many visits as there are entries, so that more of them change nothing.
use Rattle.std.specs.Prelude.{if◌then◌else◌}
use mathlib.Core.Path.{◌≡◌, refl, subst}
use mathlib.Core.Bool.{Bool, true, false}
use mathlib.Core.List.{List, [], ◌∷◌, ◌++◌, reverse, Memᴰ}
use Prim.Native.Nat.{ℕ, zero, suc, ◌+◌, ◌*◌, ◌-◌, ◌≤◌, ◌<◌}
use native.Mathlib.Omega.{arith}
use lib.Dec.{eqb, ltb}
use lib.ListN.{length, length-append, length-set}
use borrow.Author.Tests.{ltb-true}
use Rattle.common.specs.Packets.{any}
use Rattle.common.specs.Outcome.{refused, given, Step, return, ◌>>=◌}
use Rattle.common.specs.Runs.{Table}
use Rattle.spp_steps.proofs.Laws.{false_true}
use Rattle.netkat_steps.specs.ListSteps.{Edge}
use Rattle.sp_steps.specs.Model as Sp
use Rattle.aut_steps.specs.Tables.{Limits}
use Rattle.aut_steps.specs.Wf.{states}
use Rattle.aut_steps.specs.Ascending.{All}
use Rattle.aut_delta_steps.specs.Epsilon.{set_word}
use Rattle.aut_delta_steps.specs.Delta.{list_at}
use Rattle.aut_delta_steps.specs.Wf.{WfStore}
use Rattle.aut_query_steps.specs.Tables.{Tables}
use Rattle.aut_query_steps.specs.Search.{capacity}
use Rattle.aut_query_steps.specs.Live.{live_at, Found, found, enqueue, Work, work, Label, by, none, label_to, enlarge, keep_in, keep_lives, visit, explore, pull_back, pull_from, pull_all, settle, takes, settled, live_sets, live_anew, live_packets}
use Rattle.book_longer.specs.Longer.{Longer, LongerTables, no_entry, Follows, lacked, goes}
use Rattle.book_longer.proofs.Follow.{follows_bind, follows_value, follows_if, Meets, lacks, meets, meets_bind, meets_given, meets_same, meets_follow, Same, same}
use Rattle.book_longer.proofs.Words.{lives, set_longer}
use Rattle.book_longer.proofs.Sets.{union_longer}
use Rattle.book_longer.proofs.Images.{bwd_longer, pull_longer}
use Rattle.book_longer.proofs.Delta.{list_at_same}
use Rattle.book_longer.proofs.Queries.{Onward, on_sets_lem, making_sets_lem, epsilon_onward, delta_onward, targets_of, onward_all, onward_fewer}
use Rattle.book_longer.proofs.Search.{capacity_more, room_more}

-- ---- states

abbrev pub Below : ℕ → List ℕ → Type 0
Below m xs = All (λ s. s < m) xs

pub below_more : {m n : ℕ} → m ≤ n → (xs : List ℕ) → Below m xs → Below n xs
below_more l [] p = tt
below_more l (x ∷ xs) (q, p) = (omega arith, below_more l xs p)

below_last : {m : ℕ} (xs : List ℕ) (x : ℕ) → Below m xs → x < m → Below m (xs ++ x ∷ [])
below_last [] x p l = (l, tt)
below_last (y ∷ ys) x (q, p) l = (q, below_last ys x p l)

-- a list of transitions to them
abbrev Leads : ℕ → List Edge → Type 0
Leads m [] = Unit
Leads m (e ∷ es) = (e.target < m) × Leads m es

leads_of : {m : ℕ} (es : List Edge) → ((e : Edge) → Memᴰ e es → e.target < m) → Leads m es
leads_of [] f = tt
leads_of (e ∷ es) f = (f e (Memᴰ.head refl), leads_of es (λ d m. f d (Memᴰ.tail m)))

-- what waits has entries, and is there
record Waits (m room : ℕ) (visited waiting : List ℕ) : Type 0 where
  fits : length (visited ++ waiting) ≤ room
  known : Below m waiting

module _ (N : ℕ) (L : Limits) (lent more : ℕ) (wide : lent ≤ more) where
  -- ---- the walk

  enqueue_meets : {n m : ℕ} (es : List Edge) (visited waiting : List ℕ) (σ τ : Tables) → Onward N L n σ τ → Leads m es → Waits m (capacity lent) visited waiting
      → Meets (Onward N L n) (λ υ. Same (Waits m (capacity lent) visited)) (enqueue (capacity lent) es visited waiting σ) (enqueue (capacity more) es visited waiting τ)
  unfolding enqueue
  enqueue_meets [] visited waiting σ τ r ls w = meets r (same w)
  enqueue_meets {n} {m} (e ∷ es) visited waiting σ τ r (k, ls) w =
      go (any (eqb e.target) (visited ++ waiting)) (ltb (length (visited ++ waiting)) (capacity lent)) (ltb (length (visited ++ waiting)) (capacity more)) (room_more (length (visited ++ waiting)) lent more wide)
      (λ b. ltb-true (length (visited ++ waiting)) (capacity lent) b) (enqueue_meets es visited waiting σ τ r ls w) (enqueue_meets es visited (waiting ++ e.target ∷ []) σ τ r ls)
    where
      go : (a b c : Bool) → (b ≡ true → c ≡ true) → (b ≡ true → length (visited ++ waiting) < capacity lent)
          → Meets (Onward N L n) (λ υ. Same (Waits m (capacity lent) visited)) (enqueue (capacity lent) es visited waiting σ) (enqueue (capacity more) es visited waiting τ)
          → (Waits m (capacity lent) visited (waiting ++ e.target ∷ [])
          → Meets (Onward N L n) (λ υ. Same (Waits m (capacity lent) visited)) (enqueue (capacity lent) es visited (waiting ++ e.target ∷ []) σ) (enqueue (capacity more) es visited (waiting ++ e.target ∷ []) τ))
          → Meets (Onward N L n) (λ υ. Same (Waits m (capacity lent) visited))
          ((if a then enqueue (capacity lent) es visited waiting else if b then enqueue (capacity lent) es visited (waiting ++ e.target ∷ []) else (λ σ. refused 24)) σ)
          ((if a then enqueue (capacity more) es visited waiting else if c then enqueue (capacity more) es visited (waiting ++ e.target ∷ []) else (λ σ. refused 24)) τ)
      go true b c f l y h = y
      go false true true f l y h =
          h (record {
            fits = omega (arith, l refl, length-append visited waiting, length-append visited (waiting ++ e.target ∷ []), length-append waiting (e.target ∷ []));
            known = below_last waiting e.target w.known k;
          })
      go false true false f l y h = absurd (false_true (f refl))
      go false false c f l y h = lacks no_entry

  visit_meets : {n : ℕ} (s : ℕ) (visited waiting : List ℕ) (σ τ : Tables) → Onward N L n σ τ → s < n → Waits n (capacity lent) (visited ++ s ∷ []) waiting
      → Meets (Onward N L n) (λ υ. Same (λ v. Waits (states υ.base.aut) (capacity lent) (visited ++ s ∷ []) v.waiting)) (visit N L lent s visited waiting σ) (visit N L more s visited waiting τ)
  visit_meets {n} s visited waiting σ τ r k w =
      meets_bind (epsilon_onward s k σ τ r) (λ σ₁ τ₁ e r₁.
      meets_bind (making_sets_lem (bwd_longer N e) σ₁ τ₁ r₁) (λ σ₂ τ₂ ends r₂.
      meets_given (targets_of σ₂ r₂.worked (omega (arith, r₂.more))) (delta_onward s k σ₂ τ₂ r₂) (λ σ₃ τ₃ list f r₃.
      meets_same (enqueue_meets list (visited ++ s ∷ []) waiting σ₃ τ₃ (onward_all r₃) (leads_of list f) (record { fits = w.fits; known = below_more r₃.more waiting w.known })) (λ σ₄ τ₄ waiting₄ r₄ q.
      meets (onward_fewer r₃.more r₄) (same {a = record { ends = ends; waiting = waiting₄ }} (record { fits = q.fits; known = below_more r₄.more waiting₄ q.known }))))))

  -- what holds between two visits, with `most` visits left
  record Walks (m most : ℕ) (visited waiting : List ℕ) : Type 0 where
    enough : capacity lent ≤ length visited + most
    waits : Waits m (capacity lent) visited waiting
    seen : Below m visited

  explore_meets : (most most' : ℕ) (visited waiting : List ℕ) (live : ℕ → ℕ) (σ τ : Tables) → most ≤ most' → Onward N L 0 σ τ → Walks (states σ.base.aut) most visited waiting
      → Meets (Onward N L 0) (λ υ. Same (λ f. Below (states υ.base.aut) f.states)) (explore N L lent most visited waiting live σ) (explore N L more most' visited waiting live τ)
  unfolding explore
  explore_meets zero zero visited [] live σ τ l r w = meets r (same {a = found visited live} w.seen)
  explore_meets zero (suc most') visited [] live σ τ l r w = meets r (same {a = found visited live} w.seen)
  explore_meets zero zero visited (s ∷ waiting) live σ τ l r w = absurd (omega (arith, w.enough, w.waits.fits, length-append visited (s ∷ waiting)))
  explore_meets zero (suc most') visited (s ∷ waiting) live σ τ l r w = absurd (omega (arith, w.enough, w.waits.fits, length-append visited (s ∷ waiting)))
  explore_meets (suc most) zero visited waiting live σ τ l r w = absurd (omega arith)
  explore_meets (suc most) (suc most') visited [] live σ τ l r w = meets r (same {a = found visited live} w.seen)
  explore_meets (suc most) (suc most') visited (s ∷ waiting) live σ τ l r w =
      let (k, known) = w.waits.known in
      meets_same (visit_meets s visited waiting σ τ (onward_all r) k (record { fits = omega (arith, w.waits.fits, length-append visited (s ∷ waiting), length-append (visited ++ s ∷ []) waiting, length-append visited (s ∷ [])); known = known })) (λ σ₁ τ₁ v r₁ q.
      explore_meets most most' (visited ++ s ∷ []) v.waiting (live_at s v.ends live) σ₁ τ₁ (omega arith) (onward_fewer (omega arith) r₁) (record {
        enough = omega (arith, w.enough, length-append visited (s ∷ []));
        waits = q;
        seen = below_more r₁.more (visited ++ s ∷ []) (below_last visited s w.seen k);
      }))

  -- ---- the work list

  enlarge_follows : {n : ℕ} (s combined : ℕ) (w : Work) (σ τ : Tables) → Onward N L n σ τ → Follows (Onward N L n) (enlarge (capacity lent) s combined w σ) (enlarge (capacity more) s combined w τ)
  unfolding enlarge
  enlarge_follows {n} s combined w σ τ r = go (eqb combined (w.live s)) (ltb (length w.todo) (capacity lent)) (ltb (length w.todo) (capacity more)) (room_more (length w.todo) lent more wide)
    where
      go : (a b c : Bool) → (b ≡ true → c ≡ true)
          → Follows (Onward N L n) ((if a then return w else if b then return (work (s ∷ w.todo) (live_at s combined w.live)) else (λ σ. refused 24)) σ)
          ((if a then return w else if c then return (work (s ∷ w.todo) (live_at s combined w.live)) else (λ σ. refused 24)) τ)
      go true b c f = goes r
      go false true true f = goes r
      go false true false f = absurd (false_true (f refl))
      go false false c f = lacked no_entry

  pull_back_follows : {n : ℕ} (t s l : ℕ) (w : Work) (σ τ : Tables) → Onward N L n σ τ → Follows (Onward N L n) (pull_back N L lent t s l w σ) (pull_back N L more t s l w τ)
  unfolding pull_back
  pull_back_follows t s l w σ τ r =
      follows_bind (making_sets_lem (pull_longer N N l (w.live t)) σ τ r) (λ σ₁ τ₁ accepted r₁.
      follows_bind (on_sets_lem (union_longer N (w.live s) accepted) σ₁ τ₁ r₁) (λ σ₂ τ₂ combined r₂. enlarge_follows s combined w σ₂ τ₂ r₂))

  pull_from_follows : {n : ℕ} (t s : ℕ) (w : Work) (σ τ : Tables) → Onward N L n σ τ → Follows (Onward N L n) (pull_from N L lent t s w σ) (pull_from N L more t s w τ)
  unfolding pull_from
  pull_from_follows {n} t s w σ τ r =
      subst (λ (l : Label). Follows {A = Work} (Onward N L n) (elim (label_to t (list_at σ.base s)) [ by l ↦ pull_back N L lent t s l w σ | none ↦ given σ w ]) (elim l [ by l ↦ pull_back N L more t s l w τ | none ↦ given τ w ]))
      (λ d. label_to t (list_at_same r.longer.base s d)) (go (label_to t (list_at σ.base s)))
    where
      go : (l : Label) → Follows {A = Work} (Onward N L n) (elim l [ by l ↦ pull_back N L lent t s l w σ | none ↦ given σ w ]) (elim l [ by l ↦ pull_back N L more t s l w τ | none ↦ given τ w ])
      go (by l) = pull_back_follows t s l w σ τ r
      go none = goes r

  pull_all_follows : {n : ℕ} (t : ℕ) (ss : List ℕ) (w : Work) (σ τ : Tables) → Onward N L n σ τ → Follows (Onward N L n) (pull_all N L lent t ss w σ) (pull_all N L more t ss w τ)
  unfolding pull_all
  pull_all_follows t [] w σ τ r = goes r
  pull_all_follows t (s ∷ ss) w σ τ r = follows_bind (pull_from_follows t s w σ τ r) (λ σ₁ τ₁ w₁ r₁. pull_all_follows t ss w₁ σ₁ τ₁ r₁)

  settle_follows : {n : ℕ} (most : ℕ) (ss : List ℕ) (todo : List ℕ) (live : ℕ → ℕ) (σ τ : Tables) → Onward N L n σ τ → Follows (Onward N L n) (settle N L lent most ss (work todo live) σ) (settle N L more most ss (work todo live) τ)
  unfolding settle
  settle_follows zero ss todo live σ τ r = goes r
  settle_follows (suc most) ss [] live σ τ r = goes r
  settle_follows (suc most) ss (t ∷ rest) live σ τ r = follows_bind (pull_all_follows t ss (work rest live) σ τ r) (λ σ₁ τ₁ w r₁. settle_follows most ss w.todo w.live σ₁ τ₁ r₁)

  -- ---- the whole

  pub live_sets_meets : (x : ℕ) (σ τ : Tables) → Onward N L 0 σ τ → x < states σ.base.aut
      → Meets (Onward N L 0) (λ υ. Same (λ f. Below (states υ.base.aut) f.states)) (live_sets N L lent x σ) (live_sets N L more x τ)
  unfolding live_sets
  live_sets_meets x σ τ r k = go (ltb 0 (capacity lent)) (ltb 0 (capacity more)) (room_more 0 lent more wide) (λ b. ltb-true 0 (capacity lent) b)
    where
      whole : ℕ → Step Tables Found
      whole lent = explore N L lent (capacity lent) [] (x ∷ []) (λ t. Sp.zero_at N) >>= λ f. settled N L lent f >>= λ live. return (found f.states live)

      go : (b c : Bool) → (b ≡ true → c ≡ true) → (b ≡ true → 0 < capacity lent)
          → Meets (Onward N L 0) (λ υ. Same (λ f. Below (states υ.base.aut) f.states)) ((if b then whole lent else (λ σ. refused 24)) σ) ((if c then whole more else (λ σ. refused 24)) τ)
      go true true f l =
          meets_same (explore_meets (capacity lent) (capacity more) [] (x ∷ []) (λ t. Sp.zero_at N) σ τ (capacity_more lent more wide) r
          (record { enough = omega arith; waits = record { fits = l refl; known = (k, tt) }; seen = tt })) (λ σ₁ τ₁ f r₁ q.
          meets_bind (settle_follows (takes N L lent f.states) f.states (reverse f.states) f.live σ₁ τ₁ (onward_all r₁)) (λ σ₂ τ₂ live r₂.
          meets (onward_fewer (omega arith) r₂) (same {a = found f.states live} (below_more r₂.more f.states q))))
      go true false f l = absurd (false_true (f refl))
      go false c f l = lacks no_entry

-- live sets are kept
keep_in_longer : (xs : List ℕ) (live : ℕ → ℕ) (m : ℕ) {s t : Table} → Below m xs → 12 * m ≤ length s.words → Longer s t → Longer (keep_in xs live s) (keep_in xs live t)
unfolding keep_in set_word
keep_in_longer [] live m p l r = r
keep_in_longer (x ∷ xs) live m {s} (q, p) l r =
    keep_in_longer xs live m p (omega (arith, length-set s.words (12 * x + 7) (live x + 1))) (record { words = set_longer (12 * x + 7) (live x + 1) (omega arith) r.words; count = r.count })

pub keep_lives_longer : (xs : List ℕ) (live : ℕ → ℕ) {σ τ : Tables} → Below (states σ.base.aut) xs → 12 * states σ.base.aut ≤ length σ.base.aut.states.words → LongerTables σ τ → LongerTables (keep_lives xs live σ) (keep_lives xs live τ)
keep_lives_longer xs live p l r = record {
  sets = r.sets;
  base = record { aut = record { nodes = r.base.aut.nodes; states = keep_in_longer xs live _ p l r.base.aut.states; members = r.base.aut.members }; transitions = r.base.transitions };
}

pub live_follows : {N : ℕ} {L : Limits} {lent more : ℕ} → lent ≤ more → (x : ℕ) (σ τ : Tables) → WfStore N L σ.base → x < states σ.base.aut → LongerTables σ τ
    → Follows LongerTables (live_packets N L lent x σ) (live_packets N L more x τ)
unfolding live_packets live_anew
live_follows {N} {L} {lent} {more} wide x σ τ W k r =
    let w = r.base.aut.states.words in
    follows_if (λ d. ltb 0 (lives w d x)) (follows_value r (λ d. lives w d x - 1))
    (meets_follow (live_sets_meets N L lent more wide x σ τ (record { longer = r; worked = W; more = omega arith }) k) (λ σ₁ τ₁ f r₁ q. goes (keep_lives_longer f.states f.live q r₁.worked.good.fits r₁.longer)))
