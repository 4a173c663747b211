-- `why` (aut_why_steps' Why) on longer tables, with no fewer pending entries: from tables in order, of a state that is there. The rounds read what the walk has worked out; the pick reads the last tables.
use Rattle.std.specs.Prelude.{if◌then◌else◌}
use mathlib.Core.Path.{◌≡◌, refl, fun_ext}
use mathlib.Core.List.{List, [], ◌∷◌, ◌++◌, map}
use mathlib.Core.Option.{Option, none, some}
use Prim.Native.Nat.{ℕ, zero, suc, ◌-◌, ◌≤◌, ◌<◌}
use native.Mathlib.Omega.{arith}
use lib.Dec.{eqb}
use Rattle.common.specs.Packets.{Set, Relation}
use Rattle.common.specs.Outcome.{Step, ◌>>=◌}
use Rattle.netkat.specs.Lists.{to}
use Rattle.netkat_steps.specs.ListSteps.{Edge}
use Rattle.netkat_paths.specs.Pick.{pick}
use Rattle.sp_steps.specs.Model as Sp
use Rattle.spp_steps.specs.ImageModel as Images
use Rattle.aut_steps.specs.Relations as Rel
use Rattle.aut_steps.specs.Tables.{SPP, Limits}
use Rattle.aut_steps.specs.Wf.{states}
use Rattle.aut_delta_steps.specs.Epsilon.{value_of}
use Rattle.aut_delta_steps.specs.Wf.{WfStore}
use Rattle.aut_query_steps.specs.Tables.{Tables, making_sets}
use Rattle.aut_query_steps.specs.Live.{live_at, keep_lives}
use Rattle.aut_why_steps.specs.Why.{Sets, each, same_on, ends, joins, turn, rounds, most_rounds, fewest, round_at, pick_at, pick_by, rounds_of, why_sets, why}
use Rattle.book_longer.specs.Longer.{LongerWords, LongerTables, Follows, Respects}
use Rattle.book_longer.proofs.Follow.{follows_bind, follows_value, along, returns, test, bind, meets_follow}
use Rattle.book_longer.proofs.Words.{kinds, firsts, epsilons}
use Rattle.book_longer.proofs.Sets as SetsOf
use Rattle.book_longer.proofs.Relations as RelationsOf
use Rattle.book_longer.proofs.Images.{bwd_longer, pull_longer}
use Rattle.book_longer.proofs.Delta.{list_at_same}
use Rattle.book_longer.proofs.Queries.{sets_plain, making_plain}
use Rattle.book_longer.proofs.Live.{live_sets_meets, keep_lives_longer}

value_same : {s t : List ℕ} → LongerWords s t → value_of s ≡ value_of t
unfolding value_of
value_same r = fun_ext (λ x d. if eqb (kinds r d x) SPP then firsts r d x else epsilons r d x - 1)

each_longer : {f : ℕ → Step Tables ℕ} → ((s : ℕ) → Respects LongerTables (f s)) → (ss : List ℕ) (w : Sets) → Respects LongerTables (each f ss w)
unfolding each
each_longer h [] w = returns w
each_longer h (s ∷ ss) w = bind (h s) (λ u. each_longer h ss (live_at s u w))

module _ (N : ℕ) where
  ends_longer : (s : ℕ) → Respects LongerTables (ends N s)
  unfolding ends
  ends_longer s σ τ r = along (λ d. making_sets (Images.bwd N (value_same r.base.aut.states.words d s))) (making_plain (bwd_longer N _)) σ τ r

  joins_longer : (es : List Edge) (before : Sets) (u : ℕ) → Respects LongerTables (joins N es before u)
  unfolding joins
  joins_longer [] before u = returns u
  joins_longer (e ∷ es) before u = bind (making_plain (pull_longer N N e.label (before e.target))) (λ p. bind (sets_plain (SetsOf.union_longer N u p)) (λ v. joins_longer es before v))

  turn_longer : (before : Sets) (s : ℕ) → Respects LongerTables (turn N before s)
  unfolding turn
  turn_longer before s σ τ r = along (λ d. ends N s >>= joins N (list_at_same r.base s d) before) (bind (ends_longer s) (joins_longer _ before)) σ τ r

  rounds_longer : (most : ℕ) (ss : List ℕ) (done : List Sets) (now : Sets) → Respects LongerTables (rounds N most ss done now)
  unfolding rounds
  rounds_longer zero ss done now = returns (done ++ now ∷ [])
  rounds_longer (suc most) ss done now = bind (each_longer (turn_longer now) ss now) (λ next. test (same_on ss now next) (returns (done ++ now ∷ [])) (rounds_longer most ss (done ++ now ∷ []) next))

  -- ---- the pick reads the tables

  pick_at_same : {σ τ : Tables} → LongerTables σ τ → (ws : List Sets) (k x : ℕ) → pick_at N σ ws k x ≡ pick_at N τ ws k x
  pick_at_same {σ} {τ} r ws k x =
      let relation : (h : ℕ) → ◌≡◌ {A = Relation N} (Rel.pairs N σ.base.aut.nodes h) (Rel.pairs N τ.base.aut.nodes h) = λ h. fun_ext (λ p. fun_ext (λ q. RelationsOf.mem_same r.base.aut.nodes.words N h p q)) in
      let set : (h : ℕ) → ◌≡◌ {A = Set N} (Sp.mem σ.sets.words N h) (Sp.mem τ.sets.words N h) = λ h. fun_ext (λ p. SetsOf.mem_same r.sets.words N h p) in
      λ d. pick (λ s. relation (value_same r.base.aut.states.words d s) d) (λ s. map (λ e. to e.target (relation e.label d)) (list_at_same r.base s d)) (λ j s. set (round_at N ws j s) d) k x

  pick_by_same : {σ τ : Tables} → LongerTables σ τ → (ws : List Sets) (x : ℕ) (k : Option ℕ) → pick_by N σ ws x k ≡ pick_by N τ ws x k
  pick_by_same r ws x none = refl
  pick_by_same r ws x (some k) = pick_at_same r ws k x

pub why_follows : {N : ℕ} {L : Limits} {lent more : ℕ} → lent ≤ more → (x : ℕ) (σ τ : Tables) → WfStore N L σ.base → x < states σ.base.aut → LongerTables σ τ
    → Follows LongerTables (why N L lent x σ) (why N L more x τ)
unfolding why why_sets rounds_of
why_follows {N} {L} {lent} {more} wide x σ τ W k r =
    follows_bind
    (meets_follow (live_sets_meets N L lent more wide x σ τ (record { longer = r; worked = W; more = omega arith }) k) (λ σ₁ τ₁ f r₁ q.
    bind (bind (each_longer (ends_longer N) f.states (λ t. Sp.zero_at N)) (λ now. rounds_longer N (most_rounds N f.states) f.states [] now)) (λ ws. returns (record { states = f.states; sets = ws }))
    (keep_lives f.states f.live σ₁) (keep_lives f.states f.live τ₁) (keep_lives_longer f.states f.live q r₁.worked.good.fits r₁.longer)))
    (λ σ₂ τ₂ rs r₂. follows_value r₂ (pick_by_same N r₂ rs.sets x (fewest N x 0 rs.sets)))
