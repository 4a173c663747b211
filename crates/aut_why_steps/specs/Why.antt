-- 02 (i): "After `live a`'s steps, as with no live set stored, k rising from 0 until none changes, states in `states` order get the starts of strings with at most k hops: `bwd` of epsilon, joined by ascending
-- target with `pull` of the k - 1 sets. Picking makes no nodes."
use Rattle.std.specs.Prelude.{◌≡◌, Bool, true, false, ◌&&◌, ℕ, zero, suc, ◌+◌, ◌*◌, ◌^◌, ◌<◌, eqb, length, get_or, if◌then◌else◌}
use mathlib.Core.List.{List, [], ◌∷◌, ◌++◌, map, Memᴰ}
use Rattle.std.proofs.Math.Option.{Option, none, some}
use Rattle.common.specs.Outcome.{given, Step, return, ◌>>=◌}
use Rattle.netkat.specs.Strings.{Str}
use Rattle.netkat_steps.specs.ListSteps.{Edge}
use Rattle.netkat_paths.specs.Pick.{pick}
use Rattle.sp_steps.specs.Model as Sp
use Rattle.sp_steps.specs.Wf as SpLaws
use Rattle.spp_steps.specs.ImageModel as Images
use Rattle.aut_steps.specs.Relations as Rel
use Rattle.aut_steps.specs.Tables.{Limits}
use Rattle.aut_delta_steps.specs.Epsilon.{value_of}
use Rattle.aut_delta_steps.specs.Delta.{list_at}
use Rattle.aut_delta_steps.specs.PlainSearch.{decoded}
use Rattle.aut_query_steps.specs.Tables.{Tables, on_sets, making_sets}
use Rattle.aut_query_steps.specs.Live.{live_at, Found, keep_lives, live_sets}

-- the sets of a round, by state
abbrev pub Sets : Type 0
Sets = ℕ → ℕ

-- the states reached, in the order of their visits, and the sets of each round, from round 0 on
pub record Rounds : Type 0 where
  pub states : List ℕ
  pub sets : List Sets

-- each state's set is worked out, in turn; the others keep theirs
unfoldable pub each : (ℕ → Step Tables ℕ) → List ℕ → Sets → Step Tables Sets
each f [] w = return w
each f (s ∷ ss) w = f s >>= λ u. each f ss (live_at s u w)

-- no state's set differs
unfoldable pub same_on : List ℕ → Sets → Sets → Bool
same_on [] v w = true
same_on (s ∷ ss) v w = eqb (v s) (w s) && same_on ss v w

module _ (N : ℕ) where
  -- the starts of s's strings without hops: the walk has worked out its epsilon
  unfoldable pub ends : ℕ → Step Tables ℕ
  ends s σ = making_sets (Images.bwd N (value_of σ.base.aut.states.words s)) σ

  -- joined with what each transition leads back from the sets of the round before: pull (20), union (20)
  unfoldable pub joins : List Edge → Sets → ℕ → Step Tables ℕ
  joins [] before u = return u
  joins (e ∷ es) before u = do
    p ← making_sets (Images.pull N N e.label (before e.target))
    v ← on_sets (Sp.union N u p)
    joins es before v

  -- the set of s, from the sets of the round before
  unfoldable pub turn : Sets → ℕ → Step Tables ℕ
  turn before s σ = (ends s >>= joins (list_at σ.base s) before) σ

  abbrev pub round_zero : List ℕ → Step Tables Sets
  round_zero states = each ends states (λ t. Sp.zero_at N)

  abbrev pub round : List ℕ → Sets → Step Tables Sets
  round states before = each (turn before) states before

  -- Rounds until none changes, at most `most`: all that differ, in order. `done` are those before `now`.
  unfoldable pub rounds : (most : ℕ) → List ℕ → (done : List Sets) → (now : Sets) → Step Tables (List Sets)
  rounds zero states done now = return (done ++ now ∷ [])
  rounds (suc most) states done now = round states now >>= λ next. if same_on states now next then return (done ++ now ∷ []) else rounds most states (done ++ now ∷ []) next

  -- each round but the last adds a packet at some state
  abbrev pub most_rounds : List ℕ → ℕ
  most_rounds states = length states * 2 ^ N + 1

  -- ---- the string

  -- the fewest hops of a string of x: the first round in which its set is not empty; the first of these rounds is round k
  unfoldable pub fewest : (x k : ℕ) → List Sets → Option ℕ
  fewest x k [] = none
  fewest x k (w ∷ ws) = if Sp.is_zero N (w x) then fewest x (suc k) ws else some k

  -- round j of these
  abbrev pub round_at : List Sets → ℕ → Sets
  round_at ws j = get_or ws j (λ t. Sp.zero_at N)

  -- the pick of a string of k hops, from what stands in the tables
  abbrev pub pick_at : Tables → List Sets → (k x : ℕ) → Option (Str N)
  pick_at σ ws k x =
      pick (λ s. Rel.pairs N σ.base.aut.nodes (value_of σ.base.aut.states.words s)) (λ s. map (decoded N σ.base.aut) (list_at σ.base s))
      (λ j s. Sp.mem σ.sets.words N (round_at ws j s)) k x

  abbrev pub pick_by : Tables → List Sets → (x : ℕ) → Option ℕ → Option (Str N)
  pick_by σ ws x none = none
  pick_by σ ws x (some k) = pick_at σ ws k x

  module _ (L : Limits) (lent : ℕ) where
    -- the rounds of the states reached: their live sets are kept first
    unfoldable pub rounds_of : Found → Step Tables Rounds
    rounds_of f σ =
        (round_zero f.states >>= rounds (most_rounds f.states) f.states [] >>= λ ws. return (record { states = f.states; sets = ws })) (keep_lives f.states f.live σ)

    unfoldable pub why_sets : ℕ → Step Tables Rounds
    why_sets x = live_sets N L lent x >>= rounds_of

    unfoldable pub why : ℕ → Step Tables (Option (Str N))
    why x = why_sets x >>= λ r σ. given σ (pick_by σ r.sets x (fewest x 0 r.sets))

-- ---- the rounds again

-- The rounds ws of the states ss stand in τ: worked out again there, each gives what it gave and makes nothing.
pub record Again (N : ℕ) (ss : List ℕ) (τ : Tables) (ws : List Sets) : Type 0 where
  pub some : 0 < length ws
  pub at : (j t : ℕ) → SpLaws.ValidAt τ.sets N (round_at N ws j t)
  pub first : (s : ℕ) → Memᴰ s ss → ends N s τ ≡ given τ (round_at N ws 0 s)
  pub next : (j : ℕ) → suc j < length ws → (s : ℕ) → Memᴰ s ss → turn N (round_at N ws j) s τ ≡ given τ (round_at N ws (suc j) s)
