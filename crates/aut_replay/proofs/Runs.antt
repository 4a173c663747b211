-- How two runs are followed: past a `>>=`, into a test, on a part of the tables. The relation is closed under each.
use Rattle.std.specs.Prelude.{if◌then◌else◌}
use mathlib.Core.Path.{◌≡◌, refl, sym, ◌∙◌, ap, ap₂, subst}
use mathlib.Core.Bool.{Bool, true, false}
use Prim.Native.Nat.{ℕ, ◌+◌, ◌*◌, ◌≤◌, ◌<◌}
use native.Mathlib.Omega.{arith}
use native.Mathlib.Nat.{le_trans}
use lib.ListN.{get_or}
use Rattle.common.specs.Outcome.{Outcome, refused, given, Step, return, after, ◌>>=◌, Gives, gives, refusal}
use Rattle.common.specs.Runs as Runs
use Rattle.common.proofs.Runs as RunsLaws
use Rattle.common.specs.Runs.{Table, placed}
use Rattle.spp_steps.proofs.Laws.{ext_refl, ext_trans, spp_theory}
use Rattle.aut_steps.specs.Tables.{kind_of, op1, op2, nest, words, Limits, Aut, put_nodes, on_nodes, on_states, put_states}
use Rattle.aut_steps.proofs.Facts.{words_same}
use Rattle.aut_steps.specs.Wf.{states, kind, first, second, nesting, members, ExtAut, WfAut}
use Rattle.aut_steps.proofs.Wf.{grown_refl, grown_trans, grown_nodes}
use Rattle.aut_steps.proofs.StepSpec.{StepSpec, good_nodes}
use Rattle.aut_steps.proofs.StepSpec as Going
use Rattle.aut_replay.specs.Replay.{Later, Again, Replays, stops, comes, In}

-- ---- later tables

pub later_refl : (σ : Aut) → Later σ σ
later_refl σ = record { nodes = ext_refl σ.nodes; more = omega arith; words = λ x w l m. refl; members = λ i l. refl }

-- tables that have grown, and later ones
pub grown_later : {σ τ υ : Aut} → ExtAut σ τ → Later τ υ → Later σ υ
grown_later g w = record {
  nodes = ext_trans g.nodes w.nodes;
  more = le_trans g.states.more w.more;
  words = λ x u l m. w.words x u (le_trans l g.states.more) m ∙ g.states.keep x u l m;
  members = λ i l. w.members i (le_trans l g.members.more) ∙ g.members.keep i l;
}

module _ {σ υ : Aut} (w : Later σ υ) (x : ℕ) (l : x < states σ) where
  pub kind_later : kind υ x ≡ kind σ x
  unfolding kind_of
  kind_later =
      ap (λ (p : ℕ). get_or υ.states.words p 0) {x = 12 * x} {y = 12 * x + 0} (omega arith) ∙ w.words x 0 l (omega arith)
      ∙ ap (λ (p : ℕ). get_or σ.states.words p 0) {x = 12 * x + 0} {y = 12 * x} (omega arith)

  pub first_later : first υ x ≡ first σ x
  unfolding op1
  first_later = w.words x 1 l (omega arith)

  pub second_later : second υ x ≡ second σ x
  unfolding op2
  second_later = w.words x 2 l (omega arith)

  pub nesting_later : nesting υ x ≡ nesting σ x
  unfolding nest
  nesting_later = w.words x 3 l (omega arith)

  pub members_later : first σ x + second σ x ≤ σ.members.count → members υ x ≡ members σ x
  members_later f =
      ap₂ (words υ.members.words) first_later second_later
      ∙ words_same σ.members.words υ.members.words (first σ x) (second σ x) (λ i a b. w.members i (omega arith))

pub again_grown : {N : ℕ} {L : Limits} {A : Type 0} {step : Step Aut A} {σ τ : Aut} {a : A} → ExtAut σ τ → Again N L step σ a → Again N L step τ a
again_grown g r = record { same = λ υ w v. r.same υ (grown_later g w) v }

-- ---- following two runs

module _ {N : ℕ} {L : Limits} {A : Type 0} where
  -- what is given, and that it is given again
  pub replayed : {P : Aut → A → Type 0} {step : Step Aut A} {σ τ : Aut} {a : A} → Replays N L P step σ (given τ a) → P τ a × Again N L step τ a
  replayed (comes g m p r) = (p, r)

  pub replays_return : {P : Aut → A → Type 0} {σ : Aut} (a : A) → P σ a → Replays N L P (return a) σ (given σ a)
  replays_return {σ = σ} a p = comes (grown_refl σ) (λ i w l m. refl) p (record { same = λ υ w v. refl })

  pub replays_map : {P Q : Aut → A → Type 0} {step : Step Aut A} {σ : Aut} {o : Outcome Aut A} → Replays N L P step σ o
      → ((τ : Aut) (a : A) → ExtAut σ τ → P τ a → Q τ a) → Replays N L Q step σ o
  replays_map stops f = stops
  replays_map (comes {τ} {a} g m p r) f = comes g m (f τ a g p) r

  -- a step that does the same, on all tables later than the first
  pub replays_as : {P : Aut → A → Type 0} {step other : Step Aut A} {σ : Aut} {o : Outcome Aut A}
      → ((υ : Aut) → Later σ υ → WfAut N L υ → other υ ≡ step υ) → Replays N L P step σ o → Replays N L P other σ o
  replays_as f stops = stops
  replays_as f (comes g m p r) = comes g m p (record { same = λ υ w v. f υ (grown_later g w) v ∙ r.same υ w v })

  -- a first run that comes to the same
  pub replays_from : {P : Aut → A → Type 0} {step : Step Aut A} {σ : Aut} {o p : Outcome Aut A} → o ≡ p → Replays N L P step σ p → Replays N L P step σ o
  replays_from {P} {step} {σ} e r = subst (Replays N L P step σ) (sym e) r

  pub replays_bind : {B : Type 0} {P : Aut → A → Type 0} {Q : Aut → B → Type 0} {step : Step Aut A} {next : A → Step Aut B} {σ : Aut} {o : Outcome Aut A} {k : A → Step Aut B}
      → Replays N L P step σ o → ((τ : Aut) (a : A) → ExtAut σ τ → P τ a → Replays N L Q (next a) τ (k a τ)) → Replays N L Q (step >>= next) σ (after o k)
  replays_bind stops f = stops
  replays_bind {B} {Q = Q} {step = step} {next = next} {σ = σ} {k = k} (comes {τ} {a} g m p r) f = go (f τ a g p)
    where
      go : {o : Outcome Aut B} → Replays N L Q (next a) τ o → Replays N L Q (step >>= next) σ o
      go stops = stops
      go (comes h n q s) = comes (grown_trans g h) (λ i w l b. n i w l b ∙ m i w l b) q (record { same = λ υ w v. ap (λ (o : Outcome Aut A). after o next) (r.same υ (grown_later h w) v) ∙ s.same υ w v })

  -- a test on values
  pub replays_choose : {P : Aut → A → Type 0} {σ : Aut} (b : Bool) {s s' : Step Aut A} {o o' : Outcome Aut A}
      → (b ≡ true → Replays N L P s σ o) → (b ≡ false → Replays N L P s' σ o') → Replays N L P (λ υ. if b then s υ else s' υ) σ (if b then o else o')
  replays_choose true f h = f refl
  replays_choose false f h = h refl

  -- .. between steps
  pub replays_branch : {P : Aut → A → Type 0} {σ : Aut} (b : Bool) (m k m' k' : Step Aut A)
      → (b ≡ true → Replays N L P m' σ (m σ)) → (b ≡ false → Replays N L P k' σ (k σ)) → Replays N L P (if b then m' else k') σ ((if b then m else k) σ)
  replays_branch true m k m' k' f h = f refl
  replays_branch false m k m' k' f h = h refl

  -- a test on the tables
  pub replays_test : {P : Aut → A → Type 0} {σ : Aut} (test : Aut → Bool) (s s' : Step Aut A) {o o' : Outcome Aut A} → ((υ : Aut) → Later σ υ → test υ ≡ test σ)
      → (test σ ≡ true → Replays N L P s σ o) → (test σ ≡ false → Replays N L P s' σ o') → Replays N L P (λ υ. if test υ then s υ else s' υ) σ (if test σ then o else o')
  replays_test {σ = σ} test s s' e f h =
      replays_as (λ υ w v. ap (λ (b : Bool). if b then s υ else s' υ) (e υ w)) (replays_choose (test σ) {s = s} {s' = s'} f h)

  -- a limit: what passes it the first time passes it again
  pub replays_limit : {P : Aut → A → Type 0} {σ : Aut} (b c : Bool) (number : ℕ) {s : Step Aut A} {o : Outcome Aut A} → (b ≡ false → c ≡ false)
      → (b ≡ false → Replays N L P s σ o) → Replays N L P (λ υ. if c then refused number else s υ) σ (if b then refused number else o)
  replays_limit true c number e f = stops
  replays_limit false c number {s} e f = replays_as (λ υ w v. ap (λ (b : Bool). if b then refused number else s υ) (e refl)) (f refl)

  -- within a step on some of the tables
  pub replays_in : {S : Type 0} {P : Aut → A → Type 0} {σ : Aut} (put : S → Aut → Aut) (get : Aut → S) (b : Bool) (m k m' k' : Step S A)
      → (b ≡ true → Replays N L P (λ υ. placed put υ (m' (get υ))) σ (placed put σ (m (get σ)))) → (b ≡ false → Replays N L P (λ υ. placed put υ (k' (get υ))) σ (placed put σ (k (get σ))))
      → Replays N L P (λ υ. placed put υ ((if b then m' else k') (get υ))) σ (placed put σ ((if b then m else k) (get σ)))
  replays_in put get true m k m' k' f h = f refl
  replays_in put get false m k m' k' f h = h refl

  -- with what is known of the first run
  pub replays_goes : {M : Limits} {P Q : Aut → A → Type 0} {step : Step Aut A} {σ : Aut} {o : Outcome Aut A} → StepSpec N M Q σ o → Replays N L P step σ o → Replays N L (In N M Q) step σ o
  replays_goes (Going.stops w g y) stops = stops
  replays_goes (Going.comes r) (comes g m p s) = comes g m (r.good, r.holds) s

  pub replays_of : {M : Limits} {Q : Aut → A → Type 0} {step : Step Aut A} {σ : Aut} {o : Outcome Aut A} → StepSpec N M Q σ o
      → ((τ : Aut) (a : A) → WfAut N M τ → Q τ a → Again N L step τ a) → Replays N L (In N M Q) step σ o
  replays_of (Going.stops w g y) f = stops
  replays_of (Going.comes {τ} {a} r) f = comes r.grown r.memos (r.good, r.holds) (f τ a r.good r.holds)

-- a step on some of the tables, and then a value made of its answer
pub placed_then : {S A B : Type 0} (put : S → Aut → Aut) (σ : Aut) (o : Outcome S A) (f : A → B) → placed put σ (after o (λ a. return (f a))) ≡ after (placed put σ o) (λ a. return (f a))
placed_then put σ (refused number) f = refl
placed_then put σ (given s a) f = refl

pub states_then : {N : ℕ} {L : Limits} {A B : Type 0} {P : Aut → A → Type 0} {Q : Aut → B → Type 0} {σ : Aut} (c d : Step Table A) (f : A → B) → Replays N L P (on_states d) σ (on_states c σ)
    → ((τ : Aut) (a : A) → ExtAut σ τ → P τ a → Q τ (f a)) → Replays N L Q (on_states (d >>= λ a. return (f a))) σ (on_states (c >>= λ a. return (f a)) σ)
states_then {σ = σ} c d f r h =
    replays_from (placed_then put_states σ (c σ.states) f)
    (replays_as {step = on_states d >>= λ a. return (f a)} (λ υ w v. placed_then put_states υ (d υ.states) f) (replays_bind r (λ τ a g p. replays_return (f a) (h τ a g p))))

-- ---- relation nodes

-- relations replay: they are stable
pub nodes_replay : {N : ℕ} {L M : Limits} {A : Type 0} {P : Table → A → Type 0} {σ : Aut} → WfAut N M σ → (c : Step Table A) → RunsLaws.StableSpec (spp_theory N) c P σ.nodes
    → Replays N L (In N M (λ τ a. (states τ ≡ states σ) × P τ.nodes a)) (on_nodes c) σ (on_nodes c σ)
nodes_replay {N} {L} {M} {A} {P} {σ} g c r = go r
  where
    go : {o : Outcome Table A} → Gives (Runs.StableResult (spp_theory N) c P σ.nodes) o → Replays N L (In N M (λ τ a. (states τ ≡ states σ) × P τ.nodes a)) (on_nodes c) σ (placed put_nodes σ o)
    go refusal = stops
    go (gives {σ = t} h) =
        comes (grown_nodes {σ = σ} h.ext) (λ i w l m. refl) (good_nodes g h.ext h.wf, (refl, h.holds))
        (record { same = λ υ w v. ap (placed put_nodes υ) (h.stable υ.nodes w.nodes v.nodes) })
