-- The steps of queries on longer tables: on packet nodes, on both kinds of nodes, epsilon and delta. The other tables of the shorter run stay in order (`WfStore`), and have at least the states that they had.
use mathlib.Core.List.{List, Memᴰ}
use Prim.Native.Nat.{ℕ, ◌≤◌, ◌<◌}
use native.Mathlib.Omega.{arith}
use Rattle.common.specs.Outcome.{Outcome, Step, Gives, gives, refusal}
use Rattle.common.specs.Runs.{Table, placed}
use Rattle.netkat_steps.specs.ListSteps.{Edge}
use Rattle.spp_steps.specs.ImageModel.{Stores}
use Rattle.aut_steps.specs.Tables.{Limits, Aut, put_nodes, on_nodes}
use Rattle.aut_steps.specs.Wf.{states}
use Rattle.aut_delta_steps.specs.Epsilon.{epsilon}
use Rattle.aut_delta_steps.specs.Delta.{Store, put_aut, on_aut, delta}
use Rattle.aut_delta_steps.specs.Wf.{WfStore}
use Rattle.aut_delta_steps.proofs.Agree.{agree_gives}
use Rattle.aut_delta_steps.proofs.DeltaRuns.{Deltaed, epsilon_step}
use Rattle.aut_delta_steps.proofs.DeltaLaws.{delta_goes}
use Rattle.aut_query_steps.specs.Tables.{Tables, diagrams, put_sets, put_base, put_relations, on_sets, on_base, making_sets, making_relations}
use Rattle.aut_query_steps.proofs.ExploreLaws.{targets_known}
use Rattle.book_longer.specs.Longer.{Longer, LongerStores, LongerAut, LongerStore, LongerTables, Follows, lacked, same_refusal, goes, Respects}
use Rattle.book_longer.proofs.Follow.{follows_placed}
use Rattle.book_longer.proofs.Epsilon.{epsilon_follows}
use Rattle.book_longer.proofs.Delta.{delta_follows}

-- the second tables are longer; the first are in order, with n states or more
pub record Onward (N : ℕ) (L : Limits) (n : ℕ) (σ τ : Tables) : Type 0 where
  pub longer : LongerTables σ τ
  pub worked : WfStore N L σ.base
  pub more : n ≤ states σ.base.aut

pub both_nodes : {σ τ : Tables} → LongerTables σ τ → LongerStores (diagrams σ) (diagrams τ)
both_nodes r = record { sp = r.sets; spp = r.base.aut.nodes }

-- two stores of which the first is in order, with a value of which P holds
record Kept (N : ℕ) (L : Limits) (n : ℕ) (b c : Store) : Type 0 where
  longer : LongerStore b c
  worked : WfStore N L b
  more : n ≤ states b.aut

kept_of : {N : ℕ} {L : Limits} {n : ℕ} {A : Type 0} {P : Store → A → Type 0} {o p : Outcome Store A} → ((b : Store) (a : A) → P b a → WfStore N L b × (n ≤ states b.aut)) → Gives P o → Follows LongerStore o p → Follows (Kept N L n) o p
kept_of f g (lacked n) = lacked n
kept_of f g same_refusal = same_refusal
kept_of f (gives {σ = b} {a} q) (goes r) = let (w, m) = f b a q in goes (record { longer = r; worked = w; more = m })

module _ {N : ℕ} {L : Limits} {n : ℕ} where
  pub on_sets_lem : {A : Type 0} {c : Step Table A} → Respects Longer c → Respects (Onward N L n) (on_sets c)
  on_sets_lem h σ τ r = follows_placed put_sets σ τ (h σ.sets τ.sets r.longer.sets) (λ s t p. record { longer = record { sets = p; base = r.longer.base }; worked = r.worked; more = r.more })

  pub making_sets_lem : {A : Type 0} {c : Step Stores A} → Respects LongerStores c → Respects (Onward N L n) (making_sets c)
  making_sets_lem h σ τ r =
      follows_placed (λ s σ. put_sets s.sp σ) σ τ (h (diagrams σ) (diagrams τ) (both_nodes r.longer))
      (λ s t p. record { longer = record { sets = p.sp; base = r.longer.base }; worked = r.worked; more = r.more })

  -- on the other tables
  on_base_lem : {A : Type 0} (c : Step Store A) {σ τ : Tables} → Onward N L n σ τ → Follows (Kept N L n) (c σ.base) (c τ.base) → Follows (Onward N L n) (on_base c σ) (on_base c τ)
  on_base_lem c {σ} {τ} r h = follows_placed put_base σ τ h (λ b c p. record { longer = record { sets = r.longer.sets; base = p.longer }; worked = p.worked; more = p.more })

  pub epsilon_onward : (s : ℕ) → s < n → Respects (Onward N L n) (on_base (on_aut (epsilon N s)))
  epsilon_onward s l σ τ r =
      let m : s < states σ.base.aut = omega (arith, r.more) in
      on_base_lem (on_aut (epsilon N s)) r (kept_of (λ b e f. (f.worked, omega (arith, r.more, f.went.grown.states.more))) (agree_gives (epsilon_step r.worked m))
      (follows_placed put_aut σ.base τ.base (epsilon_follows r.worked.good m r.longer.base.aut) (λ a b p. record { aut = p; transitions = r.longer.base.transitions })))

  pub delta_onward : (s : ℕ) → s < n → Respects (Onward N L n) (on_base (delta N L s))
  delta_onward s l σ τ r =
      let m : s < states σ.base.aut = omega (arith, r.more) in
      on_base_lem (delta N L s) r (kept_of (λ b es d. (d.listed.worked, omega (arith, r.more, d.listed.went.grown.states.more))) (agree_gives (delta_goes r.worked m)) (delta_follows r.worked.good m r.longer.base))

-- the targets of a list are states
pub targets_of : {N : ℕ} {L : Limits} (σ : Tables) {s : ℕ} → WfStore N L σ.base → s < states σ.base.aut
    → Gives (λ υ es. (e : Edge) → Memᴰ e es → e.target < states υ.base.aut) (on_base (delta N L s) σ)
targets_of {N} {L} σ {s} W l = go (agree_gives (delta_goes W l))
  where
    go : {o : Outcome Store (List Edge)} → Gives (Deltaed N L s σ.base) o → Gives (λ υ es. (e : Edge) → Memᴰ e es → e.target < states υ.base.aut) (placed put_base σ o)
    go refusal = refusal
    go (gives d) = gives (targets_known d.listed.list)

-- as many states as there are; fewer
pub onward_all : {N : ℕ} {L : Limits} {n : ℕ} {σ τ : Tables} → Onward N L n σ τ → Onward N L (states σ.base.aut) σ τ
onward_all r = record { longer = r.longer; worked = r.worked; more = omega arith }

pub onward_fewer : {N : ℕ} {L : Limits} {m n : ℕ} {σ τ : Tables} → m ≤ n → Onward N L n σ τ → Onward N L m σ τ
onward_fewer l r = record { longer = r.longer; worked = r.worked; more = omega (arith, r.more) }

-- ---- steps for which no table has to be in order

pub sets_plain : {A : Type 0} {c : Step Table A} → Respects Longer c → Respects LongerTables (on_sets c)
sets_plain h σ τ r = follows_placed put_sets σ τ (h σ.sets τ.sets r.sets) (λ s t p. record { sets = p; base = r.base })

pub making_plain : {A : Type 0} {c : Step Stores A} → Respects LongerStores c → Respects LongerTables (making_sets c)
making_plain h σ τ r = follows_placed (λ s σ. put_sets s.sp σ) σ τ (h (diagrams σ) (diagrams τ) (both_nodes r)) (λ s t p. record { sets = p.sp; base = r.base })

pub relations_plain : {A : Type 0} {c : Step Stores A} → Respects LongerStores c → Respects LongerTables (making_relations c)
relations_plain h σ τ r =
    follows_placed (λ s σ. put_relations s.spp σ) σ τ (h (diagrams σ) (diagrams τ) (both_nodes r))
    (λ s t p. record { sets = r.sets; base = record { aut = record { nodes = p.spp; states = r.base.aut.states; members = r.base.aut.members }; transitions = r.base.transitions } })

pub aut_plain : {A : Type 0} {c : Step Aut A} → Respects LongerAut c → Respects LongerTables (on_base (on_aut c))
aut_plain h σ τ r =
    follows_placed put_base σ τ (follows_placed {Q = LongerStore} put_aut σ.base τ.base (h σ.base.aut τ.base.aut r.base.aut) (λ a b p. record { aut = p; transitions = r.base.transitions }))
    (λ b c p. record { sets = r.sets; base = p })

pub nodes_plain : {A : Type 0} {c : Step Table A} → Respects Longer c → Respects LongerTables (on_base (on_aut (on_nodes c)))
nodes_plain h = aut_plain (λ σ τ r. follows_placed put_nodes σ τ (h σ.nodes τ.nodes r.nodes) (λ s t p. record { nodes = p; states = r.states; members = r.members }))
