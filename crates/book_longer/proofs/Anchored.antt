-- Longer tables, and what the shorter ones keep while they grow: the first states have their words 0 to 3, the first members are as they were. `Anchor` says which. With no state and no member in it nothing is asked.
use mathlib.Core.Path.{◌≡◌, refl, sym, subst}
use mathlib.Core.List.{List, []}
use Prim.Native.Nat.{ℕ, ◌+◌, ◌*◌, ◌≤◌, ◌<◌}
use native.Mathlib.Omega.{arith}
use lib.ListN.{length, get_or}
use Rattle.common.specs.Outcome.{Step}
use Rattle.common.specs.Runs.{Table, table}
use Rattle.aut_steps.specs.Tables.{Exprs, Aut}
use Rattle.aut_delta_steps.specs.Delta.{Store}
use Rattle.book_longer.specs.Longer.{LongerWords, Longer, LongerExprs, LongerAut, LongerStore, Respects}
use Rattle.book_longer.proofs.Follow.{follows_map}

-- so many states and members, and their words
pub record Anchor : Type 0 where
  pub states : ℕ
  pub words : List ℕ
  pub members : ℕ
  pub list : List ℕ

pub record States (a : Anchor) (s t : Table) : Type 0 where
  pub words : LongerWords s.words t.words
  pub count : t.count ≡ s.count
  pub fits : 12 * a.states ≤ length s.words
  pub more : a.states ≤ s.count
  pub kept : (x w : ℕ) → x < a.states → w < 4 → get_or s.words (12 * x + w) 0 ≡ get_or a.words (12 * x + w) 0

pub record Members (a : Anchor) (s t : Table) : Type 0 where
  pub words : LongerWords s.words t.words
  pub count : t.count ≡ s.count
  pub more : a.members ≤ s.count
  pub kept : (i : ℕ) → i < a.members → get_or s.words i 0 ≡ get_or a.list i 0

pub record InExprs (a : Anchor) (σ τ : Exprs) : Type 0 where
  pub states : States a σ.states τ.states
  pub members : Members a σ.members τ.members

pub record InAut (a : Anchor) (σ τ : Aut) : Type 0 where
  pub nodes : Longer σ.nodes τ.nodes
  pub states : States a σ.states τ.states
  pub members : Members a σ.members τ.members

pub record InStore (a : Anchor) (σ τ : Store) : Type 0 where
  pub aut : InAut a σ.aut τ.aut
  pub transitions : Longer σ.transitions τ.transitions

-- nothing is asked
abbrev pub nowhere : Anchor
nowhere = record { states = 0; words = []; members = 0; list = [] }

-- all states and members that there are
abbrev pub here : Aut → Anchor
here σ = record { states = σ.states.count; words = σ.states.words; members = σ.members.count; list = σ.members.words }

pub in_nowhere : {σ τ : Aut} → LongerAut σ τ → InAut nowhere σ τ
in_nowhere r = record {
  nodes = r.nodes;
  states = record { words = r.states.words; count = r.states.count; fits = omega arith; more = omega arith; kept = λ x w l m. absurd (omega arith) };
  members = record { words = r.members.words; count = r.members.count; more = omega arith; kept = λ i l. absurd (omega arith) };
}

pub in_here : {σ τ : Aut} → 12 * σ.states.count ≤ length σ.states.words → LongerAut σ τ → InAut (here σ) σ τ
in_here l r = record {
  nodes = r.nodes;
  states = record { words = r.states.words; count = r.states.count; fits = l; more = omega arith; kept = λ x w l m. refl };
  members = record { words = r.members.words; count = r.members.count; more = omega arith; kept = λ i l. refl };
}

module _ {a : Anchor} where
  pub aut_longer : {σ τ : Aut} → InAut a σ τ → LongerAut σ τ
  aut_longer r = record { nodes = r.nodes; states = record { words = r.states.words; count = r.states.count }; members = record { words = r.members.words; count = r.members.count } }

  pub store_longer : {σ τ : Store} → InStore a σ τ → LongerStore σ τ
  store_longer r = record { aut = aut_longer r.aut; transitions = r.transitions }

  -- two tables with one count
  pub by_states : (P : Table → Table → Type 0) → ((s t : List ℕ) (n : ℕ) → States a (table s n) (table t n) → P (table s n) (table t n)) → (σ τ : Table) → States a σ τ → P σ τ
  by_states P h σ τ r =
      subst (λ (n : ℕ). P σ (table τ.words n)) (sym r.count)
      (h σ.words τ.words σ.count (record { words = r.words; count = refl; fits = r.fits; more = r.more; kept = r.kept }))

  pub by_members : (P : Table → Table → Type 0) → ((s t : List ℕ) (n : ℕ) → Members a (table s n) (table t n) → P (table s n) (table t n)) → (σ τ : Table) → Members a σ τ → P σ τ
  by_members P h σ τ r = subst (λ (n : ℕ). P σ (table τ.words n)) (sym r.count) (h σ.words τ.words σ.count (record { words = r.words; count = refl; more = r.more; kept = r.kept }))

-- ---- with nothing asked

pub states_plain : {A : Type 0} {c : Step Table A} → Respects (States nowhere) c → Respects Longer c
states_plain h σ τ r =
    follows_map (λ s t p. record { words = p.words; count = p.count }) (h σ τ (record { words = r.words; count = r.count; fits = omega arith; more = omega arith; kept = λ x w l m. absurd (omega arith) }))

pub exprs_plain : {A : Type 0} {c : Step Exprs A} → Respects (InExprs nowhere) c → Respects LongerExprs c
exprs_plain h σ τ r =
    follows_map (λ s t p. record { states = record { words = p.states.words; count = p.states.count }; members = record { words = p.members.words; count = p.members.count } })
    (h σ τ (record {
      states = record { words = r.states.words; count = r.states.count; fits = omega arith; more = omega arith; kept = λ x w l m. absurd (omega arith) };
      members = record { words = r.members.words; count = r.members.count; more = omega arith; kept = λ i l. absurd (omega arith) };
    }))

pub aut_plain : {A : Type 0} {c : Step Aut A} → Respects (InAut nowhere) c → Respects LongerAut c
aut_plain h σ τ r = follows_map (λ s t p. aut_longer p) (h σ τ (in_nowhere r))
