-- Calls on all tables, with any members: what a step on states, one that does nothing, or one on relations comes to; and what the calls ask. And the clauses for the members that are lent.
use mathlib.Core.Path.{◌≡◌, refl, sym, ◌∙◌, ap}
use mathlib.Core.Bool.{true}
use mathlib.Core.List.{List, [], ◌∷◌}
use Prim.Native.Nat.{ℕ, ◌≤◌, ◌<◌, min, max}
use native.Mathlib.Omega.{arith}
use Rattle.std.specs.Prelude.{Result, Ok, Err}
use Rattle.common.specs.Outcome.{Outcome, refused, given, Step, after}
use Rattle.common.specs.Runs.{Table, table, placed}
use Rattle.refusal.specs.declared.Refusal.{Refusal}
use Rattle.refusal.specs.Numbers.{outcome}
use Rattle.aut_steps.specs.Ascending.{All}
use Rattle.aut_steps.specs.Tables.{SPP, XOR, DIFFERENCE, SEQUENCE, STAR, kind_of, nest, Aut, aut, put_nodes, put_states, on_states}
use Rattle.aut_steps.specs.Constructors.{relations, mk_spp, spp_of, sequence_by}
use Rattle.aut_steps.proofs.StateLaws as StateLaws
use Rattle.aut_states.specs.Clauses.{limits_of, seen, states_of, Fits, Ready1, Ready2}
use Rattle.aut_states.specs.declared.Config.{Config}
use Rattle.aut_states.specs.declared.Members.{Members}
use Rattle.aut_states.specs.declared.States.{States}
use Rattle.aut_relations.specs.declared.Aut.{Aut as Lent}
use Rattle.aut_relations.specs.Lent.{nodes_in, states_in, members_in, aut_in, Does, Asked, Relations}
use Rattle.aut_relations.specs.Behind.{LISTS}
use Rattle.aut_relations.proofs.Behind.{left_refl, left_any}
use Rattle.aut_relations.proofs.Order.{fits, ready_star, ready_xor, ready_difference, ready_sequence, backed_of}
use Rattle.aut_sequence.specs.Clauses.{aut_with, SomeAsked, Makes, Enough}

-- x with the states s
abbrev pub with_states : Lent → States → Lent
with_states x s = record { sp = x.sp; spp = x.spp; states = s; members = x.members; transitions = x.transitions; pending = x.pending; scratch = x.scratch }

module _ {N : ℕ} {o : Step Aut ℕ} {x : Lent} {mem : Table} where
  pub entered : {z : Outcome Table ℕ} {s : States} (r : Result ℕ Refusal) → o (aut_with mem x) ≡ placed put_states (aut_with mem x) z → z ≡ seen r (states_of s) → Does N 0 0 (aut_with mem) (λ i. i) o x r (with_states x s)
  entered (Ok i) q e = record { is = q ∙ ap (placed put_states (aut_with mem x)) e; left = left_refl 0 0 _ x.scratch.now }
  entered (Err e') q e = record { is = q ∙ ap (placed put_states (aut_with mem x)) e; left = tt }

  pub stays : (v : ℕ) → o (aut_with mem x) ≡ given (aut_with mem x) v → Does N 0 0 (aut_with mem) (λ i. i) o x (Ok v) x
  stays v q = record { is = q; left = left_refl 0 0 _ x.scratch.now }

-- however the tables are seen
pub told : {N : ℕ} {o : Step Aut ℕ} {x : Lent} {view : Lent → Aut} {a n : ℕ} {p : Step Aut ℕ} {r : Result ℕ Refusal} {y : Lent} → o (view x) ≡ p (view x) → Does N a n view (λ i. i) p x r y → Does N a n view (λ i. i) o x r y
told q d = record { is = q ∙ d.is; left = d.left }

-- ---- the state of a relation is made without the members

abbrev with_members : Table → Outcome Aut ℕ → Outcome Aut ℕ
with_members mem (refused number) = refused number
with_members mem (given σ i) = given (aut σ.nodes σ.states mem) i

module _ (t st mem mem' : Table) where
  answer_apart : (r : Result ℕ Refusal) → with_members mem' (outcome (λ i. i) r (aut t st mem)) ≡ outcome (λ i. i) r (aut t st mem')
  answer_apart (Ok i) = refl
  answer_apart (Err e) = refl

  states_apart : (o : Outcome Table ℕ) → placed put_states (aut t st mem') o ≡ with_members mem' (placed put_states (aut t st mem) o)
  states_apart (refused number) = refl
  states_apart (given s i) = refl

module _ (t st mem mem' : Table) where
  nodes_apart : (o : Outcome Table ℕ) → after (placed put_nodes (aut t st mem') o) (λ h. on_states (mk_spp h)) ≡ with_members mem' (after (placed put_nodes (aut t st mem) o) (λ h. on_states (mk_spp h)))
  nodes_apart (refused number) = refl
  nodes_apart (given n h) = states_apart n st mem mem' (mk_spp h st)

pub related : {N : ℕ} {x : Lent} (c : Step Table ℕ) {r : Result ℕ Refusal} {y : Lent} → Does N 0 0 aut_in (λ i. i) (spp_of c) x r y → Makes N (spp_of c) x r y
related {x = x} c {r} {y} d mem = record {
  is = nodes_apart (nodes_in x) (states_in x) (members_in x) mem (c (nodes_in x)) ∙ ap (with_members mem) d.is ∙ answer_apart (nodes_in y) (states_in y) (members_in y) mem r;
  left = d.left;
}

-- ---- with the members that are lent: what a caller gives and gets whose whole tables are in order

pub lent_asked : {k : Config} {x : Lent} {operands : List ℕ} → Asked k x → All (λ i. i < x.states.count) operands → SomeAsked k x operands
lent_asked {x = x} a h = record { members = members_in x; fields = a.fields; ready = a.ready; has = h }

lent_after : (x y : Lent) (r : Result ℕ Refusal) → y.members ≡ x.members → outcome (λ i. i) r (aut_with (members_in x) y) ≡ outcome (λ i. i) r (aut_in y)
lent_after x y r e = ap (λ (m : Members). outcome (λ i. i) r (aut_with (table m.words.now m.count) y)) (sym e)

pub lent_made : {N : ℕ} {o : Step Aut ℕ} {x : Lent} {r : Result ℕ Refusal} {y : Lent} → y.members ≡ x.members → Makes N o x r y → Does N 0 0 aut_in (λ i. i) o x r y
lent_made {x = x} {r} {y} e m = record { is = (m (members_in x)).is ∙ lent_after x y r e; left = (m (members_in x)).left }

-- said as of a call that may write the lists
pub lent_within : {N : ℕ} {o : Step Aut ℕ} {x : Lent} {r : Result ℕ Refusal} {y : Lent} → y.members ≡ x.members → Makes N o x r y → Does N 0 LISTS aut_in (λ i. i) o x r y
lent_within {r = Ok i} e m = let d = lent_made e m in record { is = d.is; left = left_any 0 LISTS d.left (omega arith) }
lent_within {r = Err e'} e m = record { is = (lent_made e m).is; left = tt }

pub lent_enough : (k : Config) (a b : ℕ) (x y : Lent) (r : Result ℕ Refusal) → y.members ≡ x.members → Enough k a b x r y
    → (depth : ℕ) → nest x.states.words.now a ≤ depth → sequence_by k.fields (limits_of k.limits) depth a b (aut_in x) ≡ outcome (λ i. i) r (aut_in y)
lent_enough k a b x y r e f depth le = f depth le (members_in x) ∙ lent_after x y r e

-- ---- what the calls ask

module _ {k : Config} {l : Lent} {operands : List ℕ} (a : SomeAsked k l operands) where
  pub fits_of : Fits l.states.words.now l.states.count
  fits_of = fits a.ready.good

module _ {k : Config} {l : Lent} {x : ℕ} (a : SomeAsked k l (x ∷ [])) where
  pub star_ready : Ready1 l.states.words.now l.states.count STAR x
  star_ready = ready_star a.ready.good a.has.0

  pub relation_x : kind_of l.states.words.now x ≡ SPP → Relations k.fields l x x
  relation_x e =
      let at = StateLaws.handle a.ready.good a.has.0 e in
      record { fits = fits_of a; has_x = a.has.0; has_y = a.has.0; handles = record { fields = a.fields; backed = backed_of a.ready; at_a = at; at_b = at } }

module _ {k : Config} {l : Lent} {x y : ℕ} (a : SomeAsked k l (x ∷ y ∷ [])) where
  pub xor_ready : {i j : ℕ} → i ≡ min x y → j ≡ max x y → Ready2 l.states.words.now l.states.count XOR i j
  xor_ready p q = ready_xor a.ready.good (omega (arith, a.has.0, a.has.1.0)) (omega (arith, a.has.0, a.has.1.0))

  pub difference_ready : Ready2 l.states.words.now l.states.count DIFFERENCE x y
  difference_ready = ready_difference a.ready.good a.has.0 a.has.1.0

  pub sequence_ready : Ready2 l.states.words.now l.states.count SEQUENCE x y
  sequence_ready = ready_sequence a.ready.good a.has.0 a.has.1.0

  pub kinds_ready : (kind_of l.states.words.now x ≡ SPP) × (kind_of l.states.words.now y ≡ SPP) → Relations k.fields l x y
  kinds_ready e = record {
    fits = fits_of a;
    has_x = a.has.0;
    has_y = a.has.1.0;
    handles = record { fields = a.fields; backed = backed_of a.ready; at_a = StateLaws.handle a.ready.good a.has.0 e.0; at_b = StateLaws.handle a.ready.good a.has.1.0 e.1 };
  }

  pub relations_ready : relations l.states.words.now x y ≡ true → Relations k.fields l x y
  relations_ready e = kinds_ready (StateLaws.both_spp a.ready.good x y e)
