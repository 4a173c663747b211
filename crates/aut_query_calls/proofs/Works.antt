-- Tables while a query runs: from its beginning, when a word 8 to 11 of a state is written, and to its end; what epsilon and delta ask of them.
use mathlib.Core.Path.{◌≡◌, refl, sym, ◌∙◌, ap, subst}
use mathlib.Core.Bool.{Bool, false}
use mathlib.Core.List.{List}
use Prim.Native.Nat.{ℕ, ◌+◌, ◌*◌, ◌≤◌, ◌<◌}
use native.Mathlib.Omega.{arith}
use lib.ListN.{set}
use lib.Seq.{get_or-set_other}
use Rattle.std.specs.Prelude.{Result, Ok, Err}
use Rattle.common.specs.Outcome.{refused, Step}
use Rattle.refusal.specs.declared.Refusal.{Refusal}
use Rattle.refusal.specs.Numbers.{number_of}
use Rattle.spp_steps.proofs.Laws.{ext_refl}
use Rattle.spp.specs.Clauses.{SameStore}
use Rattle.aut_steps.specs.Wf.{ExtAut, WfAut, states}
use Rattle.aut_steps.proofs.Wf.{extm_refl}
use Rattle.aut_delta_steps.specs.Epsilon.{epsilon_of}
use Rattle.aut_delta_steps.proofs.Noted.{good_same}
use Rattle.aut_delta_steps.specs.Wf.{Epsilons, WfStore}
use Rattle.aut_delta_steps.proofs.Wf.{epsilons_grown, worked_aut}
use Rattle.aut_query_stage.specs.OnTables.{store_in, StoreAsked, Prepared}
use Rattle.aut_query_steps.specs.Tables.{Tables}
use Rattle.aut_query_steps.proofs.Tables.{later_refl}
use Rattle.aut_query_stage.specs.Layer.{QueryReady}
use Rattle.aut_query_stage.specs.Lent.{tables_in, QueryAsked, Leaves, query_layer, GoesQuery}
use Rattle.aut_query_stage.proofs.Lent.{query_ready}
use Rattle.aut_states.specs.Clauses.{limits_of}
use Rattle.aut_states.specs.declared.Config.{Config}
use Rattle.aut_states.specs.declared.Limits.{Limits}
use Rattle.aut_states.specs.declared.Members.{Members}
use Rattle.aut_stage.specs.Rule.{Post}
use Rattle.aut_relations.specs.declared.Aut.{Aut as Lent}
use Rattle.aut_relations.specs.Lent.{nodes_in, aut_in, members_in, KeepsBut}
use Rattle.aut_sets.specs.Lent.{OnlyScratch, OnlyMarks}
use Rattle.aut_query_stage.specs.Asked.{EpsilonAsked}
use Rattle.aut_free.specs.Clear.{clear, clear_tables}
use Rattle.aut_free.proofs.Clear.{clear_aut, clear_store, AtRest}
use Rattle.aut_free.proofs.Clearing.{clear_length, clear_kept, clear_set}
use Rattle.aut_free.proofs.Free.{clear_tables_rest}
use Rattle.aut_query_calls.specs.Working.{clear_in, with_words, with_members, Working, WorkingIn}
use Rattle.aut_query_calls.proofs.Ran.{Ran}

-- ---- other members

-- a call that writes none keeps the rest
pub keeps_beside : (mem : Members) {sp spp states count transitions pending scratch : Bool} {x y : Lent}
    → KeepsBut (record { sp = sp; spp = spp; states = states; count = count; members = false; transitions = transitions; pending = pending; scratch = scratch }) x y
    → KeepsBut (record { sp = sp; spp = spp; states = states; count = count; members = false; transitions = transitions; pending = pending; scratch = scratch }) (with_members mem x) (with_members mem y)
keeps_beside mem K = record { sp = K.sp; spp = K.spp; states = K.states; count = K.count; members = refl; transitions = K.transitions; pending = K.pending; scratch = K.scratch }

-- .. and with the members that are lent, what is promised of any is promised of the tables
pub beside_itself : (x y : Lent) → y.members ≡ x.members → with_members x.members y ≡ y
beside_itself x y q = ap (λ (m : Members). with_members m y) (sym q)

-- ---- from the beginning, to the end

-- tables at rest
pub working_rest : {N : ℕ} {l : Limits} (x : Lent) → QueryReady N l (tables_in x) x.scratch.now → Working N l (tables_in x) x.scratch.now
working_rest {N} {l} x R = record { ready = subst (λ (τ : Tables). QueryReady N l τ x.scratch.now) (sym (clear_tables_rest (tables_in x) R.resting)) R; fresh = R.ready.good.fresh }

pub working_begin : {k : Config} {x : Lent} {i : ℕ} → QueryAsked k x i → WorkingIn k x
working_begin {x = x} Q = record { fields = Q.fields; working = working_rest x Q.query.ready }

-- after a call
pub next_working : {k : Config} {a n : ℕ} {V A : Type 0} {P : Tables → A → Type 0} {see : V → A} {o : Step Tables A} {x y : Lent} {v : V} → WorkingIn k x → SameStore x.spp y.spp → Ran k a n P see o x (Ok v) y → WorkingIn k y
next_working W K R = record { fields = K.fields ∙ W.fields; working = R.working }

-- words 8 to 11 are zero again
pub clear_end : (x : Lent) → AtRest x.states.words.now → clear_in x ≡ tables_in x
clear_end x h = clear_tables_rest (tables_in x) h

-- ---- at rest, where a call is a step on the tables as they are

module _ {k : Config} {a n : ℕ} {V A : Type 0} {P : Tables → A → Type 0} {see : V → A} {o : Step Tables A} {x y : Lent} (R : QueryReady k.fields k.limits (tables_in x) x.scratch.now) where
  rest_post : (r : Result V Refusal) → Ran k a n P see o x r y → Post (query_layer k.fields k.limits) a n P see (o (tables_in x)) (tables_in x) r (tables_in y) x.scratch.now y.scratch.now
  rest_post (Ok v) G =
      subst (λ (τ : Tables). Post (query_layer k.fields k.limits) a n P see (o (tables_in x)) (tables_in x) (Ok v) τ x.scratch.now y.scratch.now) (clear_end y (λ i w p q. G.unwritten i w p q ∙ R.resting i w p q))
      (subst (λ (σ : Tables). Post (query_layer k.fields k.limits) a n P see (o σ) σ (Ok v) (clear_in y) x.scratch.now y.scratch.now) (clear_end x R.resting) G.post)
  rest_post (Err e) G = record { is = subst (λ (σ : Tables). o σ ≡ refused (number_of e)) (clear_end x R.resting) G.post.is; then = tt }

  pub at_rest : {r : Result V Refusal} → Ran k a n P see o x r y → GoesQuery k a n tables_in P see o x r y
  at_rest {r} G = record { post = rest_post r G }

-- ---- what is asked of the tables as they are

module _ (x : Lent) {N : ℕ} {l : Limits} (W : Working N l (tables_in x) x.scratch.now) where
  abbrev st : List ℕ
  st = x.states.words.now

  abbrev W₀ : WfStore N (limits_of l) (clear_store (store_in x))
  W₀ = W.ready.ordered.worked

  grown : ExtAut (clear_aut (aut_in x)) (aut_in x)
  grown = record {
    nodes = ext_refl (nodes_in x);
    states = record {
      more = omega arith;
      len = sym (clear_length st);
      keep = λ i w x y. sym (clear_kept st i w (omega arith));
      beyond = λ j x. W.fresh j x ∙ sym (W₀.good.fresh j x);
    };
    members = extm_refl (members_in x);
  }

  good : WfAut N (limits_of l) (aut_in x)
  good = good_same W₀.good grown W₀.good.nodes refl refl

  epsilons : Epsilons N (aut_in x)
  unfolding epsilon_of
  epsilons = epsilons_grown W₀.good grown (λ x y. sym (clear_kept st x 4 (omega arith))) W₀.epsilons

  pub prepared : Prepared N l (store_in x) x.scratch.now
  prepared = record {
    ready = record {
      few = W.ready.ready.few;
      good = good;
      room = W.ready.ready.room;
      sound = W.ready.ready.sound;
      list = W.ready.ready.list;
      products = W.ready.ready.products;
    };
    worked = worked_aut W₀ grown good epsilons (λ x w a b. sym (clear_kept st x w (omega arith)));
  }

module _ {k : Config} {x : Lent} (V : WorkingIn k x) where
  pub asks_store : StoreAsked k x
  asks_store = record { fields = V.fields; prepared = prepared x V.working }

  pub asks_epsilon : {i : ℕ} → i < x.states.count → EpsilonAsked k.fields x i
  asks_epsilon m = let P = prepared x V.working in record { limits = k.limits; fields = V.fields; ready = P.ready; epsilons = P.worked.epsilons; has = m }

-- ---- scratch was written, and of it no more than is said

pub kept_working : {N a n : ℕ} {l : Limits} {x y : Lent} → Working N l (tables_in x) x.scratch.now → OnlyScratch x y → Leaves N a n (clear_in x) x.scratch.now y.scratch.now → Working N l (tables_in y) y.scratch.now
kept_working {N} {l = l} {x = x} {y = y} W K p =
    subst (λ (σ : Tables). Working N l σ y.scratch.now) same (record { ready = query_ready W.ready (later_refl (clear_in x)) W.ready.ordered p K.scratch.length; fresh = W.fresh })
  where
    same : tables_in x ≡ tables_in y
    same = rw (sym K.sp) (rw (sym K.spp) (rw (sym K.states) (rw (sym K.members) (rw (sym K.transitions) refl))))

-- ---- words 8 to 11 were written

module _ (σ : Tables) (x w v : ℕ) (a : 8 ≤ w) (b : w < 12) where
  pub clear_set_in : clear_tables (with_words (set σ.base.aut.states.words (12 * x + w) v) σ) ≡ clear_tables σ
  clear_set_in = ap (λ (u : List ℕ). with_words u σ) (clear_set σ.base.aut.states.words x w v a b)

  pub working_set : {N : ℕ} {l : Limits} {s : List ℕ} → x < states σ.base.aut → Working N l σ s → Working N l (with_words (set σ.base.aut.states.words (12 * x + w) v) σ) s
  working_set {N} {l} {s} k W = record {
    ready = subst (λ (τ : Tables). QueryReady N l τ s) (sym clear_set_in) W.ready;
    fresh = λ j y. get_or-set_other σ.base.aut.states.words (12 * x + w) j v 0 (λ q. omega arith) ∙ W.fresh j y;
  }

-- what a call on words of states and pending entries alone leaves: x's tables, with other words of states
pub tables_marked : {x y : Lent} → OnlyMarks x y → tables_in y ≡ with_words y.states.words.now (tables_in x)
tables_marked K = rw K.sp (rw K.spp (rw K.count (rw K.members (rw K.transitions refl))))

-- .. the words st
pub tables_put : {x y : Lent} {st : List ℕ} → OnlyMarks x y → y.states.words.now ≡ st → tables_in y ≡ with_words st (tables_in x)
tables_put {x} K q = tables_marked K ∙ ap (λ (u : List ℕ). with_words u (tables_in x)) q

module _ {x y : Lent} (K : OnlyMarks x y) where
  pub marks_clear : clear y.states.words.now ≡ clear x.states.words.now → clear_in y ≡ clear_in x
  marks_clear q = ap clear_tables (tables_marked K) ∙ ap (λ (u : List ℕ). with_words u (tables_in x)) q

  module _ (i w v : ℕ) (a : 8 ≤ w) (b : w < 12) (q : y.states.words.now ≡ set x.states.words.now (12 * i + w) v) where
    pub clear_written : clear_in y ≡ clear_in x
    clear_written = ap clear_tables (tables_put K q) ∙ clear_set_in (tables_in x) i w v a b

    pub working_written : {N : ℕ} {l : Limits} → i < x.states.count → Working N l (tables_in x) x.scratch.now → Working N l (tables_in y) y.scratch.now
    working_written m W = rw (tables_put K q, K.scratch) (working_set (tables_in x) i w v a b m W)
