-- The constants in zeroed tables.
use Rattle.std.specs.Prelude.{Result, Ok, Err}
use denote.Ref.{MutBor}
use mathlib.Core.Path.{◌≡◌, refl, sym, ◌∙◌, ap, ap₂}
use mathlib.Core.List.{List}
use Prim.Native.Nat.{ℕ}
use native.Mathlib.Omega.{arith}
use lib.ListN.{length}
use Rattle.slices.specs.Same.{SameSlice}
use Rattle.common.specs.Outcome.{Outcome, refused, given}
use Rattle.common.specs.Runs.{Table, table}
use Rattle.refusal.specs.declared.Refusal.{Refusal}
use Rattle.refusal.specs.declared.Refusal.TheVariants as refusal
use Rattle.refusal.specs.Numbers.{outcome}
use Rattle.sp_steps.specs.Model as Sp
use Rattle.spp_steps.specs.Model as Spp
use Rattle.sp.specs.Clauses as sets
use Rattle.sp.specs.declared.SPstore.{SPstore}
use Rattle.spp.specs.Clauses as relations
use Rattle.spp.specs.declared.SPPstore.{SPPstore}
use Rattle.aut_steps.specs.Tables.{limits01, aut}
use Rattle.aut_delta_steps.specs.Delta.{store}
use Rattle.aut_query_steps.specs.Tables.{Tables, tables, WfTables}
use Rattle.aut_query_steps.proofs.Tables.{begun_ordered}
use Rattle.aut_relations.specs.Lent.{KeepsBut}
use Rattle.aut_query_stage.specs.Lent.{tables_in}
use Rattle.book_steps.specs.Run.{Lent, zeroed}
use Rattle.book_memory.specs.declared.Place.{Place}
use Rattle.book_memory.specs.Place.{lengths_of, Empty}
use Rattle.book_begin.specs.Clauses.{with_fields, nodes_alone, OnlyNodes, new_tables, constants, Fresh, Ordered, PreConstants, PostConstants}
use Rattle.book_begin.proofs.Zero.{own_zeros}

-- the place where the packet nodes are s and the relation nodes r
abbrev pub nodes_at : Place → SPstore → SPPstore → Place
nodes_at x s r = record {
  aut = record { sp = s; spp = r; states = x.aut.states; members = x.aut.members; transitions = x.aut.transitions; pending = x.aut.pending; scratch = x.aut.scratch };
  lines = x.lines;
  output = x.output;
}

-- y with t for all that is lent beside its nodes and its output
abbrev pub with_all : Place → MutBor (List ℕ) → Place
with_all y t = record {
  aut = record { sp = y.aut.sp; spp = y.aut.spp; states = record { words = t; count = 0 }; members = record { words = t; count = 0 }; transitions = record { words = t; count = 0 }; pending = t; scratch = t };
  lines = record { words = t; count = 0 };
  output = y.output;
}

-- .. is fresh, if t is zeroed
pub fresh_with : {y : Place} {t : MutBor (List ℕ)} → t.now ≡ zeroed (length t.now) → Fresh y (with_all y t)
fresh_with e = record { sp = refl; spp = refl; states = e; members = e; transitions = e; pending = e; lines = e; scratch = e; no_states = refl; no_members = refl; no_transitions = refl; no_lines = refl }

-- where x was empty, y is fresh itself
pub fresh_itself : {N : ℕ} {x y : Place} → Empty x → KeepsBut nodes_alone (with_fields N x).aut y.aut → y.lines ≡ x.lines → Fresh y y
fresh_itself E K l = record {
  sp = refl;
  spp = refl;
  states = rw K.states E.states;
  members = rw K.members E.members;
  transitions = rw K.transitions E.transitions;
  pending = rw K.pending E.pending;
  lines = rw l E.lines;
  scratch = rw K.scratch E.scratch;
  no_states = rw K.states E.no_states;
  no_members = rw K.members E.no_members;
  no_transitions = rw K.transitions E.no_transitions;
  no_lines = rw l E.no_lines;
}

-- .. and what is promised is promised of it
module _ {N : ℕ} {x y : Place} (E : Empty x) (K : OnlyNodes N x y) where
  pub constants_itself : {r : Result Unit Refusal} → PostConstants N r y → constants (lengths_of x) N ≡ outcome (λ u. 0) r (tables_in y.aut)
  constants_itself B = ap (λ (l : Lent). constants l N) (sym lengths) ∙ B.is y (fresh_itself E K.aut K.lines)
    where
      lengths : lengths_of y ≡ lengths_of x
      lengths = rw (K.aut.sp.length, K.aut.spp.nodes.length, K.aut.states, K.aut.members, K.aut.transitions, K.aut.pending, K.aut.scratch, K.lines, K.output) refl

  pub ordered_itself : {u : Unit} → PostConstants N (Ok u) y → Ordered N y
  ordered_itself B = B.then y (fresh_itself E K.aut K.lines)

module _ (N : ℕ) (x : Place) (P : PreConstants N x) where
  module _ {y z : Place} (a : SameSlice x.aut.sp.nodes y.aut.sp.nodes) (b : SameSlice x.aut.spp.nodes y.aut.spp.nodes) (F : Fresh y z) where
    zeroed_sets : zeroed (length z.aut.sp.nodes.now) ≡ x.aut.sp.nodes.now
    zeroed_sets = ap zeroed (ap (λ (s : SPstore). length s.nodes.now) F.sp ∙ a.length) ∙ sym P.sp

    zeroed_relations : zeroed (length z.aut.spp.nodes.now) ≡ x.aut.spp.nodes.now
    zeroed_relations = ap zeroed (ap (λ (s : SPPstore). length s.nodes.now) F.spp ∙ b.length) ∙ sym P.spp

    constants_by : {o : Outcome Table ℕ} {r : Outcome Table Spp.Constants} → Sp.constants N (table x.aut.sp.nodes.now 0) ≡ o → Spp.constants N (table x.aut.spp.nodes.now 0) ≡ r → constants (lengths_of z) N ≡ new_tables (lengths_of z) o r
    constants_by e f =
        ap₂ (new_tables (lengths_of z))
        (ap (λ (t : List ℕ). Sp.constants N (table t 0)) zeroed_sets ∙ e)
        (ap (λ (t : List ℕ). Spp.constants N (table t 0)) zeroed_relations ∙ f)

  module _ (y : Place) (a : SameSlice x.aut.sp.nodes y.aut.sp.nodes) (b : SameSlice x.aut.spp.nodes y.aut.spp.nodes) where
    pub no_sets : Sp.constants N (table x.aut.sp.nodes.now 0) ≡ refused 20 → PostConstants N (Err refusal.Sp) y
    no_sets e = record { is = λ z F. constants_by a b F e refl; then = tt }

    pub no_relations : {s : Table} {c : ℕ} → Sp.constants N (table x.aut.sp.nodes.now 0) ≡ given s c → Spp.constants N (table x.aut.spp.nodes.now 0) ≡ refused 21 → PostConstants N (Err refusal.Spp) y
    no_relations e f = record { is = λ z F. constants_by a b F e f; then = tt }

    module _ {c : ℕ} {d : Spp.Constants} (e : Sp.constants N (table x.aut.sp.nodes.now 0) ≡ given (sets.store_of y.aut.sp) c) (f : Spp.constants N (table x.aut.spp.nodes.now 0) ≡ given (relations.store_of y.aut.spp) d) where
      module _ (z : Place) (F : Fresh y z) where
        -- the tables, with no states, members and transitions
        abbrev σ : Tables
        σ = tables (sets.store_of y.aut.sp) (store (aut (relations.store_of y.aut.spp) (table z.aut.states.words.now 0) (table z.aut.members.words.now 0)) (table z.aut.transitions.words.now 0))

        in_tables : tables_in z.aut ≡ σ
        in_tables =
            ap₂ (λ (s : SPstore) (r : SPPstore). tables (sets.store_of s) (store (aut (relations.store_of r) (table z.aut.states.words.now z.aut.states.count) (table z.aut.members.words.now z.aut.members.count)) (table z.aut.transitions.words.now z.aut.transitions.count))) F.sp F.spp
            ∙ ap₂ (λ (a b : ℕ). tables (sets.store_of y.aut.sp) (store (aut (relations.store_of y.aut.spp) (table z.aut.states.words.now a) (table z.aut.members.words.now b)) (table z.aut.transitions.words.now z.aut.transitions.count))) F.no_states F.no_members
            ∙ ap (λ (a : ℕ). tables (sets.store_of y.aut.sp) (store (aut (relations.store_of y.aut.spp) (table z.aut.states.words.now 0) (table z.aut.members.words.now 0)) (table z.aut.transitions.words.now a))) F.no_transitions

        zeroed_tables : tables (sets.store_of y.aut.sp) (store (aut (relations.store_of y.aut.spp) (table (zeroed (length z.aut.states.words.now)) 0) (table (zeroed (length z.aut.members.words.now)) 0)) (table (zeroed (length z.aut.transitions.words.now)) 0)) ≡ σ
        zeroed_tables =
            ap₂ (λ (a b : List ℕ). tables (sets.store_of y.aut.sp) (store (aut (relations.store_of y.aut.spp) (table a 0) (table b 0)) (table (zeroed (length z.aut.transitions.words.now)) 0))) (sym F.states) (sym F.members)
            ∙ ap (λ (a : List ℕ). tables (sets.store_of y.aut.sp) (store (aut (relations.store_of y.aut.spp) (table z.aut.states.words.now 0) (table z.aut.members.words.now 0)) (table a 0))) (sym F.transitions)

        ordered : WfTables N limits01 σ
        ordered = begun_ordered x.aut.sp.nodes.now x.aut.spp.nodes.now z.aut.states.words.now z.aut.members.words.now z.aut.transitions.words.now (omega (arith, P.few)) e f (own_zeros F.states)

      pub constants_given : y.aut.spp.fields ≡ N → PostConstants N (Ok tt) y
      constants_given u = record {
        is = λ z F. constants_by a b F e f ∙ ap (λ (τ : Tables). given τ 0) (zeroed_tables z F ∙ sym (in_tables z F));
        then = λ z F. record { fields = rw F.spp u; tables = rw (in_tables z F) (ordered z F) };
      }
