-- A field's relation is made for the fields of the store, which are those of the book; and the tables are in order after a line.
use mathlib.Core.Path.{◌≡◌, ◌∙◌, ap, subst}
use mathlib.Core.Bool.{Bool}
use Prim.Native.Nat.{ℕ}
use Rattle.std.specs.Prelude.{Result, Ok, Err}
use Rattle.refusal.specs.declared.Refusal.{Refusal}
use Rattle.refusal.specs.Numbers.{outcome}
use Rattle.spp.specs.declared.SPP.{SPP}
use Rattle.netkat.specs.Rules.{In}
use Rattle.aut_steps.specs.Meaning.{rule}
use Rattle.aut_steps.proofs.Meaning.{Is}
use Rattle.aut_steps.proofs.StepSpec.{StepSpec, came}
use Rattle.aut_states.specs.Clauses.{limits_of}
use Rattle.aut_states.specs.declared.Config.{Config}
use Rattle.aut_relations.specs.declared.Aut.{Aut as Lent}
use Rattle.aut_relations.specs.Lent.{nodes_in, aut_in, Keeps, Does, Unless, Asked}
use Rattle.aut_relations.specs.Behind.{Modifies}
use Rattle.aut_relations.proofs.Behind.{left_refl}
use Rattle.aut_relations.proofs.Order.{ready_after}
use Rattle.book_construct_steps.specs.Lines as M
use Rattle.book_construct_steps.proofs.LineLaws.{make_goes}
use Rattle.book_words.specs.declared.Bit.{Bit}
use Rattle.book_words.specs.Clauses.{bit_of}
use Rattle.book_construct.specs.declared.Line.{Line}
use Rattle.book_construct.specs.Clauses.{line_of, LineReady, FieldReady, ReadyBy}

-- the lists in scratch are as they were
lists : (N : ℕ) (x y : Lent) → y.scratch.now ≡ x.scratch.now → (r : Result SPP Refusal) → Unless r (Modifies N 0 0 (nodes_in y) x.scratch.now y.scratch.now)
lists N x y kept (Ok h) = rw kept (left_refl 0 0 (nodes_in y) x.scratch.now)
lists N x y kept (Err e) = tt

module _ {k : Config} {x : Lent} {f : ℕ} (R : FieldReady k x f) (v : Bool) {w u : Bit} (told : w ≡ u) (y : Lent) (kept : y.scratch.now ≡ x.scratch.now) where
  pub did : (r : Result SPP Refusal) → M.bit_of x.spp.fields (bit_of u) f v (nodes_in x) ≡ outcome (λ h. h.0) r (nodes_in y) → Does k.fields 0 0 nodes_in (λ h. h.0) (M.bit_of k.fields (bit_of w) f v) x r y
  did r e = record {
    is = ap (λ (w : Bit). M.bit_of k.fields (bit_of w) f v (nodes_in x)) told ∙ subst (λ (N : ℕ). M.bit_of N (bit_of u) f v (nodes_in x) ≡ outcome (λ h. h.0) r (nodes_in y)) R.asked.fields e;
    left = lists k.fields x y kept r;
  }

-- ---- the tables are in order for the next line

module _ {k : Config} {x : Lent} (R : Asked k x) {a b : Line} (q : LineReady k.fields x.states.count x.scratch.now a) (told : a ≡ b) {y : Lent} (K : Keeps x y) where
  ready_by : (n : ℕ) (r : Result ℕ Refusal) → M.make k.fields (limits_of k.limits) (line_of x.scratch.now a) (aut_in x) ≡ outcome (λ i. i) r (aut_in y) → Unless r (Modifies k.fields 0 n (nodes_in y) x.scratch.now y.scratch.now) → ReadyBy k r y
  ready_by n (Ok z) e p =
      let i = came (subst (StepSpec k.fields (limits_of k.limits) (Is k.fields (In (M.means (rule k.fields (aut_in x)) (line_of x.scratch.now a)))) (aut_in x)) e (make_goes R.ready.good (line_of x.scratch.now a) q.asked)) in
      (record { fields = K.spp.fields ∙ R.fields; ready = ready_after R.ready i.grown i.good p K.scratch.length }, i.holds.state)
  ready_by n (Err e) p l = tt

  pub ready : {n : ℕ} {r : Result ℕ Refusal} → Does k.fields 0 n aut_in (λ i. i) (M.make k.fields (limits_of k.limits) (line_of x.scratch.now b)) x r y → ReadyBy k r y
  ready {n} {r} D = ready_by n r (ap (λ (b : Line). M.make k.fields (limits_of k.limits) (line_of x.scratch.now b) (aut_in x)) told ∙ D.is) D.left
