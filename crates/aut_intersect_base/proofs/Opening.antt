-- The members of a list are opened to `to`, and the next call writes behind them.
use Rattle.std.specs.Prelude.{Option, Some, Result, Err}
use Rattle.std.specs.Option.{ok_or}
use Rattle.std.specs.Result.{IsErr, IsErrAnd}
use mathlib.Core.Path.{◌≡◌, sym, ◌∙◌, ap, subst}
use mathlib.Core.List.{List, []}
use Prim.Native.Nat.{ℕ, ◌+◌, ◌≤◌, ◌<◌}
use native.Mathlib.Omega.{arith}
use lib.ListN.{length}
use Rattle.common.specs.Outcome.{refused, Step}
use Rattle.refusal.specs.declared.Refusal.{Refusal}
use Rattle.refusal.specs.Numbers.{number_of}
use Rattle.aut_steps.specs.Tables.{INTERSECT, words, Aut}
use Rattle.aut_steps.specs.Ascending.{All}
use Rattle.aut_steps.specs.Scratch.{Kept}
use Rattle.aut_steps.proofs.Scratch.{kept_wide}
use Rattle.aut_steps.specs.Constructors.{Within, within, beyond, open_all}
use Rattle.aut_states.specs.declared.Config.{Config}
use Rattle.aut_scratch.specs.Clauses.{OpenReady, Extends}
use Rattle.aut_relations.specs.Behind.{LISTS}
use Rattle.aut_relations.proofs.Order as order
use Rattle.aut_relations.proofs.Opens.{AllWithin, all_states_lem}
use Rattle.aut_relations.specs.declared.Aut.{Aut as Lent}
use Rattle.aut_relations.specs.Lent.{aut_in, Does, Asked}
use Rattle.aut_union.specs.Clauses.{ListAt}
use Rattle.aut_union.proofs.Calls.{not_done, missing, Written, written_asked, written_done}

module _ {c : Config} {x : Lent} {from k to : ℕ} (R : Asked c x) (A : ListAt x.scratch.now x.states.count from k to) (room : to + 64 ≤ LISTS) where
  abbrev opened : Within (List ℕ)
  opened = open_all c.limits.list x.states.words.now x.members.words.now (words x.scratch.now from k) []

  pub open_ready : OpenReady x.states.words.now x.members.words.now x.scratch.now c.limits.list INTERSECT from k to
  open_ready = record { at = order.open_all_at R.ready.good (words x.scratch.now from k) A.states; limit = R.ready.list; apart = A.apart; room = omega (arith, R.ready.list, R.ready.room) }

  -- too many
  pub too_long : (rest : Within (List ℕ) → Step Aut ℕ) {whole : Step Aut ℕ} → whole (aut_in x) ≡ rest opened (aut_in x) → {N a n : ℕ} {s1 : List ℕ} {y : Lent} (f : Refusal) → rest beyond (aut_in x) ≡ refused (number_of f)
      → {o : Option ℕ} → Extends opened o x.scratch.now s1 to c.limits.list → {e : Refusal} → Err e ≡ ok_or o f → {r : Result ℕ Refusal} → IsErr r × IsErrAnd r (λ x. x ≡ e) → Does N a n aut_in (λ i. i) whole x r y
  too_long rest {whole} is {N} {a} {n} {s1} {y} f q O v p =
      missing (λ (o : Option ℕ) (r : Result ℕ Refusal). Extends opened o x.scratch.now s1 to c.limits.list → Does N a n aut_in (λ i. i) whole x r y) v p
      (λ O. not_done f (is ∙ ap (λ (o : Within (List ℕ)). rest o (aut_in x)) O.is ∙ q)) O

  module _ {s1 : List ℕ} {o : Option ℕ} {m : ℕ} (G : Extends opened o x.scratch.now s1 to c.limits.list) (some : o ≡ Some m) (len1 : length s1 ≡ length x.scratch.now) (y : Lent) (tables : aut_in y ≡ aut_in x)
      (fields : y.spp.fields ≡ x.spp.fields) (s : y.scratch.now ≡ s1) where
    O : Extends opened (Some m) x.scratch.now s1 to c.limits.list
    O = subst (λ (o : Option ℕ). Extends opened o x.scratch.now s1 to c.limits.list) some G

    written : Written to m x y
    written = record {
      kept = subst (Kept to 64 x.scratch.now) (sym s) (kept_wide O.kept (omega arith) (omega (arith, R.ready.list)));
      len = ap length s ∙ len1;
      few = omega (arith, R.ready.list, O.few);
      states = subst (λ (s : List ℕ). All (λ i. i < x.states.count) (words s to m)) (sym s)
          (subst (AllWithin (λ i. i < x.states.count)) O.is (all_states_lem R.ready.good c.limits.list (words x.scratch.now from k) [] A.states tt));
      tables = tables;
      fields = fields;
    }

    pub next_ready : Asked c y × ListAt y.scratch.now y.states.count to m (to + 64) × (m ≤ 64)
    next_ready =
        let p = written_asked written R room in
        (p.0, p.1, written.few)

    pub next_done : (rest : Within (List ℕ) → Step Aut ℕ) {whole : Step Aut ℕ} → whole (aut_in x) ≡ rest opened (aut_in x) → {N n : ℕ} {r : Result ℕ Refusal} {z : Lent} → to + 64 + n ≤ LISTS
        → Does N (to + 64) n aut_in (λ i. i) (rest (within (words y.scratch.now to m))) y r z → Does N to (64 + n) aut_in (λ i. i) whole x r z
    next_done rest is h D = written_done written h (is ∙ ap (λ (o : Within (List ℕ)). rest o (aut_in x)) O.is ∙ ap (λ (s : List ℕ). rest (within (words s to m)) (aut_in x)) (sym s)) D
