-- The loops over two lists: the steps for all of a list are those for one, and then those for the others.
use mathlib.Core.List.{List}
use Prim.Native.Nat.{ℕ, ◌≤◌}
use Rattle.std.specs.Prelude.{Result}
use Rattle.common.specs.Outcome.{Step}
use Rattle.refusal.specs.declared.Refusal.{Refusal}
use Rattle.netkat_steps.specs.ListSteps as St
use Rattle.netkat_steps.specs.ListSteps.{Edge, Summed}
use Rattle.aut_steps.specs.Tables.{Aut}
use Rattle.aut_st_steps.specs.Operations.{ops}
use Rattle.aut_st_steps.specs.EachSteps.{subtract_one}
use Rattle.aut_st_steps.specs.ListSpec.{SumAt}
use Rattle.aut_st_steps.proofs.MinusSteps.{subtract_row_is, subtract_row_none, subtract_rows_is, subtract_rows_none}
use Rattle.aut_states.specs.Clauses.{limits_of}
use Rattle.aut_states.specs.declared.Config.{Config}
use Rattle.aut_relations.specs.declared.Aut.{Aut as Lent}
use Rattle.aut_stage.specs.OnLent.{Goes}
use Rattle.aut_stage.proofs.Rule.{Folds}
use Rattle.aut_st_insert.specs.Clauses.{list_in}
use Rattle.aut_st_insert.specs.Asked.{ListAsked}
use Rattle.aut_st_source.specs.declared.Source.{Source}
use Rattle.aut_st_stage.proofs.Turns.{source_in, WalkedIn, Turning, turn_row}
use Rattle.aut_st_insert.specs.declared.Met.{Met}
use Rattle.aut_st_minus.specs.Clauses.{sum_in}

-- ---- subtract_row

module _ (k : Config) (e : Edge) where
  abbrev pub row : List Edge → Summed → Step Aut Summed
  row us q = St.subtract_row (ops k.fields (limits_of k.limits)) e us q

  abbrev pub row_one : Edge → Summed → Step Aut Summed
  row_one u q = subtract_one k.fields (limits_of k.limits) e u q

  pub row_folds : Folds row_one row
  row_folds = record { none = λ q σ. subtract_row_none k.fields (limits_of k.limits) e q σ; some = λ u us q σ. subtract_row_is k.fields (limits_of k.limits) e u us q σ }

-- ---- subtract_rows

module _ (k : Config) (us : List Edge) where
  abbrev pub rows : List Edge → Summed → Step Aut Summed
  rows ts q = St.subtract_rows (ops k.fields (limits_of k.limits)) ts us q

  abbrev pub rows_one : Edge → Summed → Step Aut Summed
  rows_one t q = St.subtract_row (ops k.fields (limits_of k.limits)) t us q

  pub rows_folds : Folds rows_one rows
  rows_folds = record { none = λ q σ. subtract_rows_none k.fields (limits_of k.limits) us q σ; some = λ t ts q σ. subtract_rows_is k.fields (limits_of k.limits) us t ts q σ }

-- ---- a turn

-- from the tables b and the value y, i turns have come to the tables `now` and the value z
abbrev pub Summing : Config → (Edge → Summed → Step Aut Summed) → (List Edge → Summed → Step Aut Summed) → Source → Lent → Met → Lent → Met → ℕ → Type 0
Summing k one all x b y now z i = Turning k (SumAt k.fields (limits_of k.limits)) one all x b (sum_in b y) now (sum_in now z) i

module _ {k : Config} {one : Edge → Summed → Step Aut Summed} {all : List Edge → Summed → Step Aut Summed} {x : Source} {b now : Lent} {y : Summed} where
  -- the list so far can be inserted into
  pub sum_list : {h n i : ℕ} → Turning k (SumAt k.fields (limits_of k.limits)) one all x b y now (record { sum = h; result = list_in now n }) i → k.limits.transitions ≤ 64 → ListAsked k now n
  sum_list v w = record { asked = v.asked; list = v.turned.holds.result; limit = w }

  -- the second list is as it was before the loop over the first
  pub sum_row : {q : Summed} {i : ℕ} → Turning k (SumAt k.fields (limits_of k.limits)) one all x b y now q i → {z : Source} → WalkedIn k.fields z b → (e : Edge) {V : Type 0} {see : V → Summed} {r : Result V Refusal} {next : Lent}
      → Goes k 0 832 (SumAt k.fields (limits_of k.limits)) see (row k e (source_in z now) q) now r next → Goes k 0 832 (SumAt k.fields (limits_of k.limits)) see (row k e (source_in z b) q) now r next
  sum_row {q} v W e g = turn_row v W (λ us. row k e us q) g
