-- The constants of a new book, as the place that reading begins with.
use Rattle.std.specs.Prelude.{Result, Ok, Err}
use mathlib.Core.Path.{◌≡◌, refl, sym, ◌∙◌, ap, ap₂}
use mathlib.Core.List.{List, []}
use mathlib.Core.Option.{Option}
use Prim.Native.Nat.{ℕ}
use lib.ListN.{take}
use Rattle.common.specs.Outcome.{Outcome, refused, given}
use Rattle.common.specs.Runs.{Table}
use Rattle.refusal.specs.declared.Refusal.{Refusal}
use Rattle.refusal.specs.Numbers.{outcome}
use Rattle.spp_steps.specs.Model as Spp
use Rattle.aut_query_steps.specs.Tables.{Tables}
use Rattle.aut_query_stage.specs.Lent.{tables_in}
use Rattle.book_steps.specs.Run.{Lent, RunState, place}
use Rattle.book_memory.specs.declared.Place.{Place}
use Rattle.book_memory.specs.Place.{place_in, lengths_of}
use Rattle.book_begin.specs.Clauses.{Fresh, new_tables, PostConstants}
use Rattle.book_begin.proofs.Zero.{no_lines}
use Rattle.image_steps.specs.Read.{constants_in, fresh}

-- tables with no lines and no output
abbrev bare : Outcome Tables ℕ → Outcome RunState ℕ
bare (refused e) = refused e
bare (given σ v) = given (place σ [] []) v

bare_tables : (lent : Lent) (o : Outcome Table ℕ) (r : Outcome Table Spp.Constants) → constants_in lent o r ≡ bare (new_tables lent o r)
bare_tables lent (refused e) r = refl
bare_tables lent (given s z) (refused e) = refl
bare_tables lent (given s z) (given r c) = refl

module _ (N : ℕ) where
  pub fresh_is : (r : Result Unit Refusal) {y : Place} → PostConstants N r y → (z : Place) → Fresh y z → z.output.at ≡ 0 → fresh (lengths_of z) N ≡ outcome {A = ℕ} (λ u. 0) r (place_in z)
  unfolding fresh
  fresh_is r B z F at = bare_tables (lengths_of z) _ _ ∙ ap bare (B.is z F) ∙ go r
    where
      go : (r : Result Unit Refusal) → bare (outcome {A = ℕ} (λ u. 0) r (tables_in z.aut)) ≡ outcome {A = ℕ} (λ u. 0) r (place_in z)
      go (Err e) = refl
      go (Ok u) = ap₂ (λ (ls : List (Option ℕ)) (n : ℕ). given (place (tables_in z.aut) ls (take n z.output.bytes.now)) 0) (sym (no_lines z.lines.words.now F.no_lines)) (sym at)
