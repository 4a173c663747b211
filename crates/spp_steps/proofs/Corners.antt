-- 01, "Corners, file by file", spp.rs: the rows marked [C].
use mathlib.Core.Path.{◌≡◌, refl}
use mathlib.Core.List.{[], ◌∷◌}
use Prim.Native.Nat.{ℕ, zero, suc}
use lib.ListN.{replicate}
use borrow.Author.Tests.{eq-eqb}
use Rattle.common.specs.Outcome.{refused, given}
use Rattle.common.specs.Runs.{Table, table}
use Rattle.spp_steps.specs.Model.{constants, zeros, ones, tops, zero_at, one_at, top_at, mk, seek, same, kid, put, room, done, star_exit, star}

-- [C] 3 fields: zero 4, identity 7, top 10, 9 nodes
pub three_fields : constants 3 (table (replicate 36 0) 0)
    ≡ given (table (0 ∷ 0 ∷ 0 ∷ 0 ∷ 2 ∷ 2 ∷ 2 ∷ 2 ∷ 3 ∷ 3 ∷ 3 ∷ 3 ∷ 1 ∷ 0 ∷ 0 ∷ 1 ∷ 5 ∷ 2 ∷ 2 ∷ 5 ∷ 6 ∷ 3 ∷ 3 ∷ 6 ∷ 1 ∷ 1 ∷ 1 ∷ 1 ∷ 8 ∷ 8 ∷ 8 ∷ 8 ∷ 9 ∷ 9 ∷ 9 ∷ 9 ∷ []) 9)
    (record { zero = 4; one = 7; top = 10 })
unfolding constants zeros ones tops zero_at mk seek same kid put room
three_fields = refl

-- one word short
pub three_short : constants 3 (table (replicate 35 0) 0) ≡ refused 21
unfolding constants zeros ones tops zero_at mk seek same kid put room
three_short = refl

-- [C] 0 fields: identity and top are both handle 1
pub no_fields : (σ : Table) → constants 0 σ ≡ given σ (record { zero = 0; one = 1; top = 1 })
unfolding constants zeros ones tops
no_fields σ = refl

pub no_fields_at : (zero_at 0 0 ≡ 0) × (one_at 0 0 ≡ 1) × (top_at 0 0 ≡ 1)
unfolding zero_at one_at top_at
no_fields_at = (refl, refl, refl)

exit_zero : (N d : ℕ) → star_exit N d (zero_at N d) ≡ done (one_at N d)
unfolding star_exit
exit_zero N d = rw (eq-eqb (zero_at N d) (zero_at N d) refl)

-- [C] star of zero is the identity
pub star_zero : (N d : ℕ) (σ : Table) → star N d (zero_at N d) σ ≡ given σ (one_at N d)
unfolding star
star_zero N zero σ = rw (exit_zero N zero)
star_zero N (suc d) σ = rw (exit_zero N (suc d))
