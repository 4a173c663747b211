-- When a result in the cache is right: the operation gives it, with no change, now and in every later store.
use Rattle.std.specs.Prelude.{ℕ, suc, eqb, if◌then◌else◌}
use Rattle.common.specs.Outcome.{Step}
use Rattle.common.specs.Runs.{Table}
use Rattle.cache.specs.Cache.{Valid}
use Rattle.spp_steps.specs.Model.{Op, union, intersect, xor, difference, not, down, each, apply, sequence, star}
use Rattle.spp_steps.proofs.Laws.{spp_theory}
use Rattle.spp_steps.specs.Reuse as Reuse
use Rattle.spp_steps.proofs.Reuse.{of_rel}

-- the codes of relations: 3 to 7 pointwise, 8 sequence, 9 star
abbrev pub code_of : Op → ℕ
code_of union = 3
code_of intersect = 4
code_of xor = 5
code_of difference = 6
code_of not = 7

abbrev pub op_at : ℕ → Op
op_at code =
    if eqb code 3 then union else
    if eqb code 4 then intersect else
    if eqb code 5 then xor else
    if eqb code 6 then difference else
    not

-- what the operation of a code does on x and y, of depth d + 1; star has its operand twice
unfoldable pub run : ℕ → ℕ → ℕ → ℕ → ℕ → Step Table ℕ
run N code d x y =
    if eqb code 8 then sequence N (suc d) x y else
    if eqb code 9 then star N (suc d) x else
    down (each (apply N (op_at code) d)) x y

-- the result r of the code's operation on x and y
abbrev pub Kept : ℕ → Table → Valid
Kept N σ code x y r = Reuse.Kept (spp_theory N) (of_rel N x) (λ d. run N code d x y) σ r
