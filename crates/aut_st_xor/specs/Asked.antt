-- What st_xor asks of all tables that are lent.
use Rattle.std.specs.Prelude.{ℕ}
use Rattle.aut_states.specs.declared.Config.{Config}
use Rattle.aut_relations.specs.declared.Aut.{Aut as Lent}
use Rattle.aut_st_source.specs.Clauses.{stored}
use Rattle.aut_st_ops.specs.Asked.{TwoAsked}

-- two stored lists
abbrev pub StoredAsked : Config → Lent → ℕ → ℕ → ℕ → ℕ → Type 0
StoredAsked q x a k b j = TwoAsked q x (stored a k) (stored b j)
