-- 01, port order, step 2: what each operation on labels makes, from any relations that its operands stand for.
use mathlib.Core.Path.{◌≡◌}
use mathlib.Core.Logic.{◌↔◌}
use Prim.Native.Nat.{ℕ}
use native.Mathlib.Omega.{arith}
use lib.Dec.{T}
use Rattle.common.specs.Packets.{Packet, Relation}
use Rattle.common.specs.Relations.{◌∪ʳ◌, ◌∩ʳ◌, ◌∖ʳ◌, ◌⊕ʳ◌, ∁ʳ, ◌⨾◌, Closure}
use Rattle.common.specs.Outcome.{Outcome}
use Rattle.common.specs.Runs.{Table}
use Rattle.spp_steps.specs.Model as Spp
use Rattle.spp_steps.specs.Wf.{Wf, Denotes}
use Rattle.spp_steps.proofs.Laws.{den_is}
use Rattle.spp_steps.proofs.Apply.{pointwise, apply_exact}
use Rattle.spp_steps.proofs.Sequence.{sequence_exact}
use Rattle.spp_steps.proofs.Star.{star_exact}
use Rattle.spp_steps.specs.Closure.{closure}
use Rattle.spp_steps.proofs.Closure.{closure_paths}
use Rattle.aut_steps.specs.Relations as Rel
use Rattle.aut_steps.proofs.RelationLaws.{Makes, lacks, makes, made, xor_pairs}
use Rattle.aut_st_steps.specs.Operations.{complement}

module _ {N : ℕ} {t : Table} where
  -- the same pairs
  makes_as : {R S : Relation N} {o : Outcome Table ℕ} → Makes N R t o → ((p q : Packet N) → R p q ≡ S p q) → Makes N S t o
  makes_as (lacks e w y) f = lacks e w y
  makes_as (makes m) f = makes (record { ext = m.ext; wf = m.wf; den = den_is m.den f })

  module _ (w : Wf N t) {a : ℕ} {R : Relation N} (x : Denotes t N a R) where
    pub complement_makes : Makes N (∁ʳ R) t (complement N a t)
    unfolding Spp.complement
    complement_makes = made N (apply_exact N Spp.not N (omega arith) t a a R R w x x)

    pub star_makes : Makes N (closure R) t (Rel.star N a t)
    star_makes = made N (star_exact N N (omega arith) t a R w x)

    module _ {b : ℕ} {S : Relation N} (y : Denotes t N b S) where
      by : (o : Spp.Op) → Makes N (pointwise o R S) t (Spp.apply N o N a b t)
      by o = made N (apply_exact N o N (omega arith) t a b R S w x y)

      pub union_makes : Makes N (R ∪ʳ S) t (Rel.union N a b t)
      union_makes = by Spp.union

      pub intersect_makes : Makes N (R ∩ʳ S) t (Rel.intersect N a b t)
      intersect_makes = by Spp.intersect

      pub difference_makes : Makes N (R ∖ʳ S) t (Rel.difference N a b t)
      difference_makes = by Spp.difference

      pub xor_makes : Makes N (R ⊕ʳ S) t (Rel.xor N a b t)
      xor_makes = makes_as (by Spp.xor) (λ p q. xor_pairs (R p q) (S p q))

      pub sequence_makes : Makes N (R ⨾ S) t (Rel.sequence N a b t)
      sequence_makes = made N (sequence_exact N N (omega arith) t a b R S w x y)

-- spp.rs's star is the closure
pub closure_is : {N : ℕ} (R : Relation N) (p q : Packet N) → T (closure R p q) ↔ Closure (λ p q. T (R p q)) p q
closure_is R p q = closure_paths R p q
