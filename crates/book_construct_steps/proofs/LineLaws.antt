-- The state that a constructor line makes holds exactly the strings of the rule that the line means; tables stay in order, and a refusal has its reason.
use mathlib.Core.List.{List, [], ◌∷◌}
use Prim.Native.Nat.{ℕ}
use native.Mathlib.Omega.{arith}
use Rattle.netkat.specs.Rules.{Rule, In, InSome, InEach}
use Rattle.spp_steps.specs.Model as Spp
use Rattle.spp_steps.proofs.Laws.{den_zero, den_one, den_top}
use Rattle.spp_steps.proofs.Field.{test_exact, assign_exact}
use Rattle.aut_steps.specs.Tables.{Limits, Aut}
use Rattle.aut_steps.specs.Ascending.{All}
use Rattle.aut_steps.proofs.ListLaws.{Some}
use Rattle.aut_steps.specs.Languages.{◌≈◌}
use Rattle.aut_steps.proofs.Languages.{back, same, sum_same, sum_none, either_same, both_same}
use Rattle.aut_steps.specs.Wf.{states, WfAut}
use Rattle.aut_steps.proofs.StepSpec.{StepSpec, goes_map}
use Rattle.aut_steps.specs.Meaning.{rule}
use Rattle.aut_steps.proofs.Meaning.{Is, is_same}
use Rattle.aut_steps.proofs.RelationLaws.{made}
use Rattle.aut_steps.proofs.StateLaws.{mk_spp_goes, mk_dup_goes, mk_top_goes, spp_of_goes, mk_complement_goes, mk_star_goes, mk_next_goes, mk_until_goes, mk_xor_goes, mk_difference_goes}
use Rattle.aut_steps.proofs.UnionLaws.{mk_union_goes, mk_union_n_goes}
use Rattle.aut_steps.proofs.IntersectLaws.{mk_intersect_goes, mk_intersect_n_goes}
use Rattle.aut_steps.proofs.SequenceLaws.{mk_sequence_goes}
use Rattle.book_construct_steps.specs.Lines.{Line, constant, bit, single, pair, listed, zero, one, all, dup, top, test, set, or, and, xor, minus, seq, until, union, inter, not, star, next, each, means, Asked, make}

module _ {N : ℕ} where
  some_of : (r : ℕ → Rule N) (xs : List ℕ) → (λ w. Some (λ x. In (r x) w) xs) ≈ InSome (each r xs)
  unfolding In
  some_of r [] = λ w. (λ a. a, λ a. a)
  some_of r (x ∷ xs) = either_same (λ w. (λ a. a, λ a. a)) (some_of r xs)

  all_of : (r : ℕ → Rule N) (xs : List ℕ) → (λ w. All (λ x. In (r x) w) xs) ≈ InEach (each r xs)
  unfolding In
  all_of r [] = λ w. (λ a. a, λ a. a)
  all_of r (x ∷ xs) = both_same (λ w. (λ a. a, λ a. a)) (all_of r xs)

  module _ {L : Limits} {σ : Aut} (g : WfAut N L σ) where
    pub make_goes : (line : Line ℕ) → Asked N (states σ) line → StepSpec N L (Is N (In (means (rule N σ) line))) σ (make N L line σ)
    unfolding means In Spp.test Spp.assign
    make_goes (constant zero) a = mk_spp_goes g (den_zero g.nodes N (omega arith))
    make_goes (constant one) a = mk_spp_goes g (den_one g.nodes N (omega arith))
    make_goes (constant all) a = mk_spp_goes g (den_top g.nodes N (omega arith))
    make_goes (constant dup) a = mk_dup_goes g
    make_goes (constant top) a = mk_top_goes g
    make_goes (bit test f v) a = spp_of_goes g (Spp.test N N f v) (made N (test_exact N v N f (omega arith) a.field σ.nodes g.nodes))
    make_goes (bit set f v) a = spp_of_goes g (Spp.assign N N f v) (made N (assign_exact N v N f (omega arith) a.field σ.nodes g.nodes))
    make_goes (single not x) a = mk_complement_goes g a.states.0
    make_goes (single star x) a = mk_star_goes g a.states.0
    make_goes (single next x) a = mk_next_goes g a.states.0
    make_goes (pair or x y) a = goes_map (mk_union_goes g a.states.0 a.states.1.0) (λ τ z w v i. is_same (λ u. sum_same same (back sum_none)) i)
    make_goes (pair and x y) a = goes_map (mk_intersect_goes g a.states.0 a.states.1.0) (λ τ z w v i. is_same (λ u. (λ (p, q). (p, (q, tt)), λ (p, q). (p, q.0))) i)
    make_goes (pair xor x y) a = mk_xor_goes g a.states.0 a.states.1.0
    make_goes (pair minus x y) a = mk_difference_goes g a.states.0 a.states.1.0
    make_goes (pair seq x y) a = mk_sequence_goes g a.states.0 a.states.1.0
    make_goes (pair until x y) a = mk_until_goes g a.states.0 a.states.1.0
    make_goes (listed union xs) a = goes_map (mk_union_n_goes g xs a.states) (λ τ z w v i. is_same (some_of (rule N σ) xs) i)
    make_goes (listed inter xs) a = goes_map (mk_intersect_n_goes g xs a.states) (λ τ z w v i. is_same (all_of (rule N σ) xs) i)
