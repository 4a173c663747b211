-- aut.rs, the smart constructors: what each has seen to of its operands before it interns a state, as the words of the states tell. Order and length of lists
-- stand apart (Wf: United, Meeting, short). A kind that is not named here (SPP, Dup, LtlNext, Until, Top) is interned as it is given.
use Rattle.std.specs.Prelude.{◌≡◌, List, ◌≢◌, ℕ, ◌<◌}
use Rattle.aut_steps.specs.Relations as Rel
use Rattle.aut_steps.specs.Tables.{SPP, UNION, INTERSECT, XOR, DIFFERENCE, COMPLEMENT, SEQUENCE, STAR, TOP, kind_of, op1}
use Rattle.aut_steps.specs.Ascending.{All}

-- state x is the relation h
abbrev pub IsRelation : List ℕ → ℕ → ℕ → Type 0
IsRelation st x h = (kind_of st x ≡ SPP) × (op1 st x ≡ h)

-- not both states are of kind k
abbrev pub NotBoth : List ℕ → ℕ → ℕ → ℕ → Type 0
NotBoth st k x y = kind_of st x ≡ k → kind_of st y ≡ k → ⊥

-- a member of a list of kind k: of another kind, for its own would have been opened; not Top; not the zero relation
pub record Part (N : ℕ) (st : List ℕ) (k x : ℕ) : Type 0 where
  pub other : kind_of st x ≢ k
  pub no_top : kind_of st x ≢ TOP
  pub no_zero : IsRelation st x (Rel.zero_at N) → ⊥

-- the members of a Union: at most one is SPP
pub record Summands (N : ℕ) (st xs : List ℕ) : Type 0 where
  pub parts : All (Part N st UNION) xs
  pub spp : ℕ
  pub one_spp : All (λ x. kind_of st x ≡ SPP → x ≡ spp) xs

-- the operands of a Sequence
pub record Sequenced (N : ℕ) (st : List ℕ) (x y : ℕ) : Type 0 where
  pub regrouped : kind_of st x ≢ SEQUENCE
  pub no_one1 : IsRelation st x (Rel.one_at N) → ⊥
  pub no_zero1 : IsRelation st x (Rel.zero_at N) → ⊥
  pub no_one2 : IsRelation st y (Rel.one_at N) → ⊥
  pub no_zero2 : IsRelation st y (Rel.zero_at N) → ⊥
  pub relations : NotBoth st SPP x y
  pub tops : NotBoth st TOP x y

-- What has been seen to for a state of kind k with the operands x and y, or with the list xs.
pub record MadeOf (N : ℕ) (st : List ℕ) (k x y : ℕ) (xs : List ℕ) : Type 0 where
  pub union : k ≡ UNION → Summands N st xs
  pub intersect : k ≡ INTERSECT → All (Part N st INTERSECT) xs
  pub xor : k ≡ XOR → (x < y) × NotBoth st SPP x y
  pub difference : k ≡ DIFFERENCE → (x ≢ y) × NotBoth st SPP x y
  pub complement : k ≡ COMPLEMENT → (kind_of st x ≢ COMPLEMENT) × (kind_of st x ≢ TOP)
  pub sequence : k ≡ SEQUENCE → Sequenced N st x y
  pub star : k ≡ STAR → (kind_of st x ≢ STAR) × (kind_of st x ≢ SPP) × (kind_of st x ≢ TOP)
