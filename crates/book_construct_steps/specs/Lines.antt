-- 01, "The book and its answers", and 02 (iv): the constructor lines. What a line means (a rule, from the rules of the lines that it names), and the constructor that
-- makes its state (from their states).
use Rattle.std.specs.Prelude.{Bool, List, [], ◌∷◌, ℕ, ◌<◌}
use Rattle.common.specs.Outcome.{Step}
use Rattle.common.specs.Runs.{Table}
use Rattle.common.specs.Relations as Relations
use Rattle.netkat.specs.Rules as Rules
use Rattle.netkat.specs.Rules.{Rule, Rules}
use Rattle.spp_steps.specs.Model as Spp
use Rattle.spp_steps.specs.Relations.{testing, assigning}
use Rattle.aut_steps.specs.Relations.{zero_at, one_at, top_at}
use Rattle.aut_steps.specs.Tables.{Limits, Aut, on_states}
use Rattle.aut_steps.specs.Ascending.{All}
use Rattle.aut_steps.specs.Constructors as C

-- the words of the lines: without operands, with a field and a bit, with one line, with two, with any count
pub data Constant : Type 0 where
  zero one all dup top : Constant

pub data Bit : Type 0 where
  test set : Bit

pub data Single : Type 0 where
  not star next : Single

pub data Pair : Type 0 where
  or and xor minus seq until : Pair

pub data Listed : Type 0 where
  union inter : Listed

-- A constructor line, with what stands for the lines that it names: rules, or states.
pub data Line (A : Type 0) : Type 0 where
  constant : Constant → Line A
  bit : Bit → ℕ → Bool → Line A  -- bit f is, or becomes, v
  single : Single → A → Line A
  pair : Pair → A → A → Line A
  listed : Listed → List A → Line A

module _ {A : Type 0} where
  -- the lines that it names
  abbrev pub names : Line A → List A
  names (constant c) = []
  names (bit w f v) = []
  names (single w a) = a ∷ []
  names (pair w a b) = a ∷ b ∷ []
  names (listed w l) = l

  -- its field is below N
  abbrev pub FieldBelow : ℕ → Line A → Type 0
  FieldBelow N (constant c) = Unit
  FieldBelow N (bit w f v) = f < N
  FieldBelow N (single w a) = Unit
  FieldBelow N (pair w a b) = Unit
  FieldBelow N (listed w l) = Unit

-- ---- what it means

module _ {N : ℕ} {A : Type 0} (r : A → Rule N) where
  abbrev pub each : List A → Rules N
  each [] = Rules.none
  each (a ∷ l) = Rules.also (r a) (each l)

  -- r gives the rules of the lines that are named
  unfoldable pub means : Line A → Rule N
  means (constant zero) = Rules.relation Relations.noneʳ
  means (constant one) = Rules.relation Relations.same
  means (constant all) = Rules.relation Relations.allʳ
  means (constant dup) = Rules.dup
  means (constant top) = Rules.top
  means (bit test f v) = Rules.relation (testing f v)
  means (bit set f v) = Rules.relation (assigning f v)
  means (single not a) = Rules.complement (r a)
  means (single star a) = Rules.star (r a)
  means (single next a) = Rules.next (r a)
  means (pair or a b) = Rules.union (each (a ∷ b ∷ []))
  means (pair and a b) = Rules.intersection (each (a ∷ b ∷ []))
  means (pair xor a b) = Rules.xor (r a) (r b)
  means (pair minus a b) = Rules.difference (r a) (r b)
  means (pair seq a b) = Rules.sequence (r a) (r b)
  means (pair until a b) = Rules.until (r a) (r b)
  means (listed union l) = Rules.union (each l)
  means (listed inter l) = Rules.intersection (each l)

-- ---- what makes its state

-- What is asked of a line of states: there are n of them, and N fields.
pub record Asked (N n : ℕ) (line : Line ℕ) : Type 0 where
  pub states : All (λ x. x < n) (names line)
  pub field : FieldBelow N line

module _ (N : ℕ) where
  abbrev pub constant_of : Constant → Step Table ℕ
  constant_of zero = C.mk_spp (zero_at N)
  constant_of one = C.mk_spp (one_at N)
  constant_of all = C.mk_spp (top_at N)
  constant_of dup = C.mk_dup
  constant_of top = C.mk_top

  abbrev pub bit_of : Bit → ℕ → Bool → Step Table ℕ
  bit_of test f v = Spp.test N N f v
  bit_of set f v = Spp.assign N N f v

  module _ (L : Limits) where
    abbrev pub single_of : Single → ℕ → Step Aut ℕ
    single_of not x = on_states (C.mk_complement N L x)
    single_of star x = C.mk_star N L x
    single_of next x = on_states (C.mk_next L x)

    abbrev pub pair_of : Pair → ℕ → ℕ → Step Aut ℕ
    pair_of or x y = C.mk_union N L x y
    pair_of and x y = C.mk_intersect N L x y
    pair_of xor x y = C.mk_xor N L x y
    pair_of minus x y = C.mk_difference N L x y
    pair_of seq x y = C.mk_sequence N L x y
    pair_of until x y = on_states (C.mk_until L x y)

    abbrev pub listed_of : Listed → List ℕ → Step Aut ℕ
    listed_of union xs = C.mk_union_n N L xs
    listed_of inter xs = C.mk_intersect_n N L xs

    -- the constructor of the line's word, on the states of the lines that it names
    abbrev pub make : Line ℕ → Step Aut ℕ
    make (constant w) = on_states (constant_of w)
    make (bit w f v) = C.spp_of (bit_of w f v)
    make (single w x) = single_of w x
    make (pair w x y) = pair_of w x y
    make (listed w xs) = listed_of w xs
