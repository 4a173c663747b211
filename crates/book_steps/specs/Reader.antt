-- 01, "The book and its answers", with `why` of 02 (i) and `next` of (iv): the first line is `fields N budget B`; then instructions. What a line says, if it is of its form (else refusal 1 or 3), and then, by what the
-- lines before it are, refusal 4 (a named line is not an earlier constructor line) or 5 (f is N or more, or v above 1).
use Rattle.std.specs.Prelude.{◌&&◌, List, [], ◌∷◌, ℕ, eqb, ltb, get_or, if◌then◌else◌}
use Rattle.std.proofs.Math.Option.{Option, none, some}
use Prim.Native.String.{String}
use Rattle.book_construct_steps.specs.Lines as Lines
use Rattle.book_construct_steps.specs.Lines.{Line, Constant, Bit, Single, Pair, Listed, zero, one, all, dup, top, test, set, or, and, xor, minus, seq, until, union, inter, not, star, next}
use Rattle.book_steps.specs.Text.{bytes, same, number}

-- ---- the first line

pub record Header : Type 0 where
  pub fields : ℕ
  pub budget : ℕ

abbrev pub header_of : Option ℕ → Option ℕ → Option Header
header_of (some n) (some b) = some (record { fields = n; budget = b })
header_of (some n) none = none
header_of none (some b) = none
header_of none none = none

unfoldable pub header : List (List ℕ) → Option Header
header [] = none
header (f ∷ []) = none
header (f ∷ n ∷ []) = none
header (f ∷ n ∷ b ∷ []) = none
header (f ∷ n ∷ b ∷ m ∷ []) = if same f (bytes "fields") && same b (bytes "budget") then header_of (number n) (number m) else none
header (f ∷ n ∷ b ∷ m ∷ l ∷ ls) = none

-- ---- instructions, as they are written

pub data Query : Type 0 where
  empty live pruned why : Query

pub data Instruction : Type 0 where
  constant : Constant → Instruction
  bit : Bit → ℕ → ℕ → Instruction
  single : Single → ℕ → Instruction
  pair : Pair → ℕ → ℕ → Instruction
  listed : Listed → List ℕ → Instruction
  query : Query → ℕ → Instruction

pub record Named (A : Type 0) : Type 0 where
  pub word : String
  pub value : A

abbrev pub named : {A : Type 0} → String → A → Named A
named w v = record { word = w; value = v }

abbrev pub constants : List (Named Constant)
constants = named "zero" zero ∷ named "one" one ∷ named "all" all ∷ named "dup" dup ∷ named "top" top ∷ []

abbrev pub bits : List (Named Bit)
bits = named "test" test ∷ named "set" set ∷ []

abbrev pub singles : List (Named Single)
singles = named "not" not ∷ named "star" star ∷ named "next" next ∷ []

abbrev pub pairs : List (Named Pair)
pairs = named "or" or ∷ named "and" and ∷ named "xor" xor ∷ named "minus" minus ∷ named "seq" seq ∷ named "until" until ∷ []

abbrev pub lists : List (Named Listed)
lists = named "union" union ∷ named "inter" inter ∷ []

abbrev pub queries : List (Named Query)
queries = named "empty" empty ∷ named "live" live ∷ named "pruned" pruned ∷ named "why" why ∷ []

-- what is named so
unfoldable pub find : {A : Type 0} → List (Named A) → List ℕ → Option A
find [] w = none
find (n ∷ ns) w = if same w (bytes n.word) then some n.value else find ns w

abbrev pub map : {A B : Type 0} → (A → B) → Option A → Option B
map f none = none
map f (some a) = some (f a)

abbrev pub or_else : {A : Type 0} → Option A → Option A → Option A
or_else none b = b
or_else (some a) b = some a

abbrev pub in_front : Option ℕ → Option (List ℕ) → Option (List ℕ)
in_front none l = none
in_front (some n) l = map (λ l. n ∷ l) l

-- all of them numbers
unfoldable pub numbers : List (List ℕ) → Option (List ℕ)
numbers [] = some []
numbers (w ∷ ws) = in_front (number w) (numbers ws)

-- a word that takes so many numbers
unfoldable pub exact : List ℕ → List ℕ → Option Instruction
exact w [] = map constant (find constants w)
exact w (a ∷ []) = or_else (map (λ k. single k a) (find singles w)) (map (λ k. query k a) (find queries w))
exact w (a ∷ b ∷ []) = or_else (map (λ k. bit k a b) (find bits w)) (map (λ k. pair k a b) (find pairs w))
exact w (a ∷ b ∷ c ∷ l) = none

-- .. or any number of them
abbrev pub saying : List ℕ → Option (List ℕ) → Option Instruction
saying w none = none
saying w (some l) = or_else (exact w l) (map (λ k. listed k l) (find lists w))

-- what a line's words say, if it is of its form
unfoldable pub parse : List (List ℕ) → Option Instruction
parse [] = none
parse (w ∷ ws) = saying w (numbers ws)

-- ---- instructions, by the lines before: each constructor line stands for something, a state or a rule; a query for nothing

pub data Resolved (A : Type 0) : Type 0 where
  makes : Line A → Resolved A
  asks : Query → ℕ → A → Resolved A  -- of the line named
  refuses : ℕ → Resolved A

module _ {A : Type 0} (N : ℕ) (lines : List (Option A)) where
  abbrev pub named_by : ℕ → Option A
  named_by a = get_or lines a none

  abbrev pub given : Option A → (A → Resolved A) → Resolved A
  given none k = refuses 4
  given (some x) k = k x

  -- every line of a list, in its order
  unfoldable pub giving : List ℕ → (List A → Resolved A) → Resolved A
  giving [] k = k []
  giving (a ∷ l) k = given (named_by a) (λ x. giving l (λ xs. k (x ∷ xs)))

  unfoldable pub resolve : Instruction → Resolved A
  resolve (constant w) = makes (Lines.constant w)
  resolve (bit w f v) = if ltb f N && ltb v 2 then makes (Lines.bit w f (eqb v 1)) else refuses 5
  resolve (single w a) = given (named_by a) (λ x. makes (Lines.single w x))
  resolve (pair w a b) = given (named_by a) (λ x. given (named_by b) (λ y. makes (Lines.pair w x y)))
  resolve (listed w l) = giving l (λ xs. makes (Lines.listed w xs))
  resolve (query q a) = given (named_by a) (λ x. asks q a x)
