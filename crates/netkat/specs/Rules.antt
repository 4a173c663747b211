-- 01, "Strings": which strings a rule holds. A rule has one constructor for each kind of AExpr: SPP (`relation`), Union, Intersect, Xor,
-- Difference, Complement, Sequence, Star, Dup, LtlNext (`next`), LtlUntil (`until`), Top.
use Rattle.std.specs.Prelude.{◌≡◌, ◌⊎◌, List, [], ◌∷◌, ◌++◌, length, T, ℕ, zero, suc, ◌≤◌, ◌<◌}
use Rattle.common.specs.Packets.{Packet, Relation}
use Rattle.netkat.specs.Strings.{Str, str, tail}

mutual
  pub data Rule (n : ℕ) : Type 0 where
    relation : Relation n → Rule n
    union intersection : Rules n → Rule n
    xor difference sequence until : Rule n → Rule n → Rule n
    complement star next : Rule n → Rule n
    dup top : Rule n

  -- a list of rules
  pub data Rules (n : ℕ) : Type 0 where
    none : Rules n
    also : Rule n → Rules n → Rules n

-- A set of strings.
abbrev pub Language : ℕ → Type 1
Language n = Str n → Type 0

module _ {n : ℕ} where
  -- Sequence joins strings whose end and start agree: that packet is dropped, the hop lists are joined.
  pub record Join (A B : Language n) (w : Str n) : Type 0 where
    pub first : List (Packet n)
    pub dropped : Packet n
    pub second : List (Packet n)
    pub joined : w.hops ≡ first ++ second
    pub left : A (str w.start first dropped)
    pub right : B (str dropped second w.end)

  -- k joins; none gives a,[],a
  abbrev pub Joins : Language n → ℕ → Language n
  Joins A zero w = (w.hops ≡ []) × (w.start ≡ w.end)
  Joins A (suc k) w = Join A (Joins A k) w

  -- Star is any number of joins.
  pub record Star (A : Language n) (w : Str n) : Type 0 where
    pub number : ℕ
    pub joins : Joins A number w

  -- the k-th tail of w is in A
  abbrev pub TailIn : Language n → ℕ → Language n
  TailIn A k w = A (tail k w.start w.hops w.end)

  -- LtlUntil(e1, e2) holds a string if some tail, itself included, is in e2 and every longer one is in e1.
  pub record Until (A B : Language n) (w : Str n) : Type 0 where
    pub number : ℕ
    pub within : number ≤ length w.hops
    pub some_tail : TailIn B number w
    pub every_longer : (j : ℕ) → j < number → TailIn A j w

  -- LtlNext(e) holds a string if it has a hop and its tail is in e.
  pub record Next (A : Language n) (w : Str n) : Type 0 where
    pub hop : 0 < length w.hops
    pub its_tail : TailIn A 1 w

  unfoldable mutual
    -- SPP holds the strings without hops whose (start, end) is in the relation. Dup holds a,[a],a. Top holds all strings. Union,
    -- Intersect, Xor, Difference and Complement are the set operations.
    pub In : Rule n → Language n
    In (relation r) w = (w.hops ≡ []) × T (r w.start w.end)
    In (union rs) w = InSome rs w
    In (intersection rs) w = InEach rs w
    In (xor a b) w = (In a w × ¬ In b w) ⊎ (In b w × ¬ In a w)
    In (difference a b) w = In a w × ¬ In b w
    In (sequence a b) w = Join (λ v. In a v) (λ v. In b v) w
    In (until a b) w = Until (λ v. In a v) (λ v. In b v) w
    In (complement a) w = ¬ In a w
    In (star a) w = Star (λ v. In a v) w
    In (next a) w = Next (λ v. In a v) w
    In dup w = (w.hops ≡ w.start ∷ []) × (w.start ≡ w.end)
    In top w = Unit {0}

    pub InSome : Rules n → Language n
    InSome none w = ⊥
    InSome (also r rs) w = In r w ⊎ InSome rs w

    pub InEach : Rules n → Language n
    InEach none w = Unit {0}
    InEach (also r rs) w = In r w × InEach rs w
