-- 02 (ii): "Reading makes a new book's constants, then each record again by its constructor (an intersection by `mk_intersect_n_base`) and wants the same number"; "32 for a record ending there that cannot be made of
-- those before it, comes out differently or meets 6 or 8 (20 to 23 where it has no room ..)". A record is right if its constructor would leave its operands as they are and give this very record; then it is made: by `mk`, or by
-- the interning that is the constructor's last step. proofs/Constructors shows that this is what the constructor does.
use Rattle.std.specs.Prelude.{Bool, true, false, ◌&&◌, ◌||◌, not, List, [], ◌∷◌, ℕ, zero, suc, ◌+◌, ◌-◌, ◌/◌, ◌%◌, max, eqb, ltb, leb, length, if◌then◌else◌}
use Rattle.common.specs.Outcome.{Outcome, refused, given, Step}
use Rattle.common.specs.Runs.{Table}
use Rattle.sp_steps.specs.Model as Sp
use Rattle.spp_steps.specs.Model as Spp
use Rattle.aut_steps.specs.Relations as Rel
use Rattle.aut_steps.specs.Tables.{SPP, UNION, INTERSECT, XOR, DIFFERENCE, COMPLEMENT, SEQUENCE, STAR, DUP, UNTIL, TOP, kind_of, op1, nest, Limits, Aut, on_states, on_exprs}
use Rattle.aut_steps.specs.Intern.{nest_l, intern0, intern1, intern2, intern_l}
use Rattle.aut_steps.specs.Constructors.{relations, is_relation}

-- ---- packet nodes

-- the depth of a handle, by first children, as far as n
unfoldable pub depth_of : List ℕ → ℕ → ℕ → ℕ
depth_of t zero h = 0
depth_of t (suc n) h = if ltb h 2 then 0 else suc (depth_of t n (Sp.kid t false (h / 2 - 1)))

-- Children of nodes before i (or 0, 1), of one depth below N, the left one even; and node i is the first one with these two, or would be new.
unfoldable pub node_fits : ℕ → Table → ℕ → ℕ → ℕ → Bool
node_fits N t i x0 x1 =
    leb (x0 / 2) i && (leb (x1 / 2) i
    && (ltb (depth_of t.words N x0) N && (eqb (depth_of t.words N x0) (depth_of t.words N x1)
    && (eqb (x0 % 2) 0 && eqb (Sp.seek t.words x0 x1 0 t.count) i))))

-- packet node i
unfoldable pub node : ℕ → ℕ → ℕ → ℕ → Step Table ℕ
node N i x0 x1 t = if node_fits N t i x0 x1 then Sp.mk x0 x1 t else refused 32

-- ---- relation nodes

unfoldable pub depth_of_r : List ℕ → ℕ → ℕ → ℕ
depth_of_r t zero h = 0
depth_of_r t (suc n) h = if ltb h 2 then 0 else suc (depth_of_r t n (Spp.kid t (h - 2) false false))

-- handle h of a node before i, or 0 or 1, of depth d
abbrev pub kid_fits : ℕ → List ℕ → ℕ → ℕ → ℕ → Bool
kid_fits N t i d h = ltb h (i + 2) && eqb (depth_of_r t N h) d

unfoldable pub relation_fits : ℕ → Table → ℕ → Spp.Quad → Bool
relation_fits N t i X =
    let d : ℕ = depth_of_r t.words N (X false false) in
    ltb d N && (kid_fits N t.words i d (X false false) && (kid_fits N t.words i d (X false true)
    && (kid_fits N t.words i d (X true false) && (kid_fits N t.words i d (X true true)
    && eqb (Spp.seek t.words X 0 t.count) i))))

-- relation node i
unfoldable pub relation : ℕ → ℕ → Spp.Quad → Step Table ℕ
relation N i X t = if relation_fits N t i X then Spp.mk X t else refused 32

-- ---- states

-- ascending from lo on; none is Union or Top; at most one SPP (none once one was seen), and not zero
unfoldable pub unites : ℕ → List ℕ → (seen : Bool) → (lo : ℕ) → List ℕ → Bool
unites N st seen lo [] = true
unites N st seen lo (x ∷ xs) =
    leb lo x && (not (eqb (kind_of st x) UNION) && (not (eqb (kind_of st x) TOP)
    && (if eqb (kind_of st x) SPP
    then (not seen && (not (eqb (op1 st x) (Rel.zero_at N)) && unites N st true (x + 1) xs))
    else unites N st seen (x + 1) xs)))

-- ascending from lo on, at least one that is no SPP (`some`: there was one); none is Intersect or Top; then at most one SPP, not zero
unfoldable pub meets : ℕ → List ℕ → (some : Bool) → (lo : ℕ) → List ℕ → Bool
meets N st some lo [] = some
meets N st some lo (x ∷ xs) =
    if eqb (kind_of st x) SPP
    then (some && (not (eqb (op1 st x) (Rel.zero_at N)) && eqb (length xs) 0))
    else (leb lo x && (not (eqb (kind_of st x) INTERSECT) && (not (eqb (kind_of st x) TOP) && meets N st true (x + 1) xs)))

-- every member is a state before n
unfoldable pub all_below : ℕ → List ℕ → Bool
all_below n [] = true
all_below n (x ∷ xs) = ltb x n && all_below n xs

module _ (N : ℕ) (L : Limits) where
  -- A state's record: its kind, two words and nesting, and for Union and Intersect its members xs. Operands are states before it, unused words 0, the nesting is theirs + 1 and within the limit; and the constructor of its kind
  -- leaves these operands as they are.
  unfoldable pub leaf_fits : Aut → (x y e : ℕ) → Bool
  leaf_fits σ x y e = ltb x (σ.nodes.count + 2) && (eqb (depth_of_r σ.nodes.words N x) N && (eqb y 0 && eqb e 0))

  abbrev pub constant_fits : (x y e : ℕ) → Bool
  constant_fits x y e = eqb x 0 && (eqb y 0 && eqb e 0)

  unfoldable pub one_fits : Aut → (x y e : ℕ) → Bool
  one_fits σ x y e = ltb x σ.states.count && (eqb y 0 && (eqb e (nest σ.states.words x + 1) && leb e L.nesting))

  unfoldable pub two_fits : Aut → (x y e : ℕ) → Bool
  two_fits σ x y e =
      ltb x σ.states.count && (ltb y σ.states.count
      && (eqb e (max (nest σ.states.words x) (nest σ.states.words y) + 1) && leb e L.nesting))

  -- its members begin where those so far end
  unfoldable pub many_fits : Aut → List ℕ → (x y e : ℕ) → Bool
  many_fits σ xs x y e =
      eqb x σ.members.count && (leb y L.list && (eqb (length xs) y && (all_below σ.states.count xs
      && (eqb e (nest_l σ.states.words 0 xs + 1) && leb e L.nesting))))

  unfoldable pub sequence_fits : List ℕ → (x y : ℕ) → Bool
  sequence_fits st x y =
      not (relations st x y) && (not (is_relation st x (Rel.one_at N)) && (not (is_relation st x (Rel.zero_at N))
      && (not (is_relation st y (Rel.one_at N)) && (not (is_relation st y (Rel.zero_at N))
      && (not (eqb (kind_of st x) SEQUENCE) && not (eqb (kind_of st x) TOP && eqb (kind_of st y) TOP))))))

  unfoldable pub star_fits : List ℕ → ℕ → Bool
  star_fits st x = not (eqb (kind_of st x) STAR) && (not (eqb (kind_of st x) SPP) && not (eqb (kind_of st x) TOP))

  unfoldable pub complement_fits : List ℕ → ℕ → Bool
  complement_fits st x = not (eqb (kind_of st x) COMPLEMENT) && not (eqb (kind_of st x) TOP)

  -- "(iv) Images of (ii) do not know kind 10"
  unfoldable pub state_fits : Aut → List ℕ → (k x y e : ℕ) → Bool
  state_fits σ xs k x y e =
      let st : List ℕ = σ.states.words in
      if eqb k SPP then leaf_fits σ x y e else
      if eqb k UNION then many_fits σ xs x y e && (leb 2 y && unites N st false 0 xs) else
      if eqb k INTERSECT then many_fits σ xs x y e && meets N st false 0 xs else
      if eqb k XOR then two_fits σ x y e && (ltb x y && not (relations st x y)) else
      if eqb k DIFFERENCE then two_fits σ x y e && (not (eqb x y) && not (relations st x y)) else
      if eqb k COMPLEMENT then one_fits σ x y e && complement_fits st x else
      if eqb k SEQUENCE then two_fits σ x y e && sequence_fits st x y else
      if eqb k STAR then one_fits σ x y e && star_fits st x else
      if eqb k DUP then constant_fits x y e else
      if eqb k UNTIL then two_fits σ x y e else
      if eqb k TOP then constant_fits x y e else
      false

  -- the last step of its constructor
  unfoldable pub interned : List ℕ → (k x y : ℕ) → Step Aut ℕ
  interned xs k x y =
      if eqb k SPP then on_states (intern0 k x) else
      if eqb k UNION then on_exprs (intern_l L k xs) else
      if eqb k INTERSECT then on_exprs (intern_l L k xs) else
      if eqb k COMPLEMENT then on_states (intern1 L k x) else
      if eqb k STAR then on_states (intern1 L k x) else
      if eqb k DUP then on_states (intern0 k x) else
      if eqb k TOP then on_states (intern0 k x) else
      on_states (intern2 L k x y)

  -- "wants the same number": a new state
  abbrev pub wanted : ℕ → Outcome Aut ℕ → Outcome Aut ℕ
  wanted n (refused number) = refused number
  wanted n (given τ i) = if eqb i n then given τ i else refused 32

  unfoldable pub state : List ℕ → (k x y e : ℕ) → Step Aut ℕ
  state xs k x y e σ = if state_fits σ xs k x y e then wanted σ.states.count (interned xs k x y σ) else refused 32
