-- What an answer says in the words of the steps, what the operations ask, and what they ensure.
use Rattle.std.specs.Prelude.{◌≡◌, Bool, true, false, List, [], ◌∷◌, ℕ, zero, suc, ◌+◌, ◌*◌, ◌≤◌, ◌<◌, length, Result, Ok, Err}
use Rattle.slices.specs.Same.{SameSlice}
use Rattle.common.specs.Outcome.{Outcome, refused, given, Step, return, ◌>>=◌}
use Rattle.common.specs.Runs.{Table, table}
use Rattle.cache.specs.Cache.{OnCodes, OnlyCodes, Sound, WritesValid}
use Rattle.spp_steps.specs.Model as M
use Rattle.spp_steps.specs.Model.{Quad, quad, cap}
use Rattle.spp_steps.specs.Wf.{Rising, Wf, ValidAt}
use Rattle.spp.specs.Reuse.{Kept}
use Rattle.spp.specs.declared.SPP.{SPP}
use Rattle.spp.specs.declared.SPPnode.{SPPnode}
use Rattle.spp.specs.declared.Full.{Full}
use Rattle.spp.specs.declared.SPPstore.{SPPstore}
use Rattle.spp.specs.declared.SPPview.{SPPview}
use Rattle.spp.specs.declared.Constants.{Constants}
use Rattle.spp.specs.declared.Quick.{Quick}
use Rattle.spp.specs.declared.Quick.TheVariants.{Out, On}
use Rattle.spp.specs.declared.Op.{Op}
use Rattle.spp.specs.declared.Op.TheVariants.{Union, Intersect, Xor, Difference, Not}

-- the nodes of a store
abbrev pub store_of : SPPstore → Table
store_of s = table s.nodes.now s.count

abbrev pub view_of : SPPview → Table
view_of s = table s.nodes.now s.count

-- t is s after a call: on the same words, as many, for as many fields
pub record SameStore (s t : SPPstore) : Type 0 where
  pub nodes : SameSlice s.nodes t.nodes
  pub fields : t.fields ≡ s.fields

-- a handle and the store at exit; or refusal 21
abbrev pub seen : Result SPP Full → Table → Outcome Table ℕ
seen (Ok h) τ = given τ h.0
seen (Err e) τ = refused 21

abbrev pub op_of : Op → M.Op
op_of Union = M.union
op_of Intersect = M.intersect
op_of Xor = M.xor
op_of Difference = M.difference
op_of Not = M.not

abbrev pub exit_of : Quick → M.Exit
exit_of (Out h) = M.out h.0
exit_of (On o x y) = M.on (op_of o) x.0 y.0

abbrev pub quad_of : SPPnode → Quad
quad_of x = quad x.x00.0 x.x01.0 x.x10.0 x.x11.0

-- the entries of `assign` and of `test`
abbrev pub entry_of : Bool → Bool → ℕ → ℕ → Quad
entry_of true = M.assign_entry
entry_of false = M.test_entry

abbrev pub seen_start : Result Constants Full → Table → Outcome Table M.Constants
seen_start (Ok c) τ = given τ (record { zero = c.zero.0; one = c.one.0; top = c.top.0 })
seen_start (Err e) τ = refused 21

abbrev pub beside : Bool → ℕ → ℕ → ℕ
beside true x z = z
beside false x z = x

-- the constants of depth 1 to d, from x at depth 0: zeros, ones and tops are three of these
unfoldable pub columns : ℕ → Bool → ℕ → ℕ → Step Table ℕ
columns N diagonal x zero = return x
columns N diagonal x (suc d) = columns N diagonal x d >>= λ y. M.mk (quad y (beside diagonal y (M.zero_at N d)) (beside diagonal y (M.zero_at N d)) y)

-- what a search and a new node ask of a table
pub record Fits (t : List ℕ) (n : ℕ) : Type 0 where
  pub fits : 4 * n ≤ length t
  pub small : n ≤ cap
  pub rising : Rising t n

-- r is the first node that can have the children X
pub record First (X : Quad) (r : ℕ) : Type 0 where
  pub after : (i j : Bool) → X i j < r + 2
  pub before : (k : ℕ) → k < r → (i : Bool) × (j : Bool) × (k + 2 ≤ X i j)

-- d constants above the handle base, where a diagonal has the zeros beside it
pub record ColumnAsked (σ : Table) (diagonal : Bool) (base d : ℕ) : Type 0 where
  pub deep : d ≤ 31
  pub fits : Fits σ.words σ.count
  pub base_in : base < σ.count + 2
  pub zeros_in : diagonal ≡ true → d ≤ σ.count

-- a diagram of depth d with an entry at field f
pub record FieldAsked (N : ℕ) (σ : Table) (d f : ℕ) : Type 0 where
  pub few : N ≤ 31
  pub deep : d ≤ N
  pub below : f < d
  pub wf : Wf N σ

-- all of hs are handles of depth d
abbrev pub AllValidAt : Table → ℕ → List ℕ → Type 0
AllValidAt σ d [] = Unit
AllValidAt σ d (h ∷ hs) = ValidAt σ d h × AllValidAt σ d hs

-- what an operation on the relations hs of depth d asks, with N fields, the nodes σ and the cache m
pub record Asked (N d : ℕ) (σ : Table) (m : List ℕ) (hs : List ℕ) : Type 0 where
  pub few : N ≤ 31
  pub deep : d ≤ N
  pub wf : Wf N σ
  pub at : AllValidAt σ d hs
  pub sound : Sound (OnCodes 3 9 (Kept N σ)) m

-- what is noted in the cache, unless refused
abbrev pub Noted : {A : Type 0} → ℕ → List ℕ → Outcome Table A → List ℕ → Type 0
Noted N m (given τ a) m' = WritesValid (OnlyCodes 3 9 (Kept N τ)) m m'
Noted N m (refused number) m' = Unit

-- the answer r, seen with the store at exit, is what the steps c come to from σ, and all that is noted is right
pub record Answer {R A : Type 0} (N : ℕ) (see : R → Table → Outcome Table A) (c : Step Table A) (σ : Table) (m : List ℕ) (r : R) (τ : Table) (m' : List ℕ) : Type 0 where
  pub gives : c σ ≡ see r τ
  pub notes : Noted N m (see r τ) m'
