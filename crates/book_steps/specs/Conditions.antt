-- 01: "A number is returned under its condition and under no other." Its condition at every place of the steps where a
-- number arises, in both directions. 4 and 5 are met when a line is read. (1, 2, 3, 26, 27, the header's 20 and 21:
-- Claim.)
use Rattle.std.specs.Prelude.{◌≡◌, ◌↔◌, ◌⊎◌, Bool, true, false, ℕ, ◌+◌, ◌*◌, ◌/◌, ◌%◌, max, min, ◌≤◌, ◌<◌, eqb, length, get_or, if◌then◌else◌}
use mathlib.Core.List.{List, [], ◌∷◌, ◌++◌, Memᴰ}
use Rattle.std.proofs.Math.Option.{Option, none}
use Rattle.common.specs.Packets.{any}
use Rattle.common.specs.Outcome.{refused, given, return, ◌>>=◌}
use Rattle.common.specs.Runs.{Table}
use Rattle.netkat_steps.specs.ListSteps.{Edge, enter_in}
use Rattle.netkat_steps.specs.Handles as Handles
use Rattle.netkat_steps.specs.Handles.{Entry}
use Rattle.sp_steps.specs.Model as Sp
use Rattle.sp_steps.specs.Make as SpMake
use Rattle.sp_steps.specs.Word.{flip}
use Rattle.spp_steps.specs.Model as Spp
use Rattle.spp_steps.specs.Make as SppMake
use Rattle.aut_steps.specs.Tables.{UNION, INTERSECT, TOP, kind_of, op2, nest, Limits, Exprs, Aut}
use Rattle.aut_steps.specs.Intern.{seek, same2, same_l, nest_l, put, put_l, intern1, intern2, intern_l}
use Rattle.aut_steps.specs.Constructors as C
use Rattle.aut_steps.specs.Constructors.{within, beyond, opened, open_all, count_all, sizes, bases, mk_union_n}
use Rattle.book_construct_steps.specs.Lines.{Bit}
use Rattle.aut_st_steps.specs.Operations.{ops}
use Rattle.aut_delta_steps.specs.Delta.{start_of, count_of, Store, list_at, keep_list}
use Rattle.aut_query_steps.specs.Tables.{Tables}
use Rattle.aut_query_steps.specs.Search.{machine}
use Rattle.aut_query_steps.specs.Live.{found, Work, enqueue, explore, settled, enlarge, live_sets}
use Rattle.aut_why_steps.specs.Why.{why}
use Rattle.book_steps.specs.Reader as Reader
use Rattle.book_steps.specs.Reader.{Instruction, refuses, resolve}

-- ---- a line that is read

-- "4 a named line is not an earlier constructor line": the lines that a line names; one stands for no state
abbrev pub named : Instruction → List ℕ
named (Reader.constant w) = []
named (Reader.bit w f v) = []
named (Reader.single w a) = a ∷ []
named (Reader.pair w a b) = a ∷ b ∷ []
named (Reader.listed w l) = l
named (Reader.query q a) = a ∷ []

abbrev pub Misnamed : List (Option ℕ) → Instruction → Type 0
Misnamed lines s = (a : ℕ) × Memᴰ a (named s) × (get_or lines a none ≡ none)

-- "5 f is N or more, or v above 1"
abbrev pub OutOfRange : ℕ → Instruction → Type 0
OutOfRange N s = (w : Bit) × (f : ℕ) × (v : ℕ) × (s ≡ Reader.bit w f v) × ((N ≤ f) ⊎ (1 < v))

pub record ReadSpec (N : ℕ) (lines : List (Option ℕ)) (s : Instruction) : Type 0 where
  pub four : (resolve N lines s ≡ refuses 4) ↔ Misnamed lines s
  pub five : (resolve N lines s ≡ refuses 5) ↔ OutOfRange N s
  pub other : (number : ℕ) → resolve N lines s ≡ refuses number → (number ≡ 4) ⊎ (number ≡ 5)

-- ---- what the conditions speak of

-- the members that a list is opened to, as many as they are; of a union's list only those before Top
abbrev pub opens : (k : ℕ) → (st m xs : List ℕ) → ℕ
opens k st m [] = 0
opens k st m (x ∷ xs) = length (opened k st m x) + opens k st m xs

abbrev pub before_top : (st xs : List ℕ) → List ℕ
before_top st [] = []
before_top st (x ∷ xs) = if eqb (kind_of st x) TOP then [] else (x ∷ before_top st xs)

-- the targets of a list that are not yet among the states seen, each once
abbrev pub unseen : (seen : List ℕ) → List Edge → List ℕ
unseen seen [] = []
unseen seen (e ∷ es) =
    if any (eqb e.target) seen then unseen seen es else (e.target ∷ unseen (seen ++ e.target ∷ []) es)

-- "Capacity is whole records, at most ..": a table of `size` words a record lacks `more` records
abbrev pub Lacks : (size most : ℕ) → Table → (more : ℕ) → Type 0
Lacks size most t more = (length t.words / size < t.count + more) ⊎ (most < t.count + more)

-- no state i of n is as `f` asks: a state to be made is new
abbrev pub New : (ℕ → Bool) → ℕ → Type 0
New f n = (i : ℕ) → i < n → f i ≡ false

-- ---- the steps

pub record Conditions (N : ℕ) (L : Limits) : Type 0 where
  -- "6 a given or opened list passes 64 members"; "A given list above 64 meets 6 before any member is opened. Members
  -- are then opened one by one, so Top met before an opened member 65 wins." Of an intersection: the given list, the
  -- opened one, that of a product (`_base`), the list of the products' states.
  pub union_list : (xs : List ℕ) (σ : Aut) → let st : List ℕ = σ.states.words in (mk_union_n N L xs σ ≡ refused 6)
      ↔ ((L.list < length xs)
      ⊎ ((¬ (length xs ≡ 1)) × (L.list < opens UNION st σ.members.words (before_top st xs))))
  pub base_list : (xs : List ℕ) (σ : Aut) → (C.mk_intersect_n_base N L xs σ ≡ refused 6)
      ↔ (L.list < opens INTERSECT σ.states.words σ.members.words xs)
  pub intersect_list : (xs : List ℕ) (σ : Aut)
      → let st : List ℕ = σ.states.words in let m : List ℕ = σ.members.words in
      (C.mk_intersect_n N L xs σ ≡ refused 6) ↔ ((L.list < length xs) ⊎ ((length xs ≤ L.list) × (¬ (length xs ≡ 1))
      × ((L.list < opens INTERSECT st m xs) ⊎ ((ys : List ℕ) × (n : ℕ) × (open_all L.list st m xs [] ≡ within ys)
      × (count_all L.products st ys 1 ≡ within n) × ((bases N L ys 0 n [] >>= mk_union_n N L) σ ≡ refused 6)))))
  -- "7 intersecting over unions passes 32 products": of the opened list, whose unions have members
  pub products : (xs : List ℕ) (σ : Aut) → let st : List ℕ = σ.states.words in (C.mk_intersect_n N L xs σ ≡ refused 7)
      ↔ ((length xs ≤ L.list) × (¬ (length xs ≡ 1)) × ((ys : List ℕ)
      × (open_all L.list st σ.members.words xs [] ≡ within ys) × (count_all L.products st ys 1 ≡ beyond)))
  pub counted : (st xs : List ℕ) → 1 ≤ L.products → ((x : ℕ) → Memᴰ x xs → kind_of st x ≡ UNION → 0 < op2 st x)
      → (count_all L.products st xs 1 ≡ beyond) ↔ (L.products < sizes st xs)
  -- "8 a state to be made is nested above 256 (256 is made)"; "A new state meets 8, 23, 22."
  pub deep_one : (k x : ℕ) (s : Table) → (intern1 L k x s ≡ refused 8)
      ↔ (New (same2 s.words k x 0) s.count × (L.nesting < nest s.words x + 1))
  pub deep_two : (k x y : ℕ) (s : Table) → (intern2 L k x y s ≡ refused 8)
      ↔ (New (same2 s.words k x y) s.count × (L.nesting < max (nest s.words x) (nest s.words y) + 1))
  pub deep_list : (k : ℕ) (xs : List ℕ) (τ : Exprs) → (intern_l L k xs τ ≡ refused 8)
      ↔ (New (same_l τ.states.words τ.members.words k xs) τ.states.count
      × (L.nesting < nest_l τ.states.words 0 xs + 1))
  pub no_members : (k : ℕ) (xs : List ℕ) (e : ℕ) (τ : Exprs)
      → (put_l k xs e τ ≡ refused 23) ↔ Lacks 1 16777216 τ.members (length xs)
  pub no_state : (k x y e : ℕ) (s : Table) → (put k x y e s ≡ refused 22) ↔ Lacks 12 32768 s 1
  -- "9 a transition list, intermediate ones included, passes 64"
  pub full_list : (s l : ℕ) (es : List Edge) (σ : Aut)
      → (enter_in (ops N L) s l es σ ≡ refused 9) ↔ (L.transitions < length es + 1)
  -- "20 packet nodes, 21 relation nodes": a node that is not there
  pub no_set : (x y : ℕ) (t : Table) → (Sp.mk x y t ≡ refused 20)
      ↔ (SpMake.Missing t (flip (x % 2) x) (flip (x % 2) y) × Lacks 2 16777216 t 1)
  pub no_relation : (X : Spp.Quad) (t : Table)
      → (Spp.mk X t ≡ refused 21) ↔ (SppMake.Missing X t × Lacks 4 16777216 t 1)
  -- "24 pending": an entry in the search; of `live_packets` the first one, `states`, and `todo` where a set grew
  pub no_pair : (entries s x : ℕ) (pending : List (Entry ℕ)) (σ : Tables)
      → (Handles.put (machine N L entries) s x pending σ ≡ refused 24) ↔ (min entries 16777216 < length pending + 1)
  pub no_first : (entries x : ℕ) (σ : Tables) → min entries 16777216 < 1 → live_sets N L entries x σ ≡ refused 24
  pub first : (entries x : ℕ) (σ : Tables) → 1 ≤ min entries 16777216 → live_sets N L entries x σ
      ≡ (explore N L entries (min entries 16777216) [] (x ∷ []) (λ t. Sp.zero_at N) >>= λ f.
      settled N L entries f >>= λ live. return (found f.states live)) σ
  pub no_found : (room : ℕ) (es : List Edge) (visited waiting : List ℕ) (σ : Tables)
      → length (visited ++ waiting) ≤ room → (enqueue room es visited waiting σ ≡ refused 24)
      ↔ (room < length (visited ++ waiting) + length (unseen (visited ++ waiting) es))
  pub no_todo : (room s combined : ℕ) (w : Work) (σ : Tables) → (enlarge room s combined w σ ≡ refused 24)
      ↔ ((¬ (combined ≡ w.live s)) × (room < length w.todo + 1))
  -- "25 transitions": the whole list; "A finished list is stored after those already there"
  pub no_transitions : (x : ℕ) (es : List Edge) (σ : Store)
      → (keep_list x es σ ≡ refused 25) ↔ Lacks 2 16777216 σ.transitions (length es)
  pub stored : (x : ℕ) (es : List Edge) (σ τ : Store) → 12 * x + 6 < length σ.aut.states.words
      → keep_list x es σ ≡ given τ es → (start_of τ.aut.states.words x ≡ σ.transitions.count)
      × (count_of τ.aut.states.words x ≡ length es + 1) × (list_at τ x ≡ es)
  -- 02 (i): "beyond what these `live a` steps meet, only 20 and 27 can stop it" (27: RunSpec)
  pub why_stops : (entries x : ℕ) (σ : Tables) (number : ℕ) → why N L entries x σ ≡ refused number
      → (live_sets N L entries x σ ≡ refused number) ⊎ (number ≡ 20)
