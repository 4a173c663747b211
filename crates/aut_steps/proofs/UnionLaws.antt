-- mk_union_n and mk_union: the state holds the strings of some of those that are given (01, "Strings").
use Rattle.std.specs.Prelude.{if◌then◌else◌}
use mathlib.Core.Path.{◌≡◌, refl, sym, ◌∙◌, ap, subst}
use mathlib.Core.Bool.{Bool, true, false, not, ◌||◌}
use mathlib.Core.List.{List, [], ◌∷◌, ◌++◌}
use mathlib.Core.Logic.{◌↔◌, ◌≢◌, ◌⊎◌, inl, inr}
use Prim.Native.Nat.{ℕ, ◌+◌, ◌≤◌, ◌<◌}
use native.Mathlib.Omega.{arith}
use lib.Dec.{T, eqb, ltb, leb}
use lib.ListN.{length, get_or, length-append}
use borrow.Author.Tests.{eqb-true, eqb-false, eq-eqb, ltb-true, leb-true, leb-false}
use Rattle.common.specs.Packets.{Packet}
use Rattle.common.specs.Outcome.{Outcome, refused, given}
use Rattle.common.specs.Runs.{Table, placed}
use Rattle.netkat.specs.Strings.{Str}
use Rattle.netkat.specs.Rules.{Rule, Rules, Language, union}
use Rattle.spp_steps.specs.Wf.{ValidAt}
use Rattle.spp_steps.proofs.Laws.{den_mem, den_zero}
use Rattle.aut_steps.specs.Relations as Spp
use Rattle.aut_steps.specs.Tables.{SPP, UNION, TOP, kind_of, op1, Limits, exprs, Aut, put_nodes, put_states, put_exprs, on_nodes, on_states, on_exprs}
use Rattle.aut_steps.specs.Lists.{sorted}
use Rattle.aut_steps.specs.Constructors.{opened, extend, Within, within, beyond, Opened, list, top, long, then_open, open_union, each, mk_spp, Parts, parts, unite_one, add_relation, finish, unite, unite_opened, mk_union_n, relations, mk_union}
use Rattle.aut_steps.specs.Kinds.{Form, many, form}
use Rattle.aut_steps.specs.Ascending.{All, Increasing}
use Rattle.aut_steps.proofs.ListLaws.{one_if, Some, all_map, all_append, some_left, some_right, some_split, some_with, some_map, all_with, st_singleton, all_sorted, some_sorted, sorted_length, sorted_rising}
use Rattle.aut_steps.specs.Made.{IsRelation, Part, Summands}
use Rattle.aut_steps.proofs.MadeLaws.{made_union}
use Rattle.aut_steps.specs.Languages.{◌≈◌}
use Rattle.aut_steps.proofs.Languages.{◌so◌, back, same, sum_same, sum_assoc, sum_swap, sum_none, none_sum, sum_turn, ≈-sym, ◌then◌, Rel, None, Either, either_rel, rel_same}
use Rattle.aut_steps.proofs.RelationLaws.{Makes, union_made}
use Rattle.aut_steps.specs.Wf.{states, kind, first, members, ExtAut, Ok, WfAut}
use Rattle.aut_steps.proofs.Wf.{kind_grown, first_grown, state_grown, states_grown, ok_as}
use Rattle.aut_steps.proofs.StepSpec.{long_list, StepSpec, stops_here, goes_return, goes_bind, goes_map, choose, branch_in, nodes_after, placed_map}
use Rattle.aut_steps.proofs.InternLaws.{intern_l_goes}
use Rattle.aut_steps.specs.Meaning.{Holds}
use Rattle.aut_steps.proofs.Meaning.{HoldsSome, HoldsAll, Is, is_same, holds_grown, holds_spp, holds_top, holds_union}
use Rattle.aut_steps.proofs.StateLaws.{nodes_goes, handle, spp_state, zero_goes, mk_top_goes, spp_of_goes, both_spp}

-- st reads the kind and the first operand of x as σ does
pub record Alike (st : List ℕ) (σ : Aut) (x : ℕ) : Type 0 where
  pub state : x < states σ
  pub kind_is : kind_of st x ≡ kind σ x
  pub first_is : op1 st x ≡ first σ x

pub alike_grown : (st : List ℕ) {σ τ : Aut} → ExtAut σ τ → (xs : List ℕ) → All (Alike st σ) xs → All (Alike st τ) xs
alike_grown st g xs a = all_map xs (λ x r. record {
  state = state_grown g r.state;
  kind_is = r.kind_is ∙ sym (kind_grown g x r.state);
  first_is = r.first_is ∙ sym (first_grown g x r.state);
}) a

pub alike_self : (σ : Aut) (xs : List ℕ) → All (λ x. x < states σ) xs → All (Alike σ.states.words σ) xs
alike_self σ xs a = all_map xs (λ x l. record { state = l; kind_is = refl; first_is = refl }) a

-- what holds of the kinds of some states
pub kinds_grown : {σ τ : Aut} → ExtAut σ τ → (P : ℕ → Type 0) (xs : List ℕ) → All (λ x. x < states σ) xs → All (λ x. P (kind σ x)) xs → All (λ x. P (kind τ x)) xs
kinds_grown w P xs a b = all_with xs (λ x l p. subst P (sym (kind_grown w x l)) p) a b

-- the kind of a member that is left of a Union's list when it is opened
abbrev Bare : ℕ → Type 0
Bare j = (j ≢ UNION) × (j ≢ TOP)

-- the kind of a member that is left of a list of kind k when the list is opened and Top and relations are taken out
abbrev pub Plain : ℕ → ℕ → Type 0
Plain k j = (j ≢ SPP) × (j ≢ k) × (j ≢ TOP)

pub plain_parts : (N : ℕ) (st : List ℕ) (k : ℕ) (xs : List ℕ) → All (λ x. Plain k (kind_of st x)) xs → All (Part N st k) xs
plain_parts N st k xs a = all_map xs (λ x (p, q, r). record { other = q; no_top = r; no_zero = λ (e, z). p e }) a

-- and the state of the relations, if it is not zero
pub relation_part : (N : ℕ) (st : List ℕ) (k x h : ℕ) → k ≢ SPP → IsRelation st x h → h ≢ Spp.zero_at N → Part N st k x
relation_part N st k x h d (e, f) n = record { other = λ q. d (sym q ∙ e); no_top = λ q. omega (arith, q, e); no_zero = λ (q, z). n (sym f ∙ z) }

-- a longer list, or none
pub data Extended (most : ℕ) (zs : List ℕ) : Within (List ℕ) → Type 0 where
  fits : length zs ≤ most → Extended most zs (within zs)
  passes : most < length zs → Extended most zs beyond

pub extended : (most : ℕ) (acc ys : List ℕ) → Extended most (acc ++ ys) (extend most acc ys)
unfolding extend
extended most acc ys = go (leb (length acc + length ys) most) refl
  where
    go : (b : Bool) → leb (length acc + length ys) most ≡ b → Extended most (acc ++ ys) (if b then within (acc ++ ys) else beyond)
    go true e = fits (omega (arith, leb-true (length acc + length ys) most e, length-append acc ys))
    go false e = passes (omega (arith, leb-false (length acc + length ys) most e, length-append acc ys))

module _ {N : ℕ} {L : Limits} {σ : Aut} (g : WfAut N L σ) where
  pub some_grown : {τ : Aut} → ExtAut σ τ → (xs : List ℕ) → All (λ x. x < states σ) xs → HoldsSome N τ xs ≈ HoldsSome N σ xs
  some_grown w xs a u = (some_with xs (λ x l h. (holds_grown g w l u).0 h) a, some_with xs (λ x l h. (holds_grown g w l u).1 h) a)

  pub all_grown : {τ : Aut} → ExtAut σ τ → (xs : List ℕ) → All (λ x. x < states σ) xs → HoldsAll N τ xs ≈ HoldsAll N σ xs
  all_grown w xs a u = (all_with xs (λ x l h. (holds_grown g w l u).0 h) a, all_with xs (λ x l h. (holds_grown g w l u).1 h) a)

  -- ---- opening

  pub opened_states : (k : ℕ) (c : Rules N → Rule N) → form {N = N} k ≡ many c → (x : ℕ) → x < states σ → All (λ y. y < states σ) (opened k σ.states.words σ.members.words x)
  unfolding opened
  opened_states k c q x l = go (eqb (kind σ x) k) refl
    where
      go : (b : Bool) → eqb (kind σ x) k ≡ b → All (λ y. y < states σ) (if b then members σ x else x ∷ [])
      go true e =
          all_map (members σ x) (λ y m. omega arith)
          (subst (λ (f : Form N). Ok f σ x) q (ok_as g k l (eqb-true (kind σ x) k e))).earlier
      go false e = (l, tt)

  opened_some : (x : ℕ) → x < states σ → HoldsSome N σ (opened UNION σ.states.words σ.members.words x) ≈ Holds N σ x
  unfolding opened
  opened_some x l = go (eqb (kind σ x) UNION) refl
    where
      alone : Holds N σ x ≈ HoldsSome N σ (x ∷ [])
      alone u = (inl, back u)
        where
          back : (u : _) → Holds N σ x u ⊎ ⊥ → Holds N σ x u
          back u (inl a) = a
          back u (inr a) = absurd a

      go : (b : Bool) → eqb (kind σ x) UNION ≡ b → HoldsSome N σ (if b then members σ x else x ∷ []) ≈ Holds N σ x
      go true e = ≈-sym (holds_union g l (eqb-true (kind σ x) UNION e))
      go false e = ≈-sym alone

  pub some_append : (xs ys : List ℕ) → HoldsSome N σ (xs ++ ys) ≈ Either (HoldsSome N σ xs) (HoldsSome N σ ys)
  some_append xs ys u = (some_split (λ x. Holds N σ x u) xs ys, join)
    where
      join : HoldsSome N σ xs u ⊎ HoldsSome N σ ys u → HoldsSome N σ (xs ++ ys) u
      join (inl a) = some_left (λ x. Holds N σ x u) xs ys a
      join (inr a) = some_right (λ x. Holds N σ x u) xs ys a

  opened_bare : (x : ℕ) → x < states σ → kind σ x ≢ TOP → All (λ y. Bare (kind σ y)) (opened UNION σ.states.words σ.members.words x)
  unfolding opened
  opened_bare x l n = go (eqb (kind σ x) UNION) refl
    where
      go : (b : Bool) → eqb (kind σ x) UNION ≡ b → All (λ y. Bare (kind σ y)) (if b then members σ x else x ∷ [])
      go true e = all_map (members σ x) (λ y p. (p.other, p.no_top)) ((g.made x l).union (eqb-true (kind σ x) UNION e)).parts
      go false e = ((eqb-false (kind σ x) UNION e, n), tt)

  -- what opening comes to: the members of the list, or Top among those given
  abbrev Opens : ℕ → List ℕ → List ℕ → Opened → Type 0
  Opens most xs acc (list ys) = All (λ y. y < states σ) ys × All (λ y. Bare (kind σ y)) ys × (length ys ≤ most) × (HoldsSome N σ ys ≈ Either (HoldsSome N σ acc) (HoldsSome N σ xs))
  Opens most xs acc top = Some (λ x. (x < states σ) × (kind σ x ≡ TOP)) xs
  Opens most xs acc long = (zs : List ℕ) × All (λ z. z < states σ) zs × (most < length zs)

  opens_more : (most x : ℕ) (xs acc acc' : List ℕ) → HoldsSome N σ acc' ≈ Either (HoldsSome N σ acc) (Holds N σ x) → (o : Opened) → Opens most xs acc' o → Opens most (x ∷ xs) acc o
  opens_more most x xs acc acc' e (list ys) (a, b, l, f) = (a, b, l, λ u. f u so sum_same (e u) same so back sum_assoc)
  opens_more most x xs acc acc' e top o = inr o
  opens_more most x xs acc acc' e long o = o

  open_union_lem : (most : ℕ) (xs acc : List ℕ) → All (λ x. x < states σ) xs → All (λ x. x < states σ) acc → All (λ y. Bare (kind σ y)) acc → length acc ≤ most
      → Opens most xs acc (open_union most σ.states.words σ.members.words xs acc)
  unfolding open_union form
  open_union_lem most [] acc a b d l = (b, d, l, λ u. back sum_none)
  open_union_lem most (x ∷ xs) acc a b d l = at_top (λ acc' c e k. open_union_lem most xs acc' a.1 c e k) (eqb (kind σ x) TOP) refl
    where
      ys : List ℕ
      ys = opened UNION σ.states.words σ.members.words x

      all : All (λ x. x < states σ) (acc ++ ys)
      all = all_append (λ x. x < states σ) acc ys b (opened_states UNION union refl x a.0)

      at_room : ((acc' : List ℕ) → All (λ x. x < states σ) acc' → All (λ y. Bare (kind σ y)) acc' → length acc' ≤ most → Opens most xs acc' (open_union most σ.states.words σ.members.words xs acc'))
          → kind σ x ≢ TOP → {o : Within (List ℕ)} → Extended most (acc ++ ys) o → Opens most (x ∷ xs) acc (then_open o (open_union most σ.states.words σ.members.words xs))
      at_room ih n (fits k) =
          opens_more most x xs acc (acc ++ ys) (λ u. some_append acc ys u so sum_same same (opened_some x a.0 u))
          (open_union most σ.states.words σ.members.words xs (acc ++ ys))
          (ih (acc ++ ys) all (all_append (λ y. Bare (kind σ y)) acc ys d (opened_bare x a.0 n)) k)
      at_room ih n (passes k) = (acc ++ ys, all, k)

      at_top : ((acc' : List ℕ) → All (λ x. x < states σ) acc' → All (λ y. Bare (kind σ y)) acc' → length acc' ≤ most → Opens most xs acc' (open_union most σ.states.words σ.members.words xs acc'))
          → (c : Bool) → eqb (kind σ x) TOP ≡ c → Opens most (x ∷ xs) acc (if c then top else then_open (extend most acc ys) (open_union most σ.states.words σ.members.words xs))
      at_top ih true e = inl (a.0, eqb-true (kind σ x) TOP e)
      at_top ih false e = at_room ih (eqb-false (kind σ x) TOP e) (extended most acc ys)

-- ---- the relations united, and the other members

pub record PartsOk (N : ℕ) (τ : Aut) (p : Parts) : Type 0 where
  pub handle : ValidAt τ.nodes N p.relation
  pub others : All (λ x. x < states τ) p.others
  pub plain : All (λ x. Plain UNION (kind τ x)) p.others

abbrev Sum : (N : ℕ) → Aut → Parts → Language N
Sum N τ p = Either (Rel (Spp.pairs N τ.nodes p.relation)) (HoldsSome N τ p.others)

-- how many members that makes: the others, and the relation unless it is zero
abbrev size : ℕ → Parts → ℕ
size N p = length p.others + one_if (not (eqb p.relation (Spp.zero_at N)))

pub at_most_one : (b : Bool) → one_if b ≤ 1
at_most_one true = omega arith
at_most_one false = omega arith

-- p and the members xs of σ have become p'
record Gathered (N : ℕ) (σ : Aut) (xs : List ℕ) (p : Parts) (τ : Aut) (p' : Parts) : Type 0 where
  ok : PartsOk N τ p'
  few : size N p' ≤ size N p + length xs
  strings : Sum N τ p' ≈ Either (Sum N σ p) (HoldsSome N σ xs)

module _ {N : ℕ} {L : Limits} where
  unite_one_lem : {σ : Aut} → WfAut N L σ → (st : List ℕ) (x : ℕ) → Alike st σ x → Bare (kind σ x) → (p : Parts) → PartsOk N σ p → StepSpec N L (Gathered N σ (x ∷ []) p) σ (on_nodes (unite_one N st x p) σ)
  unfolding unite_one
  unite_one_lem {σ} g st x r b p o =
      branch_in put_nodes σ (eqb (kind_of st x) SPP) _ _ σ.nodes
      (λ q. let e : kind σ x ≡ SPP = sym r.kind_is ∙ eqb-true (kind_of st x) SPP q in
      placed_map put_nodes σ (Spp.union N p.relation (op1 st x) σ.nodes) (λ h. parts h p.others)
      (nodes_goes g (subst (λ (h : ℕ). Makes N (λ a b. Spp.pairs N σ.nodes p.relation a b || Spp.pairs N σ.nodes (first σ x) a b) σ.nodes (Spp.union N p.relation h σ.nodes)) (sym r.first_is)
      (union_made N σ.nodes g.nodes p.relation (first σ x) o.handle (handle g r.state e))))
      (λ τ h w v d. record {
        ok = record { handle = d.at; others = states_grown w p.others o.others; plain = kinds_grown w (Plain UNION) p.others o.others o.plain };
        few = omega (arith, at_most_one (not (eqb h (Spp.zero_at N))));
        strings = λ u.
            sum_same
            (rel_same d.means u so back (either_rel (Spp.pairs N σ.nodes p.relation) (Spp.pairs N σ.nodes (first σ x)) u) so sum_same same (back (holds_spp g r.state e u)))
            (some_grown g w p.others o.others u)
            so sum_swap so sum_same same (back sum_none);
      }))
      (λ n. goes_return (parts p.relation (p.others ++ x ∷ [])) g (record {
        ok = record {
          handle = o.handle;
          others = all_append (λ y. y < states σ) p.others (x ∷ []) o.others (r.state, tt);
          plain = all_append (λ y. Plain UNION (kind σ y)) p.others (x ∷ []) o.plain ((λ e. eqb-false (kind_of st x) SPP n (r.kind_is ∙ e), b.0, b.1), tt);
        };
        few = omega (arith, length-append p.others (x ∷ []));
        strings = λ u. sum_same same (some_append g p.others (x ∷ []) u) so sum_assoc;
      }))

  unite_each : {σ : Aut} → WfAut N L σ → (st xs : List ℕ) → All (Alike st σ) xs → All (λ x. Bare (kind σ x)) xs → (p : Parts) → PartsOk N σ p → StepSpec N L (Gathered N σ xs p) σ (on_nodes (each (unite_one N st) xs p) σ)
  unfolding each
  unite_each g st [] r b p o = goes_return p g (record { ok = o; few = omega arith; strings = λ u. back sum_none })
  unite_each {σ} g st (x ∷ xs) r d p o =
      nodes_after σ (unite_one N st x p σ.nodes) (each (unite_one N st) xs)
      (goes_bind (unite_one_lem g st x r.0 d.0 p o) (λ τ p' w v a.
      goes_map (unite_each v st xs (alike_grown st w xs r.1) (kinds_grown w Bare xs (all_map xs (λ y s. s.state) r.1) d.1) p' a.ok) (λ υ p'' w' v' b. record {
        ok = b.ok;
        few = omega (arith, a.few, b.few);
        strings = λ u.
            b.strings u so sum_same (a.strings u) (some_grown g w xs (all_map xs (λ y s. s.state) r.1) u)
            so back sum_assoc so sum_same same (sum_same sum_none same);
      })))

  -- ---- the list's state

  add_relation_lem : {σ : Aut} → WfAut N L σ → (p : Parts) → PartsOk N σ p
      → StepSpec N L (λ τ ys. All (λ y. y < states τ) ys × Summands N τ.states.words ys × (length ys ≤ size N p) × (HoldsSome N τ ys ≈ Sum N σ p)) σ (on_states (add_relation N p) σ)
  unfolding add_relation
  add_relation_lem {σ} g p o =
      branch_in put_states σ (eqb p.relation (Spp.zero_at N)) _ _ σ.states
      (λ q. goes_return p.others g (o.others, record { parts = plain_parts N σ.states.words UNION p.others o.plain; spp = 0; one_spp = no_spp σ 0 p.others o.plain }, omega arith, λ u. back (none_sum (λ (h, t). subst T (zero_none q u.start u.end) t))))
      (λ n. placed_map put_states σ (mk_spp p.relation σ.states) (λ i. p.others ++ i ∷ [])
      (spp_state g (den_mem o.handle))
      (λ τ i w v (s, k). let plain : All (λ y. Plain UNION (kind τ y)) p.others = kinds_grown w (Plain UNION) p.others o.others o.plain in (
        all_append (λ y. y < states τ) p.others (i ∷ []) (states_grown w p.others o.others) (s.state, tt),
        record {
          parts = all_append (Part N τ.states.words UNION) p.others (i ∷ []) (plain_parts N τ.states.words UNION p.others plain)
              (relation_part N τ.states.words UNION i p.relation (λ e. omega arith) k (eqb-false p.relation (Spp.zero_at N) n), tt);
          spp = i;
          one_spp = all_append (λ y. kind τ y ≡ SPP → y ≡ i) p.others (i ∷ []) (no_spp τ i p.others plain) (λ _. refl, tt);
        },
        omega (arith, length-append p.others (i ∷ []), ap (λ b. one_if (not b)) n),
        λ u. some_append v p.others (i ∷ []) u so sum_same (some_grown g w p.others o.others u) (sum_none so s.strings u) so sum_turn,
      )))
    where
      no_spp : (τ : Aut) (i : ℕ) (xs : List ℕ) → All (λ y. Plain UNION (kind τ y)) xs → All (λ y. kind τ y ≡ SPP → y ≡ i) xs
      no_spp τ i xs a = all_map xs (λ y f e. absurd (f.0 e)) a

      zero_none : eqb p.relation (Spp.zero_at N) ≡ true → (a b : Packet N) → Spp.pairs N σ.nodes p.relation a b ≡ false
      zero_none q a b = ap (λ (h : ℕ). Spp.pairs N σ.nodes h a b) (eqb-true p.relation (Spp.zero_at N) q) ∙ (den_zero g.nodes N (omega arith)).means a b

  alone : {σ : Aut} → WfAut N L σ → (xs : List ℕ) → All (λ x. x < states σ) xs → eqb (length xs) 1 ≡ true → StepSpec N L (Is N (HoldsSome N σ xs)) σ (given σ (get_or xs 0 0))
  alone {σ} g xs a q =
      let e : xs ≡ get_or xs 0 0 ∷ [] = st_singleton xs (eqb-true (length xs) 1 q) in
      goes_return (get_or xs 0 0) g (record {
        state = (subst (All (λ x. x < states σ)) e a).0;
        strings = λ u. back sum_none so subst (λ (l : List ℕ). HoldsSome N σ (get_or xs 0 0 ∷ []) u ↔ HoldsSome N σ l u) (sym e) same;
      })

  list_state : {σ : Aut} → WfAut N L σ → (xs : List ℕ) → All (λ x. x < states σ) xs → length xs ≤ L.list → Increasing 0 xs → Summands N σ.states.words xs
      → StepSpec N L (Is N (HoldsSome N σ xs)) σ (on_exprs (finish N L xs) σ)
  unfolding finish form
  list_state {σ} g xs a few r summands =
      branch_in put_exprs σ (eqb (length xs) 1) _ _ (exprs σ.states σ.members)
      (alone g xs a)
      (λ n1. branch_in put_exprs σ (eqb (length xs) 0) _ _ (exprs σ.states σ.members)
      (λ q. subst (StepSpec N L (Is N (HoldsSome N σ xs)) σ) (sym (within_exprs (mk_spp (Spp.zero_at N) σ.states)))
      (goes_map (zero_goes g) (λ τ z w v i. is_same (empty xs (eqb-true (length xs) 0 q)) i)))
      (λ n0. goes_map
      (intern_l_goes g UNION union refl xs a few
      (λ _. record { some = more (length xs) (eqb-false (length xs) 0 n0) (eqb-false (length xs) 1 n1); rising = r })
      (λ e. let z : ◌≡◌ {A = ℕ} 2 3 = e in absurd (omega arith))
      (λ _ _. made_union summands)
      (λ n. refl))
      (λ τ z w v s. record {
        state = s.state;
        strings = λ u. holds_union v s.state s.is.kind u so subst (λ (l : List ℕ). HoldsSome N τ l u ↔ HoldsSome N σ xs u) (sym s.is.list) (some_grown g w xs a u);
      })))
    where
      within_exprs : (o : Outcome Table ℕ) → placed put_exprs σ (placed (λ s τ. exprs s τ.members) (exprs σ.states σ.members) o) ≡ placed put_states σ o
      within_exprs (refused e) = refl
      within_exprs (given t i) = refl

      empty : (l : List ℕ) → length l ≡ 0 → None ≈ HoldsSome N σ l
      empty [] e u = same
      empty (x ∷ l) e u = absurd (omega arith)

      more : (n : ℕ) → (n ≡ 0 → ⊥) → (n ≡ 1 → ⊥) → 2 ≤ n
      more n f h = omega arith

  unite_goes : {σ : Aut} (g : WfAut N L σ) (xs : List ℕ) → All (λ x. x < states σ) xs → All (λ x. Bare (kind σ x)) xs → length xs ≤ L.list → StepSpec N L (Is N (HoldsSome N σ xs)) σ (unite N L xs σ)
  unfolding unite
  unite_goes {σ} g xs a bare few =
      let z = den_zero g.nodes N (omega arith) in
      goes_bind (unite_each g σ.states.words xs (alike_self σ xs a) bare (parts (Spp.zero_at N) []) (record { handle = z.at; others = tt; plain = tt })) (λ τ p w v b.
      goes_bind (add_relation_lem v p b.ok) (λ υ ys w' v' (c, d, l, e).
      goes_map (list_state v' (sorted ys) ((all_sorted (λ y. y < states υ) ys).0 c) (omega (arith, sorted_length ys, b.few, start)) (sorted_rising ys) (sort_summands ys d)) (λ ω i w'' v'' s.
      is_same (λ u. back (some_sorted (λ y. Holds N υ y u) ys) so e u so b.strings u so none_sum (nothing z.means u)) s)))
    where
      sort_summands : {st : List ℕ} (ys : List ℕ) → Summands N st ys → Summands N st (sorted ys)
      sort_summands {st} ys d = record {
        parts = (all_sorted (Part N st UNION) ys).0 d.parts;
        spp = d.spp;
        one_spp = (all_sorted (λ y. kind_of st y ≡ SPP → y ≡ d.spp) ys).0 d.one_spp;
      }

      start : one_if (not (eqb (Spp.zero_at N) (Spp.zero_at N))) ≡ 0
      start = ap (λ b. one_if (not b)) (eq-eqb (Spp.zero_at N) (Spp.zero_at N) refl)

      nothing : ((a b : Packet N) → Spp.pairs N σ.nodes (Spp.zero_at N) a b ≡ false) → (u : Str N) → Sum N σ (parts (Spp.zero_at N) []) u → ⊥
      nothing f u (inl (h, t)) = subst T (f u.start u.end) t
      nothing f u (inr h) = h

  pub mk_union_n_goes : {σ : Aut} → WfAut N L σ → (xs : List ℕ) → All (λ x. x < states σ) xs → StepSpec N L (Is N (HoldsSome N σ xs)) σ (mk_union_n N L xs σ)
  unfolding mk_union_n
  mk_union_n_goes {σ} g xs a =
      choose (ltb L.list (length xs)) (λ q. stops_here g (long_list xs a (ltb-true L.list (length xs) q)))
      (λ _. choose (eqb (length xs) 1)
      (alone g xs a)
      (λ _. go (open_union L.list σ.states.words σ.members.words xs []) (open_union_lem g L.list xs [] a tt tt (omega arith))))
    where
      go : (o : Opened) → Opens g L.list xs [] o → StepSpec N L (Is N (HoldsSome N σ xs)) σ (unite_opened N L o σ)
      go top t = goes_map (mk_top_goes g) (λ τ z w v i. is_same (λ u. (λ _. some_map xs (λ x (l, e). (holds_top g l e u).1 tt) t, λ _. tt)) i)
      go long (zs, c, l) = stops_here g (long_list zs c l)
      go (list ys) (b, d, l, e) = goes_map (unite_goes g ys b d l) (λ τ z w v i. is_same (λ u. e u so none_sum (λ x. x)) i)

  pub mk_union_goes : {σ : Aut} → WfAut N L σ → {x y : ℕ} → x < states σ → y < states σ → StepSpec N L (Is N (Either (Holds N σ x) (Holds N σ y))) σ (mk_union N L x y σ)
  unfolding mk_union
  mk_union_goes {σ} g {x} {y} l m =
      choose (eqb x y)
      (λ q. let e : x ≡ y = eqb-true x y q in goes_return x g (record { state = l; strings = λ u. (inl, fold e u) }))
      (λ _. choose (relations σ.states.words x y)
      (λ q. let (a, b) = both_spp g x y q in
      goes_map (spp_of_goes g (Spp.union N (first σ x) (first σ y)) (union_made N σ.nodes g.nodes (first σ x) (first σ y) (handle g l a) (handle g m b)))
      (λ τ z w v i. is_same (λ u. back (sum_same (holds_spp g l a u) (holds_spp g m b u) so either_rel (Spp.pairs N σ.nodes (first σ x)) (Spp.pairs N σ.nodes (first σ y)) u)) i))
      (λ _. goes_map (mk_union_n_goes g (x ∷ y ∷ []) (l, (m, tt))) (λ τ z w v i. is_same (λ u. sum_same same sum_none) i)))
    where
      fold : x ≡ y → (u : Str N) → Holds N σ x u ⊎ Holds N σ y u → Holds N σ x u
      fold e u (inl h) = h
      fold e u (inr h) = subst (λ (k : ℕ). Holds N σ k u) (sym e) h
