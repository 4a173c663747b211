-- mk_intersect_n_base, mk_intersect_n and mk_intersect: the state holds the strings of all those that are given (01, "Strings").
use Rattle.std.specs.Prelude.{if◌then◌else◌}
use mathlib.Core.Path.{◌≡◌, refl, sym, ◌∙◌, ap, subst}
use mathlib.Core.Bool.{Bool, true, false, ◌&&◌}
use mathlib.Core.List.{List, [], ◌∷◌, ◌++◌, append-nil}
use mathlib.Core.Logic.{◌↔◌, ◌≢◌, ◌⊎◌, inl, inr}
use Prim.Native.Nat.{ℕ, zero, suc, ◌+◌, ◌≤◌, ◌<◌}
use native.Mathlib.Omega.{arith}
use native.Mathlib.Nat.{one-mul}
use lib.Dec.{T, eqb, ltb, leb}
use lib.ListN.{length, get_or, length-append}
use borrow.Author.Tests.{eqb-true, eqb-false, eq-eqb, ltb-true, leb-true, leb-false}
use Rattle.common.specs.Packets.{Packet, Relation}
use Rattle.common.specs.Outcome.{return, ◌>>=◌}
use Rattle.common.specs.Runs.{placed}
use Rattle.netkat.specs.Strings.{Str}
use Rattle.netkat.specs.Rules.{Language, intersection}
use Rattle.spp_steps.specs.Wf.{ValidAt}
use Rattle.spp_steps.proofs.Laws.{den_mem, den_zero, den_top, by_test}
use Rattle.aut_steps.specs.Relations as Spp
use Rattle.aut_steps.specs.Tables.{SPP, INTERSECT, TOP, kind_of, op1, Limits, Aut, put_nodes, put_states, on_nodes, on_states}
use Rattle.aut_steps.specs.Lists.{sorted}
use Rattle.aut_steps.specs.Constructors.{sizes, opened, Within, within, beyond, then_within, open_all, each, mk_spp, mk_top, Met, met, meet_one, add_last, meet_finish, meet, meet_opened, mk_intersect_n_base, count_all, product, base, bases, distribute, intersect_opened, mk_intersect_n, relations, mk_intersect}
use Rattle.aut_steps.specs.Kinds.{form}
use Rattle.aut_steps.specs.Ascending.{All}
use Rattle.aut_steps.proofs.ListLaws.{one_if, all_map, all_append, all_split, st_singleton, all_sorted, sorted_length, sorted_rising, all_with}
use Rattle.aut_steps.specs.Languages.{◌≈◌}
use Rattle.aut_steps.proofs.Languages.{◌so◌, back, same, sum_same, sum_assoc, sum_none, none_sum, ◌then◌, Rel, Both, both_rel, rel_same}
use Rattle.aut_steps.proofs.RelationLaws.{Makes, intersect_made}
use Rattle.aut_steps.proofs.Facts.{and_true, and_false}
use Rattle.aut_steps.specs.Made.{Part}
use Rattle.aut_steps.proofs.MadeLaws.{made_intersect}
use Rattle.aut_steps.specs.Wf.{states, kind, first, members, ExtAut, Meeting, WfAut}
use Rattle.aut_steps.proofs.Wf.{grown_refl, kind_grown, state_grown, states_grown}
use Rattle.aut_steps.proofs.StepSpec.{long_list, many_products, StepSpec, stops_here, goes_return, goes_bind, goes_map, choose, branch, branch_in, nodes_after, placed_map}
use Rattle.aut_steps.proofs.InternLaws.{intern_l_goes}
use Rattle.aut_steps.specs.Meaning.{Holds}
use Rattle.aut_steps.proofs.Meaning.{HoldsSome, HoldsAll, Is, is_same, holds_spp, holds_top, holds_intersect}
use Rattle.aut_steps.proofs.StateLaws.{nodes_goes, handle, spp_state, mk_spp_goes, zero_goes, mk_top_goes, spp_of_goes, both_spp}
use Rattle.aut_steps.proofs.UnionLaws.{Alike, alike_grown, alike_self, kinds_grown, Plain, plain_parts, relation_part, Extended, fits, passes, extended, all_grown, some_grown, opened_states, some_append, mk_union_n_goes}
use Rattle.aut_steps.proofs.Products.{counted, passed, product_states, in_product, sizes_grown, product_grown}

-- ---- products of types

both_same : {A A' B B' : Type 0} → A ↔ A' → B ↔ B' → (A × B) ↔ (A' × B')
both_same f g = (λ (a, b). (f.0 a, g.0 b), λ (a, b). (f.1 a, g.1 b))

both_assoc : {A B C : Type 0} → (A × (B × C)) ↔ ((A × B) × C)
both_assoc = (λ (a, (b, c)). ((a, b), c), λ ((a, b), c). (a, (b, c)))

both_swap : {A B C : Type 0} → ((A × B) × C) ↔ ((A × C) × B)
both_swap = (λ ((a, b), c). ((a, c), b), λ ((a, c), b). ((a, b), c))

both_turn : {A B : Type 0} → (A × B) ↔ (B × A)
both_turn = (λ (a, b). (b, a), λ (b, a). (a, b))

both_unit : {A : Type 0} → (A × Unit {0}) ↔ A
both_unit = (λ (a, b). a, λ a. (a, tt))

unit_both : {A B : Type 0} → A → (A × B) ↔ B
unit_both a = (λ (x, b). b, λ b. (a, b))

module _ {N : ℕ} {L : Limits} {σ : Aut} (g : WfAut N L σ) where
  -- ---- opening

  opened_all : (x : ℕ) → x < states σ → HoldsAll N σ (opened INTERSECT σ.states.words σ.members.words x) ≈ Holds N σ x
  unfolding opened
  opened_all x l = go (eqb (kind σ x) INTERSECT) refl
    where
      go : (b : Bool) → eqb (kind σ x) INTERSECT ≡ b → HoldsAll N σ (if b then members σ x else x ∷ []) ≈ Holds N σ x
      go true e u = back (holds_intersect g l (eqb-true (kind σ x) INTERSECT e) u)
      go false e u = both_unit

  all_both : (xs ys : List ℕ) (u : Str N) → HoldsAll N σ (xs ++ ys) u ↔ (HoldsAll N σ xs u × HoldsAll N σ ys u)
  all_both xs ys u = (all_split (λ x. Holds N σ x u) xs ys, λ (a, b). all_append (λ x. Holds N σ x u) xs ys a b)

  opened_other : (x : ℕ) → x < states σ → All (λ y. kind σ y ≢ INTERSECT) (opened INTERSECT σ.states.words σ.members.words x)
  unfolding opened
  opened_other x l = go (eqb (kind σ x) INTERSECT) refl
    where
      go : (b : Bool) → eqb (kind σ x) INTERSECT ≡ b → All (λ y. kind σ y ≢ INTERSECT) (if b then members σ x else x ∷ [])
      go true e = all_map (members σ x) (λ y p. p.other) ((g.made x l).intersect (eqb-true (kind σ x) INTERSECT e))
      go false e = (eqb-false (kind σ x) INTERSECT e, tt)

  abbrev Opens : ℕ → List ℕ → List ℕ → Within (List ℕ) → Type 0
  Opens most xs acc (within ys) = All (λ y. y < states σ) ys × All (λ y. kind σ y ≢ INTERSECT) ys × (length ys ≤ most) × (HoldsAll N σ ys ≈ Both (HoldsAll N σ acc) (HoldsAll N σ xs))
  Opens most xs acc beyond = (zs : List ℕ) × All (λ z. z < states σ) zs × (most < length zs)

  opens_more : (most x : ℕ) (xs acc acc' : List ℕ) → HoldsAll N σ acc' ≈ Both (HoldsAll N σ acc) (Holds N σ x) → (o : Within (List ℕ)) → Opens most xs acc' o → Opens most (x ∷ xs) acc o
  opens_more most x xs acc acc' e (within ys) (a, b, l, f) = (a, b, l, λ u. f u so both_same (e u) same so back both_assoc)
  opens_more most x xs acc acc' e beyond o = o

  open_all_lem : (most : ℕ) (xs acc : List ℕ) → All (λ x. x < states σ) xs → All (λ x. x < states σ) acc → All (λ x. kind σ x ≢ INTERSECT) acc → length acc ≤ most
      → Opens most xs acc (open_all most σ.states.words σ.members.words xs acc)
  unfolding open_all form
  open_all_lem most [] acc a b d l = (b, d, l, λ u. back both_unit)
  open_all_lem most (x ∷ xs) acc a b d l = at_room (λ acc' c e k. open_all_lem most xs acc' a.1 c e k) (extended most acc ys)
    where
      ys : List ℕ
      ys = opened INTERSECT σ.states.words σ.members.words x

      all : All (λ x. x < states σ) (acc ++ ys)
      all = all_append (λ x. x < states σ) acc ys b (opened_states g INTERSECT intersection refl x a.0)

      at_room : ((acc' : List ℕ) → All (λ x. x < states σ) acc' → All (λ x. kind σ x ≢ INTERSECT) acc' → length acc' ≤ most → Opens most xs acc' (open_all most σ.states.words σ.members.words xs acc'))
          → {o : Within (List ℕ)} → Extended most (acc ++ ys) o → Opens most (x ∷ xs) acc (then_within o (open_all most σ.states.words σ.members.words xs))
      at_room ih (fits k) =
          opens_more most x xs acc (acc ++ ys) (λ u. all_both acc ys u so both_same same (opened_all x a.0 u))
          (open_all most σ.states.words σ.members.words xs (acc ++ ys))
          (ih (acc ++ ys) all (all_append (λ x. kind σ x ≢ INTERSECT) acc ys d (opened_other x a.0)) k)
      at_room ih (passes k) = (acc ++ ys, all, k)

-- ---- the relations intersected, and the other members

abbrev When : {N : ℕ} → Bool → Language N → Language N
When true A u = A u
When false A u = Unit {0}

record MetOk (N : ℕ) (τ : Aut) (p : Met) : Type 0 where
  handle : ValidAt τ.nodes N p.relation
  others : All (λ x. x < states τ) p.others
  plain : All (λ x. Plain INTERSECT (kind τ x)) p.others
  -- with no relation so far it is the top
  top : p.some ≡ false → (a b : Packet N) → Spp.pairs N τ.nodes p.relation a b ≡ true

abbrev Cut : (N : ℕ) → Aut → Met → Language N
Cut N τ p u = When p.some (Rel (Spp.pairs N τ.nodes p.relation)) u × HoldsAll N τ p.others u

-- how many members that makes: the others, and the relation if there is one
abbrev size : Met → ℕ
size p = length p.others + one_if p.some

record Gathered (N : ℕ) (σ : Aut) (xs : List ℕ) (p : Met) (τ : Aut) (p' : Met) : Type 0 where
  ok : MetOk N τ p'
  few : size p' ≤ size p + length xs
  strings : Cut N τ p' ≈ Both (Cut N σ p) (HoldsAll N σ xs)

-- one more relation
when_rel : {N : ℕ} (b : Bool) (R S : Relation N) → (b ≡ false → (p q : Packet N) → R p q ≡ true) → (u : Str N) → Rel (λ p q. R p q && S p q) u ↔ (When b (Rel R) u × Rel S u)
when_rel true R S f u = back (both_rel R S u)
when_rel false R S f u = rel_same (λ p q. ap (λ (b : Bool). b && S p q) (f refl p q)) u so back (unit_both tt)

module _ {N : ℕ} {L : Limits} where
  meet_one_lem : {σ : Aut} → WfAut N L σ → (st : List ℕ) (x : ℕ) → Alike st σ x → kind σ x ≢ INTERSECT → (p : Met) → MetOk N σ p → StepSpec N L (Gathered N σ (x ∷ []) p) σ (on_nodes (meet_one N st x p) σ)
  unfolding meet_one
  meet_one_lem {σ} g st x r d p o =
      branch_in put_nodes σ (eqb (kind_of st x) TOP) _ _ σ.nodes
      (λ q. let e : kind σ x ≡ TOP = sym r.kind_is ∙ eqb-true (kind_of st x) TOP q in
      goes_return p g (record { ok = o; few = omega arith; strings = λ u. back both_unit so both_same same (back both_unit so both_same (back (holds_top g r.state e u)) same) }))
      (λ t. branch_in put_nodes σ (eqb (kind_of st x) SPP) _ _ σ.nodes
      (λ q. let e : kind σ x ≡ SPP = sym r.kind_is ∙ eqb-true (kind_of st x) SPP q in
      placed_map put_nodes σ (Spp.intersect N p.relation (op1 st x) σ.nodes) (λ h. met true h p.others)
      (nodes_goes g (subst (λ (h : ℕ). Makes N (λ a b. Spp.pairs N σ.nodes p.relation a b && Spp.pairs N σ.nodes (first σ x) a b) σ.nodes (Spp.intersect N p.relation h σ.nodes)) (sym r.first_is)
      (intersect_made N σ.nodes g.nodes p.relation (first σ x) o.handle (handle g r.state e))))
      (λ τ h w v m. record {
        ok = record {
          handle = m.at;
          others = states_grown w p.others o.others;
          plain = kinds_grown w (Plain INTERSECT) p.others o.others o.plain;
          top = λ q. let z : ◌≡◌ {A = ℕ} 0 1 = cc in absurd (omega arith);
        };
        few = omega arith;
        strings = λ u.
            both_same
            (rel_same m.means u so when_rel p.some (Spp.pairs N σ.nodes p.relation) (Spp.pairs N σ.nodes (first σ x)) o.top u so both_same same (back (holds_spp g r.state e u)))
            (all_grown g w p.others o.others u)
            so both_swap so both_same same (back both_unit);
      }))
      (λ n. goes_return (met p.some p.relation (p.others ++ x ∷ [])) g (record {
        ok = record {
          handle = o.handle;
          others = all_append (λ y. y < states σ) p.others (x ∷ []) o.others (r.state, tt);
          plain = all_append (λ y. Plain INTERSECT (kind σ y)) p.others (x ∷ []) o.plain
              ((λ e. eqb-false (kind_of st x) SPP n (r.kind_is ∙ e), d, λ e. eqb-false (kind_of st x) TOP t (r.kind_is ∙ e)), tt);
          top = o.top;
        };
        few = omega (arith, length-append p.others (x ∷ []));
        strings = λ u. both_same same (all_both g p.others (x ∷ []) u) so both_assoc;
      })))

  meet_each : {σ : Aut} → WfAut N L σ → (st xs : List ℕ) → All (Alike st σ) xs → All (λ x. kind σ x ≢ INTERSECT) xs → (p : Met) → MetOk N σ p → StepSpec N L (Gathered N σ xs p) σ (on_nodes (each (meet_one N st) xs p) σ)
  unfolding each
  meet_each g st [] r d p o = goes_return p g (record { ok = o; few = omega arith; strings = λ u. back both_unit })
  meet_each {σ} g st (x ∷ xs) r d p o =
      nodes_after σ (meet_one N st x p σ.nodes) (each (meet_one N st) xs)
      (goes_bind (meet_one_lem g st x r.0 d.0 p o) (λ τ p' w v a.
      goes_map (meet_each v st xs (alike_grown st w xs r.1) (kinds_grown w (λ j. j ≢ INTERSECT) xs (all_map xs (λ y s. s.state) r.1) d.1) p' a.ok) (λ υ p'' w' v' b. record {
        ok = b.ok;
        few = omega (arith, a.few, b.few);
        strings = λ u.
            b.strings u so both_same (a.strings u) (all_grown g w xs (all_map xs (λ y s. s.state) r.1) u)
            so back both_assoc so both_same same (both_same both_unit same);
      })))

-- some product from i to i + k
abbrev Among : (N : ℕ) → Aut → List ℕ → ℕ → ℕ → Language N
Among N σ xs i k u = (j : ℕ) × (i ≤ j) × (j < i + k) × HoldsAll N σ (product σ.states.words σ.members.words xs j) u

-- ---- the list's state

-- the list of an Intersect, for every table that reads its states alike
record Listed (N : ℕ) (σ : Aut) (p : Met) (τ : Aut) (ys : List ℕ) : Type 0 where
  all : All (λ y. y < states τ) ys
  few : length ys ≤ size p
  meeting : (st : List ℕ) → ((y : ℕ) → y < states τ → kind_of st y ≡ kind τ y) → Meeting st ys
  parts : All (Part N τ.states.words INTERSECT) ys
  strings : HoldsAll N τ ys ≈ Cut N σ p

module _ {N : ℕ} {L : Limits} where
  add_last_lem : {σ : Aut} → WfAut N L σ → (p : Met) → MetOk N σ p → (p.some ≡ true → p.relation ≢ Spp.zero_at N) → 1 ≤ length (sorted p.others) → StepSpec N L (Listed N σ p) σ (on_states (add_last p (sorted p.others)) σ)
  unfolding add_last
  add_last_lem {σ} g p o nonzero some = go p.some refl
    where
      xs : List ℕ
      xs = sorted p.others

      states_xs : All (λ y. y < states σ) xs
      states_xs = (all_sorted (λ y. y < states σ) p.others).0 o.others

      plain_xs : All (λ y. Plain INTERSECT (kind σ y)) xs
      plain_xs = (all_sorted (λ y. Plain INTERSECT (kind σ y)) p.others).0 o.plain

      holds_xs : (u : Str N) → HoldsAll N σ xs u ↔ HoldsAll N σ p.others u
      holds_xs u = back (all_sorted (λ y. Holds N σ y u) p.others)

      no_spp_in : {τ : Aut} → ExtAut σ τ → (st : List ℕ) → ((y : ℕ) → y < states τ → kind_of st y ≡ kind τ y) → All (λ y. kind_of st y ≡ SPP → ⊥) xs
      no_spp_in w st f = all_with xs (λ y l n e. n.0 (sym (kind_grown w y l) ∙ sym (f y (state_grown w l)) ∙ e)) states_xs plain_xs

      when_true : p.some ≡ true → (u : Str N) → Rel (Spp.pairs N σ.nodes p.relation) u ↔ When p.some (Rel (Spp.pairs N σ.nodes p.relation)) u
      when_true e u = subst (λ (b : Bool). Rel (Spp.pairs N σ.nodes p.relation) u ↔ When b (Rel (Spp.pairs N σ.nodes p.relation)) u) (sym e) same

      go : (b : Bool) → p.some ≡ b → StepSpec N L (Listed N σ p) σ (placed put_states σ ((if b then (mk_spp p.relation >>= (λ i. return (xs ++ i ∷ []))) else return xs) σ.states))
      go true q =
          placed_map put_states σ (mk_spp p.relation σ.states) (λ i. xs ++ i ∷ []) (spp_state g (den_mem o.handle))
          (λ τ i w v (s, k). record {
            all = all_append (λ y. y < states τ) xs (i ∷ []) (states_grown w xs states_xs) (s.state, tt);
            few = omega (arith, length-append xs (i ∷ []), sorted_length p.others, ap one_if q);
            meeting = λ st f. record {
              others = xs;
              last = i ∷ [];
              parts = refl;
              some = some;
              rising = sorted_rising p.others;
              no_spp = no_spp_in w st f;
              spp_last = (f i s.state ∙ k.0, refl);
            };
            parts = all_append (Part N τ.states.words INTERSECT) xs (i ∷ []) (plain_parts N τ.states.words INTERSECT xs (kinds_grown w (Plain INTERSECT) xs states_xs plain_xs))
                (relation_part N τ.states.words INTERSECT i p.relation (λ e. omega arith) k (nonzero q), tt);
            strings = λ u.
                all_both v xs (i ∷ []) u so both_same (all_grown g w xs states_xs u so holds_xs u) (both_unit so s.strings u so when_true q u) so both_turn;
          })
      go false q = goes_return xs g (record {
        all = states_xs;
        few = omega (arith, sorted_length p.others);
        meeting = λ st f. record {
          others = xs;
          last = [];
          parts = sym (append-nil xs);
          some = some;
          rising = sorted_rising p.others;
          no_spp = no_spp_in (grown_refl σ) st f;
          spp_last = tt;
        };
        parts = plain_parts N σ.states.words INTERSECT xs plain_xs;
        strings = λ u. holds_xs u so back (unit_both (when_false q u));
      })
        where
          when_false : p.some ≡ false → (u : Str N) → When p.some (Rel (Spp.pairs N σ.nodes p.relation)) u
          when_false e u = subst (λ (b : Bool). When b (Rel (Spp.pairs N σ.nodes p.relation)) u) (sym e) tt

  meet_finish_lem : {σ : Aut} → WfAut N L σ → (p : Met) → MetOk N σ p → size p ≤ L.list → StepSpec N L (Is N (Cut N σ p)) σ (meet_finish N L p (sorted p.others) σ)
  unfolding meet_finish form
  meet_finish_lem {σ} g p o few =
      branch (p.some && eqb p.relation (Spp.zero_at N)) _ _
      (λ q. let (s, z) = and_true p.some (eqb p.relation (Spp.zero_at N)) q in
      goes_map (zero_goes g) (λ τ i w v s'. is_same (λ u. (λ x. absurd x, λ (r, h). none s z u r)) s'))
      (λ nz. branch (eqb (length xs) 0) _ _
      (λ q. branch_in put_states σ p.some (mk_spp p.relation) mk_top σ.states
      (λ s. goes_map (mk_spp_goes g (den_mem o.handle)) (λ τ i w v s'. is_same (λ u. back both_unit so both_same (when s u) (empty (eqb-true (length xs) 0 q) u)) s'))
      (λ s. goes_map (mk_top_goes g) (λ τ i w v s'. is_same (λ u. back both_unit so both_same (when s u) (empty (eqb-true (length xs) 0 q) u)) s')))
      (λ n. goes_bind (add_last_lem g p o (λ s e. and_false p.some (eqb p.relation (Spp.zero_at N)) nz s (eq-eqb p.relation (Spp.zero_at N) e)) (some (length xs) (eqb-false (length xs) 0 n))) (λ τ ys w v l.
      goes_map
      (intern_l_goes v INTERSECT intersection refl ys l.all (omega (arith, l.few)) (λ e. let z : ◌≡◌ {A = ℕ} 3 2 = e in absurd (omega arith)) (λ _. l.meeting)
      (λ _ _. made_intersect l.parts) (λ n. refl))
      (λ υ z w' v' s. record {
        state = s.state;
        strings = λ u.
            holds_intersect v' s.state s.is.kind u so subst (λ (k : List ℕ). HoldsAll N υ k u ↔ HoldsAll N τ ys u) (sym s.is.list) (all_grown v w' ys l.all u)
            so l.strings u;
      }))))
    where
      xs : List ℕ
      xs = sorted p.others

      some : (n : ℕ) → (n ≡ 0 → ⊥) → 1 ≤ n
      some n f = omega arith

      none : p.some ≡ true → eqb p.relation (Spp.zero_at N) ≡ true → (u : Str N) → When p.some (Rel (Spp.pairs N σ.nodes p.relation)) u → ⊥
      none s z u r =
          let (h, t) = subst (λ (b : Bool). When b (Rel (Spp.pairs N σ.nodes p.relation)) u) s r in
          subst T (ap (λ (j : ℕ). Spp.pairs N σ.nodes j u.start u.end) (eqb-true p.relation (Spp.zero_at N) z) ∙ (den_zero g.nodes N (omega arith)).means u.start u.end) t

      when : {b : Bool} → p.some ≡ b → (u : Str N) → When b (Rel (Spp.pairs N σ.nodes p.relation)) u ↔ When p.some (Rel (Spp.pairs N σ.nodes p.relation)) u
      when {b} e u = subst (λ (c : Bool). When b (Rel (Spp.pairs N σ.nodes p.relation)) u ↔ When c (Rel (Spp.pairs N σ.nodes p.relation)) u) (sym e) same

      nothing : (l : List ℕ) → length l ≡ 0 → (u : Str N) → HoldsAll N σ l u
      nothing [] e u = tt
      nothing (x ∷ l) e u = absurd (omega arith)

      empty : length xs ≡ 0 → (u : Str N) → Unit {0} ↔ HoldsAll N σ p.others u
      empty e u = (λ _. (all_sorted (λ y. Holds N σ y u) p.others).1 (nothing xs e u), λ _. tt)

  meet_goes : {σ : Aut} → WfAut N L σ → (xs : List ℕ) → All (λ x. x < states σ) xs → All (λ x. kind σ x ≢ INTERSECT) xs → length xs ≤ L.list → StepSpec N L (Is N (HoldsAll N σ xs)) σ (meet N L xs σ)
  unfolding meet
  meet_goes {σ} g xs a d few =
      let t = den_top g.nodes N (omega arith) in
      goes_bind (meet_each g σ.states.words xs (alike_self σ xs a) d (met false (Spp.top_at N) []) (record { handle = t.at; others = tt; plain = tt; top = λ _. t.means })) (λ τ p w v b.
      goes_map (meet_finish_lem v p b.ok (omega (arith, b.few))) (λ υ z w' v' s. is_same (λ u. b.strings u so unit_both (tt, tt)) s))

  pub mk_intersect_n_base_goes : {σ : Aut} → WfAut N L σ → (xs : List ℕ) → All (λ x. x < states σ) xs → StepSpec N L (Is N (HoldsAll N σ xs)) σ (mk_intersect_n_base N L xs σ)
  unfolding mk_intersect_n_base
  mk_intersect_n_base_goes {σ} g xs a = go (open_all L.list σ.states.words σ.members.words xs []) (open_all_lem g L.list xs [] a tt tt (omega arith))
    where
      go : (o : Within (List ℕ)) → Opens g L.list xs [] o → StepSpec N L (Is N (HoldsAll N σ xs)) σ (meet_opened N L o σ)
      go beyond (zs, c, l) = stops_here g (long_list zs c l)
      go (within ys) (b, d, l, e) = goes_map (meet_goes g ys b d l) (λ τ z w v s. is_same (λ u. e u so unit_both tt) s)

  -- ---- distributing over unions

  bases_goes : {σ : Aut} → WfAut N L σ → (xs : List ℕ) → All (λ x. x < states σ) xs → (i k : ℕ) → i + k ≤ sizes σ.states.words xs → (acc : List ℕ) → All (λ x. x < states σ) acc
      → StepSpec N L (λ τ zs. All (λ z. z < states τ) zs × ((u : Str N) → HoldsSome N τ zs u ↔ (HoldsSome N σ acc u ⊎ Among N σ xs i k u))) σ (bases N L xs i k acc σ)
  unfolding bases base
  bases_goes {σ} g xs a i zero l acc b = goes_return acc g (b, λ u. (inl, left u))
    where
      left : (u : Str N) → HoldsSome N σ acc u ⊎ Among N σ xs i zero u → HoldsSome N σ acc u
      left u (inl h) = h
      left u (inr (j, m, n, h)) = absurd (omega arith)
  bases_goes {σ} g xs a i (suc k) l acc b =
      goes_bind (mk_intersect_n_base_goes g (product σ.states.words σ.members.words xs i) (product_states g xs a i (omega arith))) (λ τ z w v s.
      goes_map
      (bases_goes v xs (states_grown w xs a) (i + 1) k (omega (arith, sizes_grown g w xs a)) (acc ++ z ∷ []) (all_append (λ x. x < states τ) acc (z ∷ []) (states_grown w acc b) (s.state, tt)))
      (λ υ zs w' v' (c, e). (
        c,
        λ u.
            e u so sum_same (some_append v acc (z ∷ []) u so sum_same (some_grown g w acc b u) (sum_none so s.strings u)) same
            so back sum_assoc so sum_same same (first_of w u),
      )))
    where
      first_of : {τ : Aut} → ExtAut σ τ → (u : Str N) → (HoldsAll N σ (product σ.states.words σ.members.words xs i) u ⊎ Among N τ xs (i + 1) k u) ↔ Among N σ xs i (suc k) u
      first_of {τ} w u = (there, there_back)
        where
          later : (j : ℕ) → j < i + suc k → HoldsAll N τ (product τ.states.words τ.members.words xs j) u ↔ HoldsAll N σ (product σ.states.words σ.members.words xs j) u
          later j m =
              subst (λ (ys : List ℕ). HoldsAll N τ ys u ↔ HoldsAll N σ (product σ.states.words σ.members.words xs j) u) (sym (product_grown g w xs a j (omega arith)))
              (all_grown g w (product σ.states.words σ.members.words xs j) (product_states g xs a j (omega arith)) u)

          there : HoldsAll N σ (product σ.states.words σ.members.words xs i) u ⊎ Among N τ xs (i + 1) k u → Among N σ xs i (suc k) u
          there (inl h) = (i, omega arith, omega arith, h)
          there (inr (j, m, n, h)) = (j, omega arith, omega arith, (later j (omega arith)).0 h)

          there_back : Among N σ xs i (suc k) u → HoldsAll N σ (product σ.states.words σ.members.words xs i) u ⊎ Among N τ xs (i + 1) k u
          there_back (j, m, n, h) =
              by_test (leb (i + 1) j)
              (λ t. inr (j, leb-true (i + 1) j t, omega arith, (later j n).1 h))
              (λ t. inl (subst (λ (d : ℕ). HoldsAll N σ (product σ.states.words σ.members.words xs d) u) {x = j} {y = i} (omega (arith, leb-false (i + 1) j t)) h))

  pub mk_intersect_n_goes : {σ : Aut} → WfAut N L σ → (xs : List ℕ) → All (λ x. x < states σ) xs → StepSpec N L (Is N (HoldsAll N σ xs)) σ (mk_intersect_n N L xs σ)
  unfolding mk_intersect_n
  mk_intersect_n_goes {σ} g xs a =
      choose (ltb L.list (length xs)) (λ q. stops_here g (long_list xs a (ltb-true L.list (length xs) q)))
      (λ _. choose (eqb (length xs) 1)
      (λ q. let e : xs ≡ get_or xs 0 0 ∷ [] = st_singleton xs (eqb-true (length xs) 1 q) in
      goes_return (get_or xs 0 0) g (record {
        state = (subst (All (λ x. x < states σ)) e a).0;
        strings = λ u. back both_unit so subst (λ (l : List ℕ). HoldsAll N σ (get_or xs 0 0 ∷ []) u ↔ HoldsAll N σ l u) (sym e) same;
      }))
      (λ _. opening (open_all L.list σ.states.words σ.members.words xs []) (open_all_lem g L.list xs [] a tt tt (omega arith))))
    where
      spread : (ys : List ℕ) → All (λ y. y < states σ) ys → (o : Within ℕ) → count_all L.products σ.states.words ys 1 ≡ o → StepSpec N L (Is N (HoldsAll N σ ys)) σ (distribute N L ys o σ)
      spread ys b beyond q = stops_here g (many_products ys b (omega (arith, passed g L.products ys b 1 q, one-mul (sizes σ.states.words ys))))
      spread ys b (within m) q =
          let number : m ≡ sizes σ.states.words ys = counted L.products σ.states.words ys 1 m q ∙ one-mul (sizes σ.states.words ys) in
          goes_bind (bases_goes g ys b 0 m (omega arith) [] tt) (λ τ zs w v (c, e).
          goes_map (mk_union_n_goes v zs c) (λ υ z w' v' s. is_same (λ u. e u so none_sum (λ x. x) so all_of number u) s))
        where
          all_of : {m : ℕ} → m ≡ sizes σ.states.words ys → (u : Str N) → Among N σ ys 0 m u ↔ HoldsAll N σ ys u
          all_of number u = (λ (j, l, n, h). (in_product g ys b u).1 (j, omega arith, h), λ h. let (j, l, p) = (in_product g ys b u).0 h in (j, omega arith, omega arith, p))

      opening : (o : Within (List ℕ)) → Opens g L.list xs [] o → StepSpec N L (Is N (HoldsAll N σ xs)) σ (intersect_opened N L o σ)
      opening beyond (zs, c, l) = stops_here g (long_list zs c l)
      opening (within ys) (b, d, l, e) = goes_map (spread ys b (count_all L.products σ.states.words ys 1) refl) (λ τ z w v s. is_same (λ u. e u so unit_both tt) s)

  pub mk_intersect_goes : {σ : Aut} → WfAut N L σ → {x y : ℕ} → x < states σ → y < states σ → StepSpec N L (Is N (Both (Holds N σ x) (Holds N σ y))) σ (mk_intersect N L x y σ)
  unfolding mk_intersect
  mk_intersect_goes {σ} g {x} {y} l m =
      choose (eqb x y)
      (λ q. let e : x ≡ y = eqb-true x y q in
      goes_return x g (record { state = l; strings = λ u. (λ h. (h, subst (λ (k : ℕ). Holds N σ k u) e h), λ (h, _). h) }))
      (λ _. choose (relations σ.states.words x y)
      (λ q. let (a, b) = both_spp g x y q in
      goes_map (spp_of_goes g (Spp.intersect N (first σ x) (first σ y)) (intersect_made N σ.nodes g.nodes (first σ x) (first σ y) (handle g l a) (handle g m b)))
      (λ τ z w v i. is_same (λ u. back (both_same (holds_spp g l a u) (holds_spp g m b u) so both_rel (Spp.pairs N σ.nodes (first σ x)) (Spp.pairs N σ.nodes (first σ y)) u)) i))
      (λ _. goes_map (mk_intersect_n_goes g (x ∷ y ∷ []) (l, (m, tt))) (λ τ z w v i. is_same (λ u. both_same same both_unit) i)))
