-- The smart constructors (aut_steps' Constructors) replay.
use Rattle.std.specs.Prelude.{if◌then◌else◌}
use mathlib.Core.Path.{◌≡◌, refl, sym, ap, subst}
use mathlib.Core.Bool.{Bool, true, false, ◌&&◌}
use mathlib.Core.List.{List, [], ◌∷◌, ◌++◌}
use Prim.Native.Nat.{ℕ, zero, suc, ◌+◌, ◌≤◌, ◌<◌}
use native.Mathlib.Omega.{arith}
use lib.Dec.{eqb, ltb}
use lib.ListN.{length, get_or}
use borrow.Author.Tests.{eqb-true, ltb-false, le-ltb}
use Rattle.common.specs.Outcome.{Outcome, refused, given, Step, return, after, ◌>>=◌}
use Rattle.common.proofs.Runs as Runs
use Rattle.common.specs.Runs.{Table, placed}
use Rattle.common.proofs.Runs.{runs_bind, runs_return, runs_map}
use Rattle.spp_steps.specs.Model as Spp
use Rattle.spp_steps.specs.Wf.{Wf, Ext, ValidAt}
use Rattle.spp_steps.proofs.Laws.{at_ext, den_mem, den_top, spp_theory}
use Rattle.spp_steps.proofs.Apply.{apply_exact}
use Rattle.spp_steps.proofs.Sequence.{sequence_exact}
use Rattle.spp_steps.proofs.Star.{star_exact}
use Rattle.aut_steps.specs.Relations as Rel
use Rattle.aut_steps.specs.Tables.{SPP, UNION, INTERSECT, XOR, DIFFERENCE, COMPLEMENT, SEQUENCE, STAR, DUP, NEXT, UNTIL, TOP, kind_of, op1, Limits, Exprs, exprs, Aut, put_states, put_exprs, on_nodes, on_states, on_exprs}
use Rattle.aut_steps.specs.Intern.{intern1, intern_l}
use Rattle.aut_steps.specs.Lists.{sorted}
use Rattle.aut_steps.specs.Constructors.{Within, within, beyond, open_all, Opened, list, top, long, open_union, each, count_all, product, mk_spp, mk_dup, mk_top, mk_next, mk_until, spp_of, relations, is_relation, Parts, parts, Met, met, add_last, unite_one, add_relation, meet_one, finish, unite, unite_opened, mk_union_n, mk_union, meet_finish, meet, meet_opened, mk_intersect_n_base, base, bases, distribute, intersect_opened, mk_intersect_n, mk_intersect, mk_xor, mk_difference, mk_complement, sequence_with, sequence_by, mk_sequence, mk_star}
use Rattle.netkat.specs.Rules.{union, intersection}
use Rattle.aut_steps.specs.Kinds.{form}
use Rattle.aut_steps.specs.Ascending.{All}
use Rattle.aut_steps.proofs.ListLaws.{all_map, all_append}
use Rattle.aut_steps.specs.Wf.{states, kind, first, second, nesting, Two, WfAut}
use Rattle.aut_steps.proofs.Wf.{nesting_grown, state_grown, states_grown, ok_as}
use Rattle.aut_steps.proofs.StepSpec.{goes_map}
use Rattle.aut_steps.proofs.StateLaws.{handle, both_spp, mk_spp_goes, mk_dup_goes, mk_top_goes, mk_next_goes, mk_until_goes, mk_xor_goes, mk_difference_goes, mk_complement_goes, mk_star_goes}
use Rattle.aut_steps.proofs.UnionLaws.{mk_union_n_goes}
use Rattle.aut_steps.proofs.SequenceLaws.{sequence_by_goes}
use Rattle.aut_steps.proofs.IntersectLaws.{mk_intersect_n_base_goes, mk_intersect_n_goes}
use Rattle.aut_st_steps.specs.ListSpec.{Label, State}
use Rattle.aut_st_steps.proofs.ListSpec.{zero_label}
use Rattle.aut_replay.specs.Replay.{Later, Wider, Replays, stops, In}
use Rattle.aut_replay.proofs.Runs.{later_refl, kind_later, first_later, second_later, nesting_later, replays_return, replays_map, replays_as, replays_from, replays_bind, replays_choose, replays_test, replays_limit, replays_in, replays_goes, states_then, nodes_replay}
use Rattle.aut_replay.proofs.Interning.{Some, intern0_replays, intern1_replays, intern2_replays, intern_l_replays}
use Rattle.aut_replay.proofs.Opening.{Withins, Openings, within_same, open_top, open_list, open_all_later, open_union_later, count_all_later, product_are, product_later}

-- ---- relations

module _ {N : ℕ} {L L' : Limits} {σ : Aut} (g : WfAut N L σ) where
  -- a handle is made
  label_replay : (c : Step Table ℕ) → Runs.StableSpec (spp_theory N) c (λ t h. ValidAt t N h) σ.nodes → Replays N L' (In N L (Label N)) (on_nodes c) σ (on_nodes c σ)
  label_replay c r = replays_map (nodes_replay g c r) (λ τ h w p. (p.0, record { at = p.1.1 }))

  module _ {a : ℕ} (x : Label N σ a) where
    pub star_replay : Replays N L' (In N L (Label N)) (on_nodes (Rel.star N a)) σ (on_nodes (Rel.star N a) σ)
    star_replay = label_replay (Rel.star N a) (runs_map (spp_theory N) (λ t h e w d. d.at) (star_exact N N (omega arith) σ.nodes a _ g.nodes (den_mem x.at)).runs)

    module _ {b : ℕ} (y : Label N σ b) where
      -- Union, Intersect, Xor, Difference
      pub apply_replay : (o : Spp.Op) → Replays N L' (In N L (Label N)) (on_nodes (Spp.apply N o N a b)) σ (on_nodes (Spp.apply N o N a b) σ)
      apply_replay o =
          label_replay (Spp.apply N o N a b) (runs_map (spp_theory N) (λ t h e w d. d.at) (apply_exact N o N (omega arith) σ.nodes a b _ _ g.nodes (den_mem x.at) (den_mem y.at)).runs)

      pub sequence_replay : Replays N L' (In N L (Label N)) (on_nodes (Rel.sequence N a b)) σ (on_nodes (Rel.sequence N a b) σ)
      sequence_replay =
          label_replay (Rel.sequence N a b) (runs_map (spp_theory N) (λ t h e w d. d.at) (sequence_exact N N (omega arith) σ.nodes a b _ _ g.nodes (den_mem x.at) (den_mem y.at)).runs)

    pub complement_replay : Replays N L' (In N L (Label N)) (on_nodes (Spp.complement N N a)) σ (on_nodes (Spp.complement N N a) σ)
    unfolding Spp.complement
    complement_replay = apply_replay x Spp.not

-- ---- states that need no look at their operands

module _ {N : ℕ} {L L' : Limits} {σ : Aut} (g : WfAut N L σ) where
  pub mk_spp_replay : {h : ℕ} → Label N σ h → Replays N L' (In N L State) (on_states (mk_spp h)) σ (on_states (mk_spp h) σ)
  unfolding mk_spp form
  mk_spp_replay {h} a =
      replays_goes (goes_map (mk_spp_goes g (den_mem a.at)) (λ τ z w v i. i.state)) (intern0_replays g SPP h)

  pub mk_dup_replay : Replays N L' (In N L State) (on_states mk_dup) σ (on_states mk_dup σ)
  unfolding mk_dup form
  mk_dup_replay = replays_goes (goes_map (mk_dup_goes g) (λ τ z w v i. i.state)) (intern0_replays g DUP 0)

  pub mk_top_replay : Replays N L' (In N L State) (on_states mk_top) σ (on_states mk_top σ)
  unfolding mk_top form
  mk_top_replay = replays_goes (goes_map (mk_top_goes g) (λ τ z w v i. i.state)) (intern0_replays g TOP 0)

  pub zero_replay : Replays N L' (In N L State) (on_states (mk_spp (Rel.zero_at N))) σ (on_states (mk_spp (Rel.zero_at N)) σ)
  zero_replay = mk_spp_replay (zero_label g)

  pub mk_next_replay : {x : ℕ} → State σ x → Replays N L' (In N L State) (on_states (mk_next L' x)) σ (on_states (mk_next L x) σ)
  unfolding mk_next form
  mk_next_replay {x} l = replays_goes (goes_map (mk_next_goes g l) (λ τ z w v i. i.state)) (intern1_replays g NEXT x)

  pub mk_until_replay : {x y : ℕ} → State σ x → State σ y → Replays N L' (In N L State) (on_states (mk_until L' x y)) σ (on_states (mk_until L x y) σ)
  unfolding mk_until form
  mk_until_replay {x} {y} l m = replays_goes (goes_map (mk_until_goes g l m) (λ τ z w v i. i.state)) (intern2_replays g UNTIL x y)

-- the state of a relation that a step makes
spp_of_replay : {N : ℕ} {L L' : Limits} {σ : Aut} (c : Step Table ℕ) → Replays N L' (In N L (Label N)) (on_nodes c) σ (on_nodes c σ) → Replays N L' (In N L State) (spp_of c) σ (spp_of c σ)
spp_of_replay c r = replays_bind r (λ τ h w p. mk_spp_replay p.0 p.1)

some : {N : ℕ} {L : Limits} {P : Aut → ℕ → Type 0} {step : Step Aut ℕ} {σ : Aut} {o : Outcome Aut ℕ} → Replays N L P step σ o → Replays N L Some step σ o
some r = replays_map r (λ τ z w p. tt)

-- ---- what is read of states

module _ {σ υ : Aut} (w : Later σ υ) {x : ℕ} (l : x < states σ) where
  is_relation_later : (h : ℕ) → is_relation υ.states.words x h ≡ is_relation σ.states.words x h
  is_relation_later h = λ d. eqb (kind_later w x l d) SPP && eqb (first_later w x l d) h

  is_kind_later : (k : ℕ) → eqb (kind υ x) k ≡ eqb (kind σ x) k
  is_kind_later k = λ d. eqb (kind_later w x l d) k

  relations_later : {y : ℕ} → y < states σ → relations υ.states.words x y ≡ relations σ.states.words x y
  relations_later {y} m = λ d. eqb (kind_later w x l d) SPP && eqb (kind_later w y m d) SPP

-- the handles of two SPP states
handles : {N : ℕ} {L : Limits} {σ : Aut} → WfAut N L σ → {x y : ℕ} → x < states σ → y < states σ → relations σ.states.words x y ≡ true → Label N σ (first σ x) × Label N σ (first σ y)
handles g {x} {y} l m q = let (a, b) = both_spp g x y q in (record { at = handle g l a }, record { at = handle g m b })

-- ---- relations gathered from a list

runs_if : {N : ℕ} {A : Type 0} {P : Table → A → Type 0} {t : Table} (b : Bool) (c d : Step Table A)
    → (b ≡ true → Runs.StableSpec (spp_theory N) c P t) → (b ≡ false → Runs.StableSpec (spp_theory N) d P t) → Runs.StableSpec (spp_theory N) (if b then c else d) P t
runs_if true c d f h = f refl
runs_if false c d f h = h refl

-- one of the first n states; the handle that st has of an SPP is a relation
record Member (N n : ℕ) (st : List ℕ) (t : Table) (x : ℕ) : Type 0 where
  state : x < n
  relation : eqb (kind_of st x) SPP ≡ true → ValidAt t N (op1 st x)

members_ext : (N n : ℕ) (st : List ℕ) {t u : Table} → Ext t u → (xs : List ℕ) → All (Member N n st t) xs → All (Member N n st u) xs
members_ext N n st e xs a = all_map xs (λ x m. record { state = m.state; relation = λ q. at_ext e N (op1 st x) (m.relation q) }) a

members_are : {N : ℕ} {L : Limits} {σ : Aut} → WfAut N L σ → (xs : List ℕ) → All (λ x. x < states σ) xs → All (Member N (states σ) σ.states.words σ.nodes) xs
members_are {σ = σ} g xs a = all_map xs (λ x l. record { state = l; relation = λ q. handle g l (eqb-true (kind σ x) SPP q) }) a

module _ (N n : ℕ) where
  record PartsAt (t : Table) (p : Parts) : Type 0 where
    at : ValidAt t N p.relation
    others : All (λ x. x < n) p.others

  record MetAt (t : Table) (p : Met) : Type 0 where
    at : ValidAt t N p.relation
    others : All (λ x. x < n) p.others

  pub apply_runs : (o : Spp.Op) {t : Table} (a b : ℕ) → Wf N t → ValidAt t N a → ValidAt t N b → Runs.StableSpec (spp_theory N) (Spp.apply N o N a b) (λ t h. ValidAt t N h) t
  apply_runs o {t} a b w x y = runs_map (spp_theory N) (λ t h e w d. d.at) (apply_exact N o N (omega arith) t a b _ _ w (den_mem x) (den_mem y)).runs

  unite_one_runs : (st : List ℕ) {t : Table} → Wf N t → (x : ℕ) → Member N n st t x → (p : Parts) → PartsAt t p → Runs.StableSpec (spp_theory N) (unite_one N st x p) PartsAt t
  unfolding unite_one
  unite_one_runs st w x m p a =
      runs_if (eqb (kind_of st x) SPP) _ _
      (λ q. runs_bind (spp_theory N) (apply_runs Spp.union p.relation (op1 st x) w a.at (m.relation q)) (λ u h e v d. runs_return (spp_theory N) (parts h p.others) v (record { at = d; others = a.others })))
      (λ q. runs_return (spp_theory N) _ w (record { at = a.at; others = all_append (λ x. x < n) p.others (x ∷ []) a.others (m.state, tt) }))

  meet_one_runs : (st : List ℕ) {t : Table} → Wf N t → (x : ℕ) → Member N n st t x → (p : Met) → MetAt t p → Runs.StableSpec (spp_theory N) (meet_one N st x p) MetAt t
  unfolding meet_one
  meet_one_runs st w x m p a =
      runs_if (eqb (kind_of st x) TOP) _ _ (λ q. runs_return (spp_theory N) p w a)
      (λ n₁. runs_if (eqb (kind_of st x) SPP) _ _
      (λ q. runs_bind (spp_theory N) (apply_runs Spp.intersect p.relation (op1 st x) w a.at (m.relation q)) (λ u h e v d. runs_return (spp_theory N) (met true h p.others) v (record { at = d; others = a.others })))
      (λ q. runs_return (spp_theory N) _ w (record { at = a.at; others = all_append (λ x. x < n) p.others (x ∷ []) a.others (m.state, tt) })))

  each_runs : {A : Type 0} {P : Table → A → Type 0} (st : List ℕ) (one : ℕ → A → Step Table A)
      → ((t : Table) → Wf N t → (x : ℕ) → Member N n st t x → (a : A) → P t a → Runs.StableSpec (spp_theory N) (one x a) P t)
      → {t : Table} → Wf N t → (xs : List ℕ) → All (Member N n st t) xs → (a : A) → P t a → Runs.StableSpec (spp_theory N) (each one xs a) P t
  unfolding each
  each_runs st one f w [] m a p = runs_return (spp_theory N) a w p
  each_runs st one f {t} w (x ∷ xs) m a p = runs_bind (spp_theory N) (f t w x m.0 a p) (λ u b e v q. each_runs st one f v xs (members_ext N n st e xs m.1) b q)

-- the same from what later tables read
module _ {σ υ : Aut} (w : Later σ υ) (N : ℕ) where
  unite_one_later : (xs : List ℕ) → All (λ x. x < states σ) xs → (p : Parts) → each (unite_one N υ.states.words) xs p ≡ each (unite_one N σ.states.words) xs p
  unfolding each unite_one
  unite_one_later [] a p = refl
  unite_one_later (x ∷ xs) a p = λ d.
      (if eqb (kind_later w x a.0 d) SPP
      then Rel.union N p.relation (first_later w x a.0 d) >>= (λ h. return (parts h p.others))
      else return (parts p.relation (p.others ++ x ∷ []))) >>= (λ q. unite_one_later xs a.1 q d)

  meet_one_later : (xs : List ℕ) → All (λ x. x < states σ) xs → (p : Met) → each (meet_one N υ.states.words) xs p ≡ each (meet_one N σ.states.words) xs p
  unfolding each meet_one
  meet_one_later [] a p = refl
  meet_one_later (x ∷ xs) a p = λ d.
      (if eqb (kind_later w x a.0 d) TOP then return p
      else if eqb (kind_later w x a.0 d) SPP then (Rel.intersect N p.relation (first_later w x a.0 d) >>= (λ h. return (met true h p.others)))
      else return (met p.some p.relation (p.others ++ x ∷ []))) >>= (λ q. meet_one_later xs a.1 q d)

-- ---- unions

within_exprs : {A : Type 0} (σ : Aut) (o : Outcome Table A) → placed put_exprs σ (placed (λ s τ. exprs s τ.members) (exprs σ.states σ.members) o) ≡ placed put_states σ o
within_exprs σ (refused e) = refl
within_exprs σ (given t i) = refl

abbrev exprs_of : Aut → Exprs
exprs_of σ = exprs σ.states σ.members

module _ {N : ℕ} {L L' : Limits} (wide : Wider L L') where
  add_relation_replay : {σ : Aut} → WfAut N L σ → (p : Parts) → PartsAt N (states σ) σ.nodes p
      → Replays N L' (In N L (λ τ ys. All (λ y. y < states τ) ys)) (on_states (add_relation N p)) σ (on_states (add_relation N p) σ)
  unfolding add_relation
  add_relation_replay {σ} g p a =
      replays_in put_states (λ υ. υ.states) (eqb p.relation (Rel.zero_at N)) _ _ _ _
      (λ q. replays_return p.others (g, a.others))
      (λ q. states_then (mk_spp p.relation) (mk_spp p.relation) (λ i. p.others ++ i ∷ []) (mk_spp_replay g (record { at = a.at }))
      (λ τ i w (v, s). (v, all_append (λ y. y < states τ) p.others (i ∷ []) (states_grown w p.others a.others) (s, tt))))

  finish_replay : {σ : Aut} → WfAut N L σ → (xs : List ℕ) → Replays N L' Some (on_exprs (finish N L' xs)) σ (on_exprs (finish N L xs) σ)
  unfolding finish form
  finish_replay {σ} g xs =
      replays_in put_exprs exprs_of (eqb (length xs) 1) _ _ _ _ (λ q. replays_return (get_or xs 0 0) tt)
      (λ n. replays_in put_exprs exprs_of (eqb (length xs) 0) _ _ _ _
      (λ q. replays_from (within_exprs σ (mk_spp (Rel.zero_at N) σ.states))
      (replays_as (λ υ w v. within_exprs υ (mk_spp (Rel.zero_at N) υ.states)) (replays_map (zero_replay g) (λ τ z w p. tt))))
      (λ m. intern_l_replays g UNION union refl xs))

  unite_replay : {σ : Aut} → WfAut N L σ → (xs : List ℕ) → All (λ x. x < states σ) xs → Replays N L' Some (unite N L' xs) σ (unite N L xs σ)
  unfolding unite
  unite_replay {σ} g xs a =
      replays_as (λ υ w v. ap (λ (c : Step Table Parts). after (on_nodes c υ) (λ p. on_states (add_relation N p) >>= λ ys. on_exprs (finish N L' (sorted ys)))) (unite_one_later w N xs a (parts (Rel.zero_at N) [])))
      (replays_bind (nodes_replay g (each (unite_one N σ.states.words) xs (parts (Rel.zero_at N) []))
      (each_runs N (states σ) σ.states.words (unite_one N σ.states.words) (λ t w x m p q. unite_one_runs N (states σ) σ.states.words w x m p q) g.nodes xs (members_are g xs a) _
      (record { at = (zero_label g).at; others = tt }))) (λ τ p w (v, (e, q)).
      replays_bind (add_relation_replay v p (record { at = q.at; others = subst (λ (n : ℕ). All (λ x. x < n) p.others) (sym e) q.others })) (λ τ₁ ys w₁ (v₁, b). finish_replay v₁ (sorted ys))))

  pub mk_union_n_replay : {σ : Aut} → WfAut N L σ → (xs : List ℕ) → All (λ x. x < states σ) xs → Replays N L' (In N L State) (mk_union_n N L' xs) σ (mk_union_n N L xs σ)
  unfolding mk_union_n
  mk_union_n_replay {σ} g xs a =
      replays_goes (goes_map (mk_union_n_goes g xs a) (λ τ z w v s. s.state))
      (replays_limit (ltb L.list (length xs)) (ltb L'.list (length xs)) 6 (λ q. le-ltb L'.list (length xs) (omega (arith, ltb-false L.list (length xs) q, wide.list)))
      (λ q. replays_choose {P = Some} (eqb (length xs) 1) (λ r. replays_return (get_or xs 0 0) tt)
      (λ r. go (open_union L.list σ.states.words σ.members.words xs []) (λ υ w. open_union_later g w wide.list xs [] a tt))))
    where
      go : (o : Opened) → ((υ : Aut) (w : Later σ υ) → Openings (λ ys. All (λ y. y < states σ) ys) o (open_union L'.list υ.states.words υ.members.words xs []))
          → Replays N L' Some (λ υ. unite_opened N L' (open_union L'.list υ.states.words υ.members.words xs []) υ) σ (unite_opened N L o σ)
      go long f = stops
      go top f = replays_as (λ υ w v. ap (λ (o : Opened). unite_opened N L' o υ) (open_top (f υ w))) (replays_map (mk_top_replay g) (λ τ z w p. tt))
      go (list ys) f = replays_as (λ υ w v. ap (λ (o : Opened). unite_opened N L' o υ) (open_list (f υ w)).0) (unite_replay g ys (open_list (f σ (later_refl σ))).1)

  pub mk_union_replay : {σ : Aut} → WfAut N L σ → {x y : ℕ} → State σ x → State σ y → Replays N L' (In N L State) (mk_union N L' x y) σ (mk_union N L x y σ)
  unfolding mk_union
  mk_union_replay {σ} g {x} {y} l m =
      replays_choose (eqb x y) (λ q. replays_return x (g, l))
      (λ n. replays_test (λ υ. relations υ.states.words x y) _ _ (λ υ w. relations_later w l m)
      (λ q. let (a, b) = handles g l m q in
      replays_as (λ υ w v. λ d. spp_of (Rel.union N (first_later w x l d) (first_later w y m d)) υ) (spp_of_replay (Rel.union N (first σ x) (first σ y)) (apply_replay g a b Spp.union)))
      (λ q. mk_union_n_replay g (x ∷ y ∷ []) (l, (m, tt))))

  -- ---- intersections

  add_last_replay : {σ : Aut} → WfAut N L σ → (p : Met) (xs : List ℕ) → Label N σ p.relation → Replays N L' (In N L (λ τ ys. Unit {0})) (on_states (add_last p xs)) σ (on_states (add_last p xs) σ)
  unfolding add_last
  add_last_replay {σ} g p xs a =
      replays_in put_states (λ υ. υ.states) p.some _ _ _ _
      (λ q. states_then (mk_spp p.relation) (mk_spp p.relation) (λ i. xs ++ i ∷ []) (mk_spp_replay g a) (λ τ i w (v, s). (v, tt)))
      (λ q. replays_return xs (g, tt))

  meet_finish_replay : {σ : Aut} → WfAut N L σ → (p : Met) (xs : List ℕ) → Label N σ p.relation → Replays N L' Some (meet_finish N L' p xs) σ (meet_finish N L p xs σ)
  unfolding meet_finish form
  meet_finish_replay {σ} g p xs a = at_zero (p.some && eqb p.relation (Rel.zero_at N))
    where
      last : Replays N L' Some (on_states (add_last p xs) >>= λ ys. on_exprs (intern_l L' INTERSECT ys)) σ ((on_states (add_last p xs) >>= λ ys. on_exprs (intern_l L INTERSECT ys)) σ)
      last = replays_bind (add_last_replay g p xs a) (λ τ ys w (v, s). intern_l_replays v INTERSECT intersection refl ys)

      alone : Replays N L' Some (on_states (if p.some then mk_spp p.relation else mk_top)) σ (on_states (if p.some then mk_spp p.relation else mk_top) σ)
      alone =
          replays_in put_states (λ υ. υ.states) p.some _ _ _ _
          (λ q. replays_map (mk_spp_replay g a) (λ τ z w s. tt)) (λ q. replays_map (mk_top_replay g) (λ τ z w s. tt))

      at_none : (b : Bool) → Replays N L' Some (if b then on_states (if p.some then mk_spp p.relation else mk_top) else (on_states (add_last p xs) >>= λ ys. on_exprs (intern_l L' INTERSECT ys))) σ
          ((if b then on_states (if p.some then mk_spp p.relation else mk_top) else (on_states (add_last p xs) >>= λ ys. on_exprs (intern_l L INTERSECT ys))) σ)
      at_none true = alone
      at_none false = last

      at_zero : (b : Bool) → Replays N L' Some (if b then on_states (mk_spp (Rel.zero_at N)) else if eqb (length xs) 0 then on_states (if p.some then mk_spp p.relation else mk_top) else (on_states (add_last p xs) >>= λ ys. on_exprs (intern_l L' INTERSECT ys))) σ
          ((if b then on_states (mk_spp (Rel.zero_at N)) else if eqb (length xs) 0 then on_states (if p.some then mk_spp p.relation else mk_top) else (on_states (add_last p xs) >>= λ ys. on_exprs (intern_l L INTERSECT ys))) σ)
      at_zero true = replays_map (zero_replay g) (λ τ z w s. tt)
      at_zero false = at_none (eqb (length xs) 0)

  meet_replay : {σ : Aut} → WfAut N L σ → (xs : List ℕ) → All (λ x. x < states σ) xs → Replays N L' Some (meet N L' xs) σ (meet N L xs σ)
  unfolding meet
  meet_replay {σ} g xs a =
      replays_as (λ υ w v. ap (λ (c : Step Table Met). after (on_nodes c υ) (λ p. meet_finish N L' p (sorted p.others))) (meet_one_later w N xs a (met false (Rel.top_at N) [])))
      (replays_bind (nodes_replay g (each (meet_one N σ.states.words) xs (met false (Rel.top_at N) []))
      (each_runs N (states σ) σ.states.words (meet_one N σ.states.words) (λ t w x m p q. meet_one_runs N (states σ) σ.states.words w x m p q) g.nodes xs (members_are g xs a) _
      (record { at = (den_top g.nodes N (omega arith)).at; others = tt }))) (λ τ p w (v, (e, q)). meet_finish_replay v p (sorted p.others) (record { at = q.at })))

  pub mk_intersect_n_base_replay : {σ : Aut} → WfAut N L σ → (xs : List ℕ) → All (λ x. x < states σ) xs → Replays N L' (In N L State) (mk_intersect_n_base N L' xs) σ (mk_intersect_n_base N L xs σ)
  unfolding mk_intersect_n_base
  mk_intersect_n_base_replay {σ} g xs a =
      replays_goes (goes_map (mk_intersect_n_base_goes g xs a) (λ τ z w v s. s.state))
      (go (open_all L.list σ.states.words σ.members.words xs []) (λ υ w. open_all_later g w wide.list xs [] a tt))
    where
      go : (o : Within (List ℕ)) → ((υ : Aut) (w : Later σ υ) → Withins (λ ys. All (λ y. y < states σ) ys) o (open_all L'.list υ.states.words υ.members.words xs []))
          → Replays N L' Some (λ υ. meet_opened N L' (open_all L'.list υ.states.words υ.members.words xs []) υ) σ (meet_opened N L o σ)
      go beyond f = stops
      go (within ys) f = replays_as (λ υ w v. ap (λ (o : Within (List ℕ)). meet_opened N L' o υ) (within_same (f υ w)).0) (meet_replay g ys (within_same (f σ (later_refl σ))).1)

  base_replay : {σ : Aut} → WfAut N L σ → (xs : List ℕ) → All (λ x. x < states σ) xs → (i : ℕ) → Replays N L' (In N L State) (base N L' xs i) σ (base N L xs i σ)
  unfolding base
  base_replay {σ} g xs a i =
      replays_as (λ υ w v. ap (λ (ys : List ℕ). mk_intersect_n_base N L' ys υ) (product_later g w xs i a))
      (mk_intersect_n_base_replay g (product σ.states.words σ.members.words xs i) (product_are g xs i a))

  bases_replay : {σ : Aut} → WfAut N L σ → (xs : List ℕ) → All (λ x. x < states σ) xs → (i k : ℕ) (acc : List ℕ) → All (λ x. x < states σ) acc
      → Replays N L' (In N L (λ τ zs. All (λ z. z < states τ) zs)) (bases N L' xs i k acc) σ (bases N L xs i k acc σ)
  unfolding bases
  bases_replay g xs a i zero acc b = replays_return acc (g, b)
  bases_replay g xs a i (suc k) acc b =
      replays_bind (base_replay g xs a i) (λ τ z w (v, s).
      bases_replay v xs (states_grown w xs a) (i + 1) k (acc ++ z ∷ []) (all_append (λ x. x < states τ) acc (z ∷ []) (states_grown w acc b) (s, tt)))

  pub mk_intersect_n_replay : {σ : Aut} → WfAut N L σ → (xs : List ℕ) → All (λ x. x < states σ) xs → Replays N L' (In N L State) (mk_intersect_n N L' xs) σ (mk_intersect_n N L xs σ)
  unfolding mk_intersect_n
  mk_intersect_n_replay {σ} g xs a =
      replays_goes (goes_map (mk_intersect_n_goes g xs a) (λ τ z w v s. s.state))
      (replays_limit (ltb L.list (length xs)) (ltb L'.list (length xs)) 6 (λ q. le-ltb L'.list (length xs) (omega (arith, ltb-false L.list (length xs) q, wide.list)))
      (λ q. replays_choose {P = Some} (eqb (length xs) 1) (λ r. replays_return (get_or xs 0 0) tt)
      (λ r. go (open_all L.list σ.states.words σ.members.words xs []) (λ υ w. open_all_later g w wide.list xs [] a tt))))
    where
      spread : (ys : List ℕ) → All (λ y. y < states σ) ys → (o : Within ℕ) → ((υ : Aut) (w : Later σ υ) → Withins (λ n. Unit {0}) o (count_all L'.products υ.states.words ys 1))
          → Replays N L' Some (λ υ. distribute N L' ys (count_all L'.products υ.states.words ys 1) υ) σ (distribute N L ys o σ)
      spread ys b beyond f = stops
      spread ys b (within n) f =
          replays_as (λ υ w v. ap (λ (o : Within ℕ). distribute N L' ys o υ) (within_same (f υ w)).0)
          (replays_bind (bases_replay g ys b 0 n [] tt) (λ τ zs w (v, c). replays_map (mk_union_n_replay v zs c) (λ τ z w p. tt)))

      go : (o : Within (List ℕ)) → ((υ : Aut) (w : Later σ υ) → Withins (λ ys. All (λ y. y < states σ) ys) o (open_all L'.list υ.states.words υ.members.words xs []))
          → Replays N L' Some (λ υ. intersect_opened N L' (open_all L'.list υ.states.words υ.members.words xs []) υ) σ (intersect_opened N L o σ)
      go beyond f = stops
      go (within ys) f =
          let b = (within_same (f σ (later_refl σ))).1 in
          replays_as (λ υ w v. ap (λ (o : Within (List ℕ)). intersect_opened N L' o υ) (within_same (f υ w)).0)
          (spread ys b (count_all L.products σ.states.words ys 1) (λ υ w. count_all_later g w wide.products ys 1 b))

  pub mk_intersect_replay : {σ : Aut} → WfAut N L σ → {x y : ℕ} → State σ x → State σ y → Replays N L' (In N L State) (mk_intersect N L' x y) σ (mk_intersect N L x y σ)
  unfolding mk_intersect
  mk_intersect_replay {σ} g {x} {y} l m =
      replays_choose (eqb x y) (λ q. replays_return x (g, l))
      (λ n. replays_test (λ υ. relations υ.states.words x y) _ _ (λ υ w. relations_later w l m)
      (λ q. let (a, b) = handles g l m q in
      replays_as (λ υ w v. λ d. spp_of (Rel.intersect N (first_later w x l d) (first_later w y m d)) υ) (spp_of_replay (Rel.intersect N (first σ x) (first σ y)) (apply_replay g a b Spp.intersect)))
      (λ q. mk_intersect_n_replay g (x ∷ y ∷ []) (l, (m, tt))))

-- ---- the others

module _ {N : ℕ} {L L' : Limits} {σ : Aut} (g : WfAut N L σ) where
  module _ {x y : ℕ} (l : State σ x) (m : State σ y) where
    pub mk_xor_replay : Replays N L' (In N L State) (mk_xor N L' x y) σ (mk_xor N L x y σ)
    unfolding mk_xor form
    mk_xor_replay =
        replays_goes (goes_map (mk_xor_goes g l m) (λ τ z w v i. i.state))
        (replays_choose (eqb x y) (λ q. some (zero_replay g))
        (λ n. replays_test (λ υ. relations υ.states.words x y) _ _ (λ υ w. relations_later w l m)
        (λ q. let (a, b) = handles g l m q in
        replays_as (λ υ w v. λ d. spp_of (Rel.xor N (first_later w x l d) (first_later w y m d)) υ) (some (spp_of_replay (Rel.xor N (first σ x) (first σ y)) (apply_replay g a b Spp.xor))))
        (λ q. replays_choose (ltb x y) (λ q. intern2_replays g XOR x y) (λ q. intern2_replays g XOR y x))))

    pub mk_difference_replay : Replays N L' (In N L State) (mk_difference N L' x y) σ (mk_difference N L x y σ)
    unfolding mk_difference form
    mk_difference_replay =
        replays_goes (goes_map (mk_difference_goes g l m) (λ τ z w v i. i.state))
        (replays_choose (eqb x y) (λ q. some (zero_replay g))
        (λ n. replays_test (λ υ. relations υ.states.words x y) _ _ (λ υ w. relations_later w l m)
        (λ q. let (a, b) = handles g l m q in
        replays_as (λ υ w v. λ d. spp_of (Rel.difference N (first_later w x l d) (first_later w y m d)) υ) (some (spp_of_replay (Rel.difference N (first σ x) (first σ y)) (apply_replay g a b Spp.difference))))
        (λ q. intern2_replays g DIFFERENCE x y)))

  module _ {x : ℕ} (l : State σ x) where
    pub mk_star_replay : Replays N L' (In N L State) (mk_star N L' x) σ (mk_star N L x σ)
    unfolding mk_star form
    mk_star_replay =
        replays_goes (goes_map (mk_star_goes g l) (λ τ z w v i. i.state))
        (replays_test {P = Some} (λ υ. eqb (kind υ x) STAR) _ _ (λ υ w. is_kind_later w l STAR) (λ q. replays_return x tt)
        (λ n. replays_test (λ υ. eqb (kind υ x) SPP) _ _ (λ υ w. is_kind_later w l SPP)
        (λ q. replays_as (λ υ w v. λ d. spp_of (Rel.star N (first_later w x l d)) υ) (some (spp_of_replay (Rel.star N (first σ x)) (star_replay g (record { at = handle g l (eqb-true (kind σ x) SPP q) })))))
        (λ n. replays_test (λ υ. eqb (kind υ x) TOP) _ _ (λ υ w. is_kind_later w l TOP) (λ q. some (mk_top_replay g)) (λ q. intern1_replays g STAR x))))

    pub mk_complement_replay : Replays N L' (In N L State) (on_states (mk_complement N L' x)) σ (on_states (mk_complement N L x) σ)
    unfolding mk_complement form
    mk_complement_replay =
        replays_goes (goes_map (mk_complement_goes g l) (λ τ z w v i. i.state))
        (replays_as (λ υ w v. λ d. placed put_states υ
        (if eqb (kind_later w x l d) COMPLEMENT then given υ.states (first_later w x l d) else if eqb (kind_later w x l d) TOP then mk_spp (Rel.zero_at N) υ.states else intern1 L' COMPLEMENT x υ.states))
        (go (eqb (kind σ x) COMPLEMENT) (eqb (kind σ x) TOP)))
      where
        go : (b c : Bool)
            → Replays N L' Some (λ υ. placed put_states υ (if b then given υ.states (first σ x) else if c then mk_spp (Rel.zero_at N) υ.states else intern1 L' COMPLEMENT x υ.states)) σ
            (placed put_states σ (if b then given σ.states (first σ x) else if c then mk_spp (Rel.zero_at N) σ.states else intern1 L COMPLEMENT x σ.states))
        go true c = replays_return (first σ x) tt
        go false true = some (zero_replay g)
        go false false = intern1_replays g COMPLEMENT x

-- (a; b); c is regrouped, by calls on operands that are nested lower
abbrev Regroups : (N : ℕ) (L L' : Limits) → ℕ → (ℕ → ℕ → Step Aut ℕ) → (ℕ → ℕ → Step Aut ℕ) → Type 0
Regroups N L L' depth again other = (σ : Aut) → WfAut N L σ → (x y : ℕ) → State σ x → State σ y → nesting σ x < depth → Replays N L' (In N L State) (other x y) σ (again x y σ)

module _ {N : ℕ} {L L' : Limits} where
  sequence_with_replay : {again other : ℕ → ℕ → Step Aut ℕ} {σ : Aut} → WfAut N L σ → {x y : ℕ} → State σ x → State σ y → Regroups N L L' (nesting σ x) again other
      → Replays N L' Some (sequence_with N L' other x y) σ (sequence_with N L again x y σ)
  unfolding sequence_with form
  sequence_with_replay {again} {other} {σ} g {x} {y} l m f =
      replays_test {P = Some} (λ υ. relations υ.states.words x y) _ _ (λ υ w. relations_later w l m)
      (λ q. let (a, b) = handles g l m q in
      replays_as (λ υ w v. λ d. spp_of (Rel.sequence N (first_later w x l d) (first_later w y m d)) υ) (some (spp_of_replay (Rel.sequence N (first σ x) (first σ y)) (sequence_replay g a b))))
      (λ n₁. replays_test (λ υ. is_relation υ.states.words x (Rel.one_at N)) _ _ (λ υ w. is_relation_later w l (Rel.one_at N)) (λ q. replays_return y tt)
      (λ n₂. replays_test (λ υ. is_relation υ.states.words x (Rel.zero_at N)) _ _ (λ υ w. is_relation_later w l (Rel.zero_at N)) (λ q. some (zero_replay g))
      (λ n₃. replays_test (λ υ. is_relation υ.states.words y (Rel.one_at N)) _ _ (λ υ w. is_relation_later w m (Rel.one_at N)) (λ q. replays_return x tt)
      (λ n₄. replays_test (λ υ. is_relation υ.states.words y (Rel.zero_at N)) _ _ (λ υ w. is_relation_later w m (Rel.zero_at N)) (λ q. some (zero_replay g))
      (λ n₅. replays_test (λ υ. eqb (kind υ x) SEQUENCE) _ _ (λ υ w. is_kind_later w l SEQUENCE)
      (λ q. let t : Two σ x = ok_as g SEQUENCE l (eqb-true (kind σ x) SEQUENCE q) in
      let l1 : first σ x < states σ = omega (arith, t.earlier1) in
      replays_as (λ υ w v. λ d. (other (second_later w x l d) y >>= other (first_later w x l d)) υ)
      (replays_bind (f σ g (second σ x) y (omega (arith, t.earlier2)) m (omega (arith, t.nested))) (λ τ z w (v, s).
      some (f τ v (first σ x) z (state_grown w l1) s (omega (arith, t.nested, nesting_grown w (first σ x) l1))))))
      (λ n₆. replays_test (λ υ. eqb (kind υ x) TOP && eqb (kind υ y) TOP) _ _ (λ υ w. λ d. is_kind_later w l TOP d && is_kind_later w m TOP d) (λ q. some (mk_top_replay g))
      (λ q. intern2_replays g SEQUENCE x y)))))))

  sequence_by_replay : (depth : ℕ) {σ : Aut} → WfAut N L σ → {x y : ℕ} → State σ x → State σ y → nesting σ x ≤ depth → Replays N L' (In N L State) (sequence_by N L' depth x y) σ (sequence_by N L depth x y σ)
  unfolding sequence_by
  sequence_by_replay zero g l m d =
      replays_goes (goes_map (sequence_by_goes zero g l m d) (λ τ z w v i. i.state)) (sequence_with_replay {again = λ a b. return a} {other = λ a b. return a} g l m (λ τ v a b i j k. absurd (omega arith)))
  sequence_by_replay (suc depth) g l m d =
      replays_goes (goes_map (sequence_by_goes (suc depth) g l m d) (λ τ z w v i. i.state))
      (sequence_with_replay {again = sequence_by N L depth} {other = sequence_by N L' depth} g l m (λ τ v a b i j k. sequence_by_replay depth v i j (omega arith)))

  pub mk_sequence_replay : {σ : Aut} → WfAut N L σ → {x y : ℕ} → State σ x → State σ y → Replays N L' (In N L State) (mk_sequence N L' x y) σ (mk_sequence N L x y σ)
  unfolding mk_sequence
  mk_sequence_replay {σ} g {x} {y} l m = replays_as (λ υ w v. λ d. sequence_by N L' (nesting_later w x l d) x y υ) (sequence_by_replay (nesting σ x) g l m (omega arith))
