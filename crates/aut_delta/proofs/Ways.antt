-- descend: states one below another along first operands that have no list, and those above entered on the way.
use mathlib.Core.Path.{◌≡◌, refl, sym, ◌∙◌, ap, subst}
use mathlib.Core.Bool.{Bool, true, false}
use mathlib.Core.List.{List, [], ◌∷◌}
use mathlib.Core.Logic.{◌⊎◌, inl, inr, ⊎_elim}
use Prim.Native.Nat.{ℕ, zero, suc, ◌+◌, ◌-◌, ◌≤◌, ◌<◌}
use native.Mathlib.Omega.{arith}
use lib.Dec.{eqb, ltb}
use lib.ListN.{length, drop}
use borrow.Author.Tests.{eqb-true, eqb-false, ltb-true, ltb-false}
use Rattle.std.specs.Prelude.{Result, Ok, Err}
use Rattle.common.specs.Outcome.{Outcome, given, after}
use Rattle.refusal.specs.declared.Refusal.{Refusal}
use Rattle.spp_steps.proofs.Laws.{by_test}
use Rattle.aut_steps.specs.Tables.{nest, Limits}
use Rattle.aut_steps.specs.Ascending.{All}
use Rattle.aut_steps.proofs.ListLaws.{all_map}
use Rattle.aut_steps.specs.Wf.{states, nesting}
use Rattle.aut_steps.proofs.Wf.{state_grown}
use Rattle.aut_delta_steps.specs.Delta.{count_of, Store}
use Rattle.aut_delta_steps.proofs.Operands.{Below}
use Rattle.aut_delta_steps.specs.Wf.{WfStore}
use Rattle.aut_delta_steps.specs.EpsilonReads.{work_all}
use Rattle.aut_delta_steps.proofs.EpsilonReads.{given_store}
use Rattle.aut_delta_steps.specs.EpsilonDown.{First, this, later}
use Rattle.aut_delta_steps.proofs.EpsilonDown.{first_of, first_open}
use Rattle.aut_delta_steps.specs.DeltaReads.{list_operands, enter}
use Rattle.aut_delta_steps.proofs.DeltaReads.{list_operands_below}
use Rattle.aut_delta_steps.specs.DeltaDown.{Has, HasNot, ListWay, bottom, down, enters}
use Rattle.aut_delta_steps.proofs.DeltaDown.{enter_gives, enter_count, same_list_operands}
use Rattle.aut_states.specs.Clauses.{limits_of}
use Rattle.aut_states.specs.declared.Config.{Config}
use Rattle.aut_relations.specs.declared.Aut.{Aut as Lent}
use Rattle.aut_relations.specs.Lent.{Keeps}
use Rattle.aut_relations.proofs.Order.{in_table}
use Rattle.aut_stage.specs.Rule.{Laws, Came}
use Rattle.aut_relations.proofs.Kept.{keeps_refl, keeps_trans}
use Rattle.aut_delta_stage.specs.OnTables.{store_in, StoreAsked, tables_layer}
use Rattle.aut_delta_stage.proofs.OnTables.{tables_laws}
use Rattle.aut_operands.specs.declared.Part.TheVariants as part
use Rattle.aut_operands.specs.Clauses.{Looks}
use Rattle.aut_operands.proofs.Down.{inside_of}
use Rattle.aut_delta.specs.Readings.{Enters, unless, unless_entered, DescendAsked, EndsBy}

-- ---- a way down from each state that has no list

pub record SomeWay (σ : Store) (x : ℕ) : Type 0 where
  pub end : ℕ
  pub above : List ℕ
  pub way : ListWay σ end above x

record SomeFirst (σ : Store) (ys : List ℕ) : Type 0 where
  one : ℕ
  first : First (Has σ) (HasNot σ) one ys

all_or_first : (σ : Store) (ys : List ℕ) → All (Has σ) ys ⊎ SomeFirst σ ys
all_or_first σ [] = inl tt
all_or_first σ (y ∷ ys) =
    by_test (eqb (count_of σ.aut.states.words y) 0)
    (λ q. inr (record { one = y; first = this (eqb-true (count_of σ.aut.states.words y) 0 q) }))
    (λ q. let h : Has σ y = omega (arith, eqb-false (count_of σ.aut.states.words y) 0 q) in
    ⊎_elim (λ a. inl (h, a)) (λ f. inr (record { one = f.one; first = later h f.first })) (all_or_first σ ys))

module _ {N : ℕ} {L : Limits} {σ : Store} (W : WfStore N L σ) where
  way_by : (m : ℕ) {x : ℕ} → x < states σ.aut → nesting σ.aut x < m → HasNot σ x → SomeWay σ x
  way_by zero l k n = absurd (omega arith)
  way_by (suc m) {x} l k n =
      ⊎_elim
      (λ (a : All (Has σ) (list_operands σ x)). record { end = x; above = []; way = bottom n a })
      (λ (f : SomeFirst σ (list_operands σ x)). let b = first_of (Below σ.aut x) f.first (list_operands_below W l) in
      let v = way_by m {x = f.one} b.state (omega (arith, b.lower)) (first_open f.first) in
      record { end = v.end; above = x ∷ v.above; way = down n f.first v.way })
      (all_or_first σ (list_operands σ x))

  pub way_from : {x : ℕ} → x < states σ.aut → HasNot σ x → SomeWay σ x
  way_from {x} l n = way_by (suc (nesting σ.aut x)) l (omega arith) n

-- ---- what is looked at

pub looks : {N : ℕ} {L : Limits} {σ : Store} → WfStore N L σ → {x : ℕ} → x < states σ.aut → Looks part.Delta σ.aut.states.words σ.aut.members.words x
looks {σ = σ} W {x} l = record { inside = inside_of W.good l; operands = all_map (list_operands σ x) (λ y b. in_table W.good b.state) (list_operands_below W l) }

first_map : {K O K' O' : ℕ → Type 0} {z : ℕ} {ys : List ℕ} → ((y : ℕ) → K y → K' y) → ((y : ℕ) → O y → O' y) → First K O z ys → First K' O' z ys
first_map {z = z} f g (this o) = this (g z o)
first_map f g (later {y} k r) = later (f y k) (first_map f g r)

-- ---- states entered

pub none_left : (N j : ℕ) (τ : Store) → enters N (drop j []) τ ≡ given τ tt
unfolding work_all
none_left N zero τ = refl
none_left N (suc j) τ = refl

-- the next one, unless it is one of the first k
enters_next : (N k i : ℕ) (b : Bool) → (b ≡ true → i < k) → (b ≡ false → k ≤ i) → (z : ℕ) (ys : List ℕ) (τ : Store)
    → enters N (drop (k - i) (z ∷ ys)) τ ≡ after (unless b (enter N z) τ) (λ u. enters N (drop (k - (i + 1)) ys))
unfolding work_all
enters_next N k i true p q z ys τ = let l : i < k = p refl in ap (λ (j : ℕ). enters N (drop j (z ∷ ys)) τ) {x = k - i} {y = suc (k - (i + 1))} (omega arith)
enters_next N k i false p q z ys τ =
    let l : k ≤ i = q refl in
    ap (λ (j : ℕ). enters N (drop j (z ∷ ys)) τ) {x = k - i} {y = 0} (omega arith)
    ∙ ap (λ (j : ℕ). after (enter N z τ) (λ u. enters N (drop j ys))) {x = 0} {y = k - (i + 1)} (omega arith)

new_counts : {N : ℕ} {L : Limits} {σ τ : Store} {z : ℕ} → WfStore N L σ → z < states σ.aut → (b : Bool) → unless b (enter N z) σ ≡ given τ tt → (j : ℕ) → count_of τ.aut.states.words j ≡ count_of σ.aut.states.words j
new_counts W l true e j = ap (λ (υ : Store). count_of υ.aut.states.words j) (sym (given_store e))
new_counts W l false e j = enter_count (enter_gives W l e) j

-- ---- the loop: y is on the way from i, with n states above it, of which those from number e on are entered

-- a way from y to w is the end of one from i
pub record Back (N i e : ℕ) (σ τ : Store) (n w : ℕ) (ys : List ℕ) : Type 0 where
  pub above : List ℕ
  pub way : ListWay σ w above i
  pub place : length above ≡ n + length ys
  pub is : enters N (drop e above) σ ≡ enters N (drop (e - n) ys) τ

abbrev SameCounts : Store → Store → Unit {0} → Type 0
SameCounts σ τ u = (j : ℕ) → count_of τ.aut.states.words j ≡ count_of σ.aut.states.words j

pub record Walk (k : Config) (i e : ℕ) (x z : Lent) (y n : ℕ) : Type 0 where
  pub keeps : Keeps x z
  pub members : z.members ≡ x.members
  pub states : z.states.count ≡ x.states.count
  pub came : Came (tables_layer k.fields k.limits) 0 0 (SameCounts (store_in x)) (store_in x) (store_in z) tt x.scratch.now z.scratch.now
  pub has : y < x.states.count
  pub not_yet : HasNot (store_in x) y
  pub deep : n + y ≤ i
  pub back : (w : ℕ) (ys : List ℕ) → ListWay (store_in x) w ys y → Back k.fields i e (store_in x) (store_in z) n w ys

module _ {k : Config} {i : ℕ} {x : Lent} (p : DescendAsked k x i) where
  abbrev N : ℕ
  N = k.fields

  abbrev σ : Store
  σ = store_in x

  W : Laws (tables_layer N k.limits)
  W = tables_laws N k.limits

  V : WfStore N (limits_of k.limits) σ
  V = p.store.prepared.worked

  pub begun : {e : ℕ} → Walk k i e x x i 0
  begun {e} = record {
    keeps = keeps_refl x;
    members = refl;
    states = refl;
    came = record { ext = W.ext_refl σ; frame = W.frame_refl 0 0 σ x.scratch.now; ready = p.store.prepared; holds = λ j. refl };
    has = p.has;
    not_yet = p.not_yet;
    deep = omega arith;
    back = λ w ys v. record { above = ys; way = v; place = omega arith; is = ap (λ (j : ℕ). enters N (drop j ys) σ) {x = e} {y = e - 0} (omega arith) };
  }

  module _ {e : ℕ} {z : Lent} {y n : ℕ} (v : Walk k i e x z y n) where
    abbrev τ : Store
    τ = store_in z

    asked : StoreAsked k z
    asked = record { fields = v.keeps.spp.fields ∙ p.store.fields; prepared = v.came.ready }

    has : y < states τ.aut
    has = state_grown v.came.ext.grown v.has

    pub open_ready : Looks part.Delta z.states.words.now z.members.words.now y
    open_ready = looks v.came.ready.worked has

    same : list_operands τ y ≡ list_operands σ y
    same = same_list_operands V v.came.ext v.has

    all_has : All (Has τ) (list_operands τ y) → All (Has σ) (list_operands σ y)
    all_has a = subst (All (Has σ)) same (all_map (list_operands τ y) (λ j h. omega (arith, v.came.holds j)) a)

    first_has : {w : ℕ} → First (Has τ) (HasNot τ) w (list_operands τ y) → First (Has σ) (HasNot σ) w (list_operands σ y)
    first_has {w} f = subst (First (Has σ) (HasNot σ) w) same (first_map (λ j h. omega (arith, v.came.holds j)) (λ j q. sym (v.came.holds j) ∙ q) f)

    below : {w : ℕ} → First (Has τ) (HasNot τ) w (list_operands τ y) → Below σ.aut y w
    below f = first_of (Below σ.aut y) (first_has f) (list_operands_below V v.has)

    -- y is the end
    pub arrived : All (Has τ) (list_operands τ y) → EndsBy k i e x (Ok (y, n)) z
    arrived a =
        let b = v.back y [] (bottom v.not_yet (all_has a)) in
        record {
          above = b.above;
          way = b.way;
          place = omega (arith, b.place);
          entered = record { post = record { is = b.is ∙ none_left N (e - n) τ; then = record { ext = v.came.ext; frame = v.came.frame; ready = v.came.ready; holds = tt } } };
        }

    -- w is the first of its operands that has no list
    module _ {w : ℕ} (f : First (Has τ) (HasNot τ) w (list_operands τ y)) where
      pub falls : nest x.states.words.now w < nest x.states.words.now y
      falls = (below f).lower

      longer : (u : ℕ) (ys : List ℕ) → ListWay σ u ys w → Back N i e σ τ n u (y ∷ ys)
      longer u ys o = v.back u (y ∷ ys) (down v.not_yet (first_has f) o)

      step : (ys : List ℕ) → enters N (drop (e - n) (y ∷ ys)) τ ≡ after (unless_entered N y n e τ) (λ u. enters N (drop (e - (n + 1)) ys))
      step ys = enters_next N e n (ltb n e) (λ q. ltb-true n e q) (λ q. ltb-false n e q) y ys τ

      module _ {z1 : Lent} where
        pub full : {q : Refusal} {r : Result (ℕ × ℕ) Refusal} → r ≡ Err q → Enters {V = Unit {0}} k (unless_entered N y n e) z (Err q) z1 → EndsBy k i e x r z1
        full {q} {r} d P =
            let u = way_from V (below f).state (first_open (first_has f)) in
            let b = longer u.end u.above u.way in
            subst (λ (r : Result (ℕ × ℕ) Refusal). EndsBy k i e x r z1) (sym d) (record {
              end = u.end;
              above = b.above;
              way = b.way;
              entered = record { post = record { is = b.is ∙ step u.above ∙ ap (λ (o : Outcome Store Unit). after o (λ u'. enters N (drop (e - (n + 1)) u.above))) P.post.is; then = tt } };
            })

        pub further : Enters k (unless_entered N y n e) z (Ok (tt {0})) z1 → Keeps z z1 → z1.members ≡ z.members → z1.states.count ≡ z.states.count → Walk k i e x z1 w (n + 1)
        further P K members states =
            let c = P.post.then in
            record {
              keeps = keeps_trans v.keeps K;
              members = members ∙ v.members;
              states = states ∙ v.states;
              came = record {
                ext = W.ext_trans σ τ (store_in z1) v.came.ext c.ext;
                frame = W.frame_trans 0 0 τ (store_in z1) x.scratch.now z.scratch.now z1.scratch.now c.ext v.came.frame c.frame;
                ready = c.ready;
                holds = λ j. new_counts v.came.ready.worked has (ltb n e) P.post.is j ∙ v.came.holds j;
              };
              has = (below f).state;
              not_yet = first_open (first_has f);
              deep = omega (arith, v.deep, (below f).earlier);
              back = λ u ys o.
                  let b = longer u ys o in
                  record { above = b.above; way = b.way; place = omega (arith, b.place); is = b.is ∙ step ys ∙ ap (λ (o : Outcome Store Unit). after o (λ u. enters N (drop (e - (n + 1)) ys))) P.post.is };
            }
