-- What holds of the definitions of specs/StepSpec.
use Rattle.std.specs.Prelude.{if◌then◌else◌}
use mathlib.Core.Path.{◌≡◌, refl, sym, ◌∙◌, ap, ap₂, subst}
use mathlib.Core.Bool.{Bool, true, false}
use mathlib.Core.List.{List}
use Prim.Native.Nat.{ℕ, suc, ◌+◌, ◌*◌, ◌≤◌, ◌<◌}
use native.Mathlib.Omega.{arith}
use lib.Dec.{leb}
use lib.ListN.{length, get_or}
use borrow.Author.Tests.{leb-true, leb-false}
use Rattle.common.specs.Outcome.{Outcome, refused, given, Step, return, after}
use Rattle.common.specs.Runs.{Table, table, placed}
use Rattle.netkat_steps.specs.ListSteps.{Edge}
use Rattle.spp_steps.specs.Wf.{Wf, Ext}
use Rattle.spp_steps.proofs.Laws.{ext_refl, by_test}
use Rattle.spp_steps.proofs.Make.{Lacks}
use Rattle.aut_steps.specs.Tables.{UNION, INTERSECT, words, Limits, state_cap, member_cap, room_s, room_m, put4, Aut, aut, put_nodes, on_nodes}
use Rattle.aut_steps.specs.Intern.{nest_l}
use Rattle.aut_steps.specs.Constructors.{sizes}
use Rattle.aut_steps.specs.Kinds.{form, operands_by}
use Rattle.aut_steps.specs.Ascending.{All}
use Rattle.aut_steps.proofs.ListLaws.{all_map}
use Rattle.aut_steps.specs.Made.{MadeOf}
use Rattle.aut_steps.proofs.Facts.{put4_length, put4_other, put4_kind, put4_op1, put4_op2, put4_nest}
use Rattle.aut_steps.specs.Wf.{states, kind, first, second, nesting, members, ExtM, ExtAut, Ok, United, Meeting, Made, length_as, members_before, operands, WfAut}
use Rattle.aut_steps.proofs.Wf.{grown_refl, grown_trans, grown_nodes, kind_grown, second_grown, members_grown, ok_as, ok_grown, operands_grown, nesting_grown, meeting_grown}
use Rattle.aut_steps.proofs.MadeLaws.{made_at, before_grown, made_kept, packed_kept}
use Rattle.aut_steps.specs.StepSpec.{Memos, Gone}

-- 01, "Who can cause a refusal": why a step that has come to the tables τ is refused with a number.
pub data RefusalReason (L : Limits) (τ : Aut) : ℕ → Type 0 where
  -- this list, as it is given or opened, passes the limit
  long_list : (xs : List ℕ) → All (λ x. x < states τ) xs → L.list < length xs → RefusalReason L τ 6
  -- intersecting this list over its unions passes the limit
  many_products : (xs : List ℕ) → All (λ x. x < states τ) xs → L.products < sizes τ.states.words xs → RefusalReason L τ 7
  -- a state with these operands would be nested above the limit
  too_deep : (xs : List ℕ) → All (λ x. x < states τ) xs → L.nesting < nest_l τ.states.words 0 xs + 1 → RefusalReason L τ 8
  -- a relation node is lacking (21)
  no_node : {number : ℕ} → Lacks number τ.nodes → RefusalReason L τ number
  -- there is no room for a state
  no_state : room_s τ.states ≡ false → RefusalReason L τ 22
  -- there is no room for this list
  no_members : (xs : List ℕ) → All (λ x. x < states τ) xs → length xs ≤ L.list → room_m τ.members (length xs) ≡ false → RefusalReason L τ 23
  -- this transition list is as long as the limit allows, and one more is to go in
  full_list : (es : List Edge) → L.transitions ≤ length es → RefusalReason L τ 9

-- What a step from σ comes to. It is refused only from tables that have grown and are in order, and with the right number.
pub data StepSpec (N : ℕ) (L : Limits) {A : Type 0} (P : Aut → A → Type 0) (σ : Aut) : Outcome Aut A → Type 0 where
  stops : {number : ℕ} {τ : Aut} → ExtAut σ τ → WfAut N L τ → RefusalReason L τ number → StepSpec N L P σ (refused number)
  comes : {τ : Aut} {a : A} → Gone N L P σ τ a → StepSpec N L P σ (given τ a)

-- refused at once
pub stops_here : {N : ℕ} {L : Limits} {A : Type 0} {P : Aut → A → Type 0} {σ : Aut} {number : ℕ} → WfAut N L σ → RefusalReason L σ number → StepSpec N L P σ (refused number)
stops_here {σ = σ} g y = stops (grown_refl σ) g y

module _ {N : ℕ} {L : Limits} {A : Type 0} where
  pub goes_return : {P : Aut → A → Type 0} {σ : Aut} (a : A) → WfAut N L σ → P σ a → StepSpec N L P σ (given σ a)
  goes_return {σ = σ} a g p = comes (record { grown = grown_refl σ; memos = λ i w l m. refl; good = g; holds = p })

  -- what is given
  pub came : {P : Aut → A → Type 0} {σ τ : Aut} {a : A} → StepSpec N L P σ (given τ a) → Gone N L P σ τ a
  came (comes r) = r

  gone_after : {B : Type 0} {P : Aut → A → Type 0} {Q : Aut → B → Type 0} {σ τ : Aut} {a : A} {o : Outcome Aut B} → Gone N L P σ τ a → StepSpec N L Q τ o → StepSpec N L Q σ o
  gone_after r (stops w g y) = stops (grown_trans r.grown w) g y
  gone_after r (comes s) = comes (record { grown = grown_trans r.grown s.grown; memos = λ i w l m. s.memos i w l m ∙ r.memos i w l m; good = s.good; holds = s.holds })

  pub goes_bind : {B : Type 0} {P : Aut → A → Type 0} {Q : Aut → B → Type 0} {σ : Aut} {o : Outcome Aut A} {k : A → Step Aut B} → StepSpec N L P σ o
      → ((τ : Aut) (a : A) → ExtAut σ τ → WfAut N L τ → P τ a → StepSpec N L Q τ (k a τ)) → StepSpec N L Q σ (after o k)
  goes_bind (stops w g y) f = stops w g y
  goes_bind (comes {τ} {a} r) f = gone_after r (f τ a r.grown r.good r.holds)

  pub goes_map : {P Q : Aut → A → Type 0} {σ : Aut} {o : Outcome Aut A} → StepSpec N L P σ o
      → ((τ : Aut) (a : A) → ExtAut σ τ → WfAut N L τ → P τ a → Q τ a) → StepSpec N L Q σ o
  goes_map (stops w g y) f = stops w g y
  goes_map (comes {τ} {a} s) f = comes (record { grown = s.grown; memos = s.memos; good = s.good; holds = f τ a s.grown s.good s.holds })

-- relation nodes alone
pub good_nodes : {N : ℕ} {L : Limits} {σ : Aut} {t : Table} → WfAut N L σ → Ext σ.nodes t → Wf N t → WfAut N L (aut t σ.states σ.members)
good_nodes {N} {σ = σ} {t} g e w = record {
  nodes = w;
  fits = g.fits;
  small = g.small;
  fresh = g.fresh;
  members_fit = g.members_fit;
  members_small = g.members_small;
  ok = λ x l. ok_grown {τ = aut t σ.states σ.members} (grown_nodes {σ = σ} e) (form (kind σ x)) x l (g.ok x l);
  shallow = g.shallow;
  short = g.short;
  unions = g.unions;
  intersects = g.intersects;
  made = g.made;
  packed = λ x l a b. packed_kept (grown_nodes {σ = σ} e) g x l a b;
  counted = g.counted ∙ sym (before_grown (grown_nodes {σ = σ} e) (states σ) (omega arith));
  once = g.once;
}

-- zeroed tables beside a relation store that is well formed
pub good_begun : {N : ℕ} {L : Limits} {r : Table} (s m : List ℕ) → Wf N r → ((j : ℕ) → get_or s j 0 ≡ 0) → WfAut N L (aut r (table s 0) (table m 0))
unfolding members_before
good_begun s m w z = record {
  nodes = w;
  fits = omega arith;
  small = omega arith;
  fresh = λ j l. z j;
  members_fit = omega arith;
  members_small = omega arith;
  ok = λ x l. absurd (omega arith);
  shallow = λ x l. absurd (omega arith);
  short = λ x l. absurd (omega arith);
  unions = λ x l. absurd (omega arith);
  intersects = λ x l. absurd (omega arith);
  made = λ x l. absurd (omega arith);
  packed = λ x l. absurd (omega arith);
  counted = refl;
  once = λ x y l m. absurd (omega arith);
}

-- what a step made new has nothing worked out
pub unworked : {N : ℕ} {L : Limits} {A : Type 0} {P : Aut → A → Type 0} {σ τ : Aut} {a : A} → WfAut N L σ → Gone N L P σ τ a
    → (x w : ℕ) → states σ ≤ x → 4 ≤ w → w < 12 → get_or τ.states.words (12 * x + w) 0 ≡ 0
unworked g r x w l a b = r.memos x w a b ∙ g.fresh (12 * x + w) (omega arith)

-- ---- a new state

-- what holds of the first n numbers and of n holds of the first n + 1
one_more : {n : ℕ} (P : ℕ → Type 0) → ((z : ℕ) → z < n → P z) → P n → (z : ℕ) → z < n + 1 → P z
one_more {n} P f p z l = by_test (leb n z) (λ t. subst P {x = n} {y = z} (omega (arith, leb-true n z t)) p) (λ t. f z (leb-false n z t))

module _ {N : ℕ} {L : Limits} {σ : Aut} (g : WfAut N L σ) (k x y e : ℕ) (m' : Table) (gm : ExtM σ.members m') (room : 12 * states σ + 11 < length σ.states.words) where
  abbrev pub plus : Aut
  plus = aut σ.nodes (table (put4 σ.states.words (states σ) k x y e) (states σ + 1)) m'

  abbrev n : ℕ
  n = states σ

  pub grown_plus : ExtAut σ plus
  grown_plus = record {
    nodes = ext_refl σ.nodes;
    states = record {
      more = omega arith;
      len = put4_length σ.states.words n k x y e;
      keep = λ i w l m. put4_other σ.states.words n k x y e (12 * i + w) (λ q. omega arith) (λ q. omega arith) (λ q. omega arith) (λ q. omega arith);
      beyond = λ j l. put4_other σ.states.words n k x y e j (λ q. omega arith) (λ q. omega arith) (λ q. omega arith) (λ q. omega arith);
    };
    members = gm;
  }

  pub memos_plus : Memos σ plus
  memos_plus i w l m = put4_other σ.states.words n k x y e (12 * i + w) (λ q. omega arith) (λ q. omega arith) (λ q. omega arith) (λ q. omega arith)

  pub kind_plus : kind plus n ≡ k
  kind_plus = put4_kind σ.states.words n k x y e room

  pub first_plus : first plus n ≡ x
  first_plus = put4_op1 σ.states.words n k x y e room

  pub second_plus : second plus n ≡ y
  second_plus = put4_op2 σ.states.words n k x y e room

  pub nesting_plus : nesting plus n ≡ e
  nesting_plus = put4_nest σ.states.words n k x y e room

  -- what has to hold of the new state
  pub record New : Type 0 where
    pub cap : n < state_cap
    pub members_fit : m'.count ≤ length m'.words
    pub members_small : m'.count ≤ member_cap
    pub ok : Ok (form {N = N} k) plus n
    pub shallow : e ≤ L.nesting
    pub short : UNION ≤ k → k ≤ INTERSECT → y ≤ L.list
    pub united : k ≡ UNION → United (members plus n)
    pub meeting : k ≡ INTERSECT → Meeting plus.states.words (members plus n)
    pub made : MadeOf N plus.states.words k x y (members plus n)
    pub packed : UNION ≤ k → k ≤ INTERSECT → x ≡ σ.members.count
    pub counted : m'.count ≡ σ.members.count + length_as k y
    pub new : (z : ℕ) → z < n → kind σ z ≡ k → operands_by (form {N = N} k) σ.states.words σ.members.words z ≡ operands_by (form {N = N} k) plus.states.words m'.words n → ⊥

  operands_old : (z : ℕ) → z < n → operands N plus z ≡ operands N σ z
  operands_old z l =
      ap (λ (j : ℕ). operands_by (form {N = N} j) plus.states.words m'.words z) (kind_grown grown_plus z l) ∙ operands_grown grown_plus (form (kind σ z)) z l (g.ok z l)

  -- an old state and the new one
  apart : New → (z : ℕ) → z < n → kind plus z ≡ kind plus n → operands N plus z ≡ operands N plus n → ⊥
  apart v z l a b =
      let s : kind σ z ≡ k = sym (kind_grown grown_plus z l) ∙ a ∙ kind_plus in
      v.new z l s
      (ap (λ (j : ℕ). operands_by (form {N = N} j) σ.states.words σ.members.words z) (sym s) ∙ sym (operands_old z l) ∙ b
      ∙ ap (λ (j : ℕ). operands_by (form {N = N} j) plus.states.words m'.words n) kind_plus)

  members_before_lem : σ.members.count ≡ members_before plus n
  members_before_lem = g.counted ∙ sym (before_grown grown_plus n (omega arith))

  pub good_plus : New → WfAut N L plus
  unfolding form members_before
  good_plus v = record {
    nodes = g.nodes;
    fits = omega (arith, put4_length σ.states.words n k x y e);
    small = omega (arith, v.cap);
    fresh = λ j l. grown_plus.states.beyond j l ∙ g.fresh j (omega arith);
    members_fit = v.members_fit;
    members_small = v.members_small;
    ok = one_more (λ z. Ok (form {N = N} (kind plus z)) plus z)
        (λ z l. subst (λ (j : ℕ). Ok (form {N = N} j) plus z) (sym (kind_grown grown_plus z l)) (ok_grown grown_plus (form (kind σ z)) z l (g.ok z l)))
        (subst (λ (j : ℕ). Ok (form {N = N} j) plus n) (sym kind_plus) v.ok);
    shallow = one_more (λ z. nesting plus z ≤ L.nesting)
        (λ z l. omega (arith, g.shallow z l, nesting_grown grown_plus z l))
        (omega (arith, nesting_plus, v.shallow));
    short = one_more (λ z. UNION ≤ kind plus z → kind plus z ≤ INTERSECT → second plus z ≤ L.list)
        (λ z l p q. omega (arith, second_grown grown_plus z l, g.short z l (omega (arith, kind_grown grown_plus z l)) (omega (arith, kind_grown grown_plus z l))))
        (λ p q. omega (arith, second_plus, v.short (omega (arith, kind_plus)) (omega (arith, kind_plus))));
    unions = one_more (λ z. kind plus z ≡ UNION → United (members plus z))
        (λ z l q. let s : kind σ z ≡ UNION = sym (kind_grown grown_plus z l) ∙ q in
        subst United (sym (members_grown grown_plus z l (ok_as g UNION l s).inside)) (g.unions z l s))
        (λ q. v.united (sym kind_plus ∙ q));
    intersects = one_more (λ z. kind plus z ≡ INTERSECT → Meeting plus.states.words (members plus z))
        (λ z l q. let s : kind σ z ≡ INTERSECT = sym (kind_grown grown_plus z l) ∙ q in
        let o = ok_as g INTERSECT l s in
        subst (Meeting plus.states.words) (sym (members_grown grown_plus z l o.inside))
        (meeting_grown grown_plus (members σ z) (all_map (members σ z) (λ u m. omega arith) o.earlier) (g.intersects z l s)))
        (λ q. v.meeting (sym kind_plus ∙ q));
    made = one_more (Made N plus) (made_kept grown_plus g) (made_at kind_plus first_plus second_plus v.made);
    packed = one_more (λ z. UNION ≤ kind plus z → kind plus z ≤ INTERSECT → first plus z ≡ members_before plus z)
        (packed_kept grown_plus g)
        (λ p q. first_plus ∙ v.packed (omega (arith, kind_plus)) (omega (arith, kind_plus)) ∙ members_before_lem);
    counted =
        v.counted ∙ ap₂ (λ (a b : ℕ). a + b) members_before_lem (ap₂ length_as (sym kind_plus) (sym second_plus))
        ∙ ap (members_before plus) {x = suc n} {y = n + 1} (omega arith);
    once = λ z u a b. one_more (λ z. kind plus z ≡ kind plus u → operands N plus z ≡ operands N plus u → z ≡ u) (λ z l. old z l u b) (new u b) z a;
  }
    where
      old : (z : ℕ) → z < n → (u : ℕ) → u < n + 1 → kind plus z ≡ kind plus u → operands N plus z ≡ operands N plus u → z ≡ u
      old z l u b = one_more (λ u. kind plus z ≡ kind plus u → operands N plus z ≡ operands N plus u → z ≡ u)
          (λ u m p q. g.once z u l m (sym (kind_grown grown_plus z l) ∙ p ∙ kind_grown grown_plus u m) (sym (operands_old z l) ∙ q ∙ operands_old u m))
          (λ p q. absurd (apart v z l p q)) u b

      new : (u : ℕ) → u < n + 1 → kind plus n ≡ kind plus u → operands N plus n ≡ operands N plus u → n ≡ u
      new u b = one_more (λ u. kind plus n ≡ kind plus u → operands N plus n ≡ operands N plus u → n ≡ u) (λ u m p q. absurd (apart v u m (sym p) (sym q))) (λ p q. refl) u b

-- ---- following a step's code

module _ {N : ℕ} {L : Limits} {A : Type 0} {Q : Aut → A → Type 0} where
  -- a test
  pub choose : {σ : Aut} (b : Bool) {o p : Outcome Aut A} → (b ≡ true → StepSpec N L Q σ o) → (b ≡ false → StepSpec N L Q σ p) → StepSpec N L Q σ (if b then o else p)
  choose true f g = f refl
  choose false f g = g refl

  -- a test between steps
  pub branch : {σ : Aut} (b : Bool) (m k : Step Aut A) → (b ≡ true → StepSpec N L Q σ (m σ)) → (b ≡ false → StepSpec N L Q σ (k σ)) → StepSpec N L Q σ ((if b then m else k) σ)
  branch true m k f g = f refl
  branch false m k f g = g refl

  -- the same within a step on some of the tables
  pub choose_in : {S : Type 0} (put : S → Aut → Aut) (σ : Aut) (b : Bool) (o p : Outcome S A)
      → (b ≡ true → StepSpec N L Q σ (placed put σ o)) → (b ≡ false → StepSpec N L Q σ (placed put σ p)) → StepSpec N L Q σ (placed put σ (if b then o else p))
  choose_in put σ true o p f g = f refl
  choose_in put σ false o p f g = g refl

  pub branch_in : {S : Type 0} (put : S → Aut → Aut) (σ : Aut) (b : Bool) (m k : Step S A) (s : S)
      → (b ≡ true → StepSpec N L Q σ (placed put σ (m s))) → (b ≡ false → StepSpec N L Q σ (placed put σ (k s))) → StepSpec N L Q σ (placed put σ ((if b then m else k) s))
  branch_in put σ true m k s f g = f refl
  branch_in put σ false m k s f g = g refl

-- steps on relation nodes, one after the other
pub nodes_after : {N : ℕ} {L : Limits} {A B : Type 0} {Q : Aut → B → Type 0} (σ : Aut) (o : Outcome Table A) (k : A → Step Table B)
    → StepSpec N L Q σ (after (placed put_nodes σ o) (λ a. on_nodes (k a))) → StepSpec N L Q σ (placed put_nodes σ (after o k))
nodes_after σ (refused e) k r = r
nodes_after {N} {L} {B = B} {Q = Q} σ (given t a) k r = subst (StepSpec N L Q σ) (again (k a t)) r
  where
    again : (o : Outcome Table B) → placed put_nodes (put_nodes t σ) o ≡ placed put_nodes σ o
    again (refused e) = refl
    again (given u b) = refl

-- a step on some of the tables, and then a value made of its answer
pub placed_map : {N : ℕ} {L : Limits} {S A B : Type 0} {P : Aut → A → Type 0} {Q : Aut → B → Type 0} (put : S → Aut → Aut) (σ : Aut) (o : Outcome S A) (f : A → B)
    → StepSpec N L P σ (placed put σ o) → ((τ : Aut) (a : A) → ExtAut σ τ → WfAut N L τ → P τ a → Q τ (f a)) → StepSpec N L Q σ (placed put σ (after o (λ a. return (f a))))
placed_map put σ (refused e) f r h = goes_bind {k = λ a. return (f a)} r (λ τ a w g p. goes_return (f a) g (h τ a w g p))
placed_map put σ (given s a) f r h = goes_bind {k = λ a. return (f a)} r (λ τ a w g p. goes_return (f a) g (h τ a w g p))
