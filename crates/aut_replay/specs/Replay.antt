-- 01, "Lent tables": a state, a list or a relation that stands already is returned. So a step that was done, done again on any later tables in order, gives the same and makes nothing; also where words 4 to 11 of
-- states and the transitions are others, and where the limits are larger. Said once as a relation between two runs: the first from σ, the second on all tables later than those that the first has come to.
use Rattle.std.specs.Prelude.{◌≡◌, List, ℕ, ◌+◌, ◌*◌, ◌≤◌, ◌<◌, length, get_or}
use Rattle.common.specs.Outcome.{Outcome, refused, given, Step}
use Rattle.netkat_steps.specs.ListSteps as Lists
use Rattle.netkat_steps.specs.ListSteps.{Edge}
use Rattle.spp_steps.specs.Wf.{Ext}
use Rattle.aut_steps.specs.Relations as Rel
use Rattle.aut_steps.specs.Tables.{SEQUENCE, STAR, Limits, Aut, on_nodes, on_states}
use Rattle.aut_steps.specs.Constructors as Make
use Rattle.aut_steps.specs.Ascending.{All}
use Rattle.aut_steps.specs.StepSpec.{Memos}
use Rattle.aut_steps.specs.Wf.{states, kind, first, second, members, ExtAut, WfAut}
use Rattle.aut_st_steps.specs.Operations.{ops}
use Rattle.aut_st_steps.specs.Edges.{EdgesAt}
use Rattle.aut_st_steps.specs.ListSpec.{ListAt, Label, State}
use Rattle.aut_delta_steps.specs.Epsilon.{epsilon_of, value_of, epsilon}
use Rattle.aut_delta_steps.specs.Delta.{count_of, Store, store, list_at, delta}
use Rattle.aut_delta_steps.specs.Fits.{Since}
use Rattle.aut_delta_steps.specs.Noted.{Noted}
use Rattle.aut_delta_steps.specs.Wf.{Valued, WfStore, Stored}
use Rattle.aut_delta_steps.specs.EpsilonSpec.{Ready}
use Rattle.aut_delta_steps.specs.EpsilonReads.{operands_of, combine_by}
use Rattle.aut_delta_steps.specs.Extends.{ExtStore}
use Rattle.aut_delta_steps.specs.DeltaReads.{list_operands, together_with}

-- ---- later tables

-- υ has the relation nodes, the states (words 0 to 3) and the members of τ. The table of relation nodes is as long (relations are stable so: common's Runs); of words 4 to 11 of states, and of the lengths of the
-- other two tables, nothing is said.
pub record Later (τ υ : Aut) : Type 0 where
  pub nodes : Ext τ.nodes υ.nodes
  pub more : states τ ≤ states υ
  pub words : (x w : ℕ) → x < states τ → w < 4 → get_or υ.states.words (12 * x + w) 0 ≡ get_or τ.states.words (12 * x + w) 0
  pub members : (i : ℕ) → i < τ.members.count → get_or υ.members.words i 0 ≡ get_or τ.members.words i 0

-- limits that are as large or larger
pub record Wider (L L' : Limits) : Type 0 where
  pub nesting : L.nesting ≤ L'.nesting
  pub list : L.list ≤ L'.list
  pub products : L.products ≤ L'.products
  pub transitions : L.transitions ≤ L'.transitions

-- ---- two runs

-- on all tables later than τ that are in order, the step gives a and makes nothing
pub record Again (N : ℕ) (L : Limits) {A : Type 0} (step : Step Aut A) (τ : Aut) (a : A) : Type 0 where
  pub same : (υ : Aut) → Later τ υ → WfAut N L υ → step υ ≡ given υ a

-- o is what the first run has come to from σ: unless it is refused, the tables have grown, with words 4 to 11 of every state as they were, P holds of them and of the value a, and the step gives a again
pub data Replays (N : ℕ) (L : Limits) {A : Type 0} (P : Aut → A → Type 0) (step : Step Aut A) (σ : Aut) : Outcome Aut A → Type 0 where
  stops : {number : ℕ} → Replays N L P step σ (refused number)
  comes : {τ : Aut} {a : A} → ExtAut σ τ → Memos σ τ → P τ a → Again N L step τ a → Replays N L P step σ (given τ a)

-- the tables are in order, and Q holds
abbrev pub In : (N : ℕ) (L : Limits) {A : Type 0} → (Aut → A → Type 0) → Aut → A → Type 0
In N L Q τ a = WfAut N L τ × Q τ a

-- from σ, a step under the limits L is done again under L'; then the tables are in order, and Q holds
abbrev pub DoneAgain : (N : ℕ) (L L' : Limits) {A : Type 0} → (Aut → A → Type 0) → (Limits → Step Aut A) → Aut → Type 0
DoneAgain N L L' Q step σ = Replays N L' (In N L Q) (step L') σ (step L σ)

-- ---- constructors

pub data Call : Type 0 where
  spp : ℕ → Call
  dup : Call
  top : Call
  next : ℕ → Call
  until : ℕ → ℕ → Call
  union : ℕ → ℕ → Call
  union_n : List ℕ → Call
  intersect : ℕ → ℕ → Call
  intersect_n : List ℕ → Call
  intersect_n_base : List ℕ → Call
  xor : ℕ → ℕ → Call
  difference : ℕ → ℕ → Call
  complement : ℕ → Call
  sequence : ℕ → ℕ → Call
  star : ℕ → Call

abbrev pub called : ℕ → Call → Limits → Step Aut ℕ
called N (spp h) L = on_states (Make.mk_spp h)
called N dup L = on_states Make.mk_dup
called N top L = on_states Make.mk_top
called N (next x) L = on_states (Make.mk_next L x)
called N (until x y) L = on_states (Make.mk_until L x y)
called N (union x y) L = Make.mk_union N L x y
called N (union_n xs) L = Make.mk_union_n N L xs
called N (intersect x y) L = Make.mk_intersect N L x y
called N (intersect_n xs) L = Make.mk_intersect_n N L xs
called N (intersect_n_base xs) L = Make.mk_intersect_n_base N L xs
called N (xor x y) L = Make.mk_xor N L x y
called N (difference x y) L = Make.mk_difference N L x y
called N (complement x) L = on_states (Make.mk_complement N L x)
called N (sequence x y) L = Make.mk_sequence N L x y
called N (star x) L = Make.mk_star N L x

-- its operands are states of σ, or a relation
abbrev pub CallAt : ℕ → Aut → Call → Type 0
CallAt N σ (spp h) = Label N σ h
CallAt N σ dup = Unit {0}
CallAt N σ top = Unit {0}
CallAt N σ (next x) = State σ x
CallAt N σ (until x y) = State σ x × State σ y
CallAt N σ (union x y) = State σ x × State σ y
CallAt N σ (union_n xs) = All (State σ) xs
CallAt N σ (intersect x y) = State σ x × State σ y
CallAt N σ (intersect_n xs) = All (State σ) xs
CallAt N σ (intersect_n_base xs) = All (State σ) xs
CallAt N σ (xor x y) = State σ x × State σ y
CallAt N σ (difference x y) = State σ x × State σ y
CallAt N σ (complement x) = State σ x
CallAt N σ (sequence x y) = State σ x × State σ y
CallAt N σ (star x) = State σ x

-- the law of constructors
abbrev pub ConstructorsAgain : Type 0
ConstructorsAgain = (N : ℕ) (L L' : Limits) → Wider L L' → (c : Call) (σ : Aut) → WfAut N L σ → CallAt N σ c → DoneAgain N L L' State (called N c) σ

-- ---- operations on transition lists

pub data ListCall : Type 0 where
  insert : ℕ → ℕ → List Edge → ListCall
  st_singleton : ℕ → ℕ → ListCall
  st_union : List Edge → List Edge → ListCall
  st_intersect : List Edge → List Edge → ListCall
  st_difference : List Edge → List Edge → ListCall
  st_xor : List Edge → List Edge → ListCall
  st_complement : List Edge → ListCall
  st_postcompose : List Edge → ℕ → ListCall
  st_precompose : ℕ → List Edge → ListCall
  st_intersect_expr : List Edge → ℕ → ListCall

abbrev pub listed : ℕ → ListCall → Limits → Step Aut (List Edge)
listed N (insert s l es) L = Lists.insert (ops N L) s l es
listed N (st_singleton l s) L = Lists.st_singleton (ops N L) l s
listed N (st_union ts us) L = Lists.st_union (ops N L) ts us
listed N (st_intersect ts us) L = Lists.st_intersect (ops N L) ts us
listed N (st_difference ts us) L = Lists.st_difference (ops N L) ts us
listed N (st_xor ts us) L = Lists.st_xor (ops N L) ts us
listed N (st_complement ts) L = Lists.st_complement (ops N L) ts
listed N (st_postcompose ts x) L = Lists.st_postcompose (ops N L) ts x
listed N (st_precompose l ts) L = Lists.st_precompose (ops N L) l ts
listed N (st_intersect_expr ts x) L = Lists.st_intersect_expr (ops N L) ts x

-- its operands are lists, states and relations of σ; a list of one transition is within the limit
abbrev pub ListCallAt : ℕ → Limits → Aut → ListCall → Type 0
ListCallAt N L σ (insert s l es) = State σ s × Label N σ l × EdgesAt N σ es
ListCallAt N L σ (st_singleton l s) = State σ s × Label N σ l × (1 ≤ L.transitions)
ListCallAt N L σ (st_union ts us) = EdgesAt N σ ts × EdgesAt N σ us
ListCallAt N L σ (st_intersect ts us) = EdgesAt N σ ts × EdgesAt N σ us
ListCallAt N L σ (st_difference ts us) = EdgesAt N σ ts × EdgesAt N σ us
ListCallAt N L σ (st_xor ts us) = EdgesAt N σ ts × EdgesAt N σ us
ListCallAt N L σ (st_complement ts) = EdgesAt N σ ts
ListCallAt N L σ (st_postcompose ts x) = EdgesAt N σ ts × State σ x
ListCallAt N L σ (st_precompose l ts) = Label N σ l × EdgesAt N σ ts
ListCallAt N L σ (st_intersect_expr ts x) = EdgesAt N σ ts × State σ x

-- the law of list operations
abbrev pub ListsAgain : Type 0
ListsAgain = (N : ℕ) (L L' : Limits) → Wider L L' → (c : ListCall) (σ : Aut) → WfAut N L σ → ListCallAt N L σ c → DoneAgain N L L' (ListAt N L) (listed N c) σ

-- ---- epsilon

-- Tables that are in order may have an epsilon stored, and lack the relation nodes that its steps make in between: then to work it out again would make them. Tables that runs have come to have them: what is stored
-- was worked out there, from what was stored for the operands.

-- what is stored in words 4, or an SPP's handle
abbrev pub values : Aut → ℕ → ℕ
values σ = value_of σ.states.words

-- the epsilon of y is at hand: y is SPP, or it is stored
abbrev pub HasEpsilon : Aut → ℕ → Type 0
HasEpsilon σ y = Valued σ y (values σ y)

-- it is put together from values v of the operands, by what σ has of x
abbrev pub epsilon_from : ℕ → (ℕ → ℕ) → Aut → ℕ → Step Aut ℕ
epsilon_from N v σ x = on_nodes (combine_by N v (kind σ x) (members σ x) (first σ x) (second σ x))

-- the operands' epsilons are at hand, and to put that of x together from them makes nothing, in any later tables, and gives what is stored
pub record EpsilonKept (N : ℕ) (L : Limits) (σ : Aut) (x : ℕ) : Type 0 where
  pub operands : All (λ y. HasEpsilon σ y) (operands_of σ.states.words σ.members.words x)
  pub again : Again N L (epsilon_from N (values σ) σ x) σ (values σ x)

-- so for each that is stored
pub record Settled (N : ℕ) (L : Limits) (σ : Aut) : Type 0 where
  pub epsilons : (x : ℕ) → x < states σ → 0 < epsilon_of σ.states.words x → EpsilonKept N L σ x

-- on υ, epsilon of x gives e and makes nothing: words 4 are written, and nothing else
pub record EpsilonDone (N x : ℕ) (υ : Aut) (e : ℕ) : Type 0 where
  pub last : Aut
  pub gives : epsilon N x υ ≡ given last e
  pub nodes : last.nodes ≡ υ.nodes
  pub noted : Noted υ last

-- the laws of epsilon: tables with no epsilon stored are settled, steps on states and lists leave them so, and epsilon does; and what is at hand in σ is given again in all later tables, whatever is stored there
pub record EpsilonAgain (N : ℕ) (L L' : Limits) : Type 0 where
  pub begins : (σ : Aut) → ((x : ℕ) → x < states σ → epsilon_of σ.states.words x ≡ 0) → Settled N L' σ
  pub grows : (σ : Aut) → Ready N L σ → Settled N L' σ → (τ : Aut) → ExtAut σ τ → Memos σ τ → Settled N L' τ
  pub settles : (σ : Aut) → Ready N L σ → Settled N L' σ → (x : ℕ) → x < states σ → (τ : Aut) (e : ℕ) → epsilon N x σ ≡ given τ e → Settled N L' τ × Valued τ x e
  pub again : (σ : Aut) → Ready N L σ → Settled N L' σ → (x e : ℕ) → x < states σ → Valued σ x e → (υ : Aut) → Later σ υ → Ready N L' υ → Settled N L' υ → EpsilonDone N x υ e

-- ---- delta

-- a list is put together from the operands' lists v and epsilons e, by what σ has of x
abbrev pub list_from : (N : ℕ) (L : Limits) → (ℕ → List Edge) → (ℕ → ℕ) → Aut → ℕ → Step Aut (List Edge)
list_from N L v e σ x = together_with N L v (e (first σ x)) (kind σ x) x (members σ x) (first σ x) (second σ x)

-- the operands' lists are stored; of a Sequence and a Star, the first operand's epsilon is at hand, and its star too; and to put the list of x together from them makes nothing, in any later tables, and gives what is stored
pub record ListKept (N : ℕ) (L : Limits) (σ : Store) (x : ℕ) : Type 0 where
  pub operands : All (λ y. 0 < count_of σ.aut.states.words y) (list_operands σ x)
  pub sequence : kind σ.aut x ≡ SEQUENCE → HasEpsilon σ.aut (first σ.aut x)
  pub star : kind σ.aut x ≡ STAR → HasEpsilon σ.aut (first σ.aut x) × ((h : ℕ) × Again N L (on_nodes (Rel.star N (values σ.aut (first σ.aut x)))) σ.aut h)
  pub again : Again N L (list_from N L (list_at σ) (values σ.aut) σ.aut x) σ.aut (list_at σ x)

-- so for each that is stored
pub record SettledLists (N : ℕ) (L : Limits) (σ : Store) : Type 0 where
  pub settled : Settled N L σ.aut
  pub lists : (x : ℕ) → x < states σ.aut → 0 < count_of σ.aut.states.words x → ListKept N L σ x

-- words 7 to 11 of states are written, and nothing else
pub record Written (σ τ : Store) : Type 0 where
  pub nodes : τ.aut.nodes ≡ σ.aut.nodes
  pub members : τ.aut.members ≡ σ.aut.members
  pub transitions : τ.transitions ≡ σ.transitions
  pub count : states τ.aut ≡ states σ.aut
  pub len : length τ.aut.states.words ≡ length σ.aut.states.words
  pub words : (x w : ℕ) → w < 7 → get_or τ.aut.states.words (12 * x + w) 0 ≡ get_or σ.aut.states.words (12 * x + w) 0
  pub beyond : (j : ℕ) → 12 * states σ.aut ≤ j → get_or τ.aut.states.words j 0 ≡ get_or σ.aut.states.words j 0

-- from υ to τ nothing is made: words 4 to 6 of states are written where nothing was stored, and transitions behind those in use
pub record Unmade (υ τ : Store) : Type 0 where
  pub nodes : τ.aut.nodes ≡ υ.aut.nodes
  pub count : states τ.aut ≡ states υ.aut
  pub members : τ.aut.members ≡ υ.aut.members
  pub went : ExtStore υ τ

-- on υ, delta of x makes nothing, gives es, and es is stored; or no record of transitions is left
pub data DeltaDone (N : ℕ) (L : Limits) (x : ℕ) (υ : Store) (es : List Edge) : Type 0 where
  lacks : delta N L x υ ≡ refused 25 → DeltaDone N L x υ es
  gives : {τ : Store} → delta N L x υ ≡ given τ es → Unmade υ τ → Stored τ x es → DeltaDone N L x υ es

-- the laws of delta, in the same way
pub record DeltaAgain (N : ℕ) (L L' : Limits) : Type 0 where
  pub begins : (σ : Store) → Settled N L' σ.aut → ((x : ℕ) → x < states σ.aut → count_of σ.aut.states.words x ≡ 0) → SettledLists N L' σ
  pub grows : (σ : Store) → WfStore N L σ → SettledLists N L' σ → (α : Aut) → Since N L σ.aut α → SettledLists N L' (store α σ.transitions)
  pub written : (σ : Store) → WfStore N L σ → SettledLists N L' σ → (τ : Store) → Written σ τ → SettledLists N L' τ
  pub notes : (σ : Store) → WfStore N L σ → SettledLists N L' σ → (x : ℕ) → x < states σ.aut → (α : Aut) (e : ℕ) → epsilon N x σ.aut ≡ given α e → SettledLists N L' (store α σ.transitions)
  pub settles : (σ : Store) → WfStore N L σ → SettledLists N L' σ → (x : ℕ) → x < states σ.aut → (τ : Store) (es : List Edge) → delta N L x σ ≡ given τ es → SettledLists N L' τ × Stored τ x es
  pub again : (σ : Store) → WfStore N L σ → SettledLists N L' σ → (x : ℕ) (es : List Edge) → x < states σ.aut → Stored σ x es
      → (υ : Store) → Later σ.aut υ.aut → WfStore N L' υ → SettledLists N L' υ → DeltaDone N L' x υ es
