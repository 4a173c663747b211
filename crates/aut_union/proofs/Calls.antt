-- What the calls of unions and intersections have in common: answers, a list of states that is written for the next call, the exits of a constructor of two states and of a list, and a list that is interned.
use Rattle.std.specs.Prelude.{if◌then◌else◌, Option, Some, None, Result, Ok, Err}
use Rattle.std.specs.Option.{ok_or}
use mathlib.Core.Path.{◌≡◌, refl, sym, ◌∙◌, ap, ap₂, subst}
use mathlib.Core.Bool.{Bool, true, false}
use mathlib.Core.List.{List, [], ◌∷◌}
use Prim.Native.Nat.{ℕ, suc, ◌+◌, ◌≤◌, ◌<◌}
use native.Mathlib.Omega.{arith}
use lib.Dec.{eqb, ltb}
use lib.ListN.{length, get_or, set, length-set}
use borrow.Author.Tests.{eq-eqb, ne_eqb, lt-ltb, le-ltb}
use Rattle.std.specs.Result.{IsErr, IsErrAnd}
use Rattle.common.specs.Outcome.{Outcome, refused, given, Step}
use Rattle.common.specs.Runs.{Table, placed}
use Rattle.refusal.specs.declared.Refusal.{Refusal}
use Rattle.refusal.specs.Numbers.{number_of, outcome}
use Rattle.refusal.proofs.Passed.{passed}
use Rattle.netkat.specs.Rules.{Rule, Rules, union, intersection}
use Rattle.spp_steps.proofs.Laws.{ext_refl}
use Rattle.aut_steps.specs.Tables.{UNION, INTERSECT, op1, words, Limits, Aut, aut, exprs, put_states, put_exprs}
use Rattle.aut_steps.specs.Kinds as Kinds
use Rattle.aut_steps.specs.Kinds.{Form, form}
use Rattle.aut_steps.specs.Ascending.{All}
use Rattle.aut_steps.proofs.Facts.{words_length, words_sets}
use Rattle.aut_steps.specs.Scratch.{Kept}
use Rattle.aut_steps.proofs.Scratch.{kept_sets}
use Rattle.aut_steps.specs.Wf.{states, WfAut, Ok as Holds}
use Rattle.aut_steps.proofs.Wf.{grown_refl, ok_as}
use Rattle.aut_steps.proofs.StateLaws.{handle, both_spp}
use Rattle.aut_steps.specs.Constructors.{relations, spp_of}
use Rattle.aut_states.specs.declared.Config.{Config}
use Rattle.aut_states.specs.declared.States.{States}
use Rattle.aut_states.specs.Clauses.{limits_of, states_of, seen, ListAsked}
use Rattle.aut_relations.specs.Behind.{LISTS, Modifies}
use Rattle.aut_relations.proofs.Behind.{left_refl, left_any, left_wide, left_trans, left_kept, kept_left}
use Rattle.aut_relations.specs.Clauses.{Ready}
use Rattle.aut_relations.proofs.Order as order
use Rattle.aut_relations.specs.declared.Aut.{Aut as Lent}
use Rattle.aut_relations.specs.Lent.{nodes_in, states_in, members_in, exprs_in, aut_in, Unless, Does, Asked, Relations}
use Rattle.aut_union.specs.Clauses.{ListAt, PairAt}

-- a step, and then a write among the lists
pub left_then : {N a n b m : ℕ} {t : Table} {s s' s'' : List ℕ} → Modifies N a n t s s' → Kept b m s' s'' → length s'' ≡ length s' → a ≤ b → b + m ≤ a + n → a + n ≤ LISTS → Modifies N a n t s s''
left_then {t = t} p k e x y l = left_trans (ext_refl t) p (left_wide (left_kept k e (omega arith)) x y)

-- ---- answers

pub unless : {V S T : Type 0} (r : Result V Refusal) → (S → T) → Unless r S → Unless r T
unless (Ok v) f s = f s
unless (Err e) f s = tt

pub always : {V T : Type 0} (r : Result V Refusal) → T → Unless r T
always (Ok v) t = t
always (Err e) t = tt

module _ {N a n : ℕ} {S V A : Type 0} {view : Lent → S} {see : V → A} {o : Step S A} {x : Lent} where
  -- the value itself
  pub itself : {v : V} → o (view x) ≡ given (view x) (see v) → Does N a n view see o x (Ok v) x
  itself e = record { is = e; left = left_refl a n (nodes_in x) x.scratch.now }

  -- a refusal, and one that `?` hands on
  pub not_done : {y : Lent} (e : Refusal) → o (view x) ≡ refused (number_of e) → Does N a n view see o x (Err e) y
  not_done e q = record { is = q; left = tt }

  pub handed : {y : Lent} {r : Result V Refusal} (e : Refusal) → IsErr r × IsErrAnd r (λ x. x ≡ e) → o (view x) ≡ refused (number_of e) → Does N a n view see o x r y
  handed {y} {r} e p q = subst (λ (r : Result V Refusal). Does N a n view see o x r y) (sym (passed p)) (not_done e q)

-- where there is none, `.ok_or(f)?` hands on f
pub missing : {V W : Type 0} {o : Option V} {f e : Refusal} {r : Result W Refusal} (P : Option V → Result W Refusal → Type 0) → Err e ≡ ok_or o f → IsErr r × IsErrAnd r (λ x. x ≡ e) → P None (Err f) → P o r
missing {o = None} {f} {e} P v p h = subst (P None) (sym (passed p ∙ ap Err (let q : e ≡ f = cc in q))) h
missing {o = Some w} P v p h = let z : ◌≡◌ {A = ℕ} 0 1 = cc in absurd (omega arith)

-- an answer on states alone, and one on states and members, as one on all tables
pub states_is : (x y : Lent) (t : States) (r : Result ℕ Refusal) → aut_in y ≡ aut (nodes_in x) (states_of t) (members_in x) → placed put_states (aut_in x) (seen r (states_of t)) ≡ outcome (λ i. i) r (aut_in y)
states_is x y t (Ok i) e = ap (λ (σ : Aut). given σ i) (sym e)
states_is x y t (Err e) q = refl

pub exprs_is : (σ : Aut) (y : Lent) (r : Result ℕ Refusal) → nodes_in y ≡ σ.nodes → placed put_exprs σ (seen r (exprs_in y)) ≡ outcome (λ i. i) r (aut_in y)
exprs_is σ y (Ok i) n = ap (λ (τ : Table). given (aut τ (states_in y) (members_in y)) i) (sym n)
exprs_is σ y (Err e) n = refl

-- ---- a list for the next call, which writes behind it

-- the k words at a are states; of the words below those 64 from a on were written, and the tables are as they were
pub record Written (a k : ℕ) (x y : Lent) : Type 0 where
  pub kept : Kept a 64 x.scratch.now y.scratch.now
  pub len : length y.scratch.now ≡ length x.scratch.now
  pub few : k ≤ 64
  pub states : All (λ i. i < x.states.count) (words y.scratch.now a k)
  pub tables : aut_in y ≡ aut_in x
  pub fields : y.spp.fields ≡ x.spp.fields

module _ {a k : ℕ} {x y : Lent} (w : Written a k x y) where
  pub written_asked : {c : Config} → Asked c x → a + 64 ≤ LISTS → Asked c y × ListAt y.scratch.now y.states.count a k (a + 64)
  written_asked {c} R h = (
    record {
      fields = w.fields ∙ R.fields;
      ready = subst (λ (σ : Aut). Ready c.fields c.limits σ y.scratch.now) (sym w.tables) (order.ready_after R.ready (grown_refl (aut_in x)) R.ready.good (left_kept w.kept w.len h) w.len);
    },
    record { states = subst (λ (σ : Aut). All (λ i. i < states σ) (words y.scratch.now a k)) (sym w.tables) w.states; apart = omega (arith, w.few) },
  )

  pub written_done : {N n : ℕ} {V A : Type 0} {see : V → A} {whole o : Step Aut A} {z : Lent} {r : Result V Refusal} → a + 64 + n ≤ LISTS → whole (aut_in x) ≡ o (aut_in x) → Does N (a + 64) n aut_in see o y r z
      → Does N a (64 + n) aut_in see whole x r z
  written_done {o = o} {r = r} h e D = record {
    is = e ∙ ap o (sym w.tables) ∙ D.is;
    left = unless r (λ v. kept_left w.kept w.len (omega arith) (omega arith) (omega arith) (left_wide v (omega arith) (omega arith))) D.left;
  }

-- ---- the exits of a constructor of a list

-- too many states are refused, a single one is the answer
abbrev pub ListExits : (ℕ → Limits → List ℕ → Step Aut ℕ) → (ℕ → Limits → List ℕ → Step Aut ℕ) → Type 0
ListExits whole rest =
    (N : ℕ) (L : Limits) (xs : List ℕ) (σ : Aut) → whole N L xs σ ≡ (if ltb L.list (length xs) then refused 6 else if eqb (length xs) 1 then given σ (get_or xs 0 0) else rest N L xs σ)

pub record OfList : Type 0 where
  pub whole : ℕ → Limits → List ℕ → Step Aut ℕ
  pub rest : ℕ → Limits → List ℕ → Step Aut ℕ
  pub is : ListExits whole rest

module _ (O : OfList) (c : Config) (x : Lent) (from k : ℕ) where
  abbrev xs : List ℕ
  xs = words x.scratch.now from k

  abbrev pub whole_n : Step Aut ℕ
  whole_n = O.whole c.fields (limits_of c.limits) xs

  abbrev pub rest_n : Step Aut ℕ
  rest_n = O.rest c.fields (limits_of c.limits) xs

  abbrev ways_n : Bool → Bool → Outcome Aut ℕ
  ways_n a b = if a then refused 6 else if b then given (aut_in x) (get_or xs 0 0) else rest_n (aut_in x)

  is_way_n : (a b : Bool) → ltb c.limits.list k ≡ a → eqb k 1 ≡ b → whole_n (aut_in x) ≡ ways_n a b
  is_way_n a b p q = O.is c.fields (limits_of c.limits) xs (aut_in x) ∙ ap₂ ways_n (ap (ltb c.limits.list) (words_length x.scratch.now from k) ∙ p) (ap (λ (j : ℕ). eqb j 1) (words_length x.scratch.now from k) ∙ q)

  pub too_many : c.limits.list < k → whole_n (aut_in x) ≡ refused 6
  too_many h = is_way_n true (eqb k 1) (lt-ltb c.limits.list k h) refl

  pub single : k ≤ c.limits.list → k ≡ 1 → whole_n (aut_in x) ≡ given (aut_in x) (get_or x.scratch.now from 0)
  unfolding words
  single h e = is_way_n false true (le-ltb c.limits.list k h) (eq-eqb k 1 e) ∙ ap (λ (j : ℕ). given (aut_in x) (get_or (words x.scratch.now from j) 0 0)) e

  pub several : k ≤ c.limits.list → (k ≡ 1 → ⊥) → whole_n (aut_in x) ≡ rest_n (aut_in x)
  several h p = is_way_n false false (le-ltb c.limits.list k h) (ne_eqb k 1 p)

-- ---- a constructor of two states

-- a state with itself is the answer, two relations are one, and else there is a list of two
abbrev pub PairExits : (ℕ → Limits → ℕ → ℕ → Step Aut ℕ) → (ℕ → ℕ → ℕ → Step Table ℕ) → (ℕ → Limits → List ℕ → Step Aut ℕ) → Type 0
PairExits whole relation many =
    (N : ℕ) (L : Limits) (x y : ℕ) (σ : Aut) → whole N L x y σ
    ≡ (if eqb x y then given σ x else if relations σ.states.words x y then spp_of (relation N (op1 σ.states.words x) (op1 σ.states.words y)) σ else many N L (x ∷ y ∷ []) σ)

-- the pair is written at `at`, and the constructor of lists writes n words from 64 behind it on
pub record OfPair : Type 0 where
  pub at : ℕ
  pub n : ℕ
  pub room : at + 64 + n ≤ LISTS
  pub whole : ℕ → Limits → ℕ → ℕ → Step Aut ℕ
  pub relation : ℕ → ℕ → ℕ → Step Table ℕ
  pub many : ℕ → Limits → List ℕ → Step Aut ℕ
  pub is : PairExits whole relation many

module _ {c : Config} {x : Lent} {i j : ℕ} (R : Asked c x) (A : PairAt x.states.count i j) where
  -- both are relations
  pub both_asked : relations x.states.words.now i j ≡ true → Relations c.fields x i j
  both_asked q =
      let e = both_spp R.ready.good i j q in
      record {
        fits = order.fits R.ready.good;
        has_x = A.has_x;
        has_y = A.has_y;
        handles = record { fields = R.fields; backed = order.backed_of R.ready; at_a = handle R.ready.good A.has_x e.0; at_b = handle R.ready.good A.has_y e.1 };
      }

  module _ (O : OfPair) where
    abbrev N : ℕ
    N = c.fields

    abbrev whole_2 : Step Aut ℕ
    whole_2 = O.whole N (limits_of c.limits) i j

    abbrev relation_2 : Step Table ℕ
    relation_2 = O.relation N (op1 x.states.words.now i) (op1 x.states.words.now j)

    abbrev ways : Bool → Bool → Outcome Aut ℕ
    ways a b = if a then given (aut_in x) i else if b then spp_of relation_2 (aut_in x) else O.many N (limits_of c.limits) (i ∷ j ∷ []) (aut_in x)

    is_way : (a b : Bool) → eqb i j ≡ a → relations x.states.words.now i j ≡ b → whole_2 (aut_in x) ≡ ways a b
    is_way a b p q = O.is N (limits_of c.limits) i j (aut_in x) ∙ ap₂ ways p q

    pub same : i ≡ j → Does N O.at (64 + O.n) aut_in (λ i. i) whole_2 x (Ok i) x
    same e = itself (is_way true (relations x.states.words.now i j) (eq-eqb i j e) refl)

    module _ (p : i ≡ j → ⊥) where
      pub both : relations x.states.words.now i j ≡ true → {r : Result ℕ Refusal} {y : Lent} → Does N 0 0 aut_in (λ i. i) (spp_of relation_2) x r y → Does N O.at (64 + O.n) aut_in (λ i. i) whole_2 x r y
      both q {r} D = record { is = is_way false true (ne_eqb i j p) q ∙ D.is; left = unless r (λ v. left_any O.at (64 + O.n) v (omega (arith, O.room))) D.left }

      -- the pair is written
      module _ (y : Lent) (tables : aut_in y ≡ aut_in x) (fields : y.spp.fields ≡ x.spp.fields) (s : y.scratch.now ≡ set (set x.scratch.now O.at i) (suc O.at) j) where
        words_pair : words y.scratch.now O.at 2 ≡ i ∷ j ∷ []
        words_pair = ap (λ (s : List ℕ). words s O.at 2) s ∙ words_sets (i ∷ j ∷ []) x.scratch.now O.at (omega (arith, R.ready.room, O.room))

        written : Written O.at 2 x y
        written = record {
          kept = subst (Kept O.at 64 x.scratch.now) (sym s) (kept_sets (i ∷ j ∷ []) x.scratch.now O.at 64 O.at (omega arith) (omega arith));
          len = ap length s ∙ simp length-set;
          few = omega arith;
          states = subst (All (λ z. z < x.states.count)) (sym words_pair) (A.has_x, (A.has_y, tt));
          tables = tables;
          fields = fields;
        }

        pub pair_asked : Asked c y × ListAt y.scratch.now y.states.count O.at 2 (O.at + 64)
        pair_asked = written_asked written R (omega (arith, O.room))

        pub pair_done : relations x.states.words.now i j ≡ false → {r : Result ℕ Refusal} {z : Lent} → Does N (O.at + 64) O.n aut_in (λ i. i) (O.many N (limits_of c.limits) (words y.scratch.now O.at 2)) y r z
            → Does N O.at (64 + O.n) aut_in (λ i. i) whole_2 x r z
        pair_done q D = written_done written O.room (is_way false false (ne_eqb i j p) q ∙ ap (λ (xs : List ℕ). O.many N (limits_of c.limits) xs (aut_in x)) (sym words_pair)) D

-- ---- a list that is interned

module _ {N : ℕ} {L : Limits} {σ : Aut} (g : WfAut N L σ) {xs : List ℕ} (a : All (λ x. x < states σ) xs) where
  list_asked : (k : ℕ) (m : Rules N → Rule N) → form {N = N} k ≡ Kinds.many m → ListAsked (exprs σ.states σ.members) k xs
  list_asked k m q = record {
    push = record { fits = order.fits g; small = g.members_small };
    lists = λ i l. record { within = λ e. omega (arith, (ok i l e).inside, g.members_fit) };
    has = a;
    earlier = λ i l e. (ok i l e).earlier;
  }
    where
      ok : (i : ℕ) → i < states σ → Rattle.aut_steps.specs.Wf.kind σ i ≡ k → Holds {N = N} (Kinds.many m) σ i
      ok i l e = subst (λ (f : Form N). Holds f σ i) q (ok_as g k l e)

  pub union_asked : ListAsked (exprs σ.states σ.members) UNION xs
  unfolding form
  union_asked = list_asked UNION union refl

  pub intersect_asked : ListAsked (exprs σ.states σ.members) INTERSECT xs
  unfolding form
  intersect_asked = list_asked INTERSECT intersection refl
