-- What holds of the definitions of specs/Extends.
use mathlib.Core.Path.{◌≡◌, refl, sym, ◌∙◌, ap, ap₂, subst}
use mathlib.Core.Bool.{true}
use mathlib.Core.List.{List, [], ◌∷◌}
use mathlib.Core.Logic.{inl, inr}
use Prim.Native.Nat.{ℕ, zero, suc, ◌+◌, ◌*◌, ◌-◌, ◌/◌, ◌≤◌, ◌<◌}
use native.Mathlib.Omega.{arith}
use lib.Dec.{eqb, leb}
use lib.ListN.{length, get_or, set, length-set}
use lib.Seq.{sets, length-sets, get_or-set_same, get_or-set_other}
use borrow.Author.Tests.{eqb-true, eqb-false, leb-true, leb-false}
use Rattle.common.specs.Runs.{Table}
use Rattle.netkat.specs.Strings.{str}
use Rattle.netkat_steps.specs.ListSteps.{Edge, edge, IsList}
use Rattle.netkat_steps.proofs.ListSteps.{list_later, list_same}
use Rattle.spp_steps.proofs.Laws.{by_test}
use Rattle.aut_steps.specs.Tables.{Limits, Aut}
use Rattle.aut_steps.proofs.Facts.{and_true, sets_below, sets_above}
use Rattle.aut_steps.proofs.Languages.{≈-sym}
use Rattle.aut_steps.specs.Wf.{states, ExtAut, WfAut}
use Rattle.aut_steps.proofs.Wf.{grown_refl, grown_trans}
use Rattle.aut_steps.specs.Meaning.{Holds}
use Rattle.aut_steps.proofs.Meaning.{holds_grown}
use Rattle.aut_delta_steps.specs.Epsilon.{epsilon_of}
use Rattle.aut_st_steps.specs.Edges.{edges, flat}
use Rattle.aut_delta_steps.specs.Delta.{start_of, count_of, Store, store, transition_cap, room_t, next_start, append, list_at}
use Rattle.aut_delta_steps.specs.Fits.{tables, Since}
use Rattle.aut_delta_steps.specs.Noted.{Noted}
use Rattle.aut_delta_steps.proofs.Noted.{noted_grown, written, written_other, written_here, written_count, written_length, written_grown, written_good}
use Rattle.aut_delta_steps.specs.Wf.{ExtT, Held, InList, Laid, WfStore, Stored, SameWords}
use Rattle.aut_delta_steps.proofs.Wf.{epsilons_grown, later_grown, extt_refl, extt_trans, lists_grown, same_list}
use Rattle.aut_delta_steps.specs.Extends.{ExtStore}

-- ---- the words of a list

pub flat_length : (es : List Edge) → length (flat es) ≡ 2 * length es
unfolding flat
flat_length [] = refl
flat_length (e ∷ es) = omega (arith, flat_length es)

pub edges_length : (t : List ℕ) (a k : ℕ) → length (edges t a k) ≡ k
unfolding edges
edges_length t a zero = refl
edges_length t a (suc k) = ap suc (edges_length t (a + 1) k)

-- what is stored is read
pub edges_sets : (es : List Edge) (s : List ℕ) (a : ℕ) → 2 * a + 2 * length es ≤ length s → edges (sets s (2 * a) (flat es)) a (length es) ≡ es
unfolding edges flat
edges_sets [] s a l = refl
edges_sets (e ∷ es) s a l =
    let s1 : List ℕ = set s (2 * a) e.target in
    let s2 : List ℕ = set s1 (suc (2 * a)) e.label in
    ap₂ (λ (x : ℕ) (r : List Edge). edge x (get_or (sets s2 (suc (suc (2 * a))) (flat es)) (2 * a + 1) 0) ∷ r)
    (sets_below (flat es) s2 (suc (suc (2 * a))) (2 * a) (omega arith) ∙ get_or-set_other s1 (suc (2 * a)) (2 * a) e.label 0 (λ q. omega arith) ∙ get_or-set_same s (2 * a) e.target 0 (omega arith))
    (ap (λ (j : ℕ). edges (sets s2 j (flat es)) (a + 1) (length es)) {x = suc (suc (2 * a))} {y = 2 * (a + 1)} (omega arith)
    ∙ edges_sets es s2 (a + 1) (simp length-set (omega arith)))
    ∙ ap (λ (y : ℕ). edge e.target y ∷ es)
    (sets_below (flat es) s2 (suc (suc (2 * a))) (2 * a + 1) (omega arith)
    ∙ ap (λ (j : ℕ). get_or s2 j 0) {x = 2 * a + 1} {y = suc (2 * a)} (omega arith)
    ∙ get_or-set_same s1 (suc (2 * a)) e.label 0 (simp length-set (omega arith)))

pub room_transitions : (t : Table) (k : ℕ) → room_t t k ≡ true → (2 * (t.count + k) ≤ length t.words) × (t.count + k ≤ transition_cap)
unfolding room_t
room_transitions t k e =
    let (p, q) = and_true (leb (t.count + k) (length t.words / 2)) (leb (t.count + k) transition_cap) e in
    let l : t.count + k ≤ length t.words / 2 = leb-true (t.count + k) (length t.words / 2) p in
    (omega arith, leb-true (t.count + k) transition_cap q)

pub append_ext : (es : List Edge) (t : Table) → ExtT t (append es t)
unfolding append
append_ext es t = record {
  more = omega arith;
  len = length-sets t.words (2 * t.count) (flat es);
  keep = λ j l. sets_below (flat es) t.words (2 * t.count) j l;
  beyond = λ j l. sets_above (flat es) t.words (2 * t.count) j (omega (arith, flat_length es));
}

pub went_refl : (σ : Store) → ExtStore σ σ
went_refl σ = record { grown = grown_refl σ.aut; epsilons = λ i l. refl; lists = λ i l. (refl, refl); others = λ i w l m. refl; transitions = extt_refl σ.transitions }

pub went_trans : {σ τ υ : Store} → ExtStore σ τ → ExtStore τ υ → ExtStore σ υ
went_trans p q = record {
  grown = grown_trans p.grown q.grown;
  epsilons = λ i l. q.epsilons i (omega (arith, p.epsilons i l)) ∙ p.epsilons i l;
  lists = λ i l.
      let (a, b) = p.lists i l in
      let (c, d) = q.lists i (omega arith) in
      (c ∙ a, d ∙ b);
  others = λ i w l m. q.others i w l m ∙ p.others i w l m;
  transitions = extt_trans p.transitions q.transitions;
}

-- A step that works nothing out, and one that works out epsilons: no list is stored,
pub same_since : {N : ℕ} {L : Limits} (σ : Store) {a : Aut} → Since N L σ.aut a → (i : ℕ) → SameWords σ (store a σ.transitions) i
unfolding count_of start_of
same_since σ s i = (s.memos i 6 (omega arith) (omega arith), s.memos i 5 (omega arith) (omega arith))

pub same_noted : (σ : Store) {a : Aut} → Noted σ.aut a → (i : ℕ) → SameWords σ (store a σ.transitions) i
unfolding count_of start_of
same_noted σ n i = (n.words i 6 (omega arith) (λ q. omega arith), n.words i 5 (omega arith) (λ q. omega arith))

-- .. and what was worked out is as it was.
pub went_since : {N : ℕ} {L : Limits} {σ : Store} {a : Aut} → Since N L σ.aut a → ExtStore σ (store a σ.transitions)
unfolding epsilon_of
went_since {σ = σ} s = record {
  grown = s.grown;
  epsilons = λ i l. s.memos i 4 (omega arith) (omega arith);
  lists = λ i l. same_since σ s i;
  others = λ i w l m. s.memos i w (omega arith) m;
  transitions = extt_refl σ.transitions;
}

pub went_noted : {σ : Store} {a : Aut} → Noted σ.aut a → ExtStore σ (store a σ.transitions)
went_noted {σ} n = record {
  grown = noted_grown n;
  epsilons = n.kept;
  lists = λ i l. same_noted σ n i;
  others = λ i w l m. n.words i w m (λ q. omega arith);
  transitions = extt_refl σ.transitions;
}

-- no list of x or of a later state is stored
pub record Before (x : ℕ) (σ τ : Store) : Type 0 where
  pub same : (i : ℕ) → x ≤ i → SameWords σ τ i

pub before_refl : (x : ℕ) (σ : Store) → Before x σ σ
before_refl x σ = record { same = λ i l. (refl, refl) }

pub before_trans : {x : ℕ} {σ τ υ : Store} → Before x σ τ → Before x τ υ → Before x σ υ
before_trans p q = record {
  same = λ i l.
      let (a, b) = p.same i l in
      let (c, d) = q.same i l in
      (c ∙ a, d ∙ b);
}

-- a stored list stays
pub stored_went : {N : ℕ} {L : Limits} {σ τ : Store} → WfStore N L σ → ExtStore σ τ → {x : ℕ} {es : List Edge} → x < states σ.aut → Stored σ x es → Stored τ x es
stored_went {τ = τ} W w {x} l s = record {
  marked = omega (arith, (w.lists x s.marked).0, s.marked);
  reads = same_list τ W.lists w.transitions x l s.marked (w.lists x s.marked) ∙ s.reads;
}

-- .. and word 6 is its length + 1
pub stored_count : {σ : Store} {x : ℕ} {es : List Edge} → Stored σ x es → count_of σ.aut.states.words x ≡ length es + 1
unfolding list_at
stored_count {σ} {x} s =
    omega (arith, s.marked, ap length s.reads, edges_length σ.transitions.words (start_of σ.aut.states.words x) (count_of σ.aut.states.words x - 1))

-- ---- storing a list

module _ {N : ℕ} {L : Limits} {τ : Store} (W : WfStore N L τ) {x : ℕ} (l : x < states τ.aut) (es : List Edge) (room : room_t τ.transitions (length es) ≡ true) where
  abbrev n : ℕ
  n = τ.transitions.count

  abbrev from : ℕ
  from = next_start τ.transitions

  abbrev a5 : Aut
  a5 = written τ.aut x 5 from

  abbrev a6 : Aut
  a6 = written a5 x 6 (length es + 1)

  -- the tables with the list
  abbrev pub keeping : Store
  keeping = store a6 (append es τ.transitions)

  l5 : x < states a5
  l5 = omega (arith, written_count τ.aut x 5 from)

  pub keeping_grown : ExtAut τ.aut a6
  keeping_grown = grown_trans (written_grown τ.aut x 5 from l (omega arith) (omega arith)) (written_grown a5 x 6 (length es + 1) l5 (omega arith) (omega arith))

  keeping_good : WfAut N L a6
  keeping_good = written_good a5 x 6 (length es + 1) l5 (omega arith) (omega arith) (written_good τ.aut x 5 from l (omega arith) (omega arith) W.good)

  -- only words 5 and 6 of x are written
  keeping_other : (i w : ℕ) → w < 12 → ((w ≡ 5) → i ≡ x → ⊥) → ((w ≡ 6) → i ≡ x → ⊥) → get_or a6.states.words (12 * i + w) 0 ≡ get_or τ.aut.states.words (12 * i + w) 0
  keeping_other i w m p q =
      written_other a5 x 6 (length es + 1) (12 * i + w) (λ e. q (omega arith) (omega arith)) ∙ written_other τ.aut x 5 from (12 * i + w) (λ e. p (omega arith) (omega arith))

  count_kept : count_of a6.states.words x ≡ length es + 1
  unfolding count_of
  count_kept = written_here a5 x 6 (length es + 1) (omega (arith, written_length τ.aut x 5 from, W.good.fits))

  start_kept : start_of a6.states.words x ≡ from
  unfolding start_of
  start_kept = written_other a5 x 6 (length es + 1) (12 * x + 5) (λ e. omega arith) ∙ written_here τ.aut x 5 from (omega (arith, W.good.fits))

  other_list : (y : ℕ) → (y ≡ x → ⊥) → SameWords τ keeping y
  unfolding count_of start_of
  other_list y k = (keeping_other y 6 (omega arith) (λ q. absurd (omega arith)) (λ q. k), keeping_other y 5 (omega arith) (λ q. k) (λ q. absurd (omega arith)))

  -- x had no list: the new one stands behind all others
  module _ (z : count_of τ.aut.states.words x ≡ 0) where
    same_states : states a6 ≡ states τ.aut
    same_states = written_count a5 x 6 (length es + 1) ∙ written_count τ.aut x 5 from

    -- what is in another list was in it before
    old_in : (y t : ℕ) → (y ≡ x → ⊥) → InList keeping y t → InList τ y t
    old_in y t k m = let (c, s) = other_list y k in (omega (arith, m.0), omega (arith, m.1))

    -- the other lists end before it
    ends : (y : ℕ) → y < states a6 → 0 < count_of τ.aut.states.words y → start_of τ.aut.states.words y + count_of τ.aut.states.words y ≤ n + 1
    ends y l c = omega (arith, (W.lists.held y (omega (arith, same_states))).inside (count_of τ.aut.states.words y - 1) (omega arith))

    -- so a transition of x is behind those that were in use, and one of another list is not
    behind : {y t : ℕ} → y ≡ x → InList keeping y t → n ≤ t
    behind e m = omega (arith, m.0, ap (start_of a6.states.words) e, start_kept)

    before : (y t : ℕ) → y < states a6 → (y ≡ x → ⊥) → InList keeping y t → t < n
    before y t l k m = let (a, b) = old_in y t k m in omega (arith, ends y l (omega arith))

    keeping_laid : Laid keeping
    unfolding append
    keeping_laid = record {
      owned = λ t m. by_test (leb n t)
          (λ b. record { state = x; known = omega (arith, same_states); has = (omega (arith, start_kept, leb-true n t b), omega (arith, start_kept, count_kept)) })
          (λ b. let o = W.lists.laid.owned t (leb-false n t b) in
          let (a, c) = o.has in
          let (p, q) = other_list o.state (λ e. omega (arith, ap (count_of τ.aut.states.words) e)) in
          record { state = o.state; known = omega (arith, o.known, same_states); has = (omega arith, omega arith) });
      apart = λ y u t k l a b. by_test (eqb y x)
          (λ p. by_test (eqb u x)
          (λ q. eqb-true y x p ∙ sym (eqb-true u x q))
          (λ q. absurd (omega (arith, behind (eqb-true y x p) a, before u t l (eqb-false u x q) b))))
          (λ p. by_test (eqb u x)
          (λ q. absurd (omega (arith, behind (eqb-true u x q) b, before y t k (eqb-false y x p) a)))
          (λ q. W.lists.laid.apart y u t (omega (arith, same_states)) (omega (arith, same_states)) (old_in y t (eqb-false y x p) a) (old_in u t (eqb-false u x q) b)));
      border = λ y u k l c m. by_test (eqb y x)
          (λ p. let s = ap (start_of a6.states.words) (eqb-true y x p) in
          by_test (eqb u x)
          (λ q. s ∙ sym (ap (start_of a6.states.words) (eqb-true u x q)))
          (λ q. absurd (omega (arith, start_kept, before u (start_of a6.states.words y) l (eqb-false u x q) m))))
          (λ p. let (e, f) = other_list y (eqb-false y x p) in
          by_test (eqb u x)
          (λ q. omega (arith, start_kept, ap (start_of a6.states.words) (eqb-true u x q), behind (eqb-true u x q) m, ends y k (omega arith)))
          (λ q. let (g, h) = other_list u (eqb-false u x q) in
          let (a, b) = old_in u (start_of a6.states.words y) (eqb-false u x q) m in
          omega (arith, W.lists.laid.border y u (omega (arith, same_states)) (omega (arith, same_states)) (omega arith) (omega arith, omega arith))));
      blank = λ y l c. by_test (eqb y x)
          (λ p. absurd (omega (arith, count_kept, ap (count_of a6.states.words) (eqb-true y x p))))
          (λ p. let (e, f) = other_list y (eqb-false y x p) in f ∙ W.lists.laid.blank y (omega (arith, same_states)) (sym e ∙ c));
    }

  list_kept : list_at keeping x ≡ es
  unfolding list_at append
  list_kept =
      ap₂ (edges (sets τ.transitions.words (2 * n) (flat es))) start_kept (ap (λ (j : ℕ). j - 1) count_kept ∙ omega arith)
      ∙ edges_sets es τ.transitions.words n (omega (arith, (room_transitions τ.transitions (length es) room).0))

  pub keeping_stored : Stored keeping x es
  keeping_stored = record { marked = omega (arith, count_kept); reads = list_kept }

  pub keeping_worked : count_of τ.aut.states.words x ≡ 0 → IsList (tables N L) (Holds N τ.aut x) τ.aut es → length es ≤ L.transitions → WfStore N L keeping
  unfolding append epsilon_of
  keeping_worked z i m = record {
    good = keeping_good;
    epsilons = epsilons_grown W.good keeping_grown (λ y m. keeping_other y 4 (omega arith) (λ q. absurd (omega arith)) (λ q. absurd (omega arith))) W.epsilons;
    lists = lists_grown keeping W.lists (append_ext es τ.transitions) W.good keeping_grown keeping_good
        (omega (arith, (room_transitions τ.transitions (length es) room).0, length-sets τ.transitions.words (2 * n) (flat es)))
        (room_transitions τ.transitions (length es) room).1
        (λ y k. by_test (eqb y x) (λ t. inr (subst (Held N L keeping) (sym (eqb-true y x t)) held)) (λ t. inl (other_list y (eqb-false y x t))))
        (keeping_laid z);
  }
    where
      held : Held N L keeping x
      held = record {
        inside = λ k q. omega (arith, start_kept, count_kept);
        short = omega (arith, count_kept);
        list = λ c. subst (IsList (tables N L) (Holds N a6 x) a6) (sym list_kept)
            (list_same (tables N L) (λ p h hs z. ≈-sym (holds_grown W.good keeping_grown l) (str p (h ∷ hs) z)) (list_later (tables N L) (later_grown W.good keeping_grown keeping_good) i));
      }

  pub keeping_before : {σ : Store} → Before x σ τ → Before (x + 1) σ keeping
  keeping_before b = record {
    same = λ i m.
        let (p, q) = other_list i (λ e. omega arith) in
        let (r, s) = b.same i (omega arith) in
        (p ∙ r, q ∙ s);
  }

  -- from where nothing of x's list was worked out
  pub keeping_went : {σ : Store} → ExtStore σ τ → count_of σ.aut.states.words x ≡ 0 → ExtStore σ keeping
  unfolding epsilon_of
  keeping_went {σ} w z = record {
    grown = grown_trans w.grown keeping_grown;
    epsilons = λ i m. keeping_other i 4 (omega arith) (λ q. absurd (omega arith)) (λ q. absurd (omega arith)) ∙ w.epsilons i m;
    lists = λ i m.
        let (p, q) = other_list i (λ e. apart i m e) in
        let (r, s) = w.lists i m in
        (p ∙ r, q ∙ s);
    others = λ i u m k. keeping_other i u k (λ q. absurd (omega arith)) (λ q. absurd (omega arith)) ∙ w.others i u m k;
    transitions = extt_trans w.transitions (append_ext es τ.transitions);
  }
    where
      apart : (i : ℕ) → 0 < count_of σ.aut.states.words i → i ≡ x → ⊥
      apart i m e = omega (arith, ap (count_of σ.aut.states.words) e)
